pub mod AnswerArray
