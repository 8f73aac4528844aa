pub mod QntJoin
