pub mod appearing
