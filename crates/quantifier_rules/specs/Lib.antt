pub mod JoinAlong
pub mod QntJoin
pub mod QntRmUnused
