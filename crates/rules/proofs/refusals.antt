pub mod Cnf
pub mod Ite
pub mod Join
pub mod Miniscope
pub mod Reasons
pub mod Refuses
pub mod RmUnused
