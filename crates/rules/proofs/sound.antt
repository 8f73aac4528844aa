pub mod QntCnf
pub mod QntJoin
pub mod MiniscopeDistribute
pub mod MiniscopeIte
pub mod MiniscopeSplit
pub mod Sides
pub mod QntRmUnused
