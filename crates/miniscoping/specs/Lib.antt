pub mod IteAnswer
pub mod LeftFits
pub mod MiniscopeDistribute
pub mod MiniscopeIte
pub mod MiniscopeSplit
pub mod SidesAnswer
