pub mod FormFits
pub mod FormTree
pub mod Mapped
pub mod Operands
pub mod SameTree
