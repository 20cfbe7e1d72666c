pub mod View
pub mod ViewDecls
pub mod ViewReady
pub mod ViewOperands
