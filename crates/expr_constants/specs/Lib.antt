pub mod ViewConstants
pub mod ViewFixed
