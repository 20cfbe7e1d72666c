pub mod Doing
pub mod Examples
pub mod Lifted
pub mod Lifting
pub mod Weights
pub mod Written
