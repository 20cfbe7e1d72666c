mod OneOperand
mod Written
pub mod ForCallers
