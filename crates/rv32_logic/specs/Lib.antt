pub mod Placed
pub mod Registers
pub mod Jumps
pub mod Data
