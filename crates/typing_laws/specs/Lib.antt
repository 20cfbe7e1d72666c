pub mod Sound
pub mod Knows
pub mod Trees
pub mod Programs
pub mod Reached
pub mod Given
