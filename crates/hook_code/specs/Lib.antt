pub mod Emission
pub mod HookCode
pub mod Kept
pub mod Promises
pub mod Surroundings
