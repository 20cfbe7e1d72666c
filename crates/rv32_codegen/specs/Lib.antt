pub mod Code
pub mod Stack
pub mod Lowering
pub mod Chains
pub mod Layout
pub mod LineBytes
pub mod Places
