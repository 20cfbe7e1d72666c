pub mod Answer
pub mod Loads
pub mod Runs
pub mod Report
pub mod Top
pub mod Due
pub mod Stages
