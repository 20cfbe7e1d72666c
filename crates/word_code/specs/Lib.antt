pub mod Memory
pub mod Words
pub mod Sizes
pub mod Joined
pub mod Routines
pub mod RoutineTable
pub mod Runtime
pub mod WordExamples
