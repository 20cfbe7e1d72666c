pub mod Look
pub mod Outcome
pub mod Run
pub mod Grammar
pub mod Faults
pub mod Claims
pub mod Gives
pub mod Ends
