pub mod ViewStated
pub mod ViewDefinitions
pub mod ViewLoops
pub mod ViewCases
