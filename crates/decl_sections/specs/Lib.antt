pub mod ViewSpelled
pub mod ViewBodies
pub mod ViewSections
pub mod ViewWalk
