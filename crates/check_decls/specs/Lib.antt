pub mod Modules
pub mod View
pub mod ViewBodies
