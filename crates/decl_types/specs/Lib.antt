pub mod ViewNodes
pub mod ViewKnown
pub mod ViewMarks
pub mod ViewReading
pub mod ViewPlaces
pub mod ViewScoped
pub mod ViewContained
pub mod ViewSized
