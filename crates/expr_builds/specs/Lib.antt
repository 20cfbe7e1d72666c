pub mod ViewBuilt
pub mod KeptLabels
pub mod ViewLabels
