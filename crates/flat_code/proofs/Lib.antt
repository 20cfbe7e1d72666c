mod Same
mod LineMaps
mod ByLines
mod ByUnits
mod Standstill
mod KeptForms
mod ShapeDepths
mod ShapeKinds
mod ConstantShapes
mod SortedTables
pub mod ForCallers
mod LineWeights
mod Waiters
