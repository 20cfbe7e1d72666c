mod ConstantFields
mod ConstantLists
mod ConstantSteps
mod ConstantTypes
mod Fixing
mod LiteralSizes
pub mod ForCallers
