mod Allowing
mod Arguing
mod Choosing
mod Fields
mod Growing
mod Indexing
mod Knowing
mod Making
mod Naming
mod Operands
mod Overlapping
mod Rows
mod Settling
mod Sizing
mod Within
mod TypeNumbers
pub mod ForCallers
