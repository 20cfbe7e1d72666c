mod Means
mod Steps
mod Sound
mod Complete
mod RefusalsComplete
mod Once
mod Covering
mod Listed
mod Numbers
mod Numbered
mod Chosen
mod OperationRows
mod Planned
mod Called
mod Covers
mod Agree
pub mod ForCallers
