mod NeverWrong
mod Chains
mod Cells
mod Areas
mod CopiedWords
mod WordRuns
mod JoinedProcs
mod DataRoom
pub mod ForCallers
