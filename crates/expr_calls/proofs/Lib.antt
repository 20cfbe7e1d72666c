mod Echoing
mod Firsts
mod Operating
pub mod ForCallers
