pub mod ForCallers
mod Carrying
mod Filling
mod Calling
mod Telling
