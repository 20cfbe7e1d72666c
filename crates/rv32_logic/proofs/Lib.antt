pub mod ForCallers
mod Fetch
mod Registers
mod Jumps
mod Data
mod Memory
mod Addresses
