pub mod Injecting
