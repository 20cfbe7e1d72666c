mod Acts
mod Injected
