pub mod Elf
pub mod Faults
pub mod Reading
