mod Adding
mod Beyond
mod Making
mod Modes
mod Programs
mod Tree
