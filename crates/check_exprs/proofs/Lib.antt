mod Measuring
mod Stepping
mod Folding
mod Chains
mod Shapes
mod Handing
mod Planned
