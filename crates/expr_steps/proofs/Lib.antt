mod Asking
mod Branched
mod Demanding
mod Dotted
mod Finishing
mod Judging
mod Within
pub mod ForCallers
