mod TextRows
mod StartRows
pub mod ForCallers
