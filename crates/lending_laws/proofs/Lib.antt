mod Sure
mod Writable
mod Scopes
mod ApartRules
mod ApartExprs
mod ApartStates
mod ApartStmts
mod ApartPrograms
