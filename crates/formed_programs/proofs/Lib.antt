mod Parts
mod Listed
mod Seen
mod Exprs
mod Stmts
mod Programs
mod Tables
