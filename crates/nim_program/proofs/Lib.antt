mod ExprRows
mod StmtRows
mod LiteralRows
mod FoldRelations
mod FoldLemmas
mod FoldTurns
mod TypeNumbers
mod GlobalMarks
mod Ranges
pub mod ForCallers
