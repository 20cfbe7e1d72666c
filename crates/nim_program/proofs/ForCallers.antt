-- The lemmas that proofs of other crates may cite.

-- ---- expressions that hold lists
pub use Rattle.nim_program.proofs.ExprRows.{applied, called, constructed, chosen, selected}
-- ---- values of constants that hold lists
pub use Rattle.nim_program.proofs.LiteralRows.{parts_of, elements_of}
-- ---- statements that hold lists
pub use Rattle.nim_program.proofs.StmtRows.{decided, selected as selected_statement, repeated, tried, deferred}
-- ---- folds over one tree that are related by their parts
pub use Rattle.nim_program.proofs.FoldRelations.{Relates, related, related_of, related_bodies, Keeps, kept_of}
pub use Rattle.nim_program.proofs.FoldLemmas.{either_way, fresh_same, in_fresh, declares_none, path_declares_none, all_declare_none}
-- ---- sums of conditions and blocks that stand in turn
pub use Rattle.nim_program.proofs.FoldTurns.{sum_of_blocks, in_turn_sum}
