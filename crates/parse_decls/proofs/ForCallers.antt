-- What crates above cite of the proofs of this crate.
pub use Rattle.parse_decls.proofs.Settling.{settles_suc, settles_is, settles_got, settles_then, settles_bad, settles_unless, settles_stuck, settles_if}
pub use Rattle.parse_decls.proofs.Settling.{settles_else, settles_one, got_one, got_bad}
pub use Rattle.parse_decls.proofs.Productions.{settles_why, Parses, bad_one}
pub use Rattle.parse_decls.proofs.NameLists.{name, names}
pub use Rattle.parse_decls.proofs.Exprs.{term}
pub use Rattle.parse_decls.proofs.Definitions.{definition, definition_block}
pub use Rattle.parse_decls.proofs.Declarations.{declarations}
pub use Rattle.parse_decls.proofs.Heads.{head}
pub use Rattle.parse_decls.proofs.Spans.{names_takes, declarations_takes, head_takes, Takes, definition_takes, definition_block_takes}
pub use Rattle.parse_decls.proofs.Coming.{told_fails, fails_by, fails_then, fails_stuck, fails_leads, leads_then, leads_unless, comes_leads, leads_suc}
pub use Rattle.parse_decls.proofs.Coming.{leads_on, leads_if, leads_else, found, behind_at}
pub use Rattle.parse_decls.proofs.Repeats.{Loop, loop_on, loop_fails, loop_ends}
pub use Rattle.parse_decls.proofs.Deciding.{names_end, definitions_end, definition_blocks_end, type_declarations_end, heads_end}
pub use Rattle.parse_decls.proofs.Ending.{wider, ends_then, ends_stuck, ends_unless, ends_if, ends_of, ends_expr, behind_within, ends_name}
