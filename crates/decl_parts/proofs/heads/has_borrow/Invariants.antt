use Rattle.std.proofs.Common.{◌≡◌, drop}
use Rattle.decl_rules.specs.Heads.{has_pragma, is_borrow}
use Rattle.decl_parts.proofs.heads.has_borrow.Given as goal

-- the whole is what the rest is
abbrev pub invariant-loop-pragma : goal.invariant-loop-pragma
invariant-loop-pragma l = has_pragma is_borrow l.fn.pragmas ≡ has_pragma is_borrow (drop l.pragma-index l.pragmas)
