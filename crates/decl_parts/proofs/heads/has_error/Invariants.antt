use Rattle.std.proofs.Common.{◌≡◌, drop}
use Rattle.decl_rules.specs.Heads.{has_pragma, is_error}
use Rattle.decl_parts.proofs.heads.has_error.Given as goal

-- the whole is what the rest is
abbrev pub invariant-loop-pragma : goal.invariant-loop-pragma
invariant-loop-pragma l = has_pragma is_error l.fn.pragmas ≡ has_pragma is_error (drop l.pragma-index l.pragmas)
