use Rattle.std.proofs.Common.{◌≡◌, drop}
use Rattle.decl_rules.specs.LeftOut.{has_cursor}
use Rattle.check_forms.proofs.parts.has_cursor.Given as goal

-- the whole is what the rest is
abbrev pub invariant-loop-pragma : goal.invariant-loop-pragma
invariant-loop-pragma l = has_cursor l.fn.pragmas ≡ has_cursor (drop l.pragma-index l.pragmas)
