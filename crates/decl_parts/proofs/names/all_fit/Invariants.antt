use Rattle.std.proofs.Common.{◌≡◌, drop}
use Rattle.decl_rules.specs.Definitions.{all_fit}
use Rattle.decl_parts.proofs.names.all_fit.Given as goal

-- the whole is what the rest is
abbrev pub invariant-loop-pragma : goal.invariant-loop-pragma
invariant-loop-pragma l = all_fit l.fn.pragmas ≡ all_fit (drop l.pragma-index l.pragmas)
