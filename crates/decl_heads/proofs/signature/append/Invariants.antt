use Rattle.std.proofs.Common.{◌≡◌, ◌++◌}
use Rattle.decl_heads.proofs.signature.append.Given as goal

abbrev pub invariant-loop-param : goal.invariant-loop-param
invariant-loop-param l = record { done : l.all ≡ l.fn.all ++ l.yielded }
