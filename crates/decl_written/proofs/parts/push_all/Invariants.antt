use Rattle.std.proofs.Common.{◌≡◌, ◌++◌, drop}
use Rattle.std.specs.Prelude.{map}
use Rattle.decl_written.proofs.parts.push_all.Given as goal

abbrev pub invariant-loop-name : goal.invariant-loop-name
invariant-loop-name l = l.types ++ map (λ _. l.ty) (drop l._name-index l.declared) ≡ l.fn.types ++ map (λ _. l.ty) l.declared
