use Rattle.std.proofs.Common.{◌≡◌, drop}
use Rattle.decl_types.proofs.containing.are_same.Given as goal

abbrev pub invariant-loop-x : goal.invariant-loop-x
invariant-loop-x l = record {
  number : l.number ≡ l.x-index;
  left : drop l.x-index l.a ≡ drop l.x-index l.b → l.a ≡ l.b;
}
