use Rattle.std.proofs.Common.{◌≡◌, drop}
use Rattle.decl_types.specs.ViewScoped.{declaration_from}
use Rattle.decl_types.proofs.knowing.declaration_of.Given as goal

abbrev pub invariant-loop-first : goal.invariant-loop-first
invariant-loop-first l = record {
  count : l.declaration ≡ l.first-index;
  left : declaration_from 0 l.numbers l.number ≡ declaration_from l.declaration (drop l.first-index l.numbers) l.number;
}
