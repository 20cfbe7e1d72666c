use Rattle.std.proofs.Common.{◌≡◌, ◌<◌, ℕ, List, length, drop}
use Rattle.std.specs.Prelude.{false}
use Rattle.decl_types.specs.ViewMarks.{mark_at}
use Rattle.decl_types.specs.ViewContained.{contained}
use Rattle.nim_types.specs.Types.{Ty, Key}
use Rattle.decl_rules.specs.Sections.{containment_rule}
use Rattle.decl_types.specs.ViewReading.{all_defined}
use Rattle.decl_types.specs.ViewScoped.{Whole}
use Rattle.decl_types.proofs.containing.check_contained.Given as goal

abbrev pub invariant-loop-definition : goal.invariant-loop-definition
invariant-loop-definition l = record {
  number : l.number ≡ l.definition-index;
  none : (k : ℕ) → k < l.definition-index → mark_at (contained (length l.read) l.read k) k ≡ false;
  left : (ts : List Ty) (n m : ℕ) (keys : List Key) → Whole ts n m keys l.read
      → containment_rule (all_defined ts keys l.read) (all_defined ts keys l.read)
      ≡ containment_rule (all_defined ts keys l.read) (all_defined ts keys (drop l.definition-index l.read));
}
