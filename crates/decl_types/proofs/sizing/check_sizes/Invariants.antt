use Rattle.std.proofs.Common.{◌≡◌, ℕ, List, drop}
use Rattle.nim_types.specs.Types.{Ty, Key, Facts}
use Rattle.expr_parts.specs.View.{Under, Grown}
use Rattle.decl_rules.specs.Meanings.{KnownType}
use Rattle.decl_rules.specs.Sections.{sizes_rule}
use Rattle.decl_types.specs.ViewKnown.{KnownAs, Untouched, meaning_by}
use Rattle.decl_types.specs.ViewReading.{all_defined}
use Rattle.decl_types.specs.ViewScoped.{Reads}
use Rattle.decl_types.proofs.sizing.check_sizes.Given as goal

abbrev pub invariant-loop-definition : goal.invariant-loop-definition
invariant-loop-definition l = record {
  number : l.number ≡ l.definition-index;
  grown : Grown l.fn.types l.types;
  left : (n m : ℕ) (ts : List Ty) (facts : Facts) (keys : List Key) (k : List KnownType) → Under l.types ts facts → Reads n m keys l.read
      → KnownAs ts keys l.known (meaning_by k) → Untouched ts n (meaning_by k)
      → sizes_rule facts k (all_defined ts keys l.read) ≡ sizes_rule facts k (all_defined ts keys (drop l.definition-index l.read));
}
