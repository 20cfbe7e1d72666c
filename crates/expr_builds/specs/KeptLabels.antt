-- What the code keeps of labels. No public contract speaks of it.
use Rattle.std.specs.Prelude.{◌≡◌, ℕ, List, map, nat_eq}
use Rattle.std.specs.Cmp.Lexicographic.{pointwise}
use Rattle.std.specs.HashSet.{HashSet, contains}
use Rattle.nim_program.specs.Program.{Exactly}
use Rattle.nim_program.specs.declared.expr.Label.{Label as RustLabel}
use Rattle.nim_program.specs.View.{label_of}
use Rattle.expr_builds.specs.declared.ranges.Range.{Range}
use Rattle.expr_rules.specs.Choices.{clashes}
use Rattle.expr_builds.specs.ViewLabels.{IsAscending, SameOrdinals}

pub record AreKept {S : Type 0} (given : List RustLabel) (ranges : List Range) (texts : HashSet (List ℕ) S) : Type 0 where
  pub ascending : IsAscending ranges
  pub ordinals : SameOrdinals (map label_of given) ranges
  pub words : (s : List ℕ) → clashes (Exactly s) (map label_of given) ≡ contains (pointwise nat_eq) texts s
