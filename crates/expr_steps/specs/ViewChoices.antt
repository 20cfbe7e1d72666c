-- What branches and labels that were typed stand for, and what one more gives. Contracts of typing alone speak of it.
use Rattle.std.specs.Prelude.{ℕ, List, [], ◌∷◌, ◌++◌, map, Option, Some, None, Ok}
use Rattle.arc_base.specs.declared.place.Place.{Place}
use Rattle.arc_base.specs.Refusal.{and_then}
use Rattle.nim_tree.specs.Terms as term
use Rattle.nim_tree.specs.Terms.{Term, place_of}
use Rattle.nim_types.specs.Types.{Ty}
use Rattle.nim_program.specs.declared.expr.Pick.{Pick as RustPick}
use Rattle.nim_program.specs.Nodes.{followed_by, one_value, two_values}
use Rattle.nim_program.specs.Program.{Expr, Label, Args, NoArg, type_of}
use Rattle.nim_program.specs.View.{choices_of, picks_of, pick_labels, label_of}
use Rattle.expr_steps.specs.declared.choices.Conditions.{Conditions as RustConditions}
use Rattle.expr_steps.specs.declared.choices.Picked.{Picked as RustPicked}
use Rattle.expr_steps.specs.declared.choices.Tests.{Tests as RustTests}
use Rattle.expr_rules.specs.Answers.{Answer, Typed}
use Rattle.expr_rules.specs.Choices.{Branching, Chosen, Picked, branch_value, branching_behind, new_label}
use Rattle.expr_rules.specs.Demands.{bare}
use Rattle.expr_rules.specs.Typed.{Value}
use Rattle.expr_parts.specs.View.{branching_of}
use Rattle.expr_parts.specs.ViewReady.{BranchesWithin}

-- ---- branches of an `if`

abbrev pub conditions_of : List Ty → RustConditions → Chosen
conditions_of ts c = record { parts = choices_of ts c.choices.items NoArg; values = branching_of ts c.values; next = c.next }

abbrev pub ConditionsWithin : ℕ → RustConditions → Type 0
ConditionsWithin n c = BranchesWithin n c.values

-- with one more, of this condition and value
abbrev pub condition_onto : Chosen → (condition value : Expr) → (next : ℕ) → Chosen
condition_onto c condition value next = record {
  parts = followed_by c.parts (two_values condition value);
  values = branching_behind c.values (type_of value);
  next = next;
}

abbrev pub next_condition : Chosen → Value → Typed → Answer Chosen
next_condition c test x = and_then (branch_value c.values x.expr) (λ e. Ok (condition_onto c test.given.expr e x.next))

-- ---- labels of a branch, and all up to them

pub record Tests : Type 0 where
  pub own : List Label
  pub all : List Label

abbrev pub tests_of : RustTests → Tests
tests_of t = record { own = map label_of t.own; all = t.all }

-- with one more
abbrev pub next_test : Tests → Place → Label → Answer Tests
next_test t at l = and_then (new_label at t.all l) (λ l. Ok (record { own = t.own ++ l ∷ []; all = t.all ++ l ∷ [] }))

-- where a label is refused
abbrev pub test_place : Term → Place
test_place (term.range at a b) = at
test_place a = place_of (bare a)

abbrev pub range_place : Term → Option Place
range_place (term.range at a b) = Some at
range_place a = None

-- ---- branches of a `case`

-- the labels and the values of branches
pub record Rows : Type 0 where
  pub labels : List (List Label)
  pub parts : Args

abbrev pub rows_of : List Ty → List RustPick → Rows
rows_of ts all = record { labels = pick_labels all; parts = picks_of ts all NoArg }

abbrev pub rows_in : Picked → Rows
rows_in p = record { labels = p.rows; parts = p.parts }

abbrev pub picked_of : List Ty → RustPicked → Picked
picked_of ts p = record {
  rows = pick_labels p.picks.items;
  labels = p.labels;
  parts = picks_of ts p.picks.items NoArg;
  values = branching_of ts p.values;
  next = p.next;
}

abbrev pub PickedWithin : ℕ → RustPicked → Type 0
PickedWithin n p = BranchesWithin n p.values

-- with one more, of these labels and this value
abbrev pub pick_onto : Rows → Branching → Tests → Expr → (next : ℕ) → Picked
pick_onto before values tests value next = record {
  rows = before.labels ++ tests.own ∷ [];
  labels = tests.all;
  parts = followed_by before.parts (one_value value);
  values = branching_behind values (type_of value);
  next = next;
}

abbrev pub next_pick : Rows → Branching → Tests → Typed → Answer Picked
next_pick before values tests x = and_then (branch_value values x.expr) (λ e. Ok (pick_onto before values tests e x.next))
