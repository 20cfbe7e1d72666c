-- Trees with parts.
use Rattle.std.proofs.Common.{◌≡◌, List, [], ◌∷◌, ◌++◌, length, refl, ap}
use Rattle.std.specs.Prelude.{false, Some}
use Rattle.arc_base.specs.declared.place.Place.{Place}
use Rattle.nim_tree.specs.declared.expr.Expr.{Expr}
use Rattle.nim_tree.specs.declared.name.Name.{Name}
use Rattle.nim_tree.specs.declared.expr.Choice.{Choice}
use Rattle.nim_tree.specs.Terms.{term_of, part, and_part, choice, and_choice, parts_of, choices_of, tuple, construct}
use Rattle.parse_exprs.specs.declared.input.Bracket.TheVariants.{Round}
use Rattle.parse_exprs.specs.Look.{some_tuple, grouped, object}

pub and_last : (some : List Expr) (last : Expr) → parts_of (some ++ last ∷ []) ≡ and_part (parts_of some) (term_of last)
and_last [] last = refl
and_last (first ∷ some) last = ap (part (term_of first)) (and_last some last)

pub is_tuple : (at : Place) (parts : List Expr) → (length parts ≡ 0 → ⊥) → some_tuple at (parts_of parts) ≡ Some (tuple at (parts_of parts))
is_tuple at [] some = absurd (some refl)
is_tuple at (first ∷ rest) some = refl

pub is_object : (n : Name) (parts : List Expr) → (length parts ≡ 0 → ⊥) → object (Some n) (parts_of parts) ≡ Some (construct n.at n.text (parts_of parts))
is_object n [] some = absurd (some refl)
is_object n (first ∷ rest) some = refl

pub is_several : (at : Place) (parts : List Expr) → (length parts ≡ 1 → ⊥) → grouped Round false at (parts_of parts) ≡ some_tuple at (parts_of parts)
is_several at [] h = refl
is_several at (a ∷ []) h = absurd (h refl)
is_several at (a ∷ b ∷ rest) h = refl

pub and_branch_last : (some : List Choice) (last : Choice) → choices_of (some ++ last ∷ []) ≡ and_choice (choices_of some) last.at (parts_of last.tests.items)
    (term_of last.value)
and_branch_last [] last = refl
and_branch_last (first ∷ some) last = ap (choice first.at (parts_of first.tests.items) (term_of first.value)) (and_branch_last some last)
