-- Branches and labels that were typed, and one more.
use Rattle.std.proofs.Common.{◌≡◌, ℕ, List, [], ◌∷◌, ◌++◌, refl, sym, ap, ◌∙◌, Some, None}
use Rattle.std.proofs.lemmas.Option.{none-some, same_Some}
use Rattle.arc_base.specs.declared.place.Place.{Place}
use Rattle.std.specs.Prelude.{map}
use Rattle.nim_tree.specs.Terms as term
use Rattle.nim_tree.specs.Terms.{Term, place_of}
use Rattle.nim_types.specs.Types.{Ty}
use Rattle.nim_program.specs.declared.expr.Choice.{Choice as RustChoice}
use Rattle.nim_program.specs.declared.expr.Label.{Label as RustLabel}
use Rattle.nim_program.specs.declared.expr.Pick.{Pick as RustPick}
use Rattle.nim_program.specs.Nodes.{followed_by, one_value, two_values}
use Rattle.nim_program.specs.Program.{Args, NoArg, ByValue, Label}
use Rattle.nim_program.specs.View.{expr_of, choices_of, picks_of, pick_labels, label_of}
use Rattle.expr_parts.specs.declared.branching.Branching.{Branching as RustBranching}
use Rattle.expr_parts.specs.declared.branching.Branching.TheVariants as branching
use Rattle.expr_rules.specs.Choices.{Branching, Chosen, Picked}
use Rattle.expr_rules.specs.Demands.{bare}
use Rattle.expr_parts.specs.View.{BranchingWithin}
use Rattle.expr_parts.specs.ViewReady.{BranchesWithin}
use Rattle.expr_steps.specs.ViewChoices.{Tests, range_place, test_place}

pub branching_within : (n : ℕ) (b : RustBranching) → BranchesWithin n b → BranchingWithin n b
branching_within n (branching.Undecided w) h = tt
branching_within n (branching.Decided w ty) h = h.1

pub choices_more : (ts : List Ty) (all : List RustChoice) (c : RustChoice)
    → choices_of ts (all ++ c ∷ []) NoArg ≡ followed_by (choices_of ts all NoArg) (two_values (expr_of ts c.condition) (expr_of ts c.value))
choices_more ts [] c = refl
choices_more ts (d ∷ all) c = ap (λ z. ByValue (expr_of ts d.condition) (ByValue (expr_of ts d.value) z)) (choices_more ts all c)

pub picks_more : (ts : List Ty) (all : List RustPick) (p : RustPick)
    → picks_of ts (all ++ p ∷ []) NoArg ≡ followed_by (picks_of ts all NoArg) (one_value (expr_of ts p.value))
picks_more ts [] p = refl
picks_more ts (q ∷ all) p = ap (ByValue (expr_of ts q.value)) (picks_more ts all p)

pub rows_more : (all : List RustPick) (p : RustPick) → pick_labels (all ++ p ∷ []) ≡ pick_labels all ++ map label_of p.labels ∷ []
rows_more [] p = refl
rows_more (q ∷ all) p = ap (λ z. map label_of q.labels ∷ z) (rows_more all p)

abbrev pub chosen_by : Args → Branching → ℕ → Chosen
chosen_by a v next = record { parts = a; values = v; next = next }

pub same_chosen : (next : ℕ) {a b : Args} {v w : Branching} → a ≡ b → v ≡ w → chosen_by a v next ≡ chosen_by b w next
same_chosen next {b = b} {v = v} d e = ap (λ z. chosen_by z v next) d ∙ ap (λ z. chosen_by b z next) e

abbrev pub picked_by : List (List Label) → List Label → Args → Branching → ℕ → Picked
picked_by rows l a v next = record { rows = rows; labels = l; parts = a; values = v; next = next }

pub same_picked : (next : ℕ) {r s : List (List Label)} {k l : List Label} {a b : Args} {v w : Branching} → r ≡ s → k ≡ l → a ≡ b → v ≡ w
    → picked_by r k a v next ≡ picked_by s l b w next
same_picked next {s = s} {k = k} {l = l} {a = a} {b = b} {v = v} c d e f =
    ap (λ z. picked_by z k a v next) c ∙ ap (λ z. picked_by s z a v next) d ∙ ap (λ z. picked_by s l z v next) e ∙ ap (λ z. picked_by s l b z next) f

abbrev pub tests_by : List Label → List Label → Tests
tests_by own all = record { own = own; all = all }

labels_and : (own : List RustLabel) (l : RustLabel) → map label_of (own ++ l ∷ []) ≡ map label_of own ++ label_of l ∷ []
labels_and [] l = refl
labels_and (k ∷ own) l = ap (λ z. label_of k ∷ z) (labels_and own l)

pub labels_more : (own : List RustLabel) (l : RustLabel) (all : List Label) (now : List RustLabel) → now ≡ own ++ l ∷ []
    → tests_by (map label_of now) all ≡ tests_by (map label_of own ++ label_of l ∷ []) all
labels_more own l all now e = ap (λ z. tests_by z all) (ap (map label_of) e ∙ labels_and own l)

-- ---- where a label is refused

pub at_range : (t : Term) (p : Place) → range_place t ≡ Some p → p ≡ test_place t
at_range (term.int at z) p e = absurd (none-some p e)
at_range (term.char at z) p e = absurd (none-some p e)
at_range (term.text at x) p e = absurd (none-some p e)
at_range (term.name at x) p e = absurd (none-some p e)
at_range (term.quoted at x) p e = absurd (none-some p e)
at_range (term.nil at) p e = absurd (none-some p e)
at_range (term.paren at a) p e = absurd (none-some p e)
at_range (term.tuple at ps) p e = absurd (none-some p e)
at_range (term.array at ps) p e = absurd (none-some p e)
at_range (term.sequence at ps) p e = absurd (none-some p e)
at_range (term.construct at x ps) p e = absurd (none-some p e)
at_range (term.named at x a) p e = absurd (none-some p e)
at_range (term.field at a x) p e = absurd (none-some p e)
at_range (term.call at a ps) p e = absurd (none-some p e)
at_range (term.index at a ps) p e = absurd (none-some p e)
at_range (term.unary at op a) p e = absurd (none-some p e)
at_range (term.binary at op a b) p e = absurd (none-some p e)
at_range (term.if_term at cs a) p e = absurd (none-some p e)
at_range (term.case_term at a cs) p e = absurd (none-some p e)
at_range (term.case_else at a cs b) p e = absurd (none-some p e)
at_range (term.range at a b) p e = sym (same_Some at p e)

pub at_others : (t : Term) → range_place t ≡ None → place_of (bare t) ≡ test_place t
at_others (term.int at z) e = refl
at_others (term.char at z) e = refl
at_others (term.text at x) e = refl
at_others (term.name at x) e = refl
at_others (term.quoted at x) e = refl
at_others (term.nil at) e = refl
at_others (term.paren at a) e = refl
at_others (term.tuple at ps) e = refl
at_others (term.array at ps) e = refl
at_others (term.sequence at ps) e = refl
at_others (term.construct at x ps) e = refl
at_others (term.named at x a) e = refl
at_others (term.field at a x) e = refl
at_others (term.call at a ps) e = refl
at_others (term.index at a ps) e = refl
at_others (term.unary at op a) e = refl
at_others (term.binary at op a b) e = refl
at_others (term.if_term at cs a) e = refl
at_others (term.case_term at a cs) e = refl
at_others (term.case_else at a cs b) e = refl
at_others (term.range at a b) e = absurd (none-some at (sym e))
