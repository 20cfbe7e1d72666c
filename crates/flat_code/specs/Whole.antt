-- Code whose lines lead somewhere: each label that a line leads to stands where it is looked for, and no procedure runs out of lines.
use Rattle.std.specs.Prelude.{ℕ, Bool, true, false, ◌&&◌, List, [], ◌∷◌, Option, Some, None}
use Rattle.flat_code.specs.declared.line.Line.{Line}
use Rattle.flat_code.specs.declared.line.Line.TheVariants.{Label, Jump, Unless, Fits, Beyond, Turn, TurnIf, CountTurn, Return}
use Rattle.flat_code.specs.Running.{Proc, from_label}

abbrev pub label_in : Line → Option ℕ
label_in (Label name) = Some name
label_in line = None

-- the label behind to which a line may lead, and the one before
abbrev pub target : Line → Option ℕ
target (Jump to) = Some to
target (Unless from to) = Some to
target (Fits from these to) = Some to
target (Beyond counter last inclusive to) = Some to
target line = None

abbrev pub back_to : Line → Option ℕ
back_to (Turn to) = Some to
back_to (TurnIf from to) = Some to
back_to (CountTurn counter last inclusive to) = Some to
back_to line = None

-- a line after which the next one may come
abbrev pub falls : Line → Bool
falls (Jump to) = false
falls (Turn to) = false
falls (Return result) = false
falls line = true

abbrev pub is_found : {A : Type 0} → Option A → Bool
is_found None = false
is_found (Some x) = true

-- where the next line may come there is one
abbrev pub is_followed : {L : Type 0} → Bool → List L → Bool
is_followed false rest = true
is_followed true [] = false
is_followed true (line ∷ rest) = true

module _ {L : Type 0} (label_of : L → Option ℕ) (plain : L → Line) where
  abbrev pub stands : (lines : List L) → Option ℕ → Bool
  stands lines None = true
  stands lines (Some name) = is_found (from_label label_of name lines)

  abbrev pub all_lead : (whole : List L) → List L → Bool
  all_lead whole [] = true
  all_lead whole (line ∷ rest) =
      (stands rest (target (plain line)) && stands whole (back_to (plain line)))
      && (is_followed (falls (plain line)) rest && all_lead whole rest)

  abbrev pub are_whole : List (Proc L) → Bool
  are_whole [] = true
  are_whole (p ∷ procs) = all_lead p.lines p.lines && are_whole procs
