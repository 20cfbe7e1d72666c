-- Where the labels of traps stand.
use Rattle.std.proofs.Common.{◌≡◌, ℕ, List, [], ◌∷◌, Bool, true, false, ◌==◌, Some, if◌then◌else◌, refl}
use Rattle.std.proofs.Common.{ap, ◌∙◌}
use Rattle.std.proofs.lemmas.Bool.{false≢true, eq-eqb}
use Rattle.nim_program.specs.Traps.{Trap, Overflow, DivisionByZero, IndexOutOfBounds, OutOfRange, NilDereference, LengthChanged, CallDepth, OutOfMemory}
use Rattle.word_code.specs.declared.word.WordInstr.{WordInstr}
use Rattle.word_code.specs.declared.word.WordInstr.TheVariants.{Label, Call}
use Rattle.word_code.specs.Words.{from_label}
use Rattle.word_code.specs.RoutineTable.{trap_number, is_built}
use Rattle.word_lowering.specs.declared.homes.TheConstants.{FIRST}
use Rattle.word_lowering.specs.Operations.{trap_label}
use Rattle.word_lowering.specs.Lowered.{any_branches, trap_code, trap_end, last_code}

past : (leads : Bool) (label routine name : ℕ) (k : List WordInstr) → (label == name) ≡ false
    → from_label name (trap_code leads label routine k) ≡ from_label name k
past true label routine name k e = ap (λ c. if c then Some (Label label ∷ Call FIRST routine ∷ k) else from_label name k) e
past false label routine name k e = refl

here : (leads : Bool) (label routine : ℕ) (k : List WordInstr) → leads ≡ true
    → from_label label (trap_code leads label routine k) ≡ Some (Label label ∷ Call FIRST routine ∷ k)
here true label routine k e = ap (λ c. if c then Some (Label label ∷ Call FIRST routine ∷ k) else from_label label k) (eq-eqb label label refl)
here false label routine k e = absurd (false≢true e)

-- the label of a trap stands at the end, before the call of its routine
abbrev pub Stands : Trap → List WordInstr → Type 0
Stands trap lines = (k : List WordInstr)
    × (from_label (trap_label trap) (last_code lines) ≡ Some (Label (trap_label trap) ∷ Call FIRST (trap_number trap) ∷ k))

module _ (lines : List WordInstr) where
  abbrev leads : ℕ → Bool
  leads label = any_branches label lines

  -- the ends from a trap on
  abbrev from_depth : List WordInstr
  from_depth = trap_end lines CallDepth []

  abbrev from_length : List WordInstr
  from_length = trap_end lines LengthChanged from_depth

  abbrev from_range : List WordInstr
  from_range = trap_end lines OutOfRange from_length

  abbrev from_index : List WordInstr
  from_index = trap_end lines IndexOutOfBounds from_range

  abbrev from_division : List WordInstr
  from_division = trap_end lines DivisionByZero from_index

  past_overflow : (name : ℕ) → (0 == name) ≡ false → from_label name (last_code lines) ≡ from_label name from_division
  past_overflow name e = past (leads 0) 0 (trap_number Overflow) name from_division e

  past_division : (name : ℕ) → (0 == name) ≡ false → (1 == name) ≡ false → from_label name (last_code lines) ≡ from_label name from_index
  past_division name e f = past_overflow name e ∙ past (leads 1) 1 (trap_number DivisionByZero) name from_index f

  pub trap_stands : (trap : Trap) → is_built trap ≡ true → any_branches (trap_label trap) lines ≡ true → Stands trap lines
  trap_stands Overflow built h = (from_division, here (leads 0) 0 (trap_number Overflow) from_division h)
  trap_stands DivisionByZero built h = (from_index, past_overflow 1 refl ∙ here (leads 1) 1 (trap_number DivisionByZero) from_index h)
  trap_stands IndexOutOfBounds built h =
      (from_range, past_division 2 refl refl ∙ here (leads 2) 2 (trap_number IndexOutOfBounds) from_range h)
  trap_stands OutOfRange built h = (
    from_length,
    past_division 3 refl refl ∙ past (leads 2) 2 (trap_number IndexOutOfBounds) 3 from_range refl
        ∙ here (leads 3) 3 (trap_number OutOfRange) from_length h,
  )
  trap_stands LengthChanged built h = (
    from_depth,
    past_division 4 refl refl ∙ past (leads 2) 2 (trap_number IndexOutOfBounds) 4 from_range refl
        ∙ past (leads 3) 3 (trap_number OutOfRange) 4 from_length refl ∙ here (leads 4) 4 (trap_number LengthChanged) from_depth h,
  )
  trap_stands CallDepth built h = (
    [],
    past_division 5 refl refl ∙ past (leads 2) 2 (trap_number IndexOutOfBounds) 5 from_range refl
        ∙ past (leads 3) 3 (trap_number OutOfRange) 5 from_length refl ∙ past (leads 4) 4 (trap_number LengthChanged) 5 from_depth refl
        ∙ here (leads 5) 5 (trap_number CallDepth) [] h,
  )
  trap_stands NilDereference built h = absurd (false≢true built)
  trap_stands OutOfMemory built h = absurd (false≢true built)
