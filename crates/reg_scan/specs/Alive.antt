-- Which variables are alive.
--
-- A variable is alive at lines where a way from them comes to a line that reads it, over lines that don't set it.
use Rattle.std.specs.Prelude.{◌≡◌, ℕ, true, false, List, ◌∷◌, ◌⊎◌, Option, Some, None}
use Rattle.word_code.specs.declared.word.WordInstr.{WordInstr}
use Rattle.word_code.specs.declared.word.WordInstr.TheVariants.{Label, Spend, SpendIf, Constant, Copy, Compute, Sum, Place, Datum, Load, Store, Jump}
use Rattle.word_code.specs.declared.word.WordInstr.TheVariants.{Branch, Argument, Call, Return, Read, Write, Exit}
use Rattle.word_code.specs.Words.{from_label}
use Rattle.reg_scan.specs.declared.effects.Effect.{Effect}

-- a line that reads variables and sets one, from which control goes on to the next line
abbrev pub passing : (first second to : Option ℕ) → Effect
passing first second to = record { first = first; second = second; to = to; label = None; goes_on = true; calls = false }

-- what a line does to variables, and where control goes from it
abbrev pub effect_of : WordInstr → Effect
effect_of (Label name) = passing None None None
effect_of Spend = passing None None None
effect_of (SpendIf test left right) = passing (Some left) (Some right) None
effect_of (Constant to value) = passing None None (Some to)
effect_of (Copy to from) = passing (Some from) None (Some to)
effect_of (Compute to operation left right) = passing (Some left) (Some right) (Some to)
effect_of (Sum to from value) = passing (Some from) None (Some to)
effect_of (Place to at) = passing None None (Some to)
effect_of (Datum to at) = passing None None (Some to)
effect_of (Load to address size) = passing (Some address) None (Some to)
effect_of (Store address from size) = passing (Some address) (Some from) None
effect_of (Jump to) = record (passing None None None) { label = Some to; goes_on = false }
effect_of (Branch test left right to) = record (passing (Some left) (Some right) None) { label = Some to }
effect_of (Argument index from) = passing (Some from) None None
effect_of (Call to callee) = record (passing None None (Some to)) { calls = true }
effect_of (Return from) = record (passing (Some from) None None) { goes_on = false }
effect_of (Read to address len) = passing (Some address) (Some len) (Some to)
effect_of (Write stream address len) = passing (Some address) (Some len) None
effect_of (Exit status) = record (passing (Some status) None None) { goes_on = false }

-- a variable is the one that is there
abbrev pub IsOne : Option ℕ → ℕ → Type 0
IsOne None v = ⊥
IsOne (Some u) v = v ≡ u

abbrev pub Reads : WordInstr → ℕ → Type 0
Reads line v = IsOne (effect_of line).first v ⊎ IsOne (effect_of line).second v

abbrev pub Sets : WordInstr → ℕ → Type 0
Sets line v = IsOne (effect_of line).to v

-- a variable is alive at some lines of a procedure
pub data Alive (whole : List WordInstr) (v : ℕ) : List WordInstr → Type 0 where
  read_by : {line : WordInstr} {rest : List WordInstr} → Reads line v → Alive whole v (line ∷ rest)
  kept_by : {line : WordInstr} {rest : List WordInstr} → (effect_of line).goes_on ≡ true → (Sets line v → ⊥) → Alive whole v rest →
      Alive whole v (line ∷ rest)
  led_by : {line : WordInstr} {rest found : List WordInstr} {name : ℕ} → (effect_of line).label ≡ Some name → from_label name whole ≡ Some found →
      Alive whole v found → Alive whole v (line ∷ rest)
