-- The test of homes: which variable each register holds in front of each line. No public contract speaks of it.
use Rattle.std.specs.Prelude.{◌≡◌, ◌<◌, ℕ, ◌+◌, ◌-◌, ◌*◌, ◌%◌, ◌^◌, ◌==◌, nat_eq, nat_le, not, ◌&&◌, ◌||◌}
use Rattle.std.specs.Prelude.{Bool, true, false, if◌then◌else◌, List, Option, Some, None}
use Rattle.std.specs.Prelude.{length, slice_get}
use Rattle.std.specs.HashMap.{HashMap, get}
use Rattle.word_code.specs.declared.word.WordInstr.{WordInstr}
use Rattle.word_code.specs.declared.word.WordInstr.TheVariants as word
use Rattle.reg_scan.specs.declared.effects.Effect.{Effect}
use Rattle.reg_scan.specs.declared.fine.TheConstants.{NO_VARIABLE}
use Rattle.reg_scan.specs.declared.homes.Home.{Home}
use Rattle.reg_scan.specs.declared.homes.Home.TheVariants.{Reg, Frame}
use Rattle.reg_scan.specs.Alive.{effect_of}
use Rattle.reg_scan.specs.Homes.{or_none, is_free}

-- ---- what is held

abbrev pub place : (position register : ℕ) → ℕ
place position register = (position * 32 % 2 ^ 64 + register) % 2 ^ 64

abbrev pub known : Option ℕ → Option ℕ
known None = None
known (Some variable) = if variable == NO_VARIABLE then None else Some variable

-- the variable that a register holds in front of a line
abbrev pub holder : List ℕ → (position register : ℕ) → Option ℕ
holder of position register = known (slice_get of (place position register))

abbrev pub or_first : Option ℕ → ℕ
or_first None = 0
or_first (Some position) = position

-- the position that is noted for a label
abbrev pub label_at : {S : Type 0} → HashMap ℕ ℕ S → (name : ℕ) → ℕ
label_at labels name = or_first (get nat_eq labels name)

-- ---- tests

abbrev pub is_one : Option ℕ → ℕ → Bool
is_one None variable = false
is_one (Some other) variable = other == variable

-- what is held is nothing, or the same
abbrev pub is_within : (inner outer : Option ℕ) → Bool
is_within None outer = true
is_within (Some variable) outer = is_one outer variable

abbrev pub is_register : Home → ℕ → Bool
is_register (Reg number) register = number == register
is_register (Frame at) register = false

-- a variable, if there is one, has that register
abbrev pub has_register : List Home → Option ℕ → ℕ → Bool
has_register homes None register = false
has_register homes (Some variable) register = is_register (or_none (slice_get homes variable)) register

-- what a register holds behind a line it holds in front of it, or it is what the line sets
abbrev pub stays : Effect → (here behind : Option ℕ) → Bool
stays e here behind = not e.goes_on || (is_within behind here || is_within behind e.to)

-- where a line sets a register, or calls, it holds nothing else behind it
abbrev pub sets : Effect → (in_it : Bool) → (behind : Option ℕ) → Bool
sets e in_it behind = not (e.calls || in_it) || is_within behind e.to

-- a variable that is read is in its register
abbrev pub is_held : (in_it : Bool) → (variable here : Option ℕ) → Bool
is_held in_it variable here = not in_it || is_within variable here

-- the label that a line is
abbrev pub label_of : WordInstr → Option ℕ
label_of (word.Label name) = Some name
label_of line = None

-- the position that is noted for a label, if there is one
abbrev pub position_of : {S : Type 0} → HashMap ℕ ℕ S → Option ℕ → Option ℕ
position_of labels None = None
position_of labels (Some name) = Some (label_at labels name)

module _ (of : List ℕ) where
  -- what is held in front of the line to which one leads, if it leads to one
  abbrev pub held_at : Option ℕ → (register : ℕ) → Option ℕ
  held_at None register = None
  held_at (Some position) register = holder of position register

  -- what a label's register holds is noted
  abbrev pub is_noted : (own : Option ℕ) → (register : ℕ) → (here : Option ℕ) → Bool
  is_noted None register here = true
  is_noted (Some position) register here = is_within here (holder of position register)

  module _ (homes : List Home) where
    abbrev pub is_right_by : Effect → (there : Option ℕ) → (register : ℕ) → (here behind : Option ℕ) → Bool
    is_right_by e there register here behind =
        stays e here behind && (sets e (has_register homes e.to register) behind && (is_within (held_at there register) here
        && (is_held (has_register homes e.first register) e.first here && is_held (has_register homes e.second register) e.second here)))

    -- a register is right at a line that does this, leads there and is noted as this position
    abbrev pub is_right_at : Effect → (there own : Option ℕ) → (position register : ℕ) → Bool
    is_right_at e there own position register =
        is_right_by e there register (holder of position register) (holder of (position + 1) register)
        && is_noted own register (holder of position register)

    module _ {S : Type 0} (labels : HashMap ℕ ℕ S) where
      -- a register is right at a line
      abbrev pub is_right : WordInstr → (position register : ℕ) → Bool
      is_right line position register =
          is_right_at (effect_of line) (position_of labels (effect_of line).label) (position_of labels (label_of line)) position register

      -- registers are right at all lines
      abbrev pub AllRight : List WordInstr → Type 0
      AllRight lines =
          (position register : ℕ) (line : WordInstr) → slice_get lines position ≡ Some line → register < 32 → is_right line position register ≡ true

-- what is held is no parameter
abbrev pub is_past : (held : Option ℕ) → (params : ℕ) → Bool
is_past None params = true
is_past (Some variable) params = nat_le params variable

-- in front of all lines registers hold no parameter
abbrev pub NoneFirst : List ℕ → (params : ℕ) → Type 0
NoneFirst of params = (register : ℕ) → register < 32 → is_past (holder of 0 register) params ≡ true

-- a home that a variable may have: a free register, where registers are given, or its own word of the frame
abbrev pub IsOwn : (given : Bool) → (vars variable : ℕ) → Home → Type 0
IsOwn given vars variable (Reg number) = (given ≡ true) × (is_free number ≡ true)
IsOwn given vars variable (Frame at) = at ≡ 4 * (vars - variable)

-- those of all variables
abbrev pub AreOwn : (given : Bool) → (vars count : ℕ) → List Home → Type 0
AreOwn given vars count homes =
    (length homes ≡ count) × ((variable : ℕ) → variable < count → IsOwn given vars variable (or_none (slice_get homes variable)))
