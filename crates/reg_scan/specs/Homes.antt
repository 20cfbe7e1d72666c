-- The homes of a procedure's variables.
--
--     variables ──assign──> homes
--
-- Variables that are alive together have different homes. What is alive behind a call stands in the frame: a callee may use all registers.
use Rattle.std.specs.Prelude.{◌≡◌, ◌≢◌, ◌<◌, ◌≤◌, ℕ, suc, ◌+◌, ◌-◌, ◌*◌, ◌%◌, nat_le, ◌&&◌, ◌||◌}
use Rattle.std.specs.Prelude.{Bool, true, List, ◌∷◌, ◌++◌}
use Rattle.std.specs.Prelude.{Option, Some, None, length, slice_get}
use Rattle.word_code.specs.declared.word.WordInstr.{WordInstr}
use Rattle.word_code.specs.declared.word.WordProc.{WordProc}
use Rattle.reg_scan.specs.declared.homes.Home.{Home}
use Rattle.reg_scan.specs.declared.homes.Home.TheVariants.{Reg, Frame}
use Rattle.reg_scan.specs.declared.homes.Homes.{Homes}
use Rattle.reg_scan.specs.Alive.{effect_of, Alive}

abbrev pub or_none : Option Home → Home
or_none None = Frame 0
or_none (Some home) = home

-- the home of a variable
abbrev pub home_of : Homes → (variable : ℕ) → Home
home_of homes variable = or_none (slice_get homes.of variable)

-- The registers that variables may have. Code uses the others itself: 0 to 4, 5 to 7 between its lines, 10 to 12 and 17 for calls.
abbrev pub is_free : ℕ → Bool
is_free number = (nat_le 8 number && nat_le number 9) || ((nat_le 13 number && nat_le number 16) || (nat_le 18 number && nat_le number 31))

-- a home is a register that variables may have, or a word of a frame of so many bytes, behind the return address
abbrev pub IsPlace : (frame : ℕ) → Home → Type 0
IsPlace frame (Reg number) = is_free number ≡ true
IsPlace frame (Frame at) = (at % 4 ≡ 0) × ((4 ≤ at) × (at + 4 ≤ frame))

abbrev pub IsFrame : Home → Type 0
IsFrame (Reg number) = ⊥
IsFrame (Frame at) = Unit {0}

-- Two variables that are alive together have different homes, at all lines: also where no way leads to, and where nothing sets them. What a
-- line sets has another home than what is alive behind it, also where nothing reads what is set. What is alive behind a call, but for its
-- result, is in the frame. A parameter that is alive at the start is one of the frame's last words, the first parameter the last one: a
-- caller puts the arguments there.
pub record IsHomes (p : WordProc) (homes : Homes) : Type 0 where
  pub long : length homes.of ≡ p.vars
  pub whole : homes.frame % 4 ≡ 0
  pub least : 4 ≤ homes.frame
  pub most : homes.frame ≤ 4 * suc p.vars
  pub there : (v : ℕ) → v < p.vars → IsPlace homes.frame (home_of homes v)
  pub together : (before rest : List WordInstr) (v w : ℕ) → before ++ rest ≡ p.lines → Alive p.lines v rest → Alive p.lines w rest → v ≢ w →
      v < p.vars → w < p.vars → home_of homes v ≢ home_of homes w
  pub apart : (before rest : List WordInstr) (line : WordInstr) (v to : ℕ) → before ++ line ∷ rest ≡ p.lines → (effect_of line).to ≡ Some to →
      Alive p.lines v rest → v ≢ to → v < p.vars → to < p.vars → home_of homes v ≢ home_of homes to
  pub across : (before rest : List WordInstr) (line : WordInstr) (v to : ℕ) → before ++ line ∷ rest ≡ p.lines → (effect_of line).to ≡ Some to →
      (effect_of line).calls ≡ true → Alive p.lines v rest → v ≢ to → v < p.vars → IsFrame (home_of homes v)
  pub params : (v : ℕ) → v < p.params → v < p.vars → Alive p.lines v p.lines → home_of homes v ≡ Frame (homes.frame - 4 * suc v)
