-- What lines of a procedure of word code stand among, and the homes of their operands. No public contract speaks of it.
use Rattle.std.specs.Prelude.{ℕ, zero, suc, ◌+◌, ◌-◌, ◌^◌, Bool, true, false, List, [], ◌∷◌, map}
use Rattle.nim_types.specs.declared.types.TypeDef.{TypeDef}
use Rattle.flat_code.specs.declared.block.BlockLine.{BlockLine}
use Rattle.flat_code.specs.declared.code.CodeProc.{CodeProc}
use Rattle.flat_code.specs.declared.line.From.{From}
use Rattle.flat_code.specs.declared.line.From.TheVariants as F
use Rattle.flat_code.specs.Fits.{is_value, is_location, is_own, is_declared, is_global}
use Rattle.word_code.specs.declared.word.WordInstr.{WordInstr}
use Rattle.word_code.specs.declared.word.WordInstr.TheVariants.{Argument}
use Rattle.word_lowering.specs.declared.homes.TheConstants.{FIRST}
use Rattle.word_lowering.specs.declared.homes.Alias.{Alias}
use Rattle.word_lowering.specs.declared.homes.Alias.TheVariants as alias
use Rattle.word_lowering.specs.declared.homes.Home.{Home}
use Rattle.word_lowering.specs.declared.homes.Home.TheVariants.{Variable}
use Rattle.word_lowering.specs.declared.homes.Housed.{Housed}
use Rattle.word_lowering.specs.declared.homes.Layout.{Layout}
use Rattle.word_lowering.specs.declared.setting.Setting.{Setting}
use Rattle.word_lowering.specs.Layouts.{nowhere, found}
use Rattle.word_lowering.specs.Spots.{address}
use Rattle.word_lowering.specs.Texts.{place_of, text_place}
use Rattle.word_lowering.specs.WaitingCode.{waiter_at, waiter_house}

-- the variable of a word
abbrev pub variable_in : Home → ℕ
variable_in (Variable v) = v
variable_in home = FIRST

abbrev pub variable_of : Housed → ℕ
variable_of h = variable_in h.home

-- the operand at a position
abbrev pub operand_at : List Housed → ℕ → Housed
operand_at [] i = nowhere
operand_at (h ∷ hs) zero = h
operand_at (h ∷ hs) (suc i) = operand_at hs i

-- what makes a word one less
abbrev pub one_less : ℕ
one_less = 2 ^ 32 - 1

-- an argument that is the word in a variable, or the address of a home
abbrev pub word_argument : (index : ℕ) → Home → List WordInstr → List WordInstr
word_argument index (Variable v) k = Argument index v ∷ k
word_argument index home k = address FIRST home ∷ Argument index FIRST ∷ k

-- ---- what is around lines: the table of types, all procedures, the address from which their texts are laid out, their layouts and the procedure's own,
-- the globals, and where its data is
pub record Around : Type 0 where
  pub table : List TypeDef
  pub procs : List (CodeProc BlockLine)
  pub from : ℕ
  pub layouts : List Layout
  pub own : Layout
  pub globals : List Housed
  pub setting : Setting

module _ (x : Around) where
  abbrev pub value : ℕ → Housed
  value t = found is_value t x.own.all

  abbrev pub own_place : ℕ → Housed
  own_place p = found is_own p x.own.all

  abbrev pub place : ℕ → (global : Bool) → Housed
  place p true = found is_global p x.globals
  place p false = found is_declared p x.own.all

  -- what a temporary with a location leads to: a place, a value or what waits that it is another name for, or what stands at the address in its variable
  abbrev pub named : Alias → Housed → Housed
  named (alias.Place p global) own = place p global
  named (alias.Value t) own = value t
  named (alias.Node node) own = waiter_house (waiter_at node x.own.waiters)
  named other own = own

  abbrev pub location_by : Housed → Housed
  location_by own = named own.alias own

  abbrev pub location : ℕ → Housed
  location t = location_by (found is_location t x.own.all)

  abbrev pub operand : From → Housed
  operand (F.Value t) = value t
  operand (F.Place t) = location t

  abbrev pub operands : List From → List Housed
  operands from = map operand from

  -- where a literal of the procedure is laid out: so many bytes, behind so many of its literals
  abbrev pub literal_at : (behind bytes : ℕ) → ℕ
  literal_at behind bytes = x.setting.texts + place_of x.from x.procs (x.setting.literals + behind) bytes

  -- and where a text is, whichever line has it
  abbrev pub text_at : List ℕ → ℕ
  text_at text = x.setting.texts + text_place x.from x.procs text
