-- What the code's own types stand for around statements, and the lines of single parts. It serves proofs alone: the promise of `flatten` doesn't speak of it.
use Rattle.std.specs.Prelude.{◌≡◌, ℕ, suc, Bool, false, ◌&&◌, List, [], ◌∷◌, Option}
use Rattle.nim_types.specs.Types.{Ty, Facts}
use Rattle.nim_program.specs.declared.operation.Use.TheVariants.{Given}
use Rattle.nim_program.specs.declared.program.Mode.{Mode}
use Rattle.nim_program.specs.Program.{Declared, Args, NoArg, ByValue, ByPath, Kind, Loop, Stmts, Empty, Then, Declare, Defer}
use Rattle.nim_meaning.specs.Meaning.{is_fresh}
use Rattle.nim_meaning.specs.Shapes.{is_empty}
use Rattle.flat_code.specs.declared.line.Owning.{Owning}
use Rattle.flat_code.specs.declared.line.Line.{Line}
use Rattle.flat_code.specs.declared.line.Line.TheVariants as L
use Rattle.flattening.specs.declared.ways.Ways.{Ways}
use Rattle.flattening.specs.declared.ways.Ways.TheVariants as W
use Rattle.flattening.specs.declared.numbers.Purpose.TheVariants.{End, Next, Arm, Turn}
use Rattle.flattening.specs.Numbering.{type_number, label}
use Rattle.flattening.specs.ExprLines.{value_ends}
use Rattle.flattening.specs.StmtLines.{Exits, ending, in_loop, in_scope, outermost, returned, place_end, test_lines, test_ends, look_up, fill_lines}
use Rattle.flattening.specs.StmtLines.{element_lines}
use Rattle.flattening.specs.StmtLines.{lines_in, lines_of}
use Rattle.flattening.specs.Views.{own_lines, place_owns}

abbrev pub exits_of : Option Declared → Ways → Exits
exits_of result (W.Body ends) = outermost (λ k. own_lines ends.now (returned result k))
exits_of result (W.Loop' p ways number) = in_loop (exits_of result ways) number
exits_of result (W.Ending' p ways ends) = ending (own_lines ends.now) (exits_of result ways)

-- the place whose scope is the rest of a block, because of its first statement
abbrev pub first_owns : List Ty → Facts → Stmts → List Owning
first_owns types facts (Declare node place cursor value rest) = place_owns types facts place
first_owns types facts block = []

module _ (types : List Ty) (facts : Facts) (modes : (proc position : ℕ) → Mode) (result : Option Declared) where
  -- of the first statement of a block alone
  abbrev pub first_lines : Stmts → Exits → (t : ℕ) → List Line → List Line
  first_lines Empty exits t k = k
  first_lines (Then first rest) exits t k = lines_in types facts modes result first exits t k
  first_lines (Declare node place cursor NoArg rest) exits t k = L.Blank place.number (type_number types place.of) ∷ k
  first_lines (Declare node place cursor (ByValue value more) rest) exits t k =
      fill_lines types facts modes result place value (suc t) (value_ends types facts modes value Given k)
  first_lines (Declare node place cursor (ByPath path more) rest) exits t k = k
  first_lines (Defer node last rest) exits t k = k

  -- ---- loops

  -- of a loop whose statement has number t; no line is of its node
  abbrev pub loop_lines : Kind → (head : Args) → (body : Stmts) → Exits → (t : ℕ) → List Line → List Line
  loop_lines kind head body exits t k =
      lines_in types facts modes result (Loop (record { number = 0; at = record { «module» = 0; line = 0; column = 0 } }) kind head body) exits t k

  -- the body of a loop with a place, and where its next turn begins
  abbrev pub placed_turn : Declared → (body : Stmts) → Exits → (t first : ℕ) → List Line → List Line
  placed_turn place body exits t first k =
      lines_of types facts modes result body (in_scope types facts modes result place (in_loop exits t)) first
      (place_end types facts place (L.Label (label Next t) ∷ k))

  -- the condition of a `while`, whose temporaries end
  abbrev pub tested : Args → (t : ℕ) → List Line → List Line
  tested head t k = test_lines types facts modes result head t (test_ends types facts modes result head k)

  -- how many elements there are, and that their first one is next
  abbrev pub before_turns : (head : Args) → (t counter length place : ℕ) → List Line → List Line
  before_turns head t counter length place k =
      look_up types facts modes result head place
      (L.Length length place ∷ L.Zero counter ∷ L.Jump (label Arm t) ∷ L.Label (label Turn t) ∷ k)

  -- the next element, where there is one
  abbrev pub next_element : Declared → (head : Args) → (t counter length at : ℕ) → List Line → List Line
  next_element place head t counter length at k =
      L.Next counter length
      ∷ L.Label (label Arm t)
      ∷ L.Beyond counter length false (label End t)
      ∷ look_up types facts modes result head at
      (L.Still at length ∷ element_lines types facts modes result (is_fresh head) place t at counter (L.Turn (label Turn t) ∷ L.Label (label End t) ∷ k))

  -- ---- a `case`

  -- what is done where no label fits
  abbrev pub other_blocks : Stmts → Exits → (t u : ℕ) → List Line → List Line
  other_blocks last exits t u k = L.Label (label Next t) ∷ lines_of types facts modes result last exits u k

-- what follows the blocks of branches, where they are closed by their last one if nothing does
abbrev pub BlocksLast : (covered closes : Bool) → Type 0
BlocksLast covered closes = (last : Stmts) × (closes ≡ (covered && is_empty last))
