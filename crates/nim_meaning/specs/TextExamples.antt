-- Small programs with texts and sequences: what they show, and what happens to blocks, in its order.
use Rattle.std.specs.Prelude.{◌≡◌, ℕ, true, List, [], ◌∷◌, ◌++◌, Some, None, codes}
use Rattle.arc_base.specs.Event.{writes}
use Rattle.arc_base.specs.declared.outside.Stream.TheVariants.{Out, Err}
use Rattle.arc_base.specs.Behaviour.{Phase, Ended, no_objects}
use Rattle.arc_base.specs.BigStep.{Res, Got, Over, Going, Errs}
use Rattle.nim_types.specs.Types.{Ty, int, bool, char, text, sequence, tuple, types, no_types}
use Rattle.nim_plan.specs.declared.plan.Plan.{Plan}
use Rattle.nim_program.specs.declared.operation.Operation.TheVariants as O
use Rattle.nim_program.specs.declared.operation.Comparison.TheVariants.{Equal, Less}
use Rattle.nim_program.specs.declared.operation.Measure.TheVariants.{Len}
use Rattle.nim_program.specs.declared.operation.Operator.TheVariants.{Subtract}
use Rattle.nim_program.specs.declared.stmt.Leaving.TheVariants as K
use Rattle.nim_program.specs.declared.program.Mode.TheVariants as M
use Rattle.nim_program.specs.Program.{Characters, ElementsOf, ALiteral, NoLiteral, Exactly, Calling, ByConditions, ByLabels, Expr, Apply, Read, Choose}
use Rattle.nim_program.specs.Program.{Path, Fresh, Element, Args, NoArg, ByPath, Declared, Each, Stmt, Do, Select, Loop, Empty}
use Rattle.nim_program.specs.Program.{Otherwise, Block, Param, Program}
use Rattle.nim_program.specs.Nodes.{one_path}
use Rattle.nim_meaning.specs.Heap.{demand}
use Rattle.nim_meaning.specs.State.{World, State, Happening, Took, Gave, Born, Ended as Ends, OfBlock, OfResource, Identity}
use Rattle.nim_meaning.specs.Meaning.{meaning, goes_through, at_first}
use Rattle.nim_meaning.specs.Trees.{Line, does, var, var_as, node, values, one, constant, number, truth_value, literal, letter, operated, binary, comparing}
use Rattle.nim_meaning.specs.Trees.{both, echoes, echo}
use Rattle.nim_meaning.specs.Trees.{operate, assign, swap, letting_go, give, give_back, leave, place, block, when, loops, plain, by_var, proc, program}
use Rattle.nim_meaning.specs.Trees.{global_of, local_of}
use Rattle.nim_meaning.specs.Trees.{sight_of}
use Rattle.nim_meaning.specs.Numbered.{numbered}

-- ---- what is seen

-- a block of a size was taken, or a block by its place among all that were taken was given back
pub data Turn : Type 0 where
  takes : (size : ℕ) → Turn
  gives : (block : ℕ) → Turn

abbrev pub ended : Identity → List Turn → List Turn
ended (OfBlock k) turns = turns ++ gives k ∷ []
ended (OfResource n) turns = turns

-- the oldest first
abbrev pub turns_of : List Happening → List Turn
turns_of [] = []
turns_of (Took size ∷ history) = turns_of history ++ takes size ∷ []
turns_of (Ends identity ∷ history) = ended identity (turns_of history)
turns_of (Gave size ∷ history) = turns_of history
turns_of (Born identity ∷ history) = turns_of history

abbrev pub world_in : {A : Type 0} → Res State A → World
world_in (Got x s) = s.world
world_in (Over status live s) = s.world
world_in (Going s) = s.world
world_in (Errs s) = s.world

-- every act copies so far, and no parameter became `sink`
abbrev pub no_plan : Plan
no_plan = record { sites = []; sinks = []; skips = [] }

-- With so many bytes of heap, this input and so many units a program shows this, and this happens to blocks, so that so much of the heap is asked for.
pub record Happens (p : Program) (heap : ℕ) (input : List ℕ) (units : ℕ) (out err : List ℕ) (phase : Phase) (turns : List Turn) (asked : ℕ) : Type 0 where
  pub sees : sight_of (meaning (numbered p) no_plan heap input units) ≡ record { events = writes Out out ++ writes Err err; phase = phase }
  pub happens : turns_of (world_in (goes_through (numbered p) no_plan (at_first (numbered p) heap input units))).history ≡ turns
  pub demands : demand (world_in (goes_through (numbered p) no_plan (at_first (numbered p) heap input units))).heap.classes ≡ asked

-- it comes to its end
abbrev pub Comes : Program → (heap units : ℕ) → List ℕ → List Turn → (asked : ℕ) → Type 0
Comes p heap units written turns asked = Happens p heap [] units written [] (Ended 0 no_objects) turns asked

-- it ends with a line on the other stream
abbrev pub Stops : Program → (heap units : ℕ) → List ℕ → List ℕ → List Turn → (asked : ℕ) → Type 0
Stops p heap units written line turns asked = Happens p heap [] units written line (Ended 1 no_objects) turns asked

abbrev pub no_memory : List ℕ
no_memory = codes "Error: out of memory\n"

-- ---- parts of programs

abbrev pub texts : Ty
texts = sequence text

abbrev pub says : List ℕ → Expr
says t = literal t

abbrev pub list : Ty → List Expr → Expr
list ty elements = operated ty O.Sequence (values elements)

abbrev pub joined : Expr → Expr → Expr
joined left right = operated text O.Join (values (left ∷ right ∷ []))

abbrev pub length_of : Path → Expr
length_of path = operated int (O.Measure Len) (one_path path)

abbrev pub global : Ty → ℕ → Expr
global ty n = Read (global_of ty n)

abbrev pub local : Ty → ℕ → Expr
local ty n = Read (local_of ty n)

abbrev pub at : Ty → Path → Expr → Path
at ty base index = Element node ty base index None

abbrev pub calls : Ty → ℕ → Args → Expr
calls ty n operands = Apply node (Some ty) (Calling n []) operands

abbrev pub runs : ℕ → Args → Stmt
runs n operands = Do (Apply node None (Calling n []) operands)

abbrev pub adds : Path → Expr → Stmt
adds path value = operate O.Add (ByPath path (one value))

abbrev pub appends : Path → Expr → Stmt
appends path value = operate O.Append (ByPath path (one value))

abbrev pub each_of : Declared → Path → List Line → Stmt
each_of variable path body = Loop node (Each variable) (one_path path) (block body)

abbrev pub by_sink : Declared → Param
by_sink place = record { place = place; mode = M.Sink }

-- ---- worked rows

-- var q = @["a", "b"]
-- var r = q
-- r.add("c")
-- echo q.len, r.len
abbrev pub two_lists : Program
two_lists = program [] 2
    (var_as (place 0 texts) (list texts (says (codes "a") ∷ says (codes "b") ∷ []))
    ∷ var_as (place 1 texts) (global texts 0)
    ∷ does (adds (global_of texts 1) (says (codes "c")))
    ∷ does (echoes (length_of (global_of texts 0) ∷ length_of (global_of texts 1) ∷ [])) ∷ [])

-- var s = "a"
-- case s
-- of "b": echo 1
-- echo 2
abbrev pub no_label_fits : Program
no_label_fits = program [] 1
    (var_as (place 0 text) (says (codes "a"))
    ∷ does (Select node (ByLabels ((Exactly (codes "b") ∷ []) ∷ [])) (one_path (global_of text 0))
    (Block (block (does (echo (number 1)) ∷ [])) (Otherwise Empty)))
    ∷ does (echo (number 2)) ∷ [])

-- var s = ""
-- while true:
--   s.add('x')
--   if s.len == 24: echo "full"
abbrev pub filling_up : Program
filling_up = program [] 1
    (var_as (place 0 text) (says [])
    ∷ does (loops (truth_value true)
    (does (appends (global_of text 0) (letter 120))
    ∷ does (when (comparing Equal (length_of (global_of text 0)) (number 24)) (does (echo (says (codes "full"))) ∷ []) []) ∷ [])) ∷ [])

-- var g = "one"
-- proc f(s: string) =
--   g = "two"
--   echo s
-- f(g)
abbrev pub lending : Program
lending = program
    (proc 5 1 (plain (place 5 text) ∷ []) None (does (assign (global_of text 0) (says (codes "two"))) ∷ does (echo (local text 5)) ∷ []) ∷ []) 1
    (var_as (place 0 text) (says (codes "one")) ∷ does (runs 0 (one (global text 0))) ∷ [])

-- proc id(s: string): string =
--   result = s
-- proc main() =
--   let a = "x" & "y"
--   echo id(a)
-- main()
abbrev pub giving_back : Program
giving_back = program
    (proc 5 2 (plain (place 5 text) ∷ []) (Some (place 6 text)) (does (give (local text 5)) ∷ [])
    ∷ proc 8 1 [] None
    (var_as (place 8 text) (joined (says (codes "x")) (says (codes "y"))) ∷ does (echo (calls text 0 (one (local text 8)))) ∷ []) ∷ []) 0
    (does (runs 1 NoArg) ∷ [])

-- ---- orders that nobody sees otherwise

-- var s = "0123456789"
-- s = s & "a"
abbrev pub assigning : Program
assigning = program [] 1
    (var_as (place 0 text) (says (codes "0123456789")) ∷ does (assign (global_of text 0) (joined (global text 0) (says (codes "a")))) ∷ [])

-- echo ("a" & "b") & ("c" & "d")
abbrev pub joining : Program
joining = program [] 0
    (does (echo (joined (joined (says (codes "a")) (says (codes "b"))) (joined (says (codes "c")) (says (codes "d"))))) ∷ [])

-- a text of ten characters takes another size than one of one
abbrev pub row : Ty
row = tuple [] (types text (types texts no_types))

-- var a = ("p", @["0123456789"])
-- var b = a
-- b = a
abbrev pub part_by_part : Program
part_by_part = program [] 2
    (var_as (place 0 row) (operated row O.Make (values (says (codes "p") ∷ list texts (says (codes "0123456789") ∷ []) ∷ [])))
    ∷ var_as (place 1 row) (global row 0)
    ∷ does (assign (global_of row 1) (global row 0)) ∷ [])

-- var q = @["a", "b"]
-- for x in q:
--   echo x
--   if x == "a": q.add("c")
abbrev pub longer_in_turn : Program
longer_in_turn = program [] 2
    (var_as (place 0 texts) (list texts (says (codes "a") ∷ says (codes "b") ∷ []))
    ∷ does (each_of (place 1 text) (global_of texts 0)
    (does (echo (global text 1))
    ∷ does (when (comparing Equal (global text 1) (says (codes "a"))) (does (adds (global_of texts 0) (says (codes "c"))) ∷ []) []) ∷ [])) ∷ [])

-- for x in @["a", "b"]:
--   let y = x & "!"
--   if y == "a!": continue
--   echo y
abbrev pub fresh_head : Program
fresh_head = program [] 2
    (does (each_of (place 0 text) (Fresh (list texts (says (codes "a") ∷ says (codes "b") ∷ [])))
    (var_as (place 1 text) (joined (global text 0) (says (codes "!")))
    ∷ does (when (comparing Equal (global text 1) (says (codes "a!"))) (does (leave K.Continue) ∷ []) [])
    ∷ does (echo (global text 1)) ∷ [])) ∷ [])

-- proc find(q: seq[string]; s: sink string): string =
--   for x in q:
--     let y = x & s
--     if y == "b!": return y & y
-- echo find(@["a", "b"], "!" & "")
abbrev pub leaving_scopes : Program
leaving_scopes = program
    (proc 5 5 (plain (place 5 texts) ∷ by_sink (place 6 text) ∷ []) (Some (place 7 text))
    (does (each_of (place 8 text) (local_of texts 5)
    (var_as (place 9 text) (joined (local text 8) (local text 6))
    ∷ does (when (comparing Equal (local text 9) (says (codes "b!"))) (does (give_back (joined (local text 9) (local text 9))) ∷ []) []) ∷ [])) ∷ []) ∷ []) 0
    (does (echo (calls text 0 (values (list texts (says (codes "a") ∷ says (codes "b") ∷ []) ∷ joined (says (codes "!")) (says []) ∷ [])))) ∷ [])

-- proc grow(s: var string) =
--   s.add("0123456789")
-- var q = @["a", "b"]
-- grow(q[0])
-- echo q[0]
abbrev pub into_block : Program
into_block = program (proc 5 1 (by_var (place 5 text) ∷ []) None (does (appends (local_of text 5) (says (codes "0123456789"))) ∷ []) ∷ []) 1
    (var_as (place 0 texts) (list texts (says (codes "a") ∷ says (codes "b") ∷ []))
    ∷ does (runs 0 (ByPath (at text (global_of texts 0) (number 0)) NoArg))
    ∷ does (echo (Read (at text (global_of texts 0) (number 0)))) ∷ [])

-- var q = @["a", "b", "c"]
-- q.setLen(1)
-- q.add(q[0])
-- let x = q.pop()
-- q[0] = q[q.len - 1]
-- swap(q[0], q[0])
-- echo x, q[0], q.len
abbrev pub lengths : Program
lengths = program [] 2
    (var_as (place 0 texts) (list texts (says (codes "a") ∷ says (codes "b") ∷ says (codes "c") ∷ []))
    ∷ does (operate O.SetLength (ByPath (global_of texts 0) (one (number 1))))
    ∷ does (adds (global_of texts 0) (Read (at text (global_of texts 0) (number 0))))
    ∷ var_as (place 1 text) (operated text O.Pop (one_path (global_of texts 0)))
    ∷ does (assign (at text (global_of texts 0) (number 0)) (Read (at text (global_of texts 0) (binary Subtract (length_of (global_of texts 0)) (number 1)))))
    ∷ does (swap (at text (global_of texts 0) (number 0)) (at text (global_of texts 0) (number 0)))
    ∷ does (echoes (global text 1 ∷ Read (at text (global_of texts 0) (number 0)) ∷ length_of (global_of texts 0) ∷ [])) ∷ [])

-- var s = "abc"
-- s[0] = 'x'
-- swap(s[1], s[2])
-- s.setLen(5)
-- echo s, s.len, s[4] == '\0'
abbrev pub characters : Program
characters = program [] 1
    (var_as (place 0 text) (says (codes "abc"))
    ∷ does (assign (at char (global_of text 0) (number 0)) (letter 120))
    ∷ does (swap (at char (global_of text 0) (number 1)) (at char (global_of text 0) (number 2)))
    ∷ does (operate O.SetLength (ByPath (global_of text 0) (one (number 5))))
    ∷ does (operate O.SetLength (ByPath (global_of text 0) (one (number 3))))
    ∷ does (echoes (global text 0 ∷ length_of (global_of text 0) ∷ [])) ∷ [])

-- var s: string
-- while readLine(stdin, s): echo s
abbrev pub reading_lines : Program
reading_lines = program [] 1
    (var (place 0 text) ∷ does (loops (operated bool O.ReadLineInto (one_path (global_of text 0))) (does (echo (global text 0)) ∷ [])) ∷ [])

-- const c = @["a", "b"]
-- var i = 1
-- echo c[i], c.len
-- for x in c: echo x
-- var q = c
-- echo (c[0] & "!").len
abbrev pub constants : Program
constants = program [] 3
    (var_as (place 0 int) (number 1)
    ∷ does (echoes (Read (at text (Fresh whole) (global int 0)) ∷ length_of (Fresh whole) ∷ []))
    ∷ does (each_of (place 1 text) (Fresh whole) (does (echo (global text 1)) ∷ []))
    ∷ var_as (place 2 texts) whole
    ∷ does (echo (length_of (Fresh (joined (Read (at text (Fresh whole) (number 0))) (says (codes "!")))))) ∷ [])
  where
    whole : Expr
    whole = constant texts (ElementsOf (ALiteral (Characters (codes "a")) (ALiteral (Characters (codes "b")) NoLiteral)))

-- var b = true
-- let s = if b: "a" & "b" else: "c"
-- if (s & "!") == "ab!" and (s & "?") < "z": echo s & "."
abbrev pub branches : Program
branches = program [] 2
    (var_as (place 0 bool) (truth_value true)
    ∷ var_as (place 1 text)
    (Choose node (Some text) ByConditions (values (global bool 0 ∷ joined (says (codes "a")) (says (codes "b")) ∷ says (codes "c") ∷ [])))
    ∷ does (when (both (comparing Equal (joined (global text 1) (says (codes "!"))) (says (codes "ab!")))
    (comparing Less (joined (global text 1) (says (codes "?"))) (says (codes "z"))))
    (does (echo (joined (global text 1) (says (codes ".")))) ∷ []) []) ∷ [])

-- var n: int
-- var q = newSeq[string](2)
-- q[1] = $n
-- discard q
-- discard q[1] & "x"
-- var m = @[@["a"], @[]]
-- m[1] = m[0]
-- echo q[1], m[1][0]
abbrev pub nested : Program
nested = program [] 3
    (var (place 0 int)
    ∷ var_as (place 1 texts) (operated texts O.NewSequence (one (number 2)))
    ∷ does (assign (at text (global_of texts 1) (number 1)) (operated text O.Show (one (global int 0))))
    ∷ does (letting_go (global texts 1))
    ∷ does (letting_go (joined (Read (at text (global_of texts 1) (number 1))) (says (codes "x"))))
    ∷ var_as (place 2 (sequence texts)) (list (sequence texts) (list texts (says (codes "a") ∷ []) ∷ list texts [] ∷ []))
    ∷ does (assign (at texts (global_of (sequence texts) 2) (number 1)) (Read (at texts (global_of (sequence texts) 2) (number 0))))
    ∷ does (echoes (Read (at text (global_of texts 1) (number 1)) ∷ Read (at text (at texts (global_of (sequence texts) 2) (number 1)) (number 0)) ∷ [])) ∷ [])

-- ---- what happens to blocks in them

abbrev pub two_lists_turns : List Turn
two_lists_turns =
    takes 16 ∷ takes 16 ∷ takes 32 ∷ takes 32 ∷ takes 16 ∷ takes 16 ∷ takes 16 ∷ gives 4 ∷ gives 5 ∷ gives 6 ∷ gives 3 ∷ gives 0
    ∷ gives 1 ∷ gives 2 ∷ []

abbrev pub no_label_fits_turns : List Turn
no_label_fits_turns =
    takes 16 ∷ gives 0 ∷ []

abbrev pub filling_up_turns : List Turn
filling_up_turns =
    takes 16 ∷ takes 32 ∷ gives 0 ∷ []

abbrev pub lending_turns : List Turn
lending_turns =
    takes 16 ∷ takes 16 ∷ takes 16 ∷ gives 0 ∷ takes 16 ∷ gives 3 ∷ gives 1 ∷ gives 2 ∷ []

abbrev pub giving_back_turns : List Turn
giving_back_turns =
    takes 16 ∷ takes 16 ∷ takes 16 ∷ gives 2 ∷ gives 1 ∷ gives 0 ∷ []

abbrev pub assigning_turns : List Turn
assigning_turns =
    takes 32 ∷ takes 32 ∷ takes 32 ∷ gives 0 ∷ gives 1 ∷ gives 2 ∷ []

abbrev pub joining_turns : List Turn
joining_turns =
    takes 16 ∷ takes 16 ∷ takes 16 ∷ gives 2 ∷ gives 1 ∷ gives 0 ∷ []

abbrev pub part_by_part_turns : List Turn
part_by_part_turns =
    takes 16 ∷ takes 32 ∷ takes 16 ∷ takes 16 ∷ takes 16 ∷ takes 32 ∷ takes 16 ∷ gives 3 ∷ takes 16 ∷ takes 32 ∷ gives 5 ∷ gives 4
    ∷ gives 6 ∷ gives 8 ∷ gives 7 ∷ gives 0 ∷ gives 1 ∷ gives 2 ∷ []

abbrev pub part_by_part_short_turns : List Turn
part_by_part_short_turns =
    takes 16 ∷ takes 32 ∷ takes 16 ∷ takes 16 ∷ takes 16 ∷ takes 32 ∷ takes 16 ∷ gives 3 ∷ takes 16 ∷ []

abbrev pub longer_in_turn_turns : List Turn
longer_in_turn_turns =
    takes 16 ∷ takes 16 ∷ takes 32 ∷ takes 16 ∷ takes 16 ∷ gives 4 ∷ takes 16 ∷ gives 5 ∷ takes 16 ∷ gives 3 ∷ []

abbrev pub fresh_head_turns : List Turn
fresh_head_turns =
    takes 16 ∷ takes 16 ∷ takes 32 ∷ takes 16 ∷ takes 16 ∷ gives 3 ∷ takes 16 ∷ gives 5 ∷ gives 4 ∷ takes 16 ∷ takes 16 ∷ gives 6
    ∷ takes 16 ∷ gives 8 ∷ takes 16 ∷ gives 9 ∷ gives 7 ∷ gives 0 ∷ gives 1 ∷ gives 2 ∷ []

abbrev pub leaving_scopes_turns : List Turn
leaving_scopes_turns =
    takes 16 ∷ takes 16 ∷ takes 32 ∷ takes 16 ∷ takes 16 ∷ takes 16 ∷ takes 16 ∷ takes 16 ∷ gives 6 ∷ gives 5 ∷ takes 16 ∷ gives 8
    ∷ gives 7 ∷ gives 4 ∷ takes 16 ∷ takes 16 ∷ takes 16 ∷ takes 16 ∷ gives 11 ∷ gives 10 ∷ takes 16 ∷ gives 13 ∷ takes 16 ∷ takes 16
    ∷ takes 16 ∷ gives 15 ∷ gives 14 ∷ gives 12 ∷ gives 9 ∷ gives 3 ∷ gives 16 ∷ gives 0 ∷ gives 1 ∷ gives 2 ∷ []

abbrev pub into_block_turns : List Turn
into_block_turns =
    takes 16 ∷ takes 16 ∷ takes 32 ∷ takes 32 ∷ gives 0 ∷ takes 32 ∷ gives 4 ∷ gives 3 ∷ gives 1 ∷ gives 2 ∷ []

abbrev pub lengths_turns : List Turn
lengths_turns =
    takes 16 ∷ takes 16 ∷ takes 16 ∷ takes 32 ∷ gives 1 ∷ gives 2 ∷ takes 16 ∷ takes 16 ∷ gives 0 ∷ takes 16 ∷ takes 16 ∷ gives 7
    ∷ gives 6 ∷ gives 4 ∷ gives 5 ∷ gives 3 ∷ []

abbrev pub characters_turns : List Turn
characters_turns =
    takes 16 ∷ takes 16 ∷ gives 1 ∷ gives 0 ∷ []

abbrev pub reading_lines_turns : List Turn
reading_lines_turns =
    takes 16 ∷ takes 16 ∷ gives 1 ∷ gives 0 ∷ takes 16 ∷ takes 32 ∷ gives 2 ∷ takes 32 ∷ gives 4 ∷ gives 3 ∷ []

abbrev pub constants_turns : List Turn
constants_turns =
    takes 16 ∷ gives 0 ∷ takes 16 ∷ gives 1 ∷ takes 16 ∷ gives 2 ∷ takes 32 ∷ takes 16 ∷ takes 16 ∷ takes 16 ∷ takes 16 ∷ gives 7
    ∷ gives 6 ∷ gives 4 ∷ gives 5 ∷ gives 3 ∷ []

abbrev pub branches_turns : List Turn
branches_turns =
    takes 16 ∷ takes 16 ∷ takes 16 ∷ takes 16 ∷ takes 16 ∷ gives 4 ∷ gives 3 ∷ gives 2 ∷ gives 1 ∷ takes 16 ∷ takes 16 ∷ gives 6
    ∷ gives 5 ∷ gives 0 ∷ []

abbrev pub nested_turns : List Turn
nested_turns =
    takes 32 ∷ takes 16 ∷ takes 16 ∷ takes 16 ∷ gives 3 ∷ gives 2 ∷ takes 16 ∷ takes 16 ∷ takes 32 ∷ takes 16 ∷ takes 16 ∷ takes 16
    ∷ takes 16 ∷ gives 10 ∷ gives 9 ∷ gives 4 ∷ gives 5 ∷ gives 8 ∷ gives 7 ∷ gives 6 ∷ gives 1 ∷ gives 0 ∷ []

-- 353 is the byte of `a`
abbrev pub lines_read : List ℕ
lines_read = 353 ∷ 13 ∷ 10 ∷ 10 ∷ codes "0123456789"
