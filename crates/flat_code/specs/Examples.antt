-- Small flat code: what it comes to, what is at a fault, and what fits the types of its places. No public contract but that of examples speaks of it.
use Rattle.std.specs.Prelude.{◌≡◌, ℕ, pos, Bool, true, false, List, [], ◌∷◌, ◌++◌, Some, None}
use Rattle.arc_base.specs.declared.place.Place.{Place}
use Rattle.arc_base.specs.declared.outside.Stream.TheVariants.{Out, Err}
use Rattle.arc_base.specs.Event.{Event, writes}
use Rattle.arc_base.specs.Behaviour.{Behaviour, Ended, Faulted, no_objects}
use Rattle.nim_types.specs.declared.types.TypeDef.{TypeDef}
use Rattle.nim_types.specs.declared.types.TypeDef.TheVariants as D
use Rattle.nim_program.specs.declared.operation.Operation.TheVariants as O
use Rattle.nim_program.specs.declared.operation.Operator.TheVariants.{Add}
use Rattle.nim_program.specs.declared.operation.Use.TheVariants.{Owned, Looked}
use Rattle.nim_program.specs.declared.program.Mode.TheVariants as mode
use Rattle.nim_meaning.specs.Trees.{sight_of}
use Rattle.flat_code.specs.declared.code.Code.{Code}
use Rattle.flat_code.specs.declared.code.CodeProc.{CodeProc}
use Rattle.flat_code.specs.declared.line.From.TheVariants.{Value, Place as At}
use Rattle.flat_code.specs.declared.line.UseAt.{UseAt}
use Rattle.flat_code.specs.declared.line.Line.{Line}
use Rattle.flat_code.specs.declared.line.Line.TheVariants as L
use Rattle.flat_code.specs.declared.line.Piece.TheVariants as P
use Rattle.flat_code.specs.declared.owned.OwnedLine.{OwnedLine}
use Rattle.flat_code.specs.declared.block.BlockLine.{BlockLine}
use Rattle.flat_code.specs.declared.block.BlockLine.TheVariants as B
use Rattle.flat_code.specs.declared.place.PlaceKind.{PlaceKind}
use Rattle.flat_code.specs.declared.place.PlaceKind.TheVariants as K
use Rattle.flat_code.specs.declared.place.FlatPlace.{FlatPlace}
use Rattle.flat_code.specs.Codes.{flat_meaning, flat_plain, procs_of, no_plan, under, by_lines}
use Rattle.flat_code.specs.Fits.{code_fits}
use Rattle.flat_code.specs.Scene.{known_in}
use Rattle.flat_code.specs.Whole.{label_in, are_whole}

-- ---- how examples are written down

-- ints, bools and chars are the types 0, 1 and 2, and arrays of three ints 3
abbrev pub table : List TypeDef
table = D.Int ∷ D.Bool ∷ D.Char ∷ D.Array 3 0 ∷ []

abbrev nowhere : Place
nowhere = record { «module» = 0; line = 1; column = 1 }

abbrev place : PlaceKind → (ty number : ℕ) → FlatPlace
place kind ty number = record { number = number; at = nowhere; kind = kind; ty = ty; hooked = false; resource = false; copies = true; waits = None }

-- places of one kind and type
abbrev places : PlaceKind → (ty : ℕ) → List ℕ → List FlatPlace
places kind ty [] = []
places kind ty (n ∷ ns) = place kind ty n ∷ places kind ty ns

-- no value waits
abbrev owned : UseAt
owned = record { how = Owned; node = 0 }

abbrev looked : UseAt
looked = record { how = Looked; node = 0 }

abbrev number : (to n : ℕ) → Line
number to n = L.Constant to owned 0 (P.Ordinal (pos n) ∷ [])

abbrev get : (to from : ℕ) → Line
get to from = L.Get to from owned (Some 0)

-- an int is written; the temporary 99 gets nothing
abbrev echo : (from : ℕ) → Line
echo from = L.Apply 99 O.Echo looked None (Some 0 ∷ []) (Value from ∷ [])

abbrev add : (location value : ℕ) → Line
add location value = L.Apply 99 (O.Update Add) looked None (Some 0 ∷ Some 0 ∷ []) (At location ∷ Value value ∷ [])

abbrev assign : (location value : ℕ) → Line
assign location value = L.Apply 99 O.Assign looked None (Some 0 ∷ Some 0 ∷ []) (At location ∷ Value value ∷ [])

abbrev proc : (first span : ℕ) → List FlatPlace → List Line → CodeProc Line
proc first span places lines = record { first = first; span = span; places = places; lines = lines; hook = None }

abbrev code : List (CodeProc Line) → Code Line
code procs = record { procs = procs }

-- start code alone, with one global that is an int, and two temporaries
abbrev start : List Line → Code Line
start lines = code (proc 0 1 (place K.Global 0 0 ∷ places K.Temp 0 (1 ∷ 2 ∷ []) ++ places K.Location 0 (3 ∷ [])) lines ∷ [])

-- ---- what is seen

abbrev pub shown : Code Line → Behaviour Event
shown flat = flat_meaning table flat no_plan 0 []

-- after n lines it has come to its end, with what it wrote to both streams and its status
abbrev pub Comes_to : Behaviour Event → (n : ℕ) → (written failed : List ℕ) → (status : ℕ) → Type 0
Comes_to b n written failed status = sight_of (b n) ≡ record { events = writes Out written ++ writes Err failed; phase = Ended status no_objects }

-- after n lines it is at a fault, and wrote nothing
abbrev pub IsAtFault : Behaviour Event → (n : ℕ) → Type 0
IsAtFault b n = sight_of (b n) ≡ record { events = []; phase = Faulted }

abbrev pub as_owned : Code Line → Code OwnedLine
as_owned flat = by_lines (under no_plan) flat

abbrev pub as_blocks : Code Line → Code BlockLine
as_blocks flat = by_lines B.Plain (as_owned flat)

abbrev pub Fits_places : Code Line → Type 0
Fits_places flat = code_fits flat_plain (known_in table) flat.procs ≡ true

abbrev pub Fits_none : Code Line → Type 0
Fits_none flat = code_fits flat_plain (known_in table) flat.procs ≡ false

abbrev pub Leads : Code Line → Type 0
Leads flat = are_whole label_in flat_plain (procs_of (known_in table) flat) ≡ true

abbrev pub Leads_astray : Code Line → Type 0
Leads_astray flat = are_whole label_in flat_plain (procs_of (known_in table) flat) ≡ false

-- ---- a loop in a procedure

-- proc sum(n: int): int =
--   for i in 1 .. n:
--     result += i
abbrev sum : (inclusive : Bool) → CodeProc Line
sum inclusive = proc 0 3
    (place (K.Param mode.Plain) 0 0 ∷ place K.Result 0 1 ∷ place K.ForVar 0 2 ∷ place K.Counter 0 1
    ∷ places K.Temp 0 (2 ∷ 5 ∷ []) ++ places K.Location 0 (2 ∷ 4 ∷ 5 ∷ []))
    (number 1 1 ∷ L.Root 2 0 false ∷ get 2 2 ∷ L.Beyond 1 2 inclusive 1 ∷ L.Enter ∷ L.Label 3 ∷ L.Fill 2 1
    ∷ L.Root 5 2 false ∷ get 5 5 ∷ L.Root 4 1 false ∷ add 4 5 ∷ L.Label 2 ∷ L.CountTurn 1 2 inclusive 3 ∷ L.Label 1 ∷ L.Return (Some 1) ∷ [])

-- quit(sum(n))
abbrev sum_start : (argument : List Line) → CodeProc Line
sum_start argument = proc 0 3 (places K.Temp 0 (2 ∷ 3 ∷ []))
    (argument ++ (L.Call 2 owned (Some 0) 0 (Value 3 ∷ []) ∷ L.Apply 99 O.Quit looked None (Some 0 ∷ []) (Value 2 ∷ []) ∷ L.Return None ∷ []))

abbrev pub summing : (n : ℕ) → Code Line
summing n = code (sum true ∷ sum_start (number 3 n ∷ []) ∷ [])

-- over 1 ..< n
abbrev pub summing_below : (n : ℕ) → Code Line
summing_below n = code (sum false ∷ sum_start (number 3 n ∷ []) ∷ [])

-- without an argument in temporary 3
abbrev pub summing_nothing : Code Line
summing_nothing = code (sum true ∷ sum_start [] ∷ [])

-- ---- elements, a `var` parameter, and a trap

-- proc bump(x: var int) =
--   x += 2
abbrev bump : CodeProc Line
bump = proc 0 1 (place (K.Param mode.Var) 0 0 ∷ places K.Temp 0 (1 ∷ []) ++ places K.Location 0 (2 ∷ []))
    (L.Root 2 0 false ∷ number 1 2 ∷ add 2 1 ∷ L.Return None ∷ [])

-- var a: array[3, int]
-- a[1] = 7
-- bump(a[1])
-- echo a[1]
-- echo a[index]
abbrev bump_start : (index : ℕ) → CodeProc Line
bump_start index = proc 1 1
    (place K.Global 3 1 ∷ places K.Temp 0 (10 ∷ 11 ∷ 20 ∷ 30 ∷ 33 ∷ 40 ∷ 43 ∷ [])
    ++ (places K.Location 3 (12 ∷ 21 ∷ 31 ∷ 41 ∷ []) ++ places K.Location 0 (13 ∷ 22 ∷ 32 ∷ 42 ∷ [])))
    (L.Blank 1 3
    ∷ number 10 1 ∷ number 11 7 ∷ L.Root 12 1 true ∷ L.Item 13 12 10 ∷ assign 13 11
    ∷ number 20 1 ∷ L.Root 21 1 true ∷ L.Item 22 21 20 ∷ L.Call 99 owned None 0 (At 22 ∷ [])
    ∷ number 30 1 ∷ L.Root 31 1 true ∷ L.Item 32 31 30 ∷ get 33 32 ∷ echo 33
    ∷ number 40 index ∷ L.Root 41 1 true ∷ L.Item 42 41 40 ∷ get 43 42 ∷ echo 43
    ∷ L.Return None ∷ [])

abbrev pub bumping : (index : ℕ) → Code Line
bumping index = code (bump ∷ bump_start index ∷ [])

-- the same with the value of the element in place of its location
abbrev pub bumping_value : Code Line
bumping_value = code (bump ∷ proc 1 1 (place K.Global 3 1 ∷ places K.Temp 0 (11 ∷ []))
    (L.Blank 1 3 ∷ number 11 7 ∷ L.Call 99 owned None 0 (Value 11 ∷ []) ∷ L.Return None ∷ []) ∷ [])

-- ---- a constant that stands in the data

-- const c = [5, 6, 7]
-- echo c[index]
abbrev pub standing : (index : ℕ) → Code Line
standing index = code (proc 0 0 (places K.Temp 0 (1 ∷ 4 ∷ []) ++ (places K.Within 3 (2 ∷ []) ++ places K.Within 0 (3 ∷ [])))
    (number 1 index ∷ L.Standing 2 3 (P.Ordinal (pos 5) ∷ P.Ordinal (pos 6) ∷ P.Ordinal (pos 7) ∷ P.Parts 3 ∷ []) ∷ L.Item 3 2 1 ∷ get 4 3
    ∷ echo 4 ∷ L.Return None ∷ []) ∷ [])

-- ---- what is at a fault

-- a temporary that got nothing is written; a place that isn't filled yet is used
abbrev pub unset : Code Line
unset = start (echo 1 ∷ L.Return None ∷ [])

abbrev pub unfilled : Code Line
unfilled = start (L.Root 3 0 false ∷ L.Return None ∷ [])

-- the same, filled
abbrev pub filled : Code Line
filled = start (number 1 5 ∷ L.Fill 0 1 ∷ L.Root 3 0 false ∷ get 2 3 ∷ echo 2 ∷ L.Return None ∷ [])

-- a label that isn't there, and one that stands before a line that leads ahead
abbrev pub unlabelled : Code Line
unlabelled = start (L.Jump 7 ∷ L.Return None ∷ [])

abbrev pub jumping_back : Code Line
jumping_back = start (L.Label 7 ∷ L.Jump 7 ∷ L.Return None ∷ [])

-- a turn leads back, and spends a unit each time
abbrev pub turning : Code Line
turning = start (L.Label 7 ∷ L.Turn 7 ∷ [])

-- the start code has no line more
abbrev pub running_out : Code Line
running_out = start (L.Label 7 ∷ [])

-- the next one of the last number
abbrev pub next_of_last : Code Line
next_of_last = start (number 1 4 ∷ number 2 4 ∷ L.Next 1 2 ∷ L.Return None ∷ [])

-- an element by its position, outside
abbrev pub no_element : Code Line
no_element = code (proc 0 1 (place K.Global 3 0 ∷ places K.Temp 0 (1 ∷ 2 ∷ []) ++ places K.Location 3 (3 ∷ []))
    (L.Blank 0 3 ∷ number 1 3 ∷ L.Root 3 0 true ∷ L.Element 2 3 1 ∷ L.Return None ∷ []) ∷ [])

-- ---- what doesn't fit

-- an int in a temporary for chars
abbrev pub int_as_char : Code Line
int_as_char = code (proc 0 0 (places K.Temp 2 (1 ∷ [])) (number 1 65 ∷ L.Return None ∷ []) ∷ [])

-- what isn't a bool decides
abbrev pub int_decides : Code Line
int_decides = start (number 1 1 ∷ L.Unless 1 7 ∷ L.Label 7 ∷ L.Return None ∷ [])

-- a value that no place holds is written to
abbrev writes_to : PlaceKind → List Line → Code Line
writes_to kind lines = code (proc 0 1 (place K.Global 0 0 ∷ places K.Temp 0 (1 ∷ []) ++ places kind 0 (3 ∷ []))
    (number 1 1 ∷ lines ++ (assign 3 1 ∷ L.Return None ∷ [])) ∷ [])

abbrev pub fresh_written : Code Line
fresh_written = writes_to K.Within (L.Fresh 3 1 None ∷ [])

abbrev pub standing_written : Code Line
standing_written = writes_to K.Within (L.Standing 3 0 (P.Ordinal (pos 5) ∷ []) ∷ [])

-- a constant in a place that may be written
abbrev pub standing_as_place : Code Line
standing_as_place = writes_to K.Location (L.Standing 3 0 (P.Ordinal (pos 5) ∷ []) ∷ [])

abbrev pub place_written : Code Line
place_written = writes_to K.Location (L.Root 3 0 true ∷ [])

-- a procedure with a result returns none
abbrev pub no_result : Code Line
no_result = code (proc 0 1 (place K.Result 0 0 ∷ []) (L.Return None ∷ []) ∷ proc 0 0 [] (L.Return None ∷ []) ∷ [])
