-- Small programs whose meanings a law states: how places are found, and when.
use Rattle.std.specs.Prelude.{ℕ, pos, [], ◌∷◌, Some, None, codes}
use Rattle.nim_types.specs.Types.{Ty, int, array}
use Rattle.nim_program.specs.declared.operation.Operator.TheVariants as O
use Rattle.nim_program.specs.declared.operation.Measure.TheVariants.{Len, High}
use Rattle.nim_program.specs.declared.operation.Operation.TheVariants as P
use Rattle.nim_program.specs.Program.{Number as OfOrdinal, PartsOf, NoLiteral, ALiteral, Building, Expr, Apply, Read, Path, Fresh, Element}
use Rattle.nim_program.specs.Program.{NoArg, ByValue, ByPath, Stmt, Idle, Proc, Program}
use Rattle.nim_meaning.specs.Trees.{node, one, constant, number, minus, literal, operated, binary, made, measured, call, global_of, local_of, global}
use Rattle.nim_program.specs.Nodes.{one_path}
use Rattle.nim_meaning.specs.Trees.{local, element, field, value_of, value_here, perform, echoes, echo, assign, update, swap, letting_go, place}
use Rattle.nim_meaning.specs.Trees.{does, var, var_as}
use Rattle.nim_meaning.specs.Trees.{plain, by_var, proc, program_with, program}
use Rattle.nim_meaning.specs.NumberExamples.{pair, known}

-- ---- places

abbrev pub triple : Ty
triple = array 3 int

-- an element of the first global
abbrev pub at : Expr → Path
at index = element (global_of triple 0) index

abbrev pub value_at : Expr → Expr
value_at index = Read (at index)

-- [10, 20, 30]
abbrev pub tens : Expr
tens = made triple (number 10 ∷ number 20 ∷ number 30 ∷ [])

-- proc p(x: var int; n: int): int =
--   x = x + n
--   result = 2
abbrev pub adding : Proc
adding = proc 5 3 (by_var (place 5 int) ∷ plain (place 6 int) ∷ []) (Some (place 7 int))
    (does (assign (local 5) (binary O.Add (value_here 5) (value_here 6))) ∷ does (assign (local 7) (number 2)) ∷ [])

abbrev pub added : Path → ℕ → Expr
added path n = call 0 (ByPath path (ByValue (number n) NoArg))

-- var a = [10, 20, 30]
-- var i = 0
-- a[i] = p(i, 1)
-- echo a[0], " ", i, " ", a[i]
-- discard p(a[2], 5)
-- echo a[2]
-- a[i + 2] = p(i, 1)
abbrev pub placing : Program
placing = program (adding ∷ []) 8
    (var_as (place 0 triple) tens ∷ var_as (place 1 int) (number 0)
    ∷ does (assign (at (value_of 1)) (added (global 1) 1))
    ∷ does (echoes (value_at (number 0) ∷ literal (codes " ") ∷ value_of 1 ∷ literal (codes " ") ∷ value_at (value_of 1) ∷ []))
    ∷ does (letting_go (added (at (number 2)) 5))
    ∷ does (echo (value_at (number 2)))
    ∷ does (assign (at (binary O.Add (value_of 1) (number 2))) (added (global 1) 1)) ∷ [])

-- var a = [10, 20, 30]
-- var i = 1
-- echo a[i] + p(i, 1)
-- echo i
abbrev pub reading_at_once : Program
reading_at_once = program (adding ∷ []) 8
    (var_as (place 0 triple) tens ∷ var_as (place 1 int) (number 1)
    ∷ does (echo (binary O.Add (value_at (value_of 1)) (added (global 1) 1))) ∷ does (echo (value_of 1)) ∷ [])

-- var a = [10, 20, 30]
-- a[3] = 1 div 0
abbrev pub value_before_place : Program
value_before_place = program [] 1 (var_as (place 0 triple) tens ∷ does (assign (at (number 3)) (binary O.Divide (number 1) (number 0))) ∷ [])

-- var a = [10, 20, 30]
-- a[1 div 0] = 65536 * 32768
abbrev pub index_before_value : Program
index_before_value = program [] 1
    (var_as (place 0 triple) tens
    ∷ does (assign (at (binary O.Divide (number 1) (number 0))) (binary O.Multiply (number 65536) (number 32768))) ∷ [])

-- var a = [10, 20, 30]
-- a[3] = 5
abbrev pub above_array : Program
above_array = program [] 1 (var_as (place 0 triple) tens ∷ does (assign (at (number 3)) (number 5)) ∷ [])

-- var a = [10, 20, 30]
-- echo a[0]
-- echo a[-1]
abbrev pub below_array : Program
below_array = program [] 1 (var_as (place 0 triple) tens ∷ does (echo (value_at (number 0))) ∷ does (echo (value_at (minus (number 1)))) ∷ [])

-- var a = [10, 20, 30]
-- discard p(a[3], 1 div 0)
abbrev pub argument_before_place : Program
argument_before_place = program (adding ∷ []) 8
    (var_as (place 0 triple) tens
    ∷ does (letting_go (call 0 (ByPath (at (number 3)) (ByValue (binary O.Divide (number 1) (number 0)) NoArg)))) ∷ [])

-- var a = [10, 20, 30]
-- var i = 0
-- discard p(a[i], p(i, 1))
-- echo a[0], " ", a[1]
-- a[i] += p(i, 1)
-- echo a[1], " ", i
-- swap(a[0], a[2])
-- echo a[0], " ", a[2]
abbrev pub aiming_in_turn : Program
aiming_in_turn = program (adding ∷ []) 8
    (var_as (place 0 triple) tens ∷ var_as (place 1 int) (number 0)
    ∷ does (letting_go (call 0 (ByPath (at (value_of 1)) (ByValue (added (global 1) 1) NoArg))))
    ∷ does (echoes (value_at (number 0) ∷ literal (codes " ") ∷ value_at (number 1) ∷ []))
    ∷ does (update O.Add (at (value_of 1)) (added (global 1) 1))
    ∷ does (echoes (value_at (number 1) ∷ literal (codes " ") ∷ value_of 1 ∷ []))
    ∷ does (swap (at (number 0)) (at (number 2)))
    ∷ does (echoes (value_at (number 0) ∷ literal (codes " ") ∷ value_at (number 2) ∷ [])) ∷ [])

-- proc inner(y: var int; z: var int) =
--   y = y + 1
--   z = y
abbrev pub inner : Proc
inner = proc 5 2 (by_var (place 5 int) ∷ by_var (place 6 int) ∷ []) None
    (does (assign (local 5) (binary O.Add (value_here 5) (number 1))) ∷ does (assign (local 6) (value_here 5)) ∷ [])

-- proc outer(x: var array[3, int]; i: int) =
--   inner(x[i], x[i + 1])
abbrev pub outer : Proc
outer = proc 7 2 (by_var (place 7 triple) ∷ plain (place 8 int) ∷ []) None
    (does (perform 0
    (ByPath (element (local_of triple 7) (value_here 8))
    (ByPath (element (local_of triple 7) (binary O.Add (value_here 8) (number 1))) NoArg))) ∷ [])

-- var a = [10, 20, 30]
-- outer(a, 1)
-- echo a[1], " ", a[2]
-- outer(a, 2)
abbrev pub handing_on : Program
handing_on = program (inner ∷ outer ∷ []) 9
    (var_as (place 0 triple) tens ∷ does (perform 1 (ByPath (global_of triple 0) (ByValue (number 1) NoArg)))
    ∷ does (echoes (value_at (number 1) ∷ literal (codes " ") ∷ value_at (number 2) ∷ []))
    ∷ does (perform 1 (ByPath (global_of triple 0) (ByValue (number 2) NoArg))) ∷ [])

-- proc two(x, y: var int) =
--   x = 1
--   y = y + 5
abbrev pub two_names : Proc
two_names = proc 5 2 (by_var (place 5 int) ∷ by_var (place 6 int) ∷ []) None
    (does (assign (local 5) (number 1)) ∷ does (assign (local 6) (binary O.Add (value_here 6) (number 5))) ∷ [])

-- var x = 10
-- two(x, x)
-- echo x
-- (No source has this: two `var` arguments of one place are refused.)
abbrev pub one_place : Program
one_place = program (two_names ∷ []) 7
    (var_as (place 0 int) (number 10) ∷ does (perform 0 (ByPath (global 0) (ByPath (global 0) NoArg))) ∷ does (echo (value_of 0)) ∷ [])

-- var a = [10, 20, 30]
-- var b = a
-- a[0] = 7
-- echo b[0]
-- b = a
-- a[0] = 8
-- echo b[0], " ", len(a), " ", high(a)
abbrev pub copying : Program
copying = program [] 2
    (var_as (place 0 triple) tens ∷ var_as (place 1 triple) (Read (global_of triple 0))
    ∷ does (assign (at (number 0)) (number 7))
    ∷ does (echo (Read (element (global_of triple 1) (number 0))))
    ∷ does (assign (global_of triple 1) (Read (global_of triple 0)))
    ∷ does (assign (at (number 0)) (number 8))
    ∷ does (echoes
    (Read (element (global_of triple 1) (number 0)) ∷ literal (codes " ") ∷ measured Len (global_of triple 0) ∷ literal (codes " ")
    ∷ measured High (global_of triple 0) ∷ [])) ∷ [])

-- a row and an element of a global that is an array of arrays
abbrev pub row_of : Expr → Path
row_of index = Element node triple (global_of (array 2 triple) 0) index None

abbrev pub cell : Expr → Expr → Path
cell index other = element (row_of index) other

-- var m: array[2, array[3, int]]
-- m[1][2] = 5
-- let row = m[1]
-- m[1][2] = 6
-- echo row[2], m[1][2], m[0][2]
-- echo m[1][3]
abbrev pub nesting : Program
nesting = program [] 2
    (var (place 0 (array 2 triple)) ∷ does (assign (cell (number 1) (number 2)) (number 5))
    ∷ var_as (place 1 triple) (Read (row_of (number 1)))
    ∷ does (assign (cell (number 1) (number 2)) (number 6))
    ∷ does (echoes (Read (element (global_of triple 1) (number 2)) ∷ Read (cell (number 1) (number 2)) ∷ Read (cell (number 0) (number 2)) ∷ []))
    ∷ does (echo (Read (cell (number 1) (number 3)))) ∷ [])

-- type Pair = object
--   x, y: int
-- var p = Pair(y: 4)
-- echo p.x, p.y
-- p.x = 3
-- let q = p
-- swap(p.x, p.y)
-- echo p.x, p.y, q.x, q.y
abbrev pub building : Program
building = program_with known [] 2
    (var_as (place 0 pair) (Apply node (Some pair) (Building (1 ∷ [])) (one (number 4)))
    ∷ does (echoes (Read (field (global_of pair 0) 0) ∷ Read (field (global_of pair 0) 1) ∷ []))
    ∷ does (assign (field (global_of pair 0) 0) (number 3))
    ∷ var_as (place 1 pair) (Read (global_of pair 0))
    ∷ does (swap (field (global_of pair 0) 0) (field (global_of pair 0) 1))
    ∷ does (echoes
    (Read (field (global_of pair 0) 0) ∷ Read (field (global_of pair 0) 1) ∷ Read (field (global_of pair 1) 0) ∷ Read (field (global_of pair 1) 1) ∷ [])) ∷
    [])

-- var a = [10, 20, 30]
-- let b = move(a)
-- echo b[1], " ", a[1]
abbrev pub moving : Program
moving = program [] 2
    (var_as (place 0 triple) tens ∷ var_as (place 1 triple) (operated triple P.Move (one_path (global_of triple 0)))
    ∷ does (echoes (Read (element (global_of triple 1) (number 1)) ∷ literal (codes " ") ∷ value_at (number 1) ∷ [])) ∷ [])

abbrev pub powers : Expr
powers = constant triple (PartsOf (ALiteral (OfOrdinal (pos 1)) (ALiteral (OfOrdinal (pos 2)) (ALiteral (OfOrdinal (pos 4)) NoLiteral))))

-- const c = [1, 2, 4]
-- var a = c
-- a[0] = 7
-- echo c[1], " ", c[2]
abbrev pub constants : Program
constants = program [] 1
    (var_as (place 0 triple) powers ∷ does (assign (at (number 0)) (number 7))
    ∷ does (echoes (Read (element (Fresh powers) (number 1)) ∷ literal (codes " ") ∷ Read (element (Fresh powers) (number 2)) ∷ [])) ∷ [])

-- const c = [1, 2, 4]
-- echo c[1]
abbrev pub constant_in_place : Program
constant_in_place = program [] 0 (does (echo (Read (element (Fresh powers) (number 1)))) ∷ [])

-- what is assigned to itself
abbrev pub idle : Path → Expr → Stmt
idle path value = Idle node (ByPath path (one value))

-- var a = [10, 20, 30]
-- a[5] = a[2 + 3]
-- a = a
-- echo a[1]
-- var i = 5
-- a[i] = a[i]
abbrev pub to_itself : Program
to_itself = program [] 2
    (var_as (place 0 triple) tens ∷ does (idle (at (number 5)) (value_at (binary O.Add (number 2) (number 3))))
    ∷ does (idle (global_of triple 0) (Read (global_of triple 0))) ∷ does (echo (value_at (number 1)))
    ∷ var_as (place 1 int) (number 5) ∷ does (assign (at (value_of 1)) (value_at (value_of 1))) ∷ [])
