-- Small programs whose meanings a law states: loops, choices, ways out and calls.
use Rattle.std.specs.Prelude.{ℕ, pos, true, false, [], ◌∷◌, Some, None, codes}
use Rattle.nim_types.specs.Types.{int, bool, char, array}
use Rattle.nim_program.specs.declared.operation.Operator.TheVariants as O
use Rattle.nim_program.specs.declared.operation.Comparison.TheVariants.{Equal, Less, Greater, AtLeast}
use Rattle.nim_program.specs.declared.stmt.Leaving.TheVariants as K
use Rattle.nim_program.specs.Program.{Ordinals, ByConditions, ByLabels, Expr, Read, Choose, NoArg, ByPath, Select, Empty, Otherwise, Block, Proc, Program}
use Rattle.nim_meaning.specs.Trees.{node, values, number, minus, letter, truth_value, literal, binary, comparing, made, call, global_of, global, local}
use Rattle.nim_program.specs.Nodes.{one_path}
use Rattle.nim_meaning.specs.Trees.{value_of, value_here, perform, echoes, echo, assign, update, letting_go, quits, give, give_back, leave}
use Rattle.nim_meaning.specs.Trees.{place, does, var, var_as, block, when, loops, counts, over, each, plain, proc, program, script}
use Rattle.nim_meaning.specs.NumberExamples.{greatest, least}
use Rattle.nim_meaning.specs.PlaceExamples.{triple, at, tens, row_of, cell}

-- ---- loops and ways out

-- for i in 2147483646 .. 2147483647:
--   echo i
-- echo "done"
abbrev pub up_to_greatest : Program
up_to_greatest = program [] 1 (does (over 0 (number 2147483646) greatest (does (echo (value_of 0)) ∷ [])) ∷ does (echo (literal (codes "done"))) ∷ [])

-- for i in 0 ..< 2:
--   echo i
-- for i in 5 ..< 5:
--   echo i
-- for i in 2147483647 ..< -2147483647 - 1:
--   echo i
abbrev pub below_last : Program
below_last = program [] 3
    (does (counts false 0 (number 0) (number 2) (does (echo (value_of 0)) ∷ []))
    ∷ does (counts false 1 (number 5) (number 5) (does (echo (value_of 1)) ∷ []))
    ∷ does (counts false 2 greatest least (does (echo (value_of 2)) ∷ [])) ∷ [])

-- var n = 2
-- for i in 0 .. n:
--   n = 9
--   echo i
abbrev pub ends_once : Program
ends_once = program [] 2
    (var_as (place 0 int) (number 2)
    ∷ does (over 1 (number 0) (value_of 0) (does (assign (global 0) (number 9)) ∷ does (echo (value_of 1)) ∷ [])) ∷ [])

-- for i in 0 .. 9:
--   for j in 0 .. 9:
--     if j == 2: break
--     if i == 1: continue
--     echo i * 10 + j
--   if i == 2: break
abbrev pub breaking : Program
breaking = program [] 2
    (does (over 0 (number 0) (number 9)
    (does (over 1 (number 0) (number 9)
    (does (when (comparing Equal (value_of 1) (number 2)) (does (leave K.Break) ∷ []) [])
    ∷ does (when (comparing Equal (value_of 0) (number 1)) (does (leave K.Continue) ∷ []) [])
    ∷ does (echo (binary O.Add (binary O.Multiply (value_of 0) (number 10)) (value_of 1))) ∷ []))
    ∷ does (when (comparing Equal (value_of 0) (number 2)) (does (leave K.Break) ∷ []) []) ∷ [])) ∷ [])

-- for i in 0 .. 1:
--   var x: int
--   x += 1
--   echo x
abbrev pub anew_each_turn : Program
anew_each_turn = program [] 2
    (does (over 0 (number 0) (number 1)
    (var (place 1 int) ∷ does (update O.Add (global 1) (number 1)) ∷ does (echo (value_of 1)) ∷ [])) ∷ [])

-- var a = [10, 20, 30]
-- for x in a:
--   a[2] = 7
--   echo x
abbrev pub found_anew : Program
found_anew = program [] 2
    (var_as (place 0 triple) tens
    ∷ does (each 1 (global_of triple 0) (does (assign (at (number 2)) (number 7)) ∷ does (echo (value_of 1)) ∷ [])) ∷ [])

-- var m: array[2, array[3, int]]
-- m[0][1] = 4
-- var i = 0
-- for x in m[i]:
--   i = 1
--   echo x
abbrev pub aimed_once : Program
aimed_once = program [] 3
    (var (place 0 (array 2 triple)) ∷ does (assign (cell (number 0) (number 1)) (number 4)) ∷ var_as (place 1 int) (number 0)
    ∷ does (each 2 (row_of (value_of 1)) (does (assign (global 1) (number 1)) ∷ does (echo (value_of 2)) ∷ [])) ∷ [])

-- var a = [10, 20, 30]
-- for x in a:
--   echo x
--   a = [1]
-- (No source has this: an array has one length.)
abbrev pub shortening : Program
shortening = program [] 2
    (var_as (place 0 triple) tens
    ∷ does (each 1 (global_of triple 0)
    (does (echo (value_of 1)) ∷ does (assign (global_of triple 0) (made (array 1 int) (number 1 ∷ []))) ∷ [])) ∷ [])

-- proc root(n: int): int =
--   for i in 0 .. n:
--     while true:
--       if i * i >= n: return i
--       break
--   echo "none"
abbrev pub searching : Proc
searching = proc 5 3 (plain (place 5 int) ∷ []) (Some (place 6 int))
    (does (over 7 (number 0) (value_here 5)
    (does (loops (truth_value true)
    (does (when (comparing AtLeast (binary O.Multiply (value_here 7) (value_here 7)) (value_here 5))
    (does (give_back (value_here 7)) ∷ []) [])
    ∷ does (leave K.Break) ∷ [])) ∷ []))
    ∷ does (echo (literal (codes "none"))) ∷ [])

-- echo root(10)
-- echo root(-1)
abbrev pub returning : Program
returning = program (searching ∷ []) 8
    (does (echo (call 0 (values (number 10 ∷ [])))) ∷ does (echo (call 0 (values (minus (number 1) ∷ [])))) ∷ [])

-- proc kind(n: int): int =
--   case n
--   of 0: result = 10
--   of 1, 3 .. 5: result = 20
--   else: return
--   result = result + 1
abbrev pub kinds : Proc
kinds = proc 5 2 (plain (place 5 int) ∷ []) (Some (place 6 int))
    (does (Select node (ByLabels ((Ordinals (pos 0) (pos 0) ∷ []) ∷ (Ordinals (pos 1) (pos 1) ∷ Ordinals (pos 3) (pos 5) ∷ []) ∷ []))
    (one_path (local 5))
    (Block (block (does (assign (local 6) (number 10)) ∷ [])) (Block (block (does (assign (local 6) (number 20)) ∷ []))
    (Otherwise (block (does (leave K.Return) ∷ []))))))
    ∷ does (assign (local 6) (binary O.Add (value_here 6) (number 1))) ∷ [])

abbrev pub kind : ℕ → Expr
kind n = call 0 (values (number n ∷ []))

-- echo kind(0), " ", kind(1), " ", kind(2), " ", kind(3), " ", kind(5), " ", kind(6)
abbrev pub selecting : Program
selecting = program (kinds ∷ []) 7
    (does (echoes
    (kind 0 ∷ literal (codes " ") ∷ kind 1 ∷ literal (codes " ") ∷ kind 2 ∷ literal (codes " ") ∷ kind 3 ∷ literal (codes " ")
    ∷ kind 5 ∷ literal (codes " ") ∷ kind 6 ∷ [])) ∷ [])

-- let c = 'x'
-- echo (case c of 'a' .. 'm': 1 of 'n' .. 'z': 2 else: 3), (if c == 'a': 1 elif c == 'x': 2 else: 3)
abbrev pub choosing : Program
choosing = program [] 1
    (var_as (place 0 char) (letter 120)
    ∷ does (echoes
    (Choose node (Some int) (ByLabels ((Ordinals (pos 97) (pos 109) ∷ []) ∷ (Ordinals (pos 110) (pos 122) ∷ []) ∷ []))
    (ByPath (global_of char 0) (values (number 1 ∷ number 2 ∷ number 3 ∷ [])))
    ∷ Choose node (Some int) ByConditions
    (values
    (comparing Equal (Read (global_of char 0)) (letter 97) ∷ number 1
    ∷ comparing Equal (Read (global_of char 0)) (letter 120) ∷ number 2 ∷ number 3 ∷ [])) ∷ [])) ∷ [])

-- let b = true
-- echo (case b of false: 1 of true: 2)
-- case b
-- of false: echo 3
-- of true: echo 4
abbrev pub covering : Program
covering = program [] 1
    (var_as (place 0 bool) (truth_value true)
    ∷ does (echo (Choose node (Some int) (ByLabels ((Ordinals (pos 0) (pos 0) ∷ []) ∷ (Ordinals (pos 1) (pos 1) ∷ []) ∷ []))
    (ByPath (global_of bool 0) (values (number 1 ∷ number 2 ∷ [])))))
    ∷ does (Select node (ByLabels ((Ordinals (pos 0) (pos 0) ∷ []) ∷ (Ordinals (pos 1) (pos 1) ∷ []) ∷ [])) (one_path (global_of bool 0))
    (Block (block (does (echo (number 3)) ∷ [])) (Block (block (does (echo (number 4)) ∷ [])) (Otherwise Empty)))) ∷ [])

-- var x = 0
-- while true:
--   echo x
--   x = x + 1
abbrev pub endless : Program
endless = program [] 1
    (var_as (place 0 int) (number 0)
    ∷ does (loops (truth_value true) (does (echo (value_of 0)) ∷ does (assign (global 0) (binary O.Add (value_of 0) (number 1))) ∷ [])) ∷ [])

-- proc f() =
--   while true: quit(-1)
abbrev pub quitter : Proc
quitter = proc 5 0 [] None (does (loops (truth_value true) (does (quits (minus (number 1))) ∷ [])) ∷ [])

-- echo "before"
-- f()
-- echo "after"
abbrev pub quitting : Program
quitting = program (quitter ∷ []) 5
    (does (echo (literal (codes "before"))) ∷ does (perform 0 NoArg) ∷ does (echo (literal (codes "after"))) ∷ [])

-- quit(2147483647)
abbrev pub low_bits : Program
low_bits = script (quits greatest ∷ [])

-- ---- calls

-- proc f(n: int): int =
--   if n < 1: result = 0
--   else: result = f(n - 1) + 2
abbrev pub doubled : Proc
doubled = proc 5 2 (plain (place 5 int) ∷ []) (Some (place 6 int))
    (does (when (comparing Less (value_here 5) (number 1))
    (does (assign (local 6) (number 0)) ∷ [])
    (does (assign (local 6) (binary O.Add (call 0 (values (binary O.Subtract (value_here 5) (number 1) ∷ []))) (number 2))) ∷ [])) ∷ [])

-- echo f(3)
abbrev pub doubling : Program
doubling = program (doubled ∷ []) 7 (does (echo (call 0 (values (number 3 ∷ [])))) ∷ [])

-- proc f() = f()
abbrev pub sinker : Proc
sinker = proc 5 0 [] None (does (perform 0 NoArg) ∷ [])

-- f()
abbrev pub sinking : Program
sinking = program (sinker ∷ []) 5 (does (perform 0 NoArg) ∷ [])

-- var n: int
-- proc f() =
--   n -= 1
--   if n > 0: f()
abbrev pub diver : Proc
diver = proc 5 0 [] None
    (does (update O.Subtract (global 0) (number 1)) ∷ does (when (comparing Greater (value_of 0) (number 0)) (does (perform 0 NoArg) ∷ []) []) ∷ [])

-- n = 2000
-- f()
-- echo "back"
abbrev pub coming_back : Program
coming_back = program (diver ∷ []) 5
    (var (place 0 int) ∷ does (assign (global 0) (number 2000)) ∷ does (perform 0 NoArg) ∷ does (echo (literal (codes "back"))) ∷ [])

-- n = 3
-- f()
-- echo "back"
-- n = 2001
-- f()
abbrev pub diving : Program
diving = program (diver ∷ []) 5
    (var (place 0 int) ∷ does (assign (global 0) (number 3)) ∷ does (perform 0 NoArg) ∷ does (echo (literal (codes "back")))
    ∷ does (assign (global 0) (number 2001)) ∷ does (perform 0 NoArg) ∷ [])

-- proc f(): int = discard
abbrev pub giving_nothing : Proc
giving_nothing = proc 5 1 [] (Some (place 5 int)) []

-- echo f()
abbrev pub starting_at_default : Program
starting_at_default = program (giving_nothing ∷ []) 6 (does (echo (call 0 NoArg)) ∷ [])

-- ---- work

-- var x = 5
-- echo x
abbrev pub small : Program
small = program [] 1 (var_as (place 0 int) (number 5) ∷ does (echo (value_of 0)) ∷ [])

-- proc f(n: int): int = n
-- discard f(1)
abbrev pub calling_once : Program
calling_once = program (proc 5 2 (plain (place 5 int) ∷ []) (Some (place 6 int)) (does (give (value_here 5)) ∷ []) ∷ []) 7
    (does (letting_go (call 0 (values (number 1 ∷ [])))) ∷ [])

-- for i in 1 .. 2:
--   echo (if i == 1: 10 else: 20)
abbrev pub choosing_in_turn : Program
choosing_in_turn = program [] 1
    (does (over 0 (number 1) (number 2)
    (does (echo (Choose node (Some int) ByConditions (values (comparing Equal (value_of 0) (number 1) ∷ number 10 ∷ number 20 ∷ [])))) ∷ [])) ∷ [])
