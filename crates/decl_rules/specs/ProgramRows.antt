-- Examples of whole programs, with their numbers and places: above each module its text.
use Rattle.std.specs.Prelude.{ℕ, pos, true, false, List, [], ◌∷◌, codes, Option, Some, None, Ok}
use Rattle.arc_base.specs.declared.place.Place.{Place}
use Rattle.nim_tree.specs.declared.name.PragmaKind.TheVariants as pragma
use Rattle.nim_tree.specs.declared.expr.BinaryOp.TheVariants as sign
use Rattle.nim_tree.specs.declared.stmt.AssignOp.TheVariants as assign
use Rattle.nim_tree.specs.declared.stmt.Binding.TheVariants as binding
use Rattle.nim_tree.specs.declared.stmt.ParamMode.TheVariants as mode
use Rattle.nim_tree.specs.Terms as t
use Rattle.nim_tree.specs.Types as w
use Rattle.nim_tree.specs.Statements as s
use Rattle.nim_types.specs.Types as type
use Rattle.nim_types.specs.Types.{Ty, Facts}
use Rattle.nim_program.specs.declared.operation.Operation.TheVariants as operation
use Rattle.nim_program.specs.declared.operation.Operator.TheVariants as operator
use Rattle.nim_program.specs.declared.operation.Comparison.TheVariants as comparison
use Rattle.nim_program.specs.declared.program.Mode.TheVariants.{Plain}
use Rattle.nim_program.specs.declared.stmt.Leaving.TheVariants as leaving
use Rattle.nim_program.specs.Program as P
use Rattle.nim_program.specs.Program.{Number, Expr, Read, Path, Variable, NoArg, ByConditions, ByLabels, Ordinals, Count, Do, Idle, Give, Leave, Select, Loop}
use Rattle.nim_program.specs.Program.{Stmts, Empty, Then, Declare, Otherwise, Block, Param, Body, Proc, Program}
use Rattle.nim_program.specs.Nodes.{one_value, two_values, one_path, path_and_value, literal, acting, compare, convert, call, echo, discard, assign, update}
use Rattle.expr_rules.specs.Answers.{Answer, node}
use Rattle.decl_rules.specs.Elaborated.{elaborated}
use Rattle.decl_rules.specs.Examples.{at, name_at, declared, quoted, pragma_of, defined, parameters, head, declaration}

abbrev place_of : ℕ → List ℕ → Place → Ty → P.Declared
place_of number x at of = record { number = number; name = x; at = at; of = of }

abbrev by_value : P.Declared → Param
by_value place = record { place = place; mode = Plain }

abbrev body : (first places before : ℕ) → Option P.Declared → Stmts → Option Body
body first places before result stmts = Some (record { first = first; places = places; before = before; result = result; stmts = stmts })

abbrev proc : List ℕ → Place → List Param → Option Ty → Option Body → Proc
proc x at params result body =
    record { name = x; at = at; type_params = 0; params = params; gives = result; body = body; hook = None }

abbrev program : Facts → List Proc → List P.Declared → (places : ℕ) → Stmts → Program
program facts procs globals places stmts =
    record {
      types = [];
      facts = facts;
      procs = procs;
      globals = globals;
      start = record { first = 0; places = places; before = 0; result = None; stmts = stmts };
    }

abbrev color : Ty
color = type.enum (record { name = codes "C"; at = at 1 6 })

abbrev metre : Ty
metre = type.distinct (record { name = codes "M"; at = at 1 6 })

abbrev read : s.Statements → Answer Program
read all = elaborated [] (record { number = 0; body = all } ∷ [])

abbrev pub program_answers : List (Answer Program)
program_answers =
    -- let x = 1
    -- echo x
    read (s.then (s.defines (at 1 1) binding.Let ((defined ((declared (at 1 5) (codes "x")) ∷ []) [] None (Some (t.int (at 1 9) (pos 1)))) ∷ [])) (s.then
    (s.commands (at 2 1) (t.name (at 2 1) (codes "echo")) (t.part (t.name (at 2 6) (codes "x")) t.no_parts)) s.empty))
    -- proc f(n: int): int
    -- proc g(): int = f(1)
    -- proc f(k: int): int =
    --   for i in 0..k: result += i
    ∷ read (s.then (s.proclaims (at 1 1) (head (declared (at 1 1) (codes "f")) [] ((parameters ((name_at (at 1 8) (codes "n")) ∷ []) mode.Plain (w.named (at
    1 11) (codes "int") w.no_arguments)) ∷ []) (Some (w.named (at 1 17) (codes "int") w.no_arguments)) []) s.empty) (s.then (s.proclaims (at 2 1) (head
    (declared (at 2 1) (codes "g")) [] [] (Some (w.named (at 2 11) (codes "int") w.no_arguments)) []) (s.then (s.evaluates (at 2 17) (t.call (at 2 17)
    (t.name (at 2 17) (codes "f")) (t.part (t.int (at 2 19) (pos 1)) t.no_parts))) s.empty)) (s.then (s.proclaims (at 3 1) (head (declared (at 3 1) (codes
    "f")) [] ((parameters ((name_at (at 3 8) (codes "k")) ∷ []) mode.Plain (w.named (at 3 11) (codes "int") w.no_arguments)) ∷ []) (Some (w.named (at 3 17)
    (codes "int") w.no_arguments)) []) (s.then (s.counts (at 4 3) (name_at (at 4 7) (codes "i")) (s.up_to (t.int (at 4 12) (pos 0)) (t.name (at 4 15) (codes
    "k"))) (s.then (s.assigns (at 4 18) assign.Plus (t.name (at 4 18) (codes "result")) (t.name (at 4 28) (codes "i"))) s.empty)) s.empty)) s.empty)))
    -- type C = enum red, blue
    -- const n = 2
    -- if true:
    --   var q: seq[C]
    --   q.add(blue)
    ∷ read (s.then (s.types (at 1 1) ((declaration (declared (at 1 6) (codes "C")) [] (w.enum (at 1 6) ((name_at (at 1 15) (codes "red")) ∷ (name_at (at 1
    20) (codes "blue")) ∷ []))) ∷ [])) (s.then (s.defines (at 2 1) binding.Const ((defined ((declared (at 2 7) (codes "n")) ∷ []) [] None (Some (t.int (at 2
    11) (pos 2)))) ∷ [])) (s.then (s.branches (at 3 1) (s.branch (at 3 1) (t.part (t.name (at 3 4) (codes "true")) t.no_parts) (s.then (s.defines (at 4 3)
    binding.Var ((defined ((declared (at 4 7) (codes "q")) ∷ []) [] (Some (w.named (at 4 10) (codes "seq") (w.argument (w.named (at 4 14) (codes "C")
    w.no_arguments) w.no_arguments))) None) ∷ [])) (s.then (s.evaluates (at 5 3) (t.call (at 5 3) (t.field (at 5 3) (t.name (at 5 3) (codes "q")) (codes
    "add")) (t.part (t.name (at 5 9) (codes "blue")) t.no_parts))) s.empty)) s.no_branches) s.empty) s.empty)))
    -- type M = distinct int
    -- proc `==`(a, b: M): bool {.borrow.}
    -- var x, y = M(1)
    ∷ read (s.then (s.types (at 1 1) ((declaration (declared (at 1 6) (codes "M")) [] (w.distinct (at 1 19) (w.named (at 1 19) (codes "int")
    w.no_arguments))) ∷ [])) (s.then (s.proclaims (at 2 1) (head (quoted (at 2 1) (codes "`==`")) [] ((parameters ((name_at (at 2 11) (codes "a")) ∷ (name_at
    (at 2 14) (codes "b")) ∷ []) mode.Plain (w.named (at 2 17) (codes "M") w.no_arguments)) ∷ []) (Some (w.named (at 2 21) (codes "bool") w.no_arguments))
    ((pragma_of pragma.Borrow) ∷ [])) s.empty) (s.then (s.defines (at 3 1) binding.Var ((defined ((declared (at 3 5) (codes "x")) ∷ (declared (at 3 8) (codes
    "y")) ∷ []) [] None (Some (t.call (at 3 12) (t.name (at 3 12) (codes "M")) (t.part (t.int (at 3 14) (pos 1)) t.no_parts)))) ∷ [])) s.empty)))
    -- proc f(a: int): int =
    --   if a == 1: return result
    --   result = a
    --   result
    -- var x = f(1)
    -- x = x
    -- case x
    -- of 1: discard
    -- else: discard f(2)
    ∷ read (s.then (s.proclaims (at 1 1) (head (declared (at 1 1) (codes "f")) [] ((parameters ((name_at (at 1 8) (codes "a")) ∷ []) mode.Plain (w.named (at
    1 11) (codes "int") w.no_arguments)) ∷ []) (Some (w.named (at 1 17) (codes "int") w.no_arguments)) []) (s.then (s.branches (at 2 3) (s.branch (at 2 3)
    (t.part (t.binary (at 2 6) sign.Equal (t.name (at 2 6) (codes "a")) (t.int (at 2 11) (pos 1))) t.no_parts) (s.then (s.returns (at 2 14) (Some (t.name (at
    2 21) (codes "result")))) s.empty) s.no_branches) s.empty) (s.then (s.assigns (at 3 3) assign.Set (t.name (at 3 3) (codes "result")) (t.name (at 3 12)
    (codes "a"))) (s.then (s.evaluates (at 4 3) (t.name (at 4 3) (codes "result"))) s.empty)))) (s.then (s.defines (at 5 1) binding.Var ((defined ((declared
    (at 5 5) (codes "x")) ∷ []) [] None (Some (t.call (at 5 9) (t.name (at 5 9) (codes "f")) (t.part (t.int (at 5 11) (pos 1)) t.no_parts)))) ∷ [])) (s.then
    (s.assigns (at 6 1) assign.Set (t.name (at 6 1) (codes "x")) (t.name (at 6 5) (codes "x"))) (s.then (s.selects (at 7 1) (t.name (at 7 6) (codes "x"))
    (s.branch (at 8 1) (t.part (t.int (at 8 4) (pos 1)) t.no_parts) (s.then (s.discards (at 8 7) None) s.empty) s.no_branches) (s.then (s.discards (at 9 7)
    (Some (t.call (at 9 15) (t.name (at 9 15) (codes "f")) (t.part (t.int (at 9 17) (pos 2)) t.no_parts)))) s.empty)) s.empty))))
    ∷ []

abbrev int_at : (number : ℕ) → Place → ℕ → Expr
int_at number at n = literal (node number at) type.int (Number (pos n))

abbrev x_at : (number : ℕ) → Place → Path
x_at number at = Variable (node number at) type.int 2 true

abbrev result_at : (number : ℕ) → Place → Path
result_at number at = Variable (node number at) type.int 1 false

abbrev pub expected_programs : List (Answer Program)
expected_programs =
    Ok (program [] [] (place_of 0 (codes "x") (at 1 5) type.int ∷ []) 1
    (Declare (node 0 (at 1 1)) (place_of 0 (codes "x") (at 1 5) type.int) false (one_value (int_at 1 (at 1 9) 1))
    (Then (discard (node 2 (at 2 1)) (echo (node 3 (at 2 1)) (one_value (Read (Variable (node 4 (at 2 6)) type.int 0 true))))) Empty)))
    ∷ Ok (program []
    (proc (codes "f") (at 3 1) (by_value (place_of 1 (codes "k") (at 3 8) type.int) ∷ []) (Some type.int)
    (body 1 3 3 (Some (place_of 2 (codes "result") (at 3 17) type.int))
    (Then (Loop (node 3 (at 4 3)) (Count (place_of 3 (codes "i") (at 4 7) type.int) true)
    (two_values (int_at 4 (at 4 12) 0) (Read (Variable (node 5 (at 4 15)) type.int 1 false)))
    (Then (update (node 6 (at 4 18)) operator.Add (Variable (node 7 (at 4 18)) type.int 2 false)
    (Read (Variable (node 8 (at 4 28)) type.int 3 false))) Empty)) Empty))
    ∷ proc (codes "g") (at 2 1) [] (Some type.int)
    (body 0 1 0 (Some (place_of 0 (codes "result") (at 2 11) type.int))
    (Then (Give (node 0 (at 2 17)) false (call (node 1 (at 2 17)) (Some type.int) 0 (one_value (int_at 2 (at 2 19) 1)))) Empty))
    ∷ []) [] 4 Empty)
    ∷ Ok (program (record { of = color; fact = type.members (codes "red" ∷ codes "blue" ∷ []) } ∷ []) [] [] 1
    (Then (Idle (node 0 (at 1 1)) NoArg) (Then (Idle (node 1 (at 2 1)) NoArg)
    (Then (Select (node 2 (at 3 1)) ByConditions (one_value (literal (node 3 (at 3 4)) type.bool (Number (pos 1))))
    (Block (Declare (node 4 (at 4 3)) (place_of 0 (codes "q") (at 4 7) (type.sequence color)) false NoArg
    (Then (discard (node 5 (at 5 3)) (acting (node 6 (at 5 3)) operation.Add
    (path_and_value (Variable (node 7 (at 5 3)) (type.sequence color) 0 false) (literal (node 8 (at 5 9)) color (Number (pos 1)))))) Empty))
    (Otherwise Empty))) Empty))))
    ∷ Ok (program (record { of = metre; fact = type.base type.int } ∷ [])
    (proc (codes "`==`") (at 2 1) (by_value (place_of 0 (codes "a") (at 2 11) metre) ∷ by_value (place_of 1 (codes "b") (at 2 14) metre) ∷ []) (Some
    type.bool) None ∷ [])
    (place_of 2 (codes "x") (at 3 5) metre ∷ place_of 3 (codes "y") (at 3 8) metre ∷ []) 4
    (Then (Idle (node 0 (at 1 1)) NoArg)
    (Declare (node 1 (at 3 1)) (place_of 2 (codes "x") (at 3 5) metre) false (one_value (convert (node 2 (at 3 12)) metre (int_at 3 (at 3 14) 1)))
    (Declare (node 4 (at 3 1)) (place_of 3 (codes "y") (at 3 8) metre) false (one_value (convert (node 5 (at 3 12)) metre (int_at 6 (at 3 14) 1)))
    Empty))))
    ∷ Ok (program []
    (proc (codes "f") (at 1 1) (by_value (place_of 0 (codes "a") (at 1 8) type.int) ∷ []) (Some type.int)
    (body 0 2 0 (Some (place_of 1 (codes "result") (at 1 17) type.int))
    (Then (Select (node 0 (at 2 3)) ByConditions (one_value (compare (node 1 (at 2 6)) type.bool comparison.Equal
    (Read (Variable (node 2 (at 2 6)) type.int 0 false)) (int_at 3 (at 2 11) 1)))
    (Block (Then (Leave (node 4 (at 2 14)) leaving.Return (one_value (Read (result_at 5 (at 2 21))))) Empty) (Otherwise Empty)))
    (Then (assign (node 6 (at 3 3)) (result_at 7 (at 3 3)) (Read (Variable (node 8 (at 3 12)) type.int 0 false)))
    (Then (Idle (node 9 (at 4 3)) (one_value (Read (result_at 10 (at 4 3))))) Empty))))
    ∷ []) (place_of 2 (codes "x") (at 5 5) type.int ∷ []) 3
    (Declare (node 11 (at 5 1)) (place_of 2 (codes "x") (at 5 5) type.int) false
    (one_value (call (node 12 (at 5 9)) (Some type.int) 0 (one_value (int_at 13 (at 5 11) 1))))
    (Then (Idle (node 14 (at 6 1)) (path_and_value (x_at 15 (at 6 1)) (Read (x_at 16 (at 6 5)))))
    (Then (Select (node 17 (at 7 1)) (ByLabels ((Ordinals (pos 1) (pos 1) ∷ []) ∷ [])) (one_path (x_at 18 (at 7 6)))
    (Block (Then (Idle (node 19 (at 8 7)) NoArg) Empty)
    (Otherwise (Then (discard (node 20 (at 9 7)) (call (node 21 (at 9 15)) (Some type.int) 0 (one_value (int_at 22 (at 9 17) 2)))) Empty)))) Empty))))
    ∷ []
