-- Examples of statements: above each module its text.
use Rattle.std.specs.Prelude.{pos, List, [], ◌∷◌, codes, Some, None}
use Rattle.arc_base.specs.declared.place.Code.TheVariants.{UnknownName, NotTyped, CaseCover}
use Rattle.nim_tree.specs.declared.expr.UnaryOp.TheVariants as unary_sign
use Rattle.nim_tree.specs.declared.expr.BinaryOp.TheVariants as sign
use Rattle.nim_tree.specs.declared.stmt.AssignOp.TheVariants as assign
use Rattle.nim_tree.specs.declared.stmt.Binding.TheVariants as binding
use Rattle.nim_tree.specs.declared.stmt.ParamMode.TheVariants as mode
use Rattle.nim_tree.specs.Terms as t
use Rattle.nim_tree.specs.Types as w
use Rattle.nim_tree.specs.Statements as s
use Rattle.decl_rules.specs.Examples.{Row, row, accepted, stops, at, name_at, declared, defined, parameters, head, declaration}

abbrev pub statement_rows : List Row
statement_rows =
    -- 1
    row (stops NotTyped 1 1) (s.then (s.evaluates (at 1 1) (t.int (at 1 1) (pos 1))) s.empty)
    -- true
    ∷ row (stops NotTyped 1 1) (s.then (s.evaluates (at 1 1) (t.name (at 1 1) (codes "true"))) s.empty)
    -- len("a")
    ∷ row (stops NotTyped 1 1) (s.then (s.evaluates (at 1 1) (t.call (at 1 1) (t.name (at 1 1) (codes "len")) (t.part (t.text (at 1 5) (codes "\"a\""))
    t.no_parts))) s.empty)
    -- discard
    ∷ row accepted (s.then (s.discards (at 1 1) None) s.empty)
    -- discard 1
    ∷ row accepted (s.then (s.discards (at 1 1) (Some (t.int (at 1 9) (pos 1)))) s.empty)
    -- let x = 1
    -- discard x
    ∷ row accepted (s.then (s.defines (at 1 1) binding.Let ((defined ((declared (at 1 5) (codes "x")) ∷ []) [] None (Some (t.int (at 1 9) (pos 1)))) ∷ []))
    (s.then (s.discards (at 2 1) (Some (t.name (at 2 9) (codes "x")))) s.empty))
    -- proc f(): int = 1
    -- echo f()
    ∷ row accepted (s.then (s.proclaims (at 1 1) (head (declared (at 1 1) (codes "f")) [] [] (Some (w.named (at 1 11) (codes "int") w.no_arguments)) [])
    (s.then (s.evaluates (at 1 17) (t.int (at 1 17) (pos 1))) s.empty)) (s.then (s.commands (at 2 1) (t.name (at 2 1) (codes "echo")) (t.part (t.call (at 2
    6) (t.name (at 2 6) (codes "f")) t.no_parts) t.no_parts)) s.empty))
    -- proc f(): int =
    --   let x = 1
    --   x
    -- echo f()
    ∷ row accepted (s.then (s.proclaims (at 1 1) (head (declared (at 1 1) (codes "f")) [] [] (Some (w.named (at 1 11) (codes "int") w.no_arguments)) [])
    (s.then (s.defines (at 2 3) binding.Let ((defined ((declared (at 2 7) (codes "x")) ∷ []) [] None (Some (t.int (at 2 11) (pos 1)))) ∷ [])) (s.then
    (s.evaluates (at 3 3) (t.name (at 3 3) (codes "x"))) s.empty))) (s.then (s.commands (at 4 1) (t.name (at 4 1) (codes "echo")) (t.part (t.call (at 4 6)
    (t.name (at 4 6) (codes "f")) t.no_parts) t.no_parts)) s.empty))
    -- proc f(x: int): string =
    --   echo x
    --   $x
    -- echo f(1)
    ∷ row accepted (s.then (s.proclaims (at 1 1) (head (declared (at 1 1) (codes "f")) [] ((parameters ((name_at (at 1 8) (codes "x")) ∷ []) mode.Plain
    (w.named (at 1 11) (codes "int") w.no_arguments)) ∷ []) (Some (w.named (at 1 17) (codes "string") w.no_arguments)) []) (s.then (s.commands (at 2 3)
    (t.name (at 2 3) (codes "echo")) (t.part (t.name (at 2 8) (codes "x")) t.no_parts)) (s.then (s.evaluates (at 3 3) (t.unary (at 3 3) unary_sign.Dollar
    (t.name (at 3 4) (codes "x")))) s.empty))) (s.then (s.commands (at 4 1) (t.name (at 4 1) (codes "echo")) (t.part (t.call (at 4 6) (t.name (at 4 6) (codes
    "f")) (t.part (t.int (at 4 8) (pos 1)) t.no_parts)) t.no_parts)) s.empty))
    -- proc f() = return
    ∷ row accepted (s.then (s.proclaims (at 1 1) (head (declared (at 1 1) (codes "f")) [] [] None []) (s.then (s.returns (at 1 12) None) s.empty)) s.empty)
    -- proc f(): int = return
    ∷ row accepted (s.then (s.proclaims (at 1 1) (head (declared (at 1 1) (codes "f")) [] [] (Some (w.named (at 1 11) (codes "int") w.no_arguments)) [])
    (s.then (s.returns (at 1 17) None) s.empty)) s.empty)
    -- proc f(): int = return 1 + true
    ∷ row (stops NotTyped 1 24) (s.then (s.proclaims (at 1 1) (head (declared (at 1 1) (codes "f")) [] [] (Some (w.named (at 1 11) (codes "int")
    w.no_arguments)) []) (s.then (s.returns (at 1 17) (Some (t.binary (at 1 24) sign.Plus (t.int (at 1 24) (pos 1)) (t.name (at 1 28) (codes "true")))))
    s.empty)) s.empty)
    -- let x = 1
    -- echo x
    ∷ row accepted (s.then (s.defines (at 1 1) binding.Let ((defined ((declared (at 1 5) (codes "x")) ∷ []) [] None (Some (t.int (at 1 9) (pos 1)))) ∷ []))
    (s.then (s.commands (at 2 1) (t.name (at 2 1) (codes "echo")) (t.part (t.name (at 2 6) (codes "x")) t.no_parts)) s.empty))
    -- var x = 1
    -- echo x
    ∷ row accepted (s.then (s.defines (at 1 1) binding.Var ((defined ((declared (at 1 5) (codes "x")) ∷ []) [] None (Some (t.int (at 1 9) (pos 1)))) ∷ []))
    (s.then (s.commands (at 2 1) (t.name (at 2 1) (codes "echo")) (t.part (t.name (at 2 6) (codes "x")) t.no_parts)) s.empty))
    -- const x
    ∷ row (stops NotTyped 1 7) (s.then (s.defines (at 1 1) binding.Const ((defined ((declared (at 1 7) (codes "x")) ∷ []) [] None None) ∷ [])) s.empty)
    -- var x = 1
    -- x = 2
    ∷ row accepted (s.then (s.defines (at 1 1) binding.Var ((defined ((declared (at 1 5) (codes "x")) ∷ []) [] None (Some (t.int (at 1 9) (pos 1)))) ∷ []))
    (s.then (s.assigns (at 2 1) assign.Set (t.name (at 2 1) (codes "x")) (t.int (at 2 5) (pos 2))) s.empty))
    -- var x = 1
    -- x = x + 1
    ∷ row accepted (s.then (s.defines (at 1 1) binding.Var ((defined ((declared (at 1 5) (codes "x")) ∷ []) [] None (Some (t.int (at 1 9) (pos 1)))) ∷ []))
    (s.then (s.assigns (at 2 1) assign.Set (t.name (at 2 1) (codes "x")) (t.binary (at 2 5) sign.Plus (t.name (at 2 5) (codes "x")) (t.int (at 2 9) (pos
    1)))) s.empty))
    -- var x = [1]
    -- x = [1, 2]
    ∷ row (stops NotTyped 2 5) (s.then (s.defines (at 1 1) binding.Var ((defined ((declared (at 1 5) (codes "x")) ∷ []) [] None (Some (t.array (at 1 9)
    (t.part (t.int (at 1 10) (pos 1)) t.no_parts)))) ∷ [])) (s.then (s.assigns (at 2 1) assign.Set (t.name (at 2 1) (codes "x")) (t.array (at 2 5) (t.part
    (t.int (at 2 6) (pos 1)) (t.part (t.int (at 2 9) (pos 2)) t.no_parts)))) s.empty))
    -- var x = 1
    -- x += 2
    ∷ row accepted (s.then (s.defines (at 1 1) binding.Var ((defined ((declared (at 1 5) (codes "x")) ∷ []) [] None (Some (t.int (at 1 9) (pos 1)))) ∷ []))
    (s.then (s.assigns (at 2 1) assign.Plus (t.name (at 2 1) (codes "x")) (t.int (at 2 6) (pos 2))) s.empty))
    -- var x = 1
    -- x += 1 + true
    ∷ row (stops NotTyped 2 6) (s.then (s.defines (at 1 1) binding.Var ((defined ((declared (at 1 5) (codes "x")) ∷ []) [] None (Some (t.int (at 1 9) (pos
    1)))) ∷ [])) (s.then (s.assigns (at 2 1) assign.Plus (t.name (at 2 1) (codes "x")) (t.binary (at 2 6) sign.Plus (t.int (at 2 6) (pos 1)) (t.name (at 2
    10) (codes "true")))) s.empty))
    -- var s = "a"
    -- s &= "b"
    ∷ row accepted (s.then (s.defines (at 1 1) binding.Var ((defined ((declared (at 1 5) (codes "s")) ∷ []) [] None (Some (t.text (at 1 9) (codes "\"a\""))))
    ∷ [])) (s.then (s.assigns (at 2 1) assign.Join (t.name (at 2 1) (codes "s")) (t.text (at 2 6) (codes "\"b\""))) s.empty))
    -- var s = "a"
    -- s &= y
    ∷ row (stops UnknownName 2 6) (s.then (s.defines (at 1 1) binding.Var ((defined ((declared (at 1 5) (codes "s")) ∷ []) [] None (Some (t.text (at 1 9)
    (codes "\"a\"")))) ∷ [])) (s.then (s.assigns (at 2 1) assign.Join (t.name (at 2 1) (codes "s")) (t.name (at 2 6) (codes "y"))) s.empty))
    ∷ []

abbrev pub loop_rows : List Row
loop_rows =
    -- for i in 0..2:
    --   echo i
    row accepted (s.then (s.counts (at 1 1) (name_at (at 1 5) (codes "i")) (s.up_to (t.int (at 1 10) (pos 0)) (t.int (at 1 13) (pos 2))) (s.then (s.commands
    (at 2 3) (t.name (at 2 3) (codes "echo")) (t.part (t.name (at 2 8) (codes "i")) t.no_parts)) s.empty)) s.empty)
    -- for i in 0..true:
    --   echo i
    ∷ row (stops NotTyped 1 13) (s.then (s.counts (at 1 1) (name_at (at 1 5) (codes "i")) (s.up_to (t.int (at 1 10) (pos 0)) (t.name (at 1 13) (codes
    "true"))) (s.then (s.commands (at 2 3) (t.name (at 2 3) (codes "echo")) (t.part (t.name (at 2 8) (codes "i")) t.no_parts)) s.empty)) s.empty)
    -- for c in "ab":
    --   let x: char = c
    --   echo x
    ∷ row accepted (s.then (s.counts (at 1 1) (name_at (at 1 5) (codes "c")) (s.each (t.text (at 1 10) (codes "\"ab\""))) (s.then (s.defines (at 2 3)
    binding.Let ((defined ((declared (at 2 7) (codes "x")) ∷ []) [] (Some (w.named (at 2 10) (codes "char") w.no_arguments)) (Some (t.name (at 2 17) (codes
    "c")))) ∷ [])) (s.then (s.commands (at 3 3) (t.name (at 3 3) (codes "echo")) (t.part (t.name (at 3 8) (codes "x")) t.no_parts)) s.empty))) s.empty)
    -- for x in 5:
    --   echo x
    ∷ row (stops NotTyped 1 10) (s.then (s.counts (at 1 1) (name_at (at 1 5) (codes "x")) (s.each (t.int (at 1 10) (pos 5))) (s.then (s.commands (at 2 3)
    (t.name (at 2 3) (codes "echo")) (t.part (t.name (at 2 8) (codes "x")) t.no_parts)) s.empty)) s.empty)
    -- while true:
    --   echo 1
    ∷ row accepted (s.then (s.repeats (at 1 1) (t.name (at 1 7) (codes "true")) (s.then (s.commands (at 2 3) (t.name (at 2 3) (codes "echo")) (t.part (t.int
    (at 2 8) (pos 1)) t.no_parts)) s.empty)) s.empty)
    -- while 'a':
    --   echo 1
    ∷ row (stops NotTyped 1 7) (s.then (s.repeats (at 1 1) (t.char (at 1 7) 97) (s.then (s.commands (at 2 3) (t.name (at 2 3) (codes "echo")) (t.part (t.int
    (at 2 8) (pos 1)) t.no_parts)) s.empty)) s.empty)
    -- while true:
    --   break
    ∷ row accepted (s.then (s.repeats (at 1 1) (t.name (at 1 7) (codes "true")) (s.then (s.breaks (at 2 3)) s.empty)) s.empty)
    -- continue
    ∷ row (stops NotTyped 1 1) (s.then (s.continues (at 1 1)) s.empty)
    ∷ []

abbrev pub case_rows : List Row
case_rows =
    -- type C = enum red, blue
    -- var c = red
    -- case c
    -- of red: echo 1
    row (stops CaseCover 3 1) (s.then (s.types (at 1 1) ((declaration (declared (at 1 6) (codes "C")) [] (w.enum (at 1 6) ((name_at (at 1 15) (codes "red"))
    ∷ (name_at (at 1 20) (codes "blue")) ∷ []))) ∷ [])) (s.then (s.defines (at 2 1) binding.Var ((defined ((declared (at 2 5) (codes "c")) ∷ []) [] None
    (Some (t.name (at 2 9) (codes "red")))) ∷ [])) (s.then (s.selects (at 3 1) (t.name (at 3 6) (codes "c")) (s.branch (at 3 1) (t.part (t.name (at 4 4)
    (codes "red")) t.no_parts) (s.then (s.commands (at 4 9) (t.name (at 4 9) (codes "echo")) (t.part (t.int (at 4 14) (pos 1)) t.no_parts)) s.empty)
    s.no_branches) s.empty) s.empty)))
    -- type C = enum red, blue
    -- let c = red
    -- case c
    -- of red: echo 1
    -- of blue: echo 2
    ∷ row accepted (s.then (s.types (at 1 1) ((declaration (declared (at 1 6) (codes "C")) [] (w.enum (at 1 6) ((name_at (at 1 15) (codes "red")) ∷ (name_at
    (at 1 20) (codes "blue")) ∷ []))) ∷ [])) (s.then (s.defines (at 2 1) binding.Let ((defined ((declared (at 2 5) (codes "c")) ∷ []) [] None (Some (t.name
    (at 2 9) (codes "red")))) ∷ [])) (s.then (s.selects (at 3 1) (t.name (at 3 6) (codes "c")) (s.branch (at 3 1) (t.part (t.name (at 4 4) (codes "red"))
    t.no_parts) (s.then (s.commands (at 4 9) (t.name (at 4 9) (codes "echo")) (t.part (t.int (at 4 14) (pos 1)) t.no_parts)) s.empty) (s.branch (at 3 1)
    (t.part (t.name (at 5 4) (codes "blue")) t.no_parts) (s.then (s.commands (at 5 10) (t.name (at 5 10) (codes "echo")) (t.part (t.int (at 5 15) (pos 2))
    t.no_parts)) s.empty) s.no_branches)) s.empty) s.empty)))
    -- case 1 == 2
    -- of true: echo 1
    -- of false: echo 2
    ∷ row accepted (s.then (s.selects (at 1 1) (t.binary (at 1 6) sign.Equal (t.int (at 1 6) (pos 1)) (t.int (at 1 11) (pos 2))) (s.branch (at 1 1) (t.part
    (t.name (at 2 4) (codes "true")) t.no_parts) (s.then (s.commands (at 2 10) (t.name (at 2 10) (codes "echo")) (t.part (t.int (at 2 15) (pos 1))
    t.no_parts)) s.empty) (s.branch (at 1 1) (t.part (t.name (at 3 4) (codes "false")) t.no_parts) (s.then (s.commands (at 3 11) (t.name (at 3 11) (codes
    "echo")) (t.part (t.int (at 3 16) (pos 2)) t.no_parts)) s.empty) s.no_branches)) s.empty) s.empty)
    -- case 'a'
    -- of 'a': echo 1
    -- else: echo 2
    ∷ row accepted (s.then (s.selects (at 1 1) (t.char (at 1 6) 97) (s.branch (at 1 1) (t.part (t.char (at 2 4) 97) t.no_parts) (s.then (s.commands (at 2 9)
    (t.name (at 2 9) (codes "echo")) (t.part (t.int (at 2 14) (pos 1)) t.no_parts)) s.empty) s.no_branches) (s.then (s.commands (at 3 7) (t.name (at 3 7)
    (codes "echo")) (t.part (t.int (at 3 12) (pos 2)) t.no_parts)) s.empty)) s.empty)
    -- case 1
    -- of 1: echo 1
    -- else: echo 2
    ∷ row accepted (s.then (s.selects (at 1 1) (t.int (at 1 6) (pos 1)) (s.branch (at 1 1) (t.part (t.int (at 2 4) (pos 1)) t.no_parts) (s.then (s.commands
    (at 2 7) (t.name (at 2 7) (codes "echo")) (t.part (t.int (at 2 12) (pos 1)) t.no_parts)) s.empty) s.no_branches) (s.then (s.commands (at 3 7) (t.name (at
    3 7) (codes "echo")) (t.part (t.int (at 3 12) (pos 2)) t.no_parts)) s.empty)) s.empty)
    -- case "a"
    -- of "a": echo 1
    -- else: echo 2
    ∷ row accepted (s.then (s.selects (at 1 1) (t.text (at 1 6) (codes "\"a\"")) (s.branch (at 1 1) (t.part (t.text (at 2 4) (codes "\"a\"")) t.no_parts)
    (s.then (s.commands (at 2 9) (t.name (at 2 9) (codes "echo")) (t.part (t.int (at 2 14) (pos 1)) t.no_parts)) s.empty) s.no_branches) (s.then (s.commands
    (at 3 7) (t.name (at 3 7) (codes "echo")) (t.part (t.int (at 3 12) (pos 2)) t.no_parts)) s.empty)) s.empty)
    -- type C = enum red, blue
    -- let x = case red of red: 1 of blue: 2
    -- echo x
    ∷ row accepted (s.then (s.types (at 1 1) ((declaration (declared (at 1 6) (codes "C")) [] (w.enum (at 1 6) ((name_at (at 1 15) (codes "red")) ∷ (name_at
    (at 1 20) (codes "blue")) ∷ []))) ∷ [])) (s.then (s.defines (at 2 1) binding.Let ((defined ((declared (at 2 5) (codes "x")) ∷ []) [] None (Some
    (t.case_term (at 2 9) (t.name (at 2 14) (codes "red")) (t.choice (at 2 26) (t.part (t.name (at 2 21) (codes "red")) t.no_parts) (t.int (at 2 26) (pos 1))
    (t.choice (at 2 37) (t.part (t.name (at 2 31) (codes "blue")) t.no_parts) (t.int (at 2 37) (pos 2)) t.no_choices))))) ∷ [])) (s.then (s.commands (at 3 1)
    (t.name (at 3 1) (codes "echo")) (t.part (t.name (at 3 6) (codes "x")) t.no_parts)) s.empty)))
    -- case [1]
    -- of 1: echo 1
    -- else: echo 2
    ∷ row (stops NotTyped 1 6) (s.then (s.selects (at 1 1) (t.array (at 1 6) (t.part (t.int (at 1 7) (pos 1)) t.no_parts)) (s.branch (at 1 1) (t.part (t.int
    (at 2 4) (pos 1)) t.no_parts) (s.then (s.commands (at 2 7) (t.name (at 2 7) (codes "echo")) (t.part (t.int (at 2 12) (pos 1)) t.no_parts)) s.empty)
    s.no_branches) (s.then (s.commands (at 3 7) (t.name (at 3 7) (codes "echo")) (t.part (t.int (at 3 12) (pos 2)) t.no_parts)) s.empty)) s.empty)
    ∷ []
