-- Examples of procedures: above each module its text.
use Rattle.std.specs.Prelude.{pos, List, [], ◌∷◌, codes, Some, None}
use Rattle.arc_base.specs.declared.place.Code.TheVariants.{Redefined, NotTyped}
use Rattle.arc_base.specs.declared.place.Code.TheVariants.{MissingBody}
use Rattle.nim_tree.specs.declared.name.PragmaKind.TheVariants as pragma
use Rattle.nim_tree.specs.declared.expr.UnaryOp.TheVariants as unary_sign
use Rattle.nim_tree.specs.declared.expr.BinaryOp.TheVariants as sign
use Rattle.nim_tree.specs.declared.stmt.AssignOp.TheVariants as assign
use Rattle.nim_tree.specs.declared.stmt.Binding.TheVariants as binding
use Rattle.nim_tree.specs.declared.stmt.ParamMode.TheVariants as mode
use Rattle.nim_tree.specs.Terms as t
use Rattle.nim_tree.specs.Types as w
use Rattle.nim_tree.specs.Statements as s
use Rattle.decl_rules.specs.Examples.{Row, row, accepted, stops, at, name_at, declared, quoted, pragma_of, defined, parameters, head, declaration}

abbrev pub procedure_rows : List Row
procedure_rows =
    -- proc f = discard
    -- f()
    row accepted (s.then (s.proclaims (at 1 1) (head (declared (at 1 1) (codes "f")) [] [] None []) (s.then (s.discards (at 1 10) None) s.empty)) (s.then
    (s.evaluates (at 2 1) (t.call (at 2 1) (t.name (at 2 1) (codes "f")) t.no_parts)) s.empty))
    -- proc f() = discard
    -- f()
    ∷ row accepted (s.then (s.proclaims (at 1 1) (head (declared (at 1 1) (codes "f")) [] [] None []) (s.then (s.discards (at 1 12) None) s.empty)) (s.then
    (s.evaluates (at 2 1) (t.call (at 2 1) (t.name (at 2 1) (codes "f")) t.no_parts)) s.empty))
    -- proc f(a: int): int {.inline.} = a
    -- echo f(1)
    ∷ row accepted (s.then (s.proclaims (at 1 1) (head (declared (at 1 1) (codes "f")) [] ((parameters ((name_at (at 1 8) (codes "a")) ∷ []) mode.Plain
    (w.named (at 1 11) (codes "int") w.no_arguments)) ∷ []) (Some (w.named (at 1 17) (codes "int") w.no_arguments)) ((pragma_of pragma.Inline) ∷ [])) (s.then
    (s.evaluates (at 1 34) (t.name (at 1 34) (codes "a"))) s.empty)) (s.then (s.commands (at 2 1) (t.name (at 2 1) (codes "echo")) (t.part (t.call (at 2 6)
    (t.name (at 2 6) (codes "f")) (t.part (t.int (at 2 8) (pos 1)) t.no_parts)) t.no_parts)) s.empty))
    -- proc f*(a: int): int = a
    -- echo f(1)
    ∷ row accepted (s.then (s.proclaims (at 1 1) (head (declared (at 1 1) (codes "f")) [] ((parameters ((name_at (at 1 9) (codes "a")) ∷ []) mode.Plain
    (w.named (at 1 12) (codes "int") w.no_arguments)) ∷ []) (Some (w.named (at 1 18) (codes "int") w.no_arguments)) []) (s.then (s.evaluates (at 1 24)
    (t.name (at 1 24) (codes "a"))) s.empty)) (s.then (s.commands (at 2 1) (t.name (at 2 1) (codes "echo")) (t.part (t.call (at 2 6) (t.name (at 2 6) (codes
    "f")) (t.part (t.int (at 2 8) (pos 1)) t.no_parts)) t.no_parts)) s.empty))
    -- proc f(): int = result = 1
    -- echo f()
    ∷ row accepted (s.then (s.proclaims (at 1 1) (head (declared (at 1 1) (codes "f")) [] [] (Some (w.named (at 1 11) (codes "int") w.no_arguments)) [])
    (s.then (s.assigns (at 1 17) assign.Set (t.name (at 1 17) (codes "result")) (t.int (at 1 26) (pos 1))) s.empty)) (s.then (s.commands (at 2 1) (t.name (at
    2 1) (codes "echo")) (t.part (t.call (at 2 6) (t.name (at 2 6) (codes "f")) t.no_parts) t.no_parts)) s.empty))
    -- proc f(): int = return 1
    -- echo f()
    ∷ row accepted (s.then (s.proclaims (at 1 1) (head (declared (at 1 1) (codes "f")) [] [] (Some (w.named (at 1 11) (codes "int") w.no_arguments)) [])
    (s.then (s.returns (at 1 17) (Some (t.int (at 1 24) (pos 1)))) s.empty)) (s.then (s.commands (at 2 1) (t.name (at 2 1) (codes "echo")) (t.part (t.call
    (at 2 6) (t.name (at 2 6) (codes "f")) t.no_parts) t.no_parts)) s.empty))
    -- proc f() = return
    ∷ row accepted (s.then (s.proclaims (at 1 1) (head (declared (at 1 1) (codes "f")) [] [] None []) (s.then (s.returns (at 1 12) None) s.empty)) s.empty)
    -- proc f() =
    --   echo 1
    --   2
    ∷ row (stops NotTyped 3 3) (s.then (s.proclaims (at 1 1) (head (declared (at 1 1) (codes "f")) [] [] None []) (s.then (s.commands (at 2 3) (t.name (at 2
    3) (codes "echo")) (t.part (t.int (at 2 8) (pos 1)) t.no_parts)) (s.then (s.evaluates (at 3 3) (t.int (at 3 3) (pos 2))) s.empty))) s.empty)
    -- proc f()
    -- proc f() = discard
    -- f()
    ∷ row accepted (s.then (s.proclaims (at 1 1) (head (declared (at 1 1) (codes "f")) [] [] None []) s.empty) (s.then (s.proclaims (at 2 1) (head (declared
    (at 2 1) (codes "f")) [] [] None []) (s.then (s.discards (at 2 12) None) s.empty)) (s.then (s.evaluates (at 3 1) (t.call (at 3 1) (t.name (at 3 1) (codes
    "f")) t.no_parts)) s.empty)))
    -- proc f()
    -- f()
    -- proc f() = discard
    ∷ row accepted (s.then (s.proclaims (at 1 1) (head (declared (at 1 1) (codes "f")) [] [] None []) s.empty) (s.then (s.evaluates (at 2 1) (t.call (at 2 1)
    (t.name (at 2 1) (codes "f")) t.no_parts)) (s.then (s.proclaims (at 3 1) (head (declared (at 3 1) (codes "f")) [] [] None []) (s.then (s.discards (at 3
    12) None) s.empty)) s.empty)))
    -- proc f(x: int)
    -- proc f(x: int): int = x
    ∷ row (stops Redefined 2 1) (s.then (s.proclaims (at 1 1) (head (declared (at 1 1) (codes "f")) [] ((parameters ((name_at (at 1 8) (codes "x")) ∷ [])
    mode.Plain (w.named (at 1 11) (codes "int") w.no_arguments)) ∷ []) None []) s.empty) (s.then (s.proclaims (at 2 1) (head (declared (at 2 1) (codes "f"))
    [] ((parameters ((name_at (at 2 8) (codes "x")) ∷ []) mode.Plain (w.named (at 2 11) (codes "int") w.no_arguments)) ∷ []) (Some (w.named (at 2 17) (codes
    "int") w.no_arguments)) []) (s.then (s.evaluates (at 2 23) (t.name (at 2 23) (codes "x"))) s.empty)) s.empty))
    -- proc f(x: int): int
    -- proc f(x: int) = discard
    ∷ row (stops Redefined 2 1) (s.then (s.proclaims (at 1 1) (head (declared (at 1 1) (codes "f")) [] ((parameters ((name_at (at 1 8) (codes "x")) ∷ [])
    mode.Plain (w.named (at 1 11) (codes "int") w.no_arguments)) ∷ []) (Some (w.named (at 1 17) (codes "int") w.no_arguments)) []) s.empty) (s.then
    (s.proclaims (at 2 1) (head (declared (at 2 1) (codes "f")) [] ((parameters ((name_at (at 2 8) (codes "x")) ∷ []) mode.Plain (w.named (at 2 11) (codes
    "int") w.no_arguments)) ∷ []) None []) (s.then (s.discards (at 2 18) None) s.empty)) s.empty))
    -- proc f()
    ∷ row (stops MissingBody 1 1) (s.then (s.proclaims (at 1 1) (head (declared (at 1 1) (codes "f")) [] [] None []) s.empty) s.empty)
    -- proc f()
    -- f()
    ∷ row (stops MissingBody 1 1) (s.then (s.proclaims (at 1 1) (head (declared (at 1 1) (codes "f")) [] [] None []) s.empty) (s.then (s.evaluates (at 2 1)
    (t.call (at 2 1) (t.name (at 2 1) (codes "f")) t.no_parts)) s.empty))
    -- proc f()
    -- proc g()
    -- proc g() = discard
    ∷ row (stops MissingBody 1 1) (s.then (s.proclaims (at 1 1) (head (declared (at 1 1) (codes "f")) [] [] None []) s.empty) (s.then (s.proclaims (at 2 1)
    (head (declared (at 2 1) (codes "g")) [] [] None []) s.empty) (s.then (s.proclaims (at 3 1) (head (declared (at 3 1) (codes "g")) [] [] None []) (s.then
    (s.discards (at 3 12) None) s.empty)) s.empty)))
    -- proc f()
    -- var x = 1
    -- proc f() = discard
    ∷ row (stops MissingBody 1 1) (s.then (s.proclaims (at 1 1) (head (declared (at 1 1) (codes "f")) [] [] None []) s.empty) (s.then (s.defines (at 2 1)
    binding.Var ((defined ((declared (at 2 5) (codes "x")) ∷ []) [] None (Some (t.int (at 2 9) (pos 1)))) ∷ [])) (s.then (s.proclaims (at 3 1) (head
    (declared (at 3 1) (codes "f")) [] [] None []) (s.then (s.discards (at 3 12) None) s.empty)) s.empty)))
    -- proc f()
    -- let x = 1
    -- proc f() = discard
    ∷ row (stops MissingBody 1 1) (s.then (s.proclaims (at 1 1) (head (declared (at 1 1) (codes "f")) [] [] None []) s.empty) (s.then (s.defines (at 2 1)
    binding.Let ((defined ((declared (at 2 5) (codes "x")) ∷ []) [] None (Some (t.int (at 2 9) (pos 1)))) ∷ [])) (s.then (s.proclaims (at 3 1) (head
    (declared (at 3 1) (codes "f")) [] [] None []) (s.then (s.discards (at 3 12) None) s.empty)) s.empty)))
    -- proc f()
    -- if true:
    --   var x = 1
    --   echo x
    -- proc f() = discard
    -- f()
    ∷ row accepted (s.then (s.proclaims (at 1 1) (head (declared (at 1 1) (codes "f")) [] [] None []) s.empty) (s.then (s.branches (at 2 1) (s.branch (at 2
    1) (t.part (t.name (at 2 4) (codes "true")) t.no_parts) (s.then (s.defines (at 3 3) binding.Var ((defined ((declared (at 3 7) (codes "x")) ∷ []) [] None
    (Some (t.int (at 3 11) (pos 1)))) ∷ [])) (s.then (s.commands (at 4 3) (t.name (at 4 3) (codes "echo")) (t.part (t.name (at 4 8) (codes "x")) t.no_parts))
    s.empty)) s.no_branches) s.empty) (s.then (s.proclaims (at 5 1) (head (declared (at 5 1) (codes "f")) [] [] None []) (s.then (s.discards (at 5 12) None)
    s.empty)) (s.then (s.evaluates (at 6 1) (t.call (at 6 1) (t.name (at 6 1) (codes "f")) t.no_parts)) s.empty))))
    -- proc f() =
    --   proc g() = discard
    --   g()
    ∷ row (stops NotTyped 2 3) (s.then (s.proclaims (at 1 1) (head (declared (at 1 1) (codes "f")) [] [] None []) (s.then (s.proclaims (at 2 3) (head
    (declared (at 2 3) (codes "g")) [] [] None []) (s.then (s.discards (at 2 14) None) s.empty)) (s.then (s.evaluates (at 3 3) (t.call (at 3 3) (t.name (at 3
    3) (codes "g")) t.no_parts)) s.empty))) s.empty)
    -- proc f() =
    --   if true:
    --     proc g() = discard
    ∷ row (stops NotTyped 3 5) (s.then (s.proclaims (at 1 1) (head (declared (at 1 1) (codes "f")) [] [] None []) (s.then (s.branches (at 2 3) (s.branch (at
    2 3) (t.part (t.name (at 2 6) (codes "true")) t.no_parts) (s.then (s.proclaims (at 3 5) (head (declared (at 3 5) (codes "g")) [] [] None []) (s.then
    (s.discards (at 3 16) None) s.empty)) s.empty) s.no_branches) s.empty) s.empty)) s.empty)
    -- if true:
    --   proc g() = discard
    ∷ row (stops NotTyped 2 3) (s.then (s.branches (at 1 1) (s.branch (at 1 1) (t.part (t.name (at 1 4) (codes "true")) t.no_parts) (s.then (s.proclaims (at
    2 3) (head (declared (at 2 3) (codes "g")) [] [] None []) (s.then (s.discards (at 2 14) None) s.empty)) s.empty) s.no_branches) s.empty) s.empty)
    -- proc f(result: int) = echo result
    -- f(1)
    ∷ row accepted (s.then (s.proclaims (at 1 1) (head (declared (at 1 1) (codes "f")) [] ((parameters ((name_at (at 1 8) (codes "result")) ∷ []) mode.Plain
    (w.named (at 1 16) (codes "int") w.no_arguments)) ∷ []) None []) (s.then (s.commands (at 1 23) (t.name (at 1 23) (codes "echo")) (t.part (t.name (at 1
    28) (codes "result")) t.no_parts)) s.empty)) (s.then (s.evaluates (at 2 1) (t.call (at 2 1) (t.name (at 2 1) (codes "f")) (t.part (t.int (at 2 3) (pos
    1)) t.no_parts))) s.empty))
    -- proc f(result: int): int = 1
    ∷ row (stops Redefined 1 8) (s.then (s.proclaims (at 1 1) (head (declared (at 1 1) (codes "f")) [] ((parameters ((name_at (at 1 8) (codes "result")) ∷
    []) mode.Plain (w.named (at 1 16) (codes "int") w.no_arguments)) ∷ []) (Some (w.named (at 1 22) (codes "int") w.no_arguments)) []) (s.then (s.evaluates
    (at 1 28) (t.int (at 1 28) (pos 1))) s.empty)) s.empty)
    -- proc f(result: T): int = 1
    ∷ row (stops Redefined 1 8) (s.then (s.proclaims (at 1 1) (head (declared (at 1 1) (codes "f")) [] ((parameters ((name_at (at 1 8) (codes "result")) ∷
    []) mode.Plain (w.named (at 1 16) (codes "T") w.no_arguments)) ∷ []) (Some (w.named (at 1 20) (codes "int") w.no_arguments)) []) (s.then (s.evaluates (at
    1 26) (t.int (at 1 26) (pos 1))) s.empty)) s.empty)
    ∷ []

abbrev pub distinct_rows : List Row
distinct_rows =
    -- type M = distinct int
    -- let m = M(1)
    -- echo int(m)
    row accepted (s.then (s.types (at 1 1) ((declaration (declared (at 1 6) (codes "M")) [] (w.distinct (at 1 19) (w.named (at 1 19) (codes "int")
    w.no_arguments))) ∷ [])) (s.then (s.defines (at 2 1) binding.Let ((defined ((declared (at 2 5) (codes "m")) ∷ []) [] None (Some (t.call (at 2 9) (t.name
    (at 2 9) (codes "M")) (t.part (t.int (at 2 11) (pos 1)) t.no_parts)))) ∷ [])) (s.then (s.commands (at 3 1) (t.name (at 3 1) (codes "echo")) (t.part
    (t.call (at 3 6) (t.name (at 3 6) (codes "int")) (t.part (t.name (at 3 10) (codes "m")) t.no_parts)) t.no_parts)) s.empty)))
    -- type M = distinct int
    -- let m: M = M(1 + 2)
    -- let i: int = int(m)
    -- echo i
    ∷ row accepted (s.then (s.types (at 1 1) ((declaration (declared (at 1 6) (codes "M")) [] (w.distinct (at 1 19) (w.named (at 1 19) (codes "int")
    w.no_arguments))) ∷ [])) (s.then (s.defines (at 2 1) binding.Let ((defined ((declared (at 2 5) (codes "m")) ∷ []) [] (Some (w.named (at 2 8) (codes "M")
    w.no_arguments)) (Some (t.call (at 2 12) (t.name (at 2 12) (codes "M")) (t.part (t.binary (at 2 14) sign.Plus (t.int (at 2 14) (pos 1)) (t.int (at 2 18)
    (pos 2))) t.no_parts)))) ∷ [])) (s.then (s.defines (at 3 1) binding.Let ((defined ((declared (at 3 5) (codes "i")) ∷ []) [] (Some (w.named (at 3 8)
    (codes "int") w.no_arguments)) (Some (t.call (at 3 14) (t.name (at 3 14) (codes "int")) (t.part (t.name (at 3 18) (codes "m")) t.no_parts)))) ∷ []))
    (s.then (s.commands (at 4 1) (t.name (at 4 1) (codes "echo")) (t.part (t.name (at 4 6) (codes "i")) t.no_parts)) s.empty))))
    -- type M = distinct int
    -- discard M(1, 2)
    ∷ row (stops NotTyped 2 9) (s.then (s.types (at 1 1) ((declaration (declared (at 1 6) (codes "M")) [] (w.distinct (at 1 19) (w.named (at 1 19) (codes
    "int") w.no_arguments))) ∷ [])) (s.then (s.discards (at 2 1) (Some (t.call (at 2 9) (t.name (at 2 9) (codes "M")) (t.part (t.int (at 2 11) (pos 1))
    (t.part (t.int (at 2 14) (pos 2)) t.no_parts))))) s.empty))
    -- type M = distinct int
    -- let m = M(1)
    -- discard M(m)
    ∷ row (stops NotTyped 3 9) (s.then (s.types (at 1 1) ((declaration (declared (at 1 6) (codes "M")) [] (w.distinct (at 1 19) (w.named (at 1 19) (codes
    "int") w.no_arguments))) ∷ [])) (s.then (s.defines (at 2 1) binding.Let ((defined ((declared (at 2 5) (codes "m")) ∷ []) [] None (Some (t.call (at 2 9)
    (t.name (at 2 9) (codes "M")) (t.part (t.int (at 2 11) (pos 1)) t.no_parts)))) ∷ [])) (s.then (s.discards (at 3 1) (Some (t.call (at 3 9) (t.name (at 3
    9) (codes "M")) (t.part (t.name (at 3 11) (codes "m")) t.no_parts)))) s.empty)))
    -- type M = distinct int
    -- let m = M(1)
    -- discard m + m
    ∷ row (stops NotTyped 3 9) (s.then (s.types (at 1 1) ((declaration (declared (at 1 6) (codes "M")) [] (w.distinct (at 1 19) (w.named (at 1 19) (codes
    "int") w.no_arguments))) ∷ [])) (s.then (s.defines (at 2 1) binding.Let ((defined ((declared (at 2 5) (codes "m")) ∷ []) [] None (Some (t.call (at 2 9)
    (t.name (at 2 9) (codes "M")) (t.part (t.int (at 2 11) (pos 1)) t.no_parts)))) ∷ [])) (s.then (s.discards (at 3 1) (Some (t.binary (at 3 9) sign.Plus
    (t.name (at 3 9) (codes "m")) (t.name (at 3 13) (codes "m"))))) s.empty)))
    -- type M = distinct int
    -- let m = M(1)
    -- discard -m
    ∷ row (stops NotTyped 3 9) (s.then (s.types (at 1 1) ((declaration (declared (at 1 6) (codes "M")) [] (w.distinct (at 1 19) (w.named (at 1 19) (codes
    "int") w.no_arguments))) ∷ [])) (s.then (s.defines (at 2 1) binding.Let ((defined ((declared (at 2 5) (codes "m")) ∷ []) [] None (Some (t.call (at 2 9)
    (t.name (at 2 9) (codes "M")) (t.part (t.int (at 2 11) (pos 1)) t.no_parts)))) ∷ [])) (s.then (s.discards (at 3 1) (Some (t.unary (at 3 9)
    unary_sign.Minus (t.name (at 3 10) (codes "m"))))) s.empty)))
    -- type M = distinct string
    -- let m = M("a")
    -- discard m[0]
    ∷ row (stops NotTyped 3 9) (s.then (s.types (at 1 1) ((declaration (declared (at 1 6) (codes "M")) [] (w.distinct (at 1 19) (w.named (at 1 19) (codes
    "string") w.no_arguments))) ∷ [])) (s.then (s.defines (at 2 1) binding.Let ((defined ((declared (at 2 5) (codes "m")) ∷ []) [] None (Some (t.call (at 2
    9) (t.name (at 2 9) (codes "M")) (t.part (t.text (at 2 11) (codes "\"a\"")) t.no_parts)))) ∷ [])) (s.then (s.discards (at 3 1) (Some (t.index (at 3 9)
    (t.name (at 3 9) (codes "m")) (t.part (t.int (at 3 11) (pos 0)) t.no_parts)))) s.empty)))
    -- type M = distinct int
    -- proc `==`(a, b: M): bool {.borrow.}
    -- echo M(1) == M(2)
    ∷ row accepted (s.then (s.types (at 1 1) ((declaration (declared (at 1 6) (codes "M")) [] (w.distinct (at 1 19) (w.named (at 1 19) (codes "int")
    w.no_arguments))) ∷ [])) (s.then (s.proclaims (at 2 1) (head (quoted (at 2 1) (codes "`==`")) [] ((parameters ((name_at (at 2 11) (codes "a")) ∷ (name_at
    (at 2 14) (codes "b")) ∷ []) mode.Plain (w.named (at 2 17) (codes "M") w.no_arguments)) ∷ []) (Some (w.named (at 2 21) (codes "bool") w.no_arguments))
    ((pragma_of pragma.Borrow) ∷ [])) s.empty) (s.then (s.commands (at 3 1) (t.name (at 3 1) (codes "echo")) (t.part (t.binary (at 3 6) sign.Equal (t.call
    (at 3 6) (t.name (at 3 6) (codes "M")) (t.part (t.int (at 3 8) (pos 1)) t.no_parts)) (t.call (at 3 14) (t.name (at 3 14) (codes "M")) (t.part (t.int (at
    3 16) (pos 2)) t.no_parts))) t.no_parts)) s.empty)))
    -- type M = distinct int
    -- proc `<`(a, b: M): bool {.borrow.}
    -- echo M(1) < M(2)
    ∷ row accepted (s.then (s.types (at 1 1) ((declaration (declared (at 1 6) (codes "M")) [] (w.distinct (at 1 19) (w.named (at 1 19) (codes "int")
    w.no_arguments))) ∷ [])) (s.then (s.proclaims (at 2 1) (head (quoted (at 2 1) (codes "`<`")) [] ((parameters ((name_at (at 2 10) (codes "a")) ∷ (name_at
    (at 2 13) (codes "b")) ∷ []) mode.Plain (w.named (at 2 16) (codes "M") w.no_arguments)) ∷ []) (Some (w.named (at 2 20) (codes "bool") w.no_arguments))
    ((pragma_of pragma.Borrow) ∷ [])) s.empty) (s.then (s.commands (at 3 1) (t.name (at 3 1) (codes "echo")) (t.part (t.binary (at 3 6) sign.Less (t.call (at
    3 6) (t.name (at 3 6) (codes "M")) (t.part (t.int (at 3 8) (pos 1)) t.no_parts)) (t.call (at 3 13) (t.name (at 3 13) (codes "M")) (t.part (t.int (at 3
    15) (pos 2)) t.no_parts))) t.no_parts)) s.empty)))
    -- type M = distinct int
    -- echo M(1) == M(2)
    -- proc `==`(a, b: M): bool {.borrow.}
    ∷ row (stops NotTyped 2 6) (s.then (s.types (at 1 1) ((declaration (declared (at 1 6) (codes "M")) [] (w.distinct (at 1 19) (w.named (at 1 19) (codes
    "int") w.no_arguments))) ∷ [])) (s.then (s.commands (at 2 1) (t.name (at 2 1) (codes "echo")) (t.part (t.binary (at 2 6) sign.Equal (t.call (at 2 6)
    (t.name (at 2 6) (codes "M")) (t.part (t.int (at 2 8) (pos 1)) t.no_parts)) (t.call (at 2 14) (t.name (at 2 14) (codes "M")) (t.part (t.int (at 2 16)
    (pos 2)) t.no_parts))) t.no_parts)) (s.then (s.proclaims (at 3 1) (head (quoted (at 3 1) (codes "`==`")) [] ((parameters ((name_at (at 3 11) (codes "a"))
    ∷ (name_at (at 3 14) (codes "b")) ∷ []) mode.Plain (w.named (at 3 17) (codes "M") w.no_arguments)) ∷ []) (Some (w.named (at 3 21) (codes "bool")
    w.no_arguments)) ((pragma_of pragma.Borrow) ∷ [])) s.empty) s.empty)))
    ∷ []
