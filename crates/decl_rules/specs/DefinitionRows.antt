-- Examples of definitions, constants and scopes: above each module its text.
use Rattle.std.specs.Prelude.{pos, List, [], ◌∷◌, codes, Some, None}
use Rattle.arc_base.specs.declared.place.Code.TheVariants.{UnknownName, Redefined, NotTyped, NotAssignable}
use Rattle.nim_tree.specs.declared.name.PragmaKind.TheVariants as pragma
use Rattle.nim_tree.specs.declared.expr.BinaryOp.TheVariants as sign
use Rattle.nim_tree.specs.declared.stmt.AssignOp.TheVariants as assign
use Rattle.nim_tree.specs.declared.stmt.Binding.TheVariants as binding
use Rattle.nim_tree.specs.declared.stmt.ParamMode.TheVariants as mode
use Rattle.nim_tree.specs.Terms as t
use Rattle.nim_tree.specs.Types as w
use Rattle.nim_tree.specs.Statements as s
use Rattle.decl_rules.specs.Examples.{Row, row, accepted, stops, at, name_at, declared, pragma_of, defined, parameters, head, declaration}

abbrev pub variable_rows : List Row
variable_rows =
    -- let x = 1
    -- x = 2
    row (stops NotAssignable 2 1) (s.then (s.defines (at 1 1) binding.Let ((defined ((declared (at 1 5) (codes "x")) ∷ []) [] None (Some (t.int (at 1 9) (pos
    1)))) ∷ [])) (s.then (s.assigns (at 2 1) assign.Set (t.name (at 2 1) (codes "x")) (t.int (at 2 5) (pos 2))) s.empty))
    -- var x = 1
    -- x = 2
    ∷ row accepted
    (s.then (s.defines (at 1 1) binding.Var
    ((defined ((declared (at 1 5) (codes "x")) ∷ []) [] None (Some (t.int (at 1 9) (pos 1)))) ∷ []))
    (s.then (s.assigns (at 2 1) assign.Set (t.name (at 2 1) (codes "x")) (t.int (at 2 5) (pos 2))) s.empty))
    -- true = false
    ∷ row (stops NotAssignable 1 1) (s.then (s.assigns (at 1 1) assign.Set (t.name (at 1 1) (codes "true")) (t.name (at 1 8) (codes "false"))) s.empty)
    -- var x = 1
    -- x += 2
    ∷ row accepted
    (s.then (s.defines (at 1 1) binding.Var
    ((defined ((declared (at 1 5) (codes "x")) ∷ []) [] None (Some (t.int (at 1 9) (pos 1)))) ∷ []))
    (s.then (s.assigns (at 2 1) assign.Plus (t.name (at 2 1) (codes "x")) (t.int (at 2 6) (pos 2))) s.empty))
    -- var s = "a"
    -- s &= "b"
    ∷ row accepted
    (s.then (s.defines (at 1 1) binding.Var
    ((defined ((declared (at 1 5) (codes "s")) ∷ []) [] None (Some (t.text (at 1 9) (codes "\"a\""))))
    ∷ [])) (s.then (s.assigns (at 2 1) assign.Join (t.name (at 2 1) (codes "s")) (t.text (at 2 6) (codes "\"b\""))) s.empty))
    -- var a = [1, 2]
    -- a[0] = 3
    ∷ row accepted (s.then (s.defines (at 1 1) binding.Var ((defined ((declared (at 1 5) (codes "a")) ∷ []) [] None (Some (t.array (at 1 9) (t.part (t.int
    (at 1 10) (pos 1)) (t.part (t.int (at 1 13) (pos 2)) t.no_parts))))) ∷ [])) (s.then (s.assigns (at 2 1) assign.Set (t.index (at 2 1) (t.name (at 2 1)
    (codes "a")) (t.part (t.int (at 2 3) (pos 0)) t.no_parts)) (t.int (at 2 8) (pos 3))) s.empty))
    -- proc f(x: var int) = discard
    -- var a = 1
    -- f(a)
    ∷ row accepted (s.then (s.proclaims (at 1 1) (head (declared (at 1 1) (codes "f")) [] ((parameters ((name_at (at 1 8) (codes "x")) ∷ []) mode.Var
    (w.named (at 1 15) (codes "int") w.no_arguments)) ∷ []) None []) (s.then (s.discards (at 1 22) None) s.empty)) (s.then (s.defines (at 2 1) binding.Var
    ((defined ((declared (at 2 5) (codes "a")) ∷ []) [] None (Some (t.int (at 2 9) (pos 1)))) ∷ [])) (s.then (s.evaluates (at 3 1) (t.call (at 3 1) (t.name
    (at 3 1) (codes "f")) (t.part (t.name (at 3 3) (codes "a")) t.no_parts))) s.empty)))
    -- var x = 1
    -- inc(x)
    -- inc x
    -- x.inc
    -- inc(x, 2)
    -- x.inc(2)
    -- inc x, 2
    ∷ row accepted
    (s.then (s.defines (at 1 1) binding.Var
    ((defined ((declared (at 1 5) (codes "x")) ∷ []) [] None (Some (t.int (at 1 9) (pos 1)))) ∷ []))
    (s.then (s.evaluates (at 2 1) (t.call (at 2 1) (t.name (at 2 1) (codes "inc")) (t.part (t.name (at 2 5) (codes "x")) t.no_parts))) (s.then (s.commands
    (at 3 1) (t.name (at 3 1) (codes "inc")) (t.part (t.name (at 3 5) (codes "x")) t.no_parts)) (s.then (s.evaluates (at 4 1) (t.field (at 4 1) (t.name (at 4
    1) (codes "x")) (codes "inc"))) (s.then (s.evaluates (at 5 1) (t.call (at 5 1) (t.name (at 5 1) (codes "inc")) (t.part (t.name (at 5 5) (codes "x"))
    (t.part (t.int (at 5 8) (pos 2)) t.no_parts)))) (s.then (s.evaluates (at 6 1) (t.call (at 6 1) (t.field (at 6 1) (t.name (at 6 1) (codes "x")) (codes
    "inc")) (t.part (t.int (at 6 7) (pos 2)) t.no_parts))) (s.then (s.commands (at 7 1) (t.name (at 7 1) (codes "inc")) (t.part (t.name (at 7 5) (codes "x"))
    (t.part (t.int (at 7 8) (pos 2)) t.no_parts))) s.empty)))))))
    -- let x = 1
    -- echo x, x + 1
    ∷ row accepted
    (s.then (s.defines (at 1 1) binding.Let
    ((defined ((declared (at 1 5) (codes "x")) ∷ []) [] None (Some (t.int (at 1 9) (pos 1)))) ∷ []))
    (s.then (s.commands (at 2 1) (t.name (at 2 1) (codes "echo")) (t.part (t.name (at 2 6) (codes "x")) (t.part (t.binary (at 2 9) sign.Plus (t.name (at 2 9)
    (codes "x")) (t.int (at 2 13) (pos 1))) t.no_parts))) s.empty))
    -- var x {.inline.}: int
    -- echo x
    ∷ row accepted
    (s.then (s.defines (at 1 1) binding.Var
    ((defined ((declared (at 1 5) (codes "x")) ∷ []) ((pragma_of pragma.Inline) ∷ []) (Some (w.named
    (at 1 19) (codes "int") w.no_arguments)) None) ∷ [])) (s.then (s.commands (at 2 1) (t.name (at 2 1) (codes "echo")) (t.part (t.name (at 2 6) (codes "x"))
    t.no_parts)) s.empty))
    ∷ []

abbrev pub constant_rows : List Row
constant_rows =
    -- const x = 1
    -- echo x
    row accepted (s.then (s.defines (at 1 1) binding.Const ((defined ((declared (at 1 7) (codes "x")) ∷ []) [] None (Some (t.int (at 1 11) (pos 1)))) ∷ []))
    (s.then (s.commands (at 2 1) (t.name (at 2 1) (codes "echo")) (t.part (t.name (at 2 6) (codes "x")) t.no_parts)) s.empty))
    -- const x = @[1, 2, 3]
    -- echo x[0], x.len
    ∷ row accepted (s.then (s.defines (at 1 1) binding.Const ((defined ((declared (at 1 7) (codes "x")) ∷ []) [] None (Some (t.sequence (at 1 11) (t.part
    (t.int (at 1 13) (pos 1)) (t.part (t.int (at 1 16) (pos 2)) (t.part (t.int (at 1 19) (pos 3)) t.no_parts)))))) ∷ [])) (s.then (s.commands (at 2 1)
    (t.name (at 2 1) (codes "echo")) (t.part (t.index (at 2 6) (t.name (at 2 6) (codes "x")) (t.part (t.int (at 2 8) (pos 0)) t.no_parts)) (t.part (t.field
    (at 2 12) (t.name (at 2 12) (codes "x")) (codes "len")) t.no_parts))) s.empty))
    -- var y = 1
    -- const x = y
    ∷ row (stops NotTyped 2 11) (s.then (s.defines (at 1 1) binding.Var ((defined ((declared (at 1 5) (codes "y")) ∷ []) [] None (Some (t.int (at 1 9) (pos
    1)))) ∷ []))
    (s.then (s.defines (at 2 1) binding.Const
    ((defined ((declared (at 2 7) (codes "x")) ∷ []) [] None (Some (t.name (at 2 11) (codes "y")))) ∷
    [])) s.empty))
    -- let y = "a"
    -- const x = y.len
    ∷ row (stops NotTyped 2 11) (s.then (s.defines (at 1 1) binding.Let ((defined ((declared (at 1 5) (codes "y")) ∷ []) [] None (Some (t.text (at 1 9)
    (codes "\"a\"")))) ∷ [])) (s.then (s.defines (at 2 1) binding.Const ((defined ((declared (at 2 7) (codes "x")) ∷ []) [] None (Some (t.field (at 2 11)
    (t.name (at 2 11) (codes "y")) (codes "len")))) ∷ [])) s.empty))
    -- const x: int = true
    ∷ row (stops NotTyped 1 16)
    (s.then (s.defines (at 1 1) binding.Const ((defined ((declared (at 1 7) (codes "x")) ∷ []) [] (Some (w.named (at 1 10) (codes
    "int") w.no_arguments)) (Some (t.name (at 1 16) (codes "true")))) ∷ [])) s.empty)
    -- const x: T = 1
    ∷ row (stops UnknownName 1 10) (s.then (s.defines (at 1 1) binding.Const ((defined ((declared (at 1 7) (codes "x")) ∷ []) [] (Some (w.named (at 1 10)
    (codes "T") w.no_arguments)) (Some (t.int (at 1 14) (pos 1)))) ∷ [])) s.empty)
    -- const x = 1
    -- x = 2
    ∷ row (stops NotAssignable 2 1)
    (s.then (s.defines (at 1 1) binding.Const ((defined ((declared (at 1 7) (codes "x")) ∷ []) [] None (Some (t.int (at 1 11)
    (pos 1)))) ∷ [])) (s.then (s.assigns (at 2 1) assign.Set (t.name (at 2 1) (codes "x")) (t.int (at 2 5) (pos 2))) s.empty))
    -- var a: array[2 + 1, int]
    -- echo a.len
    ∷ row accepted (s.then (s.defines (at 1 1) binding.Var ((defined ((declared (at 1 5) (codes "a")) ∷ []) [] (Some (w.array (at 1 8) (t.binary (at 1 14)
    sign.Plus (t.int (at 1 14) (pos 2)) (t.int (at 1 18) (pos 1))) (w.named (at 1 21) (codes "int") w.no_arguments))) None) ∷ [])) (s.then (s.commands (at 2
    1) (t.name (at 2 1) (codes "echo")) (t.part (t.field (at 2 6) (t.name (at 2 6) (codes "a")) (codes "len")) t.no_parts)) s.empty))
    ∷ []

abbrev pub scope_rows : List Row
scope_rows =
    -- var x = 1
    -- var x = 2
    row (stops Redefined 2 5) (s.then (s.defines (at 1 1) binding.Var ((defined ((declared (at 1 5) (codes "x")) ∷ []) [] None (Some (t.int (at 1 9) (pos
    1)))) ∷ [])) (s.then (s.defines (at 2 1) binding.Var ((defined ((declared (at 2 5) (codes "x")) ∷ []) [] None (Some (t.int (at 2 9) (pos 2)))) ∷ []))
    s.empty))
    -- let x = 1
    -- let x = 2
    ∷ row (stops Redefined 2 5) (s.then (s.defines (at 1 1) binding.Let ((defined ((declared (at 1 5) (codes "x")) ∷ []) [] None (Some (t.int (at 1 9) (pos
    1)))) ∷ [])) (s.then (s.defines (at 2 1) binding.Let ((defined ((declared (at 2 5) (codes "x")) ∷ []) [] None (Some (t.int (at 2 9) (pos 2)))) ∷ []))
    s.empty))
    -- const x = 1
    -- const x = 2
    ∷ row (stops Redefined 2 7) (s.then (s.defines (at 1 1) binding.Const ((defined ((declared (at 1 7) (codes "x")) ∷ []) [] None (Some (t.int (at 1 11)
    (pos 1)))) ∷ []))
    (s.then (s.defines (at 2 1) binding.Const
    ((defined ((declared (at 2 7) (codes "x")) ∷ []) [] None (Some (t.int (at 2 11) (pos 2)))) ∷
    [])) s.empty))
    -- type C = enum red, blue
    -- var red = 1
    ∷ row (stops Redefined 2 5) (s.then (s.types (at 1 1) ((declaration (declared (at 1 6) (codes "C")) [] (w.enum (at 1 6) ((name_at (at 1 15) (codes
    "red")) ∷ (name_at (at 1 20) (codes "blue")) ∷ []))) ∷ []))
    (s.then (s.defines (at 2 1) binding.Var ((defined ((declared (at 2 5) (codes "red")) ∷ []) []
    None (Some (t.int (at 2 11) (pos 1)))) ∷ [])) s.empty))
    -- var red = 1
    -- type C = enum red, blue
    ∷ row (stops Redefined 2 15) (s.then (s.defines (at 1 1) binding.Var ((defined ((declared (at 1 5) (codes "red")) ∷ []) [] None (Some (t.int (at 1 11)
    (pos 1)))) ∷ [])) (s.then (s.types (at 2 1) ((declaration (declared (at 2 6) (codes "C")) [] (w.enum (at 2 6) ((name_at (at 2 15) (codes "red")) ∷
    (name_at (at 2 20) (codes "blue")) ∷ []))) ∷ [])) s.empty))
    -- var f = 1
    -- proc f() = discard
    ∷ row (stops Redefined 2 1) (s.then (s.defines (at 1 1) binding.Var ((defined ((declared (at 1 5) (codes "f")) ∷ []) [] None (Some (t.int (at 1 9) (pos
    1)))) ∷ [])) (s.then (s.proclaims (at 2 1) (head (declared (at 2 1) (codes "f")) [] [] None []) (s.then (s.discards (at 2 12) None) s.empty)) s.empty))
    -- proc f() = discard
    -- var f = 1
    ∷ row (stops Redefined 2 5) (s.then (s.proclaims (at 1 1) (head (declared (at 1 1) (codes "f")) [] [] None []) (s.then (s.discards (at 1 12) None)
    s.empty)) (s.then (s.defines (at 2 1) binding.Var ((defined ((declared (at 2 5) (codes "f")) ∷ []) [] None (Some (t.int (at 2 9) (pos 1)))) ∷ []))
    s.empty))
    -- type f = int
    -- proc f() = discard
    ∷ row (stops Redefined 2 1) (s.then (s.types (at 1 1) ((declaration (declared (at 1 6) (codes "f")) [] (w.alias (w.named (at 1 10) (codes "int")
    w.no_arguments))) ∷ [])) (s.then (s.proclaims (at 2 1) (head (declared (at 2 1) (codes "f")) [] [] None []) (s.then (s.discards (at 2 12) None) s.empty))
    s.empty))
    -- const f = 1
    -- proc f(x: int) = discard
    ∷ row (stops Redefined 2 1) (s.then (s.defines (at 1 1) binding.Const ((defined ((declared (at 1 7) (codes "f")) ∷ []) [] None (Some (t.int (at 1 11)
    (pos 1)))) ∷ [])) (s.then (s.proclaims (at 2 1) (head (declared (at 2 1) (codes "f")) [] ((parameters ((name_at (at 2 8) (codes "x")) ∷ []) mode.Plain
    (w.named (at 2 11) (codes "int") w.no_arguments)) ∷ []) None []) (s.then (s.discards (at 2 18) None) s.empty)) s.empty))
    -- type C = enum red, blue
    -- proc red() = discard
    ∷ row (stops Redefined 2 1) (s.then (s.types (at 1 1) ((declaration (declared (at 1 6) (codes "C")) [] (w.enum (at 1 6) ((name_at (at 1 15) (codes
    "red")) ∷ (name_at (at 1 20) (codes "blue")) ∷ []))) ∷ []))
    (s.then (s.proclaims (at 2 1) (head (declared (at 2 1) (codes "red")) [] [] None []) (s.then
    (s.discards (at 2 14) None) s.empty)) s.empty))
    -- var x = 1
    -- if true:
    --   var x = "a"
    --   echo x.len
    -- echo x + 1
    ∷ row accepted
    (s.then (s.defines (at 1 1) binding.Var
    ((defined ((declared (at 1 5) (codes "x")) ∷ []) [] None (Some (t.int (at 1 9) (pos 1)))) ∷ []))
    (s.then (s.branches (at 2 1) (s.branch (at 2 1) (t.part (t.name (at 2 4) (codes "true")) t.no_parts) (s.then (s.defines (at 3 3) binding.Var ((defined
    ((declared (at 3 7) (codes "x")) ∷ []) [] None (Some (t.text (at 3 11) (codes "\"a\"")))) ∷ [])) (s.then (s.commands (at 4 3) (t.name (at 4 3) (codes
    "echo")) (t.part (t.field (at 4 8) (t.name (at 4 8) (codes "x")) (codes "len")) t.no_parts)) s.empty)) s.no_branches) s.empty) (s.then (s.commands (at 5
    1) (t.name (at 5 1) (codes "echo")) (t.part (t.binary (at 5 6) sign.Plus (t.name (at 5 6) (codes "x")) (t.int (at 5 10) (pos 1))) t.no_parts)) s.empty)))
    -- if true:
    --   let x = 1
    --   echo x
    -- else:
    --   let x = "a"
    --   echo x
    ∷ row accepted (s.then (s.branches (at 1 1) (s.branch (at 1 1) (t.part (t.name (at 1 4) (codes "true")) t.no_parts) (s.then (s.defines (at 2 3)
    binding.Let ((defined ((declared (at 2 7) (codes "x")) ∷ []) [] None (Some (t.int (at 2 11) (pos 1)))) ∷ [])) (s.then (s.commands (at 3 3) (t.name (at 3
    3) (codes "echo")) (t.part (t.name (at 3 8) (codes "x")) t.no_parts)) s.empty)) s.no_branches) (s.then (s.defines (at 5 3) binding.Let ((defined
    ((declared (at 5 7) (codes "x")) ∷ []) [] None (Some (t.text (at 5 11) (codes "\"a\"")))) ∷ [])) (s.then (s.commands (at 6 3) (t.name (at 6 3) (codes
    "echo")) (t.part (t.name (at 6 8) (codes "x")) t.no_parts)) s.empty))) s.empty)
    -- let x = "a"
    -- proc f(): int =
    --   let x = 1
    --   x + 1
    -- echo f(), x.len
    ∷ row accepted
    (s.then (s.defines (at 1 1) binding.Let
    ((defined ((declared (at 1 5) (codes "x")) ∷ []) [] None (Some (t.text (at 1 9) (codes "\"a\""))))
    ∷ [])) (s.then (s.proclaims (at 2 1) (head (declared (at 2 1) (codes "f")) [] [] (Some (w.named (at 2 11) (codes "int") w.no_arguments)) []) (s.then
    (s.defines (at 3 3) binding.Let ((defined ((declared (at 3 7) (codes "x")) ∷ []) [] None (Some (t.int (at 3 11) (pos 1)))) ∷ [])) (s.then (s.evaluates
    (at 4 3) (t.binary (at 4 3) sign.Plus (t.name (at 4 3) (codes "x")) (t.int (at 4 7) (pos 1)))) s.empty))) (s.then (s.commands (at 5 1) (t.name (at 5 1)
    (codes "echo")) (t.part (t.call (at 5 6) (t.name (at 5 6) (codes "f")) t.no_parts) (t.part (t.field (at 5 11) (t.name (at 5 11) (codes "x")) (codes
    "len")) t.no_parts))) s.empty)))
    -- proc f(x: int): int =
    --   let x = "a"
    --   x.len
    -- echo f(1)
    ∷ row accepted (s.then (s.proclaims (at 1 1) (head (declared (at 1 1) (codes "f")) [] ((parameters ((name_at (at 1 8) (codes "x")) ∷ []) mode.Plain
    (w.named (at 1 11) (codes "int") w.no_arguments)) ∷ []) (Some (w.named (at 1 17) (codes "int") w.no_arguments)) []) (s.then (s.defines (at 2 3)
    binding.Let ((defined ((declared (at 2 7) (codes "x")) ∷ []) [] None (Some (t.text (at 2 11) (codes "\"a\"")))) ∷ [])) (s.then (s.evaluates (at 3 3)
    (t.field (at 3 3) (t.name (at 3 3) (codes "x")) (codes "len"))) s.empty))) (s.then (s.commands (at 4 1) (t.name (at 4 1) (codes "echo")) (t.part (t.call
    (at 4 6) (t.name (at 4 6) (codes "f")) (t.part (t.int (at 4 8) (pos 1)) t.no_parts)) t.no_parts)) s.empty))
    -- var x = 1
    -- if true:
    --   var x = "a"
    --   x = 1
    ∷ row (stops NotTyped 4 7) (s.then (s.defines (at 1 1) binding.Var ((defined ((declared (at 1 5) (codes "x")) ∷ []) [] None (Some (t.int (at 1 9) (pos
    1)))) ∷ [])) (s.then (s.branches (at 2 1) (s.branch (at 2 1) (t.part (t.name (at 2 4) (codes "true")) t.no_parts) (s.then (s.defines (at 3 3) binding.Var
    ((defined ((declared (at 3 7) (codes "x")) ∷ []) [] None (Some (t.text (at 3 11) (codes "\"a\"")))) ∷ []))
    (s.then (s.assigns (at 4 3) assign.Set (t.name
    (at 4 3) (codes "x")) (t.int (at 4 7) (pos 1))) s.empty)) s.no_branches) s.empty) s.empty))
    -- var x = 1
    -- if true:
    --   let x = 2
    --   x = 3
    ∷ row (stops NotAssignable 4 3) (s.then (s.defines (at 1 1) binding.Var ((defined ((declared (at 1 5) (codes "x")) ∷ []) [] None (Some (t.int (at 1 9)
    (pos 1)))) ∷ [])) (s.then (s.branches (at 2 1) (s.branch (at 2 1) (t.part (t.name (at 2 4) (codes "true")) t.no_parts) (s.then (s.defines (at 3 3)
    binding.Let ((defined ((declared (at 3 7) (codes "x")) ∷ []) [] None (Some (t.int (at 3 11) (pos 2)))) ∷ [])) (s.then (s.assigns (at 4 3) assign.Set
    (t.name (at 4 3) (codes "x")) (t.int (at 4 7) (pos 3))) s.empty)) s.no_branches) s.empty) s.empty))
    -- let x = 1
    -- if true:
    --   echo x
    --   let x = "a"
    --   echo x + 1
    ∷ row (stops NotTyped 5 8) (s.then (s.defines (at 1 1) binding.Let ((defined ((declared (at 1 5) (codes "x")) ∷ []) [] None (Some (t.int (at 1 9) (pos
    1)))) ∷ [])) (s.then (s.branches (at 2 1) (s.branch (at 2 1) (t.part (t.name (at 2 4) (codes "true")) t.no_parts) (s.then (s.commands (at 3 3) (t.name
    (at 3 3) (codes "echo")) (t.part (t.name (at 3 8) (codes "x")) t.no_parts)) (s.then (s.defines (at 4 3) binding.Let ((defined ((declared (at 4 7) (codes
    "x")) ∷ []) [] None (Some (t.text (at 4 11) (codes "\"a\"")))) ∷ []))
    (s.then (s.commands (at 5 3) (t.name (at 5 3) (codes "echo")) (t.part (t.binary (at
    5 8) sign.Plus (t.name (at 5 8) (codes "x")) (t.int (at 5 12) (pos 1))) t.no_parts)) s.empty))) s.no_branches) s.empty) s.empty))
    -- proc f(): int =
    --   let result = "a"
    --   result.echo
    --   return result
    ∷ row (stops NotTyped 4 10) (s.then (s.proclaims (at 1 1) (head (declared (at 1 1) (codes "f")) [] [] (Some (w.named (at 1 11) (codes "int")
    w.no_arguments)) []) (s.then (s.defines (at 2 3) binding.Let ((defined ((declared (at 2 7) (codes "result")) ∷ []) [] None (Some (t.text (at 2 16) (codes
    "\"a\"")))) ∷ [])) (s.then (s.evaluates (at 3 3) (t.field (at 3 3) (t.name (at 3 3) (codes "result")) (codes "echo"))) (s.then (s.returns (at 4 3) (Some
    (t.name (at 4 10) (codes "result")))) s.empty)))) s.empty)
    -- proc f(x: int): int = x
    -- proc g() =
    --   let f = 1
    --   echo f
    --   echo f(2)
    ∷ row (stops NotTyped 5 8) (s.then (s.proclaims (at 1 1) (head (declared (at 1 1) (codes "f")) [] ((parameters ((name_at (at 1 8) (codes "x")) ∷ [])
    mode.Plain (w.named (at 1 11) (codes "int") w.no_arguments)) ∷ []) (Some (w.named (at 1 17) (codes "int") w.no_arguments)) []) (s.then (s.evaluates (at 1
    23) (t.name (at 1 23) (codes "x"))) s.empty)) (s.then (s.proclaims (at 2 1) (head (declared (at 2 1) (codes "g")) [] [] None []) (s.then (s.defines (at 3
    3) binding.Let ((defined ((declared (at 3 7) (codes "f")) ∷ []) [] None (Some (t.int (at 3 11) (pos 1)))) ∷ []))
    (s.then (s.commands (at 4 3) (t.name (at
    4 3) (codes "echo")) (t.part (t.name (at 4 8) (codes "f")) t.no_parts)) (s.then (s.commands (at 5 3) (t.name (at 5 3) (codes "echo")) (t.part (t.call (at
    5 8) (t.name (at 5 8) (codes "f")) (t.part (t.int (at 5 10) (pos 2)) t.no_parts)) t.no_parts)) s.empty)))) s.empty))
    -- proc f(x: int): int = x
    -- proc g(f: int) = echo f(2)
    ∷ row (stops NotTyped 2 23) (s.then (s.proclaims (at 1 1) (head (declared (at 1 1) (codes "f")) [] ((parameters ((name_at (at 1 8) (codes "x")) ∷ [])
    mode.Plain (w.named (at 1 11) (codes "int") w.no_arguments)) ∷ []) (Some (w.named (at 1 17) (codes "int") w.no_arguments)) []) (s.then (s.evaluates (at 1
    23) (t.name (at 1 23) (codes "x"))) s.empty)) (s.then (s.proclaims (at 2 1) (head (declared (at 2 1) (codes "g")) [] ((parameters ((name_at (at 2 8)
    (codes "f")) ∷ []) mode.Plain (w.named (at 2 11) (codes "int") w.no_arguments)) ∷ []) None []) (s.then (s.commands (at 2 18) (t.name (at 2 18) (codes
    "echo")) (t.part (t.call (at 2 23) (t.name (at 2 23) (codes "f")) (t.part (t.int (at 2 25) (pos 2)) t.no_parts)) t.no_parts)) s.empty)) s.empty))
    -- let high = "abc"
    -- echo high(high), high.high
    ∷ row accepted (s.then (s.defines (at 1 1) binding.Let ((defined ((declared (at 1 5) (codes "high")) ∷ []) [] None (Some (t.text (at 1 12) (codes
    "\"abc\"")))) ∷ [])) (s.then (s.commands (at 2 1) (t.name (at 2 1) (codes "echo")) (t.part (t.call (at 2 6) (t.name (at 2 6) (codes "high")) (t.part
    (t.name (at 2 11) (codes "high")) t.no_parts)) (t.part (t.field (at 2 18) (t.name (at 2 18) (codes "high")) (codes "high")) t.no_parts))) s.empty))
    -- let ord = 'a'
    -- echo ord(ord)
    ∷ row accepted (s.then (s.defines (at 1 1) binding.Let ((defined ((declared (at 1 5) (codes "ord")) ∷ []) [] None (Some (t.char (at 1 11) 97))) ∷ []))
    (s.then (s.commands (at 2 1) (t.name (at 2 1) (codes "echo")) (t.part (t.call (at 2 6) (t.name (at 2 6) (codes "ord")) (t.part (t.name (at 2 10) (codes
    "ord")) t.no_parts)) t.no_parts)) s.empty))
    ∷ []
