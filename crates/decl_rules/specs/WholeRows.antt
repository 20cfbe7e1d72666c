-- Examples of what needs the whole text, of forms left out, and of the order of refusals: above each module its text.
use Rattle.std.specs.Prelude.{pos, false, List, [], ◌∷◌, codes, Some, None}
use Rattle.arc_base.specs.declared.place.Code.TheVariants.{UnknownName, Redefined, NotTyped, Ambiguous, VarOfGlobal}
use Rattle.arc_base.specs.declared.place.Code.TheVariants.{LeftOut, MissingBody}
use Rattle.nim_tree.specs.declared.expr.BinaryOp.TheVariants as sign
use Rattle.nim_tree.specs.declared.stmt.AssignOp.TheVariants as assign
use Rattle.nim_tree.specs.declared.stmt.Binding.TheVariants as binding
use Rattle.nim_tree.specs.declared.stmt.ParamMode.TheVariants as mode
use Rattle.nim_tree.specs.Terms as t
use Rattle.nim_tree.specs.Types as w
use Rattle.nim_tree.specs.Statements as s
use Rattle.decl_rules.specs.Examples.{Row, row, accepted, stops, at, name_at, declared, quoted, defined, parameters, head, declaration}

abbrev pub global_rows : List Row
global_rows =
    -- var g = 1
    -- proc f(x: var int) = x = g
    -- f(g)
    row (stops VarOfGlobal 3 3) (s.then (s.defines (at 1 1) binding.Var ((defined ((declared (at 1 5) (codes "g")) ∷ []) [] None (Some (t.int (at 1 9) (pos
    1)))) ∷ [])) (s.then (s.proclaims (at 2 1) (head (declared (at 2 1) (codes "f")) [] ((parameters ((name_at (at 2 8) (codes "x")) ∷ []) mode.Var (w.named
    (at 2 15) (codes "int") w.no_arguments)) ∷ []) None []) (s.then (s.assigns (at 2 22) assign.Set (t.name (at 2 22) (codes "x")) (t.name (at 2 26) (codes
    "g"))) s.empty)) (s.then (s.evaluates (at 3 1) (t.call (at 3 1) (t.name (at 3 1) (codes "f")) (t.part (t.name (at 3 3) (codes "g")) t.no_parts)))
    s.empty)))
    -- var g = 1
    -- proc f(x: var int) = g = x
    -- f(g)
    ∷ row (stops VarOfGlobal 3 3)
    (s.then (s.defines (at 1 1) binding.Var ((defined ((declared (at 1 5) (codes "g")) ∷ []) [] None (Some (t.int (at 1 9) (pos
    1)))) ∷ [])) (s.then (s.proclaims (at 2 1) (head (declared (at 2 1) (codes "f")) [] ((parameters ((name_at (at 2 8) (codes "x")) ∷ []) mode.Var (w.named
    (at 2 15) (codes "int") w.no_arguments)) ∷ []) None []) (s.then (s.assigns (at 2 22) assign.Set (t.name (at 2 22) (codes "g")) (t.name (at 2 26) (codes
    "x"))) s.empty)) (s.then (s.evaluates (at 3 1) (t.call (at 3 1) (t.name (at 3 1) (codes "f")) (t.part (t.name (at 3 3) (codes "g")) t.no_parts)))
    s.empty)))
    -- var g = 1
    -- proc f(x: int, y: var int) = echo g
    -- f(g, g)
    ∷ row (stops VarOfGlobal 3 6)
    (s.then (s.defines (at 1 1) binding.Var ((defined ((declared (at 1 5) (codes "g")) ∷ []) [] None (Some (t.int (at 1 9) (pos
    1)))) ∷ [])) (s.then (s.proclaims (at 2 1) (head (declared (at 2 1) (codes "f")) [] ((parameters ((name_at (at 2 8) (codes "x")) ∷ []) mode.Plain
    (w.named (at 2 11) (codes "int") w.no_arguments)) ∷ (parameters ((name_at (at 2 16) (codes "y")) ∷ []) mode.Var (w.named (at 2 23) (codes "int")
    w.no_arguments)) ∷ []) None []) (s.then (s.commands (at 2 30) (t.name (at 2 30) (codes "echo")) (t.part (t.name (at 2 35) (codes "g")) t.no_parts))
    s.empty)) (s.then (s.evaluates (at 3 1) (t.call (at 3 1) (t.name (at 3 1) (codes "f")) (t.part (t.name (at 3 3) (codes "g")) (t.part (t.name (at 3 6)
    (codes "g")) t.no_parts)))) s.empty)))
    -- var g = 1
    -- proc f(g: var int) = g = 2
    -- f(g)
    ∷ row accepted
    (s.then (s.defines (at 1 1) binding.Var
    ((defined ((declared (at 1 5) (codes "g")) ∷ []) [] None (Some (t.int (at 1 9) (pos 1)))) ∷ []))
    (s.then (s.proclaims (at 2 1) (head (declared (at 2 1) (codes "f")) [] ((parameters ((name_at (at 2 8) (codes "g")) ∷ []) mode.Var (w.named (at 2 15)
    (codes "int") w.no_arguments)) ∷ []) None []) (s.then (s.assigns (at 2 22) assign.Set (t.name (at 2 22) (codes "g")) (t.int (at 2 26) (pos 2))) s.empty))
    (s.then (s.evaluates (at 3 1) (t.call (at 3 1) (t.name (at 3 1) (codes "f")) (t.part (t.name (at 3 3) (codes "g")) t.no_parts))) s.empty)))
    -- var g = 1
    -- proc f(x: var int) =
    --   let g = 2
    --   x = g
    -- f(g)
    ∷ row accepted
    (s.then (s.defines (at 1 1) binding.Var
    ((defined ((declared (at 1 5) (codes "g")) ∷ []) [] None (Some (t.int (at 1 9) (pos 1)))) ∷ []))
    (s.then (s.proclaims (at 2 1) (head (declared (at 2 1) (codes "f")) [] ((parameters ((name_at (at 2 8) (codes "x")) ∷ []) mode.Var (w.named (at 2 15)
    (codes "int") w.no_arguments)) ∷ []) None []) (s.then (s.defines (at 3 3) binding.Let ((defined ((declared (at 3 7) (codes "g")) ∷ []) [] None (Some
    (t.int (at 3 11) (pos 2)))) ∷ [])) (s.then (s.assigns (at 4 3) assign.Set (t.name (at 4 3) (codes "x")) (t.name (at 4 7) (codes "g"))) s.empty))) (s.then
    (s.evaluates (at 5 1) (t.call (at 5 1) (t.name (at 5 1) (codes "f")) (t.part (t.name (at 5 3) (codes "g")) t.no_parts))) s.empty)))
    -- const g = 1
    -- var h = 2
    -- proc f(x: var int) = x = g
    -- f(h)
    ∷ row accepted (s.then (s.defines (at 1 1) binding.Const ((defined ((declared (at 1 7) (codes "g")) ∷ []) [] None (Some (t.int (at 1 11) (pos 1)))) ∷
    [])) (s.then (s.defines (at 2 1) binding.Var ((defined ((declared (at 2 5) (codes "h")) ∷ []) [] None (Some (t.int (at 2 9) (pos 2)))) ∷ [])) (s.then
    (s.proclaims (at 3 1) (head (declared (at 3 1) (codes "f")) [] ((parameters ((name_at (at 3 8) (codes "x")) ∷ []) mode.Var (w.named (at 3 15) (codes
    "int") w.no_arguments)) ∷ []) None []) (s.then (s.assigns (at 3 22) assign.Set (t.name (at 3 22) (codes "x")) (t.name (at 3 26) (codes "g"))) s.empty))
    (s.then (s.evaluates (at 4 1) (t.call (at 4 1) (t.name (at 4 1) (codes "f")) (t.part (t.name (at 4 3) (codes "h")) t.no_parts))) s.empty))))
    -- var g = 1
    -- proc h() = echo g
    -- proc f(x: var int) = h()
    -- f(g)
    ∷ row (stops VarOfGlobal 4 3)
    (s.then (s.defines (at 1 1) binding.Var ((defined ((declared (at 1 5) (codes "g")) ∷ []) [] None (Some (t.int (at 1 9) (pos
    1)))) ∷ [])) (s.then (s.proclaims (at 2 1) (head (declared (at 2 1) (codes "h")) [] [] None []) (s.then (s.commands (at 2 12) (t.name (at 2 12) (codes
    "echo")) (t.part (t.name (at 2 17) (codes "g")) t.no_parts)) s.empty)) (s.then (s.proclaims (at 3 1) (head (declared (at 3 1) (codes "f")) []
    ((parameters ((name_at (at 3 8) (codes "x")) ∷ []) mode.Var (w.named (at 3 15) (codes "int") w.no_arguments)) ∷ []) None []) (s.then (s.evaluates (at 3
    22) (t.call (at 3 22) (t.name (at 3 22) (codes "h")) t.no_parts)) s.empty)) (s.then (s.evaluates (at 4 1) (t.call (at 4 1) (t.name (at 4 1) (codes "f"))
    (t.part (t.name (at 4 3) (codes "g")) t.no_parts))) s.empty))))
    -- var g = 1
    -- proc a() = echo 1
    -- proc b() = a()
    -- proc f(x: var int) = b()
    -- f(g)
    ∷ row accepted
    (s.then (s.defines (at 1 1) binding.Var
    ((defined ((declared (at 1 5) (codes "g")) ∷ []) [] None (Some (t.int (at 1 9) (pos 1)))) ∷ []))
    (s.then (s.proclaims (at 2 1) (head (declared (at 2 1) (codes "a")) [] [] None []) (s.then (s.commands (at 2 12) (t.name (at 2 12) (codes "echo"))
    (t.part (t.int (at 2 17) (pos 1)) t.no_parts)) s.empty)) (s.then (s.proclaims (at 3 1) (head (declared (at 3 1) (codes "b")) [] [] None []) (s.then
    (s.evaluates (at 3 12) (t.call (at 3 12) (t.name (at 3 12) (codes "a")) t.no_parts)) s.empty)) (s.then (s.proclaims (at 4 1) (head (declared (at 4 1)
    (codes "f")) [] ((parameters ((name_at (at 4 8) (codes "x")) ∷ []) mode.Var (w.named (at 4 15) (codes "int") w.no_arguments)) ∷ []) None []) (s.then
    (s.evaluates (at 4 22) (t.call (at 4 22) (t.name (at 4 22) (codes "b")) t.no_parts)) s.empty)) (s.then (s.evaluates (at 5 1) (t.call (at 5 1) (t.name (at
    5 1) (codes "f")) (t.part (t.name (at 5 3) (codes "g")) t.no_parts))) s.empty)))))
    -- var g = 1
    -- proc h()
    -- proc f(x: var int) = h()
    -- f(g)
    -- proc h() = echo g
    ∷ row (stops VarOfGlobal 4 3)
    (s.then (s.defines (at 1 1) binding.Var ((defined ((declared (at 1 5) (codes "g")) ∷ []) [] None (Some (t.int (at 1 9) (pos
    1)))) ∷ [])) (s.then (s.proclaims (at 2 1) (head (declared (at 2 1) (codes "h")) [] [] None []) s.empty) (s.then (s.proclaims (at 3 1) (head (declared
    (at 3 1) (codes "f")) [] ((parameters ((name_at (at 3 8) (codes "x")) ∷ []) mode.Var (w.named (at 3 15) (codes "int") w.no_arguments)) ∷ []) None [])
    (s.then (s.evaluates (at 3 22) (t.call (at 3 22) (t.name (at 3 22) (codes "h")) t.no_parts)) s.empty)) (s.then (s.evaluates (at 4 1) (t.call (at 4 1)
    (t.name (at 4 1) (codes "f")) (t.part (t.name (at 4 3) (codes "g")) t.no_parts))) (s.then (s.proclaims (at 5 1) (head (declared (at 5 1) (codes "h")) []
    [] None []) (s.then (s.commands (at 5 12) (t.name (at 5 12) (codes "echo")) (t.part (t.name (at 5 17) (codes "g")) t.no_parts)) s.empty)) s.empty)))))
    -- var g = 1
    -- proc f(x: var int) = x = g
    -- proc k() = f(g)
    ∷ row (stops VarOfGlobal 3 14) (s.then (s.defines (at 1 1) binding.Var ((defined ((declared (at 1 5) (codes "g")) ∷ []) [] None (Some (t.int (at 1 9)
    (pos 1)))) ∷ [])) (s.then (s.proclaims (at 2 1) (head (declared (at 2 1) (codes "f")) [] ((parameters ((name_at (at 2 8) (codes "x")) ∷ []) mode.Var
    (w.named (at 2 15) (codes "int") w.no_arguments)) ∷ []) None []) (s.then (s.assigns (at 2 22) assign.Set (t.name (at 2 22) (codes "x")) (t.name (at 2 26)
    (codes "g"))) s.empty)) (s.then (s.proclaims (at 3 1) (head (declared (at 3 1) (codes "k")) [] [] None []) (s.then (s.evaluates (at 3 12) (t.call (at 3
    12) (t.name (at 3 12) (codes "f")) (t.part (t.name (at 3 14) (codes "g")) t.no_parts))) s.empty)) s.empty)))
    -- var g = 1
    -- proc f(x: var int) = x = g
    -- proc k() =
    --   var h = 1
    --   f(h)
    -- k()
    ∷ row accepted
    (s.then (s.defines (at 1 1) binding.Var
    ((defined ((declared (at 1 5) (codes "g")) ∷ []) [] None (Some (t.int (at 1 9) (pos 1)))) ∷ []))
    (s.then (s.proclaims (at 2 1) (head (declared (at 2 1) (codes "f")) [] ((parameters ((name_at (at 2 8) (codes "x")) ∷ []) mode.Var (w.named (at 2 15)
    (codes "int") w.no_arguments)) ∷ []) None []) (s.then (s.assigns (at 2 22) assign.Set (t.name (at 2 22) (codes "x")) (t.name (at 2 26) (codes "g")))
    s.empty)) (s.then (s.proclaims (at 3 1) (head (declared (at 3 1) (codes "k")) [] [] None []) (s.then (s.defines (at 4 3) binding.Var ((defined ((declared
    (at 4 7) (codes "h")) ∷ []) [] None (Some (t.int (at 4 11) (pos 1)))) ∷ []))
    (s.then (s.evaluates (at 5 3) (t.call (at 5 3) (t.name (at 5 3) (codes "f"))
    (t.part (t.name (at 5 5) (codes "h")) t.no_parts))) s.empty))) (s.then (s.evaluates (at 6 1) (t.call (at 6 1) (t.name (at 6 1) (codes "k")) t.no_parts))
    s.empty))))
    -- var g = 1
    -- proc f(x: var int) = x = g
    -- proc k(y: var int) = f(y)
    -- k(g)
    ∷ row (stops VarOfGlobal 4 3)
    (s.then (s.defines (at 1 1) binding.Var ((defined ((declared (at 1 5) (codes "g")) ∷ []) [] None (Some (t.int (at 1 9) (pos
    1)))) ∷ [])) (s.then (s.proclaims (at 2 1) (head (declared (at 2 1) (codes "f")) [] ((parameters ((name_at (at 2 8) (codes "x")) ∷ []) mode.Var (w.named
    (at 2 15) (codes "int") w.no_arguments)) ∷ []) None []) (s.then (s.assigns (at 2 22) assign.Set (t.name (at 2 22) (codes "x")) (t.name (at 2 26) (codes
    "g"))) s.empty)) (s.then (s.proclaims (at 3 1) (head (declared (at 3 1) (codes "k")) [] ((parameters ((name_at (at 3 8) (codes "y")) ∷ []) mode.Var
    (w.named (at 3 15) (codes "int") w.no_arguments)) ∷ []) None []) (s.then (s.evaluates (at 3 22) (t.call (at 3 22) (t.name (at 3 22) (codes "f")) (t.part
    (t.name (at 3 24) (codes "y")) t.no_parts))) s.empty)) (s.then (s.evaluates (at 4 1) (t.call (at 4 1) (t.name (at 4 1) (codes "k")) (t.part (t.name (at 4
    3) (codes "g")) t.no_parts))) s.empty))))
    -- var g = 1
    -- inc(g, g)
    ∷ row accepted
    (s.then (s.defines (at 1 1) binding.Var
    ((defined ((declared (at 1 5) (codes "g")) ∷ []) [] None (Some (t.int (at 1 9) (pos 1)))) ∷ []))
    (s.then (s.evaluates (at 2 1) (t.call (at 2 1) (t.name (at 2 1) (codes "inc")) (t.part (t.name (at 2 5) (codes "g")) (t.part (t.name (at 2 8) (codes
    "g")) t.no_parts)))) s.empty))
    -- var g, h = 1
    -- proc f() = swap(g, h)
    -- f()
    ∷ row accepted
    (s.then (s.defines (at 1 1) binding.Var
    ((defined ((declared (at 1 5) (codes "g")) ∷ (declared (at 1 8) (codes "h")) ∷ []) [] None (Some
    (t.int (at 1 12) (pos 1)))) ∷ [])) (s.then (s.proclaims (at 2 1) (head (declared (at 2 1) (codes "f")) [] [] None []) (s.then (s.evaluates (at 2 12)
    (t.call (at 2 12) (t.name (at 2 12) (codes "swap")) (t.part (t.name (at 2 17) (codes "g")) (t.part (t.name (at 2 20) (codes "h")) t.no_parts))))
    s.empty)) (s.then (s.evaluates (at 3 1) (t.call (at 3 1) (t.name (at 3 1) (codes "f")) t.no_parts)) s.empty)))
    ∷ []

abbrev pub left_out_rows : List Row
left_out_rows =
    -- let x = nil
    row (stops LeftOut 1 9) (s.then (s.defines (at 1 1) binding.Let ((defined ((declared (at 1 5) (codes "x")) ∷ []) [] None (Some (t.nil (at 1 9)))) ∷ []))
    s.empty)
    -- type
    --   T = object
    --     x: int
    --   N = ref T
    ∷ row (stops LeftOut 4 7) (s.then (s.types (at 1 1) ((declaration (declared (at 2 3) (codes "T")) [] (w.object (at 2 7) false None (w.fields ((declared
    (at 3 5) (codes "x")) ∷ []) (w.named (at 3 8) (codes "int") w.no_arguments) w.no_fields))) ∷ (declaration (declared (at 4 3) (codes "N")) [] (w.alias
    (w.ref_to (at 4 7) (w.named (at 4 11) (codes "T") w.no_arguments)))) ∷ [])) s.empty)
    -- raise
    ∷ row (stops LeftOut 1 1) (s.then (s.raises (at 1 1) None) s.empty)
    -- try:
    --   echo 1
    -- except ValueError:
    --   echo 2
    ∷ row (stops LeftOut 1 1) (s.then (s.tries (at 1 1) (s.then (s.commands (at 2 3) (t.name (at 2 3) (codes "echo")) (t.part (t.int (at 2 8) (pos 1))
    t.no_parts)) s.empty) s.no_handlers s.empty) s.empty)
    -- type T = object
    --   x: int
    -- proc `=destroy`(x: T) = discard
    ∷ row (stops LeftOut 3 1) (s.then (s.types (at 1 1) ((declaration (declared (at 1 6) (codes "T")) [] (w.object (at 1 10) false None (w.fields ((declared
    (at 2 3) (codes "x")) ∷ []) (w.named (at 2 6) (codes "int") w.no_arguments) w.no_fields))) ∷ [])) (s.then (s.proclaims (at 3 1) (head (quoted (at 3 1)
    (codes "`=destroy`")) [] ((parameters ((name_at (at 3 17) (codes "x")) ∷ []) mode.Plain (w.named (at 3 20) (codes "T") w.no_arguments)) ∷ []) None [])
    (s.then (s.discards (at 3 25) None) s.empty)) s.empty))
    -- type T = object
    --   x: int
    -- proc `=sink`(dest: var T; source: T) = discard
    ∷ row (stops LeftOut 3 1) (s.then (s.types (at 1 1) ((declaration (declared (at 1 6) (codes "T")) [] (w.object (at 1 10) false None (w.fields ((declared
    (at 2 3) (codes "x")) ∷ []) (w.named (at 2 6) (codes "int") w.no_arguments) w.no_fields))) ∷ [])) (s.then (s.proclaims (at 3 1) (head (quoted (at 3 1)
    (codes "`=sink`")) [] ((parameters ((name_at (at 3 14) (codes "dest")) ∷ []) mode.Var (w.named (at 3 24) (codes "T") w.no_arguments)) ∷ (parameters
    ((name_at (at 3 27) (codes "source")) ∷ []) mode.Plain (w.named (at 3 35) (codes "T") w.no_arguments)) ∷ []) None [])
    (s.then (s.discards (at 3 40) None)
    s.empty)) s.empty))
    -- proc f[T](x: T) = discard
    ∷ row (stops LeftOut 1 1)
    (s.then (s.proclaims (at 1 1) (head (declared (at 1 1) (codes "f")) (name_at (at 1 1) [] ∷ []) ((parameters ((name_at (at 1 11)
    (codes "x")) ∷ []) mode.Plain (w.named (at 1 14) (codes "T") w.no_arguments)) ∷ []) None []) (s.then (s.discards (at 1 19) None) s.empty)) s.empty)
    -- type Pair[A, B] = tuple[a: A, b: B]
    ∷ row (stops LeftOut 1 6) (s.then (s.types (at 1 1) ((declaration (declared (at 1 6) (codes "Pair")) (name_at (at 1 1) [] ∷ []) (w.alias (w.tuple_of (at
    1 19) (w.fields ((declared (at 1 25) (codes "a")) ∷ []) (w.named (at 1 28) (codes "A") w.no_arguments) (w.fields ((declared (at 1 31) (codes "b")) ∷ [])
    (w.named (at 1 34) (codes "B") w.no_arguments) w.no_fields))))) ∷ [])) s.empty)
    -- import other
    ∷ row (stops LeftOut 1 1) (s.then (s.imports (at 1 1) []) s.empty)
    -- echo 1
    -- import other
    ∷ row (stops LeftOut 2 1) (s.then (s.commands (at 1 1) (t.name (at 1 1) (codes "echo")) (t.part (t.int (at 1 6) (pos 1)) t.no_parts)) (s.then (s.imports
    (at 2 1) []) s.empty))
    -- echo y
    -- let x = nil
    ∷ row (stops LeftOut 2 9) (s.then (s.commands (at 1 1) (t.name (at 1 1) (codes "echo")) (t.part (t.name (at 1 6) (codes "y")) t.no_parts)) (s.then
    (s.defines (at 2 1) binding.Let ((defined ((declared (at 2 5) (codes "x")) ∷ []) [] None (Some (t.nil (at 2 9)))) ∷ [])) s.empty))
    -- echo nil
    -- raise
    ∷ row (stops LeftOut 1 6) (s.then (s.commands (at 1 1) (t.name (at 1 1) (codes "echo")) (t.part (t.nil (at 1 6)) t.no_parts)) (s.then (s.raises (at 2 1)
    None) s.empty))
    ∷ []

abbrev pub order_rows : List Row
order_rows =
    -- echo y
    -- echo z
    row (stops UnknownName 1 6) (s.then (s.commands (at 1 1) (t.name (at 1 1) (codes "echo")) (t.part (t.name (at 1 6) (codes "y")) t.no_parts)) (s.then
    (s.commands (at 2 1) (t.name (at 2 1) (codes "echo")) (t.part (t.name (at 2 6) (codes "z")) t.no_parts)) s.empty))
    -- echo y, z
    ∷ row (stops UnknownName 1 6) (s.then (s.commands (at 1 1) (t.name (at 1 1) (codes "echo")) (t.part (t.name (at 1 6) (codes "y")) (t.part (t.name (at 1
    9) (codes "z")) t.no_parts))) s.empty)
    -- if 1:
    --   echo z
    ∷ row (stops NotTyped 1 4) (s.then (s.branches (at 1 1) (s.branch (at 1 1) (t.part (t.int (at 1 4) (pos 1)) t.no_parts) (s.then (s.commands (at 2 3)
    (t.name (at 2 3) (codes "echo")) (t.part (t.name (at 2 8) (codes "z")) t.no_parts)) s.empty) s.no_branches) s.empty) s.empty)
    -- if true:
    --   echo y
    -- elif 1:
    --   echo 2
    ∷ row (stops UnknownName 2 8) (s.then (s.branches (at 1 1) (s.branch (at 1 1) (t.part (t.name (at 1 4) (codes "true")) t.no_parts) (s.then (s.commands
    (at 2 3) (t.name (at 2 3) (codes "echo")) (t.part (t.name (at 2 8) (codes "y")) t.no_parts)) s.empty) (s.branch (at 1 1) (t.part (t.int (at 3 6) (pos 1))
    t.no_parts) (s.then (s.commands (at 4 3) (t.name (at 4 3) (codes "echo")) (t.part (t.int (at 4 8) (pos 2)) t.no_parts)) s.empty) s.no_branches)) s.empty)
    s.empty)
    -- discard 1 + y + true
    ∷ row (stops UnknownName 1 13) (s.then (s.discards (at 1 1) (Some (t.binary (at 1 9) sign.Plus (t.binary (at 1 9) sign.Plus (t.int (at 1 9) (pos 1))
    (t.name (at 1 13) (codes "y"))) (t.name (at 1 17) (codes "true"))))) s.empty)
    -- discard true + y
    ∷ row (stops UnknownName 1 16) (s.then (s.discards (at 1 1) (Some (t.binary (at 1 9) sign.Plus (t.name (at 1 9) (codes "true")) (t.name (at 1 16) (codes
    "y"))))) s.empty)
    -- discard len(1, y)
    ∷ row (stops UnknownName 1 16) (s.then (s.discards (at 1 1) (Some (t.call (at 1 9) (t.name (at 1 9) (codes "len")) (t.part (t.int (at 1 13) (pos 1))
    (t.part (t.name (at 1 16) (codes "y")) t.no_parts))))) s.empty)
    -- discard true[y]
    ∷ row (stops UnknownName 1 14) (s.then (s.discards (at 1 1) (Some (t.index (at 1 9) (t.name (at 1 9) (codes "true")) (t.part (t.name (at 1 14) (codes
    "y")) t.no_parts)))) s.empty)
    -- let x = 1
    -- let x: int
    ∷ row (stops Redefined 2 5) (s.then (s.defines (at 1 1) binding.Let ((defined ((declared (at 1 5) (codes "x")) ∷ []) [] None (Some (t.int (at 1 9) (pos
    1)))) ∷ [])) (s.then (s.defines (at 2 1) binding.Let ((defined ((declared (at 2 5) (codes "x")) ∷ []) [] (Some (w.named (at 2 8) (codes "int")
    w.no_arguments)) None) ∷ [])) s.empty))
    -- let s = "a"
    -- s += 1
    ∷ row (stops NotTyped 2 1)
    (s.then (s.defines (at 1 1) binding.Let ((defined ((declared (at 1 5) (codes "s")) ∷ []) [] None (Some (t.text (at 1 9) (codes
    "\"a\"")))) ∷ [])) (s.then (s.assigns (at 2 1) assign.Plus (t.name (at 2 1) (codes "s")) (t.int (at 2 6) (pos 1))) s.empty))
    -- let s = [1]
    -- s &= "a"
    ∷ row (stops NotTyped 2 1) (s.then (s.defines (at 1 1) binding.Let ((defined ((declared (at 1 5) (codes "s")) ∷ []) [] None (Some (t.array (at 1 9)
    (t.part (t.int (at 1 10) (pos 1)) t.no_parts)))) ∷ [])) (s.then (s.assigns (at 2 1) assign.Join (t.name (at 2 1) (codes "s")) (t.text (at 2 6) (codes
    "\"a\""))) s.empty))
    -- proc f(x: seq[int]) = discard
    -- proc f(x: seq[bool]) = discard
    -- f(@[])
    ∷ row (stops Ambiguous 3 1) (s.then (s.proclaims (at 1 1) (head (declared (at 1 1) (codes "f")) [] ((parameters ((name_at (at 1 8) (codes "x")) ∷ [])
    mode.Plain (w.named (at 1 11) (codes "seq") (w.argument (w.named (at 1 15) (codes "int") w.no_arguments) w.no_arguments))) ∷ []) None []) (s.then
    (s.discards (at 1 23) None) s.empty)) (s.then (s.proclaims (at 2 1) (head (declared (at 2 1) (codes "f")) [] ((parameters ((name_at (at 2 8) (codes "x"))
    ∷ []) mode.Plain (w.named (at 2 11) (codes "seq") (w.argument (w.named (at 2 15) (codes "bool") w.no_arguments) w.no_arguments))) ∷ []) None []) (s.then
    (s.discards (at 2 24) None) s.empty)) (s.then (s.evaluates (at 3 1) (t.call (at 3 1) (t.name (at 3 1) (codes "f")) (t.part (t.sequence (at 3 3)
    t.no_parts) t.no_parts))) s.empty)))
    -- proc f()
    -- echo 1
    ∷ row (stops MissingBody 1 1) (s.then (s.proclaims (at 1 1) (head (declared (at 1 1) (codes "f")) [] [] None []) s.empty) (s.then (s.commands (at 2 1)
    (t.name (at 2 1) (codes "echo")) (t.part (t.int (at 2 6) (pos 1)) t.no_parts)) s.empty))
    -- proc f()
    -- echo y
    ∷ row (stops UnknownName 2 6) (s.then (s.proclaims (at 1 1) (head (declared (at 1 1) (codes "f")) [] [] None []) s.empty) (s.then (s.commands (at 2 1)
    (t.name (at 2 1) (codes "echo")) (t.part (t.name (at 2 6) (codes "y")) t.no_parts)) s.empty))
    -- proc f()
    -- proc g(x: seq[int]) = discard
    -- proc g(x: seq[bool]) = discard
    -- g(@[])
    ∷ row (stops Ambiguous 4 1) (s.then (s.proclaims (at 1 1) (head (declared (at 1 1) (codes "f")) [] [] None []) s.empty) (s.then (s.proclaims (at 2 1)
    (head (declared (at 2 1) (codes "g")) [] ((parameters ((name_at (at 2 8) (codes "x")) ∷ []) mode.Plain (w.named (at 2 11) (codes "seq") (w.argument
    (w.named (at 2 15) (codes "int") w.no_arguments) w.no_arguments))) ∷ []) None []) (s.then (s.discards (at 2 23) None) s.empty)) (s.then (s.proclaims (at
    3 1) (head (declared (at 3 1) (codes "g")) [] ((parameters ((name_at (at 3 8) (codes "x")) ∷ []) mode.Plain (w.named (at 3 11) (codes "seq") (w.argument
    (w.named (at 3 15) (codes "bool") w.no_arguments) w.no_arguments))) ∷ []) None []) (s.then (s.discards (at 3 24) None) s.empty)) (s.then (s.evaluates (at
    4 1) (t.call (at 4 1) (t.name (at 4 1) (codes "g")) (t.part (t.sequence (at 4 3) t.no_parts) t.no_parts))) s.empty))))
    -- var g = 1
    -- proc f(x: var int) = echo g
    -- f(g)
    -- echo y
    ∷ row (stops UnknownName 4 6)
    (s.then (s.defines (at 1 1) binding.Var ((defined ((declared (at 1 5) (codes "g")) ∷ []) [] None (Some (t.int (at 1 9) (pos
    1)))) ∷ [])) (s.then (s.proclaims (at 2 1) (head (declared (at 2 1) (codes "f")) [] ((parameters ((name_at (at 2 8) (codes "x")) ∷ []) mode.Var (w.named
    (at 2 15) (codes "int") w.no_arguments)) ∷ []) None []) (s.then (s.commands (at 2 22) (t.name (at 2 22) (codes "echo")) (t.part (t.name (at 2 27) (codes
    "g")) t.no_parts)) s.empty)) (s.then (s.evaluates (at 3 1) (t.call (at 3 1) (t.name (at 3 1) (codes "f")) (t.part (t.name (at 3 3) (codes "g"))
    t.no_parts))) (s.then (s.commands (at 4 1) (t.name (at 4 1) (codes "echo")) (t.part (t.name (at 4 6) (codes "y")) t.no_parts)) s.empty))))
    -- let x = 1
    -- x = 2
    -- let y = nil
    ∷ row (stops LeftOut 3 9) (s.then (s.defines (at 1 1) binding.Let ((defined ((declared (at 1 5) (codes "x")) ∷ []) [] None (Some (t.int (at 1 9) (pos
    1)))) ∷ [])) (s.then (s.assigns (at 2 1) assign.Set (t.name (at 2 1) (codes "x")) (t.int (at 2 5) (pos 2))) (s.then (s.defines (at 3 1) binding.Let
    ((defined ((declared (at 3 5) (codes "y")) ∷ []) [] None (Some (t.nil (at 3 9)))) ∷ [])) s.empty)))
    -- echo y
    -- try:
    --   echo 1
    -- except:
    --   echo 2
    ∷ row (stops LeftOut 2 1) (s.then (s.commands (at 1 1) (t.name (at 1 1) (codes "echo")) (t.part (t.name (at 1 6) (codes "y")) t.no_parts)) (s.then
    (s.tries (at 2 1) (s.then (s.commands (at 3 3) (t.name (at 3 3) (codes "echo")) (t.part (t.int (at 3 8) (pos 1)) t.no_parts)) s.empty) s.no_handlers
    s.empty) s.empty))
    ∷ []
