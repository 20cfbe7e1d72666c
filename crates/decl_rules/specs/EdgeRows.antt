-- Examples at the edges of the rules: above each module its text.
use Rattle.std.specs.Prelude.{pos, false, List, [], ◌∷◌, codes, Some, None}
use Rattle.arc_base.specs.declared.place.Code.TheVariants.{UnknownName, Redefined, NotTyped, NotAssignable, VarOfGlobal}
use Rattle.nim_tree.specs.declared.name.PragmaKind.TheVariants as pragma
use Rattle.nim_tree.specs.declared.stmt.AssignOp.TheVariants as assign
use Rattle.nim_tree.specs.declared.stmt.Binding.TheVariants as binding
use Rattle.nim_tree.specs.declared.stmt.ParamMode.TheVariants as mode
use Rattle.nim_tree.specs.Terms as t
use Rattle.nim_tree.specs.Types as w
use Rattle.nim_tree.specs.Statements as s
use Rattle.decl_rules.specs.Examples.{Row, row, accepted, stops, at, name_at, declared, quoted, pragma_of, defined, parameters, head, declaration}

abbrev pub edge_rows : List Row
edge_rows =
    -- var g = 1
    -- proc h(x, y: var int): int = 1
    -- proc f(a: var int; b: array[h(g, a), int]) = discard
    row (stops NotTyped 3 29) (s.then (s.defines (at 1 1) binding.Var ((defined ((declared (at 1 5) (codes "g")) ∷ []) [] None (Some (t.int (at 1 9) (pos
    1)))) ∷ [])) (s.then (s.proclaims (at 2 1) (head (declared (at 2 1) (codes "h")) [] ((parameters ((name_at (at 2 8) (codes "x")) ∷ (name_at (at 2 11)
    (codes "y")) ∷ []) mode.Var (w.named (at 2 18) (codes "int") w.no_arguments)) ∷ []) (Some (w.named (at 2 24) (codes "int") w.no_arguments)) []) (s.then
    (s.evaluates (at 2 30) (t.int (at 2 30) (pos 1))) s.empty)) (s.then (s.proclaims (at 3 1) (head (declared (at 3 1) (codes "f")) [] ((parameters ((name_at
    (at 3 8) (codes "a")) ∷ []) mode.Var (w.named (at 3 15) (codes "int") w.no_arguments)) ∷ (parameters ((name_at (at 3 20) (codes "b")) ∷ []) mode.Plain
    (w.array (at 3 23) (t.call (at 3 29) (t.name (at 3 29) (codes "h")) (t.part (t.name (at 3 31) (codes "g")) (t.part (t.name (at 3 34) (codes "a"))
    t.no_parts))) (w.named (at 3 38) (codes "int") w.no_arguments))) ∷ []) None []) (s.then (s.discards (at 3 46) None) s.empty)) s.empty)))
    -- proc h(x, y: var int): int = 1
    -- proc f(a: var int; c: var int; b: array[h(a, c), int]) = discard
    ∷ row (stops NotTyped 2 41) (s.then (s.proclaims (at 1 1) (head (declared (at 1 1) (codes "h")) [] ((parameters ((name_at (at 1 8) (codes "x")) ∷
    (name_at (at 1 11) (codes "y")) ∷ []) mode.Var (w.named (at 1 18) (codes "int") w.no_arguments)) ∷ []) (Some (w.named (at 1 24) (codes "int")
    w.no_arguments)) []) (s.then (s.evaluates (at 1 30) (t.int (at 1 30) (pos 1))) s.empty)) (s.then (s.proclaims (at 2 1) (head (declared (at 2 1) (codes
    "f")) [] ((parameters ((name_at (at 2 8) (codes "a")) ∷ []) mode.Var (w.named (at 2 15) (codes "int") w.no_arguments)) ∷ (parameters ((name_at (at 2 20)
    (codes "c")) ∷ []) mode.Var (w.named (at 2 27) (codes "int") w.no_arguments)) ∷ (parameters ((name_at (at 2 32) (codes "b")) ∷ []) mode.Plain (w.array
    (at 2 35) (t.call (at 2 41) (t.name (at 2 41) (codes "h")) (t.part (t.name (at 2 43) (codes "a")) (t.part (t.name (at 2 46) (codes "c")) t.no_parts)))
    (w.named (at 2 50) (codes "int") w.no_arguments))) ∷ []) None []) (s.then (s.discards (at 2 58) None) s.empty)) s.empty))
    -- let g = 1
    -- proc f(a: var int; b: array[inc(g), int]) = discard
    ∷ row (stops NotAssignable 2 33) (s.then (s.defines (at 1 1) binding.Let ((defined ((declared (at 1 5) (codes "g")) ∷ []) [] None (Some (t.int (at 1 9)
    (pos 1)))) ∷ [])) (s.then (s.proclaims (at 2 1) (head (declared (at 2 1) (codes "f")) [] ((parameters ((name_at (at 2 8) (codes "a")) ∷ []) mode.Var
    (w.named (at 2 15) (codes "int") w.no_arguments)) ∷ (parameters ((name_at (at 2 20) (codes "b")) ∷ []) mode.Plain (w.array (at 2 23) (t.call (at 2 29)
    (t.name (at 2 29) (codes "inc")) (t.part (t.name (at 2 33) (codes "g")) t.no_parts)) (w.named (at 2 37) (codes "int") w.no_arguments))) ∷ []) None [])
    (s.then (s.discards (at 2 45) None) s.empty)) s.empty))
    -- type
    --   T = object
    --     x: U
    --   A = array[len([T(), T()]), int]
    --   U = array[65536, array[3, int]]
    ∷ row (stops NotTyped 4 18) (s.then (s.types (at 1 1) ((declaration (declared (at 2 3) (codes "T")) [] (w.object (at 2 7) false None (w.fields ((declared
    (at 3 5) (codes "x")) ∷ []) (w.named (at 3 8) (codes "U") w.no_arguments) w.no_fields))) ∷ (declaration (declared (at 4 3) (codes "A")) [] (w.alias
    (w.array (at 4 7) (t.call (at 4 13) (t.name (at 4 13) (codes "len")) (t.part (t.array (at 4 17) (t.part (t.call (at 4 18) (t.name (at 4 18) (codes "T"))
    t.no_parts) (t.part (t.call (at 4 23) (t.name (at 4 23) (codes "T")) t.no_parts) t.no_parts))) t.no_parts)) (w.named (at 4 30) (codes "int")
    w.no_arguments)))) ∷ (declaration (declared (at 5 3) (codes "U")) [] (w.alias (w.array (at 5 7) (t.int (at 5 13) (pos 65536)) (w.array (at 5 20) (t.int
    (at 5 26) (pos 3)) (w.named (at 5 29) (codes "int") w.no_arguments))))) ∷ [])) s.empty)
    -- type
    --   A = object
    --     a: A
    --   B = array[len([A()]), int]
    ∷ row (stops NotTyped 4 18) (s.then (s.types (at 1 1) ((declaration (declared (at 2 3) (codes "A")) [] (w.object (at 2 7) false None (w.fields ((declared
    (at 3 5) (codes "a")) ∷ []) (w.named (at 3 8) (codes "A") w.no_arguments) w.no_fields))) ∷ (declaration (declared (at 4 3) (codes "B")) [] (w.alias
    (w.array (at 4 7) (t.call (at 4 13) (t.name (at 4 13) (codes "len")) (t.part (t.array (at 4 17) (t.part (t.call (at 4 18) (t.name (at 4 18) (codes "A"))
    t.no_parts) t.no_parts)) t.no_parts)) (w.named (at 4 25) (codes "int") w.no_arguments)))) ∷ [])) s.empty)
    -- type
    --   U = array[2, int]
    --   T = object
    --     x: U
    --   A = array[len([T(), T()]), int]
    -- var a: A
    -- echo a[0]
    ∷ row accepted (s.then (s.types (at 1 1) ((declaration (declared (at 2 3) (codes "U")) [] (w.alias (w.array (at 2 7) (t.int (at 2 13) (pos 2)) (w.named
    (at 2 16) (codes "int") w.no_arguments)))) ∷ (declaration (declared (at 3 3) (codes "T")) [] (w.object (at 3 7) false None (w.fields ((declared (at 4 5)
    (codes "x")) ∷ []) (w.named (at 4 8) (codes "U") w.no_arguments) w.no_fields))) ∷ (declaration (declared (at 5 3) (codes "A")) [] (w.alias (w.array (at 5
    7) (t.call (at 5 13) (t.name (at 5 13) (codes "len")) (t.part (t.array (at 5 17) (t.part (t.call (at 5 18) (t.name (at 5 18) (codes "T")) t.no_parts)
    (t.part (t.call (at 5 23) (t.name (at 5 23) (codes "T")) t.no_parts) t.no_parts))) t.no_parts)) (w.named (at 5 30) (codes "int") w.no_arguments)))) ∷
    [])) (s.then (s.defines (at 6 1) binding.Var ((defined ((declared (at 6 5) (codes "a")) ∷ []) [] (Some (w.named (at 6 8) (codes "A") w.no_arguments))
    None) ∷ [])) (s.then (s.commands (at 7 1) (t.name (at 7 1) (codes "echo")) (t.part (t.index (at 7 6) (t.name (at 7 6) (codes "a")) (t.part (t.int (at 7
    8) (pos 0)) t.no_parts)) t.no_parts)) s.empty)))
    -- type
    --   A = array[len(newSeq[U](3)), int]
    --   U = int
    ∷ row (stops NotTyped 2 24) (s.then (s.types (at 1 1) ((declaration (declared (at 2 3) (codes "A")) [] (w.alias (w.array (at 2 7) (t.call (at 2 13)
    (t.name (at 2 13) (codes "len")) (t.part (t.call (at 2 17) (t.index (at 2 17) (t.name (at 2 17) (codes "newSeq")) (t.part (t.name (at 2 24) (codes "U"))
    t.no_parts)) (t.part (t.int (at 2 27) (pos 3)) t.no_parts)) t.no_parts)) (w.named (at 2 32) (codes "int") w.no_arguments)))) ∷ (declaration (declared (at
    3 3) (codes "U")) [] (w.alias (w.named (at 3 7) (codes "int") w.no_arguments))) ∷ [])) s.empty)
    -- type
    --   A = array[ord(E(1)), int]
    --   E = enum a, b
    ∷ row (stops NotTyped 2 17) (s.then (s.types (at 1 1) ((declaration (declared (at 2 3) (codes "A")) [] (w.alias (w.array (at 2 7) (t.call (at 2 13)
    (t.name (at 2 13) (codes "ord")) (t.part (t.call (at 2 17) (t.name (at 2 17) (codes "E")) (t.part (t.int (at 2 19) (pos 1)) t.no_parts)) t.no_parts))
    (w.named (at 2 24) (codes "int") w.no_arguments)))) ∷ (declaration (declared (at 3 3) (codes "E")) [] (w.enum (at 3 3) ((name_at (at 3 12) (codes "a")) ∷
    (name_at (at 3 15) (codes "b")) ∷ []))) ∷ [])) s.empty)
    -- const a = 1
    -- type
    --   M = array[a, int]
    --   a = int
    ∷ row (stops Redefined 4 3) (s.then (s.defines (at 1 1) binding.Const ((defined ((declared (at 1 7) (codes "a")) ∷ []) [] None (Some (t.int (at 1 11)
    (pos 1)))) ∷ [])) (s.then (s.types (at 2 1) ((declaration (declared (at 3 3) (codes "M")) [] (w.alias (w.array (at 3 7) (t.name (at 3 13) (codes "a"))
    (w.named (at 3 16) (codes "int") w.no_arguments)))) ∷ (declaration (declared (at 4 3) (codes "a")) [] (w.alias (w.named (at 4 7) (codes "int")
    w.no_arguments))) ∷ [])) s.empty))
    -- var B = 1
    -- type
    --   C = object
    --     a: B
    --   B = int
    ∷ row (stops NotTyped 4 8) (s.then (s.defines (at 1 1) binding.Var ((defined ((declared (at 1 5) (codes "B")) ∷ []) [] None (Some (t.int (at 1 9) (pos
    1)))) ∷ [])) (s.then (s.types (at 2 1) ((declaration (declared (at 3 3) (codes "C")) [] (w.object (at 3 7) false None (w.fields ((declared (at 4 5)
    (codes "a")) ∷ []) (w.named (at 4 8) (codes "B") w.no_arguments) w.no_fields))) ∷ (declaration (declared (at 5 3) (codes "B")) [] (w.alias (w.named (at 5
    7) (codes "int") w.no_arguments))) ∷ [])) s.empty))
    -- type
    --   E = enum a, B
    --   B = int
    ∷ row (stops Redefined 3 3) (s.then (s.types (at 1 1) ((declaration (declared (at 2 3) (codes "E")) [] (w.enum (at 2 3) ((name_at (at 2 12) (codes "a"))
    ∷ (name_at (at 2 15) (codes "B")) ∷ []))) ∷ (declaration (declared (at 3 3) (codes "B")) [] (w.alias (w.named (at 3 7) (codes "int") w.no_arguments))) ∷
    [])) s.empty)
    -- type
    --   A = B
    --   B = A
    ∷ row (stops NotTyped 2 3) (s.then (s.types (at 1 1) ((declaration (declared (at 2 3) (codes "A")) [] (w.alias (w.named (at 2 7) (codes "B")
    w.no_arguments))) ∷ (declaration (declared (at 3 3) (codes "B")) [] (w.alias (w.named (at 3 7) (codes "A") w.no_arguments))) ∷ [])) s.empty)
    -- type
    --   A = seq[B]
    --   B = C
    --   C = int
    -- var a: A = @[1]
    -- echo a.len
    ∷ row accepted (s.then (s.types (at 1 1) ((declaration (declared (at 2 3) (codes "A")) [] (w.alias (w.named (at 2 7) (codes "seq") (w.argument (w.named
    (at 2 11) (codes "B") w.no_arguments) w.no_arguments)))) ∷ (declaration (declared (at 3 3) (codes "B")) [] (w.alias (w.named (at 3 7) (codes "C")
    w.no_arguments))) ∷ (declaration (declared (at 4 3) (codes "C")) [] (w.alias (w.named (at 4 7) (codes "int") w.no_arguments))) ∷ [])) (s.then (s.defines
    (at 5 1) binding.Var ((defined ((declared (at 5 5) (codes "a")) ∷ []) [] (Some (w.named (at 5 8) (codes "A") w.no_arguments)) (Some (t.sequence (at 5 12)
    (t.part (t.int (at 5 14) (pos 1)) t.no_parts)))) ∷ [])) (s.then (s.commands (at 6 1) (t.name (at 6 1) (codes "echo")) (t.part (t.field (at 6 6) (t.name
    (at 6 6) (codes "a")) (codes "len")) t.no_parts)) s.empty)))
    -- let foo = 1
    -- proc `foo`() = discard
    ∷ row (stops NotTyped 2 1) (s.then (s.defines (at 1 1) binding.Let ((defined ((declared (at 1 5) (codes "foo")) ∷ []) [] None (Some (t.int (at 1 11) (pos
    1)))) ∷ [])) (s.then (s.proclaims (at 2 1) (head (quoted (at 2 1) (codes "`foo`")) [] [] None []) (s.then (s.discards (at 2 16) None) s.empty)) s.empty))
    -- type M = distinct int
    -- proc `==`(a, b: M): bool {.borrow.}
    -- proc `==`(a, b: M): bool {.borrow.}
    ∷ row (stops Redefined 3 1) (s.then (s.types (at 1 1) ((declaration (declared (at 1 6) (codes "M")) [] (w.distinct (at 1 19) (w.named (at 1 19) (codes
    "int") w.no_arguments))) ∷ [])) (s.then (s.proclaims (at 2 1) (head (quoted (at 2 1) (codes "`==`")) [] ((parameters ((name_at (at 2 11) (codes "a")) ∷
    (name_at (at 2 14) (codes "b")) ∷ []) mode.Plain (w.named (at 2 17) (codes "M") w.no_arguments)) ∷ []) (Some (w.named (at 2 21) (codes "bool")
    w.no_arguments)) ((pragma_of pragma.Borrow) ∷ [])) s.empty) (s.then (s.proclaims (at 3 1) (head (quoted (at 3 1) (codes "`==`")) [] ((parameters
    ((name_at (at 3 11) (codes "a")) ∷ (name_at (at 3 14) (codes "b")) ∷ []) mode.Plain (w.named (at 3 17) (codes "M") w.no_arguments)) ∷ []) (Some (w.named
    (at 3 21) (codes "bool") w.no_arguments)) ((pragma_of pragma.Borrow) ∷ [])) s.empty) s.empty)))
    -- type T = object
    --   x: int
    -- var g = T()
    -- proc `$`(t: T): string =
    --   g.x = 2
    --   "t"
    -- proc f(t: var T) = echo t
    -- f(g)
    ∷ row (stops VarOfGlobal 8 3) (s.then (s.types (at 1 1) ((declaration (declared (at 1 6) (codes "T")) [] (w.object (at 1 10) false None (w.fields
    ((declared (at 2 3) (codes "x")) ∷ []) (w.named (at 2 6) (codes "int") w.no_arguments) w.no_fields))) ∷ [])) (s.then (s.defines (at 3 1) binding.Var
    ((defined ((declared (at 3 5) (codes "g")) ∷ []) [] None (Some (t.call (at 3 9) (t.name (at 3 9) (codes "T")) t.no_parts))) ∷ [])) (s.then (s.proclaims
    (at 4 1) (head (quoted (at 4 1) (codes "`$`")) [] ((parameters ((name_at (at 4 10) (codes "t")) ∷ []) mode.Plain (w.named (at 4 13) (codes "T")
    w.no_arguments)) ∷ []) (Some (w.named (at 4 17) (codes "string") w.no_arguments)) []) (s.then (s.assigns (at 5 3) assign.Set (t.field (at 5 3) (t.name
    (at 5 3) (codes "g")) (codes "x")) (t.int (at 5 9) (pos 2))) (s.then (s.evaluates (at 6 3) (t.text (at 6 3) (codes "\"t\""))) s.empty))) (s.then
    (s.proclaims (at 7 1) (head (declared (at 7 1) (codes "f")) [] ((parameters ((name_at (at 7 8) (codes "t")) ∷ []) mode.Var (w.named (at 7 15) (codes "T")
    w.no_arguments)) ∷ []) None []) (s.then (s.commands (at 7 20) (t.name (at 7 20) (codes "echo")) (t.part (t.name (at 7 25) (codes "t")) t.no_parts))
    s.empty)) (s.then (s.evaluates (at 8 1) (t.call (at 8 1) (t.name (at 8 1) (codes "f")) (t.part (t.name (at 8 3) (codes "g")) t.no_parts))) s.empty)))))
    -- var g = [1, 2]
    -- proc f(x: var int): int = g[0]
    -- proc k(x: var int) = discard g
    -- k(g[f(g[1])])
    ∷ row (stops VarOfGlobal 4 7) (s.then (s.defines (at 1 1) binding.Var ((defined ((declared (at 1 5) (codes "g")) ∷ []) [] None (Some (t.array (at 1 9)
    (t.part (t.int (at 1 10) (pos 1)) (t.part (t.int (at 1 13) (pos 2)) t.no_parts))))) ∷ [])) (s.then (s.proclaims (at 2 1) (head (declared (at 2 1) (codes
    "f")) [] ((parameters ((name_at (at 2 8) (codes "x")) ∷ []) mode.Var (w.named (at 2 15) (codes "int") w.no_arguments)) ∷ []) (Some (w.named (at 2 21)
    (codes "int") w.no_arguments)) []) (s.then (s.evaluates (at 2 27) (t.index (at 2 27) (t.name (at 2 27) (codes "g")) (t.part (t.int (at 2 29) (pos 0))
    t.no_parts))) s.empty)) (s.then (s.proclaims (at 3 1) (head (declared (at 3 1) (codes "k")) [] ((parameters ((name_at (at 3 8) (codes "x")) ∷ [])
    mode.Var (w.named (at 3 15) (codes "int") w.no_arguments)) ∷ []) None []) (s.then (s.discards (at 3 22) (Some (t.name (at 3 30) (codes "g")))) s.empty))
    (s.then (s.evaluates (at 4 1) (t.call (at 4 1) (t.name (at 4 1) (codes "k")) (t.part (t.index (at 4 3) (t.name (at 4 3) (codes "g")) (t.part (t.call (at
    4 5) (t.name (at 4 5) (codes "f")) (t.part (t.index (at 4 7) (t.name (at 4 7) (codes "g")) (t.part (t.int (at 4 9) (pos 1)) t.no_parts)) t.no_parts))
    t.no_parts)) t.no_parts))) s.empty))))
    -- proc f(): int
    -- echo 1
    -- proc g(): int = f()
    -- proc f(): int = 2
    -- echo g()
    ∷ row accepted (s.then (s.proclaims (at 1 1) (head (declared (at 1 1) (codes "f")) [] [] (Some (w.named (at 1 11) (codes "int") w.no_arguments)) [])
    s.empty) (s.then (s.commands (at 2 1) (t.name (at 2 1) (codes "echo")) (t.part (t.int (at 2 6) (pos 1)) t.no_parts)) (s.then (s.proclaims (at 3 1) (head
    (declared (at 3 1) (codes "g")) [] [] (Some (w.named (at 3 11) (codes "int") w.no_arguments)) []) (s.then (s.evaluates (at 3 17) (t.call (at 3 17)
    (t.name (at 3 17) (codes "f")) t.no_parts)) s.empty)) (s.then (s.proclaims (at 4 1) (head (declared (at 4 1) (codes "f")) [] [] (Some (w.named (at 4 11)
    (codes "int") w.no_arguments)) []) (s.then (s.evaluates (at 4 17) (t.int (at 4 17) (pos 2))) s.empty)) (s.then (s.commands (at 5 1) (t.name (at 5 1)
    (codes "echo")) (t.part (t.call (at 5 6) (t.name (at 5 6) (codes "g")) t.no_parts) t.no_parts)) s.empty)))))
    -- type
    --   E = enum x, red
    --   A = array[ord(red), int]
    --   red = int
    ∷ row (stops NotTyped 3 17) (s.then (s.types (at 1 1) ((declaration (declared (at 2 3) (codes "E")) [] (w.enum (at 2 3) ((name_at (at 2 12) (codes "x"))
    ∷ (name_at (at 2 15) (codes "red")) ∷ []))) ∷ (declaration (declared (at 3 3) (codes "A")) [] (w.alias (w.array (at 3 7) (t.call (at 3 13) (t.name (at 3
    13) (codes "ord")) (t.part (t.name (at 3 17) (codes "red")) t.no_parts)) (w.named (at 3 23) (codes "int") w.no_arguments)))) ∷ (declaration (declared (at
    4 3) (codes "red")) [] (w.alias (w.named (at 4 9) (codes "int") w.no_arguments))) ∷ [])) s.empty)
    -- type int = int
    ∷ row (stops NotTyped 1 6) (s.then (s.types (at 1 1) ((declaration (declared (at 1 6) (codes "int")) [] (w.alias (w.named (at 1 12) (codes "int")
    w.no_arguments))) ∷ [])) s.empty)
    -- type
    --   A = object
    --     a: int
    --   B = array[len([A(a: 1)]), int]
    --   A = int
    ∷ row (stops Redefined 5 3) (s.then (s.types (at 1 1) ((declaration (declared (at 2 3) (codes "A")) [] (w.object (at 2 7) false None (w.fields ((declared
    (at 3 5) (codes "a")) ∷ []) (w.named (at 3 8) (codes "int") w.no_arguments) w.no_fields))) ∷ (declaration (declared (at 4 3) (codes "B")) [] (w.alias
    (w.array (at 4 7) (t.call (at 4 13) (t.name (at 4 13) (codes "len")) (t.part (t.array (at 4 17) (t.part (t.construct (at 4 18) (codes "A") (t.part
    (t.named (at 4 23) (codes "a") (t.int (at 4 23) (pos 1))) t.no_parts)) t.no_parts)) t.no_parts)) (w.named (at 4 29) (codes "int") w.no_arguments)))) ∷
    (declaration (declared (at 5 3) (codes "A")) [] (w.alias (w.named (at 5 7) (codes "int") w.no_arguments))) ∷ [])) s.empty)
    -- type
    --   U_v = distinct int
    --   T = object
    --     x: UV
    --   A = array[len([T()]), int]
    -- var a: A
    -- echo a.len
    ∷ row accepted (s.then (s.types (at 1 1) ((declaration (declared (at 2 3) (codes "U_v")) [] (w.distinct (at 2 18) (w.named (at 2 18) (codes "int")
    w.no_arguments))) ∷ (declaration (declared (at 3 3) (codes "T")) [] (w.object (at 3 7) false None (w.fields ((declared (at 4 5) (codes "x")) ∷ [])
    (w.named (at 4 8) (codes "Uv") w.no_arguments) w.no_fields))) ∷ (declaration (declared (at 5 3) (codes "A")) [] (w.alias (w.array (at 5 7) (t.call (at 5
    13) (t.name (at 5 13) (codes "len")) (t.part (t.array (at 5 17) (t.part (t.call (at 5 18) (t.name (at 5 18) (codes "T")) t.no_parts) t.no_parts))
    t.no_parts)) (w.named (at 5 25) (codes "int") w.no_arguments)))) ∷ [])) (s.then (s.defines (at 6 1) binding.Var ((defined ((declared (at 6 5) (codes
    "a")) ∷ []) [] (Some (w.named (at 6 8) (codes "A") w.no_arguments)) None) ∷ [])) (s.then (s.commands (at 7 1) (t.name (at 7 1) (codes "echo")) (t.part
    (t.field (at 7 6) (t.name (at 7 6) (codes "a")) (codes "len")) t.no_parts)) s.empty)))
    -- proc f(a: Int, b: sTring) = discard
    ∷ row (stops UnknownName 1 11) (s.then (s.proclaims (at 1 1) (head (declared (at 1 1) (codes "f")) [] ((parameters ((name_at (at 1 8) (codes "a")) ∷ [])
    mode.Plain (w.named (at 1 11) (codes "Int") w.no_arguments)) ∷ (parameters ((name_at (at 1 16) (codes "b")) ∷ []) mode.Plain (w.named (at 1 19) (codes
    "string") w.no_arguments)) ∷ []) None []) (s.then (s.discards (at 1 29) None) s.empty)) s.empty)
    ∷ []
