-- Examples of written types and sections of types: above each module its text.
use Rattle.std.specs.Prelude.{pos, false, List, [], ◌∷◌, codes, Some, None}
use Rattle.arc_base.specs.declared.place.Code.TheVariants.{UnknownName, NotTyped}
use Rattle.nim_tree.specs.declared.expr.BinaryOp.TheVariants as sign
use Rattle.nim_tree.specs.declared.stmt.Binding.TheVariants as binding
use Rattle.nim_tree.specs.declared.stmt.ParamMode.TheVariants as mode
use Rattle.nim_tree.specs.Terms as t
use Rattle.nim_tree.specs.Types as w
use Rattle.nim_tree.specs.Statements as s
use Rattle.decl_rules.specs.Examples.{Row, row, accepted, stops, at, name_at, declared, defined, parameters, head, declaration}

abbrev pub type_rows : List Row
type_rows =
    -- var x: int
    -- echo x
    row accepted (s.then (s.defines (at 1 1) binding.Var ((defined ((declared (at 1 5) (codes "x")) ∷ []) [] (Some (w.named (at 1 8) (codes "int")
    w.no_arguments)) None) ∷ [])) (s.then (s.commands (at 2 1) (t.name (at 2 1) (codes "echo")) (t.part (t.name (at 2 6) (codes "x")) t.no_parts)) s.empty))
    -- var x: bool
    -- echo x
    ∷ row accepted (s.then (s.defines (at 1 1) binding.Var ((defined ((declared (at 1 5) (codes "x")) ∷ []) [] (Some (w.named (at 1 8) (codes "bool")
    w.no_arguments)) None) ∷ [])) (s.then (s.commands (at 2 1) (t.name (at 2 1) (codes "echo")) (t.part (t.name (at 2 6) (codes "x")) t.no_parts)) s.empty))
    -- var x: char
    -- echo ord(x)
    ∷ row accepted (s.then (s.defines (at 1 1) binding.Var ((defined ((declared (at 1 5) (codes "x")) ∷ []) [] (Some (w.named (at 1 8) (codes "char")
    w.no_arguments)) None) ∷ [])) (s.then (s.commands (at 2 1) (t.name (at 2 1) (codes "echo")) (t.part (t.call (at 2 6) (t.name (at 2 6) (codes "ord"))
    (t.part (t.name (at 2 10) (codes "x")) t.no_parts)) t.no_parts)) s.empty))
    -- type C = enum red, blue
    -- var x: C
    -- echo x
    ∷ row accepted (s.then (s.types (at 1 1) ((declaration (declared (at 1 6) (codes "C")) [] (w.enum (at 1 6) ((name_at (at 1 15) (codes "red")) ∷ (name_at
    (at 1 20) (codes "blue")) ∷ []))) ∷ [])) (s.then (s.defines (at 2 1) binding.Var ((defined ((declared (at 2 5) (codes "x")) ∷ []) [] (Some (w.named (at 2
    8) (codes "C") w.no_arguments)) None) ∷ [])) (s.then (s.commands (at 3 1) (t.name (at 3 1) (codes "echo")) (t.part (t.name (at 3 6) (codes "x"))
    t.no_parts)) s.empty)))
    -- type C = enum
    --   red
    --   blue
    -- var x: C
    -- echo x
    ∷ row accepted (s.then (s.types (at 1 1) ((declaration (declared (at 1 6) (codes "C")) [] (w.enum (at 1 6) ((name_at (at 2 3) (codes "red")) ∷ (name_at
    (at 3 3) (codes "blue")) ∷ []))) ∷ [])) (s.then (s.defines (at 4 1) binding.Var ((defined ((declared (at 4 5) (codes "x")) ∷ []) [] (Some (w.named (at 4
    8) (codes "C") w.no_arguments)) None) ∷ [])) (s.then (s.commands (at 5 1) (t.name (at 5 1) (codes "echo")) (t.part (t.name (at 5 6) (codes "x"))
    t.no_parts)) s.empty)))
    -- type C = enum
    --   red, blue,
    --   green
    -- var x = green
    -- echo x
    ∷ row accepted (s.then (s.types (at 1 1) ((declaration (declared (at 1 6) (codes "C")) [] (w.enum (at 1 6) ((name_at (at 2 3) (codes "red")) ∷ (name_at
    (at 2 8) (codes "blue")) ∷ (name_at (at 3 3) (codes "green")) ∷ []))) ∷ [])) (s.then (s.defines (at 4 1) binding.Var ((defined ((declared (at 4 5) (codes
    "x")) ∷ []) [] None (Some (t.name (at 4 9) (codes "green")))) ∷ [])) (s.then (s.commands (at 5 1) (t.name (at 5 1) (codes "echo")) (t.part (t.name (at 5
    6) (codes "x")) t.no_parts)) s.empty)))
    -- var a: array[2, int]
    -- var b: array[1 + 1, int] = a
    -- echo b[0]
    ∷ row accepted (s.then (s.defines (at 1 1) binding.Var ((defined ((declared (at 1 5) (codes "a")) ∷ []) [] (Some (w.array (at 1 8) (t.int (at 1 14) (pos
    2)) (w.named (at 1 17) (codes "int") w.no_arguments))) None) ∷ [])) (s.then (s.defines (at 2 1) binding.Var ((defined ((declared (at 2 5) (codes "b")) ∷
    []) [] (Some (w.array (at 2 8) (t.binary (at 2 14) sign.Plus (t.int (at 2 14) (pos 1)) (t.int (at 2 18) (pos 1))) (w.named (at 2 21) (codes "int")
    w.no_arguments))) (Some (t.name (at 2 28) (codes "a")))) ∷ [])) (s.then (s.commands (at 3 1) (t.name (at 3 1) (codes "echo")) (t.part (t.index (at 3 6)
    (t.name (at 3 6) (codes "b")) (t.part (t.int (at 3 8) (pos 0)) t.no_parts)) t.no_parts)) s.empty)))
    -- var a: array[2, int]
    -- var b: array[3, int] = a
    ∷ row (stops NotTyped 2 24) (s.then (s.defines (at 1 1) binding.Var ((defined ((declared (at 1 5) (codes "a")) ∷ []) [] (Some (w.array (at 1 8) (t.int
    (at 1 14) (pos 2)) (w.named (at 1 17) (codes "int") w.no_arguments))) None) ∷ [])) (s.then (s.defines (at 2 1) binding.Var ((defined ((declared (at 2 5)
    (codes "b")) ∷ []) [] (Some (w.array (at 2 8) (t.int (at 2 14) (pos 3)) (w.named (at 2 17) (codes "int") w.no_arguments))) (Some (t.name (at 2 24) (codes
    "a")))) ∷ [])) s.empty))
    -- var a: array[2, int]
    -- var b: array[2, bool] = a
    ∷ row (stops NotTyped 2 25) (s.then (s.defines (at 1 1) binding.Var ((defined ((declared (at 1 5) (codes "a")) ∷ []) [] (Some (w.array (at 1 8) (t.int
    (at 1 14) (pos 2)) (w.named (at 1 17) (codes "int") w.no_arguments))) None) ∷ [])) (s.then (s.defines (at 2 1) binding.Var ((defined ((declared (at 2 5)
    (codes "b")) ∷ []) [] (Some (w.array (at 2 8) (t.int (at 2 14) (pos 2)) (w.named (at 2 17) (codes "bool") w.no_arguments))) (Some (t.name (at 2 25)
    (codes "a")))) ∷ [])) s.empty))
    -- type A = object
    --   x: int
    -- type B = object
    --   x: int
    -- var a: A
    -- var b: B = a
    ∷ row (stops NotTyped 6 12) (s.then (s.types (at 1 1) ((declaration (declared (at 1 6) (codes "A")) [] (w.object (at 1 10) false None (w.fields
    ((declared (at 2 3) (codes "x")) ∷ []) (w.named (at 2 6) (codes "int") w.no_arguments) w.no_fields))) ∷ [])) (s.then (s.types (at 3 1) ((declaration
    (declared (at 3 6) (codes "B")) [] (w.object (at 3 10) false None (w.fields ((declared (at 4 3) (codes "x")) ∷ []) (w.named (at 4 6) (codes "int")
    w.no_arguments) w.no_fields))) ∷ [])) (s.then (s.defines (at 5 1) binding.Var ((defined ((declared (at 5 5) (codes "a")) ∷ []) [] (Some (w.named (at 5 8)
    (codes "A") w.no_arguments)) None) ∷ [])) (s.then (s.defines (at 6 1) binding.Var ((defined ((declared (at 6 5) (codes "b")) ∷ []) [] (Some (w.named (at
    6 8) (codes "B") w.no_arguments)) (Some (t.name (at 6 12) (codes "a")))) ∷ [])) s.empty))))
    -- type A = object
    --   x: int
    -- type B = A
    -- var a: A
    -- var b: B = a
    -- echo b.x
    ∷ row accepted (s.then (s.types (at 1 1) ((declaration (declared (at 1 6) (codes "A")) [] (w.object (at 1 10) false None (w.fields ((declared (at 2 3)
    (codes "x")) ∷ []) (w.named (at 2 6) (codes "int") w.no_arguments) w.no_fields))) ∷ [])) (s.then (s.types (at 3 1) ((declaration (declared (at 3 6)
    (codes "B")) [] (w.alias (w.named (at 3 10) (codes "A") w.no_arguments))) ∷ [])) (s.then (s.defines (at 4 1) binding.Var ((defined ((declared (at 4 5)
    (codes "a")) ∷ []) [] (Some (w.named (at 4 8) (codes "A") w.no_arguments)) None) ∷ [])) (s.then (s.defines (at 5 1) binding.Var ((defined ((declared (at
    5 5) (codes "b")) ∷ []) [] (Some (w.named (at 5 8) (codes "B") w.no_arguments)) (Some (t.name (at 5 12) (codes "a")))) ∷ [])) (s.then (s.commands (at 6
    1) (t.name (at 6 1) (codes "echo")) (t.part (t.field (at 6 6) (t.name (at 6 6) (codes "b")) (codes "x")) t.no_parts)) s.empty)))))
    -- type A = enum red
    -- type B = enum blue
    -- var a: A = blue
    ∷ row (stops NotTyped 3 12) (s.then (s.types (at 1 1) ((declaration (declared (at 1 6) (codes "A")) [] (w.enum (at 1 6) ((name_at (at 1 15) (codes
    "red")) ∷ []))) ∷ [])) (s.then (s.types (at 2 1) ((declaration (declared (at 2 6) (codes "B")) [] (w.enum (at 2 6) ((name_at (at 2 15) (codes "blue")) ∷
    []))) ∷ [])) (s.then (s.defines (at 3 1) binding.Var ((defined ((declared (at 3 5) (codes "a")) ∷ []) [] (Some (w.named (at 3 8) (codes "A")
    w.no_arguments)) (Some (t.name (at 3 12) (codes "blue")))) ∷ [])) s.empty)))
    -- var x: seq
    ∷ row (stops NotTyped 1 8) (s.then (s.defines (at 1 1) binding.Var ((defined ((declared (at 1 5) (codes "x")) ∷ []) [] (Some (w.named (at 1 8) (codes
    "seq") w.no_arguments)) None) ∷ [])) s.empty)
    -- var x: array
    ∷ row (stops NotTyped 1 8) (s.then (s.defines (at 1 1) binding.Var ((defined ((declared (at 1 5) (codes "x")) ∷ []) [] (Some (w.named (at 1 8) (codes
    "array") w.no_arguments)) None) ∷ [])) s.empty)
    -- var x: seq[int, int]
    ∷ row (stops NotTyped 1 8) (s.then (s.defines (at 1 1) binding.Var ((defined ((declared (at 1 5) (codes "x")) ∷ []) [] (Some (w.named (at 1 8) (codes
    "seq") (w.argument (w.named (at 1 12) (codes "int") w.no_arguments) (w.argument (w.named (at 1 17) (codes "int") w.no_arguments) w.no_arguments)))) None)
    ∷ [])) s.empty)
    -- type C = enum red
    -- var x: C[int]
    ∷ row (stops NotTyped 2 8) (s.then (s.types (at 1 1) ((declaration (declared (at 1 6) (codes "C")) [] (w.enum (at 1 6) ((name_at (at 1 15) (codes "red"))
    ∷ []))) ∷ [])) (s.then (s.defines (at 2 1) binding.Var ((defined ((declared (at 2 5) (codes "x")) ∷ []) [] (Some (w.named (at 2 8) (codes "C")
    (w.argument (w.named (at 2 10) (codes "int") w.no_arguments) w.no_arguments))) None) ∷ [])) s.empty))
    -- var x: seq[seq]
    ∷ row (stops NotTyped 1 12) (s.then (s.defines (at 1 1) binding.Var ((defined ((declared (at 1 5) (codes "x")) ∷ []) [] (Some (w.named (at 1 8) (codes
    "seq") (w.argument (w.named (at 1 12) (codes "seq") w.no_arguments) w.no_arguments))) None) ∷ [])) s.empty)
    -- var x: seq[T]
    ∷ row (stops UnknownName 1 12) (s.then (s.defines (at 1 1) binding.Var ((defined ((declared (at 1 5) (codes "x")) ∷ []) [] (Some (w.named (at 1 8) (codes
    "seq") (w.argument (w.named (at 1 12) (codes "T") w.no_arguments) w.no_arguments))) None) ∷ [])) s.empty)
    -- type T = array[1, int]
    ∷ row accepted (s.then (s.types (at 1 1) ((declaration (declared (at 1 6) (codes "T")) [] (w.alias (w.array (at 1 10) (t.int (at 1 16) (pos 1)) (w.named
    (at 1 19) (codes "int") w.no_arguments)))) ∷ [])) s.empty)
    -- type T = array[65536, int]
    ∷ row accepted (s.then (s.types (at 1 1) ((declaration (declared (at 1 6) (codes "T")) [] (w.alias (w.array (at 1 10) (t.int (at 1 16) (pos 65536))
    (w.named (at 1 23) (codes "int") w.no_arguments)))) ∷ [])) s.empty)
    -- type T = array[0, int]
    ∷ row (stops NotTyped 1 10) (s.then (s.types (at 1 1) ((declaration (declared (at 1 6) (codes "T")) [] (w.alias (w.array (at 1 10) (t.int (at 1 16) (pos
    0)) (w.named (at 1 19) (codes "int") w.no_arguments)))) ∷ [])) s.empty)
    -- proc f(x: array[0, int]) = discard
    ∷ row (stops NotTyped 1 11) (s.then (s.proclaims (at 1 1) (head (declared (at 1 1) (codes "f")) [] ((parameters ((name_at (at 1 8) (codes "x")) ∷ [])
    mode.Plain (w.array (at 1 11) (t.int (at 1 17) (pos 0)) (w.named (at 1 20) (codes "int") w.no_arguments))) ∷ []) None []) (s.then (s.discards (at 1 28)
    None) s.empty)) s.empty)
    -- proc f(): array[65537, int] = discard
    ∷ row (stops NotTyped 1 11) (s.then (s.proclaims (at 1 1) (head (declared (at 1 1) (codes "f")) [] [] (Some (w.array (at 1 11) (t.int (at 1 17) (pos
    65537)) (w.named (at 1 24) (codes "int") w.no_arguments))) []) (s.then (s.discards (at 1 31) None) s.empty)) s.empty)
    -- type T = seq[array[0, int]]
    ∷ row (stops NotTyped 1 14) (s.then (s.types (at 1 1) ((declaration (declared (at 1 6) (codes "T")) [] (w.alias (w.named (at 1 10) (codes "seq")
    (w.argument (w.array (at 1 14) (t.int (at 1 20) (pos 0)) (w.named (at 1 23) (codes "int") w.no_arguments)) w.no_arguments)))) ∷ [])) s.empty)
    -- type T = array[65536, array[4, int]]
    ∷ row accepted (s.then (s.types (at 1 1) ((declaration (declared (at 1 6) (codes "T")) [] (w.alias (w.array (at 1 10) (t.int (at 1 16) (pos 65536))
    (w.array (at 1 23) (t.int (at 1 29) (pos 4)) (w.named (at 1 32) (codes "int") w.no_arguments))))) ∷ [])) s.empty)
    -- type T = array[65536, array[5, int]]
    ∷ row (stops NotTyped 1 10) (s.then (s.types (at 1 1) ((declaration (declared (at 1 6) (codes "T")) [] (w.alias (w.array (at 1 10) (t.int (at 1 16) (pos
    65536)) (w.array (at 1 23) (t.int (at 1 29) (pos 5)) (w.named (at 1 32) (codes "int") w.no_arguments))))) ∷ [])) s.empty)
    -- type T = array[65536, array[4, bool]]
    ∷ row accepted (s.then (s.types (at 1 1) ((declaration (declared (at 1 6) (codes "T")) [] (w.alias (w.array (at 1 10) (t.int (at 1 16) (pos 65536))
    (w.array (at 1 23) (t.int (at 1 29) (pos 4)) (w.named (at 1 32) (codes "bool") w.no_arguments))))) ∷ [])) s.empty)
    -- type T = seq[array[65536, array[4, int]]]
    ∷ row accepted (s.then (s.types (at 1 1) ((declaration (declared (at 1 6) (codes "T")) [] (w.alias (w.named (at 1 10) (codes "seq") (w.argument (w.array
    (at 1 14) (t.int (at 1 20) (pos 65536)) (w.array (at 1 27) (t.int (at 1 33) (pos 4)) (w.named (at 1 36) (codes "int") w.no_arguments)))
    w.no_arguments)))) ∷ [])) s.empty)
    -- type T = array[65536, seq[array[65536, array[4, int]]]]
    ∷ row accepted (s.then (s.types (at 1 1) ((declaration (declared (at 1 6) (codes "T")) [] (w.alias (w.array (at 1 10) (t.int (at 1 16) (pos 65536))
    (w.named (at 1 23) (codes "seq") (w.argument (w.array (at 1 27) (t.int (at 1 33) (pos 65536)) (w.array (at 1 40) (t.int (at 1 46) (pos 4)) (w.named (at 1
    49) (codes "int") w.no_arguments))) w.no_arguments))))) ∷ [])) s.empty)
    -- type T = T
    ∷ row (stops NotTyped 1 6) (s.then (s.types (at 1 1) ((declaration (declared (at 1 6) (codes "T")) [] (w.alias (w.named (at 1 10) (codes "T")
    w.no_arguments))) ∷ [])) s.empty)
    -- type T = seq[T]
    ∷ row (stops NotTyped 1 6) (s.then (s.types (at 1 1) ((declaration (declared (at 1 6) (codes "T")) [] (w.alias (w.named (at 1 10) (codes "seq")
    (w.argument (w.named (at 1 14) (codes "T") w.no_arguments) w.no_arguments)))) ∷ [])) s.empty)
    -- type T = array[2, T]
    ∷ row (stops NotTyped 1 6) (s.then (s.types (at 1 1) ((declaration (declared (at 1 6) (codes "T")) [] (w.alias (w.array (at 1 10) (t.int (at 1 16) (pos
    2)) (w.named (at 1 19) (codes "T") w.no_arguments)))) ∷ [])) s.empty)
    -- type
    --   A = B
    --   B = A
    ∷ row (stops NotTyped 2 3) (s.then (s.types (at 1 1) ((declaration (declared (at 2 3) (codes "A")) [] (w.alias (w.named (at 2 7) (codes "B")
    w.no_arguments))) ∷ (declaration (declared (at 3 3) (codes "B")) [] (w.alias (w.named (at 3 7) (codes "A") w.no_arguments))) ∷ [])) s.empty)
    -- type
    --   A = object
    --     b: B
    --   B = object
    --     a: A
    ∷ row (stops NotTyped 2 3) (s.then (s.types (at 1 1) ((declaration (declared (at 2 3) (codes "A")) [] (w.object (at 2 7) false None (w.fields ((declared
    (at 3 5) (codes "b")) ∷ []) (w.named (at 3 8) (codes "B") w.no_arguments) w.no_fields))) ∷ (declaration (declared (at 4 3) (codes "B")) [] (w.object (at
    4 7) false None (w.fields ((declared (at 5 5) (codes "a")) ∷ []) (w.named (at 5 8) (codes "A") w.no_arguments) w.no_fields))) ∷ [])) s.empty)
    ∷ []
