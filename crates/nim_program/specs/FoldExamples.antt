-- A few folds, worked out by hand.
use Rattle.std.specs.Prelude.{ℕ, pos, Bool, false, [], ◌∷◌, None, Some}
use Rattle.nim_types.specs.Types as type
use Rattle.nim_program.specs.declared.operation.Operation.TheVariants as O
use Rattle.nim_program.specs.declared.operation.Measure.TheVariants.{Len}
use Rattle.nim_program.specs.Program.{Number, PartsOf, NoLiteral, ALiteral, Ordinals, Expr, Apply, Read, Doing, Giving}
use Rattle.nim_program.specs.Program.{ByConditions, ByLabels, Fresh, Field, Element, Deref, NoArg, Count, Stmt, Do, Select, Loop, Try}
use Rattle.nim_program.specs.Program.{Stmts, Empty, Declare, Defer, Otherwise, Block, NoHandler, Handler}
use Rattle.nim_program.specs.Folds.{numbers, total, total_of}
use Rattle.nim_program.specs.Sizes.{own_bytes}
use Rattle.nim_program.specs.ExampleParts.{at, item, facts, value, place, place_value, values, gives, acts, number, declared, x, q, n, p, block}

-- with numbers in order of text: `echo`, and a constant
abbrev echo : ℕ → Stmt
echo i = Do (Apply (at i) None (Doing O.Echo) NoArg)

abbrev holds : ℕ → Expr
holds i = Apply (at i) (Some type.bool) (Giving (Number (pos 1))) NoArg

-- if a: echo elif b: echo else: echo
abbrev pub branching : Stmts
branching =
    block (Select (at 0) ByConditions (values (holds 1) (holds 3)) (Block (block (echo 2)) (Block (block (echo 4)) (Otherwise (block (echo 5))))))

-- case a of 0: echo of 1: echo else: echo
abbrev pub selecting : Stmts
selecting =
    block
    (Select (at 0) (ByLabels ((Ordinals (pos 0) (pos 0) ∷ []) ∷ (Ordinals (pos 1) (pos 1) ∷ []) ∷ [])) (value (holds 1))
    (Block (block (echo 2)) (Block (block (echo 3)) (Otherwise (block (echo 4))))))

-- var a = b; defer: echo; try: echo except: echo finally: echo
abbrev pub trying : Stmts
trying =
    Declare (at 0) (declared 0 type.int) false (value (holds 1))
    (Defer (at 2) (block (echo 3)) (block (Try (at 4) (block (echo 5)) (Handler [] None (block (echo 6)) NoHandler) (block (echo 7)))))

-- ---- bytes

abbrev pub bytes_of : Expr → ℕ
bytes_of = total numbers (own_bytes facts [])

-- p.x, where p is read in place; n.name, and so is the ref; q.len; x = x + 1
abbrev pub field_read : Expr
field_read = Read (Field (at 0) type.int p 0)

abbrev pub field_of_ref : Expr
field_of_ref = Read (Field (at 0) type.text (Deref item n) 1)

abbrev pub length_of : Expr
length_of = gives type.int (O.Measure Len) (place q)

abbrev pub assigned : Expr
assigned = acts O.Assign (place_value x (Read x))

-- c[1] of a constant, which is read in place
abbrev pub constant_element : Expr
constant_element =
    Read (Element (at 0) type.int
    (Fresh (Apply (at 1) (Some (type.array 3 type.int))
    (Giving (PartsOf (ALiteral (Number (pos 1)) (ALiteral (Number (pos 2)) (ALiteral (Number (pos 4)) NoLiteral))))) NoArg)) (holds 2) None)

-- for i in 0..1: var a: int, where another place is a global
abbrev pub counting : Stmts
counting = block (Loop (at 0) (Count (declared 3 type.int) Bool.true) (values (number 0) (number 1)) (Declare (at 0) (declared 4 type.text) false NoArg Empty))

abbrev pub counting_bytes : (global : ℕ) → ℕ
counting_bytes global = total_of numbers (own_bytes facts (declared global type.text ∷ [])) counting
