-- A few expressions, statements and programs that are typed, and beside them others that aren't.
use Rattle.std.specs.Prelude.{ℕ, pos, Bool, true, false, ◌&&◌, List, [], ◌∷◌, codes, Some, None}
use Rattle.nim_types.specs.Types as type
use Rattle.nim_program.specs.declared.operation.Operation.TheVariants as O
use Rattle.nim_program.specs.declared.operation.Operator.TheVariants as B
use Rattle.nim_program.specs.declared.operation.UnaryOperator.TheVariants as U
use Rattle.nim_program.specs.declared.operation.Comparison.TheVariants.{Equal, Less}
use Rattle.nim_program.specs.declared.operation.Measure.TheVariants.{Len}
use Rattle.nim_program.specs.declared.operation.Short.TheVariants.{And}
use Rattle.nim_program.specs.declared.stmt.Leaving.TheVariants.{Break, Return}
use Rattle.nim_program.specs.Program.{Number, NoObject, PartsOf, NoLiteral, ALiteral, Ordinals, Exactly}
use Rattle.nim_program.specs.Program.{Expr, Apply, Read, Early, Choose, Doing, Building, Giving, Calling, ByConditions, ByLabels}
use Rattle.nim_program.specs.Program.{Variable, Fresh, Field, Element, Deref, NoArg, ByValue, ByPath}
use Rattle.nim_program.specs.Program.{While, Count, Each, Stmt, Do, Idle, Give, Leave, Select, Loop, Raise, Try, Stmts, Empty, Then, Declare, Defer}
use Rattle.nim_program.specs.Program.{Otherwise, Block, NoHandler, Handler, Param, Proc, Program}
use Rattle.nim_program.specs.Typed.{Around}
use Rattle.nim_program.specs.ExampleParts.{at, color, point, item, node, metres, fault, file, pair, all_types, facts, constant, number, letters, «nil», truth}
use Rattle.nim_program.specs.ExampleParts.{gives, acts, local, value, values, place, place_value, declared, x, s, q, n, c, t, e, p, m, f}
use Rattle.nim_program.specs.ExampleParts.{plain_param, var_param, body, procedure, nothing, block}

abbrev pub all : {A : Type 0} → (A → Bool) → List A → Bool
all holds [] = true
all holds (a ∷ rest) = holds a && all holds rest

-- ---- expressions

abbrev pub typed_exprs : List Expr
typed_exprs =
    -- x + 1, -x, not true, x < 1, "a" == "b", n == nil, 'a' & "b", $x
    gives type.int (O.Binary B.Add) (values (Read x) (number 1)) ∷
    gives type.int (O.Unary U.Negate) (value (Read x)) ∷
    gives type.bool (O.Unary U.Not) (value (truth 1)) ∷
    gives type.bool (O.Compare Less) (values (Read x) (number 1)) ∷
    gives type.bool (O.Compare Equal) (values (letters (codes "a")) (letters (codes "b"))) ∷
    gives type.bool (O.Compare Equal) (values (Read n) «nil») ∷
    gives type.text O.Join (values (constant type.char (Number (pos 97))) (letters (codes "b"))) ∷
    gives type.text O.Show (value (Read m)) ∷
    -- ord(c), Color(1), Metres(x), int(m)
    gives type.int O.Convert (value (Read c)) ∷
    gives color O.Convert (value (number 1)) ∷
    gives metres O.Convert (value (Read x)) ∷
    gives type.int O.Convert (value (Read m)) ∷
    -- (1, "a"), @[1, 2], newSeq[int](3), q.len, isNil(n), default(Point), readLine(stdin), readLine(stdin, s)
    gives pair O.Make (values (number 1) (letters (codes "a"))) ∷
    gives (type.sequence type.int) O.Sequence (values (number 1) (number 2)) ∷
    gives (type.sequence type.int) O.NewSequence (value (number 3)) ∷
    gives type.int (O.Measure Len) (place q) ∷
    gives type.bool O.IsNil (value (Read n)) ∷
    gives point O.Default NoArg ∷
    gives type.text O.ReadLine NoArg ∷
    gives type.bool O.ReadLineInto (place s) ∷
    -- pop(q), move(s), and without a value: echo, quit, x = 1, x += 1, inc(x), q.add(1), s.add("a"), s.setLen(1), swap(x, x), discard x
    gives type.int O.Pop (place q) ∷
    gives type.text O.Move (place s) ∷
    acts O.Echo (values (number 1) (Read s)) ∷
    acts O.Quit NoArg ∷
    acts O.Assign (place_value x (number 1)) ∷
    acts (O.Update B.Add) (place_value x (number 1)) ∷
    acts (O.Update B.Add) (place x) ∷
    acts O.Add (place_value q (number 1)) ∷
    acts O.Append (place_value s (letters (codes "a"))) ∷
    acts O.SetLength (place_value s (number 1)) ∷
    acts O.Swap (ByPath x (ByPath x NoArg)) ∷
    acts O.Discard (value (Read x)) ∷
    -- an expression that is a statement
    acts O.Discard (value nothing) ∷
    -- in a hook, of its own place: `=destroy`(dest), `=wasMoved`(dest)
    acts O.Destroy (place f) ∷
    acts O.Blank (place f) ∷
    -- Point(y: 1), a new object, nil, a constant object
    Apply (at 0) (Some point) (Building (1 ∷ [])) (value (number 1)) ∷
    Apply (at 0) (Some node) (Building (1 ∷ 0 ∷ [])) (values (letters (codes "a")) «nil») ∷
    «nil» ∷
    constant point (PartsOf (ALiteral (Number (pos 1)) (ALiteral (Number (pos 2)) NoLiteral))) ∷
    -- a call with a value and a place
    Apply (at 0) (Some type.int) (Calling 0 []) (ByValue (number 1) (ByPath x NoArg)) ∷
    -- p.x, n.name, n.next.name, q[0], t[1], e.msg, "a"[0]
    Read (Field (at 0) type.int p 0) ∷
    Read (Field (at 0) type.text (Deref item n) 1) ∷
    Read (Field (at 0) type.text (Deref item (Field (at 0) node (Deref item n) 0)) 1) ∷
    Read (Element (at 0) type.int q (number 0) (Some (pos 0))) ∷
    Read (Field (at 0) type.text t 1) ∷
    Read (Field (at 0) type.text e 0) ∷
    Read (Element (at 0) type.char (Fresh (letters (codes "a"))) (number 0) (Some (pos 0))) ∷
    -- what is written through a ref that no place holds
    acts O.Assign (place_value (Field (at 0) type.text (Deref item (Fresh (Apply (at 0) (Some node) (Building []) NoArg))) 1) (letters (codes "a"))) ∷
    -- true and false, if true: 1 else: 2, case c of red: 1 of green: 2, case x of 0: 1 else: 2
    Early (at 0) type.bool And (truth 1) (truth 0) ∷
    Choose (at 0) (Some type.int) ByConditions (ByValue (truth 1) (values (number 1) (number 2))) ∷
    Choose (at 0) (Some type.int) (ByLabels ((Ordinals (pos 0) (pos 0) ∷ []) ∷ (Ordinals (pos 1) (pos 1) ∷ []) ∷ []))
    (ByPath c (values (number 1) (number 2))) ∷
    Choose (at 0) (Some type.int) (ByLabels ((Ordinals (pos 0) (pos 0) ∷ []) ∷ [])) (ByPath x (values (number 1) (number 2))) ∷ []

abbrev pub untyped_exprs : List Expr
untyped_exprs =
    -- operands of another type, too few and too many of them, a value where a place is wanted and the other way round
    gives type.int (O.Binary B.Add) (values (Read x) (truth 1)) ∷
    gives type.int (O.Binary B.Add) (value (Read x)) ∷
    gives type.int (O.Unary U.Negate) (values (Read x) (Read x)) ∷
    gives type.int (O.Binary B.Add) (ByPath x (value (number 1))) ∷
    gives type.int (O.Measure Len) (value (Read q)) ∷
    -- refs aren't ordered, objects aren't compared or shown
    gives type.bool (O.Compare Less) (values (Read n) «nil») ∷
    gives type.bool (O.Compare Equal) (values (Read p) (Read p)) ∷
    acts O.Echo (value (Read p)) ∷
    -- no conversion from a char to an enum, nor between a distinct type and another than its base
    gives color O.Convert (value (constant type.char (Number (pos 97)))) ∷
    gives metres O.Convert (value (truth 1)) ∷
    -- a tuple with a part less, an element of another type, an operation that gives nothing with a type
    gives pair O.Make (value (number 1)) ∷
    gives (type.sequence type.int) O.Sequence (values (number 1) (truth 1)) ∷
    gives type.int O.Quit NoArg ∷
    -- updates are by `+`, `-` and `*`, and without a value by `+` and `-`
    acts (O.Update B.Divide) (place_value x (number 1)) ∷
    acts (O.Update B.Multiply) (place x) ∷
    -- a value that no place holds can't be written
    acts O.Append (place_value (Fresh (letters (codes "a"))) (letters (codes "b"))) ∷
    -- a hook ends its own place alone
    acts O.Destroy (place (local file 8)) ∷
    acts O.Destroy (place x) ∷
    -- a field given twice, a field of another type, an object of a type that is none
    Apply (at 0) (Some point) (Building (1 ∷ 1 ∷ [])) (values (number 1) (number 2)) ∷
    Apply (at 0) (Some point) (Building (0 ∷ [])) (value (truth 1)) ∷
    Apply (at 0) (Some type.int) (Building []) NoArg ∷
    -- nil of no ref, a char and a member that there aren't, a constant object with a part less
    constant point NoObject ∷
    constant type.char (Number (pos 256)) ∷
    constant color (Number (pos 2)) ∷
    constant point (PartsOf (ALiteral (Number (pos 1)) NoLiteral)) ∷
    -- a call of no procedure, with a value for a `var` parameter, and with too few arguments
    Apply (at 0) (Some type.int) (Calling 1 []) NoArg ∷
    Apply (at 0) (Some type.int) (Calling 0 []) (values (number 1) (number 2)) ∷
    Apply (at 0) (Some type.int) (Calling 0 []) (value (number 1)) ∷
    -- a value that is read, or chosen by, as what stands at a path
    Read (Fresh (number 1)) ∷
    Choose (at 0) (Some type.int) (ByLabels ((Ordinals (pos 0) (pos 0) ∷ []) ∷ [])) (ByPath (Fresh (number 0)) (values (number 1) (number 2))) ∷
    -- no such place, field, or part; a field of a ref that isn't dereferenced; a ref's object whole; an element of an object
    Read (local type.int 1) ∷
    Read (local type.int 20) ∷
    Read (Field (at 0) type.int p 2) ∷
    Read (Element (at 0) type.int t (number 2) (Some (pos 2))) ∷
    Read (Element (at 0) type.int t (Read x) None) ∷
    Read (Field (at 0) type.text n 1) ∷
    Read (Deref item n) ∷
    Read (Element (at 0) type.int p (number 0) (Some (pos 0))) ∷
    Read (Field (at 0) type.int e 1) ∷
    -- an exception whole, and a place for one
    Read e ∷
    gives fault O.Default NoArg ∷
    -- `and` of ints, branches of different types, a value of `case` that lacks a label, a selector that is no path but reads one
    Early (at 0) type.int And (number 1) (number 1) ∷
    Choose (at 0) (Some type.int) ByConditions (ByValue (truth 1) (values (number 1) (truth 1))) ∷
    Choose (at 0) (Some type.int) (ByLabels ((Ordinals (pos 0) (pos 0) ∷ []) ∷ [])) (ByPath c (value (number 1))) ∷
    Choose (at 0) (Some type.int) (ByLabels ((Ordinals (pos 0) (pos 0) ∷ []) ∷ [])) (ByValue (Read x) (values (number 1) (number 2))) ∷
    Choose (at 0) (Some type.int) (ByLabels ((Exactly (codes "a") ∷ []) ∷ [])) (ByPath x (values (number 1) (number 2))) ∷ []

-- ---- statements

abbrev in_loop : Around
in_loop = record { gives = None; returns = false; in_loop = true; in_handler = false }

abbrev in_handler : Around
in_handler = record { gives = None; returns = false; in_loop = false; in_handler = true }

-- echo e.msg; raise
abbrev showing : Stmts
showing = Then (Do (acts O.Echo (value (Read (Field (at 0) type.text (local fault 20) 0))))) (block (Raise (at 0) None NoArg))

abbrev pub typed_stmts : List Stmt
typed_stmts =
    Do nothing ∷
    -- x = x, an `if`, a `case` with and without `else`
    Idle (at 0) (place_value x (Read x)) ∷
    Select (at 0) ByConditions (value (truth 1)) (Block (block (Do nothing)) (Otherwise Empty)) ∷
    Select (at 0) (ByLabels ((Exactly (codes "a") ∷ []) ∷ [])) (place s) (Block (block (Do nothing)) (Otherwise Empty)) ∷
    Select (at 0) (ByLabels ((Ordinals (pos 0) (pos 1) ∷ []) ∷ [])) (place x) (Block (block (Do nothing)) (Otherwise (block (Do nothing)))) ∷
    -- loops, one of which is left
    Loop (at 0) While (value (truth 1)) (block (Leave (at 0) Break NoArg)) ∷
    Loop (at 0) (Count (declared 20 type.int) true) (values (number 0) (number 1)) (block (Do (acts O.Discard (value (Read (local type.int 20)))))) ∷
    Loop (at 0) (Each (declared 20 type.int)) (place q) (block (Do (acts O.Echo (value (Read (local type.int 20)))))) ∷
    -- an exception that is raised, caught with its name, and raised again; a block that is done in any case
    Raise (at 0) (Some fault) (value (letters (codes "a"))) ∷
    Try (at 0) (block (Do nothing)) (Handler (fault ∷ []) (Some (declared 20 fault)) showing NoHandler) (block (Do nothing)) ∷ []

abbrev pub untyped_stmts : List Stmt
untyped_stmts =
    -- a value that nobody takes, a condition that is no bool, a case over a type with a value that lacks a label
    Do (Read x) ∷
    Select (at 0) ByConditions (value (number 1)) (Block (block (Do nothing)) (Otherwise Empty)) ∷
    Select (at 0) (ByLabels ((Ordinals (pos 0) (pos 0) ∷ []) ∷ [])) (place c) (Block (block (Do nothing)) (Otherwise Empty)) ∷
    -- more conditions than blocks, and a branch without a statement
    Select (at 0) ByConditions (values (truth 1) (truth 0)) (Block (block (Do nothing)) (Otherwise Empty)) ∷
    Select (at 0) ByConditions (value (truth 1)) (Block Empty (Otherwise Empty)) ∷
    -- no loop and no procedure around
    Leave (at 0) Break NoArg ∷
    Leave (at 0) Return NoArg ∷
    Give (at 0) true (number 1) ∷
    -- a `for` over what has no elements, and one whose variable has another type
    Loop (at 0) (Each (declared 20 type.int)) (place p) (block (Do nothing)) ∷
    Loop (at 0) (Each (declared 20 type.text)) (place q) (block (Do nothing)) ∷
    -- no handler around, no exception, no message
    Raise (at 0) None NoArg ∷
    Raise (at 0) (Some type.int) (value (letters (codes "a"))) ∷
    Raise (at 0) (Some fault) NoArg ∷
    -- nothing is done behind what is tried
    Try (at 0) (block (Do nothing)) NoHandler Empty ∷
    -- what is done in any case is left
    Loop (at 0) While (value (truth 1)) (block (Try (at 0) (block (Do nothing)) NoHandler (block (Leave (at 0) Break NoArg)))) ∷
    -- a place behind its block
    Select (at 0) ByConditions (value (truth 1))
    (Block (Declare (at 0) (declared 20 type.int) false NoArg Empty) (Otherwise (block (Do (acts O.Discard (value (Read (local type.int 20)))))))) ∷ []

-- a place with a value and a cursor that starts at its default; a block that is done behind the rest
abbrev pub declaring : Stmts
declaring =
    Declare (at 0) (declared 20 type.int) false (value (number 1))
    (Declare (at 0) (declared 21 node) true NoArg (Defer (at 0) (block (Do (acts O.Echo (value (Read (local type.int 20)))))) Empty))

abbrev pub declaring_other : Stmts
declaring_other = Declare (at 0) (declared 20 type.int) false (value (truth 1)) Empty

-- ---- programs

-- var g = 1; proc negate(a: int): int = return -a; echo negate(g)
abbrev negated : Expr
negated = Apply (at 3) (Some type.int) (Doing (O.Unary U.Negate)) (value (Read (Variable (at 4) type.int 1 false)))

abbrev negate : Proc
negate =
    procedure (plain_param 1 type.int ∷ []) (Some type.int) (body 2 1 2 (Some (declared 2 type.int)) (block (Give (at 2) true negated)))

abbrev declaring_global : Stmts → Stmts
declaring_global rest =
    Declare (at 0) (declared 0 type.int) false (value (Apply (at 1) (Some type.int) (Giving (Number (pos 1))) NoArg)) rest

abbrev calling : Stmt
calling =
    Do (Apply (at 5) None (Doing O.Echo) (value (Apply (at 6) (Some type.int) (Calling 0 []) (value (Read (Variable (at 7) type.int 0 true))))))

abbrev program : Stmts → Program
program stmts = record {
  types = all_types;
  facts = facts;
  procs = negate ∷ [];
  globals = declared 0 type.int ∷ [];
  start = body 0 0 3 None stmts;
}

abbrev pub calling_behind : Program
calling_behind = program (declaring_global (block calling))

-- the procedure is called before the global, which stands before it, has a value
abbrev pub calling_before : Program
calling_before = program (Then (Do (acts O.Discard (value (Apply (at 0) (Some type.int) (Calling 0 []) (value (number 1)))))) (declaring_global Empty))

-- a hook of its own for a type: proc `=destroy`(x: File), and one with another signature
abbrev hook_of : ℕ → List Param → Program
hook_of kind params =
    record calling_behind {
      procs = record (procedure params None (body 2 1 2 None (block (Do (Apply (at 2) None (Doing O.Echo) NoArg))))) {
        hook = Some (record { kind = kind; of = 13 });
      } ∷ [];
      start = body 0 0 3 None (declaring_global Empty);
    }

abbrev pub destroying : Program
destroying = hook_of 0 (plain_param 1 file ∷ [])

abbrev pub copying : Program
copying = hook_of 3 (var_param 1 file ∷ plain_param 2 file ∷ [])

abbrev pub destroying_two : Program
destroying_two = hook_of 0 (plain_param 1 file ∷ plain_param 2 file ∷ [])

-- a hook is called by its name
abbrev pub calling_hook : Program
calling_hook = record destroying {
  start = body 0 0 3 None (declaring_global (block (Do (Apply (at 0) None (Calling 0 []) (value (gives file O.Default NoArg))))));
}

-- the global of the program has no declaration
abbrev pub declaring_none : Program
declaring_none = program (block (Do (Apply (at 5) None (Doing O.Echo) NoArg)))

-- with a node whose number stands twice
abbrev pub numbered_twice : Program
numbered_twice = program (declaring_global (Then calling (block (Do (Apply (at 5) None (Doing O.Echo) NoArg)))))
