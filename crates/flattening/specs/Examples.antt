-- A small program, whose flat code a law states to show what the program means.
use Rattle.std.specs.Prelude.{ℕ, pos, true, false, [], ◌∷◌, Some, None, codes}
use Rattle.arc_base.specs.declared.place.Place.{Place}
use Rattle.nim_types.specs.Types.{int, bool}
use Rattle.nim_program.specs.declared.expr.Node.{Node}
use Rattle.nim_program.specs.declared.operation.Comparison.TheVariants.{Equal}
use Rattle.nim_program.specs.declared.operation.Operation.TheVariants as O
use Rattle.nim_program.specs.declared.operation.Operator.TheVariants.{Add}
use Rattle.nim_program.specs.declared.program.Mode.TheVariants.{Plain}
use Rattle.nim_program.specs.declared.stmt.Leaving.TheVariants.{Break}
use Rattle.nim_program.specs.Program.{Number, Doing, Giving, Calling, ByConditions, Expr, Apply, Read, Variable, Args, NoArg, ByValue, Declared, Count}
use Rattle.nim_program.specs.Program.{Stmt, Do, Give, Leave, Select, Loop, Empty, Then, Otherwise, Block, Proc, Program}

abbrev here : Place
here = record { «module» = 0; line = 1; column = 1 }

abbrev pub node : Node
node = record { number = 0; at = here }

abbrev pub place : ℕ → Declared
place n = record { number = n; name = []; at = here; of = int }

abbrev pub number : ℕ → Expr
number n = Apply node (Some int) (Giving (Number (pos n))) NoArg

abbrev pub read : ℕ → Expr
read n = Read (Variable node int n false)

abbrev pub one : Expr → Args
one value = ByValue value NoArg

abbrev two : Expr → Expr → Args
two left right = ByValue left (ByValue right NoArg)

-- proc next(n: int): int =
--   n + 1
abbrev pub next : Proc
next = record {
  name = codes "next";
  at = here;
  type_params = 0;
  params = record { place = place 1; mode = Plain } ∷ [];
  gives = Some int;
  body = Some (record {
    first = 1;
    places = 2;
    before = 0;
    result = Some (place 2);
    stmts = Then (Give node false (Apply node (Some int) (Doing (O.Binary Add)) (two (read 1) (number 1)))) Empty;
  });
  hook = None;
}

abbrev echo : Expr → Stmt
echo value = Do (Apply node None (Doing O.Echo) (one value))

abbrev pub equal : Expr → Expr → Expr
equal left right = Apply node (Some bool) (Doing (O.Compare Equal)) (two left right)

-- for i in 0 .. 9:
--   if i == 3: break
--   echo next(i) == 2
abbrev pub counting : Program
counting = record {
  types = int ∷ bool ∷ [];
  facts = [];
  procs = next ∷ [];
  globals = [];
  start = record {
    first = 0;
    places = 3;
    before = 0;
    result = None;
    stmts = Then (Loop node (Count (place 0) true) (two (number 0) (number 9))
        (Then (Select node ByConditions (one (equal (read 0) (number 3)))
        (Block (Then (Leave node Break NoArg) Empty) (Otherwise Empty)))
        (Then (echo (equal (Apply node (Some int) (Calling 0 []) (one (read 0))) (number 2))) Empty))) Empty;
  };
}
