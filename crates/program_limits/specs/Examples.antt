-- Programs at the limits. No public contract but that of examples speaks of it.
use Rattle.std.specs.Prelude.{ℕ, suc, zero, pos, false, List, [], ◌∷◌, Some, None}
use Rattle.arc_base.specs.declared.place.Place.{Place}
use Rattle.nim_types.specs.Types.{Ty, int, text, array, tuple, enum, Key, members, types, no_types}
use Rattle.nim_program.specs.declared.expr.Node.{Node}
use Rattle.nim_program.specs.declared.operation.Operation.TheVariants as O
use Rattle.nim_program.specs.Program.{Characters, Doing, Giving, Expr, Apply, Args, NoArg, ByValue, Declared, Stmts, Empty, Then, Declare, Do, Program}
use Rattle.nim_program.specs.Program.{Exactly, ByLabels, Select, Otherwise, Block, Literal, Number, PartsOf, ALiteral, NoLiteral, Read, Fresh, Element}

-- somewhere in the main module
abbrev pub second_line : Place
second_line = record { «module» = 0; line = 2; column = 1 }

abbrev at : ℕ → Node
at n = record { number = n; at = second_line }

abbrev declared : ℕ → Ty → Declared
declared number ty = record { number = number; name = []; at = second_line; of = ty }

abbrev value : ℕ → Ty → Expr
value n ty = Apply (at n) (Some ty) (Doing O.Default) NoArg

-- start code alone, behind globals
abbrev starting : List Declared → Stmts → Program
starting globals stmts = record {
  types = [];
  facts = [];
  procs = [];
  globals = globals;
  start = record { first = 0; places = 2; before = 0; result = None; stmts = stmts };
}

-- var a: array[65018, array[4, int]]
abbrev large : Declared
large = declared 0 (array 65018 (array 4 int))

-- var c: array[3, int]
abbrev words : Declared
words = declared 2 (array 3 int)

-- var b: int
abbrev word : Declared
word = declared 1 int

-- as many bytes of data as a program may have, and a word more
abbrev pub most_data : Program
most_data = starting (large ∷ words ∷ []) (Declare (at 0) large false NoArg (Declare (at 1) words false NoArg Empty))

abbrev pub more_data : Program
more_data = starting (large ∷ words ∷ word ∷ [])
    (Declare (at 0) large false NoArg (Declare (at 1) words false NoArg (Declare (at 2) word false NoArg Empty)))

abbrev said : ℕ → List ℕ → Args → Args
said n characters rest = ByValue (Apply (at n) (Some text) (Giving (Characters characters)) NoArg) rest

-- echo "a", "b", "a", in a procedure and at the top
abbrev saying : Stmts
saying = Then (Do (Apply (at 0) None (Doing O.Echo) (said 1 (97 ∷ []) (said 2 (98 ∷ []) (said 3 (97 ∷ []) NoArg))))) Empty

abbrev pub repeating : Program
repeating = record (starting [] saying) {
  procs = record {
    name = [];
    at = second_line;
    type_params = 0;
    params = [];
    gives = None;
    body = Some (record { first = 0; places = 0; before = 0; result = None; stmts = saying });
    hook = None;
  } ∷ [];
}

-- case "a"
-- of "a", "b": echo "a"
-- else: discard
abbrev pub labelled : Program
labelled = starting [] (Then (Select (at 0) (ByLabels ((Exactly (97 ∷ []) ∷ Exactly (98 ∷ []) ∷ []) ∷ [])) (said 1 (97 ∷ []) NoArg)
    (Block (Then (Do (Apply (at 2) None (Doing O.Echo) (said 3 (97 ∷ []) NoArg))) Empty) (Otherwise Empty))) Empty)

-- const both = ["a", "b"]
-- echo both[1]
abbrev both : Literal
both = PartsOf (ALiteral (Characters (97 ∷ [])) (ALiteral (Characters (98 ∷ [])) NoLiteral))

abbrev pub linked : Program
linked = starting [] (Then (Do (Apply (at 0) None (Doing O.Echo)
    (ByValue (Read (Element (at 1) text (Fresh (Apply (at 2) (Some (array 2 text)) (Giving both) NoArg))
    (Apply (at 3) (Some int) (Giving (Number (pos 1))) NoArg) (Some (pos 1)))) NoArg))) Empty)

-- type Side = enum a, north
-- var b: int
-- echo "abcde"
abbrev side : Key
side = record { name = 83 ∷ 105 ∷ 100 ∷ 101 ∷ []; at = second_line }

abbrev pub several : Program
several = record (starting (word ∷ []) (Declare (at 0) word false NoArg
    (Then (Do (Apply (at 1) None (Doing O.Echo)
    (ByValue (Apply (at 2) (Some text) (Giving (Characters (97 ∷ 98 ∷ 99 ∷ 100 ∷ 101 ∷ []))) NoArg) NoArg))) Empty))) {
      facts = record { of = enum side; fact = members ((97 ∷ []) ∷ (110 ∷ 111 ∷ 114 ∷ 116 ∷ 104 ∷ []) ∷ []) } ∷ [];
    }

-- discard default(array[N, int])
abbrev pub discarding : ℕ → Program
discarding n = starting [] (Then (Do (Apply (at 0) None (Doing O.Discard) (ByValue (value 1 (array n int)) NoArg))) Empty)

-- proc f() =
--   var a: T
abbrev pub holding : Ty → Program
holding ty = record (starting [] Empty) {
  procs = record {
    name = [];
    at = second_line;
    type_params = 0;
    params = [];
    gives = None;
    body = Some (record { first = 0; places = 1; before = 0; result = None; stmts = Declare (at 0) (declared 0 ty) false NoArg Empty });
    hook = None;
  } ∷ [];
}

-- a tuple of a tuple of .. an int
abbrev pub nested : ℕ → Ty
nested zero = int
nested (suc n) = tuple ([] ∷ []) (types (nested n) no_types)
