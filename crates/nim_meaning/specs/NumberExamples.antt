-- Small programs whose meanings a law states: operations on numbers at the ends of their range, texts and conversions.
use Rattle.std.specs.Prelude.{pos, true, false, [], ◌∷◌, Some, codes}
use Rattle.nim_types.specs.Types.{Ty, int, bool, char, enum, object, distinct, no_types, members, fields, base, Facts}
use Rattle.nim_program.specs.declared.operation.UnaryOperator.TheVariants.{Complement}
use Rattle.nim_program.specs.declared.operation.Operator.TheVariants as O
use Rattle.nim_program.specs.declared.operation.Comparison.TheVariants.{Equal, Unequal, Less, AtMost, Greater, AtLeast}
use Rattle.nim_program.specs.declared.operation.Operation.TheVariants as P
use Rattle.nim_program.specs.Program.{Number, Expr, NoArg, Proc, Program}
use Rattle.nim_meaning.specs.Trees.{here, constant, number, minus, letter, truth_value, literal, operated, unary, binary, comparing, converted, both, either}
use Rattle.nim_meaning.specs.Trees.{global, value_of, values, call, echoes, echo, update, step, give, place, does, var_as, proc, program_with, program, script}

-- ---- ints at the ends of their range

-- the greatest int, and the least by the operations that give it
abbrev pub greatest : Expr
greatest = number 2147483647

abbrev pub least : Expr
least = binary O.Subtract (minus greatest) (number 1)

-- var x = 2147483647
-- echo x
-- x += 1
-- echo x
abbrev pub overflowing : Program
overflowing = program [] 1
    (var_as (place 0 int) greatest ∷ does (echo (value_of 0)) ∷ does (update O.Add (global 0) (number 1)) ∷ does (echo (value_of 0)) ∷ [])

-- echo -2147483647 - 1
-- echo -2147483647 - 1 - 1
abbrev pub underflowing : Program
underflowing = script (echo least ∷ echo (binary O.Subtract least (number 1)) ∷ [])

-- echo 65536 * 32767 + 65535
-- echo 65536 * -32768
-- echo 65536 * 32768 + 1 div 0
abbrev pub multiplying : Program
multiplying = script
    (echo (binary O.Add (binary O.Multiply (number 65536) (number 32767)) (number 65535))
    ∷ echo (binary O.Multiply (number 65536) (minus (number 32768)))
    ∷ echo (binary O.Add (binary O.Multiply (number 65536) (number 32768)) (binary O.Divide (number 1) (number 0))) ∷ [])

-- echo not (-2147483647 - 1)
-- echo -(-2147483647 - 1)
abbrev pub opposite : Program
opposite = script (echo (unary Complement least) ∷ echo (minus least) ∷ [])

-- echo (-2147483647 - 1) mod -1
-- echo (-2147483647 - 1) div -1
abbrev pub least_div : Program
least_div = script (echo (binary O.Modulo least (minus (number 1))) ∷ echo (binary O.Divide least (minus (number 1))) ∷ [])

-- echo "before"
-- echo 7 div 0
abbrev pub zero_div : Program
zero_div = script (echo (literal (codes "before")) ∷ echo (binary O.Divide (number 7) (number 0)) ∷ [])

-- echo 7 mod 0
abbrev pub zero_mod : Program
zero_mod = script (echo (binary O.Modulo (number 7) (number 0)) ∷ [])

-- echo -7 div 2
-- echo -7 mod 2
-- echo 7 div -2
-- echo 7 mod -2
abbrev pub rounding : Program
rounding = script
    (echo (binary O.Divide (minus (number 7)) (number 2)) ∷ echo (binary O.Modulo (minus (number 7)) (number 2))
    ∷ echo (binary O.Divide (number 7) (minus (number 2))) ∷ echo (binary O.Modulo (number 7) (minus (number 2))) ∷ [])

-- echo 1 shl 31
-- echo 3 shl 31
-- echo 1 shl 32
-- echo 1 shl -1
-- echo (-2147483647 - 1) shr 31
-- echo -8 shr 1
-- echo 7 shr 33
abbrev pub shifting : Program
shifting = script
    (echo (binary O.ShiftLeft (number 1) (number 31)) ∷ echo (binary O.ShiftLeft (number 3) (number 31)) ∷ echo (binary O.ShiftLeft (number 1) (number 32))
    ∷ echo (binary O.ShiftLeft (number 1) (minus (number 1))) ∷ echo (binary O.ShiftRight least (number 31))
    ∷ echo (binary O.ShiftRight (minus (number 8)) (number 1)) ∷ echo (binary O.ShiftRight (number 7) (number 33)) ∷ [])

-- echo -1 and 255
-- echo (-2147483647 - 1) or 1
-- echo -1 xor 1
-- echo not 0
-- echo true xor false
abbrev pub bits : Program
bits = script
    (echo (binary O.BitAnd (minus (number 1)) (number 255)) ∷ echo (binary O.BitOr least (number 1)) ∷ echo (binary O.BitXor (minus (number 1)) (number 1))
    ∷ echo (unary Complement (number 0)) ∷ echo (operated bool (P.Binary O.BitXor) (values (truth_value true ∷ truth_value false ∷ []))) ∷ [])

-- var x = 2147483646
-- inc(x)
-- echo x
-- dec(x, 2147483647)
-- echo x
-- inc(x, -2147483647 - 1)
-- echo x
-- dec(x)
abbrev pub stepping : Program
stepping = program [] 1
    (var_as (place 0 int) (number 2147483646)
    ∷ does (step O.Add (global 0)) ∷ does (echo (value_of 0))
    ∷ does (update O.Subtract (global 0) greatest) ∷ does (echo (value_of 0))
    ∷ does (update O.Add (global 0) least) ∷ does (echo (value_of 0))
    ∷ does (step O.Subtract (global 0)) ∷ [])

-- let l = -2147483647 - 1
-- let h = 2147483647
-- echo l == h, " ", l != h, " ", l < h, " ", l <= l, " ", l > h, " ", h >= h
abbrev pub ordering : Program
ordering = program [] 2
    (var_as (place 0 int) least ∷ var_as (place 1 int) greatest
    ∷ does (echoes
    (comparing Equal (value_of 0) (value_of 1) ∷ literal (codes " ") ∷ comparing Unequal (value_of 0) (value_of 1) ∷ literal (codes " ")
    ∷ comparing Less (value_of 0) (value_of 1) ∷ literal (codes " ") ∷ comparing AtMost (value_of 0) (value_of 0) ∷ literal (codes " ")
    ∷ comparing Greater (value_of 0) (value_of 1) ∷ literal (codes " ") ∷ comparing AtLeast (value_of 1) (value_of 1) ∷ [])) ∷ [])

-- 1 div 0 == 0
abbrev pub untestable : Expr
untestable = comparing Equal (binary O.Divide (number 1) (number 0)) (number 0)

-- echo false and 1 div 0 == 0, true or 1 div 0 == 0
-- echo true and 1 div 0 == 0
abbrev pub stopping_early : Program
stopping_early = script
    (echoes (both (truth_value false) untestable ∷ either (truth_value true) untestable ∷ []) ∷ echo (both (truth_value true) untestable) ∷ [])

-- ---- texts and conversions

-- type
--   Color = enum red, green
--   Meters = distinct int
--   Pair = object
--     x, y: int
abbrev pub color : Ty
color = enum (record { name = codes "Color"; at = here })

abbrev pub meters : Ty
meters = distinct (record { name = codes "Meters"; at = here })

abbrev pub pair : Ty
pair = object (record { name = codes "Pair"; at = here }) no_types

abbrev pub known : Facts
known =
    record { of = color; fact = members (codes "red" ∷ codes "green" ∷ []) }
    ∷ record { of = meters; fact = base int }
    ∷ record {
      of = pair;
      fact = fields (record { name = codes "x"; shown = false; of = int } ∷ record { name = codes "y"; shown = false; of = int } ∷ []) false;
    }
    ∷ []

-- echo green, " ", true, " ", 'a', " ", Meters(5), " ", -12
abbrev pub writing : Program
writing = program_with known [] 0
    (does (echoes
    (constant color (Number (pos 1)) ∷ literal (codes " ") ∷ truth_value true ∷ literal (codes " ") ∷ letter 97 ∷ literal (codes " ")
    ∷ converted meters (number 5) ∷ literal (codes " ") ∷ minus (number 12) ∷ [])) ∷ [])

-- echo chr(65), ord('A'), Color(1), int(Meters(7))
-- echo Color(2)
abbrev pub converting : Program
converting = program_with known [] 0
    (does (echoes
    (converted char (number 65) ∷ converted int (letter 65) ∷ converted color (number 1)
    ∷ converted int (converted meters (number 7)) ∷ [])) ∷ does (echo (converted color (number 2))) ∷ [])

-- echo ord(chr(255))
-- echo chr(256)
abbrev pub above_char : Program
above_char = script (echo (converted int (converted char (number 255))) ∷ echo (converted char (number 256)) ∷ [])

-- echo ord(chr(0))
-- echo chr(-1)
abbrev pub below_char : Program
below_char = script (echo (converted int (converted char (number 0))) ∷ echo (converted char (minus (number 1))) ∷ [])

-- proc f(): int =
--   echo "in f"
--   7
abbrev pub speaking : Proc
speaking = proc 5 1 [] (Some (place 5 int)) (does (echo (literal (codes "in f"))) ∷ does (give (number 7)) ∷ [])

-- echo 1, f(), 2
-- echo f(), 1 div 0
abbrev pub all_first : Program
all_first = program (speaking ∷ []) 6
    (does (echoes (number 1 ∷ call 0 NoArg ∷ number 2 ∷ [])) ∷ does (echoes (call 0 NoArg ∷ binary O.Divide (number 1) (number 0) ∷ [])) ∷ [])
