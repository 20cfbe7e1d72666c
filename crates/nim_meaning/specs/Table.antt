-- The table of operations, by what each does with its operands.
use Rattle.std.specs.Prelude.{ℕ, ℤ, pos, ◌-ℤ◌, Bool, true, false, ◌||◌, List, [], ◌∷◌, length, Option, Some, None}
use Rattle.arc_base.specs.declared.outside.Stream.TheVariants.{Out as Output}
use Rattle.nim_types.specs.Types.{Ty, int, char, enum, Facts, fact_of, members_in}
use Rattle.nim_types.specs.Forms.{Form}
use Rattle.nim_program.specs.declared.operation.Operation.{Operation}
use Rattle.nim_program.specs.declared.operation.Operation.TheVariants as O
use Rattle.nim_program.specs.declared.operation.Operator.{Operator}
use Rattle.nim_program.specs.declared.operation.Measure.{Measure}
use Rattle.nim_program.specs.declared.operation.Measure.TheVariants.{Len, High}
use Rattle.nim_program.specs.Ints.{Checked, Fine, Trapped, applied, applied_to, compared, truth, within, low_byte}
use Rattle.nim_program.specs.Program.{Act, Doing, Building, Giving, Calling, Literal}
use Rattle.nim_program.specs.Program as P
use Rattle.nim_meaning.specs.Values.{Value, Number, Parts, Fixed, Values, Nil, More, nothing, number_of, length_of, with_part, bytes, default_of, literal_value}
use Rattle.nim_meaning.specs.Values.{Operand, Location, Made, at_base, value, number, location, value_of, values_in}
use Rattle.nim_meaning.specs.Acts.{line_of}
use Rattle.nim_meaning.specs.Texts.{texts_of, are_seen}
use Rattle.nim_meaning.specs.Here.{gives_hooked, any_hooked, form_for}
use Rattle.nim_meaning.specs.Lifted.{copied}
use Rattle.nim_meaning.specs.Places.{from_heap, put, put_over, exchanged}
use Rattle.nim_meaning.specs.OwnedRows.{owned}
use Rattle.nim_meaning.specs.Deeds.{Deed, give, ◌>>=◌, ◌>>◌, branch, costs, looks, unless_gone, sees, takes, write, end, stop}

-- ---- what rows are made of

abbrev pub outcome : Checked → Deed Value
outcome (Fine z) = give (Number z)
outcome (Trapped trap) = stop trap

abbrev pub operate : Operator → ℤ → ℤ → Deed Value
operate operator x y = outcome (applied operator x y)

abbrev pub type_in : Option Ty → Ty
type_in None = int
type_in (Some ty) = ty

-- the default of what a node gives
abbrev pub default_for : Facts → Option Ty → Value
default_for facts None = nothing
default_for facts (Some ty) = default_of facts ty

-- how many values a type has to which an int is converted with a check
abbrev pub limit_of : Facts → Ty → Option ℕ
limit_of facts char = Some 256
limit_of facts (enum key) = Some (length (members_in (fact_of facts (enum key))))
limit_of facts _ = None

abbrev pub limit_for : Facts → Option Ty → Option ℕ
limit_for facts None = None
limit_for facts (Some ty) = limit_of facts ty

abbrev pub converted : Option ℕ → Value → Deed Value
converted None v = give v
converted (Some values) v = outcome (within values (number_of v))

-- a value is handed on
abbrev pub moved : Value → Deed Value
moved v = costs (bytes v) (give v)

abbrev pub measured : Measure → ℕ → ℤ
measured Len n = pos n
measured High n = pos n -ℤ pos 1

-- `inc` and `dec` without a value go by one
abbrev pub step_by : List Operand → ℤ
step_by [] = pos 1
step_by (x ∷ []) = pos 1
step_by (x ∷ y ∷ rest) = number_of (value_of y)

-- the number at a location becomes another one
abbrev pub updated : Location → (ℤ → Deed Value) → Deed Value
updated location next =
    takes location (λ world v. costs (bytes v) (next (number_of v) >>= put location))

-- `quit` without a status ends with 0
abbrev pub status_of : List Operand → ℕ
status_of [] = 0
status_of (x ∷ xs) = low_byte (number_of (value_of x))

-- the values of two locations trade places
abbrev pub swapped : Location → Location → Deed Value
swapped left right =
    takes left (λ world v. exchanged right v) >>= (λ v. exchanged left v >> give nothing)

-- ---- operations

-- Over what is known of types, with the type of the value, those of the operands, and the operands. What values have in blocks is no part of it: where
-- a type has hooks, a row may be another one (OwnedRows). `echo` works once for each operand, so a text without bytes has its work too.
abbrev pub does : Operation → Facts → Option Ty → List (Option Ty) → List Operand → Deed Value
does O.Default facts ty of xs = costs (bytes (default_for facts ty)) (give (default_for facts ty))
does (O.Unary operator) facts ty of xs = outcome (applied_to operator (number xs 0))
does (O.Binary operator) facts ty of xs = operate operator (number xs 0) (number xs 1)
does (O.Compare comparison) facts ty of xs =
    costs (bytes (value xs 0)) (give (Number (truth (compared comparison (number xs 0) (number xs 1)))))
does O.Convert facts ty of xs = converted (limit_for facts ty) (value xs 0) >>= moved
does O.Join facts ty of xs = from_heap
does O.Show facts ty of xs = from_heap
does O.Make facts ty of xs = costs (bytes (Parts (values_in xs))) (give (Parts (values_in xs)))
does O.Sequence facts ty of xs = from_heap
does O.NewSequence facts ty of xs = from_heap
does (O.Measure measure) facts ty of xs = sees (location xs 0) (λ world v. give (Number (measured measure (length_of v))))
does O.IsNil facts ty of xs = from_heap
does O.Echo facts ty of xs = costs (length xs)
    (looks (λ world. unless_gone (are_seen world xs) (write Output (line_of (texts_of facts world of xs))))) >> give nothing
does O.Quit facts ty of xs = end (status_of xs)
does O.ReadLine facts ty of xs = from_heap
does O.ReadLineInto facts ty of xs = from_heap
does O.Assign facts ty of xs = put_over (location xs 0) (value xs 1)
does (O.Update operator) facts ty of xs = updated (location xs 0) (λ x. operate operator x (step_by xs))
does O.Add facts ty of xs = from_heap
does O.Append facts ty of xs = from_heap
does O.SetLength facts ty of xs = from_heap
does O.Pop facts ty of xs = from_heap
does O.Move facts ty of xs = exchanged (location xs 0) (default_for facts ty)
does O.Swap facts ty of xs = swapped (location xs 0) (location xs 1)
does O.Discard facts ty of xs = give nothing
does O.Destroy facts ty of xs = from_heap
does O.Blank facts ty of xs = from_heap

-- ---- constants and objects

-- the bytes of a constant that is built; a number and a text that is read have none
abbrev pub literal_bytes : Literal → ℕ
literal_bytes (P.Number z) = 0
literal_bytes (P.Characters text) = 0
literal_bytes literal = bytes (literal_value literal)

abbrev pub with_fields : Value → List ℕ → Values → Value
with_fields v [] vs = v
with_fields v (field ∷ fields) Nil = v
with_fields v (field ∷ fields) (More new vs) = with_fields (with_part v field new) fields vs

-- What is done with an operation's operands, by their types.
abbrev pub operates : Operation → Facts → Option Ty → List (Option Ty) → List Operand → Deed Value
operates operation facts ty of xs =
    branch (gives_hooked facts ty || any_hooked facts of)
    (looks (λ world. unless_gone (are_seen world xs) (owned operation facts ty of xs (does operation facts ty of xs)))) (does operation facts ty of xs)

-- A constant that has texts or sequences in it is a copy of what stands in the program. A text alone does as its use asks, and so waits for that.
abbrev pub constant_for : (hooked : Bool) → Form → (bytes : ℕ) → Value → Deed Value
constant_for false f n v = costs n (give v)
constant_for true f n (Fixed t) = give (Fixed t)
constant_for true f n v = copied f (at_base (Made v))

abbrev pub constant_row : Facts → Option Ty → (bytes : ℕ) → Value → Deed Value
constant_row facts ty n v = costs 1 (constant_for (gives_hooked facts ty) (form_for facts ty) n v)

-- All that is done with operands but calls, of which the meaning takes care. A node is a work of one.
abbrev pub acts : Act → Facts → Option Ty → List (Option Ty) → List Operand → Deed Value
acts (Doing operation) facts ty of xs = costs 1 (operates operation facts ty of xs)
acts (Building fields) facts ty of xs =
    costs 1 (costs (bytes (default_for facts ty)) (give (with_fields (default_for facts ty) fields (values_in xs))))
acts (Giving literal) facts ty of xs = constant_row facts ty (literal_bytes literal) (literal_value literal)
acts (Calling proc types) facts ty of xs = give nothing
