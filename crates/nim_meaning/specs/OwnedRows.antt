-- The rows of the table that are others where a value or an operand has a type with hooks: texts and sequences, and what contains them.
use Rattle.std.specs.Prelude.{ℕ, zero, suc, ◌+◌, ◌-◌, ◌*◌, ℤ, pos, ◌-ℤ◌, unsigned_abs, int_lt, nat_eq, nat_le, nat_lt, Bool, true, false, if◌then◌else◌}
use Rattle.std.specs.Prelude.{List, [], ◌∷◌, ◌++◌, length, take, replicate, Option, None}
use Rattle.nim_types.specs.Types.{Ty, Facts}
use Rattle.nim_types.specs.Forms.{Form, plain, block, elements, wrapped, size}
use Rattle.nim_program.specs.declared.operation.Operation.{Operation}
use Rattle.nim_program.specs.declared.operation.Operation.TheVariants as O
use Rattle.nim_program.specs.declared.operation.Comparison.{Comparison}
use Rattle.nim_program.specs.Traps.{IndexOutOfBounds, OutOfRange}
use Rattle.nim_program.specs.Ints.{compared, truth}
use Rattle.nim_meaning.specs.Values.{Value, Number, Handle, Nil, More, nothing, first_of, joined, length_of, block_of, is_handle, repeated, blank}
use Rattle.nim_meaning.specs.Values.{Location, item_of, Operand, operand, value, number, location, values_in}
use Rattle.nim_meaning.specs.Heap.{Characters, Elements}
use Rattle.nim_meaning.specs.State.{World, load, text_of, elements_of, bytes_left}
use Rattle.nim_meaning.specs.Texts.{shown}
use Rattle.nim_meaning.specs.Here.{form_for}
use Rattle.nim_meaning.specs.Deeds.{Deed, Reads, does, give, ◌>>=◌, ◌>>◌, branch, costs, looks, unless_gone, sees, takes, sets, refills, stop}
use Rattle.nim_meaning.specs.Places.{may_change}
use Rattle.nim_meaning.specs.Lifted.{fresh, fresh_text, fresh_sequence, resized, each_element, ends_at, under_way, replaced, assigns}

-- ---- types

-- that of the operand at a position
abbrev pub operand_type : List (Option Ty) → ℕ → Option Ty
operand_type [] i = None
operand_type (ty ∷ of) zero = ty
operand_type (ty ∷ of) (suc i) = operand_type of i

-- with distinct types looked through
abbrev pub is_text_form : Form → Bool
is_text_form block = true
is_text_form (wrapped f) = is_text_form f
is_text_form f = false

abbrev pub element_of : Form → Form
element_of (elements f) = f
element_of (wrapped f) = element_of f
element_of f = plain

-- ---- texts

-- how two texts stand to one another: below 0, 0, or above
abbrev pub order : List ℕ → List ℕ → ℤ
order [] [] = pos 0
order [] (d ∷ ds) = pos 0 -ℤ pos 1
order (c ∷ cs) [] = pos 1
order (c ∷ cs) (d ∷ ds) = if nat_lt c d then pos 0 -ℤ pos 1 else if nat_lt d c then pos 1 else order cs ds

abbrev pub compared_texts : Comparison → List ℕ → List ℕ → Deed Value
compared_texts comparison a b = costs (length a) (give (Number (truth (compared comparison (order a b) (pos 0)))))

-- a text at a location gets more characters
abbrev pub appended : List ℕ → Location → Deed (Unit {0})
appended more location = looks λ world. costs (length more)
    (resized (length_of (load world location) + length more) (length_of (load world location) + length more)
    (Characters (text_of world (load world location) ++ more)) location)

-- ---- sequences

abbrev pub added : Form → Value → Location → Deed (Unit {0})
added of x location = looks λ world. costs (size of)
    (resized (suc (length_of (load world location))) (suc (length_of (load world location)) * size of)
    (Elements (joined (elements_of world (load world location)) (More x Nil))) location)

-- without its last element, which is the answer
abbrev pub shortened : Form → ℕ → Location → World → Deed Value
shortened of zero location world = stop IndexOutOfBounds
shortened of (suc n) location world = costs (size of) (takes (item_of (load world location) location n) (λ world last.
    refills (block_of (load world location)) (Elements (first_of n (elements_of world (load world location))))
    >> (sets location (Handle n (block_of (load world location))) >> give last)))

-- a number that is a length
abbrev pub counted : ℤ → (ℕ → Deed Value) → Deed Value
counted z act = branch (int_lt z (pos 0)) (stop OutOfRange) (act (unsigned_abs z))

-- ---- lengths

-- characters that come are 0
abbrev pub text_to : ℕ → List ℕ → List ℕ
text_to n t = take n t ++ replicate (n - length t) 0

-- The elements behind a length end, in order; the block stays.
abbrev pub cut : Form → ℕ → Location → Value → Deed (Unit {0})
cut of n location v = sets location (Handle n (block_of v))
    >> (each_element (length_of v - n) (λ to from. ends_at of to) n v location v location
    >> looks (λ world. refills (block_of v) (Elements (first_of n (elements_of world v)))))

abbrev pub grown : Form → ℕ → Location → World → Deed (Unit {0})
grown of n location world = costs ((n - length_of (load world location)) * size of) (resized n (n * size of)
    (Elements (joined (elements_of world (load world location)) (repeated (n - length_of (load world location)) (blank of)))) location)

abbrev pub sequence_to : Form → ℕ → Location → World → Deed (Unit {0})
sequence_to of n location world =
    branch (nat_le n (length_of (load world location))) (cut of n location (load world location)) (grown of n location world)

abbrev pub length_to : Form → ℕ → Location → Deed Value
length_to f n location = looks (λ world. branch (is_text_form f)
    (costs (n - length_of (load world location)) (resized n n (Characters (text_to n (text_of world (load world location)))) location))
    (sequence_to (element_of f) n location world)) >> give nothing

-- ---- lines of the input

-- the characters before the first line feed; how many bytes there are up to it, or in all; and the next line, without a carriage return at its end
abbrev pub before_feed : List ℕ → List ℕ
before_feed [] = []
before_feed (c ∷ cs) = if nat_eq c 10 then [] else c ∷ before_feed cs

abbrev pub up_to_feed : List ℕ → ℕ
up_to_feed [] = 0
up_to_feed (c ∷ cs) = if nat_eq c 10 then 1 else suc (up_to_feed cs)

abbrev pub without_return : List ℕ → List ℕ
without_return [] = []
without_return (c ∷ []) = if nat_eq c 13 then [] else c ∷ []
without_return (c ∷ d ∷ ds) = c ∷ without_return (d ∷ ds)

abbrev pub next_line : List ℕ → List ℕ
next_line input = if nat_lt (length (before_feed input)) (up_to_feed input) then without_return (before_feed input) else before_feed input

-- character by character
abbrev pub each_appended : List ℕ → Location → Deed (Unit {0})
each_appended [] location = give tt
each_appended (c ∷ cs) location = appended (c ∷ []) location >> each_appended cs location

-- a new text of the next line
abbrev pub line_read : List ℕ → Deed Value
line_read input = costs (up_to_feed input) (does (Reads (up_to_feed input)) >> under_way (Handle 0 None) (each_appended (next_line input)))

-- where no byte is left the place stays as it is
abbrev pub line_or_none : Location → List ℕ → Deed Value
line_or_none location [] = give (Number (truth false))
line_or_none location (c ∷ cs) = line_read (c ∷ cs) >>= (λ v. replaced block location v >> give (Number (truth true)))

-- a text that nobody owns can't be read into
abbrev pub line_into : Location → List ℕ → Deed Value
line_into location input = sees location (λ world v. unless_gone (is_handle v) (line_or_none location input))

-- ---- rows

-- What an operation does with its operands; one whose row is that of all types does that.
abbrev pub owned : Operation → Facts → Option Ty → List (Option Ty) → List Operand → (otherwise : Deed Value) → Deed Value
owned (O.Compare comparison) facts ty of xs otherwise =
    looks λ world. compared_texts comparison (shown facts world (operand_type of 0) (operand xs 0)) (shown facts world (operand_type of 1) (operand xs 1))
owned O.Join facts ty of xs otherwise =
    looks λ world. fresh_text (shown facts world (operand_type of 0) (operand xs 0) ++ shown facts world (operand_type of 1) (operand xs 1))
owned O.Show facts ty of xs otherwise = looks λ world. fresh_text (shown facts world (operand_type of 0) (operand xs 0))
owned O.Sequence facts ty of xs otherwise = fresh_sequence (element_of (form_for facts ty)) (values_in xs)
owned O.NewSequence facts ty of xs otherwise =
    counted (number xs 0) (λ n. fresh n (n * size (element_of (form_for facts ty))) (Elements (repeated n (blank (element_of (form_for facts ty))))))
owned O.ReadLineInto facts ty of xs otherwise = looks λ world. line_into (location xs 0) (bytes_left world)
owned O.Assign facts ty of xs otherwise =
    unless_gone (may_change (location xs 0).base) (assigns (form_for facts (operand_type of 0)) (location xs 0) (operand xs 1))
owned O.Add facts ty of xs otherwise =
    unless_gone (may_change (location xs 0).base) (added (element_of (form_for facts (operand_type of 0))) (value xs 1) (location xs 0) >> give nothing)
owned O.Append facts ty of xs otherwise = looks λ world. appended (shown facts world (operand_type of 1) (operand xs 1)) (location xs 0) >> give nothing
owned O.SetLength facts ty of xs otherwise =
    unless_gone (may_change (location xs 0).base) (counted (number xs 1) (λ n. length_to (form_for facts (operand_type of 0)) n (location xs 0)))
owned O.Pop facts ty of xs otherwise =
    unless_gone (may_change (location xs 0).base) (looks λ world.
    shortened (element_of (form_for facts (operand_type of 0))) (length_of (load world (location xs 0))) (location xs 0) world)
owned operation facts ty of xs otherwise = otherwise
