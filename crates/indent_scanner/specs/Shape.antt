-- The forms of pieces, by which the code reads byte by byte. No public clause speaks of them.
use Rattle.std.specs.Prelude.{◌≡◌, ℕ, zero, suc, ◌+◌, ◌-◌, ◌*◌, ◌≤◌, min, Bool, true, false, nat_le, ◌&&◌, ◌==◌, if◌then◌else◌, List, [], ◌∷◌, Option, Some}
use Rattle.std.specs.Prelude.{None}
use Rattle.indent_scanner.specs.declared.shape.Quote.{Quote}
use Rattle.indent_scanner.specs.declared.shape.Quote.TheVariants as Q
use Rattle.indent_scanner.specs.declared.shape.Last.{Last}
use Rattle.indent_scanner.specs.declared.shape.Last.TheVariants as L
use Rattle.indent_scanner.specs.declared.shape.Shape.{Shape}
use Rattle.indent_scanner.specs.declared.shape.Shape.TheVariants.{Word, WordUnder, BrokenWord, Zero, Number, NumberUnder, BrokenNumber, Inside, Escaped, Hex}
use Rattle.indent_scanner.specs.declared.shape.Shape.TheVariants.{Decimal, CharWhole, TextWhole, Quoted, QuotedWhole, Line, Nested, NestedWhole, Single}
use Rattle.indent_scanner.specs.declared.shape.Shape.TheVariants.{StarColon, Run}
use Rattle.indent_scanner.specs.Bytes.{byte_at, is_digit, is_word, is_quotable, is_line_byte, in_run, hex_value, digit_value, simple_escape}

-- ---- words: no two `_` in a row

abbrev pub word_step : ℕ → Option Shape
word_step b = if is_word b then if b == 95 then Some WordUnder else Some Word else None

abbrev pub under_step : ℕ → Option Shape
under_step b = if is_word b then if b == 95 then Some BrokenWord else Some Word else None

abbrev pub while_word : Shape → ℕ → Option Shape
while_word s b = if is_word b then Some s else None

-- ---- integers: a value above 2,147,483,647 is kept as 2,147,483,648

abbrev pub with_digit : ℕ → ℕ → Option ℕ → Shape
with_digit base value None = BrokenNumber
with_digit base value (Some d) = Number base (min (value * base + d) 2147483648)

-- behind a digit
abbrev pub digit_step : ℕ → ℕ → ℕ → Option Shape
digit_step base value b =
    if is_word b then if b == 95 then Some (NumberUnder base value) else Some (with_digit base value (digit_value base b)) else None

-- behind `_` or the prefix of a base
abbrev pub digit_due_step : ℕ → ℕ → ℕ → Option Shape
digit_due_step base value b = if is_word b then Some (with_digit base value (digit_value base b)) else None

-- behind a first `0`: `x`, `o` and `b` say the base
abbrev pub zero_step : ℕ → Option Shape
zero_step b =
    if b == 120 then Some (NumberUnder 16 0) else
    if b == 111 then Some (NumberUnder 8 0) else
    if b == 98 then Some (NumberUnder 2 0) else
    digit_step 10 0 b

-- ---- chars and texts; `Inside` keeps the value of the last character

-- a character whose value is a byte
abbrev pub character : Quote → ℕ → Option Shape
character q value = if nat_le value 255 then Some (Inside q (Some value)) else None

-- a byte of the text itself, on the line
abbrev pub plain_step : Quote → ℕ → Option Shape
plain_step q b = if b == 92 then Some (Escaped q) else if b == 10 then None else Some (Inside q (Some b))

abbrev pub inside_step : Quote → Option ℕ → ℕ → Option Shape
inside_step Q.Text last b = if b == 34 then Some TextWhole else plain_step Q.Text b
inside_step Q.Char None b = if b == 39 then None else plain_step Q.Char b
inside_step Q.Char (Some value) b = if b == 39 then Some (CharWhole value) else None

-- a digit of a decimal escape: all digits that follow belong to it
abbrev pub decimal_step : Quote → ℕ → ℕ → ℕ → Option Shape
decimal_step q value b next =
    if is_digit next then if nat_le (value * 10 + (b - 48)) 255 then Some (Decimal q (value * 10 + (b - 48))) else None
    else character q (value * 10 + (b - 48))

abbrev pub simple_step : Quote → Option ℕ → Option Shape
simple_step q None = None
simple_step q (Some value) = Some (Inside q (Some value))

-- behind a backslash
abbrev pub escaped_step : Quote → ℕ → ℕ → Option Shape
escaped_step q b next =
    if is_digit b then decimal_step q 0 b next else
    if b == 120 then Some (Hex q None) else
    simple_step q (simple_escape b)

abbrev pub hex_step : Quote → Option ℕ → Option ℕ → Option Shape
hex_step q high None = None
hex_step q None (Some d) = Some (Hex q (Some d))
hex_step q (Some high) (Some d) = character q (high * 16 + d)

-- ---- names in backticks: bytes 0x21 to 0x7E

abbrev pub quoted_step : Bool → ℕ → Option Shape
quoted_step some b =
    if is_quotable b then Some (Quoted true) else
    if b == 96 && some then Some QuotedWhole else
    None

-- ---- comments

-- to the end of the line
abbrev pub line_step : ℕ → Option Shape
line_step b = if is_line_byte b then Some Line else None

-- inside so many `#[`: what a byte is for the next one
abbrev pub nested_on : ℕ → ℕ → Shape
nested_on depth b = if b == 35 then Nested depth L.Hash else if b == 93 then Nested depth L.Bracket else Nested depth L.Other

abbrev pub nested_step : ℕ → Last → ℕ → Shape
nested_step depth L.Hash b = if b == 91 then Nested (depth + 1) L.Other else nested_on depth b
nested_step depth L.Bracket b = if b == 35 then if nat_le depth 1 then NestedWhole else Nested (depth - 1) L.Other else nested_on depth b
nested_step depth L.Other b = nested_on depth b

-- ---- operators

abbrev pub run_step : Bool → ℕ → ℕ → Option Shape
run_step behind_dot b next = if in_run behind_dot b next then Some (Run (b == 46)) else None

abbrev pub single_step : ℕ → ℕ → ℕ → Option Shape
single_step first b next = if first == 42 && b == 58 then Some StarColon else run_step (first == 46) b next

-- ---- all forms

-- one byte more, with the byte behind it
abbrev pub step : Shape → ℕ → ℕ → Option Shape
step Word b next = word_step b
step WordUnder b next = under_step b
step BrokenWord b next = while_word BrokenWord b
step Zero b next = zero_step b
step (Number base value) b next = digit_step base value b
step (NumberUnder base value) b next = digit_due_step base value b
step BrokenNumber b next = while_word BrokenNumber b
step (Inside q last) b next = inside_step q last b
step (Escaped q) b next = escaped_step q b next
step (Hex q high) b next = hex_step q high (hex_value b)
step (Decimal q value) b next = decimal_step q value b next
step (CharWhole value) b next = None
step TextWhole b next = None
step (Quoted some) b next = quoted_step some b
step QuotedWhole b next = None
step Line b next = line_step b
step (Nested depth last) b next = Some (nested_step depth last b)
step NestedWhole b next = None
step (Single first) b next = single_step first b next
step StarColon b next = run_step false b next
step (Run behind_dot) b next = run_step behind_dot b next

-- nothing is missing
abbrev pub is_whole : Shape → Bool
is_whole (Inside q last) = false
is_whole (Escaped q) = false
is_whole (Hex q high) = false
is_whole (Decimal q value) = false
is_whole (Quoted some) = false
is_whole (Nested depth last) = false
is_whole _ = true

-- how many comments are open
abbrev pub depth_of : Shape → ℕ
depth_of (Nested depth last) = depth
depth_of _ = 0

-- ---- fronts

abbrev pub and_then : Option Shape → (Shape → Option Shape) → Option Shape
and_then None f = None
and_then (Some s) f = f s

-- the form of the first n bytes, where they have one
abbrev pub form : Shape → ℕ → List ℕ → Option Shape
form s zero bytes = Some s
form s (suc n) [] = None
form s (suc n) (b ∷ bytes) = and_then (step s b (byte_at bytes 0)) (λ t. form t n bytes)

-- the first n bytes are a whole piece, and no longer front is one
pub record LongestForm (s : Shape) (bytes : List ℕ) (n : ℕ) (t : Shape) : Type 0 where
  pub reached : form s n bytes ≡ Some t
  pub whole : is_whole t ≡ true
  pub longest : (m : ℕ) (u : Shape) → form s m bytes ≡ Some u → is_whole u ≡ true → m ≤ n

-- no front is a whole piece
abbrev pub NoForm : Shape → List ℕ → Type 0
NoForm s bytes = (m : ℕ) (u : Shape) → form s m bytes ≡ Some u → is_whole u ≡ true → ⊥
