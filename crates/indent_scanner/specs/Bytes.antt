-- Classes of bytes.
use Rattle.std.specs.Prelude.{ℕ, ◌-◌, Bool, false, not, nat_le, nat_lt, ◌&&◌, ◌||◌, ◌==◌, if◌then◌else◌, List, slice_index, Option, Some, None}

-- the byte at a place, or 0 behind the end
abbrev pub byte_at : List ℕ → ℕ → ℕ
byte_at bytes k = slice_index bytes k

-- from one byte to another
abbrev pub is_in : ℕ → ℕ → ℕ → Bool
is_in low high b = nat_le low b && nat_le b high

-- `A` to `Z`, and `a` to `z`
abbrev pub is_letter : ℕ → Bool
is_letter b = is_in 65 90 b || is_in 97 122 b

-- `0` to `9`
abbrev pub is_digit : ℕ → Bool
is_digit b = is_in 48 57 b

-- letters, digits and `_`
abbrev pub is_word : ℕ → Bool
is_word b = is_letter b || (is_digit b || b == 95)

-- `= + - * / < > @ $ ~ & % | ! ? ^ . : \`
abbrev pub is_operator : ℕ → Bool
is_operator b =
    b == 61 || (b == 43 || (b == 45 || (b == 42 || (b == 47 || (b == 60 || (b == 62 || (b == 64 || (b == 36 || (b == 126
    || (b == 38 || (b == 37 || (b == 124 || (b == 33 || (b == 63 || (b == 94 || (b == 46 || (b == 58 || b == 92)))))))))))))))))

-- `( ) [ ] { } , ;`
abbrev pub is_bracket : ℕ → Bool
is_bracket b = b == 40 || (b == 41 || (b == 91 || (b == 93 || (b == 123 || (b == 125 || (b == 44 || b == 59))))))

-- `=`, `:` and `.`
abbrev pub is_mark : ℕ → Bool
is_mark b = b == 61 || (b == 58 || b == 46)

-- blanks: a space or a line feed
abbrev pub is_blank : ℕ → Bool
is_blank b = b == 32 || b == 10

-- what a name in backticks may hold
abbrev pub is_quotable : ℕ → Bool
is_quotable b = if b == 96 then false else is_in 33 126 b

-- what a comment to the end of the line may hold
abbrev pub is_line_byte : ℕ → Bool
is_line_byte b = b == 9 || (is_in 32 126 b || nat_le 128 b)

-- what a char may hold
abbrev pub in_char : ℕ → Bool
in_char b = is_in 32 126 b

-- what a text may hold
abbrev pub in_text : ℕ → Bool
in_text b = nat_le 32 b && not (b == 127)

-- whether a comment that nests may hold byte b; `next` is the byte behind it: lines and their ends, so `\r` only before a
-- line feed
abbrev pub in_comment : ℕ → ℕ → Bool
in_comment b next = is_line_byte b || (b == 10 || (b == 13 && next == 10))

-- a run of operators, behind `.` or another byte: `.` straight before `}` belongs to it only behind another `.`
abbrev pub in_run : Bool → ℕ → ℕ → Bool
in_run behind_dot b next = is_operator b && (not (b == 46) || (behind_dot || not (next == 125)))

-- the value of a hexadecimal digit
abbrev pub hex_value : ℕ → Option ℕ
hex_value b =
    if is_digit b then Some (b - 48) else
    if is_in 97 102 b then Some (b - 87) else
    if is_in 65 70 b then Some (b - 55) else
    None

-- a digit that the base has
abbrev pub below : ℕ → Option ℕ → Option ℕ
below base None = None
below base (Some d) = if nat_lt d base then Some d else None

-- the value of a digit of a base
abbrev pub digit_value : ℕ → ℕ → Option ℕ
digit_value base b = below base (hex_value b)

-- what `\n \l \r \c \t \e \\ \" \'` stand for
abbrev pub simple_escape : ℕ → Option ℕ
simple_escape b =
    if b == 110 || b == 108 then Some 10 else
    if b == 114 || b == 99 then Some 13 else
    if b == 116 then Some 9 else
    if b == 101 then Some 27 else
    if b == 92 || (b == 34 || b == 39) then Some b else
    None
