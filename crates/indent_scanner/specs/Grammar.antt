-- What words, names, integers, chars, texts, names in backticks and comments are: tests on whole texts.
-- Bytes: 10 ends a line, 34 is `"`, 35 `#`, 39 `'`, 48 `0`, 91 `[`, 92 `\`, 93 `]`, 95 `_`, 96 a backtick, 98 `b`, 111 `o`, 120 `x`.
use Rattle.std.specs.Prelude.{◌≡◌, ◌≢◌, ◌≤◌, ℕ, suc, ◌+◌, ◌-◌, ◌*◌, Bool, true, false, ◌==◌, ◌&&◌, ◌||◌, List, [], ◌∷◌, ◌++◌, Some}
use Rattle.std.specs.List.{AllPass}
use Rattle.indent_scanner.specs.Bytes.{byte_at, is_letter, is_word, is_line_byte, is_quotable, is_digit, digit_value, hex_value, simple_escape}

-- ---- words and names

-- a letter, then letters, digits and `_`
abbrev pub IsWord : List ℕ → Type 0
IsWord [] = ⊥
IsWord (b ∷ bytes) = (is_letter b ≡ true) × AllPass is_word bytes

abbrev pub is_alphanumeric : ℕ → Bool
is_alphanumeric b = is_letter b || is_digit b

-- what follows the first letter of a name: letters and digits, with single `_` between them
pub data NameRest : List ℕ → Type 0 where
  name_done : NameRest []
  name_plain : (b : ℕ) (bytes : List ℕ) → is_alphanumeric b ≡ true → NameRest bytes → NameRest (b ∷ bytes)
  name_under : (b : ℕ) (bytes : List ℕ) → is_alphanumeric b ≡ true → NameRest bytes → NameRest (95 ∷ b ∷ bytes)

-- a word without `_` at its end or two of them in a row
abbrev pub IsName : List ℕ → Type 0
IsName [] = ⊥
IsName (b ∷ bytes) = (is_letter b ≡ true) × NameRest bytes

-- ---- integers

-- a digit, then letters, digits and `_`
abbrev pub IsNumeral : List ℕ → Type 0
IsNumeral [] = ⊥
IsNumeral (b ∷ bytes) = (is_digit b ≡ true) × AllPass is_word bytes

-- what follows a digit of an integer, from its value so far to its value: digits, with single `_` between them
pub data Digits (base : ℕ) : ℕ → List ℕ → ℕ → Type 0 where
  digits_done : (value : ℕ) → Digits base value [] value
  digits_more : (value b d whole : ℕ) (bytes : List ℕ) → digit_value base b ≡ Some d
      → Digits base (value * base + d) bytes whole → Digits base value (b ∷ bytes) whole
  digits_under : (value b d whole : ℕ) (bytes : List ℕ) → digit_value base b ≡ Some d
      → Digits base (value * base + d) bytes whole → Digits base value (95 ∷ b ∷ bytes) whole

-- one digit or more, and their value
pub data SomeDigits (base : ℕ) : List ℕ → ℕ → Type 0 where
  some_digits : (b d value : ℕ) (bytes : List ℕ) → digit_value base b ≡ Some d → Digits base d bytes value → SomeDigits base (b ∷ bytes) value

-- an integer and its value: decimal, or with `0x`, `0o` or `0b`
pub data IsInteger : List ℕ → ℕ → Type 0 where
  decimal : (value : ℕ) (bytes : List ℕ) → SomeDigits 10 bytes value → IsInteger bytes value
  hexadecimal : (value : ℕ) (bytes : List ℕ) → SomeDigits 16 bytes value → IsInteger (48 ∷ 120 ∷ bytes) value
  octal : (value : ℕ) (bytes : List ℕ) → SomeDigits 8 bytes value → IsInteger (48 ∷ 111 ∷ bytes) value
  binary : (value : ℕ) (bytes : List ℕ) → SomeDigits 2 bytes value → IsInteger (48 ∷ 98 ∷ bytes) value

-- ---- chars and texts

-- decimal digits, all that follow: from the value so far to the value, and what stands behind them
pub data Decimals : ℕ → List ℕ → ℕ → List ℕ → Type 0 where
  last_digit : (value b : ℕ) (bytes : List ℕ) → is_digit b ≡ true → is_digit (byte_at bytes 0) ≡ false
      → Decimals value (b ∷ bytes) (value * 10 + (b - 48)) bytes
  more_digits : (value b whole : ℕ) (bytes behind : List ℕ) → is_digit b ≡ true → is_digit (byte_at bytes 0) ≡ true
      → Decimals (value * 10 + (b - 48)) bytes whole behind → Decimals value (b ∷ bytes) whole behind

-- one character of a char or a text that ends with this quote: its bytes, its value, and what stands behind it; which
-- bytes a char and a text may hold is no part of it
pub data Character (quote : ℕ) : List ℕ → ℕ → List ℕ → Type 0 where
  plain : (b : ℕ) (behind : List ℕ) → (b == quote) ≡ false → (b == 92) ≡ false → (b == 10) ≡ false
      → Character quote (b ∷ behind) b behind
  escape : (b value : ℕ) (behind : List ℕ) → simple_escape b ≡ Some value → Character quote (92 ∷ b ∷ behind) value behind
  hex_escape : (b c high low : ℕ) (behind : List ℕ) → hex_value b ≡ Some high → hex_value c ≡ Some low
      → Character quote (92 ∷ 120 ∷ b ∷ c ∷ behind) (high * 16 + low) behind
  decimal_escape : (value : ℕ) (bytes behind : List ℕ) → Decimals 0 bytes value behind → value ≤ 255
      → Character quote (92 ∷ bytes) value behind

-- a char and its value, of whatever bytes
pub data IsChar : List ℕ → ℕ → Type 0 where
  a_char : (value : ℕ) (bytes : List ℕ) → Character 39 bytes value (39 ∷ []) → IsChar (39 ∷ bytes) value

-- what follows the first quote of a text, with the last one, and the values of its characters
pub data TextRest : List ℕ → List ℕ → Type 0 where
  text_closes : TextRest (34 ∷ []) []
  text_goes : (value : ℕ) (bytes behind values : List ℕ) → Character 34 bytes value behind → TextRest behind values
      → TextRest bytes (value ∷ values)

-- a text and the values of its characters, of whatever bytes
pub data IsText : List ℕ → List ℕ → Type 0 where
  a_text : (bytes values : List ℕ) → TextRest bytes values → IsText (34 ∷ bytes) values

abbrev pub SomeChar : List ℕ → Type 0
SomeChar bytes = (value : ℕ) × IsChar bytes value

abbrev pub SomeText : List ℕ → Type 0
SomeText bytes = (values : List ℕ) × IsText bytes values

-- ---- names in backticks

-- one byte or more between two backticks
pub record IsQuoted (bytes : List ℕ) : Type 0 where
  pub inner : List ℕ
  pub is : bytes ≡ 96 ∷ inner ++ 96 ∷ []
  pub some : inner ≢ []
  pub visible : AllPass is_quotable inner

-- ---- comments

-- `#`, and bytes of the same line
abbrev pub IsLineComment : List ℕ → Type 0
IsLineComment [] = ⊥
IsLineComment (b ∷ bytes) = ((b == 35) ≡ true) × AllPass is_line_byte bytes

-- the two bytes open or close a comment
abbrev pub is_turn : ℕ → ℕ → Bool
is_turn b c = (b == 35 && c == 91) || (b == 93 && c == 35)

-- what stands inside so many comments, with what closes them
pub data NestedRest : ℕ → List ℕ → Type 0 where
  nested_done : NestedRest 0 []
  nested_opens : (depth : ℕ) (bytes : List ℕ) → NestedRest (suc (suc depth)) bytes → NestedRest (suc depth) (35 ∷ 91 ∷ bytes)
  nested_closes : (depth : ℕ) (bytes : List ℕ) → NestedRest depth bytes → NestedRest (suc depth) (93 ∷ 35 ∷ bytes)
  nested_other : (depth b c : ℕ) (bytes : List ℕ) → is_turn b c ≡ false
      → NestedRest (suc depth) (c ∷ bytes) → NestedRest (suc depth) (b ∷ c ∷ bytes)

-- a comment from `#[` to its `]#`
pub data IsNestedComment : List ℕ → Type 0 where
  nested_comment : (bytes : List ℕ) → NestedRest 1 bytes → IsNestedComment (35 ∷ 91 ∷ bytes)
