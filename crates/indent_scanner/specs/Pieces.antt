-- Which piece a list of bytes begins with: a token, a gap between tokens, or neither. The kind of a piece is told by its
-- first bytes, and its length by the longest front that is whole.
use Rattle.std.specs.Prelude.{◌≡◌, ◌≤◌, ◌<◌, length, ℕ, zero, suc, ◌+◌, pos, Bool, true, false, not, nat_lt, ◌&&◌, ◌||◌, ◌==◌, if◌then◌else◌, List, [], ◌∷◌}
use Rattle.std.specs.Prelude.{take, Option, Some, None}
use Rattle.arc_base.specs.declared.place.Code.TheVariants.{BadByte, BadLiteral, IntTooLarge}
use Rattle.indent_scanner.specs.declared.token.Key.{Key}
use Rattle.indent_scanner.specs.declared.token.Tok.{Tok}
use Rattle.indent_scanner.specs.declared.token.Tok.TheVariants as T
use Rattle.indent_scanner.specs.declared.piece.Piece.{Piece}
use Rattle.indent_scanner.specs.declared.piece.Piece.TheVariants.{Gap, Found, Refused}
use Rattle.indent_scanner.specs.Bytes.{byte_at, is_letter, is_digit, is_blank, is_bracket, is_operator, is_mark, in_char, in_text, in_comment, in_run}
use Rattle.indent_scanner.specs.Words.{key_of}
use Rattle.indent_scanner.specs.Grammar.{IsWord, IsName, IsNumeral, IsInteger, SomeChar, IsChar, SomeText, IsQuoted, IsLineComment, IsNestedComment}

-- ---- the longest front

-- the first n bytes are there, and are so
pub record Front (Whole : List ℕ → Type 0) (bytes : List ℕ) (n : ℕ) : Type 0 where
  pub inside : n ≤ length bytes
  pub whole : Whole (take n bytes)

-- the greatest number of which it holds
pub record Longest (P : ℕ → Type 0) (n : ℕ) : Type 0 where
  pub holds : P n
  pub greatest : (m : ℕ) → P m → m ≤ n

-- no front is so
abbrev pub NoFront : (List ℕ → Type 0) → List ℕ → Type 0
NoFront Whole bytes = (n : ℕ) → Front Whole bytes n → ⊥

-- whether a `.` stands straight before a place
abbrev pub behind_dot : List ℕ → ℕ → Bool
behind_dot bytes zero = false
behind_dot bytes (suc k) = byte_at bytes k == 46

-- the first n bytes are a run of operators
pub record IsRun (bytes : List ℕ) (n : ℕ) : Type 0 where
  pub some : 1 ≤ n
  pub each : (k : ℕ) → k < n → in_run (behind_dot bytes k) (byte_at bytes k) (byte_at bytes (suc k)) ≡ true

-- ---- what a front is, by its length n

-- a keyword, or another name
abbrev pub word_kind : Option Key → Tok
word_kind None = T.Name
word_kind (Some key) = T.Key key

-- a name; a `"` straight behind it is refused
abbrev pub word_piece : ℕ → List ℕ → Piece
word_piece n bytes = if byte_at bytes n == 34 then Refused BadLiteral n else Found (word_kind (key_of (take n bytes))) n

-- an integer; a fraction straight behind it is refused, and a value above 2,147,483,647
abbrev pub int_piece : ℕ → ℕ → List ℕ → Piece
int_piece value n bytes =
    if byte_at bytes n == 46 && is_digit (byte_at bytes (n + 1)) then Refused BadLiteral 0 else
    if nat_lt 2147483647 value then Refused IntTooLarge 0 else
    Found (T.Int (pos value)) n

-- the run `*:` is `*` before `:`; the runs `=`, `:` and `.` are no operators
abbrev pub run_piece : ℕ → List ℕ → Piece
run_piece n bytes =
    if n == 1 && is_mark (byte_at bytes 0) then Found (T.Punct (byte_at bytes 0)) 1 else
    if n == 2 && (byte_at bytes 0 == 42 && byte_at bytes 1 == 58) then Found T.Op 1 else
    Found T.Op n

-- the piece of the first n bytes where it may hold each of them, or the refusal at the first that it may not hold; only
-- a whole literal or comment comes to this, and what is none is a bad literal at its start, whatever bytes it holds
pub data Checked (may : ℕ → ℕ → Bool) (n : ℕ) (bytes : List ℕ) (whole : Piece) : Piece → Type 0 where
  clean : ((i : ℕ) → i < n → may (byte_at bytes i) (byte_at bytes (suc i)) ≡ true) → Checked may n bytes whole whole
  stray : (k : ℕ) → k < n → may (byte_at bytes k) (byte_at bytes (suc k)) ≡ false
      → ((i : ℕ) → i < k → may (byte_at bytes i) (byte_at bytes (suc i)) ≡ true) → Checked may n bytes whole (Refused BadByte k)

-- ---- pieces

-- behind a quote: two more
abbrev pub is_triple : List ℕ → Bool
is_triple rest = byte_at rest 0 == 34 && byte_at rest 1 == 34

-- `{.` that no second `.` follows opens a pragma
abbrev pub opens_pragma : ℕ → List ℕ → Bool
opens_pragma b rest = b == 123 && (byte_at rest 0 == 46 && not (byte_at rest 1 == 46))

-- whether a token, a comment or a gap can begin with byte b; `next` is the byte behind it, and `\r` begins one only before
-- a line feed
abbrev pub is_first : ℕ → ℕ → Bool
is_first b next =
    is_letter b || (is_digit b
    || (is_blank b || ((b == 13 && next == 10) || (b == 35 || (b == 39 || (b == 34 || (b == 96 || (is_bracket b || is_operator b))))))))

-- b and the bytes behind it begin with this piece
pub data FirstPiece (b : ℕ) (rest : List ℕ) : Piece → Type 0 where
  -- blanks, ends of lines and comments; `#[` opens a comment that nests
  blank_here : is_blank b ≡ true → FirstPiece b rest (Gap false 1)
  line_end_here : (b == 13 && byte_at rest 0 == 10) ≡ true → FirstPiece b rest (Gap false 2)
  line_comment_here : (n : ℕ) → (byte_at rest 0 == 91) ≡ false → Longest (Front IsLineComment (b ∷ rest)) n → FirstPiece b rest (Gap true n)
  nested_comment_here : {piece : Piece} (n : ℕ) → Longest (Front IsNestedComment (b ∷ rest)) n
      → Checked in_comment n (b ∷ rest) (Gap true n) piece → FirstPiece b rest piece
  bad_comment : (b == 35 && byte_at rest 0 == 91) ≡ true → NoFront IsNestedComment (b ∷ rest) → FirstPiece b rest (Refused BadLiteral 0)
  -- names and integers
  name_here : (n : ℕ) → Longest (Front IsWord (b ∷ rest)) n → IsName (take n (b ∷ rest)) → FirstPiece b rest (word_piece n (b ∷ rest))
  bad_name : (n : ℕ) → Longest (Front IsWord (b ∷ rest)) n → (IsName (take n (b ∷ rest)) → ⊥) → FirstPiece b rest (Refused BadByte 0)
  integer_here : (n value : ℕ) → Longest (Front IsNumeral (b ∷ rest)) n → IsInteger (take n (b ∷ rest)) value
      → FirstPiece b rest (int_piece value n (b ∷ rest))
  bad_integer : (n : ℕ) → Longest (Front IsNumeral (b ∷ rest)) n → ((value : ℕ) → IsInteger (take n (b ∷ rest)) value → ⊥)
      → FirstPiece b rest (Refused BadLiteral 0)
  -- chars, texts and names in backticks
  char_here : {piece : Piece} (n value : ℕ) → Longest (Front SomeChar (b ∷ rest)) n → IsChar (take n (b ∷ rest)) value
      → Checked (λ c next. in_char c) n (b ∷ rest) (Found (T.Char value) n) piece → FirstPiece b rest piece
  bad_char : (b == 39) ≡ true → NoFront SomeChar (b ∷ rest) → FirstPiece b rest (Refused BadLiteral 0)
  text_here : {piece : Piece} (n : ℕ) → is_triple rest ≡ false → Longest (Front SomeText (b ∷ rest)) n
      → Checked (λ c next. in_text c) n (b ∷ rest) (Found T.Text n) piece → FirstPiece b rest piece
  bad_text : (b == 34) ≡ true → NoFront SomeText (b ∷ rest) → FirstPiece b rest (Refused BadLiteral 0)
  triple_quotes : (b == 34) ≡ true → is_triple rest ≡ true → FirstPiece b rest (Refused BadLiteral 0)
  quoted_here : (n : ℕ) → Longest (Front IsQuoted (b ∷ rest)) n → FirstPiece b rest (Found T.Quoted n)
  bad_quoted : (b == 96) ≡ true → NoFront IsQuoted (b ∷ rest) → FirstPiece b rest (Refused BadByte 0)
  -- the rest
  pragma_opens : opens_pragma b rest ≡ true → FirstPiece b rest (Found T.PragmaOpen 2)
  -- behind another `.` it never comes to this: no piece ends in `.` straight before a `.`
  pragma_closes : (b == 46 && byte_at rest 0 == 125) ≡ true → FirstPiece b rest (Found T.PragmaClose 2)
  bracket_here : is_bracket b ≡ true → opens_pragma b rest ≡ false → FirstPiece b rest (Found (T.Punct b) 1)
  run_here : (n : ℕ) → Longest (IsRun (b ∷ rest)) n → FirstPiece b rest (run_piece n (b ∷ rest))
  no_piece : is_first b (byte_at rest 0) ≡ false → FirstPiece b rest (Refused BadByte 0)

-- the bytes begin with this piece
abbrev pub Begins : List ℕ → Piece → Type 0
Begins [] piece = ⊥
Begins (b ∷ rest) piece = FirstPiece b rest piece
