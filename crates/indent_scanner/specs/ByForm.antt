-- How the code finds a piece: by the form that its first byte opens. No public clause speaks of forms.
use Rattle.std.specs.Prelude.{◌≡◌, ◌≢◌, ◌≤◌, length, ℕ, zero, suc, ◌-◌, ◌⊎◌, Bool, true, false, not, ◌&&◌, ◌==◌, if◌then◌else◌, List, [], ◌∷◌, drop, Option}
use Rattle.std.specs.Prelude.{Some, None}
use Rattle.arc_base.specs.declared.place.Code.{Code}
use Rattle.arc_base.specs.declared.place.Code.TheVariants.{BadByte, BadLiteral}
use Rattle.indent_scanner.specs.declared.token.Tok.{Tok}
use Rattle.indent_scanner.specs.declared.token.Tok.TheVariants as T
use Rattle.indent_scanner.specs.declared.shape.Quote.TheVariants as Q
use Rattle.indent_scanner.specs.declared.shape.Last.TheVariants as L
use Rattle.indent_scanner.specs.declared.shape.Shape.{Shape}
use Rattle.indent_scanner.specs.declared.shape.Shape.TheVariants.{Word, WordUnder, BrokenWord, Zero, Number, Inside, CharWhole, TextWhole, Quoted, QuotedWhole}
use Rattle.indent_scanner.specs.declared.shape.Shape.TheVariants.{Line, Nested, NestedWhole, Single, StarColon, Run}
use Rattle.indent_scanner.specs.declared.piece.Piece.{Piece}
use Rattle.indent_scanner.specs.declared.piece.Piece.TheVariants.{Gap, Found, Refused}
use Rattle.indent_scanner.specs.declared.piece.Opening.{Opening}
use Rattle.indent_scanner.specs.declared.piece.Opening.TheVariants.{Known, Shaped}
use Rattle.indent_scanner.specs.Bytes.{byte_at, is_blank, is_letter, is_digit, is_operator, is_bracket, is_mark, in_char, in_text, in_comment}
use Rattle.indent_scanner.specs.Words.{normal}
use Rattle.indent_scanner.specs.Meaning.{inner}
use Rattle.indent_scanner.specs.Pieces.{word_piece, int_piece}
use Rattle.indent_scanner.specs.Shape.{step, LongestForm, NoForm}

-- ---- how a piece begins

-- `#[` opens a comment that nests, and another `#` one to the end of the line
abbrev pub open_comment : ℕ → Opening
open_comment next = if next == 91 then Shaped (Nested 0 L.Hash) else Shaped Line

-- three quotes are no text
abbrev pub open_text : ℕ → ℕ → Opening
open_text next third = if next == 34 && third == 34 then Known (Refused BadLiteral 0) else Shaped (Inside Q.Text None)

-- `{.` that no second `.` follows
abbrev pub open_brace : ℕ → ℕ → Opening
open_brace next third = if next == 46 && not (third == 46) then Known (Found T.PragmaOpen 2) else Known (Found (T.Punct 123) 1)

abbrev pub open_digit : ℕ → Opening
open_digit b = if b == 48 then Shaped Zero else Shaped (Number 10 (b - 48))

-- brackets, `,`, `;` and operators
abbrev pub open_mark : ℕ → Opening
open_mark b =
    if is_bracket b then Known (Found (T.Punct b) 1) else
    if is_operator b then Shaped (Single b) else
    Known (Refused BadByte 0)

-- what begins by a byte and those behind it
abbrev pub opening_of : ℕ → List ℕ → Opening
opening_of b bytes =
    if is_letter b then Shaped Word else
    if is_digit b then open_digit b else
    if is_blank b then Known (Gap false 1) else
    if b == 13 && byte_at bytes 0 == 10 then Known (Gap false 2) else
    if b == 35 then open_comment (byte_at bytes 0) else
    if b == 39 then Shaped (Inside Q.Char None) else
    if b == 34 then open_text (byte_at bytes 0) (byte_at bytes 1) else
    if b == 96 then Shaped (Quoted false) else
    if b == 123 then open_brace (byte_at bytes 0) (byte_at bytes 1) else
    if b == 46 && byte_at bytes 0 == 125 then Known (Found T.PragmaClose 2) else
    open_mark b

-- ---- what a piece is, by its form and its length

-- whether a form may hold a byte, before the one behind it
abbrev pub may_hold : Shape → ℕ → ℕ → Bool
may_hold (CharWhole value) b next = in_char b
may_hold TextWhole b next = in_text b
may_hold NestedWhole b next = in_comment b next
may_hold _ b next = true

abbrev pub one_more : Option ℕ → Option ℕ
one_more None = None
one_more (Some k) = Some (suc k)

-- the first of the first n bytes that the form may not hold
abbrev pub stray_in : Shape → ℕ → List ℕ → Option ℕ
stray_in s zero bytes = None
stray_in s (suc n) [] = None
stray_in s (suc n) (b ∷ bytes) = if may_hold s b (byte_at bytes 0) then one_more (stray_in s n bytes) else Some 0

-- the piece, where it holds no stray byte
abbrev pub if_clean : Option ℕ → Piece → Piece
if_clean None piece = piece
if_clean (Some k) piece = Refused BadByte k

-- the first n bytes, which have this form, as a piece
abbrev pub piece_of : Shape → ℕ → List ℕ → Piece
piece_of Word n bytes = word_piece n bytes
piece_of WordUnder n bytes = Refused BadByte 0
piece_of BrokenWord n bytes = Refused BadByte 0
piece_of Zero n bytes = int_piece 0 n bytes
piece_of (Number base value) n bytes = int_piece value n bytes
piece_of (CharWhole value) n bytes = if_clean (stray_in (CharWhole value) n bytes) (Found (T.Char value) n)
piece_of TextWhole n bytes = if_clean (stray_in TextWhole n bytes) (Found T.Text n)
piece_of QuotedWhole n bytes = Found T.Quoted n
piece_of Line n bytes = Gap true n
piece_of NestedWhole n bytes = if_clean (stray_in NestedWhole n bytes) (Gap true n)
piece_of (Single b) n bytes = if is_mark b then Found (T.Punct b) 1 else Found T.Op 1
piece_of StarColon n bytes = Found T.Op 1
piece_of (Run behind_dot) n bytes = Found T.Op n
piece_of _ n bytes = Refused BadLiteral 0

-- a name in backticks that is none is a bad byte; any other form is a literal or a comment
abbrev pub code_of : Shape → Code
code_of (Quoted some) = BadByte
code_of _ = BadLiteral

-- ---- pieces

-- the longest front of the form, or the refusal where there is none
abbrev pub Takes : Opening → ℕ → List ℕ → Piece → Type 0
Takes (Known known) b bytes piece = piece ≡ known
Takes (Shaped s) b bytes piece =
    ((n : ℕ) × (t : Shape) × LongestForm s bytes n t × (piece ≡ piece_of t (suc n) (b ∷ bytes)))
    ⊎ (NoForm s bytes × (piece ≡ Refused (code_of s) 0))

-- it has a byte at least, and no more than there are, and no token is the end of the source; a refusal is at one of the
-- bytes or straight behind them
abbrev pub IsWithin : List ℕ → Piece → Type 0
IsWithin bytes (Gap comment n) = (1 ≤ n) × (n ≤ length bytes)
IsWithin bytes (Found kind n) = (1 ≤ n) × (n ≤ length bytes) × (kind ≢ T.End)
IsWithin bytes (Refused code k) = k ≤ length bytes

-- ---- texts

abbrev pub onto : Option ℕ → List ℕ → List ℕ
onto None values = values
onto (Some value) values = value ∷ values

-- the value of a character that has just been read
abbrev pub value_of : Shape → Option ℕ
value_of (Inside q last) = last
value_of _ = None

abbrev pub read_on : Option Shape → (Shape → List ℕ) → List ℕ
read_on None f = []
read_on (Some s) f = onto (value_of s) (f s)

-- the values of the characters that are read from here on
abbrev pub values : Shape → List ℕ → List ℕ
values s [] = []
values s (b ∷ bytes) = read_on (step s b (byte_at bytes 0)) (λ t. values t bytes)

-- the characters of a text, the normal form of a name, the inner text of a name in backticks
abbrev pub meaning : Tok → List ℕ → List ℕ
meaning T.Text bytes = values (Inside Q.Text None) (drop 1 bytes)
meaning T.Name bytes = normal bytes
meaning T.Quoted bytes = inner bytes
meaning _ bytes = []

-- the characters of a text with these bytes; `text_characters` says that they are its values
abbrev pub characters : List ℕ → List ℕ
characters bytes = meaning T.Text bytes
