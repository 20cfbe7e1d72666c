-- Which tokens a source is, and where it is refused.
use Rattle.std.specs.Prelude.{◌≡◌, ◌≢◌, ℕ, suc, ◌+◌, ◌≤◌, All, Bool, true, false, not, ◌||◌, ◌&&◌, ◌==◌, if◌then◌else◌, List, [], ◌∷◌, ◌++◌, length, take, drop}
use Rattle.std.specs.Prelude.{Option, Some, None, unwrap_or}
use Rattle.arc_base.specs.declared.place.Code.{Code}
use Rattle.arc_base.specs.declared.place.Place.{Place}
use Rattle.arc_base.specs.declared.place.Stop.{Stop}
use Rattle.arc_base.specs.declared.place.Stop.TheVariants.{Refused as Rejected}
use Rattle.indent_scanner.specs.declared.token.Tok.{Tok}
use Rattle.indent_scanner.specs.declared.token.Tok.TheVariants.{End}
use Rattle.indent_scanner.specs.declared.token.Token.{Token}
use Rattle.indent_scanner.specs.declared.here.Here.{Here}
use Rattle.indent_scanner.specs.declared.piece.Piece.TheVariants.{Gap, Found, Refused}
use Rattle.indent_scanner.specs.Bytes.{byte_at}
use Rattle.indent_scanner.specs.Pieces.{Begins}

-- ---- places; `spaces` counts those of a line on which no token has begun

-- a leading mark of the byte order is skipped
abbrev pub mark_length : List ℕ → ℕ
mark_length bytes = if byte_at bytes 0 == 239 && (byte_at bytes 1 == 187 && byte_at bytes 2 == 191) then 3 else 0

-- where a source begins, behind its mark
abbrev pub first_place : ℕ → Here
first_place mark = record { start = mark; line = 1; column = 1; spaces = Some 0; apart = true }

abbrev pub one_space : Option ℕ → Option ℕ
one_space None = None
one_space (Some k) = Some (k + 1)

-- spaces count outside comments
abbrev pub spaces_over : Bool → ℕ → Option ℕ → Option ℕ
spaces_over comment b spaces = if b == 32 && not comment then one_space spaces else spaces

-- behind a byte between tokens: a line feed ends the line
abbrev pub over_byte : Bool → Here → ℕ → Here
over_byte comment here b =
    if b == 10 then record { start = here.start + 1; line = here.line + 1; column = 1; spaces = Some 0; apart = true }
    else record { start = here.start + 1; line = here.line; column = here.column + 1; spaces = spaces_over comment b here.spaces; apart = true }

-- behind bytes between tokens, of a comment or not: no token ends there
abbrev pub over_gap : Bool → Here → List ℕ → Here
over_gap comment here [] = here
over_gap comment here (b ∷ bytes) = over_gap comment (over_byte comment here b) bytes

-- behind a token
abbrev pub over_token : Here → ℕ → Here
over_token here n = record { start = here.start + n; line = here.line; column = here.column + n; spaces = None; apart = false }

-- whether a blank, the end of a line, a comment or the end follows: a comment is a space
abbrev pub is_apart : List ℕ → Bool
is_apart [] = true
is_apart (b ∷ bytes) = b == 32 || (b == 10 || (b == 13 || b == 35))

-- the token of a kind that begins here, before these bytes
abbrev pub token_at : Here → Tok → ℕ → List ℕ → Token
token_at here kind n behind = record {
  kind = kind;
  start = here.start;
  len = n;
  line = here.line;
  column = here.column;
  indent = here.spaces;
  space_before = here.apart;
  space_after = is_apart behind;
}

-- ---- sources

-- from here on the bytes are these tokens, with gaps between them
pub data TokensFrom : Here → List ℕ → List Token → Type 0 where
  ends : {here : Here} → TokensFrom here [] (token_at here End 0 [] ∷ [])
  gap : {here : Here} {bytes : List ℕ} {tokens : List Token} (comment : Bool) (n : ℕ) → Begins bytes (Gap comment n)
      → TokensFrom (over_gap comment here (take n bytes)) (drop n bytes) tokens → TokensFrom here bytes tokens
  token : {here : Here} {bytes : List ℕ} {tokens : List Token} (kind : Tok) (n : ℕ) → Begins bytes (Found kind n)
      → TokensFrom (over_token here n) (drop n bytes) tokens → TokensFrom here bytes (token_at here kind n (drop n bytes) ∷ tokens)

-- from here on tokens and gaps lead to a piece that is refused, at that place
pub data RefusedFrom : Here → List ℕ → Code → Here → Type 0 where
  here_it_is : {here : Here} {bytes : List ℕ} (code : Code) (k : ℕ) → Begins bytes (Refused code k)
      → RefusedFrom here bytes code (over_gap true here (take k bytes))
  behind_gap : {here at : Here} {bytes : List ℕ} {code : Code} (comment : Bool) (n : ℕ) → Begins bytes (Gap comment n)
      → RefusedFrom (over_gap comment here (take n bytes)) (drop n bytes) code at → RefusedFrom here bytes code at
  behind_token : {here at : Here} {bytes : List ℕ} {code : Code} (kind : Tok) (n : ℕ) → Begins bytes (Found kind n)
      → RefusedFrom (over_token here n) (drop n bytes) code at → RefusedFrom here bytes code at

-- the source is these tokens
abbrev pub Tokens : List ℕ → List Token → Type 0
Tokens source tokens = TokensFrom (first_place (mark_length source)) (drop (mark_length source) source) tokens

-- the source of a module is refused
pub record IsRefused (source : List ℕ) (module_number : ℕ) (code : Code) (at : Place) : Type 0 where
  pub here : Here
  pub stops : RefusedFrom (first_place (mark_length source)) (drop (mark_length source) source) code here
  pub in_module : at.«module» ≡ module_number
  pub on_line : at.line ≡ here.line
  pub at_column : at.column ≡ here.column

-- lines and columns begin at 1 and are at most the bytes so far and one more; the spaces are at most the bytes so far
pub record Fits (here : Here) : Type 0 where
  pub first_line : 1 ≤ here.line
  pub first_column : 1 ≤ here.column
  pub line : here.line ≤ here.start + 1
  pub column : here.column ≤ here.start + 1
  pub spaces : unwrap_or here.spaces 0 ≤ here.start

-- a token that isn't the end of the source
abbrev pub IsInner : Token → Type 0
IsInner t = t.kind ≢ End

-- the last token, and no other, is the end of the source
pub record IsEnded (tokens : List Token) : Type 0 where
  pub others : List Token
  pub last : Token
  pub split : tokens ≡ others ++ last ∷ []
  pub inner : All IsInner others
  pub ends : last.kind ≡ End

-- a token has a byte, unless it is the end of the source
abbrev pub HasByte : Token → Type 0
HasByte t = t.kind ≢ End → 1 ≤ t.len

-- lines and columns begin at 1 and are at most the bytes before the token and one more; the indent is at most the bytes
-- before it
pub record PlaceFits (token : Token) : Type 0 where
  pub first_line : 1 ≤ token.line
  pub first_column : 1 ≤ token.column
  pub line : token.line ≤ token.start + 1
  pub column : token.column ≤ token.start + 1
  pub indent : unwrap_or token.indent 0 ≤ token.start

-- the bytes before a place, without a leading mark of the byte order
abbrev pub before : List ℕ → ℕ → List ℕ
before source start = drop (mark_length source) (take start source)

abbrev pub line_feeds : List ℕ → ℕ
line_feeds [] = 0
line_feeds (b ∷ bytes) = if b == 10 then suc (line_feeds bytes) else line_feeds bytes

-- how many bytes stand behind the last line feed
abbrev pub last_line : List ℕ → ℕ
last_line [] = 0
last_line (b ∷ bytes) = if line_feeds (b ∷ bytes) == 0 then suc (length bytes) else last_line bytes

-- the line and the column of a place of a source
pub record StandsAt (source : List ℕ) (start line column : ℕ) : Type 0 where
  pub line_is : line ≡ suc (line_feeds (before source start))
  pub column_is : column ≡ suc (last_line (before source start))

abbrev pub StandsIn : List ℕ → Token → Type 0
StandsIn source t = StandsAt source t.start t.line t.column

-- the token's bytes are bytes of the source
pub record LiesIn (source : List ℕ) (token : Token) : Type 0 where
  pub inside : token.start + token.len ≤ length source

-- the refusal at a place of a module
abbrev pub refusal : ℕ → Here → Code → Stop
refusal module_number here code = Rejected code (record { «module» = module_number; line = here.line; column = here.column })
