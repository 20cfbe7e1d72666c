-- The spaces and the indents of tokens.
use Rattle.std.specs.Prelude.{◌≡◌, ◌≢◌, ℕ, suc, ◌+◌, ◌-◌, nat_le, nat_lt, Bool, true, false, not, ◌&&◌, ◌||◌, ◌==◌, if◌then◌else◌, List, [], ◌∷◌, ◌++◌, length}
use Rattle.std.specs.Prelude.{Some, None}
use Rattle.indent_scanner.specs.declared.token.Tok.{Tok}
use Rattle.indent_scanner.specs.declared.token.Tok.TheVariants.{End}
use Rattle.indent_scanner.specs.declared.token.Token.{Token}
use Rattle.indent_scanner.specs.declared.here.Here.{Here}
use Rattle.indent_scanner.specs.Tokens.{TokensFrom, ends, gap, token, before, line_feeds}

abbrev pub is_end : Tok → Bool
is_end End = true
is_end _ = false

-- the second token begins where the first one ends
abbrev pub touches : Token → Token → Bool
touches t u = u.start == t.start + t.len

-- what two tokens say, of which the second is the next one: they have a space between them unless they touch, and the end
-- of the source counts as a space for the token before it; the second has an indent where it is the first of its line
pub record Beside (t u : Token) : Type 0 where
  pub before : u.space_before ≡ not (touches t u)
  pub after : t.space_after ≡ (is_end u.kind || not (touches t u))
  pub same_line : u.line ≡ t.line → u.indent ≡ None
  pub new_line : u.line ≢ t.line → u.indent ≢ None

-- the first token of a source has a space before it and an indent
pub record IsFirst (t : Token) : Type 0 where
  pub before : t.space_before ≡ true
  pub indented : t.indent ≢ None

-- each token, with the next one; the last has a space behind it
pub record IsSpaced (tokens : List Token) : Type 0 where
  pub first : (t : Token) (right : List Token) → tokens ≡ t ∷ right → IsFirst t
  pub beside : (left right : List Token) (t u : Token) → tokens ≡ left ++ t ∷ u ∷ right → Beside t u
  pub last : (left : List Token) (t : Token) → tokens ≡ left ++ t ∷ [] → t.space_after ≡ true

-- ---- indents

-- where the comments begin of what is read from here, and how many bytes they have
abbrev pub comments : {here : Here} {bytes : List ℕ} {tokens : List Token} → TokensFrom here bytes tokens → List (ℕ × ℕ)
comments ends = []
comments {here = here} (gap true n b r) = (here.start, n) ∷ comments r
comments (gap false n b r) = comments r
comments (token kind n b r) = comments r

-- the byte at a place is one of these comments'
abbrev pub is_inside : List (ℕ × ℕ) → ℕ → Bool
is_inside [] k = false
is_inside (c ∷ cs) k = (nat_le c.0 k && nat_lt k (c.0 + c.1)) || is_inside cs k

-- how many spaces lie outside these comments, of bytes that begin at a place
abbrev pub spaces_outside : List (ℕ × ℕ) → ℕ → List ℕ → ℕ
spaces_outside cs k [] = 0
spaces_outside cs k (b ∷ bytes) = if b == 32 && not (is_inside cs k) then suc (spaces_outside cs (suc k) bytes) else spaces_outside cs (suc k) bytes

-- the bytes behind the last line feed
abbrev pub last_bytes : List ℕ → List ℕ
last_bytes [] = []
last_bytes (b ∷ bytes) = if line_feeds (b ∷ bytes) == 0 then b ∷ bytes else last_bytes bytes

-- the bytes before a place on its line
abbrev pub line_before : List ℕ → ℕ → List ℕ
line_before source start = last_bytes (before source start)

-- an indent counts the spaces outside comments before the token on its line
abbrev pub IsIndented : List ℕ → List (ℕ × ℕ) → Token → Type 0
IsIndented source cs t = (k : ℕ) → t.indent ≡ Some k → k ≡ spaces_outside cs (t.start - length (line_before source t.start)) (line_before source t.start)
