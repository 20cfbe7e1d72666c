-- What the bytes of a token are, and its text.
use Rattle.std.specs.Prelude.{◌≡◌, ◌≢◌, ◌≤◌, ℕ, ◌-◌, pos, true, ◌||◌, List, [], ◌∷◌, length, take, drop, Some, None}
use Rattle.std.specs.List.{AllPass}
use Rattle.indent_scanner.specs.declared.token.Tok.{Tok}
use Rattle.indent_scanner.specs.declared.token.Tok.TheVariants as T
use Rattle.indent_scanner.specs.declared.token.Token.{Token}
use Rattle.indent_scanner.specs.Bytes.{is_operator, is_bracket, is_mark, in_char, in_text}
use Rattle.indent_scanner.specs.Grammar.{IsName, IsInteger, IsChar, IsText, SomeText, IsQuoted}
use Rattle.indent_scanner.specs.Words.{normal, key_of}

-- without the first byte and the last
abbrev pub inner : List ℕ → List ℕ
inner bytes = take (length bytes - 2) (drop 1 bytes)

-- a run of operators, but for `=`, `:`, `.` and `*:`
pub record IsOperators (bytes : List ℕ) : Type 0 where
  pub operators : AllPass is_operator bytes
  pub some : bytes ≢ []
  pub no_mark : (b : ℕ) → is_mark b ≡ true → bytes ≢ b ∷ []
  pub no_star_colon : bytes ≢ 42 ∷ 58 ∷ []

-- the bytes are a token of the kind; a char and a text hold only bytes that they may hold
abbrev pub IsSpelled : Tok → List ℕ → Type 0
IsSpelled (T.Key key) bytes = IsName bytes × (key_of bytes ≡ Some key)
IsSpelled T.Name bytes = IsName bytes × (key_of bytes ≡ None)
IsSpelled T.Quoted bytes = IsQuoted bytes
IsSpelled (T.Int value) bytes = (number : ℕ) × IsInteger bytes number × (number ≤ 2147483647) × (value ≡ pos number)
IsSpelled (T.Char value) bytes = IsChar bytes value × AllPass in_char bytes
IsSpelled T.Text bytes = SomeText bytes × AllPass in_text bytes
IsSpelled T.Op bytes = IsOperators bytes
IsSpelled (T.Punct b) bytes = ((is_bracket b || is_mark b) ≡ true) × (bytes ≡ b ∷ [])
IsSpelled T.PragmaOpen bytes = bytes ≡ 123 ∷ 46 ∷ []
IsSpelled T.PragmaClose bytes = bytes ≡ 46 ∷ 125 ∷ []
IsSpelled T.End bytes = bytes ≡ []

-- the text of a token with these bytes: the values of a text's characters, the normal form of a name, the inner text of a
-- name in backticks, and none for other tokens
abbrev pub IsTextOf : Tok → List ℕ → List ℕ → Type 0
IsTextOf T.Text bytes text = (values : List ℕ) → IsText bytes values → text ≡ values
IsTextOf T.Name bytes text = text ≡ normal bytes
IsTextOf T.Quoted bytes text = text ≡ inner bytes
IsTextOf _ bytes text = text ≡ []

-- the bytes of a token
abbrev pub bytes_of : List ℕ → Token → List ℕ
bytes_of source token = take token.len (drop token.start source)

-- the token's bytes are a token of its kind
abbrev pub IsSpelledIn : List ℕ → Token → Type 0
IsSpelledIn source token = IsSpelled token.kind (bytes_of source token)
