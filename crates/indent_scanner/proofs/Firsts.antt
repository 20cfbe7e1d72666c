-- A gap follows a token where the byte behind it is a blank, ends a line or opens a comment.
use Rattle.std.proofs.Common.{◌≡◌, ℕ, List, [], ◌∷◌, take, Bool, true, false, refl}
use Rattle.std.specs.Prelude.{cond, ◌==◌, ◌||◌, ◌&&◌, nat_lt, pos}
use Rattle.arc_base.specs.declared.place.Code.TheVariants.{BadLiteral, IntTooLarge}
use Rattle.indent_scanner.specs.declared.token.Tok.TheVariants as T
use Rattle.indent_scanner.specs.declared.piece.Piece.{Piece}
use Rattle.indent_scanner.specs.declared.piece.Piece.TheVariants.{Gap, Found, Refused}
use Rattle.indent_scanner.specs.Bytes.{byte_at, is_letter, is_digit, is_bracket, is_operator}
use Rattle.indent_scanner.specs.Words.{key_of}
use Rattle.indent_scanner.specs.Pieces.{word_kind, word_piece, int_piece, run_piece, Checked, clean, stray, FirstPiece, blank_here, line_end_here}
use Rattle.indent_scanner.specs.Pieces.{line_comment_here, nested_comment_here, bad_comment, name_here, bad_name, integer_here, bad_integer, char_here}
use Rattle.indent_scanner.specs.Pieces.{bad_char, text_here, bad_text, triple_quotes, quoted_here, bad_quoted, pragma_opens, pragma_closes, bracket_here}
use Rattle.indent_scanner.specs.Pieces.{run_here, no_piece, Begins}
use Rattle.indent_scanner.specs.Tokens.{is_apart}
use Rattle.indent_scanner.proofs.Bools.{by_test, by_cond, either, both_true, or_left, or_right, are_false, at_byte, not_both}
use Rattle.indent_scanner.proofs.Rows.{word_first, numeral_first, line_first, nested_first, char_first, text_first, quoted_first, run_first}

abbrev pub Tells : Piece → List ℕ → Type 0
Tells (Gap comment n) bytes = is_apart bytes ≡ true
Tells (Found kind n) bytes = is_apart bytes ≡ false
Tells (Refused code k) bytes = Unit {0}

if_tells : (bytes : List ℕ) (v : Bool) (p q : Piece) → Tells p bytes → Tells q bytes → Tells (cond v p q) bytes
if_tells bytes v p q x y = by_cond (λ z. Tells z bytes) v p q (λ e. x) (λ e. y)

checked_tells : (may : ℕ → ℕ → Bool) (n : ℕ) (bytes : List ℕ) (whole p : Piece) → Tells whole bytes → Checked may n bytes whole p → Tells p bytes
checked_tells may n bytes whole _ h (clean all) = h
checked_tells may n bytes whole _ h (stray k lt is before) = tt

-- ---- gaps

blank_apart : (b : ℕ) (rest : List ℕ) → (b == 32 || b == 10) ≡ true → is_apart (b ∷ rest) ≡ true
blank_apart b rest e = either _ (b == 32) (b == 10) e (λ f. or_left (b == 32) _ f) (λ f. or_right (b == 32) _ (or_left (b == 10) _ f))

line_end_apart : (b : ℕ) (rest : List ℕ) → (b == 13) ≡ true → is_apart (b ∷ rest) ≡ true
line_end_apart b rest e = or_right (b == 32) _ (or_right (b == 10) _ (or_left (b == 13) (b == 35) e))

comment_apart : (b : ℕ) (rest : List ℕ) → (b == 35) ≡ true → is_apart (b ∷ rest) ≡ true
comment_apart b rest e = or_right (b == 32) _ (or_right (b == 10) _ (or_right (b == 13) (b == 35) e))

-- ---- tokens: of a class that none of the four bytes is of

differs : (test : ℕ → Bool) (b k : ℕ) → test k ≡ false → test b ≡ true → (b == k) ≡ false
differs test b k none passes = by_test _ (b == k) (λ e. absurd (not_both (test b) passes (at_byte (λ x. test x ≡ false) b k none e))) (λ e. e)

not_apart : (test : ℕ → Bool) (b : ℕ) (rest : List ℕ) → test 32 ≡ false → test 10 ≡ false → test 13 ≡ false → test 35 ≡ false → test b ≡ true
    → is_apart (b ∷ rest) ≡ false
not_apart test b rest s f r h passes =
    are_false (b == 32) _ (differs test b 32 s passes)
    (are_false (b == 10) _ (differs test b 10 f passes) (are_false (b == 13) (b == 35) (differs test b 13 r passes) (differs test b 35 h passes)))

word_tells : (n b : ℕ) (rest : List ℕ) → is_apart (b ∷ rest) ≡ false → Tells (word_piece n (b ∷ rest)) (b ∷ rest)
word_tells n b rest e = if_tells (b ∷ rest) _ (Refused BadLiteral n) (Found (word_kind (key_of (take n (b ∷ rest)))) n) tt e

int_tells : (value n b : ℕ) (rest : List ℕ) → is_apart (b ∷ rest) ≡ false → Tells (int_piece value n (b ∷ rest)) (b ∷ rest)
int_tells value n b rest e =
    if_tells (b ∷ rest) _ (Refused BadLiteral 0) (cond (nat_lt 2147483647 value) (Refused IntTooLarge 0) (Found (T.Int (pos value)) n)) tt
    (if_tells (b ∷ rest) (nat_lt 2147483647 value) (Refused IntTooLarge 0) (Found (T.Int (pos value)) n) tt e)

run_tells : (n b : ℕ) (rest : List ℕ) → is_apart (b ∷ rest) ≡ false → Tells (run_piece n (b ∷ rest)) (b ∷ rest)
run_tells n b rest e =
    if_tells (b ∷ rest) _ (Found (T.Punct b) 1) (cond (n == 2 && (b == 42 && byte_at (b ∷ rest) 1 == 58)) (Found T.Op 1) (Found T.Op n)) e
    (if_tells (b ∷ rest) _ (Found T.Op 1) (Found T.Op n) e e)

-- ---- all rows

row_tells : (b : ℕ) (rest : List ℕ) (p : Piece) → FirstPiece b rest p → Tells p (b ∷ rest)
row_tells b rest _ (blank_here e) = blank_apart b rest e
row_tells b rest _ (line_end_here e) = line_end_apart b rest (both_true (b == 13) _ e).0
row_tells b rest _ (line_comment_here n next l) = comment_apart b rest (line_first b n rest l.holds)
row_tells b rest p (nested_comment_here n l c) = checked_tells _ n (b ∷ rest) (Gap true n) p (comment_apart b rest (nested_first b n rest l.holds).0) c
row_tells b rest _ (bad_comment e none) = tt
row_tells b rest _ (name_here n l name) = word_tells n b rest (not_apart is_letter b rest refl refl refl refl (word_first b n rest l.holds))
row_tells b rest _ (bad_name n l bad) = tt
row_tells b rest _ (integer_here n value l integer) = int_tells value n b rest (not_apart is_digit b rest refl refl refl refl (numeral_first b n rest l.holds))
row_tells b rest _ (bad_integer n l bad) = tt
row_tells b rest p (char_here n value l char c) = checked_tells _ n (b ∷ rest) (Found (T.Char value) n) p
    (not_apart (λ x. x == 39) b rest refl refl refl refl (char_first b n rest l.holds)) c
row_tells b rest _ (bad_char quote none) = tt
row_tells b rest p (text_here n single l c) = checked_tells _ n (b ∷ rest) (Found T.Text n) p
    (not_apart (λ x. x == 34) b rest refl refl refl refl (text_first b n rest l.holds)) c
row_tells b rest _ (bad_text quote none) = tt
row_tells b rest _ (triple_quotes quote triple) = tt
row_tells b rest _ (quoted_here n l) = not_apart (λ x. x == 96) b rest refl refl refl refl (quoted_first b n rest l.holds)
row_tells b rest _ (bad_quoted quote none) = tt
row_tells b rest _ (pragma_opens e) = not_apart (λ x. x == 123) b rest refl refl refl refl (both_true (b == 123) _ e).0
row_tells b rest _ (pragma_closes e) = not_apart (λ x. x == 46) b rest refl refl refl refl (both_true (b == 46) _ e).0
row_tells b rest _ (bracket_here e none) = not_apart is_bracket b rest refl refl refl refl e
row_tells b rest _ (run_here n l) =
    run_tells n b rest (not_apart is_operator b rest refl refl refl refl (both_true (is_operator b) _ (run_first b n rest l.holds)).0)
row_tells b rest _ (no_piece e) = tt

pub begins_tells : (bytes : List ℕ) (p : Piece) → Begins bytes p → Tells p bytes
begins_tells [] p x = absurd x
begins_tells (b ∷ rest) p x = row_tells b rest p x
