-- What a piece begins with, by the bytes of the table.
use Rattle.std.proofs.Common.{◌≡◌, ℕ, ◌-◌, List, Bool, true, false, refl, sym, ap, ◌∙◌, arith}
use Rattle.std.specs.Prelude.{None, cond, not, ◌==◌, ◌&&◌, ◌||◌}
use Rattle.arc_base.specs.declared.place.Code.TheVariants.{BadByte, BadLiteral}
use Rattle.indent_scanner.specs.declared.token.Tok.TheVariants as T
use Rattle.indent_scanner.specs.declared.shape.Quote.TheVariants as Q
use Rattle.indent_scanner.specs.declared.shape.Last.TheVariants as L
use Rattle.indent_scanner.specs.declared.shape.Shape.TheVariants.{Word, Zero, Number, Inside, Quoted, Line, Nested, Single}
use Rattle.indent_scanner.specs.declared.piece.Piece.TheVariants.{Gap, Found, Refused}
use Rattle.indent_scanner.specs.declared.piece.Opening.{Opening}
use Rattle.indent_scanner.specs.declared.piece.Opening.TheVariants.{Known, Shaped}
use Rattle.indent_scanner.specs.Bytes.{byte_at, is_in, is_letter, is_digit, is_blank, is_bracket, is_operator, in_run}
use Rattle.indent_scanner.specs.Pieces.{is_triple, opens_pragma, is_first}
use Rattle.indent_scanner.specs.ByForm.{open_comment, open_text, open_brace, open_digit, open_mark, opening_of}
use Rattle.indent_scanner.proofs.Bools.{in_range, by_test, by_cond, both_true, are_true, either, both_false, are_false, or_left, or_right, at_byte, unlike}

-- ---- the openings behind each test

abbrev behind_braces : ℕ → List ℕ → Opening
behind_braces b rest = cond (b == 46 && byte_at rest 0 == 125) (Known (Found T.PragmaClose 2)) (open_mark b)

abbrev behind_ticks : ℕ → List ℕ → Opening
behind_ticks b rest = cond (b == 123) (open_brace (byte_at rest 0) (byte_at rest 1)) (behind_braces b rest)

abbrev behind_texts : ℕ → List ℕ → Opening
behind_texts b rest = cond (b == 96) (Shaped (Quoted false)) (behind_ticks b rest)

abbrev behind_chars : ℕ → List ℕ → Opening
behind_chars b rest = cond (b == 34) (open_text (byte_at rest 0) (byte_at rest 1)) (behind_texts b rest)

abbrev behind_comments : ℕ → List ℕ → Opening
behind_comments b rest = cond (b == 39) (Shaped (Inside Q.Char None)) (behind_chars b rest)

abbrev behind_ends : ℕ → List ℕ → Opening
behind_ends b rest = cond (b == 35) (open_comment (byte_at rest 0)) (behind_comments b rest)

abbrev behind_blanks : ℕ → List ℕ → Opening
behind_blanks b rest = cond (b == 13 && byte_at rest 0 == 10) (Known (Gap false 2)) (behind_ends b rest)

abbrev behind_digits : ℕ → List ℕ → Opening
behind_digits b rest = cond (is_blank b) (Known (Gap false 1)) (behind_blanks b rest)

abbrev behind_letters : ℕ → List ℕ → Opening
behind_letters b rest = cond (is_digit b) (open_digit b) (behind_digits b rest)

-- ---- the opening of each row

pub opens_letter : (b : ℕ) (rest : List ℕ) → is_letter b ≡ true → opening_of b rest ≡ Shaped Word
opens_letter b rest e = ap (λ v. cond v (Shaped Word) (behind_letters b rest)) e

no_letter : (b : ℕ) → is_digit b ≡ true → is_letter b ≡ false
no_letter b e = let d = in_range 48 57 b e in by_test _ (is_letter b)
    (λ f. absurd (either _ (is_in 65 90 b) (is_in 97 122 b) f (λ g. (let r = in_range 65 90 b g in omega (arith, r.0, d.1)))
    (λ g. (let r = in_range 97 122 b g in omega (arith, r.0, d.1)))))
    (λ f. f)

pub opens_digit : (b : ℕ) (rest : List ℕ) → is_digit b ≡ true → opening_of b rest ≡ open_digit b
opens_digit b rest e = ap (λ v. cond v (Shaped Word) (behind_letters b rest)) (no_letter b e) ∙ ap (λ v. cond v (open_digit b) (behind_digits b rest)) e

pub opens_blank : (b : ℕ) (rest : List ℕ) → is_blank b ≡ true → opening_of b rest ≡ Known (Gap false 1)
opens_blank b rest e = either _ (b == 32) (b == 10) e (at_byte (λ x. opening_of x rest ≡ Known (Gap false 1)) b 32 refl)
    (at_byte (λ x. opening_of x rest ≡ Known (Gap false 1)) b 10 refl)

pub opens_line_end : (b : ℕ) (rest : List ℕ) → (b == 13 && byte_at rest 0 == 10) ≡ true → opening_of b rest ≡ Known (Gap false 2)
opens_line_end b rest e =
    let f = both_true (b == 13) (byte_at rest 0 == 10) e in
    at_byte (λ x. opening_of x rest ≡ Known (Gap false 2)) b 13 (ap (λ v. cond v (Known (Gap false 2)) (behind_ends 13 rest)) f.1) f.0

pub opens_nested : (b : ℕ) (rest : List ℕ) → (b == 35) ≡ true → (byte_at rest 0 == 91) ≡ true → opening_of b rest ≡ Shaped (Nested 0 L.Hash)
opens_nested b rest e f = at_byte (λ x. opening_of x rest ≡ Shaped (Nested 0 L.Hash)) b 35 (ap (λ v. cond v (Shaped (Nested 0 L.Hash)) (Shaped Line)) f) e

pub opens_line : (b : ℕ) (rest : List ℕ) → (b == 35) ≡ true → (byte_at rest 0 == 91) ≡ false → opening_of b rest ≡ Shaped Line
opens_line b rest e f = at_byte (λ x. opening_of x rest ≡ Shaped Line) b 35 (ap (λ v. cond v (Shaped (Nested 0 L.Hash)) (Shaped Line)) f) e

pub opens_char : (b : ℕ) (rest : List ℕ) → (b == 39) ≡ true → opening_of b rest ≡ Shaped (Inside Q.Char None)
opens_char b rest e = at_byte (λ x. opening_of x rest ≡ Shaped (Inside Q.Char None)) b 39 refl e

pub opens_triple : (b : ℕ) (rest : List ℕ) → (b == 34) ≡ true → is_triple rest ≡ true → opening_of b rest ≡ Known (Refused BadLiteral 0)
opens_triple b rest e f = at_byte (λ x. opening_of x rest ≡ Known (Refused BadLiteral 0)) b 34
    (ap (λ v. cond v (Known (Refused BadLiteral 0)) (Shaped (Inside Q.Text None))) f) e

pub opens_text : (b : ℕ) (rest : List ℕ) → (b == 34) ≡ true → is_triple rest ≡ false → opening_of b rest ≡ Shaped (Inside Q.Text None)
opens_text b rest e f = at_byte (λ x. opening_of x rest ≡ Shaped (Inside Q.Text None)) b 34
    (ap (λ v. cond v (Known (Refused BadLiteral 0)) (Shaped (Inside Q.Text None))) f) e

pub opens_quoted : (b : ℕ) (rest : List ℕ) → (b == 96) ≡ true → opening_of b rest ≡ Shaped (Quoted false)
opens_quoted b rest e = at_byte (λ x. opening_of x rest ≡ Shaped (Quoted false)) b 96 refl e

pub pragma_opening : (b : ℕ) (rest : List ℕ) → opens_pragma b rest ≡ true → opening_of b rest ≡ Known (Found T.PragmaOpen 2)
pragma_opening b rest e =
    let f = both_true (b == 123) (byte_at rest 0 == 46 && not (byte_at rest 1 == 46)) e in
    at_byte (λ x. opening_of x rest ≡ Known (Found T.PragmaOpen 2)) b 123
    (ap (λ v. cond v (Known (Found T.PragmaOpen 2)) (Known (Found (T.Punct 123) 1))) f.1) f.0

pub pragma_closing : (b : ℕ) (rest : List ℕ) → (b == 46 && byte_at rest 0 == 125) ≡ true → opening_of b rest ≡ Known (Found T.PragmaClose 2)
pragma_closing b rest e =
    let f = both_true (b == 46) (byte_at rest 0 == 125) e in
    at_byte (λ x. opening_of x rest ≡ Known (Found T.PragmaClose 2)) b 46 (ap (λ v. cond v (Known (Found T.PragmaClose 2)) (open_mark 46)) f.1) f.0

-- a bracket that opens no pragma
abbrev AsBracket : List ℕ → ℕ → Type 0
AsBracket rest b = opens_pragma b rest ≡ false → opening_of b rest ≡ Known (Found (T.Punct b) 1)

pub opens_bracket : (b : ℕ) (rest : List ℕ) → is_bracket b ≡ true → AsBracket rest b
opens_bracket b rest e =
    either _ (b == 40) _ e (at_byte (AsBracket rest) b 40 (λ p. refl)) (λ e. either _ (b == 41) _ e (at_byte (AsBracket rest) b 41 (λ p. refl))
    (λ e. either _ (b == 91) _ e (at_byte (AsBracket rest) b 91 (λ p. refl)) (λ e. either _ (b == 93) _ e (at_byte (AsBracket rest) b 93 (λ p. refl))
    (λ e. either _ (b == 123) _ e (at_byte (AsBracket rest) b 123 (λ p. ap (λ v. cond v (Known (Found T.PragmaOpen 2)) (Known (Found (T.Punct 123) 1))) p))
    (λ e. either _ (b == 125) _ e (at_byte (AsBracket rest) b 125 (λ p. refl))
    (λ e. either _ (b == 44) (b == 59) e (at_byte (AsBracket rest) b 44 (λ p. refl)) (at_byte (AsBracket rest) b 59 (λ p. refl))))))))

not_true : (v : Bool) → not v ≡ true → v ≡ false
not_true true e = cc
not_true false e = refl

true_not : (v : Bool) → v ≡ false → not v ≡ true
true_not v e = ap not e

-- an operator that begins a run
abbrev AsRun : List ℕ → ℕ → Type 0
AsRun rest b = in_run false b (byte_at rest 0) ≡ true → opening_of b rest ≡ Shaped (Single b)

dot_runs : (rest : List ℕ) → AsRun rest 46
dot_runs rest e = ap (λ v. cond v (Known (Found T.PragmaClose 2)) (open_mark 46)) (not_true (byte_at rest 0 == 125) e)

pub opens_run : (b : ℕ) (rest : List ℕ) → is_operator b ≡ true → AsRun rest b
opens_run b rest e =
    let plain = at_byte (AsRun rest) b in
    either _ (b == 61) _ e (plain 61 (λ p. refl)) (λ e. either _ (b == 43) _ e (plain 43 (λ p. refl)) (λ e. either _ (b == 45) _ e (plain 45 (λ p. refl))
    (λ e. either _ (b == 42) _ e (plain 42 (λ p. refl)) (λ e. either _ (b == 47) _ e (plain 47 (λ p. refl)) (λ e. either _ (b == 60) _ e (plain 60 (λ p. refl))
    (λ e. either _ (b == 62) _ e (plain 62 (λ p. refl)) (λ e. either _ (b == 64) _ e (plain 64 (λ p. refl)) (λ e. either _ (b == 36) _ e (plain 36 (λ p. refl))
    (λ e. either _ (b == 126) _ e (plain 126 (λ p. refl))
    (λ e. either _ (b == 38) _ e (plain 38 (λ p. refl)) (λ e. either _ (b == 37) _ e (plain 37 (λ p. refl))
    (λ e. either _ (b == 124) _ e (plain 124 (λ p. refl))
    (λ e. either _ (b == 33) _ e (plain 33 (λ p. refl)) (λ e. either _ (b == 63) _ e (plain 63 (λ p. refl))
    (λ e. either _ (b == 94) _ e (plain 94 (λ p. refl))
    (λ e. either _ (b == 46) _ e (plain 46 (dot_runs rest))
    (λ e. either _ (b == 58) (b == 92) e (plain 58 (λ p. refl)) (plain 92 (λ p. refl)))))))))))))))))))

pub opens_none : (b : ℕ) (rest : List ℕ) → is_first b (byte_at rest 0) ≡ false → opening_of b rest ≡ Known (Refused BadByte 0)
opens_none b rest e =
    let none = Known (Refused BadByte 0) in
    let letter = both_false (is_letter b) _ e in let digit = both_false (is_digit b) _ letter.1 in let blank = both_false (is_blank b) _ digit.1 in
    let end = both_false (b == 13 && byte_at rest 0 == 10) _ blank.1 in let hash = both_false (b == 35) _ end.1 in let char = both_false (b == 39) _ hash.1 in
    let text = both_false (b == 34) _ char.1 in let tick = both_false (b == 96) _ text.1 in let last = both_false (is_bracket b) (is_operator b) tick.1 in
    ap (λ v. cond v (Shaped Word) (behind_letters b rest)) letter.0 ∙ ap (λ v. cond v (open_digit b) (behind_digits b rest)) digit.0
    ∙ ap (λ v. cond v (Known (Gap false 1)) (behind_blanks b rest)) blank.0 ∙ ap (λ v. cond v (Known (Gap false 2)) (behind_ends b rest)) end.0
    ∙ ap (λ v. cond v (open_comment (byte_at rest 0)) (behind_comments b rest)) hash.0
    ∙ ap (λ v. cond v (Shaped (Inside Q.Char None)) (behind_chars b rest)) char.0
    ∙ ap (λ v. cond v (open_text (byte_at rest 0) (byte_at rest 1)) (behind_texts b rest)) text.0
    ∙ ap (λ v. cond v (Shaped (Quoted false)) (behind_ticks b rest)) tick.0
    ∙ ap (λ v. cond v (open_brace (byte_at rest 0) (byte_at rest 1)) (behind_braces b rest)) (unlike is_bracket b 123 refl last.0)
    ∙ ap (λ v. cond (v && byte_at rest 0 == 125) (Known (Found T.PragmaClose 2)) (open_mark b)) (unlike is_operator b 46 refl last.1)
    ∙ ap (λ v. cond v (Known (Found (T.Punct b) 1)) (cond (is_operator b) (Shaped (Single b)) none)) last.0 ∙ ap (λ v. cond v (Shaped (Single b)) none) last.1

-- ---- the rows, by the opening

pub data Opens (b : ℕ) (rest : List ℕ) : Opening → Type 0 where
  letter_opens : is_letter b ≡ true → Opens b rest (Shaped Word)
  zero_opens : is_digit b ≡ true → (b == 48) ≡ true → Opens b rest (Shaped Zero)
  digit_opens : is_digit b ≡ true → (b == 48) ≡ false → Opens b rest (Shaped (Number 10 (b - 48)))
  blank_opens : is_blank b ≡ true → Opens b rest (Known (Gap false 1))
  line_end_opens : (b == 13 && byte_at rest 0 == 10) ≡ true → Opens b rest (Known (Gap false 2))
  nested_opens : (b == 35) ≡ true → (byte_at rest 0 == 91) ≡ true → Opens b rest (Shaped (Nested 0 L.Hash))
  line_opens : (b == 35) ≡ true → (byte_at rest 0 == 91) ≡ false → Opens b rest (Shaped Line)
  char_opens : (b == 39) ≡ true → Opens b rest (Shaped (Inside Q.Char None))
  triple_opens : (b == 34) ≡ true → is_triple rest ≡ true → Opens b rest (Known (Refused BadLiteral 0))
  text_opens : (b == 34) ≡ true → is_triple rest ≡ false → Opens b rest (Shaped (Inside Q.Text None))
  quoted_opens : (b == 96) ≡ true → Opens b rest (Shaped (Quoted false))
  pragma_opens : opens_pragma b rest ≡ true → Opens b rest (Known (Found T.PragmaOpen 2))
  pragma_closes : (b == 46 && byte_at rest 0 == 125) ≡ true → Opens b rest (Known (Found T.PragmaClose 2))
  brace_opens : (b == 123) ≡ true → opens_pragma b rest ≡ false → Opens b rest (Known (Found (T.Punct 123) 1))
  bracket_opens : is_bracket b ≡ true → opens_pragma b rest ≡ false → Opens b rest (Known (Found (T.Punct b) 1))
  run_opens : in_run false b (byte_at rest 0) ≡ true → Opens b rest (Shaped (Single b))
  none_opens : is_first b (byte_at rest 0) ≡ false → Opens b rest (Known (Refused BadByte 0))

-- an operator goes on as a run, unless it closes a pragma
runs : (b next : ℕ) → is_operator b ≡ true → (b == 46 && next == 125) ≡ false → in_run false b next ≡ true
runs b next e f = are_true (is_operator b) (not (b == 46) || (false || not (next == 125))) e (by_test _ (b == 46)
    (λ g. or_right (not (b == 46)) (not (next == 125)) (true_not (next == 125) (sym (ap (λ v. v && next == 125) g) ∙ f)))
    (λ g. or_left (not (b == 46)) (not (next == 125)) (true_not (b == 46) g)))

pub walk : (b : ℕ) (rest : List ℕ) → Opens b rest (opening_of b rest)
walk b rest =
    let is = Opens b rest in let next = byte_at rest 0 in
    by_cond is (is_letter b) (Shaped Word) (behind_letters b rest) letter_opens (λ letter.
    by_cond is (is_digit b) (open_digit b) (behind_digits b rest)
    (λ d. by_cond is (b == 48) (Shaped Zero) (Shaped (Number 10 (b - 48))) (zero_opens d) (digit_opens d)) (λ digit.
    by_cond is (is_blank b) (Known (Gap false 1)) (behind_blanks b rest) blank_opens (λ blank.
    by_cond is (b == 13 && next == 10) (Known (Gap false 2)) (behind_ends b rest) line_end_opens (λ end.
    by_cond is (b == 35) (open_comment next) (behind_comments b rest) (λ h. by_cond is (next == 91) (Shaped (Nested 0 L.Hash)) (Shaped Line) (nested_opens h)
    (line_opens h)) (λ hash.
    by_cond is (b == 39) (Shaped (Inside Q.Char None)) (behind_chars b rest) char_opens (λ char.
    by_cond is (b == 34) (open_text next (byte_at rest 1)) (behind_texts b rest)
    (λ t. by_cond is (is_triple rest) (Known (Refused BadLiteral 0)) (Shaped (Inside Q.Text None)) (triple_opens t) (text_opens t)) (λ text.
    by_cond is (b == 96) (Shaped (Quoted false)) (behind_ticks b rest) quoted_opens (λ tick.
    by_cond is (b == 123) (open_brace next (byte_at rest 1)) (behind_braces b rest)
    (λ brace. by_cond is (next == 46 && not (byte_at rest 1 == 46)) (Known (Found T.PragmaOpen 2)) (Known (Found (T.Punct 123) 1))
    (λ p. pragma_opens (are_true (b == 123) _ brace p)) (λ p. brace_opens brace (ap (λ v. v && (next == 46 && not (byte_at rest 1 == 46))) brace ∙ p)))
    (λ brace.
    by_cond is (b == 46 && next == 125) (Known (Found T.PragmaClose 2)) (open_mark b) pragma_closes (λ closes.
    by_cond is (is_bracket b) (Known (Found (T.Punct b) 1)) (cond (is_operator b) (Shaped (Single b)) (Known (Refused BadByte 0)))
    (λ bracket. bracket_opens bracket (ap (λ v. v && (next == 46 && not (byte_at rest 1 == 46))) brace)) (λ bracket.
    by_cond is (is_operator b) (Shaped (Single b)) (Known (Refused BadByte 0)) (λ operator. run_opens (runs b next operator closes)) (λ operator.
    none_opens (are_false (is_letter b) _ letter
    (are_false (is_digit b) _ digit
    (are_false (is_blank b) _ blank (are_false (b == 13 && next == 10) _ end (are_false (b == 35) _ hash (are_false (b == 39) _ char
    (are_false (b == 34) _ text (are_false (b == 96) _ tick (are_false (is_bracket b) (is_operator b) bracket operator)))))))))))))))))))))
