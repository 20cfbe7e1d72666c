-- What is so of the bytes of each token that a piece is.
use Rattle.std.proofs.Common.{◌≡◌, ℕ, zero, suc, ◌+◌, ◌<◌, ◌≤◌, List, [], ◌∷◌, ◌≢◌, length, take, get_or, Bool, true, false, refl, sym, ap, ◌∙◌, arith}
use Rattle.std.proofs.Common.{length-take-le}
use Rattle.std.specs.Prelude.{Option, Some, None, cond, ◌==◌, ◌&&◌, nat_lt, pos}
use Rattle.std.specs.List.{AllPass}
use Rattle.std.proofs.lemmas.Bool.{eqb-true, le-leb}
use Rattle.arc_base.specs.declared.place.Code.TheVariants.{BadLiteral, IntTooLarge}
use Rattle.indent_scanner.specs.declared.token.Key.{Key}
use Rattle.indent_scanner.specs.declared.token.Tok.{Tok}
use Rattle.indent_scanner.specs.declared.token.Tok.TheVariants as T
use Rattle.indent_scanner.specs.declared.piece.Piece.{Piece}
use Rattle.indent_scanner.specs.declared.piece.Piece.TheVariants.{Gap, Found, Refused}
use Rattle.indent_scanner.specs.Bytes.{byte_at, is_digit, is_bracket, is_operator, is_mark, in_char, in_text}
use Rattle.indent_scanner.specs.Words.{key_of}
use Rattle.indent_scanner.specs.Grammar.{IsName, IsInteger}
use Rattle.indent_scanner.specs.Meaning.{IsOperators, IsSpelled}
use Rattle.indent_scanner.specs.Pieces.{IsRun, word_kind, word_piece, int_piece, run_piece, Checked, clean, stray, FirstPiece, blank_here, line_end_here}
use Rattle.indent_scanner.specs.Pieces.{line_comment_here, nested_comment_here, bad_comment, name_here, bad_name, integer_here, bad_integer, char_here}
use Rattle.indent_scanner.specs.Pieces.{bad_char, text_here, bad_text, triple_quotes, quoted_here, bad_quoted, pragma_opens, pragma_closes, bracket_here}
use Rattle.indent_scanner.specs.Pieces.{run_here, no_piece, Begins}
use Rattle.indent_scanner.proofs.Bools.{by_cond, both_true, are_true, or_left, or_right, not_both, at_byte, pass_none, pass_more}
use Rattle.indent_scanner.proofs.Feeds.{NoFeed, other_byte, pass_feeds, word_feeds, numeral_feeds, char_feeds, text_feeds, quoted_feeds}

-- the bytes of a token: they are there, hold no line feed, and are of its kind
pub record IsToken (kind : Tok) (n : ℕ) (bytes : List ℕ) : Type 0 where
  pub inside : n ≤ length bytes
  pub no_feed : NoFeed (take n bytes)
  pub spelled : IsSpelled kind (take n bytes)

abbrev pub Holds : Piece → List ℕ → Type 0
Holds (Gap comment n) bytes = n ≤ length bytes
Holds (Found kind n) bytes = IsToken kind n bytes
Holds (Refused code k) bytes = Unit {0}

if_holds : (bytes : List ℕ) (v : Bool) (p q : Piece) → (v ≡ true → Holds p bytes) → (v ≡ false → Holds q bytes) → Holds (cond v p q) bytes
if_holds bytes v p q x y = by_cond (λ z. Holds z bytes) v p q x y

checked_holds : (may : ℕ → ℕ → Bool) (n : ℕ) (bytes : List ℕ) (whole p : Piece) → Holds whole bytes → Checked may n bytes whole p → Holds p bytes
checked_holds may n bytes whole _ h (clean all) = h
checked_holds may n bytes whole _ h (stray k lt is before) = tt

-- each of the first n bytes passes
front_passes : (test : ℕ → Bool) (n : ℕ) (bytes : List ℕ) → ((k : ℕ) → k < n → test (get_or bytes k 0) ≡ true) → AllPass test (take n bytes)
front_passes test zero bytes all = pass_none test
front_passes test (suc n) [] all = pass_none test
front_passes test (suc n) (b ∷ bytes) all = pass_more test b (take n bytes) (all zero (omega arith))
    (front_passes test n bytes (λ k lt. all (suc k) (omega (arith, lt))))

clean_holds : (test : ℕ → Bool) (kind : Tok) (n : ℕ) (bytes : List ℕ) (p : Piece) → (AllPass test (take n bytes) → IsToken kind n bytes)
    → Checked (λ c next. test c) n bytes (Found kind n) p → Holds p bytes
clean_holds test kind n bytes _ h (clean all) = h (front_passes test n bytes all)
clean_holds test kind n bytes _ h (stray k lt is before) = tt

-- ---- words and integers

kind_spelled : (bytes : List ℕ) (o : Option Key) → key_of bytes ≡ o → IsName bytes → IsSpelled (word_kind o) bytes
kind_spelled bytes None e name = (name, e)
kind_spelled bytes (Some key) e name = (name, e)

word_holds : (n : ℕ) (bytes : List ℕ) → n ≤ length bytes → NoFeed (take n bytes) → IsName (take n bytes) → Holds (word_piece n bytes) bytes
word_holds n bytes le feeds name = if_holds bytes (byte_at bytes n == 34) (Refused BadLiteral n) (Found (word_kind (key_of (take n bytes))) n) (λ e. tt)
    (λ e. record { inside = le; no_feed = feeds; spelled = kind_spelled (take n bytes) (key_of (take n bytes)) refl name })

at_most : (value : ℕ) → nat_lt 2147483647 value ≡ false → value ≤ 2147483647
at_most value e = grind (arith, e, le-leb)

int_holds : (value n : ℕ) (bytes : List ℕ) → n ≤ length bytes → NoFeed (take n bytes) → IsInteger (take n bytes) value → Holds (int_piece value n bytes) bytes
int_holds value n bytes le feeds integer =
    if_holds bytes (byte_at bytes n == 46 && is_digit (byte_at bytes (n + 1))) (Refused BadLiteral 0)
    (cond (nat_lt 2147483647 value) (Refused IntTooLarge 0) (Found (T.Int (pos value)) n)) (λ e. tt)
    (λ e. if_holds bytes (nat_lt 2147483647 value) (Refused IntTooLarge 0) (Found (T.Int (pos value)) n) (λ f. tt)
    (λ f. record { inside = le; no_feed = feeds; spelled = (value, integer, at_most value f, refl) }))

-- ---- runs

past : (bytes : List ℕ) (k : ℕ) → length bytes ≤ k → get_or bytes k 0 ≡ 0
past [] k le = refl
past (b ∷ bytes) zero le = (let f : ⊥ = omega arith in absurd f)
past (b ∷ bytes) (suc k) le = past bytes k (omega arith)

-- each place below n has an operator, so it is one of the bytes
operators_inside : (n : ℕ) (bytes : List ℕ) → ((k : ℕ) → k < n → is_operator (get_or bytes k 0) ≡ true) → n ≤ length bytes
operators_inside zero bytes all = omega arith
operators_inside (suc n) [] all = (let e = all zero (omega arith) in let f : ⊥ = cc in absurd f)
operators_inside (suc n) (b ∷ bytes) all = let le = operators_inside n bytes (λ k lt. all (suc k) (omega (arith, lt))) in omega (arith, le)

run_operators : (n : ℕ) (bytes : List ℕ) → IsRun bytes n → (k : ℕ) → k < n → is_operator (get_or bytes k 0) ≡ true
run_operators n bytes r k lt = (both_true (is_operator (get_or bytes k 0)) _ (r.each k lt)).0

-- the first bytes of a run, so many
front_holds : (n m b : ℕ) (rest : List ℕ) → IsRun (b ∷ rest) n → m ≤ n
    → (AllPass is_operator (take m (b ∷ rest)) → m ≤ length (b ∷ rest) → IsOperators (take m (b ∷ rest))) → IsToken T.Op m (b ∷ rest)
front_holds n m b rest r le spelled =
    let all : (k : ℕ) → k < m → is_operator (get_or (b ∷ rest) k 0) ≡ true = λ k lt. run_operators n (b ∷ rest) r k (omega (arith, lt, le)) in
    let pass = front_passes is_operator m (b ∷ rest) all in let inside = operators_inside m (b ∷ rest) all in
    record { inside = inside; no_feed = pass_feeds is_operator refl (take m (b ∷ rest)) pass; spelled = spelled pass inside }

front_some : (n b : ℕ) (rest : List ℕ) → 1 ≤ n → take n (b ∷ rest) ≢ []
front_some zero b rest le same = omega arith
front_some (suc n) b rest le same = (let k = ap length same in omega (arith, k))

star_alone : (b : ℕ) → (b == 42) ≡ true → AllPass is_operator (b ∷ []) → IsOperators (b ∷ [])
star_alone b star pass = record {
  operators = pass;
  some = λ same. (let k = ap length same in omega (arith, k));
  no_mark = λ c mark same. not_both (is_mark c) mark (ap is_mark (sym (ap (λ x. get_or x 0 0) same)) ∙ at_byte (λ x. is_mark x ≡ false) b 42 refl star);
  no_star_colon = λ same. (let k = ap length same in omega (arith, k));
}

run_no_mark : (n b : ℕ) (rest : List ℕ) → n ≤ length (b ∷ rest) → (n == 1 && is_mark b) ≡ false → (c : ℕ) → is_mark c ≡ true → take n (b ∷ rest) ≢ c ∷ []
run_no_mark zero b rest le other c mark same = (let k = ap length same in omega (arith, k))
run_no_mark (suc n) b rest le other c mark same =
    let long = length-take-le (suc n) (b ∷ rest) le in let k = ap length same in
    let one : suc n ≡ 1 = omega (arith, long, k) in
    not_both (suc n == 1 && is_mark b) (are_true (suc n == 1) (is_mark b) (ap (λ x. x == 1) one) (ap is_mark (ap (λ x. get_or x 0 0) same) ∙ mark)) other

run_no_star_colon : (n b : ℕ) (rest : List ℕ) → n ≤ length (b ∷ rest) → (n == 2 && (b == 42 && byte_at rest 0 == 58)) ≡ false → take n (b ∷ rest) ≢ 42 ∷ 58 ∷ []
run_no_star_colon zero b rest le other same = (let k = ap length same in omega (arith, k))
run_no_star_colon (suc zero) b rest le other same = (let k = ap length same in omega (arith, k))
run_no_star_colon (suc (suc n)) b [] le other same = omega arith
run_no_star_colon (suc (suc n)) b (c ∷ rest) le other same =
    let long = length-take-le (suc (suc n)) (b ∷ c ∷ rest) le in let k = ap length same in
    let two : suc (suc n) ≡ 2 = omega (arith, long, k) in
    let pair = are_true (b == 42) (c == 58) (ap (λ x. get_or x 0 0 == 42) same) (ap (λ x. get_or x 1 0 == 58) same) in
    not_both _ (are_true (suc (suc n) == 2) (b == 42 && c == 58) (ap (λ x. x == 2) two) pair) other

run_holds : (n b : ℕ) (rest : List ℕ) → IsRun (b ∷ rest) n → Holds (run_piece n (b ∷ rest)) (b ∷ rest)
run_holds n b rest r =
    let all = b ∷ rest in let some = r.some in let last = Found T.Op n in
    if_holds all (n == 1 && is_mark b) (Found (T.Punct b) 1) (cond (n == 2 && (b == 42 && byte_at all 1 == 58)) (Found T.Op 1) last)
    (λ e. record {
      inside = omega arith;
      no_feed = (other_byte is_operator b refl (run_operators n all r 0 (omega (arith, some))), tt);
      spelled = (or_right (is_bracket b) (is_mark b) (both_true (n == 1) _ e).1, refl);
    })
    (λ e. if_holds all (n == 2 && (b == 42 && byte_at all 1 == 58)) (Found T.Op 1) last
    (λ f. front_holds n 1 b rest r some (λ pass inside. star_alone b (both_true (b == 42) _ (both_true (n == 2) _ f).1).0 pass))
    (λ f. front_holds n n b rest r (omega arith)
    (λ pass inside. record {
      operators = pass;
      some = front_some n b rest some;
      no_mark = run_no_mark n b rest inside e;
      no_star_colon = run_no_star_colon n b rest inside f;
    })))

-- ---- two bytes

second_there : (rest : List ℕ) (k : ℕ) → (get_or rest 0 0 == suc k) ≡ true → 2 ≤ suc (length rest)
second_there [] k e = (let f = eqb-true 0 (suc k) e in let g : ⊥ = omega (arith, f) in absurd g)
second_there (c ∷ rest) k e = omega arith

pair_holds : (kind : Tok) (b x y : ℕ) (rest : List ℕ) → (b == x) ≡ true → (get_or rest 0 0 == suc y) ≡ true → (x == 10) ≡ false → (suc y == 10) ≡ false
    → IsSpelled kind (x ∷ suc y ∷ []) → IsToken kind 2 (b ∷ rest)
pair_holds kind b x y [] e f g h spelled = (let n = eqb-true 0 (suc y) f in let k : ⊥ = omega (arith, n) in absurd k)
pair_holds kind b x y (c ∷ rest) e f g h spelled = record {
  inside = omega arith;
  no_feed = (at_byte (λ z. (z == 10) ≡ false) b x g e, (at_byte (λ z. (z == 10) ≡ false) c (suc y) h f, tt));
  spelled = at_byte (λ z. IsSpelled kind (z ∷ c ∷ [])) b x (at_byte (λ z. IsSpelled kind (x ∷ z ∷ [])) c (suc y) spelled f) e;
}

-- ---- all rows

row_holds : (b : ℕ) (rest : List ℕ) (p : Piece) → FirstPiece b rest p → Holds p (b ∷ rest)
row_holds b rest _ (blank_here e) = omega arith
row_holds b rest _ (line_end_here e) = second_there rest 9 (both_true (b == 13) _ e).1
row_holds b rest _ (line_comment_here n next l) = l.holds.inside
row_holds b rest p (nested_comment_here n l c) = checked_holds _ n (b ∷ rest) (Gap true n) p l.holds.inside c
row_holds b rest _ (bad_comment e none) = tt
row_holds b rest _ (name_here n l name) = word_holds n (b ∷ rest) l.holds.inside (word_feeds (take n (b ∷ rest)) l.holds.whole) name
row_holds b rest _ (bad_name n l bad) = tt
row_holds b rest _ (integer_here n value l integer) = int_holds value n (b ∷ rest) l.holds.inside (numeral_feeds (take n (b ∷ rest)) l.holds.whole) integer
row_holds b rest _ (bad_integer n l bad) = tt
row_holds b rest p (char_here n value l char c) = clean_holds in_char (T.Char value) n (b ∷ rest) p
    (λ all. record { inside = l.holds.inside; no_feed = char_feeds (take n (b ∷ rest)) l.holds.whole; spelled = (char, all) }) c
row_holds b rest _ (bad_char quote none) = tt
row_holds b rest p (text_here n single l c) = clean_holds in_text T.Text n (b ∷ rest) p
    (λ all. record { inside = l.holds.inside; no_feed = text_feeds (take n (b ∷ rest)) l.holds.whole; spelled = (l.holds.whole, all) }) c
row_holds b rest _ (bad_text quote none) = tt
row_holds b rest _ (triple_quotes quote triple) = tt
row_holds b rest _ (quoted_here n l) = record { inside = l.holds.inside; no_feed = quoted_feeds (take n (b ∷ rest)) l.holds.whole; spelled = l.holds.whole }
row_holds b rest _ (bad_quoted quote none) = tt
row_holds b rest _ (pragma_opens e) =
    let f = both_true (b == 123) _ e in
    pair_holds T.PragmaOpen b 123 45 rest f.0 (both_true (byte_at rest 0 == 46) _ f.1).0 refl refl refl
row_holds b rest _ (pragma_closes e) = let f = both_true (b == 46) _ e in pair_holds T.PragmaClose b 46 124 rest f.0 f.1 refl refl refl
row_holds b rest _ (bracket_here e none) =
    record { inside = omega arith; no_feed = (other_byte is_bracket b refl e, tt); spelled = (or_left (is_bracket b) (is_mark b) e, refl) }
row_holds b rest _ (run_here n l) = run_holds n b rest l.holds
row_holds b rest _ (no_piece e) = tt

pub begins_holds : (bytes : List ℕ) (p : Piece) → Begins bytes p → Holds p bytes
begins_holds [] p x = absurd x
begins_holds (b ∷ rest) p x = row_holds b rest p x
