-- The pieces of the table are those that the forms tell.
use Rattle.std.proofs.Common.{◌≡◌, ℕ, zero, suc, ◌+◌, ◌-◌, ◌<◌, inl, inr, List, [], ◌∷◌, take, get_or}
use Rattle.std.proofs.Common.{true, false, refl, sym, ap, subst, ◌∙◌, arith}
use Rattle.std.specs.Prelude.{Option, Some, None, cond, nat_lt, pos, ◌==◌, ◌&&◌}
use Rattle.std.proofs.lemmas.Bool.{eqb-true, leb-true, le-leb}
use Rattle.arc_base.specs.declared.place.Code.TheVariants.{BadByte, BadLiteral, IntTooLarge}
use Rattle.indent_scanner.specs.declared.token.Tok.TheVariants as T
use Rattle.indent_scanner.specs.declared.shape.Quote.TheVariants as Q
use Rattle.indent_scanner.specs.declared.shape.Last.TheVariants as L
use Rattle.indent_scanner.specs.declared.shape.Shape.{Shape}
use Rattle.indent_scanner.specs.declared.shape.Shape.TheVariants.{Word, WordUnder, BrokenWord, Zero, Number, NumberUnder, BrokenNumber, Inside, CharWhole}
use Rattle.indent_scanner.specs.declared.shape.Shape.TheVariants.{TextWhole, Quoted, Line, Nested, NestedWhole, Single}
use Rattle.indent_scanner.specs.declared.piece.Piece.{Piece}
use Rattle.indent_scanner.specs.declared.piece.Piece.TheVariants.{Gap, Found, Refused}
use Rattle.indent_scanner.specs.declared.piece.Opening.{Opening}
use Rattle.indent_scanner.specs.declared.piece.Opening.TheVariants.{Known, Shaped}
use Rattle.indent_scanner.specs.Bytes.{byte_at, is_letter, is_digit, is_word, is_line_byte, is_bracket, is_operator, in_char, in_text, in_comment, in_run}
use Rattle.indent_scanner.specs.Grammar.{IsWord, IsName, IsNumeral, IsInteger, SomeChar, IsChar, a_char, SomeText, IsText, a_text, IsQuoted, IsLineComment}
use Rattle.indent_scanner.specs.Grammar.{IsNestedComment, nested_comment}
use Rattle.indent_scanner.specs.Shape.{form, is_whole}
use Rattle.indent_scanner.specs.Pieces.{Front, Longest, behind_dot, IsRun, word_piece, int_piece, run_piece, Checked, is_triple, opens_pragma, FirstPiece}
use Rattle.indent_scanner.specs.Pieces.{blank_here, line_end_here, line_comment_here, nested_comment_here, bad_comment, name_here, bad_name, integer_here}
use Rattle.indent_scanner.specs.Pieces.{bad_integer, char_here, bad_char, text_here, bad_text, triple_quotes, quoted_here, bad_quoted, pragma_opens}
use Rattle.indent_scanner.specs.Pieces.{pragma_closes, bracket_here, run_here, no_piece, Begins}
use Rattle.indent_scanner.specs.ByForm.{open_digit, opening_of, stray_in, if_clean, piece_of, code_of, Takes}
use Rattle.indent_scanner.proofs.Bools.{by_test, both_true, are_true, at_byte, pass_none}
use Rattle.indent_scanner.proofs.Fronts.{some_same}
use Rattle.indent_scanner.proofs.Matches.{Matches, longest_from, longest_to, none_from, none_to}
use Rattle.indent_scanner.proofs.Checks.{checked_from, checked_is}
use Rattle.indent_scanner.proofs.WordFronts.{IsWordForm, word_matches, word_form, name_of_form, form_of_name, line_matches, line_form, IsNumberForm}
use Rattle.indent_scanner.proofs.WordFronts.{number_matches, number_form, value_in, Starts, zero_first, other_first, starts_number, integer_to, integer_from}
use Rattle.indent_scanner.proofs.ClosedFronts.{char_reads, reads_char, char_matches, char_form, text_matches, text_form, quoted_matches, quoted_form}
use Rattle.indent_scanner.proofs.ClosedFronts.{nested_matches, nested_form}
use Rattle.indent_scanner.proofs.RunFronts.{run_matches, run_is}
use Rattle.indent_scanner.proofs.GrammarIntegers.{cap}
use Rattle.indent_scanner.proofs.Openings as O
use Rattle.indent_scanner.proofs.Beginnings.{ByForm, takes_once}

-- ---- fronts that are whole, and forms

takes_front : (P : ℕ → Type 0) (s : Shape) (b : ℕ) (rest : List ℕ) (n : ℕ) (p : Piece) → Matches P s rest → Longest P n
    → ((k : ℕ) (t : Shape) → n ≡ suc k → form s k rest ≡ Some t → is_whole t ≡ true → p ≡ piece_of t (suc k) (b ∷ rest))
    → Takes (Shaped s) b rest p
takes_front P s b rest n p m l tells = let r = longest_to P s rest m n l in inl (r.0, r.1, r.3, (let f = r.3 in tells r.0 r.1 r.2 f.reached f.whole))

takes_none : (P : ℕ → Type 0) (s : Shape) (b : ℕ) (rest : List ℕ) (p : Piece) → Matches P s rest → ((n : ℕ) → P n → ⊥)
    → p ≡ Refused (code_of s) 0
    → Takes (Shaped s) b rest p
takes_none P s b rest p m no_front e = inr (none_to P s rest m no_front, e)

from_takes : (P : ℕ → Type 0) (s : Shape) (b : ℕ) (rest : List ℕ) (p : Piece) → Matches P s rest
    → ((k : ℕ) (t : Shape) → Longest P (suc k) → form s k rest ≡ Some t → is_whole t ≡ true
    → FirstPiece b rest (piece_of t (suc k) (b ∷ rest)))
    → (((n : ℕ) → P n → ⊥) → FirstPiece b rest (Refused (code_of s) 0)) → Takes (Shaped s) b rest p → FirstPiece b rest p
from_takes P s b rest p m some none (inl x) = subst (FirstPiece b rest) (sym x.3)
    (let f = x.2 in some x.0 x.1 (longest_from P s rest m x.0 x.1 f) f.reached f.whole)
from_takes P s b rest p m some none (inr x) = subst (FirstPiece b rest) (sym x.1) (none (none_from P s rest m x.0))

shaped : (b : ℕ) (rest : List ℕ) (p : Piece) (s : Shape) → opening_of b rest ≡ Shaped s → Takes (Shaped s) b rest p → ByForm (b ∷ rest) p
shaped b rest p s e x = subst (λ o. Takes o b rest p) (sym e) x

known : (b : ℕ) (rest : List ℕ) (p : Piece) → opening_of b rest ≡ Known p → ByForm (b ∷ rest) p
known b rest p e = subst (λ o. Takes o b rest p) (sym e) refl

-- a front of one byte
one_front : (Whole : List ℕ → Type 0) (b : ℕ) (rest : List ℕ) → Whole (b ∷ []) → Front Whole (b ∷ rest) 1
one_front Whole b rest w = record { inside = omega arith; whole = w }

-- ---- the first byte of a front

pub word_first : (b n : ℕ) (rest : List ℕ) → Front IsWord (b ∷ rest) n → is_letter b ≡ true
word_first b zero rest f = absurd f.whole
word_first b (suc n) rest f = let w = f.whole in w.0

pub numeral_first : (b n : ℕ) (rest : List ℕ) → Front IsNumeral (b ∷ rest) n → is_digit b ≡ true
numeral_first b zero rest f = absurd f.whole
numeral_first b (suc n) rest f = let w = f.whole in w.0

pub line_first : (b n : ℕ) (rest : List ℕ) → Front IsLineComment (b ∷ rest) n → (b == 35) ≡ true
line_first b zero rest f = absurd f.whole
line_first b (suc n) rest f = let w = f.whole in w.0

same_byte : (b k : ℕ) (xs ys : List ℕ) → k ∷ xs ≡ b ∷ ys → (k == k) ≡ true → (b == k) ≡ true
same_byte b k xs ys e f = let same : k ≡ b = cc in ap (λ x. x == k) (sym same) ∙ f

char_head : (b value : ℕ) (rest whole : List ℕ) → whole ≡ b ∷ rest → IsChar whole value → (b == 39) ≡ true
char_head b value rest _ e (a_char _ bytes c) = same_byte b 39 bytes rest e refl

no_char : (value : ℕ) (whole : List ℕ) → whole ≡ [] → IsChar whole value → ⊥
no_char value _ e (a_char _ bytes c) = cc

pub char_first : (b n : ℕ) (rest : List ℕ) → Front SomeChar (b ∷ rest) n → (b == 39) ≡ true
char_first b zero rest f = (let w = f.whole in absurd (no_char w.0 [] refl w.1))
char_first b (suc n) rest f = let w = f.whole in char_head b w.0 (take n rest) (b ∷ take n rest) refl w.1

text_head : (b : ℕ) (values rest whole : List ℕ) → whole ≡ b ∷ rest → IsText whole values → (b == 34) ≡ true
text_head b values rest _ e (a_text bytes _ t) = same_byte b 34 bytes rest e refl

no_text : (values whole : List ℕ) → whole ≡ [] → IsText whole values → ⊥
no_text values _ e (a_text bytes _ t) = cc

pub text_first : (b n : ℕ) (rest : List ℕ) → Front SomeText (b ∷ rest) n → (b == 34) ≡ true
text_first b zero rest f = (let w = f.whole in absurd (no_text w.0 [] refl w.1))
text_first b (suc n) rest f = let w = f.whole in text_head b w.0 (take n rest) (b ∷ take n rest) refl w.1

pub quoted_first : (b n : ℕ) (rest : List ℕ) → Front IsQuoted (b ∷ rest) n → (b == 96) ≡ true
quoted_first b zero rest f = (let w = f.whole in let e = w.is in let g : ⊥ = cc in absurd g)
quoted_first b (suc n) rest f = let w = f.whole in same_byte b 96 _ (take n rest) (sym w.is) refl

nested_head : (b : ℕ) (rest whole : List ℕ) → whole ≡ b ∷ rest → IsNestedComment whole
    → ((b == 35) ≡ true) × ((get_or rest 0 0 == 91) ≡ true)
nested_head b rest _ e (nested_comment bytes h) =
    let tail : 91 ∷ bytes ≡ rest = cc in
    (same_byte b 35 (91 ∷ bytes) rest e refl, ap (λ x. get_or x 0 0 == 91) (sym tail))

no_nested : (whole : List ℕ) → whole ≡ [] → IsNestedComment whole → ⊥
no_nested _ e (nested_comment bytes h) = cc

head_of_take : (n : ℕ) (rest : List ℕ) → (get_or (take n rest) 0 0 == 91) ≡ true → (get_or rest 0 0 == 91) ≡ true
head_of_take zero rest e = (let f : ⊥ = cc in absurd f)
head_of_take (suc n) [] e = e
head_of_take (suc n) (b ∷ rest) e = e

pub nested_first : (b n : ℕ) (rest : List ℕ) → Front IsNestedComment (b ∷ rest) n → ((b == 35) ≡ true) × ((get_or rest 0 0 == 91) ≡ true)
nested_first b zero rest f = absurd (no_nested [] refl f.whole)
nested_first b (suc n) rest f = let h = nested_head b (take n rest) (b ∷ take n rest) refl f.whole in (h.0, head_of_take n rest h.1)

-- ---- words

word_no_name : (n k : ℕ) (b : ℕ) (rest : List ℕ) (t : Shape) → IsWordForm t → (t ≡ Word → ⊥) → Refused BadByte 0 ≡ piece_of t n (b ∷ rest)
word_no_name n k b rest Word is other = absurd (other refl)
word_no_name n k b rest WordUnder is other = refl
word_no_name n k b rest BrokenWord is other = refl
word_no_name n k b rest _ is other = absurd is

name_by_form : (b n : ℕ) (rest : List ℕ) → Longest (Front IsWord (b ∷ rest)) n → IsName (take n (b ∷ rest))
    → ByForm (b ∷ rest) (word_piece n (b ∷ rest))
name_by_form b n rest l name =
    let letter = word_first b n rest l.holds in
    shaped b rest _ Word (O.opens_letter b rest letter)
    (takes_front (Front IsWord (b ∷ rest)) Word b rest n _ (word_matches b rest letter) l
    (λ k t is e w. let le = l.holds.inside in
    let f = form_of_name k rest (omega (arith, le, is)) (subst (λ x. IsName (take x (b ∷ rest))) is name).1 in
    ap (λ x. word_piece x (b ∷ rest)) is ∙ sym (ap (λ x. piece_of x (suc k) (b ∷ rest)) (some_same _ e f))))

bad_name_by_form : (b n : ℕ) (rest : List ℕ) → Longest (Front IsWord (b ∷ rest)) n → (IsName (take n (b ∷ rest)) → ⊥)
    → ByForm (b ∷ rest) (Refused BadByte 0)
bad_name_by_form b n rest l bad =
    let letter = word_first b n rest l.holds in
    shaped b rest _ Word (O.opens_letter b rest letter)
    (takes_front (Front IsWord (b ∷ rest)) Word b rest n _ (word_matches b rest letter) l
    (λ k t is e w. word_no_name (suc k) k b rest t (word_form k rest t e)
    (λ same. bad (subst (λ x. IsName (take x (b ∷ rest))) (sym is) (letter, name_of_form k rest (e ∙ ap (λ x. Some x) same))))))

word_here : (b k : ℕ) (rest : List ℕ) (t : Shape) → is_letter b ≡ true → IsWordForm t → Longest (Front IsWord (b ∷ rest)) (suc k)
    → form Word k rest ≡ Some t
    → FirstPiece b rest (piece_of t (suc k) (b ∷ rest))
word_here b k rest Word letter is l e = name_here (suc k) l (letter, name_of_form k rest e)
word_here b k rest WordUnder letter is l e =
    bad_name (suc k) l (λ name. (let le = l.holds.inside in let f = form_of_name k rest (omega (arith, le)) name.1 in let g : ⊥ = cc in g))
word_here b k rest BrokenWord letter is l e =
    bad_name (suc k) l (λ name. (let le = l.holds.inside in let f = form_of_name k rest (omega (arith, le)) name.1 in let g : ⊥ = cc in g))
word_here b k rest _ letter is l e = absurd is

from_word : (b : ℕ) (rest : List ℕ) (p : Piece) → is_letter b ≡ true → Takes (Shaped Word) b rest p → FirstPiece b rest p
from_word b rest p letter x = from_takes (Front IsWord (b ∷ rest)) Word b rest p (word_matches b rest letter)
    (λ k t l e w. word_here b k rest t letter (word_form k rest t e) l e)
    (λ none. absurd (none 1 (one_front IsWord b rest (letter, pass_none is_word)))) x

-- ---- integers

starting : (b : ℕ) → (s : Shape) × Starts b s × (open_digit b ≡ Shaped s)
starting b = by_test _ (b == 48)
    (λ e. (Zero, zero_first e, ap (λ v. cond v (Shaped Zero) (Shaped (Number 10 (b - 48)))) e))
    (λ e. (Number 10 (b - 48), other_first e, ap (λ v. cond v (Shaped Zero) (Shaped (Number 10 (b - 48)))) e))

-- what the piece says beside a fraction
abbrev sized : ℕ → ℕ → Piece
sized value n = cond (nat_lt 2147483647 value) (Refused IntTooLarge 0) (Found (T.Int (pos value)) n)

size_capped : (value n : ℕ) → sized value n ≡ sized (cap value) n
size_capped value n = by_test _ (nat_lt 2147483647 value)
    (λ e. let large = leb-true 2147483648 value e in
    let capped : cap value ≡ 2147483648 = omega (arith, large) in
    ap (λ v. cond v (Refused IntTooLarge 0) (Found (T.Int (pos value)) n)) e ∙ sym (ap (λ x. sized x n) capped))
    (λ e. ap (λ x. sized x n) (sym (small e)))
  where
    small : nat_lt 2147483647 value ≡ false → cap value ≡ value
    small e = grind (arith, e, le-leb)

int_capped : (value n : ℕ) (bytes : List ℕ) → int_piece value n bytes ≡ int_piece (cap value) n bytes
int_capped value n bytes = ap (λ x. cond (byte_at bytes n == 46 && is_digit (byte_at bytes (n + 1))) (Refused BadLiteral 0) x) (size_capped value n)

number_piece : (t : Shape) (got n : ℕ) (bytes : List ℕ) → IsNumberForm t → value_in t ≡ Some got → piece_of t n bytes ≡ int_piece got n bytes
number_piece Zero got n bytes is e = let same : 0 ≡ got = cc in ap (λ x. int_piece x n bytes) same
number_piece (Number base value) got n bytes is e = let same : value ≡ got = cc in ap (λ x. int_piece x n bytes) same
number_piece (NumberUnder base value) got n bytes is e = (let f : ⊥ = cc in absurd f)
number_piece BrokenNumber got n bytes is e = (let f : ⊥ = cc in absurd f)
number_piece _ got n bytes is e = absurd is

number_none : (t : Shape) (n : ℕ) (bytes : List ℕ) → IsNumberForm t → value_in t ≡ None → piece_of t n bytes ≡ Refused BadLiteral 0
number_none Zero n bytes is e = (let f : ⊥ = cc in absurd f)
number_none (Number base value) n bytes is e = (let f : ⊥ = cc in absurd f)
number_none (NumberUnder base value) n bytes is e = refl
number_none BrokenNumber n bytes is e = refl
number_none _ n bytes is e = absurd is

integer_by_form : (b n value : ℕ) (rest : List ℕ) → Longest (Front IsNumeral (b ∷ rest)) n → IsInteger (take n (b ∷ rest)) value
    → ByForm (b ∷ rest) (int_piece value n (b ∷ rest))
integer_by_form b n value rest l integer =
    let digit = numeral_first b n rest l.holds in let s = starting b in let number = starts_number b s.0 s.1 in
    shaped b rest _ s.0 (O.opens_digit b rest digit ∙ s.2)
    (takes_front (Front IsNumeral (b ∷ rest)) s.0 b rest n _ (number_matches b rest s.0 digit number) l
    (λ k t is e w. let told = integer_to b value k rest s.0 t digit s.1 e (subst (λ x. IsInteger (take x (b ∷ rest)) value) is integer) in
    ap (λ x. int_piece value x (b ∷ rest)) is ∙ int_capped value (suc k) (b ∷ rest)
    ∙ sym (number_piece t (cap value) (suc k) (b ∷ rest) (number_form k rest s.0 t number e) told)))

bad_number : (b k : ℕ) (rest : List ℕ) (s t : Shape) (o : Option ℕ) → value_in t ≡ o → is_digit b ≡ true → Starts b s
    → IsNumberForm t → form s k rest ≡ Some t
    → ((value : ℕ) → IsInteger (b ∷ take k rest) value → ⊥) → Refused BadLiteral 0 ≡ piece_of t (suc k) (b ∷ rest)
bad_number b k rest s t None told digit starts number e bad = sym (number_none t (suc k) (b ∷ rest) number told)
bad_number b k rest s t (Some got) told digit starts number e bad = let h = integer_from b got k rest s t digit starts e told in absurd (bad h.0 h.1)

bad_integer_by_form : (b n : ℕ) (rest : List ℕ) → Longest (Front IsNumeral (b ∷ rest)) n
    → ((value : ℕ) → IsInteger (take n (b ∷ rest)) value → ⊥)
    → ByForm (b ∷ rest) (Refused BadLiteral 0)
bad_integer_by_form b n rest l bad =
    let digit = numeral_first b n rest l.holds in let s = starting b in let number = starts_number b s.0 s.1 in
    shaped b rest _ s.0 (O.opens_digit b rest digit ∙ s.2)
    (takes_front (Front IsNumeral (b ∷ rest)) s.0 b rest n _ (number_matches b rest s.0 digit number) l
    (λ k t is e w. bad_number b k rest s.0 t (value_in t) refl digit s.1 (number_form k rest s.0 t number e) e
    (λ value integer. bad value (subst (λ x. IsInteger (take x (b ∷ rest)) value) (sym is) integer))))

number_here : (b k : ℕ) (rest : List ℕ) (s t : Shape) (o : Option ℕ) → value_in t ≡ o → is_digit b ≡ true → Starts b s → IsNumberForm t
    → Longest (Front IsNumeral (b ∷ rest)) (suc k) → form s k rest ≡ Some t → FirstPiece b rest (piece_of t (suc k) (b ∷ rest))
number_here b k rest s t (Some got) told digit starts number l e =
    let h = integer_from b got k rest s t digit starts e told in
    subst (FirstPiece b rest) (int_capped h.0 (suc k) (b ∷ rest) ∙ ap (λ x. int_piece x (suc k) (b ∷ rest)) (sym h.2)
    ∙ sym (number_piece t got (suc k) (b ∷ rest) number told)) (integer_here (suc k) h.0 l h.1)
number_here b k rest s t None told digit starts number l e =
    subst (FirstPiece b rest) (sym (number_none t (suc k) (b ∷ rest) number told)) (bad_integer (suc k) l
    (λ value integer. (let f = integer_to b value k rest s t digit starts e integer in let g : ⊥ = cc in g)))

from_number : (b : ℕ) (rest : List ℕ) (p : Piece) (s : Shape) → is_digit b ≡ true → Starts b s → Takes (Shaped s) b rest p → FirstPiece b rest p
from_number b rest p s digit starts x =
    let number = starts_number b s starts in
    from_takes (Front IsNumeral (b ∷ rest)) s b rest p (number_matches b rest s digit number)
    (λ k t l e w. number_here b k rest s t (value_in t) refl digit starts (number_form k rest s t number e) l e)
    (λ none. absurd (none 1 (one_front IsNumeral b rest (digit, pass_none is_word)))) x

-- ---- comments

line_by_form : (b n : ℕ) (rest : List ℕ) → (byte_at rest 0 == 91) ≡ false → Longest (Front IsLineComment (b ∷ rest)) n
    → ByForm (b ∷ rest) (Gap true n)
line_by_form b n rest next l =
    let hash = line_first b n rest l.holds in
    shaped b rest _ Line (O.opens_line b rest hash next)
    (takes_front (Front IsLineComment (b ∷ rest)) Line b rest n _ (line_matches b rest hash) l
    (λ k t is e w. ap (λ x. Gap true x) is ∙ sym (ap (λ x. piece_of x (suc k) (b ∷ rest)) (line_form k rest t e))))

line_here : (b k : ℕ) (rest : List ℕ) (t : Shape) → (byte_at rest 0 == 91) ≡ false → Longest (Front IsLineComment (b ∷ rest)) (suc k) → t ≡ Line
    → FirstPiece b rest (piece_of t (suc k) (b ∷ rest))
line_here b k rest t next l e = subst (λ x. FirstPiece b rest (piece_of x (suc k) (b ∷ rest))) (sym e) (line_comment_here (suc k) next l)

from_line : (b : ℕ) (rest : List ℕ) (p : Piece) → (b == 35) ≡ true → (byte_at rest 0 == 91) ≡ false → Takes (Shaped Line) b rest p
    → FirstPiece b rest p
from_line b rest p hash next x = from_takes (Front IsLineComment (b ∷ rest)) Line b rest p (line_matches b rest hash)
    (λ k t l e w. line_here b k rest t next l (line_form k rest t e))
    (λ none. absurd (none 1 (one_front IsLineComment b rest (hash, pass_none is_line_byte)))) x

nested_by_form : (b n : ℕ) (rest : List ℕ) (p : Piece) → Longest (Front IsNestedComment (b ∷ rest)) n
    → Checked in_comment n (b ∷ rest) (Gap true n) p
    → ByForm (b ∷ rest) p
nested_by_form b n rest p l c =
    let first = nested_first b n rest l.holds in
    shaped b rest p (Nested 0 L.Hash) (O.opens_nested b rest first.0 first.1)
    (takes_front (Front IsNestedComment (b ∷ rest)) (Nested 0 L.Hash) b rest n p (nested_matches b rest first.0 first.1) l
    (λ k t is e w. checked_is NestedWhole n (b ∷ rest) (Gap true n) p l.holds.inside c
    ∙ ap (λ x. if_clean (stray_in NestedWhole x (b ∷ rest)) (Gap true x)) is
    ∙ sym (ap (λ x. piece_of x (suc k) (b ∷ rest)) (nested_form k rest t e w))))

from_nested : (b : ℕ) (rest : List ℕ) (p : Piece) → (b == 35) ≡ true → (byte_at rest 0 == 91) ≡ true → Takes (Shaped (Nested 0 L.Hash)) b rest p
    → FirstPiece b rest p
from_nested b rest p hash next x = from_takes (Front IsNestedComment (b ∷ rest)) (Nested 0 L.Hash) b rest p (nested_matches b rest hash next)
    (λ k t l e w. subst (λ x. FirstPiece b rest (piece_of x (suc k) (b ∷ rest))) (sym (nested_form k rest t e w))
    (nested_comment_here (suc k) l (checked_from NestedWhole (suc k) (b ∷ rest) (Gap true (suc k)) l.holds.inside)))
    (λ none. bad_comment (are_true (b == 35) _ hash next) none) x

-- ---- chars and texts

char_by_form : (b n value : ℕ) (rest : List ℕ) (p : Piece) → Longest (Front SomeChar (b ∷ rest)) n → IsChar (take n (b ∷ rest)) value
    → Checked (λ c next. in_char c) n (b ∷ rest) (Found (T.Char value) n) p → ByForm (b ∷ rest) p
char_by_form b n value rest p l char c =
    let quote = char_first b n rest l.holds in
    shaped b rest p (Inside Q.Char None) (O.opens_char b rest quote)
    (takes_front (Front SomeChar (b ∷ rest)) (Inside Q.Char None) b rest n p (char_matches b rest quote) l
    (λ k t is e w. let le = l.holds.inside in
    let f = char_reads b value k rest (omega (arith, le, is)) (subst (λ x. IsChar (take x (b ∷ rest)) value) is char) in
    checked_is (CharWhole value) n (b ∷ rest) (Found (T.Char value) n) p le c
    ∙ ap (λ x. if_clean (stray_in (CharWhole value) x (b ∷ rest)) (Found (T.Char value) x)) is
    ∙ sym (ap (λ x. piece_of x (suc k) (b ∷ rest)) (some_same _ e f))))

a_char_here : (b k value : ℕ) (rest : List ℕ) (t : Shape) → (b == 39) ≡ true → Longest (Front SomeChar (b ∷ rest)) (suc k)
    → form (Inside Q.Char None) k rest
    ≡ Some t → t ≡ CharWhole value → FirstPiece b rest (piece_of t (suc k) (b ∷ rest))
a_char_here b k value rest t quote l e is = subst (λ x. FirstPiece b rest (piece_of x (suc k) (b ∷ rest))) (sym is)
    (char_here (suc k) value l (reads_char b value k rest quote (e ∙ ap (λ x. Some x) is))
    (checked_from (CharWhole value) (suc k) (b ∷ rest) (Found (T.Char value) (suc k)) l.holds.inside))

from_char : (b : ℕ) (rest : List ℕ) (p : Piece) → (b == 39) ≡ true → Takes (Shaped (Inside Q.Char None)) b rest p → FirstPiece b rest p
from_char b rest p quote x = from_takes (Front SomeChar (b ∷ rest)) (Inside Q.Char None) b rest p (char_matches b rest quote)
    (λ k t l e w. let v = char_form k rest t e w in a_char_here b k v.0 rest t quote l e v.1)
    (λ none. bad_char quote none) x

text_by_form : (b n : ℕ) (rest : List ℕ) (p : Piece) → is_triple rest ≡ false → Longest (Front SomeText (b ∷ rest)) n
    → Checked (λ c next. in_text c) n (b ∷ rest) (Found T.Text n) p → ByForm (b ∷ rest) p
text_by_form b n rest p single l c =
    let quote = text_first b n rest l.holds in
    shaped b rest p (Inside Q.Text None) (O.opens_text b rest quote single)
    (takes_front (Front SomeText (b ∷ rest)) (Inside Q.Text None) b rest n p (text_matches b rest quote) l
    (λ k t is e w. checked_is TextWhole n (b ∷ rest) (Found T.Text n) p l.holds.inside c
    ∙ ap (λ x. if_clean (stray_in TextWhole x (b ∷ rest)) (Found T.Text x)) is
    ∙ sym (ap (λ x. piece_of x (suc k) (b ∷ rest)) (text_form k rest t e w))))

from_text : (b : ℕ) (rest : List ℕ) (p : Piece) → (b == 34) ≡ true → is_triple rest ≡ false
    → Takes (Shaped (Inside Q.Text None)) b rest p → FirstPiece b rest p
from_text b rest p quote single x = from_takes (Front SomeText (b ∷ rest)) (Inside Q.Text None) b rest p (text_matches b rest quote)
    (λ k t l e w. subst (λ x. FirstPiece b rest (piece_of x (suc k) (b ∷ rest))) (sym (text_form k rest t e w))
    (text_here (suc k) single l (checked_from TextWhole (suc k) (b ∷ rest) (Found T.Text (suc k)) l.holds.inside)))
    (λ none. bad_text quote none) x

-- ---- names in backticks

quoted_by_form : (b n : ℕ) (rest : List ℕ) → Longest (Front IsQuoted (b ∷ rest)) n → ByForm (b ∷ rest) (Found T.Quoted n)
quoted_by_form b n rest l =
    let quote = quoted_first b n rest l.holds in
    shaped b rest _ (Quoted false) (O.opens_quoted b rest quote)
    (takes_front (Front IsQuoted (b ∷ rest)) (Quoted false) b rest n _ (quoted_matches b rest quote) l
    (λ k t is e w. ap (λ x. Found T.Quoted x) is ∙ sym (ap (λ x. piece_of x (suc k) (b ∷ rest)) (quoted_form k rest t e w))))

from_quoted : (b : ℕ) (rest : List ℕ) (p : Piece) → (b == 96) ≡ true → Takes (Shaped (Quoted false)) b rest p → FirstPiece b rest p
from_quoted b rest p quote x = from_takes (Front IsQuoted (b ∷ rest)) (Quoted false) b rest p (quoted_matches b rest quote)
    (λ k t l e w. subst (λ x. FirstPiece b rest (piece_of x (suc k) (b ∷ rest))) (sym (quoted_form k rest t e w)) (quoted_here (suc k) l))
    (λ none. bad_quoted quote none) x

-- ---- operators

pub run_first : (b n : ℕ) (rest : List ℕ) → IsRun (b ∷ rest) n → in_run false b (byte_at rest 0) ≡ true
run_first b n rest r = let some = r.some in r.each 0 (omega (arith, some))

run_by_form : (b n : ℕ) (rest : List ℕ) → Longest (IsRun (b ∷ rest)) n → ByForm (b ∷ rest) (run_piece n (b ∷ rest))
run_by_form b n rest l =
    let first = run_first b n rest l.holds in let operator = (both_true (is_operator b) _ first).0 in
    shaped b rest _ (Single b) (O.opens_run b rest operator first)
    (takes_front (IsRun (b ∷ rest)) (Single b) b rest n _ (run_matches b rest first) l
    (λ k t is e w. ap (λ x. run_piece x (b ∷ rest)) is ∙ sym (run_is k b rest t e)))

one_run : (b : ℕ) (rest : List ℕ) → in_run false b (byte_at rest 0) ≡ true → (k : ℕ) → k < 1
    → in_run (behind_dot (b ∷ rest) k) (byte_at (b ∷ rest) k)
    (byte_at (b ∷ rest) (suc k)) ≡ true
one_run b rest first zero lt = first
one_run b rest first (suc k) lt = (let f : ⊥ = omega arith in absurd f)

from_run : (b : ℕ) (rest : List ℕ) (p : Piece) → in_run false b (byte_at rest 0) ≡ true → Takes (Shaped (Single b)) b rest p → FirstPiece b rest p
from_run b rest p first x = from_takes (IsRun (b ∷ rest)) (Single b) b rest p (run_matches b rest first)
    (λ k t l e w. subst (FirstPiece b rest) (sym (run_is k b rest t e)) (run_here (suc k) l))
    (λ none. absurd (none 1 (record { some = omega arith; each = one_run b rest first }))) x

-- ---- all rows

by_form_at : (b : ℕ) (rest : List ℕ) (p : Piece) → FirstPiece b rest p → ByForm (b ∷ rest) p
by_form_at b rest _ (blank_here e) = known b rest _ (O.opens_blank b rest e)
by_form_at b rest _ (line_end_here e) = known b rest _ (O.opens_line_end b rest e)
by_form_at b rest _ (line_comment_here n next l) = line_by_form b n rest next l
by_form_at b rest p (nested_comment_here n l c) = nested_by_form b n rest p l c
by_form_at b rest _ (bad_comment e none) =
    let f = both_true (b == 35) (byte_at rest 0 == 91) e in
    shaped b rest _ (Nested 0 L.Hash) (O.opens_nested b rest f.0 f.1)
    (takes_none (Front IsNestedComment (b ∷ rest)) (Nested 0 L.Hash) b rest _ (nested_matches b rest f.0 f.1) none refl)
by_form_at b rest _ (name_here n l name) = name_by_form b n rest l name
by_form_at b rest _ (bad_name n l bad) = bad_name_by_form b n rest l bad
by_form_at b rest _ (integer_here n value l integer) = integer_by_form b n value rest l integer
by_form_at b rest _ (bad_integer n l bad) = bad_integer_by_form b n rest l bad
by_form_at b rest p (char_here n value l char c) = char_by_form b n value rest p l char c
by_form_at b rest _ (bad_char quote none) = shaped b rest _ (Inside Q.Char None) (O.opens_char b rest quote)
    (takes_none (Front SomeChar (b ∷ rest)) (Inside Q.Char None) b rest _ (char_matches b rest quote) none refl)
by_form_at b rest p (text_here n single l c) = text_by_form b n rest p single l c
by_form_at b rest _ (bad_text quote none) = by_test _ (is_triple rest)
    (λ triple. known b rest _ (O.opens_triple b rest quote triple))
    (λ single. shaped b rest _ (Inside Q.Text None) (O.opens_text b rest quote single)
    (takes_none (Front SomeText (b ∷ rest)) (Inside Q.Text None) b rest _ (text_matches b rest quote) none refl))
by_form_at b rest _ (triple_quotes quote triple) = known b rest _ (O.opens_triple b rest quote triple)
by_form_at b rest _ (quoted_here n l) = quoted_by_form b n rest l
by_form_at b rest _ (bad_quoted quote none) = shaped b rest _ (Quoted false) (O.opens_quoted b rest quote)
    (takes_none (Front IsQuoted (b ∷ rest)) (Quoted false) b rest _ (quoted_matches b rest quote) none refl)
by_form_at b rest _ (pragma_opens e) = known b rest _ (O.pragma_opening b rest e)
by_form_at b rest _ (pragma_closes e) = known b rest _ (O.pragma_closing b rest e)
by_form_at b rest _ (bracket_here e none) = known b rest _ (O.opens_bracket b rest e none)
by_form_at b rest _ (run_here n l) = run_by_form b n rest l
by_form_at b rest _ (no_piece e) = known b rest _ (O.opens_none b rest e)

brace_here : (b : ℕ) (rest : List ℕ) → (b == 123) ≡ true → opens_pragma b rest ≡ false → FirstPiece b rest (Found (T.Punct 123) 1)
brace_here b rest brace none = subst (λ x. FirstPiece b rest (Found (T.Punct x) 1)) (eqb-true b 123 brace)
    (bracket_here (at_byte (λ x. is_bracket x ≡ true) b 123 refl brace) none)

from_opening : (b : ℕ) (rest : List ℕ) (p : Piece) (o : Opening) → O.Opens b rest o → Takes o b rest p → FirstPiece b rest p
from_opening b rest p _ (O.letter_opens e) x = from_word b rest p e x
from_opening b rest p _ (O.zero_opens e f) x = from_number b rest p Zero e (zero_first f) x
from_opening b rest p _ (O.digit_opens e f) x = from_number b rest p (Number 10 (b - 48)) e (other_first f) x
from_opening b rest p _ (O.blank_opens e) x = subst (FirstPiece b rest) (sym x) (blank_here e)
from_opening b rest p _ (O.line_end_opens e) x = subst (FirstPiece b rest) (sym x) (line_end_here e)
from_opening b rest p _ (O.nested_opens e f) x = from_nested b rest p e f x
from_opening b rest p _ (O.line_opens e f) x = from_line b rest p e f x
from_opening b rest p _ (O.char_opens e) x = from_char b rest p e x
from_opening b rest p _ (O.triple_opens e f) x = subst (FirstPiece b rest) (sym x) (triple_quotes e f)
from_opening b rest p _ (O.text_opens e f) x = from_text b rest p e f x
from_opening b rest p _ (O.quoted_opens e) x = from_quoted b rest p e x
from_opening b rest p _ (O.pragma_opens e) x = subst (FirstPiece b rest) (sym x) (pragma_opens e)
from_opening b rest p _ (O.pragma_closes e) x = subst (FirstPiece b rest) (sym x) (pragma_closes e)
from_opening b rest p _ (O.brace_opens e f) x = subst (FirstPiece b rest) (sym x) (brace_here b rest e f)
from_opening b rest p _ (O.bracket_opens e f) x = subst (FirstPiece b rest) (sym x) (bracket_here e f)
from_opening b rest p _ (O.run_opens e) x = from_run b rest p e x
from_opening b rest p _ (O.none_opens e) x = subst (FirstPiece b rest) (sym x) (no_piece e)

pub begins_so : (bytes : List ℕ) (p : Piece) → ByForm bytes p → Begins bytes p
begins_so [] p x = x
begins_so (b ∷ rest) p x = from_opening b rest p (opening_of b rest) (O.walk b rest) x

-- a list of bytes begins with one piece
pub begins_once : (bytes : List ℕ) (p q : Piece) → Begins bytes p → Begins bytes q → p ≡ q
begins_once [] p q x y = absurd x
begins_once (b ∷ rest) p q x y = takes_once (opening_of b rest) b rest p q (by_form_at b rest p x) (by_form_at b rest q y)
