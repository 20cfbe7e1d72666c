-- Words, integers and comments to the end of the line: their fronts and their forms.
use Rattle.std.proofs.Common.{◌≡◌, ℕ, suc, ◌+◌, ◌*◌, ◌-◌, ◌≤◌, min, List, [], ◌∷◌, ◌++◌, length, take, drop, Bool, true, false, refl, sym, ap, subst, ◌∙◌}
use Rattle.std.proofs.Common.{arith}
use Rattle.std.specs.Prelude.{Option, Some, None, cond, ◌==◌}
use Rattle.std.proofs.lemmas.Bool.{eqb-true, le-leb}
use Rattle.indent_scanner.specs.declared.shape.Shape.{Shape}
use Rattle.indent_scanner.specs.declared.shape.Shape.TheVariants.{Word, WordUnder, BrokenWord, Zero, Number, NumberUnder, BrokenNumber, Line}
use Rattle.indent_scanner.specs.Bytes.{is_letter, is_digit, is_word, is_line_byte, is_in, below, digit_value}
use Rattle.indent_scanner.specs.Grammar.{IsWord, NameRest, IsNumeral, Digits, digits_done, digits_more, digits_under, SomeDigits, some_digits, IsInteger}
use Rattle.indent_scanner.specs.Grammar.{decimal, hexadecimal, octal, binary, IsLineComment}
use Rattle.indent_scanner.specs.Shape.{step, form, and_then, is_whole, while_word, with_digit, digit_step, zero_step}
use Rattle.indent_scanner.specs.Pieces.{Front}
use Rattle.indent_scanner.proofs.Bools.{by_test, in_range, unlike}
use Rattle.indent_scanner.proofs.Fronts.{Each, digit_each, digit_due_each, form_keeps, form_inside, some_same}
use Rattle.indent_scanner.proofs.Matches.{Matches, Family, read_all, all_read, split_form}
use Rattle.indent_scanner.proofs.GrammarNames.{word_other, word_under, word_sound, under_other, under_under, under_sound, name_from, name_to}
use Rattle.indent_scanner.proofs.GrammarIntegers.{cap, digits_to, digits_from}

-- ---- words

abbrev pub IsWordForm : Shape → Type 0
IsWordForm Word = Unit {0}
IsWordForm WordUnder = Unit {0}
IsWordForm BrokenWord = Unit {0}
IsWordForm _ = ⊥

-- a step, and that its form is of the family
abbrev Goes : (Shape → Type 0) → Shape → ℕ → ℕ → Type 0
Goes Is s b next = (t : Shape) × (step s b next ≡ Some t) × Is t

while_on : (s : Shape) (b : ℕ) → is_word b ≡ true → while_word s b ≡ Some s
while_on s b e = ap (λ v. cond v (Some s) None) e

while_off : (s : Shape) (b : ℕ) → is_word b ≡ false → while_word s b ≡ None
while_off s b e = ap (λ v. cond v (Some s) None) e

word_on : (s : Shape) (b next : ℕ) → IsWordForm s → is_word b ≡ true → Goes IsWordForm s b next
word_on Word b next is e = by_test _ (b == 95) (λ u. (WordUnder, word_under b e u, tt)) (λ u. (Word, word_sound b e u, tt))
word_on WordUnder b next is e = by_test _ (b == 95) (λ u. (BrokenWord, under_under b e u, tt)) (λ u. (Word, under_sound b e u, tt))
word_on BrokenWord b next is e = (BrokenWord, while_on BrokenWord b e, tt)
word_on _ b next is e = absurd is

word_off : (s : Shape) (b next : ℕ) → IsWordForm s → is_word b ≡ false → step s b next ≡ None
word_off Word b next is e = word_other b e
word_off WordUnder b next is e = under_other b e
word_off BrokenWord b next is e = while_off BrokenWord b e
word_off _ b next is e = absurd is

pub word_family : Family IsWordForm is_word
word_family = record { on = word_on; off = word_off }

word_whole : (t : Shape) → IsWordForm t → is_whole t ≡ true
word_whole Word is = refl
word_whole WordUnder is = refl
word_whole BrokenWord is = refl
word_whole _ is = absurd is

pub word_matches : (b : ℕ) (rest : List ℕ) → is_letter b ≡ true → Matches (Front IsWord (b ∷ rest)) Word rest
word_matches b rest letter = record {
  none = λ f. f.whole;
  to = λ n f. (let w = f.whole in let i = f.inside in let r = read_all IsWordForm is_word word_family n rest Word tt (omega (arith, i)) w.1 in
      (r.0, r.1, word_whole r.0 r.2));
  from = λ n t e w.
      (let i = form_inside n rest Word t e in
      record { inside = omega (arith, i); whole = (letter, (all_read IsWordForm is_word word_family n rest Word t tt e).0) });
}

pub word_form : (n : ℕ) (rest : List ℕ) (t : Shape) → form Word n rest ≡ Some t → IsWordForm t
word_form n rest t e = (all_read IsWordForm is_word word_family n rest Word t tt e).1

pub name_of_form : (n : ℕ) (rest : List ℕ) → form Word n rest ≡ Some Word → NameRest (take n rest)
name_of_form n rest e = name_from (take n rest) (drop n rest) (split_form Word n rest (form_inside n rest Word Word e) ∙ e)

pub form_of_name : (n : ℕ) (rest : List ℕ) → n ≤ length rest → NameRest (take n rest) → form Word n rest ≡ Some Word
form_of_name n rest le h = sym (split_form Word n rest le) ∙ name_to (take n rest) (drop n rest) h

-- ---- comments to the end of the line

abbrev pub IsLineForm : Shape → Type 0
IsLineForm Line = Unit {0}
IsLineForm _ = ⊥

line_on : (s : Shape) (b next : ℕ) → IsLineForm s → is_line_byte b ≡ true → Goes IsLineForm s b next
line_on Line b next is e = (Line, ap (λ v. cond v (Some Line) None) e, tt)
line_on _ b next is e = absurd is

line_off : (s : Shape) (b next : ℕ) → IsLineForm s → is_line_byte b ≡ false → step s b next ≡ None
line_off Line b next is e = ap (λ v. cond v (Some Line) None) e
line_off _ b next is e = absurd is

line_family : Family IsLineForm is_line_byte
line_family = record { on = line_on; off = line_off }

line_whole : (t : Shape) → IsLineForm t → is_whole t ≡ true
line_whole Line is = refl
line_whole _ is = absurd is

pub line_is : (t : Shape) → IsLineForm t → t ≡ Line
line_is Line is = refl
line_is _ is = absurd is

pub line_matches : (b : ℕ) (rest : List ℕ) → (b == 35) ≡ true → Matches (Front IsLineComment (b ∷ rest)) Line rest
line_matches b rest hash = record {
  none = λ f. f.whole;
  to = λ n f. (let w = f.whole in let i = f.inside in let r = read_all IsLineForm is_line_byte line_family n rest Line tt (omega (arith, i)) w.1 in
      (r.0, r.1, line_whole r.0 r.2));
  from = λ n t e w.
      (let i = form_inside n rest Line t e in
      record { inside = omega (arith, i); whole = (hash, (all_read IsLineForm is_line_byte line_family n rest Line t tt e).0) });
}

pub line_form : (n : ℕ) (rest : List ℕ) (t : Shape) → form Line n rest ≡ Some t → t ≡ Line
line_form n rest t e = line_is t (all_read IsLineForm is_line_byte line_family n rest Line t tt e).1

-- ---- numerals

abbrev pub IsNumberForm : Shape → Type 0
IsNumberForm Zero = Unit {0}
IsNumberForm (Number base value) = Unit {0}
IsNumberForm (NumberUnder base value) = Unit {0}
IsNumberForm BrokenNumber = Unit {0}
IsNumberForm _ = ⊥

with_is : (base value : ℕ) (o : Option ℕ) → IsNumberForm (with_digit base value o)
with_is base value None = tt
with_is base value (Some d) = tt

-- one digit more, or what is due one
digit_cond : (base value b : ℕ) (v w : Bool) → is_word b ≡ v → (b == 95) ≡ w
    → digit_step base value b ≡ cond v (cond w (Some (NumberUnder base value)) (Some (with_digit base value (digit_value base b)))) None
digit_cond base value b v w e f = ap (λ x. cond x (cond (b == 95) (Some (NumberUnder base value)) (Some (with_digit base value (digit_value base b)))) None) e
    ∙ ap (λ x. cond v (cond x (Some (NumberUnder base value)) (Some (with_digit base value (digit_value base b)))) None) f

digit_on : (base value b : ℕ) → is_word b ≡ true → (t : Shape) × (digit_step base value b ≡ Some t) × IsNumberForm t
digit_on base value b e = by_test _ (b == 95)
    (λ f. (NumberUnder base value, digit_cond base value b true true e f, tt))
    (λ f. (with_digit base value (digit_value base b), digit_cond base value b true false e f, with_is base value (digit_value base b)))

digit_off : (base value b : ℕ) → is_word b ≡ false → digit_step base value b ≡ None
digit_off base value b e = digit_cond base value b false (b == 95) e refl

zero_cond : (b : ℕ) (u v w : Bool) → (b == 120) ≡ u → (b == 111) ≡ v → (b == 98) ≡ w → zero_step b ≡ cond u (Some (NumberUnder 16 0))
    (cond v (Some (NumberUnder 8 0)) (cond w (Some (NumberUnder 2 0)) (digit_step 10 0 b)))
zero_cond b u v w e f g =
    ap (λ x. cond x (Some (NumberUnder 16 0)) (cond (b == 111) (Some (NumberUnder 8 0)) (cond (b == 98) (Some (NumberUnder 2 0)) (digit_step 10 0 b)))) e
    ∙ ap (λ x. cond u (Some (NumberUnder 16 0)) (cond x (Some (NumberUnder 8 0)) (cond (b == 98) (Some (NumberUnder 2 0)) (digit_step 10 0 b)))) f
    ∙ ap (λ x. cond u (Some (NumberUnder 16 0)) (cond v (Some (NumberUnder 8 0)) (cond x (Some (NumberUnder 2 0)) (digit_step 10 0 b)))) g

zero_on : (b next : ℕ) → is_word b ≡ true → Goes IsNumberForm Zero b next
zero_on b next e = by_test _ (b == 120)
    (λ f. (NumberUnder 16 0, zero_cond b true (b == 111) (b == 98) f refl refl, tt))
    (λ f. by_test _ (b == 111)
    (λ g. (NumberUnder 8 0, zero_cond b false true (b == 98) f g refl, tt))
    (λ g. by_test _ (b == 98)
    (λ h. (NumberUnder 2 0, zero_cond b false false true f g h, tt))
    (λ h. let d = digit_on 10 0 b e in (d.0, zero_cond b false false false f g h ∙ d.1, d.2))))

number_on : (s : Shape) (b next : ℕ) → IsNumberForm s → is_word b ≡ true → Goes IsNumberForm s b next
number_on Zero b next is e = zero_on b next e
number_on (Number base value) b next is e = digit_on base value b e
number_on (NumberUnder base value) b next is e = (
  with_digit base value (digit_value base b),
  ap (λ v. cond v (Some (with_digit base value (digit_value base b))) None) e,
  with_is base value (digit_value base b),
)
number_on BrokenNumber b next is e = (BrokenNumber, while_on BrokenNumber b e, tt)
number_on _ b next is e = absurd is

number_off : (s : Shape) (b next : ℕ) → IsNumberForm s → is_word b ≡ false → step s b next ≡ None
number_off Zero b next is e = zero_cond b false false false (unlike is_word b 120 refl e) (unlike is_word b 111 refl e) (unlike is_word b 98 refl e)
    ∙ digit_off 10 0 b e
number_off (Number base value) b next is e = digit_off base value b e
number_off (NumberUnder base value) b next is e = ap (λ v. cond v (Some (with_digit base value (digit_value base b))) None) e
number_off BrokenNumber b next is e = while_off BrokenNumber b e
number_off _ b next is e = absurd is

number_family : Family IsNumberForm is_word
number_family = record { on = number_on; off = number_off }

number_whole : (t : Shape) → IsNumberForm t → is_whole t ≡ true
number_whole Zero is = refl
number_whole (Number base value) is = refl
number_whole (NumberUnder base value) is = refl
number_whole BrokenNumber is = refl
number_whole _ is = absurd is

pub number_matches : (b : ℕ) (rest : List ℕ) (s : Shape) → is_digit b ≡ true → IsNumberForm s → Matches (Front IsNumeral (b ∷ rest)) s rest
number_matches b rest s digit is = record {
  none = λ f. f.whole;
  to = λ n f. (let w = f.whole in let i = f.inside in let r = read_all IsNumberForm is_word number_family n rest s is (omega (arith, i)) w.1 in
      (r.0, r.1, number_whole r.0 r.2));
  from = λ n t e w.
      (let i = form_inside n rest s t e in
      record { inside = omega (arith, i); whole = (digit, (all_read IsNumberForm is_word number_family n rest s t is e).0) });
}

pub number_form : (n : ℕ) (rest : List ℕ) (s t : Shape) → IsNumberForm s → form s n rest ≡ Some t → IsNumberForm t
number_form n rest s t is e = (all_read IsNumberForm is_word number_family n rest s t is e).1

-- ---- integers

-- the value that a form tells; one above 2,147,483,647 is told as 2,147,483,648
abbrev pub value_in : Shape → Option ℕ
value_in Zero = Some 0
value_in (Number base value) = Some value
value_in _ = None

abbrev OfBase : ℕ → Shape → Type 0
OfBase base (Number other value) = other ≡ base
OfBase base (NumberUnder other value) = other ≡ base
OfBase base BrokenNumber = Unit {0}
OfBase base _ = ⊥

base_step : (base : ℕ) (s : Shape) (b next : ℕ) → OfBase base s → Each (OfBase base) (step s b next)
base_step base (Number other value) b next is = digit_each (OfBase base) other value b (λ v. is) (λ v. is) tt
base_step base (NumberUnder other value) b next is = digit_due_each (OfBase base) other value b (λ v. is) tt
base_step base BrokenNumber b next is = broken (is_word b)
  where
    broken : (v : Bool) → Each (OfBase base) (cond v (Some BrokenNumber) None)
    broken true = tt
    broken false = tt
base_step base _ b next is = absurd is

base_tells : (base got : ℕ) (t : Shape) → OfBase base t → value_in t ≡ Some got → t ≡ Number base got
base_tells base got (Number other value) is e = let f : value ≡ got = cc in ap (λ x. Number x value) is ∙ ap (λ x. Number base x) f
base_tells base got (NumberUnder other value) is e = (let f : ⊥ = cc in absurd f)
base_tells base got BrokenNumber is e = (let f : ⊥ = cc in absurd f)
base_tells base got _ is e = absurd is

of_base : (base got n : ℕ) (bytes : List ℕ) (s t : Shape) → OfBase base s → form s n bytes ≡ Some t → value_in t ≡ Some got
    → form s n bytes ≡ Some (Number base got)
of_base base got n bytes s t is e f = e ∙ ap (λ x. Some x) (base_tells base got t (form_keeps (OfBase base) (base_step base) n bytes s t is e) f)

-- what stands behind the prefix of a base
mul_zero : (base d : ℕ) → 0 * base + d ≡ d
mul_zero base d = grind arith

behind_prefix : (base value : ℕ) (text : List ℕ) → SomeDigits base text value → Digits base 0 (95 ∷ text) value
behind_prefix base value _ (some_digits b d _ bytes e h) = digits_under 0 b d value bytes e (subst (λ v. Digits base v bytes value) (sym (mul_zero base d)) h)

no_digit_95 : (base d : ℕ) → digit_value base 95 ≡ Some d → ⊥
no_digit_95 base d e = cc

prefix_digits : (base v value : ℕ) (text : List ℕ) → v ≡ 0 → Digits base v (95 ∷ text) value → SomeDigits base text value
prefix_digits base v value text z (digits_more _ b d _ _ e h) = absurd (no_digit_95 base d e)
prefix_digits base v value _ z (digits_under _ b d _ bytes e h) =
    some_digits b d value bytes e (subst (λ x. Digits base x bytes value) (ap (λ x. x * base + d) z ∙ mul_zero base d) h)

prefix_to : (base value : ℕ) (text rest : List ℕ) → 1 ≤ base → SomeDigits base text value → form (NumberUnder base 0) (length text) (text ++ rest)
    ≡ Some (Number base (cap value))
prefix_to base value text rest one h = digits_to base 0 value (95 ∷ text) rest one (behind_prefix base value text h)

-- the integer that a text is, and what its form tells
abbrev Told : ℕ → List ℕ → ℕ → Type 0
Told b text got = (value : ℕ) × IsInteger (b ∷ text) value × (got ≡ cap value)

prefix_from : (base got : ℕ) (text rest : List ℕ) (t : Shape) → 1 ≤ base → form (NumberUnder base 0) (length text) (text ++ rest) ≡ Some t
    → value_in t ≡ Some got → (value : ℕ) × SomeDigits base text value × (got ≡ cap value)
prefix_from base got text rest t one e f =
    let d = digits_from base 0 got (95 ∷ text) rest one (of_base base got (length text) (text ++ rest) (NumberUnder base 0) t refl e f) in
    (d.0, prefix_digits base 0 d.0 text refl d.1, d.2)

-- ---- integers that begin with `0`

digits_head : (v w c : ℕ) (text : List ℕ) → Digits 10 v (c ∷ text) w → (k : ℕ) → digit_value 10 k ≡ None → (95 == k) ≡ false → (c == k) ≡ false
digits_head v w c text (digits_more _ _ d _ _ e h) k none other =
    by_test _ (c == k) (λ f. let g = eqb-true c k f in (let g2 = ap (digit_value 10) g in let x : ⊥ = cc in absurd x)) (λ f. f)
digits_head v w _ _ (digits_under _ b d _ text e h) k none other = other

first_digit : (base b value : ℕ) (text : List ℕ) → SomeDigits base (b ∷ text) value → (d : ℕ) × (digit_value base b ≡ Some d) × Digits base d text value
first_digit base b value text (some_digits _ d _ _ e h) = (d, e, h)

no_more : (base v w : ℕ) (text : List ℕ) → text ≡ [] → Digits base v text w → w ≡ v
no_more base v _ text e (digits_done _) = refl
no_more base v w _ e (digits_more _ b d _ text f h) = cc
no_more base v w _ e (digits_under _ b d _ text f h) = cc

-- as behind another digit, where the byte is none of `x`, `o` and `b`
zero_plain : (c : ℕ) → (c == 120) ≡ false → (c == 111) ≡ false → (c == 98) ≡ false → zero_step c ≡ digit_step 10 0 c
zero_plain c e f g = zero_cond c false false false e f g

abbrev Tells : Shape → List ℕ → List ℕ → ℕ → Type 0
Tells s text rest value = (t : Shape) × (form s (length text) (text ++ rest) ≡ Some t) × (value_in t ≡ Some (cap value))

zero_decimal : (value : ℕ) (text rest : List ℕ) → Digits 10 0 text value → Tells Zero text rest value
zero_decimal value [] rest h = (Zero, refl, ap (λ x. Some (cap x)) (sym (no_more 10 0 value [] refl h)))
zero_decimal value (c ∷ text) rest h =
    let same = zero_plain c (digits_head 0 value c text h 120 refl refl) (digits_head 0 value c text h 111 refl refl)
    (digits_head 0 value c text h 98 refl refl) in
    (Number 10 (cap value), ap (λ o. and_then o (λ t. form t (length text) (text ++ rest))) same ∙ digits_to 10 0 value (c ∷ text) rest (omega arith) h, refl)

zero_to : (value : ℕ) (text rest whole : List ℕ) → whole ≡ 48 ∷ text → IsInteger whole value → Tells Zero text rest value
zero_to value text rest whole is (decimal _ _ h) =
    let d = first_digit 10 48 value text (subst (λ x. SomeDigits 10 x value) is h) in
    let none : d.0 ≡ 0 = (let e = d.1 in cc) in
    zero_decimal value text rest (subst (λ x. Digits 10 x text value) none d.2)
zero_to value text rest _ is (hexadecimal _ bytes h) =
    let same : 120 ∷ bytes ≡ text = cc in
    subst (λ x. Tells Zero x rest value) same (Number 16 (cap value), prefix_to 16 value bytes rest (omega arith) h, refl)
zero_to value text rest _ is (octal _ bytes h) =
    let same : 111 ∷ bytes ≡ text = cc in
    subst (λ x. Tells Zero x rest value) same (Number 8 (cap value), prefix_to 8 value bytes rest (omega arith) h, refl)
zero_to value text rest _ is (binary _ bytes h) =
    let same : 98 ∷ bytes ≡ text = cc in
    subst (λ x. Tells Zero x rest value) same (Number 2 (cap value), prefix_to 2 value bytes rest (omega arith) h, refl)

abbrev ReadAfter : Option Shape → List ℕ → List ℕ → Shape → Type 0
ReadAfter o text rest t = and_then o (λ s. form s (length text) (text ++ rest)) ≡ Some t

moved : (o p : Option Shape) (text rest : List ℕ) (t : Shape) → o ≡ p → ReadAfter o text rest t → ReadAfter p text rest t
moved o p text rest t e h = subst (λ x. ReadAfter x text rest t) e h

zero_from : (got : ℕ) (text rest : List ℕ) (t : Shape) → form Zero (length text) (text ++ rest) ≡ Some t → value_in t ≡ Some got → Told 48 text got
zero_from got [] rest t e f =
    let is : Zero ≡ t = some_same _ refl e in
    let none : got ≡ 0 = (let g = ap value_in is in cc) in
    (0, decimal 0 (48 ∷ []) (some_digits 48 0 0 [] refl (digits_done 0)), none)
zero_from got (c ∷ text) rest t e f = by_test _ (c == 120)
    (λ x. let h = prefix_from 16 got text rest t (omega arith)
    (moved (zero_step c) (Some (NumberUnder 16 0)) text rest t (zero_cond c true (c == 111) (c == 98) x refl refl) e) f in
    (h.0, subst (λ k. IsInteger (48 ∷ k ∷ text) h.0) (sym (eqb-true c 120 x)) (hexadecimal h.0 text h.1), h.2))
    (λ x. by_test _ (c == 111)
    (λ o. let h = prefix_from 8 got text rest t (omega arith)
    (moved (zero_step c) (Some (NumberUnder 8 0)) text rest t (zero_cond c false true (c == 98) x o refl) e) f in
    (h.0, subst (λ k. IsInteger (48 ∷ k ∷ text) h.0) (sym (eqb-true c 111 o)) (octal h.0 text h.1), h.2))
    (λ o. by_test _ (c == 98)
    (λ b. let h = prefix_from 2 got text rest t (omega arith) (moved (zero_step c) (Some (NumberUnder 2 0)) text rest t (zero_cond c false false true x o b) e)
    f in
    (h.0, subst (λ k. IsInteger (48 ∷ k ∷ text) h.0) (sym (eqb-true c 98 b)) (binary h.0 text h.1), h.2))
    (λ b. let plain : form (Number 10 0) (length (c ∷ text)) (c ∷ text ++ rest) ≡ Some t = moved (zero_step c) (digit_step 10 0 c) text rest t
    (zero_plain c x o b) e in
    let h = digits_from 10 0 got (c ∷ text) rest (omega arith) (of_base 10 got (length (c ∷ text)) (c ∷ text ++ rest) (Number 10 0) t refl plain f) in
    (h.0, decimal h.0 (48 ∷ c ∷ text) (some_digits 48 0 h.0 (c ∷ text) refl h.1), h.2))))

-- ---- integers that begin with another digit

decimal_value : (b : ℕ) → is_digit b ≡ true → digit_value 10 b ≡ Some (b - 48)
decimal_value b e =
    let r = in_range 48 57 b e in
    ap (λ v. below 10 (cond v (Some (b - 48)) (cond (is_in 97 102 b) (Some (b - 87)) (cond (is_in 65 70 b) (Some (b - 55)) None)))) e
    ∙ ap (λ v. cond v (Some (b - 48)) None) (le-leb (suc (b - 48)) 10 (omega (arith, r.1)))

small : (b : ℕ) → is_digit b ≡ true → cap (b - 48) ≡ b - 48
small b e = let r = in_range 48 57 b e in omega (arith, r.1)

other_to : (b value : ℕ) (text rest whole : List ℕ) → is_digit b ≡ true → (b == 48) ≡ false → whole ≡ b ∷ text → IsInteger whole value
    → Tells (Number 10 (b - 48)) text rest value
other_to b value text rest whole digit other is (decimal _ _ h) =
    let d = first_digit 10 b value text (subst (λ x. SomeDigits 10 x value) is h) in
    let same : d.0 ≡ b - 48 = (let e = d.1 in let f = decimal_value b digit in cc) in
    let to = digits_to 10 (b - 48) value text rest (omega arith) (subst (λ x. Digits 10 x text value) same d.2) in
    (Number 10 (cap value), subst (λ x. form (Number 10 x) (length text) (text ++ rest) ≡ Some (Number 10 (cap value))) (small b digit) to, refl)
other_to b value text rest _ digit other is (hexadecimal _ bytes h) = (let same : b ≡ 48 = cc in let e = ap (λ x. x == 48) same in let f : ⊥ = cc in absurd f)
other_to b value text rest _ digit other is (octal _ bytes h) = (let same : b ≡ 48 = cc in let e = ap (λ x. x == 48) same in let f : ⊥ = cc in absurd f)
other_to b value text rest _ digit other is (binary _ bytes h) = (let same : b ≡ 48 = cc in let e = ap (λ x. x == 48) same in let f : ⊥ = cc in absurd f)

other_from : (b got : ℕ) (text rest : List ℕ) (t : Shape) → is_digit b ≡ true → form (Number 10 (b - 48)) (length text) (text ++ rest) ≡ Some t
    → value_in t ≡ Some got → Told b text got
other_from b got text rest t digit e f =
    let go = of_base 10 got (length text) (text ++ rest) (Number 10 (b - 48)) t refl e f in
    let h = digits_from 10 (b - 48) got text rest (omega arith) (subst (λ x. form (Number 10 x) (length text) (text ++ rest) ≡ Some (Number 10 got))
    (sym (small b digit)) go) in
    (h.0, decimal h.0 (b ∷ text) (some_digits b (b - 48) h.0 text (decimal_value b digit) h.1), h.2)

-- ---- both

-- the form behind a first digit
pub data Starts (b : ℕ) : Shape → Type 0 where
  zero_first : (b == 48) ≡ true → Starts b Zero
  other_first : (b == 48) ≡ false → Starts b (Number 10 (b - 48))

pub starts_number : (b : ℕ) (s : Shape) → Starts b s → IsNumberForm s
starts_number b _ (zero_first e) = tt
starts_number b _ (other_first e) = tt

text_value : (b value : ℕ) (text rest : List ℕ) (s : Shape) → is_digit b ≡ true → Starts b s → IsInteger (b ∷ text) value → Tells s text rest value
text_value b value text rest _ digit (zero_first e) h = zero_to value text rest (b ∷ text) (ap (λ x. x ∷ text) (eqb-true b 48 e)) h
text_value b value text rest _ digit (other_first e) h = other_to b value text rest (b ∷ text) digit e refl h

value_text : (b got : ℕ) (text rest : List ℕ) (s t : Shape) → is_digit b ≡ true → Starts b s → form s (length text) (text ++ rest) ≡ Some t
    → value_in t ≡ Some got → Told b text got
value_text b got text rest _ t digit (zero_first e) h f = subst (λ x. Told x text got) (sym (eqb-true b 48 e)) (zero_from got text rest t h f)
value_text b got text rest _ t digit (other_first e) h f = other_from b got text rest t digit h f

pub integer_to : (b value n : ℕ) (rest : List ℕ) (s t : Shape) → is_digit b ≡ true → Starts b s → form s n rest ≡ Some t → IsInteger (b ∷ take n rest) value
    → value_in t ≡ Some (min value 2147483648)
integer_to b value n rest s t digit starts e h =
    let v = text_value b value (take n rest) (drop n rest) s digit starts h in
    let same : t ≡ v.0 = some_same _ e (sym (split_form s n rest (form_inside n rest s t e)) ∙ v.1) in
    ap value_in same ∙ v.2

pub integer_from : (b got n : ℕ) (rest : List ℕ) (s t : Shape) → is_digit b ≡ true → Starts b s → form s n rest ≡ Some t → value_in t ≡ Some got
    → (value : ℕ) × IsInteger (b ∷ take n rest) value × (got ≡ min value 2147483648)
integer_from b got n rest s t digit starts e f = value_text b got (take n rest) (drop n rest) s t digit starts
    (split_form s n rest (form_inside n rest s t e) ∙ e) f
