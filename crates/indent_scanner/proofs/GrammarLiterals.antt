-- The forms of chars and texts are what the grammar says, with their characters.
use Rattle.std.proofs.Common.{◌≡◌, ℕ, suc, ◌+◌, ◌*◌, ◌-◌, ◌<◌, ◌≤◌, List, [], ◌∷◌, ◌++◌, length, get_or, Bool, true, false, refl, sym, ap, subst, ◌∙◌, arith}
use Rattle.std.specs.Prelude.{Option, Some, None, cond, ◌==◌, ◌||◌, nat_le}
use Rattle.std.proofs.lemmas.Bool.{eqb-true, leb-true, le-leb}
use Rattle.indent_scanner.specs.declared.shape.Quote.{Quote}
use Rattle.indent_scanner.specs.declared.shape.Quote.TheVariants as Q
use Rattle.indent_scanner.specs.declared.shape.Shape.{Shape}
use Rattle.indent_scanner.specs.declared.shape.Shape.TheVariants.{Inside, Escaped, Hex, Decimal, CharWhole, TextWhole}
use Rattle.indent_scanner.specs.Bytes.{is_in, is_digit, hex_value, simple_escape}
use Rattle.indent_scanner.specs.Shape.{form, and_then, is_whole, character, plain_step, inside_step, decimal_step, simple_step, escaped_step, hex_step}
use Rattle.indent_scanner.specs.ByForm.{onto, value_of, read_on, values}
use Rattle.indent_scanner.specs.Grammar.{Decimals, last_digit, more_digits, Character, plain, escape, hex_escape, decimal_escape, TextRest, text_closes}
use Rattle.indent_scanner.specs.Grammar.{text_goes}
use Rattle.indent_scanner.proofs.Bools.{by_test, either, in_range, at_byte}

abbrev after : Option Shape → ℕ → List ℕ → Option Shape
after o n bytes = and_then o (λ t. form t n bytes)

abbrev quote_byte : Quote → ℕ
quote_byte Q.Char = 39
quote_byte Q.Text = 34

-- a character may begin here
abbrev Opens : Quote → Option ℕ → Type 0
Opens q o = (b : ℕ) → (b == quote_byte q) ≡ false → inside_step q o b ≡ plain_step q b

text_opens : (o : Option ℕ) → Opens Q.Text o
text_opens o b e = ap (λ x. cond x (Some TextWhole) (plain_step Q.Text b)) e

char_opens : Opens Q.Char None
char_opens b e = ap (λ x. cond x None (plain_step Q.Char b)) e

no_slash : (q : Quote) → (92 == quote_byte q) ≡ false
no_slash Q.Char = refl
no_slash Q.Text = refl

-- ---- bytes of escapes

abbrev IsApart : ℕ → Type 0
IsApart b = (is_digit b ≡ false) × ((b == 120) ≡ false)

-- what stands for a value behind a backslash is no digit, and no `x`
simple_apart : (b value : ℕ) → simple_escape b ≡ Some value → IsApart b
simple_apart b value e = by_tests (b == 110 || b == 108) (b == 114 || b == 99) (b == 116) (b == 101) (b == 92 || (b == 34 || b == 39)) refl refl refl
    refl refl e
  where
    by_tests : (s t u v w : Bool) → (b == 110 || b == 108) ≡ s → (b == 114 || b == 99) ≡ t → (b == 116) ≡ u → (b == 101) ≡ v
        → (b == 92 || (b == 34 || b == 39)) ≡ w
        → cond s (Some 10) (cond t (Some 13) (cond u (Some 9) (cond v (Some 27) (cond w (Some b) None)))) ≡ Some value → IsApart b
    by_tests true t u v w d e f g h x = either _ _ _ d (at_byte IsApart b 110 (refl, refl)) (at_byte IsApart b 108 (refl, refl))
    by_tests false true u v w d e f g h x = either _ _ _ e (at_byte IsApart b 114 (refl, refl)) (at_byte IsApart b 99 (refl, refl))
    by_tests false false true v w d e f g h x = at_byte IsApart b 116 (refl, refl) f
    by_tests false false false true w d e f g h x = at_byte IsApart b 101 (refl, refl) g
    by_tests false false false false true d e f g h x = either _ _ _ h (at_byte IsApart b 92 (refl, refl))
        (λ k. either _ _ _ k (at_byte IsApart b 34 (refl, refl)) (at_byte IsApart b 39 (refl, refl)))
    by_tests false false false false false d e f g h x = cc

hex_small : (b d : ℕ) → hex_value b ≡ Some d → d ≤ 15
hex_small b d e = by_tests (is_digit b) (is_in 97 102 b) (is_in 65 70 b) refl refl refl e
  where
    by_tests : (u v w : Bool) → is_digit b ≡ u → is_in 97 102 b ≡ v → is_in 65 70 b ≡ w
        → cond u (Some (b - 48)) (cond v (Some (b - 87)) (cond w (Some (b - 55)) None)) ≡ Some d → d ≤ 15
    by_tests true v w e f g h = let r = in_range 48 57 b e in let k : b - 48 ≡ d = cc in omega (arith, k, r.1)
    by_tests false true w e f g h = let r = in_range 97 102 b f in let k : b - 87 ≡ d = cc in omega (arith, k, r.1)
    by_tests false false true e f g h = let r = in_range 65 70 b g in let k : b - 55 ≡ d = cc in omega (arith, k, r.1)
    by_tests false false false e f g h = cc

-- ---- steps

slash_is : (q : Quote) (o : Option ℕ) → Opens q o → inside_step q o 92 ≡ Some (Escaped q)
slash_is q o opens = opens 92 (no_slash q)

plain_is : (q : Quote) (o : Option ℕ) (b : ℕ) → Opens q o → (b == quote_byte q) ≡ false → (b == 92) ≡ false → (b == 10) ≡ false
    → inside_step q o b ≡ Some (Inside q (Some b))
plain_is q o b opens e f g = opens b e ∙ ap (λ x. cond x (Some (Escaped q)) (cond (b == 10) None (Some (Inside q (Some b))))) f
    ∙ ap (λ x. cond x None (Some (Inside q (Some b)))) g

character_is : (q : Quote) (v : ℕ) → v ≤ 255 → character q v ≡ Some (Inside q (Some v))
character_is q v le = ap (λ x. cond x (Some (Inside q (Some v))) None) (le-leb v 255 le)

low_is : (q : Quote) (b c high low : ℕ) → hex_value b ≡ Some high → hex_value c ≡ Some low → hex_step q (Some high) (hex_value c)
    ≡ Some (Inside q (Some (high * 16 + low)))
low_is q b c high low e f =
    let g = hex_small b high e in
    let h = hex_small c low f in
    ap (hex_step q (Some high)) f ∙ character_is q (high * 16 + low) (omega (arith, g, h))

simple_is : (q : Quote) (b v next : ℕ) → simple_escape b ≡ Some v → escaped_step q b next ≡ Some (Inside q (Some v))
simple_is q b v next g =
    let a = simple_apart b v g in let third = simple_step q (simple_escape b) in
    ap (λ x. cond x (decimal_step q 0 b next) (cond (b == 120) (Some (Hex q None)) third)) a.0 ∙ ap (λ x. cond x (Some (Hex q None)) third) a.1
    ∙ ap (simple_step q) g

digit_is : (q : Quote) (b next : ℕ) → is_digit b ≡ true → escaped_step q b next ≡ decimal_step q 0 b next
digit_is q b next e = ap (λ x. cond x (decimal_step q 0 b next) (cond (b == 120) (Some (Hex q None)) (simple_step q (simple_escape b)))) e

abbrev more : Quote → ℕ → Option Shape
more q w = cond (nat_le w 255) (Some (Decimal q w)) None

last_is : (q : Quote) (v b next : ℕ) → is_digit next ≡ false → v * 10 + (b - 48) ≤ 255 → decimal_step q v b next ≡ Some (Inside q (Some (v * 10 + (b - 48))))
last_is q v b next e le = ap (λ x. cond x (more q (v * 10 + (b - 48))) (character q (v * 10 + (b - 48)))) e ∙ character_is q (v * 10 + (b - 48)) le

more_is : (q : Quote) (v b next : ℕ) → is_digit next ≡ true → v * 10 + (b - 48) ≤ 255 → decimal_step q v b next ≡ Some (Decimal q (v * 10 + (b - 48)))
more_is q v b next e le = ap (λ x. cond x (more q (v * 10 + (b - 48))) (character q (v * 10 + (b - 48)))) e
    ∙ ap (λ x. cond x (Some (Decimal q (v * 10 + (b - 48)))) None) (le-leb (v * 10 + (b - 48)) 255 le)

-- ---- what stands behind

head_same : (bytes rest : List ℕ) → 0 < length bytes → get_or (bytes ++ rest) 0 0 ≡ get_or bytes 0 0
head_same [] rest lt = (let f : ⊥ = omega arith in absurd f)
head_same (b ∷ bytes) rest lt = refl

character_some : (quote v : ℕ) (bytes behind : List ℕ) → Character quote bytes v behind → 0 < length bytes
character_some quote _ _ behind (plain b _ e f g) = omega arith
character_some quote v _ behind (escape b _ _ e) = omega arith
character_some quote _ _ behind (hex_escape b c high low _ e f) = omega arith
character_some quote v _ behind (decimal_escape _ bytes _ d le) = omega arith

text_some : (text vs : List ℕ) → TextRest text vs → 0 < length text
text_some _ _ text_closes = omega arith
text_some text _ (text_goes v _ behind vs c t) = character_some 34 v text behind c

grows : (v w : ℕ) (bytes behind : List ℕ) → Decimals v bytes w behind → v ≤ w
grows v _ _ behind (last_digit _ b _ e f) = omega arith
grows v w _ behind (more_digits _ b _ bytes _ e f d) = let g = grows (v * 10 + (b - 48)) w bytes behind d in omega (arith, g)

small : (v w : ℕ) (bytes behind : List ℕ) → Decimals v bytes w behind → w ≤ 255 → v ≤ 255
small v w bytes behind d le = let f = grows v w bytes behind d in omega (arith, le, f)

digits_some : (v w : ℕ) (bytes behind : List ℕ) → Decimals v bytes w behind → 0 < length bytes
digits_some v _ _ behind (last_digit _ b _ e f) = omega arith
digits_some v w _ behind (more_digits _ b _ bytes _ e f d) = omega arith

-- ---- from the grammar

module _ (q : Quote) (rest : List ℕ) where
  decimal_to : (v w : ℕ) (bytes behind : List ℕ) → Decimals v bytes w behind → w ≤ 255 → 0 < length behind → form (Decimal q v) (length bytes) (bytes ++ rest)
      ≡ form (Inside q (Some w)) (length behind) (behind ++ rest)
  decimal_to v _ _ bytes (last_digit _ b _ e f) le some = ap (λ o. after o (length bytes) (bytes ++ rest)) (ap (decimal_step q v b) (head_same bytes rest some)
      ∙ last_is q v b (get_or bytes 0 0) f le)
  decimal_to v w _ behind (more_digits _ b _ bytes _ e f d) le some =
      ap (λ o. after o (length bytes) (bytes ++ rest)) (ap (decimal_step q v b) (head_same bytes rest (digits_some _ w bytes behind d))
      ∙ more_is q v b (get_or bytes 0 0) f (small _ w bytes behind d le))
      ∙ decimal_to (v * 10 + (b - 48)) w bytes behind d le some

  escape_to : (w : ℕ) (bytes behind : List ℕ) → Decimals 0 bytes w behind → form (Escaped q) (length bytes) (bytes ++ rest) ≡ form (Decimal q 0) (length bytes)
      (bytes ++ rest)
  escape_to _ _ bytes (last_digit _ b _ e f) = ap (λ o. after o (length bytes) (bytes ++ rest)) (digit_is q b (get_or (bytes ++ rest) 0 0) e)
  escape_to w _ behind (more_digits _ b _ bytes _ e f d) = ap (λ o. after o (length bytes) (bytes ++ rest)) (digit_is q b (get_or (bytes ++ rest) 0 0) e)

  character_to : (o : Option ℕ) (v : ℕ) (bytes behind : List ℕ) → Opens q o → Character (quote_byte q) bytes v behind → 0 < length behind
      → form (Inside q o) (length bytes) (bytes ++ rest) ≡ form (Inside q (Some v)) (length behind) (behind ++ rest)
  character_to o _ _ behind opens (plain b _ e f g) some = ap (λ x. after x (length behind) (behind ++ rest)) (plain_is q o b opens e f g)
  character_to o v _ behind opens (escape b _ _ e) some =
      ap (λ x. after x (suc (length behind)) (b ∷ behind ++ rest)) (slash_is q o opens)
      ∙ ap (λ x. after x (length behind) (behind ++ rest)) (simple_is q b v (get_or (behind ++ rest) 0 0) e)
  character_to o _ _ behind opens (hex_escape b c high low _ e f) some =
      ap (λ x. after x (suc (suc (suc (length behind)))) (120 ∷ b ∷ c ∷ behind ++ rest)) (slash_is q o opens)
      ∙ ap (λ x. after (hex_step q None x) (suc (length behind)) (c ∷ behind ++ rest)) e
      ∙ ap (λ x. after x (length behind) (behind ++ rest)) (low_is q b c high low e f)
  character_to o v _ behind opens (decimal_escape _ bytes _ d le) some =
      ap (λ x. after x (length bytes) (bytes ++ rest)) (slash_is q o opens) ∙ escape_to v bytes behind d ∙ decimal_to 0 v bytes behind d le some

pub text_to : (o : Option ℕ) (text rest vs : List ℕ) → TextRest text vs → form (Inside Q.Text o) (length text) (text ++ rest) ≡ Some TextWhole
text_to o _ rest _ text_closes = refl
text_to o text rest _ (text_goes v _ behind vs c t) = character_to Q.Text rest o v text behind (text_opens o) c (text_some behind vs t)
    ∙ text_to (Some v) behind rest vs t

pub char_to : (v : ℕ) (text rest : List ℕ) → Character 39 text v (39 ∷ []) → form (Inside Q.Char None) (length text) (text ++ rest) ≡ Some (CharWhole v)
char_to v text rest c = character_to Q.Char rest None v text (39 ∷ []) char_opens c (omega arith)

-- ---- values

read_at : (o : Option Shape) (s : Shape) (bytes : List ℕ) → o ≡ Some s → read_on o (λ t. values t bytes) ≡ onto (value_of s) (values s bytes)
read_at o s bytes e = ap (λ x. read_on x (λ t. values t bytes)) e

decimal_values : (v w : ℕ) (bytes behind : List ℕ) → Decimals v bytes w behind → w ≤ 255 → values (Decimal Q.Text v) bytes
    ≡ w ∷ values (Inside Q.Text (Some w)) behind
decimal_values v _ _ bytes (last_digit _ b _ e f) h = read_at _ (Inside Q.Text (Some (v * 10 + (b - 48)))) bytes (last_is Q.Text v b (get_or bytes 0 0) f h)
decimal_values v w _ behind (more_digits _ b _ bytes _ e f d) h = read_at _ (Decimal Q.Text (v * 10 + (b - 48))) bytes
    (more_is Q.Text v b (get_or bytes 0 0) f (small _ w bytes behind d h)) ∙ decimal_values (v * 10 + (b - 48)) w bytes behind d h

escape_values : (w : ℕ) (bytes behind : List ℕ) → Decimals 0 bytes w behind → values (Escaped Q.Text) bytes ≡ values (Decimal Q.Text 0) bytes
escape_values _ _ bytes (last_digit _ b _ e f) = ap (λ x. read_on x (λ t. values t bytes)) (digit_is Q.Text b (get_or bytes 0 0) e)
escape_values w _ behind (more_digits _ b _ bytes _ e f d) = ap (λ x. read_on x (λ t. values t bytes)) (digit_is Q.Text b (get_or bytes 0 0) e)

character_values : (o : Option ℕ) (v : ℕ) (bytes behind : List ℕ) → Character 34 bytes v behind → values (Inside Q.Text o) bytes
    ≡ v ∷ values (Inside Q.Text (Some v)) behind
character_values o _ _ behind (plain b _ e f g) = read_at _ (Inside Q.Text (Some b)) behind (plain_is Q.Text o b (text_opens o) e f g)
character_values o v _ behind (escape b _ _ e) = read_at _ (Inside Q.Text (Some v)) behind (simple_is Q.Text b v (get_or behind 0 0) e)
character_values o _ _ behind (hex_escape b c high low _ e f) =
    read_at _ (Hex Q.Text (Some high)) (c ∷ behind) (ap (hex_step Q.Text None) e)
    ∙ read_at _ (Inside Q.Text (Some (high * 16 + low))) behind (low_is Q.Text b c high low e f)
character_values o v _ behind (decimal_escape _ bytes _ d le) = escape_values v bytes behind d ∙ decimal_values 0 v bytes behind d le

text_values : (o : Option ℕ) (text vs : List ℕ) → TextRest text vs → values (Inside Q.Text o) text ≡ vs
text_values o _ _ text_closes = refl
text_values o text _ (text_goes v _ behind vs c t) = character_values o v text behind c ∙ ap (λ x. v ∷ x) (text_values (Some v) behind vs t)

pub values_are : (text vs : List ℕ) → TextRest text vs → values (Inside Q.Text None) text ≡ vs
values_are text vs t = text_values None text vs t

-- ---- to the grammar

abbrev Reaches : Shape → Shape → List ℕ → List ℕ → Type 0
Reaches whole s text rest = form s (length text) (text ++ rest) ≡ Some whole

abbrev AfterStep : Shape → Option Shape → List ℕ → List ℕ → Type 0
AfterStep whole o text rest = after o (length text) (text ++ rest) ≡ Some whole

-- a character, and what is so of its value and of what stands behind it
record SomeCharacter (q : Quote) (Behind : ℕ → List ℕ → Type 0) (text : List ℕ) : Type 0 where
  value : ℕ
  behind : List ℕ
  one : Character (quote_byte q) text value behind
  goes : Behind value behind

record SomeDecimal (Behind : ℕ → List ℕ → Type 0) (v : ℕ) (text : List ℕ) : Type 0 where
  value : ℕ
  behind : List ℕ
  digits : Decimals v text value behind
  fits : value ≤ 255
  goes : Behind value behind

record FromText (q : Quote) (whole : Shape) (Behind : ℕ → List ℕ → Type 0) (text rest : List ℕ) : Type 0 where
  inside : (v : ℕ) → Reaches whole (Inside q (Some v)) text rest → Behind v text
  escaped : Reaches whole (Escaped q) text rest → SomeCharacter q Behind (92 ∷ text)
  hex : Reaches whole (Hex q None) text rest → SomeCharacter q Behind (92 ∷ 120 ∷ text)
  hex_low : (h x : ℕ) → hex_value x ≡ Some h → Reaches whole (Hex q (Some h)) text rest → SomeCharacter q Behind (92 ∷ 120 ∷ x ∷ text)
  decimal : (v : ℕ) → is_digit (get_or (text ++ rest) 0 0) ≡ true → Reaches whole (Decimal q v) text rest → SomeDecimal Behind v text

module _ (q : Quote) (whole : Shape) (is : is_whole whole ≡ true) (Behind : ℕ → List ℕ → Type 0) (rest : List ℕ) where
  moved : (o p : Option Shape) (text : List ℕ) → o ≡ p → AfterStep whole o text rest → AfterStep whole p text rest
  moved o p text e h = subst (λ x. AfterStep whole x text rest) e h

  no_form : (text : List ℕ) → AfterStep whole None text rest → ⊥
  no_form text e = cc

  not_done : (s : Shape) → is_whole s ≡ false → Reaches whole s [] rest → ⊥
  not_done s lacks e = let same : s ≡ whole = cc in cc

  not_empty : (s : Shape) (text : List ℕ) → is_whole s ≡ false → Reaches whole s text rest → 0 < length text
  not_empty s [] lacks e = absurd (not_done s lacks e)
  not_empty s (b ∷ text) lacks e = omega arith

  -- a character goes on where its value is a byte
  character_from : (v : ℕ) (text : List ℕ) → AfterStep whole (character q v) text rest → (v ≤ 255) × Reaches whole (Inside q (Some v)) text rest
  character_from v text h = by_test _ (nat_le v 255)
      (λ e. (leb-true v 255 e, moved (character q v) (Some (Inside q (Some v))) text (ap (λ x. cond x (Some (Inside q (Some v))) None) e) h))
      (λ e. absurd (no_form text (moved (character q v) None text (ap (λ x. cond x (Some (Inside q (Some v))) None) e) h)))

  -- a character that begins with this byte
  opened_from : (o : Option ℕ) (b : ℕ) (text : List ℕ) → Opens q o → (b == quote_byte q) ≡ false → FromText q whole Behind text rest
      → AfterStep whole (inside_step q o b) text rest → SomeCharacter q Behind (b ∷ text)
  opened_from o b text opens e f h =
      let last = Some (Inside q (Some b)) in
      let step = moved (inside_step q o b) (plain_step q b) text (opens b e) h in
      by_test _ (b == 92)
      (λ g. subst (SomeCharacter q Behind) (ap (λ x. x ∷ text) (sym (eqb-true b 92 g)))
      (f.escaped (moved (plain_step q b) (Some (Escaped q)) text (ap (λ x. cond x (Some (Escaped q)) (cond (b == 10) None last)) g) step)))
      (λ g. let other = moved (plain_step q b) (cond (b == 10) None last) text (ap (λ x. cond x (Some (Escaped q)) (cond (b == 10) None last)) g) step in
      by_test _ (b == 10)
      (λ k. absurd (no_form text (moved (cond (b == 10) None last) None text (ap (λ x. cond x None last) k) other)))
      (λ k. record {
        value = b;
        behind = text;
        one = plain b text e g k;
        goes = f.inside b (moved (cond (b == 10) None last) last text (ap (λ x. cond x None last) k) other);
      }))

  simple_from : (b : ℕ) (text : List ℕ) (o : Option ℕ) → simple_escape b ≡ o → FromText q whole Behind text rest → AfterStep whole (simple_step q o) text rest
      → SomeCharacter q Behind (92 ∷ b ∷ text)
  simple_from b text None is f h = absurd (no_form text h)
  simple_from b text (Some v) is f h = record { value = v; behind = text; one = escape b v text is; goes = f.inside v h }

  decimal_from : (v b : ℕ) (text : List ℕ) → is_digit b ≡ true → FromText q whole Behind text rest
      → AfterStep whole (decimal_step q v b (get_or (text ++ rest) 0 0)) text rest → SomeDecimal Behind v (b ∷ text)
  decimal_from v b text digit f h =
      let next = get_or (text ++ rest) 0 0 in let w = v * 10 + (b - 48) in
      by_test _ (is_digit next)
      (λ e. let go = moved (decimal_step q v b next) (more q w) text (ap (λ x. cond x (more q w) (character q w)) e) h in
      by_test _ (nat_le w 255)
      (λ g. let closes = moved (more q w) (Some (Decimal q w)) text (ap (λ x. cond x (Some (Decimal q w)) None) g) go in
      let d = f.decimal w e closes in let some = not_empty (Decimal q w) text refl closes in
      record {
        value = d.value;
        behind = d.behind;
        digits = more_digits v b d.value text d.behind digit (ap is_digit (sym (head_same text rest some)) ∙ e)
            d.digits;
        fits = d.fits;
        goes = d.goes;
      })
      (λ g. absurd (no_form text (moved (more q w) None text (ap (λ x. cond x (Some (Decimal q w)) None) g) go))))
      (λ e. let c = character_from w text (moved (decimal_step q v b next) (character q w) text (ap (λ x. cond x (more q w) (character q w)) e) h) in
      let some = not_empty (Inside q (Some w)) text refl c.1 in
      record {
        value = w;
        behind = text;
        digits = last_digit v b text digit (ap is_digit (sym (head_same text rest some)) ∙ e);
        fits = c.0;
        goes = f.inside w c.1;
      })

  escaped_from : (b : ℕ) (text : List ℕ) → FromText q whole Behind text rest → AfterStep whole (escaped_step q b (get_or (text ++ rest) 0 0)) text rest
      → SomeCharacter q Behind (92 ∷ b ∷ text)
  escaped_from b text f h =
      let next = get_or (text ++ rest) 0 0 in
      let third = simple_step q (simple_escape b) in
      let second = cond (b == 120) (Some (Hex q None)) third in
      by_test _ (is_digit b)
      (λ e. let d = decimal_from 0 b text e f (moved (escaped_step q b next) (decimal_step q 0 b next) text (digit_is q b next e) h) in
      record { value = d.value; behind = d.behind; one = decimal_escape d.value (b ∷ text) d.behind d.digits d.fits; goes = d.goes })
      (λ e. let go = moved (escaped_step q b next) second text (ap (λ x. cond x (decimal_step q 0 b next) second) e) h in
      by_test _ (b == 120)
      (λ g. subst (λ x. SomeCharacter q Behind (92 ∷ x ∷ text)) (sym (eqb-true b 120 g))
      (f.hex (moved second (Some (Hex q None)) text (ap (λ x. cond x (Some (Hex q None)) third) g) go)))
      (λ g. simple_from b text (simple_escape b) refl f (moved second third text (ap (λ x. cond x (Some (Hex q None)) third) g) go)))

  hex_from : (b : ℕ) (text : List ℕ) (o : Option ℕ) → hex_value b ≡ o → FromText q whole Behind text rest → AfterStep whole (hex_step q None o) text rest
      → SomeCharacter q Behind (92 ∷ 120 ∷ b ∷ text)
  hex_from b text None is f h = absurd (no_form text h)
  hex_from b text (Some high) is f h = f.hex_low high b is h

  low_from : (high x b : ℕ) (text : List ℕ) (o : Option ℕ) → hex_value x ≡ Some high → hex_value b ≡ o → FromText q whole Behind text rest
      → AfterStep whole (hex_step q (Some high) o) text rest → SomeCharacter q Behind (92 ∷ 120 ∷ x ∷ b ∷ text)
  low_from high x b text None first is f h = absurd (no_form text h)
  low_from high x b text (Some low) first is f h =
      let c = character_from (high * 16 + low) text h in
      record { value = high * 16 + low; behind = text; one = hex_escape x b high low text first is; goes = f.inside (high * 16 + low) c.1 }

  from_nothing : FromText q whole Behind [] rest
  from_nothing = record {
    inside = λ v e. absurd (not_done (Inside q (Some v)) refl e);
    escaped = λ e. absurd (not_done (Escaped q) refl e);
    hex = λ e. absurd (not_done (Hex q None) refl e);
    hex_low = λ h x is e. absurd (not_done (Hex q (Some h)) refl e);
    decimal = λ v d e. absurd (not_done (Decimal q v) refl e);
  }

  -- one byte before, where it is so of what stands behind a character
  from_byte : (b : ℕ) (text : List ℕ) → ((v : ℕ) → AfterStep whole (inside_step q (Some v) b) text rest → Behind v (b ∷ text))
      → FromText q whole Behind text rest → FromText q whole Behind (b ∷ text) rest
  from_byte b text inside before = record {
    inside = inside;
    escaped = λ e. escaped_from b text before e;
    hex = λ e. hex_from b text (hex_value b) refl before e;
    hex_low = λ h x is e. low_from h x b text (hex_value b) is refl before e;
    decimal = λ v d e. decimal_from v b text d before e;
  }

-- ---- texts

abbrev SomeRest : ℕ → List ℕ → Type 0
SomeRest v text = (vs : List ℕ) × TextRest text vs

closed_once : (text rest : List ℕ) → Reaches TextWhole TextWhole text rest → text ≡ []
closed_once [] rest e = refl
closed_once (b ∷ text) rest e = cc

text_inside : (o : Option ℕ) (v b : ℕ) (text rest : List ℕ) → FromText Q.Text TextWhole SomeRest text rest
    → AfterStep TextWhole (inside_step Q.Text o b) text rest → SomeRest v (b ∷ text)
text_inside o v b text rest f h = by_test _ (b == 34)
    (λ e. let gone = closed_once text rest (moved Q.Text TextWhole refl SomeRest rest (inside_step Q.Text o b) (Some TextWhole) text
    (ap (λ x. cond x (Some TextWhole) (plain_step Q.Text b)) e) h) in
    subst (SomeRest v) (ap (λ x. x ∷ text) (sym (eqb-true b 34 e))) (subst (λ x. SomeRest v (34 ∷ x)) (sym gone) ([], text_closes)))
    (λ e. let c = opened_from Q.Text TextWhole refl SomeRest rest o b text (text_opens o) e f h in
    (c.value ∷ c.goes.0, text_goes c.value (b ∷ text) c.behind c.goes.0 c.one c.goes.1))

from_text : (text rest : List ℕ) → FromText Q.Text TextWhole SomeRest text rest
from_text [] rest = from_nothing Q.Text TextWhole refl SomeRest rest
from_text (b ∷ text) rest =
    let before = from_text text rest in
    from_byte Q.Text TextWhole refl SomeRest rest b text (λ v h. text_inside (Some v) v b text rest before h) before

pub text_from : (text rest : List ℕ) → form (Inside Q.Text None) (length text) (text ++ rest) ≡ Some TextWhole
    → (characters : List ℕ) × TextRest text characters
text_from [] rest e = (let f : ⊥ = cc in absurd f)
text_from (b ∷ text) rest e = text_inside None 0 b text rest (from_text text rest) e

-- ---- chars

abbrev Ends : ℕ → ℕ → List ℕ → Type 0
Ends w v text = (v ≡ w) × (text ≡ 39 ∷ [])

char_closed : (v w : ℕ) (text rest : List ℕ) → Reaches (CharWhole w) (CharWhole v) text rest → (v ≡ w) × (text ≡ [])
char_closed v w [] rest e = (cc, refl)
char_closed v w (b ∷ text) rest e = (let f : ⊥ = cc in absurd f)

char_inside : (w v b : ℕ) (text rest : List ℕ) → AfterStep (CharWhole w) (inside_step Q.Char (Some v) b) text rest → Ends w v (b ∷ text)
char_inside w v b text rest h = by_test _ (b == 39)
    (λ e. let c = char_closed v w text rest (moved Q.Char (CharWhole w) refl (Ends w) rest (inside_step Q.Char (Some v) b) (Some (CharWhole v)) text
    (ap (λ x. cond x (Some (CharWhole v)) None) e) h) in
    (c.0, ap (λ x. x ∷ text) (eqb-true b 39 e) ∙ ap (λ x. 39 ∷ x) c.1))
    (λ e. absurd
    (no_form Q.Char (CharWhole w) refl (Ends w) rest text (moved Q.Char (CharWhole w) refl (Ends w) rest (inside_step Q.Char (Some v) b) None text
    (ap (λ x. cond x (Some (CharWhole v)) None) e) h)))

from_char : (w : ℕ) (text rest : List ℕ) → FromText Q.Char (CharWhole w) (Ends w) text rest
from_char w [] rest = from_nothing Q.Char (CharWhole w) refl (Ends w) rest
from_char w (b ∷ text) rest = from_byte Q.Char (CharWhole w) refl (Ends w) rest b text (λ v h. char_inside w v b text rest h) (from_char w text rest)

pub char_from : (w : ℕ) (text rest : List ℕ) → form (Inside Q.Char None) (length text) (text ++ rest) ≡ Some (CharWhole w) → Character 39 text w (39 ∷ [])
char_from w [] rest e = (let f : ⊥ = cc in absurd f)
char_from w (b ∷ text) rest e = by_test _ (b == 39)
    (λ f. absurd
    (no_form Q.Char (CharWhole w) refl (Ends w) rest text (moved Q.Char (CharWhole w) refl (Ends w) rest (inside_step Q.Char None b) None text
    (ap (λ x. cond x None (plain_step Q.Char b)) f) e)))
    (λ f. let c = opened_from Q.Char (CharWhole w) refl (Ends w) rest None b text char_opens f (from_char w text rest) e in
    subst (λ x. Character 39 (b ∷ text) x (39 ∷ [])) c.goes.0 (subst (λ x. Character 39 (b ∷ text) c.value x) c.goes.1 c.one))
