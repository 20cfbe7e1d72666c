-- The form of a name is what the grammar says.
use Rattle.std.proofs.Common.{◌≡◌, ℕ, zero, suc, List, [], ◌∷◌, ◌++◌, length, Bool, true, false, refl, sym, ap, subst, ◌∙◌, arith}
use Rattle.std.specs.Prelude.{Option, Some, None, cond, ◌==◌, ◌||◌}
use Rattle.std.proofs.lemmas.Bool.{eqb-true, ne_eqb}
use Rattle.indent_scanner.specs.declared.shape.Shape.{Shape}
use Rattle.indent_scanner.specs.declared.shape.Shape.TheVariants.{Word, WordUnder, BrokenWord}
use Rattle.indent_scanner.specs.Bytes.{is_letter, is_digit, is_word, is_in}
use Rattle.indent_scanner.specs.Shape.{form, and_then, word_step, under_step}
use Rattle.indent_scanner.specs.Grammar.{is_alphanumeric, NameRest, name_done, name_plain, name_under}
use Rattle.indent_scanner.proofs.Bools.{either, or_left, or_right, in_range, not_both}

-- ---- names

abbrev after : Option Shape → ℕ → List ℕ → Option Shape
after o n bytes = and_then o (λ t. form t n bytes)

-- what a byte of a word is
data WordByte (b : ℕ) : Type 0 where
  is_other : is_word b ≡ false → WordByte b
  is_under : is_word b ≡ true → (b == 95) ≡ true → WordByte b
  is_letter_or_digit : is_word b ≡ true → (b == 95) ≡ false → WordByte b

word_byte : (b : ℕ) → WordByte b
word_byte b = by_test (is_word b) (b == 95) refl refl
  where
    by_test : (v w : Bool) → is_word b ≡ v → (b == 95) ≡ w → WordByte b
    by_test false w e f = is_other e
    by_test true true e f = is_under e f
    by_test true false e f = is_letter_or_digit e f

two_tests : {A : Type 0} (v w x y : Bool) (a b c : A) → v ≡ x → w ≡ y → cond v (cond w a b) c ≡ cond x (cond y a b) c
two_tests v w x y a b c e f = ap (λ z. cond z (cond w a b) c) e ∙ ap (λ z. cond x (cond z a b) c) f

sound_is : (b : ℕ) → is_alphanumeric b ≡ true → (is_word b ≡ true) × ((b == 95) ≡ false)
sound_is b e = either _ (is_letter b) (is_digit b) e
    (λ f. (
      or_left (is_letter b) (is_digit b || b == 95) f,
      either _ (is_in 65 90 b) (is_in 97 122 b) f
          (λ g. ne_eqb b 95 (λ n. (let r = in_range 65 90 b g in omega (arith, n, r.1))))
          (λ g. ne_eqb b 95 (λ n. (let r = in_range 97 122 b g in omega (arith, n, r.0)))),
    ))
    (λ f. (
      or_right (is_letter b) (is_digit b || b == 95) (or_left (is_digit b) (b == 95) f),
      ne_eqb b 95 (λ n. (let r = in_range 48 57 b f in omega (arith, n, r.1))),
    ))

sound_so : (b : ℕ) → is_word b ≡ true → (b == 95) ≡ false → is_alphanumeric b ≡ true
sound_so b e f = either _ (is_letter b) (is_digit b || b == 95) e (λ g. or_left (is_letter b) (is_digit b) g)
    (λ g. either _ (is_digit b) (b == 95) g (λ h. or_right (is_letter b) (is_digit b) h) (λ h. absurd (not_both (b == 95) h f)))

broken_step : (v : Bool) (n : ℕ) (bytes : List ℕ) (t : Shape) → (form BrokenWord n bytes ≡ Some t → t ≡ BrokenWord)
    → after (cond v (Some BrokenWord) None) n bytes ≡ Some t → t ≡ BrokenWord
broken_step true n bytes t h e = h e
broken_step false n bytes t h e = cc

broken_stays : (n : ℕ) (bytes : List ℕ) (t : Shape) → form BrokenWord n bytes ≡ Some t → t ≡ BrokenWord
broken_stays zero bytes t e = cc
broken_stays (suc n) [] t e = cc
broken_stays (suc n) (b ∷ bytes) t e = broken_step (is_word b) n bytes t (broken_stays n bytes t) e

pub word_other : (b : ℕ) → is_word b ≡ false → word_step b ≡ None
word_other b f = ap (λ v. cond v (cond (b == 95) (Some WordUnder) (Some Word)) None) f

pub word_under : (b : ℕ) → is_word b ≡ true → (b == 95) ≡ true → word_step b ≡ Some WordUnder
word_under b f u = two_tests (is_word b) (b == 95) true true (Some WordUnder) (Some Word) None f u

pub word_sound : (b : ℕ) → is_word b ≡ true → (b == 95) ≡ false → word_step b ≡ Some Word
word_sound b f u = two_tests (is_word b) (b == 95) true false (Some WordUnder) (Some Word) None f u

pub under_other : (b : ℕ) → is_word b ≡ false → under_step b ≡ None
under_other b f = ap (λ v. cond v (cond (b == 95) (Some BrokenWord) (Some Word)) None) f

pub under_under : (b : ℕ) → is_word b ≡ true → (b == 95) ≡ true → under_step b ≡ Some BrokenWord
under_under b f u = two_tests (is_word b) (b == 95) true true (Some BrokenWord) (Some Word) None f u

pub under_sound : (b : ℕ) → is_word b ≡ true → (b == 95) ≡ false → under_step b ≡ Some Word
under_sound b f u = two_tests (is_word b) (b == 95) true false (Some BrokenWord) (Some Word) None f u

onward : (o p : Option Shape) (n : ℕ) (bytes : List ℕ) (t : Shape) → o ≡ p → after o n bytes ≡ Some t → after p n bytes ≡ Some t
onward o p n bytes t e h = subst (λ x. after x n bytes ≡ Some t) e h

name_byte : (b n : ℕ) (text bytes : List ℕ) → (form Word n bytes ≡ Some Word → NameRest text) → (form WordUnder n bytes ≡ Some Word → NameRest (95 ∷ text))
    → WordByte b → after (word_step b) n bytes ≡ Some Word → NameRest (b ∷ text)
name_byte b n text bytes sound under (is_other f) e = (let g = onward (word_step b) None n bytes Word (word_other b f) e in let h : ⊥ = cc in absurd h)
name_byte b n text bytes sound under (is_under f u) e = subst (λ x. NameRest (x ∷ text)) (sym (eqb-true b 95 u))
    (under (onward (word_step b) (Some WordUnder) n bytes Word (word_under b f u) e))
name_byte b n text bytes sound under (is_letter_or_digit f u) e = name_plain b text (sound_so b f u)
    (sound (onward (word_step b) (Some Word) n bytes Word (word_sound b f u) e))

behind_under : (b n : ℕ) (text bytes : List ℕ) → (form Word n bytes ≡ Some Word → NameRest text) → WordByte b → after (under_step b) n bytes ≡ Some Word
    → NameRest (95 ∷ b ∷ text)
behind_under b n text bytes sound (is_other f) e = (let g = onward (under_step b) None n bytes Word (under_other b f) e in let h : ⊥ = cc in absurd h)
behind_under b n text bytes sound (is_under f u) e =
    (let g = broken_stays n bytes Word (onward (under_step b) (Some BrokenWord) n bytes Word (under_under b f u) e) in let h : ⊥ = cc in absurd h)
behind_under b n text bytes sound (is_letter_or_digit f u) e = name_under b text (sound_so b f u)
    (sound (onward (under_step b) (Some Word) n bytes Word (under_sound b f u) e))

names_from : (text rest : List ℕ) → (form Word (length text) (text ++ rest) ≡ Some Word → NameRest text)
    × (form WordUnder (length text) (text ++ rest) ≡ Some Word → NameRest (95 ∷ text))
names_from [] rest = (λ e. name_done, λ e. (let h : ⊥ = cc in absurd h))
names_from (b ∷ text) rest = let before = names_from text rest in (
  λ e. name_byte b (length text) text (text ++ rest) before.0 before.1 (word_byte b) e,
  λ e. behind_under b (length text) text (text ++ rest) before.0
      (word_byte b) e,
)

pub name_from : (text rest : List ℕ) → form Word (length text) (text ++ rest) ≡ Some Word → NameRest text
name_from text rest e = (names_from text rest).0 e

pub name_to : (text rest : List ℕ) → NameRest text → form Word (length text) (text ++ rest) ≡ Some Word
name_to _ rest name_done = refl
name_to _ rest (name_plain b text s h) = let f = sound_is b s in ap (λ o. after o (length text) (text ++ rest)) (word_sound b f.0 f.1) ∙ name_to text rest h
name_to _ rest (name_under b text s h) = let f = sound_is b s in ap (λ o. after o (length text) (text ++ rest)) (under_sound b f.0 f.1) ∙ name_to text rest h
