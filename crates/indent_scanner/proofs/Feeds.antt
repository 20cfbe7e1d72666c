-- No token holds a line feed.
use Rattle.std.proofs.Common.{◌≡◌, ℕ, ◌+◌, ◌*◌, ◌-◌, List, [], ◌∷◌, ◌++◌, Bool, true, false, refl, sym, subst}
use Rattle.std.specs.Prelude.{Option, Some, None, ◌==◌}
use Rattle.std.specs.List.{AllPass}
use Rattle.indent_scanner.specs.Bytes.{is_letter, is_digit, is_word, is_quotable, hex_value, simple_escape}
use Rattle.indent_scanner.specs.Grammar.{IsWord, IsNumeral, Decimals, last_digit, more_digits, Character, plain, escape, hex_escape, decimal_escape, IsChar}
use Rattle.indent_scanner.specs.Grammar.{a_char, SomeChar, TextRest, text_closes, text_goes, IsText, a_text, SomeText, IsQuoted}
use Rattle.indent_scanner.proofs.Bools.{by_test, at_byte, not_both, pass_head, pass_tail}

-- ---- texts without line feeds

abbrev pub NoFeed : List ℕ → Type 0
NoFeed [] = Unit {0}
NoFeed (b ∷ bytes) = ((b == 10) ≡ false) × NoFeed bytes

-- a byte of a class that a line feed is not of
pub other_byte : (test : ℕ → Bool) (b : ℕ) → test 10 ≡ false → test b ≡ true → (b == 10) ≡ false
other_byte test b none passes = by_test _ (b == 10) (λ e. absurd (not_both (test b) passes (at_byte (λ x. test x ≡ false) b 10 none e))) (λ e. e)

pub pass_feeds : (test : ℕ → Bool) → test 10 ≡ false → (bytes : List ℕ) → AllPass test bytes → NoFeed bytes
pass_feeds test none [] all = tt
pass_feeds test none (b ∷ bytes) all = (other_byte test b none (pass_head test b bytes all), pass_feeds test none bytes (pass_tail test b bytes all))

feeds_append : (xs ys : List ℕ) → NoFeed xs → NoFeed ys → NoFeed (xs ++ ys)
feeds_append [] ys x y = y
feeds_append (b ∷ xs) ys x y = (x.0, feeds_append xs ys x.1 y)

-- ---- words and numerals

pub word_feeds : (bytes : List ℕ) → IsWord bytes → NoFeed bytes
word_feeds [] w = absurd w
word_feeds (b ∷ bytes) w = (other_byte is_letter b refl w.0, pass_feeds is_word refl bytes w.1)

pub numeral_feeds : (bytes : List ℕ) → IsNumeral bytes → NoFeed bytes
numeral_feeds [] w = absurd w
numeral_feeds (b ∷ bytes) w = (other_byte is_digit b refl w.0, pass_feeds is_word refl bytes w.1)

-- ---- chars and texts

other_value : (value_of : ℕ → Option ℕ) (b v : ℕ) → value_of 10 ≡ None → value_of b ≡ Some v → (b == 10) ≡ false
other_value value_of b v none some = by_test _ (b == 10) (λ e. let same = at_byte (λ x. value_of x ≡ None) b 10 none e in let f : ⊥ = cc in absurd f) (λ e. e)

decimals_feeds : (v w : ℕ) (bytes behind : List ℕ) → Decimals v bytes w behind → NoFeed behind → NoFeed bytes
decimals_feeds v _ _ behind (last_digit _ b _ e f) n = (other_byte is_digit b refl e, n)
decimals_feeds v w _ behind (more_digits _ b _ bytes _ e f d) n = (other_byte is_digit b refl e, decimals_feeds (v * 10 + (b - 48)) w bytes behind d n)

character_feeds : (quote v : ℕ) (bytes behind : List ℕ) → Character quote bytes v behind → NoFeed behind → NoFeed bytes
character_feeds quote _ _ behind (plain b _ e f g) n = (g, n)
character_feeds quote v _ behind (escape b _ _ e) n = (refl, (other_value simple_escape b v refl e, n))
character_feeds quote _ _ behind (hex_escape b c high low _ e f) n =
    (refl, (refl, (other_value hex_value b high refl e, (other_value hex_value c low refl f, n))))
character_feeds quote v _ behind (decimal_escape _ bytes _ d le) n = (refl, decimals_feeds 0 v bytes behind d n)

char_bytes : (value : ℕ) (bytes : List ℕ) → IsChar bytes value → NoFeed bytes
char_bytes value _ (a_char _ bytes c) = (refl, character_feeds 39 value bytes (39 ∷ []) c (refl, tt))

pub char_feeds : (bytes : List ℕ) → SomeChar bytes → NoFeed bytes
char_feeds bytes c = char_bytes c.0 bytes c.1

rest_feeds : (bytes values : List ℕ) → TextRest bytes values → NoFeed bytes
rest_feeds _ _ text_closes = (refl, tt)
rest_feeds bytes _ (text_goes v _ behind values c t) = character_feeds 34 v bytes behind c (rest_feeds behind values t)

text_bytes : (bytes values : List ℕ) → IsText bytes values → NoFeed bytes
text_bytes _ values (a_text bytes _ t) = (refl, rest_feeds bytes values t)

pub text_feeds : (bytes : List ℕ) → SomeText bytes → NoFeed bytes
text_feeds bytes t = text_bytes bytes t.0 t.1

-- ---- names in backticks

pub quoted_feeds : (bytes : List ℕ) → IsQuoted bytes → NoFeed bytes
quoted_feeds bytes q = subst NoFeed (sym q.is) (refl, feeds_append q.inner (96 ∷ []) (pass_feeds is_quotable refl q.inner q.visible) (refl, tt))
