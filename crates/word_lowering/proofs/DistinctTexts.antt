-- Distinct texts, and where they are laid out.
use Rattle.std.proofs.Common.{◌≡◌, ◌∙◌, ℕ, ◌+◌, ◌%◌, ◌≤◌, replicate, Bool, true, false, List, [], ◌∷◌, ◌++◌, length, Some, None, refl, sym}
use Rattle.std.proofs.Common.{ap, ap₂, append_assoc, length-append, arith}
use Rattle.std.specs.Prelude.{◌||◌}
use Rattle.std.specs.List.{list_any}
use Rattle.std.specs.Set.{is_member, unique_keys}
use Rattle.std.proofs.lemmas.Bool.{cond-true, cond-false, both_ways}
use Rattle.std.proofs.lemmas.Cmp.{nat_list_eq_equiv}
use Rattle.std.proofs.lemmas.Slice.Eq.{bytes_eq-Decides}
use Rattle.nim_types.specs.Types.{same_text}
use Rattle.flat_code.specs.Sizes.{handled_bytes}
use Rattle.rv32_isa.specs.Words.{word_bytes}
use Rattle.rv32_isa.proofs.ForCallers.{length-word_bytes}
use Rattle.word_lowering.specs.Texts.{missing, padded, handled, laid, laid_length, or_zero, place_among}
use Rattle.word_lowering.proofs.Padding.{padded_length, padded_whole}
use Rattle.word_lowering.proofs.Options.{none_some}

abbrev has : List (List ℕ) → List ℕ → Bool
has = is_member same_text

-- ---- members

pub has_behind : (q : List ℕ) (xs ys : List (List ℕ)) → has ys q ≡ true → has (xs ++ ys) q ≡ true
has_behind q [] ys h = h
has_behind q (x ∷ xs) ys h = by (same_text q x) (has_behind q xs ys h)
  where
    by : (b : Bool) → has (xs ++ ys) q ≡ true → (b || has (xs ++ ys) q) ≡ true
    by true i = refl
    by false i = i

pub has_before : (q : List ℕ) (xs ys : List (List ℕ)) → has xs q ≡ true → has (xs ++ ys) q ≡ true
has_before q [] ys h = absurd (both_ways false refl h)
has_before q (x ∷ xs) ys h = by (same_text q x) h (has_before q xs ys)
  where
    by : (b : Bool) → (b || has xs q) ≡ true → (has xs q ≡ true → has (xs ++ ys) q ≡ true) → (b || has (xs ++ ys) q) ≡ true
    by true i later = refl
    by false i later = later i

any_same : (f g : List ℕ → Bool) → ((x : List ℕ) → f x ≡ g x) → (xs : List (List ℕ)) → list_any f xs ≡ list_any g xs
any_same f g same [] = refl
any_same f g same (x ∷ xs) = ap₂ (λ a b. a || b) (same x) (any_same f g same xs)

pub has_same : (ys : List (List ℕ)) (q y : List ℕ) → same_text q y ≡ true → has ys q ≡ has ys y
has_same ys q y e = any_same (same_text q) (same_text y) (λ z. nat_list_eq_equiv.congr q y z e) ys

-- a text that is equal to one that is there
has_again : (ys : List (List ℕ)) (y q : List ℕ) → has ys y ≡ true → has (y ∷ ys) q ≡ has ys q
has_again ys y q is = by (same_text q y) refl
  where
    by : (b : Bool) → same_text q y ≡ b → (same_text q y || has ys q) ≡ has ys q
    by false e = ap (λ b. b || has ys q) e
    by true e = ap (λ b. b || has ys q) e ∙ sym (has_same ys q y e ∙ is)

pub unique_has : (ys : List (List ℕ)) (q : List ℕ) → has (unique_keys same_text ys) q ≡ has ys q
unique_has [] q = refl
unique_has (y ∷ ys) q = by (has ys y) refl (unique_has ys q)
  where
    texts : List (List ℕ)
    texts = unique_keys same_text ys

    by : (b : Bool) → has ys y ≡ b → has (unique_keys same_text ys) q ≡ has ys q → has (unique_keys same_text (y ∷ ys)) q ≡ has (y ∷ ys) q
    by true e rest = ap (λ ts. has ts q) (cond-true (has ys y) texts (y ∷ texts) e) ∙ rest ∙ sym (has_again ys y q e)
    by false e rest = ap (λ ts. has ts q) (cond-false (has ys y) texts (y ∷ texts) e) ∙ ap (λ b. same_text q y || b) rest

-- ---- how many bytes they have

pub handled_length : (at : ℕ) (text : List ℕ) → length (handled at text) ≡ 8 + length (padded text)
handled_length at text =
    let e = length-append (word_bytes (length text)) (word_bytes (at + 8) ++ padded text) in
    let f = length-append (word_bytes (at + 8)) (padded text) in
    let g = length-word_bytes (length text) in
    let h = length-word_bytes (at + 8) in
    omega (arith, e, f, g, h)

pub laid_long : (from : ℕ) (texts : List (List ℕ)) → length (laid from texts) ≡ laid_length texts
laid_long from [] = refl
laid_long from (text ∷ texts) =
    let e = length-append (laid from texts) (handled (from + laid_length texts) text) in
    let f = handled_length (from + laid_length texts) text in
    let h = laid_long from texts in
    omega (arith, e, f, h)

laid_whole : (texts : List (List ℕ)) → laid_length texts % 4 ≡ 0
laid_whole [] = refl
laid_whole (text ∷ texts) = let h = laid_whole texts in let i = padded_whole text in omega (arith, h, i)

pub laid_most : (texts : List (List ℕ)) → laid_length texts ≤ handled_bytes texts
laid_most [] = omega arith
laid_most (text ∷ texts) = let h = laid_most texts in let i = padded_length text in omega (arith, h, i)

-- ---- where a text is

pub record IsLaid (from : ℕ) (texts : List (List ℕ)) (text : List ℕ) : Type 0 where
  pub before : List ℕ
  pub after : List ℕ
  pub place : place_among texts text ≡ Some (length before)
  pub whole : laid from texts ≡ before ++ (word_bytes (length text) ++ (word_bytes (from + length before + 8) ++ (text ++ after)))
  -- its handle stands at a word
  pub at_word : length before % 4 ≡ 0

-- four parts, and more behind the last one
pub more_behind : (a b c d e k : List ℕ) → (a ++ (b ++ (c ++ (d ++ e)))) ++ k ≡ a ++ (b ++ (c ++ (d ++ (e ++ k))))
more_behind a b c d e k =
    append_assoc a (b ++ (c ++ (d ++ e))) k
    ∙ ap (λ l. a ++ l) (append_assoc b (c ++ (d ++ e)) k
    ∙ ap (λ l. b ++ l) (append_assoc c (d ++ e) k ∙ ap (λ l. c ++ l) (append_assoc d e k)))

pub is_laid : (from : ℕ) (texts : List (List ℕ)) (text : List ℕ) → has texts text ≡ true → IsLaid from texts text
is_laid from [] text h = absurd (both_ways false refl h)
is_laid from (other ∷ texts) text h = by (same_text text other) refl (is_laid from texts text)
  where
    by : (b : Bool) → same_text text other ≡ b → (has texts text ≡ true → IsLaid from texts text) → IsLaid from (other ∷ texts) text
    by true e later = record {
      before = laid from texts;
      after = replicate (missing (length text)) 0;
      place = cond-true (same_text text other) (Some (laid_length texts)) (place_among texts text) e ∙ ap Some (sym (laid_long from texts));
      whole = ap₂ (λ t n. laid from texts ++ (word_bytes (length t) ++ (word_bytes (from + n + 8) ++ padded t)))
          (sym ((bytes_eq-Decides text other).0 e)) (sym (laid_long from texts));
      at_word = let l = laid_long from texts in let w = laid_whole texts in omega (arith, l, w);
    }
    by false e later =
        let rest = later (ap (λ b. b || has texts text) (sym e) ∙ h) in
        let more : List ℕ = handled (from + laid_length texts) other in
        record {
          before = rest.before;
          after = rest.after ++ more;
          place = cond-false (same_text text other) (Some (laid_length texts)) (place_among texts text) e ∙ rest.place;
          whole = ap (λ t. t ++ more) rest.whole
              ∙ more_behind rest.before (word_bytes (length text)) (word_bytes (from + length rest.before + 8)) text rest.after more;
          at_word = rest.at_word;
        }

-- one that isn't there has no place
pub no_place : (texts : List (List ℕ)) (text : List ℕ) → place_among texts text ≡ None → has texts text ≡ false
no_place [] text h = refl
no_place (other ∷ texts) text h = by (same_text text other) refl (no_place texts text)
  where
    by : (b : Bool) → same_text text other ≡ b → (place_among texts text ≡ None → has texts text ≡ false) → has (other ∷ texts) text ≡ false
    by true e later = absurd (none_some (laid_length texts)
        (sym h ∙ cond-true (same_text text other) (Some (laid_length texts)) (place_among texts text) e))
    by false e later =
        ap (λ b. b || has texts text) e
        ∙ later (sym (cond-false (same_text text other) (Some (laid_length texts)) (place_among texts text) e) ∙ h)

pub nowhere : (texts : List (List ℕ)) (text : List ℕ) → has texts text ≡ false → place_among texts text ≡ None
nowhere [] text h = refl
nowhere (other ∷ texts) text h = by (same_text text other) refl (nowhere texts text)
  where
    by : (b : Bool) → same_text text other ≡ b → (has texts text ≡ false → place_among texts text ≡ None) → place_among (other ∷ texts) text ≡ None
    by true e later = absurd (both_ways (has (other ∷ texts) text) h (ap (λ b. b || has texts text) e))
    by false e later =
        cond-false (same_text text other) (Some (laid_length texts)) (place_among texts text) e
        ∙ later (ap (λ b. b || has texts text) (sym e) ∙ h)
