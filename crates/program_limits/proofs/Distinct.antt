-- The distinct texts of a list are no more, and have no more bytes, than those of another one that has each of them.
use Rattle.std.proofs.Common.{◌≡◌, ◌∙◌, ◌≤◌, ℕ, ◌+◌, Bool, true, false, List, [], ◌∷◌, refl, sym, ap, arith}
use Rattle.std.specs.Prelude.{◌||◌, length}
use Rattle.std.specs.Set.{is_member, unique_keys, remove_key}
use Rattle.std.proofs.lemmas.Bool.{cond-true, cond-false, both_ways}
use Rattle.std.proofs.lemmas.Cmp.{nat_list_eq_equiv}
use Rattle.std.proofs.lemmas.Slice.Eq.{bytes_eq-Decides}
use Rattle.nim_types.specs.Types.{same_text}
use Rattle.nim_program.specs.TextSizes.{text_bytes, all_bytes}
use Rattle.program_limits.specs.Data.{texts_size}
use Rattle.program_limits.proofs.Meets.{any_same, met_again}

abbrev has : List (List ℕ) → List ℕ → Bool
has = is_member same_text

same_among : (x q : List ℕ) (ys : List (List ℕ)) → same_text x q ≡ true → has ys x ≡ has ys q
same_among x q ys e = any_same (same_text x) (same_text q) (λ z. nat_list_eq_equiv.congr x q z e) ys

unique_has : (ys : List (List ℕ)) (q : List ℕ) → has (unique_keys same_text ys) q ≡ has ys q
unique_has [] q = refl
unique_has (y ∷ ys) q = by (has ys y) refl (unique_has ys q)
  where
    texts : List (List ℕ)
    texts = unique_keys same_text ys

    by : (b : Bool) → has ys y ≡ b → has (unique_keys same_text ys) q ≡ has ys q → has (unique_keys same_text (y ∷ ys)) q ≡ has (y ∷ ys) q
    by true e rest = ap (λ ts. has ts q) (cond-true (has ys y) texts (y ∷ texts) e) ∙ rest ∙ sym (met_again ys y q e)
    by false e rest = ap (λ ts. has ts q) (cond-false (has ys y) texts (y ∷ texts) e) ∙ ap (λ b. same_text q y || b) rest

-- ---- without one

abbrev without : List ℕ → List (List ℕ) → List (List ℕ)
without x = remove_key (same_text x)

-- a sum over texts
abbrev sum_of : (weigh : List ℕ → ℕ) → List (List ℕ) → ℕ
sum_of weigh [] = 0
sum_of weigh (x ∷ xs) = weigh x + sum_of weigh xs

bytes_sum : (xs : List (List ℕ)) → sum_of text_bytes xs ≡ all_bytes xs
bytes_sum [] = refl
bytes_sum (x ∷ xs) = ap (λ n. text_bytes x + n) (bytes_sum xs)

count_sum : (xs : List (List ℕ)) → sum_of (λ x. 1) xs ≡ length xs
count_sum [] = refl
count_sum (x ∷ xs) = omega (arith, count_sum xs)

without_one : (weigh : List ℕ → ℕ) (x : List ℕ) (ys : List (List ℕ)) → has ys x ≡ true → sum_of weigh ys ≡ weigh x + sum_of weigh (without x ys)
without_one weigh x [] h = absurd (both_ways false refl h)
without_one weigh x (y ∷ ys) h = by (same_text x y) refl (without_one weigh x ys)
  where
    by : (b : Bool) → same_text x y ≡ b → (has ys x ≡ true → sum_of weigh ys ≡ weigh x + sum_of weigh (without x ys)) →
        sum_of weigh (y ∷ ys) ≡ weigh x + sum_of weigh (without x (y ∷ ys))
    by true e later =
        ap (λ t. weigh t + sum_of weigh ys) (sym ((bytes_eq-Decides x y).0 e))
        ∙ ap (λ ts. weigh x + sum_of weigh ts) (sym (cond-true (same_text x y) ys (y ∷ without x ys) e))
    by false e later =
        let rest = later (ap (λ b. b || has ys x) (sym e) ∙ h) in
        let is = ap (sum_of weigh) (cond-false (same_text x y) ys (y ∷ without x ys) e) in
        omega (arith, rest, is)

without_has : (x q : List ℕ) (ys : List (List ℕ)) → same_text x q ≡ false → has (without x ys) q ≡ has ys q
without_has x q [] other = refl
without_has x q (y ∷ ys) other = by (same_text x y) refl (without_has x q ys other)
  where
    by : (b : Bool) → same_text x y ≡ b → has (without x ys) q ≡ has ys q → has (without x (y ∷ ys)) q ≡ has (y ∷ ys) q
    by true e rest =
        let apart : same_text q y ≡ false =
        nat_list_eq_equiv.symm q y ∙ sym (nat_list_eq_equiv.congr x y q e) ∙ other in
        ap (λ ts. has ts q) (cond-true (same_text x y) ys (y ∷ without x ys) e) ∙ ap (λ b. b || has ys q) (sym apart)
    by false e rest =
        ap (λ ts. has ts q) (cond-false (same_text x y) ys (y ∷ without x ys) e) ∙ ap (λ b. same_text q y || b) rest

-- ---- no more

or_later : (a b : Bool) → b ≡ true → (a || b) ≡ true
or_later true b h = refl
or_later false b h = h

most_among : (weigh : List ℕ → ℕ) (xs ys : List (List ℕ)) → ((q : List ℕ) → has xs q ≡ true → has ys q ≡ true) →
    sum_of weigh (unique_keys same_text xs) ≤ sum_of weigh ys
most_among weigh [] ys among = omega arith
most_among weigh (x ∷ xs) ys among = by (has xs x) refl (λ zs. most_among weigh xs zs)
  where
    texts : List (List ℕ)
    texts = unique_keys same_text xs

    by : (b : Bool) → has xs x ≡ b →
        ((zs : List (List ℕ)) → ((q : List ℕ) → has xs q ≡ true → has zs q ≡ true) → sum_of weigh (unique_keys same_text xs) ≤ sum_of weigh zs) →
        sum_of weigh (unique_keys same_text (x ∷ xs)) ≤ sum_of weigh ys
    by true e later =
        let rest = later ys (λ q h. among q (or_later (same_text q x) (has xs q) h)) in
        let is = ap (sum_of weigh) (cond-true (has xs x) texts (x ∷ texts) e) in
        omega (arith, rest, is)
    by false e later =
        let there : has ys x ≡ true = among x (ap (λ b. b || has xs x) (nat_list_eq_equiv.refl x)) in
        let rest = later (without x ys) (λ q h. without_has x q ys (apart q h) ∙ among q (or_later (same_text q x) (has xs q) h)) in
        let is = ap (sum_of weigh) (cond-false (has xs x) texts (x ∷ texts) e) in
        let whole = without_one weigh x ys there in
        omega (arith, rest, is, whole)
      where
        apart : (q : List ℕ) → has xs q ≡ true → same_text x q ≡ false
        apart q h = of (same_text x q) refl
          where
            of : (b : Bool) → same_text x q ≡ b → same_text x q ≡ false
            of false k = k
            of true k = absurd (both_ways (has xs x) e (same_among x q xs k ∙ h))

pub texts_most : (xs ys : List (List ℕ)) → ((q : List ℕ) → is_member same_text xs q ≡ true → is_member same_text ys q ≡ true) → texts_size xs ≤ texts_size ys
texts_most xs ys among =
    let xs' = unique_keys same_text xs in
    let ys' = unique_keys same_text ys in
    let there = λ (q : List ℕ) (h : has xs q ≡ true). unique_has ys q ∙ among q h in
    omega (
      arith,
      most_among text_bytes xs ys' there,
      bytes_sum xs',
      bytes_sum ys',
      most_among (λ x. 1) xs ys' there,
      count_sum xs',
      count_sum ys',
    )
