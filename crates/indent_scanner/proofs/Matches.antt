-- The longest front that is whole, and the form that is read behind its first byte.
use Rattle.std.proofs.Common.{◌≡◌, ℕ, zero, suc, ◌≤◌, List, [], ◌∷◌, ◌++◌, length, take, drop, get_or, Bool, true, false, refl, ap, subst, ◌∙◌, arith}
use Rattle.std.proofs.Common.{length-take-le}
use Rattle.std.specs.Prelude.{Some, None}
use Rattle.std.specs.List.{AllPass}
use Rattle.std.proofs.lemmas.List.{take-append-drop}
use Rattle.indent_scanner.specs.declared.shape.Shape.{Shape}
use Rattle.indent_scanner.specs.Shape.{step, form, is_whole, LongestForm, NoForm}
use Rattle.indent_scanner.specs.Pieces.{Longest}
use Rattle.indent_scanner.proofs.Bools.{by_test, pass_none, pass_more, pass_head, pass_tail}
use Rattle.indent_scanner.proofs.Fronts.{some_same, no_some, first_step, then_form}

-- P of a length holds exactly where a form is whole behind the first byte
pub record Matches (P : ℕ → Type 0) (s : Shape) (rest : List ℕ) : Type 0 where
  pub none : P 0 → ⊥
  pub to : (n : ℕ) → P (suc n) → (t : Shape) × (form s n rest ≡ Some t) × (is_whole t ≡ true)
  pub from : (n : ℕ) (t : Shape) → form s n rest ≡ Some t → is_whole t ≡ true → P (suc n)

module _ (P : ℕ → Type 0) (s : Shape) (rest : List ℕ) (m : Matches P s rest) where
  no_longer : (n : ℕ) (t : Shape) → LongestForm s rest n t → (k : ℕ) → P k → k ≤ suc n
  no_longer n t l zero p = absurd (m.none p)
  no_longer n t l (suc k) p = let u = m.to k p in let le = l.longest k u.0 u.1 u.2 in omega (arith, le)

  pub longest_from : (n : ℕ) (t : Shape) → LongestForm s rest n t → Longest P (suc n)
  longest_from n t l = record { holds = m.from n t l.reached l.whole; greatest = no_longer n t l }

  pub longest_to : (n : ℕ) → Longest P n → (k : ℕ) × (t : Shape) × (n ≡ suc k) × LongestForm s rest k t
  longest_to zero l = absurd (m.none l.holds)
  longest_to (suc k) l =
      let u = m.to k l.holds in
      (k, u.0, refl, record { reached = u.1; whole = u.2; longest = λ j v e w. (let le = l.greatest (suc j) (m.from j v e w) in omega (arith, le)) })

  pub none_from : NoForm s rest → (n : ℕ) → P n → ⊥
  none_from no_form zero p = m.none p
  none_from no_form (suc n) p = let u = m.to n p in no_form n u.0 u.1 u.2

  pub none_to : ((n : ℕ) → P n → ⊥) → NoForm s rest
  none_to no_front k u e w = no_front (suc k) (m.from k u e w)

-- ---- a front as a text of its own

pub split_form : (s : Shape) (n : ℕ) (rest : List ℕ) → n ≤ length rest → form s (length (take n rest)) (take n rest ++ drop n rest) ≡ form s n rest
split_form s n rest le = ap (λ k. form s k (take n rest ++ drop n rest)) (length-take-le n rest le) ∙ ap (form s n) (take-append-drop n rest)

-- ---- forms that go on with the bytes of a class

pub record Family (Is : Shape → Type 0) (test : ℕ → Bool) : Type 0 where
  pub on : (s : Shape) (b next : ℕ) → Is s → test b ≡ true → (t : Shape) × (step s b next ≡ Some t) × Is t
  pub off : (s : Shape) (b next : ℕ) → Is s → test b ≡ false → step s b next ≡ None

pub read_all : (Is : Shape → Type 0) (test : ℕ → Bool) → Family Is test → (n : ℕ) (rest : List ℕ) (s : Shape) → Is s → n ≤ length rest
    → AllPass test (take n rest) → (t : Shape) × (form s n rest ≡ Some t) × Is t
read_all Is test f zero rest s is le all = (s, refl, is)
read_all Is test f (suc n) [] s is le all = (let g : ⊥ = omega arith in absurd g)
read_all Is test f (suc n) (b ∷ rest) s is le all =
    let o = f.on s b (get_or rest 0 0) is (pass_head test b (take n rest) all) in
    let r = read_all Is test f n rest o.0 o.2 (omega arith) (pass_tail test b (take n rest) all) in
    (r.0, then_form s o.0 n b rest o.1 ∙ r.1, r.2)

pub all_read : (Is : Shape → Type 0) (test : ℕ → Bool) → Family Is test → (n : ℕ) (rest : List ℕ) (s t : Shape) → Is s → form s n rest ≡ Some t
    → AllPass test (take n rest) × Is t
all_read Is test f zero rest s t is e = (pass_none test, subst Is (some_same _ refl e) is)
all_read Is test f (suc n) [] s t is e = (let g : ⊥ = cc in absurd g)
all_read Is test f (suc n) (b ∷ rest) s t is e =
    let g = first_step s t n b rest e in
    by_test _ (test b)
    (λ passes. let o = f.on s b (get_or rest 0 0) is passes in
    let r = all_read Is test f n rest g.0 t (subst Is (some_same _ o.1 g.1) o.2) g.2 in
    (pass_more test b (take n rest) passes r.0, r.1))
    (λ fails. absurd (no_some _ (f.off s b (get_or rest 0 0) is fails) g.1))
