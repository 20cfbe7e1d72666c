-- What is added one after another.
use Rattle.std.proofs.Common.{◌≡◌, ℕ, ◌+◌, ◌<◌, ◌≤◌, List, [], ◌∷◌, ◌++◌, length, drop, get_or, Option, Some, None, refl, sym, ap, subst, ◌∙◌, arith}
use Rattle.std.proofs.lemmas.List.{drop_more, drop_all}
use Rattle.std.proofs.lemmas.Option.{same_Some}
use Rattle.nim_plan.specs.Order.{with_site}
use Rattle.plain_plan.specs.Adding.{with_all, Adds}

with_two : (sites xs ys : List ℕ) → with_all (with_all sites xs) ys ≡ with_all sites (xs ++ ys)
with_two sites [] ys = refl
with_two sites (x ∷ xs) ys = with_two (with_site sites x) xs ys

pub adds_two : {a b c : Option (List ℕ)} {xs ys : List ℕ} → Adds a b xs → Adds b c ys → Adds a c (xs ++ ys)
adds_two {a} {b} {c} {xs} {ys} first second = record {
  is = λ d e.
      let m = second.is d e in
      let n = first.is m.0 m.1 in
      (n.0, n.1, m.2 ∙ ap (λ sites. with_all sites ys) n.2 ∙ with_two n.0 xs ys);
}

pub adds_none : (a : Option (List ℕ)) → Adds a a []
adds_none a = record { is = λ b e. (b, e, refl) }

pub adds_one : (sites new : List ℕ) (x : ℕ) → new ≡ with_site sites x → Adds (Some sites) (Some new) (x ∷ [])
adds_one sites new x same = record { is = λ b e. (sites, refl, sym (same_Some new b e) ∙ same) }

pub adds_lost : (a : Option (List ℕ)) (xs : List ℕ) → Adds a None xs
adds_lost a xs = record { is = λ b e. absurd (grind (arith, e)) }

-- the same in other words
pub adds_as : {a b : Option (List ℕ)} {xs ys : List ℕ} → Adds a b xs → xs ≡ ys → Adds a b ys
adds_as {a} {b} adds same = subst (λ zs. Adds a b zs) same adds

-- ---- loops

pub drop_turn : {X : Type 0} (xs ys : List X) (i : ℕ) (x : X) → ys ≡ xs → i < length ys → x ≡ get_or ys i x → drop i xs ≡ x ∷ drop (i + 1) xs
drop_turn xs ys i x same l e =
    subst (λ zs. drop i zs ≡ x ∷ drop (i + 1) zs) same (drop_more ys i x l ∙ ap (λ y. y ∷ drop (i + 1) ys) (sym e))

pub drop_end : {X : Type 0} (xs ys : List X) (i : ℕ) → ys ≡ xs → length ys ≤ i → drop i xs ≡ []
drop_end xs ys i same l = subst (λ zs. drop i zs ≡ []) same (drop_all i ys l)

-- A turn adds a step of what is left, and what is left behind it goes on.
pub turned : {old at new : Option (List ℕ)} {whole before step left : List ℕ} →
    ((end : Option (List ℕ)) → Adds at end before → Adds old end whole) → Adds at new step → step ++ left ≡ before →
    (end : Option (List ℕ)) → Adds new end left → Adds old end whole
turned h step same end rest = h end (adds_as (adds_two step rest) same)

-- behind the last turn
pub ended : {old at : Option (List ℕ)} {whole before : List ℕ} →
    ((end : Option (List ℕ)) → Adds at end before → Adds old end whole) → before ≡ [] → Adds old at whole
ended {old} {at} h none = h at (adds_as (adds_none at) (sym none))
