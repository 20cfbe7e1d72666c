-- The plain plan of a program: which one it is where there are no sites, and that there is only one.
use Rattle.std.proofs.Common.{◌≡◌, ◌⊎◌, inl, inr, ⊎_elim, ℕ, zero, suc, List, [], ◌∷◌, length, get_or, ◌<◌, refl, sym, ap, subst, ◌∙◌}
use Rattle.std.proofs.Common.{arith}
use Rattle.std.specs.List.{Contains, AllByRecursion}
use Rattle.std.specs.List.Sorted.{IsStrictlySortedBy}
use Rattle.std.specs.Cmp.{IsTotalOrder}
use Rattle.std.specs.Ordering.{nat_cmp, ordering_reverse}
use Rattle.std.specs.declared.cmp.Ordering.{Ordering}
use Rattle.std.specs.declared.cmp.Ordering.TheVariants.{Less, Equal, Greater}
use Rattle.std.proofs.lemmas.Cmp.{tied_itself, nat_cmp_total, on_total}
use Rattle.std.proofs.lemmas.List.Elements.{All-from_recursion, All-contains}
use Rattle.nim_plan.specs.declared.plan.Act.{Act}
use Rattle.nim_plan.specs.declared.plan.Plan.{Plan}
use Rattle.nim_plan.specs.declared.plan.SiteAct.{SiteAct}
use Rattle.nim_plan.specs.Order.{IsInOrder, site_order, skip_order}
use Rattle.nim_program.specs.Program.{Program}
use Rattle.nim_meaning.specs.Sites.{IsSite}
use Rattle.plain_plan.specs.Plain.{IsPlainPlan}

-- ---- what a list has

pub contains_first : {X : Type 0} (x : X) (xs : List X) → Contains (x ∷ xs) x
contains_first x xs = (0, omega arith, refl)

pub contains_later : {X : Type 0} (x y : X) (xs : List X) → Contains xs y → Contains (x ∷ xs) y
contains_later x y xs h = (suc h.0, omega (arith, h.1), h.2)

pub first_or_later : {X : Type 0} (x y : X) (xs : List X) → Contains (x ∷ xs) y → (x ≡ y) ⊎ Contains xs y
first_or_later x y xs h = by h.0 h.1 h.2
  where
    by : (k : ℕ) → k < length (x ∷ xs) → get_or (x ∷ xs) k y ≡ y → (x ≡ y) ⊎ Contains xs y
    by zero within is = inl is
    by (suc k) within is = inr (k, omega arith, is)

pub none_in_none : {X : Type 0} (x : X) → Contains [] x → ⊥
none_in_none x h = omega (arith, h.1)

-- ---- no plan

abbrev pub entry : ℕ → Act → SiteAct
entry site act = record { site = site; act = act }

in_order : (plan : Plan) → plan.sites ≡ [] → plan.sinks ≡ [] → plan.skips ≡ [] → IsInOrder plan
unfolding IsStrictlySortedBy
in_order plan e f g = record {
  sites = subst (IsStrictlySortedBy site_order) (sym e) tt;
  sinks = subst (IsStrictlySortedBy nat_cmp) (sym f) tt;
  skips = subst (IsStrictlySortedBy skip_order) (sym g) tt;
}

pub plain_without_sites : (program : Program) (plan : Plan) → ((site : ℕ) → IsSite program [] site → ⊥) → plan.sites ≡ [] → plan.sinks ≡ [] →
    plan.skips ≡ [] → IsPlainPlan program plan
plain_without_sites program plan none e f g = record {
  ordered = in_order plan e f g;
  acts = λ site act.
      (λ has. absurd (none_in_none (entry site act) (subst (λ xs. Contains xs (entry site act)) e has)), λ is. absurd (none site is.0));
  sinks = f;
  skips = g;
}

-- ---- only one

module _ {X : Type 0} (R : X → X → Ordering) (total : IsTotalOrder R) where
  turn : (x y : X) → R x y ≡ Less → R y x ≡ Greater
  turn x y e = total.antisymm y x ∙ ap ordering_reverse e

  not_below_itself : (x : X) → R x x ≡ Less → ⊥
  not_below_itself x e = let tied : R x x ≡ Equal = tied_itself total x in cc

  above : (y : X) (ys : List X) → AllByRecursion (λ z. R y z ≡ Less) ys → (z : X) → Contains ys z → R y z ≡ Less
  above y ys h z has = All-contains (λ w. R y w ≡ Less) ys z (All-from_recursion (λ w. R y w ≡ Less) ys h) has

  -- lists in order that have the same are one
  pub one_list : (xs ys : List X) → IsStrictlySortedBy R xs → IsStrictlySortedBy R ys → ((z : X) → Contains xs z → Contains ys z) →
      ((z : X) → Contains ys z → Contains xs z) → xs ≡ ys
  unfolding IsStrictlySortedBy
  one_list [] [] h k into back = refl
  one_list [] (y ∷ ys) h k into back = absurd (none_in_none y (back y (contains_first y ys)))
  one_list (x ∷ xs) [] h k into back = absurd (none_in_none x (into x (contains_first x xs)))
  one_list (x ∷ xs) (y ∷ ys) h k into back =
      let same = first (first_or_later y x ys (into x (contains_first x xs))) (first_or_later x y xs (back y (contains_first y ys))) in
      let here : (z : X) → Contains xs z → Contains ys z =
      λ z has. later y z ys (into z (contains_later x z xs has))
      (λ e. not_below_itself x (subst (λ w. R x w ≡ Less) (sym e ∙ sym same) (above x xs h.0 z has))) in
      let there : (z : X) → Contains ys z → Contains xs z =
      λ z has. later x z xs (back z (contains_later y z ys has)) (λ e. not_below_itself y (subst (λ w. R y w ≡ Less) (sym e ∙ same) (above y ys k.0 z has))) in
      ap (λ w. w ∷ xs) same ∙ ap (λ ws. y ∷ ws) (one_list xs ys h.1 k.1 here there)
    where
      first : (y ≡ x) ⊎ Contains ys x → (x ≡ y) ⊎ Contains xs y → x ≡ y
      first (inl e) there = sym e
      first (inr has) (inl e) = e
      first (inr has) (inr too) =
          let one = above y ys k.0 x has in
          let two = turn x y (above x xs h.0 y too) in
          absurd cc

      later : (a z : X) (zs : List X) → Contains (a ∷ zs) z → ((a ≡ z) → ⊥) → Contains zs z
      later a z zs has differs = ⊎_elim (λ e. absurd (differs e)) (λ more. more) (first_or_later a z zs has)

sites_total : IsTotalOrder site_order
sites_total = on_total (λ (a : SiteAct). a.site) nat_cmp_total

pub plan_with : (p q : Plan) → p.sites ≡ q.sites → p.sinks ≡ q.sinks → p.skips ≡ q.skips → p ≡ q
plan_with p q e f g =
    let one : p ≡ record { sites = q.sites; sinks = p.sinks; skips = p.skips } = ap (λ l. record { sites = l; sinks = p.sinks; skips = p.skips }) e in
    let two : record { sites = q.sites; sinks = p.sinks; skips = p.skips } ≡ record { sites = q.sites; sinks = q.sinks; skips = p.skips } =
    ap (λ l. record { sites = q.sites; sinks = l; skips = p.skips }) f in
    one ∙ two ∙ ap (λ l. record { sites = q.sites; sinks = q.sinks; skips = l }) g

pub only_plain : (program : Program) (p q : Plan) → IsPlainPlan program p → IsPlainPlan program q → p ≡ q
only_plain program p q a b =
    plan_with p q
    (one_list site_order sites_total p.sites q.sites a.ordered.sites b.ordered.sites
    (λ z has. (b.acts z.site z.act).1 ((a.acts z.site z.act).0 has))
    (λ z has. (a.acts z.site z.act).1 ((b.acts z.site z.act).0 has)))
    (a.sinks ∙ sym b.sinks) (a.skips ∙ sym b.skips)
