-- What a plan has at a site, as it is looked up in its entries, is what it says there.
use Rattle.std.proofs.Common.{◌≡◌, ◌≢◌, refl, sym, ◌∙◌, ap, subst, arith, ⊎_elim, ℕ, zero, suc, ◌<◌, List, [], ◌∷◌, length, slice_index_or, true, false, Option}
use Rattle.std.proofs.Common.{Some, None}
use Rattle.std.specs.Prelude.{nat_eq, Contains, IfSome, if◌then◌else◌}
use Rattle.std.proofs.lemmas.Bool.Decides.{eqb_tells}
use Rattle.nim_plan.specs.declared.plan.Act.{Act}
use Rattle.nim_plan.specs.declared.plan.Plan.{Plan}
use Rattle.nim_plan.specs.declared.plan.SiteAct.{SiteAct}
use Rattle.nim_plan.specs.Order.{HasAct, IsInOrder}
use Rattle.nim_meaning.specs.Here.{act_in, act_at}

abbrev entry : ℕ → Act → SiteAct
entry site act = record { site = site; act = act }

first_is : (sites : List SiteAct) (e : SiteAct) → Contains (e ∷ sites) e
first_is sites e = (0, omega arith, refl)

later_is : (e : SiteAct) (sites : List SiteAct) (x : SiteAct) → Contains sites x → Contains (e ∷ sites) x
later_is e sites x has = (suc has.0, omega (arith, has.1), has.2)

-- the first entry of a site, if there is one, is among the entries
stands : (sites : List SiteAct) (site : ℕ) (act : Act) → act_in sites site ≡ Some act → Contains sites (entry site act)
stands [] site act e = cc
stands (x ∷ sites) site act e = ⊎_elim
    (λ (yes : (nat_eq x.site site ≡ true) × (x.site ≡ site)).
    let is : Some x.act ≡ Some act = sym (ap (λ b. if b then Some x.act else act_in sites site) yes.0) ∙ e in
    let acts : x.act ≡ act = cc in
    let same : x ≡ entry site act = ap (λ s. entry s x.act) yes.1 ∙ ap (entry site) acts in
    subst (λ y. Contains (x ∷ sites) y) same (first_is sites x))
    (λ (no : (nat_eq x.site site ≡ false) × (x.site ≢ site)).
    later_is x sites (entry site act) (stands sites site act (sym (ap (λ b. if b then Some x.act else act_in sites site) no.0) ∙ e)))
    (eqb_tells x.site site)

-- where there is none, no entry is of the site
is_none : (sites : List SiteAct) (site : ℕ) (act : Act) → act_in sites site ≡ None → Contains sites (entry site act) → ⊥
is_none [] site act e has = omega (arith, has.1)
is_none (x ∷ sites) site act e has = ⊎_elim
    (λ (yes : (nat_eq x.site site ≡ true) × (x.site ≡ site)).
    let is : Some x.act ≡ None = sym (ap (λ b. if b then Some x.act else act_in sites site) yes.0) ∙ e in cc)
    (λ (no : (nat_eq x.site site ≡ false) × (x.site ≢ site)).
    let rest : act_in sites site ≡ None = sym (ap (λ b. if b then Some x.act else act_in sites site) no.0) ∙ e in
    at_position no.1 (λ h. is_none sites site act rest h) has.0 has.1 has.2)
    (eqb_tells x.site site)
  where
    at_position : x.site ≢ site → (Contains sites (entry site act) → ⊥) → (k : ℕ) → k < length (x ∷ sites) →
        slice_index_or (x ∷ sites) k (entry site act) ≡ entry site act → ⊥
    at_position apart none zero within is = apart (ap (λ (y : SiteAct). y.site) is)
    at_position apart none (suc k) within is = none (k, omega (arith, within), is)

module _ (plan : Plan) (site : ℕ) (found : Option Act) where
  by_entries : (o : Option Act) → act_in plan.sites site ≡ o → IfSome found (λ act. HasAct plan site act) →
      ((act : Act) → HasAct plan site act → found ≡ Some act) → found ≡ o
  by_entries (Some act) e only all = all act (stands plan.sites site act e)
  by_entries None e only all = nothing_found found only
    where
      nothing_found : (o : Option Act) → IfSome o (λ act. HasAct plan site act) → o ≡ None
      nothing_found None h = refl
      nothing_found (Some act) h = absurd (is_none plan.sites site act e h)

  pub act_said : IsInOrder plan → IfSome found (λ act. HasAct plan site act) →
      (IsInOrder plan → (act : Act) → HasAct plan site act → found ≡ Some act) → found ≡ act_at plan site
  act_said order only all = by_entries (act_in plan.sites site) refl only (all order)
