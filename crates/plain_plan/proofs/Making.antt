-- A copy at each site is the plain plan, and it is what was found.
use Rattle.std.proofs.Common.{◌≡◌, ◌⊎◌, inl, inr, ⊎_elim, append_assoc, ℕ, List, [], ◌∷◌, ◌++◌, Option, Some, refl, sym, ap, subst, ◌∙◌}
use Rattle.std.specs.Prelude.{◌↔◌, map}
use Rattle.std.proofs.lemmas.Option.{same_Some}
use Rattle.std.specs.List.{Contains, AllByRecursion}
use Rattle.std.specs.List.Sorted.{IsStrictlySortedBy}
use Rattle.std.specs.Ordering.{nat_cmp}
use Rattle.std.specs.declared.cmp.Ordering.TheVariants.{Less}
use Rattle.nim_plan.specs.declared.plan.Act.{Act}
use Rattle.nim_plan.specs.declared.plan.Act.TheVariants.{Copy}
use Rattle.nim_plan.specs.declared.plan.Plan.{Plan}
use Rattle.nim_plan.specs.declared.plan.SiteAct.{SiteAct}
use Rattle.nim_plan.specs.Order.{HasOneMore, IsInOrder, skip_order, site_order, with_site}
use Rattle.nim_program.specs.Program.{Program}
use Rattle.plain_plan.specs.Adding.{with_all, Adds}
use Rattle.plain_plan.specs.Plain.{plain_plan, copied, IsPlainPlan}
use Rattle.nim_meaning.specs.Sites.{IsSite}
use Rattle.nim_meaning.specs.TreeSites.{all_sites}
use Rattle.plain_plan.proofs.Programs.{contains_first, contains_later, first_or_later, none_in_none, entry, plan_with}

-- ---- copies

-- one more of a list that is gone through
pub copied_more : (acts new : List SiteAct) (a : SiteAct) (site : ℕ) (left rest : List ℕ) (all : List SiteAct) → new ≡ acts ++ a ∷ [] → a ≡ copied site →
    left ≡ site ∷ rest → acts ++ map copied left ≡ all → new ++ map copied rest ≡ all
copied_more acts new a site left rest all more is step done =
    ap (λ xs. xs ++ map copied rest) more ∙ append_assoc acts (a ∷ []) (map copied rest) ∙ ap (λ x. acts ++ (x ∷ map copied rest)) is
    ∙ sym (ap (λ ns. acts ++ map copied ns) step) ∙ done

from_copies : (sites : List ℕ) (n : ℕ) (act : Act) → Contains (map copied sites) (entry n act) → Contains sites n × (act ≡ Copy)
from_copies [] n act h = absurd (none_in_none (entry n act) h)
from_copies (x ∷ xs) n act h = ⊎_elim
    (λ e. (subst (Contains (x ∷ xs)) (ap (λ a. a.site) e) (contains_first x xs), sym (ap (λ a. a.act) e)))
    (λ later. let more = from_copies xs n act later in (contains_later x n xs more.0, more.1))
    (first_or_later (copied x) (entry n act) (map copied xs) h)

into_copies : (sites : List ℕ) (n : ℕ) → Contains sites n → Contains (map copied sites) (copied n)
into_copies [] n h = absurd (none_in_none n h)
into_copies (x ∷ xs) n h = ⊎_elim
    (λ e. subst (λ m. Contains (map copied (x ∷ xs)) (copied m)) e (contains_first (copied x) (map copied xs)))
    (λ later. contains_later (copied x) (copied n) (map copied xs) (into_copies xs n later))
    (first_or_later x n xs h)

all_copies : (n : ℕ) (xs : List ℕ) → AllByRecursion (λ m. nat_cmp n m ≡ Less) xs → AllByRecursion (λ a. site_order (copied n) a ≡ Less) (map copied xs)
all_copies n [] h = tt
all_copies n (x ∷ xs) h = (h.0, all_copies n xs h.1)

copies_rise : (xs : List ℕ) → IsStrictlySortedBy nat_cmp xs → IsStrictlySortedBy site_order (map copied xs)
unfolding IsStrictlySortedBy
copies_rise [] h = tt
copies_rise (x ∷ xs) h = (all_copies x xs h.0, copies_rise xs h.1)

-- ---- what was added

module _ (law : (sites : List ℕ) (site : ℕ) → IsStrictlySortedBy nat_cmp sites → HasOneMore nat_cmp sites (with_site sites site) site)
    (trees : (program : Program) (sinks : List ℕ) (site : ℕ) → IsSite program sinks site ↔ Contains (all_sites program sinks) site) where
  all_rise : (xs sites : List ℕ) → IsStrictlySortedBy nat_cmp sites → IsStrictlySortedBy nat_cmp (with_all sites xs)
  all_rise [] sites h = h
  all_rise (x ∷ xs) sites h = all_rise xs (with_site sites x) (law sites x h).rise

  from_all : (xs sites : List ℕ) → IsStrictlySortedBy nat_cmp sites → (n : ℕ) → Contains (with_all sites xs) n → Contains sites n ⊎ Contains xs n
  from_all [] sites h n has = inl has
  from_all (x ∷ xs) sites h n has = ⊎_elim
      (λ here. ⊎_elim (λ old. inl old) (λ e. inr (subst (Contains (x ∷ xs)) (sym e) (contains_first x xs))) (((law sites x h).members n).0 here))
      (λ later. inr (contains_later x n xs later))
      (from_all xs (with_site sites x) (law sites x h).rise n has)

  into_all : (xs sites : List ℕ) → IsStrictlySortedBy nat_cmp sites → (n : ℕ) → Contains sites n ⊎ Contains xs n → Contains (with_all sites xs) n
  into_all [] sites h n (inl has) = has
  into_all [] sites h n (inr has) = absurd (none_in_none n has)
  into_all (x ∷ xs) sites h n (inl has) = into_all xs (with_site sites x) (law sites x h).rise n (inl (((law sites x h).members n).1 (inl has)))
  into_all (x ∷ xs) sites h n (inr has) = ⊎_elim
      (λ e. into_all xs (with_site sites x) (law sites x h).rise n (inl (((law sites x h).members n).1 (inr (sym e)))))
      (λ later. into_all xs (with_site sites x) (law sites x h).rise n (inr later))
      (first_or_later x n xs has)

  none_rise : IsStrictlySortedBy nat_cmp []
  unfolding IsStrictlySortedBy
  none_rise = tt

  in_order : (plan : Plan) (sites : List ℕ) → IsStrictlySortedBy nat_cmp sites → plan.sites ≡ map copied sites → plan.sinks ≡ [] → plan.skips ≡ [] →
      IsInOrder plan
  unfolding IsStrictlySortedBy
  in_order plan sites h e f g = record {
    sites = subst (IsStrictlySortedBy site_order) (sym e) (copies_rise sites h);
    sinks = subst (IsStrictlySortedBy nat_cmp) (sym f) tt;
    skips = subst (IsStrictlySortedBy skip_order) (sym g) tt;
  }

  made : (program : Program) (plan : Plan) (sites : List ℕ) → sites ≡ with_all [] (all_sites program []) → plan.sites ≡ map copied sites →
      plan.sinks ≡ [] → plan.skips ≡ [] → IsPlainPlan program plan
  made program plan sites is e f g =
      let all = all_sites program [] in
      let rise = subst (IsStrictlySortedBy nat_cmp) (sym is) (all_rise all [] none_rise) in
      let out = λ (n : ℕ) (has : Contains sites n). ⊎_elim (λ none. absurd (none_in_none n none)) (λ here. (trees program [] n).1 here)
      (from_all all [] none_rise n (subst (λ ns. Contains ns n) is has)) in
      let back = λ (n : ℕ) (site : IsSite program [] n).
      subst (λ ns. Contains ns n) (sym is) (into_all all [] none_rise n (inr ((trees program [] n).0 site))) in
      record {
        ordered = in_order plan sites rise e f g;
        acts = λ site act. (
          λ has. let found = from_copies sites site act (subst (λ xs. Contains xs (entry site act)) e has) in (out site found.0, found.1),
          λ known. subst (λ b. Contains plan.sites (entry site b)) (sym known.1)
              (subst (λ xs. Contains xs (copied site)) (sym e) (into_copies sites site (back site known.0))),
        );
        sinks = f;
        skips = g;
      }

  pub is_plain : (program : Program) → IsPlainPlan program (plain_plan program)
  unfolding plain_plan
  is_plain program = made program (plain_plan program) (with_all [] (all_sites program [])) refl refl refl refl

-- what was added from no site on
pub plain_made : (program : Program) (plan : Plan) (sites : List ℕ) (first last : Option (List ℕ)) → first ≡ Some [] →
    Adds first last (all_sites program []) → last ≡ Some sites → plan.sites ≡ map copied sites → plan.sinks ≡ [] → plan.skips ≡ [] → plan ≡ plain_plan program
unfolding plain_plan
plain_made program plan sites first last none adds some e f g =
    let m = adds.is sites some in
    let begin : m.0 ≡ [] = same_Some m.0 [] (sym m.1 ∙ none) in
    let all = m.2 ∙ ap (λ ns. with_all ns (all_sites program [])) begin in
    plan_with plan (plain_plan program) (e ∙ ap (map copied) all) f g
