-- Labels as ranges in order: what they meet and what they cover.
use Rattle.std.proofs.Common.{◌≡◌, ℕ, suc, List, [], ◌∷◌, ◌++◌, length, refl, sym, ap, ap₂, ◌∙◌, Some, None}
use Rattle.std.specs.Prelude.{ℤ, Bool, true, false, ◌&&◌, ◌||◌, if◌then◌else◌, int_le, map, nat_eq, not, is_some, Option}
use Rattle.std.specs.Cmp.Lexicographic.{pointwise}
use Rattle.std.specs.HashSet.{HashSet, contains}
use Rattle.std.proofs.lemmas.Cmp.{nat_list_eq_equiv}
use Rattle.arc_base.specs.declared.place.Place.{Place}
use Rattle.arc_base.specs.declared.place.Code.TheVariants.{CaseCover}
use Rattle.nim_types.specs.Types as type
use Rattle.nim_types.specs.Types.{Ty, Facts, same_text}
use Rattle.nim_program.specs.declared.expr.Label.{Label as RustLabel}
use Rattle.nim_program.specs.declared.expr.Label.TheVariants as label
use Rattle.nim_program.specs.View.{label_of, if_type}
use Rattle.nim_program.specs.Program.{Label, Ordinals, Exactly}
use Rattle.expr_builds.specs.declared.ranges.Range.{Range}
use Rattle.expr_rules.specs.Builtins.{is_text}
use Rattle.expr_rules.specs.Choices.{clash, clashes, has_any, are_covered, covers, span_of, is_enough, cover_by}
use Rattle.expr_parts.specs.View.{if_allowed}
use Rattle.expr_builds.specs.KeptLabels.{AreKept}
use Rattle.expr_builds.specs.ViewLabels.{label_in, IsAscending, SameOrdinals, all_from}
use Rattle.expr_rules.proofs.ForCallers.{covering}
use Rattle.expr_builds.proofs.Ranging.{all_so, all_back}

and_swap : (a b : Bool) → (a && b) ≡ (b && a)
and_swap true true = refl
and_swap true false = refl
and_swap false true = refl
and_swap false false = refl

any_clash : (z : ℤ) (ls : List Label) → has_any z ls ≡ clashes (Ordinals z z) ls
any_clash z [] = refl
any_clash z (Ordinals a b ∷ ls) = ap₂ (λ x y. x || y) (and_swap (int_le a z) (int_le z b)) (any_clash z ls)
any_clash z (Exactly s ∷ ls) = any_clash z ls

any_same : (labels : List Label) (rs : List Range) → SameOrdinals labels rs → (z : ℤ) → has_any z labels ≡ has_any z (map label_in rs)
any_same labels rs h z = any_clash z labels ∙ h z z ∙ sym (any_clash z (map label_in rs))

both_or : (a b : Bool) → (a ≡ true → b ≡ true) → (b ≡ true → a ≡ true) → a ≡ b
both_or true b f g = sym (f refl)
both_or false true f g = g refl
both_or false false f g = refl

-- labels cover what their ranges have
pub cover_is : (labels : List Label) (rs : List Range) → IsAscending rs → SameOrdinals labels rs → (from to : ℤ)
    → are_covered (suc (length labels)) from to labels ≡ all_from from to rs
cover_is labels rs asc same from to =
    both_or (are_covered (suc (length labels)) from to labels) (all_from from to rs)
    (λ e. all_back rs from to asc (λ z g h. sym (any_same labels rs same z) ∙ (covering from to labels).0 e z g h))
    (λ e. (covering from to labels).1 (λ z g h. any_same labels rs same z ∙ all_so rs from to z e g h))

-- ---- one more label

pub one_clash : (l k : Label) (ls : List Label) → clashes l (ls ++ k ∷ []) ≡ (clash l k || clashes l ls)
one_clash l k [] = refl
one_clash l k (m ∷ ls) = ap (λ b. clash l m || b) (one_clash l k ls) ∙ or_swap (clash l m) (clash l k) (clashes l ls)
  where
    or_swap : (a b c : Bool) → (a || (b || c)) ≡ (b || (a || c))
    or_swap true true c = refl
    or_swap true false c = refl
    or_swap false b c = refl

label_end : (ls : List RustLabel) (l : RustLabel) → map label_of (ls ++ l ∷ []) ≡ map label_of ls ++ label_of l ∷ []
label_end [] l = refl
label_end (k ∷ ls) l = ap (λ ks. label_of k ∷ ks) (label_end ls l)

clash_more : (k : Label) (given more : List RustLabel) (l : RustLabel) → more ≡ given ++ l ∷ []
    → clashes k (map label_of more) ≡ (clash k (label_of l) || clashes k (map label_of given))
clash_more k given more l m = ap (λ ls. clashes k (map label_of ls)) m ∙ ap (clashes k) (label_end given l) ∙ one_clash k (label_of l) (map label_of given)

pub with_range : {S : Type 0} (given more : List RustLabel) (ranges all : List Range) (texts : HashSet (List ℕ) S) (low high : ℤ) (l : Label)
    → AreKept given ranges texts → more ≡ given ++ label.Ordinals low high ∷ [] → IsAscending all
    → ((k : Label) → clashes k (map label_in all) ≡ (clash k l || clashes k (map label_in ranges)))
    → Ordinals low high ≡ l → AreKept more all texts
with_range given more ranges all texts low high l h m ordered same is = record {
  ascending = ordered;
  ordinals = λ a b.
      clash_more (Ordinals a b) given more (label.Ordinals low high) m ∙ ap₂ (λ k x. clash (Ordinals a b) k || x) is (h.ordinals a b)
      ∙ sym (same (Ordinals a b));
  words = λ s. clash_more (Exactly s) given more (label.Ordinals low high) m ∙ h.words s;
}

either : (a b : Bool) → (a || b) ≡ (if a then true else b)
either true b = refl
either false b = refl

pub with_text : {S : Type 0} (given more : List RustLabel) (ranges : List Range) (texts all : HashSet (List ℕ) S) (s kept : List ℕ)
    → AreKept given ranges texts → more ≡ given ++ label.Text kept ∷ [] → kept ≡ s
    → ((q : List ℕ) → contains (pointwise nat_eq) all q ≡ (if pointwise nat_eq s q then true else contains (pointwise nat_eq) texts q))
    → AreKept more ranges all
with_text given more ranges texts all s kept h m is same = record {
  ascending = h.ascending;
  ordinals = λ a b. clash_more (Ordinals a b) given more (label.Text kept) m ∙ h.ordinals a b;
  words = λ q.
      clash_more (Exactly q) given more (label.Text kept) m ∙ ap₂ (λ t x. same_text q t || x) is (h.words q)
      ∙ ap (λ b. b || contains (pointwise nat_eq) texts q) (nat_list_eq_equiv.symm q s)
      ∙ either (pointwise nat_eq s q) (contains (pointwise nat_eq) texts q) ∙ sym (same q);
}

-- ---- whether they are enough

pub enough_texts : (facts : Facts) (ty : Ty) (gives : Option ℕ) (ts : List Ty) (labels : List Label) (none : Bool) → is_text ty ≡ true
    → is_some gives ≡ not none → is_enough facts ty (if_type ts gives) labels ≡ none
enough_texts facts type.text None ts labels true h e = refl
enough_texts facts type.text None ts labels false h e = cc
enough_texts facts type.text (Some id) ts labels true h e = cc
enough_texts facts type.text (Some id) ts labels false h e = refl
enough_texts facts _ gives ts labels none h e = cc

pub enough_ordinals : (facts : Facts) (ty : Ty) (gives : Option Ty) (labels : List Label) → is_text ty ≡ false
    → is_enough facts ty gives labels ≡ covers (span_of facts ty) labels
enough_ordinals facts type.text gives labels h = cc
enough_ordinals facts _ gives labels h = refl

pub cover_allowed : (holds : Bool) (at : Place) → cover_by holds at ≡ if_allowed holds CaseCover at
cover_allowed true at = refl
cover_allowed false at = refl
