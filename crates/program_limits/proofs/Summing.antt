-- What is known of forms, where levels beyond the most are as one more than it.
use Rattle.std.proofs.Common.{◌≡◌, ℕ, zero, suc, ◌<◌, ◌≤◌, Bool, true, false, refl, sym, ap, ap₂, ◌∙◌, arith, ⊎_elim, min, max}
use Rattle.std.proofs.lemmas.Bool.{cases_lt, lt-ltb, le-ltb}
use Rattle.std.specs.Prelude.{nat_lt, ◌||◌}
use Rattle.nim_types.specs.Forms.{Form, Forms, elements, row, wrapped, forms, no_forms, levels, most_levels, object_form}
use Rattle.nim_meaning.specs.Unbuilt.{has_unbuilt, has_unbuilt_any}
use Rattle.program_limits.specs.declared.summary.Summary.{Summary}
use Rattle.program_limits.specs.declared.summary.TheConstants.{MOST_LEVELS}
use Rattle.program_limits.specs.Summaries.{summary_of, summaries_of, with_more, above}

abbrev highest : ℕ
highest = suc MOST_LEVELS

up_min : (l : ℕ) → min (suc (min l highest)) highest ≡ min (suc l) highest
up_min l = omega arith

max_min : (l m : ℕ) → min (max (min l highest) (min m highest)) highest ≡ min (max l m) highest
max_min l m = omega arith

summary_by : (a b : Summary) → a.unbuilt ≡ b.unbuilt → a.levels ≡ b.levels → a ≡ b
summary_by a b e f = ap₂ (λ x y. record { unbuilt = x; levels = y }) e f

or_assoc : (a b c : Bool) → ((a || b) || c) ≡ (a || (b || c))
or_assoc true b c = refl
or_assoc false b c = refl

-- ---- forms

pub more_forms : (f : Form) (fs : Forms) → summaries_of (forms f fs) ≡ with_more (summary_of f) (summaries_of fs)
more_forms f fs = ap (λ l. record { unbuilt = has_unbuilt f || has_unbuilt_any fs; levels = l })
    (sym (max_min (levels f) (most_levels fs)))

pub with_assoc : (a b c : Summary) → with_more (with_more a b) c ≡ with_more a (with_more b c)
with_assoc a b c =
    summary_by (with_more (with_more a b) c) (with_more a (with_more b c)) (or_assoc a.unbuilt b.unbuilt c.unbuilt)
    (omega arith)

pub object_is : (own : Bool) (fs : Forms) →
    summary_of (object_form own fs) ≡ above (own || (summaries_of fs).unbuilt) (summaries_of fs).levels
object_is true fs = ap (λ l. record { unbuilt = true; levels = l }) (sym (up_min (most_levels fs)))
object_is false fs = ap (λ l. record { unbuilt = has_unbuilt_any fs; levels = l }) (sym (up_min (most_levels fs)))

pub wrapped_is : (f : Form) → summary_of (wrapped f) ≡ above (summary_of f).unbuilt (summary_of f).levels
wrapped_is f = ap (λ l. record { unbuilt = has_unbuilt f; levels = l }) (sym (up_min (levels f)))

pub row_is : (n : ℕ) (f : Form) → 0 < n → summary_of (row n f) ≡ above (summary_of f).unbuilt (summary_of f).levels
row_is zero f p = absurd (omega (arith, p))
row_is (suc n) f p = ap (λ l. record { unbuilt = has_unbuilt f; levels = l }) (sym (up_min (levels f)))

pub elements_is : (f : Form) → summary_of (elements f) ≡ above (summary_of f).unbuilt (summary_of f).levels
elements_is f = ap (λ l. record { unbuilt = has_unbuilt f; levels = l }) (sym (up_min (levels f)))

-- ---- several

pub none_more : (fs : Forms) → with_more (record { unbuilt = false; levels = 0 }) (summaries_of fs) ≡ summaries_of fs
none_more fs = ap (λ l. record { unbuilt = has_unbuilt_any fs; levels = l }) (zero_more (most_levels fs))
  where
    zero_more : (l : ℕ) → min (max 0 (min l highest)) highest ≡ min l highest
    zero_more l = omega arith

pub more_next : (all one new : Summary) (f : Form) (fs : Forms) (rest whole : Summary) → with_more all rest ≡ whole → rest ≡ summaries_of (forms f fs) →
    one ≡ summary_of f → new ≡ with_more all one → with_more new (summaries_of fs) ≡ whole
more_next all one new f fs rest whole h e g k =
    ap (λ x. with_more x (summaries_of fs)) (k ∙ ap (with_more all) g) ∙ with_assoc all (summary_of f) (summaries_of fs) ∙
    ap (with_more all) (sym (more_forms f fs) ∙ sym e) ∙ h

abbrev IsSmall : Summary → Type 0
IsSmall s = s.levels ≤ highest

pub more_small : (all one new : Summary) → new ≡ with_more all one → IsSmall new
more_small all one new e = omega (arith, ap (λ x. x.levels) e)

or_false : (b : Bool) → b ≡ (b || false)
or_false true = refl
or_false false = refl

pub last_more : (all rest whole : Summary) → with_more all rest ≡ whole → IsSmall all → rest ≡ summaries_of no_forms → all ≡ whole
last_more all rest whole h small e =
    summary_by all (with_more all (summaries_of no_forms)) (or_false all.unbuilt) (omega (arith, small)) ∙ ap (with_more all) (sym e) ∙ h

pub deep_is : (l : ℕ) → nat_lt MOST_LEVELS (min l highest) ≡ nat_lt MOST_LEVELS l
deep_is l = ⊎_elim
    (λ lt. lt-ltb MOST_LEVELS (min l highest) (omega (arith, lt)) ∙ sym (lt-ltb MOST_LEVELS l lt))
    (λ le. le-ltb MOST_LEVELS (min l highest) (omega (arith, le)) ∙ sym (le-ltb MOST_LEVELS l le))
    (cases_lt MOST_LEVELS l)
