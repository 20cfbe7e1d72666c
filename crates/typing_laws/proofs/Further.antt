-- What is said of types behind what was said, and in the end.
use Rattle.std.proofs.Common.{◌≡◌, Bool, true, false, [], ◌∷◌, ◌++◌, Some, refl, sym, ap, subst, ◌∙◌, append_assoc, append-nil}
use Rattle.nim_types.specs.Types.{Fact, Declared, Facts, fact_of, if_same, same}
use Rattle.typing_laws.proofs.Tests.{none_some, the_same, same_by}
use Rattle.typing_laws.proofs.Growing.{Said}

-- Each that is said in one list is what the other says of its type.
abbrev pub AllSaid : Facts → Facts → Type 0
AllSaid [] g = Unit {0}
AllSaid (d ∷ f) g = (fact_of g d.of ≡ Some d.fact) × AllSaid f g

-- the same, and more behind it
pub record Further (f g : Facts) : Type 0 where
  pub more : Facts
  pub is : g ≡ f ++ more

pub no_further : (f : Facts) → Further f f
no_further f = record { more = []; is = sym (append-nil f) }

pub then_further : {f g h : Facts} → Further f g → Further g h → Further f h
then_further {f} a b = record { more = a.more ++ b.more; is = b.is ∙ ap (λ l. l ++ b.more) a.is ∙ append_assoc f a.more b.more }

pub said_before : (f more : Facts) → Said f (f ++ more)
said_before [] more ty fact e = none_some e
said_before (d ∷ f) more ty fact e = by_test (same d.of ty) e (said_before f more ty fact)
  where
    by_test : (b : Bool) → if_same b d.fact (fact_of f ty) ≡ Some fact → (fact_of f ty ≡ Some fact → fact_of (f ++ more) ty ≡ Some fact)
        → if_same b d.fact (fact_of (f ++ more) ty) ≡ Some fact
    by_test true e rest = e
    by_test false e rest = rest e

pub said_by : {f g : Facts} → Further f g → Said f g
said_by {f} a = subst (Said f) (sym a.is) (said_before f a.more)

-- ---- in the end

all_before : (f more h : Facts) → AllSaid (f ++ more) h → AllSaid f h
all_before [] more h s = tt
all_before (d ∷ f) more h s = (s.0, all_before f more h s.1)

pub before_end : {f g : Facts} (h : Facts) → Further f g → AllSaid g h → AllSaid f h
before_end {f} h a s = all_before f a.more h (subst (λ l. AllSaid l h) a.is s)

pub all_behind : (f more h : Facts) → AllSaid (f ++ more) h → AllSaid more h
all_behind [] more h s = s
all_behind (d ∷ f) more h s = all_behind f more h s.1

pub said_in_end : (f h : Facts) → AllSaid f h → Said f h
said_in_end [] h s ty fact e = none_some e
said_in_end (d ∷ f) h s ty fact e = by_test (same d.of ty) refl e (said_in_end f h s.1 ty fact)
  where
    by_test : (b : Bool) → same d.of ty ≡ b → if_same b d.fact (fact_of f ty) ≡ Some fact → (fact_of f ty ≡ Some fact → fact_of h ty ≡ Some fact)
        → fact_of h ty ≡ Some fact
    by_test true i e rest = ap (fact_of h) (sym (the_same {s = d.of} {t = ty} i)) ∙ s.0 ∙ e
    by_test false i e rest = rest e

-- something is said of the type of each
pub said_there : (before : Facts) (d : Declared) (rest : Facts) → (fact : Fact) × (fact_of (before ++ d ∷ rest) d.of ≡ Some fact)
said_there [] d rest = (d.fact, ap (λ b. if_same b d.fact (fact_of rest d.of)) (same_by {s = d.of} {t = d.of} refl))
said_there (p ∷ before) d rest = by_test (same p.of d.of) (said_there before d rest)
  where
    by_test : (b : Bool) → (fact : Fact) × (fact_of (before ++ d ∷ rest) d.of ≡ Some fact)
        → (fact : Fact) × (if_same b p.fact (fact_of (before ++ d ∷ rest) d.of) ≡ Some fact)
    by_test true r = (p.fact, refl)
    by_test false r = r

once_from : (before rest all h : Facts) → before ++ rest ≡ all → AllSaid all h → AllSaid rest h → AllSaid rest all
once_from before [] all h e s r = tt
once_from before (d ∷ rest) all h e s r =
    let t = said_there before d rest in
    let found : fact_of all d.of ≡ Some t.0 = subst (λ l. fact_of l d.of ≡ Some t.0) e t.1 in (
      found ∙ sym (said_in_end all h s d.of t.0 found) ∙ r.0,
      once_from (before ++ d ∷ []) rest all h (append_assoc before (d ∷ []) rest ∙ e) s r.1,
    )

-- where all that is said is so said elsewhere, nothing is said twice
pub said_once : (f h : Facts) → AllSaid f h → AllSaid f f
said_once f h s = once_from [] f f h refl s s
