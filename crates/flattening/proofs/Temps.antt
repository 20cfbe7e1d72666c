-- Temporaries: what a line puts into one, and that a part sets its own alone.
use Rattle.std.proofs.Common.{◌≡◌, ◌≢◌, ℕ, ◌<◌, ◌≤◌, List, [], ◌∷◌, Option, Some, None, refl, ◌∙◌, arith}
use Rattle.std.specs.Prelude.{nat_eq}
use Rattle.std.proofs.lemmas.Bool.{eq-eqb, ne_eqb, cond-true, cond-false}
use Rattle.nim_meaning.specs.Values.{Value}
use Rattle.flat_code.specs.declared.line.From.{From}
use Rattle.flat_code.specs.declared.line.From.TheVariants as F
use Rattle.flat_code.specs.Scene.{Where, Temps, put, without, with_value, with_place}
use Rattle.flat_code.specs.Lines.{handed_over}

pub put_same : {A : Type 0} (held : ℕ → Option A) (t : ℕ) (x : A) → put held t x t ≡ Some x
put_same held t x = cond-true (nat_eq t t) (Some x) (held t) (eq-eqb t t refl)

pub put_other : {A : Type 0} (held : ℕ → Option A) (t : ℕ) (x : A) (u : ℕ) → u ≢ t → put held t x u ≡ held u
put_other held t x u ne = cond-false (nat_eq u t) (Some x) (held u) (ne_eqb u t ne)

without_other : {A : Type 0} (held : ℕ → Option A) (t u : ℕ) → u ≢ t → without held t u ≡ held u
without_other held t u ne = cond-false (nat_eq u t) None (held u) (ne_eqb u t ne)

-- a number is none of those from one to below another
abbrev pub Outside : (lo hi i : ℕ) → Type 0
Outside lo hi i = lo ≤ i → hi ≤ i

pub record Kept (lo hi : ℕ) (old new : Temps) : Type 0 where
  pub values : (i : ℕ) → Outside lo hi i → new.values i ≡ old.values i
  pub places : (i : ℕ) → Outside lo hi i → new.places i ≡ old.places i

pub kept_none : (lo hi : ℕ) (temps : Temps) → Kept lo hi temps temps
kept_none lo hi temps = record { values = λ i out. refl; places = λ i out. refl }

pub kept_then : {lo hi : ℕ} {a b c : Temps} → Kept lo hi a b → Kept lo hi b c → Kept lo hi a c
kept_then p q = record { values = λ i out. q.values i out ∙ p.values i out; places = λ i out. q.places i out ∙ p.places i out }

narrow : (lo hi lo' hi' i : ℕ) → lo ≤ lo' → hi' ≤ hi → Outside lo hi i → Outside lo' hi' i
narrow lo hi lo' hi' i low high out = λ le. let h = out (omega (arith, low, le)) in omega (arith, h, high)

pub kept_wide : {lo hi lo' hi' : ℕ} {a b : Temps} → lo ≤ lo' → hi' ≤ hi → Kept lo' hi' a b → Kept lo hi a b
kept_wide {lo} {hi} {lo'} {hi'} low high k = record {
  values = λ i out. k.values i (narrow lo hi lo' hi' i low high out);
  places = λ i out. k.places i (narrow lo hi lo' hi' i low high out);
}

apart : (lo hi t i : ℕ) → lo ≤ t → t < hi → Outside lo hi i → i ≢ t
apart lo hi t i low high out e = let h = out (omega (arith, low, e)) in absurd (omega (arith, h, high, e))

pub kept_value : {lo hi : ℕ} {old now : Temps} (t : ℕ) (v : Value) → lo ≤ t → t < hi → Kept lo hi old now → Kept lo hi old (with_value t now v)
kept_value {lo} {hi} {old} {now} t v low high k =
    record { values = λ i out. put_other now.values t v i (apart lo hi t i low high out) ∙ k.values i out; places = k.places }

pub kept_place : {lo hi : ℕ} {old now : Temps} (t : ℕ) (place : Where) → lo ≤ t → t < hi → Kept lo hi old now → Kept lo hi old (with_place t now place)
kept_place {lo} {hi} {old} {now} t place low high k =
    record { values = k.values; places = λ i out. put_other now.places t place i (apart lo hi t i low high out) ∙ k.places i out }

-- where values are handed over, of temporaries from one to below another
abbrev pub AreWithin : (lo hi : ℕ) → List From → Type 0
AreWithin lo hi [] = Unit {0}
AreWithin lo hi (F.Value t ∷ from) = (lo ≤ t) × (t < hi) × AreWithin lo hi from
AreWithin lo hi (F.Place t ∷ from) = AreWithin lo hi from

pub within_wide : {lo hi lo' hi' : ℕ} (from : List From) → lo ≤ lo' → hi' ≤ hi → AreWithin lo' hi' from → AreWithin lo hi from
within_wide [] low high w = tt
within_wide (F.Value t ∷ from) low high w = (omega (arith, low, w.0), omega (arith, high, w.1), within_wide from low high w.2)
within_wide (F.Place t ∷ from) low high w = within_wide from low high w

kept_without : {lo hi : ℕ} {old now : Temps} (t : ℕ) → lo ≤ t → t < hi → Kept lo hi old now → Kept lo hi old (record now { values = without now.values t })
kept_without {lo} {hi} {old} {now} t low high k =
    record { values = λ i out. without_other now.values t i (apart lo hi t i low high out) ∙ k.values i out; places = k.places }

pub kept_handed : {lo hi : ℕ} {old now : Temps} (from : List From) → AreWithin lo hi from → Kept lo hi old now → Kept lo hi old (handed_over from now)
kept_handed [] w k = k
kept_handed {now = now} (F.Value t ∷ from) w k = kept_handed {now = record now { values = without now.values t }} from w.2 (kept_without t w.0 w.1 k)
kept_handed (F.Place t ∷ from) w k = kept_handed from w k

-- a value that stands before, or behind, what was set
pub value_before : {lo hi : ℕ} {old now : Temps} (i : ℕ) → i < lo → Kept lo hi old now → now.values i ≡ old.values i
value_before {lo} {hi} i less k = k.values i (λ le. absurd (omega (arith, le, less)))

pub value_behind : {lo hi : ℕ} {old now : Temps} (i : ℕ) → hi ≤ i → Kept lo hi old now → now.values i ≡ old.values i
value_behind {lo} {hi} i less k = k.values i (λ le. less)

pub place_before : {lo hi : ℕ} {old now : Temps} (i : ℕ) → i < lo → Kept lo hi old now → now.places i ≡ old.places i
place_before {lo} {hi} i less k = k.places i (λ le. absurd (omega (arith, le, less)))
