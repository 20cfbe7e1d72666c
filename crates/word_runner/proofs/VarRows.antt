-- What is held at numbers.
use Rattle.std.proofs.Common.{◌≡◌, ℕ, zero, suc, ◌<◌, ◌≤◌, ◌%◌, ◌^◌, Bool, true, false, length, get_or, set, arith, List, [], ◌∷◌, ◌++◌, refl, ap, ◌∙◌}
use Rattle.std.proofs.Common.{Option, Some, None}
use Rattle.std.proofs.lemmas.Bool.{eqb-true, eqb-false}
use Rattle.std.proofs.Math.Path.{fun_ext}
use Rattle.std.specs.Prelude.{◌==◌, if◌then◌else◌}
use Rattle.word_code.specs.Words.{put}
use Rattle.word_runner.specs.View.{held_in}

-- one more that got nothing changes nothing
pub nothing_more : {A : Type 0} (held : List (Option A)) (u : ℕ) → held_in (held ++ None ∷ []) u ≡ held_in held u
nothing_more [] zero = refl
nothing_more [] (suc u) = refl
nothing_more (x ∷ held) zero = refl
nothing_more (x ∷ held) (suc u) = nothing_more held u

set_there : {A : Type 0} (held : List (Option A)) (t : ℕ) (x : A) → t < length held → held_in (set held t (Some x)) t ≡ Some x
set_there [] t x lt = absurd (omega (arith, lt))
set_there (y ∷ held) zero x lt = refl
set_there (y ∷ held) (suc t) x lt = set_there held t x (omega (arith, lt))

set_elsewhere : {A : Type 0} (held : List (Option A)) (t : ℕ) (x : A) (u : ℕ) → (u ≡ t → ⊥) → held_in (set held t (Some x)) u ≡ held_in held u
set_elsewhere [] t x u other = refl
set_elsewhere (y ∷ held) zero x zero other = absurd (other refl)
set_elsewhere (y ∷ held) zero x (suc u) other = refl
set_elsewhere (y ∷ held) (suc t) x zero other = refl
set_elsewhere (y ∷ held) (suc t) x (suc u) other = set_elsewhere held t x u (λ e. other (ap suc e))

pub held_set : {A : Type 0} (held : List (Option A)) (t : ℕ) (x : A) (u : ℕ) → t < length held
    → held_in (set held t (Some x)) u ≡ (if u == t then Some x else held_in held u)
held_set held t x u lt = each (u == t) refl
  where
    each : (b : Bool) → (u == t) ≡ b → held_in (set held t (Some x)) u ≡ (if b then Some x else held_in held u)
    each true e = let same : u ≡ t = eqb-true u t e in ap (held_in (set held t (Some x))) same ∙ set_there held t x lt
    each false e = set_elsewhere held t x u (eqb-false u t e)

-- a variable gets a word
pub put_word : (old new : List (Option ℕ)) (v word : ℕ) → word < 2 ^ 32 → ((u : ℕ) → held_in new u ≡ (if u == v then Some word else held_in old u))
    → held_in new ≡ put (held_in old) v word
put_word old new v word small h =
    let e : word ≡ word % 2 ^ 32 = omega (arith, small) in
    fun_ext (λ u. h u ∙ ap (λ (w : ℕ). if u == v then Some w else held_in old u) e)

-- what is held where a list ends, and before
pub held_past : {A : Type 0} (held : List (Option A)) (v : ℕ) → length held ≤ v → held_in held v ≡ None
held_past [] v le = refl
held_past (x ∷ held) zero le = absurd (omega (arith, le))
held_past (x ∷ held) (suc v) le = held_past held v (omega (arith, le))

pub held_there : {A : Type 0} (held : List (Option A)) (v : ℕ) (x : Option A) → v < length held → x ≡ get_or held v x → x ≡ held_in held v
held_there [] v x lt e = absurd (omega (arith, lt))
held_there (y ∷ held) zero x lt e = e
held_there (y ∷ held) (suc v) x lt e = held_there held v x (omega (arith, lt)) e
