-- What a variable holds once a word was put to it, and what temporaries hold.
use Rattle.std.proofs.Common.{◌≡◌, ◌≢◌, ℕ, ◌%◌, ◌^◌, ◌<◌, Bool, true, false, Option, Some, None, refl, sym, ap, ◌∙◌, arith}
use Rattle.std.specs.Prelude.{nat_eq, ◌==◌}
use Rattle.std.proofs.lemmas.Bool.{cond-true, cond-false, eq-eqb, ne_eqb, false≢true}
use Rattle.flat_code.specs.Scene as scene
use Rattle.word_code.specs.Words.{Vars, put}
use Rattle.hook_code.proofs.Env.{set}

pub put_here : (v : Vars) (to n : ℕ) → put v to n to ≡ Some (n % 2 ^ 32)
put_here v to n = cond-true (to == to) (Some (n % 2 ^ 32)) (v to) (eq-eqb to to refl)

pub put_there : (v : Vars) (to n u : ℕ) → u ≢ to → put v to n u ≡ v u
put_there v to n u ne = cond-false (u == to) (Some (n % 2 ^ 32)) (v u) (ne_eqb u to ne)

pub put_word : (v : Vars) (to n : ℕ) → n < 2 ^ 32 → put v to n to ≡ Some n
put_word v to n small = put_here v to n ∙ (let e : n % 2 ^ 32 ≡ n = omega arith in ap Some e)

module _ {A : Type 0} (held : ℕ → A) (t : ℕ) (o : A) where
  pub set_here : set held t o t ≡ o
  set_here = cond-true (nat_eq t t) o (held t) (eq-eqb t t refl)

  pub set_there : (u : ℕ) → u ≢ t → set held t o u ≡ held u
  set_there u ne = cond-false (nat_eq u t) o (held u) (ne_eqb u t ne)

module _ {A : Type 0} (held : ℕ → Option A) (t : ℕ) (x : A) where
  pub got_here : scene.put held t x t ≡ Some x
  got_here = set_here held t (Some x)

  pub got_there : (u : ℕ) → u ≢ t → scene.put held t x u ≡ held u
  got_there u ne = set_there held t (Some x) u ne

abbrev some_of : {A : Type 0} → A → Option A → A
some_of none None = none
some_of none (Some x) = x

abbrev is_none : {A : Type 0} → Option A → Bool
is_none None = true
is_none (Some x) = false

pub none_some : {A : Type 0} {x : A} → None ≡ Some x → ⊥
none_some {x = x} e = false≢true (sym (ap is_none e))

pub same_some : {A : Type 0} (x y : A) → Some x ≡ Some y → x ≡ y
same_some x y e = ap (some_of x) e
