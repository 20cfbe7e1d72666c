-- Homes that are right by the test are homes.
use Rattle.std.proofs.Common.{◌≡◌, ◌≢◌, ◌⊎◌, inl, inr, ℕ, zero, suc, ◌+◌, ◌-◌, ◌*◌, ◌<◌, ◌≤◌, List, []}
use Rattle.std.proofs.Common.{◌∷◌, ◌++◌, length, Bool, true, false, Some}
use Rattle.std.proofs.Common.{refl, sym, ap, subst, ◌∙◌, arith, length-append}
use Rattle.std.specs.Prelude.{nat_le, ◌&&◌, ◌||◌, slice_get}
use Rattle.std.specs.HashMap.{HashMap}
use Rattle.std.proofs.lemmas.Bool.{cases_eq, and_parts, leb-true, true≢false}
use Rattle.word_code.specs.declared.word.WordInstr.{WordInstr}
use Rattle.word_code.specs.declared.word.WordProc.{WordProc}
use Rattle.reg_scan.specs.declared.homes.Home.{Home}
use Rattle.reg_scan.specs.declared.homes.Home.TheVariants.{Reg, Frame}
use Rattle.reg_scan.specs.declared.homes.Homes.{Homes}
use Rattle.reg_scan.specs.Alive.{effect_of, Alive}
use Rattle.reg_scan.specs.Homes.{or_none, home_of, is_free, IsPlace, IsFrame, IsHomes}
use Rattle.reg_scan.specs.Fine.{AllRight, NoneFirst, IsOwn, AreOwn}
use Rattle.reg_scan.proofs.FineHomes.{one_alive, set_apart, call_alone, param_framed}

-- ---- free registers

or_small : (a b : Bool) (P : Type 0) → (a || b) ≡ true → (a ≡ true → P) → (b ≡ true → P) → P
or_small true b P h f g = f refl
or_small false b P h f g = g h

below : (low high n : ℕ) → (nat_le low n && nat_le n high) ≡ true → n ≤ high
below low high n h = leb-true n high (and_parts (nat_le low n) (nat_le n high) h).1

pub free_small : (n : ℕ) → is_free n ≡ true → n < 32
free_small n h =
    or_small (nat_le 8 n && nat_le n 9) _ (n < 32) h (λ e. omega (arith, below 8 9 n e)) (λ a.
    or_small (nat_le 13 n && nat_le n 16) _ (n < 32) a (λ e. omega (arith, below 13 16 n e)) (λ e. omega (arith, below 18 31 n e)))

-- ---- lists of homes

first_get : (xs : List Home) (x : Home) (n v : ℕ) → length xs ≡ n → v < n → slice_get (xs ++ x ∷ []) v ≡ slice_get xs v
first_get [] x n v e lt = absurd (omega (arith, e, lt))
first_get (y ∷ xs) x n zero e lt = refl
first_get (y ∷ xs) x zero (suc v) e lt = absurd (omega (arith, lt))
first_get (y ∷ xs) x (suc n) (suc v) e lt = first_get xs x n v (omega (arith, e)) (omega (arith, lt))

last_get : (xs : List Home) (x : Home) → slice_get (xs ++ x ∷ []) (length xs) ≡ Some x
last_get [] x = refl
last_get (y ∷ xs) x = last_get xs x

pub own_none : (given : Bool) (vars : ℕ) → AreOwn given vars 0 []
own_none given vars = (refl, λ v lt. absurd (omega (arith, lt)))

pub own_more : (given : Bool) (vars count : ℕ) (homes : List Home) (home : Home) → AreOwn given vars count homes → IsOwn given vars count home →
    AreOwn given vars (count + 1) (homes ++ home ∷ [])
own_more given vars count homes home h own = (length-append homes (home ∷ []) ∙ ap (λ n. n + 1) h.0, λ v lt. at v (cases_eq v count) lt)
  where
    at : (v : ℕ) → (v ≡ count) ⊎ (v ≡ count → ⊥) → v < count + 1 → IsOwn given vars v (or_none (slice_get (homes ++ home ∷ []) v))
    at v (inr ne) lt =
        let less : v < count = omega (arith, lt, ne) in
        subst (λ o. IsOwn given vars v (or_none o)) (sym (first_get homes home count v h.0 less)) (h.1 v less)
    at v (inl e) lt =
        let is : slice_get (homes ++ home ∷ []) v ≡ Some home = ap (slice_get (homes ++ home ∷ [])) (e ∙ sym h.0) ∙ last_get homes home in
        subst (λ o. IsOwn given vars v (or_none o)) (sym is) (subst (λ n. IsOwn given vars n home) (sym e) own)

-- ---- the whole

own_place : (given : Bool) (vars v frame : ℕ) (home : Home) → v < vars → frame ≡ 4 * (vars + 1) → IsOwn given vars v home → IsPlace frame home
own_place given vars v frame (Reg r) lt e h = h.1
own_place given vars v frame (Frame at) lt e h = (omega (arith, h), (omega (arith, h, lt), omega (arith, h, lt, e)))

-- it has no register
abbrev pub NotIn : Home → Type 0
NotIn home = (r : ℕ) → r < 32 → home ≡ Reg r → ⊥

-- two variables' own homes are different, or one register
own_apart : (given : Bool) (vars v w : ℕ) (a b : Home) → v < vars → w < vars → IsOwn given vars v a → IsOwn given vars w b → v ≢ w →
    ((r : ℕ) → r < 32 → a ≡ Reg r → b ≡ Reg r → ⊥) → a ≢ b
own_apart given vars v w (Reg r) b lt less h k ne none e = none r (free_small r h.1) refl (sym e)
own_apart given vars v w (Frame at) (Reg r) lt less h k ne none e = frame_reg at r e
  where
    frame_reg : (at r : ℕ) → Frame at ≡ Reg r → ⊥
    frame_reg at r e = cc
own_apart given vars v w (Frame at) (Frame from) lt less h k ne none e = ne (omega (arith, h, k, same_at at from e, lt, less))
  where
    same_at : (at from : ℕ) → Frame at ≡ Frame from → at ≡ from
    same_at at from e = cc

own_framed : (given : Bool) (vars v : ℕ) (home : Home) → IsOwn given vars v home → NotIn home → IsFrame home
own_framed given vars v (Reg r) h none = none r (free_small r h.1) refl
own_framed given vars v (Frame at) h none = tt

own_at : (given : Bool) (vars v frame : ℕ) (home : Home) → v < vars → frame ≡ 4 * (vars + 1) → IsOwn given vars v home → NotIn home →
    home ≡ Frame (frame - 4 * suc v)
own_at given vars v frame (Reg r) lt e h none = absurd (none r (free_small r h.1) refl)
own_at given vars v frame (Frame at) lt e h none = ap Frame (let g : at ≡ frame - 4 * suc v = omega (arith, h, lt, e) in g)

-- registers are right: homes that share one aren't alive together, and what is alive behind a call or is a parameter has none
pub record Right (p : WordProc) (homes : Homes) : Type 0 where
  pub together : (before rest : List WordInstr) (v w r : ℕ) → before ++ rest ≡ p.lines → Alive p.lines v rest → Alive p.lines w rest →
      v < p.vars → r < 32 → home_of homes v ≡ Reg r → home_of homes w ≡ Reg r → v ≡ w
  pub apart : (before rest : List WordInstr) (line : WordInstr) (v to r : ℕ) → before ++ line ∷ rest ≡ p.lines → (effect_of line).to ≡ Some to →
      Alive p.lines v rest → v < p.vars → r < 32 → home_of homes v ≡ Reg r → home_of homes to ≡ Reg r → v ≡ to
  pub across : (before rest : List WordInstr) (line : WordInstr) (v to r : ℕ) → before ++ line ∷ rest ≡ p.lines → (effect_of line).to ≡ Some to →
      (effect_of line).calls ≡ true → Alive p.lines v rest → v < p.vars → r < 32 → home_of homes v ≡ Reg r → v ≡ to
  pub params : (v r : ℕ) → v < p.params → v < p.vars → Alive p.lines v p.lines → r < 32 → home_of homes v ≡ Reg r → ⊥

pub are_homes : (given : Bool) (p : WordProc) (homes : Homes) → AreOwn given p.vars p.vars homes.of → homes.frame ≡ 4 * (p.vars + 1) →
    Right p homes → IsHomes p homes
are_homes given p homes own frame k =
    let n = p.vars in
    let home = home_of homes in
    record {
      long = own.0;
      whole = omega (arith, frame);
      least = omega (arith, frame);
      most = omega (arith, frame);
      there = λ v lt. own_place given n v homes.frame (home v) lt frame (own.1 v lt);
      together = λ before rest v w split lives live ne lt less.
          own_apart given n v w (home v) (home w) lt less (own.1 v lt) (own.1 w less) ne
          (λ r small a b. ne (k.together before rest v w r split lives live lt small a b));
      apart = λ before rest line v to split is lives ne lt less.
          own_apart given n v to (home v) (home to) lt less (own.1 v lt) (own.1 to less) ne
          (λ r small a b. ne (k.apart before rest line v to r split is lives lt small a b));
      across = λ before rest line v to split is calls lives ne lt.
          own_framed given n v (home v) (own.1 v lt) (λ r small a. ne (k.across before rest line v to r split is calls lives lt small a));
      params = λ v param lt lives.
          own_at given n v homes.frame (home v) lt frame (own.1 v lt) (λ r small a. k.params v r param lt lives small a);
    }

-- by the test
pub right_by_test : {S : Type 0} (of : List ℕ) (labels : HashMap ℕ ℕ S) (p : WordProc) (homes : Homes) (tried : List Home) (lines : List WordInstr) →
    tried ≡ homes.of → lines ≡ p.lines → AllRight of tried labels lines → NoneFirst of p.params → Right p homes
right_by_test of labels p homes tried lines same all test none =
    let right : AllRight of homes.of labels p.lines = subst (AllRight of homes.of labels) all (subst (λ hs. AllRight of hs labels lines) same test) in
    record {
      together = λ before rest v w r split lives live lt small a b.
          one_alive of labels homes.of p.lines right before rest v w r split lives live small a b;
      apart = λ before rest line v to r split is lives lt small a b.
          set_apart of labels homes.of p.lines right before rest line v to r split is lives small a b;
      across = λ before rest line v to r split is calls lives lt small a.
          call_alone of labels homes.of p.lines right before rest line v to r split is calls lives small a;
      params = λ v r param lt lives small a. param_framed of labels homes.of p.lines right p.params v r none param lives small a;
    }

-- where none are given
pub right_in_frame : (p : WordProc) (homes : Homes) → AreOwn false p.vars p.vars homes.of → Right p homes
right_in_frame p homes own =
    let none : (v r : ℕ) → v < p.vars → home_of homes v ≡ Reg r → ⊥ = λ v r lt is.
    true≢false (sym (subst (IsOwn false p.vars v) is (own.1 v lt)).0) in
    record {
      together = λ before rest v w r split lives live lt small a b. absurd (none v r lt a);
      apart = λ before rest line v to r split is lives lt small a b. absurd (none v r lt a);
      across = λ before rest line v to r split is calls lives lt small a. absurd (none v r lt a);
      params = λ v r param lt lives small a. none v r lt a;
    }
