-- Computations by steps, and what they come to.
use Rattle.std.proofs.Common.{◌≡◌, ℕ, zero, suc, ◌≤◌, List, Bool, true, false, refl, sym, ap, ◌∙◌, inl, inr, arith}
use Rattle.std.specs.Prelude.{max, ◌⊎◌, if◌then◌else◌}
use Rattle.indent_scanner.specs.declared.token.Token.{Token}
use Rattle.parse_exprs.specs.Outcome.{Why, stuck, Out, got, bad, then_do, unless_stuck, Settles}

-- the first step of a computation that reads something
pub record Led {X Y : Type 0} (o : Out X) (go : X → List Token → Out Y) (w : Out Y) : Type 0 where
  pub value : X
  pub mid : List Token
  pub first : o ≡ got value mid
  pub next : go value mid ≡ w

pub then_got : {X Y : Type 0} {t : Y} {rest : List Token} (o : Out X) (go : X → List Token → Out Y) → then_do o go ≡ got t rest → Led o go (got t rest)
then_got (got a mid) go e = record { value = a; mid = mid; first = refl; next = e }
then_got (bad why) go e = cc

pub then_bad : {X Y : Type 0} {why : Why} (o : Out X) (go : X → List Token → Out Y) → then_do o go ≡ bad why → (o ≡ bad why) ⊎ Led o go (bad why)
then_bad (got a mid) go e = inr (record { value = a; mid = mid; first = refl; next = e })
then_bad {why = why} (bad other) go e = inl (same e)
  where
    same : {X Y : Type 0} {v w : Why} → ◌≡◌ {A = Out Y} (bad v) (bad w) → ◌≡◌ {A = Out X} (bad v) (bad w)
    same e = cc

pub unless_got : {Y : Type 0} {t : Y} {rest : List Token} (b : Bool) (ts : List Token) (go : Out Y) → unless_stuck b ts go ≡ got t rest
    → (b ≡ true) × (go ≡ got t rest)
unless_got true ts go e = (refl, e)
unless_got false ts go e = cc

-- it is stuck at these tokens, or goes on
pub record IsStuck (b : Bool) (ts : List Token) (why : Why) : Type 0 where
  pub not : b ≡ false
  pub at : why ≡ stuck ts

pub record GoesOn {Y : Type 0} (b : Bool) (go o : Out Y) : Type 0 where
  pub is : b ≡ true
  pub same : go ≡ o

bad_why : {Y : Type 0} {v w : Why} → ◌≡◌ {A = Out Y} (bad v) (bad w) → w ≡ v
bad_why e = cc

pub unless_bad : {Y : Type 0} {why : Why} (b : Bool) (ts : List Token) (go : Out Y) → unless_stuck b ts go ≡ bad why → IsStuck b ts why ⊎ GoesOn b go (bad why)
unless_bad true ts go e = inr (record { is = refl; same = e })
unless_bad false ts go e = inl (record { not = refl; at = bad_why e })

-- ---- what a computation settles on

later : {X : Type 0} {f : ℕ → Out X} {o : Out X} (g : ℕ → Out X) (h : Settles f o) → ((k : ℕ) → g (suc k) ≡ f k) → (k : ℕ) → suc h.steps ≤ k → g k ≡ o
later g h e zero le = (let f : ⊥ = omega (arith, le) in absurd f)
later g h e (suc k) le = e k ∙ h.same k (omega (arith, le))

pub settles_suc : {X : Type 0} {f g : ℕ → Out X} {o : Out X} → Settles f o → ((k : ℕ) → g (suc k) ≡ f k) → Settles g o
settles_suc {g = g} h e = record { steps = suc h.steps; same = later g h e }

pub settles_got : {X : Type 0} {o : Out X} → Settles (λ k. o) o
settles_got = record { steps = 0; same = λ k le. refl }

pub settles_is : {X : Type 0} {f g : ℕ → Out X} {o : Out X} → Settles f o → ((k : ℕ) → g k ≡ f k) → Settles g o
settles_is h e = record { steps = h.steps; same = λ k le. e k ∙ h.same k le }

pub settles_then : {X Y : Type 0} {f : ℕ → Out X} {a : X} {mid : List Token} {o : Out Y} (go : ℕ → X → List Token → Out Y) → Settles f (got a mid)
    → Settles (λ k. go k a mid) o
    → Settles (λ k. then_do (f k) (go k)) o
settles_then go h g = record {
  steps = max h.steps g.steps;
  same = λ k le. ap (λ w. then_do w (go k)) (h.same k (omega (arith, le))) ∙ g.same k (omega (arith, le));
}

pub settles_bad : {X Y : Type 0} {f : ℕ → Out X} {why : Why} (go : ℕ → X → List Token → Out Y) → Settles f (bad why)
    → Settles (λ k. then_do (f k) (go k)) (bad why)
settles_bad go h = record { steps = h.steps; same = λ k le. ap (λ w. then_do w (go k)) (h.same k le) }

pub settles_unless : {Y : Type 0} {f : ℕ → Out Y} {o : Out Y} {b : Bool} (ts : List Token) → b ≡ true → Settles f o → Settles (λ k. unless_stuck b ts (f k)) o
settles_unless {f = f} ts e h = settles_is h (λ k. ap (λ c. unless_stuck c ts (f k)) e)

pub settles_stuck : {Y : Type 0} {b : Bool} (f : ℕ → Out Y) (ts : List Token) → b ≡ false → Settles (λ k. unless_stuck b ts (f k)) (bad (stuck ts))
settles_stuck f ts e = record { steps = 0; same = λ k le. ap (λ c. unless_stuck c ts (f k)) e }

-- two outcomes that it settles on are one
pub settles_one : {X : Type 0} {f : ℕ → Out X} {o p : Out X} → Settles f o → Settles f p → o ≡ p
settles_one h g = let k : ℕ = max h.steps g.steps in sym (h.same k (omega arith)) ∙ g.same k (omega arith)

pub got_one : {X : Type 0} {a b : X} {r s : List Token} → got a r ≡ got b s → (a ≡ b) × (r ≡ s)
got_one e = (cc, cc)

pub got_bad : {X C : Type 0} {a : X} {r : List Token} {why : Why} → got a r ≡ bad why → C
got_bad e = cc

-- ---- choices

pub settles_if : {X : Type 0} {f : ℕ → Out X} {b : Bool} {o : Out X} (g : ℕ → Out X) → b ≡ true → Settles f o → Settles (λ k. if b then f k else g k) o
settles_if {f = f} g e h = settles_is h (λ k. ap (λ c. if c then f k else g k) e)

pub settles_else : {X : Type 0} {g : ℕ → Out X} {b : Bool} {o : Out X} (f : ℕ → Out X) → b ≡ false → Settles g o → Settles (λ k. if b then f k else g k) o
settles_else {g = g} f e h = settles_is h (λ k. ap (λ c. if c then f k else g k) e)

-- a test and what is behind it
pub record Branch {X : Type 0} (b c : Bool) (a o : Out X) : Type 0 where
  pub is : b ≡ c
  pub same : a ≡ o

pub if_split : {X : Type 0} {o : Out X} (b : Bool) (a c : Out X) → (if b then a else c) ≡ o → Branch b true a o ⊎ Branch b false c o
if_split true a c e = inl (record { is = refl; same = e })
if_split false a c e = inr (record { is = refl; same = e })
