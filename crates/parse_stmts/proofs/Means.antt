-- What an outcome of reading means, and computations that mean what a grammar says.
use Rattle.std.proofs.Common.{◌≡◌, ℕ, suc, List, Bool, true, false, refl, sym, subst, inl, inr}
use Rattle.std.specs.Prelude.{◌⊎◌, if◌then◌else◌}
use Rattle.indent_scanner.specs.declared.token.Token.{Token}
use Rattle.parse_decls.specs.Outcome.{Why, tired, stuck_at, Out, got, bad, then_do, unless_stuck, Settles}
use Rattle.parse_decls.proofs.ForCallers.{settles_suc, Parses}

-- what is read is D, what it refuses is F, or it is tired
pub data Means {X : Type 0} (D : X → List Token → Type 0) (F : Why → Type 0) : Out X → Type 0 where
  m_got : {a : X} {rest : List Token} → D a rest → Means D F (got a rest)
  m_bad : {why : Why} → F why → Means D F (bad why)
  m_tired : Means D F (bad tired)

pub means_map : {X : Type 0} {D E : X → List Token → Type 0} {F G : Why → Type 0} {o : Out X} → Means D F o
    → ((a : X) (rest : List Token) → D a rest → E a rest) → ((why : Why) → F why → G why) → Means E G o
means_map (m_got {a = a} {rest = rest} d) h f = m_got (h a rest d)
means_map (m_bad {why = why} w) h f = m_bad (f why w)
means_map m_tired h f = m_tired

pub means_then : {X Y : Type 0} {D : X → List Token → Type 0} {F G : Why → Type 0} {E : Y → List Token → Type 0} {o : Out X} {go : X → List Token → Out Y}
    → Means D F o → ((a : X) (mid : List Token) → D a mid → Means E G (go a mid)) → ((why : Why) → F why → G why) → Means E G (then_do o go)
means_then (m_got {a = a} {rest = rest} d) h f = h a rest d
means_then (m_bad {why = why} w) h f = m_bad (f why w)
means_then m_tired h f = m_tired

pub means_unless : {Y : Type 0} {E : Y → List Token → Type 0} {G : Why → Type 0} {go : Out Y} (b : Bool) (ts : List Token) → (b ≡ true → Means E G go)
    → (b ≡ false → G (stuck_at ts))
    → Means E G (unless_stuck b ts go)
means_unless true ts h f = h refl
means_unless false ts h f = m_bad (f refl)

pub means_if : {Y : Type 0} {E : Y → List Token → Type 0} {G : Why → Type 0} {a c : Out Y} (b : Bool) → (b ≡ true → Means E G a) → (b ≡ false → Means E G c)
    → Means E G (if b then a else c)
means_if true h f = h refl
means_if false h f = f refl

one_value : {X : Type 0} {a b : X} {r s : List Token} → got a r ≡ got b s → a ≡ b
one_value e = cc

one_rest : {X : Type 0} {a b : X} {r s : List Token} → got a r ≡ got b s → r ≡ s
one_rest e = cc

got_is : {X : Type 0} (D : X → List Token → Type 0) {a b : X} {r s : List Token} → got a r ≡ got b s → D a r → D b s
got_is D {a} {b} {r} {s} e d = subst (D b) (one_rest e) (subst (λ a. D a r) (one_value e) d)

pub means_got : {X : Type 0} {D : X → List Token → Type 0} {F : Why → Type 0} {o : Out X} {a : X} {rest : List Token} → Means D F o → o ≡ got a rest → D a rest
means_got {D = D} (m_got d) e = got_is D e d
means_got (m_bad w) e = cc
means_got m_tired e = cc

-- reading ends
abbrev pub IsLast : Why → Type 0
IsLast tired = ⊥
IsLast _ = Unit {0}

one_why : {X : Type 0} {v w : Why} → ◌≡◌ {A = Out X} (bad v) (bad w) → v ≡ w
one_why e = cc

pub means_bad : {X : Type 0} {D : X → List Token → Type 0} {F : Why → Type 0} {o : Out X} {why : Why} → Means D F o → IsLast why → o ≡ bad why → F why
means_bad (m_got d) l e = cc
means_bad {X = X} {F = F} (m_bad w) l e = subst F (one_why {X = X} e) w
means_bad {X = X} m_tired l e = absurd (subst IsLast (sym (one_why {X = X} e)) l)

-- ---- a production

-- what the computation reads is Done and what it refuses is Fault, and both come about
pub record Told {A : Type 0} (run : ℕ → List Token → Out A) (Done : A → List Token → List Token → Type 0) (Fault : Why → List Token → Type 0) : Type 0 where
  pub means : (k : ℕ) (ts : List Token) → Means (λ a rest. Done a ts rest) (λ why. Fault why ts) (run k ts)
  pub complete : (a : A) (ts rest : List Token) → Done a ts rest → Settles (λ k. run k ts) (got a rest)
  pub faults : (why : Why) (ts : List Token) → Fault why ts → Settles (λ k. run k ts) (bad why)

stopped : {X : Type 0} {D : X → List Token → Type 0} {F : Why → Type 0} (why : Why) → (why ≡ tired) ⊎ F why → Means D F (bad why)
stopped {D = D} {F = F} why (inl e) = subst (λ w. Means D F (bad w)) (sym e) m_tired
stopped why (inr w) = m_bad w

pub told : {A : Type 0} {run : ℕ → List Token → Out A} {R D : A → List Token → List Token → Type 0} {F : Why → List Token → Type 0} → Parses run R D F
    → Told run D F
told {A} {run} {R} {D} {F} p = record { means = λ k ts. one k ts (run k ts) refl; complete = p.complete; faults = p.faults }
  where
    one : (k : ℕ) (ts : List Token) (o : Out A) → run k ts ≡ o → Means (λ a rest. D a ts rest) (λ why. F why ts) o
    one k ts (got a rest) e = m_got (p.sound k ts a rest e)
    one k ts (bad why) e = stopped why (p.stops k ts why e)

-- what a computation settles on, said of one step more
pub settles_next : {X : Type 0} {g : ℕ → Out X} {o : Out X} → Settles (λ k. g (suc k)) o → Settles g o
settles_next {g = g} h = settles_suc {f = λ k. g (suc k)} {g = g} h (λ k. refl)
