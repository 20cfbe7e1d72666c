-- Where a meaning stands still, one that agrees with it shows the same from some moment on.
use Rattle.std.proofs.Common.{◌≡◌, ℕ, ◌+◌, List, [], ◌∷◌, ◌++◌, length, refl, sym, ap, subst, ◌∙◌, append_assoc, append-nil, length-append, arith}
use Rattle.arc_base.specs.Event.{Event}
use Rattle.arc_base.specs.Behaviour.{Behaviour, Phase, Running, Ended, Faulted, Wrong, Seen, IsPrefix, Covers, Agrees, IsOver, Steady, Sound}

-- ---- lists of which each is a front of the other

nothing_more : {A : Type 0} (xs rest : List A) → xs ++ rest ≡ xs → rest ≡ []
nothing_more xs [] e = refl
nothing_more xs (r ∷ rest) e =
    let n = length-append xs (r ∷ rest) in let m = ap length e in absurd (omega (arith, n, m))

first_none : {A : Type 0} (ps qs : List A) → ps ++ qs ≡ [] → ps ≡ []
first_none [] qs e = refl
first_none (p ∷ ps) qs e = let n = ap length e in absurd (omega (arith, n))

front_both : {A : Type 0} (xs ys : List A) → IsPrefix xs ys → IsPrefix ys xs → xs ≡ ys
front_both xs ys p q =
    let none = nothing_more xs (p.0 ++ q.0) (sym (append_assoc xs p.0 q.0) ∙ (ap (λ l. l ++ q.0) p.1 ∙ q.1)) in
    let first : p.0 ≡ [] = first_none p.0 q.0 none in
    sym (append-nil xs) ∙ (ap (λ l. xs ++ l) (sym first) ∙ p.1)

front_then : {A : Type 0} (xs ys zs : List A) → IsPrefix xs ys → IsPrefix ys zs → IsPrefix xs zs
front_then xs ys zs p q = (p.0 ++ q.0, sym (append_assoc xs p.0 q.0) ∙ (ap (λ l. l ++ q.0) p.1 ∙ q.1))

-- ---- the same

module _ (low high : Behaviour Event) (steady_low : Steady low) (steady_high : Steady high) (sound : Sound high) (agrees : Agrees low high)
    (lines : ℕ) (still : (more : ℕ) → high (lines + more) ≡ high lines) where
  abbrev from : ℕ
  from = (agrees.high_in_low lines).0

  abbrev covered : Covers (high lines) (low from)
  covered = (agrees.high_in_low lines).1

  module _ (more : ℕ) where
    abbrev n : ℕ
    n = from + more

    abbrev k : ℕ
    k = (agrees.low_in_high n).0

    abbrev covers : Covers (low n) (high k)
    covers = (agrees.low_in_high n).1

    same_events : (low n).events ≡ (high lines).events
    same_events =
        front_both (low n).events (high lines).events
        (front_then (low n).events (high k).events (high lines).events covers.prefix
        (subst (λ (s : Seen Event). IsPrefix (high k).events s.events) (still k) (steady_high.grows k (lines + k) (omega arith))))
        (front_then (high lines).events (low from).events (low n).events covered.prefix (steady_low.grows from n (omega arith)))

    same_phase : (low n).phase ≡ (high lines).phase
    same_phase = by (high lines).phase refl
      where
        runs : (high lines).phase ≡ Running → (p : Phase) → (low n).phase ≡ p → (low n).phase ≡ Running
        runs e Running f = f
        runs e (Ended status live) f =
            let h = covers.end status live f in
            let over = steady_high.stays k (lines + k) (omega arith) (subst IsOver (sym h.2) tt) in
            let same : (high lines).phase ≡ (high k).phase = ap (λ (s : Seen Event). s.phase) (sym (still k) ∙ over) in
            absurd (subst IsOver (sym h.2 ∙ (sym same ∙ e)) tt)
        runs e Faulted f = absurd (agrees.no_fault n f)
        runs e Wrong f = absurd (agrees.low_right n f)

        by : (p : Phase) → (high lines).phase ≡ p → (low n).phase ≡ (high lines).phase
        by Running e = runs e (low n).phase refl ∙ sym e
        by (Ended status live) e =
            let h = covered.end status live e in
            let over = steady_low.stays from n (omega arith) (subst IsOver (sym h.2) tt) in
            ap (λ (s : Seen Event). s.phase) over ∙ (h.2 ∙ (ap (Ended status) (agrees.same_live from lines status status h.1 live h.2 e) ∙ sym e))
        by Faulted e = absurd (sound.no_fault lines e)
        by Wrong e = absurd (sound.right lines e)

  pub stands_alike : (from : ℕ) × ((more : ℕ) → ((low (from + more)).events ≡ (high lines).events) × ((low (from + more)).phase ≡ (high lines).phase))
  stands_alike = (from, λ more. (same_events more, same_phase more))
