-- A machine that comes to where it follows another one after some work of its own is late by that.
use Rattle.std.proofs.Common.{◌≡◌, ℕ, zero, suc, ◌+◌, ◌*◌, ◌≤◌, List, [], ◌++◌, refl, sym, subst, ◌∙◌, arith, mul-le-mul_right}
use Rattle.arc_base.specs.Event.{Event}
use Rattle.arc_base.specs.Behaviour.{Behaviour, Covers, IsPrefix, Seen}
use Rattle.arc_base.specs.Pace.{Paced, PacedFrom}
use Rattle.arc_base.specs.Simulation.{Does, Steps}
use Rattle.arc_base.specs.Stepping.{Next, Goes, Ends, Faults, Errs, after, behaviour, run}

-- the same is seen, with so much work more
record Shifted (a b : Seen Event) (d : ℕ) : Type 0 where
  events : a.events ≡ b.events
  phase : a.phase ≡ b.phase
  work : b.work ≡ a.work + d

module _ {S : Type 0} (step : S → Next Event S) (d : ℕ) where
  after_shifted : (x : Next Event S) (n : ℕ) (out : List Event) (done : ℕ)
      → ((s : S) (out : List Event) (done : ℕ) → Shifted (run step n s out done) (run step n s out (done + d)) d)
      → Shifted (after x (run step n) out done) (after x (run step n) out (done + d)) d
  after_shifted (Goes es w s) n out done h =
      let e : done + w + d ≡ done + d + w = omega arith in
      subst (λ k. Shifted (run step n s (out ++ es) (done + w)) (run step n s (out ++ es) k) d) e (h s (out ++ es) (done + w))
  after_shifted (Ends es w status live) n out done h = record { events = refl; phase = refl; work = omega arith }
  after_shifted Faults n out done h = record { events = refl; phase = refl; work = omega arith }
  after_shifted Errs n out done h = record { events = refl; phase = refl; work = omega arith }

  shifted : (n : ℕ) (s : S) (out : List Event) (done : ℕ) → Shifted (run step n s out done) (run step n s out (done + d)) d
  shifted zero s out done = record { events = refl; phase = refl; work = omega arith }
  shifted (suc n) s out done = after_shifted (step s) n out done (shifted n)

covers_shifted : (a b c : Seen Event) (d : ℕ) → Covers a b → Shifted b c d → Covers a c
covers_shifted a b c d covers s = record {
  prefix = subst (λ es. IsPrefix a.events es) s.events covers.prefix;
  end = λ status live e. let h = covers.end status live e in (sym s.events ∙ h.0, h.1, sym s.phase ∙ h.2);
}

module _ {S : Type 0} (low : S → Next Event S) (start s : S) (l p c late : ℕ) (steps : Steps low l start [] p s) (few : p ≤ c * late) where
  pub late_paced : (high : Behaviour Event) → Paced c (behaviour low s) high → PacedFrom c (1 + late) (behaviour low start) high
  late_paced high paced n =
      let x = paced n in
      let b = steps.by x.0 in
      let more = shifted low steps.work x.0 s [] 0 in
      let work = more.work in
      let within = steps.within in
      let most = x.2 in
      let seen = subst (λ z. Covers (high n) z × (z.work ≤ c * ((high n).work + (1 + late)))) (sym (b.2 [] 0))
      (covers_shifted (high n) (run low x.0 s [] 0) (run low x.0 s [] (0 + steps.work)) steps.work x.1 more, omega (arith, work, within, most, few)) in
      (b.0, seen.0, seen.1)

-- what is done at a pace is done at a greater one
module _ {S T : Type 0} (low : S → Next Event S) (R : S → T → Type 0) (rank : T → ℕ) (c d : ℕ) (le : c ≤ d) where
  steps_more : (least : ℕ) (s u : S) (es : List Event) (w : ℕ) → Steps low least s es (c * w) u → Steps low least s es (d * w) u
  steps_more least s u es w x =
      let more : c * w ≤ d * w = mul-le-mul_right w le in
      let within = x.within in
      record { work = x.work; within = omega (arith, within, more); by = x.by }

  pub does_more : (s : S) (t : T) (next : Next Event T) → Does low R rank c s t next → Does low R rank d s t next
  does_more s t (Goes es w u) x = (x.0, x.1, steps_more x.1 s x.0 es w x.2, x.3, x.4)
  does_more s t (Ends es w status live) x =
      let more : c * w ≤ d * w = mul-le-mul_right w le in
      let within = x.within in
      record { work = x.work; within = omega (arith, within, more); by = x.by }
  does_more s t Faults x = tt
  does_more s t Errs x = tt
