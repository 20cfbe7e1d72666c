-- A machine that follows another one step by step, at the pace c, never does more work than c times that of the other one, at some moment.
use Rattle.std.proofs.Common.{◌≡◌, ◌≢◌, ℕ, zero, suc, ◌+◌, ◌*◌, ◌<◌, ◌≤◌, List, [], ◌++◌, refl, sym, ap, ◌∙◌, subst, inl, inr, arith}
use Rattle.arc_base.specs.Event.{Event}
use Rattle.arc_base.specs.Behaviour.{Behaviour, Ended, Faulted, Wrong, Seen, IsOver, Sound}
use Rattle.arc_base.specs.Stepping.{Next, Goes, Ends, Faults, Errs, seen, after, run, behaviour}
use Rattle.arc_base.proofs.ForCallers.{steady}
use Rattle.arc_base.specs.Simulation.{Steps, Does, Pairs, AreOf}
use Rattle.word_lowering.proofs.WaitsRight.{right}

-- low's work is never more than so many times that of high and so much more at some moment
abbrev pub IsBounded : (c late : ℕ) → Behaviour Event → Behaviour Event → Type 0
IsBounded c late low high = (n : ℕ) → (m : ℕ) × ((low n).work ≤ c * ((high m).work + late))

-- ---- work only grows

module _ {S : Type 0} (step : S → Next Event S) where
  after_works : (x : Next Event S) (m n : ℕ) (out : List Event) (done : ℕ) →
      ((s : S) (out : List Event) (done : ℕ) → (run step m s out done).work ≤ (run step n s out done).work) →
      (after x (run step m) out done).work ≤ (after x (run step n) out done).work
  after_works (Goes es w s) m n out done h = h s (out ++ es) (done + w)
  after_works (Ends es w status live) m n out done h = omega arith
  after_works Faults m n out done h = omega arith
  after_works Errs m n out done h = omega arith

  after_least : (x : Next Event S) (n : ℕ) (out : List Event) (done : ℕ) →
      ((s : S) (out : List Event) (done : ℕ) → done ≤ (run step n s out done).work) → done ≤ (after x (run step n) out done).work
  after_least (Goes es w s) n out done h = let i = h s (out ++ es) (done + w) in omega (arith, i)
  after_least (Ends es w status live) n out done h = omega arith
  after_least Faults n out done h = omega arith
  after_least Errs n out done h = omega arith

  least_work : (n : ℕ) (s : S) (out : List Event) (done : ℕ) → done ≤ (run step n s out done).work
  least_work zero s out done = omega arith
  least_work (suc n) s out done = after_least (step s) n out done (least_work n)

  works : (m n : ℕ) → m ≤ n → (s : S) (out : List Event) (done : ℕ) → (run step m s out done).work ≤ (run step n s out done).work
  works zero n le s out done = least_work n s out done
  works (suc m) zero le s out done = absurd (omega (arith, le))
  works (suc m) (suc n) le s out done = after_works (step s) m n out done (works m n (omega (arith, le)))

  -- and is most where the run stands still
  pub still_works : (s : S) (lines : ℕ) → ((more : ℕ) → behaviour step s (lines + more) ≡ behaviour step s lines) → (n : ℕ) →
      (behaviour step s n).work ≤ (behaviour step s lines).work
  still_works s lines still n =
      let h = works n (lines + n) (omega arith) s [] 0 in
      let e = ap (λ (x : Seen Event). x.work) (still n) in
      omega (arith, h, e)

-- ---- beside the other machine

module _ {S T : Type 0} (low : S → Next Event S) (high : T → Next Event T) (R : S → T → Type 0) (rank : T → ℕ) (c late p : ℕ)
    (does : (s : S) (t : T) → R s t → Does low R rank c s t (high t)) (few : p ≤ c * late) (start : S) where
  -- from the start low has come to a state in at least so many steps, with so much work at most
  record Came (least most : ℕ) (out : List Event) (s : S) : Type 0 where
    work : ℕ
    within : work ≤ most
    by : (k : ℕ) → (j : ℕ) × (k + least ≤ j) × (run low j start [] 0 ≡ run low k s out work)

  came_on : (l m a b : ℕ) (s u : S) (out es : List Event) → Came l a out s → Steps low m s es b u → Came (l + m) (a + b) (out ++ es) u
  came_on l m a b s u out es x y = record {
    work = x.work + y.work;
    within = omega (arith, x.within, y.within);
    by = λ k. let v = y.by k in let w = x.by v.0 in (w.0, omega (arith, w.1, v.1), w.2 ∙ v.2 out x.work);
  }

  came_most : (l a b : ℕ) (s : S) (out : List Event) → a ≤ b → Came l a out s → Came l b out s
  came_most l a b s out le x = record { work = x.work; within = omega (arith, le, x.within); by = x.by }

  abbrev SoundAt : T → List Event → ℕ → Type 0
  SoundAt t out done = Sound (λ n. run high n t out done)

  abbrev SoundNext : Next Event T → List Event → ℕ → Type 0
  SoundNext x out done = (n : ℕ) → ((after x (run high n) out done).phase ≢ Faulted) × ((after x (run high n) out done).phase ≢ Wrong)

  -- the work of low after k steps, of which so many are still to come
  abbrev Far : ℕ → Type 0
  Far left = (s : S) (t : T) (l : ℕ) (out : List Event) (done : ℕ) → R s t → Came l (c * done + p) out s → SoundAt t out done → (k : ℕ) → k ≤ l + left
      → (n : ℕ) × ((run low k start [] 0).work ≤ c * ((run high n t out done).work + late))

  abbrev FarBelow : ℕ → ℕ → Type 0
  FarBelow left r = (s : S) (t : T) (l : ℕ) (out : List Event) (done : ℕ) → rank t < r → R s t → Came l (c * done + p) out s → SoundAt t out done
      → (k : ℕ) → k ≤ l + left → (n : ℕ) × ((run low k start [] 0).work ≤ c * ((run high n t out done).work + late))

  here : (s : S) (t : T) (l : ℕ) (out : List Event) (done : ℕ) → Came l (c * done + p) out s → (k : ℕ) → k ≤ l →
      (run low k start [] 0).work ≤ c * (done + late)
  here s t l out done came k le =
      let b = came.by 0 in
      let h = works low k b.0 (omega (arith, le, b.1)) start [] 0 in
      let e = ap (λ (x : Seen Event). x.work) b.2 in
      omega (arith, h, e, came.within, few)

  far_step : (left r : ℕ) → Far left → FarBelow (suc left) r → (s : S) (t : T) (x : Next Event T) (l : ℕ) (out : List Event) (done : ℕ)
      → rank t < suc r → Does low R rank c s t x → Came l (c * done + p) out s → SoundNext x out done → (k : ℕ) → k ≤ l + suc left
      → (n : ℕ) × ((run low k start [] 0).work ≤ c * ((after x (run high n) out done).work + late))
  far_step left r all below s t (Goes es w u) l out done lt (v, least, steps, rel, inl some) came ok k le =
      all v u (l + least) (out ++ es) (done + w) rel
      (came_most (l + least) (c * done + p + c * w) (c * (done + w) + p) v (out ++ es) (omega arith)
      (came_on l least (c * done + p) (c * w) s v out es came steps))
      (record { no_fault = λ k. (ok k).0; right = λ k. (ok k).1 }) k (omega (arith, le, some))
  far_step left r all below s t (Goes es w u) l out done lt (v, least, steps, rel, inr less) came ok k le =
      below v u (l + least) (out ++ es) (done + w) (omega (arith, lt, less)) rel
      (came_most (l + least) (c * done + p + c * w) (c * (done + w) + p) v (out ++ es) (omega arith)
      (came_on l least (c * done + p) (c * w) s v out es came steps))
      (record { no_fault = λ k. (ok k).0; right = λ k. (ok k).1 }) k (omega (arith, le))
  far_step left r all below s t (Ends es w status live) l out done lt stops came ok k le =
      let b = came.by stops.by.0 in
      let e : run low b.0 start [] 0 ≡ seen (out ++ es) (Ended status live) (came.work + stops.work) = b.2 ∙ stops.by.1 out came.work in
      let over = (steady low start).stays b.0 (b.0 + k) (omega arith) (subst (λ (x : Seen Event). IsOver x.phase) (sym e) tt) in
      let i = works low k (b.0 + k) (omega arith) start [] 0 in
      let f = ap (λ (x : Seen Event). x.work) (over ∙ e) in
      (0, omega (arith, i, f, came.within, stops.within, few))
  far_step left r all below s t Faults l out done lt stops came ok k le = absurd ((ok 0).0 refl)
  far_step left r all below s t Errs l out done lt stops came ok k le = absurd ((ok 0).1 refl)

  far_below : (left : ℕ) → Far left → (r : ℕ) → FarBelow (suc left) r
  far_below left all zero s t l out done lt rel came ok k le = absurd (omega (arith, lt))
  far_below left all (suc r) s t l out done lt rel came ok k le =
      let a = far_step left r all (far_below left all r) s t (high t) l out done lt (does s t rel) came (λ n. (ok.no_fault (suc n), ok.right (suc n))) k le in
      (suc a.0, a.1)

  far_all : (left : ℕ) → Far left
  far_all zero s t l out done rel came ok k le = (0, here s t l out done came k (omega (arith, le)))
  far_all (suc left) s t l out done rel came ok k le =
      far_below left (far_all left) (suc (rank t)) s t l out done (omega arith) rel came ok k le

  bounded_from : (s : S) (t : T) (l : ℕ) → R s t → Steps low l start [] p s → Sound (behaviour high t) →
      IsBounded c late (behaviour low start) (behaviour high t)
  bounded_from s t l rel x ok k = far_all k s t l [] 0 rel first ok k (omega arith)
    where
      first : Came l (c * 0 + p) [] s
      first = record {
        work = x.work;
        within = (let w = x.within in omega (arith, w));
        by = λ k. let b = x.by k in let e : 0 + x.work ≡ x.work = omega arith in (b.0, b.1, b.2 [] 0 ∙ ap (run low k s []) e);
      }

-- of a relation that is given by its pairs
module _ {S T G : Type 0} (low : S → Next Event S) (high : T → Next Event T) (R : Pairs G S T) (rank : T → ℕ) (c late p : ℕ)
    (does : (g : G) → Does low (AreOf R) rank c (R.low g) (R.high g) (high (R.high g))) (few : p ≤ c * late) (start : S) (g : G) (l : ℕ)
    (steps : Steps low l start [] p (R.low g)) (ok : Sound (behaviour high (R.high g))) where
  each_does : (s : S) (t : T) → AreOf R s t → Does low (AreOf R) rank c s t (high t)
  each_does s t (h, is_low, is_high) =
      subst (λ u. Does low (AreOf R) rank c u t (high t)) is_low (subst (λ v. Does low (AreOf R) rank c (R.low h) v (high v)) is_high (does h))

  pub bounded_by_pairs : IsBounded c late (behaviour low start) (behaviour high (R.high g))
  bounded_by_pairs = bounded_from low high (AreOf R) rank c late p each_does few start (R.low g) (R.high g) l (g, refl, refl) steps ok
