-- What is carried out by units is a run of lines, which is as long unless the units are spent.
use Rattle.std.proofs.Common.{◌≡◌, ℕ, zero, suc, ◌+◌, ◌≤◌, ◌⊎◌, inl, inr, Bool, true, false, List, ◌++◌, Option, Some, None, refl, sym, ap, ◌∙◌, arith}
use Rattle.arc_base.specs.Event.{Event}
use Rattle.arc_base.specs.Behaviour.{Seen, Running}
use Rattle.arc_base.specs.Stepping.{Next, Goes, Ends, Faults, Errs, seen, after, run}
use Rattle.flat_code.specs.Running as running
use Rattle.flat_code.specs.Whole.{label_in}
use Rattle.flattening.proofs.Runs.{Fixed, M, did, procs, step, spends_at, by_units}

module _ (x : Fixed) where
  pub record IsRun (n units : ℕ) (m : M) (out : List Event) (work : ℕ) (shown : Seen Event) : Type 0 where
    pub lines : ℕ
    pub is : shown ≡ run (step x) lines m out work
    pub far : (n ≤ lines) ⊎ (units ≤ lines)

  -- what is left of units, where so many were there
  LeftOf : (units : ℕ) → Option ℕ → Type 0
  LeftOf units None = units ≡ 0
  LeftOf units (Some left) = units ≤ suc left

  left_is : (spent : Bool) (units : ℕ) → LeftOf units (running.unit_left label_in (did x) (procs x) spent units)
  unfolding LeftOf
  left_is false units = omega arith
  left_is true zero = refl
  left_is true (suc units) = omega arith

  stepped : (n left : ℕ) (m : M) (out : List Event) (work : ℕ) (units : ℕ) → units ≤ suc left →
      ((m : M) (out : List Event) (work : ℕ) → IsRun n left m out work (by_units x n m left out work)) → (next : Next Event M) → step x m ≡ next →
      IsRun (suc n) units m out work (after next (λ next. by_units x n next left) out work)
  stepped n left m out work units le rec (Goes es w m') is =
      let r = rec m' (out ++ es) (work + w) in
      record {
        lines = suc r.lines;
        is = r.is ∙ ap (λ next. after next (run (step x) r.lines) out work) (sym is);
        far = longer r.far;
      }
    where
      longer : {i : ℕ} → (n ≤ i) ⊎ (left ≤ i) → (suc n ≤ suc i) ⊎ (units ≤ suc i)
      longer (inl far) = inl (omega (arith, far))
      longer (inr far) = inr (omega (arith, far, le))
  stepped n left m out work units le rec (Ends es w status live) is =
      record { lines = suc n; is = ap (λ next. after next (run (step x) n) out work) (sym is); far = inl (omega arith) }
  stepped n left m out work units le rec Faults is =
      record { lines = suc n; is = ap (λ next. after next (run (step x) n) out work) (sym is); far = inl (omega arith) }
  stepped n left m out work units le rec Errs is =
      record { lines = suc n; is = ap (λ next. after next (run (step x) n) out work) (sym is); far = inl (omega arith) }

  with_left : (n : ℕ) (m : M) (units : ℕ) (out : List Event) (work : ℕ) →
      ((left : ℕ) (m : M) (out : List Event) (work : ℕ) → IsRun n left m out work (by_units x n m left out work)) → (left : Option ℕ) → LeftOf units left →
      IsRun (suc n) units m out work
      (running.with_units label_in (did x) (procs x) left (λ left. after (step x m) (λ next. by_units x n next left) out work) (seen out Running work))
  unfolding LeftOf
  with_left n m units out work rec None none = record { lines = 0; is = refl; far = inr (omega (arith, none)) }
  with_left n m units out work rec (Some left) le = stepped n left m out work units le (rec left) (step x m) refl

  pub is_run : (n units : ℕ) (m : M) (out : List Event) (work : ℕ) → IsRun n units m out work (by_units x n m units out work)
  is_run zero units m out work = record { lines = 0; is = refl; far = inl (omega arith) }
  is_run (suc n) units m out work =
      with_left n m units out work (λ left m out work. is_run n left m out work) (running.unit_left label_in (did x) (procs x) (spends_at x m) units)
      (left_is (spends_at x m) units)
