-- Word code without the procedures that no call can reach, as it is laid out.
use Rattle.std.proofs.Common.{◌≡◌, ℕ, ◌+◌, ◌*◌, ◌≤◌, List, [], ◌∷◌, Bool, true, false, refl, sym, ap, subst, ◌∙◌, arith}
use Rattle.std.specs.Prelude.{◌&&◌, if◌then◌else◌}
use Rattle.arc_base.specs.Event.{Event}
use Rattle.arc_base.specs.Behaviour.{Behaviour, Seen, Agrees, Covers, Ended}
use Rattle.arc_base.specs.Pace.{PacedFrom}
use Rattle.number_sets.specs.Numbers.{is_among}
use Rattle.reachable_procs.specs.Reachable.{kept}
use Rattle.rv32_codegen.specs.LineBytes.{procs_bytes, proc_bytes}
use Rattle.word_code.specs.declared.word.WordProc.{WordProc}
use Rattle.word_code.specs.Words.{have_no_hooks, is_no_hook}
use Rattle.word_lowering.specs.Lowers.{AreSmall}

-- ---- what does the same agrees alike

module _ (old new high : Behaviour Event) (same : (n : ℕ) → new n ≡ old n) where
  pub agrees_alike : Agrees old high → Agrees new high
  agrees_alike a = record {
    low_in_high = λ n. let c = a.low_in_high n in (c.0, subst (λ s. Covers s (high c.0)) (sym (same n)) c.1);
    high_in_low = λ n. let c = a.high_in_low n in (c.0, subst (Covers (high n)) (sym (same c.0)) c.1);
    no_fault = λ n e. a.no_fault n (sym (ap (λ (s : Seen Event). s.phase) (same n)) ∙ e);
    low_right = λ n e. a.low_right n (sym (ap (λ (s : Seen Event). s.phase) (same n)) ∙ e);
    high_right = a.high_right;
    same_live = λ n m s t l k e. a.same_live n m s t l k (sym (ap (λ (s : Seen Event). s.phase) (same n)) ∙ e);
  }

  pub paced_alike : (c k : ℕ) → PacedFrom c k old high → PacedFrom c k new high
  paced_alike c k p n =
      let q = p n in
      (q.0, subst (Covers (high n)) (sym (same q.0)) q.1, subst (λ (s : Seen Event). s.work ≤ c * ((high n).work + k)) (sym (same q.0)) q.2)

-- ---- some of the procedures

module _ (numbers : List ℕ) where
  pub kept_small : (procs : List WordProc) → AreSmall procs → AreSmall (kept numbers procs)
  kept_small [] h = tt
  kept_small (p ∷ procs) h = by (is_among p.number numbers) (kept_small procs h.1)
    where
      by : (b : Bool) → AreSmall (kept numbers procs) → AreSmall (if b then p ∷ kept numbers procs else kept numbers procs)
      by true rest = (h.0, rest)
      by false rest = rest

  pub kept_bytes : (procs : List WordProc) → procs_bytes (kept numbers procs) ≤ procs_bytes procs
  kept_bytes [] = omega arith
  kept_bytes (p ∷ procs) = by (is_among p.number numbers) (kept_bytes procs)
    where
      by : (b : Bool) → procs_bytes (kept numbers procs) ≤ procs_bytes procs
          → procs_bytes (if b then p ∷ kept numbers procs else kept numbers procs) ≤ proc_bytes p + procs_bytes procs
      by true less = omega (arith, less)
      by false less = omega (arith, less)

  pub kept_unhooked : (procs : List WordProc) → have_no_hooks procs ≡ true → have_no_hooks (kept numbers procs) ≡ true
  kept_unhooked [] h = h
  kept_unhooked (p ∷ procs) h = by (is_among p.number numbers) (is_no_hook p.kind) refl h (kept_unhooked procs)
    where
      by : (b c : Bool) → is_no_hook p.kind ≡ c → (c && have_no_hooks procs) ≡ true
          → (have_no_hooks procs ≡ true → have_no_hooks (kept numbers procs) ≡ true)
          → have_no_hooks (if b then p ∷ kept numbers procs else kept numbers procs) ≡ true
      by b false e f rest = cc
      by true true e f rest = ap (λ d. d && have_no_hooks (kept numbers procs)) e ∙ rest f
      by false true e f rest = rest f
