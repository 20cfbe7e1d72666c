-- What word code does that nothing waits at the begin of a procedure, and where one doesn't wait any more.
use Rattle.std.proofs.Common.{◌≡◌, ◌≢◌, ◌⊎◌, inl, inr, refl, sym, ap, subst, ◌∙◌, ℕ, ◌%◌, ◌^◌, ◌<◌, List, [], ◌∷◌, length, arith}
use Rattle.std.proofs.Common.{Bool, true, false, Some}
use Rattle.std.specs.Prelude.{nat_eq, if◌then◌else◌}
use Rattle.std.proofs.lemmas.Bool.{eq-eqb, ne_eqb}
use Rattle.std.proofs.lemmas.Option.{none-some, same_Some}
use Rattle.rv32_isa.specs.Machine.{Lives}
use Rattle.word_code.specs.declared.word.WordInstr.{WordInstr}
use Rattle.word_code.specs.declared.word.WordProc.{WordProc}
use Rattle.word_code.specs.Memory.{Memory}
use Rattle.word_code.specs.Words.{Vars, put, step}
use Rattle.word_code.proofs.ForCallers.{Runs, Within, at, none, then_runs, run_constant}
use Rattle.word_lowering.specs.declared.homes.Waiter.{Waiter}
use Rattle.word_lowering.specs.WaitingCode.{none_code, waiter_at}
use Rattle.word_lowering.proofs.Keeping.{number_cases}
use Rattle.word_lowering.proofs.WaiterHomes.{AreFrom}

-- their variables are 0
abbrev pub zeroed : List Waiter → Vars → Vars
zeroed [] v = v
zeroed (w ∷ ws) v = zeroed ws (put v w.variable 0)

module _ (live : Lives) (procs : List WordProc) (c : Within) (m : Memory) (k : List WordInstr) (words : Vars) where
  pub none_runs : (ws : List Waiter) (v : Vars) → Runs live procs (length ws) (at c m (none_code ws k) v words) (at c m k (zeroed ws v) words)
  none_runs [] v = none (step live procs) (at c m k v words)
  none_runs (w ∷ ws) v =
      subst (λ n. Runs live procs n (at c m (none_code (w ∷ ws) k) v words) (at c m k (zeroed (w ∷ ws) v) words)) (omega arith)
      (then_runs live procs (run_constant live procs c m (none_code ws k) v words w.variable 0) (none_runs ws (put v w.variable 0)))

-- ---- what they are then

put_zero : (v : Vars) (to : ℕ) → put v to 0 to ≡ Some 0
put_zero v to = ap (λ b. if b then Some (0 % 2 ^ 32) else v to) (eq-eqb to to refl)

stays_zero : (ws : List Waiter) (v : Vars) (u : ℕ) → v u ≡ Some 0 → zeroed ws v u ≡ Some 0
stays_zero [] v u e = e
stays_zero (w ∷ ws) v u e = stays_zero ws (put v w.variable 0) u (by (number_cases u w.variable))
  where
    by : (u ≡ w.variable) ⊎ (u ≢ w.variable) → put v w.variable 0 u ≡ Some 0
    by (inl s) = ap (put v w.variable 0) s ∙ put_zero v w.variable
    by (inr ne) = ap (λ b. if b then Some (0 % 2 ^ 32) else v u) (ne_eqb u w.variable ne) ∙ e

pub zeroed_is : (ws : List Waiter) (v : Vars) (node : ℕ) (w : Waiter) → waiter_at node ws ≡ Some w → zeroed ws v w.variable ≡ Some 0
zeroed_is [] v node w e = absurd (none-some w e)
zeroed_is (u ∷ ws) v node w e = by (nat_eq u.node node) refl (λ f. zeroed_is ws (put v u.variable 0) node w f) e
  where
    by : (b : Bool) → nat_eq u.node node ≡ b → (waiter_at node ws ≡ Some w → zeroed ws (put v u.variable 0) w.variable ≡ Some 0)
        → (if b then Some u else waiter_at node ws) ≡ Some w → zeroed (u ∷ ws) v w.variable ≡ Some 0
    by true t go e =
        let s = ap (λ (z : Waiter). z.variable) (same_Some u w e) in
        ap (zeroed ws (put v u.variable 0)) (sym s) ∙ stays_zero ws (put v u.variable 0) u.variable (put_zero v u.variable)
    by false t go e = go e

pub zeroed_below : (ws : List Waiter) (v : Vars) (n u : ℕ) → AreFrom n ws → u < n → zeroed ws v u ≡ v u
zeroed_below [] v n u from below = refl
zeroed_below (w ∷ ws) v n u from below =
    let low = from.0 in
    zeroed_below ws (put v w.variable 0) n u from.1 below
    ∙ ap (λ b. if b then Some (0 % 2 ^ 32) else v u) (ne_eqb u w.variable (λ e. absurd (omega (arith, low, below, e))))
