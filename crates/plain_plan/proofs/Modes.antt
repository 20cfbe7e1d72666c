-- How parameters take their arguments, by the lists of the code.
use Rattle.std.proofs.Common.{◌≡◌, ℕ, zero, suc, ◌<◌, ◌≤◌, List, [], ◌∷◌, length, get_or, refl, sym, ap, arith}
use Rattle.std.specs.Prelude.{map}
use Rattle.nim_types.specs.Types.{Ty}
use Rattle.nim_program.specs.declared.program.Mode.TheVariants.{Plain}
use Rattle.nim_program.specs.declared.program.Param.{Param}
use Rattle.nim_program.specs.declared.program.Proc.{Proc}
use Rattle.nim_program.specs.View.{param_of, proc_of}
use Rattle.nim_meaning.specs.Shapes.{mode_of, mode_in, modes_in}

module _ (ts : List Ty) (sinks : List ℕ) where
  pub no_proc : (procs : List Proc) (n i : ℕ) → length procs ≤ n → modes_in sinks (map (proc_of ts) procs) n i ≡ Plain
  no_proc [] n i l = refl
  no_proc (p ∷ procs) zero i l = absurd (omega (arith, l))
  no_proc (p ∷ procs) (suc n) i l = no_proc procs n i (omega (arith, l))

  pub of_proc : (procs : List Proc) (n i : ℕ) (p : Proc) → n < length procs → p ≡ get_or procs n p →
      modes_in sinks (map (proc_of ts) procs) n i ≡ mode_in sinks (map (param_of ts) p.params) i
  of_proc [] n i p l e = absurd (omega (arith, l))
  of_proc (q ∷ procs) zero i p l e = ap (λ r. mode_in sinks (map (param_of ts) r.params) i) (sym e)
  of_proc (q ∷ procs) (suc n) i p l e = of_proc procs n i p (omega (arith, l)) e

  pub no_param : (params : List Param) (i : ℕ) → length params ≤ i → mode_in sinks (map (param_of ts) params) i ≡ Plain
  no_param [] i l = refl
  no_param (p ∷ params) zero l = absurd (omega (arith, l))
  no_param (p ∷ params) (suc i) l = no_param params i (omega (arith, l))

  pub of_param : (params : List Param) (i : ℕ) (p : Param) → i < length params → p ≡ get_or params i p →
      mode_in sinks (map (param_of ts) params) i ≡ mode_of sinks (param_of ts p)
  of_param [] i p l e = absurd (omega (arith, l))
  of_param (q ∷ params) zero p l e = ap (λ r. mode_of sinks (param_of ts r)) (sym e)
  of_param (q ∷ params) (suc i) p l e = of_param params i p (omega (arith, l)) e
