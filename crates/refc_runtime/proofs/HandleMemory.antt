-- Handles are read and put.
use Rattle.std.proofs.Common.{◌≡◌, ℕ, ◌+◌, ◌%◌, ◌^◌, ◌<◌, ◌≤◌, inl, inr, List, ◌∷◌, Option, Some, None, Ok, Err}
use Rattle.std.proofs.Common.{refl, sym, ap, ◌∙◌, ⊎_elim, arith}
use Rattle.std.specs.Prelude.{◌==◌}
use Rattle.std.proofs.lemmas.Bool.{cases_Bool, cases_lt, cond-true, cond-false}
use Rattle.std.proofs.lemmas.Option.{none-some}
use Rattle.rv32_isa.specs.declared.micro_op.Size.TheVariants.{Word}
use Rattle.rv32_isa.specs.declared.machine.FaultKind.{FaultKind}
use Rattle.rv32_isa.specs.declared.machine.FaultKind.TheVariants.{Misaligned, OutOfRange}
use Rattle.rv32_isa.specs.Hooks.{code_at}
use Rattle.rv32_isa.specs.Machine.{Lives}
use Rattle.rv32_isa.specs.Steps.{number_of}
use Rattle.word_code.specs.declared.word.WordInstr.{WordInstr}
use Rattle.word_code.specs.declared.word.WordInstr.TheVariants.{Load, Sum, Store}
use Rattle.word_code.specs.declared.word.WordProc.{WordProc}
use Rattle.word_code.specs.Memory.{Memory, number_at, bytes_at}
use Rattle.word_code.specs.Words.{Vars, no_words, put}
use Rattle.word_code.proofs.ForCallers.{MemoryLaw, Sized, Runs, then_runs, Within, at as state_at, run_sum, run_load, run_store, got}
use Rattle.heap_memory.specs.HandleRoutines.{HasHandle, MayHave}
use Rattle.heap_memory.proofs.ForCallers.{read_in, nothing_below, open_low, with_long, with_handle, place_may}
use Rattle.refc_runtime.specs.HandleCode.{handle_lines, put_handle_lines}

-- ---- where a handle stands

-- a word that is read ends below the end of all addresses
pub word_low : (m : Memory) (sized : Sized m) (b w : ℕ) → number_at m b Word ≡ Ok w → b + 4 < 2 ^ 32
word_low m sized b w reads = elim (cases_Bool (b % 4 == 0)) [
  | inl even ↦ by (bytes_at m b 4) refl (sym (cond-true (b % 4 == 0) (number_of (bytes_at m b 4)) (Err Misaligned) even) ∙ reads)
  | inr odd ↦ absurd (err_ok Misaligned w (sym (cond-false (b % 4 == 0) (number_of (bytes_at m b 4)) (Err Misaligned) odd) ∙ reads))
]
  where
    err_ok : (kind : FaultKind) (n : ℕ) → Err kind ≡ Ok n → ⊥
    err_ok kind n e = cc

    by : (o : Option (List ℕ)) → bytes_at m b 4 ≡ o → number_of (bytes_at m b 4) ≡ Ok w → b + 4 < 2 ^ 32
    by None is number = absurd (err_ok OutOfRange w (sym (ap number_of is) ∙ number))
    by (Some bytes) is number =
        let far : code_at ≤ b
        = ⊎_elim (λ less. absurd (none-some bytes (sym (nothing_below m b 3 less) ∙ is))) (λ h. h) (cases_lt b code_at) in
        let r = read_in m sized b 4 bytes (omega arith) far is in
        let e = r.region.ends in
        let h = r.high in
        omega (arith, e, h)

-- ---- lines that read one

module _ (live : Lives) (procs : List WordProc) (c : Within) (m : Memory) (sized : Sized m) (k : List WordInstr) (v g : Vars) (a n place : ℕ)
    (h : HasHandle m a n place)
  where
    pub run_handle : (long to at : ℕ) → v at ≡ Some a → put v long n at ≡ Some a → put (put v long n) to (a + 4) to ≡ Some ((a + 4) % 2 ^ 32)
        → Runs live procs 3 (state_at c m (handle_lines long to at k) v g) (state_at c m k (put (put (put v long n) to (a + 4)) to place) g)
    run_handle long to at e0 e1 e2 =
        let low : a + 4 + 4 < 2 ^ 32 = word_low m sized (a + 4) place h.there in
        let e3 : put (put v long n) to (a + 4) to ≡ Some (a + 4) = e2 ∙ got (a + 4) (omega (arith, low)) in
        then_runs live procs (run_load live procs c m (Sum to at 4 ∷ Load to to Word ∷ k) v g long at Word e0 h.long) (then_runs live procs
        (run_sum live procs c m (Load to to Word ∷ k) (put v long n) g to at 4 e1)
        (run_load live procs c m k (put (put v long n) to (a + 4)) g to to Word e3 h.there))

-- ---- lines that put one

module _ (law : MemoryLaw) (m : Memory) (sized : Sized m) (a n place : ℕ) (may : MayHave m a) (n_small : n < 2 ^ 32) (place_small : place < 2 ^ 32)
    (live : Lives) (procs : List WordProc) (c : Within) (k : List WordInstr) (v : Vars) (e0 : v 0 ≡ Some a) (e2 : v 2 ≡ Some n) (e3 : v 3 ≡ Some place)
  where
    pub run_put_handle : Runs live procs 3 (state_at c m (put_handle_lines k) v no_words)
        (state_at c (with_handle law m sized a n place may n_small place_small) k (put v 4 (a + 4)) no_words)
    run_put_handle =
        let low : a + 4 + 4 < 2 ^ 32 = open_low m sized (a + 4) may.1 in
        let first : Memory = with_long law m sized a n place may n_small place_small in
        then_runs live procs (run_store live procs c m (Sum 4 0 4 ∷ Store 4 3 Word ∷ k) v no_words 0 2 Word e0 e2 may.0) (then_runs live procs
        (run_sum live procs c first (Store 4 3 Word ∷ k) v no_words 4 0 4 e0)
        (run_store live procs c first k (put v 4 (a + 4)) no_words 4 3 Word (got (a + 4) (omega (arith, low))) e3
        (place_may law m sized a n place may n_small place_small)))
