-- The routines that copy, clear and swap keep what they promise.
use Rattle.std.proofs.Common.{◌≡◌, ℕ, suc, ◌+◌, ◌*◌, List, [], ◌∷◌, refl, sym, subst, arith}
use Rattle.rv32_isa.specs.Machine.{Lives}
use Rattle.word_code.specs.declared.routine.TheConstants.{COPY, CLEAR, SWAP}
use Rattle.word_code.specs.declared.word.WordOperation.TheVariants.{Add}
use Rattle.word_code.specs.declared.word.WordInstr.{WordInstr}
use Rattle.word_code.specs.declared.word.WordInstr.TheVariants.{Constant, Copy}
use Rattle.word_code.specs.declared.word.WordProc.{WordProc}
use Rattle.word_code.specs.Memory.{Memory}
use Rattle.word_code.specs.Words.{computed, Vars, no_words, put, params_of, from_proc}
use Rattle.word_code.specs.Routines.{IsKept}
use Rattle.word_code.specs.RoutineTable.{Separate, copies, clears, swaps}
use Rattle.word_code.proofs.ForCallers.{MemoryLaw, with_copied, span, span_is, CopiedTo, copied_to, changed_rewritten}
use Rattle.word_code.proofs.ForCallers.{Runs, then_runs, Within, at, run_constant, run_copy, run_compute, got, got_sum}
use Rattle.refc_runtime.specs.Code.{copy_lines, clear_lines, swap_lines}
use Rattle.heap_memory.proofs.ForCallers.{area_low}
use Rattle.refc_runtime.proofs.Calls.{later, inside, enters, returns, from_call}
use Rattle.refc_runtime.proofs.Zeros.{with_zeros, ClearedAt, cleared_at}
use Rattle.refc_runtime.proofs.Traded.{with_traded, Trade, all_traded}
use Rattle.refc_runtime.proofs.CopyRuns.{copy_loop, copies as copy_runs}
use Rattle.refc_runtime.proofs.ClearRuns.{clear_loop, clears as clear_runs}
use Rattle.refc_runtime.proofs.SwapRuns.{swap_loop, swaps as swap_runs}

module _ (law : MemoryLaw) (live : Lives) (procs : List WordProc) (n : ℕ) (own : ℕ) (statics : List ℕ) (others : List WordProc) where
  abbrev pub Stands : (number params vars : ℕ) → List WordInstr → Type 0
  Stands number params vars lines = from_proc number procs ≡ later n number params vars lines ∷ others

  pub copy_kept : Stands COPY 3 7 copy_lines → IsKept live procs own statics copies
  copy_kept stands u s to rest calling sized there may =
      let k : ℕ = u.behind in
      let bytes : ℕ = 4 * suc k in
      let m : Memory = s.memory in
      let other : Memory = with_copied (suc k) m u.to u.from in
      let given = calling.given in
      let low_to = area_low m sized k u.to may.0 in
      let low_from = area_low m sized k u.from may.1 in
      let p : WordProc = later n COPY 3 7 copy_lines in
      let c : Within = inside s p to rest in
      let w0 : Vars = params_of p s.frame.given in
      let w1 : Vars = put w0 3 (computed Add u.from bytes) in
      let w2 : Vars = put w1 4 u.to in
      let w3 : Vars = put w2 5 u.from in
      let r1 = enters live procs s to rest n COPY 3 7 copy_lines others stands in
      let r2 : Runs live procs 1 (at c m copy_lines w0 no_words) (at c m (Copy 4 0 ∷ Copy 5 1 ∷ copy_loop) w1 no_words)
      = run_compute live procs c m (Copy 4 0 ∷ Copy 5 1 ∷ copy_loop) w0 no_words 3 Add 1 2 given.1.0 given.1.1.0 in
      let r3 : Runs live procs 1 (at c m (Copy 4 0 ∷ Copy 5 1 ∷ copy_loop) w1 no_words) (at c m (Copy 5 1 ∷ copy_loop) w2 no_words)
      = run_copy live procs c m (Copy 5 1 ∷ copy_loop) w1 no_words 4 0 given.0 in
      let r4 : Runs live procs 1 (at c m (Copy 5 1 ∷ copy_loop) w2 no_words) (at c m copy_loop w3 no_words)
      = run_copy live procs c m copy_loop w2 no_words 5 1 given.1.0 in
      let loop = copy_runs law live procs c refl no_words k m u.to u.from (u.from + bytes) w3 (got u.to (omega (arith, low_to)))
      (got u.from (omega (arith, low_from))) (got_sum u.from bytes low_from) refl low_to low_from sized may.0 may.1 in
      let r5 = returns live procs s to rest p refl other loop.vars 3 (u.from + bytes) loop.last in
      let all = then_runs live procs (then_runs live procs (then_runs live procs r1 (then_runs live procs r2 (then_runs live procs r3 r4))) loop.runs) r5 in
      let span_all : span (suc k) ≡ bytes = span_is (suc k) in
      let done : CopiedTo m other u.to u.from bytes = subst (CopiedTo m other u.to u.from) span_all
      (copied_to law (suc k) m u.to u.from sized may.0 may.1 (subst (Separate u.to u.from) (sym span_all) may.2)) in
      record {
        memory = other;
        word = u.from + bytes;
        leaves = record { rewritten = changed_rewritten m other u.to bytes done.changed; same = done.same };
        gives = tt;
        lines = 1 + (1 + (1 + 1)) + 6 * suc k + 1;
        few = omega arith;
        steps = (from_call live procs s to rest COPY [] _ _ _ calling.next all).by;
      }

  pub clear_kept : Stands CLEAR 2 5 clear_lines → IsKept live procs own statics clears
  clear_kept stands u s to rest calling sized there may =
      let k : ℕ = u.behind in
      let bytes : ℕ = 4 * suc k in
      let m : Memory = s.memory in
      let other : Memory = with_zeros (suc k) m u.to in
      let given = calling.given in
      let low = area_low m sized k u.to may in
      let p : WordProc = later n CLEAR 2 5 clear_lines in
      let c : Within = inside s p to rest in
      let w0 : Vars = params_of p s.frame.given in
      let w1 : Vars = put w0 2 (computed Add u.to bytes) in
      let w2 : Vars = put w1 3 u.to in
      let w3 : Vars = put w2 4 0 in
      let r1 = enters live procs s to rest n CLEAR 2 5 clear_lines others stands in
      let r2 : Runs live procs 1 (at c m clear_lines w0 no_words) (at c m (Copy 3 0 ∷ Constant 4 0 ∷ clear_loop) w1 no_words)
      = run_compute live procs c m (Copy 3 0 ∷ Constant 4 0 ∷ clear_loop) w0 no_words 2 Add 0 1 given.0 given.1.0 in
      let r3 : Runs live procs 1 (at c m (Copy 3 0 ∷ Constant 4 0 ∷ clear_loop) w1 no_words) (at c m (Constant 4 0 ∷ clear_loop) w2 no_words)
      = run_copy live procs c m (Constant 4 0 ∷ clear_loop) w1 no_words 3 0 given.0 in
      let r4 : Runs live procs 1 (at c m (Constant 4 0 ∷ clear_loop) w2 no_words) (at c m clear_loop w3 no_words)
      = run_constant live procs c m clear_loop w2 no_words 4 0 in
      let loop = clear_runs law live procs c refl no_words k m u.to (u.to + bytes) w3 (got u.to (omega (arith, low)))
      (got_sum u.to bytes low) refl refl low sized may in
      let r5 = returns live procs s to rest p refl other loop.vars 2 (u.to + bytes) loop.last in
      let all = then_runs live procs (then_runs live procs (then_runs live procs r1 (then_runs live procs r2 (then_runs live procs r3 r4))) loop.runs) r5 in
      let span_all : span (suc k) ≡ bytes = span_is (suc k) in
      let done : ClearedAt m other u.to bytes = subst (ClearedAt m other u.to) span_all (cleared_at law (suc k) m u.to sized may) in
      record {
        memory = other;
        word = u.to + bytes;
        leaves = record { rewritten = changed_rewritten m other u.to bytes done.changed; zeros = done.zeros };
        gives = tt;
        lines = 1 + (1 + (1 + 1)) + 4 * suc k + 1;
        few = omega arith;
        steps = (from_call live procs s to rest CLEAR [] _ _ _ calling.next all).by;
      }

  pub swap_kept : Stands SWAP 3 8 swap_lines → IsKept live procs own statics swaps
  swap_kept stands u s to rest calling sized there may =
      let k : ℕ = u.behind in
      let bytes : ℕ = 4 * suc k in
      let m : Memory = s.memory in
      let other : Memory = with_traded (suc k) m u.to u.from in
      let given = calling.given in
      let low_to = area_low m sized k u.to may.0 in
      let low_from = area_low m sized k u.from may.1 in
      let p : WordProc = later n SWAP 3 8 swap_lines in
      let c : Within = inside s p to rest in
      let w0 : Vars = params_of p s.frame.given in
      let w1 : Vars = put w0 3 (computed Add u.to bytes) in
      let w2 : Vars = put w1 4 u.to in
      let w3 : Vars = put w2 5 u.from in
      let r1 = enters live procs s to rest n SWAP 3 8 swap_lines others stands in
      let r2 : Runs live procs 1 (at c m swap_lines w0 no_words) (at c m (Copy 4 0 ∷ Copy 5 1 ∷ swap_loop) w1 no_words)
      = run_compute live procs c m (Copy 4 0 ∷ Copy 5 1 ∷ swap_loop) w0 no_words 3 Add 0 2 given.0 given.1.1.0 in
      let r3 : Runs live procs 1 (at c m (Copy 4 0 ∷ Copy 5 1 ∷ swap_loop) w1 no_words) (at c m (Copy 5 1 ∷ swap_loop) w2 no_words)
      = run_copy live procs c m (Copy 5 1 ∷ swap_loop) w1 no_words 4 0 given.0 in
      let r4 : Runs live procs 1 (at c m (Copy 5 1 ∷ swap_loop) w2 no_words) (at c m swap_loop w3 no_words)
      = run_copy live procs c m swap_loop w2 no_words 5 1 given.1.0 in
      let loop = swap_runs law live procs c refl no_words k m u.to u.from (u.to + bytes) w3 (got u.to (omega (arith, low_to)))
      (got u.from (omega (arith, low_from))) (got_sum u.to bytes low_to) refl low_to low_from sized may.0 may.1 in
      let r5 = returns live procs s to rest p refl other loop.vars 3 (u.to + bytes) loop.last in
      let all = then_runs live procs (then_runs live procs (then_runs live procs r1 (then_runs live procs r2 (then_runs live procs r3 r4))) loop.runs) r5 in
      let span_all : span (suc k) ≡ bytes = span_is (suc k) in
      let done : Trade m other u.to u.from bytes = subst (Trade m other u.to u.from) span_all
      (all_traded law (suc k) m u.to u.from sized may.0 may.1 (subst (Separate u.to u.from) (sym span_all) may.2)) in
      record {
        memory = other;
        word = u.to + bytes;
        leaves = record { sizes = done.sizes; beside = done.beside; there = done.to_left; back = done.to_right };
        gives = tt;
        lines = 1 + (1 + (1 + 1)) + 8 * suc k + 1;
        few = omega arith;
        steps = (from_call live procs s to rest SWAP [] _ _ _ calling.next all).by;
      }
