-- What the routine that gives a block back does.
use Rattle.std.proofs.Common.{◌≡◌, ℕ, suc, ◌+◌, ◌*◌, ◌^◌, ◌<◌, List, [], ◌∷◌, Some, Ok, true, refl, ap, ◌∙◌, arith}
use Rattle.rv32_isa.specs.declared.micro_op.Size.TheVariants.{Word}
use Rattle.rv32_isa.specs.Machine.{Lives}
use Rattle.nim_meaning.specs.Heap.{size_count}
use Rattle.word_code.specs.declared.word.WordOperation.TheVariants as operation
use Rattle.word_code.specs.declared.word.WordInstr.{WordInstr}
use Rattle.word_code.specs.declared.word.WordInstr.TheVariants.{Sum, Compute, Datum, Load, Store, Return}
use Rattle.word_code.specs.declared.word.WordProc.{WordProc}
use Rattle.word_code.specs.Memory.{Memory, number_at, may_put, with_number, own_data_at}
use Rattle.word_code.specs.Words.{computed, Vars, no_words, put, WordState}
use Rattle.word_code.specs.Routines.{goes_on}
use Rattle.word_code.proofs.ForCallers.{Runs, then_runs, Within, at as state_at, run_datum, run_copy, run_sum, run_compute, run_load, run_store, got, got_sum}
use Rattle.heap_memory.specs.declared.numbers.TheConstants.{GIVE, CONTENTS_KIND}
use Rattle.refc_runtime.specs.declared.heap.TheConstants.{HEADER_LESS, KIND_LESS}
use Rattle.heap_memory.specs.HeapBlocks.{first_word}
use Rattle.refc_runtime.specs.HeapCode.{give_lines}
use Rattle.refc_runtime.proofs.Calls.{later, inside, returns}
use Rattle.refc_runtime.proofs.HeapWords.{word_at}

module _ (live : Lives) (procs : List WordProc) (n : ℕ) (s : WordState) (to : ℕ) (rest : List WordInstr) where
  abbrev pub give_proc : WordProc
  give_proc = later n GIVE 1 6 give_lines

  abbrev c : Within
  c = inside s give_proc to rest

  abbrev at : ℕ
  at = own_data_at + n

  pub gives : (m : Memory) (class place link a : ℕ) (v : Vars) → v 0 ≡ Some place → class < size_count → word_at at (suc class) < 2 ^ 32
      → place < 2 ^ 32 → link < 2 ^ 32 → a + 8 ≡ place → number_at m a Word ≡ Ok (first_word CONTENTS_KIND class) → may_put m a Word ≡ true
      → (let m1 : Memory = with_number m a Word (first_word 0 class) in
      let m2 : Memory = with_number m1 place Word link in
      let m3 : Memory = with_number m2 (word_at at (suc class)) Word place in
      number_at m1 (word_at at (suc class)) Word ≡ Ok link → may_put m1 place Word ≡ true → may_put m2 (word_at at (suc class)) Word ≡ true
      → Runs live procs 13 (state_at c m give_lines v no_words) (goes_on s to place rest m3 s.input))
  gives m class place link a v e0 known small place_small link_small is header_is header_may head_is payload_may head_may =
      let l13 : List WordInstr = Return 1 ∷ [] in
      let l12 : List WordInstr = Store 4 1 Word ∷ l13 in
      let l11 : List WordInstr = Store 1 5 Word ∷ l12 in
      let l10 : List WordInstr = Load 5 4 Word ∷ l11 in
      let l9 : List WordInstr = Compute 4 operation.Add 4 3 ∷ l10 in
      let l8 : List WordInstr = Datum 4 0 ∷ l9 in
      let l7 : List WordInstr = Compute 3 operation.Add 3 3 ∷ l8 in
      let l6 : List WordInstr = Compute 3 operation.Add 3 3 ∷ l7 in
      let l5 : List WordInstr = Store 2 3 Word ∷ l6 in
      let l4 : List WordInstr = Sum 3 3 KIND_LESS ∷ l5 in
      let l3 : List WordInstr = Load 3 2 Word ∷ l4 in
      let l2 : List WordInstr = Sum 2 1 HEADER_LESS ∷ l3 in
      let v1 : Vars = put v 1 place in
      let v2 : Vars = put v1 2 (place + HEADER_LESS) in
      let v3 : Vars = put v2 3 (first_word CONTENTS_KIND class) in
      let v4 : Vars = put v3 3 (first_word CONTENTS_KIND class + KIND_LESS) in
      let v5 : Vars = put v4 3 (computed operation.Add (suc class) (suc class)) in
      let v6 : Vars = put v5 3 (computed operation.Add (2 * suc class) (2 * suc class)) in
      let v7 : Vars = put v6 4 (own_data_at + (n + 0) + 0) in
      let v8 : Vars = put v7 4 (computed operation.Add at (4 * suc class)) in
      let v9 : Vars = put v8 5 link in
      let m1 : Memory = with_number m a Word (first_word 0 class) in
      let m2 : Memory = with_number m1 place Word link in
      let m3 : Memory = with_number m2 (word_at at (suc class)) Word place in
      let one : v1 1 ≡ Some place = got place place_small in
      let header : v2 2 ≡ Some a = ap Some (omega (arith, is, place_small)) in
      let first : v3 3 ≡ Some (first_word CONTENTS_KIND class) = got (first_word CONTENTS_KIND class) (omega (arith, known)) in
      let free : v4 3 ≡ Some (first_word 0 class) = ap Some (omega (arith, known)) in
      let index : v4 3 ≡ Some (suc class) = ap Some (omega (arith, known)) in
      let twice : v5 3 ≡ Some (2 * suc class) = ap Some (omega (arith, known)) in
      let four : v6 3 ≡ Some (4 * suc class) = ap Some (omega (arith, known)) in
      let heads : v7 4 ≡ Some at = got (own_data_at + (n + 0) + 0) (omega (arith, small)) ∙ ap Some (omega arith) in
      let head : v8 4 ≡ Some (word_at at (suc class)) = got_sum at (4 * suc class) small in
      let r1 : Runs live procs 1 (state_at c m give_lines v no_words) (state_at c m l2 v1 no_words) = run_copy live procs c m l2 v no_words 1 0 e0 in
      let r2 : Runs live procs 1 (state_at c m l2 v1 no_words) (state_at c m l3 v2 no_words) = run_sum live procs c m l3 v1 no_words 2 1 HEADER_LESS one in
      let r3 : Runs live procs 1 (state_at c m l3 v2 no_words) (state_at c m l4 v3 no_words) =
      run_load live procs c m l4 v2 no_words 3 2 Word header header_is in
      let r4 : Runs live procs 1 (state_at c m l4 v3 no_words) (state_at c m l5 v4 no_words) = run_sum live procs c m l5 v3 no_words 3 3 KIND_LESS first in
      let r5 : Runs live procs 1 (state_at c m l5 v4 no_words) (state_at c m1 l6 v4 no_words)
      = run_store live procs c m l6 v4 no_words 2 3 Word header free header_may in
      let r6 : Runs live procs 1 (state_at c m1 l6 v4 no_words) (state_at c m1 l7 v5 no_words)
      = run_compute live procs c m1 l7 v4 no_words 3 operation.Add 3 3 index index in
      let r7 : Runs live procs 1 (state_at c m1 l7 v5 no_words) (state_at c m1 l8 v6 no_words)
      = run_compute live procs c m1 l8 v5 no_words 3 operation.Add 3 3 twice twice in
      let r8 : Runs live procs 1 (state_at c m1 l8 v6 no_words) (state_at c m1 l9 v7 no_words) = run_datum live procs c m1 l9 v6 no_words 4 0 in
      let r9 : Runs live procs 1 (state_at c m1 l9 v7 no_words) (state_at c m1 l10 v8 no_words)
      = run_compute live procs c m1 l10 v7 no_words 4 operation.Add 4 3 heads four in
      let r10 : Runs live procs 1 (state_at c m1 l10 v8 no_words) (state_at c m1 l11 v9 no_words)
      = run_load live procs c m1 l11 v8 no_words 5 4 Word head head_is in
      let r11 : Runs live procs 1 (state_at c m1 l11 v9 no_words) (state_at c m2 l12 v9 no_words)
      = run_store live procs c m1 l12 v9 no_words 1 5 Word one (got link link_small) payload_may in
      let r12 : Runs live procs 1 (state_at c m2 l12 v9 no_words) (state_at c m3 l13 v9 no_words)
      = run_store live procs c m2 l13 v9 no_words 4 1 Word head one head_may in
      let r13 : Runs live procs 1 (state_at c m3 l13 v9 no_words) (goes_on s to place rest m3 s.input)
      = returns live procs s to rest give_proc refl m3 v9 1 place one in
      then_runs live procs r1 (then_runs live procs r2 (then_runs live procs r3 (then_runs live procs r4 (then_runs live procs r5
      (then_runs live procs r6 (then_runs live procs r7 (then_runs live procs r8 (then_runs live procs r9 (then_runs live procs r10
      (then_runs live procs r11 (then_runs live procs r12 r13)))))))))))
