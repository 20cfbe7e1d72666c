-- What the routine that finds a size does.
use Rattle.std.proofs.Common.{◌≡◌, ℕ, zero, suc, ◌+◌, ◌*◌, ◌<◌, ◌≤◌, ◌⊎◌, inl, inr, List, [], ◌∷◌, Some, refl, sym, ap, subst}
use Rattle.std.proofs.Common.{◌∙◌, ⊎_elim, arith}
use Rattle.std.specs.Prelude.{not}
use Rattle.std.proofs.lemmas.Bool.{lt-ltb, le-ltb, cases_lt}
use Rattle.rv32_isa.specs.Machine.{Lives}
use Rattle.nim_types.specs.declared.blocks.TheConstants.{HEADER_BYTES}
use Rattle.nim_meaning.specs.Heap.{size_count, class_for}
use Rattle.word_code.specs.declared.word.WordOperation.TheVariants as operation
use Rattle.word_code.specs.declared.word.Test.TheVariants as test
use Rattle.word_code.specs.declared.word.WordInstr.{WordInstr}
use Rattle.word_code.specs.declared.word.WordInstr.TheVariants.{Label, Constant, Sum, Compute, Branch, Return}
use Rattle.word_code.specs.declared.word.WordProc.{WordProc}
use Rattle.word_code.specs.Memory.{Memory}
use Rattle.word_code.specs.Words.{computed, Vars, no_words, put, WordState}
use Rattle.word_code.specs.Routines.{goes_on}
use Rattle.word_code.proofs.ForCallers.{Runs, then_runs, Within, at as state_at, run_label, run_constant, run_sum, run_compute, run_past, run_off, got, got_sum}
use Rattle.heap_memory.specs.declared.numbers.TheConstants.{CLASS}
use Rattle.heap_memory.specs.HeapBlocks.{size_at}
use Rattle.heap_memory.specs.HeapRoutines.{class_word, class_of}
use Rattle.refc_runtime.specs.HeapCode.{class_lines}
use Rattle.refc_runtime.proofs.Calls.{later, inside, returns, returns_before}
use Rattle.heap_memory.proofs.ForCallers.{size_within}
use Rattle.heap_memory.proofs.ForCallers.{later_size, no_size, sizes_behind, this_size}

-- ---- the routine's lines

abbrev last_lines : List WordInstr
last_lines = Label 2 ∷ Constant 1 (class_word size_count) ∷ Return 1 ∷ []

abbrev end_lines : List WordInstr
end_lines = Label 1 ∷ Return 1 ∷ last_lines

abbrev loop_lines : List WordInstr
loop_lines = Label 0 ∷ Compute 3 operation.Add 3 3 ∷ Sum 1 1 4 ∷ Branch test.Below 3 2 0 ∷ end_lines

abbrev size_lines : List WordInstr
size_lines = Sum 2 0 8 ∷ Constant 3 16 ∷ Branch test.NotBelow 3 2 1 ∷ loop_lines

module _ (live : Lives) (procs : List WordProc) (n : ℕ) (s : WordState) (to : ℕ) (rest : List WordInstr) where
  abbrev pub class_proc : WordProc
  class_proc = later n CLASS 1 4 class_lines

  abbrev c : Within
  c = inside s class_proc to rest

  module _ (m : Memory) (payload : ℕ) (few : payload + HEADER_BYTES ≤ size_at 20) where
    -- the size is found behind so many further ones
    record Found (class further : ℕ) (v : Vars) : Type 0 where
      vars : Vars
      one_is : vars 1 ≡ Some (class_word (suc class + further))
      runs : Runs live procs (4 * suc further) (state_at c m loop_lines v no_words) (state_at c m end_lines vars no_words)

    -- one turn
    record Turn (class : ℕ) (v : Vars) : Type 0 where
      vars : Vars
      one_is : vars 1 ≡ Some (class_word (suc class))
      two_is : vars 2 ≡ Some (payload + HEADER_BYTES)
      three_is : vars 3 ≡ Some (size_at (suc class))
      runs : Runs live procs 3 (state_at c m loop_lines v no_words) (state_at c m (Branch test.Below 3 2 0 ∷ end_lines) vars no_words)

    turn : (class : ℕ) (v : Vars) → class < 20 → v 1 ≡ Some (class_word class) → v 2 ≡ Some (payload + HEADER_BYTES) → v 3 ≡ Some (size_at class)
        → Turn class v
    turn class v known e1 e2 e3 =
        let l2 : List WordInstr = Compute 3 operation.Add 3 3 ∷ Sum 1 1 4 ∷ Branch test.Below 3 2 0 ∷ end_lines in
        let l3 : List WordInstr = Sum 1 1 4 ∷ Branch test.Below 3 2 0 ∷ end_lines in
        let l4 : List WordInstr = Branch test.Below 3 2 0 ∷ end_lines in
        let v1 : Vars = put v 3 (computed operation.Add (size_at class) (size_at class)) in
        let v2 : Vars = put v1 1 (class_word class + 4) in
        let h : size_at class ≤ 16777216 = size_within class 20 (omega (arith, known)) in
        let r1 : Runs live procs 1 (state_at c m loop_lines v no_words) (state_at c m l2 v no_words) = run_label live procs c m l2 v no_words 0 in
        let r2 : Runs live procs 1 (state_at c m l2 v no_words) (state_at c m l3 v1 no_words)
        = run_compute live procs c m l3 v no_words 3 operation.Add 3 3 e3 e3 in
        let r3 : Runs live procs 1 (state_at c m l3 v1 no_words) (state_at c m l4 v2 no_words) = run_sum live procs c m l4 v1 no_words 1 1 4 e1 in
        record {
          vars = v2;
          one_is = ap Some (omega (arith, known));
          two_is = e2;
          three_is = got_sum (size_at class) (size_at class) (omega (arith, h)) ∙ ap Some (omega arith);
          runs = then_runs live procs r1 (then_runs live procs r2 r3);
        }

    finds : (r class : ℕ) (v : Vars) → r + suc class ≡ size_count → size_at class < payload + HEADER_BYTES → v 1 ≡ Some (class_word class)
        → v 2 ≡ Some (payload + HEADER_BYTES) → v 3 ≡ Some (size_at class) → Found class (class_for payload (sizes_behind r (suc class))) v
    finds zero class v all less e1 e2 e3 =
        let i : class ≡ 20 = omega (arith, all) in
        let e : size_at class ≡ 16777216 = ap size_at i in
        absurd (omega (arith, e, less, few))
    finds (suc r) class v all less e1 e2 e3 =
        ⊎_elim (λ h. more h (finds r (suc class) t.vars (omega (arith, all)) h t.one_is t.two_is t.three_is)) enough
        (cases_lt (size_at (suc class)) (payload + HEADER_BYTES))
      where
        known : class < 20
        known = below (cases_lt class 20)
          where
            below : (class < 20) ⊎ (20 ≤ class) → class < 20
            below (inl h) = h
            below (inr h) = let w = size_within 20 class h in absurd (omega (arith, w, less, few))

        t : Turn class v
        t = turn class v known e1 e2 e3

        enough : payload + HEADER_BYTES ≤ size_at (suc class) → Found class (class_for payload (sizes_behind (suc r) (suc class))) v
        enough h =
            subst (λ k. Found class k v) (sym (this_size payload r (suc class) h)) (record {
              vars = t.vars;
              one_is = t.one_is ∙ ap Some (omega arith);
              runs = then_runs live procs t.runs (run_past live procs c m end_lines t.vars no_words test.Below 3 2 0 t.three_is t.two_is
                  (le-ltb (size_at (suc class)) (payload + HEADER_BYTES) h));
            })

        more : size_at (suc class) < payload + HEADER_BYTES → Found (suc class) (class_for payload (sizes_behind r (suc (suc class)))) t.vars
            → Found class (class_for payload (sizes_behind (suc r) (suc class))) v
        more h f =
            let k : ℕ = class_for payload (sizes_behind r (suc (suc class))) in
            subst (λ k. Found class k v) (sym (later_size payload r (suc class) h)) (record {
              vars = f.vars;
              one_is = f.one_is ∙ ap Some (omega arith);
              runs = subst (λ i. Runs live procs i (state_at c m loop_lines v no_words) (state_at c m end_lines f.vars no_words)) (omega arith)
                  (then_runs live procs (then_runs live procs t.runs (run_off live procs c m end_lines t.vars no_words test.Below 3 2 0 loop_lines
                  t.three_is t.two_is (lt-ltb (size_at (suc class)) (payload + HEADER_BYTES) h) refl)) f.runs);
            })

  -- ---- all its lines

  -- it comes back with the size, within so many lines
  pub record Comes (m : Memory) (payload : ℕ) (v : Vars) : Type 0 where
    pub lines : ℕ
    pub few : lines ≤ 8 + 4 * class_of payload
    pub runs : Runs live procs lines (state_at c m class_lines v no_words) (goes_on s to (class_word (class_of payload)) rest m s.input)

  -- the lines in front of the test whether any size holds it
  begins : (m : Memory) (v : Vars) → Runs live procs 2 (state_at c m class_lines v no_words)
      (state_at c m (Branch test.Below 2 0 2 ∷ size_lines) (put (put v 1 4) 2 16777208) no_words)
  begins m v =
      let l2 : List WordInstr = Constant 2 16777208 ∷ Branch test.Below 2 0 2 ∷ size_lines in
      let l3 : List WordInstr = Branch test.Below 2 0 2 ∷ size_lines in
      let r1 : Runs live procs 1 (state_at c m class_lines v no_words) (state_at c m l2 (put v 1 4) no_words) = run_constant live procs c m l2 v no_words 1 4 in
      let r2 : Runs live procs 1 (state_at c m l2 (put v 1 4) no_words) (state_at c m l3 (put (put v 1 4) 2 16777208) no_words)
      = run_constant live procs c m l3 (put v 1 4) no_words 2 16777208 in
      then_runs live procs r1 r2

  -- none does
  too_large : (m : Memory) (payload : ℕ) (v : Vars) → v 0 ≡ Some payload → 16777208 < payload → Comes m payload v
  too_large m payload v e0 large =
      let none : class_of payload ≡ size_count = no_size payload size_count 0 (omega arith) (omega (arith, large)) in
      let v2 : Vars = put (put v 1 4) 2 16777208 in
      let v3 : Vars = put v2 1 (class_word size_count) in
      let l2 : List WordInstr = Constant 1 (class_word size_count) ∷ Return 1 ∷ [] in
      let l3 : List WordInstr = Return 1 ∷ [] in
      let r3 : Runs live procs 1 (state_at c m (Branch test.Below 2 0 2 ∷ size_lines) v2 no_words) (state_at c m last_lines v2 no_words)
      = run_off live procs c m size_lines v2 no_words test.Below 2 0 2 last_lines refl e0 (lt-ltb 16777208 payload large) refl in
      let r4 : Runs live procs 1 (state_at c m last_lines v2 no_words) (state_at c m l2 v2 no_words) = run_label live procs c m l2 v2 no_words 2 in
      let r5 : Runs live procs 1 (state_at c m l2 v2 no_words) (state_at c m l3 v3 no_words)
      = run_constant live procs c m l3 v2 no_words 1 (class_word size_count) in
      let r6 : Runs live procs 1 (state_at c m l3 v3 no_words) (goes_on s to (class_word size_count) rest m s.input)
      = returns live procs s to rest class_proc refl m v3 1 (class_word size_count) refl in
      record {
        lines = 6;
        few = omega arith;
        runs = subst (λ k. Runs live procs 6 (state_at c m class_lines v no_words) (goes_on s to (class_word k) rest m s.input)) (sym none)
            (then_runs live procs (begins m v) (then_runs live procs r3 (then_runs live procs r4 (then_runs live procs r5 r6))));
      }

  -- one does
  module _ (m : Memory) (payload : ℕ) (v : Vars) (e0 : v 0 ≡ Some payload) (few : payload ≤ 16777208) where
    abbrev v2 : Vars
    v2 = put (put v 1 4) 2 16777208

    abbrev v3 : Vars
    v3 = put v2 2 (payload + 8)

    abbrev v4 : Vars
    v4 = put v3 3 16

    abbrev l5 : List WordInstr
    l5 = Constant 3 16 ∷ Branch test.NotBelow 3 2 1 ∷ loop_lines

    abbrev l6 : List WordInstr
    l6 = Branch test.NotBelow 3 2 1 ∷ loop_lines

    two : v4 2 ≡ Some (payload + HEADER_BYTES)
    two = got (payload + 8) (omega (arith, few))

    to_test : Runs live procs 5 (state_at c m class_lines v no_words) (state_at c m l6 v4 no_words)
    to_test =
        let r3 : Runs live procs 1 (state_at c m (Branch test.Below 2 0 2 ∷ size_lines) v2 no_words) (state_at c m size_lines v2 no_words)
        = run_past live procs c m size_lines v2 no_words test.Below 2 0 2 refl e0 (le-ltb 16777208 payload few) in
        let r4 : Runs live procs 1 (state_at c m size_lines v2 no_words) (state_at c m l5 v3 no_words) = run_sum live procs c m l5 v2 no_words 2 0 8 e0 in
        let r5 : Runs live procs 1 (state_at c m l5 v3 no_words) (state_at c m l6 v4 no_words) = run_constant live procs c m l6 v3 no_words 3 16 in
        then_runs live procs (begins m v) (then_runs live procs r3 (then_runs live procs r4 r5))

    ends : (vars : Vars) (word : ℕ) → vars 1 ≡ Some word → Runs live procs 2 (state_at c m end_lines vars no_words) (goes_on s to word rest m s.input)
    ends vars word e =
        let l : List WordInstr = Return 1 ∷ last_lines in
        let r1 : Runs live procs 1 (state_at c m end_lines vars no_words) (state_at c m l vars no_words) = run_label live procs c m l vars no_words 1 in
        let r2 : Runs live procs 1 (state_at c m l vars no_words) (goes_on s to word rest m s.input)
        = returns_before live procs s to rest last_lines class_proc refl m vars 1 word e in
        then_runs live procs r1 r2

    first : payload + HEADER_BYTES ≤ 16 → Comes m payload v
    first h =
        let none : class_of payload ≡ 0 = this_size payload 20 0 h in
        let r6 : Runs live procs 1 (state_at c m l6 v4 no_words) (state_at c m end_lines v4 no_words)
        = run_off live procs c m loop_lines v4 no_words test.NotBelow 3 2 1 end_lines refl two (ap not (le-ltb 16 (payload + HEADER_BYTES) h)) refl in
        record {
          lines = 8;
          few = omega arith;
          runs = subst (λ k. Runs live procs 8 (state_at c m class_lines v no_words) (goes_on s to (class_word k) rest m s.input)) (sym none)
              (then_runs live procs to_test (then_runs live procs r6 (ends v4 4 refl)));
        }

    further : 16 < payload + HEADER_BYTES → Comes m payload v
    further h =
        let k : ℕ = class_for payload (sizes_behind 20 1) in
        let more : class_of payload ≡ suc k = later_size payload 20 0 h in
        let r6 : Runs live procs 1 (state_at c m l6 v4 no_words) (state_at c m loop_lines v4 no_words)
        = run_past live procs c m loop_lines v4 no_words test.NotBelow 3 2 1 refl two (ap not (lt-ltb 16 (payload + HEADER_BYTES) h)) in
        let f = finds m payload (omega (arith, few)) 20 0 v4 (omega arith) h refl two refl in
        record {
          lines = 5 + (1 + (4 * suc k + 2));
          few = omega (arith, more);
          runs = subst (λ i. Runs live procs (5 + (1 + (4 * suc k + 2))) (state_at c m class_lines v no_words) (goes_on s to (class_word i) rest m s.input))
              (sym more) (then_runs live procs to_test (then_runs live procs r6 (then_runs live procs f.runs
              (ends f.vars (class_word (suc k)) (f.one_is ∙ ap Some (omega arith))))));
        }

    fits_size : Comes m payload v
    fits_size = ⊎_elim further first (cases_lt 16 (payload + HEADER_BYTES))

  pub class_found : (m : Memory) (payload : ℕ) (v : Vars) → v 0 ≡ Some payload → Comes m payload v
  class_found m payload v e0 = ⊎_elim (too_large m payload v e0) (fits_size m payload v e0) (cases_lt 16777208 payload)
