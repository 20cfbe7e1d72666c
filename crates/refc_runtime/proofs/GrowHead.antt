-- The routine by which texts and sequences grow, up to where it takes a larger block.
use Rattle.std.proofs.Common.{◌≡◌, ℕ, suc, ◌+◌, ◌-◌, ◌%◌, ◌^◌, ◌<◌, ◌≤◌, List, ◌∷◌, length, Some, None}
use Rattle.std.proofs.Common.{false, not, refl, ap, ◌∙◌, arith}
use Rattle.std.proofs.lemmas.Bool.{eq-eqb, ne_eqb, lt-ltb, le-ltb}
use Rattle.rv32_isa.specs.declared.micro_op.Size.TheVariants.{Word}
use Rattle.rv32_isa.specs.Machine.{Lives}
use Rattle.word_code.specs.declared.word.WordOperation.TheVariants as operation
use Rattle.word_code.specs.declared.word.Test.TheVariants as test
use Rattle.word_code.specs.declared.word.WordInstr.{WordInstr}
use Rattle.word_code.specs.declared.word.WordInstr.TheVariants.{Constant, Sum, Compute, Load, Branch, Return}
use Rattle.word_code.specs.declared.word.WordProc.{WordProc}
use Rattle.word_code.specs.Memory.{Memory, own_data_at}
use Rattle.word_code.specs.Words.{computed, holds, Vars, no_words, put, WordState}
use Rattle.word_code.specs.Routines.{goes_on}
use Rattle.word_code.proofs.ForCallers.{MemoryLaw, Sized, Runs, then_runs, Within, at as state_at}
use Rattle.word_code.proofs.ForCallers.{run_label, run_constant, run_sum, run_compute, run_load, run_past, run_off, got}
use Rattle.heap_memory.specs.declared.numbers.TheConstants.{CONTENTS_KIND}
use Rattle.refc_runtime.specs.declared.heap.TheConstants.{HEADER_LESS, KIND_LESS}
use Rattle.heap_memory.specs.declared.numbers.TheConstants.{GROW}
use Rattle.heap_memory.specs.HeapBlocks.{size_at, first_word}
use Rattle.heap_memory.specs.HeapUse.{IsThere}
use Rattle.heap_memory.specs.GrowRoutine.{Owned, Growing, place_of, MayGrow}
use Rattle.refc_runtime.specs.TextCode.{larger_lines, none_lines, present_lines, grow_lines}
use Rattle.refc_runtime.proofs.Calls.{later, inside, returns_awaiting}
use Rattle.heap_memory.proofs.ForCallers.{is_there}
use Rattle.refc_runtime.proofs.HeapMemory as memory
use Rattle.heap_memory.proofs.ForCallers.{size_shifted, size_most}

module _ (law : MemoryLaw) (live : Lives) (procs : List WordProc) (n : ℕ) (s : WordState) (to : ℕ) (rest : List WordInstr) where
  abbrev own : ℕ
  own = own_data_at + n

  abbrev pub grow_proc : WordProc
  grow_proc = later n GROW 3 6 grow_lines

  abbrev cw : ℕ → Within
  cw awaits = record (inside s grow_proc to rest) { awaits = awaits }

  -- ---- the present block

  -- its room is too small
  pub record Small (u : Growing) (m : Memory) (v : Vars) : Type 0 where
    pub vars : Vars
    pub zero_is : vars 0 ≡ Some (place_of u.present)
    pub one_is : vars 1 ≡ Some u.kept
    pub two_is : vars 2 ≡ Some u.wanted
    pub three_is : vars 3 ≡ Some 0
    pub count : ℕ
    pub few : count ≤ 9
    pub runs : Runs live procs count (state_at (cw 0) m grow_lines v no_words) (state_at (cw 0) m larger_lines vars no_words)

  module _ (u : Growing) (m : Memory) (sized : Sized m) (may : MayGrow own u m) (v : Vars) (e0 : v 0 ≡ Some (place_of u.present)) (e1 : v 1 ≡ Some u.kept)
      (e2 : v 2 ≡ Some u.wanted) where
    abbrev test_lines : List WordInstr
    test_lines = Branch test.Equal 0 3 2 ∷ present_lines

    abbrev v1 : Vars
    v1 = put v 3 0

    first_line : Runs live procs 1 (state_at (cw 0) m grow_lines v no_words) (state_at (cw 0) m test_lines v1 no_words)
    first_line = run_constant live procs (cw 0) m test_lines v no_words 3 0

    module _ (none : u.present ≡ None) where
      abbrev n2 : List WordInstr
      n2 = Branch test.Unequal 2 3 0 ∷ Return 0 ∷ larger_lines

      abbrev n3 : List WordInstr
      n3 = Return 0 ∷ larger_lines

      to_none : Runs live procs 3 (state_at (cw 0) m grow_lines v no_words) (state_at (cw 0) m n2 v1 no_words)
      to_none =
          then_runs live procs first_line (then_runs live procs
          (run_off live procs (cw 0) m present_lines v1 no_words test.Equal 0 3 2 none_lines (e0 ∙ ap (λ p. Some (place_of p)) none) refl refl refl)
          (run_label live procs (cw 0) m n2 v1 no_words 2))

      pub small_none : (u.wanted ≡ 0 → ⊥) → Small u m v
      small_none some = record {
        vars = v1;
        zero_is = e0;
        one_is = e1;
        two_is = e2;
        three_is = refl;
        count = 4;
        few = omega arith;
        runs = then_runs live procs to_none
            (run_off live procs (cw 0) m n3 v1 no_words test.Unequal 2 3 0 larger_lines e2 refl (ap not (ne_eqb u.wanted 0 some)) refl);
      }

      pub stays_none : u.wanted ≡ 0 → Runs live procs 5 (state_at (cw 0) m grow_lines v no_words) (goes_on s to 0 rest m s.input)
      stays_none zero_wanted =
          then_runs live procs to_none (then_runs live procs
          (run_past live procs (cw 0) m n3 v1 no_words test.Unequal 2 3 0 e2 refl (ap not (eq-eqb u.wanted 0 zero_wanted)))
          (returns_awaiting live procs s to rest 0 larger_lines grow_proc refl m v1 0 0 (e0 ∙ ap (λ p. Some (place_of p)) none)))

    module _ (o : Owned) (some : u.present ≡ Some o) (stood : u.stands o.identity ≡ Some o.block) (kind : o.block.kind ≡ CONTENTS_KIND)
        (word : o.block.word ≡ 0) where
      there : IsThere m o.block
      there = is_there own u.classes u.stands m may.heap o.identity o.block stood sized

      place_small : o.block.place < 2 ^ 32
      place_small = let h = there.high in let most = sized.heap_most in omega (arith, h, most)

      zero_is : v 0 ≡ Some o.block.place
      zero_is = e0 ∙ ap (λ p. Some (place_of p)) some

      abbrev k9 : List WordInstr
      k9 = Return 0 ∷ none_lines

      abbrev k8 : List WordInstr
      k8 = Branch test.Below 5 2 0 ∷ k9

      abbrev k7 : List WordInstr
      k7 = Sum 5 5 HEADER_LESS ∷ k8

      abbrev k6 : List WordInstr
      k6 = Compute 5 operation.ShiftLeft 5 4 ∷ k7

      abbrev k5 : List WordInstr
      k5 = Constant 5 8 ∷ k6

      abbrev k4 : List WordInstr
      k4 = Sum 4 4 KIND_LESS ∷ k5

      abbrev k3 : List WordInstr
      k3 = Load 4 4 Word ∷ k4

      abbrev w2 : Vars
      w2 = put v1 4 (o.block.place + HEADER_LESS)

      abbrev w3 : Vars
      w3 = put w2 4 (first_word CONTENTS_KIND o.block.class)

      abbrev w4 : Vars
      w4 = put w3 4 (first_word CONTENTS_KIND o.block.class + KIND_LESS)

      abbrev w5 : Vars
      w5 = put w4 5 8

      abbrev w6 : Vars
      w6 = put w5 5 (computed operation.ShiftLeft 8 (suc o.block.class))

      abbrev w7 : Vars
      w7 = put w6 5 (size_at o.block.class + HEADER_LESS)

      room_is : w7 5 ≡ Some (length o.block.payload)
      room_is =
          let w = there.whole in
          let z = there.sized in
          let most = size_most o.block.class (omega (arith, z)) in
          ap Some (omega (arith, w, most))

      to_test : Runs live procs 8 (state_at (cw 0) m grow_lines v no_words) (state_at (cw 0) m k8 w7 no_words)
      to_test =
          let low = there.low in
          let z = there.sized in
          let a : ℕ = o.block.place - 8 in
          let is : a + 8 ≡ o.block.place = omega (arith, low) in
          let past : holds test.Equal o.block.place 0 ≡ false = ne_eqb o.block.place 0 (λ e. absurd (omega (arith, e, low))) in
          let header : w2 4 ≡ Some a = ap Some (omega (arith, low, place_small)) in
          let first : w3 4 ≡ Some (first_word CONTENTS_KIND o.block.class) = got (first_word CONTENTS_KIND o.block.class) (omega (arith, z)) in
          let index : w4 4 ≡ Some (suc o.block.class) = ap Some (omega (arith, z)) in
          let most = size_most o.block.class (omega (arith, z)) in
          let size : w6 5 ≡ Some (size_at o.block.class)
          = ap (λ x. Some (x % 2 ^ 32)) (size_shifted o.block.class (omega (arith, z))) ∙ got (size_at o.block.class) (omega (arith, most)) in
          let r2 : Runs live procs 1 (state_at (cw 0) m test_lines v1 no_words) (state_at (cw 0) m present_lines v1 no_words)
          = run_past live procs (cw 0) m present_lines v1 no_words test.Equal 0 3 2 zero_is refl past in
          let r3 : Runs live procs 1 (state_at (cw 0) m present_lines v1 no_words) (state_at (cw 0) m k3 w2 no_words)
          = run_sum live procs (cw 0) m k3 v1 no_words 4 0 HEADER_LESS zero_is in
          let r4 : Runs live procs 1 (state_at (cw 0) m k3 w2 no_words) (state_at (cw 0) m k4 w3 no_words)
          = run_load live procs (cw 0) m k4 w2 no_words 4 4 Word header
          (memory.header_is law own m sized u.classes u.stands may.heap o.identity o.block stood kind word a is) in
          let r5 : Runs live procs 1 (state_at (cw 0) m k4 w3 no_words) (state_at (cw 0) m k5 w4 no_words)
          = run_sum live procs (cw 0) m k5 w3 no_words 4 4 KIND_LESS first in
          let r6 : Runs live procs 1 (state_at (cw 0) m k5 w4 no_words) (state_at (cw 0) m k6 w5 no_words) =
          run_constant live procs (cw 0) m k6 w4 no_words 5 8 in
          let r7 : Runs live procs 1 (state_at (cw 0) m k6 w5 no_words) (state_at (cw 0) m k7 w6 no_words)
          = run_compute live procs (cw 0) m k7 w5 no_words 5 operation.ShiftLeft 5 4 refl index in
          let r8 : Runs live procs 1 (state_at (cw 0) m k7 w6 no_words) (state_at (cw 0) m k8 w7 no_words)
          = run_sum live procs (cw 0) m k8 w6 no_words 5 5 HEADER_LESS size in
          then_runs live procs first_line (then_runs live procs r2 (then_runs live procs r3 (then_runs live procs r4 (then_runs live procs r5
          (then_runs live procs r6 (then_runs live procs r7 r8))))))

      pub small_some : length o.block.payload < u.wanted → Small u m v
      small_some less = record {
        vars = w7;
        zero_is = e0;
        one_is = e1;
        two_is = e2;
        three_is = refl;
        count = 9;
        few = omega arith;
        runs = then_runs live procs to_test
            (run_off live procs (cw 0) m k9 w7 no_words test.Below 5 2 0 larger_lines room_is e2 (lt-ltb (length o.block.payload) u.wanted less) refl);
      }

      pub stays : u.wanted ≤ length o.block.payload → Runs live procs 10 (state_at (cw 0) m grow_lines v no_words) (goes_on s to o.block.place rest m s.input)
      stays enough =
          then_runs live procs to_test (then_runs live procs
          (run_past live procs (cw 0) m k9 w7 no_words test.Below 5 2 0 room_is e2 (le-ltb (length o.block.payload) u.wanted enough))
          (returns_awaiting live procs s to rest 0 none_lines grow_proc refl m w7 0 o.block.place zero_is))
