-- What the routine does that reads a line of the input into the text of a handle.
use Rattle.std.proofs.Common.{◌≡◌, ℕ, ◌+◌, ◌-◌, ◌%◌, ◌^◌, ◌<◌, ◌≤◌, ◌⊎◌, inl, inr, List, [], ◌∷◌, length, drop, Option, Some, None}
use Rattle.std.proofs.Common.{true, refl, sym, ap, subst, ◌∙◌, arith}
use Rattle.std.specs.Prelude.{◌==◌, if◌then◌else◌}
use Rattle.std.specs.Prelude.{Err as Failed}
use Rattle.std.proofs.lemmas.Bool.{cases_Bool}
use Rattle.std.proofs.lemmas.Option.{none-some}
use Rattle.arc_base.specs.Event.{writes}
use Rattle.arc_base.specs.declared.outside.Stream.TheVariants.{Err}
use Rattle.nim_program.specs.Traps.{OutOfMemory}
use Rattle.nim_meaning.specs.OwnedRows.{up_to_feed, next_line}
use Rattle.rv32_isa.specs.Regions.{as_bytes}
use Rattle.rv32_isa.specs.declared.micro_op.Size.TheVariants.{Word as whole}
use Rattle.rv32_isa.specs.declared.machine.FaultKind.TheVariants.{Misaligned}
use Rattle.rv32_isa.specs.Steps.{number_of}
use Rattle.rv32_isa.specs.Machine.{Lives}
use Rattle.word_code.specs.declared.word.Test.TheVariants as test
use Rattle.word_code.specs.declared.word.WordInstr.{WordInstr}
use Rattle.word_code.specs.declared.word.WordInstr.TheVariants.{Label, Constant, Datum, Load, Branch, Argument, Call, Return}
use Rattle.word_code.specs.declared.word.WordProc.{WordProc}
use Rattle.word_code.specs.Memory.{Memory, as_state, number_at, bytes_at, own_data_at}
use Rattle.word_code.specs.Words.{Vars, no_words, put, params_of, from_proc, WordState, step}
use Rattle.word_code.specs.RoutineTable.{trap_line}
use Rattle.word_code.specs.Routines.{ComesBack, EndsProgram, Comes, IsCalling, goes_on}
use Rattle.word_code.proofs.ForCallers.{MemoryLaw, Sized, AlwaysSteps, AlwaysStops, Runs, then_runs, Within, at as state_at}
use Rattle.word_code.proofs.ForCallers.{run_label, run_constant, run_sum, run_load, run_datum, run_argument, run_past, run_off, got}
use Rattle.heap_memory.specs.declared.numbers.TheConstants.{READ_LINE, RELEASE, TEXT_READ, HEAP_WORD_BYTES, HEAP_DATA, HEAP_SCRATCH}
use Rattle.heap_memory.specs.HeapState.{IsHeap}
use Rattle.heap_memory.specs.HeapRoutines.{IsKeptThere}
use Rattle.heap_memory.specs.GrowRoutine.{Owned, place_of, IsPresent}
use Rattle.heap_memory.specs.AppendRoutine.{with_owned, new_block, Releasing, releases}
use Rattle.heap_memory.specs.LineRoutine.{UnderWay, Reading, MayRead, line_then, line_fits, block_of_class, block_under_way, HasBlock, IsUnderWay}
use Rattle.heap_memory.specs.LineRoutine.{IsBesideText, IsLine, reads_line, IsKeptOn}
use Rattle.heap_memory.specs.HandleRoutines.{HasHandle, MayHave, IsBesideData}
use Rattle.heap_memory.specs.TextReading.{ReadingText, to_scratch, MayReadText, IsLinePut, LineLeaves, if_any, reads_text}
use Rattle.heap_memory.proofs.ForCallers.{is_there, if_same, if_other}
use Rattle.refc_runtime.specs.HandleCode.{handle_lines, put_handle_lines, text_read_lines}
use Rattle.refc_runtime.proofs.Calls.{later, inside, enters, returns_awaiting}
use Rattle.refc_runtime.proofs.Coming.{calling_state, comes_back, ends_behind}
use Rattle.refc_runtime.proofs.GrowRuns.{call_runs}
use Rattle.heap_memory.proofs.ForCallers.{may_still, data_more, with_handle, handle_put}
use Rattle.refc_runtime.proofs.HandleMemory.{word_low, run_handle, run_put_handle}
use Rattle.refc_runtime.proofs.Scratch.{scratch_low, scratch_words, scratch_elsewhere}

-- ---- the text before still stands

module _ (u : ReadingText) (unused : (k : ℕ) → u.first ≤ k → u.stands k ≡ None) where
  still_present : (w : UnderWay) (place : ℕ) (payload : List ℕ) → HasBlock w.class w.length w.takes payload → IsPresent u.stands 0 u.present
      → IsPresent (with_owned (block_under_way u.first place payload w) u.stands) 0 u.present
  still_present w place payload has = by u.present
    where
      stays : (class : Option ℕ) → HasBlock class w.length w.takes payload → (o : Owned) → u.stands o.identity ≡ Some o.block
          → with_owned (block_of_class class (u.first + w.takes - 1) place payload) u.stands o.identity ≡ Some o.block
      stays None h o is = is
      stays (Some class) h o is =
          let some = h.1 in
          if_other o.identity (u.first + w.takes - 1) (Some (new_block class place payload)) (u.stands o.identity)
          (λ e. none-some o.block (sym (unused o.identity (omega (arith, e, some))) ∙ is)) ∙ is

      by : (p : Option Owned) → IsPresent u.stands 0 p → IsPresent (with_owned (block_under_way u.first place payload w) u.stands) 0 p
      by None is = is
      by (Some o) is = (stays w.class has o is.0, is.1, is.2, is.3, is.4)

-- how long a text is that stands, and where
line_small : (own : ℕ) (r : Reading) (w : UnderWay) (text : List ℕ) (m : Memory) (place : ℕ) → Sized m → IsUnderWay own r w text m place
    → (length text < 2 ^ 32) × (place < 2 ^ 32)
line_small own r w text m place sized x = by w.class x.has x.there x.heap
  where
    by : (class : Option ℕ) → HasBlock class w.length w.takes x.payload
        → place_of (block_of_class class (r.first + w.takes - 1) place x.payload) ≡ place
        → IsHeap own w.classes (with_owned (block_of_class class (r.first + w.takes - 1) place x.payload) r.stands) m
        → (length text < 2 ^ 32) × (place < 2 ^ 32)
    by None has there heap = let l = x.long in (omega (arith, l, has), omega (arith, there))
    by (Some class) has there heap =
        let k : ℕ = r.first + w.takes - 1 in
        let high = (is_there own w.classes (with_owned (block_of_class (Some class) k place x.payload) r.stands) m heap k
        (new_block class place x.payload) (if_same k k (Some (new_block class place x.payload)) (r.stands k) refl) sized).high in
        let most = sized.heap_most in
        let l = x.long in
        let few = has.0 in
        (omega (arith, l, few, high, most), omega (arith, high, most))

module _ (law : MemoryLaw) (live : Lives) (procs : List WordProc) (n : ℕ)
    (read_kept : (input : List ℕ) → IsKeptOn live procs input (reads_line (own_data_at + n) (as_bytes input)))
    (release_kept : IsKeptThere live procs (releases (own_data_at + n))) (u : ReadingText) (s : WordState) (to : ℕ) (rest : List WordInstr)
    (others : List WordProc) (stands : from_proc TEXT_READ procs ≡ later n TEXT_READ 1 7 text_read_lines ∷ others)
    (calling : IsCalling TEXT_READ (u.to ∷ []) to rest s) (sized : Sized s.memory)
  where
    abbrev own : ℕ
    own = own_data_at + n

    abbrev p : WordProc
    p = later n TEXT_READ 1 7 text_read_lines

    -- with other input
    abbrev left_with : List ℕ → WordState
    left_with left = record s { input = left }

    abbrev c : List ℕ → ℕ → Within
    c left awaits = record (inside s p to rest) { input = left; awaits = awaits }

    abbrev r : Reading
    r = to_scratch own u

    abbrev old : ℕ
    old = place_of u.present

    abbrev k10 : List WordInstr
    k10 = Label 0 ∷ Return 5 ∷ []

    abbrev k9 : List WordInstr
    k9 = handle_lines 2 3 1 (put_handle_lines k10)

    abbrev k8 : List WordInstr
    k8 = Call 6 RELEASE ∷ k9

    abbrev k7 : List WordInstr
    k7 = Argument 0 6 ∷ k8

    abbrev k6 : List WordInstr
    k6 = Branch test.Equal 5 4 0 ∷ k7

    abbrev k5 : List WordInstr
    k5 = Constant 4 0 ∷ k6

    abbrev k4 : List WordInstr
    k4 = Call 5 READ_LINE ∷ k5

    abbrev k3 : List WordInstr
    k3 = Argument 0 1 ∷ k4

    abbrev k2 : List WordInstr
    k2 = Datum 1 HEAP_SCRATCH ∷ k3

    abbrev k1 : List WordInstr
    k1 = Load 6 6 whole ∷ k2

    abbrev v0 : Vars
    v0 = params_of p s.frame.given

    abbrev v1 : Vars
    v1 = put v0 6 (u.to + 4)

    abbrev v2 : Vars
    v2 = put v1 6 old

    abbrev v3 : Vars
    v3 = put v2 1 r.to

    abbrev g1 : Vars
    g1 = put no_words 0 r.to

    module _ (all : List ℕ) (is : s.input ≡ all) (may : MayReadText own u s.memory) where
      -- as bytes
      abbrev input : List ℕ
      input = as_bytes all

      abbrev row : Type 0
      row = Comes live procs (reads_text own input) u s to rest ((reads_text own input).ends u)

      low : own + HEAP_DATA < 2 ^ 32
      low = let l = scratch_low own u.classes u.stands s.memory may.heap sized in omega (arith, l)

      may_read : MayRead own r s.memory
      may_read = record {
        heap = may.heap;
        all = may.all;
        cells = scratch_words own u.classes u.stands s.memory may.heap sized;
        elsewhere = scratch_elsewhere own u.classes u.stands s.memory may.heap sized r.to 8 (omega arith) (omega arith);
        unused = may.unused;
      }

      old_small : old < 2 ^ 32
      old_small = by u.present may.present
        where
          by : (q : Option Owned) → IsPresent u.stands 0 q → place_of q < 2 ^ 32
          by None is = omega arith
          by (Some o) is =
              let high = (is_there own u.classes u.stands s.memory may.heap o.identity o.block is.0 sized).high in
              let most = sized.heap_most in
              omega (arith, high, most)

      abbrev before : WordState
      before = state_at (c s.input 0) s.memory k4 v3 g1

      to_low : u.to + 4 < 2 ^ 32
      to_low = let l = word_low s.memory sized (u.to + 4) old may.there in omega (arith, l)

      to_read : Runs live procs 5 (calling_state live procs s to rest (reads_text own input) u calling.next) before
      to_read =
          let l = low in
          let e : own_data_at + (n + 0) + HEAP_SCRATCH ≡ r.to = omega arith in
          then_runs live procs (enters live procs s to rest n TEXT_READ 1 7 text_read_lines others stands) (then_runs live procs
          (run_sum live procs (c s.input 0) s.memory k1 v0 no_words 6 0 4 calling.given.0) (then_runs live procs
          (run_load live procs (c s.input 0) s.memory k2 v1 no_words 6 6 whole (got (u.to + 4) to_low) may.there) (then_runs live procs
          (subst (λ a. Runs live procs 1 (state_at (c s.input 0) s.memory k2 v2 no_words) (state_at (c s.input 0) s.memory k3 (put v2 1 a) no_words)) e
          (run_datum live procs (c s.input 0) s.memory k3 v2 no_words 1 HEAP_SCRATCH))
          (run_argument live procs (c s.input 0) s.memory k4 v3 no_words 0 1 (got r.to (omega (arith, l)))))))

      reads_it : Comes live procs (reads_line own input) r before 5 k5 ((reads_line own input).ends r)
      reads_it =
          let l = low in
          read_kept all r before 5 k5 is (record { next = refl; given = (got r.to (omega (arith, l)), tt) }) sized may_read

      -- what is left of the input
      abbrev left : List ℕ
      left = drop (up_to_feed input) s.input

      -- it comes back
      module _ (x : ComesBack live procs (reads_line own input) r before 5 k5) (fits : line_fits input r ≡ true) where
        abbrev v4 : Vars
        v4 = put v3 5 x.word

        abbrev v5 : Vars
        v5 = put v4 4 0

        silent : (reads_line own input).shows r ≡ []
        silent = ap (λ b. if b then [] else writes Err (trap_line OutOfMemory)) fits

        reads_on : Runs live procs x.lines before (state_at (c left 5) x.memory k5 v4 no_words)
        reads_on =
            let y : AlwaysSteps (step live procs) x.lines before ((reads_line own input).shows r) x.lines (goes_on before 5 x.word k5 x.memory left)
            = record { by = x.steps } in
            subst (λ es. AlwaysSteps (step live procs) x.lines before es x.lines (goes_on before 5 x.word k5 x.memory left)) silent y

        to_branch : Runs live procs (5 + (x.lines + 1)) (calling_state live procs s to rest (reads_text own input) u calling.next)
            (state_at (c left 5) x.memory k6 v5 no_words)
        to_branch = then_runs live procs to_read (then_runs live procs reads_on (run_constant live procs (c left 5) x.memory k6 v4 no_words 4 0))

        returns : (m : Memory) (v : Vars) (awaits word : ℕ) → v 5 ≡ Some word
            → Runs live procs 2 (state_at (c left awaits) m k10 v no_words) (goes_on s to word rest m left)
        returns m v awaits word e =
            then_runs live procs (run_label live procs (c left awaits) m (Return 5 ∷ []) v no_words 0)
            (returns_awaiting live procs (left_with left) to rest awaits [] p refl m v 5 word e)

        back : (word : ℕ) (other : Memory) → (reads_text own input).leaves u s.memory other → word ≡ if_any input → (count : ℕ)
            → count ≤ (reads_text own input).lines u
            → Runs live procs count (calling_state live procs s to rest (reads_text own input) u calling.next) (goes_on s to word rest other left) → row
        back word other leaves gives count few runs =
            comes_back live procs s to rest (reads_text own input) u calling.next (ap (λ b. if b then None else Some 1) fits)
            (ap (λ b. if b then [] else writes Err (trap_line OutOfMemory)) fits) word other leaves gives count few runs

    -- ---- no byte is left

    none_left : s.input ≡ [] → MayReadText own u s.memory → Comes live procs (reads_text own []) u s to rest None
    none_left is may =
        let x : ComesBack live procs (reads_line own []) r (before [] is may) 5 k5 = reads_it [] is may in
        let few = x.few in
        let zero_is : put (put v3 5 x.word) 4 0 5 ≡ Some 0 = subst (λ w. put (put v3 5 w) 4 0 5 ≡ Some 0) (sym x.gives) refl in
        back [] is may x refl 0 x.memory x.leaves refl (5 + (x.lines + 1) + (1 + 2)) (omega (arith, few))
        (then_runs live procs (to_branch [] is may x refl) (then_runs live procs
        (run_off live procs (c (left [] is may) 5) x.memory k7 (put (put v3 5 x.word) 4 0) no_words test.Equal 5 4 0 k10 zero_is refl refl refl)
        (returns [] is may x refl x.memory (put (put v3 5 x.word) 4 0) 5 0 zero_is)))

    -- ---- a line is left

    module _ (first : ℕ) (behind : List ℕ) (is : s.input ≡ first ∷ behind) (may : MayReadText own u s.memory) where
      -- as bytes
      abbrev ch : ℕ
      ch = first % 256

      abbrev cs : List ℕ
      cs = as_bytes behind

      abbrev w : UnderWay
      w = line_then (ch ∷ cs) r

      abbrev text : List ℕ
      text = next_line (ch ∷ cs)

      abbrev Coming : Type 0
      Coming = Comes live procs (reads_text own (ch ∷ cs)) u s to rest ((reads_text own (ch ∷ cs)).ends u)

      beside_data : (m : Memory) → IsBesideText own r s.memory m → IsBesideData own s.memory m
      beside_data m x = record {
        sizes = x.sizes;
        beside = λ b k away heap. x.beside b k (words b k away) heap (scratch_8 b k away);
      }
        where
          words : (b k : ℕ) → (b + k ≤ own) ⊎ (own + HEAP_DATA ≤ b) → (b + k ≤ own) ⊎ (own + HEAP_WORD_BYTES ≤ b)
          words b k (inl h) = inl h
          words b k (inr h) = inr (omega (arith, h))

          scratch_8 : (b k : ℕ) → (b + k ≤ own) ⊎ (own + HEAP_DATA ≤ b) → (b + k ≤ r.to) ⊎ (r.to + 8 ≤ b)
          scratch_8 b k (inl h) = inl (omega (arith, h))
          scratch_8 b k (inr h) = inr (omega (arith, h))

      -- the same bytes are the same word
      word_of : (m other : Memory) (a : ℕ) → bytes_at other a 4 ≡ bytes_at m a 4 → number_at other a whole ≡ number_at m a whole
      word_of m other a same = ap (λ o. if a % 4 == 0 then number_of o else Failed Misaligned) same

      module _ (x : ComesBack live procs (reads_line own (ch ∷ cs)) r (before (first ∷ behind) is may) 5 k5) (fits : line_fits (ch ∷ cs) r ≡ true) where
        abbrev m1 : Memory
        m1 = x.memory

        sized1 : Sized m1
        sized1 = law.regions (as_state s.memory) (as_state m1) sized x.leaves.0.sizes

        line : IsLine own r w text m1
        line = x.gives.1

        abbrev place : ℕ
        place = line.place

        smalls : (length text < 2 ^ 32) × (place < 2 ^ 32)
        smalls = line_small own r w text m1 place sized1 line.stands

        abbrev y5 : Vars
        y5 = put (put v3 5 x.word) 4 0

        five_is : y5 5 ≡ Some 1
        five_is = subst (λ i. put (put v3 5 i) 4 0 5 ≡ Some 1) (sym x.gives.0) refl

        abbrev releasing : Releasing
        releasing = record {
          present = u.present;
          classes = w.classes;
          stands = with_owned (block_under_way u.first place line.stands.payload w) u.stands;
        }

        abbrev at_release : WordState
        at_release = state_at (c (left (first ∷ behind) is may) 5) m1 k8 y5 (put no_words 0 old)

        released : ComesBack live procs (releases own) releasing at_release 6 k9
        released =
            release_kept releasing at_release 6 k9 (record { next = refl; given = (got old (old_small (first ∷ behind) is may), tt) }) sized1
            (record {
              heap = line.stands.heap;
              present = still_present u may.unused w place line.stands.payload line.stands.has may.present;
            })

        module _ (y : ComesBack live procs (releases own) releasing at_release 6 k9) where
          abbrev m2 : Memory
          m2 = y.memory

          rest2 : IsBesideData own s.memory m2
          rest2 = data_more own s.memory m1 m2 (beside_data m1 x.leaves.0) y.leaves

          sized2 : Sized m2
          sized2 = law.regions (as_state m1) (as_state m2) sized1 y.leaves.sizes

          still_there : (i : ℕ) → i + 4 ≤ 8 → number_at m2 (r.to + i) whole ≡ number_at m1 (r.to + i) whole
          still_there i few =
              let l = scratch_low own u.classes u.stands s.memory may.heap sized in
              word_of m1 m2 (r.to + i) (y.leaves.beside (r.to + i) 4 (inr (omega arith)) (inl (omega (arith, l, few))))

          handle : HasHandle m2 r.to (length text) place
          handle =
              let e : r.to + 0 ≡ r.to = omega arith in
              record {
                long = subst (λ a. number_at m2 a whole ≡ number_at m1 a whole) e (still_there 0 (omega arith)) ∙ line.length;
                there = still_there 4 (omega arith) ∙ line.block;
              }

          has2 : MayHave m2 u.to
          has2 = may_still law s.memory m2 u.to rest2.sizes may.has

          abbrev m3 : Memory
          m3 = with_handle law m2 sized2 u.to (length text) place has2 smalls.0 smalls.1

          abbrev d : Within
          d = c (left (first ∷ behind) is may) 6

          abbrev y6 : Vars
          y6 = put y5 6 y.word

          abbrev y7 : Vars
          y7 = put (put (put y6 2 (length text)) 3 (r.to + 4)) 3 place

          is_line_put : IsLinePut own u w text s.memory m3
          is_line_put = record {
            middle = m2;
            place = place;
            rest = rest2;
            payload = line.stands.payload;
            front = line.stands.front;
            there = line.stands.there;
            heap = y.gives;
            put = handle_put law m2 sized2 u.to (length text) place has2 smalls.0 smalls.1;
          }

          puts_line : Coming
          puts_line =
              let few1 = x.few in
              let few2 = y.few in
              let l = low (first ∷ behind) is may in
              back (first ∷ behind) is may x fits 1 m3 (subst (λ b. LineLeaves b own u w text s.memory m3) (sym fits) is_line_put) refl
              (5 + (x.lines + 1) + (1 + (1 + (y.lines + (3 + (3 + 2)))))) (omega (arith, few1, few2))
              (then_runs live procs (to_branch (first ∷ behind) is may x fits) (then_runs live procs
              (run_past live procs (c (left (first ∷ behind) is may) 5) m1 k7 y5 no_words test.Equal 5 4 0 five_is refl refl) (then_runs live procs
              (run_argument live procs (c (left (first ∷ behind) is may) 5) m1 k8 y5 no_words 0 6 (got old (old_small (first ∷ behind) is may)))
              (then_runs live procs
              (call_runs live procs (releases own) releasing (c (left (first ∷ behind) is may) 5) m1 y5 (put no_words 0 old) 6 k9 refl refl y)
              (then_runs live procs
              (run_handle live procs d m2 sized2 (put_handle_lines k10) y6 no_words r.to (length text) place handle 2 3 1 (got r.to (omega (arith, l)))
              (got r.to (omega (arith, l))) refl) (then_runs live procs
              (run_put_handle law m2 sized2 u.to (length text) place has2 smalls.0 smalls.1 live procs d k10 y7 calling.given.0 (got (length text) smalls.0)
              (got place smalls.1)) (returns (first ∷ behind) is may x fits m3 (put y7 4 (u.to + 4)) 6 1 five_is)))))))

      some_left : Coming
      some_left = elim (cases_Bool (line_fits (ch ∷ cs) r)) [
        | inl fits ↦
            let x : ComesBack live procs (reads_line own (ch ∷ cs)) r (before (first ∷ behind) is may) 5 k5
            = subst (λ b. Comes live procs (reads_line own (ch ∷ cs)) r (before (first ∷ behind) is may) 5 k5 (if b then None else Some 1)) fits
            (reads_it (first ∷ behind) is may) in
            puts_line x fits (released x fits)
        | inr out ↦
            let x : EndsProgram live procs (reads_line own (ch ∷ cs)) r (before (first ∷ behind) is may) 1
            = subst (λ b. Comes live procs (reads_line own (ch ∷ cs)) r (before (first ∷ behind) is may) 5 k5 (if b then None else Some 1)) out
            (reads_it (first ∷ behind) is may) in
            let shown : (reads_line own (ch ∷ cs)).shows r ≡ writes Err (trap_line OutOfMemory)
            = ap (λ b. if b then [] else writes Err (trap_line OutOfMemory)) out in
            let stops : AlwaysStops (step live procs) (before (first ∷ behind) is may) (writes Err (trap_line OutOfMemory))
            ((reads_line own (ch ∷ cs)).lines r) 1 (live (as_state x.memory))
            = subst (λ es. AlwaysStops (step live procs) (before (first ∷ behind) is may) es ((reads_line own (ch ∷ cs)).lines r) 1
            (live (as_state x.memory))) shown x.stops in
            ends_behind live procs s to rest (reads_text own (ch ∷ cs)) u calling.next 1 (ap (λ b. if b then None else Some 1) out) x.memory
            (subst (λ b. LineLeaves b own u w text s.memory x.memory) (sym out) (beside_data x.memory x.leaves.0, x.leaves.1)) 5
            ((reads_line own (ch ∷ cs)).lines r) (omega arith) (before (first ∷ behind) is may) (to_read (first ∷ behind) is may)
            (writes Err (trap_line OutOfMemory)) (ap (λ b. if b then [] else writes Err (trap_line OutOfMemory)) out) stops
      ]

pub text_read_kept : (law : MemoryLaw) (live : Lives) (procs : List WordProc) (n : ℕ)
    → ((input : List ℕ) → IsKeptOn live procs input (reads_line (own_data_at + n) (as_bytes input))) → IsKeptThere live procs (releases (own_data_at + n))
    → (others : List WordProc) → from_proc TEXT_READ procs ≡ later n TEXT_READ 1 7 text_read_lines ∷ others
    → (input : List ℕ) → IsKeptOn live procs input (reads_text (own_data_at + n) (as_bytes input))
text_read_kept law live procs n read_kept release_kept others stands [] u s to rest is calling sized may =
    none_left law live procs n read_kept release_kept u s to rest others stands calling sized is may
text_read_kept law live procs n read_kept release_kept others stands (ch ∷ cs) u s to rest is calling sized may =
    some_left law live procs n read_kept release_kept u s to rest others stands calling sized ch cs is may
