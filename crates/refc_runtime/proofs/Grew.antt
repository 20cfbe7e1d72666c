-- A routine's lines call the one by which payloads grow.
use Rattle.std.proofs.Common.{◌≡◌, ℕ, ◌+◌, ◌^◌, ◌<◌, ◌≤◌, List, [], ◌∷◌, Option, Some, None, Bool, true, false}
use Rattle.std.proofs.Common.{refl, sym, ap, subst, arith}
use Rattle.std.specs.Prelude.{◌||◌, if◌then◌else◌}
use Rattle.std.proofs.lemmas.Bool.{true≢false}
use Rattle.arc_base.specs.Event.{Event, writes}
use Rattle.arc_base.specs.declared.outside.Stream.TheVariants.{Err}
use Rattle.nim_program.specs.Traps.{OutOfMemory}
use Rattle.rv32_isa.specs.Machine.{Lives}
use Rattle.word_code.specs.declared.word.WordInstr.{WordInstr}
use Rattle.word_code.specs.declared.word.WordInstr.TheVariants.{Argument, Call}
use Rattle.word_code.specs.declared.word.WordProc.{WordProc}
use Rattle.word_code.specs.Memory.{Memory, as_state, own_data_at}
use Rattle.word_code.specs.Words.{Vars, no_words, put, WordState, step}
use Rattle.word_code.specs.RoutineTable.{trap_line}
use Rattle.word_code.specs.Routines.{ComesBack, EndsProgram, Comes}
use Rattle.word_code.proofs.ForCallers.{MemoryLaw, Sized, sizes_same, AlwaysStops, stops_on, Runs, then_runs, Within, at as state_at, run_argument, got}
use Rattle.heap_memory.specs.declared.numbers.TheConstants.{GROW}
use Rattle.heap_memory.specs.HeapRoutines.{fits, IsBesideHeap, IsKeptThere}
use Rattle.heap_memory.specs.GrowRoutine.{Owned, Growing, taking, place_of, holds_it, may_grow, IsPresent, MayGrow, kept_of, GrowLeaves, grow_work, grows}
use Rattle.heap_memory.specs.AppendRoutine.{IsFilled}
use Rattle.heap_memory.proofs.ForCallers.{is_there}
use Rattle.refc_runtime.proofs.GrowRuns.{call_runs}
use Rattle.heap_memory.proofs.ForCallers.{grown_filled, ends_low}

module _ (law : MemoryLaw) (live : Lives) (procs : List WordProc) (n : ℕ) (grow_kept : IsKeptThere live procs (grows (own_data_at + n))) (c : Within)
    (m : Memory) (sized : Sized m) (u : Growing) (may : MayGrow (own_data_at + n) u m) (a b w d : ℕ) (k : List WordInstr) (v : Vars)
    (e0 : v a ≡ Some (place_of u.present)) (e1 : v b ≡ Some u.kept) (e2 : v w ≡ Some u.wanted)
  where
    abbrev own : ℕ
    own = own_data_at + n

    abbrev pub growing_lines : List WordInstr
    growing_lines = Argument 0 a ∷ Argument 1 b ∷ Argument 2 w ∷ Call d GROW ∷ k

    abbrev l2 : List WordInstr
    l2 = Argument 1 b ∷ Argument 2 w ∷ Call d GROW ∷ k

    abbrev l3 : List WordInstr
    l3 = Argument 2 w ∷ Call d GROW ∷ k

    abbrev l4 : List WordInstr
    l4 = Call d GROW ∷ k

    abbrev g : Vars
    g = put (put (put no_words 0 (place_of u.present)) 1 u.kept) 2 u.wanted

    abbrev before : WordState
    before = state_at c m l4 v g

    smalls : (place_of u.present < 2 ^ 32) × (u.kept < 2 ^ 32)
    smalls = by u.present may.present
      where
        by : (p : Option Owned) → IsPresent u.stands u.kept p → (place_of p < 2 ^ 32) × (u.kept < 2 ^ 32)
        by None is = (omega arith, omega (arith, is))
        by (Some o) is =
            let there = is_there own u.classes u.stands m may.heap o.identity o.block is.0 sized in
            let high = there.high in
            let most = sized.heap_most in
            let few = is.3 in
            (omega (arith, high, most), omega (arith, high, most, few))

    to_call : Runs live procs 3 (state_at c m growing_lines v no_words) before
    to_call =
        then_runs live procs (run_argument live procs c m l2 v no_words 0 a e0) (then_runs live procs
        (run_argument live procs c m l3 v (put no_words 0 (place_of u.present)) 1 b e1)
        (run_argument live procs c m l4 v (put (put no_words 0 (place_of u.present)) 1 u.kept) 2 w e2))

    outcome : Comes live procs (grows own) u before d k (if may_grow u then None else Some 1)
    outcome =
        grow_kept u before d k
        (record {
          next = refl;
          given = (got (place_of u.present) smalls.0, (got u.kept smalls.1, (got u.wanted may.word, tt)));
        }) sized may

    -- it comes back with a block
    pub record Grew : Type 0 where
      pub other : Memory
      pub place : ℕ
      pub count : ℕ
      pub few : count ≤ 3 + grow_work u
      pub regions : Sized other
      pub rest : IsBesideHeap own m other
      pub filled : IsFilled (holds_it u.present u.wanted) own u (kept_of u.present u.kept) other place
      pub small : place < 2 ^ 32
      pub runs : Runs live procs count (state_at c m growing_lines v no_words) (state_at (record c { awaits = d }) other k (put v d place) no_words)

    left : (h f : Bool) → (other : Memory) → GrowLeaves h f own m other → IsBesideHeap own m other
    left true f other same = subst (λ y. IsBesideHeap own m y) (sym same) (record { sizes = sizes_same m; beside = λ x i words heap. refl })
    left false true other is = is
    left false false other same = subst (λ y. IsBesideHeap own m y) (sym same) (record { sizes = sizes_same m; beside = λ x i words heap. refl })

    pub grew : may_grow u ≡ true → Grew
    grew does =
        let back : ComesBack live procs (grows own) u before d k
        = subst (λ x. Comes live procs (grows own) u before d k (if x then None else Some 1)) does outcome in
        let silent : ◌≡◌ {A = List Event} (if may_grow u then [] else writes Err (trap_line OutOfMemory)) []
        = ap (λ x. if x then [] else writes Err (trap_line OutOfMemory)) does in
        let rest : IsBesideHeap own m back.memory = left (holds_it u.present u.wanted) (fits (taking u)) back.memory back.leaves in
        let regions : Sized back.memory = law.regions (as_state m) (as_state back.memory) sized rest.sizes in
        let filled : IsFilled (holds_it u.present u.wanted) own u (kept_of u.present u.kept) back.memory back.word
        = grown_filled own u may.unused may.present m may.heap (holds_it u.present u.wanted) refl back.memory back.word back.leaves back.gives in
        let few = back.few in
        let low = ends_low own u may.unused may.present back.memory regions (kept_of u.present u.kept) back.word (holds_it u.present u.wanted) filled in
        record {
          other = back.memory;
          place = back.word;
          count = 3 + back.lines;
          few = omega (arith, few);
          regions = regions;
          rest = rest;
          filled = filled;
          small = omega (arith, low);
          runs = then_runs live procs to_call (call_runs live procs (grows own) u c m v g d k silent refl back);
        }

    -- the heap is full
    pub record Full : Type 0 where
      pub count : ℕ
      pub few : count ≤ 3 + grow_work u
      pub stops : AlwaysStops (step live procs) (state_at c m growing_lines v no_words) (writes Err (trap_line OutOfMemory)) count 1 (live (as_state m))

    still : (h f : Bool) → (other : Memory) → ◌||◌ h f ≡ false → GrowLeaves h f own m other → other ≡ m
    still true f other out is = absurd (true≢false out)
    still false true other out is = absurd (true≢false out)
    still false false other out is = is

    pub full : may_grow u ≡ false → Full
    full out =
        let ended : EndsProgram live procs (grows own) u before 1
        = subst (λ x. Comes live procs (grows own) u before d k (if x then None else Some 1)) out outcome in
        let same : ended.memory ≡ m = still (holds_it u.present u.wanted) (fits (taking u)) ended.memory out ended.leaves in
        let shown : AlwaysStops (step live procs) before (writes Err (trap_line OutOfMemory)) (grow_work u) 1 (live (as_state ended.memory))
        = subst (λ x. AlwaysStops (step live procs) before (if x then [] else writes Err (trap_line OutOfMemory)) (grow_work u) 1
        (live (as_state ended.memory)))
        out ended.stops in
        let last : AlwaysStops (step live procs) before (writes Err (trap_line OutOfMemory)) (grow_work u) 1 (live (as_state m))
        = subst (λ y. AlwaysStops (step live procs) before (writes Err (trap_line OutOfMemory)) (grow_work u) 1 (live (as_state y))) same shown in
        record {
          count = 3 + grow_work u;
          few = omega arith;
          stops = stops_on (step live procs) 3 3 (grow_work u) 1 (state_at c m growing_lines v no_words) before [] (writes Err (trap_line OutOfMemory))
              (live (as_state m)) to_call last;
        }
