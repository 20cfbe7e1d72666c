-- What the routine does that makes a text of two others.
use Rattle.std.proofs.Common.{◌≡◌, ℕ, ◌+◌, ◌*◌, ◌≤◌, inl, inr, List, [], ◌∷◌, ◌++◌, length, Some, None}
use Rattle.std.proofs.Common.{Bool, true, refl, sym, ap, subst, ◌∙◌, arith}
use Rattle.std.specs.Prelude.{if◌then◌else◌}
use Rattle.std.proofs.lemmas.Bool.{cases_Bool}
use Rattle.std.proofs.lemmas.Option.{none-some}
use Rattle.arc_base.specs.Event.{writes}
use Rattle.arc_base.specs.declared.outside.Stream.TheVariants.{Err}
use Rattle.nim_program.specs.Traps.{OutOfMemory}
use Rattle.rv32_isa.specs.Machine.{Lives}
use Rattle.word_code.specs.declared.word.WordOperation.TheVariants as operation
use Rattle.word_code.specs.declared.word.WordInstr.{WordInstr}
use Rattle.word_code.specs.declared.word.WordInstr.TheVariants.{Constant, Compute, Argument, Call, Return}
use Rattle.word_code.specs.declared.word.WordProc.{WordProc}
use Rattle.word_code.specs.Memory.{Memory, as_state, own_data_at}
use Rattle.word_code.specs.Words.{computed, Vars, no_words, put, params_of, from_proc, WordState}
use Rattle.word_code.specs.RoutineTable.{trap_line}
use Rattle.word_code.specs.Routines.{ComesBack, Comes, IsCalling}
use Rattle.word_code.proofs.ForCallers.{MemoryLaw, Sized, Runs, then_runs, Within, at as state_at, run_constant, run_compute, run_argument, got, got_sum}
use Rattle.heap_memory.specs.declared.numbers.TheConstants.{MOVE, MOVE_START, MOVE_BYTE, JOIN}
use Rattle.heap_memory.specs.HeapRoutines.{IsBesideHeap, IsKeptThere}
use Rattle.heap_memory.specs.TextRoutines.{AreBytes, Copying, moves_bytes}
use Rattle.heap_memory.specs.GrowRoutine.{Growing, room_of, holds_it, may_grow, MayGrow, grows}
use Rattle.heap_memory.specs.AppendRoutine.{IsFilled, block_then, GrowthLeaves, Source, Outside, Inside, source_at, source_bytes, IsSource}
use Rattle.heap_memory.specs.AppendRoutine.{Joining, joining_growth, MayJoin, joins}
use Rattle.refc_runtime.specs.LineCode.{join_lines}
use Rattle.refc_runtime.proofs.Calls.{later, inside, enters, returns_awaiting}
use Rattle.refc_runtime.proofs.Coming.{calling_state, comes_back, ends_behind}
use Rattle.refc_runtime.proofs.GrowFacts.{beside_more}
use Rattle.refc_runtime.proofs.GrowRuns.{call_runs}
use Rattle.refc_runtime.proofs.Grew.{growing_lines, Grew, grew, full}
use Rattle.heap_memory.proofs.ForCallers.{ends_low, open_at, Filled, fills}
use Rattle.refc_runtime.proofs.SourceReads.{IsOther, IsReadable, source_reads}

-- ---- a source's bytes are put behind a text

module _ (law : MemoryLaw) (live : Lives) (procs : List WordProc) (n : ℕ) (move_kept : IsKeptThere live procs moves_bytes) (g : Growing) (m : Memory)
    (may : MayGrow (own_data_at + n) g m) (c : Within) (m1 : Memory) (sized1 : Sized m1) (rest : IsBesideHeap (own_data_at + n) m m1) (text : List ℕ)
    (place : ℕ) (b : Bool) (f : IsFilled b (own_data_at + n) g text m1 place) (x : Source) (is : IsSource (own_data_at + n) g m x) (apart : IsOther g x)
    (all : length text + length (source_bytes x) ≤ g.wanted) (t from count d : ℕ) (k : List WordInstr) (v : Vars)
    (target_is : v t ≡ Some (place + length text)) (from_is : v from ≡ Some (source_at x)) (count_is : v count ≡ Some (length (source_bytes x)))
  where
    abbrev own : ℕ
    own = own_data_at + n

    abbrev bytes : List ℕ
    bytes = source_bytes x

    abbrev target : ℕ
    target = place + length text

    abbrev pub moving_lines : List WordInstr
    moving_lines = Argument 0 t ∷ Argument 1 from ∷ Argument 2 count ∷ Call d MOVE ∷ k

    abbrev l2 : List WordInstr
    l2 = Argument 1 from ∷ Argument 2 count ∷ Call d MOVE ∷ k

    abbrev l3 : List WordInstr
    l3 = Argument 2 count ∷ Call d MOVE ∷ k

    abbrev l4 : List WordInstr
    l4 = Call d MOVE ∷ k

    abbrev g3 : Vars
    g3 = put (put (put no_words 0 target) 1 (source_at x)) 2 (length bytes)

    readable : IsReadable own g m may m1 sized1 rest text place b f (source_at x) bytes
    readable = source_reads own g m may m1 sized1 rest text place b f x is apart all

    to_move : Runs live procs 3 (state_at c m1 moving_lines v no_words) (state_at c m1 l4 v g3)
    to_move =
        then_runs live procs (run_argument live procs c m1 l2 v no_words 0 t target_is) (then_runs live procs
        (run_argument live procs c m1 l3 v (put no_words 0 target) 1 from from_is)
        (run_argument live procs c m1 l4 v (put (put no_words 0 target) 1 (source_at x)) 2 count count_is))

    abbrev copying : Copying
    copying = record { to = target; from = source_at x; bytes = bytes }

    are : AreBytes bytes
    are = by x is
      where
        by : (y : Source) → IsSource own g m y → AreBytes (source_bytes y)
        by (Outside a xs) is = is.0
        by (Inside y count) is = is.2

    room : length text + length bytes ≤ room_of (block_then b g place f.payload)
    room = let r = f.room in omega (arith, r, all)

    moved : ComesBack live procs moves_bytes copying (state_at c m1 l4 v g3) d k
    moved =
        let low = ends_low own g may.unused may.present m1 sized1 text place b f in
        let r = room in
        let can = readable in
        move_kept copying (state_at c m1 l4 v g3) d k
        (record {
          next = refl;
          given = (got target (omega (arith, low, r)), (got (source_at x) can.small, (got (length bytes) (omega (arith, low, r)), tt)));
        }) sized1
        (record {
          are = are;
          here = can.here;
          may = open_at own g may.unused may.present m1 sized1 text place b f (length text) (length bytes) r;
          apart = can.apart;
          to_word = omega (arith, low, r);
          from_word = can.small;
        })

    pub record Moved : Type 0 where
      pub other : Memory
      pub word : ℕ
      pub lines : ℕ
      pub few : lines ≤ 3 + (MOVE_START + MOVE_BYTE * length bytes)
      pub regions : Sized other
      pub beside : IsBesideHeap own m other
      pub filled : IsFilled b own g (text ++ bytes) other place
      pub runs : Runs live procs lines (state_at c m1 moving_lines v no_words) (state_at (record c { awaits = d }) other k (put v d word) no_words)

    pub moves : Moved
    moves =
        let x = moved in
        let sized2 : Sized x.memory = law.regions (as_state m1) (as_state x.memory) sized1 x.leaves.rewritten.sizes in
        let y : Filled own g may.unused may.present text bytes m1 x.memory sized1 sized2 place x.leaves.rewritten x.leaves.there b
        = fills own g may.unused may.present text bytes m1 x.memory sized1 sized2 place x.leaves.rewritten x.leaves.there b f room in
        let few = x.few in
        record {
          other = x.memory;
          word = x.word;
          lines = 3 + x.lines;
          few = omega (arith, few);
          regions = sized2;
          beside = beside_more own m m1 x.memory rest y.rest;
          filled = y.filled;
          runs = then_runs live procs to_move (call_runs live procs moves_bytes copying c m1 v g3 d k refl refl x);
        }

-- ---- its lines

module _ (law : MemoryLaw) (live : Lives) (procs : List WordProc) (n : ℕ) (grow_kept : IsKeptThere live procs (grows (own_data_at + n)))
    (move_kept : IsKeptThere live procs moves_bytes) (u : Joining) (s : WordState) (to : ℕ) (rest : List WordInstr)
    (others : List WordProc) (stands : from_proc JOIN procs ≡ later n JOIN 4 6 join_lines ∷ others)
    (calling : IsCalling JOIN (source_at u.first ∷ length (source_bytes u.first) ∷ source_at u.second ∷ length (source_bytes u.second) ∷ []) to rest s)
    (sized : Sized s.memory) (may : MayJoin (own_data_at + n) u s.memory)
  where
    abbrev at : ℕ
    at = own_data_at + n

    abbrev grow : Growing
    grow = joining_growth u

    abbrev first : List ℕ
    first = source_bytes u.first

    abbrev second : List ℕ
    second = source_bytes u.second

    abbrev p : WordProc
    p = later n JOIN 4 6 join_lines

    abbrev c : ℕ → Within
    c awaits = record (inside s p to rest) { awaits = awaits }

    abbrev v0 : Vars
    v0 = params_of p s.frame.given

    abbrev v1 : Vars
    v1 = put v0 4 (computed operation.Add (length first) (length second))

    abbrev v2 : Vars
    v2 = put v1 5 0

    abbrev k0 : List WordInstr
    k0 = Return 4 ∷ []

    abbrev k1 : List WordInstr
    k1 = Argument 0 5 ∷ Argument 1 2 ∷ Argument 2 3 ∷ Call 5 MOVE ∷ k0

    abbrev k2 : List WordInstr
    k2 = Compute 5 operation.Add 4 1 ∷ k1

    abbrev k3 : List WordInstr
    k3 = Argument 0 4 ∷ Argument 1 0 ∷ Argument 2 1 ∷ Call 5 MOVE ∷ k2

    wanted_is : v2 4 ≡ Some grow.wanted
    wanted_is = let small = may.growth.word in got_sum (length first) (length second) (omega (arith, small))

    abbrev lines : List WordInstr
    lines = growing_lines law live procs n grow_kept (c 0) s.memory sized grow may.growth 5 5 4 4 k3 v2 refl refl wanted_is

    to_grow : Runs live procs 3 (calling_state live procs s to rest (joins at) u calling.next) (state_at (c 0) s.memory lines v2 no_words)
    to_grow =
        then_runs live procs (enters live procs s to rest n JOIN 4 6 join_lines others stands) (then_runs live procs
        (run_compute live procs (c 0) s.memory (Constant 5 0 ∷ lines) v0 no_words 4 operation.Add 1 3 calling.given.1.0 calling.given.1.1.1.0)
        (run_constant live procs (c 0) s.memory lines v1 no_words 5 0))

    abbrev Outcome : Type 0
    Outcome = Comes live procs (joins at) u s to rest (if may_grow grow then None else Some 1)

    is_other : (x : Source) → IsOther grow x
    is_other (Outside a _) = tt
    is_other (Inside x count) = λ y e. absurd (none-some y e)

    -- ---- behind the growth

    module _ (x : Grew law live procs n grow_kept (c 0) s.memory sized grow may.growth 5 5 4 4 k3 v2 refl refl wanted_is) (does : may_grow grow ≡ true) where
      abbrev b : Bool
      b = holds_it grow.present grow.wanted

      abbrev v3 : Vars
      v3 = put v2 4 x.place

      first_is : Moved law live procs n move_kept grow s.memory may.growth (c 4) x.other x.regions x.rest [] x.place b x.filled u.first may.first
          (is_other u.first) (omega arith) 4 0 1 5 k2 v3 (got x.place x.small ∙ ap Some (omega arith)) calling.given.0 calling.given.1.0
      first_is =
          moves law live procs n move_kept grow s.memory may.growth (c 4) x.other x.regions x.rest [] x.place b x.filled u.first may.first
          (is_other u.first) (omega arith) 4 0 1 5 k2 v3 (got x.place x.small ∙ ap Some (omega arith)) calling.given.0 calling.given.1.0

      abbrev v4 : ℕ → Vars
      v4 word = put v3 5 word

      abbrev v5 : ℕ → Vars
      v5 word = put (v4 word) 5 (computed operation.Add x.place (length first))

      behind_is : (word : ℕ) → v5 word 5 ≡ Some (x.place + length first)
      behind_is word =
          let low = ends_low at grow may.growth.unused may.growth.present x.other x.regions [] x.place b x.filled in
          let room = x.filled.room in
          got_sum x.place (length first) (omega (arith, low, room))

      is_joined : Outcome
      is_joined =
          let y = first_is in
          let z = moves law live procs n move_kept grow s.memory may.growth (c 5) y.other y.regions y.beside first x.place b y.filled u.second may.second
          (is_other u.second) (omega arith) 5 2 3 5 k0 (v5 y.word) (behind_is y.word) calling.given.1.1.0 calling.given.1.1.1.0 in
          let few1 = x.few in
          let few2 = y.few in
          let few3 = z.few in
          comes_back live procs s to rest (joins at) u calling.next (ap (λ b. if b then None else Some 1) does)
          (ap (λ b. if b then [] else writes Err (trap_line OutOfMemory)) does) x.place z.other
          (subst (λ b. GrowthLeaves b at s.memory z.other) (sym does) z.beside) z.filled
          (3 + (x.count + (y.lines + (1 + (z.lines + 1))))) (omega (arith, few1, few2, few3))
          (then_runs live procs to_grow (then_runs live procs x.runs (then_runs live procs y.runs (then_runs live procs
          (run_compute live procs (c 5) y.other k1 (v4 y.word) no_words 5 operation.Add 4 1 (got x.place x.small) calling.given.1.0)
          (then_runs live procs z.runs
          (returns_awaiting live procs s to rest 5 [] p refl z.other (put (v5 y.word) 5 z.word) 4 x.place (got x.place x.small)))))))

    pub join_comes : Outcome
    join_comes = elim (cases_Bool (may_grow grow)) [
      | inl does ↦ is_joined (grew law live procs n grow_kept (c 0) s.memory sized grow may.growth 5 5 4 4 k3 v2 refl refl wanted_is does) does
      | inr out ↦
          let x = full law live procs n grow_kept (c 0) s.memory sized grow may.growth 5 5 4 4 k3 v2 refl refl wanted_is out in
          let few = x.few in
          ends_behind live procs s to rest (joins at) u calling.next 1 (ap (λ b. if b then None else Some 1) out) s.memory
          (subst (λ b. GrowthLeaves b at s.memory s.memory) (sym out) refl) 3 x.count (omega (arith, few)) (state_at (c 0) s.memory lines v2 no_words)
          to_grow (writes Err (trap_line OutOfMemory)) (ap (λ b. if b then [] else writes Err (trap_line OutOfMemory)) out) x.stops
    ]
