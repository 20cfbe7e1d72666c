-- What the routine does that puts a text behind another.
use Rattle.std.proofs.Common.{◌≡◌, ◌≢◌, ℕ, ◌+◌, ◌^◌, ◌<◌, ◌≤◌, inl, inr, List, [], ◌∷◌, length, take, Option, Some, None}
use Rattle.std.proofs.Common.{Bool, true, false, refl, sym, ap, subst, ◌∙◌, arith, not}
use Rattle.std.specs.Prelude.{if◌then◌else◌}
use Rattle.std.proofs.lemmas.Bool.{eq-eqb, ne_eqb, cases_Bool, cases_eq}
use Rattle.std.proofs.lemmas.List.{length-take, take-take}
use Rattle.std.proofs.lemmas.Option.{none-some, same_Some}
use Rattle.arc_base.specs.Event.{writes}
use Rattle.arc_base.specs.declared.outside.Stream.TheVariants.{Err}
use Rattle.nim_program.specs.Traps.{OutOfMemory}
use Rattle.rv32_isa.specs.Machine.{Lives}
use Rattle.rv32_isa.specs.Image.{heap_at}
use Rattle.word_code.specs.declared.word.WordOperation.TheVariants as operation
use Rattle.word_code.specs.declared.word.Test.TheVariants as test
use Rattle.word_code.specs.declared.word.WordInstr.{WordInstr}
use Rattle.word_code.specs.declared.word.WordInstr.TheVariants.{Copy, Compute, Branch, Argument, Call, Return}
use Rattle.word_code.specs.declared.word.WordProc.{WordProc}
use Rattle.word_code.specs.Memory.{Memory, as_state, bytes_at, own_data_at}
use Rattle.word_code.specs.Words.{computed, holds, Vars, no_words, put, params_of, from_proc, WordState}
use Rattle.word_code.specs.RoutineTable.{Beside, IsRewritten, trap_line}
use Rattle.word_code.specs.Routines.{ComesBack, Comes, IsCalling, goes_on}
use Rattle.word_code.proofs.ForCallers.{MemoryLaw, Sized, Runs, then_runs, Within, at as state_at, run_label, run_copy, run_compute, run_argument}
use Rattle.word_code.proofs.ForCallers.{run_past, run_off, got, got_sum}
use Rattle.heap_memory.specs.declared.numbers.TheConstants.{MOVE}
use Rattle.heap_memory.specs.declared.numbers.TheConstants.{APPEND}
use Rattle.heap_memory.specs.HeapUse.{IsThere, AreDistant}
use Rattle.heap_memory.specs.HeapRoutines.{IsBesideHeap, IsKeptThere}
use Rattle.heap_memory.specs.TextRoutines.{AreBytes, Copying, moves_bytes}
use Rattle.heap_memory.specs.GrowRoutine.{Owned, Growing, place_of, holds_it, may_grow, IsPresent, kept_of, grows}
use Rattle.heap_memory.specs.AppendRoutine.{IsFilled, block_then, GrowthLeaves, Source, Outside, Inside, source_at}
use Rattle.heap_memory.specs.AppendRoutine.{source_bytes}
use Rattle.heap_memory.specs.AppendRoutine.{IsSource, Appending, MayAppend, appends}
use Rattle.refc_runtime.specs.LineCode.{put_behind_lines, append_lines}
use Rattle.heap_memory.proofs.ForCallers.{size_some}
use Rattle.refc_runtime.proofs.Calls.{later, inside, enters, returns_awaiting}
use Rattle.refc_runtime.proofs.Coming.{calling_state, comes_back, ends_behind}
use Rattle.refc_runtime.proofs.GrowFacts.{beside_more}
use Rattle.refc_runtime.proofs.GrowRuns.{call_runs}
use Rattle.refc_runtime.proofs.Grew.{growing_lines, Grew, grew, full}
use Rattle.heap_memory.proofs.ForCallers.{kept_length, ends_low, open_at, front_part}
use Rattle.heap_memory.proofs.ForCallers.{Filled, fills}
use Rattle.heap_memory.proofs.ForCallers.{is_there, distant}
use Rattle.refc_runtime.proofs.Pieces.{read_far}
use Rattle.refc_runtime.proofs.SourceReads.{IsOther, source_reads}

-- ---- what comes behind a text

module _ (own : ℕ) (u : Appending) (m : Memory) (sized : Sized m) (may : MayAppend own u m) where
  abbrev g : Growing
  g = u.growth

  abbrev bytes : List ℕ
  bytes = source_bytes u.source

  -- how long it is with what was kept
  total : g.kept + length bytes ≡ g.wanted
  total = sym may.wanted

  none_read : (at : ℕ) (xs : List ℕ) → at ≡ 0 → bytes_at m at (length xs) ≡ Some xs → length xs ≡ 0
  none_read at [] zero here = refl
  none_read at (x ∷ xs) zero here = let far = read_far m sized at (x ∷ xs) (omega arith) here in absurd (omega (arith, far, zero))

  there_of : (o : Owned) → g.stands o.identity ≡ Some o.block → IsThere m o.block
  there_of o is = is_there own g.classes g.stands m may.growth.heap o.identity o.block is sized

  -- it is the text itself, or begins it
  is_own : source_at u.source ≡ place_of g.present → (length bytes ≤ g.kept) × (bytes ≡ take (length bytes) (kept_of g.present g.kept))
  is_own same = by u.source may.source same g.present refl may.growth.present
    where
      empty : (xs : List ℕ) → length xs ≡ 0 → (ys : List ℕ) → xs ≡ take (length xs) ys
      empty [] e ys = refl
      empty (x ∷ xs) e ys = absurd (omega (arith, e))

      by : (x : Source) → IsSource own g m x → source_at x ≡ place_of g.present → (p : Option Owned) → g.present ≡ p → IsPresent g.stands g.kept p
          → (length (source_bytes x) ≤ g.kept) × (source_bytes x ≡ take (length (source_bytes x)) (kept_of g.present g.kept))
      by (Outside a xs) is e None none zero_kept =
          let z : length xs ≡ 0 = none_read a xs (e ∙ ap place_of none) is.2 in
          (omega (arith, z), empty xs z (kept_of g.present g.kept))
      by (Outside a xs) is e (Some y) some has =
          let there = there_of y has.0 in
          absurd (away there (e ∙ ap place_of some) is.3.heap)
        where
          away : IsThere m y.block → a ≡ y.block.place → Beside heap_at (length m.heap) a (length xs) → ⊥
          away there at_it (inl far) =
              let high = there.high in let w = there.whole in let z = there.sized in let some =
              size_some y.block.class in omega (arith, high, w, at_it, far, some)
          away there at_it (inr near) = let low = there.low in omega (arith, low, at_it, near)
      by (Inside x count) is e None none zero_kept =
          let low = (there_of x is.0).low in absurd (omega (arith, low, e, ap place_of none))
      by (Inside x count) is e (Some y) some has = elim (cases_eq x.identity y.identity) [
        | inl one ↦
            let block : x.block ≡ y.block = same_Some x.block y.block (sym is.0 ∙ ap g.stands one ∙ has.0) in
            let few = is.1 in
            let l : length (take count x.block.payload) ≡ count = length-take count x.block.payload ∙ omega (arith, few) in
            let less : count ≤ g.kept = is.3 y some one in (
              omega (arith, l, less),
              ap (λ b. take count b.payload) block ∙ sym (take-take count g.kept y.block.payload less)
                  ∙ ap (λ i. take i (take g.kept y.block.payload)) (sym l) ∙ ap (λ p. take (length (take count x.block.payload)) (kept_of p g.kept)) (sym some),
            )
        | inr two ↦ absurd (no_two (distant own g.classes g.stands m may.growth.heap x.identity y.identity x.block y.block is.0 has.0 two)
            (e ∙ ap place_of some))
      ]
        where
          no_two : AreDistant x.block y.block → x.block.place ≡ y.block.place → ⊥
          no_two (inl d) at_it = omega (arith, d, at_it)
          no_two (inr d) at_it = omega (arith, d, at_it)

  -- no block of the source is the text's
  no_same : (x : Owned) → g.stands x.identity ≡ Some x.block → x.block.place ≢ place_of g.present → (y : Owned) → g.present ≡ Some y
      → x.identity ≢ y.identity
  no_same x is apart y some one = by g.present some may.growth.present
    where
      by : (p : Option Owned) → p ≡ Some y → IsPresent g.stands g.kept p → ⊥
      by None same has = none-some y same
      by (Some z) same has =
          let same_y : z ≡ y = same_Some z y same in
          let stands : g.stands x.identity ≡ Some y.block
          = ap g.stands (one ∙ ap (λ q. q.identity) (sym same_y)) ∙ has.0 ∙ ap (λ q. Some q.block) same_y in
          apart (ap (λ b. b.place) (same_Some x.block y.block (sym is ∙ stands)) ∙ ap place_of (sym some))

  module _ (m1 : Memory) (sized1 : Sized m1) (rest : IsBesideHeap own m m1) (place : ℕ) (b : Bool)
      (f : IsFilled b own g (kept_of g.present g.kept) m1 place)
    where
      abbrev block : Option Owned
      block = block_then b g place f.payload

      kept_long : length (kept_of g.present g.kept) ≡ g.kept
      kept_long = kept_length own g may.growth.unused may.growth.present

      -- where its characters are to be read now
      pub record Readable (from : ℕ) : Type 0 where
        pub here : bytes_at m1 from (length bytes) ≡ Some bytes
        pub small : from < 2 ^ 32
        pub apart : Beside (place + g.kept) (length bytes) from (length bytes)

      own_readable : source_at u.source ≡ place_of g.present → Readable place
      own_readable same =
          let o = is_own same in
          let few = o.0 in
          let room = f.room in
          let t = total in
          let l = kept_long in
          let low = ends_low own g may.growth.unused may.growth.present m1 sized1 (kept_of g.present g.kept) place b f in
          record {
            here = front_part own g may.growth.unused may.growth.present m1 sized1 (kept_of g.present g.kept) place b f (omega (arith, room, t, l))
                (length bytes) (omega (arith, few, l))
                ∙ ap Some (sym o.1);
            small = omega (arith, low);
            apart = inr (omega (arith, few));
          }

      other_readable : source_at u.source ≢ place_of g.present → Readable (source_at u.source)
      other_readable differ =
          let t = total in
          let l = kept_long in
          let x = source_reads own g m may.growth m1 sized1 rest (kept_of g.present g.kept) place b f u.source may.source (other u.source may.source differ)
          (omega (arith, t, l)) in
          record {
            here = x.here;
            small = x.small;
            apart = subst (λ i. Beside (place + i) (length bytes) (source_at u.source) (length bytes)) l x.apart;
          }
        where
          other : (x : Source) → IsSource own g m x → source_at x ≢ place_of g.present → IsOther g x
          other (Outside a xs) is apart = tt
          other (Inside x count) is apart = no_same x is.0 apart

-- ---- its lines

module _ (law : MemoryLaw) (live : Lives) (procs : List WordProc) (n : ℕ) (grow_kept : IsKeptThere live procs (grows (own_data_at + n)))
    (move_kept : IsKeptThere live procs moves_bytes) (u : Appending) (s : WordState) (to : ℕ) (rest : List WordInstr)
    (others : List WordProc) (stands : from_proc APPEND procs ≡ later n APPEND 4 6 append_lines ∷ others)
    (calling : IsCalling APPEND (place_of u.growth.present ∷ u.growth.kept ∷ source_at u.source ∷ length (source_bytes u.source) ∷ []) to rest s)
    (sized : Sized s.memory) (may : MayAppend (own_data_at + n) u s.memory)
  where
    abbrev at : ℕ
    at = own_data_at + n

    abbrev grow : Growing
    grow = u.growth

    abbrev more : List ℕ
    more = source_bytes u.source

    abbrev p : WordProc
    p = later n APPEND 4 6 append_lines

    abbrev c : ℕ → Within
    c awaits = record (inside s p to rest) { awaits = awaits }

    abbrev v0 : Vars
    v0 = params_of p s.frame.given

    abbrev v1 : Vars
    v1 = put v0 5 (computed operation.Add grow.kept (length more))

    abbrev k1 : List WordInstr
    k1 = Branch test.Unequal 0 2 0 ∷ Copy 2 4 ∷ put_behind_lines

    wanted_is : v1 5 ≡ Some grow.wanted
    wanted_is =
        let w = may.wanted in
        let small = may.growth.word in
        got_sum grow.kept (length more) (omega (arith, w, small)) ∙ ap Some (sym w)

    abbrev lines : List WordInstr
    lines = growing_lines law live procs n grow_kept (c 0) s.memory sized grow may.growth 0 1 5 4 k1 v1 calling.given.0 calling.given.1.0 wanted_is

    to_grow : Runs live procs 2 (calling_state live procs s to rest (appends at) u calling.next) (state_at (c 0) s.memory lines v1 no_words)
    to_grow =
        then_runs live procs (enters live procs s to rest n APPEND 4 6 append_lines others stands)
        (run_compute live procs (c 0) s.memory lines v0 no_words 5 operation.Add 1 3 calling.given.1.0 calling.given.1.1.1.0)

    abbrev Outcome : Type 0
    Outcome = Comes live procs (appends at) u s to rest (if may_grow grow then None else Some 1)

    -- ---- behind the growth

    module _ (x : Grew law live procs n grow_kept (c 0) s.memory sized grow may.growth 0 1 5 4 k1 v1 calling.given.0 calling.given.1.0 wanted_is) where
      abbrev v2 : Vars
      v2 = put v1 4 x.place

      four_is : v2 4 ≡ Some x.place
      four_is = got x.place x.small

      -- the address of what comes is in 2
      record Ready (from : ℕ) : Type 0 where
        vars : Vars
        one_is : vars 1 ≡ Some grow.kept
        two_is : vars 2 ≡ Some from
        three_is : vars 3 ≡ Some (length more)
        new_is : vars 4 ≡ Some x.place
        count : ℕ
        few : count ≤ 2
        runs : Runs live procs count (state_at (c 4) x.other k1 v2 no_words) (state_at (c 4) x.other put_behind_lines vars no_words)

      ready_own : source_at u.source ≡ place_of grow.present → Ready x.place
      ready_own same =
          let past : holds test.Unequal (place_of grow.present) (source_at u.source) ≡ false
          = ap not (eq-eqb (place_of grow.present) (source_at u.source) (sym same)) in
          let r1 : Runs live procs 1 (state_at (c 4) x.other k1 v2 no_words) (state_at (c 4) x.other (Copy 2 4 ∷ put_behind_lines) v2 no_words)
          = run_past live procs (c 4) x.other (Copy 2 4 ∷ put_behind_lines) v2 no_words test.Unequal 0 2 0 calling.given.0 calling.given.1.1.0 past in
          record {
            vars = put v2 2 x.place;
            one_is = calling.given.1.0;
            two_is = got x.place x.small;
            three_is = calling.given.1.1.1.0;
            new_is = four_is;
            count = 2;
            few = omega arith;
            runs = then_runs live procs r1 (run_copy live procs (c 4) x.other put_behind_lines v2 no_words 2 4 four_is);
          }

      ready_other : source_at u.source ≢ place_of grow.present → Ready (source_at u.source)
      ready_other differ =
          let off : holds test.Unequal (place_of grow.present) (source_at u.source) ≡ true
          = ap not (ne_eqb (place_of grow.present) (source_at u.source) (λ e. differ (sym e))) in
          record {
            vars = v2;
            one_is = calling.given.1.0;
            two_is = calling.given.1.1.0;
            three_is = calling.given.1.1.1.0;
            new_is = four_is;
            count = 1;
            few = omega arith;
            runs = run_off live procs (c 4) x.other (Copy 2 4 ∷ put_behind_lines) v2 no_words test.Unequal 0 2 0 put_behind_lines calling.given.0
                calling.given.1.1.0 off refl;
          }

      abbrev Can : ℕ → Type 0
      Can from = Readable at u s.memory sized may x.other x.regions x.rest x.place (holds_it grow.present grow.wanted) x.filled from

      -- what comes is copied
      module _ (does : may_grow grow ≡ true) (from : ℕ) (r : Ready from) (can : Can from) where
        abbrev j2 : List WordInstr
        j2 = Compute 5 operation.Add 4 1 ∷ Argument 0 5 ∷ Argument 1 2 ∷ Argument 2 3 ∷ Call 5 MOVE ∷ Return 4 ∷ []

        abbrev j3 : List WordInstr
        j3 = Argument 0 5 ∷ Argument 1 2 ∷ Argument 2 3 ∷ Call 5 MOVE ∷ Return 4 ∷ []

        abbrev j4 : List WordInstr
        j4 = Argument 1 2 ∷ Argument 2 3 ∷ Call 5 MOVE ∷ Return 4 ∷ []

        abbrev j5 : List WordInstr
        j5 = Argument 2 3 ∷ Call 5 MOVE ∷ Return 4 ∷ []

        abbrev j6 : List WordInstr
        j6 = Call 5 MOVE ∷ Return 4 ∷ []

        abbrev target : ℕ
        target = x.place + grow.kept

        ends : target + length more < 2 ^ 32
        ends =
            let low = ends_low at grow may.growth.unused may.growth.present x.other x.regions (kept_of grow.present grow.kept) x.place
            (holds_it grow.present grow.wanted) x.filled in
            let room = x.filled.room in
            let w = may.wanted in
            omega (arith, low, room, w)

        abbrev w1 : Vars
        w1 = put r.vars 5 (computed operation.Add x.place grow.kept)

        five_is : w1 5 ≡ Some target
        five_is = let e = ends in got_sum x.place grow.kept (omega (arith, e))

        abbrev g1 : Vars
        g1 = put no_words 0 target

        abbrev g2 : Vars
        g2 = put g1 1 from

        abbrev g3 : Vars
        g3 = put g2 2 (length more)

        to_move : Runs live procs 5 (state_at (c 4) x.other put_behind_lines r.vars no_words) (state_at (c 4) x.other j6 w1 g3)
        to_move =
            then_runs live procs (run_label live procs (c 4) x.other j2 r.vars no_words 0) (then_runs live procs
            (run_compute live procs (c 4) x.other j3 r.vars no_words 5 operation.Add 4 1 r.new_is r.one_is) (then_runs live procs
            (run_argument live procs (c 4) x.other j4 w1 no_words 0 5 five_is) (then_runs live procs
            (run_argument live procs (c 4) x.other j5 w1 g1 1 2 r.two_is) (run_argument live procs (c 4) x.other j6 w1 g2 2 3 r.three_is))))

        abbrev copying : Copying
        copying = record { to = target; from = from; bytes = more }

        are : AreBytes more
        are = by u.source may.source
          where
            by : (y : Source) → IsSource at grow s.memory y → AreBytes (source_bytes y)
            by (Outside a xs) is = is.0
            by (Inside y count) is = is.2

        moved : ComesBack live procs moves_bytes copying (state_at (c 4) x.other j6 w1 g3) 5 (Return 4 ∷ [])
        moved =
            let e = ends in
            let room = x.filled.room in
            let w = may.wanted in
            move_kept copying (state_at (c 4) x.other j6 w1 g3) 5 (Return 4 ∷ [])
            (record { next = refl; given = (got target (omega (arith, e)), (got from can.small, (got (length more) (omega (arith, e)), tt))) }) x.regions
            (record {
              are = are;
              here = can.here;
              may = open_at at grow may.growth.unused may.growth.present x.other x.regions (kept_of grow.present grow.kept) x.place
                  (holds_it grow.present grow.wanted) x.filled grow.kept (length more) (omega (arith, room, w));
              apart = can.apart;
              to_word = omega (arith, e);
              from_word = can.small;
            })

        sized2 : Sized moved.memory
        sized2 = law.regions (as_state x.other) (as_state moved.memory) x.regions moved.leaves.rewritten.sizes

        filled : Filled at grow may.growth.unused may.growth.present (kept_of grow.present grow.kept) more x.other moved.memory x.regions sized2 x.place
            (subst (λ i. IsRewritten x.other moved.memory (x.place + i) (length more))
            (sym (kept_length at grow may.growth.unused may.growth.present)) moved.leaves.rewritten)
            (ap (λ i. bytes_at moved.memory (x.place + i) (length more)) (kept_length at grow may.growth.unused may.growth.present) ∙ moved.leaves.there)
            (holds_it grow.present grow.wanted)
        filled =
            let room = x.filled.room in
            let w = may.wanted in
            let l = kept_length at grow may.growth.unused may.growth.present in
            fills at grow may.growth.unused may.growth.present (kept_of grow.present grow.kept) more x.other moved.memory x.regions sized2 x.place
            (subst (λ i. IsRewritten x.other moved.memory (x.place + i) (length more))
            (sym (kept_length at grow may.growth.unused may.growth.present)) moved.leaves.rewritten)
            (ap (λ i. bytes_at moved.memory (x.place + i) (length more)) (kept_length at grow may.growth.unused may.growth.present) ∙ moved.leaves.there)
            (holds_it grow.present grow.wanted) x.filled (omega (arith, room, w, l))

        is_appended : Outcome
        is_appended =
            let few1 = x.few in
            let few2 = r.few in
            let few3 = moved.few in
            let called = call_runs live procs moves_bytes copying (c 4) x.other w1 g3 5 (Return 4 ∷ []) refl refl moved in
            let last : Runs live procs 1 (state_at (c 5) moved.memory (Return 4 ∷ []) (put w1 5 moved.word) no_words)
            (goes_on s to x.place rest moved.memory s.input)
            = returns_awaiting live procs s to rest 5 [] p refl moved.memory (put w1 5 moved.word) 4 x.place r.new_is in
            comes_back live procs s to rest (appends at) u calling.next (ap (λ b. if b then None else Some 1) does)
            (ap (λ b. if b then [] else writes Err (trap_line OutOfMemory)) does) x.place moved.memory
            (subst (λ b. GrowthLeaves b at s.memory moved.memory) (sym does) (beside_more at s.memory x.other moved.memory x.rest filled.rest)) filled.filled
            (2 + (x.count + (r.count + (5 + (moved.lines + 1))))) (omega (arith, few1, few2, few3))
            (then_runs live procs to_grow (then_runs live procs x.runs (then_runs live procs r.runs (then_runs live procs to_move
            (then_runs live procs called last)))))

      behind_growth : may_grow grow ≡ true → Outcome
      behind_growth does = elim (cases_eq (source_at u.source) (place_of grow.present)) [
        | inl same ↦
            is_appended does x.place (ready_own same)
            (own_readable at u s.memory sized may x.other x.regions x.rest x.place (holds_it grow.present grow.wanted) x.filled same)
        | inr differ ↦
            is_appended does (source_at u.source) (ready_other differ)
            (other_readable at u s.memory sized may x.other x.regions x.rest x.place (holds_it grow.present grow.wanted) x.filled differ)
      ]

    pub append_comes : Outcome
    append_comes = elim (cases_Bool (may_grow grow)) [
      | inl does ↦
          behind_growth
          (grew law live procs n grow_kept (c 0) s.memory sized grow may.growth 0 1 5 4 k1 v1 calling.given.0 calling.given.1.0 wanted_is does) does
      | inr out ↦
          let x = full law live procs n grow_kept (c 0) s.memory sized grow may.growth 0 1 5 4 k1 v1 calling.given.0 calling.given.1.0 wanted_is out in
          let few = x.few in
          ends_behind live procs s to rest (appends at) u calling.next 1 (ap (λ b. if b then None else Some 1) out) s.memory
          (subst (λ b. GrowthLeaves b at s.memory s.memory) (sym out) refl) 2 x.count (omega (arith, few)) (state_at (c 0) s.memory lines v1 no_words)
          to_grow (writes Err (trap_line OutOfMemory)) (ap (λ b. if b then [] else writes Err (trap_line OutOfMemory)) out) x.stops
    ]
