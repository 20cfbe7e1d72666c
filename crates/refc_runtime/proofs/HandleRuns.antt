-- What the routines on handles do.
use Rattle.std.proofs.Common.{◌≡◌, ℕ, ◌+◌, ◌^◌, ◌<◌, ◌≤◌, inl, inr, List, [], ◌∷◌, ◌++◌, length, Option, Some, None, true, false}
use Rattle.std.proofs.Common.{refl, sym, ap, subst, ◌∙◌, arith, append-nil}
use Rattle.std.specs.Prelude.{if◌then◌else◌}
use Rattle.std.proofs.lemmas.Bool.{cases_Bool}
use Rattle.arc_base.specs.Event.{writes}
use Rattle.arc_base.specs.declared.outside.Stream.TheVariants.{Out, Err}
use Rattle.nim_program.specs.Traps.{OutOfMemory}
use Rattle.rv32_isa.specs.Machine.{Lives}
use Rattle.word_code.specs.declared.word.WordOperation.TheVariants as operation
use Rattle.word_code.specs.declared.word.WordInstr.{WordInstr}
use Rattle.word_code.specs.declared.word.WordInstr.TheVariants.{Constant, Copy, Compute, Argument, Call, Return, Write}
use Rattle.word_code.specs.declared.word.WordProc.{WordProc}
use Rattle.word_code.specs.Memory.{Memory, as_state, own_data_at}
use Rattle.word_code.specs.Words.{computed, Vars, no_words, put, params_of, from_proc, WordState, step}
use Rattle.word_code.specs.RoutineTable.{trap_line}
use Rattle.word_code.specs.Routines.{Routine, ComesBack, EndsProgram, Comes, IsCalling, goes_on}
use Rattle.word_code.proofs.ForCallers.{MemoryLaw, Sized, AlwaysSteps, AlwaysStops, on, Runs, then_runs, Within, at as state_at}
use Rattle.word_code.proofs.ForCallers.{run_constant, run_copy, run_compute, run_argument, run_write, got, got_sum}
use Rattle.heap_memory.specs.declared.numbers.TheConstants.{ORDER, APPEND, RESIZE}
use Rattle.heap_memory.specs.declared.numbers.TheConstants.{TEXT_ORDER, TEXT_WRITE, TEXT_COPY, TEXT_APPEND, TEXT_RESIZE, HANDLE_LINES}
use Rattle.heap_memory.specs.HeapState.{IsHeap}
use Rattle.heap_memory.specs.HeapRoutines.{IsBesideHeap, IsKeptThere}
use Rattle.heap_memory.specs.TextRoutines.{Comparing, orders}
use Rattle.heap_memory.specs.GrowRoutine.{Owned, Growing, place_of, holds_it, may_grow, IsPresent, MayGrow}
use Rattle.heap_memory.specs.AppendRoutine.{IsFilled, GrowthLeaves, Source, Outside, Inside, source_at, source_bytes, IsSource, Appending}
use Rattle.heap_memory.specs.AppendRoutine.{appended, MayAppend, appends, resizes}
use Rattle.heap_memory.specs.HandleRoutines.{MayHave, Ordering, orders_texts, Writing, writes_text, Putting, IsBesideData, AreBlocksKept}
use Rattle.heap_memory.specs.HandleRoutines.{PutLeaves, puts}
use Rattle.heap_memory.specs.HandleRoutines.{AppendingText, appended_text, appends_text, copies_text, ResizingText, resized_text, resizes_text}
use Rattle.heap_memory.proofs.ForCallers.{is_there}
use Rattle.refc_runtime.specs.HandleCode.{put_handle_lines, put_last_lines, append_behind_lines, text_append_lines, text_copy_lines, text_resize_lines}
use Rattle.refc_runtime.specs.HandleCode.{text_order_lines}
use Rattle.refc_runtime.specs.HandleCode.{handle_lines, text_write_lines}
use Rattle.refc_runtime.proofs.Calls.{later, inside, enters, returns_awaiting, from_call}
use Rattle.refc_runtime.proofs.Coming.{calling_state, comes_back, ends_behind}
use Rattle.heap_memory.proofs.ForCallers.{ends_low}
use Rattle.refc_runtime.proofs.GrowRuns.{call_runs}
use Rattle.refc_runtime.proofs.Pieces.{range_small}
use Rattle.heap_memory.proofs.ForCallers.{may_still, data_same, data_more, with_handle, handle_put}
use Rattle.refc_runtime.proofs.HandleMemory.{run_handle, run_put_handle}

-- ---- texts are compared

module _ (live : Lives) (procs : List WordProc) (n : ℕ) (order_kept : IsKeptThere live procs orders) (u : Ordering) (s : WordState) (to : ℕ)
    (rest : List WordInstr) (others : List WordProc) (stands : from_proc TEXT_ORDER procs ≡ later n TEXT_ORDER 2 6 text_order_lines ∷ others)
    (calling : IsCalling TEXT_ORDER (u.left ∷ u.right ∷ []) to rest s) (sized : Sized s.memory) (may : orders_texts.may u s.memory)
  where
    abbrev t : Comparing
    t = u.texts

    abbrev order_proc : WordProc
    order_proc = later n TEXT_ORDER 2 6 text_order_lines

    abbrev oc : ℕ → Within
    oc awaits = record (inside s order_proc to rest) { awaits = awaits }

    abbrev o0 : Vars
    o0 = params_of order_proc s.frame.given

    abbrev o1 : Vars
    o1 = put (put (put o0 2 (length t.second)) 3 (u.right + 4)) 3 t.right

    abbrev o2 : Vars
    o2 = put (put (put o1 4 (length t.first)) 5 (u.left + 4)) 5 t.left

    abbrev given_lines : List WordInstr
    given_lines = Argument 0 5 ∷ Argument 1 4 ∷ Argument 2 3 ∷ Argument 3 2 ∷ Call 3 ORDER ∷ Return 3 ∷ []

    abbrev i1 : List WordInstr
    i1 = Argument 1 4 ∷ Argument 2 3 ∷ Argument 3 2 ∷ Call 3 ORDER ∷ Return 3 ∷ []

    abbrev i2 : List WordInstr
    i2 = Argument 2 3 ∷ Argument 3 2 ∷ Call 3 ORDER ∷ Return 3 ∷ []

    abbrev i3 : List WordInstr
    i3 = Argument 3 2 ∷ Call 3 ORDER ∷ Return 3 ∷ []

    abbrev i4 : List WordInstr
    i4 = Call 3 ORDER ∷ Return 3 ∷ []

    abbrev g : Vars
    g = put (put (put (put no_words 0 t.left) 1 (length t.first)) 2 t.right) 3 (length t.second)

    first_small : length t.first < 2 ^ 32
    first_small = let r = range_small s.memory sized t.left t.first may.texts.left_word may.texts.first_here in omega (arith, r)

    second_small : length t.second < 2 ^ 32
    second_small = let r = range_small s.memory sized t.right t.second may.texts.right_word may.texts.second_here in omega (arith, r)

    abbrev at_order : WordState
    at_order = state_at (oc 0) s.memory i4 o2 g

    to_order : Runs live procs 11 (calling_state live procs s to rest orders_texts u calling.next) at_order
    to_order =
        then_runs live procs (enters live procs s to rest n TEXT_ORDER 2 6 text_order_lines others stands) (then_runs live procs
        (run_handle live procs (oc 0) s.memory sized (handle_lines 4 5 0 given_lines) o0 no_words u.right (length t.second) t.right may.right 2 3 1
        calling.given.1.0 calling.given.1.0 refl) (then_runs live procs
        (run_handle live procs (oc 0) s.memory sized given_lines o1 no_words u.left (length t.first) t.left may.left 4 5 0 calling.given.0 calling.given.0 refl)
        (then_runs live procs
        (run_argument live procs (oc 0) s.memory i1 o2 no_words 0 5 (got t.left may.texts.left_word)) (then_runs live procs
        (run_argument live procs (oc 0) s.memory i2 o2 (put no_words 0 t.left) 1 4 (got (length t.first) first_small)) (then_runs live procs
        (run_argument live procs (oc 0) s.memory i3 o2 (put (put no_words 0 t.left) 1 (length t.first)) 2 3 (got t.right may.texts.right_word))
        (run_argument live procs (oc 0) s.memory i4 o2 (put (put (put no_words 0 t.left) 1 (length t.first)) 2 t.right) 3 2
        (got (length t.second) second_small)))))))

    ordered : ComesBack live procs orders t at_order 3 (Return 3 ∷ [])
    ordered =
        order_kept t at_order 3 (Return 3 ∷ [])
        (record {
          next = refl;
          given = (
            got t.left may.texts.left_word,
            (got (length t.first) first_small, (got t.right may.texts.right_word, (got (length t.second) second_small, tt))),
          );
        }) sized may.texts

    pub text_order_comes : Comes live procs orders_texts u s to rest None
    text_order_comes =
        let few = ordered.few in
        comes_back live procs s to rest orders_texts u calling.next refl refl ordered.word ordered.memory ordered.leaves
        ordered.gives (11 + (ordered.lines + 1)) (omega (arith, few))
        (then_runs live procs to_order (then_runs live procs
        (call_runs live procs orders t (oc 0) s.memory o2 g 3 (Return 3 ∷ []) refl refl ordered)
        (returns_awaiting live procs s to rest 3 [] order_proc refl ordered.memory (put o2 3 ordered.word) 3 ordered.word
        (got ordered.word ordered.gives.0))))

-- ---- a text is written

module _ (live : Lives) (procs : List WordProc) (n : ℕ) (u : Writing) (s : WordState) (to : ℕ) (rest : List WordInstr) (others : List WordProc)
    (stands : from_proc TEXT_WRITE procs ≡ later n TEXT_WRITE 1 6 text_write_lines ∷ others) (calling : IsCalling TEXT_WRITE (u.at ∷ []) to rest s)
    (sized : Sized s.memory) (may : writes_text.may u s.memory)
  where
    abbrev write_proc : WordProc
    write_proc = later n TEXT_WRITE 1 6 text_write_lines

    abbrev wc : Within
    wc = inside s write_proc to rest

    abbrev w0 : Vars
    w0 = params_of write_proc s.frame.given

    abbrev w1 : Vars
    w1 = put (put (put w0 4 (length u.text)) 5 (u.at + 4)) 5 u.place

    place_is : w1 5 ≡ Some u.place
    place_is = got u.place may.small

    long_is : w1 4 ≡ Some (length u.text)
    long_is = let r = range_small s.memory sized u.place u.text may.small may.here in got (length u.text) (omega (arith, r))

    to_write : Runs live procs 4 (calling_state live procs s to rest writes_text u calling.next)
        (state_at wc s.memory (Write Out 5 4 ∷ Return 5 ∷ []) w1 no_words)
    to_write =
        then_runs live procs (enters live procs s to rest n TEXT_WRITE 1 6 text_write_lines others stands)
        (run_handle live procs wc s.memory sized (Write Out 5 4 ∷ Return 5 ∷ []) w0 no_words u.at (length u.text) u.place may.handle 4 5 0
        calling.given.0 calling.given.0 refl)

    written : AlwaysSteps (step live procs) 1 (state_at wc s.memory (Write Out 5 4 ∷ Return 5 ∷ []) w1 no_words) (writes Out u.text) 1
        (state_at wc s.memory (Return 5 ∷ []) w1 no_words)
    written = run_write live procs wc s.memory (Return 5 ∷ []) w1 no_words Out 5 4 u.text place_is long_is may.here

    back : Runs live procs 1 (state_at wc s.memory (Return 5 ∷ []) w1 no_words) (goes_on s to u.place rest s.memory s.input)
    back = returns_awaiting live procs s to rest 0 [] write_proc refl s.memory w1 5 u.place place_is

    all : AlwaysSteps (step live procs) 6 (calling_state live procs s to rest writes_text u calling.next) (writes Out u.text ++ []) 6
        (goes_on s to u.place rest s.memory s.input)
    all = on (step live procs) to_write (on (step live procs) written back)

    pub text_write_comes : Comes live procs writes_text u s to rest None
    text_write_comes = record {
      memory = s.memory;
      word = u.place;
      leaves = refl;
      gives = tt;
      lines = 6;
      few = omega arith;
      steps = (from_call live procs s to rest TEXT_WRITE (writes Out u.text) 6 6 (goes_on s to u.place rest s.memory s.input) calling.next
          (subst (λ es. AlwaysSteps (step live procs) 6 (calling_state live procs s to rest writes_text u calling.next) es 6
          (goes_on s to u.place rest s.memory s.input)) (append-nil (writes Out u.text)) all)).by;
    }

-- ---- contents are put

-- Some routine is called by which a block grows and gets bytes, and gives the block's place: it ends as the growth does, and leaves these bytes.
pub record Fills (at : ℕ) (q : Putting) (most : ℕ) (m : Memory) (r : Routine) (call : r.Use) : Type 0 where
  pub shown : r.shows call ≡ (if may_grow q.growth then [] else writes Err (trap_line OutOfMemory))
  pub ended : r.ends call ≡ (if may_grow q.growth then None else Some 1)
  pub input : (input : List ℕ) → r.reads call input ≡ input
  pub left : (other : Memory) → r.leaves call m other → GrowthLeaves (may_grow q.growth) at m other
  pub filled : (other : Memory) (word : ℕ) → r.leaves call m other → r.gives call other word
      → IsFilled (holds_it q.growth.present q.growth.wanted) at q.growth q.bytes other word
  pub few : r.lines call ≤ most

-- memory before that call: nothing beside the heap and the data is other, and the same blocks stand
pub record IsReady (at : ℕ) (g : Growing) (m before : Memory) : Type 0 where
  pub regions : Sized before
  pub rest : IsBesideData at m before
  pub heap : IsHeap at g.classes g.stands before

pub at_once : (at : ℕ) (g : Growing) (m : Memory) → Sized m → IsHeap at g.classes g.stands m → IsReady at g m m
at_once at g m sized heap = record { regions = sized; rest = data_same at m; heap = heap }

module _ (law : MemoryLaw) (live : Lives) (procs : List WordProc) (n : ℕ) (number : ℕ) (Use : Type 0) (takes : Use → List ℕ)
    (may_call : Use → Memory → Type 0) (putting : Use → Putting) (word_for : Use → ℕ → ℕ) (lines : Use → ℕ) (u : Use) (s : WordState) (to : ℕ)
    (rest : List WordInstr) (next : s.frame.left ≡ Call to number ∷ rest) (m0 : Memory) (awaits0 : ℕ)
    (ready : IsReady (own_data_at + n) (putting u).growth s.memory m0) (p : WordProc)
    (unused : (putting u).growth.stands (putting u).growth.identity ≡ None)
    (present : IsPresent (putting u).growth.stands (putting u).growth.kept (putting u).growth.present)
    (has : may_grow (putting u).growth ≡ true → MayHave s.memory (putting u).to) (small : (putting u).length < 2 ^ 32)
    (r : Routine) (call : r.Use) (v g : Vars) (e0 : v 0 ≡ Some (putting u).to) (e2 : v 2 ≡ Some (putting u).length) (l most e : ℕ)
    (fills : Fills (own_data_at + n) (putting u) most m0 r call) (few : l + (most + (3 + e)) ≤ lines u)
  where
    abbrev row : Routine
    row = puts (own_data_at + n) number Use takes may_call putting word_for lines

    abbrev q : Putting
    q = putting u

    abbrev at : ℕ
    at = own_data_at + n

    abbrev pc : ℕ → Within
    pc awaits = record (inside s p to rest) { awaits = awaits }

    -- how it ends behind that
    module _ (k : List WordInstr)
        (final : (m : Memory) (place : ℕ) → place + q.growth.wanted < 2 ^ 32
        → Runs live procs e (state_at (pc 3) m k (put (put v 3 place) 4 (q.to + 4)) no_words) (goes_on s to (word_for u place) rest m s.input))
      where
        abbrev before : WordState
        before = state_at (pc awaits0) m0 (Call 3 r.number ∷ put_handle_lines k) v g

        module _ (to_call : Runs live procs l (calling_state live procs s to rest row u next) before)
            (comes : Comes live procs r call before 3 (put_handle_lines k) (r.ends call))
          where
            puts_them : may_grow q.growth ≡ true → Comes live procs row u s to rest (row.ends u)
            puts_them does =
                let x : ComesBack live procs r call before 3 (put_handle_lines k)
                = subst (λ o. Comes live procs r call before 3 (put_handle_lines k) o) (fills.ended ∙ ap (λ b. if b then None else Some 1) does) comes in
                let silent : r.shows call ≡ [] = fills.shown ∙ ap (λ b. if b then [] else writes Err (trap_line OutOfMemory)) does in
                let rest_then : IsBesideHeap at m0 x.memory
                = subst (λ b. GrowthLeaves b at m0 x.memory) does (fills.left x.memory x.leaves) in
                let rest_is : IsBesideData at s.memory x.memory = data_more at s.memory m0 x.memory ready.rest rest_then in
                let sized1 : Sized x.memory = law.regions (as_state m0) (as_state x.memory) ready.regions rest_then.sizes in
                let f = fills.filled x.memory x.word x.leaves x.gives in
                let low = ends_low at q.growth unused present x.memory sized1 q.bytes x.word (holds_it q.growth.present q.growth.wanted) f in
                let room = f.room in
                let low_word : x.word < 2 ^ 32 = omega (arith, low) in
                let low_end : x.word + q.growth.wanted < 2 ^ 32 = omega (arith, low, room) in
                let has1 : MayHave x.memory q.to = may_still law s.memory x.memory q.to rest_is.sizes (has does) in
                let done = handle_put law x.memory sized1 q.to q.length x.word has1 small low_word in
                let few0 = fills.few in
                let few1 = x.few in
                comes_back live procs s to rest row u next (ap (λ b. if b then None else Some 1) does)
                (ap (λ b. if b then [] else writes Err (trap_line OutOfMemory)) does) (word_for u x.word)
                (with_handle law x.memory sized1 q.to q.length x.word has1 small low_word)
                (subst (λ b. PutLeaves b at q s.memory (with_handle law x.memory sized1 q.to q.length x.word has1 small low_word)) (sym does)
                (record { middle = x.memory; place = x.word; rest = rest_is; filled = f; put = done }))
                (record { place = x.word; handle = done.handle; is = refl }) (l + (x.lines + (3 + e))) (omega (arith, few, few0, few1))
                (then_runs live procs to_call (then_runs live procs
                (call_runs live procs r call (pc awaits0) m0 v g 3 (put_handle_lines k) silent (fills.input s.input) x) (then_runs live procs
                (run_put_handle law x.memory sized1 q.to q.length x.word has1 small low_word live procs (pc 3) k (put v 3 x.word) e0 e2 (got x.word low_word))
                (final (with_handle law x.memory sized1 q.to q.length x.word has1 small low_word) x.word low_end))))

            is_full : may_grow q.growth ≡ false → Comes live procs row u s to rest (row.ends u)
            is_full out =
                let x : EndsProgram live procs r call before 1
                = subst (λ o. Comes live procs r call before 3 (put_handle_lines k) o) (fills.ended ∙ ap (λ b. if b then None else Some 1) out) comes in
                let same : x.memory ≡ m0 = subst (λ b. GrowthLeaves b at m0 x.memory) out (fills.left x.memory x.leaves) in
                let shown : r.shows call ≡ writes Err (trap_line OutOfMemory)
                = fills.shown ∙ ap (λ b. if b then [] else writes Err (trap_line OutOfMemory)) out in
                let stops0 : AlwaysStops (step live procs) before (r.shows call) (r.lines call) 1 (live (as_state x.memory)) = x.stops in
                let stops1 : AlwaysStops (step live procs) before (writes Err (trap_line OutOfMemory)) (r.lines call) 1 (live (as_state x.memory))
                = subst (λ es. AlwaysStops (step live procs) before es (r.lines call) 1 (live (as_state x.memory))) shown stops0 in
                let few0 = fills.few in
                ends_behind live procs s to rest row u next 1 (ap (λ b. if b then None else Some 1) out) x.memory
                (subst (λ b. PutLeaves b at q s.memory x.memory) (sym out)
                (subst (λ y. AreBlocksKept at q.growth s.memory y) (sym same) (record { rest = ready.rest; heap = ready.heap }))) l (r.lines call)
                (omega (arith, few, few0)) before to_call
                (writes Err (trap_line OutOfMemory)) (ap (λ b. if b then [] else writes Err (trap_line OutOfMemory)) out) stops1

            pub puts_comes : Comes live procs row u s to rest (row.ends u)
            puts_comes = elim (cases_Bool (may_grow q.growth)) [ inl does ↦ puts_them does | inr out ↦ is_full out ]

-- nothing is left to do but to give the place
pub gives_place : (live : Lives) (procs : List WordProc) (s : WordState) (to : ℕ) (rest : List WordInstr) (p : WordProc) → p.room ≡ 0 → (v : Vars)
    (a wanted : ℕ) (m : Memory) (place : ℕ) → place + wanted < 2 ^ 32
    → Runs live procs 1 (state_at (record (inside s p to rest) { awaits = 3 }) m (Return 3 ∷ []) (put (put v 3 place) 4 a) no_words)
    (goes_on s to place rest m s.input)
gives_place live procs s to rest p no_room v a wanted m place low =
    returns_awaiting live procs s to rest 3 [] p no_room m (put (put v 3 place) 4 a) 3 place (got place (omega (arith, low)))

-- ---- a text comes behind another one, or behind none

-- what stands there is below the end of all addresses
pub present_small : (at : ℕ) (g : Growing) (m : Memory) → Sized m → MayGrow at g m → (place_of g.present < 2 ^ 32) × (g.kept < 2 ^ 32)
present_small at g m sized may = by g.present may.present
  where
    by : (p : Option Owned) → IsPresent g.stands g.kept p → (place_of p < 2 ^ 32) × (g.kept < 2 ^ 32)
    by None is = (omega arith, omega (arith, is))
    by (Some o) is =
        let there = is_there at g.classes g.stands m may.heap o.identity o.block is.0 sized in
        let high = there.high in
        let most = sized.heap_most in
        let few = is.3 in
        (omega (arith, high, most), omega (arith, high, most, few))

pub source_small : (at : ℕ) (g : Growing) (m : Memory) → Sized m → MayGrow at g m → (x : Source) → IsSource at g m x → source_at x < 2 ^ 32
source_small at g m sized may (Outside a bytes) is = is.1
source_small at g m sized may (Inside x count) is =
    let there = is_there at g.classes g.stands m may.heap x.identity x.block is.0 sized in
    let high = there.high in
    let most = sized.heap_most in
    omega (arith, high, most)

module _ (law : MemoryLaw) (live : Lives) (procs : List WordProc) (n : ℕ) (append_kept : IsKeptThere live procs (appends (own_data_at + n))) (number : ℕ)
    (Use : Type 0) (takes : Use → List ℕ) (may_call : Use → Memory → Type 0) (putting : Use → Putting) (lines : Use → ℕ) (u : Use) (a : Appending)
    (same : putting u ≡ record { to = (putting u).to; length = a.growth.wanted; growth = a.growth; bytes = appended a }) (s : WordState) (to : ℕ)
    (rest : List WordInstr) (next : s.frame.left ≡ Call to number ∷ rest) (p : WordProc) (no_room : p.room ≡ 0)
    (has : may_grow (putting u).growth ≡ true → MayHave s.memory (putting u).to)
    (m0 : Memory) (awaits0 : ℕ) (ready : IsReady (own_data_at + n) a.growth s.memory m0) (may : MayAppend (own_data_at + n) a m0)
  where
    abbrev behind_row : Routine
    behind_row = puts (own_data_at + n) number Use takes may_call putting (λ x place. place) lines

    abbrev grow : Growing
    grow = a.growth

    abbrev from_at : ℕ
    from_at = source_at a.source

    abbrev more : ℕ
    more = length (source_bytes a.source)

    abbrev bc : Within
    bc = record (inside s p to rest) { awaits = awaits0 }

    abbrev q_is : Putting
    q_is = record { to = (putting u).to; length = a.growth.wanted; growth = a.growth; bytes = appended a }

    module _ (l : ℕ) (few : l + 5 + ((appends (own_data_at + n)).lines a + (3 + 1)) ≤ lines u) (v : Vars) (v0 : v 0 ≡ Some (putting u).to)
        (v2 : v 2 ≡ Some more) (v3 : v 3 ≡ Some from_at) (v4 : v 4 ≡ Some grow.kept)
        (v5 : v 5 ≡ Some (place_of grow.present))
        (to_lines : Runs live procs l (calling_state live procs s to rest behind_row u next) (state_at bc m0 append_behind_lines v no_words))
      where
        abbrev b1 : List WordInstr
        b1 = Argument 1 4 ∷ Argument 2 3 ∷ Argument 3 2 ∷ Compute 2 operation.Add 4 2 ∷ Call 3 APPEND ∷ put_last_lines

        abbrev b2 : List WordInstr
        b2 = Argument 2 3 ∷ Argument 3 2 ∷ Compute 2 operation.Add 4 2 ∷ Call 3 APPEND ∷ put_last_lines

        abbrev b3 : List WordInstr
        b3 = Argument 3 2 ∷ Compute 2 operation.Add 4 2 ∷ Call 3 APPEND ∷ put_last_lines

        abbrev b4 : List WordInstr
        b4 = Compute 2 operation.Add 4 2 ∷ Call 3 APPEND ∷ put_last_lines

        abbrev b5 : List WordInstr
        b5 = Call 3 APPEND ∷ put_last_lines

        abbrev bg : Vars
        bg = put (put (put (put no_words 0 (place_of grow.present)) 1 grow.kept) 2 from_at) 3 more

        abbrev bv : Vars
        bv = put v 2 (computed operation.Add grow.kept more)

        more_small : more < 2 ^ 32
        more_small = let w = may.wanted in let h = may.growth.word in omega (arith, w, h)

        wanted_is : bv 2 ≡ Some grow.wanted
        wanted_is = let w = may.wanted in let h = may.growth.word in got_sum grow.kept more (omega (arith, w, h)) ∙ ap Some (sym w)

        to_append : Runs live procs (l + 5) (calling_state live procs s to rest behind_row u next) (state_at bc m0 b5 bv bg)
        to_append =
            then_runs live procs to_lines (then_runs live procs
            (run_argument live procs bc m0 b1 v no_words 0 5 v5) (then_runs live procs
            (run_argument live procs bc m0 b2 v (put no_words 0 (place_of grow.present)) 1 4 v4) (then_runs live procs
            (run_argument live procs bc m0 b3 v (put (put no_words 0 (place_of grow.present)) 1 grow.kept) 2 3 v3) (then_runs live procs
            (run_argument live procs bc m0 b4 v (put (put (put no_words 0 (place_of grow.present)) 1 grow.kept) 2 from_at) 3 2 v2)
            (run_compute live procs bc m0 b5 v bg 2 operation.Add 4 2 v4 v2)))))

        appends_it : Comes live procs (appends (own_data_at + n)) a (state_at bc m0 b5 bv bg) 3 put_last_lines
            ((appends (own_data_at + n)).ends a)
        appends_it =
            let smalls = present_small (own_data_at + n) grow m0 ready.regions may.growth in
            let from_small = source_small (own_data_at + n) grow m0 ready.regions may.growth a.source may.source in
            append_kept a (state_at bc m0 b5 bv bg) 3 put_last_lines
            (record {
              next = refl;
              given = (
                got (place_of grow.present) smalls.0,
                (got grow.kept smalls.1, (got from_at from_small, (got more more_small, tt))),
              );
            }) ready.regions may

        fills : Fills (own_data_at + n) q_is ((appends (own_data_at + n)).lines a) m0 (appends (own_data_at + n)) a
        fills = record { shown = refl; ended = refl; input = λ i. refl; left = λ other x. x; filled = λ other w y x. x; few = omega arith }

        pub behind_comes : Comes live procs behind_row u s to rest (behind_row.ends u)
        behind_comes =
            puts_comes law live procs n number Use takes may_call putting (λ x place. place) lines u s to rest next m0 awaits0
            (subst (λ q. IsReady (own_data_at + n) q.growth s.memory m0) (sym same) ready) p
            (subst (λ q. q.growth.stands q.growth.identity ≡ None) (sym same) may.growth.unused)
            (subst (λ q. IsPresent q.growth.stands q.growth.kept q.growth.present) (sym same) may.growth.present) has
            (subst (λ q. q.length < 2 ^ 32) (sym same) may.growth.word) (appends (own_data_at + n)) a bv bg v0
            (wanted_is ∙ ap (λ q. Some q.length) (sym same)) (l + 5) ((appends (own_data_at + n)).lines a) 1
            (subst (λ q. Fills (own_data_at + n) q ((appends (own_data_at + n)).lines a) m0 (appends (own_data_at + n)) a) (sym same) fills) few (Return 3 ∷ [])
            (λ m place low. gives_place live procs s to rest p no_room bv ((putting u).to + 4) (putting u).growth.wanted m place low) to_append appends_it

module _ (law : MemoryLaw) (live : Lives) (procs : List WordProc) (n : ℕ) (append_kept : IsKeptThere live procs (appends (own_data_at + n)))
    (u : AppendingText) (s : WordState) (to : ℕ) (rest : List WordInstr) (others : List WordProc)
  where
    pub text_append_comes : from_proc TEXT_APPEND procs ≡ later n TEXT_APPEND 2 6 text_append_lines ∷ others
        → IsCalling TEXT_APPEND (u.to ∷ u.from ∷ []) to rest s → Sized s.memory → (appends_text (own_data_at + n)).may u s.memory
        → Comes live procs (appends_text (own_data_at + n)) u s to rest ((appends_text (own_data_at + n)).ends u)
    text_append_comes stands calling sized may =
        let p : WordProc = later n TEXT_APPEND 2 6 text_append_lines in
        let c : Within = inside s p to rest in
        let more : ℕ = length (source_bytes u.appending.source) in
        let from_at : ℕ = source_at u.appending.source in
        let kept : ℕ = u.appending.growth.kept in
        let place : ℕ = place_of u.appending.growth.present in
        let x0 : Vars = params_of p s.frame.given in
        let x1 : Vars = put (put (put x0 2 more) 3 (u.from + 4)) 3 from_at in
        let x2 : Vars = put (put (put x1 4 kept) 5 (u.to + 4)) 5 place in
        let smalls = present_small (own_data_at + n) u.appending.growth s.memory sized may.appending.growth in
        let from_small = source_small (own_data_at + n) u.appending.growth s.memory sized may.appending.growth u.appending.source may.appending.source in
        let w = may.appending.wanted in
        let h = may.appending.growth.word in
        let most : more < 2 ^ 32 = omega (arith, w, h) in
        behind_comes law live procs n append_kept TEXT_APPEND AppendingText (λ y. y.to ∷ y.from ∷ []) (λ y m. (appends_text (own_data_at + n)).may y m)
        appended_text (λ y. HANDLE_LINES + (appends (own_data_at + n)).lines y.appending) u u.appending refl s to rest calling.next p refl (λ does. may.has)
        s.memory 0
        (at_once (own_data_at + n) u.appending.growth s.memory sized may.appending.growth.heap) may.appending 7 (omega arith) x2 calling.given.0 (got more most)
        (got from_at from_small) (got kept smalls.1) (got place smalls.0)
        (then_runs live procs (enters live procs s to rest n TEXT_APPEND 2 6 text_append_lines others stands) (then_runs live procs
        (run_handle live procs c s.memory sized (handle_lines 4 5 0 append_behind_lines) x0 no_words u.from more from_at may.from 2 3 1
        calling.given.1.0 calling.given.1.0 refl)
        (run_handle live procs c s.memory sized append_behind_lines x1 no_words u.to kept place may.to 4 5 0 calling.given.0 calling.given.0 refl)))

    pub text_copy_comes : from_proc TEXT_COPY procs ≡ later n TEXT_COPY 2 6 text_copy_lines ∷ others
        → IsCalling TEXT_COPY (u.to ∷ u.from ∷ []) to rest s → Sized s.memory → (copies_text (own_data_at + n)).may u s.memory
        → Comes live procs (copies_text (own_data_at + n)) u s to rest ((copies_text (own_data_at + n)).ends u)
    text_copy_comes stands calling sized may =
        let p : WordProc = later n TEXT_COPY 2 6 text_copy_lines in
        let c : Within = inside s p to rest in
        let more : ℕ = length (source_bytes u.appending.source) in
        let from_at : ℕ = source_at u.appending.source in
        let x0 : Vars = params_of p s.frame.given in
        let x1 : Vars = put (put (put x0 2 more) 3 (u.from + 4)) 3 from_at in
        let x2 : Vars = put x1 4 0 in
        let x3 : Vars = put x2 5 0 in
        let from_small = source_small (own_data_at + n) u.appending.growth s.memory sized may.appending.growth u.appending.source may.appending.source in
        let w = may.appending.wanted in
        let h = may.appending.growth.word in
        let most : more < 2 ^ 32 = omega (arith, w, h) in
        let zero_kept : u.appending.growth.kept ≡ 0
        = subst (λ o. IsPresent u.appending.growth.stands u.appending.growth.kept o) may.none may.appending.growth.present in
        behind_comes law live procs n append_kept TEXT_COPY AppendingText (λ y. y.to ∷ y.from ∷ []) (λ y m. (copies_text (own_data_at + n)).may y m)
        appended_text (λ y. HANDLE_LINES + (appends (own_data_at + n)).lines y.appending) u u.appending refl s to rest calling.next p refl may.has s.memory 0
        (at_once (own_data_at + n) u.appending.growth s.memory sized may.appending.growth.heap) may.appending 6 (omega arith) x3 calling.given.0 (got more most)
        (got from_at from_small) (ap Some (sym zero_kept))
        (ap (λ o. Some (place_of o)) (sym may.none))
        (then_runs live procs (enters live procs s to rest n TEXT_COPY 2 6 text_copy_lines others stands) (then_runs live procs
        (run_handle live procs c s.memory sized (Constant 4 0 ∷ Constant 5 0 ∷ append_behind_lines) x0 no_words u.from more from_at may.from 2 3 1
        calling.given.1.0 calling.given.1.0 refl) (then_runs live procs
        (run_constant live procs c s.memory (Constant 5 0 ∷ append_behind_lines) x1 no_words 4 0)
        (run_constant live procs c s.memory append_behind_lines x2 no_words 5 0))))

-- ---- a text gets another length

module _ (law : MemoryLaw) (live : Lives) (procs : List WordProc) (n : ℕ) (resize_kept : IsKeptThere live procs (resizes (own_data_at + n)))
    (u : ResizingText) (s : WordState) (to : ℕ) (rest : List WordInstr) (others : List WordProc)
    (stands : from_proc TEXT_RESIZE procs ≡ later n TEXT_RESIZE 2 6 text_resize_lines ∷ others)
    (calling : IsCalling TEXT_RESIZE (u.to ∷ u.growth.wanted ∷ []) to rest s) (sized : Sized s.memory)
    (may : (resizes_text (own_data_at + n)).may u s.memory)
  where
    abbrev rp : WordProc
    rp = later n TEXT_RESIZE 2 6 text_resize_lines

    abbrev rc : Within
    rc = inside s rp to rest

    abbrev rg : Growing
    rg = u.growth

    abbrev y0 : Vars
    y0 = params_of rp s.frame.given

    abbrev y1 : Vars
    y1 = put (put (put y0 4 rg.kept) 5 (u.to + 4)) 5 (place_of rg.present)

    abbrev r0 : List WordInstr
    r0 = Argument 0 5 ∷ Argument 1 4 ∷ Argument 2 1 ∷ Copy 2 1 ∷ Call 3 RESIZE ∷ put_last_lines

    abbrev r1 : List WordInstr
    r1 = Argument 1 4 ∷ Argument 2 1 ∷ Copy 2 1 ∷ Call 3 RESIZE ∷ put_last_lines

    abbrev r2 : List WordInstr
    r2 = Argument 2 1 ∷ Copy 2 1 ∷ Call 3 RESIZE ∷ put_last_lines

    abbrev r3 : List WordInstr
    r3 = Copy 2 1 ∷ Call 3 RESIZE ∷ put_last_lines

    abbrev r4 : List WordInstr
    r4 = Call 3 RESIZE ∷ put_last_lines

    abbrev g1 : Vars
    g1 = put no_words 0 (place_of rg.present)

    abbrev g2 : Vars
    g2 = put g1 1 rg.kept

    abbrev g3 : Vars
    g3 = put g2 2 rg.wanted

    abbrev y2 : Vars
    y2 = put y1 2 rg.wanted

    smalls : (place_of rg.present < 2 ^ 32) × (rg.kept < 2 ^ 32)
    smalls = present_small (own_data_at + n) rg s.memory sized may.growth

    to_resize : Runs live procs 8 (calling_state live procs s to rest (resizes_text (own_data_at + n)) u calling.next) (state_at rc s.memory r4 y2 g3)
    to_resize =
        then_runs live procs (enters live procs s to rest n TEXT_RESIZE 2 6 text_resize_lines others stands) (then_runs live procs
        (run_handle live procs rc s.memory sized r0 y0 no_words u.to rg.kept (place_of rg.present) may.to 4 5 0 calling.given.0 calling.given.0 refl)
        (then_runs live procs
        (run_argument live procs rc s.memory r1 y1 no_words 0 5 (got (place_of rg.present) smalls.0)) (then_runs live procs
        (run_argument live procs rc s.memory r2 y1 g1 1 4 (got rg.kept smalls.1)) (then_runs live procs
        (run_argument live procs rc s.memory r3 y1 g2 2 1 calling.given.1.0) (run_copy live procs rc s.memory r4 y1 g3 2 1 calling.given.1.0)))))

    pub text_resize_comes : Comes live procs (resizes_text (own_data_at + n)) u s to rest ((resizes_text (own_data_at + n)).ends u)
    text_resize_comes =
        puts_comes law live procs n TEXT_RESIZE ResizingText (λ x. x.to ∷ x.growth.wanted ∷ []) (λ x m. (resizes_text (own_data_at + n)).may x m) resized_text
        (λ x place. place) (λ x. HANDLE_LINES + (resizes (own_data_at + n)).lines x.growth) u s to rest calling.next s.memory 0
        (at_once (own_data_at + n) rg s.memory sized may.growth.heap) rp may.growth.unused may.growth.present (λ does. may.has)
        may.growth.word (resizes (own_data_at + n)) rg y2 g3 calling.given.0 (got rg.wanted may.growth.word) 8 ((resizes (own_data_at + n)).lines rg) 1
        (record { shown = refl; ended = refl; input = λ i. refl; left = λ other x. x; filled = λ other w y x. x; few = omega arith }) (omega arith)
        (Return 3 ∷ []) (λ m place low. gives_place live procs s to rest rp refl y2 (u.to + 4) rg.wanted m place low) to_resize
        (resize_kept rg (state_at rc s.memory r4 y2 g3) 3 put_last_lines
        (record {
          next = refl;
          given = (got (place_of rg.present) smalls.0, (got rg.kept smalls.1, (got rg.wanted may.growth.word, tt)));
        }) sized may.growth)
