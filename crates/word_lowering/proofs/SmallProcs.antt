-- Procedures of word code are small, chains of those that don't count are short, and there are no hooks but block code's.
use Rattle.std.proofs.Common.{◌≡◌, ℕ, suc, ◌+◌, ◌*◌, ◌<◌, ◌≤◌, max, List, [], ◌∷◌, length, map, Bool, true, false}
use Rattle.std.specs.Prelude.{◌/◌, slice_get}
use Rattle.std.proofs.Common.{Option, Some, None}
use Rattle.std.proofs.Common.{refl, sym, ap, ap₂, ◌∙◌, arith, ◌++◌}
use Rattle.std.proofs.lemmas.Bool.{and_parts, and_from, true≢false}
use Rattle.nim_types.specs.declared.types.TypeDef.{TypeDef}
use Rattle.nim_program.specs.declared.program.HookOf.{HookOf}
use Rattle.flat_code.specs.declared.block.BlockLine.{BlockLine}
use Rattle.flat_code.specs.declared.code.CodeProc.{CodeProc}
use Rattle.flat_code.specs.declared.code.Code.{Code}
use Rattle.word_code.specs.declared.word.WordProc.{WordProc}
use Rattle.word_code.specs.declared.word.WordCode.{WordCode}
use Rattle.flat_code.specs.Codes.{hooks_of, AreNone}
use Rattle.flat_code.specs.Running.{last_of}
use Rattle.word_code.specs.Sizes.{AreRanked}
use Rattle.word_code.specs.Joined.{moved, all_moved, joined, HaveRoom}
use Rattle.word_code.specs.Runtime.{AreRoutines}
use Rattle.word_code.specs.declared.word.WordInstr.{WordInstr}
use Rattle.word_code.specs.declared.routine.TheConstants.{PROCS_FROM}
use Rattle.word_code.specs.Words.{is_counted, callee_of, taken_for, most_called, most_chain, is_no_hook, have_no_hooks}
use Rattle.word_code.proofs.ForCallers.{joined_ranked, joined_unhooked}
use Rattle.word_lowering.specs.declared.homes.Layout.{Layout}
use Rattle.heap_memory.specs.declared.numbers.TheConstants.{HEAP_CHAIN, HEAP_DATA}
use Rattle.word_lowering.specs.Runtimes.{Runtimes, with_runtimes}
use Rattle.word_lowering.specs.declared.texts.TheConstants.{FIXED_BYTES}
use Rattle.word_lowering.specs.declared.may_lower.TheConstants.{MOST_ROOM, MOST_VARS, MOST_FRAME}
use Rattle.word_lowering.specs.declared.lowering.TheConstants.{MOST_CHAIN}
use Rattle.word_lowering.specs.Layouts.{is_empty, layouts, layout_of}
use Rattle.word_lowering.specs.LineCode.{Around, no_layout, proc_number, first_hook}
use Rattle.word_lowering.specs.Lowered as code
use Rattle.word_lowering.specs.Texts.{texts_in}
use Rattle.word_lowering.specs.MayLower.{proc_may, procs_may, may_lower}
use Rattle.word_lowering.specs.Lowers.{IsSmallHelper, IsSmall, AreSmall}
use Rattle.nim_types.specs.declared.types.TypeDef.TheVariants as D
use Rattle.nim_types.specs.Table.{IsTable}
use Rattle.nim_types.specs.Forms.{levels}
use Rattle.nim_program.specs.Sizes.{HaveForms}
use Rattle.hook_lifting.proofs.ForCallers.{form_at}
use Rattle.hook_code.specs.HookCode.{procs_in}
use Rattle.hook_code.specs.Kept.{AreShort, Ranks, rank_in, hook_ranks}
use Rattle.word_lowering.proofs.NamedProcs.{Fits, fits_by}
use Rattle.word_lowering.proofs.RankedChains.{HaveRanks, capped, capped_ranked, capped_few}
use Rattle.word_lowering.proofs.HookProcs.{HookLaws, all_are, hooks_small, hooks_room, rank_before, all_low}

-- ---- sizes

-- what a program declares counts
counted_kind : (start : Bool) (hook : Option HookOf) → is_counted (code.kind_in start hook) ≡ true
counted_kind true hook = refl
counted_kind false None = refl
counted_kind false (Some hook) = refl

-- a layout is within the bounds
record IsLow (own : Layout) : Type 0 where
  room : own.free.byte ≤ MOST_ROOM
  vars : own.free.variable ≤ MOST_VARS
  together : 4 * own.free.variable + own.free.byte ≤ MOST_FRAME

fits_low : (own : Layout) (p : CodeProc BlockLine) → Fits own p → IsLow own
fits_low own p fits = record { room = fits.room; vars = fits.vars; together = fits.together }

proc_small : (x : Around) (number : ℕ) (p : CodeProc BlockLine) → IsLow x.own → IsSmall (code.word_proc x number p)
proc_small x number p low = record {
  room = low.room;
  variables = low.vars;
  together = low.together;
  uncounted = λ e. absurd (true≢false (sym (counted_kind x.setting.start p.hook) ∙ e));
}

small_if : (runs : Bool) (p : WordProc) (procs : List WordProc) → IsSmall p → AreSmall procs → AreSmall (code.if_runs runs p procs)
small_if true p procs h rest = (h, rest)
small_if false p procs h rest = rest

module _ (table : List TypeDef) (datum : ℕ) where
  procs_small : (x : Around) (index : ℕ) (procs : List (CodeProc BlockLine)) → procs_may table (layouts table datum procs) procs ≡ true
      → AreSmall (code.word_procs x index (layouts table datum procs) procs)
  procs_small x index [] may = tt
  procs_small x index (p ∷ []) may = tt
  procs_small x index (p ∷ q ∷ ps) may =
      let own : Layout = layout_of table false datum p in
      let both = and_parts (proc_may table own p) (procs_may table (layouts table datum (q ∷ ps)) (q ∷ ps)) may in
      let fits : Fits own p = fits_by table own p both.0 in
      small_if own.runs _ _ (proc_small (code.with_own x own (length (texts_in (q ∷ ps)))) (proc_number index) p (fits_low own p fits))
      (procs_small x (suc index) (q ∷ ps) both.1)

  -- the start code's layout
  last_small : (none : Layout) (procs : List (CodeProc BlockLine)) → IsLow none → procs_may table (layouts table datum procs) procs ≡ true
      → IsLow (last_of none (layouts table datum procs))
  last_small none [] low may = low
  last_small none (p ∷ ps) low may =
      let own : Layout = layout_of table (is_empty ps) datum p in
      let both = and_parts (proc_may table own p) (procs_may table (layouts table datum ps) ps) may in
      let fits : Fits own p = fits_by table own p both.0 in
      last_small own ps (fits_low own p fits) both.1

-- what has few variables and no places
routine_small : (p : WordProc) → p.room ≤ 0 → p.vars ≤ 9 → IsSmall p
routine_small p room variables = record {
  room = omega (arith, room);
  variables = omega (arith, variables);
  together = omega (arith, room, variables);
  uncounted = λ e. record { room = omega (arith, room); variables = omega (arith, variables) };
}

-- those of a runtime are small
moved_small : (n : ℕ) (procs : List WordProc) → AreRoutines procs → AreSmall (all_moved n procs)
moved_small n [] are = tt
moved_small n (p ∷ procs) are =
    let own = are.0.small in
    let room = own.room in
    let variables = own.variables in (
      routine_small (moved n p) (omega (arith, room)) (omega (arith, variables)),
      moved_small n procs are.1,
    )

both_small : (procs others : List WordProc) → AreSmall procs → AreSmall others → AreSmall (procs ++ others)
both_small [] others h i = i
both_small (p ∷ procs) others h i = (h.0, both_small procs others h.1 i)

pub own_small : (table : List TypeDef) (blocks : Code BlockLine) → may_lower table blocks ≡ true → AreSmall (code.lowered table blocks).procs
own_small table blocks may =
    let procs : List (CodeProc BlockLine) = blocks.procs in
    let all : List Layout = code.all_layouts table procs in
    let each = (and_parts (procs_may table all procs) _ may).0 in
    let x : Around = code.start_around table procs in
    let own = last_small table FIXED_BYTES no_layout procs (record { room = omega arith; vars = omega arith; together = omega arith }) each in
    let hooks = hooks_small (first_hook procs) (procs_in table (first_hook procs)) (all_are table (first_hook procs)) in (
      proc_small x 0 (last_of code.no_proc procs) own,
      both_small (code.word_procs x 0 all procs) (procs_in table (first_hook procs)) (procs_small table FIXED_BYTES x 0 procs each) hooks,
    )

small_moved : (n : ℕ) (procs : List WordProc) → AreSmall procs → AreSmall (all_moved n procs)
small_moved n [] h = tt
small_moved n (p ∷ procs) h = (
  record { room = h.0.room; variables = h.0.variables; together = h.0.together; uncounted = small_helper p h.0 },
  small_moved n procs h.1,
)
  where
    small_helper : (p : WordProc) → IsSmall p → is_counted p.kind ≡ false → IsSmallHelper (moved n p)
    small_helper p h e = let own = h.uncounted e in record { room = own.room; variables = own.variables }

routines_small : (procs : List WordProc) → AreRoutines procs → AreSmall procs
routines_small [] are = tt
routines_small (p ∷ procs) are =
    let own = are.0.small in
    let room = own.room in
    let variables = own.variables in
    (routine_small p (omega (arith, room)) (omega (arith, variables)), routines_small procs are.1)

pub are_small : (table : List TypeDef) (blocks : Code BlockLine) → may_lower table blocks ≡ true → (r : Runtimes)
    → AreSmall (with_runtimes r (code.lowered table blocks)).procs
are_small table blocks may r =
    let own : List WordProc = all_moved (length r.heap.statics) (code.lowered table blocks).procs in
    both_small (r.heap.procs ++ own) (all_moved (length (joined r.heap (code.lowered table blocks)).statics) r.others.procs)
    (both_small r.heap.procs own (routines_small r.heap.procs r.is_heap.routines)
    (small_moved (length r.heap.statics) (code.lowered table blocks).procs (own_small table blocks may)))
    (moved_small (length (joined r.heap (code.lowered table blocks)).statics) r.others.procs r.is_others.routines)

-- ---- chains of calls of what doesn't count

-- a procedure that counts needs no rank
module _ (rank : ℕ → ℕ) where
  abbrev Ranked : WordProc → Type 0
  Ranked p = is_counted p.kind ≡ false → suc (most_called rank p.lines) ≤ rank p.number

  counted_ranked : (start : Bool) (hook : Option HookOf) (n m : ℕ) → is_counted (code.kind_in start hook) ≡ false → n ≤ m
  counted_ranked start hook n m f = absurd (true≢false (sym (counted_kind start hook) ∙ f))

  ranked_if : (runs : Bool) (p : WordProc) (procs : List WordProc) → Ranked p → AreRanked rank procs → AreRanked rank (code.if_runs runs p procs)
  ranked_if true p procs h rest = (h, rest)
  ranked_if false p procs h rest = rest

  procs_ranked : (x : Around) (index : ℕ) (owns : List Layout) (procs : List (CodeProc BlockLine)) → AreRanked rank (code.word_procs x index owns procs)
  procs_ranked x index owns [] = tt
  procs_ranked x index [] (p ∷ procs) = tt
  procs_ranked x index (own ∷ owns) (p ∷ []) = tt
  procs_ranked x index (own ∷ owns) (p ∷ q ∷ ps) =
      ranked_if own.runs _ _ (counted_ranked false p.hook _ _) (procs_ranked x (suc index) owns (q ∷ ps))

  both_ranked : (procs others : List WordProc) → AreRanked rank procs → AreRanked rank others → AreRanked rank (procs ++ others)
  both_ranked [] others h i = i
  both_ranked (p ∷ procs) others h i = (h.0, both_ranked procs others h.1 i)

  -- block code's, in front of hooks
  own_ranked : (table : List TypeDef) (blocks : Code BlockLine) → AreRanked rank (procs_in table (first_hook blocks.procs))
      → AreRanked rank (code.lowered table blocks).procs
  own_ranked table blocks hooks =
      let x : Around = code.start_around table blocks.procs in
      let all : List Layout = code.all_layouts table blocks.procs in (
        counted_ranked true (last_of code.no_proc blocks.procs).hook _ _,
        both_ranked (code.word_procs x 0 all blocks.procs) (procs_in table (first_hook blocks.procs)) (procs_ranked x 0 all blocks.procs) hooks,
      )

  -- so are their ranks few
  both_have : (most : ℕ) (procs others : List WordProc) → HaveRanks rank most procs → HaveRanks rank most others → HaveRanks rank most (procs ++ others)
  both_have most [] others h i = i
  both_have most (p ∷ procs) others h i = (h.0, both_have most procs others h.1 i)

  moved_have : (most n : ℕ) (procs : List WordProc) → HaveRanks rank most procs → HaveRanks rank most (all_moved n procs)
  moved_have most n [] h = tt
  moved_have most n (p ∷ procs) h = (h.0, moved_have most n procs h.1)

  have_if : (most : ℕ) (runs : Bool) (p : WordProc) (procs : List WordProc) → (is_counted p.kind ≡ false → rank p.number ≤ most)
      → HaveRanks rank most procs → HaveRanks rank most (code.if_runs runs p procs)
  have_if most true p procs h rest = (h, rest)
  have_if most false p procs h rest = rest

  procs_have : (most : ℕ) (x : Around) (index : ℕ) (owns : List Layout) (procs : List (CodeProc BlockLine))
      → HaveRanks rank most (code.word_procs x index owns procs)
  procs_have most x index owns [] = tt
  procs_have most x index [] (p ∷ procs) = tt
  procs_have most x index (own ∷ owns) (p ∷ []) = tt
  procs_have most x index (own ∷ owns) (p ∷ q ∷ ps) =
      have_if most own.runs _ _ (counted_ranked false p.hook _ _) (procs_have most x (suc index) owns (q ∷ ps))

  own_have : (most : ℕ) (table : List TypeDef) (blocks : Code BlockLine) → HaveRanks rank most (procs_in table (first_hook blocks.procs))
      → HaveRanks rank most (code.lowered table blocks).procs
  own_have most table blocks hooks =
      let x : Around = code.start_around table blocks.procs in
      let all : List Layout = code.all_layouts table blocks.procs in (
        counted_ranked true (last_of code.no_proc blocks.procs).hook _ _,
        both_have most (code.word_procs x 0 all blocks.procs) (procs_in table (first_hook blocks.procs)) (procs_have most x 0 all blocks.procs) hooks,
      )

-- routines, which call only each other, keep their ranks under others
module _ (rank other : ℕ → ℕ) (same : (n : ℕ) → n < PROCS_FROM → other n ≡ rank n) where
  calls_same : (o : Option ℕ) → taken_for (λ n. n / PROCS_FROM) o ≡ 0 → taken_for other o ≡ taken_for rank o
  calls_same None e = refl
  calls_same (Some n) e = same n (omega (arith, e))

  called_same : (lines : List WordInstr) → most_called (λ n. n / PROCS_FROM) lines ≡ 0 → most_called other lines ≡ most_called rank lines
  called_same [] e = refl
  called_same (line ∷ lines) e =
      let one = calls_same (callee_of line) (omega (arith, e)) in
      let rest = called_same lines (omega (arith, e)) in
      ap₂ max one rest

  routines_ranked : (procs : List WordProc) → AreRoutines procs → most_chain (λ n. n / PROCS_FROM) procs ≡ 0 → AreRanked rank procs → AreRanked other procs
  routines_ranked [] are calls h = tt
  routines_ranked (p ∷ procs) are calls h = (
    λ e.
        let lower = h.0 e in
        let mine = called_same p.lines (omega (arith, calls)) in
        let own = same p.number (are.0.last) in
        omega (arith, lower, mine, own),
    routines_ranked procs are.1 (omega (arith, calls)) h.1,
  )

  routines_have : (most : ℕ) (procs : List WordProc) → AreRoutines procs → ((n : ℕ) → rank n ≤ most) → HaveRanks other most procs
  routines_have most [] are few = tt
  routines_have most (p ∷ procs) are few = (
    λ e. let own = same p.number (are.0.last) in let f = few p.number in omega (arith, own, f),
    routines_have most procs are.1 few,
  )

module _ (laws : HookLaws) (table : List TypeDef) (blocks : Code BlockLine) (r : Runtimes) (is_table : IsTable table) (have : HaveForms table)
    (short : AreShort table) where
  abbrev front : WordCode
  front = joined r.heap (code.lowered table blocks)

  abbrev all_procs : List WordProc
  all_procs = (with_runtimes r (code.lowered table blocks)).procs

  -- hooks have ranks above those of routines
  abbrev first : ℕ
  first = first_hook blocks.procs

  abbrev rank : ℕ → ℕ
  rank n = hook_ranks table first (rank_in table) HEAP_CHAIN r.rank n

  same_before : (n : ℕ) → n < PROCS_FROM → rank n ≡ r.rank n
  same_before n less = rank_before table first (rank_in table) HEAP_CHAIN r.rank n (omega (arith, less))

  ranks : Ranks table first (rank_in table) HEAP_CHAIN rank
  ranks = laws.ranks table first HEAP_CHAIN (rank_in table) r.rank (λ n less. r.chain n) (omega arith) (omega arith) (omega arith) (omega arith)

  -- the elements of a sequence have one level less
  elements : (ty el : ℕ) → slice_get table ty ≡ Some (D.Seq el) → rank_in table el < rank_in table ty
  elements ty el at = let f = ap levels (form_at table is_table have ty (D.Seq el) at) in omega (arith, f)

  hooks_ranked : AreRanked rank (procs_in table first)
  hooks_ranked = laws.ranked table first HEAP_CHAIN (rank_in table) rank (laws.ordered table is_table have short) ranks

  all_ranked : AreRanked rank all_procs
  all_ranked =
      joined_ranked rank (length front.statics) front.procs r.others.procs
      (joined_ranked rank (length r.heap.statics) r.heap.procs (code.lowered table blocks).procs
      (routines_ranked r.rank rank same_before r.heap.procs r.is_heap.routines r.heap_calls r.heap_ranked) (own_ranked rank table blocks hooks_ranked))
      (routines_ranked r.rank rank same_before r.others.procs r.is_others.routines r.others_calls r.others_ranked)

  few_before : (n : ℕ) → r.rank n ≤ MOST_CHAIN
  few_before n = let f = r.chain n in omega (arith, f)

  have_ranks : HaveRanks rank MOST_CHAIN all_procs
  have_ranks =
      both_have rank MOST_CHAIN front.procs (all_moved (length front.statics) r.others.procs)
      (both_have rank MOST_CHAIN r.heap.procs (all_moved (length r.heap.statics) (code.lowered table blocks).procs)
      (routines_have r.rank rank same_before MOST_CHAIN r.heap.procs r.is_heap.routines few_before)
      (moved_have rank MOST_CHAIN (length r.heap.statics) (code.lowered table blocks).procs
      (own_have rank MOST_CHAIN table blocks (all_low table first HEAP_CHAIN rank ranks elements))))
      (moved_have rank MOST_CHAIN (length front.statics) r.others.procs
      (routines_have r.rank rank same_before MOST_CHAIN r.others.procs r.is_others.routines few_before))

  -- what is called has a lower rank, also where ranks end at the most of those that are called
  abbrev pub capped_rank : ℕ → ℕ
  capped_rank = capped rank MOST_CHAIN

  pub are_ranked : AreRanked capped_rank all_procs
  are_ranked = capped_ranked rank MOST_CHAIN all_procs all_ranked have_ranks

  pub capped_short : (number : ℕ) → capped_rank number ≤ MOST_CHAIN
  capped_short = capped_few rank MOST_CHAIN

-- ---- hooks

no_hook : (start : Bool) (hook : Option HookOf) → hook ≡ None → is_no_hook (code.kind_in start hook) ≡ true
no_hook true hook e = refl
no_hook false hook e = ap (λ h. is_no_hook (code.kind_of h)) e

hooks_if : (runs : Bool) (p : WordProc) (procs : List WordProc) → is_no_hook p.kind ≡ true → have_no_hooks procs ≡ true
    → have_no_hooks (code.if_runs runs p procs) ≡ true
hooks_if true p procs h rest = and_from (is_no_hook p.kind) (have_no_hooks procs) h rest
hooks_if false p procs h rest = rest

procs_unhooked : (x : Around) (index : ℕ) (owns : List Layout) (procs : List (CodeProc BlockLine)) → AreNone (map (λ (p : CodeProc BlockLine). p.hook) procs)
    → have_no_hooks (code.word_procs x index owns procs) ≡ true
procs_unhooked x index owns [] none = refl
procs_unhooked x index [] (p ∷ procs) none = refl
procs_unhooked x index (own ∷ owns) (p ∷ []) none = refl
procs_unhooked x index (own ∷ owns) (p ∷ q ∷ ps) none =
    hooks_if own.runs _ _ (no_hook false p.hook none.0) (procs_unhooked x (suc index) owns (q ∷ ps) none.1)

both_unhooked : (procs others : List WordProc) → have_no_hooks procs ≡ true → have_no_hooks others ≡ true → have_no_hooks (procs ++ others) ≡ true
both_unhooked [] others h i = i
both_unhooked (p ∷ procs) others h i =
    let a = and_parts (is_no_hook p.kind) (have_no_hooks procs) h in
    and_from (is_no_hook p.kind) (have_no_hooks (procs ++ others)) a.0 (both_unhooked procs others a.1 i)

own_unhooked : (laws : HookLaws) (table : List TypeDef) (blocks : Code BlockLine) → AreNone (hooks_of blocks)
    → have_no_hooks (code.lowered table blocks).procs ≡ true
own_unhooked laws table blocks none =
    both_unhooked (code.word_procs (code.start_around table blocks.procs) 0 (code.all_layouts table blocks.procs) blocks.procs)
    (procs_in table (first_hook blocks.procs))
    (procs_unhooked (code.start_around table blocks.procs) 0 (code.all_layouts table blocks.procs) blocks.procs none)
    (laws.unhooked table (first_hook blocks.procs))

routines_unhooked : (procs : List WordProc) → AreRoutines procs → have_no_hooks procs ≡ true
routines_unhooked [] are = refl
routines_unhooked (p ∷ procs) are =
    and_from (is_no_hook p.kind) (have_no_hooks procs) (ap is_no_hook are.0.kind) (routines_unhooked procs are.1)

pub unhooked : (laws : HookLaws) (table : List TypeDef) (blocks : Code BlockLine) (r : Runtimes) → AreNone (hooks_of blocks)
    → have_no_hooks (with_runtimes r (code.lowered table blocks)).procs ≡ true
unhooked laws table blocks r none =
    let both = joined r.heap (code.lowered table blocks) in
    joined_unhooked (length both.statics) both.procs r.others.procs
    (joined_unhooked (length r.heap.statics) r.heap.procs (code.lowered table blocks).procs (routines_unhooked r.heap.procs r.is_heap.routines)
    (own_unhooked laws table blocks none))
    (routines_unhooked r.others.procs r.is_others.routines)

-- its procedures have all data
none_far : (n : ℕ) (x : Around) (index : ℕ) (owns : List Layout) (procs : List (CodeProc BlockLine)) → n ≤ 4294967295
    → HaveRoom n (code.word_procs x index owns procs)
none_far n x index owns [] small = tt
none_far n x index [] (p ∷ procs) small = tt
none_far n x index (own ∷ owns) (p ∷ []) small = tt
none_far n x index (own ∷ owns) (p ∷ q ∷ ps) small = room_if own.runs _ _ (omega (arith, small)) (none_far n x (suc index) owns (q ∷ ps) small)
  where
    room_if : (runs : Bool) (p : WordProc) (procs : List WordProc) → n + p.data_from ≤ 4294967295 → HaveRoom n procs → HaveRoom n (code.if_runs runs p procs)
    room_if true p procs h rest = (h, rest)
    room_if false p procs h rest = rest

both_far : (n : ℕ) (procs others : List WordProc) → HaveRoom n procs → HaveRoom n others → HaveRoom n (procs ++ others)
both_far n [] others h i = i
both_far n (p ∷ procs) others h i = (h.0, both_far n procs others h.1 i)

pub own_room : (table : List TypeDef) (blocks : Code BlockLine) → HaveRoom HEAP_DATA (code.lowered table blocks).procs
own_room table blocks = (
  omega arith,
  both_far HEAP_DATA (code.word_procs (code.start_around table blocks.procs) 0 (code.all_layouts table blocks.procs) blocks.procs)
      (procs_in table (first_hook blocks.procs))
      (none_far HEAP_DATA (code.start_around table blocks.procs) 0 (code.all_layouts table blocks.procs) blocks.procs (omega arith))
      (hooks_room (first_hook blocks.procs) HEAP_DATA (procs_in table (first_hook blocks.procs)) (all_are table (first_hook blocks.procs)) (omega arith)),
)
