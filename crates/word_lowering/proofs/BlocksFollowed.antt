-- Word code does what the block code does that it comes from, and is as its callers want it.
use Rattle.std.proofs.Common.{◌≡◌, inl, inr, ℕ, suc, ◌+◌, ◌≤◌, List, [], ◌∷◌, map, Option, Some, None, true, false, ◌*◌}
use Rattle.std.proofs.Common.{refl, sym}
use Rattle.std.proofs.Common.{ap, ap₂, subst, arith}
use Rattle.arc_base.specs.Event.{Event}
use Rattle.arc_base.specs.Behaviour.{Behaviour, Agrees, Sound}
use Rattle.arc_base.specs.Stepping.{Next, behaviour}
use Rattle.arc_base.proofs.ForCallers.{agrees_by_pairs, paced_by_pairs, steady, steps_one, steps_none}
use Rattle.rv32_isa.specs.Machine.{Lives}
use Rattle.nim_types.specs.declared.types.TypeDef.{TypeDef}
use Rattle.nim_types.specs.Table.{IsTable}
use Rattle.flat_code.specs.declared.block.BlockLine.{BlockLine}
use Rattle.flat_code.specs.declared.code.CodeProc.{CodeProc}
use Rattle.flat_code.specs.declared.code.Code.{Code}
use Rattle.word_code.specs.Memory.{Memory}
use Rattle.flat_code.specs.Scene.{Known, known_in}
use Rattle.flat_code.specs.Codes.{block_label, block_does, proc_of, procs_of, block_meaning, block_within}
use Rattle.flat_code.specs.Running.{Machine, ShowsAlike, Counting, Going, counting_step, at_first, runs}
use Rattle.flat_code.proofs.ForCallers.{agrees_as, paced_as, sound_as, sound_within, stands_still, unbounded}
use Rattle.word_code.specs.Words.{WordState, is_word_code, if_formed, word_meaning, word_by_units, start as word_start, Fresh, step_of}
use Rattle.word_code.proofs.ForCallers.{MemoryLaw, Sized}
use Rattle.word_code.specs.declared.word.WordCode.{WordCode}
use Rattle.word_lowering.specs.declared.lowering.TheConstants.{WORD_PACE, MOST_HEAP, WORD_LATE}
use Rattle.word_lowering.specs.Stored.{HaveForms}
use Rattle.word_lowering.specs.Layouts.{is_empty}
use Rattle.word_lowering.specs.LineCode.{all_labels, first_hook}
use Rattle.word_lowering.specs.Lowered.{data_of, lowered, lowered_procs, start_around}
use Rattle.word_lowering.specs.MayLower.{may_lower}
use Rattle.word_lowering.specs.Lowers.{HasNoObjects, IsFitting, AreSilent, IsLowered, Lowers, LowersWithRuntime}
use Rattle.word_lowering.specs.Runtimes.{Runtimes, with_runtimes}
use Rattle.word_lowering.proofs.HookProcs.{HookLaws, TableBounds}
use Rattle.word_lowering.proofs.NamedProcs.{all_apart, is_formed, procs_are_quiet}
use Rattle.word_lowering.proofs.SmallProcs.{are_small, capped_rank, are_ranked, capped_short, unhooked, own_room}
use Rattle.word_lowering.proofs.DataSizes.{data_whole, data_sized, data_within, defs_within}
use Rattle.word_lowering.proofs.FirstWrites.{writing}
use Rattle.word_lowering.proofs.TextBytes.{texts_built}
use Rattle.rv32_isa.specs.Regions.{AreBytes}
use Rattle.word_lowering.proofs.RoomBounds.{start_most}
use Rattle.word_lowering.proofs.FirstMemory.{first_memory, whole_length, good_first, sized_first, start_room}
use Rattle.word_lowering.proofs.Related.{Both, with_rest, MemoryGood, low}
use Rattle.word_lowering.proofs.Bounded.{IsBounded, bounded_by_pairs}
use Rattle.word_lowering.proofs.StandsAlike.{stands_alike}
use Rattle.word_lowering.proofs.Lines.{Basis, IsGood, Pair, going, pairs, lines_left, machine}
use Rattle.word_lowering.proofs.BasisOf.{basis_of}
use Rattle.word_lowering.proofs.Traps.{traps_stop, labels_lead, own_labels, argument_labels}
use Rattle.word_lowering.proofs.EachLine.{line_completes}
use Rattle.word_lowering.proofs.HookBasis.{hook_basis}
use Rattle.word_lowering.proofs.StartState.{Begins, begins}
use Rattle.word_lowering.proofs.Sites.{Site, next_base}
use Rattle.rv32_isa.specs.Image.{stack_at}
use Rattle.arc_base.specs.Simulation.{Does, AreOf, Steps}
use Rattle.arc_base.specs.Pace.{PacedFrom}
use Rattle.word_lowering.proofs.Late.{does_more, late_paced}
use Rattle.word_lowering.proofs.CodeWeights.{weight_by}

-- ---- code that is never at a fault

-- it has a start code
some_procs : (types : Known) (procs : List (CodeProc BlockLine)) (heap : ℕ) (input : List ℕ)
    → Sound (runs block_label (block_does types) (map (proc_of types) procs) heap input)
    → (p : CodeProc BlockLine) × (ps : List (CodeProc BlockLine)) × (procs ≡ p ∷ ps)
some_procs types [] heap input ok = absurd (ok.no_fault 1 refl)
some_procs types (p ∷ ps) heap input ok = (p, ps, refl)

-- ---- agreement

module _ (live : Lives) (none : HasNoObjects live) (table : List TypeDef) (blocks : Code BlockLine) (is_table : IsTable table) (have : HaveForms table)
    (may : may_lower table blocks ≡ true) (runtime : Runtimes) (law : MemoryLaw) (laws : HookLaws) (bounds : TableBounds table) (fresh : Fresh) (heap stack : ℕ)
    (input : List ℕ)
    (most : heap ≤ MOST_HEAP) (fits : IsFitting table blocks) (silent : AreSilent blocks.procs)
    (letters : AreBytes (data_of table blocks.procs)) (labels : all_labels blocks.procs ≤ 4294967295) where
  abbrev code : WordCode
  code = with_runtimes runtime (lowered table blocks)

  abbrev first : Memory
  first = first_memory code heap stack

  abbrev low_step : ℕ × WordState → Next Event (ℕ × WordState)
  low_step = step_of live code.procs fresh

  -- with so many units, or as many as there are
  abbrev low_first : Option ℕ → ℕ × WordState
  low_first units = (0, record (word_start code heap stack input) { units = units })

  abbrev block_first : Machine BlockLine
  block_first = at_first block_label (block_does (known_in table)) (procs_of (known_in table) blocks) heap input

  abbrev high_step : Counting BlockLine → Next Event (Counting BlockLine)
  high_step c = counting_step block_label (block_does (known_in table)) (procs_of (known_in table) blocks) c

  abbrev high_first : Option ℕ → Counting BlockLine
  high_first units = Going units block_first

  module _ (p : CodeProc BlockLine) (ps : List (CodeProc BlockLine)) (some : blocks.procs ≡ p ∷ ps) where
    abbrev x : Basis
    x = basis_of laws table bounds blocks may runtime live fresh none is_table have fits labels silent heap stack law

    sized : Sized first
    sized = sized_first table blocks runtime heap stack most (start_most laws table blocks may runtime) (data_within table blocks may)
        runtime.is_others.data_most

    memory : (sites : List Site) → next_base sites ≡ stack_at + start_room code → MemoryGood table blocks sites first first
    memory = good_first table blocks runtime heap stack sized

    not_empty : is_empty blocks.procs ≡ false
    not_empty = ap is_empty some

    -- one line
    follows_line : (g : Both) → IsGood x g → (before : ℕ) →
        Does (machine x) (AreOf (pairs x)) (lines_left x) WORD_PACE (before, low table blocks g) (going x g) (high_step (going x g))
    follows_line g y = by g.rest y
      where
        by : (lines : List BlockLine) → IsGood x (with_rest g lines) → (before : ℕ) →
            Does (machine x) (AreOf (pairs x)) (lines_left x) WORD_PACE (before, low table blocks (with_rest g lines)) (going x (with_rest g lines))
            (high_step (going x (with_rest g lines)))
        by [] z = λ before. tt
        by (line ∷ rest) z =
            line_completes x (labels_lead x) (traps_stop x) (own_labels x) (argument_labels x)
            (writing x heap stack refl is_table have not_empty (data_within table blocks may) (defs_within table blocks may)) (texts_built x letters)
            (hook_basis x is_table have) g rest line z

    -- and a run that stands still
    follows : (y : Pair x) → Does (machine x) (AreOf (pairs x)) (lines_left x) WORD_PACE ((pairs x).low y) ((pairs x).high y) (high_step ((pairs x).high y))
    follows (inl y) = follows_line y.0 y.1 y.2
    follows (inr y) = (
      (suc y.2, y.0),
      1,
      steps_one (machine x) (y.2, y.0) (suc y.2, y.0) [] 0 0 (y.1 y.2) (omega arith),
      (inr (y.0, y.1, suc y.2), refl, refl),
      inl (omega arith),
    )

    module _ (units : Option ℕ) where
      abbrev first_lines : Begins table blocks runtime units heap stack input live
      first_lines = begins table blocks runtime units heap stack input laws is_table have fits may labels p ps some memory live

      -- some of word code may come before them
      abbrev first_steps : (behind : ℕ) × Steps low_step first_lines.before (low_first units) [] first_lines.before (behind, low table blocks first_lines.both)
      first_steps = first_lines.runs.by fresh 0

      abbrev first_pair : Pair x
      first_pair = inl (first_lines.both, first_lines.good, first_steps.0)

      first_same : (pairs x).high first_pair ≡ high_first units
      first_same = ap₂ Going first_lines.units_are first_lines.same

      abbrev Of : (Behaviour Event → Behaviour Event → Type 0) → Type 0
      Of P = Sound (behaviour high_step (high_first units)) → P (behaviour low_step (low_first units)) (behaviour high_step (high_first units))

      -- at a pace at which that is no more than one work
      follows_late : (y : Pair x) → Does (machine x) (AreOf (pairs x)) (lines_left x) (WORD_PACE * WORD_LATE) ((pairs x).low y) ((pairs x).high y)
          (high_step ((pairs x).high y))
      follows_late y =
          does_more (machine x) (AreOf (pairs x)) (lines_left x) WORD_PACE (WORD_PACE * WORD_LATE) (omega arith) ((pairs x).low y) ((pairs x).high y)
          (high_step ((pairs x).high y)) (follows y)

      few_first : first_lines.before ≤ WORD_PACE * 32
      few_first = let few = first_lines.few in omega (arith, few)

      few_late : first_lines.before ≤ WORD_PACE * WORD_LATE
      few_late = let few = first_lines.few in omega (arith, few)

      agrees_run : Of (λ a b. Agrees a b)
      agrees_run ok =
          subst (λ t. Agrees (behaviour low_step (low_first units)) (behaviour high_step t)) first_same
          (agrees_by_pairs low_step high_step (pairs x) (lines_left x) (WORD_PACE * WORD_LATE) first_lines.before follows_late few_late
          (low_first units) first_pair first_lines.before first_steps.1
          (subst (λ t. Sound (behaviour high_step t)) (sym first_same) ok))

      paced_run : Of (λ a b. PacedFrom WORD_PACE WORD_LATE a b)
      paced_run ok =
          subst (λ t. PacedFrom WORD_PACE WORD_LATE (behaviour low_step (low_first units)) (behaviour high_step t)) first_same
          (late_paced low_step (low_first units) ((pairs x).low first_pair) first_lines.before first_lines.before WORD_PACE 32 first_steps.1 few_first
          (behaviour high_step ((pairs x).high first_pair))
          (paced_by_pairs low_step high_step (pairs x) (lines_left x) WORD_PACE 0 follows (omega arith) ((pairs x).low first_pair) first_pair 0
          (steps_none low_step ((pairs x).low first_pair) 0) (subst (λ t. Sound (behaviour high_step t)) (sym first_same) ok)))

      bounded_run : Of (λ a b. IsBounded WORD_PACE WORD_LATE a b)
      bounded_run ok =
          subst (λ t. IsBounded WORD_PACE WORD_LATE (behaviour low_step (low_first units)) (behaviour high_step t)) first_same
          (bounded_by_pairs low_step high_step (pairs x) (lines_left x) WORD_PACE WORD_LATE first_lines.before follows few_late (low_first units)
          first_pair first_lines.before first_steps.1
          (subst (λ t. Sound (behaviour high_step t)) (sym first_same) ok))

  -- the same of code that is well formed
  if_formed_so : (units : Option ℕ) (P : Behaviour Event → Behaviour Event → Type 0)
      → ((p : CodeProc BlockLine) (ps : List (CodeProc BlockLine)) → blocks.procs ≡ p ∷ ps
      → P (behaviour low_step (low_first units)) (behaviour high_step (high_first units)))
      → Sound (block_meaning table blocks heap input)
      → P (if_formed (is_word_code code) (behaviour low_step (low_first units))) (behaviour high_step (high_first units))
  if_formed_so units P h ok =
      let some = some_procs (known_in table) blocks.procs heap input ok in
      subst (λ b. P (if_formed b (behaviour low_step (low_first units))) (behaviour high_step (high_first units)))
      (sym (is_formed laws table blocks may runtime)) (h some.0 some.1 some.2)

  -- with as many units as there are it is the machine that doesn't count
  free : (n : ℕ) → behaviour high_step (high_first None) n ≡ block_meaning table blocks heap input n
  free n = unbounded block_label (block_does (known_in table)) (procs_of (known_in table) blocks) n block_first [] 0

  sound_free : Sound (block_meaning table blocks heap input) → Sound (behaviour high_step (high_first None))
  sound_free ok = sound_as (block_meaning table blocks heap input) (behaviour high_step (high_first None)) (λ n. sym (free n)) ok

  sound_counted : (units : ℕ) → Sound (block_meaning table blocks heap input) → Sound (behaviour high_step (high_first (Some units)))
  sound_counted units ok = sound_within block_label (block_does (known_in table)) (procs_of (known_in table) blocks) units heap input ok

  agrees : Sound (block_meaning table blocks heap input)
      → Agrees (word_meaning live code fresh heap stack input) (block_meaning table blocks heap input)
  unfolding word_start
  agrees ok =
      agrees_as (word_meaning live code fresh heap stack input) (behaviour high_step (high_first None)) (block_meaning table blocks heap input) free
      (if_formed_so None (λ a b. Agrees a b) (λ p ps some. agrees_run p ps some None (sound_free ok)) ok)

  paced : Sound (block_meaning table blocks heap input)
      → PacedFrom WORD_PACE WORD_LATE (word_meaning live code fresh heap stack input) (block_meaning table blocks heap input)
  unfolding word_start
  paced ok =
      paced_as WORD_PACE WORD_LATE (word_meaning live code fresh heap stack input) (behaviour high_step (high_first None))
      (block_meaning table blocks heap input) free
      (if_formed_so None (λ a b. PacedFrom WORD_PACE WORD_LATE a b) (λ p ps some. paced_run p ps some None (sound_free ok)) ok)

  -- where block code stands still
  still : (units : ℕ) → (lines : ℕ) × ((more : ℕ) → behaviour high_step (high_first (Some units)) (lines + more)
      ≡ behaviour high_step (high_first (Some units)) lines)
  still units = stands_still block_label (block_does (known_in table)) (procs_of (known_in table) blocks) units heap input

  abbrev IsExact : (low high : Behaviour Event) → Type 0
  IsExact low high = (from lines : ℕ) × ((more : ℕ) → ShowsAlike (low (from + more)) (high (lines + more)))

  exact_run : (p : CodeProc BlockLine) (ps : List (CodeProc BlockLine)) → blocks.procs ≡ p ∷ ps → (units : ℕ)
      → Sound (block_meaning table blocks heap input)
      → IsExact (behaviour low_step (low_first (Some units))) (behaviour high_step (high_first (Some units)))
  exact_run p ps some units ok =
      let low = behaviour low_step (low_first (Some units)) in
      let high = behaviour high_step (high_first (Some units)) in
      let s = still units in
      let counted = sound_counted units ok in
      let same = stands_alike low high (steady low_step (low_first (Some units))) (steady high_step (high_first (Some units))) counted
      (agrees_run p ps some (Some units) counted) s.0 s.1 in
      (same.0, s.0, λ more. subst (ShowsAlike (low (same.0 + more))) (sym (s.1 more)) (same.1 more))

  exact_counted : (units : ℕ) → Sound (block_meaning table blocks heap input)
      → IsExact (word_by_units live code fresh heap stack input units) (block_within table blocks units heap input)
  exact_counted units ok = if_formed_so (Some units) IsExact (λ p ps some. exact_run p ps some units ok) ok

  -- it does at most so many times the work of block code at some moment
  bounded_counted : (units : ℕ) → Sound (block_meaning table blocks heap input)
      → IsBounded WORD_PACE WORD_LATE (word_by_units live code fresh heap stack input units) (block_within table blocks units heap input)
  bounded_counted units ok =
      if_formed_so (Some units) (λ a b. IsBounded WORD_PACE WORD_LATE a b) (λ p ps some. bounded_run p ps some (Some units) (sound_counted units ok)) ok

-- ---- the whole

module _ (table : List TypeDef) (blocks : Code BlockLine) (is_table : IsTable table) (have : HaveForms table) (may : may_lower table blocks ≡ true)
    (law : MemoryLaw) (laws : HookLaws) (bounds : TableBounds table) (letters : AreBytes (data_of table blocks.procs))
    (labels : all_labels blocks.procs ≤ 4294967295) where
  lowers_with : (runtime : Runtimes) → Lowers table blocks (with_runtimes runtime (lowered table blocks))
  lowers_with runtime = record {
    agrees = λ live fresh heap stack input none most fits silent ok.
        agrees live none table blocks is_table have may runtime law laws bounds fresh heap stack input most fits silent letters labels ok;
    paced = λ live fresh heap stack input none most fits silent ok.
        paced live none table blocks is_table have may runtime law laws bounds fresh heap stack input most fits silent letters labels ok;
    exact = λ live fresh heap stack input none most fits silent ok units.
        exact_counted live none table blocks is_table have may runtime law laws bounds fresh heap stack input most fits silent letters labels units ok;
    bounded = λ live fresh heap stack input none most fits silent ok units.
        bounded_counted live none table blocks is_table have may runtime law laws bounds fresh heap stack input most fits silent letters labels units ok;
    formed = is_formed laws table blocks may runtime;
    rank = capped_rank laws table blocks runtime is_table have bounds.short;
    ranked = are_ranked laws table blocks runtime is_table have bounds.short;
    chain = capped_short laws table blocks runtime is_table have bounds.short;
    small = are_small table blocks may runtime;
    whole = let l = whole_length table blocks runtime 0 0 in let own = data_whole table blocks in let w = runtime.is_others.whole in omega (arith, l, own, w);
    data_most =
        let l = whole_length table blocks runtime 0 0 in
        let own = data_within table blocks may in
        let few = runtime.is_others.data_most in
        omega (arith, l, own, few);
    hooks = unhooked laws table blocks runtime;
  }

  pub lowers : LowersWithRuntime table blocks (lowered table blocks)
  lowers = record {
    apart = all_apart laws table blocks may;
    room = own_room table blocks;
    lowers = lowers_with;
    own = lowered_procs (start_around table blocks.procs) blocks.procs;
    first = first_hook blocks.procs;
    procs = refl;
    quiet = procs_are_quiet laws table blocks may;
    weight = weight_by table blocks.procs;
    whole = data_whole table blocks;
    data_size = data_sized table blocks;
  }

-- of the code that is given
pub lowers_given : (table : List TypeDef) (blocks : Code BlockLine) (words : WordCode) → IsTable table → HaveForms table → MemoryLaw → HookLaws
    → TableBounds table → AreBytes (data_of table blocks.procs) → all_labels blocks.procs ≤ 4294967295 → IsLowered table blocks words →
    LowersWithRuntime table blocks words
lowers_given table blocks words is_table have law laws bounds letters labels given =
    subst (LowersWithRuntime table blocks) (sym given.is) (lowers table blocks is_table have given.may law laws bounds letters labels)
