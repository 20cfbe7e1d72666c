-- All that stays the same in the runs of a code that may be lowered, with a runtime.
use Rattle.std.proofs.Common.{◌≤◌, List, [], ◌∷◌, Bool, false, refl, sym, ◌≡◌, inr, ℕ, ◌+◌, ◌%◌, length, drop, length-append, length-drop, true, subst, arith}
use Rattle.arc_base.specs.Behaviour.{no_objects}
use Rattle.rv32_isa.specs.Machine.{Lives}
use Rattle.nim_types.specs.declared.types.TypeDef.{TypeDef}
use Rattle.nim_types.specs.Table.{IsTable}
use Rattle.word_code.specs.declared.routine.TheConstants.{SCRATCH_BYTES}
use Rattle.flat_code.specs.declared.block.BlockLine.{BlockLine}
use Rattle.flat_code.specs.declared.code.Code.{Code}
use Rattle.word_code.specs.Memory.{Memory, as_state}
use Rattle.word_code.specs.Joined.{joined}
use Rattle.word_code.specs.Routines.{IsKept}
use Rattle.word_code.specs.RoutineTable.{routine}
use Rattle.word_code.specs.Runtime.{routines_at}
use Rattle.heap_memory.specs.declared.numbers.TheConstants.{HEAP_DATA}
use Rattle.word_code.proofs.ForCallers.{MemoryLaw}
use Rattle.word_lowering.specs.Stored.{HaveForms}
use Rattle.word_lowering.specs.LineCode.{all_labels}
use Rattle.word_lowering.specs.Linked.{laid_out}
use Rattle.word_lowering.specs.Lowered.{lowered}
use Rattle.word_lowering.specs.Lowers.{IsFitting, AreSilent}
use Rattle.word_lowering.specs.MayLower.{may_lower}
use Rattle.word_lowering.specs.Runtimes.{Runtimes, with_runtimes}
use Rattle.word_lowering.proofs.Related.{IsClosed, routines}
use Rattle.word_lowering.proofs.Lines.{Basis}
use Rattle.word_lowering.proofs.ProcCodes.{callee}
use Rattle.word_lowering.proofs.HookProcs.{HookLaws, TableBounds}
use Rattle.word_lowering.proofs.HooksThere.{hooks_there, cuts_there}
use Rattle.word_lowering.proofs.LaidOut.{among_laid}
use Rattle.word_lowering.proofs.NamedProcs.{all_apart}
use Rattle.word_lowering.proofs.Sites.{IsLaidOut, laid_from}
use Rattle.word_lowering.proofs.RoomBounds.{globals_inside, data_small, enums_may, sites_within}
use Rattle.word_lowering.proofs.DataEnd.{globals_behind, globals_whole}
use Rattle.word_lowering.proofs.DataSizes.{data_whole, data_within}
use Rattle.word_lowering.proofs.FirstConstants.{constant_first, text_first}
use Rattle.word_lowering.proofs.Related.{HandleThere, StandsThere}
use Rattle.word_lowering.proofs.SmallWords.{AllSmall}
use Rattle.word_lowering.specs.Layouts.{is_empty}
use Rattle.flat_code.specs.declared.code.CodeProc.{CodeProc}
use Rattle.flat_code.specs.declared.line.Piece.{Piece}
use Rattle.flat_code.specs.Codes.{block_plain}
use Rattle.flat_code.specs.Pieces.{piece_words, standing_bytes}
use Rattle.nim_types.specs.Types.{same_text}
use Rattle.std.specs.Set.{is_member}
use Rattle.std.proofs.lemmas.Bool.{true≢false}
use Rattle.word_lowering.specs.declared.may_lower.TheConstants.{MOST_DATA}
use Rattle.word_lowering.specs.declared.texts.TheConstants.{FIXED_BYTES}
use Rattle.word_lowering.proofs.FirstMemory.{first_memory, globals, own, routines_given, letter_first, handles_first}
use Rattle.word_lowering.proofs.TypeDefaults.{type_default, type_blank, type_seen}
use Rattle.word_lowering.proofs.TypeRules.{type_compared, type_plain, type_unhooked, type_hooked, type_resource, type_built, type_built_object, type_fields}
use Rattle.word_lowering.proofs.TypeRules.{type_object, type_converted, type_limit}
use Rattle.word_lowering.proofs.TypeShapes.{type_part, type_shaped}
use Rattle.word_code.specs.Words.{Fresh}

module _ (laws : HookLaws) (table : List TypeDef) (bounds : TableBounds table) (blocks : Code BlockLine) (may : may_lower table blocks ≡ true)
    (runtime : Runtimes) where
  -- the data of routines that stays is beside all places
  pub closed : IsClosed table blocks (routines table blocks + SCRATCH_BYTES) (length (drop SCRATCH_BYTES runtime.others.statics))
  closed =
      let inside = globals_inside table blocks in
      let most = data_within table blocks may in
      let few = runtime.is_others.data_most in
      let least = runtime.is_others.data_least in
      let d = length-drop SCRATCH_BYTES runtime.others.statics in
      inr (omega (arith, inside), omega (arith, most, few, least, d))

  -- the data in front of that of routines
  front_long : length (joined runtime.heap (lowered table blocks)).statics ≡ HEAP_DATA + length (lowered table blocks).statics
  front_long =
      let l = length-append runtime.heap.statics (lowered table blocks).statics in let h = runtime.is_heap.long in omega (arith, l, h)

  pub front_whole : length (joined runtime.heap (lowered table blocks)).statics % 4 ≡ 0
  front_whole = let l = front_long in let own = data_whole table blocks in omega (arith, l, own)

  pub routines_are : routines_at (joined runtime.heap (lowered table blocks)) ≡ routines table blocks
  routines_are = let l = front_long in omega (arith, l)

  -- what stands in the data; code without procedures has none
  module _ (heap stack : ℕ) where
    abbrev start : Memory
    start = first_memory (with_runtimes runtime (lowered table blocks)) heap stack

    abbrev IsAmong : List ℕ → Type 0
    IsAmong text = IsLaidOut table blocks text

    none_among : (procs : List (CodeProc BlockLine)) (text : List ℕ) → is_empty procs ≡ true
        → is_member same_text (laid_out (laid_from table blocks) procs) text ≡ true → ⊥
    none_among [] text e h = absurd (true≢false (sym h))
    none_among (p ∷ procs) text e h = absurd (true≢false (sym e))

    where_some : (P : Type 0) (text : List ℕ) → IsAmong text
        → (FIXED_BYTES ≤ globals table blocks → globals table blocks % 4 ≡ 0 → length (own table blocks) ≤ MOST_DATA → P) → P
    where_some P text among go = by (is_empty blocks.procs) refl
      where
        by : (b : Bool) → is_empty blocks.procs ≡ b → P
        by true e = absurd (none_among blocks.procs text e among)
        by false e = go (globals_behind table blocks e) (globals_whole table blocks) (data_within table blocks may)

    pub constants_first : (pieces : List Piece) → AllSmall (piece_words pieces) → IsAmong (standing_bytes pieces) → StandsThere table blocks start pieces
    constants_first pieces small among =
        where_some (StandsThere table blocks start pieces) (standing_bytes pieces) among
        (λ least whole most. constant_first table blocks runtime heap stack least whole most pieces small among)

    pub texts_first : (text : List ℕ) → IsAmong text → HandleThere table blocks start text
    texts_first text among =
        where_some (HandleThere table blocks start text) text among
        (λ least whole most. text_first table blocks runtime heap stack least whole most text among)

  abbrev pub basis_of : (live : Lives) → Fresh → ((m : Memory) → live (as_state m) ≡ no_objects) → IsTable table → HaveForms table
      → IsFitting table blocks → all_labels blocks.procs ≤ 4294967295 → AreSilent blocks.procs → (heap stack : ℕ) → MemoryLaw → Basis
  basis_of live fresh none is_table have fitting labels silent heap stack law = record {
    live = live;
    fresh = fresh;
    table = table;
    blocks = blocks;
    first = first_memory (with_runtimes runtime (lowered table blocks)) heap stack;
    law = law;
    small = data_small table blocks may;
    within = sites_within table blocks;
    defaults = type_default table is_table (enums_may table blocks may) have;
    blanks = type_blank table is_table (enums_may table blocks may) have;
    seen = type_seen table is_table (enums_may table blocks may) have;
    compared = type_compared table is_table have;
    plains = type_plain table is_table have;
    unhooked = type_unhooked table is_table have;
    hooks = type_hooked table is_table have;
    shaped = type_shaped table is_table have;
    resources = type_resource table is_table have;
    fields = type_fields table is_table have;
    built_fields = type_built table is_table have;
    objects = type_object table is_table have;
    built_objects = type_built_object table is_table have;
    parts_at = λ ty all field s look nth. type_part table is_table have ty all field look;
    conversions = type_converted table is_table have;
    limits = type_limit table is_table have;
    none = none;
    callees = callee table blocks is_table have fitting may labels silent;
    runtimes = runtime;
    kept = λ name. subst (λ a. IsKept live (with_runtimes runtime (lowered table blocks)).procs a runtime.others.statics (routine a name)) routines_are
        (runtime.is_others.kept live (joined runtime.heap (lowered table blocks)) (all_apart laws table blocks may runtime).1 front_whole name);
    given = routines_given table blocks runtime heap stack runtime.is_others.data_least;
    hooks_there = hooks_there laws table blocks runtime;
    cuts_there = cuts_there laws table blocks runtime;
    short = bounds.short;
    elements_small = bounds.small;
    globals_inside = globals_inside table blocks;
    data_most = data_within table blocks may;
    given_closed = closed;
    constants = λ pieces small among.
        constants_first heap stack pieces small (among_laid (laid_from table blocks) blocks.procs (standing_bytes pieces) among);
    laid = λ text among. texts_first heap stack text among;
    letter = letter_first table blocks runtime heap stack;
    handles = λ least places i size within whole. handles_first table blocks runtime heap stack least places i size within whole;
  }
