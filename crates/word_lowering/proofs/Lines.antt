-- How lines of block code are followed, and what is true behind one that changes one place.
use Rattle.std.proofs.Common.{◌≡◌, ◌≢◌, ◌⊎◌, inl, inr, ℕ, zero, suc, ◌+◌, ◌*◌, ◌<◌, ◌≤◌, List, [], ◌∷◌, ◌++◌, length, drop}
use Rattle.word_lowering.specs.declared.texts.TheConstants.{FIXED_BYTES}
use Rattle.std.proofs.Common.{map, Option, Some, None, Bool, true, false}
use Rattle.std.proofs.Common.{refl, sym, ap, subst, ◌∙◌, arith, append_assoc}
use Rattle.std.specs.Prelude.{option_map, slice_get, ◌%◌, ◌==◌, ◌&&◌}
use Rattle.std.proofs.lemmas.Bool.{and_parts}
use Rattle.arc_base.specs.Event.{Event}
use Rattle.arc_base.specs.Behaviour.{no_objects}
use Rattle.arc_base.specs.Stepping.{Next, Goes, Ends, Faults, Errs, next_map}
use Rattle.arc_base.specs.Simulation.{Does, Pairs, AreOf}
use Rattle.rv32_isa.specs.Image.{stack_at}
use Rattle.rv32_isa.specs.Machine.{Lives}
use Rattle.nim_types.specs.declared.types.TypeDef.{TypeDef}
use Rattle.nim_types.specs.Table.{type_at, types_in, facts_in}
use Rattle.nim_meaning.specs.Values.{Value, Operand, default_of}
use Rattle.nim_meaning.specs.State.{World}
use Rattle.nim_meaning.specs.Acts.{branch}
use Rattle.nim_meaning.specs.Places.{Destination, looked_as}
use Rattle.flat_code.specs.declared.line.UseAt.{UseAt}
use Rattle.nim_program.specs.Kinds.{kind_of, field_at, plain_kind, is_compared, is_resource}
use Rattle.nim_program.specs.declared.operation.Comparison.{Comparison}
use Rattle.nim_meaning.specs.Table.{limit_of}
use Rattle.nim_types.specs.Forms.{hooked, form_of}
use Rattle.nim_program.specs.Fitting.{is_built}
use Rattle.word_lowering.proofs.ShapePaths.{shapes_before}
use Rattle.nim_program.specs.declared.operation.Operation.TheVariants as O
use Rattle.nim_types.specs.Types.{Ty}
use Rattle.flat_code.specs.Fits.{operation_fits}
use Rattle.word_lowering.proofs.ShapeFacts.{of_numbers, nth_shape}
use Rattle.flat_code.specs.Shapes.{Shape, number, parts, Shapes}
use Rattle.word_lowering.specs.OwnedCode.{is_text}
use Rattle.word_lowering.specs.Stored.{entry_at, is_hooked, limit_at, part_at}
use Rattle.flat_code.specs.declared.line.From.{From}
use Rattle.flat_code.specs.Lines.{using_all, fetch}
use Rattle.flat_code.specs.declared.block.BlockLine.{BlockLine}
use Rattle.flat_code.specs.declared.code.Code.{Code}
use Rattle.word_code.specs.declared.word.TheConstants.{SPARE_ROOM}
use Rattle.word_code.specs.declared.word.WordProc.{WordProc}
use Rattle.rv32_isa.specs.declared.micro_op.Size.{Size}
use Rattle.rv32_isa.specs.declared.micro_op.Size.TheVariants.{Byte}
use Rattle.rv32_isa.specs.Steps.{size_of}
use Rattle.word_code.specs.declared.routine.TheConstants.{SCRATCH_BYTES}
use Rattle.word_code.specs.Routines.{HasData, IsKept}
use Rattle.word_code.specs.RoutineTable.{RoutineName, Copies, Clears, Swaps, routine}
use Rattle.word_code.specs.Memory.{KeepsShape, Memory, as_state, may_put}
use Rattle.word_code.specs.Words.{Vars, WordState, step, Fresh, step_of}
use Rattle.word_code.specs.Words.{spent, scene_of, onward as word_onward, does as word_does, settled as word_settled, Spends as WordSpends}
use Rattle.word_code.proofs.ForCallers.{MemoryLaw, Runs, at, one, then_runs}
use Rattle.nim_meaning.specs.Deeds.{Answers}
use Rattle.flat_code.specs.Scene.{Temps, Did, Passes, Known, known_in}
use Rattle.flat_code.specs.Lines.{using}
use Rattle.flat_code.specs.Shapes.{has_shape, shape_of}
use Rattle.flat_code.specs.Fits.{Signature, fits}
use Rattle.flat_code.specs.Running.{Machine, Counting, Going, Standing, onward, settled, spends}
use Rattle.flat_code.specs.Running.{scene_of as block_scene, within as within_units}
use Rattle.flat_code.specs.Codes.{block_label, block_does, procs_of, block_plain}
use Rattle.word_lowering.specs.declared.may_lower.TheConstants.{MOST_DATA}
use Rattle.nim_types.specs.declared.types.TheConstants.{LIST_BYTES}
use Rattle.hook_code.specs.Kept.{AreShort, HaveSmallElements, AreThere, CutsAreThere}
use Rattle.word_lowering.specs.declared.lowering.TheConstants.{MOST_CHAIN}
use Rattle.word_lowering.specs.LineCode.{value, first_hook}
use Rattle.word_lowering.specs.Lowered.{data_at, lowered}
use Rattle.word_lowering.specs.Runtimes.{Runtimes, with_runtimes}
use Rattle.word_lowering.proofs.RoutineCalls.{Reaches}
use Rattle.word_lowering.proofs.Sites.{Body, Site, AmongSites, next_base, data_end}
use Rattle.word_lowering.proofs.LaidOut.{among_laid}
use Rattle.word_lowering.proofs.Sites.{Linked, IsLaidOut, laid_from, around, sigs, globals_of, is_one_word}
use Rattle.word_lowering.proofs.Blocks.{HasHeap}
use Rattle.word_lowering.proofs.HeapKept.{SameHeap, heap_then}
use Rattle.word_lowering.proofs.Scenes.{Ground, is_fixed, IsLater, Name, of_value, Call, site_of, Holding}
use Rattle.word_lowering.proofs.SitesApart.{site_at, variable_high}
use Rattle.word_lowering.proofs.Keeping.{AmongCalls, call, Edit, nowhere, Worlds, worlds_same, Kept, New, holding_kept, all_kept, later_ground}
use Rattle.word_lowering.proofs.OrdinalRuns.{AllSame}
use Rattle.word_lowering.proofs.Callees.{Callee}
use Rattle.word_lowering.proofs.KeptCode.{none_kept, value_waits}
use Rattle.word_lowering.proofs.Related.{Both, body_of, called_by, sites_of, with_rest, with_units, procs, low, high, within as call_within, code_behind}
use Rattle.word_lowering.proofs.Related.{code_past, IsClosed, routines}
use Rattle.word_lowering.proofs.Related.{MemoryGood}
use Rattle.word_lowering.proofs.Related.{StandAt, AllFrames, Good, HandleThere, StandsThere, store_of, store_with}
use Rattle.arc_base.proofs.ForCallers.{steps_none, steps_one, steps_on}
use Rattle.word_code.specs.declared.word.WordInstr.{WordInstr}
use Rattle.flat_code.specs.declared.line.Piece.{Piece}
use Rattle.word_lowering.proofs.SmallWords.{AllSmall}
use Rattle.flat_code.specs.Pieces.{piece_words, standing_bytes}
use Rattle.std.specs.Set.{is_member}
use Rattle.nim_types.specs.Types.{same_text}
use Rattle.flat_code.specs.Sizes.{code_texts}
use Rattle.word_lowering.proofs.BlankShapes.{blank_in, of_handles, seen_in}

-- what stays the same in all runs of a code
pub record Basis : Type 0 where
  pub live : Lives
  -- the bytes that nobody has written of places which come
  pub fresh : Fresh
  pub table : List TypeDef
  pub blocks : Code BlockLine
  pub first : Memory
  pub law : MemoryLaw
  pub small : data_end table blocks ≤ MOST_DATA
  -- the places of active calls, and behind them those for arguments and those of a chain of hooks, are within the machine's stack
  pub within : (sites : List Site) → Linked table blocks sites → next_base sites + SPARE_ROOM + LIST_BYTES * MOST_CHAIN ≤ stack_at + 268435456
  -- what a type starts at has its shape
  pub defaults : (ty : ℕ) → has_shape (default_of (facts_in table) (type_at (types_in table) ty)) (shape_of (facts_in table) (type_at (types_in table) ty))
      ≡ true
  pub blanks : (ty : ℕ) → default_of (facts_in table) (type_at (types_in table) ty) ≡ blank_in (shape_of (facts_in table) (type_at (types_in table) ty))
  -- what is looked at of a value
  pub seen : (ty : ℕ) (v : Value) → looked_as (form_of (facts_in table) (type_at (types_in table) ty)) v
      ≡ seen_in (shape_of (facts_in table) (type_at (types_in table) ty)) v
  -- what is compared is a number, unless it comes with the heap
  pub compared : (ty : ℕ) (comparison : Comparison) → is_compared comparison (plain_kind (facts_in table) (type_at (types_in table) ty)) ≡ true
      → is_hooked table ty ≡ false
      → (values : Option ℕ) × (shape_of (facts_in table) (type_at (types_in table) ty) ≡ number values) × (is_text (entry_at table ty) ≡ false)
  -- what comes without the heap is made of numbers
  pub plains : (ty : ℕ) → is_hooked table ty ≡ false → of_numbers (shape_of (facts_in table) (type_at (types_in table) ty)) ≡ true
  pub unhooked : (ty : ℕ) → is_hooked table ty ≡ false → hooked (form_of (facts_in table) (type_at (types_in table) ty)) ≡ false
  -- what has hooks by its number in the table has them by its type
  pub hooks : (ty : ℕ) → is_hooked table ty ≡ hooked (form_of (facts_in table) (type_at (types_in table) ty))
  pub shaped : (ty : ℕ) → is_hooked table ty ≡ true → of_numbers (shape_of (facts_in table) (type_at (types_in table) ty)) ≡ false
  -- an object with hooks of its own isn't made of numbers
  pub resources : (ty : ℕ) → is_resource (kind_of (facts_in table) (type_at (types_in table) ty)) ≡ true
      → of_numbers (shape_of (facts_in table) (type_at (types_in table) ty)) ≡ false
  -- what has fields has parts of their shapes
  pub fields : (ty field : ℕ) (of : Ty) → field_at (kind_of (facts_in table) (type_at (types_in table) ty)) field ≡ Some of
      → of_numbers (shape_of (facts_in table) (type_at (types_in table) ty)) ≡ true → of_numbers (shape_of (facts_in table) of) ≡ true
      → (all : Shapes) × (shape_of (facts_in table) (type_at (types_in table) ty) ≡ parts all) × (nth_shape all field ≡ Some (shape_of (facts_in table) of))
  pub built_fields : (ty field : ℕ) (of : Ty) → field_at (kind_of (facts_in table) (type_at (types_in table) ty)) field ≡ Some of
      → of_handles (shape_of (facts_in table) (type_at (types_in table) ty)) ≡ true
      → is_one_word (shape_of (facts_in table) (type_at (types_in table) ty)) ≡ false
      → (all : Shapes) × (shape_of (facts_in table) (type_at (types_in table) ty) ≡ parts all) × (nth_shape all field ≡ Some (shape_of (facts_in table) of))
  -- an object in which there is a value has parts, each of the shape of its field
  pub objects : (ty : ℕ) → is_built (kind_of (facts_in table) (type_at (types_in table) ty)) ≡ true
      → of_numbers (shape_of (facts_in table) (type_at (types_in table) ty)) ≡ true
      → (all : Shapes) × (shape_of (facts_in table) (type_at (types_in table) ty) ≡ parts all)
      × ((field : ℕ) (of : Ty) → field_at (kind_of (facts_in table) (type_at (types_in table) ty)) field ≡ Some of
      → nth_shape all field ≡ Some (shape_of (facts_in table) of))
  pub built_objects : (ty : ℕ) → is_built (kind_of (facts_in table) (type_at (types_in table) ty)) ≡ true
      → of_handles (shape_of (facts_in table) (type_at (types_in table) ty)) ≡ true
      → (all : Shapes) × (shape_of (facts_in table) (type_at (types_in table) ty) ≡ parts all)
      × ((field : ℕ) (of : Ty) → field_at (kind_of (facts_in table) (type_at (types_in table) ty)) field ≡ Some of
      → nth_shape all field ≡ Some (shape_of (facts_in table) of))
  -- where they stand, by the table
  pub parts_at : (ty : ℕ) (all : Shapes) (field : ℕ) (s : Shape)
      → shape_of (facts_in table) (type_at (types_in table) ty) ≡ parts all → nth_shape all field ≡ Some s
      → part_at table ty field ≡ shapes_before all field
  -- conversions: of a value that has the other type's shape too, as all of them do or as a number, or of a number that is checked
  pub conversions : (ty from : ℕ)
      → operation_fits (facts_in table) O.Convert (Some (type_at (types_in table) ty)) (Some (type_at (types_in table) from) ∷ []) ≡ true
      → ((limit_of (facts_in table) (type_at (types_in table) ty) ≡ None)
      × ((v : Value) → has_shape v (shape_of (facts_in table) (type_at (types_in table) from)) ≡ true
      → has_shape v (shape_of (facts_in table) (type_at (types_in table) ty)) ≡ true)
      × ((shape_of (facts_in table) (type_at (types_in table) from) ≡ shape_of (facts_in table) (type_at (types_in table) ty))
      ⊎ ((of_numbers (shape_of (facts_in table) (type_at (types_in table) from)) ≡ true)
      × (of_numbers (shape_of (facts_in table) (type_at (types_in table) ty)) ≡ true))))
      ⊎ ((values : ℕ) × (other : Option ℕ) × (limit_of (facts_in table) (type_at (types_in table) ty) ≡ Some values)
      × (shape_of (facts_in table) (type_at (types_in table) ty) ≡ number (Some values))
      × (shape_of (facts_in table) (type_at (types_in table) from) ≡ number other))
  pub limits : (ty : ℕ) → limit_at table (Some ty) ≡ limit_of (facts_in table) (type_at (types_in table) ty)
  pub none : (m : Memory) → live (as_state m) ≡ no_objects
  -- procedures that may be called
  pub callees : (proc : ℕ) (s : Signature) → slice_get (sigs table blocks) proc ≡ Some s → Callee table blocks proc s
  -- routines keep what they promise, and have their data at the start
  pub runtimes : Runtimes
  pub kept : (name : RoutineName) → IsKept live (with_runtimes runtimes (lowered table blocks)).procs (routines table blocks) runtimes.others.statics
      (routine (routines table blocks) name)
  pub given : (places : List ℕ) → HasData (routines table blocks) runtimes.others.statics (record first { places = places })
  -- hooks of types are among the procedures
  pub hooks_there : AreThere table (first_hook blocks.procs) (with_runtimes runtimes (lowered table blocks)).procs
  pub cuts_there : CutsAreThere table (first_hook blocks.procs) (with_runtimes runtimes (lowered table blocks)).procs
  pub short : AreShort table
  pub elements_small : HaveSmallElements table
  pub globals_inside : data_end table blocks ≤ length (lowered table blocks).statics
  pub data_most : length (lowered table blocks).statics ≤ MOST_DATA
  pub given_closed : IsClosed table blocks (routines table blocks + SCRATCH_BYTES) (length (drop SCRATCH_BYTES runtimes.others.statics))
  -- the constants that stand in the data
  pub constants : (pieces : List Piece) → AllSmall (piece_words pieces)
      → is_member same_text (code_texts block_plain blocks.procs) (standing_bytes pieces) ≡ true → StandsThere table blocks first pieces
  -- the handles of texts, and of what else is laid out
  pub laid : (text : List ℕ) → IsLaidOut table blocks text → HandleThere table blocks first text
  -- a character may be put at the front of the data
  pub letter : (places : List ℕ) → may_put (record first { places = places }) data_at Byte ≡ true
  -- and handles for operands, in front of the globals
  pub handles : FIXED_BYTES ≤ data_end table blocks → (places : List ℕ) (i : ℕ) (size : Size) → i + size_of size ≤ FIXED_BYTES
      → ((data_at + i) % size_of size == 0) ≡ true → may_put (record first { places = places }) (data_at + i) size ≡ true

-- the texts of code are laid out
pub texts_laid : (x : Basis) (text : List ℕ) → is_member same_text (code_texts block_plain x.blocks.procs) text ≡ true → IsLaidOut x.table x.blocks text
texts_laid x text among = among_laid (laid_from x.table x.blocks) x.blocks.procs text among

abbrev pub text_laid : (x : Basis) (text : List ℕ) → is_member same_text (code_texts block_plain x.blocks.procs) text ≡ true
    → HandleThere x.table x.blocks x.first text
text_laid x text among = x.laid text (texts_laid x text among)

-- a program's procedures and those of routines
abbrev pub all_procs : Basis → List WordProc
all_procs x = (with_runtimes x.runtimes (lowered x.table x.blocks)).procs

abbrev pub reaches : (x : Basis) → Reaches x.live (all_procs x) (routines x.table x.blocks) x.runtimes.others.statics
reaches x = record { copies = x.kept Copies; clears = x.kept Clears; swaps = x.kept Swaps }

-- where memory is good, the data of routines is there, and a character may be put
module _ (x : Basis) (sites : List Site) (m : Memory) (good : MemoryGood x.table x.blocks sites x.first m) where
  -- the memory at the start, with these places
  abbrev pub with_these : Memory
  with_these = record x.first { places = m.places }

  pub same_sizes : KeepsShape (as_state with_these) (as_state m)
  same_sizes = record { regs = refl; pc = refl; code = refl; statics = good.statics; heap = good.heap; stack = refl; bytes = λ first. good.bytes }

  pub data_there : HasData (routines x.table x.blocks) x.runtimes.others.statics m
  data_there =
      let at : ℕ = routines x.table x.blocks in record {
        scratch = x.law.stores (as_state with_these) (as_state m) at SCRATCH_BYTES same_sizes ∙ (x.given m.places).scratch;
        fixed = good.texts (at + SCRATCH_BYTES) (length (drop SCRATCH_BYTES x.runtimes.others.statics)) (x.given_closed, inr (omega arith))
            ∙ (x.given x.first.places).fixed;
      }

  pub letter_there : may_put m data_at Byte ≡ true
  letter_there =
      ap (λ b. (data_at % 1 == 0) && b) (x.law.stores (as_state with_these) (as_state m) data_at 1 same_sizes) ∙ x.letter m.places

  pub handle_there : FIXED_BYTES ≤ data_end x.table x.blocks → (i : ℕ) (size : Size) → i + size_of size ≤ FIXED_BYTES
      → ((data_at + i) % size_of size == 0) ≡ true → may_put m (data_at + i) size ≡ true
  handle_there least i size within whole =
      ap (λ b. ((data_at + i) % size_of size == 0) && b) (x.law.stores (as_state with_these) (as_state m) (data_at + i) (size_of size) same_sizes)
      ∙ x.handles least m.places i size within whole

-- ---- where lines stand

module _ (table : List TypeDef) (blocks : Code BlockLine) (b : Body) (line : BlockLine) (rest : List BlockLine)
    (s : StandAt table blocks b (line ∷ rest)) where
  pub fits_here : fits (known_in table) (sigs table blocks) (globals_of table blocks) b.proc.places (block_plain line) ≡ true
  fits_here = (and_parts _ _ s.fits).0

  pub stands_next : StandAt table blocks b rest
  stands_next = record {
    before = s.before ++ line ∷ [];
    whole = s.whole ∙ sym (append_assoc s.before (line ∷ []) rest);
    fits = (and_parts _ _ s.fits).1;
  }

-- with other temporaries and variables, other memory, another world
abbrev pub changed : Both → List BlockLine → Temps → Vars → Memory → (words : Vars) → (awaits : ℕ) → World → Both
changed g rest temps vars m words awaits w = record {
  units = g.units;
  memory = m;
  input = g.input;
  world = w;
  call = call g.call.site temps vars;
  rest = rest;
  words = words;
  awaits = awaits;
  waiting = g.waiting;
  ground = g.ground;
}

-- also with other blocks, and other input
abbrev pub changed_later : Both → List BlockLine → Temps → Vars → Memory → (words : Vars) → (awaits : ℕ) → World → Ground → List ℕ → Both
changed_later g rest temps vars m words awaits w ground input = record (changed g rest temps vars m words awaits w) { ground = ground; input = input }

-- with other variables
abbrev pub with_vars : Both → Vars → Both
with_vars g vars = record g { call = call g.call.site g.call.temps vars }

-- what a value of the call is for, and where it waits
abbrev pub bound_for : Both → UseAt → Destination
bound_for g how = record { how = how.how; level = g.call.site.level; node = how.node }

abbrev pub starts : Both → BlockLine → List BlockLine → Both
starts g line rest = with_rest g (line ∷ rest)

module _ (x : Basis) where
  abbrev pub IsGood : Both → Type 0
  IsGood g = Good x.table x.blocks x.first g

  -- a line of word code, where new places have these bytes
  abbrev pub lower : List ℕ → WordState → Next Event WordState
  lower = step x.live (all_procs x)

  -- where they have those that nobody has written
  abbrev pub machine : ℕ × WordState → Next Event (ℕ × WordState)
  machine = step_of x.live (all_procs x) x.fresh

  abbrev pub known : Known
  known = known_in x.table

  -- word code that stands still where a unit is missing
  abbrev pub StandsStill : WordState → Type 0
  StandsStill s = (n : ℕ) → machine (n, s) ≡ Goes [] 0 (suc n, s)

  -- with the number of lines of word code that were done
  abbrev pub Pair : Type 0
  Pair = ((g : Both) × IsGood g × ℕ) ⊎ ((s : WordState) × StandsStill s × ℕ)

  -- where it goes on with lines, in front of the code for what a line's value waits in
  abbrev pub low_past : (lines : List BlockLine) → Both → WordState
  low_past [] g = low x.table x.blocks g
  low_past (line ∷ rest) g =
      at (call_within x.table x.blocks g) g.memory (code_past x.table x.blocks (body_of g) line g.rest) g.call.vars g.words

  abbrev low_of : (lines : List BlockLine) → Pair → ℕ × WordState
  low_of lines (inl y) = (y.2, low_past lines y.0)
  low_of lines (inr y) = (y.2, y.0)

  abbrev pub going : Both → Counting BlockLine
  going g = Going g.units (high x.table x.blocks g)

  -- where a line ends, and in which call
  abbrev pub ends_at : Both → Counting BlockLine × Site
  ends_at g = (going g, g.call.site)

  abbrev high_of : Pair → Counting BlockLine
  high_of (inl y) = going y.0
  high_of (inr y) = Standing

  abbrev pub pairs : Pairs Pair (ℕ × WordState) (Counting BlockLine)
  pairs = record { low = low_of []; high = high_of }

  -- whether the value of the first of some lines waits
  abbrev pub first_waits : (lines : List BlockLine) → Bool
  first_waits [] = false
  first_waits (line ∷ rest) = value_waits x.table (block_plain line)

  -- a line whose value waits stays in its call
  abbrev pub Stays : (lines : List BlockLine) → Site → Pair → Type 0
  Stays lines site (inl y) = first_waits lines ≡ true → y.0.call.site ≡ site
  Stays lines site (inr y) = Unit {0}

  -- States that belong together in front of the code for what the value of the first of some lines waits in.
  abbrev pub AreAt : (lines : List BlockLine) → Site → ℕ × WordState → Counting BlockLine → Type 0
  AreAt lines site s t = (p : Pair) × (low_of lines p ≡ s) × (high_of p ≡ t) × Stays lines site p

  abbrev pub lines_left : Counting BlockLine → ℕ
  lines_left (Going units m) = length m.now.rest
  lines_left Standing = 0

  -- from a state of word code on, by a line's own code
  abbrev pub FollowsFrom : WordState → Both → Next Event (Machine BlockLine) → Type 0
  FollowsFrom t g n = (before : ℕ) → Does machine (AreAt g.rest g.call.site) lines_left 256 (before, t) (going g) (next_map (Going g.units) n)

  abbrev pub Follows : Both → Next Event (Machine BlockLine) → Type 0
  Follows g n = FollowsFrom (low x.table x.blocks g) g n

  -- what comes of what a line did
  abbrev pub settles : Both → List BlockLine → Did → Next Event (Machine BlockLine)
  settles g rest d = settled block_label (block_does known) (procs_of known x.blocks) (high x.table x.blocks g) rest d

  abbrev pub is_spent : Did → Bool
  is_spent d = spends block_label (block_does known) (procs_of known x.blocks) d

  abbrev pub Settles : Both → List BlockLine → Did → Type 0
  Settles g rest d = (before : ℕ) →
      Does machine (AreAt g.rest g.call.site) lines_left 256 (before, low x.table x.blocks g) (going g) (within_units (is_spent d) g.units (settles g rest d))

  -- with what its value waits in
  abbrev pub Completes : Both → List BlockLine → Did → Type 0
  Completes g rest d = (before : ℕ) →
      Does machine (AreOf pairs) lines_left 256 (before, low x.table x.blocks g) (going g) (within_units (is_spent d) g.units (settles g rest d))

  -- a line from where it begins
  abbrev pub Whole : Both → List BlockLine → BlockLine → Type 0
  Whole g rest line = (y : IsGood (starts g line rest)) → Completes (starts g line rest) rest
      (block_does known (block_scene (high x.table x.blocks (starts g line rest))) line)

  -- ---- what comes of a line

  pub using_settles : {A : Type 0} (g : Both) (rest : List BlockLine) (o : Option A) (go : A → Did)
      → ((a : A) → o ≡ Some a → Settles g rest (go a)) → Settles g rest (using o go)
  using_settles g rest None go h = λ before. tt
  using_settles g rest (Some a) go h = h a refl

  pub mapped_settles : {A B : Type 0} (g : Both) (rest : List BlockLine) (o : Option A) (f : A → B) (go : B → Did)
      → ((a : A) → o ≡ Some a → Settles g rest (go (f a))) → Settles g rest (using (option_map f o) go)
  mapped_settles g rest None f go h = λ before. tt
  mapped_settles g rest (Some a) f go h = h a refl

  pub all_settles : (g : Both) (rest : List BlockLine) (temps : Temps) (from : List From) (go : List Operand → Did)
      → ((xs : List Operand) → Settles g rest (go xs)) → Settles g rest (using_all temps from go)
  all_settles g rest temps [] go h = h []
  all_settles g rest temps (f ∷ from) go h =
      using_settles g rest (fetch temps f) (λ z. using_all temps from (λ xs. go (z ∷ xs)))
      (λ z e. all_settles g rest temps from (λ xs. go (z ∷ xs)) (λ xs. h (z ∷ xs)))

  pub branch_settles : (g : Both) (rest : List BlockLine) (b : Bool) (yes_did no_did : Did) → (b ≡ true → Settles g rest yes_did)
      → (b ≡ false → Settles g rest no_did) → Settles g rest (branch b yes_did no_did)
  branch_settles g rest true yes_did no_did h k = h refl
  branch_settles g rest false yes_did no_did h k = k refl

  -- a line is at a fault where something isn't there: of that nothing is said
  pub where_there : (g : Both) (rest : List BlockLine) (there : Bool) (did : Bool → Did) → Settles g rest (did false)
      → (there ≡ true → Settles g rest (did true)) → Settles g rest (did there)
  where_there g rest true did fault h = h refl
  where_there g rest false did fault h = fault

  -- so many silent lines
  pub goes_from : (t : WordState) (g g' : Both) (rest : List BlockLine) (good : IsGood g') (n w : ℕ) (temps : Temps) (world : World)
      → Runs x.live (all_procs x) n t (low_past g.rest g') → 0 < n → n ≤ 256 * w
      → ends_at g' ≡ ((Going g.units (onward (high x.table x.blocks g) rest temps world)), g.call.site)
      → FollowsFrom t g (settles g rest (Passes (Answers [] w temps world)))
  goes_from t g g' rest good n w temps world runs some few e = λ before.
      let r = runs.by x.fresh before in (
        (r.0, low_past g.rest g'),
        n,
        record { work = r.1.work; within = omega (arith, r.1.within, few); by = r.1.by },
        (inl (g', good, r.0), refl, ap (λ (s : Counting BlockLine × Site). s.0) e, λ waits. ap (λ (s : Counting BlockLine × Site). s.1) e),
        inl some,
      )

  pub goes_on : (g g' : Both) (rest : List BlockLine) (good : IsGood g') (n w : ℕ) (temps : Temps) (world : World)
      → Runs x.live (all_procs x) n (low x.table x.blocks g) (low_past g.rest g') → 0 < n → n ≤ 256 * w
      → ends_at g' ≡ ((Going g.units (onward (high x.table x.blocks g) rest temps world)), g.call.site) → Settles g rest (Passes (Answers [] w temps world))
  goes_on g g' rest good n w temps world runs some few e = goes_from (low x.table x.blocks g) g g' rest good n w temps world runs some few e

  -- no line at all
  pub stays_on : (g g' : Both) (rest : List BlockLine) (good : IsGood g') (w : ℕ) (temps : Temps) (world : World)
      → low_past g.rest g' ≡ low x.table x.blocks g → ends_at g' ≡ ((Going g.units (onward (high x.table x.blocks g) rest temps world)), g.call.site)
      → length rest < length g.rest → Settles g rest (Passes (Answers [] w temps world))
  stays_on g g' rest good w temps world same e less = λ before. (
    (before, low x.table x.blocks g),
    0,
    steps_none machine (before, low x.table x.blocks g) (256 * w),
    (
      inl (g', good, before),
      ap (λ (u : WordState). (before, u)) same,
      ap (λ (s : Counting BlockLine × Site). s.0) e,
      λ waits. ap (λ (s : Counting BlockLine × Site). s.1) e,
    ),
    inr less,
  )

  -- ---- lines whose value doesn't wait

  -- nothing stands behind such a line's own code
  abbrev pub IsPlainPast : (lines : List BlockLine) → Type 0
  IsPlainPast lines = (g : Both) → low_past lines g ≡ low x.table x.blocks g

  does_at_last : (lines : List BlockLine) → IsPlainPast lines → (site : Site) (s : ℕ × WordState) (t : Counting BlockLine)
      (n : Next Event (Counting BlockLine))
      → Does machine (AreAt lines site) lines_left 256 s t n → Does machine (AreOf pairs) lines_left 256 s t n
  does_at_last lines same site s t (Goes es w then) d = (d.0, d.1, d.2, by d.3, d.4)
    where
      by : AreAt lines site d.0 then → AreOf pairs d.0 then
      by (inl y, low_is, high_is, stays) = (inl y, ap (λ (u : WordState). (y.2, u)) (sym (same y.0)) ∙ low_is, high_is)
      by (inr y, low_is, high_is, stays) = (inr y, low_is, high_is)
  does_at_last lines same site s t (Ends es w status left) d = d
  does_at_last lines same site s t Faults d = d
  does_at_last lines same site s t Errs d = d

  -- such a line's value doesn't wait
  abbrev pub IsQuiet : BlockLine → Type 0
  IsQuiet line = value_waits x.table (block_plain line) ≡ false

  pub none_past : (line : BlockLine) (rest : List BlockLine) → IsQuiet line → IsPlainPast (line ∷ rest)
  none_past line rest e g =
      ap (λ k. at (call_within x.table x.blocks g) g.memory k g.call.vars g.words)
      (none_kept x.table (body_of g).own.waiters (value (around x.table x.blocks (body_of g))) (block_plain line)
      (code_behind x.table x.blocks (body_of g) g.rest) e)

  pub completes_quiet : (g : Both) (line : BlockLine) (rest : List BlockLine) (d : Did) → IsQuiet line → Settles (starts g line rest) rest d
      → Completes (starts g line rest) rest d
  completes_quiet g line rest d quiet follows = λ before.
      does_at_last (line ∷ rest) (none_past line rest quiet) g.call.site (before, low x.table x.blocks (starts g line rest)) (going (starts g line rest))
      (within_units (is_spent d) g.units (settles (starts g line rest) rest d)) (follows before)

  -- ---- units

  -- what is true doesn't ask for units
  pub good_units : (g : Both) (units : Option ℕ) → IsGood g → IsGood (with_units g units)
  good_units g units y = record {
    linked = y.linked;
    memory = y.memory;
    heap = y.heap;
    input = y.input;
    hold = y.hold;
    frames = y.frames;
    levels = y.levels;
    stands = y.stands;
    waits = y.waits;
    answers = y.answers;
    idle = y.idle;
    fixed = y.fixed;
  }

  -- in front of a line that spends one
  module _ (g : Both) (l : WordInstr) (k : List WordInstr) (vars words : Vars) where
    abbrev pub at_spend : WordState
    at_spend = at (call_within x.table x.blocks g) g.memory (l ∷ k) vars words

    abbrev pub IsSpending : Type 0
    IsSpending = word_does (scene_of at_spend) l ≡ WordSpends (scene_of at_spend)

    module _ (is : IsSpending) where
      spend_is : (bytes : List ℕ) (units : Option ℕ) → g.units ≡ units
          → lower bytes at_spend ≡ spent units (word_onward at_spend k (scene_of at_spend)) at_spend
      spend_is bytes units e =
          ap (word_settled x.live (all_procs x) bytes at_spend k) is ∙ ap (λ o. spent o (word_onward at_spend k (scene_of at_spend)) at_spend) e

      stands_still : g.units ≡ Some 0 → StandsStill at_spend
      stands_still e = λ n. ap (next_map (λ (t : WordState). (suc n, t))) (spend_is (x.fresh n) (Some 0) e)

      spends_free : g.units ≡ None
          → Runs x.live (all_procs x) 1 at_spend (at (call_within x.table x.blocks (with_units g None)) g.memory k vars words)
      spends_free e =
          subst (λ u. Runs x.live (all_procs x) 1 at_spend (at (call_within x.table x.blocks (with_units g u)) g.memory k vars words)) e
          (one lower (λ bytes. spend_is bytes None e))

      spends_one : (units : ℕ) → g.units ≡ Some (suc units)
          → Runs x.live (all_procs x) 1 at_spend (at (call_within x.table x.blocks (with_units g (Some units))) g.memory k vars words)
      spends_one units e = one lower (λ bytes. spend_is bytes (Some (suc units)) e)

  abbrev Spends : Both → List BlockLine → Did → Option ℕ → Type 0
  Spends g rest d units = (before : ℕ) →
      Does machine (AreAt g.rest g.call.site) lines_left 256 (before, low x.table x.blocks g) (going g) (within_units true units (settles g rest d))

  -- Behind some lines word code spends a unit, where block code does, and goes on with what is left; or it stands still.
  pub spends_settles : (g : Both) (rest : List BlockLine) (d : Did) → is_spent d ≡ true → (l : WordInstr) (k : List WordInstr) (vars words : Vars)
      → IsSpending g l k vars words → (n : ℕ) → n ≤ 255 → Runs x.live (all_procs x) n (low x.table x.blocks g) (at_spend g l k vars words)
      → ((units : Option ℕ) → Runs x.live (all_procs x) (n + 1) (low x.table x.blocks g)
      (at (call_within x.table x.blocks (with_units g units)) g.memory k vars words) →
      FollowsFrom (low x.table x.blocks g) (with_units g units) (settles g rest d))
      → Settles g rest d
  spends_settles g rest d is l k vars words spending n few runs then =
      subst (λ b. (before : ℕ) → Does machine (AreAt g.rest g.call.site) lines_left 256 (before, low x.table x.blocks g) (going g)
      (within_units b g.units (settles g rest d))) (sym is) (by g.units refl)
    where
      by : (units : Option ℕ) → g.units ≡ units → Spends g rest d units
      by None e =
          then None (then_runs x.live (all_procs x) runs (spends_free g l k vars words spending e))
      by (Some zero) e = λ before.
          let s = at_spend g l k vars words in
          let r = runs.by x.fresh before in
          let still = stands_still g l k vars words spending e in
          let steps = steps_on machine n 1 n 0 (before, low x.table x.blocks g) (r.0, s) (suc r.0, s) [] [] r.1
          (steps_one machine (r.0, s) (suc r.0, s) [] 0 0 (still r.0) (omega arith)) in (
            (suc r.0, s),
            n + 1,
            record { work = steps.work; within = omega (arith, steps.within, few); by = steps.by },
            (inr (s, still, suc r.0), refl, refl, tt),
            inl (omega arith),
          )
      by (Some (suc units)) e =
          then (Some units) (then_runs x.live (all_procs x) runs (spends_one g l k vars words spending units e))

  -- ---- what is true behind a line that changes one place

  module _ (g : Both) (line : BlockLine) (rest : List BlockLine) (y : IsGood (starts g line rest)) where
    abbrev pub all_sites : List Site
    all_sites = sites_of g

    -- blocks may be others then
    pub good_later : (after : List BlockLine) (lo : Site) (e : Name) (temps : Temps) (vars : Vars) (m : Memory) (words : Vars) (awaits : ℕ) (w : World)
        (ground : Ground) (input : List ℕ)
        → MemoryGood x.table x.blocks all_sites x.first m → HasHeap (is_fixed ground) ground.blocks w.heap m → w.input ≡ input → IsLater g.ground ground
        → Edit x.table x.blocks x.small all_sites y.linked lo e g.memory m
        → Worlds x.table x.blocks x.small all_sites y.linked lo e g.world w
        → Kept x.table x.blocks x.small all_sites y.linked lo e g.call.site g.call.temps temps g.call.vars vars
        → (g.call.site.level ≡ lo.level
        → New x.table x.blocks x.small all_sites y.linked lo e (record { memory = m; ground = ground }) w all_sites (call g.call.site temps vars))
        → ((c : Call) (from : List Site) → AmongCalls c (map called_by g.waiting) → c.site.level ≡ lo.level
        → New x.table x.blocks x.small all_sites y.linked lo e (record { memory = m; ground = ground }) w from c)
        → AllFrames x.table x.blocks w all_sites → length w.frames ≡ length all_sites → StandAt x.table x.blocks (body_of g) after
        → IsGood (changed_later g after temps vars m words awaits w ground input)
    good_later after lo e temps vars m words awaits w ground input memory heap is_input later edit worlds kept new others frames levels stands = record {
      linked = y.linked;
      memory = memory;
      heap = heap;
      input = is_input;
      hold = (
        holding_kept x.table x.blocks x.small all_sites y.linked lo e (store_of g) (record { memory = m; ground = ground }) edit later g.world w worlds
            all_sites g.call.site g.call.temps temps g.call.vars vars (inl refl) (λ r j. j) kept new y.hold.0,
        all_kept x.table x.blocks x.small all_sites y.linked lo e (store_of g) (record { memory = m; ground = ground }) edit later g.world w worlds
            (map called_by g.waiting) (λ s i. inr i) others y.hold.1,
      );
      frames = frames;
      levels = levels;
      stands = stands;
      waits = y.waits;
      answers = y.answers;
      idle = ap length worlds.hand ∙ y.idle;
      fixed = later.fixed ∙ y.fixed;
    }

    -- they are as they were, where memory changes beside the heap
    pub good_changed : (after : List BlockLine) (lo : Site) (e : Name) (temps : Temps) (vars : Vars) (m : Memory) (words : Vars) (awaits : ℕ) (w : World)
        → MemoryGood x.table x.blocks all_sites x.first m → SameHeap g.memory m → (w.heap ≡ g.world.heap) × (w.input ≡ g.world.input)
        → Edit x.table x.blocks x.small all_sites y.linked lo e g.memory m
        → Worlds x.table x.blocks x.small all_sites y.linked lo e g.world w
        → Kept x.table x.blocks x.small all_sites y.linked lo e g.call.site g.call.temps temps g.call.vars vars
        → (g.call.site.level ≡ lo.level → New x.table x.blocks x.small all_sites y.linked lo e (store_with g m) w all_sites (call g.call.site temps vars))
        → ((c : Call) (from : List Site) → AmongCalls c (map called_by g.waiting) → c.site.level ≡ lo.level
        → New x.table x.blocks x.small all_sites y.linked lo e (store_with g m) w from c)
        → AllFrames x.table x.blocks w all_sites → length w.frames ≡ length all_sites → StandAt x.table x.blocks (body_of g) after
        → IsGood (changed g after temps vars m words awaits w)
    good_changed after lo e temps vars m words awaits w memory still same edit worlds kept new others frames levels stands =
        good_later after lo e temps vars m words awaits w g.ground g.input memory
        (subst (λ h. HasHeap (is_fixed g.ground) g.ground.blocks h m) (sym same.0)
        (heap_then (is_fixed g.ground) g.ground.blocks g.world.heap g.memory m y.memory.sized memory.sized still y.heap))
        (same.1 ∙ y.input) (later_ground g.ground) edit worlds kept new others frames levels stands

    -- a call that waits is below the one that runs
    pub waits_below : (c : Call) → AmongCalls c (map called_by g.waiting) → c.site.level ≢ g.call.site.level
    waits_below c i e = let z = site_at x.table x.blocks (map site_of (map called_by g.waiting)) c.site y.linked.5
        (sites_among (map called_by g.waiting) c i) in
        omega (arith, z.level, y.linked.2, e)
      where
        sites_among : (cs : List Call) (c : Call) → AmongCalls c cs → AmongSites c.site (map site_of cs)
        sites_among [] c i = absurd i
        sites_among (d ∷ cs) c (inl e) = inl (ap site_of e)
        sites_among (d ∷ cs) c (inr i) = inr (sites_among cs c i)

    -- where no variable of a place changes
    pub holding_same : (vars : Vars) → AllSame g.call.vars vars
        → Holding x.table x.blocks (store_of g) g.world all_sites (call g.call.site g.call.temps vars)
    holding_same vars same =
        holding_kept x.table x.blocks x.small all_sites y.linked above (of_value 0) (store_of g) (store_of g) (nowhere refl) (later_ground g.ground) g.world
        g.world
        (worlds_same x.table x.blocks x.small all_sites y.linked above (of_value 0) g.world) all_sites g.call.site g.call.temps g.call.temps
        g.call.vars vars (inl refl) (λ r j. j) kept (λ e. absurd (omega (arith, e))) y.hold.0
      where
        -- the place of no call
        above : Site
        above = record g.call.site { level = suc g.call.site.level }

        kept : Kept x.table x.blocks x.small all_sites y.linked above (of_value 0) g.call.site g.call.temps g.call.temps g.call.vars vars
        kept = record {
          values = λ t i a. refl;
          places = λ t a. refl;
          texts = λ t n k i e a. refl;
          still = λ t v l h. (v, h);
          variables = λ f u there a own. same.others u (variable_high x.table x.blocks g.call.site f u y.linked.0 there own);
          left = same.left;
        }

    -- nothing changes but variables for what comes between, and what follows
    pub good_same : (vars words : Vars) (awaits : ℕ) (after : List BlockLine) → AllSame g.call.vars vars → StandAt x.table x.blocks (body_of g) after
        → IsGood (changed g after g.call.temps vars g.memory words awaits g.world)
    good_same vars words awaits after same stands = record {
      linked = y.linked;
      memory = y.memory;
      heap = y.heap;
      input = y.input;
      hold = (holding_same vars same, y.hold.1);
      frames = y.frames;
      levels = y.levels;
      stands = stands;
      waits = y.waits;
      answers = y.answers;
      idle = y.idle;
      fixed = y.fixed;
    }

    -- the same line, with other variables for what comes between
    pub good_between : (vars : Vars) → AllSame g.call.vars vars → IsGood (starts (with_vars g vars) line rest)
    good_between vars same = good_same vars g.words g.awaits (line ∷ rest) same y.stands
