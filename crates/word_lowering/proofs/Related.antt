-- The states of block code and of word code that belong together: both are made of one record, and what is true of it.
use Rattle.std.proofs.Common.{◌≡◌, ◌⊎◌, inl, inr, arith, ℕ, ◌+◌, ◌%◌, ◌≤◌, List, [], ◌∷◌, ◌++◌, length, map, Option, Some, None, Bool, true, false}
use Rattle.std.specs.Prelude.{nat_le, nat_lt, ◌&&◌}
use Rattle.nim_types.specs.Types.{same_text}
use Rattle.rv32_isa.specs.Image.{stack_at}
use Rattle.nim_types.specs.declared.types.TypeDef.{TypeDef}
use Rattle.nim_meaning.specs.State.{World}
use Rattle.flat_code.specs.declared.block.BlockLine.{BlockLine}
use Rattle.flat_code.specs.declared.code.Code.{Code}
use Rattle.rv32_isa.specs.Regions.{AreBytes}
use Rattle.word_code.specs.declared.word.WordInstr.{WordInstr}
use Rattle.word_code.specs.declared.word.WordProc.{WordProc}
use Rattle.word_code.specs.declared.routine.TheConstants.{RUNTIME_DATA, SCRATCH_BYTES}
use Rattle.word_code.specs.Memory.{Memory, bytes_at}
use Rattle.word_code.specs.RoutineTable.{Cell, Beside}
use Rattle.word_code.proofs.ForCallers.{Sized, Within, at}
use Rattle.word_code.specs.Words.{Vars, no_words, WordFrame, WordState}
use Rattle.flat_code.specs.Scene.{known_in}
use Rattle.flat_code.specs.Fits.{all_fit}
use Rattle.flat_code.specs.Running.{Waiting, Machine}
use Rattle.flat_code.specs.Codes.{block_plain}
use Rattle.flat_code.specs.declared.line.Piece.{Piece}
use Rattle.flat_code.specs.Pieces.{piece_words, words_bytes}
use Rattle.word_lowering.specs.declared.homes.TheConstants.{FIRST}
use Rattle.word_lowering.specs.declared.homes.Housed.{Housed}
use Rattle.word_lowering.specs.declared.spots.Spot.{Spot}
use Rattle.word_lowering.specs.declared.spots.Spot.TheVariants.{Held}
use Rattle.word_lowering.specs.declared.handed.TheConstants.{LEFT_HANDLE_AT}
use Rattle.word_lowering.specs.declared.texts.TheConstants.{FIXED_BYTES}
use Rattle.word_lowering.specs.declared.may_lower.TheConstants.{MOST_DATA}
use Rattle.word_lowering.specs.Layouts.{result_in}
use Rattle.word_lowering.specs.Spots.{spot_of}
use Rattle.word_lowering.specs.LineCode.{lines_code, behind_line, result_code, value, layout_at}
use Rattle.word_lowering.specs.Lowered.{data_at, lowered, last_code, begin_code}
use Rattle.word_lowering.proofs.Blocks.{HasHeap}
use Rattle.word_lowering.proofs.Frames.{IsFrame}
use Rattle.word_lowering.proofs.Sites.{Body, lines_of, looks, Site, data_end, around, word_of, Linked, sigs, globals_of, next_base}
use Rattle.word_lowering.proofs.PieceWords.{WordsAt, room_of}
use Rattle.word_lowering.proofs.Scenes.{handle_from, standing_from, text_from}
use Rattle.word_lowering.proofs.Scenes.{of_value, IsNamed, IsThere, looked, Call, site_of, AllHold, Ground, Store, is_fixed}
use Rattle.word_code.specs.declared.word.TheConstants.{SPARE_ROOM}

-- ---- texts

abbrev pub are_bytes : List ℕ → Bool
are_bytes [] = true
are_bytes (b ∷ bytes) = nat_lt b 256 && are_bytes bytes

-- what was read is a text
abbrev pub is_read : Option (List ℕ) → List ℕ → Bool
is_read None text = false
is_read (Some bytes) text = same_text bytes text

-- a call that waits: the lines that it goes on with, the temporary to which the result goes, and the procedure that it called
pub record Waits : Type 0 where
  pub call : Call
  pub rest : List BlockLine
  pub to : ℕ
  pub proc : ℕ

-- both states
pub record Both : Type 0 where
  -- how many units may still be spent
  pub units : Option ℕ
  pub memory : Memory
  pub input : List ℕ
  pub world : World
  pub call : Call
  pub rest : List BlockLine
  -- the words that were given for the last call
  pub words : Vars
  pub awaits : ℕ
  pub waiting : List Waits
  -- what is known of memory
  pub ground : Ground

-- with other memory
abbrev pub store_with : Both → Memory → Store
store_with g m = record { memory = m; ground = g.ground }

abbrev pub store_of : Both → Store
store_of g = store_with g g.memory

abbrev pub body_of : Both → Body
body_of g = g.call.site.body

abbrev pub called_by : Waits → Call
called_by w = w.call

abbrev pub calls_of : Both → List Call
calls_of g = g.call ∷ map called_by g.waiting

abbrev pub sites_of : Both → List Site
sites_of g = map site_of (calls_of g)

abbrev pub with_units : Both → Option ℕ → Both
with_units g units = record g { units = units }

abbrev pub with_rest : Both → List BlockLine → Both
with_rest g rest = record g { rest = rest }

module _ (table : List TypeDef) (blocks : Code BlockLine) where
  abbrev pub procs : List WordProc
  procs = (lowered table blocks).procs

  -- ---- word code's state

  -- what stands behind the code of a procedure's lines
  abbrev pub code_last : Body → List WordInstr
  code_last b = last_code (begin_code b.own (lines_code (around table blocks b) (lines_of b) []))

  abbrev pub code_behind : Body → List BlockLine → List WordInstr
  code_behind b rest = lines_code (around table blocks b) (map block_plain rest) (code_last b)

  -- what stands behind the code of a line, whose value may wait
  abbrev pub code_past : Body → BlockLine → List BlockLine → List WordInstr
  code_past b line rest = behind_line (around table blocks b) (block_plain line) (code_behind b rest)

  -- the variable that awaits the result of a call, and the lines that follow it
  abbrev pub awaits_in : Spot → ℕ
  awaits_in (Held v) = v
  awaits_in spot = FIRST

  abbrev pub awaits_for : Body → ℕ → ℕ
  awaits_for b t = awaits_in (spot_of (value (around table blocks b) t))

  abbrev pub goes_on : Body → Housed → Spot → (proc : ℕ) → List WordInstr → List WordInstr
  goes_on b to (Held v) proc k = k
  goes_on b to spot proc k = result_code (around table blocks b) to (result_in (layout_at (around table blocks b) proc).all) k

  abbrev pub left_for : Body → ℕ → (proc : ℕ) → List WordInstr → List WordInstr
  left_for b t proc k = goes_on b (value (around table blocks b) t) (spot_of (value (around table blocks b) t)) proc k

  abbrev pub frame_of : Waits → WordFrame
  frame_of w = record {
    proc = word_of table blocks w.call.site.body;
    left = left_for w.call.site.body w.to w.proc (code_behind w.call.site.body w.rest);
    vars = w.call.vars;
    given = no_words;
    base = w.call.site.base;
    awaits = awaits_for w.call.site.body w.to;
  }

  abbrev pub within : Both → Within
  within g = record {
    units = g.units;
    input = g.input;
    proc = word_of table blocks (body_of g);
    base = g.call.site.base;
    awaits = g.awaits;
    callers = map frame_of g.waiting;
  }

  abbrev pub low : Both → WordState
  low g = at (within g) g.memory (code_behind (body_of g) g.rest) g.call.vars g.words

  -- ---- block code's state

  abbrev pub waiting_for : Waits → Waiting BlockLine
  waiting_for w = record {
    active = record {
      whole = w.call.site.body.proc.lines;
      rest = w.rest;
      level = w.call.site.level;
      left = w.call.site.left;
      temps = w.call.temps;
    };
    to = w.to;
  }

  abbrev pub high : Both → Machine BlockLine
  high g = record {
    now = record {
      whole = (body_of g).proc.lines;
      rest = g.rest;
      level = g.call.site.level;
      left = g.call.site.left;
      temps = g.call.temps;
    };
    waiting = map waiting_for g.waiting;
    world = g.world;
  }

  -- ---- memory

  -- words that may be read and written: globals, the places of these calls, and behind them those for arguments
  abbrev pub IsOpen : List Site → ℕ → Type 0
  IsOpen sites a =
      ((data_at + FIXED_BYTES ≤ a) × (a + 4 ≤ data_at + data_end table blocks))
      ⊎ ((stack_at ≤ a) × (a + 4 ≤ next_base sites + SPARE_ROOM))

  -- data beside all places and the byte of a character: what each program has, and all behind the globals, with what routines have
  abbrev pub IsClosed : (at n : ℕ) → Type 0
  IsClosed at n = ((data_at + 4 ≤ at) × (at + n ≤ data_at + LEFT_HANDLE_AT)) ⊎
      ((data_at + data_end table blocks ≤ at) × (at + n ≤ data_at + (MOST_DATA + RUNTIME_DATA)))

  -- where the data of routines begins
  abbrev pub routines : ℕ
  routines = data_at + length (lowered table blocks).statics

  -- what of that stays as it is: all but the bytes that routines may change
  abbrev pub IsText : (at n : ℕ) → Type 0
  IsText at n = IsClosed at n × Beside at n routines SCRATCH_BYTES

  -- A text stands at a place of the data at the start, behind the globals: of a program's texts, which nothing changes.
  abbrev pub is_text_of_data : Memory → (place : ℕ) → List ℕ → Bool
  is_text_of_data first place text =
      nat_le (data_at + data_end table blocks) place && (nat_le (place + length text) routines
      && (are_bytes text && is_read (bytes_at first place (length text)) text))

  -- a part of that
  pub text_part : (a n b k : ℕ) → IsText a n → a ≤ b → b + k ≤ a + n → IsText b k
  text_part a n b k text low high = (closed text.0, beside text.1)
    where
      closed : IsClosed a n → IsClosed b k
      closed (inl c) = inl (omega (arith, c.0, low), omega (arith, c.1, high))
      closed (inr c) = inr (omega (arith, c.0, low), omega (arith, c.1, high))

      beside : Beside a n routines SCRATCH_BYTES → Beside b k routines SCRATCH_BYTES
      beside (inl c) = inl (omega (arith, c, high))
      beside (inr c) = inr (omega (arith, c, low))

  -- words of the data at the start, which nothing changes
  pub record StandThere (first : Memory) (at : ℕ) (ws : List ℕ) : Type 0 where
    pub words : WordsAt first at ws
    pub cells : (o : ℕ) → o + 4 ≤ room_of ws → o % 4 ≡ 0 → Cell first (at + o)
    pub is_text : IsText at (room_of ws)
    pub whole : at % 4 ≡ 0

  -- a constant
  abbrev pub StandsThere : (first : Memory) → List Piece → Type 0
  StandsThere first pieces = StandThere first (standing_from table blocks pieces) (piece_words pieces)

  -- the handle of a text, and where the text is
  pub record HandleThere (first : Memory) (text : List ℕ) : Type 0 where
    pub handle : StandThere first (handle_from table blocks text) (length text ∷ text_from table blocks text ∷ [])
    pub above : data_at + data_end table blocks ≤ handle_from table blocks text
    pub handle_reads : bytes_at first (handle_from table blocks text) (length (words_bytes (length text ∷ text_from table blocks text ∷ [])))
        ≡ Some (words_bytes (length text ∷ text_from table blocks text ∷ []))
    pub behind : data_at + FIXED_BYTES ≤ handle_from table blocks text
    pub low : data_at + data_end table blocks ≤ text_from table blocks text
    pub high : text_from table blocks text + length text ≤ routines
    pub reads : bytes_at first (text_from table blocks text) (length text) ≡ Some text

  -- beside the memory at the start, while these calls are active
  pub record MemoryGood (sites : List Site) (first m : Memory) : Type 0 where
    pub sized : Sized m
    pub statics : length m.statics ≡ length first.statics
    pub heap : length m.heap ≡ length first.heap
    pub bytes : AreBytes m.heap
    pub places : stack_at + length m.places ≡ next_base sites + SPARE_ROOM
    pub cells : (a : ℕ) → a % 4 ≡ 0 → IsOpen sites a → Cell m a
    pub texts : (at n : ℕ) → IsText at n → bytes_at m at n ≡ bytes_at first at n

  -- ---- where lines stand

  -- lines left of a procedure
  pub record StandAt (b : Body) (rest : List BlockLine) : Type 0 where
    pub before : List BlockLine
    pub whole : b.proc.lines ≡ before ++ rest
    pub fits : all_fit (known_in table) (sigs table blocks) (globals_of table blocks) b.proc.places (map block_plain rest) ≡ true

  abbrev pub AllStand : List Waits → Type 0
  AllStand [] = Unit {0}
  AllStand (w ∷ ws) = StandAt w.call.site.body w.rest × AllStand ws

  abbrev pub AllFrames : World → List Site → Type 0
  AllFrames world [] = Unit {0}
  AllFrames world (s ∷ sites) = IsFrame world s.level s.body.proc.first s.body.proc.span × AllFrames world sites

  -- the temporary that awaits the result of a procedure, where it has a place, may get it
  pub record MayAnswer (above : Body) (w : Waits) : Type 0 where
    pub there : IsThere w.call.site (of_value w.to)
    pub result : Housed
    pub is : result_in above.own.all ≡ Some result
    pub typed : looked table w.call.site (of_value w.to) ≡ looks table result

  -- a call that waits, for one of this procedure
  pub record Answers (above : Body) (w : Waits) : Type 0 where
    pub layout : layout_at (around table blocks w.call.site.body) w.proc ≡ above.own
    pub may : IsNamed w.call.site (of_value w.to) → MayAnswer above w

  abbrev pub AllAnswer : Body → List Waits → Type 0
  AllAnswer above [] = Unit {0}
  AllAnswer above (w ∷ ws) = Answers above w × AllAnswer w.call.site.body ws

  -- all that is true of both
  pub record Good (first : Memory) (g : Both) : Type 0 where
    pub linked : Linked table blocks (sites_of g)
    pub memory : MemoryGood (sites_of g) first g.memory
    pub heap : HasHeap (is_fixed g.ground) g.ground.blocks g.world.heap g.memory
    pub input : g.world.input ≡ g.input
    pub hold : AllHold table blocks (store_of g) g.world (calls_of g)
    pub frames : AllFrames g.world (sites_of g)
    pub levels : length g.world.frames ≡ length (sites_of g)
    pub stands : StandAt (body_of g) g.rest
    pub waits : AllStand g.waiting
    pub answers : AllAnswer (body_of g) g.waiting
    -- no value is under way between lines
    pub idle : length g.world.hand ≡ 0
    pub fixed : g.ground.fixed ≡ is_text_of_data first
