-- The procedures of word code, and their calls, as far as a run doesn't change them: where the places of a call begin, how many calls
-- may still be active behind it, and how its places are housed.
use Rattle.std.proofs.Common.{◌≡◌, ◌⊎◌, ℕ, ◌+◌, ◌%◌, ◌<◌, ◌≤◌, List, [], ◌∷◌, ◌++◌, length, map, Option, Some, None, ◌≢◌}
use Rattle.std.proofs.Common.{Bool, true}
use Rattle.std.proofs.Common.{false}
use Rattle.std.specs.Set.{is_member}
use Rattle.rv32_isa.specs.Image.{stack_at}
use Rattle.nim_types.specs.declared.types.TypeDef.{TypeDef}
use Rattle.nim_types.specs.Types.{Ty, same_text}
use Rattle.nim_types.specs.Table.{type_at, types_in, facts_in}
use Rattle.nim_types.specs.Forms.{hooked, form_of}
use Rattle.nim_program.specs.declared.program.TheConstants.{ACTIVE_CALLS}
use Rattle.flat_code.specs.declared.line.Piece.{Piece}
use Rattle.flat_code.specs.declared.line.Line.{Line}
use Rattle.flat_code.specs.declared.place.PlaceKind.{PlaceKind}
use Rattle.flat_code.specs.declared.place.PlaceKind.TheVariants as K
use Rattle.flat_code.specs.declared.place.FlatPlace.{FlatPlace}
use Rattle.flat_code.specs.declared.block.BlockLine.{BlockLine}
use Rattle.flat_code.specs.declared.code.Code.{Code}
use Rattle.flat_code.specs.declared.code.CodeProc.{CodeProc}
use Rattle.word_code.specs.declared.word.WordProc.{WordProc}
use Rattle.flat_code.specs.Scene.{known_in}
use Rattle.flat_code.specs.Shapes.{Shape, number, block, row, parts, Shapes, shape_of}
use Rattle.flat_code.specs.Fits.{if_kind, is_value, is_location, is_declared, is_global, is_own, is_standing, type_by_kind, place_named}
use Rattle.flat_code.specs.Fits.{if_type_of, Signature, signatures}
use Rattle.flat_code.specs.Fits.{all_fit, start_places, result_at}
use Rattle.flat_code.specs.Running.{before_last, from_label as line_from}
use Rattle.flat_code.specs.Codes.{block_plain, block_label}
use Rattle.flat_code.specs.Sizes.{lines_texts, code_texts}
use Rattle.word_code.specs.Joined.{moved}
use Rattle.heap_memory.specs.declared.numbers.TheConstants.{HEAP_DATA}
use Rattle.word_lowering.specs.declared.homes.TheConstants.{OWN_FROM}
use Rattle.word_lowering.specs.declared.homes.Alias.TheVariants as alias
use Rattle.word_lowering.specs.declared.homes.Home.{Home}
use Rattle.word_lowering.specs.declared.homes.Home.TheVariants.{Variable, Placed, Static}
use Rattle.word_lowering.specs.declared.homes.Housed.{Housed}
use Rattle.word_lowering.specs.declared.homes.Layout.{Layout}
use Rattle.word_lowering.specs.declared.homes.Waiter.{Waiter}
use Rattle.word_lowering.specs.declared.texts.TheConstants.{FIXED_BYTES}
use Rattle.word_lowering.specs.declared.may_lower.TheConstants.{MOST_ROOM}
use Rattle.word_lowering.specs.OwnedCode.{has_handle}
use Rattle.word_lowering.specs.Stored.{entry_at, count_in, element_bytes, is_word, part_at, is_hooked}
use Rattle.word_lowering.specs.Aliases as aliases
use Rattle.word_lowering.specs.Aliases.{texts_of, is_among, addressed, alias_for}
use Rattle.word_lowering.specs.Layouts.{result_in, is_empty, found, holds_address, owns, word_by}
use Rattle.word_lowering.specs.MayLower.{is_known, lines_may}
use Rattle.word_lowering.specs.Linked.{laid_out}
use Rattle.word_lowering.specs.Texts.{data_at, names_at, texts_at, texts_in}
use Rattle.word_lowering.specs.LineCode.{Around, labels_in}
use Rattle.word_lowering.specs.WaitingCode.{waiter_at, waiting_house}
use Rattle.word_lowering.specs.Lowered.{all_layouts, start_layout, globals_end, word_proc}
use Rattle.word_lowering.proofs.LinkedItems.{CodeHas, HaveConstant}
use Rattle.word_lowering.proofs.ShapeFacts.{nth_shape, shape_bytes, is_letter, of_numbers}
use Rattle.word_lowering.proofs.ShapePaths.{shapes_before}
use Rattle.word_lowering.proofs.HomesApart.{AllApart}
use Rattle.word_lowering.proofs.Waiters.{AreApart}
use Rattle.word_code.specs.declared.word.TheConstants.{SPARE_ROOM}
use Rattle.word_lowering.proofs.BlankShapes.{of_handles}
use Rattle.flat_code.specs.Waits.{all_wait_right, waiting_as, waits_in}

-- ---- procedures

-- what stands around the lines of a procedure, and differs from those of others
pub record Body : Type 0 where
  pub own : Layout
  pub start : Bool
  pub literals : ℕ
  pub number : ℕ
  pub proc : CodeProc BlockLine

abbrev pub lines_of : Body → List Line
lines_of b = map block_plain b.proc.lines

abbrev pub room : Body → ℕ
room b = b.own.free.byte

-- the type of a place, and what it looks like
abbrev pub type_of : List TypeDef → Housed → Ty
type_of table h = type_by_kind h.kind (type_at (types_in table) h.ty)

abbrev pub looks : List TypeDef → Housed → Shape
looks table h = shape_of (facts_in table) (type_of table h)

-- a number: one word
abbrev pub is_one_word : Shape → Bool
is_one_word (number values) = true
is_one_word s = false

abbrev pub Among : Housed → List Housed → Type 0
Among h [] = ⊥
Among h (k ∷ ks) = (k ≡ h) ⊎ Among h ks

-- a place with a number, and of some kind, is there
pub record There (all : List Housed) (is_kind : PlaceKind → Bool) (n : ℕ) : Type 0 where
  pub among : Among (found is_kind n all) all
  pub number : (found is_kind n all).number ≡ n
  pub kind : is_kind (found is_kind n all).kind ≡ true

-- where a place is
pub data Housing (room low high : ℕ) (start : Bool) (h : Housed) : Type 0 where
  in_variable : (v : ℕ) → h.home ≡ Variable v → holds_address h ≡ false → OWN_FROM ≤ v → h.is_word ≡ true → Housing room low high start h
  by_address : (v : ℕ) → h.home ≡ Variable v → holds_address h ≡ true → OWN_FROM ≤ v → Housing room low high start h
  in_places : (at : ℕ) → h.home ≡ Placed at → holds_address h ≡ false → at % 4 ≡ 0 → at + h.bytes ≤ room → Housing room low high start h
  in_data : (at : ℕ) → h.home ≡ Static at → holds_address h ≡ false → at % 4 ≡ 0 → low ≤ at → at + h.bytes ≤ high → start ≡ true
      → Housing room low high start h

abbrev pub InVariable : Home → Type 0
InVariable (Variable v) = Unit {0}
InVariable (Placed at) = ⊥
InVariable (Static at) = ⊥

abbrev pub InMemory : Home → Type 0
InMemory (Variable v) = ⊥
InMemory (Placed at) = Unit {0}
InMemory (Static at) = Unit {0}

-- ---- calls

-- a call: its procedure, its level, where its places begin, and how many more calls may be active behind it
pub record Site : Type 0 where
  pub body : Body
  pub level : ℕ
  pub base : ℕ
  pub left : ℕ

-- where the places of the next call begin
abbrev pub next_base : List Site → ℕ
next_base [] = stack_at
next_base (s ∷ sites) = s.base + room s.body

abbrev pub AmongSites : Site → List Site → Type 0
AmongSites s [] = ⊥
AmongSites s (t ∷ sites) = (t ≡ s) ⊎ AmongSites s sites

-- something is to be done for what stands there; what a loop counts is a number, whatever its type says
abbrev pub has_hooks_by : List TypeDef → PlaceKind → (ty : ℕ) → Bool
has_hooks_by table K.Counter ty = false
has_hooks_by table kind ty = is_hooked table ty

abbrev pub has_hooks : List TypeDef → Housed → Bool
has_hooks table h = has_hooks_by table h.kind h.ty

module _ (table : List TypeDef) (blocks : Code BlockLine) where
  abbrev pub data_end : ℕ
  data_end = globals_end table blocks.procs

  -- the address from which texts are laid out, and those that are
  abbrev pub laid_from : ℕ
  laid_from = data_at + texts_at table data_end

  abbrev pub IsLaidOut : List ℕ → Type 0
  IsLaidOut text = is_member same_text (laid_out laid_from blocks.procs) text ≡ true

  abbrev pub around : Body → Around
  around b = record {
    table = table;
    procs = blocks.procs;
    from = laid_from;
    layouts = all_layouts table blocks.procs;
    own = b.own;
    globals = (start_layout table blocks.procs).all;
    setting = record {
      start = b.start;
      ends = data_end;
      names = names_at table data_end;
      texts = texts_at table data_end;
      literals = b.literals;
    };
  }

  abbrev pub word_of : Body → WordProc
  word_of b = moved HEAP_DATA (word_proc (around b) b.number b.proc)

  abbrev pub sigs : List Signature
  sigs = signatures block_plain (known_in table) (before_last blocks.procs)

  abbrev pub globals_of : List FlatPlace
  globals_of = start_places blocks.procs

  -- how a place of a procedure is housed
  pub record IsHoused (b : Body) (h : Housed) : Type 0 where
    pub bytes : shape_bytes (looks table h) ≡ h.bytes
    pub word : is_one_word (looks table h) ≡ h.is_word
    pub letter : is_letter (looks table h) ≡ h.is_letter
    pub where_is : Housing (room b) FIXED_BYTES data_end b.start h
    pub kept : is_value h.kind ≡ true → h.is_word ≡ true → InVariable h.home
    -- one whose type has no hooks is made of numbers
    pub numbers : has_hooks table h ≡ false → of_numbers (looks table h) ≡ true
    pub unhooked : has_hooks table h ≡ false → hooked (form_of (facts_in table) (type_of table h)) ≡ false
    pub unlent : hooked (form_of (facts_in table) (type_of table h)) ≡ false → h.lent ≡ false
    -- where its parts are, by the table
    pub rows : (n : ℕ) (s : Shape) → looks table h ≡ row n s
        → (count_in (entry_at table h.ty) ≡ n) × (0 < n → element_bytes table (entry_at table h.ty) ≡ shape_bytes s)
        × (has_handle (entry_at table h.ty) ≡ false)
    pub fields : (ss : Shapes) (i : ℕ) (s : Shape) → looks table h ≡ parts ss → nth_shape ss i ≡ Some s → part_at table h.ty i
        ≡ shapes_before ss i

  -- a home is taken before one for what waits
  abbrev pub IsTakenBefore : Home → (bytes : ℕ) → Waiter → Type 0
  IsTakenBefore (Variable v) bytes w = v ≢ w.variable
  IsTakenBefore (Placed at) bytes w = at + bytes ≤ w.at
  IsTakenBefore (Static at) bytes w = Unit {0}

  -- what waits at nodes has homes behind those of all places, each with a variable of its own
  pub record AreWaiters (b : Body) : Type 0 where
    pub housed : (node : ℕ) (w : Waiter) → waiter_at node b.own.waiters ≡ Some w → IsHoused b (waiting_house w)
    pub variable : (node : ℕ) (w : Waiter) → waiter_at node b.own.waiters ≡ Some w → OWN_FROM ≤ w.variable
    pub behind : (node : ℕ) (w : Waiter) → waiter_at node b.own.waiters ≡ Some w → (h : Housed) → Among h b.own.all → h.alias ≡ alias.Own
        → IsTakenBefore h.home h.bytes w
    pub apart : (n m : ℕ) (w u : Waiter) → n ≢ m → waiter_at n b.own.waiters ≡ Some w → waiter_at m b.own.waiters ≡ Some u → AreApart w u

  -- a home for what waits at a node has as many bytes as that of the temporary
  pub record IsKeptAt (b : Body) (h : Housed) (node : ℕ) : Type 0 where
    pub waiter : Waiter
    pub is : waiter_at node b.own.waiters ≡ Some waiter
    pub type_is : waiter.ty ≡ h.ty
    pub bytes : waiter.bytes ≡ h.bytes
    pub kind : h.kind ≡ K.Temp

  -- a global is a place of the start code, in the data
  pub record IsGlobal (b : Body) (n : ℕ) (ty : Ty) : Type 0 where
    pub same : found is_global n (start_layout table blocks.procs).all ≡ found is_declared n b.own.all
    pub there : There b.own.all is_declared n
    pub typed : type_of table (found is_declared n b.own.all) ≡ ty
    pub datum : ℕ
    pub home : (found is_declared n b.own.all).home ≡ Static datum
    pub own : owns (found is_declared n b.own.all) ≡ true

  -- the place of a result, as block code says it and as the layout does
  abbrev pub ResultIs : List Housed → Option ℕ → Option Housed → Type 0
  ResultIs all None o = o ≡ None
  ResultIs all (Some p) o = (o ≡ Some (found is_declared p all)) × There all is_own p × (owns (found is_declared p all) ≡ true)

  -- where the texts of its lines stand among all
  pub record HasTexts (b : Body) : Type 0 where
    pub behind : List ℕ
    pub others : List ℕ
    pub whole : texts_in blocks.procs ≡ behind ++ (texts_of (lines_of b) ++ others)
    pub at : b.literals ≡ length behind
    pub among : (text : List ℕ) → is_member same_text (lines_texts (lines_of b)) text ≡ true →
        is_member same_text (code_texts block_plain blocks.procs) text ≡ true
    pub constants : (pieces : List Piece) → HaveConstant (lines_of b) pieces → CodeHas blocks.procs pieces

  -- a declared place that a line names
  abbrev pub place_among : Body → ℕ → (global : Bool) → Option FlatPlace
  place_among b p true = place_named is_global globals_of p
  place_among b p false = place_named is_declared b.proc.places p

  -- another name for a text
  pub record IsTextual (h : Housed) : Type 0 where
    pub behind : ℕ
    pub bytes : ℕ
    pub is : h.alias ≡ alias.Text behind bytes
    pub kind : is_value h.kind ≡ true
    pub look : looks table h ≡ block

  -- what is true of a procedure
  pub record IsBody (b : Body) : Type 0 where
    -- what has a type is there and has that type; and what is there has one
    pub named : (is_kind : PlaceKind → Bool) (n : ℕ) (ty : Ty) → if_type_of (known_in table) (place_named is_kind b.proc.places n) ≡ Some ty
        → There b.own.all is_kind n × (type_of table (found is_kind n b.own.all) ≡ ty)
    pub unnamed : (is_kind : PlaceKind → Bool) (n : ℕ) → place_named is_kind b.proc.places n ≡ None → There b.own.all is_kind n → ⊥
    -- another name has no home
    pub housed : (h : Housed) → Among h b.own.all → h.alias ≡ alias.Own → IsHoused b h
    pub named_so : (h : Housed) → Among h b.own.all → h.alias ≡ alias_for h.kind h.number (lines_of b)
    -- a value is a text of a line, or has a home, as all declared places have
    pub values : (t : ℕ) → There b.own.all is_value t → ((found is_value t b.own.all).alias ≡ alias.Own) ⊎ IsTextual (found is_value t b.own.all)
    pub places : (h : Housed) → Among h b.own.all → is_declared h.kind ≡ true → h.alias ≡ alias.Own
    -- locations of types without hooks lead to numbers, and nothing is to be done for these
    pub locations : (t : ℕ) → There b.own.all is_location t → has_hooks table (found is_location t b.own.all) ≡ false
        → of_numbers (looks table (found is_location t b.own.all)) ≡ true
    pub plain_locations : (t : ℕ) → There b.own.all is_location t → has_hooks table (found is_location t b.own.all) ≡ false
        → hooked (form_of (facts_in table) (type_of table (found is_location t b.own.all))) ≡ false
    -- the type of a location that is another name, which is written only where it is a place's
    pub aliased : (t p : ℕ) (global : Bool) → There b.own.all is_location t → (found is_location t b.own.all).alias ≡ alias.Place p global
        → if_type_of (known_in table) (place_among b p global) ≡ Some (type_of table (found is_location t b.own.all))
    pub valued : (t u : ℕ) → There b.own.all is_location t → (found is_location t b.own.all).alias ≡ alias.Value u
        → (if_type_of (known_in table) (place_named is_value b.proc.places u) ≡ Some (type_of table (found is_location t b.own.all)))
        × (is_standing (found is_location t b.own.all).kind ≡ false)
    -- what a location is another name for has no hooks where that is a value
    pub entered : (t u : ℕ) → There b.own.all is_location t → (found is_location t b.own.all).alias ≡ alias.Value u
        → is_hooked table (found is_value u b.own.all).ty ≡ false
    -- a location that may be written is of that kind
    pub standing : (n : ℕ) → if_kind is_standing (place_named is_location b.proc.places n) ≡ true
        → is_standing (found is_location n b.own.all).kind ≡ true
    pub may_be_standing : (n : ℕ) → is_standing (found is_location n b.own.all).kind ≡ true
        → if_kind is_standing (place_named is_location b.proc.places n) ≡ true
    pub apart : AllApart b.own.all
    pub inside : (n : ℕ) → There b.own.all is_declared n → (b.proc.first ≤ n) × (n < b.proc.first + b.proc.span)
    -- places with a value of their own are found among all
    pub own : (n : ℕ) → There b.own.all is_own n → found is_own n b.own.all ≡ found is_declared n b.own.all
    -- those whose address a line hands on are in memory
    pub addressed : (n : ℕ) → is_among n (addressed (lines_of b)) ≡ true → There b.own.all is_declared n
        → owns (found is_declared n b.own.all) ≡ true → InMemory (found is_declared n b.own.all).home
    pub global : b.start ≡ true → (n : ℕ) (ty : Ty) → if_type_of (known_in table) (place_named is_global globals_of n) ≡ Some ty → IsGlobal b n ty
    pub fits : all_fit (known_in table) sigs globals_of b.proc.places (lines_of b) ≡ true
    pub may : lines_may table b.own.all (aliases.standing (lines_of b)) (lines_of b) ≡ true
    -- their types are known: nothing has refs or objects with hooks of their own, and what has hooks is no word
    pub known : (h : Housed) → Among h b.own.all → is_known table h.ty h.kind ≡ true
    pub handles : (h : Housed) → Among h b.own.all → of_handles (looks table h) ≡ true
    pub words : (h : Housed) → Among h b.own.all → is_one_word (looks table h) ≡ word_by h.kind (is_word (entry_at table h.ty))
    pub built : (h : Housed) → Among h b.own.all → has_hooks table h ≡ true
        → (of_handles (looks table h) ≡ true) × (is_one_word (looks table h) ≡ false)
    -- each label comes once: the one that stands behind is the first one
    pub once : (name : ℕ) (before after found_there : List BlockLine) → b.proc.lines ≡ before ++ after
        → line_from block_label name after ≡ Some found_there → line_from block_label name b.proc.lines ≡ Some found_there
    -- a number of 32 bits counts its labels, of which each operand has one
    pub labels : labels_in (lines_of b) ≤ 4294967295
    pub result : ResultIs b.own.all (result_at (known_in table) b.proc.places) (result_in b.own.all)
    pub waiting : AreWaiters b
    -- lines say rightly what waits, and a temporary whose value waits at a node has a home there
    pub rightly : all_wait_right block_plain (known_in table) b.proc.places b.proc.lines ≡ true
    pub kept_at : (t node : ℕ) → waits_in (known_in table) b.proc.places t node ≡ true → There b.own.all is_value t
        → (found is_value t b.own.all).alias ≡ alias.Own → is_hooked table (found is_value t b.own.all).ty ≡ true
        → IsKeptAt b (found is_value t b.own.all) node
    -- what waits at a node is of the type of which a line says so
    pub typed_at : (node : ℕ) (ty : Ty) (w : Waiter) → waiting_as (known_in table) b.proc.places node ty ≡ true → waiter_at node b.own.waiters ≡ Some w
        → (type_at (types_in table) w.ty ≡ ty) × (is_known table w.ty K.Temp ≡ true)
    pub room_whole : room b % 4 ≡ 0
    pub room_most : room b ≤ MOST_ROOM
    -- a result stands within the room for arguments
    pub handed : (h : Housed) (at : ℕ) → result_in b.own.all ≡ Some h → h.home ≡ Placed at → at + h.bytes ≤ SPARE_ROOM
    pub texts : HasTexts b

  -- active calls, the last one first
  abbrev pub Linked : List Site → Type 0
  Linked [] = Unit {0}
  Linked (s ∷ sites) =
      IsBody s.body × (s.body.start ≡ is_empty sites) × (s.level ≡ length sites) × (s.level + s.left ≡ ACTIVE_CALLS) × (s.base ≡ next_base sites)
      × Linked sites
