-- What block code and word code have in common while they run: each value is where its place is, and each location has the address to
-- which it leads.
use Rattle.std.proofs.Common.{◌≡◌, ◌⊎◌, inl, inr, sym, ap, subst, ◌∙◌, ℕ, ◌+◌, ◌<◌, ◌^◌, List, [], ◌∷◌, ◌++◌, length, map, Option, Some, None, Bool, true}
use Rattle.std.proofs.Common.{false}
use Rattle.std.specs.Set.{is_member}
use Rattle.nim_types.specs.Types.{same_text}
use Rattle.nim_types.specs.declared.types.TypeDef.{TypeDef}
use Rattle.nim_meaning.specs.Values.{Value, Fixed, number_of, Base, Made, Location, Standing, Waiting, InBlock, InHand, InException, at_base, part, Slot, Holds}
use Rattle.nim_meaning.specs.Values.{Stands, Lends}
use Rattle.nim_meaning.specs.Places.{may_change, root_of}
use Rattle.nim_meaning.specs.State.{World, slot_at, frame_at, temporary_at}
use Rattle.flat_code.specs.declared.block.BlockLine.{BlockLine}
use Rattle.flat_code.specs.declared.code.Code.{Code}
use Rattle.flat_code.specs.declared.line.Piece.{Piece}
use Rattle.flat_code.specs.declared.place.PlaceKind.{PlaceKind}
use Rattle.word_code.specs.Memory.{Memory}
use Rattle.word_code.specs.Words.{Vars}
use Rattle.flat_code.specs.Scene.{Where, Located, Within, Temps}
use Rattle.flat_code.specs.Shapes.{Shape, has_shape}
use Rattle.flat_code.specs.Fits.{is_value, is_location, is_declared, is_standing}
use Rattle.word_lowering.specs.Lowered.{data_at}
use Rattle.word_lowering.specs.declared.homes.TheConstants.{LEFT}
use Rattle.word_lowering.specs.declared.homes.Alias.{Alias}
use Rattle.word_lowering.specs.declared.homes.Alias.TheVariants as alias
use Rattle.word_lowering.specs.declared.homes.Home.{Home}
use Rattle.word_lowering.specs.declared.homes.Home.TheVariants.{Variable, Placed, Static}
use Rattle.word_lowering.specs.declared.homes.Housed.{Housed}
use Rattle.word_lowering.specs.declared.homes.Waiter.{Waiter}
use Rattle.word_lowering.specs.declared.spots.Spot.{Spot}
use Rattle.word_lowering.specs.declared.spots.Spot.TheVariants.{Held, Lies, Letter}
use Rattle.flat_code.specs.Codes.{block_plain}
use Rattle.flat_code.specs.Lines.{level_at}
use Rattle.flat_code.specs.Pieces.{value_of, are_one, has_links, standing_bytes}
use Rattle.flat_code.specs.Sizes.{lines_texts, code_texts}
use Rattle.word_lowering.specs.Aliases.{is_among, standing, texts_of}
use Rattle.word_lowering.specs.Layouts.{found, holds_address, owns}
use Rattle.word_lowering.specs.WaitingCode.{waiter_at, waiter_house}
use Rattle.word_lowering.specs.Spots.{spot_of}
use Rattle.word_lowering.specs.Operations.{word}
use Rattle.word_lowering.specs.Texts.{texts_at, constant_place, linked_place, handle_place, text_place}
use Rattle.word_lowering.specs.LineCode.{variable_of}
use Rattle.word_lowering.proofs.InMemory.{IsAt, IsByteAt}
use Rattle.word_lowering.proofs.Blocks.{Blocks, AreLater, Stored}
use Rattle.word_lowering.proofs.BlockPaths.{LeadsInBlock, LeadsInText, text_later}
use Rattle.word_lowering.proofs.FixedValues.{FixedAt}
use Rattle.word_lowering.proofs.ShapeFacts.{never, of_numbers, is_letter, letter, shape_bytes}
use Rattle.word_lowering.proofs.ShapePaths.{PathTo, path_numbers}
use Rattle.word_lowering.proofs.Temporaries.{AreOnce}
use Rattle.word_lowering.proofs.Sites.{Body, type_of, data_end, laid_from, lines_of, Site, AmongSites, Among, looks, There, InMemory}

-- ---- where values are

-- the address of a place in memory, and the one to which a home points
abbrev pub address_of : (base : ℕ) → Home → ℕ
address_of base (Variable v) = 0
address_of base (Placed at) = base + at
address_of base (Static at) = data_at + at

abbrev pub Points : (base : ℕ) → Vars → Home → ℕ → Type 0
Points base vars (Variable v) a = vars v ≡ Some a
Points base vars (Placed at) a = a ≡ base + at
Points base vars (Static at) a = a ≡ data_at + at

-- blocks by their identities, and whether a text stands at a place of the data
pub record Ground : Type 0 where
  pub blocks : Blocks
  pub fixed : (place : ℕ) → List ℕ → Bool

-- memory, and what is known of it
pub record Store : Type 0 where
  pub memory : Memory
  pub ground : Ground

abbrev pub is_fixed : Ground → ℕ → List ℕ → Type 0
is_fixed ground place text = ground.fixed place text ≡ true

abbrev pub StoredIn : Store → ℕ → Shape → Value → Type 0
StoredIn k a s x = Stored (is_fixed k.ground) k.ground.blocks k.memory a s x

-- blocks that were born are as they were, or gone; and the data is as it was
pub record IsLater (ground later : Ground) : Type 0 where
  pub blocks : AreLater ground.blocks later.blocks
  pub fixed : later.fixed ≡ ground.fixed

-- a value of a shape is where a spot says
abbrev pub AtHome : Store → (base : ℕ) → Vars → Shape → Spot → Value → Type 0
AtHome k base vars s (Held v) x = vars v ≡ Some (word (number_of x))
AtHome k base vars s (Lies home) x = (a : ℕ) × Points base vars home a × StoredIn k a s x
AtHome k base vars s (Letter home) x = (a : ℕ) × Points base vars home a × IsByteAt k.memory a x

-- and one that is made of numbers
abbrev pub At : Memory → (base : ℕ) → Vars → Spot → Value → Type 0
At m base vars (Held v) x = vars v ≡ Some (word (number_of x))
At m base vars (Lies home) x = (a : ℕ) × Points base vars home a × IsAt m a x
At m base vars (Letter home) x = (a : ℕ) × Points base vars home a × IsByteAt m a x

-- ---- what a call has

-- a temporary with a value, one with a location, a declared place, or what waits at a node
pub data Name : Type 0 where
  of_value : (temp : ℕ) → Name
  of_location : (temp : ℕ) → Name
  of_place : (place : ℕ) → Name
  of_waiting : (node : ℕ) → Name

abbrev pub kind_in : Name → PlaceKind → Bool
kind_in (of_value t) = is_value
kind_in (of_location t) = is_location
kind_in (of_place n) = is_declared
kind_in (of_waiting node) = is_value

abbrev pub number_in : Name → ℕ
number_in (of_value t) = t
number_in (of_location t) = t
number_in (of_place n) = n
number_in (of_waiting node) = node

-- whose values have all of their shape, whatever it is: those of temporaries, and all of numbers
abbrev pub asks_shape : Name → Shape → Bool
asks_shape (of_value t) s = true
asks_shape (of_location t) s = of_numbers s
asks_shape (of_place n) s = of_numbers s
asks_shape (of_waiting node) s = of_numbers s

-- a call, with the temporaries of block code and the variables of word code
pub record Call : Type 0 where
  pub site : Site
  pub temps : Temps
  pub vars : Vars

abbrev pub site_of : Call → Site
site_of c = c.site

-- where its procedure has it among its places
abbrev pub row_of : Site → Name → Housed
row_of s name = found (kind_in name) (number_in name) s.body.own.all

abbrev pub house : Site → Name → Housed
house s (of_waiting node) = waiter_house (waiter_at node s.body.own.waiters)
house s name = row_of s name

abbrev pub IsPlaced : Name → Type 0
IsPlaced (of_waiting node) = ⊥
IsPlaced name = Unit {0}

-- the variable that is its own
abbrev pub variable_at : Option Waiter → Option ℕ
variable_at None = None
variable_at (Some w) = Some w.variable

abbrev pub HasVariable : Site → Name → ℕ → Type 0
HasVariable s (of_waiting node) u = variable_at (waiter_at node s.body.own.waiters) ≡ Some u
HasVariable s name u = (house s name).home ≡ Variable u

-- a declared place has a slot
abbrev pub Filled : World → (level place : ℕ) → Type 0
Filled w level n = (slot : Slot) × (slot_at w level n ≡ Some slot)

-- the value of a temporary, or of a place that has one of its own
abbrev pub HasValue : World → Call → Name → Value → Type 0
HasValue w c (of_value t) x = c.temps.values t ≡ Some x
HasValue w c (of_location t) x = ⊥
HasValue w c (of_place n) x = slot_at w c.site.level n ≡ Some (Holds x)
HasValue w c (of_waiting node) x = temporary_at w c.site.level node ≡ Some (Holds x)

-- a name of some place
abbrev pub IsNamed : Site → Name → Type 0
IsNamed s name = There s.body.own.all (kind_in name) (number_in name)

-- it is among the places of its procedure, or may wait there
abbrev pub IsAmong : Site → Name → Type 0
IsAmong s (of_waiting node) = (w : Waiter) × (waiter_at node s.body.own.waiters ≡ Some w)
IsAmong s name = Among (house s name) s.body.own.all

-- a name with a home of its own
pub record IsThere (s : Site) (name : Name) : Type 0 where
  pub among : IsAmong s name
  pub number : (house s name).number ≡ number_in name
  pub kind : kind_in name (house s name).kind ≡ true
  pub own : (house s name).alias ≡ alias.Own

-- ---- variables of what waits

-- one says that a value stands at an address, or that nothing waits
abbrev pub Says : Option Slot → (word : Option ℕ) → (address : ℕ) → Type 0
Says None word address = word ≡ Some 0
Says (Some (Holds v)) word address = word ≡ Some address
Says (Some (Stands other)) word address = ⊥
Says (Some (Lends v from seen)) word address = ⊥

-- at a node; where nothing may wait nothing does
abbrev pub SaysAt : Option Waiter → Option Slot → (base : ℕ) → Vars → Type 0
SaysAt None slot base vars = slot ≡ None
SaysAt (Some w) slot base vars = Says slot (vars w.variable) (base + w.at)

-- a text of a line: so many bytes behind so many of the texts of its procedure
pub record IsLiteral (b : Body) (behind bytes : ℕ) (x : Value) : Type 0 where
  pub text : List ℕ
  pub is : x ≡ Fixed text
  pub size : length text ≡ bytes
  pub before : List ℕ
  pub after : List ℕ
  pub whole : texts_of (lines_of b) ≡ before ++ (text ++ after)
  pub at : length before ≡ behind
  pub among : is_member same_text (lines_texts (lines_of b)) text ≡ true

-- a place leads to the same location while its call is active: it has a value of its own, or no line gives it a location
abbrev pub IsSteady : Site → ℕ → Type 0
IsSteady s n = (owns (house s (of_place n)) ≡ true) ⊎ (is_among n (standing (lines_of s.body)) ≡ false)

-- in a block
abbrev pub IsInBlock : Base → Type 0
IsInBlock (InBlock block) = Unit {0}
IsInBlock base = ⊥

-- of a constant, which nobody owns
abbrev pub IsMade : Base → Type 0
IsMade (Made v) = Unit {0}
IsMade base = ⊥

-- in a place, in what waits or in a block, and in no value or constant
abbrev pub IsOwned : Base → Type 0
IsOwned (Standing level number) = Unit {0}
IsOwned (Waiting level node) = Unit {0}
IsOwned (InBlock block) = Unit {0}
IsOwned base = ⊥

-- of that, or of a constant, for which a parameter may stand that is lent; where something may change it is owned
abbrev pub IsStood : Base → Type 0
IsStood base = IsOwned base ⊎ IsMade base

pub may_owned : (base : Base) → IsStood base → may_change base ≡ true → IsOwned base
may_owned base (inl is) may = is
may_owned (Made v) (inr made) may = never may
may_owned (Standing level number) (inr made) may = absurd made
may_owned (Waiting level node) (inr made) may = absurd made
may_owned (InBlock block) (inr made) may = absurd made
may_owned (InHand block) (inr made) may = absurd made
may_owned (InException i) (inr made) may = absurd made

abbrev pub Stood : Where → Type 0
Stood (Located location) = IsStood location.base
Stood (Within temp path) = ⊥

-- An address is that of a location in a block; it is known while that stands.
pub record FromBlock (ground : Ground) (location : Location) (a : ℕ) (t : Shape) : Type 0 where
  pub block : ℕ
  pub base : location.base ≡ InBlock block
  pub leads : LeadsInBlock ground.blocks block location.path a t
  pub near : a + shape_bytes t < 2 ^ 32

-- or of a character of a text in a block
pub record FromText (ground : Ground) (location : Location) (a : ℕ) (t : Shape) : Type 0 where
  pub block : ℕ
  pub base : location.base ≡ InBlock block
  pub leads : LeadsInText ground.blocks block location.path a t
  pub near : a + shape_bytes t < 2 ^ 32

text_from_later : (ground later : Ground) → IsLater ground later → (location : Location) (a : ℕ) (t : Shape) → FromText ground location a t
    → FromText later location a t
text_from_later ground later ahead location a t x = record {
  block = x.block;
  base = x.base;
  leads = text_later ground.blocks later.blocks ahead.blocks x.block location.path a t x.leads;
  near = x.near;
}

-- of a part of a constant, by its words in the data
pub record FromLinked (ground : Ground) (location : Location) (a : ℕ) (t : Shape) : Type 0 where
  pub value : Value
  pub base : location.base ≡ Made value
  pub stands : FixedAt (is_fixed ground) a t (part value location.path)
  pub near : a + shape_bytes t < 2 ^ 32

-- or of a character of a text in one, which is a byte of the data
pub record FromFixed (ground : Ground) (location : Location) (a : ℕ) (t : Shape) : Type 0 where
  pub value : Value
  pub base : location.base ≡ Made value
  pub above : List ℕ
  pub position : ℕ
  pub path : location.path ≡ above ++ position ∷ []
  pub text : List ℕ
  pub is : part value above ≡ Fixed text
  pub place : ℕ
  pub stands : is_fixed ground place text
  pub inside : position < length text
  pub shape : t ≡ letter
  pub address : a ≡ place + position
  pub near : a + shape_bytes t < 2 ^ 32

fixed_still : (ground later : Ground) → IsLater ground later → (a : ℕ) (s : Shape) (v : Value) → FixedAt (is_fixed ground) a s v
    → FixedAt (is_fixed later) a s v
fixed_still ground later ahead a s v at = subst (λ fixed. FixedAt (λ place text. fixed place text ≡ true) a s v) (sym ahead.fixed) at

pub linked_later : (ground later : Ground) → IsLater ground later → (location : Location) (a : ℕ) (t : Shape) → FromLinked ground location a t
    → FromLinked later location a t
linked_later ground later ahead location a t x = record {
  value = x.value;
  base = x.base;
  stands = fixed_still ground later ahead a t (part x.value location.path) x.stands;
  near = x.near;
}

pub fixed_later : (ground later : Ground) → IsLater ground later → (location : Location) (a : ℕ) (t : Shape) → FromFixed ground location a t
    → FromFixed later location a t
fixed_later ground later ahead location a t x = record {
  value = x.value;
  base = x.base;
  above = x.above;
  position = x.position;
  path = x.path;
  text = x.text;
  is = x.is;
  place = x.place;
  stands = ap (λ (fixed : (place : ℕ) → List ℕ → Bool). fixed x.place x.text) ahead.fixed ∙ x.stands;
  inside = x.inside;
  shape = x.shape;
  address = x.address;
  near = x.near;
}

module _ (table : List TypeDef) where
  abbrev pub looked : Site → Name → Shape
  looked s name = looks table (house s name)

  -- the value of a temporary is never handed over: it is made of numbers, or a literal
  abbrev pub IsLasting : Site → (temp : ℕ) → Type 0
  IsLasting s t = IsThere s (of_value t) → of_numbers (looked s (of_value t)) ≡ true

  -- a value looks as its place says, and is there
  pub record IsItem (k : Store) (c : Call) (name : Name) (x : Value) : Type 0 where
    pub there : IsThere c.site name
    pub plain : holds_address (house c.site name) ≡ false
    pub shaped : asks_shape name (looked c.site name) ≡ true → has_shape x (looked c.site name) ≡ true
    pub at : AtHome k c.site.base c.vars (looked c.site name) (spot_of (house c.site name)) x

  -- the same of a value of numbers
  pub record IsNumbers (m : Memory) (c : Call) (name : Name) (x : Value) : Type 0 where
    pub there : IsThere c.site name
    pub numbers : of_numbers (looked c.site name) ≡ true
    pub plain : holds_address (house c.site name) ≡ false
    pub shaped : has_shape x (looked c.site name) ≡ true
    pub at : At m c.site.base c.vars (spot_of (house c.site name)) x

  -- An address is that of a location: a part of a filled place of one of these calls, in memory.
  pub record FromPlace (sites : List Site) (w : World) (location : Location) (a : ℕ) (t : Shape) : Type 0 where
    pub site : Site
    pub among : AmongSites site sites
    pub number : ℕ
    pub base : location.base ≡ Standing site.level number
    pub filled : Filled w site.level number
    pub there : IsThere site (of_place number)
    pub home : InMemory (house site (of_place number)).home
    pub offset : ℕ
    pub path : PathTo (looked site (of_place number)) location.path offset t
    pub address : a ≡ address_of site.base (house site (of_place number)).home + offset

  -- or of a part of what waits at a node of one of these calls, if anything does
  pub record FromWaiting (sites : List Site) (location : Location) (a : ℕ) (t : Shape) : Type 0 where
    pub site : Site
    pub among : AmongSites site sites
    pub node : ℕ
    pub base : location.base ≡ Waiting site.level node
    pub there : IsThere site (of_waiting node)
    pub offset : ℕ
    pub path : PathTo (looked site (of_waiting node)) location.path offset t
    pub address : a ≡ address_of site.base (house site (of_waiting node)).home + offset

  -- where something does
  pub record FromWaits (sites : List Site) (w : World) (location : Location) (a : ℕ) (t : Shape) : Type 0 where
    pub from : FromWaiting sites location a t
    pub value : Value
    pub has : temporary_at w from.site.level from.node ≡ Some (Holds value)

  -- of a part of something that is owned
  abbrev pub FromOwned : (sites : List Site) → Ground → World → Location → (a : ℕ) → Shape → Type 0
  FromOwned sites ground w location a t = FromPlace sites w location a t ⊎ (FromBlock ground location a t ⊎ FromWaits sites w location a t)

  -- the same of a part of a temporary's value
  pub record FromValue (s : Site) (temps : Temps) (temp : ℕ) (path : List ℕ) (a : ℕ) (t : Shape) : Type 0 where
    pub there : IsThere s (of_value temp)
    pub home : InMemory (house s (of_value temp)).home
    pub offset : ℕ
    pub leads : PathTo (looked s (of_value temp)) path offset t
    pub address : a ≡ address_of s.base (house s (of_value temp)).home + offset
    pub lasting : IsLasting s temp
    pub value : Value
    pub has : temps.values temp ≡ Some value

  -- ---- temporaries with locations that are other names

  -- another name for a place
  pub record IsRoot (sites : List Site) (w : World) (c : Call) (place : ℕ) (global : Bool) (there : Where) : Type 0 where
    pub site : Site
    pub among : AmongSites site sites
    pub level : site.level ≡ level_at global c.site.level
    pub is_there : IsThere site (of_place place)
    pub steady : IsSteady site place
    pub filled : Filled w site.level place
    pub is : there ≡ Located (root_of (Standing site.level place) w)

  -- another name for a value
  pub record IsInValue (c : Call) (t : ℕ) (there : Where) : Type 0 where
    pub is : there ≡ Within t []
    pub lasting : IsLasting c.site t
    pub value : Value
    pub has : c.temps.values t ≡ Some value

  -- another name for where something waits, if it does
  pub record IsAtNode (s : Site) (temp node : ℕ) (there : Where) : Type 0 where
    pub is : there ≡ Located (at_base (Waiting s.level node))
    pub is_there : IsThere s (of_waiting node)
    pub typed : type_of table (house s (of_waiting node)) ≡ type_of table (house s (of_location temp))
    pub read_only : is_standing (house s (of_location temp)).kind ≡ false

  module _ (blocks : Code BlockLine) where
    -- ---- constants that stand in the data

    -- one without texts or sequences, and one with some
    abbrev pub standing_from : List Piece → ℕ
    standing_from pieces = data_at + (texts_at table (data_end table blocks) + constant_place (laid_from table blocks) blocks.procs pieces)

    abbrev pub linked_from : List Piece → ℕ
    linked_from pieces = data_at + (texts_at table (data_end table blocks) + linked_place (laid_from table blocks) blocks.procs pieces)

    -- the handle of a text, and the text itself
    abbrev pub handle_from : List ℕ → ℕ
    handle_from text = data_at + (texts_at table (data_end table blocks) + handle_place (laid_from table blocks) blocks.procs text)

    abbrev pub text_from : List ℕ → ℕ
    text_from text = data_at + (texts_at table (data_end table blocks) + text_place (laid_from table blocks) blocks.procs text)

    -- an address is that of a location in a constant of numbers
    pub record FromConstant (location : Location) (a : ℕ) (t : Shape) : Type 0 where
      pub pieces : List Piece
      pub plain : has_links pieces ≡ false
      pub one : are_one pieces 0 ≡ true
      pub among : is_member same_text (code_texts block_plain blocks.procs) (standing_bytes pieces) ≡ true
      pub base : location.base ≡ Made (value_of pieces)
      pub shape : Shape
      pub shaped : has_shape (value_of pieces) shape ≡ true
      pub numbers : of_numbers shape ≡ true
      pub offset : ℕ
      pub path : PathTo shape location.path offset t
      pub address : a ≡ standing_from pieces + offset

    abbrev pub FromData : Ground → Location → (a : ℕ) → Shape → Type 0
    FromData ground location a t = FromConstant location a t ⊎ FromLinked ground location a t

    abbrev pub LeadsHere : (sites : List Site) → Ground → World → Location → ℕ → Shape → Type 0
    LeadsHere sites ground w location a t =
        FromPlace sites w location a t ⊎ (FromData ground location a t ⊎ (FromBlock ground location a t ⊎ FromWaiting sites location a t))

    abbrev pub Leads : (sites : List Site) → Ground → World → (s : Site) → Temps → Where → ℕ → Shape → Type 0
    Leads sites ground w s temps (Located location) a t = LeadsHere sites ground w location a t
    Leads sites ground w s temps (Within temp path) a t = FromValue s temps temp path a t

    -- a character of a text
    abbrev pub FromLetter : Ground → Location → ℕ → Shape → Type 0
    FromLetter ground location a t = FromText ground location a t ⊎ FromFixed ground location a t

    -- The same, or a character of a text. Nobody knows which where a character is reached by an address: there it is read and written as a byte.
    abbrev pub ReachesHere : (sites : List Site) → Ground → World → Location → ℕ → Shape → Type 0
    ReachesHere sites ground w location a t = LeadsHere sites ground w location a t ⊎ FromLetter ground location a t

    abbrev pub Reaches : (sites : List Site) → Ground → World → (s : Site) → Temps → Where → ℕ → Shape → Type 0
    Reaches sites ground w s temps (Located location) a t = ReachesHere sites ground w location a t
    Reaches sites ground w s temps (Within temp path) a t = FromValue s temps temp path a t

    pub letter_later : (ground later : Ground) → IsLater ground later → (location : Location) (a : ℕ) (t : Shape) → FromLetter ground location a t
        → FromLetter later location a t
    letter_later ground later ahead location a t (inl x) = inl (text_from_later ground later ahead location a t x)
    letter_later ground later ahead location a t (inr x) = inr (fixed_later ground later ahead location a t x)

    pub reached_so : (sites : List Site) (ground : Ground) (w : World) (s : Site) (temps : Temps) (there : Where) (a : ℕ) (t : Shape)
        → Leads sites ground w s temps there a t → Reaches sites ground w s temps there a t
    reached_so sites ground w s temps (Located location) a t l = inl l
    reached_so sites ground w s temps (Within temp path) a t l = l

    pub is_stood : (sites : List Site) (ground : Ground) (w : World) (location : Location) (a : ℕ) (t : Shape)
        → LeadsHere sites ground w location a t → IsStood location.base
    is_stood sites ground w location a t (inl f) = inl (subst IsOwned (sym f.base) tt)
    is_stood sites ground w location a t (inr (inl (inl f))) = inr (subst IsMade (sym f.base) tt)
    is_stood sites ground w location a t (inr (inl (inr f))) = inr (subst IsMade (sym f.base) tt)
    is_stood sites ground w location a t (inr (inr (inl f))) = inl (subst IsOwned (sym f.base) tt)
    is_stood sites ground w location a t (inr (inr (inr f))) = inl (subst IsOwned (sym f.base) tt)

    -- what is no character leads to what is stored there by its shape
    pub stored_here : (sites : List Site) (ground : Ground) (w : World) (location : Location) (a : ℕ) (t : Shape) → is_letter t ≡ false
        → ReachesHere sites ground w location a t → LeadsHere sites ground w location a t
    stored_here sites ground w location a t other (inl f) = f
    stored_here sites ground w location a t other (inr (inl f)) = never (sym other ∙ ap is_letter f.leads.shape)
    stored_here sites ground w location a t other (inr (inr f)) = never (sym other ∙ ap is_letter f.shape)

    pub stored_so : (sites : List Site) (ground : Ground) (w : World) (s : Site) (temps : Temps) (there : Where) (a : ℕ) (t : Shape) → is_letter t ≡ false
        → Reaches sites ground w s temps there a t → Leads sites ground w s temps there a t
    stored_so sites ground w s temps (Located location) a t other l = stored_here sites ground w location a t other l
    stored_so sites ground w s temps (Within temp path) a t other l = l

    pub owned_leads : {sites : List Site} {ground : Ground} {w : World} {location : Location} {a : ℕ} {t : Shape} → FromOwned sites ground w location a t
        → LeadsHere sites ground w location a t
    owned_leads (inl f) = inl f
    owned_leads (inr (inl f)) = inr (inr (inl f))
    owned_leads (inr (inr f)) = inr (inr (inr f.from))

    -- ---- places

    -- a filled place: it has a value of its own, or stands for a location, of something that is owned or of a constant
    pub record StandsFor (sites : List Site) (ground : Ground) (w : World) (c : Call) (n : ℕ) : Type 0 where
      pub location : Location
      pub slot : slot_at w c.site.level n ≡ Some (Stands location)
      pub address : ℕ
      pub holds : c.vars (variable_of (house c.site (of_place n))) ≡ Some address
      pub stood : IsStood location.base
      pub leads : ReachesHere sites ground w location address (looked c.site (of_place n))

    pub record IsFilled (sites : List Site) (ground : Ground) (w : World) (c : Call) (n : ℕ) : Type 0 where
      pub own : owns (house c.site (of_place n)) ≡ true → (x : Value) × (slot_at w c.site.level n ≡ Some (Holds x))
      pub other : owns (house c.site (of_place n)) ≡ false → StandsFor sites ground w c n

    -- ---- temporaries with locations

    -- with the address in a variable
    pub record IsAddressed (sites : List Site) (ground : Ground) (w : World) (c : Call) (temp : ℕ) (there : Where) : Type 0 where
      -- one that may be written is of something that is owned, or of a constant
      pub standing : is_standing (house c.site (of_location temp)).kind ≡ true → Stood there
      pub address : ℕ
      pub holds : c.vars (variable_of (house c.site (of_location temp))) ≡ Some address
      pub leads : Reaches sites ground w c.site c.temps there address (looked c.site (of_location temp))

    abbrev pub IsLedBy : Alias → (sites : List Site) → Ground → World → Call → (temp : ℕ) → Where → Type 0
    IsLedBy alias.Own sites ground w c temp there = IsAddressed sites ground w c temp there
    IsLedBy (alias.Place place global) sites ground w c temp there = IsRoot sites w c place global there
    IsLedBy (alias.Value t) sites ground w c temp there = IsInValue c t there
    IsLedBy (alias.Node node) sites ground w c temp there = IsAtNode c.site temp node there
    IsLedBy (alias.Text behind bytes) sites ground w c temp there = ⊥

    abbrev pub IsLed : (sites : List Site) → Ground → World → Call → (temp : ℕ) → Where → Type 0
    IsLed sites ground w c temp there = IsLedBy (house c.site (of_location temp)).alias sites ground w c temp there

    -- ---- all of it

    pub record Holding (k : Store) (w : World) (sites : List Site) (c : Call) : Type 0 where
      pub items : (name : Name) (x : Value) → IsThere c.site name → HasValue w c name x → IsItem k c name x
      pub texts : (t behind bytes : ℕ) (x : Value) → IsNamed c.site (of_value t) → (house c.site (of_value t)).alias ≡ alias.Text behind bytes
          → c.temps.values t ≡ Some x → IsLiteral c.site.body behind bytes x
      pub led : (t : ℕ) (there : Where) → IsNamed c.site (of_location t) → c.temps.places t ≡ Some there → IsLed sites k.ground w c t there
      pub filled : (n : ℕ) → IsThere c.site (of_place n) → Filled w c.site.level n → IsFilled sites k.ground w c n
      pub left : c.site.body.start ≡ false → c.vars LEFT ≡ Some c.site.left
      pub waits : (node : ℕ) → SaysAt (waiter_at node c.site.body.own.waiters) (temporary_at w c.site.level node) c.site.base c.vars
      pub once : AreOnce (frame_at w c.site.level).temporaries

    abbrev pub AllHold : Store → World → List Call → Type 0
    AllHold k w [] = Unit {0}
    AllHold k w (c ∷ cs) = Holding k w (map site_of (c ∷ cs)) c × AllHold k w cs
