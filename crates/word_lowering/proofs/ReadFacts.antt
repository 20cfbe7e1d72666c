-- Values that lines read, of temporaries and at locations, and what code is to know of where they are.
use Rattle.std.proofs.Common.{◌≡◌, ◌⊎◌, inl, inr, ℕ, ◌+◌, ◌%◌, ◌^◌, ◌<◌, ◌≤◌, List, [], ◌∷◌, map, Some, Ok, Bool, true, false, refl, sym, ap, ap₂, subst}
use Rattle.std.proofs.Common.{◌∙◌, arith}
use Rattle.std.proofs.lemmas.Bool.{cases_Bool}
use Rattle.nim_types.specs.declared.types.TypeDef.{TypeDef}
use Rattle.nim_types.specs.Types.{Ty}
use Rattle.nim_types.specs.Table.{facts_in}
use Rattle.nim_meaning.specs.Values.{Value, bytes, number_of, Standing, Location, Holds, at_base, Waiting}
use Rattle.nim_meaning.specs.State.{World, held, load, slot_at, is_full_at, awaited, is_whole}
use Rattle.nim_meaning.specs.Places.{place_at, through_slot, root_of}
use Rattle.flat_code.specs.declared.block.BlockLine.{BlockLine}
use Rattle.flat_code.specs.declared.code.Code.{Code}
use Rattle.flat_code.specs.Scene.{known_in, Where, Located, Temps, if_value, location_at}
use Rattle.flat_code.specs.Shapes.{Shape, has_shape, shape_of}
use Rattle.flat_code.specs.Fits.{is_global, place_named, if_type_of}
use Rattle.word_lowering.specs.declared.homes.Alias.{Alias}
use Rattle.word_lowering.specs.declared.homes.Alias.TheVariants as alias
use Rattle.word_lowering.specs.declared.homes.Home.TheVariants.{Variable, Static}
use Rattle.word_lowering.specs.declared.homes.Housed.{Housed}
use Rattle.word_lowering.specs.declared.spots.Spot.TheVariants.{Lies}
use Rattle.word_lowering.specs.declared.texts.TheConstants.{FIXED_BYTES}
use Rattle.word_lowering.specs.Layouts.{holds_address, owns}
use Rattle.word_lowering.specs.LineCode.{variable_in, variable_of, named, place, location}
use Rattle.word_lowering.specs.Operations.{word}
use Rattle.word_lowering.proofs.Scenes.{FromOwned, Ground, of_waiting, FromWaiting, Reaches, ReachesHere, stored_so}
use Rattle.word_lowering.proofs.InMemory.{IsAt, IsByteAt, HasWords}
use Rattle.word_lowering.proofs.LetterReads.{LetterAt, letter_led, letter_shaped, letter_word}
use Rattle.word_lowering.proofs.ShapeFacts.{never, shape_bytes, is_letter, letter_is, of_numbers, bytes_is, values_of_numbers}
use Rattle.word_lowering.proofs.ShapePaths.{path_within}
use Rattle.word_lowering.proofs.Moves.{is_single}
use Rattle.word_lowering.proofs.LineFits.{single_is, has_words}
use Rattle.word_lowering.proofs.Sites.{room, around, type_of, Housing, in_variable, by_address, in_places, in_data, InMemory, Site, AmongSites}
use Rattle.word_lowering.proofs.Sites.{data_end, globals_of, IsHoused, IsGlobal, IsBody, Linked}
use Rattle.word_lowering.proofs.Scenes.{address_of, Name, of_value, of_location, of_place, Call, site_of, house, Filled, IsNamed, IsThere, looked}
use Rattle.word_lowering.proofs.Scenes.{FromPlace, FromConstant, FromData, standing_from, FromValue, IsRoot, IsInValue, IsLedBy, IsFilled, IsNumbers, HasValue}
use Rattle.word_lowering.proofs.SitesApart.{houses, site_at}
use Rattle.word_lowering.proofs.Keeping.{location_address, declared_address, spot_memory, spot_address, spot_letter, from_memory, waiting_inside, node_look}
use Rattle.word_lowering.proofs.GoodLeads.{OwnHome, own_home, waiting_value}
use Rattle.word_lowering.proofs.Located.{IsReadAt, led_located, full_there}
use Rattle.word_lowering.proofs.Sources.{Lying, lying_all, lying_near, lying_readable, Source, letter_at, lies_at, item_source, size_is, word_is, small_word}
use Rattle.word_lowering.proofs.Related.{Both, IsClosed, body_of, called_by, store_of}
use Rattle.word_lowering.proofs.PieceWords.{room_of, words_room, words_are}
use Rattle.word_lowering.proofs.SmallWords.{AllSmall, small_words}
use Rattle.flat_code.specs.Pieces.{value_of, piece_words}
use Rattle.word_lowering.proofs.Lines.{Basis, starts, IsGood, all_sites}
use Rattle.word_lowering.proofs.ValueFacts.{has_type, look_of, value_there, place_there, location_of_numbers, IsPlain}
use Rattle.word_lowering.proofs.Items.{numbers_of}

module _ (x : Basis) where
  -- the address of a location is one of the machine's
  pub constant_near : (l : Location) (a : ℕ) (t : Shape) → FromConstant x.table x.blocks l a t → a + shape_bytes t < 2 ^ 32
  constant_near l a t f =
      let v : Value = value_of f.pieces in
      let words = words_are f.pieces f.plain f.one in
      let there = x.constants f.pieces (subst AllSmall (sym words) (small_words v f.shape f.numbers f.shaped)) f.among in
      let room = ap room_of words ∙ words_room v (values_of_numbers v f.shape f.numbers f.shaped) in
      let size = bytes_is v f.shape f.numbers f.shaped in
      let within = path_within f.shape l.path f.offset t f.path in
      let near = text_near (standing_from x.table x.blocks f.pieces) (room_of (piece_words f.pieces)) there.is_text.0 in
      let e = f.address in
      omega (arith, near, within, e, size, room)
    where
      text_near : (b n : ℕ) → IsClosed x.table x.blocks b n → b + n < 2 ^ 32
      text_near b n (inl c) = omega (arith, c.1)
      text_near b n (inr c) = omega (arith, c.1)

pub data_near : (x : Basis) (ground : Ground) (l : Location) (a : ℕ) (t : Shape) → FromData x.table x.blocks ground l a t → a + shape_bytes t < 2 ^ 32
data_near x ground l a t (inl f) = constant_near x l a t f
data_near x ground l a t (inr f) = f.near

module _ (x : Basis) (sites : List Site) (linked : Linked x.table x.blocks sites) where
  place_near : (from : List Site) (w : World) (location : Location) (a : ℕ) (t : Shape) → ((s : Site) → AmongSites s from → AmongSites s sites)
      → FromPlace x.table from w location a t → a + shape_bytes t < 2 ^ 32
  place_near from w location a t among f =
      let s = site_at x.table x.blocks sites f.site linked (among f.site f.among) in
      let h = houses x.table x.blocks f.site (of_place f.number) s.body f.there in
      let size = h.bytes in
      let near = lying_near x sites linked (address_of f.site.base (house f.site (of_place f.number)).home) (house f.site (of_place f.number)).bytes
      (lying_all x sites linked f.site (of_place f.number) (house f.site (of_place f.number)).bytes (among f.site f.among) f.there f.home refl) in
      let within = path_within (looked x.table f.site (of_place f.number)) location.path f.offset t f.path in
      let e = f.address in
      omega (arith, near, within, e, size)

  pub waiting_near : (location : Location) (a : ℕ) (t : Shape) → FromWaiting x.table sites location a t → a + shape_bytes t < 2 ^ 32
  waiting_near location a t f =
      let b = site_at x.table x.blocks sites f.site linked f.among in
      let h = houses x.table x.blocks f.site (of_waiting f.node) b.body f.there in
      let size = h.bytes in
      let near = lying_near x sites linked (address_of f.site.base (house f.site (of_waiting f.node)).home) (house f.site (of_waiting f.node)).bytes
      (lying_all x sites linked f.site (of_waiting f.node) (house f.site (of_waiting f.node)).bytes f.among f.there
      (waiting_inside f.site f.node f.there) refl) in
      let within = path_within (looked x.table f.site (of_waiting f.node)) location.path f.offset t f.path in
      let e = f.address in
      omega (arith, near, within, e, size)

  pub owned_near : (ground : Ground) (w : World) (location : Location) (a : ℕ) (t : Shape) → FromOwned x.table sites ground w location a t
      → a + shape_bytes t < 2 ^ 32
  owned_near ground w location a t (inl f) = place_near sites w location a t (λ s i. i) f
  owned_near ground w location a t (inr (inl f)) = f.near
  owned_near ground w location a t (inr (inr f)) = waiting_near location a t f.from

  pub here_near : (ground : Ground) (w : World) (location : Location) (a : ℕ) (t : Shape)
      → ReachesHere x.table x.blocks sites ground w location a t → a + shape_bytes t < 2 ^ 32
  here_near ground w location a t (inl (inl f)) = owned_near ground w location a t (inl f)
  here_near ground w location a t (inl (inr (inl f))) = data_near x ground location a t f
  here_near ground w location a t (inl (inr (inr (inl f)))) = f.near
  here_near ground w location a t (inl (inr (inr (inr f)))) = waiting_near location a t f
  here_near ground w location a t (inr (inl f)) = f.near
  here_near ground w location a t (inr (inr f)) = f.near

  pub value_near : (s : Site) (temps : Temps) (temp : ℕ) (path : List ℕ) (a : ℕ) (t : Shape) → AmongSites s sites
      → FromValue x.table s temps temp path a t → a + shape_bytes t < 2 ^ 32
  value_near s temps temp path a t i f =
      let b = site_at x.table x.blocks sites s linked i in
      let h = houses x.table x.blocks s (of_value temp) b.body f.there in
      let size = h.bytes in
      let near = lying_near x sites linked (address_of s.base (house s (of_value temp)).home) (house s (of_value temp)).bytes
      (lying_all x sites linked s (of_value temp) (house s (of_value temp)).bytes i f.there f.home refl) in
      let within = path_within (looked x.table s (of_value temp)) path f.offset t f.leads in
      let e = f.address in
      omega (arith, near, within, e, size)

-- the call of the start code
pub record StartSite (table : List TypeDef) (blocks : Code BlockLine) (sites : List Site) : Type 0 where
  pub site : Site
  pub among : AmongSites site sites
  pub level : site.level ≡ 0
  pub start : site.body.start ≡ true
  pub body : IsBody table blocks site.body

pub start_site : (table : List TypeDef) (blocks : Code BlockLine) (s : Site) (sites : List Site)
    → Linked table blocks (s ∷ sites) → StartSite table blocks (s ∷ sites)
start_site table blocks s [] l = record { site = s; among = inl refl; level = l.2; start = l.1; body = l.0 }
start_site table blocks s (t ∷ sites) l =
    let r = start_site table blocks t sites l.5 in
    record { site = r.site; among = inr r.among; level = r.level; start = r.start; body = r.body }

module _ (x : Basis) (g : Both) (line : BlockLine) (rest : List BlockLine) (y : IsGood x (starts g line rest)) where
  abbrev sites : List Site
  sites = all_sites x g line rest y

  -- a value, and what the code is to know of its place
  pub record Read (all : Bool) (h : Housed) (v : Value) : Type 0 where
    pub word : h.is_word ≡ is_single v
    pub size : h.bytes ≡ bytes v
    pub small : HasWords v
    pub source : Source x sites y.linked g.memory g.call.site.base g.call.vars all h v

  -- ---- of temporaries

  pub record ValueRead (t : ℕ) (v : Value) : Type 0 where
    pub there : IsThere g.call.site (of_value t)
    pub here : of_numbers (looked x.table g.call.site (of_value t)) ≡ true
    pub shaped : has_shape v (looked x.table g.call.site (of_value t)) ≡ true
    pub read : Read true (house g.call.site (of_value t)) v

  -- a value of the call
  pub item_read : (f : Name) (v : Value) → IsThere g.call.site f → of_numbers (looked x.table g.call.site f) ≡ true → HasValue g.world g.call f v
      → IsNumbers x.table g.memory g.call f v
  item_read f v there numbers has = numbers_of x.table (store_of g) g.call f v numbers (y.hold.0.items f v there has)

  pub read_item : (f : Name) (v : Value) → IsNumbers x.table g.memory g.call f v → Read true (house g.call.site f) v
  read_item f v item = record {
    word = word_is x sites y.linked g.call (inl refl) f item.there item.plain v item.numbers item.shaped;
    size = size_is x sites y.linked g.call (inl refl) f item.there item.plain v item.numbers item.shaped;
    small = small_word x sites y.linked g.call (inl refl) f item.there item.plain v item.numbers item.shaped;
    source = item_source x sites y.linked g.memory y.memory g.call f v (inl refl) item;
  }

  pub read_value : (t : ℕ) (v : Value) → IsThere g.call.site (of_value t) → of_numbers (looked x.table g.call.site (of_value t)) ≡ true
      → g.call.temps.values t ≡ Some v → ValueRead t v
  read_value t v there numbers e =
      let item = item_read (of_value t) v there numbers e in
      record { there = there; here = numbers; shaped = item.shaped; read = read_item (of_value t) v item }

  -- ---- at addresses

  read_address : (f : Name) → IsThere g.call.site f → holds_address (house g.call.site f) ≡ true → (v : Value) (a : ℕ)
      → g.call.vars (variable_of (house g.call.site f)) ≡ Some a → is_letter (looked x.table g.call.site f) ≡ false
      → IsReadAt x sites y.linked g.memory v a (looked x.table g.call.site f) → Read false (house g.call.site f) v
  read_address f there address v a is other at = by place_is.where_is
    where
      place_is : IsHoused x.table x.blocks g.call.site.body (house g.call.site f)
      place_is = houses x.table x.blocks g.call.site f y.linked.0 there

      by : Housing (room (body_of g)) FIXED_BYTES (data_end x.table x.blocks) (body_of g).start (house g.call.site f) → Read false (house g.call.site f) v
      by (in_variable u e plain low w) = never (sym plain ∙ address)
      by (in_places n e plain whole within) = never (sym plain ∙ address)
      by (in_data n e plain whole low within start) = never (sym plain ∙ address)
      by (by_address u e k low) = record {
        word = sym (single_is v (looked x.table g.call.site f) at.numbers at.shaped ∙ place_is.word);
        size = sym (bytes_is v (looked x.table g.call.site f) at.numbers at.shaped ∙ place_is.bytes);
        small = has_words v (looked x.table g.call.site f) at.shaped;
        source = lies_at (Variable u) (spot_address (house g.call.site f) u address (sym place_is.letter ∙ other) e) low a
            (ap g.call.vars (sym (ap variable_in e)) ∙ is) at.is_at at.readable
            (λ no_all. never no_all);
      }

  -- a character there is read as a byte
  read_letter : (f : Name) → IsThere g.call.site f → holds_address (house g.call.site f) ≡ true → (v : Value) (a : ℕ)
      → g.call.vars (variable_of (house g.call.site f)) ≡ Some a → is_letter (looked x.table g.call.site f) ≡ true
      → LetterAt x (starts g line rest) y v a → has_shape v (looked x.table g.call.site f) ≡ true → Read false (house g.call.site f) v
  read_letter f there address v a is letter at shaped = by place_is.where_is
    where
      place_is : IsHoused x.table x.blocks g.call.site.body (house g.call.site f)
      place_is = houses x.table x.blocks g.call.site f y.linked.0 there

      numbers : of_numbers (looked x.table g.call.site f) ≡ true
      numbers = ap of_numbers (letter_is (looked x.table g.call.site f) letter)

      byte_is : IsByteAt g.memory a v
      byte_is = at.reads ∙ ap Ok (sym (letter_word at.code at.small)) ∙ ap (λ u. Ok (word (number_of u))) (sym at.is)

      by : Housing (room (body_of g)) FIXED_BYTES (data_end x.table x.blocks) (body_of g).start (house g.call.site f) → Read false (house g.call.site f) v
      by (in_variable u e plain low w) = never (sym plain ∙ address)
      by (in_places n e plain whole within) = never (sym plain ∙ address)
      by (in_data n e plain whole low within start) = never (sym plain ∙ address)
      by (by_address u e k low) = record {
        word = sym (single_is v (looked x.table g.call.site f) numbers shaped ∙ place_is.word);
        size = sym (bytes_is v (looked x.table g.call.site f) numbers shaped ∙ place_is.bytes);
        small = has_words v (looked x.table g.call.site f) shaped;
        source = letter_at (Variable u) (spot_letter (house g.call.site f) u address (sym place_is.letter ∙ letter) e) low a
            (ap g.call.vars (sym (ap variable_in e)) ∙ is) byte_is at.near (ap is_single at.is) refl;
      }

  -- where all of it is there
  record LedRead (f : Name) (v : Value) : Type 0 where
    shaped : has_shape v (looked x.table g.call.site f) ≡ true
    read : Read false (house g.call.site f) v

  led_read : (f : Name) → IsThere g.call.site f → holds_address (house g.call.site f) ≡ true → of_numbers (looked x.table g.call.site f) ≡ true
      → (there : Where) → is_full_at g.world (location_at g.call.temps there) ≡ true → (a : ℕ) → g.call.vars (variable_of (house g.call.site f)) ≡ Some a
      → Reaches x.table x.blocks sites g.ground g.world g.call.site g.call.temps there a (looked x.table g.call.site f)
      → LedRead f (load g.world (location_at g.call.temps there))
  led_read f is_there address numbers there full a is leads = by (is_letter (looked x.table g.call.site f)) refl
    where
      v : Value
      v = load g.world (location_at g.call.temps there)

      by : (b : Bool) → is_letter (looked x.table g.call.site f) ≡ b → LedRead f (load g.world (location_at g.call.temps there))
      by true letter =
          let at = letter_led x (starts g line rest) y g.call (inl refl) (inl refl) there a (looked x.table g.call.site f) letter full leads in
          let shaped : has_shape v (looked x.table g.call.site f) ≡ true
          = ap₂ has_shape at.is (letter_is (looked x.table g.call.site f) letter) ∙ letter_shaped at.code at.small in
          record { shaped = shaped; read = read_letter f is_there address v a is letter at shaped }
      by false other =
          let at = led_located x (starts g line rest) y g.call (inl refl) (inl refl) there a (looked x.table g.call.site f) numbers full
          (stored_so x.table x.blocks sites g.ground g.world g.call.site g.call.temps there a (looked x.table g.call.site f) other leads) in
          record { shaped = at.shaped; read = read_address f is_there address v a is other at }

  -- ---- of declared places

  -- where it has a value of its own, and where it stands for a location
  pub own_root : (level n : ℕ) (v : Value) → slot_at g.world level n ≡ Some (Holds v) → root_of (Standing level n) g.world ≡ place_at level n
  own_root level n v e = ap (through_slot (Standing level n)) e

  pub own_load : (level n : ℕ) (v : Value) → slot_at g.world level n ≡ Some (Holds v) → load g.world (root_of (Standing level n) g.world) ≡ v
  own_load level n v e = ap (load g.world) (own_root level n v e) ∙ ap held e

  abbrev root_value : (level n : ℕ) → Value
  root_value level n = load g.world (root_of (Standing level n) g.world)

  pub record PlaceRead (level n : ℕ) (global : Bool) (shape : Shape) : Type 0 where
    pub shaped : has_shape (root_value level n) shape ≡ true
    pub all : Bool
    pub read : Read all (place (around x.table x.blocks (body_of g)) n global) (root_value level n)

  pub read_own : (n : ℕ) → IsThere g.call.site (of_place n) → of_numbers (looked x.table g.call.site (of_place n)) ≡ true → Filled g.world g.call.site.level n
      → is_full_at g.world (root_of (Standing g.call.site.level n) g.world) ≡ true
      → PlaceRead g.call.site.level n false (looked x.table g.call.site (of_place n))
  read_own n there numbers filled full = by (cases_Bool (owns (house g.call.site (of_place n))))
    where
      f : IsFilled x.table x.blocks (all_sites x g line rest y) g.ground g.world g.call n
      f = y.hold.0.filled n there filled

      owned : owns (house g.call.site (of_place n)) ≡ true → PlaceRead g.call.site.level n false (looked x.table g.call.site (of_place n))
      owned own =
          let v = f.own own in
          let item = item_read (of_place n) v.0 there numbers v.1 in
          let same = sym (own_load g.call.site.level n v.0 v.1) in
          record {
            shaped = subst (λ u. has_shape u (looked x.table g.call.site (of_place n)) ≡ true) same item.shaped;
            all = true;
            read = subst (λ u. Read true (house g.call.site (of_place n)) u) same (read_item (of_place n) v.0 item);
          }

      other : owns (house g.call.site (of_place n)) ≡ false → PlaceRead g.call.site.level n false (looked x.table g.call.site (of_place n))
      other no_own =
          let s = f.other no_own in
          let is : root_of (Standing g.call.site.level n) g.world ≡ s.location = ap (through_slot (Standing g.call.site.level n)) s.slot in
          let at = led_read (of_place n) there (declared_address (house g.call.site (of_place n)) there.kind no_own) numbers (Located s.location)
          (subst (λ l. is_full_at g.world l ≡ true) is full) s.address s.holds s.leads in
          let same : load g.world s.location ≡ root_value g.call.site.level n = ap (load g.world) (sym is) in
          record {
            shaped = subst (λ u. has_shape u (looked x.table g.call.site (of_place n)) ≡ true) same at.shaped;
            all = false;
            read = subst (λ u. Read false (house g.call.site (of_place n)) u) same at.read;
          }

      by : (owns (house g.call.site (of_place n)) ≡ true) ⊎ (owns (house g.call.site (of_place n)) ≡ false)
          → PlaceRead g.call.site.level n false (looked x.table g.call.site (of_place n))
      by (inl h) = owned h
      by (inr h) = other h

  -- a global: a place of the start code
  pub record GlobalRoot (n : ℕ) (ty : Ty) : Type 0 where
    pub start : StartSite x.table x.blocks sites
    pub global : IsGlobal x.table x.blocks start.site.body n ty
    pub there : IsThere start.site (of_place n)
    pub home : InMemory (house start.site (of_place n)).home
    pub filled : Filled g.world start.site.level n
    pub root : OwnHome x (starts g line rest) y start.site n

  pub global_root : (n : ℕ) (ty : Ty) → if_type_of (known_in x.table) (place_named is_global (globals_of x.table x.blocks) n) ≡ Some ty
      → Filled g.world 0 n → GlobalRoot n ty
  global_root n ty is h =
      let s = start_site x.table x.blocks g.call.site (map site_of (map called_by g.waiting)) y.linked in
      let filled : Filled g.world s.site.level n = subst (λ l. Filled g.world l n) (sym s.level) h in
      let global = s.body.global s.start n ty is in
      let there : IsThere s.site (of_place n) = place_there x s.site n s.body global.there in
      let home : InMemory (house s.site (of_place n)).home = subst InMemory (sym global.home) tt in
      let root = own_home x (starts g line rest) y s.site n s.among filled there home in
      record {
        start = s;
        global = global;
        there = there;
        home = home;
        filled = filled;
        root = root;
      }

  -- the same range, at an address in other words
  abbrev lying_as : {a b k : ℕ} → a ≡ b → Lying x sites y.linked a k → Lying x sites y.linked b k
  lying_as {a} {b} {k} e l = record {
    site = l.site;
    name = l.name;
    among = l.among;
    there = l.there;
    home = l.home;
    low = subst (λ n. address_of l.site.base (house l.site l.name).home ≤ n) e l.low;
    high = subst (λ n. n + k ≤ address_of l.site.base (house l.site l.name).home + (house l.site l.name).bytes) e l.high;
    whole = subst (λ n. n % 4 ≡ 0) e l.whole;
  }

  pub read_global : (n : ℕ) (ty : Ty) → if_type_of (known_in x.table) (place_named is_global (globals_of x.table x.blocks) n) ≡ Some ty
      → of_numbers (shape_of (facts_in x.table) ty) ≡ true → Filled g.world 0 n → PlaceRead 0 n true (shape_of (facts_in x.table) ty)
  read_global n ty is numbers h =
      let r = global_root n ty is h in
      let site0 = r.start.site in
      let c : Call = record { site = site0; temps = r.root.temps; vars = r.root.vars } in
      let v = r.root.value in
      let item = numbers_of x.table (store_of g) c (of_place n) v (ap (λ u. of_numbers (shape_of (facts_in x.table) u)) r.global.typed ∙ numbers)
      r.root.item in
      let same : house site0 (of_place n) ≡ place (around x.table x.blocks (body_of g)) n true = sym r.global.same in
      let at = from_memory g.memory site0.base r.root.vars (house site0 (of_place n)) v item.plain r.home item.at in
      let size = size_is x sites y.linked c r.start.among (of_place n) item.there item.plain v item.numbers item.shaped in
      let address : address_of site0.base (house site0 (of_place n)).home ≡ address_of site0.base (Static r.global.datum) = ap
      (address_of site0.base) r.global.home in
      let lying = lying_as address (lying_all x sites y.linked site0 (of_place n) (bytes v) r.start.among r.there r.home size) in
      let load_is : v ≡ root_value 0 n = subst (λ l. v ≡ root_value l n) r.start.level (sym (own_load site0.level n v r.root.slot)) in
      record {
        shaped = subst (λ u. has_shape u (shape_of (facts_in x.table) ty) ≡ true) load_is
            (subst (λ t. has_shape v (shape_of (facts_in x.table) t) ≡ true) r.global.typed item.shaped);
        all = true;
        read = subst (λ u. Read true (place (around x.table x.blocks (body_of g)) n true) u) load_is (subst (λ k. Read true k v) same (record {
          word = word_is x sites y.linked c r.start.among (of_place n) item.there item.plain v item.numbers item.shaped;
          size = size;
          small = small_word x sites y.linked c r.start.among (of_place n) item.there item.plain v item.numbers item.shaped;
          source = lies_at (Static r.global.datum) (spot_memory (house site0 (of_place n)) item.plain r.home ∙ ap Lies r.global.home) tt
              (address_of site0.base (Static r.global.datum)) refl (subst (λ a. IsAt g.memory a v) address at)
              (lying_readable x sites y.linked g.memory (address_of site0.base (Static r.global.datum)) (bytes v) y.memory lying) (λ e. (lying, size));
        }));
      }

  -- ---- at locations

  abbrev located : Where → Value
  located there = load g.world (location_at g.call.temps there)

  pub record LocationRead (t : ℕ) (there : Where) : Type 0 where
    pub shaped : has_shape (located there) (looked x.table g.call.site (of_location t)) ≡ true
    pub all : Bool
    pub read : Read all (location (around x.table x.blocks (body_of g)) t) (located there)

  -- the place of a location that is another name
  abbrev named_as : Alias → ℕ → Housed
  named_as a t = named (around x.table x.blocks (body_of g)) a (house g.call.site (of_location t))

  -- where all of it is there
  pub read_location : (t : ℕ) (there : Where) → IsNamed g.call.site (of_location t) → IsPlain x g.call.site (of_location t)
      → g.call.temps.places t ≡ Some there → is_full_at g.world (location_at g.call.temps there) ≡ true → LocationRead t there
  read_location t there n plain e full = by (house g.call.site (of_location t)).alias refl (y.hold.0.led t there n e)
    where
      as_location : (a : Alias) (all : Bool) (v : Value) → (house g.call.site (of_location t)).alias ≡ a → Read all (named_as a t) v
          → Read all (location (around x.table x.blocks (body_of g)) t) v
      as_location a all v is r = subst (λ b. Read all (named_as b t) v) (sym is) r

      of_place_read : (p : ℕ) (global : Bool) (level : ℕ) (shape : Shape) → (house g.call.site (of_location t)).alias ≡ alias.Place p global
          → there ≡ Located (root_of (Standing level p) g.world) → shape ≡ looked x.table g.call.site (of_location t) → PlaceRead level p global shape
          → LocationRead t there
      of_place_read p global level shape is at look r =
          let same : root_value level p ≡ located there = sym (ap located at) in
          record {
            shaped = subst (λ u. has_shape u (looked x.table g.call.site (of_location t)) ≡ true) same
                (subst (λ s. has_shape (root_value level p) s ≡ true) look r.shaped);
            all = r.all;
            read = as_location (alias.Place p global) r.all (located there) is
                (subst (λ u. Read r.all (place (around x.table x.blocks (body_of g)) p global) u) same r.read);
          }

      by_place : (p : ℕ) (global : Bool) → (house g.call.site (of_location t)).alias ≡ alias.Place p global
          → IsRoot x.table (all_sites x g line rest y) g.world g.call p global there → LocationRead t there
      by_place p true is r =
          let ty = y.linked.0.aliased t p true n is in
          let filled : Filled g.world 0 p = subst (λ l. Filled g.world l p) r.level r.filled in
          of_place_read p true 0 (shape_of (facts_in x.table) (type_of x.table (house g.call.site (of_location t)))) is
          (r.is ∙ ap (λ l. Located (root_of (Standing l p) g.world)) r.level) refl
          (read_global p (type_of x.table (house g.call.site (of_location t))) ty (location_of_numbers x g.call.site t y.linked.0 n plain) filled)
      by_place p false is r =
          let ty = y.linked.0.aliased t p false n is in
          let filled : Filled g.world g.call.site.level p = subst (λ l. Filled g.world l p) r.level r.filled in
          let typed = has_type x g.call.site (of_place p) (type_of x.table (house g.call.site (of_location t))) y.linked.0 ty in
          let there_is = place_there x g.call.site p y.linked.0 typed.named in
          of_place_read p false g.call.site.level (looked x.table g.call.site (of_place p)) is
          (r.is ∙ ap (λ l. Located (root_of (Standing l p) g.world)) r.level)
          (look_of x g.call.site (of_place p) (type_of x.table (house g.call.site (of_location t))) typed) (read_own p there_is
          (ap of_numbers (look_of x g.call.site (of_place p) (type_of x.table (house g.call.site (of_location t))) typed)
          ∙ location_of_numbers x g.call.site t y.linked.0 n plain) filled
          (subst (λ w. is_full_at g.world (location_at g.call.temps w) ≡ true)
          (r.is ∙ ap (λ l. Located (root_of (Standing l p) g.world)) r.level) full))

      by_value : (u : ℕ) → (house g.call.site (of_location t)).alias ≡ alias.Value u → IsInValue x.table g.call u there → LocationRead t there
      by_value u is r =
          let ty = (y.linked.0.valued t u n is).0 in
          let typed = has_type x g.call.site (of_value u) (type_of x.table (house g.call.site (of_location t))) y.linked.0 ty in
          let look = look_of x g.call.site (of_value u) (type_of x.table (house g.call.site (of_location t))) typed in
          let v = read_value u r.value (value_there x g.call.site u y.linked.0 typed.named (ap of_numbers look ∙ location_numbers))
          (ap of_numbers look ∙ location_numbers) r.has in
          let same : r.value ≡ located there = sym (ap located r.is ∙ ap if_value r.has) in
          record {
            shaped = subst (λ w. has_shape w (looked x.table g.call.site (of_location t)) ≡ true) same
                (subst (λ s. has_shape r.value s ≡ true) look v.shaped);
            all = true;
            read = as_location (alias.Value u) true (located there) is (subst (λ w. Read true (house g.call.site (of_value u)) w) same v.read);
          }
        where
          location_numbers : of_numbers (looked x.table g.call.site (of_location t)) ≡ true
          location_numbers = location_of_numbers x g.call.site t y.linked.0 n plain

      by : (a : Alias) → (house g.call.site (of_location t)).alias ≡ a → IsLedBy x.table x.blocks a (all_sites x g line rest y) g.ground g.world g.call t there
          → LocationRead t there
      by alias.Own is r =
          let there_is : IsThere g.call.site (of_location t) = record { among = n.among; number = n.number; kind = n.kind; own = is } in
          let at = led_read (of_location t) there_is (location_address (house g.call.site (of_location t)) n.kind)
          (location_of_numbers x g.call.site t y.linked.0 n plain) there full r.address r.holds r.leads in
          record {
            shaped = at.shaped;
            all = false;
            read = as_location alias.Own false (located there) is at.read;
          }
      by (alias.Place p global) is r = by_place p global is r
      by (alias.Value u) is r = by_value u is r
      by (alias.Node m) is r =
          let same : located there ≡ load g.world (at_base (Waiting g.call.site.level m)) = ap located r.is in
          let whole = (full_there x (starts g line rest) y (location_at g.call.temps there) full).1 in
          let v = waiting_value x (starts g line rest) y g.call (inl refl) m r.is_there []
          (subst (λ w. is_whole g.world (located w) ≡ true) r.is whole) in
          let item = item_read (of_waiting m) v.0 r.is_there
          (ap of_numbers (node_look x.table g.call.site t m there r) ∙ location_of_numbers x g.call.site t y.linked.0 n plain) v.1 in
          let is_value : v.0 ≡ located there = sym (same ∙ ap awaited v.1) in
          record {
            shaped = subst (λ w. has_shape w (looked x.table g.call.site (of_location t)) ≡ true) is_value
                (subst (λ s. has_shape v.0 s ≡ true) (node_look x.table g.call.site t m there r) item.shaped);
            all = true;
            read = as_location (alias.Node m) true (located there) is
                (subst (λ w. Read true (house g.call.site (of_waiting m)) w) is_value (read_item (of_waiting m) v.0 item));
          }
      by (alias.Text behind size) is r = absurd r
