-- An argument of a call is given to its parameter: what is true then.
use Rattle.std.proofs.Common.{◌≡◌, inl, inr, ℕ, suc, ◌+◌, ◌*◌, ◌%◌, ◌^◌, ◌<◌, ◌≤◌, List, [], ◌∷◌, map, Some, true, false}
use Rattle.std.proofs.lemmas.Bool.{cases_Bool}
use Rattle.std.proofs.Common.{refl, sym, ap, ap₂, subst, ◌∙◌, arith, ◌⊎◌}
use Rattle.nim_meaning.specs.Values.{Value, bytes, Location, Slot, Holds, Stands}
use Rattle.flat_code.specs.declared.block.BlockLine.{BlockLine}
use Rattle.flat_code.specs.Codes.{block_plain}
use Rattle.flat_code.specs.Fits.{Signature, is_value, is_location, is_standing, if_kind, place_named}
use Rattle.flat_code.specs.Scene.{Where, location_at, Located}
use Rattle.flat_code.specs.Shapes.{Shape, number, has_shape, shape_of}
use Rattle.word_code.specs.declared.word.TheConstants.{SPARE_ROOM}
use Rattle.word_code.specs.declared.word.WordInstr.{WordInstr}
use Rattle.word_code.specs.declared.word.WordInstr.TheVariants.{Argument, Place}
use Rattle.word_code.specs.Memory.{Memory}
use Rattle.word_code.specs.Words.{Vars, put, from_label}
use Rattle.word_code.proofs.ForCallers.{Changed, Runs, at, got, run_argument, then_runs}
use Rattle.word_lowering.specs.declared.homes.TheConstants.{FIRST}
use Rattle.word_lowering.specs.declared.homes.Home.{Home}
use Rattle.word_lowering.specs.declared.homes.Home.TheVariants.{Variable, Placed, Static}
use Rattle.word_lowering.specs.declared.homes.Housed.{Housed}
use Rattle.word_lowering.specs.declared.texts.TheConstants.{FIXED_BYTES}
use Rattle.word_lowering.specs.Aliases.{handed_by, places_in, is_among}
use Rattle.word_lowering.specs.Layouts.{params_in, holds_address}
use Rattle.word_lowering.specs.LineCode.{Around, argument_code, word_argument, location}
use Rattle.word_lowering.proofs.HeapKept.{SameHeap, heap_same}
use Rattle.word_lowering.proofs.AddressFacts.{Reached, as_reached, at_homed, high_in_memory, in_memory, handed_homed}
use Rattle.word_lowering.proofs.Arguments.{Gives, to_variable, to_place}
use Rattle.word_lowering.proofs.Callees.{Callee}
use Rattle.word_lowering.proofs.FirstPlaces.{GivenAt, GaveSlot}
use Rattle.word_lowering.proofs.Gets.{high_variable}
use Rattle.word_lowering.proofs.HandedLines.{next_at, spare_beyond, memory_beyond, heap_beyond, hand_label, hands_bits, hands_value}
use Rattle.word_lowering.proofs.InMemory.{IsAt, bytes_some}
use Rattle.word_lowering.proofs.Keeping.{AmongCalls, Edit, nowhere, Kept, worlds_same, beyond, from_home, points_there, spot_memory}
use Rattle.word_lowering.proofs.LineFits.{single_is}
use Rattle.word_lowering.proofs.Lines.{Basis, IsGood, all_procs, all_sites, changed, good_changed, starts}
use Rattle.word_lowering.proofs.MovedLines.{value_read}
use Rattle.word_lowering.proofs.Moves.{is_single, single_word, all_same, same_first, address_runs, single_small}
use Rattle.word_lowering.proofs.OrdinalRuns.{put_here as put_same, AllSame}
use Rattle.word_lowering.proofs.OutPlaces.{written_at, written_stands}
use Rattle.word_lowering.proofs.ReadFacts.{ValueRead, item_read, here_near}
use Rattle.word_lowering.proofs.Related.{Both, body_of, called_by, within, MemoryGood, store_of, store_with}
use Rattle.word_lowering.proofs.Scenes.{At, Call, site_of, of_value, of_location, house, looked, Leads, Points, LeadsHere, Reaches, ReachesHere, IsStood}
use Rattle.word_lowering.proofs.Scenes.{is_stood}
use Rattle.word_lowering.proofs.ShapeFacts.{never, bytes_is, values_of_numbers, of_numbers, shape_bytes}
use Rattle.word_lowering.proofs.Scenes.{IsThere, StoredIn, address_of, is_fixed}
use Rattle.word_lowering.proofs.Sites.{room, looks, type_of, Among, AmongSites, Housing, in_variable, by_address, in_places, in_data, Site, IsHoused, has_hooks}
use Rattle.word_lowering.proofs.Sites.{is_one_word}
use Rattle.word_lowering.proofs.Sites.{around, data_end, is_one_word, word_of}
use Rattle.word_lowering.proofs.SitesApart.{houses, site_at}
use Rattle.word_lowering.proofs.Targets.{Pointed, pointed}
use Rattle.word_lowering.proofs.ValueFacts.{InWord, has_type, in_word, type_in, value_plain, IsHomed}
use Rattle.word_lowering.specs.Spots.{copied_here, handed}
use Rattle.word_lowering.proofs.BitMoves.{low_carried}
use Rattle.word_lowering.proofs.BlocksBorn.{later_same}
use Rattle.word_lowering.proofs.HookedReads.{LiesAs, bytes_of, value_lies}
use Rattle.word_lowering.proofs.NumbersStored.{at_numbers}
use Rattle.word_lowering.proofs.Sources.{lying_all}
use Rattle.word_lowering.proofs.StoredLater.{shape_some, shape_whole, stored_small}
use Rattle.nim_types.specs.Table.{facts_in}

-- what has blocks is no word
pub no_word : (s : Shape) → of_numbers s ≡ false → is_one_word s ≡ false
no_word (number values) h = never (sym h)
no_word s h = refl

module _ (x : Basis) (g : Both) (line : BlockLine) (rest : List BlockLine) (y : IsGood x (starts g line rest)) where
  abbrev sites : List Site
  sites = all_sites x g line rest y

  abbrev here : Around
  here = around x.table x.blocks (body_of g)

  -- ---- with other words and memory, and variables for what comes between

  abbrev pub between : Vars → Memory → (words : Vars) → Both
  between vars m words = changed g rest g.call.temps vars m words g.awaits g.world

  -- the place of no call
  abbrev above : Site
  above = record g.call.site { level = suc g.call.site.level }

  pub good_between : (vars : Vars) (m : Memory) (words : Vars) → MemoryGood x.table x.blocks sites x.first m → SameHeap g.memory m
      → Edit x.table x.blocks x.small sites y.linked above (of_value 0) g.memory m → AllSame g.call.vars vars
      → IsGood x (starts (between vars m words) line rest)
  good_between vars m words memory still edit same =
      good_changed x g line rest y (line ∷ rest) above (of_value 0) g.call.temps vars m words g.awaits g.world memory still (refl, refl) edit
      (worlds_same x.table x.blocks x.small sites y.linked above (of_value 0) g.world) kept (λ e. absurd (omega (arith, e)))
      (λ c from i e. absurd (too_high c i e)) y.frames y.levels y.stands
    where
      kept : Kept x.table x.blocks x.small (all_sites x g line rest y) y.linked (record g.call.site { level = suc g.call.site.level }) (of_value 0)
          g.call.site g.call.temps g.call.temps g.call.vars vars
      kept = record {
        values = λ t i a. refl;
        places = λ t a. refl;
        texts = λ t n k i e a. refl;
        still = λ t v l h. (v, h);
        variables = λ f u there a home. same.others u (high_variable x g line rest y f u there home);
        left = same.left;
      }

      too_high : (c : Call) → AmongCalls c (map called_by g.waiting) → c.site.level ≡ suc g.call.site.level → ⊥
      too_high c i e =
          let z = site_at x.table x.blocks (map site_of (map called_by g.waiting)) c.site y.linked.5 (sites_among (map called_by g.waiting) c i) in
          let l = z.level in let m = y.linked.2 in omega (arith, l, m, e)
        where
          sites_among : (cs : List Call) (c : Call) → AmongCalls c cs → AmongSites c.site (map site_of cs)
          sites_among [] c i = absurd i
          sites_among (d ∷ cs) c (inl e) = inl (ap site_of e)
          sites_among (d ∷ cs) c (inr i) = inr (sites_among cs c i)

  -- ---- one argument

  -- what code does that gives it, before other code
  pub record Argued (lines k : List WordInstr) (slot : Slot) (h : Housed) (most : ℕ) : Type 0 where
    pub vars : Vars
    pub memory : Memory
    pub words : Vars
    pub same : AllSame g.call.vars vars
    pub good : IsGood x (starts (between vars memory words) line rest)
    pub gives : Gives x.table sites g.ground g.world (next_at x g line rest y) g.memory memory g.words words h
    pub gave : GaveSlot x.table x.blocks memory sites g.ground g.world words (next_at x g line rest y) slot h
    pub steps : ℕ
    pub few : steps ≤ most
    pub runs : Runs x.live (all_procs x) steps (at (within x.table x.blocks g) g.memory lines g.call.vars g.words)
        (at (within x.table x.blocks g) memory k vars words)

  module _ {proc : ℕ} {s : Signature} (c : Callee x.table x.blocks proc s) (h : Housed) (among : Among h (params_in c.body.own.all)) (label : ℕ)
      (k : List WordInstr) where
    housed : IsHoused x.table x.blocks c.body h
    housed = c.is.housed h (c.among h among) (c.homes h among)

    -- ---- a value

    module _ (t : ℕ) (v : Value) (plain_param : has_hooks x.table h ≡ false) (e : g.call.temps.values t ≡ Some v)
        (plain : holds_address h ≡ false)
        (typed : type_in x is_value (body_of g) t ≡ Some (type_of x.table h)) where
      abbrev value_house : Housed
      value_house = house g.call.site (of_value t)

      abbrev ArguedValue : Type 0
      ArguedValue = Argued (argument_code here label h.home value_house k) k (Holds v) h (16 * bytes v)

      numbers : of_numbers (looks x.table h) ≡ true
      numbers = housed.numbers plain_param

      read : ValueRead x g line rest y t v × (has_shape v (looks x.table h) ≡ true)
      read = value_read x g line rest y t v (type_of x.table h) typed numbers e

      size : bytes v ≡ h.bytes
      size = bytes_is v (looks x.table h) numbers read.1 ∙ housed.bytes

      some : 4 ≤ bytes v
      some = bytes_some v (values_of_numbers v (looks x.table h) numbers read.1)

      value_to_variable : (u : ℕ) → h.home ≡ Variable u → h.is_word ≡ true → ArguedValue
      value_to_variable u home is_word =
          let r = read in
          let single : is_single v ≡ true = single_is v (looks x.table h) numbers r.1 ∙ housed.word ∙ is_word in
          let one : is_one_word (looked x.table g.call.site (of_value t)) ≡ true
          = sym (single_is v (looked x.table g.call.site (of_value t)) r.0.here r.0.shaped)
          ∙ single in
          let z : InWord value_house = in_word x g.call.site t y.linked.0 r.0.there one in
          let item = item_read x g line rest y (of_value t) v r.0.there r.0.here e in
          let has : g.call.vars z.variable ≡ Some (single_word v) = subst (λ p. At g.memory g.call.site.base g.call.vars p v) z.spot item.at in
          let words : Vars = put g.words u (single_word v) in
          let code : argument_code here label h.home value_house k ≡ Argument u z.variable ∷ k
          = ap (λ p. argument_code here label p value_house k) home ∙ ap (λ p. word_argument u p k) z.home in
          let given : words u ≡ Some (single_word v) = put_same g.words u (single_word v) (single_small v r.0.read.small) in
          let b = some in
          record {
            vars = g.call.vars;
            memory = g.memory;
            words = words;
            same = all_same g.call.vars;
            good = good_between g.call.vars g.memory words y.memory (heap_same g.memory) (nowhere refl) (all_same g.call.vars);
            gives = to_variable u (single_word v) home refl refl;
            gave = record {
              plain = plain;
              shaped = r.1;
              size = housed.bytes;
              given = subst (λ p. GivenAt x.table x.blocks g.memory sites g.ground g.world words (next_at x g line rest y) (looks x.table h) p v) (sym home)
                  given;
            };
            steps = 1;
            few = omega (arith, b);
            runs = subst (λ l. Runs x.live (all_procs x) 1 (at (within x.table x.blocks g) g.memory l g.call.vars g.words)
                (at (within x.table x.blocks g) g.memory k g.call.vars words)) (sym code)
                (run_argument x.live (all_procs x) (within x.table x.blocks g) g.memory k g.call.vars g.words u z.variable has);
          }

      value_to_place : (n : ℕ) → h.home ≡ Placed n → n % 4 ≡ 0
          → from_label label (word_of x.table x.blocks (body_of g)).lines ≡ from_label label (argument_code here label h.home value_house k) → ArguedValue
      value_to_place n home whole found =
          let r = read in
          let spare = c.spare h n among home in
          let code : argument_code here label h.home value_house k ≡ argument_code here label (Placed n) value_house k
          = ap (λ p. argument_code here label p value_house k) home in
          let fits_in : n + bytes v ≤ SPARE_ROOM = omega (arith, spare, size) in
          let q = hands_value x g line rest y label n whole k value_house v r.0.read fits_in (found ∙ ap (from_label label) code) in
          let far = spare_beyond x g line rest y n (bytes v) whole fits_in in
          let there : g.call.site.base + (room (body_of g) + n) ≡ next_at x g line rest y + n = omega arith in
          let ch : Changed g.memory q.memory (next_at x g line rest y + n) (bytes v) = subst (λ a. Changed g.memory q.memory a (bytes v)) there q.changed in
          let b = some in
          record {
            vars = q.vars;
            memory = q.memory;
            words = g.words;
            same = q.same;
            good = good_between q.vars q.memory g.words
                (memory_beyond x g line rest y q.memory (next_at x g line rest y + n) (bytes v) ch far)
                (heap_beyond x g line rest y q.memory (next_at x g line rest y + n) (bytes v) ch far)
                (beyond (λ b w before read. ch.outside b (inl (omega (arith, before, far))) ∙ read)) q.same;
            gives = to_place n (bytes v) home size ch refl;
            gave = record {
              plain = plain;
              shaped = r.1;
              size = housed.bytes;
              given = subst (λ p. GivenAt x.table x.blocks q.memory sites g.ground g.world g.words (next_at x g line rest y) (looks x.table h) p v) (sym home)
                  (at_numbers (is_fixed g.ground) g.ground.blocks q.memory (next_at x g line rest y + n) (looks x.table h) v numbers r.1
                  (subst (λ a. IsAt q.memory a v) there q.there));
            };
            steps = q.steps;
            few = (let f = q.few in omega (arith, f, b));
            runs = subst (λ l. Runs x.live (all_procs x) q.steps (at (within x.table x.blocks g) g.memory l g.call.vars g.words)
                (at (within x.table x.blocks g) q.memory k q.vars g.words)) (sym code) q.runs;
          }

      numbers_argument : from_label label (word_of x.table x.blocks (body_of g)).lines ≡ from_label label (argument_code here label h.home value_house k)
          → ArguedValue
      numbers_argument found = by housed.where_is
        where
          by : Housing (room c.body) FIXED_BYTES (data_end x.table x.blocks) c.body.start h
              → Argued (argument_code (around x.table x.blocks (body_of g)) label h.home (house g.call.site (of_value t)) k) k (Holds v) h (16 * bytes v)
          by (in_variable u home p low w) = value_to_variable u home w
          by (by_address u home address low) = never (sym plain ∙ address)
          by (in_places n home p whole within) = value_to_place n home whole found
          by (in_data n home p whole low within start) = never (sym c.start ∙ start)

    -- ---- a value by its bits, whatever it has

    module _ (t : ℕ) (v : Value) (hooks : has_hooks x.table h ≡ true) (there_is : IsThere g.call.site (of_value t)) (e : g.call.temps.values t ≡ Some v)
        (plain : holds_address h ≡ false) (typed : type_in x is_value (body_of g) t ≡ Some (type_of x.table h)) where
      abbrev given_house : Housed
      given_house = house g.call.site (of_value t)

      abbrev ArguedBits : Type 0
      ArguedBits = Argued (argument_code here label h.home given_house k) k (Holds v) h (16 * bytes v)

      param_many : is_one_word (looks x.table h) ≡ false
      param_many = (c.is.built h (c.among h among) hooks).1

      param_look : looked x.table g.call.site (of_value t) ≡ looks x.table h
      param_look = ap (shape_of (facts_in x.table)) (has_type x g.call.site (of_value t) (type_of x.table h) y.linked.0 typed).typed

      lies : LiesAs x g line rest y given_house (looks x.table h) v
      lies = subst (λ s. LiesAs x g line rest y given_house s v) param_look (value_lies x g line rest y t v there_is (ap is_one_word param_look ∙ param_many) e)

      bits_to_parameter : (n : ℕ) → h.home ≡ Placed n → n % 4 ≡ 0
          → from_label label (word_of x.table x.blocks (body_of g)).lines ≡ from_label label (argument_code here label h.home given_house k) → ArguedBits
      bits_to_parameter n home whole found =
          let r = lies in
          let s : Shape = looks x.table h in
          let size : shape_bytes s ≡ h.bytes = housed.bytes in
          let spare = c.spare h n among home in
          let long : bytes v ≡ shape_bytes s = bytes_of x g line rest y r in
          let some : 4 ≤ shape_bytes s = shape_some s in
          let there = houses x.table x.blocks g.call.site (of_value t) y.linked.0 there_is in
          let own_size : given_house.bytes ≡ shape_bytes s = r.size in
          let plain_from = value_plain given_house there_is.kind in
          let inside = in_memory x g line rest y (of_value t) there_is plain_from (ap is_one_word param_look ∙ param_many) in
          let b : ℕ = address_of g.call.site.base given_house.home in
          let code : argument_code here label h.home given_house k
          ≡ Place FIRST (room (body_of g) + n) ∷ copied_here label (shape_bytes s) given_house.home k
          = ap (λ p. argument_code here label p given_house k) home
          ∙ ap₂ (λ i p. Place FIRST (room (body_of g) + n) ∷ handed label i p k) own_size (spot_memory given_house plain_from inside) in
          let fits_in : n + shape_bytes s ≤ SPARE_ROOM = omega (arith, spare, size) in
          let lying = lying_all x sites y.linked g.call.site (of_value t) (shape_bytes s) (inl refl) there_is inside own_size in
          let q = hands_bits x g line rest y label n whole k given_house.home (high_in_memory given_house.home inside) b
          (points_there g.call.site.base g.call.vars given_house.home inside) (shape_bytes s) (shape_whole s) some lying fits_in
          (found ∙ ap (from_label label) code ∙ hand_label label (shape_bytes s) given_house.home (room (body_of g) + n) k) in
          let far = spare_beyond x g line rest y n (shape_bytes s) whole fits_in in
          let to_is : g.call.site.base + (room (body_of g) + n) ≡ next_at x g line rest y + n = omega arith in
          let ch : Changed g.memory q.memory (next_at x g line rest y + n) (shape_bytes s)
          = subst (λ a. Changed g.memory q.memory a (shape_bytes s)) to_is q.changed in
          let stored_was : StoredIn (store_of g) b s v
          = subst (λ z. StoredIn (store_of g) b z v) param_look
          (let item = y.hold.0.items (of_value t) v there_is e in
          from_home (store_of g) g.call.site.base g.call.vars (looked x.table g.call.site (of_value t)) given_house v item.plain inside item.at) in
          let stored_then : StoredIn (store_with g q.memory) (next_at x g line rest y + n) s v
          = subst (λ a. StoredIn (store_with g q.memory) a s v) to_is
          (stored_small (is_fixed g.ground) g.ground.blocks g.ground.blocks (later_same g.ground.blocks) g.memory q.memory b
          (g.call.site.base + (room (body_of g) + n)) s v
          (low_carried g.memory q.memory b (g.call.site.base + (room (body_of g) + n)) (shape_bytes s) q.low_words) stored_was) in
          record {
            vars = q.vars;
            memory = q.memory;
            words = g.words;
            same = q.same;
            good = good_between q.vars q.memory g.words
                (memory_beyond x g line rest y q.memory (next_at x g line rest y + n) (shape_bytes s) ch far)
                (heap_beyond x g line rest y q.memory (next_at x g line rest y + n) (shape_bytes s) ch far)
                (beyond (λ b w before read. ch.outside b (inl (omega (arith, before, far))) ∙ read)) q.same;
            gives = to_place n (shape_bytes s) home size ch refl;
            gave = record {
              plain = plain;
              shaped = r.shaped;
              size = size;
              given = subst (λ p. GivenAt x.table x.blocks q.memory sites g.ground g.world g.words (next_at x g line rest y) (looks x.table h) p v) (sym home)
                  stored_then;
            };
            steps = q.steps;
            few = (let f = q.few in omega (arith, f, some, long));
            runs = subst (λ l. Runs x.live (all_procs x) q.steps (at (within x.table x.blocks g) g.memory l g.call.vars g.words)
                (at (within x.table x.blocks g) q.memory k q.vars g.words)) (sym code) q.runs;
          }

      bits_argument : from_label label (word_of x.table x.blocks (body_of g)).lines ≡ from_label label (argument_code here label h.home given_house k)
          → ArguedBits
      bits_argument found = by housed.where_is
        where
          by : Housing (room c.body) FIXED_BYTES (data_end x.table x.blocks) c.body.start h
              → Argued (argument_code (around x.table x.blocks (body_of g)) label h.home (house g.call.site (of_value t)) k) k (Holds v) h (16 * bytes v)
          by (in_variable u home p low w) = never (sym param_many ∙ (housed.word ∙ w))
          by (by_address u home address low) = never (sym plain ∙ address)
          by (in_places n home p whole within) = bits_to_parameter n home whole found
          by (in_data n home p whole low within start) = never (sym c.start ∙ start)

    -- of either sort; one that has hooks is of a temporary with a home
    pub value_argument : (t : ℕ) (v : Value) → (has_hooks x.table h ≡ true → IsThere g.call.site (of_value t)) → g.call.temps.values t ≡ Some v
        → holds_address h ≡ false → type_in x is_value (body_of g) t ≡ Some (type_of x.table h)
        → from_label label (word_of x.table x.blocks (body_of g)).lines ≡ from_label label (argument_code here label h.home (house g.call.site (of_value t)) k)
        → Argued (argument_code here label h.home (house g.call.site (of_value t)) k) k (Holds v) h (16 * bytes v)
    value_argument t v homed e plain typed found = by (cases_Bool (has_hooks x.table h))
      where
        by : (has_hooks x.table h ≡ true) ⊎ (has_hooks x.table h ≡ false)
            → Argued (argument_code (around x.table x.blocks (body_of g)) label h.home (house g.call.site (of_value t)) k) k (Holds v) h (16 * bytes v)
        by (inl hooks) = bits_argument t v hooks (homed hooks) e plain typed found
        by (inr unhooked) = numbers_argument t v unhooked e plain typed found

    -- ---- a location

    -- the address in FIRST or a variable is given
    record Told (u a : ℕ) (lines : List WordInstr) : Type 0 where
      vars : Vars
      same : AllSame g.call.vars vars
      steps : ℕ
      few : steps ≤ 2
      runs : Runs x.live (all_procs x) steps (at (within x.table x.blocks g) g.memory lines g.call.vars g.words)
          (at (within x.table x.blocks g) g.memory k vars (put g.words u a))

    told_behind : (u a : ℕ) (home : Home) → a < 2 ^ 32 → (l : WordInstr)
        → Runs x.live (all_procs x) 1 (at (within x.table x.blocks g) g.memory (l ∷ Argument u FIRST ∷ k) g.call.vars g.words)
        (at (within x.table x.blocks g) g.memory (Argument u FIRST ∷ k) (put g.call.vars FIRST a) g.words)
        → Told u a (l ∷ Argument u FIRST ∷ k)
    told_behind u a home small l r1 = record {
      vars = put g.call.vars FIRST a;
      same = same_first g.call.vars a;
      steps = 2;
      few = omega arith;
      runs = then_runs x.live (all_procs x) r1
          (run_argument x.live (all_procs x) (within x.table x.blocks g) g.memory k (put g.call.vars FIRST a) g.words u FIRST (got a small));
    }

    told : (u a : ℕ) (home : Home) → a < 2 ^ 32 → Points g.call.site.base g.call.vars home a → Told u a (word_argument u home k)
    told u a (Variable v) small points = record {
      vars = g.call.vars;
      same = all_same g.call.vars;
      steps = 1;
      few = omega arith;
      runs = run_argument x.live (all_procs x) (within x.table x.blocks g) g.memory k g.call.vars g.words u v points;
    }
    told u a (Placed n) small points = told_behind u a (Placed n) small _
        (address_runs x.law x.live (all_procs x) (within x.table x.blocks g) refl g.words g.memory (Argument u FIRST ∷ k) g.call.vars FIRST (Placed n) a points)
    told u a (Static n) small points = told_behind u a (Static n) small _
        (address_runs x.law x.live (all_procs x) (within x.table x.blocks g) refl g.words g.memory (Argument u FIRST ∷ k) g.call.vars FIRST (Static n) a points)

    -- to a parameter that stands for a location, of something that is owned
    module _ (t : ℕ) (there : Where) (address : holds_address h ≡ true) (typed : type_in x is_location (body_of g) t ≡ Some (type_of x.table h))
        (l : Location) (l_is : there ≡ Located l) (stood : IsStood l.base)
        (reached : Reached x g line rest y (location here t) there (looked x.table g.call.site (of_location t))) where
      abbrev ArguedLocation : Location → Type 0
      ArguedLocation l = Argued (argument_code here label h.home (location here t) k) k (Stands l) h 64

      names : Pointed x g line rest y t (type_of x.table h)
      names = pointed x g line rest y t (type_of x.table h) typed

      location_to_variable : (u : ℕ) → h.home ≡ Variable u → ArguedLocation l
      location_to_variable u home =
          let p = names in
          let q = reached in
          let leads : ReachesHere x.table x.blocks sites g.ground g.world l q.address (looks x.table h)
          = subst (ReachesHere x.table x.blocks sites g.ground g.world l q.address) p.look
          (subst (λ z. Reaches x.table x.blocks sites g.ground g.world g.call.site g.call.temps z q.address (looked x.table g.call.site (of_location t))) l_is
          q.reaches) in
          let near = here_near x sites y.linked g.ground g.world l q.address (looks x.table h) leads in
          let small : q.address < 2 ^ 32 = omega (arith, near) in
          let words : Vars = put g.words u q.address in
          let r = told u q.address q.home small q.points in
          let code : argument_code here label h.home (location here t) k ≡ word_argument u q.home k
          = ap (λ p. argument_code here label p (location here t) k) home ∙ ap (λ p. word_argument u p k) q.home_is in
          record {
            vars = r.vars;
            memory = g.memory;
            words = words;
            same = r.same;
            good = good_between r.vars g.memory words y.memory (heap_same g.memory) (nowhere refl) r.same;
            gives = to_variable u q.address home refl refl;
            gave = record {
              by_address = address;
              variable = u;
              home = home;
              address = q.address;
              given = put_same g.words u q.address small;
              stood = stood;
              leads = leads;
            };
            steps = r.steps;
            few = (let f = r.few in omega (arith, f));
            runs = subst (λ l. Runs x.live (all_procs x) r.steps (at (within x.table x.blocks g) g.memory l g.call.vars g.words)
                (at (within x.table x.blocks g) g.memory k r.vars words)) (sym code) r.runs;
          }

      pub located_argument : ArguedLocation (location_at g.call.temps there)
      located_argument = subst (λ l. Argued (argument_code here label h.home (location here t) k) k (Stands l) h 64)
          (sym (ap (location_at g.call.temps) l_is)) (by housed.where_is)
        where
          by : Housing (room c.body) FIXED_BYTES (data_end x.table x.blocks) c.body.start h
              → Argued (argument_code (around x.table x.blocks (body_of g)) label h.home (location (around x.table x.blocks (body_of g)) t) k) k
              (Stands l) h 64
          by (in_variable u home plain low w) = never (sym plain ∙ address)
          by (by_address u home p low) = location_to_variable u home
          by (in_places n home plain whole within) = never (sym plain ∙ address)
          by (in_data n home plain whole low within start) = never (sym plain ∙ address)

    -- what may be written
    module _ (t : ℕ) (there : Where) (homed : IsHomed x g.call.site t) (e : g.call.temps.places t ≡ Some there)
        (address : holds_address h ≡ true) (typed : type_in x is_location (body_of g) t ≡ Some (type_of x.table h))
        (may : if_kind is_standing (place_named is_location (body_of g).proc.places t) ≡ true)
        (handed : is_among t (places_in (handed_by (block_plain line))) ≡ true) where
      pub location_argument : Argued (argument_code here label h.home (location here t) k) k (Stands (location_at g.call.temps there)) h 64
      location_argument =
          let named = (pointed x g line rest y t (type_of x.table h) typed).named in
          let standing = y.linked.0.standing t may in
          let w = written_at x g line rest y t there named standing e in
          located_argument t there address typed w.location_is w.is (written_stands x g line rest y w.written)
          (handed_homed x g line rest y t there named homed e standing handed)

    -- what is lent
    module _ (t : ℕ) (there : Where) (homed : IsHomed x g.call.site t) (e : g.call.temps.places t ≡ Some there)
        (address : holds_address h ≡ true) (typed : type_in x is_location (body_of g) t ≡ Some (type_of x.table h))
        (blocks_in : of_numbers (looks x.table h) ≡ false) (l : Location) (l_is : there ≡ Located l) where
      pub lent_argument : Argued (argument_code here label h.home (location here t) k) k (Stands (location_at g.call.temps there)) h 64
      lent_argument =
          let p = pointed x g line rest y t (type_of x.table h) typed in
          let q = at_homed x g line rest y t there p.named homed e (ap is_one_word p.look ∙ no_word (looks x.table h) blocks_in) in
          let leads : LeadsHere x.table x.blocks sites g.ground g.world l q.address (looked x.table g.call.site (of_location t))
          = subst (λ z. Leads x.table x.blocks sites g.ground g.world g.call.site g.call.temps z q.address (looked x.table g.call.site (of_location t))) l_is
          q.leads_to in
          located_argument t there address typed l l_is
          (is_stood x.table x.blocks sites g.ground g.world l q.address (looked x.table g.call.site (of_location t)) leads)
          (as_reached x g line rest y (location here t) there (looked x.table g.call.site (of_location t)) q)
