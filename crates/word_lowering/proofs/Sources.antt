-- Where values are that lines move: in a variable, or in memory within the place of a call.
use Rattle.std.proofs.Common.{length, ◌≡◌, ◌≢◌, ◌⊎◌, inl, inr, ℕ, zero, suc, ◌+◌, ◌*◌, ◌%◌, ◌^◌, ◌<◌, ◌≤◌, List, Some}
use Rattle.std.proofs.Common.{ℤ, Bool, true, false, refl, sym, ap₂, subst, ◌∙◌, arith}
use Rattle.nim_meaning.specs.Values.{Value, Number, Parts, Handle, Fixed, Ref, Resource, Gone, Vacant, bytes}
use Rattle.word_code.specs.Memory.{Memory}
use Rattle.word_code.specs.Words.{Vars}
use Rattle.word_code.specs.declared.word.WordInstr.{WordInstr}
use Rattle.flat_code.specs.Shapes.{has_shape}
use Rattle.heap_memory.specs.declared.numbers.TheConstants.{HEAP_DATA}
use Rattle.word_lowering.proofs.ShapeFacts.{never, bytes_is, of_numbers}
use Rattle.word_code.specs.RoutineTable.{Cell, Area, Separate}
use Rattle.word_code.proofs.ForCallers.{Within}
use Rattle.word_lowering.specs.declared.homes.TheConstants.{OWN_FROM}
use Rattle.word_lowering.specs.declared.homes.Home.{Home}
use Rattle.word_lowering.specs.declared.homes.Home.TheVariants.{Variable, Placed, Static}
use Rattle.word_lowering.specs.declared.homes.Housed.{Housed}
use Rattle.word_lowering.specs.declared.spots.Spot.{Spot}
use Rattle.word_lowering.specs.declared.spots.Spot.TheVariants.{Held, Lies, Letter}
use Rattle.word_lowering.specs.declared.texts.TheConstants.{FIXED_BYTES}
use Rattle.rv32_isa.specs.Image.{heap_at}
use Rattle.word_code.specs.RoutineTable.{Beside as Beside_of}
use Rattle.word_lowering.specs.Lowered.{data_at}
use Rattle.word_lowering.specs.Layouts.{holds_address}
use Rattle.word_lowering.specs.Spots.{spot_of, moved, moves}
use Rattle.word_lowering.proofs.InMemory.{IsAt, IsByteAt, HasWords}
use Rattle.word_lowering.proofs.Moves.{is_single, single_word, IsHigh, MaySpot, IsArea, From, ToVariable, ToMemory, number_to_variable, number_to_memory}
use Rattle.word_lowering.proofs.Moves.{high_behind, parts_to_memory}
use Rattle.word_lowering.proofs.LineFits.{single_is, single_number, has_words}
use Rattle.word_lowering.proofs.Sites.{room, Housing, in_variable, by_address, in_places, in_data, InMemory, Site, AmongSites, data_end, IsHoused, Linked}
use Rattle.word_lowering.proofs.Scenes.{address_of, Points, At, Name, Call, house, IsThere, looked, IsNumbers}
use Rattle.word_lowering.proofs.SitesApart.{Beside, InRange, in_range, houses, SiteAt, site_at, one_level, ranges_apart}
use Rattle.word_lowering.proofs.Keeping.{name_cases, number_cases, spot_memory, spot_held, points_there, from_memory}
use Rattle.word_lowering.proofs.Related.{IsOpen, IsClosed, IsText, routines, MemoryGood}
use Rattle.word_lowering.proofs.Lines.{Basis, all_procs, reaches, data_there}

-- so many words, each of which may be read and written
pub area_by : (m : Memory) (n a : ℕ) → a % 4 ≡ 0 → ((b : ℕ) → a ≤ b → b + 4 ≤ a + 4 * n → b % 4 ≡ 0 → Cell m b) → Area m a n
area_by m zero a whole cells = tt
area_by m (suc n) a whole cells = (
  cells a (omega arith) (omega arith) whole,
  area_by m n (a + 4) (omega (arith, whole)) (λ b low high is. cells b (omega (arith, low)) (omega (arith, high)) is),
)

module _ (x : Basis) (sites : List Site) (linked : Linked x.table x.blocks sites) where
  -- so many bytes from an address on lie within the place of a call
  pub record Lying (a n : ℕ) : Type 0 where
    pub site : Site
    pub name : Name
    pub among : AmongSites site sites
    pub there : IsThere site name
    pub home : InMemory (house site name).home
    pub low : address_of site.base (house site name).home ≤ a
    pub high : a + n ≤ address_of site.base (house site name).home + (house site name).bytes
    pub whole : a % 4 ≡ 0

  pub lying_range : (a n : ℕ) (l : Lying a n) → InRange x.table x.blocks l.site a n
  lying_range a n l = by (in_range x.table x.blocks l.site (house l.site l.name)
      (houses x.table x.blocks l.site l.name (site_at x.table x.blocks sites l.site linked l.among).body l.there) l.home)
    where
      by : InRange x.table x.blocks l.site (address_of l.site.base (house l.site l.name).home) (house l.site l.name).bytes
          → InRange x.table x.blocks l.site a n
      by (inl r) = inl (r.0, omega (arith, r.1, l.low), omega (arith, r.2, l.high))
      by (inr r) = inr (omega (arith, r.0, l.low), omega (arith, r.1, l.high))

  pub lying_open : (a n : ℕ) → Lying a n → (b : ℕ) → a ≤ b → b + 4 ≤ a + n → IsOpen x.table x.blocks sites b
  lying_open a n l b low high = by (lying_range a n l)
    where
      s : SiteAt x.table x.blocks sites l.site
      s = site_at x.table x.blocks sites l.site linked l.among

      by : InRange x.table x.blocks l.site a n → IsOpen x.table x.blocks sites b
      by (inl r) = inl (omega (arith, r.1, low), omega (arith, r.2, high))
      by (inr r) = inr (omega (arith, s.least, r.0, low), omega (arith, s.most, r.1, high))

  pub lying_area : (m : Memory) (a n : ℕ) → MemoryGood x.table x.blocks sites x.first m → Lying a n → IsArea m a n
  lying_area m a n good l k le = area_by m k a l.whole (λ b low high is. good.cells b is (lying_open a n l b low (omega (arith, high, le))))

  pub lying_near : (a n : ℕ) → Lying a n → a + n < 2 ^ 32
  lying_near a n l = by (lying_range a n l)
    where
      s : SiteAt x.table x.blocks sites l.site
      s = site_at x.table x.blocks sites l.site linked l.among

      by : InRange x.table x.blocks l.site a n → a + n < 2 ^ 32
      by (inl r) = let d = x.small in omega (arith, r.2, d)
      by (inr r) = let e = x.within sites linked in omega (arith, r.1, s.most, e)

  -- texts don't lie within a place
  pub text_beside : (a n b k : ℕ) → Lying a n → IsText x.table x.blocks b k → (b + k ≤ a) ⊎ (a + n ≤ b)
  text_beside a n b k l text = by (lying_range a n l) text.0
    where
      s : SiteAt x.table x.blocks sites l.site
      s = site_at x.table x.blocks sites l.site linked l.among

      by : InRange x.table x.blocks l.site a n → IsClosed x.table x.blocks b k → (b + k ≤ a) ⊎ (a + n ≤ b)
      by (inl r) (inl t) = inl (omega (arith, r.1, t.1))
      by (inl r) (inr t) = inr (omega (arith, r.2, t.0))
      by (inr r) (inl t) = let h = s.least in inl (omega (arith, r.0, h, t.1))
      by (inr r) (inr t) = let h = s.least in inl (omega (arith, r.0, h, t.1))

  -- and it is beside the heap, and behind the data in front of the program's
  pub lying_away : (m : Memory) (a n : ℕ) → MemoryGood x.table x.blocks sites x.first m → Lying a n
      → (data_at ≤ a) × Beside_of heap_at (length m.heap) a n
  lying_away m a n good l = by (lying_range a n l)
    where
      s : SiteAt x.table x.blocks sites l.site
      s = site_at x.table x.blocks sites l.site linked l.among

      by : InRange x.table x.blocks l.site a n → (data_at ≤ a) × Beside_of heap_at (length m.heap) a n
      by (inl r) = let d = x.small in (omega (arith, r.1), inr (omega (arith, r.2, d)))
      by (inr r) =
          let h = s.least in
          let most = good.sized.heap_most in
          (omega (arith, r.0, h), inl (omega (arith, r.0, h, most)))

  -- two ranges of one size, one of which is all of a place, are the same or apart
  pub whole_separate : (a b n : ℕ) (t : Lying a n) (s : Lying b n) → (house t.site t.name).bytes ≡ n → Separate a b n
  whole_separate a b n t s size = by (number_cases t.site.level s.site.level) (name_cases t.name s.name)
    where
      apart : (t.site.level ≢ s.site.level) ⊎ (t.name ≢ s.name) → Separate a b n
      apart d = inr (narrow (ranges_apart x.table x.blocks x.small sites t.site s.site t.name s.name linked t.among s.among t.there s.there t.home s.home d))
        where
          narrow : Beside (address_of t.site.base (house t.site t.name).home) (house t.site t.name).bytes
              (address_of s.site.base (house s.site s.name).home) (house s.site s.name).bytes → (a + n ≤ b) ⊎ (b + n ≤ a)
          narrow (inl h) = inl (omega (arith, h, t.low, t.high, s.low, s.high, size))
          narrow (inr h) = inr (omega (arith, h, t.low, t.high, s.low, s.high, size))

      same : t.site ≡ s.site → t.name ≡ s.name → Separate a b n
      same e f =
          let address : address_of s.site.base (house s.site s.name).home ≡ address_of t.site.base (house t.site t.name).home
          = sym (ap₂ (λ u w. address_of u.base (house u w).home) e f) in
          let size' : (house s.site s.name).bytes ≡ n = sym (ap₂ (λ u w. (house u w).bytes) e f) ∙ size in
          inl (omega (arith, t.low, t.high, s.low, s.high, size, size', address))

      by : (t.site.level ≡ s.site.level) ⊎ (t.site.level ≢ s.site.level) → (t.name ≡ s.name) ⊎ (t.name ≢ s.name) → Separate a b n
      by (inr ne) f = apart (inl ne)
      by (inl e) (inr ne) = apart (inr ne)
      by (inl e) (inl f) = same (one_level x.table x.blocks sites t.site s.site linked t.among s.among e) f

  pub separate_turned : (a b n : ℕ) → Separate a b n → Separate b a n
  separate_turned a b n (inl e) = inl (sym e)
  separate_turned a b n (inr (inl h)) = inr (inr h)
  separate_turned a b n (inr (inr h)) = inr (inl h)

  abbrev pub IsAll : (a n : ℕ) → Lying a n → Type 0
  IsAll a n l = (house l.site l.name).bytes ≡ n

  -- ---- what may be read: within a place, in a block, or in a constant of the data

  pub record Readable (m : Memory) (a n : ℕ) : Type 0 where
    pub area : IsArea m a n
    pub near : a + n < 2 ^ 32
    -- all of a place is the same or apart
    pub separate : (b : ℕ) (t : Lying b n) → IsAll b n t → Separate b a n

  pub lying_readable : (m : Memory) (a n : ℕ) → MemoryGood x.table x.blocks sites x.first m → Lying a n → Readable m a n
  lying_readable m a n good l = record {
    area = lying_area m a n good l;
    near = lying_near a n l;
    separate = λ b t all. whole_separate b a n t l all;
  }

  pub text_readable : (m : Memory) (a n : ℕ) → MemoryGood x.table x.blocks sites x.first m → IsText x.table x.blocks a n → a % 4 ≡ 0
      → ((b : ℕ) → a ≤ b → b + 4 ≤ a + n → b % 4 ≡ 0 → Cell m b) → Readable m a n
  text_readable m a n good text whole cells = record {
    area = λ k le. area_by m k a whole (λ b low high is. cells b low (omega (arith, high, le)) is);
    near = near text.0;
    separate = λ b t all. inr (apart b (text_beside b n a n t text));
  }
    where
      near : IsClosed x.table x.blocks a n → a + n < 2 ^ 32
      near (inl t) = omega (arith, t.1)
      near (inr t) = omega (arith, t.1)

      apart : (b : ℕ) → (a + n ≤ b) ⊎ (b + n ≤ a) → (b + n ≤ a) ⊎ (a + n ≤ b)
      apart b (inl h) = inr h
      apart b (inr h) = inl h

  -- all of a place
  abbrev pub WholePlace : (a n : ℕ) → Type 0
  WholePlace a n = (l : Lying a n) × IsAll a n l

  -- ---- sources and targets, in the running call, whose places begin at an address

  module _ (m : Memory) (base : ℕ) (vars : Vars) where
    -- all of a place, or a part of one or of a constant
    pub data Source (all : Bool) (h : Housed) (v : Value) : Type 0 where
      held_in : (u : ℕ) → spot_of h ≡ Held u → MaySpot (Held u) v → vars u ≡ Some (single_word v) → Source all h v
      lies_at : (home : Home) → spot_of h ≡ Lies home → IsHigh home → (a : ℕ) → Points base vars home a → IsAt m a v → Readable m a (bytes v)
          → (all ≡ true → WholePlace a (bytes v)) → Source all h v
      -- a character at an address, which is no whole place
      letter_at : (home : Home) → spot_of h ≡ Letter home → IsHigh home → (a : ℕ) → Points base vars home a → IsByteAt m a v → a < 2 ^ 32
          → is_single v ≡ true → all ≡ false → Source all h v

    -- a spot that may be one of this value
    pub source_may : {all : Bool} {h : Housed} {v : Value} → Source all h v → MaySpot (spot_of h) v
    source_may {all} {h} {v} (held_in u e may is) = subst (λ p. MaySpot p v) (sym e) may
    source_may {all} {h} {v} (lies_at home e high a points at readable is_all) = subst (λ p. MaySpot p v) (sym e) high
    source_may {all} {h} {v} (letter_at home e high a points at near single no_all) = subst (λ p. MaySpot p v) (sym e) high

  -- ---- of places

  high_memory : (home : Home) → InMemory home → IsHigh home
  high_memory (Variable v) i = absurd i
  high_memory (Placed at) i = tt
  high_memory (Static at) i = tt

  may_held : (u : ℕ) (v : Value) → is_single v ≡ true → OWN_FROM ≤ u → MaySpot (Held u) v
  may_held u v h high = let n = single_number v h in subst (MaySpot (Held u)) (sym n.1) high

  pub address_whole : (s : Site) (f : Name) → AmongSites s sites → IsThere s f → InMemory (house s f).home
      → address_of s.base (house s f).home % 4 ≡ 0
  address_whole s f i there inside = by (houses x.table x.blocks s f a.body there).where_is
    where
      a : SiteAt x.table x.blocks sites s
      a = site_at x.table x.blocks sites s linked i

      by : Housing (room s.body) FIXED_BYTES (data_end x.table x.blocks) s.body.start (house s f) → address_of s.base (house s f).home % 4 ≡ 0
      by (in_variable v e plain low is_word) = absurd (subst InMemory e inside)
      by (by_address v e address low) = absurd (subst InMemory e inside)
      by (in_places n e plain whole within) = subst (λ h. address_of s.base h % 4 ≡ 0) (sym e) (let w = a.whole in omega (arith, whole, w))
      by (in_data n e plain whole low within start) = subst (λ h. address_of s.base h % 4 ≡ 0) (sym e) (omega (arith, whole))

  -- all of a place
  abbrev pub lying_all : (s : Site) (f : Name) (n : ℕ) → AmongSites s sites → IsThere s f → InMemory (house s f).home
      → (house s f).bytes ≡ n
      → Lying (address_of s.base (house s f).home) n
  lying_all s f n i there inside size = record {
    site = s;
    name = f;
    among = i;
    there = there;
    home = inside;
    low = omega arith;
    high = omega (arith, size);
    whole = address_whole s f i there inside;
  }

  module _ (c : Call) (i : AmongSites c.site sites) (f : Name) (there : IsThere c.site f) (plain : holds_address (house c.site f) ≡ false)
      (v : Value) (numbers : of_numbers (looked x.table c.site f) ≡ true) (shaped : has_shape v (looked x.table c.site f) ≡ true) where
    place : IsHoused x.table x.blocks c.site.body (house c.site f)
    place = houses x.table x.blocks c.site f (site_at x.table x.blocks sites c.site linked i).body there

    pub size_is : (house c.site f).bytes ≡ bytes v
    size_is = sym (bytes_is v (looked x.table c.site f) numbers shaped ∙ place.bytes)

    pub word_is : (house c.site f).is_word ≡ is_single v
    word_is = sym (single_is v (looked x.table c.site f) numbers shaped ∙ place.word)

    pub small_word : HasWords v
    small_word = has_words v (looked x.table c.site f) shaped

    pub place_source : (m : Memory) → MemoryGood x.table x.blocks sites x.first m → At m c.site.base c.vars (spot_of (house c.site f)) v
        → Source m c.site.base c.vars true (house c.site f) v
    place_source m good at = by place.where_is
      where
        all_of : InMemory (house c.site f).home → Lying (address_of c.site.base (house c.site f).home) (bytes v)
        all_of h = lying_all c.site f (bytes v) i there h size_is

        inside : InMemory (house c.site f).home → Source m c.site.base c.vars true (house c.site f) v
        inside h = lies_at (house c.site f).home (spot_memory (house c.site f) plain h) (high_memory (house c.site f).home h)
            (address_of c.site.base (house c.site f).home)
            (points_there c.site.base c.vars (house c.site f).home h) (from_memory m c.site.base c.vars (house c.site f) v plain h at)
            (lying_readable m (address_of c.site.base (house c.site f).home) (bytes v) good (all_of h)) (λ e. (all_of h, size_is))

        by : Housing (room c.site.body) FIXED_BYTES (data_end x.table x.blocks) c.site.body.start (house c.site f) → Source m c.site.base c.vars true
            (house c.site f) v
        by (in_variable u e p low is_word) =
            let spot : spot_of (house c.site f) ≡ Held u = spot_held (house c.site f) u p e in
            held_in u spot (may_held u v (sym word_is ∙ is_word) low) (subst (λ q. At m c.site.base c.vars q v) spot at)
        by (by_address u e address low) = never (sym plain ∙ address)
        by (in_places n e p whole within) = inside (subst InMemory (sym e) tt)
        by (in_data n e p whole low within start) = inside (subst InMemory (sym e) tt)

  pub item_source : (m : Memory) → MemoryGood x.table x.blocks sites x.first m → (c : Call) (f : Name) (v : Value) → AmongSites c.site sites
      → IsNumbers x.table m c f v → Source m c.site.base c.vars true (house c.site f) v
  item_source m good c f v i item = place_source c i f item.there item.plain v item.numbers item.shaped m good item.at

  -- ---- moves

  module _ (c : Within) (from_first : c.proc.data_from ≡ HEAP_DATA) (g : Vars) (m : Memory) (good : MemoryGood x.table x.blocks sites x.first m)
      (k : List WordInstr)
      (vars : Vars) where
    abbrev IntoMemory : List WordInstr → ℕ → Value → ℕ → Type 0
    IntoMemory lines a v most = ToMemory x.law x.live (all_procs x) c from_first g m lines vars a v most k

    pub more_steps : (lines : List WordInstr) (a most most' : ℕ) (v : Value) → most ≤ most' → IntoMemory lines a v most → IntoMemory lines a v most'
    more_steps lines a most most' v le r = record {
      memory = r.memory;
      vars = r.vars;
      words = r.words;
      awaits = r.awaits;
      same = r.same;
      changed = r.changed;
      there = r.there;
      steps = r.steps;
      some = r.some;
      few = omega (arith, r.few, le);
      runs = r.runs;
    }

    module _ (home : Home) (a : ℕ) (points : Points c.base vars home a) where
      held_to_memory : (v : Value) → HasWords v → Readable m a (bytes v) → (u : ℕ) → MaySpot (Held u) v → vars u ≡ Some (single_word v)
          → IntoMemory (moved (is_single v) (bytes v) (Lies home) (Held u) k) a v (10 + 2 * bytes v)
      held_to_memory (Parts vs) small range u may is = absurd may
      held_to_memory (Handle n k) small range u may is = absurd may
      held_to_memory (Fixed t) small range u may is = absurd may
      held_to_memory (Ref r) small range u may is = absurd may
      held_to_memory (Resource vs i) small range u may is = absurd may
      held_to_memory (Gone v f) small range u may is = absurd may
      held_to_memory Vacant small range u may is = absurd may
      held_to_memory (Number z) small range u may is =
          let area = range.area 1 (omega arith) in
          let near = range.near in
          more_steps (moved true 4 (Lies home) (Held u) k) a 4 18 (Number z) (omega arith)
          (number_to_memory x.law x.live (all_procs x) c from_first g m good.sized k vars home a points z small area.0 (omega (arith, near)) 4
          (Held u) may is)

      letter_to_memory : (v : Value) → HasWords v → Readable m a (bytes v) → (other : Home) → IsHigh other → (b : ℕ)
          → Points c.base vars other b → IsByteAt m b v → b < 2 ^ 32 → is_single v ≡ true
          → IntoMemory (moved (is_single v) (bytes v) (Lies home) (Letter other) k) a v (10 + 2 * bytes v)
      letter_to_memory (Number z) small range other high b points' at near_b single =
          let area = range.area 1 (omega arith) in
          let near = range.near in
          more_steps (moved true 4 (Lies home) (Letter other) k) a 4 18 (Number z) (omega arith)
          (number_to_memory x.law x.live (all_procs x) c from_first g m good.sized k vars home a points z small area.0 (omega (arith, near)) 4
          (Letter other) high (b, points', at, near_b))
      letter_to_memory v small range other high b points' at near_b single = never single

      lies_to_memory : (v : Value) → HasWords v → Readable m a (bytes v) → (other : Home) → IsHigh other → (b : ℕ)
          → Points c.base vars other b → IsAt m b v
          → Readable m b (bytes v) → Separate a b (bytes v) → IntoMemory (moved (is_single v) (bytes v) (Lies home) (Lies other) k) a v
          (10 + 2 * bytes v)
      lies_to_memory (Number z) small range other high b points' at readable apart =
          let area = range.area 1 (omega arith) in
          let near = range.near in
          more_steps (moved true 4 (Lies home) (Lies other) k) a 4 18 (Number z) (omega arith)
          (number_to_memory x.law x.live (all_procs x) c from_first g m good.sized k vars home a points z small area.0 (omega (arith, near)) 4
          (Lies other) high
          (b, points', at, readable.near, readable.area))
      lies_to_memory (Parts vs) small range other high b points' at readable apart =
          parts_to_memory x.law x.live (all_procs x) c from_first g m good.sized k vars home a points (routines x.table x.blocks) x.runtimes.others.statics
          (reaches x)
          (data_there x sites m good) vs small
          range.area range.near other (high_behind other high)
          (b, points', at, readable.near, readable.area) apart
      lies_to_memory (Handle n k) small range other high b points' at readable apart = absurd at
      lies_to_memory (Fixed t) small range other high b points' at readable apart = absurd at
      lies_to_memory (Ref r) small range other high b points' at readable apart = absurd at
      lies_to_memory (Resource vs i) small range other high b points' at readable apart = absurd at
      lies_to_memory (Gone v f) small range other high b points' at readable apart = absurd at
      lies_to_memory Vacant small range other high b points' at readable apart = absurd at

    module _ (to from : Housed) (v : Value) (word_from : from.is_word ≡ is_single v) (size_from : from.bytes ≡ bytes v)
        (small : HasWords v) where
      -- the code, by where both are
      code_is : (p q : Spot) → spot_of to ≡ p → spot_of from ≡ q → moves to from k ≡ moved (is_single v) (bytes v) p q k
      code_is p q e f = ap₂ (λ a b. moved a b (spot_of to) (spot_of from) k) word_from size_from ∙ ap₂ (λ a b. moved (is_single v) (bytes v) a b k) e f

      pub source_from : {all : Bool} → Source m c.base vars all from v → (q : Spot) → spot_of from ≡ q → From m c.base vars q v
      source_from (held_in u e may is) q f = subst (λ p. From m c.base vars p v) (sym e ∙ f) is
      source_from (lies_at home e high a points at readable is_all) q f =
          subst (λ p. From m c.base vars p v) (sym e ∙ f) (a, points, at, readable.near, readable.area)
      source_from (letter_at home e high a points at near single no_all) q f = subst (λ p. From m c.base vars p v) (sym e ∙ f) (a, points, at, near)

      pub to_word_by : (t : ℕ) → spot_of to ≡ Held t → OWN_FROM ≤ t → (z : ℤ) → v ≡ Number z → (all : Bool)
          → Source m c.base vars all from v
          → ToVariable x.law x.live (all_procs x) c from_first g m (moves to from k) vars t v k
      to_word_by t e high z is all source =
          let w = number_to_variable x.law x.live (all_procs x) c from_first g m k vars t high z (subst (λ y. HasWords y) is small)
          (is_single v) (bytes v) (spot_of from)
          (subst (From m c.base vars (spot_of from)) is (source_from source (spot_of from) refl)) in
          subst (λ l. ToVariable x.law x.live (all_procs x) c from_first g m l vars t v k) (sym (code_is (Held t) (spot_of from) e refl))
          (subst (λ y. ToVariable x.law x.live (all_procs x) c from_first g m (moved (is_single v) (bytes v) (Held t) (spot_of from) k) vars t y k)
          (sym is) w)

      -- to a range that is the source or apart from it
      pub to_range_by : (home : Home) → spot_of to ≡ Lies home → (a : ℕ) → Points c.base vars home a → Readable m a (bytes v) → (all : Bool)
          → Source m c.base vars all from v
          → ((b : ℕ) → Readable m b (bytes v) → (all ≡ true → WholePlace b (bytes v)) → Separate a b (bytes v))
          → IntoMemory (moves to from k) a v (10 + 2 * bytes v)
      to_range_by home e a points range all (held_in u f may is) apart =
          subst (λ l. IntoMemory l a v (10 + 2 * bytes v)) (sym (code_is (Lies home) (Held u) e f)) (held_to_memory home a points v small range u may is)
      to_range_by home e a points range all (lies_at other f high b points' at readable is_all) apart =
          subst (λ l. IntoMemory l a v (10 + 2 * bytes v)) (sym (code_is (Lies home) (Lies other) e f))
          (lies_to_memory home a points v small range other high b points' at readable (apart b readable is_all))
      to_range_by home e a points range all (letter_at other f high b points' at near single no_all) apart =
          subst (λ l. IntoMemory l a v (10 + 2 * bytes v)) (sym (code_is (Lies home) (Letter other) e f))
          (letter_to_memory home a points v small range other high b points' at near single)

      pub to_bytes_by : (home : Home) → spot_of to ≡ Lies home → (a : ℕ) → Points c.base vars home a → (lying : Lying a (bytes v)) → (all : Bool)
          → Source m c.base vars all from v → (IsAll a (bytes v) lying ⊎ (all ≡ true)) → IntoMemory (moves to from k) a v (10 + 2 * bytes v)
      to_bytes_by home e a points lying all source apart =
          to_range_by home e a points (lying_readable m a (bytes v) good lying) all source (λ b readable is_all. by b readable is_all apart)
        where
          by : (b : ℕ) → Readable m b (bytes v) → (all ≡ true → WholePlace b (bytes v)) → (IsAll a (bytes v) lying ⊎ (all ≡ true)) → Separate a b (bytes v)
          by b readable is_all (inl h) = readable.separate a lying h
          by b readable is_all (inr h) = let w = is_all h in separate_turned b a (bytes v) (whole_separate b a (bytes v) w.0 lying w.1)

      pub number_of_single : (w : Value) → is_single w ≡ true → (z : ℤ) × (w ≡ Number z)
      number_of_single w h = single_number w h
