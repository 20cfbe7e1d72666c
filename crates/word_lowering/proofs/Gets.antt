-- A place of the running call gets a value: what is true then.
use Rattle.std.proofs.Common.{◌≡◌, ◌≢◌, ◌⊎◌, inl, inr, ℕ, suc, ◌+◌, ◌*◌, ◌<◌, ◌≤◌, List, [], ◌∷◌, map, Bool, true, false, refl, sym, ap, subst, ◌∙◌}
use Rattle.word_lowering.specs.Layouts.{owns}
use Rattle.std.proofs.Common.{arith}
use Rattle.std.proofs.Common.{Option, Some}
use Rattle.nim_meaning.specs.Values.{Value, bytes, Slot, Holds, Standing}
use Rattle.nim_meaning.specs.State.{World, held, with_slot, slot_at, frame_at, with_slot_of}
use Rattle.flat_code.specs.declared.block.BlockLine.{BlockLine}
use Rattle.word_code.specs.declared.word.WordInstr.{WordInstr}
use Rattle.word_code.specs.Memory.{Memory}
use Rattle.word_code.specs.Words.{Vars}
use Rattle.flat_code.specs.Scene.{with_value, Passes, Temps}
use Rattle.flat_code.specs.Shapes.{has_shape}
use Rattle.word_lowering.proofs.HeapKept.{SameHeap, heap_same, heap_beside}
use Rattle.word_lowering.proofs.ShapeFacts.{never, of_numbers}
use Rattle.word_code.proofs.ForCallers.{Changed, Runs, at}
use Rattle.word_lowering.specs.declared.homes.TheConstants.{OWN_FROM, LEFT}
use Rattle.word_lowering.specs.declared.homes.Home.TheVariants.{Variable}
use Rattle.word_lowering.specs.declared.homes.Housed.{Housed}
use Rattle.word_lowering.specs.declared.texts.TheConstants.{FIXED_BYTES}
use Rattle.word_lowering.specs.Spots.{spot_of, moves}
use Rattle.word_lowering.proofs.RoutineCalls.{awaiting}
use Rattle.word_lowering.proofs.Moves.{is_single, ToVariable, ToMemory}
use Rattle.word_lowering.proofs.Frames.{IsFrame, frame_kept, slot_here, slot_elsewhere, length_set}
use Rattle.word_lowering.proofs.Sites.{room, Housing, in_variable, by_address, in_places, in_data, InMemory, Site, AmongSites, data_end, Linked, next_base}
use Rattle.word_lowering.proofs.Scenes.{IsLasting, address_of, Name, of_value, of_place, At, house, IsThere, looked, IsItem, IsFilled, Filled, IsNamed, Call}
use Rattle.word_lowering.proofs.Scenes.{site_of}
use Rattle.word_lowering.proofs.SitesApart.{IsPlace, houses, site_at, one_level, variables_apart, variable_high, home_variable}
use Rattle.word_lowering.proofs.Keeping.{number_cases, spot_held, spot_memory, points_there, to_memory, value_no_location, value_no_place, outside_still}
use Rattle.word_lowering.proofs.Keeping.{location_no_place, call, Edit, nowhere, somewhere, Worlds, worlds_same, Kept, New, same_numbers, away_cases}
use Rattle.word_lowering.proofs.Keeping.{own_text, AmongCalls, value_no_waiting, place_no_waiting}
use Rattle.word_lowering.proofs.Related.{Both, body_of, within, low, code_behind, code_past, StandAt, MemoryGood, AllFrames, called_by, store_with}
use Rattle.word_lowering.proofs.Lines.{Basis, all_procs, changed, starts, IsGood, Settles, goes_on, all_sites, good_changed, waits_below, stands_next}
use Rattle.word_lowering.proofs.ValueFacts.{different, value_plain, put_here, put_away, put_still}
use Rattle.word_lowering.proofs.Items.{item_of}
use Rattle.word_lowering.proofs.Sources.{Lying, text_beside, lying_away, lying_all, size_is, word_is, Source, number_of_single, to_word_by, to_bytes_by}
use Rattle.nim_meaning.specs.Deeds.{Answers}
use Rattle.nim_meaning.specs.Places.{root_of, through_slot}
use Rattle.word_lowering.specs.Lookups.{holds_address}
use Rattle.word_lowering.specs.Stored.{is_word}
use Rattle.word_lowering.proofs.OrdinalRuns.{AllSame}
use Rattle.rv32_isa.specs.Image.{stack_at}
use Rattle.word_lowering.proofs.InMemory.{HasWords}
use Rattle.word_lowering.proofs.Temporaries.{waits_alike, once_alike, slot_alike}
use Rattle.word_lowering.proofs.Scenes.{HasVariable}

module _ (x : Basis) (sites : List Site) (linked : Linked x.table x.blocks sites) where
  pub memory_kept : (m m' : Memory) (a n : ℕ) → MemoryGood x.table x.blocks sites x.first m → Changed m m' a n → Lying x sites linked a n
      → MemoryGood x.table x.blocks sites x.first m'
  memory_kept m m' a n good ch l = record {
    sized = ch.sized;
    statics = ch.sizes.statics ∙ good.statics;
    heap = ch.sizes.heap ∙ good.heap;
    bytes = ch.sizes.bytes good.bytes;
    places = ap (λ n. stack_at + n) ch.sizes.stack ∙ good.places;
    cells = λ b whole open_word. ch.cells b (good.cells b whole open_word);
    texts = λ b k text. ch.beside b k (text_beside x sites linked a n b k l text) ∙ good.texts b k text;
  }

  pub heap_kept : (m m' : Memory) (a n : ℕ) → MemoryGood x.table x.blocks sites x.first m → Changed m m' a n → Lying x sites linked a n → SameHeap m m'
  heap_kept m m' a n good ch l = let away = lying_away x sites linked m a n good l in
      heap_beside m m' a n ch.sizes.statics ch.sizes.heap ch.beside away.0 away.1

  pub frame_of_site : (w : World) (some : List Site) (s : Site) → AllFrames x.table x.blocks w some → AmongSites s some
      → IsFrame w s.level s.body.proc.first s.body.proc.span
  frame_of_site w [] s all i = absurd i
  frame_of_site w (t ∷ some) s all (inl e) = subst (λ z. IsFrame w z.level z.body.proc.first z.body.proc.span) e all.0
  frame_of_site w (t ∷ some) s all (inr i) = frame_of_site w some s all.1 i

  pub frames_kept : (w : World) (some : List Site) (level n : ℕ) (slot : Option Slot) → AllFrames x.table x.blocks w some → AllFrames x.table x.blocks
      (with_slot w level n slot) some
  frames_kept w [] level n slot all = tt
  frames_kept w (t ∷ some) level n slot all =
      (frame_kept w level n slot t.level t.body.proc.first t.body.proc.span all.0, frames_kept w some level n slot all.1)

module _ (x : Basis) (g : Both) (line : BlockLine) (rest : List BlockLine) (y : IsGood x (starts g line rest)) where
  abbrev sites : List Site
  sites = all_sites x g line rest y

  abbrev site : Site
  site = g.call.site

  abbrev code_here : List WordInstr
  code_here = code_behind x.table x.blocks (body_of g) (line ∷ rest)

  abbrev code_next : List WordInstr
  code_next = code_past x.table x.blocks (body_of g) line rest

  -- what code does that gives a value to a place of the running call, before some other code
  pub record Gets (lines k : List WordInstr) (f : Name) (v : Value) (most : ℕ) : Type 0 where
    pub vars : Vars
    pub memory : Memory
    pub words : Vars
    pub awaits : ℕ
    pub good : MemoryGood x.table x.blocks sites x.first memory
    pub heap : SameHeap g.memory memory
    pub edit : Edit x.table x.blocks x.small sites y.linked site f g.memory memory
    pub variables : (h : Name) (u : ℕ) → IsThere site h → h ≢ f → HasVariable site h u → vars u ≡ g.call.vars u
    pub left : vars LEFT ≡ g.call.vars LEFT
    pub at_place : At memory site.base vars (spot_of (house site f)) v
    pub steps : ℕ
    pub some : 0 < steps
    pub few : steps ≤ most
    pub runs : Runs x.live (all_procs x) steps (at (within x.table x.blocks g) g.memory lines g.call.vars g.words)
        (at (awaiting (within x.table x.blocks g) awaits) memory k vars words)

  -- the same, where it isn't said what stands there then
  pub record Changes (lines k : List WordInstr) (f : Name) (most : ℕ) : Type 0 where
    pub vars : Vars
    pub memory : Memory
    pub words : Vars
    pub awaits : ℕ
    pub good : MemoryGood x.table x.blocks sites x.first memory
    pub heap : SameHeap g.memory memory
    pub edit : Edit x.table x.blocks x.small sites y.linked site f g.memory memory
    pub variables : (h : Name) (u : ℕ) → IsThere site h → h ≢ f → HasVariable site h u → vars u ≡ g.call.vars u
    pub left : vars LEFT ≡ g.call.vars LEFT
    pub steps : ℕ
    pub some : 0 < steps
    pub few : steps ≤ most
    pub runs : Runs x.live (all_procs x) steps (at (within x.table x.blocks g) g.memory lines g.call.vars g.words)
        (at (awaiting (within x.table x.blocks g) awaits) memory k vars words)

  abbrev pub changes_of : {lines k : List WordInstr} {f : Name} {v : Value} {most : ℕ} → Gets lines k f v most → Changes lines k f most
  changes_of r = record {
    vars = r.vars;
    memory = r.memory;
    words = r.words;
    awaits = r.awaits;
    good = r.good;
    heap = r.heap;
    edit = r.edit;
    variables = r.variables;
    left = r.left;
    steps = r.steps;
    some = r.some;
    few = r.few;
    runs = r.runs;
  }

  pub high_variable : (h : Name) (u : ℕ) → IsThere site h → HasVariable site h u → OWN_FROM ≤ u
  high_variable h u there own = variable_high x.table x.blocks site h u y.linked.0 there own

  module _ (f : Name) (there : IsThere site f) (plain : holds_address (house site f) ≡ false) (v : Value)
      (numbers : of_numbers (looked x.table site f) ≡ true) (shaped : has_shape v (looked x.table site f) ≡ true) (lines k : List WordInstr) where
    -- where it is in a variable
    pub gets_word : (t : ℕ) → (house site f).home ≡ Variable t
        → ToVariable x.law x.live (all_procs x) (within x.table x.blocks g) refl g.words g.memory lines g.call.vars t v k → Gets lines k f v 2
    gets_word t home w = record {
      vars = w.vars;
      memory = g.memory;
      words = g.words;
      awaits = g.awaits;
      good = y.memory;
      heap = heap_same g.memory;
      edit = nowhere refl;
      variables = λ h u other ne is. w.but.others u (high_variable h u other is)
          (variables_apart x.table x.blocks site f h t u y.linked.0 there other (λ e. ne (sym e)) (home_variable x.table x.blocks site f t there home) is);
      left = w.but.left;
      at_place = subst (λ p. At g.memory site.base w.vars p v) (sym (spot_held (house site f) t plain home)) w.given;
      steps = w.steps;
      some = w.some;
      few = w.few;
      runs = w.runs;
    }

    -- where it is in memory
    pub gets_bytes : (most : ℕ) → (inside : InMemory (house site f).home)
        → ToMemory x.law x.live (all_procs x) (within x.table x.blocks g) refl g.words g.memory lines g.call.vars
        (address_of site.base (house site f).home) v most k
        → Gets lines k f v most
    gets_bytes most inside r =
        let size : (house site f).bytes ≡ bytes v = size_is x sites y.linked g.call (inl refl) f there plain v numbers shaped in
        record {
          vars = r.vars;
          memory = r.memory;
          words = r.words;
          awaits = r.awaits;
          good = memory_kept x sites y.linked g.memory r.memory (address_of site.base (house site f).home) (bytes v) y.memory r.changed
              (lying_all x sites y.linked site f (bytes v) (inl refl) there inside size);
          heap = heap_kept x sites y.linked g.memory r.memory (address_of site.base (house site f).home) (bytes v) y.memory r.changed
              (lying_all x sites y.linked site f (bytes v) (inl refl) there inside size);
          edit = somewhere (address_of site.base (house site f).home) (bytes v)
              (outside_still (IsPlace x.table x.blocks) (next_base sites) g.memory r.memory (address_of site.base (house site f).home) (bytes v)
              r.changed.outside) (inl refl) there inside
              (omega arith)
              (omega (arith, size));
          variables = λ h u other ne is. r.same.others u (high_variable h u other is);
          left = r.same.left;
          at_place = to_memory r.memory site.base r.vars (house site f) v plain inside r.there;
          steps = r.steps;
          some = r.some;
          few = r.few;
          runs = r.runs;
        }

  -- a value that is somewhere is moved to a place
  pub gets_moved : (f : Name) → IsThere site f → holds_address (house site f) ≡ false → (v : Value)
      → of_numbers (looked x.table site f) ≡ true → has_shape v (looked x.table site f) ≡ true
      → (k : List WordInstr) (from : Housed) → from.is_word ≡ is_single v → from.bytes ≡ bytes v → HasWords v → (all : Bool)
      → Source x sites y.linked g.memory site.base g.call.vars all from v → Gets (moves (house site f) from k) k f v (10 + 2 * bytes v)
  gets_moved f there plain v numbers shaped k from word_from size_from small all source = by (houses x.table x.blocks site f y.linked.0 there).where_is
    where
      size : (house g.call.site f).bytes ≡ bytes v
      size = size_is x (all_sites x g line rest y) y.linked g.call (inl refl) f there plain v numbers shaped

      single : (house g.call.site f).is_word ≡ is_single v
      single = word_is x (all_sites x g line rest y) y.linked g.call (inl refl) f there plain v numbers shaped

      bytes_in : InMemory (house g.call.site f).home → Gets (moves (house g.call.site f) from k) k f v (10 + 2 * bytes v)
      bytes_in inside = gets_bytes f there plain v numbers shaped (moves (house g.call.site f) from k) k (10 + 2 * bytes v) inside
          (to_bytes_by x (all_sites x g line rest y) y.linked (within x.table x.blocks g) refl g.words g.memory y.memory k g.call.vars
          (house g.call.site f) from v word_from size_from small
          (house g.call.site f).home (spot_memory (house g.call.site f) plain inside) (address_of g.call.site.base (house g.call.site f).home)
          (points_there g.call.site.base g.call.vars (house g.call.site f).home inside)
          (lying_all x (all_sites x g line rest y) y.linked g.call.site f (bytes v) (inl refl) there inside size) all source (inl size))

      more : Gets (moves (house g.call.site f) from k) k f v 2 → Gets (moves (house g.call.site f) from k) k f v (10 + 2 * bytes v)
      more r = record {
        vars = r.vars;
        memory = r.memory;
        words = r.words;
        awaits = r.awaits;
        good = r.good;
        heap = r.heap;
        edit = r.edit;
        variables = r.variables;
        left = r.left;
        at_place = r.at_place;
        steps = r.steps;
        some = r.some;
        few = (let h = r.few in omega (arith, h));
        runs = r.runs;
      }

      by : Housing (room (body_of g)) FIXED_BYTES (data_end x.table x.blocks) (body_of g).start (house g.call.site f) → Gets
          (moves (house g.call.site f) from k) k f v (10 + 2 * bytes v)
      by (in_variable t e p low is_word) =
          let n = number_of_single x (all_sites x g line rest y) y.linked (within x.table x.blocks g) refl g.words g.memory y.memory k g.call.vars
          (house g.call.site f) from v word_from size_from small
          v (sym single ∙ is_word) in
          more (gets_word f there plain v numbers shaped (moves (house g.call.site f) from k) k t e
          (to_word_by x (all_sites x g line rest y) y.linked (within x.table x.blocks g) refl g.words g.memory y.memory k g.call.vars
          (house g.call.site f) from v word_from size_from small
          t (spot_held (house g.call.site f) t p e) low n.0 n.1 all source))
      by (by_address t e address low) = never (sym plain ∙ address)
      by (in_places n e p whole within) = bytes_in (subst InMemory (sym e) tt)
      by (in_data n e p whole low within start) = bytes_in (subst InMemory (sym e) tt)

  -- ---- a temporary has the value

  pub kept_value : (t : ℕ) (v : Value) (vars : Vars)
      → ((h : Name) (u : ℕ) → IsThere site h → h ≢ of_value t → HasVariable site h u → vars u ≡ g.call.vars u)
      → vars LEFT ≡ g.call.vars LEFT
      → Kept x.table x.blocks x.small sites y.linked site (of_value t) site g.call.temps (with_value t g.call.temps v) g.call.vars vars
  kept_value t v vars others left = record {
    values = λ u there away. put_away x g line rest y t v u (different x g line rest y t u away);
    places = λ u away. refl;
    texts = λ u n k i text away. put_away x g line rest y t v u (different x g line rest y t u away);
    still = λ u w l h. put_still x g line rest y t v u w h;
    variables = λ h u there away home. others h u there (apart h away) home;
    left = left;
  }
    where
      apart : (h : Name) → (g.call.site.level ≢ g.call.site.level) ⊎ (h ≢ of_value t) → h ≢ of_value t
      apart h (inl ne) e = ne refl
      apart h (inr ne) e = ne e

  -- what stands at a temporary's home may have blocks
  pub good_item : (after : List BlockLine) (stand : StandAt x.table x.blocks (body_of g) after) (lines k : List WordInstr) (t : ℕ) (v : Value) (most : ℕ)
      → IsThere site (of_value t) → (r : Changes lines k (of_value t) most)
      → IsItem x.table (store_with g r.memory) (call site (with_value t g.call.temps v) r.vars) (of_value t) v
      → IsGood x (changed g after (with_value t g.call.temps v) r.vars r.memory r.words r.awaits g.world)
  good_item after stand lines k t v most there r item_then =
      good_changed x g line rest y after site (of_value t) (with_value t g.call.temps v) r.vars r.memory r.words r.awaits g.world r.good r.heap
      (refl, refl) r.edit
      (worlds_same x.table x.blocks x.small sites y.linked site (of_value t) g.world)
      (kept_value t v r.vars r.variables r.left) (λ e. new)
      (λ c from i e. absurd (waits_below x g line rest y c i e)) y.frames y.levels stand
    where
      new : New x.table x.blocks x.small (all_sites x g line rest y) y.linked g.call.site (of_value t) (store_with g r.memory) g.world
          (all_sites x g line rest y) (call g.call.site (with_value t g.call.temps v) r.vars)
      new = record {
        item = λ u i h. subst (λ w. IsItem x.table (store_with g r.memory) (call g.call.site (with_value t g.call.temps v) r.vars) (of_value t) w)
            (put_here x g line rest y t v u h) item_then;
        text = λ u n j w e a h. own_text g.call.site (of_value u) n j (subst (IsThere g.call.site) (sym e) there) a;
        led = λ u other e n h. absurd (value_no_location t u (sym e));
        filled = λ n e h. absurd (value_no_place t n (sym e));
        waits = λ n e. absurd (value_no_waiting t n (sym e));
      }

  pub good_value : (after : List BlockLine) (stand : StandAt x.table x.blocks (body_of g) after) (lines k : List WordInstr) (t : ℕ) (v : Value) (most : ℕ)
      → IsThere site (of_value t) → of_numbers (looked x.table site (of_value t)) ≡ true
      → has_shape v (looked x.table site (of_value t)) ≡ true → (r : Gets lines k (of_value t) v most)
      → IsGood x (changed g after (with_value t g.call.temps v) r.vars r.memory r.words r.awaits g.world)
  good_value after stand lines k t v most there numbers shaped r =
      good_item after stand lines k t v most there (changes_of r)
      (item_of x.table (store_with g r.memory) (call g.call.site (with_value t g.call.temps v) r.vars) (of_value t) v (record {
        there = there;
        numbers = numbers;
        plain = value_plain (house g.call.site (of_value t)) there.kind;
        shaped = shaped;
        at = r.at_place;
      }))

  pub item_settles : (t : ℕ) (v : Value) (most work : ℕ) → IsThere site (of_value t) → (r : Changes code_here code_next (of_value t) most)
      → IsItem x.table (store_with g r.memory) (call site (with_value t g.call.temps v) r.vars) (of_value t) v → most ≤ 256 * work
      → Settles x (starts g line rest) rest (Passes (Answers [] work (with_value t g.call.temps v) g.world))
  item_settles t v most work there r item le =
      goes_on x (starts g line rest) (changed g rest (with_value t g.call.temps v) r.vars r.memory r.words r.awaits g.world) rest
      (good_item rest (stands_next x.table x.blocks (body_of g) line rest y.stands) code_here code_next t v most there r item) r.steps work
      (with_value t g.call.temps v) g.world r.runs r.some (let h = r.few in omega (arith, h, le)) refl

  pub value_settles : (t : ℕ) (v : Value) (most work : ℕ) → IsThere site (of_value t) → of_numbers (looked x.table site (of_value t)) ≡ true
      → has_shape v (looked x.table site (of_value t)) ≡ true
      → Gets code_here code_next (of_value t) v most → most ≤ 256 * work
      → Settles x (starts g line rest) rest (Passes (Answers [] work (with_value t g.call.temps v) g.world))
  value_settles t v most work there numbers shaped r le =
      goes_on x (starts g line rest) (changed g rest (with_value t g.call.temps v) r.vars r.memory r.words r.awaits g.world) rest
      (good_value rest (stands_next x.table x.blocks (body_of g) line rest y.stands) code_here code_next t v most there numbers shaped r) r.steps work
      (with_value t g.call.temps v) g.world r.runs r.some (let h = r.few in omega (arith, h, le)) refl

  -- ---- temporaries that have places are as they were

  pub record SameTemps (temps : Temps) : Type 0 where
    pub values : (t : ℕ) → IsNamed site (of_value t) → temps.values t ≡ g.call.temps.values t
    pub places : (t : ℕ) → temps.places t ≡ g.call.temps.places t
    pub still : (t : ℕ) (v : Value) → IsLasting x.table site t → g.call.temps.values t ≡ Some v → (u : Value) × (temps.values t ≡ Some u)

  pub same_temps : SameTemps g.call.temps
  same_temps = record { values = λ t i. refl; places = λ t. refl; still = λ t v l h. (v, h) }

  -- one without a place gets something
  pub nothing_temps : (to : ℕ) (v : Value) → (IsNamed site (of_value to) → ⊥) → SameTemps (with_value to g.call.temps v)
  nothing_temps to v unnamed = record {
    values = λ t i. put_away x g line rest y to v t (λ e. unnamed (subst (λ u. IsNamed site (of_value u)) e i));
    places = λ t. refl;
    still = λ t u l h. put_still x g line rest y to v t u h;
  }

  pub kept_temps : (lo : Site) (e : Name) (temps : Temps) (vars : Vars) → SameTemps temps
      → ((h : Name) (u : ℕ) → IsThere site h → ((site.level ≢ lo.level) ⊎ (h ≢ e)) → HasVariable site h u → vars u ≡ g.call.vars u)
      → vars LEFT ≡ g.call.vars LEFT
      → Kept x.table x.blocks x.small sites y.linked lo e site g.call.temps temps g.call.vars vars
  kept_temps lo e temps vars same others left = record {
    values = λ u there away. same.values u (record { among = there.among; number = there.number; kind = there.kind });
    places = λ u away. same.places u;
    texts = λ u n k i text away. same.values u i;
    still = λ u w l h. same.still u w l h;
    variables = λ h u there away home. others h u there away home;
    left = left;
  }

  -- nothing changes but these, and variables for what comes between
  pub good_with_temps : (after : List BlockLine) (temps : Temps) → SameTemps temps → (vars words : Vars) (awaits : ℕ) → AllSame g.call.vars vars
      → StandAt x.table x.blocks (body_of g) after → IsGood x (changed g after temps vars g.memory words awaits g.world)
  good_with_temps after temps same vars words awaits kept stand =
      good_changed x g line rest y after above (of_value 0) temps vars g.memory words awaits g.world y.memory (heap_same g.memory) (refl, refl) (nowhere refl)
      (worlds_same x.table x.blocks x.small sites y.linked above (of_value 0) g.world)
      (kept_temps above (of_value 0) temps vars same (λ h u other away home. kept.others u (high_variable h u other home)) kept.left)
      (λ e. absurd (omega (arith, e)))
      (λ c from i e. absurd (too_high c i e)) y.frames y.levels stand
    where
      -- the place of no call
      above : Site
      above = record g.call.site { level = suc g.call.site.level }

      too_high : (c : Call) → AmongCalls c (map called_by g.waiting) → c.site.level ≡ suc g.call.site.level → ⊥
      too_high c i e =
          let z = site_at x.table x.blocks (map site_of (map called_by g.waiting)) c.site y.linked.5 (sites_among (map called_by g.waiting) c i) in
          let l = z.level in let m = y.linked.2 in omega (arith, l, m, e)
        where
          sites_among : (cs : List Call) (c : Call) → AmongCalls c cs → AmongSites c.site (map site_of cs)
          sites_among [] c i = absurd i
          sites_among (d ∷ cs) c (inl e) = inl (ap site_of e)
          sites_among (d ∷ cs) c (inr i) = inr (sites_among cs c i)

  -- ---- a place of the call has the value

  module _ (n : ℕ) (there : IsThere site (of_place n)) (own : owns (house site (of_place n)) ≡ true) (v : Value) where
    place_frame : IsFrame g.world site.level site.body.proc.first site.body.proc.span
    place_frame = frame_of_site x sites y.linked g.world sites site y.frames (inl refl)

    place_inside : (site.body.proc.first ≤ n) × (n < site.body.proc.first + site.body.proc.span)
    place_inside = y.linked.0.inside n (record { among = there.among; number = there.number; kind = there.kind })

    abbrev pub filled_world : World
    filled_world = with_slot g.world site.level n (Some (Holds v))

    pub slot_is : slot_at filled_world site.level n ≡ Some (Holds v)
    slot_is = slot_here g.world site.level n (Some (Holds v)) site.body.proc.first site.body.proc.span place_frame place_inside.0 place_inside.1

    pub elsewhere_is : (s : Site) (m : ℕ) → AmongSites s sites → IsThere s (of_place m) → (s.level ≢ site.level) ⊎ (of_place m ≢ of_place n)
        → slot_at filled_world s.level m ≡ slot_at g.world s.level m
    elsewhere_is s m i other away =
        slot_elsewhere g.world site.level n (Some (Holds v)) s.level m site.body.proc.first site.body.proc.span place_frame place_inside.0
        (elsewhere away (number_cases s.level site.level))
      where
        elsewhere : (s.level ≢ g.call.site.level) ⊎ (of_place m ≢ of_place n) → (s.level ≡ g.call.site.level) ⊎ (s.level ≢ g.call.site.level)
            → (s.level ≢ g.call.site.level) ⊎ ((g.call.site.body.proc.first ≤ m) × (m ≢ n))
        elsewhere away (inr ne) = inl ne
        elsewhere (inl ne) (inl e) = inl ne
        elsewhere (inr ne) (inl e) =
            let same : s ≡ g.call.site = one_level x.table x.blocks (all_sites x g line rest y) s g.call.site y.linked i (inl refl) e in
            let o : IsThere g.call.site (of_place m) = subst (λ z. IsThere z (of_place m)) same other in
            inr ((y.linked.0.inside m (record { among = o.among; number = o.number; kind = o.kind })).0, λ f. ne (ap of_place f))

    pub place_worlds : Worlds x.table x.blocks x.small sites y.linked site (of_place n) g.world filled_world
    place_worlds = record {
      slots = elsewhere_is;
      more = λ s m i other h. more s m i other h (away_cases x.table x.blocks x.small (all_sites x g line rest y) y.linked g.call.site (of_place n) s
          (of_place m));
      roots = λ s m i other h k. roots s m i other h
          (away_cases x.table x.blocks x.small (all_sites x g line rest y) y.linked g.call.site (of_place n) s (of_place m));
      waits = λ s node i a. waits_alike g.world filled_world (slot_alike g.world g.call.site.level n (Some (Holds v))) s.level node;
      once = λ s i h. once_alike g.world filled_world (slot_alike g.world g.call.site.level n (Some (Holds v))) s.level h;
      hand = refl;
    }
      where
        more : (s : Site) (m : ℕ) → AmongSites s (all_sites x g line rest y) → IsThere s (of_place m) → Filled g.world s.level m
            → ((s.level ≡ g.call.site.level) × (of_place m ≡ of_place n)) ⊎ ((s.level ≢ g.call.site.level) ⊎ (of_place m ≢ of_place n))
            → Filled filled_world s.level m
        more s m i other h (inr away) = (h.0, elsewhere_is s m i other away ∙ h.1)
        more s m i other h (inl same) = (
          Holds v,
          ap (λ l. slot_at filled_world l m) same.0 ∙ ap (slot_at filled_world g.call.site.level) (same_numbers (of_place m) (of_place n) same.1)
              ∙ slot_is,
        )

        roots : (s : Site) (m : ℕ) → AmongSites s (all_sites x g line rest y) → IsThere s (of_place m) → Filled g.world s.level m
            → ((s.level ≡ g.call.site.level) × (of_place m ≡ of_place n)) ⊎ ((s.level ≢ g.call.site.level) ⊎ (of_place m ≢ of_place n))
            → root_of (Standing s.level m) filled_world ≡ root_of (Standing s.level m) g.world
        roots s m i other h (inr away) = ap (through_slot (Standing s.level m)) (elsewhere_is s m i other away)
        roots s m i other h (inl same) =
            let number : m ≡ n = same_numbers (of_place m) (of_place n) same.1 in
            let here : Filled g.world g.call.site.level n = subst (λ l. Filled g.world l n) same.0 (subst (λ k. Filled g.world s.level k) number h) in
            let old = (y.hold.0.filled n there here).own own in
            subst (λ l. root_of (Standing l m) filled_world ≡ root_of (Standing l m) g.world) (sym same.0)
            (subst (λ k. root_of (Standing g.call.site.level k) filled_world ≡ root_of (Standing g.call.site.level k) g.world) (sym number)
            (ap (through_slot (Standing g.call.site.level n)) slot_is ∙ sym (ap (through_slot (Standing g.call.site.level n)) old.1)))

    -- what it has may have blocks
    pub good_item_place : (after : List BlockLine) (stand : StandAt x.table x.blocks (body_of g) after) (temps : Temps) (same : SameTemps temps)
        (lines k : List WordInstr) (most : ℕ) (r : Changes lines k (of_place n) most)
        → IsItem x.table (store_with g r.memory) (call site temps r.vars) (of_place n) v
        → IsGood x (changed g after temps r.vars r.memory r.words r.awaits filled_world)
    good_item_place after stand temps same lines k most r item_then =
        good_changed x g line rest y after site (of_place n) temps r.vars r.memory r.words r.awaits filled_world r.good r.heap (refl, refl) r.edit
        place_worlds
        (kept_temps site (of_place n) temps r.vars same (λ f u other away home. r.variables f u other (apart f away) home) r.left)
        (λ e. record {
          item = λ u i h. subst (λ w. IsItem x.table (store_with g r.memory) (call site temps r.vars) (of_place n) w) (held_is u h) item_then;
          text = λ u a b w e f h. absurd (value_no_place u n e);
          led = λ u other e i k. absurd (location_no_place u n e);
          filled = λ m e k. subst (λ j. IsFilled x.table x.blocks sites g.ground filled_world (call site temps r.vars) j)
              (sym (same_numbers (of_place m) (of_place n) e)) (record {
                own = λ o. (v, slot_is);
                other = λ o. never (sym o ∙ own);
              });
          waits = λ m e. absurd (place_no_waiting n m (sym e));
        })
        (λ c from i e. absurd (waits_below x g line rest y c i e))
        (frames_kept x sites y.linked g.world sites site.level n (Some (Holds v)) y.frames)
        (length_set g.world.frames site.level (with_slot_of (frame_at g.world site.level) n (Some (Holds v))) ∙ y.levels)
        stand
      where
        apart : (f : Name) → (g.call.site.level ≢ g.call.site.level) ⊎ (f ≢ of_place n) → f ≢ of_place n
        apart f (inl ne) e = ne refl
        apart f (inr ne) e = ne e

        held_is : (u : Value) → slot_at filled_world g.call.site.level n ≡ Some (Holds u) → v ≡ u
        held_is u e = ap held (sym slot_is ∙ e)

    pub good_place : (after : List BlockLine) (stand : StandAt x.table x.blocks (body_of g) after) (temps : Temps) (same : SameTemps temps)
        (lines k : List WordInstr) (most : ℕ)
        → of_numbers (looked x.table site (of_place n)) ≡ true → has_shape v (looked x.table site (of_place n)) ≡ true
        → holds_address (house site (of_place n)) ≡ false → (r : Gets lines k (of_place n) v most)
        → IsGood x (changed g after temps r.vars r.memory r.words r.awaits filled_world)
    good_place after stand temps same lines k most numbers shaped plain r =
        good_item_place after stand temps same lines k most (changes_of r)
        (item_of x.table (store_with g r.memory) (call site temps r.vars) (of_place n) v (record {
          there = there;
          numbers = numbers;
          plain = plain;
          shaped = shaped;
          at = r.at_place;
        }))
