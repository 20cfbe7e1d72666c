-- A value begins to wait at a node of the running call, where a temporary has it, or waits no more: what is true then.
use Rattle.std.proofs.Common.{◌≡◌, ◌≢◌, ◌⊎◌, inl, inr, ℕ, suc, ◌+◌, ◌*◌, ◌%◌, ◌^◌, ◌<◌, ◌≤◌, List, [], ◌∷◌, length, Some}
use Rattle.std.proofs.Common.{true, false, refl, sym, ap, subst, ◌∙◌, arith}
use Rattle.std.specs.Prelude.{if◌then◌else◌}
use Rattle.std.proofs.lemmas.Bool.{eq-eqb, ne_eqb}
use Rattle.nim_meaning.specs.Values.{Value, Holds, Standing}
use Rattle.nim_meaning.specs.State.{World, Frame, Temporary, awaited, frame_in, frame_at, temporary_in, temporary_at, with_temporaries, with_one_waiting}
use Rattle.nim_meaning.specs.State.{with_none_waiting}
use Rattle.nim_meaning.specs.State.{without_temporary_in}
use Rattle.nim_meaning.specs.Places.{through_slot}
use Rattle.flat_code.specs.declared.block.BlockLine.{BlockLine}
use Rattle.flat_code.specs.Shapes.{has_shape}
use Rattle.word_code.specs.declared.word.WordInstr.{WordInstr}
use Rattle.word_code.specs.declared.word.WordInstr.TheVariants.{Place}
use Rattle.word_code.specs.Memory.{Memory}
use Rattle.word_code.specs.RoutineTable.{Separate}
use Rattle.word_code.specs.Words.{Vars, put}
use Rattle.word_code.proofs.ForCallers.{Runs, at, run_constant, run_place, then_runs}
use Rattle.word_lowering.specs.declared.homes.TheConstants.{LEFT}
use Rattle.word_lowering.specs.declared.homes.Housed.{Housed}
use Rattle.word_lowering.specs.declared.homes.Waiter.{Waiter}
use Rattle.word_lowering.specs.Layouts.{holds_address}
use Rattle.word_lowering.specs.Spots.{moves}
use Rattle.word_lowering.specs.WaitingCode.{waiter_at, waiting_house, waits_code, leaves_code, waiter_house}
use Rattle.word_lowering.proofs.BitMoves.{Bits, bits_moved, item_moved}
use Rattle.word_lowering.proofs.Gets.{same_temps, kept_temps}
use Rattle.word_lowering.proofs.HeapKept.{SameHeap, heap_same}
use Rattle.word_lowering.proofs.Frames.{get_other, length_set}
use Rattle.word_lowering.proofs.Keeping.{call, from_home, number_cases, nowhere, points_there, same_numbers, spot_memory, value_no_waiting}
use Rattle.word_lowering.proofs.Keeping.{location_no_waiting, place_no_waiting, waiting_there, to_home, Edit, Worlds}
use Rattle.word_lowering.proofs.Lines.{Basis, IsGood, all_procs, all_sites, changed, good_changed, starts, waits_below}
use Rattle.word_lowering.proofs.Moves.{high_behind}
use Rattle.word_lowering.proofs.Related.{Both, AllFrames, MemoryGood, StandAt, body_of, sites_of, store_of, store_with, within}
use Rattle.word_lowering.proofs.RoutineCalls.{awaiting}
use Rattle.word_lowering.proofs.Scenes.{IsItem, IsThere, HasVariable, Name, Says, SaysAt, StoredIn, address_of, house, looked, of_value}
use Rattle.word_lowering.proofs.Scenes.{of_waiting, variable_at}
use Rattle.word_lowering.proofs.ShapeFacts.{of_numbers}
use Rattle.word_lowering.proofs.Sites.{InMemory, Site}
use Rattle.word_lowering.proofs.SitesApart.{Beside, ranges_apart, variables_apart}
use Rattle.word_lowering.proofs.Sources.{lying_all, lying_readable}
use Rattle.word_lowering.proofs.Options.{none_some}
use Rattle.word_lowering.proofs.OutPlaces.{high_in_memory}
use Rattle.word_lowering.proofs.ValueFacts.{value_plain}
use Rattle.word_lowering.proofs.Temporaries.{AreOnce, frame_waits, none_here, none_once, none_other, one_here, one_once}
use Rattle.word_lowering.proofs.Temporaries.{one_other, slots_alike}

-- a variable gets a number that is one of 32 bits
put_there : (v : Vars) (to n : ℕ) → n < 2 ^ 32 → put v to n to ≡ Some n
put_there v to n small =
    ap (λ b. if b then Some (n % 2 ^ 32) else v to) (eq-eqb to to refl) ∙ ap Some (let e : n % 2 ^ 32 ≡ n = omega (arith, small) in e)

put_beside : (v : Vars) (to n u : ℕ) → u ≢ to → put v to n u ≡ v u
put_beside v to n u ne = ap (λ b. if b then Some (n % 2 ^ 32) else v u) (ne_eqb u to ne)

module _ (x : Basis) (g : Both) (line : BlockLine) (rest : List BlockLine) (y : IsGood x (starts g line rest)) (node : ℕ) (w : Waiter)
    (is : waiter_at node g.call.site.body.own.waiters ≡ Some w) where
  abbrev site : Site
  site = g.call.site

  abbrev sites : List Site
  sites = all_sites x g line rest y

  abbrev level : ℕ
  level = g.call.site.level

  there : IsThere site (of_waiting node)
  there = waiting_there g.call.site node w is

  house_is : house site (of_waiting node) ≡ waiting_house w
  house_is = ap waiter_house is

  inside : InMemory (house site (of_waiting node)).home
  inside = subst (λ (h : Housed). InMemory h.home) (sym house_is) tt

  plain : holds_address (house site (of_waiting node)) ≡ false
  plain = ap (λ (h : Housed). holds_address h) house_is

  has_variable : HasVariable site (of_waiting node) w.variable
  has_variable = ap variable_at is

  bytes_are : (house site (of_waiting node)).bytes ≡ w.bytes
  bytes_are = ap (λ (h : Housed). h.bytes) house_is

  address_is : address_of g.call.site.base (house site (of_waiting node)).home ≡ g.call.site.base + w.at
  address_is = ap (λ (h : Housed). address_of g.call.site.base h.home) house_is

  level_there : level < length g.world.frames
  level_there =
      let l : length g.world.frames ≡ length (sites_of g) = y.levels in
      let m : suc g.call.site.level ≡ length (sites_of g) = ap suc y.linked.2 in
      omega (arith, l, m)

  -- variables of other places
  other_variable : (f : Name) (u : ℕ) → IsThere site f → f ≢ of_waiting node → HasVariable site f u → u ≢ w.variable
  other_variable f u other ne has =
      variables_apart x.table x.blocks g.call.site (of_waiting node) f w.variable u y.linked.0 there other (λ e. ne (sym e)) has_variable has

  -- ---- a world in which something else waits at the node

  module _ (ts : List Temporary) (others : (m : ℕ) → m ≢ node → temporary_at (with_temporaries g.world level ts) level m ≡ temporary_at g.world level m)
      (once : AreOnce (frame_at g.world level).temporaries → AreOnce (frame_at (with_temporaries g.world level ts) level).temporaries) where
    abbrev after : World
    after = with_temporaries g.world level ts

    elsewhere : (l : ℕ) → l ≢ level → frame_at after l ≡ frame_at g.world l
    elsewhere l ne = ap frame_in (get_other g.world.frames g.call.site.level (record (frame_at g.world g.call.site.level) { temporaries = ts }) l ne)

    worlds_after : Worlds x.table x.blocks x.small sites y.linked site (of_waiting node) g.world after
    worlds_after = record {
      slots = λ s n i there away. slots_alike g.world g.call.site.level ts s.level n;
      more = λ s n i there h. (h.0, slots_alike g.world g.call.site.level ts s.level n ∙ h.1);
      roots = λ s n i there h k. ap (through_slot (Standing s.level n)) (slots_alike g.world g.call.site.level ts s.level n);
      waits = λ s m i away. waits s.level m away (number_cases s.level g.call.site.level);
      once = λ s i h. once_at s.level h (number_cases s.level g.call.site.level);
      hand = refl;
    }
      where
        waits : (l m : ℕ) → (l ≢ g.call.site.level) ⊎ (of_waiting m ≢ of_waiting node) → (l ≡ g.call.site.level) ⊎ (l ≢ g.call.site.level)
            → temporary_at after l m ≡ temporary_at g.world l m
        waits l m away (inr ne) = ap (λ (f : Frame). temporary_in f.temporaries m) (elsewhere l ne)
        waits l m (inl ne) (inl e) = absurd (ne e)
        waits l m (inr ne) (inl e) =
            subst (λ k. temporary_at after k m ≡ temporary_at g.world k m) (sym e) (others m (λ f. ne (ap of_waiting f)))

        once_at : (l : ℕ) → AreOnce (frame_at g.world l).temporaries → (l ≡ g.call.site.level) ⊎ (l ≢ g.call.site.level)
            → AreOnce (frame_at after l).temporaries
        once_at l h (inr ne) = subst (λ (f : Frame). AreOnce f.temporaries) (sym (elsewhere l ne)) h
        once_at l h (inl e) =
            subst (λ k. AreOnce (frame_at after k).temporaries) (sym e)
            (once (subst (λ k. AreOnce (frame_at g.world k).temporaries) e h))

    frames_after : (some : List Site) → AllFrames x.table x.blocks g.world some → AllFrames x.table x.blocks after some
    frames_after [] f = tt
    frames_after (s ∷ some) f =
        (frame_waits g.world g.call.site.level ts s.level s.body.proc.first s.body.proc.span f.0, frames_after some f.1)

    -- all of it, where the home of what waits and its variable are as they say
    good_after : (behind : List BlockLine) → StandAt x.table x.blocks (body_of g) behind → (vars : Vars) (m : Memory) (words : Vars) (awaits : ℕ)
        → MemoryGood x.table x.blocks sites x.first m → SameHeap g.memory m
        → Edit x.table x.blocks x.small sites y.linked site (of_waiting node) g.memory m
        → ((f : Name) (u : ℕ) → IsThere site f → f ≢ of_waiting node → HasVariable site f u → vars u ≡ g.call.vars u)
        → vars LEFT ≡ g.call.vars LEFT
        → ((v : Value) → temporary_at after level node ≡ Some (Holds v)
        → IsItem x.table (store_with g m) (call site g.call.temps vars) (of_waiting node) v)
        → Says (temporary_at after level node) (vars w.variable) (g.call.site.base + w.at)
        → IsGood x (changed g behind g.call.temps vars m words awaits after)
    good_after behind stand vars m words awaits memory heap edit variables left item says =
        good_changed x g line rest y behind g.call.site (of_waiting node) g.call.temps vars m words awaits after memory heap (refl, refl) edit worlds_after
        (kept_temps x g line rest y g.call.site (of_waiting node) g.call.temps vars (same_temps x g line rest y)
        (λ f u other away has. variables f u other (apart f away) has) left)
        (λ e. record {
          item = λ v th h. item v h;
          text = λ t n k z e a h. absurd (value_no_waiting t node e);
          led = λ t where_it e n h. absurd (location_no_waiting t node e);
          filled = λ n e h. absurd (place_no_waiting n node e);
          waits = λ m e. subst (λ k. SaysAt (waiter_at k g.call.site.body.own.waiters) (temporary_at after g.call.site.level k) g.call.site.base vars)
              (sym (same_numbers (of_waiting m) (of_waiting node) e))
              (subst (λ o. SaysAt o (temporary_at after g.call.site.level node) g.call.site.base vars) (sym is) says);
        })
        (λ c from i e. absurd (waits_below x g line rest y c i e)) (frames_after (all_sites x g line rest y) y.frames)
        (length_set g.world.frames g.call.site.level (record (frame_at g.world g.call.site.level) { temporaries = ts }) ∙ y.levels) stand
      where
        apart : (f : Name) → (g.call.site.level ≢ g.call.site.level) ⊎ (f ≢ of_waiting node) → f ≢ of_waiting node
        apart f (inl ne) e = ne refl
        apart f (inr ne) e = ne e

  -- ---- one waits no more

  abbrev none_after : World
  none_after = with_none_waiting g.world level node

  pub record Leaves (k : List WordInstr) : Type 0 where
    pub vars : Vars
    pub good : (behind : List BlockLine) → StandAt x.table x.blocks (body_of g) behind
        → IsGood x (changed g behind g.call.temps vars g.memory g.words g.awaits none_after)
    pub runs : Runs x.live (all_procs x) 1 (at (within x.table x.blocks g) g.memory (leaves_code (Some w) k) g.call.vars g.words)
        (at (within x.table x.blocks g) g.memory k vars g.words)

  pub leaves : (k : List WordInstr) → Leaves k
  leaves k =
      let vars : Vars = put g.call.vars w.variable 0 in
      let once = y.hold.0.once in
      let low = y.linked.0.waiting.variable node w is in
      record {
        vars = vars;
        good = λ behind stand.
            good_after (without_temporary_in (frame_at g.world g.call.site.level).temporaries node)
            (λ m ne. none_other g.world g.call.site.level level_there node m ne) (none_once g.world g.call.site.level level_there node)
            behind stand vars g.memory g.words g.awaits y.memory (heap_same g.memory) (nowhere refl)
            (λ f u other ne has. put_beside g.call.vars w.variable 0 u (other_variable f u other ne has))
            (put_beside g.call.vars w.variable 0 LEFT (λ e. absurd (omega (arith, e, low))))
            (λ v h. absurd (none_some (Holds v) (sym (none_here g.world g.call.site.level level_there node once) ∙ h)))
            (subst (λ o. Says o (vars w.variable) (g.call.site.base + w.at)) (sym (none_here g.world g.call.site.level level_there node once))
            (put_there g.call.vars w.variable 0 (omega arith)));
        runs = run_constant x.live (all_procs x) (within x.table x.blocks g) g.memory k g.call.vars g.words w.variable 0;
      }

  -- ---- one begins to wait

  -- a temporary whose value waits there has a home of that size, in memory
  pub record MayWait (to : ℕ) : Type 0 where
    pub is_there : IsThere site (of_value to)
    pub memory : InMemory (house site (of_value to)).home
    pub no_word : (house site (of_value to)).is_word ≡ false
    pub bytes : (house site (of_value to)).bytes ≡ w.bytes
    pub look : looked x.table site (of_value to) ≡ looked x.table site (of_waiting node)

  module _ (to : ℕ) (may : MayWait to) (v : Value) (has : g.call.temps.values to ≡ Some v) where
    abbrev one_after : World
    one_after = with_one_waiting g.world level node (Holds v)

    from_plain : holds_address (house site (of_value to)) ≡ false
    from_plain = value_plain (house g.call.site (of_value to)) may.is_there.kind

    item_there : IsItem x.table (store_of g) g.call (of_value to) v
    item_there = y.hold.0.items (of_value to) v may.is_there has

    start : ℕ
    start = address_of g.call.site.base (house g.call.site (of_value to)).home

    stored : StoredIn (store_of g) (address_of g.call.site.base (house g.call.site (of_value to)).home) (looked x.table site (of_waiting node)) v
    stored =
        subst (λ s. StoredIn (store_of g) (address_of g.call.site.base (house g.call.site (of_value to)).home) s v) may.look
        (from_home (store_of g) g.call.site.base g.call.vars (looked x.table g.call.site (of_value to)) (house g.call.site (of_value to)) v from_plain
        may.memory
        item_there.at)

    size : (house g.call.site (of_value to)).bytes ≡ (house g.call.site (of_waiting node)).bytes
    size = may.bytes ∙ sym bytes_are

    apart : Separate (address_of g.call.site.base (house g.call.site (of_waiting node)).home)
        (address_of g.call.site.base (house g.call.site (of_value to)).home) (house g.call.site (of_waiting node)).bytes
    apart = by (ranges_apart x.table x.blocks x.small (all_sites x g line rest y) g.call.site g.call.site (of_waiting node) (of_value to) y.linked (inl refl)
        (inl refl) there may.is_there inside may.memory (inr (λ e. value_no_waiting to node (sym e))))
      where
        by : Beside (address_of g.call.site.base (house g.call.site (of_waiting node)).home) (house g.call.site (of_waiting node)).bytes
            (address_of g.call.site.base (house g.call.site (of_value to)).home) (house g.call.site (of_value to)).bytes
            → Separate (address_of g.call.site.base (house g.call.site (of_waiting node)).home)
            (address_of g.call.site.base (house g.call.site (of_value to)).home) (house g.call.site (of_waiting node)).bytes
        by (inl h) = inr (inl h)
        by (inr h) = inr (inr (subst (λ n. address_of g.call.site.base (house g.call.site (of_value to)).home + n
            ≤ address_of g.call.site.base (house g.call.site (of_waiting node)).home) size h))

    bits : Bits x g line rest y (house g.call.site (of_value to)).home (address_of g.call.site.base (house g.call.site (of_value to)).home)
        (house g.call.site (of_waiting node)).bytes
    bits = record {
      high = high_behind (house g.call.site (of_value to)).home (high_in_memory (house g.call.site (of_value to)).home may.memory);
      points = points_there g.call.site.base g.call.vars (house g.call.site (of_value to)).home may.memory;
      readable = lying_readable x (all_sites x g line rest y) y.linked g.memory (address_of g.call.site.base (house g.call.site (of_value to)).home)
          (house g.call.site (of_waiting node)).bytes y.memory
          (lying_all x (all_sites x g line rest y) y.linked g.call.site (of_value to) (house g.call.site (of_waiting node)).bytes (inl refl) may.is_there
          may.memory size);
    }

    pub record Waits (k : List WordInstr) : Type 0 where
      pub vars : Vars
      pub memory : Memory
      pub words : Vars
      pub awaits : ℕ
      pub good : (behind : List BlockLine) → StandAt x.table x.blocks (body_of g) behind
          → IsGood x (changed g behind g.call.temps vars memory words awaits one_after)
      pub steps : ℕ
      pub some : 0 < steps
      pub few : steps ≤ 11 + 2 * w.bytes
      pub runs : Runs x.live (all_procs x) steps
          (at (within x.table x.blocks g) g.memory (waits_code (Some w) (house g.call.site (of_value to)) k) g.call.vars g.words)
          (at (awaiting (within x.table x.blocks g) awaits) memory k vars words)

    pub waits : w.bytes % 4 ≡ 0 → 4 ≤ w.bytes → g.call.site.base + w.at < 2 ^ 32
        → (of_numbers (looked x.table site (of_waiting node)) ≡ true → has_shape v (looked x.table site (of_waiting node)) ≡ true)
        → (k : List WordInstr) → Waits k
    waits whole some near shaped k =
        let next : List WordInstr = Place w.variable w.at ∷ k in
        let r = bits_moved x g line rest y (of_waiting node) there inside plain (ap (λ n. n % 4) bytes_are ∙ whole) (omega (arith, some, bytes_are))
        (house g.call.site (of_value to)) (house g.call.site (of_value to)).home
        (spot_memory (house g.call.site (of_value to)) from_plain may.memory) may.no_word size
        (address_of g.call.site.base (house g.call.site (of_value to)).home) bits apart next in
        let c = r.changes in
        let number : ℕ = g.call.site.base + w.at in
        let vars : Vars = put c.vars w.variable number in
        let low = y.linked.0.waiting.variable node w is in
        let item = item_moved x g line rest y (of_waiting node) v g.call.temps there inside plain shaped stored r in
        record {
          vars = vars;
          memory = c.memory;
          words = c.words;
          awaits = c.awaits;
          good = λ behind stand.
              good_after (record { node = node; slot = Holds v } ∷ without_temporary_in (frame_at g.world g.call.site.level).temporaries node)
              (λ m ne. one_other g.world g.call.site.level level_there node (Holds v) m ne)
              (one_once g.world g.call.site.level level_there node (Holds v))
              behind stand vars c.memory c.words c.awaits c.good c.heap c.edit
              (λ f u other ne h. put_beside c.vars w.variable number u (other_variable f u other ne h) ∙ c.variables f u other ne h)
              (put_beside c.vars w.variable number LEFT (λ e. absurd (omega (arith, e, low))) ∙ c.left)
              (λ u h. subst (λ z. IsItem x.table (store_with g c.memory) (call g.call.site g.call.temps vars) (of_waiting node) z)
              (ap awaited (sym (one_here g.world g.call.site.level level_there node (Holds v)) ∙ h))
              (record {
                there = item.there;
                plain = item.plain;
                shaped = item.shaped;
                at = to_home (store_with g c.memory) g.call.site.base vars
                    (looked x.table g.call.site (of_waiting node)) (house g.call.site (of_waiting node)) v plain inside
                    (from_home (store_with g c.memory) g.call.site.base c.vars (looked x.table g.call.site (of_waiting node))
                    (house g.call.site (of_waiting node)) v plain inside item.at);
              }))
              (subst (λ o. Says o (vars w.variable) number) (sym (one_here g.world g.call.site.level level_there node (Holds v)))
              (put_there c.vars w.variable number near));
          steps = c.steps + 1;
          some = omega arith;
          few = (let f = c.few in omega (arith, f, bytes_are));
          runs = then_runs x.live (all_procs x)
              (subst (λ (h : Housed). Runs x.live (all_procs x) c.steps
              (at (within x.table x.blocks g) g.memory (moves h (house g.call.site (of_value to)) next) g.call.vars g.words)
              (at (awaiting (within x.table x.blocks g) c.awaits) c.memory next c.vars c.words)) house_is c.runs)
              (run_place x.live (all_procs x) (awaiting (within x.table x.blocks g) c.awaits) c.memory k c.vars c.words w.variable w.at);
        }
