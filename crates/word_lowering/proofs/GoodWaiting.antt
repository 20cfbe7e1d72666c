-- What waits at a node of any active call becomes another value: what is true then.
use Rattle.std.proofs.Common.{◌≡◌, ◌≢◌, ◌⊎◌, inl, inr, ℕ, ◌<◌, List, [], ◌∷◌, length, map, Option, Some, None, true, refl, sym, ap, subst, ◌∙◌, ◌+◌}
use Rattle.nim_meaning.specs.Values.{Value, Slot, Holds, Standing}
use Rattle.nim_meaning.specs.State.{World, Frame, Temporary, awaited, frame_in, frame_at, temporary_in, temporary_at, with_temporary, with_temporary_in}
use Rattle.nim_meaning.specs.Places.{through_slot}
use Rattle.flat_code.specs.declared.block.BlockLine.{BlockLine}
use Rattle.flat_code.specs.Scene.{Temps}
use Rattle.flat_code.specs.Shapes.{has_shape}
use Rattle.word_code.specs.Memory.{Memory}
use Rattle.word_code.specs.Words.{Vars}
use Rattle.word_lowering.specs.declared.homes.Waiter.{Waiter}
use Rattle.word_lowering.specs.WaitingCode.{waiter_at}
use Rattle.word_lowering.proofs.BaseValues.{temporary_here, temporary_away}
use Rattle.word_lowering.proofs.Blocks.{Blocks, AreLater, HasHeap}
use Rattle.word_lowering.proofs.Frames.{get_inside, get_other, length_set}
use Rattle.word_lowering.proofs.Gets.{SameTemps, frame_of_site, high_variable, kept_temps}
use Rattle.word_lowering.proofs.GoodHomes.{among_sites, held_of}
use Rattle.word_lowering.proofs.GoodRows.{IsLeftBeside, frames_then, later_ground_of, left_edit, left_good, worlds_on}
use Rattle.word_lowering.proofs.Keeping.{AmongCalls, call, Edit, New, Worlds, location_no_waiting, number_cases, place_no_waiting, same_numbers, to_home}
use Rattle.word_lowering.proofs.Keeping.{value_no_waiting, waiting_inside}
use Rattle.word_lowering.proofs.Lines.{Basis, IsGood, all_sites, changed_later, good_later, starts}
use Rattle.word_lowering.proofs.Options.{none_some}
use Rattle.word_lowering.proofs.OrdinalRuns.{AllSame}
use Rattle.word_lowering.proofs.Related.{AllFrames, Both, StandAt, body_of, called_by, store_of}
use Rattle.word_lowering.proofs.Scenes.{Call, IsItem, IsThere, Says, SaysAt, Store, StoredIn, address_of, house, looked, of_waiting}
use Rattle.word_lowering.proofs.ResizedWorlds.{frames_of, stack_of}
use Rattle.word_lowering.proofs.ShapeFacts.{of_numbers}
use Rattle.word_lowering.proofs.Sites.{AmongSites, Site}
use Rattle.word_lowering.proofs.SitesApart.{one_level}
use Rattle.word_lowering.proofs.Sources.{Lying}
use Rattle.word_lowering.proofs.Temporaries.{AreOnce, frame_set, frame_waits, slots_alike, stays_none, with_once}
use Rattle.word_lowering.proofs.ValueFacts.{value_plain}

module _ (x : Basis) (g : Both) (line : BlockLine) (rest : List BlockLine) (y : IsGood x (starts g line rest)) (lo : Site)
    (among : AmongSites lo (all_sites x g line rest y)) (node : ℕ) (there : IsThere lo (of_waiting node)) (new : Value) where
  abbrev sites : List Site
  sites = all_sites x g line rest y

  abbrev now : List Temporary
  now = (frame_at g.world lo.level).temporaries

  abbrev then_now : List Temporary
  then_now = with_temporary_in now node (Holds new)

  -- ---- the world

  abbrev pub put_waiting : World
  put_waiting = with_temporary g.world lo.level node (Holds new)

  level_there : lo.level < length g.world.frames
  level_there = let f = frame_of_site x sites y.linked g.world sites lo y.frames among in get_inside g.world.frames lo.level f.frame f.there

  frame_now : frame_at put_waiting lo.level ≡ record (frame_at g.world lo.level) { temporaries = then_now }
  frame_now = frame_set g.world lo.level level_there then_now

  elsewhere : (l : ℕ) → l ≢ lo.level → frame_at put_waiting l ≡ frame_at g.world l
  elsewhere l ne = ap frame_in (get_other g.world.frames lo.level (record (frame_at g.world lo.level) { temporaries = then_now }) l ne)

  pub waiting_worlds : Worlds x.table x.blocks x.small sites y.linked lo (of_waiting node) g.world put_waiting
  waiting_worlds = record {
    slots = λ s n i other away. slots_alike g.world lo.level then_now s.level n;
    more = λ s n i other h. (h.0, slots_alike g.world lo.level then_now s.level n ∙ h.1);
    roots = λ s n i other h k. ap (through_slot (Standing s.level n)) (slots_alike g.world lo.level then_now s.level n);
    waits = λ s m i away. waits s.level m away (number_cases s.level lo.level);
    once = λ s i h. once_at s.level h (number_cases s.level lo.level);
    hand = refl;
  }
    where
      waits : (l m : ℕ) → (l ≢ lo.level) ⊎ (of_waiting m ≢ of_waiting node) → (l ≡ lo.level) ⊎ (l ≢ lo.level)
          → temporary_at put_waiting l m ≡ temporary_at g.world l m
      waits l m away (inr ne) = ap (λ (f : Frame). temporary_in f.temporaries m) (elsewhere l ne)
      waits l m (inl ne) (inl e) = absurd (ne e)
      waits l m (inr ne) (inl e) =
          subst (λ k. temporary_at put_waiting k m ≡ temporary_at g.world k m) (sym e)
          (ap (λ (f : Frame). temporary_in f.temporaries m) frame_now ∙ temporary_away now node m (Holds new) (λ f. ne (ap of_waiting f)))

      once_at : (l : ℕ) → AreOnce (frame_at g.world l).temporaries → (l ≡ lo.level) ⊎ (l ≢ lo.level) → AreOnce (frame_at put_waiting l).temporaries
      once_at l h (inr ne) = subst (λ (f : Frame). AreOnce f.temporaries) (sym (elsewhere l ne)) h
      once_at l h (inl e) =
          subst (λ k. AreOnce (frame_at put_waiting k).temporaries) (sym e)
          (subst (λ (f : Frame). AreOnce f.temporaries) (sym frame_now)
          (with_once now node (Holds new) (subst (λ k. AreOnce (frame_at g.world k).temporaries) e h)))

  frames_at : (some : List Site) → AllFrames x.table x.blocks g.world some → AllFrames x.table x.blocks put_waiting some
  frames_at [] f = tt
  frames_at (s ∷ some) f = (frame_waits g.world lo.level then_now s.level s.body.proc.first s.body.proc.span f.0, frames_at some f.1)

  pub waiting_frames : AllFrames x.table x.blocks put_waiting sites
  waiting_frames = frames_at sites y.frames

  pub waiting_levels : length put_waiting.frames ≡ length sites
  waiting_levels = length_set g.world.frames lo.level (record (frame_at g.world lo.level) { temporaries = then_now }) ∙ y.levels

  -- what waits there then: the new value where something did, or nothing still
  abbrev pub Awaits : Option Slot → Type 0
  Awaits slot = ((old : Value) × (temporary_at g.world lo.level node ≡ Some (Holds old)) × (slot ≡ Some (Holds new)))
      ⊎ ((temporary_at g.world lo.level node ≡ None) × (slot ≡ None))

  pub waiting_new : (old : Value) → temporary_at g.world lo.level node ≡ Some (Holds old) → temporary_at put_waiting lo.level node ≡ Some (Holds new)
  waiting_new old e = ap (λ (f : Frame). temporary_in f.temporaries node) frame_now ∙ temporary_here now node (Holds new) (Holds old) e

  pub waiting_none : temporary_at g.world lo.level node ≡ None → temporary_at put_waiting lo.level node ≡ None
  waiting_none e = ap (λ (f : Frame). temporary_in f.temporaries node) frame_now ∙ stays_none now node (Holds new) node e

  -- ---- calls

  -- the variable of the running call says what it did
  pub says_here : (vars : Vars) → AllSame g.call.vars vars
      → SaysAt (waiter_at node g.call.site.body.own.waiters) (temporary_at g.world g.call.site.level node) g.call.site.base vars
  says_here vars kept = by (waiter_at node g.call.site.body.own.waiters) refl (y.hold.0.waits node)
    where
      by : (o : Option Waiter) → waiter_at node g.call.site.body.own.waiters ≡ o
          → SaysAt o (temporary_at g.world g.call.site.level node) g.call.site.base g.call.vars
          → SaysAt o (temporary_at g.world g.call.site.level node) g.call.site.base vars
      by None is h = h
      by (Some w) is h =
          subst (λ word. Says (temporary_at g.world g.call.site.level node) word (g.call.site.base + w.at))
          (sym (kept.others w.variable (y.linked.0.waiting.variable node w is))) h

  module _ (k : Store) (w : World) (so : Awaits (temporary_at w lo.level node))
      (stored : temporary_at w lo.level node ≡ Some (Holds new)
      → (of_numbers (looked x.table lo (of_waiting node)) ≡ true → has_shape new (looked x.table lo (of_waiting node)) ≡ true)
      × StoredIn k (address_of lo.base (house lo (of_waiting node)).home) (looked x.table lo (of_waiting node)) new) where
    item_then : (temps : Temps) (vars : Vars) (u : Value) → temporary_at w lo.level node ≡ Some (Holds u)
        → IsItem x.table k (call lo temps vars) (of_waiting node) u
    item_then temps vars u h = by so
      where
        by : Awaits (temporary_at w lo.level node) → IsItem x.table k (call lo temps vars) (of_waiting node) u
        by (inr none) = absurd (none_some (Holds u) (sym none.1 ∙ h))
        by (inl q) =
            let s = stored q.2 in
            let plain = value_plain (house lo (of_waiting node)) there.kind in
            subst (λ z. IsItem x.table k (call lo temps vars) (of_waiting node) z) (ap awaited (sym q.2 ∙ h)) (record {
              there = there;
              plain = plain;
              shaped = s.0;
              at = to_home k lo.base vars (looked x.table lo (of_waiting node)) (house lo (of_waiting node)) new plain (waiting_inside lo node there) s.1;
            })

    says_then : (vars : Vars) → SaysAt (waiter_at node lo.body.own.waiters) (temporary_at g.world lo.level node) lo.base vars
        → SaysAt (waiter_at node lo.body.own.waiters) (temporary_at w lo.level node) lo.base vars
    says_then vars h =
        subst (λ o. SaysAt o (temporary_at w lo.level node) lo.base vars) (sym there.among.1)
        (by so (subst (λ o. SaysAt o (temporary_at g.world lo.level node) lo.base vars) there.among.1 h))
      where
        by : Awaits (temporary_at w lo.level node)
            → Says (temporary_at g.world lo.level node) (vars there.among.0.variable) (lo.base + there.among.0.at)
            → Says (temporary_at w lo.level node) (vars there.among.0.variable) (lo.base + there.among.0.at)
        by (inl q) s =
            subst (λ o. Says o (vars there.among.0.variable) (lo.base + there.among.0.at)) (sym q.2)
            (subst (λ o. Says o (vars there.among.0.variable) (lo.base + there.among.0.at)) q.1 s)
        by (inr q) s =
            subst (λ o. Says o (vars there.among.0.variable) (lo.base + there.among.0.at)) (sym q.1)
            (subst (λ o. Says o (vars there.among.0.variable) (lo.base + there.among.0.at)) q.0 s)

    pub new_waiting : (c : Call) (from : List Site) → AmongSites c.site sites → c.site.level ≡ lo.level
        → SaysAt (waiter_at node c.site.body.own.waiters) (temporary_at g.world c.site.level node) c.site.base c.vars
        → New x.table x.blocks x.small sites y.linked lo (of_waiting node) k w from c
    new_waiting c from i e says =
        let same : c.site ≡ lo = one_level x.table x.blocks sites c.site lo y.linked i among e in
        subst (λ (z : Site). New x.table x.blocks x.small sites y.linked lo (of_waiting node) k w from (call z c.temps c.vars)) (sym same) (record {
          item = λ u th h. item_then c.temps c.vars u h;
          text = λ t n j z q a h. absurd (value_no_waiting t node q);
          led = λ t where_it q n h. absurd (location_no_waiting t node q);
          filled = λ n q h. absurd (place_no_waiting n node q);
          waits = λ m q. subst (λ j. SaysAt (waiter_at j lo.body.own.waiters) (temporary_at w lo.level j) lo.base c.vars)
              (sym (same_numbers (of_waiting m) (of_waiting node) q))
              (says_then c.vars (subst (λ (z : Site). SaysAt (waiter_at node z.body.own.waiters) (temporary_at g.world z.level node) z.base c.vars) same says));
        })

    pub new_running : (temps : Temps) (vars : Vars) → AllSame g.call.vars vars → g.call.site.level ≡ lo.level
        → New x.table x.blocks x.small sites y.linked lo (of_waiting node) k w sites (call g.call.site temps vars)
    new_running temps vars kept e = new_waiting (call g.call.site temps vars) sites (inl refl) e (says_here vars kept)

    pub new_caller : (c : Call) (from : List Site) → AmongCalls c (map called_by g.waiting) → c.site.level ≡ lo.level
        → New x.table x.blocks x.small sites y.linked lo (of_waiting node) k w from c
    new_caller c from i e =
        new_waiting c from (inr (among_sites (map called_by g.waiting) c i)) e
        ((held_of x (store_of g) g.world (map called_by g.waiting) c y.hold.1 i).1.waits node)

  -- ---- all of it, where memory is other than it was in a range of the home, in the heap and in its data

  module _ (later : Blocks) (ahead : AreLater g.ground.blocks later) (other : Memory) (to n : ℕ) (l : IsLeftBeside x g line rest y other to n)
      (lying : Lying x sites y.linked to n) (is_site : lying.site ≡ lo) (is_name : lying.name ≡ of_waiting node)
      (w : World) (same : stack_of w ≡ stack_of put_waiting) (so : Awaits (temporary_at w lo.level node))
      (has : HasHeap (λ place text. g.ground.fixed place text ≡ true) later w.heap other)
      (stored : temporary_at w lo.level node ≡ Some (Holds new)
      → (of_numbers (looked x.table lo (of_waiting node)) ≡ true → has_shape new (looked x.table lo (of_waiting node)) ≡ true)
      × StoredIn (record { memory = other; ground = later_ground_of x g line rest y later }) (address_of lo.base (house lo (of_waiting node)).home)
      (looked x.table lo (of_waiting node)) new) where
    waiting_edit : Edit x.table x.blocks x.small sites y.linked lo (of_waiting node) g.memory other
    waiting_edit =
        subst (λ (s : Site). Edit x.table x.blocks x.small sites y.linked s (of_waiting node) g.memory other) is_site
        (subst (λ e. Edit x.table x.blocks x.small sites y.linked lying.site e g.memory other) is_name (left_edit x g line rest y other to n l lying))

    abbrev store_then : Store
    store_then = record { memory = other; ground = later_ground_of x g line rest y later }

    pub good_waiting_put : (after : List BlockLine) → StandAt x.table x.blocks (body_of g) after → (temps : Temps) → SameTemps x g line rest y temps
        → (vars words : Vars) (awaits : ℕ) → AllSame g.call.vars vars
        → IsGood x (changed_later g after temps vars other words awaits w (later_ground_of x g line rest y later) w.input)
    good_waiting_put after stand temps same_temps vars words awaits kept =
        good_later x g line rest y after lo (of_waiting node) temps vars other words awaits w (later_ground_of x g line rest y later) w.input
        (left_good x g line rest y other to n l (inl lying)) has refl (record { blocks = ahead; fixed = refl }) waiting_edit
        (worlds_on x g line rest y put_waiting w same lo (of_waiting node) waiting_worlds)
        (kept_temps x g line rest y lo (of_waiting node) temps vars same_temps
        (λ h u i away home. kept.others u (high_variable x g line rest y h u i home)) kept.left)
        (λ e. new_running store_then w so stored temps vars kept e)
        (λ c from i e. new_caller store_then w so stored c from i e)
        (frames_then x g line rest y put_waiting w same sites waiting_frames)
        (ap length (frames_of w put_waiting same) ∙ waiting_levels) stand
