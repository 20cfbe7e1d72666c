-- A call that begins: its parameters have what was given, and nothing else has a value yet.
use Rattle.std.proofs.Common.{◌≡◌, inl, inr, ℕ, suc, ◌+◌, ◌-◌, ◌<◌, ◌≤◌, List, [], ◌∷◌, ◌++◌, length, Some, true, false, None}
use Rattle.std.proofs.Common.{refl, sym, ap, subst, ◌∙◌, arith, length-append, append-nil}
use Rattle.std.specs.Prelude.{slice_get}
use Rattle.nim_meaning.specs.Values.{Value, Location, Slot, Holds, Stands, Lends}
use Rattle.nim_meaning.specs.State.{World, Frame, with_frame, slot_at, temporary_in, temporary_at, frame_at, frame_in}
use Rattle.flat_code.specs.declared.block.BlockLine.{BlockLine}
use Rattle.flat_code.specs.Codes.{proc_of}
use Rattle.flat_code.specs.Fits.{Signature}
use Rattle.flat_code.specs.Running.{frame_of}
use Rattle.flat_code.specs.Scene.{no_temps}
use Rattle.flat_code.specs.Shapes.{Shape}
use Rattle.word_code.specs.Words.{Vars}
use Rattle.word_lowering.specs.declared.homes.TheConstants.{LEFT, OWN_FROM}
use Rattle.word_lowering.specs.declared.homes.Home.TheVariants.{Variable}
use Rattle.word_lowering.specs.declared.homes.Housed.{Housed}
use Rattle.word_lowering.specs.declared.texts.TheConstants.{FIXED_BYTES}
use Rattle.word_lowering.specs.Layouts.{params_in, holds_address, kept_in}
use Rattle.word_lowering.specs.LineCode.{variable_in, variable_of}
use Rattle.word_lowering.specs.Spots.{spot_of}
use Rattle.word_lowering.proofs.CallersHold.{filled_get, filled_long, frames_then, get_last, slot_last, slot_then}
use Rattle.word_lowering.proofs.Callees.{Callee}
use Rattle.word_lowering.proofs.FirstPlaces.{GivenAt, GaveSlot, Gave, given_here, given_long, slots_of}
use Rattle.word_lowering.proofs.Frames.{get_inside}
use Rattle.word_lowering.proofs.Keeping.{call, declared_address, spot_held, to_home}
use Rattle.word_lowering.proofs.Lines.{Basis, IsGood, known, starts}
use Rattle.word_lowering.proofs.MovedLines.{own_plain}
use Rattle.word_lowering.proofs.Options.{none_some}
use Rattle.word_lowering.proofs.Related.{AllFrames, Both, body_of, calls_of, sites_of, store_with}
use Rattle.word_lowering.proofs.Scenes.{address_of, AtHome, Call, FromPlace, HasValue, Holding, house, IsFilled, IsItem, IsThere, looked, Name, ReachesHere}
use Rattle.word_lowering.proofs.Scenes.{of_location, StoredIn}
use Rattle.word_lowering.proofs.Scenes.{of_place, of_value, StandsFor, of_waiting}
use Rattle.word_lowering.proofs.ShapeFacts.{never}
use Rattle.word_lowering.proofs.Sites.{Housing, by_address, in_data, in_places, in_variable, data_end, InMemory, Linked, room, Site}
use Rattle.word_lowering.proofs.SitesApart.{houses}
use Rattle.word_code.specs.Memory.{Memory}
use Rattle.word_lowering.proofs.Temporaries.{AreOnce}
use Rattle.word_lowering.proofs.Waiting.{none_says}
use Rattle.word_lowering.specs.WaitingCode.{waiter_at}
use Rattle.word_lowering.specs.declared.homes.Waiter.{Waiter}

module _ (x : Basis) (g : Both) (line : BlockLine) (rest : List BlockLine) (y : IsGood x (starts g line rest)) {proc : ℕ} {s : Signature}
    (c : Callee x.table x.blocks proc s) (m : Memory) (slots : List Slot)
    (gave : Gave x.table x.blocks m (sites_of g) g.ground g.world g.words (g.call.site.base + room (body_of g)) slots (params_in c.body.own.all))
    (left : ℕ) (e : g.call.site.left ≡ suc left) where
  abbrev all : List Housed
  all = c.body.own.all

  abbrev pub limit : ℕ
  limit = OWN_FROM + kept_in (params_in all)

  -- its frame, where its result has these slots
  abbrev pub frame_with : (result : List Slot) → Frame
  frame_with result = frame_of (record (proc_of (known x) c.body.proc) { result = result }) slots

  abbrev pub site_then : Site
  site_then = record {
    body = c.body;
    level = suc g.call.site.level;
    base = g.call.site.base + room (body_of g);
    left = left;
  }

  abbrev pub sites_then : List Site
  sites_then = site_then ∷ sites_of g

  -- only the parameters are filled yet
  abbrev pub world_first : World
  world_first = with_frame g.world (frame_with [])

  pub level_is : suc g.call.site.level ≡ length (sites_of g)
  level_is = ap suc y.linked.2

  pub level_last : suc g.call.site.level ≡ length g.world.frames
  level_last = level_is ∙ sym y.levels

  pub linked_then : Linked x.table x.blocks sites_then
  linked_then = (c.is, c.start, level_is, (let h = y.linked.3 in omega (arith, h, e)), refl, y.linked)

  -- ---- frames

  pub params_long : length slots ≡ length (params_in all)
  params_long = given_long x.table x.blocks m (sites_of g) g.ground g.world g.words (g.call.site.base + room (body_of g)) slots (params_in all) gave

  pub slots_few : length slots + length (slots_of x.table c.body) ≤ c.body.proc.span
  slots_few = let l = params_long in let f = c.orderly.few in omega (arith, l, f)

  frame_long : length (frame_with []).slots ≡ c.body.proc.span
  frame_long = filled_long c.body.proc.span (slots ++ [])
      (let a = length-append slots [] in let f = slots_few in omega (arith, a, f))

  pub all_frames_then : AllFrames x.table x.blocks world_first sites_then
  all_frames_then = (
    record {
      frame = frame_with [];
      there = ap (slice_get (g.world.frames ++ frame_with [] ∷ [])) level_last ∙ get_last g.world.frames (frame_with []);
      begins = refl;
      slots = frame_long;
    },
    frames_then x (calls_of g) y.linked g.world (frame_with []) y.levels (sites_of g) (λ s i. i) y.frames,
  )

  pub levels_then : length world_first.frames ≡ length sites_then
  levels_then = let a = length-append g.world.frames (frame_with [] ∷ []) in let l = y.levels in omega (arith, a, l)

  -- ---- the parameters

  -- a filled place is a parameter
  record IsParameter (n : ℕ) (slot : Slot) : Type 0 where
    below : (v : ℕ) → (house site_then (of_place n)).home ≡ Variable v → v < limit
    gave_it : GaveSlot x.table x.blocks m (sites_of g) g.ground g.world g.words (g.call.site.base + room (body_of g)) slot (house site_then (of_place n))

  parameter : (n : ℕ) (slot : Slot) → IsThere site_then (of_place n) → slot_at world_first (suc g.call.site.level) n ≡ Some slot → IsParameter n slot
  parameter n slot there h =
      let inside = c.is.inside n (record { among = there.among; number = there.number; kind = there.kind }) in
      let i : ℕ = n - c.body.proc.first in
      let got : slice_get (slots ++ []) i ≡ Some slot = filled_get c.body.proc.span (slots ++ []) i slot
      (sym (slot_last g.world (frame_with []) (suc g.call.site.level) n level_last) ∙ h) in
      let has : slice_get slots i ≡ Some slot = sym (ap (λ l. slice_get l i) (append-nil slots)) ∙ got in
      let r = given_here x.table x.blocks m (sites_of g) g.ground g.world g.words (g.call.site.base + room (body_of g)) all limit slots (params_in all)
      c.body.proc.first i n gave c.orderly.params (get_inside slots i slot has) (omega (arith, inside.0)) in
      let same : r.slot ≡ slot = some_is r.slot (sym r.is ∙ has) in
      record {
        below = r.first.below;
        gave_it = subst (λ z. GaveSlot x.table x.blocks m (sites_of g) g.ground g.world g.words (g.call.site.base + room (body_of g)) z
            (house site_then (of_place n)))
            same r.gave;
      }
    where
      some_is : (a : Slot) → Some a ≡ Some slot → a ≡ slot
      some_is a f = cc

  -- variables that the caller handed on
  pub record VarsThen (vars : Vars) : Type 0 where
    pub left_is : vars LEFT ≡ Some left
    pub handed : (v : ℕ) → OWN_FROM ≤ v → v < limit → vars v ≡ g.words v
    -- and nothing waits
    pub zeros : (node : ℕ) (w : Waiter) → waiter_at node c.body.own.waiters ≡ Some w → vars w.variable ≡ Some 0

  module _ (vars : Vars) (is : VarsThen vars) where
    abbrev call_then : Call
    call_then = call site_then no_temps vars

    -- a parameter with a value of its own
    value_item : (n : ℕ) (u : Value) → IsThere site_then (of_place n) → IsParameter n (Holds u)
        → IsItem x.table (store_with g m) call_then (of_place n) u
    value_item n u there r = record {
      there = there;
      plain = r.gave_it.plain;
      shaped = λ asked. r.gave_it.shaped;
      at = by r.gave_it.plain r.gave_it.given (houses x.table x.blocks site_then (of_place n) c.is there).where_is;
    }
      where
        by : holds_address (house site_then (of_place n)) ≡ false
            → GivenAt x.table x.blocks m (sites_of g) g.ground g.world g.words (g.call.site.base + room (body_of g))
            (looked x.table site_then (of_place n)) (house site_then (of_place n)).home u
            → Housing (room c.body) FIXED_BYTES (data_end x.table x.blocks) c.body.start (house site_then (of_place n))
            → AtHome (store_with g m) (g.call.site.base + room (body_of g)) vars (looked x.table site_then (of_place n))
            (spot_of (house site_then (of_place n))) u
        by plain given (in_variable v home p low is_word) =
            subst (λ z. AtHome (store_with g m) (g.call.site.base + room (body_of g)) vars (looked x.table site_then (of_place n)) z u)
            (sym (spot_held (house site_then (of_place n)) v plain home))
            (is.handed v low (r.below v home)
            ∙ subst (λ z. GivenAt x.table x.blocks m (sites_of g) g.ground g.world g.words (g.call.site.base + room (body_of g))
            (looked x.table site_then (of_place n)) z u) home given)
        by plain given (by_address v home address low) = never (sym plain ∙ address)
        by plain given (in_places at home p whole within) =
            to_home (store_with g m) (g.call.site.base + room (body_of g)) vars (looked x.table site_then (of_place n)) (house site_then (of_place n)) u plain
            (subst InMemory (sym home) tt)
            (subst (λ z. StoredIn (store_with g m) (address_of (g.call.site.base + room (body_of g)) z) (looked x.table site_then (of_place n)) u) (sym home)
            (subst (λ z. GivenAt x.table x.blocks m (sites_of g) g.ground g.world g.words (g.call.site.base + room (body_of g))
            (looked x.table site_then (of_place n)) z u) home given))
        by plain given (in_data at home p whole low within start) = never (sym c.start ∙ start)

    -- a location that leads to a place of a caller
    from_then : (location : Location) (a : ℕ) (t : Shape) → FromPlace x.table (sites_of g) g.world location a t
        → FromPlace x.table sites_then world_first location a t
    from_then location a t f = record {
      site = f.site;
      among = inr f.among;
      number = f.number;
      base = f.base;
      filled = (f.filled.0, slot_then x (calls_of g) y.linked g.world (frame_with []) y.levels f.site f.number f.among ∙ f.filled.1);
      there = f.there;
      home = f.home;
      offset = f.offset;
      path = f.path;
      address = f.address;
    }

    leads_then : (location : Location) (a : ℕ) (t : Shape) → ReachesHere x.table x.blocks (sites_of g) g.ground g.world location a t
        → ReachesHere x.table x.blocks sites_then g.ground world_first location a t
    leads_then location a t (inl (inl f)) = inl (inl (from_then location a t f))
    leads_then location a t (inl (inr (inl f))) = inl (inr (inl f))
    leads_then location a t (inl (inr (inr (inl f)))) = inl (inr (inr (inl f)))
    leads_then location a t (inl (inr (inr (inr f)))) = inl (inr (inr (inr (record {
      site = f.site;
      among = inr f.among;
      node = f.node;
      base = f.base;
      there = f.there;
      offset = f.offset;
      path = f.path;
      address = f.address;
    }))))
    leads_then location a t (inr f) = inr f

    location_stands : (n : ℕ) (l : Location) → IsThere site_then (of_place n) → slot_at world_first (suc g.call.site.level) n ≡ Some (Stands l)
        → IsParameter n (Stands l) → StandsFor x.table x.blocks sites_then g.ground world_first call_then n
    location_stands n l there slot r =
        record {
          location = l;
          slot = slot;
          address = r.gave_it.address;
          holds = by r.gave_it.address r.gave_it.variable r.gave_it.home r.gave_it.by_address r.gave_it.given
              (houses x.table x.blocks site_then (of_place n) c.is there).where_is;
          stood = r.gave_it.stood;
          leads = leads_then l r.gave_it.address (looked x.table site_then (of_place n)) r.gave_it.leads;
        }
      where
        by : (a v : ℕ) → (house site_then (of_place n)).home ≡ Variable v → holds_address (house site_then (of_place n)) ≡ true
            → g.words v ≡ Some a
            → Housing (room c.body) FIXED_BYTES (data_end x.table x.blocks) c.body.start (house site_then (of_place n))
            → vars (variable_of (house site_then (of_place n))) ≡ Some a
        by a v home address given (in_variable u h plain low is_word) = never (sym plain ∙ address)
        by a v home address given (by_address u h k low) =
            ap vars (ap variable_in home)
            ∙ is.handed v (subst (λ z. OWN_FROM ≤ z) (ap variable_in (sym h ∙ home)) low) (r.below v home) ∙ given
        by a v home address given (in_places at h plain whole within) = never (sym plain ∙ address)
        by a v home address given (in_data at h plain whole low within start) = never (sym plain ∙ address)

    -- what a slot has
    slot_filled : (n : ℕ) (slot : Slot) → IsThere site_then (of_place n) → slot_at world_first (suc g.call.site.level) n ≡ Some slot
        → IsParameter n slot → IsFilled x.table x.blocks sites_then g.ground world_first call_then n
    slot_filled n (Holds u) there h r = record {
      own = λ own. (u, h);
      other = λ other. never (sym r.gave_it.plain ∙ declared_address (house site_then (of_place n)) there.kind other);
    }
    slot_filled n (Stands l) there h r = record {
      own = λ own. never (sym (own_plain (house site_then (of_place n)) own) ∙ r.gave_it.by_address);
      other = λ other. location_stands n l there h r;
    }
    slot_filled n (Lends u from seen) there h r = absurd r.gave_it

    -- nothing waits in it yet
    frame_last : frame_at world_first (suc g.call.site.level) ≡ frame_with []
    frame_last = ap frame_in (ap (slice_get (g.world.frames ++ frame_with [] ∷ [])) level_last ∙ get_last g.world.frames (frame_with []))

    none_waiting : (node : ℕ) → temporary_at world_first (suc g.call.site.level) node ≡ None
    none_waiting node = ap (λ (f : Frame). temporary_in f.temporaries node) frame_last

    pub holding_then : Holding x.table x.blocks (store_with g m) world_first sites_then call_then
    holding_then = record {
      items = items;
      texts = λ t behind size u named text h. absurd (none_some u h);
      led = λ t there named h. absurd (none_some there h);
      filled = λ n there h. slot_filled n h.0 there h.1 (parameter n h.0 there h.1);
      left = λ h. is.left_is;
      waits = λ node. none_says node c.body.own.waiters (temporary_at world_first (suc g.call.site.level) node) (g.call.site.base + room (body_of g)) vars
          (none_waiting node) (is.zeros node);
      once = subst (λ (f : Frame). AreOnce f.temporaries) (sym frame_last) tt;
    }
      where
        items : (f : Name) (u : Value) → IsThere site_then f → HasValue world_first call_then f u → IsItem x.table (store_with g m) call_then f u
        items (of_value t) u there h = absurd (none_some u h)
        items (of_location t) u there h = absurd h
        items (of_place n) u there h = value_item n u there (parameter n (Holds u) there h)
        items (of_waiting node) u there h = absurd (none_some (Holds u) (sym (none_waiting node) ∙ h))
