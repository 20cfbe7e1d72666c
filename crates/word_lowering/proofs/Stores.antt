-- A part of what a place of any call holds, or of an element in a block, gets another value that is made of numbers: what is true then.
use Rattle.std.proofs.Common.{◌≡◌, ◌⊎◌, inl, inr, ℕ, ◌+◌, ◌≤◌, List, length, Some, true, refl, sym, ap, subst, ◌∙◌, arith, None}
use Rattle.word_lowering.proofs.ResizedWorlds.{stack_of}
use Rattle.rv32_isa.specs.Image.{heap_at}
use Rattle.nim_meaning.specs.Values.{Value, bytes, Location, Holds, put_part, Waiting}
use Rattle.nim_meaning.specs.State.{World, slot_at, whole_at, stored, store, held, is_there, awaited, temporary_at}
use Rattle.flat_code.specs.declared.block.BlockLine.{BlockLine}
use Rattle.flat_code.specs.Scene.{Temps}
use Rattle.flat_code.specs.Shapes.{Shape, has_shape}
use Rattle.word_code.specs.Memory.{Memory}
use Rattle.word_code.specs.RoutineTable.{Beside, IsRewritten}
use Rattle.word_code.specs.Words.{Vars}
use Rattle.word_code.proofs.ForCallers.{Changed, changed_rewritten}
use Rattle.word_lowering.proofs.BaseValues.{IsOwn}
use Rattle.word_lowering.proofs.BlockHomes.{IsAtHome}
use Rattle.word_lowering.proofs.BlockWrites.{Put, MayPut, put_at}
use Rattle.word_lowering.proofs.Blocks.{Stored}
use Rattle.word_lowering.proofs.BlockPaths.{leads_later}
use Rattle.word_lowering.proofs.BlockRanges.{block_range}
use Rattle.word_lowering.proofs.Gets.{SameTemps, heap_kept, high_variable, kept_temps, memory_kept}
use Rattle.word_lowering.proofs.GoodHomes.{HomeOf, homes_apart, good_homes}
use Rattle.word_lowering.proofs.GoodLeads.{OwnHome, own_home, home_of, owned_to, FromGone, WaitingHome, home_waiting, waiting_home_of}
use Rattle.word_lowering.proofs.GoodRows.{IsLeftBeside, later_ground_of, good_aside, good_place_put}
use Rattle.word_lowering.proofs.InMemory.{IsAt}
use Rattle.word_lowering.proofs.Lines.{Basis, IsGood, all_sites, changed_later, starts, good_changed, changed}
use Rattle.word_lowering.proofs.Located.{place_lying, waiting_lying}
use Rattle.word_lowering.proofs.NumbersStored.{at_numbers}
use Rattle.word_lowering.proofs.OrdinalRuns.{AllSame}
use Rattle.word_lowering.proofs.PlaceWorlds.{put_world, slot_new}
use Rattle.word_lowering.proofs.Related.{Both, StandAt, body_of, store_with}
use Rattle.word_lowering.proofs.Scenes.{is_fixed, Ground, address_of, of_place, house, looked, FromBlock, FromOwned, FromPlace, FromWaiting, FromWaits}
use Rattle.word_lowering.proofs.ShapeFacts.{of_numbers, bytes_is, shape_bytes}
use Rattle.word_lowering.proofs.ShapePaths.{path_put}
use Rattle.word_lowering.proofs.Sites.{Site, next_base}
use Rattle.word_lowering.proofs.Sources.{Lying}
use Rattle.word_lowering.proofs.Keeping.{Edit, outside_still, somewhere, waiting_inside}
use Rattle.word_lowering.proofs.GoodWaiting.{good_waiting_put, new_caller, new_running, put_waiting, waiting_frames, waiting_levels, waiting_new, waiting_none}
use Rattle.word_lowering.proofs.Options.{none_some}
use Rattle.word_lowering.proofs.Scenes.{of_waiting}
use Rattle.word_lowering.proofs.GoodWaiting.{waiting_worlds}
use Rattle.word_lowering.proofs.SitesApart.{IsPlace}
use Rattle.word_lowering.proofs.StillLed.{places_still, waits_still}

-- two values of one slot
held_same : (w : World) (level n : ℕ) (u v : Value) → slot_at w level n ≡ Some (Holds u) → slot_at w level n ≡ Some (Holds v) → u ≡ v
held_same w level n u v e f = ap held (sym e ∙ f)

module _ (x : Basis) (g : Both) (line : BlockLine) (rest : List BlockLine) (y : IsGood x (starts g line rest)) where
  abbrev sites : List Site
  sites = all_sites x g line rest y

  abbrev here : Both
  here = starts g line rest

  abbrev pub Owns : Location → (a : ℕ) → Shape → Type 0
  Owns l a t = FromOwned x.table sites g.ground g.world l a t

  module _ (l : Location) (a : ℕ) (t : Shape) (numbers : of_numbers t ≡ true) (live : is_there g.world l ≡ true) (v : Value)
      (shaped : has_shape v t ≡ true) (m : Memory) (ch : Changed g.memory m a (bytes v)) (at : IsAt m a v) where
    size : bytes v ≡ shape_bytes t
    size = bytes_is v t numbers shaped

    rewritten : IsRewritten g.memory m a (shape_bytes t)
    rewritten = subst (λ n. IsRewritten g.memory m a n) size (changed_rewritten g.memory m a (bytes v) ch)

    stands : Stored (is_fixed g.ground) g.ground.blocks m a t v
    stands = at_numbers (is_fixed g.ground) g.ground.blocks m a t v numbers shaped at

    may_put : (f : Owns l a t) → MayPut (is_fixed g.ground) (HomeOf x here) (homes_apart x here y) g.ground.blocks g.world g.memory (good_homes x here y) m
        ch.sized l a t v rewritten stands (owned_to x here y l a t f)
    may_put (inl f) = subst IsOwn (sym f.base) tt
    may_put (inr (inl f)) = tt
    may_put (inr (inr f)) = subst IsOwn (sym f.from.base) tt

    -- homes and blocks then
    pub put_there : (f : Owns l a t)
        → Put (is_fixed g.ground) (HomeOf x here) (homes_apart x here y) g.ground.blocks g.world g.memory (good_homes x here y) l v m
    put_there f =
        put_at (is_fixed g.ground) (HomeOf x here) (homes_apart x here y) g.ground.blocks g.world g.memory (good_homes x here y) m ch.sized l a t v rewritten
        stands (owned_to x here y l a t f) (may_put f) live

    abbrev pub ground_then : Owns l a t → Ground
    ground_then f = later_ground_of x g line rest y (put_there f).after

    abbrev pub Written_then : Owns l a t → List BlockLine → Type 0
    Written_then f after = (temps : Temps) → SameTemps x g line rest y temps → (vars words : Vars) (awaits : ℕ) → AllSame g.call.vars vars
        → IsGood x (changed_later g after temps vars m words awaits (store g.world l v) (ground_then f) g.input)

    beside_place : IsLeftBeside x g line rest y m a (bytes v)
    beside_place = record { sized = ch.sized; sizes = ch.sizes; beside = λ b k own heap put. ch.beside b k put }

    -- ---- of a place

    module _ (f : FromPlace x.table sites g.world l a t) where
      own : OwnHome x here y f.site f.number
      own = own_home x here y f.site f.number f.among f.filled f.there f.home

      abbrev new : Value
      new = put_part own.value l.path v

      abbrev new_world : World
      new_world = put_world x g line rest y f.site f.among f.number f.there own.value own.slot new

      -- what block code does
      store_is : store g.world l v ≡ new_world
      store_is = ap (λ b. stored g.world b (put_part (whole_at g.world b) l.path v)) f.base
          ∙ ap (λ u. put_world x g line rest y f.site f.among f.number f.there own.value own.slot (put_part u l.path v)) (ap held own.slot)

      home_then : IsAtHome (is_fixed g.ground) (put_there (inl f)).after (store g.world l v) m (home_of x here y f.site f.number)
      home_then = (put_there (inl f)).holds.homes (home_of x here y f.site f.number) own.among

      stored_then : Stored (is_fixed g.ground) (put_there (inl f)).after m (address_of f.site.base (house f.site (of_place f.number)).home)
          (looked x.table f.site (of_place f.number)) new
      stored_then =
          let h = home_then in
          subst (λ u. Stored (is_fixed g.ground) (put_there (inl f)).after m (address_of f.site.base (house f.site (of_place f.number)).home)
          (looked x.table f.site (of_place f.number)) u)
          (held_same (store g.world l v) f.site.level f.number h.value new h.holds.1
          (ap (λ w. slot_at w f.site.level f.number) store_is ∙ slot_new x g line rest y f.site f.among f.number f.there own.value own.slot new))
          h.stored

      abbrev lying : Lying x sites y.linked a (bytes v)
      lying =
          let p = place_lying x here y l a t f in
          let high = p.high in
          let long = size in
          record {
            site = f.site;
            name = of_place f.number;
            among = f.among;
            there = f.there;
            home = f.home;
            low = p.low;
            high = omega (arith, high, long);
            whole = p.whole;
          }

      pub place_written : (after : List BlockLine) → StandAt x.table x.blocks (body_of g) after → Written_then (inl f) after
      place_written after stand temps same vars words awaits kept =
          subst (λ input. IsGood x (changed_later g after temps vars m words awaits (store g.world l v) (ground_then (inl f)) input))
          (ap (λ (w : World). w.input) store_is ∙ y.input)
          (good_place_put x g line rest y f.site f.among f.number f.there own.value own.slot new own.item.plain f.home
          (λ o. path_put own.value (looked x.table f.site (of_place f.number)) l.path f.offset t v o (own.item.shaped o) f.path shaped)
          (put_there (inl f)).after (put_there (inl f)).ahead m a (bytes v) beside_place lying refl refl (store g.world l v)
          (ap (λ (w : World). stack_of w) store_is) (put_there (inl f)).holds.heap stored_then after stand temps same vars words awaits kept)

    -- ---- of a block

    module _ (f : FromBlock g.ground l a t) where
      frames_stay : stack_of (store g.world l v) ≡ stack_of g.world
      frames_stay = ap (λ b. stack_of (stored g.world b (put_part (whole_at g.world b) l.path v))) f.base

      input_stays : (store g.world l v).input ≡ g.world.input
      input_stays = ap (λ b. (stored g.world b (put_part (whole_at g.world b) l.path v)).input) f.base

      in_heap : (heap_at ≤ a) × (a + shape_bytes t ≤ heap_at + length g.memory.heap)
      in_heap = block_range (is_fixed g.ground) (HomeOf x here) (homes_apart x here y) g.ground.blocks g.world g.memory (good_homes x here y) l a t
          (record { block = f.block; base = f.base; leads = f.leads }) live

      beside_none : IsLeftBeside x g line rest y m 0 0
      beside_none =
          let low = in_heap.0 in
          let high = in_heap.1 in
          let long = size in
          record {
            sized = ch.sized;
            sizes = ch.sizes;
            beside = λ b k own heap put. ch.beside b k (away b k heap low (omega (arith, high, long)));
          }
        where
          away : (b k : ℕ) → Beside b k heap_at (length g.memory.heap) → heap_at ≤ a → a + bytes v ≤ heap_at + length g.memory.heap
              → (b + k ≤ a) ⊎ (a + bytes v ≤ b)
          away b k (inl h) low high = inl (omega (arith, h, low))
          away b k (inr h) low high = inr (omega (arith, h, high))

      pub block_written : (after : List BlockLine) → StandAt x.table x.blocks (body_of g) after → Written_then (inr (inl f)) after
      block_written after stand temps same vars words awaits kept =
          subst (λ input. IsGood x (changed_later g after temps vars m words awaits (store g.world l v) (ground_then (inr (inl f))) input))
          (input_stays ∙ y.input)
          (good_aside x g line rest y after stand (put_there (inr (inl f))).after (put_there (inr (inl f))).ahead m beside_none (store g.world l v) frames_stay
          (put_there (inr (inl f))).holds.heap temps same vars words awaits kept)

    -- ---- of what waits

    abbrev waiting_range : (f : FromWaiting x.table sites l a t) → Lying x sites y.linked a (bytes v)
    waiting_range f =
        let p = waiting_lying x here y l a t f in
        let high = p.high in
        let long = size in
        record {
          site = f.site;
          name = of_waiting f.node;
          among = f.among;
          there = f.there;
          home = waiting_inside f.site f.node f.there;
          low = p.low;
          high = omega (arith, high, long);
          whole = p.whole;
        }

    module _ (f : FromWaits x.table sites g.world l a t) where
      waits_here : WaitingHome x here y f.from.site f.from.node f.value
      waits_here = home_waiting x here y f.from.site f.from.node f.value f.from.among f.from.there f.has

      abbrev waits_new : Value
      waits_new = put_part f.value l.path v

      abbrev waits_world : World
      waits_world = put_waiting x g line rest y f.from.site f.from.among f.from.node f.from.there waits_new

      waits_is : store g.world l v ≡ waits_world
      waits_is = ap (λ b. stored g.world b (put_part (whole_at g.world b) l.path v)) f.from.base
          ∙ ap (λ u. put_waiting x g line rest y f.from.site f.from.among f.from.node f.from.there (put_part u l.path v)) (ap awaited f.has)

      pub waits_then : temporary_at (store g.world l v) f.from.site.level f.from.node ≡ Some (Holds waits_new)
      waits_then =
          ap (λ w. temporary_at w f.from.site.level f.from.node) waits_is
          ∙ waiting_new x g line rest y f.from.site f.from.among f.from.node f.from.there waits_new f.value f.has

      waits_stored : Stored (is_fixed g.ground) (put_there (inr (inr f))).after m
          (address_of f.from.site.base (house f.from.site (of_waiting f.from.node)).home)
          (looked x.table f.from.site (of_waiting f.from.node)) waits_new
      waits_stored =
          let h = (put_there (inr (inr f))).holds.homes (waiting_home_of x here y f.from.site f.from.node) waits_here.among in
          subst (λ u. Stored (is_fixed g.ground) (put_there (inr (inr f))).after m
          (address_of f.from.site.base (house f.from.site (of_waiting f.from.node)).home) (looked x.table f.from.site (of_waiting f.from.node)) u)
          (ap awaited (sym h.holds.1 ∙ waits_then)) h.stored

      pub waits_written : (after : List BlockLine) → StandAt x.table x.blocks (body_of g) after → Written_then (inr (inr f)) after
      unfolding waiting_range
      waits_written after stand temps same vars words awaits kept =
          subst (λ input. IsGood x (changed_later g after temps vars m words awaits (store g.world l v) (ground_then (inr (inr f))) input))
          (ap (λ (w : World). w.input) waits_is ∙ y.input)
          (good_waiting_put x g line rest y f.from.site f.from.among f.from.node f.from.there waits_new
          (put_there (inr (inr f))).after (put_there (inr (inr f))).ahead m a (bytes v) beside_place (waiting_range f.from) refl refl (store g.world l v)
          (ap (λ (w : World). stack_of w) waits_is) (inl (f.value, f.has, waits_then)) (put_there (inr (inr f))).holds.heap
          (λ e. (
            λ o. path_put f.value (looked x.table f.from.site (of_waiting f.from.node)) l.path f.from.offset t v o (waits_here.shaped o) f.from.path shaped,
            waits_stored,
          ))
          after stand temps same vars words awaits kept)

    -- where nothing waits, nothing does then
    module _ (f : FromGone x here y l a t) where
      abbrev gone_value : Value
      gone_value = put_part (whole_at g.world (Waiting f.from.site.level f.from.node)) l.path v

      abbrev gone_world : World
      gone_world = put_waiting x g line rest y f.from.site f.from.among f.from.node f.from.there gone_value

      gone_is : store g.world l v ≡ gone_world
      gone_is = ap (λ b. stored g.world b (put_part (whole_at g.world b) l.path v)) f.from.base

      none_then : temporary_at gone_world f.from.site.level f.from.node ≡ None
      none_then = waiting_none x g line rest y f.from.site f.from.among f.from.node f.from.there gone_value f.none

      gone_edit : Edit x.table x.blocks x.small sites y.linked f.from.site (of_waiting f.from.node) g.memory m
      unfolding waiting_range
      gone_edit =
          let p = waiting_range f.from in
          somewhere a (bytes v) (outside_still (IsPlace x.table x.blocks) (next_base sites) g.memory m a (bytes v) ch.outside) f.from.among f.from.there
          (waiting_inside f.from.site f.from.node f.from.there) p.low p.high

      pub gone_written : (after : List BlockLine) → StandAt x.table x.blocks (body_of g) after → (temps : Temps) → SameTemps x g line rest y temps
          → (vars words : Vars) (awaits : ℕ) → AllSame g.call.vars vars → IsGood x (changed g after temps vars m words awaits (store g.world l v))
      gone_written after stand temps same vars words awaits kept =
          subst (λ w. IsGood x (changed g after temps vars m words awaits w)) (sym gone_is)
          (good_changed x g line rest y after f.from.site (of_waiting f.from.node) temps vars m words awaits gone_world
          (memory_kept x sites y.linked g.memory m a (bytes v) y.memory ch (waiting_range f.from))
          (heap_kept x sites y.linked g.memory m a (bytes v) y.memory ch (waiting_range f.from)) (refl, refl) gone_edit
          (waiting_worlds x g line rest y f.from.site f.from.among f.from.node f.from.there gone_value)
          (kept_temps x g line rest y f.from.site (of_waiting f.from.node) temps vars same
          (λ h u i away home. kept.others u (high_variable x g line rest y h u i home)) kept.left)
          (λ e. new_running x g line rest y f.from.site f.from.among f.from.node f.from.there gone_value (store_with g m) gone_world (inr (f.none, none_then))
          nothing_there temps vars kept e)
          (λ c from i e. new_caller x g line rest y f.from.site f.from.among f.from.node f.from.there gone_value (store_with g m) gone_world
          (inr (f.none, none_then)) nothing_there c from i e)
          (waiting_frames x g line rest y f.from.site f.from.among f.from.node f.from.there gone_value)
          (waiting_levels x g line rest y f.from.site f.from.among f.from.node f.from.there gone_value) stand)
        where
          nothing_there : {A : Type 0} → temporary_at gone_world f.from.site.level f.from.node ≡ Some (Holds gone_value) → A
          nothing_there e = absurd (none_some (Holds gone_value) (sym none_then ∙ e))

    pub good_written : (f : Owns l a t) (after : List BlockLine) → StandAt x.table x.blocks (body_of g) after → Written_then f after
    good_written (inl f) after stand = place_written f after stand
    good_written (inr (inl f)) after stand = block_written f after stand
    good_written (inr (inr f)) after stand = waits_written f after stand

    -- ---- addresses are still those of the same locations

    pub leads_still : (f : Owns l a t) (k : Location) (b : ℕ) (u : Shape) → Owns k b u → FromOwned x.table sites (ground_then f) (store g.world l v) k b u
    leads_still f k b u (inl p) = inl (places_still x g line rest y l a t v f k b u p)
    leads_still f k b u (inr (inl p)) = inr (inl (record {
      block = p.block;
      base = p.base;
      leads = leads_later g.ground.blocks (put_there f).after (put_there f).ahead p.block k.path b u p.leads;
      near = p.near;
    }))
    leads_still f k b u (inr (inr p)) = inr (inr (waits_still x g line rest y l a t v f k b u p))
