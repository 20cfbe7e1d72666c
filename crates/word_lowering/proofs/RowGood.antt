-- Behind a row that puts something where a location leads, into a place or a block: all is good.
use Rattle.std.proofs.Common.{◌≡◌, inl, inr, ℕ, ◌+◌, ◌≤◌, List, length, Some, true, false, refl, sym, ap, subst, ◌∙◌, arith}
use Rattle.word_lowering.proofs.ResizedWorlds.{stack_of, frames_of}
use Rattle.rv32_isa.specs.Image.{heap_at}
use Rattle.nim_meaning.specs.Values.{Value, Location, Holds, put_part}
use Rattle.nim_meaning.specs.State.{World, slot_at, slot_of, frame_in, whole_at, stored, store, held, is_there, awaited, temporary_at, temporary_in}
use Rattle.std.specs.Prelude.{slice_get}
use Rattle.flat_code.specs.declared.block.BlockLine.{BlockLine}
use Rattle.flat_code.specs.Scene.{Temps, with_value}
use Rattle.flat_code.specs.Shapes.{Shape, has_shape}
use Rattle.word_code.specs.Memory.{Memory}
use Rattle.word_code.specs.RoutineTable.{Beside}
use Rattle.word_code.specs.Words.{Vars}
use Rattle.word_lowering.proofs.BlockHomes.{Home, IsAtHome, SameOrApart}
use Rattle.word_lowering.proofs.BlockRanges.{block_range}
use Rattle.word_lowering.proofs.Blocks.{Stored}
use Rattle.word_lowering.proofs.Gets.{SameTemps}
use Rattle.word_lowering.proofs.GoodHomes.{HomeOf, homes_apart, good_homes}
use Rattle.word_lowering.proofs.GoodLeads.{OwnHome, own_home, home_of, WaitingHome, home_waiting, waiting_home_of}
use Rattle.word_lowering.proofs.GoodRows.{IsLeftBeside, later_ground_of, good_aside, good_place_put, good_row_value}
use Rattle.word_lowering.proofs.Lines.{Basis, IsGood, all_sites, changed_later, stands_next, starts}
use Rattle.word_lowering.proofs.Located.{place_lying, waiting_lying}
use Rattle.word_lowering.proofs.OrdinalRuns.{AllSame}
use Rattle.word_lowering.proofs.PlaceWorlds.{put_world, slot_new}
use Rattle.word_lowering.proofs.Related.{Both, StandAt, body_of}
use Rattle.word_lowering.proofs.RowsLeft.{IsLeft, IsNew}
use Rattle.word_lowering.proofs.Scenes.{is_fixed, address_of, of_place, of_value, house, looked, IsThere, FromBlock, FromOwned, FromPlace, FromWaits}
use Rattle.word_lowering.proofs.ShapeFacts.{never, of_numbers, shape_bytes}
use Rattle.word_lowering.proofs.ShapePaths.{path_numbers}
use Rattle.word_lowering.proofs.Sites.{InMemory, Site}
use Rattle.word_lowering.proofs.Sources.{lying_all}
use Rattle.word_lowering.proofs.GoodWaiting.{good_waiting_put, put_waiting, waiting_new}
use Rattle.word_lowering.proofs.Scenes.{of_waiting}

held_same : (w : World) (level n : ℕ) (u v : Value) → slot_at w level n ≡ Some (Holds u) → slot_at w level n ≡ Some (Holds v) → u ≡ v
held_same w level n u v e f = ap held (sym e ∙ f)

module _ (x : Basis) (g : Both) (line : BlockLine) (rest : List BlockLine) (y : IsGood x (starts g line rest)) where
  abbrev sites : List Site
  sites = all_sites x g line rest y

  abbrev here : Both
  here = starts g line rest

  -- what is true behind a row that puts so many bytes, in words of this state
  abbrev pub IsLeftHere : World → Memory → (to bytes : ℕ) → Type 0
  IsLeftHere after other to bytes = IsLeft (is_fixed g.ground) (HomeOf x here) (homes_apart x here y) g.ground.blocks g.memory after other to bytes

  pub left_beside : (after : World) (other : Memory) (to bytes : ℕ) → IsLeftHere after other to bytes → IsLeftBeside x g line rest y other to bytes
  left_beside after other to bytes left = record { sized = left.holds.sized; sizes = left.rest.sizes; beside = left.rest.beside }

  -- ---- where a location leads that may be written

  module _ (l : Location) (a : ℕ) (t : Shape) (blocks : of_numbers t ≡ false) (live : is_there g.world l ≡ true) (z : Value) (after : World) (other : Memory)
      (left : IsLeftHere after other a (shape_bytes t)) (same : stack_of after ≡ stack_of (store g.world l z)) where
    abbrev Good_then : List BlockLine → Type 0
    Good_then lines = (temps : Temps) → SameTemps x g line rest y temps → (vars words : Vars) (awaits : ℕ) → AllSame g.call.vars vars
        → IsGood x (changed_later g lines temps vars other words awaits after (later_ground_of x g line rest y left.later) after.input)

    module _ (f : FromPlace x.table sites g.world l a t) where
      own : OwnHome x here y f.site f.number
      own = own_home x here y f.site f.number f.among f.filled f.there f.home

      abbrev new : Value
      new = put_part own.value l.path z

      abbrev new_world : World
      new_world = put_world x g line rest y f.site f.among f.number f.there own.value own.slot new

      store_is : store g.world l z ≡ new_world
      store_is = ap (λ b. stored g.world b (put_part (whole_at g.world b) l.path z)) f.base
          ∙ ap (λ u. put_world x g line rest y f.site f.among f.number f.there own.value own.slot (put_part u l.path z)) (ap held own.slot)

      frames_are : stack_of after ≡ stack_of new_world
      frames_are = same ∙ ap (λ (w : World). stack_of w) store_is

      slot_then : slot_at after f.site.level f.number ≡ Some (Holds new)
      slot_then =
          ap (λ frames. slot_of (frame_in (slice_get frames f.site.level)) f.number) (frames_of after new_world frames_are)
          ∙ slot_new x g line rest y f.site f.among f.number f.there own.value own.slot new

      home_then : IsAtHome (is_fixed g.ground) left.later after other (home_of x here y f.site f.number)
      home_then = left.holds.homes (home_of x here y f.site f.number) own.among

      stored_then : Stored (is_fixed g.ground) left.later other (address_of f.site.base (house f.site (of_place f.number)).home)
          (looked x.table f.site (of_place f.number)) new
      stored_then =
          let h = home_then in
          subst (λ u. Stored (is_fixed g.ground) left.later other (address_of f.site.base (house f.site (of_place f.number)).home)
          (looked x.table f.site (of_place f.number)) u)
          (held_same after f.site.level f.number h.value new h.holds.1 slot_then) h.stored

      place_good : (lines : List BlockLine) → StandAt x.table x.blocks (body_of g) lines → Good_then lines
      place_good lines stand temps same_temps vars words awaits kept =
          good_place_put x g line rest y f.site f.among f.number f.there own.value own.slot new own.item.plain f.home
          (λ o. never (sym blocks ∙ path_numbers (looked x.table f.site (of_place f.number)) l.path f.offset t o f.path))
          left.later left.ahead other a (shape_bytes t) (left_beside after other a (shape_bytes t) left) (place_lying x here y l a t f) refl refl after
          frames_are left.holds.heap stored_then lines stand temps same_temps vars words awaits kept

    module _ (f : FromBlock g.ground l a t) where
      frames_stay : stack_of after ≡ stack_of g.world
      frames_stay = same ∙ ap (λ b. stack_of (stored g.world b (put_part (whole_at g.world b) l.path z))) f.base

      in_heap : (heap_at ≤ a) × (a + shape_bytes t ≤ heap_at + length g.memory.heap)
      in_heap = block_range (is_fixed g.ground) (HomeOf x here) (homes_apart x here y) g.ground.blocks g.world g.memory (good_homes x here y) l a t
          (record { block = f.block; base = f.base; leads = f.leads }) live

      beside_none : IsLeftBeside x g line rest y other 0 0
      beside_none =
          let inside = in_heap in
          record {
            sized = left.holds.sized;
            sizes = left.rest.sizes;
            beside = λ b k own heap put. left.rest.beside b k own heap (away b k heap inside.0 inside.1);
          }
        where
          away : (b k : ℕ) → Beside b k heap_at (length g.memory.heap) → heap_at ≤ a → a + shape_bytes t ≤ heap_at + length g.memory.heap
              → Beside b k a (shape_bytes t)
          away b k (inl h) low high = inl (omega (arith, h, low))
          away b k (inr h) low high = inr (omega (arith, h, high))

      block_good : (lines : List BlockLine) → StandAt x.table x.blocks (body_of g) lines → Good_then lines
      block_good lines stand temps same_temps vars words awaits kept =
          good_aside x g line rest y lines stand left.later left.ahead other beside_none after frames_stay left.holds.heap temps same_temps vars words
          awaits kept

    module _ (f : FromWaits x.table sites g.world l a t) where
      waits_here : WaitingHome x here y f.from.site f.from.node f.value
      waits_here = home_waiting x here y f.from.site f.from.node f.value f.from.among f.from.there f.has

      abbrev waits_new : Value
      waits_new = put_part f.value l.path z

      abbrev waits_world : World
      waits_world = put_waiting x g line rest y f.from.site f.from.among f.from.node f.from.there waits_new

      waits_is : store g.world l z ≡ waits_world
      waits_is = ap (λ b. stored g.world b (put_part (whole_at g.world b) l.path z)) f.from.base
          ∙ ap (λ u. put_waiting x g line rest y f.from.site f.from.among f.from.node f.from.there (put_part u l.path z)) (ap awaited f.has)

      frames_waiting : stack_of after ≡ stack_of waits_world
      frames_waiting = same ∙ ap (λ (w : World). stack_of w) waits_is

      waits_then : temporary_at after f.from.site.level f.from.node ≡ Some (Holds waits_new)
      waits_then =
          ap (λ frames. temporary_in (frame_in (slice_get frames f.from.site.level)).temporaries f.from.node)
          (frames_of after waits_world frames_waiting)
          ∙ waiting_new x g line rest y f.from.site f.from.among f.from.node f.from.there waits_new f.value f.has

      waits_stored : Stored (is_fixed g.ground) left.later other (address_of f.from.site.base (house f.from.site (of_waiting f.from.node)).home)
          (looked x.table f.from.site (of_waiting f.from.node)) waits_new
      waits_stored =
          let h = left.holds.homes (waiting_home_of x here y f.from.site f.from.node) waits_here.among in
          subst (λ u. Stored (is_fixed g.ground) left.later other (address_of f.from.site.base (house f.from.site (of_waiting f.from.node)).home)
          (looked x.table f.from.site (of_waiting f.from.node)) u)
          (ap awaited (sym h.holds.1 ∙ waits_then)) h.stored

      waiting_good : (lines : List BlockLine) → StandAt x.table x.blocks (body_of g) lines → Good_then lines
      waiting_good lines stand temps same_temps vars words awaits kept =
          good_waiting_put x g line rest y f.from.site f.from.among f.from.node f.from.there waits_new left.later left.ahead other a (shape_bytes t)
          (left_beside after other a (shape_bytes t) left) (waiting_lying x here y l a t f.from) refl refl after frames_waiting
          (inl (f.value, f.has, waits_then)) left.holds.heap
          (λ e. (
            λ o. never (sym blocks ∙ path_numbers (looked x.table f.from.site (of_waiting f.from.node)) l.path f.from.offset t o f.from.path),
            waits_stored,
          ))
          lines stand temps same_temps vars words awaits kept

    -- in front of these lines of its procedure
    pub good_put_at : (lines : List BlockLine) → StandAt x.table x.blocks (body_of g) lines → FromOwned x.table sites g.ground g.world l a t → Good_then lines
    good_put_at lines stand (inl f) = place_good f lines stand
    good_put_at lines stand (inr (inl f)) = block_good f lines stand
    good_put_at lines stand (inr (inr f)) = waiting_good f lines stand

    pub good_put : FromOwned x.table sites g.ground g.world l a t → Good_then rest
    good_put = good_put_at rest (stands_next x.table x.blocks (body_of g) line rest y.stands)

  -- ---- a temporary gets a value that has blocks

  module _ (t : ℕ) (there : IsThere g.call.site (of_value t)) (inside : InMemory (house g.call.site (of_value t)).home)
    where
      abbrev pub at : ℕ
      at = address_of g.call.site.base (house g.call.site (of_value t)).home

      -- whichever homes are said to hold then
      pub good_new : (Homes : Home → Type 0) (apart : (a b : Home) → Homes a → Homes b → SameOrApart a b) (v : Value) (after : World) (other : Memory)
          → (new : IsNew (is_fixed g.ground) Homes apart g.ground.blocks g.memory v after other at (house g.call.site (of_value t)).bytes
          (looked x.table g.call.site (of_value t)))
          → has_shape v (looked x.table g.call.site (of_value t)) ≡ true → stack_of after ≡ stack_of g.world → (vars words : Vars) (awaits : ℕ) →
          AllSame g.call.vars vars
          → IsGood x (changed_later g rest (with_value t g.call.temps v) vars other words awaits after (later_ground_of x g line rest y new.left.later)
          after.input)
      good_new Homes apart v after other new shaped same vars words awaits kept =
          let n : ℕ = (house g.call.site (of_value t)).bytes in
          good_row_value x g line rest y t v there inside shaped new.left.later new.left.ahead other n
          (record { sized = new.left.holds.sized; sizes = new.left.rest.sizes; beside = new.left.rest.beside })
          (lying_all x sites y.linked g.call.site (of_value t) n (inl refl) there inside refl) refl refl after same new.left.holds.heap new.stored vars words
          awaits kept
