-- Lines that call hooks, by the types of what they name: copies, places that end or get something, and what ends that waited.
use Rattle.std.proofs.Common.{◌≡◌, ◌⊎◌, inl, inr, ℕ, ◌^◌, ◌<◌, List, [], Bool, true, false, Option, Some, None}
use Rattle.std.proofs.Common.{refl, sym, ap, subst, ◌∙◌, arith}
use Rattle.std.proofs.lemmas.Bool.{cases_Bool}
use Rattle.nim_types.specs.Table.{facts_in, type_at, types_in}
use Rattle.nim_types.specs.Types.{Ty}
use Rattle.nim_meaning.specs.Values.{At, Given, Holds, InHand, Location, Slot, Value, vacant}
use Rattle.nim_meaning.specs.Deeds.{Answers, Deed, Done, Fails, Finishes, behind, costs, give, perform, ◌>>=◌}
use Rattle.nim_meaning.specs.Acts.{branch}
use Rattle.nim_meaning.specs.Places.{place_at}
use Rattle.nim_meaning.specs.State.{slot_at, World}
use Rattle.nim_meaning.specs.Meaning.{place_copies, place_ends}
use Rattle.nim_meaning.specs.Lifted.{assigned, copied, copying, walk}
use Rattle.nim_types.specs.Forms.{Form}
use Rattle.arc_base.specs.Event.{Event}
use Rattle.word_lowering.specs.declared.homes.Home.{Home}
use Rattle.hook_code.specs.Promises.{Routines}
use Rattle.word_code.specs.Memory.{Memory}
use Rattle.flat_code.specs.declared.block.BlockLine.{BlockLine}
use Rattle.flat_code.specs.Codes.{block_plain}
use Rattle.flat_code.specs.Fits.{is_declared, is_location, is_value}
use Rattle.flat_code.specs.Lines.{acts, form_in, gives, if_open, is_there}
use Rattle.flat_code.specs.Running.{scene_of}
use Rattle.flat_code.specs.Scene.{known_in, Passes, Where, location_at, with_value}
use Rattle.flat_code.specs.Scene.{Fails as Refuses}
use Rattle.flat_code.specs.Shapes.{shape_of}
use Rattle.hook_lifting.specs.declared.lifted.Hook.TheVariants.{Assigns, Copies, Ends, Sinks}
use Rattle.word_lowering.specs.declared.homes.Alias.TheVariants as alias
use Rattle.word_lowering.specs.declared.homes.Housed.{Housed}
use Rattle.word_lowering.specs.Aliases.{alias_by, value_to}
use Rattle.word_lowering.specs.HookCalled.{hook_called}
use Rattle.word_lowering.specs.Layouts.{holds_address, owns}
use Rattle.word_lowering.specs.LineCode.{ends_code, hook_code, location}
use Rattle.word_lowering.proofs.HookSurroundings.{surroundings}
use Rattle.word_lowering.proofs.Moves.{IsHigh}
use Rattle.word_lowering.proofs.Blocks.{Blocks, Stored}
use Rattle.word_lowering.proofs.AddressFacts.{AtAddress, at_homed, in_memory}
use Rattle.word_lowering.proofs.GoneWalks.{IsFailed, IsUnwaited, assigning_nothing, copied_nothing, copying_nothing, failed_settles, fails_on, nothing_above}
use Rattle.word_lowering.proofs.GoneWalks.{nothing_waits}
use Rattle.word_lowering.proofs.HandAssigns.{before, before_good, none_before, sinks_settles}
use Rattle.word_lowering.proofs.HandCopies.{gets_copy_settles, none_ready, ready, ready_good, copy_around, copy_settles, copy_stored}
use Rattle.word_lowering.proofs.Gets.{same_temps}
use Rattle.word_lowering.proofs.HookBasis.{HookBasis, first_hook, hand_routines, room_here, routines_here}
use Rattle.word_lowering.proofs.HookCalls.{IsArgument, place_argument}
use Rattle.word_lowering.proofs.HookEnds.{place_ends_settles, result_gets_settles, stands_settles}
use Rattle.word_lowering.proofs.HookPlaces.{opened, opened_good, place_copies_settles}
use Rattle.word_lowering.proofs.HookReturns.{perform_answers}
use Rattle.word_lowering.proofs.HookedSources.{led_argument}
use Rattle.word_lowering.proofs.HookedTypes.{HookedType, chain_few}
use Rattle.word_lowering.proofs.HooksGood.{name_within}
use Rattle.word_lowering.proofs.HouseHooks.{homed, hooks_as}
use Rattle.word_lowering.proofs.Keeping.{declared_address, points_there}
use Rattle.word_lowering.proofs.Lines.{Basis, IsGood, Settles, all_sites, starts, all_procs}
use Rattle.word_lowering.proofs.MovedLines.{own_plain}
use Rattle.word_lowering.proofs.Related.{Both, body_of, high}
use Rattle.word_lowering.proofs.Scenes.{FromPlace, IsNamed, IsThere, Name, address_of, house, looked, of_location, of_place, of_value, Points, is_fixed}
use Rattle.word_lowering.proofs.Settling.{code_here, code_next}
use Rattle.word_lowering.proofs.ShapeFacts.{of_numbers}
use Rattle.word_lowering.proofs.Sites.{Among, InMemory, around, has_hooks, is_one_word, looks}
use Rattle.word_lowering.proofs.SitesApart.{houses}
use Rattle.word_lowering.proofs.Targets.{given, texts_behind}
use Rattle.word_lowering.proofs.ValueFacts.{has_type, look_of, place_there, type_in, value_plain}

failed_behind : {A : Type 0} (n : ℕ) (d : Done A) → IsFailed d → IsFailed (behind [] n d)
failed_behind n (Answers es k a w) h = absurd h
failed_behind n (Finishes es k status w) h = absurd h
failed_behind n (Fails es k w) h = tt

module _ (x : Basis) (b : HookBasis x) (g : Both) (line : BlockLine) (rest : List BlockLine) (y : IsGood x (starts g line rest)) (ty : ℕ)
    (h : HookedType x ty) where
  abbrev of : Ty
  of = type_at (types_in x.table) ty

  -- ---- names of the type

  pub many_at : (k : Housed) → Among k (body_of g).own.all → has_hooks x.table k ≡ true → is_one_word (looks x.table k) ≡ false
  many_at k i e = (y.linked.0.built k i e).1

  pub value_many : (t : ℕ) → IsNamed g.call.site (of_value t) → type_in x is_value (body_of g) t ≡ Some of
      → is_one_word (looked x.table g.call.site (of_value t)) ≡ false
  value_many t n typed =
      many_at (house g.call.site (of_value t)) n.among (hooks_as x g.call.site y.linked.0 (of_value t) of typed ∙ h.hooks)

  pub location_many : (t : ℕ) → IsNamed g.call.site (of_location t) → type_in x is_location (body_of g) t ≡ Some of
      → is_one_word (looked x.table g.call.site (of_location t)) ≡ false
  location_many t n typed =
      many_at (house g.call.site (of_location t)) n.among (hooks_as x g.call.site y.linked.0 (of_location t) of typed ∙ h.hooks)

  pub place_many : (n : ℕ) → IsNamed g.call.site (of_place n) → type_in x is_declared (body_of g) n ≡ Some of
      → is_one_word (looked x.table g.call.site (of_place n)) ≡ false
  place_many n i typed = many_at (house g.call.site (of_place n)) i.among (hooks_as x g.call.site y.linked.0 (of_place n) of typed ∙ h.hooks)

  pub value_look : (t : ℕ) → type_in x is_value (body_of g) t ≡ Some of → looked x.table g.call.site (of_value t) ≡ shape_of (facts_in x.table) of
  value_look t typed = look_of x g.call.site (of_value t) of (has_type x g.call.site (of_value t) of y.linked.0 typed)

  pub value_inside : (t : ℕ) → IsThere g.call.site (of_value t) → type_in x is_value (body_of g) t ≡ Some of
      → InMemory (house g.call.site (of_value t)).home
  value_inside t there typed =
      in_memory x g line rest y (of_value t) there (value_plain (house g.call.site (of_value t)) there.kind)
      (value_many t (record { among = there.among; number = there.number; kind = there.kind }) typed)

  -- an address of a home is a word
  pub small_at : (f : Name) → IsThere g.call.site f → InMemory (house g.call.site f).home → address_of g.call.site.base (house g.call.site f).home < 2 ^ 32
  small_at f there inside =
      let size = (houses x.table x.blocks g.call.site f y.linked.0 there).bytes in
      let under = (name_within x g line rest y g.call (inl refl) f there inside (record {
        base = InHand 0;
        at = address_of g.call.site.base (house g.call.site f).home;
        shape = looked x.table g.call.site f;
      }) refl size).under in
      let most = y.memory.sized.stack_most in let places = y.memory.places in omega (arith, under, most, places)

  -- where a temporary leads, as the code has it
  pub source_at : (from : ℕ) → type_in x is_location (body_of g) from ≡ Some of → (there : Where) → g.call.temps.places from ≡ Some there
      → AtAddress x g line rest y (location (around x.table x.blocks (body_of g)) from) there (shape_of (facts_in x.table) of)
  source_at from typed there e =
      let n = has_type x g.call.site (of_location from) of y.linked.0 typed in
      subst (AtAddress x g line rest y (location (around x.table x.blocks (body_of g)) from) there) (look_of x g.call.site (of_location from) of n)
      (at_homed x g line rest y from there n.named (homed x g.call.site y.linked.0 from n.named) e (location_many from n.named typed))

module _ (x : Basis) (b : HookBasis x) (g : Both) (line : BlockLine) (rest : List BlockLine) (y : IsGood x (starts g line rest)) (ty : ℕ)
    (h : HookedType x ty) where
  abbrev held : Ty
  held = type_at (types_in x.table) ty

  -- ---- a copy for a temporary

  module _ (to : ℕ) (gives_it : value_to (block_plain line) ≡ Some to) (own : alias_by (block_plain line) (texts_behind x g line rest y) ≡ alias.Own)
      (to_typed : type_in x is_value (body_of g) to ≡ Some held) where
    pub to_there : IsThere g.call.site (of_value to)
    to_there = (given x g line rest y to held gives_it own to_typed).there

    pub to_inside : InMemory (house g.call.site (of_value to)).home
    to_inside = value_inside x b g line rest y ty h to to_there to_typed

    pub to_look : looked x.table g.call.site (of_value to) ≡ shape_of (facts_in x.table) held
    to_look = value_look x b g line rest y ty h to to_typed

    pub to_hooked : of_numbers (looked x.table g.call.site (of_value to)) ≡ false
    to_hooked = ap of_numbers to_look ∙ h.numbers

    abbrev pub state : Both
    state = ready x g line rest y b.is_table b.have to ty to_there to_inside to_hooked to_look

    abbrev pub state_good : IsGood x (starts state line rest)
    state_good = ready_good x g line rest y b.is_table b.have to ty to_there to_inside to_hooked to_look

    -- from where a home leads
    module _ (l : Location) (address : ℕ) (f : IsArgument x state line rest state_good b.is_table b.have false l address ty) (from_home : Home)
        (high_from : IsHigh from_home) (points : Points g.call.site.base g.call.vars from_home address)
        (code : code_here x g line rest y ≡ hook_code (around x.table x.blocks (body_of g)) Copies ty (house g.call.site (of_value to)).home from_home
        (code_next x g line rest y)) where
      abbrev form : Form
      form = form_in (known_in x.table) ty

      routines : Routines x.table
          (surroundings (copy_around x g line rest y b.is_table b.have to ty to_there to_inside to_hooked to_look)) x.live (all_procs x) x.fresh
      routines =
          hand_routines x b state line rest state_good to to_there to_inside
          (none_ready x g line rest y b.is_table b.have to ty to_there to_inside to_hooked to_look) to_hooked (vacant form)

      pub copy_from : (work : ℕ)
          → Settles x (starts g line rest) rest (Passes (behind [] work (perform (copied form l >>= (λ v. give (with_value to g.call.temps v))) g.world)))
      copy_from =
          copy_settles x g line rest y b.is_table b.have to ty to_there to_inside to_hooked to_look b.short (first_hook x) routines b.hooks_there h.def
          h.entry h.hooks h.built h.hooks (small_at x b g line rest y ty h (of_value to) to_there to_inside) l address f
          (room_here x b g line rest y Copies ty (chain_few x ty h Copies)) h.levels from_home high_from points code

      pub gets_from : Settles x (starts g line rest) rest (gives (scene_of (high x.table x.blocks (starts g line rest))) to (copied form l))
      gets_from =
          gets_copy_settles x g line rest y b.is_table b.have to ty to_there to_inside to_hooked to_look b.short (first_hook x) routines b.hooks_there h.def
          h.entry h.hooks h.built h.hooks (small_at x b g line rest y ty h (of_value to) to_there to_inside) l address f
          (room_here x b g line rest y Copies ty (chain_few x ty h Copies)) h.levels from_home high_from points code

      -- it is stored by the type's shape
      pub stored_from : (es : List Event) (n : ℕ) (v : Value) (w : World) → perform (copied form l) g.world ≡ Answers es n v w
          → (after : Blocks) × (m : Memory) × (a : ℕ) × Stored (is_fixed g.ground) after m a (shape_of (facts_in x.table) held) v
      stored_from es n v w e =
          let c = copy_stored x g line rest y b.is_table b.have to ty to_there to_inside to_hooked to_look b.short (first_hook x) routines b.hooks_there h.def
          h.entry h.hooks h.built h.hooks (small_at x b g line rest y ty h (of_value to) to_there to_inside) l address f
          (room_here x b g line rest y Copies ty (chain_few x ty h Copies)) h.levels from_home high_from points code es n v w e in (
            c.after,
            c.memory,
            address_of g.call.site.base (house g.call.site (of_value to)).home,
            subst (λ s. Stored (is_fixed g.ground) c.after c.memory (address_of g.call.site.base (house g.call.site (of_value to)).home) s v) to_look c.stored,
          )

    -- from where a temporary leads
    module _ (from : ℕ) (from_typed : type_in x is_location (body_of g) from ≡ Some held)
        (code : code_here x g line rest y ≡ hook_code (around x.table x.blocks (body_of g)) Copies ty (house g.call.site (of_value to)).home
        (location (around x.table x.blocks (body_of g)) from).home (code_next x g line rest y)) where
      pub get_copied : (there : Where) → g.call.temps.places from ≡ Some there → Settles x (starts g line rest) rest
          (gives (scene_of (high x.table x.blocks (starts g line rest))) to (copied (form_in (known_in x.table) ty) (location_at g.call.temps there)))
      get_copied there e =
          let s = source_at x b g line rest y ty h from from_typed there e in
          by s (led_argument x state line rest state_good b.is_table b.have ty h.numbers g.call.site g.call.temps false there s.address tt s.leads_to)
        where
          by : (s : AtAddress x g line rest y (location (around x.table x.blocks (body_of g)) from) there (shape_of (facts_in x.table) held))
              → IsArgument x state line rest state_good b.is_table b.have false (location_at g.call.temps there) s.address ty
              ⊎ IsUnwaited g.world (location_at g.call.temps there)
              → Settles x (starts g line rest) rest
              (gives (scene_of (high x.table x.blocks (starts g line rest))) to (copied (form_in (known_in x.table) ty) (location_at g.call.temps there)))
          by s (inl f) =
              gets_from (location_at g.call.temps there) s.address f s.home s.high_is s.points
              (code ∙ ap (λ k. hook_called (first_hook x) Copies ty (house g.call.site (of_value to)).home k (code_next x g line rest y)) s.home_is)
          by s (inr gone) =
              failed_settles x g line rest
              (perform (copied (form_in (known_in x.table) ty) (location_at g.call.temps there) >>= (λ v. give (with_value to g.call.temps v))) g.world)
              (fails_on (copied (form_in (known_in x.table) ty) (location_at g.call.temps there)) (λ v. give (with_value to g.call.temps v)) g.world
              (copied_nothing (form_in (known_in x.table) ty) h.built g.world (location_at g.call.temps there)
              (nothing_above g.world (location_at g.call.temps there) gone)))

  -- ---- what a place holds ends

  module _ (n : ℕ) (typed : type_in x is_declared (body_of g) n ≡ Some held)
      (code : code_here x g line rest y ≡ ends_code (around x.table x.blocks (body_of g)) (holds_address (house g.call.site (of_place n))) ty
      (house g.call.site (of_place n)).home (code_next x g line rest y)) where
    ends_there : IsThere g.call.site (of_place n)
    ends_there = place_there x g.call.site n y.linked.0 (has_type x g.call.site (of_place n) held y.linked.0 typed).named

    pub place_ends_line : Settles x (starts g line rest) rest (if_open g.world g.call.site.level n
        (acts (scene_of (high x.table x.blocks (starts g line rest))) (costs 1 (place_ends (form_in (known_in x.table) ty) g.call.site.level n))))
    place_ends_line = by (cases_Bool (owns (house g.call.site (of_place n))))
      where
        by : (owns (house g.call.site (of_place n)) ≡ true) ⊎ (owns (house g.call.site (of_place n)) ≡ false) → Settles x (starts g line rest) rest
            (if_open g.world g.call.site.level n
            (acts (scene_of (high x.table x.blocks (starts g line rest))) (costs 1 (place_ends (form_in (known_in x.table) ty) g.call.site.level n))))
        by (inl own) =
            let named = has_type x g.call.site (of_place n) held y.linked.0 typed in
            let plain = own_plain (house g.call.site (of_place n)) own in
            place_ends_settles x g line rest y b.is_table b.have b.short (first_hook x) (routines_here x b g line rest y) b.hooks_there n ty h.def h.entry
            h.hooks h.built ends_there own (in_memory x g line rest y (of_place n) ends_there plain (place_many x b g line rest y ty h n named.named typed))
            (look_of x g.call.site (of_place n) held named) h.numbers (room_here x b g line rest y Ends ty (chain_few x ty h Ends)) h.levels
            (code ∙ ap (λ stands. ends_code (around x.table x.blocks (body_of g)) stands ty (house g.call.site (of_place n)).home (code_next x g line rest y))
            plain)
        by (inr other) =
            stands_settles x g line rest y b.is_table b.have b.short (first_hook x) (routines_here x b g line rest y) b.hooks_there n ty ends_there other
            (code ∙ ap (λ stands. ends_code (around x.table x.blocks (body_of g)) stands ty (house g.call.site (of_place n)).home (code_next x g line rest y))
            (declared_address (house g.call.site (of_place n)) ends_there.kind other))

  -- ---- a place is filled with a copy, or gets something

  -- a place with a value of its own, in memory
  pub record OwnPlace (n : ℕ) : Type 0 where
    pub there : IsThere g.call.site (of_place n)
    pub own : owns (house g.call.site (of_place n)) ≡ true
    pub plain : holds_address (house g.call.site (of_place n)) ≡ false
    pub inside : InMemory (house g.call.site (of_place n)).home
    pub look : looked x.table g.call.site (of_place n) ≡ shape_of (facts_in x.table) held

  module _ (n : ℕ) (p : OwnPlace n) where
    place_holds : (s : Slot) → slot_at g.world g.call.site.level n ≡ Some s → (v : Value) × (slot_at g.world g.call.site.level n ≡ Some (Holds v))
    place_holds s e = (y.hold.0.filled n p.there (s, e)).own p.own

    place_led : (v : Value) → slot_at g.world g.call.site.level n ≡ Some (Holds v) → FromPlace x.table (all_sites x g line rest y) g.world
        (place_at g.call.site.level n) (address_of g.call.site.base (house g.call.site (of_place n)).home) (shape_of (facts_in x.table) held)
    place_led v slot = record {
      site = g.call.site;
      among = inl refl;
      number = n;
      base = refl;
      filled = (Holds v, slot);
      there = p.there;
      home = p.inside;
      offset = 0;
      path = (refl, p.look);
      address = omega arith;
    }

    -- from a location
    module _ (from : ℕ) (from_typed : type_in x is_location (body_of g) from ≡ Some held) (there : Where) (e : g.call.temps.places from ≡ Some there) where
      abbrev from_l : Location
      from_l = location_at g.call.temps there

      pub place_gets_line : code_here x g line rest y ≡ hook_code (around x.table x.blocks (body_of g)) Assigns ty (house g.call.site (of_place n)).home
          (location (around x.table x.blocks (body_of g)) from).home (code_next x g line rest y) → Settles x (starts g line rest) rest
          (if_open g.world g.call.site.level n (acts (scene_of (high x.table x.blocks (starts g line rest)))
          (costs 1 (assigned (form_in (known_in x.table) ty) (place_at g.call.site.level n) (At from_l)))))
      place_gets_line code =
          let s = source_at x b g line rest y ty h from from_typed there e in
          by s (led_argument x g line rest y b.is_table b.have ty h.numbers g.call.site g.call.temps false there s.address tt s.leads_to)
        where
          deed : Deed (Unit {0})
          deed = assigned (form_in (known_in x.table) ty) (place_at g.call.site.level n) (At from_l)

          Gets : Bool → Type 0
          Gets is_open =
              Settles x (starts g line rest) rest (branch is_open (Passes (behind [] 1 (perform (deed >>= (λ u. give g.call.temps)) g.world))) Refuses)

          nothing : IsUnwaited g.world from_l → (is_open : Bool) → Gets is_open
          nothing gone true =
              failed_settles x g line rest (behind [] 1 (perform (deed >>= (λ u. give g.call.temps)) g.world))
              (failed_behind 1 (perform (deed >>= (λ u. give g.call.temps)) g.world)
              (fails_on deed (λ u. give g.call.temps) g.world (assigning_nothing (form_in (known_in x.table) ty) h.built g.world
              (place_at g.call.site.level n) from_l (nothing_above g.world from_l gone) (nothing_waits g.world from_l gone))))
          nothing gone false = λ before. tt

          by : (s : AtAddress x g line rest y (location (around x.table x.blocks (body_of g)) from) there (shape_of (facts_in x.table) held))
              → IsArgument x g line rest y b.is_table b.have false from_l s.address ty ⊎ IsUnwaited g.world from_l
              → Settles x (starts g line rest) rest (if_open g.world g.call.site.level n (acts (scene_of (high x.table x.blocks (starts g line rest)))
              (costs 1 (assigned (form_in (known_in x.table) ty) (place_at g.call.site.level n) (At from_l)))))
          by s (inl f) =
              result_gets_settles x g line rest y b.is_table b.have b.short (first_hook x) (routines_here x b g line rest y) b.hooks_there n ty h.def h.entry
              h.hooks h.built p.there p.own p.inside p.look h.numbers from_l s.address s.home f s.high_is s.points
              (room_here x b g line rest y Assigns ty (chain_few x ty h Assigns)) h.levels
              (code ∙ ap (λ k. hook_called (first_hook x) Assigns ty (house g.call.site (of_place n)).home k (code_next x g line rest y)) s.home_is)
          by s (inr gone) = nothing gone (is_there (slot_at g.world g.call.site.level n))

      -- it is opened first
      abbrev opening : Both
      opening = opened x g line rest y b.is_table b.have n ty p.there p.own p.inside p.plain p.look h.numbers

      pub place_copies_line : code_here x g line rest y ≡ hook_code (around x.table x.blocks (body_of g)) Copies ty (house g.call.site (of_place n)).home
          (location (around x.table x.blocks (body_of g)) from).home (code_next x g line rest y) → Settles x (starts g line rest) rest
          (acts (scene_of (high x.table x.blocks (starts g line rest)))
          (costs 1 (place_copies (form_in (known_in x.table) ty) g.call.site.level n from_l)))
      place_copies_line code =
          let s = source_at x b opening line rest (opened_good x g line rest y b.is_table b.have n ty p.there p.own p.inside p.plain p.look h.numbers) ty h
          from from_typed there e in
          by s (led_argument x opening line rest (opened_good x g line rest y b.is_table b.have n ty p.there p.own p.inside p.plain p.look h.numbers)
          b.is_table b.have ty h.numbers g.call.site g.call.temps false there s.address tt s.leads_to)
        where
          by : (s : AtAddress x opening line rest (opened_good x g line rest y b.is_table b.have n ty p.there p.own p.inside p.plain p.look h.numbers)
              (location (around x.table x.blocks (body_of g)) from) there (shape_of (facts_in x.table) held))
              → IsArgument x opening line rest (opened_good x g line rest y b.is_table b.have n ty p.there p.own p.inside p.plain p.look h.numbers)
              b.is_table b.have false from_l s.address ty ⊎ IsUnwaited opening.world from_l
              → Settles x (starts g line rest) rest (acts (scene_of (high x.table x.blocks (starts g line rest)))
              (costs 1 (place_copies (form_in (known_in x.table) ty) g.call.site.level n from_l)))
          by s (inl f) =
              place_copies_settles x g line rest y b.is_table b.have n ty p.there p.own p.inside p.plain p.look h.numbers b.short (first_hook x)
              (routines_here x b opening line rest
              (opened_good x g line rest y b.is_table b.have n ty p.there p.own p.inside p.plain p.look h.numbers)) b.hooks_there h.def h.entry h.hooks
              h.built from_l s.address s.home f s.high_is s.points (room_here x b g line rest y Copies ty (chain_few x ty h Copies))
              h.levels
              (code ∙ ap (λ k. hook_called (first_hook x) Copies ty (house g.call.site (of_place n)).home k (code_next x g line rest y)) s.home_is)
          by s (inr gone) =
              failed_settles x g line rest (behind [] 1 (perform
              (walk copying (form_in (known_in x.table) ty) (place_at g.call.site.level n) from_l >>= (λ u. give g.call.temps)) opening.world))
              (failed_behind 1 (perform (walk copying (form_in (known_in x.table) ty) (place_at g.call.site.level n) from_l >>= (λ u. give g.call.temps))
              opening.world) (fails_on (walk copying (form_in (known_in x.table) ty) (place_at g.call.site.level n) from_l) (λ u. give g.call.temps)
              opening.world (copying_nothing (form_in (known_in x.table) ty) h.built opening.world (place_at g.call.site.level n) from_l
              (nothing_waits opening.world from_l gone))))

    -- from a value, which its temporary has no more
    module _ (t : ℕ) (t_typed : type_in x is_value (body_of g) t ≡ Some held) (t_there : IsThere g.call.site (of_value t)) (v : Value)
        (has : g.call.temps.values t ≡ Some v) (code : code_here x g line rest y ≡ hook_code (around x.table x.blocks (body_of g)) Sinks ty
        (house g.call.site (of_place n)).home (house g.call.site (of_value t)).home (code_next x g line rest y)) where
      pub t_inside : InMemory (house g.call.site (of_value t)).home
      t_inside = value_inside x b g line rest y ty h t t_there t_typed

      pub t_hooked : of_numbers (looked x.table g.call.site (of_value t)) ≡ false
      t_hooked = ap of_numbers (value_look x b g line rest y ty h t t_typed) ∙ h.numbers

      abbrev left : Both
      left = before x g line rest y b.is_table b.have t v has t_there t_inside t_hooked

      abbrev Takes_with : Bool → Type 0
      Takes_with is_open =
          Settles x (starts g line rest) rest (branch is_open (Passes (behind [] 1 (perform
          (assigned (form_in (known_in x.table) ty) (place_at g.call.site.level n) (Given v) >>= (λ u. give left.call.temps)) g.world))) Refuses)

      pub place_takes_line : Takes_with (is_there (slot_at g.world g.call.site.level n))
      place_takes_line = by (slot_at g.world g.call.site.level n) refl
        where
          by : (o : Option Slot) → slot_at g.world g.call.site.level n ≡ o → Takes_with (is_there (slot_at g.world g.call.site.level n))
          by None e = subst (λ o. Takes_with (is_there o)) (sym e) (λ before. tt)
          by (Some s) e =
              let u = place_holds s e in
              subst (λ o. Takes_with (is_there o)) (sym e)
              (subst (λ done. Settles x (starts g line rest) rest (Passes (behind [] 1 done)))
              (sym (perform_answers (assigned (form_in (known_in x.table) ty) (place_at g.call.site.level n) (Given v)) left.call.temps g.world))
              (sinks_settles x g line rest y b.is_table b.have t v has t_there t_inside t_hooked b.short (first_hook x)
              (hand_routines x b left line rest (before_good x g line rest y b.is_table b.have t v has t_there t_inside t_hooked) t t_there t_inside
              (none_before x g line rest y b.is_table b.have t v has t_there t_inside t_hooked) t_hooked v) b.hooks_there ty h.def h.entry h.hooks h.built
              (value_look x b g line rest y ty h t t_typed) (small_at x b g line rest y ty h (of_value t) t_there t_inside) (place_at g.call.site.level n)
              (address_of g.call.site.base (house g.call.site (of_place n)).home)
              (place_argument x left line rest (before_good x g line rest y b.is_table b.have t v has t_there t_inside t_hooked) b.is_table b.have true
              (place_at g.call.site.level n) (address_of g.call.site.base (house g.call.site (of_place n)).home) ty (place_led u.0 u.1) h.numbers)
              (room_here x b g line rest y Sinks ty (chain_few x ty h Sinks)) h.levels (house g.call.site (of_place n)).home
              (points_there g.call.site.base g.call.vars (house g.call.site (of_place n)).home p.inside) code left.call.temps
              (same_temps x left line rest (before_good x g line rest y b.is_table b.have t v has t_there t_inside t_hooked))))
