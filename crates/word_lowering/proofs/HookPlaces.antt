-- A place gets a copy of what stands at a location: it is open with nothing in it first, which is so whatever its home has, and the hook copies then.
use Rattle.std.proofs.Common.{◌≡◌, inl, ℕ, ◌+◌, ◌*◌, ◌≤◌, List, [], ◌∷◌, true, false, Some}
use Rattle.std.proofs.Common.{refl, sym, ap, subst, ◌∙◌, arith}
use Rattle.std.specs.Prelude.{slice_get}
use Rattle.nim_types.specs.Forms.{Form, HasForm}
use Rattle.nim_types.specs.Table.{IsTable, facts_in, type_at, types_in}
use Rattle.nim_types.specs.declared.types.TypeDef.{TypeDef}
use Rattle.nim_types.specs.declared.types.TheConstants.{LIST_BYTES}
use Rattle.nim_types.proofs.ForCallers.{the_form}
use Rattle.nim_meaning.specs.Values.{Value, Location, Holds, vacant}
use Rattle.nim_meaning.specs.State.{frame_at, held, slot_at, with_slot_of}
use Rattle.nim_meaning.specs.Deeds.{Done, Answers, Finishes, Fails, behind, costs}
use Rattle.nim_meaning.specs.Meaning.{place_copies}
use Rattle.nim_meaning.specs.Places.{place_at}
use Rattle.flat_code.specs.declared.block.BlockLine.{BlockLine}
use Rattle.flat_code.specs.Lines.{form_in, acts}
use Rattle.flat_code.specs.Running.{scene_of}
use Rattle.flat_code.specs.Scene.{known_in, Passes, Temps}
use Rattle.flat_code.specs.Shapes.{shape_of}
use Rattle.hook_lifting.specs.declared.lifted.Hook.TheVariants.{Copies}
use Rattle.hook_lifting.specs.Lifted.{has_hooks}
use Rattle.hook_lifting.specs.Lifting.{hook_deed}
use Rattle.hook_lifting.specs.Weights.{is_built}
use Rattle.hook_code.specs.Kept.{AreShort, AreThere, chain_of, rank_in}
use Rattle.hook_code.specs.Promises.{Routines}
use Rattle.word_lowering.specs.declared.homes.Home.{Home}
use Rattle.word_lowering.specs.HookCalled.{hook_called}
use Rattle.word_lowering.specs.Lookups.{holds_address, owns}
use Rattle.word_lowering.specs.Stored.{HaveForms}
use Rattle.word_lowering.proofs.Blocks.{Stored}
use Rattle.word_lowering.proofs.Frames.{length_set}
use Rattle.word_lowering.proofs.Gets.{filled_world, frames_kept, kept_temps, place_worlds, same_temps, slot_is}
use Rattle.word_lowering.proofs.HeapKept.{heap_same}
use Rattle.word_lowering.proofs.HookCalls.{IsArgument, around, place_argument, top}
use Rattle.word_lowering.proofs.HookReturns.{perform_answers}
use Rattle.word_lowering.proofs.HookLines.{hook_line}
use Rattle.word_lowering.proofs.HookSurroundings.{shape, surroundings}
use Rattle.word_lowering.proofs.Keeping.{location_no_place, nowhere, place_no_waiting, points_there, same_numbers, to_home, value_no_place}
use Rattle.word_lowering.proofs.Lines.{Basis, IsGood, Settles, all_procs, all_sites, changed, good_changed, starts, waits_below}
use Rattle.word_lowering.proofs.Moves.{IsHigh}
use Rattle.word_lowering.proofs.OutPlaces.{high_in_memory}
use Rattle.word_lowering.proofs.Related.{Both, high, sites_of, store_of}
use Rattle.word_lowering.proofs.Scenes.{Points, address_of, is_fixed, of_place, house, IsFilled, IsItem, IsThere, looked, FromPlace}
use Rattle.word_lowering.proofs.Settling.{code_here, code_next}
use Rattle.word_lowering.proofs.ShapeFacts.{never, of_numbers}
use Rattle.word_lowering.proofs.Sites.{InMemory}
use Rattle.word_lowering.proofs.TypeShapes.{has_form}
use Rattle.word_lowering.proofs.VacantShapes.{vacant_there}

module _ (x : Basis) (g : Both) (line : BlockLine) (rest : List BlockLine) (y : IsGood x (starts g line rest)) (is_table : IsTable x.table)
    (have : HaveForms x.table) (n ty : ℕ) (is_there : IsThere g.call.site (of_place n)) (own : owns (house g.call.site (of_place n)) ≡ true)
    (inside : InMemory (house g.call.site (of_place n)).home) (plain : holds_address (house g.call.site (of_place n)) ≡ false)
    (looks : looked x.table g.call.site (of_place n) ≡ shape_of (facts_in x.table) (type_at (types_in x.table) ty))
    (hooked : of_numbers (shape_of (facts_in x.table) (type_at (types_in x.table) ty)) ≡ false) where
  abbrev form : Form
  form = form_in (known_in x.table) ty

  abbrev blank : Value
  blank = vacant form

  abbrev home : Home
  home = (house g.call.site (of_place n)).home

  -- ---- it is open

  formed : HasForm (facts_in x.table) (type_at (types_in x.table) ty) form
  formed =
      let f = has_form x.table is_table have ty in
      subst (λ e. HasForm (facts_in x.table) (type_at (types_in x.table) ty) e) (sym (the_form f.1)) f.1

  blank_stored : Stored (is_fixed g.ground) g.ground.blocks g.memory (address_of g.call.site.base home) (looked x.table g.call.site (of_place n)) blank
  blank_stored =
      subst (λ t. Stored (is_fixed g.ground) g.ground.blocks g.memory (address_of g.call.site.base home) t blank) (sym looks)
      (vacant_there x.table (is_fixed g.ground) g.ground.blocks g.memory formed (address_of g.call.site.base home))

  blank_item : IsItem x.table (store_of g) g.call (of_place n) blank
  blank_item = record {
    there = is_there;
    plain = plain;
    shaped = λ numbers. never (sym hooked ∙ (ap of_numbers (sym looks) ∙ numbers));
    at = to_home (store_of g) g.call.site.base g.call.vars (looked x.table g.call.site (of_place n)) (house g.call.site (of_place n)) blank plain inside
        blank_stored;
  }

  abbrev pub opened : Both
  opened =
      changed g (line ∷ rest) g.call.temps g.call.vars g.memory g.words g.awaits (filled_world x g line rest y n is_there own blank)

  pub opened_good : IsGood x (starts opened line rest)
  opened_good =
      good_changed x g line rest y (line ∷ rest) g.call.site (of_place n) g.call.temps g.call.vars g.memory g.words g.awaits
      (filled_world x g line rest y n is_there own blank) y.memory (heap_same g.memory) (refl, refl) (nowhere refl)
      (place_worlds x g line rest y n is_there own blank)
      (kept_temps x g line rest y g.call.site (of_place n) g.call.temps g.call.vars (same_temps x g line rest y) (λ f u other away home. refl) refl)
      (λ e. record {
        item = λ u i h. subst (λ v. IsItem x.table (store_of g) g.call (of_place n) v) (held_is u h) blank_item;
        text = λ u a b w e f h. absurd (value_no_place u n e);
        led = λ u other e i k. absurd (location_no_place u n e);
        filled = λ m e k.
            subst (λ j. IsFilled x.table x.blocks (all_sites x g line rest y) g.ground (filled_world x g line rest y n is_there own blank) g.call j)
            (sym (same_numbers (of_place m) (of_place n) e)) (record {
              own = λ o. (blank, slot_is x g line rest y n is_there own blank);
              other = λ o. never (sym o ∙ own);
            });
        waits = λ m e. absurd (place_no_waiting n m (sym e));
      })
      (λ c from i e. absurd (waits_below x g line rest y c i e))
      (frames_kept x (all_sites x g line rest y) y.linked g.world (all_sites x g line rest y) g.call.site.level n (Some (Holds blank)) y.frames)
      (length_set g.world.frames g.call.site.level (with_slot_of (frame_at g.world g.call.site.level) n (Some (Holds blank))) ∙ y.levels)
      y.stands
    where
      held_is : (u : Value) → slot_at (filled_world x g line rest y n is_there own blank) g.call.site.level n ≡ Some (Holds u) → blank ≡ u
      held_is u e = ap held (sym (slot_is x g line rest y n is_there own blank) ∙ e)

  -- what a line does from there on it does from before
  from_opened : (done : Done Temps) → Settles x (starts opened line rest) rest (Passes done) → Settles x (starts g line rest) rest (Passes done)
  from_opened (Answers es k temps w) s = s
  from_opened (Finishes es k status w) s = s
  from_opened (Fails es k w) s = s

  -- ---- and gets the copy

  module _ (short : AreShort x.table) (first : ℕ)
      (routines : Routines x.table (surroundings (around x opened line rest opened_good is_table have)) x.live (all_procs x) x.fresh)
      (there : AreThere x.table first (all_procs x)) (d : TypeDef) (entry : slice_get x.table ty ≡ Some d) (hooks : has_hooks x.table ty ≡ true)
      (built : is_built form ≡ true) (from : Location) (b : ℕ) (from_home : Home)
      (leads : IsArgument x opened line rest opened_good is_table have false from b ty) (high_from : IsHigh from_home)
      (points : Points g.call.site.base g.call.vars from_home b)
      (room : top x opened line rest opened_good is_table have + LIST_BYTES * chain_of Copies (rank_in x.table ty)
      ≤ (around x opened line rest opened_good is_table have).limit) (shallow : rank_in x.table ty ≤ 64)
      (code : code_here x g line rest y ≡ hook_called first Copies ty home from_home (code_next x g line rest y)) where
    abbrev l : Location
    l = place_at g.call.site.level n

    from_place : FromPlace x.table (sites_of (starts opened line rest)) opened.world l (address_of g.call.site.base home)
        (shape (around x opened line rest opened_good is_table have) ty)
    from_place = record {
      site = g.call.site;
      among = inl refl;
      number = n;
      base = refl;
      filled = (Holds blank, slot_is x g line rest y n is_there own blank);
      there = is_there;
      home = inside;
      offset = 0;
      path = (refl, looks);
      address = omega arith;
    }

    pub place_copies_settles : Settles x (starts g line rest) rest
        (acts (scene_of (high x.table x.blocks (starts g line rest))) (costs 1 (place_copies form g.call.site.level n from)))
    place_copies_settles =
        subst (λ done. Settles x (starts g line rest) rest (Passes (behind [] 1 done)))
        (sym (perform_answers (hook_deed (known_in x.table) Copies ty l from) g.call.temps opened.world))
        (from_opened _
        (hook_line x opened line rest opened_good is_table have short first routines there g.call.temps
        (same_temps x opened line rest opened_good) Copies ty d entry hooks built l from (address_of g.call.site.base home) b
        (place_argument x opened line rest opened_good is_table have true l (address_of g.call.site.base home) ty from_place hooked)
        leads room shallow home from_home (high_in_memory home inside) high_from (points_there g.call.site.base g.call.vars home inside) points code))
