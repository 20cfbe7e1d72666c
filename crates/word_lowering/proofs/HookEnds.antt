-- Hooks of what a place holds that has a value of its own: it ends, or gets a copy of something else.
use Rattle.std.proofs.Common.{◌≡◌, inl, ℕ, ◌+◌, ◌*◌, ◌≤◌, List, [], Bool, true, false, Option, Some, None}
use Rattle.word_lowering.specs.Lookups.{owns}
use Rattle.std.proofs.Common.{refl, sym, subst, arith}
use Rattle.std.specs.Prelude.{slice_get}
use Rattle.nim_types.specs.Table.{IsTable}
use Rattle.nim_types.specs.declared.types.TypeDef.{TypeDef}
use Rattle.nim_types.specs.declared.types.TheConstants.{LIST_BYTES}
use Rattle.nim_meaning.specs.Acts.{branch}
use Rattle.nim_meaning.specs.Values.{At, Value, Location, Slot, Holds}
use Rattle.nim_meaning.specs.State.{slot_at}
use Rattle.nim_meaning.specs.Deeds.{behind, costs, give, perform, ◌>>=◌}
use Rattle.nim_meaning.specs.Lifted.{assigned, slot_ends}
use Rattle.nim_meaning.specs.Meaning.{place_ends}
use Rattle.nim_meaning.specs.Places.{place_at}
use Rattle.flat_code.specs.declared.block.BlockLine.{BlockLine}
use Rattle.flat_code.specs.Lines.{form_in, acts, if_open, is_there as is_open}
use Rattle.flat_code.specs.Running.{scene_of}
use Rattle.flat_code.specs.Scene.{known_in, Passes, Fails as Refuses}
use Rattle.hook_lifting.specs.declared.lifted.Hook.{Hook}
use Rattle.hook_lifting.specs.declared.lifted.Hook.TheVariants.{Assigns, Ends}
use Rattle.hook_lifting.specs.Lifted.{has_hooks}
use Rattle.hook_lifting.specs.Lifting.{hook_deed}
use Rattle.hook_lifting.specs.Weights.{is_built}
use Rattle.hook_code.specs.Kept.{AreShort, AreThere, chain_of, rank_in}
use Rattle.hook_code.specs.Promises.{Routines, from_own}
use Rattle.word_lowering.specs.declared.homes.Home.{Home}
use Rattle.word_lowering.specs.HookCalled.{hook_called}
use Rattle.word_lowering.specs.Stored.{HaveForms}
use Rattle.word_lowering.proofs.Gets.{same_temps}
use Rattle.word_lowering.proofs.HookCalls.{IsArgument, around, top, place_argument}
use Rattle.word_lowering.proofs.HookLines.{hook_line}
use Rattle.word_lowering.proofs.HookReturns.{perform_answers}
use Rattle.word_lowering.proofs.HookSurroundings.{shape, surroundings}
use Rattle.word_lowering.proofs.Keeping.{points_there}
use Rattle.word_lowering.proofs.Lines.{Basis, IsGood, Settles, all_procs, starts}
use Rattle.word_lowering.proofs.Moves.{IsHigh}
use Rattle.word_lowering.proofs.OutPlaces.{high_in_memory}
use Rattle.word_lowering.proofs.Related.{Both, high, sites_of}
use Rattle.word_lowering.proofs.Scenes.{Points, address_of, of_place, house, IsThere, looked, FromPlace}
use Rattle.word_lowering.proofs.Settling.{code_here, code_next, silent_settles}
use Rattle.word_lowering.proofs.ShapeFacts.{of_numbers}
use Rattle.word_lowering.proofs.Sites.{InMemory}

module _ (x : Basis) (g : Both) (line : BlockLine) (rest : List BlockLine) (y : IsGood x (starts g line rest)) (is_table : IsTable x.table)
    (have : HaveForms x.table) (short : AreShort x.table) (first : ℕ)
    (routines : Routines x.table (surroundings (around x g line rest y is_table have)) x.live (all_procs x) x.fresh)
    (there : AreThere x.table first (all_procs x)) where
  -- a place of the call with a value of its own, in memory
  module _ (n ty : ℕ) (d : TypeDef) (entry : slice_get x.table ty ≡ Some d) (hooks : has_hooks x.table ty ≡ true)
      (built : is_built (form_in (known_in x.table) ty) ≡ true) (is_there : IsThere g.call.site (of_place n))
      (own : owns (house g.call.site (of_place n)) ≡ true) (inside : InMemory (house g.call.site (of_place n)).home)
      (looks : looked x.table g.call.site (of_place n) ≡ shape (around x g line rest y is_table have) ty)
      (hooked : of_numbers (shape (around x g line rest y is_table have) ty) ≡ false) where
    abbrev pub l : Location
    l = place_at g.call.site.level n

    abbrev pub a : ℕ
    a = address_of g.call.site.base (house g.call.site (of_place n)).home

    abbrev home : Home
    home = (house g.call.site (of_place n)).home

    from_place : (v : Value) → slot_at g.world g.call.site.level n ≡ Some (Holds v)
        → FromPlace x.table (sites_of (starts g line rest)) g.world l a (shape (around x g line rest y is_table have) ty)
    from_place v slot = record {
      site = g.call.site;
      among = inl refl;
      number = n;
      base = refl;
      filled = (Holds v, slot);
      there = is_there;
      home = inside;
      offset = 0;
      path = (refl, looks);
      address = omega arith;
    }

    pub place_leads : (own : Bool) (v : Value) → slot_at g.world g.call.site.level n ≡ Some (Holds v)
        → IsArgument x g line rest y is_table have own l a ty
    place_leads own v slot = place_argument x g line rest y is_table have own l a ty (from_place v slot) hooked

    -- what it holds
    pub holds_one : (s : Slot) → slot_at g.world g.call.site.level n ≡ Some s → (v : Value) × (slot_at g.world g.call.site.level n ≡ Some (Holds v))
    holds_one s e = (y.hold.0.filled n is_there (s, e)).own own

    -- a hook is called at it
    module _ (hook : Hook) (from : Location) (b : ℕ) (from_home : Home)
        (leads : (v : Value) → slot_at g.world g.call.site.level n ≡ Some (Holds v)
        → IsArgument x g line rest y is_table have (from_own hook) from b ty) (high_from : IsHigh from_home)
        (points : Points g.call.site.base g.call.vars from_home b)
        (room : top x g line rest y is_table have + LIST_BYTES * chain_of hook (rank_in x.table ty)
        ≤ (around x g line rest y is_table have).limit) (shallow : rank_in x.table ty ≤ 64)
        (code : code_here x g line rest y ≡ hook_called first hook ty home from_home (code_next x g line rest y)) where
      pub place_hook : (v : Value) → slot_at g.world g.call.site.level n ≡ Some (Holds v) → Settles x (starts g line rest) rest
          (Passes (behind [] 1 (perform (hook_deed (known_in x.table) hook ty l from >>= (λ u. give g.call.temps)) g.world)))
      place_hook v slot =
          subst (λ done. Settles x (starts g line rest) rest (Passes (behind [] 1 done)))
          (sym (perform_answers (hook_deed (known_in x.table) hook ty l from) g.call.temps g.world))
          (hook_line x g line rest y is_table have short first routines there g.call.temps (same_temps x g line rest y) hook ty d entry
          hooks built l from a b (place_leads true v slot) (leads v slot) room shallow home from_home (high_in_memory home inside) high_from
          (points_there g.call.site.base g.call.vars home inside) points code)

    -- ---- its value ends

    module _ (room : top x g line rest y is_table have + LIST_BYTES * chain_of Ends (rank_in x.table ty)
        ≤ (around x g line rest y is_table have).limit) (shallow : rank_in x.table ty ≤ 64)
        (code : code_here x g line rest y ≡ hook_called first Ends ty home home (code_next x g line rest y)) where
      -- what is done, by what the place has
      abbrev Done_with : Option Slot → Type 0
      Done_with o =
          Settles x (starts g line rest) rest
          (branch (is_open o) (Passes (behind [] 1 (perform (slot_ends (form_in (known_in x.table) ty) l o >>= (λ u. give g.call.temps)) g.world))) Refuses)

      pub place_ends_settles : Settles x (starts g line rest) rest (if_open g.world g.call.site.level n
          (acts (scene_of (high x.table x.blocks (starts g line rest))) (costs 1 (place_ends (form_in (known_in x.table) ty) g.call.site.level n))))
      place_ends_settles = by (slot_at g.world g.call.site.level n) refl
        where
          by : (o : Option Slot) → slot_at g.world g.call.site.level n ≡ o → Done_with (slot_at g.world g.call.site.level n)
          by None e = subst Done_with (sym e) (λ before. tt)
          by (Some s) e =
              let v = holds_one s e in
              subst Done_with (sym v.1)
              (place_hook Ends l a home (λ u slot. place_leads true u slot) (high_in_memory home inside) (points_there g.call.site.base g.call.vars home inside)
              room shallow code v.0 v.1)

    -- ---- it gets a copy of what stands at a location, in place of what it holds

    module _ (from : Location) (b : ℕ) (from_home : Home) (leads : IsArgument x g line rest y is_table have false from b ty)
        (high_from : IsHigh from_home) (points : Points g.call.site.base g.call.vars from_home b)
        (room : top x g line rest y is_table have + LIST_BYTES * chain_of Assigns (rank_in x.table ty)
        ≤ (around x g line rest y is_table have).limit) (shallow : rank_in x.table ty ≤ 64)
        (code : code_here x g line rest y ≡ hook_called first Assigns ty home from_home (code_next x g line rest y)) where
      abbrev Gets_with : Option Slot → Type 0
      Gets_with o =
          Settles x (starts g line rest) rest (branch (is_open o)
          (Passes (behind [] 1 (perform (hook_deed (known_in x.table) Assigns ty l from >>= (λ u. give g.call.temps)) g.world))) Refuses)

      pub result_gets_settles : Settles x (starts g line rest) rest (if_open g.world g.call.site.level n
          (acts (scene_of (high x.table x.blocks (starts g line rest)))
          (costs 1 (assigned (form_in (known_in x.table) ty) (place_at g.call.site.level n) (At from)))))
      result_gets_settles = by (slot_at g.world g.call.site.level n) refl
        where
          by : (o : Option Slot) → slot_at g.world g.call.site.level n ≡ o → Gets_with (slot_at g.world g.call.site.level n)
          by None e = subst Gets_with (sym e) (λ before. tt)
          by (Some s) e =
              let v = holds_one s e in
              subst Gets_with (sym v.1) (place_hook Assigns from b from_home (λ u slot. leads) high_from points room shallow code v.0 v.1)

  -- ---- what a place stands for is another's, and stays

  module _ (n ty : ℕ) (is_there : IsThere g.call.site (of_place n)) (other : owns (house g.call.site (of_place n)) ≡ false)
      (code : code_here x g line rest y ≡ code_next x g line rest y) where
    abbrev Stays_with : Option Slot → Type 0
    Stays_with o =
        Settles x (starts g line rest) rest (branch (is_open o)
        (Passes (behind [] 1 (perform (slot_ends (form_in (known_in x.table) ty) (place_at g.call.site.level n) o >>= (λ u. give g.call.temps)) g.world)))
        Refuses)

    pub stands_settles : Settles x (starts g line rest) rest (if_open g.world g.call.site.level n
        (acts (scene_of (high x.table x.blocks (starts g line rest))) (costs 1 (place_ends (form_in (known_in x.table) ty) g.call.site.level n))))
    stands_settles = by (slot_at g.world g.call.site.level n) refl
      where
        by : (o : Option Slot) → slot_at g.world g.call.site.level n ≡ o → Stays_with (slot_at g.world g.call.site.level n)
        by None e = subst Stays_with (sym e) (λ before. tt)
        by (Some s) e =
            let v = (y.hold.0.filled n is_there (s, e)).other other in
            subst Stays_with (sym v.slot) (silent_settles x g line rest y g.call.temps (same_temps x g line rest y) 1 code)
