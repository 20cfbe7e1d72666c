-- Lines by which what somebody owns ends, or a place gets it, where it has hooks: their code calls hooks.
use Rattle.std.proofs.Common.{◌≡◌, inl, ℕ, ◌+◌, ◌^◌, ◌<◌, List, [], ◌∷◌, map, true, false, Option, Some, None, refl, sym, ap, subst, ◌∙◌, arith}
use Rattle.std.specs.Prelude.{◌==◌, not, option_map}
use Rattle.std.proofs.lemmas.Bool.{and_parts, cond-true, eq-eqb, not-true}
use Rattle.nim_types.specs.Forms.{form_of, hooked}
use Rattle.nim_types.specs.Table.{facts_in, type_at, types_in}
use Rattle.nim_types.specs.Types.{Ty}
use Rattle.nim_program.specs.Kinds.{is_of}
use Rattle.nim_meaning.specs.Deeds.{Answers, Leaves, behind, costs, does, give, perform, ◌>>=◌, ◌>>◌}
use Rattle.nim_meaning.specs.Lifted.{slot_ends}
use Rattle.nim_meaning.specs.State.{temporary_at}
use Rattle.nim_meaning.specs.Values.{At, Given, Operand, Slot, Value, Waiting, at_base}
use Rattle.flat_code.specs.declared.block.BlockLine.{BlockLine}
use Rattle.flat_code.specs.declared.line.From.{From}
use Rattle.flat_code.specs.declared.line.From.TheVariants as F
use Rattle.flat_code.specs.declared.line.Line.TheVariants as L
use Rattle.flat_code.specs.declared.line.Owning.{Owning}
use Rattle.flat_code.specs.declared.line.Owning.TheVariants as W
use Rattle.flat_code.specs.declared.place.PlaceKind.TheVariants as K
use Rattle.flat_code.specs.Codes.{block_does, block_plain}
use Rattle.flat_code.specs.Fits.{is_declared, is_location, is_own, is_value, type_by_kind}
use Rattle.flat_code.specs.Lines.{acts, form_in, if_filled, owns as owned_by, traded_by, using, without_all}
use Rattle.flat_code.specs.Running.{scene_of}
use Rattle.flat_code.specs.Scene.{Did, Passes, Where, known_in, location_at}
use Rattle.flat_code.specs.Shapes.{shape_of}
use Rattle.hook_lifting.specs.declared.lifted.Hook.TheVariants.{Ends}
use Rattle.word_code.specs.declared.word.WordInstr.{WordInstr}
use Rattle.word_code.specs.declared.word.WordInstr.TheVariants.{Label}
use Rattle.word_code.specs.Words.{from_label}
use Rattle.word_lowering.specs.declared.homes.Housed.{Housed}
use Rattle.word_lowering.specs.declared.homes.Waiter.{Waiter}
use Rattle.word_lowering.specs.LineCode.{label_before, waiter_ends_code}
use Rattle.word_lowering.specs.MayLower.{is_known}
use Rattle.word_lowering.specs.Stored.{is_hooked}
use Rattle.word_lowering.specs.Layouts.{found}
use Rattle.word_lowering.specs.WaitingCode.{leaves_code, waiter_at, waiter_house, waiting_house}
use Rattle.word_lowering.proofs.ControlLines.{plain}
use Rattle.word_lowering.proofs.HookBasis.{HookBasis, first_hook, room_here, routines_here}
use Rattle.word_lowering.proofs.HookedHere.{hooked_among, hooked_known, hooked_named}
use Rattle.word_lowering.proofs.HookedLines.{OwnPlace, place_copies_line, place_ends_line, place_gets_line, place_takes_line}
use Rattle.word_lowering.proofs.HookedMoves.{own_bits}
use Rattle.word_lowering.proofs.HookedTypes.{HookedType, chain_few}
use Rattle.word_lowering.proofs.HookWaits.{temporary_ends_settles}
use Rattle.word_lowering.proofs.HouseHooks.{hooks_type}
use Rattle.word_lowering.proofs.Gets.{same_temps}
use Rattle.word_lowering.proofs.Keeping.{waiting_inside, waiting_there}
use Rattle.word_lowering.proofs.LineFits.{are_of}
use Rattle.word_lowering.proofs.Lines.{Basis, Completes, IsGood, Settles, all_sites, completes_quiet, fits_here, known, starts, Whole}
use Rattle.word_lowering.proofs.Related.{Both, body_of, high}
use Rattle.word_lowering.proofs.Scenes.{IsThere, SaysAt, address_of, house, looked, of_place, of_value, of_waiting}
use Rattle.word_lowering.proofs.Settling.{OwnLabels, code_next, code_of_line, silent_settles}
use Rattle.word_lowering.proofs.ShapeFacts.{never, of_numbers}
use Rattle.word_lowering.proofs.Sites.{around, has_hooks, is_one_word}
use Rattle.word_lowering.proofs.Sources.{lying_all, lying_near}
use Rattle.word_lowering.proofs.Targets.{code_here, home_of_value, leads_here}
use Rattle.word_lowering.proofs.ValueFacts.{has_type, type_in}
use Rattle.word_lowering.proofs.WaitLines.{nothing_left}
use Rattle.word_lowering.proofs.WaitsRight.{right}

module _ (x : Basis) (b : HookBasis x) (g : Both) (rest : List BlockLine) where
  abbrev own_line : Owning → List From → BlockLine
  own_line what from = plain (L.Own what from)

  -- what such a line does
  abbrev does_so : Owning → List From → List Operand → Did
  does_so what from xs =
      if_filled what (scene_of (high x.table x.blocks g)) (acts (without_all (traded_by what from) (scene_of (high x.table x.blocks g)))
      (costs 1 (owned_by (known x) what g.call.site.level xs)))

  -- ---- what a place holds ends

  pub place_ends_whole : (place ty : ℕ) (from : List From) → Whole x g rest (own_line (W.PlaceEnds place ty) from)
  place_ends_whole place ty (f ∷ from) y = never (fits_here x.table x.blocks (body_of g) (own_line (W.PlaceEnds place ty) (f ∷ from)) rest y.stands)
  place_ends_whole place ty [] y =
      let line = own_line (W.PlaceEnds place ty) [] in
      let of : Ty = type_at (types_in x.table) ty in
      let f = are_of (type_in x is_declared (body_of g) place) (Some of) (fits_here x.table x.blocks (body_of g) line rest y.stands) in
      let typed : type_in x is_declared (body_of g) place ≡ Some of = f.is ∙ sym f.is_other in
      let h = hooked_named x g.call.site y.linked.0 (of_place place) ty typed (code_here x g line rest y) in
      completes_quiet x g line rest (block_does (known x) (scene_of (high x.table x.blocks (starts g line rest))) line) refl
      (place_ends_line x b g line rest y ty h place typed refl)

  -- ---- a place gets something

  -- the place of a line, which stands for nothing else
  record Getting (line : BlockLine) (y : IsGood x (starts g line rest)) (place ty : ℕ) : Type 0 where
    type_is : HookedType x ty
    own_place : OwnPlace x b g line rest y ty type_is place

  getting : (line : BlockLine) (y : IsGood x (starts g line rest)) (place ty : ℕ)
      → type_in x is_own (body_of g) place ≡ Some (type_at (types_in x.table) ty) → is_hooked x.table ty ≡ true
      → not (found is_own place (body_of g).own.all).lent ≡ true → Getting line y place ty
  getting line y place ty typed is unlent =
      let of : Ty = type_at (types_in x.table) ty in
      let m = y.linked.0.named is_own place of typed in
      let same : found is_own place (body_of g).own.all ≡ house g.call.site (of_place place) = y.linked.0.own place m.0 in
      let hooks : has_hooks x.table (found is_own place (body_of g).own.all) ≡ true
      = hooks_type x (found is_own place (body_of g).own.all) ∙ (ap (λ t. hooked (form_of (facts_in x.table) t)) m.1 ∙ (sym (x.hooks ty) ∙ is)) in
      let many : is_one_word (shape_of (facts_in x.table) of) ≡ false
      = sym (ap (λ t. is_one_word (shape_of (facts_in x.table) t)) m.1)
      ∙ (y.linked.0.built (found is_own place (body_of g).own.all) m.0.among hooks).1 in
      let o = own_bits x g line rest y place of typed many
      (sym (ap (λ h. h.lent) same) ∙ not-true (found is_own place (body_of g).own.all).lent unlent) in
      record {
        type_is = hooked_among x g.call.site y.linked.0 (found is_own place (body_of g).own.all) m.0.among ty m.1 is;
        own_place = record {
          there = o.to.there;
          own = o.own;
          plain = o.to.plain_is;
          inside = o.to.inside;
          look = o.to.look;
        };
      }

  pub place_copies_whole : (place ty : ℕ) (from : List From) → Whole x g rest (own_line (W.PlaceCopies place ty) from)
  place_copies_whole place ty [] y = never (fits_here x.table x.blocks (body_of g) (own_line (W.PlaceCopies place ty) []) rest y.stands)
  place_copies_whole place ty (F.Value t ∷ from) y =
      never (fits_here x.table x.blocks (body_of g) (own_line (W.PlaceCopies place ty) (F.Value t ∷ from)) rest y.stands)
  place_copies_whole place ty (F.Place t ∷ f ∷ from) y =
      never (fits_here x.table x.blocks (body_of g) (own_line (W.PlaceCopies place ty) (F.Place t ∷ f ∷ from)) rest y.stands)
  place_copies_whole place ty (F.Place t ∷ []) y = by (g.call.temps.places t) refl
    where
      line : BlockLine
      line = own_line (W.PlaceCopies place ty) (F.Place t ∷ [])

      of : Ty
      of = type_at (types_in x.table) ty

      by : (o : Option Where) → g.call.temps.places t ≡ o → Completes x (starts g line rest) rest
          (using (option_map (λ there. At (location_at g.call.temps there)) o) (λ v. does_so (W.PlaceCopies place ty) (F.Place t ∷ []) (v ∷ [])))
      by None e = λ before. tt
      by (Some there) e =
          let p = and_parts (is_of (type_in x is_own (body_of g) place) (Some of)) (is_of (type_in x is_location (body_of g) t) (Some of))
          (fits_here x.table x.blocks (body_of g) line rest y.stands) in
          let f = are_of (type_in x is_own (body_of g) place) (Some of) p.0 in
          let k = are_of (type_in x is_location (body_of g) t) (Some of) p.1 in
          let n = getting line y place ty (f.is ∙ sym f.is_other) (code_here x g line rest y) (leads_here x g line rest y) in
          completes_quiet x g line rest (does_so (W.PlaceCopies place ty) (F.Place t ∷ []) (At (location_at g.call.temps there) ∷ [])) refl
          (place_copies_line x b g line rest y ty n.type_is place n.own_place t (k.is ∙ sym k.is_other) there e refl)

  pub result_gets_whole : (place ty : ℕ) (from : List From) → Whole x g rest (own_line (W.ResultGets place ty) from)
  result_gets_whole place ty [] y = never (fits_here x.table x.blocks (body_of g) (own_line (W.ResultGets place ty) []) rest y.stands)
  result_gets_whole place ty (e ∷ f ∷ from) y =
      never (fits_here x.table x.blocks (body_of g) (own_line (W.ResultGets place ty) (e ∷ f ∷ from)) rest y.stands)
  result_gets_whole place ty (F.Place t ∷ []) y = by (g.call.temps.places t) refl
    where
      line : BlockLine
      line = own_line (W.ResultGets place ty) (F.Place t ∷ [])

      of : Ty
      of = type_at (types_in x.table) ty

      by : (o : Option Where) → g.call.temps.places t ≡ o → Completes x (starts g line rest) rest
          (using (option_map (λ there. At (location_at g.call.temps there)) o) (λ v. does_so (W.ResultGets place ty) (F.Place t ∷ []) (v ∷ [])))
      by None e = λ before. tt
      by (Some there) e =
          let p = and_parts (is_of (type_in x is_own (body_of g) place) (Some of)) (is_of (type_in x is_location (body_of g) t) (Some of))
          (fits_here x.table x.blocks (body_of g) line rest y.stands) in
          let f = are_of (type_in x is_own (body_of g) place) (Some of) p.0 in
          let k = are_of (type_in x is_location (body_of g) t) (Some of) p.1 in
          let n = getting line y place ty (f.is ∙ sym f.is_other) (code_here x g line rest y) (leads_here x g line rest y) in
          completes_quiet x g line rest (does_so (W.ResultGets place ty) (F.Place t ∷ []) (At (location_at g.call.temps there) ∷ [])) refl
          (place_gets_line x b g line rest y ty n.type_is place n.own_place t (k.is ∙ sym k.is_other) there e refl)
  result_gets_whole place ty (F.Value t ∷ []) y = by (g.call.temps.values t) refl
    where
      line : BlockLine
      line = own_line (W.ResultGets place ty) (F.Value t ∷ [])

      of : Ty
      of = type_at (types_in x.table) ty

      by : (o : Option Value) → g.call.temps.values t ≡ o → Completes x (starts g line rest) rest
          (using (option_map Given o) (λ v. does_so (W.ResultGets place ty) (F.Value t ∷ []) (v ∷ [])))
      by None e = λ before. tt
      by (Some v) e =
          let p = and_parts (is_of (type_in x is_own (body_of g) place) (Some of)) (is_of (type_in x is_value (body_of g) t) (Some of))
          (fits_here x.table x.blocks (body_of g) line rest y.stands) in
          let f = are_of (type_in x is_own (body_of g) place) (Some of) p.0 in
          let k = are_of (type_in x is_value (body_of g) t) (Some of) p.1 in
          let typed : type_in x is_value (body_of g) t ≡ Some of = k.is ∙ sym k.is_other in
          let n = getting line y place ty (f.is ∙ sym f.is_other) (code_here x g line rest y) (leads_here x g line rest y) in
          let there : IsThere g.call.site (of_value t)
          = home_of_value x g line rest y t (inl refl) (has_type x g.call.site (of_value t) of y.linked.0 typed).named in
          completes_quiet x g line rest (does_so (W.ResultGets place ty) (F.Value t ∷ []) (Given v ∷ [])) refl
          (place_takes_line x b g line rest y ty n.type_is place n.own_place t typed there v e refl)

  -- ---- what waits ends

  module _ (node ty : ℕ) where
    abbrev ending : BlockLine
    ending = own_line (W.TemporaryEnds node ty) []

    abbrev of : Ty
    of = type_at (types_in x.table) ty

    module _ (y : IsGood x (starts g ending rest)) (own_labels : OwnLabels x) where
      abbrev label : ℕ
      label = label_before (map block_plain rest)

      abbrev did : Did
      did = block_does (known x) (scene_of (high x.table x.blocks (starts g ending rest))) ending

      module _ (w : Waiter) (is : waiter_at node g.call.site.body.own.waiters ≡ Some w) where
        typed : (type_at (types_in x.table) w.ty ≡ of) × (is_known x.table w.ty K.Temp ≡ true)
        typed = y.linked.0.typed_at node of w (right x g ending rest y) is

        type_is : HookedType x ty
        type_is = hooked_known x w.ty typed.1 ty typed.0 (code_here x g ending rest y)

        same : house g.call.site (of_waiting node) ≡ waiting_house w
        same = ap waiter_house is

        look : looked x.table g.call.site (of_waiting node) ≡ shape_of (facts_in x.table) of
        look =
            ap (λ (z : Housed). shape_of (facts_in x.table) (type_by_kind z.kind (type_at (types_in x.table) z.ty))) same
            ∙ ap (shape_of (facts_in x.table)) typed.0

        near : g.call.site.base + w.at < 2 ^ 32
        near =
            let there : IsThere g.call.site (of_waiting node) = waiting_there g.call.site node w is in
            let all : address_of g.call.site.base (house g.call.site (of_waiting node)).home + w.bytes < 2 ^ 32
            = lying_near x (all_sites x g ending rest y) y.linked (address_of g.call.site.base (house g.call.site (of_waiting node)).home) w.bytes
            (lying_all x (all_sites x g ending rest y) y.linked g.call.site (of_waiting node) w.bytes (inl refl) there
            (waiting_inside g.call.site node there) (ap (λ (z : Housed). z.bytes) same)) in
            let below : g.call.site.base + w.at + w.bytes < 2 ^ 32
            = subst (λ (z : Housed). address_of g.call.site.base z.home + w.bytes < 2 ^ 32) same all in
            omega (arith, below)

        code_goes : (k : List WordInstr) → from_label label (code_of_line x g ending rest k) ≡ Some (Label label ∷ leaves_code (Some w) k)
        code_goes k =
            ap (λ o. from_label label (waiter_ends_code (around x.table x.blocks (body_of g)) label ty o k)) is
            ∙ cond-true (label == label) (Some (Label label ∷ leaves_code (Some w) k)) (from_label label (leaves_code (Some w) k)) (eq-eqb label label refl)

        some_ends : Settles x (starts g ending rest) rest did
        some_ends =
            temporary_ends_settles x g ending rest y b.is_table b.have b.short (first_hook x) (routines_here x b g ending rest y) b.hooks_there own_labels
            node ty w is type_is.def type_is.entry type_is.hooks type_is.built look (ap of_numbers look ∙ type_is.numbers) near
            (room_here x b g ending rest y Ends ty (chain_few x ty type_is Ends)) type_is.levels
            (ap (λ o. waiter_ends_code (around x.table x.blocks (body_of g)) label ty o (code_next x g ending rest y)) is) code_goes

      -- where nothing may wait nothing is done
      abbrev Ends_with : Option Slot → Type 0
      Ends_with o =
          Settles x (starts g ending rest) rest (Passes (behind [] 1 (perform
          (costs 1 (slot_ends (form_in (known_in x.table) ty) (at_base (Waiting g.call.site.level node)) o >> does (Leaves g.call.site.level node))
          >>= (λ u. give g.call.temps)) g.world)))

      none_ends : waiter_at node g.call.site.body.own.waiters ≡ None → Settles x (starts g ending rest) rest did
      none_ends is =
          let none : temporary_at g.world g.call.site.level node ≡ None
          = subst (λ o. SaysAt o (temporary_at g.world g.call.site.level node) g.call.site.base g.call.vars) is (y.hold.0.waits node) in
          subst Ends_with (sym none)
          (subst (λ world. Settles x (starts g ending rest) rest (Passes (Answers [] 2 g.call.temps world)))
          (sym (nothing_left g.world g.call.site.level node none))
          (silent_settles x g ending rest y g.call.temps (same_temps x g ending rest y) 2
          (ap (λ o. waiter_ends_code (around x.table x.blocks (body_of g)) label ty o (code_next x g ending rest y)) is)))

    pub temporary_ends_whole : OwnLabels x → Whole x g rest ending
    temporary_ends_whole own_labels y = completes_quiet x g ending rest (did y own_labels) refl (by (waiter_at node g.call.site.body.own.waiters) refl)
      where
        by : (o : Option Waiter) → waiter_at node g.call.site.body.own.waiters ≡ o → Settles x (starts g ending rest) rest (did y own_labels)
        by (Some w) is = some_ends y own_labels w is
        by None is = none_ends y own_labels is

  pub ends_whole : OwnLabels x → (node ty : ℕ) (from : List From) → Whole x g rest (own_line (W.TemporaryEnds node ty) from)
  ends_whole own node ty [] = temporary_ends_whole node ty own
  ends_whole own node ty (f ∷ from) = λ y.
      never (fits_here x.table x.blocks (body_of g) (own_line (W.TemporaryEnds node ty) (f ∷ from)) rest y.stands)
