-- Lines about what waits: an operation takes it up, a value begins to wait, a path begins where one waits, and a place stands for a location.
use Rattle.std.proofs.Common.{◌≡◌, inl, ℕ, zero, suc, ◌+◌, List, [], ◌∷◌, Option, Some, None, Bool, true, false}
use Rattle.std.proofs.Common.{refl, sym, ap, subst, ◌∙◌, arith}
use Rattle.std.proofs.lemmas.Bool.{and_parts, not-true}
use Rattle.std.proofs.lemmas.Option.{none-some}
use Rattle.std.specs.Prelude.{nat_eq, not, if◌then◌else◌, slice_get, slice_set}
use Rattle.nim_types.specs.Table.{facts_in, types_in, type_at}
use Rattle.nim_meaning.specs.Values.{Value, Given, Holds, Operand, bytes, value_of}
use Rattle.nim_meaning.specs.State.{Frame, Temporary, World, frame_at, frame_in, temporary_at, temporary_in, with_none_waiting, with_one_waiting}
use Rattle.nim_meaning.specs.State.{with_temporaries, without_temporary_in}
use Rattle.nim_meaning.specs.Deeds.{Answers}
use Rattle.flat_code.specs.declared.block.BlockLine.{BlockLine}
use Rattle.flat_code.specs.declared.line.From.{From}
use Rattle.flat_code.specs.declared.line.From.TheVariants as F
use Rattle.flat_code.specs.declared.line.Line.{Line}
use Rattle.flat_code.specs.declared.line.Line.TheVariants as L
use Rattle.flat_code.specs.Running.{scene_of}
use Rattle.flat_code.specs.declared.line.Owning.TheVariants as W
use Rattle.flat_code.specs.declared.place.FlatPlace.{FlatPlace}
use Rattle.flat_code.specs.Fits.{if_kind, if_type_of, is_declared, is_location, is_standing, is_value, place_named, place_type, type_by_kind}
use Rattle.flat_code.specs.Scene.{Passes, Did}
use Rattle.flat_code.specs.Shapes.{Shape, shape_of}
use Rattle.word_code.specs.declared.word.WordInstr.{WordInstr}
use Rattle.nim_program.specs.Kinds.{is_of}
use Rattle.word_lowering.specs.declared.homes.Housed.{Housed}
use Rattle.word_lowering.specs.declared.homes.Waiter.{Waiter}
use Rattle.word_lowering.specs.Stored.{is_hooked}
use Rattle.word_lowering.specs.WaitingCode.{leaves_code, waiter_at, waiter_house}
use Rattle.word_lowering.proofs.ControlLines.{plain}
use Rattle.word_lowering.proofs.Gets.{same_temps}
use Rattle.word_lowering.proofs.HouseHooks.{homed}
use Rattle.word_lowering.proofs.Keeping.{call, from_home, waiting_there}
use Rattle.word_lowering.proofs.FullValues.{stored_bytes}
use Rattle.word_lowering.proofs.LeadLines.{fresh_at_node}
use Rattle.word_lowering.proofs.LineFits.{are_of}
use Rattle.word_lowering.proofs.Lines.{Basis, Settles, all_settles, completes_quiet, fits_here, known, mapped_settles, starts, Whole}
use Rattle.word_lowering.proofs.OwningLines.{taken_line, waits_line}
use Rattle.word_lowering.proofs.PlaceStandsLines.{place_stands}
use Rattle.word_lowering.proofs.Related.{Both, body_of, code_behind, high, store_of}
use Rattle.word_lowering.proofs.Scenes.{IsNamed, address_of, house, is_fixed, looked, of_location, of_place, of_value, of_waiting}
use Rattle.word_lowering.proofs.Settling.{LabelsLead, silent_settles}
use Rattle.word_lowering.proofs.ShapeFacts.{never, of_numbers}
use Rattle.word_lowering.proofs.Sites.{Site, type_of}
use Rattle.word_lowering.proofs.SitesApart.{houses}
use Rattle.word_lowering.proofs.Targets.{home_of_value, leads_here, stands_here}
use Rattle.word_lowering.proofs.ValueFacts.{has_type, place_there, type_in, value_plain}
use Rattle.word_lowering.proofs.WaitsRight.{kept_here, right, waits_so}
use Rattle.word_lowering.proofs.Scenes.{SaysAt}
use Rattle.flat_code.specs.Codes.{block_does}
use Rattle.word_lowering.proofs.LentLocations.{lent_shape, located_here}

-- ---- where nothing waits nothing is taken away

none_away : (ts : List Temporary) (node : ℕ) → temporary_in ts node ≡ None → without_temporary_in ts node ≡ ts
none_away [] node e = refl
none_away (t ∷ ts) node e = by (nat_eq t.node node) (λ h. none_away ts node h) e
  where
    by : (b : Bool) → (temporary_in ts node ≡ None → without_temporary_in ts node ≡ ts) → (if b then Some t.slot else temporary_in ts node) ≡ None
        → (if b then ts else t ∷ without_temporary_in ts node) ≡ t ∷ ts
    by true go e = absurd (none-some t.slot (sym e))
    by false go e = ap (λ rest. t ∷ rest) (go e)

frame_back : (frames : List Frame) (i : ℕ)
    → slice_set frames i (record (frame_in (slice_get frames i)) { temporaries = (frame_in (slice_get frames i)).temporaries }) ≡ frames
frame_back [] i = refl
frame_back (f ∷ frames) zero = refl
frame_back (f ∷ frames) (suc i) = ap (λ rest. f ∷ rest) (frame_back frames i)

pub nothing_left : (w : World) (level node : ℕ) → temporary_at w level node ≡ None → with_none_waiting w level node ≡ w
nothing_left w level node e =
    ap (λ ts. with_temporaries w level ts) (none_away (frame_at w level).temporaries node e) ∙ ap (λ fs. record w { frames = fs }) (frame_back w.frames level)

-- ---- names by what fits

some_value : (o : Option FlatPlace) → if_kind is_value o ≡ true → (p : FlatPlace) × (o ≡ Some p)
some_value None h = never h
some_value (Some p) h = (p, refl)

module _ (x : Basis) (labels : LabelsLead x) (g : Both) (rest : List BlockLine) where
  abbrev s : Site
  s = g.call.site

  abbrev did : Line → Did
  did line = block_does (known x) (scene_of (high x.table x.blocks (starts g (plain line) rest))) (plain line)

  -- ---- it is taken up

  pub taken_whole : (node : ℕ) (from : List From) → Whole x g rest (plain (L.Own (W.TakenUp node) from))
  taken_whole node from y =
      completes_quiet x g (plain (L.Own (W.TakenUp node) from)) rest (did (L.Own (W.TakenUp node) from)) refl (by (waiter_at node s.body.own.waiters) refl)
    where
      next : List WordInstr
      next = code_behind x.table x.blocks (body_of g) rest

      by : (o : Option Waiter) → waiter_at node s.body.own.waiters ≡ o
          → Settles x (starts g (plain (L.Own (W.TakenUp node) from)) rest) rest (did (L.Own (W.TakenUp node) from))
      by (Some w) e = taken_line x labels g rest node w e from y
      by None e =
          let line : BlockLine = plain (L.Own (W.TakenUp node) from) in
          let none : temporary_at g.world s.level node ≡ None
          = subst (λ o. SaysAt o (temporary_at g.world s.level node) s.base g.call.vars) e (y.hold.0.waits node) in
          all_settles x (starts g line rest) rest g.call.temps from
          (λ (xs : List Operand). Passes (Answers [] 1 g.call.temps (with_none_waiting g.world s.level node)))
          (λ xs. subst (λ w. Settles x (starts g line rest) rest (Passes (Answers [] 1 g.call.temps w))) (sym (nothing_left g.world s.level node none))
          (silent_settles x g line rest y g.call.temps (same_temps x g line rest y) 1 (ap (λ o. leaves_code o next) e)))

  -- ---- a value begins to wait

  module _ (node t : ℕ) where
    abbrev waiting : BlockLine
    waiting = plain (L.Own (W.Waits node) (F.Value t ∷ []))

    pub waits_whole : Whole x g rest waiting
    waits_whole y =
        let p = some_value (place_named is_value (body_of g).proc.places t) (fits_here x.table x.blocks (body_of g) waiting rest y.stands) in
        let named : IsNamed s (of_value t)
        = (y.linked.0.named is_value t (place_type (known x) p.0) (ap (if_type_of (known x)) p.1)).0 in
        let there = home_of_value x g waiting rest y t (inl refl) named in
        let is_hooked_here : is_hooked x.table (house s (of_value t)).ty ≡ true = leads_here x g waiting rest y in
        let k = kept_here x g waiting rest y t node (right x g waiting rest y) there is_hooked_here in
        let w : Waiter = k.waiter in
        let may = waits_so x g waiting rest y t node there is_hooked_here k in
        completes_quiet x g waiting rest (did (L.Own (W.Waits node) (F.Value t ∷ []))) refl
        (mapped_settles x (starts g waiting rest) rest (g.call.temps.values t) Given
        (λ z. Passes (Answers [] (1 + (bytes (value_of z) + 0)) g.call.temps (with_one_waiting g.world s.level node (Holds (value_of z)))))
        (λ v has.
        let h : Housed = house s (of_value t) in
        let look : Shape = looked x.table s (of_value t) in
        let item = y.hold.0.items (of_value t) v there has in
        let stored = from_home (store_of g) s.base g.call.vars look h v (value_plain h there.kind) may.memory item.at in
        let size = stored_bytes (is_fixed g.ground) g.ground.blocks g.memory (address_of s.base h.home) look v stored (item.shaped refl) in
        let housed = (houses x.table x.blocks s (of_value t) y.linked.0 there).bytes in
        let same = may.bytes in
        waits_line x labels g rest node w k.is t y
        (record { is_there = may.is_there; memory = may.memory; no_word = may.no_word; bytes = may.bytes; look = may.look }) may.whole may.some may.near
        (λ v numbers. never (sym may.many ∙ numbers)) (1 + (bytes v + 0)) (omega (arith, size, housed, same)) v has))

  -- ---- a path begins where a value waits

  module _ (to from node : ℕ) where
    abbrev fresh : BlockLine
    fresh = plain (L.Fresh to from (Some node))

    pub fresh_whole : Whole x g rest fresh
    fresh_whole y =
        let fit = and_parts (is_of (type_in x is_location (body_of g) to) (type_in x is_value (body_of g) from)) _
        (fits_here x.table x.blocks (body_of g) fresh rest y.stands) in
        let f = are_of (type_in x is_location (body_of g) to) (type_in x is_value (body_of g) from) fit.0 in
        let n = has_type x s (of_value from) f.ty y.linked.0 f.is_other in
        let m = has_type x s (of_location to) f.ty y.linked.0 f.is in
        let there = home_of_value x g fresh rest y from (inl refl) n.named in
        let k = kept_here x g fresh rest y from node (right x g fresh rest y) there (leads_here x g fresh rest y) in
        let w : Waiter = k.waiter in
        let waiting_type : type_of x.table (house s (of_waiting node)) ≡ type_at (types_in x.table) w.ty
        = ap (λ o. type_of x.table (waiter_house o)) k.is in
        let value_type : type_of x.table (house s (of_value from)) ≡ type_at (types_in x.table) w.ty
        = ap (λ kind. type_by_kind kind (type_at (types_in x.table) (house s (of_value from)).ty)) k.kind
        ∙ ap (type_at (types_in x.table)) (sym k.type_is) in
        completes_quiet x g fresh rest (did (L.Fresh to from (Some node))) refl
        (fresh_at_node x labels g rest to from node (waiting_there s node w k.is) (waiting_type ∙ sym value_type ∙ (n.typed ∙ sym m.typed))
        (read_only (is_standing (house s (of_location to)).kind) refl (not-true (if_kind is_standing (place_named is_location (body_of g).proc.places to))
        (and_parts (not (if_kind is_standing (place_named is_location (body_of g).proc.places to))) _ fit.1).0)) y)
      where
        read_only : (b : Bool) → is_standing (house s (of_location to)).kind ≡ b
            → if_kind is_standing (place_named is_location (body_of g).proc.places to) ≡ false → b ≡ false
        read_only true e h = never (sym h ∙ y.linked.0.may_be_standing to e)
        read_only false e h = refl

  -- ---- a place stands for a location

  pub stands_whole : (p t : ℕ) → Whole x g rest (plain (L.Own (W.PlaceStands p) (F.Place t ∷ [])))
  stands_whole p t y =
      let line : BlockLine = plain (L.Own (W.PlaceStands p) (F.Place t ∷ [])) in
      let f = are_of (if_type_of (known x) (place_named is_declared (body_of g).proc.places p)) (type_in x is_location (body_of g) t)
      (fits_here x.table x.blocks (body_of g) line rest y.stands) in
      let n = has_type x s (of_place p) f.ty y.linked.0 f.is in
      let m = has_type x s (of_location t) f.ty y.linked.0 f.is_other in
      let there = place_there x s p y.linked.0 n.named in
      let blocks_in = lent_shape x (house s (of_place p)) (houses x.table x.blocks s (of_place p) y.linked.0 there) (stands_here x g line rest y p refl).0 in
      let same : looked x.table s (of_location t) ≡ looked x.table s (of_place p) = ap (shape_of (facts_in x.table)) (m.typed ∙ sym n.typed) in
      completes_quiet x g line rest (did (L.Own (W.PlaceStands p) (F.Place t ∷ []))) refl
      (place_stands x labels g rest p t blocks_in (homed x s y.linked.0 t m.named)
      (located_here x g line rest y t m.named (ap of_numbers same ∙ blocks_in)) y)
