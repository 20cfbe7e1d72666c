-- Lines that read a sequence at a location, whatever leads there: its length, and where or what its elements are.
use Rattle.std.proofs.Common.{◌≡◌, ◌⊎◌, inl, inr, ℕ, List, [], ◌∷◌, Option, Some, None, Bool, true, false, refl, sym, ap, subst, ◌∙◌, arith, le_refl}
use Rattle.std.proofs.Common.{mul-le-mul, pos}
use Rattle.std.proofs.Common.{unsigned_abs, ◌*◌, ◌+◌, ◌<◌, ◌^◌, ◌≤◌, append-nil, length, min, negsuc, ℤ}
use Rattle.std.specs.Prelude.{◌&&◌, int_le, int_lt, nat_lt, not}
use Rattle.nim_meaning.specs.Acts.{branch, line_of}
use Rattle.nim_meaning.specs.Here.{gives_hooked}
use Rattle.nim_meaning.specs.Deeds.{Answers, costs, give, stop, unless_gone, ◌>>=◌, Finishes}
use Rattle.word_lowering.specs.LineCode.{element_at as element_code_at, measure_code, item_at, variable_of}
use Rattle.word_lowering.specs.Operands.{Around, location}
use Rattle.word_lowering.proofs.AddressFacts.{AtAddress, at_homed}
use Rattle.word_lowering.proofs.Lines.{Basis, IsGood, Settles, all_sites, branch_settles, fits_here, starts, using_settles, where_there}
use Rattle.word_lowering.proofs.HookedMoves.{BitsHere}
use Rattle.flat_code.specs.declared.block.BlockLine.{BlockLine}
use Rattle.word_lowering.proofs.Related.{Both, body_of, high}
use Rattle.word_code.specs.declared.word.WordInstr.TheVariants.{Branch}
use Rattle.word_lowering.specs.declared.homes.Home.{Home as Place}
use Rattle.flat_code.specs.Scene.{Did, Fails, Within, Passes, Where, location_at, with_value, Located, led, with_place}
use Rattle.word_lowering.specs.declared.homes.TheConstants.{FIFTH, FIRST}
use Rattle.nim_meaning.specs.Values.{Handle, Location, Number, item_of, length_of, nothing, number_of, Value}
use Rattle.word_lowering.proofs.ValueFacts.{HasType, IsPlain, Operand, has_type, look_of, type_in, with_home}
use Rattle.word_lowering.specs.declared.homes.Housed.{Housed}
use Rattle.word_lowering.proofs.TextRowRuns.{IsAt}
use Rattle.word_lowering.proofs.Blocks.{Stored}
use Rattle.word_lowering.proofs.SequenceTypes.{IsSequence, SequencesKnown}
use Rattle.word_lowering.proofs.Scenes.{FromLinked, Leads, house, is_fixed, looked, of_location, of_value, IsThere}
use Rattle.nim_program.specs.declared.operation.Measure.TheVariants.{Len}
use Rattle.nim_program.specs.Traps.{LengthChanged, IndexOutOfBounds, trap_text}
use Rattle.word_lowering.specs.declared.homes.Home.TheVariants.{Placed, Static, Variable}
use Rattle.flat_code.specs.Shapes.{Shape, elements, shape_of}
use Rattle.word_lowering.proofs.Settling.{TrapsStop, code_next, code_here}
use Rattle.nim_types.specs.Types.{Ty}
use Rattle.word_code.specs.declared.word.WordInstr.{WordInstr}
use Rattle.flat_code.specs.Lines.{acts, element_at, gives, leads, still, using_number}
use Rattle.std.proofs.lemmas.Bool.{and_parts, ltb-false}
use Rattle.word_lowering.specs.Lowered.{any_branches}
use Rattle.word_lowering.proofs.LineFits.{are_of}
use Rattle.word_lowering.proofs.Sites.{around, is_one_word}
use Rattle.word_lowering.specs.OwnedCode.{each_bytes, element_read, has_handle, is_text as is_text_entry, measured_code, owned_element_code, owned_item_code}
use Rattle.nim_program.specs.Kinds.{element_of, has_length, is_int, is_of, kind_if, TypeKind}
use Rattle.word_lowering.proofs.SequenceElementLines.{element_settles, still_counted}
use Rattle.word_lowering.specs.Stored.{entry_at}
use Rattle.nim_types.specs.Table.{facts_in, type_at, types_in}
use Rattle.nim_meaning.specs.Places.{fetched, length_at, to_item, to_one}
use Rattle.word_lowering.proofs.SequencePlaces.{goes_to, seen_handle, sequence_by}
use Rattle.word_lowering.proofs.HouseHooks.{homed, unhooked_numbers}
use Rattle.word_lowering.proofs.LocationHouses.{homed_house}
use Rattle.nim_program.specs.Ints.{fits as is_int_number, inside}
use Rattle.std.specs.Ordering.{int_eq}
use Rattle.word_lowering.proofs.ControlLines.{int_read, kind_at, plain}
use Rattle.word_lowering.proofs.NumberLines.{int_target, variable}
use Rattle.std.proofs.lemmas.Int.{ints}
use Rattle.flat_code.specs.Fits.{is_location, is_value}
use Rattle.nim_meaning.specs.State.{is_seen, is_there, is_whole, load}
use Rattle.word_lowering.proofs.SeenHandles.{led_full}
use Rattle.word_lowering.proofs.Located.{IsLinked, IsStoredAt, stored_or_linked}
use Rattle.word_lowering.proofs.LengthLines.{counted_settles}
use Rattle.flat_code.specs.Running.{scene_of}
use Rattle.word_lowering.proofs.ShapeFacts.{shape_bytes, never, of_numbers}
use Rattle.word_lowering.proofs.LentLocations.{located_here}
use Rattle.word_lowering.proofs.Arithmetic.{signed_fits, fits_signed}
use Rattle.word_lowering.specs.Operations.{trap_label, least, word}
use Rattle.arc_base.specs.declared.outside.Stream.TheVariants.{Err}
use Rattle.word_lowering.specs.declared.homes.Alias.TheVariants as alias
use Rattle.word_lowering.proofs.OrdinalChecks.{inside_is}
use Rattle.word_lowering.proofs.ItemRuns.{item_past}
use Rattle.word_lowering.proofs.SequenceItemLines.{HasElements, handle_elements, item_settles, linked_elements}
use Rattle.word_lowering.proofs.PartLines.{led_variable, own_location}
use Rattle.word_lowering.proofs.Targets.{location_alias, own_alias, pointed}
use Rattle.arc_base.specs.Event.{writes}
use Rattle.word_code.specs.declared.word.Test.TheVariants as test
use Rattle.flat_code.specs.declared.line.Line.TheVariants as L
use Rattle.nim_types.specs.Types as type
use Rattle.nim_meaning.specs.Deeds as deeds

module _ (x : Basis) (types : SequencesKnown x) (g : Both) (line : BlockLine) (rest : List BlockLine) (y : IsGood x (starts g line rest)) where
  abbrev at_house : ℕ → Housed
  at_house t = location (around x.table x.blocks (body_of g)) t

  pub record ReadsAt (t : ℕ) (l : Location) (e : Ty) : Type 0 where
    pub row : IsSequence x.table (location (around x.table x.blocks (body_of g)) t).ty e
    pub handled : has_handle (entry_at x.table (location (around x.table x.blocks (body_of g)) t).ty) ≡ true
    pub home : Place
    pub home_is : (location (around x.table x.blocks (body_of g)) t).home ≡ home
    pub address : ℕ
    pub at_home : IsAt g.call.site.base g.call.vars home address
    pub near : address + 4 < 2 ^ 32
    pub all : HasElements x g line rest y l (shape_of (facts_in x.table) e) address
    pub fits : is_int_number (pos all.long) ≡ true

  pub reads_at : (t : ℕ) (there : Where) (e : Ty) → type_in x is_location (body_of g) t ≡ Some (type.sequence e) → g.call.temps.places t ≡ Some there
      → is_seen g.world (location_at g.call.temps there) ≡ true → ReadsAt t (location_at g.call.temps there) e
  reads_at t there e typed at seen =
      let l : Location = location_at g.call.temps there in
      let s : Shape = shape_of (facts_in x.table) e in
      let has : HasType x g.call.site (of_location t) (type.sequence e) = has_type x g.call.site (of_location t) (type.sequence e) y.linked.0 typed in
      let look : looked x.table g.call.site (of_location t) ≡ elements s = look_of x g.call.site (of_location t) (type.sequence e) has in
      let p = and_parts (is_there g.world l) (is_whole g.world (load g.world l)) seen in
      let a : AtAddress x g line rest y (at_house t) there (looked x.table g.call.site (of_location t))
      = at_homed x g line rest y t there has.named (homed x g.call.site y.linked.0 t has.named) at (ap is_one_word look) in
      let leads : Leads x.table x.blocks (all_sites x g line rest y) g.ground g.world g.call.site g.call.temps there a.address (elements s)
      = subst (Leads x.table x.blocks (all_sites x g line rest y) g.ground g.world g.call.site g.call.temps there a.address) look a.leads_to in
      let full = led_full x (starts g line rest) y g.call (inl refl) there a.address (elements s) tt seen leads in
      let all = elements_at l a.address s p.1 (stored_or_linked x (starts g line rest) y g.call (inl refl) (inl refl) there a.address (elements s) full
      leads) in
      let near = all.0 in
      let few = all.1.few in
      let housed = homed_house x g line rest y t there has.named (homed x g.call.site y.linked.0 t has.named) at in
      let row : IsSequence x.table (at_house t).ty e
      = types (at_house t).ty e (sequence_by (at_house t).kind (type_at (types_in x.table) (at_house t).ty) e (housed.typed ∙ has.typed)) in
      record {
        row = row;
        handled = ap has_handle row.entry;
        home = a.home;
        home_is = a.home_is;
        address = a.address;
        at_home = record { points = a.points; high = a.high_is; small = omega (arith, near) };
        near = omega (arith, near);
        all = all.1;
        fits = signed_fits (pos all.1.long) (omega (arith, few, ints));
      }
    where
      -- in the memory of a place, in a block, or in a constant
      elements_at : (l : Location) (a : ℕ) (s : Shape) → is_whole g.world (load g.world (location_at g.call.temps there)) ≡ true
          → IsStoredAt x (starts g line rest) y (load g.world (location_at g.call.temps there)) a (elements s)
          ⊎ IsLinked x (starts g line rest) y there a (elements s)
          → (a + 8 < 2 ^ 32) × HasElements x g line rest y (location_at g.call.temps there) s a
      elements_at l a s whole (inl r) =
          let h = seen_handle x types g line rest y a s (load g.world (location_at g.call.temps there)) r.stored whole in (
            r.readable.near,
            handle_elements x g line rest y (location_at g.call.temps there) s a h.0 h.1 h.2 (subst (λ v. is_whole g.world v ≡ true) h.2 whole)
                (subst (λ v. Stored (is_fixed g.ground) g.ground.blocks g.memory a (elements s) v) h.2 r.stored),
          )
      elements_at l a s whole (inr r) = (
        r.from.near,
        linked_elements x g line rest y (location_at g.call.temps there) s a
            (subst (λ k. FromLinked g.ground k a (elements s)) (sym (ap (location_at g.call.temps) r.is)) r.from),
      )

  -- by another name of the shape
  pub elements_as : (l : Location) (a : ℕ) (s t : Shape) (e : HasElements x g line rest y l s a) → s ≡ t
      → (f : HasElements x g line rest y l t a) × (f.long ≡ e.long)
  elements_as l a s t e is = subst (λ u. (f : HasElements x g line rest y l u a) × (f.long ≡ e.long)) is (e, refl)

module _ (x : Basis) (types : SequencesKnown x) (g : Both) (rest : List BlockLine) where
  -- what happens where it isn't seen is at a fault
  module _ (line : BlockLine) (done : Bool → Did) (gone : (y : IsGood x (starts g line rest)) → Settles x (starts g line rest) rest (done false))
      (l : Location) (y : IsGood x (starts g line rest)) where
    seen_settles : (is_seen g.world l ≡ true → Settles x (starts g line rest) rest (done (is_seen g.world l)))
        → Settles x (starts g line rest) rest (done (is_seen g.world l))
    seen_settles go = by (is_seen g.world l) refl
      where
        by : (b : Bool) → is_seen g.world l ≡ b → Settles x (starts g line rest) rest (done (is_seen g.world l))
        by true e = go e
        by false e = subst (λ b. Settles x (starts g line rest) rest (done b)) (sym e) (gone y)

  -- ---- its length

  pub length_sequence : (to from : ℕ) (e : Ty) → type_in x is_location (body_of g) from ≡ Some (type.sequence e) → IsPlain x g.call.site (of_value to)
      → BitsHere x g rest (plain (L.Length to from))
  length_sequence to from e typed plain_to y =
      let line = plain (L.Length to from) in
      let kinds = and_parts (is_int (kind_at x g line rest y to)) (has_length (kind_if (facts_in x.table) (type_in x is_location (body_of g) from)))
      (fits_here x.table x.blocks (body_of g) line rest y.stands) in
      using_settles x (starts g line rest) rest (g.call.temps.places from)
      (λ there. gives (scene_of (high x.table x.blocks (starts g line rest))) to
      (costs 1 (length_at (location_at g.call.temps there) >>= (λ n. give (Number (pos n))))))
      (λ there at. where_there x (starts g line rest) rest (is_seen g.world (location_at g.call.temps there))
      (λ b. gives (scene_of (high x.table x.blocks (starts g line rest))) to
      (costs 1 (unless_gone b (give (length_of (load g.world (location_at g.call.temps there)))) >>= (λ n. give (Number (pos n)))))) (λ before. tt)
      (λ seen. let r = reads_at x types g line rest y from there e typed at seen in
      subst (λ n. Settles x (starts g line rest) rest (Passes (Answers [] 1 (with_value to g.call.temps (Number (pos n))) g.world))) (sym r.all.long_is)
      (counted_settles x g line rest y r.all.long r.address r.home r.at_home r.all.long_at r.fits to Len
      (int_target x g line rest y to refl refl plain_to kinds.0 (pos r.all.long) r.fits)
      (ap (λ b. measure_code (around x.table x.blocks (body_of g)) b Len (variable x g line rest y to)
      (location (around x.table x.blocks (body_of g)) from) (code_next x g line rest y)) r.handled
      ∙ ap (λ h. measured_code Len (variable x g line rest y to) h (code_next x g line rest y)) r.home_is))))

  -- ---- that a loop checks

  pub still_sequence : (traps : TrapsStop x) (from len : ℕ) (e : Ty) → type_in x is_location (body_of g) from ≡ Some (type.sequence e)
      → BitsHere x g rest (plain (L.Still from len))
  still_sequence traps from len e typed y =
      let line = plain (L.Still from len) in
      let kinds = and_parts (has_length (kind_if (facts_in x.table) (type_in x is_location (body_of g) from))) (is_int (kind_at x g line rest y len))
      (fits_here x.table x.blocks (body_of g) line rest y.stands) in
      using_settles x (starts g line rest) rest (g.call.temps.places from)
      (λ there. using_number g.call.temps len (λ n. acts (scene_of (high x.table x.blocks (starts g line rest)))
      (costs 1 (still (location_at g.call.temps there) n))))
      (λ there at. using_settles x (starts g line rest) rest (g.call.temps.values len)
      (λ w. acts (scene_of (high x.table x.blocks (starts g line rest))) (costs 1 (still (location_at g.call.temps there) (number_of w))))
      (λ w f. let o = int_read x g line rest y len w kinds.1 f in
      seen_settles line (λ b. acts (scene_of (high x.table x.blocks (starts g line rest))) (costs 1 (unless_gone b
      (deeds.branch (int_eq (pos (length_of (load g.world (location_at g.call.temps there)))) (number_of w)) (give nothing) (stop LengthChanged)))))
      (λ z before. tt) (location_at g.call.temps there) y
      (λ seen. let r = reads_at x types g line rest y from there e typed at seen in
      let held : ℕ = variable x g line rest y len in
      still_counted x g line rest y (location_at g.call.temps there) r.all.long r.all.long_is r.address r.all.long_at r.home r.at_home r.fits traps held o.high
      (number_of w) o.fits o.word_is
      (ap (λ b. still_at b held (location (around x.table x.blocks (body_of g)) from) (code_next x g line rest y)) r.handled
      ∙ ap (λ h. measured_code Len FIRST h (Branch test.Unequal held FIRST (trap_label LengthChanged) ∷ code_next x g line rest y)) r.home_is)
      (λ lines. subst (λ b. any_branches (trap_label LengthChanged) (still_at b held (location (around x.table x.blocks (body_of g)) from) lines) ≡ true)
      (sym r.handled) (still_branches (location (around x.table x.blocks (body_of g)) from).home held lines)))))
    where
      still_at : Bool → ℕ → Housed → List WordInstr → List WordInstr
      still_at b held h k = measure_code (around x.table x.blocks (body_of g)) b Len FIRST h (Branch test.Unequal held FIRST (trap_label LengthChanged) ∷ k)

      still_branches : (home : Place) (held : ℕ) (k : List WordInstr)
          → any_branches (trap_label LengthChanged) (measured_code Len FIRST home (Branch test.Unequal held FIRST (trap_label LengthChanged) ∷ k)) ≡ true
      still_branches (Variable n) held k = refl
      still_branches (Placed at) held k = refl
      still_branches (Static at) held k = refl

  -- ---- an element that is there

  pub element_sequence : (to from index : ℕ) (e : Ty) → type_in x is_location (body_of g) from ≡ Some (type.sequence e)
      → BitsHere x g rest (plain (L.Element to from index))
  element_sequence to from index e typed y =
      let line = plain (L.Element to from index) in
      let f = and_parts (is_of (type_in x is_value (body_of g) to) (element_of (kind_if (facts_in x.table) (type_in x is_location (body_of g) from))))
      (is_int (kind_at x g line rest y index) && not (gives_hooked (facts_in x.table) (type_in x is_value (body_of g) to)))
      (fits_here x.table x.blocks (body_of g) line rest y.stands) in
      let k = and_parts (is_int (kind_at x g line rest y index)) _ f.1 in
      let w_of = are_of (type_in x is_value (body_of g) to) (Some e)
      (subst (λ o. is_of (type_in x is_value (body_of g) to) (element_of (kind_if (facts_in x.table) o)) ≡ true) typed f.0) in
      let goes = goes_to x types g line rest y to e refl refl (w_of.is ∙ sym w_of.is_other) in
      using_settles x (starts g line rest) rest (g.call.temps.places from)
      (λ there. using_number g.call.temps index (λ z. branch (inside z (length_of (load g.world (location_at g.call.temps there))))
      (gives (scene_of (high x.table x.blocks (starts g line rest))) to (costs 1 (element_at (location_at g.call.temps there) z))) Fails))
      (λ there at. using_settles x (starts g line rest) rest (g.call.temps.values index)
      (λ w. branch (inside (number_of w) (length_of (load g.world (location_at g.call.temps there))))
      (gives (scene_of (high x.table x.blocks (starts g line rest))) to (costs 1 (element_at (location_at g.call.temps there) (number_of w)))) Fails)
      (λ w h. branch_settles x (starts g line rest) rest (inside (number_of w) (length_of (load g.world (location_at g.call.temps there))))
      (gives (scene_of (high x.table x.blocks (starts g line rest))) to (costs 1 (element_at (location_at g.call.temps there) (number_of w)))) Fails
      (λ within_it. let o = int_read x g line rest y index w k.0 h in
      seen_settles line (λ b. gives (scene_of (high x.table x.blocks (starts g line rest))) to (costs 1 (unless_gone b
      (fetched (item_of (load g.world (location_at g.call.temps there)) (location_at g.call.temps there) (unsigned_abs (number_of w)))))))
      (λ z before. tt) (location_at g.call.temps there) y
      (λ seen. let r = reads_at x types g line rest y from there e typed at seen in
      let s : Shape = looked x.table g.call.site (of_value to) in
      let held : ℕ = variable x g line rest y index in
      let here : Around = around x.table x.blocks (body_of g) in
      let into : Housed = house g.call.site (of_value to) in
      let next : List WordInstr = code_next x g line rest y in
      let all = elements_as x types g line rest y (location_at g.call.temps there) r.address (shape_of (facts_in x.table) e) s r.all (sym goes.look) in
      element_settles x g line rest y (location_at g.call.temps there) r.address to goes.there
      (unhooked_numbers x g.call.site y.linked.0 to goes.there k.1) all.0 r.near
      r.home r.at_home held o.high (subst (λ t. shape_bytes t < 2 ^ 32) (sym goes.look) r.row.small)
      (ap (λ b. element_code_at here b from index into next) r.handled
      ∙ ap (λ k. owned_element_code FIFTH k held (each_bytes x.table (entry_at x.table (location here from).ty))
      (element_read (is_text_entry (entry_at x.table (location here from).ty)) into next)) r.home_is
      ∙ ap (λ d. owned_element_code FIFTH r.home held (each_bytes x.table (entry_at x.table (location here from).ty))
      (element_read (is_text_entry d) into next)) r.row.entry
      ∙ ap (λ n. owned_element_code FIFTH r.home held n (element_read false into next)) (r.row.bytes ∙ ap shape_bytes (sym goes.look)))
      (number_of w) o.fits (subst (λ n. inside (number_of w) n ≡ true) (r.all.long_is ∙ sym all.1) within_it) o.word_is)) (λ i before. tt)))

  -- ---- where an element is

  pub item_sequence : (traps : TrapsStop x) (to from index : ℕ) (e : Ty) → type_in x is_location (body_of g) from ≡ Some (type.sequence e)
      → BitsHere x g rest (plain (L.Item to from index))
  item_sequence traps to from index e typed y =
      let line = plain (L.Item to from index) in
      let from_kind : TypeKind = kind_if (facts_in x.table) (type_in x is_location (body_of g) from) in
      let f = and_parts (is_of (type_in x is_location (body_of g) to) (element_of from_kind))
      _ (fits_here x.table x.blocks (body_of g) line rest y.stands) in
      let r = and_parts (is_int (kind_at x g line rest y index)) _ f.1 in
      let w_of = are_of (type_in x is_location (body_of g) to) (Some e)
      (subst (λ o. is_of (type_in x is_location (body_of g) to) (element_of (kind_if (facts_in x.table) o)) ≡ true) typed f.0) in
      let q = pointed x g line rest y to e (w_of.is ∙ sym w_of.is_other) in
      let there_to : IsThere g.call.site (of_location to) = with_home x q.named
      (own_alias (house g.call.site (of_location to)).alias (location_alias x g line rest y to alias.Own refl refl)) tt in
      using_settles x (starts g line rest) rest (g.call.temps.places from)
      (λ there. using_number g.call.temps index (λ z. leads (scene_of (high x.table x.blocks (starts g line rest))) to there
      (to_item (location_at g.call.temps there) z)))
      (λ there at. using_settles x (starts g line rest) rest (g.call.temps.values index)
      (λ w. leads (scene_of (high x.table x.blocks (starts g line rest))) to there (to_item (location_at g.call.temps there) (number_of w)))
      (λ w h. let o = int_read x g line rest y index w r.0 h in
      seen_settles line (λ b. leads (scene_of (high x.table x.blocks (starts g line rest))) to there
      (costs 1 (unless_gone b (deeds.branch (inside (number_of w) (length_of (load g.world (location_at g.call.temps there))))
      (to_one (load g.world (location_at g.call.temps there)) (location_at g.call.temps there) (unsigned_abs (number_of w)))
      (stop IndexOutOfBounds))))) (λ z before. tt) (location_at g.call.temps there) y
      (λ seen. subst (λ b. Settles x (starts g line rest) rest (leads (scene_of (high x.table x.blocks (starts g line rest))) to there
      (costs 1 (unless_gone b (deeds.branch (inside (number_of w) (length_of (load g.world (location_at g.call.temps there))))
      (to_one (load g.world (location_at g.call.temps there)) (location_at g.call.temps there) (unsigned_abs (number_of w)))
      (stop IndexOutOfBounds)))))) (sym seen)
      (found y there at w o there_to q.look (reads_at x types g line rest y from there e typed at seen)))))
    where
      item_line : BlockLine
      item_line = plain (L.Item to from index)

      item_branches : (lead : ℕ) (home : Place) (held size : ℕ) (k : List WordInstr)
          → any_branches (trap_label IndexOutOfBounds) (owned_item_code lead home held size k) ≡ true
      item_branches lead (Variable n) held size k = refl
      item_branches lead (Placed at) held size k = refl
      item_branches lead (Static at) held size k = refl

      found : (y : IsGood x (starts g item_line rest)) (there : Where) (at : g.call.temps.places from ≡ Some there) (w : Value) (o : Operand x g.call index w)
          (there_to : IsThere g.call.site (of_location to))
          → looked x.table g.call.site (of_location to) ≡ shape_of (facts_in x.table) e
          → ReadsAt x types g item_line rest y from (location_at g.call.temps there) e
          → Settles x (starts g item_line rest) rest (leads (scene_of (high x.table x.blocks (starts g item_line rest))) to there
          (costs 1 (deeds.branch (inside (number_of w) (length_of (load g.world (location_at g.call.temps there))))
          (to_one (load g.world (location_at g.call.temps there)) (location_at g.call.temps there) (unsigned_abs (number_of w)))
          (stop IndexOutOfBounds))))
      found y there at w o there_to look r = by (inside (number_of w) (length_of (load g.world l))) refl
        where
          l : Location
          l = location_at g.call.temps there

          s : Shape
          s = shape_of (facts_in x.table) e

          held : ℕ
          held = variable x g item_line rest y index

          here : Around
          here = around x.table x.blocks (body_of g)

          next : List WordInstr
          next = code_next x g item_line rest y

          code : code_here x g item_line rest y ≡ owned_item_code (led_variable x g item_line rest y to) r.home held (shape_bytes s) next
          code =
              ap (λ b. item_at here b to from index next) r.handled
              ∙ ap (λ u. owned_item_code (variable_of u) (location here from).home held (each_bytes x.table (entry_at x.table (location here from).ty)) next)
              (own_location x g item_line rest y to there_to)
              ∙ ap (λ k. owned_item_code (led_variable x g item_line rest y to) k held (each_bytes x.table (entry_at x.table (location here from).ty)) next)
              r.home_is
              ∙ ap (λ n. owned_item_code (led_variable x g item_line rest y to) r.home held n next) r.row.bytes

          -- no value of a temporary has such a location
          located : (m : Location) × (there ≡ Located m)
          located =
              let has : HasType x g.call.site (of_location from) (type.sequence e)
              = has_type x g.call.site (of_location from) (type.sequence e) y.linked.0 typed in
              located_here x g item_line rest y from has.named (ap of_numbers (look_of x g.call.site (of_location from) (type.sequence e) has)) there at

          Leads_on : Bool → Type 0
          Leads_on b = Settles x (starts g item_line rest) rest (leads (scene_of (high x.table x.blocks (starts g item_line rest))) to there
              (costs 1 (deeds.branch b (to_one (load g.world l) l (unsigned_abs (number_of w))) (stop IndexOutOfBounds))))

          Leads_one : Bool → Type 0
          Leads_one b = Settles x (starts g item_line rest) rest (leads (scene_of (high x.table x.blocks (starts g item_line rest))) to there
              (costs 1 (unless_gone b (give (item_of (load g.world l) l (unsigned_abs (number_of w)))))))

          inside_it : (z : ℤ) → number_of w ≡ z → inside z r.all.long ≡ true → Leads_one true
          inside_it (negsuc i) is h = never h
          inside_it (pos i) is h =
              let fz : is_int_number (pos i) ≡ true = subst (λ z. is_int_number z ≡ true) is o.fits in
              let less : i < r.all.long = (let q = (and_parts (int_le (pos 0) (pos i)) (int_lt (pos i) (pos r.all.long)) h).1 in omega (arith, ints, q)) in
              let wi : word (pos i) ≡ i = (let q = fits_signed (pos i) fz in omega (arith, ints)) in
              subst (λ z. Settles x (starts g item_line rest) rest (Passes (Answers [] 1
              (with_place to g.call.temps (led there (item_of (load g.world l) l (unsigned_abs z)))) g.world))) (sym is)
              (subst (λ place. Settles x (starts g item_line rest) rest (Passes (Answers [] 1 (with_place to g.call.temps place) g.world)))
              (sym (ap (λ z. led z (item_of (load g.world l) l i)) located.1))
              (item_settles x g item_line rest y l s r.address r.all r.near r.home r.at_home to held there_to look o.high i less
              (o.word_is ∙ ap Some (ap word is ∙ wi)) code))

          by : (b : Bool) → inside (number_of w) (length_of (load g.world l)) ≡ b → Leads_on (inside (number_of w) (length_of (load g.world l)))
          by true h =
              subst Leads_on (sym h) (subst Leads_one (sym r.all.may)
              (inside_it (number_of w) refl (subst (λ n. inside (number_of w) n ≡ true) r.all.long_is h)))
          by false h =
              let out : inside (number_of w) r.all.long ≡ false = subst (λ n. inside (number_of w) n ≡ false) r.all.long_is h in
              let m : min r.all.long least ≡ r.all.long = (let c = fits_signed (pos r.all.long) r.fits in omega (arith, ints)) in
              let past : r.all.long ≤ word (number_of w)
              = ltb-false (word (number_of w)) r.all.long
              (ap (λ n. nat_lt (word (number_of w)) n) (sym m) ∙ inside_is (number_of w) r.all.long o.fits ∙ out) in
              let few = r.all.few in
              subst Leads_on (sym h) (subst (λ d. Settles x (starts g item_line rest) rest d)
              (ap (λ es. Passes (Finishes es (1 + length (line_of (trap_text IndexOutOfBounds))) 1 g.world))
              (sym (append-nil (writes Err (line_of (trap_text IndexOutOfBounds))))))
              (item_past x g item_line rest y r.address r.near r.all.long r.all.start r.all.long_at (omega (arith, few)) r.all.start_at r.all.start_near r.home
              r.at_home (shape_bytes s) r.row.small to held o.high (word (number_of w)) o.word_is code past traps
              (λ lines. subst (λ b. any_branches (trap_label IndexOutOfBounds) (item_at here b to from index lines) ≡ true) (sym r.handled)
              (item_branches (variable_of (location here to)) (location here from).home held (each_bytes x.table (entry_at x.table (location here from).ty))
              lines))))
