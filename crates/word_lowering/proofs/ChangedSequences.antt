-- Rows that change a sequence at a location, as lines: an element comes to it, its last one goes, or it gets another length.
use Rattle.std.proofs.Common.{◌≡◌, inl, ℕ, List, [], ◌∷◌, Option, Some, None, Bool, true, false, refl, sym, ap, subst, ◌∙◌, map, ◌<◌, ◌^◌}
use Rattle.std.specs.Prelude.{◌&&◌}
use Rattle.nim_meaning.specs.OwnedRows.{added, counted, element_of, length_to, shortened}
use Rattle.word_lowering.specs.LineCode.{label_before, variable_of}
use Rattle.word_lowering.specs.Operands.{Around, location}
use Rattle.nim_meaning.specs.Values.{At, Location, Operand, Value, length_of, location_of, nothing, number_of, value_of}
use Rattle.word_lowering.proofs.Lines.{Basis, IsGood, Settles, known, starts, where_there}
use Rattle.flat_code.specs.declared.block.BlockLine.{BlockLine}
use Rattle.word_lowering.proofs.Related.{Both, body_of, high}
use Rattle.nim_meaning.specs.Deeds.{Deed, costs, give, looks, unless_gone, ◌>>=◌, ◌>>◌}
use Rattle.nim_meaning.specs.Places.{may_change}
use Rattle.nim_types.specs.Types.{Facts, Ty}
use Rattle.word_lowering.proofs.OwnedFits.{FitsRow, OwnedRow, fits_row}
use Rattle.flat_code.specs.declared.line.From.{From}
use Rattle.word_lowering.specs.declared.homes.Housed.{Housed}
use Rattle.nim_program.specs.Traps.{IndexOutOfBounds, OutOfRange}
use Rattle.word_lowering.specs.declared.homes.Home.{Home as Place}
use Rattle.word_lowering.specs.declared.homes.Home.TheVariants.{Placed, Static, Variable}
use Rattle.word_lowering.proofs.SequenceTypes.{SequencesKnown}
use Rattle.flat_code.specs.Shapes.{Shape, shape_of}
use Rattle.word_lowering.proofs.Settling.{TrapsStop, code_here, code_next}
use Rattle.flat_code.specs.declared.line.UseAt.{UseAt}
use Rattle.word_code.specs.declared.word.WordInstr.{WordInstr}
use Rattle.word_lowering.proofs.AddLines.{add_settles}
use Rattle.word_lowering.specs.OwnedCode.{added_code, counted_code, each_bytes, element_in, has_hooks, is_text as is_text_entry, popped_code, resized_code}
use Rattle.word_lowering.specs.OwnedCode.{sized_code}
use Rattle.std.proofs.lemmas.Bool.{and_parts}
use Rattle.word_lowering.specs.Lowered.{any_branches}
use Rattle.word_lowering.proofs.ApplyFits.{apply_line}
use Rattle.word_lowering.proofs.LineFits.{are_of, no_type, same_type}
use Rattle.nim_meaning.specs.Texts.{are_seen}
use Rattle.word_lowering.proofs.Sites.{around, globals_of, sigs}
use Rattle.word_lowering.specs.Stored.{base_at, entry_at}
use Rattle.flat_code.specs.Codes.{block_plain}
use Rattle.word_lowering.proofs.SequencePlaces.{comes_from, goes_to, seen_as, sequence_at, sequence_some, trap_at, zeros_blank}
use Rattle.nim_types.specs.Table.{facts_in}
use Rattle.flat_code.specs.Lines.{fetch, gives}
use Rattle.nim_meaning.specs.Here.{form_for, gives_hooked}
use Rattle.nim_types.specs.Forms.{elements, form_of, hooked}
use Rattle.word_lowering.proofs.AllOperands.{given_value}
use Rattle.word_lowering.proofs.Scenes.{house, looked, of_value}
use Rattle.nim_program.specs.View.{if_type}
use Rattle.word_lowering.proofs.ControlLines.{int_read, value_type}
use Rattle.nim_program.specs.Kinds.{is_int, is_of, is_resized, is_sequence, kind_if}
use Rattle.nim_meaning.specs.State.{is_seen, load}
use Rattle.flat_code.specs.Fits.{is_value}
use Rattle.word_lowering.specs.RoutineCode.{length_code}
use Rattle.flat_code.specs.Scene.{location_at}
use Rattle.word_lowering.proofs.ShapeFacts.{never, shape_bytes}
use Rattle.word_lowering.proofs.StoreLines.{none_temps}
use Rattle.word_lowering.proofs.PopLines.{pop_settles}
use Rattle.flat_code.specs.Running.{scene_of}
use Rattle.word_lowering.proofs.SequenceLengthLines.{sequence_length_settles}
use Rattle.word_lowering.specs.Operations.{trap_label}
use Rattle.word_lowering.proofs.ValueFacts.{type_in}
use Rattle.word_lowering.proofs.OperandTexts.{at_place, typed_parts}
use Rattle.nim_program.specs.declared.operation.Operation.TheVariants as O
use Rattle.flat_code.specs.declared.line.From.TheVariants as F
use Rattle.flat_code.specs.Fits as fit
use Rattle.nim_types.specs.Types as type
use Rattle.nim_program.specs.Kinds as kind

-- what a row looks at or keeps is a value
pub none_stands : {A : Type 0} (facts : Facts) (ty : Option Ty) (b : Bool) → ((gives_hooked facts ty && false) && b) ≡ true → A
none_stands facts ty b h = never (and_parts (gives_hooked facts ty) false (and_parts (gives_hooked facts ty && false) b h).0).1

pop_branches : (to : Housed) (from : Place) (size : ℕ) (k : List WordInstr)
    → any_branches (trap_label IndexOutOfBounds) (popped_code to from size k) ≡ true
pop_branches to (Variable n) size k = refl
pop_branches to (Placed at) size k = refl
pop_branches to (Static at) size k = refl

module _ (x : Basis) (types : SequencesKnown x) (traps : TrapsStop x) (g : Both) (rest : List BlockLine) (to : ℕ) (how : UseAt) where
  abbrev facts : Facts
  facts = facts_in x.table

  abbrev type_at_number : Option ℕ → Option Ty
  type_at_number o = if_type (known x).types o

  abbrev home_at : ℕ → Place
  home_at t = (location (around x.table x.blocks (body_of g)) t).home

  -- ---- the last one goes

  module _ (ty a : Option ℕ) (t : ℕ) where
    abbrev popping : BlockLine
    popping = apply_line x g rest to O.Pop how ty (a ∷ []) (F.Place t ∷ [])

    abbrev gives_popped : Deed Value → Type 0
    gives_popped d = Settles x (starts g popping rest) rest (gives (scene_of (high x.table x.blocks (starts g popping rest))) to (costs 1 d >>= (λ v. give v)))

    pop_one : (y : IsGood x (starts g popping rest)) (z : Operand) → fetch g.call.temps (F.Place t) ≡ Some z → is_seen g.world (location_of z) ≡ true
        → may_change (location_of z).base ≡ true → gives_popped (looks (λ world. shortened (element_of (form_for facts (type_at_number a))) (length_of
        (load world (location_of z)))
        (location_of z) world))
    pop_one y z have seen changes =
        let r : FitsRow x g rest to O.Pop how ty (a ∷ []) (F.Place t ∷ []) y = fits_row x g rest to O.Pop how ty (a ∷ []) (F.Place t ∷ []) y in
        let q = and_parts (is_sequence (kind_if facts (type_at_number a))) (is_of (kind.element_of (kind_if facts (type_at_number a))) (type_at_number ty))
        r.row in
        let s = sequence_some facts (type_at_number a) q.0 in
        let w = are_of (Some s.0) (type_at_number ty) (subst (λ o. is_of (kind.element_of (kind_if facts o)) (type_at_number ty) ≡ true) s.1 q.1) in
        let typed = typed_parts x g (F.Place t) (type_at_number a) [] [] r.typed in
        let given : type_in x is_value (body_of g) to ≡ Some s.0
        = same_type (type_in x is_value (body_of g) to) (type_at_number ty) r.given ∙ w.is_other ∙ sym w.is in
        let goes = goes_to x types g popping rest y to s.0 refl refl given in
        let may = (and_parts (fit.may_write (known x) (sigs x.table x.blocks) (globals_of x.table x.blocks) (body_of g).proc.places t) true r.written).0 in
        let p = at_place (g.call.temps.places t) (λ there. At (location_at g.call.temps there)) z have in
        let there_seen : is_seen g.world (location_at g.call.temps p.there) ≡ true
        = subst (λ u. is_seen g.world (location_of u) ≡ true) (sym p.is) seen in
        let m = sequence_at x types g popping rest y t p.there s.0 (typed.0 ∙ s.1) may p.has there_seen
        (subst (λ u. may_change (location_of u).base ≡ true) (sym p.is) changes) in
        let l : Location = location_at g.call.temps p.there in
        subst (λ o. gives_popped (looks (λ world. shortened (element_of (form_for facts o)) (length_of (load world (location_of z))) (location_of z) world)))
        (sym s.1)
        (subst (λ u. gives_popped (looks (λ world. shortened (form_of facts s.0) (length_of (load world (location_of u))) (location_of u) world))) p.is
        (pop_settles x g popping rest y l (home_at t) to goes.there (form_of facts s.0) (m.row.size ∙ ap shape_bytes (sym goes.look))
        (subst (λ k. shape_bytes k < 2 ^ 32) (sym goes.look) m.row.small)
        (trap_at x g popping rest IndexOutOfBounds (traps g popping rest y IndexOutOfBounds
        (λ k. pop_branches (house g.call.site (of_value to)) (home_at t)
        (each_bytes x.table (entry_at x.table (location (around x.table x.blocks (body_of g)) t).ty)) k)))
        m.long m.block (seen_as x types g popping rest y t l s.0 m (looked x.table g.call.site (of_value to)) goes.look)
        (ap (λ n. popped_code (house g.call.site (of_value to)) (home_at t) n (code_next x g popping rest y))
        (m.row.bytes ∙ ap shape_bytes (sym goes.look)))))

  pub pop_row : (ty : Option ℕ) (of : List (Option ℕ)) (from : List From) → OwnedRow x g rest to how O.Pop ty of from
  pop_row ty [] from y xs have seen = never (fits_row x g rest to O.Pop how ty [] from y).row
  pop_row ty (a ∷ b ∷ of) from y xs have seen = never (fits_row x g rest to O.Pop how ty (a ∷ b ∷ of) from y).row
  pop_row ty (a ∷ []) [] y xs have seen = never (fits_row x g rest to O.Pop how ty (a ∷ []) [] y).typed
  pop_row ty (a ∷ []) (f ∷ h ∷ from) y xs have seen =
      never (typed_parts x g f (type_at_number a) [] (h ∷ from) (fits_row x g rest to O.Pop how ty (a ∷ []) (f ∷ h ∷ from) y).typed).1
  pop_row ty (a ∷ []) (F.Value t ∷ []) y xs have seen = never (fits_row x g rest to O.Pop how ty (a ∷ []) (F.Value t ∷ []) y).placed
  pop_row ty (a ∷ []) (F.Place t ∷ []) y [] have seen = absurd have
  pop_row ty (a ∷ []) (F.Place t ∷ []) y (z ∷ w ∷ xs) have seen = absurd have.1
  pop_row ty (a ∷ []) (F.Place t ∷ []) y (z ∷ []) have seen =
      where_there x (starts g (popping ty a t) rest) rest (may_change (location_of z).base)
      (λ b. gives (scene_of (high x.table x.blocks (starts g (popping ty a t) rest))) to (costs 1 (unless_gone b (looks (λ world.
      shortened (element_of (form_for facts (type_at_number a))) (length_of (load world (location_of z))) (location_of z) world))) >>= (λ v. give v)))
      (λ before. tt)
      (λ changes. pop_one ty a t y z have.0 (and_parts (is_seen g.world (location_of z)) (are_seen g.world []) seen).0 changes)

  -- ---- one more comes

  module _ (a b : Option ℕ) (t u : ℕ) where
    abbrev adding : BlockLine
    adding = apply_line x g rest to O.Add how None (a ∷ b ∷ []) (F.Place t ∷ F.Value u ∷ [])

    abbrev gives_added : Deed Value → Type 0
    gives_added d = Settles x (starts g adding rest) rest (gives (scene_of (high x.table x.blocks (starts g adding rest))) to (costs 1 d >>= (λ v. give v)))

    add_two : (y : IsGood x (starts g adding rest)) (z w : Operand) → fetch g.call.temps (F.Place t) ≡ Some z → fetch g.call.temps (F.Value u) ≡ Some w
        → is_seen g.world (location_of z) ≡ true → may_change (location_of z).base ≡ true
        → gives_added (added (element_of (form_for facts (type_at_number a))) (value_of w) (location_of z) >> give nothing)
    add_two y z w have have_value seen changes =
        let r : FitsRow x g rest to O.Add how None (a ∷ b ∷ []) (F.Place t ∷ F.Value u ∷ []) y
        = fits_row x g rest to O.Add how None (a ∷ b ∷ []) (F.Place t ∷ F.Value u ∷ []) y in
        let q = and_parts (is_sequence (kind_if facts (type_at_number a))) (is_of (type_at_number b) (kind.element_of (kind_if facts (type_at_number a))))
        r.row in
        let s = sequence_some facts (type_at_number a) q.0 in
        let w_of = are_of (type_at_number b) (Some s.0) (subst (λ o. is_of (type_at_number b) (kind.element_of (kind_if facts o)) ≡ true) s.1 q.1) in
        let typed = typed_parts x g (F.Place t) (type_at_number a) (type_at_number b ∷ []) (F.Value u ∷ []) r.typed in
        let typed_value = typed_parts x g (F.Value u) (type_at_number b) [] [] typed.1 in
        let comes = comes_from x types g adding rest y u s.0 (inl refl) (typed_value.0 ∙ w_of.is ∙ sym w_of.is_other) in
        let may = (and_parts (fit.may_write (known x) (sigs x.table x.blocks) (globals_of x.table x.blocks) (body_of g).proc.places t) true r.written).0 in
        let p = at_place (g.call.temps.places t) (λ there. At (location_at g.call.temps there)) z have in
        let there_seen : is_seen g.world (location_at g.call.temps p.there) ≡ true
        = subst (λ u. is_seen g.world (location_of u) ≡ true) (sym p.is) seen in
        let m = sequence_at x types g adding rest y t p.there s.0 (typed.0 ∙ s.1) may p.has there_seen
        (subst (λ u. may_change (location_of u).base ≡ true) (sym p.is) changes) in
        let l : Location = location_at g.call.temps p.there in
        subst (λ o. gives_added (added (element_of (form_for facts o)) (value_of w) (location_of z) >> give nothing)) (sym s.1)
        (subst (λ k. gives_added (added (form_of facts s.0) (value_of w) (location_of k) >> give nothing)) p.is
        (add_settles x g adding rest y l m.long m.block (home_at t) u (value_of w) comes.there (given_value (g.call.temps.values u) w have_value)
        (seen_as x types g adding rest y t l s.0 m (looked x.table g.call.site (of_value u)) comes.look) (form_of facts s.0)
        (m.row.size ∙ ap shape_bytes (sym comes.look)) to (none_temps x g adding rest y to (no_type (value_type x g adding rest y to) r.given))
        (ap (λ n. added_code (home_at t) n (house g.call.site (of_value u)) (code_next x g adding rest y)) (m.row.bytes ∙ ap shape_bytes (sym comes.look)))))

  pub add_row : (ty : Option ℕ) (of : List (Option ℕ)) (from : List From) → OwnedRow x g rest to how O.Add ty of from
  add_row (Some ty) of from y xs have seen = never (fits_row x g rest to O.Add how (Some ty) of from y).row
  add_row None [] from y xs have seen = never (fits_row x g rest to O.Add how None [] from y).row
  add_row None (a ∷ []) from y xs have seen = never (fits_row x g rest to O.Add how None (a ∷ []) from y).row
  add_row None (a ∷ b ∷ c ∷ of) from y xs have seen = never (fits_row x g rest to O.Add how None (a ∷ b ∷ c ∷ of) from y).row
  add_row None (a ∷ b ∷ []) [] y xs have seen = never (fits_row x g rest to O.Add how None (a ∷ b ∷ []) [] y).typed
  add_row None (a ∷ b ∷ []) (f ∷ []) y xs have seen =
      never (typed_parts x g f (type_at_number a) (type_at_number b ∷ []) [] (fits_row x g rest to O.Add how None (a ∷ b ∷ []) (f ∷ []) y).typed).1
  add_row None (a ∷ b ∷ []) (f ∷ h ∷ i ∷ from) y xs have seen =
      let t = typed_parts x g f (type_at_number a) (type_at_number b ∷ []) (h ∷ i ∷ from)
      (fits_row x g rest to O.Add how None (a ∷ b ∷ []) (f ∷ h ∷ i ∷ from) y).typed in
      never (typed_parts x g h (type_at_number b) [] (i ∷ from) t.1).1
  add_row None (a ∷ b ∷ []) (F.Value t ∷ f ∷ []) y xs have seen = never (fits_row x g rest to O.Add how None (a ∷ b ∷ []) (F.Value t ∷ f ∷ []) y).placed
  add_row None (a ∷ b ∷ []) (F.Place t ∷ F.Place u ∷ []) y xs have seen =
      none_stands facts (type_at_number b) true (fits_row x g rest to O.Add how None (a ∷ b ∷ []) (F.Place t ∷ F.Place u ∷ []) y).placed
  add_row None (a ∷ b ∷ []) (F.Place t ∷ F.Value u ∷ []) y [] have seen = absurd have
  add_row None (a ∷ b ∷ []) (F.Place t ∷ F.Value u ∷ []) y (z ∷ []) have seen = absurd have.1
  add_row None (a ∷ b ∷ []) (F.Place t ∷ F.Value u ∷ []) y (z ∷ w ∷ v ∷ xs) have seen = absurd have.1.1
  add_row None (a ∷ b ∷ []) (F.Place t ∷ F.Value u ∷ []) y (z ∷ w ∷ []) have seen =
      where_there x (starts g (adding a b t u) rest) rest (may_change (location_of z).base)
      (λ h. gives (scene_of (high x.table x.blocks (starts g (adding a b t u) rest))) to (costs 1 (unless_gone h
      (added (element_of (form_for facts (type_at_number a))) (value_of w) (location_of z) >> give nothing)) >>= (λ v. give v))) (λ before. tt)
      (λ changes. add_two a b t u y z w have.0 have.1.0 (and_parts (is_seen g.world (location_of z)) (are_seen g.world (w ∷ [])) seen).0 changes)

  -- ---- another length

  module _ (a b : Option ℕ) (t u : ℕ) where
    abbrev sizing : BlockLine
    sizing = apply_line x g rest to O.SetLength how None (a ∷ b ∷ []) (F.Place t ∷ F.Value u ∷ [])

    abbrev gives_sized : Deed Value → Type 0
    gives_sized d = Settles x (starts g sizing rest) rest (gives (scene_of (high x.table x.blocks (starts g sizing rest))) to (costs 1 d >>= (λ v. give v)))

    abbrev number_home : ℕ
    number_home = variable_of (house g.call.site (of_value u))

    -- of elements without hooks
    pub length_two : (y : IsGood x (starts g sizing rest)) (z w : Operand) → fetch g.call.temps (F.Place t) ≡ Some z → fetch g.call.temps (F.Value u) ≡ Some w
        → is_seen g.world (location_of z) ≡ true → may_change (location_of z).base ≡ true → (e : Ty) → type_at_number a ≡ Some (type.sequence e)
        → hooked (form_of facts e) ≡ false → gives_sized (counted (number_of (value_of w)) (λ n. length_to (form_for facts (type_at_number a)) n
        (location_of z)))
    length_two y z w have have_value seen changes e is unhooked =
        let r : FitsRow x g rest to O.SetLength how None (a ∷ b ∷ []) (F.Place t ∷ F.Value u ∷ []) y
        = fits_row x g rest to O.SetLength how None (a ∷ b ∷ []) (F.Place t ∷ F.Value u ∷ []) y in
        let q = and_parts (is_resized (kind_if facts (type_at_number a))) (is_int (kind_if facts (type_at_number b))) r.row in
        let typed = typed_parts x g (F.Place t) (type_at_number a) (type_at_number b ∷ []) (F.Value u ∷ []) r.typed in
        let typed_value = typed_parts x g (F.Value u) (type_at_number b) [] [] typed.1 in
        let may = (and_parts (fit.may_write (known x) (sigs x.table x.blocks) (globals_of x.table x.blocks) (body_of g).proc.places t) true r.written).0 in
        let p = at_place (g.call.temps.places t) (λ there. At (location_at g.call.temps there)) z have in
        let there_seen : is_seen g.world (location_at g.call.temps p.there) ≡ true
        = subst (λ u. is_seen g.world (location_of u) ≡ true) (sym p.is) seen in
        let m = sequence_at x types g sizing rest y t p.there e (typed.0 ∙ is) may p.has there_seen
        (subst (λ u. may_change (location_of u).base ≡ true) (sym p.is) changes) in
        let l : Location = location_at g.call.temps p.there in
        let o = int_read x g sizing rest y u (value_of w) (subst (λ k. is_int (kind_if facts k) ≡ true) (sym typed_value.0) q.1)
        (given_value (g.call.temps.values u) w have_value) in
        let s : Shape = shape_of facts e in
        let here : Around = around x.table x.blocks (body_of g) in
        let h : Housed = location (around x.table x.blocks (body_of g)) t in
        let label : ℕ = label_before (map block_plain rest) in
        let next : List WordInstr = code_next x g sizing rest y in
        let code : code_here x g sizing rest y ≡ counted_code number_home (length_code (home_at t) number_home (shape_bytes s) (code_next x g sizing rest y))
        = ap (λ d. counted_code number_home (sized_code here (is_text_entry d) label h.ty h.home number_home next)) m.row.entry
        ∙ ap (λ d. counted_code number_home (resized_code here (has_hooks x.table (element_in d)) label (base_at x.table h.ty) h.home number_home
        (each_bytes x.table (entry_at x.table h.ty)) next)) m.row.entry
        ∙ ap (λ b. counted_code number_home (resized_code here b label (base_at x.table h.ty) h.home number_home
        (each_bytes x.table (entry_at x.table h.ty)) next)) (ap (λ k. hooked (form_of facts k)) m.row.is ∙ unhooked)
        ∙ ap (λ n. counted_code number_home (length_code h.home number_home n next)) m.row.bytes in
        subst (λ k. gives_sized (counted (number_of (value_of w)) (λ n. length_to (form_for facts k) n (location_of z)))) (sym is)
        (subst (λ k. gives_sized (counted (number_of (value_of w)) (λ n. length_to (elements (form_of facts e)) n (location_of k)))) p.is
        (sequence_length_settles x g sizing rest y l m.long m.block s (home_at t) m.sequence m.row.small (form_of facts e) m.row.size
        (zeros_blank x types g sizing rest y e (location (around x.table x.blocks (body_of g)) t).ty m.row m.built) unhooked
        (trap_at x g sizing rest OutOfRange (traps g sizing rest y OutOfRange (λ k. refl))) (number_of (value_of w)) o.fits number_home o.high o.word_is to
        (none_temps x g sizing rest y to (no_type (value_type x g sizing rest y to) r.given)) code))

  pub sequence_length_row : (a b : Option ℕ) (from : List From) (e : Ty) → type_at_number a ≡ Some (type.sequence e) → hooked (form_of facts e) ≡ false
      → OwnedRow x g rest to how O.SetLength None (a ∷ b ∷ []) from
  sequence_length_row a b [] e is unhooked y xs have seen = never (fits_row x g rest to O.SetLength how None (a ∷ b ∷ []) [] y).typed
  sequence_length_row a b (f ∷ []) e is unhooked y xs have seen =
      never (typed_parts x g f (type_at_number a) (type_at_number b ∷ []) [] (fits_row x g rest to O.SetLength how None (a ∷ b ∷ []) (f ∷ []) y).typed).1
  sequence_length_row a b (f ∷ h ∷ i ∷ from) e is unhooked y xs have seen =
      let t = typed_parts x g f (type_at_number a) (type_at_number b ∷ []) (h ∷ i ∷ from)
      (fits_row x g rest to O.SetLength how None (a ∷ b ∷ []) (f ∷ h ∷ i ∷ from) y).typed in
      never (typed_parts x g h (type_at_number b) [] (i ∷ from) t.1).1
  sequence_length_row a b (F.Value t ∷ f ∷ []) e is unhooked y xs have seen =
      never (fits_row x g rest to O.SetLength how None (a ∷ b ∷ []) (F.Value t ∷ f ∷ []) y).placed
  sequence_length_row a b (F.Place t ∷ F.Place u ∷ []) e is unhooked y xs have seen =
      none_stands facts (type_at_number b) true (fits_row x g rest to O.SetLength how None (a ∷ b ∷ []) (F.Place t ∷ F.Place u ∷ []) y).placed
  sequence_length_row a b (F.Place t ∷ F.Value u ∷ []) e is unhooked y [] have seen = absurd have
  sequence_length_row a b (F.Place t ∷ F.Value u ∷ []) e is unhooked y (z ∷ []) have seen = absurd have.1
  sequence_length_row a b (F.Place t ∷ F.Value u ∷ []) e is unhooked y (z ∷ w ∷ v ∷ xs) have seen = absurd have.1.1
  sequence_length_row a b (F.Place t ∷ F.Value u ∷ []) e is unhooked y (z ∷ w ∷ []) have seen =
      where_there x (starts g (sizing a b t u) rest) rest (may_change (location_of z).base)
      (λ h. gives (scene_of (high x.table x.blocks (starts g (sizing a b t u) rest))) to (costs 1 (unless_gone h
      (counted (number_of (value_of w)) (λ n. length_to (form_for facts (type_at_number a)) n (location_of z)))) >>= (λ v. give v))) (λ before. tt)
      (λ changes. length_two a b t u y z w have.0 have.1.0 (and_parts (is_seen g.world (location_of z)) (are_seen g.world (w ∷ [])) seen).0 changes e is
      unhooked)
