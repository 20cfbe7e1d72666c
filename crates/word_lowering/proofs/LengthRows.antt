-- A text at a location gets another length, as a line by the operands of its row.
use Rattle.std.proofs.Common.{map, ◌≡◌, ℕ, List, [], ◌∷◌, Some, None, Bool, true, false, ℤ, refl, sym, ap, subst, ◌∙◌, arith}
use Rattle.std.proofs.lemmas.Bool.{and_parts}
use Rattle.nim_types.specs.declared.types.TypeDef.TheVariants as D
use Rattle.nim_types.specs.Forms.{block as text_form, form_of}
use Rattle.nim_types.specs.Table.{facts_in, type_at, types_in}
use Rattle.nim_types.specs.Types as type
use Rattle.nim_types.specs.Types.{Ty}
use Rattle.nim_program.specs.declared.operation.Operation.TheVariants as O
use Rattle.nim_program.specs.Kinds.{is_int, is_resized, is_text, kind_of}
use Rattle.nim_program.specs.Traps.{OutOfRange}
use Rattle.nim_meaning.specs.Deeds.{Deed, branch, costs, frees, give, looks, perform, refills, sets, unless_gone, ◌>>=◌, ◌>>◌}
use Rattle.nim_meaning.specs.OwnedRows.{counted, length_to, owned}
use Rattle.nim_meaning.specs.State.{is_seen, load}
use Rattle.nim_meaning.specs.Table.{does}
use Rattle.nim_meaning.specs.Texts.{are_seen}
use Rattle.nim_meaning.specs.Values.{At, Location, Operand, is_handle, location_of, number_of, value_of}
use Rattle.flat_code.specs.declared.block.BlockLine.{BlockLine}
use Rattle.flat_code.specs.declared.line.From.TheVariants as F
use Rattle.flat_code.specs.declared.line.UseAt.{UseAt}
use Rattle.flat_code.specs.declared.place.PlaceKind.{PlaceKind}
use Rattle.flat_code.specs.declared.place.PlaceKind.TheVariants as K
use Rattle.flat_code.specs.Fits as fit
use Rattle.flat_code.specs.Fits.{type_by_kind}
use Rattle.flat_code.specs.Lines.{gives}
use Rattle.flat_code.specs.Running.{scene_of}
use Rattle.flat_code.specs.Scene.{location_at}
use Rattle.flat_code.specs.Shapes.{block, shape_of}
use Rattle.word_lowering.specs.declared.homes.Housed.{Housed}
use Rattle.word_lowering.specs.LineCode.{variable_of}
use Rattle.word_lowering.specs.Operands.{Around, location}
use Rattle.word_lowering.specs.OwnedCode.{counted_code, sized_code}
use Rattle.word_lowering.specs.OwnedCode.{is_text as is_text_entry}
use Rattle.word_lowering.specs.Stored.{entry_at}
use Rattle.word_lowering.proofs.AllOperands.{Have, given_value}
use Rattle.word_lowering.proofs.ApplyFits.{apply_line}
use Rattle.word_lowering.proofs.ChangedTexts.{IsHandleOf, handle_of, text_there}
use Rattle.word_lowering.proofs.ControlLines.{number_read, value_type}
use Rattle.word_lowering.proofs.HouseHooks.{homed}
use Rattle.word_lowering.proofs.JoinedTypes.{text_entry, text_looks}
use Rattle.word_lowering.proofs.LineFits.{int_shape, no_type}
use Rattle.word_lowering.proofs.Lines.{Basis, IsGood, Settles, known, starts, where_there}
use Rattle.nim_meaning.specs.Places.{may_change}
use Rattle.word_lowering.proofs.LocationHouses.{homed_house}
use Rattle.word_lowering.proofs.OperandTexts.{IsAtPlace, at_place, typed_parts, type_from}
use Rattle.word_lowering.proofs.OwnedFits.{FitsRow, fits_row}
use Rattle.word_lowering.proofs.Related.{Both, body_of, high}
use Rattle.word_lowering.proofs.Scenes.{house, of_location, of_value}
use Rattle.word_lowering.proofs.Settling.{TrapStops, code_next}
use Rattle.word_lowering.proofs.ShapeFacts.{never, of_numbers}
use Rattle.word_lowering.proofs.Sites.{around, type_of}
use Rattle.word_lowering.proofs.StoreLines.{none_temps}
use Rattle.word_lowering.proofs.TextLengthLines.{text_length_settles}
use Rattle.word_lowering.proofs.ValueFacts.{has_type, look_of}
use Rattle.word_lowering.proofs.WrittenLines.{Writing}
use Rattle.std.specs.Prelude.{unsigned_abs, ◌-◌}
use Rattle.nim_meaning.specs.Deeds.{behind}
use Rattle.nim_meaning.specs.Heap.{Characters}
use Rattle.nim_meaning.specs.Lifted.{fresh, has_place}
use Rattle.nim_meaning.specs.OwnedRows.{text_to}
use Rattle.nim_meaning.specs.State.{text_of}
use Rattle.nim_meaning.specs.Values.{Handle, Value, block_of, length_of, nothing}
use Rattle.flat_code.specs.Codes.{block_plain}
use Rattle.flat_code.specs.Scene.{Passes, with_value}
use Rattle.word_code.specs.declared.word.WordInstr.{WordInstr}
use Rattle.word_code.specs.Words.{put}
use Rattle.word_code.proofs.ForCallers.{at}
use Rattle.word_lowering.specs.declared.homes.TheConstants.{FIRST}
use Rattle.word_lowering.specs.declared.homes.Home.{Home as Place}
use Rattle.word_lowering.specs.LineCode.{label_before}
use Rattle.word_lowering.specs.Operations.{least}
use Rattle.word_lowering.specs.RoutineCode.{text_length_code}
use Rattle.word_lowering.proofs.CountedRuns.{counted_runs}
use Rattle.word_lowering.proofs.JoinedTypes.{text_type}
use Rattle.word_lowering.proofs.Lines.{all_procs}
use Rattle.word_lowering.proofs.NewLines.{value_deed}
use Rattle.word_lowering.proofs.Related.{within}
use Rattle.word_lowering.proofs.RowRuns.{RowDoes}
use Rattle.word_lowering.proofs.RowSettles.{row_settles}
use Rattle.word_lowering.proofs.Settling.{TrapsStop, code_here}
use Rattle.word_lowering.proofs.Sites.{globals_of, sigs}
use Rattle.word_lowering.proofs.TextLengthLines.{traps_here}
use Rattle.word_lowering.proofs.ValueFacts.{Operand as Operand_read}

-- where the type's values are texts, they are by the entry of each house of it
pub text_house : (x : Basis) (said : Writing x) (h : Housed) → shape_of (facts_in x.table) (type_of x.table h) ≡ block → entry_at x.table h.ty ≡ Some D.Text
text_house x said h look = by h.kind look
  where
    by : (kind : PlaceKind) → shape_of (facts_in x.table) (type_by_kind kind (type_at (types_in x.table) h.ty)) ≡ block → entry_at x.table h.ty ≡ Some D.Text
    by K.Counter e = never (ap of_numbers (sym e))
    by kind e = text_entry x.table (entry_at x.table h.ty) (shape_of (facts_in x.table) (type_at (types_in x.table) h.ty)) (said.looks h.ty) e

module _ (x : Basis) (said : Writing x) (g : Both) (rest : List BlockLine) (to : ℕ) (how : UseAt)
    (stops : TrapsStop x) (a b t u : ℕ) (of_text : is_text (kind_of (facts_in x.table) (type_at (types_in x.table) a)) ≡ true) where
  abbrev type_a : Ty
  type_a = type_at (types_in x.table) a

  abbrev type_b : Ty
  type_b = type_at (types_in x.table) b

  abbrev line : BlockLine
  line = apply_line x g rest to O.SetLength how None (Some a ∷ Some b ∷ []) (F.Place t ∷ F.Value u ∷ [])

  abbrev gives_it : Deed Value → Type 0
  gives_it d = Settles x (starts g line rest) rest (gives (scene_of (high x.table x.blocks (starts g line rest))) to (costs 1 d >>= (λ v. give v)))

  module _ (y : IsGood x (starts g line rest)) (z w : Operand) (have : Have g.call.temps (F.Place t ∷ F.Value u ∷ []) (z ∷ w ∷ []))
      (seen : are_seen g.world (z ∷ w ∷ []) ≡ true) (p : IsAtPlace (g.call.temps.places t) (λ there. At (location_at g.call.temps there)) z) where
    abbrev here : Around
    here = around x.table x.blocks (body_of g)

    abbrev l : Location
    l = location_at g.call.temps p.there

    abbrev n : ℤ
    n = number_of (value_of w)

    abbrev home : Place
    home = (location here t).home

    abbrev held : ℕ
    held = variable_of (house g.call.site (of_value u))

    abbrev next : List WordInstr
    next = code_next x g line rest y

    abbrev act : ℕ → Deed Value
    act i = length_to text_form i l

    r : FitsRow x g rest to O.SetLength how None (Some a ∷ Some b ∷ []) (F.Place t ∷ F.Value u ∷ []) y
    r = fits_row x g rest to O.SetLength how None (Some a ∷ Some b ∷ []) (F.Place t ∷ F.Value u ∷ []) y

    typed_a : type_from x g (F.Place t) ≡ Some type_a
    typed_a = (typed_parts x g (F.Place t) (Some type_a) (Some type_b ∷ []) (F.Value u ∷ []) r.typed).0

    number : Operand_read x g.call u (value_of w)
    number =
        let t1 = typed_parts x g (F.Place t) (Some type_a) (Some type_b ∷ []) (F.Value u ∷ []) r.typed in
        let t2 = typed_parts x g (F.Value u) (Some type_b) [] [] t1.1 in
        let k = and_parts (is_resized (kind_of (facts_in x.table) type_a)) (is_int (kind_of (facts_in x.table) type_b)) r.row in
        number_read x g line rest y u (value_of w) type_b None t2.0 (int_shape (facts_in x.table) type_b k.1)
        (given_value (g.call.temps.values u) w have.1.0)

    there_seen : is_seen g.world l ≡ true
    there_seen =
        let s1 = and_parts (is_seen g.world (location_of z)) (are_seen g.world (w ∷ [])) seen in
        subst (λ o. is_seen g.world (location_of o) ≡ true) (sym p.is) s1.0

    -- the code, by the type of the place
    code : code_here x g line rest y ≡ counted_code held (text_length_code home held next)
    code =
        let has = has_type x g.call.site (of_location t) type_a y.linked.0 typed_a in
        let h = homed_house x g line rest y t p.there has.named (homed x g.call.site y.linked.0 t has.named) p.has in
        let look : shape_of (facts_in x.table) (type_of x.table (location here t)) ≡ block
        = ap (shape_of (facts_in x.table)) h.typed ∙ (look_of x g.call.site (of_location t) type_a has ∙ text_looks (facts_in x.table) type_a of_text) in
        ap (λ e. counted_code held (sized_code here (is_text_entry e) (label_before (map block_plain rest)) (location here t).ty home held next))
        (text_house x said (location here t) look)

    traps : TrapStops x g OutOfRange
    traps =
        let s = stops g line rest y OutOfRange (λ k. refl) in
        record { there = s.there; stands = s.stands; stops = s.stops }

    longer : is_handle (load g.world l) ≡ true → gives_it (counted n act)
    longer handled =
        let h : IsHandleOf (load g.world l) = handle_of (load g.world l) handled in
        let may = (and_parts (fit.may_write (known x) (sigs x.table x.blocks) (globals_of x.table x.blocks) (body_of g).proc.places t) true r.written).0 in
        let o = number in
        text_length_settles x g line rest y y.memory.bytes l h.long h.block home
        (text_there x g line rest y t type_a p.there typed_a (text_looks (facts_in x.table) type_a of_text) may p.has there_seen h) traps n o.fits
        held o.high o.word_is to (none_temps x g line rest y to (no_type (value_type x g line rest y to) r.given)) code

    -- what nobody owns can't be changed, but its new length is looked at first
    abbrev Fails_row : Bool → Bool → ℕ → Type 0
    Fails_row b h i = RowDoes x.live (all_procs x) (within x.table x.blocks g) next FIRST 30 (λ a after other vars. ⊥)
        (at (within x.table x.blocks g) g.memory (text_length_code home held next) (put g.call.vars FIRST least) g.words)
        (perform ((costs (i - length_of (load g.world l)) (unless_gone b (unless_gone h
        (branch (has_place g.world (block_of (load g.world l)) i)
        (refills (block_of (load g.world l)) (Characters (text_to i (text_of g.world (load g.world l)))) >> sets l (Handle i (block_of (load g.world l))))
        (fresh i i (Characters (text_to i (text_of g.world (load g.world l)))) >>= (λ new. sets l new >> frees (block_of (load g.world l)))))))
        >> give nothing)) g.world)

    gone : is_handle (load g.world l) ≡ false → gives_it (counted n act)
    gone none =
        let o = number in
        subst (λ done. Settles x (starts g line rest) rest (Passes (behind [] 1 done)))
        (sym (value_deed (counted n act) (λ v. with_value to g.call.temps v) g.world))
        (row_settles x g line rest y FIRST 28 (λ v. with_value to g.call.temps v) (λ a after other vars. ⊥) (perform (counted n act) g.world)
        (λ es i a w e other vars never_so. absurd never_so)
        (subst (λ lines. RowDoes x.live (all_procs x) (within x.table x.blocks g) next FIRST 28 (λ a after other vars. ⊥)
        (at (within x.table x.blocks g) g.memory lines g.call.vars g.words) (perform (counted n act) g.world)) (sym code)
        (counted_runs x.live (all_procs x) (within x.table x.blocks g) g.memory next FIRST 28 (omega arith) g.world n o.fits g.call.vars g.words held
        (let up = o.high in omega (arith, up)) o.word_is (traps_here x g traps) act (λ a after other vars. ⊥) (text_length_code home held next)
        (λ positive. subst (λ b. Fails_row b (is_handle (load g.world l)) (unsigned_abs n)) (sym there_seen)
        (subst (λ h. Fails_row true h (unsigned_abs n)) (sym none) tt)))))

    by : (b : Bool) → is_handle (load g.world l) ≡ b → gives_it (counted n act)
    by true e = longer e
    by false e = gone e

  -- a text gets another length
  pub text_length_row : (y : IsGood x (starts g line rest)) (z w : Operand) → Have g.call.temps (F.Place t ∷ F.Value u ∷ []) (z ∷ w ∷ [])
      → are_seen g.world (z ∷ w ∷ []) ≡ true
      → gives_it (owned O.SetLength (facts_in x.table) None (Some type_a ∷ Some type_b ∷ []) (z ∷ w ∷ [])
      (does O.SetLength (facts_in x.table) None (Some type_a ∷ Some type_b ∷ []) (z ∷ w ∷ [])))
  text_length_row y z w have seen =
      let p = at_place (g.call.temps.places t) (λ there. At (location_at g.call.temps there)) z have.0 in
      subst (λ o. gives_it (unless_gone (may_change (location_of o).base)
      (counted (number_of (value_of w)) (λ i. length_to (form_of (facts_in x.table) type_a) i (location_of o))))) p.is
      (where_there x (starts g line rest) rest (may_change (location_at g.call.temps p.there).base)
      (λ b. gives (scene_of (high x.table x.blocks (starts g line rest))) to (costs 1 (unless_gone b (counted (number_of (value_of w))
      (λ i. length_to (form_of (facts_in x.table) type_a) i (location_at g.call.temps p.there)))) >>= (λ v. give v))) (λ before. tt)
      (λ changes. subst (λ f. gives_it (counted (number_of (value_of w)) (λ i. length_to f i (location_at g.call.temps p.there))))
      (sym (ap (form_of (facts_in x.table)) (text_type (facts_in x.table) type_a of_text)))
      (by y z w have seen p (is_handle (load g.world (location_at g.call.temps p.there))) refl)))
