-- How many elements an array has, whatever these have: the row.
use Rattle.std.proofs.Common.{◌≡◌, ℕ, List, [], ◌∷◌, Option, Some, true, refl, sym, subst, ◌∙◌}
use Rattle.std.proofs.lemmas.Bool.{and_parts}
use Rattle.nim_types.specs.Types.{Ty}
use Rattle.nim_types.specs.Table.{facts_in}
use Rattle.nim_program.specs.declared.operation.Measure.{Measure}
use Rattle.nim_program.specs.declared.operation.Operation.TheVariants as O
use Rattle.nim_program.specs.Kinds.{has_length, is_int, kind_if}
use Rattle.nim_program.specs.View.{if_type}
use Rattle.nim_meaning.specs.Values.{At, Number, Operand, Value, length_of, location_of}
use Rattle.nim_meaning.specs.State.{is_seen, load}
use Rattle.nim_meaning.specs.Deeds.{Deed, costs, give, sees, unless_gone, ◌>>=◌}
use Rattle.nim_meaning.specs.Table.{measured}
use Rattle.flat_code.specs.declared.block.BlockLine.{BlockLine}
use Rattle.flat_code.specs.declared.line.From.{From}
use Rattle.flat_code.specs.declared.line.From.TheVariants as F
use Rattle.flat_code.specs.declared.line.UseAt.{UseAt}
use Rattle.flat_code.specs.Fits.{is_location, is_value}
use Rattle.flat_code.specs.Lines.{fetch, gives}
use Rattle.flat_code.specs.Running.{scene_of}
use Rattle.flat_code.specs.Scene.{location_at}
use Rattle.flat_code.specs.Shapes.{shape_of}
use Rattle.word_lowering.proofs.ApplyFits.{apply_line}
use Rattle.word_lowering.proofs.ControlLines.{kind_at}
use Rattle.word_lowering.proofs.HouseHooks.{homed}
use Rattle.word_lowering.proofs.LineFits.{no_handle, same_type}
use Rattle.word_lowering.proofs.Lines.{Basis, IsGood, Settles, known, starts, where_there}
use Rattle.word_lowering.proofs.LocationHouses.{row_with}
use Rattle.word_lowering.proofs.MeasuredSequences.{plain_int}
use Rattle.word_lowering.proofs.MeasureLines.{measured_fits, measured_settles}
use Rattle.word_lowering.proofs.NumberLines.{int_target}
use Rattle.word_lowering.proofs.OperandTexts.{at_place, typed_parts}
use Rattle.word_lowering.proofs.OwnedFits.{FitsRow, OwnedRow, fits_row}
use Rattle.word_lowering.proofs.Related.{Both, body_of, high}
use Rattle.word_lowering.proofs.Scenes.{looked, of_location}
use Rattle.word_lowering.proofs.ShapeFacts.{never}
use Rattle.word_lowering.proofs.ValueFacts.{has_type, look_of, type_in}

module _ (x : Basis) (g : Both) (rest : List BlockLine) (to : ℕ) (how : UseAt) (m : Measure) (ty a : Option ℕ) (of : Ty)
    (is : if_type (known x).types a ≡ Some of) (row_like : no_handle (shape_of (facts_in x.table) of) ≡ true) where
  module _ (t : ℕ) where
    abbrev measuring : BlockLine
    measuring = apply_line x g rest to (O.Measure m) how ty (a ∷ []) (F.Place t ∷ [])

    abbrev gives_it : Deed Value → Type 0
    gives_it d = Settles x (starts g measuring rest) rest (gives (scene_of (high x.table x.blocks (starts g measuring rest))) to (costs 1 d >>= (λ v. give v)))

    measure_one : (y : IsGood x (starts g measuring rest)) (z : Operand) → fetch g.call.temps (F.Place t) ≡ Some z
        → gives_it (sees (location_of z) (λ world v. give (Number (measured m (length_of v)))))
    measure_one y z have =
        let r : FitsRow x g rest to (O.Measure m) how ty (a ∷ []) (F.Place t ∷ []) y
        = fits_row x g rest to (O.Measure m) how ty (a ∷ []) (F.Place t ∷ []) y in
        let kinds = and_parts (is_int (kind_if (facts_in x.table) (if_type (known x).types ty))) (has_length
        (kind_if (facts_in x.table) (if_type (known x).types a))) r.row in
        let int_to : is_int (kind_at x g measuring rest y to) ≡ true
        = subst (λ o. is_int (kind_if (facts_in x.table) o) ≡ true) (sym (same_type (type_in x is_value (body_of g) to) (if_type (known x).types ty) r.given))
        kinds.0 in
        let same = (typed_parts x g (F.Place t) (if_type (known x).types a) [] [] r.typed).0 in
        let long : has_length (kind_if (facts_in x.table) (type_in x is_location (body_of g) t)) ≡ true
        = subst (λ o. has_length (kind_if (facts_in x.table) o) ≡ true) (sym same) kinds.1 in
        let has = has_type x g.call.site (of_location t) of y.linked.0 (same ∙ is) in
        let look : no_handle (looked x.table g.call.site (of_location t)) ≡ true
        = subst (λ s. no_handle s ≡ true) (sym (look_of x g.call.site (of_location t) of has)) row_like in
        let p = at_place (g.call.temps.places t) (λ there. At (location_at g.call.temps there)) z have in
        let w = row_with x g measuring rest y t p.there long (λ n. homed x g.call.site y.linked.0 t n) (λ n. look) p.has in
        subst (λ u. gives_it (sees (location_of u) (λ world v. give (Number (measured m (length_of v)))))) p.is
        (where_there x (starts g measuring rest) rest (is_seen g.world (location_at g.call.temps p.there))
        (λ b. gives (scene_of (high x.table x.blocks (starts g measuring rest))) to
        (costs 1 (unless_gone b (give (Number (measured m (length_of (load g.world (location_at g.call.temps p.there))))))) >>= (λ v. give v)))
        (λ before. tt)
        (λ seen. measured_settles x g measuring rest y to m t p.there w seen
        (int_target x g measuring rest y to refl refl (plain_int x g measuring rest y to int_to) int_to (measured m w.count) (measured_fits m w.count w.fits))
        refl))

  pub measure_array_row : (from : List From) → OwnedRow x g rest to how (O.Measure m) ty (a ∷ []) from
  measure_array_row [] y xs have seen = never (fits_row x g rest to (O.Measure m) how ty (a ∷ []) [] y).typed
  measure_array_row (f ∷ h ∷ from) y xs have seen =
      never (typed_parts x g f (if_type (known x).types a) [] (h ∷ from) (fits_row x g rest to (O.Measure m) how ty (a ∷ []) (f ∷ h ∷ from) y).typed).1
  measure_array_row (F.Value t ∷ []) y xs have seen = never (fits_row x g rest to (O.Measure m) how ty (a ∷ []) (F.Value t ∷ []) y).placed
  measure_array_row (F.Place t ∷ []) y [] have seen = absurd have
  measure_array_row (F.Place t ∷ []) y (z ∷ w ∷ xs) have seen = absurd have.1
  measure_array_row (F.Place t ∷ []) y (z ∷ []) have seen = measure_one t y z have.0
