-- How many elements a sequence has, as a row and as lines.
use Rattle.std.proofs.Common.{◌≡◌, ℕ, List, [], ◌∷◌, Option, Some, None, true, refl, sym, ap, subst, ◌∙◌}
use Rattle.nim_meaning.specs.Deeds.{Answers, Deed, costs, give, sees, unless_gone, ◌>>=◌}
use Rattle.nim_meaning.specs.Values.{At, Number, Operand, Value, length_of, location_of}
use Rattle.word_lowering.proofs.Lines.{Basis, IsGood, Settles, known, starts, where_there}
use Rattle.flat_code.specs.declared.block.BlockLine.{BlockLine}
use Rattle.word_lowering.proofs.Related.{Both, body_of, high}
use Rattle.nim_types.specs.Types.{Fact, Facts, Ty, members, fields, base, below, fact_of}
use Rattle.word_lowering.proofs.OwnedFits.{FitsRow, OwnedRow, fits_row}
use Rattle.flat_code.specs.declared.line.From.{From}
use Rattle.word_lowering.proofs.ValueFacts.{IsPlain, type_in}
use Rattle.nim_program.specs.declared.operation.Measure.{Measure}
use Rattle.flat_code.specs.Scene.{Passes, location_at, with_value}
use Rattle.word_lowering.proofs.SequenceTypes.{SequencesKnown}
use Rattle.flat_code.specs.declared.line.UseAt.{UseAt}
use Rattle.std.proofs.lemmas.Bool.{and_parts}
use Rattle.word_lowering.proofs.ApplyFits.{apply_line}
use Rattle.word_lowering.proofs.Sites.{around}
use Rattle.word_lowering.proofs.OperandTexts.{at_place, typed_parts}
use Rattle.word_lowering.proofs.Settling.{code_next}
use Rattle.nim_program.specs.Kinds.{declared_kind, has_length, is_int, kind_if, kind_of}
use Rattle.flat_code.specs.Shapes.{elements, shape_of}
use Rattle.nim_types.specs.Table.{facts_in}
use Rattle.flat_code.specs.Lines.{fetch, gives}
use Rattle.nim_types.specs.Forms.{form_of, hooked}
use Rattle.nim_program.specs.View.{if_type}
use Rattle.word_lowering.proofs.NumberLines.{int_target, variable}
use Rattle.flat_code.specs.Fits.{is_location, is_value}
use Rattle.nim_meaning.specs.State.{is_seen, load}
use Rattle.word_lowering.proofs.ControlLines.{kind_at}
use Rattle.word_lowering.proofs.LengthLines.{counted_settles}
use Rattle.word_lowering.proofs.MeasureLines.{measured_fits}
use Rattle.word_lowering.specs.LineCode.{location, measure_code}
use Rattle.nim_meaning.specs.Table.{measured}
use Rattle.word_lowering.specs.OwnedCode.{measured_code}
use Rattle.word_lowering.proofs.ShapeFacts.{never}
use Rattle.word_lowering.proofs.Scenes.{of_value}
use Rattle.word_lowering.proofs.HouseHooks.{plain_as}
use Rattle.word_lowering.proofs.SequenceReads.{reads_at}
use Rattle.word_lowering.proofs.LineFits.{same_type, some_kind}
use Rattle.flat_code.specs.Running.{scene_of}
use Rattle.nim_program.specs.declared.operation.Operation.TheVariants as O
use Rattle.flat_code.specs.declared.line.From.TheVariants as F
use Rattle.nim_types.specs.Types as type

-- an int has nothing to do at its end
declared_other : (o : Option Fact) → is_int (declared_kind o) ≡ true → ⊥
declared_other None h = never h
declared_other (Some (members names)) h = never h
declared_other (Some (fields all resource)) h = never h
declared_other (Some (base t)) h = never h
declared_other (Some (below parent)) h = never h

int_type : (facts : Facts) (ty : Ty) → is_int (kind_of facts ty) ≡ true → ty ≡ type.int
int_type facts type.int h = refl
int_type facts type.bool h = never h
int_type facts type.char h = never h
int_type facts type.text h = never h
int_type facts (type.sequence e) h = never h
int_type facts (type.array n t) h = never h
int_type facts (type.tuple names ts) h = never h
int_type facts (type.parameter n) h = never h
int_type facts (type.ref name t) h = never h
int_type facts (type.enum key) h = absurd (declared_other (fact_of facts (type.enum key)) h)
int_type facts (type.object key arguments) h = absurd (declared_other (fact_of facts (type.object key arguments)) h)
int_type facts (type.distinct key) h = absurd (declared_other (fact_of facts (type.distinct key)) h)
int_type facts (type.exception key) h = absurd (declared_other (fact_of facts (type.exception key)) h)

module _ (x : Basis) (g : Both) (line : BlockLine) (rest : List BlockLine) (y : IsGood x (starts g line rest)) where
  pub plain_int : (t : ℕ) → is_int (kind_if (facts_in x.table) (type_in x is_value (body_of g) t)) ≡ true → IsPlain x g.call.site (of_value t)
  plain_int t k =
      let s = some_kind (facts_in x.table) (type_in x is_value (body_of g) t) is_int refl k in
      plain_as x g.call.site y.linked.0 (of_value t) s.0 s.1 (ap (λ u. hooked (form_of (facts_in x.table) u)) (int_type (facts_in x.table) s.0 s.2))

module _ (x : Basis) (types : SequencesKnown x) (g : Both) (rest : List BlockLine) (to : ℕ) (how : UseAt) (m : Measure) (ty a : Option ℕ) (e : Ty)
    (is : if_type (known x).types a ≡ Some (type.sequence e)) where
  module _ (t : ℕ) where
    abbrev line : BlockLine
    line = apply_line x g rest to (O.Measure m) how ty (a ∷ []) (F.Place t ∷ [])

    abbrev gives_it : Deed Value → Type 0
    gives_it d = Settles x (starts g line rest) rest (gives (scene_of (high x.table x.blocks (starts g line rest))) to (costs 1 d >>= (λ v. give v)))

    measure_one : (y : IsGood x (starts g line rest)) (z : Operand) → fetch g.call.temps (F.Place t) ≡ Some z
        → gives_it (sees (location_of z) (λ world v. give (Number (measured m (length_of v)))))
    measure_one y z have =
        let r : FitsRow x g rest to (O.Measure m) how ty (a ∷ []) (F.Place t ∷ []) y
        = fits_row x g rest to (O.Measure m) how ty (a ∷ []) (F.Place t ∷ []) y in
        let kinds = and_parts (is_int (kind_if (facts_in x.table) (if_type (known x).types ty))) (has_length
        (kind_if (facts_in x.table) (if_type (known x).types a))) r.row in
        let int_to : is_int (kind_at x g line rest y to) ≡ true
        = subst (λ o. is_int (kind_if (facts_in x.table) o) ≡ true) (sym (same_type (type_in x is_value (body_of g) to) (if_type (known x).types ty) r.given))
        kinds.0 in
        let typed : type_in x is_location (body_of g) t ≡ Some (type.sequence e)
        = (typed_parts x g (F.Place t) (if_type (known x).types a) [] [] r.typed).0 ∙ is in
        let p = at_place (g.call.temps.places t) (λ there. At (location_at g.call.temps there)) z have in
        subst (λ u. gives_it (sees (location_of u) (λ world v. give (Number (measured m (length_of v)))))) p.is
        (where_there x (starts g line rest) rest (is_seen g.world (location_at g.call.temps p.there))
        (λ b. gives (scene_of (high x.table x.blocks (starts g line rest))) to
        (costs 1 (unless_gone b (give (Number (measured m (length_of (load g.world (location_at g.call.temps p.there))))))) >>= (λ v. give v)))
        (λ before. tt)
        (λ seen. let w = reads_at x types g line rest y t p.there e typed p.has seen in
        subst (λ n. Settles x (starts g line rest) rest (Passes (Answers [] 1 (with_value to g.call.temps (Number (measured m n))) g.world)))
        (sym w.all.long_is)
        (counted_settles x g line rest y w.all.long w.address w.home w.at_home w.all.long_at w.fits to m
        (int_target x g line rest y to refl refl (plain_int x g line rest y to int_to) int_to (measured m w.all.long) (measured_fits m w.all.long w.fits))
        (ap (λ b. measure_code (around x.table x.blocks (body_of g)) b m (variable x g line rest y to)
        (location (around x.table x.blocks (body_of g)) t) (code_next x g line rest y)) w.handled
        ∙ ap (λ h. measured_code m (variable x g line rest y to) h (code_next x g line rest y)) w.home_is))))

  pub measure_sequence_row : (from : List From) → OwnedRow x g rest to how (O.Measure m) ty (a ∷ []) from
  measure_sequence_row [] y xs have seen = never (fits_row x g rest to (O.Measure m) how ty (a ∷ []) [] y).typed
  measure_sequence_row (f ∷ h ∷ from) y xs have seen =
      never (typed_parts x g f (if_type (known x).types a) [] (h ∷ from) (fits_row x g rest to (O.Measure m) how ty (a ∷ []) (f ∷ h ∷ from) y).typed).1
  measure_sequence_row (F.Value t ∷ []) y xs have seen = never (fits_row x g rest to (O.Measure m) how ty (a ∷ []) (F.Value t ∷ []) y).placed
  measure_sequence_row (F.Place t ∷ []) y [] have seen = absurd have
  measure_sequence_row (F.Place t ∷ []) y (z ∷ w ∷ xs) have seen = absurd have.1
  measure_sequence_row (F.Place t ∷ []) y (z ∷ []) have seen = measure_one t y z have.0
