-- What lines of operations are by the table of operations, and what they do by the rows of types without hooks.
use Rattle.std.proofs.Common.{◌≡◌, ℕ, zero, suc, List, [], ◌∷◌, Option, Some, None, Bool, true, false, map, refl, sym, ap, ◌∙◌, arith}
use Rattle.std.proofs.lemmas.Bool.{and_parts, eqb-true}
use Rattle.std.specs.Prelude.{not, ◌&&◌, ◌||◌}
use Rattle.nim_program.specs.declared.operation.Operation.{Operation}
use Rattle.nim_program.specs.Fitting.{places_in}
use Rattle.flat_code.specs.declared.line.From.{From}
use Rattle.flat_code.specs.declared.line.Line.TheVariants as L
use Rattle.flat_code.specs.declared.line.From.TheVariants as F
use Rattle.flat_code.specs.Fits.{operation_fits, writes, is_location, may_stand}
use Rattle.flat_code.specs.Fits as fit
use Rattle.nim_program.specs.Uses.{use_by}
use Rattle.nim_meaning.specs.Shapes.{is_lent, is_given}
use Rattle.flat_code.specs.declared.block.BlockLine.{BlockLine}
use Rattle.nim_program.specs.Kinds.{same_value}
use Rattle.nim_program.specs.View.{if_type}
use Rattle.nim_program.specs.declared.operation.Use.{Use}
use Rattle.flat_code.specs.declared.line.UseAt.{UseAt}
use Rattle.nim_types.specs.Forms.{hooked, form_of}
use Rattle.nim_types.specs.Table.{facts_in}
use Rattle.nim_types.specs.Types.{Ty}
use Rattle.nim_meaning.specs.Deeds.{costs, ◌>>=◌}
use Rattle.nim_meaning.specs.Here.{gives_hooked}
use Rattle.nim_meaning.specs.Places.{kept_if}
use Rattle.nim_meaning.specs.Table.{does}
use Rattle.flat_code.specs.Lines.{gives, using_all}
use Rattle.flat_code.specs.Running.{scene_of}
use Rattle.flat_code.specs.Scene.{Did}
use Rattle.word_lowering.proofs.ControlLines.{plain, value_type}
use Rattle.word_lowering.proofs.LineFits.{same_type}
use Rattle.word_lowering.proofs.Lines.{Basis, IsGood, Settles, bound_for, fits_here, known, starts}
use Rattle.word_lowering.proofs.Related.{Both, body_of, high}
use Rattle.word_lowering.proofs.Scenes.{of_location, of_value}
use Rattle.word_lowering.proofs.ShapeFacts.{never}
use Rattle.word_lowering.proofs.Sites.{globals_of, sigs}
use Rattle.word_lowering.proofs.ValueFacts.{has_type, type_in, IsPlain, PlainNames}
use Rattle.word_lowering.proofs.NamesIn.{names_from}

-- so many of the first operands are locations, and all others values
abbrev pub are_placed : ℕ → List From → Bool
are_placed zero [] = true
are_placed zero (F.Value t ∷ from) = are_placed zero from
are_placed (suc n) (F.Place t ∷ from) = are_placed n from
are_placed n from = false

module _ (x : Basis) (g : Both) (line : BlockLine) (rest : List BlockLine) (y : IsGood x (starts g line rest)) where
  -- where a location leads nothing is to be done, so none stands for a value
  none_stands : (how : Use) (t : ℕ) (ty : Option Ty) → IsPlain x g.call.site (of_location t) → same_value (type_in x is_location (body_of g) t) ty ≡ true
      → may_stand (facts_in x.table) how ty ≡ false
  none_stands how t None plain typed = refl
  none_stands how t (Some ty) plain typed =
      let n = has_type x g.call.site (of_location t) ty y.linked.0 (same_type (type_in x is_location (body_of g) t) (Some ty) typed) in
      ap (λ b. b && (is_lent how || is_given how))
      (ap (λ u. hooked (form_of (facts_in x.table) u)) (sym n.typed) ∙ y.linked.0.plain_locations t n.named (plain n.named))

  abbrev Typed : List (Option Ty) → List From → Type 0
  Typed of from = fit.are_of (known x) (sigs x.table x.blocks) (globals_of x.table x.blocks) (body_of g).proc.places of from ≡ true

  all_placed : (how : Use) (n : ℕ) (of : List (Option Ty)) (from : List From) → PlainNames x g.call.site (names_from from) → Typed of from
      → fit.are_placed (facts_in x.table) how n of from ≡ true → are_placed n from ≡ true
  all_placed how zero [] [] p typed placed = refl
  all_placed how (suc n) [] [] p typed placed = absurd (let e = eqb-true (suc n) 0 placed in omega (arith, e))
  all_placed how n [] (f ∷ from) p typed placed = never typed
  all_placed how n (ty ∷ of) [] p typed placed = never typed
  all_placed how zero (ty ∷ of) (F.Value t ∷ from) p typed placed = all_placed how zero of from p.1 (and_parts _ _ typed).1 placed
  all_placed how zero (ty ∷ of) (F.Place t ∷ from) p typed placed =
      let m = and_parts (may_stand (facts_in x.table) how ty) _ placed in
      let q = and_parts (same_value (type_in x is_location (body_of g) t) ty) _ typed in
      never (sym (none_stands how t ty p.0 q.0) ∙ m.0)
  all_placed how (suc n) (ty ∷ of) (F.Value t ∷ from) p typed placed = never placed
  all_placed how (suc n) (ty ∷ of) (F.Place t ∷ from) p typed placed = all_placed how n of from p.1 (and_parts _ _ typed).1 placed

module _ (x : Basis) (g : Both) (rest : List BlockLine) (to : ℕ) (operation : Operation) (how : UseAt) (ty : Option ℕ) (of : List (Option ℕ))
    (from : List From) where
  abbrev pub apply_line : BlockLine
  apply_line = plain (L.Apply to operation how ty of from)

  abbrev pub gets_type : Option Ty
  gets_type = if_type (known x).types ty

  abbrev pub of_types : List (Option Ty)
  of_types = map (if_type (known x).types) of

  abbrev are_typed : Bool
  are_typed = fit.are_of (known x) (sigs x.table x.blocks) (globals_of x.table x.blocks) (body_of g).proc.places of_types from

  abbrev are_written : Bool
  are_written = not (writes operation) || fit.may_write_first (known x) (sigs x.table x.blocks) (globals_of x.table x.blocks) (body_of g).proc.places
      (places_in operation) from

  -- what the line does where no type of it has hooks
  abbrev pub row_does : Did
  row_does = using_all g.call.temps from (λ xs. gives (scene_of (high x.table x.blocks (starts g apply_line rest))) to
      (costs 1 (does operation (facts_in x.table) gets_type of_types xs) >>= kept_if (gives_hooked (facts_in x.table) gets_type) (bound_for g how)))

  abbrev pub RowHere : Type 0
  RowHere = PlainNames x g.call.site (of_value to ∷ names_from from) → (y : IsGood x (starts g apply_line rest)) →
      Settles x (starts g apply_line rest) rest row_does

  pub record Applies (y : IsGood x (starts g apply_line rest)) : Type 0 where
    pub row : operation_fits (facts_in x.table) operation gets_type of_types ≡ true
    pub typed : are_typed ≡ true
    pub placed : are_placed (places_in operation) from ≡ true
    pub written : are_written ≡ true
    pub given : same_value (value_type x g apply_line rest y to) gets_type ≡ true

  pub applies : PlainNames x g.call.site (of_value to ∷ names_from from) → (y : IsGood x (starts g apply_line rest)) → Applies y
  applies names y =
      let row : Bool = operation_fits (facts_in x.table) operation gets_type of_types in
      let placed : Bool = fit.are_placed (facts_in x.table) (use_by operation) (places_in operation) of_types from in
      let p = and_parts (row && (are_typed && (placed && are_written))) (same_value (value_type x g apply_line rest y to) gets_type)
      (fits_here x.table x.blocks (body_of g) apply_line rest y.stands) in
      let q = and_parts row (are_typed && (placed && are_written)) p.0 in
      let r = and_parts are_typed (placed && are_written) q.1 in
      let s = and_parts placed are_written r.1 in
      record {
        row = q.0;
        typed = r.0;
        placed = all_placed x g apply_line rest y (use_by operation) (places_in operation) of_types from names.1 r.0 s.0;
        written = s.1;
        given = p.1;
      }
