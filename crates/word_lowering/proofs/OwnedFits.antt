-- What lines of operations are by the table of operations, whatever their types have.
use Rattle.std.proofs.Common.{◌≡◌, ℕ, List, [], ◌∷◌, Option, Bool, true, false, refl, sym, ◌∙◌}
use Rattle.std.proofs.lemmas.Bool.{and_parts}
use Rattle.std.specs.Prelude.{not, ◌&&◌, ◌||◌}
use Rattle.nim_program.specs.Fitting.{places_in}
use Rattle.nim_program.specs.Kinds.{same_value}
use Rattle.nim_program.specs.Uses.{use_by}
use Rattle.nim_program.specs.declared.operation.Operation.{Operation}
use Rattle.nim_program.specs.declared.operation.Use.{Use}
use Rattle.nim_types.specs.Types.{Ty}
use Rattle.nim_types.specs.Table.{facts_in}
use Rattle.flat_code.specs.declared.block.BlockLine.{BlockLine}
use Rattle.flat_code.specs.declared.line.From.{From}
use Rattle.flat_code.specs.declared.line.UseAt.{UseAt}
use Rattle.nim_meaning.specs.Here.{gives_hooked}
use Rattle.nim_meaning.specs.Shapes.{is_given, is_lent}
use Rattle.word_lowering.proofs.ShapeFacts.{never}
use Rattle.flat_code.specs.declared.line.From.TheVariants as F
use Rattle.flat_code.specs.Fits.{are_values, may_stand, operation_fits, writes}
use Rattle.flat_code.specs.Fits as fit
use Rattle.word_lowering.proofs.ApplyFits.{apply_line, gets_type, of_types}
use Rattle.word_lowering.proofs.ControlLines.{value_type}
use Rattle.word_lowering.proofs.AllOperands.{Have}
use Rattle.word_lowering.proofs.Lines.{Basis, IsGood, Settles, fits_here, known, starts}
use Rattle.word_lowering.proofs.Related.{Both, body_of, high}
use Rattle.nim_meaning.specs.Deeds.{costs, give, ◌>>=◌}
use Rattle.nim_meaning.specs.OwnedRows.{owned}
use Rattle.nim_meaning.specs.Table.{does}
use Rattle.nim_meaning.specs.Texts.{are_seen}
use Rattle.nim_meaning.specs.Values.{Operand}
use Rattle.flat_code.specs.Lines.{gives}
use Rattle.flat_code.specs.Running.{scene_of}
use Rattle.word_lowering.proofs.Sites.{globals_of, sigs}

module _ (x : Basis) (g : Both) (rest : List BlockLine) (to : ℕ) (operation : Operation) (how : UseAt) (ty : Option ℕ) (of : List (Option ℕ))
    (from : List From) (y : IsGood x (starts g (apply_line x g rest to operation how ty of from) rest)) where
  abbrev are_typed : Bool
  are_typed = fit.are_of (known x) (sigs x.table x.blocks) (globals_of x.table x.blocks) (body_of g).proc.places
      (of_types x g rest to operation how ty of from) from

  abbrev are_written : Bool
  are_written = not (writes operation) || fit.may_write_first (known x) (sigs x.table x.blocks) (globals_of x.table x.blocks) (body_of g).proc.places
      (places_in operation) from

  abbrev are_placed : Bool
  are_placed = fit.are_placed (facts_in x.table) (use_by operation) (places_in operation) (of_types x g rest to operation how ty of from) from

  pub record FitsRow : Type 0 where
    pub row : operation_fits (facts_in x.table) operation (gets_type x g rest to operation how ty of from)
        (of_types x g rest to operation how ty of from) ≡ true
    pub typed : are_typed ≡ true
    pub placed : are_placed ≡ true
    pub written : are_written ≡ true
    pub given : same_value (value_type x g (apply_line x g rest to operation how ty of from) rest y to) (gets_type x g rest to operation how ty of from) ≡ true

  pub fits_row : FitsRow
  fits_row =
      let row : Bool = operation_fits (facts_in x.table) operation (gets_type x g rest to operation how ty of from)
      (of_types x g rest to operation how ty of from) in
      let p = and_parts (row && (are_typed && (are_placed && are_written)))
      (same_value (value_type x g (apply_line x g rest to operation how ty of from) rest y to) (gets_type x g rest to operation how ty of from))
      (fits_here x.table x.blocks (body_of g) (apply_line x g rest to operation how ty of from) rest y.stands) in
      let q = and_parts row (are_typed && (are_placed && are_written)) p.0 in
      let r = and_parts are_typed (are_placed && are_written) q.1 in
      let s = and_parts are_placed are_written r.1 in
      record { row = q.0; typed = r.0; placed = s.0; written = s.1; given = p.1 }

-- operands that nobody may have a location for are values
module _ (x : Basis) (g : Both) (how : Use) (none : (is_lent how || is_given how) ≡ false) where
  pub values_placed : (of : List (Option Ty)) (from : List From)
      → fit.are_of (known x) (sigs x.table x.blocks) (globals_of x.table x.blocks) (body_of g).proc.places of from ≡ true
      → fit.are_placed (facts_in x.table) how 0 of from ≡ true → are_values from ≡ true
  values_placed [] [] typed placed = refl
  values_placed [] (f ∷ from) typed placed = never typed
  values_placed (ty ∷ of) [] typed placed = never typed
  values_placed (ty ∷ of) (F.Value t ∷ from) typed placed = values_placed of from (and_parts _ _ typed).1 placed
  values_placed (ty ∷ of) (F.Place t ∷ from) typed placed =
      never (sym none ∙ (and_parts (gives_hooked (facts_in x.table) ty) (is_lent how || is_given how)
      (and_parts (may_stand (facts_in x.table) how ty) _ placed).0).1)

-- what a row does with these operands, which are there, where an operand or the value is hooked
module _ (x : Basis) (g : Both) (rest : List BlockLine) (to : ℕ) (how : UseAt) (operation : Operation) (ty : Option ℕ) (of : List (Option ℕ))
    (from : List From) where
  abbrev pub OwnedRow : Type 0
  OwnedRow = IsGood x (starts g (apply_line x g rest to operation how ty of from) rest) → (xs : List Operand) → Have g.call.temps from xs
      → are_seen g.world xs ≡ true → Settles x (starts g (apply_line x g rest to operation how ty of from) rest) rest
      (gives (scene_of (high x.table x.blocks (starts g (apply_line x g rest to operation how ty of from) rest))) to
      (costs 1 (owned operation (facts_in x.table) (gets_type x g rest to operation how ty of from) (of_types x g rest to operation how ty of from) xs
      (does operation (facts_in x.table) (gets_type x g rest to operation how ty of from) (of_types x g rest to operation how ty of from) xs))
      >>= (λ v. give v)))
