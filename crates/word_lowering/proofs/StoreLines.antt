-- Lines that put values to locations, and those that give nothing.
use Rattle.std.proofs.Common.{◌≡◌, ℕ, ◌+◌, List, [], ◌∷◌, map, Option, Some, None, true, false, refl, sym, ap, subst, ◌∙◌, arith}
use Rattle.std.proofs.lemmas.Bool.{and_parts}
use Rattle.std.specs.Prelude.{option_map, ◌&&◌}
use Rattle.nim_program.specs.declared.operation.Operation.TheVariants as O
use Rattle.nim_meaning.specs.Values.{Value, bytes, nothing, At, Given, value_of, location_of, Location}
use Rattle.nim_meaning.specs.State.{is_seen, is_there}
use Rattle.nim_meaning.specs.Places.{kept_if, may_change, put, put_over}
use Rattle.flat_code.specs.declared.block.BlockLine.{BlockLine}
use Rattle.flat_code.specs.declared.line.From.{From}
use Rattle.flat_code.specs.declared.line.From.TheVariants as F
use Rattle.flat_code.specs.declared.line.Line.TheVariants as L
use Rattle.flat_code.specs.Fits.{is_standing, is_location, if_kind, place_named, is_value, needs_no_type}
use Rattle.flat_code.specs.Scene.{Where, with_value, location_at}
use Rattle.word_lowering.specs.LineCode.{label_before, location, operands, row_code, value}
use Rattle.word_lowering.specs.WaitingCode.{gives_hooked as code_hooked}
use Rattle.flat_code.specs.Codes.{block_plain}
use Rattle.nim_meaning.specs.Here.{gives_hooked}
use Rattle.word_lowering.proofs.HookFree.{assigned_plain, same_hooks}
use Rattle.flat_code.specs.Lines.{gives, using}
use Rattle.flat_code.specs.Running.{scene_of}
use Rattle.flat_code.specs.Shapes.{has_shape, shape_of}
use Rattle.nim_meaning.specs.Deeds.{Stores, costs, does, give, unless_gone, ◌>>=◌, ◌>>◌, sets}
use Rattle.nim_program.specs.Kinds.{same_value}
use Rattle.nim_program.specs.View.{if_type}
use Rattle.flat_code.specs.declared.line.UseAt.{UseAt}
use Rattle.nim_types.specs.Table.{facts_in, type_at}
use Rattle.nim_types.specs.Types.{Ty}
use Rattle.word_lowering.proofs.ApplyFits.{applies, RowHere}
use Rattle.word_lowering.proofs.ControlLines.{FollowedHere, plain, value_type}
use Rattle.word_lowering.proofs.Gets.{SameTemps, nothing_temps}
use Rattle.word_lowering.proofs.InMemory.{bytes_some}
use Rattle.word_lowering.proofs.Moves.{passes_there}
use Rattle.word_lowering.proofs.ReadFacts.{ValueRead}
use Rattle.word_lowering.specs.Spots.{moves, passes}
use Rattle.flat_code.specs.Codes.{block_does}
use Rattle.word_lowering.proofs.LineFits.{are_of, no_type, ordinal_shape, same_type, type_there}
use Rattle.word_lowering.proofs.Lines.{Basis, IsGood, Settles, known, mapped_settles, starts, all_settles, fits_here, using_settles, bound_for}
use Rattle.word_lowering.proofs.Lines.{where_there}
use Rattle.word_lowering.proofs.MovedLines.{value_read, moved_value, moved_word}
use Rattle.word_lowering.proofs.OutPlaces.{Written, stored_settles, written_at}
use Rattle.word_lowering.proofs.Related.{Both, body_of, high}
use Rattle.word_lowering.proofs.Scenes.{house, of_value, of_location}
use Rattle.word_lowering.proofs.Settling.{LabelsLead, code_next, silent_settles}
use Rattle.word_lowering.proofs.ShapeFacts.{never, of_numbers, values_of_numbers}
use Rattle.word_lowering.proofs.Sites.{around, is_one_word}
use Rattle.word_lowering.proofs.Targets.{Target, no_target, pointed, target, unnamed_value}
use Rattle.word_lowering.proofs.ValueFacts.{has_type, location_of_numbers, type_in, IsPlain}
use Rattle.nim_meaning.specs.Meaning.{handed_by}
use Rattle.nim_meaning.specs.Table.{moved}
use Rattle.word_lowering.proofs.OperandLines.{value_type_by}

module _ (x : Basis) (g : Both) (line : BlockLine) (rest : List BlockLine) (y : IsGood x (starts g line rest)) where
  -- a temporary that has no place gets nothing
  pub none_temps : (to : ℕ) → type_in x is_value (body_of g) to ≡ None → SameTemps x g line rest y (with_value to g.call.temps nothing)
  none_temps to none = nothing_temps x g line rest y to nothing (no_target x g line rest y to none)

  -- what is known of a location that may be written
  pub record WritesAt (t : ℕ) (there : Where) (ty : Ty) : Type 0 where
    pub numbers : of_numbers (shape_of (facts_in x.table) ty) ≡ true
    pub at : Location
    pub is : location_at g.call.temps there ≡ at
    pub written : Written x g line rest y (location (around x.table x.blocks (body_of g)) t) at (shape_of (facts_in x.table) ty)

  unhooked_at : (t : ℕ) (ty : Ty) → IsPlain x g.call.site (of_location t) → type_in x is_location (body_of g) t ≡ Some ty
      → gives_hooked (facts_in x.table) (Some ty) ≡ false
  unhooked_at t ty plain typed =
      let n = has_type x g.call.site (of_location t) ty y.linked.0 typed in
      ap (λ u. gives_hooked (facts_in x.table) (Some u)) (sym n.typed) ∙ y.linked.0.plain_locations t n.named (plain n.named)

  pub writes_at : (t : ℕ) (there : Where) (ty : Ty) → IsPlain x g.call.site (of_location t) → type_in x is_location (body_of g) t ≡ Some ty
      → if_kind is_standing (place_named is_location (body_of g).proc.places t) ≡ true → g.call.temps.places t ≡ Some there → WritesAt t there ty
  writes_at t there ty plain typed may e =
      let p = pointed x g line rest y t ty typed in
      let w = written_at x g line rest y t there p.named (y.linked.0.standing t may) e in
      record {
        numbers = sym (ap of_numbers p.look) ∙ location_of_numbers x g.call.site t y.linked.0 p.named plain;
        at = w.location_is;
        is = ap (location_at g.call.temps) w.is;
        written = subst (λ s. Written x g line rest y (location (around x.table x.blocks (body_of g)) t) w.location_is s) p.look w.written;
      }

module _ (x : Basis) (labels : LabelsLead x) (g : Both) (rest : List BlockLine) (to : ℕ) (how : UseAt) where
  module _ (a b : Option ℕ) (at from : ℕ) where
    abbrev assign : BlockLine
    assign = plain (L.Apply to O.Assign how None (a ∷ b ∷ []) (F.Place at ∷ F.Value from ∷ []))

    pub assign_values : RowHere x g rest to O.Assign how None (a ∷ b ∷ []) (F.Place at ∷ F.Value from ∷ [])
    assign_values names y =
        let f = applies x g rest to O.Assign how None (a ∷ b ∷ []) (F.Place at ∷ F.Value from ∷ []) names y in
        let none = no_type (value_type x g assign rest y to) f.given in
        let p = and_parts (same_value (type_in x is_location (body_of g) at) (if_type (known x).types a))
        (same_value (value_type x g assign rest y from) (if_type (known x).types b) && true) f.typed in
        let q = and_parts (same_value (value_type x g assign rest y from) (if_type (known x).types b)) true p.1 in
        let w = are_of (if_type (known x).types b) (if_type (known x).types a) f.row in
        let at_typed : type_in x is_location (body_of g) at ≡ Some w.ty
        = same_type (type_in x is_location (body_of g) at) (if_type (known x).types a) p.0 ∙ w.is_other in
        let from_typed : value_type x g assign rest y from ≡ Some w.ty
        = same_type (value_type x g assign rest y from) (if_type (known x).types b) q.0 ∙ w.is in
        let may = and_parts (if_kind is_standing (place_named is_location (body_of g).proc.places at)) true f.written in
        mapped_settles x (starts g assign rest) rest (g.call.temps.places at) (λ place. At (location_at g.call.temps place))
        (λ l. using (option_map Given (g.call.temps.values from)) (λ z. gives (scene_of (high x.table x.blocks (starts g assign rest))) to
        (costs 1 (put_over (location_of l) (value_of z)) >>= kept_if false (bound_for g how))))
        (λ there e. mapped_settles x (starts g assign rest) rest (g.call.temps.values from) Given
        (λ z. gives (scene_of (high x.table x.blocks (starts g assign rest))) to
        (costs 1 (put_over (location_at g.call.temps there) (value_of z)) >>= kept_if false (bound_for g how)))
        (λ z h. let s = writes_at x g assign rest y at there w.ty names.1.0 at_typed may.0 e in
        let r = value_read x g assign rest y from z w.ty from_typed s.numbers h in
        subst (λ l. Settles x (starts g assign rest) rest (gives (scene_of (high x.table x.blocks (starts g assign rest))) to
        (costs 1 (put_over l z) >>= kept_if false (bound_for g how)))) (sym s.is)
        (where_there x (starts g assign rest) rest (is_seen g.world s.at)
        (λ b. gives (scene_of (high x.table x.blocks (starts g assign rest))) to
        (costs 1 (unless_gone b (put s.at z)) >>= kept_if false (bound_for g how))) (λ before. tt)
        (λ seen. where_there x (starts g assign rest) rest (may_change s.at.base)
        (λ b. gives (scene_of (high x.table x.blocks (starts g assign rest))) to
        (costs 1 (costs (bytes z) (unless_gone b (sets s.at z) >> give nothing)) >>= kept_if false (bound_for g how))) (λ before. tt)
        (λ changes. where_there x (starts g assign rest) rest (is_there g.world s.at)
        (λ b. gives (scene_of (high x.table x.blocks (starts g assign rest))) to
        (costs 1 (costs (bytes z) (unless_gone b (does (Stores s.at z)) >> give nothing)) >>= kept_if false (bound_for g how))) (λ before. tt)
        (λ live. stored_settles x g assign rest y (location (around x.table x.blocks (body_of g)) at) s.at (shape_of (facts_in x.table) w.ty) s.numbers
        seen z r.1
        (house g.call.site (of_value from)) r.0.read
        (assigned_plain (around x.table x.blocks (body_of g)) (code_hooked x.table a)
        (row_code (around x.table x.blocks (body_of g)) O.Assign (label_before (map block_plain rest)) None (a ∷ b ∷ [])
        (value (around x.table x.blocks (body_of g)) to)
        (operands (around x.table x.blocks (body_of g)) (F.Place at ∷ F.Value from ∷ []))) a (F.Place at ∷ F.Value from ∷ []) (code_next x g assign rest y)
        (same_hooks x a ∙ (ap (gives_hooked (facts_in x.table)) w.is_other ∙ unhooked_at x g assign rest y at w.ty names.1.0 at_typed)))
        (with_value to g.call.temps nothing) (none_temps x g assign rest y to none)
        (1 + (bytes z + 0)) (omega arith) changes s.written))))))

  pub assign_line : (ty : Option ℕ) (of : List (Option ℕ)) (from : List From) → RowHere x g rest to O.Assign how ty of from
  assign_line None (a ∷ b ∷ []) (F.Place at ∷ F.Value from ∷ []) names y = assign_values a b at from names y
  assign_line (Some ty) of from names y = never (applies x g rest to O.Assign how (Some ty) of from names y).row
  assign_line None [] from names y = never (applies x g rest to O.Assign how None [] from names y).row
  assign_line None (a ∷ []) from names y = never (applies x g rest to O.Assign how None (a ∷ []) from names y).row
  assign_line None (a ∷ b ∷ c ∷ of) from names y = never (applies x g rest to O.Assign how None (a ∷ b ∷ c ∷ of) from names y).row
  assign_line None (a ∷ b ∷ []) [] names y = never (applies x g rest to O.Assign how None (a ∷ b ∷ []) [] names y).placed
  assign_line None (a ∷ b ∷ []) (F.Value t ∷ others) names y = never (applies x g rest to O.Assign how None (a ∷ b ∷ []) (F.Value t ∷ others) names y).placed
  assign_line None (a ∷ b ∷ []) (F.Place at ∷ []) names y =
      never (and_parts (same_value (type_in x is_location (body_of g) at) (if_type (known x).types a)) false
      (applies x g rest to O.Assign how None (a ∷ b ∷ []) (F.Place at ∷ []) names y).typed).1
  assign_line None (a ∷ b ∷ []) (F.Place at ∷ F.Place t ∷ others) names y =
      never (applies x g rest to O.Assign how None (a ∷ b ∷ []) (F.Place at ∷ F.Place t ∷ others) names y).placed
  assign_line None (a ∷ b ∷ []) (F.Place at ∷ F.Value from ∷ other ∷ others) names y =
      never (and_parts (same_value (type_in x is_value (body_of g) from) (if_type (known x).types b)) false
      (and_parts (same_value (type_in x is_location (body_of g) at) (if_type (known x).types a))
      (same_value (type_in x is_value (body_of g) from) (if_type (known x).types b) && false)
      (applies x g rest to O.Assign how None (a ∷ b ∷ []) (F.Place at ∷ F.Value from ∷ other ∷ others) names y).typed).1).1

  -- ---- nothing is done

  pub discard_line : (ty : Option ℕ) (of : List (Option ℕ)) (from : List From) → RowHere x g rest to O.Discard how ty of from
  discard_line None of from names y =
      let line = plain (L.Apply to O.Discard how None of from) in
      let f = applies x g rest to O.Discard how None of from names y in
      all_settles x (starts g line rest) rest g.call.temps from
      (λ xs. gives (scene_of (high x.table x.blocks (starts g line rest))) to (costs 1 (give nothing) >>= kept_if false (bound_for g how)))
      (λ xs. silent_settles x g line rest y (with_value to g.call.temps nothing)
      (none_temps x g line rest y to (no_type (value_type x g line rest y to) f.given)) 1 refl)
  discard_line (Some ty) of from names y = never (applies x g rest to O.Discard how (Some ty) of from names y).row

-- ---- a value is handed on

module _ (x : Basis) (g : Both) (line : BlockLine) (rest : List BlockLine) (y : IsGood x (starts g line rest)) (to from : ℕ) where
  -- what is there has bytes
  passed_code : (v : Value) (ty : Ty) → Target x g line rest y to ty → has_shape v (shape_of (facts_in x.table) ty) ≡ true
      → (r : ValueRead x g line rest y from v)
      → passes (house g.call.site (of_value from)).bytes (house g.call.site (of_value to)) (house g.call.site (of_value from)) (code_next x g line rest y)
      ≡ moves (house g.call.site (of_value to)) (house g.call.site (of_value from)) (code_next x g line rest y)
  passed_code v ty t shaped r =
      let some = bytes_some v (values_of_numbers v (shape_of (facts_in x.table) ty) t.numbers shaped) in
      let size = r.read.size in
      passes_there (house g.call.site (of_value from)).bytes (house g.call.site (of_value to)) (house g.call.site (of_value from)) (code_next x g line rest y)
      (omega (arith, some, size))

module _ (x : Basis) (labels : LabelsLead x) (g : Both) (rest : List BlockLine) (to from : ℕ) (how : UseAt) where
  pub pass_line : (ty : ℕ) → FollowedHere x labels g rest (L.Pass to from how (Some ty))
  pass_line ty names y =
      let line = plain (L.Pass to from how (Some ty)) in
      let t : Ty = type_at (known x).types ty in
      let f = and_parts (same_value (value_type x g line rest y to) (value_type x g line rest y from)) (same_value (value_type x g line rest y to) (Some t))
      (fits_here x.table x.blocks (body_of g) line rest y.stands) in
      let typed = value_type_by (value_type x g line rest y to) (Some t) t f.1 refl in
      let from_typed = type_there (value_type x g line rest y to) (value_type x g line rest y from) t f.0 typed in
      let s = target x g line rest y to t refl refl typed names.0 in
      using_settles x (starts g line rest) rest (g.call.temps.values from)
      (λ v. gives (scene_of (high x.table x.blocks (starts g line rest))) to (costs 1 (handed_by (facts_in x.table) (bound_for g how) (Some t) v)))
      (λ v e. let r = value_read x g line rest y from v t from_typed s.numbers e in
      subst (λ b. Settles x (starts g line rest) rest (gives (scene_of (high x.table x.blocks (starts g line rest))) to
      (costs 1 (moved v >>= kept_if b (bound_for g how))))) (sym s.unhooked)
      (moved_value x g line rest y to t v s r.1 (house g.call.site (of_value from)) true r.0.read (passed_code x g line rest y to from v t s r.1 r.0)
      (1 + (bytes v + 0)) (omega arith)))

  -- a number, whose type needn't stand in the line, or nothing at all
  pub number_pass : FollowedHere x labels g rest (L.Pass to from how None)
  number_pass names y = by (value_type x g here rest y to) refl
    where
      here : BlockLine
      here = plain (L.Pass to from how None)

      fit : (same_value (value_type x g here rest y to) (value_type x g here rest y from) ≡ true)
          × (needs_no_type (facts_in x.table) (value_type x g here rest y to) ≡ true)
      fit = and_parts (same_value (value_type x g here rest y to) (value_type x g here rest y from))
          (needs_no_type (facts_in x.table) (value_type x g here rest y to)) (fits_here x.table x.blocks (body_of g) here rest y.stands)

      same : value_type x g here rest y to ≡ value_type x g here rest y from
      same = same_type (value_type x g here rest y to) (value_type x g here rest y from) fit.0

      by : (o : Option Ty) → value_type x g here rest y to ≡ o
          → Settles x (starts g here rest) rest (block_does (known x) (scene_of (high x.table x.blocks (starts g here rest))) here)
      by None none =
          using_settles x (starts g here rest) rest (g.call.temps.values from)
          (λ v. gives (scene_of (high x.table x.blocks (starts g here rest))) to (costs 1 (give v)))
          (λ v e. silent_settles x g here rest y (with_value to g.call.temps v) (nothing_temps x g here rest y to v (no_target x g here rest y to none)) 1
          (ap (λ h. passes h.bytes (house g.call.site (of_value to)) h (code_next x g here rest y)) (unnamed_value x g here rest y from (sym same ∙ none))))
      by (Some t) typed =
          let n = ordinal_shape (facts_in x.table) t (sym (ap (needs_no_type (facts_in x.table)) typed) ∙ fit.1) in
          let s = target x g here rest y to t refl refl typed names.0 in
          using_settles x (starts g here rest) rest (g.call.temps.values from)
          (λ v. gives (scene_of (high x.table x.blocks (starts g here rest))) to (costs 1 (give v)))
          (λ v e. let r = value_read x g here rest y from v t (sym same ∙ typed) s.numbers e in
          moved_word x g here rest y to t v s r.1 (ap is_one_word n.1) (house g.call.site (of_value from)) true r.0.read
          (passed_code x g here rest y to from v t s r.1 r.0))
