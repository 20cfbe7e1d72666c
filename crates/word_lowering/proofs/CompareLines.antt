-- Comparisons and conversions are followed.
use Rattle.std.proofs.Common.{append-nil, length, ◌≡◌, ℕ, ◌+◌, List, [], ◌∷◌, Option, Some, None, Bool, true, false, ℤ, refl, sym, ap, subst, ◌∙◌, arith, map}
use Rattle.std.proofs.Common.{inl, inr, ◌⊎◌}
use Rattle.std.specs.Prelude.{◌&&◌, ◌||◌, option_map, if◌then◌else◌}
use Rattle.std.proofs.lemmas.Bool.{and_parts, and_from}
use Rattle.nim_program.specs.declared.operation.Comparison.{Comparison}
use Rattle.nim_program.specs.declared.operation.Operation.TheVariants as O
use Rattle.nim_program.specs.Kinds.{is_compared, plain_kind, is_bool, is_of, kind_if, same_value}
use Rattle.nim_program.specs.Ints.{compared, truth, Checked, Fine, Trapped, within as checked_within, fits as is_int_number, inside}
use Rattle.nim_types.specs.Table.{type_at, facts_in}
use Rattle.nim_types.specs.Types.{Ty}
use Rattle.nim_meaning.specs.Values.{Value, Number, number_of, bytes, Given, value_of}
use Rattle.flat_code.specs.declared.block.BlockLine.{BlockLine}
use Rattle.flat_code.specs.declared.line.From.{From}
use Rattle.flat_code.specs.declared.line.From.TheVariants as F
use Rattle.flat_code.specs.declared.line.Line.TheVariants as L
use Rattle.word_lowering.specs.Stored.{is_hooked}
use Rattle.nim_types.specs.Forms.{form_of, hooked}
use Rattle.flat_code.specs.Lines.{gives, using}
use Rattle.flat_code.specs.Running.{scene_of}
use Rattle.flat_code.specs.Scene.{Did, Passes}
use Rattle.flat_code.specs.Shapes.{has_shape, number, shape_of}
use Rattle.nim_meaning.specs.Deeds.{costs, give, ◌>>=◌, Finishes}
use Rattle.nim_meaning.specs.Here.{any_hooked, gives_hooked}
use Rattle.nim_meaning.specs.Places.{kept_if}
use Rattle.nim_program.specs.View.{if_type}
use Rattle.flat_code.specs.declared.line.UseAt.{UseAt}
use Rattle.word_lowering.proofs.ApplyFits.{applies, RowHere}
use Rattle.word_lowering.proofs.ControlLines.{number_read, plain, value_type}
use Rattle.word_lowering.proofs.LineFits.{are_of, bool_shape, same_type, some_kind}
use Rattle.word_lowering.proofs.Lines.{Basis, Settles, all_procs, known, mapped_settles, starts, IsGood, bound_for}
use Rattle.word_lowering.proofs.NumberLines.{getting, high_target, variable}
use Rattle.word_lowering.proofs.OperandLines.{truth_shaped, value_type_by, value_type_in, getting_any}
use Rattle.word_lowering.proofs.OrdinalChecks.{compare_given, narrow_checks}
use Rattle.word_lowering.proofs.Related.{Both, body_of, high, within}
use Rattle.word_lowering.proofs.Sites.{around}
use Rattle.word_lowering.proofs.Settling.{LabelsLead, code_next, gives_settles, TrapsStop, code_here, code_of_line, trap_settles}
use Rattle.word_lowering.proofs.ShapeFacts.{never, of_numbers}
use Rattle.word_lowering.proofs.Targets.{target, Target}
use Rattle.arc_base.specs.Event.{Event, writes}
use Rattle.arc_base.specs.declared.outside.Stream.TheVariants.{Err}
use Rattle.nim_meaning.specs.Acts.{line_of}
use Rattle.nim_meaning.specs.Table.{limit_of, moved, outcome, converted}
use Rattle.nim_program.specs.Traps.{OutOfRange, trap_text}
use Rattle.word_code.proofs.ForCallers.{none}
use Rattle.word_code.specs.declared.word.WordInstr.{WordInstr}
use Rattle.word_lowering.proofs.MovedLines.{moved_value, value_read}
use Rattle.word_lowering.proofs.OperationRuns.{Checks, Given as IsGiven}
use Rattle.word_lowering.proofs.Scenes.{house, of_value}
use Rattle.word_lowering.proofs.ValueFacts.{Operand, PlainNames}
use Rattle.word_lowering.specs.LineCode.{compared_code, converted_code, operands}
use Rattle.word_lowering.specs.Lowered.{any_branches}
use Rattle.word_lowering.specs.Operations.{trap_label, word}

-- ---- operands without hooks

first_none : (b c : Bool) → (b || c) ≡ false → (b ≡ false) × (c ≡ false)
first_none true c h = never (sym h)
first_none false c h = (refl, h)

module _ (x : Basis) (labels : LabelsLead x) (g : Both) (rest : List BlockLine) (to : ℕ) (how : UseAt) (ty : Option ℕ) where
  module _ (comparison : Comparison) (a : ℕ) (b : Option ℕ) (left right : ℕ) where
    abbrev comparing : BlockLine
    comparing = plain (L.Apply to (O.Compare comparison) how ty (Some a ∷ b ∷ []) (F.Value left ∷ F.Value right ∷ []))

    pub compare_values : any_hooked (facts_in x.table) (Some (type_at (known x).types a) ∷ if_type (known x).types b ∷ []) ≡ false
        → RowHere x g rest to (O.Compare comparison) how ty (Some a ∷ b ∷ []) (F.Value left ∷ F.Value right ∷ [])
    compare_values none names y =
        let u : Ty = type_at (known x).types a in
        let f = applies x g rest to (O.Compare comparison) how ty (Some a ∷ b ∷ []) (F.Value left ∷ F.Value right ∷ []) names y in
        let r = and_parts (is_bool (kind_if (facts_in x.table) (if_type (known x).types ty)))
        (is_of (Some u) (if_type (known x).types b) && is_compared comparison (plain_kind (facts_in x.table) u)) f.row in
        let q = and_parts (is_of (Some u) (if_type (known x).types b)) (is_compared comparison (plain_kind (facts_in x.table) u)) r.1 in
        let p = and_parts (same_value (value_type x g comparing rest y left) (Some u))
        (same_value (value_type x g comparing rest y right) (if_type (known x).types b) && true) f.typed in
        let s = and_parts (same_value (value_type x g comparing rest y right) (if_type (known x).types b)) true p.1 in
        let n = are_of (Some u) (if_type (known x).types b) q.0 in
        let left_typed : value_type x g comparing rest y left ≡ Some u = same_type (value_type x g comparing rest y left) (Some u) p.0 in
        let right_typed : value_type x g comparing rest y right ≡ Some u
        = same_type (value_type x g comparing rest y right) (if_type (known x).types b) s.0 ∙ (n.is_other ∙ sym n.is) in
        let hooks = x.hooks a ∙ (first_none (hooked (form_of (facts_in x.table) u)) (any_hooked (facts_in x.table) (if_type (known x).types b ∷ [])) none).0 in
        let shape = x.compared a comparison q.1 hooks in
        let k = some_kind (facts_in x.table) (if_type (known x).types ty) is_bool refl r.0 in
        let typed = value_type_by (value_type x g comparing rest y to) (if_type (known x).types ty) k.0 f.given k.1 in
        let t = target x g comparing rest y to k.0 refl refl typed names.0 in
        let bool = bool_shape (facts_in x.table) k.0 k.2 in
        let gives_it : Value → Value → Did = λ v w. gives (scene_of (high x.table x.blocks (starts g comparing rest))) to
        (costs 1 (costs (bytes v) (give (Number (truth (compared comparison (number_of v) (number_of w))))))
        >>= kept_if (gives_hooked (facts_in x.table) (if_type (known x).types ty)) (bound_for g how)) in
        mapped_settles x (starts g comparing rest) rest (g.call.temps.values left) Given
        (λ z. using (option_map Given (g.call.temps.values right)) (λ o. gives_it (value_of z) (value_of o)))
        (λ v e. mapped_settles x (starts g comparing rest) rest (g.call.temps.values right) Given (λ o. gives_it v (value_of o))
        (λ w h.
        let o = number_read x g comparing rest y left v u shape.0 left_typed shape.1 e in
        let i = number_read x g comparing rest y right w u shape.0 right_typed shape.1 h in
        let answer : ℤ = truth (compared comparison (number_of v) (number_of w)) in
        let got_it = getting x g comparing rest y to k.0 (Some 2) answer t bool (truth_shaped (compared comparison (number_of v) (number_of w))) in
        subst (λ c. Settles x (starts g comparing rest) rest (gives (scene_of (high x.table x.blocks (starts g comparing rest))) to
        (costs 1 (costs (bytes v) (give (Number answer))) >>= kept_if c (bound_for g how)))) (sym (ap (gives_hooked (facts_in x.table)) k.1 ∙ t.unhooked))
        (gives_settles x g comparing rest y to answer (1 + (bytes v + 0)) (omega arith) got_it
        (subst (λ c. IsGiven x.live (all_procs x) (within x.table x.blocks g) g.memory g.words
        (compared_code (around x.table x.blocks (body_of g)) c comparison (variable x g comparing rest y to) (Some a ∷ b ∷ [])
        (operands (around x.table x.blocks (body_of g)) (F.Value left ∷ F.Value right ∷ [])) (code_next x g comparing rest y))
        g.call.vars (variable x g comparing rest y to) (word answer) (code_next x g comparing rest y))
        (sym shape.2)
        (compare_given x.live (all_procs x) (within x.table x.blocks g) g.memory g.words g.call.vars (variable x g comparing rest y to)
        (variable x g comparing rest y left) (high_target x g comparing rest y to answer got_it) o.high (number_of v) o.fits o.word_is
        (code_next x g comparing rest y) (variable x g comparing rest y right) i.high (number_of w) i.fits i.word_is comparison)))))

  pub compare_line : (comparison : Comparison) (of : List (Option ℕ)) (from : List From) →
      any_hooked (facts_in x.table) (map (if_type (known x).types) of) ≡ false
      → RowHere x g rest to (O.Compare comparison) how ty of from
  compare_line c (Some a ∷ b ∷ []) (F.Value left ∷ F.Value right ∷ []) none names y = compare_values c a b left right none names y
  compare_line c [] from none names y = never (applies x g rest to (O.Compare c) how ty [] from names y).row
  compare_line c (a ∷ []) from none names y = never (applies x g rest to (O.Compare c) how ty (a ∷ []) from names y).row
  compare_line c (a ∷ b ∷ d ∷ of) from none names y = never (applies x g rest to (O.Compare c) how ty (a ∷ b ∷ d ∷ of) from names y).row
  compare_line c (None ∷ b ∷ []) from none names y =
      never (and_parts (is_bool (kind_if (facts_in x.table) (if_type (known x).types ty))) false
      (applies x g rest to (O.Compare c) how ty (None ∷ b ∷ []) from names y).row).1
  compare_line c (Some a ∷ b ∷ []) [] none names y = never (applies x g rest to (O.Compare c) how ty (Some a ∷ b ∷ []) [] names y).typed
  compare_line c (Some a ∷ b ∷ []) (F.Place t ∷ others) none names y =
      never (applies x g rest to (O.Compare c) how ty (Some a ∷ b ∷ []) (F.Place t ∷ others) names y).placed
  compare_line c (Some a ∷ b ∷ []) (F.Value left ∷ []) none names y =
      never (and_parts (same_value (value_type_in x g left) (Some (type_at (known x).types a))) false
      (applies x g rest to (O.Compare c) how ty (Some a ∷ b ∷ []) (F.Value left ∷ []) names y).typed).1
  compare_line c (Some a ∷ b ∷ []) (F.Value left ∷ F.Place t ∷ others) none names y =
      never (applies x g rest to (O.Compare c) how ty (Some a ∷ b ∷ []) (F.Value left ∷ F.Place t ∷ others) names y).placed
  compare_line c (Some a ∷ b ∷ []) (F.Value left ∷ F.Value right ∷ other ∷ others) none names y =
      never (and_parts (same_value (value_type_in x g right) (if_type (known x).types b)) false
      (and_parts (same_value (value_type_in x g left) (Some (type_at (known x).types a)))
      (same_value (value_type_in x g right) (if_type (known x).types b) && false)
      (applies x g rest to (O.Compare c) how ty (Some a ∷ b ∷ []) (F.Value left ∷ F.Value right ∷ other ∷ others) names y).typed).1).1

-- ---- conversions

module _ (x : Basis) (traps : TrapsStop x) (labels : LabelsLead x) (g : Both) (rest : List BlockLine) (to : ℕ) (how : UseAt) where
  module _ (ty a from : ℕ) (unhooked : is_hooked x.table a ≡ false) where
    abbrev converting : BlockLine
    converting = plain (L.Apply to O.Convert how (Some ty) (Some a ∷ []) (F.Value from ∷ []))

    abbrev to_type : Ty
    to_type = type_at (known x).types ty

    abbrev from_type : Ty
    from_type = type_at (known x).types a

    module _ (names : PlainNames x g.call.site (of_value to ∷ of_value from ∷ [])) (y : IsGood x (starts g converting rest))
        (typed : value_type x g converting rest y to ≡ Some to_type)
        (from_typed : value_type x g converting rest y from ≡ Some from_type) (v : Value) (e : g.call.temps.values from ≡ Some v) where
      abbrev Converts : Option ℕ → Type 0
      Converts o = Settles x (starts g converting rest) rest (gives (scene_of (high x.table x.blocks (starts g converting rest))) to
          (costs 1 (converted o v >>= moved) >>= kept_if (gives_hooked (facts_in x.table) (Some to_type)) (bound_for g how)))

      t : Target x g converting rest y to to_type
      t = target x g converting rest y to to_type refl refl typed names.0

      code_is : (o : Option ℕ) → limit_of (facts_in x.table) to_type ≡ o
          → code_here x g converting rest y
          ≡ converted_code o (house g.call.site (of_value to)) (house g.call.site (of_value from)) (code_next x g converting rest y)
      code_is o e = ap (λ l. converted_code l (house g.call.site (of_value to)) (house g.call.site (of_value from)) (code_next x g converting rest y))
          (x.limits ty ∙ e)

      -- one that has the shape already
      same_shape : limit_of (facts_in x.table) to_type ≡ None
          → ((u : Value) → has_shape u (shape_of (facts_in x.table) from_type) ≡ true → has_shape u (shape_of (facts_in x.table) to_type) ≡ true)
          → Converts None
      same_shape none as_other =
          let numbers = x.plains a unhooked in
          let r = value_read x g converting rest y from v from_type from_typed numbers e in
          subst (λ b. Settles x (starts g converting rest) rest (gives (scene_of (high x.table x.blocks (starts g converting rest))) to
          (costs 1 (moved v) >>= kept_if b (bound_for g how)))) (sym t.unhooked)
          (moved_value x g converting rest y to to_type v t (as_other v r.1) (house g.call.site (of_value from)) true r.0.read (code_is None none)
          (1 + (bytes v + 0)) (omega arith))

      -- one of so many values
      module _ (values : ℕ) (other : Option ℕ) (limit_is : limit_of (facts_in x.table) to_type ≡ Some values)
          (shape : shape_of (facts_in x.table) to_type ≡ number (Some values)) (from_shape : shape_of (facts_in x.table) from_type ≡ number other) where
        o : Operand x g.call from v
        o = number_read x g converting rest y from v from_type other from_typed from_shape e

        abbrev result : Checked
        result = checked_within values (number_of v)

        checks : Checks x.live (all_procs x) (within x.table x.blocks g) g.memory g.words (code_here x g converting rest y) g.call.vars
            (variable x g converting rest y to) (code_next x g converting rest y) result
        checks = subst (λ l. Checks x.live (all_procs x) (within x.table x.blocks g) g.memory g.words l g.call.vars
            (variable x g converting rest y to) (code_next x g converting rest y) result) (sym (code_is (Some values) limit_is))
            (narrow_checks x.live (all_procs x) (within x.table x.blocks g) g.memory g.words g.call.vars (variable x g converting rest y to)
            (variable x g converting rest y from) (getting_any x traps g converting rest y to to_type (Some values) t shape) o.high (number_of v) o.fits
            o.word_is
            (code_next x g converting rest y) values)

        leads_there : (k : List WordInstr) → any_branches (trap_label OutOfRange) (code_of_line x g converting rest k) ≡ true
        leads_there k =
            ap (λ l. any_branches (trap_label OutOfRange) (converted_code l (house g.call.site (of_value to)) (house g.call.site (of_value from)) k))
            (x.limits ty ∙ limit_is)

        narrowed : (b : Bool) → inside (number_of v) values ≡ b
            → Checks x.live (all_procs x) (within x.table x.blocks g) g.memory g.words (code_here x g converting rest y) g.call.vars
            (variable x g converting rest y to) (code_next x g converting rest y) (if b then Fine (number_of v) else Trapped OutOfRange)
            → Settles x (starts g converting rest) rest (gives (scene_of (high x.table x.blocks (starts g converting rest))) to
            (costs 1 (outcome (if b then Fine (number_of v) else Trapped OutOfRange) >>= moved) >>= kept_if false (bound_for g how)))
        narrowed true h c =
            gives_settles x g converting rest y to (number_of v) (1 + (4 + 0)) (omega arith)
            (getting x g converting rest y to to_type (Some values) (number_of v) t shape (and_from (is_int_number (number_of v)) (inside (number_of v) values)
            o.fits h)) c.1
        narrowed false h c =
            subst (λ d. Settles x (starts g converting rest) rest d) twice
            (trap_settles x g converting rest y traps OutOfRange 1 (omega arith) leads_there c)
          where
            es : List Event
            es = writes Err (line_of (trap_text OutOfRange))

            twice : Passes (Finishes es (1 + length (line_of (trap_text OutOfRange))) 1 g.world)
                ≡ gives (scene_of (high x.table x.blocks (starts g converting rest))) to
                (costs 1 (outcome (Trapped OutOfRange) >>= moved) >>= kept_if false (bound_for g how))
            twice = ap (λ l. Passes (Finishes l (1 + length (line_of (trap_text OutOfRange))) 1 g.world)) (sym (append-nil es))

        one_of : Converts (Some values)
        one_of =
            subst (λ b. Settles x (starts g converting rest) rest (gives (scene_of (high x.table x.blocks (starts g converting rest))) to
            (costs 1 (outcome result >>= moved) >>= kept_if b (bound_for g how)))) (sym t.unhooked) (narrowed (inside (number_of v) values) refl checks)

    pub convert_value : RowHere x g rest to O.Convert how (Some ty) (Some a ∷ []) (F.Value from ∷ [])
    convert_value names y =
        let f = applies x g rest to O.Convert how (Some ty) (Some a ∷ []) (F.Value from ∷ []) names y in
        let from_typed : value_type x g converting rest y from ≡ Some from_type = same_type (value_type x g converting rest y from) (Some from_type)
        (and_parts (same_value (value_type x g converting rest y from) (Some from_type)) true f.typed).0 in
        let typed = value_type_by (value_type x g converting rest y to) (Some to_type) to_type f.given refl in
        mapped_settles x (starts g converting rest) rest (g.call.temps.values from) Given
        (λ z. gives (scene_of (high x.table x.blocks (starts g converting rest))) to
        (costs 1 (converted (limit_of (facts_in x.table) to_type) (value_of z) >>= moved) >>= kept_if (gives_hooked (facts_in x.table) (Some to_type))
        (bound_for g how)))
        (λ z e. by names y typed from_typed z e (x.conversions ty a f.row))
      where
        by : (names : PlainNames x g.call.site (of_value to ∷ of_value from ∷ [])) (y : IsGood x (starts g converting rest))
            (typed : value_type x g converting rest y to ≡ Some to_type)
            (from_typed : value_type x g converting rest y from ≡ Some from_type) (v : Value) (e : g.call.temps.values from ≡ Some v)
            → ((limit_of (facts_in x.table) to_type ≡ None)
            × ((u : Value) → has_shape u (shape_of (facts_in x.table) from_type) ≡ true → has_shape u (shape_of (facts_in x.table) to_type) ≡ true)
            × ((shape_of (facts_in x.table) from_type ≡ shape_of (facts_in x.table) to_type)
            ⊎ ((of_numbers (shape_of (facts_in x.table) from_type) ≡ true) × (of_numbers (shape_of (facts_in x.table) to_type) ≡ true))))
            ⊎ ((values : ℕ) × (other : Option ℕ) × (limit_of (facts_in x.table) to_type ≡ Some values)
            × (shape_of (facts_in x.table) to_type ≡ number (Some values)) × (shape_of (facts_in x.table) from_type ≡ number other))
            → Converts names y typed from_typed v e (limit_of (facts_in x.table) to_type)
        by names y typed from_typed v e (inl h) =
            subst (λ l. Converts names y typed from_typed v e l) (sym h.0) (same_shape names y typed from_typed v e h.0 h.1)
        by names y typed from_typed v e (inr h) =
            subst (λ l. Converts names y typed from_typed v e l) (sym h.2) (one_of names y typed from_typed v e h.0 h.1 h.2 h.3 h.4)

  pub convert_line : (ty : Option ℕ) (of : List (Option ℕ)) (from : List From) → any_hooked (facts_in x.table) (map (if_type (known x).types) of) ≡ false
      → RowHere x g rest to O.Convert how ty of from
  convert_line (Some ty) (Some a ∷ []) (F.Value from ∷ []) none names y =
      convert_value ty a from (x.hooks a ∙ (first_none (hooked (form_of (facts_in x.table) (type_at (known x).types a))) false none).0) names y
  convert_line ty [] from none names y = never (applies x g rest to O.Convert how ty [] from names y).row
  convert_line ty (a ∷ b ∷ of) from none names y = never (applies x g rest to O.Convert how ty (a ∷ b ∷ of) from names y).row
  convert_line None (a ∷ []) from none names y = never (applies x g rest to O.Convert how None (a ∷ []) from names y).row
  convert_line (Some ty) (None ∷ []) from none names y = never (applies x g rest to O.Convert how (Some ty) (None ∷ []) from names y).row
  convert_line (Some ty) (Some a ∷ []) [] none names y = never (applies x g rest to O.Convert how (Some ty) (Some a ∷ []) [] names y).typed
  convert_line (Some ty) (Some a ∷ []) (F.Place t ∷ others) none names y =
      never (applies x g rest to O.Convert how (Some ty) (Some a ∷ []) (F.Place t ∷ others) names y).placed
  convert_line (Some ty) (Some a ∷ []) (F.Value from ∷ other ∷ others) none names y =
      never (and_parts (same_value (value_type_in x g from) (Some (type_at (known x).types a))) false
      (applies x g rest to O.Convert how (Some ty) (Some a ∷ []) (F.Value from ∷ other ∷ others) names y).typed).1
