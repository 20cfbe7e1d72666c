-- A value with hooks gets another type, or isn't used: the rows.
use Rattle.std.proofs.Common.{◌≡◌, ◌⊎◌, inl, inr, ℕ, ◌+◌, List, [], ◌∷◌, Option, Some, None, Bool, true, false, refl, sym, ap, subst, ◌∙◌, arith, map}
use Rattle.std.specs.Prelude.{◌||◌}
use Rattle.std.proofs.lemmas.Bool.{and_parts}
use Rattle.nim_types.specs.Forms.{form_of, hooked}
use Rattle.nim_types.specs.Types.{Facts, Ty}
use Rattle.nim_types.specs.Table.{facts_in, type_at}
use Rattle.nim_program.specs.Kinds.{same_value}
use Rattle.nim_program.specs.View.{if_type}
use Rattle.nim_program.specs.declared.operation.Operation.TheVariants as O
use Rattle.nim_meaning.specs.Deeds.{costs, give, ◌>>=◌}
use Rattle.nim_meaning.specs.Here.{any_hooked, gives_hooked}
use Rattle.nim_meaning.specs.Table.{converted, limit_of, moved}
use Rattle.nim_meaning.specs.Values.{Value, bytes, nothing, value_of}
use Rattle.flat_code.specs.declared.block.BlockLine.{BlockLine}
use Rattle.flat_code.specs.declared.line.From.{From}
use Rattle.flat_code.specs.declared.line.From.TheVariants as F
use Rattle.flat_code.specs.declared.line.UseAt.{UseAt}
use Rattle.nim_program.specs.declared.operation.Use.TheVariants as uses
use Rattle.flat_code.specs.Fits.{is_value, may_stand}
use Rattle.flat_code.specs.Lines.{gives}
use Rattle.flat_code.specs.Running.{scene_of}
use Rattle.flat_code.specs.Scene.{with_value}
use Rattle.flat_code.specs.Shapes.{has_shape, number, shape_of}
use Rattle.word_lowering.specs.LineCode.{converted_code}
use Rattle.word_lowering.specs.Spots.{moves}
use Rattle.word_lowering.proofs.AllOperands.{given_value}
use Rattle.word_lowering.proofs.ApplyFits.{apply_line}
use Rattle.word_lowering.proofs.ControlLines.{value_type}
use Rattle.word_lowering.proofs.HookedMoves.{bits_read, bits_target, bits_to_value}
use Rattle.word_lowering.proofs.HookedReads.{LiesAs}
use Rattle.word_lowering.proofs.HouseHooks.{hooks_as, hooks_numbers}
use Rattle.word_lowering.proofs.LineFits.{no_type, same_type}
use Rattle.word_lowering.proofs.Lines.{Basis, IsGood, Settles, known, starts}
use Rattle.word_lowering.proofs.OperandLines.{value_type_by}
use Rattle.word_lowering.proofs.OwnedFits.{OwnedRow, fits_row}
use Rattle.word_lowering.proofs.Related.{Both, body_of, high}
use Rattle.word_lowering.proofs.Scenes.{house, of_value}
use Rattle.word_lowering.proofs.Settling.{code_here, code_next, silent_settles}
use Rattle.word_lowering.proofs.ShapeFacts.{never, of_numbers}
use Rattle.word_lowering.proofs.Sites.{is_one_word}
use Rattle.word_lowering.proofs.StoreLines.{none_temps}
use Rattle.word_lowering.proofs.Targets.{home_of_value}
use Rattle.word_lowering.proofs.ValueFacts.{has_type, look_of, type_in}

module _ (x : Basis) (g : Both) (rest : List BlockLine) (to : ℕ) (how : UseAt) where
  abbrev facts : Facts
  facts = facts_in x.table

  -- ---- nothing is done

  pub discard_row : (ty : Option ℕ) (of : List (Option ℕ)) (from : List From) → OwnedRow x g rest to how O.Discard ty of from
  discard_row None of from y xs has seen =
      let f = fits_row x g rest to O.Discard how None of from y in
      silent_settles x g (apply_line x g rest to O.Discard how None of from) rest y (with_value to g.call.temps nothing)
      (none_temps x g (apply_line x g rest to O.Discard how None of from) rest y to
      (no_type (value_type x g (apply_line x g rest to O.Discard how None of from) rest y to) f.given)) 1 refl
  discard_row (Some ty) of from y xs has seen = never (fits_row x g rest to O.Discard how (Some ty) of from y).row

  -- ---- another type

  module _ (ty a from : ℕ) where
    abbrev line : BlockLine
    line = apply_line x g rest to O.Convert how (Some ty) (Some a ∷ []) (F.Value from ∷ [])

    abbrev to_type : Ty
    to_type = type_at (known x).types ty

    abbrev from_type : Ty
    from_type = type_at (known x).types a

    -- what has hooks is not made of numbers, and is no word
    many : (y : IsGood x (starts g line rest)) (t : ℕ) (of : Ty) → type_in x is_value (body_of g) t ≡ Some of → hooked (form_of facts of) ≡ true
        → is_one_word (shape_of facts of) ≡ false
    many y t of typed h =
        let n = has_type x g.call.site (of_value t) of y.linked.0 typed in
        sym (ap is_one_word (look_of x g.call.site (of_value t) of n))
        ∙ (y.linked.0.built (house g.call.site (of_value t)) n.named.among (hooks_as x g.call.site y.linked.0 (of_value t) of typed ∙ h)).1

    no_number : {A : Type 0} (y : IsGood x (starts g line rest)) (t : ℕ) (of : Ty) → type_in x is_value (body_of g) t ≡ Some of
        → hooked (form_of facts of) ≡ true → of_numbers (shape_of facts of) ≡ true → A
    no_number y t of typed h numbers =
        let n = has_type x g.call.site (of_value t) of y.linked.0 typed in
        never (sym (hooks_numbers x (house g.call.site (of_value t)) (ap of_numbers (look_of x g.call.site (of_value t) of n) ∙ numbers))
        ∙ (hooks_as x g.call.site y.linked.0 (of_value t) of typed ∙ h))

    one_of : (any_hooked facts (Some from_type ∷ []) || gives_hooked facts (Some to_type)) ≡ true
        → (hooked (form_of facts from_type) ≡ true) ⊎ (hooked (form_of facts to_type) ≡ true)
    one_of h = by (hooked (form_of facts from_type)) refl h
      where
        by : (b : Bool) → hooked (form_of facts from_type) ≡ b → ((b || false) || hooked (form_of facts to_type)) ≡ true
            → (hooked (form_of facts from_type) ≡ true) ⊎ (hooked (form_of facts to_type) ≡ true)
        by true e h = inl e
        by false e h = inr h

    convert_value : (any_hooked facts (Some from_type ∷ []) || gives_hooked facts (Some to_type)) ≡ true
        → OwnedRow x g rest to how O.Convert (Some ty) (Some a ∷ []) (F.Value from ∷ [])
    convert_value hooks y [] has seen = absurd has
    convert_value hooks y (z ∷ w ∷ xs) has seen = absurd has.1
    convert_value hooks y (z ∷ []) has seen =
        let f = fits_row x g rest to O.Convert how (Some ty) (Some a ∷ []) (F.Value from ∷ []) y in
        let from_typed : value_type x g line rest y from ≡ Some from_type = same_type (value_type x g line rest y from) (Some from_type)
        (and_parts (same_value (value_type x g line rest y from) (Some from_type)) true f.typed).0 in
        let typed = value_type_by (value_type x g line rest y to) (Some to_type) to_type f.given refl in
        by typed from_typed (one_of hooks) (x.conversions ty a f.row)
      where
        v : Value
        v = value_of z

        Converts : Option ℕ → Type 0
        Converts o = Settles x (starts g line rest) rest (gives (scene_of (high x.table x.blocks (starts g line rest))) to
            (costs 1 (converted o v >>= moved) >>= (λ u. give u)))

        code_is : limit_of facts to_type ≡ None
            → code_here x g line rest y ≡ moves (house g.call.site (of_value to)) (house g.call.site (of_value from)) (code_next x g line rest y)
        code_is e = ap (λ l. converted_code l (house g.call.site (of_value to)) (house g.call.site (of_value from)) (code_next x g line rest y))
            (x.limits ty ∙ e)

        numbers_none : {A : Type 0} → type_in x is_value (body_of g) to ≡ Some to_type → type_in x is_value (body_of g) from ≡ Some from_type
            → (hooked (form_of facts from_type) ≡ true) ⊎ (hooked (form_of facts to_type) ≡ true) → of_numbers (shape_of facts from_type) ≡ true
            → of_numbers (shape_of facts to_type) ≡ true → A
        numbers_none typed from_typed (inl h) n m = no_number y from from_type from_typed h n
        numbers_none typed from_typed (inr h) n m = no_number y to to_type typed h m

        same_shape : type_in x is_value (body_of g) to ≡ Some to_type → type_in x is_value (body_of g) from ≡ Some from_type
            → is_one_word (shape_of facts to_type) ≡ false → shape_of facts from_type ≡ shape_of facts to_type → limit_of facts to_type ≡ None → Converts None
        same_shape typed from_typed words same none =
            let m = has_type x g.call.site (of_value from) from_type y.linked.0 from_typed in
            let there = home_of_value x g line rest y from (inl refl) m.named in
            bits_to_value x g line rest y to (shape_of facts to_type) v (bits_target x g line rest y to to_type refl refl typed words)
            (house g.call.site (of_value from))
            (subst (λ s. LiesAs x g line rest y (house g.call.site (of_value from)) s v) same
            (bits_read x g line rest y from v from_type from_typed there (ap is_one_word same ∙ words) (given_value (g.call.temps.values from) z has.0)))
            (code_is none) (1 + (bytes v + 0)) (omega arith)

        many_to : type_in x is_value (body_of g) to ≡ Some to_type → type_in x is_value (body_of g) from ≡ Some from_type
            → (hooked (form_of facts from_type) ≡ true) ⊎ (hooked (form_of facts to_type) ≡ true) → shape_of facts from_type ≡ shape_of facts to_type
            → is_one_word (shape_of facts to_type) ≡ false
        many_to typed from_typed (inl h) same = sym (ap is_one_word same) ∙ many y from from_type from_typed h
        many_to typed from_typed (inr h) same = many y to to_type typed h

        by : type_in x is_value (body_of g) to ≡ Some to_type → type_in x is_value (body_of g) from ≡ Some from_type
            → (hooked (form_of facts from_type) ≡ true) ⊎ (hooked (form_of facts to_type) ≡ true)
            → ((limit_of facts to_type ≡ None) × ((u : Value) → has_shape u (shape_of facts from_type) ≡ true → has_shape u (shape_of facts to_type) ≡ true)
            × ((shape_of facts from_type ≡ shape_of facts to_type)
            ⊎ ((of_numbers (shape_of facts from_type) ≡ true) × (of_numbers (shape_of facts to_type) ≡ true))))
            ⊎ ((values : ℕ) × (other : Option ℕ) × (limit_of facts to_type ≡ Some values) × (shape_of facts to_type ≡ number (Some values))
            × (shape_of facts from_type ≡ number other))
            → Converts (limit_of facts to_type)
        by typed from_typed hooks (inr h) = numbers_none typed from_typed hooks (ap of_numbers h.4) (ap of_numbers h.3)
        by typed from_typed hooks (inl h) = subst (λ l. Converts l) (sym h.0) (as_one h.2)
          where
            as_one : (shape_of facts from_type ≡ shape_of facts to_type)
                ⊎ ((of_numbers (shape_of facts from_type) ≡ true) × (of_numbers (shape_of facts to_type) ≡ true)) → Converts None
            as_one (inl same) = same_shape typed from_typed (many_to typed from_typed hooks same) same h.0
            as_one (inr n) = numbers_none typed from_typed hooks n.0 n.1

  pub convert_row : (ty : Option ℕ) (of : List (Option ℕ)) (from : List From)
      → (any_hooked facts (map (if_type (known x).types) of) || gives_hooked facts (if_type (known x).types ty)) ≡ true
      → OwnedRow x g rest to how O.Convert ty of from
  convert_row (Some ty) (Some a ∷ []) (F.Value from ∷ []) hooks y xs has seen = convert_value ty a from hooks y xs has seen
  convert_row ty [] from hooks y xs has seen = never (fits_row x g rest to O.Convert how ty [] from y).row
  convert_row ty (a ∷ b ∷ of) from hooks y xs has seen = never (fits_row x g rest to O.Convert how ty (a ∷ b ∷ of) from y).row
  convert_row None (a ∷ []) from hooks y xs has seen = never (fits_row x g rest to O.Convert how None (a ∷ []) from y).row
  convert_row (Some ty) (None ∷ []) from hooks y xs has seen = never (fits_row x g rest to O.Convert how (Some ty) (None ∷ []) from y).row
  convert_row (Some ty) (Some a ∷ []) [] hooks y xs has seen = never (fits_row x g rest to O.Convert how (Some ty) (Some a ∷ []) [] y).typed
  convert_row (Some ty) (Some a ∷ []) (F.Place t ∷ others) hooks y xs has seen =
      never (and_parts (gives_hooked facts (Some (type_at (known x).types a))) false
      (and_parts (may_stand facts uses.Owned (Some (type_at (known x).types a))) _
      (fits_row x g rest to O.Convert how (Some ty) (Some a ∷ []) (F.Place t ∷ others) y).placed).0).1
  convert_row (Some ty) (Some a ∷ []) (F.Value from ∷ other ∷ others) hooks y xs has seen =
      never (and_parts (same_value (value_type x g (apply_line x g rest to O.Convert how (Some ty) (Some a ∷ []) (F.Value from ∷ other ∷ others)) rest y from)
      (Some (type_at (known x).types a))) false
      (fits_row x g rest to O.Convert how (Some ty) (Some a ∷ []) (F.Value from ∷ other ∷ others) y).typed).1
