-- Lines of operations with hooks: by the operation.
use Rattle.std.proofs.Common.{◌≡◌, ◌⊎◌, inl, inr, ℕ, List, [], ◌∷◌, Option, Some, None, Bool, true, false, refl, sym, ap, subst, ◌∙◌, map}
use Rattle.std.specs.Prelude.{◌||◌}
use Rattle.std.proofs.lemmas.Bool.{and_parts, cases_Bool}
use Rattle.nim_types.specs.Types.{Ty}
use Rattle.nim_types.specs.Table.{facts_in}
use Rattle.nim_program.specs.Kinds.{has_length, is_bool, is_int, is_of, is_sequence, is_text, kind_if, kind_of}
use Rattle.nim_program.specs.declared.operation.Measure.{Measure}
use Rattle.flat_code.specs.Codes.{block_does}
use Rattle.flat_code.specs.Running.{scene_of}
use Rattle.nim_program.specs.View.{if_type}
use Rattle.nim_program.specs.declared.operation.Comparison.{Comparison}
use Rattle.nim_program.specs.declared.operation.Operation.{Operation}
use Rattle.nim_meaning.specs.Here.{any_hooked, gives_hooked}
use Rattle.flat_code.specs.declared.block.BlockLine.{BlockLine}
use Rattle.flat_code.specs.declared.line.From.{From}
use Rattle.flat_code.specs.declared.line.UseAt.{UseAt}
use Rattle.flat_code.specs.Fits.{operation_fits}
use Rattle.flat_code.specs.Lines.{traded}
use Rattle.word_lowering.proofs.ApplyFits.{apply_line}
use Rattle.word_lowering.proofs.BitRows.{default_row, move_row, swap_row}
use Rattle.word_lowering.proofs.ChangedSequences.{add_row, pop_row}
use Rattle.word_lowering.proofs.ChangedTexts.{append_row}
use Rattle.word_lowering.proofs.HookBasis.{HookBasis, sequences_known}
use Rattle.word_lowering.proofs.HookedAssigns.{assign_whole}
use Rattle.word_lowering.proofs.NewSequences.{new_row, sequence_row}
use Rattle.word_lowering.proofs.Settling.{TrapsStop}
use Rattle.word_lowering.proofs.LineFits.{AreOf, are_of, some_kind}
use Rattle.word_lowering.proofs.Options.{none_some}
use Rattle.word_lowering.proofs.Lines.{Basis, Completes, known, starts, Whole}
use Rattle.word_lowering.proofs.HookedLengths.{length_row}
use Rattle.word_lowering.proofs.HandledLines.{array_row}
use Rattle.word_lowering.proofs.JoinedTypes.{text_looks}
use Rattle.word_lowering.proofs.MeasuredArrays.{measure_array_row}
use Rattle.word_lowering.proofs.MeasuredSequences.{measure_sequence_row}
use Rattle.word_lowering.proofs.TextReads.{measure_text_row}
use Rattle.word_lowering.proofs.SequencePlaces.{sequence_some}
use Rattle.word_lowering.proofs.LabelsHere.{few_operands}
use Rattle.word_lowering.proofs.MadeRows.{make_row}
use Rattle.word_lowering.proofs.OperandTexts.{TextsBuilt}
use Rattle.word_lowering.proofs.OwnedFits.{FitsRow, OwnedRow, fits_row}
use Rattle.word_lowering.proofs.OwnedLines.{owned_completes}
use Rattle.word_lowering.proofs.PassedRows.{convert_row, discard_row}
use Rattle.word_lowering.proofs.ReadTextLines.{read_row}
use Rattle.word_lowering.proofs.Related.{Both, body_of, high}
use Rattle.word_lowering.proofs.ShapeFacts.{never}
use Rattle.word_lowering.proofs.ShowLines.{show_row}
use Rattle.word_lowering.proofs.Targets.{code_here}
use Rattle.word_lowering.proofs.TextRowLines.{compare_row, join_row}
use Rattle.word_lowering.proofs.UnhookedRows.{bool_numbers, kind_none, numbers_none, same_none}
use Rattle.word_lowering.proofs.WrittenLines.{Writing}
use Rattle.nim_program.specs.declared.operation.Operation.TheVariants as O

abbrev pub is_echo : Operation → Bool
is_echo O.Echo = true
is_echo operation = false

module _ (x : Basis) where
  abbrev type : Option ℕ → Option Ty
  type n = if_type (known x).types n

  abbrev any : List (Option ℕ) → Bool
  any of = any_hooked (facts_in x.table) (map type of)

  abbrev one : Option ℕ → Bool
  one n = gives_hooked (facts_in x.table) (type n)

  -- one of both has, and the other one hasn't
  first_has : (a b : Bool) → b ≡ false → (a || b) ≡ true → a ≡ true
  first_has true b n h = refl
  first_has false b n h = never (sym n ∙ h)

  alone : (a : Bool) → (a || false) ≡ true → a ≡ true
  alone true h = refl
  alone false h = h

module _ (x : Basis) (g : Both) (rest : List BlockLine) (to : ℕ) (how : UseAt) (ty : Option ℕ) (of : List (Option ℕ)) (from : List From) where
  -- nothing is handed over
  untraded : (operation : Operation) → traded true operation from ≡ [] → traded false operation from ≡ [] → (b : Bool) → traded b operation from ≡ []
  untraded operation t f true = t
  untraded operation t f false = f

  by_row : (operation : Operation) → traded true operation from ≡ [] → traded false operation from ≡ [] → OwnedRow x g rest to how operation ty of from
      → (any x of || one x ty) ≡ true → Whole x g rest (apply_line x g rest to operation how ty of from)
  by_row operation t f row hooks y = owned_completes x g rest to how operation ty of from row y hooks (untraded operation t f (any x of))

  -- what is compared has hooks, and not what comes of it
  compared : (comparison : Comparison) → (any x of || one x ty) ≡ true
      → operation_fits (facts_in x.table) (O.Compare comparison) (type x ty) (map (type x) of) ≡ true → any x of ≡ true
  compared comparison hooks fits = by of fits (λ n. first_has x (any x of) (one x ty) n hooks)
    where
      by : (of : List (Option ℕ)) → operation_fits (facts_in x.table) (O.Compare comparison) (type x ty) (map (type x) of) ≡ true
          → (one x ty ≡ false → any x of ≡ true) → any x of ≡ true
      by (a ∷ b ∷ []) fits go =
          go (kind_none x ty is_bool (bool_numbers x) (and_parts (is_bool (kind_if (facts_in x.table) (type x ty))) _ fits).0)
      by [] fits go = never fits
      by (a ∷ []) fits go = never fits
      by (a ∷ b ∷ c ∷ of) fits go = never fits

module _ (x : Basis) (g : Both) (rest : List BlockLine) (to : ℕ) (how : UseAt) where
  -- ---- what a type starts at

  default_whole : (ty : Option ℕ) (of : List (Option ℕ)) (from : List From) → (any x of || one x ty) ≡ true
      → Whole x g rest (apply_line x g rest to O.Default how ty of from)
  default_whole ty (a ∷ of) from hooks y = never (fits_row x g rest to O.Default how ty (a ∷ of) from y).row
  default_whole None [] from hooks y = never hooks
  default_whole (Some n) [] from hooks y =
      by_row x g rest to how (Some n) [] from O.Default refl refl (default_row x g rest to how n hooks [] from) hooks y

  -- ---- what is moved or trades places

  move_whole : (ty : Option ℕ) (of : List (Option ℕ)) (from : List From) → (any x of || one x ty) ≡ true
      → Whole x g rest (apply_line x g rest to O.Move how ty of from)
  move_whole ty [] from hooks y = never (fits_row x g rest to O.Move how ty [] from y).row
  move_whole ty (a ∷ b ∷ of) from hooks y = never (fits_row x g rest to O.Move how ty (a ∷ b ∷ of) from y).row
  move_whole None (a ∷ []) from hooks y =
      let f = are_of (type x a) None (fits_row x g rest to O.Move how None (a ∷ []) from y).row in absurd (none_some f.ty f.is_other)
  move_whole (Some n) (a ∷ []) from hooks y =
      by_row x g rest to how (Some n) (a ∷ []) from O.Move refl refl (move_row x g rest to how n (has (cases_Bool (one x (Some n)))) (a ∷ []) from) hooks y
    where
      fits : is_of (type x a) (type x (Some n)) ≡ true
      fits = (fits_row x g rest to O.Move how (Some n) (a ∷ []) from y).row

      has : (one x (Some n) ≡ true) ⊎ (one x (Some n) ≡ false) → one x (Some n) ≡ true
      has (inl h) = h
      has (inr none) = never (sym (same_none x a (Some n) fits none) ∙ alone x (one x a) (first_has x (one x a || false) (one x (Some n)) none hooks))

  swap_whole : (ty : Option ℕ) (of : List (Option ℕ)) (from : List From) → (any x of || one x ty) ≡ true
      → Whole x g rest (apply_line x g rest to O.Swap how ty of from)
  swap_whole (Some n) of from hooks y = never (fits_row x g rest to O.Swap how (Some n) of from y).row
  swap_whole None [] from hooks y = never (fits_row x g rest to O.Swap how None [] from y).row
  swap_whole None (a ∷ []) from hooks y = never (fits_row x g rest to O.Swap how None (a ∷ []) from y).row
  swap_whole None (a ∷ b ∷ c ∷ of) from hooks y = never (fits_row x g rest to O.Swap how None (a ∷ b ∷ c ∷ of) from y).row
  swap_whole None (None ∷ b ∷ []) from hooks y =
      let f = are_of None (type x b) (fits_row x g rest to O.Swap how None (None ∷ b ∷ []) from y).row in absurd (none_some f.ty f.is)
  swap_whole None (Some n ∷ b ∷ []) from hooks y =
      by_row x g rest to how None (Some n ∷ b ∷ []) from O.Swap refl refl
      (swap_row x g rest to how (Some n) b n refl (has (cases_Bool (one x (Some n)))) from) hooks y
    where
      f : AreOf (type x (Some n)) (type x b)
      f = are_of (type x (Some n)) (type x b) (fits_row x g rest to O.Swap how None (Some n ∷ b ∷ []) from y).row

      has : (one x (Some n) ≡ true) ⊎ (one x (Some n) ≡ false) → one x (Some n) ≡ true
      has (inl h) = h
      has (inr none) =
          let other : one x b ≡ false = ap (gives_hooked (facts_in x.table)) (f.is_other ∙ sym f.is) ∙ none in
          let both : (one x (Some n) || (one x b || false)) ≡ false
          = ap (λ c. c || (one x b || false)) none ∙ ap (λ c. c || false) other in
          never (sym both ∙ alone x (one x (Some n) || (one x b || false)) hooks)

module _ (x : Basis) (said : Writing x) (b : HookBasis x) (g : Both) (rest : List BlockLine) (to : ℕ) (how : UseAt) where
  measure_whole : (m : Measure) (ty : Option ℕ) (of : List (Option ℕ)) (from : List From) → (any x of || one x ty) ≡ true
      → Whole x g rest (apply_line x g rest to (O.Measure m) how ty of from)
  measure_whole m ty [] from hooks y = never (fits_row x g rest to (O.Measure m) how ty [] from y).row
  measure_whole m ty (a ∷ c ∷ of) from hooks y = never (fits_row x g rest to (O.Measure m) how ty (a ∷ c ∷ of) from y).row
  measure_whole m ty (a ∷ []) from hooks y = by (is_sequence (kind_if (facts_in x.table) (type x a))) refl
    where
      line : BlockLine
      line = apply_line x g rest to (O.Measure m) how ty (a ∷ []) from

      by : (s : Bool) → is_sequence (kind_if (facts_in x.table) (type x a)) ≡ s
          → Completes x (starts g line rest) rest (block_does (known x) (scene_of (high x.table x.blocks (starts g line rest))) line)
      by true h =
          let e = sequence_some (facts_in x.table) (type x a) h in
          by_row x g rest to how ty (a ∷ []) from (O.Measure m) refl refl
          (measure_sequence_row x (sequences_known x b) g rest to how m ty a e.0 e.1 from) hooks y
      by false h = other (cases_Bool (is_text (kind_of (facts_in x.table) s.0)))
        where
          r : FitsRow x g rest to (O.Measure m) how ty (a ∷ []) from y
          r = fits_row x g rest to (O.Measure m) how ty (a ∷ []) from y

          s : (u : Ty) × (type x a ≡ Some u) × (has_length (kind_of (facts_in x.table) u) ≡ true)
          s = some_kind (facts_in x.table) (type x a) has_length refl
              (and_parts (is_int (kind_if (facts_in x.table) (type x ty))) (has_length (kind_if (facts_in x.table) (type x a))) r.row).1

          other : (is_text (kind_of (facts_in x.table) s.0) ≡ true) ⊎ (is_text (kind_of (facts_in x.table) s.0) ≡ false)
              → Completes x (starts g line rest) rest (block_does (known x) (scene_of (high x.table x.blocks (starts g line rest))) line)
          other (inl t) =
              by_row x g rest to how ty (a ∷ []) from (O.Measure m) refl refl
              (measure_text_row x said g rest to how m ty a s.0 s.1 (text_looks (facts_in x.table) s.0 t) from) hooks y
          other (inr t) =
              by_row x g rest to how ty (a ∷ []) from (O.Measure m) refl refl
              (measure_array_row x g rest to how m ty a s.0 s.1 (array_row (facts_in x.table) s.0 s.2
              (subst (λ o. is_sequence (kind_if (facts_in x.table) o) ≡ false) s.1 h) t) from) hooks y

module _ (x : Basis) (traps : TrapsStop x) (said : Writing x) (texts : TextsBuilt x) (b : HookBasis x) (g : Both)
    (rest : List BlockLine) (to : ℕ) (how : UseAt) (ty : Option ℕ) (of : List (Option ℕ)) (from : List From) where
  pub apply_hooked : (operation : Operation) → is_echo operation ≡ false → (any x of || one x ty) ≡ true →
      Whole x g rest (apply_line x g rest to operation how ty of from)
  apply_hooked O.Make other hooks y = by_row x g rest to how ty of from O.Make refl refl (make_row x g rest to how ty of from hooks) hooks y
  apply_hooked O.Convert other hooks y = by_row x g rest to how ty of from O.Convert refl refl (convert_row x g rest to how ty of from hooks) hooks y
  apply_hooked O.Discard other hooks y = by_row x g rest to how ty of from O.Discard refl refl (discard_row x g rest to how ty of from) hooks y
  apply_hooked O.Join other hooks y = by_row x g rest to how ty of from O.Join refl refl (join_row x said texts g rest to how ty of from) hooks y
  apply_hooked O.Show other hooks y = by_row x g rest to how ty of from O.Show refl refl (show_row x said texts g rest to how ty of from) hooks y
  apply_hooked O.Append other hooks y = by_row x g rest to how ty of from O.Append refl refl (append_row x said texts g rest to how ty of from) hooks y
  apply_hooked O.Assign other hooks y = assign_whole x b g rest to how ty of from hooks y
  apply_hooked O.Default other hooks y = default_whole x g rest to how ty of from hooks y
  apply_hooked O.Move other hooks y = move_whole x g rest to how ty of from hooks y
  apply_hooked O.Swap other hooks y = swap_whole x g rest to how ty of from hooks y
  apply_hooked O.SetLength other hooks y =
      by_row x g rest to how ty of from O.SetLength refl refl (length_row x b traps g rest to how said ty of from) hooks y
  apply_hooked (O.Measure m) other hooks y = measure_whole x said b g rest to how m ty of from hooks y
  apply_hooked O.Add other hooks y = by_row x g rest to how ty of from O.Add refl refl (add_row x (sequences_known x b) traps g rest to how ty of from) hooks y
  apply_hooked O.Pop other hooks y = by_row x g rest to how ty of from O.Pop refl refl (pop_row x (sequences_known x b) traps g rest to how ty of from) hooks y
  apply_hooked O.NewSequence other hooks y = by_row x g rest to how ty of from O.NewSequence refl refl
      (new_row x (sequences_known x b) traps g rest to how ty of from) hooks y
  apply_hooked O.Sequence other hooks y =
      let few = few_operands x.table x.blocks (body_of g) (apply_line x g rest to O.Sequence how ty of from) rest y.linked.0 y.stands in
      by_row x g rest to how ty of from O.Sequence refl refl (sequence_row x (sequences_known x b) traps g rest to how ty of from few) hooks y
  apply_hooked (O.Compare comparison) other hooks y =
      by_row x g rest to how ty of from (O.Compare comparison) refl refl
      (compare_row x said texts g rest to how comparison ty of from
      (compared x g rest to how ty of from comparison hooks (fits_row x g rest to (O.Compare comparison) how ty of from y).row)) hooks y
  apply_hooked (O.Unary operator) other hooks y =
      never (sym (numbers_none x (O.Unary operator) ty of refl (fits_row x g rest to (O.Unary operator) how ty of from y).row) ∙ hooks)
  apply_hooked (O.Binary operator) other hooks y =
      never (sym (numbers_none x (O.Binary operator) ty of refl (fits_row x g rest to (O.Binary operator) how ty of from y).row) ∙ hooks)
  apply_hooked O.Quit other hooks y = never (sym (numbers_none x O.Quit ty of refl (fits_row x g rest to O.Quit how ty of from y).row) ∙ hooks)
  apply_hooked (O.Update operator) other hooks y =
      never (sym (numbers_none x (O.Update operator) ty of refl (fits_row x g rest to (O.Update operator) how ty of from y).row) ∙ hooks)
  apply_hooked O.IsNil other hooks y = never (code_here x g (apply_line x g rest to O.IsNil how ty of from) rest y)
  apply_hooked O.ReadLine other hooks y = never (code_here x g (apply_line x g rest to O.ReadLine how ty of from) rest y)
  apply_hooked O.Destroy other hooks y = never (code_here x g (apply_line x g rest to O.Destroy how ty of from) rest y)
  apply_hooked O.Blank other hooks y = never (code_here x g (apply_line x g rest to O.Blank how ty of from) rest y)
  apply_hooked O.ReadLineInto other hooks y =
      by_row x g rest to how ty of from O.ReadLineInto refl refl (read_row x said g rest to how ty of from) hooks y
  apply_hooked O.Echo other hooks y = never (sym other)
