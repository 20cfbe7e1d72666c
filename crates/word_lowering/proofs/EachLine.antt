-- Each line of block code is followed.
use Rattle.nim_program.specs.declared.expr.Label.TheVariants as C
use Rattle.flat_code.specs.Pieces.{are_one, is_one_text, value_of}
use Rattle.word_lowering.proofs.ConstantFits.{constant_typed}
use Rattle.word_lowering.proofs.LinkedConstants.{linked_whole}
use Rattle.word_lowering.proofs.PassedOn.{pass_hooked}
use Rattle.word_lowering.proofs.HookedConstruct.{construct_whole}
use Rattle.word_lowering.proofs.HouseHooks.{gives_as, homed, hooks_as, hooks_numbers, hooks_type, plain_as, plain_operands, plain_typed, plain_value}
use Rattle.nim_meaning.specs.Shapes.{waits}
use Rattle.word_lowering.specs.Aliases.{text_in}
use Rattle.flat_code.specs.declared.line.From.TheVariants as F
use Rattle.flat_code.specs.declared.line.Piece.TheVariants as P
use Rattle.word_lowering.proofs.Options.{some_same, none_some}
use Rattle.flat_code.specs.Shapes.{has_shape, shape_of}
use Rattle.nim_meaning.specs.Waiting.{reads_kept}
use Rattle.flat_code.specs.Fits.{is_location, is_own, is_value, needs_no_type, if_kind, is_standing, place_named}
use Rattle.nim_program.specs.View.{if_type}
use Rattle.word_lowering.proofs.Sites.{is_one_word, type_of}
use Rattle.word_lowering.specs.Layouts.{found, word_by}
use Rattle.nim_types.specs.Forms.{form_of, hooked}
use Rattle.nim_types.specs.Table.{facts_in, type_at}
use Rattle.word_lowering.specs.Stored.{entry_at, is_word}
use Rattle.flat_code.specs.Waits.{constant_waits}
use Rattle.nim_meaning.specs.Here.{any_hooked, gives_hooked, is_hooked}
use Rattle.nim_program.specs.Kinds as kind
use Rattle.nim_program.specs.Kinds.{TypeKind, element_of, field_at, has_length, is_bool, is_int, is_of, kind_if, kind_of, same_value}
use Rattle.flat_code.specs.declared.place.PlaceKind.{PlaceKind}
use Rattle.flat_code.specs.declared.place.PlaceKind.TheVariants as K
use Rattle.flat_code.specs.declared.line.Piece.{Piece}
use Rattle.word_lowering.specs.declared.homes.Housed.{Housed}
use Rattle.nim_types.specs.Types.{Facts, Ty}
use Rattle.word_lowering.proofs.LineFits.{AreOf, are_of, bool_shape, int_shape, no_handle, same_type, some_kind, ordinal_shape}
use Rattle.nim_plan.specs.declared.plan.Act.{Act}
use Rattle.std.proofs.lemmas.Bool.{and_parts, not-true}
use Rattle.std.specs.Prelude.{◌&&◌, ◌||◌}
use Rattle.std.proofs.Common.{ℕ, List, [], ◌∷◌, Option, Some, None, sym, ◌∙◌, ◌≡◌, ◌⊎◌, Bool, true, false, not, ap, inl, inr, refl, subst, map}
use Rattle.nim_program.specs.declared.operation.Operation.{Operation}
use Rattle.nim_program.specs.declared.operation.Operation.TheVariants as O
use Rattle.flat_code.specs.declared.line.UseAt.{UseAt}
use Rattle.flat_code.specs.declared.block.BlockLine.{BlockLine}
use Rattle.flat_code.specs.declared.block.BlockLine.TheVariants as block_line
use Rattle.flat_code.specs.declared.owned.OwnedLine.TheVariants as owned_line
use Rattle.flat_code.specs.declared.line.From.{From}
use Rattle.flat_code.specs.declared.line.Line.{Line}
use Rattle.flat_code.specs.declared.line.Line.TheVariants as L
use Rattle.flat_code.specs.Codes.{block_does}
use Rattle.flat_code.specs.Running.{scene_of}
use Rattle.word_lowering.proofs.ApplyFits.{applies, RowHere}
use Rattle.word_lowering.proofs.CaseLines.{fits_line}
use Rattle.word_lowering.proofs.Clears.{default_line}
use Rattle.word_lowering.proofs.CompareLines.{compare_line, convert_line}
use Rattle.word_lowering.proofs.ConstantLines.{constant_line}
use Rattle.word_lowering.proofs.ControlLines.{plain, enter_line, jump_line, label_line, turn_if_line, turn_line, unless_line, SettlesHere}
use Rattle.word_lowering.proofs.ArrayElements.{array_element}
use Rattle.word_lowering.proofs.TextElements.{element_other}
use Rattle.word_lowering.proofs.TextItemLines.{item_other}
use Rattle.word_lowering.proofs.HandledLines.{by_length, by_sequence}
use Rattle.word_lowering.proofs.TextReads.{length_text, still_text}
use Rattle.word_lowering.proofs.HookBasis.{HookBasis, sequences_known}
use Rattle.word_lowering.proofs.HookedRows.{apply_hooked, is_echo}
use Rattle.word_lowering.proofs.SequenceReads.{element_sequence, item_sequence, length_sequence, still_sequence}
use Rattle.word_lowering.proofs.HookedCopies as hooked
use Rattle.word_lowering.proofs.HookedOwning.{ends_whole, place_copies_whole, place_ends_whole, result_gets_whole}
use Rattle.word_lowering.proofs.OperandTexts.{TextsBuilt}
use Rattle.flat_code.specs.declared.line.Owning.{Owning}
use Rattle.flat_code.specs.declared.line.Owning.TheVariants as W
use Rattle.word_lowering.proofs.TextWholes.{echo_whole, label_whole, literal_whole}
use Rattle.word_lowering.proofs.WrittenLines.{Writing}
use Rattle.word_lowering.proofs.EndLines.{quit_line}
use Rattle.word_lowering.proofs.ItemLines.{item_bits}
use Rattle.word_lowering.proofs.StandingLines.{standing_line}
use Rattle.word_lowering.proofs.LeadLines.{fresh_line}
use Rattle.word_lowering.proofs.RootLines.{root_line}
use Rattle.word_lowering.proofs.Lines.{Basis, IsGood, Settles, known, starts, Completes, IsQuiet, completes_quiet, fits_here, Whole}
use Rattle.word_lowering.proofs.MakeLines.{make_line}
use Rattle.word_lowering.proofs.MeasureLines.{measure_row, length_bits, still_bits}
use Rattle.word_lowering.proofs.MovedLines.{fill_line, get_line, give_line, look_line, take_line}
use Rattle.word_lowering.proofs.NumberLines.{count_line, beyond_line, next_line, truth_line, zero_line}
use Rattle.word_lowering.proofs.OperandLines.{binary_line, unary_line}
use Rattle.word_lowering.proofs.PartLines.{part_bits}
use Rattle.word_lowering.proofs.PlainRows.{as_row}
use Rattle.word_lowering.proofs.Related.{Both, high, body_of}
use Rattle.word_lowering.proofs.ReturnLine.{return_line}
use Rattle.word_lowering.proofs.Settling.{LabelsLead, OwnLabels, TrapsStop}
use Rattle.word_lowering.proofs.ShapeFacts.{never, of_numbers}
use Rattle.word_lowering.proofs.StoreLines.{assign_line, discard_line, number_pass, pass_line}
use Rattle.word_lowering.proofs.HeapLines.{add_line, append_line, is_nil_line, join_line, new_sequence_line, pop_line, read_line_into_line}
use Rattle.word_lowering.proofs.HeapLines.{read_line_line, sequence_line, set_length_line, show_line, destroy_line, unborn_line}
use Rattle.word_lowering.proofs.OutLines.{move_line}
use Rattle.word_lowering.proofs.SwapLines.{swap_line}
use Rattle.word_lowering.proofs.Targets.{code_here, home_of_value, leads_here}
use Rattle.word_lowering.proofs.UpdateLines.{update_line}
use Rattle.word_lowering.proofs.ValueFacts.{IsPlain, PlainNames, has_type, look_of, type_in}
use Rattle.word_lowering.proofs.Scenes.{of_value, of_location, of_place, house, looked}
use Rattle.word_lowering.proofs.HookedMoves.{blank_line, NoWord, fill_bits, give_bits, look_bits}
use Rattle.word_lowering.proofs.CallLabels.{ArgumentLabels}
use Rattle.word_lowering.proofs.CallLines.{call_line}
use Rattle.word_lowering.proofs.WaitLines.{fresh_whole, stands_whole, taken_whole, waits_whole}

module _ (x : Basis) (labels : LabelsLead x) where
  abbrev Row : Operation → Type 0
  Row operation = (g : Both) (rest : List BlockLine) (to : ℕ) (how : UseAt) (ty : Option ℕ) (of : List (Option ℕ)) (from : List From)
      → any_hooked (facts_in x.table) (map (if_type (known x).types) of) ≡ false → is_echo operation ≡ false → RowHere x g rest to operation how ty of from

module _ (x : Basis) (labels : LabelsLead x) (traps : TrapsStop x) (own : OwnLabels x) (arguments : ArgumentLabels x) (said : Writing x)
    (texts : TextsBuilt x) (b : HookBasis x) where
  -- ---- operations without hooks

  row_followed : (operation : Operation) → Row x labels operation
  row_followed O.Default g rest to how ty [] from none other names y = default_line x labels g rest to how ty from names y
  row_followed O.Default g rest to how ty (a ∷ of) from none other names y = never (applies x g rest to O.Default how ty (a ∷ of) from names y).row
  row_followed (O.Unary operator) g rest to how ty of from none other names y = unary_line x traps own g rest to how ty operator of from names y
  row_followed (O.Binary operator) g rest to how ty of from none other names y = binary_line x traps own g rest to how ty operator of from names y
  row_followed (O.Compare comparison) g rest to how ty of from none other names y = compare_line x labels g rest to how ty comparison of from none names y
  row_followed O.Convert g rest to how ty of from none other names y = convert_line x traps labels g rest to how ty of from none names y
  row_followed O.Join g rest to how ty of from none other names y = join_line x labels g rest to how ty of from names y
  row_followed O.Show g rest to how ty of from none other names y = show_line x labels g rest to how ty of from names y
  row_followed O.Make g rest to how ty of from none other names y = make_line x labels g rest to how ty of from names y
  row_followed O.Sequence g rest to how ty of from none other names y = sequence_line x labels g rest to how ty of from names y
  row_followed O.NewSequence g rest to how ty of from none other names y = new_sequence_line x labels g rest to how ty of from names y
  row_followed (O.Measure m) g rest to how ty of from none other names y = measure_row x labels g rest m to how ty of from names y
  row_followed O.IsNil g rest to how ty of from none other names y = is_nil_line x labels g rest to how ty of from names y
  row_followed O.Echo g rest to how ty of from none other names y = never (sym other)
  row_followed O.Quit g rest to how ty of from none other names y = quit_line x labels g rest to how ty of from names y
  row_followed O.ReadLine g rest to how ty of from none other names y = read_line_line x labels g rest to how ty of from names y
  row_followed O.ReadLineInto g rest to how ty of from none other names y = read_line_into_line x labels g rest to how ty of from names y
  row_followed O.Assign g rest to how ty of from none other names y = assign_line x labels g rest to how ty of from names y
  row_followed (O.Update operator) g rest to how ty of from none other names y = update_line x traps labels g rest to how operator ty of from names y
  row_followed O.Add g rest to how ty of from none other names y = add_line x labels g rest to how ty of from names y
  row_followed O.Append g rest to how ty of from none other names y = append_line x labels g rest to how ty of from names y
  row_followed O.SetLength g rest to how ty of from none other names y = set_length_line x labels g rest to how ty of from names y
  row_followed O.Pop g rest to how ty of from none other names y = pop_line x labels g rest to how ty of from names y
  row_followed O.Move g rest to how ty of from none other names y = move_line x labels g rest to how ty of from names y
  row_followed O.Swap g rest to how ty of from none other names y = swap_line x labels g rest to how ty of from names y
  row_followed O.Discard g rest to how ty of from none other names y = discard_line x labels g rest to how ty of from names y
  row_followed O.Destroy g rest to how ty of from none other names y = destroy_line x labels g rest to how ty of from names y
  row_followed O.Blank g rest to how ty of from none other names y = unborn_line x labels g rest to how ty of from names y

  or_false : (a b : Bool) → (a || b) ≡ false → (a ≡ false) × (b ≡ false)
  or_false true b h = never (sym h)
  or_false false b h = (refl, h)

  abbrev facts : Facts
  facts = facts_in x.table

  -- what has a number has no hooks
  plain_number : (g : Both) (line : BlockLine) (rest : List BlockLine) (y : IsGood x (starts g line rest)) (t : ℕ) (is : TypeKind → Bool)
      → is kind.other ≡ false → ((ty : Ty) → is (kind_of facts ty) ≡ true → of_numbers (shape_of facts ty) ≡ true)
      → is (kind_if facts (type_in x is_value (body_of g) t)) ≡ true → IsPlain x g.call.site (of_value t)
  plain_number g line rest y t is other shape h =
      let s = some_kind facts (type_in x is_value (body_of g) t) is other h in
      λ there. hooks_numbers x (house g.call.site (of_value t))
      (ap of_numbers (look_of x g.call.site (of_value t) s.0 (has_type x g.call.site (of_value t) s.0 y.linked.0 s.1)) ∙ shape s.0 s.2)

  plain_int : (g : Both) (line : BlockLine) (rest : List BlockLine) (y : IsGood x (starts g line rest)) (t : ℕ)
      → is_int (kind_if facts (type_in x is_value (body_of g) t)) ≡ true → IsPlain x g.call.site (of_value t)
  plain_int g line rest y t h = plain_number g line rest y t is_int refl (λ ty k. ap of_numbers (int_shape facts ty k)) h

  plain_bool : (g : Both) (line : BlockLine) (rest : List BlockLine) (y : IsGood x (starts g line rest)) (t : ℕ)
      → is_bool (kind_if facts (type_in x is_value (body_of g) t)) ≡ true → IsPlain x g.call.site (of_value t)
  plain_bool g line rest y t h = plain_number g line rest y t is_bool refl (λ ty k. ap of_numbers (bool_shape facts ty k)) h

  -- a value that has hooks is no word
  many_words : (g : Both) (line : BlockLine) (rest : List BlockLine) (y : IsGood x (starts g line rest)) (t : ℕ) (ty : Ty)
      → type_in x is_value (body_of g) t ≡ Some ty → hooked (form_of facts ty) ≡ true → NoWord x g rest t
  many_words g line rest y t ty typed h =
      let n = has_type x g.call.site (of_value t) ty y.linked.0 typed in
      (y.linked.0.built (house g.call.site (of_value t)) n.named.among (hooks_as x g.call.site y.linked.0 (of_value t) ty typed ∙ h)).1

  -- ---- each line

  quiet : (g : Both) (rest : List BlockLine) (line : Line) → IsQuiet x (plain line) → SettlesHere x labels g rest line → Whole x g rest (plain line)
  quiet g rest line is follows y =
      completes_quiet x g (plain line) rest (block_does (known x) (scene_of (high x.table x.blocks (starts g (plain line) rest))) (plain line)) is (follows y)

  apply_whole : (g : Both) (rest : List BlockLine) (to : ℕ) (operation : Operation) (how : UseAt) (ty : Option ℕ) (of : List (Option ℕ)) (from : List From)
      → is_echo operation ≡ false → Whole x g rest (plain (L.Apply to operation how ty of from))
  apply_whole g rest to operation how ty of from other y = by (operands || gives_hooked facts given) refl
    where
      line : BlockLine
      line = plain (L.Apply to operation how ty of from)

      given : Option Ty
      given = if_type (known x).types ty

      operands : Bool
      operands = any_hooked facts (map (if_type (known x).types) of)

      by : (b : Bool) → (operands || gives_hooked facts given) ≡ b → Completes x (starts g line rest) rest
          (block_does (known x) (scene_of (high x.table x.blocks (starts g line rest))) line)
      by true e = apply_hooked x traps said texts b g rest to how ty of from operation other e y
      by false e =
          let n = or_false operands (gives_hooked facts given) e in
          let f = and_parts _ (same_value (type_in x is_value (body_of g) to) given) (fits_here x.table x.blocks (body_of g) line rest y.stands) in
          let typed = and_parts _ _ (and_parts _ _ f.0).1 in
          completes_quiet x g line rest (block_does (known x) (scene_of (high x.table x.blocks (starts g line rest))) line)
          (ap (λ b. b && waits how.how) (gives_as x ty ∙ n.1))
          (as_row x labels g rest to how ty of from operation n.0 (row_followed operation g rest to how ty of from n.0 other)
          (plain_value x g.call.site y.linked.0 to given f.1 n.1, plain_operands x g.call.site y.linked.0 of from typed.0 n.0) y)

  constant_whole : (g : Both) (rest : List BlockLine) (to : ℕ) (how : UseAt) (ty : ℕ) (pieces : List Piece) →
      Whole x g rest (plain (L.Constant to how ty pieces))
  constant_whole g rest to how ty pieces y = by (text_in pieces) refl (gives_hooked facts (Some (type_at (known x).types ty))) refl
    where
      line : BlockLine
      line = plain (L.Constant to how ty pieces)

      by : (o : Option (List ℕ)) → text_in pieces ≡ o → (b : Bool) → gives_hooked facts (Some (type_at (known x).types ty)) ≡ b
          → Completes x (starts g line rest) rest (block_does (known x) (scene_of (high x.table x.blocks (starts g line rest))) line)
      by (Some text) e b h = literal_whole x labels said texts g rest to how ty pieces text e y
      by None e true h = linked_whole x b texts g rest to how ty pieces y e h
      by None e false h =
          completes_quiet x g line rest (block_does (known x) (scene_of (high x.table x.blocks (starts g line rest))) line)
          (ap (λ b. b && constant_waits pieces how.how) (x.hooks ty ∙ h))
          (constant_line x labels g rest to how ty pieces e (
            plain_as x g.call.site y.linked.0 (of_value to) (type_at (known x).types ty)
                (constant_typed x g rest to how ty pieces y) h,
            tt,
          ) y)

  get_whole : (g : Both) (rest : List BlockLine) (to from : ℕ) (how : UseAt) (ty : Option ℕ) → Whole x g rest (plain (L.Get to from how ty))
  get_whole g rest to from how ty y = by (gives_hooked facts (if_type (known x).types ty)) refl
    where
      line : BlockLine
      line = plain (L.Get to from how ty)

      by : (b : Bool) → gives_hooked facts (if_type (known x).types ty) ≡ b
          → Completes x (starts g line rest) rest (block_does (known x) (scene_of (high x.table x.blocks (starts g line rest))) line)
      by true e = hooked.get_whole x b g rest to from how ty e y
      by false e =
          let f = and_parts (is_of (type_in x is_value (body_of g) to) (if_type (known x).types ty)) _
          (fits_here x.table x.blocks (body_of g) line rest y.stands) in
          let v = are_of (type_in x is_value (body_of g) to) (if_type (known x).types ty) f.0 in
          let w = are_of (type_in x is_value (body_of g) to) (type_in x is_location (body_of g) from) f.1 in
          let h : hooked (form_of facts v.ty) ≡ false = sym (ap (gives_hooked facts) v.is_other) ∙ e in
          let same : v.ty ≡ w.ty = some_same v.ty w.ty (sym v.is ∙ w.is) in
          completes_quiet x g line rest (block_does (known x) (scene_of (high x.table x.blocks (starts g line rest))) line)
          (ap (λ b. b && reads_kept how.how) (gives_as x ty ∙ e))
          (get_line x labels g rest to from how ty (
            plain_as x g.call.site y.linked.0 (of_value to) v.ty v.is h,
            (plain_as x g.call.site y.linked.0 (of_location from) w.ty w.is_other (sym (ap (λ t. hooked (form_of facts t)) same) ∙ h), tt),
          ) y)

  take_whole : (g : Both) (rest : List BlockLine) (to from : ℕ) (how : UseAt) (act : Option Act) (ty : Option ℕ)
      → Whole x g rest (block_line.Plain (owned_line.Take to from how act ty))
  take_whole g rest to from how act ty y = by (gives_hooked facts (if_type (known x).types ty)) refl
    where
      line : BlockLine
      line = block_line.Plain (owned_line.Take to from how act ty)

      by : (b : Bool) → gives_hooked facts (if_type (known x).types ty) ≡ b
          → Completes x (starts g line rest) rest (block_does (known x) (scene_of (high x.table x.blocks (starts g line rest))) line)
      by true e = hooked.take_whole x b g rest to from how act ty e y
      by false e =
          let f = and_parts (is_of (type_in x is_value (body_of g) to) (if_type (known x).types ty)) _
          (fits_here x.table x.blocks (body_of g) line rest y.stands) in
          let v = are_of (type_in x is_value (body_of g) to) (if_type (known x).types ty) f.0 in
          let w = are_of (type_in x is_value (body_of g) to) (type_in x is_location (body_of g) from) f.1 in
          let h : hooked (form_of facts v.ty) ≡ false = sym (ap (gives_hooked facts) v.is_other) ∙ e in
          let same : v.ty ≡ w.ty = some_same v.ty w.ty (sym v.is ∙ w.is) in
          completes_quiet x g line rest (block_does (known x) (scene_of (high x.table x.blocks (starts g line rest))) line)
          (ap (λ b. b && reads_kept how.how) (gives_as x ty ∙ e))
          (take_line x labels g rest to from how act ty (
            plain_as x g.call.site y.linked.0 (of_value to) v.ty v.is h,
            (plain_as x g.call.site y.linked.0 (of_location from) w.ty w.is_other (sym (ap (λ t. hooked (form_of facts t)) same) ∙ h), tt),
          ) y)

  look_whole : (g : Both) (rest : List BlockLine) (to from : ℕ) → Whole x g rest (plain (L.Look to from))
  look_whole g rest to from y = completes_quiet x g line rest (block_does (known x) (scene_of (high x.table x.blocks (starts g line rest))) line) refl
      (by (hooked (form_of facts f.ty)) refl)
    where
      line : BlockLine
      line = plain (L.Look to from)

      f : AreOf (type_in x is_value (body_of g) to) (type_in x is_location (body_of g) from)
      f = are_of (type_in x is_value (body_of g) to) (type_in x is_location (body_of g) from)
          (and_parts (is_of (type_in x is_value (body_of g) to) (type_in x is_location (body_of g) from)) _
          (fits_here x.table x.blocks (body_of g) line rest y.stands)).0

      by : (b : Bool) → hooked (form_of facts f.ty) ≡ b
          → Settles x (starts g line rest) rest (block_does (known x) (scene_of (high x.table x.blocks (starts g line rest))) line)
      by true e =
          let n = has_type x g.call.site (of_location from) f.ty y.linked.0 f.is_other in
          look_bits x g rest to from (many_words g line rest y to f.ty f.is e) (homed x g.call.site y.linked.0 from n.named) y
      by false e =
          look_line x labels g rest to from (
            plain_as x g.call.site y.linked.0 (of_value to) f.ty f.is e,
            (plain_as x g.call.site y.linked.0 (of_location from) f.ty f.is_other e, tt),
          ) y

  standing_whole : (g : Both) (rest : List BlockLine) (to ty : ℕ) (pieces : List Piece) → Whole x g rest (plain (L.Standing to ty pieces))
  standing_whole g rest to ty pieces y =
      completes_quiet x g line rest (block_does (known x) (scene_of (high x.table x.blocks (starts g line rest))) line) refl
      (standing_line x labels texts g rest to ty pieces y)
    where
      line : BlockLine
      line = plain (L.Standing to ty pieces)

  -- the kind of a location is that of its word in the table
  location_word : (kind : PlaceKind) (w : Bool) → is_location kind ≡ true → word_by kind w ≡ w
  location_word K.Location w h = refl
  location_word K.Within w h = refl
  location_word kind w h = never h

  part_whole : (g : Both) (rest : List BlockLine) (to from field : ℕ) → Whole x g rest (plain (L.Part to from field))
  part_whole g rest to from field y =
      let line = plain (L.Part to from field) in
      let from_kind : TypeKind = kind_if facts (type_in x is_location (body_of g) from) in
      let f = and_parts (is_of (type_in x is_location (body_of g) to) (field_at from_kind field)) _
      (fits_here x.table x.blocks (body_of g) line rest y.stands) in
      let v = are_of (type_in x is_location (body_of g) to) (field_at from_kind field) f.0 in
      let s = some_kind facts (type_in x is_location (body_of g) from) (λ k. is_of (Some v.ty) (field_at k field)) refl
      (subst (λ o. is_of o (field_at from_kind field) ≡ true) v.is f.0) in
      let n = has_type x g.call.site (of_location from) s.0 y.linked.0 s.1 in
      let h : Housed = house g.call.site (of_location from) in
      let many : is_one_word (looked x.table g.call.site (of_location from)) ≡ false
      = y.linked.0.words h n.named.among
      ∙ (location_word h.kind (is_word (entry_at x.table h.ty)) n.named.kind ∙ not-true (is_word (entry_at x.table h.ty)) (leads_here x g line rest y)) in
      completes_quiet x g line rest (block_does (known x) (scene_of (high x.table x.blocks (starts g line rest))) line) refl
      (part_bits x labels g rest to from field (homed x g.call.site y.linked.0 from n.named)
      (y.linked.0.handles h n.named.among) many y)

  -- a location of an array
  row_looks : (g : Both) (line : BlockLine) (rest : List BlockLine) (y : IsGood x (starts g line rest)) (t : ℕ) (ty : Ty)
      → type_in x is_location (body_of g) t ≡ Some ty → no_handle (shape_of facts ty) ≡ true → no_handle (looked x.table g.call.site (of_location t)) ≡ true
  row_looks g line rest y t ty typed row =
      ap no_handle (look_of x g.call.site (of_location t) ty (has_type x g.call.site (of_location t) ty y.linked.0 typed)) ∙ row

  item_whole : (g : Both) (rest : List BlockLine) (to from index : ℕ) → Whole x g rest (plain (L.Item to from index))
  item_whole g rest to from index y = by (no_handle (looked x.table g.call.site (of_location from))) refl
    where
      line : BlockLine
      line = plain (L.Item to from index)

      from_kind : TypeKind
      from_kind = kind_if facts (type_in x is_location (body_of g) from)

      by : (b : Bool) → no_handle (looked x.table g.call.site (of_location from)) ≡ b
          → Completes x (starts g line rest) rest (block_does (known x) (scene_of (high x.table x.blocks (starts g line rest))) line)
      by true e =
          let f = and_parts (is_of (type_in x is_location (body_of g) to) (element_of from_kind)) _
          (fits_here x.table x.blocks (body_of g) line rest y.stands) in
          let v = are_of (type_in x is_location (body_of g) to) (element_of from_kind) f.0 in
          let s = some_kind facts (type_in x is_location (body_of g) from) (λ k. is_of (Some v.ty) (element_of k)) refl
          (subst (λ o. is_of o (element_of from_kind) ≡ true) v.is f.0) in
          let n = has_type x g.call.site (of_location from) s.0 y.linked.0 s.1 in
          completes_quiet x g line rest (block_does (known x) (scene_of (high x.table x.blocks (starts g line rest))) line) refl
          (item_bits x traps labels g rest to from index (homed x g.call.site y.linked.0 from n.named) e y)
      by false e =
          by_sequence x g rest from line (λ of typed z. completes_quiet x g line rest
          (block_does (known x) (scene_of (high x.table x.blocks (starts g line rest))) line) refl
          (item_sequence x (sequences_known x b) g rest traps to from index of typed z)) (λ other z. completes_quiet x g line rest
          (block_does (known x) (scene_of (high x.table x.blocks (starts g line rest))) line) refl
          (item_other x said g rest traps to from index other e z)) y

  length_whole : (g : Both) (rest : List BlockLine) (to from : ℕ) → Whole x g rest (plain (L.Length to from))
  length_whole g rest to from y = by (no_handle (looked x.table g.call.site (of_location from))) refl
    where
      line : BlockLine
      line = plain (L.Length to from)

      by : (b : Bool) → no_handle (looked x.table g.call.site (of_location from)) ≡ b
          → Completes x (starts g line rest) rest (block_does (known x) (scene_of (high x.table x.blocks (starts g line rest))) line)
      by true e =
          let f = and_parts (is_int (kind_if facts (type_in x is_value (body_of g) to))) _ (fits_here x.table x.blocks (body_of g) line rest y.stands) in
          completes_quiet x g line rest (block_does (known x) (scene_of (high x.table x.blocks (starts g line rest))) line) refl
          (length_bits x labels g rest to from (plain_int g line rest y to f.0) (λ n. homed x g.call.site y.linked.0 from n) (λ n. e) y)
      by false e =
          by_length x g rest from line (and_parts (is_int (kind_if facts (type_in x is_value (body_of g) to))) _
          (fits_here x.table x.blocks (body_of g) line rest y.stands)).1 (λ of typed z. completes_quiet x g line rest
          (block_does (known x) (scene_of (high x.table x.blocks (starts g line rest))) line) refl
          (length_sequence x (sequences_known x b) g rest to from of typed (plain_int g line rest z to
          (and_parts (is_int (kind_if facts (type_in x is_value (body_of g) to))) _ (fits_here x.table x.blocks (body_of g) line rest z.stands)).0) z))
          (λ ty typed shape z. completes_quiet x g line rest (block_does (known x) (scene_of (high x.table x.blocks (starts g line rest))) line) refl
          (length_text x said g rest to from ty typed shape z)) (λ ty typed row z. never (sym e ∙ row_looks g line rest z from ty typed row)) y

  still_whole : (g : Both) (rest : List BlockLine) (from len : ℕ) → Whole x g rest (plain (L.Still from len))
  still_whole g rest from len y = by (no_handle (looked x.table g.call.site (of_location from))) refl
    where
      line : BlockLine
      line = plain (L.Still from len)

      by : (b : Bool) → no_handle (looked x.table g.call.site (of_location from)) ≡ b
          → Completes x (starts g line rest) rest (block_does (known x) (scene_of (high x.table x.blocks (starts g line rest))) line)
      by true e =
          completes_quiet x g line rest (block_does (known x) (scene_of (high x.table x.blocks (starts g line rest))) line) refl
          (still_bits x traps labels g rest from len (λ n. homed x g.call.site y.linked.0 from n) (λ n. e) y)
      by false e =
          by_length x g rest from line (and_parts (has_length (kind_if facts (type_in x is_location (body_of g) from))) _
          (fits_here x.table x.blocks (body_of g) line rest y.stands)).0 (λ of typed z. completes_quiet x g line rest
          (block_does (known x) (scene_of (high x.table x.blocks (starts g line rest))) line) refl
          (still_sequence x (sequences_known x b) g rest traps from len of typed z))
          (λ ty typed shape z. completes_quiet x g line rest (block_does (known x) (scene_of (high x.table x.blocks (starts g line rest))) line) refl
          (still_text x said g rest traps from len ty typed shape z)) (λ ty typed row z. never (sym e ∙ row_looks g line rest z from ty typed row)) y

  element_whole : (g : Both) (rest : List BlockLine) (to from index : ℕ) → Whole x g rest (plain (L.Element to from index))
  element_whole g rest to from index y = by (no_handle (looked x.table g.call.site (of_location from))) refl
    where
      line : BlockLine
      line = plain (L.Element to from index)

      by : (b : Bool) → no_handle (looked x.table g.call.site (of_location from)) ≡ b
          → Completes x (starts g line rest) rest (block_does (known x) (scene_of (high x.table x.blocks (starts g line rest))) line)
      by true e =
          completes_quiet x g line rest (block_does (known x) (scene_of (high x.table x.blocks (starts g line rest))) line) refl
          (array_element x g rest to from index (λ n. e) y)
      by false e =
          by_sequence x g rest from line (λ of typed z. completes_quiet x g line rest
          (block_does (known x) (scene_of (high x.table x.blocks (starts g line rest))) line) refl
          (element_sequence x (sequences_known x b) g rest to from index of typed z)) (λ other z. completes_quiet x g line rest
          (block_does (known x) (scene_of (high x.table x.blocks (starts g line rest))) line) refl (element_other x said g rest to from index other e z)) y

  pass_whole : (g : Both) (rest : List BlockLine) (to from : ℕ) (how : UseAt) (ty : Option ℕ) → Whole x g rest (plain (L.Pass to from how ty))
  pass_whole g rest to from how ty y =
      by (gives_hooked facts (if_type (known x).types ty) || gives_hooked facts (type_in x is_value (body_of g) to)) refl
    where
      line : BlockLine
      line = plain (L.Pass to from how ty)

      line_by : (o : Option ℕ) → PlainNames x g.call.site (of_value to ∷ of_value from ∷ []) → (z : IsGood x (starts g (plain (L.Pass to from how o)) rest))
          → Settles x (starts g (plain (L.Pass to from how o)) rest) rest
          (block_does (known x) (scene_of (high x.table x.blocks (starts g (plain (L.Pass to from how o)) rest))) (plain (L.Pass to from how o)))
      line_by None names z = number_pass x labels g rest to from how names z
      line_by (Some u) names z = pass_line x labels g rest to from how u names z

      -- a value with hooks has a type
      hooked_by : (o : Option ℕ) → ty ≡ o → (gives_hooked facts (if_type (known x).types ty) || gives_hooked facts (type_in x is_value (body_of g) to)) ≡ true
          → (z : IsGood x (starts g (plain (L.Pass to from how o)) rest)) → Completes x (starts g (plain (L.Pass to from how o)) rest) rest
          (block_does (known x) (scene_of (high x.table x.blocks (starts g (plain (L.Pass to from how o)) rest))) (plain (L.Pass to from how o)))
      hooked_by None e h z =
          let f = and_parts (same_value (type_in x is_value (body_of g) to) (type_in x is_value (body_of g) from))
          (needs_no_type facts (type_in x is_value (body_of g) to)) (fits_here x.table x.blocks (body_of g) (plain (L.Pass to from how None)) rest z.stands) in
          untyped (type_in x is_value (body_of g) to) refl f.1 (subst (λ o. (gives_hooked facts (if_type (known x).types o)
          || gives_hooked facts (type_in x is_value (body_of g) to)) ≡ true) e h)
        where
          untyped : {A : Type 0} (o : Option Ty) → type_in x is_value (body_of g) to ≡ o → needs_no_type facts (type_in x is_value (body_of g) to) ≡ true
              → gives_hooked facts (type_in x is_value (body_of g) to) ≡ true → A
          untyped None e n k = never (sym (ap (gives_hooked facts) e) ∙ k)
          untyped (Some t) e n k =
              let s = ordinal_shape facts t (sym (ap (needs_no_type facts) e) ∙ n) in
              let there = has_type x g.call.site (of_value to) t y.linked.0 e in
              never (sym (hooks_numbers x (house g.call.site (of_value to)) (ap of_numbers (look_of x g.call.site (of_value to) t there ∙ s.1)))
              ∙ (hooks_as x g.call.site y.linked.0 (of_value to) t e ∙ (sym (ap (gives_hooked facts) e) ∙ k)))
      hooked_by (Some u) e h z =
          let f = and_parts (same_value (type_in x is_value (body_of g) to) (type_in x is_value (body_of g) from))
          (same_value (type_in x is_value (body_of g) to) (Some (type_at (known x).types u)))
          (fits_here x.table x.blocks (body_of g) (plain (L.Pass to from how (Some u))) rest z.stands) in
          let same = same_type (type_in x is_value (body_of g) to) (Some (type_at (known x).types u)) f.1 in
          pass_hooked x g rest to from how u
          (one_of (gives_hooked facts (Some (type_at (known x).types u)))
          (subst (λ o. (gives_hooked facts (Some (type_at (known x).types u)) || gives_hooked facts o) ≡ true) same
          (subst (λ o. (gives_hooked facts (if_type (known x).types o) || gives_hooked facts (type_in x is_value (body_of g) to)) ≡ true) e h))) z
        where
          one_of : (b : Bool) → (b || b) ≡ true → b ≡ true
          one_of true h = refl
          one_of false h = h

      by : (b : Bool) → (gives_hooked facts (if_type (known x).types ty) || gives_hooked facts (type_in x is_value (body_of g) to)) ≡ b
          → Completes x (starts g line rest) rest (block_does (known x) (scene_of (high x.table x.blocks (starts g line rest))) line)
      by true e = hooked_by ty refl e y
      by false e =
          let n = or_false (gives_hooked facts (if_type (known x).types ty)) (gives_hooked facts (type_in x is_value (body_of g) to)) e in
          let f = and_parts (same_value (type_in x is_value (body_of g) to) (type_in x is_value (body_of g) from)) _
          (fits_here x.table x.blocks (body_of g) line rest y.stands) in
          let same = same_type (type_in x is_value (body_of g) to) (type_in x is_value (body_of g) from) f.0 in
          completes_quiet x g line rest (block_does (known x) (scene_of (high x.table x.blocks (starts g line rest))) line)
          (ap (λ b. b && waits how.how) (gives_as x ty ∙ n.0))
          (line_by ty (
            plain_typed x g.call.site y.linked.0 to (type_in x is_value (body_of g) to) refl n.1,
            (plain_typed x g.call.site y.linked.0 from (type_in x is_value (body_of g) to) (sym same) n.1, tt),
          ) y)

  -- a place that is filled
  record IsFilled (g : Both) (line : BlockLine) (rest : List BlockLine) (y : IsGood x (starts g line rest)) (n : ℕ) (ty : Ty) : Type 0 where
    same : found is_own n (body_of g).own.all ≡ house g.call.site (of_place n)
    typed : type_of x.table (house g.call.site (of_place n)) ≡ ty

  filled : (g : Both) (line : BlockLine) (rest : List BlockLine) (y : IsGood x (starts g line rest)) (n : ℕ) (ty : Ty)
      → type_in x is_own (body_of g) n ≡ Some ty → IsFilled g line rest y n ty
  filled g line rest y n ty e =
      let m = y.linked.0.named is_own n ty e in
      let same : found is_own n (body_of g).own.all ≡ house g.call.site (of_place n) = y.linked.0.own n m.0 in
      record { same = same; typed = subst (λ h. type_of x.table h ≡ ty) same m.1 }

  -- it stands for nothing else
  filled_unlent : (g : Both) (line : BlockLine) (rest : List BlockLine) (y : IsGood x (starts g line rest)) (n : ℕ) (ty : Ty)
      → IsFilled g line rest y n ty → not (found is_own n (body_of g).own.all).lent ≡ true → (house g.call.site (of_place n)).lent ≡ false
  filled_unlent g line rest y n ty m h =
      subst (λ (k : Housed). k.lent ≡ false) m.same (not-true (found is_own n (body_of g).own.all).lent h)

  fill_whole : (g : Both) (rest : List BlockLine) (n from : ℕ) → Whole x g rest (plain (L.Fill n from))
  fill_whole g rest n from y = completes_quiet x g line rest (block_does (known x) (scene_of (high x.table x.blocks (starts g line rest))) line) refl
      (by (hooked (form_of facts f.ty)) refl)
    where
      line : BlockLine
      line = plain (L.Fill n from)

      f : AreOf (type_in x is_own (body_of g) n) (type_in x is_value (body_of g) from)
      f = are_of (type_in x is_own (body_of g) n) (type_in x is_value (body_of g) from) (fits_here x.table x.blocks (body_of g) line rest y.stands)

      m : IsFilled g line rest y n f.ty
      m = filled g line rest y n f.ty f.is

      by : (b : Bool) → hooked (form_of facts f.ty) ≡ b
          → Settles x (starts g line rest) rest (block_does (known x) (scene_of (high x.table x.blocks (starts g line rest))) line)
      by true e =
          let t = has_type x g.call.site (of_value from) f.ty y.linked.0 f.is_other in
          fill_bits x g rest n from (many_words g line rest y from f.ty f.is_other e) (home_of_value x g line rest y from (inl refl) t.named)
          (filled_unlent g line rest y n f.ty m (leads_here x g line rest y)) y
      by false e =
          fill_line x labels g rest n from
          (λ there. hooks_type x (house g.call.site (of_place n)) ∙ (ap (λ t. hooked (form_of facts t)) m.typed ∙ e), tt) y

  give_whole : (g : Both) (rest : List BlockLine) (n from : ℕ) → Whole x g rest (plain (L.Give n from))
  give_whole g rest n from y = completes_quiet x g line rest (block_does (known x) (scene_of (high x.table x.blocks (starts g line rest))) line) refl
      (by (hooked (form_of facts f.ty)) refl)
    where
      line : BlockLine
      line = plain (L.Give n from)

      f : AreOf (type_in x is_own (body_of g) n) (type_in x is_value (body_of g) from)
      f = are_of (type_in x is_own (body_of g) n) (type_in x is_value (body_of g) from) (fits_here x.table x.blocks (body_of g) line rest y.stands)

      m : IsFilled g line rest y n f.ty
      m = filled g line rest y n f.ty f.is

      by : (b : Bool) → hooked (form_of facts f.ty) ≡ b
          → Settles x (starts g line rest) rest (block_does (known x) (scene_of (high x.table x.blocks (starts g line rest))) line)
      by true e =
          let t = has_type x g.call.site (of_value from) f.ty y.linked.0 f.is_other in
          give_bits x g rest n from (many_words g line rest y from f.ty f.is_other e) (home_of_value x g line rest y from (inl refl) t.named)
          (filled_unlent g line rest y n f.ty m (leads_here x g line rest y)) y
      by false e =
          give_line x labels g rest n from
          (λ there. hooks_type x (house g.call.site (of_place n)) ∙ (ap (λ t. hooked (form_of facts t)) m.typed ∙ e), tt) y

  blank_whole : (g : Both) (rest : List BlockLine) (n ty : ℕ) → Whole x g rest (plain (L.Blank n ty))
  blank_whole g rest n ty y =
      let line = plain (L.Blank n ty) in
      let f = are_of (type_in x is_own (body_of g) n) (Some (type_at (known x).types ty)) (fits_here x.table x.blocks (body_of g) line rest y.stands) in
      completes_quiet x g line rest (block_does (known x) (scene_of (high x.table x.blocks (starts g line rest))) line) refl
      (blank_line x g rest labels n ty
      (λ there hooks. filled_unlent g line rest y n f.ty (filled g line rest y n f.ty f.is) (leads_here x g line rest y)) y)

  -- what somebody owns; no other line fits
  own_here : (g : Both) (rest : List BlockLine) (what : Owning) (from : List From) → Whole x g rest (plain (L.Own what from))
  own_here g rest (W.TemporaryEnds node ty) from y = ends_whole x b g rest own node ty from y
  own_here g rest (W.PlaceEnds place ty) from y = place_ends_whole x b g rest place ty from y
  own_here g rest (W.PlaceCopies place ty) from y = place_copies_whole x b g rest place ty from y
  own_here g rest (W.ResultGets place ty) from y = result_gets_whole x b g rest place ty from y
  own_here g rest (W.TakenUp node) from y = taken_whole x labels g rest node from y
  own_here g rest (W.Waits node) (F.Value t ∷ []) y = waits_whole x labels g rest node t y
  own_here g rest (W.Waits node) [] y = never (fits_here x.table x.blocks (body_of g) (plain (L.Own (W.Waits node) [])) rest y.stands)
  own_here g rest (W.Waits node) (F.Place t ∷ from) y =
      never (fits_here x.table x.blocks (body_of g) (plain (L.Own (W.Waits node) (F.Place t ∷ from))) rest y.stands)
  own_here g rest (W.Waits node) (F.Value t ∷ f ∷ from) y =
      never (fits_here x.table x.blocks (body_of g) (plain (L.Own (W.Waits node) (F.Value t ∷ f ∷ from))) rest y.stands)
  own_here g rest (W.PlaceStands p) (F.Place t ∷ []) y = stands_whole x labels g rest p t y
  own_here g rest (W.PlaceStands p) [] y = never (fits_here x.table x.blocks (body_of g) (plain (L.Own (W.PlaceStands p) [])) rest y.stands)
  own_here g rest (W.PlaceStands p) (F.Value t ∷ from) y =
      never (fits_here x.table x.blocks (body_of g) (plain (L.Own (W.PlaceStands p) (F.Value t ∷ from))) rest y.stands)
  own_here g rest (W.PlaceStands p) (F.Place t ∷ f ∷ from) y =
      never (fits_here x.table x.blocks (body_of g) (plain (L.Own (W.PlaceStands p) (F.Place t ∷ f ∷ from))) rest y.stands)

  line_whole : (g : Both) (rest : List BlockLine) (line : Line) → Whole x g rest (plain line)
  line_whole g rest (L.Apply to O.Echo how ty of from) y = echo_whole x labels said texts g rest to how ty of from y
  line_whole g rest (L.Apply to operation how ty of from) y = apply_whole g rest to operation how ty of from refl y
  line_whole g rest (L.Construct to how ty fields from) y = construct_whole x g rest to how ty fields from y
  line_whole g rest (L.Constant to how ty pieces) y = constant_whole g rest to how ty pieces y
  line_whole g rest (L.Call to how ty proc from) y =
      quiet g rest (L.Call to how ty proc from) refl (λ z. call_line x labels traps arguments g rest to how ty proc from z) y
  line_whole g rest (L.Get to from how ty) y = get_whole g rest to from how ty y
  line_whole g rest (L.Look to from) y = look_whole g rest to from y
  line_whole g rest (L.Root to place global) y = quiet g rest (L.Root to place global) refl (λ z. root_line x labels g rest to place global tt z) y
  line_whole g rest (L.Fresh to from None) y = quiet g rest (L.Fresh to from None) refl (λ z. fresh_line x labels g rest to from tt z) y
  line_whole g rest (L.Fresh to from (Some node)) y = fresh_whole x labels g rest to from node y
  line_whole g rest (L.Standing to ty pieces) y = standing_whole g rest to ty pieces y
  line_whole g rest (L.Part to from field) y = part_whole g rest to from field y
  line_whole g rest (L.Item to from index) y = item_whole g rest to from index y
  line_whole g rest (L.Object to from) y = never (code_here x g (plain (L.Object to from)) rest y)
  line_whole g rest (L.Pass to from how ty) y = pass_whole g rest to from how ty y
  line_whole g rest (L.Truth to holds) y =
      let line = L.Truth to holds in
      quiet g rest line refl
      (λ z. truth_line x labels g rest to holds
      (plain_bool g (plain line) rest z to (fits_here x.table x.blocks (body_of g) (plain line) rest z.stands), tt) z) y
  line_whole g rest (L.Fill place from) y = fill_whole g rest place from y
  line_whole g rest (L.Blank place ty) y = blank_whole g rest place ty y
  line_whole g rest (L.Give place from) y = give_whole g rest place from y
  line_whole g rest (L.Zero to) y =
      let line = L.Zero to in
      quiet g rest line refl
      (λ z. zero_line x labels g rest to (plain_int g (plain line) rest z to (fits_here x.table x.blocks (body_of g) (plain line) rest z.stands), tt) z) y
  line_whole g rest (L.Length to from) y = length_whole g rest to from y
  line_whole g rest (L.Still from len) y = still_whole g rest from len y
  line_whole g rest (L.Element to from index) y = element_whole g rest to from index y
  line_whole g rest (L.Beyond counter last inclusive to) y =
      let line = L.Beyond counter last inclusive to in
      quiet g rest line refl (λ z. beyond_line x labels g rest counter last inclusive to
      (plain_int g (plain line) rest z counter (and_parts _ _ (fits_here x.table x.blocks (body_of g) (plain line) rest z.stands)).0, tt) z) y
  line_whole g rest (L.Next counter last) y =
      let line = L.Next counter last in
      quiet g rest line refl (λ z. next_line x labels g rest counter last
      (plain_int g (plain line) rest z counter (and_parts _ _ (fits_here x.table x.blocks (body_of g) (plain line) rest z.stands)).0, tt) z) y
  line_whole g rest (L.Label name) y = quiet g rest (L.Label name) refl (λ z. label_line x labels g rest name tt z) y
  line_whole g rest (L.Jump to) y = quiet g rest (L.Jump to) refl (λ z. jump_line x labels g rest to tt z) y
  line_whole g rest (L.Unless from to) y = quiet g rest (L.Unless from to) refl (λ z. unless_line x labels g rest from to tt z) y
  line_whole g rest (L.Fits from (C.Ordinals least most) to) y =
      quiet g rest (L.Fits from (C.Ordinals least most) to) refl (λ z. fits_line x labels g rest from least most to tt z) y
  line_whole g rest (L.Fits from (C.Text text) to) y = label_whole x labels said texts g rest from text to y
  line_whole g rest (L.Own what from) y = own_here g rest what from y
  line_whole g rest L.Enter y = quiet g rest L.Enter refl (λ z. enter_line x labels g rest tt z) y
  line_whole g rest (L.Turn to) y = quiet g rest (L.Turn to) refl (λ z. turn_line x labels g rest to tt z) y
  line_whole g rest (L.TurnIf from to) y = quiet g rest (L.TurnIf from to) refl (λ z. turn_if_line x labels g rest from to tt z) y
  line_whole g rest (L.CountTurn counter last inclusive to) y =
      let line = L.CountTurn counter last inclusive to in
      quiet g rest line refl (λ z. count_line x labels g rest counter last inclusive to own
      (plain_int g (plain line) rest z counter (and_parts _ _ (fits_here x.table x.blocks (body_of g) (plain line) rest z.stands)).0, tt) z) y
  line_whole g rest (L.Return result) y = quiet g rest (L.Return result) refl (λ z. return_line x labels g rest result tt z) y

  pub line_completes : (g : Both) (rest : List BlockLine) (line : BlockLine) (y : IsGood x (starts g line rest))
      → Completes x (starts g line rest) rest (block_does (known x) (scene_of (high x.table x.blocks (starts g line rest))) line)
  line_completes g rest (block_line.Plain (owned_line.Plain line)) y = line_whole g rest line y
  line_completes g rest (block_line.Plain (owned_line.Take to from how act ty)) y = take_whole g rest to from how act ty y
