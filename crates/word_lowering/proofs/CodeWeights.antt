-- Word code has no more lines than block code weighs.
use Rattle.nim_program.specs.declared.expr.Label.TheVariants as C
use Rattle.std.proofs.Common.{◌≡◌, ℕ, suc, ◌+◌, ◌*◌, ◌≤◌, List, [], ◌∷◌, length, map, Bool, true, false, not, ◌∙◌}
use Rattle.std.proofs.Common.{Option, Some, None, length-append}
use Rattle.std.proofs.Common.{refl, ap, subst, arith}
use Rattle.nim_types.specs.declared.types.TypeDef.{TypeDef}
use Rattle.nim_types.specs.declared.types.TypeDef.TheVariants as D
use Rattle.nim_program.specs.declared.operation.Measure.{Measure}
use Rattle.nim_program.specs.declared.operation.Measure.TheVariants.{Len}
use Rattle.nim_program.specs.declared.operation.Operation.{Operation}
use Rattle.nim_program.specs.declared.operation.Operation.TheVariants as O
use Rattle.nim_program.specs.Traps.{Trap, Overflow, DivisionByZero, IndexOutOfBounds, OutOfRange, LengthChanged, CallDepth}
use Rattle.flat_code.specs.declared.block.BlockLine.{BlockLine}
use Rattle.flat_code.specs.declared.code.CodeProc.{CodeProc}
use Rattle.flat_code.specs.declared.line.From.{From}
use Rattle.flat_code.specs.declared.line.Line.{Line}
use Rattle.flat_code.specs.declared.line.Line.TheVariants as L
use Rattle.flat_code.specs.Codes.{block_plain, waiting_in}
use Rattle.flat_code.specs.Running.{last_of}
use Rattle.flat_code.specs.Sizes.{owning_weight, weight_of, weight, summed, proc_weight, code_weight}
use Rattle.word_code.specs.declared.word.WordInstr.{WordInstr}
use Rattle.word_code.specs.declared.word.Test.TheVariants as test
use Rattle.word_code.specs.declared.word.WordInstr.TheVariants.{Argument, Branch, Label, Place}
use Rattle.word_code.specs.declared.word.WordProc.{WordProc}
use Rattle.word_code.specs.RoutineTable.{trap_number}
use Rattle.word_code.specs.Sizes.{word_weight}
use Rattle.word_lowering.specs.declared.homes.TheConstants.{LEFT, FIRST, FIFTH}
use Rattle.word_lowering.specs.declared.homes.Home.{Home}
use Rattle.word_lowering.specs.declared.homes.Home.TheVariants.{Variable, Placed, Static}
use Rattle.word_lowering.specs.declared.homes.Housed.{Housed}
use Rattle.word_lowering.specs.declared.homes.Layout.{Layout}
use Rattle.word_lowering.specs.declared.homes.Waiter.{Waiter}
use Rattle.word_lowering.specs.declared.spots.Spot.{Spot}
use Rattle.word_lowering.specs.declared.spots.Spot.TheVariants.{Held, Lies, Letter}
use Rattle.word_lowering.specs.declared.texts.TheConstants.{LINE_END_AT, FIXED_BYTES}
use Rattle.word_lowering.specs.Aliases.{is_read}
use Rattle.word_lowering.specs.Layouts.{is_empty, behind_all, layouts, layout_of, params_in, result_in, free_at, holds_address}
use Rattle.word_lowering.specs.LineCode.{Around, no_layout, proc_number, is_copied}
use Rattle.word_lowering.specs.LineCode as lines
use Rattle.word_lowering.specs.OwnedCode as owned
use Rattle.word_lowering.specs.RoutineCode.{join_code}
use Rattle.word_lowering.specs.Lowered as code
use Rattle.word_lowering.specs.Operations.{word, trap_label}
use Rattle.word_lowering.specs.Spots.{spot_of, shifted, moved, cleared}
use Rattle.word_lowering.specs.Stored.{part_at, entry_at, base_at, limit_at, is_hooked}
use Rattle.word_lowering.specs.Texts.{texts_in}
use Rattle.word_lowering.specs.WaitingCode.{gives_hooked, kept_if, none_code, leaves_code, waiter_at, waiting_house, waits_code}
use Rattle.word_lowering.proofs.PieceWeights.{moved_weighs, cleared_weighs, handed_weighs, binary_weighs, unary_weighs, compare_weighs, fits_weighs}
use Rattle.word_lowering.proofs.PieceWeights.{turn_weighs, beyond_weighs, part_weighs, element_weighs, word_argument_weighs}
use Rattle.word_lowering.proofs.PieceWeights.{told_by_weighs, back_weighs, parts_weigh, moves_weigh, clears_weigh, passes_weigh, starts_weigh}
use Rattle.word_lowering.proofs.PieceWeights.{converted_weighs, update_weighs, quit_weighs, swap_weighs}
use Rattle.word_lowering.proofs.OwnedWeights.{add_weighs, append_weighs, compare_text_weighs, element_read_weighs, enough_weighs, join_weighs, measure_weighs}
use Rattle.word_lowering.proofs.OwnedWeights.{new_weighs, owned_element_weighs, owned_item_weighs, pop_weighs, read_weighs, sequence_weighs, shown_weighs}
use Rattle.word_lowering.proofs.OwnedWeights.{constant_weighs, sized_weighs, text_fits_weighs}
use Rattle.word_lowering.proofs.WaiterHomes.{waiters_few}
use Rattle.word_lowering.specs.declared.homes.Alias.{Alias}
use Rattle.word_lowering.specs.declared.homes.Alias.TheVariants as alias
use Rattle.hook_lifting.specs.declared.lifted.Hook.{Hook}
use Rattle.hook_lifting.specs.declared.lifted.Hook.TheVariants.{Copies, Ends}
use Rattle.flat_code.specs.declared.line.Owning.TheVariants as W
use Rattle.flat_code.specs.declared.line.From.TheVariants as F
use Rattle.nim_meaning.specs.Shapes.{waits}
use Rattle.flat_code.specs.declared.line.Owning.{Owning}
use Rattle.word_lowering.specs.Lowers.{all_waiting}
use Rattle.flat_code.specs.Waits.{constant_waits}
use Rattle.nim_meaning.specs.Waiting.{reads_kept}
use Rattle.std.specs.Prelude.{◌&&◌}

module _ (x : Around) where
  written_weighs : (def : Option TypeDef) (ty : ℕ) (from : Housed) (k : List WordInstr) → length (lines.written_code x def ty from k) ≤ 12 + length k
  written_weighs None ty from k = omega arith
  written_weighs (Some D.Int) ty from k = omega arith
  written_weighs (Some D.Bool) ty from k = omega arith
  written_weighs (Some D.Char) ty from k = omega arith
  written_weighs (Some (D.Enum name at members)) ty from k = omega arith
  written_weighs (Some D.Text) ty from k = told_by_weighs (lines.literal_at x) from.alias from.home k
  written_weighs (Some (D.Seq i)) ty from k = omega arith
  written_weighs (Some (D.Param n)) ty from k = omega arith
  written_weighs (Some (D.Array n i)) ty from k = omega arith
  written_weighs (Some (D.Tuple names is)) ty from k = omega arith
  written_weighs (Some (D.Object name at is all own_hooks parts)) ty from k = omega arith
  written_weighs (Some (D.Distinct name at i)) ty from k = omega arith
  written_weighs (Some (D.Ref name i)) ty from k = omega arith
  written_weighs (Some (D.Exception name at parent)) ty from k = omega arith

  typed_weighs : (ty : Option ℕ) (from : Housed) (k : List WordInstr) → length (lines.typed_code x ty from k) ≤ 12 + length k
  typed_weighs None from k = omega arith
  typed_weighs (Some ty) from k = written_weighs (entry_at x.table ty) (base_at x.table ty) from k

  texts_weigh : (of : List (Option ℕ)) (hs : List Housed) (k : List WordInstr) → length (lines.texts_code x of hs k) ≤ 12 * length hs + length k
  texts_weigh [] hs k = omega arith
  texts_weigh (ty ∷ tys) [] k = omega arith
  texts_weigh (ty ∷ tys) (h ∷ hs) k =
      let i = typed_weighs ty h (lines.texts_code x tys hs k) in
      let j = texts_weigh tys hs k in
      omega (arith, i, j)

  measured_weighs : (handle : Bool) (measure : Measure) (to : ℕ) (from : Housed) (k : List WordInstr)
      → length (lines.measure_code x handle measure to from k) ≤ 3 + length k
  measured_weighs true measure to from k = measure_weighs x measure to from.home k
  measured_weighs false measure to from k = omega arith

  -- a length alone takes one line less
  length_weighs : (handle : Bool) (to : ℕ) (from : Housed) (k : List WordInstr) → length (lines.measure_code x handle Len to from k) ≤ 2 + length k
  length_weighs true to from k = omega arith
  length_weighs false to from k = omega arith

  item_at_weighs : (handle : Bool) (to from index : ℕ) (k : List WordInstr) → length (lines.item_at x handle to from index k) ≤ 8 + length k
  item_at_weighs true to from index k =
      owned_item_weighs (lines.led x to) (lines.location x from).home (lines.held x index) (owned.each_bytes x.table (lines.entry_from x from)) k
  item_at_weighs false to from index k =
      let h = element_weighs (lines.led x to) (lines.location x from).home (lines.held x index) (lines.bytes_each x from) k in omega (arith, h)

  element_at_weighs : (handle : Bool) (from index : ℕ) (to : Housed) (k : List WordInstr)
      → length (lines.element_at x handle from index to k) ≤ 13 + length k
  element_at_weighs true from index to k =
      let read : List WordInstr = owned.element_read (owned.is_text (lines.entry_from x from)) to k in
      let h = owned_element_weighs FIFTH (lines.location x from).home (lines.held x index) (owned.each_bytes x.table (lines.entry_from x from)) read in
      let i = element_read_weighs (owned.is_text (lines.entry_from x from)) to k in
      omega (arith, h, i)
  element_at_weighs false from index to k =
      let read : List WordInstr = moved to.is_word to.bytes (spot_of to) (Lies (Variable FIFTH)) k in
      let h = moved_weighs to.is_word to.bytes (spot_of to) (Lies (Variable FIFTH)) k in
      let i = element_weighs FIFTH (lines.location x from).home (lines.held x index) (lines.bytes_each x from) read in
      omega (arith, h, i)

  row_weighs : (operation : Operation) (label : ℕ) (ty : Option ℕ) (of : List (Option ℕ)) (to : Housed) (hs : List Housed) (k : List WordInstr)
      → length (lines.row_code x operation label ty of to hs k) ≤ weight_of operation (length hs) + length k
  row_weighs O.Default label ty of to hs k = starts_weigh to.bytes to k
  row_weighs (O.Unary operator) label ty of to hs k = unary_weighs operator _ _ k
  row_weighs (O.Binary operator) label ty of to hs k = binary_weighs label operator _ _ _ k
  row_weighs (O.Compare c) label ty of to hs k =
      enough_weighs 2 hs (lines.compared_code x text c (lines.variable_of to) of hs k) k 10 3 (by text)
    where
      text : Bool
      text = owned.is_text (owned.entry_of x.table (owned.type_of of 0))

      by : (b : Bool) → length (lines.compared_code x b c (lines.variable_of to) of hs k) ≤ 23 + length k
      by true = compare_text_weighs x c (lines.variable_of to) of hs (owned.left_of x of hs) (owned.right_of x of hs) k
      by false =
          let h = compare_weighs c (lines.variable_of to) (lines.variable_of (lines.operand_at hs 0)) (lines.variable_of (lines.operand_at hs 1)) k in
          omega (arith, h)
  row_weighs O.Convert label ty of to hs k = converted_weighs (limit_at x.table ty) to (lines.operand_at hs 0) k
  row_weighs O.Join label ty of to hs k =
      enough_weighs 2 hs (owned.two_made x of hs (join_code to.home (owned.left_of x of hs) (owned.right_of x of hs) k)) k 10 1
      (join_weighs x to.home of hs (owned.left_of x of hs) (owned.right_of x of hs) k)
  row_weighs O.Show label ty of to hs k =
      enough_weighs 1 hs (owned.shown_code x (owned.entry_of x.table (owned.type_of of 0)) to.home (owned.type_of of 0) (lines.operand_at hs 0) k) k 12 7
      (shown_weighs x (owned.entry_of x.table (owned.type_of of 0)) to.home (owned.type_of of 0) (lines.operand_at hs 0) k)
  row_weighs O.Make label ty of to hs k = let h = parts_weigh to.home hs k in omega (arith, h)
  row_weighs O.Sequence label ty of to hs k = sequence_weighs x to.home (owned.size_in x to) hs k
  row_weighs O.NewSequence label ty of to hs k = new_weighs x to.home (lines.variable_of (lines.operand_at hs 0)) (owned.size_in x to) k
  row_weighs (O.Measure measure) label ty of to hs k =
      measured_weighs (owned.has_handle (entry_at x.table (lines.operand_at hs 0).ty)) measure (lines.variable_of to) (lines.operand_at hs 0) k
  row_weighs O.IsNil label ty of to hs k = omega arith
  row_weighs O.Echo label ty of to hs k =
      let h = texts_weigh of hs (lines.text_code LINE_END_AT 1 k) in omega (arith, h)
  row_weighs O.Quit label ty of to hs k = quit_weighs hs k
  row_weighs O.ReadLine label ty of to hs k = omega arith
  row_weighs O.ReadLineInto label ty of to hs k = read_weighs x (lines.variable_of to) (lines.operand_at hs 0).home k
  row_weighs O.Assign label ty of to hs k = moves_weigh (lines.operand_at hs 0) (lines.operand_at hs 1) k
  row_weighs (O.Update operator) label ty of to hs k = update_weighs label operator hs k
  row_weighs O.Add label ty of to hs k = add_weighs x (lines.operand_at hs 0).home (owned.size_in x (lines.operand_at hs 0)) (lines.operand_at hs 1) k
  row_weighs O.Append label ty of to hs k =
      let letter : Bool = owned.is_char (owned.entry_of x.table (owned.type_of of 1)) in
      let home : Home = (lines.operand_at hs 0).home in
      let from : Housed = lines.operand_at hs 1 in
      enough_weighs 2 hs (owned.appended_code x letter label home (owned.type_of of 1) from k) k 12 8
      (append_weighs x letter label home (owned.type_of of 1) from k)
  row_weighs O.SetLength label ty of to hs k =
      let there : Housed = lines.operand_at hs 0 in
      let n : ℕ = lines.variable_of (lines.operand_at hs 1) in
      enough_weighs 2 hs (owned.counted_code n (owned.sized_code x (owned.is_text (entry_at x.table there.ty)) label there.ty there.home n k)) k 8 2
      (sized_weighs x (owned.is_text (entry_at x.table there.ty)) label there.ty there.home n k)
  row_weighs O.Pop label ty of to hs k =
      enough_weighs 1 hs (owned.popped_code to (lines.operand_at hs 0).home (owned.size_in x (lines.operand_at hs 0)) k) k 12 4
      (pop_weighs x to (lines.operand_at hs 0).home (owned.size_in x (lines.operand_at hs 0)) k)
  row_weighs O.Move label ty of to hs k =
      let there : Housed = lines.operand_at hs 0 in
      let h = moves_weigh to there (cleared there.is_word there.bytes (spot_of there) k) in
      let i = clears_weigh there k in
      omega (arith, h, i)
  row_weighs O.Swap label ty of to hs k = swap_weighs _ _ _ _ k
  row_weighs O.Discard label ty of to hs k = omega arith
  row_weighs O.Destroy label ty of to hs k = omega arith
  row_weighs O.Blank label ty of to hs k = omega arith

  fields_weigh : (to : Home) (ty : ℕ) (fields : List ℕ) (hs : List Housed) (k : List WordInstr)
      → length (lines.fields_code x to ty fields hs k) ≤ 7 * length hs + length k
  fields_weigh to ty [] hs k = omega arith
  fields_weigh to ty (field ∷ fields) [] k = omega arith
  fields_weigh to ty (field ∷ fields) (v ∷ hs) k =
      let there : Spot = Lies (shifted (part_at x.table ty field) to) in
      let rest : List WordInstr = lines.fields_code x to ty fields hs k in
      let h : length (moved v.is_word v.bytes there (spot_of v) rest) ≤ 7 + length rest = moved_weighs v.is_word v.bytes there (spot_of v) rest in
      let i : length rest ≤ 7 * length hs + length k = fields_weigh to ty fields hs k in
      omega (arith, h, i)

  -- ---- calls
  argument_weighs : (label : ℕ) (param : Home) (from : Housed) (k : List WordInstr) → length (lines.argument_code x label param from k) ≤ 11 + length k
  argument_weighs label (Variable v) from k = let h = word_argument_weighs v from.home k in omega (arith, h)
  argument_weighs label (Placed at) from k = let h = handed_weighs label from.bytes (spot_of from) k in omega (arith, h)
  argument_weighs label (Static at) from k = omega arith

  arguments_weigh : (label : ℕ) (params hs : List Housed) (k : List WordInstr)
      → length (lines.arguments_code x label params hs k) ≤ 11 * length hs + length k
  arguments_weigh label [] hs k = omega arith
  arguments_weigh label (p ∷ ps) [] k = omega arith
  arguments_weigh label (p ∷ ps) (h ∷ hs) k =
      let i = argument_weighs (label + 2 * suc (length hs)) p.home h (lines.arguments_code x label ps hs k) in
      let j = arguments_weigh label ps hs k in
      omega (arith, i, j)

  result_weighs : (to : Housed) (result : Option Housed) (k : List WordInstr) → length (lines.result_code x to result k) ≤ 7 + length k
  result_weighs to None k = omega arith
  result_weighs to (Some r) k = moved_weighs r.is_word r.bytes (spot_of to) (Lies (lines.left_at x.own.free.byte r.home)) k

  -- a call itself, and what brings its result
  entered_weighs : (proc : ℕ) (to : Housed) (spot : Spot) (k : List WordInstr) → length (lines.entered_code x proc to spot k) ≤ 8 + length k
  entered_weighs proc to (Held v) k = omega arith
  entered_weighs proc to (Lies home) k = let h = result_weighs to (result_in (lines.layout_at x proc).all) k in omega (arith, h)
  entered_weighs proc to (Letter home) k = let h = result_weighs to (result_in (lines.layout_at x proc).all) k in omega (arith, h)

  given_weighs : (proc to : ℕ) (k : List WordInstr) → length (lines.given_code x proc to k) ≤ 8 + length k
  given_weighs proc to k = entered_weighs proc (lines.value x to) (spot_of (lines.value x to)) k

  nothing_weighs : (ty : Option ℕ) (to : ℕ) (k : List WordInstr) → length (lines.nothing_code x ty to k) ≤ 1 + length k
  nothing_weighs None to k = omega arith
  nothing_weighs (Some ty) to k = omega arith

  -- the check
  checked_weighs : (start : Bool) (k : List WordInstr) → length (lines.checked_code start k) ≤ 3 + length k
  checked_weighs true k = omega arith
  checked_weighs false k = omega arith

  called_weighs : (runs : Bool) (label proc : ℕ) (ty : Option ℕ) (to : ℕ) (hs : List Housed) (k : List WordInstr)
      → length (lines.called_code x runs label proc ty to hs k) ≤ 12 + 11 * length hs + length k
  called_weighs true label proc ty to hs k =
      let rest : List WordInstr = Argument LEFT FIRST ∷ lines.given_code x proc to k in
      let h = given_weighs proc to k in
      let i = checked_weighs x.setting.start rest in
      let j = arguments_weigh label (params_in (lines.layout_at x proc).all) hs (lines.checked_code x.setting.start rest) in
      omega (arith, h, i, j)
  called_weighs false label proc ty to hs k =
      let h = nothing_weighs ty to k in
      let i = checked_weighs x.setting.start (lines.nothing_code x ty to k) in
      omega (arith, h, i)

  return_weighs : (start : Bool) (result : Option ℕ) (k : List WordInstr) → length (lines.return_code x start result k) ≤ 3 + length k
  return_weighs true result k = omega arith
  return_weighs false None k = omega arith
  return_weighs false (Some p) k = back_weighs (lines.own_place x p).is_word (spot_of (lines.own_place x p)) k

  -- ---- lines
  operands_length : (from : List From) → length (lines.operands x from) ≡ length from
  operands_length [] = refl
  operands_length (f ∷ from) = ap suc (operands_length from)

  root_weighs : (a : Alias) (to : ℕ) (home : Home) (k : List WordInstr) → length (lines.root_code a to home k) ≤ 1 + length k
  root_weighs alias.Own to home k = omega arith
  root_weighs (alias.Place p global) to home k = omega arith
  root_weighs (alias.Value t) to home k = omega arith
  root_weighs (alias.Node n) to home k = omega arith
  root_weighs (alias.Text behind size) to home k = omega arith

  -- ---- hooks, and what waits
  hook_weighs : (hook : Hook) (ty : ℕ) (to from : Home) (k : List WordInstr) → length (lines.hook_code x hook ty to from k) ≤ 5 + length k
  hook_weighs hook ty to from k = omega arith

  got_weighs : (copied blank : Bool) (ty : Option ℕ) (to from : Housed) (k : List WordInstr)
      → length (lines.got_code x copied blank ty to from k) ≤ 7 + length k
  got_weighs true blank (Some ty) to from k = let h = hook_weighs Copies ty to.home from.home k in omega (arith, h)
  got_weighs true true None to from k = let h = clears_weigh to k in omega (arith, h)
  got_weighs true false None to from k = moves_weigh to from k
  got_weighs false true ty to from k = let h = clears_weigh to k in omega (arith, h)
  got_weighs false false ty to from k = moves_weigh to from k

  assigned_weighs : (hooks : Bool) (row : List WordInstr → List WordInstr) (ty : Option ℕ) (from : List From) (k : List WordInstr)
      → length (row k) ≤ 7 + length k → length (lines.assigned_code x hooks row ty from k) ≤ 7 + length k
  assigned_weighs true row (Some ty) from k h = omega arith
  assigned_weighs true row None from k h = h
  assigned_weighs false row ty from k h = h

  applied_weighs : (operation : Operation) (label to : ℕ) (ty : Option ℕ) (of : List (Option ℕ)) (from : List From) (k : List WordInstr)
      → length (lines.applied_code x operation label to ty of from k) ≤ weight_of operation (length (lines.operands x from)) + length k
  applied_weighs O.Assign label to ty of from k =
      assigned_weighs (gives_hooked x.table (owned.type_of of 0)) (lines.row_code x O.Assign label ty of (lines.value x to) (lines.operands x from))
      (owned.type_of of 0) from k (row_weighs O.Assign label ty of (lines.value x to) (lines.operands x from) k)
  applied_weighs operation label to ty of from k = row_weighs operation label ty of (lines.value x to) (lines.operands x from) k

  waits_weigh : (o : Option Waiter) (from : Housed) (k : List WordInstr) → length (waits_code o from k) ≤ 8 + length k
  waits_weigh None from k = omega arith
  waits_weigh (Some w) from k = let h = moves_weigh (waiting_house w) from (Place w.variable w.at ∷ k) in omega (arith, h)

  leaves_weigh : (o : Option Waiter) (k : List WordInstr) → length (leaves_code o k) ≤ 1 + length k
  leaves_weigh None k = omega arith
  leaves_weigh (Some w) k = omega arith

  ends_weigh : (stands : Bool) (ty : ℕ) (home : Home) (k : List WordInstr) → length (lines.ends_code x stands ty home k) ≤ 5 + length k
  ends_weigh true ty home k = omega arith
  ends_weigh false ty home k = hook_weighs Ends ty home home k

  waiter_ends_weigh : (label ty : ℕ) (o : Option Waiter) (k : List WordInstr) → length (lines.waiter_ends_code x label ty o k) ≤ 9 + length k
  waiter_ends_weigh label ty None k = omega arith
  waiter_ends_weigh label ty (Some w) k =
      let h = hook_weighs Ends ty (Placed w.at) (Placed w.at) (Label label ∷ leaves_code (Some w) k) in omega (arith, h)

  owning_weighs : (what : Owning) (from : List From) (label : ℕ) (k : List WordInstr)
      → length (lines.owning_code x what from label k) ≤ owning_weight what + length k
  owning_weighs (W.TakenUp node) from label k = leaves_weigh (waiter_at node x.own.waiters) k
  owning_weighs (W.Waits node) [] label k = omega arith
  owning_weighs (W.Waits node) (F.Value t ∷ []) label k = waits_weigh (waiter_at node x.own.waiters) (lines.value x t) k
  owning_weighs (W.Waits node) (F.Value t ∷ f ∷ from) label k = omega arith
  owning_weighs (W.Waits node) (F.Place t ∷ from) label k = omega arith
  owning_weighs (W.TemporaryEnds node ty) from label k = waiter_ends_weigh label ty (waiter_at node x.own.waiters) k
  owning_weighs (W.PlaceEnds place ty) from label k = ends_weigh (holds_address (lines.declared x place)) ty (lines.declared x place).home k
  owning_weighs (W.PlaceCopies place ty) from label k = omega arith
  owning_weighs (W.ResultGets place ty) from label k = omega arith
  owning_weighs (W.PlaceStands p) [] label k = omega arith
  owning_weighs (W.PlaceStands p) (F.Value t ∷ from) label k = omega arith
  owning_weighs (W.PlaceStands p) (F.Place t ∷ []) label k = omega arith
  owning_weighs (W.PlaceStands p) (F.Place t ∷ f ∷ from) label k = omega arith

  -- what stands behind a line whose value may wait
  abbrev kept_most : Line → ℕ
  kept_most (L.Apply to operation how ty of from) = 8
  kept_most (L.Construct to how ty fields from) = 8
  kept_most (L.Constant to how ty pieces) = 8
  kept_most (L.Get to from how ty) = 8
  kept_most (L.Pass to from how ty) = 8
  kept_most line = 0

  kept_weighs : (b : Bool) (node to : ℕ) (k : List WordInstr) → length (kept_if x.table x.own.waiters (lines.value x) b node to k) ≤ 8 + length k
  kept_weighs true node to k = waits_weigh (waiter_at node x.own.waiters) (lines.value x to) k
  kept_weighs false node to k = omega arith

  behind_weighs : (line : Line) (k : List WordInstr) → length (lines.behind_line x line k) ≤ kept_most line + length k
  behind_weighs (L.Apply to operation how ty of from) k = kept_weighs (gives_hooked x.table ty && waits how.how) how.node to k
  behind_weighs (L.Construct to how ty fields from) k = kept_weighs (is_hooked x.table ty && waits how.how) how.node to k
  behind_weighs (L.Constant to how ty pieces) k = kept_weighs (is_hooked x.table ty && constant_waits pieces how.how) how.node to k
  behind_weighs (L.Get to from how ty) k = kept_weighs (gives_hooked x.table ty && reads_kept how.how) how.node to k
  behind_weighs (L.Pass to from how ty) k = kept_weighs (gives_hooked x.table ty && waits how.how) how.node to k
  behind_weighs line k = omega arith

  line_weighs : (line : Line) (label : ℕ) (k : List WordInstr) → length (lines.line_code x line label k) + kept_most line ≤ weight line + length k
  line_weighs (L.Apply to operation how ty of from) label k =
      let h = subst (λ n. length (lines.applied_code x operation label to ty of from k) ≤ weight_of operation n + length k) (operands_length from)
      (applied_weighs operation label to ty of from k) in
      omega (arith, h)
  line_weighs (L.Construct to how ty fields from) label k =
      let h = clears_weigh (lines.value x to) (lines.fields_code x (lines.value x to).home ty fields (lines.operands x from) k) in
      let i = fields_weigh (lines.value x to).home ty fields (lines.operands x from) k in
      let n = operands_length from in
      omega (arith, h, i, n)
  line_weighs (L.Constant to how ty pieces) label k =
      let h = constant_weighs x (is_read how.how) (is_hooked x.table ty) ty pieces (lines.value x to) k in omega (arith, h)
  line_weighs (L.Call to how ty proc from) label k =
      let h = called_weighs (lines.layout_at x proc).runs label proc ty to (lines.operands x from) k in
      let n = operands_length from in
      omega (arith, h, n)
  line_weighs (L.Get to from how ty) label k =
      let h = got_weighs (gives_hooked x.table ty && is_copied how.how) (lines.is_seen_blank x ty) ty (lines.value x to) (lines.location x from) k in
      omega (arith, h)
  line_weighs (L.Look to from) label k = let h = moves_weigh (lines.value x to) (lines.location x from) k in omega (arith, h)
  line_weighs (L.Root to p global) label k = let h = root_weighs (lines.own_alias x to) (lines.led x to) (lines.place x p global).home k in omega (arith, h)
  line_weighs (L.Fresh to from waits) label k = omega arith
  line_weighs (L.Standing to ty pieces) label k = omega arith
  line_weighs (L.Part to from field) label k =
      let h = part_weighs (lines.led x to) (lines.location x from).home (part_at x.table (lines.location x from).ty field) k in omega (arith, h)
  line_weighs (L.Item to from index) label k = let h = item_at_weighs (owned.has_handle (lines.entry_from x from)) to from index k in omega (arith, h)
  line_weighs (L.Object to from) label k = omega arith
  line_weighs (L.Pass to from how ty) label k =
      let h = passes_weigh (lines.value x from).bytes (lines.value x to) (lines.value x from) k in omega (arith, h)
  line_weighs (L.Truth to holds) label k = omega arith
  line_weighs (L.Fill p from) label k = let h = moves_weigh (lines.own_place x p) (lines.value x from) k in omega (arith, h)
  line_weighs (L.Blank p ty) label k = let h = clears_weigh (lines.own_place x p) k in omega (arith, h)
  line_weighs (L.Give p from) label k = let h = moves_weigh (lines.own_place x p) (lines.value x from) k in omega (arith, h)
  line_weighs (L.Zero to) label k = omega arith
  line_weighs (L.Length to from) label k = let h =
      length_weighs (owned.has_handle (lines.entry_from x from)) (lines.held x to) (lines.location x from) k in omega (arith, h)
  line_weighs (L.Still from len) label k =
      let checked : List WordInstr = Branch test.Unequal (lines.held x len) FIRST (trap_label LengthChanged) ∷ k in
      let h = length_weighs (owned.has_handle (lines.entry_from x from)) FIRST (lines.location x from) checked in
      omega (arith, h)
  line_weighs (L.Element to from index) label k = let h =
      element_at_weighs (owned.has_handle (lines.entry_from x from)) from index (lines.value x to) k in omega (arith, h)
  line_weighs (L.Beyond counter last inclusive to) label k =
      let h = beyond_weighs inclusive (lines.held x counter) (lines.held x last) (lines.own_label to) k in omega (arith, h)
  line_weighs (L.Next counter last) label k = omega arith
  line_weighs (L.Label name) label k = omega arith
  line_weighs (L.Jump to) label k = omega arith
  line_weighs (L.Unless from to) label k = omega arith
  line_weighs (L.Fits from (C.Ordinals low high) to) label k = let h = fits_weighs (lines.held x from) (lines.own_label to) low high k in omega (arith, h)
  line_weighs (L.Fits from (C.Text text) to) label k = let h = text_fits_weighs x text (lines.value x from) (lines.own_label to) k in omega (arith, h)
  line_weighs (L.Own what from) label k = let h = owning_weighs what from label k in omega (arith, h)
  line_weighs L.Enter label k = omega arith
  line_weighs (L.Turn to) label k = omega arith
  line_weighs (L.TurnIf from to) label k = omega arith
  line_weighs (L.CountTurn counter last inclusive to) label k =
      let h = turn_weighs label (lines.held x counter) (lines.held x last) inclusive (lines.own_label to) k in omega (arith, h)
  line_weighs (L.Return result) label k = let h = return_weighs x.setting.start result k in omega (arith, h)

  lines_weigh : (all : List Line) (k : List WordInstr) → length (lines.lines_code x all k) ≤ summed weight all + length k
  lines_weigh [] k = omega arith
  lines_weigh (line ∷ rest) k =
      let next : List WordInstr = lines.lines_code x rest k in
      let behind : List WordInstr = lines.behind_line x line next in
      let e : length behind ≤ kept_most line + length next = behind_weighs line next in
      let h : length (lines.line_code x line (lines.label_before rest) behind) + kept_most line ≤ weight line + length behind
      = line_weighs line (lines.label_before rest) behind in
      let i : length next ≤ summed weight rest + length k = lines_weigh rest k in
      omega (arith, e, h, i)

-- ---- a procedure

cleared_first : (result : Option Housed) (k : List WordInstr) → length (code.result_cleared result k) ≤ 5 + length k
cleared_first None k = omega arith
cleared_first (Some r) k = cleared_weighs r.is_word r.bytes (spot_of r) k

trap_weighs : (leads : Bool) (label routine : ℕ) (k : List WordInstr) → length (code.trap_code leads label routine k) ≤ 2 + length k
trap_weighs true label routine k = omega arith
trap_weighs false label routine k = omega arith

end_weighs : (all : List WordInstr) (trap : Trap) (k : List WordInstr) → length (code.trap_end all trap k) ≤ 2 + length k
end_weighs all trap k = trap_weighs (code.any_branches (trap_label trap) all) (trap_label trap) (trap_number trap) k

last_weighs : (all : List WordInstr) → length (code.last_code all) ≤ 12
last_weighs all =
    let a : List WordInstr = code.trap_end all CallDepth [] in
    let b : List WordInstr = code.trap_end all LengthChanged a in
    let c : List WordInstr = code.trap_end all OutOfRange b in
    let d : List WordInstr = code.trap_end all IndexOutOfBounds c in
    let e : List WordInstr = code.trap_end all DivisionByZero d in
    let f : length a ≤ 2 = end_weighs all CallDepth [] in
    let g : length b ≤ 2 + length a = end_weighs all LengthChanged a in
    let h : length c ≤ 2 + length b = end_weighs all OutOfRange b in
    let i : length d ≤ 2 + length c = end_weighs all IndexOutOfBounds c in
    let j : length e ≤ 2 + length d = end_weighs all DivisionByZero d in
    let m : length (code.last_code all) ≤ 2 + length e = end_weighs all Overflow e in
    omega (arith, f, g, h, i, j, m)

none_length : (ws : List Waiter) (k : List WordInstr) → length (none_code ws k) ≡ length ws + length k
none_length [] k = omega arith
none_length (w ∷ ws) k = let h = none_length ws k in omega (arith, h)

-- what says so leads nowhere
none_branches : (label : ℕ) (ws : List Waiter) (k : List WordInstr) → code.any_branches label (none_code ws k) ≡ code.any_branches label k
none_branches label [] k = refl
none_branches label (w ∷ ws) k = none_branches label ws k

end_same : (a b : List WordInstr) (trap : Trap) (k : List WordInstr)
    → code.any_branches (trap_label trap) a ≡ code.any_branches (trap_label trap) b → code.trap_end a trap k ≡ code.trap_end b trap k
end_same a b trap k e = ap (λ leads. code.trap_code leads (trap_label trap) (trap_number trap) k) e

last_same : (a b : List WordInstr) → ((label : ℕ) → code.any_branches label a ≡ code.any_branches label b) → code.last_code a ≡ code.last_code b
last_same a b same =
    let s1 = end_same a b CallDepth [] (same (trap_label CallDepth)) in
    let s2 = ap (code.trap_end a LengthChanged) s1 ∙ end_same a b LengthChanged (code.trap_end b CallDepth []) (same (trap_label LengthChanged)) in
    let k2 : List WordInstr = code.trap_end b LengthChanged (code.trap_end b CallDepth []) in
    let s3 = ap (code.trap_end a OutOfRange) s2 ∙ end_same a b OutOfRange k2 (same (trap_label OutOfRange)) in
    let k3 : List WordInstr = code.trap_end b OutOfRange k2 in
    let s4 = ap (code.trap_end a IndexOutOfBounds) s3 ∙ end_same a b IndexOutOfBounds k3 (same (trap_label IndexOutOfBounds)) in
    let k4 : List WordInstr = code.trap_end b IndexOutOfBounds k3 in
    let s5 = ap (code.trap_end a DivisionByZero) s4 ∙ end_same a b DivisionByZero k4 (same (trap_label DivisionByZero)) in
    let k5 : List WordInstr = code.trap_end b DivisionByZero k4 in
    ap (code.trap_end a Overflow) s5 ∙ end_same a b Overflow k5 (same (trap_label Overflow))

code_weighs : (x : Around) (all : List Line) → length (code.code_of x all) ≤ 17 + summed weight all + length x.own.waiters
code_weighs x all =
    let body : List WordInstr = lines.lines_code x all [] in
    let cleared : List WordInstr = code.result_cleared (result_in x.own.all) body in
    let front : List WordInstr = none_code x.own.waiters cleared in
    let f : length (code.last_code front) ≤ 12 = last_weighs front in
    let g : length body ≤ summed weight all + 0 = lines_weigh x all [] in
    let n : length front ≡ length x.own.waiters + length cleared = none_length x.own.waiters cleared in
    let h : length cleared ≤ 5 + length body = cleared_first (result_in x.own.all) body in
    let i = length-append front (code.last_code front) in
    omega (arith, f, g, n, h, i)

-- a procedure with lines, and any one
proc_weighs : (x : Around) (line : Line) (all : List Line)
    → suc (length (code.code_of x (line ∷ all))) ≤ proc_weight (line ∷ all) + length x.own.waiters
proc_weighs x line all = let h = code_weighs x (line ∷ all) in omega (arith, h)

-- one without lines leads nowhere
none_weighs : (result : Option Housed) → length (code.and_last (code.result_cleared result [])) ≤ 5
none_weighs None = omega arith
none_weighs (Some r) = by r.is_word (spot_of r)
  where
    by : (word : Bool) (spot : Spot) → length (code.and_last (cleared word r.bytes spot [])) ≤ 5
    by word (Held v) = omega arith
    by true (Lies (Variable v)) = omega arith
    by true (Lies (Placed at)) = omega arith
    by true (Lies (Static at)) = omega arith
    by false (Lies (Variable v)) = omega arith
    by false (Lies (Placed at)) = omega arith
    by false (Lies (Static at)) = omega arith
    by word (Letter (Variable v)) = omega arith
    by word (Letter (Placed at)) = omega arith
    by word (Letter (Static at)) = omega arith

any_weighs : (x : Around) (all : List Line) → suc (length (code.code_of x all)) ≤ proc_weight all + 6 + length x.own.waiters
any_weighs x [] =
    let cleared : List WordInstr = code.result_cleared (result_in x.own.all) [] in
    let front : List WordInstr = none_code x.own.waiters cleared in
    let h : length (code.and_last cleared) ≤ 5 = none_weighs (result_in x.own.all) in
    let e = ap length (last_same front cleared (λ label. none_branches label x.own.waiters cleared)) in
    let n = none_length x.own.waiters cleared in
    let i = length-append front (code.last_code front) in
    let j = length-append cleared (code.last_code cleared) in
    omega (arith, h, e, n, i, j)
any_weighs x (line ∷ all) = let h = proc_weighs x line all in omega (arith, h)

-- ---- all of them

if_weighs : (x : Around) (procs : List WordProc) (lines : List BlockLine) (p : WordProc) → p.lines ≡ code.code_of x (map block_plain lines)
    → word_weight (code.if_runs (not (is_empty lines)) p procs) ≤ proc_weight (map block_plain lines) + length x.own.waiters + word_weight procs
if_weighs x procs [] p e = omega arith
if_weighs x procs (line ∷ lines) p e =
    let f = ap length e in
    let h = proc_weighs x (block_plain line) (map block_plain lines) in
    omega (arith, f, h)

module _ (table : List TypeDef) (datum : ℕ) where
  few_wait : (start : Bool) (p : CodeProc BlockLine) → length (layout_of table start datum p).waiters ≤ waiting_in p.places
  few_wait start p =
      waiters_few table start (map block_plain p.lines) (free_at datum) (behind_all table start (map block_plain p.lines) (free_at datum) p.places) p.places

  procs_weigh : (x : Around) (index : ℕ) (none p : CodeProc BlockLine) (ps : List (CodeProc BlockLine))
      → word_weight (code.word_procs x index (layouts table datum (p ∷ ps)) (p ∷ ps)) + proc_weight (map block_plain (last_of none (p ∷ ps)).lines)
      + waiting_in (last_of none (p ∷ ps)).places ≤ code_weight block_plain (p ∷ ps) + all_waiting (p ∷ ps)
  procs_weigh x index none p [] = omega arith
  procs_weigh x index none p (q ∷ ps) =
      let y : Around = code.with_own x (layout_of table false datum p) (length (texts_in (q ∷ ps))) in
      let rest : List WordProc = code.word_procs x (suc index) (layouts table datum (q ∷ ps)) (q ∷ ps) in
      let h = if_weighs y rest p.lines (code.word_proc y (proc_number index) p) refl in
      let few = few_wait false p in
      let i = procs_weigh x (suc index) p q ps in
      omega (arith, h, few, i)

  -- the start code is the last one
  last_few : (none : Layout) (other p : CodeProc BlockLine) (ps : List (CodeProc BlockLine))
      → length (last_of none (layouts table datum (p ∷ ps))).waiters ≤ waiting_in (last_of other (p ∷ ps)).places
  last_few none other p [] = few_wait true p
  last_few none other p (q ∷ ps) = last_few (layout_of table false datum p) p q ps

pub weight_by : (table : List TypeDef) (procs : List (CodeProc BlockLine))
    → word_weight (code.lowered_procs (code.start_around table procs) procs) ≤ code_weight block_plain procs + all_waiting procs + 6
weight_by table [] = let h = any_weighs (code.start_around table []) [] in omega (arith, h)
weight_by table (p ∷ ps) =
    let x : Around = code.start_around table (p ∷ ps) in
    let few = last_few table FIXED_BYTES no_layout code.no_proc p ps in
    let h = any_weighs x (map block_plain (last_of code.no_proc (p ∷ ps)).lines) in
    let i = procs_weigh table FIXED_BYTES x 0 code.no_proc p ps in
    omega (arith, few, h, i)
