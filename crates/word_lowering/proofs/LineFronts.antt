-- The code of each line stands before that of the lines behind it.
use Rattle.std.specs.Prelude.{◌&&◌}
use Rattle.nim_program.specs.declared.expr.Label.TheVariants as C
use Rattle.std.proofs.Common.{◌≡◌, inl, ℕ, zero, suc, ◌+◌, ◌*◌, ◌<◌, ◌≤◌, List, [], ◌∷◌, ◌++◌, length, Bool, true, false}
use Rattle.std.proofs.Common.{Option, Some, None, refl, arith}
use Rattle.std.proofs.lemmas.List.{length-map}
use Rattle.nim_types.specs.declared.types.TypeDef.{TypeDef}
use Rattle.nim_types.specs.declared.types.TypeDef.TheVariants as D
use Rattle.nim_program.specs.declared.operation.Measure.{Measure}
use Rattle.nim_program.specs.declared.operation.Measure.TheVariants.{Len}
use Rattle.nim_program.specs.declared.operation.Operation.{Operation}
use Rattle.nim_program.specs.declared.operation.Operation.TheVariants as O
use Rattle.nim_program.specs.declared.operation.Operator.{Operator}
use Rattle.nim_program.specs.Traps.{LengthChanged}
use Rattle.flat_code.specs.declared.line.From.{From}
use Rattle.flat_code.specs.declared.line.Line.{Line}
use Rattle.flat_code.specs.declared.line.Line.TheVariants as L
use Rattle.flat_code.specs.declared.line.Piece.{Piece}
use Rattle.flat_code.specs.declared.line.Piece.TheVariants as P
use Rattle.flat_code.specs.Pieces.{piece_words}
use Rattle.flat_code.specs.Whole.{label_in}
use Rattle.word_code.specs.declared.word.WordInstr.{WordInstr}
use Rattle.word_code.specs.declared.word.Test.TheVariants as test
use Rattle.word_code.specs.declared.word.WordInstr.TheVariants.{Spend, Constant, Argument, Branch, Call, Return, Place, Load, Store}
use Rattle.rv32_isa.specs.declared.micro_op.Size.TheVariants.{Byte, Word as whole}
use Rattle.word_code.specs.declared.routine.TheConstants.{SWAP}
use Rattle.hook_lifting.specs.declared.lifted.Hook.TheVariants.{Copies}
use Rattle.word_lowering.specs.declared.homes.TheConstants.{LEFT, FIRST, SECOND, THIRD, FIFTH}
use Rattle.word_lowering.specs.declared.homes.Alias.{Alias}
use Rattle.word_lowering.specs.declared.homes.Alias.TheVariants as alias
use Rattle.word_lowering.specs.declared.homes.Home.{Home}
use Rattle.word_lowering.specs.declared.homes.Home.TheVariants.{Variable, Placed, Static}
use Rattle.word_lowering.specs.declared.homes.Housed.{Housed}
use Rattle.word_lowering.specs.declared.spots.Spot.{Spot}
use Rattle.word_lowering.specs.declared.spots.Spot.TheVariants.{Held, Lies, Letter}
use Rattle.word_lowering.specs.declared.texts.TheConstants.{LINE_END_AT}
use Rattle.word_lowering.specs.Aliases.{is_read, text_in}
use Rattle.word_lowering.specs.Layouts.{params_in, result_in}
use Rattle.word_lowering.specs.Operations.{word, trap_label}
use Rattle.word_lowering.specs.Spots.{spot_of, shifted, moved, moves, passes, cleared, clears, starts, handed}
use Rattle.word_lowering.specs.Stored.{part_at, entry_at, base_at, limit_at, is_hooked}
use Rattle.word_lowering.specs.LineCode as code
use Rattle.word_lowering.specs.OwnedCode as owned
use Rattle.word_lowering.specs.RoutineCode.{join_code}
use Rattle.word_lowering.specs.LineCode.{Around, arguments_of}
use Rattle.word_lowering.proofs.Fronts.{Coding, IsFront, front_on, front_none, front_more, front_address, moved_front, cleared_front, handed_front}
use Rattle.word_lowering.proofs.Fronts.{put_back_front, letter_swap_front}
use Rattle.word_lowering.proofs.Fronts.{binary_front, turn_front, turn_if_front, unary_front, compare_front, narrow_front, unless_front, beyond_front}
use Rattle.word_lowering.proofs.Fronts.{fits_front}
use Rattle.word_lowering.proofs.CalledHooks.{assigned_front, got_front, hook_front}
use Rattle.word_lowering.specs.WaitingCode.{gives_hooked}
use Rattle.word_lowering.proofs.KeptCode.{behind_front, owning_front, root_front}
use Rattle.word_lowering.proofs.OwnedFronts.{front_enough, added_front, appended_front, compared_front, element_read_front, enough_front, joined_front}
use Rattle.word_lowering.proofs.OwnedFronts.{measured_front}
use Rattle.word_lowering.proofs.OwnedFronts.{lent_text_front, new_front, owned_element_front, owned_item_front, popped_front, read_front, sequence_front}
use Rattle.word_lowering.proofs.OwnedFronts.{shown_front}
use Rattle.word_lowering.proofs.OwnedFronts.{sized_front, text_copied_front, text_fits_front, told_front, word_argument_front}

module _ (own many : ℕ) where
  moves_front : (to from : Housed) → IsFront own many (moves to from)
  moves_front to from = moved_front own many from.is_word from.bytes (spot_of to) (spot_of from)

  clears_front : (to : Housed) → IsFront own many (clears to)
  clears_front to = cleared_front own many to.is_word to.bytes (spot_of to)

  passes_front : (bytes : ℕ) (to from : Housed) → IsFront own many (passes bytes to from)
  passes_front zero to from = front_none own many
  passes_front (suc n) to from = moves_front to from

  starts_front : (bytes : ℕ) (to : Housed) → IsFront own many (starts bytes to)
  starts_front zero to = front_none own many
  starts_front (suc n) to = clears_front to

  -- ---- constants

  word_front : (to : Home) (n : ℕ) → IsFront own many (code.unless_zero to n)
  word_front to zero = front_none own many
  word_front to (suc n) =
      front_address own many FIRST to (λ k. Constant SECOND (suc n) ∷ Store FIRST SECOND whole ∷ k) (record { is = λ k. refl; fine = tt })

  pieces_front : (to : Home) (pieces : List Piece) → IsFront own many (code.pieces_code to pieces)
  pieces_front to [] = front_none own many
  pieces_front to (P.Ordinal z ∷ pieces) =
      front_on own many (code.unless_zero to (word z)) (code.pieces_code (shifted 4 to) pieces) (word_front to (word z)) (pieces_front (shifted 4 to) pieces)
  pieces_front to (P.Parts zero ∷ pieces) = pieces_front (shifted 4 to) pieces
  pieces_front to (P.Parts (suc n) ∷ pieces) = pieces_front to pieces
  pieces_front to (P.Text text ∷ pieces) = pieces_front to pieces
  pieces_front to (P.Nil ∷ pieces) = pieces_front to pieces
  pieces_front to (P.Elements n ∷ pieces) = pieces_front to pieces

  constant_at_front : (to : Housed) (spot : Spot) (pieces : List Piece) → IsFront own many (code.constant_at to spot pieces)
  constant_at_front to (Held v) pieces = record { is = λ k. refl; fine = tt }
  constant_at_front to (Lies home) pieces =
      front_on own many (cleared to.is_word to.bytes (Lies home)) (code.pieces_code home pieces)
      (cleared_front own many to.is_word to.bytes (Lies home)) (pieces_front home pieces)
  constant_at_front to (Letter home) pieces =
      front_address own many FIRST home (λ k. Constant SECOND (code.first_word (piece_words pieces)) ∷ Store FIRST SECOND Byte ∷ k)
      (record { is = λ k. refl; fine = tt })

  built_front : (x : Around) (hooked : Bool) (ty : ℕ) (to : Housed) (pieces : List Piece) → IsFront own many (code.built_code x hooked ty to pieces)
  built_front x true ty to pieces = hook_front own many x Copies ty to.home (Static (code.standing_at x pieces))
  built_front x false ty to pieces = constant_at_front to (spot_of to) pieces

  constant_front : (x : Around) (read hooked : Bool) (text : Option (List ℕ)) (ty : ℕ) (to : Housed) (pieces : List Piece)
      → IsFront own many (code.constant_by x read hooked text ty to pieces)
  constant_front x true hooked None ty to pieces = built_front x hooked ty to pieces
  constant_front x false hooked None ty to pieces = built_front x hooked ty to pieces
  constant_front x true hooked (Some text) ty to pieces = lent_text_front own many x to.alias to.home text
  constant_front x false hooked (Some text) ty to pieces = text_copied_front own many x to.home text

  -- ---- addresses

  part_front : (to : ℕ) (home : Home) (at : ℕ) → IsFront own many (code.part_code to home at)
  part_front to (Variable v) at = record { is = λ k. refl; fine = tt }
  part_front to (Placed from) at = record { is = λ k. refl; fine = tt }
  part_front to (Static from) at = record { is = λ k. refl; fine = tt }

  element_front : (to : ℕ) (home : Home) (index bytes : ℕ) → IsFront own many (code.element_code to home index bytes)
  element_front to (Variable v) index bytes = record { is = λ k. refl; fine = tt }
  element_front to (Placed at) index bytes = record { is = λ k. refl; fine = tt }
  element_front to (Static at) index bytes = record { is = λ k. refl; fine = tt }

  item_front : (to : ℕ) (home : Home) (index count bytes : ℕ) → IsFront own many (code.item_code to home index count bytes)
  item_front to (Variable v) index count bytes = record { is = λ k. refl; fine = (inl (omega arith), tt) }
  item_front to (Placed at) index count bytes = record { is = λ k. refl; fine = (inl (omega arith), tt) }
  item_front to (Static at) index count bytes = record { is = λ k. refl; fine = (inl (omega arith), tt) }

  swap_front : (letter : Bool) (left right : Home) (bytes : ℕ) → IsFront own many (code.swap_code letter left right bytes)
  swap_front true left right bytes = letter_swap_front own many left right
  swap_front false left right bytes =
      front_on own many (code.word_argument 0 left) (λ k. code.word_argument 1 right (called k)) (word_argument_front own many 0 left)
      (front_on own many (code.word_argument 1 right) called (word_argument_front own many 1 right) (record { is = λ k. refl; fine = tt }))
    where
      called : Coding
      called k = Constant THIRD bytes ∷ Argument 2 THIRD ∷ Call FIRST SWAP ∷ k

  -- ---- returns, and what is written

  back_front : (is_word : Bool) (spot : Spot) → IsFront own many (code.back_code is_word spot)
  back_front w (Held v) = record { is = λ k. refl; fine = tt }
  back_front true (Lies home) =
      front_address own many FIRST home (λ k. Load FIRST FIRST whole ∷ Return FIRST ∷ k) (record { is = λ k. refl; fine = tt })
  back_front true (Letter home) =
      front_address own many FIRST home (λ k. Load FIRST FIRST Byte ∷ Return FIRST ∷ k) (record { is = λ k. refl; fine = tt })
  back_front false (Lies home) = record { is = λ k. refl; fine = tt }
  back_front false (Letter home) = record { is = λ k. refl; fine = tt }

  text_front : (at bytes : ℕ) → IsFront own many (code.text_code at bytes)
  text_front at zero = front_none own many
  text_front at (suc n) = record { is = λ k. refl; fine = tt }

  told_by_front : (place : (behind bytes : ℕ) → ℕ) (other : Alias) (home : Home) → IsFront own many (code.told_code place other home)
  told_by_front place alias.Own home = told_front own many home
  told_by_front place (alias.Place p global) home = told_front own many home
  told_by_front place (alias.Value t) home = told_front own many home
  told_by_front place (alias.Node n) home = told_front own many home
  told_by_front place (alias.Text behind bytes) home = text_front (place behind bytes) bytes

  number_front : (from : ℕ) → IsFront own many (code.number_code from)
  number_front from = record { is = λ k. refl; fine = tt }

  exit_front : IsFront own many code.exit_code
  exit_front = record { is = λ k. refl; fine = tt }

  checked_front : (start : Bool) → IsFront own many (code.checked_code start)
  checked_front true = record { is = λ k. refl; fine = tt }
  checked_front false = record { is = λ k. refl; fine = (inl (omega arith), tt) }

  parts_front : (to : Home) (hs : List Housed) → IsFront own many (code.parts_code to hs)
  parts_front to [] = front_none own many
  parts_front to (h ∷ hs) =
      front_on own many (moved h.is_word h.bytes (Lies to) (spot_of h)) (code.parts_code (shifted h.bytes to) hs)
      (moved_front own many h.is_word h.bytes (Lies to) (spot_of h)) (parts_front (shifted h.bytes to) hs)

  converted_front : (limit : Option ℕ) (to from : Housed) → IsFront own many (code.converted_code limit to from)
  converted_front None to from = moves_front to from
  converted_front (Some values) to from = narrow_front own many (code.variable_of to) (code.variable_of from) values

  quit_front : (hs : List Housed) → IsFront own many (code.quit_code hs)
  quit_front [] = exit_front
  quit_front (status ∷ hs) = record { is = λ k. refl; fine = tt }

  module _ (high : 7 < own) where
    updated_front : (operator : Operator) (spot : Spot) (by : ℕ) → IsFront own many (code.updated_code own operator spot by)
    updated_front operator (Held v) by = binary_front own many high operator v v by
    updated_front operator (Lies home) by = put_back_front own many high operator home whole by
    updated_front operator (Letter home) by = put_back_front own many high operator home Byte by

    update_front : (operator : Operator) (hs : List Housed) → IsFront own many (code.update_code own operator hs)
    update_front operator [] = front_none own many
    update_front operator (to ∷ []) =
        front_more own many (Constant FIFTH 1) (code.updated_code own operator (spot_of to) FIFTH) refl (updated_front operator (spot_of to) FIFTH)
    update_front operator (to ∷ by ∷ hs) = updated_front operator (spot_of to) (code.variable_of by)

  module _ (x : Around) where
    fields_front : (to : Home) (ty : ℕ) (fields : List ℕ) (hs : List Housed) → IsFront own many (code.fields_code x to ty fields hs)
    fields_front to ty [] hs = front_none own many
    fields_front to ty (field ∷ fields) [] = front_none own many
    fields_front to ty (field ∷ fields) (h ∷ hs) =
        let there : Home = shifted (part_at x.table ty field) to in
        front_on own many (moved h.is_word h.bytes (Lies there) (spot_of h)) (code.fields_code x to ty fields hs)
        (moved_front own many h.is_word h.bytes (Lies there) (spot_of h)) (fields_front to ty fields hs)

    -- ---- calls

    argument_front : 7 < own → (i : ℕ) (param : Home) (from : Housed) → i ≤ many → IsFront own many (code.argument_code x (own + 2 * i) param from)
    argument_front high i (Variable v) from few = word_argument_front own many v from.home
    argument_front high i (Placed at) from few =
        front_more own many (Place FIRST (x.own.free.byte + at)) (handed (own + 2 * i) from.bytes (spot_of from)) refl
        (handed_front own many high i from.bytes (spot_of from) few)
    argument_front high i (Static at) from few = front_none own many

    arguments_front : 7 < own → (ps hs : List Housed) → length hs ≤ many → IsFront own many (code.arguments_code x own ps hs)
    arguments_front high [] hs few = front_none own many
    arguments_front high (p ∷ ps) [] few = front_none own many
    arguments_front high (p ∷ ps) (h ∷ hs) few =
        front_on own many (code.argument_code x (own + 2 * suc (length hs)) p.home h) (code.arguments_code x own ps hs)
        (argument_front high (suc (length hs)) p.home h few) (arguments_front high ps hs (omega (arith, few)))

    result_front : (to : Housed) (r : Option Housed) → IsFront own many (code.result_code x to r)
    result_front to None = front_none own many
    result_front to (Some r) = moved_front own many r.is_word r.bytes (spot_of to) (Lies (code.left_at x.own.free.byte r.home))

    entered_front : (proc : ℕ) (to : Housed) (spot : Spot) → IsFront own many (code.entered_code x proc to spot)
    entered_front proc to (Held v) = record { is = λ k. refl; fine = tt }
    entered_front proc to (Lies home) =
        front_more own many (Call FIRST (code.proc_number proc)) (code.result_code x to (result_in (code.layout_at x proc).all)) refl
        (result_front to (result_in (code.layout_at x proc).all))
    entered_front proc to (Letter home) =
        front_more own many (Call FIRST (code.proc_number proc)) (code.result_code x to (result_in (code.layout_at x proc).all)) refl
        (result_front to (result_in (code.layout_at x proc).all))

    nothing_front : (ty : Option ℕ) (to : ℕ) → IsFront own many (code.nothing_code x ty to)
    nothing_front None to = front_none own many
    nothing_front (Some ty) to = record { is = λ k. refl; fine = tt }

    called_front : 7 < own → (runs : Bool) (proc : ℕ) (ty : Option ℕ) (to : ℕ) (hs : List Housed) → length hs ≤ many
        → IsFront own many (code.called_code x runs own proc ty to hs)
    called_front high true proc ty to hs few =
        front_on own many (code.arguments_code x own (params_in (code.layout_at x proc).all) hs)
        (λ k. code.checked_code x.setting.start (Argument LEFT FIRST ∷ code.given_code x proc to k))
        (arguments_front high (params_in (code.layout_at x proc).all) hs few)
        (front_on own many (code.checked_code x.setting.start) (λ k. Argument LEFT FIRST ∷ code.given_code x proc to k) (checked_front x.setting.start)
        (front_more own many (Argument LEFT FIRST) (code.given_code x proc to) refl (entered_front proc (code.value x to) (spot_of (code.value x to)))))
    called_front high false proc ty to hs few =
        front_on own many (code.checked_code x.setting.start) (code.nothing_code x ty to) (checked_front x.setting.start) (nothing_front ty to)

    return_front : (start : Bool) (result : Option ℕ) → IsFront own many (code.return_code x start result)
    return_front true result = exit_front
    return_front false None = record { is = λ k. refl; fine = tt }
    return_front false (Some p) = back_front (code.own_place x p).is_word (spot_of (code.own_place x p))

    -- ---- texts

    written_front : (def : Option TypeDef) (enum : ℕ) (from : Housed) → IsFront own many (code.written_code x def enum from)
    written_front None enum from = number_front (code.variable_of from)
    written_front (Some D.Int) enum from = number_front (code.variable_of from)
    written_front (Some D.Bool) enum from = record { is = λ k. refl; fine = tt }
    written_front (Some D.Char) enum from = record { is = λ k. refl; fine = tt }
    written_front (Some D.Text) enum from = told_by_front (code.literal_at x) from.alias from.home
    written_front (Some (D.Enum name at members)) enum from =
        record { is = λ k. refl; fine = tt }
    written_front (Some (D.Seq i)) enum from = front_none own many
    written_front (Some (D.Param n)) enum from = front_none own many
    written_front (Some (D.Array n i)) enum from = front_none own many
    written_front (Some (D.Tuple names is)) enum from = front_none own many
    written_front (Some (D.Object name at is all own_hooks parts)) enum from = front_none own many
    written_front (Some (D.Distinct name at i)) enum from = front_none own many
    written_front (Some (D.Ref name i)) enum from = front_none own many
    written_front (Some (D.Exception name at parent)) enum from = front_none own many

    typed_front : (ty : Option ℕ) (from : Housed) → IsFront own many (code.typed_code x ty from)
    typed_front None from = front_none own many
    typed_front (Some ty) from = written_front (entry_at x.table ty) (base_at x.table ty) from

    texts_front : (of : List (Option ℕ)) (hs : List Housed) → IsFront own many (code.texts_code x of hs)
    texts_front [] hs = front_none own many
    texts_front (ty ∷ tys) [] = front_none own many
    texts_front (ty ∷ tys) (h ∷ hs) =
        front_on own many (code.typed_code x ty h) (code.texts_code x tys hs) (typed_front ty h) (texts_front tys hs)

    -- ---- operations

    measure_front : (handle : Bool) (measure : Measure) (to : ℕ) (from : Housed) → IsFront own many (code.measure_code x handle measure to from)
    measure_front true measure to from = measured_front own many measure to from.home
    measure_front false measure to from = record { is = λ k. refl; fine = tt }

    -- ---- elements

    item_at_front : (handle : Bool) (to from index : ℕ) → IsFront own many (code.item_at x handle to from index)
    item_at_front true to from index =
        owned_item_front own many (code.led x to) (code.location x from).home (code.held x index) (owned.each_bytes x.table (code.entry_from x from))
    item_at_front false to from index =
        item_front (code.led x to) (code.location x from).home (code.held x index) (code.count_at x from) (code.bytes_each x from)

    element_at_front : (handle : Bool) (from index : ℕ) (to : Housed) → IsFront own many (code.element_at x handle from index to)
    element_at_front true from index to =
        let size : ℕ = owned.each_bytes x.table (code.entry_from x from) in
        front_on own many (owned.owned_element_code FIFTH (code.location x from).home (code.held x index) size)
        (owned.element_read (owned.is_text (code.entry_from x from)) to)
        (owned_element_front own many FIFTH (code.location x from).home (code.held x index) size)
        (element_read_front own many (owned.is_text (code.entry_from x from)) to)
    element_at_front false from index to =
        front_on own many (code.element_code FIFTH (code.location x from).home (code.held x index) (code.bytes_each x from))
        (moved to.is_word to.bytes (spot_of to) (Lies (Variable FIFTH)))
        (element_front FIFTH (code.location x from).home (code.held x index) (code.bytes_each x from))
        (moved_front own many to.is_word to.bytes (spot_of to) (Lies (Variable FIFTH)))

    -- ---- rows

    row_front : 7 < own → (operation : Operation) (ty : Option ℕ) (of : List (Option ℕ)) (to : Housed) (hs : List Housed) → length hs ≤ many
        → IsFront own many (code.row_code x operation own ty of to hs)
    row_front high O.Default ty of to hs few = starts_front to.bytes to
    row_front high (O.Unary operator) ty of to hs few = unary_front own many operator (code.variable_of to) (code.variable_of (code.operand_at hs 0))
    row_front high (O.Binary operator) ty of to hs few =
        binary_front own many high operator (code.variable_of to) (code.variable_of (code.operand_at hs 0)) (code.variable_of (code.operand_at hs 1))
    row_front high (O.Compare c) ty of to hs few =
        enough_front own many 2 hs (code.compared_code x text c (code.variable_of to) of hs) (by text)
      where
        text : Bool
        text = owned.is_text (owned.entry_of x.table (owned.type_of of 0))

        by : (b : Bool) → IsFront own many (code.compared_code x b c (code.variable_of to) of hs)
        by true = compared_front own many x c (code.variable_of to) of hs (owned.left_of x of hs) (owned.right_of x of hs)
        by false = compare_front own many c (code.variable_of to) (code.variable_of (code.operand_at hs 0)) (code.variable_of (code.operand_at hs 1))
    row_front high O.Convert ty of to hs few = converted_front (limit_at x.table ty) to (code.operand_at hs 0)
    row_front high O.Join ty of to hs few =
        enough_front own many 2 hs (λ k. owned.two_made x of hs (join_code to.home (owned.left_of x of hs) (owned.right_of x of hs) k))
        (joined_front own many x to.home of hs (owned.left_of x of hs) (owned.right_of x of hs))
    row_front high O.Show ty of to hs few =
        enough_front own many 1 hs
        (owned.shown_code x (owned.entry_of x.table (owned.type_of of 0)) to.home (owned.type_of of 0) (code.operand_at hs 0))
        (shown_front own many x (owned.entry_of x.table (owned.type_of of 0)) to.home (owned.type_of of 0) (code.operand_at hs 0))
    row_front high O.Make ty of to hs few = parts_front to.home hs
    row_front high O.Sequence ty of to hs few = sequence_front own many to.home (owned.size_in x to) hs
    row_front high O.NewSequence ty of to hs few = new_front own many to.home (code.variable_of (code.operand_at hs 0)) (owned.size_in x to)
    row_front high (O.Measure measure) ty of to hs few =
        measure_front (owned.has_handle (entry_at x.table (code.operand_at hs 0).ty)) measure (code.variable_of to) (code.operand_at hs 0)
    row_front high O.IsNil ty of to hs few = front_none own many
    row_front high O.Echo ty of to hs few =
        front_on own many (code.texts_code x of hs) (code.text_code LINE_END_AT 1) (texts_front of hs) (text_front LINE_END_AT 1)
    row_front high O.Quit ty of to hs few = quit_front hs
    row_front high O.ReadLine ty of to hs few = front_none own many
    row_front high O.ReadLineInto ty of to hs few = read_front own many (code.variable_of to) (code.operand_at hs 0).home
    row_front high O.Assign ty of to hs few = moves_front (code.operand_at hs 0) (code.operand_at hs 1)
    row_front high (O.Update operator) ty of to hs few = update_front high operator hs
    row_front high O.Add ty of to hs few = added_front own many (code.operand_at hs 0).home (owned.size_in x (code.operand_at hs 0)) (code.operand_at hs 1)
    row_front high O.Append ty of to hs few =
        let letter : Bool = owned.is_char (owned.entry_of x.table (owned.type_of of 1)) in
        let home : Home = (code.operand_at hs 0).home in
        let from : Housed = code.operand_at hs 1 in
        front_enough own many 2 hs (owned.appended_code x letter own home (owned.type_of of 1) from)
        (λ two. appended_front own many x high (omega (arith, two, few)) letter home (owned.type_of of 1) from)
    row_front high O.SetLength ty of to hs few =
        let there : Housed = code.operand_at hs 0 in
        let n : ℕ = code.variable_of (code.operand_at hs 1) in
        front_enough own many 2 hs
        (λ k. owned.counted_code n (owned.sized_code x (owned.is_text (entry_at x.table there.ty)) own there.ty there.home n k))
        (λ two. sized_front own many x high (omega (arith, two, few)) (owned.is_text (entry_at x.table there.ty)) there.ty there.home n)
    row_front high O.Pop ty of to hs few =
        enough_front own many 1 hs (owned.popped_code to (code.operand_at hs 0).home (owned.size_in x (code.operand_at hs 0)))
        (popped_front own many to (code.operand_at hs 0).home (owned.size_in x (code.operand_at hs 0)))
    row_front high O.Move ty of to hs few =
        front_on own many (moves to (code.operand_at hs 0)) (clears (code.operand_at hs 0)) (moves_front to (code.operand_at hs 0))
        (clears_front (code.operand_at hs 0))
    row_front high O.Swap ty of to hs few =
        swap_front (code.operand_at hs 0).is_letter (code.operand_at hs 0).home (code.operand_at hs 1).home (code.operand_at hs 0).bytes
    row_front high O.Discard ty of to hs few = front_none own many
    row_front high O.Destroy ty of to hs few = front_none own many
    row_front high O.Blank ty of to hs few = front_none own many

-- ---- lines

-- a line that is no label
abbrev pub IsNoLabel : Line → Type 0
IsNoLabel (L.Label name) = ⊥
IsNoLabel line = Unit {0}

operands_few : (x : Around) (from : List From) → length (code.operands x from) ≤ length from
operands_few x from = let l = length-map from (code.operand x) in omega (arith, l)

far : (name : ℕ) → 7 < code.own_label name
far name = omega arith

pub line_front : (x : Around) (line : Line) (own : ℕ) → 7 < own → IsNoLabel line → IsFront own (length (arguments_of line)) (code.line_code x line own)
line_front x (L.Label name) own high plain = absurd plain
line_front x (L.Apply to O.Assign how ty of from) own high plain =
    assigned_front own (length from) x (gives_hooked x.table (owned.type_of of 0)) (code.row_code x O.Assign own ty of (code.value x to) (code.operands x from))
    (owned.type_of of 0) from (row_front own (length from) x high O.Assign ty of (code.value x to) (code.operands x from) (operands_few x from))
line_front x (L.Apply to operation how ty of from) own high plain =
    row_front own (length from) x high operation ty of (code.value x to) (code.operands x from) (operands_few x from)
line_front x (L.Construct to how ty fields from) own high plain =
    front_on own 0 (clears (code.value x to)) (code.fields_code x (code.value x to).home ty fields (code.operands x from))
    (clears_front own 0 (code.value x to))
    (fields_front own 0 x (code.value x to).home ty fields (code.operands x from))
line_front x (L.Constant to how ty pieces) own high plain =
    constant_front own 0 x (is_read how.how) (is_hooked x.table ty) (text_in pieces) ty (code.value x to) pieces
line_front x (L.Call to how ty proc from) own high plain =
    front_more own (length from) Spend (code.call_code x own proc ty to from) refl
    (called_front own (length from) x high (code.layout_at x proc).runs proc ty to (code.operands x from) (operands_few x from))
line_front x (L.Get to from how ty) own high plain =
    got_front own 0 x (gives_hooked x.table ty && code.is_copied how.how) (code.is_seen_blank x ty) ty (code.value x to) (code.location x from)
line_front x (L.Look to from) own high plain = moves_front own 0 (code.value x to) (code.location x from)
line_front x (L.Root to p global) own high plain = root_front own 0 (code.own_alias x to) (code.led x to) (code.place x p global).home
line_front x (L.Fresh to from waits) own high plain = front_none own 0
line_front x (L.Standing to ty pieces) own high plain = record { is = λ k. refl; fine = tt }
line_front x (L.Part to from field) own high plain =
    part_front own 0 (code.led x to) (code.location x from).home (part_at x.table (code.location x from).ty field)
line_front x (L.Item to from index) own high plain = item_at_front own 0 x (owned.has_handle (code.entry_from x from)) to from index
line_front x (L.Object to from) own high plain = front_none own 0
line_front x (L.Pass to from how ty) own high plain = passes_front own 0 (code.value x from).bytes (code.value x to) (code.value x from)
line_front x (L.Truth to holds) own high plain = record { is = λ k. refl; fine = tt }
line_front x (L.Fill p from) own high plain = moves_front own 0 (code.own_place x p) (code.value x from)
line_front x (L.Blank p ty) own high plain = clears_front own 0 (code.own_place x p)
line_front x (L.Give p from) own high plain = moves_front own 0 (code.own_place x p) (code.value x from)
line_front x (L.Zero to) own high plain = record { is = λ k. refl; fine = tt }
line_front x (L.Length to from) own high plain =
    measure_front own 0 x (owned.has_handle (code.entry_from x from)) Len (code.held x to) (code.location x from)
line_front x (L.Still from len) own high plain =
    front_on own 0 (code.measure_code x (owned.has_handle (code.entry_from x from)) Len FIRST (code.location x from))
    (λ k. Branch test.Unequal (code.held x len) FIRST (trap_label LengthChanged) ∷ k)
    (measure_front own 0 x (owned.has_handle (code.entry_from x from)) Len FIRST (code.location x from))
    (record { is = λ k. refl; fine = (inl (omega arith), tt) })
line_front x (L.Element to from index) own high plain =
    element_at_front own 0 x (owned.has_handle (code.entry_from x from)) from index (code.value x to)
line_front x (L.Beyond counter last inclusive to) own high plain =
    beyond_front own 0 inclusive (code.held x counter) (code.held x last) (code.own_label to) (far to)
line_front x (L.Next counter last) own high plain = record { is = λ k. refl; fine = tt }
line_front x (L.Jump to) own high plain = record { is = λ k. refl; fine = tt }
line_front x (L.Unless from to) own high plain = unless_front own 0 (code.held x from) (code.own_label to) (far to)
line_front x (L.Fits from (C.Ordinals low most) to) own high plain = fits_front own 0 (code.held x from) (code.own_label to) low most (far to)
line_front x (L.Fits from (C.Text text) to) own high plain = text_fits_front own 0 x text (code.value x from) (code.own_label to) (far to)
line_front x (L.Own what from) own high plain = owning_front own 0 x high what from
line_front x L.Enter own high plain = record { is = λ k. refl; fine = tt }
line_front x (L.Turn to) own high plain = record { is = λ k. refl; fine = tt }
line_front x (L.TurnIf from to) own high plain = turn_if_front own 0 (code.held x from) (code.own_label to) (far to)
line_front x (L.CountTurn counter last inclusive to) own high plain =
    turn_front own 0 high (code.held x counter) (code.held x last) inclusive (code.own_label to)
line_front x (L.Return result) own high plain = return_front own 0 x x.setting.start result

-- what a line is: a label, or another line
pub data Kind : Line → Type 0 where
  is_label : (name : ℕ) → Kind (L.Label name)
  is_other : {line : Line} → IsNoLabel line → label_in line ≡ None → Kind line

pub kind_of : (line : Line) → Kind line
kind_of (L.Label name) = is_label name
kind_of (L.Apply to operation how ty of from) = is_other tt refl
kind_of (L.Construct to how ty fields from) = is_other tt refl
kind_of (L.Constant to how ty pieces) = is_other tt refl
kind_of (L.Call to how ty proc from) = is_other tt refl
kind_of (L.Get to from how ty) = is_other tt refl
kind_of (L.Look to from) = is_other tt refl
kind_of (L.Root to p global) = is_other tt refl
kind_of (L.Fresh to from waits) = is_other tt refl
kind_of (L.Standing to ty pieces) = is_other tt refl
kind_of (L.Part to from field) = is_other tt refl
kind_of (L.Item to from index) = is_other tt refl
kind_of (L.Object to from) = is_other tt refl
kind_of (L.Pass to from how ty) = is_other tt refl
kind_of (L.Truth to holds) = is_other tt refl
kind_of (L.Fill p from) = is_other tt refl
kind_of (L.Blank p ty) = is_other tt refl
kind_of (L.Give p from) = is_other tt refl
kind_of (L.Zero to) = is_other tt refl
kind_of (L.Length to from) = is_other tt refl
kind_of (L.Still from len) = is_other tt refl
kind_of (L.Element to from index) = is_other tt refl
kind_of (L.Beyond counter last inclusive to) = is_other tt refl
kind_of (L.Next counter last) = is_other tt refl
kind_of (L.Jump to) = is_other tt refl
kind_of (L.Unless from to) = is_other tt refl
kind_of (L.Fits from these to) = is_other tt refl
kind_of (L.Own what from) = is_other tt refl
kind_of L.Enter = is_other tt refl
kind_of (L.Turn to) = is_other tt refl
kind_of (L.TurnIf from to) = is_other tt refl
kind_of (L.CountTurn counter last inclusive to) = is_other tt refl
kind_of (L.Return result) = is_other tt refl

-- ---- with what stands behind it

abbrev pub whole_code : Around → Line → (own : ℕ) → Coding
whole_code x line own k = code.line_code x line own (code.behind_line x line k)

pub whole_front : (x : Around) (line : Line) (own : ℕ) → 7 < own → IsNoLabel line → IsFront own (length (arguments_of line)) (whole_code x line own)
whole_front x line own high plain =
    front_on own (length (arguments_of line)) (code.line_code x line own) (code.behind_line x line) (line_front x line own high plain)
    (behind_front own (length (arguments_of line)) x line)

-- whatever follows
pub line_appends : (x : Around) (line : Line) (own : ℕ) → 7 < own → (k : List WordInstr) → whole_code x line own k ≡ whole_code x line own [] ++ k
line_appends x line own high k = by line (kind_of line)
  where
    by : (line : Line) → Kind line → whole_code x line own k ≡ whole_code x line own [] ++ k
    by _ (is_label name) = refl
    by line (is_other plain e) = (whole_front x line own high plain).is k
