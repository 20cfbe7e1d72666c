-- The word code of lines names variables of its procedure alone.
use Rattle.std.specs.Prelude.{◌&&◌}
use Rattle.nim_program.specs.declared.expr.Label.TheVariants as C
use Rattle.std.proofs.Common.{ℕ, zero, suc, ◌≤◌, ◌<◌, List, [], ◌∷◌, Bool, true, false, Option, Some}
use Rattle.std.proofs.Common.{None, arith}
use Rattle.nim_types.specs.declared.types.TypeDef.{TypeDef}
use Rattle.nim_types.specs.declared.types.TypeDef.TheVariants as D
use Rattle.word_code.specs.declared.word.TheConstants.{MOST_ARGUMENTS}
use Rattle.nim_program.specs.declared.operation.Measure.{Measure}
use Rattle.nim_program.specs.declared.operation.Measure.TheVariants.{Len}
use Rattle.nim_program.specs.declared.operation.Operation.{Operation}
use Rattle.nim_program.specs.declared.operation.Operation.TheVariants as O
use Rattle.nim_program.specs.declared.operation.Operator.{Operator}
use Rattle.flat_code.specs.declared.line.Line.{Line}
use Rattle.flat_code.specs.declared.line.Line.TheVariants as L
use Rattle.flat_code.specs.declared.line.Piece.{Piece}
use Rattle.flat_code.specs.declared.line.Piece.TheVariants as P
use Rattle.flat_code.specs.declared.line.From.{From}
use Rattle.flat_code.specs.declared.line.From.TheVariants as F
use Rattle.word_code.specs.declared.word.WordInstr.{WordInstr}
use Rattle.flat_code.specs.Fits.{is_value, is_location, is_own, is_declared}
use Rattle.hook_lifting.specs.declared.lifted.Hook.TheVariants.{Copies}
use Rattle.word_lowering.specs.declared.homes.TheConstants.{FIRST, SECOND, THIRD, FIFTH, OWN_FROM}
use Rattle.word_lowering.specs.declared.homes.Alias.{Alias}
use Rattle.word_lowering.specs.declared.homes.Alias.TheVariants as alias
use Rattle.word_lowering.specs.declared.homes.Home.{Home}
use Rattle.word_lowering.specs.declared.homes.Home.TheVariants.{Variable, Placed, Static}
use Rattle.word_lowering.specs.declared.homes.Housed.{Housed}
use Rattle.word_lowering.specs.declared.homes.Waiter.{Waiter}
use Rattle.word_lowering.specs.declared.spots.Spot.{Spot}
use Rattle.word_lowering.specs.declared.spots.Spot.TheVariants.{Held, Lies, Letter}
use Rattle.word_lowering.specs.Layouts.{found, params_in, result_in}
use Rattle.word_lowering.specs.Spots.{spot_of, shifted, moves, passes, clears, starts}
use Rattle.word_lowering.specs.Stored.{part_at, entry_at, base_at, limit_at, is_hooked}
use Rattle.word_lowering.specs.declared.texts.TheConstants.{LINE_END_AT}
use Rattle.word_lowering.specs.Aliases.{is_read, text_in}
use Rattle.word_lowering.specs.Operations.{word}
use Rattle.word_lowering.specs.LineCode.{Around}
use Rattle.word_lowering.specs.WaitingCode.{waiter_at, waiter_house}
use Rattle.word_lowering.specs.LineCode as lines
use Rattle.word_lowering.specs.OwnedCode as owned
use Rattle.word_lowering.proofs.HomesApart.{Each}
use Rattle.word_lowering.proofs.CalledHooks.{assigned_named, got_named, hook_named}
use Rattle.word_lowering.specs.WaitingCode.{gives_hooked}
use Rattle.word_lowering.proofs.KeptCode.{past_named, owning_named, root_named}
use Rattle.word_lowering.proofs.LayoutBounds.{IsBelow, IsParamBelow, IsGlobalBelow, found_below, global_below, params_each}
use Rattle.word_lowering.proofs.NamedCode.{AllNamed, IsSpotBelow, spot_below, shifted_below, first_is, second_is, third_is, fifth_is, left_is}
use Rattle.word_lowering.proofs.NamedCode.{binary_named, unary_named, compare_named, narrow_named, unless_named, turn_if_named}
use Rattle.word_lowering.proofs.NamedCode.{fits_named, beyond_named, letter_swap_named, put_back_named, turn_named, word_back_named}
use Rattle.word_lowering.proofs.NamedCode as named
use Rattle.word_lowering.proofs.OwnedNames.{AllBelow, added_named, appended_named, at_below, compared_named, element_read_named, enough_named, joined_named}
use Rattle.word_lowering.proofs.OwnedNames.{measured_named, new_named, owned_element_named, owned_item_named, popped_named, read_named, sequence_named}
use Rattle.word_lowering.proofs.OwnedNames.{lent_text_named, shown_named, sized_named, text_copied_named, text_fits_named, told_named, variable_is}
use Rattle.word_lowering.proofs.OwnedNames.{word_argument_named}
use Rattle.word_lowering.proofs.WaiterHomes.{AreBelow}

waiter_named : (vars : ℕ) (many : OWN_FROM ≤ vars) (there : Option Waiter) → IsBelow vars (waiter_house there).home
waiter_named vars many None = first_is vars many
waiter_named vars many (Some w) = tt

-- what is around lines has variables below a bound, and parameters below that of arguments
pub record IsAroundBelow (vars : ℕ) (x : Around) : Type 0 where
  pub own : Each (λ h. IsBelow vars h.home) x.own.all
  pub globals : Each (IsGlobalBelow vars) x.globals
  pub params : (proc : ℕ) → Each (IsParamBelow MOST_ARGUMENTS) (lines.layout_at x proc).all
  pub waiting : AreBelow vars x.own.waiters

module _ (vars : ℕ) (many : OWN_FROM ≤ vars) where
  -- ---- constants
  word_named : (to : Home) (n : ℕ) {k : List WordInstr} → IsBelow vars to → AllNamed vars k → AllNamed vars (lines.unless_zero to n k)
  word_named to zero h rest = rest
  word_named to (suc n) h rest =
      named.address vars many FIRST to (first_is vars many) h
      (named.constant vars many (second_is vars many) (named.store vars many (first_is vars many) (second_is vars many) rest))

  pieces_named : (to : Home) (pieces : List Piece) {k : List WordInstr} → IsBelow vars to → AllNamed vars k
      → AllNamed vars (lines.pieces_code to pieces k)
  pieces_named to [] h rest = rest
  pieces_named to (P.Ordinal z ∷ pieces) h rest =
      word_named to (word z) h (pieces_named (shifted 4 to) pieces (shifted_below vars 4 to h) rest)
  pieces_named to (P.Parts zero ∷ pieces) h rest = pieces_named (shifted 4 to) pieces (shifted_below vars 4 to h) rest
  pieces_named to (P.Parts (suc n) ∷ pieces) h rest = pieces_named to pieces h rest
  pieces_named to (P.Text text ∷ pieces) h rest = pieces_named to pieces h rest
  pieces_named to (P.Nil ∷ pieces) h rest = pieces_named to pieces h rest
  pieces_named to (P.Elements n ∷ pieces) h rest = pieces_named to pieces h rest

  spot_named : (to : Housed) (spot : Spot) (pieces : List Piece) {k : List WordInstr} → IsSpotBelow vars spot → AllNamed vars k
      → AllNamed vars (lines.constant_at to spot pieces k)
  spot_named to (Held v) pieces h rest = named.constant vars many h rest
  spot_named to (Lies home) pieces h rest = named.cleared vars many to.is_word to.bytes (Lies home) h (pieces_named home pieces h rest)
  spot_named to (Letter home) pieces h rest =
      named.address vars many FIRST home (first_is vars many) h
      (named.constant vars many (second_is vars many) (named.store vars many (first_is vars many) (second_is vars many) rest))

  built_named : (x : Around) (hooked : Bool) (ty : ℕ) (to : Housed) (pieces : List Piece) {k : List WordInstr} → IsBelow vars to.home
      → AllNamed vars k → AllNamed vars (lines.built_code x hooked ty to pieces k)
  built_named x true ty to pieces h rest = hook_named vars many x Copies ty to.home (Static (lines.standing_at x pieces)) h tt rest
  built_named x false ty to pieces h rest = spot_named to (spot_of to) pieces (spot_below vars to h) rest

  constant_named : (x : Around) (read hooked : Bool) (text : Option (List ℕ)) (ty : ℕ) (to : Housed) (pieces : List Piece) {k : List WordInstr}
      → IsBelow vars to.home → AllNamed vars k → AllNamed vars (lines.constant_by x read hooked text ty to pieces k)
  constant_named x true hooked None ty to pieces h rest = built_named x hooked ty to pieces h rest
  constant_named x false hooked None ty to pieces h rest = built_named x hooked ty to pieces h rest
  constant_named x true hooked (Some text) ty to pieces h rest = lent_text_named vars many x to.alias to.home text h rest
  constant_named x false hooked (Some text) ty to pieces h rest = text_copied_named vars many x to.home text h rest

  -- ---- addresses
  part_named : (to : ℕ) (home : Home) (at : ℕ) {k : List WordInstr} → to < vars → IsBelow vars home → AllNamed vars k
      → AllNamed vars (lines.part_code to home at k)
  part_named to (Variable v) at t h rest = named.sum vars many t h rest
  part_named to (Placed from) at t h rest = named.place vars many t rest
  part_named to (Static from) at t h rest = named.datum vars many t rest

  behind_named : (to : ℕ) (home : Home) {k : List WordInstr} → to < vars → IsBelow vars home → AllNamed vars k
      → AllNamed vars (lines.behind_code to home k)
  behind_named to (Variable v) t h rest = named.compute vars many t h (first_is vars many) rest
  behind_named to (Placed at) t h rest =
      named.place vars many (second_is vars many) (named.compute vars many t (second_is vars many) (first_is vars many) rest)
  behind_named to (Static at) t h rest =
      named.datum vars many (second_is vars many) (named.compute vars many t (second_is vars many) (first_is vars many) rest)

  element_named : (to : ℕ) (home : Home) (index bytes : ℕ) {k : List WordInstr} → to < vars → IsBelow vars home → index < vars → AllNamed vars k
      → AllNamed vars (lines.element_code to home index bytes k)
  element_named to home index bytes t h i rest =
      let a : FIRST < vars = first_is vars many in
      named.constant vars many a (named.compute vars many a i a (behind_named to home t h rest))

  -- ---- returns, and what is written
  back_named : (is_word : Bool) (spot : Spot) {k : List WordInstr} → IsSpotBelow vars spot → AllNamed vars k
      → AllNamed vars (lines.back_code is_word spot k)
  back_named w (Held v) h rest = named.return vars many h rest
  back_named true (Lies home) h rest = word_back_named vars many home h rest
  back_named true (Letter home) h rest = word_back_named vars many home h rest
  back_named false (Lies home) h rest = named.return vars many (left_is vars many) rest
  back_named false (Letter home) h rest = named.return vars many (left_is vars many) rest

  write_named : {k : List WordInstr} → AllNamed vars k → AllNamed vars (lines.write_code k)
  write_named rest = named.write vars many (first_is vars many) (second_is vars many) rest

  exit_named : {k : List WordInstr} → AllNamed vars k → AllNamed vars (lines.exit_code k)
  exit_named rest = named.constant vars many (first_is vars many) (named.exit vars many (first_is vars many) rest)

  number_named : (from : ℕ) {k : List WordInstr} → from < vars → AllNamed vars k → AllNamed vars (lines.number_code from k)
  number_named from f rest = named.argument vars many (omega arith) f (named.call vars many (first_is vars many) rest)

  text_named : (at bytes : ℕ) {k : List WordInstr} → AllNamed vars k → AllNamed vars (lines.text_code at bytes k)
  text_named at zero rest = rest
  text_named at (suc n) rest = named.datum vars many (first_is vars many) (named.constant vars many (second_is vars many) (write_named rest))

  told_by_named : (place : (behind bytes : ℕ) → ℕ) (other : Alias) (home : Home) {k : List WordInstr} → IsBelow vars home → AllNamed vars k
      → AllNamed vars (lines.told_code place other home k)
  told_by_named place alias.Own home h rest = told_named vars many home h rest
  told_by_named place (alias.Place p global) home h rest = told_named vars many home h rest
  told_by_named place (alias.Value t) home h rest = told_named vars many home h rest
  told_by_named place (alias.Node n) home h rest = told_named vars many home h rest
  told_by_named place (alias.Text behind bytes) home h rest = text_named (place behind bytes) bytes rest

  bool_named : (from : ℕ) {k : List WordInstr} → from < vars → AllNamed vars k → AllNamed vars (lines.bool_code from k)
  bool_named from f rest =
      let a : FIRST < vars = first_is vars many in
      let b : SECOND < vars = second_is vars many in
      named.constant vars many a (named.compute vars many a f a (named.datum vars many b (named.compute vars many a b a
      (named.constant vars many b (named.compute vars many b b f (write_named rest))))))

  char_named : (from : ℕ) {k : List WordInstr} → from < vars → AllNamed vars k → AllNamed vars (lines.char_code from k)
  char_named from f rest =
      named.datum vars many (first_is vars many) (named.store vars many (first_is vars many) f
      (named.constant vars many (second_is vars many) (write_named rest)))

  name_named : (ends names from : ℕ) {k : List WordInstr} → from < vars → AllNamed vars k → AllNamed vars (lines.name_code ends names from k)
  name_named ends names from f rest =
      let a : FIRST < vars = first_is vars many in
      let b : SECOND < vars = second_is vars many in
      let c : THIRD < vars = third_is vars many in
      named.constant vars many a (named.compute vars many a f a (named.datum vars many b (named.compute vars many b b a
      (named.load vars many a b (named.constant vars many c (named.compute vars many b b c (named.load vars many b b
      (named.compute vars many b b a (named.datum vars many c (named.compute vars many a c a (write_named rest)))))))))))

  module _ (x : Around) (below : IsAroundBelow vars x) where
    value_below : (t : ℕ) → IsBelow vars (lines.value x t).home
    value_below t = found_below vars (first_is vars many) is_value t x.own.all below.own

    own_below : (p : ℕ) → IsBelow vars (lines.own_place x p).home
    own_below p = found_below vars (first_is vars many) is_own p x.own.all below.own

    place_below : (p : ℕ) (global : Bool) → IsBelow vars (lines.place x p global).home
    place_below p true = global_below vars (first_is vars many) p x.globals below.globals
    place_below p false = found_below vars (first_is vars many) is_declared p x.own.all below.own

    named_below : (other : Alias) (own : Housed) → IsBelow vars own.home → IsBelow vars (lines.named x other own).home
    named_below alias.Own own h = h
    named_below (alias.Place p global) own h = place_below p global
    named_below (alias.Value t) own h = value_below t
    named_below (alias.Node node) own h = waiter_named vars many (waiter_at node x.own.waiters)
    named_below (alias.Text behind bytes) own h = h

    location_below : (t : ℕ) → IsBelow vars (lines.location x t).home
    location_below t =
        let own : Housed = found is_location t x.own.all in
        named_below own.alias own (found_below vars (first_is vars many) is_location t x.own.all below.own)

    operand_below : (from : From) → IsBelow vars (lines.operand x from).home
    operand_below (F.Value t) = value_below t
    operand_below (F.Place t) = location_below t

    operands_below : (from : List From) → AllBelow vars many (lines.operands x from)
    operands_below [] = tt
    operands_below (f ∷ from) = (operand_below f, operands_below from)

    held_below : (t : ℕ) → lines.held x t < vars
    held_below t = variable_is vars many (lines.value x t) (value_below t)

    led_below : (t : ℕ) → lines.led x t < vars
    led_below t = variable_is vars many (lines.location x t) (location_below t)

    moves_named : (to from : Housed) {k : List WordInstr} → IsBelow vars to.home → IsBelow vars from.home → AllNamed vars k
        → AllNamed vars (moves to from k)
    moves_named to from t f rest =
        named.moved vars many from.is_word from.bytes (spot_of to) (spot_of from) (spot_below vars to t) (spot_below vars from f) rest

    clears_named : (to : Housed) {k : List WordInstr} → IsBelow vars to.home → AllNamed vars k → AllNamed vars (clears to k)
    clears_named to t rest = named.cleared vars many to.is_word to.bytes (spot_of to) (spot_below vars to t) rest

    passes_named : (bytes : ℕ) (to from : Housed) {k : List WordInstr} → IsBelow vars to.home → IsBelow vars from.home → AllNamed vars k
        → AllNamed vars (passes bytes to from k)
    passes_named zero to from t f rest = rest
    passes_named (suc n) to from t f rest = moves_named to from t f rest

    starts_named : (bytes : ℕ) (to : Housed) {k : List WordInstr} → IsBelow vars to.home → AllNamed vars k → AllNamed vars (starts bytes to k)
    starts_named zero to t rest = rest
    starts_named (suc n) to t rest = clears_named to t rest

    parts_named : (to : Home) (hs : List Housed) {k : List WordInstr} → IsBelow vars to → AllBelow vars many hs → AllNamed vars k
        → AllNamed vars (lines.parts_code to hs k)
    parts_named to [] h e rest = rest
    parts_named to (v ∷ hs) h e rest =
        named.moved vars many v.is_word v.bytes (Lies to) (spot_of v) h (spot_below vars v e.0)
        (parts_named (shifted v.bytes to) hs (shifted_below vars v.bytes to h) e.1 rest)

    fields_named : (to : Home) (ty : ℕ) (fields : List ℕ) (hs : List Housed) {k : List WordInstr} → IsBelow vars to → AllBelow vars many hs → AllNamed vars k
        → AllNamed vars (lines.fields_code x to ty fields hs k)
    fields_named to ty [] hs h e rest = rest
    fields_named to ty (field ∷ fields) [] h e rest = rest
    fields_named to ty (field ∷ fields) (v ∷ hs) h e rest =
        let at : ℕ = part_at x.table ty field in
        named.moved vars many v.is_word v.bytes (Lies (shifted at to)) (spot_of v) (shifted_below vars at to h) (spot_below vars v e.0)
        (fields_named to ty fields hs h e.1 rest)

    -- ---- calls
    argument_named : (label : ℕ) (param : Home) (from : Housed) {k : List WordInstr} → IsBelow MOST_ARGUMENTS param → IsBelow vars from.home
        → AllNamed vars k → AllNamed vars (lines.argument_code x label param from k)
    argument_named label (Variable v) from p f rest = word_argument_named vars many v from.home p f rest
    argument_named label (Placed at) from p f rest =
        named.place vars many (first_is vars many) (named.handed vars many label from.bytes (spot_of from) (spot_below vars from f) rest)
    argument_named label (Static at) from p f rest = rest

    arguments_named : (label : ℕ) (params hs : List Housed) {k : List WordInstr} → Each (λ h. IsBelow MOST_ARGUMENTS h.home) params → AllBelow vars many hs
        → AllNamed vars k → AllNamed vars (lines.arguments_code x label params hs k)
    arguments_named label [] hs p e rest = rest
    arguments_named label (q ∷ ps) [] p e rest = rest
    arguments_named label (q ∷ ps) (h ∷ hs) p e rest = argument_named _ q.home h p.0 e.0 (arguments_named label ps hs p.1 e.1 rest)

    left_below : (room : ℕ) (home : Home) → IsBelow vars (lines.left_at room home)
    left_below room (Variable v) = tt
    left_below room (Placed at) = tt
    left_below room (Static at) = tt

    result_named : (to : Housed) (result : Option Housed) {k : List WordInstr} → IsBelow vars to.home → AllNamed vars k
        → AllNamed vars (lines.result_code x to result k)
    result_named to None t rest = rest
    result_named to (Some r) t rest =
        named.moved vars many r.is_word r.bytes (spot_of to) (Lies (lines.left_at x.own.free.byte r.home)) (spot_below vars to t)
        (left_below x.own.free.byte r.home) rest

    entered_named : (proc : ℕ) (to : Housed) (spot : Spot) {k : List WordInstr} → IsBelow vars to.home → IsSpotBelow vars spot → AllNamed vars k
        → AllNamed vars (lines.entered_code x proc to spot k)
    entered_named proc to (Held v) t s rest = named.call vars many s rest
    entered_named proc to (Lies home) t s rest =
        named.call vars many (first_is vars many) (result_named to (result_in (lines.layout_at x proc).all) t rest)
    entered_named proc to (Letter home) t s rest =
        named.call vars many (first_is vars many) (result_named to (result_in (lines.layout_at x proc).all) t rest)

    given_named : (proc to : ℕ) {k : List WordInstr} → AllNamed vars k → AllNamed vars (lines.given_code x proc to k)
    given_named proc t rest =
        let v : Housed = lines.value x t in entered_named proc v (spot_of v) (value_below t) (spot_below vars v (value_below t)) rest

    nothing_named : (ty : Option ℕ) (to : ℕ) {k : List WordInstr} → AllNamed vars k → AllNamed vars (lines.nothing_code x ty to k)
    nothing_named None to rest = rest
    nothing_named (Some ty) to rest = named.constant vars many (held_below to) rest

    checked_named : (start : Bool) {k : List WordInstr} → AllNamed vars k → AllNamed vars (lines.checked_code start k)
    checked_named true rest = named.constant vars many (first_is vars many) rest
    checked_named false rest =
        named.copy vars many (second_is vars many) (left_is vars many)
        (named.sum vars many (first_is vars many) (second_is vars many) (named.branch vars many (second_is vars many) (first_is vars many) rest))

    called_named : (runs : Bool) (label proc : ℕ) (ty : Option ℕ) (to : ℕ) (hs : List Housed) {k : List WordInstr} → AllBelow vars many hs → AllNamed vars k
        → AllNamed vars (lines.called_code x runs label proc ty to hs k)
    called_named true label proc ty to hs e rest =
        arguments_named label (params_in (lines.layout_at x proc).all) hs (params_each MOST_ARGUMENTS (lines.layout_at x proc).all (below.params proc)) e
        (checked_named x.setting.start (named.argument vars many (omega arith) (first_is vars many) (given_named proc to rest)))
    called_named false label proc ty to hs e rest = checked_named x.setting.start (nothing_named ty to rest)

    return_named : (start : Bool) (result : Option ℕ) {k : List WordInstr} → AllNamed vars k → AllNamed vars (lines.return_code x start result k)
    return_named true result rest = exit_named rest
    return_named false None rest = named.return vars many (left_is vars many) rest
    return_named false (Some p) rest =
        let h : Housed = lines.own_place x p in back_named h.is_word (spot_of h) (spot_below vars h (own_below p)) rest

    -- ---- what is written
    written_named : (def : Option TypeDef) (ty : ℕ) (from : Housed) {k : List WordInstr} → IsBelow vars from.home → AllNamed vars k
        → AllNamed vars (lines.written_code x def ty from k)
    written_named None ty from f rest = number_named _ (variable_is vars many from f) rest
    written_named (Some D.Int) ty from f rest = number_named _ (variable_is vars many from f) rest
    written_named (Some D.Bool) ty from f rest = bool_named _ (variable_is vars many from f) rest
    written_named (Some D.Char) ty from f rest = char_named _ (variable_is vars many from f) rest
    written_named (Some D.Text) ty from f rest = told_by_named (lines.literal_at x) from.alias from.home f rest
    written_named (Some (D.Enum name at members)) ty from f rest = name_named _ x.setting.names _ (variable_is vars many from f) rest
    written_named (Some (D.Seq i)) ty from f rest = rest
    written_named (Some (D.Param n)) ty from f rest = rest
    written_named (Some (D.Array n i)) ty from f rest = rest
    written_named (Some (D.Tuple names is)) ty from f rest = rest
    written_named (Some (D.Object name at is all own_hooks parts)) ty from f rest = rest
    written_named (Some (D.Distinct name at i)) ty from f rest = rest
    written_named (Some (D.Ref name i)) ty from f rest = rest
    written_named (Some (D.Exception name at parent)) ty from f rest = rest

    typed_named : (ty : Option ℕ) (from : Housed) {k : List WordInstr} → IsBelow vars from.home → AllNamed vars k
        → AllNamed vars (lines.typed_code x ty from k)
    typed_named None from f rest = rest
    typed_named (Some ty) from f rest = written_named (entry_at x.table ty) (base_at x.table ty) from f rest

    texts_named : (of : List (Option ℕ)) (hs : List Housed) {k : List WordInstr} → AllBelow vars many hs → AllNamed vars k
        → AllNamed vars (lines.texts_code x of hs k)
    texts_named [] hs e rest = rest
    texts_named (ty ∷ tys) [] e rest = rest
    texts_named (ty ∷ tys) (h ∷ hs) e rest = typed_named ty h e.0 (texts_named tys hs e.1 rest)

    -- ---- operations
    converted_named : (limit : Option ℕ) (to from : Housed) {k : List WordInstr} → IsBelow vars to.home → IsBelow vars from.home → AllNamed vars k
        → AllNamed vars (lines.converted_code limit to from k)
    converted_named None to from t f rest = moves_named to from t f rest
    converted_named (Some values) to from t f rest = narrow_named vars many _ _ values (variable_is vars many to t) (variable_is vars many from f) rest

    updated_named : (label : ℕ) (operator : Operator) (spot : Spot) (by : ℕ) {k : List WordInstr} → IsSpotBelow vars spot → by < vars
        → AllNamed vars k → AllNamed vars (lines.updated_code label operator spot by k)
    updated_named label operator (Held v) by s b rest = binary_named vars many label operator v v by s s b rest
    updated_named label operator (Lies home) by s b rest = put_back_named vars many label operator home by s b rest
    updated_named label operator (Letter home) by s b rest = put_back_named vars many label operator home by s b rest

    update_named : (label : ℕ) (operator : Operator) (hs : List Housed) {k : List WordInstr} → AllBelow vars many hs → AllNamed vars k
        → AllNamed vars (lines.update_code label operator hs k)
    update_named label operator [] e rest = rest
    update_named label operator (to ∷ []) e rest =
        named.constant vars many (fifth_is vars many)
        (updated_named label operator (spot_of to) FIFTH (spot_below vars to e.0) (fifth_is vars many) rest)
    update_named label operator (to ∷ by ∷ hs) e rest =
        updated_named label operator (spot_of to) (lines.variable_of by) (spot_below vars to e.0) (variable_is vars many by e.1.0) rest

    quit_named : (hs : List Housed) {k : List WordInstr} → AllBelow vars many hs → AllNamed vars k → AllNamed vars (lines.quit_code hs k)
    quit_named [] e rest = exit_named rest
    quit_named (status ∷ hs) e rest = named.exit vars many (variable_is vars many status e.0) rest

    swap_named : (letter : Bool) (left right : Home) (bytes : ℕ) {k : List WordInstr} → IsBelow vars left → IsBelow vars right → AllNamed vars k
        → AllNamed vars (lines.swap_code letter left right bytes k)
    swap_named true left right bytes l r rest = letter_swap_named vars many left right l r rest
    swap_named false left right bytes l r rest =
        word_argument_named vars many 0 left (omega arith) l (word_argument_named vars many 1 right (omega arith) r
        (named.constant vars many (third_is vars many) (named.argument vars many (omega arith) (third_is vars many)
        (named.call vars many (first_is vars many) rest))))

    -- what has a handle, or an array
    measure_named : (handle : Bool) (measure : Measure) (to : ℕ) (from : Housed) {k : List WordInstr} → to < vars → IsBelow vars from.home
        → AllNamed vars k → AllNamed vars (lines.measure_code x handle measure to from k)
    measure_named true measure to from t f rest = measured_named vars many measure to from.home t f rest
    measure_named false measure to from t f rest = named.constant vars many t rest

    item_at_named : (handle : Bool) (to from index : ℕ) {k : List WordInstr} → AllNamed vars k → AllNamed vars (lines.item_at x handle to from index k)
    item_at_named true to from index rest =
        owned_item_named vars many (lines.led x to) (lines.location x from).home (lines.held x index) (owned.each_bytes x.table (lines.entry_from x from))
        (led_below to) (location_below from) (held_below index) rest
    item_at_named false to from index rest =
        named.constant vars many (first_is vars many) (named.branch vars many (held_below index) (first_is vars many)
        (element_named (lines.led x to) (lines.location x from).home (lines.held x index) (lines.bytes_each x from) (led_below to) (location_below from)
        (held_below index) rest))

    element_at_named : (handle : Bool) (from index : ℕ) (to : Housed) {k : List WordInstr} → IsBelow vars to.home → AllNamed vars k
        → AllNamed vars (lines.element_at x handle from index to k)
    element_at_named true from index to t rest =
        owned_element_named vars many FIFTH (lines.location x from).home (lines.held x index) (owned.each_bytes x.table (lines.entry_from x from))
        (fifth_is vars many) (location_below from) (held_below index)
        (element_read_named vars many (owned.is_text (lines.entry_from x from)) to t rest)
    element_at_named false from index to t rest =
        element_named FIFTH (lines.location x from).home (lines.held x index) (lines.bytes_each x from) (fifth_is vars many) (location_below from)
        (held_below index)
        (named.moved vars many to.is_word to.bytes (spot_of to) (Lies (Variable FIFTH)) (spot_below vars to t) (fifth_is vars many) rest)

    row_named : (operation : Operation) (label : ℕ) (ty : Option ℕ) (of : List (Option ℕ)) (to : Housed) (hs : List Housed) {k : List WordInstr}
        → IsBelow vars to.home → AllBelow vars many hs → AllNamed vars k → AllNamed vars (lines.row_code x operation label ty of to hs k)
    row_named operation label ty of to hs {k} t e rest = by operation
      where
        a : IsBelow vars (lines.operand_at hs 0).home
        a = at_below vars many hs 0 e

        b : IsBelow vars (lines.operand_at hs 1).home
        b = at_below vars many hs 1 e

        is_to : lines.variable_of to < vars
        is_to = variable_is vars many to t

        is_left : lines.variable_of (lines.operand_at hs 0) < vars
        is_left = variable_is vars many (lines.operand_at hs 0) a

        is_right : lines.variable_of (lines.operand_at hs 1) < vars
        is_right = variable_is vars many (lines.operand_at hs 1) b

        by : (o : Operation) → AllNamed vars (lines.row_code x o label ty of to hs k)
        by O.Default = starts_named to.bytes to t rest
        by (O.Unary operator) = unary_named vars many operator (lines.variable_of to) (lines.variable_of (lines.operand_at hs 0)) is_to is_left rest
        by (O.Binary operator) = binary_named vars many label operator (lines.variable_of to) (lines.variable_of (lines.operand_at hs 0))
            (lines.variable_of (lines.operand_at hs 1)) is_to is_left is_right rest
        by (O.Compare c) =
            enough_named vars many 2 hs (lines.compared_code x text c (lines.variable_of to) of hs k) (compares text) rest
          where
            text : Bool
            text = owned.is_text (owned.entry_of x.table (owned.type_of of 0))

            compares : (b : Bool) → AllNamed vars (lines.compared_code x b c (lines.variable_of to) of hs k)
            compares true = compared_named vars many x c (lines.variable_of to) of hs is_to e rest
            compares false = compare_named vars many c (lines.variable_of to) (lines.variable_of (lines.operand_at hs 0))
                (lines.variable_of (lines.operand_at hs 1)) is_to is_left is_right rest
        by O.Convert = converted_named (limit_at x.table ty) to (lines.operand_at hs 0) t a rest
        by O.Join = enough_named vars many 2 hs _ (joined_named vars many x to.home of hs t e rest) rest
        by O.Show =
            enough_named vars many 1 hs _ (shown_named vars many x (owned.entry_of x.table (owned.type_of of 0)) to.home (owned.type_of of 0)
            (lines.operand_at hs 0) t a rest) rest
        by O.Make = parts_named to.home hs t e rest
        by O.Sequence = sequence_named vars many to.home (owned.size_in x to) hs t e rest
        by O.NewSequence = new_named vars many to.home (lines.variable_of (lines.operand_at hs 0)) (owned.size_in x to) t is_left rest
        by (O.Measure measure) =
            measure_named (owned.has_handle (entry_at x.table (lines.operand_at hs 0).ty)) measure (lines.variable_of to) (lines.operand_at hs 0) is_to a rest
        by O.IsNil = rest
        by O.Echo = texts_named of hs e (text_named LINE_END_AT 1 rest)
        by O.Quit = quit_named hs e rest
        by O.ReadLine = rest
        by O.ReadLineInto = read_named vars many (lines.variable_of to) (lines.operand_at hs 0).home is_to a rest
        by O.Assign = moves_named (lines.operand_at hs 0) (lines.operand_at hs 1) a b rest
        by (O.Update operator) = update_named label operator hs e rest
        by O.Add = added_named vars many (lines.operand_at hs 0).home (owned.size_in x (lines.operand_at hs 0)) (lines.operand_at hs 1) a b rest
        by O.Append =
            enough_named vars many 2 hs _ (appended_named vars many x (owned.is_char (owned.entry_of x.table (owned.type_of of 1))) label
            (lines.operand_at hs 0).home (owned.type_of of 1) (lines.operand_at hs 1) a b rest) rest
        by O.SetLength =
            enough_named vars many 2 hs _ (sized_named vars many x (owned.is_text (entry_at x.table (lines.operand_at hs 0).ty)) label
            (lines.operand_at hs 0).ty (lines.operand_at hs 0).home (lines.variable_of (lines.operand_at hs 1)) a is_right rest) rest
        by O.Pop = enough_named vars many 1 hs _
            (popped_named vars many to (lines.operand_at hs 0).home (owned.size_in x (lines.operand_at hs 0)) t a rest) rest
        by O.Move = moves_named to (lines.operand_at hs 0) t a (clears_named (lines.operand_at hs 0) a rest)
        by O.Swap =
            swap_named (lines.operand_at hs 0).is_letter (lines.operand_at hs 0).home (lines.operand_at hs 1).home (lines.operand_at hs 0).bytes a b rest
        by O.Discard = rest
        by O.Destroy = rest
        by O.Blank = rest

    -- ---- lines
    line_named : (line : Line) (label : ℕ) {k : List WordInstr} → AllNamed vars k → AllNamed vars (lines.line_code x line label k)
    line_named (L.Apply to O.Assign how ty of from) label k =
        assigned_named vars many x (gives_hooked x.table (owned.type_of of 0))
        (lines.row_code x O.Assign label ty of (lines.value x to) (lines.operands x from)) (owned.type_of of 0) from
        (at_below vars many (lines.operands x from) 0 (operands_below from)) (at_below vars many (lines.operands x from) 1 (operands_below from))
        (row_named O.Assign label ty of (lines.value x to) (lines.operands x from) (value_below to) (operands_below from) k) k
    line_named (L.Apply to operation how ty of from) label k =
        row_named operation label ty of (lines.value x to) (lines.operands x from) (value_below to) (operands_below from) k
    line_named (L.Construct to how ty fields from) label k =
        clears_named (lines.value x to) (value_below to)
        (fields_named (lines.value x to).home ty fields (lines.operands x from) (value_below to) (operands_below from) k)
    line_named (L.Constant to how ty pieces) label k =
        constant_named x (is_read how.how) (is_hooked x.table ty) (text_in pieces) ty (lines.value x to) pieces (value_below to) k
    line_named (L.Call to how ty proc from) label k =
        named.spend vars many (called_named (lines.layout_at x proc).runs label proc ty to (lines.operands x from) (operands_below from) k)
    line_named (L.Get to from how ty) label k =
        got_named vars many x (gives_hooked x.table ty && lines.is_copied how.how) (lines.is_seen_blank x ty) ty (lines.value x to) (lines.location x
        from) (value_below to)
        (location_below from) k
    line_named (L.Look to from) label k = moves_named (lines.value x to) (lines.location x from) (value_below to) (location_below from) k
    line_named (L.Root to p global) label k =
        root_named vars many (lines.own_alias x to) (lines.led x to) (lines.place x p global).home (led_below to) (place_below p global) k
    line_named (L.Fresh to from waits) label k = k
    line_named (L.Standing to ty pieces) label k = named.datum vars many (led_below to) k
    line_named (L.Part to from field) label k = part_named _ _ _ (led_below to) (location_below from) k
    line_named (L.Item to from index) label k = item_at_named (owned.has_handle (lines.entry_from x from)) to from index k
    line_named (L.Object to from) label k = k
    line_named (L.Pass to from how ty) label k = passes_named _ (lines.value x to) (lines.value x from) (value_below to) (value_below from) k
    line_named (L.Truth to holds) label k = named.constant vars many (held_below to) k
    line_named (L.Fill p from) label k = moves_named (lines.own_place x p) (lines.value x from) (own_below p) (value_below from) k
    line_named (L.Blank p ty) label k = clears_named (lines.own_place x p) (own_below p) k
    line_named (L.Give p from) label k = moves_named (lines.own_place x p) (lines.value x from) (own_below p) (value_below from) k
    line_named (L.Zero to) label k = named.constant vars many (held_below to) k
    line_named (L.Length to from) label k =
        measure_named (owned.has_handle (lines.entry_from x from)) Len (lines.held x to) (lines.location x from) (held_below to) (location_below from) k
    line_named (L.Still from len) label k =
        measure_named (owned.has_handle (lines.entry_from x from)) Len FIRST (lines.location x from) (first_is vars many) (location_below from)
        (named.branch vars many (held_below len) (first_is vars many) k)
    line_named (L.Element to from index) label k =
        element_at_named (owned.has_handle (lines.entry_from x from)) from index (lines.value x to) (value_below to) k
    line_named (L.Beyond counter last inclusive to) label k = beyond_named vars many inclusive _ _ _ (held_below counter) (held_below last) k
    line_named (L.Next counter last) label k = named.sum vars many (held_below counter) (held_below counter) k
    line_named (L.Label name) label k = named.label vars many k
    line_named (L.Jump to) label k = named.jump vars many k
    line_named (L.Unless from to) label k = unless_named vars many _ (lines.own_label to) (held_below from) k
    line_named (L.Fits from (C.Ordinals low high) to) label k = fits_named vars many _ (lines.own_label to) low high (held_below from) k
    line_named (L.Fits from (C.Text text) to) label k = text_fits_named vars many x text (lines.value x from) (lines.own_label to) (value_below from) k
    line_named (L.Own what from) label k =
        owning_named vars many x below.waiting value_below (λ p. place_below p false)
        (λ p. variable_is vars many (lines.place x p false) (place_below p false)) location_below what from
        (at_below vars many (lines.operands x from) 0 (operands_below from)) label k
    line_named L.Enter label k = named.spend vars many k
    line_named (L.Turn to) label k = named.spend vars many (named.jump vars many k)
    line_named (L.TurnIf from to) label k = turn_if_named vars many _ (lines.own_label to) (held_below from) k
    line_named (L.CountTurn counter last inclusive to) label k =
        turn_named vars many label _ _ inclusive _ (held_below counter) (held_below last) k
    line_named (L.Return result) label k = return_named x.setting.start result k

    pub lines_named : (all : List Line) {k : List WordInstr} → AllNamed vars k → AllNamed vars (lines.lines_code x all k)
    lines_named [] rest = rest
    lines_named (line ∷ all) rest =
        line_named line (lines.label_before all) (past_named vars many x below.waiting value_below line (lines_named all rest))
