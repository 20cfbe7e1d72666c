-- What each line of flat, owned and block code does by itself: deeds of the meaning, on what temporaries hold.
use Rattle.std.specs.Prelude.{ℕ, suc, ℤ, pos, ◌+ℤ◌, int_lt, unsigned_abs, Bool, true, false, not}
use Rattle.std.specs.Prelude.{List, [], ◌∷◌, Option, Some, None, map, option_map}
use Rattle.std.specs.Ordering.{int_eq}
use Rattle.nim_types.specs.Table.{type_at}
use Rattle.nim_plan.specs.declared.plan.Plan.{Plan}
use Rattle.nim_program.specs.Traps.{LengthChanged}
use Rattle.nim_program.specs.Ints.{truth, is_true, inside}
use Rattle.nim_program.specs.Program.{Label, Ordinals, Exactly, Doing, Building}
use Rattle.nim_program.specs.View.{if_type, label_of}
use Rattle.nim_meaning.specs.Values.{Value, Number, Fixed, nothing, number_of, length_of, bytes, is_full, default_of, Standing, Waiting, Made, Location}
use Rattle.nim_meaning.specs.Values.{at_base, Holds}
use Rattle.nim_meaning.specs.Values.{Stands, Operand, Given, At, operand, value, location, slots_for}
use Rattle.nim_meaning.specs.State.{World, slot_at, load, text_of, is_whole}
use Rattle.nim_meaning.specs.Acts.{branch}
use Rattle.nim_meaning.specs.Deeds.{Deed, Opens, Waits, Leaves, perform, give, ◌>>=◌, ◌>>◌, costs, sees, does as changes, stop}
use Rattle.nim_meaning.specs.Deeds as deeds
use Rattle.nim_types.specs.Forms.{Form, form_of}
use Rattle.nim_meaning.specs.Here.{gives_hooked, any_hooked}
use Rattle.nim_meaning.specs.Lifted.{temporary_ends, assigned}
use Rattle.flat_code.specs.Pieces.{value_of, pieces_bytes}
use Rattle.nim_meaning.specs.Table.{constant_row}
use Rattle.nim_meaning.specs.Places.{Destination, made_by, place_at, rooted, made, to_part, to_item, to_object, length_at, fetched, fetched_item, put}
use Rattle.nim_meaning.specs.Steps.{row, got_by, handed_by, fits_label, label_work}
use Rattle.nim_meaning.specs.Meaning.{limit, place_ends, place_copies}
use Rattle.nim_meaning.specs.Aims.{handed_bytes}
use Rattle.flat_code.specs.declared.line.From.{From}
use Rattle.flat_code.specs.declared.line.From.TheVariants as F
use Rattle.flat_code.specs.declared.line.UseAt.{UseAt}
use Rattle.flat_code.specs.declared.line.Owning.{Owning}
use Rattle.flat_code.specs.declared.line.Owning.TheVariants as W
use Rattle.flat_code.specs.declared.line.Line.{Line}
use Rattle.flat_code.specs.declared.line.Line.TheVariants as L
use Rattle.nim_program.specs.declared.operation.Operation.{Operation}
use Rattle.nim_program.specs.declared.operation.Operation.TheVariants as O
use Rattle.flat_code.specs.Scene.{Where, Located, Within, Temps, without, with_value, with_place, location_at, led}
use Rattle.flat_code.specs.Scene.{Scene, Did, Passes, Leaps, Enters, Turns, Calls, Returns, Fails}
use Rattle.flat_code.specs.Scene.{Known}

-- ---- temporaries

-- what a temporary got; it is a fault where it got nothing
abbrev pub using : {A : Type 0} → Option A → (A → Did) → Did
using None go = Fails
using (Some x) go = go x

abbrev pub fetch : Temps → From → Option Operand
fetch temps (F.Value t) = option_map Given (temps.values t)
fetch temps (F.Place t) = option_map (λ place. At (location_at temps place)) (temps.places t)

-- the operands of a line
abbrev pub using_all : Temps → List From → (List Operand → Did) → Did
using_all temps [] go = go []
using_all temps (from ∷ rest) go = using (fetch temps from) (λ x. using_all temps rest (λ xs. go (x ∷ xs)))

-- the number in a temporary, and where one leads
abbrev pub using_number : Temps → ℕ → (ℤ → Did) → Did
using_number temps t go = using (temps.values t) (λ v. go (number_of v))

abbrev pub using_place : Temps → ℕ → (Where → Location → Did) → Did
using_place temps t go = using (temps.places t) (λ place. go place (location_at temps place))

-- ---- what a line does with the answer of a deed

module _ (x : Scene) where
  -- a temporary gets the value
  abbrev pub gives : (to : ℕ) → Deed Value → Did
  gives to deed = Passes (perform (deed >>= (λ v. give (with_value to x.temps v))) x.world)

  -- a temporary gets where a path leads, that goes on from another one
  abbrev pub leads : (to : ℕ) → Where → Deed Location → Did
  leads to from deed = Passes (perform (deed >>= (λ location. give (with_place to x.temps (led from location)))) x.world)

  -- only the world changes
  abbrev pub acts : {A : Type 0} → Deed A → Did
  acts deed = Passes (perform (deed >> give x.temps) x.world)

-- ---- places

-- globals are places of the start code
abbrev pub level_at : (global : Bool) → (level : ℕ) → ℕ
level_at true level = 0
level_at false level = level

abbrev pub is_there : {A : Type 0} → Option A → Bool
is_there None = false
is_there (Some x) = true

-- it is a fault where a place got no value
abbrev pub if_open : World → (level place : ℕ) → Did → Did
if_open world level place did = branch (is_there (slot_at world level place)) did Fails

-- a declared place is filled
abbrev pub fills : (level place : ℕ) → Value → Deed Value
fills level place v = costs (bytes v) (changes (Opens level place (Holds v)) >> give nothing)

-- ---- loops

abbrev pub still : Location → ℤ → Deed Value
still location n = sees location (λ world v. deeds.branch (int_eq (pos (length_of v)) n) (give nothing) (stop LengthChanged))

-- the value of an element, which has to be there
abbrev pub element_at : Location → ℤ → Deed Value
element_at location z = fetched_item location (unsigned_abs z)

-- after so much work, control goes on at a label where something holds
abbrev pub leaps_where : Scene → (work : ℕ) → Bool → (label : ℕ) → Did
leaps_where x work holds label = branch holds (Leaps label work) (acts x (costs work (give nothing)))

-- a turn begins where something holds
abbrev pub turns_where : Scene → Bool → Temps → (label : ℕ) → Did
turns_where x holds temps label = branch holds (Turns temps label) (acts x (costs 1 (give nothing)))

-- what a call hands to its caller: the value of the place of its result, all of it
abbrev pub hands : Scene → (result : Option ℕ) → Did
hands x None = Returns nothing 1
hands x (Some place) =
    let v = load x.world (place_at x.level place) in if_open x.world x.level place (branch (is_full v) (Returns v (suc (bytes v))) Fails)

-- what the value of a line is for, and where it waits
abbrev pub destination : Scene → UseAt → Destination
destination x how = record { how = how.how; level = x.level; node = how.node }

-- where a value stands that no place holds: at the node where it waits, or by itself
abbrev pub fresh_at : (waits : Option ℕ) → (level : ℕ) → Value → Deed Location
fresh_at None level v = made v
fresh_at (Some node) level v = give (at_base (Waiting level node))

-- what a label of a `case` is compared with: a number, or the text that a value is now
abbrev pub compared_by : Label → World → Value → Value
compared_by (Ordinals low high) world v = v
compared_by (Exactly text) world v = Fixed (text_of world v)

-- what a text has is looked at, and has to be there
abbrev pub if_whole : Label → World → Value → Did → Did
if_whole (Ordinals low high) world v did = did
if_whole (Exactly text) world v did = branch (is_whole world v) did Fails

-- ---- what is done with a value that somebody owns

abbrev pub form_in : Known → (ty : ℕ) → Form
form_in known ty = form_of known.facts (type_at known.types ty)

abbrev pub owns : Known → Owning → (level : ℕ) → List Operand → Deed (Unit {0})
owns known (W.TakenUp node) level xs = changes (Leaves level node)
owns known (W.Waits node) level xs = costs (bytes (value xs 0)) (changes (Waits level node (Holds (value xs 0))))
owns known (W.TemporaryEnds node ty) level xs = temporary_ends (form_in known ty) level node
owns known (W.PlaceEnds place ty) level xs = place_ends (form_in known ty) level place
owns known (W.PlaceCopies place ty) level xs = place_copies (form_in known ty) level place (location xs 0)
owns known (W.PlaceStands place) level xs = changes (Opens level place (Stands (location xs 0)))
owns known (W.ResultGets place ty) level xs = assigned (form_in known ty) (place_at level place) (operand xs 0)

-- it is a fault where a place that ends, or gets something in place of what it holds, was never filled
abbrev pub if_filled : Owning → Scene → Did → Did
if_filled (W.PlaceEnds place ty) x did = if_open x.world x.level place did
if_filled (W.ResultGets place ty) x did = if_open x.world x.level place did
if_filled what x did = did

-- ---- what is handed over

-- A value with hooks that trades places with what a place held is in its temporary no more.
abbrev pub handed_over : List From → Temps → Temps
handed_over [] temps = temps
handed_over (F.Value t ∷ from) temps = handed_over from (record temps { values = without temps.values t })
handed_over (F.Place t ∷ from) temps = handed_over from temps

abbrev pub without_all : List From → Scene → Scene
without_all from x = record x { temps = handed_over from x.temps }

abbrev pub traded : (hooked : Bool) → Operation → List From → List From
traded true O.Assign (place ∷ from) = from
traded hooked operation from = []

abbrev pub traded_by : Owning → List From → List From
traded_by (W.ResultGets place ty) from = from
traded_by what from = []

-- ---- lines

abbrev pub does : Known → Plan → Scene → Line → Did
does known plan x (L.Apply to operation how ty of from) =
    using_all x.temps from (λ xs. gives (without_all (traded (any_hooked known.facts (map (if_type known.types) of)) operation from) x) to
    (row known.facts (Doing operation) (destination x how) (if_type known.types ty) (map (if_type known.types) of) xs))
does known plan x (L.Construct to how ty fields from) =
    using_all x.temps from (λ xs. gives x to (row known.facts (Building fields) (destination x how) (Some (type_at known.types ty)) [] xs))
does known plan x (L.Constant to how ty pieces) =
    gives x to (constant_row known.facts (Some (type_at known.types ty)) (pieces_bytes pieces) (value_of pieces)
    >>= made_by (gives_hooked known.facts (Some (type_at known.types ty))) (destination x how))
does known plan x (L.Call to how ty proc from) = using_all x.temps from (λ xs. Calls to proc (slots_for xs) (suc (handed_bytes xs)))
does known plan x (L.Get to from how ty) =
    using_place x.temps from (λ place location. gives x to (got_by known.facts plan (destination x how) how.node (if_type known.types ty) location))
does known plan x (L.Look to from) = using_place x.temps from (λ place location. gives x to (fetched location))
does known plan x (L.Root to place global) =
    if_open x.world (level_at global x.level) place
    (leads x to (Located (place_at 0 0)) (rooted (Standing (level_at global x.level) place)))
does known plan x (L.Fresh to from waits) = using (x.temps.values from) (λ v. leads x to (Within from []) (fresh_at waits x.level v))
does known plan x (L.Standing to ty pieces) = leads x to (Located (place_at 0 0)) (rooted (Made (value_of pieces)))
does known plan x (L.Part to from field) = using_place x.temps from (λ place location. leads x to place (to_part location field))
does known plan x (L.Item to from index) =
    using_place x.temps from (λ place location. using_number x.temps index (λ z. leads x to place (to_item location z)))
does known plan x (L.Object to from) = using_place x.temps from (λ place location. leads x to (Located location) (to_object location))
does known plan x (L.Pass to from how ty) =
    using (x.temps.values from) (λ v. gives x to (costs 1 (handed_by known.facts (destination x how) (if_type known.types ty) v)))
does known plan x (L.Truth to value) = gives x to (costs 1 (give (Number (truth value))))
does known plan x (L.Fill place from) = using (x.temps.values from) (λ v. acts x (costs 1 (fills x.level place v)))
does known plan x (L.Blank place ty) = acts x (costs 1 (fills x.level place (default_of known.facts (type_at known.types ty))))
does known plan x (L.Give place from) = using (x.temps.values from) (λ v. acts x (costs 1 (put (place_at x.level place) v)))
does known plan x (L.Own what from) = using_all x.temps from
    (λ xs. if_filled what x (acts (without_all (traded_by what from) x) (costs 1 (owns known what x.level xs))))
does known plan x (L.Zero to) = gives x to (costs 1 (give (Number (pos 0))))
does known plan x (L.Length to from) =
    using_place x.temps from (λ place location. gives x to (costs 1 (length_at location >>= (λ n. give (Number (pos n))))))
does known plan x (L.Still from len) =
    using_place x.temps from (λ place location. using_number x.temps len (λ n. acts x (costs 1 (still location n))))
does known plan x (L.Element to from index) =
    using_place x.temps from (λ place location. using_number x.temps index (λ z.
    branch (inside z (length_of (load x.world location))) (gives x to (costs 1 (element_at location z))) Fails))
does known plan x (L.Beyond counter last inclusive to) =
    using_number x.temps counter (λ i. using_number x.temps last (λ n.
    branch (int_lt i (limit inclusive n)) (gives x counter (costs 1 (give (Number i)))) (Leaps to 1)))
does known plan x (L.Next counter last) =
    using_number x.temps counter (λ i. using_number x.temps last (λ n.
    branch (int_lt i n) (gives x counter (costs 1 (give (Number (i +ℤ pos 1))))) Fails))
does known plan x (L.Label name) = acts x (costs 1 (give nothing))
does known plan x (L.Jump to) = Leaps to 1
does known plan x (L.Unless from to) = using_number x.temps from (λ z. leaps_where x 1 (not (is_true z)) to)
does known plan x (L.Fits from these to) =
    using (x.temps.values from) (λ v. if_whole (label_of these) x.world v
    (leaps_where x (label_work (label_of these)) (fits_label (label_of these) (compared_by (label_of these) x.world v)) to))
does known plan x L.Enter = Enters
does known plan x (L.Turn to) = Turns x.temps to
does known plan x (L.TurnIf from to) = using_number x.temps from (λ z. turns_where x (is_true z) x.temps to)
does known plan x (L.CountTurn counter last inclusive to) =
    using_number x.temps counter (λ i. using_number x.temps last (λ n.
    turns_where x (int_lt (i +ℤ pos 1) (limit inclusive n)) (with_value counter x.temps (Number (i +ℤ pos 1))) to))
does known plan x (L.Return result) = hands x result
