-- What waits: the value of a temporary whose type has hooks may wait at a node of its own, and lines name the nodes of such.
use Rattle.std.specs.Prelude.{◌≡◌, ℕ, nat_eq, Bool, true, false, not, ◌&&◌, ◌||◌, if◌then◌else◌, List, [], ◌∷◌, Option, Some, None}
use Rattle.nim_types.specs.Types.{Ty, same}
use Rattle.nim_types.specs.Table.{type_at}
use Rattle.nim_program.specs.declared.operation.Use.{Use}
use Rattle.nim_program.specs.View.{if_type}
use Rattle.nim_meaning.specs.Here.{gives_hooked}
use Rattle.nim_meaning.specs.Shapes.{is_held, waits}
use Rattle.nim_meaning.specs.Waiting.{reads_kept}
use Rattle.flat_code.specs.declared.code.CodeProc.{CodeProc}
use Rattle.flat_code.specs.declared.line.From.{From}
use Rattle.flat_code.specs.declared.line.From.TheVariants as F
use Rattle.flat_code.specs.declared.line.UseAt.{UseAt}
use Rattle.flat_code.specs.declared.line.Owning.{Owning}
use Rattle.flat_code.specs.declared.line.Owning.TheVariants as W
use Rattle.flat_code.specs.declared.line.Line.{Line}
use Rattle.flat_code.specs.declared.line.Line.TheVariants as L
use Rattle.flat_code.specs.declared.line.Piece.{Piece}
use Rattle.flat_code.specs.declared.line.Piece.TheVariants as P
use Rattle.flat_code.specs.declared.place.FlatPlace.{FlatPlace}
use Rattle.flat_code.specs.Fits.{is_value, place_named, place_type}
use Rattle.flat_code.specs.BuiltCode.{is_temporary}
use Rattle.flat_code.specs.Scene.{Known}

-- ---- places by the nodes at which their values wait

abbrev pub is_node : ℕ → Option ℕ → Bool
is_node node None = false
is_node node (Some other) = nat_eq other node

-- the value of one of these, of which this holds, waits at a node
abbrev pub any_waits : (holds : FlatPlace → Bool) → (node : ℕ) → List FlatPlace → Bool
any_waits holds node [] = false
any_waits holds node (p ∷ places) = (is_node node p.waits && holds p) || any_waits holds node places

-- the first of these whose value waits at a node
abbrev pub waiter : (node : ℕ) → List FlatPlace → Option FlatPlace
waiter node [] = None
waiter node (p ∷ places) = if is_node node p.waits then Some p else waiter node places

abbrev pub if_waits : ℕ → Option FlatPlace → Bool
if_waits node None = false
if_waits node (Some p) = is_node node p.waits

-- what waits has hooks, and at its node nothing else among these waits
abbrev pub waits_alone : (waits : Option ℕ) → FlatPlace → List FlatPlace → Bool
waits_alone None p places = true
waits_alone (Some node) p places = (is_temporary p.kind && p.hooked) && not (any_waits (λ q. true) node places)

abbrev pub wait_once : List FlatPlace → Bool
wait_once [] = true
wait_once (p ∷ places) = waits_alone p.waits p places && wait_once places

-- ---- lines

-- nobody owns the text of a literal that is only read
abbrev pub constant_waits : List Piece → Use → Bool
constant_waits (P.Text text ∷ []) how = is_held how
constant_waits pieces how = waits how

module _ (known : Known) (places : List FlatPlace) where
  -- a value waits at a node, it is one of a type, and it is in a temporary
  abbrev pub waiting : (node : ℕ) → Bool
  waiting node = any_waits (λ p. true) node places

  abbrev pub waiting_as : (node : ℕ) → Ty → Bool
  waiting_as node ty = any_waits (λ p. same (place_type known p) ty) node places

  abbrev pub waits_in : (temporary node : ℕ) → Bool
  waits_in t node = if_waits node (place_named is_value places t)

  -- a value with hooks that waits as it is used does so at the node of its use
  abbrev pub used_at : (waits : Bool) → (to : ℕ) → UseAt → (ty : Option ℕ) → Bool
  used_at waits to how ty = not (gives_hooked known.facts (if_type known.types ty) && waits) || waits_in to how.node

  abbrev pub led_at : (from : ℕ) → (waits : Option ℕ) → Bool
  led_at from None = true
  led_at from (Some node) = waits_in from node

  abbrev pub owning_waits : Owning → List From → Bool
  owning_waits (W.TakenUp node) from = waiting node
  owning_waits (W.Waits node) (F.Value t ∷ []) = waits_in t node
  owning_waits (W.TemporaryEnds node ty) from = waiting_as node (type_at known.types ty)
  owning_waits what from = true

  -- what a line gives, takes or ends waits where the line says
  abbrev pub waits_right : Line → Bool
  waits_right (L.Apply to operation how ty of from) = used_at (waits how.how) to how ty
  waits_right (L.Construct to how ty fields from) = used_at (waits how.how) to how (Some ty)
  waits_right (L.Constant to how ty pieces) = used_at (constant_waits pieces how.how) to how (Some ty)
  waits_right (L.Get to from how ty) = used_at (reads_kept how.how) to how ty
  waits_right (L.Pass to from how ty) = used_at (waits how.how) to how ty
  waits_right (L.Fresh to from waits) = led_at from waits
  waits_right (L.Own what from) = owning_waits what from
  waits_right line = true

-- ---- procedures

-- where these are what lines are in flat code
module _ {L : Type 0} (plain : L → Line) (known : Known) where
  abbrev pub all_wait_right : (places : List FlatPlace) → List L → Bool
  all_wait_right places [] = true
  all_wait_right places (line ∷ lines) = waits_right known places (plain line) && all_wait_right places lines

  abbrev pub AllWaitRight : List (CodeProc L) → Type 0
  AllWaitRight [] = Unit {0}
  AllWaitRight (p ∷ procs) = (all_wait_right p.places p.lines ≡ true) × AllWaitRight procs

-- of the places of each procedure
abbrev pub AllWaitOnce : List (List FlatPlace) → Type 0
AllWaitOnce [] = Unit {0}
AllWaitOnce (places ∷ all) = (wait_once places ≡ true) × AllWaitOnce all
