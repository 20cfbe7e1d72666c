-- The word code of what waits at nodes. While a value waits, a variable has the address where it stands, and else 0. No public contract speaks of it.
use Rattle.std.specs.Prelude.{ℕ, nat_eq, Bool, true, false, ◌&&◌, if◌then◌else◌, List, [], ◌∷◌, Option, Some, None}
use Rattle.nim_types.specs.declared.types.TypeDef.{TypeDef}
use Rattle.nim_meaning.specs.Shapes.{waits}
use Rattle.nim_meaning.specs.Waiting.{reads_kept}
use Rattle.flat_code.specs.declared.line.Line.{Line}
use Rattle.flat_code.specs.declared.line.Line.TheVariants as L
use Rattle.flat_code.specs.declared.place.PlaceKind.TheVariants as K
use Rattle.flat_code.specs.Waits.{constant_waits}
use Rattle.word_code.specs.declared.word.WordInstr.{WordInstr}
use Rattle.word_code.specs.declared.word.WordInstr.TheVariants.{Constant, Place}
use Rattle.word_lowering.specs.declared.homes.Alias.TheVariants.{Own}
use Rattle.word_lowering.specs.declared.homes.Home.TheVariants.{Placed}
use Rattle.word_lowering.specs.declared.homes.Housed.{Housed}
use Rattle.word_lowering.specs.declared.homes.Waiter.{Waiter}
use Rattle.word_lowering.specs.Lookups.{nowhere}
use Rattle.word_lowering.specs.Spots.{moves}
use Rattle.word_lowering.specs.Stored.{is_hooked}

-- where what waits at a node stands
abbrev pub waiter_at : (node : ℕ) → List Waiter → Option Waiter
waiter_at node [] = None
waiter_at node (w ∷ ws) = if nat_eq w.node node then Some w else waiter_at node ws

-- as a home
abbrev pub waiting_house : Waiter → Housed
waiting_house w = record {
  number = w.node;
  kind = K.Temp;
  ty = w.ty;
  bytes = w.bytes;
  is_word = false;
  is_letter = false;
  alias = Own;
  home = Placed w.at;
  waits = None;
  lent = false;
}

-- or nowhere
abbrev pub waiter_house : Option Waiter → Housed
waiter_house None = nowhere
waiter_house (Some w) = waiting_house w

-- a value comes there
abbrev pub waits_code : Option Waiter → Housed → List WordInstr → List WordInstr
waits_code None from k = k
waits_code (Some w) from k = moves (waiting_house w) from (Place w.variable w.at ∷ k)

-- nothing waits there any more
abbrev pub leaves_code : Option Waiter → List WordInstr → List WordInstr
leaves_code None k = k
leaves_code (Some w) k = Constant w.variable 0 ∷ k

-- nothing waits yet
abbrev pub none_code : List Waiter → List WordInstr → List WordInstr
none_code [] k = k
none_code (w ∷ ws) k = Constant w.variable 0 ∷ none_code ws k

-- ---- behind a line that gives a value

abbrev pub gives_hooked : List TypeDef → Option ℕ → Bool
gives_hooked table None = false
gives_hooked table (Some ty) = is_hooked table ty

module _ (table : List TypeDef) (ws : List Waiter) (value : ℕ → Housed) where
  abbrev pub kept_if : (waits : Bool) → (node to : ℕ) → List WordInstr → List WordInstr
  kept_if true node to k = waits_code (waiter_at node ws) (value to) k
  kept_if false node to k = k

  -- a value with hooks that waits as it is used
  abbrev pub kept_code : Line → List WordInstr → List WordInstr
  kept_code (L.Apply to operation how ty of from) k = kept_if (gives_hooked table ty && waits how.how) how.node to k
  kept_code (L.Construct to how ty fields from) k = kept_if (is_hooked table ty && waits how.how) how.node to k
  kept_code (L.Constant to how ty pieces) k = kept_if (is_hooked table ty && constant_waits pieces how.how) how.node to k
  kept_code (L.Get to from how ty) k = kept_if (gives_hooked table ty && reads_kept how.how) how.node to k
  kept_code (L.Pass to from how ty) k = kept_if (gives_hooked table ty && waits how.how) how.node to k
  kept_code line k = k
