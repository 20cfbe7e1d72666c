-- What is known where a part of a body begins: which places are open, that of the result among them, and that the call's frame is there and has room for
-- its places.
use Rattle.std.proofs.Common.{◌≡◌, ℕ, suc, ◌≤◌, Bool, true, false, length, Some, ◌∙◌, arith}
use Rattle.nim_program.specs.Program.{Declared}
use Rattle.nim_meaning.specs.State.{World, slot_at}
use Rattle.flat_code.specs.Lines.{level_at, is_there}
use Rattle.flattening.specs.Formed.{Scope, Ground, taken_by}
use Rattle.flattening.proofs.Worlds.{Since, still_holds, still_there, slot_for}
use Rattle.flattening.proofs.Spots.{Spot}

-- what is asked of the tree of a body, whose call is at a spot
abbrev pub grounded : Spot → (top : Bool) → (room : ℕ → Type 0) → (names : (proc place : ℕ) → Type 0) → Ground
grounded c top room names = record {
  facts = c.fixed.program.facts;
  types = c.fixed.program.types;
  top = top;
  room = room;
  takes = taken_by c.fixed.program.procs;
  names = names;
}

pub record Stands (c : Spot) (room : ℕ → Type 0) (Open : Scope) (world : World) : Type 0 where
  pub framed : length world.frames ≡ suc c.level
  pub open_is : (global : Bool) (place : ℕ) → Open global place → is_there (slot_at world (level_at global c.level) place) ≡ true
  pub room_is : (place : ℕ) → room place → is_there (slot_for world c.level place) ≡ true
  pub result_is : (place : Declared) → c.result ≡ Some place → is_there (slot_at world c.level place.number) ≡ true

level_below : (global : Bool) (level : ℕ) → level_at global level ≤ level
level_below true level = omega arith
level_below false level = omega arith

pub stands_since : {c : Spot} {room : ℕ → Type 0} {Open : Scope} {a b : World} → Stands c room Open a → Since c.level a b → Stands c room Open b
stands_since {c} {room} {Open} {a} {b} h s = record {
  framed = s.frames ∙ h.framed;
  open_is = λ global place is. still_holds (level_at global c.level) place (level_below global c.level) s (h.open_is global place is);
  room_is = λ place is. still_there c.level place (omega arith) s (h.room_is place is);
  result_is = λ place e. still_holds c.level place.number (omega arith) s (h.result_is place e);
}
