-- A place that is declared is open behind that.
use Rattle.std.proofs.Common.{◌≡◌, ℕ, inl, inr, Bool, true, false, sym, subst, arith}
use Rattle.nim_meaning.specs.Values.{Slot}
use Rattle.nim_meaning.specs.State.{World, slot_at}
use Rattle.nim_meaning.specs.Deeds.{Opens, changed}
use Rattle.flat_code.specs.Lines.{level_at, is_there}
use Rattle.flattening.specs.Formed.{Scope, With}
use Rattle.flattening.proofs.Worlds.{since_slot, is_opened}
use Rattle.flattening.proofs.Spots.{Spot}
use Rattle.flattening.proofs.Standing.{grounded, Stands, stands_since}

-- where something stands in its slot
pub stands_there : {c : Spot} {room : ℕ → Type 0} {Open : Scope} {world : World} (top : Bool) (names : (proc place : ℕ) → Type 0) (n : ℕ) →
    (top ≡ true → c.level ≡ 0) → is_there (slot_at world c.level n) ≡ true → Stands c room Open world →
    Stands c room (With (grounded c top room names) Open n) world
stands_there {c} {room} {Open} {world} top names n first opened h = record { framed = h.framed; open_is = on; room_is = h.room_is; result_is = h.result_is }
  where
    on : (global : Bool) (place : ℕ) → With (grounded c top room names) Open n global place → is_there (slot_at world (level_at global c.level) place) ≡ true
    on global place (inl was) = h.open_is global place was
    on false place (inr (e, own)) = subst (λ p. is_there (slot_at world c.level p) ≡ true) (sym e) opened
    on true place (inr (e, own)) =
        subst (λ p. is_there (slot_at world 0 p) ≡ true) (sym e) (subst (λ l. is_there (slot_at world l n) ≡ true) (first own) opened)

pub stands_with : {c : Spot} {room : ℕ → Type 0} {Open : Scope} {world : World} (top : Bool) (names : (proc place : ℕ) → Type 0) (n : ℕ) (slot : Slot) →
    (top ≡ true → c.level ≡ 0) → room n → Stands c room Open world →
    Stands c room (With (grounded c top room names) Open n) (changed (Opens c.level n slot) world)
stands_with {c} {room} {Open} {world} top names n slot first is h =
    stands_there top names n first (is_opened world c.level n slot (h.room_is n is) (omega (arith, h.framed)))
    (stands_since h (since_slot c.level world c.level n slot))
