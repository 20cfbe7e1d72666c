-- A call begins: its frame, and what is open in it.
use Rattle.std.proofs.Common.{◌≡◌, ℕ, zero, suc, ◌+◌, ◌<◌, Bool, true, false, List, [], ◌∷◌, ◌++◌, map, length, Option, Some, None, refl, sym, subst, arith}
use Rattle.std.proofs.Common.{length-append}
use Rattle.std.specs.Prelude.{◌-◌, replicate, slice_get}
use Rattle.nim_types.specs.Types.{Facts}
use Rattle.nim_program.specs.Program.{Declared, Body}
use Rattle.nim_meaning.specs.Values.{Slot}
use Rattle.nim_meaning.specs.State.{Frame, World, frame_in, joined, slot_at, with_frame}
use Rattle.nim_meaning.specs.Meaning.{result_slots, frame_of}
use Rattle.flat_code.specs.Lines.{level_at, is_there}
use Rattle.flattening.specs.Formed.{AtFirst, results}
use Rattle.flattening.proofs.Worlds.{frame_last, frame_below}
use Rattle.flattening.proofs.Spots.{Spot}
use Rattle.flattening.proofs.Standing.{Stands}

-- ---- the slots of a new frame

filled_holds : (slots : List Slot) (more : List (Option Slot)) (i : ℕ) → i < length slots →
    is_there (joined (slice_get (map (λ (s : Slot). Some s) slots ++ more) i)) ≡ true
filled_holds [] more i less = absurd (omega (arith, less))
filled_holds (s ∷ slots) more zero less = refl
filled_holds (s ∷ slots) more (suc i) less = filled_holds slots more i (omega (arith, less))

abbrev undeclared : Option Slot
undeclared = None

there_in : (n i : ℕ) → i < n → is_there (slice_get (replicate n undeclared) i) ≡ true
there_in zero i less = absurd (omega (arith, less))
there_in (suc n) zero less = refl
there_in (suc n) (suc i) less = there_in n i (omega (arith, less))

filled_there : (slots : List Slot) (n i : ℕ) → i < length slots + n → is_there (slice_get (map (λ (s : Slot). Some s) slots ++ replicate n undeclared) i)
    ≡ true
filled_there [] n i less = there_in n i (omega (arith, less))
filled_there (s ∷ slots) n zero less = refl
filled_there (s ∷ slots) n (suc i) less = filled_there slots n i (omega (arith, less))

many_results : (facts : Facts) (result : Option Declared) → length (result_slots facts result) ≡ results result
many_results facts None = refl
many_results facts (Some place) = refl

-- ---- what is open where a body begins

pub stands_called : (c : Spot) (facts : Facts) (body : Body) (slots : List Slot) (params : ℕ) (named : ℕ → Type 0) (old : World) → length slots ≡ params →
    length old.frames ≡ c.level → ((place : ℕ) → named place → (is_there (slot_at old 0 place) ≡ true) × (0 < length old.frames)) →
    ((place : Declared) → c.result ≡ Some place → AtFirst params named body false place.number) →
    Stands c (λ place. place - body.first < body.places) (AtFirst params named body) (with_frame old (frame_of facts body slots))
stands_called c facts body slots params named old many framed given result = record {
  framed = let e = length-append old.frames (frame_of facts body slots ∷ []) in omega (arith, e, framed);
  open_is = open_is;
  room_is = λ place is. subst (λ (o : Option Frame). is_there (slice_get (frame_in o).slots (place - (frame_in o).first)) ≡ true) (sym found)
      (filled_there all (body.places - length all) (place - body.first) (omega (arith, is)));
  result_is = λ place e. open_is false place.number (result place e);
}
  where
    all : List Slot
    all = slots ++ result_slots facts body.result

    found : slice_get (old.frames ++ frame_of facts body slots ∷ []) c.level ≡ Some (frame_of facts body slots)
    found = frame_last old.frames (frame_of facts body slots) c.level framed

    open_is : (global : Bool) (place : ℕ) → AtFirst params named body global place →
        is_there (slot_at (with_frame old (frame_of facts body slots)) (level_at global c.level) place) ≡ true
    open_is false place is =
        let r = many_results facts body.result in
        let e = length-append slots (result_slots facts body.result) in
        subst (λ (o : Option Frame). is_there (joined (slice_get (frame_in o).slots (place - (frame_in o).first))) ≡ true) (sym found)
        (filled_holds (slots ++ result_slots facts body.result) (replicate (body.places - length (slots ++ result_slots facts body.result)) undeclared)
        (place - body.first)
        (omega (arith, is, many, r, e)))
    open_is true place is =
        let h = given place is in
        subst (λ (o : Option Frame). is_there (joined (slice_get (frame_in o).slots (place - (frame_in o).first))) ≡ true)
        (sym (frame_below old.frames (frame_of facts body slots ∷ []) 0 h.1)) h.0
