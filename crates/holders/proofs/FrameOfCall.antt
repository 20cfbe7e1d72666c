-- What stands in the frame with which a call begins, and which places are its own.
use Rattle.std.proofs.Common.{◌≡◌, refl, sym, ap, subst, ◌∙◌, arith, ℕ, zero, suc, ◌+◌, ◌-◌, ◌<◌, ◌≤◌, inl, inr, Bool, true, false, List, [], ◌∷◌, ◌++◌, length}
use Rattle.std.proofs.Common.{replicate}
use Rattle.std.specs.Prelude.{map, slice_get, Option, Some, None}
use Rattle.std.proofs.lemmas.Bool.{false≢true}
use Rattle.std.proofs.lemmas.Option.{none-some, same_Some}
use Rattle.nim_types.specs.Types.{Facts}
use Rattle.nim_types.specs.Forms.{Form}
use Rattle.nim_program.specs.Program.{Body}
use Rattle.nim_meaning.specs.Values.{Value, Slot, Holds, Stands, Lends, Standing, Location}
use Rattle.nim_meaning.specs.State.{Frame, World, with_frame}
use Rattle.nim_meaning.specs.Meaning.{result_slots, frame_of}
use Rattle.holders.specs.Territory.{AllOwners}
use Rattle.holders.specs.Owned.{at_place, IsName, a_name, Active}
use Rattle.holders.specs.Running.{IsOutside, AreOwn, Region}
use Rattle.holders.specs.Entering.{own_cells, StandThere}
use Rattle.holders.specs.Claimed.{body_region}
use Rattle.holders.proofs.BaseChanges.{get_last}

-- ---- lists

get_first : (slots : List Slot) (rest : List (Option Slot)) (j : ℕ) (x : Slot) → slice_get slots j ≡ Some x →
    slice_get (map Some slots ++ rest) j ≡ Some (Some x)
get_first [] rest j x e = absurd (none-some x e)
get_first (y ∷ slots) rest zero x e = ap (λ (z : Slot). Some (Some z)) (same_Some y x e)
get_first (y ∷ slots) rest (suc j) x e = get_first slots rest j x e

none_there : (n j : ℕ) (x : Slot) → slice_get (replicate {A = Option Slot} n None) j ≡ Some (Some x) → ⊥
none_there zero j x e = none-some (Some x) e
none_there (suc n) zero x e = none-some x (same_Some None (Some x) e)
none_there (suc n) (suc j) x e = none_there n j x e

get_back : (slots : List Slot) (n j : ℕ) (x : Slot) → slice_get (map Some slots ++ replicate n None) j ≡ Some (Some x) → slice_get slots j ≡ Some x
get_back [] n j x e = absurd (none_there n j x e)
get_back (y ∷ slots) n zero x e = same_Some (Some y) (Some x) e
get_back (y ∷ slots) n (suc j) x e = get_back slots n j x e

get_past : {A : Type 0} (xs : List A) (j : ℕ) → length xs ≤ j → slice_get xs j ≡ None
get_past [] j le = refl
get_past (x ∷ xs) zero le = absurd (omega (arith, le))
get_past (x ∷ xs) (suc j) le = get_past xs j (omega (arith, le))

length_replicated : (n : ℕ) → length (replicate {A = Option Slot} n None) ≡ n
length_replicated zero = refl
length_replicated (suc n) = ap suc (length_replicated n)

length_joined : (slots : List Slot) (rest : List (Option Slot)) → length (map Some slots ++ rest) ≡ length slots + length rest
length_joined [] rest = omega arith
length_joined (x ∷ slots) rest = omega (arith, length_joined slots rest)

-- ---- the frame

-- what isn't another name
abbrev is_own : Option Slot → Bool
is_own (Some (Stands l)) = false
is_own slot = true

module _ (world : World) (facts : Facts) (body : Body) (params : List Slot) (level : ℕ) (count : length world.frames ≡ level) where
  abbrev pub all_slots : List Slot
  all_slots = params ++ result_slots facts body.result

  abbrev pub the_frame : Frame
  the_frame = frame_of facts body params

  abbrev pub begun : World
  begun = with_frame world the_frame

  abbrev pub own_at : ℕ → Bool
  own_at n = is_own (slice_get all_slots (n - body.first))

  abbrev R : Region
  R = body_region level own_at (λ n. true)

  -- the last slots stand there from a number on
  abbrev pub FromNumber : ℕ → List Slot → Type 0
  FromNumber n rest = (i : ℕ) (x : Slot) → slice_get rest i ≡ Some x → slice_get all_slots ((n + i) - body.first) ≡ Some x

  pub from_first : FromNumber body.first all_slots
  from_first i x e = let same : i ≡ (body.first + i) - body.first = omega arith in subst (λ j. slice_get all_slots j ≡ Some x) same e

  pub slot_first : (n : ℕ) (x : Slot) (rest : List Slot) → FromNumber n (x ∷ rest) → slice_get all_slots (n - body.first) ≡ Some x
  slot_first n x rest h = let same : n + 0 ≡ n = omega arith in subst (λ j. slice_get all_slots (j - body.first) ≡ Some x) same (h 0 x refl)

  pub slots_next : (n : ℕ) (x : Slot) (rest : List Slot) → FromNumber n (x ∷ rest) → FromNumber (suc n) rest
  slots_next n x rest h i y e =
      let same : n + suc i ≡ suc n + i = omega arith in subst (λ j. slice_get all_slots (j - body.first) ≡ Some y) same (h (suc i) y e)

  frame_there : slice_get begun.frames level ≡ Some the_frame
  frame_there = subst (λ l. slice_get begun.frames l ≡ Some the_frame) count (get_last world.frames the_frame)

  pub name_there : (n : ℕ) (l : Location) → body.first ≤ n → slice_get all_slots (n - body.first) ≡ Some (Stands l) → IsName begun.frames level n l
  name_there n l le e = a_name the_frame frame_there le (get_first all_slots _ (n - body.first) (Stands l) e)

  pub stand_there : (n : ℕ) (rest : List Slot) → body.first ≤ n → FromNumber n rest → StandThere begun level n rest
  stand_there n [] le h = tt
  stand_there n (Holds x ∷ rest) le h = (
    at_place the_frame frame_there le (get_first all_slots _ (n - body.first) (Holds x) (slot_first n (Holds x) rest h)),
    stand_there (suc n) rest (omega (arith, le)) (slots_next n (Holds x) rest h),
  )
  stand_there n (Stands l ∷ rest) le h = stand_there (suc n) rest (omega (arith, le)) (slots_next n (Stands l) rest h)
  stand_there n (Lends v from seen ∷ rest) le h = stand_there (suc n) rest (omega (arith, le)) (slots_next n (Lends v from seen) rest h)

  pub own_first : (n : ℕ) (x : Value) (rest : List Slot) → FromNumber n (Holds x ∷ rest) → own_at n ≡ true
  own_first n x rest h = ap is_own (slot_first n (Holds x) rest h)

  pub name_first : (n : ℕ) (l : Location) (rest : List Slot) → FromNumber n (Stands l ∷ rest) → own_at n ≡ true → ⊥
  name_first n l rest h o = false≢true (sym (ap is_own (slot_first n (Stands l) rest h)) ∙ o)

  pub cells_mine : (n : ℕ) (fs : List Form) (rest : List Slot) → FromNumber n rest → AreOwn R (own_cells level n fs rest)
  cells_mine n [] [] h = tt
  cells_mine n [] (slot ∷ rest) h = tt
  cells_mine n (f ∷ fs) [] h = tt
  cells_mine n (f ∷ fs) (Holds x ∷ rest) h = (inside, cells_mine (suc n) fs rest (slots_next n (Holds x) rest h))
    where
      inside : IsOutside R (Standing level n) → ⊥
      inside (inl less) = omega (arith, less)
      inside (inr q) = q.1 (own_first n x rest h)
  cells_mine n (f ∷ fs) (Stands l ∷ rest) h = cells_mine (suc n) fs rest (slots_next n (Stands l) rest h)
  cells_mine n (f ∷ fs) (Lends v from seen ∷ rest) h = cells_mine (suc n) fs rest (slots_next n (Lends v from seen) rest h)

  -- each is a place among those
  pub cells_places : (n : ℕ) (fs : List Form) (rest : List Slot) (top : ℕ) → n + length rest ≤ top →
      AllOwners (λ m. (k : ℕ) × ((m.at.base ≡ Standing level k) × (k < top))) (own_cells level n fs rest)
  cells_places n [] [] top le = tt
  cells_places n [] (slot ∷ rest) top le = tt
  cells_places n (f ∷ fs) [] top le = tt
  cells_places n (f ∷ fs) (Holds x ∷ rest) top le = ((n, (refl, omega (arith, le))), cells_places (suc n) fs rest top (omega (arith, le)))
  cells_places n (f ∷ fs) (Stands l ∷ rest) top le = cells_places (suc n) fs rest top (omega (arith, le))
  cells_places n (f ∷ fs) (Lends v from seen ∷ rest) top le = cells_places (suc n) fs rest top (omega (arith, le))

  -- what is a name isn't its own, and what is behind is
  pub names_not_own : (n : ℕ) (l : Location) → IsName begun.frames level n l → own_at n ≡ true → ⊥
  names_not_own n l (a_name f q le g) o =
      let same = same_Some f the_frame (sym q ∙ frame_there) in
      let there = subst (λ (h : Frame). slice_get h.slots (n - h.first) ≡ Some (Some (Stands l))) same g in
      false≢true (sym (ap is_own (get_back all_slots _ (n - body.first) (Stands l) there)) ∙ o)

  pub behind_own : (n : ℕ) → body.first + length all_slots ≤ n → own_at n ≡ true
  behind_own n le = ap is_own (get_past all_slots (n - body.first) (omega (arith, le)))

  pub active_there : length all_slots ≤ body.places → Active begun.frames level body.first body.places []
  active_there le =
      let rest : List (Option Slot) = replicate (body.places - length all_slots) None in
      let count_is : length (map Some all_slots ++ rest) ≡ length all_slots + length rest = length_joined all_slots rest in
      let more : length rest ≡ body.places - length all_slots = length_replicated (body.places - length all_slots) in
      record { frame = the_frame; there = frame_there; first_is = refl; places_are = omega (arith, count_is, more, le); nodes_are = refl }
