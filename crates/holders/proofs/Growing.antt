-- No deed takes back that blocks were taken.
use Rattle.std.proofs.Common.{◌≡◌, refl, arith, ℕ, suc, ◌≤◌, length, Option, Some, None, List, [], ◌∷◌, ◌++◌}
use Rattle.nim_meaning.specs.Heap.{Block, block_at, without}
use Rattle.nim_meaning.specs.State.{World, whole_at}
use Rattle.nim_meaning.specs.Values.{put_part}
use Rattle.nim_meaning.specs.Deeds.{Deed, Gives, Ends, Errs, Works, Says, Looks, Changes, Takes, Change, Stores, Opens, Waits, Leaves, Pushes, Pops, Reads}
use Rattle.nim_meaning.specs.Deeds.{Refills, Frees, changed, with_block, freed}
use Rattle.holders.specs.Sure.{Sure}
use Rattle.holders.specs.Becoming.{taken_in}
use Rattle.holders.proofs.Sure.{sure_weaker}
use Rattle.holders.proofs.Copying.{length_set, stored_length}

pub freed_length : (world : World) (k : ℕ) (found : Option Block) → taken_in (freed world k found) ≡ taken_in world
freed_length world k None = refl
freed_length world k (Some b) = given_length (block_at world.heap k)
  where
    given_length : (found : Option Block) → length (without world.heap k found).blocks ≡ taken_in world
    given_length None = refl
    given_length (Some b) = length_set world.heap.blocks k None

pub changed_length : (c : Change) (world : World) → taken_in (changed c world) ≡ taken_in world
changed_length (Stores l v) world = stored_length world l.base (put_part (whole_at world l.base) l.path v)
changed_length (Opens level place slot) world = refl
changed_length (Waits level node slot) world = refl
changed_length (Leaves level node) world = refl
changed_length (Pushes v) world = refl
changed_length Pops world = refl
changed_length (Reads n) world = refl
changed_length (Refills k contents) world = length_set world.heap.blocks k _
changed_length (Frees k) world = freed_length world k (block_at world.heap k)

pub one_more_length : (xs : List (Option Block)) (y : Option Block) → length (xs ++ y ∷ []) ≡ suc (length xs)
one_more_length [] y = refl
one_more_length (x ∷ xs) y = omega (arith, one_more_length xs y)

pub sure_grows : {A : Type 0} (deed : Deed A) (P : A → World → Type 0) (world : World) → Sure deed P world →
    Sure deed (λ x after. P x after × (taken_in world ≤ taken_in after)) world
sure_grows (Gives x) P world h = (h, omega arith)
sure_grows (Ends status) P world h = tt
sure_grows Errs P world h = h
sure_grows (Works n rest) P world h = sure_grows rest P world h
sure_grows (Says es rest) P world h = sure_grows rest P world h
sure_grows (Looks rest) P world h = sure_grows (rest world) P world h
sure_grows (Changes c rest) P world h =
    sure_weaker rest (λ x after. P x after × (taken_in (changed c world) ≤ taken_in after)) (λ x after. P x after × (taken_in world ≤ taken_in after))
    (changed c world) (sure_grows rest P (changed c world) h) (λ x after t. (t.0, omega (arith, t.1, changed_length c world)))
sure_grows (Takes class contents rest) P world h =
    sure_weaker (rest (length world.heap.blocks)) (λ x after. P x after × (taken_in (with_block class contents world) ≤ taken_in after))
    (λ x after. P x after × (taken_in world ≤ taken_in after)) (with_block class contents world)
    (sure_grows (rest (length world.heap.blocks)) P (with_block class contents world) h)
    (λ x after t. (t.0, omega (arith, t.1, one_more_length world.heap.blocks (Some (record { class = class; contents = contents })))))
