-- What is true of the calls that wait, where another one begins: the frames below it stay.
use Rattle.std.proofs.Common.{◌≡◌, ◌≢◌, inl, inr, ℕ, zero, suc, ◌-◌, ◌<◌, ◌≤◌, List, [], ◌∷◌, ◌++◌, length, subst, sym}
use Rattle.std.proofs.Common.{map, Option, Some, None, replicate, refl, ap, ◌∙◌, arith, length-append}
use Rattle.std.specs.Prelude.{slice_get, slice_set}
use Rattle.std.proofs.lemmas.List.{length-replicate}
use Rattle.nim_meaning.specs.Values.{Slot, Standing}
use Rattle.nim_meaning.specs.State.{World, Frame, with_frame, with_slot, with_slot_of, slot_at, slot_of, frame_in, frame_at, joined, temporary_in}
use Rattle.nim_meaning.specs.Places.{through_slot}
use Rattle.nim_meaning.specs.Meaning.{filled}
use Rattle.word_lowering.proofs.Keeping.{AmongCalls, Worlds, all_kept, Edit}
use Rattle.word_lowering.proofs.Lines.{Basis}
use Rattle.word_lowering.proofs.Options.{none_some}
use Rattle.word_lowering.proofs.Related.{AllFrames}
use Rattle.word_lowering.proofs.Scenes.{Call, of_value, site_of, AllHold, Store, IsLater}
use Rattle.word_lowering.proofs.Sites.{Site, AmongSites, Linked}
use Rattle.word_lowering.proofs.SitesApart.{site_at}
use Rattle.word_lowering.proofs.Temporaries.{AreOnce}

-- ---- lists that become longer by one

module _ {A : Type 0} where
  get_append : (xs ys : List A) (i : ℕ) → i < length xs → slice_get (xs ++ ys) i ≡ slice_get xs i
  get_append [] ys i h = absurd (omega (arith, h))
  get_append (x ∷ xs) ys zero h = refl
  get_append (x ∷ xs) ys (suc i) h = get_append xs ys i (omega (arith, h))

  pub get_last : (xs : List A) (x : A) → slice_get (xs ++ x ∷ []) (length xs) ≡ Some x
  get_last [] x = refl
  get_last (y ∷ xs) x = get_last xs x

  set_last : (xs : List A) (x y : A) → slice_set (xs ++ x ∷ []) (length xs) y ≡ xs ++ y ∷ []
  set_last [] x y = refl
  set_last (z ∷ xs) x y = ap (λ l. z ∷ l) (set_last xs x y)

-- ---- the slots of a new frame

pub filled_long : (n : ℕ) (slots : List Slot) → length slots ≤ n → length (filled n slots) ≡ n
filled_long n slots h =
    let a = length-append (map Some slots) (replicate (n - length slots) None) in
    let b = length-replicate {A = Option Slot} (n - length slots) None in
    let c = map_length slots in
    omega (arith, a, b, c, h)
  where
    map_length : (xs : List Slot) → length (map Some xs) ≡ length xs
    map_length [] = refl
    map_length (x ∷ xs) = ap suc (map_length xs)

-- what has a slot is one of the first
get_none : (n i : ℕ) (slot : Slot) → joined (slice_get (replicate n None) i) ≡ Some slot → ⊥
get_none zero i slot e = none_some slot e
get_none (suc n) zero slot e = none_some slot e
get_none (suc n) (suc i) slot e = get_none n i slot e

get_some : (slots : List Slot) (n i : ℕ) (slot : Slot) → joined (slice_get (map Some slots ++ replicate n None) i) ≡ Some slot
    → slice_get slots i ≡ Some slot
get_some [] n i slot e = absurd (get_none n i slot e)
get_some (s ∷ slots) n zero slot e = e
get_some (s ∷ slots) n (suc i) slot e = get_some slots n i slot e

pub filled_get : (n : ℕ) (slots : List Slot) (i : ℕ) (slot : Slot) → joined (slice_get (filled n slots) i) ≡ Some slot → slice_get slots i ≡ Some slot
filled_get n slots i slot e = get_some slots (n - length slots) i slot e

-- one more gets a slot
set_first : (slots : List Slot) (n : ℕ) (slot : Slot)
    → slice_set (map Some slots ++ replicate (suc n) None) (length slots) (Some slot) ≡ map Some (slots ++ slot ∷ []) ++ replicate n None
set_first [] n slot = refl
set_first (s ∷ slots) n slot = ap (λ l. Some s ∷ l) (set_first slots n slot)

pub filled_more : (n : ℕ) (slots : List Slot) (slot : Slot) → length slots < n
    → slice_set (filled n slots) (length slots) (Some slot) ≡ filled n (slots ++ slot ∷ [])
filled_more n slots slot h =
    let l = length-append slots (slot ∷ []) in
    let m : ℕ = n - length (slots ++ slot ∷ []) in
    let e : n - length slots ≡ suc m = omega (arith, l, h) in
    ap (λ k. slice_set (map Some slots ++ replicate k None) (length slots) (Some slot)) e ∙ set_first slots m slot

-- ---- a world with one more frame

-- a slot of that frame
pub slot_last : (w : World) (frame : Frame) (level n : ℕ) → level ≡ length w.frames → slot_at (with_frame w frame) level n ≡ slot_of frame n
slot_last w frame level n e =
    ap (λ o. slot_of (frame_in o) n) (ap (slice_get (w.frames ++ frame ∷ [])) e ∙ get_last w.frames frame)

pub with_slot_last : (w : World) (frame : Frame) (level n : ℕ) (slot : Option Slot) → level ≡ length w.frames
    → with_slot (with_frame w frame) level n slot ≡ with_frame w (with_slot_of frame n slot)
with_slot_last w frame level n slot e =
    let here : frame_at (with_frame w frame) level ≡ frame = ap frame_in (ap (slice_get (w.frames ++ frame ∷ [])) e ∙ get_last w.frames frame) in
    ap (λ fs. record w { frames = fs })
    (ap (λ f. slice_set (w.frames ++ frame ∷ []) level (with_slot_of f n slot)) here
    ∙ ap (λ l. slice_set (w.frames ++ frame ∷ []) l (with_slot_of frame n slot)) e
    ∙ set_last w.frames frame (with_slot_of frame n slot))

module _ (x : Basis) (calls : List Call) (linked : Linked x.table x.blocks (map site_of calls)) (w : World) (frame : Frame)
    (levels : length w.frames ≡ length (map site_of calls)) where
  abbrev sites : List Site
  sites = map site_of calls

  abbrev world_then : World
  world_then = with_frame w frame

  below : (s : Site) → AmongSites s sites → s.level < length sites
  below s i = (site_at x.table x.blocks sites s linked i).level

  frame_then : (s : Site) → AmongSites s sites → slice_get world_then.frames s.level ≡ slice_get w.frames s.level
  frame_then s i = get_append w.frames (frame ∷ []) s.level (let b = below s i in omega (arith, b, levels))

  pub slot_then : (s : Site) (n : ℕ) → AmongSites s sites → slot_at world_then s.level n ≡ slot_at w s.level n
  slot_then s n i = ap (λ f. slot_of (frame_in f) n) (get_append w.frames (frame ∷ []) s.level (let b = below s i in omega (arith, b, levels)))

  pub frames_then : (some : List Site) → ((s : Site) → AmongSites s some → AmongSites s sites) → AllFrames x.table x.blocks w some
      → AllFrames x.table x.blocks world_then some
  frames_then [] up f = tt
  frames_then (s ∷ some) up f = (
    record {
      frame = f.0.frame;
      there = get_append w.frames (frame ∷ []) s.level (let b = below s (up s (inl refl)) in omega (arith, b, levels)) ∙ f.0.there;
      begins = f.0.begins;
      slots = f.0.slots;
    },
    frames_then some (λ r i. up r (inr i)) f.1,
  )

  -- at another level than the new one nothing changes
  module _ (lo : Site) (new_level : lo.level ≡ length sites) where
    worlds_then : Worlds x.table x.blocks x.small sites linked lo (of_value 0) w world_then
    worlds_then = record {
      slots = λ s n i there away. slot_then s n i;
      more = λ s n i there h. (h.0, slot_then s n i ∙ h.1);
      roots = λ s n i there h k. ap (through_slot (Standing s.level n)) (slot_then s n i);
      waits = λ s node i away. ap (λ f. temporary_in (frame_in f).temporaries node) (frame_then s i);
      once = λ s i h. subst (λ f. AreOnce (frame_in f).temporaries) (sym (frame_then s i)) h;
      hand = refl;
    }

    pub callers_hold : (k k' : Store) → Edit x.table x.blocks x.small sites linked lo (of_value 0) k.memory k'.memory → IsLater k.ground k'.ground
        → AllHold x.table x.blocks k w calls → AllHold x.table x.blocks k' world_then calls
    callers_hold k k' edit later old = all_kept x.table x.blocks x.small sites linked lo (of_value 0) k k' edit later w world_then worlds_then calls
        (λ s i. i) (λ c from i e. absurd (apart c i e)) old
      where
        apart : (c : Call) → AmongCalls c calls → c.site.level ≢ lo.level
        apart c i e = let b = below c.site (sites_among calls c i) in omega (arith, b, e, new_level)
          where
            sites_among : (cs : List Call) (c : Call) → AmongCalls c cs → AmongSites c.site (map site_of cs)
            sites_among [] c i = absurd i
            sites_among (d ∷ cs) c (inl e) = inl (ap site_of e)
            sites_among (d ∷ cs) c (inr i) = inr (sites_among cs c i)
