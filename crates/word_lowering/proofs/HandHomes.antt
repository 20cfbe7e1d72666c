-- Homes of the values under way in hooks, one behind the other in places of their own, beside all other homes, at which the first ones may stand; and what
-- becomes of all of them where a value comes under way, or is taken, and where memory is written that is no home's.
use Rattle.std.proofs.Common.{◌≡◌, ◌≢◌, ◌⊎◌, inl, inr, ℕ, zero, suc, ◌+◌, ◌-◌, ◌<◌, ◌≤◌, List, [], ◌∷◌, ◌++◌, length, take, Some}
use Rattle.std.proofs.Common.{refl, sym, ap, subst, ◌∙◌, arith}
use Rattle.std.specs.Prelude.{slice_get}
use Rattle.std.proofs.lemmas.Bool.{cases_order}
use Rattle.nim_meaning.specs.Values.{Value, Base, Standing, Waiting, InBlock, InHand, InException, Made}
use Rattle.nim_meaning.specs.State.{World, pushed, popped}
use Rattle.flat_code.specs.Shapes.{Shape}
use Rattle.word_code.specs.Memory.{Memory}
use Rattle.word_code.specs.RoutineTable.{IsRewritten}
use Rattle.word_code.proofs.ForCallers.{Sized}
use Rattle.word_lowering.proofs.ShapeFacts.{shape_bytes}
use Rattle.word_lowering.proofs.Blocks.{Blocks, Stored}
use Rattle.word_lowering.proofs.BlocksBorn.{later_same}
use Rattle.word_lowering.proofs.BlockLists.{get_before, get_here, get_some}
use Rattle.word_lowering.proofs.BaseValues.{Differ, HoldsAt, in_frame}
use Rattle.word_lowering.proofs.CarriedBeside.{rewritten_carried}
use Rattle.word_lowering.proofs.StoredLater.{stored_kept}
use Rattle.word_lowering.proofs.BlockHomes.{Home, home_bytes, AreApart, SameOrApart, IsOutside, IsAtHome, HomesHold, elsewhere_by, outside_then}
use Rattle.word_lowering.proofs.BlockWrites.{heap_written}

get_taken : {A : Type 0} (n : ℕ) (xs : List A) (i : ℕ) → i < n → slice_get (take n xs) i ≡ slice_get xs i
get_taken zero xs i h = absurd (omega (arith, h))
get_taken (suc n) [] i h = refl
get_taken (suc n) (x ∷ xs) zero h = refl
get_taken (suc n) (x ∷ xs) (suc i) h = get_taken n xs i (omega (arith, h))

-- ---- the hand

-- of each value under way, the first one first: where it stands, and its shape
abbrev pub Hand : Type 0
Hand = List (ℕ × Shape)

abbrev pub hand_home : (position : ℕ) → ℕ × Shape → Home
hand_home i p = record { base = InHand i; at = p.0; shape = p.1 }

abbrev pub AtHand : (position : ℕ) → Hand → Home → Type 0
AtHand i [] h = ⊥
AtHand i (p ∷ hand) h = (hand_home i p ≡ h) ⊎ AtHand (suc i) hand h

-- from an address on, one behind the other, up to another one
abbrev pub Ascends : (from : ℕ) → Hand → (low : ℕ) → Type 0
Ascends from [] low = from ≤ low
Ascends from (p ∷ hand) low = (from ≤ p.0) × Ascends (p.0 + shape_bytes p.1) hand low

ends_below : (from : ℕ) (hand : Hand) (low : ℕ) → Ascends from hand low → from ≤ low
ends_below from [] low up = up
ends_below from (p ∷ hand) low up = let e = ends_below (p.0 + shape_bytes p.1) hand low up.1 in let f = up.0 in omega (arith, e, f)

pub record InRange (least from low : ℕ) (h : Home) : Type 0 where
  pub position : ℕ
  pub late : least ≤ position
  pub base : h.base ≡ InHand position
  pub begins : from ≤ h.at
  pub ends : h.at + home_bytes h ≤ low

pub in_range : (i from : ℕ) (hand : Hand) (low : ℕ) (h : Home) → Ascends from hand low → AtHand i hand h → InRange i from low h
in_range i from [] low h up at = absurd at
in_range i from (p ∷ hand) low h up (inl e) =
    let f = ends_below (p.0 + shape_bytes p.1) hand low up.1 in
    subst (InRange i from low) e (record { position = i; late = omega arith; base = refl; begins = up.0; ends = omega (arith, f) })
in_range i from (p ∷ hand) low h up (inr at) =
    let r = in_range (suc i) (p.0 + shape_bytes p.1) hand low h up.1 at in
    let b = up.0 in let c = r.begins in let l = r.late in
    record { position = r.position; late = omega (arith, l); base = r.base; begins = omega (arith, b, c); ends = r.ends }

-- positions that differ
hands_differ : (g h : Base) (i k : ℕ) → g ≡ InHand i → h ≡ InHand k → i ≢ k → Differ g h
hands_differ g h i k e f ne = subst (λ b. Differ b h) (sym e) (subst (λ b. Differ (InHand i) b) (sym f) ne)

first_apart : (i from : ℕ) (p : ℕ × Shape) (hand : Hand) (low : ℕ) (g h : Home) → Ascends (p.0 + shape_bytes p.1) hand low → hand_home i p ≡ g
    → AtHand (suc i) hand h → AreApart g h × AreApart h g
first_apart i from p hand low g h up e at =
    let r = in_range (suc i) (p.0 + shape_bytes p.1) hand low h up at in
    let base : g.base ≡ InHand i = ap (λ (z : Home). z.base) (sym e) in
    let ends : g.at + home_bytes g ≡ p.0 + shape_bytes p.1 = ap (λ (z : Home). z.at + home_bytes z) (sym e) in
    let b = r.begins in let l = r.late in
    let one = hands_differ g.base h.base i r.position base r.base (λ z. absurd (omega (arith, l, z))) in
    let two = hands_differ h.base g.base r.position i r.base base (λ z. absurd (omega (arith, l, z))) in (
      record { bases = one; bases_turned = two; ranges = inl (omega (arith, ends, b)) },
      record { bases = two; bases_turned = one; ranges = inr (omega (arith, ends, b)) },
    )

pub hand_apart : (i from : ℕ) (hand : Hand) (low : ℕ) → Ascends from hand low → (g h : Home) → AtHand i hand g → AtHand i hand h → SameOrApart g h
hand_apart i from [] low up g h at other = absurd at
hand_apart i from (p ∷ hand) low up g h (inl e) (inl f) = inl (sym e ∙ f)
hand_apart i from (p ∷ hand) low up g h (inl e) (inr other) = inr (first_apart i from p hand low g h up.1 e other).0
hand_apart i from (p ∷ hand) low up g h (inr at) (inl f) = inr (first_apart i from p hand low h g up.1 f at).1
hand_apart i from (p ∷ hand) low up g h (inr at) (inr other) = hand_apart (suc i) (p.0 + shape_bytes p.1) hand low up.1 g h at other

-- one more
pub ascends_more : (from : ℕ) (hand : Hand) (low : ℕ) (s : Shape) → Ascends from hand low → Ascends from (hand ++ (low, s) ∷ []) (low + shape_bytes s)
ascends_more from [] low s up = (up, omega arith)
ascends_more from (p ∷ hand) low s up = (up.0, ascends_more (p.0 + shape_bytes p.1) hand low s up.1)

pub at_more : (i : ℕ) (hand : Hand) (p : ℕ × Shape) (h : Home) → AtHand i (hand ++ p ∷ []) h → AtHand i hand h ⊎ (hand_home (i + length hand) p ≡ h)
at_more i [] p h (inl e) = inr (subst (λ k. hand_home k p ≡ h) (let q : i ≡ i + 0 = omega arith in q) e)
at_more i [] p h (inr at) = absurd at
at_more i (q ∷ hand) p h (inl e) = inl (inl e)
at_more i (q ∷ hand) p h (inr at) = by (at_more (suc i) hand p h at)
  where
    by : AtHand (suc i) hand h ⊎ (hand_home (suc i + length hand) p ≡ h) → AtHand i (q ∷ hand) h ⊎ (hand_home (i + length (q ∷ hand)) p ≡ h)
    by (inl r) = inl (inr r)
    by (inr e) = inr (subst (λ k. hand_home k p ≡ h) (let z : suc i + length hand ≡ i + suc (length hand) = omega arith in z) e)

pub still_at : (i : ℕ) (hand : Hand) (p : ℕ × Shape) (h : Home) → AtHand i hand h → AtHand i (hand ++ p ∷ []) h
still_at i [] p h at = absurd at
still_at i (q ∷ hand) p h (inl e) = inl e
still_at i (q ∷ hand) p h (inr at) = inr (still_at (suc i) hand p h at)

same_position : (i k : ℕ) → InHand i ≡ InHand k → i ≡ k
same_position i k e = cc

-- a position of the hand is one of its values
position_in : (i : ℕ) (hand : Hand) (h : Home) → AtHand i hand h → (k : ℕ) → h.base ≡ InHand k → k < i + length hand
position_in i [] h at k e = absurd at
position_in i (p ∷ hand) h (inl is) k e =
    let q = same_position i k (ap (λ (z : Home). z.base) is ∙ e) in omega (arith, q)
position_in i (p ∷ hand) h (inr at) k e = let r = position_in (suc i) hand h at k e in omega (arith, r)

-- ---- all homes

-- what a base holds where values under way come and go
pub with_hand : (w : World) (hand : List Value) (b : Base) (v : Value) → ((i : ℕ) → b ≡ InHand i → slice_get hand i ≡ slice_get w.hand i) → HoldsAt w b v
    → HoldsAt (record w { hand = hand }) b v
with_hand w hand (Standing level n) v same h = (in_frame w (record w { hand = hand }) level n refl h.0, h.1)
with_hand w hand (Waiting level node) v same h = h
with_hand w hand (InHand i) v same h = same i refl ∙ h
with_hand w hand (Made u) v same h = h
with_hand w hand (InBlock k) v same h = absurd h
with_hand w hand (InException i) v same h = absurd h

module _ (StandsFixed : (place : ℕ) → List ℕ → Type 0) (Homes : Home → Type 0) (apart : (g h : Home) → Homes g → Homes h → SameOrApart g h) (start : ℕ)
    (under : (h : Home) → Homes h → h.at + home_bytes h ≤ start)
    (first : ℕ)
    (others : (h : Home) → Homes h → (i : ℕ) → first ≤ i → Differ h.base (InHand i) × (Differ (InHand i) h.base × (h.base ≢ InHand i))) where
  abbrev pub AllHomes : Hand → Home → Type 0
  AllHomes hand h = Homes h ⊎ AtHand first hand h

  pub all_apart : (hand : Hand) (low : ℕ) → Ascends start hand low → (g h : Home) → AllHomes hand g → AllHomes hand h → SameOrApart g h
  all_apart hand low up g h (inl i) (inl k) = apart g h i k
  all_apart hand low up g h (inr i) (inr k) = hand_apart first start hand low up g h i k
  all_apart hand low up g h (inl i) (inr k) =
      let r = in_range first start hand low h up k in let o = others g i r.position r.late in let b = r.begins in let e = under g i in
      inr (record {
        bases = subst (λ z. Differ g.base z) (sym r.base) o.0;
        bases_turned = subst (λ z. Differ z g.base) (sym r.base) o.1.0;
        ranges = inl (omega (arith, b, e));
      })
  all_apart hand low up g h (inr i) (inl k) =
      let r = in_range first start hand low g up i in let o = others h k r.position r.late in let b = r.begins in let e = under h k in
      inr (record {
        bases = subst (λ z. Differ z h.base) (sym r.base) o.1.0;
        bases_turned = subst (λ z. Differ h.base z) (sym r.base) o.0;
        ranges = inr (omega (arith, b, e));
      })

  abbrev pub AllHold : (hand : Hand) (low : ℕ) → Ascends start hand low → Blocks → World → Memory → Type 0
  AllHold hand low up d w m = HomesHold StandsFixed (AllHomes hand) (all_apart hand low up) d w m

  module _ (hand : Hand) (low : ℕ) (up : Ascends start hand low) (d : Blocks) (w : World) (m : Memory) (x : AllHold hand low up d w m) where
    -- ---- memory is written from there on, beside the heap

    pub written_behind : (other : Memory) → Sized other → (a n : ℕ) → low ≤ a → start ≤ a → IsRewritten m other a n → IsOutside m a n
        → AllHold hand low up d w other
    written_behind other sized a n behind behind_start written outside = record {
      sized = sized;
      heap = heap_written StandsFixed d w.heap m other x.sized sized x.heap a n written (elsewhere_by m a n outside);
      homes = λ h i.
          let at = x.homes h i in
          record {
            value = at.value;
            holds = at.holds;
            stored = stored_kept StandsFixed d d (later_same d) m other h.at h.at h.shape at.value
                (rewritten_carried m other a n h.at (home_bytes h) written (inl (ends h i))) at.stored;
            elsewhere = outside_then m other h.at (home_bytes h) written.sizes.heap at.elsewhere;
          };
    }
      where
        ends : (h : Home) → AllHomes hand h → h.at + home_bytes h ≤ a
        ends h (inl i) = let e = under h i in omega (arith, e, behind_start)
        ends h (inr i) = let r = in_range first start hand low h up i in let e = r.ends in omega (arith, e, behind)

    -- ---- a value comes under way, which is stored there

    pub hand_pushed : (long : length w.hand ≡ first + length hand) (s : Shape) (v : Value) → Stored StandsFixed d m low s v → IsOutside m low (shape_bytes s)
        → AllHold (hand ++ (low, s) ∷ []) (low + shape_bytes s) (ascends_more start hand low s up) d (pushed w v) m
    hand_pushed long s v stored outside = record { sized = x.sized; heap = x.heap; homes = homes }
      where
        same : (h : Home) → AllHomes hand h → (i : ℕ) → h.base ≡ InHand i → slice_get (w.hand ++ v ∷ []) i ≡ slice_get w.hand i
        same h at i e = get_before w.hand v i (get_some w.hand i (x.homes h at).value (subst (λ b. HoldsAt w b (x.homes h at).value) e (x.homes h at).holds))

        old : (h : Home) → AllHomes hand h → IsAtHome StandsFixed d (pushed w v) m h
        old h i =
            let at = x.homes h i in
            record {
              value = at.value;
              holds = with_hand w (w.hand ++ v ∷ []) h.base at.value (same h i) at.holds;
              stored = at.stored;
              elsewhere = at.elsewhere;
            }

        new : IsAtHome StandsFixed d (pushed w v) m (hand_home (first + length hand) (low, s))
        new = record {
          value = v;
          holds = subst (λ k. slice_get (w.hand ++ v ∷ []) k ≡ Some v) long (get_here w.hand v);
          stored = stored;
          elsewhere = outside;
        }

        by : (h : Home) → AtHand first hand h ⊎ (hand_home (first + length hand) (low, s) ≡ h) → IsAtHome StandsFixed d (pushed w v) m h
        by h (inl at) = old h (inr at)
        by h (inr e) = subst (IsAtHome StandsFixed d (pushed w v) m) e new

        homes : (h : Home) → AllHomes (hand ++ (low, s) ∷ []) h → IsAtHome StandsFixed d (pushed w v) m h
        homes h (inl i) = old h (inl i)
        homes h (inr at) = by h (at_more first hand (low, s) h at)

  -- ---- the last one is taken

  pub hand_popped : (hand : Hand) (low high : ℕ) (s : Shape) (up : Ascends start hand low) (more : Ascends start (hand ++ (low, s) ∷ []) high) (d : Blocks)
      (w : World) (m : Memory) → length w.hand ≡ suc (first + length hand) → AllHold (hand ++ (low, s) ∷ []) high more d w m →
      AllHold hand low up d (popped w) m
  hand_popped hand low high s up more d w m long x = record { sized = x.sized; heap = x.heap; homes = homes }
    where
      place : (h : Home) → AllHomes hand h → AllHomes (hand ++ (low, s) ∷ []) h
      place h (inl i) = inl i
      place h (inr at) = inr (still_at first hand (low, s) h at)

      same : (h : Home) → AllHomes hand h → (i : ℕ) → h.base ≡ InHand i → slice_get (take (length w.hand - 1) w.hand) i ≡ slice_get w.hand i
      same h (inl at) i e = get_taken (length w.hand - 1) w.hand i (before (cases_order i first))
        where
          before : (i ≡ first) ⊎ ((i < first) ⊎ (first < i)) → i < length w.hand - 1
          before (inl q) = absurd ((others h at i (omega (arith, q))).1.1 e)
          before (inr (inl q)) = omega (arith, q, long)
          before (inr (inr q)) = absurd ((others h at i (omega (arith, q))).1.1 e)
      same h (inr at) i e = get_taken (length w.hand - 1) w.hand i (let l = position_in first hand h at i e in omega (arith, l, long))

      homes : (h : Home) → AllHomes hand h → IsAtHome StandsFixed d (popped w) m h
      homes h i =
          let at = x.homes h (place h i) in
          record {
            value = at.value;
            holds = with_hand w (take (length w.hand - 1) w.hand) h.base at.value (same h i) at.holds;
            stored = at.stored;
            elsewhere = at.elsewhere;
          }
