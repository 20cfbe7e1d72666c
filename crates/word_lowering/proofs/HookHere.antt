-- World and memory where hooks run: all homes hold, those of the values under way too, one behind the other up to an address from which places are free.
use Rattle.std.proofs.Common.{◌≡◌, ◌≢◌, inl, inr, ℕ, zero, suc, ◌+◌, ◌-◌, ◌%◌, ◌≤◌, List, [], ◌∷◌, ◌++◌, length, take}
use Rattle.std.proofs.Common.{refl, ap, subst, ◌∙◌, arith}
use Rattle.nim_meaning.specs.Values.{Value, InHand}
use Rattle.nim_meaning.specs.State.{World, pushed, popped}
use Rattle.flat_code.specs.Shapes.{Shape}
use Rattle.word_code.specs.Memory.{Memory}
use Rattle.word_lowering.proofs.ShapeFacts.{shape_bytes}
use Rattle.word_lowering.proofs.Blocks.{Blocks, Stored}
use Rattle.word_lowering.proofs.BaseValues.{Differ}
use Rattle.word_lowering.proofs.BlockHomes.{Home, home_bytes, SameOrApart, IsOutside}
use Rattle.word_lowering.proofs.HandHomes.{Hand, AtHand, Ascends, ascends_more, AllHold, hand_pushed, hand_popped}

pub ascends_less : (from : ℕ) (hand : Hand) (low : ℕ) (s : Shape) (high : ℕ) → Ascends from (hand ++ (low, s) ∷ []) high
    → Ascends from hand low × (low + shape_bytes s ≤ high)
ascends_less from [] low s high up = (up.0, up.1)
ascends_less from (p ∷ hand) low s high up = let r = ascends_less (p.0 + shape_bytes p.1) hand low s high up.1 in ((up.0, r.0), r.1)

pub ascends_low : (from : ℕ) (hand : Hand) (low : ℕ) → Ascends from hand low → from ≤ low
ascends_low from [] low up = up
ascends_low from (p ∷ hand) low up = let e = ascends_low (p.0 + shape_bytes p.1) hand low up.1 in let f = up.0 in omega (arith, e, f)

-- up to a later address
pub ascends_past : (from : ℕ) (hand : Hand) (low high : ℕ) → low ≤ high → Ascends from hand low → Ascends from hand high
ascends_past from [] low high le up = omega (arith, le, up)
ascends_past from (p ∷ hand) low high le up = (up.0, ascends_past (p.0 + shape_bytes p.1) hand low high le up.1)

-- ---- whole words

abbrev pub AllWhole : Hand → Type 0
AllWhole [] = Unit {0}
AllWhole (p ∷ hand) = (p.0 % 4 ≡ 0) × AllWhole hand

pub whole_more : (hand : Hand) (p : ℕ × Shape) → AllWhole hand → p.0 % 4 ≡ 0 → AllWhole (hand ++ p ∷ [])
whole_more [] p all e = (e, tt)
whole_more (q ∷ hand) p all e = (all.0, whole_more hand p all.1 e)

pub whole_less : (hand : Hand) (p : ℕ × Shape) → AllWhole (hand ++ p ∷ []) → AllWhole hand × (p.0 % 4 ≡ 0)
whole_less [] p all = (tt, all.0)
whole_less (q ∷ hand) p all = let r = whole_less hand p all.1 in ((all.0, r.0), r.1)

pub whole_at : (i : ℕ) (hand : Hand) (h : Home) → AllWhole hand → AtHand i hand h → h.at % 4 ≡ 0
whole_at i [] h all at = absurd at
whole_at i (p ∷ hand) h all (inl e) = subst (λ (z : Home). z.at % 4 ≡ 0) e all.0
whole_at i (p ∷ hand) h all (inr at) = whole_at (suc i) hand h all.1 at

long_more : {A : Type 0} (xs : List A) (x : A) → length (xs ++ x ∷ []) ≡ suc (length xs)
long_more [] x = refl
long_more (y ∷ xs) x = ap suc (long_more xs x)

long_taken : {A : Type 0} (n : ℕ) (xs : List A) → n ≤ length xs → length (take n xs) ≡ n
long_taken zero xs le = refl
long_taken (suc n) [] le = absurd (omega (arith, le))
long_taken (suc n) (x ∷ xs) le = ap suc (long_taken n xs (omega (arith, le)))

module _ (StandsFixed : (place : ℕ) → List ℕ → Type 0) (Homes : Home → Type 0) (apart : (g h : Home) → Homes g → Homes h → SameOrApart g h) (start : ℕ)
    (under : (h : Home) → Homes h → h.at + home_bytes h ≤ start)
    (first : ℕ)
    (others : (h : Home) → Homes h → (i : ℕ) → first ≤ i → Differ h.base (InHand i) × (Differ (InHand i) h.base × (h.base ≢ InHand i))) where
  pub record Here (low top : ℕ) (hand : Hand) (d : Blocks) (w : World) (m : Memory) : Type 0 where
    pub up : Ascends start hand low
    pub holds : AllHold StandsFixed Homes apart start under first others hand low up d w m
    pub long : length w.hand ≡ first + length hand
    pub fits : low ≤ top

  -- a value comes under way, which is stored there
  pub pushes : (low top : ℕ) (hand : Hand) (d : Blocks) (w : World) (m : Memory) → Here low top hand d w m → (s : Shape) (v : Value)
      → low + shape_bytes s ≤ top → Stored StandsFixed d m low s v → IsOutside m low (shape_bytes s)
      → Here (low + shape_bytes s) top (hand ++ (low, s) ∷ []) d (pushed w v) m
  pushes low top hand d w m x s v fits stored outside = record {
    up = ascends_more start hand low s x.up;
    holds = hand_pushed StandsFixed Homes apart start under first others hand low x.up d w m x.holds x.long s v stored outside;
    long = (let a = long_more w.hand v in let b = x.long in let c = long_more hand (low, s) in omega (arith, a, b, c));
    fits = fits;
  }

  -- the last one is taken
  pub pops : (high top low : ℕ) (s : Shape) (hand : Hand) (d : Blocks) (w : World) (m : Memory) → Here high top (hand ++ (low, s) ∷ []) d w m
      → Here low top hand d (popped w) m
  pops high top low s hand d w m x =
      let r = ascends_less start hand low s high x.up in
      let a = x.long in let b = long_more hand (low, s) in let long : length w.hand ≡ suc (first + length hand) = omega (arith, a, b) in
      let one_less : length (take (length w.hand - 1) w.hand) ≡ length w.hand - 1 = long_taken (length w.hand - 1) w.hand (omega arith) in
      let le = r.1 in let most = x.fits in
      record {
        up = r.0;
        holds = hand_popped StandsFixed Homes apart start under first others hand low high s r.0 x.up d w m long x.holds;
        long = one_less ∙ (let e : length w.hand - 1 ≡ first + length hand = omega (arith, long) in e);
        fits = omega (arith, le, most);
      }
