-- Where hooks are led: a location has an address, of which the word is known, with what stands there: in a home, in the hand, in a block, or in a constant
-- of the data, where nothing is put. And which two words are handles.
use Rattle.std.proofs.Common.{◌≡◌, ◌≢◌, ◌⊎◌, inl, inr, ℕ, suc, ◌+◌, ◌*◌, ◌%◌, ◌^◌, ◌<◌, ◌≤◌, Bool, true, false, List, [], ◌∷◌, ◌++◌, length, Option, Some, None}
use Rattle.std.proofs.Common.{refl, sym, ap, subst, ◌∙◌, arith}
use Rattle.std.proofs.lemmas.Bool.{false≢true, true≢false}
use Rattle.std.proofs.lemmas.Nat.{mod_below, mul-mod_second}
use Rattle.nim_meaning.specs.Values.{Value, Parts, Handle, Fixed, Vacant, Values, count, Location, InBlock, InHand, Made, at_base, deeper, length_of, block_of}
use Rattle.nim_meaning.specs.Values.{item_of, nth_part, part}
use Rattle.nim_meaning.specs.State.{World, load, is_there}
use Rattle.flat_code.specs.Pieces.{words_bytes}
use Rattle.flat_code.specs.Shapes.{Shape, block, elements}
use Rattle.hook_code.specs.Surroundings.{StaysIf}
use Rattle.word_code.specs.declared.word.WordOperation.TheVariants.{Add, Multiply}
use Rattle.word_code.specs.Words.{computed}
use Rattle.word_code.specs.Memory.{Memory}
use Rattle.word_code.specs.RoutineTable.{IsRewritten}
use Rattle.word_code.proofs.ForCallers.{Sized}
use Rattle.word_lowering.proofs.ShapeFacts.{shape_bytes}
use Rattle.word_lowering.proofs.ShapePaths.{Step, PathTo, path_on}
use Rattle.word_lowering.proofs.Blocks.{Blocks, AreLater, Inside, Bytes, Each, Holds_for, IsPlace, IsEmptyIf, Stored}
use Rattle.word_lowering.proofs.BaseValues.{IsOwn, Differ}
use Rattle.word_lowering.proofs.BlockHomes.{Home, home_bytes, SameOrApart, LeadsTo, read_at}
use Rattle.word_lowering.proofs.BlockPaths.{LeadsInBlock, leads_later as block_later}
use Rattle.word_lowering.proofs.BlockWrites.{Put, MayPut, put_at}
use Rattle.word_lowering.proofs.FixedParts.{fixed_member, fixed_step}
use Rattle.word_lowering.proofs.FixedValues.{AllAreWords, FixedAt}
use Rattle.word_lowering.proofs.HandHomes.{Hand, AtHand, hand_home, still_at, Ascends, AllHomes, all_apart, AllHold}

-- ---- the word of a sum

pub sum_word : (a at k : ℕ) → a ≡ at % 2 ^ 32 → (a + k) % 2 ^ 32 ≡ (at + k) % 2 ^ 32
sum_word a at k e = omega (arith, e)

-- of an element of so many bytes
pub element_word : (p i n : ℕ) → computed Add p (computed Multiply i (n % 2 ^ 32) % 2 ^ 32) % 2 ^ 32 ≡ (p + i * n) % 2 ^ 32
element_word p i n = let e = mul-mod_second i n (2 ^ 32) in omega (arith, e)

-- ---- values

pub part_deeper : (v : Value) (path : List ℕ) (i : ℕ) → nth_part (part v path) i ≡ part v (path ++ i ∷ [])
part_deeper v [] i = refl
part_deeper v (j ∷ path) i = part_deeper (nth_part v j) path i

of_elements : (s t : Shape) → elements s ≡ elements t → s ≡ t
of_elements s t e = cc

of_parts : (vs us : Values) → Parts vs ≡ Parts us → vs ≡ us
of_parts vs us e = cc

-- ---- handles

pub record IsHandleFor (StandsFixed : (place : ℕ) → List ℕ → Type 0) (d : Blocks) (s : Shape) (long : ℕ) (b : Option ℕ) (n p : ℕ) : Type 0 where
  pub length : n ≡ long
  pub empty : IsEmptyIf b long
  pub place : IsPlace d s b p

-- where nothing stands any two words are
abbrev pub AreHandle : (StandsFixed : (place : ℕ) → List ℕ → Type 0) → Blocks → Shape → Value → (n p : ℕ) → Type 0
AreHandle StandsFixed d s Vacant n p = Unit {0}
AreHandle StandsFixed d s (Handle long b) n p = IsHandleFor StandsFixed d s long b n p
AreHandle StandsFixed d block (Fixed text) n p = (n ≡ length text) × StandsFixed p text
AreHandle StandsFixed d s v n p = ⊥

module _ (StandsFixed : (place : ℕ) → List ℕ → Type 0) where
  pub record IsHandle (d : Blocks) (s : Shape) (v : Value) (n p : ℕ) : Type 0 where
    pub few : n < 2 ^ 32
    pub near : p < 2 ^ 32
    pub are : AreHandle StandsFixed d s v n p

  place_later : (d e : Blocks) → AreLater d e → (s : Shape) (b : Option ℕ) (p : ℕ) → IsPlace d s b p → IsPlace e s b p
  place_later d e ahead s None p is = is
  place_later d e ahead s (Some k) p is = (
    omega (arith, is.0, ahead.born),
    subst (Holds_for s) (sym (ahead.inside k is.0)) is.1,
    λ x there. let y = ahead.places k x is.0 there in is.2 y.0 y.1 ∙ y.2,
  )

  are_later : (d e : Blocks) → AreLater d e → (s : Shape) (v : Value) (n p : ℕ) → AreHandle StandsFixed d s v n p → AreHandle StandsFixed e s v n p
  are_later d e ahead s Vacant n p h = h
  are_later d e ahead s (Handle long b) n p h = record { length = h.length; empty = h.empty; place = place_later d e ahead s b p h.place }
  are_later d e ahead block (Fixed text) n p h = h
  are_later d e ahead s v n p h = absurd h

  pub handle_later : (d e : Blocks) → AreLater d e → (s : Shape) (v : Value) (n p : ℕ) → IsHandle d s v n p → IsHandle e s v n p
  handle_later d e ahead s v n p h = record { few = h.few; near = h.near; are = are_later d e ahead s v n p h.are }

  -- ---- of a sequence in a constant, which no place has as its own

  pub record IsLent (own : Bool) (s : Shape) (v : Value) (n p : ℕ) : Type 0 where
    pub of : Shape
    pub all : Values
    pub shape : s ≡ elements of
    pub value : v ≡ Parts all
    pub lent : own ≡ false
    pub few : n < 2 ^ 32
    pub near : p < 2 ^ 32
    pub length : n ≡ count all
    pub words : List ℕ
    pub whole : p % 4 ≡ 0
    pub stands : StandsFixed p (words_bytes words)
    pub are : AllAreWords StandsFixed words of all

  abbrev pub IsSomeHandle : (own : Bool) → Blocks → Shape → Value → (n p : ℕ) → Type 0
  IsSomeHandle own d s v n p = IsHandle d s v n p ⊎ IsLent own s v n p

  pub own_handle : (d : Blocks) (s : Shape) (v : Value) (n p : ℕ) → IsSomeHandle true d s v n p → IsHandle d s v n p
  own_handle d s v n p (inl h) = h
  own_handle d s v n p (inr q) = absurd (true≢false q.lent)

  pub some_later : (own : Bool) (d e : Blocks) → AreLater d e → (s : Shape) (v : Value) (n p : ℕ) → IsSomeHandle own d s v n p → IsSomeHandle own e s v n p
  some_later own d e ahead s v n p (inl h) = inl (handle_later d e ahead s v n p h)
  some_later own d e ahead s v n p (inr q) = inr q

  pub some_small : (own : Bool) (d : Blocks) (s : Shape) (v : Value) (n p : ℕ) → IsSomeHandle own d s v n p → (n < 2 ^ 32) × (p < 2 ^ 32)
  some_small own d s v n p (inl h) = (h.few, h.near)
  some_small own d s v n p (inr q) = (q.few, q.near)

  -- a sequence gets shorter
  pub shortened : (d : Blocks) (s : Shape) (v : Value) (n p k : ℕ) → (v ≡ Vacant → ⊥) → IsHandle d (elements s) v n p → k ≤ length_of v
      → IsHandle d (elements s) (Handle k (block_of v)) k p
  shortened d s Vacant n p k sure h less = absurd (sure refl)
  shortened d s (Handle long None) n p k sure h less =
      let e = h.are.length in let z = h.are.empty in let f = h.few in
      record { few = omega (arith, e, f, less); near = h.near; are = record { length = refl; empty = omega (arith, z, less); place = h.are.place } }
  shortened d s (Handle long (Some b)) n p k sure h less =
      let e = h.are.length in let f = h.few in
      record { few = omega (arith, e, f, less); near = h.near; are = record { length = refl; empty = tt; place = h.are.place } }
  shortened d s v n p k sure h less = absurd h.are

  -- ---- locations

  module _ (Homes : Home → Type 0) (first : ℕ) where
    pub record InHome (own : Bool) (hand : Hand) (l : Location) (at : ℕ) (t : Shape) : Type 0 where
      pub home : Home
      pub among : Homes home ⊎ AtHand first hand home
      pub base : l.base ≡ home.base
      pub offset : ℕ
      pub way : PathTo home.shape l.path offset t
      pub address : at ≡ home.at + offset
      pub owned : own ≡ true → IsOwn l.base

    pub record InBlocks (d : Blocks) (l : Location) (at : ℕ) (t : Shape) : Type 0 where
      pub block : ℕ
      pub base : l.base ≡ InBlock block
      pub leads : LeadsInBlock d block l.path at t

    -- a part of a value that nobody owns
    pub record InFixed (own : Bool) (l : Location) (at : ℕ) (t : Shape) : Type 0 where
      pub root : Value
      pub base : l.base ≡ Made root
      pub fixed : FixedAt StandsFixed at t (part root l.path)
      pub lent : own ≡ false

    abbrev pub IsLed : (own : Bool) → Hand → Blocks → Location → (at : ℕ) → Shape → Type 0
    IsLed own hand d l at t = InHome own hand l at t ⊎ (InBlocks d l at t ⊎ InFixed own l at t)

    pub record Leads (own : Bool) (hand : Hand) (d : Blocks) (l : Location) (a : ℕ) (t : Shape) : Type 0 where
      pub at : ℕ
      pub word : a ≡ at % 2 ^ 32
      pub led : IsLed own hand d l at t

    pub leads_small : (own : Bool) (hand : Hand) (d : Blocks) (l : Location) (a : ℕ) (t : Shape) → Leads own hand d l a t → a < 2 ^ 32
    leads_small own hand d l a t x = subst (λ n. n < 2 ^ 32) (sym x.word) (mod_below x.at (2 ^ 32) (omega arith))

    pub leads_later : (own : Bool) (hand : Hand) (d e : Blocks) → AreLater d e → (l : Location) (a : ℕ) (t : Shape) → Leads own hand d l a t
        → Leads own hand e l a t
    leads_later own hand d e ahead l a t x = record { at = x.at; word = x.word; led = by x.led }
      where
        by : IsLed own hand d l x.at t → IsLed own hand e l x.at t
        by (inl f) = inl f
        by (inr (inl f)) = inr (inl (record { block = f.block; base = f.base; leads = block_later d e ahead f.block l.path x.at t f.leads }))
        by (inr (inr f)) = inr (inr f)

    pub leads_read : (hand : Hand) (d : Blocks) (l : Location) (a : ℕ) (t : Shape) → Leads true hand d l a t → Leads false hand d l a t
    leads_read hand d l a t x = record { at = x.at; word = x.word; led = by x.led }
      where
        by : IsLed true hand d l x.at t → IsLed false hand d l x.at t
        by (inl f) = inl (record {
          home = f.home;
          among = f.among;
          base = f.base;
          offset = f.offset;
          way = f.way;
          address = f.address;
          owned = λ e. absurd (false≢true e);
        })
        by (inr (inl f)) = inr (inl f)
        by (inr (inr f)) = absurd (true≢false f.lent)

    pub leads_more : (own : Bool) (hand : Hand) (d : Blocks) (l : Location) (a : ℕ) (t : Shape) (p : ℕ × Shape) → Leads own hand d l a t
        → Leads own (hand ++ p ∷ []) d l a t
    leads_more own hand d l a t p x = record { at = x.at; word = x.word; led = by x.led }
      where
        among : (h : Home) → Homes h ⊎ AtHand first hand h → Homes h ⊎ AtHand first (hand ++ p ∷ []) h
        among h (inl i) = inl i
        among h (inr i) = inr (still_at first hand p h i)

        by : IsLed own hand d l x.at t → IsLed own (hand ++ p ∷ []) d l x.at t
        by (inl f) = inl (record {
          home = f.home;
          among = among f.home f.among;
          base = f.base;
          offset = f.offset;
          way = f.way;
          address = f.address;
          owned = f.owned;
        })
        by (inr f) = inr f

    -- one part further: of a tuple, an object or an array
    pub to_step : (own : Bool) (hand : Hand) (d : Blocks) (l : Location) (a : ℕ) (t : Shape) (i k : ℕ) (u : Shape) → Step t i k u → Leads own hand d l a t
        → Leads own hand d (deeper l i) ((a + k) % 2 ^ 32) u
    to_step own hand d l a t i k u step x = record { at = x.at + k; word = sum_word a x.at k x.word; led = by x.led }
      where
        in_block : (b : ℕ) → LeadsInBlock d b l.path x.at t → LeadsInBlock d b (l.path ++ i ∷ []) (x.at + k) u
        in_block b f = record {
          element = f.element;
          rest = f.rest ++ i ∷ [];
          of = f.of;
          offset = f.offset + k;
          is = ap (λ q. q ++ i ∷ []) f.is;
          born = f.born;
          inside = f.inside;
          way = path_on f.of f.rest f.offset t i k u f.way step;
          address = λ y there. let e = f.address y there in omega (arith, e);
        }

        by : IsLed own hand d l x.at t → IsLed own hand d (deeper l i) (x.at + k) u
        by (inl f) = inl (record {
          home = f.home;
          among = f.among;
          base = f.base;
          offset = f.offset + k;
          way = path_on f.home.shape l.path f.offset t i k u f.way step;
          address = let e = f.address in omega (arith, e);
          owned = f.owned;
        })
        by (inr (inl f)) = inr (inl (record { block = f.block; base = f.base; leads = in_block f.block f.leads }))
        by (inr (inr f)) = inr (inr (record {
          root = f.root;
          base = f.base;
          fixed = subst (FixedAt StandsFixed (x.at + k) u) (part_deeper f.root l.path i)
              (fixed_step StandsFixed x.at t (part f.root l.path) i k u step f.fixed);
          lent = f.lent;
        }))

    each_is : (s : Shape) (i : Inside) → Holds_for (elements s) i → i ≡ Each s
    each_is s Bytes h = absurd h
    each_is s (Each t) h = ap Each h

    -- an element of a sequence
    in_block : (own : Bool) (hand : Hand) (d : Blocks) (l : Location) (s : Shape) (v : Value) (n p i : ℕ) → (v ≡ Vacant → ⊥)
        → IsHandle d (elements s) v n p → i < length_of v → Leads own hand d (item_of v l i) ((p + i * shape_bytes s) % 2 ^ 32) s
    in_block own hand d l s Vacant n p i sure h less = absurd (sure refl)
    in_block own hand d l s (Handle long None) n p i sure h less = let z = h.are.empty in absurd (omega (arith, z, less))
    in_block own hand d l s (Handle long (Some b)) n p i sure h less = record {
      at = p + i * shape_bytes s;
      word = refl;
      led = inr (inl (record {
        block = b;
        base = refl;
        leads = record {
          element = i;
          rest = [];
          of = s;
          offset = 0;
          is = refl;
          born = h.are.place.0;
          inside = each_is s (d.inside b) h.are.place.1;
          way = (refl, refl);
          address = λ y there. let e = h.are.place.2 y there in omega (arith, e);
        };
      }));
    }
    in_block own hand d l s v n p i sure h less = absurd h.are

    -- of one in a constant
    in_fixed : (own : Bool) (hand : Hand) (d : Blocks) (l : Location) (s : Shape) (all : Values) (n p i : ℕ)
        → (q : IsLent own (elements s) (Parts all) n p) → StaysIf own l (Parts all) → i < count all
        → Leads own hand d (deeper l i) ((p + i * shape_bytes s) % 2 ^ 32) s
    in_fixed true hand d l s all n p i q stays less = absurd (true≢false q.lent)
    in_fixed false hand d l s all n p i q stays less = record {
      at = p + i * shape_bytes s;
      word = refl;
      led = inr (inr (record {
        root = stays.0;
        base = stays.1;
        fixed = subst (FixedAt StandsFixed (p + i * shape_bytes s) s) (ap (λ v. nth_part v i) (sym stays.2) ∙ part_deeper stays.0 l.path i)
            (fixed_member StandsFixed p q.words s all i less q.whole q.stands words);
        lent = refl;
      }));
    }
      where
        words : AllAreWords StandsFixed q.words s all
        words =
            subst (λ u. AllAreWords StandsFixed q.words u all) (sym (of_elements s q.of q.shape))
            (subst (AllAreWords StandsFixed q.words q.of) (sym (of_parts all q.all q.value)) q.are)

    pub to_element : (own : Bool) (hand : Hand) (d : Blocks) (l : Location) (s : Shape) (v : Value) (n p i : ℕ) → (v ≡ Vacant → ⊥)
        → IsSomeHandle own d (elements s) v n p → StaysIf own l v → i < length_of v → Leads own hand d (item_of v l i) ((p + i * shape_bytes s) % 2 ^ 32) s
    to_element own hand d l s v n p i sure (inl h) stays less = in_block own hand d l s v n p i sure h less
    to_element own hand d l s v n p i sure (inr q) stays less =
        subst (λ u. Leads own hand d (item_of u l i) ((p + i * shape_bytes s) % 2 ^ 32) s) (sym q.value)
        (in_fixed own hand d l s q.all n p i (subst (λ u. IsLent own (elements s) u n p) q.value q) (subst (StaysIf own l) q.value stays)
        (subst (λ u. i < length_of u) q.value less))

    -- a value under way
    at_last : (i : ℕ) (hand : Hand) (p : ℕ × Shape) → AtHand i (hand ++ p ∷ []) (hand_home (i + length hand) p)
    at_last i [] p = inl (ap (λ k. hand_home k p) (let e : i ≡ i + 0 = omega arith in e))
    at_last i (q ∷ hand) p = inr (subst (λ k. AtHand (suc i) (hand ++ p ∷ []) (hand_home k p))
        (let e : suc i + length hand ≡ i + suc (length hand) = omega arith in e) (at_last (suc i) hand p))

    pub hand_leads : (hand : Hand) (d : Blocks) (low : ℕ) (s : Shape) → low < 2 ^ 32
        → Leads true (hand ++ (low, s) ∷ []) d (at_base (InHand (first + length hand))) low s
    hand_leads hand d low s small = record {
      at = low;
      word = omega (arith, small);
      led = inl (record {
        home = hand_home (first + length hand) (low, s);
        among = inr (at_last first hand (low, s));
        base = refl;
        offset = 0;
        way = (refl, refl);
        address = omega arith;
        owned = λ e. tt;
      });
    }

-- ---- what stands there

module _ (StandsFixed : (place : ℕ) → List ℕ → Type 0) (Homes : Home → Type 0) (apart : (g h : Home) → Homes g → Homes h → SameOrApart g h) (start : ℕ)
    (under : (h : Home) → Homes h → h.at + home_bytes h ≤ start)
    (first : ℕ)
    (others : (h : Home) → Homes h → (i : ℕ) → first ≤ i → Differ h.base (InHand i) × (Differ (InHand i) h.base × (h.base ≢ InHand i)))
    (hand : Hand) (low : ℕ) (up : Ascends start hand low) (d : Blocks) (w : World) (m : Memory)
    (x : AllHold StandsFixed Homes apart start under first others hand low up d w m) where
  abbrev All : Home → Type 0
  All = AllHomes StandsFixed Homes apart start under first others hand

  abbrev all_away : (g h : Home) → All g → All h → SameOrApart g h
  all_away = all_apart StandsFixed Homes apart start under first others hand low up

  abbrev Led : (own : Bool) (l : Location) (at : ℕ) (t : Shape) → Type 0
  Led own l at t = IsLed StandsFixed Homes first own hand d l at t

  abbrev pub Held : (own : Bool) (l : Location) (at : ℕ) (t : Shape) → Type 0
  Held own l at t = InHome StandsFixed Homes first own hand l at t ⊎ InBlocks StandsFixed Homes first d l at t

  abbrev as_leads : (own : Bool) (l : Location) (at : ℕ) (t : Shape) → Held own l at t → LeadsTo StandsFixed All all_away d l at t
  as_leads own l at t (inl f) = inl (record { home = f.home; among = f.among; base = f.base; offset = f.offset; way = f.way; address = f.address })
  as_leads own l at t (inr f) = inr (record { block = f.block; base = f.base; leads = f.leads })

  -- what may be put somewhere is in a home or in a block
  pub held_so : (l : Location) (at : ℕ) (t : Shape) → Led true l at t → Held true l at t
  held_so l at t (inl f) = inl f
  held_so l at t (inr (inl f)) = inr f
  held_so l at t (inr (inr f)) = absurd (true≢false f.lent)

  pub stored_there : (own : Bool) (l : Location) (at : ℕ) (t : Shape) → Held own l at t → is_there w l ≡ true → Stored StandsFixed d m at t (load w l)
  stored_there own l at t f there =
      read_at StandsFixed All all_away d w m x l at t (as_leads own l at t f) there

  may_put : (l : Location) (at : ℕ) (t : Shape) (f : Held true l at t) (other : Memory) (sized : Sized other)
      (new : Value) (written : IsRewritten m other at (shape_bytes t)) (there : Stored StandsFixed d other at t new)
      → MayPut StandsFixed All all_away d w m x other sized l at t new written there (as_leads true l at t f)
  may_put l at t (inl f) other sized new written there = f.owned refl
  may_put l at t (inr f) other sized new written there = tt

  pub put_there : (l : Location) (at : ℕ) (t : Shape) → Led true l at t → is_there w l ≡ true → (other : Memory) → Sized other
      → (new : Value) → IsRewritten m other at (shape_bytes t) → Stored StandsFixed d other at t new → Put StandsFixed All all_away d w m x l new other
  put_there l at t f live other sized new written there =
      put_at StandsFixed All all_away d w m x other sized l at t new written there (as_leads true l at t (held_so l at t f))
      (may_put l at t (held_so l at t f) other sized new written there) live
