-- Values under way: one that has no place any more ends, a copy is answered, and one that was handed over is sunk into a place.
use Rattle.std.proofs.Common.{◌≡◌, refl, sym, ap, subst, ◌∙◌, arith, ℕ, zero, suc, ◌+◌, ◌<◌, ◌≤◌, inl, inr, ◌⊎◌, List, [], ◌∷◌, ◌++◌, length, Some}
use Rattle.std.specs.Prelude.{◌-◌, slice_get, take}
use Rattle.std.proofs.lemmas.Option.{none-some, same_Some}
use Rattle.nim_types.specs.Forms.{Form}
use Rattle.nim_meaning.specs.Values.{Value, part, put_part, Base, InBlock, InHand, Location, Given, vacant}
use Rattle.nim_meaning.specs.Marks.{Member, Distinct}
use Rattle.nim_meaning.specs.State.{World, pushed, popped}
use Rattle.nim_meaning.specs.Deeds.{Deed, Pops, does, give, takes, ◌>>◌}
use Rattle.nim_meaning.specs.Lifted.{walk, copying, sinking, ends_at, in_hand, given_up, under_way, copied, assigned}
use Rattle.holders.specs.Owned.{IsBase, whole, hand_may, At, From, here, Full, Constant, Has, Stays}
use Rattle.holders.specs.Sure.{Sure}
use Rattle.holders.specs.Holders.{held_by}
use Rattle.holders.specs.Walks.{Ended, GivenUp}
use Rattle.holders.proofs.HolderCounts.{before_last, pushed_counts, popped_counts}
use Rattle.holders.proofs.Guards.{sure_takes}
use Rattle.holders.specs.Owned as owned
use Rattle.holders.proofs.BaseChanges.{pushed_there, pushed_elsewhere, popped_elsewhere}
use Rattle.holders.proofs.Sure.{sure_then}
use Rattle.holders.specs.Becoming.{taken_in, Becomes, Gives, HeldOnce, KeepsHolders, none, times, LosesNone}
use Rattle.holders.proofs.Owning.{has_stays, has_none}
use Rattle.holders.proofs.Ending.{ends}
use Rattle.holders.proofs.Copying.{Copied, copies, vacant_none}
use Rattle.holders.proofs.Sinking.{Sunk, Clear, sinks}

-- ---- the last value under way

record Last (hand : List Value) (x : Value) (n : ℕ) : Type 0 where
  others : List Value
  is : hand ≡ others ++ x ∷ []
  count : length others ≡ n

last_is : (hand : List Value) (n : ℕ) (x : Value) → slice_get hand n ≡ Some x → length hand ≡ suc n → Last hand x n
last_is [] n x e q = absurd (none-some x e)
last_is (y ∷ []) zero x e q = record { others = []; is = ap (λ z. z ∷ []) (same_Some y x e); count = refl }
last_is (y ∷ z ∷ hand) zero x e q = absurd (omega (arith, q))
last_is (y ∷ []) (suc n) x e q = absurd (none-some x e)
last_is (y ∷ z ∷ hand) (suc n) x e q =
    let more = last_is (z ∷ hand) n x e (omega (arith, q)) in
    record { others = y ∷ more.others; is = ap (λ zs. y ∷ zs) more.is; count = ap suc more.count }

in_hand_is : {world : World} {n : ℕ} {x : Value} → IsBase world (InHand n) x → slice_get world.hand n ≡ Some x
in_hand_is (owned.in_hand e) = e

length_more : (xs : List Value) (y : Value) → length (xs ++ y ∷ []) ≡ suc (length xs)
length_more [] y = refl
length_more (x ∷ xs) y = ap suc (length_more xs y)

hand_below : (xs : List Value) (i : ℕ) (x : Value) → slice_get xs i ≡ Some x → i < length xs
hand_below [] i x e = absurd (none-some x e)
hand_below (z ∷ xs) zero x e = omega arith
hand_below (z ∷ xs) (suc i) x e = omega (arith, hand_below xs i x e)

-- what stands somewhere isn't the next one under way
pub not_next : (world : World) (b : Base) (x : Value) → IsBase world b x → b ≡ InHand (length world.hand) → ⊥
not_next world b x h e = too_far (subst (λ b. IsBase world b x) e h)
  where
    too_far : IsBase world (InHand (length world.hand)) x → ⊥
    too_far h = omega (arith, hand_below world.hand (length world.hand) x (in_hand_is h))

pub no_block : (n k : ℕ) → InHand n ≡ InBlock k → ⊥
no_block n k e = subst (λ b. is_hand b) e tt
  where
    is_hand : Base → Type 0
    is_hand (InHand n) = Unit {0}
    is_hand b = ⊥

-- ---- one more is under way

pub at_hand : (world : World) (v : Value) → At (pushed world v) (in_hand world) v
at_hand world v = record { base = pushed_there world v; part = whole; may = hand_may }

pushed_once : (others : ℕ → ℕ) (world : World) (v : Value) → HeldOnce (λ k. held_by k v + others k) world → HeldOnce others (pushed world v)
pushed_once others world v h k = omega (arith, h k, pushed_counts k world v)

-- the last one, without handles, goes
module _ (world after : World) (v x : Value) (is : IsBase after (InHand (length world.hand)) x) (hand : length after.hand ≡ length (pushed world v).hand) where
  last : Last after.hand x (length world.hand)
  last = last_is after.hand (length world.hand) x (in_hand_is is) (hand ∙ length_more world.hand v)

  pub popped_stays : (b : Base) (y : Value) → IsBase after b y → (b ≡ InHand (length world.hand) → ⊥) → IsBase (popped after) b y
  popped_stays b y h d = popped_elsewhere after last.others x last.is h (λ e. d (e ∙ ap InHand last.count))

  pub popped_hand : length (popped after).hand ≡ length world.hand
  popped_hand = ap (λ (hand : List Value). length (take (length hand - 1) hand)) last.is ∙ ap (λ (hand : List Value). length hand) (before_last last.others x)
      ∙ last.count

  popped_once : (others : ℕ → ℕ) → HeldOnce others after → HeldOnce (λ k. held_by k x + others k) (popped after)
  popped_once others h k = omega (arith, h k, popped_counts k after last.others x last.is)

-- ---- a value that has no place any more ends

pub gives_up : (f : Form) (v : Value) (bs : List ℕ) (world : World) → Has world Full f v bs → Distinct bs →
    Sure (given_up f v) (λ u after. GivenUp v bs world after) world
gives_up f v bs world h d =
    sure_then (ends_at f (in_hand world)) (λ u. does Pops) (λ u after. Ended f (in_hand world) v bs (pushed world v) after)
    (λ u after. GivenUp v bs world after) (pushed world v)
    (ends f (in_hand world) v v bs (pushed world v) (at_hand world v) refl
    (has_stays world (pushed world v) (λ k x m is. pushed_elsewhere world v is) h) d (λ k e m. no_block (length world.hand) k e))
    (λ u after t. record {
      stays = record { hand = popped_hand world after v t.now t.is t.once.stays.hand; frames = t.once.stays.frames };
      elsewhere = λ b x is far.
          popped_stays world after v t.now t.is t.once.stays.hand b x
          (t.elsewhere b x (pushed_elsewhere world v is) (not_next world b x is) far) (not_next world b x is);
      loses = λ k. omega (arith, t.loses k);
      once = λ others q k. omega (
        arith,
        has_none refl t.has k,
        popped_once world after v t.now t.is t.once.stays.hand others (t.once.held others (pushed_once others world v q)) k,
      );
    })

-- ---- a copy that is answered

pub copy_given : (f : Form) (from : Location) (u v : Value) (bs : List ℕ) (world : World) → From world from u v → Has world Constant f v bs →
    Sure (copied f from) (λ x after. Gives f x [] world after × KeepsHolders none (λ k. held_by k x) world after) world
copy_given f from u v bs world source h =
    let to = in_hand world in
    let start = pushed world (vacant f) in
    let out : World → Value → Deed Value = λ after new. does Pops >> give new in
    let Q : Value → World → Type 0 = λ x after. Gives f x [] world after × KeepsHolders none (λ k. held_by k x) world after in
    sure_then (walk copying f to from) (λ u. takes to out) (λ u after. Copied f to (vacant f) start after)
    Q start
    (copies f to from (vacant f) u v bs start (at_hand world (vacant f)) refl
    (record { base = pushed_elsewhere world (vacant f) source.base; there = source.there; is = source.is })
    (has_stays world start (λ k x m is. pushed_elsewhere world (vacant f) is) h) (not_next world from.base u source.base)
    (λ k e m. no_block (length world.hand) k e))
    (λ u after t. sure_takes {l = to} out Q (record { base = t.is; there = here; is = refl }) tt t.has (
      record {
        blocks = t.blocks;
        has = has_stays after (popped after) (λ k x m is. popped_stays world after (vacant f) t.now t.is t.once.stays.hand (InBlock k) x is
            (λ e. no_block (length world.hand) k (sym e))) t.has;
        distinct = t.distinct;
        came = λ k m. inr (t.fresh k m);
        grows = t.grows;
        loses = λ k. omega (arith, t.loses k);
        elsewhere = λ b y is. popped_stays world after (vacant f) t.now t.is t.once.stays.hand b y
            (t.elsewhere b y (pushed_elsewhere world (vacant f) is) (not_next world b y is)) (not_next world b y is);
        stays = record { hand = popped_hand world after (vacant f) t.now t.is t.once.stays.hand; frames = t.once.stays.frames };
      },
      λ others q. popped_once world after (vacant f) t.now t.is t.once.stays.hand others
          (t.once.held others (pushed_once others world (vacant f) (λ k. omega (arith, q k, vacant_none f k)))),
    ))

-- ---- a value that becomes another one

pub under_way_gives : (f : Form) (v : Value) (becomes : Location → Deed (Unit {0})) (world : World) →
    Sure (becomes (in_hand world)) (λ u after. Becomes f (in_hand world) v [] [] (pushed world v) after × KeepsHolders none none (pushed world v) after)
    (pushed world v) →
    Sure (under_way v becomes) (λ x after. Gives f x [] world after × KeepsHolders (λ k. held_by k v) (λ k. held_by k x) world after) world
under_way_gives f v becomes world h =
    let to = in_hand world in
    let out : World → Value → Deed Value = λ after new. does Pops >> give new in
    let Q : Value → World → Type 0 = λ x after. Gives f x [] world after × KeepsHolders (λ k. held_by k v) (λ k. held_by k x) world after in
    sure_then (becomes to) (λ u. takes to out)
    (λ u after. Becomes f to v [] [] (pushed world v) after × KeepsHolders none none (pushed world v) after) Q (pushed world v) h
    (λ u after t. sure_takes {l = to} out Q (record { base = t.0.is; there = here; is = refl }) tt t.0.has (
      record {
        blocks = t.0.blocks;
        has = has_stays after (popped after) (λ k x m is. popped_stays world after v t.0.now t.0.is t.0.stays.hand (InBlock k) x is
            (λ e. no_block (length world.hand) k (sym e))) t.0.has;
        distinct = t.0.distinct;
        came = λ k m. new_one k (t.0.came k m);
        grows = t.0.grows;
        loses = λ k. omega (arith, t.0.loses k);
        elsewhere = λ b y is. popped_stays world after v t.0.now t.0.is t.0.stays.hand b y
            (t.0.elsewhere b y (pushed_elsewhere world v is) (not_next world b y is) (λ k e m. elim m [ ])) (not_next world b y is);
        stays = record { hand = popped_hand world after v t.0.now t.0.is t.0.stays.hand; frames = t.0.stays.frames };
      },
      λ others q. popped_once world after v t.0.now t.0.is t.0.stays.hand others
          (λ k. omega (arith, t.1 others (λ j. omega (arith, pushed_once others world v q j)) k)),
    ))
  where
    new_one : (k : ℕ) → Member k [] ⊎ (Member k [] ⊎ (taken_in world ≤ k)) → Member k [] ⊎ (taken_in world ≤ k)
    new_one k (inl m) = elim m [ ]
    new_one k (inr q) = q

-- ---- a value that was handed over becomes that of a place

pub record Assigned (f : Form) (to : Location) (w v : Value) (old new : List ℕ) (world after : World) : Type 0 where
  pub has : Has after Full f v new
  pub there : IsBase after to.base (put_part w to.path v)
  pub elsewhere : (b : Base) (x : Value) → IsBase world b x → (b ≡ to.base → ⊥) → ((k : ℕ) → b ≡ InBlock k → Member k old → ⊥) → IsBase after b x
  pub loses : LosesNone (λ k. times k old) none world after
  pub once : (others : ℕ → ℕ) → HeldOnce (λ k. held_by k v + others k) world → HeldOnce others after
  pub stays : Stays world after

pub assigns_given : (f : Form) (to : Location) (w v0 v : Value) (old new : List ℕ) (world : World) → At world to w → part w to.path ≡ v0 →
    Has world Full f v0 old → Has world Full f v new → Clear to.base (InHand (length world.hand)) old new →
    Sure (assigned f to (Given v)) (λ u after. Assigned f to w v old new world after) world
assigns_given f to w v0 v old new world at e h0 h clear =
    let from = in_hand world in
    let start = pushed world v in
    sure_then (walk sinking f to from) (λ u. does Pops) (λ u after. Sunk f to from w v v old new start after)
    (λ u after. Assigned f to w v old new world after) start
    (sinks f to from w v v0 v old new start (record { base = pushed_elsewhere world v at.base; part = at.part; may = at.may }) (at_hand world v) e refl
    (has_stays world start (λ k x m is. pushed_elsewhere world v is) h0) (has_stays world start (λ k x m is. pushed_elsewhere world v is) h) clear)
    (λ u after t. record {
      has = has_stays after (popped after) (λ k x m is. popped_stays world after v t.left t.behind t.once.stays.hand (InBlock k) x is
          (λ q. no_block (length world.hand) k (sym q))) t.has;
      there = popped_stays world after v t.left t.behind t.once.stays.hand to.base (put_part w to.path v) t.there clear.two;
      elsewhere = λ b x is d far. popped_stays world after v t.left t.behind t.once.stays.hand b x
          (t.elsewhere b x (pushed_elsewhere world v is) d (not_next world b x is) far) (not_next world b x is);
      loses = λ k. omega (arith, t.loses k);
      once = λ others q k. omega (
        arith,
        has_none refl t.nothing k,
        popped_once world after v t.left t.behind t.once.stays.hand others (t.once.held others (pushed_once others world v q)) k,
      );
      stays = record { hand = popped_hand world after v t.left t.behind t.once.stays.hand; frames = t.once.stays.frames };
    })
