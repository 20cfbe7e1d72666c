-- What giving back and taking blocks, and values under way, do to bases and to holders.
use Rattle.std.proofs.Common.{◌≡◌, refl, sym, ap, ◌∙◌, ℕ, zero, suc, ◌-◌, List, [], ◌∷◌, ◌++◌, length, Option, Some, None}
use Rattle.std.specs.Prelude.{slice_get, take}
use Rattle.std.proofs.lemmas.Option.{none-some}
use Rattle.nim_meaning.specs.Values.{Value, Parts, Fixed, Values, Base, InBlock, InHand}
use Rattle.nim_meaning.specs.Heap.{Contents, Characters, Elements, Block, flat, block_at, without}
use Rattle.nim_meaning.specs.State.{World, pushed, popped}
use Rattle.nim_meaning.specs.Deeds.{with_block, freed}
use Rattle.holders.specs.Owned.{IsBase, at_place, at_node, in_hand, in_row, in_text, in_program}
use Rattle.holders.proofs.HolderCounts.{before_last}
use Rattle.holders.proofs.Bases.{get_other}

-- ---- lists

pub get_more : {A : Type 0} (xs : List A) (y : A) (i : ℕ) (x : A) → slice_get xs i ≡ Some x → slice_get (xs ++ y ∷ []) i ≡ Some x
get_more [] y i x e = absurd (none-some x e)
get_more (z ∷ xs) y zero x e = e
get_more (z ∷ xs) y (suc i) x e = get_more xs y i x e

pub get_last : {A : Type 0} (xs : List A) (y : A) → slice_get (xs ++ y ∷ []) (length xs) ≡ Some y
get_last [] y = refl
get_last (x ∷ xs) y = get_last xs y

get_before : {A : Type 0} (xs : List A) (y : A) (i : ℕ) (x : A) → (i ≡ length xs → ⊥) → slice_get (xs ++ y ∷ []) i ≡ Some x → slice_get xs i ≡ Some x
get_before [] y zero x d e = absurd (d refl)
get_before [] y (suc i) x d e = absurd (none-some x e)
get_before (z ∷ xs) y zero x d e = e
get_before (z ∷ xs) y (suc i) x d e = get_before xs y i x (λ q. d (ap suc q)) e

module _ (world : World) where
  -- ---- a block is given back

  given_elsewhere : {other : Base} {w : Value} (k : ℕ) → IsBase world other w → (other ≡ InBlock k → ⊥) → (found : Option Block) →
      (history : List _) → IsBase (record world { heap = without world.heap k found; history = history }) other w
  given_elsewhere k (at_place frame e le f) d found history = at_place frame e le f
  given_elsewhere k (at_node frame e f) d found history = at_node frame e f
  given_elsewhere k (in_hand e) d found history = in_hand e
  given_elsewhere k in_program d found history = in_program
  given_elsewhere k (in_row block e f) d None history = in_row block e f
  given_elsewhere k (in_text block e f) d None history = in_text block e f
  given_elsewhere k (in_row {k = j} block e f) d (Some there) history =
      in_row block (ap flat (get_other world.heap.blocks k j None (λ q. d (ap InBlock q))) ∙ e) f
  given_elsewhere k (in_text {k = j} block e f) d (Some there) history =
      in_text block (ap flat (get_other world.heap.blocks k j None (λ q. d (ap InBlock q))) ∙ e) f

  pub freed_elsewhere : {other : Base} {w : Value} (k : ℕ) → IsBase world other w → (other ≡ InBlock k → ⊥) → (found : Option Block) →
      IsBase (freed world k found) other w
  freed_elsewhere k h d None = h
  freed_elsewhere k h d (Some block) = given_elsewhere k h d (block_at world.heap k) _

  -- ---- a block is taken

  pub taken_elsewhere : {other : Base} {w : Value} (class : ℕ) (contents : Contents) → IsBase world other w → IsBase (with_block class contents world) other w
  taken_elsewhere class contents (at_place frame e le f) = at_place frame e le f
  taken_elsewhere class contents (at_node frame e f) = at_node frame e f
  taken_elsewhere class contents (in_hand e) = in_hand e
  taken_elsewhere class contents in_program = in_program
  taken_elsewhere class contents (in_row {k = k} block e f) = in_row block (more k block e) f
    where
      more : (k : ℕ) (block : Block) → block_at world.heap k ≡ Some block →
          flat (slice_get (world.heap.blocks ++ Some (record { class = class; contents = contents }) ∷ []) k) ≡ Some block
      more k block e = there k (slice_get world.heap.blocks k) refl e
        where
          there : (k : ℕ) (found : Option (Option Block)) → slice_get world.heap.blocks k ≡ found → flat found ≡ Some block →
              flat (slice_get (world.heap.blocks ++ Some (record { class = class; contents = contents }) ∷ []) k) ≡ Some block
          there k None g e = absurd (none-some block e)
          there k (Some b) g e = ap flat (get_more world.heap.blocks (Some (record { class = class; contents = contents })) k b g) ∙ e
  taken_elsewhere class contents (in_text {k = k} block e f) = in_text block (more k block e) f
    where
      more : (k : ℕ) (block : Block) → block_at world.heap k ≡ Some block →
          flat (slice_get (world.heap.blocks ++ Some (record { class = class; contents = contents }) ∷ []) k) ≡ Some block
      more k block e = there k (slice_get world.heap.blocks k) refl e
        where
          there : (k : ℕ) (found : Option (Option Block)) → slice_get world.heap.blocks k ≡ found → flat found ≡ Some block →
              flat (slice_get (world.heap.blocks ++ Some (record { class = class; contents = contents }) ∷ []) k) ≡ Some block
          there k None g e = absurd (none-some block e)
          there k (Some b) g e = ap flat (get_more world.heap.blocks (Some (record { class = class; contents = contents })) k b g) ∙ e

  pub taken_text : (class : ℕ) (t : List ℕ) → IsBase (with_block class (Characters t) world) (InBlock (length world.heap.blocks)) (Fixed t)
  taken_text class t = in_text (record { class = class; contents = Characters t }) (ap flat (get_last world.heap.blocks _)) refl

  pub taken_row : (class : ℕ) (all : Values) → IsBase (with_block class (Elements all) world) (InBlock (length world.heap.blocks)) (Parts all)
  taken_row class all = in_row (record { class = class; contents = Elements all }) (ap flat (get_last world.heap.blocks _)) refl

  -- ---- under way

  pub pushed_there : (v : Value) → IsBase (pushed world v) (InHand (length world.hand)) v
  pushed_there v = in_hand (get_last world.hand v)

  pub pushed_elsewhere : {other : Base} {w : Value} (v : Value) → IsBase world other w → IsBase (pushed world v) other w
  pushed_elsewhere v (at_place frame e le f) = at_place frame e le f
  pushed_elsewhere v (at_node frame e f) = at_node frame e f
  pushed_elsewhere v in_program = in_program
  pushed_elsewhere v (in_hand {i = i} {v = w} e) = in_hand (get_more world.hand v i w e)
  pushed_elsewhere v (in_row block e f) = in_row block e f
  pushed_elsewhere v (in_text block e f) = in_text block e f

  pub popped_elsewhere : {other : Base} {w : Value} (vs : List Value) (v : Value) → world.hand ≡ vs ++ v ∷ [] → IsBase world other w →
      (other ≡ InHand (length vs) → ⊥) → IsBase (popped world) other w
  popped_elsewhere vs v is (at_place frame e le f) d = at_place frame e le f
  popped_elsewhere vs v is (at_node frame e f) d = at_node frame e f
  popped_elsewhere vs v is in_program d = in_program
  popped_elsewhere vs v is (in_row block e f) d = in_row block e f
  popped_elsewhere vs v is (in_text block e f) d = in_text block e f
  popped_elsewhere vs v is (in_hand {i = i} {v = w} e) d =
      in_hand (ap (λ (hand : List Value). slice_get hand i) (hand_is vs v is)
      ∙ get_before vs v i w (λ q. d (ap InHand q)) (sym (ap (λ (hand : List Value). slice_get hand i) is) ∙ e))
    where
      hand_is : (vs : List Value) (v : Value) → world.hand ≡ vs ++ v ∷ [] → take (length world.hand - 1) world.hand ≡ vs
      hand_is vs v is = ap (λ (hand : List Value). take (length hand - 1) hand) is ∙ before_last vs v
