-- A copy has blocks of its own, which weren't there before; all else stays, and each block has one holder.
use Rattle.std.proofs.Common.{◌≡◌, refl, sym, ap, subst, ◌∙◌, arith, ℕ, zero, suc, ◌<◌, ◌≤◌, inl, inr, Bool, true, false, if◌then◌else◌, List, [], ◌∷◌}
use Rattle.std.proofs.Common.{◌++◌, length}
use Rattle.std.proofs.Common.{Option, Some, None, ◌+◌}
use Rattle.std.specs.Prelude.{◌*◌, slice_get, slice_set}
use Rattle.std.proofs.lemmas.Option.{none-some}
use Rattle.nim_types.specs.Forms.{Form, plain, reference, block, elements, row, parts, resource, wrapped, Forms, no_forms, forms, of_some, hooked, hooked_any}
use Rattle.nim_types.specs.Forms.{size}
use Rattle.nim_meaning.specs.Values.{Value, Handle, Parts, bytes, characters, Fixed, Vacant, Values, More, nth, count, with_nth, part, put_part, Base}
use Rattle.nim_meaning.specs.Values.{InBlock, Location, deeper}
use Rattle.nim_meaning.specs.Values.{item_of}
use Rattle.nim_meaning.specs.Values.{repeated, vacant, all_vacant}
use Rattle.nim_meaning.specs.Heap.{Contents, Characters, Elements, Block, flat, block_at, class_for}
use Rattle.nim_meaning.specs.Marks.{Member, Distinct}
use Rattle.nim_meaning.specs.State.{World, whole_at, store, stored, with_value_in, text_of}
use Rattle.nim_meaning.specs.Acts.{branch}
use Rattle.nim_meaning.specs.Deeds.{Deed, with_block, give, costs, sets, ◌>>◌, ◌>>=◌}
use Rattle.nim_meaning.specs.Lifted.{walk, walk_all, each_part, each_element, copying, bits, fresh, fresh_text, copied_elements}
use Rattle.holders.specs.Owned.{IsBase, in_row, in_text, whole, block_may, At, From, Reaches, here, in_part, a_character, HasNone, Extent, Full, Constant}
use Rattle.holders.specs.Owned.{Has, in_rows}
use Rattle.holders.specs.Owned.{a_number, no_number, no_text, a_text, gone_text, constant_text, no_sequence, a_sequence, gone_sequence, constant_sequence}
use Rattle.holders.specs.Owned.{a_row, gone_row, some_parts, gone_parts, of_wrapped, HasEach, none_more, one_more, HasAll, no_parts, a_part, Apart}
use Rattle.holders.specs.Sure.{Sure}
use Rattle.holders.specs.Becoming.{taken_in, times, none, LosesNone, live_at}
use Rattle.holders.specs.Holders.{held_by, held_in, held_in_contents}
use Rattle.holders.specs.Walks.{KeepsOnce}
use Rattle.holders.proofs.Staying.{stays_then, stored_stays, taken_stays}
use Rattle.holders.proofs.HolderCounts.{taken_counts}
use Rattle.holders.proofs.Bases.{whole_is, stored_there, stored_elsewhere}
use Rattle.holders.proofs.BaseChanges.{taken_elsewhere, taken_text, taken_row}
use Rattle.holders.proofs.Sure.{sure_then, sure_weaker}
use Rattle.holders.proofs.PathLemmas.{count_with, nth_with, nth_without, part_of_put, put_twice, has_put, put_deeper, put_same}
use Rattle.holders.proofs.Ledger.{keeps_none, keeps_then, stored_counts, stored_live, taken_live, times_both}
use Rattle.holders.proofs.Owning.{in_first, in_second, has_stays, each_stays, all_stays}
use Rattle.holders.proofs.Owning.{has_none, plain_none, plain_anywhere}
use Rattle.holders.proofs.Guards.{sure_reads, sure_takes, sure_sets}
use Rattle.holders.proofs.Ending.{Row, row_of, same_number, at_part, part_is, may_deeper}
use Rattle.nim_meaning.specs.Kept.{one_if_same}

pub record Copied (f : Form) (to : Location) (w : Value) (world after : World) : Type 0 where
  pub now : Value
  pub blocks : List ℕ
  pub has : Has after Full f now blocks
  pub distinct : Distinct blocks
  pub fresh : (k : ℕ) → Member k blocks → taken_in world ≤ k
  pub below : (k : ℕ) → Member k blocks → k < taken_in after
  pub grows : taken_in world ≤ taken_in after
  pub is : IsBase after to.base (put_part w to.path now)
  pub elsewhere : (b : Base) (x : Value) → IsBase world b x → (b ≡ to.base → ⊥) → IsBase after b x
  pub loses : LosesNone none (λ k. times k blocks) world after
  pub once : KeepsOnce world after

abbrev pub Copies : Form → Type 0
Copies f = (to from : Location) (w u v : Value) (bs : List ℕ) (world : World) → At world to w → part w to.path ≡ vacant f → From world from u v →
    Has world Constant f v bs →
    (from.base ≡ to.base → ⊥) → Apart to.base bs → Sure (walk copying f to from) (λ u after. Copied f to w world after) world

-- ---- lists

pub length_set : {A : Type 0} (xs : List A) (i : ℕ) (y : A) → length (slice_set xs i y) ≡ length xs
length_set [] i y = refl
length_set (x ∷ xs) zero y = refl
length_set (x ∷ xs) (suc i) y = ap suc (length_set xs i y)

length_more : {A : Type 0} (xs : List A) (y : A) → length (xs ++ y ∷ []) ≡ suc (length xs)
length_more [] y = refl
length_more (x ∷ xs) y = ap suc (length_more xs y)

get_below : {A : Type 0} (xs : List A) (i : ℕ) (x : A) → slice_get xs i ≡ Some x → i < length xs
get_below [] i x e = absurd (none-some x e)
get_below (z ∷ xs) zero x e = omega arith
get_below (z ∷ xs) (suc i) x e = omega (arith, get_below xs i x e)

block_below : (world : World) (k : ℕ) (b : Block) → block_at world.heap k ≡ Some b → k < taken_in world
block_below world k there e = by (slice_get world.heap.blocks k) refl e
  where
    by : (found : Option (Option Block)) → slice_get world.heap.blocks k ≡ found → flat found ≡ Some there → k < taken_in world
    by None g e = absurd (none-some there e)
    by (Some b) g e = get_below world.heap.blocks k b g

pub base_below : {world : World} {k : ℕ} {x : Value} → IsBase world (InBlock k) x → k < taken_in world
base_below {world} {k} (in_row b e f) = block_below world k b e
base_below {world} {k} (in_text b e f) = block_below world k b e

pub distinct_both : (bs cs : List ℕ) → Distinct bs → Distinct cs → ((k : ℕ) → Member k bs → Member k cs → ⊥) → Distinct (bs ++ cs)
distinct_both [] cs d e apart = e
distinct_both (b ∷ bs) cs d e apart = (λ m. not_in bs cs b (λ n. d.0 n) (λ n. apart b (inl refl) n) m, distinct_both bs cs d.1 e (λ k m n. apart k (inr m) n))
  where
    not_in : (bs cs : List ℕ) (b : ℕ) → (Member b bs → ⊥) → (Member b cs → ⊥) → Member b (bs ++ cs) → ⊥
    not_in [] cs b d e m = e m
    not_in (c ∷ bs) cs b d e (inl q) = d (inl q)
    not_in (c ∷ bs) cs b d e (inr m) = not_in bs cs b (λ n. d (inr n)) e m

pub either_block : (k : ℕ) (bs cs : List ℕ) (P : Type 0) → Member k (bs ++ cs) → (Member k bs → P) → (Member k cs → P) → P
either_block k [] cs P m first second = second m
either_block k (b ∷ bs) cs P (inl e) first second = first (inl e)
either_block k (b ∷ bs) cs P (inr m) first second = either_block k bs cs P m (λ n. first (inr n)) second

first_below : (world : World) (k j : ℕ) → Member k (j ∷ []) → j < taken_in world → k < taken_in world
first_below world k j (inl e) le = omega (arith, e, le)
first_below world k j (inr m) le = elim m [ ]

one_below : (world : World) (k j : ℕ) (bs : List ℕ) → Member k (j ∷ bs) → j < taken_in world → (Member k bs → k < taken_in world) → k < taken_in world
one_below world k j bs (inl e) le more = omega (arith, e, le)
one_below world k j bs (inr m) le more = more m

-- the blocks of a value are there
mutual
  pub has_below : {world : World} {x : Extent} {f : Form} {v : Value} {bs : List ℕ} → Has world x f v bs → (k : ℕ) → Member k bs → k < taken_in world
  has_below a_number k m = elim m [ ]
  has_below no_number k m = elim m [ ]
  has_below no_text k m = elim m [ ]
  has_below {world} (a_text {k = j} same b) k m = first_below world k j m (base_below b)
  has_below gone_text k m = elim m [ ]
  has_below constant_text k m = elim m [ ]
  has_below no_sequence k m = elim m [ ]
  has_below {world} (a_sequence {k = j} {bs = bs} b each) k m = one_below world k j bs m (base_below b) (each_below each k)
  has_below gone_sequence k m = elim m [ ]
  has_below (constant_sequence each) k m = each_below each k m
  has_below (a_row n each) k m = each_below each k m
  has_below (gone_row e) k m = elim m [ ]
  has_below (some_parts all) k m = all_below all k m
  has_below (gone_parts e) k m = elim m [ ]
  has_below (of_wrapped h) k m = has_below h k m

  pub each_below : {world : World} {x : Extent} {f : Form} {n i : ℕ} {all : Values} {bs : List ℕ} → HasEach world x f n i all bs → (k : ℕ) → Member k bs →
      k < taken_in world
  each_below none_more k m = elim m [ ]
  each_below {world} (one_more {bs = bs} {cs = cs} le h more) k m = either_block k bs cs (k < taken_in world) m (has_below h k) (each_below more k)

  pub all_below : {world : World} {x : Extent} {fs : Forms} {i : ℕ} {all : Values} {bs : List ℕ} → HasAll world x fs i all bs → (k : ℕ) → Member k bs →
      k < taken_in world
  all_below (no_parts e) k m = elim m [ ]
  all_below {world} (a_part {bs = bs} {cs = cs} le h more) k m = either_block k bs cs (k < taken_in world) m (has_below h k) (all_below more k)

-- as many blocks as before
pub filled_length : (world : World) (k : ℕ) (found : Option Block) (v : Value) → length (with_value_in world.heap k found v).blocks ≡ taken_in world
filled_length world k None v = refl
filled_length world k (Some b) v = length_set world.heap.blocks k _

pub stored_length : (world : World) (base : Base) (v : Value) → taken_in (stored world base v) ≡ taken_in world
stored_length world (InBlock k) v = filled_length world k (block_at world.heap k) v
stored_length world base v = refl

-- ---- a value is put where nothing stands

module _ (to : Location) (w : Value) (world : World) (at : At world to w) (none : HasNone (part w to.path)) (x : Value) where
  abbrev put_world : World
  put_world = store world to x

  is_put : IsBase put_world to.base (put_part w to.path x)
  is_put =
      subst (λ y. IsBase (stored world to.base (put_part y to.path x)) to.base (put_part w to.path x)) (sym (whole_is world to.base w at.base))
      (stored_there world x at.base (in_rows at.part) at.may)

  put_elsewhere : (b : Base) (y : Value) → IsBase world b y → (b ≡ to.base → ⊥) → IsBase put_world b y
  put_elsewhere b y h d = stored_elsewhere world (put_part (whole_at world to.base) to.path x) d at.base h

  put_length : taken_in put_world ≡ taken_in world
  put_length = stored_length world to.base (put_part (whole_at world to.base) to.path x)

  -- one without handles
  plain_copied : (f : Form) → HasNone x → ((after : World) → Has after Full f x []) → Copied f to w world put_world
  plain_copied f plainly has = record {
    now = x;
    blocks = [];
    has = has put_world;
    distinct = tt;
    fresh = λ k m. elim m [ ];
    below = λ k m. elim m [ ];
    grows = omega (arith, put_length);
    is = is_put;
    elsewhere = put_elsewhere;
    loses = λ k. omega (arith, stored_live world k to.base (put_part (whole_at world to.base) to.path x));
    once = record {
      held = λ others h k. omega (
        arith,
        h k,
        none k,
        plainly k,
        stored_counts world k to x at.base at.part at.may,
        stored_live world k to.base (put_part (whole_at world to.base) to.path x),
      );
      stays = stored_stays world (put_part (whole_at world to.base) to.path x) at.base;
    };
  }

-- ---- a block is taken for it

pub fresh_then : (n m : ℕ) (contents : Contents) (rest : Value → Deed (Unit {0})) (Q : Unit {0} → World → Type 0) (world : World) →
    (n ≡ 0 → Sure (rest (Handle 0 None)) Q world) →
    ((class : ℕ) → Sure (rest (Handle n (Some (taken_in world)))) Q (with_block class contents world)) → Sure (fresh n m contents >>= rest) Q world
fresh_then zero m contents rest Q world none some = none refl
fresh_then (suc n) m contents rest Q world none some = some (class_for m world.heap.classes)

module _ (to : Location) (w : Value) (world : World) (at : At world to w) (none : HasNone (part w to.path)) (class n : ℕ) (contents : Contents) where
  abbrev taken_world : World
  taken_world = with_block class contents world

  abbrev new : ℕ
  new = taken_in world

  at_taken : At taken_world to w
  at_taken = record { base = taken_elsewhere world class contents at.base; part = at.part; may = at.may }

  abbrev held_world : World
  held_world = store taken_world to (Handle n (Some new))

  not_new : InBlock new ≡ to.base → ⊥
  not_new e = too_far (subst (λ b. IsBase world b w) (sym e) at.base)
    where
      too_far : IsBase world (InBlock (taken_in world)) w → ⊥
      too_far h = omega (arith, base_below h)

  taken_is : IsBase held_world to.base (put_part w to.path (Handle n (Some new)))
  taken_is = is_put to w taken_world at_taken none (Handle n (Some new))

  taken_stay : (b : Base) (y : Value) → IsBase world b y → (b ≡ to.base → ⊥) → IsBase held_world b y
  taken_stay b y h d = put_elsewhere to w taken_world at_taken none (Handle n (Some new)) b y (taken_elsewhere world class contents h) d

  new_stays : (y : Value) → IsBase taken_world (InBlock new) y → IsBase held_world (InBlock new) y
  new_stays y h = put_elsewhere to w taken_world at_taken none (Handle n (Some new)) (InBlock new) y h not_new

  taken_length : taken_in held_world ≡ suc (taken_in world)
  taken_length =
      put_length to w taken_world at_taken none (Handle n (Some new)) ∙ length_more world.heap.blocks (Some (record { class = class; contents = contents }))

  -- one block is live besides
  taken_all : (j : ℕ) → live_at held_world j ≡ live_at world j + one_if_same new j
  taken_all j = omega (
    arith,
    stored_live taken_world j to.base (put_part (whole_at taken_world to.base) to.path (Handle n (Some new))),
    taken_live world j class contents,
  )

  taken_once : ((j : ℕ) → held_in_contents j contents ≡ 0) → KeepsOnce world held_world
  taken_once nothing = record {
    held = λ others h j. omega (
      arith,
      h j,
      none j,
      nothing j,
      taken_counts j class contents world,
      stored_counts taken_world j to (Handle n (Some new)) at_taken.base at_taken.part at_taken.may,
      stored_live taken_world j to.base (put_part (whole_at taken_world to.base) to.path (Handle n (Some new))),
      taken_live world j class contents,
    );
    stays = stays_then (taken_stays world class contents)
        (stored_stays taken_world (put_part (whole_at taken_world to.base) to.path (Handle n (Some new))) at_taken.base);
  }

-- ---- texts

-- a text or a sequence gets a place of its own, in a block if it isn't empty
module _ (to : Location) (w : Value) (world : World) (at : At world to w) (none : HasNone (part w to.path)) where
  text_copied : (t : List ℕ) → Sure (fresh_text t >>= sets to) (λ u after. Copied block to w world after) world
  text_copied t =
      let n = length t in
      let Q : Unit {0} → World → Type 0 = λ u after. Copied block to w world after in
      fresh_then n n (Characters t) (λ x. sets to x) Q world
      (λ e. sure_sets (Handle 0 None) Q at (plain_copied to w world at none (Handle 0 None) block (λ k. refl) (λ after. no_text)))
      (λ class. sure_sets (Handle n (Some (taken_in world))) Q (at_taken to w world at none class n (Characters t)) (record {
        now = Handle n (Some (taken_in world));
        blocks = taken_in world ∷ [];
        has = a_text refl (new_stays to w world at none class n (Characters t) (Fixed t) (taken_text world class t));
        distinct = (λ m. elim m [ ], tt);
        fresh = λ k m. only k m;
        below = λ k m. omega (arith, only_one k m, taken_length to w world at none class n (Characters t));
        grows = omega (arith, taken_length to w world at none class n (Characters t));
        is = taken_is to w world at none class n (Characters t);
        elsewhere = taken_stay to w world at none class n (Characters t);
        loses = λ k. omega (arith, taken_all to w world at none class n (Characters t) k);
        once = taken_once to w world at none class n (Characters t) (λ j. refl);
      }))
    where
      only_one : (k : ℕ) → Member k (taken_in world ∷ []) → k ≡ taken_in world
      only_one k (inl e) = e
      only_one k (inr m) = elim m [ ]

      only : (k : ℕ) → Member k (taken_in world ∷ []) → taken_in world ≤ k
      only k m = omega (arith, only_one k m)

text_copies : Copies block
text_copies to from w u v bs world at empty source h d own =
    sure_reads (λ world v. costs 8 (fresh_text (text_of world v)) >>= sets to) (λ u after. Copied block to w world after) source tt h
    (text_copied to w world at (λ k. ap (held_by k) empty) (text_of world v))

-- ---- what is vacant

none_repeated : (n : ℕ) (v : Value) → HasNone v → (k : ℕ) → held_in k (repeated n v) ≡ 0
none_repeated zero v h k = refl
none_repeated (suc n) v h k = omega (arith, h k, none_repeated n v h k)

-- where there are such parts, or nothing
if_parts_none : (b : Bool) (vs : Values) → ((k : ℕ) → held_in k vs ≡ 0) → HasNone (if b then Parts vs else Vacant)
if_parts_none true vs h = h
if_parts_none false vs h = λ k. refl

mutual
  pub vacant_none : (f : Form) → HasNone (vacant f)
  vacant_none plain = λ k. refl
  vacant_none reference = λ k. refl
  vacant_none block = λ k. refl
  vacant_none (elements f) = λ k. refl
  vacant_none (row n f) = if_parts_none (of_some n (hooked f)) (repeated n (vacant f)) (none_repeated n (vacant f) (vacant_none f))
  vacant_none (parts fs) = if_parts_none (hooked_any fs) (all_vacant fs) (all_vacant_none fs)
  vacant_none (resource fs) = λ k. refl
  vacant_none (wrapped f) = vacant_none f

  all_vacant_none : (fs : Forms) → (k : ℕ) → held_in k (all_vacant fs) ≡ 0
  all_vacant_none no_forms k = refl
  all_vacant_none (forms f fs) k = omega (arith, vacant_none f k, all_vacant_none fs k)

-- so many parts, from a position on, and a part of each form
abbrev EachVacant : Form → ℕ → ℕ → Values → Type 0
EachVacant f zero i all = Unit {0}
EachVacant f (suc n) i all = (i < count all) × ((nth all i ≡ vacant f) × EachVacant f n (suc i) all)

abbrev AllVacant : Forms → ℕ → Values → Type 0
AllVacant no_forms i all = count all ≡ i
AllVacant (forms f fs) i all = (i < count all) × ((nth all i ≡ vacant f) × AllVacant fs (suc i) all)

each_further : (f : Form) (n i : ℕ) (v : Value) (all : Values) → EachVacant f n i all → EachVacant f n (suc i) (More v all)
each_further f zero i v all h = tt
each_further f (suc n) i v all h = (omega (arith, h.0), (h.1.0, each_further f n (suc i) v all h.1.1))

all_further : (fs : Forms) (i : ℕ) (v : Value) (all : Values) → AllVacant fs i all → AllVacant fs (suc i) (More v all)
all_further no_forms i v all h = ap suc h
all_further (forms f fs) i v all h = (omega (arith, h.0), (h.1.0, all_further fs (suc i) v all h.1.1))

each_vacant : (f : Form) (n : ℕ) → EachVacant f n 0 (repeated n (vacant f))
each_vacant f zero = tt
each_vacant f (suc n) = (omega arith, (refl, each_further f n 0 (vacant f) (repeated n (vacant f)) (each_vacant f n)))

all_are_vacant : (fs : Forms) → AllVacant fs 0 (all_vacant fs)
all_are_vacant no_forms = refl
all_are_vacant (forms f fs) = (omega arith, (refl, all_further fs 0 (vacant f) (all_vacant fs) (all_are_vacant fs)))

count_repeated : (n : ℕ) (v : Value) → count (repeated n v) ≡ n
count_repeated zero v = refl
count_repeated (suc n) v = ap suc (count_repeated n v)

each_other : (f : Form) (n i : ℕ) (all new : Values) → count new ≡ count all → ((j : ℕ) → i ≤ j → nth new j ≡ nth all j) → EachVacant f n i all →
    EachVacant f n i new
each_other f zero i all new same is h = tt
each_other f (suc n) i all new same is h =
    (omega (arith, same, h.0), (is i (omega arith) ∙ h.1.0, each_other f n (suc i) all new same (λ j le. is j (omega (arith, le))) h.1.1))

all_other : (fs : Forms) (i : ℕ) (all new : Values) → count new ≡ count all → ((j : ℕ) → i ≤ j → nth new j ≡ nth all j) → AllVacant fs i all →
    AllVacant fs i new
all_other no_forms i all new same is h = same ∙ h
all_other (forms f fs) i all new same is h =
    (omega (arith, same, h.0), (is i (omega arith) ∙ h.1.0, all_other fs (suc i) all new same (λ j le. is j (omega (arith, le))) h.1.1))

-- ---- part by part

record CopiedParts (left : List ℕ → World → Values → Type 0) (i : ℕ) (o : Location) (w : Value) (all : Values) (world after : World) : Type 0 where
  now : Values
  blocks : List ℕ
  has : left blocks after now
  distinct : Distinct blocks
  fresh : (k : ℕ) → Member k blocks → taken_in world ≤ k
  below : (k : ℕ) → Member k blocks → k < taken_in after
  grows : taken_in world ≤ taken_in after
  is : IsBase after o.base (put_part w o.path (Parts now))
  same_count : count now ≡ count all
  before : (j : ℕ) → j < i → nth now j ≡ nth all j
  elsewhere : (b : Base) (x : Value) → IsBase world b x → (b ≡ o.base → ⊥) → IsBase after b x
  loses : LosesNone none (λ k. times k blocks) world after
  once : KeepsOnce world after

abbrev EachHas : Form → ℕ → ℕ → List ℕ → World → Values → Type 0
EachHas f n i bs world all = HasEach world Full f n i all bs

abbrev AllHas : Forms → ℕ → List ℕ → World → Values → Type 0
AllHas fs i bs world all = HasAll world Full fs i all bs

nothing_copied : (left : List ℕ → World → Values → Type 0) (i : ℕ) (o : Location) (w : Value) (all : Values) (world : World) → Row world o w all →
    left [] world all → CopiedParts left i o w all world world
nothing_copied left i o w all world r h = record {
  now = all;
  blocks = [];
  has = h;
  distinct = tt;
  fresh = λ k m. elim m [ ];
  below = λ k m. elim m [ ];
  grows = omega arith;
  is = subst (λ v. IsBase world o.base v) (sym (ap (put_part w o.path) (sym r.is) ∙ put_same r.part_there)) r.base;
  same_count = refl;
  before = λ j le. refl;
  elsewhere = λ b x h d. h;
  loses = λ k. omega arith;
  once = keeps_none world;
}

module _ (f : Form) (i : ℕ) (o : Location) (w : Value) (all : Values) (world : World) (r : Row world o w all) (le : i < count all) (after : World)
    (t : Copied f (deeper o i) w world after) where
  abbrev next_row : Values
  next_row = with_nth all i t.now

  abbrev next_whole : Value
  next_whole = put_part w o.path (Parts next_row)

  next : Row after o next_whole next_row
  next = record {
    base = subst (λ v. IsBase after o.base v) (put_deeper i all t.now r.part_there r.is) t.is;
    part_there = has_put (Parts next_row) r.part_there;
    is = part_of_put (Parts next_row) r.part_there;
    may = r.may;
  }

  same_later : (j : ℕ) → suc i ≤ j → nth next_row j ≡ nth all j
  same_later j later = nth_without all i j t.now (λ e. no_later i j later e)
    where
      no_later : (i j : ℕ) → suc i ≤ j → j ≡ i → ⊥
      no_later i j later e = omega (arith, later, e)

  -- what is new isn't the place
  base_apart : (k : ℕ) → InBlock k ≡ o.base → taken_in world ≤ k → ⊥
  base_apart k e far = too_far k (subst (λ b. IsBase world b w) (sym e) r.base) far
    where
      too_far : (k : ℕ) → IsBase world (InBlock k) w → taken_in world ≤ k → ⊥
      too_far k h far = omega (arith, base_below h, far)

  copied_more : (left rest : List ℕ → World → Values → Type 0) → ((last : World) (now : Values) (cs : List ℕ) → count now ≡ count all → nth now i ≡ t.now →
      Has last Full f t.now t.blocks → rest cs last now → left (t.blocks ++ cs) last now) → (last : World) →
      CopiedParts rest (suc i) o next_whole next_row after last → CopiedParts left i o w all world last
  copied_more left rest both last s = record {
    now = s.now;
    blocks = t.blocks ++ s.blocks;
    has = both last s.now s.blocks (s.same_count ∙ count_with all i t.now) (s.before i (omega arith) ∙ nth_with all i t.now le)
        (has_stays after last (λ k x m h. s.elsewhere (InBlock k) x h (λ e. base_apart k e (t.fresh k m))) t.has) s.has;
    distinct = distinct_both t.blocks s.blocks t.distinct s.distinct (λ k m n. clash k (t.below k m) (s.fresh k n));
    fresh = λ k m. either_block k t.blocks s.blocks (taken_in world ≤ k) m (t.fresh k) (λ n. omega (arith, s.fresh k n, t.grows));
    below = λ k m. either_block k t.blocks s.blocks (k < taken_in last) m (λ n. omega (arith, t.below k n, s.grows)) (s.below k);
    grows = omega (arith, t.grows, s.grows);
    is = subst (λ v. IsBase last o.base v) (put_twice (Parts next_row) (Parts s.now) r.part_there) s.is;
    same_count = s.same_count ∙ count_with all i t.now;
    before = λ j less. s.before j (omega (arith, less)) ∙ nth_without all i j t.now (λ e. not_before i j less e);
    elsewhere = λ b x h d. s.elsewhere b x (t.elsewhere b x h d) d;
    loses = λ k. omega (arith, t.loses k, s.loses k, times_both k t.blocks s.blocks);
    once = keeps_then t.once s.once;
  }
    where
      not_before : (i j : ℕ) → j < i → j ≡ i → ⊥
      not_before i j less e = omega (arith, less, e)

      clash : (k : ℕ) → k < taken_in after → taken_in after ≤ k → ⊥
      clash k less far = omega (arith, less, far)

-- what is copied, part by part
pub record Source (world : World) (s : Location) (u : Value) (src : Values) : Type 0 where
  pub base : IsBase world s.base u
  pub there : Reaches u s.path
  pub is : part u s.path ≡ Parts src

pub reaches_deeper : {u : Value} {path : List ℕ} (i : ℕ) (all : Values) → Reaches u path → part u path ≡ Parts all → i < count all → Reaches u (path ++ i ∷ [])
reaches_deeper i all here e le = subst (λ v. Reaches v (i ∷ [])) (sym e) (in_part le here)
reaches_deeper i all (in_part less h) e le = in_part less (reaches_deeper i all h e le)
reaches_deeper i all (a_character {t = t} {i = j} less) e le = absurd (no_row t j less e)
  where
    is_no_row : Value → Type 0
    is_no_row (Parts all) = ⊥
    is_no_row v = Unit {0}

    character_is : (t : List ℕ) (j : ℕ) → is_no_row (nth (characters t) j)
    character_is [] j = tt
    character_is (c ∷ t) zero = tt
    character_is (c ∷ t) (suc j) = character_is t j

    no_row : (t : List ℕ) (j : ℕ) → j < length t → nth (characters t) j ≡ Parts all → ⊥
    no_row t j less e = subst is_no_row e (character_is t j)

pub from_part : (i : ℕ) (s : Location) (u : Value) (src : Values) (world : World) → Source world s u src → i < count src → From world (deeper s i) u (nth src i)
from_part i s u src world h le = record { base = h.base; there = reaches_deeper i src h.there h.is le; is = part_is i s u src h.is }

each_copies : (f : Form) → Copies f → (n i : ℕ) (o s : Location) (w u : Value) (all src : Values) (bs : List ℕ) (world : World) → Row world o w all →
    EachVacant f n i all → Source world s u src → HasEach world Constant f n i src bs → (s.base ≡ o.base → ⊥) → Apart o.base bs →
    Sure (each_part n (walk copying f) i o s) (λ x after. CopiedParts (EachHas f n i) i o w all world after) world
each_copies f copies zero i o s w u all src _ world r empty source none_more d own = nothing_copied (EachHas f 0 i) i o w all world r none_more
each_copies f copies (suc n) i o s w u all src _ world r empty source (one_more {bs = bs} {cs = cs} le h more) d own =
    sure_then (walk copying f (deeper o i) (deeper s i)) (λ x. each_part n (walk copying f) (suc i) o s) (λ x after. Copied f (deeper o i) w world after)
    (λ x after. CopiedParts (EachHas f (suc n) i) i o w all world after) world
    (copies (deeper o i) (deeper s i) w u (nth src i) bs world (at_part i o w all world r empty.0) (part_is i o w all r.is ∙ empty.1.0)
    (from_part i s u src world source le) h d (λ k e m. own k e (in_first k bs cs m)))
    (λ x after t.
    let new = next_row f i o w all world r empty.0 after t in
    let whole_now = next_whole f i o w all world r empty.0 after t in
    sure_weaker (each_part n (walk copying f) (suc i) o s) (λ x last. CopiedParts (EachHas f n (suc i)) (suc i) o whole_now new after last)
    (λ x last. CopiedParts (EachHas f (suc n) i) i o w all world last) after
    (each_copies f copies n (suc i) o s whole_now u new src cs after (next f i o w all world r empty.0 after t)
    (each_other f n (suc i) all new (count_with all i t.now) (same_later f i o w all world r empty.0 after t) empty.1.1)
    (record { base = t.elsewhere s.base u source.base d; there = source.there; is = source.is })
    (each_stays world after (λ k x m h. t.elsewhere (InBlock k) x h (λ q. own k (sym q) (in_second k bs cs m))) more)
    d (λ k e m. own k e (in_second k bs cs m)))
    (λ x last s. copied_more f i o w all world r empty.0 after t (EachHas f (suc n) i) (EachHas f n (suc i))
    (λ last now cs same is has rest. one_more (subst (λ n. i < n) (sym same) empty.0) (subst (λ v. Has last Full f v t.blocks) (sym is) has) rest) last s))

abbrev AllCopies : Forms → Type 0
AllCopies fs = (i : ℕ) (o s : Location) (w u : Value) (all src : Values) (bs : List ℕ) (world : World) → Row world o w all → AllVacant fs i all →
    Source world s u src → HasAll world Constant fs i src bs → (s.base ≡ o.base → ⊥) → Apart o.base bs →
    Sure (walk_all copying fs i o s) (λ x after. CopiedParts (AllHas fs i) i o w all world after) world

no_more_copies : AllCopies no_forms
no_more_copies i o s w u all src _ world r empty source (no_parts e) d own = nothing_copied (AllHas no_forms i) i o w all world r (no_parts empty)

more_copies : (f : Form) (fs : Forms) → Copies f → AllCopies fs → AllCopies (forms f fs)
more_copies f fs copies all_copy i o s w u all src _ world r empty source (a_part {bs = bs} {cs = cs} le h more) d own =
    sure_then (walk copying f (deeper o i) (deeper s i)) (λ x. walk_all copying fs (suc i) o s) (λ x after. Copied f (deeper o i) w world after)
    (λ x after. CopiedParts (AllHas (forms f fs) i) i o w all world after) world
    (copies (deeper o i) (deeper s i) w u (nth src i) bs world (at_part i o w all world r empty.0) (part_is i o w all r.is ∙ empty.1.0)
    (from_part i s u src world source le) h d (λ k e m. own k e (in_first k bs cs m)))
    (λ x after t.
    let new = next_row f i o w all world r empty.0 after t in
    let whole_now = next_whole f i o w all world r empty.0 after t in
    sure_weaker (walk_all copying fs (suc i) o s) (λ x last. CopiedParts (AllHas fs (suc i)) (suc i) o whole_now new after last)
    (λ x last. CopiedParts (AllHas (forms f fs) i) i o w all world last) after
    (all_copy (suc i) o s whole_now u new src cs after (next f i o w all world r empty.0 after t)
    (all_other fs (suc i) all new (count_with all i t.now) (same_later f i o w all world r empty.0 after t) empty.1.1)
    (record { base = t.elsewhere s.base u source.base d; there = source.there; is = source.is })
    (all_stays world after (λ k x m h. t.elsewhere (InBlock k) x h (λ q. own k (sym q) (in_second k bs cs m))) more)
    d (λ k e m. own k e (in_second k bs cs m)))
    (λ x last s. copied_more f i o w all world r empty.0 after t (AllHas (forms f fs) i) (AllHas fs (suc i))
    (λ last now cs same is has rest. a_part (subst (λ n. i < n) (sym same) empty.0) (subst (λ v. Has last Full f v t.blocks) (sym is) has) rest) last s))

-- ---- forms

-- bits alone
bits_copied : (f : Form) (to from : Location) (w u v : Value) (bs : List ℕ) (world : World) → At world to w → HasNone (part w to.path) → From world from u v →
    hooked f ≡ false → Has world Constant f v bs → Sure (bits to from) (λ x after. Copied f to w world after) world
bits_copied f to from w u v bs world at none source bare h =
    sure_takes (λ world v. costs (bytes v) (sets to v)) (λ x after. Copied f to w world after) source tt h
    (sure_sets v (λ x after. Copied f to w world after) at
    (plain_copied to w world at none v f (has_none (plain_none bare h) h) (λ after. plain_anywhere after Full bare h)))

plain_copies : Copies plain
plain_copies to from w u v bs world at empty source h d own =
    bits_copied plain to from w u v bs world at (λ k. ap (held_by k) empty) source refl h

reference_copies : Copies reference
reference_copies to from w u v bs world at empty source h d own = elim h [ ]

resource_copies : (fs : Forms) → Copies (resource fs)
resource_copies fs to from w u v bs world at empty source h d own = elim h [ ]

each_element_is : (n m p k j : ℕ) (act : (to from : Location) → Deed (Unit {0})) (i : ℕ) (to from : Location) →
    each_element n act i (Handle m (Some j)) to (Handle p (Some k)) from ≡ each_part n act i (row_of to j) (row_of from k)
each_element_is zero m p k j act i to from = refl
each_element_is (suc n) m p k j act i to from =
    ap (λ rest. act (item_of (Handle m (Some j)) to i) (item_of (Handle p (Some k)) from i) >> rest) (each_element_is n m p k j act (suc i) to from)

element_part_is : (n m j : ℕ) (all : Values) (act : (to from : Location) → Deed (Unit {0})) (i : ℕ) (to from : Location) →
    each_element n act i (Handle m (Some j)) to (Parts all) from ≡ each_part n act i (row_of to j) from
element_part_is zero m j all act i to from = refl
element_part_is (suc n) m j all act i to from =
    ap (λ rest. act (item_of (Handle m (Some j)) to i) (item_of (Parts all) from i) >> rest) (element_part_is n m j all act (suc i) to from)

-- a sequence whose elements are read as parts at s
module _ (f : Form) (copies : Copies f) (to s : Location) (w u : Value) (all : Values) (cs : List ℕ) (world : World) (at : At world to w)
    (none : HasNone (part w to.path)) (source : Source world s u all) (each : HasEach world Constant f (count all) 0 all cs) (d : s.base ≡ to.base → ⊥)
    (own : Apart to.base cs) where
  abbrev start : Values
  start = repeated (count all) (vacant f)

  abbrev Q : Unit {0} → World → Type 0
  Q x after = Copied (elements f) to w world after

  not_old : (b : Base) (x : Value) → IsBase world b x → b ≡ InBlock (taken_in world) → ⊥
  not_old b x h e = too_far (subst (λ b. IsBase world b x) e h)
    where
      too_far : IsBase world (InBlock (taken_in world)) x → ⊥
      too_far h = omega (arith, base_below h)

  member_apart : (j : ℕ) → taken_in world ≡ j → Member j cs → ⊥
  member_apart j e m = omega (arith, e, each_below each j m)

  first_or_more : (own k : ℕ) (bs : List ℕ) (P : Type 0) → Member k (own ∷ bs) → (k ≡ own → P) → (Member k bs → P) → P
  first_or_more own k bs P (inl e) first more = first e
  first_or_more own k bs P (inr m) first more = more m

  filled : (class : ℕ) (after : World) → CopiedParts (EachHas f (count all) 0) 0 (row_of to (taken_in world)) (Parts start) start
      (held_world to w world at none class (count all) (Elements start)) after → Copied (elements f) to w world after
  filled class after s =
      let n = count all in
      let new = taken_in world in
      let more = taken_length to w world at none class n (Elements start) in
      let same : count s.now ≡ n = s.same_count ∙ count_repeated n (vacant f) in
      record {
        now = Handle n (Some new);
        blocks = new ∷ s.blocks;
        has = subst (λ m. Has after Full (elements f) (Handle m (Some new)) (new ∷ s.blocks)) same
            (a_sequence s.is (subst (λ m. HasEach after Full f m 0 s.now s.blocks) (sym same) s.has));
        distinct = (λ m. clash new (s.fresh new m) more, s.distinct);
        fresh = λ k m. first_or_more new k s.blocks (new ≤ k) m (λ e. omega (arith, e)) (λ q. omega (arith, s.fresh k q, more));
        below = λ k m. first_or_more new k s.blocks (k < taken_in after) m (λ e. omega (arith, e, s.grows, more)) (s.below k);
        grows = omega (arith, s.grows, more);
        is = s.elsewhere to.base (put_part w to.path (Handle n (Some new))) (taken_is to w world at none class n (Elements start))
            (λ e. not_new to w world at none class n (Elements start) (sym e));
        elsewhere = λ b x h d. s.elsewhere b x (taken_stay to w world at none class n (Elements start) b x h d) (not_old b x h);
        loses = λ k. omega (arith, s.loses k, taken_all to w world at none class n (Elements start) k);
        once = keeps_then (taken_once to w world at none class n (Elements start) (none_repeated n (vacant f) (vacant_none f))) s.once;
      }
    where
      clash : (new : ℕ) → taken_in (held_world to w world at none class (count all) (Elements start)) ≤ new →
          taken_in (held_world to w world at none class (count all) (Elements start)) ≡ suc new → ⊥
      clash new far more = omega (arith, far, more)

  elements_copied : (class : ℕ) → Sure (each_part (count all) (walk copying f) 0 (row_of to (taken_in world)) s) Q
      (held_world to w world at none class (count all) (Elements start))
  elements_copied class =
      let n = count all in
      let now = held_world to w world at none class n (Elements start) in
      sure_weaker (each_part n (walk copying f) 0 (row_of to (taken_in world)) s)
      (λ x after. CopiedParts (EachHas f n 0) 0 (row_of to (taken_in world)) (Parts start) start now after) Q now
      (each_copies f copies n 0 (row_of to (taken_in world)) s (Parts start) u start all cs now
      (record {
        base = new_stays to w world at none class n (Elements start) (Parts start) (taken_row world class start);
        part_there = whole;
        is = refl;
        may = λ i. block_may;
      })
      (each_vacant f n)
      (record { base = taken_stay to w world at none class n (Elements start) s.base u source.base d; there = source.there; is = source.is })
      (each_stays world now (λ j x m h. taken_stay to w world at none class n (Elements start) (InBlock j) x h (λ e. own j (sym e) m)) each)
      (not_old s.base u source.base)
      (λ j e m. member_apart j (same_number (taken_in world) j e) m))
      (λ x after s. filled class after s)

  sequence_copied : (v : Value) (from : Location) → ((n m j : ℕ) → each_element n (walk copying f) 0 (Handle m (Some j)) to v from
      ≡ each_part n (walk copying f) 0 (row_of to j) s) → Sure (fresh (count all) (count all * size f) (Elements start)
      >>= (λ x. sets to x >> each_element (count all) (walk copying f) 0 x to v from)) Q world
  sequence_copied v from same =
      let n = count all in
      let act = walk copying f in
      fresh_then n (n * size f) (Elements start) (λ x. sets to x >> each_element n act 0 x to v from) Q world
      (λ e. subst (λ m. Sure (sets to (Handle 0 None) >> each_element m act 0 (Handle 0 None) to v from) Q world) (sym e)
      (sure_then (sets to (Handle 0 None)) (λ u. give tt) Q Q world
      (sure_sets (Handle 0 None) Q at (plain_copied to w world at none (Handle 0 None) (elements f) (λ k. refl) (λ after. no_sequence)))
      (λ u after h. h)))
      (λ class.
      let x = Handle n (Some (taken_in world)) in
      sure_then (sets to x) (λ u. each_element n act 0 x to v from) (λ u after. after ≡ held_world to w world at none class n (Elements start)) Q
      (with_block class (Elements start) world)
      (sure_sets x (λ u after. after ≡ held_world to w world at none class n (Elements start)) (at_taken to w world at none class n (Elements start)) refl)
      (λ u after is. subst (λ y. Sure (each_element n act 0 x to v from) Q y) (sym is)
      (subst (λ deed. Sure deed Q (held_world to w world at none class n (Elements start))) (sym (same n n (taken_in world))) (elements_copied class))))

sequence_copies : (f : Form) → Copies f → Copies (elements f)
sequence_copies f copies to from w u v bs world at empty source h d own =
    sure_reads (λ world v. costs 8 (copied_elements f (walk copying f) to v from)) (λ x after. Copied (elements f) to w world after) source tt h
    (by v bs source h own)
  where
    none : HasNone (part w to.path)
    none k = ap (held_by k) empty

    empty_copied : (v : Value) → Sure (sets to (Handle 0 None) >> each_element 0 (walk copying f) 0 (Handle 0 None) to v from)
        (λ x after. Copied (elements f) to w world after) world
    empty_copied v =
        let Q : Unit {0} → World → Type 0 = λ x after. Copied (elements f) to w world after in
        sure_then (sets to (Handle 0 None)) (λ u. give tt) Q Q world
        (sure_sets (Handle 0 None) Q at (plain_copied to w world at none (Handle 0 None) (elements f) (λ k. refl) (λ after. no_sequence)))
        (λ u after h. h)

    by : (v : Value) (bs : List ℕ) → From world from u v → Has world Constant (elements f) v bs → Apart to.base bs →
        Sure (copied_elements f (walk copying f) to v from) (λ x after. Copied (elements f) to w world after) world
    by v _ source no_sequence own = empty_copied (Handle 0 None)
    by _ _ source (a_sequence {k = k} {all = all} {bs = cs} b each) own =
        sequence_copied f copies to (row_of from k) w (Parts all) all cs world at none (record { base = b; there = here; is = refl }) each
        (λ e. own k (sym e) (inl refl)) (λ j e m. own j e (inr m)) (Handle (count all) (Some k)) from
        (λ n m j. each_element_is n m (count all) k j (walk copying f) 0 to from)
    by _ _ source (constant_sequence {all = all} {bs = cs} each) own =
        sequence_copied f copies to from w u all cs world at none (record { base = source.base; there = source.there; is = source.is }) each d own
        (Parts all) from
        (λ n m j. element_part_is n m j all (walk copying f) 0 to from)

-- a row's parts are there
copied_row : (f : Form) (left : List ℕ → World → Values → Type 0) (to : Location) (w : Value) (all : Values) (world after : World) →
    ((now : Values) (bs : List ℕ) → count now ≡ count all → left bs after now → Has after Full f (Parts now) bs) → CopiedParts left 0 to w all world after →
    Copied f to w world after
copied_row f left to w all world after has s = record {
  now = Parts s.now;
  blocks = s.blocks;
  has = has s.now s.blocks s.same_count s.has;
  distinct = s.distinct;
  fresh = s.fresh;
  below = s.below;
  grows = s.grows;
  is = s.is;
  elsewhere = s.elsewhere;
  loses = s.loses;
  once = s.once;
}

row_copies : (n : ℕ) (f : Form) → Copies f → Copies (row n f)
row_copies n f copies to from w u v bs world at empty source h d own = by (of_some n (hooked f)) refl v bs source h own
  where
    none : HasNone (part w to.path)
    none k = ap (held_by k) empty ∙ vacant_none (row n f) k

    by : (b : Bool) → of_some n (hooked f) ≡ b → (v : Value) (bs : List ℕ) → From world from u v → Has world Constant (row n f) v bs → Apart to.base bs →
        Sure (branch b (each_part n (walk copying f) 0 to from) (bits to from)) (λ x after. Copied (row n f) to w world after) world
    by false is v bs source h own = bits_copied (row n f) to from w u v bs world at none source is h
    by true is _ _ source (a_row {all = src} {bs = bs} same each) own =
        let start = repeated n (vacant f) in
        let whole_is : part w to.path ≡ Parts start = empty ∙ ap (λ b. if b then Parts start else Vacant) is in
        sure_weaker (each_part n (walk copying f) 0 to from) (λ x after. CopiedParts (EachHas f n 0) 0 to w start world after)
        (λ x after. Copied (row n f) to w world after) world
        (each_copies f copies n 0 to from w u start src bs world
        (record { base = at.base; part_there = at.part; is = whole_is; may = λ i. may_deeper i at.may })
        (each_vacant f n) (record { base = source.base; there = source.there; is = source.is }) each d own)
        (λ x after s. copied_row (row n f) (EachHas f n 0) to w start world after
        (λ now bs q left. a_row (q ∙ count_repeated n (vacant f)) left) s)

parts_copy : (fs : Forms) → AllCopies fs → Copies (parts fs)
parts_copy fs copies to from w u v bs world at empty source h d own = by (hooked_any fs) refl v bs source h own
  where
    none : HasNone (part w to.path)
    none k = ap (held_by k) empty ∙ vacant_none (parts fs) k

    by : (b : Bool) → hooked_any fs ≡ b → (v : Value) (bs : List ℕ) → From world from u v → Has world Constant (parts fs) v bs → Apart to.base bs →
        Sure (branch b (walk_all copying fs 0 to from) (bits to from)) (λ x after. Copied (parts fs) to w world after) world
    by false is v bs source h own = bits_copied (parts fs) to from w u v bs world at none source is h
    by true is _ _ source (some_parts {all = src} {bs = bs} h) own =
        let start = all_vacant fs in
        let whole_is : part w to.path ≡ Parts start = empty ∙ ap (λ b. if b then Parts start else Vacant) is in
        sure_weaker (walk_all copying fs 0 to from) (λ x after. CopiedParts (AllHas fs 0) 0 to w start world after)
        (λ x after. Copied (parts fs) to w world after) world
        (copies 0 to from w u start src bs world (record { base = at.base; part_there = at.part; is = whole_is; may = λ i. may_deeper i at.may })
        (all_are_vacant fs) (record { base = source.base; there = source.there; is = source.is }) h d own)
        (λ x after s. copied_row (parts fs) (AllHas fs 0) to w start world after (λ now bs q left. some_parts left) s)

wrapped_copies : (f : Form) → Copies f → Copies (wrapped f)
wrapped_copies f copies to from w u v bs world at empty source (of_wrapped h) d own =
    sure_weaker (walk copying f to from) (λ x after. Copied f to w world after) (λ x after. Copied (wrapped f) to w world after) world
    (copies to from w u v bs world at empty source h d own)
    (λ x after s. record {
      now = s.now;
      blocks = s.blocks;
      has = of_wrapped s.has;
      distinct = s.distinct;
      fresh = s.fresh;
      below = s.below;
      grows = s.grows;
      is = s.is;
      elsewhere = s.elsewhere;
      loses = s.loses;
      once = s.once;
    })

mutual
  pub copies : (f : Form) → Copies f
  copies plain = plain_copies
  copies reference = reference_copies
  copies block = text_copies
  copies (elements f) = sequence_copies f (copies f)
  copies (row n f) = row_copies n f (copies f)
  copies (parts fs) = parts_copy fs (all_copy fs)
  copies (resource fs) = resource_copies fs
  copies (wrapped f) = wrapped_copies f (copies f)

  all_copy : (fs : Forms) → AllCopies fs
  all_copy no_forms = no_more_copies
  all_copy (forms f fs) = more_copies f fs (copies f) (all_copy fs)
