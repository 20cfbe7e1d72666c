-- A text that gets a character at a time: what it has grown to, and what it is to grow to.
use Rattle.std.proofs.Common.{◌≡◌, ℕ, suc, ◌+◌, ◌-◌, ◌*◌, ◌^◌, ◌<◌, ◌≤◌, List, [], ◌∷◌, ◌++◌, length, take, Option, Some, None}
use Rattle.std.proofs.Common.{Bool, true, false, refl, sym, ap, subst, ◌∙◌, ⊎_elim, arith, length-append}
use Rattle.std.specs.Prelude.{◌==◌, ◌||◌, nat_le, if◌then◌else◌}
use Rattle.std.proofs.lemmas.Bool.{cases_eq}
use Rattle.nim_meaning.specs.Heap.{Class, one_more, at_class, has_room}
use Rattle.word_code.specs.Memory.{Memory}
use Rattle.word_code.proofs.ForCallers.{Sized}
use Rattle.heap_memory.specs.declared.numbers.TheConstants.{FURTHER_LINES}
use Rattle.heap_memory.specs.declared.numbers.TheConstants.{GROW_LINES, KEPT_LINES, MOVE_BYTE}
use Rattle.heap_memory.specs.declared.numbers.TheConstants.{CHAR_LINES}
use Rattle.heap_memory.specs.HeapState.{Standing, with_block, IsHeap}
use Rattle.heap_memory.specs.HeapRoutines.{class_of}
use Rattle.heap_memory.specs.TextRoutines.{AreBytes}
use Rattle.heap_memory.specs.GrowRoutine.{Growing, place_of, room_of, holds_it, may_grow, IsPresent, MayGrow, classes_then, stands_then, kept_of}
use Rattle.heap_memory.specs.GrowRoutine.{grow_work}
use Rattle.heap_memory.specs.AppendRoutine.{with_owned, with_payload, new_block, IsFilled}
use Rattle.heap_memory.specs.LineRoutine.{UnderWay, capacity, has_capacity, without_class, one_longer, may_get, char_work, Reading, block_of_class}
use Rattle.heap_memory.specs.LineRoutine.{block_under_way, HasBlock, IsUnderWay}
use Rattle.heap_memory.proofs.ForCallers.{if_same, if_other}
use Rattle.heap_memory.proofs.ForCallers.{same_stands}
use Rattle.heap_memory.proofs.ForCallers.{is_there}

module _ (own : ℕ) (u : Reading) (unused : (k : ℕ) → u.first ≤ k → u.stands k ≡ None) where
  pub record Stage (w : UnderWay) (text : List ℕ) (m : Memory) (place : ℕ) : Type 0 where
    pub regions : Sized m
    pub all : length m.heap ≡ u.room
    pub payload : List ℕ
    pub front : take (length text) payload ≡ text
    pub long : length text ≡ w.length
    pub are : AreBytes text
    pub has : HasBlock w.class w.length w.takes payload
    pub there : place_of (block_under_way u.first place payload w) ≡ place
    pub heap : IsHeap own w.classes (with_owned (block_under_way u.first place payload w) u.stands) m

  pub is_under_way : (w : UnderWay) (text : List ℕ) (m : Memory) (place : ℕ) → Stage w text m place → IsUnderWay own u w text m place
  is_under_way w text m place x = record { payload = x.payload; long = x.long; has = x.has; front = x.front; there = x.there; heap = x.heap }

  -- ---- it is to get one more

  abbrev pub growth : (w : UnderWay) (payload : List ℕ) (place : ℕ) → Growing
  growth w payload place = record {
    present = block_under_way u.first place payload w;
    kept = w.length;
    wanted = suc w.length;
    identity = u.first + w.takes;
    room = u.room;
    classes = w.classes;
    stands = with_owned (block_under_way u.first place payload w) u.stands;
  }

  present_is : (k : Option ℕ) (long takes place : ℕ) (payload text : List ℕ) → HasBlock k long takes payload → take (length text) payload ≡ text
      → length text ≡ long → AreBytes text
      → IsPresent (with_owned (block_of_class k (u.first + takes - 1) place payload) u.stands) long
      (block_of_class k (u.first + takes - 1) place payload)
  present_is None long takes place payload text has front e are = has
  present_is (Some class) long takes place payload text has front e are = (
    if_same (u.first + takes - 1) (u.first + takes - 1) (Some (new_block class place payload)) (u.stands (u.first + takes - 1)) refl,
    refl,
    refl,
    has.0,
    subst (λ t. AreBytes t) (sym front ∙ ap (λ i. take i payload) e) are,
  )

  unused_is : (k : Option ℕ) (long takes place : ℕ) (payload : List ℕ) → HasBlock k long takes payload
      → with_owned (block_of_class k (u.first + takes - 1) place payload) u.stands (u.first + takes) ≡ None
  unused_is None long takes place payload has = unused (u.first + takes) (omega arith)
  unused_is (Some class) long takes place payload has =
      let some = has.1 in
      if_other (u.first + takes) (u.first + takes - 1) (Some (new_block class place payload)) (u.stands (u.first + takes))
      (λ e. absurd (omega (arith, e, some)))
      ∙ unused (u.first + takes) (omega arith)

  capacity_of : (k : Option ℕ) (identity place : ℕ) (payload : List ℕ) (classes : List Class) (m : Memory) → Sized m
      → IsHeap own classes (with_owned (block_of_class k identity place payload) u.stands) m
      → capacity k ≡ room_of (block_of_class k identity place payload)
  capacity_of None identity place payload classes m sized heap = refl
  capacity_of (Some class) identity place payload classes m sized heap =
      let whole = (is_there own classes (with_block u.stands identity (new_block class place payload)) m heap identity (new_block class place payload)
      (if_same identity identity (Some (new_block class place payload)) (u.stands identity) refl) sized).whole in
      omega (arith, whole)

  length_low : (k : Option ℕ) (long takes identity place : ℕ) (payload : List ℕ) (classes : List Class) (m : Memory) → Sized m
      → IsHeap own classes (with_owned (block_of_class k identity place payload) u.stands) m → HasBlock k long takes payload → suc long < 2 ^ 32
  length_low None long takes identity place payload classes m sized heap has = omega (arith, has)
  length_low (Some class) long takes identity place payload classes m sized heap has =
      let high = (is_there own classes (with_block u.stands identity (new_block class place payload)) m heap identity (new_block class place payload)
      (if_same identity identity (Some (new_block class place payload)) (u.stands identity) refl) sized).high in
      let most = sized.heap_most in
      let few = has.0 in
      omega (arith, high, most, few)

  module _ (w : UnderWay) (text : List ℕ) (m : Memory) (place : ℕ) (x : Stage w text m place) where
    pub may_be_longer : MayGrow own (growth w x.payload place) m
    may_be_longer = record {
      heap = x.heap;
      all = x.all;
      word = length_low w.class w.length w.takes (u.first + w.takes - 1) place x.payload w.classes m x.regions x.heap x.has;
      unused = unused_is w.class w.length w.takes place x.payload x.has;
      present = present_is w.class w.length w.takes place x.payload text x.has x.front x.long x.are;
    }

    -- the characters that it has are kept
    pub kept_text : kept_of (block_under_way u.first place x.payload w) w.length ≡ text
    kept_text = by w.class x.has
      where
        by : (k : Option ℕ) → HasBlock k w.length w.takes x.payload → kept_of (block_of_class k (u.first + w.takes - 1) place x.payload) w.length ≡ text
        by None has = sym (empty text (x.long ∙ has))
          where
            empty : (xs : List ℕ) → length xs ≡ 0 → xs ≡ []
            empty [] e = refl
            empty (a ∷ xs) e = absurd (omega (arith, e))
        by (Some class) has = ap (λ i. take i x.payload) (sym x.long) ∙ x.front

    pub holds_same : holds_it (block_under_way u.first place x.payload w) (suc w.length) ≡ has_capacity w
    holds_same =
        ap (nat_le (suc w.length)) (sym (capacity_of w.class (u.first + w.takes - 1) place x.payload w.classes m x.regions x.heap))

    pub grows_same : may_grow (growth w x.payload place) ≡ may_get u.room w
    grows_same =
        ap (λ b. b || has_room (record { room = u.room; classes = w.classes; blocks = [] }) (class_of (suc w.length))) holds_same

    pub work_same : CHAR_LINES + grow_work (growth w x.payload place) ≡ char_work w
    work_same =
        ap (λ b. CHAR_LINES + (if b then KEPT_LINES else GROW_LINES + (FURTHER_LINES * class_of (suc w.length) + MOVE_BYTE * w.length))) holds_same

    -- where it stands
    pub place_low : place < 2 ^ 32
    place_low = by w.class x.there x.heap
      where
        by : (k : Option ℕ) → place_of (block_of_class k (u.first + w.takes - 1) place x.payload) ≡ place
            → IsHeap own w.classes (with_owned (block_of_class k (u.first + w.takes - 1) place x.payload) u.stands) m → place < 2 ^ 32
        by None there heap = omega (arith, there)
        by (Some class) there heap =
            let i : ℕ = u.first + w.takes - 1 in
            let high = (is_there own w.classes (with_block u.stands i (new_block class place x.payload)) m heap i (new_block class place x.payload)
            (if_same i i (Some (new_block class place x.payload)) (u.stands i) refl) x.regions).high in
            let most = x.regions.heap_most in
            omega (arith, high, most)

  -- ---- it has got one

  -- in its block
  in_block : (k : Option ℕ) (identity place place1 : ℕ) (payload payload1 : List ℕ) (classes : List Class) (m : Memory)
      → place_of (with_payload (block_of_class k identity place payload) payload1) ≡ place1
      → IsHeap own classes (with_owned (with_payload (block_of_class k identity place payload) payload1)
      (with_owned (block_of_class k identity place payload) u.stands)) m
      → IsHeap own classes (with_owned (block_of_class k identity place1 payload1) u.stands) m
  in_block None identity place place1 payload payload1 classes m there heap = heap
  in_block (Some class) identity place place1 payload payload1 classes m there heap =
      subst (λ p. IsHeap own classes (with_block u.stands identity (new_block class p payload1)) m) there
      (same_stands own classes (with_block (with_block u.stands identity (new_block class place payload)) identity (new_block class place payload1))
      (with_block u.stands identity (new_block class place payload1)) m once heap)
    where
      once : (j : ℕ) → with_block u.stands identity (new_block class place payload1) j
          ≡ with_block (with_block u.stands identity (new_block class place payload)) identity (new_block class place payload1) j
      once j = by (j == identity)
        where
          by : (b : Bool) → ◌≡◌ {A = Option Standing} (if b then Some (new_block class place payload1) else u.stands j)
              (if b then Some (new_block class place payload1) else (if b then Some (new_block class place payload) else u.stands j))
          by true = refl
          by false = refl

  in_place : (k : Option ℕ) (identity place place1 : ℕ) (payload payload1 : List ℕ)
      → place_of (with_payload (block_of_class k identity place payload) payload1) ≡ place1
      → place_of (block_of_class k identity place1 payload1) ≡ place1
  in_place None identity place place1 payload payload1 there = there
  in_place (Some class) identity place place1 payload payload1 there = refl

  in_room : (k : Option ℕ) (long takes identity place : ℕ) (payload payload1 : List ℕ)
      → suc long ≤ room_of (with_payload (block_of_class k identity place payload) payload1) → HasBlock k long takes payload
      → HasBlock k (suc long) takes payload1
  in_room None long takes identity place payload payload1 room has = absurd (omega (arith, room))
  in_room (Some class) long takes identity place payload payload1 room has = (room, has.1)

  -- in a new one
  new_classes : (k : Option ℕ) (identity place : ℕ) (payload : List ℕ) (classes : List Class)
      → classes_then (block_of_class k identity place payload) classes ≡ without_class k classes
  new_classes None identity place payload classes = refl
  new_classes (Some class) identity place payload classes = refl

  new_stands : (k : Option ℕ) (long takes place : ℕ) (payload : List ℕ) (new : Standing) → HasBlock k long takes payload → (j : ℕ)
      → with_block u.stands (u.first + takes) new j
      ≡ stands_then (block_of_class k (u.first + takes - 1) place payload)
      (with_block (with_owned (block_of_class k (u.first + takes - 1) place payload) u.stands) (u.first + takes) new) j
  new_stands None long takes place payload new has j = refl
  new_stands (Some class) long takes place payload new has j =
      let some = has.1 in
      let i : ℕ = u.first + takes - 1 in
      let k : ℕ = u.first + takes in
      let old : Standing = new_block class place payload in
      ⊎_elim
      (λ e.
      if_other j k (Some new) (u.stands j) (λ f. absurd (omega (arith, e, f, some))) ∙ unused j (omega (arith, e, some))
      ∙ sym (if_same j i None (with_block (with_block u.stands i old) k new j) e))
      (λ differ.
      ap (λ o. if j == k then Some new else o) (sym (if_other j i (Some old) (u.stands j) differ))
      ∙ sym (if_other j i None (with_block (with_block u.stands i old) k new j) differ))
      (cases_eq j i)

  module _ (w : UnderWay) (text more : List ℕ) (m other : Memory) (place place1 : ℕ) (x : Stage w text m place) (regions : Sized other)
      (all : length other.heap ≡ u.room) (one : length more ≡ 1) (are : AreBytes (text ++ more))
    where
      longer_by_one : length (text ++ more) ≡ suc w.length
      longer_by_one = let l = x.long in let s = length-append text more in omega (arith, l, s, one)

      abbrev in_it : UnderWay
      in_it = record { length = suc w.length; class = w.class; classes = w.classes; takes = w.takes }

      abbrev in_new : UnderWay
      in_new = record {
        length = suc w.length;
        class = Some (class_of (suc w.length));
        classes = without_class w.class (at_class one_more (class_of (suc w.length)) w.classes);
        takes = suc w.takes;
      }

      pub next_stage : (b : Bool) → has_capacity w ≡ b → IsFilled b own (growth w x.payload place) (text ++ more) other place1
          → Stage (one_longer w) (text ++ more) other place1
      next_stage true has f =
          subst (λ y. Stage y (text ++ more) other place1) (sym (ap (λ b. if b then in_it else in_new) has)) (record {
            regions = regions;
            all = all;
            payload = f.payload;
            front = f.front;
            long = longer_by_one;
            are = are;
            has = in_room w.class w.length w.takes (u.first + w.takes - 1) place x.payload f.payload f.room x.has;
            there = in_place w.class (u.first + w.takes - 1) place place1 x.payload f.payload f.there;
            heap = in_block w.class (u.first + w.takes - 1) place place1 x.payload f.payload w.classes other f.there f.heap;
          })
      next_stage false has f =
          let new : Standing = new_block (class_of (suc w.length)) place1 f.payload in
          let id : u.first + w.takes ≡ u.first + suc w.takes - 1 = omega arith in
          let classes : List Class = at_class one_more (class_of (suc w.length)) w.classes in
          subst (λ y. Stage y (text ++ more) other place1) (sym (ap (λ b. if b then in_it else in_new) has)) (record {
            regions = regions;
            all = all;
            payload = f.payload;
            front = f.front;
            long = longer_by_one;
            are = are;
            has = (f.room, omega arith);
            there = refl;
            heap = subst (λ i. IsHeap own (without_class w.class classes) (with_block u.stands i new) other) id
                (subst (λ cs. IsHeap own cs (with_block u.stands (u.first + w.takes) new) other)
                (new_classes w.class (u.first + w.takes - 1) place x.payload classes)
                (same_stands own (classes_then (block_under_way u.first place x.payload w) classes)
                (stands_then (block_under_way u.first place x.payload w)
                (with_block (with_owned (block_under_way u.first place x.payload w) u.stands) (u.first + w.takes) new))
                (with_block u.stands (u.first + w.takes) new) other (new_stands w.class w.length w.takes place x.payload new x.has) f.heap));
          })
