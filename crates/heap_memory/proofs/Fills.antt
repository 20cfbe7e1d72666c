-- Bytes come behind those at the front of a block.
use Rattle.std.proofs.Common.{◌≡◌, ◌≢◌, ℕ, zero, suc, ◌+◌, ◌^◌, ◌<◌, ◌≤◌, inl, inr, List, [], ◌∷◌, ◌++◌, length, take, Option, Some, None, Bool, true, false}
use Rattle.std.proofs.Common.{refl, sym, ap, subst, ◌∙◌, ⊎_elim, arith, length-append}
use Rattle.std.specs.Prelude.{◌==◌, if◌then◌else◌}
use Rattle.std.proofs.lemmas.Bool.{cases_eq, leb-true}
use Rattle.std.proofs.lemmas.List.{length-take, take-take}
use Rattle.std.proofs.lemmas.Option.{none-some, same_Some}
use Rattle.nim_meaning.specs.Heap.{Class}
use Rattle.rv32_isa.specs.Image.{heap_at}
use Rattle.word_code.specs.Memory.{Memory, bytes_at, may_fill}
use Rattle.word_code.specs.RoutineTable.{Beside, IsRewritten}
use Rattle.word_code.proofs.ForCallers.{Sized}
use Rattle.heap_memory.specs.HeapState.{Standing, Stands, with_block, without_block, IsHeap}
use Rattle.heap_memory.specs.HeapUse.{IsThere, IsRefilled}
use Rattle.heap_memory.specs.HeapRoutines.{class_of, fits, IsBesideHeap}
use Rattle.heap_memory.specs.GrowRoutine.{Owned, Growing, taking, place_of, room_of, holds_it, IsPresent, stands_then, kept_of}
use Rattle.heap_memory.specs.GrowRoutine.{GrowLeaves, GrowGives}
use Rattle.heap_memory.specs.AppendRoutine.{with_owned, with_payload, new_block, block_then, classes_behind, stands_behind, IsFilled}
use Rattle.heap_memory.proofs.BlockLists.{if_same, if_other, size_some}
use Rattle.heap_memory.proofs.Sizes.{same_stands}
use Rattle.heap_memory.proofs.HeapUses.{is_there, refilled, still_heap}
use Rattle.heap_memory.proofs.Ranges.{written_in, part_read, part_written, joined_read}

-- ---- beside the heap

pub beside_heap : (at : ℕ) (m other : Memory) (a n : ℕ) → heap_at ≤ a → a + n ≤ heap_at + length m.heap → IsRewritten m other a n → IsBesideHeap at m other
beside_heap at m other a n low high x = record { sizes = x.sizes; beside = λ b k words heap. x.beside b k (sides b k heap) }
  where
    sides : (b k : ℕ) → Beside b k heap_at (length m.heap) → Beside b k a n
    sides b k (inl h) = inl (omega (arith, h, low))
    sides b k (inr h) = inr (omega (arith, h, high))

-- ---- the front of a block

module _ (m : Memory) (sized : Sized m) (x : Standing) (there : IsThere m x) where
  some_payload : 0 < length x.payload
  some_payload = let w = there.whole in let some = size_some x.class in omega (arith, w, some)

  pub front_read : (i n : ℕ) → i + n ≤ length x.payload → bytes_at m x.place (length x.payload) ≡ Some x.payload → i ≡ 0
      → bytes_at m x.place n ≡ Some (take n x.payload)
  front_read i n few bytes none =
      let zero_at : x.place ≡ x.place + 0 = omega arith in
      let r = written_in m sized x.place (length x.payload) some_payload there.may in
      ap (λ p. bytes_at m p n) zero_at ∙ part_read m sized x.place (length x.payload) x.payload r bytes 0 n (omega (arith, few))

  pub part_open : (i n : ℕ) → i + n ≤ length x.payload → may_fill m (x.place + i) n ≡ true
  part_open i n few = part_written m sized x.place (length x.payload) (written_in m sized x.place (length x.payload) some_payload there.may) i n few

-- ---- bytes are put behind them

module _ (at : ℕ) (classes : List Class) (stands : Stands) (m : Memory) (h : IsHeap at classes stands m) (sized : Sized m) (other : Memory)
    (sized_other : Sized other) (o : Owned) (stood : stands o.identity ≡ Some o.block) (text more : List ℕ)
    (begins : take (length text) o.block.payload ≡ text) (room : length text + length more ≤ length o.block.payload)
    (written : IsRewritten m other (o.block.place + length text) (length more))
    (here : bytes_at other (o.block.place + length text) (length more) ≡ Some more)
  where
    pub record IsPut : Type 0 where
      pub payload : List ℕ
      pub long : length payload ≡ length o.block.payload
      pub front : take (length (text ++ more)) payload ≡ text ++ more
      pub heap : IsHeap at classes (with_block stands o.identity (record o.block { payload = payload })) other
      pub rest : IsBesideHeap at m other

    there_then : IsThere m o.block
    there_then = is_there at classes stands m h o.identity o.block stood sized

    pub is_put : IsPut
    is_put =
        let x : IsRefilled at classes stands o.identity o.block other
        = refilled at classes stands m h sized other sized_other o.identity o.block (length text) (length more) stood room written in
        let now : Standing = record { place = o.block.place; class = o.block.class; kind = o.block.kind; word = o.block.word; payload = x.payload } in
        let there_now : IsThere other now
        = is_there at classes (with_block stands o.identity now) other x.heap o.identity now (if_same o.identity o.identity (Some now) (stands o.identity) refl)
        sized_other in
        let long = x.long in
        let few : length text ≤ length o.block.payload = omega (arith, room) in
        let old : bytes_at other o.block.place (length text) ≡ Some text
        = written.beside o.block.place (length text) (inl (omega arith))
        ∙ front_read m sized o.block there_then 0 (length text) (omega (arith, few)) there_then.bytes refl
        ∙ ap Some begins in
        let zero_at : o.block.place + 0 ≡ o.block.place = omega arith in
        let open_all : may_fill other o.block.place (length text + length more) ≡ true
        = ap (λ a. may_fill other a (length text + length more)) (sym zero_at)
        ∙ part_open other sized_other now there_now 0 (length text + length more) (omega (arith, room, long)) in
        let all : bytes_at other o.block.place (length text + length more) ≡ Some (text ++ more)
        = joined_read other sized_other o.block.place text more open_all old here in
        let sum : length (text ++ more) ≡ length text + length more = length-append text more in
        let low = there_then.low in
        let high = there_then.high in
        record {
          payload = x.payload;
          long = x.long;
          front = same_Some (take (length (text ++ more)) x.payload) (text ++ more)
              (sym (front_read other sized_other now there_now 0 (length (text ++ more)) (omega (arith, room, long, sum)) there_now.bytes refl)
              ∙ ap (bytes_at other o.block.place) sum ∙ all);
          heap = x.heap;
          rest = beside_heap at m other (o.block.place + length text) (length more) (omega (arith, low)) (omega (arith, high, room)) written;
        }

-- ---- blocks by their identities

-- what is there twice is the later one
twice : (stands : Stands) (k : ℕ) (s t : Standing) (j : ℕ) → with_block stands k t j ≡ with_block (with_block stands k s) k t j
twice stands k s t j = by (j == k)
  where
    by : (b : Bool) → ◌≡◌ {A = Option Standing} (if b then Some t else stands j) (if b then Some t else (if b then Some s else stands j))
    by true = refl
    by false = refl

-- a block that stands as it is
itself : (stands : Stands) (k : ℕ) (s : Standing) → stands k ≡ Some s → (j : ℕ) → with_block stands k s j ≡ stands j
itself stands k s stood j = ⊎_elim
    (λ e. if_same j k (Some s) (stands j) e ∙ sym stood ∙ ap stands (sym e))
    (λ other. if_other j k (Some s) (stands j) other) (cases_eq j k)

-- beside one that is given back
pub then_stands : (p : Option Owned) (stands : Stands) (k : ℕ) (s : Standing) → ((o : Owned) → p ≡ Some o → k ≢ o.identity)
    → stands_then p (with_block stands k s) k ≡ Some s
then_stands None stands k s other = if_same k k (Some s) (stands k) refl
then_stands (Some o) stands k s other =
    if_other k o.identity None (with_block stands k s k) (other o refl) ∙ if_same k k (Some s) (stands k) refl

then_twice : (p : Option Owned) (stands : Stands) (k : ℕ) (s t : Standing) → ((o : Owned) → p ≡ Some o → k ≢ o.identity)
    → (j : ℕ) → stands_then p (with_block stands k t) j ≡ with_block (stands_then p (with_block stands k s)) k t j
then_twice None stands k s t other j = twice stands k s t j
then_twice (Some o) stands k s t other j = ⊎_elim
    (λ e.
    if_other j o.identity None (with_block stands k t j) (λ i. other o refl (sym e ∙ i)) ∙ if_same j k (Some t) (stands j) e
    ∙ sym (if_same j k (Some t) (without_block (with_block stands k s) o.identity j) e))
    (λ no_eq.
    ap (λ x. if j == o.identity then None else x) (if_other j k (Some t) (stands j) no_eq ∙ sym (if_other j k (Some s) (stands j) no_eq))
    ∙ sym (if_other j k (Some t) (without_block (with_block stands k s) o.identity j) no_eq))
    (cases_eq j k)

-- ---- behind a growth

module _ (at : ℕ) (u : Growing) (unused : u.stands u.identity ≡ None) (present : IsPresent u.stands u.kept u.present) where
  pub kept_length : length (kept_of u.present u.kept) ≡ u.kept
  kept_length = by u.present present
    where
      by : (p : Option Owned) → IsPresent u.stands u.kept p → length (kept_of p u.kept) ≡ u.kept
      by None is = sym is
      by (Some o) is = let few = is.3 in length-take u.kept o.block.payload ∙ omega (arith, few)

  pub not_new : (o : Owned) → u.present ≡ Some o → u.identity ≢ o.identity
  not_new o some e = by u.present present some
    where
      by : (p : Option Owned) → IsPresent u.stands u.kept p → p ≡ Some o → ⊥
      by None is same = absurd (none-some o same)
      by (Some x) is same =
          none-some x.block (sym unused ∙ ap u.stands (e ∙ ap (λ q. q.identity) (sym (same_Some x o same))) ∙ is.0)

  -- it stands with what was kept
  module _ (m : Memory) (heap : IsHeap at u.classes u.stands m) where
    pub stays_filled : u.wanted ≤ room_of u.present → IsFilled true at u (kept_of u.present u.kept) m (place_of u.present)
    stays_filled enough = by u.present refl present
      where
        by : (p : Option Owned) → u.present ≡ p → IsPresent u.stands u.kept p → IsFilled true at u (kept_of u.present u.kept) m (place_of u.present)
        by None is zero_kept =
            let e : kept_of u.present u.kept ≡ [] = ap (λ q. kept_of q u.kept) is in
            record {
              payload = [];
              front = ap (λ xs. take (length xs) []) e ∙ sym e;
              room = subst (λ q. u.wanted ≤ room_of (with_payload q [])) (sym is) (subst (λ q. u.wanted ≤ room_of q) is enough);
              there = ap (λ q. place_of (with_payload q [])) is ∙ sym (ap place_of is);
              heap = subst (λ q. IsHeap at u.classes (with_owned (with_payload q []) u.stands) m) (sym is) heap;
            }
        by (Some o) is has =
            let e : kept_of u.present u.kept ≡ take u.kept o.block.payload = ap (λ q. kept_of q u.kept) is in
            let few = has.3 in
            let l : length (take u.kept o.block.payload) ≡ u.kept = length-take u.kept o.block.payload ∙ omega (arith, few) in
            record {
              payload = o.block.payload;
              front = ap (λ xs. take (length xs) o.block.payload) e ∙ ap (λ i. take i o.block.payload) l ∙ sym e;
              room = subst (λ q. u.wanted ≤ room_of (with_payload q o.block.payload)) (sym is) (subst (λ q. u.wanted ≤ room_of q) is enough);
              there = ap (λ q. place_of (with_payload q o.block.payload)) is ∙ sym (ap place_of is);
              heap = subst (λ q. IsHeap at u.classes (with_owned (with_payload q o.block.payload) u.stands) m) (sym is)
                  (same_stands at u.classes u.stands (with_block u.stands o.identity o.block) m (itself u.stands o.identity o.block has.0) heap);
            }

    pub grown_filled : (b : Bool) → holds_it u.present u.wanted ≡ b → (other : Memory) (place : ℕ) → GrowLeaves b (fits (taking u)) at m other →
        GrowGives b at u other place
        → IsFilled b at u (kept_of u.present u.kept) other place
    grown_filled true holds other place same given =
        subst (λ y. IsFilled true at u (kept_of u.present u.kept) y place) (sym same)
        (subst (λ p. IsFilled true at u (kept_of u.present u.kept) m p) (sym given)
        (stays_filled (leb-true u.wanted (room_of u.present) holds)))
    grown_filled false holds other place left given = record {
      payload = given.payload;
      front = ap (λ i. take i given.payload) kept_length ∙ given.front;
      room = given.long;
      there = refl;
      heap = given.heap;
    }

  -- ---- more bytes come

  module _ (text more : List ℕ) (m other : Memory) (sized : Sized m) (sized_other : Sized other) (place : ℕ)
      (written : IsRewritten m other (place + length text) (length more))
      (here : bytes_at other (place + length text) (length more) ≡ Some more)
    where
      pub record Filled (b : Bool) : Type 0 where
        pub filled : IsFilled b at u (text ++ more) other place
        pub rest : IsBesideHeap at m other

      -- into a block that stands
      put_in : (o : Owned) (classes : List Class) (stands : Stands) → IsHeap at classes stands m → (stood : stands o.identity ≡ Some o.block)
          → (front : take (length text) o.block.payload ≡ text) → (room : length text + length more ≤ length o.block.payload) → o.block.place ≡ place
          → (payload : List ℕ) × (length payload ≡ length o.block.payload) × (take (length (text ++ more)) payload ≡ text ++ more)
          × IsHeap at classes (with_block stands o.identity (record o.block { payload = payload })) other × IsBesideHeap at m other
      put_in o classes stands heap stood front room there =
          let x = is_put at classes stands m heap sized other sized_other o stood text more front room
          (subst (λ p. IsRewritten m other (p + length text) (length more)) (sym there) written)
          (subst (λ p. bytes_at other (p + length text) (length more) ≡ Some more) (sym there) here) in
          (x.payload, x.long, x.front, x.heap, x.rest)

      pub fills : (b : Bool) (f : IsFilled b at u text m place) → length text + length more ≤ room_of (block_then b u place f.payload) → Filled b
      fills false f room =
          let o : Owned = record { identity = u.identity; block = new_block (class_of u.wanted) place f.payload } in
          let x = put_in o (classes_behind false u) (stands_behind false u (Some o)) f.heap (then_stands u.present u.stands u.identity o.block not_new) f.front
          room refl in
          let now : Standing = new_block (class_of u.wanted) place x.0 in
          let wanted = f.room in
          let long = x.1 in
          record {
            filled = record {
              payload = x.0;
              front = x.2;
              room = omega (arith, wanted, long);
              there = refl;
              heap = same_stands at (classes_behind false u) (with_block (stands_behind false u (Some o)) u.identity now)
                  (stands_then u.present (with_block u.stands u.identity now)) other (then_twice u.present u.stands u.identity o.block now not_new) x.3;
            };
            rest = x.4;
          }
      fills true f room = by u.present refl present f.payload f.front f.room f.there f.heap room
        where
          by : (p : Option Owned) → u.present ≡ p → IsPresent u.stands u.kept p → (payload : List ℕ) → take (length text) payload ≡ text
              → u.wanted ≤ room_of (with_payload u.present payload) → place_of (with_payload u.present payload) ≡ place →
              IsHeap at u.classes (with_owned (with_payload u.present payload) u.stands) m
              → length text + length more ≤ room_of (with_payload u.present payload) → Filled true
          by (Some q) is has payload front wanted there heap room =
              let o : Owned = record { identity = q.identity; block = record q.block { payload = payload } } in
              let r : room_of (with_payload u.present payload) ≡ length payload = ap (λ p. room_of (with_payload p payload)) is in
              let x = put_in o u.classes (with_block u.stands q.identity o.block)
              (subst (λ p. IsHeap at u.classes (with_owned (with_payload p payload) u.stands) m) is heap)
              (if_same q.identity q.identity (Some o.block) (u.stands q.identity) refl) front (omega (arith, room, r))
              (sym (ap (λ p. place_of (with_payload p payload)) is) ∙ there) in
              let now : Standing = record q.block { payload = x.0 } in
              let long = x.1 in
              let r1 : room_of (with_payload u.present x.0) ≡ length x.0 = ap (λ p. room_of (with_payload p x.0)) is in
              record {
                filled = record {
                  payload = x.0;
                  front = x.2;
                  room = omega (arith, wanted, r, r1, long);
                  there = ap (λ p. place_of (with_payload p x.0)) is ∙ sym (ap (λ p. place_of (with_payload p payload)) is) ∙ there;
                  heap = subst (λ p. IsHeap at u.classes (with_owned (with_payload p x.0) u.stands) other) (sym is)
                      (same_stands at u.classes (with_block (with_block u.stands q.identity o.block) q.identity now) (with_block u.stands q.identity now) other
                      (twice u.stands q.identity o.block now) x.3);
                };
                rest = x.4;
              }
          by None is zero_kept payload front wanted there heap room =
              let r : room_of (with_payload u.present payload) ≡ 0 = ap (λ p. room_of (with_payload p payload)) is in
              let zero_place : place ≡ 0 = sym there ∙ ap (λ p. place_of (with_payload p payload)) is in
              let no_more : length more ≡ 0 = omega (arith, room, r) in
              let no_text : length text ≡ 0 = omega (arith, room, r) in
              let none : length (text ++ more) ≡ 0 = length-append text more ∙ omega (arith, no_more, no_text) in
              let at_zero : place + length text ≡ 0 = omega (arith, zero_place, no_text) in
              let at_none : IsRewritten m other 0 0
              = subst (λ n. IsRewritten m other 0 n) no_more (subst (λ a. IsRewritten m other a (length more)) at_zero written) in
              let still : IsHeap at u.classes u.stands m = subst (λ p. IsHeap at u.classes (with_owned (with_payload p payload) u.stands) m) is heap in
              record {
                filled = record {
                  payload = [];
                  front = empty (text ++ more) none;
                  room = subst (λ p. u.wanted ≤ room_of (with_payload p [])) (sym is) (omega (arith, wanted, r));
                  there = ap (λ p. place_of (with_payload p [])) is ∙ sym (ap (λ p. place_of (with_payload p payload)) is) ∙ there;
                  heap = subst (λ p. IsHeap at u.classes (with_owned (with_payload p []) u.stands) other) (sym is)
                      (still_heap at u.classes u.stands m still sized other sized_other 0 0 at_none
                      (record { heap = inr (omega arith); words = inr (omega arith); room = inr (omega arith) }));
                };
                rest = record { sizes = written.sizes; beside = λ b n words heap. at_none.beside b n (inr (omega arith)) };
              }
            where
              empty : (xs : List ℕ) → length xs ≡ 0 → take (length xs) [] ≡ xs
              empty [] e = refl
              empty (x ∷ xs) e = absurd (omega (arith, e))

  -- ---- where its block stands

  module _ (m : Memory) (sized : Sized m) (text : List ℕ) (place : ℕ) where
    pub stood : (b : Bool) (f : IsFilled b at u text m place) (o : Owned) → block_then b u place f.payload ≡ Some o
        → stands_behind b u (Some o) o.identity ≡ Some o.block
    stood true f o is = if_same o.identity o.identity (Some o.block) (u.stands o.identity) refl
    stood false f o is =
        let same : u.identity ≡ o.identity
        = ap (λ q. q.identity) (same_Some (record { identity = u.identity; block = new_block (class_of u.wanted) place f.payload }) o is) in
        then_stands u.present u.stands o.identity o.block (λ q some e. not_new q some (same ∙ e))

    -- with that block
    pub heap_with : (b : Bool) (f : IsFilled b at u text m place) (p : Option Owned) → block_then b u place f.payload ≡ p
        → IsHeap at (classes_behind b u) (stands_behind b u p) m
    heap_with b f p is = subst (λ q. IsHeap at (classes_behind b u) (stands_behind b u q) m) is f.heap

    pub block_there : (b : Bool) (f : IsFilled b at u text m place) (o : Owned) → block_then b u place f.payload ≡ Some o → IsThere m o.block
    block_there b f o is =
        is_there at (classes_behind b u) (stands_behind b u (Some o)) m (heap_with b f (Some o) is) o.identity o.block (stood b f o is) sized

    pub place_is : (b : Bool) (f : IsFilled b at u text m place) (o : Owned) → block_then b u place f.payload ≡ Some o → o.block.place ≡ place
    place_is b f o is = ap place_of (sym is) ∙ f.there

    -- it ends below the end of all addresses
    pub ends_low : (b : Bool) (f : IsFilled b at u text m place) → place + room_of (block_then b u place f.payload) < 2 ^ 32
    ends_low b f = by (block_then b u place f.payload) refl
      where
        by : (p : Option Owned) → block_then b u place f.payload ≡ p → place + room_of (block_then b u place f.payload) < 2 ^ 32
        by None is =
            let r : room_of (block_then b u place f.payload) ≡ 0 = ap room_of is in
            let z : place ≡ 0 = sym f.there ∙ ap place_of is in
            omega (arith, r, z)
        by (Some o) is =
            let r : room_of (block_then b u place f.payload) ≡ length o.block.payload = ap room_of is in
            let p = place_is b f o is in
            let high = (block_there b f o is).high in
            let most = sized.heap_most in
            omega (arith, r, p, high, most)

    pub open_at : (b : Bool) (f : IsFilled b at u text m place) (i n : ℕ) → i + n ≤ room_of (block_then b u place f.payload)
        → may_fill m (place + i) n ≡ true
    open_at b f i n few = by (block_then b u place f.payload) refl
      where
        by : (p : Option Owned) → block_then b u place f.payload ≡ p → may_fill m (place + i) n ≡ true
        by None is =
            let r : room_of (block_then b u place f.payload) ≡ 0 = ap room_of is in
            let z : n ≡ 0 = omega (arith, r, few) in
            ap (may_fill m (place + i)) z
        by (Some o) is =
            let r : room_of (block_then b u place f.payload) ≡ length o.block.payload = ap room_of is in
            ap (λ p. may_fill m (p + i) n) (sym (place_is b f o is)) ∙ part_open m sized o.block (block_there b f o is) i n (omega (arith, r, few))

    -- bytes at its front
    pub front_part : (b : Bool) (f : IsFilled b at u text m place) → length text ≤ room_of (block_then b u place f.payload) → (n : ℕ) → n ≤ length text
        → bytes_at m place n ≡ Some (take n text)
    front_part b f few n within = by (block_then b u place f.payload) refl
      where
        none : (i : ℕ) → i ≡ 0 → bytes_at m place i ≡ Some (take i text)
        none zero e = refl
        none (suc i) e = absurd (omega (arith, e))

        payload_is : (c : Bool) (payload : List ℕ) (o : Owned) → block_then c u place payload ≡ Some o → o.block.payload ≡ payload
        payload_is false payload o is =
            sym (ap (λ q. q.block.payload) (same_Some (record { identity = u.identity; block = new_block (class_of u.wanted) place payload }) o is))
        payload_is true payload o is = with_present u.present is
          where
            with_present : (p : Option Owned) → with_payload p payload ≡ Some o → o.block.payload ≡ payload
            with_present None same = absurd (none-some o same)
            with_present (Some q) same =
                sym (ap (λ x. x.block.payload) (same_Some (record { identity = q.identity; block = record q.block { payload = payload } }) o same))

        by : (p : Option Owned) → block_then b u place f.payload ≡ p → bytes_at m place n ≡ Some (take n text)
        by None is = let r : room_of (block_then b u place f.payload) ≡ 0 = ap room_of is in none n (omega (arith, r, few, within))
        by (Some o) is =
            let r : room_of (block_then b u place f.payload) ≡ length o.block.payload = ap room_of is in
            let there = block_there b f o is in
            ap (λ p. bytes_at m p n) (sym (place_is b f o is))
            ∙ front_read m sized o.block there 0 n (omega (arith, r, few, within)) there.bytes refl
            ∙ ap (λ xs. Some (take n xs)) (payload_is b f.payload o is)
            ∙ ap Some (sym (take-take n (length text) f.payload within) ∙ ap (take n) f.front)

    -- it isn't another one
    pub not_other : (b : Bool) (f : IsFilled b at u text m place) (x : Owned) → u.stands x.identity ≡ Some x.block
        → ((y : Owned) → u.present ≡ Some y → x.identity ≢ y.identity) → (o : Owned) → block_then b u place f.payload ≡ Some o → x.identity ≢ o.identity
    not_other false f x is apart o same e =
        none-some x.block
        (sym unused
        ∙ ap (λ q. u.stands q.identity) (same_Some (record { identity = u.identity; block = new_block (class_of u.wanted) place f.payload }) o same)
        ∙ ap u.stands (sym e) ∙ is)
    not_other true f x is apart o same e = by u.present apart same
      where
        by : (p : Option Owned) → ((y : Owned) → p ≡ Some y → x.identity ≢ y.identity) → with_payload p f.payload ≡ Some o → ⊥
        by None other no_one = none-some o no_one
        by (Some y) other one =
            other y refl (e ∙ sym (ap (λ q. q.identity) (same_Some (record { identity = y.identity; block = record y.block { payload = f.payload } }) o one)))

    -- another block stands as it did
    pub others_stay : (b : Bool) (f : IsFilled b at u text m place) (x : Owned) → u.stands x.identity ≡ Some x.block
        → ((y : Owned) → u.present ≡ Some y → x.identity ≢ y.identity)
        → stands_behind b u (block_then b u place f.payload) x.identity ≡ Some x.block
    others_stay true f x is apart = by u.present apart
      where
        by : (p : Option Owned) → ((y : Owned) → p ≡ Some y → x.identity ≢ y.identity) →
            with_owned (with_payload p f.payload) u.stands x.identity ≡ Some x.block
        by None other = is
        by (Some y) other = if_other x.identity y.identity (Some (record y.block { payload = f.payload })) (u.stands x.identity) (other y refl) ∙ is
    others_stay false f x is apart = by u.present apart
      where
        no_new : x.identity ≢ u.identity
        no_new e = none-some x.block (sym unused ∙ ap u.stands (sym e) ∙ is)

        still : with_block u.stands u.identity (new_block (class_of u.wanted) place f.payload) x.identity ≡ Some x.block
        still = if_other x.identity u.identity (Some (new_block (class_of u.wanted) place f.payload)) (u.stands x.identity) no_new ∙ is

        by : (p : Option Owned) → ((y : Owned) → p ≡ Some y → x.identity ≢ y.identity)
            → stands_then p (with_block u.stands u.identity (new_block (class_of u.wanted) place f.payload)) x.identity ≡ Some x.block
        by None other = still
        by (Some y) other =
            if_other x.identity y.identity None (with_block u.stands u.identity (new_block (class_of u.wanted) place f.payload) x.identity) (other y refl)
            ∙ still
