-- The text of a line under way, in the meaning and as the routine that reads it counts: one character more in both.
use Rattle.std.proofs.Common.{◌≡◌, ◌≢◌, ◌⊎◌, inl, inr, ℕ, zero, suc, ◌+◌, ◌-◌, ◌<◌, ◌≤◌, List, [], ◌∷◌, ◌++◌, length, Option, Some, None, Bool, true, false}
use Rattle.std.proofs.Common.{refl, sym, ap, ap₂, subst, ◌∙◌, arith, append-nil, append_assoc}
use Rattle.std.specs.Prelude.{nat_le, nat_lt, slice_get, ◌||◌, if◌then◌else◌}
use Rattle.std.proofs.lemmas.Bool.{cases_eq, cases_lt, le-leb, lt-leb, ltb-true, true≢false}
use Rattle.std.proofs.lemmas.Option.{same_Some}
use Rattle.nim_types.specs.declared.blocks.TheConstants.{HEADER_BYTES}
use Rattle.nim_meaning.specs.Heap.{Block, Characters, Class, Contents, Heap, at_class, block_at, class_for, demand, flat, given, has_room, one_less, one_more}
use Rattle.nim_meaning.specs.Heap.{refilled, size_count, taken, without}
use Rattle.nim_meaning.specs.Lifted.{holds_class}
use Rattle.heap_memory.specs.HeapBlocks.{size_at}
use Rattle.heap_memory.specs.HeapRoutines.{class_of}
use Rattle.heap_memory.specs.LineRoutine.{UnderWay, all_fit, capacity, has_capacity, longer, may_get, one_longer, without_class}
use Rattle.heap_memory.proofs.ForCallers.{class_holds, later_size, size_within, sizes_behind, this_size}
use Rattle.word_lowering.proofs.BlockLists.{get_before, get_beyond, get_here, length_more, set_length, set_other, set_same}
use Rattle.word_lowering.proofs.BlocksMade.{block_resized, heap_resized}
use Rattle.word_lowering.proofs.LinesRead.{Line, all_next, has_in, more_text, next, one_more as one_character}
use Rattle.word_lowering.proofs.ResizedWorlds.{contents_other, given_other}

-- ---- sizes

class_at : (f : Class → Class) → ((c : Class) → (f c).size ≡ c.size) → (payload i : ℕ) (classes : List Class)
    → class_for payload (at_class f i classes) ≡ class_for payload classes
class_at f same payload i [] = refl
class_at f same payload zero (c ∷ classes) =
    ap (λ size. if nat_le (payload + HEADER_BYTES) size then 0 else suc (class_for payload classes)) (same c)
class_at f same payload (suc i) (c ∷ classes) =
    ap (λ n. if nat_le (payload + HEADER_BYTES) c.size then 0 else suc n) (class_at f same payload i classes)

count_at : (f : Class → Class) (i : ℕ) (classes : List Class) → length (at_class f i classes) ≡ length classes
count_at f i [] = refl
count_at f zero (c ∷ classes) = refl
count_at f (suc i) (c ∷ classes) = ap suc (count_at f i classes)

-- the smallest size that holds it
least_class : (payload n class far : ℕ) → far < n → payload + HEADER_BYTES ≤ size_at (class + far)
    → class_for payload (sizes_behind n class) ≤ far
least_class payload zero class far less enough = absurd (omega (arith, less))
least_class payload (suc n) class far less enough =
    by (λ f l e. least_class payload n (suc class) f l e) far less enough (cases_lt (size_at class) (payload + HEADER_BYTES))
  where
    by : ((f : ℕ) → f < n → payload + HEADER_BYTES ≤ size_at (suc class + f) → class_for payload (sizes_behind n (suc class)) ≤ f)
        → (far : ℕ) → far < suc n → payload + HEADER_BYTES ≤ size_at (class + far)
        → (size_at class < payload + HEADER_BYTES) ⊎ (payload + HEADER_BYTES ≤ size_at class)
        → class_for payload (sizes_behind (suc n) class) ≤ far
    by later far less enough (inr here) = let e = this_size payload n class here in omega (arith, e)
    by later zero less enough (inl small) =
        let same : size_at (class + 0) ≡ size_at class = (let e : class + 0 ≡ class = omega arith in ap size_at e) in
        absurd (omega (arith, same, small, enough))
    by later (suc far) less enough (inl small) =
        let same : size_at (class + suc far) ≡ size_at (suc class + far) = (let e : class + suc far ≡ suc class + far = omega arith in ap size_at e) in
        let l = later_size payload n class small in
        let h = later far (omega (arith, less)) (omega (arith, same, enough)) in
        omega (arith, l, h)

-- a block of a size has room exactly where the size that is looked for is no larger
room_of_class : (payload class : ℕ) → class < size_count → nat_le payload (size_at class - HEADER_BYTES) ≡ nat_le (class_of payload) class
room_of_class payload class less = by (cases_lt class (class_of payload))
  where
    by : (class < class_of payload) ⊎ (class_of payload ≤ class) → nat_le payload (size_at class - HEADER_BYTES) ≡ nat_le (class_of payload) class
    by (inl larger) = lt-leb payload (size_at class - HEADER_BYTES) (above (cases_lt (size_at class - HEADER_BYTES) payload))
        ∙ sym (lt-leb (class_of payload) class larger)
      where
        zero_at : size_at (0 + class) ≡ size_at class
        zero_at = let e : 0 + class ≡ class = omega arith in ap size_at e

        some : HEADER_BYTES ≤ size_at class
        some = let h = size_within 0 class (omega arith) in omega (arith, h)

        above : (size_at class - HEADER_BYTES < payload) ⊎ (payload ≤ size_at class - HEADER_BYTES) → size_at class - HEADER_BYTES < payload
        above (inl h) = h
        above (inr h) =
            let s = some in
            let z = zero_at in
            let l = least_class payload size_count 0 class less (omega (arith, h, s, z)) in
            absurd (omega (arith, l, larger))
    by (inr enough) =
        let holds = class_holds payload (omega (arith, enough, less)) in
        let grows = size_within (class_of payload) class enough in
        le-leb payload (size_at class - HEADER_BYTES) (omega (arith, holds, grows)) ∙ sym (le-leb (class_of payload) class enough)

-- what isn't given back stands where it did
pub given_slot : (heap : Heap) (k j : ℕ) → j ≢ k → slice_get (given heap k).blocks j ≡ slice_get heap.blocks j
given_slot heap k j ne = by (block_at heap k)
  where
    by : (o : Option Block) → slice_get (without heap k o).blocks j ≡ slice_get heap.blocks j
    by None = refl
    by (Some b) = set_other heap.blocks k j None ne

-- ---- the text in the meaning's heap, and as it is counted

module _ (heap0 : Heap) where
  abbrev pub first : ℕ
  first = length heap0.blocks

  abbrev pub IsOwnBlock : Option ℕ → (takes : ℕ) → Line → Type 0
  IsOwnBlock None takes g = (g.block ≡ None) × (takes ≡ 0)
  IsOwnBlock (Some class) takes g = (g.block ≡ Some (first + takes - 1)) × (1 ≤ takes) × (class < size_count)
      × (block_at g.heap (first + takes - 1) ≡ Some (record { class = class; contents = Characters g.text }))

  pub record IsLinked (g : Line) (u : UnderWay) : Type 0 where
    pub long : length g.text ≡ u.length
    pub classes : g.heap.classes ≡ u.classes
    pub room : g.heap.room ≡ heap0.room
    pub sizes : (payload : ℕ) → class_for payload u.classes ≡ class_of payload
    pub count : length u.classes ≡ size_count
    pub born : length g.heap.blocks ≡ first + u.takes
    pub before : (j : ℕ) → j < first → slice_get g.heap.blocks j ≡ slice_get heap0.blocks j
    pub others : (j : ℕ) → first ≤ j → g.block ≢ Some j → block_at g.heap j ≡ None
    pub own : IsOwnBlock u.class u.takes g

  module _ (g : Line) (u : UnderWay) (x : IsLinked g u) where
    pub has_same : has_in g.heap g.block (suc (length g.text)) ≡ has_capacity u
    has_same = by u.class x.own
      where
        by : (class : Option ℕ) → IsOwnBlock class u.takes g → has_in g.heap g.block (suc (length g.text)) ≡ nat_le (suc u.length) (capacity class)
        by None own = ap (λ k. has_in g.heap k (suc (length g.text))) own.0 ∙ sym (lt-leb (suc u.length) 0 (omega arith))
        by (Some class) own =
            ap (λ k. has_in g.heap k (suc (length g.text))) own.0
            ∙ ap (λ o. holds_class o (class_for (suc (length g.text)) g.heap.classes)) own.3
            ∙ ap₂ (λ n classes. nat_le (class_for (suc n) classes) class) x.long x.classes
            ∙ ap (λ n. nat_le n class) (x.sizes (suc u.length))
            ∙ sym (room_of_class (suc u.length) class own.2)

    pub room_same : (has_in g.heap g.block (suc (length g.text)) || has_room g.heap (class_for (suc (length g.text)) g.heap.classes)) ≡ may_get heap0.room u
    room_same =
        ap₂ (λ a b. a || b) has_same
        (ap₂ (λ n classes. has_room g.heap (class_for (suc n) classes)) x.long x.classes ∙ ap (has_room g.heap) (x.sizes (suc u.length))
        ∙ ap₂ (λ classes room. if nat_lt (class_of (suc u.length)) (length classes) then nat_le
        (demand (at_class one_more (class_of (suc u.length)) classes)) room
        else false) x.classes x.room)

    -- ---- one more character

    module _ (c : ℕ) (fits : may_get heap0.room u ≡ true) where
      abbrev bytes : ℕ
      bytes = suc (length g.text)

      abbrev contents : Contents
      contents = Characters (more_text g c)

      long_then : length (more_text g c) ≡ suc u.length
      long_then = one_character g.text c ∙ ap suc x.long

      abbrev last : ℕ
      last = first + u.takes - 1

      abbrev line_then : (p : Bool) → (k : Option ℕ) → Line
      line_then p k = record { heap = heap_resized p g.heap k bytes contents; block = block_resized p g.heap k; text = more_text g c }

      -- it stays in its block
      stays : (class : ℕ) → u.class ≡ Some class → IsOwnBlock (Some class) u.takes g →
          IsLinked (line_then true (Some last)) (record u { length = suc u.length })
      stays class is own = record {
        long = long_then;
        classes = x.classes;
        room = x.room;
        sizes = x.sizes;
        count = x.count;
        born = set_length g.heap.blocks last (refilled (block_at g.heap last) contents) ∙ x.born;
        before = λ j less.
            set_other g.heap.blocks last j (refilled (block_at g.heap last) contents) (λ e. absurd (let t = own.1 in omega (arith, e, less, t)))
            ∙ x.before j less;
        others = λ j from away. contents_other g.heap j last (λ e. away (ap Some e)) contents ∙ x.others j from (λ e. away (sym own.0 ∙ e));
        own = subst (λ o. IsOwnBlock o u.takes (line_then true (Some last))) (sym is) (
          refl,
          own.1,
          own.2,
          ap flat (set_same g.heap.blocks last (refilled (block_at g.heap last) contents) (let b = x.born in let t = own.1 in omega (arith, b, t)))
              ∙ ap (λ o. refilled o contents) own.3,
        );
      }

      -- ---- it gets another block

      abbrev new_class : ℕ
      new_class = class_of (suc u.length)

      class_is : class_for bytes g.heap.classes ≡ new_class
      class_is = ap₂ (λ n classes. class_for (suc n) classes) x.long x.classes ∙ x.sizes (suc u.length)

      abbrev taken_heap : Heap
      taken_heap = taken g.heap new_class contents

      abbrev new_block : Block
      new_block = record { class = new_class; contents = contents }

      taken_slot : (j : ℕ) → j < first + u.takes → slice_get taken_heap.blocks j ≡ slice_get g.heap.blocks j
      taken_slot j less = get_before g.heap.blocks (Some new_block) j (let b = x.born in omega (arith, b, less))

      taken_below : (j : ℕ) → j < first + u.takes → block_at taken_heap j ≡ block_at g.heap j
      taken_below j less = ap flat (taken_slot j less)

      taken_here : block_at taken_heap (first + u.takes) ≡ Some new_block
      taken_here = ap flat (subst (λ i. slice_get taken_heap.blocks i ≡ Some (Some new_block)) x.born (get_here g.heap.blocks (Some new_block)))

      taken_past : (j : ℕ) → first + u.takes < j → block_at taken_heap j ≡ None
      taken_past j more = ap flat (get_beyond g.heap.blocks (Some new_block) j (let b = x.born in omega (arith, b, more)))

      taken_long : length taken_heap.blocks ≡ suc (first + u.takes)
      taken_long = length_more g.heap.blocks (Some new_block) ∙ ap suc x.born

      taken_classes : taken_heap.classes ≡ at_class one_more new_class u.classes
      taken_classes = ap (at_class one_more new_class) x.classes

      sizes_more : (payload : ℕ) → class_for payload (at_class one_more new_class u.classes) ≡ class_of payload
      sizes_more payload = class_at one_more (λ z. refl) payload new_class u.classes ∙ x.sizes payload

      count_more : length (at_class one_more new_class u.classes) ≡ size_count
      count_more = count_at one_more new_class u.classes ∙ x.count

      now_last : (takes : ℕ) → takes ≡ u.takes → first + suc takes - 1 ≡ first + u.takes
      now_last takes e = omega (arith, e)

      -- where it had none
      first_taken : new_class < size_count → u.takes ≡ 0
          → IsLinked (record { heap = taken_heap; block = Some (length g.heap.blocks); text = more_text g c }) (record u {
            length = suc u.length;
            class = Some new_class;
            classes = at_class one_more new_class u.classes;
            takes = suc u.takes;
          })
      first_taken less none = record {
        long = long_then;
        classes = taken_classes;
        room = x.room;
        sizes = sizes_more;
        count = count_more;
        born = taken_long ∙ omega arith;
        before = λ j below. taken_slot j (omega (arith, below)) ∙ x.before j below;
        others = λ j from away. taken_past j (let b = x.born in past j from none b (λ e. away (ap Some e)));
        own = (
          ap Some (let b = x.born in omega (arith, b)),
          omega arith,
          less,
          ap (block_at taken_heap) (now_last u.takes refl) ∙ taken_here,
        );
      }
        where
          past : (j : ℕ) → first ≤ j → u.takes ≡ 0 → length g.heap.blocks ≡ first + u.takes → length g.heap.blocks ≢ j → first + u.takes < j
          past j from none b ne = by (cases_lt (first + u.takes) j)
            where
              by : (first + u.takes < j) ⊎ (j ≤ first + u.takes) → first + u.takes < j
              by (inl h) = h
              by (inr h) = absurd (ne (omega (arith, from, none, b, h)))

      -- where the one before is given back
      abbrev given_heap : Heap
      given_heap = given taken_heap last

      last_block : (class : ℕ) → IsOwnBlock (Some class) u.takes g → block_at taken_heap last ≡ Some (record { class = class; contents = Characters g.text })
      last_block class own = taken_below last (let t = own.1 in omega (arith, t)) ∙ own.3

      other_taken : (class : ℕ) (own : IsOwnBlock (Some class) u.takes g) → new_class < size_count
          → IsLinked (record { heap = given_heap; block = Some (length g.heap.blocks); text = more_text g c }) (record u {
            length = suc u.length;
            class = Some new_class;
            classes = at_class one_less class (at_class one_more new_class u.classes);
            takes = suc u.takes;
          })
      other_taken class own less = record {
        long = long_then;
        classes = ap (λ o. (without taken_heap last o).classes) (last_block class own) ∙ ap (at_class one_less class) taken_classes;
        room = ap (λ o. (without taken_heap last o).room) (last_block class own) ∙ x.room;
        sizes = λ payload. class_at one_less (λ z. refl) payload class (at_class one_more new_class u.classes) ∙ sizes_more payload;
        count = count_at one_less class (at_class one_more new_class u.classes) ∙ count_more;
        born = ap (λ o. length (without taken_heap last o).blocks) (last_block class own) ∙ set_length taken_heap.blocks last None ∙ taken_long ∙ omega arith;
        before = λ j below.
            given_slot taken_heap last j (λ e. absurd (let t = own.1 in omega (arith, e, below, t))) ∙ taken_slot j (omega (arith, below)) ∙ x.before j below;
        others = λ j from away. other j from (λ e. away (ap Some e)) (cases_eq j last);
        own = (
          ap Some (let b = x.born in omega (arith, b)),
          omega arith,
          less,
          ap (block_at given_heap) (now_last u.takes refl)
              ∙ given_other taken_heap last (first + u.takes) (λ e. absurd (let t = own.1 in omega (arith, e, t))) ∙ taken_here,
        );
      }
        where
          gone : block_at given_heap last ≡ None
          gone = ap (λ o. block_at (without taken_heap last o) last) (last_block class own)
              ∙ ap flat (set_same taken_heap.blocks last None (let l = taken_long in let t = own.1 in omega (arith, l, t)))

          other : (j : ℕ) → first ≤ j → length g.heap.blocks ≢ j → (j ≡ last) ⊎ (j ≡ last → ⊥) → block_at given_heap j ≡ None
          other j from ne (inl e) = ap (block_at given_heap) e ∙ gone
          other j from ne (inr apart) = given_other taken_heap last j apart ∙ by (cases_lt (first + u.takes) j)
            where
              by : (first + u.takes < j) ⊎ (j ≤ first + u.takes) → block_at taken_heap j ≡ None
              by (inl h) = taken_past j h
              by (inr h) = below (cases_lt j (first + u.takes))
                where
                  below : (j < first + u.takes) ⊎ (first + u.takes ≤ j) → block_at taken_heap j ≡ None
                  below (inl less) = taken_below j less ∙ x.others j from (λ e. apart (same_Some j last (sym e ∙ own.0)))
                  below (inr least) = absurd (ne (let b = x.born in omega (arith, b, h, least)))

      -- ---- all cases

      new_less : has_capacity u ≡ false → new_class < size_count
      new_less lacks = by (nat_lt new_class (length u.classes)) refl (sym (ap (λ b. b || has_room counted new_class) lacks) ∙ fits)
        where
          counted : Heap
          counted = record { room = heap0.room; classes = u.classes; blocks = [] }

          by : (b : Bool) → nat_lt new_class (length u.classes) ≡ b → has_room counted new_class ≡ true → new_class < size_count
          by true e h = let l = ltb-true new_class (length u.classes) e in let n = x.count in omega (arith, l, n)
          by false e h = absurd (true≢false (sym h ∙ ap (λ b. if b then nat_le (demand (at_class one_more new_class u.classes)) heap0.room else false) e))

      abbrev moved : (class : Option ℕ) → UnderWay
      moved class = record {
        length = suc u.length;
        class = Some new_class;
        classes = without_class class (at_class one_more new_class u.classes);
        takes = suc u.takes;
      }

      pub linked_next : IsLinked (next g c) (one_longer u)
      linked_next =
          subst (λ p. IsLinked (line_then p g.block) (one_longer u)) (sym has_same) (by (has_capacity u) refl u.class refl x.own)
        where
          none_holds : u.class ≡ None → has_capacity u ≡ true → ⊥
          none_holds is has = true≢false (sym has ∙ ap (λ o. nat_le (suc u.length) (capacity o)) is ∙ lt-leb (suc u.length) 0 (omega arith))

          by : (p : Bool) → has_capacity u ≡ p → (class : Option ℕ) → u.class ≡ class → IsOwnBlock class u.takes g
              → IsLinked (line_then (has_capacity u) g.block) (one_longer u)
          by true has None is own = absurd (none_holds is has)
          by true has (Some class) is own =
              subst (λ p. IsLinked (line_then p g.block) (if p then record u { length = suc u.length } else moved u.class)) (sym has)
              (subst (λ k. IsLinked (line_then true k) (record u { length = suc u.length })) (sym own.0) (stays class is own))
          by false has None is own =
              subst (λ p. IsLinked (line_then p g.block) (if p then record u { length = suc u.length } else moved u.class)) (sym has)
              (subst (λ k. IsLinked (line_then false k) (moved u.class)) (sym own.0)
              (subst (λ o. IsLinked (line_then false None) (moved o)) (sym is)
              (subst (λ i. IsLinked (record { heap = taken g.heap i contents; block = Some (length g.heap.blocks); text = more_text g c }) (moved None))
              (sym class_is) (first_taken (new_less has) own.1))))
          by false has (Some class) is own =
              subst (λ p. IsLinked (line_then p g.block) (if p then record u { length = suc u.length } else moved u.class)) (sym has)
              (subst (λ k. IsLinked (line_then false k) (moved u.class)) (sym own.0)
              (subst (λ o. IsLinked (line_then false (Some last)) (moved o)) (sym is)
              (subst (λ i. IsLinked (record { heap = given (taken g.heap i contents) last; block = Some (length g.heap.blocks); text = more_text g c })
              (moved (Some class))) (sym class_is) (other_taken class own (new_less has)))))

  -- so many more
  pub linked_all : (cs : List ℕ) (g : Line) (u : UnderWay) → IsLinked g u → all_fit heap0.room (length cs) u ≡ true
      → IsLinked (all_next g cs) (longer heap0.room (length cs) u)
  linked_all [] g u x fit = x
  linked_all (c ∷ cs) g u x fit = by (may_get heap0.room u) refl (λ fits rest. linked_all cs (next g c) (one_longer u) (linked_next g u x c fits) rest) fit
    where
      by : (b : Bool) → may_get heap0.room u ≡ b
          → (may_get heap0.room u ≡ true → all_fit heap0.room (length cs) (one_longer u) ≡ true
          → IsLinked (all_next (next g c) cs) (longer heap0.room (length cs) (one_longer u)))
          → (if may_get heap0.room u then all_fit heap0.room (length cs) (one_longer u) else false) ≡ true
          → IsLinked (all_next (next g c) cs) (if may_get heap0.room u then longer heap0.room (length cs) (one_longer u) else u)
      by true e go fit =
          subst (λ p. IsLinked (all_next (next g c) cs) (if p then longer heap0.room (length cs) (one_longer u) else u)) (sym e)
          (go e (sym (ap (λ p. if p then all_fit heap0.room (length cs) (one_longer u) else false) e) ∙ fit))
      by false e go fit =
          absurd (true≢false (sym fit ∙ ap (λ p. if p then all_fit heap0.room (length cs) (one_longer u) else false) e))

-- its characters are those that came
pub all_text : (g : Line) (cs : List ℕ) → (all_next g cs).text ≡ g.text ++ cs
all_text g [] = sym (append-nil g.text)
all_text g (c ∷ cs) = all_text (next g c) cs ∙ append_assoc g.text (c ∷ []) cs
