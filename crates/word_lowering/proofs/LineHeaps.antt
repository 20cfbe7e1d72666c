-- A line is read into the text of a handle: what memory holds behind the routine, by the meaning's heap then.
use Rattle.std.proofs.Common.{◌≡◌, ◌≢◌, ◌⊎◌, inl, inr, ℕ, ◌+◌, ◌-◌, ◌^◌, ◌<◌, ◌≤◌, List, length, take, Option, Some, None, true, Ok}
use Rattle.std.proofs.Common.{refl, sym, ap, subst, ◌∙◌, arith}
use Rattle.std.specs.Prelude.{nat_lt, ◌==◌, if◌then◌else◌}
use Rattle.std.proofs.lemmas.Bool.{cases_eq, cases_lt, cond-false, cond-true, eq-eqb, le-ltb, lt-ltb, ne_eqb}
use Rattle.std.proofs.lemmas.List.{length-take}
use Rattle.std.proofs.lemmas.Option.{none-some, same_Some}
use Rattle.nim_meaning.specs.Heap.{Block, Characters, Heap, at_class, block_at, flat, given, one_less, without}
use Rattle.nim_meaning.specs.State.{World}
use Rattle.nim_meaning.specs.OwnedRows.{next_line}
use Rattle.flat_code.specs.Shapes.{block}
use Rattle.rv32_isa.specs.declared.micro_op.Size.TheVariants.{Word}
use Rattle.word_code.specs.Memory.{Memory, as_state, number_at, own_data_at}
use Rattle.word_code.proofs.ForCallers.{MemoryLaw, Sized}
use Rattle.heap_memory.specs.HeapState.{IsHeap, Standing, Stands}
use Rattle.heap_memory.specs.GrowRoutine.{IsPresent, Owned, classes_then, place_of, stands_then}
use Rattle.heap_memory.specs.AppendRoutine.{new_block, with_owned}
use Rattle.heap_memory.specs.LineRoutine.{UnderWay, block_of_class, block_under_way, empty_text, line_fits, line_then}
use Rattle.heap_memory.specs.HandleRoutines.{MayHave}
use Rattle.heap_memory.specs.TextReading.{IsLinePut, MayReadText, ReadingText, to_scratch}
use Rattle.heap_memory.proofs.ForCallers.{class_same, is_there}
use Rattle.word_lowering.proofs.Blocks.{AreLater, Blocks, Bytes, HasContents, HasHeap, Holds_for, IfBlockThere, Inside, IsEmptyIf, IsHandle, IsPlace}
use Rattle.word_lowering.proofs.BlockLists.{get_past, set_length, set_same, there_below}
use Rattle.word_lowering.proofs.BlocksMade.{HasRoom, two_memories}
use Rattle.word_lowering.proofs.HandlesPut.{LeavesHandle, block_of_text, present_of}
use Rattle.word_lowering.proofs.HeapChanged.{IsKnown, TwoMemories, heap_changed}
use Rattle.word_lowering.proofs.LineUnderWay.{IsLinked, IsOwnBlock, all_text, given_slot, linked_all}
use Rattle.word_lowering.proofs.LineWorlds.{given_of, line_now, line_text, no_line}
use Rattle.word_lowering.proofs.LinesRead.{IsIn, Line}

module _ (StandsFixed : (place : ℕ) → List ℕ → Type 0) (law : MemoryLaw) (d : Blocks) (w : World) (m : Memory) (has : HasHeap StandsFixed d w.heap m)
    (sized : Sized m) (to n : ℕ) (k : Option ℕ) (h : IsHandle d m to block n k) (b : block_of_text StandsFixed law d w m has sized n k) (input : List ℕ)
  where
    abbrev pub present : Option Owned
    present = present_of StandsFixed law d w m has sized n k b

    abbrev pub read_use : ReadingText
    read_use = record { to = to; present = present; first = d.born; room = w.heap.room; classes = w.heap.classes; stands = d.stands }

    none_beyond : (j : ℕ) → d.born ≤ j → d.stands j ≡ None
    none_beyond j from =
        subst (λ o. IfBlockThere StandsFixed d m j o) (ap flat (get_past w.heap.blocks j (let e = has.born in omega (arith, e, from)))) (has.blocks j)

    pub may_read : MayHave m to → MayReadText own_data_at read_use m
    may_read can = record {
      heap = has.kept;
      all = has.room;
      unused = none_beyond;
      there = by_there k h b;
      has = can;
      present = by_present k b;
    }
      where
        by_there : (q : Option ℕ) (z : IsHandle d m to block n q) (t : block_of_text StandsFixed law d w m has sized n q)
            → number_at m (to + 4) Word ≡ Ok (place_of (present_of StandsFixed law d w m has sized n q t))
        by_there None z t = z.there ∙ ap Ok z.is
        by_there (Some j) z t = z.there ∙ ap Ok (z.is.2 t.is.standing t.is.stands)

        by_present : (q : Option ℕ) (t : block_of_text StandsFixed law d w m has sized n q)
            → IsPresent d.stands 0 (present_of StandsFixed law d w m has sized n q t)
        by_present None t = refl
        by_present (Some j) t = (t.is.stands, t.is.kind, t.is.word, omega arith, tt)

    -- ---- what is counted and what the meaning has

    abbrev pub now : Line
    now = line_now w input

    abbrev pub counted : UnderWay
    counted = line_then input (to_scratch own_data_at read_use)

    pub first_linked : IsLinked w.heap (no_line w input) (empty_text w.heap.classes)
    first_linked = record {
      long = refl;
      classes = refl;
      room = refl;
      sizes = λ payload. class_same own_data_at w.heap.classes d.stands m has.kept payload;
      count = has.kept.kept.sizes;
      born = omega arith;
      before = λ j less. refl;
      others = λ j from away. ap flat (get_past w.heap.blocks j from);
      own = (refl, refl);
    }

    module _ (fit : line_fits input (to_scratch own_data_at read_use) ≡ true) (is_in : IsIn now.heap now.block now.text) where
      pub linked : IsLinked w.heap now counted
      linked = linked_all w.heap (line_text w input) (no_line w input) (empty_text w.heap.classes) first_linked fit

      pub text_is : now.text ≡ next_line input
      text_is = all_text (no_line w input) (line_text w input)

      abbrev pub heap_then : Heap
      heap_then = given_of k now.heap

      abbrev first : ℕ
      first = length w.heap.blocks

      born_first : d.born ≡ first
      born_first = has.born

      -- ---- blocks then

      module _ (other : Memory) (x : IsLinePut own_data_at read_use counted (next_line input) m other) where
        abbrev owned : Option Owned
        owned = block_under_way d.born x.place x.payload counted

        abbrev pub then_blocks : Blocks
        then_blocks = record {
          born = d.born + counted.takes;
          inside = λ j. if nat_lt j d.born then d.inside j else Bytes;
          stands = stands_then present (with_owned owned d.stands);
        }

        inside_old : (j : ℕ) → j < d.born → then_blocks.inside j ≡ d.inside j
        inside_old j less = cond-true (nat_lt j d.born) (d.inside j) Bytes (lt-ltb j d.born less)

        inside_new : (j : ℕ) → d.born ≤ j → then_blocks.inside j ≡ Bytes
        inside_new j from = cond-false (nat_lt j d.born) (d.inside j) Bytes (le-ltb j d.born from)

        -- its block has a new identity
        owned_old : (j : ℕ) → j < d.born → with_owned owned d.stands j ≡ d.stands j
        owned_old j less = by counted.class linked.own
          where
            by : (class : Option ℕ) → IsOwnBlock w.heap class counted.takes now
                → with_owned (block_of_class class (d.born + counted.takes - 1) x.place x.payload) d.stands j ≡ d.stands j
            by None own = refl
            by (Some class) own =
                cond-false (j == d.born + counted.takes - 1) (Some (new_block class x.place x.payload)) (d.stands j)
                (ne_eqb j (d.born + counted.takes - 1) (λ e. absurd (let t = own.1 in omega (arith, e, less, t))))

        -- the block before is none of those that stand then, and all others stay
        stands_other : (q : Option ℕ) (t : block_of_text StandsFixed law d w m has sized n q) (j : ℕ) → q ≢ Some j → (s : Stands)
            → stands_then (present_of StandsFixed law d w m has sized n q t) s j ≡ s j
        stands_other None t j away s = refl
        stands_other (Some i) t j away s = cond-false (j == i) None (s j) (ne_eqb j i (λ e. away (ap Some (sym e))))

        stands_gone : (q : Option ℕ) (t : block_of_text StandsFixed law d w m has sized n q) (j : ℕ) → q ≡ Some j → (s : Stands)
            → stands_then (present_of StandsFixed law d w m has sized n q t) s j ≡ None
        stands_gone None t j e s = absurd (none-some j e)
        stands_gone (Some i) t j e s = cond-true (j == i) None (s j) (eq-eqb j i (sym (same_Some i j e)))

        -- the block before is an old one
        old_block : (q : Option ℕ) (t : block_of_text StandsFixed law d w m has sized n q) (j : ℕ) → q ≡ Some j → j < d.born
        old_block None t j e = absurd (none-some j e)
        old_block (Some i) t j e =
            let l = there_below w.heap.blocks i t.block t.there in
            let b = has.born in
            let s = same_Some i j e in
            omega (arith, l, b, s)

        is_k : (j : ℕ) → (k ≡ Some j) ⊎ (k ≢ Some j)
        is_k j = by k
          where
            by : (q : Option ℕ) → (q ≡ Some j) ⊎ (q ≢ Some j)
            by None = inr (λ e. none-some j e)
            by (Some i) = one (cases_eq i j)
              where
                one : (i ≡ j) ⊎ (i ≡ j → ⊥) → (Some i ≡ Some j) ⊎ (Some i ≢ Some j)
                one (inl e) = inl (ap Some e)
                one (inr ne) = inr (λ e. ne (same_Some i j e))

        pub ahead : AreLater d then_blocks
        ahead = record { born = omega arith; inside = inside_old; places = λ j y less e. by j y less e (is_k j) }
          where
            by : (j : ℕ) (y : Standing) → j < d.born → then_blocks.stands j ≡ Some y → (k ≡ Some j) ⊎ (k ≢ Some j)
                → (z : Standing) × (d.stands j ≡ Some z) × (z.place ≡ y.place)
            by j y less e (inl same) = absurd (none-some y (sym (stands_gone k b j same (with_owned owned d.stands)) ∙ e))
            by j y less e (inr away) =
                (y, sym (owned_old j less) ∙ sym (stands_other k b j away (with_owned owned d.stands)) ∙ e, refl)

        middle_sized : Sized x.middle
        middle_sized = law.regions (as_state m) (as_state x.middle) sized x.rest.sizes

        two : TwoMemories StandsFixed d w.heap m x.middle
        two = two_memories StandsFixed d w.heap m x.middle has sized middle_sized x.rest.sizes.heap

        -- the heap of the meaning then

        slot_other : (j : ℕ) → k ≢ Some j → block_at heap_then j ≡ block_at now.heap j
        slot_other j away = by k away
          where
            by : (q : Option ℕ) → q ≢ Some j → block_at (given_of q now.heap) j ≡ block_at now.heap j
            by None away = refl
            by (Some i) away = ap flat (given_slot now.heap i j (λ e. away (ap Some (sym e))))

        old_now : (j : ℕ) → j < d.born → block_at now.heap j ≡ block_at w.heap j
        old_now j less = ap flat (linked.before j (let e = has.born in omega (arith, e, less)))

        slot_gone : (j : ℕ) → k ≡ Some j → block_at heap_then j ≡ None
        slot_gone j e = by k b e
          where
            by : (q : Option ℕ) (t : block_of_text StandsFixed law d w m has sized n q) → q ≡ Some j → block_at (given_of q now.heap) j ≡ None
            by None t e = absurd (none-some j e)
            by (Some i) t e =
                let there : block_at now.heap i ≡ Some t.block = old_now i (old_block (Some i) t i refl) ∙ t.there in
                ap (block_at (given now.heap i)) (sym (same_Some i j e)) ∙ ap (λ o. block_at (without now.heap i o) i) there
                ∙ ap flat (set_same now.heap.blocks i None (there_below now.heap.blocks i t.block there))

        classes_is : heap_then.classes ≡ classes_then present counted.classes
        classes_is = by k b
          where
            by : (q : Option ℕ) (t : block_of_text StandsFixed law d w m has sized n q)
                → (given_of q now.heap).classes ≡ classes_then (present_of StandsFixed law d w m has sized n q t) counted.classes
            by None t = linked.classes
            by (Some i) t =
                let there : block_at now.heap i ≡ Some t.block = old_now i (old_block (Some i) t i refl) ∙ t.there in
                ap (λ o. (without now.heap i o).classes) there ∙ ap (λ c. at_class one_less c now.heap.classes) (sym t.is.class)
                ∙ ap (at_class one_less t.is.standing.class) linked.classes

        room_is : heap_then.room ≡ w.heap.room
        room_is = by k ∙ linked.room
          where
            one : (i : ℕ) (o : Option Block) → (without now.heap i o).room ≡ now.heap.room
            one i None = refl
            one i (Some c) = refl

            by : (q : Option ℕ) → (given_of q now.heap).room ≡ now.heap.room
            by None = refl
            by (Some i) = one i (block_at now.heap i)

        born_is : then_blocks.born ≡ length heap_then.blocks
        born_is = let a = by k in let c = linked.born in let e = has.born in omega (arith, a, c, e)
          where
            one : (i : ℕ) (o : Option Block) → length (without now.heap i o).blocks ≡ length now.heap.blocks
            one i None = refl
            one i (Some c) = set_length now.heap.blocks i None

            by : (q : Option ℕ) → length (given_of q now.heap).blocks ≡ length now.heap.blocks
            by None = refl
            by (Some i) = one i (block_at now.heap i)

        -- the line's own block
        abbrev last : ℕ
        last = d.born + counted.takes - 1

        last_is : first + counted.takes - 1 ≡ last
        last_is = let e = has.born in omega (arith, e)

        own_there : (class : ℕ) → counted.class ≡ Some class → IsOwnBlock w.heap (Some class) counted.takes now
            → IfBlockThere StandsFixed then_blocks x.middle last (block_at heap_then last)
        own_there class is own =
            let fresh : k ≢ Some last = (λ e. absurd (let l = old_block k b last e in let t = own.1 in omega (arith, l, t))) in
            let there : block_at heap_then last ≡ Some (record { class = class; contents = Characters now.text })
            = slot_other last fresh ∙ ap (block_at now.heap) (sym last_is) ∙ own.3 in
            subst (λ o. IfBlockThere StandsFixed then_blocks x.middle last o) (sym there) (record {
              standing = new_block class x.place x.payload;
              stands = stands_other k b last fresh (with_owned owned d.stands) ∙ ap (λ o. with_owned (block_of_class o last x.place x.payload) d.stands last) is
                  ∙ cond-true (last == last) (Some (new_block class x.place x.payload)) (d.stands last) (eq-eqb last last refl);
              class = refl;
              kind = refl;
              word = refl;
              holds = subst (λ i. HasContents StandsFixed then_blocks x.middle (new_block class x.place x.payload) i (Characters now.text))
                  (sym (inside_new last (let t = own.1 in omega (arith, t)))) (front_now text_is);
            })
          where
            front_now : now.text ≡ next_line input → take (length now.text) x.payload ≡ now.text
            front_now e = ap (λ t. take (length t) x.payload) e ∙ x.front ∙ sym e

        own_stands : (class : ℕ) → counted.class ≡ Some class → IsOwnBlock w.heap (Some class) counted.takes now
            → then_blocks.stands last ≡ Some (new_block class x.place x.payload)
        own_stands class is own =
            stands_other k b last (λ e. absurd (let l = old_block k b last e in let t = own.1 in omega (arith, l, t))) (with_owned owned d.stands)
            ∙ ap (λ o. with_owned (block_of_class o last x.place x.payload) d.stands last) is
            ∙ cond-true (last == last) (Some (new_block class x.place x.payload)) (d.stands last) (eq-eqb last last refl)

        new_known : (j : ℕ) → d.born ≤ j → IfBlockThere StandsFixed then_blocks x.middle j (block_at heap_then j)
        new_known j from = by counted.class refl linked.own
          where
            fresh : k ≢ Some j
            fresh e = let l = old_block k b j e in absurd (omega (arith, l, from))

            from_first : first ≤ j
            from_first = let e = has.born in omega (arith, e, from)

            no_block : (now.block ≢ Some j) → with_owned owned d.stands j ≡ d.stands j
                → IfBlockThere StandsFixed then_blocks x.middle j (block_at heap_then j)
            no_block away same =
                subst (λ o. IfBlockThere StandsFixed then_blocks x.middle j o) (sym (slot_other j fresh ∙ linked.others j from_first away))
                (stands_other k b j fresh (with_owned owned d.stands) ∙ same ∙ none_beyond j from)

            by : (class : Option ℕ) → counted.class ≡ class → IsOwnBlock w.heap class counted.takes now
                → IfBlockThere StandsFixed then_blocks x.middle j (block_at heap_then j)
            by None is own =
                no_block (λ e. none-some j (sym own.0 ∙ e)) (ap (λ o. with_owned (block_of_class o last x.place x.payload) d.stands j) is)
            by (Some class) is own = one (cases_eq j last)
              where
                one : (j ≡ last) ⊎ (j ≡ last → ⊥) → IfBlockThere StandsFixed then_blocks x.middle j (block_at heap_then j)
                one (inl e) = subst (λ i. IfBlockThere StandsFixed then_blocks x.middle i (block_at heap_then i)) (sym e) (own_there class is own)
                one (inr ne) =
                    no_block (λ e. ne (sym (same_Some (first + counted.takes - 1) j (sym own.0 ∙ e)) ∙ last_is))
                    (ap (λ o. with_owned (block_of_class o last x.place x.payload) d.stands j) is
                    ∙ cond-false (j == last) (Some (new_block class x.place x.payload)) (d.stands j) (ne_eqb j last ne))

        each_known : (j : ℕ) → IsKnown StandsFixed d w.heap m x.middle two then_blocks heap_then j
        each_known j = by (cases_lt j d.born) (is_k j)
          where
            by : (j < d.born) ⊎ (d.born ≤ j) → (k ≡ Some j) ⊎ (k ≢ Some j) → IsKnown StandsFixed d w.heap m x.middle two then_blocks heap_then j
            by (inl less) (inl same) =
                inr (subst (λ o. IfBlockThere StandsFixed then_blocks x.middle j o) (sym (slot_gone j same))
                (stands_gone k b j same (with_owned owned d.stands)))
            by (inl less) (inr away) = inl (record {
              stands = stands_other k b j away (with_owned owned d.stands) ∙ owned_old j less;
              inside = inside_old j less;
              block = slot_other j away ∙ old_now j less;
            })
            by (inr from) which = inr (new_known j from)

        pub has_then : HasHeap StandsFixed then_blocks heap_then x.middle
        has_then =
            heap_changed StandsFixed d w.heap m x.middle two then_blocks ahead heap_then
            (subst (λ classes. IsHeap own_data_at classes then_blocks.stands x.middle) (sym classes_is) x.heap) room_is born_is each_known

        -- ---- the handle

        abbrev long : ℕ
        long = length (next_line input)

        abbrev Leaves : Option ℕ → Type 0
        Leaves q = LeavesHandle StandsFixed d heap_then m other to block long long q

        leaves_so : (q : Option ℕ) → long < 2 ^ 32 → x.place < 2 ^ 32 → IsEmptyIf q long → IsPlace then_blocks block q x.place
            → HasRoom StandsFixed then_blocks q x.place long → Leaves q
        leaves_so q few near empty is room = record {
          middle = x.middle;
          regions = middle_sized;
          rest = x.rest;
          after = then_blocks;
          ahead = ahead;
          has = has_then;
          put = x.put.rewritten;
          handle = record {
            place = x.place;
            long = x.put.handle.long;
            few = few;
            empty = empty;
            there = x.put.handle.there;
            near = near;
            is = is;
          };
          room = room;
        }

        pub line_leaves : Leaves now.block
        line_leaves = by counted.class refl linked.own
          where
            none_text : now.block ≡ None → long ≡ 0
            none_text e = by now.block e is_in
              where
                by : (q : Option ℕ) → q ≡ None → IsIn now.heap q now.text → long ≡ 0
                by None e empty = ap length (sym text_is ∙ empty)
                by (Some j) e there = absurd (none-some j (sym e))

            by : (class : Option ℕ) → counted.class ≡ class → IsOwnBlock w.heap class counted.takes now → Leaves now.block
            by None is own =
                let place : 0 ≡ x.place = ap (λ o. place_of (block_of_class o last x.place x.payload)) (sym is) ∙ x.there in
                let empty = none_text own.0 in
                subst Leaves (sym own.0) (leaves_so None (omega (arith, empty)) (omega (arith, place)) empty (sym place) tt)
            by (Some class) is own =
                let stands = own_stands class is own in
                let there = is_there own_data_at heap_then.classes then_blocks.stands x.middle has_then.kept last (new_block class x.place x.payload) stands
                middle_sized in
                let high = there.high in
                let most = middle_sized.heap_most in
                let cut = length-take long x.payload in
                let whole = ap length x.front in
                let fits : long ≤ length x.payload = omega (arith, cut, whole) in
                let t = own.1 in
                subst Leaves (sym own.0)
                (subst (λ i. Leaves (Some i)) (sym last_is)
                (leaves_so (Some last) (omega (arith, fits, high, most)) (omega (arith, high, most)) tt (
                  omega (arith, t),
                  holds (inside_new last (omega (arith, t))),
                  λ y e. ap (λ (z : Standing). z.place) (same_Some (new_block class x.place x.payload) y (sym stands ∙ e)),
                ) (new_block class x.place x.payload, stands, refl, fits)))
              where
                holds : {i : Inside} → i ≡ Bytes → Holds_for block i
                holds {i} e = subst (λ z. Holds_for block z) (sym e) tt
