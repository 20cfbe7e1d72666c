-- What the routines on texts are given and leave, where memory holds values with blocks.
use Rattle.std.proofs.Common.{◌≡◌, ℕ, zero, suc, ◌+◌, ◌^◌, ◌<◌, ◌≤◌, List, [], ◌++◌, length, take, Option, Some, None, Bool, true, false, Ok}
use Rattle.std.proofs.Common.{refl, sym, ap, subst, ◌∙◌, arith, length-append}
use Rattle.std.specs.Prelude.{◌||◌, nat_eq, slice_get}
use Rattle.std.specs.Fmt.{signed_decimal}
use Rattle.std.proofs.lemmas.Bool.{eqb-true, lt-leb}
use Rattle.std.proofs.lemmas.Option.{none-some, same_Some}
use Rattle.nim_meaning.specs.Heap.{Characters, Heap, flat, block_at, class_for, has_room}
use Rattle.nim_meaning.specs.State.{World, has_as_many}
use Rattle.nim_meaning.specs.Lifted.{has_place}
use Rattle.nim_meaning.specs.OwnedRows.{text_to}
use Rattle.flat_code.specs.Shapes.{Shape, block}
use Rattle.rv32_isa.specs.Values.{signed}
use Rattle.word_code.specs.Memory.{Memory, as_state, own_data_at}
use Rattle.word_code.specs.RoutineTable.{IsRewritten}
use Rattle.word_code.proofs.ForCallers.{MemoryLaw, Sized}
use Rattle.heap_memory.specs.HeapRoutines.{fits}
use Rattle.heap_memory.specs.TextRoutines.{AreBytes}
use Rattle.heap_memory.specs.GrowRoutine.{Owned, Growing, NewBlock, taking, new_growth, place_of, holds_it, may_grow, IsPresent, MayGrow, kept_of}
use Rattle.heap_memory.specs.AppendRoutine.{IsFilled, Source, Outside, Inside, source_bytes, Appending, Joining, joining_growth}
use Rattle.heap_memory.specs.HandleRoutines.{HasHandle, MayHave, Putting, AreContentsPut, IsBesideData, AppendingText, appended_text, copies_text, appends_text}
use Rattle.heap_memory.specs.HandleRoutines.{ResizingText, resized_text, resizes_text, JoiningTexts, joined_text, joins_texts, NumberText, number_text}
use Rattle.heap_memory.specs.HandleRoutines.{puts_number}
use Rattle.heap_memory.proofs.ForCallers.{is_there, class_same}
use Rattle.word_lowering.proofs.Blocks.{Bytes, Blocks, AreLater, IsPlace, IsEmptyIf, IsHandle, IfBlockThere, HasHeap}
use Rattle.word_lowering.proofs.BlockLists.{get_past}
use Rattle.word_lowering.proofs.HeapChanged.{TwoMemories}
use Rattle.word_lowering.proofs.PayloadBytes.{bytes_front, payload_bytes}
use Rattle.word_lowering.proofs.TextOperands.{IsKept, is_source, IsAll, TextAt, TextBlock, text_front, text_long}
use Rattle.word_lowering.proofs.ContentsGrown.{growing_in}
use Rattle.word_lowering.proofs.BlocksMade.{heap_fresh, block_fresh, heap_resized, block_resized, HasRoom, IsMade, two_memories, is_fresh, is_first, is_next}

module _ (StandsFixed : (place : ℕ) → List ℕ → Type 0) where
  -- ---- what is left

  -- In the middle memory holds the heap of the meaning then; behind that only a handle is put.
  pub record LeavesHandle (d : Blocks) (heap_after : Heap) (m other : Memory) (to : ℕ) (s : Shape) (n bytes : ℕ) (k : Option ℕ) : Type 0 where
    pub middle : Memory
    pub regions : Sized middle
    pub rest : IsBesideData own_data_at m middle
    pub after : Blocks
    pub ahead : AreLater d after
    pub has : HasHeap StandsFixed after heap_after middle
    pub put : IsRewritten middle other to 8
    pub handle : IsHandle after other to s n k
    pub room : HasRoom StandsFixed after k handle.place bytes

  module _ (law : MemoryLaw) (d : Blocks) (w : World) (m : Memory) (has : HasHeap StandsFixed d w.heap m) (sized : Sized m) where
    -- ---- a block that is asked for

    abbrev pub new_in : NewBlock
    new_in = record { identity = d.born; room = w.heap.room; classes = w.heap.classes; stands = d.stands }

    pub unused : d.stands d.born ≡ None
    unused =
        let none : slice_get w.heap.blocks d.born ≡ None = get_past w.heap.blocks d.born (let b = has.born in omega (arith, b)) in
        subst (λ o. IfBlockThere StandsFixed d m d.born o) (ap flat none) (has.blocks d.born)

    pub may_grow_new : (bytes : ℕ) → bytes < 2 ^ 32 → MayGrow own_data_at (new_growth new_in bytes) m
    may_grow_new bytes small = record { heap = has.kept; all = has.room; word = small; unused = unused; present = refl }

    -- it fits where it does in the meaning
    pub fresh_fits : (bytes : ℕ) → may_grow (new_growth new_in (suc bytes)) ≡ has_room w.heap (class_for (suc bytes) w.heap.classes)
    fresh_fits bytes =
        ap (λ c. c || fits (taking (new_growth new_in (suc bytes)))) (lt-leb (suc bytes) 0 (omega arith))
        ∙ ap (λ c. has_room w.heap c) (sym (class_same own_data_at w.heap.classes d.stands m has.kept (suc bytes)))

    -- ---- a handle that is put

    module _ (other : Memory) (q : Putting) (x : AreContentsPut own_data_at q m other) where
      middle_sized : Sized x.middle
      middle_sized = law.regions (as_state m) (as_state x.middle) sized x.rest.sizes

      pub two : TwoMemories StandsFixed d w.heap m x.middle
      two = two_memories StandsFixed d w.heap m x.middle has sized middle_sized x.rest.sizes.heap

      pub left : (heap_after : Heap) (s : Shape) (k : Option ℕ) (bytes : ℕ) → q.length < 2 ^ 32 → (k ≡ None → q.length ≡ 0)
          → IsMade StandsFixed d heap_after x.middle s k x.place bytes → LeavesHandle d heap_after m other q.to s q.length bytes k
      left heap_after s k bytes few empty t = record {
        middle = x.middle;
        regions = middle_sized;
        rest = x.rest;
        after = t.after;
        ahead = t.ahead;
        has = t.has;
        put = x.put.rewritten;
        handle = record {
          place = x.place;
          few = few;
          empty = empty_if k empty;
          long = x.put.handle.long;
          there = x.put.handle.there;
          near = near k t.is_place t.room;
          is = t.is_place;
        };
        room = t.room;
      }
        where
          empty_if : (k : Option ℕ) → (k ≡ None → q.length ≡ 0) → IsEmptyIf k q.length
          empty_if None e = e refl
          empty_if (Some j) e = tt

          near : (k : Option ℕ) → IsPlace t.after s k x.place → HasRoom StandsFixed t.after k x.place bytes → x.place < 2 ^ 32
          near None is room = omega (arith, is)
          near (Some j) is room =
              let there = is_there own_data_at heap_after.classes t.after.stands x.middle t.has.kept j room.0 room.1 middle_sized in
              let high = there.high in
              let most = middle_sized.heap_most in
              let at = room.2 in
              omega (arith, high, most, at)

    fresh_empty : (n : ℕ) → block_fresh w.heap n ≡ None → n ≡ 0
    fresh_empty zero e = refl
    fresh_empty (suc n) e = absurd (none-some (length w.heap.blocks) (sym e))

    abbrev LeavesText : (other : Memory) (to : ℕ) → List ℕ → Type 0
    LeavesText other to text =
        LeavesHandle d (heap_fresh w.heap (length text) (Characters text)) m other to block (length text) (length text) (block_fresh w.heap (length text))

    -- a new text was put
    text_put : (other : Memory) (to wanted : ℕ) (text : List ℕ) → length text ≡ wanted → wanted < 2 ^ 32
        → AreContentsPut own_data_at (record { to = to; length = wanted; growth = new_growth new_in wanted; bytes = text }) m other → LeavesText other to text
    text_put other to wanted text long few x =
        subst (λ n. LeavesHandle d (heap_fresh w.heap n (Characters text)) m other to block n n (block_fresh w.heap n)) (sym long)
        (left other (record { to = to; length = wanted; growth = new_growth new_in wanted; bytes = text }) x (heap_fresh w.heap wanted (Characters text))
        block (block_fresh w.heap wanted) wanted few (fresh_empty wanted)
        (is_fresh StandsFixed d w m x.middle (two other (record { to = to; length = wanted; growth = new_growth new_in wanted; bytes = text }) x) x.place wanted
        text block Bytes tt (Characters text) (λ after ahead y there front room. front) 0 x.filled))

    -- ---- a text is copied

    module _ (to from : ℕ) (text : List ℕ) (t : TextAt w.heap d.stands m from text) where
      abbrev copying : Appending
      copying = record { growth = new_growth new_in (length (source_bytes t.source)); source = t.source }

      abbrev pub copy_use : AppendingText
      copy_use = record { to = to; from = from; appending = copying }

      kept_none : (x : Source) (bytes : ℕ) → IsKept (new_growth new_in bytes) x
      kept_none (Outside a bs) bytes = tt
      kept_none (Inside x count) bytes = λ y e. absurd (none-some y e)

      pub may_copy : MayHave m to → (copies_text own_data_at).may copy_use m
      may_copy can = record {
        none = refl;
        from = t.handle;
        has = λ grows. can;
        appending = record {
          growth = may_grow_new (length (source_bytes t.source)) t.few;
          source = is_source copying.growth m t.source t.is (kept_none t.source (length (source_bytes t.source)));
          wanted = omega arith;
        };
      }

      pub copied : (other : Memory) → AreContentsPut own_data_at (appended_text copy_use) m other → LeavesText other to text
      copied other x =
          subst (λ bs. LeavesText other to bs) t.bytes (text_put other to (length (source_bytes t.source)) (source_bytes t.source) refl t.few x)

    -- ---- a text is made of two

    module _ (to left_at right_at : ℕ) (first second : List ℕ) (t : TextAt w.heap d.stands m left_at first) (u : TextAt w.heap d.stands m right_at second)
        (few : length first + length second < 2 ^ 32) where
      abbrev joining : Joining
      joining = record { first = t.source; second = u.source; new = new_in }

      abbrev pub join_use : JoiningTexts
      join_use = record { to = to; left = left_at; right = right_at; joining = joining }

      few_then : length (source_bytes t.source) + length (source_bytes u.source) < 2 ^ 32
      few_then = let a = ap length t.bytes in let b = ap length u.bytes in omega (arith, a, b, few)

      pub may_join : MayHave m to → (joins_texts own_data_at).may join_use m
      may_join can = record {
        left = t.handle;
        right = u.handle;
        has = can;
        joining = record {
          growth = may_grow_new (length (source_bytes t.source) + length (source_bytes u.source)) few_then;
          first = is_source (joining_growth joining) m t.source t.is (kept t.source);
          second = is_source (joining_growth joining) m u.source u.is (kept u.source);
        };
      }
        where
          kept : (x : Source) → IsKept (joining_growth joining) x
          kept (Outside a bs) = tt
          kept (Inside x count) = λ y e. absurd (none-some y e)

      pub joined_there : (other : Memory) → AreContentsPut own_data_at (joined_text join_use) m other → LeavesText other to (first ++ second)
      joined_there other x =
          let long : length (source_bytes t.source ++ source_bytes u.source) ≡ length (source_bytes t.source) + length (source_bytes u.source)
          = length-append (source_bytes t.source) (source_bytes u.source) in
          subst (λ bs. LeavesText other to (bs ++ second)) t.bytes
          (subst (λ bs. LeavesText other to (source_bytes t.source ++ bs)) u.bytes
          (text_put other to (length (source_bytes t.source) + length (source_bytes u.source)) (source_bytes t.source ++ source_bytes u.source) long
          few_then x))

    -- ---- a text is made of a number

    module _ (to number : ℕ) (small : number < 2 ^ 32) (few : length (signed_decimal (signed number)) < 2 ^ 32) where
      abbrev pub number_use : NumberText
      number_use = record { to = to; word = number; new = new_in }

      pub may_put_number : MayHave m to → (puts_number own_data_at).may number_use m
      may_put_number can = record { word = small; has = can; growth = may_grow_new (length (signed_decimal (signed number))) few }

      pub number_there : (other : Memory) → AreContentsPut own_data_at (number_text number_use) m other
          → LeavesText other to (signed_decimal (signed number))
      number_there other x = text_put other to (length (signed_decimal (signed number))) (signed_decimal (signed number)) refl few x

    -- ---- a text gets more characters, or another length

    -- the block of a text, if it has one
    abbrev pub block_of_text : (n : ℕ) → (k : Option ℕ) → Type 0
    block_of_text n None = Unit {0}
    block_of_text n (Some k) = TextBlock StandsFixed d w m n k

    abbrev pub present_of : (n : ℕ) → (k : Option ℕ) → block_of_text n k → Option Owned
    present_of n None b = None
    present_of n (Some k) b = Some (record { identity = k; block = b.is.standing })

    abbrev pub text_then : (n : ℕ) → (k : Option ℕ) → block_of_text n k → List ℕ
    text_then n None b = []
    text_then n (Some k) b = b.text

    module _ (are : AreBytes m.heap) (to n : ℕ) (k : Option ℕ) (h : IsHandle d m to block n k) (b : block_of_text n k) where
      abbrev pub growing : (wanted : ℕ) → Growing
      growing wanted = growing_in d w.heap (present_of n k b) n wanted

      pub present_is : IsPresent d.stands n (present_of n k b)
      present_is = by k h b
        where
          by : (k : Option ℕ) → IsHandle d m to block n k → (b : block_of_text n k) → IsPresent d.stands n (present_of n k b)
          by None h b = h.empty
          by (Some k) h b =
              let there = is_there own_data_at w.heap.classes d.stands m has.kept k b.is.standing b.is.stands sized in (
                b.is.stands,
                b.is.kind,
                b.is.word,
                text_long StandsFixed d w m has n k b,
                bytes_front n b.is.standing.payload (payload_bytes m sized are b.is.standing there),
              )

      pub handle_is : HasHandle m to n (place_of (present_of n k b))
      handle_is = by k h b
        where
          by : (k : Option ℕ) → IsHandle d m to block n k → (b : block_of_text n k) → HasHandle m to n (place_of (present_of n k b))
          by None h b = record { long = h.long; there = h.there ∙ ap Ok h.is }
          by (Some k) h b = record { long = h.long; there = h.there ∙ ap Ok (h.is.2 b.is.standing b.is.stands) }

      -- its characters are kept
      kept_is : kept_of (present_of n k b) n ≡ text_then n k b
      kept_is = by k h b
        where
          by : (k : Option ℕ) → IsHandle d m to block n k → (b : block_of_text n k) → kept_of (present_of n k b) n ≡ text_then n k b
          by None h b = refl
          by (Some k) h b = ap (λ i. take i b.is.standing.payload) (sym b.long) ∙ text_front StandsFixed d w m has n k b

      pub may_grow_so : (wanted : ℕ) → wanted < 2 ^ 32 → MayGrow own_data_at (growing wanted) m
      may_grow_so wanted small = record { heap = has.kept; all = has.room; word = small; unused = unused; present = present_is }

      abbrev pub LeavesResized : (other : Memory) → (bytes : ℕ) → List ℕ → Type 0
      LeavesResized other bytes text =
          LeavesHandle d (heap_resized (has_place w k bytes) w.heap k bytes (Characters text)) m other to block bytes bytes
          (block_resized (has_place w k bytes) w.heap k)

      -- it has no block behind that only where it is empty
      none_empty : (bytes : ℕ) → block_resized (has_place w k bytes) w.heap k ≡ None → bytes ≡ 0
      none_empty bytes = by k bytes
        where
          not_none : {A : Type 0} (j : ℕ) → Some j ≡ None → A
          not_none j e = absurd (none-some j (sym e))

          by : (k : Option ℕ) (bytes : ℕ) → block_resized (has_place w k bytes) w.heap k ≡ None → bytes ≡ 0
          by None zero e = refl
          by None (suc i) e = not_none (length w.heap.blocks) e
          by (Some j) zero e = refl
          by (Some j) (suc i) e = some (has_place w (Some j) (suc i)) e
            where
              some : (c : Bool) → block_resized c w.heap (Some j) ≡ None → suc i ≡ 0
              some true e = not_none j e
              some false e = not_none (length w.heap.blocks) e

      resized_put : (other : Memory) (bytes : ℕ) (text : List ℕ) → bytes < 2 ^ 32
          → AreContentsPut own_data_at (record { to = to; length = bytes; growth = growing bytes; bytes = text }) m other → LeavesResized other bytes text
      resized_put other bytes text few x =
          left other (record { to = to; length = bytes; growth = growing bytes; bytes = text }) x
          (heap_resized (has_place w k bytes) w.heap k bytes (Characters text)) block (block_resized (has_place w k bytes) w.heap k) bytes few
          (none_empty bytes)
          (by k h b x.middle (two other (record { to = to; length = bytes; growth = growing bytes; bytes = text }) x) x.filled)
        where
          by : (k : Option ℕ) → IsHandle d m to block n k → (b : block_of_text n k) → (middle : Memory) → TwoMemories StandsFixed d w.heap m middle
              → IsFilled (holds_it (present_of n k b) bytes) own_data_at (growing_in d w.heap (present_of n k b) n bytes) text middle x.place
              → IsMade StandsFixed d (heap_resized (has_place w k bytes) w.heap k bytes (Characters text)) middle block
              (block_resized (has_place w k bytes) w.heap k) x.place bytes
          by None h b middle t f =
              is_first StandsFixed d w m middle t x.place bytes text block Bytes tt (Characters text) (λ after ahead y there front room. front) 0
              (subst (λ i. IsFilled (holds_it None bytes) own_data_at (growing_in d w.heap None i bytes) text middle x.place) (h.empty) f)
          by (Some k) h b middle t f =
              is_next StandsFixed d w m middle t x.place bytes text block Bytes tt (Characters text) (λ after ahead y there front room. front)
              k b.block b.there b.is n b.inside h.is.0 f

      -- ---- more characters

      -- whichever way they came
      pub more_there : (more : List ℕ) (other : Memory) → n + length more < 2 ^ 32
          → AreContentsPut own_data_at (record {
            to = to;
            length = n + length more;
            growth = growing (n + length more);
            bytes = kept_of (present_of n k b) n ++ more;
          }) m other → LeavesResized other (n + length more) (text_then n k b ++ more)
      more_there more other small x =
          subst (λ ts. LeavesResized other (n + length more) (ts ++ more)) kept_is
          (resized_put other (n + length more) (kept_of (present_of n k b) n ++ more) small x)

      module _ (from : ℕ) (more : List ℕ) (t : TextAt w.heap d.stands m from more) where
        abbrev wanted : ℕ
        wanted = n + length (source_bytes t.source)

        abbrev appending : Appending
        appending = record { growth = growing wanted; source = t.source }

        abbrev pub append_use : AppendingText
        append_use = record { to = to; from = from; appending = appending }

        source_kept : IsKept (growing wanted) t.source
        source_kept = by t.source t.all
          where
            same_block : (x : Owned) (count : ℕ) → IsAll w.heap (Inside x count) → (k : Option ℕ) (b : block_of_text n k) (y : Owned)
                → present_of n k b ≡ Some y → x.identity ≡ y.identity → count ≤ n
            same_block x count all None b y e one = absurd (none-some y e)
            same_block x count all (Some k) b y e one =
                let is : x.identity ≡ k = one ∙ sym (ap (λ z. z.identity) (same_Some (record { identity = k; block = b.is.standing }) y e)) in
                let same : all.0 ≡ b.block = same_Some all.0 b.block (sym all.1 ∙ ap (block_at w.heap) is ∙ b.there) in
                let many : nat_eq (length b.text) count ≡ true
                = sym (ap (has_as_many count) (ap (λ z. z.contents) same ∙ b.contents)) ∙ all.2 in
                let l = b.long in
                let c = eqb-true (length b.text) count many in
                omega (arith, l, c)

            by : (x : Source) → IsAll w.heap x → IsKept (growing wanted) x
            by (Outside a bs) all = tt
            by (Inside x count) all = λ y e one. same_block x count all k b y e one

        pub may_append : MayHave m to → wanted < 2 ^ 32 → (appends_text own_data_at).may append_use m
        may_append can small = record {
          to = handle_is;
          from = t.handle;
          has = can;
          appending = record { growth = may_grow_so wanted small; source = is_source (growing wanted) m t.source t.is source_kept; wanted = refl };
        }

        pub appended_there : (other : Memory) → wanted < 2 ^ 32 → AreContentsPut own_data_at (appended_text append_use) m other
            → LeavesResized other (n + length more) (text_then n k b ++ more)
        appended_there other small x =
            subst (λ bs. LeavesResized other (n + length bs) (text_then n k b ++ bs)) t.bytes (more_there (source_bytes t.source) other small x)

      -- ---- another length

      module _ (wanted : ℕ) (small : wanted < 2 ^ 32) where
        abbrev pub resize_use : ResizingText
        resize_use = record { to = to; growth = growing wanted }

        pub may_resize : MayHave m to → (resizes_text own_data_at).may resize_use m
        may_resize can = record { to = handle_is; has = can; growth = may_grow_so wanted small }

        pub resized_there : (other : Memory) → AreContentsPut own_data_at (resized_text resize_use) m other
            → LeavesResized other wanted (text_to wanted (text_then n k b))
        resized_there other x =
            subst (λ ts. LeavesResized other wanted (text_to wanted ts)) kept_is
            (resized_put other wanted (text_to wanted (kept_of (present_of n k b) n)) small x)
