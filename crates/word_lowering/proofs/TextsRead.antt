-- Texts that routines read: what they are given, where memory holds values with blocks.
use Rattle.std.proofs.Common.{◌≡◌, ℕ, ◌^◌, ◌<◌, List, length, take, Some, ap, subst, arith}
use Rattle.std.proofs.lemmas.List.{length-take}
use Rattle.nim_meaning.specs.Heap.{Heap}
use Rattle.nim_meaning.specs.OwnedRows.{order}
use Rattle.rv32_isa.specs.Values.{signed}
use Rattle.word_code.specs.Memory.{Memory, bytes_at, own_data_at}
use Rattle.word_code.proofs.ForCallers.{Sized}
use Rattle.heap_memory.specs.TextRoutines.{AreBytes, Comparing}
use Rattle.heap_memory.specs.AppendRoutine.{Source, Outside, Inside, source_at, source_bytes}
use Rattle.heap_memory.specs.HandleRoutines.{Ordering, orders_texts, Writing, writes_text}
use Rattle.heap_memory.proofs.ForCallers.{is_there}
use Rattle.word_lowering.proofs.Blocks.{Blocks, HasHeap}
use Rattle.word_lowering.proofs.TextOperands.{IsSourceIn, TextAt}
use Rattle.word_lowering.proofs.TextsInBlocks.{payload_front}

module _ (StandsFixed : (place : ℕ) → List ℕ → Type 0) (d : Blocks) (heap : Heap) (m : Memory) (has : HasHeap StandsFixed d heap m) (sized : Sized m) where
  -- its bytes are there
  pub record IsRead (x : Source) : Type 0 where
    pub are : AreBytes (source_bytes x)
    pub here : bytes_at m (source_at x) (length (source_bytes x)) ≡ Some (source_bytes x)
    pub small : source_at x < 2 ^ 32

  source_read : (x : Source) → IsSourceIn d.stands m x → IsRead x
  source_read (Outside a bytes) is = record { are = is.0; here = is.2; small = is.1 }
  source_read (Inside x count) is =
      let there = is_there own_data_at heap.classes d.stands m has.kept x.identity x.block is.0 sized in
      let few = is.1 in
      let high = there.high in
      let most = sized.heap_most in
      let long : length (take count x.block.payload) ≡ count
      = (let l = length-take count x.block.payload in omega (arith, l, few)) in
      record {
        are = is.2;
        here = payload_front m sized x.block there (take count x.block.payload) (ap (λ i. take i x.block.payload) long);
        small = omega (arith, high, most);
      }

  -- ---- texts are compared

  module _ (left right : ℕ) (first second : List ℕ) (t : TextAt heap d.stands m left first) (u : TextAt heap d.stands m right second) where
    abbrev comparing : Comparing
    comparing = record {
      left = source_at t.source;
      first = source_bytes t.source;
      right = source_at u.source;
      second = source_bytes u.source;
    }

    abbrev pub order_use : Ordering
    order_use = record { left = left; right = right; texts = comparing }

    pub may_order : orders_texts.may order_use m
    may_order =
        let x = source_read t.source t.is in
        let y = source_read u.source u.is in
        record {
          left = t.handle;
          right = u.handle;
          texts = record {
            first_are = x.are;
            second_are = y.are;
            first_here = x.here;
            second_here = y.here;
            left_word = x.small;
            right_word = y.small;
          };
        }

    pub ordered : (other : Memory) (number : ℕ) → orders_texts.gives order_use other number → signed number ≡ order first second
    ordered other number is =
        subst (λ bs. signed number ≡ order first bs) u.bytes (subst (λ bs. signed number ≡ order bs (source_bytes u.source)) t.bytes is.1)

  -- ---- a text is written

  module _ (from : ℕ) (text : List ℕ) (t : TextAt heap d.stands m from text) where
    abbrev pub write_use : Writing
    write_use = record { at = from; place = source_at t.source; text = source_bytes t.source }

    pub may_write : writes_text.may write_use m
    may_write = let x = source_read t.source t.is in record { handle = t.handle; here = x.here; small = x.small }
