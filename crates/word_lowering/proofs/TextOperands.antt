-- A text that a routine is given by the address of its handle: its bytes stand at the place that the handle has.
use Rattle.std.proofs.Common.{◌≡◌, inr, ℕ, zero, suc, ◌^◌, ◌<◌, ◌≤◌, List, [], ◌∷◌, length, take, Option, Some, None, true, false, Ok}
use Rattle.std.proofs.Common.{refl, sym, ap, subst, ◌∙◌, arith, eq-eqb}
use Rattle.std.specs.Prelude.{slice_get}
use Rattle.std.proofs.lemmas.Bool.{eqb-true, true≢false}
use Rattle.std.proofs.lemmas.Option.{none-some}
use Rattle.nim_meaning.specs.Values.{Value, Number, Parts, Handle, Fixed, Vacant, text_in}
use Rattle.nim_meaning.specs.Heap.{Contents, Characters, Elements, Object, Block, Heap, flat, block_at}
use Rattle.nim_meaning.specs.State.{World, object_in, contents_value, is_so_in, has_as_many, is_whole, text_of}
use Rattle.flat_code.specs.Shapes.{block}
use Rattle.word_code.specs.Memory.{Memory, bytes_at, own_data_at}
use Rattle.word_code.proofs.ForCallers.{Sized}
use Rattle.heap_memory.specs.HeapState.{Stands}
use Rattle.heap_memory.specs.HeapUse.{IsElsewhere}
use Rattle.heap_memory.specs.TextRoutines.{AreBytes}
use Rattle.heap_memory.specs.GrowRoutine.{Owned, Growing}
use Rattle.heap_memory.specs.AppendRoutine.{Source, Outside, Inside, source_at, source_bytes, IsSource}
use Rattle.heap_memory.specs.HandleRoutines.{HasHandle}
use Rattle.heap_memory.proofs.ForCallers.{is_there}
use Rattle.word_lowering.proofs.Blocks.{Inside as Holding, Bytes, Each, Blocks, IsHandle, Stored, HasContents, IsBlockThere, IfBlockThere, HasHeap, Holds_for}
use Rattle.word_lowering.proofs.PayloadBytes.{bytes_front, payload_bytes}

pub get_none : {A : Type 0} (xs : List A) (k : ℕ) → slice_get xs k ≡ None → length xs ≤ k
get_none [] k e = omega arith
get_none (x ∷ xs) zero e = absurd (none-some x (sym e))
get_none (x ∷ xs) (suc k) e = let h = get_none xs k e in omega (arith, h)

-- where the bytes of a text stand, whatever is done with it
abbrev pub IsSourceIn : Stands → Memory → Source → Type 0
IsSourceIn stands m (Outside a bytes) =
    AreBytes bytes × (a < 2 ^ 32) × (bytes_at m a (length bytes) ≡ Some bytes) × IsElsewhere own_data_at m a (length bytes)
IsSourceIn stands m (Inside x count) =
    (stands x.identity ≡ Some x.block) × (count ≤ length x.block.payload) × AreBytes (take count x.block.payload)

-- as much of the present block as is kept has it, if it is of that
abbrev pub IsKept : Growing → Source → Type 0
IsKept g (Outside a bytes) = Unit {0}
IsKept g (Inside x count) = (y : Owned) → g.present ≡ Some y → x.identity ≡ y.identity → count ≤ g.kept

pub is_source : (g : Growing) (m : Memory) (x : Source) → IsSourceIn g.stands m x → IsKept g x → IsSource own_data_at g m x
is_source g m (Outside a bytes) is kept = is
is_source g m (Inside x count) is kept = (is.0, is.1, is.2, kept)

-- what has it in a block has as much as that
abbrev pub IsAll : Heap → Source → Type 0
IsAll heap (Outside a bytes) = Unit {0}
IsAll heap (Inside x count) = (b : Block) × (block_at heap x.identity ≡ Some b) × (has_as_many count b.contents ≡ true)

-- the handle at an address leads to this text
pub record TextAt (heap : Heap) (stands : Stands) (m : Memory) (a : ℕ) (text : List ℕ) : Type 0 where
  pub source : Source
  pub all : IsAll heap source
  pub bytes : source_bytes source ≡ text
  pub handle : HasHandle m a (length (source_bytes source)) (source_at source)
  pub few : length (source_bytes source) < 2 ^ 32
  pub is : IsSourceIn stands m source

module _ (StandsFixed : (place : ℕ) → List ℕ → Type 0) where
  -- texts of the data are there
  abbrev pub FixedThere : Memory → Type 0
  FixedThere m = (place : ℕ) (text : List ℕ) → StandsFixed place text → AreBytes text × (place < 2 ^ 32) × (length text < 2 ^ 32)
      × (bytes_at m place (length text) ≡ Some text) × IsElsewhere own_data_at m place (length text)

  -- a text has a handle
  abbrev pub IsText : Value → Type 0
  IsText (Handle n k) = Unit {0}
  IsText (Fixed text) = Unit {0}
  IsText v = ⊥

  -- the block of a handle that is there, and its text
  pub record TextBlock (d : Blocks) (w : World) (m : Memory) (n k : ℕ) : Type 0 where
    pub block : Block
    pub there : block_at w.heap k ≡ Some block
    pub is : IsBlockThere StandsFixed d m k block
    pub inside : d.inside k ≡ Bytes
    pub text : List ℕ
    pub contents : block.contents ≡ Characters text
    pub long : length text ≡ n

  module _ (d : Blocks) (w : World) (m : Memory) (has : HasHeap StandsFixed d w.heap m) where
    pub text_block : (a n k : ℕ) → IsHandle d m a block n (Some k) → is_whole w (Handle n (Some k)) ≡ true → TextBlock d w m n k
    text_block a n k h whole = by (slice_get w.heap.blocks k) refl
      where
        inside_is : d.inside k ≡ Bytes
        inside_is = by (d.inside k) h.is.1
          where
            by : (i : Holding) → Holds_for block i → i ≡ Bytes
            by Bytes is = refl
            by (Each s) is = absurd is

        never : {A : Type 0} → false ≡ true → A
        never e = absurd (true≢false (sym e))

        contents_are : (b : Block) → IsBlockThere StandsFixed d m k b → has_as_many n b.contents ≡ true
            → (text : List ℕ) × (b.contents ≡ Characters text) × (length text ≡ n)
        contents_are b at many =
            by b.contents refl (subst (λ i. HasContents StandsFixed d m at.standing i b.contents) inside_is at.holds)
          where
            by : (c : Contents) → b.contents ≡ c → HasContents StandsFixed d m at.standing Bytes c
                → (text : List ℕ) × (b.contents ≡ Characters text) × (length text ≡ n)
            by (Characters text) e is = (text, e, eqb-true (length text) n (sym (ap (has_as_many n) e) ∙ many))
            by (Elements vs) e is = absurd is
            by (Object of v) e is = absurd is

        by : (o : Option (Option Block)) → slice_get w.heap.blocks k ≡ o → TextBlock d w m n k
        by None e =
            absurd (let b = has.born in let l = h.is.0 in let p = get_none w.heap.blocks k e in omega (arith, b, l, p))
        by (Some None) e = never (sym (ap (is_so_in (has_as_many n)) e) ∙ whole)
        by (Some (Some b)) e =
            let there : block_at w.heap k ≡ Some b = ap flat e in
            let at : IsBlockThere StandsFixed d m k b = subst (λ o. IfBlockThere StandsFixed d m k o) there (has.blocks k) in
            let c = contents_are b at (sym (ap (is_so_in (has_as_many n)) e) ∙ whole) in
            record { block = b; there = there; is = at; inside = inside_is; text = c.0; contents = c.1; long = c.2 }

    -- the front of its payload
    pub text_front : (n k : ℕ) (t : TextBlock d w m n k) → take (length t.text) t.is.standing.payload ≡ t.text
    text_front n k t =
        subst (λ c. HasContents StandsFixed d m t.is.standing Bytes c) t.contents
        (subst (λ i. HasContents StandsFixed d m t.is.standing i t.block.contents) t.inside t.is.holds)

    pub text_is : (n k : ℕ) (t : TextBlock d w m n k) → text_of w (Handle n (Some k)) ≡ t.text
    text_is n k t = ap (λ o. text_in (contents_value o)) t.there ∙ ap (λ c. text_in (object_in c)) t.contents

    pub text_long : (n k : ℕ) (t : TextBlock d w m n k) → n ≤ length t.is.standing.payload
    text_long n k t = let l = t.long in let h = long_front (length t.text) t.is.standing.payload (ap length (text_front n k t)) in omega (arith, l, h)
      where
        long_front : (i : ℕ) (xs : List ℕ) → length (take i xs) ≡ i → i ≤ length xs
        long_front zero xs e = omega arith
        long_front (suc i) [] e = absurd (omega (arith, e))
        long_front (suc i) (x ∷ xs) e = let h = long_front i xs (omega (arith, e)) in omega (arith, h)

    module _ (sized : Sized m) (are : AreBytes m.heap) where
      -- as a source
      abbrev pub block_text : (a n k : ℕ) → IsHandle d m a block n (Some k) → TextBlock d w m n k → TextAt w.heap d.stands m a (text_of w (Handle n (Some k)))
      block_text a n k h t =
          let x : Owned = record { identity = k; block = t.is.standing } in
          let there = is_there own_data_at w.heap.classes d.stands m has.kept k t.is.standing t.is.stands sized in
          let high = there.high in
          let most = sized.heap_most in
          let few = text_long n k t in
          let front : take n t.is.standing.payload ≡ t.text = ap (λ i. take i t.is.standing.payload) (sym t.long) ∙ text_front n k t in
          let long : length (take n t.is.standing.payload) ≡ n = ap length front ∙ t.long in
          record {
            source = Inside x n;
            all = (t.block, t.there, ap (has_as_many n) t.contents ∙ eq-eqb (length t.text) n t.long);
            bytes = front ∙ sym (text_is n k t);
            handle = record {
              long = h.long ∙ ap Ok (sym long);
              there = h.there ∙ ap Ok (h.is.2 t.is.standing t.is.stands);
            };
            few = omega (arith, long, few, high, most);
            is = (t.is.stands, few, bytes_front n t.is.standing.payload (payload_bytes m sized are t.is.standing there));
          }

      -- whatever stands there
      abbrev pub text_at_handle : FixedThere m → (a : ℕ) (v : Value) → IsText v → Stored StandsFixed d m a block v → is_whole w v ≡ true
          → TextAt w.heap d.stands m a (text_of w v)
      text_at_handle fixed a (Handle n None) text h whole =
          let e = h.empty in
          record {
            source = Outside 0 [];
            all = tt;
            bytes = refl;
            handle = record { long = h.long ∙ ap Ok e; there = h.there ∙ ap Ok h.is };
            few = omega arith;
            is = (tt, omega arith, refl, record { heap = inr (omega arith); words = inr (omega arith); room = inr (omega arith) });
          }
      text_at_handle fixed a (Handle n (Some k)) text h whole = block_text a n k h (text_block a n k h whole)
      text_at_handle fixed a (Fixed t) text h whole =
          let x = fixed h.place t h.stands in
          record {
            source = Outside h.place t;
            all = tt;
            bytes = refl;
            handle = record { long = h.long; there = h.there };
            few = x.2;
            is = (x.0, x.1, x.3, x.4);
          }
      text_at_handle fixed a (Number z) text h whole = absurd text
      text_at_handle fixed a (Parts vs) text h whole = absurd text
      text_at_handle fixed a Vacant text h whole = absurd text
      text_at_handle fixed a v text h whole = absurd text
