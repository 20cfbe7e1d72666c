-- A sequence gets another length, or is new: the elements that come are zeros.
use Rattle.std.proofs.Common.{◌≡◌, ℕ, zero, suc, ◌+◌, ◌-◌, ◌*◌, ◌%◌, ◌^◌, ◌<◌, ◌≤◌, List, [], ◌∷◌, ◌++◌, length, take, drop, replicate, Option, Some, None, Ok}
use Rattle.std.proofs.Common.{refl, sym, ap, subst, ◌∙◌, arith, length-append, append-nil, mul-le-mul_right}
use Rattle.std.proofs.lemmas.Option.{none-some}
use Rattle.std.proofs.lemmas.List.{length-replicate, length-take, take-take}
use Rattle.std.proofs.Math.Seq.{take-append_seam, drop-append-add}
use Rattle.nim_meaning.specs.Values.{Value, Values, Nil, count, joined, repeated, first_of}
use Rattle.nim_meaning.specs.State.{World}
use Rattle.nim_meaning.specs.OwnedRows.{text_to}
use Rattle.flat_code.specs.Shapes.{Shape, elements}
use Rattle.rv32_isa.specs.declared.micro_op.Size.TheVariants.{Word}
use Rattle.rv32_isa.specs.Steps.{number_of}
use Rattle.word_code.specs.Memory.{Memory, number_at, own_data_at}
use Rattle.word_code.specs.RoutineTable.{ZeroWords}
use Rattle.word_code.proofs.ForCallers.{MemoryLaw, Sized}
use Rattle.heap_memory.specs.HeapState.{Standing}
use Rattle.heap_memory.specs.HeapUse.{IsThere}
use Rattle.heap_memory.specs.TextRoutines.{AreBytes}
use Rattle.heap_memory.specs.GrowRoutine.{kept_of}
use Rattle.heap_memory.specs.HandleRoutines.{MayHave, AreContentsPut}
use Rattle.heap_memory.specs.SequenceRoutines.{ResizingSequence, bytes_for, sequence_resized, resizes_sequence, puts_sequence}
use Rattle.heap_memory.proofs.ForCallers.{is_there}
use Rattle.word_lowering.proofs.ShapeFacts.{shape_bytes}
use Rattle.word_lowering.proofs.Blocks.{Blocks, AreLater, IsHandle, Stored, AreStored, HasHeap}
use Rattle.word_lowering.proofs.BlocksKept.{payload_part}
use Rattle.word_lowering.proofs.SequencesGrown.{part_front, at_bytes, grown_elements}
use Rattle.word_lowering.proofs.SequenceOperands.{elements_there, joined_stored, repeated_stored, first_stored, count_first, count_joined, count_repeated}
use Rattle.word_lowering.proofs.StoredLater.{shape_whole, times_whole}
use Rattle.word_lowering.proofs.SequencesPut.{OrEmpty, block_of_sequence, present_of, all_of, growing, LeavesSequence, sequence_put, handle_is, may_grow_so}
use Rattle.word_lowering.proofs.SequencesPut.{kept_long}
use Rattle.word_lowering.proofs.SequencesPut.{are_kept, count_is}

-- ---- what was kept, and zeros

take_all : (n : ℕ) (xs : List ℕ) → length xs ≤ n → take n xs ≡ xs
take_all zero [] few = refl
take_all zero (x ∷ xs) few = absurd (omega (arith, few))
take_all (suc n) [] few = refl
take_all (suc n) (x ∷ xs) few = ap (λ ys. x ∷ ys) (take_all n xs (omega (arith, few)))

kept_then_zeros : (n : ℕ) (xs : List ℕ) → length xs ≤ n → text_to n xs ≡ xs ++ replicate (n - length xs) 0
kept_then_zeros n xs few = ap (λ ys. ys ++ replicate (n - length xs) 0) (take_all n xs few)

-- four of so many zeros
four_zeros : (o n : ℕ) → o + 4 ≤ n → take {A = ℕ} 4 (drop o (replicate n 0)) ≡ 0 ∷ 0 ∷ 0 ∷ 0 ∷ []
four_zeros zero (suc (suc (suc (suc n)))) few = refl
four_zeros zero zero few = absurd (omega (arith, few))
four_zeros zero (suc zero) few = absurd (omega (arith, few))
four_zeros zero (suc (suc zero)) few = absurd (omega (arith, few))
four_zeros zero (suc (suc (suc zero))) few = absurd (omega (arith, few))
four_zeros (suc o) zero few = absurd (omega (arith, few))
four_zeros (suc o) (suc n) few = four_zeros o n (omega (arith, few))

distributes : (a b c : ℕ) → (a + b) * c ≡ a * c + b * c
distributes zero b c = let e : 0 + b ≡ b = omega arith in ap (λ i. i * c) e ∙ omega arith
distributes (suc a) b c = let h = distributes a b c in let e : suc a + b ≡ suc (a + b) = omega arith in ap (λ i. i * c) e ∙ omega (arith, h)

split : (a b c : ℕ) → b ≤ a → (a - b) * c + b * c ≡ a * c
split a b c le = let e : a - b + b ≡ a = omega (arith, le) in sym (distributes (a - b) b c) ∙ ap (λ i. i * c) e

module _ (m : Memory) (sized : Sized m) (y : Standing) (there : IsThere m y) (kept : List ℕ) (bytes : ℕ) (enough : length kept ≤ bytes)
    (front : take (length (text_to bytes kept)) y.payload ≡ text_to bytes kept) (room : bytes ≤ length y.payload) where
  abbrev zeros : List ℕ
  zeros = replicate (bytes - length kept) 0

  is_front : text_to bytes kept ≡ kept ++ zeros
  is_front = kept_then_zeros bytes kept enough

  front_long : length (text_to bytes kept) ≡ bytes
  front_long =
      let l = length-append kept zeros in
      let z = length-replicate {A = ℕ} (bytes - length kept) 0 in
      ap length is_front ∙ omega (arith, l, z, enough)

  front_is : take bytes y.payload ≡ kept ++ zeros
  front_is = ap (λ i. take i y.payload) (sym front_long) ∙ front ∙ is_front

  pub kept_front : take (length kept) y.payload ≡ kept
  kept_front =
      sym (take-take (length kept) bytes y.payload enough) ∙ ap (take (length kept)) front_is ∙ take-append_seam kept zeros

  pub zeros_behind : length kept % 4 ≡ 0 → ZeroWords m (y.place + length kept) (bytes - length kept)
  zeros_behind aligned o few whole =
      let i : ℕ = length kept + o in
      let e : y.place + length kept + o ≡ y.place + i = omega arith in
      let a = there.aligned in
      let part : take 4 (drop i y.payload) ≡ 0 ∷ 0 ∷ 0 ∷ 0 ∷ []
      = sym (part_front i 4 bytes y.payload (omega (arith, few, enough))) ∙ ap (λ p. take 4 (drop i p)) front_is
      ∙ ap (take 4) (drop-append-add kept zeros o) ∙ four_zeros o (bytes - length kept) few in
      subst (λ b. number_at m b Word ≡ Ok 0) (sym e)
      (at_bytes m (y.place + i) (omega (arith, a, aligned, whole))
      ∙ ap number_of (payload_part m sized y there i 4 (omega arith) (omega (arith, few, enough, room)) ∙ ap Some part))

module _ (StandsFixed : (place : ℕ) → List ℕ → Type 0) (law : MemoryLaw) (d : Blocks) (w : World) (m : Memory) (has : HasHeap StandsFixed d w.heap m)
    (sized : Sized m) (are : AreBytes m.heap) (s : Shape) (to n : ℕ) (k : Option ℕ) (h : OrEmpty StandsFixed law d w m has sized are s to n k)
    (b : block_of_sequence StandsFixed law d w m has sized are s n k) (long : ℕ) (few : long < 2 ^ 32) (some : 0 < shape_bytes s)
    (fits : bytes_for long (shape_bytes s) ≡ long * shape_bytes s) (small : long * shape_bytes s < 2 ^ 32)
  where
    abbrev size : ℕ
    size = shape_bytes s

    abbrev bytes : ℕ
    bytes = long * size

    abbrev kept : List ℕ
    kept = kept_of (present_of StandsFixed law d w m has sized are s n k b) (n * size)

    abbrev pub resize_use : ResizingSequence
    resize_use = record { to = to; count = n; size = size; length = long; growth = growing StandsFixed law d w m has sized are s to n k h b bytes }

    pub may_resize : IsHandle d m to (elements s) n k → MayHave m to → (resizes_sequence own_data_at).may resize_use m
    may_resize full can = record {
      to = handle_is StandsFixed law d w m has sized are s to n k h b full;
      has = can;
      growth = may_grow_so StandsFixed law d w m has sized are s to n k h b bytes small;
      some = some;
      few = few;
      kept = refl;
      wanted = sym fits;
    }

    pub may_put : k ≡ None → MayHave m to → (puts_sequence own_data_at).may resize_use m
    may_put none can = record {
      none = no_block k b none;
      has = λ grows. can;
      growth = may_grow_so StandsFixed law d w m has sized are s to n k h b bytes small;
      some = some;
      few = few;
      wanted = sym fits;
    }
      where
        no_block : (k : Option ℕ) (b : block_of_sequence StandsFixed law d w m has sized are s n k) → k ≡ None
            → present_of StandsFixed law d w m has sized are s n k b ≡ None
        no_block None b e = refl
        no_block (Some j) b e = absurd (none-some j (sym e))

    -- ---- it gets longer

    module _ (longer : n ≤ long) (v : Value) (other : Memory) (x : AreContentsPut own_data_at (sequence_resized resize_use) m other)
        (blank : (after : Blocks) → AreLater d after → (a : ℕ) → ZeroWords x.middle a size → Stored StandsFixed after x.middle a s v) where
      abbrev then_all : Values
      then_all = joined (all_of StandsFixed law d w m has sized are s n k b) (repeated (long - n) v)

      old_long : length kept ≡ n * size
      old_long = kept_long StandsFixed law d w m has sized are s to n k h b

      old_count : count (all_of StandsFixed law d w m has sized are s n k b) ≡ n
      old_count = count_is StandsFixed law d w m has sized are s to n k h b

      all_long : n * size ≤ bytes
      all_long = mul-le-mul_right size longer

      regions : Sized x.middle
      regions = law.regions _ _ sized x.rest.sizes

      pub none_long : bytes ≡ 0 → long ≡ 0
      none_long e = by long e
        where
          by : (i : ℕ) → i * size ≡ 0 → i ≡ 0
          by zero e = refl
          by (suc i) e = absurd (omega (arith, e, some))

      pub holds : (after : Blocks) → AreLater d after → (y : Standing) → IsThere x.middle y
          → take (length (text_to bytes kept)) y.payload ≡ text_to bytes kept → bytes ≤ length y.payload
          → AreStored StandsFixed after x.middle y.place s then_all × (count then_all * size ≤ length y.payload)
      holds after ahead y there front room =
          let l = old_long in
          let c = old_count in
          let more = all_long in
          let enough : length kept ≤ bytes = omega (arith, l, more) in
          let front_kept : take (n * size) y.payload ≡ kept
          = ap (λ i. take i y.payload) (sym l) ∙ kept_front x.middle regions y there kept bytes enough front room in
          let z = zeros_behind x.middle regions y there kept bytes enough front room
          (ap (λ i. i % 4) l ∙ times_whole n size (shape_whole s)) in
          let old : AreStored StandsFixed after x.middle y.place s (all_of StandsFixed law d w m has sized are s n k b)
          = are_kept StandsFixed law d w m has sized are s to n k h b x.middle regions after ahead y there front_kept (omega (arith, more, room)) in
          let total : count then_all ≡ long
          = count_joined (all_of StandsFixed law d w m has sized are s n k b) (repeated (long - n) v)
          ∙ (let r = count_repeated (long - n) v in omega (arith, c, r, longer)) in (
            joined_stored StandsFixed after x.middle s y.place (all_of StandsFixed law d w m has sized are s n k b) (repeated (long - n) v) old
                (repeated_stored StandsFixed after x.middle s (long - n) (y.place + count (all_of StandsFixed law d w m has sized are s n k b) * size) v
                (λ i less. blank after ahead _ (zeros_at y l c z i less))),
            subst (λ i. i * size ≤ length y.payload) (sym total) room,
          )
        where
          zeros_at : (y : Standing) → length kept ≡ n * size → count (all_of StandsFixed law d w m has sized are s n k b) ≡ n
              → ZeroWords x.middle (y.place + length kept) (bytes - length kept) → (i : ℕ) → i < long - n
              → ZeroWords x.middle (y.place + count (all_of StandsFixed law d w m has sized are s n k b) * size + i * size) size
          zeros_at y l c z i less o within whole =
              let e : y.place + length kept + (i * size + o) ≡ y.place + count (all_of StandsFixed law d w m has sized are s n k b) * size + i * size + o
              = (let f = ap (λ j. j * size) c in omega (arith, l, f)) in
              let more_one : suc i ≤ long - n = omega (arith, less) in
              let few : suc i * size ≤ (long - n) * size = mul-le-mul_right size more_one in
              let minus : (long - n) * size + n * size ≡ bytes = split long n size longer in
              let aligned = times_whole i size (shape_whole s) in
              subst (λ a. number_at x.middle a Word ≡ Ok 0) e (z (i * size + o) (omega (arith, within, few, minus, l)) (omega (arith, aligned, whole)))

      pub longer_put : LeavesSequence StandsFixed law d w m has sized are s to n k h b other long bytes (text_to bytes kept) few x none_long then_all holds
      longer_put = sequence_put StandsFixed law d w m has sized are s to n k h b other long bytes (text_to bytes kept) few x none_long then_all holds

    -- ---- it gets no longer

    module _ (shorter : long ≤ n) (other : Memory) (x : AreContentsPut own_data_at (sequence_resized resize_use) m other) where
      abbrev fewer : Values
      fewer = first_of long (all_of StandsFixed law d w m has sized are s n k b)

      pub none_short : bytes ≡ 0 → long ≡ 0
      none_short e = by long e
        where
          by : (i : ℕ) → i * size ≡ 0 → i ≡ 0
          by zero e = refl
          by (suc i) e = absurd (omega (arith, e, some))

      pub short_holds : (after : Blocks) → AreLater d after → (y : Standing) → IsThere x.middle y
          → take (length (text_to bytes kept)) y.payload ≡ text_to bytes kept → bytes ≤ length y.payload
          → AreStored StandsFixed after x.middle y.place s fewer × (count fewer * size ≤ length y.payload)
      short_holds after ahead y there front room =
          let l = kept_long StandsFixed law d w m has sized are s to n k h b in
          let less : bytes ≤ n * size = mul-le-mul_right size shorter in
          let c = count_is StandsFixed law d w m has sized are s to n k h b in
          let total : count fewer ≡ long = count_first long (all_of StandsFixed law d w m has sized are s n k b) (omega (arith, c, shorter)) in
          let sized_then : Sized x.middle = law.regions _ _ sized x.rest.sizes in
          let none : bytes - length kept ≡ 0 = omega (arith, l, less) in
          let is : text_to bytes kept ≡ take bytes kept
          = ap (λ i. take bytes kept ++ replicate i 0) none ∙ append-nil (take bytes kept) in
          let long_is : length (take bytes kept) ≡ bytes = (let t = length-take bytes kept in omega (arith, t, l, less)) in
          let front_is : take bytes y.payload ≡ take bytes kept
          = ap (λ i. take i y.payload) (sym (ap length is ∙ long_is)) ∙ front ∙ is in (
            by k h b (first_of long) y there sized_then after ahead front_is less room total refl,
            subst (λ i. i * size ≤ length y.payload) (sym total) room,
          )
        where
          by : (k : Option ℕ) → OrEmpty StandsFixed law d w m has sized are s to n k → (b : block_of_sequence StandsFixed law d w m has sized are s n k)
              → (cut : Values → Values) → (y : Standing) → IsThere x.middle y → Sized x.middle → (after : Blocks) → AreLater d after
              → take bytes y.payload ≡ take bytes (kept_of (present_of StandsFixed law d w m has sized are s n k b) (n * size))
              → bytes ≤ n * size → bytes ≤ length y.payload → count (cut (all_of StandsFixed law d w m has sized are s n k b)) ≡ long
              → cut ≡ first_of long
              → AreStored StandsFixed after x.middle y.place s (cut (all_of StandsFixed law d w m has sized are s n k b))
          by None h b cut y there sized_then after ahead front less room total is =
              subst (λ f. AreStored StandsFixed after x.middle y.place s (f Nil)) (sym is) (none_of long)
            where
              none_of : (i : ℕ) → AreStored StandsFixed after x.middle y.place s (first_of i Nil)
              none_of zero = tt
              none_of (suc i) = tt
          by (Some j) h b cut y there sized_then after ahead front less room total is =
              let e = elements_there StandsFixed d w m has s n j b in
              let there0 = is_there own_data_at w.heap.classes d.stands m has.kept j b.is.standing b.is.stands sized in
              let same : take bytes y.payload ≡ take bytes b.is.standing.payload = front ∙ take-take bytes (n * size) b.is.standing.payload less in
              let in_old = e.1 in
              let c = ap (λ i. i * size) total in
              grown_elements m x.middle sized sized_then b.is.standing y there0 there bytes same (omega (arith, less, in_old)) room StandsFixed d after ahead s
              (cut b.all) (omega (arith, c))
              (subst (λ f. AreStored StandsFixed d m b.is.standing.place s (f b.all)) (sym is)
              (first_stored StandsFixed d m s long b.is.standing.place b.all e.0))

      pub shorter_put : LeavesSequence StandsFixed law d w m has sized are s to n k h b other long bytes (text_to bytes kept) few x none_short fewer short_holds
      shorter_put = sequence_put StandsFixed law d w m has sized are s to n k h b other long bytes (text_to bytes kept) few x none_short fewer short_holds
