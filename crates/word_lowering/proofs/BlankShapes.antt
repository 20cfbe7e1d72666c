-- What a place of a shape starts at: zeros are that, where it has neither refs nor objects with hooks of their own.
use Rattle.std.proofs.Common.{◌≡◌, ℕ, zero, suc, ◌+◌, ◌*◌, ◌%◌, pos, Bool, true, false, List, None, refl, ap, ap₂, ◌∙◌, arith, mul-suc, mul_comm}
use Rattle.std.specs.Prelude.{◌&&◌}
use Rattle.std.proofs.lemmas.Bool.{and_parts}
use Rattle.nim_meaning.specs.Values.{Value, Number, Parts, Handle, Ref, Resource, Values, Nil, More, bytes, bytes_all, count, repeated}
use Rattle.nim_types.specs.Forms.{or_word}
use Rattle.flat_code.specs.Shapes.{Shape, number, reference, block, elements, row, parts, resource, Shapes, no_shapes, shapes, has_shape, are_rows, have_shapes}
use Rattle.word_code.specs.Memory.{Memory}
use Rattle.word_code.specs.RoutineTable.{ZeroWords}
use Rattle.word_code.proofs.ForCallers.{at_same}
use Rattle.word_lowering.proofs.Blocks.{AreStored, Blocks, IsHandle, PartsStored, Stored}
use Rattle.word_lowering.proofs.InMemory.{or_word_least}
use Rattle.word_lowering.proofs.ShapeFacts.{never, shape_bytes, shapes_bytes}
use Rattle.word_lowering.proofs.StoredLater.{shape_whole}

abbrev mutual
  pub blank_in : Shape → Value
  blank_in (number values) = Number (pos 0)
  blank_in reference = Ref None
  blank_in block = Handle 0 None
  blank_in (elements s) = Handle 0 None
  blank_in (row n s) = Parts (repeated n (blank_in s))
  blank_in (parts ss) = Parts (blanks_in ss)
  blank_in (resource ss) = Resource (blanks_in ss) None

  pub blanks_in : Shapes → Values
  blanks_in no_shapes = Nil
  blanks_in (shapes s ss) = More (blank_in s) (blanks_in ss)

-- what is looked at of a value
abbrev pub seen_in : Shape → Value → Value
seen_in block v = v
seen_in s v = blank_in s

pub seen_other : (s : Shape) (v : Value) → (s ≡ block → ⊥) → seen_in s v ≡ blank_in s
seen_other block v other = absurd (other refl)
seen_other s v other = refl

-- numbers, texts and sequences
abbrev mutual
  pub of_handles : Shape → Bool
  of_handles (number values) = true
  of_handles reference = false
  of_handles block = true
  of_handles (elements s) = of_handles s
  of_handles (row zero s) = true
  of_handles (row (suc n) s) = of_handles s
  of_handles (parts ss) = all_of_handles ss
  of_handles (resource ss) = false

  pub all_of_handles : Shapes → Bool
  all_of_handles no_shapes = true
  all_of_handles (shapes s ss) = of_handles s && all_of_handles ss

count_repeated : (n : ℕ) (v : Value) → count (repeated n v) ≡ n
count_repeated zero v = refl
count_repeated (suc n) v = ap suc (count_repeated n v)

-- ---- its bytes

nothing_times : (n m : ℕ) → 0 * n ≡ 0 * m
nothing_times n m = omega arith

repeated_bytes : (n : ℕ) (v : Value) → bytes_all (repeated n v) ≡ n * bytes v
repeated_bytes zero v = omega arith
repeated_bytes (suc n) v = let e = repeated_bytes n v in omega (arith, e)

mutual
  pub blank_bytes : (s : Shape) → of_handles s ≡ true → bytes (blank_in s) ≡ shape_bytes s
  blank_bytes (number values) h = refl
  blank_bytes reference h = never h
  blank_bytes block h = refl
  blank_bytes (elements s) h = refl
  blank_bytes (row zero s) h = ap or_word (repeated_bytes zero (blank_in s) ∙ nothing_times (bytes (blank_in s)) (shape_bytes s))
  blank_bytes (row (suc n) s) h = ap or_word (repeated_bytes (suc n) (blank_in s) ∙ ap (λ k. suc n * k) (blank_bytes s h))
  blank_bytes (parts ss) h = ap or_word (blanks_bytes ss h)
  blank_bytes (resource ss) h = never h

  blanks_bytes : (ss : Shapes) → all_of_handles ss ≡ true → bytes_all (blanks_in ss) ≡ shapes_bytes ss
  blanks_bytes no_shapes h = refl
  blanks_bytes (shapes s ss) h =
      let p = and_parts (of_handles s) (all_of_handles ss) h in ap₂ (λ a b. a + b) (blank_bytes s p.0) (blanks_bytes ss p.1)

module _ (StandsFixed : (place : ℕ) → List ℕ → Type 0) (d : Blocks) (m : Memory) where
  handle_zero : (a : ℕ) (s : Shape) → ZeroWords m a 8 → IsHandle d m a s 0 None
  handle_zero a s zeros = record {
    place = 0;
    long = at_same m a (a + 0) (omega arith) ∙ zeros 0 (omega arith) refl;
    few = omega arith;
    empty = refl;
    there = zeros 4 (omega arith) refl;
    near = omega arith;
    is = refl;
  }

  rows_zero : (s : Shape) (v : Value) → ((b : ℕ) → ZeroWords m b (shape_bytes s) → Stored StandsFixed d m b s v) → (n a : ℕ)
      → ZeroWords m a (n * shape_bytes s) → AreStored StandsFixed d m a s (repeated n v)
  rows_zero s v each zero a zeros = tt
  rows_zero s v each (suc n) a zeros =
      let b : ℕ = shape_bytes s in
      let whole : shape_bytes s % 4 ≡ 0 = shape_whole s in
      let more : suc n * b ≡ b * n + b = mul_comm (suc n) b ∙ mul-suc b n in
      let turned : n * b ≡ b * n = mul_comm n b in (
        each a (λ i within is. zeros i (omega (arith, more, within)) is),
        rows_zero s v each n (a + b)
            (λ i within is. at_same m (a + b + i) (a + (b + i)) (omega arith)
            ∙ zeros (b + i) (omega (arith, more, turned, within)) (omega (arith, whole, is))),
      )

  mutual
    pub zeros_stored : (a : ℕ) (s : Shape) → of_handles s ≡ true → has_shape (blank_in s) s ≡ true → ZeroWords m a (shape_bytes s)
        → Stored StandsFixed d m a s (blank_in s)
    zeros_stored a (number values) o h zeros = (at_same m a (a + 0) (omega arith) ∙ zeros 0 (omega arith) refl, h)
    zeros_stored a reference o h zeros = never o
    zeros_stored a block o h zeros = handle_zero a block zeros
    zeros_stored a (elements s) o h zeros = handle_zero a (elements s) zeros
    zeros_stored a (row zero s) o h zeros = (refl, tt)
    zeros_stored a (row (suc n) s) o h zeros =
        let p = and_parts (has_shape (blank_in s) s) (are_rows (repeated n (blank_in s)) n s) h in (
          count_repeated (suc n) (blank_in s),
          rows_zero s (blank_in s) (λ b there. zeros_stored b s o p.0 there) (suc n) a
              (λ i within is. zeros i (let e = or_word_least (suc n * shape_bytes s) in omega (arith, e, within)) is),
        )
    zeros_stored a (parts ss) o h zeros =
        parts_zero a ss o h (λ i within is. zeros i (let e = or_word_least (shapes_bytes ss) in omega (arith, e, within)) is)
    zeros_stored a (resource ss) o h zeros = never o

    parts_zero : (a : ℕ) (ss : Shapes) → all_of_handles ss ≡ true → have_shapes (blanks_in ss) ss ≡ true → ZeroWords m a (shapes_bytes ss)
        → PartsStored StandsFixed d m a ss (blanks_in ss)
    parts_zero a no_shapes o h zeros = tt
    parts_zero a (shapes s ss) o h zeros =
        let p = and_parts (has_shape (blank_in s) s) (have_shapes (blanks_in ss) ss) h in
        let q = and_parts (of_handles s) (all_of_handles ss) o in
        let b : ℕ = shape_bytes s in
        let whole : shape_bytes s % 4 ≡ 0 = shape_whole s in (
          zeros_stored a s q.0 p.0 (λ i within is. zeros i (omega (arith, within)) is),
          parts_zero (a + b) ss q.1 p.1
              (λ i within is. at_same m (a + b + i) (a + (b + i)) (omega arith) ∙ zeros (b + i) (omega (arith, within)) (omega (arith, whole, is))),
        )
