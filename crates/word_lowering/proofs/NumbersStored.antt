-- Values of numbers alone are stored by their shapes just where they stand word by word.
use Rattle.std.proofs.Common.{◌≡◌, ℕ, zero, suc, ◌+◌, true, refl, sym, ap, subst, List}
use Rattle.std.proofs.lemmas.Bool.{and_parts}
use Rattle.nim_meaning.specs.Values.{Value, Number, Parts, Values, Nil, More, count}
use Rattle.flat_code.specs.Shapes.{Shape, number, reference, block, elements, row, parts, resource, Shapes, no_shapes, shapes, has_shape, are_rows, have_shapes}
use Rattle.word_code.specs.Memory.{Memory}
use Rattle.word_lowering.proofs.InMemory.{IsAt, AreAt}
use Rattle.word_lowering.proofs.ShapeFacts.{never, of_numbers, all_of_numbers, shape_bytes, bytes_is}
use Rattle.word_lowering.proofs.Blocks.{Blocks, Stored, AreStored, PartsStored}

module _ (StandsFixed : (place : ℕ) → List ℕ → Type 0) (d : Blocks) (m : Memory) where
  rows_count : (vs : Values) (n : ℕ) (s : Shape) → are_rows vs n s ≡ true → count vs ≡ n
  rows_count Nil zero s h = refl
  rows_count Nil (suc n) s h = never h
  rows_count (More v vs) zero s h = never h
  rows_count (More v vs) (suc n) s h = ap suc (rows_count vs n s (and_parts (has_shape v s) (are_rows vs n s) h).1)

  mutual
    pub numbers_at : (a : ℕ) (s : Shape) (v : Value) → of_numbers s ≡ true → has_shape v s ≡ true → Stored StandsFixed d m a s v → IsAt m a v
    numbers_at a (number values) (Number z) o h at = at.0
    numbers_at a (row zero s) (Parts Nil) o h at = tt
    numbers_at a (row zero s) (Parts (More v vs)) o h at = never h
    numbers_at a (row (suc n) s) (Parts vs) o h at = rows_at a s vs (suc n) o h at.1
    numbers_at a (parts ss) (Parts vs) o h at = fields_at a ss vs o h at
    numbers_at a reference v o h at = never o
    numbers_at a block v o h at = never o
    numbers_at a (elements s) v o h at = never o
    numbers_at a (resource ss) v o h at = never o
    numbers_at a (number values) v o h at = never h
    numbers_at a (row n s) v o h at = never h
    numbers_at a (parts ss) v o h at = never h

    rows_at : (a : ℕ) (s : Shape) (vs : Values) (n : ℕ) → of_numbers s ≡ true → are_rows vs n s ≡ true → AreStored StandsFixed d m a s vs → AreAt m a vs
    rows_at a s Nil n o h at = tt
    rows_at a s (More v vs) zero o h at = never h
    rows_at a s (More v vs) (suc n) o h at =
        let p = and_parts (has_shape v s) (are_rows vs n s) h in (
          numbers_at a s v o p.0 at.0,
          subst (λ k. AreAt m (a + k) vs) (sym (bytes_is v s o p.0)) (rows_at (a + shape_bytes s) s vs n o p.1 at.1),
        )

    fields_at : (a : ℕ) (ss : Shapes) (vs : Values) → all_of_numbers ss ≡ true → have_shapes vs ss ≡ true → PartsStored StandsFixed d m a ss vs → AreAt m a vs
    fields_at a no_shapes Nil o h at = tt
    fields_at a no_shapes (More v vs) o h at = never h
    fields_at a (shapes s ss) Nil o h at = never h
    fields_at a (shapes s ss) (More v vs) o h at =
        let p = and_parts (has_shape v s) (have_shapes vs ss) h in let q = and_parts (of_numbers s) (all_of_numbers ss) o in (
          numbers_at a s v q.0 p.0 at.0,
          subst (λ k. AreAt m (a + k) vs) (sym (bytes_is v s q.0 p.0)) (fields_at (a + shape_bytes s) ss vs q.1 p.1 at.1),
        )

  mutual
    pub at_numbers : (a : ℕ) (s : Shape) (v : Value) → of_numbers s ≡ true → has_shape v s ≡ true → IsAt m a v → Stored StandsFixed d m a s v
    at_numbers a (number values) (Number z) o h at = (at, h)
    at_numbers a (row zero s) (Parts Nil) o h at = (refl, tt)
    at_numbers a (row zero s) (Parts (More v vs)) o h at = never h
    at_numbers a (row (suc n) s) (Parts vs) o h at = (rows_count vs (suc n) s h, at_rows a s vs (suc n) o h at)
    at_numbers a (parts ss) (Parts vs) o h at = at_fields a ss vs o h at
    at_numbers a reference v o h at = never o
    at_numbers a block v o h at = never o
    at_numbers a (elements s) v o h at = never o
    at_numbers a (resource ss) v o h at = never o
    at_numbers a (number values) v o h at = never h
    at_numbers a (row n s) v o h at = never h
    at_numbers a (parts ss) v o h at = never h

    at_rows : (a : ℕ) (s : Shape) (vs : Values) (n : ℕ) → of_numbers s ≡ true → are_rows vs n s ≡ true → AreAt m a vs → AreStored StandsFixed d m a s vs
    at_rows a s Nil n o h at = tt
    at_rows a s (More v vs) zero o h at = never h
    at_rows a s (More v vs) (suc n) o h at =
        let p = and_parts (has_shape v s) (are_rows vs n s) h in (
          at_numbers a s v o p.0 at.0,
          at_rows (a + shape_bytes s) s vs n o p.1 (subst (λ k. AreAt m (a + k) vs) (bytes_is v s o p.0) at.1),
        )

    at_fields : (a : ℕ) (ss : Shapes) (vs : Values) → all_of_numbers ss ≡ true → have_shapes vs ss ≡ true → AreAt m a vs → PartsStored StandsFixed d m a ss vs
    at_fields a no_shapes Nil o h at = tt
    at_fields a no_shapes (More v vs) o h at = never h
    at_fields a (shapes s ss) Nil o h at = never h
    at_fields a (shapes s ss) (More v vs) o h at =
        let p = and_parts (has_shape v s) (have_shapes vs ss) h in let q = and_parts (of_numbers s) (all_of_numbers ss) o in (
          at_numbers a s v q.0 p.0 at.0,
          at_fields (a + shape_bytes s) ss vs q.1 p.1 (subst (λ k. AreAt m (a + k) vs) (bytes_is v s q.0 p.0) at.1),
        )
