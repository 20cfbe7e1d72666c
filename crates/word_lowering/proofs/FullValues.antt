-- What is all there: it has its parts, and where it is stored its shape, and so many bytes.
use Rattle.std.proofs.Common.{◌≡◌, ℕ, zero, suc, ◌+◌, true, refl, ap, ap₂, arith, List, ◌&&◌, ◌*◌, ◌∙◌, mul-suc, mul_comm}
use Rattle.std.proofs.lemmas.Bool.{and_parts}
use Rattle.nim_meaning.specs.Values.{Value, Number, Parts, Handle, Fixed, Ref, Resource, Gone, Vacant, Values, Nil, More, count, parts_of, nth, nth_part}
use Rattle.nim_meaning.specs.Values.{is_full, all_full, bytes, bytes_all}
use Rattle.nim_types.specs.Forms.{or_word}
use Rattle.flat_code.specs.Shapes.{Shape, number, reference, block, elements, row, parts, resource, Shapes, no_shapes, shapes, has_shape, are_rows, have_shapes}
use Rattle.word_code.specs.Memory.{Memory}
use Rattle.word_lowering.proofs.ShapeFacts.{never, shape_bytes, shapes_bytes}
use Rattle.word_lowering.proofs.Blocks.{Blocks, Stored, AreStored, PartsStored}

-- a part that is there is one of the parts
pub full_nth : (v : Value) (i : ℕ) → is_full (nth_part v i) ≡ true → nth_part v i ≡ nth (parts_of v) i
full_nth (Number z) i h = refl
full_nth (Parts all) i h = refl
full_nth (Handle n k) i h = refl
full_nth (Fixed text) i h = refl
full_nth (Ref object) i h = refl
full_nth (Resource all identity) i h = refl
full_nth (Gone v final) i h = refl
full_nth Vacant i h = never h

-- ---- shapes

module _ (StandsFixed : (place : ℕ) → List ℕ → Type 0) (d : Blocks) (m : Memory) where
  mutual
    pub full_shape : (a : ℕ) (s : Shape) (v : Value) → Stored StandsFixed d m a s v → is_full v ≡ true → has_shape v s ≡ true
    full_shape a s Vacant at full = never full
    full_shape a s (Gone v final) at full = never full
    full_shape a (number values) (Number z) at full = at.1
    full_shape a block (Handle n k) at full = refl
    full_shape a block (Fixed text) at full = refl
    full_shape a (elements s) (Handle n k) at full = refl
    full_shape a (row n s) (Parts vs) at full = rows_shape a s vs n at.0 at.1 full
    full_shape a (parts ss) (Parts vs) at full = parts_shape a ss vs at full
    full_shape a (number values) v at full = absurd at
    full_shape a reference v at full = absurd at
    full_shape a block v at full = absurd at
    full_shape a (elements s) v at full = absurd at
    full_shape a (row n s) v at full = absurd at
    full_shape a (parts ss) v at full = absurd at
    full_shape a (resource ss) v at full = absurd at

    rows_shape : (a : ℕ) (s : Shape) (vs : Values) (n : ℕ) → count vs ≡ n → AreStored StandsFixed d m a s vs → all_full vs ≡ true → are_rows vs n s ≡ true
    rows_shape a s Nil zero e at full = refl
    rows_shape a s Nil (suc n) e at full = absurd (omega (arith, e))
    rows_shape a s (More v vs) zero e at full = absurd (omega (arith, e))
    rows_shape a s (More v vs) (suc n) e at full =
        let f = and_parts (is_full v) (all_full vs) full in
        ap₂ (λ x y. x && y) (full_shape a s v at.0 f.0) (rows_shape (a + shape_bytes s) s vs n (omega (arith, e)) at.1 f.1)

    parts_shape : (a : ℕ) (ss : Shapes) (vs : Values) → PartsStored StandsFixed d m a ss vs → all_full vs ≡ true → have_shapes vs ss ≡ true
    parts_shape a no_shapes Nil at full = refl
    parts_shape a no_shapes (More v vs) at full = absurd at
    parts_shape a (shapes s ss) Nil at full = absurd at
    parts_shape a (shapes s ss) (More v vs) at full =
        let f = and_parts (is_full v) (all_full vs) full in
        ap₂ (λ x y. x && y) (full_shape a s v at.0 f.0) (parts_shape (a + shape_bytes s) ss vs at.1 f.1)

    -- ---- bytes

    pub stored_bytes : (a : ℕ) (s : Shape) (v : Value) → Stored StandsFixed d m a s v → has_shape v s ≡ true → bytes v ≡ shape_bytes s
    stored_bytes a (number values) Vacant at h = never h
    stored_bytes a reference Vacant at h = never h
    stored_bytes a block Vacant at h = never h
    stored_bytes a (elements s) Vacant at h = never h
    stored_bytes a (row n s) Vacant at h = never h
    stored_bytes a (parts ss) Vacant at h = never h
    stored_bytes a (resource ss) Vacant at h = never h
    stored_bytes a (number values) (Number z) at h = refl
    stored_bytes a block (Handle n k) at h = refl
    stored_bytes a block (Fixed text) at h = refl
    stored_bytes a (elements s) (Handle n k) at h = refl
    stored_bytes a (row n s) (Parts vs) at h = ap or_word (rows_bytes a s vs n at.1 h)
    stored_bytes a (parts ss) (Parts vs) at h = ap or_word (parts_bytes a ss vs at h)
    stored_bytes a (number values) v at h = absurd at
    stored_bytes a reference v at h = absurd at
    stored_bytes a block v at h = absurd at
    stored_bytes a (elements s) v at h = absurd at
    stored_bytes a (row n s) v at h = absurd at
    stored_bytes a (parts ss) v at h = absurd at
    stored_bytes a (resource ss) v at h = absurd at

    rows_bytes : (a : ℕ) (s : Shape) (vs : Values) (n : ℕ) → AreStored StandsFixed d m a s vs → are_rows vs n s ≡ true → bytes_all vs ≡ n * shape_bytes s
    rows_bytes a s Nil zero at h = omega arith
    rows_bytes a s Nil (suc n) at h = never h
    rows_bytes a s (More v vs) zero at h = never h
    rows_bytes a s (More v vs) (suc n) at h =
        let p = and_parts _ _ h in
        let b : ℕ = shape_bytes s in
        let first : bytes v ≡ b = stored_bytes a s v at.0 p.0 in
        let rest : bytes_all vs ≡ n * b = rows_bytes (a + b) s vs n at.1 p.1 in
        let more : suc n * b ≡ b * n + b = mul_comm (suc n) b ∙ mul-suc b n in
        let turned : n * b ≡ b * n = mul_comm n b in
        omega (arith, first, rest, more, turned)

    parts_bytes : (a : ℕ) (ss : Shapes) (vs : Values) → PartsStored StandsFixed d m a ss vs → have_shapes vs ss ≡ true → bytes_all vs ≡ shapes_bytes ss
    parts_bytes a no_shapes Nil at h = refl
    parts_bytes a no_shapes (More v vs) at h = absurd at
    parts_bytes a (shapes s ss) Nil at h = absurd at
    parts_bytes a (shapes s ss) (More v vs) at h =
        let p = and_parts _ _ h in ap₂ (λ i j. i + j) (stored_bytes a s v at.0 p.0) (parts_bytes (a + shape_bytes s) ss vs at.1 p.1)
