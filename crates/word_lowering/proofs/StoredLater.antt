-- What stands at an address stands where its words are carried, whatever else becomes of memory and of blocks: each block that a handle leads to stays
-- where it is, or is given back.
use Rattle.std.proofs.Common.{◌≡◌, ℕ, zero, suc, ◌+◌, ◌*◌, ◌%◌, ◌<◌, ◌≤◌, ◌^◌, ℤ, true, List, Option, Some, None, Ok, refl, sym, subst, ◌∙◌, arith}
use Rattle.std.proofs.lemmas.Bool.{and_parts}
use Rattle.nim_program.specs.Ints.{fits, inside}
use Rattle.word_lowering.proofs.Arithmetic.{word_small}
use Rattle.nim_types.specs.Forms.{or_word}
use Rattle.std.specs.Prelude.{length}
use Rattle.nim_meaning.specs.Values.{Value, Number, Parts, Handle, Fixed, Vacant, Values, Nil, More, count}
use Rattle.flat_code.specs.Shapes.{Shape, number, reference, block, elements, row, parts, resource, Shapes, no_shapes, shapes, is_ordinal}
use Rattle.rv32_isa.specs.declared.micro_op.Size.TheVariants.{Word}
use Rattle.word_code.specs.Memory.{Memory, number_at}
use Rattle.word_code.proofs.ForCallers.{at_same}
use Rattle.word_lowering.specs.Operations.{word}
use Rattle.word_lowering.proofs.InMemory.{Carries, or_word_least, or_word_some}
use Rattle.word_lowering.proofs.ShapeFacts.{shape_bytes, shapes_bytes}
use Rattle.word_lowering.proofs.Blocks.{Blocks, AreLater, IsPlace, IsHandle, IsLiteralHandle, Stored, AreStored, PartsStored, Holds_for}

whole_word : (n : ℕ) → n % 4 ≡ 0 → or_word n % 4 ≡ 0
whole_word zero e = refl
whole_word (suc n) e = e

pub times_whole : (n k : ℕ) → k % 4 ≡ 0 → (n * k) % 4 ≡ 0
times_whole zero k e = omega arith
times_whole (suc n) k e = let h = times_whole n k e in omega (arith, e, h)

mutual
  pub shape_whole : (s : Shape) → shape_bytes s % 4 ≡ 0
  shape_whole (number values) = refl
  shape_whole reference = refl
  shape_whole block = refl
  shape_whole (elements s) = refl
  shape_whole (row n s) = whole_word (n * shape_bytes s) (let h = shape_whole s in times_whole n (shape_bytes s) h)
  shape_whole (parts ss) = whole_word (shapes_bytes ss) (shapes_whole ss)
  shape_whole (resource ss) = whole_word (shapes_bytes ss) (shapes_whole ss)

  pub shapes_whole : (ss : Shapes) → shapes_bytes ss % 4 ≡ 0
  shapes_whole no_shapes = refl
  shapes_whole (shapes s ss) = let e = shape_whole s in let f = shapes_whole ss in omega arith

pub shape_some : (s : Shape) → 4 ≤ shape_bytes s
shape_some (number values) = omega arith
shape_some reference = omega arith
shape_some block = omega arith
shape_some (elements s) = omega arith
shape_some (row n s) = or_word_some (n * shape_bytes s) (let h = shape_whole s in times_whole n (shape_bytes s) h)
shape_some (parts ss) = or_word_some (shapes_bytes ss) (shapes_whole ss)
shape_some (resource ss) = or_word_some (shapes_bytes ss) (shapes_whole ss)

-- words below 2^32 that are read in one range are read in the other one
abbrev pub CarriesSmall : (m other : Memory) → (a b bytes : ℕ) → Type 0
CarriesSmall m other a b bytes = (o w : ℕ) → o + 4 ≤ bytes → o % 4 ≡ 0 → w < 2 ^ 32 → number_at m (a + o) Word ≡ Ok w → number_at other (b + o) Word ≡ Ok w

pub word_below : (values : Option ℕ) (z : ℤ) → is_ordinal values (Number z) ≡ true → word z < 2 ^ 32
word_below None z h = word_small z h
word_below (Some n) z h = word_small z (and_parts (fits z) (inside z n) h).0

module _ (StandsFixed : (place : ℕ) → List ℕ → Type 0) (d later : Blocks) (ahead : AreLater d later) (m other : Memory) where
  abbrev Kept : ℕ → ℕ → ℕ → Type 0
  Kept a b bytes = CarriesSmall m other a b bytes

  behind : (a b n k : ℕ) → k % 4 ≡ 0 → Kept a b (k + n) → Kept (a + k) (b + k) n
  behind a b n k whole same o w within is small reads =
      at_same other (b + k + o) (b + (k + o)) (omega arith)
      ∙ same (k + o) w (omega arith) (omega arith) small (at_same m (a + (k + o)) (a + k + o) (omega arith) ∙ reads)

  before : (a b n k : ℕ) → Kept a b (k + n) → Kept a b k
  before a b n k same o w within is small reads = same o w (omega arith) is small reads

  first : (a b w : ℕ) (bytes : ℕ) → 4 ≤ bytes → w < 2 ^ 32 → Kept a b bytes → number_at m a Word ≡ Ok w → number_at other b Word ≡ Ok w
  first a b w bytes some small same at =
      at_same other b (b + 0) (omega arith) ∙ same 0 w (omega (arith, some)) refl small (at_same m (a + 0) a (omega arith) ∙ at)

  place_kept : (s : Shape) (k : Option ℕ) (place : ℕ) → IsPlace d s k place → IsPlace later s k place
  place_kept s None place is = is
  place_kept s (Some k) place is = (
    omega (arith, is.0, ahead.born),
    subst (Holds_for s) (sym (ahead.inside k is.0)) is.1,
    λ x e. let y = ahead.places k x is.0 e in is.2 y.0 y.1 ∙ y.2,
  )

  handle_kept : (a b : ℕ) (s : Shape) (n : ℕ) (k : Option ℕ) → Kept a b 8 → IsHandle d m a s n k → IsHandle later other b s n k
  handle_kept a b s n k same h = record {
    place = h.place;
    long = first a b n 8 (omega arith) h.few same h.long;
    few = h.few;
    empty = h.empty;
    near = h.near;
    there = same 4 h.place (omega arith) refl h.near h.there;
    is = place_kept s k h.place h.is;
  }

  literal_kept : (a b : ℕ) (text : List ℕ) → Kept a b 8 → IsLiteralHandle StandsFixed m a text → IsLiteralHandle StandsFixed other b text
  literal_kept a b text same h = record {
    place = h.place;
    long = first a b (length text) 8 (omega arith) h.few same h.long;
    few = h.few;
    near = h.near;
    there = same 4 h.place (omega arith) refl h.near h.there;
    stands = h.stands;
  }

  mutual
    pub stored_small : (a b : ℕ) (s : Shape) (v : Value) → Kept a b (shape_bytes s) → Stored StandsFixed d m a s v → Stored StandsFixed later other b s v
    stored_small a b s Vacant same at = at
    stored_small a b (number values) (Number z) same at = (first a b (word z) 4 (omega arith) (word_below values z at.1) same at.0, at.1)
    stored_small a b block (Handle n k) same at = handle_kept a b block n k same at
    stored_small a b block (Fixed text) same at = literal_kept a b text same at
    stored_small a b (elements s) (Handle n k) same at = handle_kept a b (elements s) n k same at
    stored_small a b (row n s) (Parts vs) same at =
        (at.0, all_small a b s vs n at.0 (λ o w within. same o w (omega (arith, or_word_least (n * shape_bytes s), within))) at.1)
    stored_small a b (parts ss) (Parts vs) same at =
        parts_small a b ss vs (λ o w within. same o w (omega (arith, or_word_least (shapes_bytes ss), within))) at
    stored_small a b s v same at = absurd at

    all_small : (a b : ℕ) (s : Shape) (vs : Values) (n : ℕ) → count vs ≡ n → Kept a b (n * shape_bytes s) → AreStored StandsFixed d m a s vs
        → AreStored StandsFixed later other b s vs
    all_small a b s Nil n is same at = tt
    all_small a b s (More v vs) zero is same at = absurd (omega (arith, is))
    all_small a b s (More v vs) (suc n) is same at =
        let both : Kept a b (shape_bytes s + n * shape_bytes s) = λ o w within whole small reads. same o w (omega (arith, within)) whole small reads in (
          stored_small a b s v (before a b (n * shape_bytes s) (shape_bytes s) both) at.0,
          all_small (a + shape_bytes s) (b + shape_bytes s) s vs n (omega (arith, is))
              (behind a b (n * shape_bytes s) (shape_bytes s) (shape_whole s) both) at.1,
        )

    parts_small : (a b : ℕ) (ss : Shapes) (vs : Values) → Kept a b (shapes_bytes ss) → PartsStored StandsFixed d m a ss vs
        → PartsStored StandsFixed later other b ss vs
    parts_small a b no_shapes Nil same at = tt
    parts_small a b (shapes s ss) (More v vs) same at = (
      stored_small a b s v (before a b (shapes_bytes ss) (shape_bytes s) same) at.0,
      parts_small (a + shape_bytes s) (b + shape_bytes s) ss vs (behind a b (shapes_bytes ss) (shape_bytes s) (shape_whole s) same) at.1,
    )
    parts_small a b no_shapes (More v vs) same at = absurd at
    parts_small a b (shapes s ss) Nil same at = absurd at

  -- where all words are

  pub stored_kept : (a b : ℕ) (s : Shape) (v : Value) → Carries m other a b (shape_bytes s) → Stored StandsFixed d m a s v →
      Stored StandsFixed later other b s v
  stored_kept a b s v same at = stored_small a b s v (λ o w within whole small reads. same o w within whole reads) at

  pub all_kept : (a b : ℕ) (s : Shape) (vs : Values) (n : ℕ) → count vs ≡ n → Carries m other a b (n * shape_bytes s) → AreStored StandsFixed d m a s vs
      → AreStored StandsFixed later other b s vs
  all_kept a b s vs n is same at = all_small a b s vs n is (λ o w within whole small reads. same o w within whole reads) at

  pub parts_kept : (a b : ℕ) (ss : Shapes) (vs : Values) → Carries m other a b (shapes_bytes ss) → PartsStored StandsFixed d m a ss vs
      → PartsStored StandsFixed later other b ss vs
  parts_kept a b ss vs same at = parts_small a b ss vs (λ o w within whole small reads. same o w within whole reads) at
