-- Parts of what is stored: where they are, and what it does to put another value there. Of what is vacant each part is vacant, and it stays so.
use Rattle.std.proofs.Common.{◌≡◌, ℕ, zero, suc, ◌+◌, ◌*◌, ◌%◌, ◌<◌, ◌≤◌, inl, inr, List, [], ◌∷◌, ◌++◌, Some, Ok, true, refl, sym, ap, subst, ◌∙◌, arith}
use Rattle.nim_meaning.specs.Values.{Value, Parts, Vacant, Values, Nil, More, count, nth, with_nth, nth_part}
use Rattle.nim_meaning.specs.Values.{part, with_part, put_part}
use Rattle.flat_code.specs.Shapes.{Shape, number, reference, block, elements, row, parts, resource, Shapes, no_shapes, shapes}
use Rattle.rv32_isa.specs.declared.micro_op.Size.TheVariants.{Word}
use Rattle.word_code.specs.Memory.{Memory, number_at}
use Rattle.word_code.proofs.ForCallers.{at_same, Apart}
use Rattle.word_lowering.proofs.InMemory.{Carries, or_word_least}
use Rattle.word_lowering.proofs.Options.{none_some, some_same}
use Rattle.word_lowering.proofs.ShapeFacts.{nth_shape, of_numbers, shape_bytes, shapes_bytes}
use Rattle.word_lowering.proofs.ShapePaths.{shapes_before, Step, PathTo, step_numbers, step_within, path_within}
use Rattle.word_lowering.proofs.Blocks.{Blocks, AreLater, MayBeVacant, Stored, AreStored, PartsStored}
use Rattle.word_lowering.proofs.StoredLater.{shape_whole, times_whole, stored_kept, all_kept, parts_kept}

count_same : (vs : Values) (i : ℕ) (new : Value) → count (with_nth vs i new) ≡ count vs
count_same Nil i new = refl
count_same (More v vs) zero new = refl
count_same (More v vs) (suc i) new = ap suc (count_same vs i new)

-- what is made of numbers may be vacant
may_be_vacant : (t : Shape) → of_numbers t ≡ true → MayBeVacant t
may_be_vacant (row n s) numbers = numbers
may_be_vacant (parts ss) numbers = numbers
may_be_vacant t numbers = tt

-- ---- a part begins with a word

fields_whole : (ss : Shapes) (i : ℕ) → shapes_before ss i % 4 ≡ 0
fields_whole no_shapes i = refl
fields_whole (shapes s ss) zero = refl
fields_whole (shapes s ss) (suc i) = let h = fields_whole ss i in let w = shape_whole s in omega (arith, h, w)

step_whole : (s : Shape) (i o : ℕ) (t : Shape) → Step s i o t → o % 4 ≡ 0
step_whole (row n s) i o t step = let e = step.1 in let w = times_whole i (shape_bytes s) (shape_whole s) in omega (arith, e, w)
step_whole (parts ss) i o t step = let e = step.1 in let w = fields_whole ss i in omega (arith, e, w)
step_whole (number x) i o t step = absurd step
step_whole reference i o t step = absurd step
step_whole block i o t step = absurd step
step_whole (elements s) i o t step = absurd step
step_whole (resource ss) i o t step = absurd step

pub path_whole : (s : Shape) (path : List ℕ) (o : ℕ) (t : Shape) → PathTo s path o t → o % 4 ≡ 0
path_whole s [] o t way = ap (λ n. n % 4) way.0
path_whole s (i ∷ path) o t way =
    let a = step_whole s i way.1 way.0 way.3 in let b = path_whole way.0 path way.2 t way.4 in let e = way.5 in omega (arith, a, b, e)

-- the part at a longer path
pub part_last : (v : Value) (path : List ℕ) (i : ℕ) → part v (path ++ i ∷ []) ≡ nth_part (part v path) i
part_last v [] i = refl
part_last v (j ∷ path) i = part_last (nth_part v j) path i

module _ (StandsFixed : (place : ℕ) → List ℕ → Type 0) where
  abbrev Here : Blocks → Memory → ℕ → Shape → Value → Type 0
  Here d m a s v = Stored StandsFixed d m a s v

  moved_to : (d : Blocks) (m : Memory) (a b : ℕ) (s : Shape) (v : Value) → a ≡ b → Here d m a s v → Here d m b s v
  moved_to d m a b s v e at = subst (λ x. Here d m x s v) e at

  -- ---- where a part is

  module _ (d : Blocks) (m : Memory) where
    pub row_part : (a : ℕ) (s : Shape) (vs : Values) (i : ℕ) → i < count vs → AreStored StandsFixed d m a s vs → Here d m (a + i * shape_bytes s) s (nth vs i)
    row_part a s Nil i less at = absurd (omega (arith, less))
    row_part a s (More v vs) zero less at = moved_to d m a (a + 0 * shape_bytes s) s v (omega arith) at.0
    row_part a s (More v vs) (suc i) less at =
        moved_to d m (a + shape_bytes s + i * shape_bytes s) (a + suc i * shape_bytes s) s (nth vs i) (omega arith)
        (row_part (a + shape_bytes s) s vs i (omega (arith, less)) at.1)

    pub field_part : (a : ℕ) (ss : Shapes) (vs : Values) (i : ℕ) (t : Shape) → nth_shape ss i ≡ Some t → PartsStored StandsFixed d m a ss vs
        → Here d m (a + shapes_before ss i) t (nth vs i)
    field_part a no_shapes vs i t is at = absurd (none_some t is)
    field_part a (shapes s ss) Nil i t is at = absurd at
    field_part a (shapes s ss) (More v vs) zero t is at = subst (λ x. Here d m (a + 0) x v) (some_same s t is) (moved_to d m a (a + 0) s v (omega arith) at.0)
    field_part a (shapes s ss) (More v vs) (suc i) t is at =
        moved_to d m (a + shape_bytes s + shapes_before ss i) (a + (shape_bytes s + shapes_before ss i)) t (nth vs i) (omega arith)
        (field_part (a + shape_bytes s) ss vs i t is at.1)

    pub step_part : (a : ℕ) (s : Shape) (v : Value) (i o : ℕ) (t : Shape) → Step s i o t → Here d m a s v → Here d m (a + o) t (nth_part v i)
    step_part a (row n s) (Parts vs) i o t step at =
        subst (λ x. Here d m (a + o) x (nth vs i)) step.2
        (moved_to d m (a + i * shape_bytes s) (a + o) s (nth vs i) (ap (λ n. a + n) (sym step.1))
        (row_part a s vs i (let less = step.0 in let e = at.0 in omega (arith, less, e)) at.1))
    step_part a (parts ss) (Parts vs) i o t step at =
        moved_to d m (a + shapes_before ss i) (a + o) t (nth vs i) (ap (λ n. a + n) (sym step.1)) (field_part a ss vs i t step.0 at)
    step_part a (row n s) Vacant i o t step at = may_be_vacant t (step_numbers (row n s) i o t at step)
    step_part a (parts ss) Vacant i o t step at = may_be_vacant t (step_numbers (parts ss) i o t at step)
    step_part a (row n s) v i o t step at = absurd at
    step_part a (parts ss) v i o t step at = absurd at
    step_part a s v i o t step at = absurd step

    pub path_part : (a : ℕ) (s : Shape) (v : Value) (path : List ℕ) (o : ℕ) (t : Shape) → PathTo s path o t → Here d m a s v
        → Here d m (a + o) t (part v path)
    path_part a s v [] o t way at = subst (λ x. Here d m (a + o) x v) way.1 (moved_to d m a (a + o) s v (let e = way.0 in omega (arith, e)) at)
    path_part a s v (i ∷ path) o t way at =
        let first : ℕ = way.1 in let rest : ℕ = way.2 in
        let e = way.5 in
        moved_to d m (a + first + rest) (a + o) t (part (nth_part v i) path) (omega (arith, e))
        (path_part (a + first) way.0 (nth_part v i) path rest t way.4 (step_part a s v i first way.0 way.3 at))

  -- ---- another value in place of a part

  module _ (d later : Blocks) (ahead : AreLater d later) (m other : Memory) where
    -- the words of a range are as before but for those of another one
    abbrev pub Spares : (a bytes at most : ℕ) → Type 0
    Spares a bytes at most = (o w : ℕ) → o + 4 ≤ bytes → o % 4 ≡ 0 → Apart (a + o) at most → number_at m (a + o) Word ≡ Ok w
        → number_at other (a + o) Word ≡ Ok w

    front : (a n k at most : ℕ) → Spares a (k + n) at most → a + k ≤ at → Carries m other a a k
    front a n k at most same le o w within is reads = same o w (omega (arith, within)) is (inl (omega (arith, within, le))) reads

    back : (a n k at most : ℕ) → k % 4 ≡ 0 → Spares a (k + n) at most → at + most ≤ a + k → Carries m other (a + k) (a + k) n
    back a n k at most whole same le o w within is reads =
        at_same other (a + k + o) (a + (k + o)) (omega arith)
        ∙ same (k + o) w (omega (arith, within)) (omega (arith, whole, is)) (inr (omega (arith, le)))
        (at_same m (a + (k + o)) (a + k + o) (omega arith) ∙ reads)

    inner : (a n k bytes at most : ℕ) → k % 4 ≡ 0 → k + bytes ≤ n → Spares a n at most → Spares (a + k) bytes at most
    inner a n k bytes at most whole le same o w within is apart reads =
        at_same other (a + k + o) (a + (k + o)) (omega arith)
        ∙ same (k + o) w (omega (arith, within, le)) (omega (arith, whole, is)) (apart_as apart) (at_same m (a + (k + o)) (a + k + o) (omega arith) ∙ reads)
      where
        apart_as : Apart (a + k + o) at most → Apart (a + (k + o)) at most
        apart_as (inl h) = inl (omega (arith, h))
        apart_as (inr h) = inr (omega (arith, h))

    -- what is apart from more is apart from less
    wider : (a n at most low long : ℕ) → low ≤ at → at + most ≤ low + long → Spares a n at most → Spares a n low long
    wider a n at most low long le ge same o w within is apart reads = same o w within is (narrower apart) reads
      where
        narrower : Apart (a + o) low long → Apart (a + o) at most
        narrower (inl h) = inl (omega (arith, h, le))
        narrower (inr h) = inr (omega (arith, h, ge))

    abbrev Then : ℕ → Shape → Value → Type 0
    Then a s v = Here later other a s v

    row_put : (a : ℕ) (s : Shape) (vs : Values) (n i : ℕ) (new : Value) → count vs ≡ n → i < n → AreStored StandsFixed d m a s vs
        → Spares a (n * shape_bytes s) (a + i * shape_bytes s) (shape_bytes s) → Then (a + i * shape_bytes s) s new
        → AreStored StandsFixed later other a s (with_nth vs i new)
    row_put a s Nil n i new is less at same there = absurd (omega (arith, is, less))
    row_put a s (More v vs) zero i new is less at same there = absurd (omega (arith, less))
    row_put a s (More v vs) (suc n) zero new is less at same there = (
      moved_to later other (a + 0 * shape_bytes s) a s new (omega arith) there,
      all_kept StandsFixed d later ahead m other (a + shape_bytes s) (a + shape_bytes s) s vs n (omega (arith, is))
          (back a (n * shape_bytes s) (shape_bytes s) (a + 0 * shape_bytes s) (shape_bytes s) (shape_whole s)
          (λ o w within. same o w (omega (arith, within))) (omega arith)) at.1,
    )
    row_put a s (More v vs) (suc n) (suc i) new is less at same there =
        let long : Spares a (shape_bytes s + n * shape_bytes s) (a + suc i * shape_bytes s) (shape_bytes s) = λ o w within. same o w (omega (arith, within)) in
        let at_i : a + suc i * shape_bytes s ≡ a + shape_bytes s + i * shape_bytes s = omega arith in (
          stored_kept StandsFixed d later ahead m other a a s v
              (front a (n * shape_bytes s) (shape_bytes s) (a + suc i * shape_bytes s) (shape_bytes s) long (omega arith)) at.0,
          row_put (a + shape_bytes s) s vs n i new (omega (arith, is)) (omega (arith, less)) at.1
              (subst (λ x. Spares (a + shape_bytes s) (n * shape_bytes s) x (shape_bytes s)) at_i
              (inner a (shape_bytes s + n * shape_bytes s) (shape_bytes s) (n * shape_bytes s) (a + suc i * shape_bytes s) (shape_bytes s) (shape_whole s)
              (omega arith) long))
              (moved_to later other (a + suc i * shape_bytes s) (a + shape_bytes s + i * shape_bytes s) s new at_i there),
        )

    field_put : (a : ℕ) (ss : Shapes) (vs : Values) (i : ℕ) (t : Shape) (new : Value) → nth_shape ss i ≡ Some t → PartsStored StandsFixed d m a ss vs
        → Spares a (shapes_bytes ss) (a + shapes_before ss i) (shape_bytes t) → Then (a + shapes_before ss i) t new
        → PartsStored StandsFixed later other a ss (with_nth vs i new)
    field_put a no_shapes vs i t new is at same there = absurd (none_some t is)
    field_put a (shapes s ss) Nil i t new is at same there = absurd at
    field_put a (shapes s ss) (More v vs) zero t new is at same there =
        let e : s ≡ t = some_same s t is in (
          moved_to later other (a + 0) a s new (omega arith) (subst (λ x. Then (a + 0) x new) (sym e) there),
          parts_kept StandsFixed d later ahead m other (a + shape_bytes s) (a + shape_bytes s) ss vs
              (back a (shapes_bytes ss) (shape_bytes s) (a + 0) (shape_bytes t) (shape_whole s) same (let f = ap shape_bytes e in omega (arith, f))) at.1,
        )
    field_put a (shapes s ss) (More v vs) (suc i) t new is at same there =
        let at_i : a + (shape_bytes s + shapes_before ss i) ≡ a + shape_bytes s + shapes_before ss i = omega arith in (
          stored_kept StandsFixed d later ahead m other a a s v
              (front a (shapes_bytes ss) (shape_bytes s) (a + (shape_bytes s + shapes_before ss i)) (shape_bytes t) same (omega arith)) at.0,
          field_put (a + shape_bytes s) ss vs i t new is at.1
              (subst (λ x. Spares (a + shape_bytes s) (shapes_bytes ss) x (shape_bytes t)) at_i
              (inner a (shape_bytes s + shapes_bytes ss) (shape_bytes s) (shapes_bytes ss) (a + (shape_bytes s + shapes_before ss i)) (shape_bytes t)
              (shape_whole s) (omega arith) same))
              (moved_to later other (a + (shape_bytes s + shapes_before ss i)) (a + shape_bytes s + shapes_before ss i) t new at_i there),
        )

    step_put : (a : ℕ) (s : Shape) (v : Value) (i o : ℕ) (t : Shape) (new : Value) → Step s i o t → Here d m a s v
        → Spares a (shape_bytes s) (a + o) (shape_bytes t) → Then (a + o) t new → Then a s (with_part v i new)
    step_put a (row n s) (Parts vs) i o t new step at same there =
        let e = step.1 in let f = ap shape_bytes step.2 in
        let there_too : Then (a + i * shape_bytes s) s new = moved_to later other (a + o) (a + i * shape_bytes s) s new (omega (arith, e))
        (subst (λ x. Then (a + o) x new) (sym step.2) there) in (
          count_same vs i new ∙ at.0,
          row_put a s vs n i new at.0 step.0 at.1
              (wider a (n * shape_bytes s) (a + o) (shape_bytes t) (a + i * shape_bytes s) (shape_bytes s) (omega (arith, e)) (omega (arith, e, f))
              (λ p w within. same p w (omega (arith, or_word_least (n * shape_bytes s), within)))) there_too,
        )
    step_put a (parts ss) (Parts vs) i o t new step at same there =
        let e = step.1 in
        field_put a ss vs i t new step.0 at
        (wider a (shapes_bytes ss) (a + o) (shape_bytes t) (a + shapes_before ss i) (shape_bytes t) (omega (arith, e)) (omega (arith, e))
        (λ p w within. same p w (omega (arith, or_word_least (shapes_bytes ss), within))))
        (moved_to later other (a + o) (a + shapes_before ss i) t new (omega (arith, e)) there)
    step_put a (row n s) Vacant i o t new step at same there = at
    step_put a (parts ss) Vacant i o t new step at same there = at
    step_put a (row n s) v i o t new step at same there = absurd at
    step_put a (parts ss) v i o t new step at same there = absurd at
    step_put a s v i o t new step at same there = absurd step

    -- a value with another part, where only the part's words are others
    pub path_put : (a : ℕ) (s : Shape) (v : Value) (path : List ℕ) (o : ℕ) (t : Shape) (new : Value) → PathTo s path o t → Here d m a s v
        → Spares a (shape_bytes s) (a + o) (shape_bytes t) → Then (a + o) t new → Then a s (put_part v path new)
    path_put a s v [] o t new way at same there =
        subst (λ x. Then a x new) (sym way.1) (moved_to later other (a + o) a t new (let e = way.0 in omega (arith, e)) there)
    path_put a s v (i ∷ path) o t new way at same there =
        let first : ℕ = way.1 in let rest : ℕ = way.2 in let sub : Value = nth_part v i in
        let e = way.5 in
        let in_step = step_within s i first way.0 way.3 in
        let in_rest = path_within way.0 path rest t way.4 in
        let is : a + o ≡ a + first + rest = omega (arith, e) in
        let part_at = step_part d m a s v i first way.0 way.3 at in
        let here : Spares (a + first) (shape_bytes way.0) (a + first + rest) (shape_bytes t)
        = subst (λ x. Spares (a + first) (shape_bytes way.0) x (shape_bytes t)) is
        (inner a (shape_bytes s) first (shape_bytes way.0) (a + o) (shape_bytes t) (step_whole s i first way.0 way.3) in_step same) in
        let made = path_put (a + first) way.0 sub path rest t new way.4 part_at here
        (moved_to later other (a + o) (a + first + rest) t new is there) in
        step_put a s v i first way.0 (put_part sub path new) way.3 at
        (wider a (shape_bytes s) (a + o) (shape_bytes t) (a + first) (shape_bytes way.0) (omega (arith, e)) (omega (arith, e, in_rest)) same) made
