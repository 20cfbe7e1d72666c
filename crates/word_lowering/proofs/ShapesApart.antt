-- Two paths in a shape that lead to parts of one shape: these parts are the same, or apart.
use Rattle.std.proofs.Common.{◌≡◌, ◌⊎◌, inl, inr, ℕ, zero, suc, ◌+◌, ◌<◌, ◌≤◌, List, [], ◌∷◌, Some}
use Rattle.std.proofs.Common.{sym, ap, subst, ◌∙◌, arith}
use Rattle.std.proofs.lemmas.Bool.{cases_order}
use Rattle.flat_code.specs.Shapes.{Shape, number, reference, block, elements, row, parts, resource, Shapes, no_shapes, shapes}
use Rattle.word_lowering.proofs.ShapeFacts.{shape_bytes, nth_shape}
use Rattle.word_lowering.proofs.Options.{none_some, some_same}
use Rattle.word_lowering.proofs.ShapePaths.{shapes_before, Step, PathTo, rows_within, path_within}
use Rattle.word_lowering.proofs.ShapeDepth.{depth, nth_depth}

-- ---- a step leads to a smaller shape

step_depth : (s : Shape) (i o : ℕ) (t : Shape) → Step s i o t → depth t < depth s
step_depth (number x) i o t st = absurd st
step_depth reference i o t st = absurd st
step_depth block i o t st = absurd st
step_depth (elements s) i o t st = absurd st
step_depth (resource ss) i o t st = absurd st
step_depth (row n s) i o t st = let e = ap depth st.2 in omega (arith, e)
step_depth (parts ss) i o t st = nth_depth ss i t st.0

path_depth : (s : Shape) (path : List ℕ) (o : ℕ) (t : Shape) → PathTo s path o t → depth t ≤ depth s
path_depth s [] o t p = let e = ap depth p.1 in omega (arith, e)
path_depth s (i ∷ path) o t p =
    let a = step_depth s i p.1 p.0 p.3 in let b = path_depth p.0 path p.2 t p.4 in omega (arith, a, b)

never_whole : (s : Shape) (i : ℕ) (path : List ℕ) (o : ℕ) (t : Shape) → PathTo s (i ∷ path) o t → s ≡ t → ⊥
never_whole s i path o t p is =
    let a = step_depth s i p.1 p.0 p.3 in let b = path_depth p.0 path p.2 t p.4 in let e = ap depth is in absurd (omega (arith, a, b, e))

-- ---- two steps

step_same : (s : Shape) (i a b : ℕ) (t u : Shape) → Step s i a t → Step s i b u → (a ≡ b) × (t ≡ u)
step_same (number x) i a b t u x1 y1 = absurd x1
step_same reference i a b t u x1 y1 = absurd x1
step_same block i a b t u x1 y1 = absurd x1
step_same (elements s) i a b t u x1 y1 = absurd x1
step_same (resource ss) i a b t u x1 y1 = absurd x1
step_same (row n s) i a b t u x1 y1 = (x1.1 ∙ sym y1.1, sym x1.2 ∙ y1.2)
step_same (parts ss) i a b t u x1 y1 = (x1.1 ∙ sym y1.1, some_same t u (sym x1.0 ∙ y1.0))

fields_between : (ss : Shapes) (i j : ℕ) (t : Shape) → nth_shape ss i ≡ Some t → i < j → shapes_before ss i + shape_bytes t ≤ shapes_before ss j
fields_between no_shapes i j t e lt = absurd (none_some t e)
fields_between (shapes s ss) zero zero t e lt = absurd (omega (arith, lt))
fields_between (shapes s ss) zero (suc j) t e lt = let same = ap shape_bytes (some_same s t e) in omega (arith, same)
fields_between (shapes s ss) (suc i) zero t e lt = absurd (omega (arith, lt))
fields_between (shapes s ss) (suc i) (suc j) t e lt = let h = fields_between ss i j t e (omega (arith, lt)) in omega (arith, h)

step_apart : (s : Shape) (i j a b : ℕ) (t u : Shape) → Step s i a t → Step s j b u → i < j → a + shape_bytes t ≤ b
step_apart (number x) i j a b t u x1 y1 lt = absurd x1
step_apart reference i j a b t u x1 y1 lt = absurd x1
step_apart block i j a b t u x1 y1 lt = absurd x1
step_apart (elements s) i j a b t u x1 y1 lt = absurd x1
step_apart (resource ss) i j a b t u x1 y1 lt = absurd x1
step_apart (row n s) i j a b t u x1 y1 lt =
    let h = rows_within i j (shape_bytes s) lt in
    let e = ap shape_bytes x1.2 in
    let f = x1.1 in
    let g = y1.1 in
    omega (arith, h, e, f, g)
step_apart (parts ss) i j a b t u x1 y1 lt =
    let h = fields_between ss i j t x1.0 lt in let f = x1.1 in let g = y1.1 in omega (arith, h, f, g)

-- ---- two paths

abbrev pub SameOrApart : (a b bytes : ℕ) → Type 0
SameOrApart a b n = (a ≡ b) ⊎ ((a + n ≤ b) ⊎ (b + n ≤ a))

pub paths_apart : (s : Shape) (p q : List ℕ) (a b : ℕ) (t : Shape) → PathTo s p a t → PathTo s q b t → SameOrApart a b (shape_bytes t)
paths_apart s [] [] a b t x y = inl (x.0 ∙ sym y.0)
paths_apart s [] (j ∷ q) a b t x y = absurd (never_whole s j q b t y x.1)
paths_apart s (i ∷ p) [] a b t x y = absurd (never_whole s i p a t x y.1)
paths_apart s (i ∷ p) (j ∷ q) a b t x y = by (cases_order i j) (λ z. paths_apart x.0 p q x.2 y.2 t x.4 z)
  where
    -- in different parts
    before : (i j a first rest b second other : ℕ) (u w : Shape) (p : List ℕ) → Step s i first u → Step s j second w → i < j → PathTo u p rest t
        → a ≡ first + rest → b ≡ second + other → a + shape_bytes t ≤ b
    before i j a first rest b second other u w p x1 y1 lt path e f =
        let h = step_apart s i j first second u w x1 y1 lt in let k = path_within u p rest t path in omega (arith, h, k, e, f)

    by : (i ≡ j) ⊎ ((i < j) ⊎ (j < i)) → (PathTo x.0 q y.2 t → SameOrApart x.2 y.2 (shape_bytes t)) → SameOrApart a b (shape_bytes t)
    by (inl e) again =
        let both = step_same s i x.1 y.1 x.0 y.0 x.3 (subst (λ k. Step s k y.1 y.0) (sym e) y.3) in
        further both.0 (again (subst (λ u. PathTo u q y.2 t) (sym both.1) y.4))
      where
        further : x.1 ≡ y.1 → SameOrApart x.2 y.2 (shape_bytes t) → SameOrApart a b (shape_bytes t)
        further f (inl h) = let g = x.5 in let k = y.5 in inl (omega (arith, f, h, g, k))
        further f (inr (inl h)) = let g = x.5 in let k = y.5 in inr (inl (omega (arith, f, h, g, k)))
        further f (inr (inr h)) = let g = x.5 in let k = y.5 in inr (inr (omega (arith, f, h, g, k)))
    by (inr (inl lt)) again = inr (inl (before i j a x.1 x.2 b y.1 y.2 x.0 y.0 p x.3 y.3 lt x.4 x.5 y.5))
    by (inr (inr lt)) again = inr (inr (before j i b y.1 y.2 a x.1 x.2 y.0 x.0 q y.3 x.3 lt y.4 y.5 x.5))
