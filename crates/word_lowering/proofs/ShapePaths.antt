-- Paths in shapes: where they lead in each value of the shape.
use Rattle.std.proofs.Common.{◌≡◌, ℕ, zero, suc, ◌+◌, ◌*◌, ◌<◌, List, [], ◌∷◌, ◌++◌, Some, true, ◌≤◌, refl, sym, ap, ap₂}
use Rattle.std.proofs.Common.{subst, ◌∙◌, arith, mul-suc, mul_comm, mul-le-mul, le_refl}
use Rattle.std.proofs.lemmas.Bool.{and_parts, and_from}
use Rattle.nim_types.specs.Forms.{or_word}
use Rattle.nim_meaning.specs.Values.{Value, Number, Parts, Handle, Fixed, Ref, Resource, Gone, Vacant, Values, Nil, More, bytes, count, parts_of, nth, nth_part}
use Rattle.nim_meaning.specs.Values.{with_nth, with_part, part, put_part}
use Rattle.flat_code.specs.Shapes.{Shape, number, reference, block, elements, row, parts, resource, Shapes, no_shapes, shapes, has_shape, are_rows}
use Rattle.flat_code.specs.Shapes.{have_shapes}
use Rattle.word_lowering.proofs.ShapeFacts.{never, nth_shape, shape_bytes, shapes_bytes, of_numbers, all_of_numbers, row_numbers, bytes_is}
use Rattle.word_lowering.proofs.Options.{none_some, some_same}
use Rattle.word_lowering.proofs.InMemory.{or_word_least}
use Rattle.word_lowering.proofs.PartsInMemory.{before, offset, InPath}

-- the bytes before a part
abbrev pub shapes_before : Shapes → ℕ → ℕ
shapes_before no_shapes i = 0
shapes_before (shapes s ss) zero = 0
shapes_before (shapes s ss) (suc i) = shape_bytes s + shapes_before ss i

-- from a shape to that of a part, so many bytes further
abbrev pub Step : Shape → ℕ → ℕ → Shape → Type 0
Step (row n s) i o t = (i < n) × (o ≡ i * shape_bytes s) × (s ≡ t)
Step (parts ss) i o t = (nth_shape ss i ≡ Some t) × (o ≡ shapes_before ss i)
Step s i o t = ⊥

-- down a path
abbrev pub PathTo : Shape → List ℕ → ℕ → Shape → Type 0
PathTo s [] o t = (o ≡ 0) × (s ≡ t)
PathTo s (i ∷ path) o t = (middle : Shape) × (first rest : ℕ) × Step s i first middle × PathTo middle path rest t × (o ≡ first + rest)

-- a part is of numbers, too
nth_numbers : (ss : Shapes) (i : ℕ) (t : Shape) → all_of_numbers ss ≡ true → nth_shape ss i ≡ Some t → of_numbers t ≡ true
nth_numbers no_shapes i t o e = absurd (none_some t e)
nth_numbers (shapes s ss) zero t o e =
    subst (λ x. of_numbers x ≡ true) (some_same s t e) (and_parts (of_numbers s) (all_of_numbers ss) o).0
nth_numbers (shapes s ss) (suc i) t o e = nth_numbers ss i t (and_parts (of_numbers s) (all_of_numbers ss) o).1 e

pub step_numbers : (s : Shape) (i o : ℕ) (t : Shape) → of_numbers s ≡ true → Step s i o t → of_numbers t ≡ true
step_numbers (number x) i o t n st = absurd st
step_numbers reference i o t n st = absurd st
step_numbers block i o t n st = absurd st
step_numbers (elements s) i o t n st = absurd st
step_numbers (resource ss) i o t n st = absurd st
step_numbers (row m s) i o t n st = subst (λ x. of_numbers x ≡ true) st.2 (row_numbers m i s st.0 n)
step_numbers (parts ss) i o t n st = nth_numbers ss i t n st.0

pub path_numbers : (s : Shape) (path : List ℕ) (o : ℕ) (t : Shape) → of_numbers s ≡ true → PathTo s path o t → of_numbers t ≡ true
path_numbers s [] o t n p = subst (λ x. of_numbers x ≡ true) p.1 n
path_numbers s (i ∷ path) o t n p = path_numbers p.0 path p.2 t (step_numbers s i p.1 p.0 n p.3) p.4

-- ---- of each value

row_part : (vs : Values) (n : ℕ) (s : Shape) (i : ℕ) → of_numbers s ≡ true → are_rows vs n s ≡ true → i < n
    → (i < count vs) × (before vs i ≡ i * shape_bytes s) × (has_shape (nth vs i) s ≡ true)
row_part Nil zero s i o h lt = absurd (omega (arith, lt))
row_part Nil (suc n) s i o h lt = never h
row_part (More v vs) zero s i o h lt = absurd (omega (arith, lt))
row_part (More v vs) (suc n) s zero o h lt = (omega arith, omega arith, (and_parts _ _ h).0)
row_part (More v vs) (suc n) s (suc i) o h lt =
    let p = and_parts (has_shape v s) (are_rows vs n s) h in
    let r = row_part vs n s i o p.1 (omega (arith, lt)) in
    let b : ℕ = shape_bytes s in
    let e : bytes v ≡ b = bytes_is v s o p.0 in
    let f : before vs i ≡ i * b = r.1 in
    let more : suc i * b ≡ b * i + b = mul_comm (suc i) b ∙ mul-suc b i in
    let turned : i * b ≡ b * i = mul_comm i b in
    (omega (arith, r.0), omega (arith, e, f, more, turned), r.2)

field_part : (vs : Values) (ss : Shapes) (i : ℕ) (t : Shape) → all_of_numbers ss ≡ true → have_shapes vs ss ≡ true → nth_shape ss i ≡ Some t
    → (i < count vs) × (before vs i ≡ shapes_before ss i) × (has_shape (nth vs i) t ≡ true)
field_part vs no_shapes i t o h e = absurd (none_some t e)
field_part Nil (shapes s ss) i t o h e = never h
field_part (More v vs) (shapes s ss) zero t o h e =
    (omega arith, refl, subst (λ x. has_shape v x ≡ true) (some_same s t e) (and_parts _ _ h).0)
field_part (More v vs) (shapes s ss) (suc i) t o h e =
    let p = and_parts _ _ h in
    let q = and_parts (of_numbers s) (all_of_numbers ss) o in
    let r = field_part vs ss i t q.1 p.1 e in
    (omega (arith, r.0), ap₂ (λ x y. x + y) (bytes_is v s q.0 p.0) r.1, r.2)

-- ---- a value of an array or of parts has such parts

pub record IsParts (v : Value) : Type 0 where
  pub all : Values
  pub is : v ≡ Parts all

row_value : (v : Value) (n : ℕ) (s : Shape) → has_shape v (row n s) ≡ true → IsParts v
row_value (Parts vs) n s h = record { all = vs; is = refl }
row_value (Number z) n s h = never h
row_value (Handle m k) n s h = never h
row_value (Fixed t) n s h = never h
row_value (Ref r) n s h = never h
row_value (Resource vs i) n s h = never h
row_value (Gone v f) n s h = never h
row_value Vacant n s h = never h

parts_value : (v : Value) (ss : Shapes) → has_shape v (parts ss) ≡ true → IsParts v
parts_value (Parts vs) ss h = record { all = vs; is = refl }
parts_value (Number z) ss h = never h
parts_value (Handle m k) ss h = never h
parts_value (Fixed t) ss h = never h
parts_value (Ref r) ss h = never h
parts_value (Resource vs i) ss h = never h
parts_value (Gone v f) ss h = never h
parts_value Vacant ss h = never h

step_in : (v : Value) (s : Shape) (i o : ℕ) (t : Shape) → of_numbers s ≡ true → has_shape v s ≡ true → Step s i o t
    → (i < count (parts_of v)) × (before (parts_of v) i ≡ o) × (has_shape (nth_part v i) t ≡ true)
step_in v (number x) i o t n h st = absurd st
step_in v reference i o t n h st = absurd st
step_in v block i o t n h st = absurd st
step_in v (elements s) i o t n h st = absurd st
step_in v (resource ss) i o t n h st = absurd st
step_in v (row m s) i o t n h st = by (row_value v m s h)
  where
    by : IsParts v → (i < count (parts_of v)) × (before (parts_of v) i ≡ o) × (has_shape (nth_part v i) t ≡ true)
    by p =
        let r = row_part p.all m s i (row_numbers m i s st.0 n) (subst (λ x. has_shape x (row m s) ≡ true) p.is h) st.0 in
        subst (λ x. (i < count (parts_of x)) × (before (parts_of x) i ≡ o) × (has_shape (nth_part x i) t ≡ true)) (sym p.is)
        (r.0, r.1 ∙ sym st.1, subst (λ x. has_shape (nth p.all i) x ≡ true) st.2 r.2)
step_in v (parts ss) i o t n h st = by (parts_value v ss h)
  where
    by : IsParts v → (i < count (parts_of v)) × (before (parts_of v) i ≡ o) × (has_shape (nth_part v i) t ≡ true)
    by p =
        let r = field_part p.all ss i t n (subst (λ x. has_shape x (parts ss) ≡ true) p.is h) st.0 in
        subst (λ x. (i < count (parts_of x)) × (before (parts_of x) i ≡ o) × (has_shape (nth_part x i) t ≡ true)) (sym p.is)
        (r.0, r.1 ∙ sym st.1, r.2)

pub path_in : (v : Value) (s : Shape) (path : List ℕ) (o : ℕ) (t : Shape) → of_numbers s ≡ true → has_shape v s ≡ true → PathTo s path o t
    → InPath v path × (offset v path ≡ o) × (has_shape (part v path) t ≡ true)
path_in v s [] o t n h p = (tt, sym p.0, subst (λ x. has_shape v x ≡ true) p.1 h)
path_in v s (i ∷ path) o t n h p =
    let a = step_in v s i p.1 p.0 n h p.3 in
    let b = path_in (nth_part v i) p.0 path p.2 t (step_numbers s i p.1 p.0 n p.3) a.2 p.4 in
    ((a.0, b.0), ap₂ (λ x y. x + y) a.1 b.1 ∙ sym p.5, b.2)

-- a step further
pub path_on : (s : Shape) (path : List ℕ) (o : ℕ) (t : Shape) (i k : ℕ) (u : Shape) → PathTo s path o t → Step t i k u
    → PathTo s (path ++ i ∷ []) (o + k) u
path_on s [] o t i k u p st = (u, k, 0, subst (λ x. Step x i k u) (sym p.1) st, (refl, refl), omega (arith, p.0))
path_on s (j ∷ path) o t i k u p st = (p.0, p.1, p.2 + k, p.3, path_on p.0 path p.2 t i k u p.4 st, omega (arith, p.5))

-- ---- with another part

row_put : (vs : Values) (n : ℕ) (s : Shape) (i : ℕ) (new : Value) → are_rows vs n s ≡ true → has_shape new s ≡ true
    → are_rows (with_nth vs i new) n s ≡ true
row_put Nil n s i new h g = h
row_put (More v vs) zero s i new h g = never h
row_put (More v vs) (suc n) s zero new h g = and_from _ _ g (and_parts _ _ h).1
row_put (More v vs) (suc n) s (suc i) new h g = let p = and_parts _ _ h in and_from _ _ p.0 (row_put vs n s i new p.1 g)

field_put : (vs : Values) (ss : Shapes) (i : ℕ) (t : Shape) (new : Value) → have_shapes vs ss ≡ true → nth_shape ss i ≡ Some t
    → has_shape new t ≡ true → have_shapes (with_nth vs i new) ss ≡ true
field_put Nil ss i t new h e g = h
field_put (More v vs) no_shapes i t new h e g = never h
field_put (More v vs) (shapes s ss) zero t new h e g =
    and_from _ _ (subst (λ x. has_shape new x ≡ true) (sym (some_same s t e)) g) (and_parts _ _ h).1
field_put (More v vs) (shapes s ss) (suc i) t new h e g =
    let p = and_parts _ _ h in and_from _ _ p.0 (field_put vs ss i t new p.1 e g)

step_put : (v : Value) (s : Shape) (i o : ℕ) (t : Shape) (new : Value) → has_shape v s ≡ true → Step s i o t → has_shape new t ≡ true
    → has_shape (with_part v i new) s ≡ true
step_put v (number x) i o t new h st g = absurd st
step_put v reference i o t new h st g = absurd st
step_put v block i o t new h st g = absurd st
step_put v (elements s) i o t new h st g = absurd st
step_put v (resource ss) i o t new h st g = absurd st
step_put v (row n s) i o t new h st g = by (row_value v n s h)
  where
    by : IsParts v → has_shape (with_part v i new) (row n s) ≡ true
    by p = subst (λ x. has_shape (with_part x i new) (row n s) ≡ true) (sym p.is)
        (row_put p.all n s i new (subst (λ x. has_shape x (row n s) ≡ true) p.is h) (subst (λ x. has_shape new x ≡ true) (sym st.2) g))
step_put v (parts ss) i o t new h st g = by (parts_value v ss h)
  where
    by : IsParts v → has_shape (with_part v i new) (parts ss) ≡ true
    by p = subst (λ x. has_shape (with_part x i new) (parts ss) ≡ true) (sym p.is)
        (field_put p.all ss i t new (subst (λ x. has_shape x (parts ss) ≡ true) p.is h) st.0 g)

pub path_put : (v : Value) (s : Shape) (path : List ℕ) (o : ℕ) (t : Shape) (new : Value) → of_numbers s ≡ true → has_shape v s ≡ true → PathTo s path o t
    → has_shape new t ≡ true → has_shape (put_part v path new) s ≡ true
path_put v s [] o t new n h p g = subst (λ x. has_shape new x ≡ true) (sym p.1) g
path_put v s (i ∷ path) o t new n h p g =
    let a = step_in v s i p.1 p.0 n h p.3 in
    step_put v s i p.1 p.0 (put_part (nth_part v i) path new) h p.3
    (path_put (nth_part v i) p.0 path p.2 t new (step_numbers s i p.1 p.0 n p.3) a.2 p.4 g)

-- ---- parts of a shape are inside of it

pub rows_within : (i n b : ℕ) → i < n → i * b + b ≤ n * b
rows_within i n b lt =
    let h : suc i * b ≤ n * b = mul-le-mul lt (le_refl b) in
    let more : suc i * b ≡ b * i + b = mul_comm (suc i) b ∙ mul-suc b i in
    let turned : i * b ≡ b * i = mul_comm i b in
    omega (arith, h, more, turned)

fields_within : (ss : Shapes) (i : ℕ) (t : Shape) → nth_shape ss i ≡ Some t → shapes_before ss i + shape_bytes t ≤ shapes_bytes ss
fields_within no_shapes i t e = absurd (none_some t e)
fields_within (shapes s ss) zero t e = let same = ap shape_bytes (some_same s t e) in omega (arith, same)
fields_within (shapes s ss) (suc i) t e = let h = fields_within ss i t e in omega (arith, h)

pub step_within : (s : Shape) (i o : ℕ) (t : Shape) → Step s i o t → o + shape_bytes t ≤ shape_bytes s
step_within (number x) i o t st = absurd st
step_within reference i o t st = absurd st
step_within block i o t st = absurd st
step_within (elements s) i o t st = absurd st
step_within (resource ss) i o t st = absurd st
step_within (row n s) i o t st =
    let h = rows_within i n (shape_bytes s) st.0 in
    let e = ap shape_bytes st.2 in
    let w = or_word_least (n * shape_bytes s) in
    let f = st.1 in
    omega (arith, h, e, w, f)
step_within (parts ss) i o t st =
    let h = fields_within ss i t st.0 in let w = or_word_least (shapes_bytes ss) in let f = st.1 in omega (arith, h, w, f)

pub path_within : (s : Shape) (path : List ℕ) (o : ℕ) (t : Shape) → PathTo s path o t → o + shape_bytes t ≤ shape_bytes s
path_within s [] o t p = let e = ap shape_bytes p.1 in let f = p.0 in omega (arith, e, f)
path_within s (i ∷ path) o t p =
    let a = step_within s i p.1 p.0 p.3 in let b = path_within p.0 path p.2 t p.4 in let f = p.5 in omega (arith, a, b, f)

row_some : (n b : ℕ) → 4 ≤ b → 4 ≤ or_word (n * b)
row_some zero b h = by (0 * b) (omega arith)
  where
    by : (m : ℕ) → m ≡ 0 → 4 ≤ or_word m
    by zero e = omega arith
    by (suc m) e = absurd (omega (arith, e))
row_some (suc n) b h =
    let w = or_word_least (suc n * b) in let r = rows_within 0 (suc n) b (omega arith) in omega (arith, h, w, r)

mutual
  -- each value has a word at least
  pub shape_some : (s : Shape) → 4 ≤ shape_bytes s
  shape_some (number x) = omega arith
  shape_some reference = omega arith
  shape_some block = omega arith
  shape_some (elements s) = omega arith
  shape_some (row n s) = row_some n (shape_bytes s) (shape_some s)
  shape_some (parts ss) = parts_some ss
  shape_some (resource ss) = parts_some ss

  parts_some : (ss : Shapes) → 4 ≤ or_word (shapes_bytes ss)
  parts_some no_shapes = omega arith
  parts_some (shapes s ss) = let h = shape_some s in let w = or_word_least (shape_bytes s + shapes_bytes ss) in omega (arith, h, w)
