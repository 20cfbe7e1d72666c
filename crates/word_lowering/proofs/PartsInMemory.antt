-- Parts of values in memory: where they are, and what it does to put another value there.
use Rattle.std.proofs.Common.{◌≡◌, ℕ, zero, suc, ◌+◌, ◌%◌, ◌<◌, ◌≤◌, inl, inr, List, [], ◌∷◌, refl, sym, ap, subst, ◌∙◌}
use Rattle.std.proofs.Common.{arith}
use Rattle.nim_types.specs.Forms.{or_word}
use Rattle.nim_meaning.specs.Values.{Value, Number, Parts, Handle, Fixed, Ref, Resource, Gone, Vacant, Values, Nil, More, bytes, bytes_all, count, nth_part}
use Rattle.nim_meaning.specs.Values.{parts_of, nth, with_nth}
use Rattle.nim_meaning.specs.Values.{part, put_part}
use Rattle.rv32_isa.specs.declared.micro_op.Size.TheVariants.{Word}
use Rattle.word_code.specs.Memory.{Memory, number_at}
use Rattle.word_code.specs.RoutineTable.{SameWords}
use Rattle.word_code.proofs.ForCallers.{at_same, Apart}
use Rattle.word_lowering.proofs.InMemory.{IsAt, AreAt, OfNumbers, AllOfNumbers, of_numbers, carried, all_carried, bytes_whole, or_word_least}

-- the bytes before a part
abbrev pub before : Values → ℕ → ℕ
before Nil i = 0
before (More v vs) zero = 0
before (More v vs) (suc i) = bytes v + before vs i

-- how many bytes behind the whole the part at a path is
abbrev pub offset : Value → List ℕ → ℕ
offset v [] = 0
offset v (i ∷ path) = before (parts_of v) i + offset (nth_part v i) path

-- each step of a path leads to a part
abbrev pub InPath : Value → List ℕ → Type 0
InPath v [] = Unit {0}
InPath v (i ∷ path) = (i < count (parts_of v)) × InPath (nth_part v i) path

-- ---- a part is inside

pub nth_within : (vs : Values) (i : ℕ) → i < count vs → before vs i + bytes (nth vs i) ≤ bytes_all vs
nth_within Nil i h = absurd (omega arith)
nth_within (More v vs) zero h = omega arith
nth_within (More v vs) (suc i) h = let le = nth_within vs i (omega arith) in omega arith

pub before_whole : (vs : Values) (i : ℕ) → before vs i % 4 ≡ 0
before_whole Nil i = refl
before_whole (More v vs) zero = refl
before_whole (More v vs) (suc i) = let e = bytes_whole v in let f = before_whole vs i in omega arith

nth_numbers : (vs : Values) (i : ℕ) → AllOfNumbers vs → i < count vs → OfNumbers (nth vs i)
nth_numbers Nil i o h = absurd (omega (arith, h))
nth_numbers (More v vs) zero o h = o.0
nth_numbers (More v vs) (suc i) o h = nth_numbers vs i o.1 (omega (arith, h))

pub part_within : (v : Value) (path : List ℕ) → OfNumbers v → InPath v path → offset v path + bytes (part v path) ≤ bytes v
part_within v [] o h = omega arith
part_within (Number z) (i ∷ path) o h = absurd (omega (arith, h.0))
part_within (Parts vs) (i ∷ path) o h =
    let a = nth_within vs i h.0 in
    let b = part_within (nth vs i) path (nth_numbers vs i o h.0) h.1 in
    let c = or_word_least (bytes_all vs) in
    omega (arith, a, b, c)
part_within (Handle n k) (i ∷ path) o h = absurd o
part_within (Fixed t) (i ∷ path) o h = absurd o
part_within (Ref r) (i ∷ path) o h = absurd o
part_within (Resource vs k) (i ∷ path) o h = absurd o
part_within (Gone v f) (i ∷ path) o h = absurd o
part_within Vacant (i ∷ path) o h = absurd o

pub offset_whole : (v : Value) (path : List ℕ) → offset v path % 4 ≡ 0
offset_whole v [] = refl
offset_whole v (i ∷ path) =
    let e = before_whole (parts_of v) i in let f = offset_whole (nth_part v i) path in omega arith

-- ---- where a part is

module _ (m : Memory) where
  moved_to : (a b : ℕ) (v : Value) → a ≡ b → IsAt m a v → IsAt m b v
  moved_to a b v e at = subst (λ x. IsAt m x v) e at

  pub nth_at : (a : ℕ) (vs : Values) (i : ℕ) → i < count vs → AreAt m a vs → IsAt m (a + before vs i) (nth vs i)
  nth_at a Nil i h at = absurd (omega arith)
  nth_at a (More v vs) zero h at = moved_to a (a + 0) v (omega arith) at.0
  nth_at a (More v vs) (suc i) h at =
      moved_to (a + bytes v + before vs i) (a + (bytes v + before vs i)) (nth vs i) (omega arith) (nth_at (a + bytes v) vs i (omega arith) at.1)

  pub part_at : (a : ℕ) (v : Value) (path : List ℕ) → InPath v path → IsAt m a v → IsAt m (a + offset v path) (part v path)
  part_at a v [] h at = moved_to a (a + 0) v (omega arith) at
  part_at a (Number z) (i ∷ path) h at = absurd (omega (arith, h.0))
  part_at a (Parts vs) (i ∷ path) h at =
      moved_to (a + before vs i + offset (nth vs i) path) (a + (before vs i + offset (nth vs i) path)) (part (nth vs i) path) (omega arith)
      (part_at (a + before vs i) (nth vs i) path h.1 (nth_at a vs i h.0 at))
  part_at a (Handle n k) (i ∷ path) h at = absurd at
  part_at a (Fixed t) (i ∷ path) h at = absurd at
  part_at a (Ref r) (i ∷ path) h at = absurd at
  part_at a (Resource vs k) (i ∷ path) h at = absurd at
  part_at a (Gone v f) (i ∷ path) h at = absurd at
  part_at a Vacant (i ∷ path) h at = absurd at

-- ---- another value in place of a part

with_nth_bytes : (vs : Values) (i : ℕ) (new : Value) → bytes new ≡ bytes (nth vs i) → i < count vs → bytes_all (with_nth vs i new) ≡ bytes_all vs
with_nth_bytes Nil i new e h = refl
with_nth_bytes (More v vs) zero new e h = ap (λ n. n + bytes_all vs) e
with_nth_bytes (More v vs) (suc i) new e h = ap (λ n. bytes v + n) (with_nth_bytes vs i new e (omega arith))

pub put_bytes : (v : Value) (path : List ℕ) (new : Value) → OfNumbers v → InPath v path → bytes new ≡ bytes (part v path)
    → bytes (put_part v path new) ≡ bytes v
put_bytes v [] new o h e = e
put_bytes (Number z) (i ∷ path) new o h e = refl
put_bytes (Parts vs) (i ∷ path) new o h e =
    ap or_word (with_nth_bytes vs i (put_part (nth vs i) path new) (put_bytes (nth vs i) path new (nth_numbers vs i o h.0) h.1 e) h.0)
put_bytes (Handle n k) (i ∷ path) new o h e = absurd o
put_bytes (Fixed t) (i ∷ path) new o h e = absurd o
put_bytes (Ref r) (i ∷ path) new o h e = absurd o
put_bytes (Resource vs k) (i ∷ path) new o h e = absurd o
put_bytes (Gone v f) (i ∷ path) new o h e = absurd o
put_bytes Vacant (i ∷ path) new o h e = absurd o

-- the words of a range are as before but for those of another one
abbrev pub SameBut : (m other : Memory) (a bytes at most : ℕ) → Type 0
SameBut m other a n at most =
    (o : ℕ) → o + 4 ≤ n → o % 4 ≡ 0 → Apart (a + o) at most → number_at other (a + o) Word ≡ number_at m (a + o) Word

module _ (m other : Memory) where
  -- a range before or behind the other one
  below : (a n k at most : ℕ) → SameBut m other a (k + n) at most → a + k ≤ at → SameWords m a other a k
  below a n k at most same h o within is = same o (omega arith) is (inl (omega arith))

  behind : (a n k at most : ℕ) → k % 4 ≡ 0 → SameBut m other a (k + n) at most → at + most ≤ a + k → SameWords m (a + k) other (a + k) n
  behind a n k at most whole same h o within is =
      at_same other (a + k + o) (a + (k + o)) (omega arith) ∙ same (k + o) (omega arith) (omega arith) (inr (omega arith)) ∙ at_same m (a + (k + o))
      (a + k + o) (omega arith)

  -- what is behind the first bytes
  later : (a n k at most : ℕ) → k % 4 ≡ 0 → SameBut m other a (k + n) at most → SameBut m other (a + k) n at most
  later a n k at most whole same o within is apart =
      at_same other (a + k + o) (a + (k + o)) (omega arith) ∙ same (k + o) (omega arith) (omega arith) (apart_as apart) ∙ at_same m (a + (k + o))
      (a + k + o) (omega arith)
    where
      apart_as : Apart (a + k + o) at most → Apart (a + (k + o)) at most
      apart_as (inl h) = inl (omega arith)
      apart_as (inr h) = inr (omega arith)

  nth_put : (a : ℕ) (vs : Values) (i : ℕ) (new : Value) → i < count vs → bytes new ≡ bytes (nth vs i) → AreAt m a vs
      → SameBut m other a (bytes_all vs) (a + before vs i) (bytes (nth vs i)) → IsAt other (a + before vs i) new
      → AreAt other a (with_nth vs i new)
  nth_put a Nil i new h e at same there = absurd (omega arith)
  nth_put a (More v vs) zero new h e at same there = (
    subst (λ x. IsAt other x new) (omega arith) there,
    subst (λ x. AreAt other (a + x) vs) (sym e)
        (all_carried m other (a + bytes v) (a + bytes v) vs
        (behind a (bytes_all vs) (bytes v) (a + 0) (bytes v) (bytes_whole v) same (omega arith)) at.1),
  )
  nth_put a (More v vs) (suc i) new h e at same there = (
    carried m other a a v (below a (bytes_all vs) (bytes v) (a + (bytes v + before vs i)) (bytes (nth vs i)) same (omega arith)) at.0,
    nth_put (a + bytes v) vs i new (omega arith) e at.1
        (subst (λ x. SameBut m other (a + bytes v) (bytes_all vs) x (bytes (nth vs i))) (omega arith)
        (later a (bytes_all vs) (bytes v) (a + (bytes v + before vs i)) (bytes (nth vs i)) (bytes_whole v) same))
        (subst (λ x. IsAt other x new) (omega arith) there),
  )

  -- less is as before inside of less
  inner : (a n at most k bytes : ℕ) → k % 4 ≡ 0 → k + bytes ≤ n → SameBut m other a n at most → SameBut m other (a + k) bytes at most
  inner a n at most k bytes whole le same o within is apart =
      at_same other (a + k + o) (a + (k + o)) (omega arith) ∙ same (k + o) (omega arith) (omega arith) (apart_as apart) ∙ at_same m (a + (k + o))
      (a + k + o) (omega arith)
    where
      apart_as : Apart (a + k + o) at most → Apart (a + (k + o)) at most
      apart_as (inl h) = inl (omega arith)
      apart_as (inr h) = inr (omega arith)

  -- what is apart from a range is apart from one inside it
  wider : (a n at most at' most' : ℕ) → at' ≤ at → at + most ≤ at' + most' → SameBut m other a n at most → SameBut m other a n at' most'
  wider a n at most at' most' low high same o within is apart = same o within is (narrower apart)
    where
      narrower : Apart (a + o) at' most' → Apart (a + o) at most
      narrower (inl h) = inl (omega arith)
      narrower (inr h) = inr (omega arith)

  -- a value with another part, which is where the old one was
  pub put_at : (a : ℕ) (v : Value) (path : List ℕ) (new : Value) → InPath v path → bytes new ≡ bytes (part v path) → IsAt m a v
      → SameBut m other a (bytes v) (a + offset v path) (bytes new) → IsAt other (a + offset v path) new → IsAt other a (put_part v path new)
  put_at a v [] new h e at same there = subst (λ x. IsAt other x new) (omega arith) there
  put_at a (Number z) (i ∷ path) new h e at same there = absurd (omega (arith, h.0))
  put_at a (Parts vs) (i ∷ path) new h e at same there =
      let sub : Value = nth vs i in
      let k : ℕ = before vs i in
      let whole : k % 4 ≡ 0 = before_whole vs i in
      let all : bytes_all vs ≤ bytes (Parts vs) = or_word_least (bytes_all vs) in
      let le : k + bytes sub ≤ bytes_all vs = nth_within vs i h.0 in
      let numbers : OfNumbers sub = of_numbers m (a + k) sub (nth_at m a vs i h.0 at) in
      let inside : offset sub path + bytes (part sub path) ≤ bytes sub = part_within sub path numbers h.1 in
      let here : SameBut m other (a + k) (bytes sub) (a + k + offset sub path) (bytes new)
      = subst (λ x. SameBut m other (a + k) (bytes sub) x (bytes new)) (omega arith)
      (inner a (bytes (Parts vs)) (a + (k + offset sub path)) (bytes new) k (bytes sub) whole (omega arith) same) in
      let made : IsAt other (a + k) (put_part sub path new)
      = put_at (a + k) sub path new h.1 e (nth_at m a vs i h.0 at) here (subst (λ x. IsAt other x new) (omega arith) there) in
      nth_put a vs i (put_part sub path new) h.0 (put_bytes sub path new numbers h.1 e) at
      (wider a (bytes_all vs) (a + (k + offset sub path)) (bytes new) (a + k) (bytes sub) (omega arith) (omega arith)
      (λ o within is apart. same o (omega (arith, all, within)) is apart))
      made
  put_at a (Handle n k) (i ∷ path) new h e at same there = absurd at
  put_at a (Fixed t) (i ∷ path) new h e at same there = absurd at
  put_at a (Ref r) (i ∷ path) new h e at same there = absurd at
  put_at a (Resource vs k) (i ∷ path) new h e at same there = absurd at
  put_at a (Gone v f) (i ∷ path) new h e at same there = absurd at
  put_at a Vacant (i ∷ path) new h e at same there = absurd at
