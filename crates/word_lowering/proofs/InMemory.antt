-- Values in memory: each ordinal is a word, and parts stand one behind the other. Other values don't stand in memory.
use Rattle.std.proofs.Common.{◌≡◌, ℕ, zero, suc, ◌+◌, ◌%◌, ◌≤◌, false, Ok, refl, sym, ap, ◌∙◌, arith, pos, ◌^◌, ◌<◌}
use Rattle.std.proofs.lemmas.Bool.{or_parts, true≢false}
use Rattle.nim_types.specs.Forms.{Form, plain, reference, block, elements, row, parts, resource, wrapped, Forms, no_forms, forms, or_word, hooked, hooked_any}
use Rattle.nim_meaning.specs.Values.{Value, Number, Parts, Handle, Fixed, Ref, Resource, Gone, Vacant, Values, Nil, More, bytes, bytes_all, blank, blanks}
use Rattle.nim_meaning.specs.Values.{number_of, repeated}
use Rattle.rv32_isa.specs.declared.micro_op.Size.TheVariants.{Byte, Word}
use Rattle.word_code.specs.Memory.{Memory, number_at}
use Rattle.word_code.specs.RoutineTable.{SameWords, ZeroWords, low, LowWords}
use Rattle.word_code.proofs.ForCallers.{at_same}
use Rattle.word_lowering.specs.Operations.{word}

abbrev mutual
  -- a value is at an address
  pub IsAt : Memory → ℕ → Value → Type 0
  IsAt m a (Number z) = number_at m a Word ≡ Ok (word z)
  IsAt m a (Parts vs) = AreAt m a vs
  IsAt m a v = ⊥

  pub AreAt : Memory → ℕ → Values → Type 0
  AreAt m a Nil = Unit {0}
  AreAt m a (More v vs) = IsAt m a v × AreAt m (a + bytes v) vs

-- one that is a character, by its byte
abbrev pub IsByteAt : Memory → ℕ → Value → Type 0
IsByteAt m a v = number_at m a Byte ≡ Ok (word (number_of v))

-- values that are made of numbers alone
abbrev mutual
  pub OfNumbers : Value → Type 0
  OfNumbers (Number z) = Unit {0}
  OfNumbers (Parts vs) = AllOfNumbers vs
  OfNumbers v = ⊥

  pub AllOfNumbers : Values → Type 0
  AllOfNumbers Nil = Unit {0}
  AllOfNumbers (More v vs) = OfNumbers v × AllOfNumbers vs

mutual
  -- what stands in memory is
  pub of_numbers : (m : Memory) (a : ℕ) (v : Value) → IsAt m a v → OfNumbers v
  of_numbers m a (Number z) at = tt
  of_numbers m a (Parts vs) at = all_of_numbers m a vs at
  of_numbers m a (Handle n k) at = absurd at
  of_numbers m a (Fixed t) at = absurd at
  of_numbers m a (Ref o) at = absurd at
  of_numbers m a (Resource vs i) at = absurd at
  of_numbers m a (Gone v f) at = absurd at
  of_numbers m a Vacant at = absurd at

  pub all_of_numbers : (m : Memory) (a : ℕ) (vs : Values) → AreAt m a vs → AllOfNumbers vs
  all_of_numbers m a Nil at = tt
  all_of_numbers m a (More v vs) at = (of_numbers m a v at.0, all_of_numbers m (a + bytes v) vs at.1)

-- ---- bytes are whole words, and there are some

or_word_whole : (n : ℕ) → n % 4 ≡ 0 → or_word n % 4 ≡ 0
or_word_whole zero e = refl
or_word_whole (suc n) e = e

pub or_word_some : (n : ℕ) → n % 4 ≡ 0 → 4 ≤ or_word n
or_word_some zero e = omega arith
or_word_some (suc n) e = omega arith

pub or_word_is : (n : ℕ) → 4 ≤ n → or_word n ≡ n
or_word_is zero h = absurd (omega arith)
or_word_is (suc n) h = refl

pub or_word_least : (n : ℕ) → n ≤ or_word n
or_word_least zero = omega arith
or_word_least (suc n) = omega arith

mutual
  pub bytes_whole : (v : Value) → bytes v % 4 ≡ 0
  bytes_whole (Number z) = refl
  bytes_whole (Parts vs) = or_word_whole (bytes_all vs) (all_whole vs)
  bytes_whole (Handle n k) = refl
  bytes_whole (Fixed t) = refl
  bytes_whole (Ref o) = refl
  bytes_whole (Resource vs i) = or_word_whole (bytes_all vs) (all_whole vs)
  bytes_whole (Gone v f) = bytes_whole v
  bytes_whole Vacant = refl

  pub all_whole : (vs : Values) → bytes_all vs % 4 ≡ 0
  all_whole Nil = refl
  all_whole (More v vs) = let e = bytes_whole v in let f = all_whole vs in omega arith

pub bytes_some : (v : Value) → OfNumbers v → 4 ≤ bytes v
bytes_some (Number z) o = omega arith
bytes_some (Parts vs) o = or_word_some (bytes_all vs) (all_whole vs)
bytes_some (Handle n k) o = absurd o
bytes_some (Fixed t) o = absurd o
bytes_some (Ref r) o = absurd o
bytes_some (Resource vs i) o = absurd o
bytes_some (Gone v f) o = absurd o
bytes_some Vacant o = absurd o

-- what has parts, or may have, has some
pub parts_some : (vs : Values) → 4 ≤ bytes (Parts vs)
parts_some vs = or_word_some (bytes_all vs) (all_whole vs)

-- the bytes of a value with parts are those of its parts
pub parts_bytes : (v : Value) (vs : Values) → OfNumbers v → bytes (Parts (More v vs)) ≡ bytes v + bytes_all vs
parts_bytes v vs o = or_word_is (bytes v + bytes_all vs) (let h = bytes_some v o in omega arith)

-- ---- the same words somewhere else

-- values whose numbers are words
abbrev mutual
  pub HasWords : Value → Type 0
  HasWords (Number z) = word z < 2 ^ 32
  HasWords (Parts vs) = HaveWords vs
  HasWords v = Unit {0}

  pub HaveWords : Values → Type 0
  HaveWords Nil = Unit {0}
  HaveWords (More v vs) = HasWords v × HaveWords vs

module _ (m other : Memory) where
  -- words that are read in one range are read in the other one
  abbrev pub Carries : (a b bytes : ℕ) → Type 0
  Carries a b bytes = (o w : ℕ) → o + 4 ≤ bytes → o % 4 ≡ 0 → number_at m (a + o) Word ≡ Ok w → number_at other (b + o) Word ≡ Ok w

  further : (a b n k : ℕ) → k % 4 ≡ 0 → Carries a b (k + n) → Carries (a + k) (b + k) n
  further a b n k whole same o w within is reads =
      at_same other (b + k + o) (b + (k + o)) (omega arith)
      ∙ same (k + o) w (omega arith) (omega arith) (at_same m (a + (k + o)) (a + k + o) (omega arith) ∙ reads)

  fewer : (a b n k : ℕ) → Carries a b (k + n) → Carries a b k
  fewer a b n k same o w within is reads = same o w (omega arith) is reads

  mutual
    pub carries : (a b : ℕ) (v : Value) → Carries a b (bytes v) → IsAt m a v → IsAt other b v
    carries a b (Number z) same at =
        at_same other b (b + 0) (omega arith) ∙ same 0 (word z) (omega arith) refl (at_same m (a + 0) a (omega arith) ∙ at)
    carries a b (Parts vs) same at =
        let h = or_word_least (bytes_all vs) in all_carry a b vs (λ o w within is. same o w (omega (arith, h, within)) is) at
    carries a b (Handle n k) same at = absurd at
    carries a b (Fixed t) same at = absurd at
    carries a b (Ref o) same at = absurd at
    carries a b (Resource vs i) same at = absurd at
    carries a b (Gone v f) same at = absurd at
    carries a b Vacant same at = absurd at

    all_carry : (a b : ℕ) (vs : Values) → Carries a b (bytes_all vs) → AreAt m a vs → AreAt other b vs
    all_carry a b Nil same at = tt
    all_carry a b (More v vs) same at = (
      carries a b v (fewer a b (bytes_all vs) (bytes v) same) at.0,
      all_carry (a + bytes v) (b + bytes v) vs (further a b (bytes_all vs) (bytes v) (bytes_whole v) same) at.1,
    )

  pub carried : (a b : ℕ) (v : Value) → SameWords m a other b (bytes v) → IsAt m a v → IsAt other b v
  carried a b v same at = carries a b v (λ o w within is reads. same o within is ∙ reads) at

  pub all_carried : (a b : ℕ) (vs : Values) → SameWords m a other b (bytes_all vs) → AreAt m a vs → AreAt other b vs
  all_carried a b vs same at = all_carry a b vs (λ o w within is reads. same o within is ∙ reads) at

  -- ---- words that were copied

  low_further : (a b n k : ℕ) → k % 4 ≡ 0 → LowWords m a other b (k + n) → LowWords m (a + k) other (b + k) n
  low_further a b n k whole same o within is =
      at_same other (b + k + o) (b + (k + o)) (omega arith)
      ∙ same (k + o) (omega arith) (omega arith) ∙ ap low (at_same m (a + (k + o)) (a + k + o) (omega arith))

  mutual
    pub copied_there : (a b : ℕ) (v : Value) → HasWords v → LowWords m a other b (bytes v) → IsAt m a v → IsAt other b v
    copied_there a b (Number z) small same at =
        let e : word z % 2 ^ 32 ≡ word z = omega (arith, small) in
        at_same other b (b + 0) (omega arith) ∙ same 0 (omega arith) refl ∙ ap low (at_same m (a + 0) a (omega arith) ∙ at) ∙ ap Ok e
    copied_there a b (Parts vs) small same at =
        let h = or_word_least (bytes_all vs) in all_copied a b vs small (λ o within is. same o (omega (arith, h, within)) is) at
    copied_there a b (Handle n k) small same at = absurd at
    copied_there a b (Fixed t) small same at = absurd at
    copied_there a b (Ref o) small same at = absurd at
    copied_there a b (Resource vs i) small same at = absurd at
    copied_there a b (Gone v f) small same at = absurd at
    copied_there a b Vacant small same at = absurd at

    all_copied : (a b : ℕ) (vs : Values) → HaveWords vs → LowWords m a other b (bytes_all vs) → AreAt m a vs → AreAt other b vs
    all_copied a b Nil small same at = tt
    all_copied a b (More v vs) small same at = (
      copied_there a b v small.0 (λ o within is. same o (omega (arith, within)) is) at.0,
      all_copied (a + bytes v) (b + bytes v) vs small.1 (low_further a b (bytes_all vs) (bytes v) (bytes_whole v) same) at.1,
    )

-- ---- values whose words are all 0

abbrev mutual
  pub AllZero : Value → Type 0
  AllZero (Number z) = z ≡ pos 0
  AllZero (Parts vs) = AreZero vs
  AllZero v = ⊥

  pub AreZero : Values → Type 0
  AreZero Nil = Unit {0}
  AreZero (More v vs) = AllZero v × AreZero vs

repeated_zero : (n : ℕ) (v : Value) → AllZero v → AreZero (repeated n v)
repeated_zero zero v z = tt
repeated_zero (suc n) v z = (z, repeated_zero n v z)

mutual
  -- what a place of a type without hooks starts at is zeros
  pub blank_zero : (f : Form) → hooked f ≡ false → AllZero (blank f)
  blank_zero plain h = refl
  blank_zero reference h = absurd (true≢false h)
  blank_zero block h = absurd (true≢false h)
  blank_zero (elements f) h = absurd (true≢false h)
  blank_zero (row zero f) h = tt
  blank_zero (row (suc n) f) h = repeated_zero (suc n) (blank f) (blank_zero f h)
  blank_zero (parts fs) h = blanks_zero fs h
  blank_zero (resource fs) h = absurd (true≢false h)
  blank_zero (wrapped f) h = blank_zero f h

  blanks_zero : (fs : Forms) → hooked_any fs ≡ false → AreZero (blanks fs)
  blanks_zero no_forms h = tt
  blanks_zero (forms f fs) h = let p = or_parts (hooked f) (hooked_any fs) h in (blank_zero f p.0, blanks_zero fs p.1)

mutual
  pub zero_at : (m : Memory) (a : ℕ) (v : Value) → AllZero v → ZeroWords m a (bytes v) → IsAt m a v
  zero_at m a (Number z) e zeros =
      at_same m a (a + 0) (omega arith) ∙ zeros 0 (omega arith) refl ∙ ap (λ y. Ok (word y)) (sym e)
  zero_at m a (Parts vs) e zeros =
      let h = or_word_least (bytes_all vs) in zeros_at m a vs e (λ o within is. zeros o (omega (arith, h, within)) is)
  zero_at m a (Handle n k) e zeros = absurd e
  zero_at m a (Fixed t) e zeros = absurd e
  zero_at m a (Ref o) e zeros = absurd e
  zero_at m a (Resource vs i) e zeros = absurd e
  zero_at m a (Gone v f) e zeros = absurd e
  zero_at m a Vacant e zeros = absurd e

  zeros_at : (m : Memory) (a : ℕ) (vs : Values) → AreZero vs → ZeroWords m a (bytes_all vs) → AreAt m a vs
  zeros_at m a Nil e zeros = tt
  zeros_at m a (More v vs) e zeros = (
    zero_at m a v e.0 (λ o within is. zeros o (omega arith) is),
    zeros_at m (a + bytes v) vs e.1
        (λ o within is. at_same m (a + bytes v + o) (a + (bytes v + o)) (omega arith) ∙ zeros (bytes v + o) (omega arith) (omega (arith, bytes_whole v))),
  )
