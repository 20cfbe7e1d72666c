-- What may become another value, also a character of a text: what is put there, and what stays beside it.
use Rattle.std.proofs.Common.{◌≡◌, refl, sym, ap, subst, arith, ℕ, zero, suc, ◌<◌, true, List, [], ◌∷◌, length}
use Rattle.std.specs.Prelude.{ℤ, pos, slice_set}
use Rattle.std.proofs.lemmas.Bool.{false≢true}
use Rattle.nim_types.specs.Forms.{Form, plain, wrapped, hooked}
use Rattle.nim_program.specs.Ints.{low_byte}
use Rattle.nim_meaning.specs.Values.{Value, Number, Fixed, nth, characters, number_of, part, put_part, Base, Location}
use Rattle.nim_meaning.specs.State.{World, whole_at, store, stored}
use Rattle.holders.specs.Owned.{IsBase, HasPart, whole, Extent, Full, Has, a_number, no_text, a_text, no_sequence, a_sequence, a_row, some_parts, of_wrapped}
use Rattle.holders.specs.Owned.{Cell, MayBecome, in_rows, a_letter, Lies, Keeps}
use Rattle.holders.specs.Beside.{PartWays, here_apart, further_on}
use Rattle.holders.proofs.Bases.{whole_is, stored_there, stored_elsewhere}
use Rattle.holders.proofs.Staying.{set_length}
use Rattle.holders.proofs.PathLemmas.{part_of_put, put_twice, has_put, part_beside, has_beside}

-- ---- the characters of a text

character_set : (t : List ℕ) (i c : ℕ) → i < length t → nth (characters (slice_set t i c)) i ≡ Number (pos c)
character_set [] i c less = absurd (omega (arith, less))
character_set (b ∷ t) zero c less = refl
character_set (b ∷ t) (suc i) c less = character_set t i c (omega (arith, less))

character_beside : (t : List ℕ) (i j c : ℕ) → (j ≡ i → ⊥) → nth (characters (slice_set t i c)) j ≡ nth (characters t) j
character_beside [] i j c d = refl
character_beside (b ∷ t) zero zero c d = absurd (d refl)
character_beside (b ∷ t) zero (suc j) c d = refl
character_beside (b ∷ t) (suc i) zero c d = refl
character_beside (b ∷ t) (suc i) (suc j) c d = character_beside t i j c (λ e. d (ap suc e))

set_twice : {A : Type 0} (xs : List A) (i : ℕ) (x y : A) → slice_set (slice_set xs i x) i y ≡ slice_set xs i y
set_twice [] i x y = refl
set_twice (z ∷ xs) zero x y = refl
set_twice (z ∷ xs) (suc i) x y = ap (λ zs. z ∷ zs) (set_twice xs i x y)

-- of a constant, too
pub character_has : {world : World} {x : Extent} (t : List ℕ) (i : ℕ) → i < length t → Has world x plain (nth (characters t) i) []
character_has [] i less = absurd (omega (arith, less))
character_has (c ∷ t) zero less = a_number
character_has (c ∷ t) (suc i) less = character_has t i (omega (arith, less))

-- ---- what is put, and what is beside

pub may_put : {w : Value} {path : List ℕ} (x : Value) → MayBecome w path → MayBecome (put_part w path x) path
may_put x (in_rows h) = in_rows (has_put x h)
may_put x (a_letter {t = t} {i = i} less) = a_letter (omega (arith, less, set_length t i (low_byte (number_of x))))

pub may_twice : {w : Value} {path : List ℕ} (x y : Value) → MayBecome w path → put_part (put_part w path x) path y ≡ put_part w path y
may_twice x y (in_rows h) = put_twice x y h
may_twice x y (a_letter {t = t} {i = i} less) = ap Fixed (set_twice t i (low_byte (number_of x)) (low_byte (number_of y)))

pub rows_beside : {w : Value} {path other : List ℕ} (x : Value) → MayBecome w path → PartWays path other → HasPart w other → HasPart (put_part w path x) other
rows_beside x (in_rows h) apart g = has_beside x h apart g
rows_beside x (a_letter less) apart whole = elim apart [ ]

pub may_beside : {w : Value} {path other : List ℕ} (x : Value) → MayBecome w path → PartWays path other → MayBecome w other →
    MayBecome (put_part w path x) other
may_beside x h apart (in_rows g) = in_rows (rows_beside x h apart g)
may_beside x (in_rows whole) apart (a_letter less) = elim apart [ ]
may_beside x (a_letter {t = t} {i = i} less) apart (a_letter more) = a_letter (omega (arith, more, set_length t i (low_byte (number_of x))))

pub beside_is : {w : Value} {path other : List ℕ} (x : Value) → MayBecome w path → PartWays path other → part (put_part w path x) other ≡ part w other
beside_is x (in_rows h) apart = part_beside x h apart
beside_is x (a_letter {t = t} {i = i} less) (here_apart {j = j} {other = other} d) =
    ap (λ v. part v other) (character_beside t i j (low_byte (number_of x)) d)
beside_is x (a_letter less) (further_on w) = elim w [ ]

module _ (to : Location) (w : Value) (world : World) (at : Lies world to w) (x : Value) where
  pub put_there : IsBase (store world to x) to.base (put_part w to.path x)
  put_there =
      subst (λ y. IsBase (stored world to.base (put_part y to.path x)) to.base (put_part w to.path x)) (sym (whole_is world to.base w at.base))
      (stored_there world x at.base at.part at.may)

  pub put_aside : (b : Base) (y : Value) → IsBase world b y → (b ≡ to.base → ⊥) → IsBase (store world to x) b y
  put_aside b y h d = stored_elsewhere world (put_part (whole_at world to.base) to.path x) d at.base h

-- ---- numbers alone are characters

abbrev pub NoNumber : Value → Type 0
NoNumber (Number z) = ⊥
NoNumber v = Unit {0}

letter_is_number : (t : List ℕ) (i : ℕ) → i < length t → NoNumber (nth (characters t) i) → ⊥
letter_is_number [] i less = absurd (omega (arith, less))
letter_is_number (c ∷ t) zero less = λ n. n
letter_is_number (c ∷ t) (suc i) less = letter_is_number t i (omega (arith, less))

pub rows_of : {w v : Value} {path : List ℕ} → MayBecome w path → part w path ≡ v → NoNumber v → HasPart w path
rows_of (in_rows h) e n = h
rows_of (a_letter {t = t} {i = i} less) e n = absurd (letter_is_number t i less (subst NoNumber (sym e) n))

-- forms of numbers
abbrev IsNumeric : Form → Type 0
IsNumeric plain = Unit {0}
IsNumeric (wrapped f) = IsNumeric f
IsNumeric f = ⊥

numeric : {world : World} {f : Form} {v : Value} {bs : List ℕ} → Has world Full f v bs → (NoNumber v → ⊥) → IsNumeric f
numeric a_number n = tt
numeric no_text n = n tt
numeric (a_text same b) n = n tt
numeric no_sequence n = n tt
numeric (a_sequence b each) n = n tt
numeric (a_row same each) n = n tt
numeric (some_parts all) n = n tt
numeric (of_wrapped h) n = numeric h n

another_number : {world : World} {f : Form} {v : Value} {bs : List ℕ} → IsNumeric f → Has world Full f v bs → (z : ℤ) → Has world Full f (Number z) bs
another_number i a_number z = a_number
another_number i no_text z = absurd i
another_number i (a_text same b) z = absurd i
another_number i no_sequence z = absurd i
another_number i (a_sequence b each) z = absurd i
another_number i (a_row same each) z = absurd i
another_number i (some_parts all) z = absurd i
another_number i (of_wrapped h) z = of_wrapped (another_number i h z)

no_number : {world : World} {f : Form} {v : Value} {bs : List ℕ} → hooked f ≡ true → Has world Full f v bs → NoNumber v
no_number e a_number = absurd (false≢true e)
no_number e no_text = tt
no_number e (a_text same b) = tt
no_number e no_sequence = tt
no_number e (a_sequence b each) = tt
no_number e (a_row same each) = tt
no_number e (some_parts all) = tt
no_number e (of_wrapped h) = no_number e h

-- ---- cells alone

pub in_a_cell : {f : Form} {l : Location} {w v : Value} {bs : List ℕ} {world : World} → NoNumber v → Keeps f l w v bs world → Cell f l w v bs world
in_a_cell n c = record {
  at = record { base = c.at.base; part = rows_of c.at.part c.is n; may = c.at.may };
  is = c.is;
  has = c.has;
  distinct = c.distinct;
  apart = c.apart;
}

pub hooked_cell : {f : Form} {l : Location} {w v : Value} {bs : List ℕ} {world : World} → hooked f ≡ true → Keeps f l w v bs world → Cell f l w v bs world
hooked_cell e c = in_a_cell (no_number e c.has) c

-- ---- what stands there when a value was put

-- a character is a byte then, of the same form
pub stands_then : {f : Form} {w v x : Value} {path bs cs : List ℕ} {world after : World} → MayBecome w path → part w path ≡ v → Has world Full f v bs →
    Has after Full f x cs → Has after Full f (part (put_part w path x) path) cs
stands_then {f} {x = x} {cs = cs} {after = after} (in_rows h) e before now = subst (λ y. Has after Full f y cs) (sym (part_of_put x h)) now
stands_then {f} {v = v} {x = x} {cs = cs} {after = after} (a_letter {t = t} {i = i} less) e before now =
    subst (λ y. Has after Full f y cs) (sym (character_set t i (low_byte (number_of x)) less))
    (another_number (numeric before (λ n. letter_is_number t i less (subst NoNumber (sym e) n))) now (pos (low_byte (number_of x))))
