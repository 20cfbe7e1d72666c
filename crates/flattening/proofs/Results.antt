-- What a place starts at takes no more bytes than its type.
use Rattle.std.proofs.Common.{◌≡◌, ℕ, zero, suc, ◌*◌, ◌≤◌, ◌⊎◌, inl, inr, Option, Some, None, refl, arith}
use Rattle.nim_types.specs.Types.{Facts}
use Rattle.nim_types.specs.Forms.{Form, plain, reference, block, elements, row, parts, resource}
use Rattle.nim_types.specs.Forms.{wrapped, Forms, no_forms, forms, or_word, size, size_all, form_of}
use Rattle.nim_program.specs.Program.{Declared}
use Rattle.nim_program.specs.Sizes.{if_place_bytes}
use Rattle.nim_meaning.specs.Values.{Value, bytes, bytes_all, repeated, blank, blanks}
use Rattle.nim_meaning.specs.Meaning.{result_slots}
use Rattle.flat_code.specs.Running.{slot_bytes}

or_word_rises : (a b : ℕ) → a ≤ b → (b ≡ 0) ⊎ (4 ≤ b) → or_word a ≤ or_word b
or_word_rises zero zero le h = omega arith
or_word_rises zero (suc b) le (inl e) = absurd (omega (arith, e))
or_word_rises zero (suc b) le (inr h) = h
or_word_rises (suc a) zero le h = absurd (omega (arith, le))
or_word_rises (suc a) (suc b) le h = le

or_word_least : (n : ℕ) → (n ≡ 0) ⊎ (4 ≤ n) → 4 ≤ or_word n
or_word_least zero h = omega arith
or_word_least (suc n) (inl e) = absurd (omega (arith, e))
or_word_least (suc n) (inr h) = h

rows_least : (n s : ℕ) → 4 ≤ s → (n * s ≡ 0) ⊎ (4 ≤ n * s)
rows_least zero s h = inl (omega arith)
rows_least (suc n) s h = inr (omega (arith, h))

mutual
  size_least : (f : Form) → 4 ≤ size f
  size_least plain = omega arith
  size_least reference = omega arith
  size_least block = omega arith
  size_least (elements f) = omega arith
  size_least (row n f) = or_word_least (n * size f) (rows_least n (size f) (size_least f))
  size_least (parts fs) = or_word_least (size_all fs) (none_or_least fs)
  size_least (resource fs) = or_word_least (size_all fs) (none_or_least fs)
  size_least (wrapped f) = size_least f

  none_or_least : (fs : Forms) → (size_all fs ≡ 0) ⊎ (4 ≤ size_all fs)
  none_or_least no_forms = inl refl
  none_or_least (forms f fs) = inr (omega (arith, size_least f))

rows_small : (n s : ℕ) (v : Value) → bytes v ≤ s → bytes_all (repeated n v) ≤ n * s
rows_small zero s v h = omega arith
rows_small (suc n) s v h = omega (arith, h, rows_small n s v h)

mutual
  blank_small : (f : Form) → bytes (blank f) ≤ size f
  blank_small plain = omega arith
  blank_small reference = omega arith
  blank_small block = omega arith
  blank_small (elements f) = omega arith
  blank_small (row n f) =
      or_word_rises (bytes_all (repeated n (blank f))) (n * size f) (rows_small n (size f) (blank f) (blank_small f)) (rows_least n (size f) (size_least f))
  blank_small (parts fs) = or_word_rises (bytes_all (blanks fs)) (size_all fs) (blanks_small fs) (none_or_least fs)
  blank_small (resource fs) = or_word_rises (bytes_all (blanks fs)) (size_all fs) (blanks_small fs) (none_or_least fs)
  blank_small (wrapped f) = blank_small f

  blanks_small : (fs : Forms) → bytes_all (blanks fs) ≤ size_all fs
  blanks_small no_forms = omega arith
  blanks_small (forms f fs) = omega (arith, blank_small f, blanks_small fs)

pub result_small : (facts : Facts) (result : Option Declared) → slot_bytes (result_slots facts result) ≤ if_place_bytes facts result
result_small facts None = omega arith
result_small facts (Some place) = omega (arith, blank_small (form_of facts place.of))
