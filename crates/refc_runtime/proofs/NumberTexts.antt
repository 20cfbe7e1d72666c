-- The text of a number, and how many steps its parts take.
use Rattle.std.proofs.Common.{◌≡◌, ℕ, suc, ◌+◌, ◌-◌, ◌*◌, ◌/◌, ◌%◌, ◌^◌, ◌<◌, ◌≤◌, inl, inr, ℤ, pos, negsuc, FitsSigned, w32, List, []}
use Rattle.std.proofs.Common.{◌∷◌, ◌++◌, length, refl, sym, ap, subst, ◌∙◌, arith}
use Rattle.std.proofs.Common.{append-nil, length-append}
use Rattle.std.specs.Prelude.{unsigned_abs}
use Rattle.std.specs.Int.{cast_unsigned}
use Rattle.std.specs.Fmt.{decimal, signed_decimal}
use Rattle.std.proofs.lemmas.Fmt.{decimal_by_steps}
use Rattle.std.proofs.lemmas.Int.{of_z-to_z}
use Rattle.rv32_isa.specs.Values.{signed, subtracted}
use Rattle.rv32_isa.specs.Words.{word_bytes}
use Rattle.rv32_isa.specs.Steps.{low_bytes}
use Rattle.rv32_isa.specs.declared.micro_op.Size.TheVariants.{Byte}
use Rattle.word_code.specs.declared.routine.TheConstants.{SCRATCH_BYTES}
use Rattle.word_code.specs.RoutineTable.{Beside}
use Rattle.refc_runtime.proofs.SignedWords.{pos_word, negative_word, word_fits, magnitude}

abbrev pub signed_text : ℤ → List ℕ → List ℕ
signed_text (pos k) text = text
signed_text (negsuc k) text = 45 ∷ text

abbrev pub sign_steps : ℤ → ℕ
sign_steps (pos k) = 1
sign_steps (negsuc k) = 4

abbrev pub front_steps : ℤ → ℕ
front_steps (pos k) = 7
front_steps (negsuc k) = 9

pub number_text : (z : ℤ) → signed_text z (decimal (unsigned_abs z) ++ []) ≡ signed_decimal z
number_text (pos k) = append-nil (decimal k)
number_text (negsuc k) = ap (λ l. 45 ∷ l) (append-nil (decimal (suc k)))

-- a number below ten is one digit, and another one has two at least
record Digits (k : ℕ) (digits : List ℕ) : Type 0 where
  one : k < 10 → digits ≡ (48 + k) ∷ []
  some : 1 ≤ length digits
  two : 10 ≤ k → 2 ≤ length digits

digits_of : (k : ℕ) → k < 2 ^ 32 → Digits k (decimal k)
digits_of k small = decimal_by_steps Digits last_digit more_digits k (omega (arith, small))
  where
    last_digit : (k : ℕ) → k < 10 → Digits k ((48 + k) ∷ [])
    last_digit k less = record { one = λ h. refl; some = omega arith; two = λ h. absurd (omega (arith, less, h)) }

    more_digits : (k : ℕ) (digits : List ℕ) → 10 ≤ k → Digits (k / 10) digits → Digits k (digits ++ (48 + k % 10) ∷ [])
    more_digits k digits large h =
        let long = length-append digits ((48 + k % 10) ∷ []) in
        let before = h.some in
        record { one = λ less. absurd (omega (arith, less, large)); some = omega (arith, long); two = λ more. omega (arith, long, before) }

pub itself : (x k : ℕ) → x < 2 ^ 32 → signed x ≡ pos k → x ≡ k
itself x k small e = sym (of_z-to_z w32 x small) ∙ ap (cast_unsigned w32) e ∙ pos_word k (subst (FitsSigned w32) e (word_fits x small))

-- what has no short way has two bytes at least
abbrev pub Long : ℤ → Type 0
Long (pos k) = 2 ≤ length (decimal k)
Long (negsuc k) = 1 ≤ length (decimal (suc k))

pub long_is : (x : ℕ) (z : ℤ) → x < 2 ^ 32 → 10 ≤ x → signed x ≡ z → Long z
long_is x (pos k) small large e = let same = itself x k small e in (digits_of k (omega (arith, same, small))).two (omega (arith, same, large))
long_is x (negsuc k) small large e =
    let most : unsigned_abs (negsuc k) ≤ 2 ^ 31 = magnitude (negsuc k) (subst (FitsSigned w32) e (word_fits x small)) in
    (digits_of (suc k) (omega (arith, most))).some

-- where the digits take so many lines
pub number_length : (z : ℤ) (lines : ℕ) → Long z → lines + 3 ≡ 8 * length (decimal (unsigned_abs z))
    → 1 + (front_steps z + lines + sign_steps z + 6) ≤ 13 + 16 * (length (signed_decimal z) - 1)
number_length (pos k) lines h count = omega (arith, h, count)
number_length (negsuc k) lines h count = omega (arith, h, count)

pub short_text : (x : ℕ) (z : ℤ) → x < 10 → signed x ≡ z → signed_decimal z ≡ (48 + x) ∷ []
short_text x (pos k) less e =
    let same : x ≡ k = itself x k (omega (arith, less)) e in
    (digits_of k (omega (arith, same, less))).one (omega (arith, same, less)) ∙ ap (λ j. (48 + j) ∷ []) (sym same)
short_text x (negsuc k) less e =
    let small : x < 2 ^ 32 = omega (arith, less) in
    let f : FitsSigned w32 (negsuc k) = subst (FitsSigned w32) e (word_fits x small) in
    let most : unsigned_abs (negsuc k) ≤ 2 ^ 31 = magnitude (negsuc k) f in
    let back : subtracted 0 x ≡ suc k = ap (subtracted 0) (sym (of_z-to_z w32 x small) ∙ ap (cast_unsigned w32) e) ∙ negative_word k f in
    absurd (omega (arith, back, most, less))

-- ---- a byte of it

pub one_byte : (b : ℕ) → b < 256 → low_bytes Byte b ≡ b ∷ []
unfolding word_bytes
one_byte b small = let e : b % 256 ≡ b = omega (arith, small) in ap (λ n. n ∷ []) e

-- what is beside the room of a text is beside each of its bytes
pub narrow : (own a k j : ℕ) → j + 1 ≤ 12 → Beside a k own SCRATCH_BYTES → Beside a k (own + j) 1
narrow own a k j within (inl h) = inl (omega (arith, h))
narrow own a k j within (inr h) = inr (omega (arith, h, within))
