-- What is said in words of the subject is what is computed.
use Rattle.std.proofs.Common.{◌≡◌, Bool, true, false, arith, refl}
use Rattle.std.specs.Prelude.{ℤ, int_le}
use Rattle.nim_program.specs.Program.{Ordinals}
use Rattle.expr_rules.specs.Choices.{has_value}
use Rattle.expr_rules.specs.Covered.{Meets, ordinals_meet}
use Rattle.expr_rules.specs.Laws.{CallsComputed, NoCallsComputed, OverlapComputed, WritingComputed, TwiceComputed, EnoughComputed, UnknownComputed}
use Rattle.expr_rules.specs.Laws.{MeetingSo}
use Rattle.expr_rules.proofs.Means.{means_ok, means_err}
use Rattle.expr_rules.proofs.Chosen.{overlap_so, overlap_back, writable_so, writable_back}
use Rattle.expr_rules.proofs.OperationRows.{unknown_so, unknown_back}
use Rattle.expr_rules.proofs.Called.{call_sound, call_complete, no_call_complete}
use Rattle.expr_rules.proofs.Covers.{and_parts, and_both, twice_so, twice_back, enough_so, enough_true}

pub calls : CallsComputed
calls env n at x os e = (λ h. call_complete h, λ r. means_ok (call_sound env n at x os) r)

pub no_calls : NoCallsComputed
no_calls env n at x os c p = (λ h. no_call_complete h, λ r. means_err (call_sound env n at x os) r)

pub overlapping : OverlapComputed
overlapping a b = (λ h. overlap_back h, λ e. overlap_so a b e)

pub writing : WritingComputed
writing env t e = (λ h. writable_back h, λ r. writable_so env t e r)

pub twice : TwiceComputed
twice l before = (λ h. twice_back h, λ e. twice_so l before e)

less_or_same : (z : ℤ) → int_le z z ≡ true
less_or_same z = grind arith

one_below : (a c : ℤ) → int_le a c ≡ false → int_le c a ≡ true
one_below a c e = grind arith

le_on : (a z d : ℤ) → int_le a z ≡ true → int_le z d ≡ true → int_le a d ≡ true
le_on a z d e f = grind arith

in_both : (a b c d : ℤ) → int_le a b ≡ true → int_le c d ≡ true → int_le a d ≡ true → int_le c b ≡ true
    → (z : ℤ) × (has_value z (Ordinals a b) ≡ true) × (has_value z (Ordinals c d) ≡ true)
in_both a b c d e f g h = by_test (int_le a c) refl
  where
    by_test : (t : Bool) → int_le a c ≡ t → (z : ℤ) × (has_value z (Ordinals a b) ≡ true) × (has_value z (Ordinals c d) ≡ true)
    by_test true t = (c, and_both t h, and_both (less_or_same c) f)
    by_test false t = (a, and_both (less_or_same a) e, and_both (one_below a c t) g)

meet_in : (a b c d z : ℤ) → (has_value z (Ordinals a b) ≡ true) → (has_value z (Ordinals c d) ≡ true) → Meets (Ordinals a b) (Ordinals c d)
meet_in a b c d z e f =
    let first : (int_le a z ≡ true) × (int_le z b ≡ true) = and_parts _ _ e in
    let second : (int_le c z ≡ true) × (int_le z d ≡ true) = and_parts _ _ f in
    ordinals_meet (le_on a z d first.0 second.1) (le_on c z b second.0 first.1)

meets_in : (a b c d : ℤ) → int_le a b ≡ true → int_le c d ≡ true → Meets (Ordinals a b) (Ordinals c d)
    → (z : ℤ) × (has_value z (Ordinals a b) ≡ true) × (has_value z (Ordinals c d) ≡ true)
meets_in a b c d e f (ordinals_meet g h) = in_both a b c d e f g h

pub meeting : MeetingSo
meeting a b c d e f = (λ h. meets_in a b c d e f h, λ h. meet_in a b c d h.0 h.1 h.2)

pub enough : EnoughComputed
enough facts ty gives labels = (λ h. enough_true h, λ e. enough_so facts ty gives labels e)

pub unknown : UnknownComputed
unknown env x = (λ h. unknown_back h, λ e. unknown_so env x e)
