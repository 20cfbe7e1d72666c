-- The bytes of a type are those of its form.
use Rattle.std.proofs.Common.{◌≡◌, ℕ, ◌^◌, ◌-◌, sym, ap, ◌∙◌, arith}
use Rattle.std.specs.Prelude.{nat_le, min}
use Rattle.nim_types.specs.Types.{Ty, Facts}
use Rattle.nim_types.specs.Forms.{Form, size, HasForm}
use Rattle.nim_types.proofs.ForCallers.{the_form}
use Rattle.expr_rules.specs.declared.limits.TheConstants.{MOST_TYPE_BYTES}
use Rattle.expr_rules.specs.Sizes.{is_sized}

at_most : (n : ℕ) → nat_le (min n (2 ^ 32 - 1)) MOST_TYPE_BYTES ≡ nat_le n MOST_TYPE_BYTES
at_most n = grind arith

pub sized : (facts : Facts) (t : Ty) (f : Form) (bytes : ℕ) → HasForm facts t f → bytes ≡ min (size f) (2 ^ 32 - 1)
    → is_sized facts t ≡ nat_le bytes MOST_TYPE_BYTES
sized facts t f bytes h e = ap (λ g. nat_le (size g) MOST_TYPE_BYTES) (the_form h) ∙ sym (at_most (size f)) ∙ ap (λ n. nat_le n MOST_TYPE_BYTES) (sym e)
