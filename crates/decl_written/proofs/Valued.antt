-- Values that are needed.
use Rattle.std.proofs.Common.{◌≡◌, ℕ, ◌<◌, Some, sym, ◌∙◌, subst}
use Rattle.std.specs.Prelude.{Option, Result, Ok, Err, IfOk}
use Rattle.arc_base.specs.declared.place.Stop.{Stop}
use Rattle.nim_types.specs.Table.{IsBelow}

-- the type of a value is one of the table
pub type_within : {T : Type 0} (n : ℕ) (of : T → ℕ) (o p : Option ℕ) (r : Result T Stop) → o ≡ p → IsBelow n p
    → IfOk r (λ v. o ≡ Some (of v))
    → IfOk r (λ v. of v < n)
type_within n of o p (Ok v) e b h = subst (IsBelow n) (sym e ∙ h) b
type_within n of o p (Err s) e b h = tt
