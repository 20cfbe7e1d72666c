-- Answers that mean what rules say.
use Rattle.std.proofs.Common.{◌≡◌, refl, ap}
use Rattle.std.specs.Prelude.{Bool, true, false, Ok}
use Rattle.arc_base.specs.declared.place.Place.{Place}
use Rattle.arc_base.specs.declared.place.Code.{Code}
use Rattle.arc_base.specs.declared.place.Code.TheVariants.{NotTyped}
use Rattle.arc_base.specs.Refusal.{IsRefusal}
pub use Rattle.expr_rules.proofs.ForCallers.{Means, m_ok, m_err, means_then, means_map, itself, means_last, means_ok, means_err, bind_ok, bind_err}
use Rattle.decl_rules.specs.State.{if_typed}

-- ---- a test of what has to hold

pub data IsAt (k : Code) (q : Place) : Code → Place → Type 0 where
  is_at : IsAt k q k q

pub at_once : (F : Code → Place → Type 0) {k c : Code} {q p : Place} → IsAt k q c p → F k q → F c p
at_once F is_at f = f

pub tested : (b : Bool) (at : Place) → Means (λ _. b ≡ true) (λ c p. (b ≡ false) × IsAt NotTyped at c p) (if_typed b at)
tested true at = m_ok refl
tested false at = m_err (refl, is_at)

pub holding : {b : Bool} (at : Place) → b ≡ true → if_typed b at ≡ Ok tt
holding at e = ap (λ b. if_typed b at) e

pub failing : {b : Bool} (at : Place) → b ≡ false → IsRefusal (if_typed b at) NotTyped at
failing at e = ap (λ b. if_typed b at) e
