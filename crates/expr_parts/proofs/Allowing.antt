-- What is allowed where it holds.
use Rattle.std.proofs.Common.{◌≡◌, sym, subst}
use Rattle.std.specs.Prelude.{Result, Bool}
use Rattle.arc_base.specs.declared.place.Place.{Place}
use Rattle.arc_base.specs.declared.place.Code.{Code}
use Rattle.arc_base.specs.declared.place.Stop.{Stop}
use Rattle.arc_base.specs.Refusal.{Answers}
use Rattle.expr_parts.specs.View.{if_allowed}

pub allowed : (code : Code) (at : Place) (a b : Bool) (r : Result (Unit {0}) Stop) → a ≡ b
    → Answers {A = Unit {0}} (λ _. tt) (if_allowed b code at) r → Answers {A = Unit {0}} (λ _. tt) (if_allowed a code at) r
allowed code at a b r e h = subst (λ (z : Bool). Answers {A = Unit {0}} (λ _. tt) (if_allowed z code at) r) (sym e) h
