-- What a sink got.
use Rattle.std.proofs.Common.{◌≡◌, ℕ, List, take, subst, Option}
use Rattle.std.specs.Prelude.{Result, Ok, Err, OnOk}
use Rattle.arc_base.specs.Outside.{Grown, HasCause}
use Rattle.word_runner.specs.Holding.{Put}

pub put_of : {T E : Type 0} (r : Result T E) (a b : Option (List ℕ)) (m n : ℕ) (piece bytes : List ℕ) → piece ≡ bytes → OnOk r (Grown a b piece)
    → (k : ℕ) × Grown a b (take k piece) → HasCause m n r → Put r a m b n bytes
put_of (Ok x) a b m n piece bytes e all front cause = (subst (Grown a b) e all, cause.stays)
put_of (Err x) a b m n piece bytes e all front cause = ((front.0, subst (λ (l : List ℕ). Grown a b (take front.0 l)) e front.1), cause.failed)
