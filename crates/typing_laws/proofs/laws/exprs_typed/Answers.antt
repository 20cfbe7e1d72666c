use Rattle.typing_laws.proofs.Induction.{typed_right}
use Rattle.typing_laws.proofs.Preserved.{preserved}
use Rattle.typing_laws.proofs.laws.exprs_typed.Goals as goal

pub returns : goal.returns
returns c =
    λ here env knows want sound n m t e read h.
    (typed_right c.calls_computed.ensures.calls
    (λ here known. preserved here known c.ints.ensures.closed c.ints.ensures.closed_one) h read here knows sound).typed
