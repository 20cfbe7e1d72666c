-- Types from a position on.
use Rattle.std.proofs.Common.{◌≡◌, ℕ, zero, suc, Some, ap}
use Rattle.nim_types.specs.Types.{Ty, Tys, no_types, types}
use Rattle.nim_program.specs.Kinds.{nth_type}

abbrev pub behind : ℕ → Tys → Tys
behind zero ts = ts
behind (suc i) no_types = no_types
behind (suc i) (types t ts) = behind i ts

first_type : {t u : Ty} {ts us : Tys} → types t ts ≡ types u us → t ≡ u
first_type e = cc

other_types : {t u : Ty} {ts us : Tys} → types t ts ≡ types u us → ts ≡ us
other_types e = cc

pub at_position : (i : ℕ) (ts : Tys) (t : Ty) (us : Tys) → behind i ts ≡ types t us → (nth_type ts i ≡ Some t) × (behind (suc i) ts ≡ us)
at_position zero no_types t us e = cc
at_position zero (types u ts) t us e = (ap (λ t. Some t) (first_type e), other_types e)
at_position (suc i) no_types t us e = cc
at_position (suc i) (types u ts) t us e = at_position i ts t us e
