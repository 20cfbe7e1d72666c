-- Types that are written are sound.
use Rattle.std.proofs.Common.{subst, Option}
use Rattle.nim_tree.specs.Types.{Written}
use Rattle.nim_types.specs.Types.{Ty}
use Rattle.nim_program.specs.Scopes.{Here}
use Rattle.expr_rules.specs.Env.{Env}
use Rattle.decl_rules.specs.Written.{at_once}
use Rattle.decl_rules.specs.TypeRules as R
use Rattle.decl_rules.specs.TypeRules.{IsWritten, IfWritten}
use Rattle.typing_laws.specs.Sound.{Sound}
use Rattle.typing_laws.specs.Knows.{IfSound, KnowsWell}
use Rattle.typing_laws.proofs.Calls.{KnownFits, known_fits}
use Rattle.typing_laws.proofs.Spelled.{spelled_right}

module _ (here : Here) (env : Env) (knows : KnowsWell here env) where
  pub written_sound : {t : Written} {ty : Ty} → IsWritten env t ty → Sound here.facts ty
  written_sound (R.w_type h) = spelled_right here at_once env (λ x ty e. subst (KnownFits here) e (known_fits here env x knows.all)) h

  pub if_written_sound : {t : Option Written} {ty : Option Ty} → IfWritten env t ty → IfSound here.facts ty
  if_written_sound R.w_nothing = tt
  if_written_sound (R.w_something h) = written_sound h
