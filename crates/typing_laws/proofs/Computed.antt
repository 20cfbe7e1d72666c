-- Statements of modules are computed.
use Rattle.std.proofs.Common.{◌≡◌, List, refl, ap, ◌∙◌}
use Rattle.std.specs.Prelude.{Ok}
use Rattle.arc_base.specs.Refusal.{and_then}
use Rattle.nim_tree.specs.Statements.{Statements}
use Rattle.expr_rules.specs.Answers.{Answer}
use Rattle.decl_rules.specs.State.{ResultPlace, Around, State, Stated, noting, and_more}
use Rattle.decl_rules.specs.Stated.{all_stated}
use Rattle.decl_rules.specs.Laws.{StatementsComputed}
use Rattle.decl_rules.specs.Elaborated.{Module, modules_stated}
use Rattle.decl_rules.specs.Rules as R
use Rattle.decl_rules.specs.Rules.{AreStated}
use Rattle.decl_rules.specs.ProgramRules as M
use Rattle.decl_rules.specs.ProgramRules.{AreModules}

module _ (computed : StatementsComputed) where
  all_computed : {a : Around} {ends : ResultPlace} {st : State} {all : Statements} {x : Stated} → AreStated a ends st all x → all_stated a ends st all ≡ Ok x
  all_computed R.s_none = refl
  all_computed {a} {ends} {st} (R.s_more {first = first} {rest = rest} {one = one} {more = more} h k) =
      ap (λ (r : Answer Stated). and_then r (λ one. and_then (all_stated a ends (noting a.outermost one) rest) (λ more. Ok (and_more one more))))
      ((computed a _ st first one).0 h)
      ∙ ap (λ (r : Answer Stated). and_then r (λ more. Ok (and_more one more))) (all_computed k)

  pub modules_computed : {st : State} {all : List Module} {x : Stated} → AreModules st all x → modules_stated st all ≡ Ok x
  modules_computed M.p_none = refl
  modules_computed (M.p_more {rest = rest} {one = one} {more = more} h k) =
      ap (λ (r : Answer Stated). and_then r (λ one. and_then (modules_stated one.state rest) (λ more. Ok (and_more one more)))) (all_computed h)
      ∙ ap (λ (r : Answer Stated). and_then r (λ more. Ok (and_more one more))) (modules_computed k)
