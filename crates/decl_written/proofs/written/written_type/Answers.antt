use Rattle.nim_tree.specs.Types.{written_of}
use Rattle.expr_parts.specs.View.{env_of}
use Rattle.decl_rules.specs.Written.{Spelled, at_once, spelled}
use Rattle.decl_written.specs.ViewWritten.{at_once_of}
use Rattle.decl_written.proofs.AtOnce.{then_ok}
use Rattle.decl_written.proofs.written.written_type.Goals as goal

pub returns-clause-answers : goal.returns-clause-answers
returns-clause-answers c = λ ts facts u.
    then_ok (at_once_of ts) (λ (s : Spelled). s.of) (spelled at_once (env_of ts facts c.args.scope.now) (written_of c.args.tree.now)) c.spelled.result
    (c.spelled.ensures.answers ts facts u)
