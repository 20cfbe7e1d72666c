use Rattle.std.proofs.Common.{◌∙◌}
use Rattle.nim_program.specs.View.{if_type}
use Rattle.expr_parts.specs.View.{env_of, parameter_of}
use Rattle.decl_heads.proofs.Borrowers.{one_by, one_not}
use Rattle.decl_heads.proofs.borrowing.of_one.Goals as goal

pub returns-then-not-gives_text : goal.returns-then-not-gives_text
returns-then-not-gives_text c = λ ts facts u.
    one_not (env_of ts facts c.args.scope.now) c.args.name.now (parameter_of ts c.args.param) (if_type ts c.args.gives)
    (c.gives_text.ensures ts facts u ∙ c.if-not-gives_text.true)

pub returns : goal.returns
returns c = λ ts facts u.
    one_by (env_of ts facts c.args.scope.now) c.args.name.now (parameter_of ts c.args.param) (if_type ts c.args.gives)
    (c.gives_text.ensures ts facts u ∙ c.if-not-gives_text.false) ∙ c.borrows_dollar.ensures ts facts u
