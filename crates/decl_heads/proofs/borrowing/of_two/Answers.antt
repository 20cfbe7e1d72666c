use Rattle.std.proofs.Common.{◌∙◌}
use Rattle.nim_program.specs.View.{if_type}
use Rattle.expr_parts.specs.View.{env_of, parameter_of}
use Rattle.decl_heads.proofs.Borrowers.{two_by, two_not}
use Rattle.decl_heads.proofs.borrowing.of_two.Goals as goal

pub returns-then-not-gives_bool : goal.returns-then-not-gives_bool
returns-then-not-gives_bool c = λ ts facts u.
    two_not (env_of ts facts c.args.scope.now) c.args.name.now (parameter_of ts c.args.left) (parameter_of ts c.args.right) (if_type ts c.args.gives)
    (c.gives_bool.ensures ts facts u ∙ c.if-not-gives_bool.true)

pub returns : goal.returns
returns c = λ ts facts u.
    two_by (env_of ts facts c.args.scope.now) c.args.name.now (parameter_of ts c.args.left) (parameter_of ts c.args.right) (if_type ts c.args.gives)
    (c.gives_bool.ensures ts facts u ∙ c.if-not-gives_bool.false) ∙ c.borrows_comparison.ensures ts facts u
