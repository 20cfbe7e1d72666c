use Rattle.std.proofs.Common.{[]}
use Rattle.decl_parts.proofs.ForCallers.{own_begin, scope_left}
use Rattle.decl_heads.proofs.given.check_names.Goals as goal

pub returns-in-Ok-clause-answers : goal.returns-in-Ok-clause-answers
returns-in-Ok-clause-answers c = λ ts st e. c.in-Ok.ensures.answers st [] (own_begin ts st c.args.outside c.args.scope.now.decls e)

pub returns-in-Ok-clause-same : goal.returns-in-Ok-clause-same
returns-in-Ok-clause-same c =
    let b = c.in-Ok.ensures.begins in
    scope_left c.args.scope.now c.take_names.new.scope c.leave.new.self c.count-count.result b.0 c.count-count.ensures b.1 c.take_names.ensures.kinds
    c.take_names.ensures.home c.leave.ensures.decls c.leave.ensures.kinds c.leave.ensures.home

pub returns-in-Err-clause-answers : goal.returns-in-Err-clause-answers
returns-in-Err-clause-answers c = λ ts st e. c.in-Err.ensures.answers st [] (own_begin ts st c.args.outside c.args.scope.now.decls e)
