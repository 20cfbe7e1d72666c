use Rattle.std.proofs.Common.{ap, Bool, true}
use Rattle.nim_types.specs.Table.{type_at}
use Rattle.expr_parts.proofs.ForCallers.{answers_as}
use Rattle.decl_stmts.specs.ViewCases.{covered_by}
use Rattle.decl_stmts.proofs.blocks.cases.check_covered.Goals as goal

pub returns-then-not-lacks_else : goal.returns-then-not-lacks_else
returns-then-not-lacks_else c = λ ts facts u.
    ap (λ (k : Bool). covered_by k facts c.args.at (type_at ts c.args.ty) c.args.labels.now) c.if-not-lacks_else.true

pub returns : goal.returns
returns c = λ ts facts u.
    let by = λ (k : Bool). covered_by k facts c.args.at (type_at ts c.args.ty) c.args.labels.now in
    answers_as (λ (_ : Unit {0}). tt) (by c.args.lacks_else) (by true) c.cover_rule.result (ap by c.if-not-lacks_else.false) (c.cover_rule.ensures ts facts u)
