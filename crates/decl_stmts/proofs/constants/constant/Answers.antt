use Rattle.std.proofs.Common.{ap₂, ℕ, List}
use Rattle.nim_types.specs.Table.{type_at}
use Rattle.nim_program.specs.Program.{Literal}
use Rattle.expr_rules.specs.Env.{constant}
use Rattle.decl_stmts.proofs.constants.constant.Goals as goal

pub returns-clause-entry : goal.returns-clause-entry
returns-clause-entry c = λ ts. ap₂ (λ (x : List ℕ) (l : Literal). constant x
    (type_at ts c.args.value.now.ty) l) c.in_ok-name.ensures c.in_ok-literal.ensures
