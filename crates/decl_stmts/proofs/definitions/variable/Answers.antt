use Rattle.std.proofs.Common.{ap₂, sym, Bool, ℕ, List}
use Rattle.nim_types.specs.Table.{type_at}
use Rattle.expr_rules.specs.Env.{variable}
use Rattle.decl_stmts.proofs.definitions.variable.Goals as goal

pub returns-clause-entry : goal.returns-clause-entry
returns-clause-entry c = λ ts.
    ap₂ (λ (x : List ℕ) (k : Bool). variable x c.args.number (type_at ts c.args.ty) k c.args.outermost) c.in_ok-name.ensures (sym c.is_var.ensures)
