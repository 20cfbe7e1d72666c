use Rattle.std.proofs.Common.{ap, ap₂, sym, ◌∙◌, ℕ, List, Bool, false}
use Rattle.indent_scanner.specs.Words.{normal}
use Rattle.nim_types.specs.Table.{type_at}
use Rattle.expr_rules.specs.Env.{variable}
use Rattle.decl_heads.proofs.given.variable.Goals as goal

pub returns-clause-entry : goal.returns-clause-entry
returns-clause-entry c = λ ts.
    ap₂ (λ (x : List ℕ) (k : Bool). variable x c.args.place (type_at ts c.args.param.now.place.ty) k false)
    (c.in_ok-name.ensures ∙ ap normal c.as_slice.ensures)
    (sym c.is_written.ensures)
