use Rattle.std.proofs.Common.{ℕ, sym, ap, ◌∙◌, to_z-of_z}
use Rattle.expr_rules.specs.Names.{length_limit}
use Rattle.std.specs.Prelude.{Ok}
use Rattle.arc_base.specs.Refusal.{and_then}
use Rattle.nim_types.specs.Types as type
use Rattle.nim_types.specs.Table.{type_at}
use Rattle.decl_sections.proofs.spelling.limited_node.Goals as goal

pub returns-in-Ok-clause-answers : goal.returns-in-Ok-clause-answers
returns-in-Ok-clause-answers c = λ ts keys done.
    let go = λ (n : ℕ). Ok (type.array n (type_at done c.args.of)) in
    ap (λ z. and_then (length_limit c.args.at z) go) (sym (to_z-of_z c.ranges.len)) ∙ ap (λ said. and_then said go) c.in-Ok.ensures
