use Rattle.std.proofs.Common.{ap, ◌∙◌, List, ℕ}
use Rattle.nim_types.specs.Table.{type_at}
use Rattle.decl_heads.proofs.Opening.{given_from}
use Rattle.decl_heads.proofs.given.one_given.Goals as goal

pub returns-clause-given : goal.returns-clause-given
returns-clause-given c = λ ts.
    ap (λ (x : List ℕ). given_from c.args.name.now.at x c.args.mode (type_at ts c.args.ty))
    (c.in_ok-text.ensures ∙ c.as_slice.ensures)
