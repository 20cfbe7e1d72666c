use Rattle.std.proofs.Common.{ap₂, ◌∙◌}
use Rattle.std.specs.Prelude.{true}
use Rattle.nim_types.specs.Table.{type_at, types_in, facts_in}
use Rattle.expr_rules.specs.Sizes.{is_sized}
use Rattle.expr_parts.proofs.TypeNumbers.{front_of}
use Rattle.expr_parts.proofs.Sizing.{sized}
use Rattle.expr_parts.proofs.sizes.is_sized.Goals as goal

pub returns : goal.returns
returns c = λ ts facts u.
    let ds = c.args.types.now in
    let i = c.args.id in
    let f = c.requires.formed i c.requires.within in
    ap₂ is_sized u.said (front_of i u c.requires.within)
    ∙ sized (facts_in ds) (type_at (types_in ds) i) f.0 c.size_of.result f.1 (c.size_of.ensures true f.0 f.1)
