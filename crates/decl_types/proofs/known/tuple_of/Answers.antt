use Rattle.std.proofs.Common.{ap₂}
use Rattle.std.specs.Prelude.{map}
use Rattle.nim_types.specs.Types as type
use Rattle.nim_types.specs.Table.{type_at}
use Rattle.decl_types.proofs.Numbering.{types_each}
use Rattle.decl_types.proofs.known.tuple_of.Goals as goal

pub returns-clause-means : goal.returns-clause-means
returns-clause-means c = λ ts.
    ap₂ type.tuple c.in_ok-copies_of.ensures
    (types_each ts c.in_ok-numbers_at.field-0 (map (type_at ts) c.args.ids.now) c.args.parts.now (c.in_ok-numbers_at.ensures.each ts))

pub returns-clause-within : goal.returns-clause-within
returns-clause-within c = c.in_ok-numbers_at.ensures.within
