use Rattle.std.proofs.Common.{◌<◌, List, length, refl, ap, arith, subst}
use Rattle.std.proofs.lemmas.Option.{slice_get_read}
use Rattle.nim_types.specs.declared.types.TypeDef.{TypeDef}
use Rattle.nim_types.specs.Table.{AllBelow, parts_of}
use Rattle.nim_types.proofs.Numbering.{entry_within}
use Rattle.nim_types.proofs.table.TypeTable.get.Goals as goal

pub returns-clause-within : goal.returns-clause-within
returns-clause-within c =
    let ds = c.self.inside.defs.items in
    let d = c.index.result.now in
    let lt : c.args.id < length ds = omega (arith, c.requires, ap length c.self.view_is) in
    entry_within ds c.args.id d c.self.invariant.table (slice_get_read ds (length ds) c.args.id d refl lt c.index.ensures)

pub returns-clause-parts : goal.returns-clause-parts
returns-clause-parts c =
    let ds = c.self.inside.defs.items in
    let d = c.index.result.now in
    let lt : c.args.id < length ds = omega (arith, c.requires, ap length c.self.view_is) in
    let all = c.self.invariant.table.parts c.args.id d (slice_get_read ds (length ds) c.args.id d refl lt c.index.ensures) in
    subst (λ (z : List TypeDef). AllBelow (length z) (parts_of d)) c.self.view_is all
