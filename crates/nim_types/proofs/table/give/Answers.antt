use Rattle.std.proofs.Common.{length, refl, sym, ap, ◌∙◌}
use Rattle.std.proofs.lemmas.Option.{slice_get_read}
use Rattle.nim_types.specs.Table.{with_parts}
use Rattle.nim_types.proofs.Completing.{set_completed}
use Rattle.nim_types.proofs.table.give.Goals as goal

pub returns : goal.returns
returns c =
    let ds = c.args.defs.now in
    let d = c.index-defs-i.result in
    set_completed ds c.args.i d c.set_parts.new.def c.args.given (slice_get_read ds (length ds) c.args.i d refl c.requires c.index-defs-i.is)
    (c.set_parts.ensures ∙ ap (with_parts c.args.given) (sym c.index-defs-i.is))
