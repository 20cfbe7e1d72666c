use Rattle.std.proofs.Common.{◌∙◌, ap, sym, Some}
use Rattle.nim_types.specs.Table.{types_in}
use Rattle.nim_meaning.specs.LeftOut.{is_exception_type}
use Rattle.program_limits.proofs.NoEntries.{no_entry}
use Rattle.program_limits.proofs.lacking.is_exception.Goals as goal

pub returns-in-Some : goal.returns-in-Some
returns-in-Some c =
    let ds = c.args.known.now.types.now in
    c.means_exception.ensures (types_in ds) ∙ sym (ap (λ t. is_exception_type (Some t))
    (c.table_entries.ensures.meant ds c.args.ty c.in-Some.def.now c.in-Some.ensures.table (sym c.in-Some.ensures.is)))

pub returns-in-None : goal.returns-in-None
returns-in-None c =
    let ds = c.args.known.now.types.now in
    sym (ap (λ t. is_exception_type (Some t)) (no_entry ds c.args.ty (c.table_entries.ensures.count ds) (sym c.in-None.ensures.is)))
