use Rattle.std.proofs.Common.{sym, ap, ◌∙◌}
use Rattle.nim_types.specs.Table.{types_in}
use Rattle.nim_program.specs.View.{if_type}
use Rattle.nim_meaning.specs.Shapes.{is_covered}
use Rattle.flattening.specs.Views.{types_of}
use Rattle.flattening.proofs.TypeNumbers.{covered_beyond, covered_at}
use Rattle.flattening.proofs.known.is_covered.Goals as goal

pub returns-in-None-entry : goal.returns-in-None-entry
returns-in-None-entry c =
    let ds = c.args.around.now.types.now in
    sym (ap (λ t. is_covered (if_type (types_of c.args.around.now) t)) c.in-Some.is ∙ covered_beyond ds c.in-Some.ty (sym c.in-None-entry.ensures.is))

pub returns-in-Some-entry : goal.returns-in-Some-entry
returns-in-Some-entry c =
    let ds = c.args.around.now.types.now in
    sym (ap (λ t. is_covered (if_type (types_of c.args.around.now) t)) c.in-Some.is
    ∙ covered_at ds c.in-Some.ty c.in-Some-entry.def.now c.covers.result c.in-Some-entry.ensures.table (sym c.in-Some-entry.ensures.is)
    (c.covers.ensures (types_in ds)))
