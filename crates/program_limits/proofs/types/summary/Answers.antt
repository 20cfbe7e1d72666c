use Rattle.std.proofs.Common.{◌∙◌, ap}
use Rattle.std.specs.Prelude.{slice_get}
use Rattle.nim_types.specs.Table.{types_in, facts_in}
use Rattle.program_limits.specs.Summaries.{summary_or}
use Rattle.program_limits.proofs.Listing.{listed_at}
use Rattle.program_limits.proofs.types.summary.Goals as goal

pub returns : goal.returns
returns c =
    let known = c.args.known.now in
    let ds = known.types.now in
    c.look.ensures ∙ ap (λ xs. summary_or (slice_get xs c.args.ty)) (c.as_slice.ensures ∙ known.listed)
    ∙ listed_at (facts_in ds) (types_in ds) c.args.ty
