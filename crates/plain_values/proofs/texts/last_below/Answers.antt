use Rattle.std.proofs.Common.{◌∙◌, ap, sym}
use Rattle.std.specs.Prelude.{length}
use Rattle.nim_program.specs.Kinds.{below_distinct}
use Rattle.nim_types.specs.Table.{type_at, types_in, facts_in}
use Rattle.plain_values.specs.Entries.{base_at}
use Rattle.plain_values.proofs.TextRows.{below_none}
use Rattle.plain_values.proofs.texts.last_below.Goals as goal

pub returns-in-None : goal.returns-in-None
returns-in-None c =
    let ds = c.args.types.now in
    let h = sym (c.base_at.ensures ∙ ap base_at c.entry.ensures.is) ∙ c.in-None.is in
    sym (below_none ds c.entry.ensures.table (length (facts_in ds)) c.args.ty h)

pub returns-in-Some : goal.returns-in-Some
returns-in-Some c =
    let ds = c.args.types.now in
    c.below.ensures ∙ ap (λ n. below_distinct n (facts_in ds) (type_at (types_in ds) c.args.ty)) c.declared_types.ensures.count
