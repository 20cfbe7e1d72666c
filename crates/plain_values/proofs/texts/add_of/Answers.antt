use Rattle.std.proofs.Common.{◌∙◌, ap, rules, w32}
use Rattle.std.proofs.lemmas.Int.{to_z-of_z}
use Rattle.nim_program.specs.Texts.{plain_text}
use Rattle.nim_types.specs.Table.{facts_in}
use Rattle.plain_values.specs.Entries.{text_for}
use Rattle.plain_values.proofs.TextRows.{text_is, on_ok}
use Rattle.plain_values.proofs.texts.add_of.Goals as goal

pub returns : goal.returns
returns c =
    let ds = c.args.types.now in
    on_ok c.add_plain.result c.add_plain.new.text c.args.text.now _ _ c.add_plain.ensures
    (ap (text_for _) (to_z-of_z w32 c.args.z (record { sfits = search rules }))
    ∙ ap (λ d. text_for d c.args.z) c.entry.ensures.is ∙ text_is ds c.entry.ensures.table c.last_below-plain.result c.args.z
    ∙ ap (λ t. plain_text (facts_in ds) t c.args.z) c.last_below-plain.ensures)
