use Rattle.std.proofs.Common.{length, ap, ◌∙◌, sym}
use Rattle.std.proofs.lemmas.Option.{slice_get_within}
use Rattle.nim_types.specs.declared.types.TypeDef.TheVariants as D
use Rattle.nim_types.specs.Table.{type_at}
use Rattle.expr_rules.specs.Constructions.{from_distinct, settled_as, source_of, or_from}
use Rattle.expr_parts.specs.View.{operand_of}
use Rattle.expr_parts.proofs.TypeNumbers.{entry_under}
use Rattle.expr_parts.proofs.conversions.source_value.Goals as goal

pub settle_or_base-requires-clause-source : goal.settle_or_base-requires-clause-source
settle_or_base-requires-clause-source c =
    let ds = c.args.types.now in
    c.in-Some.ensures.within (length ds) (slice_get_within ds c.args.ints D.Int c.requires.ints) c.entry.ensures.inside

pub returns-in-Some-clause-given : goal.returns-in-Some-clause-given
returns-in-Some-clause-given c = λ ts facts u.
    let ds = c.args.types.now in
    let o = operand_of ts c.args.operand in
    let int = entry_under c.args.ints D.Int u (slice_get_within ds c.args.ints D.Int c.requires.ints) c.requires.ints in
    c.settle_or_base.ensures.given ts facts u
    ∙ ap (λ s. or_from (settled_as s o) (from_distinct facts (type_at ts c.args.ty) o))
    (sym (ap (source_of facts) (c.entry.ensures.means ts facts u) ∙ c.in-Some.ensures.source ts facts int (c.entry.ensures.says ts facts u)))

pub returns-in-None-clause-given : goal.returns-in-None-clause-given
returns-in-None-clause-given c = λ ts facts u.
    let ds = c.args.types.now in
    let o = operand_of ts c.args.operand in
    let int = entry_under c.args.ints D.Int u (slice_get_within ds c.args.ints D.Int c.requires.ints) c.requires.ints in
    c.from_distinct.ensures.given ts facts u
    ∙ ap (λ s. or_from (settled_as s o) (from_distinct facts (type_at ts c.args.ty) o))
    (sym (ap (source_of facts) (c.entry.ensures.means ts facts u) ∙ c.in-None.ensures.source ts facts int (c.entry.ensures.says ts facts u)))
