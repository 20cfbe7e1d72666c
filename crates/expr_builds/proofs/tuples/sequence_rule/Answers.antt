use Rattle.std.proofs.Common.{◌≡◌, sym, ap, ◌∙◌, [], length}
use Rattle.std.specs.Prelude.{map}
use Rattle.nim_program.specs.View.{expr_of}
use Rattle.expr_rules.specs.Constructions.{sequence_rule, empty_rule}
use Rattle.expr_parts.specs.View.{valued_of, want_of}
use Rattle.expr_parts.proofs.ForCallers.{answers_as}
use Rattle.expr_builds.proofs.Tupling.{first_is, no_value}
use Rattle.expr_builds.specs.ViewBuilt.{first_number}
use Rattle.expr_builds.proofs.tuples.sequence_rule.Goals as goal

pub returns-in-Some-clause-answers : goal.returns-in-Some-clause-answers
returns-in-Some-clause-answers c = λ ts facts u.
    let f = first_is c.args.values.items c.in-Some.of (ap first_number (sym c.as_slice.ensures.value) ∙ sym c.first_type.ensures.first ∙ c.in-Some.is) in
    c.sequence_of.ensures.answers ts facts u (want_of ts c.args.want) f.0 f.1 f.2.0 f.2.1

pub returns-in-None-clause-answers : goal.returns-in-None-clause-answers
returns-in-None-clause-answers c = λ ts facts u.
    let n = c.args.number in
    let at = c.args.at in
    let w = want_of ts c.args.want in
    let none : c.args.values.items ≡ [] = no_value c.args.values.items
    (ap first_number (sym c.as_slice.ensures.value) ∙ sym c.first_type.ensures.first ∙ c.in-None.is) in
    answers_as (expr_of ts) (sequence_rule w n at (map (valued_of ts) c.args.values.items)) _ c.empty_sequence.result
    (ap (λ vs. sequence_rule w n at (map (valued_of ts) vs)) none ∙ ap (empty_rule n at) (sym (c.wanted.ensures.ty ts)))
    (c.empty_sequence.ensures.answers ts facts u)

pub empty_sequence-requires : goal.empty_sequence-requires
empty_sequence-requires c = record { wanted = c.wanted.ensures.within (length c.args.types.now) c.requires.want }
