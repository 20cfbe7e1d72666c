use Rattle.std.proofs.Common.{sym, ap, ◌∙◌, length}
use Rattle.std.specs.Prelude.{map, Ok}
use Rattle.arc_base.specs.declared.place.Code.TheVariants.{NotTyped}
use Rattle.nim_types.specs.Types.{sequence}
use Rattle.nim_types.specs.Table.{type_at}
use Rattle.expr_rules.specs.Demands.{of_sequences}
use Rattle.expr_rules.specs.Names.{formed_by}
use Rattle.expr_parts.proofs.ForCallers.{answers_as, makes, refuses}
use Rattle.expr_parts.proofs.ForCallers.{if_ok}
use Rattle.expr_builds.proofs.Forming.{one_only, one_below, not_one}
use Rattle.expr_builds.proofs.written.sequence_type.Goals as goal

pub add-requires : goal.add-requires
add-requires c = record {
  built = tt;
  within = one_below (length c.args.types.now) c.args.given.now c.in-Some.of (sym c.only_one.ensures ∙ c.in-Some.is) c.requires.given;
}

pub returns-in-Some-clause-answers : goal.returns-in-Some-clause-answers
returns-in-Some-clause-answers c = λ ts facts u.
    let at = c.args.at in
    answers_as (type_at ts) (formed_by at of_sequences (map (type_at ts) c.args.given.now)) (Ok (sequence (type_at ts c.in-Some.of))) c.add.result
    (ap (λ is. formed_by at of_sequences (map (type_at ts) is)) (one_only c.args.given.now c.in-Some.of (sym c.only_one.ensures ∙ c.in-Some.is)))
    (makes (type_at ts) (sequence (type_at ts c.in-Some.of)) c.add.result (if_ok c.add.result c.add.ensures.means (λ id h. h ts facts u)) c.add.ensures.memory)

pub returns-in-None-clause-answers : goal.returns-in-None-clause-answers
returns-in-None-clause-answers c = λ ts facts u.
    let at = c.args.at in
    refuses (type_at ts) (formed_by at of_sequences (map (type_at ts) c.args.given.now)) NotTyped at c.refusal.result c.refusal.ensures
    (not_one ts at c.args.given.now (sym c.only_one.ensures ∙ c.in-None.is))
