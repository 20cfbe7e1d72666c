use Rattle.std.proofs.Common.{[], ◌∷◌, sym, ap, ◌∙◌}
use Rattle.std.proofs.lemmas.Option.{slice_get_within}
use Rattle.std.specs.Prelude.{Ok, option_map}
use Rattle.arc_base.specs.declared.place.Code.TheVariants.{NotTyped}
use Rattle.arc_base.specs.Refusal.{refused}
use Rattle.nim_types.specs.declared.types.TypeDef.TheVariants as D
use Rattle.nim_types.specs.Types.{sequence}
use Rattle.nim_types.specs.Table.{type_at}
use Rattle.nim_program.specs.Nodes.{new_sequence}
use Rattle.nim_program.specs.View.{expr_of}
use Rattle.expr_rules.specs.Answers.{node, settled}
use Rattle.expr_rules.specs.Names.{made_by, new_sequence_rule}
use Rattle.expr_parts.specs.View.{operand_of, valued_of}
use Rattle.expr_parts.proofs.ForCallers.{answers_as, refuses}
use Rattle.expr_parts.proofs.ForCallers.{grown_same}
use Rattle.expr_parts.proofs.ForCallers.{no_fit_is}
use Rattle.expr_parts.proofs.ForCallers.{entry_under}
use Rattle.expr_operations.proofs.new_sequences.of_length.Goals as goal

pub settle-requires-clause-ty : goal.settle-requires-clause-ty
settle-requires-clause-ty c = slice_get_within c.args.types.now c.args.ints D.Int c.requires.ints

pub returns-in-Some-clause-answers : goal.returns-in-Some-clause-answers
returns-in-Some-clause-answers c = λ ts facts u e.
    let ds = c.args.types.now in
    let o = operand_of ts c.args.operand in
    let t = type_at ts c.args.of in
    let n = c.args.number in
    let at = c.args.at in
    let before = c.so_many.ensures.grown.under ts facts u in
    let int = entry_under c.args.ints D.Int before (slice_get_within ds c.args.ints D.Int c.requires.ints) c.requires.ints in
    answers_as (expr_of ts) (new_sequence_rule n at t (o ∷ [])) (Ok (new_sequence (node n at) (sequence t) (expr_of ts c.in-Some.value.expr)))
    c.so_many.result
    (ap (λ i. made_by n at t (o ∷ []) (settled i o)) (sym int)
    ∙ ap (made_by n at t (o ∷ [])) (sym (sym (ap (option_map (valued_of ts)) c.in-Some.is) ∙ c.settle.ensures.given ts facts before)))
    (c.so_many.ensures.answers ts facts u)

pub returns-in-None-clause-answers : goal.returns-in-None-clause-answers
returns-in-None-clause-answers c = λ ts facts u e.
    let ds = c.args.types.now in
    let o = operand_of ts c.args.operand in
    let t = type_at ts c.args.of in
    let n = c.args.number in
    let at = c.args.at in
    let int = entry_under c.args.ints D.Int u (slice_get_within ds c.args.ints D.Int c.requires.ints) c.requires.ints in
    refuses (expr_of ts) (new_sequence_rule n at t (o ∷ [])) NotTyped c.args.place c.refusal.result c.refusal.ensures
    (ap (λ i. made_by n at t (o ∷ []) (settled i o)) (sym int)
    ∙ ap (made_by n at t (o ∷ [])) (sym (sym (ap (option_map (valued_of ts)) c.in-None.is) ∙ c.settle.ensures.given ts facts u))
    ∙ no_fit_is ts at (c.args.operand ∷ []) ∙ ap (λ p. refused NotTyped p) e)

pub returns-in-None-clause-grown : goal.returns-in-None-clause-grown
returns-in-None-clause-grown c = grown_same c.args.types.now
