use Rattle.std.proofs.Common.{◌≡◌, ◌∙◌, List, Bool, ap, sym, subst}
use Rattle.std.specs.Prelude.{map, Ok, Err}
use Rattle.arc_base.specs.Refusal.{Answers}
use Rattle.nim_tree.specs.Statements.{head_of, Parameters, parameters_of}
use Rattle.nim_program.specs.declared.program.Param.{Param}
use Rattle.expr_parts.proofs.ForCallers.{answers_as, goes, stops, grown_on}
use Rattle.decl_rules.specs.Heads.{has_result}
use Rattle.decl_parts.specs.View.{state_of}
use Rattle.decl_parts.proofs.ForCallers.{over_old}
use Rattle.decl_heads.specs.declared.signature.Signature.{Signature}
use Rattle.decl_heads.specs.ViewHeads.{Opening, opened_as, opening_rule, signature_of, with_gives}
use Rattle.decl_heads.proofs.Grouping.{extends_behind, if_params, on_ok}
use Rattle.decl_heads.proofs.signature.inside.Goals as goal

pub returns-in-Ok-clause-grown : goal.returns-in-Ok-clause-grown
returns-in-Ok-clause-grown c = grown_on c.in-Ok.ensures.grown c.with_result.ensures.said.grown

pub returns-in-Ok-clause-extends : goal.returns-in-Ok-clause-extends
returns-in-Ok-clause-extends c = on_ok c.with_result.result (extends_behind c.in-Ok.ensures.extends c.with_result.ensures.said)

pub returns-in-Ok-clause-answers : goal.returns-in-Ok-clause-answers
returns-in-Ok-clause-answers c = λ ts b u.
    let old = c.args.state.now in
    let mid = c.parameters.new.state in
    let h = head_of c.args.head.now in
    let params = c.in-Ok.params in
    let told = subst (λ (k : Bool). opening_rule (state_of ts b old) k h.params ≡ Ok (opened_as ts b mid params)) (sym c.has_result.ensures)
    (ap (λ (l : List Parameters). opening_rule (state_of ts b old) c.has_result.result l) (ap (map parameters_of) (sym c.deref.ensures.value))
    ∙ c.in-Ok.ensures.answers ts b (over_old mid.types c.with_result.new.state.types ts c.with_result.ensures.said.grown u)) in
    goes (signature_of ts) (λ (ps : List Param). opened_as ts b mid ps) (opening_rule (state_of ts b old) (has_result h.gives) h.params)
    (λ (o : Opening). with_gives o.state.env h.gives o.params) params c.with_result.result told (c.with_result.ensures.said.answers ts u)

pub returns-in-Ok-clause-within : goal.returns-in-Ok-clause-within
returns-in-Ok-clause-within c = c.with_result.ensures.said.fits

pub returns-in-Ok-clause-numbered : goal.returns-in-Ok-clause-numbered
returns-in-Ok-clause-numbered c =
    if_params c.args.state.now.place c.in-Ok.params (λ (s : Signature). s.params) c.with_result.result c.in-Ok.ensures.numbered c.with_result.ensures.params

pub returns-in-Err-clause-grown : goal.returns-in-Err-clause-grown
returns-in-Err-clause-grown c = c.in-Err.ensures.grown

pub returns-in-Err-clause-answers : goal.returns-in-Err-clause-answers
returns-in-Err-clause-answers c = λ ts b u.
    let old = c.args.state.now in
    let new = c.parameters.new.state in
    let h = head_of c.args.head.now in
    let told = subst (λ (k : Bool). Answers (λ (ps : List Param). opened_as ts b new ps) (opening_rule (state_of ts b old) k h.params) (Err c.in-Err.stop))
    (sym c.has_result.ensures)
    (answers_as (λ (ps : List Param). opened_as ts b new ps) (opening_rule (state_of ts b old) c.has_result.result h.params)
    (opening_rule (state_of ts b old) c.has_result.result (map parameters_of c.deref.result.now)) (Err c.in-Err.stop)
    (ap (λ (l : List Parameters). opening_rule (state_of ts b old) c.has_result.result l) (ap (map parameters_of) (sym c.deref.ensures.value)))
    (c.in-Err.ensures.answers ts b u)) in
    stops (signature_of ts) (λ (ps : List Param). opened_as ts b new ps) (opening_rule (state_of ts b old) (has_result h.gives) h.params)
    (λ (o : Opening). with_gives o.state.env h.gives o.params) c.in-Err.stop told

pub with_result-requires-clause-ready : goal.with_result-requires-clause-ready
with_result-requires-clause-ready c = c.in-Ok.ensures.extends.ready

pub with_result-requires-clause-params : goal.with_result-requires-clause-params
with_result-requires-clause-params c = c.in-Ok.ensures.fits
