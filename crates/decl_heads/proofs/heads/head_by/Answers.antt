use Rattle.std.proofs.Common.{◌≡◌, ◌∙◌, ap, ap₂, sym, subst, ℕ, List, Bool, length}
use Rattle.std.specs.Prelude.{map, Ok, Option}
use Rattle.arc_base.specs.Refusal.{and_then}
use Rattle.nim_tree.specs.declared.name.Pragma.{Pragma}
use Rattle.nim_tree.specs.Statements.{head_of}
use Rattle.nim_types.specs.Table.{facts_in}
use Rattle.nim_program.specs.View.{if_type}
use Rattle.nim_program.specs.declared.program.Param.{Param}
use Rattle.expr_rules.specs.Answers.{Answer}
use Rattle.expr_rules.specs.Env.{Parameter}
use Rattle.expr_parts.specs.declared.scope.Parameter.{Parameter as RustParameter}
use Rattle.expr_parts.specs.View.{parameter_of, ParametersWithin}
use Rattle.expr_parts.proofs.ForCallers.{answers_as}
use Rattle.decl_rules.specs.State.{if_typed, own_entries}
use Rattle.decl_rules.specs.Heads.{completion_rule, earlier, head_fits, headed, has_pragma, is_borrow, parameters_of, procedure_name, head_by}
use Rattle.decl_parts.specs.View.{state_of}
use Rattle.decl_heads.specs.ViewHeads.{given_of, GivenWithin, signature_of, headed_of, completed_by}
use Rattle.decl_heads.proofs.Heading.{if_named}
use Rattle.decl_heads.proofs.heads.head_by.Goals as goal

pub returns-clause-said : goal.returns-clause-said
returns-clause-said c = λ ts b u k.
    let s = c.args.state.now in
    let st = state_of ts b s in
    let at = c.args.at in
    let h = head_of c.args.head.now in
    let sign = signature_of ts c.args.signature.now in
    let gives = if_type ts c.args.signature.now.gives in
    let ps = map (parameter_of ts) c.as_slice-given.result.now in
    let word : c.as_slice-word.result.now ≡ procedure_name c.args.head.now.name = c.as_slice-word.ensures ∙ c.in_ok-name.ensures.name in
    let params : parameters_of sign.params ≡ ps =
    ap (λ (l : List Param). parameters_of (map (given_of ts) l)) (sym c.as_slice.ensures) ∙ sym (c.in_ok-params.ensures.params ts)
    ∙ ap (λ (l : List RustParameter). map (parameter_of ts) l) (sym c.as_slice-given.ensures) in
    let borrows = has_pragma is_borrow h.pragmas in
    let rule = λ (l : List Parameter) (x : List ℕ). completion_rule st at c.args.has_body l gives (earlier x l (own_entries st)) in
    let by = λ (a : Answer (Option ℕ)) (fits : Bool). and_then a (λ o. and_then (if_typed fits at) (λ _. Ok (headed st h sign o))) in
    answers_as (headed_of ts c.args.signature.now) (head_by st at h c.args.has_body sign)
    (by (completed_by at c.completion_in-completes.result) c.head_fits-fits.result)
    c.headed_by.result
    (ap (λ (l : List Parameter). by (rule l (procedure_name h.name)) (head_fits st.env h borrows c.args.has_body l gives)) params
    ∙ ap (λ (x : List ℕ). by (rule ps x) (head_fits st.env h borrows c.args.has_body ps gives)) (sym word)
    ∙ ap₂ by (c.completion_in-completes.ensures ts b at u k) (c.head_fits-fits.ensures ts (facts_in s.types) u word))
    (c.headed_by.ensures.answers ts c.args.signature.now st h (c.in_ok-number.ensures.next ∙ k.count)
    (ap (λ (l : List Pragma). has_pragma is_borrow l) (sym c.deref.ensures.value) ∙ c.has_borrow-borrowed.ensures))

pub returns-clause-name : goal.returns-clause-name
returns-clause-name c = if_named c.args.head.now.name c.in_ok-name.name c.headed_by.result c.in_ok-name.ensures.name c.headed_by.ensures.name

pub head_fits-fits-requires-clause-params : goal.head_fits-fits-requires-clause-params
head_fits-fits-requires-clause-params c =
    subst (ParametersWithin (length c.args.state.now.types)) (sym c.as_slice-given.ensures)
    (c.in_ok-params.ensures.within (length c.args.state.now.types)
    (subst (GivenWithin (length c.args.state.now.types)) (sym c.as_slice.ensures) c.requires.within.params))

pub head_fits-fits-requires-clause-decls : goal.head_fits-fits-requires-clause-decls
head_fits-fits-requires-clause-decls c = c.requires.ready.all.decls

pub head_fits-fits-requires-clause-gives : goal.head_fits-fits-requires-clause-gives
head_fits-fits-requires-clause-gives c = c.requires.within.gives

pub completion_in-completes-requires-clause-params : goal.completion_in-completes-requires-clause-params
completion_in-completes-requires-clause-params c =
    subst (ParametersWithin (length c.args.state.now.types)) (sym c.as_slice-given.ensures)
    (c.in_ok-params.ensures.within (length c.args.state.now.types)
    (subst (GivenWithin (length c.args.state.now.types)) (sym c.as_slice.ensures) c.requires.within.params))

pub completion_in-completes-requires-clause-gives : goal.completion_in-completes-requires-clause-gives
completion_in-completes-requires-clause-gives c = c.requires.within.gives
