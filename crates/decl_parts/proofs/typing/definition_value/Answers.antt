use Rattle.std.proofs.Common.{◌≡◌, ◌∙◌, refl, sym, ap, length, Bool, List, Some, None}
use Rattle.std.specs.Prelude.{Ok, Option}
use Rattle.arc_base.specs.Refusal.{and_then}
use Rattle.nim_tree.specs.Terms.{term_of}
use Rattle.nim_types.specs.Types.{Ty}
use Rattle.nim_types.specs.Table.{facts_in}
use Rattle.nim_program.specs.View.{if_type}
use Rattle.expr_rules.specs.Answers.{Valued, Want}
use Rattle.expr_rules.specs.Env.{Env}
use Rattle.expr_parts.specs.View.{valued_of}
use Rattle.expr_parts.proofs.ForCallers.{answers_as}
use Rattle.decl_rules.specs.Values.{Value, valued_term, accepted_if, result_want}
use Rattle.decl_rules.specs.Definitions.{annotated}
use Rattle.decl_written.specs.ViewWritten.{numbered_of}
use Rattle.decl_parts.specs.View.{no_other_type, env_in, NumberedWithin}
use Rattle.expr_parts.proofs.ForCallers.{below_more}
use Rattle.decl_parts.proofs.Growing.{ok_by}
use Rattle.decl_parts.proofs.Judging.{typing_as, typing_then, typing_stops}
use Rattle.decl_parts.proofs.typing.definition_value.Goals as goal

annotated_if : (ty : Option Ty) (v : Valued) → annotated ty v ≡ accepted_if (no_other_type ty v.of) v
annotated_if None v = refl
annotated_if (Some ty) v = refl

pub returns-in-Ok : goal.returns-in-Ok
returns-in-Ok c =
    let v = c.in-Ok.given in
    let types = c.value_at.new.state.types in
    let go = λ (ts : List Ty) (x : Value). and_then (annotated (if_type ts c.args.ty) x.given) (λ _. Ok x) in
    let said = λ (ts : List Ty) (env : Env) (w : Want). and_then (valued_term env w c.args.first (term_of c.args.tree.now)) (go ts) in
    typing_as (λ ts env. said ts env (result_want (if_type ts c.args.ty)))
    (λ ts u. ap (said ts (env_in ts c.args.state.now)) (sym (c.result_want.ensures.want ts)))
    (typing_then (λ (ts : List Ty) (env : Env). go ts) c.in-Ok.ensures
    (λ ts u.
    let by = λ (b : Bool). and_then (accepted_if b (valued_of ts v.value)) (λ _. Ok (numbered_of ts v)) in
    answers_as (numbered_of ts) (go ts (numbered_of ts v)) (by c.is_annotated.result) c.numbered_if.result
    (ap (λ a. and_then a (λ _. Ok (numbered_of ts v))) (annotated_if (if_type ts c.args.ty) (valued_of ts v.value))
    ∙ ap by (c.is_annotated.ensures ts (facts_in types) u))
    (c.numbered_if.ensures.answers ts))
    (ok_by (NumberedWithin (length types)) v c.numbered_if.result c.in-Ok.ensures.fits c.numbered_if.ensures.same))

pub returns-in-Err : goal.returns-in-Err
returns-in-Err c =
    let go = λ (ts : List Ty) (x : Value). and_then (annotated (if_type ts c.args.ty) x.given) (λ _. Ok x) in
    let said = λ (ts : List Ty) (env : Env) (w : Want). and_then (valued_term env w c.args.first (term_of c.args.tree.now)) (go ts) in
    typing_as (λ ts env. said ts env (result_want (if_type ts c.args.ty)))
    (λ ts u. ap (said ts (env_in ts c.args.state.now)) (sym (c.result_want.ensures.want ts)))
    (typing_stops numbered_of NumberedWithin (λ (ts : List Ty) (env : Env). go ts) c.in-Err.ensures)

pub value_at-requires-clause-want : goal.value_at-requires-clause-want
value_at-requires-clause-want c = c.result_want.ensures.within (length c.args.state.now.types) c.requires.ty

pub is_annotated-requires-clause-ty : goal.is_annotated-requires-clause-ty
is_annotated-requires-clause-ty c =
    below_more (length c.args.state.now.types) (length c.value_at.new.state.types) c.args.ty c.value_at.ensures.grown.length c.requires.ty
