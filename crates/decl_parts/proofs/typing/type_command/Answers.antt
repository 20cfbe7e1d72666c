use Rattle.std.proofs.Common.{refl, ℕ, length, suc, List}
use Rattle.std.proofs.lemmas.Result.{err_from_is_err_and}
use Rattle.nim_tree.specs.Terms as term
use Rattle.nim_tree.specs.Terms.{term_of, parts_of}
use Rattle.nim_types.specs.Types.{Ty}
use Rattle.expr_rules.specs.Env.{Env}
use Rattle.expr_rules.specs.Typed.{typed}
use Rattle.expr_parts.specs.View.{typed_of, want_of, number_of}
use Rattle.decl_parts.specs.View.{TypedWithin}
use Rattle.decl_parts.proofs.Growing.{below_all}
use Rattle.decl_parts.proofs.Judging.{typing_by, typing_from, typing_forgets}
use Rattle.decl_parts.proofs.typing.type_command.Goals as goal

pub returns : goal.returns
returns c =
    let t = term.call c.args.at (term_of c.args.callee.now) (parts_of c.args.operands.now) in
    let said = λ (n : ℕ) (ts : List Ty) (env : Env). typed env (want_of ts c.args.want) n t in
    typing_from said c.in_ok-first.ensures.next
    (typing_by (said c.in_ok-first.first) c.type_call.ensures.grown refl c.type_call.ensures.answers
    (below_all (length c.type_call.new.types) (λ t. number_of t.expr) (λ t. t.ty) c.type_call.result c.type_call.ensures.number c.type_call.ensures.within))

pub returns-in_err-first : goal.returns-in_err-first
returns-in_err-first c =
    let t = term.call c.args.at (term_of c.args.callee.now) (parts_of c.args.operands.now) in
    let said = λ (ts : List Ty) (env : Env). typed env (want_of ts c.args.want) (suc c.args.state.now.node) t in
    let p = err_from_is_err_and c.from_residual.result c.from_residual.ensures.1 in
    rw (p.1, p.2) (typing_forgets c.args.state.now typed_of said TypedWithin _ c.in_err-first.ensures.memory)

pub type_call-requires-clause-ready : goal.type_call-requires-clause-ready
type_call-requires-clause-ready c = c.requires.ready.all
