use Rattle.std.proofs.Common.{refl, ℕ, length, suc, List}
use Rattle.std.proofs.lemmas.Result.{err_from_is_err_and}
use Rattle.nim_tree.specs.Terms.{term_of}
use Rattle.nim_types.specs.Types.{Ty}
use Rattle.expr_rules.specs.Env.{Env}
use Rattle.expr_rules.specs.Typed.{typed}
use Rattle.expr_parts.specs.View.{typed_of, want_of, number_of}
use Rattle.decl_parts.specs.View.{TypedWithin}
use Rattle.decl_parts.proofs.Growing.{below_all}
use Rattle.decl_parts.proofs.Judging.{typing_by, typing_from, typing_forgets}
use Rattle.decl_parts.proofs.typing.type_first.Goals as goal

pub returns : goal.returns
returns c =
    let said = λ (n : ℕ) (ts : List Ty) (env : Env). typed env (want_of ts c.args.want) n (term_of c.args.tree.now) in
    typing_from said c.in_ok-first.ensures.next
    (typing_by (said c.in_ok-first.first) c.type_expr.ensures.grown refl c.type_expr.ensures.answers
    (below_all (length c.type_expr.new.types) (λ t. number_of t.expr) (λ t. t.ty) c.type_expr.result c.type_expr.ensures.number c.type_expr.ensures.within))

pub returns-in_err-first : goal.returns-in_err-first
returns-in_err-first c =
    let said = λ (ts : List Ty) (env : Env). typed env (want_of ts c.args.want) (suc c.args.state.now.node) (term_of c.args.tree.now) in
    let p = err_from_is_err_and c.from_residual.result c.from_residual.ensures.1 in
    rw (p.1, p.2) (typing_forgets c.args.state.now typed_of said TypedWithin _ c.in_err-first.ensures.memory)

pub type_expr-requires-clause-ready : goal.type_expr-requires-clause-ready
type_expr-requires-clause-ready c = c.requires.ready.all
