use Rattle.std.proofs.Common.{ℕ, suc, List}
use Rattle.std.proofs.lemmas.Result.{err_from_is_err_and}
use Rattle.nim_tree.specs.Terms.{term_of}
use Rattle.nim_types.specs.Types.{Ty}
use Rattle.expr_rules.specs.Env.{Env}
use Rattle.nim_program.specs.View.{if_type}
use Rattle.decl_rules.specs.Definitions.{definition_value}
use Rattle.decl_written.specs.ViewWritten.{numbered_of}
use Rattle.decl_parts.specs.View.{NumberedWithin}
use Rattle.decl_parts.proofs.Judging.{typing_from, typing_forgets}
use Rattle.decl_parts.proofs.typing.definition_first.Goals as goal

pub returns : goal.returns
returns c = typing_from (λ (n : ℕ) (ts : List Ty) (env : Env). definition_value env (if_type ts c.args.ty) n (term_of c.args.tree.now))
    c.in_ok-first.ensures.next c.definition_value.ensures

pub returns-in_err-first : goal.returns-in_err-first
returns-in_err-first c =
    let said = λ (ts : List Ty) (env : Env). definition_value env (if_type ts c.args.ty) (suc c.args.state.now.node) (term_of c.args.tree.now) in
    let p = err_from_is_err_and c.from_residual.result c.from_residual.ensures.1 in
    rw (p.1, p.2) (typing_forgets c.args.state.now numbered_of said NumberedWithin _ c.in_err-first.ensures.memory)
