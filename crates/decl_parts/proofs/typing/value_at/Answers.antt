use Rattle.std.proofs.Common.{refl, List}
use Rattle.nim_tree.specs.Terms.{term_of}
use Rattle.nim_types.specs.Types.{Ty}
use Rattle.expr_rules.specs.Env.{Env}
use Rattle.expr_parts.specs.View.{want_of}
use Rattle.decl_rules.specs.Values.{valued_term}
use Rattle.decl_parts.proofs.Judging.{typing_by}
use Rattle.decl_parts.proofs.typing.value_at.Goals as goal

pub returns : goal.returns
returns c =
    typing_by (λ (ts : List Ty) (env : Env). valued_term env (want_of ts c.args.want) c.args.first (term_of c.args.tree.now))
    c.valued_term.ensures.grown refl c.valued_term.ensures.answers c.valued_term.ensures.within

pub valued_term-requires-clause-ready : goal.valued_term-requires-clause-ready
valued_term-requires-clause-ready c = c.requires.ready.all
