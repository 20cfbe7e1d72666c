use Rattle.std.proofs.Common.{List, refl}
use Rattle.nim_tree.specs.Types.{written_of}
use Rattle.nim_types.specs.Types.{Ty}
use Rattle.expr_rules.specs.Env.{Env}
use Rattle.decl_rules.specs.Written.{written_type}
use Rattle.decl_parts.proofs.Judging.{typing_by}
use Rattle.decl_parts.proofs.written.written_type.Goals as goal

pub returns : goal.returns
returns c =
    typing_by (λ (ts : List Ty) (env : Env). written_type env (written_of c.args.tree.now)) c.written_type.ensures.grown refl c.written_type.ensures.answers
    c.written_type.ensures.within

pub written_type-requires : goal.written_type-requires
written_type-requires c = record { ready = c.requires.ready.all }
