use Rattle.std.proofs.Common.{[]}
use Rattle.std.specs.Prelude.{replicate}
use Rattle.nim_types.specs.Types as type
use Rattle.decl_sections.proofs.Seeing.{outer_number}
use Rattle.nim_types.specs.Table.{type_at}
use Rattle.expr_rules.specs.Names.{named_type}
use Rattle.expr_parts.specs.View.{env_of}
use Rattle.decl_types.specs.ViewNodes.{node_type}
use Rattle.decl_sections.proofs.Productions.{passes}
use Rattle.decl_sections.proofs.spelling.outer_node.Goals as goal

pub returns-in-Ok-clause-answers : goal.returns-in-Ok-clause-answers
returns-in-Ok-clause-answers c = λ ts facts keys done. c.in-Ok.ensures.answers ts facts

pub returns-in-Err-clause-answers : goal.returns-in-Err-clause-answers
returns-in-Err-clause-answers c = λ ts facts keys done.
    passes (node_type ts keys done) (type_at ts) (named_type (env_of ts facts c.args.scope.now) c.args.at c.args.text.now) c.in-Err.stop
    (c.in-Err.ensures.answers ts facts)

pub returns-in-Ok-clause-sound : goal.returns-in-Ok-clause-sound
returns-in-Ok-clause-sound c = λ n m names o none.
    outer_number n m [] names c.args.scope.now c.args.at c.args.text.now c.in-Ok.id o none (c.in-Ok.ensures.answers (replicate n type.bool) [])
