-- Sizes of what is written in a definition, by its nodes and their types. No public contract speaks of it.
use Rattle.std.specs.Prelude.{List, ◌∷◌, Ok}
use Rattle.arc_base.specs.Refusal.{and_then}
use Rattle.nim_types.specs.Types.{Ty, Facts}
use Rattle.expr_rules.specs.Answers.{Answer}
use Rattle.decl_rules.specs.Written.{within_size}
use Rattle.decl_types.specs.declared.nodes.Node.{Node}
use Rattle.decl_types.specs.declared.nodes.Node.TheVariants as N

abbrev pub node_sized : Facts → Node → Ty → Answer (Unit {0})
node_sized facts (N.Array at len i) ty = within_size facts at ty
node_sized facts (N.Tuple at names is) ty = within_size facts at ty
node_sized facts _ ty = Ok tt

abbrev pub nodes_sized : Facts → List Node → List Ty → Answer (Unit {0})
nodes_sized facts (node ∷ nodes) (ty ∷ types) = and_then (node_sized facts node ty) (λ _. nodes_sized facts nodes types)
nodes_sized facts _ _ = Ok tt
