use Rattle.std.proofs.Common.{length, sym, ◌∙◌}
use Rattle.expr_parts.proofs.ForCallers.{if_ok}
use Rattle.decl_types.proofs.known.add_fields.Goals as goal

pub add_object-requires-clause-within : goal.add_object-requires-clause-within
add_object-requires-clause-within c = c.in_ok-parts.ensures.within (length c.args.types.now) c.requires.below

pub add_object-requires-clause-one_each : goal.add_object-requires-clause-one_each
add_object-requires-clause-one_each c = c.in_ok-parts.ensures.length ∙ sym c.requires.one_each

pub returns-clause-declares : goal.returns-clause-declares
returns-clause-declares c = if_ok c.add_object.result c.add_object.ensures.declares (λ id d. (
  c.in_ok-parts.parts,
  c.in_ok-parts.ensures.each,
  c.in_ok-parts.ensures.length ∙ sym c.requires.one_each,
  c.in_ok-parts.ensures.within (length c.args.types.now) c.requires.below,
  d,
))
