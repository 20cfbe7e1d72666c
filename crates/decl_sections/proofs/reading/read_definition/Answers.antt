use Rattle.std.proofs.Common.{length, ap, sym, subst, ◌∙◌}
use Rattle.std.specs.Prelude.{Ok}
use Rattle.decl_sections.specs.ViewBodies.{meant_in}
use Rattle.decl_types.specs.ViewKnown.{Ordered, NodesIn}
use Rattle.decl_types.proofs.ForCallers.{one_each}
use Rattle.decl_types.specs.ViewNodes.{node_types}
use Rattle.decl_sections.specs.ViewSpelled.{formed_since}
use Rattle.decl_sections.proofs.reading.read_definition.Goals as goal

pub returns-in-Ok-clause-answers : goal.returns-in-Ok-clause-answers
returns-in-Ok-clause-answers c = λ ts facts before keys u.
    let new = c.body.new.out.items in
    c.in-Ok.ensures.answers ts facts before keys u
    ∙ ap (λ old. Ok (meant_in (node_types ts keys new) (formed_since ts keys old new) c.in-Ok.meaning)) c.new-nodes.ensures.items

pub returns-in-Ok-clause-ordered : goal.returns-in-Ok-clause-ordered
returns-in-Ok-clause-ordered c = record {
  nodes = c.in-Ok.ensures.further.2 (subst (Ordered 0) (sym c.new-nodes.ensures.items) tt);
  meaning = c.in-Ok.ensures.within;
}

pub returns-in-Ok-clause-sound : goal.returns-in-Ok-clause-sound
returns-in-Ok-clause-sound c = λ n m o. record {
  nodes = c.in-Ok.ensures.sound n m o (subst (NodesIn n m) (sym c.new-nodes.ensures.items) tt);
  fields = one_each (length c.body.new.out.items) c.in-Ok.meaning c.in-Ok.ensures.within;
}
