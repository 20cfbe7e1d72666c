use Rattle.std.proofs.Common.{true, sym, ap, ◌∙◌}
use Rattle.nim_types.specs.Table.{types_in, facts_in}
use Rattle.nim_types.specs.Forms.{hooked}
use Rattle.nim_program.specs.View.{program_under}
use Rattle.plain_plan.proofs.Adding.{adds_two}
use Rattle.plain_plan.proofs.Making.{plain_made}
use Rattle.plain_plan.proofs.plain.plain_plan.Goals as goal

pub invariant_of-around : goal.invariant_of-around
invariant_of-around c = record {
  hooks = λ ty says l h.
      let f = c.requires.forms ty l in
      h true f.0 f.1 ∙ ap hooked (sym (c.type_forms.ensures.computed _ _ f.0 f.1));
}

pub returns-clause-is : goal.returns-clause-is
returns-clause-is c =
    let p = c.args.program.now in
    let program = program_under (types_in p.types) (facts_in p.types) p in
    let sites = c.in_ok-sites.ensures in
    plain_made program _ sites.0 c.new-found.result c.add_block.new.found c.new-found.ensures
    (adds_two c.add_procs.ensures c.add_block.ensures) sites.1 sites.2 c.new.ensures c.new-2.ensures
