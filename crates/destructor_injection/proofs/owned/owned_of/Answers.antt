use Rattle.std.proofs.Common.{ap, ◌∙◌, map}
use Rattle.flat_code.specs.Codes.{each_line, under}
use Rattle.destructor_injection.proofs.Injected.{owned_by}
use Rattle.destructor_injection.proofs.owned.owned_of.Goals as goal

pub returns : goal.returns
returns c order =
    owned_by c.args.flat.now c.args.plan.now _ (c.in_ok-procs.ensures order ∙ ap (map (each_line (under c.args.plan.now))) c.as_slice.ensures)
    c.agreement.ensures.itself c.codes.ensures.flat
