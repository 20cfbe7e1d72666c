use Rattle.std.proofs.Common.{ap, ◌∙◌, map}
use Rattle.flat_code.specs.declared.block.BlockLine.TheVariants.{Plain}
use Rattle.flat_code.specs.Codes.{each_line}
use Rattle.goto_exceptions.proofs.Branched.{branched}
use Rattle.goto_exceptions.proofs.blocks.branches.Goals as goal

pub returns : goal.returns
returns c =
    branched c.args.owned.now _ (c.in_ok-procs.ensures ∙ ap (map (each_line Plain)) c.as_slice.ensures) c.agreement.ensures.itself
    c.codes.ensures.owned
