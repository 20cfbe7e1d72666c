use Rattle.std.proofs.Common.{◌≡◌, ◌++◌, drop, map}
use Rattle.flat_code.specs.declared.block.BlockLine.TheVariants.{Plain}
use Rattle.goto_exceptions.proofs.blocks.block_lines.Given as goal

-- with the lines that are left, they are all
abbrev pub invariant-loop-line : goal.invariant-loop-line
invariant-loop-line l = l.block ++ map Plain (drop l.line-index l.lines) ≡ map Plain l.lines
