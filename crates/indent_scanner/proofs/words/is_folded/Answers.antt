use Rattle.std.proofs.Common.{sym, ap, ◌∙◌, drop}
use Rattle.indent_scanner.specs.Words.{same}
use Rattle.indent_scanner.proofs.Names.{folded_ends, same_ends}
use Rattle.indent_scanner.proofs.words.is_folded.Goals as goal

pub returns : goal.returns
returns c = same_ends c.args.key.now c.loop-b.at c.loop-b.invariant.inside ∙ ap (λ x. same x (drop c.loop-b.at c.args.key.now))
    (sym (folded_ends c.args.bytes.now c.loop-b.b-index c.loop-b-test.false)) ∙ c.loop-b.invariant.left
