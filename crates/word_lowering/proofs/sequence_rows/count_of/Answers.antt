use Rattle.std.proofs.Common.{◌≡◌, List, [], ◌∷◌, suc, length, refl, sym, ap, ◌∙◌}
use Rattle.flat_code.specs.declared.line.From.{From}
use Rattle.word_lowering.specs.LineCode.{Around, operands}
use Rattle.word_lowering.specs.Scope.{around_of}
use Rattle.word_lowering.proofs.sequence_rows.count_of.Goals as goal

operands_length : (x : Around) → (from : List From) → length (operands x from) ≡ length from
operands_length x [] = refl
operands_length x (f ∷ from) = ap suc (operands_length x from)

pub returns : goal.returns
returns c = c.in_ok-n.ensures ∙ sym (operands_length (around_of c.args.x.now) c.args.from.now)
