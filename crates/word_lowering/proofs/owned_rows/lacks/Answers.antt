use Rattle.std.proofs.Common.{ℕ, ap, sym}
use Rattle.std.specs.Prelude.{nat_lt}
use Rattle.std.proofs.lemmas.List.{length-map}
use Rattle.word_lowering.specs.Operands.{operand}
use Rattle.word_lowering.specs.Scope.{around_of}
use Rattle.word_lowering.proofs.owned_rows.lacks.Goals as goal

pub returns : goal.returns
returns c = ap (λ (k : ℕ). nat_lt k c.args.n) (sym (length-map c.args.from.now (operand (around_of c.args.x.now))))
