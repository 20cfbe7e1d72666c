use Rattle.std.proofs.Common.{length-append}
use Rattle.word_code.proofs.laws.joining.Goals as goal

pub returns : goal.returns
returns c = record { statics = λ code other. length-append code.statics other.statics }
