use Rattle.std.proofs.Common.{◌≡◌, ◌++◌, List, length}
use Rattle.word_code.specs.declared.word.WordInstr.{WordInstr}
use Rattle.word_lowering.specs.declared.may_lower.TheConstants.{MOST_ROOM}
use Rattle.word_lowering.specs.Layouts.{AllBeginBy}
use Rattle.word_lowering.specs.LineCode.{arguments_code, operands}
use Rattle.word_lowering.specs.Scope.{around_of}
use Rattle.word_lowering.proofs.calls.emit_arguments.Given as goal

-- with what is left, it is all; and the parameters that are left begin within the places of a call
abbrev pub invariant-loop-param : goal.invariant-loop-param
invariant-loop-param l = record {
  code : (k : List WordInstr) → l.code ++ arguments_code (around_of l.x) l.label l.params (operands (around_of l.x) l.left) k
      ≡ l.initial.code ++ arguments_code (around_of l.x) l.label l.initial.params (operands (around_of l.x) l.from) k;
  params : AllBeginBy MOST_ROOM l.params;
}

abbrev pub decreases-loop-param : goal.decreases-loop-param
decreases-loop-param l = length l.params
