use Rattle.std.proofs.Common.{◌≡◌, drop}
use Rattle.word_lowering.specs.Layouts.{result_in}
use Rattle.word_lowering.proofs.layouts.result_in.Given as goal

-- with what is left, it is all
abbrev pub invariant-loop-h : goal.invariant-loop-h
invariant-loop-h l = result_in (drop l.h-index l.all) ≡ result_in l.all
