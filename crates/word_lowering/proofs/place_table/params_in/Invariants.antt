use Rattle.std.proofs.Common.{◌≡◌, ◌++◌, drop}
use Rattle.word_lowering.specs.Lookups.{params_in}
use Rattle.word_lowering.proofs.place_table.params_in.Given as goal

-- with what is left, it is all
abbrev pub invariant-loop-h : goal.invariant-loop-h
invariant-loop-h l = l.params ++ params_in (drop l.h-index l.all) ≡ params_in l.all
