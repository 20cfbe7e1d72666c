use Rattle.std.proofs.Common.{◌≡◌, drop}
use Rattle.word_lowering.specs.Lookups.{is_sort, found}
use Rattle.word_lowering.proofs.place_table.found.Given as goal

-- with what is left, it is all
abbrev pub invariant-loop-h : goal.invariant-loop-h
invariant-loop-h l = found (is_sort l.sort) l.number (drop l.h-index l.all) ≡ found (is_sort l.sort) l.number l.all
