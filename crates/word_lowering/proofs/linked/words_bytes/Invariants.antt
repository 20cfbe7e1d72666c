use Rattle.std.proofs.Common.{◌≡◌, ◌++◌, drop}
use Rattle.flat_code.specs.Pieces.{words_bytes}
use Rattle.word_lowering.proofs.linked.words_bytes.Given as goal

-- with what is left, it is all
abbrev pub invariant-loop-word : goal.invariant-loop-word
invariant-loop-word l = l.bytes ++ words_bytes (drop l.word-index l.words) ≡ words_bytes l.words
