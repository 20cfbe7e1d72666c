use Rattle.std.proofs.Common.{◌≡◌, ◌++◌, drop}
use Rattle.elf32.specs.Elf.{words}
use Rattle.elf32.proofs.words.push_words.Given as goal

-- with the words of what is left, they are the words of all
abbrev pub invariant-loop-n : goal.invariant-loop-n
invariant-loop-n l = l.bytes ++ words (drop l.n-index l.numbers) ≡ l.initial.bytes ++ words l.numbers
