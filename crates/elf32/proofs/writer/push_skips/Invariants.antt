use Rattle.std.proofs.Common.{◌≡◌, ◌++◌, drop}
use Rattle.std.specs.List.{flat_map}
use Rattle.elf32.specs.Elf.{words, skip_words}
use Rattle.elf32.proofs.writer.push_skips.Given as goal

-- with the words of what is left, they are the words of all
abbrev pub invariant-loop-skip : goal.invariant-loop-skip
invariant-loop-skip l = l.bytes ++ words (flat_map skip_words (drop l.skip-index l.skips)) ≡ l.initial.bytes ++ words (flat_map skip_words l.skips)
