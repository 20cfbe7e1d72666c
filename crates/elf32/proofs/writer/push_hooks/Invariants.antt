use Rattle.std.proofs.Common.{◌≡◌, ◌++◌, drop}
use Rattle.std.specs.List.{flat_map}
use Rattle.elf32.specs.Elf.{words, hook_words}
use Rattle.elf32.proofs.writer.push_hooks.Given as goal

-- with the words of what is left, they are the words of all
abbrev pub invariant-loop-hook : goal.invariant-loop-hook
invariant-loop-hook l = l.bytes ++ words (flat_map hook_words (drop l.hook-index l.hooks)) ≡ l.initial.bytes ++ words (flat_map hook_words l.hooks)
