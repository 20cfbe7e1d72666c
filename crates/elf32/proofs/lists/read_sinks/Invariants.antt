use Rattle.std.proofs.Common.{◌≡◌, ◌<◌, ◌^◌, ◌+◌, ◌*◌, ◌++◌, drop, length}
use Rattle.std.specs.List.{AllByRecursion, flat_map}
use Rattle.elf32.specs.Elf.{words, sink_words}
use Rattle.elf32.proofs.lists.read_sinks.Given as goal

-- there are as many, and their words stand before what is left
abbrev pub invariant-loop-index : goal.invariant-loop-index
invariant-loop-index l =
    (length l.items ≡ l.index) × AllByRecursion (λ n. n < 2 ^ 32) (flat_map sink_words l.items) ×
    (drop l.start l.note ≡ words (flat_map sink_words l.items) ++ drop (l.start + 4 * l.index) l.note)
