use Rattle.std.proofs.Common.{◌≡◌, ◌++◌, drop}
use Rattle.std.specs.List.{flat_map}
use Rattle.elf32.specs.Elf.{words, site_words}
use Rattle.elf32.proofs.writer.push_sites.Given as goal

-- with the words of what is left, they are the words of all
abbrev pub invariant-loop-site : goal.invariant-loop-site
invariant-loop-site l = l.bytes ++ words (flat_map site_words (drop l.site-index l.sites)) ≡ l.initial.bytes ++ words (flat_map site_words l.sites)
