use Rattle.std.proofs.Common.{◌+◌, ◌-◌, drop, length, refl, arith}
use Rattle.std.proofs.lemmas.List.{length-drop}
use Rattle.elf32.proofs.Missing.{counts_short, counts_crowded, over}
use Rattle.elf32.proofs.lists.count_at.Goals as goal

pub returns-then-left-lt4-clause-bad : goal.returns-then-left-lt4-clause-bad
returns-then-left-lt4-clause-bad c =
    let long = length-drop c.args.at c.args.note.now in
    (refl, counts_short c.args.size (drop c.args.at c.args.note.now) (grind (arith, long)))

pub returns-then-count-left-clause-bad : goal.returns-then-count-left-clause-bad
returns-then-count-left-clause-bad c =
    let n = c.word_at-count.result in
    let long = length-drop (c.args.at + 4) c.args.note.now in
    let more = over (length c.args.note.now - c.args.at - 4) c.args.size n c.requires.size in (
      refl,
      counts_crowded c.args.size n (drop c.args.at c.args.note.now) (drop (c.args.at + 4) c.args.note.now) (grind (arith)) c.word_at-count.ensures.there
          (grind (arith, long, more)),
    )
