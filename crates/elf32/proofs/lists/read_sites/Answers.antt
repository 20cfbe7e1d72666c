use Rattle.std.proofs.Common.{◌+◌, ◌*◌, drop, refl, arith}
use Rattle.std.proofs.lemmas.Result.{err_from_is_err_and}
use Rattle.elf32.specs.Elf.{site_words}
use Rattle.elf32.proofs.Missing.{because_lists, sites_stuck}
use Rattle.elf32.proofs.lists.read_sites.Goals as goal

pub returns-in_err-count-clause-bad : goal.returns-in_err-count-clause-bad
returns-in_err-count-clause-bad c =
    let p = err_from_is_err_and c.from_residual.result c.from_residual.ensures.1 in
    rw (p.1, p.2) (because_lists site_words 2 8 (drop c.args.at c.args.note.now) _ (λ x. refl) refl c.in_err-count.ensures.bad)

pub returns-in_default-clause-bad : goal.returns-in_default-clause-bad
returns-in_default-clause-bad c =
    let place = c.args.at + 4 + 8 * c.loop-index.index in
    let note = c.args.note.now in (
      refl,
      sites_stuck (drop c.args.at note) (drop (c.args.at + 4) note) (drop place note) (drop (place + 4) note) (drop (place + 4 + 4) note)
          c.in_ok-count.field-0 c.word_at-site.result c.word_at.result c.loop-index.items
          (grind (arith)) (grind (arith)) c.in_ok-count.ensures.there c.loop-index.invariant.2
          (grind (arith, c.loop-index.invariant.0, c.loop-index-test.true)) c.word_at-site.ensures.there c.word_at.ensures.there
          (grind (arith, c.act_of.ensures.none, c.in_default.ensures.none)),
    )
