use Rattle.std.proofs.Common.{drop, refl}
use Rattle.std.proofs.lemmas.Result.{err_from_is_err_and}
use Rattle.elf32.specs.Elf.{hook_words}
use Rattle.elf32.proofs.Missing.{because_lists}
use Rattle.elf32.proofs.lists.read_hooks.Goals as goal

pub returns-in_err-count-clause-bad : goal.returns-in_err-count-clause-bad
returns-in_err-count-clause-bad c =
    let p = err_from_is_err_and c.from_residual.result c.from_residual.ensures.1 in
    rw (p.1, p.2) (because_lists hook_words 3 12 (drop c.args.at c.args.note.now) _ (λ x. refl) refl c.in_err-count.ensures.bad)
