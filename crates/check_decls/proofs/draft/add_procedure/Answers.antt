use Rattle.std.proofs.Common.{◌≡◌, [], ◌∷◌, ◌++◌, ◌∙◌, ap, ap₂, refl, length, arith}
use Rattle.check_decls.specs.ViewBodies.{announced_by, finished_by}
use Rattle.check_decls.proofs.draft.add_procedure.Goals as goal

pub returns-clause-added : goal.returns-clause-added
returns-clause-added c =
    let old = c.args.draft.now in
    let at = c.args.proc.at in
    let n = c.in_ok-number.number in
    let borrowed = c.args.borrowed in
    let next : n ≡ length old.procs.items = omega (arith, c.in_ok-number.ensures.number, c.len.ensures, old.procs.ok.0) in
    record {
      procs = c.in_ok-push-2.ensures.items;
      completed = c.in_ok-push.ensures.items ∙ ap (λ b. old.completed.items ++ b ∷ []) c.is_whole-whole.ensures;
      text =
          c.in_ok-finish.ensures ∙ ap (λ t. t ++ finished_by c.is_whole-whole.result n) c.in_ok-announce.ensures
          ∙ ap₂ (λ m b. (old.text ++ announced_by borrowed m at) ++ finished_by b m) next c.is_whole-whole.ensures;
      start = refl;
    }
