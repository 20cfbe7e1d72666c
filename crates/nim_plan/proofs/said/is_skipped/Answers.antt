use Rattle.std.proofs.Common.{rules}
use Rattle.std.proofs.lemmas.List.Sorted.{answers_always}
use Rattle.nim_plan.proofs.Entries.{pair_of, only_skips, all_skips}
use Rattle.nim_plan.proofs.said.is_skipped.Goals as goal

pub returns-clause-only : goal.returns-clause-only
returns-clause-only c =
    let found = c.binary_search_by_key-found.ensures in
    let at = found.position pair_of (answers_always _ _ _ (λ f a r g called. search rules)) in
    rw c.is_ok.ensures.value (only_skips c.as_slice-skips.result.now c.args.plan.now.skips (c.args.place, c.args.exit) c.as_slice-skips.ensures
    c.binary_search_by_key-found.result found.bound at)

pub returns-clause-all : goal.returns-clause-all
returns-clause-all c order has =
    let at = c.binary_search_by_key-found.ensures.position pair_of (answers_always _ _ _ (λ f a r g called. search rules)) in
    rw c.is_ok.ensures.value (all_skips c.as_slice-skips.result.now c.args.plan.now.skips (c.args.place, c.args.exit) c.as_slice-skips.ensures
    c.binary_search_by_key-found.result at order.skips has)
