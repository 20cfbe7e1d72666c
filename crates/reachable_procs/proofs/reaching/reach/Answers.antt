use Rattle.std.proofs.Common.{◌≡◌, ◌≤◌, ◌∙◌, ap, length, arith}
use Rattle.word_code.specs.Words.{from_proc}
use Rattle.number_sets.specs.Numbers.{with_number}
use Rattle.reachable_procs.specs.Reachable.{lines_from}
use Rattle.reachable_procs.specs.Search.{with_called}
use Rattle.reachable_procs.proofs.Searching.{search_begins, search_goes_on, search_ends}
use Rattle.reachable_procs.proofs.reaching.reach.Goals as goal

pub loop-next-init : goal.loop-next-init
loop-next-init c = search_begins c.args.procs.now c.add.new.self (c.in_ok-add.ensures ∙ ap (with_number 0) c.new-reached.ensures)

pub loop-next-preserved : goal.loop-next-preserved
loop-next-preserved c =
    let procs = c.args.procs.now in
    let number = c.get-number.result in
    search_goes_on procs c.loop-next.next number c.loop-next.reached c.add_all_called.new.reached c.loop-next.invariant c.get-number.ensures
    (c.in_ok-add_all_called.ensures ∙ ap (λ lines. with_called lines c.loop-next.reached) c.lines_of.ensures)

pub returns : goal.returns
returns c =
    let past : length c.loop-next.reached ≤ c.loop-next.next = omega (arith, c.count.ensures, c.loop-next-test.false) in
    search_ends c.args.procs.now c.loop-next.next c.loop-next.reached c.loop-next.invariant past
