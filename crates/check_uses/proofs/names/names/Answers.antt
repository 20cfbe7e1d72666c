use Rattle.std.proofs.Common.{◌≡◌, ◌≤◌, ◌∙◌, ap, length, arith}
use Rattle.std.proofs.lemmas.Option.{slice_get_past}
use Rattle.decl_rules.specs.Whole.{occurring}
use Rattle.check_uses.specs.Uses.{seen}
use Rattle.number_sets.specs.Numbers.{with_number}
use Rattle.check_uses.specs.Known.{all_procs}
use Rattle.check_uses.proofs.Listing.{listed_at}
use Rattle.check_uses.proofs.Searching.{search_begins, search_goes_on, search_finds, search_ends, names_so, names_not, leaves_none, leaves_some}
use Rattle.check_uses.proofs.names.names.Goals as goal

pub loop-next-init : goal.loop-next-init
loop-next-init c =
    search_begins (all_procs c.args.known.now) c.args.global c.args.proc c.add.new.self
    (c.in_ok-add.ensures ∙ ap (with_number c.args.proc) c.clear.ensures)

pub loop-next-preserved : goal.loop-next-preserved
loop-next-preserved c =
    let all = all_procs c.args.known.now in
    let g = c.args.global in
    let q = c.get-number.result in
    let listed : seen c.uses_of.result.now ≡ occurring all q =
    c.uses_of.ensures ∙ listed_at c.args.known.now.procs.now.items c.args.known.now.uses.items q c.args.known.now.listed in
    search_goes_on all g c.args.proc c.loop-next.next q c.loop-next.reached c.visit.new.reached c.loop-next.invariant c.get-number.ensures
    (leaves_some g (occurring all q) (seen c.uses_of.result.now) c.in_ok-found.found c.loop-next.reached c.visit.new.reached
    c.if-found.false listed c.in_ok-found.ensures)

pub returns : goal.returns
returns c =
    let all = all_procs c.args.known.now in
    let past : length c.loop-next.reached ≤ c.loop-next.next = omega (arith, c.count.ensures, c.loop-next-test.false) in
    names_not c.names_found.ensures all c.args.global c.args.proc
    (search_ends all c.args.global c.args.proc c.loop-next.next c.loop-next.reached c.loop-next.invariant
    (slice_get_past c.loop-next.reached c.loop-next.next past))

pub returns-then-found : goal.returns-then-found
returns-then-found c =
    let all = all_procs c.args.known.now in
    let g = c.args.global in
    let q = c.get-number.result in
    let listed : seen c.uses_of.result.now ≡ occurring all q =
    c.uses_of.ensures ∙ listed_at c.args.known.now.procs.now.items c.args.known.now.uses.items q c.args.known.now.listed in
    names_so c.names_found.ensures all g c.args.proc
    (search_finds all g c.args.proc c.loop-next.next q c.loop-next.reached c.loop-next.invariant c.get-number.ensures
    (leaves_none g (occurring all q) (seen c.uses_of.result.now) c.in_ok-found.found c.loop-next.reached c.visit.new.reached
    c.if-found.true listed c.in_ok-found.ensures))
