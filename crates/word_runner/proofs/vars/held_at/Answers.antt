use Rattle.std.proofs.Common.{◌≡◌, ◌≤◌, ◌<◌, List, length, get_or, sym, subst}
use Rattle.word_runner.proofs.VarRows.{held_past, held_there}
use Rattle.word_runner.proofs.vars.held_at.Goals as goal

pub returns-in-None : goal.returns-in-None
returns-in-None g c =
    let held = c.args.held.now.items in
    let le : length held ≤ c.args.at = subst (λ (l : List _). length l ≤ c.args.at) c.deref.ensures.value c.in-None.ensures.lookup.3 in
    sym (held_past held c.args.at le)

pub returns-in-Some : goal.returns-in-Some
returns-in-Some g c =
    let held = c.args.held.now.items in
    let x = c.in-Some.x.now in
    let lt : c.args.at < length held = subst (λ (l : List _). c.args.at < length l) c.deref.ensures.value c.in-Some.ensures.lookup.3.0 in
    let e = subst (λ (l : List _). x ≡ get_or l c.args.at x) c.deref.ensures.value c.in-Some.ensures.lookup.1 in
    held_there held c.args.at x lt e
