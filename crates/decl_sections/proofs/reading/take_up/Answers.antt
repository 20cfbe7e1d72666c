use Rattle.std.proofs.Common.{◌∷◌, [], length, ◌∙◌, ap, subst, arith, length-append}
use Rattle.decl_types.specs.ViewScoped.{KnowsAll}
use Rattle.std.specs.Prelude.{map}
use Rattle.decl_types.specs.ViewKnown.{Holds}
use Rattle.decl_types.specs.ViewMarks.{Stuck}
use Rattle.decl_types.specs.ViewMarks.{is_unknown}
use Rattle.decl_types.proofs.ForCallers.{holds_last, on_one}
use Rattle.decl_sections.proofs.reading.take_up.Goals as goal

pub returns-clause-knows : goal.returns-clause-knows
returns-clause-knows c =
    on_one c.know_all.result c.know_all.ensures.knows (λ knows.
    subst (KnowsAll c.args.types.now c.know_all.new.types c.args.scope.now c.know_all.new.scope c.args.frame.now.names c.args.reading.now.known.items
    c.know_all.new.known.items) c.as_slice.ensures.value knows)

pub know_all-requires-clause-room : goal.know_all-requires-clause-room
know_all-requires-clause-room c =
    let l = ap length c.in_ok-push.ensures.items in
    let k = ap length c.as_slice.ensures.value in
    omega (arith, c.requires.room, l, k, length-append c.args.reading.now.read.items (c.args.definition ∷ []))

pub know_all-requires-clause-holds : goal.know_all-requires-clause-holds
know_all-requires-clause-holds c =
    holds_last (length c.args.types.now) c.args.types.now c.args.reading.now.known.items c.args.reading.now.read.items
    c.as_slice.result.now c.args.definition (omega arith) c.requires.holds c.requires.ordered c.requires.sound
    (c.as_slice.ensures.value ∙ c.in_ok-push.ensures.items)

pub returns-clause-holds : goal.returns-clause-holds
returns-clause-holds c =
    on_one c.know_all.result c.know_all.ensures.holds (λ h.
    subst (Holds c.know_all.new.types c.know_all.new.known.items) c.as_slice.ensures.value h)

pub returns-clause-stuck : goal.returns-clause-stuck
returns-clause-stuck c =
    on_one c.know_all.result c.know_all.ensures.stuck (λ h. subst (Stuck (map is_unknown c.know_all.new.known.items)) c.as_slice.ensures.value h)
