use Rattle.std.proofs.Common.{◌<◌, length, sym, subst, arith}
use Rattle.number_sets.specs.Numbers.{AreStamped}
use Rattle.number_sets.proofs.Stamping.{stamped_more}
use Rattle.number_sets.proofs.numbers.Numbers.add.Goals as goal

pub invariant_of-self-2 : goal.invariant_of-self-2
invariant_of-self-2 c =
    let t = c.self.inside in
    let stamps = c.make_room.new.stamps.items in
    let l : c.args.number < length stamps = omega (arith, c.in_ok-make_room.ensures.enough) in
    stamped_more t.time stamps t.numbers.items c.push.new.self.items c.args.number l c.in_ok-push.ensures.items
    (c.make_room.ensures.kept t.time t.numbers.items c.self.invariant)

pub invariant_of-self : goal.invariant_of-self
invariant_of-self c = c.make_room.ensures.kept c.self.inside.time c.self.inside.numbers.items c.self.invariant

pub invariant_of-self-in_err-push : goal.invariant_of-self-in_err-push
invariant_of-self-in_err-push c =
    subst (AreStamped c.self.inside.time c.make_room.new.stamps.items) (sym c.in_err-push.ensures.items)
    (c.make_room.ensures.kept c.self.inside.time c.self.inside.numbers.items c.self.invariant)
