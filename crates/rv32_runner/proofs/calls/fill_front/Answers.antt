use Rattle.std.proofs.Common.{rules, ◌≡◌, ◌<◌, length, arith}
use Rattle.rv32_runner.proofs.Filling.{front_may, front_sizes, front_part, gave_take, end_take}
use Rattle.rv32_runner.proofs.calls.fill_front.Goals as goal

pub fill-requires : goal.fill-requires
fill-requires g c =
    let size : length c.take.new.into ≡ c.min-room.result = search rules in
    let room = c.min-room.ensures in
    let bound = c.in_ok-count.ensures.bound in
    front_may c.args.machine.now c.args.at c.args.len c.in_ok-count.count c.take.new.into _ c.requires.to bound (omega arith)

pub returns-clause-sizes : goal.returns-clause-sizes
returns-clause-sizes g c =
    let size : length c.take.new.into ≡ c.min-room.result = search rules in
    let room = c.min-room.ensures in
    let bound = c.in_ok-count.ensures.bound in
    front_sizes c.args.machine.now _ c.args.at c.args.len c.in_ok-count.count c.take.new.into _ c.memories.ensures.sizes c.requires.to bound
    (omega arith) c.fill.ensures

pub returns-clause-fronts : goal.returns-clause-fronts
returns-clause-fronts g c =
    let size : length c.take.new.into ≡ c.min-room.result = search rules in
    let room = c.min-room.ensures in
    let some = c.requires.some in
    let h = c.in_ok-count.ensures in
    let bound = h.bound in
    let long : 0 < length c.take.new.into = omega arith in
    let given = gave_take _ _ _ _ _ _ _ _ c.take.new.into h.stays _ h.bytes h.after_end h.gave in (
      front_part _ _ _ _ _ _ c.take.new.into _ c.are_bytes.ensures.read bound given c.fill.ensures,
      (h.cause.stays, (omega arith, λ none rest may. end_take _ _ _ _ c.take.new.into h.bytes none long (h.end none long) rest may)),
    )
