use Rattle.std.proofs.Common.{◌≤◌, length, sym, arith}
use Rattle.plain_plan.proofs.Beyond.{unhooked_beyond}
use Rattle.plain_plan.proofs.known.is_hooked.Goals as goal

pub returns : goal.returns
returns c =
    let a = c.args.around.now in
    a.hooks c.args.ty _ (omega (arith, c.if-ty-count.false, c.count.ensures.count)) c.is_hooked.ensures

pub returns-then-ty-count : goal.returns-then-ty-count
returns-then-ty-count c =
    let ds = c.args.around.now.types.now in
    let le : length ds ≤ c.args.ty = omega (arith, c.if-ty-count.true, c.count.ensures.count) in
    sym (unhooked_beyond ds c.args.ty le)
