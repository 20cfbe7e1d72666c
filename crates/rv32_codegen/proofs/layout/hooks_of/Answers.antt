use Rattle.std.proofs.Common.{◌+◌, ◌++◌, take, drop, refl, ap, ◌∙◌, arith}
use Rattle.rv32_codegen.proofs.LayoutPlaces.{within_at}
use Rattle.rv32_codegen.proofs.LayoutImages.{hooks_from, hooks_turn, count_left, hooks_end}
use Rattle.rv32_codegen.proofs.layout.hooks_of.Goals as goal

pub loop-line-init : goal.loop-line-init
loop-line-init c =
    let code = c.args.code.now in
    record { left = omega arith; hooks = ap (λ l. l ++ hooks_from code code) c.new-hooks.ensures }

pub loop-line-preserved : goal.loop-line-preserved
loop-line-preserved c =
    let at = c.loop-line in
    let code = c.args.code.now in
    let i = at.line-index in
    let lt = c.loop-line-test.true in
    let count = at.invariant.left in
    let within = within_at code i _ _ lt refl in
    let added = c.in_ok-push_hook.ensures (take i code) (drop (i + 1) code) within (count_left code i at.left count lt) in
    record { left = omega (arith, count, lt); hooks = added ∙ hooks_turn code i _ _ _ at.hooks lt refl at.invariant.hooks }

pub returns : goal.returns
returns c = hooks_end c.args.code.now c.loop-line.line-index c.loop-line.hooks _ (omega (arith, c.loop-line-test.false)) c.loop-line.invariant.hooks
