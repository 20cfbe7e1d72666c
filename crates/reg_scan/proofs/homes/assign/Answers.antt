use Rattle.std.proofs.Common.{◌+◌, ◌*◌, true, false, refl}
use Rattle.reg_scan.specs.declared.homes.Homes.{Homes}
use Rattle.reg_scan.proofs.OwnHomes.{are_homes, right_by_test, right_in_frame}
use Rattle.reg_scan.proofs.homes.assign.Goals as goal

pub returns-then-is_fine : goal.returns-then-is_fine
returns-then-is_fine c =
    let p = c.args.proc.now in
    let homes : Homes = record { of = c.in_ok-of.of; frame = 4 * (p.vars + 1) } in
    are_homes true p homes c.in_ok-of.ensures refl
    (right_by_test c.deref-2.result.now c.in_ok-choice.choice.labels p homes c.as_slice.result.now c.as_slice-2.result.now c.as_slice.ensures
    c.as_slice-2.ensures
    (c.is_fine-is_fine.ensures.right c.if-is_fine.true) (c.is_fine-is_fine.ensures.first c.if-is_fine.true))

pub returns : goal.returns
returns c =
    let p = c.args.proc.now in
    let homes : Homes = record { of = c.in_ok-of-2.of; frame = 4 * (p.vars + 1) } in
    are_homes false p homes c.in_ok-of-2.ensures refl (right_in_frame p homes c.in_ok-of-2.ensures)
