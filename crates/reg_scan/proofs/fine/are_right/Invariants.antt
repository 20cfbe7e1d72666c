use Rattle.std.proofs.Common.{◌≡◌, ◌<◌, ℕ, true}
use Rattle.reg_scan.specs.Fine.{is_right_at}
use Rattle.reg_scan.proofs.fine.are_right.Given as goal

-- the registers so far are right
abbrev pub invariant-loop-register : goal.invariant-loop-register
invariant-loop-register l = (r : ℕ) → r < l.register → is_right_at l.of l.homes l.effect l.there l.own l.position r ≡ true
