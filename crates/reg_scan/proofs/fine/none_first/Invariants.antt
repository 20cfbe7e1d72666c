use Rattle.std.proofs.Common.{◌≡◌, ◌<◌, ℕ, true}
use Rattle.reg_scan.specs.Fine.{holder, is_past}
use Rattle.reg_scan.proofs.fine.none_first.Given as goal

-- the registers so far hold no parameter
abbrev pub invariant-loop-register : goal.invariant-loop-register
invariant-loop-register l = (r : ℕ) → r < l.register → is_past (holder l.of 0 r) l.params ≡ true
