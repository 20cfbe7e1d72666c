use Rattle.std.proofs.Common.{◌≡◌, ◌≤◌, take, length}
use Rattle.parse_exprs.specs.Look.{last_spaces, line_spaces}
use Rattle.parse_exprs.proofs.input.Input.spaces_at.Given as goal

abbrev pub decreases-loop-left : goal.decreases-loop-left
decreases-loop-left l = l.left

abbrev pub invariant-loop-left : goal.invariant-loop-left
invariant-loop-left l = record {
  within : l.left ≤ length l.self.tokens.now;
  same : last_spaces 0 (take l.left l.self.tokens.now) ≡ line_spaces l.from l.self.tokens.now;
}
