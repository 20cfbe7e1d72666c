use Rattle.std.proofs.Common.{◌≡◌, ◌++◌, drop}
use Rattle.hook_code.specs.HookCode.{cut_procs}
use Rattle.hook_code.proofs.procs.push_cuts.Given as goal

-- with those that are left, it is all
abbrev pub invariant-loop-cut : goal.invariant-loop-cut
invariant-loop-cut l = l.all ++ cut_procs l.types l.first (drop l.cut-index l.cuts) ≡ l.initial.all ++ cut_procs l.types l.first l.cuts
