use Rattle.std.proofs.Common.{◌≡◌, ◌++◌, drop}
use Rattle.hook_code.specs.HookCode.{hook_procs}
use Rattle.hook_code.proofs.procs.push_hooks.Given as goal

-- with those that are left, it is all
abbrev pub invariant-loop-hook : goal.invariant-loop-hook
invariant-loop-hook l = l.all ++ hook_procs l.types l.first (drop l.hook-index l.hooks) ≡ l.initial.all ++ hook_procs l.types l.first l.hooks
