use Rattle.std.proofs.Common.{◌≡◌, ◌+◌, drop}
use Rattle.hook_code.specs.HookCode.{bytes_all}
use Rattle.hook_code.proofs.bytes.bytes_all.Given as goal

-- with what is left, it is all
abbrev pub invariant-loop-ty : goal.invariant-loop-ty
invariant-loop-ty l = l.bytes + bytes_all l.types (drop l.ty-index l.tys) ≡ bytes_all l.types l.tys
