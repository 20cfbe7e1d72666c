use Rattle.std.proofs.Common.{◌≡◌, ◌+◌, drop}
use Rattle.word_lowering.specs.Stored.{bytes_all}
use Rattle.word_lowering.proofs.stored.bytes_all.Given as goal

-- with what is left, it is all
abbrev pub invariant-loop-ty : goal.invariant-loop-ty
invariant-loop-ty l = l.bytes + bytes_all l.types (drop l.ty-index l.tys) ≡ bytes_all l.types l.tys
