use Rattle.std.proofs.Common.{◌≡◌, ◌<◌, ◌^◌, ℕ, length, Some}
use Rattle.std.specs.Prelude.{slice_get}
use Rattle.nim_types.specs.declared.types.TypeDef.TheVariants as D
use Rattle.hook_code.specs.HookCode.{bytes_at}
use Rattle.hook_code.proofs.elements.elements_are_small.Given as goal

-- those before it
abbrev pub invariant-loop-ty : goal.invariant-loop-ty
invariant-loop-ty l = ((i of : ℕ) → i < l.ty → slice_get l.types i ≡ Some (D.Seq of) → bytes_at l.types of < 2 ^ 32) × (l.ty-end ≡ length l.types)
