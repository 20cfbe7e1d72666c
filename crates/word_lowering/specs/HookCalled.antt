-- The call of a hook as word code: the addresses of two homes are handed over, and the procedure of the type's hook is called.
use Rattle.std.specs.Prelude.{ℕ, List, ◌∷◌}
use Rattle.word_code.specs.declared.word.WordInstr.{WordInstr}
use Rattle.word_code.specs.declared.word.WordInstr.TheVariants.{Argument, Call}
use Rattle.hook_lifting.specs.declared.lifted.Hook.{Hook}
use Rattle.hook_code.specs.HookCode.{hook_number}
use Rattle.word_lowering.specs.declared.homes.TheConstants.{FIRST, SECOND}
use Rattle.word_lowering.specs.declared.homes.Home.{Home}
use Rattle.word_lowering.specs.Spots.{address}

-- where hooks have numbers from one on
abbrev pub hook_called : (first : ℕ) → Hook → (ty : ℕ) → (to from : Home) → List WordInstr → List WordInstr
hook_called first hook ty to from k =
    address FIRST to ∷ address SECOND from ∷ Argument 0 FIRST ∷ Argument 1 SECOND ∷ Call FIRST (hook_number first hook ty) ∷ k
