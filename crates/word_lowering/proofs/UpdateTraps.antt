-- Traps that the code of an update may come to.
use Rattle.std.proofs.Common.{◌≡◌, ℕ, List, ◌∷◌, Bool, true, false, ℤ}
use Rattle.std.proofs.Common.{refl, ap, ◌∙◌}
use Rattle.std.specs.Prelude.{◌||◌}
use Rattle.rv32_isa.specs.declared.micro_op.Size.{Size}
use Rattle.rv32_isa.specs.declared.micro_op.Size.TheVariants.{Byte, Word}
use Rattle.nim_program.specs.declared.operation.Operator.{Operator}
use Rattle.nim_program.specs.declared.operation.Operator.TheVariants as binary
use Rattle.nim_program.specs.Fitting.{steps, updates}
use Rattle.nim_program.specs.Ints.{Checked, Fine, Trapped, applied}
use Rattle.word_code.specs.declared.word.WordInstr.{WordInstr}
use Rattle.word_code.specs.declared.word.WordInstr.TheVariants.{Load, Store}
use Rattle.word_lowering.specs.declared.homes.TheConstants.{FIRST, FOURTH, SECOND}
use Rattle.word_lowering.specs.declared.homes.Home.{Home}
use Rattle.word_lowering.specs.declared.spots.Spot.{Spot}
use Rattle.word_lowering.specs.declared.spots.Spot.TheVariants.{Held, Lies, Letter}
use Rattle.word_lowering.specs.LineCode.{updated_code}
use Rattle.word_lowering.specs.Lowered.{any_branches, branches_to}
use Rattle.word_lowering.specs.Operations.{binary_code, trap_label}
use Rattle.word_lowering.specs.Spots.{address}
use Rattle.word_lowering.proofs.OperandLines.{MayTrap, binary_may}
use Rattle.word_lowering.proofs.ShapeFacts.{never}

or_true : (b : Bool) → (b || true) ≡ true
or_true true = refl
or_true false = refl

pub may_map : (leads more : ℕ → Type 0) → ((trap : ℕ) → leads trap → more trap) → (r : Checked) → MayTrap leads r → MayTrap more r
may_map leads more f (Fine z) h = tt
may_map leads more f (Trapped trap) h = f (trap_label trap) h

-- at an address
put_back_may : (label : ℕ) (operator : Operator) (home : Home) (size : Size) (by : ℕ) (u v : ℤ)
    → MayTrap (λ trap. (k : List WordInstr) → any_branches trap (address SECOND home ∷ Load FOURTH SECOND size
    ∷ binary_code label operator FOURTH FOURTH by (address FIRST home ∷ Store FIRST FOURTH size ∷ k)) ≡ true) (applied operator u v)
put_back_may label operator home size by u v =
    may_map (λ trap. (k : List WordInstr) → any_branches trap (binary_code label operator FOURTH FOURTH by k) ≡ true)
    (λ trap. (k : List WordInstr) → any_branches trap (address SECOND home ∷ Load FOURTH SECOND size
    ∷ binary_code label operator FOURTH FOURTH by (address FIRST home ∷ Store FIRST FOURTH size ∷ k)) ≡ true)
    (λ trap h k. ap (λ b. branches_to trap (address SECOND home) || b) (h (address FIRST home ∷ Store FIRST FOURTH size ∷ k))
    ∙ or_true (branches_to trap (address SECOND home)))
    (applied operator u v) (binary_may label FOURTH FOURTH by operator u v)

pub updated_may : (label : ℕ) (operator : Operator) (p : Spot) (by : ℕ) (u v : ℤ)
    → MayTrap (λ trap. (k : List WordInstr) → any_branches trap (updated_code label operator p by k) ≡ true) (applied operator u v)
updated_may label operator (Held to) by u v = binary_may label to to by operator u v
updated_may label operator (Lies home) by u v = put_back_may label operator home Word by u v
updated_may label operator (Letter home) by u v = put_back_may label operator home Byte by u v

pub step_updates : (operator : Operator) → steps operator ≡ true → updates operator ≡ true
step_updates binary.Add h = refl
step_updates binary.Subtract h = refl
step_updates operator h = never h
