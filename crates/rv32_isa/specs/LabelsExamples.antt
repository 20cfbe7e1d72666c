-- Small label code, and addresses for its marks. No public contract but that of examples speaks of it.
use Rattle.std.specs.Prelude.{ℕ, ◌-◌, ◌*◌, List, [], ◌∷◌, Option, Some, None}
use Rattle.arc_base.specs.Behaviour.{no_objects}
use Rattle.rv32_isa.specs.declared.instr.Instr.TheVariants.{Lui, Jal, Jalr, Lw, Addi, Ecall}
use Rattle.rv32_isa.specs.declared.label.HookLabel.{HookLabel}
use Rattle.rv32_isa.specs.declared.label.LabelName.TheVariants.{Entry, Inner}
use Rattle.rv32_isa.specs.declared.label.LabelLine.{LabelLine}
use Rattle.rv32_isa.specs.declared.label.LabelLine.TheVariants.{Label, Do, Jump, Branch}
use Rattle.rv32_isa.specs.declared.label.Test.TheVariants as test
use Rattle.rv32_isa.specs.Machine.{Lives}
use Rattle.rv32_isa.specs.Labels.{Addresses}

abbrev pub none_live : Lives
none_live = λ s. no_objects

-- four bytes further from mark to mark
abbrev pub close : Addresses
close = λ mark. 65576 - 4 * mark

abbrev pub destroy : HookLabel
destroy = record { kind = 0; of = 5 }

-- a procedure that is a hook: it counts x10 up to x11, and returns
abbrev pub counting : List LabelLine
counting =
    Label (Entry 1) (Some destroy)
    ∷ Do (Addi 10 10 1)
    ∷ Branch test.Unequal 10 11 (Inner 1 0)
    ∷ Do (Jalr 0 1 0)
    ∷ Label (Inner 1 0) None
    ∷ Jump 0 (Entry 1)
    ∷ []

-- calls it, and exits with what it counted
abbrev pub calling : List LabelLine
calling = Label (Entry 0) None ∷ Do (Addi 11 0 2) ∷ Jump 1 (Entry 1) ∷ Do (Addi 17 0 93) ∷ Do Ecall ∷ counting

-- a jump to where no mark is
abbrev pub lost : List LabelLine
lost = Do (Addi 5 0 8) ∷ Do (Jalr 0 5 0) ∷ []

-- a load of code
abbrev pub curious : List LabelLine
curious = Do (Lui 5 16) ∷ Do (Lw 6 5 0) ∷ []

-- a jump by a distance
abbrev pub placed : List LabelLine
placed = Do (Jal 0 8) ∷ Do Ecall ∷ []
