-- Facts for one answer of the top call.
use Rattle.std.specs.Prelude.{◌≡◌, ℕ, ⊤}
use Rattle.arc_base.specs.declared.place.Stop.{Stop}
use Rattle.arc_base.specs.declared.place.Stop.TheVariants as stop
use Rattle.arc_top.specs.declared.answer.Answer.{Answer}
use Rattle.arc_top.specs.declared.answer.Answer.TheVariants.{Done, Ended, Usage, NoFile, TooLong, Refused, BadElf, MachineFault, StepsSpent, ReadFault}
use Rattle.arc_top.specs.declared.answer.Answer.TheVariants.{WriteFault, StoreFault, Memory}

abbrev pub OnUsage : Answer → Type 0 → Type 0
OnUsage Usage P = P
OnUsage _ P = ⊤

-- the words were a command
abbrev pub OnCommand : Answer → Type 0 → Type 0
OnCommand Usage P = ⊤
OnCommand _ P = P

-- no line says the answer
abbrev pub OnQuiet : Answer → Type 0 → Type 0
OnQuiet Done P = P
OnQuiet (Ended status) P = P
OnQuiet (WriteFault stream) P = P
OnQuiet _ P = ⊤

-- the status with which a command ends that was answered so
abbrev pub status_of : Answer → ℕ
status_of Done = 0
status_of (Ended status) = status
status_of Usage = 64
status_of (Refused code at) = 65
status_of (BadElf fault) = 65
status_of (NoFile name) = 66
status_of (TooLong name) = 66
status_of Memory = 69
status_of (MachineFault kind pc word) = 70
status_of ReadFault = 74
status_of (WriteFault stream) = 74
status_of StoreFault = 74
status_of (StepsSpent steps) = 124

-- the answer where a typed program isn't taken
abbrev pub IsStopped : Stop → Answer → Type 0
IsStopped (stop.Refused code at) answer = answer ≡ Refused code at
IsStopped stop.Memory answer = answer ≡ Memory
