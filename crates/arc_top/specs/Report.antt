-- The line on standard error of an answer.
use Rattle.std.specs.Prelude.{◌≡◌, ℕ, ◌/◌, ◌%◌, List, [], ◌∷◌, ◌++◌, take, codes, decimal, Option, Result, OnOk, OnErr}
use Rattle.std.specs.List.{slice_index_or}
use Rattle.arc_base.specs.Outside.{Grown, Rose}
use Rattle.arc_base.specs.Codes.{code_text}
use Rattle.hex.specs.Hex.{encode_lower}
use Rattle.elf32.specs.Faults.{fault_number}
use Rattle.rv32_isa.specs.declared.machine.FaultKind.{FaultKind}
use Rattle.rv32_isa.specs.declared.machine.FaultKind.TheVariants.{UnknownWord, Misaligned, OutOfRange, BadCall, Break}
use Rattle.arc_top.specs.declared.answer.Answer.{Answer}
use Rattle.arc_top.specs.declared.answer.Answer.TheVariants.{Done, Ended, Usage, NoFile, TooLong, Refused, BadElf, MachineFault, StepsSpent, ReadFault}
use Rattle.arc_top.specs.declared.answer.Answer.TheVariants.{WriteFault, StoreFault, Memory}

-- pieces, one after another
abbrev pub joined : List (List ℕ) → List ℕ
joined [] = []
joined (piece ∷ pieces) = piece ++ joined pieces

-- the line of a refusal, as NAME:LINE:COLUMN: CODE
abbrev pub refusal_pieces : (name line column code : List ℕ) → List (List ℕ)
refusal_pieces name line column code = name ∷ codes ":" ∷ line ∷ codes ":" ∷ column ∷ codes ": " ∷ code ∷ codes "\n" ∷ []

abbrev pub refusal_report : (name line column code : List ℕ) → List ℕ
refusal_report name line column code = joined (refusal_pieces name line column code)

-- the name of the module with that number
abbrev pub name_of : (names : List (List ℕ)) → (number : ℕ) → List ℕ
name_of names number = slice_index_or names number []

-- faults of the machine are numbered from 1
abbrev pub kind_number : FaultKind → ℕ
kind_number UnknownWord = 1
kind_number Misaligned = 2
kind_number OutOfRange = 3
kind_number BadCall = 4
kind_number Break = 5

-- eight hexadecimal digits, with lower-case letters
abbrev pub address_text : ℕ → List ℕ
address_text pc = encode_lower (pc / 16777216 ∷ pc / 65536 % 256 ∷ pc / 256 % 256 ∷ pc % 256 ∷ [])

abbrev pub fault_pieces : (kind address : List ℕ) → List (List ℕ)
fault_pieces kind address = codes "nimarc: machine fault " ∷ kind ∷ codes " at " ∷ address ∷ codes "\n" ∷ []

-- The pieces of the line of an answer, where the modules have these names. There are none for Done, Ended and WriteFault.
abbrev pub pieces_of : (names : List (List ℕ)) → Answer → List (List ℕ)
pieces_of names Done = []
pieces_of names (Ended status) = []
pieces_of names Usage = codes "usage: nimarc check|build|run|exec|mean|plan|gen\n" ∷ []
pieces_of names (NoFile name) = codes "nimarc: no file " ∷ name ∷ codes "\n" ∷ []
pieces_of names (TooLong name) = codes "nimarc: too long " ∷ name ∷ codes "\n" ∷ []
pieces_of names (Refused code at) = refusal_pieces (name_of names at.«module») (decimal at.line) (decimal at.column) (code_text code)
pieces_of names (BadElf fault) = codes "nimarc: bad elf " ∷ decimal (fault_number fault) ∷ codes "\n" ∷ []
pieces_of names (MachineFault kind pc word) = fault_pieces (decimal (kind_number kind)) (address_text pc)
pieces_of names (StepsSpent steps) = codes "nimarc: steps spent\n" ∷ []
pieces_of names ReadFault = codes "nimarc: read fault\n" ∷ []
pieces_of names (WriteFault stream) = []
pieces_of names StoreFault = codes "nimarc: store fault\n" ∷ []
pieces_of names Memory = codes "nimarc: out of memory\n" ∷ []

abbrev pub report_of : (names : List (List ℕ)) → Answer → List ℕ
report_of names answer = joined (pieces_of names answer)

-- all bytes were put, or a front of them and the count of faults rose
pub record Says {T E : Type 0} (old new : Option (List ℕ)) (before now : ℕ) (result : Result T E) (bytes : List ℕ) : Type 0 where
  pub whole : OnOk result (Grown old new bytes)
  pub same : OnOk result (now ≡ before)
  pub front : (n : ℕ) × Grown old new (take n bytes)
  pub rose : OnErr result (Rose before now)
