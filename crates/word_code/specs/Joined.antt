-- Two word codes as one: the procedures of both, and the data of both, one behind the other.
use Rattle.std.specs.Prelude.{◌≡◌, ◌≤◌, ℕ, ◌+◌, List, [], ◌∷◌, ◌++◌, length}
use Rattle.word_code.specs.declared.word.WordProc.{WordProc}
use Rattle.word_code.specs.declared.word.WordCode.{WordCode}

-- its data begins so many bytes later
abbrev pub moved : ℕ → WordProc → WordProc
moved n p = record p { data_from = n + p.data_from }

abbrev pub all_moved : ℕ → List WordProc → List WordProc
all_moved n [] = []
all_moved n (p ∷ procs) = moved n p ∷ all_moved n procs

abbrev pub joined : WordCode → WordCode → WordCode
joined code other = record { procs = code.procs ++ all_moved (length code.statics) other.procs; statics = code.statics ++ other.statics }

-- no procedure of one has that number
abbrev pub IsFree : ℕ → List WordProc → Type 0
IsFree number [] = Unit {0}
IsFree number (p ∷ procs) = (p.number ≡ number → ⊥) × IsFree number procs

-- no procedure has a body in both
abbrev pub AreApart : List WordProc → List WordProc → Type 0
AreApart [] others = Unit {0}
AreApart (p ∷ procs) others = IsFree p.number others × AreApart procs others

-- so many bytes later the data of each still begins at a number of 32 bits
abbrev pub HaveRoom : ℕ → List WordProc → Type 0
HaveRoom n [] = Unit {0}
HaveRoom n (p ∷ procs) = (n + p.data_from ≤ 4294967295) × HaveRoom n procs
