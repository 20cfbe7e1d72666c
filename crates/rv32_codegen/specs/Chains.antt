-- Chains of calls as they are computed: a number for each procedure, in order, of at most 32 bits. No public contract speaks of it.
use Rattle.std.specs.Prelude.{◌≡◌, ◌<◌, ℕ, zero, suc, ◌+◌, ◌-◌, ◌^◌, max, min, ◌==◌, if◌then◌else◌, List, [], ◌∷◌}
use Rattle.std.specs.Prelude.{length, drop, get_or, nat_eq, Option, None, Some}
use Rattle.std.specs.HashMap.{HashMap, get}
use Rattle.word_code.specs.declared.word.WordProc.{WordProc}
use Rattle.word_code.specs.Words.{is_counted, most_called, most_chain}
use Rattle.reg_scan.specs.declared.homes.Homes.{Homes}

-- what is too large is the largest word
abbrev pub cut : ℕ → ℕ
cut n = min n (2 ^ 32 - 1)

-- the number of the first procedure that has this one, or 0
abbrev pub number_for : List WordProc → List ℕ → (number : ℕ) → ℕ
number_for [] taken number = 0
number_for (p ∷ procs) [] number = 0
number_for (p ∷ procs) (n ∷ taken) number = if p.number == number then n else number_for procs taken number

-- what is taken at a position, if there is one
abbrev pub taken_at : List ℕ → Option ℕ → ℕ
taken_at taken None = 0
taken_at taken (Some i) = get_or taken i 0

-- what is taken of the procedure of each number that stands where an index says
abbrev pub by_index : {S : Type 0} → HashMap ℕ ℕ S → (taken : List ℕ) → ℕ → ℕ
by_index index taken number = taken_at taken (get nat_eq index number)

-- it is the first one of that number, from a position on
abbrev pub LeadsFrom : {S : Type 0} → HashMap ℕ ℕ S → (from : ℕ) → List WordProc → Type 0
LeadsFrom index from procs =
    (taken : List ℕ) → length taken ≡ length procs → (number : ℕ) → by_index index taken number ≡ number_for (drop from procs) (drop from taken) number

abbrev pub IsIndex : {S : Type 0} → HashMap ℕ ℕ S → List WordProc → Type 0
IsIndex index procs = LeadsFrom index 0 procs

-- what chains take from a procedure on, where those from the procedures that it calls take so much
abbrev pub chain_from : (taken : ℕ → ℕ) → (size : ℕ) → WordProc → ℕ
chain_from taken size p = if is_counted p.kind then 0 else cut (size + most_called taken p.lines)

abbrev pub chains_from : (taken : ℕ → ℕ) → List WordProc → List ℕ → List ℕ
chains_from taken [] sizes = []
chains_from taken (p ∷ procs) [] = []
chains_from taken (p ∷ procs) (size ∷ sizes) = chain_from taken size p ∷ chains_from taken procs sizes

abbrev pub most_of : List ℕ → ℕ
most_of [] = 0
most_of (n ∷ ns) = max n (most_of ns)

-- ---- sizes of procedures, in order

-- what a call of each takes
abbrev pub sizes_of : List WordProc → List Homes → List ℕ
sizes_of [] homes = []
sizes_of (p ∷ procs) [] = []
sizes_of (p ∷ procs) (h ∷ homes) = cut (h.frame + p.room) ∷ sizes_of procs homes

-- ---- what is computed

abbrev pub none_of : List WordProc → List ℕ
none_of [] = []
none_of (p ∷ procs) = 0 ∷ none_of procs

-- what chains of at most so many procedures take, from the one of each number on
abbrev pub cut_chain : List WordProc → List ℕ → ℕ → (number : ℕ) → ℕ
cut_chain procs sizes zero number = 0
cut_chain procs sizes (suc n) number = number_for procs (chains_from (cut_chain procs sizes n) procs sizes) number

-- those of as many as there are
pub record AreLongest (procs : List WordProc) (sizes taken : List ℕ) : Type 0 where
  pub long : length taken ≡ length procs
  pub are : (number : ℕ) → number_for procs taken number ≡ cut_chain procs sizes (length procs) number

pub record IsCallSize (procs : List WordProc) (sizes : List ℕ) (size : ℕ) : Type 0 where
  pub is : size ≡ most_of sizes + most_chain (cut_chain procs sizes (length procs)) procs
  pub small : size < 2 ^ 33
