-- What is lent to a body isn't written by it: neither a parameter that is no `var` and no `sink`, nor the variable of a `for`, nor a part of these.
use Rattle.std.specs.Prelude.{◌≡◌, ℕ, nat_eq, Bool, true, false, not, ◌&&◌, ◌||◌, List, [], ◌∷◌}
use Rattle.nim_program.specs.declared.operation.Operation.TheVariants as O
use Rattle.nim_program.specs.declared.program.Mode.{Mode}
use Rattle.nim_program.specs.declared.program.Mode.TheVariants as M
use Rattle.nim_program.specs.Program.{Act, Doing, Calling, Path, Variable, Fresh, Field, Element, Deref, Args, NoArg, ByValue, ByPath}
use Rattle.nim_program.specs.Program.{Declared, Kind, While, Count, Each, Param}

-- ---- what acts write

-- the operands that are paths: of a call, the arguments of its `var` parameters
abbrev pub lent_in : Args → List Path
lent_in NoArg = []
lent_in (ByValue value rest) = lent_in rest
lent_in (ByPath path rest) = path ∷ lent_in rest

-- what has a length is read in place, and any other path is written
abbrev pub written_by : Act → Args → List Path
written_by (Doing (O.Measure measure)) operands = []
written_by (Doing operation) operands = lent_in operands
written_by (Calling proc types) operands = lent_in operands
written_by act operands = []

-- ---- what isn't written, of the places of a body by number

abbrev pub is_lent : Mode → Bool
is_lent M.Plain = true
is_lent mode = false

abbrev pub lent_params : List Param → ℕ → Bool
lent_params [] n = false
lent_params (p ∷ params) n = (is_lent p.mode && nat_eq p.place.number n) || lent_params params n

-- one more
abbrev pub also : Declared → (ℕ → Bool) → ℕ → Bool
also place kept n = nat_eq place.number n || kept n

-- in the body of a loop, its variable too
abbrev pub kept_within : Kind → (ℕ → Bool) → ℕ → Bool
kept_within While kept = kept
kept_within (Count variable inclusive) kept = also variable kept
kept_within (Each variable) kept = also variable kept

-- what is behind a ref, or a global, is no part of a place of the body
abbrev pub begins_at : (kept : ℕ → Bool) → Path → Bool
begins_at kept (Variable node ty place global) = not global && kept place
begins_at kept (Fresh value) = false
begins_at kept (Field node ty base field) = begins_at kept base
begins_at kept (Element node ty base index constant) = begins_at kept base
begins_at kept (Deref ty base) = false

abbrev pub NoneBegins : (kept : ℕ → Bool) → List Path → Type 0
NoneBegins kept [] = Unit {0}
NoneBegins kept (path ∷ rest) = (begins_at kept path ≡ false) × NoneBegins kept rest
