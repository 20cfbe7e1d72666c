-- How many bytes the places of a program's bodies have, each body's.
use Rattle.std.specs.Prelude.{ℕ, ◌≤◌, List, [], ◌∷◌, Option, Some, None}
use Rattle.nim_program.specs.Program.{Param, Body, Proc, Program}
use Rattle.nim_program.specs.Sizes.{body_sum}

abbrev pub sum_if : Program → List Param → Option Body → ℕ
sum_if program params None = 0
sum_if program params (Some body) = body_sum program.facts program.globals params body

abbrev pub SumsWithin : (most : ℕ) → Program → List Proc → Type 0
SumsWithin most program [] = body_sum program.facts program.globals [] program.start ≤ most
SumsWithin most program (p ∷ procs) = (sum_if program p.params p.body ≤ most) × SumsWithin most program procs
