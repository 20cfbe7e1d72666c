-- The numbers of the places that typed code declares, in order of text.
use Rattle.std.specs.Prelude.{◌≡◌, ℕ, Bool, true, false, List, map}
use Rattle.nim_tree.specs.Statements.{Head, Statement, proclaims, Statements}
use Rattle.nim_program.specs.Program.{Declared}
use Rattle.nim_program.specs.Folds.{block_places, body_places}
use Rattle.expr_rules.specs.Numbers.{Run}
use Rattle.decl_rules.specs.State.{ResultPlace, Around, in_body, State, Stated, block_of}
use Rattle.decl_rules.specs.Heads.{Headed}
use Rattle.decl_rules.specs.Bodies.{params_from, result_of, before_body, body_of}
use Rattle.decl_rules.specs.Rules.{IsStated, AreStated}

abbrev pub place_numbers : List Declared → List ℕ
place_numbers places = map (λ (place : Declared). place.number) places

abbrev pub is_procedure : Statement → Bool
is_procedure (proclaims at h body) = true
is_procedure _ = false

-- the places of a statement that is no procedure have the numbers from the next one on, up to the next one behind it
abbrev pub PlacesNumbered : Type 0
PlacesNumbered =
    (a : Around) (ends : ResultPlace) (st : State) (s : Statement) (x : Stated) → IsStated a ends st s x → is_procedure s ≡ false
    → Run st.place (place_numbers (block_places (block_of x.steps))) x.state.place

-- so have those of a procedure with its body: its parameters, its result, and what is declared in its body
abbrev pub ProcedureNumbered : Type 0
ProcedureNumbered =
    (st : State) (h : Head) (k : Headed) (body : Statements) (s : Stated)
    → AreStated (in_body (result_of st h k)) (result_of st h k) (before_body st h k) body s
    → Run st.place (place_numbers (body_places (params_from st.place k.signature.params) (body_of st h k s))) s.state.place
