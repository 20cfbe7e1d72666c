-- The program that modules are, or why they are none: first the forms without a rule, then what declarations and types say, then
-- what has to be known of the whole text.
--
--     modules ──nothing_left_out──> ──all_stated──> ──text_rule──> program
use Rattle.std.specs.Prelude.{ℕ, List, [], ◌∷◌, None, Ok}
use Rattle.arc_base.specs.Refusal.{and_then}
use Rattle.nim_tree.specs.Statements.{Statements}
use Rattle.nim_types.specs.Types.{Ty}
use Rattle.nim_program.specs.Program.{Program}
use Rattle.expr_rules.specs.Env.{outermost}
use Rattle.expr_rules.specs.Answers.{Answer}
use Rattle.decl_rules.specs.LeftOut.{nothing_left_out}
use Rattle.decl_rules.specs.State.{in_module, State, entered, Stated, stated_as, and_more, block_of}
use Rattle.decl_rules.specs.Stated.{all_stated}
use Rattle.decl_rules.specs.Whole.{text_rule}

-- the statements of a module, with its number
pub record Module : Type 0 where
  pub number : ℕ
  pub body : Statements

abbrev pub none_left_out : List Module → Answer (Unit {0})
none_left_out [] = Ok tt
none_left_out (m ∷ rest) = and_then (nothing_left_out m.body) (λ _. none_left_out rest)

abbrev pub nothing_known : State
nothing_known =
    record {
      env = record { entries = []; facts = []; home = 0 };
      outside = 0;
      node = 0;
      place = 0;
      procs = [];
      globals = [];
      text = [];
    }

-- Behind modules: names are those that are built in, numbers go on.
abbrev pub module_begins : State → ℕ → State
module_begins st number = entered (record st { env = record { entries = outermost; facts = st.env.facts; home = number } })

abbrev pub module_stated : State → Module → Answer Stated
module_stated st m = all_stated in_module None (module_begins st m.number) m.body

-- in the order in which their code runs
abbrev pub modules_stated : State → List Module → Answer Stated
modules_stated st [] = Ok (stated_as [] st)
modules_stated st (m ∷ rest) =
    and_then (module_stated st m) (λ one. and_then (modules_stated one.state rest) (λ more. Ok (and_more one more)))

-- The list says which types have which numbers, and nothing else of the program. The start code spans the places and nodes of all procedures.
abbrev pub program_of : (types : List Ty) → Stated → Program
program_of types s =
    record {
      types = types;
      facts = s.state.env.facts;
      procs = s.state.procs;
      globals = s.state.globals;
      start = record { first = 0; places = s.state.place; before = 0; result = None; stmts = block_of s.steps };
    }

abbrev pub elaborated : (types : List Ty) → List Module → Answer Program
elaborated types all =
    and_then (none_left_out all) (λ _.
    and_then (modules_stated nothing_known all) (λ s.
    and_then (text_rule s.state.procs s.state.text) (λ _. Ok (program_of types s))))
