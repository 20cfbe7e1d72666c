-- The steps of reading the head of a procedure.
use Rattle.std.proofs.Common.{◌≡◌, ℕ, ◌+◌, List, [], ◌∷◌, sym, true}
use Rattle.std.specs.Prelude.{if◌then◌else◌}
use Rattle.indent_scanner.specs.declared.token.Token.{Token}
use Rattle.nim_tree.specs.declared.name.Name.{Name}
use Rattle.nim_tree.specs.declared.stmt.ParamMode.{ParamMode}
use Rattle.nim_tree.specs.Types.{Written}
use Rattle.nim_tree.specs.Statements.{Parameters}
use Rattle.parse_exprs.specs.declared.input.Input.{Input}
use Rattle.parse_exprs.specs.declared.input.Bracket.TheVariants.{Round}
use Rattle.parse_exprs.specs.declared.layout.Layout.{Layout}
use Rattle.parse_exprs.specs.declared.layout.Layout.TheVariants.{Brackets}
use Rattle.parse_exprs.specs.Look.{closes_at}
use Rattle.parse_exprs.specs.Input.{origin_of, from_at}
use Rattle.parse_decls.specs.Look.{behind, mode_at, past_mode, opens_at}
use Rattle.parse_decls.specs.Outcome.{Out, got, then_do}
use Rattle.parse_decls.specs.Run.{run_written, run_param, run_more_params, run_params}
use Rattle.parse_decls.specs.Gives.{Leads}
use Rattle.parse_decls.proofs.Settling.{settles_if}
use Rattle.parse_decls.proofs.Coming.{settles_at, behind_at}

abbrev pub parameter : List Name → ParamMode → Written → Parameters
parameter names mode a = record { names = names; mode = mode; of = a }

-- what reading goes on as behind the mode
abbrev pub of_run : Input → List Name → ParamMode → List Token → ℕ → Out Parameters
of_run input names mode ts k = then_do (run_written k (origin_of input) Brackets ts) (λ a rest. got (parameter names mode a) rest)

-- and behind the colon
abbrev pub mode_run : Input → List Name → List Token → ℕ → Out Parameters
mode_run input names ts k = of_run input names (mode_at (origin_of input) ts) (past_mode (origin_of input) ts) k

pub mode_leads : (input : Input) (names : List Name) (mid begins : ℕ) → from_at input begins ≡ past_mode (origin_of input) (from_at input mid)
    → Leads (of_run input names (mode_at (origin_of input) (from_at input mid)) (from_at input begins)) (mode_run input names (from_at input mid))
mode_leads input names mid begins e o h = settles_at (of_run input names (mode_at (origin_of input) (from_at input mid))) (sym e) h

-- what reading goes on as behind the parenthesis
abbrev pub inside_run : Input → List Token → ℕ → Out (List Parameters)
inside_run input ts k = if closes_at Round ts then got [] (behind ts) else then_do (run_param k (origin_of input) ts)
    (λ one mid. run_more_params k (origin_of input) (one ∷ []) mid)

pub inside_leads : (input : Input) (i : Layout) (at : ℕ) → opens_at i Round (from_at input at) ≡ true → Leads (inside_run input (from_at input (at + 1)))
    (λ k. run_params k (origin_of input) i (from_at input at))
inside_leads input i at e o h = settles_if (λ k. got [] (from_at input at)) e (settles_at (inside_run input) (behind_at at input.tokens.now) h)
