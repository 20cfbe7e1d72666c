-- What reading a module comes to, from what reading its statements comes to.
use Rattle.std.proofs.Common.{◌≡◌, ℕ, List, true, false, subst}
use Rattle.arc_base.specs.declared.place.Stop.{Stop}
use Rattle.indent_scanner.specs.declared.token.Token.{Token}
use Rattle.nim_tree.specs.Statements.{Statements, empty}
use Rattle.parse_exprs.specs.Look.{Origin}
use Rattle.parse_decls.specs.Look.{level_at}
use Rattle.parse_decls.specs.Outcome.{Out, got, unless_stuck, stuck_at, Settles}
use Rattle.parse_decls.specs.Gives.{Told, Fails, Leads}
use Rattle.parse_decls.proofs.ForCallers.{settles_got, fails_then, fails_stuck, fails_leads, leads_then, leads_unless}
use Rattle.parse_stmts.specs.Look.{end_at}
use Rattle.parse_stmts.specs.Run.{run_statements, run_module}

-- where the source ends, the statements are the module
abbrev to_end : ℕ → Statements → List Token → Out Statements
to_end k all rest = unless_stuck (end_at rest) rest (got all rest)

module_goes_on : (x : Origin) (n : ℕ) (ts : List Token) (all : Statements) (rest : List Token) → n ≡ level_at ts
    → Settles (λ k. run_statements k x n 64 empty ts) (got all rest)
    → Leads (λ k. to_end k all rest) (λ k. run_module k x ts)
module_goes_on x n ts all rest e h = leads_then to_end (subst (λ m. Settles (λ k. run_statements k x m 64 empty ts) (got all rest)) e h)

pub module_ends : (x : Origin) (n : ℕ) (ts : List Token) (all : Statements) (rest : List Token) → n ≡ level_at ts
    → Settles (λ k. run_statements k x n 64 empty ts) (got all rest) → end_at rest ≡ true
    → Settles (λ k. run_module k x ts) (got all rest)
module_ends x n ts all rest e h is = module_goes_on x n ts all rest e h _ (leads_unless (λ k. got all rest) rest is _ settles_got)

pub module_is_stuck : (x : Origin) (n : ℕ) (ts : List Token) (all : Statements) (rest : List Token) → n ≡ level_at ts
    → Settles (λ k. run_statements k x n 64 empty ts) (got all rest) → end_at rest ≡ false
    → (stop : Stop) → Told x (stuck_at rest) stop → Fails (λ k. run_module k x ts) x stop
module_is_stuck x n ts all rest e h is stop t = fails_leads _ _ x (module_goes_on x n ts all rest e h) stop (fails_stuck x (λ k. got all rest) rest is stop t)

pub module_fails : (x : Origin) (n : ℕ) (ts : List Token) → n ≡ level_at ts → (stop : Stop) → Fails (λ k. run_statements k x n 64 empty ts) x stop
    → Fails (λ k. run_module k x ts) x stop
module_fails x n ts e stop h = fails_then (λ k. run_statements k x (level_at ts) 64 empty ts) x to_end stop
    (subst (λ m. Fails (λ k. run_statements k x m 64 empty ts) x stop) e h)
