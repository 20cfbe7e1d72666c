-- Lemmas that put the parts of statements with blocks together.
use Rattle.std.proofs.Common.{◌≡◌, ℕ, suc, ◌+◌, List, [], ◌∷◌, ◌++◌, Bool, true, false, refl, sym, ap, subst, ◌∙◌, ◌≤◌, length, add-one, arith}
use Rattle.std.specs.Prelude.{if◌then◌else◌, ◌||◌}
use Rattle.arc_base.specs.declared.place.Place.{Place}
use Rattle.arc_base.specs.declared.place.Stop.{Stop}
use Rattle.indent_scanner.specs.declared.token.Token.{Token}
use Rattle.nim_tree.specs.declared.expr.Expr.{Expr}
use Rattle.nim_tree.specs.declared.stmt.Stmt.{Stmt}
use Rattle.nim_tree.specs.declared.stmt.Handler.{Handler}
use Rattle.nim_tree.specs.Terms.{Term, part, no_parts, term_of, parts_of}
use Rattle.nim_tree.specs.Statements.{Statement, selects, Statements, empty, statements_of, Branches, no_branches, and_branch, Handlers, no_handlers}
use Rattle.nim_tree.specs.Statements.{handlers_of}
use Rattle.parse_exprs.specs.declared.input.Input.{Input}
use Rattle.parse_exprs.specs.declared.layout.Layout.TheVariants.{Lines}
use Rattle.parse_exprs.specs.Look.{Origin, place_at, stays, branch_at, first_of_at}
use Rattle.parse_exprs.specs.Input.{from_at}
use Rattle.parse_decls.specs.Outcome.{Out, got, bad, then_do, stuck_at, Settles}
use Rattle.parse_decls.specs.Gives.{Fails, Leads}
use Rattle.parse_decls.proofs.ForCallers.{settles_suc, settles_got, settles_unless, settles_stuck, settles_if, settles_else, fails_by}
use Rattle.parse_stmts.specs.Look.{is_except}
use Rattle.parse_stmts.specs.Run.{run_line, run_statements, run_branch, run_label, run_labels, run_body, run_of, run_ofs, run_else, run_branches, branch_level}
use Rattle.parse_stmts.specs.Run.{have_some, hold_some, Caught, run_handler, run_handlers, and_caught, are_some}
use Rattle.parse_stmts.specs.Blocks.{caught_of}
use Rattle.parse_stmts.proofs.Lists.{one_more_handler}
use Rattle.parse_stmts.proofs.Blocking.{handlers_on}

pub fails_suc : {X : Type 0} (f g : ℕ → Out X) (x : Origin) → ((k : ℕ) → g (suc k) ≡ f k) → (stop : Stop) → Fails f x stop → Fails g x stop
fails_suc f g x e stop h = fails_by f g x (λ why s. settles_suc s e) stop h

pub suc_at : (input : Input) (at : ℕ) → from_at input (suc at) ≡ from_at input (at + 1)
suc_at input at = ap (from_at input) (sym (add-one at))

pub branch_is : (x : Origin) (n left : ℕ) (some none : Branches) (p q : Place) (ts : List Token) {o : Out Branches} → some ≡ none → p ≡ q
    → Settles (λ k. run_branch k x n left some p ts) o → Settles (λ k. run_branch k x n left none q ts) o
branch_is x n left some none p q ts {o = o} e f h =
    subst (λ (s : Branches). Settles (λ k. run_branch k x n left s q ts) o) e (subst (λ (r : Place). Settles (λ k. run_branch k x n left some r ts) o) f h)

pub branch_fail_is : (x : Origin) (n left : ℕ) (some none : Branches) (p q : Place) (ts : List Token) → some ≡ none → p ≡ q → (stop : Stop)
    → Fails (λ k. run_branch k x n left some p ts) x stop → Fails (λ k. run_branch k x n left none q ts) x stop
branch_fail_is x n left some none p q ts e f stop h =
    subst (λ (s : Branches). Fails (λ k. run_branch k x n left s q ts) x stop) e
    (subst (λ (r : Place). Fails (λ k. run_branch k x n left some r ts) x stop) f h)

pub single_part : (tests : List Expr) (a : Expr) → tests ≡ [] ++ a ∷ [] → parts_of tests ≡ part (term_of a) no_parts
single_part tests a e = ap parts_of e

pub line_start : (x : Origin) (n : ℕ) (some none : Statements) (ts : List Token) → some ≡ none → Leads (λ k. run_line k x n some ts)
    (λ k. run_line k x n none ts)
line_start x n some none ts e o h = subst (λ (s : Statements). Settles (λ k. run_line k x n s ts) o) e h

pub level_start : (x : Origin) (m n left : ℕ) (ts : List Token) → m ≡ n → Leads (λ k. run_statements k x m left empty ts)
    (λ k. run_statements k x n left empty ts)
level_start x m n left ts e o h = subst (λ (l : ℕ). Settles (λ k. run_statements k x l left empty ts) o) e h

pub block_got : (a b : Statements) (ts : List Token) → a ≡ b → Leads (λ k. got a ts) (λ k. got b ts)
block_got a b ts e o h = subst (λ (c : Statements). Settles (λ k. got c ts) o) e h

pub of_stuck : (x : Origin) (n left : ℕ) (some : Branches) (place : Place) (ts : List Token) → stays (Lines n) ts ≡ false
    → Settles (λ k. run_of k x n left some place ts) (bad (stuck_at ts))
of_stuck x n left some place ts e = settles_suc (settles_stuck
    (λ k. then_do (run_label k x n ts)
    (λ a mid. then_do (run_labels k x n (part a no_parts) mid)
    (λ labels end. then_do (run_body k x n left end) (λ block rest. got (and_branch some place labels block) rest)))) ts e) (λ k. refl)

pub handlers_start : (x : Origin) (n left : ℕ) (some : Handlers) (ts : List Token) → some ≡ no_handlers → Leads (λ k. run_handlers k x n left some ts)
    (λ k. run_handlers k x n left no_handlers ts)
handlers_start x n left some ts e o h = subst (λ (s : Handlers). Settles (λ k. run_handlers k x n left s ts) o) e h

pub and_caught_is : (some : Handlers) (old new : List Handler) (one : Handler) (place : Place) → new ≡ old ++ one ∷ [] → one.at ≡ place
    → handlers_of new ≡ and_caught (handlers_of old) place (caught_of one)
and_caught_is some old new one place e f = ap handlers_of e ∙ one_more_handler old one ∙ ap (λ p. and_caught (handlers_of old) p (caught_of one)) f

pub handlers_more : (x : Origin) (n left : ℕ) (some all : Handlers) (tok : Token) (one : Caught) (ts rest mid : List Token) → ts ≡ tok ∷ rest
    → branch_at (Lines n) is_except ts ≡ true
    → Settles (λ k. run_handler k x n left rest) (got one mid) → are_some one.names ≡ true → all ≡ and_caught some (place_at x tok) one
    → Leads (λ k. run_handlers k x n left all mid) (λ k. run_handlers k x n left some ts)
handlers_more x n left some all tok one ts rest mid e b s t a o h =
    handlers_on x n left some one tok rest ts mid e b s o
    (settles_if (λ k. got (and_caught some (place_at x tok) one) mid) t (subst (λ (m : Handlers). Settles (λ k. run_handlers k x n left m mid) o) a h))

pub handlers_last : (x : Origin) (n left : ℕ) (some all : Handlers) (tok : Token) (one : Caught) (ts rest mid : List Token) → ts ≡ tok ∷ rest
    → branch_at (Lines n) is_except ts ≡ true
    → Settles (λ k. run_handler k x n left rest) (got one mid) → are_some one.names ≡ false → all ≡ and_caught some (place_at x tok) one
    → Leads (λ k. got all mid) (λ k. run_handlers k x n left some ts)
handlers_last x n left some all tok one ts rest mid e b s t a o h =
    handlers_on x n left some one tok rest ts mid e b s o (settles_else (λ k. run_handlers k x n left (and_caught some (place_at x tok) one) mid) t
    (subst (λ (m : Handlers). Settles (λ k. got m mid) o) a h))

abbrev pub branches_run : Origin → ℕ → ℕ → Token → Term → List Token → ℕ → Out Statement
branches_run x m left tok s mid k = then_do (run_ofs k x m left no_branches mid)
    (λ all end. then_do (run_else k x m left end) (λ other rest. got (selects (place_at x tok) s all other) rest))

pub branches_on : (x : Origin) (n left : ℕ) (tok : Token) (s : Term) (first : Token) (rest mid : List Token) (m : ℕ) → mid ≡ first ∷ rest
    → first_of_at (Lines n) mid ≡ true → m ≡ branch_level n first.indent
    → Leads (branches_run x m left tok s mid) (λ k. run_branches k x n left tok s mid)
branches_on x n left tok s first rest mid m e f g o h = subst (λ (l : List Token). Settles (λ k. run_branches k x n left tok s l) o) (sym e)
    (settles_suc (settles_unless (first ∷ rest) (ap (first_of_at (Lines n)) (sym e) ∙ f)
    (subst (λ (l : List Token). Settles (branches_run x (branch_level n first.indent) left tok s l) o) e
    (subst (λ (i : ℕ). Settles (branches_run x i left tok s mid) o) g h))) (λ k. refl))

pub branches_stuck : (x : Origin) (n left : ℕ) (tok : Token) (s : Term) (mid : List Token) → first_of_at (Lines n) mid ≡ false
    → Settles (λ k. run_branches k x n left tok s mid) (bad (stuck_at mid))
branches_stuck x n left tok s [] e = settles_suc settles_got (λ k. refl)
branches_stuck x n left tok s (first ∷ mid) e =
    settles_suc (settles_stuck (branches_run x (branch_level n first.indent) left tok s (first ∷ mid)) (first ∷ mid) e) (λ k. refl)

pub some_handlers : (all : List Handler) (b : Bool) → 1 ≤ length all → true ≡ (have_some (handlers_of all) || b)
some_handlers [] b h = (let f : ⊥ = omega (arith, h) in absurd f)
some_handlers (one ∷ rest) b h = refl

pub some_statements : (all : List Stmt) → 1 ≤ length all → true ≡ hold_some (statements_of all)
some_statements [] h = (let f : ⊥ = omega (arith, h) in absurd f)
some_statements (one ∷ rest) h = refl
