-- Statements with blocks, step by step.
use Rattle.std.proofs.Common.{◌≡◌, inl, inr, ℕ, suc, List, [], ◌∷◌, true, false, refl, sym, ap, subst, ◌∙◌}
use Rattle.nim_tree.specs.declared.expr.Expr.{Expr}
use Rattle.std.specs.Prelude.{◌⊎◌, IfSome, option_map, Option, Some, None, if◌then◌else◌}
use Rattle.arc_base.specs.declared.place.Place.{Place}
use Rattle.arc_base.specs.declared.place.Stop.{Stop}
use Rattle.indent_scanner.specs.declared.token.Token.{Token}
use Rattle.nim_tree.specs.Terms.{Term, place_of, term_of}
use Rattle.nim_tree.specs.Statements.{evaluates, Statements, empty, and_statement, Branches, Handlers}
use Rattle.parse_exprs.specs.declared.layout.Layout.TheVariants.{Lines}
use Rattle.parse_exprs.specs.Look.{Origin, place_at, colon_at, branch_at, is_elif, is_else, is_of}
use Rattle.parse_decls.specs.Look.{behind, deeper_at, stands_at, level_at}
use Rattle.parse_decls.specs.Outcome.{got, bad, then_do, too_deep, stuck_at, unless_stuck, Settles}
use Rattle.parse_decls.specs.Gives.{Fails, Leads}
use Rattle.parse_decls.proofs.ForCallers.{settles_suc, settles_got, settles_then, settles_bad, settles_unless, settles_stuck, settles_if}
use Rattle.parse_decls.proofs.ForCallers.{settles_else, fails_by}
use Rattle.parse_stmts.specs.declared.look.Lead.{Lead}
use Rattle.parse_stmts.specs.declared.look.Lead.TheVariants as L
use Rattle.parse_stmts.specs.Look.{chooses, opens_block, lead, on_line_at, ends_at, is_except, is_finally}
use Rattle.parse_stmts.specs.Run.{run_line, run_statements, run_statement, run_led, run_alone, run_choice, choice_run, run_compound, run_body}
use Rattle.parse_stmts.specs.Run.{run_block, run_branch, run_elifs, run_else, run_of, run_ofs, Caught, run_handler}
use Rattle.parse_stmts.specs.Run.{run_handlers, and_caught, are_some, run_finally}
use Rattle.parse_stmts.proofs.Steps.{settles_at}

-- ---- statements

pub statements_start : (x : Origin) (n left : ℕ) (some : Statements) (ts : List Token) → some ≡ empty → Leads (λ k. run_statements k x n left some ts)
    (λ k. run_statements k x n left empty ts)
statements_start x n left some ts e o h = subst (λ (s : Statements). Settles (λ k. run_statements k x n left s ts) o) e h

pub statements_on : (x : Origin) (n left : ℕ) (some all : Statements) (ts mid : List Token) → stands_at n ts ≡ true
    → Settles (λ k. run_statement k x n left some ts) (got all mid)
    → Leads (λ k. run_statements k x n left all mid) (λ k. run_statements k x n left some ts)
statements_on x n left some all ts mid e s o h =
    settles_suc (settles_if (λ k. unless_stuck (ends_at n ts) ts (got some ts)) e (settles_then (λ k all mid. run_statements k x n left all mid) s h))
    (λ k. refl)

pub statements_fail : (x : Origin) (n left : ℕ) (some : Statements) (ts : List Token) → stands_at n ts ≡ true → (stop : Stop)
    → Fails (λ k. run_statement k x n left some ts) x stop → Fails (λ k. run_statements k x n left some ts) x stop
statements_fail x n left some ts e stop h = fails_by (λ k. run_statement k x n left some ts) (λ k. run_statements k x n left some ts) x
    (λ why s. settles_suc (settles_if (λ k. unless_stuck (ends_at n ts) ts (got some ts)) e (settles_bad (λ k all mid. run_statements k x n left all mid) s))
    (λ k. refl)) stop h

pub statements_end : (x : Origin) (n left : ℕ) (some : Statements) (ts : List Token) → stands_at n ts ≡ false → ends_at n ts ≡ true
    → Leads (λ k. got some ts) (λ k. run_statements k x n left some ts)
statements_end x n left some ts e f o h =
    settles_suc (settles_else (λ k. then_do (run_statement k x n left some ts) (λ all mid. run_statements k x n left all mid)) e (settles_unless ts f h))
    (λ k. refl)

pub statements_stuck : (x : Origin) (n left : ℕ) (some : Statements) (ts : List Token) → stands_at n ts ≡ false → ends_at n ts ≡ false
    → Settles (λ k. run_statements k x n left some ts) (bad (stuck_at ts))
statements_stuck x n left some ts e f =
    settles_suc (settles_else (λ k. then_do (run_statement k x n left some ts) (λ all mid. run_statements k x n left all mid)) e
    (settles_stuck (λ k. got some ts) ts f)) (λ k. refl)

-- ---- a statement

pub statement_none : (x : Origin) (n left : ℕ) (some : Statements) (ts : List Token) → ts ≡ [] → Settles (λ k. run_statement k x n left some ts)
    (bad (stuck_at ts))
statement_none x n left some ts e = subst (λ (m : List Token). Settles (λ k. run_statement k x n left some m) (bad (stuck_at m))) (sym e)
    (settles_suc settles_got (λ k. refl))

led_on : (x : Origin) (n left : ℕ) (some : Statements) (tok : Token) (rest ts : List Token) (it : Lead) → ts ≡ tok ∷ rest → lead n tok rest ≡ it
    → Leads (λ k. run_led k it x n left some tok rest) (λ k. run_statement k x n left some ts)
led_on x n left some tok rest ts it e f o h =
    settles_suc h (λ k. ap (run_statement (suc k) x n left some) e ∙ ap (λ i. run_led k i x n left some tok rest) f)

pub statement_line : (x : Origin) (n left : ℕ) (some : Statements) (tok : Token) (rest ts : List Token) (it : Lead) → ts ≡ tok ∷ rest
    → lead n tok rest ≡ it
    → it ≡ L.Line → Leads (λ k. run_line k x n some ts) (λ k. run_statement k x n left some ts)
statement_line x n left some tok rest ts it e f g o h =
    led_on x n left some tok rest ts L.Line e (f ∙ g) o (settles_suc (settles_at (λ m k. run_line k x n some m) (sym e) h) (λ k. refl))

compound_step : (x : Origin) (n left : ℕ) (some : Statements) (tok : Token) (rest : List Token) (it : Lead) → (it ≡ L.Line → ⊥)
    → chooses it ≡ false → (k : ℕ)
    → run_led (suc k) it x n left some tok rest ≡ then_do (run_compound k it x n left tok rest) (λ s mid. got (and_statement some s) mid)
compound_step x n left some tok rest L.Line f c k = absurd (f refl)
compound_step x n left some tok rest L.If f c k = cc
compound_step x n left some tok rest L.Case f c k = cc
compound_step x n left some tok rest L.While f c k = refl
compound_step x n left some tok rest L.For f c k = refl
compound_step x n left some tok rest L.Try f c k = refl
compound_step x n left some tok rest L.Defer f c k = refl
compound_step x n left some tok rest L.Proc f c k = refl
compound_step x n left some tok rest L.Type f c k = refl
compound_step x n left some tok rest L.Section f c k = refl

pub statement_compound : (x : Origin) (n left : ℕ) (some : Statements) (tok : Token) (rest ts : List Token) (it : Lead) → ts ≡ tok ∷ rest
    → lead n tok rest ≡ it
    → (it ≡ L.Line → ⊥) → chooses it ≡ false
    → Leads (λ k. then_do (run_compound k it x n left tok rest) (λ s mid. got (and_statement some s) mid)) (λ k. run_statement k x n left some ts)
statement_compound x n left some tok rest ts it e f g c o h = led_on x n left some tok rest ts it e f o
    (settles_suc h (λ k. compound_step x n left some tok rest it g c k))

choice_step : (x : Origin) (n left : ℕ) (some : Statements) (tok : Token) (rest : List Token) (it : Lead) → chooses it ≡ true → (k : ℕ)
    → run_led (suc k) it x n left some tok rest ≡ then_do (run_alone k x n (tok ∷ rest)) (λ found mid. run_choice k found it x n left some tok rest mid)
choice_step x n left some tok rest L.If c k = refl
choice_step x n left some tok rest L.Case c k = refl
choice_step x n left some tok rest _ c k = cc

pub statement_choice : (x : Origin) (n left : ℕ) (some : Statements) (tok : Token) (rest ts : List Token) (it : Lead) → ts ≡ tok ∷ rest
    → lead n tok rest ≡ it
    → chooses it ≡ true
    → Leads (λ k. then_do (run_alone k x n ts) (λ found mid. run_choice k found it x n left some tok rest mid)) (λ k. run_statement k x n left some ts)
statement_choice x n left some tok rest ts it e f c o h = led_on x n left some tok rest ts it e f o
    (settles_suc (settles_at (λ m k. then_do (run_alone k x n m) (λ found mid. run_choice k found it x n left some tok rest mid)) (sym e) h)
    (λ k. choice_step x n left some tok rest it c k))

pub not_choice : (it : Lead) → (it ≡ L.If → ⊥) → (it ≡ L.Case → ⊥) → chooses it ≡ false
not_choice L.If f g = absurd (f refl)
not_choice L.Case f g = absurd (g refl)
not_choice _ f g = refl

choice_alone : (x : Origin) (n left : ℕ) (some : Statements) (tok : Token) (rest mid : List Token) (it : Lead) (a : Term)
    → Leads (λ k. got (and_statement some (evaluates (place_of a) a)) mid) (λ k. run_choice k (Some a) it x n left some tok rest mid)
choice_alone x n left some tok rest mid it a o h = settles_suc h (λ k. refl)

choice_blocks : (x : Origin) (n left : ℕ) (some : Statements) (tok : Token) (rest mid : List Token) (it : Lead)
    → Leads (λ k. then_do (run_compound k it x n left tok rest) (λ s mid. got (and_statement some s) mid))
    (λ k. run_choice k None it x n left some tok rest mid)
choice_blocks x n left some tok rest mid it o h = settles_suc h (λ k. refl)

pub is_choice : (it : Lead) → (it ≡ L.If) ⊎ (it ≡ L.Case) → chooses it ≡ true
is_choice it (inl e) = ap chooses e
is_choice it (inr e) = ap chooses e

pub choice_is_alone : (x : Origin) (n left : ℕ) (some : Statements) (tok : Token) (whole rest mid : List Token) (it : Lead)
    (found : Option Expr) (value : Expr)
    (s : Statements)
    → Settles (λ k. run_alone k x n whole) (got (option_map term_of found) mid) → found ≡ Some value
    → s ≡ and_statement some (evaluates (place_of (term_of value)) (term_of value))
    → Leads (λ k. got s mid) (choice_run it x n left some tok whole rest)
choice_is_alone x n left some tok whole rest mid it found value s r e q o h =
    settles_then (λ k found mid. run_choice k found it x n left some tok rest mid)
    (subst (λ (f : Option Expr). Settles (λ k. run_alone k x n whole) (got (option_map term_of f) mid)) e r)
    (choice_alone x n left some tok rest mid it (term_of value) o (subst (λ (t : Statements). Settles (λ k. got t mid) o) q h))

pub choice_has_blocks : (x : Origin) (n left : ℕ) (some : Statements) (tok : Token) (whole rest mid : List Token) (it : Lead) (found : Option Expr)
    → Settles (λ k. run_alone k x n whole) (got (option_map term_of found) mid) → found ≡ None
    → Leads (λ k. then_do (run_compound k it x n left tok rest) (λ s mid. got (and_statement some s) mid)) (choice_run it x n left some tok whole rest)
choice_has_blocks x n left some tok whole rest mid it found r e o h =
    settles_then (λ k found mid. run_choice k found it x n left some tok rest mid)
    (subst (λ (f : Option Expr). Settles (λ k. run_alone k x n whole) (got (option_map term_of f) mid)) e r)
    (choice_blocks x n left some tok rest mid it o h)

pub some_goes : {P : Type 0} (found : Option Expr) (value : Expr) → found ≡ Some value → IfSome found (λ tree. P) → P
some_goes (Some a) value e h = h
some_goes None value e h = cc

pub compound_line : (x : Origin) (n left : ℕ) (tok : Token) (rest ts : List Token) (it : Lead) → ts ≡ tok ∷ rest → it ≡ L.Line
    → Settles (λ k. run_compound k it x n left tok rest) (bad (stuck_at ts))
compound_line x n left tok rest ts it e f =
    subst (λ (i : Lead). Settles (λ k. run_compound k i x n left tok rest) (bad (stuck_at ts))) (sym f)
    (settles_suc settles_got (λ k. ap (λ (m : List Token). bad (stuck_at m)) (sym e)))

pub compound_by : (x : Origin) (n left : ℕ) (tok : Token) (rest : List Token) (it to : Lead) → it ≡ to
    → Leads (λ k. run_compound k to x n left tok rest)
    (λ k. run_compound k it x n left tok rest)
compound_by x n left tok rest it to e o h = subst (λ (i : Lead). Settles (λ k. run_compound k i x n left tok rest) o) (sym e) h

-- ---- blocks

pub body_on : (x : Origin) (n left : ℕ) (ts rest : List Token) → colon_at (Lines n) ts ≡ true → behind ts ≡ rest
    → Leads (λ k. run_block k x n left rest)
    (λ k. run_body k x n left ts)
body_on x n left ts rest e b o h = settles_suc (settles_unless ts e (settles_at (λ m k. run_block k x n left m) b h)) (λ k. refl)

pub body_stuck : (x : Origin) (n left : ℕ) (ts : List Token) → colon_at (Lines n) ts ≡ false
    → Settles (λ k. run_body k x n left ts) (bad (stuck_at ts))
body_stuck x n left ts e = settles_suc (settles_stuck (λ k. run_block k x n left (behind ts)) ts e) (λ k. refl)

pub block_none : (x : Origin) (n : ℕ) (ts : List Token) → opens_block x n ts ≡ false → Settles (λ k. run_block k x n 0 ts) (bad (stuck_at ts))
block_none x n ts e = settles_suc settles_got (λ k. ap (λ b. bad (if b then too_deep ts else stuck_at ts)) e)

pub block_deep : (x : Origin) (n : ℕ) (ts : List Token) → opens_block x n ts ≡ true → Settles (λ k. run_block k x n 0 ts) (bad (too_deep ts))
block_deep x n ts e = settles_suc settles_got (λ k. ap (λ b. bad (if b then too_deep ts else stuck_at ts)) e)

pub block_line : (x : Origin) (n left less : ℕ) (ts : List Token) → suc less ≡ left → on_line_at ts ≡ true
    → Leads (λ k. run_line k x n empty ts) (λ k. run_block k x n left ts)
block_line x n left less ts s e o h = subst (λ (m : ℕ). Settles (λ k. run_block k x n m ts) o) s
    (settles_suc (settles_if (λ k. unless_stuck (deeper_at n ts) ts (run_statements k x (level_at ts) less empty ts)) e h) (λ k. refl))

pub block_stuck : (x : Origin) (n left less : ℕ) (ts : List Token) → suc less ≡ left → on_line_at ts ≡ false → deeper_at n ts ≡ false
    → Settles (λ k. run_block k x n left ts) (bad (stuck_at ts))
block_stuck x n left less ts s e f = subst (λ (m : ℕ). Settles (λ k. run_block k x n m ts) (bad (stuck_at ts))) s
    (settles_suc (settles_else (λ k. run_line k x n empty ts) e
    (settles_stuck (λ k. run_statements k x (level_at ts) less empty ts) ts f)) (λ k. refl))

pub block_deeper : (x : Origin) (n left less : ℕ) (ts : List Token) → suc less ≡ left → on_line_at ts ≡ false → deeper_at n ts ≡ true
    → Leads (λ k. run_statements k x (level_at ts) less empty ts) (λ k. run_block k x n left ts)
block_deeper x n left less ts s e f o h = subst (λ (m : ℕ). Settles (λ k. run_block k x n m ts) o) s
    (settles_suc (settles_else (λ k. run_line k x n empty ts) e (settles_unless ts f h)) (λ k. refl))

-- ---- branches

pub elifs_on : (x : Origin) (n left : ℕ) (some all : Branches) (tok : Token) (rest ts mid : List Token) (place : Place) → ts ≡ tok ∷ rest
    → place ≡ place_at x tok → branch_at (Lines n) is_elif ts ≡ true
    → Settles (λ k. run_branch k x n left some place rest) (got all mid) → Leads (λ k. run_elifs k x n left all mid) (λ k. run_elifs k x n left some ts)
elifs_on x n left some all tok rest ts mid place e p b s o h = subst (λ (m : List Token). Settles (λ k. run_elifs k x n left some m) o) (sym e)
    (settles_suc (settles_if (λ k. got some (tok ∷ rest)) (ap (branch_at (Lines n) is_elif) (sym e) ∙ b)
    (settles_then (λ k all mid. run_elifs k x n left all mid) (subst (λ (q : Place). Settles (λ k. run_branch k x n left some q rest) (got all mid)) p s) h))
    (λ k. refl))

pub elifs_fail : (x : Origin) (n left : ℕ) (some : Branches) (tok : Token) (rest ts : List Token) (place : Place) → ts ≡ tok ∷ rest
    → place ≡ place_at x tok
    → branch_at (Lines n) is_elif ts ≡ true
    → (stop : Stop) → Fails (λ k. run_branch k x n left some place rest) x stop → Fails (λ k. run_elifs k x n left some ts) x stop
elifs_fail x n left some tok rest ts place e p b stop h = fails_by (λ k. run_branch k x n left some place rest) (λ k. run_elifs k x n left some ts) x
    (λ why s. subst (λ (m : List Token). Settles (λ k. run_elifs k x n left some m) (bad why)) (sym e)
    (settles_suc (settles_if (λ k. got some (tok ∷ rest)) (ap (branch_at (Lines n) is_elif) (sym e) ∙ b)
    (settles_bad (λ k all mid. run_elifs k x n left all mid) (subst (λ (q : Place). Settles (λ k. run_branch k x n left some q rest) (bad why)) p s)))
    (λ k. refl))) stop h

pub elifs_end : (x : Origin) (n left : ℕ) (some : Branches) (ts : List Token) → branch_at (Lines n) is_elif ts ≡ false
    → Leads (λ k. got some ts) (λ k. run_elifs k x n left some ts)
elifs_end x n left some [] e o h = settles_suc h (λ k. refl)
elifs_end x n left some (tok ∷ ts) e o h =
    settles_suc (settles_else (λ k. then_do (run_branch k x n left some (place_at x tok) ts) (λ all mid. run_elifs k x n left all mid)) e h) (λ k. refl)

pub ofs_on : (x : Origin) (n left : ℕ) (some all : Branches) (tok : Token) (rest ts mid : List Token) (place : Place) → ts ≡ tok ∷ rest
    → place ≡ place_at x tok
    → branch_at (Lines n) is_of ts ≡ true
    → Settles (λ k. run_of k x n left some place rest) (got all mid) → Leads (λ k. run_ofs k x n left all mid) (λ k. run_ofs k x n left some ts)
ofs_on x n left some all tok rest ts mid place e p b s o h = subst (λ (m : List Token). Settles (λ k. run_ofs k x n left some m) o) (sym e)
    (settles_suc (settles_if (λ k. got some (tok ∷ rest)) (ap (branch_at (Lines n) is_of) (sym e) ∙ b)
    (settles_then (λ k all mid. run_ofs k x n left all mid) (subst (λ (q : Place). Settles (λ k. run_of k x n left some q rest) (got all mid)) p s) h))
    (λ k. refl))

pub ofs_fail : (x : Origin) (n left : ℕ) (some : Branches) (tok : Token) (rest ts : List Token) (place : Place) → ts ≡ tok ∷ rest
    → place ≡ place_at x tok
    → branch_at (Lines n) is_of ts ≡ true
    → (stop : Stop) → Fails (λ k. run_of k x n left some place rest) x stop → Fails (λ k. run_ofs k x n left some ts) x stop
ofs_fail x n left some tok rest ts place e p b stop h = fails_by (λ k. run_of k x n left some place rest) (λ k. run_ofs k x n left some ts) x
    (λ why s. subst (λ (m : List Token). Settles (λ k. run_ofs k x n left some m) (bad why)) (sym e)
    (settles_suc (settles_if (λ k. got some (tok ∷ rest)) (ap (branch_at (Lines n) is_of) (sym e) ∙ b)
    (settles_bad (λ k all mid. run_ofs k x n left all mid)
    (subst (λ (q : Place). Settles (λ k. run_of k x n left some q rest) (bad why)) p s))) (λ k. refl)))
    stop h

pub ofs_end : (x : Origin) (n left : ℕ) (some : Branches) (ts : List Token) → branch_at (Lines n) is_of ts ≡ false
    → Leads (λ k. got some ts) (λ k. run_ofs k x n left some ts)
ofs_end x n left some [] e o h = settles_suc h (λ k. refl)
ofs_end x n left some (tok ∷ ts) e o h =
    settles_suc (settles_else (λ k. then_do (run_of k x n left some (place_at x tok) ts) (λ all mid. run_ofs k x n left all mid)) e h) (λ k. refl)

pub ofs_start : (x : Origin) (n left : ℕ) (some none : Branches) (ts : List Token) → some ≡ none → Leads (λ k. run_ofs k x n left some ts)
    (λ k. run_ofs k x n left none ts)
ofs_start x n left some none ts e o h = subst (λ (s : Branches). Settles (λ k. run_ofs k x n left s ts) o) e h

-- ---- the last branch

pub else_on : (x : Origin) (n left : ℕ) (ts rest : List Token) → branch_at (Lines n) is_else ts ≡ true → behind ts ≡ rest
    → Leads (λ k. run_body k x n left rest) (λ k. run_else k x n left ts)
else_on x n left ts rest e b o h = settles_suc (settles_if (λ k. got empty ts) e (settles_at (λ m k. run_body k x n left m) b h)) (λ k. refl)

pub else_none : (x : Origin) (n left : ℕ) (ts : List Token) → branch_at (Lines n) is_else ts ≡ false
    → Leads (λ k. got empty ts) (λ k. run_else k x n left ts)
else_none x n left ts e o h = settles_suc (settles_else (λ k. run_body k x n left (behind ts)) e h) (λ k. refl)

pub finally_on : (x : Origin) (n left : ℕ) (ts rest : List Token) → branch_at (Lines n) is_finally ts ≡ true → behind ts ≡ rest
    → Leads (λ k. run_body k x n left rest) (λ k. run_finally k x n left ts)
finally_on x n left ts rest e b o h = settles_suc (settles_if (λ k. got empty ts) e (settles_at (λ m k. run_body k x n left m) b h)) (λ k. refl)

pub finally_none : (x : Origin) (n left : ℕ) (ts : List Token) → branch_at (Lines n) is_finally ts ≡ false
    → Leads (λ k. got empty ts) (λ k. run_finally k x n left ts)
finally_none x n left ts e o h = settles_suc (settles_else (λ k. run_body k x n left (behind ts)) e h) (λ k. refl)

-- ---- handlers

pub handlers_fail : (x : Origin) (n left : ℕ) (some : Handlers) (tok : Token) (rest ts : List Token) → ts ≡ tok ∷ rest
    → branch_at (Lines n) is_except ts ≡ true
    → (stop : Stop) → Fails (λ k. run_handler k x n left rest) x stop → Fails (λ k. run_handlers k x n left some ts) x stop
handlers_fail x n left some tok rest ts e b stop h = fails_by (λ k. run_handler k x n left rest) (λ k. run_handlers k x n left some ts) x
    (λ why s. subst (λ (m : List Token). Settles (λ k. run_handlers k x n left some m) (bad why)) (sym e)
    (settles_suc (settles_if (λ k. got some (tok ∷ rest)) (ap (branch_at (Lines n) is_except) (sym e) ∙ b)
    (settles_bad (λ k one mid. if are_some one.names then run_handlers k x n left (and_caught some (place_at x tok) one) mid
    else got (and_caught some (place_at x tok) one) mid) s)) (λ k. refl))) stop h

pub handlers_on : (x : Origin) (n left : ℕ) (some : Handlers) (one : Caught) (tok : Token) (rest ts mid : List Token) → ts ≡ tok ∷ rest
    → branch_at (Lines n) is_except ts ≡ true
    → Settles (λ k. run_handler k x n left rest) (got one mid)
    → Leads (λ k. if are_some one.names then run_handlers k x n left (and_caught some (place_at x tok) one) mid
    else got (and_caught some (place_at x tok) one)
    mid) (λ k. run_handlers k x n left some ts)
handlers_on x n left some one tok rest ts mid e b s o h = subst (λ (m : List Token). Settles (λ k. run_handlers k x n left some m) o) (sym e)
    (settles_suc (settles_if (λ k. got some (tok ∷ rest)) (ap (branch_at (Lines n) is_except) (sym e) ∙ b)
    (settles_then (λ k one mid. if are_some one.names then run_handlers k x n left (and_caught some (place_at x tok) one) mid
    else got (and_caught some (place_at x tok) one) mid) s h)) (λ k. refl))

pub handlers_end : (x : Origin) (n left : ℕ) (some : Handlers) (ts : List Token) → branch_at (Lines n) is_except ts ≡ false
    → Leads (λ k. got some ts) (λ k. run_handlers k x n left some ts)
handlers_end x n left some [] e o h = settles_suc h (λ k. refl)
handlers_end x n left some (tok ∷ ts) e o h =
    settles_suc (settles_else
    (λ k. then_do (run_handler k x n left ts) (λ one mid. if are_some one.names then run_handlers k x n left (and_caught some (place_at x tok) one) mid
    else got (and_caught some (place_at x tok) one) mid)) e h) (λ k. refl)
