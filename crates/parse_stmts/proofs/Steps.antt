-- Tests on tokens, and steps of the code.
use Rattle.std.proofs.Common.{◌≡◌, ℕ, zero, suc, ◌≤◌, List, [], ◌∷◌, drop, length, Bool, true, false, refl, sym, ap, subst, ◌∙◌, ◌+◌, add-one, arith}
use Rattle.std.specs.Prelude.{Option, Some, None, if◌then◌else◌}
use Rattle.arc_base.specs.declared.place.Stop.{Stop}
use Rattle.indent_scanner.specs.declared.token.Token.{Token}
use Rattle.parse_exprs.specs.declared.input.Input.{Input}
use Rattle.nim_tree.specs.Statements.{Statement, Statements, and_statement}
use Rattle.parse_exprs.specs.declared.layout.Layout.TheVariants.{Lines}
use Rattle.parse_exprs.specs.Look.{Origin, stays, is_punct}
use Rattle.parse_exprs.specs.Input.{from_at}
use Rattle.parse_decls.specs.Look.{behind}
use Rattle.parse_decls.specs.Outcome.{Out, got, stuck_at, unless_stuck, Settles}
use Rattle.parse_decls.specs.Gives.{Told, Fails, Leads}
use Rattle.parse_decls.proofs.ForCallers.{settles_suc, settles_is, settles_then, settles_bad, settles_unless, settles_stuck, settles_if, settles_else}
use Rattle.parse_decls.proofs.ForCallers.{told_fails, fails_by}
use Rattle.parse_stmts.specs.declared.look.Simple.{Simple}
use Rattle.parse_stmts.specs.Look.{simple_of, word_on}
use Rattle.parse_stmts.specs.Run.{run_simple, run_simple_by, run_line}
use Rattle.parse_stmts.specs.Marks.{IsPast, IsBehind}

pub beyond : (test : List Token → Bool) → test [] ≡ false → (at : ℕ) (ts : List Token) → length ts ≤ at → test (drop at ts) ≡ false
beyond test n zero [] le = n
beyond test n zero (tok ∷ ts) le = (let f : ⊥ = omega (arith, le) in absurd f)
beyond test n (suc at) [] le = n
beyond test n (suc at) (tok ∷ ts) le = beyond test n at ts (omega (arith, le))

none_past : (input : Input) (test : List Token → Bool) (at : ℕ) (found : Bool) → test [] ≡ false → found ≡ test (from_at input at)
    → (found ≡ true → length input.tokens.now ≤ at) → test (from_at input at) ≡ false
none_past input test at false n e h = sym e
none_past input test at true n e h = beyond test n at input.tokens.now (h refl)

pub past_is : (input : Input) (test : List Token → Bool) (at : ℕ) (found : Bool) → test [] ≡ false → found ≡ test (from_at input at) → (r : Option ℕ)
    → IsBehind input found at r → IsPast input test at r
past_is input test at found n e (Some next) h = record { is = sym e ∙ h.is; behind = h.behind; goes = h.goes; within = h.within }
past_is input test at found n e None h = none_past input test at found n e h

pub head_on : (input : Input) (at : ℕ) (tok : Token) → from_at input at ≡ tok ∷ from_at input (suc at) → from_at input at ≡ tok ∷ from_at input (at + 1)
head_on input at tok e = e ∙ ap (λ i. tok ∷ from_at input i) (sym (add-one at))

-- a simple statement by what it begins with
pub simple_by : (x : Origin) (n : ℕ) (tok : Token) (ts rest : List Token) (it : Simple) → ts ≡ tok ∷ rest → simple_of tok.kind ≡ it
    → Leads (λ k. run_simple_by k it x n tok rest) (λ k. run_simple k x n ts)
simple_by x n tok ts rest it e s o h = settles_is h (λ k. ap (run_simple k x n) e ∙ ap (λ i. run_simple_by k i x n tok rest) s)

-- what follows a simple statement on its line
abbrev pub run_more_line : ℕ → Origin → ℕ → Statements → List Token → Out Statements
run_more_line k x n some ts =
    if word_on n (is_punct 59) ts then unless_stuck (stays (Lines n) (behind ts)) (behind ts) (run_line k x n some (behind ts)) else got some ts

-- ---- the same tokens

pub fails_at : {X : Type 0} (run : List Token → ℕ → Out X) (x : Origin) {ts rest : List Token} → ts ≡ rest → (stop : Stop) → Fails (run rest) x stop
    → Fails (run ts) x stop
fails_at run x e stop h = subst (λ (m : List Token). Fails (run m) x stop) (sym e) h

pub settles_at : {X : Type 0} (run : List Token → ℕ → Out X) {ts rest : List Token} {o : Out X} → ts ≡ rest → Settles (run rest) o → Settles (run ts) o
settles_at run {o = o} e h = subst (λ (m : List Token). Settles (run m) o) (sym e) h

-- ---- a line

pub line_fails : (x : Origin) (n : ℕ) (some : Statements) (ts : List Token) (stop : Stop) → Fails (λ k. run_simple k x n ts) x stop
    → Fails (λ k. run_line k x n some ts) x stop
line_fails x n some ts stop h = fails_by (λ k. run_simple k x n ts) (λ k. run_line k x n some ts) x
    (λ why s. settles_suc (settles_bad (λ k one mid. run_more_line k x n (and_statement some one) mid) s) (λ k. refl)) stop h

pub line_more : (x : Origin) (n : ℕ) (some all : Statements) (one : Statement) (ts mid : List Token) → all ≡ and_statement some one
    → Settles (λ k. run_simple k x n ts) (got one mid)
    → Leads (λ k. run_more_line k x n all mid) (λ k. run_line k x n some ts)
line_more x n some all one ts mid e s o h =
    settles_suc (settles_then (λ k one mid. run_more_line k x n (and_statement some one) mid) s
    (subst (λ (a : Statements). Settles (λ k. run_more_line k x n a mid) o) e h)) (λ k. refl)

pub line_ends : (x : Origin) (n : ℕ) (some : Statements) (ts : List Token) → word_on n (is_punct 59) ts ≡ false
    → Leads (λ k. got some ts) (λ k. run_more_line k x n some ts)
line_ends x n some ts e o h = settles_else (λ k. unless_stuck (stays (Lines n) (behind ts)) (behind ts) (run_line k x n some (behind ts))) e h

pub line_on : (x : Origin) (n : ℕ) (some : Statements) (ts rest : List Token) → word_on n (is_punct 59) ts ≡ true → behind ts ≡ rest
    → stays (Lines n) rest ≡ true
    → Leads (λ k. run_line k x n some rest) (λ k. run_more_line k x n some ts)
line_on x n some ts rest e b s o h =
    settles_if (λ k. got some ts) e (settles_at (λ m k. unless_stuck (stays (Lines n) m) m (run_line k x n some m)) b (settles_unless rest s h))

pub line_stuck : (x : Origin) (n : ℕ) (some : Statements) (ts rest : List Token) (whole : ℕ → Out Statements) → Leads (λ k. run_more_line k x n some ts) whole
    → word_on n (is_punct 59) ts ≡ true → behind ts ≡ rest → stays (Lines n) rest ≡ false → (stop : Stop) → Told x (stuck_at rest) stop → Fails whole x stop
line_stuck x n some ts rest whole l e b s stop t =
    told_fails x
    (l _ (settles_if (λ k. got some ts) e (settles_at (λ m k. unless_stuck (stays (Lines n) m) m (run_line k x n some m)) b
    (settles_stuck (λ k. run_line k x n some rest) rest s)))) stop t
