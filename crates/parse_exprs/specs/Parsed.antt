-- What is said of the expression that begins at a place of a source's tokens.
use Rattle.std.specs.Prelude.{◌≡◌, ℕ, ◌<◌, ◌≤◌, ◌↔◌, true, false, List, [], ◌∷◌, drop, length, Result, Ok, Err}
use Rattle.arc_base.specs.declared.place.Place.{Place}
use Rattle.arc_base.specs.declared.place.Code.{Code}
use Rattle.arc_base.specs.declared.place.Code.TheVariants.{Syntax, NestTooDeep, LeftOut}
use Rattle.arc_base.specs.declared.place.Stop.{Stop}
use Rattle.arc_base.specs.Stops.{OnRefusal}
use Rattle.indent_scanner.specs.declared.token.Tok.TheVariants.{End}
use Rattle.indent_scanner.specs.declared.token.Token.{Token}
use Rattle.nim_tree.specs.Terms.{Term, levels, term_of}
use Rattle.parse_exprs.specs.declared.layout.Layout.{Layout}
use Rattle.parse_exprs.specs.declared.layout.Layout.TheVariants.{Lines}
use Rattle.parse_exprs.specs.declared.parse.Parsed.{Parsed}
use Rattle.parse_exprs.specs.Look.{Origin, place_at, next_at, left_out_at}
use Rattle.parse_exprs.specs.Grammar.{IsExpr, IsCallee}
use Rattle.parse_exprs.specs.Faults.{Fault, too_deep, stuck_at, FaultsExpr, FaultsPrimary}
use Rattle.parse_exprs.specs.Outcome.{Out, got, bad, deep, stuck, tired, Settles}
use Rattle.parse_exprs.specs.Run.{run_expr, run_primary}

abbrev pub origin : List ℕ → ℕ → Origin
origin source number = record { source = source; number = number }

-- the tokens begin with this expression, and these follow it
abbrev pub Reads : Origin → Layout → Term → List Token → List Token → Type 0
Reads x layout t ts rest = IsExpr x layout t ts rest

-- the same of an atom with what stands behind it, in a statement behind so many spaces, where a command may begin
abbrev pub ReadsCallee : Origin → ℕ → Term → List Token → List Token → Type 0
ReadsCallee x spaces t ts rest = IsCallee x (Lines spaces) t ts rest

-- an expression of at most so many levels can't go on, for that reason
abbrev pub ExprFaults : Origin → Layout → ℕ → Fault → List Token → Type 0
ExprFaults x layout most why ts = FaultsExpr x why layout most ts

-- the same of an atom with what stands behind it, of at most 64 levels
abbrev pub CalleeFaults : Origin → ℕ → Fault → List Token → Type 0
CalleeFaults x spaces why ts = FaultsPrimary x why (Lines spaces) true 63 ts

-- the computations
abbrev pub ExprRun : Origin → Layout → ℕ → List Token → ℕ → Out Term
ExprRun x layout most ts k = run_expr k x layout most ts

abbrev pub CalleeRun : Origin → ℕ → List Token → ℕ → Out Term
CalleeRun x spaces ts k = run_primary k x (Lines spaces) true 64 ts

-- the expression that begins here opens a level more than there may be
abbrev pub IsTooDeep : Origin → Layout → ℕ → List Token → Type 0
IsTooDeep x layout most ts = ExprFaults x layout most too_deep ts

-- it can't go on at a keyword that the language leaves out, with which the last tokens begin
pub record IsLeftOut (faults : Fault → List Token → Type 0) (ts rest : List Token) : Type 0 where
  pub stuck : faults (stuck_at rest) ts
  pub left_out : left_out_at rest ≡ true

-- ---- what was read

-- a tree of at most so many levels was read
pub record IsRead (sought : Term → List Token → List Token → Type 0) (most : ℕ) (tokens : List Token) (at : ℕ) (p : Parsed) : Type 0 where
  pub reads : sought (term_of p.tree) (drop at tokens) (drop p.next tokens)
  pub few : levels (term_of p.tree) ≤ most
  pub goes : at < p.next
  pub within : p.next ≤ length tokens

-- and there is no other
abbrev pub IsOnly : (Term → List Token → List Token → Type 0) → List Token → ℕ → Parsed → Type 0
IsOnly sought tokens at p = (t : Term) (rest : List Token) → sought t (drop at tokens) rest → (t ≡ term_of p.tree) × (rest ≡ drop p.next tokens)

-- no token from one place up to another is the end of the source
abbrev pub HasNoEnd : List Token → ℕ → ℕ → Type 0
HasNoEnd tokens at next = (k : ℕ) (tok : Token) (rest : List Token) → at ≤ k → k < next → drop k tokens ≡ tok ∷ rest → tok.kind ≡ End → ⊥

-- ---- why nothing was read

-- the place of the first token
abbrev pub IsFirst : Origin → List Token → Place → Type 0
IsFirst x [] at = ⊥
IsFirst x (tok ∷ rest) at = at ≡ place_at x tok

-- E4: there is nothing to be read, at the token that can't go on, and neither a level too many nor a keyword that is left
-- out is the cause
pub record HasNone (sought : Term → List Token → List Token → Type 0) (faults : Fault → List Token → Type 0) (x : Origin) (ts : List Token) (at : Place) :
    Type 0 where
  pub rest : List Token
  pub stuck : faults (stuck_at rest) ts
  pub next : at ≡ next_at x rest
  pub none : (t : Term) (other : List Token) → sought t ts other → ⊥
  pub shallow : faults too_deep ts → ⊥
  pub used : (other : List Token) → IsLeftOut faults ts other → ⊥

-- E5: a level too many is opened, at the first token
pub record OpensTooMany (faults : Fault → List Token → Type 0) (x : Origin) (ts : List Token) (at : Place) : Type 0 where
  pub deep : faults too_deep ts
  pub first : IsFirst x ts at

-- E23: it can't go on at a keyword that is left out, at that keyword
pub record StopsAtKeyword (faults : Fault → List Token → Type 0) (x : Origin) (ts : List Token) (at : Place) : Type 0 where
  pub rest : List Token
  pub left_out : IsLeftOut faults ts rest
  pub first : IsFirst x rest at

abbrev pub IsRefused : (Term → List Token → List Token → Type 0) → (Fault → List Token → Type 0) → Origin → List Token → Code → Place → Type 0
IsRefused sought faults x ts Syntax at = HasNone sought faults x ts at
IsRefused sought faults x ts NestTooDeep at = OpensTooMany faults x ts at
IsRefused sought faults x ts LeftOut at = StopsAtKeyword faults x ts at
IsRefused sought faults x ts _ at = ⊥

-- ---- the same, as a computation comes to it

-- E4
pub record RunsStuck (run : ℕ → Out Term) (x : Origin) (at : Place) : Type 0 where
  pub rest : List Token
  pub runs : Settles run (bad (stuck rest))
  pub used : left_out_at rest ≡ false
  pub next : at ≡ next_at x rest

-- E5
pub record RunsDeep (run : ℕ → Out Term) (x : Origin) (ts : List Token) (at : Place) : Type 0 where
  pub runs : Settles run (bad deep)
  pub first : IsFirst x ts at

-- E23
pub record RunsLeftOut (run : ℕ → Out Term) (x : Origin) (at : Place) : Type 0 where
  pub rest : List Token
  pub runs : Settles run (bad (stuck rest))
  pub left_out : left_out_at rest ≡ true
  pub first : IsFirst x rest at

abbrev pub RunsInto : (List Token → ℕ → Out Term) → Origin → List Token → Code → Place → Type 0
RunsInto run x ts Syntax at = RunsStuck (run ts) x at
RunsInto run x ts NestTooDeep at = RunsDeep (run ts) x ts at
RunsInto run x ts LeftOut at = RunsLeftOut (run ts) x at
RunsInto run x ts _ at = ⊥

abbrev pub Runs : (List Token → ℕ → Out Term) → Origin → List Token → ℕ → Result Parsed Stop → Type 0
Runs run x tokens at (Ok p) = Settles (run (drop at tokens)) (got (term_of p.tree) (drop p.next tokens))
Runs run x tokens at (Err stop) = OnRefusal stop (RunsInto run x (drop at tokens))

-- ---- that the three agree

pub record Sound (sought : Term → List Token → List Token → Type 0) (most : ℕ) (t : Term) (ts rest : List Token) : Type 0 where
  pub reads : sought t ts rest
  pub few : levels t ≤ most

-- what a computation of at most so many levels comes to
pub record Agree (sought : Term → List Token → List Token → Type 0) (faults : Fault → List Token → Type 0) (run : List Token → ℕ → Out Term) (most : ℕ) :
    Type 0 where
  pub sound : (t : Term) (ts rest : List Token) → Settles (run ts) (got t rest) → Sound sought most t ts rest
  pub complete : (t : Term) (ts rest : List Token) → sought t ts rest → levels t ≤ most → Settles (run ts) (got t rest)
  pub deep : (ts : List Token) → faults too_deep ts ↔ Settles (run ts) (bad deep)
  pub stuck : (ts rest : List Token) → faults (stuck_at rest) ts ↔ Settles (run ts) (bad (stuck rest))
  pub high : (t : Term) (ts rest : List Token) → sought t ts rest → faults too_deep ts ↔ (most < levels t)
  -- with more steps it comes to the same
  pub steady : (k : ℕ) (ts : List Token) (o : Out Term) → run ts k ≡ o → (o ≡ bad tired → ⊥) → Settles (run ts) o
