-- What a call that reads gives.
use Rattle.std.specs.Prelude.{◌≡◌, ℕ, suc, ◌≤◌, max, List, Option, Some, None, Result, Ok, Err, length, ⊤}
use Rattle.indent_scanner.specs.declared.token.Token.{Token}
use Rattle.nim_tree.specs.declared.expr.Expr.{Expr}
use Rattle.nim_tree.specs.Terms.{Term, Parts, Choices, levels, most_levels, levels_in, term_of, parts_of, choices_of}
use Rattle.parse_exprs.specs.declared.input.Input.{Input}
use Rattle.parse_exprs.specs.declared.make.Reading.{Reading}
use Rattle.parse_exprs.specs.declared.make.Several.{Several}
use Rattle.parse_exprs.specs.declared.make.Tail.{Tail as TailRead}
use Rattle.parse_exprs.specs.declared.make.Branches.{Branches}
use Rattle.parse_exprs.specs.declared.make.Stuck.{Stuck}
use Rattle.parse_exprs.specs.declared.make.Stuck.TheVariants.{Syntax, Deep, Memory}
use Rattle.parse_exprs.specs.Outcome.{Out, got, bad, stuck, deep, Settles}
use Rattle.parse_exprs.specs.Run.{Tail}
use Rattle.parse_exprs.specs.Input.{from_at}

abbrev pub tree_in : Option Expr → Option Term
tree_in None = None
tree_in (Some tree) = Some (term_of tree)

-- what the run comes to where nothing is read
abbrev pub Fails : {X : Type 0} → (ℕ → Out X) → Input → Stuck → Type 0
Fails run input (Syntax at) = Settles run (bad (stuck (from_at input at)))
Fails run input Deep = Settles run (bad deep)
Fails run input Memory = ⊤

-- t was read, of high levels; next is the token behind it, from a least one on
pub record Found {X : Type 0} (run : ℕ → Out X) (input : Input) (left least : ℕ) (t : X) (high next tall : ℕ) : Type 0 where
  pub runs : Settles run (got t (from_at input next))
  pub depth : tall ≡ high
  pub few : tall ≤ left
  pub goes : least ≤ next
  pub within : next ≤ length input.tokens.now

abbrev pub Comes : (ℕ → Out Term) → Input → (left least : ℕ) → Result Reading Stuck → Type 0
Comes run input left least (Ok p) = Found run input left least (term_of p.tree) (levels (term_of p.tree)) p.next p.depth
Comes run input left least (Err e) = Fails run input e

abbrev pub ComesParts : (ℕ → Out Parts) → Input → (left least : ℕ) → Result Several Stuck → Type 0
ComesParts run input left least (Ok s) = Found run input left least (parts_of s.parts.items) (most_levels (parts_of s.parts.items)) s.next s.depth
ComesParts run input left least (Err e) = Fails run input e

abbrev pub tail_of : TailRead → Tail
tail_of b = record { tests = parts_of b.tests.items; value = term_of b.value }

abbrev pub tail_levels : Tail → ℕ
tail_levels b = max (most_levels b.tests) (levels b.value)

abbrev pub ComesTail : (ℕ → Out Tail) → Input → (left least : ℕ) → Result TailRead Stuck → Type 0
ComesTail run input left least (Ok b) = Found run input left least (tail_of b) (tail_levels (tail_of b)) b.next b.depth
ComesTail run input left least (Err e) = Fails run input e

abbrev pub ComesChoices : (ℕ → Out Choices) → Input → (left least : ℕ) → Result Branches Stuck → Type 0
ComesChoices run input left least (Ok s) = Found run input left least (choices_of s.branches.items) (levels_in (choices_of s.branches.items)) s.next s.depth
ComesChoices run input left least (Err e) = Fails run input e

-- what one run comes to, another comes to as well
abbrev pub Leads : {X : Type 0} → (ℕ → Out X) → (ℕ → Out X) → Type 0
Leads part whole = (o : Out _) → Settles part o → Settles whole o

-- something of high levels was read so far, and a run goes on with it
pub record Onward {X : Type 0} (part whole : ℕ → Out X) (input : Input) (left least high next tall : ℕ) : Type 0 where
  pub leads : Leads part whole
  pub depth : tall ≡ high
  pub few : tall ≤ left
  pub goes : least ≤ next
  pub within : next ≤ length input.tokens.now

-- one more operator or suffix behind a: run says what follows a tree
abbrev pub Goes : (run : Term → List Token → ℕ → Out Term) → Input → (left : ℕ) → (a : Term) → (at : ℕ) → Result Reading Stuck → Type 0
Goes run input left a at (Ok p) = Onward (run (term_of p.tree) (from_at input p.next)) (run a (from_at input at)) input left (suc at) (levels (term_of p.tree))
    p.next p.depth
Goes run input left a at (Err e) = Fails (run a (from_at input at)) input e
