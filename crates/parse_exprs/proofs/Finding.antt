-- What was read.
use Rattle.std.proofs.Common.{◌≡◌, ℕ, ◌≤◌, List, length, ap₂, subst}
use Rattle.indent_scanner.specs.declared.token.Token.{Token}
use Rattle.parse_exprs.specs.declared.input.Input.{Input}
use Rattle.nim_tree.specs.Terms.{Term, Parts}
use Rattle.parse_exprs.specs.Outcome.{Out, got, Settles}
use Rattle.parse_exprs.specs.Run.{Tail}
use Rattle.parse_exprs.specs.Input.{from_at}
use Rattle.parse_exprs.specs.Gives.{Found}

-- a tree that the run comes to, and that was made; it ends where the code says
pub found_at : {X : Type 0} {f : ℕ → Out X} {a t : X} {rest : List Token} (input : Input) {left least high next tall : ℕ} → Settles f (got a rest) → a ≡ t
    → rest ≡ from_at input next
    → tall ≡ high → tall ≤ left → least ≤ next → next ≤ length input.tokens.now → Found f input left least t high next tall
found_at {f = f} input h e r depth few goes within = record { runs = subst (Settles f) (ap₂ got e r) h; depth = depth; few = few; goes = goes; within = within }

abbrev pub tail : Parts → Term → Tail
tail tests value = record { tests = tests; value = value }
