use Rattle.std.proofs.Common.{ap, ◌∙◌, Some, Bool, ℕ}
use Rattle.std.specs.Prelude.{Ok}
use Rattle.decl_rules.specs.Heads.{completes_if}
use Rattle.decl_heads.proofs.completion.completion_of.Goals as goal

pub returns-then-completes : goal.returns-then-completes
returns-then-completes c = λ at p e. ap (λ (k : Bool). completes_if k at p) c.if-completes.true ∙ ap (λ (n : ℕ). Ok (Some n)) e

pub returns-else-completes : goal.returns-else-completes
returns-else-completes c = λ at p e. ap (λ (k : Bool). completes_if k at p) c.if-completes.false
