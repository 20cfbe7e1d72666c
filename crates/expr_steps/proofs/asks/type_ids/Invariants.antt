use Rattle.std.proofs.Common.{◌≡◌, ◌++◌, drop}
use Rattle.std.specs.Prelude.{map}
use Rattle.expr_steps.proofs.asks.type_ids.Given as goal

abbrev pub invariant-loop-field : goal.invariant-loop-field
invariant-loop-field l = l.ids.items ++ map (λ f. f.ty) (drop l.field-index l.fields) ≡ map (λ f. f.ty) l.fields
