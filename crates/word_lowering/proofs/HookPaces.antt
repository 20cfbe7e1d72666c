-- A work of a hook of a type of at most 64 levels has few lines.
use Rattle.std.proofs.Common.{ℕ, ◌≤◌, arith}
use Rattle.hook_code.specs.Kept.{pace_at}
use Rattle.hook_lifting.specs.declared.lifted.Hook.{Hook}
use Rattle.hook_lifting.specs.declared.lifted.Hook.TheVariants.{Assigns, Copies, Ends, Sinks}

pub pace_by : (hook : Hook) (n : ℕ) → n ≤ 64 → pace_at hook n ≤ 251
pace_by Copies n few = omega (arith, few)
pace_by Ends n few = omega (arith, few)
pace_by Assigns n few = omega (arith, few)
pace_by Sinks n few = omega (arith, few)
