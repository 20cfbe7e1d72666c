use Rattle.std.proofs.Common.{◌≡◌, ◌≤◌, length, drop}
use Rattle.expr_parts.specs.ViewReady.{IsReady}
use Rattle.decl_types.specs.ViewKnown.{Kept, Holds}
use Rattle.decl_types.proofs.Counting.{unknowns}
use Rattle.decl_types.proofs.Growing.{KnowsLeft}
use Rattle.decl_types.proofs.knowing.know_all.Given as goal

abbrev pub invariant-loop-definition : goal.invariant-loop-definition
invariant-loop-definition l = record {
  kept : Kept l.fn.types l.types;
  count : length l.known.items ≡ length l.fn.known.items;
  holds : Holds l.types l.known.items l.read;
  few : unknowns (length l.read) l.known.items ≤ length (drop l._definition-index l.read);
  ready : IsReady l.fn.types l.fn.scope → IsReady l.types l.scope;
  left : KnowsLeft l.fn.types l.types l.fn.scope l.scope l.names l.fn.known.items l.known.items l.read (drop l._definition-index l.read);
}
