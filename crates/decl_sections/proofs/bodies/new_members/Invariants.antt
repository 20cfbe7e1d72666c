use Rattle.std.proofs.Common.{◌≡◌, ℕ, List, length, drop, ◌++◌}
use Rattle.nim_types.specs.Types.{Ty}
use Rattle.decl_rules.specs.State.{State}
use Rattle.decl_rules.specs.Sections.{members_rule}
use Rattle.decl_written.specs.ViewWritten.{HasNames}
use Rattle.decl_sections.specs.ViewBodies.{IsDeclared, member_entries}
use Rattle.decl_sections.proofs.Saying.{front_members}
use Rattle.decl_sections.proofs.bodies.new_members.Given as goal

abbrev pub invariant-loop-member : goal.invariant-loop-member
invariant-loop-member l = record {
  outside : l.declared.outside ≡ l.fn.declared.outside;
  start : l.declared.start ≡ l.fn.declared.start;
  seen : (before : List (List ℕ)) → HasNames l.fn.declared.seen before → HasNames l.declared.seen (l.names ++ before);
  left : (before : List (List ℕ)) (ty : Ty) (st : State) → HasNames l.fn.declared.seen before → IsDeclared st l.fn.declared l.scope
      → (now : List (List ℕ)) × HasNames l.declared.seen now × (members_rule st before ty 0 l.members
      ≡ front_members (member_entries ty 0 l.names) (members_rule st now ty (length l.names) (drop l.member-index l.members)));
}
