use Rattle.std.proofs.Common.{◌≡◌, ℕ, ◌<◌, ◌++◌, List, drop}
use Rattle.std.specs.Prelude.{map}
use Rattle.nim_types.specs.Types.{Ty}
use Rattle.nim_types.specs.Table.{type_at}
use Rattle.expr_parts.specs.declared.scope.Decl.{Decl}
use Rattle.expr_parts.specs.View.{entry_of, DeclsWithin}
use Rattle.decl_rules.specs.Sections.{seen_members}
use Rattle.decl_written.specs.ViewWritten.{HasNames}
use Rattle.decl_sections.specs.ViewBodies.{member_entries}
use Rattle.decl_sections.proofs.reading.declare_members.Given as goal

abbrev pub invariant-loop-member : goal.invariant-loop-member
invariant-loop-member l = record {
  kinds : l.scope.kinds ≡ l.fn.scope.kinds;
  home : l.scope.home ≡ l.fn.scope.home;
  number : l.number ≡ l.member-index;
  left : (seen : List Decl) × (l.scope.decls ≡ l.fn.scope.decls ++ seen)
      × ((n : ℕ) → l.ty < n → DeclsWithin n seen)
      × ((ts : List Ty) (types : List (List ℕ)) → HasNames l.all types
      → seen_members types (member_entries (type_at ts l.ty) 0 l.members)
      ≡ map (entry_of ts) seen ++ seen_members types (member_entries (type_at ts l.ty) l.member-index (drop l.member-index l.members)));
}
