use Rattle.std.proofs.Common.{ℕ, ◌≡◌, ◌≤◌, ◌+◌, List, [], drop, length}
use Rattle.std.specs.Prelude.{map}
use Rattle.nim_tree.specs.Types.{declaration_of}
use Rattle.nim_types.specs.Types.{Ty}
use Rattle.nim_types.specs.Table.{facts_in}
use Rattle.expr_parts.specs.declared.scope.Decl.{Decl}
use Rattle.expr_parts.specs.View.{Under}
use Rattle.expr_parts.specs.ViewReady.{IsReady}
use Rattle.decl_rules.specs.State.{State}
use Rattle.decl_rules.specs.Sections.{Section, none_read, declarations_rule}
use Rattle.decl_types.specs.ViewKnown.{Kept, Holds}
use Rattle.decl_types.specs.ViewMarks.{is_unknown, Stuck}
use Rattle.decl_sections.specs.ViewWalk.{Framed, StageOf}
use Rattle.decl_sections.proofs.reading.read_all.Given as goal

abbrev pub invariant-loop-def : goal.invariant-loop-def
invariant-loop-def l = record {
  kept : Kept l.fn.types l.types;
  ready : IsReady l.types l.scope;
  room : length l.reading.read.items + length (drop l.def-index l.defs) ≤ length l.reading.known.items;
  holds : Holds l.types l.reading.known.items l.reading.read.items;
  known : length l.reading.known.items ≡ length l.fn.reading.known.items;
  stuck : Stuck (map is_unknown l.reading.known.items) l.reading.read.items;
  count : l.fn.reading.read.items ≡ [] → length l.reading.read.items ≡ l.def-index;
  left : (ts : List Ty) (st : State) (old : List Decl) (n : ℕ) → Under l.types ts (facts_in l.types)
      → Framed ts st (map declaration_of l.defs) old n l.frame → l.fn.reading.read.items ≡ []
      → StageOf ts st (map declaration_of l.defs) old n l.fn.types l.fn.scope l.fn.reading none_read
      → (s : Section) × StageOf ts st (map declaration_of l.defs) old n l.types l.scope l.reading s
      × (declarations_rule st (map declaration_of l.defs) none_read (map declaration_of l.defs)
      ≡ declarations_rule st (map declaration_of l.defs) s (map declaration_of (drop l.def-index l.defs)));
}
