-- What is ready stays ready while a section is read; and the section as a statement.
use Rattle.std.proofs.Common.{◌≡◌, ℕ, List, [], ◌∷◌, ◌++◌, length, None, sym, subst}
use Rattle.std.specs.Prelude.{Bool, true, false, ◌||◌, if◌then◌else◌}
use Rattle.indent_scanner.specs.Words.{normal}
use Rattle.nim_tree.specs.Types.{Declaration}
use Rattle.nim_types.specs.declared.types.TypeDef.{TypeDef}
use Rattle.expr_rules.specs.Constructions.{is_among}
use Rattle.expr_parts.specs.declared.scope.Decl.{Decl}
use Rattle.expr_parts.specs.declared.scope.Scope.{Scope}
use Rattle.expr_parts.specs.declared.scope.What.{What}
use Rattle.expr_parts.specs.View.{DeclsWithin, KindsIn}
use Rattle.expr_parts.specs.ViewReady.{IsReady}
use Rattle.expr_parts.proofs.ForCallers.{decls_both}
use Rattle.decl_sections.specs.declared.starting.Frame.{Frame}
use Rattle.decl_sections.specs.declared.starting.Reading.{Reading}
use Rattle.decl_types.specs.ViewScoped.{decls_by, type_decl}
use Rattle.decl_sections.specs.ViewSections.{none_known}
use Rattle.decl_sections.specs.ViewWalk.{own_by, Begins}

pub ready_further : (ds : List TypeDef) (scope new : Scope) (more : List Decl) → new.decls ≡ scope.decls ++ more → new.kinds ≡ scope.kinds
    → DeclsWithin (length ds) more → IsReady ds scope → IsReady ds new
ready_further ds scope new more e f h r = record {
  formed = r.formed;
  kinds = subst (KindsIn ds) (sym f) r.kinds;
  decls = subst (DeclsWithin (length ds)) (sym e) (decls_both (length ds) scope.decls more r.decls h);
}

pending_within : (n : ℕ) (own : List ℕ → Bool) (names : List (List ℕ)) (all : List Declaration)
    → DeclsWithin n (decls_by own names (none_known all) all)
pending_within n own names [] = tt
pending_within n own names (d ∷ rest) =
    by_name (own (normal d.name.text) || is_among (normal d.name.text) names) (λ more. pending_within n own more rest)
  where
    by_name : (b : Bool) → ((more : List (List ℕ)) → DeclsWithin n (decls_by own more (none_known rest) rest))
        → DeclsWithin n (if b then decls_by own names (none_known rest) rest
        else type_decl (normal d.name.text) None ∷ decls_by own (normal d.name.text ∷ names) (none_known rest) rest)
    by_name true go = go names
    by_name false go = (tt, go (normal d.name.text ∷ names))

-- before the first definition
pub ready_begun : (ds : List TypeDef) (old new : Scope) (outside : ℕ) (all : List Declaration) (frame : Frame) (reading : Reading)
    → Begins old new outside all frame reading → IsReady ds old → IsReady ds new
ready_begun ds old new outside all frame reading b r =
    ready_further ds old new (decls_by (own_by outside old.decls) [] (none_known all) all) b.decls b.kinds
    (pending_within (length ds) (own_by outside old.decls) [] all) r
