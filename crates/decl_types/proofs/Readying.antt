-- What is ready stays ready where more types are known.
use Rattle.std.proofs.Common.{◌≡◌, ℕ, zero, suc, ◌+◌, ◌<◌, List, [], ◌∷◌, length, sym, subst, Some, None}
use Rattle.std.specs.Prelude.{Option}
use Rattle.nim_types.specs.declared.types.TypeDef.{TypeDef}
use Rattle.expr_parts.specs.declared.scope.Decl.{Decl}
use Rattle.expr_parts.specs.declared.scope.Scope.{Scope}
use Rattle.expr_parts.specs.declared.scope.What.{What}
use Rattle.expr_parts.specs.declared.scope.What.TheVariants as what
use Rattle.expr_parts.specs.View.{DeclsWithin, WhatWithin, KindsIn}
use Rattle.expr_parts.specs.ViewDecls.{mended}
use Rattle.expr_parts.specs.ViewReady.{IsReady}
use Rattle.decl_types.specs.ViewKnown.{Kept}
use Rattle.decl_types.specs.ViewScoped.{mended_from}
use Rattle.expr_parts.proofs.ForCallers.{decls_more}

within_mended : (n : ℕ) (ds : List Decl) (i : ℕ) (w : What) → DeclsWithin n ds → WhatWithin n w → DeclsWithin n (mended ds i w)
within_mended n [] i w h k = tt
within_mended n (d ∷ ds) zero w h k = (k, h.1)
within_mended n (d ∷ ds) (suc i) w h k = (h.0, within_mended n ds i w h.1 k)

pub ready_kept : (ds es : List TypeDef) (scope : Scope) → Kept ds es → IsReady ds scope → IsReady es scope
ready_kept ds es scope k r = record {
  formed = k.formed r.formed;
  kinds = k.kinds scope.kinds r.kinds;
  decls = decls_more (length ds) (length es) scope.decls k.length r.decls;
}

within_from : (n : ℕ) (ds : List Decl) (start : ℕ) (o : Option ℕ) (id : ℕ) → DeclsWithin n ds → id < n → DeclsWithin n (mended_from ds start o id)
within_from n ds start None id w lt = w
within_from n ds start (Some i) id w lt = within_mended n ds (start + i) (what.Type id) w lt

-- a type that becomes known
pub ready_mended : (ds es : List TypeDef) (scope new : Scope) (start : ℕ) (o : Option ℕ) (id : ℕ) → Kept ds es → id < length es
    → new.decls ≡ mended_from scope.decls start o id → new.kinds ≡ scope.kinds → IsReady ds scope → IsReady es new
ready_mended ds es scope new start o id k lt e f r =
    let s = ready_kept ds es scope k r in
    record {
      formed = s.formed;
      kinds = subst (KindsIn es) (sym f) s.kinds;
      decls = subst (DeclsWithin (length es)) (sym e) (within_from (length es) scope.decls start o id s.decls lt);
    }
