-- What stands in a table stands in a longer one.
use Rattle.std.proofs.Common.{ℕ, ◌<◌, ◌≤◌, ◌++◌, List, [], ◌∷◌, length, Option, Some, None, arith}
use Rattle.nim_types.specs.declared.types.TypeDef.{TypeDef}
use Rattle.nim_types.specs.Table.{IsBelow, AllBelow}
use Rattle.expr_parts.specs.declared.scope.Parameter.{Parameter}
use Rattle.expr_parts.specs.declared.scope.What.{What}
use Rattle.expr_parts.specs.declared.scope.What.TheVariants as what
use Rattle.expr_parts.specs.declared.scope.Decl.{Decl}
use Rattle.expr_parts.specs.declared.scope.Scope.{Scope}
use Rattle.expr_parts.specs.View.{Grown, ParametersWithin, WhatWithin, DeclsWithin}
use Rattle.expr_parts.specs.ViewReady.{IsReady}

pub below_more : (m n : ℕ) (o : Option ℕ) → m ≤ n → IsBelow m o → IsBelow n o
below_more m n None le h = tt
below_more m n (Some i) le h = omega (arith, le, h)

params_more : (m n : ℕ) (ps : List Parameter) → m ≤ n → ParametersWithin m ps → ParametersWithin n ps
params_more m n [] le h = tt
params_more m n (p ∷ ps) le h = (omega (arith, le, h.0), params_more m n ps le h.1)

what_more : (m n : ℕ) (w : What) → m ≤ n → WhatWithin m w → WhatWithin n w
what_more m n (what.Variable place ty writable global) le h = omega (arith, le, h)
what_more m n (what.Constant ty l) le h = omega (arith, le, h)
what_more m n (what.Type id) le h = omega (arith, le, h)
what_more m n what.Pending le h = tt
what_more m n (what.Procedure p) le h = (below_more m n p.gives le h.0, params_more m n p.params le h.1)
what_more m n what.Input le h = tt

pub decls_more : (m n : ℕ) (ds : List Decl) → m ≤ n → DeclsWithin m ds → DeclsWithin n ds
decls_more m n [] le h = tt
decls_more m n (d ∷ ds) le h = (what_more m n d.what le h.0, decls_more m n ds le h.1)

-- those of two lists
pub decls_both : (n : ℕ) (ds es : List Decl) → DeclsWithin n ds → DeclsWithin n es → DeclsWithin n (ds ++ es)
decls_both n [] es h w = w
decls_both n (d ∷ ds) es h w = (h.0, decls_both n ds es h.1 w)

pub ready_on : {a b : List TypeDef} {scope : Scope} → Grown a b → IsReady a scope → IsReady b scope
ready_on {a = a} {b = b} {scope = scope} g r = record {
  formed = g.formed r.formed;
  kinds = g.kinds scope.kinds r.kinds;
  decls = decls_more (length a) (length b) scope.decls g.length r.decls;
}

-- one type more
pub ids_and : {n : ℕ} → (is : List ℕ) (i : ℕ) → AllBelow n is → i < n → AllBelow n (is ++ i ∷ [])
ids_and [] i b c = (c, tt)
ids_and (x ∷ is) i b c = (b.0, ids_and is i b.1 c)
