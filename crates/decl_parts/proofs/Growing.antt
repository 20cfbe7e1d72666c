-- Tables that grow under a state.
use Rattle.std.proofs.Common.{◌≡◌, ℕ, ◌≤◌, List, Some, None, sym, subst, arith}
use Rattle.std.specs.Prelude.{Option, Result, Ok, Err, IfOk}
use Rattle.arc_base.specs.declared.place.Stop.{Stop}
use Rattle.nim_types.specs.declared.types.TypeDef.{TypeDef}
use Rattle.nim_types.specs.Types.{Ty}
use Rattle.nim_types.specs.Table.{facts_in, IsBelow}
use Rattle.expr_parts.specs.declared.scope.Decl.{Decl}
use Rattle.expr_parts.specs.declared.scope.Scope.{Scope}
use Rattle.expr_parts.specs.View.{Under, Grown}
use Rattle.decl_parts.specs.declared.state.ResultPlace.{ResultPlace as RustResultPlace}
use Rattle.decl_parts.specs.declared.state.Inside.{Inside as RustInside}
use Rattle.decl_parts.specs.declared.state.Inside.TheVariants as inside
use Rattle.decl_parts.specs.View.{ResultWithin, InsideWithin}

pub result_more : (m n : ℕ) (o : Option RustResultPlace) → m ≤ n → ResultWithin m o → ResultWithin n o
result_more m n None le h = tt
result_more m n (Some r) le h = omega (arith, le, h)

pub inside_more : (m n : ℕ) (i : RustInside) → m ≤ n → InsideWithin m i → InsideWithin n i
inside_more m n inside.ModuleCode le h = tt
inside_more m n (inside.Procedure gives) le h = result_more m n gives le h

-- ---- facts

pub facts_kept : (a b : List TypeDef) (ts : List Ty) → Grown a b → Under b ts (facts_in b) → facts_in b ≡ facts_in a
facts_kept a b ts g u = (g.under ts (facts_in b) u).said

pub under_kept : (a b : List TypeDef) (ts : List Ty) → Grown a b → Under b ts (facts_in b) → Under b ts (facts_in a)
under_kept a b ts g u = subst (Under b ts) (facts_kept a b ts g u) u

pub over_old : (a b : List TypeDef) (ts : List Ty) → Grown a b → Under b ts (facts_in b) → Under a ts (facts_in a)
over_old a b ts g u = subst (Under a ts) (facts_kept a b ts g u) (g.under ts (facts_in b) u)

-- ---- values

pub ok_by : {T : Type 0} (P : T → Type 0) (x : T) (r : Result T Stop) → P x → IfOk r (λ v. v ≡ x) → IfOk r P
ok_by P x (Ok v) p e = subst P (sym e) p
ok_by P x (Err s) p e = tt

pub below_all : {T : Type 0} (n : ℕ) (of reads : T → Option ℕ) (r : Result T Stop) → IfOk r (λ t. of t ≡ reads t)
    → IfOk r (λ t. IsBelow n (reads t))
    → IfOk r (λ t. IsBelow n (of t))
below_all n of reads (Ok t) e b = subst (IsBelow n) (sym e) b
below_all n of reads (Err s) e b = tt

pub scope_by : {ds : List Decl} (s t : Scope) → t.decls ≡ ds → t.kinds ≡ s.kinds → t.home ≡ s.home → t ≡ record s { decls = ds }
scope_by s t e k h = λ i. record { decls = e i; kinds = k i; home = h i }
