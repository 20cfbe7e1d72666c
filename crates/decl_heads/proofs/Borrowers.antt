-- What borrows an operation of a name.
use Rattle.std.proofs.Common.{◌≡◌, ℕ, ◌≤◌, List, [], ◌∷◌, ◌++◌, length, map, refl, ap, ◌∙◌, Some, None}
use Rattle.std.specs.Prelude.{Bool, true, false, ◌||◌, ◌&&◌, not, Option, slice_get}
use Rattle.std.proofs.lemmas.Bool.{both_ways}
use Rattle.nim_types.specs.Types as type
use Rattle.nim_types.specs.Types.{Ty, same}
use Rattle.expr_parts.specs.declared.scope.Procedure.{Procedure as RustProcedure}
use Rattle.expr_parts.specs.declared.scope.What.{What}
use Rattle.expr_parts.specs.declared.scope.What.TheVariants as what
use Rattle.expr_parts.specs.declared.scope.Decl.{Decl}
use Rattle.expr_parts.specs.View.{entry_by, parameter_of, procedure_of}
use Rattle.expr_parts.specs.ViewDecls.{last_of, procedure_in}
use Rattle.expr_parts.proofs.ForCallers.{hides, known_from, known_in, known_none}
use Rattle.expr_rules.specs.Constructions.{base_of}
use Rattle.expr_rules.specs.Env.{Env, Parameter, Procedure, callable, known_next}
use Rattle.decl_rules.specs.Heads.{borrows_for, takes_first, is_borrowing, is_plain, is_dollar, is_comparison, has_base, borrow_fits}
use Rattle.decl_parts.specs.View.{is_text_type}
use Rattle.decl_heads.specs.ViewHeads.{is_bool_type}

or_false : (a : Bool) → (a || false) ≡ a
or_false true = refl
or_false false = refl

or_true : (a : Bool) → (a || true) ≡ true
or_true true = refl
or_true false = refl

turned : (a b c : Bool) → (a || (b || c)) ≡ ((a || b) || c)
turned true b c = refl
turned false b c = refl

last : (t : Ty) (ps : List Procedure) (p : Procedure) → borrows_for t (ps ++ p ∷ []) ≡ (borrows_for t ps || (p.borrowed && takes_first t p.params))
last t [] p = or_false (p.borrowed && takes_first t p.params)
last t (q ∷ ps) p =
    ap (λ (b : Bool). (q.borrowed && takes_first t q.params) || b) (last t ps p)
    ∙ turned (q.borrowed && takes_first t q.params) (borrows_for t ps) (p.borrowed && takes_first t p.params)

-- the last declaration of a name, where it is a procedure
pub borrows_next : (ts : List Ty) (t : Ty) (x : List ℕ) (ds : List Decl) (n i : ℕ) (d : Decl) (p : RustProcedure) → n ≤ length ds
    → last_of ds x n ≡ Some i
    → slice_get ds i ≡ Some d → d.what ≡ what.Procedure p
    → borrows_for t (callable (known_in ts x ds n))
    ≡ (borrows_for t (callable (known_in ts x ds i)) || (p.borrowed && takes_first t (map (parameter_of ts) p.params)))
borrows_next ts t x ds n i d p within is at w =
    ap (λ k. borrows_for t (callable k)) (known_from ts x ds n i d within is at)
    ∙ ap (λ (z : What). borrows_for t (callable (known_next (known_in ts x ds i) (entry_by ts d.name z)))) w
    ∙ last t (callable (known_in ts x ds i)) (procedure_of ts p)

pub borrows_true : (ts : List Ty) (t : Ty) (x : List ℕ) (ds : List Decl) (n i : ℕ) (d : Decl) (p : RustProcedure) → n ≤ length ds
    → last_of ds x n ≡ Some i
    → slice_get ds i ≡ Some d → d.what ≡ what.Procedure p → (p.borrowed && takes_first t (map (parameter_of ts) p.params)) ≡ true
    → borrows_for t (callable (known_in ts x ds n)) ≡ true
borrows_true ts t x ds n i d p within is at w e =
    borrows_next ts t x ds n i d p within is at w ∙ ap (λ (b : Bool). borrows_for t (callable (known_in ts x ds i)) || b) e
    ∙ or_true (borrows_for t (callable (known_in ts x ds i)))

pub borrows_false : (ts : List Ty) (t : Ty) (x : List ℕ) (ds : List Decl) (n i : ℕ) (d : Decl) (p : RustProcedure) → n ≤ length ds
    → last_of ds x n ≡ Some i
    → slice_get ds i ≡ Some d → d.what ≡ what.Procedure p → (p.borrowed && takes_first t (map (parameter_of ts) p.params)) ≡ false
    → borrows_for t (callable (known_in ts x ds n)) ≡ borrows_for t (callable (known_in ts x ds i))
borrows_false ts t x ds n i d p within is at w e =
    borrows_next ts t x ds n i d p within is at w ∙ ap (λ (b : Bool). borrows_for t (callable (known_in ts x ds i)) || b) e
    ∙ or_false (borrows_for t (callable (known_in ts x ds i)))

-- what is no procedure hides those before it
pub borrows_hidden : (ts : List Ty) (t : Ty) (x : List ℕ) (ds : List Decl) (n i : ℕ) (d : Decl) → n ≤ length ds → last_of ds x n ≡ Some i
    → slice_get ds i ≡ Some d → procedure_in d.what ≡ None → borrows_for t (callable (known_in ts x ds n)) ≡ false
borrows_hidden ts t x ds n i d within is at w =
    ap (λ k. borrows_for t (callable k)) (known_from ts x ds n i d within is at)
    ∙ ap (borrows_for t) (hides ts d.name d.what (known_in ts x ds i) w)

pub borrows_none : (ts : List Ty) (t : Ty) (x : List ℕ) (ds : List Decl) (n : ℕ) → n ≤ length ds → last_of ds x n ≡ None
    → borrows_for t (callable (known_in ts x ds n)) ≡ false
borrows_none ts t x ds n within is = ap (λ k. borrows_for t (callable k)) (known_none ts x ds n within is)

-- ---- heads that borrow

pub one_by : (env : Env) (x : List ℕ) (p : Parameter) (gives : Option Ty) → is_text_type gives ≡ true
    → is_borrowing env x (p ∷ []) gives ≡ (is_dollar x && (is_plain p.mode && has_base env x (base_of env.facts p.of)))
one_by env x p None e = absurd (both_ways false refl e)
one_by env x p (Some type.text) e = refl
one_by env x p (Some _) e = absurd (both_ways false refl e)

pub one_not : (env : Env) (x : List ℕ) (p : Parameter) (gives : Option Ty) → is_text_type gives ≡ false → is_borrowing env x (p ∷ []) gives ≡ false
one_not env x p None e = refl
one_not env x p (Some type.text) e = absurd (both_ways true e refl)
one_not env x p (Some _) e = refl

pub two_by : (env : Env) (x : List ℕ) (p q : Parameter) (gives : Option Ty) → is_bool_type gives ≡ true
    → is_borrowing env x (p ∷ q ∷ []) gives
    ≡ (is_comparison x && ((is_plain p.mode && is_plain q.mode) && (same p.of q.of && has_base env x (base_of env.facts p.of))))
two_by env x p q None e = absurd (both_ways false refl e)
two_by env x p q (Some type.bool) e = refl
two_by env x p q (Some _) e = absurd (both_ways false refl e)

pub two_not : (env : Env) (x : List ℕ) (p q : Parameter) (gives : Option Ty) → is_bool_type gives ≡ false
    → is_borrowing env x (p ∷ q ∷ []) gives ≡ false
two_not env x p q None e = refl
two_not env x p q (Some type.bool) e = absurd (both_ways true e refl)
two_not env x p q (Some _) e = refl

pub borrow_not : (env : Env) (quoted has_body : Bool) (x : List ℕ) (params : List Parameter) (gives : Option Ty) → (quoted && not has_body) ≡ false
    → borrow_fits env true quoted has_body x params gives ≡ false
borrow_not env quoted has_body x params gives e = ap (λ (b : Bool). b && is_borrowing env x params gives) e

pub borrow_by : (env : Env) (quoted has_body : Bool) (x : List ℕ) (params : List Parameter) (gives : Option Ty) → (quoted && not has_body) ≡ true
    → borrow_fits env true quoted has_body x params gives ≡ is_borrowing env x params gives
borrow_by env quoted has_body x params gives e = ap (λ (b : Bool). b && is_borrowing env x params gives) e

pub bool_is : (t : Ty) → is_bool_type (Some t) ≡ same type.bool t
bool_is type.int = refl
bool_is type.bool = refl
bool_is type.char = refl
bool_is type.text = refl
bool_is (type.sequence of) = refl
bool_is (type.array length of) = refl
bool_is (type.tuple names parts) = refl
bool_is (type.parameter number) = refl
bool_is (type.enum key) = refl
bool_is (type.object key arguments) = refl
bool_is (type.distinct key) = refl
bool_is (type.ref name to) = refl
bool_is (type.exception key) = refl
