-- What a call means is computed as it is said.
use Rattle.std.proofs.Common.{◌≡◌, ℕ, Bool, true, false, List, [], ◌∷◌, refl, sym, ap, subst, ◌∙◌}
use Rattle.std.specs.Prelude.{◌||◌, codes, Option, Some, None, Ok, if◌then◌else◌}
use Rattle.arc_base.specs.declared.place.Place.{Place}
use Rattle.arc_base.specs.declared.place.Code.{Code}
use Rattle.arc_base.specs.declared.place.Code.TheVariants.{NotTyped, Ambiguous}
use Rattle.arc_base.specs.Refusal.{refused, IsRefusal}
use Rattle.nim_types.specs.Types as type
use Rattle.nim_types.specs.Types.{Ty, Field, Fact, fact_of, same}
use Rattle.nim_program.specs.declared.operation.Comparison.{Comparison}
use Rattle.nim_program.specs.Program.{Expr, NoArg}
use Rattle.nim_program.specs.Nodes.{convert, construct}
use Rattle.expr_rules.specs.Env as env_of
use Rattle.expr_rules.specs.Env.{Env, Known, callable, known_as, Parameter, Procedure}
use Rattle.expr_rules.specs.Answers.{Answer, Valued, Operand, value, open_sequence, a_type, the_input, settled, only_if, node, no_fit}
use Rattle.expr_rules.specs.Calls.{Fit, fitting, comparisons, comparison_named, borrowed_call, called, one_of}
use Rattle.expr_rules.specs.Builtins.{operation_rule, is_echo, is_default, is_shown}
use Rattle.expr_rules.specs.Constructions.{base_of, source_of, is_some_type, settled_as, from_distinct, or_from, convert_by, empty_object, conversion_rule}
use Rattle.expr_rules.specs.Names.{unless_type, call_named, own_dollars, some_fits, can_show, shown_before, all_shown}
use Rattle.expr_rules.specs.Names.{echo_by, echo_rule, call_rule}
use Rattle.expr_rules.specs.Demands.{is_a_type}
use Rattle.expr_rules.specs.Overloads.{NoneFits, OneFits}
use Rattle.expr_rules.specs.Meant as M
use Rattle.expr_rules.specs.Meant.{IsUnknown, no_declaration, is_open, FirstOpen, open_here, open_later, NoneOpen, no_operand, not_open, Unfit, open_left}
use Rattle.expr_rules.specs.Meant.{nothing_fits, IsSettledIn, first_type, later_type, RowFits, RowFitsNot, FirstRow, this_row, later_row, NoRow}
use Rattle.expr_rules.specs.Meant.{no_more_rows, not_this_row, AllWritable, all_written, one_written, FirstUnwritable, this_unwritable, later_unwritable}
use Rattle.expr_rules.specs.Meant.{IsConversion, ConvertsNot, Shows, built_in_dollar, visible_dollar, AllShow, show_none, show_more, ShowNot, IsBorrowed}
use Rattle.expr_rules.specs.Meant.{borrowed_comparison, borrowed_dollar, BorrowsNot, overloads, IsChosen, by_declarations, IsOperation, always, no_procedure}
use Rattle.expr_rules.specs.Meant.{IsCall, IsNoCall}
use Rattle.expr_rules.proofs.Means.{Means, m_ok, m_err, means_then, means_map, bind_ok, bind_err}
use Rattle.expr_rules.proofs.Chosen.{some_one, some_none, none_some, settled_so, settled_back, none_so, none_back, one_so, one_back, some_so}
use Rattle.expr_rules.proofs.Chosen.{several_so, HasSome, one_or_more, HasSeveral, some_back, several_back, arguments_sound, arguments_complete}
use Rattle.expr_rules.proofs.Chosen.{no_arguments_complete}
use Rattle.expr_rules.proofs.OperationRows.{unfit_means, unfit_complete, operation_sound, operation_back, unwritten_back, no_operation_back}

-- ---- conversions

Converted : Env → ℕ → Place → Ty → Operand → Option Valued → Type 0
Converted env n at ty o a = (v : Valued) → a ≡ Some v → IsConversion env n at ty (o ∷ []) (convert (node n at) ty v.expr)

from_source_so : (env : Env) (n : ℕ) (at : Place) (ty : Ty) (o : Operand) → Converted env n at ty o (settled_as (source_of env.facts ty) o)
unfolding Converted
from_source_so env n at ty o = by_source (source_of env.facts ty) refl
  where
    by_source : (s : Option Ty) → source_of env.facts ty ≡ s → Converted env n at ty o (settled_as s o)
    by_source None s v e = none_some e
    by_source (Some t) s v e = M.from_source s (settled_so t o v e)

from_wrapper_so : (env : Env) (n : ℕ) (at : Place) (ty : Ty) (o : Operand) → Converted env n at ty o (from_distinct env.facts ty o)
unfolding Converted
from_wrapper_so env n at ty (value w) = by_base (base_of env.facts w.of) refl
  where
    by_test : (b : Bool) (t : Ty) → base_of env.facts w.of ≡ Some t → same t ty ≡ b → Converted env n at ty (value w) (only_if b w)
    by_test true t h s v e =
        subst (λ (v : Valued). IsConversion env n at ty (value w ∷ []) (convert (node n at) ty v.expr)) (some_one e) (M.from_wrapper h s)
    by_test false t h s v e = none_some e

    by_base : (b : Option Ty) → base_of env.facts w.of ≡ b → Converted env n at ty (value w) (only_if (is_some_type b ty) w)
    by_base None h v e = none_some e
    by_base (Some t) h v e = by_test (same t ty) t h refl v e
from_wrapper_so env n at ty (open_sequence p k) = λ v e. none_some e
from_wrapper_so env n at ty (a_type t) = λ v e. none_some e
from_wrapper_so env n at ty the_input = λ v e. none_some e

-- of the two ways either may be meant: both give the same
both_ways : (env : Env) (n : ℕ) (at : Place) (ty : Ty) (o : Operand) (a b : Option Valued) → Converted env n at ty o a → Converted env n at ty o b
    → Converted env n at ty o (or_from a b)
both_ways env n at ty o (Some v) b f g = f
both_ways env n at ty o None b f g = g

conversion_so : (env : Env) (n : ℕ) (at : Place) (ty : Ty) (o : Operand)
    → Converted env n at ty o (or_from (settled_as (source_of env.facts ty) o) (from_distinct env.facts ty o))
conversion_so env n at ty o =
    both_ways env n at ty o (settled_as (source_of env.facts ty) o) (from_distinct env.facts ty o) (from_source_so env n at ty o)
    (from_wrapper_so env n at ty o)

empty_back : {n : ℕ} {at : Place} {ty : Ty} (f : Option Fact) {all : List Field} {resource : Bool} → f ≡ Some (type.fields all resource)
    → empty_object n at ty f ≡ Ok (construct (node n at) ty [] NoArg)
empty_back {n} {at} {ty} f e = ap (λ f. empty_object n at ty f) e

-- a value of the operand converts to what the operand does
value_of_settled : (t : Ty) {w v : Valued} → settled t (value w) ≡ Some v → v ≡ w
value_of_settled t {w} {v} e = by_test (same t w.of) e
  where
    by_test : (b : Bool) → only_if b w ≡ Some v → v ≡ w
    by_test true e = sym (some_one e)
    by_test false e = none_some e

pub conversion_back : {env : Env} {n : ℕ} {at : Place} {ty : Ty} {os : List Operand} {e : Expr} → IsConversion env n at ty os e
    → conversion_rule env n at ty os ≡ Ok e
conversion_back {env} {n} {at} {ty} (M.empty_object f) = empty_back (fact_of env.facts ty) f
conversion_back {env} {n} {at} {ty} (M.from_source {o = o} {v = v} s h) =
    ap (λ a. convert_by n at ty o (or_from a (from_distinct env.facts ty o))) (ap (λ s. settled_as s o) s ∙ settled_back h)
conversion_back {env} {n} {at} {ty} (M.from_wrapper {v = v} b s) = by_source (settled_as (source_of env.facts ty) (value v)) (source_same
    (source_of env.facts ty))
  where
    wrapped : from_distinct env.facts ty (value v) ≡ Some v
    wrapped = ap (λ b. only_if (is_some_type b ty) v) b ∙ ap (λ b. only_if b v) s

    source_same : (s : Option Ty) (w : Valued) → settled_as s (value v) ≡ Some w → w ≡ v
    source_same None w e = none_some e
    source_same (Some t) w e = value_of_settled t e

    by_source : (a : Option Valued) → ((w : Valued) → a ≡ Some w → w ≡ v)
        → convert_by n at ty (value v) (or_from a (from_distinct env.facts ty (value v))) ≡ Ok (convert (node n at) ty v.expr)
    by_source (Some w) f = ap (λ (w : Valued). convert_by n at ty (value v) (Some w)) (f w refl)
    by_source None f = ap (λ a. convert_by n at ty (value v) a) wrapped

fit_never : {A C : Type 0} (at : Place) (os : List Operand) {a : A} → no_fit at os ≡ Ok a → C
fit_never at [] e = cc
fit_never at (open_sequence p n ∷ rest) e = cc
fit_never at (value v ∷ rest) e = fit_never at rest e
fit_never at (a_type t ∷ rest) e = fit_never at rest e
fit_never at (the_input ∷ rest) e = fit_never at rest e

-- none, and why
abbrev pub NoConversion : Env → ℕ → Place → Ty → List Operand → Code → Place → Type 0
NoConversion env n at ty os c p = (c ≡ NotTyped) × (ConvertsNot env n at ty os × Unfit at os p)

pub conversion_sound : (env : Env) (n : ℕ) (at : Place) (ty : Ty) (os : List Operand)
    → Means (λ e. IsConversion env n at ty os e) (λ c p. NoConversion env n at ty os c p) (conversion_rule env n at ty os)
unfolding Converted
conversion_sound env n at ty [] = by_fact (fact_of env.facts ty) refl
  where
    no_object : (f : Option Fact) → fact_of env.facts ty ≡ f → ((all : List Field) (resource : Bool) → f ≡ Some (type.fields all resource) → ⊥)
        → ConvertsNot env n at ty []
    no_object f h g e (M.empty_object i) = g _ _ (sym h ∙ i)

    by_fact : (f : Option Fact) → fact_of env.facts ty ≡ f
        → Means (λ e. IsConversion env n at ty [] e) (λ c p. NoConversion env n at ty [] c p) (empty_object n at ty f)
    by_fact (Some (type.fields all resource)) f = m_ok (M.empty_object f)
    by_fact (Some (type.members names)) f = m_err (refl, (no_object _ f (λ a r h. cc), nothing_fits no_operand))
    by_fact (Some (type.base t)) f = m_err (refl, (no_object _ f (λ a r h. cc), nothing_fits no_operand))
    by_fact (Some (type.below t)) f = m_err (refl, (no_object _ f (λ a r h. cc), nothing_fits no_operand))
    by_fact None f = m_err (refl, (no_object _ f (λ a r h. none_some h), nothing_fits no_operand))
conversion_sound env n at ty (o ∷ []) =
    by_value (or_from (settled_as (source_of env.facts ty) o) (from_distinct env.facts ty o)) refl (conversion_so env n at ty o)
  where
    by_value : (a : Option Valued) → or_from (settled_as (source_of env.facts ty) o) (from_distinct env.facts ty o) ≡ a → Converted env n at ty o a
        → Means (λ e. IsConversion env n at ty (o ∷ []) e) (λ c p. NoConversion env n at ty (o ∷ []) c p) (convert_by n at ty o a)
    by_value (Some v) a f = m_ok (f v refl)
    by_value None a f =
        unfit_means at (o ∷ []) _ _
        (λ p h. (refl, (λ e i. fit_never at (o ∷ []) (sym (ap (λ a. convert_by n at ty o a) a) ∙ conversion_back i), h)))
conversion_sound env n at ty (o ∷ q ∷ rest) =
    unfit_means at (o ∷ q ∷ rest) _ _ (λ p h. (refl, (λ e i. fit_never at (o ∷ q ∷ rest) (conversion_back i), h)))

type_called : (env : Env) (n : ℕ) (at : Place) (x : List ℕ) (ty : Ty) (os : List Operand) → IsChosen x → known_as env x ≡ env_of.a_type ty
    → Means (λ e. IsCall env n at x os e) (λ c p. IsNoCall env n at x os c p) (conversion_rule env n at ty os)
type_called env n at x ty os chosen k =
    means_map (conversion_sound env n at ty os) (λ e i. M.a_conversion chosen k i)
    (λ c p r. subst (λ d. IsNoCall env n at x os d p) (sym r.0) (M.not_converted chosen k r.1.0 r.1.1))

-- ---- what is borrowed

borrowed_back : {n : ℕ} {at : Place} {c : Option Comparison} {given : List (Parameter × Valued)} {e : Expr} → IsBorrowed n at c given e
    → borrowed_call n at c given ≡ Ok e
borrowed_back borrowed_comparison = refl
borrowed_back borrowed_dollar = refl

not_borrowed_back : (n : ℕ) (at : Place) (c : Option Comparison) (given : List (Parameter × Valued)) → BorrowsNot n at c given
    → IsRefusal (borrowed_call n at c given) NotTyped at
not_borrowed_back n at (Some c) (a ∷ b ∷ []) f = absurd (f _ borrowed_comparison)
not_borrowed_back n at None (a ∷ []) f = absurd (f _ borrowed_dollar)
not_borrowed_back n at _ _ f = refl

never_ok : {C : Type 0} {e : Expr} {at : Place} → ◌≡◌ {A = Answer Expr} (refused NotTyped at) (Ok e) → C
never_ok e = cc

borrowed_sound : (n : ℕ) (at : Place) (c : Option Comparison) (given : List (Parameter × Valued))
    → Means (λ e. IsBorrowed n at c given e) (λ d p. (d ≡ NotTyped) × (p ≡ at) × BorrowsNot n at c given) (borrowed_call n at c given)
borrowed_sound n at (Some c) (a ∷ b ∷ []) = m_ok borrowed_comparison
borrowed_sound n at None (a ∷ []) = m_ok borrowed_dollar
borrowed_sound n at _ _ = m_err (refl, refl, λ e i. never_ok (borrowed_back i))

-- ---- `echo`

or_parts : {C : Type 0} (b c : Bool) → (b || c) ≡ true → (b ≡ true → C) → (c ≡ true → C) → C
or_parts true c e f g = f refl
or_parts false c e f g = g e

or_first : {b : Bool} (c : Bool) → b ≡ true → (b || c) ≡ true
or_first c e = ap (λ b. b || c) e

or_second : (b : Bool) {c : Bool} → c ≡ true → (b || c) ≡ true
or_second true e = refl
or_second false e = e

dollars_so : (env : Env) (v : Valued) → some_fits (own_dollars env v) ≡ true → Shows env v
dollars_so env v e = by_fits (own_dollars env v) refl e
  where
    by_fits : (fs : List Fit) → own_dollars env v ≡ fs → some_fits fs ≡ true → Shows env v
    by_fits [] h e = cc
    by_fits (f ∷ fs) h e = visible_dollar (some_so (callable (known_as env (codes "$"))) (value v ∷ []) f fs h)

shows_so : (env : Env) (v : Valued) → can_show env v ≡ true → Shows env v
shows_so env v e = or_parts (is_shown v.of) (some_fits (own_dollars env v)) e (λ h. built_in_dollar h) (λ h. dollars_so env v h)

has_some : {fs : List Fit} → HasSome fs → some_fits fs ≡ true
has_some one_or_more = refl

shows_back : {env : Env} {v : Valued} → Shows env v → can_show env v ≡ true
shows_back {env} {v} (built_in_dollar h) = or_first (some_fits (own_dollars env v)) h
shows_back {env} {v} (visible_dollar h) = or_second (is_shown v.of) (has_some (some_back h))

all_show_so : (env : Env) (os : List Operand) (vs : List Valued) → all_shown env os ≡ Some vs → AllShow env os vs
all_show_so env [] vs e = subst (λ vs. AllShow env [] vs) (some_one e) show_none
all_show_so env (value v ∷ os) vs e = by_parts (can_show env v) refl (all_shown env os) (λ ws h. all_show_so env os ws h) e
  where
    by_parts : (b : Bool) → can_show env v ≡ b → (a : Option (List Valued)) → ((ws : List Valued) → a ≡ Some ws → AllShow env os ws)
        → shown_before b v a ≡ Some vs → AllShow env (value v ∷ os) vs
    by_parts true s (Some ws) f e = subst (λ vs. AllShow env (value v ∷ os) vs) (some_one e) (show_more (shows_so env v s) (f ws refl))
    by_parts true s None f e = none_some e
    by_parts false s a f e = none_some e
all_show_so env (open_sequence p n ∷ os) vs e = none_some e
all_show_so env (a_type t ∷ os) vs e = none_some e
all_show_so env (the_input ∷ os) vs e = none_some e

all_show_back : {env : Env} {os : List Operand} {vs : List Valued} → AllShow env os vs → all_shown env os ≡ Some vs
all_show_back show_none = refl
all_show_back {env} (show_more {v = v} {os = os} s h) =
    ap (λ b. shown_before b v (all_shown env os)) (shows_back s) ∙ ap (λ a. shown_before true v a) (all_show_back h)

show_not_back : (env : Env) (os : List Operand) → ShowNot env os → all_shown env os ≡ None
show_not_back env os f = by_answer (all_shown env os) refl
  where
    by_answer : (a : Option (List Valued)) → all_shown env os ≡ a → a ≡ None
    by_answer None e = refl
    by_answer (Some vs) e = absurd (f vs (all_show_so env os vs e))

echo_sound : (env : Env) (n : ℕ) (at : Place) (x : List ℕ) (os : List Operand) → is_echo x ≡ true
    → Means (λ e. IsCall env n at x os e) (λ c p. IsNoCall env n at x os c p) (echo_rule env n at os)
echo_sound env n at x os i = by_shown (all_shown env os) refl
  where
    by_shown : (a : Option (List Valued)) → all_shown env os ≡ a
        → Means (λ e. IsCall env n at x os e) (λ c p. IsNoCall env n at x os c p) (echo_by n at os a)
    by_shown (Some vs) a = m_ok (M.an_echo i (all_show_so env os vs a))
    by_shown None a = unfit_means at os _ _ (λ p h. M.not_shown i (λ vs s. some_none (sym (all_show_back s) ∙ a)) h)

-- ---- calls

called_sound : (env : Env) (n : ℕ) (at : Place) (x : List ℕ) (os : List Operand) (fit : Fit) (b : Bool) → IsChosen x → fit.callee.borrowed ≡ b
    → OneFits (overloads env x) os fit.callee fit.arguments
    → Means (λ e. IsCall env n at x os e) (λ c p. IsNoCall env n at x os c p) (called n at b x fit)
called_sound env n at x os fit false c b h =
    means_then (arguments_sound [] fit.arguments) (λ args k. m_ok (M.a_procedure c h b k)) (λ d p k. M.no_arguments c h b k)
called_sound env n at x os fit true c b h =
    means_map (borrowed_sound n at (comparison_named x comparisons) fit.arguments) (λ e k. M.a_borrowed_one c h b k) (λ d p k. none_borrowed d p k.0 k.1 k.2)
  where
    none_borrowed : (d : Code) (p : Place) → d ≡ NotTyped → p ≡ at → BorrowsNot n at (comparison_named x comparisons) fit.arguments
        → IsNoCall env n at x os d p
    none_borrowed d p e f k =
        subst (λ d. IsNoCall env n at x os d p) (sym e) (subst (λ p. IsNoCall env n at x os NotTyped p) (sym f) (M.not_borrowed c h b k))

type_sound : (env : Env) (n : ℕ) (at : Place) (x : List ℕ) (os : List Operand) (k : Known) → IsChosen x → known_as env x ≡ k
    → NoneFits (overloads env x) os → Means (λ e. IsCall env n at x os e) (λ c p. IsNoCall env n at x os c p) (unless_type env n at k x os)
type_sound env n at x os (env_of.a_type ty) c k h = type_called env n at x ty os c k
type_sound env n at x os env_of.unknown c k h = operation_sound env n at x os (no_procedure c h (ap is_a_type k))
type_sound env n at x os (env_of.a_variable place of w g) c k h = operation_sound env n at x os (no_procedure c h (ap is_a_type k))
type_sound env n at x os (env_of.a_constant of l) c k h = operation_sound env n at x os (no_procedure c h (ap is_a_type k))
type_sound env n at x os (env_of.procedures all) c k h = operation_sound env n at x os (no_procedure c h (ap is_a_type k))
type_sound env n at x os env_of.a_pending_type c k h = operation_sound env n at x os (no_procedure c h (ap is_a_type k))
type_sound env n at x os env_of.the_input c k h = operation_sound env n at x os (no_procedure c h (ap is_a_type k))

chosen_sound : (env : Env) (n : ℕ) (at : Place) (x : List ℕ) (os : List Operand) (fs : List Fit) → IsChosen x → fitting (overloads env x) os ≡ fs
    → Means (λ e. IsCall env n at x os e) (λ c p. IsNoCall env n at x os c p) (one_of n at x fs (unless_type env n at (known_as env x) x os))
chosen_sound env n at x os [] c e = type_sound env n at x os (known_as env x) c refl (none_so (overloads env x) os e)
chosen_sound env n at x os (fit ∷ []) c e = called_sound env n at x os fit fit.callee.borrowed c refl (one_so (overloads env x) os fit e)
chosen_sound env n at x os (f ∷ g ∷ fs) c e = m_err (M.several_fit c (several_so (overloads env x) os f g fs e))

pub call_sound : (env : Env) (n : ℕ) (at : Place) (x : List ℕ) (os : List Operand)
    → Means (λ e. IsCall env n at x os e) (λ c p. IsNoCall env n at x os c p) (call_rule env n at x os)
call_sound env n at x os = by_echo (is_echo x) refl
  where
    by_default : (b : Bool) → is_default x ≡ b → is_echo x ≡ false → Means (λ e. IsCall env n at x os e) (λ c p. IsNoCall env n at x os c p)
        (if b then operation_rule (node n at) x os
        else one_of n at x (fitting (callable (known_as env x)) os) (unless_type env n at (known_as env x) x os))
    by_default true d e = operation_sound env n at x os (always e d)
    by_default false d e = chosen_sound env n at x os (fitting (overloads env x) os) (by_declarations e d) refl

    by_echo : (b : Bool) → is_echo x ≡ b → Means (λ e. IsCall env n at x os e) (λ c p. IsNoCall env n at x os c p)
        (if b then echo_rule env n at os else call_named env n at x os)
    by_echo true e = echo_sound env n at x os e
    by_echo false e = by_default (is_default x) refl e

-- ---- and back

not_echo : (env : Env) (n : ℕ) (at : Place) (x : List ℕ) (os : List Operand) → is_echo x ≡ false → call_rule env n at x os ≡ call_named env n at x os
not_echo env n at x os e = ap (λ b. if b then echo_rule env n at os else call_named env n at x os) e

its_echo : (env : Env) (n : ℕ) (at : Place) (x : List ℕ) (os : List Operand) → is_echo x ≡ true → call_rule env n at x os ≡ echo_rule env n at os
its_echo env n at x os e = ap (λ b. if b then echo_rule env n at os else call_named env n at x os) e

by_choice : (env : Env) (n : ℕ) (at : Place) (x : List ℕ) (os : List Operand) (fs : List Fit) → IsChosen x → fitting (overloads env x) os ≡ fs
    → call_rule env n at x os ≡ one_of n at x fs (unless_type env n at (known_as env x) x os)
by_choice env n at x os fs (by_declarations e d) h =
    not_echo env n at x os e
    ∙ ap (λ b. if b then operation_rule (node n at) x os
    else one_of n at x (fitting (callable (known_as env x)) os) (unless_type env n at (known_as env x) x os)) d
    ∙ ap (λ fs. one_of n at x fs (unless_type env n at (known_as env x) x os)) h

no_type : (env : Env) (n : ℕ) (at : Place) (x : List ℕ) (os : List Operand) (k : Known) → is_a_type k ≡ false
    → unless_type env n at k x os ≡ operation_rule (node n at) x os
no_type env n at x os (env_of.a_type ty) e = cc
no_type env n at x os env_of.unknown e = refl
no_type env n at x os (env_of.a_variable place of w g) e = refl
no_type env n at x os (env_of.a_constant of l) e = refl
no_type env n at x os (env_of.procedures all) e = refl
no_type env n at x os env_of.a_pending_type e = refl
no_type env n at x os env_of.the_input e = refl

by_operation : (env : Env) (n : ℕ) (at : Place) (x : List ℕ) (os : List Operand) → IsOperation env x os
    → call_rule env n at x os ≡ operation_rule (node n at) x os
by_operation env n at x os (always e d) =
    not_echo env n at x os e
    ∙ ap (λ b. if b then operation_rule (node n at) x os
    else one_of n at x (fitting (callable (known_as env x)) os) (unless_type env n at (known_as env x) x os)) d
by_operation env n at x os (no_procedure c h k) = by_choice env n at x os [] c (none_back h) ∙ no_type env n at x os (known_as env x) k

by_type_name : (env : Env) (n : ℕ) (at : Place) (x : List ℕ) (os : List Operand) {ty : Ty} → IsChosen x → known_as env x ≡ env_of.a_type ty
    → call_rule env n at x os ≡ conversion_rule env n at ty os
by_type_name env n at x os c k =
    by_choice env n at x os [] c (ap (λ k. fitting (callable k) os) k) ∙ ap (λ k. unless_type env n at k x os) k

by_one : (env : Env) (n : ℕ) (at : Place) (x : List ℕ) (os : List Operand) {p : Procedure} {given : List (Parameter × Valued)} (b : Bool) → IsChosen x
    → OneFits (overloads env x) os p given → p.borrowed ≡ b → call_rule env n at x os ≡ called n at b x (record { callee = p; arguments = given })
by_one env n at x os {p} {given} b c h e =
    by_choice env n at x os (record { callee = p; arguments = given } ∷ []) c (one_back h)
    ∙ ap (λ b. called n at b x (record { callee = p; arguments = given })) e

pub call_complete : {env : Env} {n : ℕ} {at : Place} {x : List ℕ} {os : List Operand} {e : Expr} → IsCall env n at x os e → call_rule env n at x os ≡ Ok e
call_complete {env} {n} {at} {x} {os} (M.a_procedure c h b k) = by_one env n at x os false c h b ∙ bind_ok _ (arguments_complete k) refl
call_complete {env} {n} {at} {x} {os} (M.a_borrowed_one c h b k) = by_one env n at x os true c h b ∙ borrowed_back k
call_complete {env} {n} {at} {x} {os} (M.a_conversion c k h) = by_type_name env n at x os c k ∙ conversion_back h
call_complete {env} {n} {at} {x} {os} (M.an_operation i r h) = by_operation env n at x os i ∙ operation_back x r h
call_complete {env} {n} {at} {x} {os} (M.an_echo e h) = its_echo env n at x os e ∙ ap (λ a. echo_by n at os a) (all_show_back h)

several_refused : (n : ℕ) (at : Place) (x : List ℕ) (fs : List Fit) (otherwise : Answer Expr) → HasSeveral fs
    → IsRefusal (one_of n at x fs otherwise) Ambiguous at
several_refused n at x [] o h = elim h [ ]
several_refused n at x (f ∷ []) o h = elim h [ ]
several_refused n at x (f ∷ g ∷ fs) o h = refl

pub no_conversion : (env : Env) (n : ℕ) (at : Place) (ty : Ty) (os : List Operand) (p : Place) → ConvertsNot env n at ty os → Unfit at os p
    → IsRefusal (conversion_rule env n at ty os) NotTyped p
unfolding Converted
no_conversion env n at ty [] p f h = by_fact (fact_of env.facts ty) refl
  where
    by_fact : (a : Option Fact) → fact_of env.facts ty ≡ a → IsRefusal (empty_object n at ty a) NotTyped p
    by_fact (Some (type.fields all resource)) e = absurd (f _ (M.empty_object e))
    by_fact (Some (type.members names)) e = unfit_complete {A = Expr} h
    by_fact (Some (type.base t)) e = unfit_complete {A = Expr} h
    by_fact (Some (type.below t)) e = unfit_complete {A = Expr} h
    by_fact None e = unfit_complete {A = Expr} h
no_conversion env n at ty (o ∷ []) p f h =
    by_value (or_from (settled_as (source_of env.facts ty) o) (from_distinct env.facts ty o)) (conversion_so env n at ty o)
  where
    by_value : (a : Option Valued) → Converted env n at ty o a → IsRefusal (convert_by n at ty o a) NotTyped p
    by_value (Some v) g = absurd (f _ (g v refl))
    by_value None g = unfit_complete {A = Expr} h
no_conversion env n at ty (o ∷ q ∷ rest) p f h = unfit_complete {A = Expr} h

pub no_call_complete : {env : Env} {n : ℕ} {at : Place} {x : List ℕ} {os : List Operand} {c : Code} {p : Place} → IsNoCall env n at x os c p
    → IsRefusal (call_rule env n at x os) c p
no_call_complete {env} {n} {at} {x} {os} (M.several_fit c h) =
    by_choice env n at x os (fitting (overloads env x) os) c refl ∙ several_refused n at x (fitting (overloads env x) os) _ (several_back h)
no_call_complete {env} {n} {at} {x} {os} (M.no_arguments c h b k) = by_one env n at x os false c h b ∙ bind_err _ (no_arguments_complete k)
no_call_complete {env} {n} {at} {x} {os} (M.not_borrowed {given = given} c h b k) =
    by_one env n at x os true c h b ∙ not_borrowed_back n at (comparison_named x comparisons) given k
no_call_complete {env} {n} {at} {x} {os} (M.not_converted {ty = ty} {q = q} c k f h) =
    by_type_name env n at x os c k ∙ no_conversion env n at ty os q f h
no_call_complete {env} {n} {at} {x} {os} (M.not_written i r h) = by_operation env n at x os i ∙ unwritten_back x r h
no_call_complete {env} {n} {at} {x} {os} (M.no_operation i r h) = by_operation env n at x os i ∙ no_operation_back x r h
no_call_complete {env} {n} {at} {x} {os} (M.not_shown e f h) =
    its_echo env n at x os e ∙ ap (λ a. echo_by n at os a) (show_not_back env os f) ∙ unfit_complete {A = Expr} h
