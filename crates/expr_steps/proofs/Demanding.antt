-- Demands of the code and of the rules.
use Rattle.std.proofs.Common.{◌≡◌, ℕ, List, [], ◌∷◌, length, Vec, Box, Global, refl, sym, ap, ap₂, ◌∙◌, subst, arith}
use Rattle.std.specs.Prelude.{Bool, true, false, not, ◌&&◌, ◌||◌, if◌then◌else◌, codes}
use Rattle.std.proofs.lemmas.Bool.{both_ways}
use Rattle.arc_base.specs.declared.place.Place.{Place}
use Rattle.arc_base.specs.Refusal.{and_then}
use Rattle.nim_tree.specs.declared.expr.Expr.{Expr as Tree}
use Rattle.nim_tree.specs.declared.expr.Expr.TheVariants as tree
use Rattle.nim_tree.specs.Terms as term
use Rattle.nim_tree.specs.Terms.{Term, Parts, no_parts, part, term_of, parts_of}
use Rattle.nim_types.specs.Types.{Ty, same_text}
use Rattle.expr_rules.specs.Env.{Env, known_as}
use Rattle.expr_rules.specs.Answers.{Answer}
use Rattle.expr_rules.specs.Builtins.{is_echo, is_default}
use Rattle.expr_rules.specs.Constructions.{field_named}
use Rattle.expr_rules.specs.Demands.{anything, Demand, closed, comparands, arguments, echoed, receiver, one_type, input_first, as_receiver, call_demand}
use Rattle.expr_rules.specs.Demands.{Special, special, ordinary, is_open, is_type, is_stdin, takes_type, takes_input}
use Rattle.expr_rules.specs.Demands.{bare, begins_type, is_a_type, is_name_of, is_one_type, open_at}
use Rattle.expr_rules.specs.Names.{is_echoed, is_field, is_called, is_single, own_dollars}
use Rattle.expr_rules.specs.Paths.{has_writable_root}
use Rattle.expr_rules.specs.Typed.{Value, part_by, shown_by, value_by}
use Rattle.nim_tree.proofs.ForCallers.{indexed, sequenced}
use Rattle.expr_parts.proofs.ForCallers.{text_sound}
use Rattle.expr_steps.specs.ViewDemands.{receiver_of, as_receiver_with, demand_with, SameDemand}

-- where `echo` is before a dot, the name matters only if it is that of `echo`
alike_by : (env : Env) (x : List ℕ) (ty : Ty) (b : Bool) → is_echo x ≡ b → is_echoed env (receiver x) ty ≡ is_echoed env (receiver_of b) ty
alike_by env x ty true h = ap (λ y. is_echoed env (receiver y) ty) (text_sound x (codes "echo") h)
alike_by env x ty false h = ap (λ b. b && not (is_field (field_named env x ty))) h

echoed_alike : (env : Env) (x : List ℕ) (ty : Ty) → is_echoed env (receiver x) ty ≡ is_echoed env (receiver_of (is_echo x)) ty
echoed_alike env x ty = alike_by env x ty (is_echo x) refl

abbrev ShownAlike : Env → Demand → Demand → Type 0
ShownAlike env d e = (ty : Ty) → is_echoed env d ty ≡ is_echoed env e ty

parts_alike : (env : Env) (d e : Demand) → ShownAlike env d e → (s : Special) (n : ℕ) (as_value : ℕ → Answer Value) (as_type : Answer Ty)
    → part_by env d s n as_value as_type ≡ part_by env e s n as_value as_type
parts_alike env d e h ordinary n as_value as_type = λ i. and_then (as_value n)
    (λ x. shown_by env n (h x.given.of i && is_called (own_dollars env x.given)) x as_value)
parts_alike env d e h (is_open p) n as_value as_type = refl
parts_alike env d e h is_type n as_value as_type = refl
parts_alike env d e h is_stdin n as_value as_type = refl

special_of_receiver : (x : List ℕ) (b : Bool) (t : Term) → special (receiver x) t ≡ special (receiver_of b) t
special_of_receiver x true t = refl
special_of_receiver x false t = refl

receivers_alike : (env : Env) (x : List ℕ) → SameDemand env (receiver x) (receiver_of (is_echo x))
receivers_alike env x n t as_typed as_type =
    ap (λ s. part_by env (receiver x) s n (λ k. value_by env anything t (as_typed k)) as_type) (special_of_receiver x (is_echo x) t)
    ∙ parts_alike env (receiver x) (receiver_of (is_echo x)) (echoed_alike env x) (special (receiver_of (is_echo x)) t) n
    (λ k. value_by env anything t (as_typed k)) as_type

-- what stands before a dot, where it isn't `default`
pub receiver_alike : (env : Env) (x : List ℕ) (d : Demand) → SameDemand env (as_receiver x d) (as_receiver_with x d)
receiver_alike env x one_type = λ n t f g. refl
receiver_alike env x input_first = λ n t f g. refl
receiver_alike env x closed = receivers_alike env x
receiver_alike env x comparands = receivers_alike env x
receiver_alike env x arguments = receivers_alike env x
receiver_alike env x echoed = receivers_alike env x
receiver_alike env x (receiver y) = receivers_alike env x

default_by : (b : Bool) (x : List ℕ) → is_echo x ≡ b → is_default x ≡ true → is_echo x ≡ false
default_by false x e h = e
default_by true x e h = absurd (both_ways false refl (sym (ap is_default (text_sound x (codes "echo") e)) ∙ h))

default_is : (x : List ℕ) → is_default x ≡ true → is_echo x ≡ false
default_is x h = default_by (is_echo x) x refl h

-- before `default`
pub default_alike : (env : Env) (x : List ℕ) (b : Bool) → is_default x ≡ true → SameDemand env (if b then one_type else receiver x)
    (if b then one_type else receiver [])
default_alike env x true h = λ n t f g. refl
default_alike env x false h = subst (λ b. SameDemand env (receiver x) (receiver_of b)) (default_is x h) (receivers_alike env x)

-- ---- calls

pub demand_so : (env : Env) (x : List ℕ) (given : Parts) (type input : Bool) → takes_type env x given ≡ type → takes_input env x given ≡ input
    → call_demand env x given ≡ demand_with x type input
demand_so env x given type input t i =
    ap₂ (λ a b. if is_echo x then echoed else (if is_default x || a then one_type else (if b then input_first else arguments))) t i

-- ---- what calls take

both_or : (a b : Bool) → (a && b && false) ≡ false
both_or true true = refl
both_or true false = refl
both_or false b = refl

-- without operands
pub no_type_taken : (env : Env) (x : List ℕ) → takes_type env x no_parts ≡ false
no_type_taken env x = both_or (same_text x (codes "low") || same_text x (codes "high")) (not (is_a_type (known_as env x)))

pub no_input_taken : (env : Env) (x : List ℕ) → takes_input env x no_parts ≡ false
no_input_taken env x = both_or (same_text x (codes "readline")) (not (is_a_type (known_as env x)))

pub one_type_so : (env : Env) (a : Term) (rest : Parts) (b : Bool) → is_single (part a rest) ≡ true → is_name_of is_a_type env (bare a) ≡ b
    → is_one_type env (part a rest) ≡ b
one_type_so env a no_parts b h e = e
one_type_so env a (part c rest) b h e = absurd (both_ways false refl h)

pub one_type_not : (env : Env) (a : Term) (rest : Parts) → is_single (part a rest) ≡ false → is_one_type env (part a rest) ≡ false
one_type_not env a no_parts h = absurd (both_ways true h refl)
one_type_not env a (part c rest) h = refl

-- ---- lists without a part

pub no_trees : (ts : List Tree) → length ts ≡ 0 → ts ≡ []
no_trees [] e = refl
no_trees (t ∷ ts) e = absurd (omega (arith, e))

-- ---- terms with something in brackets

pub begins_by : (env : Env) (t : Tree) (at : Place) (base : Box Tree Global) (parts : Vec Tree Global) (b : Bool) → t ≡ tree.Index at base parts
    → ((at : Place) (given : Parts) → begins_type env (term.index at (term_of base.value) given) ≡ b) → begins_type env (term_of t) ≡ b
begins_by env t at base parts b is h =
    ap (λ z. begins_type env (term_of z)) is ∙ ap (begins_type env) (indexed at base parts) ∙ h at (parts_of parts.items)

pub rooted_by : (env : Env) (t : Tree) (at : Place) (base : Box Tree Global) (parts : Vec Tree Global) → t ≡ tree.Index at base parts
    → has_writable_root env (term_of t) ≡ has_writable_root env (term_of base.value)
rooted_by env t at base parts is = ap (λ z. has_writable_root env (term_of z)) is ∙ ap (has_writable_root env) (indexed at base parts)

pub opened_by : (t : Tree) (at : Place) (parts : Vec Tree Global) → t ≡ tree.Sequence at parts
    → open_at (term_of t) ≡ open_at (term.sequence at (parts_of parts.items))
opened_by t at parts is = ap (λ z. open_at (term_of z)) is ∙ ap open_at (sequenced at parts)
