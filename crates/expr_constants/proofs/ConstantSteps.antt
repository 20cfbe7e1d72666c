-- Where a constant is needed: what is refused, and what is left to its value; and what is read at an index.
use Rattle.std.proofs.Common.{◌≡◌, ℕ, ℤ, pos, negsuc, zero, suc, List, [], ◌∷◌, refl, ap, ap₂, sym, subst, ◌∙◌, Some, None}
use Rattle.std.specs.Prelude.{Bool, if◌then◌else◌, slice_get, Option, option_map, Result, Ok, Err}
use Rattle.std.proofs.lemmas.Option.{none-some, same_Some}
use Rattle.arc_base.specs.declared.place.Place.{Place}
use Rattle.arc_base.specs.declared.place.Code.TheVariants.{NotTyped}
use Rattle.arc_base.specs.declared.place.Stop.{Stop}
use Rattle.arc_base.specs.declared.place.Stop.TheVariants as stop
use Rattle.arc_base.specs.Refusal.{Refusal, Answers, and_then}
use Rattle.nim_types.specs.Types.{Ty, Tys, Facts, same}
use Rattle.nim_types.specs.declared.types.TypeDef.{TypeDef}
use Rattle.nim_types.specs.declared.types.TypeDef.TheVariants as D
use Rattle.nim_types.specs.Table.{types_at, meant, AllBelow, IsWithin}
use Rattle.nim_program.specs.declared.expr.Node.{Node}
use Rattle.nim_program.specs.Program.{Number}
use Rattle.nim_program.specs.View.{if_type}
use Rattle.expr_rules.specs.Answers.{Answer, Typed, Valued, gives, not_typed, place_in}
use Rattle.expr_rules.specs.Builtins.{is_int}
use Rattle.expr_rules.specs.Choices.{label_by, label_value}
use Rattle.expr_rules.specs.Constants.{constant_at, constant_rule}
use Rattle.expr_rules.specs.Constructions.{element_of, element_type, index_rule, indexed, nth_type, numbered_part, read_part}
use Rattle.expr_rules.specs.Env.{Env}
use Rattle.expr_rules.specs.Names.{length_by, length_rule}
use Rattle.expr_constants.specs.ViewConstants.{behind, natural, tuple_parts}

-- no rule fits at the place of a node
pub refused_at : (s : Stop) (n m : Node) → s ≡ stop.Refused NotTyped n.at → n ≡ m → s ≡ stop.Refused NotTyped m.at
refused_at s n m h e = h ∙ ap (λ (k : Node). stop.Refused NotTyped k.at) e

pub label_if : (facts : Facts) (ty : Ty) (v : Valued) (b : Bool) → same ty v.of ≡ b
    → label_value facts ty v ≡ (if b then and_then (constant_rule facts v) (label_by (place_in v.expr)) else not_typed (place_in v.expr))
label_if facts ty v b h = ap (λ (b : Bool). if b then and_then (constant_rule facts v) (label_by (place_in v.expr)) else not_typed (place_in v.expr)) h

pub length_if : (facts : Facts) (v : Valued) (b : Bool) → is_int v.of ≡ b
    → length_rule facts v ≡ (if b then and_then (constant_rule facts v) (length_by (place_in v.expr)) else not_typed (place_in v.expr))
length_if facts v b h = ap (λ (b : Bool). if b then and_then (constant_rule facts v) (length_by (place_in v.expr)) else not_typed (place_in v.expr)) h

-- the type of a part
pub nth_is : (ts : List Ty) (is : List ℕ) (i : ℕ) → nth_type i (types_at ts is) ≡ if_type ts (slice_get is i)
nth_is ts [] zero = refl
nth_is ts [] (suc i) = refl
nth_is ts (j ∷ is) zero = refl
nth_is ts (j ∷ is) (suc i) = nth_is ts is i

-- ---- numbers that aren't negative

pub numbered_some : (n : ℕ) (at : Place) (v : Valued) (us : Tys) (z : ℤ) (k : ℕ) → natural z ≡ Some k
    → numbered_part n at v us (Number z) ≡ read_part n at v k (nth_type k us)
numbered_some n at v us (pos i) k h = ap (λ j. read_part n at v j (nth_type j us)) (same_Some i k h)
numbered_some n at v us (negsuc i) k h = absurd (none-some k h)

pub numbered_none : (n : ℕ) (at : Place) (v : Valued) (us : Tys) (z : ℤ) → natural z ≡ None → numbered_part n at v us (Number z) ≡ not_typed at
numbered_none n at v us (pos i) h = absurd (none-some i (sym h))
numbered_none n at v us (negsuc i) h = refl

-- ---- tuples and what has elements

-- what a part gives, with the number behind its nodes
pub gives_on : {A B T : Type 0} (of : T → A) (f : A → B) (said : Result A Refusal) (r : Result T Stop) → Answers of said r
    → Answers (λ x. f (of x)) (and_then said (λ a. Ok (f a))) r
gives_on of f said (Ok x) h = ap (λ s. and_then s (λ a. Ok (f a))) h
gives_on of f said (Err (stop.Refused code at)) h = ap (λ s. and_then s (λ a. Ok (f a))) h
gives_on of f said (Err stop.Memory) h = tt

pub parts_some : {R : Type 0} (of : R → List ℕ) (o : Option R) (p : Option (List ℕ)) (x : R) → option_map of o ≡ p → o ≡ Some x
    → p ≡ Some (of x)
parts_some of o p x h e = sym h ∙ ap (option_map of) e

pub parts_none : {R : Type 0} (of : R → List ℕ) (o : Option R) (p : Option (List ℕ)) → option_map of o ≡ p → o ≡ None → p ≡ None
parts_none of o p h e = sym h ∙ ap (option_map of) e

pub tuple_within : (n : ℕ) (d : TypeDef) (ps : List ℕ) → tuple_parts d ≡ Some ps → IsWithin n d → AllBelow n ps
tuple_within n (D.Tuple names is) ps h w = subst (AllBelow n) (same_Some is ps h) w
tuple_within n D.Int ps h w = absurd (none-some ps h)
tuple_within n D.Bool ps h w = absurd (none-some ps h)
tuple_within n D.Char ps h w = absurd (none-some ps h)
tuple_within n D.Text ps h w = absurd (none-some ps h)
tuple_within n (D.Seq i) ps h w = absurd (none-some ps h)
tuple_within n (D.Param k) ps h w = absurd (none-some ps h)
tuple_within n (D.Enum name at all) ps h w = absurd (none-some ps h)
tuple_within n (D.Array k i) ps h w = absurd (none-some ps h)
tuple_within n (D.Object name at is all own_hooks parts) ps h w = absurd (none-some ps h)
tuple_within n (D.Distinct name at i) ps h w = absurd (none-some ps h)
tuple_within n (D.Ref name i) ps h w = absurd (none-some ps h)
tuple_within n (D.Exception name at parent) ps h w = absurd (none-some ps h)

-- what is read at an index, where the numbers end at one place
abbrev pub indexed_by : List Ty → Env → ℕ → ℕ → Place → Valued → TypeDef → Valued → Option (List ℕ) → Answer Typed
indexed_by ts env n k at v d i (Some ps) =
    and_then (and_then (constant_at env.facts at i) (numbered_part n at v (types_at ts ps))) (λ e. gives e k)
indexed_by ts env n k at v d i None = element_of env.facts n k at v i (element_type (meant ts d))

pub indexed_is : (ts : List Ty) (env : Env) (n m k : ℕ) (at : Place) (v : Valued) (d : TypeDef) (i : Valued)
    → indexed env n m k at v (meant ts d) i ≡ indexed_by ts env n (behind (tuple_parts d) m k) at v d i (tuple_parts d)
indexed_is ts env n m k at v (D.Tuple names is) i = refl
indexed_is ts env n m k at v D.Int i = refl
indexed_is ts env n m k at v D.Bool i = refl
indexed_is ts env n m k at v D.Char i = refl
indexed_is ts env n m k at v D.Text i = refl
indexed_is ts env n m k at v (D.Seq j) i = refl
indexed_is ts env n m k at v (D.Param j) i = refl
indexed_is ts env n m k at v (D.Enum name p all) i = refl
indexed_is ts env n m k at v (D.Array l j) i = refl
indexed_is ts env n m k at v (D.Object name p is all own_hooks parts) i = refl
indexed_is ts env n m k at v (D.Distinct name p j) i = refl
indexed_is ts env n m k at v (D.Ref name j) i = refl
indexed_is ts env n m k at v (D.Exception name p parent) i = refl

behind_same : (o : Option (List ℕ)) (k : ℕ) → behind o k k ≡ k
behind_same None k = refl
behind_same (Some ps) k = refl

-- by the types of the parts, where it is a tuple
pub indexed_at : (ts : List Ty) (env : Env) (n k : ℕ) (at : Place) (v : Valued) (d : TypeDef) (i : Valued) (ty : Ty) (o : Option (List ℕ))
    → ty ≡ meant ts d → tuple_parts d ≡ o → indexed env n k k at v ty i ≡ indexed_by ts env n k at v d i o
indexed_at ts env n k at v d i ty o e h =
    ap (λ t. indexed env n k k at v t i) e ∙ indexed_is ts env n k k at v d i
    ∙ ap₂ (λ j p. indexed_by ts env n j at v d i p) (behind_same (tuple_parts d) k) h

-- with the number behind what is evaluated
pub indexed_behind : (ts : List Ty) (env : Env) (n m k j : ℕ) (at : Place) (v : Valued) (d : TypeDef) (i : Valued) (ty : Ty)
    → ty ≡ meant ts d → j ≡ behind (tuple_parts d) m k → indexed env n m k at v ty i ≡ indexed env n j j at v ty i
indexed_behind ts env n m k j at v d i ty e h =
    ap (λ t. indexed env n m k at v t i) e ∙ indexed_is ts env n m k at v d i
    ∙ ap (λ x. indexed_by ts env n x at v d i (tuple_parts d)) (sym h)
    ∙ sym (indexed_at ts env n j at v d i ty (tuple_parts d) e refl)

pub index_if : (env : Env) (n m k : ℕ) (at : Place) (v i : Valued) (b : Bool) → is_int i.of ≡ b
    → index_rule env n m k at v i ≡ (if b then indexed env n m k at v v.of i else not_typed at)
index_if env n m k at v i b h = ap (λ (b : Bool). if b then indexed env n m k at v v.of i else not_typed at) h

-- a stop of a part that is the whole
pub refused_in : {A S T : Type 0} (of : T → A) (part : S → A) (a b : Result A Refusal) (s : Stop) → a ≡ b → Answers part b (Err s)
    → Answers of a (Err s)
refused_in of part a b (stop.Refused code at) e h = e ∙ h
refused_in of part a b stop.Memory e h = tt
