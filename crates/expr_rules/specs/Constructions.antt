-- Values built of parts: tuples, arrays, sequences, objects, and values of other types; and parts of values.
use Rattle.std.specs.Prelude.{ℕ, zero, suc, not, pos, Bool, true, false, ◌&&◌, ◌||◌, if◌then◌else◌, nat_eq, nat_le, List, [], ◌∷◌, length}
use Rattle.std.specs.Prelude.{Option, Some, None, Ok}
use Rattle.arc_base.specs.declared.place.Place.{Place}
use Rattle.arc_base.specs.declared.place.Code.TheVariants.{UnknownName}
use Rattle.arc_base.specs.Refusal.{and_then, refused}
use Rattle.indent_scanner.specs.Words.{normal}
use Rattle.nim_tree.specs.Terms as term
use Rattle.nim_tree.specs.Terms.{Parts, no_parts, part}
use Rattle.nim_types.specs.Types as type
use Rattle.nim_types.specs.Types.{Ty, Tys, Key, Field, Fact, Facts, fact_of, fields_in, base_in, same, same_all, same_text, no_types, types}
use Rattle.nim_program.specs.Program.{Expr, Literal, Number, Read, Element, NoArg}
use Rattle.nim_program.specs.Program as P
use Rattle.nim_program.specs.Nodes.{make, sequence, construct, convert}
use Rattle.expr_rules.specs.declared.limits.TheConstants.{MOST_ELEMENTS}
use Rattle.expr_rules.specs.Env.{Env, Known, a_type, known, is_visible}
use Rattle.expr_rules.specs.Answers.{Answer, not_typed, node, Typed, gives, Valued, Want, nothing, whole, inner, wanted, Operand, value, settled, only_if}
use Rattle.expr_rules.specs.Answers.{no_fit, exprs_of, types_of}
use Rattle.expr_rules.specs.Paths.{path_of}
use Rattle.expr_rules.specs.Constants.{constant_at, index_number}
use Rattle.expr_rules.specs.Sizes.{is_sized}
use Rattle.expr_rules.specs.Builtins.{is_int, is_built_in, unless_built_in}

-- ---- tuples

-- the names of the parts in normal form, none where they have none
abbrev pub part_names : Parts → List (List ℕ)
part_names (part (term.named at x a) rest) = normal x ∷ part_names rest
part_names _ = []

abbrev pub part_count : Parts → ℕ
part_count no_parts = 0
part_count (part first rest) = suc (part_count rest)

abbrev pub is_among : List ℕ → List (List ℕ) → Bool
is_among x [] = false
is_among x (y ∷ rest) = same_text x y || is_among x rest

abbrev pub has_twice : List (List ℕ) → Bool
has_twice [] = false
has_twice (x ∷ rest) = is_among x rest || has_twice rest

abbrev pub inner_wants : Tys → List Want
inner_wants no_types = []
inner_wants (types t rest) = inner t ∷ inner_wants rest

-- what so many parts of a tuple want
abbrev pub tuple_wants : Option Ty → (count : ℕ) → List Want
tuple_wants (Some (type.tuple names ts)) count = if nat_eq (length (inner_wants ts)) count then inner_wants ts else []
tuple_wants _ count = []

-- A tuple without names that is the value of a place of a tuple type has that type, where the types of the parts are equal.
abbrev pub tuple_type : List (List ℕ) → Want → Tys → Ty
tuple_type [] (whole (type.tuple names us)) ts = if same_all us ts then type.tuple names ts else type.tuple [] ts
tuple_type names want ts = type.tuple names ts

abbrev pub if_sized : Env → Place → Ty → Expr → Answer Expr
if_sized env at ty e = if is_sized env.facts ty then Ok e else not_typed at

-- all parts have names of their own, or none has one
abbrev pub are_names : List (List ℕ) → List Valued → Bool
are_names [] vs = true
are_names names vs = nat_eq (length names) (length vs) && not (has_twice names)

abbrev pub make_tuple : Env → ℕ → Place → Ty → List Valued → Answer Expr
make_tuple env n at ty vs = if_sized env at ty (make (node n at) ty (exprs_of vs))

abbrev pub tuple_rule : Env → Want → ℕ → Place → List (List ℕ) → List Valued → Answer Expr
tuple_rule env want n at names vs = if are_names names vs then make_tuple env n at (tuple_type names want (types_of vs)) vs else not_typed at

-- ---- arrays and sequences

-- what an element wants
abbrev pub array_want : Option Ty → Want
array_want (Some (type.array n t)) = inner t
array_want _ = nothing

abbrev pub sequence_want : Option Ty → Want
sequence_want (Some (type.sequence t)) = inner t
sequence_want _ = nothing

abbrev pub array_rule : Env → ℕ → Place → List Valued → Answer Expr
array_rule env n at [] = not_typed at
array_rule env n at (v ∷ vs) =
    if nat_le (suc (length vs)) MOST_ELEMENTS
    then if_sized env at (type.array (suc (length vs)) v.of) (make (node n at) (type.array (suc (length vs)) v.of) (exprs_of (v ∷ vs)))
    else not_typed at

abbrev pub empty_rule : ℕ → Place → Option Ty → Answer Expr
empty_rule n at (Some (type.sequence t)) = Ok (sequence (node n at) (type.sequence t) NoArg)
empty_rule n at _ = not_typed at

abbrev pub sequence_rule : Want → ℕ → Place → List Valued → Answer Expr
sequence_rule want n at [] = empty_rule n at (wanted want)
sequence_rule want n at (v ∷ vs) = Ok (sequence (node n at) (type.sequence v.of) (exprs_of (v ∷ vs)))

-- ---- fields

pub record Found : Type 0 where
  pub number : ℕ
  pub of : Ty

abbrev pub found : ℕ → Ty → Found
found i of = record { number = i; of = of }

abbrev pub if_found : Bool → Found → Option Found → Option Found
if_found true here rest = Some here
if_found false here rest = rest

abbrev pub field_among : Env → Key → List ℕ → ℕ → List Field → Option Found
field_among env key x i [] = None
field_among env key x i (f ∷ rest) = if_found (same_text x (normal f.name) && is_visible env key f) (found i f.of) (field_among env key x (suc i) rest)

abbrev pub part_among : List ℕ → ℕ → List (List ℕ) → Tys → Option Found
part_among x i (name ∷ names) (types t ts) = if_found (same_text x name) (found i t) (part_among x (suc i) names ts)
part_among x i _ _ = None

-- the field of an object or the part of a tuple with the name, which is in normal form
abbrev pub field_named : Env → List ℕ → Ty → Option Found
field_named env x (type.object key given) = field_among env key x 0 (fields_in (fact_of env.facts (type.object key given)))
field_named env x (type.tuple names ts) = part_among x 0 names ts
field_named env x _ = None

abbrev pub read_field : ℕ → Place → Valued → Found → Expr
read_field n at v f = Read (P.Field (node n at) f.of (path_of v.expr) f.number)

abbrev pub nth_type : ℕ → Tys → Option Ty
nth_type n no_types = None
nth_type zero (types t ts) = Some t
nth_type (suc n) (types t ts) = nth_type n ts

abbrev pub read_part : ℕ → Place → Valued → ℕ → Option Ty → Answer Expr
read_part n at v i (Some t) = Ok (read_field n at v (found i t))
read_part n at v i None = not_typed at

-- a part of a tuple by its number
abbrev pub numbered_part : ℕ → Place → Valued → Tys → Literal → Answer Expr
numbered_part n at v ts (Number (pos i)) = read_part n at v i (nth_type i ts)
numbered_part n at v ts _ = not_typed at

-- the type of the elements of a text, a sequence or an array
abbrev pub element_type : Ty → Option Ty
element_type type.text = Some type.char
element_type (type.sequence t) = Some t
element_type (type.array l t) = Some t
element_type _ = None

abbrev pub element_of : Facts → ℕ → ℕ → Place → Valued → Valued → Option Ty → Answer Typed
element_of facts n k at v i (Some t) = gives (Read (Element (node n at) t (path_of v.expr) i.expr (index_number facts i.expr))) k
element_of facts n k at v i None = not_typed at

-- An element, with the index's nodes up to k; or a part of a tuple, whose index is no node, so that its nodes end with those
-- of the tuple, at m.
abbrev pub indexed : Env → ℕ → ℕ → ℕ → Place → Valued → Ty → Valued → Answer Typed
indexed env n m k at v (type.tuple names ts) i = and_then (and_then (constant_at env.facts at i) (numbered_part n at v ts)) (λ e. gives e m)
indexed env n m k at v ty i = element_of env.facts n k at v i (element_type ty)

abbrev pub index_rule : Env → ℕ → ℕ → ℕ → Place → Valued → Valued → Answer Typed
index_rule env n m k at v i = if is_int i.of then indexed env n m k at v v.of i else not_typed at

-- ---- objects

-- an object type and the fields that are given
pub record Plan : Type 0 where
  pub of : Ty
  pub chosen : List Found

abbrev pub plan : Ty → List Found → Plan
plan of chosen = record { of = of; chosen = chosen }

abbrev pub types_in : List Found → List Ty
types_in [] = []
types_in (f ∷ rest) = f.of ∷ types_in rest

abbrev pub is_number_among : ℕ → List Found → Bool
is_number_among i [] = false
is_number_among i (f ∷ rest) = nat_eq i f.number || is_number_among i rest

-- a field is given once at most
abbrev pub with_field : Place → Found → Plan → Answer Plan
with_field at f plan =
    if is_number_among f.number plan.chosen then not_typed at else Ok (record { of = plan.of; chosen = f ∷ plan.chosen })

abbrev pub field_or_unknown : Place → Option Found → Answer Found
field_or_unknown at (Some f) = Ok f
field_or_unknown at None = refused UnknownName at

-- each name is that of a field that can be seen, else it is unknown, at the name of the type
abbrev pub fields_for : Env → Place → Ty → List (List ℕ) → Answer Plan
fields_for env at ty [] = Ok (record { of = ty; chosen = [] })
fields_for env at ty (x ∷ rest) =
    and_then (field_or_unknown at (field_named env x ty)) (λ f. and_then (fields_for env at ty rest) (λ plan. with_field at f plan))

-- an object type whose fields are known: a type of a section isn't before its definition
abbrev pub object_by : Ty → Option Fact → Option Ty
object_by ty (Some (type.fields all resource)) = Some ty
object_by ty _ = None

abbrev pub object_of : Env → Known → Option Ty
object_of env (a_type ty) = object_by ty (fact_of env.facts ty)
object_of env _ = None

abbrev pub plan_with : Env → Place → Option Ty → List (List ℕ) → Answer Plan
plan_with env at (Some ty) names = fields_for env at ty names
plan_with env at None names = not_typed at

abbrev pub plan_as : Env → Place → (built : Bool) → Known → List (List ℕ) → Answer Plan
plan_as env at built Known.unknown names = unless_built_in at built
plan_as env at built k names = plan_with env at (object_of env k) names

-- by the name of an object type
abbrev pub plan_for : Env → Place → List ℕ → List (List ℕ) → Answer Plan
plan_for env at x names = plan_as env at (is_built_in (normal x)) (known env x) names

abbrev pub numbers_of : List Found → List ℕ
numbers_of [] = []
numbers_of (f ∷ rest) = f.number ∷ numbers_of rest

-- each part has the name of a field, so there are as many values as fields
abbrev pub construct_rule : ℕ → Place → Ty → List Found → List Valued → Expr
construct_rule n at ty chosen vs = construct (node n at) ty (numbers_of chosen) (exprs_of vs)

-- ---- values of another type

abbrev pub base_of : Facts → Ty → Option Ty
base_of facts ty = base_in (fact_of facts ty)

abbrev pub is_some_type : Option Ty → Ty → Bool
is_some_type None t = false
is_some_type (Some b) t = same b t

abbrev pub source_by : Option Fact → Option Ty
source_by (Some (type.members names)) = Some type.int
source_by (Some (type.base ty)) = Some ty
source_by _ = None

-- to an enum from an int, to a distinct type from its base
abbrev pub source_of : Facts → Ty → Option Ty
source_of facts ty = source_by (fact_of facts ty)

abbrev pub settled_as : Option Ty → Operand → Option Valued
settled_as None o = None
settled_as (Some t) o = settled t o

-- from a distinct type to its base
abbrev pub from_distinct : Facts → Ty → Operand → Option Valued
from_distinct facts ty (value v) = only_if (is_some_type (base_of facts v.of) ty) v
from_distinct facts ty _ = None

abbrev pub or_from : Option Valued → Option Valued → Option Valued
or_from (Some v) other = Some v
or_from None other = other

abbrev pub convert_by : ℕ → Place → Ty → Operand → Option Valued → Answer Expr
convert_by n at ty o (Some v) = Ok (convert (node n at) ty v.expr)
convert_by n at ty o None = no_fit at (o ∷ [])

-- of an object whose fields are known
abbrev pub empty_object : ℕ → Place → Ty → Option Fact → Answer Expr
empty_object n at ty (Some (type.fields all resource)) = Ok (construct (node n at) ty [] NoArg)
empty_object n at ty _ = not_typed at

-- a type called like a procedure: of an object without fields, or of a value
abbrev pub conversion_rule : Env → ℕ → Place → Ty → List Operand → Answer Expr
conversion_rule env n at ty [] = empty_object n at ty (fact_of env.facts ty)
conversion_rule env n at ty (o ∷ []) =
    convert_by n at ty o (or_from (settled_as (source_of env.facts ty) o) (from_distinct env.facts ty o))
conversion_rule env n at ty operands = no_fit at operands
