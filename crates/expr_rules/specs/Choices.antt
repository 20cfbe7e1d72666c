-- `if` and `case` that are expressions: conditions, labels, what they cover, and values of branches.
use Rattle.std.specs.Prelude.{ℕ, zero, suc, ℤ, pos, ◌+ℤ◌, ◌-ℤ◌, Bool, true, false, ◌&&◌, ◌||◌, if◌then◌else◌, int_le, int_lt, List, [], ◌∷◌, length}
use Rattle.std.specs.Prelude.{Option, Some, None, Ok}
use Rattle.arc_base.specs.declared.place.Place.{Place}
use Rattle.arc_base.specs.declared.place.Code.TheVariants.{CaseCover}
use Rattle.arc_base.specs.Refusal.{and_then, refused}
use Rattle.nim_types.specs.Types as type
use Rattle.nim_types.specs.Types.{Ty, Facts, fact_of, members_in, same, same_text}
use Rattle.nim_program.specs.Program.{Expr, Choose, Args, Literal, Number, Characters, Label, Ordinals, Exactly, ByConditions, ByLabels, type_of}
use Rattle.nim_program.specs.Nodes.{one_value, followed_by, selecting}
use Rattle.nim_program.specs.Ints.{low, high}
use Rattle.expr_rules.specs.Env.{Env}
use Rattle.expr_rules.specs.Answers.{Answer, not_typed, node, place_in, Valued, Want, nothing, inner_by}
use Rattle.expr_rules.specs.Constants.{constant_rule}

-- ---- values of branches: all of one type, or all without a value

pub data Branching : Type 0 where
  -- no branch yet
  undecided : Want → Branching
  -- as the first branch, with what is wanted of it
  decided : Want → Option Ty → Branching

abbrev pub branch_want : Branching → Want
branch_want (undecided want) = want
branch_want (decided nothing ty) = inner_by ty
branch_want (decided want ty) = want

abbrev pub same_value : Option Ty → Option Ty → Bool
same_value None None = true
same_value (Some s) (Some t) = same s t
same_value _ _ = false

abbrev pub agrees : Branching → Option Ty → Bool
agrees (undecided want) t = true
agrees (decided want ty) t = same_value ty t

abbrev pub branching_behind : Branching → Option Ty → Branching
branching_behind (undecided want) t = decided want t
branching_behind (decided want ty) t = decided want ty

abbrev pub if_agrees : Bool → Expr → Answer Expr
if_agrees true e = Ok e
if_agrees false e = not_typed (place_in e)

abbrev pub branch_value : Branching → Expr → Answer Expr
branch_value b e = if_agrees (agrees b (type_of e)) e

-- ---- labels

abbrev pub label_by : Place → Literal → Answer Label
label_by at (Number z) = Ok (Ordinals z z)
label_by at (Characters bytes) = Ok (Exactly bytes)
label_by at _ = not_typed at

-- a constant of the selector's type
abbrev pub label_value : Facts → Ty → Valued → Answer Label
label_value facts ty v = if same ty v.of then and_then (constant_rule facts v) (label_by (place_in v.expr)) else not_typed (place_in v.expr)

-- from one to another that isn't below it
abbrev pub range_of : Place → Label → Label → Answer Label
range_of at (Ordinals a _) (Ordinals b _) = if int_le a b then Ok (Ordinals a b) else not_typed at
range_of at _ _ = not_typed at

abbrev pub clash : Label → Label → Bool
clash (Ordinals a b) (Ordinals c d) = int_le a d && int_le c b
clash (Exactly s) (Exactly t) = same_text s t
clash _ _ = false

abbrev pub clashes : Label → List Label → Bool
clashes l [] = false
clashes l (k ∷ rest) = clash l k || clashes l rest

-- no value is that of an earlier label
abbrev pub new_label : Place → List Label → Label → Answer Label
new_label at before l = if clashes l before then refused CaseCover at else Ok l

-- ---- what labels cover

abbrev pub has_value : ℤ → Label → Bool
has_value z (Ordinals a b) = int_le a z && int_le z b
has_value z (Exactly s) = false

abbrev pub has_any : ℤ → List Label → Bool
has_any z [] = false
has_any z (l ∷ rest) = has_value z l || has_any z rest

abbrev pub or_last : Bool → Label → Option ℤ → Option ℤ
or_last true (Ordinals a b) rest = Some b
or_last _ l rest = rest

-- the last value of a label that has z
abbrev pub last_with : ℤ → List Label → Option ℤ
last_with z [] = None
last_with z (l ∷ rest) = or_last (has_value z l) l (last_with z rest)

-- whether each number from one to another is in a label, which are at most so many
abbrev pub goes_on : Option ℤ → (ℤ → Bool) → Bool
goes_on None go = false
goes_on (Some last) go = go (last +ℤ pos 1)

abbrev pub are_covered : ℕ → ℤ → ℤ → List Label → Bool
are_covered zero from to labels = int_lt to from
are_covered (suc n) from to labels = int_lt to from || goes_on (last_with from labels) (λ next. are_covered n next to labels)

-- the values of an ordinal type
pub record Span : Type 0 where
  pub from : ℤ
  pub to : ℤ

abbrev pub span : ℤ → ℤ → Option Span
span from to = Some (record { from = from; to = to })

abbrev pub span_of : Facts → Ty → Option Span
span_of facts type.int = span low high
span_of facts type.bool = span (pos 0) (pos 1)
span_of facts type.char = span (pos 0) (pos 255)
span_of facts (type.enum key) = span (pos 0) (pos (length (members_in (fact_of facts (type.enum key)))) -ℤ pos 1)
span_of facts _ = None

abbrev pub covers : Option Span → List Label → Bool
covers (Some s) labels = are_covered (suc (length labels)) s.from s.to labels
covers None labels = true

-- Without `else` all values are covered; or it is over texts and gives no value.
abbrev pub is_enough : Facts → Ty → Option Ty → List Label → Bool
is_enough facts type.text None labels = true
is_enough facts type.text (Some ty) labels = false
is_enough facts ty gives labels = covers (span_of facts ty) labels

-- of a `case` without `else`, also of one that is a statement
abbrev pub cover_by : Bool → Place → Answer (Unit {0})
cover_by true at = Ok tt
cover_by false at = refused CaseCover at

abbrev pub cover_rule : Facts → Place → Ty → (gives : Option Ty) → List Label → Answer (Unit {0})
cover_rule facts at ty gives labels = cover_by (is_enough facts ty gives labels) at

-- ---- the nodes

-- branches of an `if`, each condition before its value; and of a `case`: labels by branch, all labels with those before, and values
pub record Chosen : Type 0 where
  pub parts : Args
  pub values : Branching
  pub next : ℕ

pub record Picked : Type 0 where
  pub rows : List (List Label)
  pub labels : List Label
  pub parts : Args
  pub values : Branching
  pub next : ℕ

abbrev pub gives_in : Branching → Option Ty
gives_in (undecided want) = None
gives_in (decided want ty) = ty

abbrev pub if_rule : ℕ → Place → Chosen → Expr → Expr
if_rule n at c otherwise = Choose (node n at) (type_of otherwise) ByConditions (followed_by c.parts (one_value otherwise))

abbrev pub case_else_rule : ℕ → Place → Valued → Picked → Expr → Expr
case_else_rule n at v p otherwise =
    Choose (node n at) (type_of otherwise) (ByLabels p.rows) (selecting v.expr (followed_by p.parts (one_value otherwise)))

abbrev pub case_node : ℕ → Place → Valued → Picked → Expr
case_node n at v p = Choose (node n at) (gives_in p.values) (ByLabels p.rows) (selecting v.expr p.parts)

abbrev pub case_rule : Env → ℕ → Place → Valued → Picked → Answer Expr
case_rule env n at v p = and_then (cover_rule env.facts at v.of (gives_in p.values) p.labels) (λ _. Ok (case_node n at v p))
