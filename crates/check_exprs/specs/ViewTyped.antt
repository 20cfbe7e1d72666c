-- What each function of the cycle of typing answers. Contracts of that cycle alone speak of it.
use Rattle.std.specs.Prelude.{◌≡◌, ℕ, suc, ◌<◌, List, [], ◌++◌, map, Option, Some, None, Result, Ok}
use Rattle.arc_base.specs.declared.place.Place.{Place}
use Rattle.arc_base.specs.declared.place.Stop.{Stop}
use Rattle.arc_base.specs.Refusal.{and_then}
use Rattle.nim_tree.specs.declared.expr.Expr.{Expr as Tree}
use Rattle.nim_tree.specs.declared.expr.Choice.{Choice as TreeChoice}
use Rattle.nim_tree.specs.Terms as term
use Rattle.nim_tree.specs.Terms.{Term, Parts, no_parts, part, Choices, term_of, parts_of}
use Rattle.nim_types.specs.declared.types.TypeDef.{TypeDef}
use Rattle.nim_types.specs.Types as type
use Rattle.nim_types.specs.Types.{Ty}
use Rattle.nim_types.specs.Table.{type_at, AllBelow}
use Rattle.nim_program.specs.declared.expr.Label.{Label as RustLabel}
use Rattle.nim_program.specs.Nodes.{followed_by}
use Rattle.nim_program.specs.Program.{Label}
use Rattle.nim_program.specs.View.{label_of}
use Rattle.std.proofs.Common.{Vec, Box, Global}
use Rattle.expr_parts.specs.declared.scope.Scope.{Scope}
use Rattle.expr_parts.specs.declared.value.Want.{Want as RustWant}
use Rattle.expr_parts.specs.declared.value.Typed.{Typed as RustTyped}
use Rattle.expr_parts.specs.declared.value.Operand.{Operand as RustOperand}
use Rattle.expr_steps.specs.declared.asks.Asks.{Asks as RustAsks}
use Rattle.expr_steps.specs.declared.demands.Demand.{Demand as RustDemand}
use Rattle.expr_steps.specs.declared.given.Given.{Given as RustGiven}
use Rattle.expr_steps.specs.declared.given.Part.{Part as RustPart}
use Rattle.expr_steps.specs.declared.given.Values.{Values as RustValues}
use Rattle.expr_steps.specs.declared.given.Operands.{Operands as RustOperands}
use Rattle.expr_steps.specs.declared.choices.Conditions.{Conditions as RustConditions}
use Rattle.expr_steps.specs.declared.choices.Picked.{Picked as RustPicked}
use Rattle.expr_steps.specs.declared.choices.Tests.{Tests as RustTests}
use Rattle.expr_rules.specs.Env.{Env}
use Rattle.expr_rules.specs.Answers.{Answer, Typed, Valued, not_typed, nothing, Operand, a_type}
use Rattle.expr_rules.specs.Choices.{Chosen, Picked, range_of, branch_want}
use Rattle.expr_rules.specs.Demands.{Asks, anything, exactly, want_in, Demand, ordinary, arguments}
use Rattle.expr_rules.specs.Names.{bracket_rule}
use Rattle.expr_steps.specs.ViewEndings.{new_sequence_end, conversion_end}
use Rattle.indent_scanner.specs.Words.{normal}
use Rattle.expr_rules.specs.Typed.{Value, Values, Part, Several, typed, values, value_by, operand_by, part_by, operands, conditions, picks, labels}
use Rattle.expr_rules.specs.Typed.{label_from, read_type, read_array, read_types}
use Rattle.expr_rules.specs.Typed as typing
use Rattle.expr_parts.specs.View.{env_of, want_of, typed_of, operand_of, IsProper}
use Rattle.expr_steps.specs.ViewDemands.{demand_of}
use Rattle.expr_steps.specs.ViewTyping.{Judges, TypedWithin, given_of, GivenWithin, part_of, PartWithin, asks_of, values_of, AllWithin, operands_of}
use Rattle.expr_steps.specs.ViewTyping.{AllOperandsWithin}
use Rattle.expr_steps.specs.ViewChoices.{Tests, conditions_of, ConditionsWithin, picked_of, PickedWithin, tests_of, next_condition, next_pick, rows_in}

abbrev pub TypedSo : (old new : List TypeDef) → Scope → RustWant → ℕ → Term → Result RustTyped Stop → Type 0
TypedSo old new s want n t r = Judges old new typed_of (λ ts facts. typed (env_of ts facts s) (want_of ts want) n t) TypedWithin r

-- whatever is wanted
abbrev pub ReadSo : (old new : List TypeDef) → Scope → ℕ → Term → Result RustTyped Stop → Type 0
ReadSo old new s n t r = (want : RustWant) → TypedSo old new s want n t r

-- ---- values and operands

abbrev pub value_said : Env → Asks → ℕ → Term → Answer Value
value_said env g n t = value_by env g t (typed env (want_in g) n t)

abbrev pub GivenSo : (old new : List TypeDef) → Scope → (left : List ℕ) → RustAsks → ℕ → Term → Result RustGiven Stop → Type 0
GivenSo old new s left g n t r = Judges old new given_of (λ ts facts. value_said (env_of ts facts s) (asks_of ts left g) n t) GivenWithin r

-- values behind others
abbrev pub values_onto : List Valued → Values → Values
values_onto before vs = record { all = before ++ vs.all; next = vs.next }

abbrev pub values_said : Env → Asks → ℕ → List Valued → Parts → Answer Values
values_said env g n before ps = and_then (values env g n ps) (λ vs. Ok (values_onto before vs))

abbrev pub ValuesSo : (old new : List TypeDef) → Scope → (left : List ℕ) → RustAsks → ℕ → Parts → Result RustValues Stop → Type 0
ValuesSo old new s left g n ps r = Judges old new values_of (λ ts facts. values (env_of ts facts s) (asks_of ts left g) n ps) AllWithin r

abbrev pub operand_said : Env → Demand → ℕ → Term → Answer Part
operand_said env d n t = operand_by env d n t (λ k. typed env nothing k t) (read_type env t)

abbrev pub PartSo : (old new : List TypeDef) → Scope → RustDemand → ℕ → Term → Result RustPart Stop → Type 0
PartSo old new s d n t r = Judges old new part_of (λ ts facts. operand_said (env_of ts facts s) (demand_of d) n t) PartWithin r

-- where it is nothing special
abbrev pub OrdinarySo : (old new : List TypeDef) → Scope → RustDemand → ℕ → Term → Result RustPart Stop → Type 0
OrdinarySo old new s d n t r =
    Judges old new part_of (λ ts facts. part_by (env_of ts facts s) (demand_of d) ordinary n (λ k. value_said (env_of ts facts s) anything k t)
    (read_type (env_of ts facts s) t)) PartWithin r

abbrev pub TypeOperandSo : (old new : List TypeDef) → Scope → ℕ → Term → Result RustPart Stop → Type 0
TypeOperandSo old new s n t r =
    Judges old new part_of (λ ts facts. and_then (read_type (env_of ts facts s) t) (λ ty. typing.part_of (a_type ty) n)) PartWithin r

-- the operands behind others
abbrev pub operands_onto : List Operand → Several → Several
operands_onto before os = record { operands = before ++ os.operands; next = os.next }

abbrev pub operands_said : Env → Demand → ℕ → List Operand → Parts → Answer Several
operands_said env d n before ps = and_then (operands env d n ps) (λ os. Ok (operands_onto before os))

abbrev pub OperandsSo : (old new : List TypeDef) → Scope → RustDemand → (before : List RustOperand) → ℕ → Parts → Result RustOperands Stop
    → Type 0
OperandsSo old new s d before n ps r =
    Judges old new operands_of (λ ts facts. operands_said (env_of ts facts s) (demand_of d) n (map (operand_of ts) before) ps) AllOperandsWithin r

-- ---- branches

-- a `case`, with the value of `else` where there is one
abbrev pub case_by : Place → Term → Choices → Option (Box Tree Global) → Term
case_by at a cs None = term.case_term at a cs
case_by at a cs (Some b) = term.case_else at a cs (term_of b.value)

-- the branches of an `if` behind others
abbrev pub conditions_onto : Chosen → Chosen → Chosen
conditions_onto c d = record { parts = followed_by c.parts d.parts; values = d.values; next = d.next }

abbrev pub conditions_said : Env → Chosen → Choices → Answer Chosen
conditions_said env c rest = and_then (conditions env c.values c.next rest) (λ d. Ok (conditions_onto c d))

abbrev pub ConditionsSo : (old new : List TypeDef) → Scope → (before : RustConditions) → Choices → Result RustConditions Stop → Type 0
ConditionsSo old new s before rest r =
    Judges old new conditions_of (λ ts facts. conditions_said (env_of ts facts s) (conditions_of ts before) rest) ConditionsWithin r

-- a test of a branch of an `if`
abbrev pub test_said : Env → ℕ → Place → Parts → Answer Value
test_said env n at (part t no_parts) = value_said env (exactly type.bool) n t
test_said env n at tests = not_typed at

abbrev pub TestSo : (old new : List TypeDef) → Scope → ℕ → Place → Parts → Result RustGiven Stop → Type 0
TestSo old new s n at tests r = Judges old new given_of (λ ts facts. test_said (env_of ts facts s) n at tests) GivenWithin r

abbrev pub condition_said : Env → Chosen → Place → Parts → Term → Answer Chosen
condition_said env c at tests a =
    and_then (test_said env c.next at tests) (λ v. and_then (typed env (branch_want c.values) v.next a) (λ x. next_condition c v x))

abbrev pub ConditionSo : (old new : List TypeDef) → Scope → (before : RustConditions) → TreeChoice → Result RustConditions Stop → Type 0
ConditionSo old new s before one r =
    Judges old new conditions_of (λ ts facts. condition_said (env_of ts facts s) (conditions_of ts before) one.at (parts_of one.tests.items)
    (term_of one.value)) ConditionsWithin r

-- the branches of a `case` behind others
abbrev pub picks_behind : Picked → Picked → Picked
picks_behind p q = record {
  rows = p.rows ++ q.rows;
  labels = q.labels;
  parts = followed_by p.parts q.parts;
  values = q.values;
  next = q.next;
}

abbrev pub picks_said : Env → Ty → Picked → Choices → Answer Picked
picks_said env ty p rest = and_then (picks env ty p.labels p.values p.next rest) (λ q. Ok (picks_behind p q))

abbrev pub PicksSo : (old new : List TypeDef) → Scope → ℕ → (before : RustPicked) → Choices → Result RustPicked Stop → Type 0
PicksSo old new s ty before rest r =
    Judges old new picked_of (λ ts facts. picks_said (env_of ts facts s) (type_at ts ty) (picked_of ts before) rest) PickedWithin r

-- labels behind earlier ones
abbrev pub labels_said : Env → Ty → Tests → Parts → Answer Tests
labels_said env ty t tests = and_then (labels env ty t.all tests) (λ ls. Ok (record { own = t.own ++ ls; all = t.all ++ ls }))

abbrev pub no_tests : List Label → Tests
no_tests all = record { own = []; all = all }

-- these and those of the branch are all
abbrev pub AreAll : List Label → ℕ → RustTests → Type 0
AreAll before n t = t.all ≡ before ++ map label_of t.own

abbrev pub LabelsSo : (old new : List TypeDef) → Scope → ℕ → (before : List Label) → Parts → Result RustTests Stop → Type 0
LabelsSo old new s ty before tests r =
    Judges old new (λ ts. tests_of) (λ ts facts. labels_said (env_of ts facts s) (type_at ts ty) (no_tests before) tests) (AreAll before) r

abbrev pub pick_said : Env → Ty → Picked → Parts → Term → Answer Picked
pick_said env ty p tests a =
    and_then (labels_said env ty (no_tests p.labels) tests) (λ ls.
    and_then (typed env (branch_want p.values) p.next a) (λ x. next_pick (rows_in p) p.values ls x))

abbrev pub PickSo : (old new : List TypeDef) → Scope → ℕ → (before : RustPicked) → TreeChoice → Result RustPicked Stop → Type 0
PickSo old new s ty before one r =
    Judges old new picked_of (λ ts facts. pick_said (env_of ts facts s) (type_at ts ty) (picked_of ts before) (parts_of one.tests.items)
    (term_of one.value)) PickedWithin r

-- the label that a term is by itself, and with its range
abbrev pub one_label_said : Env → Ty → Term → Answer Label
one_label_said env ty a = label_from env.facts ty (typed env nothing 0 a)

abbrev pub range_said : Env → Ty → Place → Term → Term → Answer Label
range_said env ty at a b = and_then (one_label_said env ty a) (λ low. and_then (one_label_said env ty b) (λ high. range_of at low high))

abbrev pub label_said : Env → Ty → Term → Answer Label
label_said env ty (term.range at a b) = range_said env ty at a b
label_said env ty a = one_label_said env ty a

abbrev pub LabelProper : ℕ → RustLabel → Type 0
LabelProper n l = IsProper (label_of l)

abbrev pub LabelSo : (old new : List TypeDef) → Scope → ℕ → Term → Result RustLabel Stop → Type 0
LabelSo old new s ty t r = Judges old new (λ ts. label_of) (λ ts facts. label_said (env_of ts facts s) (type_at ts ty) t) LabelProper r

abbrev pub OneLabelSo : (old new : List TypeDef) → Scope → ℕ → Term → Result RustLabel Stop → Type 0
OneLabelSo old new s ty t r = Judges old new (λ ts. label_of) (λ ts facts. one_label_said (env_of ts facts s) (type_at ts ty) t) LabelProper r

abbrev pub RangeSo : (old new : List TypeDef) → Scope → ℕ → Place → Term → Term → Result RustLabel Stop → Type 0
RangeSo old new s ty at a b r = Judges old new (λ ts. label_of) (λ ts facts. range_said (env_of ts facts s) (type_at ts ty) at a b) LabelProper r

-- ---- written types

abbrev pub IdWithin : ℕ → ℕ → Type 0
IdWithin n id = id < n

abbrev pub TypeSo : (old new : List TypeDef) → Scope → Term → Result ℕ Stop → Type 0
TypeSo old new s t r = Judges old new type_at (λ ts facts. read_type (env_of ts facts s) t) IdWithin r

-- what is called with something in brackets: `newSeq` of a type, or a type
abbrev pub sequence_said : Env → ℕ → Place → Term → Parts → Answer Typed
sequence_said env n at t inside =
    and_then (read_type env t) (λ ty. and_then (operands env arguments (suc n) inside) (new_sequence_end n at ty))

abbrev pub conversion_said : Env → ℕ → (at p q : Place) → List ℕ → (given inside : Parts) → Answer Typed
conversion_said env n at p q x given inside =
    and_then (bracket_rule env at (normal x)) (λ _. and_then (read_type env (term.index p (term.name q x) given)) (λ ty.
    and_then (operands env arguments (suc n) inside) (conversion_end env n at ty)))

abbrev pub SequenceSo : (old new : List TypeDef) → Scope → ℕ → Place → Term → Parts → Result RustTyped Stop → Type 0
SequenceSo old new s n at t inside r = Judges old new typed_of (λ ts facts. sequence_said (env_of ts facts s) n at t inside) TypedWithin r

abbrev pub ConversionSo : (old new : List TypeDef) → Scope → ℕ → (at p q : Place) → List ℕ → (given inside : Parts) → Result RustTyped Stop → Type 0
ConversionSo old new s n at p q x given inside r =
    Judges old new typed_of (λ ts facts. conversion_said (env_of ts facts s) n at p q x given inside) TypedWithin r

abbrev pub ArraySo : (old new : List TypeDef) → Scope → Place → Parts → Result ℕ Stop → Type 0
ArraySo old new s at given r = Judges old new type_at (λ ts facts. read_array (env_of ts facts s) at given) IdWithin r

abbrev pub ids_of : List Ty → Vec ℕ Global → List Ty
ids_of ts ids = map (type_at ts) ids.items

abbrev pub types_said : Env → List Ty → Parts → Answer (List Ty)
types_said env before ps = and_then (read_types env ps) (λ us. Ok (before ++ us))

abbrev pub IdsWithin : ℕ → Vec ℕ Global → Type 0
IdsWithin n ids = AllBelow n ids.items

abbrev pub TypesSo : (old new : List TypeDef) → Scope → Parts → Result (Vec ℕ Global) Stop → Type 0
TypesSo old new s given r = Judges old new ids_of (λ ts facts. read_types (env_of ts facts s) given) IdsWithin r
