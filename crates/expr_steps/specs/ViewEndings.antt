-- What the rules make of values and operands that were typed. Contracts of typing alone speak of it.
use Rattle.std.specs.Prelude.{ℕ, List, Ok}
use Rattle.arc_base.specs.declared.place.Place.{Place}
use Rattle.arc_base.specs.Refusal.{and_then}
use Rattle.nim_tree.specs.declared.expr.UnaryOp.{UnaryOp}
use Rattle.nim_tree.specs.declared.expr.BinaryOp.{BinaryOp}
use Rattle.nim_types.specs.Types.{Ty, Facts}
use Rattle.expr_rules.specs.Env.{Env}
use Rattle.expr_rules.specs.Answers.{Answer, Typed, gives, Want}
use Rattle.expr_rules.specs.Operators.{binary_rule}
use Rattle.expr_rules.specs.Constructions.{Plan, tuple_rule, array_rule, sequence_rule, construct_rule, index_rule, conversion_rule}
use Rattle.expr_rules.specs.Choices.{Chosen, Picked, branch_value, if_rule, case_node, case_else_rule, cover_rule, gives_in}
use Rattle.expr_rules.specs.Names.{call_rule, field_rule, new_sequence_rule}
use Rattle.expr_rules.specs.Typed.{Value, Values, Part, Several, unary_call}

abbrev pub tuple_end : Env → Want → ℕ → Place → List (List ℕ) → Values → Answer Typed
tuple_end env want n at names vs = and_then (tuple_rule env want n at names vs.all) (λ e. gives e vs.next)

abbrev pub array_end : Env → ℕ → Place → Values → Answer Typed
array_end env n at vs = and_then (array_rule env n at vs.all) (λ e. gives e vs.next)

abbrev pub sequence_end : Want → ℕ → Place → Values → Answer Typed
sequence_end want n at vs = and_then (sequence_rule want n at vs.all) (λ e. gives e vs.next)

abbrev pub object_end : ℕ → Place → Plan → Values → Answer Typed
object_end n at plan vs = gives (construct_rule n at plan.of plan.chosen vs.all) vs.next

abbrev pub field_end : Env → ℕ → Place → List ℕ → Part → Answer Typed
field_end env n at x o = and_then (field_rule env n at x o.operand) (λ e. gives e o.next)

abbrev pub call_end : Env → ℕ → Place → List ℕ → Several → Answer Typed
call_end env n at x os = and_then (call_rule env n at x os.operands) (λ e. gives e os.next)

abbrev pub new_sequence_end : ℕ → Place → Ty → Several → Answer Typed
new_sequence_end n at ty os = and_then (new_sequence_rule n at ty os.operands) (λ e. gives e os.next)

abbrev pub conversion_end : Env → ℕ → Place → Ty → Several → Answer Typed
conversion_end env n at ty os = and_then (conversion_rule env n at ty os.operands) (λ e. gives e os.next)

abbrev pub unary_end : Env → ℕ → Place → UnaryOp → Value → Answer Typed
unary_end env n at op v = and_then (unary_call env n at op v.given) (λ e. gives e v.next)

abbrev pub binary_end : Env → ℕ → Place → BinaryOp → Part → Part → Answer Typed
binary_end env n at op o r = and_then (binary_rule env n at op o.operand r.operand) (λ e. gives e r.next)

abbrev pub index_end : Env → ℕ → Place → Value → Value → Answer Typed
index_end env n at v w = index_rule env n v.next w.next at v.given w.given

abbrev pub if_end : ℕ → Place → Chosen → Typed → Answer Typed
if_end n at c x = and_then (branch_value c.values x.expr) (λ e. gives (if_rule n at c e) x.next)

abbrev pub case_end : Facts → ℕ → Place → Value → Picked → Answer Typed
case_end facts n at v p =
    and_then (and_then (cover_rule facts at v.given.of (gives_in p.values) p.labels) (λ _. Ok (case_node n at v.given p)))
    (λ e. gives e p.next)

abbrev pub case_else_end : ℕ → Place → Value → Picked → Typed → Answer Typed
case_else_end n at v p x = and_then (branch_value p.values x.expr) (λ e. gives (case_else_rule n at v.given p e) x.next)
