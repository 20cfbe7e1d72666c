-- What demands of the code stand for. Contracts of typing alone speak of it.
use Rattle.std.specs.Prelude.{◌≡◌, ℕ, Bool, true, false, ◌||◌, if◌then◌else◌, List, [], codes}
use Rattle.nim_tree.specs.Terms.{Term}
use Rattle.nim_types.specs.Types.{Ty}
use Rattle.expr_steps.specs.declared.demands.Demand.{Demand as RustDemand}
use Rattle.expr_steps.specs.declared.demands.Demand.TheVariants as demand
use Rattle.expr_steps.specs.declared.demands.Special.{Special as RustSpecial}
use Rattle.expr_steps.specs.declared.demands.Special.TheVariants as kind
use Rattle.expr_rules.specs.Env.{Env}
use Rattle.expr_rules.specs.Answers.{Answer, Typed}
use Rattle.expr_rules.specs.Builtins.{is_echo, is_default}
use Rattle.expr_rules.specs.Demands.{Demand, closed, comparands, arguments, echoed, receiver, one_type, input_first}
use Rattle.expr_rules.specs.Demands.{Special, ordinary, is_open, is_type, is_stdin}
use Rattle.expr_rules.specs.Typed.{operand_by}

-- before a dot the name matters where it is that of `echo`
abbrev pub name_if : Bool → List ℕ
name_if true = codes "echo"
name_if false = []

abbrev pub receiver_of : Bool → Demand
receiver_of of_echo = receiver (name_if of_echo)

abbrev pub demand_of : RustDemand → Demand
demand_of demand.Closed = closed
demand_of demand.Comparands = comparands
demand_of demand.Arguments = arguments
demand_of demand.Echoed = echoed
demand_of (demand.Receiver of_echo) = receiver_of of_echo
demand_of demand.OneType = one_type
demand_of demand.InputFirst = input_first

abbrev pub special_of : RustSpecial → Special
special_of kind.Ordinary = ordinary
special_of (kind.Open at) = is_open at
special_of kind.Type = is_type
special_of kind.Input = is_stdin

-- of a call by the name, where it is known what it takes
abbrev pub demand_with : List ℕ → (type input : Bool) → Demand
demand_with x type input =
    if is_echo x then echoed else (if is_default x || type then one_type else (if input then input_first else arguments))

abbrev pub as_receiver_with : List ℕ → Demand → Demand
as_receiver_with x one_type = one_type
as_receiver_with x input_first = input_first
as_receiver_with x _ = receiver_of (is_echo x)

-- they demand the same of each operand
abbrev pub SameDemand : Env → Demand → Demand → Type 0
SameDemand env d e = (n : ℕ) (t : Term) (as_typed : ℕ → Answer Typed) (as_type : Answer Ty)
    → operand_by env d n t as_typed as_type ≡ operand_by env e n t as_typed as_type
