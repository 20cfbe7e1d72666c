-- What the parts of typing stand for: what is asked, what is demanded, and what calls that may add types answer. Contracts of
-- typing alone speak of it.
use Rattle.std.specs.Prelude.{◌≡◌, ℕ, ◌<◌, Bool, false, List, length, map, Result, IfOk}
use Rattle.arc_base.specs.declared.place.Stop.{Stop}
use Rattle.arc_base.specs.Refusal.{and_then, Answers}
use Rattle.nim_types.specs.declared.types.TypeDef.{TypeDef}
use Rattle.nim_types.specs.Types as type
use Rattle.nim_types.specs.Types.{Ty, Facts, same}
use Rattle.nim_types.specs.Table.{type_at, IsBelow, AllBelow}
use Rattle.nim_program.specs.Program.{Expr}
use Rattle.nim_program.specs.View.{if_type}
use Rattle.expr_steps.specs.declared.asks.Asks.{Asks as RustAsks}
use Rattle.expr_steps.specs.declared.asks.Asks.TheVariants as asks
use Rattle.expr_steps.specs.declared.given.Given.{Given as RustGiven}
use Rattle.expr_steps.specs.declared.given.Part.{Part as RustPart}
use Rattle.expr_steps.specs.declared.given.Values.{Values as RustValues}
use Rattle.expr_steps.specs.declared.given.Operands.{Operands as RustOperands}
use Rattle.expr_parts.specs.declared.value.Typed.{Typed as RustTyped}
use Rattle.expr_rules.specs.Env.{Env}
use Rattle.expr_rules.specs.Answers.{Answer, Want, inner, value, Valued, valued}
use Rattle.expr_rules.specs.Names.{dollar_call}
use Rattle.expr_rules.specs.Typed as Typed
use Rattle.expr_rules.specs.Typed.{Value, Values, Part, Several, accepted_by}
use Rattle.expr_rules.specs.Demands.{Asks, accepts, anything, exactly, selector, parts, fields, elements}
use Rattle.expr_parts.specs.View.{Under, Grown, want_of, number_of, valued_of, operand_of, OperandWithin, OperandsWithin}
use Rattle.expr_parts.specs.ViewReady.{WantWithin, ValuesWithin}

-- ---- what is asked

abbrev pub inners : List Ty → List ℕ → List Want
inners ts ids = map (λ id. inner (type_at ts id)) ids

-- whether an inner place of the type is wanted
abbrev pub is_inner : Want → Ty → Bool
is_inner (inner t) ty = same t ty
is_inner _ ty = false

-- where these are the types of the parts or fields that are left
abbrev pub asks_of : List Ty → List ℕ → RustAsks → Asks
asks_of ts left asks.Anything = anything
asks_of ts left (asks.Exactly id) = exactly (type_at ts id)
asks_of ts left asks.Selector = selector
asks_of ts left asks.Parts = parts (inners ts left)
asks_of ts left asks.Fields = fields (map (type_at ts) left)
asks_of ts left (asks.Elements w ty) = elements (want_of ts w) (if_type ts ty)

abbrev pub AsksWithin : ℕ → List ℕ → RustAsks → Type 0
AsksWithin n left asks.Anything = Unit {0}
AsksWithin n left (asks.Exactly id) = id < n
AsksWithin n left asks.Selector = Unit {0}
AsksWithin n left asks.Parts = AllBelow n left
AsksWithin n left asks.Fields = AllBelow n left
AsksWithin n left (asks.Elements w ty) = WantWithin n w × IsBelow n ty

-- ---- what is typed, with the first number behind it

abbrev pub TypedWithin : ℕ → RustTyped → Type 0
TypedWithin n t = (t.ty ≡ number_of t.expr) × IsBelow n t.ty

abbrev pub given_of : List Ty → RustGiven → Value
given_of ts g = record { given = valued_of ts g.value; next = g.next }

abbrev pub GivenWithin : ℕ → RustGiven → Type 0
GivenWithin n g = g.value.ty < n

abbrev pub part_of : List Ty → RustPart → Part
part_of ts p = record { operand = operand_of ts p.operand; next = p.next }

abbrev pub PartWithin : ℕ → RustPart → Type 0
PartWithin n p = OperandWithin n p.operand

-- a value as it is
abbrev pub plain_part : Value → Part
plain_part y = record { operand = value y.given; next = y.next }

abbrev pub values_of : List Ty → RustValues → Values
values_of ts vs = record { all = map (valued_of ts) vs.all.items; next = vs.next }

abbrev pub AllWithin : ℕ → RustValues → Type 0
AllWithin n vs = ValuesWithin n vs.all.items

abbrev pub operands_of : List Ty → RustOperands → Several
operands_of ts os = record { operands = map (operand_of ts) os.all.items; next = os.next }

abbrev pub AllOperandsWithin : ℕ → RustOperands → Type 0
AllOperandsWithin n os = OperandsWithin n os.all.items

-- what the rules say of a value of which it is known whether it can be written
abbrev pub if_accepted : Asks → (writable : Bool) → Valued → Answer Valued
if_accepted g writable v = accepted_by (accepts g v.of) (record v { writable = writable })

-- an expression of the type as an operand
abbrev pub text_part : Answer Expr → Ty → ℕ → Answer Part
text_part said ty next = and_then said (λ e. Typed.part_of (value (valued e ty)) next)

-- the call that shows a value
abbrev pub shown_part : Env → ℕ → Value → Answer Part
shown_part env n y = text_part (dollar_call env n y.given) type.text y.next

-- ---- answers of calls that may add types

-- The table has some more types, and under any list that begins with its types the answer is what is said.
pub record Judges {A T : Type 0} (old new : List TypeDef) (of : List Ty → T → A) (said : List Ty → Facts → Answer A) (within : ℕ → T → Type 0)
    (result : Result T Stop) : Type 0 where
  pub grown : Grown old new
  pub answers : (ts : List Ty) (facts : Facts) → Under new ts facts → Answers (of ts) (said ts facts) result
  pub fits : IfOk result (within (length new))
