-- What the code's values stand for under a list of types, by their numbers.
use Rattle.std.specs.Prelude.{◌≡◌, ℕ, suc, ◌<◌, ◌≤◌, List, [], ◌∷◌, ◌++◌, length, map, slice_get, Bool, true, false, not, ◌&&◌, ◌||◌, nat_eq, nat_le, int_le}
use Rattle.std.specs.Prelude.{Option, Some, None, Ok, if◌then◌else◌}
use Rattle.arc_base.specs.declared.place.Place.{Place}
use Rattle.indent_scanner.specs.Words.{normal}
use Rattle.nim_types.specs.declared.types.FieldName.{FieldName}
use Rattle.expr_parts.specs.declared.parts.Found.{Found as RustFound}
use Rattle.expr_rules.specs.Constructions.{Found, found, convert_by, or_from, settled_as, source_of, from_distinct}
use Rattle.nim_types.specs.declared.types.TypeDef.{TypeDef}
use Rattle.nim_types.specs.declared.types.TypeDef.TheVariants as D
use Rattle.nim_types.specs.Types.{Ty, sequence, array, Fact, Facts, fields, same_text}
use Rattle.nim_types.specs.Forms.{Form, HasForm}
use Rattle.nim_types.specs.Table.{type_at, types_in, facts_in, meant, IsTable, IsBelow}
use Rattle.nim_program.specs.declared.expr.Expr.{Expr as RustExpr}
use Rattle.nim_program.specs.declared.expr.Expr.TheVariants as E
use Rattle.nim_program.specs.declared.expr.Path.{Path as RustPath}
use Rattle.nim_program.specs.declared.expr.Path.TheVariants as P
use Rattle.nim_program.specs.View.{expr_of, if_type, literal_of, path_of as path_in}
use Rattle.expr_parts.specs.declared.scope.Parameter.{Parameter as RustParameter}
use Rattle.expr_parts.specs.declared.scope.Procedure.{Procedure as RustProcedure}
use Rattle.expr_parts.specs.declared.scope.What.{What}
use Rattle.expr_parts.specs.declared.scope.What.TheVariants as what
use Rattle.expr_parts.specs.declared.scope.Decl.{Decl}
use Rattle.expr_parts.specs.declared.scope.Kinds.{Kinds}
use Rattle.expr_parts.specs.declared.scope.Scope.{Scope}
use Rattle.expr_parts.specs.declared.value.Value.{Value}
use Rattle.expr_parts.specs.declared.value.Want.{Want as RustWant}
use Rattle.expr_parts.specs.declared.value.Want.TheVariants as want
use Rattle.expr_parts.specs.declared.value.Operand.{Operand as RustOperand}
use Rattle.expr_parts.specs.declared.value.Operand.TheVariants as operand
use Rattle.expr_parts.specs.declared.value.Typed.{Typed as RustTyped}
use Rattle.expr_parts.specs.declared.operators.Meaning.{Meaning as RustMeaning}
use Rattle.expr_parts.specs.declared.operators.Meaning.TheVariants as meaning
use Rattle.nim_program.specs.declared.operation.Operation.TheVariants as operation
use Rattle.nim_types.specs.Types as type
use Rattle.expr_rules.specs.Operators.{Meaning, computes, does, stops_early, means_nothing}
use Rattle.expr_parts.specs.declared.names.Former.{Former as RustFormer}
use Rattle.expr_parts.specs.declared.names.Former.TheVariants as former
use Rattle.expr_rules.specs.Demands.{Former, of_sequences, of_arrays, of_nothing}
use Rattle.expr_parts.specs.declared.calls.Chosen.{Chosen}
use Rattle.expr_parts.specs.declared.calls.Chosen.TheVariants as chosen
use Rattle.expr_rules.specs.Calls.{Fit, arguments_for, Argument, by_value, by_var, no_overlap}
use Rattle.expr_parts.specs.declared.branching.Branching.{Branching as RustBranching}
use Rattle.expr_parts.specs.declared.branching.Branching.TheVariants as branching
use Rattle.expr_rules.specs.Choices.{Branching, undecided, decided}
use Rattle.nim_program.specs.declared.expr.Operand.{Operand as RustArgument}
use Rattle.nim_program.specs.declared.expr.Operand.TheVariants as argument
use Rattle.expr_parts.specs.declared.overlap.Step.{Step as RustStep}
use Rattle.expr_parts.specs.declared.overlap.Step.TheVariants as step
use Rattle.expr_rules.specs.Paths.{Step, field, element, overlaps_any}
use Rattle.expr_rules.specs.Env.{Env, Entry, variable, constant, named, pending, procedure, input, Parameter, Procedure, Known, unknown, known_next}
use Rattle.arc_base.specs.declared.place.Code.{Code}
use Rattle.arc_base.specs.Refusal.{and_then, refused}
use Rattle.nim_program.specs.Program.{Expr, Args, Path, Label, Ordinals, Exactly}
use Rattle.nim_program.specs.Nodes.{make}
use Rattle.expr_rules.specs.declared.limits.TheConstants.{MOST_ELEMENTS}
use Rattle.expr_rules.specs.Sizes.{is_sized}
use Rattle.expr_rules.specs.Answers.{Answer, not_typed, node, Typed, typed_as, Valued, Want, nothing, whole, inner, Operand, value, open_sequence}
use Rattle.expr_rules.specs.Answers.{a_type, the_input}

-- ---- lists of types that begin with those of a table

-- What is added to the table later changes no type of a number and no fact.
pub record Under (ds : List TypeDef) (ts : List Ty) (facts : Facts) : Type 0 where
  pub table : IsTable ds
  pub more : List Ty
  pub begins : ts ≡ types_in ds ++ more
  pub said : facts ≡ facts_in ds

-- the numbers of the types that no source declares
pub record KindsIn (ds : List TypeDef) (kinds : Kinds) : Type 0 where
  pub int : slice_get ds kinds.int ≡ Some D.Int
  pub bool : slice_get ds kinds.bool ≡ Some D.Bool
  pub char : slice_get ds kinds.char ≡ Some D.Char
  pub text : slice_get ds kinds.text ≡ Some D.Text

-- ---- the number of an expression's type

abbrev mutual
  pub number_of : RustExpr → Option ℕ
  number_of (E.Apply' node ty operation p operands) = ty
  number_of (E.Call' node ty proc types p operands) = ty
  number_of (E.Construct' node ty numbers p operands) = Some ty
  number_of (E.Constant node ty l) = Some ty
  number_of (E.Read path) = number_at path
  number_of (E.Early' node ty short p left q right) = Some ty
  number_of (E.If' node ty p branches q otherwise) = ty
  number_of (E.Case' node ty p selector q branches otherwise) = ty

  pub number_at : RustPath → Option ℕ
  number_at (P.Variable node ty place global) = Some ty
  number_at (P.Fresh' p e) = number_of e
  number_at (P.Field' node ty p base k) = Some ty
  number_at (P.Element' node ty p base q index k) = Some ty
  number_at (P.Deref' ty p base) = Some ty

abbrev pub is_sequence : Ty → Bool
is_sequence (sequence t) = true
is_sequence _ = false

-- ---- declarations

abbrev pub parameter_of : List Ty → RustParameter → Parameter
parameter_of ts p = record { mode = p.mode; of = type_at ts p.ty }

abbrev pub procedure_of : List Ty → RustProcedure → Procedure
procedure_of ts p = record { number = p.number; params = map (parameter_of ts) p.params; gives = if_type ts p.gives; borrowed = p.borrowed }

abbrev pub entry_by : List Ty → List ℕ → What → Entry
entry_by ts x (what.Variable place ty writable global) = variable x place (type_at ts ty) writable global
entry_by ts x (what.Constant ty l) = constant x (type_at ts ty) (literal_of l)
entry_by ts x (what.Type id) = named x (type_at ts id)
entry_by ts x what.Pending = pending x
entry_by ts x (what.Procedure p) = procedure x (procedure_of ts p)
entry_by ts x what.Input = input x

abbrev pub entry_of : List Ty → Decl → Entry
entry_of ts d = entry_by ts d.name d.what

abbrev pub env_of : List Ty → Facts → Scope → Env
env_of ts facts s = record { entries = map (entry_of ts) s.decls; facts = facts; home = s.home }

-- what the last declaration makes of its name
abbrev pub Stands : List Ty → Option Decl → Known → Type 0
Stands ts None known = known ≡ unknown
Stands ts (Some d) known = (before : Known) × (known ≡ known_next before (entry_of ts d))

-- ---- numbers of a table

abbrev pub ParametersWithin : ℕ → List RustParameter → Type 0
ParametersWithin n [] = Unit {0}
ParametersWithin n (p ∷ rest) = (p.ty < n) × ParametersWithin n rest

abbrev pub WhatWithin : ℕ → What → Type 0
WhatWithin n (what.Variable place ty writable global) = ty < n
WhatWithin n (what.Constant ty l) = ty < n
WhatWithin n (what.Type id) = id < n
WhatWithin n what.Pending = Unit {0}
WhatWithin n (what.Procedure p) = IsBelow n p.gives × ParametersWithin n p.params
WhatWithin n what.Input = Unit {0}

abbrev pub DeclsWithin : ℕ → List Decl → Type 0
DeclsWithin n [] = Unit {0}
DeclsWithin n (d ∷ rest) = WhatWithin n d.what × DeclsWithin n rest

abbrev pub FoundWithin : ℕ → Option Decl → Type 0
FoundWithin n None = Unit {0}
FoundWithin n (Some d) = WhatWithin n d.what

-- ---- values

abbrev pub valued_of : List Ty → Value → Valued
valued_of ts v = record { expr = expr_of ts v.expr; of = type_at ts v.ty; writable = v.writable }

-- as an operand of a node
abbrev pub handed_on : Value → RustArgument
handed_on v = argument.Value v.expr

abbrev pub want_of : List Ty → RustWant → Want
want_of ts want.Nothing = nothing
want_of ts (want.Whole id) = whole (type_at ts id)
want_of ts (want.Inner id) = inner (type_at ts id)

abbrev pub operand_of : List Ty → RustOperand → Operand
operand_of ts (operand.Value v) = value (valued_of ts v)
operand_of ts (operand.Open at number) = open_sequence at number
operand_of ts (operand.Type id) = a_type (type_at ts id)
operand_of ts operand.Input = the_input

abbrev pub typed_of : List Ty → RustTyped → Typed
typed_of ts t = typed_as (expr_of ts t.expr) t.next

-- ---- operators

-- where the left operand is of the type
abbrev pub meaning_in : Ty → RustMeaning → Meaning
meaning_in ty (meaning.Computes operator) = computes operator ty
meaning_in ty (meaning.StopsEarly short) = stops_early short
meaning_in ty meaning.Joins = does operation.Join type.text
meaning_in ty (meaning.Compares comparison) = does (operation.Compare comparison) type.bool
meaning_in ty meaning.Nothing = means_nothing

-- ---- operands

abbrev pub OperandWithin : ℕ → RustOperand → Type 0
OperandWithin n (operand.Value v) = v.ty < n
OperandWithin n (operand.Open at number) = Unit {0}
OperandWithin n (operand.Type id) = id < n
OperandWithin n operand.Input = Unit {0}

abbrev pub OperandsWithin : ℕ → List RustOperand → Type 0
OperandsWithin n [] = Unit {0}
OperandsWithin n (o ∷ rest) = OperandWithin n o × OperandsWithin n rest

-- What an entry is doesn't depend on the types that it names.
abbrev pub is_sequence_in : Option TypeDef → Bool
is_sequence_in None = false
is_sequence_in (Some d) = is_sequence (meant [] d)

-- whether an operand is a value of the type with a number
abbrev pub is_of : List TypeDef → ℕ → RustOperand → Bool
is_of ds id (operand.Value v) = nat_eq id v.ty
is_of ds id (operand.Open at number) = is_sequence_in (slice_get ds id)
is_of ds id _ = false

-- whether the operands are values of the types of the parameters
abbrev pub do_fit : List TypeDef → List RustParameter → List RustOperand → Bool
do_fit ds [] [] = true
do_fit ds (p ∷ params) (o ∷ operands) = is_of ds p.ty o && do_fit ds params operands
do_fit ds _ _ = false

-- what is declared is a procedure that they fit
abbrev pub WhatFits : List TypeDef → List RustOperand → What → Type 0
WhatFits ds os (what.Procedure p) = do_fit ds p.params os ≡ true
WhatFits ds os _ = ⊥

abbrev pub DeclFits : List TypeDef → List RustOperand → Option Decl → Type 0
DeclFits ds os None = ⊥
DeclFits ds os (Some d) = WhatFits ds os d.what

-- the place of the first operand that has no type by itself, else this one
abbrev pub no_fit_at : Place → List RustOperand → Place
no_fit_at at [] = at
no_fit_at at (operand.Open p n ∷ rest) = p
no_fit_at at (_ ∷ rest) = no_fit_at at rest

-- ---- types that are added

-- made of others alone
abbrev pub IsBuilt : TypeDef → Type 0
IsBuilt (D.Seq i) = Unit {0}
IsBuilt (D.Array n i) = Unit {0}
IsBuilt (D.Tuple names is) = Unit {0}
IsBuilt _ = ⊥

-- each type has a form
abbrev pub AllFormed : List TypeDef → Type 0
AllFormed ds = (i : ℕ) → i < length ds → (f : Form) × HasForm (facts_in ds) (type_at (types_in ds) i) f

-- with some more types that are made of others
pub record Grown (old new : List TypeDef) : Type 0 where
  pub length : length old ≤ length new
  pub under : (ts : List Ty) (facts : Facts) → Under new ts facts → Under old ts facts
  pub kinds : (kinds : Kinds) → KindsIn old kinds → KindsIn new kinds
  pub formed : AllFormed old → AllFormed new

-- ---- elements

-- an array of so many elements of a type
abbrev pub array_by : Facts → ℕ → Place → ℕ → Ty → Args → Answer Expr
array_by facts n at count ty elements =
    if nat_le count MOST_ELEMENTS
    then (if is_sized facts (array count ty) then Ok (make (node n at) (array count ty) elements) else not_typed at)
    else not_typed at

-- ---- what is allowed

abbrev pub if_allowed : Bool → Code → Place → Answer (Unit {0})
if_allowed holds code at = if holds then Ok tt else refused code at

-- ---- what makes types of others

abbrev pub former_in : RustFormer → Former
former_in former.Sequences = of_sequences
former_in former.Arrays = of_arrays
former_in former.Nothing = of_nothing

-- ---- which procedure is meant

abbrev pub one_more : ℕ → Chosen → Chosen
one_more i chosen.Nothing = chosen.One i
one_more i (chosen.One j) = chosen.Several
one_more i chosen.Several = chosen.Several

-- where it is one declaration, the operands fit it
abbrev pub ChosenFits : List TypeDef → List Decl → List RustOperand → Chosen → Type 0
ChosenFits ds decls os (chosen.One i) = DeclFits ds os (slice_get decls i)
ChosenFits ds decls os _ = Unit {0}

abbrev pub fit : Procedure → List (Parameter × Valued) → Fit
fit callee arguments = record { callee = callee; arguments = arguments }

-- the declaration at a number is the only one that fits
pub record IsChosen (ts : List Ty) (ds : List Decl) (os : List Operand) (i : ℕ) (all : List Fit) : Type 0 where
  pub decl : Decl
  pub callee : RustProcedure
  pub arguments : List (Parameter × Valued)
  pub at : slice_get ds i ≡ Some decl
  pub is_procedure : decl.what ≡ what.Procedure callee
  pub fits : arguments_for (procedure_of ts callee).params os ≡ Some arguments
  pub only : all ≡ record { callee = procedure_of ts callee; arguments = arguments } ∷ []

abbrev pub Chooses : List Ty → List Decl → List Operand → Chosen → List Fit → Type 0
Chooses ts ds os chosen.Nothing all = all ≡ []
Chooses ts ds os (chosen.One i) all = IsChosen ts ds os i all
Chooses ts ds os chosen.Several all = (a : Fit) × (b : Fit) × (rest : List Fit) × (all ≡ a ∷ b ∷ rest)

-- ---- labels

-- which has a value
abbrev pub IsProper : Label → Type 0
IsProper (Ordinals low high) = int_le low high ≡ true
IsProper (Exactly s) = Unit {0}

-- ---- branches

abbrev pub branching_of : List Ty → RustBranching → Branching
branching_of ts (branching.Undecided w) = undecided (want_of ts w)
branching_of ts (branching.Decided w ty) = decided (want_of ts w) (if_type ts ty)

abbrev pub BranchingWithin : ℕ → RustBranching → Type 0
BranchingWithin n (branching.Undecided w) = Unit {0}
BranchingWithin n (branching.Decided w ty) = IsBelow n ty

-- ---- parts

abbrev pub found_of : List Ty → RustFound → Found
found_of ts f = found f.number (type_at ts f.ty)

-- the first field that has the name and can be seen, with the type at its place in the other list
abbrev pub field_from : List ℕ → (is_home : Bool) → ℕ → List FieldName → List ℕ → Option RustFound
field_from x is_home i (f ∷ fs) (p ∷ ps) =
    if same_text x (normal f.name) && (f.shown || is_home) then Some (record { number = i; ty = p }) else field_from x is_home (suc i) fs ps
field_from x is_home i _ _ = None

-- the first part with the name
abbrev pub part_from : List ℕ → ℕ → List (List ℕ) → List ℕ → Option RustFound
part_from x i (name ∷ names) (p ∷ ps) = if same_text x name then Some (record { number = i; ty = p }) else part_from x (suc i) names ps
part_from x i _ _ = None

-- ---- overlap

abbrev pub step_of : RustStep → Step
step_of (step.Field i) = field i
step_of step.Element = element

abbrev pub steps_in : RustPath → List RustStep
steps_in (P.Variable node ty place global) = []
steps_in (P.Fresh' p e) = []
steps_in (P.Field' node ty p base number) = steps_in base ++ step.Field number ∷ []
steps_in (P.Element' node ty p base q index k) = steps_in base ++ step.Element ∷ []
steps_in (P.Deref' ty p base) = steps_in base

abbrev pub are_other_fields : RustStep → RustStep → Bool
are_other_fields (step.Field i) (step.Field j) = not (nat_eq i j)
are_other_fields _ _ = false

abbrev pub differ_in : List RustStep → List RustStep → Bool
differ_in (x ∷ a) (y ∷ b) = are_other_fields x y || differ_in a b
differ_in _ _ = false

-- the paths of arguments that are passed as `var`
abbrev pub paths_of : RustArgument → List RustPath
paths_of (argument.Value e) = []
paths_of (argument.At path) = path ∷ []

abbrev pub paths_in : List RustArgument → List RustPath
paths_in [] = []
paths_in (first ∷ rest) = paths_of first ++ paths_in rest

-- ---- arguments

abbrev pub argument_of : List Ty → RustArgument → Argument
argument_of ts (argument.Value e) = by_value (expr_of ts e)
argument_of ts (argument.At path) = by_var (path_in ts path)

-- a path that is passed as `var`
abbrev pub as_var : (writable : Bool) → List Path → Place → Path → Answer Argument
as_var writable before at path = and_then (no_overlap writable (overlaps_any path before) at path) (λ p. Ok (by_var p))

-- ---- conversions

-- what is said of an object whose fields are known
abbrev pub are_fields : Option Fact → Bool
are_fields (Some (fields all own_hooks)) = true
are_fields _ = false

abbrev pub no_fit_by : Place → Operand → Place
no_fit_by at (open_sequence p n) = p
no_fit_by at _ = at

-- an operand as a value of a type
abbrev pub converts : Facts → ℕ → Place → Ty → Operand → Answer Expr
converts facts n at ty o = convert_by n at ty o (or_from (settled_as (source_of facts ty) o) (from_distinct facts ty o))

-- whether it is built in
abbrev pub HasMeaning : RustMeaning → Type 0
HasMeaning meaning.Nothing = ⊥
HasMeaning _ = Unit {0}
