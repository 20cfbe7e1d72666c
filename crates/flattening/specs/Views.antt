-- What the code's own types stand for, and the lines of single parts. It serves proofs alone: the promise of `flatten` doesn't speak of it.
use Rattle.std.specs.Prelude.{◌≡◌, ℕ, ◌+◌, Bool, true, false, ◌&&◌, if◌then◌else◌, [], List, ◌∷◌, ◌++◌, Option, map, option_map}
use Rattle.nim_types.specs.Types.{Ty, Facts}
use Rattle.nim_types.specs.Table.{types_in, facts_in}
use Rattle.nim_program.specs.declared.operation.Use.{Use}
use Rattle.nim_program.specs.declared.operation.Use.TheVariants.{Owned, Looked}
use Rattle.nim_program.specs.declared.program.Mode.{Mode}
use Rattle.nim_program.specs.declared.stmt.Stmt.{Stmt as RustStmt}
use Rattle.nim_program.specs.declared.stmt.Stmt.TheVariants as S
use Rattle.nim_program.specs.Program.{Declared, Param, Act, Doing, Building, Calling, Expr, Apply, Read, Early, Choose, ByConditions, ByLabels, Path}
use Rattle.nim_program.specs.Program.{node_of, type_of, node_at, type_at, constant_in, Args, NoArg, ByValue, ByPath}
use Rattle.nim_program.specs.Folds.{if_constant}
use Rattle.nim_program.specs.Uses.{use_by, use_for, use_of}
use Rattle.nim_program.specs.declared.expr.Operand.{Operand as RustOperand}
use Rattle.nim_program.specs.View.{proc_of, declared_of, operands_of}
use Rattle.nim_meaning.specs.Here.{is_hooked}
use Rattle.nim_meaning.specs.Shapes.{modes_in, is_last_value, is_read, waits, waits_from}
use Rattle.nim_meaning.specs.Waiting.{Wait, own_wait, reads_kept, waiting, waiting_at, waiting_all, waiting_first}
use Rattle.flat_code.specs.declared.line.From.{From}
use Rattle.flat_code.specs.declared.line.UseAt.{UseAt}
use Rattle.flat_code.specs.declared.line.Owning.{Owning}
use Rattle.flat_code.specs.declared.line.Owning.TheVariants as W
use Rattle.flat_code.specs.declared.line.Line.{Line}
use Rattle.flat_code.specs.declared.line.Line.TheVariants as L
use Rattle.flattening.specs.declared.around.Around.{Around}
use Rattle.flattening.specs.declared.around.Uses.{Uses}
use Rattle.flattening.specs.declared.around.Uses.TheVariants.{All, Of, OfParams}
use Rattle.flattening.specs.Numbering.{type_number, number_or, if_number, width, width_at, label}
use Rattle.flattening.specs.ExprLines.{use_at, froms, lines, arm_lines, branch_use, branch_ends, handed_on}

abbrev pub types_of : Around → List Ty
types_of a = types_in a.types.now

abbrev pub facts_of : Around → Facts
facts_of a = facts_in a.types.now

abbrev pub modes_of : Around → (proc position : ℕ) → Mode
modes_of a = modes_in a.sinks.now (map (proc_of (types_of a)) a.procs.now.items)

abbrev pub result_of : Around → Option Declared
result_of a = option_map (declared_of (types_of a)) a.result.now

abbrev pub uses_of : (modes : (proc position : ℕ) → Mode) → Uses → (position : ℕ) → Use
uses_of modes (All how) i = how
uses_of modes (Of operation) i = use_by operation
uses_of modes (OfParams proc) i = use_for (modes proc i)

-- an act of which operands have these uses, as far as how they are handed on goes
abbrev pub act_of : Uses → Act
act_of (All how) = Building []
act_of (Of operation) = Doing operation
act_of (OfParams proc) = Calling proc []

-- behind the first of operands whose numbers begin with t
abbrev pub behind : Args → (t : ℕ) → ℕ
behind NoArg t = t
behind (ByValue value rest) t = t + width value
behind (ByPath path rest) t = t + width_at path

-- where operands come from, whose numbers begin with t
abbrev pub sources : Around → Uses → List RustOperand → (t : ℕ) → List From
sources a uses operands t = froms (facts_of a) (act_of uses) (operands_of (types_of a) operands) (uses_of (modes_of a) uses) 0 t

-- ---- what ends, in one list, the outermost first

-- a line for each, the last one first
abbrev pub own_lines : List Owning → List Line → List Line
own_lines [] k = k
own_lines (e ∷ es) k = own_lines es (L.Own e [] ∷ k)

-- of temporaries
abbrev pub waits_own : List Ty → List Wait → List Owning
waits_own types [] = []
waits_own types (w ∷ ws) = W.TemporaryEnds w.node (number_or types w.of) ∷ waits_own types ws

-- of a place that has hooks, and of parameters
abbrev pub place_owns : List Ty → Facts → Declared → List Owning
place_owns types facts place = if is_hooked facts place.of then W.PlaceEnds place.number (type_number types place.of) ∷ [] else []

abbrev pub params_own : List Ty → Facts → List Param → List Owning
params_own types facts [] = []
params_own types facts (param ∷ params) = place_owns types facts param.place ++ params_own types facts params

-- the value at a path that has been looked up
abbrev pub get_line : List Ty → Path → Use → (t from : ℕ) → Line
get_line types path how t from = L.Get t from (use_at how (node_at path).number) (if_number types (type_at path))

module _ (types : List Ty) (facts : Facts) (modes : (proc position : ℕ) → Mode) where
  -- the value of a branch, which becomes that of the whole
  abbrev pub branch_lines : Expr → Option Ty → UseAt → (t from : ℕ) → List Line → List Line
  branch_lines value ty how t from k =
      lines types facts modes value (branch_use types facts modes value) from
      (branch_ends types facts modes value (handed_on types facts modes t from how ty ∷ k))

  -- what is done for a value that a path begins with
  abbrev pub fresh_lines : Expr → (t : ℕ) → List Line → List Line
  fresh_lines value t k = if_constant (constant_in value) k (lines types facts modes value Looked t k)

  -- what is done where no label fits
  abbrev pub other_lines : (covered : Bool) → Args → Option Ty → UseAt → (t u : ℕ) → List Line → List Line
  other_lines covered last ty how t u k = arm_lines types facts modes covered [] last ty how t u k

-- ---- what waits

-- whether the value of the node itself waits, if it has hooks
abbrev pub keeps : Expr → Use → Bool
keeps (Apply node ty act operands) how = waits_from act how
keeps (Read path) how = is_read (Read path) && reads_kept how
keeps (Early node ty short left right) how = false
keeps (Choose node ty chooser parts) how = waits how

module _ (facts : Facts) (modes : (proc position : ℕ) → Mode) where
  abbrev pub own_waits : Expr → Use → List Wait
  own_waits value how = own_wait facts modes (keeps value how) (node_of value).number (type_of value)

  -- in its parts
  abbrev pub inside_waits : Expr → List Wait
  inside_waits (Apply node ty act operands) = waiting_all facts modes operands (use_of modes act) 0
  inside_waits (Read path) = waiting_at facts modes path
  inside_waits (Early node ty short left right) = waiting facts modes left Owned ++ waiting facts modes right Owned
  inside_waits (Choose node ty ByConditions parts) = []
  inside_waits (Choose node ty (ByLabels labels) parts) = waiting_first facts modes parts

-- ---- the branches of a `case`, of which the last one may be for all else

-- what follows the values of branches, where they are closed by their last one if nothing does
abbrev pub ArmsLast : (covered closes : Bool) → Type 0
ArmsLast covered closes = (last : Args) × (closes ≡ (covered && is_last_value last))

-- ---- blocks

abbrev pub is_defer : RustStmt → Bool
is_defer (S.Defer' node p last) = true
is_defer _ = false
