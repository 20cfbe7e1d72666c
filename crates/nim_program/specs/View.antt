-- What the trees of the code stand for under a list of types, by their numbers.
use Rattle.std.specs.Prelude.{ℕ, List, [], ◌∷◌, Option, Some, None, option_map, map}
use Rattle.nim_types.specs.Types.{Ty, Facts}
use Rattle.nim_types.specs.Table.{type_at}
use Rattle.nim_program.specs.declared.expr.Label.{Label as RustLabel}
use Rattle.nim_program.specs.declared.expr.Label.TheVariants as L
use Rattle.nim_program.specs.declared.expr.Literal.{Literal as RustLiteral, Row_of-Literal, end_of-Literal, more_of-Literal}
use Rattle.nim_program.specs.declared.expr.Literal.TheVariants as V
use Rattle.nim_program.specs.declared.expr.Expr.{Expr as RustExpr}
use Rattle.nim_program.specs.declared.expr.Expr.TheVariants as E
use Rattle.nim_program.specs.declared.expr.Expr.TheBlock.{Row_of-Operand, end_of-Operand, more_of-Operand, Row_of-Choice, end_of-Choice, more_of-Choice}
use Rattle.nim_program.specs.declared.expr.Expr.TheBlock.{Row_of-Pick, end_of-Pick, more_of-Pick, Held-Expr-Case-4, None', Some'}
use Rattle.nim_program.specs.declared.expr.Path.{Path as RustPath}
use Rattle.nim_program.specs.declared.expr.Path.TheVariants as P
use Rattle.nim_program.specs.declared.expr.Operand.{Operand as RustOperand}
use Rattle.nim_program.specs.declared.expr.Operand.TheVariants as A
use Rattle.nim_program.specs.declared.expr.Choice.{Choice as RustChoice}
use Rattle.nim_program.specs.declared.expr.Pick.{Pick as RustPick}
use Rattle.nim_program.specs.declared.stmt.PlaceDecl.{PlaceDecl}
use Rattle.nim_program.specs.declared.stmt.Kind.{Kind as RustKind}
use Rattle.nim_program.specs.declared.stmt.Kind.TheVariants as K
use Rattle.nim_program.specs.declared.stmt.Stmt.{Stmt as RustStmt}
use Rattle.nim_program.specs.declared.stmt.Stmt.TheVariants as S
use Rattle.nim_program.specs.declared.stmt.Stmt.TheBlock.{Row_of-Stmt, end_of-Stmt, more_of-Stmt, Row_of-Branch, end_of-Branch, more_of-Branch}
use Rattle.nim_program.specs.declared.stmt.Stmt.TheBlock.{Row_of-CaseBranch, end_of-CaseBranch, more_of-CaseBranch}
use Rattle.nim_program.specs.declared.stmt.Stmt.TheBlock.{Row_of-Handler, end_of-Handler, more_of-Handler}
use Rattle.nim_program.specs.declared.stmt.Branch.{Branch as RustBranch}
use Rattle.nim_program.specs.declared.stmt.CaseBranch.{CaseBranch as RustCaseBranch}
use Rattle.nim_program.specs.declared.stmt.Handler.{Handler as RustHandler}
use Rattle.nim_program.specs.declared.program.Param.{Param as RustParam}
use Rattle.nim_program.specs.declared.program.Body.{Body as RustBody}
use Rattle.nim_program.specs.declared.program.Proc.{Proc as RustProc}
use Rattle.nim_program.specs.declared.program.Program.{Program as RustProgram}
use Rattle.nim_program.specs.Program as T
use Rattle.nim_program.specs.Program.{Label, Literal, Literals, Expr, Path, Args, Declared, Kind, Stmts, Blocks, Handlers, Param, Body, Proc, Program}

abbrev pub if_type : List Ty → Option ℕ → Option Ty
if_type ts None = None
if_type ts (Some i) = Some (type_at ts i)

abbrev pub label_of : RustLabel → Label
label_of (L.Ordinals low high) = T.Ordinals low high
label_of (L.Text text) = T.Exactly text

abbrev mutual
  pub literal_of : RustLiteral → Literal
  literal_of (V.Ordinal value) = T.Number value
  literal_of (V.Text text) = T.Characters text
  literal_of V.Nil = T.NoObject
  literal_of (V.Parts' p all) = T.PartsOf (literal_row all)
  literal_of (V.Elements' p all) = T.ElementsOf (literal_row all)

  pub literal_row : {m : _} → Row_of-Literal m → Literals
  literal_row end_of-Literal = T.NoLiteral
  literal_row (more_of-Literal first row) = T.ALiteral (literal_of first) (literal_row row)

abbrev pub literals_of : List RustLiteral → Literals
literals_of [] = T.NoLiteral
literals_of (first ∷ rest) = T.ALiteral (literal_of first) (literals_of rest)

-- ---- expressions

abbrev mutual
  pub expr_of : List Ty → RustExpr → Expr
  expr_of ts (E.Apply' node ty operation p operands) = T.Apply node (if_type ts ty) (T.Doing operation) (operand_row ts operands)
  expr_of ts (E.Call' node ty proc types p operands) =
      T.Apply node (if_type ts ty) (T.Calling proc (map (type_at ts) types)) (operand_row ts operands)
  expr_of ts (E.Construct' node ty fields p operands) = T.Apply node (Some (type_at ts ty)) (T.Building fields) (operand_row ts operands)
  expr_of ts (E.Constant node ty value) = T.Apply node (Some (type_at ts ty)) (T.Giving (literal_of value)) T.NoArg
  expr_of ts (E.Read path) = T.Read (path_of ts path)
  expr_of ts (E.Early' node ty short p left q right) = T.Early node (type_at ts ty) short (expr_of ts left) (expr_of ts right)
  expr_of ts (E.If' node ty p branches q otherwise) =
      T.Choose node (if_type ts ty) T.ByConditions (choice_row ts branches (T.ByValue (expr_of ts otherwise) T.NoArg))
  expr_of ts (E.Case' node ty p selector q branches otherwise) =
      T.Choose node (if_type ts ty) (T.ByLabels (label_row branches)) (operand_before ts selector (pick_row ts branches (else_of ts otherwise)))

  -- the value of `else`, where there is one
  pub else_of : List Ty → Held-Expr-Case-4 → Args
  else_of ts None' = T.NoArg
  else_of ts (Some' p value) = T.ByValue (expr_of ts value) T.NoArg

  pub path_of : List Ty → RustPath → Path
  path_of ts (P.Variable node ty place global) = T.Variable node (type_at ts ty) place global
  path_of ts (P.Fresh' p value) = T.Fresh (expr_of ts value)
  path_of ts (P.Field' node ty p base field) = T.Field node (type_at ts ty) (path_of ts base) field
  path_of ts (P.Element' node ty p base q index constant) = T.Element node (type_at ts ty) (path_of ts base) (expr_of ts index) constant
  path_of ts (P.Deref' ty p base) = T.Deref (type_at ts ty) (path_of ts base)

  -- an operand before others
  pub operand_before : List Ty → RustOperand → Args → Args
  operand_before ts (A.Value value) rest = T.ByValue (expr_of ts value) rest
  operand_before ts (A.At path) rest = T.ByPath (path_of ts path) rest

  pub operand_row : {m : _} → List Ty → Row_of-Operand m → Args
  operand_row ts end_of-Operand = T.NoArg
  operand_row ts (more_of-Operand first row) = operand_before ts first (operand_row ts row)

  -- the conditions of branches, each before its value, and then the rest
  pub choice_row : {m : _} → List Ty → Row_of-Choice m → Args → Args
  choice_row ts end_of-Choice rest = rest
  choice_row ts (more_of-Choice condition value row) rest = T.ByValue (expr_of ts condition) (T.ByValue (expr_of ts value) (choice_row ts row rest))

  pub pick_row : {m : _} → List Ty → Row_of-Pick m → Args → Args
  pick_row ts end_of-Pick rest = rest
  pick_row ts (more_of-Pick labels value row) rest = T.ByValue (expr_of ts value) (pick_row ts row rest)

  pub label_row : {m : _} → Row_of-Pick m → List (List Label)
  label_row end_of-Pick = []
  label_row (more_of-Pick labels value row) = map label_of labels ∷ label_row row

-- the same of lists

abbrev pub operands_of : List Ty → List RustOperand → Args
operands_of ts [] = T.NoArg
operands_of ts (first ∷ rest) = operand_before ts first (operands_of ts rest)

abbrev pub choices_of : List Ty → List RustChoice → Args → Args
choices_of ts [] last = last
choices_of ts (first ∷ rest) last = T.ByValue (expr_of ts first.condition) (T.ByValue (expr_of ts first.value) (choices_of ts rest last))

abbrev pub picks_of : List Ty → List RustPick → Args → Args
picks_of ts [] last = last
picks_of ts (first ∷ rest) last = T.ByValue (expr_of ts first.value) (picks_of ts rest last)

abbrev pub pick_labels : List RustPick → List (List Label)
pick_labels [] = []
pick_labels (first ∷ rest) = map label_of first.labels ∷ pick_labels rest

-- ---- statements

abbrev pub declared_of : List Ty → PlaceDecl → Declared
declared_of ts d = record { number = d.number; name = d.name; at = d.at; of = type_at ts d.ty }

-- the value where there is one
abbrev pub if_value : List Ty → Option RustExpr → Args
if_value ts None = T.NoArg
if_value ts (Some value) = T.ByValue (expr_of ts value) T.NoArg

abbrev pub kind_of : List Ty → RustKind → Kind
kind_of ts K.While = T.While
kind_of ts (K.Count variable inclusive) = T.Count (declared_of ts variable) inclusive
kind_of ts (K.Each variable) = T.Each (declared_of ts variable)

abbrev mutual
  -- a statement before what follows it in its block
  pub stmt_before : List Ty → RustStmt → Stmts → Stmts
  stmt_before ts (S.Do value) rest = T.Then (T.Do (expr_of ts value)) rest
  stmt_before ts (S.Idle node parts) rest = T.Then (T.Idle node (operands_of ts parts.items)) rest
  stmt_before ts (S.Give node back value) rest = T.Then (T.Give node back (expr_of ts value)) rest
  stmt_before ts (S.Leave node leaving parts) rest = T.Then (T.Leave node leaving (operands_of ts parts.items)) rest
  stmt_before ts (S.Declare node place cursor value) rest = T.Declare node (declared_of ts place) cursor (if_value ts value) rest
  stmt_before ts (S.If' node p branches q otherwise) rest =
      T.Then (T.Select node T.ByConditions (condition_blocks ts branches) (branch_row ts branches (stmt_row ts otherwise))) rest
  stmt_before ts (S.Case' node selector p branches q otherwise) rest =
      T.Then
      (T.Select node (T.ByLabels (case_labels branches)) (operand_before ts selector T.NoArg) (case_row ts branches (stmt_row ts otherwise)))
      rest
  stmt_before ts (S.Loop' node kind head p body) rest = T.Then (T.Loop node (kind_of ts kind) (operands_of ts head.items) (stmt_row ts body)) rest
  stmt_before ts (S.Raise node exception message) rest = T.Then (T.Raise node (if_type ts exception) (if_value ts message)) rest
  stmt_before ts (S.Try' node p body q handlers r last) rest =
      T.Then (T.Try node (stmt_row ts body) (handler_row ts handlers) (stmt_row ts last)) rest
  stmt_before ts (S.Defer' node p last) rest = T.Defer node (stmt_row ts last) rest

  pub stmt_row : {m : _} → List Ty → Row_of-Stmt m → Stmts
  stmt_row ts end_of-Stmt = T.Empty
  stmt_row ts (more_of-Stmt first row) = stmt_before ts first (stmt_row ts row)

  pub condition_blocks : {m : _} → List Ty → Row_of-Branch m → Args
  condition_blocks ts end_of-Branch = T.NoArg
  condition_blocks ts (more_of-Branch condition p body row) = T.ByValue (expr_of ts condition) (condition_blocks ts row)

  -- the blocks of branches before the one for all else
  pub branch_row : {m : _} → List Ty → Row_of-Branch m → Stmts → Blocks
  branch_row ts end_of-Branch otherwise = T.Otherwise otherwise
  branch_row ts (more_of-Branch condition p body row) otherwise = T.Block (stmt_row ts body) (branch_row ts row otherwise)

  pub case_row : {m : _} → List Ty → Row_of-CaseBranch m → Stmts → Blocks
  case_row ts end_of-CaseBranch otherwise = T.Otherwise otherwise
  case_row ts (more_of-CaseBranch labels p body row) otherwise = T.Block (stmt_row ts body) (case_row ts row otherwise)

  pub case_labels : {m : _} → Row_of-CaseBranch m → List (List Label)
  case_labels end_of-CaseBranch = []
  case_labels (more_of-CaseBranch labels p body row) = map label_of labels ∷ case_labels row

  pub handler_row : {m : _} → List Ty → Row_of-Handler m → Handlers
  handler_row ts end_of-Handler = T.NoHandler
  handler_row ts (more_of-Handler types name p body row) =
      T.Handler (map (type_at ts) types) (option_map (declared_of ts) name) (stmt_row ts body) (handler_row ts row)

-- the same of lists

abbrev pub stmts_of : List Ty → List RustStmt → Stmts
stmts_of ts [] = T.Empty
stmts_of ts (first ∷ rest) = stmt_before ts first (stmts_of ts rest)

abbrev pub branch_conditions : List Ty → List RustBranch → Args
branch_conditions ts [] = T.NoArg
branch_conditions ts (first ∷ rest) = T.ByValue (expr_of ts first.condition) (branch_conditions ts rest)

abbrev pub branch_blocks : List Ty → List RustBranch → Stmts → Blocks
branch_blocks ts [] otherwise = T.Otherwise otherwise
branch_blocks ts (first ∷ rest) otherwise = T.Block (stmts_of ts first.body.items) (branch_blocks ts rest otherwise)

abbrev pub case_blocks : List Ty → List RustCaseBranch → Stmts → Blocks
case_blocks ts [] otherwise = T.Otherwise otherwise
case_blocks ts (first ∷ rest) otherwise = T.Block (stmts_of ts first.body.items) (case_blocks ts rest otherwise)

abbrev pub branch_labels : List RustCaseBranch → List (List Label)
branch_labels [] = []
branch_labels (first ∷ rest) = map label_of first.labels ∷ branch_labels rest

abbrev pub handlers_of : List Ty → List RustHandler → Handlers
handlers_of ts [] = T.NoHandler
handlers_of ts (first ∷ rest) =
    T.Handler (map (type_at ts) first.types) (option_map (declared_of ts) first.name) (stmts_of ts first.body.items) (handlers_of ts rest)

abbrev pub param_of : List Ty → RustParam → Param
param_of ts p = record { place = declared_of ts p.place; mode = p.mode }

abbrev pub body_of : List Ty → RustBody → Body
body_of ts b = record {
  first = b.first;
  places = b.places;
  before = b.before;
  result = option_map (declared_of ts) b.result;
  stmts = stmts_of ts b.stmts.items;
}

abbrev pub proc_of : List Ty → RustProc → Proc
proc_of ts p = record {
  name = p.name;
  at = p.at;
  type_params = p.type_params;
  params = map (param_of ts) p.params;
  gives = if_type ts p.gives;
  body = option_map (body_of ts) p.body;
  hook = p.hook;
}

-- a program over the types and facts of its table
abbrev pub program_under : List Ty → Facts → RustProgram → Program
program_under ts facts p = record {
  types = ts;
  facts = facts;
  procs = map (proc_of ts) p.procs.items;
  globals = map (declared_of ts) p.globals;
  start = body_of ts p.start;
}
