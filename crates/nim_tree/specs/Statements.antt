-- Statements, without where they lie in memory.
use Rattle.std.specs.Prelude.{ℕ, suc, ◌+◌, max, List, [], ◌∷◌, ◌++◌, map, length, Option, option_map}
use Rattle.arc_base.specs.declared.place.Place.{Place}
use Rattle.nim_tree.specs.declared.name.Name.{Name}
use Rattle.nim_tree.specs.declared.name.Declared.{Declared}
use Rattle.nim_tree.specs.declared.name.Pragma.{Pragma}
use Rattle.nim_tree.specs.declared.stmt.AssignOp.{AssignOp}
use Rattle.nim_tree.specs.declared.stmt.Binding.{Binding}
use Rattle.nim_tree.specs.declared.stmt.ParamMode.{ParamMode}
use Rattle.nim_tree.specs.declared.stmt.Def.{Def}
use Rattle.nim_tree.specs.declared.stmt.Param.{Param}
use Rattle.nim_tree.specs.declared.stmt.ProcHead.{ProcHead}
use Rattle.nim_tree.specs.declared.stmt.Over.{Over}
use Rattle.nim_tree.specs.declared.stmt.Over.TheVariants as O
use Rattle.nim_tree.specs.declared.stmt.Branch.{Branch}
use Rattle.nim_tree.specs.declared.stmt.Handler.{Handler}
use Rattle.nim_tree.specs.declared.stmt.Import.{Import}
use Rattle.nim_tree.specs.declared.stmt.Module.{Module}
use Rattle.nim_tree.specs.declared.stmt.Stmt.{Stmt}
use Rattle.nim_tree.specs.declared.stmt.Stmt.TheBlock.{Row_of-Stmt, end_of-Stmt, more_of-Stmt, Row_of-Branch, end_of-Branch, more_of-Branch, Row_of-Handler}
use Rattle.nim_tree.specs.declared.stmt.Stmt.TheBlock.{end_of-Handler, more_of-Handler}
use Rattle.nim_tree.specs.declared.stmt.Stmt.TheVariants as S
use Rattle.nim_tree.specs.Lists.{highest, total, if_there, one}
use Rattle.nim_tree.specs.Terms.{Term, Parts, term_of, parts_of, levels, most_levels, nodes, nodes_in}
use Rattle.nim_tree.specs.Types.{Written, Declaration, written_of, declaration_of, type_levels as written_levels, declaration_levels, type_nodes}
use Rattle.nim_tree.specs.Types.{declaration_nodes}

-- names with one type and one value
pub record Definition : Type 0 where
  pub names : List Declared
  pub pragmas : List Pragma
  pub annotation : Option Written
  pub value : Option Term

-- parameters of one type
pub record Parameters : Type 0 where
  pub names : List Name
  pub mode : ParamMode
  pub of : Written

-- a procedure, but for its body
pub record Head : Type 0 where
  pub name : Declared
  pub generics : List Name
  pub params : List Parameters
  pub gives : Option Written
  pub pragmas : List Pragma

-- what a `for` goes over
pub data Course : Type 0 where
  each : Term → Course
  up_to : (first last : Term) → Course
  below : (first end : Term) → Course

mutual
  -- a statement, with the place of its first token
  pub data Statement : Type 0 where
    discards : Place → Option Term → Statement
    returns : Place → Option Term → Statement
    raises : Place → Option Term → Statement
    breaks : Place → Statement
    continues : Place → Statement
    imports : Place → List Name → Statement
    evaluates : Place → Term → Statement
    assigns : Place → AssignOp → (target value : Term) → Statement
    commands : Place → (callee : Term) → (operands : Parts) → Statement
    defines : Place → Binding → List Definition → Statement
    types : Place → List Declaration → Statement
    branches : Place → Branches → (otherwise : Statements) → Statement
    selects : Place → (selector : Term) → Branches → (otherwise : Statements) → Statement
    repeats : Place → (condition : Term) → (body : Statements) → Statement
    counts : Place → (variable : Name) → Course → (body : Statements) → Statement
    tries : Place → (body : Statements) → Handlers → (finally : Statements) → Statement
    defers : Place → (body : Statements) → Statement
    proclaims : Place → Head → (body : Statements) → Statement

  -- statements, one after another
  pub data Statements : Type 0 where
    empty : Statements
    then : (first : Statement) (rest : Statements) → Statements

  -- the branches of an `if` or `case`: a place, a condition or labels, and a block
  pub data Branches : Type 0 where
    no_branches : Branches
    branch : Place → (tests : Parts) → (body : Statements) → (rest : Branches) → Branches

  -- the handlers of a `try`: a place, exception types, the name behind `as`, and a block
  pub data Handlers : Type 0 where
    no_handlers : Handlers
    handler : Place → (names : List Name) → (binding : Option Name) → (body : Statements) → (rest : Handlers) → Handlers

-- with one more branch behind
abbrev pub and_branch : Branches → Place → Parts → Statements → Branches
and_branch no_branches at tests body = branch at tests body no_branches
and_branch (branch p first block rest) at tests body = branch p first block (and_branch rest at tests body)

-- with one more handler behind
abbrev pub and_handler : Handlers → Place → List Name → Option Name → Statements → Handlers
and_handler no_handlers at names binding body = handler at names binding body no_handlers
and_handler (handler p first b block rest) at names binding body = handler p first b block (and_handler rest at names binding body)

-- with one more statement behind
abbrev pub and_statement : Statements → Statement → Statements
and_statement empty s = then s empty
and_statement (then first rest) s = then first (and_statement rest s)

abbrev pub import_of : Name → Import
import_of name = record { at = name.at; text = name.text }

abbrev pub imports_of : Statement → List Import
imports_of (imports at names) = map import_of names
imports_of _ = []

-- the modules that they import themselves, in order
abbrev pub imports_in : Statements → List Import
imports_in empty = []
imports_in (then first rest) = imports_of first ++ imports_in rest

-- its block, where that isn't in a branch
abbrev pub body_in : Statement → Statements
body_in (repeats at condition body) = body
body_in (counts at variable course body) = body
body_in (tries at body all finally) = body
body_in (defers at body) = body
body_in (proclaims at head body) = body
body_in _ = empty

-- the block of `else` or `finally`
abbrev pub closing_in : Statement → Statements
closing_in (branches at all otherwise) = otherwise
closing_in (selects at selector all otherwise) = otherwise
closing_in (tries at body all finally) = finally
closing_in _ = empty

-- the branches of an `if` or `case`
abbrev pub branches_in : Statement → Branches
branches_in (branches at all otherwise) = all
branches_in (selects at selector all otherwise) = all
branches_in _ = no_branches

-- the handlers of a `try`
abbrev pub handlers_in : Statement → Handlers
handlers_in (tries at body all finally) = all
handlers_in _ = no_handlers

-- ---- how deep they are

abbrev mutual
  -- the most blocks of a statement that stand inside one another: one more than in the highest of its blocks, and none
  -- where it has no block
  pub block_levels_of : Statement → ℕ
  block_levels_of (discards at value) = 0
  block_levels_of (returns at value) = 0
  block_levels_of (raises at value) = 0
  block_levels_of (breaks at) = 0
  block_levels_of (continues at) = 0
  block_levels_of (imports at names) = 0
  block_levels_of (evaluates at value) = 0
  block_levels_of (assigns at op target value) = 0
  block_levels_of (commands at callee operands) = 0
  block_levels_of (defines at binding definitions) = 0
  block_levels_of (types at declarations) = 0
  block_levels_of (branches at all otherwise) = suc (max (branch_block_levels all) (block_levels otherwise))
  block_levels_of (selects at selector all otherwise) = suc (max (branch_block_levels all) (block_levels otherwise))
  block_levels_of (repeats at condition body) = suc (block_levels body)
  block_levels_of (counts at variable course body) = suc (block_levels body)
  block_levels_of (tries at body all finally) = suc (max (max (block_levels body) (handler_block_levels all)) (block_levels finally))
  block_levels_of (defers at body) = suc (block_levels body)
  block_levels_of (proclaims at head body) = levels_if_block body

  -- those of the highest statement
  pub block_levels : Statements → ℕ
  block_levels empty = 0
  block_levels (then first rest) = max (block_levels_of first) (block_levels rest)

  -- one more than in a block, and none where it isn't there
  pub levels_if_block : Statements → ℕ
  levels_if_block empty = 0
  levels_if_block (then first rest) = suc (max (block_levels_of first) (block_levels rest))

  -- those of the highest statement in a branch
  pub branch_block_levels : Branches → ℕ
  branch_block_levels no_branches = 0
  branch_block_levels (branch at tests body rest) = max (block_levels body) (branch_block_levels rest)

  -- those of the highest statement in a handler
  pub handler_block_levels : Handlers → ℕ
  handler_block_levels no_handlers = 0
  handler_block_levels (handler at names binding body rest) = max (block_levels body) (handler_block_levels rest)

abbrev pub definition_term_levels : Definition → ℕ
definition_term_levels d = if_there levels d.value

abbrev pub course_term_levels : Course → ℕ
course_term_levels (each value) = levels value
course_term_levels (up_to first last) = max (levels first) (levels last)
course_term_levels (below first end) = max (levels first) (levels end)

abbrev mutual
  -- the most levels of an expression in a statement, where each value, target, callee, operand, condition, selector, label and
  -- end of a course is an expression of its own; the length of an array is a part of its type
  pub term_levels_of : Statement → ℕ
  term_levels_of (discards at value) = if_there levels value
  term_levels_of (returns at value) = if_there levels value
  term_levels_of (raises at value) = if_there levels value
  term_levels_of (breaks at) = 0
  term_levels_of (continues at) = 0
  term_levels_of (imports at names) = 0
  term_levels_of (evaluates at value) = levels value
  term_levels_of (assigns at op target value) = max (levels target) (levels value)
  term_levels_of (commands at callee operands) = max (levels callee) (most_levels operands)
  term_levels_of (defines at binding definitions) = highest definition_term_levels definitions
  term_levels_of (types at declarations) = 0
  term_levels_of (branches at all otherwise) = max (branch_term_levels all) (term_levels otherwise)
  term_levels_of (selects at selector all otherwise) = max (levels selector) (max (branch_term_levels all) (term_levels otherwise))
  term_levels_of (repeats at condition body) = max (levels condition) (term_levels body)
  term_levels_of (counts at variable course body) = max (course_term_levels course) (term_levels body)
  term_levels_of (tries at body all finally) = max (max (term_levels body) (handler_term_levels all)) (term_levels finally)
  term_levels_of (defers at body) = term_levels body
  term_levels_of (proclaims at head body) = term_levels body

  -- those of the highest statement
  pub term_levels : Statements → ℕ
  term_levels empty = 0
  term_levels (then first rest) = max (term_levels_of first) (term_levels rest)

  pub branch_term_levels : Branches → ℕ
  branch_term_levels no_branches = 0
  branch_term_levels (branch at tests body rest) = max (max (most_levels tests) (term_levels body)) (branch_term_levels rest)

  pub handler_term_levels : Handlers → ℕ
  handler_term_levels no_handlers = 0
  handler_term_levels (handler at names binding body rest) = max (term_levels body) (handler_term_levels rest)

abbrev pub definition_type_levels : Definition → ℕ
definition_type_levels d = if_there written_levels d.annotation

abbrev pub parameter_type_levels : Parameters → ℕ
parameter_type_levels p = written_levels p.of

abbrev pub head_type_levels : Head → ℕ
head_type_levels h = max (highest parameter_type_levels h.params) (if_there written_levels h.gives)

-- those of its written type and of its value
abbrev pub definition_levels : Definition → ℕ
definition_levels d = max (definition_type_levels d) (definition_term_levels d)

abbrev mutual
  -- the most levels of a written type in a statement
  pub type_levels_of : Statement → ℕ
  type_levels_of (discards at value) = 0
  type_levels_of (returns at value) = 0
  type_levels_of (raises at value) = 0
  type_levels_of (breaks at) = 0
  type_levels_of (continues at) = 0
  type_levels_of (imports at names) = 0
  type_levels_of (evaluates at value) = 0
  type_levels_of (assigns at op target value) = 0
  type_levels_of (commands at callee operands) = 0
  type_levels_of (defines at binding definitions) = highest definition_type_levels definitions
  type_levels_of (types at declarations) = highest declaration_levels declarations
  type_levels_of (branches at all otherwise) = max (branch_type_levels all) (type_levels otherwise)
  type_levels_of (selects at selector all otherwise) = max (branch_type_levels all) (type_levels otherwise)
  type_levels_of (repeats at condition body) = type_levels body
  type_levels_of (counts at variable course body) = type_levels body
  type_levels_of (tries at body all finally) = max (max (type_levels body) (handler_type_levels all)) (type_levels finally)
  type_levels_of (defers at body) = type_levels body
  type_levels_of (proclaims at head body) = max (head_type_levels head) (type_levels body)

  -- those of the highest statement
  pub type_levels : Statements → ℕ
  type_levels empty = 0
  type_levels (then first rest) = max (type_levels_of first) (type_levels rest)

  pub branch_type_levels : Branches → ℕ
  branch_type_levels no_branches = 0
  branch_type_levels (branch at tests body rest) = max (type_levels body) (branch_type_levels rest)

  pub handler_type_levels : Handlers → ℕ
  handler_type_levels no_handlers = 0
  handler_type_levels (handler at names binding body rest) = max (type_levels body) (handler_type_levels rest)

-- ---- how large they are

-- each name and pragma, the type, and the value
abbrev pub definition_nodes : Definition → ℕ
definition_nodes d = length d.names + length d.pragmas + if_there type_nodes d.annotation + if_there nodes d.value

abbrev pub parameter_nodes : Parameters → ℕ
parameter_nodes p = length p.names + type_nodes p.of

-- its name, each type parameter, parameter and pragma, and the type of what it gives
abbrev pub head_nodes : Head → ℕ
head_nodes h = suc (length h.generics + total parameter_nodes h.params + if_there type_nodes h.gives + length h.pragmas)

abbrev pub course_nodes : Course → ℕ
course_nodes (each value) = nodes value
course_nodes (up_to first last) = nodes first + nodes last
course_nodes (below first end) = nodes first + nodes end

abbrev mutual
  -- what has a place of its own in a statement: itself, its branches, handlers, expressions, types, names and pragmas, and
  -- the statements of its blocks
  pub nodes_of : Statement → ℕ
  nodes_of (discards at value) = suc (if_there nodes value)
  nodes_of (returns at value) = suc (if_there nodes value)
  nodes_of (raises at value) = suc (if_there nodes value)
  nodes_of (breaks at) = 1
  nodes_of (continues at) = 1
  nodes_of (imports at names) = suc (length names)
  nodes_of (evaluates at value) = suc (nodes value)
  nodes_of (assigns at op target value) = suc (nodes target + nodes value)
  nodes_of (commands at callee operands) = suc (nodes callee + nodes_in operands)
  nodes_of (defines at binding definitions) = suc (total definition_nodes definitions)
  nodes_of (types at declarations) = suc (total declaration_nodes declarations)
  nodes_of (branches at all otherwise) = suc (branch_nodes all + all_nodes otherwise)
  nodes_of (selects at selector all otherwise) = suc (nodes selector + branch_nodes all + all_nodes otherwise)
  nodes_of (repeats at condition body) = suc (nodes condition + all_nodes body)
  -- the variable is one
  nodes_of (counts at variable course body) = suc (suc (course_nodes course + all_nodes body))
  nodes_of (tries at body all finally) = suc (all_nodes body + handler_nodes all + all_nodes finally)
  nodes_of (defers at body) = suc (all_nodes body)
  nodes_of (proclaims at head body) = suc (head_nodes head + all_nodes body)

  pub all_nodes : Statements → ℕ
  all_nodes empty = 0
  all_nodes (then first rest) = nodes_of first + all_nodes rest

  pub branch_nodes : Branches → ℕ
  branch_nodes no_branches = 0
  branch_nodes (branch at tests body rest) = suc (nodes_in tests + all_nodes body) + branch_nodes rest

  -- each exception type and the name behind `as` too
  pub handler_nodes : Handlers → ℕ
  handler_nodes no_handlers = 0
  handler_nodes (handler at names binding body rest) = suc (length names + if_there one binding + all_nodes body) + handler_nodes rest

-- ---- the trees of the parser

abbrev pub definition_of : Def → Definition
definition_of d = record {
  names = d.names.items;
  pragmas = d.pragmas.items;
  annotation = option_map written_of d.annotation;
  value = option_map term_of d.value;
}

abbrev pub parameters_of : Param → Parameters
parameters_of p = record { names = p.names.items; mode = p.mode; of = written_of p.of }

abbrev pub head_of : ProcHead → Head
head_of h = record {
  name = h.name;
  generics = h.generics.items;
  params = map parameters_of h.params.items;
  gives = option_map written_of h.gives;
  pragmas = h.pragmas.items;
}

abbrev pub course_of : Over → Course
course_of (O.Each value) = each (term_of value)
course_of (O.UpTo first last) = up_to (term_of first) (term_of last)
course_of (O.Below first end) = below (term_of first) (term_of end)

abbrev mutual
  -- the statement without where it lies in memory
  pub statement_of : Stmt → Statement
  statement_of (S.Discard at value) = discards at (option_map term_of value)
  statement_of (S.Return at value) = returns at (option_map term_of value)
  statement_of (S.Raise at value) = raises at (option_map term_of value)
  statement_of (S.Break at) = breaks at
  statement_of (S.Continue at) = continues at
  statement_of (S.Import at names) = imports at names.items
  statement_of (S.Eval at value) = evaluates at (term_of value)
  statement_of (S.Assign at op target value) = assigns at op (term_of target) (term_of value)
  statement_of (S.Command at callee operands) = commands at (term_of callee) (parts_of operands.items)
  statement_of (S.Define at binding defs) = defines at binding (map definition_of defs.items)
  statement_of (S.Types at defs) = types at (map declaration_of defs.items)
  statement_of (S.If' at p all q otherwise) = branches at (branch_row all) (row_of otherwise)
  statement_of (S.Case' at selector p all q otherwise) = selects at (term_of selector) (branch_row all) (row_of otherwise)
  statement_of (S.While' at condition p body) = repeats at (term_of condition) (row_of body)
  statement_of (S.For' at variable over p body) = counts at variable (course_of over) (row_of body)
  statement_of (S.Try' at p body q all r finally) = tries at (row_of body) (handler_row all) (row_of finally)
  statement_of (S.Defer' at p body) = defers at (row_of body)
  statement_of (S.Proc' at head p body) = proclaims at (head_of head) (row_of body)

  -- the statements of a block, as a `Stmt` of the code holds them
  pub row_of : {m : _} → Row_of-Stmt m → Statements
  row_of end_of-Stmt = empty
  row_of (more_of-Stmt first row) = then (statement_of first) (row_of row)

  -- the branches, as a `Stmt` of the code holds them
  pub branch_row : {m : _} → Row_of-Branch m → Branches
  branch_row end_of-Branch = no_branches
  branch_row (more_of-Branch at tests p body row) = branch at (parts_of tests.items) (row_of body) (branch_row row)

  -- the handlers, as a `Stmt` of the code holds them
  pub handler_row : {m : _} → Row_of-Handler m → Handlers
  handler_row end_of-Handler = no_handlers
  handler_row (more_of-Handler at names binding p body row) = handler at names.items binding (row_of body) (handler_row row)

-- of a list of statements
abbrev pub statements_of : List Stmt → Statements
statements_of [] = empty
statements_of (first ∷ rest) = then (statement_of first) (statements_of rest)

-- of a list of branches
abbrev pub branches_of : List Branch → Branches
branches_of [] = no_branches
branches_of (first ∷ rest) = branch first.at (parts_of first.tests.items) (statements_of first.body.items) (branches_of rest)

-- of a list of handlers
abbrev pub handlers_of : List Handler → Handlers
handlers_of [] = no_handlers
handlers_of (first ∷ rest) = handler first.at first.types.items first.binding (statements_of first.body.items) (handlers_of rest)

abbrev pub tree_of : Module → Statements
tree_of tree = statements_of tree.body.items
