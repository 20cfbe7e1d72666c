-- Syntax trees as they are read: an int and a char are values of their types, each branch of a `case` has a label, a definition has a name, a
-- block isn't empty, and an enum has members with names, whose number is an int.
use Rattle.std.specs.Prelude.{◌≡◌, pos, Bool, true, false, List, [], ◌∷◌, length, codes, Option, Some, None}
use Rattle.indent_scanner.specs.Words.{normal}
use Rattle.nim_tree.specs.declared.name.Declared.{Declared}
use Rattle.nim_tree.specs.Terms as term
use Rattle.nim_tree.specs.Terms.{Term, Parts, no_parts, part, Choices, no_choices, choice}
use Rattle.nim_tree.specs.Statements.{Definition, Course, each, up_to, below, Statement, discards, returns, raises, breaks, continues, imports, evaluates}
use Rattle.nim_tree.specs.Statements.{assigns, commands, defines, types, branches, selects, repeats, counts, tries, defers, proclaims, Statements, empty, then}
use Rattle.nim_tree.specs.Statements.{Branches, no_branches, branch, Handlers, no_handlers, handler}
use Rattle.nim_tree.specs.Types as written
use Rattle.nim_tree.specs.Types.{Body, Declaration}
use Rattle.nim_types.specs.Types.{same_text}
use Rattle.nim_program.specs.Ints.{fits}
use Rattle.decl_rules.specs.Elaborated.{Module}
use Rattle.decl_rules.specs.Sections.{texts_of}
use Rattle.typing_laws.specs.Sound.{are_members}
use Rattle.nim_program.specs.Kinds as kind
use Rattle.nim_program.specs.Kinds.{is_value}

abbrev pub has_part : Parts → Bool
has_part no_parts = false
has_part (part first rest) = true

abbrev mutual
  pub IsRead : Term → Type 0
  IsRead (term.int at z) = is_value kind.int z ≡ true
  IsRead (term.char at c) = is_value kind.char (pos c) ≡ true
  IsRead (term.text at bytes) = Unit {0}
  IsRead (term.name at x) = Unit {0}
  IsRead (term.quoted at x) = Unit {0}
  IsRead (term.nil at) = Unit {0}
  IsRead (term.paren at a) = IsRead a
  IsRead (term.tuple at inside) = AreRead inside
  IsRead (term.array at inside) = AreRead inside
  IsRead (term.sequence at inside) = AreRead inside
  IsRead (term.construct at x inside) = AreRead inside
  IsRead (term.named at x a) = IsRead a
  IsRead (term.field at a x) = IsRead a
  IsRead (term.call at a inside) = IsRead a × AreRead inside
  IsRead (term.index at a inside) = IsRead a × AreRead inside
  IsRead (term.unary at op a) = IsRead a
  IsRead (term.binary at op a b) = IsRead a × IsRead b
  IsRead (term.if_term at all a) = ChoicesRead all × IsRead a
  IsRead (term.case_term at a all) = IsRead a × ChoicesRead all
  IsRead (term.case_else at a all b) = IsRead a × (ChoicesRead all × IsRead b)
  IsRead (term.range at a b) = IsRead a × IsRead b

  pub AreRead : Parts → Type 0
  AreRead no_parts = Unit {0}
  AreRead (part first rest) = IsRead first × AreRead rest

  pub ChoicesRead : Choices → Type 0
  ChoicesRead no_choices = Unit {0}
  ChoicesRead (choice at tests value rest) = ((has_part tests ≡ true) × AreRead tests) × (IsRead value × ChoicesRead rest)

-- ---- statements

abbrev pub has_some : Statements → Bool
has_some empty = false
has_some (then first rest) = true

abbrev pub has_name : {A : Type 0} → List A → Bool
has_name [] = false
has_name (first ∷ rest) = true

abbrev pub IfRead : Option Term → Type 0
IfRead None = Unit {0}
IfRead (Some t) = IsRead t

abbrev pub DefinitionsRead : List Definition → Type 0
DefinitionsRead [] = Unit {0}
DefinitionsRead (d ∷ rest) = ((has_name d.names ≡ true) × IfRead d.value) × DefinitionsRead rest

abbrev pub BodyRead : Body → Type 0
BodyRead (written.enum at names) = (are_members (texts_of names) ≡ true) × (fits (pos (length names)) ≡ true)
BodyRead of = Unit {0}

abbrev pub TypesRead : List Declaration → Type 0
TypesRead [] = Unit {0}
TypesRead (d ∷ rest) = BodyRead d.body × TypesRead rest

-- a name that isn't in backticks isn't `$`
abbrev pub NameRead : Declared → Type 0
NameRead d = d.quoted ≡ false → same_text (normal d.text) (codes "$") ≡ false

abbrev pub CourseRead : Course → Type 0
CourseRead (each t) = IsRead t
CourseRead (up_to t u) = IsRead t × IsRead u
CourseRead (below t u) = IsRead t × IsRead u

-- each block but that of `else` has a statement
abbrev mutual
  pub StatementRead : Statement → Type 0
  StatementRead (discards at t) = IfRead t
  StatementRead (returns at t) = IfRead t
  StatementRead (raises at t) = IfRead t
  StatementRead (breaks at) = Unit {0}
  StatementRead (continues at) = Unit {0}
  StatementRead (imports at names) = Unit {0}
  StatementRead (evaluates at t) = IsRead t
  StatementRead (assigns at op t u) = IsRead t × IsRead u
  StatementRead (commands at t operands) = IsRead t × AreRead operands
  StatementRead (defines at b all) = (has_name all ≡ true) × DefinitionsRead all
  StatementRead (types at all) = TypesRead all
  StatementRead (branches at all otherwise) = BranchesRead all × StatementsRead otherwise
  StatementRead (selects at t all otherwise) = IsRead t × (BranchesRead all × StatementsRead otherwise)
  StatementRead (repeats at t body) = IsRead t × ((has_some body ≡ true) × StatementsRead body)
  StatementRead (counts at x course body) = CourseRead course × ((has_some body ≡ true) × StatementsRead body)
  StatementRead (tries at body all finally) = (StatementsRead body × HandlersRead all) × StatementsRead finally
  StatementRead (defers at body) = StatementsRead body
  StatementRead (proclaims at h body) = NameRead h.name × StatementsRead body

  pub StatementsRead : Statements → Type 0
  StatementsRead empty = Unit {0}
  StatementsRead (then first rest) = StatementRead first × StatementsRead rest

  pub BranchesRead : Branches → Type 0
  BranchesRead no_branches = Unit {0}
  BranchesRead (branch at tests body rest) =
      ((has_part tests ≡ true) × AreRead tests) × (((has_some body ≡ true) × StatementsRead body) × BranchesRead rest)

  pub HandlersRead : Handlers → Type 0
  HandlersRead no_handlers = Unit {0}
  HandlersRead (handler at names binding body rest) = StatementsRead body × HandlersRead rest

abbrev pub ModulesRead : List Module → Type 0
ModulesRead [] = Unit {0}
ModulesRead (m ∷ rest) = StatementsRead m.body × ModulesRead rest
