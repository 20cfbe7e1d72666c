-- Forms that have no rule yet: the first of them in order of text, whatever stands around it. Where one stands in another, the
-- outer one begins first, so a form comes before its parts.
use Rattle.std.specs.Prelude.{ℕ, Bool, true, false, ◌&&◌, ◌||◌, ◌==◌, if◌then◌else◌, List, [], ◌∷◌, ◌++◌, codes, Option, Some, None, Ok}
use Rattle.arc_base.specs.declared.place.Place.{Place}
use Rattle.arc_base.specs.declared.place.Code.TheVariants.{LeftOut}
use Rattle.arc_base.specs.Refusal.{refused}
use Rattle.indent_scanner.specs.Bytes.{is_letter}
use Rattle.indent_scanner.specs.Words.{normal}
use Rattle.indent_scanner.specs.Meaning.{inner as inside_of}
use Rattle.nim_tree.specs.declared.name.Name.{Name}
use Rattle.nim_tree.specs.declared.name.Declared.{Declared}
use Rattle.nim_tree.specs.declared.name.Pragma.{Pragma}
use Rattle.nim_tree.specs.declared.name.PragmaKind.{PragmaKind}
use Rattle.nim_tree.specs.declared.name.PragmaKind.TheVariants as pragma
use Rattle.nim_tree.specs.Terms as term
use Rattle.nim_tree.specs.Terms.{Term, Parts, no_parts, part, Choices, no_choices, choice}
use Rattle.nim_tree.specs.Types as written
use Rattle.nim_tree.specs.Types.{Written, Arguments, no_arguments, argument, Fields, no_fields, fields, Body, object, enum, distinct, alias, Declaration}
use Rattle.nim_tree.specs.Statements as tree
use Rattle.nim_tree.specs.Statements.{Definition, Parameters, Head, Course, each, up_to, below, Statement, discards, returns, raises, breaks, continues}
use Rattle.nim_tree.specs.Statements.{imports}
use Rattle.nim_tree.specs.Statements.{evaluates, assigns, commands, defines, types, branches, selects, repeats, counts, tries, defers, proclaims}
use Rattle.nim_tree.specs.Statements.{Statements, empty, Branches, no_branches, branch, Handlers, no_handlers, handler}
use Rattle.expr_rules.specs.Answers.{Answer}
use Rattle.expr_rules.specs.Constructions.{is_among}

-- the place of a form, None where there is none
abbrev pub Found : Type 0
Found = Option Place

abbrev pub or_later : Found → Found → Found
or_later (Some at) later = Some at
or_later None later = later

abbrev pub only_there : Bool → Place → Found
only_there true at = Some at
only_there false at = None

-- ---- names that wait for their rule

-- what is called so waits, but where the source declares a procedure or a type of the name
abbrev pub waiting : List (List ℕ)
waiting = codes "isnil" ∷ codes "newexception" ∷ []

abbrev pub without : List (List ℕ) → List (List ℕ) → List (List ℕ)
without [] names = []
without (x ∷ rest) names = if is_among x names then without rest names else x ∷ without rest names

-- a `=` with a name behind it, as hooks have it
abbrev pub is_hook : List ℕ → Bool
is_hook (sign ∷ first ∷ rest) = sign == 61 && is_letter first
is_hook _ = false

abbrev pub waits : List (List ℕ) → List ℕ → Bool
waits names x = is_among (normal x) names

-- ---- what a source declares, in whatever block

abbrev pub declared_types : List Declaration → List (List ℕ)
declared_types [] = []
declared_types (d ∷ rest) = normal d.name.text ∷ declared_types rest

abbrev pub named_procedure : Declared → List (List ℕ)
named_procedure d = if d.quoted then [] else normal d.text ∷ []

abbrev mutual
  -- the names of its procedures and types
  pub declared_by : Statement → List (List ℕ)
  declared_by (types at all) = declared_types all
  declared_by (branches at all otherwise) = declared_in_branches all ++ declared_in otherwise
  declared_by (selects at selector all otherwise) = declared_in_branches all ++ declared_in otherwise
  declared_by (repeats at condition body) = declared_in body
  declared_by (counts at variable course body) = declared_in body
  declared_by (tries at body all finally) = declared_in body ++ (declared_in_handlers all ++ declared_in finally)
  declared_by (defers at body) = declared_in body
  declared_by (proclaims at head body) = named_procedure head.name ++ declared_in body
  declared_by (discards at a) = []
  declared_by (returns at a) = []
  declared_by (raises at a) = []
  declared_by (breaks at) = []
  declared_by (continues at) = []
  declared_by (imports at all) = []
  declared_by (evaluates at a) = []
  declared_by (assigns at op a b) = []
  declared_by (commands at a operands) = []
  declared_by (defines at binding all) = []

  pub declared_in : Statements → List (List ℕ)
  declared_in empty = []
  declared_in (tree.then first rest) = declared_by first ++ declared_in rest

  pub declared_in_branches : Branches → List (List ℕ)
  declared_in_branches no_branches = []
  declared_in_branches (branch at tests body rest) = declared_in body ++ declared_in_branches rest

  pub declared_in_handlers : Handlers → List (List ℕ)
  declared_in_handlers no_handlers = []
  declared_in_handlers (handler at names binding body rest) = declared_in body ++ declared_in_handlers rest

-- ---- in terms; `names` are those that wait

-- what is called by its name
abbrev pub callee_left : List (List ℕ) → Place → Term → Found
callee_left names at (term.name p x) = only_there (waits names x) at
callee_left names at _ = None

abbrev mutual
  pub left_in : List (List ℕ) → Term → Found
  left_in names (term.int at z) = None
  left_in names (term.char at c) = None
  left_in names (term.text at bytes) = None
  left_in names (term.name at x) = None
  left_in names (term.quoted at x) = only_there (is_hook (inside_of x)) at
  left_in names (term.nil at) = Some at
  left_in names (term.paren at a) = left_in names a
  left_in names (term.tuple at inside) = left_in_parts names inside
  left_in names (term.array at inside) = left_in_parts names inside
  left_in names (term.sequence at inside) = left_in_parts names inside
  left_in names (term.construct at x inside) = left_in_parts names inside
  left_in names (term.named at x a) = left_in names a
  left_in names (term.field at a x) = or_later (only_there (waits names x) at) (left_in names a)
  left_in names (term.call at a inside) = or_later (callee_left names at a) (or_later (left_in names a) (left_in_parts names inside))
  left_in names (term.index at a inside) = or_later (left_in names a) (left_in_parts names inside)
  left_in names (term.unary at op a) = left_in names a
  left_in names (term.binary at op a b) = or_later (left_in names a) (left_in names b)
  left_in names (term.if_term at all a) = or_later (left_in_choices names all) (left_in names a)
  left_in names (term.case_term at a all) = or_later (left_in names a) (left_in_choices names all)
  left_in names (term.case_else at a all b) = or_later (left_in names a) (or_later (left_in_choices names all) (left_in names b))
  left_in names (term.range at a b) = or_later (left_in names a) (left_in names b)

  pub left_in_parts : List (List ℕ) → Parts → Found
  left_in_parts names no_parts = None
  left_in_parts names (part first rest) = or_later (left_in names first) (left_in_parts names rest)

  pub left_in_choices : List (List ℕ) → Choices → Found
  left_in_choices names no_choices = None
  left_in_choices names (choice at tests a rest) = or_later (left_in_parts names tests) (or_later (left_in names a) (left_in_choices names rest))

abbrev pub if_left_in : List (List ℕ) → Option Term → Found
if_left_in names None = None
if_left_in names (Some a) = left_in names a

-- ---- in written types

abbrev mutual
  pub left_in_type : List (List ℕ) → Written → Found
  left_in_type names (written.named at x given) = left_in_arguments names given
  left_in_type names (written.array at length element) = or_later (left_in names length) (left_in_type names element)
  left_in_type names (written.ref_to at target) = Some at
  left_in_type names (written.tuple_of at inside) = left_in_fields names inside

  pub left_in_arguments : List (List ℕ) → Arguments → Found
  left_in_arguments names no_arguments = None
  left_in_arguments names (argument first rest) = or_later (left_in_type names first) (left_in_arguments names rest)

  pub left_in_fields : List (List ℕ) → Fields → Found
  left_in_fields names no_fields = None
  left_in_fields names (fields all of rest) = or_later (left_in_type names of) (left_in_fields names rest)

abbrev pub if_left_in_type : List (List ℕ) → Option Written → Found
if_left_in_type names None = None
if_left_in_type names (Some t) = left_in_type names t

-- refs, and objects below others
abbrev pub is_left_object : Bool → Option Name → Bool
is_left_object true parent = true
is_left_object false (Some name) = true
is_left_object false None = false

abbrev pub left_in_body : List (List ℕ) → Body → Found
left_in_body names (object at is_ref parent inside) = or_later (only_there (is_left_object is_ref parent) at) (left_in_fields names inside)
left_in_body names (enum at all) = None
left_in_body names (distinct at base) = left_in_type names base
left_in_body names (alias of) = left_in_type names of

abbrev pub is_some_name : List Name → Bool
is_some_name [] = false
is_some_name (_ ∷ _) = true

-- one with type parameters is left out as a whole, at its name
abbrev pub left_in_declarations : List (List ℕ) → List Declaration → Found
left_in_declarations names [] = None
left_in_declarations names (d ∷ rest) =
    or_later (only_there (is_some_name d.parameters) d.name.at) (or_later (left_in_body names d.body) (left_in_declarations names rest))

-- ---- in statements

abbrev pub is_cursor : PragmaKind → Bool
is_cursor pragma.Cursor = true
is_cursor _ = false

abbrev pub has_cursor : List Pragma → Bool
has_cursor [] = false
has_cursor (p ∷ rest) = is_cursor p.kind || has_cursor rest

-- at the first name
abbrev pub at_first : Bool → List Declared → Found
at_first here [] = None
at_first here (d ∷ rest) = only_there here d.at

abbrev pub left_in_definitions : List (List ℕ) → List Definition → Found
left_in_definitions names [] = None
left_in_definitions names (d ∷ rest) =
    or_later (at_first (has_cursor d.pragmas) d.names) (or_later (if_left_in_type names d.annotation)
    (or_later (if_left_in names d.value) (left_in_definitions names rest)))

abbrev pub left_in_parameters : List (List ℕ) → List Parameters → Found
left_in_parameters names [] = None
left_in_parameters names (p ∷ rest) = or_later (left_in_type names p.of) (left_in_parameters names rest)

-- a hook
abbrev pub is_hook_name : Declared → Bool
is_hook_name d = d.quoted && is_hook (inside_of d.text)

-- a procedure as a whole, at `proc`
abbrev pub is_left_head : Head → Bool
is_left_head h = is_some_name h.generics || (is_hook_name h.name || has_cursor h.pragmas)

abbrev pub left_in_head : List (List ℕ) → Place → Head → Found
left_in_head names at h =
    or_later (only_there (is_left_head h) at) (or_later (left_in_parameters names h.params) (if_left_in_type names h.gives))

abbrev pub left_in_course : List (List ℕ) → Course → Found
left_in_course names (each a) = left_in names a
left_in_course names (up_to a b) = or_later (left_in names a) (left_in names b)
left_in_course names (below a b) = or_later (left_in names a) (left_in names b)

abbrev mutual
  pub left_in_statement : List (List ℕ) → Statement → Found
  left_in_statement names (discards at a) = if_left_in names a
  left_in_statement names (returns at a) = if_left_in names a
  left_in_statement names (raises at a) = Some at
  left_in_statement names (breaks at) = None
  left_in_statement names (continues at) = None
  left_in_statement names (imports at all) = Some at
  left_in_statement names (evaluates at a) = left_in names a
  left_in_statement names (assigns at op a b) = or_later (left_in names a) (left_in names b)
  left_in_statement names (commands at a operands) = left_in names (term.call at a operands)
  left_in_statement names (defines at binding all) = left_in_definitions names all
  left_in_statement names (types at all) = left_in_declarations names all
  left_in_statement names (branches at all otherwise) = or_later (left_in_branches names all) (left_in_statements names otherwise)
  left_in_statement names (selects at a all otherwise) =
      or_later (left_in names a) (or_later (left_in_branches names all) (left_in_statements names otherwise))
  left_in_statement names (repeats at a body) = or_later (left_in names a) (left_in_statements names body)
  left_in_statement names (counts at variable course body) = or_later (left_in_course names course) (left_in_statements names body)
  left_in_statement names (tries at body all finally) = Some at
  left_in_statement names (defers at body) = Some at
  left_in_statement names (proclaims at head body) = or_later (left_in_head names at head) (left_in_statements names body)

  pub left_in_statements : List (List ℕ) → Statements → Found
  left_in_statements names empty = None
  left_in_statements names (tree.then first rest) = or_later (left_in_statement names first) (left_in_statements names rest)

  pub left_in_branches : List (List ℕ) → Branches → Found
  left_in_branches names no_branches = None
  left_in_branches names (branch at tests body rest) =
      or_later (left_in_parts names tests) (or_later (left_in_statements names body) (left_in_branches names rest))

-- the first form without a rule
abbrev pub left_out : Statements → Found
left_out all = left_in_statements (without waiting (declared_in all)) all

abbrev pub unless_found : Found → Answer (Unit {0})
unless_found (Some at) = refused LeftOut at
unless_found None = Ok tt

abbrev pub nothing_left_out : Statements → Answer (Unit {0})
nothing_left_out all = unless_found (left_out all)
