-- Typed programs: each part has operands of the types that it is for, each name is one in scope, and each statement stands where it may.
use Rattle.std.specs.Prelude.{◌≡◌, ℕ, zero, suc, ◌+◌, nat_eq, Bool, true, false, not, ◌&&◌, ◌||◌, List, [], ◌∷◌, ◌++◌, length, map}
use Rattle.std.specs.Prelude.{Option, Some, None, slice_get}
use Rattle.nim_types.specs.Types.{Ty, Facts, same}
use Rattle.nim_types.specs.Forms.{Form, HasForm}
use Rattle.nim_types.specs.Table.{type_at as type_by_number}
use Rattle.nim_program.specs.declared.operation.Operation.{Operation}
use Rattle.nim_program.specs.declared.operation.Operation.TheVariants as O
use Rattle.nim_program.specs.declared.program.Mode.{Mode}
use Rattle.nim_program.specs.declared.program.Mode.TheVariants.{Plain, Sink, Var}
use Rattle.nim_program.specs.declared.program.HookOf.{HookOf}
use Rattle.nim_program.specs.declared.stmt.Leaving.{Leaving}
use Rattle.nim_program.specs.declared.stmt.Leaving.TheVariants.{Break, Continue, Return}
use Rattle.nim_program.specs.Program.{Label, Act, Doing, Building, Giving, Calling, Chooser, ByConditions, ByLabels}
use Rattle.nim_program.specs.Program.{Expr, Apply, Read, Early, Choose, Path, Variable, Fresh, Field, Element, Deref, Args, NoArg, ByValue, ByPath}
use Rattle.nim_program.specs.Program.{Declared, Kind, While, Count, Each, Stmt, Do, Idle, Give, Leave, Select, Loop, Raise, Try}
use Rattle.nim_program.specs.Program.{Stmts, Empty, Then, Declare, Defer, Blocks, Otherwise, Block, Handlers, NoHandler, Handler, Param, Body, Proc, Program}
use Rattle.nim_program.specs.Program.{type_of, type_at, types_in, is_written}
use Rattle.nim_program.specs.Folds.{Seen, Part, Acting, lists, total_of, loop_places, if_declared}
use Rattle.nim_program.specs.Kinds.{TypeKind, kind_of, kind_if, is_int, is_bool, is_text, is_exception, is_held, is_resource, is_selected, has_length}
use Rattle.nim_program.specs.Kinds.{field_at, element_of, object_of, is_of, same_value, for_some, is_there, is_constant}
use Rattle.nim_program.specs.Kinds.{is_among_types, are_among_types, are_declared}
use Rattle.nim_program.specs.Fitting.{fits, early_fits, building_fits, chooser_fits, places_in, are_labels, are_enough}
use Rattle.nim_program.specs.Scopes.{Placed, placed, Here, with_place, with_place_if, with_global, type_in, count_below, call_fits}

-- ---- expressions

-- no path that is read: what begins a path is another value
abbrev pub is_fresh : Expr → Bool
is_fresh (Read path) = false
is_fresh value = true

-- A path is no ref's object whole: a field of it follows. Nor is it an exception whole, of which the message is read alone.
abbrev pub is_whole : Facts → Path → Bool
is_whole facts (Deref ty base) = false
is_whole facts path = is_held (kind_if facts (type_at path))

-- A value alone is no path that is read: it is the value.
abbrev pub is_located : Path → Bool
is_located (Fresh value) = false
is_located path = true

abbrev pub is_read : Facts → Path → Bool
is_read facts path = is_located path && is_whole facts path

-- the first so many are places, and all others values
abbrev pub are_placed : ℕ → Args → Bool
are_placed zero NoArg = true
are_placed zero (ByValue value rest) = are_placed zero rest
are_placed (suc n) (ByPath path rest) = are_placed n rest
are_placed n operands = false

abbrev pub is_place : Option ℕ → Path → Bool
is_place (Some n) (Variable node ty place false) = nat_eq place n
is_place dest path = false

-- Places are written, but for those whose length is asked. A hook ends or blanks its own one alone.
abbrev pub may_take : Here → Operation → Path → Bool
may_take here (O.Measure measure) path = true
may_take here O.Destroy path = is_place here.dest path
may_take here O.Blank path = is_place here.dest path
may_take here operation path = is_written path

abbrev pub may_take_all : Here → Operation → Args → Bool
may_take_all here operation NoArg = true
may_take_all here operation (ByValue value rest) = may_take_all here operation rest
may_take_all here operation (ByPath path rest) = may_take here operation path && may_take_all here operation rest

-- what is done with the operands
abbrev pub act_fits : Here → (ty : Option Ty) → Act → Args → Bool
act_fits here ty (Doing operation) operands =
    fits here.facts operation ty (types_in operands) && (are_placed (places_in operation) operands && may_take_all here operation operands)
act_fits here ty (Building fields) operands = building_fits here.facts ty fields (types_in operands) && are_placed 0 operands
act_fits here ty (Giving literal) NoArg = for_some ty (λ t. is_constant here.facts t literal)
act_fits here ty (Giving literal) operands = false
act_fits here ty (Calling proc types) operands = call_fits here (slice_get here.procs proc) types ty operands

-- a selector at a path is read in place, and so is no value
abbrev pub is_selector : Args → Bool
is_selector (ByValue value rest) = is_fresh value
is_selector (ByPath path rest) = is_located path
is_selector NoArg = true

abbrev pub behind_first : Args → Args
behind_first NoArg = NoArg
behind_first (ByValue value rest) = rest
behind_first (ByPath path rest) = rest

abbrev pub choice_is_placed : Chooser → Args → Bool
choice_is_placed ByConditions parts = are_placed 0 parts
choice_is_placed (ByLabels labels) parts = is_selector parts && are_placed 0 (behind_first parts)

abbrev mutual
  pub is_typed : Here → Expr → Bool
  is_typed here (Apply node ty act operands) = act_fits here ty act operands && are_typed here operands
  is_typed here (Read path) = is_read here.facts path && is_typed_path here path
  is_typed here (Early node ty short left right) =
      early_fits here.facts ty (type_of left) (type_of right) && (is_typed here left && is_typed here right)
  is_typed here (Choose node ty chooser parts) =
      (chooser_fits here.facts ty chooser (types_in parts) && choice_is_placed chooser parts) && are_typed here parts

  pub is_typed_path : Here → Path → Bool
  is_typed_path here (Variable node ty place global) = is_of (type_in here global place) (Some ty)
  is_typed_path here (Fresh value) = (is_fresh value && is_there (type_of value)) && is_typed here value
  is_typed_path here (Field node ty base field) = is_of (field_at (kind_if here.facts (type_at base)) field) (Some ty) && is_typed_path here base
  is_typed_path here (Element node ty base index constant) =
      (is_of (element_of (kind_if here.facts (type_at base))) (Some ty) && is_int (kind_if here.facts (type_of index)))
      && (is_typed_path here base && is_typed here index)
  is_typed_path here (Deref ty base) = is_of (object_of (kind_if here.facts (type_at base))) (Some ty) && is_typed_path here base

  pub are_typed : Here → Args → Bool
  are_typed here NoArg = true
  are_typed here (ByValue value rest) = is_typed here value && are_typed here rest
  are_typed here (ByPath path rest) = (is_whole here.facts path && is_typed_path here path) && are_typed here rest

-- ---- statements

-- What stands around: what the procedure gives, and whether control may go back from it; whether a loop that may be left; and whether a
-- handler, whose exception may be raised again.
pub record Around : Type 0 where
  pub gives : Option Ty
  pub returns : Bool
  pub in_loop : Bool
  pub in_handler : Bool

abbrev pub module_code : Around
module_code = record { gives = None; returns = false; in_loop = false; in_handler = false }

abbrev pub procedure : (gives : Option Ty) → Around
procedure gives = record { gives = gives; returns = true; in_loop = false; in_handler = false }

abbrev pub looping : Around → Around
looping around = record around { in_loop = true }

abbrev pub handling : Around → Around
handling around = record around { in_handler = true }

-- A block that is done in any case isn't left.
abbrev pub in_any_case : Around → Around
in_any_case around = record around { gives = None; returns = false; in_loop = false }

abbrev pub may_leave : Around → Leaving → Bool
may_leave around Break = around.in_loop
may_leave around Continue = around.in_loop
may_leave around Return = around.returns

abbrev pub is_empty : Stmts → Bool
is_empty Empty = true
is_empty block = false

-- one value, of which this holds
abbrev pub is_one : (Option Ty → Bool) → Args → Bool
is_one holds (ByValue value NoArg) = holds (type_of value)
is_one holds operands = false

abbrev pub are_conditions : Facts → Args → Bool
are_conditions facts NoArg = true
are_conditions facts (ByValue value rest) = is_bool (kind_if facts (type_of value)) && are_conditions facts rest
are_conditions facts (ByPath path rest) = false

-- as many blocks, and one for all else
abbrev pub are_blocks : {A : Type 0} → List A → Blocks → Bool
are_blocks [] (Otherwise block) = true
are_blocks (x ∷ xs) (Block first rest) = are_blocks xs rest
are_blocks xs blocks = false

abbrev pub has_else : Blocks → Bool
has_else (Otherwise block) = not (is_empty block)
has_else (Block first rest) = has_else rest

abbrev pub labels_select : TypeKind → List (List Label) → Blocks → Bool
labels_select k labels blocks =
    ((is_selected k && are_labels k labels) && are_blocks labels blocks) && (has_else blocks || are_enough k None labels)

-- of the one selector
abbrev pub selector_kind : Facts → Args → TypeKind
selector_kind facts (ByValue value NoArg) = kind_if facts (type_of value)
selector_kind facts (ByPath path NoArg) = kind_if facts (type_at path)
selector_kind facts operands = TypeKind.other

abbrev pub chooses : Facts → Chooser → Args → Blocks → Bool
chooses facts ByConditions tests blocks = are_conditions facts tests && are_blocks (types_in tests) blocks
chooses facts (ByLabels labels) tests blocks = is_selector tests && labels_select (selector_kind facts tests) labels blocks

-- the head of a loop
abbrev pub head_fits : Facts → Kind → Args → Bool
head_fits facts While head = is_one (λ ty. is_bool (kind_if facts ty)) head
head_fits facts (Count variable inclusive) (ByValue first last) =
    (is_int (kind_of facts variable.of) && is_int (kind_if facts (type_of first))) && is_one (λ ty. is_int (kind_if facts ty)) last
head_fits facts (Each variable) (ByPath path NoArg) =
    has_length (kind_if facts (type_at path)) && is_of (element_of (kind_if facts (type_at path))) (Some variable.of)
head_fits facts kind head = false

abbrev pub with_places : Here → List Declared → Here
with_places here [] = here
with_places here (d ∷ ds) = with_places (with_place here d) ds

-- a new exception has a message, and the one that is handled has none
abbrev pub raises : Facts → (handled : Bool) → Option Ty → Args → Bool
raises facts handled (Some ty) message = is_exception (kind_of facts ty) && is_one (λ t. is_text (kind_if facts t)) message
raises facts handled None NoArg = handled
raises facts handled None message = false

abbrev pub has_handler : Handlers → Bool
has_handler NoHandler = false
has_handler (Handler types name body rest) = true

abbrev pub are_exceptions : Facts → List Ty → Bool
are_exceptions facts [] = true
are_exceptions facts (ty ∷ tys) = is_exception (kind_of facts ty) && are_exceptions facts tys

abbrev pub is_caught : Facts → Option Declared → Bool
is_caught facts None = true
is_caught facts (Some d) = is_exception (kind_of facts d.of)

-- a place with the value that it starts with, or with its default
abbrev pub starts : Facts → Ty → Args → Bool
starts facts ty NoArg = is_held (kind_of facts ty)
starts facts ty operands = is_one (λ t. is_of t (Some ty)) operands

abbrev mutual
  pub is_typed_stmt : Here → Around → Stmt → Bool
  is_typed_stmt here around (Do value) = not (is_there (type_of value)) && is_typed here value
  is_typed_stmt here around (Idle node parts) = are_typed here parts
  is_typed_stmt here around (Give node back value) = (is_of (type_of value) around.gives && (not back || around.returns)) && is_typed here value
  is_typed_stmt here around (Leave node leaving parts) = may_leave around leaving && are_typed here parts
  is_typed_stmt here around (Select node chooser tests blocks) =
      (chooses here.facts chooser tests blocks && are_typed here tests) && are_typed_blocks here around blocks
  is_typed_stmt here around (Loop node kind head body) =
      (head_fits here.facts kind head && are_typed here head)
      && (not (is_empty body) && is_typed_block (with_places here (loop_places kind)) (looping around) body)
  is_typed_stmt here around (Raise node exception message) = raises here.facts around.in_handler exception message && are_typed here message
  is_typed_stmt here around (Try node body handlers last) =
      ((has_handler handlers || not (is_empty last)) && (not (is_empty body) && is_typed_block here around body))
      && (are_typed_handlers here around handlers && is_typed_block here (in_any_case around) last)

  pub is_typed_block : Here → Around → Stmts → Bool
  is_typed_block here around Empty = true
  is_typed_block here around (Then first rest) = is_typed_stmt here around first && is_typed_block here around rest
  is_typed_block here around (Declare node place cursor value rest) =
      (starts here.facts place.of value && are_typed here value) && is_typed_block (with_place here place) around rest
  is_typed_block here around (Defer node last rest) =
      (not (is_empty last) && is_typed_block here (in_any_case around) last) && is_typed_block here around rest

  -- the one for all else may be empty
  pub are_typed_blocks : Here → Around → Blocks → Bool
  are_typed_blocks here around (Otherwise block) = is_typed_block here around block
  are_typed_blocks here around (Block first rest) = (not (is_empty first) && is_typed_block here around first) && are_typed_blocks here around rest

  pub are_typed_handlers : Here → Around → Handlers → Bool
  are_typed_handlers here around NoHandler = true
  are_typed_handlers here around (Handler types name body rest) =
      (are_exceptions here.facts types && is_caught here.facts name)
      && ((not (is_empty body) && is_typed_block (with_place_if here name) (handling around) body) && are_typed_handlers here around rest)

-- ---- the code of modules: what it declares itself are the globals, in their order

-- the place is the next global
abbrev pub is_next : Option Placed → Placed → Bool
is_next None place = false
is_next (Some g) place = nat_eq g.number place.number && same g.of place.of

abbrev pub is_typed_code : Here → Stmts → Bool
is_typed_code here Empty = nat_eq here.filled (length here.globals)
is_typed_code here (Then first rest) = is_typed_stmt here module_code first && is_typed_code here rest
is_typed_code here (Declare node place cursor value rest) =
    (is_next (slice_get here.globals here.filled) (placed place) && (starts here.facts place.of value && are_typed here value))
    && is_typed_code (with_global here) rest
is_typed_code here (Defer node last rest) = false

-- ---- bodies

abbrev pub type_if : Option Ty → List Ty
type_if None = []
type_if (Some ty) = ty ∷ []

-- those that a call has for type parameters
abbrev pub act_types : Act → List Ty
act_types (Calling proc types) = types
act_types act = []

abbrev pub part_types : Part → List Ty
part_types (Acting act) = act_types act
part_types part = []

abbrev pub place_types : List Declared → List Ty
place_types places = map (λ d. d.of) places

-- the types that stand in a part alone
abbrev pub own_types : Seen → List Ty
own_types seen = place_types seen.places ++ (type_if seen.ty ++ part_types seen.part)

abbrev pub param_declared : List Param → List Declared
param_declared params = map (λ param. param.place) params

-- all that stand in a body with its parameters and result
abbrev pub body_types : List Param → Body → List Ty
body_types params body =
    place_types (param_declared params) ++ (place_types (if_declared body.result) ++ total_of lists own_types body.stmts)

abbrev pub are_held : Facts → List Declared → Bool
are_held facts [] = true
are_held facts (d ∷ ds) = is_held (kind_of facts d.of) && are_held facts ds

abbrev pub type_of_place : Option Declared → Option Ty
type_of_place None = None
type_of_place (Some d) = Some d.of

-- a hook that copies or sinks may end and blank the place that it fills
abbrev pub dest_of : Option HookOf → List Param → Option ℕ
dest_of (Some hook) (dest ∷ source ∷ []) = Some dest.place.number
dest_of hook params = None

-- a body that stands behind so many globals
abbrev pub in_body : Program → (filled : ℕ) → (dest : Option ℕ) → List Param → Body → Here
in_body program filled dest params body = record {
  facts = program.facts;
  procs = program.procs;
  globals = map placed program.globals;
  filled = filled;
  places = map placed (param_declared params ++ if_declared body.result);
  dest = dest;
}

abbrev pub before : Program → ℕ → ℕ
before program n = count_below n (map placed program.globals)

-- of a procedure, among whose places no global stands
abbrev pub is_typed_body : Program → (dest : Option ℕ) → List Param → (gives : Option Ty) → Body → Bool
is_typed_body program dest params gives body =
    (are_among_types program.types (body_types params body)
    && (are_held program.facts (param_declared params ++ if_declared body.result)
    && same_value (type_of_place body.result) gives && nat_eq (before program body.first) (before program (body.first + body.places))))
    && (not (is_empty body.stmts) && is_typed_block (in_body program (before program body.first) dest params body) (procedure gives) body.stmts)

abbrev pub is_typed_if : Program → (dest : Option ℕ) → List Param → (gives : Option Ty) → Option Body → Bool
is_typed_if program dest params gives None = true
is_typed_if program dest params gives (Some body) = is_typed_body program dest params gives body

-- ---- hooks

abbrev pub same_mode : Mode → Mode → Bool
same_mode Plain Plain = true
same_mode Sink Sink = true
same_mode Var Var = true
same_mode m n = false

abbrev pub takes : Ty → Mode → Param → Bool
takes ty mode param = same param.place.of ty && same_mode param.mode mode

-- of a destroy, of what blanks, and of a sink or a copy
abbrev pub params_fit : (kind : ℕ) → Ty → List Param → Bool
params_fit zero ty (x ∷ []) = takes ty Plain x
params_fit (suc zero) ty (x ∷ []) = takes ty Var x
params_fit (suc (suc zero)) ty (dest ∷ source ∷ []) = takes ty Var dest && takes ty Plain source
params_fit (suc (suc (suc zero))) ty (dest ∷ source ∷ []) = takes ty Var dest && takes ty Plain source
params_fit kind ty params = false

abbrev pub hook_fits : Program → Option HookOf → List Param → (gives : Option Ty) → Option Body → Bool
hook_fits program None params gives body = true
hook_fits program (Some hook) params gives None = false
hook_fits program (Some hook) params gives (Some body) =
    is_resource (kind_of program.facts (type_by_number program.types hook.of))
    && (not (is_there gives) && params_fit hook.kind (type_by_number program.types hook.of) params)

-- ---- programs

abbrev pub is_typed_proc : Program → Proc → Bool
is_typed_proc program p =
    hook_fits program p.hook p.params p.gives p.body && is_typed_if program (dest_of p.hook p.params) p.params p.gives p.body

abbrev pub are_typed_procs : Program → List Proc → Bool
are_typed_procs program [] = true
are_typed_procs program (p ∷ procs) = is_typed_proc program p && are_typed_procs program procs

-- the code of all modules, which takes and gives nothing
abbrev pub is_typed_start : Program → Body → Bool
is_typed_start program body =
    (are_among_types program.types (body_types [] body) && not (is_there (type_of_place body.result)))
    && is_typed_code (in_body program 0 None [] body) body.stmts

abbrev pub is_typed_program : Program → Bool
is_typed_program program =
    are_declared program.facts program.types && (are_typed_procs program program.procs && is_typed_start program program.start)

-- No type contains itself by value or through a sequence, and all code is typed.
pub record IsTyped (program : Program) : Type 0 where
  pub forms : (ty : Ty) → is_among_types program.types ty ≡ true → (f : Form) × HasForm program.facts ty f
  pub typed : is_typed_program program ≡ true
