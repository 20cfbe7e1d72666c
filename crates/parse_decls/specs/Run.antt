-- Reading as a computation by steps: the same as Grammar.antt and Faults.antt say, in the order of the tokens.
--
-- Each function takes the steps that are left. n is the number of spaces that the declaration stands behind.
use Rattle.std.specs.Prelude.{ℕ, zero, suc, Bool, true, false, nat_lt, if◌then◌else◌, List, [], ◌∷◌, ◌++◌, Option, Some, None}
use Rattle.arc_base.specs.declared.place.Place.{Place}
use Rattle.indent_scanner.specs.declared.token.Token.{Token}
use Rattle.nim_tree.specs.declared.name.Name.{Name}
use Rattle.nim_tree.specs.declared.name.Declared.{Declared}
use Rattle.nim_tree.specs.declared.name.Pragma.{Pragma}
use Rattle.nim_tree.specs.declared.name.PragmaKind.{PragmaKind}
use Rattle.nim_tree.specs.Terms.{Term, levels}
use Rattle.nim_tree.specs.Types.{Written, named, array, ref_to, tuple_of, Arguments, no_arguments, argument, and_argument, Fields, no_fields, fields, and_field}
use Rattle.nim_tree.specs.Types.{Body, object, enum, distinct, alias, Declaration}
use Rattle.nim_tree.specs.Statements.{Definition, Parameters, Head}
use Rattle.parse_exprs.specs.declared.layout.Layout.{Layout}
use Rattle.parse_exprs.specs.declared.layout.Layout.TheVariants.{Brackets, Lines}
use Rattle.parse_exprs.specs.declared.input.Bracket.TheVariants.{Round, Square}
use Rattle.parse_exprs.specs.Look.{Origin, spelling, place_at, closes_at, name_on, stays, colon_at, comma_at, kind_at}
use Rattle.parse_exprs.specs.Outcome as E
use Rattle.parse_exprs.specs.Run.{run_expr}
use Rattle.parse_decls.specs.declared.look.TypeLead.{TypeLead}
use Rattle.parse_decls.specs.declared.look.TypeLead.TheVariants as L
use Rattle.parse_decls.specs.declared.look.BodyLead.{BodyLead}
use Rattle.parse_decls.specs.declared.look.BodyLead.TheVariants as B
use Rattle.parse_decls.specs.Look.{behind, deeper_at, stands_at, level_at, name_of, declared_of, star_at, past_star, proc_name_on, is_quoted, opens_at}
use Rattle.parse_decls.specs.Look.{equals_at, of_at, separator_at, is_pragma_close, pragmas_at, pragma_named, pragma_of, type_lead, type_at, mode_at, past_mode}
use Rattle.parse_decls.specs.Look.{body_lead, member_at}
use Rattle.parse_decls.specs.Outcome.{Out, got, bad, then_do, too_deep, left_out, stuck_at, tired, unless_stuck, of_expr}

-- the most levels of an expression or a written type
abbrev pub most_levels : ℕ
most_levels = 64

-- ---- names

abbrev pub run_named : Origin → Option Token → List Token → Out Name
run_named x None ts = bad (stuck_at ts)
run_named x (Some tok) ts = got (name_of x tok) (behind ts)

abbrev pub run_name : Origin → Layout → List Token → Out Name
run_name x i ts = run_named x (name_on i ts) ts

abbrev pub run_more_names : ℕ → Origin → Layout → List Name → List Token → Out (List Name)
run_more_names zero x i some ts = bad tired
run_more_names (suc k) x i some ts =
    if comma_at i ts then then_do (run_name x Brackets (behind ts)) (λ name mid. run_more_names k x i (some ++ name ∷ []) mid) else got some ts

-- names with commas between them
abbrev pub run_names : ℕ → Origin → Layout → List Token → Out (List Name)
run_names k x i ts = then_do (run_name x i ts) (λ name mid. run_more_names k x i (name ∷ []) mid)

abbrev pub run_shown : Origin → Layout → Option Token → List Token → Out Declared
run_shown x i None ts = bad (stuck_at ts)
run_shown x i (Some tok) ts = got (declared_of x tok (is_quoted tok.kind) (star_at x i (behind ts))) (past_star x i (behind ts))

-- a name that goes on in the layout first, and `*`
abbrev pub run_declared : Origin → (first : Layout) → Layout → List Token → Out Declared
run_declared x first i ts = run_shown x i (name_on first ts) ts

abbrev pub run_more_declared : ℕ → Origin → Layout → List Declared → List Token → Out (List Declared)
run_more_declared zero x i some ts = bad tired
run_more_declared (suc k) x i some ts =
    if comma_at i ts then then_do (run_shown x i (name_on Brackets (behind ts)) (behind ts))
    (λ name mid. run_more_declared k x i (some ++ name ∷ []) mid) else got some ts

abbrev pub run_declareds : ℕ → Origin → (first : Layout) → Layout → List Token → Out (List Declared)
run_declareds k x first i ts = then_do (run_declared x first i ts) (λ name mid. run_more_declared k x i (name ∷ []) mid)

-- type parameters in brackets, where there are any
abbrev pub run_generics : ℕ → Origin → Layout → List Token → Out (List Name)
run_generics k x i ts =
    if opens_at i Square ts then then_do (run_names k x Brackets (behind ts))
    (λ names mid. unless_stuck (closes_at Square mid) mid (got names (behind mid))) else got [] ts

-- ---- pragmas

abbrev pub run_known : Origin → Token → Option PragmaKind → List Token → Out Pragma
run_known x tok None ts = bad (left_out ts)
run_known x tok (Some kind) ts = got (pragma_of x tok kind) (behind ts)

abbrev pub run_pragma_name : Origin → Option Token → List Token → Out Pragma
run_pragma_name x None ts = bad (stuck_at ts)
run_pragma_name x (Some tok) ts = run_known x tok (pragma_named (spelling x tok)) ts

abbrev pub run_pragma : Origin → List Token → Out Pragma
run_pragma x ts = run_pragma_name x (name_on Brackets ts) ts

abbrev pub run_more_pragmas : ℕ → Origin → List Pragma → List Token → Out (List Pragma)
run_more_pragmas zero x some ts = bad tired
run_more_pragmas (suc k) x some ts =
    if comma_at Brackets ts then then_do (run_pragma x (behind ts)) (λ pragma mid. run_more_pragmas k x (some ++ pragma ∷ []) mid) else unless_stuck
    (kind_at is_pragma_close ts) ts (got some (behind ts))

-- pragmas, where there are any
abbrev pub run_pragmas : ℕ → Origin → Layout → List Token → Out (List Pragma)
run_pragmas k x i ts = if pragmas_at i ts then then_do (run_pragma x (behind ts)) (λ pragma mid. run_more_pragmas k x (pragma ∷ []) mid) else got [] ts

-- ---- written types

-- names of fields, and their type
pub record Typed : Type 0 where
  pub names : List Declared
  pub of : Written

-- a length with a comma behind it, as reading the expression that may stand there tells
abbrev pub length_of : List Token → ℕ → List Token → E.Out Term → Out (Option Term)
length_of whole n ts (E.got a mid) =
    if comma_at Brackets mid then (if nat_lt n (levels a) then bad (too_deep whole) else got (Some a) (behind mid)) else got None ts
length_of whole n ts (E.bad E.deep) = bad (too_deep whole)
length_of whole n ts (E.bad (E.stuck rest)) = got None ts
length_of whole n ts (E.bad E.tired) = bad tired

-- the same where no type begins there
abbrev pub run_due_length : ℕ → Origin → List Token → ℕ → List Token → Out (Option Term)
run_due_length k x whole n ts =
    then_do (of_expr whole (run_expr k x Brackets n ts)) (λ a mid. unless_stuck (comma_at Brackets mid) mid (got (Some a) (behind mid)))

-- the length of an array and its comma, behind the bracket; none where types stand there
abbrev pub run_length : ℕ → Origin → List Token → ℕ → List Token → Out (Option Term)
run_length k x whole n ts = if type_at ts then length_of whole n ts (run_expr k x Brackets most_levels ts) else run_due_length k x whole n ts

abbrev mutual
  -- a type that is a part of the one that begins at whole, where n more levels are left
  pub run_type : ℕ → Origin → Layout → List Token → ℕ → List Token → Out Written
  run_type zero x i whole n ts = bad tired
  run_type (suc k) x i whole zero ts = bad (if type_at ts then too_deep whole else stuck_at ts)
  run_type (suc k) x i whole (suc n) [] = bad (stuck_at [])
  run_type (suc k) x i whole (suc n) (tok ∷ ts) = run_sort k (type_lead x i tok ts) x i whole n tok ts

  pub run_sort : ℕ → TypeLead → Origin → Layout → List Token → ℕ → Token → List Token → Out Written
  run_sort zero lead x i whole n tok ts = bad tired
  run_sort (suc k) L.Other x i whole n tok ts = bad (stuck_at (tok ∷ ts))
  run_sort (suc k) L.Name x i whole n tok ts =
      if opens_at i Square ts then run_inside k None x whole n tok (behind ts) else got (named (place_at x tok) (spelling x tok) no_arguments) ts
  run_sort (suc k) L.Array x i whole n tok ts = then_do (run_length k x whole n (behind ts)) (λ length mid. run_inside k length x whole n tok mid)
  run_sort (suc k) L.Ref x i whole n tok ts =
      unless_stuck (stays i ts) ts (then_do (run_type k x i whole n ts) (λ a rest. got (ref_to (place_at x tok) a) rest))
  run_sort (suc k) L.Tuple x i whole n tok ts =
      unless_stuck (opens_at i Square ts) ts (
      if closes_at Square (behind ts) then got (tuple_of (place_at x tok) no_fields) (behind (behind ts)) else
      then_do (run_part k x whole n (behind ts)) (λ one mid.
      then_do (run_parts k x whole n (fields one.names one.of no_fields) mid) (λ all end.
      unless_stuck (closes_at Square end) end (got (tuple_of (place_at x tok) all) (behind end)))))

  -- what stands in the bracket behind a name: types, or an element behind a length
  pub run_inside : ℕ → Option Term → Origin → List Token → ℕ → Token → List Token → Out Written
  run_inside zero length x whole n tok ts = bad tired
  run_inside (suc k) None x whole n tok ts =
      then_do (run_type k x Brackets whole n ts) (λ a mid.
      then_do (run_arguments k x whole n (argument a no_arguments) mid) (λ all end.
      unless_stuck (closes_at Square end) end (got (named (place_at x tok) (spelling x tok) all) (behind end))))
  run_inside (suc k) (Some length) x whole n tok ts =
      then_do (run_type k x Brackets whole n ts) (λ a end.
      unless_stuck (closes_at Square end) end (got (array (place_at x tok) length a) (behind end)))

  pub run_arguments : ℕ → Origin → List Token → ℕ → Arguments → List Token → Out Arguments
  run_arguments zero x whole n some ts = bad tired
  run_arguments (suc k) x whole n some ts =
      if comma_at Brackets ts then then_do (run_type k x Brackets whole n (behind ts))
      (λ a mid. run_arguments k x whole n (and_argument some a) mid) else got some ts

  -- a part of a tuple
  pub run_part : ℕ → Origin → List Token → ℕ → List Token → Out Typed
  run_part zero x whole n ts = bad tired
  run_part (suc k) x whole n ts =
      then_do (run_declareds k x Brackets Brackets ts) (λ names mid.
      unless_stuck (colon_at Brackets mid) mid (
      then_do (run_type k x Brackets whole n (behind mid)) (λ a rest. got (record { names = names; of = a }) rest)))

  pub run_parts : ℕ → Origin → List Token → ℕ → Fields → List Token → Out Fields
  run_parts zero x whole n some ts = bad tired
  run_parts (suc k) x whole n some ts =
      if comma_at Brackets ts then then_do (run_part k x whole n (behind ts))
      (λ one mid. run_parts k x whole n (and_field some one.names one.of) mid) else got some ts

-- a whole written type
abbrev pub run_written : ℕ → Origin → Layout → List Token → Out Written
run_written k x i ts = run_type k x i ts most_levels ts

-- a colon and a type
abbrev pub run_typed : ℕ → Origin → Layout → List Token → Out Written
run_typed k x i ts = unless_stuck (colon_at i ts) ts (unless_stuck (stays i (behind ts)) (behind ts) (run_written k x i (behind ts)))

-- a colon and a type, where there is a colon
abbrev pub run_annotation : ℕ → Origin → Layout → List Token → Out (Option Written)
run_annotation k x i ts = if colon_at i ts then then_do (run_typed k x i ts) (λ a rest. got (Some a) rest) else got None ts

-- ---- definitions

-- `=` and a value, where there is one
abbrev pub run_given : ℕ → Origin → Layout → List Token → Out (Option Term)
run_given k x i ts =
    if equals_at i ts then unless_stuck (stays i (behind ts)) (behind ts)
    (then_do (of_expr (behind ts) (run_expr k x i most_levels (behind ts))) (λ a rest. got (Some a) rest)) else got None ts

-- its first name goes on in the layout first
abbrev pub run_defined : ℕ → Origin → (first : Layout) → Layout → List Token → Out Definition
run_defined k x first i ts =
    then_do (run_declareds k x first i ts) (λ names a.
    then_do (run_pragmas k x i a) (λ pragmas b.
    then_do (run_annotation k x i b) (λ annotation c.
    then_do (run_given k x i c) (λ value rest.
    got (record { names = names; pragmas = pragmas; annotation = annotation; value = value }) rest))))

abbrev pub run_def : ℕ → Origin → Layout → List Token → Out Definition
run_def k x i ts = run_defined k x i i ts

-- definitions, each first on its line behind n spaces
abbrev pub run_defs : ℕ → Origin → ℕ → List Definition → List Token → Out (List Definition)
run_defs zero x n some ts = bad tired
run_defs (suc k) x n some ts =
    if stands_at n ts then then_do (run_defined k x Brackets (Lines n) ts) (λ one mid. run_defs k x n (some ++ one ∷ []) mid) else got some ts

-- a block of definitions behind more than n spaces
abbrev pub run_def_block : ℕ → Origin → ℕ → List Token → Out (List Definition)
run_def_block k x n ts = unless_stuck (deeper_at n ts) ts (run_defs k x (level_at ts) [] ts)

-- ---- declarations of types

abbrev pub run_parent : Origin → Layout → List Token → Out (Option Name)
run_parent x i ts = if of_at i ts then then_do (run_name x i (behind ts)) (λ name rest. got (Some name) rest) else got None ts

-- names of fields and their type
abbrev pub run_field : ℕ → Origin → ℕ → List Token → Out Typed
run_field k x n ts =
    then_do (run_declareds k x Brackets (Lines n) ts)
    (λ names mid. then_do (run_typed k x (Lines n) mid) (λ a rest. got (record { names = names; of = a }) rest))

-- fields of an object, each first on its line behind n spaces
abbrev pub run_fields : ℕ → Origin → ℕ → Fields → List Token → Out Fields
run_fields zero x n some ts = bad tired
run_fields (suc k) x n some ts =
    if stands_at n ts then then_do (run_field k x n ts) (λ one mid. run_fields k x n (and_field some one.names one.of) mid) else got some ts

abbrev pub run_field_block : ℕ → Origin → ℕ → List Token → Out Fields
run_field_block k x n ts = if deeper_at n ts then run_fields k x (level_at ts) no_fields ts else got no_fields ts

abbrev pub run_object : ℕ → Origin → ℕ → Place → Bool → List Token → Out Body
run_object k x n at is_ref ts =
    then_do (run_parent x (Lines n) ts) (λ parent mid. then_do (run_field_block k x n mid) (λ all rest. got (object at is_ref parent all) rest))

-- members behind the first: behind a comma, on the same line, or first on a line behind m spaces
abbrev pub run_more_members : ℕ → Origin → ℕ → List Name → List Token → Out (List Name)
run_more_members zero x m some ts = bad tired
run_more_members (suc k) x m some ts =
    if comma_at (Lines m) ts then then_do (run_name x Brackets (behind ts)) (λ name mid. run_more_members k x m (some ++ name ∷ []) mid) else
    if member_at m ts then then_do (run_name x Brackets ts) (λ name mid. run_more_members k x m (some ++ name ∷ []) mid) else got some ts

-- members on the line of `enum`, or in a block
abbrev pub run_members : ℕ → Origin → ℕ → List Token → Out (List Name)
run_members k x n ts =
    if deeper_at n ts then then_do (run_name x Brackets ts) (λ name mid. run_more_members k x (level_at ts) (name ∷ []) mid) else run_names k x (Lines n) ts

abbrev pub run_enum : ℕ → Origin → ℕ → Place → List Token → Out Body
run_enum k x n at ts = then_do (run_members k x n ts) (λ members rest. got (enum at members) rest)

abbrev pub run_distinct : ℕ → Origin → ℕ → Place → List Token → Out Body
run_distinct k x n at ts = unless_stuck (stays (Lines n) ts) ts (then_do (run_written k x (Lines n) ts) (λ a rest. got (distinct at a) rest))

abbrev pub run_alias : ℕ → Origin → ℕ → List Token → Out Body
run_alias k x n ts = then_do (run_written k x (Lines n) ts) (λ a rest. got (alias a) rest)

abbrev pub run_body_by : ℕ → BodyLead → Origin → ℕ → Place → List Token → Out Body
run_body_by k B.Object x n at ts = run_object k x n at false (behind ts)
run_body_by k B.RefObject x n at ts = run_object k x n at true (behind (behind ts))
run_body_by k B.Enum x n at ts = run_enum k x n at (behind ts)
run_body_by k B.Distinct x n at ts = run_distinct k x n at (behind ts)
run_body_by k B.Alias x n at ts = run_alias k x n ts

abbrev pub run_body : ℕ → Origin → ℕ → List Token → Out Body
run_body k x n [] = bad (stuck_at [])
run_body k x n (tok ∷ ts) = run_body_by k (body_lead (Lines n) (tok ∷ ts)) x n (place_at x tok) (tok ∷ ts)

-- its name goes on in the layout first
abbrev pub run_declaration : ℕ → Origin → (first : Layout) → ℕ → List Token → Out Declaration
run_declaration k x first n ts =
    then_do (run_declared x first (Lines n) ts) (λ name a.
    then_do (run_generics k x (Lines n) a) (λ parameters b.
    unless_stuck (equals_at (Lines n) b) b (
    unless_stuck (stays (Lines n) (behind b)) (behind b) (
    then_do (run_body k x n (behind b)) (λ body rest.
    got (record { name = name; parameters = parameters; body = body }) rest)))))

-- declarations, each first on its line behind n spaces
abbrev pub run_declarations : ℕ → Origin → ℕ → List Declaration → List Token → Out (List Declaration)
run_declarations zero x n some ts = bad tired
run_declarations (suc k) x n some ts =
    if stands_at n ts then then_do (run_declaration k x Brackets n ts) (λ one mid. run_declarations k x n (some ++ one ∷ []) mid) else got some ts

-- what stands behind `type`: a block of declarations, or one on its line
abbrev pub run_types : ℕ → Origin → ℕ → List Token → Out (List Declaration)
run_types k x n ts =
    if deeper_at n ts then run_declarations k x (level_at ts) [] ts else then_do (run_declaration k x (Lines n) n ts) (λ one rest. got (one ∷ []) rest)

-- ---- heads of procedures

abbrev pub run_param : ℕ → Origin → List Token → Out Parameters
run_param k x ts =
    then_do (run_names k x Brackets ts) (λ names mid.
    unless_stuck (colon_at Brackets mid) mid (
    then_do (run_written k x Brackets (past_mode x (behind mid))) (λ a rest.
    got (record { names = names; mode = mode_at x (behind mid); of = a }) rest)))

abbrev pub run_more_params : ℕ → Origin → List Parameters → List Token → Out (List Parameters)
run_more_params zero x some ts = bad tired
run_more_params (suc k) x some ts =
    if separator_at ts then then_do (run_param k x (behind ts)) (λ one mid. run_more_params k x (some ++ one ∷ []) mid) else unless_stuck
    (closes_at Round ts) ts (got some (behind ts))

-- parameters in parentheses, where there are any
abbrev pub run_params : ℕ → Origin → Layout → List Token → Out (List Parameters)
run_params k x i ts =
    if opens_at i Round ts then
    if closes_at Round (behind ts) then got [] (behind (behind ts)) else
    then_do (run_param k x (behind ts)) (λ one mid. run_more_params k x (one ∷ []) mid)
    else got [] ts

-- what stands behind `proc`, up to its `=`
abbrev pub run_head : ℕ → Origin → Layout → List Token → Out Head
run_head k x i ts =
    then_do (run_shown x i (proc_name_on i ts) ts) (λ name a.
    then_do (run_generics k x i a) (λ generics b.
    then_do (run_params k x i b) (λ params c.
    then_do (run_annotation k x i c) (λ gives d.
    then_do (run_pragmas k x i d) (λ pragmas rest.
    got (record { name = name; generics = generics; params = params; gives = gives; pragmas = pragmas }) rest)))))
