-- What rules make of parts that lend well.
use Rattle.std.proofs.Common.{◌≡◌, ℕ, Bool, true, false, List, [], ◌∷◌, ◌++◌, refl, sym, subst, Option, Some, None}
use Rattle.std.specs.Prelude.{pos, ◌||◌}
use Rattle.arc_base.specs.declared.place.Place.{Place}
use Rattle.nim_tree.specs.declared.expr.UnaryOp.{UnaryOp}
use Rattle.nim_tree.specs.declared.expr.BinaryOp.{BinaryOp}
use Rattle.nim_types.specs.Types as type
use Rattle.nim_types.specs.Types.{Ty, Tys, Fact, Facts, fact_of, same}
use Rattle.nim_program.specs.declared.expr.Node.{Node}
use Rattle.nim_program.specs.declared.operation.Operation.{Operation}
use Rattle.nim_program.specs.declared.operation.Operation.TheVariants as operation
use Rattle.nim_program.specs.declared.operation.UnaryOperator.{UnaryOperator}
use Rattle.nim_program.specs.declared.operation.Comparison.{Comparison}
use Rattle.nim_program.specs.declared.program.Mode.{Mode}
use Rattle.nim_program.specs.declared.program.Mode.TheVariants.{Plain, Sink, Var}
use Rattle.nim_program.specs.Program as P
use Rattle.nim_program.specs.Program.{type_of, type_at, Expr, Literal, Number, Path, Args}
use Rattle.nim_program.specs.Nodes.{two_values}
use Rattle.expr_rules.specs.Env as env_of
use Rattle.expr_rules.specs.Env.{Env, Known, Parameter, Procedure, callable, known_as}
use Rattle.expr_rules.specs.Answers.{Answer, Typed, place_in, Valued, node, Operand, value, open_sequence, a_type, the_input, settled, open_as}
use Rattle.expr_rules.specs.Answers.{only_if, exprs_of, gives, no_fit}
use Rattle.expr_rules.specs.Paths.{path_of, overlap, overlaps_any}
use Rattle.expr_rules.specs.Calls.{Fit, onto, arguments_for, if_fits, fitting, no_overlap, var_argument, Argument, argument_by, argument_before, paths_with}
use Rattle.expr_rules.specs.Calls.{by_value, by_var, arguments_by, comparisons, comparison_named, borrowed_call, called, one_of}
use Rattle.expr_rules.specs.Constants.{constant_at}
use Rattle.expr_rules.specs.Constructions.{settled_as, from_distinct, is_some_type, base_of, source_of, or_from, convert_by, empty_object, conversion_rule}
use Rattle.expr_rules.specs.Constructions.{field_named, Found, read_part, nth_type, numbered_part, element_type, element_of, indexed, index_rule}
use Rattle.expr_rules.specs.Names.{unless_type, call_named, made_by, new_sequence_rule, can_show, shown_before, all_shown, echo_by, echo_rule, call_rule}
use Rattle.expr_rules.specs.Names.{if_field, field_of}
use Rattle.expr_rules.specs.Builtins.{as_value, in_place, to_write, BuiltIn, on_nothing, on_one, on_place_and_value, on_places, on_type}
use Rattle.expr_rules.specs.Builtins.{on_input, on_input_and_place, operations_named, Done, first_settled, settled_in, with_type}
use Rattle.expr_rules.specs.Builtins.{is_int, is_echo, is_default, with_value, on_operands, or_later, first_row, operation_by, operation_rule}
use Rattle.expr_rules.specs.Operators.{unary_of, unary_by, unary_rule, Meaning, does, stops_early, means_nothing, meaning_of}
use Rattle.expr_rules.specs.Operators.{borrowed_name, borrowed_by, binary_by, other_settled, binary_rule}
use Rattle.lending_laws.specs.Writing.{begins_at, lent_in, written_by, NoneBegins}
use Rattle.lending_laws.specs.Apart.{has_fields, ActLends, PartsFrom, PartWays, ExprLends, PathLends, ArgsLend}
use Rattle.lending_laws.proofs.Sure.{Sure, s_ok, s_err, sure_then, sure_if, sure_any}
use Rattle.lending_laws.proofs.Writable.{EachWritable, writes_sure, measures, RowFine, AllRowsFine, rows_fine}

-- ---- paths that lie apart from all before them

abbrev FromEach : (before paths : List Path) → Type 0
FromEach [] paths = Unit {0}
FromEach (path ∷ before) paths = PartsFrom path paths × FromEach before paths

from_none : (before : List Path) → FromEach before []
from_none [] = tt
from_none (path ∷ before) = (tt, from_none before)

-- the last of those before
last_of : (before : List Path) (path : Path) (paths : List Path) → FromEach (before ++ path ∷ []) paths → FromEach before paths × PartsFrom path paths
last_of [] path paths h = (tt, h.0)
last_of (first ∷ before) path paths h = let k = last_of before path paths h.1 in ((h.0, k.0), k.1)

-- a further one
first_of : (before : List Path) (path : Path) (paths : List Path) → overlaps_any path before ≡ false → FromEach before paths
    → FromEach before (path ∷ paths)
first_of [] path paths e h = tt
first_of (other ∷ before) path paths e h =
    let k = neither (overlap path other) (overlaps_any path before) e in
    ((k.0, h.0), first_of before path paths k.1 h.1)
  where
    neither : (a b : Bool) → (a || b) ≡ false → (a ≡ false) × (b ≡ false)
    neither true b e = cc
    neither false b e = (refl, e)

-- one that is written, and overlaps none before
abbrev IsVar : List Path → Valued → Path → Type 0
IsVar before v path = (path ≡ path_of v.expr) × ((overlaps_any path before ≡ false) × (v.writable ≡ true))

var_parts : (before : List Path) (v : Valued) → Sure (IsVar before v) (var_argument before v)
var_parts before v = by_tests v.writable (overlaps_any (path_of v.expr) before) refl refl
  where
    by_tests : (a b : Bool) → v.writable ≡ a → overlaps_any (path_of v.expr) before ≡ b
        → Sure (IsVar before v) (no_overlap a b (place_in v.expr) (path_of v.expr))
    by_tests false b w e = s_err
    by_tests true true w e = s_err
    by_tests true false w e = s_ok (refl, (e, w))

module _ (kept : ℕ → Bool) where
  abbrev Lends : Expr → Type 0
  Lends e = ExprLends kept e

  -- it begins at no place that is kept
  abbrev pub Unkept : Path → Type 0
  Unkept path = begins_at kept path ≡ false

  -- a value that is no part of a place
  abbrev pub Made : Expr → Type 0
  Made e = ExprLends kept e × Unkept (path_of e)

  -- what may be written of it; and where its type has fields, that of its expression has them
  abbrev pub ValueLends : Valued → Type 0
  ValueLends v =
      ExprLends kept v.expr × (v.writable ≡ true → Unkept (path_of v.expr)) × (has_fields (Some v.of) ≡ true → has_fields (type_of v.expr) ≡ true)

  -- ---- operands

  abbrev pub OperandLends : Operand → Type 0
  OperandLends (value v) = ValueLends v
  OperandLends (open_sequence at n) = Unit {0}
  OperandLends (a_type t) = Unit {0}
  OperandLends the_input = Unit {0}

  abbrev pub AllLend : List Operand → Type 0
  AllLend [] = Unit {0}
  AllLend (o ∷ os) = OperandLends o × AllLend os

  abbrev pub ValuesLend : List Valued → Type 0
  ValuesLend [] = Unit {0}
  ValuesLend (v ∷ vs) = ValueLends v × ValuesLend vs

  -- of what may be there
  abbrev pub IfLends : Option Valued → Type 0
  IfLends None = Unit {0}
  IfLends (Some v) = ValueLends v

  pub path_parts : (e : Expr) → Lends e → PathLends kept (path_of e)
  path_parts (P.Read path) h = h
  path_parts (P.Apply node ty act operands) h = h
  path_parts (P.Early node ty short a b) h = h
  path_parts (P.Choose node ty chooser parts) h = h

  path_fields : (e : Expr) → has_fields (type_of e) ≡ true → has_fields (type_at (path_of e)) ≡ true
  path_fields (P.Read path) h = h
  path_fields (P.Apply node ty act operands) h = h
  path_fields (P.Early node ty short a b) h = h
  path_fields (P.Choose node ty chooser parts) h = h

  pub exprs_part : (vs : List Valued) → ValuesLend vs → ArgsLend kept (exprs_of vs)
  exprs_part [] h = tt
  exprs_part (v ∷ vs) h = (h.0.0, exprs_part vs h.1)

  -- values are no paths
  pub exprs_spare : (vs : List Valued) → NoneBegins kept (lent_in (exprs_of vs))
  exprs_spare [] = tt
  exprs_spare (v ∷ vs) = exprs_spare vs

  only_parts : (b : Bool) (v : Valued) → ValueLends v → IfLends (only_if b v)
  only_parts true v h = h
  only_parts false v h = tt

  settled_parts : (ty : Ty) (o : Operand) → OperandLends o → IfLends (settled ty o)
  settled_parts ty (value w) h = only_parts (type.same ty w.of) w h
  settled_parts (type.sequence t) (open_sequence at n) h = (((tt, tt), tt), λ w. refl, λ is. cc)
  settled_parts ty (open_sequence at n) h = tt
  settled_parts ty (a_type t) h = tt
  settled_parts ty the_input h = tt

  -- ---- what acts write

  spared : (o : Operation) (operands : Args) → NoneBegins kept (lent_in operands) → NoneBegins kept (written_by (P.Doing o) operands)
  spared (operation.Measure measure) operands h = tt
  spared _ operands h = h

  read_spared : (o : Operation) (operands : Args) → measures o ≡ true → NoneBegins kept (written_by (P.Doing o) operands)
  read_spared (operation.Measure measure) operands e = tt
  read_spared _ operands e = cc

  -- ---- operators

  pub unary_parts : (n : ℕ) (at : Place) (op : UnaryOp) (v : Valued) → Lends v.expr → Sure Made (unary_rule n at op v)
  unary_parts n at op v h = by_operator (unary_of op v.of)
    where
      by_operator : (o : Option UnaryOperator) → Sure Made (unary_by n at o v)
      by_operator (Some o) = s_ok (((tt, tt), (h, tt)), refl)
      by_operator None = s_err

  -- ---- arguments of a call

  abbrev pub ArgumentsLend : List (Parameter × Valued) → Type 0
  ArgumentsLend [] = Unit {0}
  ArgumentsLend (a ∷ xs) = ValueLends a.1 × ArgumentsLend xs

  -- of which there may be none
  abbrev IfAllLend : Option (List (Parameter × Valued)) → Type 0
  IfAllLend None = Unit {0}
  IfAllLend (Some xs) = ArgumentsLend xs

  onto_parts : (a : Option Valued) (b : Option (List (Parameter × Valued))) (p : Parameter) → IfLends a → IfAllLend b → IfAllLend (onto p a b)
  onto_parts (Some v) (Some bs) p h k = (h, k)
  onto_parts (Some v) None p h k = tt
  onto_parts None (Some bs) p h k = tt
  onto_parts None None p h k = tt

  fits_part : (ps : List Parameter) (os : List Operand) → AllLend os → IfAllLend (arguments_for ps os)
  fits_part [] [] h = tt
  fits_part (p ∷ ps) (o ∷ os) h = onto_parts (settled p.of o) (arguments_for ps os) p (settled_parts p.of o h.0) (fits_part ps os h.1)
  fits_part [] (o ∷ os) h = tt
  fits_part (p ∷ ps) [] h = tt

  abbrev pub FitsLend : List Fit → Type 0
  FitsLend [] = Unit {0}
  FitsLend (fit ∷ rest) = ArgumentsLend fit.arguments × FitsLend rest

  pub fitting_parts : (procs : List Procedure) (os : List Operand) → AllLend os → FitsLend (fitting procs os)
  fitting_parts [] os h = tt
  fitting_parts (p ∷ rest) os h = by_arguments (arguments_for p.params os) (fits_part p.params os h) (fitting_parts rest os h)
    where
      by_arguments : (a : Option (List (Parameter × Valued))) → IfAllLend a → FitsLend (fitting rest os) → FitsLend (if_fits p a (fitting rest os))
      by_arguments None k more = more
      by_arguments (Some xs) k more = (k, more)

  -- the argument by itself: what is handed as a path overlaps none before
  abbrev ArgumentLends : List Path → Argument → Type 0
  ArgumentLends before (by_value e) = Lends e
  ArgumentLends before (by_var path) = PathLends kept path × ((overlaps_any path before ≡ false) × Unkept path)

  argument_parts : (before : List Path) (mode : Mode) (v : Valued) → ValueLends v → Sure (ArgumentLends before) (argument_by before mode v)
  argument_parts before Var v h =
      sure_then (var_parts before v)
      (λ path k. s_ok (subst (PathLends kept) (sym k.0) (path_parts v.expr h.0), (k.1.0, subst Unkept (sym k.0) (h.1 k.1.1))))
  argument_parts before Sink v h = s_ok h.0
  argument_parts before Plain v h = s_ok h.0

  abbrev AllArgsLend : List Path → Args → Type 0
  AllArgsLend before args = FromEach before (lent_in args) × (PartWays (lent_in args) × (NoneBegins kept (lent_in args) × ArgsLend kept args))

  arguments_part : (before : List Path) (xs : List (Parameter × Valued)) → ArgumentsLend xs → Sure (AllArgsLend before) (arguments_by before xs)
  arguments_part before [] h = s_ok (from_none before, (tt, (tt, tt)))
  arguments_part before (a ∷ xs) h =
      sure_then (argument_parts before a.0.mode a.1 h.0)
      (λ first f. sure_then (arguments_part (paths_with before first) xs h.1) (λ more g. s_ok (before_more first more f g)))
    where
      before_more : (first : Argument) (more : Args) → ArgumentLends before first → AllArgsLend (paths_with before first) more
          → AllArgsLend before (argument_before first more)
      before_more (by_value e) more f g = (g.0, (g.1.0, (g.1.1.0, (f, g.1.1.1))))
      before_more (by_var path) more f g =
          let k = last_of before path (lent_in more) g.0 in
          (first_of before path (lent_in more) f.1.0 k.0, ((k.1, g.1.0), ((f.1.1, g.1.1.0), (f.0, g.1.1.1))))

  borrowed_parts : (n : ℕ) (at : Place) (c : Option Comparison) (xs : List (Parameter × Valued)) → ArgumentsLend xs
      → Sure Made (borrowed_call n at c xs)
  borrowed_parts n at (Some c) (a ∷ b ∷ []) h = s_ok (((tt, tt), (h.0.0, (h.1.0.0, tt))), refl)
  borrowed_parts n at None (a ∷ []) h = s_ok (((tt, tt), (h.0.0, tt)), refl)
  borrowed_parts n at _ _ h = s_err

  called_parts : (n : ℕ) (at : Place) (b : Bool) (x : List ℕ) (fit : Fit) → ArgumentsLend fit.arguments → Sure Made (called n at b x fit)
  called_parts n at true x fit h = borrowed_parts n at (comparison_named x comparisons) fit.arguments h
  called_parts n at false x fit h =
      sure_then (arguments_part [] fit.arguments h) (λ args f. s_ok (((f.1.0, f.1.1.0), f.1.1.1), refl))

  pub one_parts : (n : ℕ) (at : Place) (x : List ℕ) (fits : List Fit) (otherwise : Answer Expr) → FitsLend fits → Sure Made otherwise
      → Sure Made (one_of n at x fits otherwise)
  one_parts n at x [] otherwise h f = f
  one_parts n at x (fit ∷ []) otherwise h f = called_parts n at fit.callee.borrowed x fit h.0
  one_parts n at x (fit ∷ other ∷ rest) otherwise h f = s_err

  -- ---- operators between operands

  binary_parts_by : (env : Env) (n : ℕ) (at : Place) (op : BinaryOp) (m : Meaning) (v w : Valued) → ValueLends v → ValueLends w
      → Sure Made (binary_by env n at op m v w)
  binary_parts_by env n at op (does o t) v w h k = s_ok (((tt, spared o (two_values v.expr w.expr) tt), (h.0, (k.0, tt))), refl)
  binary_parts_by env n at op (stops_early s) v w h k = s_ok ((h.0, k.0), refl)
  binary_parts_by env n at op means_nothing v w h k = by_name (borrowed_name op)
    where
      by_name : (x : Option (List ℕ)) → Sure Made (borrowed_by env n at x v w)
      by_name None = s_err
      by_name (Some x) = one_parts n at x _ _ (fitting_parts (callable (known_as env x)) (value v ∷ value w ∷ []) (h, (k, tt))) s_err

  other_parts : (ty : Ty) (p : Place) (m : ℕ) → Sure ValueLends (other_settled (open_as ty p m) p)
  other_parts (type.sequence t) p m = s_ok (((tt, tt), tt), λ w. refl, λ is. cc)
  other_parts _ p m = s_err

  pub binary_parts : (env : Env) (n : ℕ) (at : Place) (op : BinaryOp) (o r : Operand) → OperandLends o → OperandLends r
      → Sure Made (binary_rule env n at op o r)
  binary_parts env n at op (value v) (value w) h k = binary_parts_by env n at op (meaning_of op v.of w.of) v w h k
  binary_parts env n at op (value v) (open_sequence p m) h k =
      sure_then (other_parts v.of p m) (λ w e. binary_parts_by env n at op (meaning_of op v.of w.of) v w h e)
  binary_parts env n at op (open_sequence p m) (value w) h k =
      sure_then (other_parts w.of p m) (λ v e. binary_parts_by env n at op (meaning_of op v.of w.of) v w e k)
  binary_parts env n at op (open_sequence p m) (open_sequence q j) h k = s_err
  binary_parts env n at op (open_sequence p m) (a_type t) h k = s_err
  binary_parts env n at op (open_sequence p m) the_input h k = s_err
  binary_parts env n at op (value v) (a_type t) h k = s_err
  binary_parts env n at op (value v) the_input h k = s_err
  binary_parts env n at op (a_type t) r h k = s_err
  binary_parts env n at op the_input r h k = s_err

  -- ---- built-in operations

  -- where what it writes may be written
  abbrev IfDone : Option Done → Type 0
  IfDone None = Unit {0}
  IfDone (Some d) = EachWritable d.writes → Made d.expr

  done_if : (d : Done) (b : Bool) → (EachWritable d.writes → Made d.expr) → IfDone (only_if b d)
  done_if d true h = h
  done_if d false h = tt

  done_with : (v : Option Valued) (go : Valued → Done) → IfLends v → ((u : Valued) → ValueLends u → EachWritable (go u).writes → Made (go u).expr)
      → IfDone (with_value v go)
  done_with None go k h = tt
  done_with (Some u) go k h = h u k

  done_of : (a : Option (Option Ty)) (go : Option Ty → Done) → ((ty : Option Ty) → EachWritable (go ty).writes → Made (go ty).expr)
      → IfDone (with_type a go)
  done_of None go h = tt
  done_of (Some ty) go h = h ty

  settled_in_parts : (ts : List Ty) (o : Operand) → OperandLends o → IfLends (settled_in ts o)
  settled_in_parts [] o h = tt
  settled_in_parts (t ∷ ts) o h = by_first (settled t o) (settled_parts t o h) (settled_in_parts ts o h)
    where
      by_first : (a : Option Valued) → IfLends a → IfLends (settled_in ts o) → IfLends (first_settled a (settled_in ts o))
      by_first (Some w) k more = k
      by_first None k more = more

  of_act : (act : P.Act) → ActLends kept act P.NoArg
  of_act (P.Doing o) = (tt, spared o P.NoArg tt)
  of_act (P.Building fields) = (tt, tt)
  of_act (P.Giving literal) = (tt, tt)
  of_act (P.Calling proc types) = (tt, tt)

  row_parts : (k : Node) (row : BuiltIn) (os : List Operand) → RowFine row → AllLend os → IfDone (on_operands k row os)
  row_parts k (on_nothing o) [] f h = λ w. (((tt, spared o P.NoArg tt), tt), refl)
  row_parts k (on_one as_value gives o) (value v ∷ []) f h = done_of (gives v.of) _ (λ ty w. (((tt, spared o _ tt), (h.0.0, tt)), refl))
  row_parts k (on_one in_place gives o) (value v ∷ []) f h =
      done_of (gives v.of) _ (λ ty w. (((tt, read_spared o _ f), (path_parts v.expr h.0.0, tt)), refl))
  row_parts k (on_one to_write gives o) (value v ∷ []) f h =
      done_of (gives v.of) _ (λ ty w. (((tt, spared o _ (h.0.1 w.0, tt)), (path_parts v.expr h.0.0, tt)), refl))
  row_parts k (on_place_and_value goes o) (value v ∷ q ∷ []) f h =
      done_with (settled_in (goes v.of) q) _ (settled_in_parts (goes v.of) q h.1.0)
      (λ u e w. (((tt, spared o _ (h.0.1 w.0, tt)), (path_parts v.expr h.0.0, (e.0, tt))), refl))
  row_parts k (on_places o) (value v ∷ value u ∷ []) f h =
      done_if _ (same v.of u.of)
      (λ w. (((tt, spared o _ (h.0.1 w.0, (h.1.0.1 w.1.0, tt))), (path_parts v.expr h.0.0, (path_parts u.expr h.1.0.0, tt))), refl))
  row_parts k (on_type gives act) (a_type t ∷ []) f h = done_of (gives t) _ (λ ty w. ((of_act act, tt), refl))
  row_parts k (on_input ty o) (the_input ∷ []) f h = λ w. (((tt, spared o P.NoArg tt), tt), refl)
  row_parts k (on_input_and_place test ty o) (the_input ∷ value v ∷ []) f h =
      done_if _ (test v.of) (λ w. (((tt, spared o _ (h.1.0.1 w.0, tt)), (path_parts v.expr h.1.0.0, tt)), refl))
  row_parts k row os f h = tt

  first_parts : (k : Node) (rows : List BuiltIn) (os : List Operand) → AllRowsFine rows → AllLend os → IfDone (first_row k rows os)
  first_parts k [] os f h = tt
  first_parts k (row ∷ rest) os f h = by_answer (on_operands k row os) (row_parts k row os f.0 h) (first_parts k rest os f.1 h)
    where
      by_answer : (a : Option Done) → IfDone a → IfDone (first_row k rest os) → IfDone (or_later a (first_row k rest os))
      by_answer (Some d) g more = g
      by_answer None g more = more

  -- ---- calls by a name

  no_fits : (at : Place) (os : List Operand) → Sure Made (no_fit at os)
  no_fits at [] = s_err
  no_fits at (open_sequence p n ∷ rest) = s_err
  no_fits at (value v ∷ rest) = no_fits at rest
  no_fits at (a_type t ∷ rest) = no_fits at rest
  no_fits at (the_input ∷ rest) = no_fits at rest

  source_parts : (s : Option Ty) (o : Operand) → OperandLends o → IfLends (settled_as s o)
  source_parts None o h = tt
  source_parts (Some t) o h = settled_parts t o h

  distinct_parts : (facts : Facts) (ty : Ty) (o : Operand) → OperandLends o → IfLends (from_distinct facts ty o)
  distinct_parts facts ty (value v) h = only_parts (is_some_type (base_of facts v.of) ty) v h
  distinct_parts facts ty (open_sequence at n) h = tt
  distinct_parts facts ty (a_type t) h = tt
  distinct_parts facts ty the_input h = tt

  either_parts : (a b : Option Valued) → IfLends a → IfLends b → IfLends (or_from a b)
  either_parts (Some v) b f g = f
  either_parts None b f g = g

  convert_parts : (n : ℕ) (at : Place) (ty : Ty) (o : Operand) (a : Option Valued) → IfLends a → Sure Made (convert_by n at ty o a)
  convert_parts n at ty o (Some v) f = s_ok (((tt, tt), (f.0, tt)), refl)
  convert_parts n at ty o None f = no_fits at (o ∷ [])

  empty_parts : (n : ℕ) (at : Place) (ty : Ty) (f : Option Fact) → Sure Made (empty_object n at ty f)
  empty_parts n at ty (Some (type.fields all resource)) = s_ok (((tt, tt), tt), refl)
  empty_parts n at ty _ = s_err

  conversion_parts : (env : Env) (n : ℕ) (at : Place) (ty : Ty) (os : List Operand) → AllLend os → Sure Made (conversion_rule env n at ty os)
  conversion_parts env n at ty [] h = empty_parts n at ty (fact_of env.facts ty)
  conversion_parts env n at ty (o ∷ []) h =
      convert_parts n at ty o _ (either_parts (settled_as (source_of env.facts ty) o) (from_distinct env.facts ty o)
      (source_parts (source_of env.facts ty) o h.0) (distinct_parts env.facts ty o h.0))
  conversion_parts env n at ty (o ∷ q ∷ rest) h = no_fits at (o ∷ q ∷ rest)

  operation_parts : (k : Node) (x : List ℕ) (os : List Operand) → AllLend os → Sure Made (operation_rule k x os)
  operation_parts k x os h = by_row (first_row k (operations_named x) os) (first_parts k (operations_named x) os (rows_fine x) h)
    where
      by_row : (a : Option Done) → IfDone a → Sure Made (operation_by k.at os a)
      by_row None f = no_fits k.at os
      by_row (Some d) f = sure_then (writes_sure d.writes) (λ u i. s_ok (f i))

  type_parts : (env : Env) (n : ℕ) (at : Place) (k : Known) (x : List ℕ) (os : List Operand) → AllLend os
      → Sure Made (unless_type env n at k x os)
  type_parts env n at (env_of.a_type ty) x os h = conversion_parts env n at ty os h
  type_parts env n at env_of.unknown x os h = operation_parts (node n at) x os h
  type_parts env n at (env_of.a_variable p t w g) x os h = operation_parts (node n at) x os h
  type_parts env n at (env_of.a_constant ty l) x os h = operation_parts (node n at) x os h
  type_parts env n at (env_of.procedures all) x os h = operation_parts (node n at) x os h
  type_parts env n at env_of.a_pending_type x os h = operation_parts (node n at) x os h
  type_parts env n at env_of.the_input x os h = operation_parts (node n at) x os h

  named_parts : (env : Env) (n : ℕ) (at : Place) (x : List ℕ) (os : List Operand) → AllLend os → Sure Made (call_named env n at x os)
  named_parts env n at x os h =
      sure_if (is_default x) (operation_parts (node n at) x os h)
      (one_parts n at x _ _ (fitting_parts (callable (known_as env x)) os h) (type_parts env n at (known_as env x) x os h))

  pub made_parts : (n : ℕ) (at : Place) (ty : Ty) (os : List Operand) → AllLend os → Sure Made (new_sequence_rule n at ty os)
  made_parts n at ty [] h = s_err
  made_parts n at ty (o ∷ q ∷ rest) h = no_fits at (o ∷ q ∷ rest)
  made_parts n at ty (o ∷ []) h = by_int (settled type.int o) (settled_parts type.int o h.0)
    where
      by_int : (a : Option Valued) → IfLends a → Sure Made (made_by n at ty (o ∷ []) a)
      by_int (Some v) e = s_ok (((tt, tt), (e.0, tt)), refl)
      by_int None e = no_fits at (o ∷ [])

  abbrev IfValuesLend : Option (List Valued) → Type 0
  IfValuesLend None = Unit {0}
  IfValuesLend (Some vs) = ValuesLend vs

  shown_first : (b : Bool) (v : Valued) (more : Option (List Valued)) → ValueLends v → IfValuesLend more → IfValuesLend (shown_before b v more)
  shown_first true v (Some ws) h k = (h, k)
  shown_first true v None h k = tt
  shown_first false v more h k = tt

  shown_parts : (env : Env) (os : List Operand) → AllLend os → IfValuesLend (all_shown env os)
  shown_parts env [] h = tt
  shown_parts env (value v ∷ os) h = shown_first (can_show env v) v (all_shown env os) h.0 (shown_parts env os h.1)
  shown_parts env (open_sequence at n ∷ os) h = tt
  shown_parts env (a_type t ∷ os) h = tt
  shown_parts env (the_input ∷ os) h = tt

  echo_parts : (env : Env) (n : ℕ) (at : Place) (os : List Operand) → AllLend os → Sure Made (echo_rule env n at os)
  echo_parts env n at os h = by_shown (all_shown env os) (shown_parts env os h)
    where
      by_shown : (a : Option (List Valued)) → IfValuesLend a → Sure Made (echo_by n at os a)
      by_shown (Some vs) e = s_ok (((tt, exprs_spare vs), exprs_part vs e), refl)
      by_shown None e = no_fits at os

  pub call_parts : (env : Env) (n : ℕ) (at : Place) (x : List ℕ) (os : List Operand) → AllLend os → Sure Made (call_rule env n at x os)
  call_parts env n at x os h = sure_if (is_echo x) (echo_parts env n at os h) (named_parts env n at x os h)

  -- ---- fields and elements

  -- a part of a value
  abbrev pub PartLends : Valued → Expr → Type 0
  PartLends v e = ExprLends kept e × (Unkept (path_of v.expr) → Unkept (path_of e))

  abbrev pub OperandUnkept : Operand → Type 0
  OperandUnkept (value v) = Unkept (path_of v.expr)
  OperandUnkept _ = Unit {0}

  abbrev pub FieldLends : Operand → Option Expr → Type 0
  FieldLends o None = Unit {0}
  FieldLends o (Some e) = ExprLends kept e × (OperandUnkept o → Unkept (path_of e))

  -- what has a field of a name
  field_has : (env : Env) (x : List ℕ) (ty : Ty) (g : Found) → field_named env x ty ≡ Some g → has_fields (Some ty) ≡ true
  field_has env x (type.object key given) g e = refl
  field_has env x (type.tuple names ts) g e = refl
  field_has env x _ g e = cc

  pub field_parts : (env : Env) (n : ℕ) (at : Place) (x : List ℕ) (o : Operand) → OperandLends o → FieldLends o (field_of env n at x o)
  field_parts env n at x (value v) h = by_field (field_named env x v.of) refl
    where
      by_field : (a : Option Found) → field_named env x v.of ≡ a → FieldLends (value v) (if_field n at v a)
      by_field (Some g) e = ((path_fields v.expr (h.2 (field_has env x v.of g e)), path_parts v.expr h.0), λ u. u)
      by_field None e = tt
  field_parts env n at x (open_sequence p k) h = tt
  field_parts env n at x (a_type t) h = tt
  field_parts env n at x the_input h = tt

  abbrev pub TypedLends : Valued → Typed → Type 0
  TypedLends v x = PartLends v x.expr

  element_parts : (facts : Facts) (n k : ℕ) (at : Place) (v i : Valued) (t : Option Ty) → Lends v.expr → Lends i.expr
      → Sure (TypedLends v) (element_of facts n k at v i t)
  element_parts facts n k at v i (Some t) h g = s_ok ((path_parts v.expr h, g), λ u. u)
  element_parts facts n k at v i None h g = s_err

  part_parts : (n : ℕ) (at : Place) (v : Valued) (ts : Tys) (l : Literal) → Lends v.expr → has_fields (type_of v.expr) ≡ true
      → Sure (PartLends v) (numbered_part n at v ts l)
  part_parts n at v ts (Number (pos i)) h f = by_type (nth_type i ts)
    where
      by_type : (t : Option Ty) → Sure (PartLends v) (read_part n at v i t)
      by_type (Some t) = s_ok ((path_fields v.expr f, path_parts v.expr h), λ u. u)
      by_type None = s_err
  part_parts n at v ts _ h f = s_err

  indexed_parts : (env : Env) (n m k : ℕ) (at : Place) (v : Valued) (t : Ty) (i : Valued) → t ≡ v.of → ValueLends v → Lends i.expr
      → Sure (TypedLends v) (indexed env n m k at v t i)
  indexed_parts env n m k at v (type.tuple names ts) i e h g =
      sure_then (sure_then (sure_any (constant_at env.facts at i)) (λ l u. part_parts n at v ts l h.0
      (h.2 (subst (λ ty. has_fields (Some ty) ≡ true) e refl)))) (λ x f. s_ok f)
  indexed_parts env n m k at v t i e h g = element_parts env.facts n k at v i (element_type t) h.0 g

  pub index_parts : (env : Env) (n m k : ℕ) (at : Place) (v i : Valued) → ValueLends v → Lends i.expr
      → Sure (TypedLends v) (index_rule env n m k at v i)
  index_parts env n m k at v i h g = sure_if (is_int i.of) (indexed_parts env n m k at v v.of i refl h g) s_err
