-- What a call means: a procedure, what a procedure borrows, a conversion, a built-in operation, or `echo`. And the ways in which
-- it means nothing.
use Rattle.std.specs.Prelude.{◌≡◌, ℕ, Bool, true, false, List, [], ◌∷◌, codes, Option, Some, None}
use Rattle.arc_base.specs.declared.place.Place.{Place}
use Rattle.arc_base.specs.declared.place.Code.{Code}
use Rattle.arc_base.specs.declared.place.Code.TheVariants.{NotTyped, Ambiguous, NotAssignable}
use Rattle.nim_types.specs.Types as type
use Rattle.nim_types.specs.Types.{Ty, Field, same, fact_of}
use Rattle.nim_program.specs.declared.expr.Node.{Node}
use Rattle.nim_program.specs.declared.operation.Comparison.{Comparison}
use Rattle.nim_program.specs.declared.operation.Operation.{Operation}
use Rattle.nim_program.specs.Program.{Expr, Apply, Act, Doing, Args, NoArg, ByPath}
use Rattle.nim_program.specs.Nodes.{one_path, path_and_value, doing, acting, call, compare, show, convert, construct, echo}
use Rattle.expr_rules.specs.Env.{Env, unknown, a_type, callable, known_as, Parameter, Procedure}
use Rattle.expr_rules.specs.Answers.{node, place_in, Valued, Operand, value, open_sequence, the_input, exprs_of}
use Rattle.expr_rules.specs.Answers as operand
use Rattle.expr_rules.specs.Paths.{path_of}
use Rattle.expr_rules.specs.Calls.{comparisons, comparison_named}
use Rattle.expr_rules.specs.Builtins.{Hand, written_by, handed, BuiltIn, on_nothing, on_one, on_place_and_value, on_places, on_type, on_input}
use Rattle.expr_rules.specs.Builtins.{on_input_and_place, operations_named, is_built_in, is_echo, is_default, is_shown}
use Rattle.expr_rules.specs.Constructions.{base_of, source_of}
use Rattle.expr_rules.specs.Demands.{is_a_type}
use Rattle.expr_rules.specs.Overloads.{IsSettled, NoneFits, OneFits, SomeFits, SeveralFit, AreArguments, AreNoArguments}

-- ---- names that mean nothing

-- nothing visible has the name, and it isn't built in
pub data IsUnknown (env : Env) : List ℕ → Type 0 where
  no_declaration : {x : List ℕ} → is_built_in x ≡ false → known_as env x ≡ unknown → IsUnknown env x

-- ---- where nothing fits: an operand that has no type by itself is named, else the call

abbrev pub is_open : Operand → Bool
is_open (open_sequence at n) = true
is_open _ = false

pub data FirstOpen : List Operand → Place → Type 0 where
  open_here : {p : Place} {n : ℕ} {rest : List Operand} → FirstOpen (open_sequence p n ∷ rest) p
  open_later : {o : Operand} {rest : List Operand} {p : Place} → is_open o ≡ false → FirstOpen rest p → FirstOpen (o ∷ rest) p

pub data NoneOpen : List Operand → Type 0 where
  no_operand : NoneOpen []
  not_open : {o : Operand} {rest : List Operand} → is_open o ≡ false → NoneOpen rest → NoneOpen (o ∷ rest)

pub data Unfit (at : Place) : List Operand → Place → Type 0 where
  open_left : {os : List Operand} {p : Place} → FirstOpen os p → Unfit at os p
  nothing_fits : {os : List Operand} → NoneOpen os → Unfit at os at

-- ---- operations of the table: what they write, and their node

pub data IsSettledIn : List Ty → Operand → Valued → Type 0 where
  first_type : {ty : Ty} {rest : List Ty} {o : Operand} {v : Valued} → IsSettled ty o v → IsSettledIn (ty ∷ rest) o v
  later_type : {ty : Ty} {rest : List Ty} {o : Operand} {v : Valued} → ((w : Valued) → IsSettled ty o w → ⊥) → IsSettledIn rest o v
      → IsSettledIn (ty ∷ rest) o v

pub data RowFits (at : Node) : BuiltIn → List Operand → List Valued → Expr → Type 0 where
  row_nothing : {o : Operation} → RowFits at (on_nothing o) [] [] (acting at o NoArg)
  row_one : {hand : Hand} {gives : Ty → Option (Option Ty)} {o : Operation} {v : Valued} {ty : Option Ty} → gives v.of ≡ Some ty
      → RowFits at (on_one hand gives o) (value v ∷ []) (written_by hand v) (Apply at ty (Doing o) (handed hand v))
  row_place_and_value : {goes : Ty → List Ty} {o : Operation} {v w : Valued} {given : Operand} → IsSettledIn (goes v.of) given w
      → RowFits at (on_place_and_value goes o) (value v ∷ given ∷ []) (v ∷ []) (acting at o (path_and_value (path_of v.expr) w.expr))
  row_places : {o : Operation} {v w : Valued} → same v.of w.of ≡ true
      → RowFits at (on_places o) (value v ∷ value w ∷ []) (v ∷ w ∷ []) (acting at o (ByPath (path_of v.expr) (one_path (path_of w.expr))))
  row_type : {gives : Ty → Option (Option Ty)} {act : Act} {t : Ty} {ty : Option Ty} → gives t ≡ Some ty
      → RowFits at (on_type gives act) (operand.a_type t ∷ []) [] (Apply at ty act NoArg)
  row_input : {ty : Ty} {o : Operation} → RowFits at (on_input ty o) (the_input ∷ []) [] (doing at ty o NoArg)
  row_input_and_place : {test : Ty → Bool} {ty : Ty} {o : Operation} {v : Valued} → test v.of ≡ true
      → RowFits at (on_input_and_place test ty o) (the_input ∷ value v ∷ []) (v ∷ []) (doing at ty o (one_path (path_of v.expr)))

abbrev pub RowFitsNot : Node → BuiltIn → List Operand → Type 0
RowFitsNot at row os = (vs : List Valued) (e : Expr) → RowFits at row os vs e → ⊥

-- the first row that fits
pub data FirstRow (at : Node) : List BuiltIn → List Operand → List Valued → Expr → Type 0 where
  this_row : {row : BuiltIn} {rest : List BuiltIn} {os : List Operand} {vs : List Valued} {e : Expr} → RowFits at row os vs e
      → FirstRow at (row ∷ rest) os vs e
  later_row : {row : BuiltIn} {rest : List BuiltIn} {os : List Operand} {vs : List Valued} {e : Expr} → RowFitsNot at row os
      → FirstRow at rest os vs e → FirstRow at (row ∷ rest) os vs e

pub data NoRow (at : Node) : List BuiltIn → List Operand → Type 0 where
  no_more_rows : {os : List Operand} → NoRow at [] os
  not_this_row : {row : BuiltIn} {rest : List BuiltIn} {os : List Operand} → RowFitsNot at row os → NoRow at rest os → NoRow at (row ∷ rest) os

pub data AllWritable : List Valued → Type 0 where
  all_written : AllWritable []
  one_written : {v : Valued} {rest : List Valued} → v.writable ≡ true → AllWritable rest → AllWritable (v ∷ rest)

pub data FirstUnwritable : List Valued → Place → Type 0 where
  this_unwritable : {v : Valued} {rest : List Valued} → v.writable ≡ false → FirstUnwritable (v ∷ rest) (place_in v.expr)
  later_unwritable : {v : Valued} {rest : List Valued} {p : Place} → v.writable ≡ true → FirstUnwritable rest p → FirstUnwritable (v ∷ rest) p

-- ---- values of another type

pub data IsConversion (env : Env) (n : ℕ) (at : Place) (ty : Ty) : List Operand → Expr → Type 0 where
  empty_object : {all : List Field} {resource : Bool} → fact_of env.facts ty ≡ Some (type.fields all resource)
      → IsConversion env n at ty [] (construct (node n at) ty [] NoArg)
  -- an enum from an int, a distinct type from its base
  from_source : {o : Operand} {s : Ty} {v : Valued} → source_of env.facts ty ≡ Some s → IsSettled s o v
      → IsConversion env n at ty (o ∷ []) (convert (node n at) ty v.expr)
  -- a base from a distinct type
  from_wrapper : {v : Valued} {b : Ty} → base_of env.facts v.of ≡ Some b → same b ty ≡ true
      → IsConversion env n at ty (value v ∷ []) (convert (node n at) ty v.expr)

abbrev pub ConvertsNot : Env → ℕ → Place → Ty → List Operand → Type 0
ConvertsNot env n at ty os = (e : Expr) → IsConversion env n at ty os e → ⊥

-- ---- `echo`: each operand has a `$`, built in or visible

pub data Shows (env : Env) : Valued → Type 0 where
  built_in_dollar : {v : Valued} → is_shown v.of ≡ true → Shows env v
  visible_dollar : {v : Valued} → SomeFits (callable (known_as env (codes "$"))) (value v ∷ []) → Shows env v

pub data AllShow (env : Env) : List Operand → List Valued → Type 0 where
  show_none : AllShow env [] []
  show_more : {v : Valued} {os : List Operand} {vs : List Valued} → Shows env v → AllShow env os vs → AllShow env (value v ∷ os) (v ∷ vs)

abbrev pub ShowNot : Env → List Operand → Type 0
ShowNot env os = (vs : List Valued) → AllShow env os vs → ⊥

-- ---- what is borrowed is the operation itself, on the bases

pub data IsBorrowed (n : ℕ) (at : Place) : Option Comparison → List (Parameter × Valued) → Expr → Type 0 where
  borrowed_comparison : {c : Comparison} {a b : Parameter × Valued}
      → IsBorrowed n at (Some c) (a ∷ b ∷ []) (compare (node n at) type.bool c a.1.expr b.1.expr)
  borrowed_dollar : {a : Parameter × Valued} → IsBorrowed n at None (a ∷ []) (show (node n at) type.text a.1.expr)

abbrev pub BorrowsNot : ℕ → Place → Option Comparison → List (Parameter × Valued) → Type 0
BorrowsNot n at c given = (e : Expr) → IsBorrowed n at c given e → ⊥

-- ---- calls

abbrev pub overloads : Env → List ℕ → List Procedure
overloads env x = callable (known_as env x)

-- neither `echo` nor `default`, which are always built in
pub data IsChosen : List ℕ → Type 0 where
  by_declarations : {x : List ℕ} → is_echo x ≡ false → is_default x ≡ false → IsChosen x

-- the operation of the name is meant, if there is one
pub data IsOperation (env : Env) : List ℕ → List Operand → Type 0 where
  always : {x : List ℕ} {os : List Operand} → is_echo x ≡ false → is_default x ≡ true → IsOperation env x os
  no_procedure : {x : List ℕ} {os : List Operand} → IsChosen x → NoneFits (overloads env x) os → is_a_type (known_as env x) ≡ false
      → IsOperation env x os

-- IsCall env n at x os e: a call of the name x, in normal form, with these operands is e
pub data IsCall (env : Env) (n : ℕ) (at : Place) : List ℕ → List Operand → Expr → Type 0 where
  a_procedure : {x : List ℕ} {os : List Operand} {p : Procedure} {given : List (Parameter × Valued)} {args : Args} → IsChosen x
      → OneFits (overloads env x) os p given → p.borrowed ≡ false → AreArguments [] given args
      → IsCall env n at x os (call (node n at) p.gives p.number args)
  a_borrowed_one : {x : List ℕ} {os : List Operand} {p : Procedure} {given : List (Parameter × Valued)} {e : Expr} → IsChosen x
      → OneFits (overloads env x) os p given → p.borrowed ≡ true → IsBorrowed n at (comparison_named x comparisons) given e
      → IsCall env n at x os e
  a_conversion : {x : List ℕ} {os : List Operand} {ty : Ty} {e : Expr} → IsChosen x → known_as env x ≡ a_type ty
      → IsConversion env n at ty os e → IsCall env n at x os e
  an_operation : {x : List ℕ} {os : List Operand} {vs : List Valued} {e : Expr} → IsOperation env x os
      → FirstRow (node n at) (operations_named x) os vs e → AllWritable vs → IsCall env n at x os e
  an_echo : {x : List ℕ} {os : List Operand} {vs : List Valued} → is_echo x ≡ true → AllShow env os vs
      → IsCall env n at x os (echo (node n at) (exprs_of vs))

pub data IsNoCall (env : Env) (n : ℕ) (at : Place) : List ℕ → List Operand → Code → Place → Type 0 where
  several_fit : {x : List ℕ} {os : List Operand} → IsChosen x → SeveralFit (overloads env x) os → IsNoCall env n at x os Ambiguous at
  no_arguments : {x : List ℕ} {os : List Operand} {p : Procedure} {given : List (Parameter × Valued)} {c : Code} {q : Place} → IsChosen x
      → OneFits (overloads env x) os p given → p.borrowed ≡ false → AreNoArguments [] given c q → IsNoCall env n at x os c q
  -- it has other parameters than the operation; no declaration is so
  not_borrowed : {x : List ℕ} {os : List Operand} {p : Procedure} {given : List (Parameter × Valued)} → IsChosen x
      → OneFits (overloads env x) os p given → p.borrowed ≡ true → BorrowsNot n at (comparison_named x comparisons) given
      → IsNoCall env n at x os NotTyped at
  not_converted : {x : List ℕ} {os : List Operand} {ty : Ty} {q : Place} → IsChosen x → known_as env x ≡ a_type ty
      → ConvertsNot env n at ty os → Unfit at os q → IsNoCall env n at x os NotTyped q
  not_written : {x : List ℕ} {os : List Operand} {vs : List Valued} {e : Expr} {q : Place} → IsOperation env x os
      → FirstRow (node n at) (operations_named x) os vs e → FirstUnwritable vs q → IsNoCall env n at x os NotAssignable q
  no_operation : {x : List ℕ} {os : List Operand} {q : Place} → IsOperation env x os → NoRow (node n at) (operations_named x) os
      → Unfit at os q → IsNoCall env n at x os NotTyped q
  not_shown : {x : List ℕ} {os : List Operand} {q : Place} → is_echo x ≡ true → ShowNot env os → Unfit at os q
      → IsNoCall env n at x os NotTyped q
