-- What the code's values and states stand for under a list of types, by their numbers, and what is said of calls that go from one
-- state to another. Contracts of the pass alone speak of it.
use Rattle.std.specs.Prelude.{◌≡◌, ℕ, ◌<◌, ◌≤◌, List, [], ◌∷◌, ◌++◌, ◌||◌}
use Rattle.std.specs.Prelude.{length, map, drop, codes, Bool, true, false, Option, Some, None}
use Rattle.std.specs.Prelude.{Result, IfOk, OnOk}
use Rattle.std.proofs.Common.{Vec, Global}
use Rattle.arc_base.specs.declared.place.Place.{Place}
use Rattle.arc_base.specs.declared.place.Stop.{Stop}
use Rattle.arc_base.specs.Refusal.{Answers}
use Rattle.nim_types.specs.Types as type
use Rattle.nim_types.specs.Types.{Ty, Fact, same, fact_of}
use Rattle.nim_types.specs.Table.{facts_in, type_at, IsBelow}
use Rattle.nim_program.specs.declared.stmt.Branch.{Branch as RustBranch}
use Rattle.nim_program.specs.declared.stmt.CaseBranch.{CaseBranch as RustCaseBranch}
use Rattle.nim_program.specs.declared.stmt.Stmt.{Stmt as RustStmt}
use Rattle.nim_program.specs.Program as P
use Rattle.nim_program.specs.Program.{Stmts, Proc}
use Rattle.nim_program.specs.View.{declared_of, stmts_of, stmt_before}
use Rattle.expr_rules.specs.Answers.{Answer}
use Rattle.expr_rules.specs.Env.{Env}
use Rattle.expr_rules.specs.Constructions.{is_among}
use Rattle.expr_parts.specs.declared.scope.Decl.{Decl}
use Rattle.expr_parts.specs.declared.value.Typed.{Typed as RustTyped}
use Rattle.expr_parts.specs.View.{Under, Grown, env_of, number_of}
use Rattle.expr_parts.specs.ViewReady.{IsReady}
use Rattle.expr_parts.specs.ViewDecls.{declares as declares_in}
use Rattle.decl_rules.specs.State.{ResultPlace, Inside, module_code, a_procedure, Around, Item, State, Step, does, declares, defers, Stated, stated_as}
use Rattle.decl_rules.specs.State.{own_entries, is_declared}
use Rattle.decl_written.specs.declared.values.Numbered.{Numbered}
use Rattle.decl_parts.specs.declared.state.ResultPlace.{ResultPlace as RustResultPlace}
use Rattle.decl_parts.specs.declared.state.Inside.{Inside as RustInside}
use Rattle.decl_parts.specs.declared.state.Inside.TheVariants as inside
use Rattle.decl_parts.specs.declared.state.Around.{Around as RustAround}
use Rattle.decl_parts.specs.declared.state.State.{State as RustState}

-- ---- values

-- whether no type is written, or this one
abbrev pub no_other_type : Option Ty → Ty → Bool
no_other_type None t = true
no_other_type (Some ty) t = same ty t

abbrev pub TypedWithin : ℕ → RustTyped → Type 0
TypedWithin n t = IsBelow n (number_of t.expr)

abbrev pub NumberedWithin : ℕ → Numbered → Type 0
NumberedWithin n v = v.value.ty < n

abbrev pub TypeWithin : ℕ → ℕ → Type 0
TypeWithin n id = id < n

abbrev pub is_text_type : Option Ty → Bool
is_text_type (Some type.text) = true
is_text_type _ = false

-- ---- names

abbrev pub place_of : ℕ → List ℕ → Place → Ty → P.Declared
place_of number name at of = record { number = number; name = name; at = at; of = of }

-- ---- around

abbrev pub result_place : List Ty → RustResultPlace → P.Declared
result_place ts r = place_of r.number (codes "result") r.at (type_at ts r.ty)

abbrev pub if_result : List Ty → Option RustResultPlace → ResultPlace
if_result ts None = None
if_result ts (Some r) = Some (result_place ts r)

abbrev pub ResultWithin : ℕ → Option RustResultPlace → Type 0
ResultWithin n None = Unit {0}
ResultWithin n (Some r) = r.ty < n

abbrev pub inside_of : List Ty → RustInside → Inside
inside_of ts inside.ModuleCode = module_code
inside_of ts (inside.Procedure gives) = a_procedure (if_result ts gives)

abbrev pub around_of : List Ty → RustAround → Around
around_of ts a = record { inside = inside_of ts a.inside; outermost = a.outermost; in_loop = a.in_loop }

abbrev pub InsideWithin : ℕ → RustInside → Type 0
InsideWithin n inside.ModuleCode = Unit {0}
InsideWithin n (inside.Procedure gives) = ResultWithin n gives

-- ---- states

-- a list of types that begins with those of a state's table
abbrev pub Over : RustState → List Ty → Type 0
Over s ts = Under s.types ts (facts_in s.types)

-- what is known beside it: the procedures, and the text so far
pub record Beside : Type 0 where
  pub procs : List Proc
  pub text : List Item

abbrev pub env_in : List Ty → RustState → Env
env_in ts s = env_of ts (facts_in s.types) s.scope

abbrev pub state_of : List Ty → Beside → RustState → State
state_of ts b s =
    record {
      env = env_in ts s;
      outside = s.outside;
      node = s.node;
      place = s.place;
      procs = b.procs;
      globals = map (declared_of ts) s.globals;
      text = b.text;
    }

-- what stands in a state stands in its table, and the innermost scope begins among the declarations
pub record Ready (s : RustState) : Type 0 where
  pub all : IsReady s.types s.scope
  pub outside : s.outside ≤ length s.scope.decls

-- types keep their numbers, and what is said of them stays said
pub record Further (old new : RustState) : Type 0 where
  pub length : length old.types ≤ length new.types
  pub over : (ts : List Ty) → Over new ts → Over old ts
  pub said : (ts : List Ty) (ty : Ty) (fact : Fact) → Over new ts
      → fact_of (facts_in old.types) ty ≡ Some fact → fact_of (facts_in new.types) ty ≡ Some fact

-- where nothing was refused: what was declared is still declared
pub record Stands (old new : RustState) : Type 0 where
  pub ready : Ready new
  pub begins : (more : List Decl) × (new.scope.decls ≡ old.scope.decls ++ more)
  pub outside : new.outside ≡ old.outside

-- ---- calls from state to state

-- What a call says that only adds types: under any list of types that begins with those of the table.
pub record Typing {A T : Type 0} (old new : RustState) (of : List Ty → T → A) (said : List Ty → Env → Answer A) (within : ℕ → T → Type 0)
    (result : Result T Stop) : Type 0 where
  pub grown : Grown old.types new.types
  pub same : new ≡ record old { types = new.types }
  pub answers : (ts : List Ty) → Over new ts → Answers (of ts) (said ts (env_in ts old)) result
  pub fits : IfOk result (within (length new.types))

-- What any other call says: whatever is known beside the state.
pub record Stating {A T : Type 0} (old new : RustState) (of : List Ty → Beside → T → A) (said : List Ty → Beside → Answer A)
    (result : Result T Stop) : Type 0 where
  pub further : Further old new
  pub stands : OnOk result (Stands old new)
  pub answers : (ts : List Ty) (b : Beside) → Over new ts → Answers (of ts b) (said ts b) result

-- ---- statements

-- those of a block, in order
abbrev pub steps_in : Stmts → List Step
steps_in P.Empty = []
steps_in (P.Then s rest) = does s ∷ steps_in rest
steps_in (P.Declare node place cursor value rest) = declares node place cursor value ∷ steps_in rest
steps_in (P.Defer node last rest) = defers node last ∷ steps_in rest

abbrev pub steps_of : List Ty → List RustStmt → List Step
steps_of ts all = steps_in (stmts_of ts all)

-- of one statement
abbrev pub step_of : List Ty → RustStmt → List Step
step_of ts s = steps_in (stmt_before ts s P.Empty)

abbrev pub one_stated : List Ty → Beside → RustState → RustStmt → Stated
one_stated ts b st s = stated_as (step_of ts s) (state_of ts b st)

abbrev pub all_stated_as : List Ty → Beside → RustState → List RustStmt → Stated
all_stated_as ts b st all = stated_as (steps_of ts all) (state_of ts b st)

-- the blocks of branches

abbrev pub bodies_in : List Ty → List RustBranch → List Stmts
bodies_in ts [] = []
bodies_in ts (one ∷ rest) = stmts_of ts one.body.items ∷ bodies_in ts rest

abbrev pub arm_bodies_in : List Ty → List RustCaseBranch → List Stmts
arm_bodies_in ts [] = []
arm_bodies_in ts (one ∷ rest) = stmts_of ts one.body.items ∷ arm_bodies_in ts rest

-- a call that makes one statement, where the rules say of the state before
abbrev pub StatedSo : (old new : RustState) → (said : List Ty → State → Answer Stated) → Result RustStmt Stop → Type 0
StatedSo old new said r = Stating old new (λ ts b s. one_stated ts b new s) (λ ts b. said ts (state_of ts b old)) r

-- a call that makes any number of them
abbrev pub AllStatedSo : (old new : RustState) → (said : List Ty → State → Answer Stated) → Result (Vec RustStmt Global) Stop → Type 0
AllStatedSo old new said r = Stating old new (λ ts b all. all_stated_as ts b new all.items) (λ ts b. said ts (state_of ts b old)) r

-- the names that a scope has, and others that a definition gives before
abbrev pub own_names : (outside : ℕ) → List Decl → State → (before : List (List ℕ)) → Type 0
own_names outside decls st before = (x : List ℕ) → declares_in x (drop outside decls) ≡ (is_declared x (own_entries st) || is_among x before)
