-- The places that statements declare are numbered one by one.
use Rattle.std.proofs.Common.{◌≡◌, ℕ, suc, ◌+◌, true, false, List, [], ◌∷◌, ◌++◌, length, refl, sym, ap, subst, ◌∙◌, append_assoc, arith}
use Rattle.std.specs.Prelude.{Bool, Option, Some, None, Ok, if◌then◌else◌}
use Rattle.std.proofs.lemmas.List.{map-append}
use Rattle.arc_base.specs.declared.place.Place.{Place}
use Rattle.nim_tree.specs.declared.name.Declared.{Declared}
use Rattle.nim_tree.specs.declared.stmt.AssignOp.{AssignOp}
use Rattle.nim_tree.specs.declared.stmt.AssignOp.TheVariants as sign
use Rattle.nim_tree.specs.declared.stmt.Binding.{Binding}
use Rattle.nim_tree.specs.Terms.{Term}
use Rattle.nim_tree.specs.Types.{Written}
use Rattle.nim_tree.specs.Statements.{Definition, Statement, Statements, Branches as TreeBranches}
use Rattle.nim_types.specs.Types as type
use Rattle.nim_types.specs.Types.{Ty}
use Rattle.nim_program.specs.declared.expr.Node.{Node}
use Rattle.nim_program.specs.Program as P
use Rattle.nim_program.specs.Program.{Expr, Path, Args, Stmt, Stmts, Blocks, Kind, Label}
use Rattle.nim_program.proofs.ForCallers.{declares_none, path_declares_none, all_declare_none}
use Rattle.nim_program.specs.Folds.{lists, together, in_turn, own_places, totals, each, total_in, each_block, block_places, loop_places}
use Rattle.nim_program.specs.Folds.{if_declared, param_places}
use Rattle.nim_program.specs.Nodes.{one_value, two_values, one_path, path_and_value, selecting, blocks_of, discard}
use Rattle.nim_program.specs.SelfAssignment.{is_itself, is_result}
use Rattle.expr_rules.specs.Env.{Env}
use Rattle.expr_rules.specs.Answers.{Answer, node}
use Rattle.expr_rules.specs.Paths.{path_of}
use Rattle.expr_rules.specs.Numbers.{Run, run_over, run_on}
use Rattle.decl_rules.specs.State.{ResultPlace, Around, State, Step, does, declares, defers, Stated, Blocked, block_of, noting}
use Rattle.decl_rules.specs.Values.{assigned, evaluated_by, given_if, evaluated, has_type, gives_back, gives_last}
use Rattle.decl_rules.specs.Stated.{Branched, Armed}
use Rattle.decl_rules.specs.Heads.{Given}
use Rattle.decl_rules.specs.Bodies.{params_from, result_at, results, loop_variable}
use Rattle.decl_rules.specs.Rules as R
use Rattle.decl_rules.specs.Rules.{IsVariable, AreVariables, IsDefinition, AreDefinitions, IsConstantOf, AreConstants, IsStated, AreStated}
use Rattle.decl_rules.specs.Rules.{IsBlock, AreBranches, AreArms}
use Rattle.decl_rules.proofs.Least.{no_bool}
use Rattle.decl_rules.specs.Places.{place_numbers, is_procedure, PlacesNumbered, ProcedureNumbered}

-- ---- numbers in a row

pub run_then : {n m k : ℕ} {xs ys : List ℕ} → Run n xs m → Run m ys k → Run n (xs ++ ys) k
run_then run_over h = h
run_then (run_on g) h = run_on (run_then g h)

-- the numbers of places
abbrev Rows : ℕ → List P.Declared → ℕ → Type 0
Rows n places m = Run n (place_numbers places) m

rows_then : {n m k : ℕ} (xs ys : List P.Declared) → Rows n xs m → Rows m ys k → Rows n (xs ++ ys) k
rows_then {n} {m} {k} xs ys h i = subst (λ ns. Run n ns k) (sym (map-append (λ (place : P.Declared). place.number) xs ys)) (run_then h i)

alone : {n m : ℕ} (xs : List P.Declared) → Rows n xs m → Rows n (xs ++ []) m
alone xs h = rows_then xs [] h run_over

-- behind parts that declare nothing
behind_parts : {n m : ℕ} (args : Args) (xs : List P.Declared) → Rows n xs m → Rows n (totals lists own_places args ++ xs) m
behind_parts {n} {m} args xs h = subst (λ ys. Rows n (ys ++ xs) m) (sym (all_declare_none args)) h

-- ---- steps as a block

more_steps : (steps others : List Step) → block_places (block_of (steps ++ others)) ≡ block_places (block_of steps) ++ block_places (block_of others)
more_steps [] others = refl
more_steps (does s ∷ more) others =
    ap (λ xs. total_in lists own_places s ++ xs) (more_steps more others)
    ∙ sym (append_assoc (total_in lists own_places s) (block_places (block_of more)) (block_places (block_of others)))
more_steps (declares node place cursor value ∷ more) others =
    ap (λ xs. place ∷ (totals lists own_places value ++ xs)) (more_steps more others)
    ∙ ap (λ xs. place ∷ xs) (sym (append_assoc (totals lists own_places value) (block_places (block_of more)) (block_places (block_of others))))
more_steps (defers node last ∷ more) others =
    ap (λ xs. block_places last ++ xs) (more_steps more others)
    ∙ sym (append_assoc (block_places last) (block_places (block_of more)) (block_places (block_of others)))

steps_run : {n m k : ℕ} (steps others : List Step) → Rows n (block_places (block_of steps)) m → Rows m (block_places (block_of others)) k
    → Rows n (block_places (block_of (steps ++ others))) k
steps_run {n} {m} {k} steps others h i =
    subst (λ xs. Rows n xs k) (sym (more_steps steps others)) (rows_then (block_places (block_of steps)) (block_places (block_of others)) h i)

-- ---- statements that declare nothing

quiet_run : {n : ℕ} (s : Stmt) → total_in lists own_places s ≡ [] → Rows n (block_places (P.Then s P.Empty)) n
quiet_run {n} s e = subst (λ xs. Rows n (xs ++ []) n) (sym e) run_over

one_quiet : (e : Expr) → totals lists own_places (one_value e) ≡ []
one_quiet e = all_declare_none (one_value e)

either_quiet : (b : Bool) (s t : Stmt) → total_in lists own_places s ≡ [] → total_in lists own_places t ≡ []
    → total_in lists own_places (if b then s else t) ≡ []
either_quiet true s t e f = e
either_quiet false s t e f = f

assigned_quiet : (op : AssignOp) (n : Node) (path : Path) (e : Expr) → total_in lists own_places (assigned op n path e) ≡ []
assigned_quiet sign.Set n path e = either_quiet (is_itself path e) _ _ (all_declare_none (path_and_value path e)) (all_declare_none (path_and_value path e))
assigned_quiet sign.Plus n path e = all_declare_none (path_and_value path e)
assigned_quiet sign.Minus n path e = all_declare_none (path_and_value path e)
assigned_quiet sign.Times n path e = all_declare_none (path_and_value path e)
assigned_quiet sign.Join n path e = all_declare_none (path_and_value path e)

back_quiet : (gives : ResultPlace) (n : Node) (e : Expr) → total_in lists own_places (gives_back gives n e) ≡ []
back_quiet gives n e = either_quiet (is_result gives e) _ _ (one_quiet e) (declares_none e)

last_quiet : (gives : ResultPlace) (n : Node) (e : Expr) → total_in lists own_places (gives_last gives n e) ≡ []
last_quiet gives n e = either_quiet (is_result gives e) _ _ (one_quiet e) (declares_none e)

pub ok_stmt : {s t : Stmt} → ◌≡◌ {A = Answer Stmt} (Ok s) (Ok t) → s ≡ t
ok_stmt e = cc

evaluated_quiet : (ends : ResultPlace) (n : Node) (e : Expr) (s : Stmt) → evaluated ends n e ≡ Ok s → total_in lists own_places s ≡ []
evaluated_quiet ends n e s h = by_type (P.type_of e) h
  where
    by_test : (b : Bool) → given_if b ends n e ≡ Ok s → total_in lists own_places s ≡ []
    by_test true h = ap (total_in lists own_places) (sym (ok_stmt h)) ∙ last_quiet ends n e
    by_test false h = cc

    by_type : (t : Option Ty) → evaluated_by ends n e t ≡ Ok s → total_in lists own_places s ≡ []
    by_type None h = ap (total_in lists own_places) (sym (ok_stmt h)) ∙ one_quiet e
    by_type (Some t) h = by_test (has_type ends t) h

-- ---- definitions

variable_run : {a : Around} {at : Place} {b : Binding} {env : Env} {ty : Option Ty} {t : Option Term} {st : State} {d : Declared} {x : Stated}
    → IsVariable a at b env ty t st d x → Rows st.place (block_places (block_of x.steps)) x.state.place
variable_run (R.d_initialised {v = v} h) = run_on (behind_parts (one_value v.given.expr) [] run_over)
variable_run R.d_defaulted = run_on run_over

variables_run : {a : Around} {at : Place} {b : Binding} {env : Env} {ty : Option Ty} {t : Option Term} {st : State} {ds : List Declared} {x : Stated}
    → AreVariables a at b env ty t st ds x → Rows st.place (block_places (block_of x.steps)) x.state.place
variables_run R.d_no_names = run_over
variables_run (R.d_names {one = one} {more = more} h k) = steps_run one.steps more.steps (variable_run h) (variables_run k)

definition_run : {a : Around} {at : Place} {b : Binding} {st : State} {d : Definition} {x : Stated} → IsDefinition a at b st d x
    → Rows st.place (block_places (block_of x.steps)) x.state.place
definition_run (R.d_variables e h k) = variables_run k

definitions_run : {a : Around} {at : Place} {b : Binding} {st : State} {all : List Definition} {x : Stated} → AreDefinitions a at b st all x
    → Rows st.place (block_places (block_of x.steps)) x.state.place
definitions_run R.d_no_definitions = run_over
definitions_run (R.d_definitions {one = one} {more = more} h k) = steps_run one.steps more.steps (definition_run h) (definitions_run k)

constant_place : {st x : State} {ty : Option Ty} {names : List Declared} {t : Option Term} → IsConstantOf st ty names t x → x.place ≡ st.place
constant_place (R.d_constant h e) = refl
constant_place R.d_no_constant = refl

constants_place : {st x : State} {all : List Definition} → AreConstants st all x → x.place ≡ st.place
constants_place R.d_none_constant = refl
constants_place (R.d_all_constant (R.d_constants e h k) more) = constants_place more ∙ constant_place k

-- ---- blocks of branches

data BlocksRun : ℕ → List Stmts → ℕ → Type 0 where
  b_none : {n : ℕ} → BlocksRun n [] n
  b_more : {n m k : ℕ} {block : Stmts} {rest : List Stmts} → Rows n (block_places block) m → BlocksRun m rest k → BlocksRun n (block ∷ rest) k

with_else : {n m k : ℕ} {all : List Stmts} (otherwise : Stmts) → BlocksRun n all m → Rows m (block_places otherwise) k
    → Rows n (together lists (each_block lists own_places (blocks_of all otherwise))) k
with_else otherwise b_none h = alone (block_places otherwise) h
with_else otherwise (b_more {block = block} {rest = rest} g i) h =
    rows_then (block_places block) (together lists (each_block lists own_places (blocks_of rest otherwise))) g (with_else otherwise i h)

-- tests declare nothing
none_of_each : (tests : Args) → together lists (each lists own_places tests) ≡ []
none_of_each P.NoArg = refl
none_of_each (P.ByValue a rest) = ap (λ xs. xs ++ together lists (each lists own_places rest)) (declares_none a) ∙ none_of_each rest
none_of_each (P.ByPath path rest) = ap (λ xs. xs ++ together lists (each lists own_places rest)) (path_declares_none false path) ∙ none_of_each rest

only_blocks : (tests : Args) (blocks : List (List P.Declared)) → in_turn lists (each lists own_places tests) blocks ≡ together lists blocks
only_blocks P.NoArg blocks = refl
only_blocks (P.ByValue a rest) [] = none_of_each (P.ByValue a rest)
only_blocks (P.ByValue a rest) (b ∷ blocks) =
    ap (λ xs. xs ++ (b ++ in_turn lists (each lists own_places rest) blocks)) (declares_none a) ∙ ap (λ xs. b ++ xs) (only_blocks rest blocks)
only_blocks (P.ByPath path rest) [] = none_of_each (P.ByPath path rest)
only_blocks (P.ByPath path rest) (b ∷ blocks) =
    ap (λ xs. xs ++ (b ++ in_turn lists (each lists own_places rest) blocks)) (path_declares_none false path) ∙ ap (λ xs. b ++ xs) (only_blocks rest blocks)

choice_run : {n m : ℕ} (node : Node) (chooser : P.Chooser) (tests : Args) (blocks : Blocks)
    → Rows n (together lists (each_block lists own_places blocks)) m
    → Rows n (block_places (P.Then (P.Select node chooser tests blocks) P.Empty)) m
choice_run {n} {m} node chooser tests blocks h =
    alone _ (subst (λ xs. Rows n xs m) (sym (only_blocks tests (each_block lists own_places blocks))) h)

-- of a loop, behind its variable
loop_run : {n m : ℕ} (node : Node) (kind : Kind) (head : Args) (body : Stmts) → Rows n (loop_places kind ++ block_places body) m
    → Rows n (block_places (P.Then (P.Loop node kind head body) P.Empty)) m
loop_run {n} {m} node kind head body h =
    alone _ (subst (λ xs. Rows n (loop_places kind ++ (xs ++ block_places body)) m) (sym (all_declare_none head)) h)

-- ---- statements

-- what is noted of the text changes no place
noted_place : (b : Bool) (one : Stated) → (noting b one).place ≡ one.state.place
noted_place true one = refl
noted_place false one = refl

-- no procedure stands in a block
pub no_procedure : (a : Around) (ends : ResultPlace) (st : State) (s : Statement) (x : Stated) → IsStated a ends st s x → a.outermost ≡ false
    → is_procedure s ≡ false
no_procedure a ends st s x (R.s_procedure h i k) e = no_bool h e
no_procedure a ends st s x R.s_discard e = refl
no_procedure a ends st s x (R.s_discard_value h) e = refl
no_procedure a ends st s x (R.s_return h) e = refl
no_procedure a ends st s x (R.s_return_value h k r) e = refl
no_procedure a ends st s x (R.s_break h) e = refl
no_procedure a ends st s x (R.s_continue h) e = refl
no_procedure a ends st s x (R.s_evaluate h r) e = refl
no_procedure a ends st s x (R.s_command h r) e = refl
no_procedure a ends st s x (R.s_assign h i j k r) e = refl
no_procedure a ends st s x (R.s_constants h) e = refl
no_procedure a ends st s x (R.s_variables i h) e = refl
no_procedure a ends st s x (R.s_types h) e = refl
no_procedure a ends st s x (R.s_if h k) e = refl
no_procedure a ends st s x (R.s_case h i k j r) e = refl
no_procedure a ends st s x (R.s_while h k) e = refl
no_procedure a ends st s x (R.s_for_each h i k) e = refl
no_procedure a ends st s x (R.s_for_range r h i k) e = refl

mutual
  stated_run : {a : Around} {ends : ResultPlace} {st : State} {s : Statement} {x : Stated} → IsStated a ends st s x → is_procedure s ≡ false
      → Rows st.place (block_places (block_of x.steps)) x.state.place
  stated_run R.s_discard e = run_over
  stated_run {st = st} (R.s_discard_value {at = at} {v = v} h) e = quiet_run (discard (node st.node at) v.given.expr) (one_quiet v.given.expr)
  stated_run (R.s_return h) e = run_over
  stated_run {st = st} (R.s_return_value {gives = gives} {at = at} {v = v} h k r) e =
      quiet_run (gives_back gives (node st.node at) v.expr) (back_quiet gives (node st.node at) v.expr)
  stated_run (R.s_break h) e = run_over
  stated_run (R.s_continue h) e = run_over
  stated_run {ends = ends} {st = st} (R.s_evaluate {at = at} {e = x} {s = s} h r) e = quiet_run s (evaluated_quiet ends (node st.node at) x s r)
  stated_run {ends = ends} {st = st} (R.s_command {at = at} {e = x} {s = s} h r) e = quiet_run s (evaluated_quiet ends (node st.node at) x s r)
  stated_run {st = st} (R.s_assign {at = at} {op = op} {target = target} {source = source} h i j k r) e =
      quiet_run (assigned op (node st.node at) (path_of target.expr) source.expr)
      (assigned_quiet op (node st.node at) (path_of target.expr) source.expr)
  stated_run {st = st} (R.s_constants h) e = subst (λ n. Run st.place [] n) (sym (constants_place h)) run_over
  stated_run (R.s_variables i h) e = definitions_run h
  stated_run (R.s_types h) e = run_over
  stated_run {st = st} (R.s_if {at = at} {b = b} {o = o} h k) e =
      choice_run (node st.node at) P.ByConditions b.tests (blocks_of b.blocks o.stmts) (with_else o.stmts (branches_run h) (block_run k))
  stated_run {st = st} (R.s_case {at = at} {v = v} {b = b} {o = o} h i k j r) e =
      choice_run (node st.node at) (P.ByLabels b.rows) (selecting v.given.expr P.NoArg) (blocks_of b.blocks o.stmts)
      (with_else o.stmts (arms_run k) (block_run j))
  stated_run {st = st} (R.s_while {at = at} {c = c} {b = b} h k) e = loop_run (node st.node at) P.While (one_value c.given.expr) b.stmts (block_run k)
  stated_run {st = st} (R.s_for_each {at = at} {x = x} {v = v} {ty = ty} {b = b} h i k) e =
      loop_run (node st.node at) (P.Each (loop_variable st x ty)) (one_path (path_of v.given.expr)) b.stmts (run_on (block_run k))
  stated_run {st = st} (R.s_for_range {at = at} {x = x} {inclusive = inclusive} {v = v} {w = w} {b = b} r h i k) e =
      loop_run (node st.node at) (P.Count (loop_variable st x type.int) inclusive) (two_values v.given.expr w.given.expr) b.stmts (run_on (block_run k))
  stated_run (R.s_procedure h i k) e = cc

  -- inside blocks and bodies
  all_run : {a : Around} {ends : ResultPlace} {st : State} {all : Statements} {x : Stated} → AreStated a ends st all x → a.outermost ≡ false
      → Rows st.place (block_places (block_of x.steps)) x.state.place
  all_run R.s_none e = run_over
  all_run {a} (R.s_more {one = one} {more = more} h k) e =
      steps_run one.steps more.steps (stated_run h (no_procedure a _ _ _ _ h e))
      (subst (λ n. Rows n (block_places (block_of more.steps)) more.state.place) (noted_place a.outermost one) (all_run k e))

  block_run : {a : Around} {st : State} {body : Statements} {b : Blocked} → IsBlock a st body b → Rows st.place (block_places b.stmts) b.state.place
  block_run (R.s_block h) = all_run h refl

  branches_run : {a : Around} {st : State} {all : TreeBranches} {b : Branched} → AreBranches a st all b → BlocksRun st.place b.blocks b.state.place
  branches_run R.s_no_branches = b_none
  branches_run (R.s_branches h k j) = b_more (block_run k) (branches_run j)

  arms_run : {a : Around} {ty : Ty} {before : List Label} {st : State} {all : TreeBranches} {b : Armed} → AreArms a ty before st all b
      → BlocksRun st.place b.blocks b.state.place
  arms_run R.s_no_arms = b_none
  arms_run (R.s_arms h k j) = b_more (block_run k) (arms_run j)

pub places_numbered : PlacesNumbered
places_numbered a ends st s x h e = stated_run h e

-- ---- procedures

params_run : (n : ℕ) (all : List Given) → Rows n (param_places (params_from n all)) (n + length all)
params_run n [] = subst (λ m. Run n [] m) (omega arith) run_over
params_run n (g ∷ more) =
    let e : length (g ∷ more) ≡ suc (length more) = omega arith in
    subst (λ m. Rows n (param_places (params_from n (g ∷ more))) m) (omega (arith, e)) (run_on (params_run (suc n) more))

result_run : (n : ℕ) (w : Option Written) (ty : Option Ty) → Rows n (if_declared (result_at n w ty)) (n + results (result_at n w ty))
result_run n None ty = subst (λ m. Run n [] m) (omega arith) run_over
result_run n (Some w) None = subst (λ m. Run n [] m) (omega arith) run_over
result_run n (Some w) (Some ty) = subst (λ m. Run n (n ∷ []) m) (omega arith) (run_on run_over)

pub procedure_numbered : ProcedureNumbered
procedure_numbered st h k body s stated =
    rows_then _ _ (params_run st.place k.signature.params)
    (rows_then _ _ (result_run (st.place + length k.signature.params) h.gives k.signature.gives) (all_run stated refl))
