-- Typed statements lend well.
use Rattle.std.proofs.Common.{◌≡◌, ℕ, suc, Bool, true, false, List, [], ◌∷◌, ◌++◌, refl, subst, ◌∙◌, arith}
use Rattle.std.proofs.Common.{Option, Some, None}
use Rattle.std.specs.Prelude.{not, if◌then◌else◌, Ok, Err}
use Rattle.arc_base.specs.declared.place.Place.{Place}
use Rattle.arc_base.specs.Refusal.{and_then}
use Rattle.nim_tree.specs.declared.name.Declared.{Declared as TreeName}
use Rattle.nim_tree.specs.declared.stmt.AssignOp.{AssignOp}
use Rattle.nim_tree.specs.declared.stmt.AssignOp.TheVariants as sign
use Rattle.nim_tree.specs.declared.stmt.Binding.{Binding}
use Rattle.nim_tree.specs.Terms.{Term, Parts}
use Rattle.nim_tree.specs.Types.{Declaration}
use Rattle.nim_tree.specs.Statements.{Definition, Statement, Statements, Branches}
use Rattle.nim_types.specs.Types as type
use Rattle.nim_types.specs.Types.{Ty, same}
use Rattle.nim_program.specs.declared.expr.Node.{Node}
use Rattle.nim_program.specs.Program as P
use Rattle.nim_program.specs.Program.{Expr, Path, NoArg, Stmt, Stmts, Label, type_of}
use Rattle.nim_program.specs.Nodes.{blocks_of, selecting}
use Rattle.nim_program.specs.SelfAssignment.{is_itself, is_result}
use Rattle.expr_rules.specs.Env.{Env}
use Rattle.expr_rules.specs.Answers.{Answer, node, Valued, value_of, Want}
use Rattle.expr_rules.specs.Paths.{path_of, is_some, root_of, has_writable_root}
use Rattle.expr_rules.specs.Laws.{CallsComputed}
use Rattle.decl_rules.specs.State.{ResultPlace, Around, State, declaring, up_to_node, entered, left, does, Stated, stated_as, did}
use Rattle.decl_rules.specs.State.{Blocked}
use Rattle.decl_rules.specs.Values.{Value, accepted_if, assigned, evaluated, evaluated_by, given_if, gives_back, gives_last, has_type, is_source, is_target}
use Rattle.decl_rules.specs.Values.{of_type, returned, target_at}
use Rattle.decl_rules.specs.Bodies.{before_body, behind_body, behind_head, loop_variable}
use Rattle.decl_rules.specs.Meanings.{keys_of, known_of}
use Rattle.decl_rules.specs.Sections.{known_entry, types_by}
use Rattle.decl_rules.specs.Definitions.{constant_entries, entry_for, variable_as, with_variable}
use Rattle.decl_rules.specs.Stated.{Branched, Armed, has_statements}
use Rattle.decl_rules.specs.TypeRules.{IsValue, v_value, IsValueAs, v_of_type, IsSection, d_section}
use Rattle.decl_rules.specs.Rules as R
use Rattle.decl_rules.specs.Rules.{IsVariable, AreVariables, AreDefinitions, IsConstantOf, AreConstants, IsCondition, IsStated}
use Rattle.decl_rules.specs.Rules.{AreStated, IsBlock, AreBranches, AreArms}
use Rattle.lending_laws.specs.Writing.{also}
use Rattle.lending_laws.specs.Apart.{ExprLends, PathLends, ArgsLend, StmtLends, BlockLends, BlocksLend}
use Rattle.lending_laws.proofs.Sure.{Sure, s_ok, sure_ok, ok_one}
use Rattle.lending_laws.proofs.Writable.{write_sure}
use Rattle.lending_laws.proofs.Scopes.{next_unkept, EntriesSpared}
use Rattle.lending_laws.proofs.Scopes.{constants_plain, section_plain}
use Rattle.lending_laws.proofs.Scopes.{behind_false}
use Rattle.lending_laws.proofs.ApartRules.{Unkept, path_parts}
use Rattle.lending_laws.proofs.ApartExprs.{TermLends, typed_parts, valued_parts, second_true}
use Rattle.lending_laws.proofs.ApartStates.{Closed, Done, Keeps, On, body_keeps, body_on, body_same, both_part, head_keeps, head_on, keeps_loop, keeps_more}
use Rattle.lending_laws.proofs.ApartStates.{keeps_on, keeps_plain, loop_on, noting_keeps, noting_on, on_then, own_kept, same_on, stays}

-- ---- what rules leave as it is

accepted_as : (R : Expr → Type 0) (b : Bool) (v w : Valued) → accepted_if b v ≡ Ok w → R v.expr → R w.expr
accepted_as R true v w e h = subst (λ (x : Valued). R x.expr) (ok_one e) h
accepted_as R false v w e h = cc

module _ (kept : ℕ → Bool) where
  returned_parts : (gives : ResultPlace) (e : Expr) (v : Valued) → returned gives e ≡ Ok v → ExprLends kept e → ExprLends kept v.expr
  returned_parts None e v h k = cc
  returned_parts (Some place) e v h k = by_value (value_of e) (valued_parts (ExprLends kept) e (type_of e) k) h
    where
      by_value : (r : Answer Valued) → Sure (λ w. ExprLends kept w.expr) r → and_then r (of_type place.of) ≡ Ok v → ExprLends kept v.expr
      by_value (Ok w) (s_ok f) h = accepted_as (ExprLends kept) (same place.of w.of) w v h f
      by_value (Err w) f h = cc

  either_parts : (b : Bool) (s t : Stmt) → StmtLends kept s → StmtLends kept t → StmtLends kept (if b then s else t)
  either_parts true s t h k = h
  either_parts false s t h k = k

  assigned_parts : (op : AssignOp) (n : Node) (path : Path) (e : Expr) → PathLends kept path → Unkept kept path → ExprLends kept e
      → StmtLends kept (assigned op n path e)
  assigned_parts sign.Set n path e h u k = either_parts (is_itself path e) _ _ (h, (k, tt)) ((tt, (u, tt)), (h, (k, tt)))
  assigned_parts sign.Plus n path e h u k = ((tt, (u, tt)), (h, (k, tt)))
  assigned_parts sign.Minus n path e h u k = ((tt, (u, tt)), (h, (k, tt)))
  assigned_parts sign.Times n path e h u k = ((tt, (u, tt)), (h, (k, tt)))
  assigned_parts sign.Join n path e h u k = ((tt, (u, tt)), (h, (k, tt)))

  back_parts : (gives : ResultPlace) (n : Node) (e : Expr) → ExprLends kept e → StmtLends kept (gives_back gives n e)
  back_parts gives n e h = either_parts (is_result gives e) _ _ (h, tt) h

  last_parts : (gives : ResultPlace) (n : Node) (e : Expr) → ExprLends kept e → StmtLends kept (gives_last gives n e)
  last_parts gives n e h = either_parts (is_result gives e) _ _ (h, tt) h

  evaluated_parts : (ends : ResultPlace) (n : Node) (e : Expr) (s : Stmt) → evaluated ends n e ≡ Ok s → ExprLends kept e → StmtLends kept s
  evaluated_parts ends n e s h k = by_type (type_of e) h
    where
      by_test : (b : Bool) → given_if b ends n e ≡ Ok s → StmtLends kept s
      by_test true h = subst (StmtLends kept) (ok_one h) (last_parts ends n e k)
      by_test false h = cc

      by_type : (t : Option Ty) → evaluated_by ends n e t ≡ Ok s → StmtLends kept s
      by_type None h = subst (StmtLends kept) (ok_one h) ((tt, tt), (k, tt))
      by_type (Some t) h = by_test (has_type ends t) h

  selecting_parts : (e : Expr) → ExprLends kept e → ArgsLend kept (selecting e NoArg)
  selecting_parts (P.Read path) h = (h, tt)
  selecting_parts (P.Apply n ty act operands) h = (h, tt)
  selecting_parts (P.Early n ty short a b) h = (h, tt)
  selecting_parts (P.Choose n ty chooser parts) h = (h, tt)

  -- ---- branches

  abbrev AllBlocksLend : List Stmts → Type 0
  AllBlocksLend [] = Unit {0}
  AllBlocksLend (block ∷ rest) = BlockLends kept block × AllBlocksLend rest

  blocks_part : (all : List Stmts) (otherwise : Stmts) → AllBlocksLend all → BlockLends kept otherwise → BlocksLend kept (blocks_of all otherwise)
  blocks_part [] otherwise h k = k
  blocks_part (block ∷ rest) otherwise h k = (h.0, blocks_part rest otherwise h.1 k)

  record BranchesDone (st : State) (b : Branched) : Type 0 where
    pub tests : ArgsLend kept b.tests
    pub blocks : AllBlocksLend b.blocks
    pub on : On st b.state
    pub same : b.state.env.entries ≡ st.env.entries

  record ArmsDone (st : State) (b : Armed) : Type 0 where
    pub blocks : AllBlocksLend b.blocks
    pub on : On st b.state
    pub same : b.state.env.entries ≡ st.env.entries

  -- ---- statements of one step

  -- without a block
  at_node : (st : State) (n : ℕ) → Keeps kept st → Keeps kept (up_to_node st n)
  at_node st n keeps = keeps_on kept st (up_to_node st n) keeps refl (omega arith)

  node_on : (st : State) (n : ℕ) → On st (up_to_node st n)
  node_on st n = same_on st (up_to_node st n) refl refl refl

  did_done : (st : State) (s : Stmt) (n : ℕ) → StmtLends kept s → Keeps kept st → Done kept st (did st s n)
  did_done st s n h keeps = record { part = (h, tt); on = node_on st n; keeps = at_node st n keeps }

  -- with blocks
  closed_done : (st x : State) (s : Stmt) → StmtLends kept s → On st x → x.env.entries ≡ st.env.entries → Keeps kept st
      → Done kept st (stated_as (does s ∷ []) x)
  closed_done st x s h on same keeps = record { part = (h, tt); on = on; keeps = keeps_on kept st x keeps same on.grows }

  -- ---- definitions

  none_done : (st : State) → Keeps kept st → Done kept st (stated_as [] st)
  none_done st keeps = record { part = tt; on = same_on st st refl refl refl; keeps = keeps }

  done_both : (st : State) (one more : Stated) → Done kept st one → Done kept one.state more
      → Done kept st (stated_as (one.steps ++ more.steps) more.state)
  done_both st one more h k = record { part = both_part kept one.steps more.steps h.part k.part; on = on_then h.on k.on; keeps = k.keeps }

  variable_done : (a : Around) (at : Place) (b : Binding) (ty : Ty) (value : P.Args) (n : ℕ) (st : State) (d : TreeName) → ArgsLend kept value
      → Keeps kept st → Done kept st (variable_as a at b ty value n st d)
  variable_done a at b ty value n st d h keeps = record {
    part = (h, tt);
    on = stays st (with_variable st a b d ty n) refl refl (omega arith);
    keeps =
        keeps_more kept st (with_variable st a b d ty n) (entry_for st a b d ty ∷ []) keeps refl
        ((λ w. behind_false (not a.outermost) (kept st.place) (next_unkept kept st.place st.place keeps.bounded (omega arith))), tt)
        (omega arith, tt) (omega arith);
  }

  module _ (calls : CallsComputed) where
    value_part : {env : Env} {want : Want} {n : ℕ} {t : Term} {v : Value} → EntriesSpared kept env.entries → IsValue env want n t v
        → TermLends kept env t v.given.expr
    value_part {env} {t = t} s (v_value {e = e} {v = v} h i) =
        sure_ok (valued_parts (TermLends kept env t) e (type_of e) (typed_parts kept calls s h)) i

    value_as_part : {env : Env} {ty : Ty} {n : ℕ} {t : Term} {v : Value} → EntriesSpared kept env.entries → IsValueAs env ty n t v
        → ExprLends kept v.given.expr
    value_as_part s (v_of_type h i) = (value_part s h).0

    condition_part : {env : Env} {n : ℕ} {at : Place} {tests : Parts} {v : Value} → EntriesSpared kept env.entries → IsCondition env n at tests v
        → ExprLends kept v.given.expr
    condition_part s (R.s_condition e h) = value_as_part s h

    variables_done : {a : Around} {at : Place} {b : Binding} {env : Env} {ty : Option Ty} {t : Option Term} {st : State} {ds : List TreeName}
        {x : Stated} → EntriesSpared kept env.entries → Keeps kept st → AreVariables a at b env ty t st ds x → Done kept st x
    variables_done {st = st} s keeps R.d_no_names = none_done st keeps
    variables_done {a} {at} {b} {env} {st = st} s keeps (R.d_names {d = d} {one = one} {more = more} h k) =
        let first = by_value h in done_both st one more first (variables_done s first.keeps k)
      where
        by_value : {ty : Option Ty} {t : Option Term} {one : Stated} → IsVariable a at b env ty t st d one → Done kept st one
        by_value (R.d_initialised {v = v} (R.d_value h e)) = variable_done a at b v.given.of _ v.next st d ((value_part s h).0, tt) keeps
        by_value (R.d_defaulted {ty = ty}) = variable_done a at b ty NoArg (suc st.node) st d tt keeps

    definitions_done : {a : Around} {at : Place} {b : Binding} {st : State} {all : List Definition} {x : Stated} → Keeps kept st
        → AreDefinitions a at b st all x → Done kept st x
    definitions_done {st = st} keeps R.d_no_definitions = none_done st keeps
    definitions_done {st = st} keeps (R.d_definitions {one = one} {more = more} (R.d_variables e h i) k) =
        let first = variables_done keeps.spared keeps i in done_both st one more first (definitions_done first.keeps k)

  -- constants add nothing that is written
  pub record Adds (st x : State) : Type 0 where
    pub on : On st x
    pub keeps : Keeps kept x

  constants_add : {st x : State} {all : List Definition} → Keeps kept st → AreConstants st all x → Adds st x
  constants_add {st} keeps R.d_none_constant = record { on = same_on st st refl refl refl; keeps = keeps }
  constants_add {st} keeps (R.d_all_constant (R.d_constants e h k) more) =
      let first = by_value k in let rest = constants_add first.keeps more in record { on = on_then first.on rest.on; keeps = rest.keeps }
    where
      by_value : {ty : Option Ty} {names : List TreeName} {t : Option Term} {x : State} → IsConstantOf st ty names t x → Adds st x
      by_value (R.d_constant {names = names} {c = c} h e) =
          let entries = constant_entries c.of c.literal names in record {
            on = same_on st (declaring st entries) refl refl refl;
            keeps = keeps_plain kept st (declaring st entries) entries keeps refl (constants_plain c.of c.literal names) (omega arith);
          }
      by_value R.d_no_constant = record { on = same_on st st refl refl refl; keeps = keeps }

  section_adds : {st : State} {all : List Declaration} {env : Env} → Keeps kept st → IsSection st all env → Adds st (record st { env = env })
  section_adds {st} {all} {env} keeps (d_section {s = s} h i j) = record {
    on = same_on st (record st { env = env }) refl refl refl;
    keeps =
        keeps_plain kept st (record st { env = env }) (types_by st [] (known_entry (known_of (keys_of all) s.defined)) all ++ s.members) keeps refl
        (section_plain (known_of (keys_of all) s.defined) h) (omega arith);
  }

-- ---- the induction

module _ (calls : CallsComputed) where
  mutual
    pub stated_done : {a : Around} {ends : ResultPlace} {st : State} {s : Statement} {x : Stated} (kept : ℕ → Bool) → Keeps kept st → IsStated a ends st s x
        → Done kept st x
    stated_done {st = st} kept keeps R.s_discard = did_done kept st _ _ tt keeps
    stated_done {st = st} kept keeps (R.s_discard_value h) =
        did_done kept st _ _ ((tt, tt), ((value_part kept calls keeps.spared h).0, tt)) keeps
    stated_done {st = st} kept keeps (R.s_return h) = did_done kept st _ _ tt keeps
    stated_done {st = st} kept keeps (R.s_return_value {gives = gives} {at = at} {e = y} {v = v} h k r) =
        did_done kept st _ _ (back_parts kept gives (node st.node at) v.expr (returned_parts kept gives y v r (typed_parts kept calls keeps.spared k).0)) keeps
    stated_done {st = st} kept keeps (R.s_break h) = did_done kept st _ _ tt keeps
    stated_done {st = st} kept keeps (R.s_continue h) = did_done kept st _ _ tt keeps
    stated_done {ends = ends} {st = st} kept keeps (R.s_evaluate {at = at} {e = y} {s = s} h r) =
        did_done kept st s _ (evaluated_parts kept ends (node st.node at) y s r (typed_parts kept calls keeps.spared h).0) keeps
    stated_done {ends = ends} {st = st} kept keeps (R.s_command {at = at} {e = y} {s = s} h r) =
        did_done kept st s _ (evaluated_parts kept ends (node st.node at) y s r (typed_parts kept calls keeps.spared h).0) keeps
    stated_done {st = st} kept keeps (R.s_assign {at = at} {op = op} {t = t} {v = v} {w = w} {target = target} {source = source} h i j k r) =
        let here = accepted_as (TermLends kept st.env t) (is_target op v.given.of) v.given target i (value_part kept calls keeps.spared h) in
        let written = sure_ok (write_sure (target_at st.env t target)) j in
        did_done kept st _ _
        (assigned_parts kept op (node st.node at) (path_of target.expr) source.expr (path_parts kept target.expr here.0)
        (here.1 (second_true (is_some (root_of (path_of target.expr))) (has_writable_root st.env t) written))
        (accepted_as (ExprLends kept) (is_source op target.of w.given.of) w.given source r (value_part kept calls keeps.spared k).0)) keeps
    stated_done {st = st} kept keeps (R.s_constants {behind = behind} {at = at} h) =
        let add = constants_add kept keeps h in
        let last = did_done kept behind (P.Idle (node behind.node at) NoArg) (suc behind.node) tt add.keeps in
        record { part = last.part; on = on_then add.on last.on; keeps = last.keeps }
    stated_done kept keeps (R.s_variables i h) = definitions_done kept calls keeps h
    stated_done {st = st} kept keeps (R.s_types {at = at} {env = env} h) =
        let add = section_adds kept keeps h in
        let last = did_done kept (record st { env = env }) (P.Idle (node st.node at) NoArg) (suc st.node) tt add.keeps in
        record { part = last.part; on = on_then add.on last.on; keeps = last.keeps }
    stated_done {st = st} kept keeps (R.s_if {b = b} {o = o} h k) =
        let first = at_node kept st (suc st.node) keeps in
        let c = branches_done kept first h in
        let d = block_done kept (keeps_on kept (up_to_node st (suc st.node)) b.state first c.same c.on.grows) k in
        closed_done kept st o.state _ (c.tests, blocks_part kept b.blocks o.stmts c.blocks d.part)
        (on_then (on_then (node_on kept st (suc st.node)) c.on) d.on) (d.same ∙ c.same) keeps
    stated_done {st = st} kept keeps (R.s_case {v = v} {b = b} {o = o} h i k j r) =
        let first = at_node kept st v.next keeps in
        let c = arms_done kept first k in
        let d = block_done kept (keeps_on kept (up_to_node st v.next) b.state first c.same c.on.grows) j in
        closed_done kept st o.state _
        (selecting_parts kept v.given.expr (value_part kept calls keeps.spared h).0, blocks_part kept b.blocks o.stmts c.blocks d.part)
        (on_then (on_then (node_on kept st v.next) c.on) d.on) (d.same ∙ c.same) keeps
    stated_done {st = st} kept keeps (R.s_while {c = c} {b = b} h k) =
        let d = block_done kept (at_node kept st c.next keeps) k in
        closed_done kept st b.state _ ((value_as_part kept calls keeps.spared h, tt), d.part) (on_then (node_on kept st c.next) d.on) d.same keeps
    stated_done {st = st} kept keeps (R.s_for_each {x = x} {v = v} {ty = ty} {b = b} h i k) =
        let d = block_done (also (loop_variable st x ty) kept) (keeps_loop kept st v x ty keeps) k in
        closed_done kept st (left st b.state) _ ((path_parts kept v.given.expr (value_part kept calls keeps.spared h).0, tt), d.part)
        (loop_on st v x ty b.state d.on) refl keeps
    stated_done {st = st} kept keeps (R.s_for_range {x = x} {v = v} {w = w} {b = b} r h i k) =
        let d = block_done (also (loop_variable st x type.int) kept) (keeps_loop kept st w x type.int keeps) k in
        closed_done kept st (left st b.state) _
        ((value_as_part kept calls keeps.spared h, (value_as_part kept calls keeps.spared i, tt)), d.part)
        (loop_on st w x type.int b.state d.on) refl keeps
    stated_done {st = st} kept keeps (R.s_procedure {at = at} {h = head} {body = body} {k = k} {s = s} h i j) =
        let before = behind_head st at head k in
        let known = head_keeps kept st at head k keeps in
        let d = all_done (own_kept before k) (body_keeps before head k known.below) j in
        let on = body_on (has_statements body) before at head k s d.part
        (on_then (stays before (before_body before head k) refl refl (omega arith)) d.on) in
        record {
          part = tt;
          on = on_then (head_on st at head k) on;
          keeps = keeps_on kept before (behind_body (has_statements body) before at head k s) known (body_same (has_statements body) before at head k s)
              on.grows;
        }

    pub all_done : {a : Around} {ends : ResultPlace} {st : State} {all : Statements} {x : Stated} (kept : ℕ → Bool) → Keeps kept st
        → AreStated a ends st all x → Done kept st x
    all_done {st = st} kept keeps R.s_none = none_done kept st keeps
    all_done {a} {st = st} kept keeps (R.s_more {one = one} {more = more} h k) =
        let f = stated_done kept keeps h in
        let g = all_done kept (noting_keeps kept a.outermost one f.keeps) k in
        record { part = both_part kept one.steps more.steps f.part g.part; on = on_then f.on (on_then (noting_on a.outermost one) g.on); keeps = g.keeps }

    block_done : {a : Around} {st : State} {body : Statements} {b : Blocked} (kept : ℕ → Bool) → Keeps kept st → IsBlock a st body b → Closed kept st b
    block_done {st = st} kept keeps (R.s_block {s = s} h) =
        let d = all_done kept (keeps_on kept st (entered st) keeps refl (omega arith)) h in
        record {
          part = d.part;
          on = on_then (on_then (same_on st (entered st) refl refl refl) d.on) (same_on s.state (left st s.state) refl refl refl);
          same = refl;
        }

    branches_done : {a : Around} {st : State} {all : Branches} {b : Branched} (kept : ℕ → Bool) → Keeps kept st → AreBranches a st all b
        → BranchesDone kept st b
    branches_done {st = st} kept keeps R.s_no_branches = record { tests = tt; blocks = tt; on = same_on st st refl refl refl; same = refl }
    branches_done {st = st} kept keeps (R.s_branches {c = c} {b = b} h k j) =
        let first = at_node kept st c.next keeps in
        let d = block_done kept first k in
        let m = branches_done kept (keeps_on kept (up_to_node st c.next) b.state first d.same d.on.grows) j in
        record {
          tests = (condition_part kept calls keeps.spared h, m.tests);
          blocks = (d.part, m.blocks);
          on = on_then (on_then (node_on kept st c.next) d.on) m.on;
          same = m.same ∙ d.same;
        }

    arms_done : {a : Around} {ty : Ty} {before : List Label} {st : State} {all : Branches} {b : Armed} (kept : ℕ → Bool) → Keeps kept st
        → AreArms a ty before st all b → ArmsDone kept st b
    arms_done {st = st} kept keeps R.s_no_arms = record { blocks = tt; on = same_on st st refl refl refl; same = refl }
    arms_done {st = st} kept keeps (R.s_arms {b = b} h k j) =
        let d = block_done kept keeps k in
        let m = arms_done kept (keeps_on kept st b.state keeps d.same d.on.grows) j in
        record { blocks = (d.part, m.blocks); on = on_then d.on m.on; same = m.same ∙ d.same }
