-- All statements of blocks are typed.
use Rattle.std.proofs.Common.{◌≡◌, ℕ, suc, ◌≤◌, Bool, true, false, List, [], ◌∷◌, ◌++◌, Option, Some, None, refl, sym, ap, subst, ◌∙◌, arith}
use Rattle.std.specs.Prelude.{◌||◌, not, Ok}
use Rattle.std.proofs.lemmas.Bool.{or_left, or_right, not_from_false, and_parts}
use Rattle.arc_base.specs.declared.place.Place.{Place}
use Rattle.indent_scanner.specs.Words.{normal}
use Rattle.nim_tree.specs.declared.name.Name.{Name}
use Rattle.nim_tree.specs.declared.stmt.AssignOp.{AssignOp}
use Rattle.nim_tree.specs.declared.stmt.AssignOp.TheVariants as sign
use Rattle.nim_tree.specs.Terms.{Term, Parts, no_parts, part}
use Rattle.nim_tree.specs.Types.{Declaration}
use Rattle.nim_tree.specs.declared.stmt.Binding.{Binding}
use Rattle.nim_tree.specs.Statements as tree
use Rattle.nim_tree.specs.Statements.{Definition, Head, Statement, Statements, empty, then, Branches as Trees, Course}
use Rattle.nim_types.specs.Types as type
use Rattle.nim_types.specs.Types.{Ty, Facts, same}
use Rattle.nim_program.specs.Program as P
use Rattle.nim_program.specs.Program.{Label, Expr, Args, NoArg, ByValue, ByPath, Stmt, Stmts, Empty, Blocks, Otherwise, Block, Declared, type_of, type_at}
use Rattle.nim_program.specs.Program.{types_in}
use Rattle.nim_program.specs.Nodes.{selecting, blocks_of}
use Rattle.nim_program.specs.Kinds.{kind_of, kind_if, is_bool, is_int, is_of, is_selected, has_length, element_of}
use Rattle.nim_program.specs.Fitting.{are_labels, are_enough}
use Rattle.nim_program.specs.Scopes.{Here, with_place}
use Rattle.nim_program.specs.Typed as T
use Rattle.nim_program.specs.Typed.{is_typed, are_typed, is_empty, are_conditions, are_blocks, has_else, labels_select, selector_kind}
use Rattle.nim_program.specs.Typed.{is_selector as reads_selector}
use Rattle.nim_program.specs.Typed.{is_typed_stmt, is_typed_block, are_typed_blocks, is_read, is_located, is_whole, is_typed_path}
use Rattle.expr_rules.specs.Env.{Env}
use Rattle.expr_rules.specs.Answers.{node, place_in, Valued, wanted}
use Rattle.expr_rules.specs.Constructions.{element_type}
use Rattle.expr_rules.specs.Demands.{is_selector}
use Rattle.expr_rules.specs.Covered.{AreEnough}
use Rattle.expr_rules.specs.Laws.{CallsComputed, NodesComputed, EnoughComputed}
use Rattle.decl_rules.specs.State.{ResultPlace, Around, State, Step, in_body, deeper, looping, up_to_node, Stated, stated_as, noting, Blocked}
use Rattle.decl_rules.specs.Values.{type_given, given_want, is_target, is_source, single_test}
use Rattle.decl_rules.specs.Values.{source_want}
use Rattle.decl_rules.specs.Values.{element_rule, element_or}
use Rattle.decl_rules.specs.Stated.{Branched, Armed, ends_with, covered, has_statements, is_constant}
use Rattle.decl_rules.specs.Heads.{Headed}
use Rattle.decl_rules.specs.Bodies.{loop_variable, with_loop_variable, result_of, behind_head, before_body, behind_body}
use Rattle.decl_rules.specs.TypeRules.{IsSection}
use Rattle.decl_rules.specs.Rules as R
use Rattle.decl_rules.specs.Rules.{IsCondition, IsRange, to_last, below_last, IsHead, AreDefinitions, IsStated, AreStated, IsBlock, AreBranches, AreArms}
use Rattle.typing_laws.specs.Sound.{Sound, of_int, of_bool}
use Rattle.typing_laws.specs.Knows.{IfSound, KnowsWell, with_facts}
use Rattle.typing_laws.specs.Trees.{IsRead, AreRead, has_some, CourseRead, TypesRead, StatementRead, StatementsRead, BranchesRead}
use Rattle.typing_laws.proofs.Tests.{both, never, ever, ok_one, is_by, none_some}
use Rattle.typing_laws.proofs.SoundKinds.{selected, element_kind}
use Rattle.typing_laws.proofs.Right.{RightValue, path_right, operand_typed}
use Rattle.typing_laws.proofs.Constants.{Closed, ClosedOne}
use Rattle.typing_laws.proofs.Covers.{enough}
use Rattle.typing_laws.proofs.Labels.{kept_kind}
use Rattle.typing_laws.proofs.Induction.{Preserved, typed_right}
use Rattle.typing_laws.proofs.Growing.{sound_grown, under_one}
use Rattle.typing_laws.proofs.Further.{AllSaid, said_by, before_end}
use Rattle.typing_laws.proofs.Grows.{all_grow, block_grows, branches_grow, arms_grow}
use Rattle.typing_laws.proofs.Steps.{as_before, with_one, same_facts, onto_none, is_some, some_statement, InEnd, At, StepsRight, OneRight}
use Rattle.typing_laws.proofs.Steps.{one_does, one_step, nothing_done, both_done, behind_block}
use Rattle.typing_laws.proofs.Statements.{Fits, value_by, accepted_is, let_go, evaluated_typed, given_typed, assigned_typed, target_written, with_entry}
use Rattle.typing_laws.proofs.Blocks.{own, value_right, value_as, definitions_typed, some_definition}
use Rattle.typing_laws.proofs.Arms.{returned_is, labels_typed, labels_some, arms_labels, all_covered, else_of, constants_right, constants_place}

-- a section keeps what is known true
abbrev pub SectionsKept : Type 0
SectionsKept = (here : Here) (st : State) (all : List Declaration) (env : Env) → KnowsWell here st.env → TypesRead all → IsSection st all env
    → AllSaid env.facts here.facts → KnowsWell here env

-- ---- what stands around

fits_deeper : {facts : Facts} {a : Around} {ends : ResultPlace} {around : T.Around} → Fits facts a ends around → Fits facts (deeper a) None around
fits_deeper f = record { loops = f.loops; returns = f.returns; at_end = λ place e. none_some e; sound = tt }

fits_looping : {facts : Facts} {a : Around} {ends : ResultPlace} {around : T.Around} → Fits facts a ends around → Fits facts (looping a) ends (T.looping around)
fits_looping f = record { loops = λ e. refl; returns = f.returns; at_end = f.at_end; sound = f.sound }

fits_ends : {facts : Facts} {a : Around} {ends : ResultPlace} {around : T.Around} (rest : Statements) → Fits facts a ends around
    → Fits facts a (ends_with ends rest) around
fits_ends empty f = f
fits_ends (then s rest) f = record { loops = f.loops; returns = f.returns; at_end = λ place e. none_some e; sound = tt }

want_given : (facts : Facts) (ends : ResultPlace) → IfSound facts (type_given ends) → IfSound facts (wanted (given_want ends))
want_given facts None h = tt
want_given facts (Some place) h = h

-- ---- branches

record Branches (here : Here) (around : T.Around) (st : State) (b : Branched) : Type 0 where
  conditions : are_conditions here.facts b.tests ≡ true
  typed : are_typed here b.tests ≡ true
  matched : (o : Stmts) → are_blocks (types_in b.tests) (blocks_of b.blocks o) ≡ true
  blocks : (o : Stmts) → is_typed_block here around o ≡ true → are_typed_blocks here around (blocks_of b.blocks o) ≡ true
  at : At here b.state
  later : st.place ≤ b.state.place

record Arms (here : Here) (around : T.Around) (st : State) (of : Ty) (b : Armed) : Type 0 where
  labels : are_labels (kind_of here.facts of) b.rows ≡ true
  matched : (o : Stmts) → are_blocks b.rows (blocks_of b.blocks o) ≡ true
  blocks : (o : Stmts) → is_typed_block here around o ≡ true → are_typed_blocks here around (blocks_of b.blocks o) ≡ true
  at : At here b.state
  later : st.place ≤ b.state.place

-- a block with its state
record InBlock (here : Here) (around : T.Around) (st : State) (b : Blocked) : Type 0 where
  typed : is_typed_block here around b.stmts ≡ true
  at : At here b.state
  later : st.place ≤ b.state.place

further : {here : Here} {st : State} (n : ℕ) → At here st → At here (up_to_node st n)
further n at = record { knows = at.knows; under = at.under }

-- ---- selectors

selector_of : (here : Here) (v : Valued) (rest : Args) → RightValue here v → are_typed here rest ≡ true → are_typed here (selecting v.expr rest) ≡ true
selector_of here v rest h t = by_expr v.expr h.typed
  where
    by_expr : (e : Expr) → is_typed here e ≡ true → are_typed here (selecting e rest) ≡ true
    by_expr (P.Read path) h =
        let q = and_parts (is_read here.facts path) (is_typed_path here path) h in
        both (both (and_parts (is_located path) (is_whole here.facts path) q.0).1 q.1) t
    by_expr (P.Apply n ty act operands) h = both h t
    by_expr (P.Early n ty short a b) h = both h t
    by_expr (P.Choose n ty chooser parts) h = both h t

reads : (here : Here) (e : Expr) → is_typed here e ≡ true → reads_selector (selecting e NoArg) ≡ true
reads here (P.Read path) h =
    (and_parts (is_located path) (is_whole here.facts path) (and_parts (is_read here.facts path) (is_typed_path here path) h).0).0
reads here (P.Apply n ty act operands) h = refl
reads here (P.Early n ty short a b) h = refl
reads here (P.Choose n ty chooser parts) h = refl

kind_selected : (facts : Facts) (e : Expr) → selector_kind facts (selecting e NoArg) ≡ kind_if facts (type_of e)
kind_selected facts (P.Read path) = refl
kind_selected facts (P.Apply n ty act operands) = refl
kind_selected facts (P.Early n ty short a b) = refl
kind_selected facts (P.Choose n ty chooser parts) = refl

-- the variable of a `for`
pub loop_known : {here : Here} {st : State} (x : Name) (ty : Ty) → At here st → Sound here.facts ty → Sound st.env.facts ty
    → At (with_place here (loop_variable st x ty)) (with_loop_variable st x ty)
loop_known {here} {st} x ty at s own_s =
    record {
      knows = with_entry here st.env (loop_variable st x ty) (normal x.text) false at.knows at.under s own_s;
      under = under_one st.place here.places _ at.under refl;
    }

pub same_element : (v : Valued) (ty : Ty) → element_rule v ≡ Ok ty → element_type v.of ≡ Some ty
same_element v ty h = by_type (element_type v.of) h
  where
    by_type : (o : Option Ty) → element_or (place_in v.expr) o ≡ Ok ty → o ≡ Some ty
    by_type None h = cc
    by_type (Some t) h = ap (λ t. Some t) (ok_one h)

source_sound : (op : AssignOp) (t : Ty) (here : Here) → Sound here.facts t → IfSound here.facts (wanted (source_want op t))
source_sound sign.Set t here h = h
source_sound sign.Plus t here h = h
source_sound sign.Minus t here h = h
source_sound sign.Times t here h = h
source_sound sign.Join t here h = h

pub course_read : {course : Course} {t u : Term} {inclusive : Bool} → IsRange course t u inclusive → CourseRead course → IsRead t × IsRead u
course_read to_last h = h
course_read below_last h = h

pub test_read : (at : Place) (tests : Parts) (t : Term) → single_test at tests ≡ Ok t → AreRead tests → IsRead t
test_read at no_parts t e h = cc
test_read at (part a no_parts) t e h = subst IsRead (ok_one e) h.0
test_read at (part a (part b rest)) t e h = cc

is_an_int : (here : Here) (v : Valued) → RightValue here v → v.of ≡ type.int → is_int (kind_if here.facts (type_of v.expr)) ≡ true
is_an_int here v h e = subst (λ t. is_int (kind_if here.facts t) ≡ true) (sym h.gives) (ap (λ t. is_int (kind_of here.facts t)) e)

-- ---- sorts of statements

-- variables, or a procedure with its own
abbrev pub declares_places : Statement → Bool
declares_places (tree.defines at b all) = not (is_constant b)
declares_places (tree.proclaims at h body) = true
declares_places s = false

pub data Sort (a : Around) (st : State) : Statement → Stated → Type 0 where
  definitions : {at : Place} {b : Binding} {all : List Definition} {x : Stated} → is_constant b ≡ false → AreDefinitions a at b st all x
      → Sort a st (tree.defines at b all) x
  a_procedure : {at : Place} {h : Head} {body : Statements} {k : Headed} {s : Stated} → a.outermost ≡ true → IsHead st at h (has_statements body) k
      → AreStated (in_body (result_of (behind_head st at h k) h k)) (result_of (behind_head st at h k) h k)
      (before_body (behind_head st at h k) h k) body s
      → Sort a st (tree.proclaims at h body) (stated_as [] (behind_body (has_statements body) (behind_head st at h k) at h k s))
  other : {s : Statement} {x : Stated} → declares_places s ≡ false → Sort a st s x

pub sort : {a : Around} {ends : ResultPlace} {st : State} {s : Statement} {x : Stated} → IsStated a ends st s x → Sort a st s x
sort (R.s_variables i h) = definitions i h
sort (R.s_procedure o h k) = a_procedure o h k
sort h = other refl

-- ---- a statement at least

stated_some : {a : Around} {ends : ResultPlace} {st : State} {s : Statement} {x : Stated} → IsStated a ends st s x → a.outermost ≡ false → StatementRead s
    → is_some x.steps ≡ true
stated_some R.s_discard o read = refl
stated_some (R.s_discard_value h) o read = refl
stated_some (R.s_return h) o read = refl
stated_some (R.s_return_value h k r) o read = refl
stated_some (R.s_break h) o read = refl
stated_some (R.s_continue h) o read = refl
stated_some (R.s_evaluate h r) o read = refl
stated_some (R.s_command h r) o read = refl
stated_some (R.s_assign h i j k r) o read = refl
stated_some (R.s_constants h) o read = refl
stated_some (R.s_variables i h) o read = some_definition h read.0 read.1
stated_some (R.s_types h) o read = refl
stated_some (R.s_if h k) o read = refl
stated_some (R.s_case h i k j r) o read = refl
stated_some (R.s_while h k) o read = refl
stated_some (R.s_for_each h i k) o read = refl
stated_some (R.s_for_range r h i k) o read = refl
stated_some (R.s_procedure h i k) o read = ever (sym h ∙ o)

first_some : (xs ys : List Step) → is_some xs ≡ true → is_some (xs ++ ys) ≡ true
first_some [] ys h = never h
first_some (x ∷ xs) ys h = refl

pub all_some : {a : Around} {ends : ResultPlace} {st : State} {all : Statements} {x : Stated} → AreStated a ends st all x → a.outermost ≡ false
    → has_some all ≡ true → StatementsRead all → is_some x.steps ≡ true
all_some R.s_none o h read = never h
all_some (R.s_more {one = one} {more = more} h k) o n read = first_some one.steps more.steps (stated_some h o read.0)

block_some : {a : Around} {st : State} {body : Statements} {b : Blocked} → IsBlock a st body b → has_some body ≡ true → StatementsRead body
    → is_empty b.stmts ≡ false
block_some (R.s_block {s = s} h) n read =
    subst (λ b. is_empty b ≡ false) (sym (onto_none s.steps)) (some_statement s.steps Empty (all_some h refl n read))

-- ---- a `case` is whole

arms_enough : EnoughComputed → (here : Here) (st : State) (p : Place) (of : Ty) (b : Armed) (e : Blocked) (otherwise : Statements) {a c : Around}
    {before : State} {all : Trees} → AreArms a of [] before all b → IsBlock c b.state otherwise e → StatementsRead otherwise → Sound st.env.facts of
    → is_selector of ≡ true → kind_of here.facts of ≡ kind_of st.env.facts of → covered st.env.facts p of b.labels otherwise ≡ Ok tt
    → (has_else (blocks_of b.blocks e.stmts) || are_enough (kind_of here.facts of) None b.rows) ≡ true
arms_enough law here st p of b e empty k j read s t kept c =
    or_right (has_else (blocks_of b.blocks e.stmts)) (are_enough (kind_of here.facts of) None b.rows)
    (enough here.facts st.env.facts of None b.rows kept s t
    (subst (AreEnough st.env.facts of None) (arms_labels k) (all_covered law st.env.facts p of b.labels c)))
arms_enough law here st p of b e (then first rest) k j read s t kept c =
    or_left (has_else (blocks_of b.blocks e.stmts)) (are_enough (kind_of here.facts of) None b.rows)
    (else_of b.blocks e.stmts ∙ not_from_false (is_empty e.stmts) (block_some j refl read))

module _ (calls : CallsComputed) (nodes : NodesComputed) (covers : EnoughComputed) (preserved : Preserved) (closed_ints : Closed) (closed_one : ClosedOne)
    (sections : SectionsKept) where
  own_of : (here : Here) (env : Env) → KnowsWell here env → KnowsWell (with_facts here env.facts) env
  own_of here env knows = own calls preserved closed_ints closed_one here env knows

  -- in a block, where no procedure stands
  by_sort : {a : Around} {st : State} {s : Statement} {x : Stated} → Sort a st s x → a.outermost ≡ false → StatementRead s → (here : Here)
      (around : T.Around) → At here st → (declares_places s ≡ false → OneRight here around st x) → StepsRight here around st x
  by_sort (definitions i h) o read here around at go = definitions_typed calls preserved closed_ints closed_one h o read.1 here around at
  by_sort (a_procedure p h k) o read here around at go = ever (sym p ∙ o)
  by_sort {st = st} {x = x} (other d) o read here around at go = one_step here around st x (go d)

  mutual
    pub stated_right : {a : Around} {ends : ResultPlace} {st : State} {s : Statement} {x : Stated} → IsStated a ends st s x → declares_places s ≡ false
        → StatementRead s → (here : Here) (around : T.Around) → Fits here.facts a ends around → At here st → InEnd here x.state
        → OneRight here around st x
    stated_right {st = st} R.s_discard o read here around f at end = one_does here around st _ _ refl (further _ at) (omega arith)
    stated_right {st = st} (R.s_discard_value {at = p} {v = v} h) o read here around f at end =
        let r = value_right calls preserved closed_ints closed_one h read here at.knows tt in
        one_does here around st _ _ (let_go here around (node st.node p) v.given.expr r.typed) (further _ at) (omega arith)
    stated_right {st = st} (R.s_return {gives = gives} {at = p} h) o read here around f at end =
        one_does here around st _ _ (both (f.returns p gives h).0 refl) (further _ at) (omega arith)
    stated_right {st = st} (R.s_return_value {gives = gives} {at = p} {e = e} {v = v} h k r) o read here around f at end =
        let g = f.returns p gives h in
        let q = typed_right calls preserved k read here at.knows (want_given here.facts gives g.2) in
        let is = returned_is gives e v r in
        let w = value_by here e v q is.2 in
        one_does here around st _ _
        (given_typed here around gives (node st.node p) v.expr v.of g.0 (g.1 ∙ ap type_given is.1 ∙ ap (λ t. Some t) (sym is.3)) w.typed w.gives)
        (further _ at) (omega arith)
    stated_right {st = st} (R.s_break e) o read here around f at end = one_does here around st _ _ (both (f.loops e) refl) (further _ at) (omega arith)
    stated_right {st = st} (R.s_continue e) o read here around f at end = one_does here around st _ _ (both (f.loops e) refl) (further _ at) (omega arith)
    stated_right {a} {ends} {st} (R.s_evaluate {at = p} {e = e} {s = s} h k) o read here around f at end =
        one_does here around st _ s
        (evaluated_typed here a ends around (node st.node p) e s f (typed_right calls preserved h read here at.knows (want_given here.facts ends f.sound)) k)
        (further _ at) (omega arith)
    stated_right {a} {ends} {st} (R.s_command {at = p} {e = e} {s = s} h k) o read here around f at end =
        one_does here around st _ s
        (evaluated_typed here a ends around (node st.node p) e s f (typed_right calls preserved h read here at.knows (want_given here.facts ends f.sound)) k)
        (further _ at) (omega arith)
    stated_right {st = st} (R.s_assign {at = p} {op = op} {t = t} {v = v} {w = w} {target = target} {source = source} h i j k r) o read here around f at end =
        let a = accepted_is (is_target op v.given.of) v.given target i in
        let q = value_right calls preserved closed_ints closed_one h read.0 here at.knows tt in
        let qt = subst (RightValue here) a.0 q in
        let u = value_right calls preserved closed_ints closed_one k read.1 here at.knows (source_sound op target.of here qt.sound) in
        let b = accepted_is (is_source op target.of w.given.of) w.given source r in
        let us = subst (RightValue here) b.0 u in
        one_does here around st _ _
        (assigned_typed here around op (node st.node p) target source qt us (target_written st.env t target j)
        (subst (λ (v : Valued). is_target op v.of ≡ true) a.0 a.1) (subst (λ (v : Valued). is_source op target.of v.of ≡ true) b.0 b.1))
        (further _ at) (omega arith)
    stated_right {st = st} (R.s_constants {behind = behind} h) o read here around f at end =
        one_does here around st _ _ refl (further _ (constants_right calls preserved closed_ints closed_one h read.1 here at))
        (omega (arith, constants_place calls preserved closed_ints closed_one h))
    stated_right (R.s_variables i h) o read here around f at end = ever (sym (ap not i) ∙ o)
    stated_right {st = st} (R.s_types {all = all} {env = env} h) o read here around f at end =
        one_does here around st _ _ refl (record { knows = sections here st all env at.knows read h end; under = at.under }) (omega arith)
    stated_right {st = st} (R.s_if {b = b} {o = e} h k) o read here around f at end =
        let r = branches_right h read.0 here around f (further (suc st.node) at) (before_end here.facts (block_grows k) end) in
        let q = block_right k read.1 here around f r.at end in
        one_does here around st e.state _ (both (both (both r.conditions (r.matched e.stmts)) r.typed) (r.blocks e.stmts q.typed)) q.at
        (omega (arith, r.later, q.later))
    stated_right {st = st} (R.s_case {at = p} {otherwise = otherwise} {v = v} {s = s} {b = b} {o = e} h i k j c) o read here around f at end =
        let a = accepted_is (is_selector v.given.of) v.given s i in
        let q = value_right calls preserved closed_ints closed_one h read.0 here at.knows tt in
        let w = value_right calls preserved closed_ints closed_one h read.0 (with_facts here st.env.facts) (own_of here st.env at.knows) tt in
        let t : is_selector s.of ≡ true = subst (λ (v : Valued). is_selector v.of ≡ true) a.0 a.1 in
        let own_s : Sound st.env.facts s.of = subst (λ (v : Valued). Sound st.env.facts v.of) a.0 w.sound in
        let r = arms_right k read.1.0 here around f (further v.next at) (before_end here.facts (block_grows j) end) own_s t in
        let z = block_right j read.1.1 here around f r.at end in
        let kind : selector_kind here.facts (selecting v.given.expr NoArg) ≡ kind_of here.facts s.of =
        kind_selected here.facts v.given.expr ∙ ap (kind_if here.facts) q.gives ∙ ap (λ (v : Valued). kind_of here.facts v.of) a.0 in
        let sel : is_selected (kind_of here.facts s.of) ≡ true = selected (subst (λ (v : Valued). Sound here.facts v.of) a.0 q.sound) t in
        let cover : (has_else (blocks_of b.blocks e.stmts) || are_enough (kind_of here.facts s.of) None b.rows) ≡ true =
        arms_enough covers here st p s.of b e otherwise k j read.1.1 own_s t (kept_kind here.facts st.env.facts at.knows.all.said own_s) c in
        one_does here around st e.state _
        (both (both (both (reads here v.given.expr q.typed)
        (subst (λ k. labels_select k b.rows (blocks_of b.blocks e.stmts) ≡ true) (sym kind) (both (both (both sel r.labels) (r.matched e.stmts)) cover)))
        (selector_of here v.given NoArg q refl)) (r.blocks e.stmts z.typed)) z.at
        (omega (arith, r.later, z.later))
    stated_right {st = st} (R.s_while {c = c} {b = b} h k) o read here around f at end =
        let r = value_as calls preserved closed_ints closed_one h read.0 here at.knows of_bool in
        let q = block_right k read.1.1 here (T.looping around) (fits_looping f) (further c.next at) end in
        let n = block_some k read.1.0 read.1.1 in
        one_does here around st b.state _
        (both (both (subst (λ t. is_bool (kind_if here.facts t) ≡ true) (sym r.0.gives) (ap (λ t. is_bool (kind_of here.facts t)) r.1)) (both r.0.typed refl))
        (both (not_from_false _ n) q.typed)) q.at q.later
    stated_right {st = st} (R.s_for_each {x = x} {v = v} {ty = ty} {b = b} h i k) o read here around f at end =
        let r = value_right calls preserved closed_ints closed_one h read.0 here at.knows tt in
        let w = value_right calls preserved closed_ints closed_one h read.0 (with_facts here st.env.facts) (own_of here st.env at.knows) tt in
        let e = element_kind r.sound (same_element v.given ty i) in
        let g = element_kind w.sound (same_element v.given ty i) in
        let there = with_place here (loop_variable st x ty) in
        let start = loop_known x ty (further v.next at) e.2 g.2 in
        let q = block_right k read.1.1 there (T.looping around) (fits_looping f) start end in
        let n = block_some k read.1.0 read.1.1 in
        let p = path_right here v.given r in
        one_does here around st _ _
        (both (both (both (subst (λ t. has_length (kind_if here.facts t) ≡ true) (sym p.0) e.1)
        (subst (λ t. is_of (element_of (kind_if here.facts t)) (Some ty) ≡ true) (sym p.0) (is_by e.0 refl))) (operand_typed here v.given NoArg r refl))
        (both (not_from_false _ n) q.typed))
        (behind_block closed_ints closed_one here there st b.state at (with_one (loop_variable st x ty) as_before) q.at.knows
        (said_by (block_grows k)) (omega (arith, q.later))) (omega (arith, q.later))
    stated_right {st = st} (R.s_for_range {x = x} {course = course} {v = v} {w = w} {b = b} r h i k) o read here around f at end =
        let t = course_read r read.0 in
        let p = value_as calls preserved closed_ints closed_one h t.0 here at.knows of_int in
        let q = value_as calls preserved closed_ints closed_one i t.1 here at.knows of_int in
        let there = with_place here (loop_variable st x type.int) in
        let start = loop_known x type.int (further w.next at) of_int of_int in
        let z = block_right k read.1.1 there (T.looping around) (fits_looping f) start end in
        let n = block_some k read.1.0 read.1.1 in
        one_does here around st _ _
        (both (both (both (is_an_int here v.given p.0 p.1) (is_an_int here w.given q.0 q.1)) (both p.0.typed (both q.0.typed refl)))
        (both (not_from_false _ n) z.typed))
        (behind_block closed_ints closed_one here there st b.state at (with_one (loop_variable st x type.int) as_before) z.at.knows
        (said_by (block_grows k)) (omega (arith, z.later))) (omega (arith, z.later))
    stated_right (R.s_procedure h i k) o read here around f at end = ever o

    pub all_right : {a : Around} {ends : ResultPlace} {st : State} {all : Statements} {x : Stated} → AreStated a ends st all x → a.outermost ≡ false
        → StatementsRead all → (here : Here) (around : T.Around) → Fits here.facts a ends around → At here st → InEnd here x.state
        → StepsRight here around st x
    all_right {st = st} R.s_none o read here around f at end = nothing_done here around st at
    all_right {a} {ends} {st} (R.s_more {rest = rest} {one = one} {more = more} h k) o read here around f at end =
        let e : noting a.outermost one ≡ one.state = ap (λ b. noting b one) o in
        let r = by_sort (sort h) o read.0 here around at (λ d. stated_right h d read.0 here around (fits_ends rest f) at
        (subst (λ (s : State). InEnd here s) e (before_end here.facts (all_grow k) end))) in
        let same = same_facts r.grown in
        let q = all_right k o read.1 r.after around (subst (λ facts. Fits facts a ends around) (sym same) f)
        (subst (At r.after) (sym e) r.at) (subst (AllSaid more.state.env.facts) (sym same) end) in
        both_done here around st one more r (subst (λ s. StepsRight r.after around s more) e q)

    block_right : {a : Around} {ends : ResultPlace} {st : State} {body : Statements} {b : Blocked} → IsBlock a st body b → StatementsRead body
        → (here : Here) (around : T.Around) → Fits here.facts a ends around → At here st → InEnd here b.state → InBlock here around st b
    block_right {st = st} (R.s_block {s = s} h) read here around f at end =
        let r = all_right h refl read here around (fits_deeper f) (record { knows = at.knows; under = at.under }) end in
        record {
          typed = subst (λ b. is_typed_block here around b ≡ true) (sym (onto_none s.steps)) (r.typed Empty refl);
          at = behind_block closed_ints closed_one here r.after st s.state at r.grown r.at.knows (said_by (all_grow h)) r.later;
          later = r.later;
        }

    branches_right : {a : Around} {ends : ResultPlace} {st : State} {all : Trees} {b : Branched} → AreBranches a st all b → BranchesRead all
        → (here : Here) (around : T.Around) → Fits here.facts a ends around → At here st → InEnd here b.state → Branches here around st b
    branches_right R.s_no_branches read here around f at end =
        record { conditions = refl; typed = refl; matched = λ o. refl; blocks = λ o h. h; at = at; later = omega arith }
    branches_right {st = st} (R.s_branches {c = c} {b = b} {more = more} (R.s_condition {at = p} {tests = tests} {t = t} s h) k j) read here around f at end =
        let v = value_as calls preserved closed_ints closed_one h (test_read p tests t s read.0.1) here at.knows of_bool in
        let q = block_right k read.1.0.1 here around f (further c.next at) (before_end here.facts (branches_grow j) end) in
        let r = branches_right j read.1.1 here around f q.at end in
        record {
          conditions = both (subst (λ t. is_bool (kind_if here.facts t) ≡ true) (sym v.0.gives) (ap (λ t. is_bool (kind_of here.facts t)) v.1)) r.conditions;
          typed = both v.0.typed r.typed;
          matched = r.matched;
          blocks = λ o h. both (both (not_from_false _ (block_some k read.1.0.0 read.1.0.1)) q.typed) (r.blocks o h);
          at = r.at;
          later = omega (arith, q.later, r.later);
        }

    arms_right : {a : Around} {ends : ResultPlace} {of : Ty} {before : List Label} {st : State} {all : Trees} {b : Armed} → AreArms a of before st all b
        → BranchesRead all → (here : Here) (around : T.Around) → Fits here.facts a ends around → At here st → InEnd here b.state
        → Sound st.env.facts of → is_selector of ≡ true → Arms here around st of b
    arms_right R.s_no_arms read here around f at end s t =
        record { labels = refl; matched = λ o. refl; blocks = λ o h. h; at = at; later = omega arith }
    arms_right {of = of} {before = before} {st = st} (R.s_arms {ls = ls} {tests = tests} {b = b} {more = more} l k j) read here around f at end s t =
        let q = block_right k read.1.0.1 here around f at (before_end here.facts (arms_grow j) end) in
        let r = arms_right j read.1.1 here around f q.at end (sound_grown (said_by (block_grows k)) s) t in
        record {
          labels = both (both (labels_some calls preserved nodes st.env of before tests ls l read.0.0)
              (labels_typed calls preserved nodes st.env of before tests ls l read.0.1 here at.knows s t)) r.labels;
          matched = r.matched;
          blocks = λ o h. both (both (not_from_false _ (block_some k read.1.0.0 read.1.0.1)) q.typed) (r.blocks o h);
          at = r.at;
          later = omega (arith, q.later, r.later);
        }
