-- `for`, whose variable stands in a scope of its own.
use Rattle.std.proofs.Common.{◌≡◌, ℕ, suc, List, [], ◌∷◌, ◌++◌, length, refl, sym, ap, ap₂, ◌∙◌, append_assoc, Vec, Global}
use Rattle.std.proofs.Common.{arith, ◌<◌, subst, length-append}
use Rattle.std.proofs.lemmas.List.{length-map, map-append}
use Rattle.std.specs.Prelude.{Result, Ok, Err, map, Bool, true, false}
use Rattle.arc_base.specs.declared.place.Place.{Place}
use Rattle.arc_base.specs.declared.place.Stop.{Stop}
use Rattle.arc_base.specs.Refusal.{and_then}
use Rattle.indent_scanner.specs.Words.{normal}
use Rattle.nim_tree.specs.declared.name.Name.{Name}
use Rattle.nim_tree.specs.Statements.{Statements, counts, each, Course}
use Rattle.nim_tree.specs.Terms.{Term}
use Rattle.nim_types.specs.Types as type
use Rattle.nim_types.specs.Types.{Ty}
use Rattle.nim_types.specs.Table.{type_at}
use Rattle.nim_program.specs.declared.stmt.Stmt.{Stmt as RustStmt}
use Rattle.nim_program.specs.declared.expr.Node.{Node}
use Rattle.nim_program.specs.Nodes.{one_path, two_values}
use Rattle.nim_program.specs.Program as P
use Rattle.nim_program.specs.View.{stmts_of}
use Rattle.expr_rules.specs.Answers.{Answer, node, nothing}
use Rattle.expr_rules.specs.Paths.{path_of}
use Rattle.expr_rules.specs.Env.{Entry, variable}
use Rattle.expr_parts.specs.declared.scope.Decl.{Decl}
use Rattle.expr_parts.specs.declared.scope.Scope.{Scope}
use Rattle.expr_parts.specs.declared.scope.What.TheVariants as what
use Rattle.expr_parts.specs.View.{entry_of}
use Rattle.decl_rules.specs.State.{ResultPlace, Around, State, left, declaring, Blocked, blocked, looping, stated_as, does, up_to_node}
use Rattle.decl_rules.specs.Values.{Value, valued_term, value_as, element_rule}
use Rattle.decl_rules.specs.Bodies.{with_loop_variable, loop_variable}
use Rattle.decl_rules.specs.Stated.{stated, for_state}
use Rattle.decl_parts.specs.declared.state.State.{State as RustState}
use Rattle.decl_parts.specs.View.{Beside, state_of, Ready, Stating, AllStatedSo}
use Rattle.decl_parts.proofs.ForCallers.{further_as, further_to, stated_so, stated_stops, scope_by, decls_both, then_as}
use Rattle.decl_stmts.specs.ViewStated.{block_rule, blocked_as, BlockSo}
use Rattle.decl_stmts.specs.ViewLoops.{loop_rule, Begun, each_behind, each_within, ints_behind, ints_within, course_by}
use Rattle.decl_stmts.proofs.Scopes.{behind_scope, leaving, left_stands, one_part}

-- with the variable declared
pub begun_by : (old start : RustState) (x : Name) (ty count next : ℕ) (word : List ℕ) → Ready old → ty < length old.types
    → count ≡ length old.scope.decls
    → next ≡ suc old.place → word ≡ normal x.text
    → start.scope.decls ≡ old.scope.decls ++ record { name = word; what = what.Variable old.place ty false false } ∷ []
    → start.scope.kinds ≡ old.scope.kinds → start.scope.home ≡ old.scope.home
    → start ≡ record old { scope = start.scope; outside = count; place = next } → Begun old start x ty
begun_by old start x ty count next word h lt e n w d k o is =
    let decl : Decl = record { name = word; what = what.Variable old.place ty false false } in
    let scope : Scope = record old.scope { decls = old.scope.decls ++ decl ∷ [] } in
    let all : start ≡ record old { scope = scope; outside = count; place = next } =
    is ∙ ap (λ (s : Scope). record old { scope = s; outside = count; place = next }) (scope_by old.scope start.scope d k o) in
    record {
      types = ap (λ (s : RustState). s.types) all;
      begins = (decl ∷ [], d);
      ready = subst Ready (sym all) (record {
        all = record {
          formed = h.all.formed;
          kinds = h.all.kinds;
          decls = decls_both (length old.types) old.scope.decls (decl ∷ []) h.all.decls (lt, tt);
        };
        outside = omega (arith, e, length-append old.scope.decls (decl ∷ []));
      });
      view = λ ts b.
          let st = state_of ts b old in
          let entries = map (entry_of ts) old.scope.decls in
          ap (state_of ts b) all
          ∙ ap (λ (es : List Entry). record st { env = record st.env { entries = es }; outside = count; place = next })
          (map-append (entry_of ts) old.scope.decls (decl ∷ [])
          ∙ ap (λ (y : List ℕ). entries ++ variable y old.place (type_at ts ty) false false ∷ []) w)
          ∙ ap₂ (λ (m p : ℕ). record (declaring st (variable (normal x.text) old.place (type_at ts ty) false false ∷ [])) { outside = m; place = p })
          (e ∙ sym (length-map old.scope.decls (entry_of ts))) n;
    }

pub loop_goes : (a : List Ty → Around) (x : Name) (ty : ℕ) (body : Statements) (old start mid : RustState) (count : ℕ) (stmts : Vec RustStmt Global)
    → Ready old
    → count ≡ length old.scope.decls → Begun old start x ty → BlockSo start mid (λ ts st. block_rule (a ts) st body) (Ok stmts)
    → BlockSo old (behind_scope old mid count) (λ ts st. loop_rule (a ts) st x (type_at ts ty) body) (Ok stmts)
loop_goes a x ty body old start mid count stmts o e s j =
    let f = s.begins in
    let g = j.stands.begins in
    let begins : mid.scope.decls ≡ old.scope.decls ++ (f.0 ++ g.0) =
    g.1 ∙ ap (λ l. l ++ g.0) f.1 ∙ append_assoc old.scope.decls f.0 g.0 in
    record {
      further = further_to refl (further_as s.types j.further);
      stands = left_stands old mid count (f.0 ++ g.0) e begins o j.stands.ready;
      answers = λ ts b u.
          let go = λ (z : Blocked). Ok (blocked z.stmts (left (state_of ts b old) z.state)) in
          ap (λ (z : State). and_then (block_rule (a ts) z body) go) (sym (s.view ts b))
          ∙ ap (λ (r : Answer Blocked). and_then r go) (j.answers ts b u)
          ∙ ap (λ (z : State). Ok (blocked (stmts_of ts stmts.items) z)) (sym (leaving ts b old mid count (f.0 ++ g.0) e begins));
    }

pub loop_stops : (a : List Ty → Around) (x : Name) (ty : ℕ) (body : Statements) (old start mid : RustState) (s : Stop) → Begun old start x ty
    → BlockSo start mid (λ ts st. block_rule (a ts) st body) (Err s) → BlockSo old mid (λ ts st. loop_rule (a ts) st x (type_at ts ty) body) (Err s)
loop_stops a x ty body old start mid s k j =
    let go = λ (ts : List Ty) (b : Beside) (z : Blocked). Ok (blocked z.stmts (left (state_of ts b old) z.state)) in
    let inside : Stating old mid (λ ts b (stmts : Vec RustStmt Global). blocked_as ts b mid stmts.items)
    (λ ts b. block_rule (a ts) (state_of ts b start) body) (Err s) =
    record { further = further_as k.types j.further; stands = tt; answers = j.answers } in
    stated_so (λ ts b. loop_rule (a ts) (state_of ts b old) x (type_at ts ty) body)
    (λ ts b u. ap (λ (z : State). and_then (block_rule (a ts) z body) (go ts b)) (sym (k.view ts b)))
    (stated_stops (λ ts b (stmts : Vec RustStmt Global). blocked_as ts b mid stmts.items) go inside)

-- ---- what it goes over

-- a body whose scope is left, and what is made of it
body_left : {B : Type 0} (a : Around) (st : State) (x : Name) (ty : Ty) (body : Statements) (g : Blocked → Answer B)
    → and_then (block_rule a (with_loop_variable st x ty) body) (λ b. g (blocked b.stmts (left st b.state))) ≡ and_then (loop_rule a st x ty body) g
body_left a st x ty body g = sym (one_part (block_rule a (with_loop_variable st x ty) body) (λ b. blocked b.stmts (left st b.state)) g)

pub each_is : (a : Around) (ends : ResultPlace) (st : State) (at : Place) (x : Name) (t : Term) (body : Statements)
    → stated a ends st (counts at x (each t) body)
    ≡ and_then (valued_term st.env nothing (suc st.node) t) (λ v. each_behind (looping a) st (node st.node at) x body v)
each_is a ends st at x t body =
    let n = node st.node at in
    let made = λ (v : Value) (ty : Ty) (b : Blocked).
    Ok (stated_as (does (P.Loop n (P.Each (loop_variable st x ty)) (one_path (path_of v.given.expr)) b.stmts) ∷ []) b.state) in
    let inner = λ (v : Value) (ty : Ty). and_then (block_rule (looping a) (for_state st v x ty) body)
    (λ b. made v ty (blocked b.stmts (left (up_to_node st v.next) b.state))) in
    then_as (λ (v : Value). and_then (element_rule v.given) (inner v)) (λ v. each_behind (looping a) st n x body v)
    (λ v. then_as (inner v) (λ ty. each_within (looping a) st n x body v ty)
    (λ ty. body_left (looping a) (up_to_node st v.next) x ty body (made v ty)) (element_rule v.given))
    (valued_term st.env nothing (suc st.node) t)

ints_are : (a : Around) (st : State) (n : Node) (x : Name) (inclusive : Bool) (first last : Term) (body : Statements)
    → and_then (value_as st.env type.int (suc st.node) first) (λ v. and_then (value_as st.env type.int v.next last) (λ w.
    and_then (block_rule a (for_state st w x type.int) body) (λ b.
    Ok (stated_as (does (P.Loop n (P.Count (loop_variable st x type.int) inclusive) (two_values v.given.expr w.given.expr) b.stmts) ∷ [])
    (left (up_to_node st w.next) b.state)))))
    ≡ and_then (value_as st.env type.int (suc st.node) first) (λ v. ints_behind a st n x inclusive last body v)
ints_are a st n x inclusive first last body =
    let made = λ (v w : Value) (b : Blocked).
    Ok (stated_as (does (P.Loop n (P.Count (loop_variable st x type.int) inclusive) (two_values v.given.expr w.given.expr) b.stmts) ∷ []) b.state) in
    let inner = λ (v w : Value). and_then (block_rule a (for_state st w x type.int) body)
    (λ b. made v w (blocked b.stmts (left (up_to_node st w.next) b.state))) in
    then_as (λ (v : Value). and_then (value_as st.env type.int v.next last) (inner v)) (λ v. ints_behind a st n x inclusive last body v)
    (λ v. then_as (inner v) (λ w. ints_within a st n x inclusive body v w)
    (λ w. body_left a (up_to_node st w.next) x type.int body (made v w)) (value_as st.env type.int v.next last))
    (value_as st.env type.int (suc st.node) first)

pub course_is : (a : Around) (ends : ResultPlace) (st : State) (at : Place) (x : Name) (inclusive : Bool) (first last : Term) (body : Statements)
    → stated a ends st (counts at x (course_by inclusive first last) body)
    ≡ and_then (value_as st.env type.int (suc st.node) first) (λ v. ints_behind (looping a) st (node st.node at) x inclusive last body v)
course_is a ends st at x true first last body = ints_are (looping a) st (node st.node at) x true first last body
course_is a ends st at x false first last body = ints_are (looping a) st (node st.node at) x false first last body

pub course_as : {old new : RustState} {r : Result (Vec RustStmt Global) Stop} {c d : Course} (a : List Ty → Around)
    (ends : List Ty → ResultPlace) (at : Place) (x : Name) (body : Statements) → c ≡ d
    → AllStatedSo old new (λ ts st. stated (a ts) (ends ts) st (counts at x d body)) r
    → AllStatedSo old new (λ ts st. stated (a ts) (ends ts) st (counts at x c body)) r
course_as {old = old} {new = new} {r = r} a ends at x body e j =
    subst (λ (z : Course). AllStatedSo old new (λ ts st. stated (a ts) (ends ts) st (counts at x z body)) r) (sym e) j
