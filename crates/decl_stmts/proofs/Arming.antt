-- The branches of a `case`.
use Rattle.std.proofs.Common.{◌≡◌, ℕ, suc, ◌<◌, Bool, true, false, List, [], ◌∷◌, ◌++◌, length, refl, sym, ap, ap₂, ◌∙◌, append-nil}
use Rattle.std.specs.Prelude.{Result, Ok, Err, IfOk, map}
use Rattle.arc_base.specs.declared.place.Stop.{Stop}
use Rattle.arc_base.specs.declared.place.Place.{Place}
use Rattle.arc_base.specs.Refusal.{and_then}
use Rattle.nim_tree.specs.Statements.{Statements, Branches, branch, selects}
use Rattle.nim_tree.specs.Terms.{Term, Parts}
use Rattle.nim_types.specs.Table.{type_at, facts_in}
use Rattle.nim_types.specs.Types.{Ty}
use Rattle.nim_program.specs.declared.stmt.CaseBranch.{CaseBranch as RustArm}
use Rattle.nim_program.specs.Program as P
use Rattle.nim_program.specs.Program.{Label}
use Rattle.nim_program.specs.Nodes.{selecting, blocks_of}
use Rattle.nim_program.specs.View.{label_of, stmts_of, branch_labels}
use Rattle.expr_rules.specs.Answers.{Answer, Valued, node, nothing}
use Rattle.expr_rules.specs.Demands.{is_selector}
use Rattle.expr_rules.specs.Typed.{labels}
use Rattle.decl_rules.specs.State.{ResultPlace, Around, State, Blocked, stated_as, does, up_to_node}
use Rattle.decl_rules.specs.Values.{Value, valued_term, accepted_if, selector_rule}
use Rattle.decl_rules.specs.Stated.{Armed, stated, all_arms, covered}
use Rattle.decl_parts.specs.declared.state.State.{State as RustState}
use Rattle.decl_parts.specs.View.{Beside, Over, Further, arm_bodies_in}
use Rattle.decl_parts.proofs.ForCallers.{then_as}
use Rattle.decl_stmts.specs.ViewStated.{block_rule}
use Rattle.decl_stmts.specs.ViewCases.{OneArm, arm_as, arm_rule, selection_behind, covered_by}
use Rattle.expr_steps.specs.declared.choices.Tests.{Tests}
use Rattle.decl_stmts.specs.declared.blocks.cases.Arm.{Arm}
use Rattle.decl_stmts.proofs.Scopes.{two_parts}
use Rattle.decl_stmts.proofs.Covering.{cover_stays}

-- branches that are done, before others
abbrev pub arms_onto : List Ty → List RustArm → Armed → Armed
arms_onto ts done more =
    record { rows = branch_labels done ++ more.rows; labels = more.labels; blocks = arm_bodies_in ts done ++ more.blocks; state = more.state }

abbrev pub arm_onto : OneArm → Armed → Armed
arm_onto one more = record { rows = one.own ∷ more.rows; labels = more.labels; blocks = one.block ∷ more.blocks; state = more.state }

pub arms_done : (ts : List Ty) (done : List RustArm) (ls : List Label) (st : State)
    → arms_onto ts done (record { rows = []; labels = ls; blocks = []; state = st })
    ≡ record { rows = branch_labels done; labels = ls; blocks = arm_bodies_in ts done; state = st }
arms_done ts done ls st =
    ap₂ (λ (rows : List (List Label)) (blocks : List P.Stmts). record { rows = rows; labels = ls; blocks = blocks; state = st })
    (append-nil (branch_labels done)) (append-nil (arm_bodies_in ts done))

pub no_arm_done : (ts : List Ty) (done : List RustArm) (more : Armed) → done ≡ [] → arms_onto ts done more ≡ more
no_arm_done ts done more e = ap (λ l. arms_onto ts l more) e

with_row : (done : List RustArm) (one : RustArm) (more : List (List Label))
    → branch_labels (done ++ one ∷ []) ++ more ≡ branch_labels done ++ map label_of one.labels ∷ more
with_row [] one more = refl
with_row (x ∷ done) one more = ap (λ l. map label_of x.labels ∷ l) (with_row done one more)

with_body : (ts : List Ty) (done : List RustArm) (one : RustArm) (more : List P.Stmts)
    → arm_bodies_in ts (done ++ one ∷ []) ++ more ≡ arm_bodies_in ts done ++ stmts_of ts one.body.items ∷ more
with_body ts [] one more = refl
with_body ts (x ∷ done) one more = ap (λ l. stmts_of ts x.body.items ∷ l) (with_body ts done one more)

pub arm_more : (ts : List Ty) (b : Beside) (new : RustState) (done all : List RustArm) (arm : Arm) (more : Armed) → all ≡ done ++ arm.one ∷ []
    → arms_onto ts done (arm_onto (arm_as ts b new arm) more) ≡ arms_onto ts all more
arm_more ts b new done all arm more e =
    ap₂ (λ (rows : List (List Label)) (blocks : List P.Stmts). record { rows = rows; labels = more.labels; blocks = blocks; state = more.state })
    (sym (with_row done arm.one more.rows)) (sym (with_body ts done arm.one more.blocks))
    ∙ ap (λ l. arms_onto ts l more) (sym e)

abbrev arm_made : List Label → Blocked → OneArm
arm_made ls b = record { own = ls; block = b.stmts; state = b.state }

pub arm_first : (a : Around) (ty : Ty) (before : List Label) (st : State) (at : Place) (tests : Parts) (body : Statements) (rest : Branches)
    → all_arms a ty before st (branch at tests body rest)
    ≡ and_then (arm_rule a ty before st tests body) (λ o. and_then (all_arms a ty (before ++ o.own) o.state rest) (λ more. Ok (arm_onto o more)))
arm_first a ty before st at tests body rest =
    sym (two_parts (labels st.env ty before tests) (λ ls. block_rule a st body) arm_made
    (λ (o : OneArm). and_then (all_arms a ty (before ++ o.own) o.state rest) (λ more. Ok (arm_onto o more))))

-- ---- the whole

accepted_self : {B : Type 0} (k : Bool) (v : Valued) (f : Valued → Valued → Answer B) → and_then (accepted_if k v) (λ s. f s v) ≡ and_then
    (accepted_if k v) (λ s. f s s)
accepted_self true v f = refl
accepted_self false v f = refl

pub select_is : (a : Around) (ends : ResultPlace) (st : State) (at : Place) (t : Term) (all : Branches) (otherwise : Statements)
    → stated a ends st (selects at t all otherwise)
    ≡ and_then (valued_term st.env nothing (suc st.node) t) (λ v. selection_behind a st at all otherwise v)
select_is a ends st at t all otherwise =
    let n = node st.node at in
    let whole = λ (next : ℕ) (s v : Valued).
    and_then (all_arms a s.of [] (up_to_node st next) all) (λ b. and_then (block_rule a b.state otherwise) (λ o.
    and_then (covered st.env.facts at s.of b.labels otherwise) (λ _.
    Ok (stated_as (does (P.Select n (P.ByLabels b.rows) (selecting v.expr P.NoArg) (blocks_of b.blocks o.stmts)) ∷ []) o.state)))) in
    then_as (λ (v : Value). and_then (selector_rule v.given) (λ s. whole v.next s v.given)) (λ v. selection_behind a st at all otherwise v)
    (λ v. accepted_self (is_selector v.given.of) v.given (whole v.next)) (valued_term st.env nothing (suc st.node) t)

-- ---- labels

pub labels_on : (before : List Label) (tests : Tests) (r : Result Arm Stop) → IfOk r (λ arm. arm.labels ≡ tests.all)
    → IfOk r (λ arm. arm.one.labels ≡ tests.own) → tests.all ≡ before ++ map label_of tests.own
    → IfOk r (λ arm. arm.labels ≡ before ++ map label_of arm.one.labels)
labels_on before tests (Ok arm) e f g = e ∙ g ∙ ap (λ ls. before ++ map label_of ls) (sym f)
labels_on before tests (Err s) e f g = tt

-- ---- what is covered

pub covered_stays : (k : Bool) (old new : RustState) (ts : List Ty) (id : ℕ) (at : Place) (ls : List Label) → Further old new → Over new ts
    → id < length old.types
    → covered_by k (facts_in old.types) at (type_at ts id) ls ≡ covered_by k (facts_in new.types) at (type_at ts id) ls
covered_stays true old new ts id at ls f u lt = cover_stays old new ts id at ls f u lt
covered_stays false old new ts id at ls f u lt = refl
