-- Blocks, and the statements and branches that stand in them.
use Rattle.std.proofs.Common.{◌≡◌, ℕ, Bool, true, false, List, [], ◌∷◌, ◌++◌, length, take, ◌≤◌, refl, sym, ap}
use Rattle.std.proofs.Common.{ap₂, ◌∙◌, subst, append-nil, arith, Vec, Global, inl, inr}
use Rattle.std.proofs.Math.Seq.{take-append_seam}
use Rattle.std.proofs.lemmas.List.{length-map}
use Rattle.std.specs.Prelude.{Result, Ok, Err, map, None, ◌⊎◌}
use Rattle.arc_base.specs.declared.place.Stop.{Stop}
use Rattle.arc_base.specs.declared.place.Code.TheVariants.{NotTyped}
use Rattle.arc_base.specs.declared.place.Place.{Place}
use Rattle.arc_base.specs.Refusal.{and_then, refused}
use Rattle.nim_tree.specs.declared.name.Name.{Name}
use Rattle.nim_tree.specs.Statements.{Statement, Statements, empty, then, Branches, branch, Head, proclaims, branches, selects, repeats, counts, Course}
use Rattle.nim_tree.specs.Statements.{branches_in, closing_in, body_in, commands, defines, types, Definition, definition_of}
use Rattle.nim_tree.specs.Types.{declaration_of}
use Rattle.nim_tree.specs.declared.expr.Expr.{Expr as RustTerm}
use Rattle.nim_tree.specs.declared.stmt.Binding.{Binding}
use Rattle.nim_tree.specs.declared.stmt.Binding.TheVariants as binding
use Rattle.nim_tree.specs.declared.stmt.Def.{Def}
use Rattle.nim_tree.specs.declared.types.TypeDef.{TypeDef as TypeDefTree}
use Rattle.nim_tree.specs.Terms.{Term, Parts, parts_of}
use Rattle.nim_types.specs.Types.{Ty}
use Rattle.nim_program.specs.declared.stmt.Branch.{Branch as RustBranch}
use Rattle.nim_program.specs.declared.stmt.Stmt.{Stmt as RustStmt}
use Rattle.nim_program.specs.Program as P
use Rattle.nim_program.specs.View.{expr_of, stmts_of, branch_conditions}
use Rattle.expr_rules.specs.Answers.{Answer}
use Rattle.expr_parts.specs.declared.scope.Decl.{Decl}
use Rattle.expr_parts.specs.View.{DeclsWithin, entry_of}
use Rattle.decl_rules.specs.State.{ResultPlace, Around, State, Stated, and_more, noting, if_typed, entered, deeper, left, up_to_node}
use Rattle.decl_rules.specs.State.{with_entries, Blocked, blocked, closed}
use Rattle.decl_rules.specs.Definitions.{definitions_rule}
use Rattle.decl_rules.specs.Values.{Value, condition}
use Rattle.decl_rules.specs.Stated.{Branched, stated, all_stated, all_branches, ends_with}
use Rattle.decl_parts.specs.declared.state.State.{State as RustState}
use Rattle.decl_parts.specs.View.{Beside, state_of, all_stated_as, bodies_in, Ready, Stands, Stating, AllStatedSo}
use Rattle.decl_parts.proofs.ForCallers.{blocked_steps, further_as, further_to, stated_so, stated_stops}
use Rattle.decl_stmts.specs.ViewStated.{block_rule, blocked_as, BlockSo, branch_as, OneBranch, branch_rule, IsPlain}

-- ---- one behind another

-- nothing ends a block
ends_nothing : (rest : Statements) → ends_with None rest ≡ None
ends_nothing empty = refl
ends_nothing (then first rest) = refl

-- a statement before others, in a block
pub then_others : (a : Around) (st : State) (first : Statement) (rest : Statements) → a.outermost ≡ false
    → all_stated a None st (then first rest)
    ≡ and_then (stated a None st first) (λ one. and_then (all_stated a None one.state rest) (λ more. Ok (and_more one more)))
then_others a st first rest inner =
    ap (λ (e : ResultPlace). and_then (stated a e st first)
    (λ one. and_then (all_stated a None (noting a.outermost one) rest) (λ more. Ok (and_more one more))))
    (ends_nothing rest)
    ∙ ap (λ (k : Bool). and_then (stated a None st first) (λ one. and_then (all_stated a None (noting k one) rest) (λ more. Ok (and_more one more)))) inner

-- ---- scopes

decls_front : (n : ℕ) (xs ys : List Decl) → DeclsWithin n (xs ++ ys) → DeclsWithin n xs
decls_front n [] ys h = tt
decls_front n (x ∷ xs) ys h = (h.0, decls_front n xs ys h.1)

pub entering : (ts : List Ty) (b : Beside) (old : RustState) (count : ℕ) → count ≡ length old.scope.decls
    → state_of ts b (record old { outside = count }) ≡ entered (state_of ts b old)
entering ts b old count e =
    ap (λ (n : ℕ). record (state_of ts b old) { outside = n }) (e ∙ sym (length-map old.scope.decls (entry_of ts)))

pub ready_entered : (s : RustState) (count : ℕ) → count ≡ length s.scope.decls → Ready s → Ready (record s { outside = count })
ready_entered s count e h = record { all = h.all; outside = omega (arith, e) }

-- a state behind the scopes that began behind another
abbrev pub behind_scope : (old mid : RustState) → ℕ → RustState
behind_scope old mid count = record mid { outside = old.outside; scope = record mid.scope { decls = take count mid.scope.decls } }

taken : (old mid : RustState) (count : ℕ) (more : List Decl) → count ≡ length old.scope.decls → mid.scope.decls ≡ old.scope.decls ++ more
    → take count mid.scope.decls ≡ old.scope.decls
taken old mid count more e h = ap₂ take e h ∙ take-append_seam old.scope.decls more

pub leaving : (ts : List Ty) (b : Beside) (old mid : RustState) (count : ℕ) (more : List Decl) → count ≡ length old.scope.decls
    → mid.scope.decls ≡ old.scope.decls ++ more → state_of ts b (behind_scope old mid count) ≡ left (state_of ts b old) (state_of ts b mid)
leaving ts b old mid count more e h =
    ap (λ (ds : List Decl). record (with_entries (state_of ts b mid) (map (entry_of ts) ds)) { outside = old.outside }) (taken old mid count more e h)

ready_left : (old mid : RustState) (count : ℕ) (more : List Decl) → count ≡ length old.scope.decls → mid.scope.decls ≡ old.scope.decls ++ more
    → Ready old → Ready mid → Ready (behind_scope old mid count)
ready_left old mid count more e h o r = record {
  all = record {
    formed = r.all.formed;
    kinds = r.all.kinds;
    decls = subst (DeclsWithin (length mid.types)) (sym (taken old mid count more e h))
        (decls_front (length mid.types) old.scope.decls more (subst (DeclsWithin (length mid.types)) h r.all.decls));
  };
  outside = subst (λ (ds : List Decl). old.outside ≤ length ds) (sym (taken old mid count more e h)) o.outside;
}

pub left_stands : (old mid : RustState) (count : ℕ) (more : List Decl) → count ≡ length old.scope.decls → mid.scope.decls ≡ old.scope.decls ++ more
    → Ready old → Ready mid → Stands old (behind_scope old mid count)
left_stands old mid count more e h o r = record {
  ready = ready_left old mid count more e h o r;
  begins = ([], taken old mid count more e h ∙ sym (append-nil old.scope.decls));
  outside = refl;
}

-- ---- blocks

-- the list of statements that stand in it, and its scope is left
pub block_goes : (a inner : List Ty → Around) (body : Statements) (old mid : RustState) (count : ℕ) (stmts : Vec RustStmt Global) → Ready old
    → count ≡ length old.scope.decls → ((ts : List Ty) → inner ts ≡ deeper (a ts))
    → AllStatedSo (record old { outside = count }) mid (λ ts st. all_stated (inner ts) None st body) (Ok stmts)
    → BlockSo old (behind_scope old mid count) (λ ts st. block_rule (a ts) st body) (Ok stmts)
block_goes a inner body old mid count stmts o e i j = record {
  further = further_to refl (further_as refl j.further);
  stands = left_stands old mid count j.stands.begins.0 e j.stands.begins.1 o j.stands.ready;
  answers = λ ts b u.
      let st = state_of ts b old in
      ap₂ (λ (x : Around) (z : State). and_then (all_stated x None z body) (λ s. Ok (closed st s))) (sym (i ts)) (sym (entering ts b old count e))
      ∙ ap (λ (x : Answer Stated). and_then x (λ s. Ok (closed st s))) (j.answers ts b u)
      ∙ ap₂ (λ (all : P.Stmts) (z : State). Ok (blocked all z)) (blocked_steps (stmts_of ts stmts.items))
      (sym (leaving ts b old mid count j.stands.begins.0 e j.stands.begins.1));
}

pub block_stops : (a inner : List Ty → Around) (body : Statements) (old mid : RustState) (count : ℕ) (s : Stop)
    → count ≡ length old.scope.decls → ((ts : List Ty) → inner ts ≡ deeper (a ts))
    → AllStatedSo (record old { outside = count }) mid (λ ts st. all_stated (inner ts) None st body) (Err s)
    → BlockSo old mid (λ ts st. block_rule (a ts) st body) (Err s)
block_stops a inner body old mid count s e i j =
    let go = λ (ts : List Ty) (b : Beside) (x : Stated). Ok (closed (state_of ts b old) x) in
    let inside : Stating old mid (λ ts b (stmts : Vec RustStmt Global). all_stated_as ts b mid stmts.items)
    (λ ts b. all_stated (inner ts) None (state_of ts b (record old { outside = count })) body) (Err s) =
    record { further = further_as refl j.further; stands = tt; answers = j.answers } in
    stated_so (λ ts b. block_rule (a ts) (state_of ts b old) body)
    (λ ts b u. ap₂ (λ (x : Around) (z : State). and_then (all_stated x None z body) (go ts b)) (sym (i ts)) (sym (entering ts b old count e)))
    (stated_stops (λ ts b (stmts : Vec RustStmt Global). blocked_as ts b mid stmts.items) go inside)

-- ---- branches

abbrev with_tests : List Ty → List RustBranch → P.Args → P.Args
with_tests ts [] more = more
with_tests ts (one ∷ rest) more = P.ByValue (expr_of ts one.condition) (with_tests ts rest more)

-- branches that are done, before others
abbrev pub branches_onto : List Ty → List RustBranch → Branched → Branched
branches_onto ts done more =
    record { tests = with_tests ts done more.tests; blocks = bodies_in ts done ++ more.blocks; state = more.state }

abbrev pub branch_onto : OneBranch → Branched → Branched
branch_onto one more = record { tests = P.ByValue one.test more.tests; blocks = one.block ∷ more.blocks; state = more.state }

all_done : (ts : List Ty) (done : List RustBranch) → with_tests ts done P.NoArg ≡ branch_conditions ts done
all_done ts [] = refl
all_done ts (one ∷ done) = ap (P.ByValue (expr_of ts one.condition)) (all_done ts done)

pub branches_done : (ts : List Ty) (done : List RustBranch) (st : State)
    → branches_onto ts done (record { tests = P.NoArg; blocks = []; state = st })
    ≡ record { tests = branch_conditions ts done; blocks = bodies_in ts done; state = st }
branches_done ts done st =
    ap₂ (λ (tests : P.Args) (blocks : List P.Stmts). record { tests = tests; blocks = blocks; state = st }) (all_done ts done)
    (append-nil (bodies_in ts done))

pub no_branch_done : (ts : List Ty) (done : List RustBranch) (more : Branched) → done ≡ [] → branches_onto ts done more ≡ more
no_branch_done ts done more e = ap (λ l. branches_onto ts l more) e

with_test : (ts : List Ty) (done : List RustBranch) (one : RustBranch) (more : P.Args)
    → with_tests ts (done ++ one ∷ []) more ≡ with_tests ts done (P.ByValue (expr_of ts one.condition) more)
with_test ts [] one more = refl
with_test ts (x ∷ done) one more = ap (P.ByValue (expr_of ts x.condition)) (with_test ts done one more)

with_body : (ts : List Ty) (done : List RustBranch) (one : RustBranch) (more : List P.Stmts)
    → bodies_in ts (done ++ one ∷ []) ++ more ≡ bodies_in ts done ++ stmts_of ts one.body.items ∷ more
with_body ts [] one more = refl
with_body ts (x ∷ done) one more = ap (λ l. stmts_of ts x.body.items ∷ l) (with_body ts done one more)

pub branch_more : (ts : List Ty) (b : Beside) (new : RustState) (done all : List RustBranch) (one : RustBranch) (more : Branched) → all ≡ done ++ one ∷ []
    → branches_onto ts done (branch_onto (branch_as ts b new one) more) ≡ branches_onto ts all more
branch_more ts b new done all one more e =
    ap₂ (λ (tests : P.Args) (blocks : List P.Stmts). record { tests = tests; blocks = blocks; state = more.state })
    (sym (with_test ts done one more.tests)) (sym (with_body ts done one more.blocks))
    ∙ ap (λ l. branches_onto ts l more) (sym e)

pub one_part : {A B C : Type 0} (y : Answer A) (k : A → B) (g : B → Answer C) → and_then (and_then y (λ b. Ok (k b))) g ≡ and_then y (λ b. g (k b))
one_part (Ok b) k g = refl
one_part (Err e) k g = refl

pub two_parts : {A B C D : Type 0} (x : Answer A) (f : A → Answer B) (k : A → B → C) (g : C → Answer D)
    → and_then (and_then x (λ c. and_then (f c) (λ b. Ok (k c b)))) g ≡ and_then x (λ c. and_then (f c) (λ b. g (k c b)))
two_parts (Ok c) f k g = one_part (f c) (k c) g
two_parts (Err e) f k g = refl

abbrev branch_made : Value → Blocked → OneBranch
branch_made c b = record { test = c.given.expr; block = b.stmts; state = b.state }

pub branch_first : (a : Around) (st : State) (at : Place) (tests : Parts) (body : Statements) (rest : Branches)
    → all_branches a st (branch at tests body rest)
    ≡ and_then (branch_rule a st at tests body) (λ o. and_then (all_branches a o.state rest) (λ more. Ok (branch_onto o more)))
branch_first a st at tests body rest =
    sym (two_parts (condition st.env st.node at tests) (λ c. block_rule a (up_to_node st c.next) body)
    branch_made
    (λ (o : OneBranch). and_then (all_branches a o.state rest) (λ more. Ok (branch_onto o more))))

-- ---- procedures stand elsewhere

pub plain_inside : (outermost : Bool) (s : Statement) → outermost ≡ false → IsPlain outermost s
plain_inside outermost s e = subst (λ k. IsPlain k s) (sym e) tt

pub no_procedure : {A : Type 0} (outermost : Bool) (at : Place) (h : Head) (body : Statements) (go : Unit {0} → Answer A)
    → IsPlain outermost (proclaims at h body) → and_then (if_typed outermost at) go ≡ refused NotTyped at
no_procedure true at h body go p = absurd p
no_procedure false at h body go p = refl

-- ---- statements as the code has them

pub stated_as_tree : {old new : RustState} {r : Result (Vec RustStmt Global) Stop} {x y : Statement} (a : List Ty → Around) (ends : List Ty → ResultPlace)
    → x ≡ y → AllStatedSo old new (λ ts st. stated (a ts) (ends ts) st y) r → AllStatedSo old new (λ ts st. stated (a ts) (ends ts) st x) r
stated_as_tree {old = old} {new = new} {r = r} a ends e j =
    subst (λ (s : Statement). AllStatedSo old new (λ ts st. stated (a ts) (ends ts) st s) r) (sym e) j

-- variables, and no constants
pub no_constants : (a : Around) (ends : ResultPlace) (st : State) (at : Place) (b : Binding) (all : List Definition)
    → (b ≡ binding.Let) ⊎ (b ≡ binding.Var) → stated a ends st (defines at b all) ≡ definitions_rule a at b st all
no_constants a ends st at binding.Let all h = refl
no_constants a ends st at binding.Var all h = refl
no_constants a ends st at binding.Const all (inl e) = cc
no_constants a ends st at binding.Const all (inr e) = cc

pub branches_by : {s : Statement} {at : Place} {p c : Branches} {q d : Statements} → s ≡ branches at p q → c ≡ branches_in s → d ≡ closing_in s
    → s ≡ branches at c d
branches_by {at = at} h e f = h ∙ ap₂ (branches at) (sym (e ∙ ap branches_in h)) (sym (f ∙ ap closing_in h))

pub selects_by : {s : Statement} {at : Place} {t : Term} {p c : Branches} {q d : Statements} → s ≡ selects at t p q → c ≡ branches_in s
    → d ≡ closing_in s
    → s ≡ selects at t c d
selects_by {at = at} {t = t} h e f = h ∙ ap₂ (selects at t) (sym (e ∙ ap branches_in h)) (sym (f ∙ ap closing_in h))

pub repeats_by : {s : Statement} {at : Place} {t : Term} {q d : Statements} → s ≡ repeats at t q → d ≡ body_in s → s ≡ repeats at t d
repeats_by {at = at} {t = t} h e = h ∙ ap (repeats at t) (sym (e ∙ ap body_in h))

pub counts_by : {s : Statement} {at : Place} {x : Name} {k : Course} {q d : Statements} → s ≡ counts at x k q → d ≡ body_in s → s ≡ counts at x k d
counts_by {at = at} {x = x} {k = k} h e = h ∙ ap (counts at x k) (sym (e ∙ ap body_in h))

pub commands_by : {s : Statement} {at : Place} {t : Term} {xs ys : List RustTerm} → s ≡ commands at t (parts_of ys) → xs ≡ ys → s ≡ commands at t
    (parts_of xs)
commands_by {at = at} {t = t} h e = h ∙ ap (λ l. commands at t (parts_of l)) (sym e)

pub defines_by : {s : Statement} {at : Place} {k : Binding} {xs ys : List Def} → s ≡ defines at k (map definition_of ys) → xs ≡ ys
    → s ≡ defines at k (map definition_of xs)
defines_by {at = at} {k = k} h e = h ∙ ap (λ l. defines at k (map definition_of l)) (sym e)

pub types_by : {s : Statement} {at : Place} {xs ys : List TypeDefTree} → s ≡ types at (map declaration_of ys) → xs ≡ ys → s ≡ types at
    (map declaration_of xs)
types_by {at = at} h e = h ∙ ap (λ l. types at (map declaration_of l)) (sym e)
