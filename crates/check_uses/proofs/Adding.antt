-- What occurs in trees, by their parts.
use Rattle.std.proofs.Common.{◌≡◌, ℕ, zero, suc, ◌+◌, ◌<◌, List, [], ◌∷◌, ◌++◌, length, drop, get_or, refl, sym, ap, ◌∙◌}
use Rattle.std.proofs.Common.{append_assoc, add-one, Vec, Global, Option, Some, None}
use Rattle.std.proofs.lemmas.List.{append-nil}
use Rattle.std.proofs.lemmas.Option.{none-some, same_Some, slice_get_read}
use Rattle.std.specs.Prelude.{option_map, slice_get}
use Rattle.nim_program.specs.declared.expr.Node.{Node}
use Rattle.nim_program.specs.declared.expr.Expr.{Expr as RustExpr}
use Rattle.nim_program.specs.declared.expr.Choice.{Choice as RustChoice}
use Rattle.nim_program.specs.declared.expr.Pick.{Pick as RustPick}
use Rattle.nim_program.specs.declared.expr.Operand.{Operand as RustOperand}
use Rattle.nim_program.specs.declared.expr.Operand.TheVariants as operand
use Rattle.nim_program.specs.declared.expr.Expr.TheVariants as E
use Rattle.nim_program.specs.declared.stmt.Branch.{Branch as RustBranch}
use Rattle.nim_program.specs.declared.stmt.CaseBranch.{CaseBranch as RustCaseBranch}
use Rattle.nim_program.specs.declared.stmt.Stmt.{Stmt as RustStmt}
use Rattle.nim_program.specs.declared.stmt.Stmt.TheVariants as S
use Rattle.nim_program.specs.Program.{Expr, Args, NoArg, ByValue, Stmts, Empty, Blocks, Otherwise, Block}
use Rattle.nim_program.specs.View.{expr_of, path_of, operand_before, choices_of, picks_of, if_value, stmt_before, stmts_of}
use Rattle.nim_program.specs.View.{branch_conditions, branch_blocks, case_blocks}
use Rattle.decl_rules.specs.Occurrences.{Occurrence, hands_by, in_expr, in_path, in_args, in_each, in_block, in_blocks}
use Rattle.decl_rules.specs.Turns.{in_turn, joined}
use Rattle.check_uses.specs.Uses.{in_other, in_operand, in_first, in_branches, in_arms}
use Rattle.nim_program.proofs.ForCallers.{chosen, selected}

-- ---- one part after another

pub two : (a x y b c : List Occurrence) → b ≡ a ++ x → c ≡ b ++ y → c ≡ a ++ (x ++ y)
two a x y b c e f = f ∙ ap (λ z. z ++ y) e ∙ append_assoc a x y

pub three : (a x y z b c d : List Occurrence) → b ≡ a ++ x → c ≡ b ++ y → d ≡ c ++ z → d ≡ a ++ (x ++ (y ++ z))
three a x y z b c d e f g = two a x (y ++ z) b d e (two b y z c d f g)

-- what is added for the first of several, and what the others add
pub with_rest : (a x rest b whole : List Occurrence) → a ++ (x ++ rest) ≡ whole → b ≡ a ++ x → b ++ rest ≡ whole
with_rest a x rest b whole e f = ap (λ z. z ++ rest) f ∙ append_assoc a x rest ∙ e

-- ---- lists by indexes

pub drop_at : {X : Type 0} (xs : List X) (i : ℕ) (x : X) → slice_get xs i ≡ Some x → drop i xs ≡ x ∷ drop (suc i) xs
drop_at [] i x e = absurd (none-some x e)
drop_at (y ∷ xs) zero x e = ap (λ z. z ∷ xs) (same_Some y x e)
drop_at (y ∷ xs) (suc i) x e = drop_at xs i x e

pub at_index : {X : Type 0} (xs : List X) (i : ℕ) (x : X) → i < length xs → x ≡ get_or xs i x → slice_get xs i ≡ Some x
at_index xs i x l e = slice_get_read xs (length xs) i x refl l e

-- ---- wholes

-- an expression that is known
pub as_known : (old new more : List Occurrence) (whole known : Expr) → whole ≡ known → in_expr known ≡ more → new ≡ old ++ more →
    new ≡ old ++ in_expr whole
as_known old new more whole known e f h = h ∙ ap (λ x. old ++ x) (sym f ∙ ap in_expr (sym e))

-- a statement that is known
pub as_first : (old new more : List Occurrence) (whole known : Stmts) → whole ≡ known → in_first known ≡ more → new ≡ old ++ more →
    new ≡ old ++ in_first whole
as_first old new more whole known e f h = h ∙ ap (λ x. old ++ x) (sym f ∙ ap in_first (sym e))

-- ---- operands

pub operand_adds : (p : Option ℕ) (a : RustOperand) (rest : Args) → in_args p (operand_before [] a rest) ≡ in_operand p a ++ in_args p rest
operand_adds p (operand.Value value) rest = refl
operand_adds p (operand.At path) rest = sym (append_assoc (in_path (path_of [] path)) (hands_by p (path_of [] path)) (in_args p rest))

-- the value where there is one
pub value_adds : (value : Option RustExpr) → in_args None (if_value [] value) ≡ in_other (option_map (expr_of []) value)
value_adds None = refl
value_adds (Some value) = append-nil (in_expr (expr_of [] value))

pub choices_add : (xs : List RustChoice) (last : Args) →
    in_args None (choices_of [] xs last) ≡ in_args None (choices_of [] xs NoArg) ++ in_args None last
choices_add [] last = refl
choices_add (x ∷ xs) last =
    let a = in_expr (expr_of [] x.condition) in
    let b = in_expr (expr_of [] x.value) in
    let rest = in_args None (choices_of [] xs NoArg) in
    ap (λ z. a ++ (b ++ z)) (choices_add xs last) ∙ ap (λ z. a ++ z) (sym (append_assoc b rest (in_args None last))) ∙
    sym (append_assoc a (b ++ rest) (in_args None last))

pub picks_add : (xs : List RustPick) (last : Args) →
    in_args None (picks_of [] xs last) ≡ in_args None (picks_of [] xs NoArg) ++ in_args None last
picks_add [] last = refl
picks_add (x ∷ xs) last =
    let a = in_expr (expr_of [] x.value) in
    ap (λ z. a ++ z) (picks_add xs last) ∙ sym (append_assoc a (in_args None (picks_of [] xs NoArg)) (in_args None last))

-- ---- expressions that choose

pub if_adds : (node : Node) (ty : Option ℕ) (branches : Vec RustChoice Global) (other : _) →
    in_expr (expr_of [] (E.If node ty branches other)) ≡ in_args None (choices_of [] branches.items NoArg) ++ in_expr (expr_of [] other.value)
if_adds node ty branches other =
    ap in_expr (chosen [] node ty branches other) ∙ choices_add branches.items (ByValue (expr_of [] other.value) NoArg) ∙
    ap (λ x. in_args None (choices_of [] branches.items NoArg) ++ x) (append-nil (in_expr (expr_of [] other.value)))

pub case_adds : (node : Node) (ty : Option ℕ) (selector : _) (picks : Vec RustPick Global) (other : _) →
    in_expr (expr_of [] (E.Case node ty selector picks other)) ≡ in_operand None selector.value ++
    (in_args None (picks_of [] picks.items NoArg) ++ in_other (option_map (λ e. expr_of [] e.value) other))
case_adds node ty selector picks None =
    ap in_expr (selected [] node ty selector picks None) ∙ operand_adds None selector.value (picks_of [] picks.items NoArg) ∙
    ap (λ x. in_operand None selector.value ++ x) (sym (append-nil (in_args None (picks_of [] picks.items NoArg))))
case_adds node ty selector picks (Some other) =
    let last = ByValue (expr_of [] other.value) NoArg in
    let first = in_operand None selector.value in
    let more = in_args None (picks_of [] picks.items NoArg) in
    ap in_expr (selected [] node ty selector picks (Some other)) ∙ operand_adds None selector.value (picks_of [] picks.items last) ∙
    ap (λ x. first ++ x) (picks_add picks.items last) ∙ ap (λ x. first ++ (more ++ x)) (append-nil (in_expr (expr_of [] other.value)))

-- ---- branches

pub branches_add : (xs : List RustBranch) (last : Stmts) →
    joined (in_turn (in_each (branch_conditions [] xs)) (in_blocks (branch_blocks [] xs last))) ≡ in_branches xs ++ in_block last
branches_add [] last = append-nil (in_block last)
branches_add (x ∷ xs) last =
    let a = in_expr (expr_of [] x.condition) in
    let b = in_block (stmts_of [] x.body.items) in
    ap (λ z. a ++ (b ++ z)) (branches_add xs last) ∙ ap (λ z. a ++ z) (sym (append_assoc b (in_branches xs) (in_block last))) ∙
    sym (append_assoc a (b ++ in_branches xs) (in_block last))

blocks_add : (xs : List RustCaseBranch) (last : Stmts) → joined (in_blocks (case_blocks [] xs last)) ≡ in_arms xs ++ in_block last
blocks_add [] last = append-nil (in_block last)
blocks_add (x ∷ xs) last =
    let a = in_block (stmts_of [] x.body.items) in
    ap (λ z. a ++ z) (blocks_add xs last) ∙ sym (append_assoc a (in_arms xs) (in_block last))

-- one test before all blocks
one_test : (test : List Occurrence) (blocks : Blocks) → joined (in_turn (test ∷ []) (in_blocks blocks)) ≡ test ++ joined (in_blocks blocks)
one_test test (Otherwise block) = refl
one_test test (Block first rest) = refl

test_adds : (selector : RustOperand) (blocks : Blocks) →
    joined (in_turn (in_each (operand_before [] selector NoArg)) (in_blocks blocks)) ≡ in_operand None selector ++ joined (in_blocks blocks)
test_adds (operand.Value value) blocks = one_test (in_expr (expr_of [] value)) blocks
test_adds (operand.At path) blocks =
    one_test (in_path (path_of [] path)) blocks ∙ ap (λ z. z ++ joined (in_blocks blocks)) (sym (append-nil (in_path (path_of [] path))))

pub arms_add : (selector : RustOperand) (xs : List RustCaseBranch) (last : Stmts) →
    joined (in_turn (in_each (operand_before [] selector NoArg)) (in_blocks (case_blocks [] xs last))) ≡
    in_operand None selector ++ (in_arms xs ++ in_block last)
arms_add selector xs last =
    test_adds selector (case_blocks [] xs last) ∙ ap (λ z. in_operand None selector ++ z) (blocks_add xs last)

-- ---- statements

-- a statement before others
pub stmt_adds : (stmt : RustStmt) (rest : Stmts) → in_block (stmt_before [] stmt rest) ≡ in_first (stmt_before [] stmt Empty) ++ in_block rest
stmt_adds (S.Do value) rest = refl
stmt_adds (S.Idle node parts) rest = refl
stmt_adds (S.Give node back value) rest = refl
stmt_adds (S.Leave node leaving parts) rest = refl
stmt_adds (S.Declare node place cursor value) rest = refl
stmt_adds (S.If' node p branches q otherwise) rest = refl
stmt_adds (S.Case' node selector p branches q otherwise) rest = refl
stmt_adds (S.Loop' node kind head p body) rest = refl
stmt_adds (S.Raise node exception message) rest = refl
stmt_adds (S.Try' node p body q handlers r last) rest = refl
stmt_adds (S.Defer' node p last) rest = refl

-- one more statement of a block
stmts_next : (xs : List RustStmt) (i : ℕ) (x : RustStmt) → i < length xs → x ≡ get_or xs i x →
    in_block (stmts_of [] (drop i xs)) ≡ in_first (stmt_before [] x Empty) ++ in_block (stmts_of [] (drop (i + 1) xs))
stmts_next xs i x l e =
    ap (λ rest. in_block (stmts_of [] rest)) (drop_at xs i x (at_index xs i x l e)) ∙ stmt_adds x (stmts_of [] (drop (suc i) xs)) ∙
    ap (λ n. in_first (stmt_before [] x Empty) ++ in_block (stmts_of [] (drop n xs))) (sym (add-one i))

pub block_next : (old new whole : List Occurrence) (xs : List RustStmt) (i : ℕ) (x : RustStmt) → i < length xs → x ≡ get_or xs i x →
    old ++ in_block (stmts_of [] (drop i xs)) ≡ whole → new ≡ old ++ in_first (stmt_before [] x Empty) →
    new ++ in_block (stmts_of [] (drop (i + 1) xs)) ≡ whole
block_next old new whole xs i x l e h f =
    with_rest old (in_first (stmt_before [] x Empty)) (in_block (stmts_of [] (drop (i + 1) xs))) new whole
    (ap (λ z. old ++ z) (sym (stmts_next xs i x l e)) ∙ h) f
