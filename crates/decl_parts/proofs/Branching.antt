-- The blocks of branches, and lists of the one statement that is made.
use Rattle.std.proofs.Common.{◌≡◌, List, [], ◌∷◌, refl, ap, ◌∙◌, Vec, Global}
use Rattle.std.specs.Prelude.{Result, Ok, Err, IfOk}
use Rattle.arc_base.specs.declared.place.Stop.{Stop}
use Rattle.nim_types.specs.Types.{Ty}
use Rattle.nim_program.specs.declared.stmt.Branch.{Branch as RustBranch}
use Rattle.nim_program.specs.declared.stmt.CaseBranch.{CaseBranch as RustCaseBranch}
use Rattle.nim_program.specs.declared.stmt.Stmt.{Stmt as RustStmt}
use Rattle.nim_program.specs.Nodes.{blocks_of}
use Rattle.nim_program.specs.Program.{Stmts, Block}
use Rattle.nim_program.specs.View.{stmts_of, branch_blocks, case_blocks}
use Rattle.decl_rules.specs.State.{Step}
use Rattle.decl_parts.specs.View.{steps_of, step_of, bodies_in, arm_bodies_in}

pub blocks_are : (ts : List Ty) (all : List RustBranch) (otherwise : Stmts) → branch_blocks ts all otherwise ≡ blocks_of (bodies_in ts all) otherwise
blocks_are ts [] otherwise = refl
blocks_are ts (one ∷ rest) otherwise = ap (Block (stmts_of ts one.body.items)) (blocks_are ts rest otherwise)

pub arm_blocks_are : (ts : List Ty) (all : List RustCaseBranch) (otherwise : Stmts)
    → case_blocks ts all otherwise ≡ blocks_of (arm_bodies_in ts all) otherwise
arm_blocks_are ts [] otherwise = refl
arm_blocks_are ts (one ∷ rest) otherwise = ap (Block (stmts_of ts one.body.items)) (arm_blocks_are ts rest otherwise)

-- ---- lists of one statement

pub one_step : (steps : List Ty → List Step) (s : RustStmt) (r : Result (Vec RustStmt Global) Stop) → ((ts : List Ty) → step_of ts s ≡ steps ts)
    → IfOk r (λ all. all.items ≡ s ∷ []) → IfOk r (λ all. (ts : List Ty) → steps_of ts all.items ≡ steps ts)
one_step steps s (Ok all) w e = λ ts. ap (steps_of ts) e ∙ w ts
one_step steps s (Err z) w e = tt

-- the same steps, said in another way
pub lists_as : (steps others : List Ty → List Step) (r : Result (Vec RustStmt Global) Stop) → ((ts : List Ty) → others ts ≡ steps ts)
    → IfOk r (λ all. (ts : List Ty) → steps_of ts all.items ≡ others ts) → IfOk r (λ all. (ts : List Ty) → steps_of ts all.items ≡ steps ts)
lists_as steps others (Ok all) w h = λ ts. h ts ∙ w ts
lists_as steps others (Err z) w h = tt
