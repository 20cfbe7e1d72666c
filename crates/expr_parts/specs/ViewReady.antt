-- What calls need of the table and the scope, and what lists of values stand for. Contracts of typing alone speak of it.
use Rattle.std.specs.Prelude.{ℕ, ◌<◌, List, [], ◌∷◌, length}
use Rattle.nim_types.specs.declared.types.TypeDef.{TypeDef}
use Rattle.nim_types.specs.Table.{IsBelow}
use Rattle.expr_parts.specs.declared.scope.Scope.{Scope}
use Rattle.expr_parts.specs.declared.value.Value.{Value}
use Rattle.expr_parts.specs.declared.value.Want.{Want as RustWant}
use Rattle.expr_parts.specs.declared.value.Want.TheVariants as want
use Rattle.expr_parts.specs.declared.branching.Branching.{Branching as RustBranching}
use Rattle.expr_parts.specs.declared.branching.Branching.TheVariants as branching
use Rattle.expr_parts.specs.View.{KindsIn, AllFormed, DeclsWithin}

-- Each type of the table has a form, and what is declared stands in the table.
pub record IsReady (ds : List TypeDef) (scope : Scope) : Type 0 where
  pub formed : AllFormed ds
  pub kinds : KindsIn ds scope.kinds
  pub decls : DeclsWithin (length ds) scope.decls

abbrev pub ValuesWithin : ℕ → List Value → Type 0
ValuesWithin n [] = Unit {0}
ValuesWithin n (v ∷ rest) = (v.ty < n) × ValuesWithin n rest

-- ---- what is wanted

abbrev pub WantWithin : ℕ → RustWant → Type 0
WantWithin n want.Nothing = Unit {0}
WantWithin n (want.Whole id) = id < n
WantWithin n (want.Inner id) = id < n

-- of branches
abbrev pub BranchesWithin : ℕ → RustBranching → Type 0
BranchesWithin n (branching.Undecided w) = WantWithin n w
BranchesWithin n (branching.Decided w ty) = WantWithin n w × IsBelow n ty
