-- What kind of place each declared place is, by its number, and which paths may be moved.
use Rattle.std.specs.Prelude.{ℕ, suc, nat_eq, Bool, true, false, ◌&&◌, if◌then◌else◌, List, [], ◌∷◌, ◌++◌, Option, Some, None}
use Rattle.nim_program.specs.declared.program.Mode.{Mode}
use Rattle.nim_program.specs.declared.program.Mode.TheVariants as M
use Rattle.nim_program.specs.Program.{Stmts, Declared, Param, Body, Proc, Program}
use Rattle.nim_program.specs.Folds.{Seen, Part, Looping, Handling, lists, total_of}
use Rattle.nim_program.specs.Sizes.{is_global}
use Rattle.nim_meaning.specs.ActTree.{Root, Named, Temporary, Literal, Step, Field, Index, Path}

pub data DeclaredAs : Type 0 where
  Local : DeclaredAs
  Global : DeclaredAs
  For_variable : DeclaredAs
  Parameter : (mode : Mode) → DeclaredAs
  Result_place : DeclaredAs
  -- the name of the exception that a handler handles
  Handled : DeclaredAs

pub record Kinded : Type 0 where
  pub place : ℕ
  pub kind : DeclaredAs

abbrev pub kinded : Declared → DeclaredAs → Kinded
kinded place kind = record { place = place.number; kind = kind }

abbrev pub numbers : List Kinded → List ℕ
numbers [] = []
numbers (k ∷ ks) = k.place ∷ numbers ks

-- ---- in order of text

abbrev pub if_kinded : Option Declared → DeclaredAs → List Kinded
if_kinded None kind = []
if_kinded (Some place) kind = kinded place kind ∷ []

abbrev pub all_kinded : (Declared → DeclaredAs) → List Declared → List Kinded
all_kinded kind [] = []
all_kinded kind (place ∷ places) = kinded place (kind place) ∷ all_kinded kind places

module _ (globals : List Declared) where
  abbrev pub declared_kind : Declared → DeclaredAs
  declared_kind place = if is_global globals place.number then Global else Local

  -- what the places of a part are
  abbrev pub place_of : Part → Declared → DeclaredAs
  place_of Handling place = Handled
  place_of (Looping kind headed) place = For_variable
  place_of part place = declared_kind place

  abbrev pub own_kinds : Seen → List Kinded
  own_kinds seen = all_kinded (place_of seen.part) seen.places

  abbrev pub block_kinds : Stmts → List Kinded
  block_kinds = total_of lists own_kinds

  -- the modes are those of the parameters in their procedure
  module _ (in_body : ℕ → ℕ → Mode) where
    abbrev pub param_kinds : (proc i : ℕ) → List Param → List Kinded
    param_kinds proc i [] = []
    param_kinds proc i (param ∷ rest) = kinded param.place (Parameter (in_body proc i)) ∷ param_kinds proc (suc i) rest

    abbrev pub body_kinds : (proc : ℕ) → List Param → Body → List Kinded
    body_kinds proc params body = param_kinds proc 0 params ++ (if_kinded body.result Result_place ++ block_kinds body.stmts)

    abbrev pub kinds_if_body : (proc : ℕ) → List Param → Option Body → List Kinded
    kinds_if_body proc params None = []
    kinds_if_body proc params (Some body) = body_kinds proc params body

    abbrev pub proc_kinds : (proc : ℕ) → List Proc → List Kinded
    proc_kinds proc [] = []
    proc_kinds proc (p ∷ rest) = kinds_if_body proc p.params p.body ++ proc_kinds (suc proc) rest

-- ---- by number

abbrev pub all_kinds : (in_body : ℕ → ℕ → Mode) → Program → List Kinded
all_kinds in_body program = proc_kinds program.globals in_body 0 program.procs ++ block_kinds program.globals program.start.stmts

abbrev pub kind_in : List Kinded → ℕ → Option DeclaredAs
kind_in [] n = None
kind_in (k ∷ ks) n = if nat_eq k.place n then Some k.kind else kind_in ks n

abbrev pub declared_as : (in_body : ℕ → ℕ → Mode) → Program → ℕ → Option DeclaredAs
declared_as in_body program = kind_in (all_kinds in_body program)

-- ---- movable paths

abbrev pub is_owner : Option DeclaredAs → Bool
is_owner (Some Local) = true
is_owner (Some (Parameter M.Sink)) = true
is_owner (Some Result_place) = true
is_owner _ = false

abbrev pub kind_at : (ℕ → Option DeclaredAs) → Root → Option DeclaredAs
kind_at kind (Named place) = kind place
kind_at kind (Temporary node) = None
kind_at kind (Literal node) = None

abbrev pub all_fields : List Step → Bool
all_fields [] = true
all_fields (Field number ∷ rest) = all_fields rest
all_fields (Index constant ∷ rest) = false

-- A local, a parameter that its procedure owns, or the result, or a field of such a path: no element, nothing behind a ref, and nothing that a
-- temporary holds.
abbrev pub movable : (kind : ℕ → Option DeclaredAs) → Path → Bool
movable kind path = is_owner (kind_at kind path.root) && all_fields path.steps
