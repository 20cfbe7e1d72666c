-- What is asked of expressions besides that they are typed: of the types that stand in them, of what they write, and of what is left out. Of
-- exceptions no field is read.
use Rattle.std.specs.Prelude.{◌≡◌, ℕ, Bool, true, false, not, List, [], ◌∷◌, Option, Some, None}
use Rattle.nim_types.specs.Types.{Ty, object, distinct, Key, Field as ObjectField, fields as known_fields, Facts, fact_of, base_in}
use Rattle.nim_types.specs.Forms.{Form, HasForm}
use Rattle.nim_program.specs.declared.operation.Operation.TheVariants as O
use Rattle.nim_program.specs.Program.{Act, Doing, Building, Giving, Calling, Expr, Apply, Read, Early, Choose, Path, Variable, Fresh, Field, Element, Deref}
use Rattle.nim_program.specs.Program.{Args, NoArg, ByValue, ByPath, type_at, Declared, Kind, Stmt, Do, Idle, Give, Leave, Select, Loop, Raise, Try}
use Rattle.nim_program.specs.Program.{Stmts, Empty, Then, Declare, Defer, Blocks, Otherwise, Block}
use Rattle.nim_program.specs.Folds.{loop_places}
use Rattle.nim_program.specs.Kinds.{kind_of, kind_if, is_declared_as, is_held}
use Rattle.lending_laws.specs.Writing.{kept_within}
use Rattle.holders.specs.Owned.{HasBlocksAlone}

-- a type that has texts and sequences alone, and all else that has no hooks
pub record Simple (facts : Facts) (ty : Ty) : Type 0 where
  pub form : Form
  pub has : HasForm facts ty form
  pub blocks : HasBlocksAlone form
  pub declared : is_declared_as ty (kind_of facts ty) ≡ true

abbrev pub is_object : Ty → Bool
is_object (object key arguments) = true
is_object ty = false

-- what is said of types is said of those that are declared so
pub record FactsOfTheirSort (facts : Facts) : Type 0 where
  pub bases : (ty t : Ty) → base_in (fact_of facts ty) ≡ Some t → (key : Key) × (ty ≡ distinct key)
  pub objects : (ty : Ty) (all : List ObjectField) (own : Bool) → fact_of facts ty ≡ Some (known_fields all own) → is_object ty ≡ true

abbrev pub IfSimple : Facts → Option Ty → Type 0
IfSimple facts None = Unit {0}
IfSimple facts (Some ty) = Simple facts ty

-- what code of a body may do with places: which of its own it doesn't write, and which places it names
pub record Limits : Type 0 where
  pub kept : ℕ → Bool
  pub seen : (global : Bool) → ℕ → Bool

-- Whether what stands at a place, and at a path, may be written, where some places of the body may not.
abbrev pub may_write_at : (limits : Limits) → (global : Bool) → ℕ → Bool
may_write_at limits true n = true
may_write_at limits false n = not (limits.kept n)

abbrev pub may_write : (limits : Limits) → Path → Bool
may_write limits (Variable node ty place global) = may_write_at limits global place
may_write limits (Fresh value) = false
may_write limits (Field node ty base field) = may_write limits base
may_write limits (Element node ty base index constant) = may_write limits base
may_write limits (Deref ty base) = may_write limits base

abbrev pub AllWrite : (limits : Limits) → Args → Type 0
AllWrite limits NoArg = Unit {0}
AllWrite limits (ByValue value rest) = AllWrite limits rest
AllWrite limits (ByPath path rest) = (may_write limits path ≡ true) × AllWrite limits rest

-- what is asked of a call besides
module _ (facts : Facts) (limits : Limits) (OfCall : (proc : ℕ) → Args → Type 0) where
  abbrev pub ActAsked : Act → Args → Type 0
  ActAsked (Doing (O.Measure measure)) operands = Unit {0}
  ActAsked (Doing O.ReadLine) operands = ⊥
  ActAsked (Doing operation) operands = AllWrite limits operands
  ActAsked (Building fields) operands = Unit {0}
  ActAsked (Giving literal) operands = Unit {0}
  ActAsked (Calling proc types) operands = (types ≡ []) × (AllWrite limits operands × OfCall proc operands)

  abbrev mutual
    pub Asked : Expr → Type 0
    Asked (Apply node ty act operands) = IfSimple facts ty × (ActAsked act operands × AllAsked operands)
    Asked (Read path) = AskedAt path
    Asked (Early node ty short left right) = Simple facts ty × (Asked left × Asked right)
    Asked (Choose node ty chooser parts) = IfSimple facts ty × AllAsked parts

    pub AskedAt : Path → Type 0
    AskedAt (Variable node ty place global) = Simple facts ty × (limits.seen global place ≡ true)
    AskedAt (Fresh value) = Asked value
    AskedAt (Field node ty base field) = Simple facts ty × ((is_held (kind_if facts (type_at base)) ≡ true) × AskedAt base)
    AskedAt (Element node ty base index constant) = Simple facts ty × (AskedAt base × Asked index)
    AskedAt (Deref ty base) = Simple facts ty × AskedAt base

    pub AllAsked : Args → Type 0
    AllAsked NoArg = Unit {0}
    AllAsked (ByValue value rest) = Asked value × AllAsked rest
    AllAsked (ByPath path rest) = AskedAt path × AllAsked rest

-- ---- of statements

-- in the body of a loop its variable isn't written
abbrev pub within : Kind → Limits → Limits
within kind limits = record limits { kept = kept_within kind limits.kept }

abbrev pub AllSimple : Facts → List Declared → Type 0
AllSimple facts [] = Unit {0}
AllSimple facts (place ∷ places) = Simple facts place.of × AllSimple facts places

module _ (facts : Facts) (OfCall : Limits → (proc : ℕ) → Args → Type 0) where
  abbrev mutual
    pub AskedStmt : Limits → Stmt → Type 0
    AskedStmt limits (Do value) = Asked facts limits (OfCall limits) value
    AskedStmt limits (Idle node parts) = Unit {0}
    AskedStmt limits (Give node back value) = Asked facts limits (OfCall limits) value
    AskedStmt limits (Leave node leaving parts) = Unit {0}
    AskedStmt limits (Select node chooser tests blocks) = AllAsked facts limits (OfCall limits) tests × AskedBlocks limits blocks
    AskedStmt limits (Loop node kind head body) =
        AllAsked facts limits (OfCall limits) head × (AllSimple facts (loop_places kind) × AskedBlock (within kind limits) body)
    AskedStmt limits (Raise node exception message) = ⊥
    AskedStmt limits (Try node body handlers last) = ⊥

    pub AskedBlock : Limits → Stmts → Type 0
    AskedBlock limits Empty = Unit {0}
    AskedBlock limits (Then first rest) = AskedStmt limits first × AskedBlock limits rest
    AskedBlock limits (Declare node place cursor value rest) =
        Simple facts place.of × (AllAsked facts limits (OfCall limits) value × AskedBlock limits rest)
    AskedBlock limits (Defer node last rest) = ⊥

    pub AskedBlocks : Limits → Blocks → Type 0
    AskedBlocks limits (Otherwise block) = AskedBlock limits block
    AskedBlocks limits (Block first rest) = AskedBlock limits first × AskedBlocks limits rest
