-- Code of types of the table that are built, without dereferences; in which no path begins with a path that is read: what is typed, and of which
-- nothing is left out.
use Rattle.std.proofs.Common.{◌≡◌, ◌≤◌, true, false, List, [], ◌∷◌, Option, Some, None, refl}
use Rattle.std.proofs.lemmas.Bool.{both_ways}
use Rattle.nim_types.specs.Types.{Ty, Facts}
use Rattle.nim_types.specs.Forms.{form_of, levels}
use Rattle.nim_program.specs.Kinds.{is_among_types}
use Rattle.nim_program.specs.Program.{Label, Chooser, ByConditions, ByLabels, Expr, Apply, Read, Early, Choose}
use Rattle.nim_program.specs.Program.{Path, Variable, Fresh, Field, Element, Deref}
use Rattle.nim_program.specs.Program.{Args, NoArg, ByValue, ByPath, Kind, While, Count, Each, Stmt, Do, Idle, Give, Leave, Select, Loop, Raise, Try}
use Rattle.nim_program.specs.Program.{Stmts, Empty, Then, Declare, Defer, Blocks, Otherwise, Block, type_at}
use Rattle.nim_program.specs.Sizes.{type_bytes}
use Rattle.nim_program.specs.Typed.{is_fresh, is_located, behind_first}
use Rattle.nim_meaning.specs.LeftOut.{is_act_built}
use Rattle.nim_meaning.specs.Unbuilt.{is_unbuilt}
use Rattle.flat_code.specs.declared.place.TheConstants.{MOST_LEVELS}
use Rattle.flattening.specs.Formed.{HasSelector, HeadFits}

pub never : {A : Type 0} → false ≡ true → A
never e = absurd (both_ways false refl e)

-- values alone
abbrev pub AllValues : Args → Type 0
AllValues NoArg = Unit {0}
AllValues (ByValue value rest) = AllValues rest
AllValues (ByPath path rest) = ⊥

-- one operand
abbrev pub Alone : Args → Type 0
Alone (ByValue value NoArg) = Unit {0}
Alone (ByPath path NoArg) = Unit {0}
Alone args = ⊥

-- one value, if any
abbrev pub IsLast : Args → Type 0
IsLast NoArg = Unit {0}
IsLast (ByValue value NoArg) = Unit {0}
IsLast args = ⊥

-- Where there are no more labels comes one value, or one block, for all else.
abbrev pub LabelsFit : List (List Label) → Args → Type 0
LabelsFit [] args = IsLast args
LabelsFit (these ∷ labels) NoArg = Unit {0}
LabelsFit (these ∷ labels) (ByValue value rest) = LabelsFit labels rest
LabelsFit (these ∷ labels) (ByPath path rest) = ⊥

abbrev pub LabelledBlocks : List (List Label) → Blocks → Type 0
LabelledBlocks labels (Otherwise block) = Unit {0}
LabelledBlocks [] (Block first rest) = ⊥
LabelledBlocks (these ∷ labels) (Block first rest) = LabelledBlocks labels rest

-- the one condition of a `while`
abbrev pub IsOne : Kind → Args → Type 0
IsOne While head = Alone head
IsOne kind head = Unit {0}

module _ (types : List Ty) (facts : Facts) where
  abbrev pub IsSmall : Option Ty → Type 0
  IsSmall None = Unit {0}
  IsSmall (Some ty) = type_bytes facts ty ≤ 8

  -- what a selector at a path has
  abbrev pub SmallFirst : Args → Type 0
  SmallFirst (ByPath path rest) = (is_located path ≡ true) × IsSmall (type_at path)
  SmallFirst args = Unit {0}

  -- what chooses among values, and among blocks
  abbrev pub ChoosesBy : Chooser → Args → Type 0
  ChoosesBy ByConditions parts = AllValues parts
  ChoosesBy (ByLabels labels) parts = AllValues (behind_first parts) × SmallFirst parts × LabelsFit labels (behind_first parts)

  abbrev pub SelectsBy : Chooser → Args → Blocks → Type 0
  SelectsBy ByConditions tests blocks = Unit {0}
  SelectsBy (ByLabels labels) tests blocks = Alone tests × SmallFirst tests × LabelledBlocks labels blocks

  abbrev pub IsAmong : Ty → Type 0
  IsAmong ty = is_among_types types ty ≡ true

  -- it is one of these types, and has few levels
  abbrev pub IsListed : Ty → Type 0
  IsListed ty = (is_among_types types ty ≡ true) × (levels (form_of facts ty) ≤ MOST_LEVELS)

  abbrev pub IsFine : Ty → Type 0
  IsFine ty = IsListed ty × (is_unbuilt facts ty ≡ false)

  abbrev pub IfFine : Option Ty → Type 0
  IfFine None = Unit {0}
  IfFine (Some ty) = IsFine ty

  abbrev mutual
    pub IsSimple : Expr → Type 0
    IsSimple (Apply node ty act operands) = IfFine ty × (is_act_built act facts ty operands ≡ true) × AreSimple operands
    IsSimple (Read path) = (is_located path ≡ true) × IsSimplePath path
    IsSimple (Early node ty short left right) = IsFine ty × IsSimple left × IsSimple right
    IsSimple (Choose node ty chooser parts) = IfFine ty × AreSimple parts × ChoosesBy chooser parts

    pub IsSimplePath : Path → Type 0
    IsSimplePath (Variable node ty place global) = IsFine ty
    IsSimplePath (Fresh value) = (is_fresh value ≡ true) × IsSimple value
    IsSimplePath (Field node ty base field) = IsFine ty × IsSimplePath base
    IsSimplePath (Element node ty base index constant) = IsFine ty × IsSimplePath base × IsSimple index
    IsSimplePath (Deref ty base) = ⊥

    pub AreSimple : Args → Type 0
    AreSimple NoArg = Unit {0}
    AreSimple (ByValue value rest) = IsSimple value × AreSimple rest
    AreSimple (ByPath path rest) = IsSimplePath path × AreSimple rest

  abbrev pub LoopFine : Kind → Type 0
  LoopFine While = Unit {0}
  LoopFine (Count variable inclusive) = IsFine variable.of
  LoopFine (Each variable) = IsFine variable.of

  abbrev mutual
    pub IsSimpleStmt : Stmt → Type 0
    IsSimpleStmt (Do value) = IsSimple value
    IsSimpleStmt (Idle node parts) = Unit {0}
    IsSimpleStmt (Give node back value) = IsSimple value
    IsSimpleStmt (Leave node leaving parts) = Unit {0}
    IsSimpleStmt (Select node chooser tests blocks) = HasSelector chooser tests × AreSimple tests × AreSimpleBlocks blocks
        × SelectsBy chooser tests blocks
    IsSimpleStmt (Loop node kind head body) = HeadFits kind head × LoopFine kind × AreSimple head × AreSimpleStmts body × IsOne kind head
    IsSimpleStmt (Raise node exception message) = ⊥
    IsSimpleStmt (Try node body handlers last) = ⊥

    pub AreSimpleStmts : Stmts → Type 0
    AreSimpleStmts Empty = Unit {0}
    AreSimpleStmts (Then first rest) = IsSimpleStmt first × AreSimpleStmts rest
    AreSimpleStmts (Declare node place cursor value rest) = IsFine place.of × AreSimple value × AreSimpleStmts rest × IsLast value
    AreSimpleStmts (Defer node last rest) = ⊥

    pub AreSimpleBlocks : Blocks → Type 0
    AreSimpleBlocks (Otherwise block) = AreSimpleStmts block
    AreSimpleBlocks (Block first rest) = AreSimpleStmts first × AreSimpleBlocks rest
