-- Programs whose flat code does what they mean: types are those of the table, places are open where they are named, loops have the heads of their
-- kinds, and each way out leads somewhere.
use Rattle.std.specs.Prelude.{◌≡◌, ℕ, suc, ◌+◌, ◌-◌, ◌<◌, ◌⊎◌, Bool, true, false, List, [], ◌∷◌, length, Option, Some, None, slice_get}
use Rattle.nim_types.specs.Types.{Ty, Facts}
use Rattle.nim_types.specs.Table.{type_at as type_by_number}
use Rattle.nim_program.specs.declared.stmt.Leaving.{Leaving}
use Rattle.nim_program.specs.declared.stmt.Leaving.TheVariants.{Break, Continue, Return}
use Rattle.nim_program.specs.Program.{Act, Doing, Building, Giving, Calling, Label, Ordinals, Exactly, Chooser, ByConditions, ByLabels, Expr, Apply, Read}
use Rattle.nim_program.specs.Program.{Early, Choose}
use Rattle.nim_program.specs.Program.{Path, Variable, Fresh, Field, Element, Deref, Args, NoArg, ByValue, ByPath, Declared, Kind, While, Count, Each}
use Rattle.nim_program.specs.Program.{Stmt, Do, Idle, Give, Leave, Select, Loop, Raise, Try, Stmts, Empty, Then, Declare, Defer, Blocks, Otherwise, Block}
use Rattle.nim_program.specs.Program.{type_at, types_in, Param, Body, Proc, Program}
use Rattle.nim_meaning.specs.Here.{gives_hooked}
use Rattle.nim_meaning.specs.Shapes.{selector_type}
use Rattle.flattening.specs.Numbering.{type_number}

-- What is known around a part of a body: the types of the table; whether it is the start code, whose places are the globals; which numbers the places of the
-- call's frame have; and of each procedure how many arguments it takes, and which globals it may name.
pub record Ground : Type 1 where
  pub facts : Facts
  pub types : List Ty
  pub top : Bool
  pub room : ℕ → Type 0
  pub takes : (proc : ℕ) → ℕ
  pub names : (proc place : ℕ) → Type 0

-- which places are open, globals and places of the call apart
abbrev pub Scope : Type 1
Scope = (global : Bool) → (place : ℕ) → Type 0

-- ---- types

-- one of the table, by its number
abbrev pub IsListed : List Ty → Ty → Type 0
IsListed types ty = type_by_number types (type_number types ty) ≡ ty

abbrev pub IfListed : List Ty → Option Ty → Type 0
IfListed types None = Unit {0}
IfListed types (Some ty) = IsListed types ty

abbrev pub HasListed : List Ty → Option Ty → Type 0
HasListed types None = ⊥
HasListed types (Some ty) = IsListed types ty

abbrev pub AreListed : List Ty → List (Option Ty) → Type 0
AreListed types [] = Unit {0}
AreListed types (ty ∷ tys) = IfListed types ty × AreListed types tys

-- ---- operands

abbrev pub count : Args → ℕ
count NoArg = 0
count (ByValue value rest) = suc (count rest)
count (ByPath path rest) = suc (count rest)

-- A call has an argument for each parameter, and the globals that the procedure names are open.
abbrev pub ActFormed : Ground → Scope → Option Ty → Act → Args → Type 0
ActFormed g Open ty (Doing operation) operands = IfListed g.types ty × AreListed g.types (types_in operands)
ActFormed g Open ty (Building fields) operands = HasListed g.types ty
ActFormed g Open ty (Giving literal) operands = HasListed g.types ty
ActFormed g Open ty (Calling proc types) operands =
    IfListed g.types ty × (count operands ≡ g.takes proc) × ((place : ℕ) → g.names proc place → Open true place)

-- ---- labels

-- of a selector that is a text, or has no hooks
abbrev pub AreOf : (texts : Bool) → List Label → Type 0
AreOf texts [] = Unit {0}
AreOf false (Ordinals low high ∷ labels) = AreOf false labels
AreOf true (Exactly text ∷ labels) = AreOf true labels
AreOf texts (label ∷ labels) = ⊥

abbrev pub AllOf : (texts : Bool) → List (List Label) → Type 0
AllOf texts [] = Unit {0}
AllOf texts (these ∷ labels) = AreOf texts these × AllOf texts labels

abbrev pub LabelsFit : Facts → Chooser → Args → Type 0
LabelsFit facts ByConditions parts = Unit {0}
LabelsFit facts (ByLabels labels) parts = AllOf (gives_hooked facts (selector_type parts)) labels

-- ---- expressions

module _ (g : Ground) (Open : Scope) where
  abbrev mutual
    pub Formed : Expr → Type 0
    Formed (Apply node ty act operands) = ActFormed g Open ty act operands × AllFormed operands
    Formed (Read path) = IfListed g.types (type_at path) × PathFormed path
    Formed (Early node ty short left right) = Formed left × Formed right
    Formed (Choose node ty chooser parts) = IfListed g.types ty × LabelsFit g.facts chooser parts × AllFormed parts

    pub PathFormed : Path → Type 0
    PathFormed (Variable node ty place global) = Open global place
    PathFormed (Fresh value) = Formed value
    PathFormed (Field node ty base field) = PathFormed base
    PathFormed (Element node ty base index constant) = PathFormed base × Formed index
    PathFormed (Deref ty base) = PathFormed base

    pub AllFormed : Args → Type 0
    AllFormed NoArg = Unit {0}
    AllFormed (ByValue value rest) = Formed value × AllFormed rest
    AllFormed (ByPath path rest) = PathFormed path × AllFormed rest

-- ---- statements

abbrev pub IsOwn : (top global : Bool) → Type 0
IsOwn top false = Unit {0}
IsOwn top true = top ≡ true

-- with a place that is declared
abbrev pub With : Ground → Scope → (place : ℕ) → Scope
With g Open n global place = Open global place ⊎ ((place ≡ n) × IsOwn g.top global)

abbrev pub MayLeave : (inside : Bool) → Leaving → Type 0
MayLeave inside Break = inside ≡ true
MayLeave inside Continue = inside ≡ true
MayLeave inside Return = Unit {0}

-- what chooses by labels has a selector
abbrev pub HasSelector : Chooser → Args → Type 0
HasSelector (ByLabels labels) NoArg = ⊥
HasSelector chooser tests = Unit {0}

-- the head that a loop of a kind has
abbrev pub HeadFits : Kind → Args → Type 0
HeadFits While (ByValue condition rest) = Unit {0}
HeadFits (Count place inclusive) (ByValue first (ByValue last rest)) = Unit {0}
HeadFits (Each place) (ByPath path rest) = Unit {0}
HeadFits kind head = ⊥

-- its place, and what is open in its body
abbrev pub HasRoom : Ground → Kind → Type 0
HasRoom g While = Unit {0}
HasRoom g (Count place inclusive) = IsListed g.types place.of × g.room place.number
HasRoom g (Each place) = IsListed g.types place.of × g.room place.number

abbrev pub InLoop : Ground → Scope → Kind → Scope
InLoop g Open While = Open
InLoop g Open (Count place inclusive) = With g Open place.number
InLoop g Open (Each place) = With g Open place.number

module _ (g : Ground) where
  abbrev mutual
    pub StmtFormed : (inside : Bool) → Scope → Stmt → Type 0
    StmtFormed inside Open (Do value) = Formed g Open value
    StmtFormed inside Open (Idle node parts) = Unit {0}
    StmtFormed inside Open (Give node back value) = Formed g Open value
    StmtFormed inside Open (Leave node leaving parts) = MayLeave inside leaving
    StmtFormed inside Open (Select node chooser tests blocks) =
        HasSelector chooser tests × LabelsFit g.facts chooser tests × AllFormed g Open tests × BlocksFormed inside Open blocks
    StmtFormed inside Open (Loop node kind head body) =
        HeadFits kind head × AllFormed g Open head × HasRoom g kind × BlockFormed true (InLoop g Open kind) body
    StmtFormed inside Open (Raise node exception message) = Unit {0}
    StmtFormed inside Open (Try node body handlers last) = Unit {0}

    pub BlockFormed : (inside : Bool) → Scope → Stmts → Type 0
    BlockFormed inside Open Empty = Unit {0}
    BlockFormed inside Open (Then first rest) = StmtFormed inside Open first × BlockFormed inside Open rest
    BlockFormed inside Open (Declare node place cursor NoArg rest) =
        IsListed g.types place.of × g.room place.number × BlockFormed inside (With g Open place.number) rest
    BlockFormed inside Open (Declare node place cursor (ByValue value more) rest) =
        Formed g Open value × IsListed g.types place.of × g.room place.number × BlockFormed inside (With g Open place.number) rest
    BlockFormed inside Open (Declare node place cursor (ByPath path more) rest) = Unit {0}
    BlockFormed inside Open (Defer node last rest) = Unit {0}

    pub BlocksFormed : (inside : Bool) → Scope → Blocks → Type 0
    BlocksFormed inside Open (Otherwise block) = BlockFormed inside Open block
    BlocksFormed inside Open (Block first rest) = BlockFormed inside Open first × BlocksFormed inside Open rest

-- ---- bodies and programs

abbrev pub params_of : Option Proc → List Param
params_of None = []
params_of (Some proc) = proc.params

abbrev pub taken_by : List Proc → (proc : ℕ) → ℕ
taken_by procs n = length (params_of (slice_get procs n))

abbrev pub results : Option Declared → ℕ
results None = 0
results (Some place) = 1

abbrev pub ground_of : Program → (names : (proc place : ℕ) → Type 0) → (top : Bool) → Body → Ground
ground_of program names top body = record {
  facts = program.facts;
  types = program.types;
  top = top;
  room = λ place. place - body.first < body.places;
  takes = taken_by program.procs;
  names = names;
}

-- The first places of a call hold something at its beginning: its parameters and its result.
abbrev pub AtFirst : (params : ℕ) → (named : ℕ → Type 0) → Body → Scope
AtFirst params named body false place = place - body.first < params + results body.result
AtFirst params named body true place = named place

abbrev pub ResultFormed : List Ty → Scope → Option Declared → Type 0
ResultFormed types Open None = Unit {0}
ResultFormed types Open (Some place) = Open false place.number × IsListed types place.of

abbrev pub ParamsFormed : List Ty → Scope → List Param → Type 0
ParamsFormed types Open [] = Unit {0}
ParamsFormed types Open (param ∷ params) = (Open false param.place.number × IsListed types param.place.of) × ParamsFormed types Open params

abbrev pub BodyFormed : Ground → Scope → List Param → Body → Type 0
BodyFormed g Open params body = ResultFormed g.types Open body.result × ParamsFormed g.types Open params × BlockFormed g false Open body.stmts

abbrev pub IsAmong : ℕ → List ℕ → Type 0
IsAmong n [] = ⊥
IsAmong n (m ∷ ms) = (n ≡ m) ⊎ IsAmong n ms

abbrev pub named_in : (names : (proc : ℕ) → List ℕ) → (proc place : ℕ) → Type 0
named_in names proc place = IsAmong place (names proc)

-- with the globals that each procedure may name
pub record IsFormed (program : Program) : Type 0 where
  pub names : (proc : ℕ) → List ℕ
  pub procs : (n : ℕ) (proc : Proc) (body : Body) → slice_get program.procs n ≡ Some proc → proc.body ≡ Some body →
      BodyFormed (ground_of program (named_in names) false body) (AtFirst (length proc.params) (named_in names n) body) proc.params body
  pub start : BodyFormed (ground_of program (named_in names) true program.start) (AtFirst 0 (λ place. ⊥) program.start) [] program.start
  -- the start code has no result
  pub gives : program.start.result ≡ None
