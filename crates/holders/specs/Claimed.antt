-- What is claimed of the parts of an expression, wherever they begin: they are never at a fault, and leave what they should.
use Rattle.std.specs.Prelude.{ℕ, Bool, List}
use Rattle.nim_program.specs.declared.operation.Use.{Use}
use Rattle.nim_program.specs.Program.{Expr, Path, Args, type_of, node_of}
use Rattle.nim_program.specs.Scopes as scopes
use Rattle.nim_meaning.specs.Values.{Value}
use Rattle.nim_meaning.specs.State.{World, State}
use Rattle.nim_meaning.specs.Acts.{Exit}
use Rattle.nim_meaning.specs.Here.{Here, form_for}
use Rattle.nim_meaning.specs.Waiting.{Wait, waiting_at}
use Rattle.nim_meaning.specs.Aims.{Aim}
use Rattle.nim_meaning.specs.Meaning.{eval, aimed, ready_all}
use Rattle.holders.specs.Sure.{Comes}
use Rattle.holders.specs.Territory.{Owner}
use Rattle.holders.specs.Asked.{Limits}
use Rattle.holders.specs.Evaluating.{value_nodes, path_nodes, operand_nodes, waits_inside, waits_itself, Scene, Begins, Valued, Aiming, AllReady}
use Rattle.nim_meaning.specs.Marks.{Member, Distinct}
use Rattle.holders.specs.Running.{Region}
use Rattle.holders.specs.Staging.{Stage}

-- no part of an expression leaves its body
abbrev pub NoExit : Exit → World → Type 0
NoExit way after = ⊥

-- what is known of types, where the part stands
abbrev pub known_at : Here → scopes.Here → scopes.Here
known_at here scope = record scope { facts = here.facts }

abbrev pub HasValue : (here : Here) (first places : ℕ) (os : List Owner) → Expr → Use → (nodes old : List ℕ) → World → Value → World → Type 0
HasValue here first places os e how nodes old start v now =
    Valued how (form_for here.facts (type_of e)) (node_of e).number here.level first places (value_nodes e) nodes (waits_inside here.facts here.modes e)
    (waits_itself here.facts here.modes e how) os old start v now

module _ (here : Here) (scope : scopes.Here) (limits : Limits) (root : (global : Bool) → ℕ → ℕ) (first places : ℕ) (os : List Owner) where
  -- where a part may begin
  abbrev pub From : (ns nodes : List ℕ) → World → Type 0
  From ns nodes world = Begins here.level first places ns os nodes world

  abbrev pub Sees : World → Type 0
  Sees world = Scene here scope limits root os world

  -- a value
  abbrev pub ValueSo : Expr → Use → Type 0
  ValueSo e how = (nodes : List ℕ) (s : State) (b : From (value_nodes e) nodes s.world) → Sees s.world →
      Comes (HasValue here first places os e how nodes b.territory.blocks s.world) NoExit (eval e how here s)

  abbrev pub HasAim : Path → (ns : List ℕ) → List Wait → (nodes old : List ℕ) → World → Aim → World → Type 0
  HasAim path ns ws nodes old start aim now = Aiming here scope limits root path ns ws first places nodes os old start aim now

  -- a path
  abbrev pub AimSo : Path → Type 0
  AimSo path = (nodes : List ℕ) (s : State) (b : From (path_nodes path) nodes s.world) → Sees s.world →
      Comes (HasAim path (path_nodes path) (waiting_at here.facts here.modes path) nodes b.territory.blocks s.world) NoExit (aimed path here s)

  -- operands
  abbrev pub ReadySo : (uses : (position : ℕ) → Use) → Args → (position : ℕ) → Type 0
  ReadySo uses args i = (nodes : List ℕ) (s : State) (b : From (operand_nodes args) nodes s.world) → Sees s.world →
      Comes (AllReady here scope limits root uses args i first places nodes os b.territory.blocks s.world) NoExit (ready_all args uses i here s)

-- no calls at all
abbrev pub NoCalls : (proc : ℕ) → Args → Type 0
NoCalls proc args = ⊥

-- ---- in a body

abbrev pub body_region : (level : ℕ) (own_places own_nodes : ℕ → Bool) → Region
body_region level own_places own_nodes = record { level = level; places = own_places; nodes = own_nodes }

-- what a body has behind a statement: its own cells, and no more that waits than before
pub record InBody (r : Region) (ks gs : List Owner) (first places : ℕ) (nodes old : List ℕ) (start now : World) : Type 0 where
  pub later : List ℕ
  pub stage : Stage r ks gs first places later old start now
  pub distinct : Distinct later
  pub came : (n : ℕ) → Member n later → Member n nodes
