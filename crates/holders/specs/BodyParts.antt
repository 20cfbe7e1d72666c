-- Parts of a body: where they begin, and what they leave.
use Rattle.std.specs.Prelude.{◌≡◌, ℕ, suc, Bool, true, List, [], ◌++◌, length, Some}
use Rattle.nim_types.specs.Types.{Ty}
use Rattle.nim_types.specs.Forms.{form_of}
use Rattle.nim_program.specs.Program.{Declared}
use Rattle.nim_program.specs.Fitting.{is_in}
use Rattle.nim_program.specs.Scopes as scopes
use Rattle.nim_program.specs.Scopes.{type_in}
use Rattle.nim_meaning.specs.Values.{Standing, at_base}
use Rattle.nim_meaning.specs.Marks.{Member, Distinct}
use Rattle.nim_meaning.specs.State.{World, State}
use Rattle.nim_meaning.specs.Acts.{Does}
use Rattle.nim_meaning.specs.Here.{Here, level_of}
use Rattle.nim_meaning.specs.Waiting.{Wait}
use Rattle.holders.specs.Owned.{Active}
use Rattle.holders.specs.Sure.{Comes}
use Rattle.holders.specs.Territory.{Owner, AllOwners, Territory, Among}
use Rattle.holders.specs.Running.{Region, IsOutside}
use Rattle.holders.specs.Staging.{Stage}
use Rattle.holders.specs.Called.{LeftBy}
use Rattle.holders.specs.Asked.{Limits}
use Rattle.holders.specs.Evaluating.{Scene, Leaves}
use Rattle.holders.specs.Claimed.{body_region, InBody}

-- what is a part's own: the places that it declares, and the nodes in it
abbrev pub part_region : (level : ℕ) (ps ns : List ℕ) → Region
part_region level ps ns = body_region level (λ n. is_in n ps) (λ n. is_in n ns)

module _ (level first places : ℕ) (ps ns : List ℕ) (os : List Owner) (nodes : List ℕ) where
  -- the cells stand elsewhere, its nodes are free, and no call from here is active
  pub record PartBegins (world : World) : Type 0 where
    pub territory : Territory os world
    pub outside : AllOwners (λ o. IsOutside (part_region level ps ns) o.at.base) os
    pub active : Active world.frames level first places nodes
    pub distinct : Distinct nodes
    pub free : (n : ℕ) → Member n nodes → Member n ns → ⊥
    pub deepest : length world.frames ≡ suc level

-- the cell of a place
abbrev pub own_cell : (here : Here) → Declared → Owner
own_cell here place = record { form = form_of here.facts place.of; at = at_base (Standing here.level place.number) }

-- the places that are named have cells, and so has the result
pub record Sights (here : Here) (scope : scopes.Here) (limits : Limits) (os : List Owner) (world : World) : Type 0 where
  pub root : (global : Bool) → ℕ → ℕ
  pub scene : Scene here scope limits root os world
  pub result : (place : Declared) → here.result ≡ Some place → Among os (own_cell here place)

-- no place that is named is one of these
abbrev pub NoneNamed : Here → scopes.Here → Limits → List ℕ → Type 0
NoneNamed here scope limits ps =
    (global : Bool) (n : ℕ) (ty : Ty) → limits.seen global n ≡ true → type_in scope global n ≡ Some ty → level_of global here ≡ here.level → Member n ps → ⊥

-- a part with temporaries that wait, behind some cells
pub record Pending (r : Region) (ks os : List Owner) (first places : ℕ) (nodes : List ℕ) (ws : List Wait) (old : List ℕ) (start now : World) : Type 0 where
  pub own : List Owner
  pub later : List ℕ
  pub leaves : Leaves r.level nodes ws own later
  pub behind : List ℕ
  pub within : (n : ℕ) → Member n behind → Member n later
  pub distinct : Distinct behind
  pub stage : Stage r (ks ++ own) os first places behind old start now

-- what is claimed of parts of a body: they leave the cells that they were given, and no more that waits than before
module _ (here : Here) (first places : ℕ) (scope : scopes.Here) (limits : Limits) where
  abbrev pub Over : (ps ns : List ℕ) (os : List Owner) (nodes old : List ℕ) → World → World → Type 0
  Over ps ns os nodes old start now = InBody (part_region here.level ps ns) [] os first places nodes old start now

  abbrev pub PartSo : {A : Type 0} → (ps ns : List ℕ) → Does A → Type 0
  PartSo ps ns act =
      (os : List Owner) (nodes : List ℕ) (s : State) (b : PartBegins here.level first places ps ns os nodes s.world) → Sights here scope limits os s.world →
      Comes (λ x after. Over ps ns os nodes b.territory.blocks s.world after) (LeftBy (λ after. Over ps ns os nodes b.territory.blocks s.world after)) (act s)
