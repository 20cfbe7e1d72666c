-- Calls of procedures: what is asked of a call besides, what comes to a procedure, how its body begins, and what a call leaves.
use Rattle.std.specs.Prelude.{◌≡◌, ℕ, suc, ◌+◌, ◌<◌, ◌≤◌, ◌⊎◌, Bool, true, List, [], ◌∷◌, ◌++◌, length, take, map, Option, Some, None, slice_get}
use Rattle.nim_types.specs.Types.{Ty, Facts}
use Rattle.nim_types.specs.Forms.{Form, form_of}
use Rattle.nim_program.specs.Program.{Path, Variable, Fresh, Field, Element, Deref, Args, NoArg, ByValue, ByPath, Declared, Param, Body, Proc, Program}
use Rattle.nim_program.specs.Scopes as scopes
use Rattle.nim_program.specs.Scopes.{Placed, placed, look}
use Rattle.nim_program.specs.Typed.{in_body, before}
use Rattle.nim_plan.specs.declared.plan.Plan.{Plan}
use Rattle.nim_meaning.specs.Values.{Value, Slot, Holds, Stands, Standing, Made, Location, at_base}
use Rattle.nim_meaning.specs.Marks.{Member}
use Rattle.nim_meaning.specs.State.{World, State}
use Rattle.nim_meaning.specs.Here.{Here, Calls}
use Rattle.nim_meaning.specs.Meaning.{exec_all, calls, from_level}
use Rattle.holders.specs.Owned.{Constant, Has, IsName, Active}
use Rattle.holders.specs.Sure.{Comes}
use Rattle.holders.specs.Becoming.{Strange, times}
use Rattle.holders.specs.Territory.{Owner, AllOwners, Territory, Among}
use Rattle.holders.specs.Working.{number}
use Rattle.holders.specs.Ways.{Differ}
use Rattle.holders.specs.Finding.{PlaceOf}
use Rattle.holders.specs.Handing.{UnderWay}
use Rattle.holders.specs.Running.{IsBelow, AreOwn}
use Rattle.holders.specs.Staging.{Stage}
use Rattle.holders.specs.Called.{CameBack, NotRaised}
use Rattle.holders.specs.Asked.{Limits}
use Rattle.holders.specs.Evaluating.{path_steps, Scene}
use Rattle.holders.specs.Claimed.{NoExit, body_region}

-- ---- where a procedure is called

-- the place at which a path begins
abbrev pub BeginsAt : Path → (global : Bool) → ℕ → Type 0
BeginsAt (Variable node ty place is_global) global n = (is_global ≡ global) × (place ≡ n)
BeginsAt (Fresh value) global n = ⊥
BeginsAt (Field node ty base field) global n = BeginsAt base global n
BeginsAt (Element node ty base index constant) global n = BeginsAt base global n
BeginsAt (Deref ty base) global n = BeginsAt base global n

-- two that begin at one place have a step at which both are fields, and differ
abbrev pub PathsPart : Path → Path → Type 0
PathsPart a b = (global : Bool) (n : ℕ) → BeginsAt a global n → BeginsAt b global n → Differ (path_steps a) (path_steps b)

-- of all paths among operands
abbrev pub AllPaths : (Path → Type 0) → Args → Type 0
AllPaths P NoArg = Unit {0}
AllPaths P (ByValue value rest) = AllPaths P rest
AllPaths P (ByPath path rest) = P path × AllPaths P rest

abbrev pub EachPart : Args → Type 0
EachPart NoArg = Unit {0}
EachPart (ByValue value rest) = EachPart rest
EachPart (ByPath path rest) = AllPaths (λ other. PathsPart path other) rest × EachPart rest

-- What procedures name of the globals, in their bodies or by what they call, is given by `named`. The places that are handed over part, none is in
-- a global that the procedure names, and all of these are among what the caller names.
pub record SiteSo (named : (proc g : ℕ) → Bool) (seen : ℕ → Bool) (proc : ℕ) (operands : Args) : Type 0 where
  pub part : EachPart operands
  pub unnamed : AllPaths (λ path. (g : ℕ) → BeginsAt path true g → named proc g ≡ true → ⊥) operands
  pub sees : (g : ℕ) → named proc g ≡ true → seen g ≡ true

-- ---- what comes to it

module _ (facts : Facts) (kept : ℕ → Bool) (gs : List Owner) (blocks : List ℕ) (world : World) (count : ℕ) where
  -- A slot for each parameter: a value that nobody has any more; another name for a cell, of which the first one has the last position, and so on down
  -- to a count; or a name for a constant, where it isn't written.
  pub data Arrives : List Param → List Slot → (given : List ℕ) → (top : ℕ) → Type 0 where
    none_arrive : Arrives [] [] [] count
    value_arrives : {param : Param} {params : List Param} {x : Value} {slots : List Slot} {given : List ℕ} {top : ℕ}
        (u : UnderWay (form_of facts param.place.of) x gs blocks world) → Arrives params slots given top → Strange u.given given →
        Arrives (param ∷ params) (Holds x ∷ slots) (u.given ++ given) top
    cell_arrives : {param : Param} {params : List Param} {l : Location} {slots : List Slot} {given : List ℕ} {top : ℕ}
        (i : Among gs (record { form = form_of facts param.place.of; at = l })) → number i ≡ top → Arrives params slots given top →
        Arrives (param ∷ params) (Stands l ∷ slots) given (suc top)
    constant_arrives : {param : Param} {params : List Param} {v : Value} {slots : List Slot} {given : List ℕ} {top : ℕ} → kept param.place.number ≡ true →
        Has world Constant (form_of facts param.place.of) v [] → Arrives params slots given top →
        Arrives (param ∷ params) (Stands (at_base (Made v)) ∷ slots) given top

-- the globals that it names have cells of their own, at the first positions
pub record GlobalsSo (facts : Facts) (named : ℕ → Bool) (globals : List Placed) (gs : List Owner) (world : World) (count : ℕ) : Type 0 where
  pub root : ℕ → ℕ
  pub place : (g : ℕ) (ty : Ty) → named g ≡ true → look globals g ≡ Some ty → PlaceOf gs world 0 g (form_of facts ty) true (root g)
  pub below : (g : ℕ) (ty : Ty) → named g ≡ true → look globals g ≡ Some ty → root g < count
  pub two : (g h : ℕ) (ty other : Ty) → named g ≡ true → named h ≡ true → look globals g ≡ Some ty → look globals h ≡ Some other → root g ≡ root h → g ≡ h

pub record Handing (facts : Facts) (kept named : ℕ → Bool) (globals : List Placed) (params : List Param) (gs : List Owner) (level : ℕ) (slots : List Slot)
    (world : World) : Type 0 where
  pub territory : Territory gs world
  pub below : AllOwners (λ g. IsBelow level g.at.base) gs
  pub frames : length world.frames ≡ level
  pub count : ℕ
  pub top : ℕ
  pub given : List ℕ
  pub arrives : Arrives facts kept gs territory.blocks world count params slots given top
  pub names : GlobalsSo facts named globals gs world count

abbrev pub form_given : Facts → Option Ty → Option Form
form_given facts None = None
form_given facts (Some ty) = Some (form_of facts ty)

-- and what comes of it: the cells that were worked on, where the call began with blocks of theirs, and those that were given
pub record Returns (gs : List Owner) (ty : Option Ty) (facts : Facts) (given blocks : List ℕ) (world : World) (v : Value) (after : World) : Type 0 where
  pub old : List ℕ
  pub into : (k : ℕ) → Member k old → Member k given ⊎ Member k blocks
  pub sum : (k : ℕ) → times k old ≡ times k given + times k blocks
  pub back : CameBack gs old world v after (form_given facts ty)

-- ---- in a program

module _ (program : Program) (named : (proc g : ℕ) → Bool) (kept : List Param → ℕ → Bool) where
  -- the globals that stand before a body
  abbrev pub globals_before : Body → List Placed
  globals_before body = take (before program body.first) (map placed program.globals)

  -- what calls from a level give
  abbrev pub CallsGive : Calls → (level : ℕ) → Type 0
  CallsGive calls level =
      (proc : ℕ) (p : Proc) (body : Body) → slice_get program.procs proc ≡ Some p → p.body ≡ Some body → (gs : List Owner) (slots : List Slot) (s : State)
      (h : Handing program.facts (kept p.params) (named proc) (globals_before body) p.params gs level slots s.world) →
      Comes (Returns gs p.gives program.facts h.given h.territory.blocks s.world) NoExit (calls proc slots s)

  -- ---- a body

  abbrev pub seen_in : (proc : ℕ) → (global : Bool) → ℕ → Bool
  seen_in proc true n = named proc n
  seen_in proc _ n = true

  abbrev pub limits_of : (proc : ℕ) → List Param → Limits
  limits_of proc params = record { kept = kept params; seen = seen_in proc }

  abbrev pub scope_of : List Param → Body → scopes.Here
  scope_of params body = in_body program (before program body.first) None params body

  abbrev pub here_at : Plan → (left level : ℕ) → Body → Here
  here_at plan left level body = from_level program plan level (calls program plan left (suc level)) body

-- a parameter, or the result
abbrev pub OwnPlace : Here → scopes.Here → Body → Owner → Type 0
OwnPlace here scope body m = (n : ℕ) × ((m.at.base ≡ Standing here.level n) × (n < body.first + length scope.places))

-- The cells of its own, and those that it was given. What is a name isn't its own; what is declared in it is, and its result.
pub record Starts (here : Here) (scope : scopes.Here) (limits : Limits) (body : Body) (own : ℕ → Bool) (root : (global : Bool) → ℕ → ℕ) (ms gs : List Owner)
    (world : World) : Type 0 where
  pub territory : Territory (ms ++ gs) world
  pub mine : AreOwn (body_region here.level own (λ n. true)) ms
  pub cells : AllOwners (λ m. OwnPlace here scope body m) ms
  pub below : AllOwners (λ g. IsBelow here.level g.at.base) gs
  pub active : Active world.frames here.level body.first body.places []
  pub deepest : length world.frames ≡ suc here.level
  pub scene : Scene here scope limits root (ms ++ gs) world
  pub names : (n : ℕ) (l : Location) → IsName world.frames here.level n l → own n ≡ true → ⊥
  pub declared : (n : ℕ) → body.first + length scope.places ≤ n → own n ≡ true
  pub result : (place : Declared) → body.result ≡ Some place →
      (own place.number ≡ true) × Among ms (record { form = form_of here.facts place.of; at = at_base (Standing here.level place.number) })

-- what the code of a body comes to
abbrev pub BodySo : Here → scopes.Here → Limits → Body → Type 0
BodySo here scope limits body =
    (own : ℕ → Bool) (root : (global : Bool) → ℕ → ℕ) (ms gs : List Owner) (s : State) (e : Starts here scope limits body own root ms gs s.world) →
    Comes (λ u after. Stage (body_region here.level own (λ n. true)) ms gs body.first body.places [] e.territory.blocks s.world after)
    (λ way after.
    NotRaised way × Stage (body_region here.level own (λ n. true)) ms gs body.first body.places [] e.territory.blocks s.world after)
    (exec_all body.stmts here s)
