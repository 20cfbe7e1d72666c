-- Where a part of an expression is carried out, and what comes of it.
use Rattle.std.specs.Prelude.{◌≡◌, ℕ, ◌+◌, ◌⊎◌, Bool, ◌&&◌, true, false, suc, List, [], ◌∷◌, ◌++◌, length, Option, Some, if◌then◌else◌}
use Rattle.nim_types.specs.Types.{Ty, Facts}
use Rattle.nim_types.specs.Forms.{Form, hooked, form_of}
use Rattle.nim_program.specs.declared.program.Mode.{Mode}
use Rattle.nim_program.specs.declared.operation.Use.{Use}
use Rattle.nim_program.specs.declared.operation.Use.TheVariants.{Owned, Given as ToPlace, Held, Lent, Looked}
use Rattle.nim_program.specs.Program.{ByConditions, ByLabels, Expr, Apply, Read, Early, Choose, Path, Variable, Fresh, Field, Element, Deref}
use Rattle.nim_program.specs.Program.{Args, NoArg, ByValue, ByPath, type_of, type_at, node_of, node_at, constant_in}
use Rattle.nim_program.specs.Folds.{if_constant}
use Rattle.nim_program.specs.Uses.{use_of}
use Rattle.nim_program.specs.Fitting.{is_in}
use Rattle.nim_program.specs.Scopes as scopes
use Rattle.nim_program.specs.Scopes.{Placed, type_in}
use Rattle.nim_meaning.specs.Values.{Value, Waiting, Made, Location, at_base, Operand, Given, At}
use Rattle.nim_meaning.specs.Marks.{Member, Distinct}
use Rattle.nim_meaning.specs.State.{World}
use Rattle.nim_meaning.specs.Here.{Here, level_of, form_for, gives_hooked}
use Rattle.nim_meaning.specs.Waiting.{Wait, nodes_of, own_wait, waiting, waiting_at, waiting_all, waiting_first, reads_kept}
use Rattle.nim_meaning.specs.Shapes.{is_read, is_text, waits, waits_from}
use Rattle.nim_meaning.specs.Aims.{Aim, Root, Value_of, Waits_at, Ready, Evaluated, Aimed}
use Rattle.holders.specs.Owned.{Constant, Has, IsBase, Active}
use Rattle.holders.specs.Territory.{Owner, AllOwners, Territory, Among}
use Rattle.holders.specs.Ways.{Step, to_field, to_element}
use Rattle.holders.specs.Finding.{Found, PlaceOf, AimsAt, steps_of}
use Rattle.holders.specs.Running.{Region, IsOutside}
use Rattle.holders.specs.Staging.{Stage, Holding}
use Rattle.holders.specs.Groups.{Ends}
use Rattle.holders.specs.Used.{WaitsThere}
use Rattle.holders.specs.Asked.{Limits, may_write_at, may_write}

-- ---- nodes

-- those at which values of a part may wait
abbrev mutual
  pub value_nodes : Expr → List ℕ
  value_nodes (Apply node ty act operands) = node.number ∷ operand_nodes operands
  value_nodes (Read path) = (node_at path).number ∷ path_nodes path
  value_nodes (Early node ty short left right) = value_nodes left ++ value_nodes right
  value_nodes (Choose node ty chooser parts) = node.number ∷ operand_nodes parts

  pub path_nodes : Path → List ℕ
  path_nodes (Variable node ty place global) = []
  path_nodes (Fresh value) = if_constant (constant_in value) [] (value_nodes value)
  path_nodes (Field node ty base field) = path_nodes base
  path_nodes (Element node ty base index constant) = path_nodes base ++ value_nodes index
  path_nodes (Deref ty base) = path_nodes base

  pub operand_nodes : Args → List ℕ
  operand_nodes NoArg = []
  operand_nodes (ByValue value rest) = value_nodes value ++ operand_nodes rest
  operand_nodes (ByPath path rest) = path_nodes path ++ operand_nodes rest

-- a part works at these alone
abbrev pub at_nodes : (level : ℕ) → List ℕ → Region
at_nodes level ns = record { level = level; places = λ n. false; nodes = λ n. is_in n ns }

-- ---- what waits

module _ (facts : Facts) (modes : (proc position : ℕ) → Mode) where
  -- in the operands of a value, and at its own node
  abbrev pub waits_inside : Expr → List Wait
  waits_inside (Apply node ty act operands) = waiting_all facts modes operands (use_of modes act) 0
  waits_inside (Read path) = waiting_at facts modes path
  waits_inside (Early node ty short left right) = waiting facts modes left Owned ++ waiting facts modes right Owned
  waits_inside (Choose node ty ByConditions parts) = []
  waits_inside (Choose node ty (ByLabels labels) parts) = waiting_first facts modes parts

  abbrev pub waits_itself : Expr → Use → List Wait
  waits_itself (Apply node ty act operands) how = own_wait facts modes (waits_from act how) node.number ty
  waits_itself (Read path) how = own_wait facts modes (is_read (Read path) && reads_kept how) (node_at path).number (type_at path)
  waits_itself (Early node ty short left right) how = []
  waits_itself (Choose node ty chooser parts) how = own_wait facts modes (waits how) node.number ty

-- ---- places

-- The places that are in scope and are named, by the positions of their cells. Other places that may be written have other cells.
pub record Scene (here : Here) (scope : scopes.Here) (limits : Limits) (root : (global : Bool) → ℕ → ℕ) (os : List Owner) (world : World) : Type 0 where
  pub place : (global : Bool) (n : ℕ) (ty : Ty) → limits.seen global n ≡ true → type_in scope global n ≡ Some ty →
      PlaceOf os world (level_of global here) n (form_of here.facts ty) (may_write_at limits global n) (root global n)
  pub two : (g h : Bool) (n m : ℕ) (ty other : Ty) → limits.seen g n ≡ true → limits.seen h m ≡ true → type_in scope g n ≡ Some ty →
      type_in scope h m ≡ Some other → may_write_at limits g n ≡ true → may_write_at limits h m ≡ true → root g n ≡ root h m → (g ≡ h) × (n ≡ m)

-- those of some places that are named
abbrev pub seen_of : (seen : ℕ → Bool) → List Placed → List Placed
seen_of seen [] = []
seen_of seen (p ∷ ps) = if seen p.number then p ∷ seen_of seen ps else seen_of seen ps

-- there are positions
pub record HasScene (here : Here) (scope : scopes.Here) (limits : Limits) (os : List Owner) (world : World) : Type 0 where
  pub root : (global : Bool) → ℕ → ℕ
  pub scene : Scene here scope limits root os world

-- the position of the place where a path begins, and the steps from there on
abbrev pub root_at : (root : (global : Bool) → ℕ → ℕ) → Path → ℕ
root_at root (Variable node ty place global) = root global place
root_at root (Fresh value) = 0
root_at root (Field node ty base field) = root_at root base
root_at root (Element node ty base index constant) = root_at root base
root_at root (Deref ty base) = root_at root base

abbrev pub path_steps : Path → List Step
path_steps (Variable node ty place global) = []
path_steps (Fresh value) = []
path_steps (Field node ty base field) = path_steps base ++ to_field field ∷ []
path_steps (Element node ty base index constant) = path_steps base ++ to_element ∷ []
path_steps (Deref ty base) = path_steps base

-- a value that is bare for its use: one without hooks, a literal text that is lent, or a constant that is looked at
abbrev pub IsBare : Facts → Use → Expr → Type 0
IsBare facts how value = (hooked (form_for facts (type_of value)) ≡ false) ⊎ (((how ≡ Lent) × (is_text value ≡ true)) ⊎ (how ≡ Looked))

-- ---- before a part, and behind it

module _ (level first places : ℕ) (ns : List ℕ) (os : List Owner) (nodes : List ℕ) where
  -- its nodes are free, the cells stand elsewhere, and no call from here is active
  pub record Begins (world : World) : Type 0 where
    pub territory : Territory os world
    pub outside : AllOwners (λ o. IsOutside (at_nodes level ns) o.at.base) os
    pub active : Active world.frames level first places nodes
    pub distinct : Distinct nodes
    pub free : (n : ℕ) → Member n nodes → Member n ns → ⊥
    pub deepest : length world.frames ≡ suc level

-- one of those that may wait
pub record IsWaiting (level : ℕ) (ws : List Wait) (m : Owner) : Type 0 where
  pub node : ℕ
  pub base : m.at.base ≡ Waiting level node
  pub among : Member node (nodes_of ws)

-- what waits then, in cells of the part's own
pub record Leaves (level : ℕ) (nodes : List ℕ) (ws : List Wait) (ms : List Owner) (later : List ℕ) : Type 0 where
  pub cells : AllOwners (λ m. IsWaiting level ws m) ms
  pub ends : Ends level later ws ms []
  pub distinct : Distinct later
  pub came : (n : ℕ) → Member n later → Member n nodes ⊎ Member n (nodes_of ws)

-- without blocks, and so the same in each world
abbrev pub Bare : Form → Value → Type 0
Bare f v = (world : World) → Has world Constant f v []

-- the value of an expression
pub data Valued (how : Use) (f : Form) (node level first places : ℕ) (ns nodes : List ℕ) (ws own : List Wait) (os : List Owner) (old : List ℕ) (start : World)
    (v : Value) (now : World) : Type 0 where
  -- it has no hooks; or it is a literal text, which nobody owns
  is_bare : {ms : List Owner} {later : List ℕ} → (hooked f ≡ false) ⊎ ((how ≡ Lent) ⊎ (how ≡ Looked)) → Leaves level nodes ws ms later → own ≡ [] →
      Stage (at_nodes level ns) ms os first places later old start now →
      Bare f v → Valued how f node level first places ns nodes ws own os old start v now
  -- it is looked at where it stands
  is_seen : {ms : List Owner} {later bs : List ℕ} → how ≡ Looked → Leaves level nodes ws ms later → own ≡ [] →
      Stage (at_nodes level ns) ms os first places later old start now → Has now Constant f v bs →
      Valued how f node level first places ns nodes ws own os old start v now
  is_held : {ms : List Owner} {later : List ℕ} → (how ≡ Owned) ⊎ (how ≡ ToPlace) → Leaves level nodes ws ms later → own ≡ [] →
      Holding f v (at_nodes level ns) ms os first places later old start now → Valued how f node level first places ns nodes ws own os old start v now
  is_waiting : {ms : List Owner} {later : List ℕ} {ty : Option Ty} → Leaves level nodes ws ms later → own ≡ record { node = node; of = ty; form = f } ∷ [] →
      WaitsThere f node v (at_nodes level ns) ms os first places later old start now → Valued how f node level first places ns nodes ws own os old start v now

-- ---- paths

-- a path that is a fresh value leads to what it made
abbrev pub IsFreshRoot : Aim → Type 0
IsFreshRoot (Root (Made v)) = Unit {0}
IsFreshRoot (Value_of v) = Unit {0}
IsFreshRoot (Waits_at level node) = Unit {0}
IsFreshRoot aim = ⊥

abbrev pub IfFresh : Path → Type 0 → Type 0
IfFresh (Fresh value) P = P
IfFresh path P = Unit {0}

-- from a place that is in scope, or from what the part made
pub data Aims (here : Here) (scope : scopes.Here) (limits : Limits) (root : (global : Bool) → ℕ → ℕ) (ms os : List Owner) (path : Path) (f : Form)
    (aim : Aim) : Type 0 where
  at_place : ((world : World) → Scene here scope limits root os world → AimsAt os world (may_write limits path) (root_at root path) aim f) →
      steps_of aim ≡ path_steps path → IfFresh path ⊥ → Aims here scope limits root ms os path f aim
  at_made : {n : ℕ} → may_write limits path ≡ false → ((world : World) → AimsAt ms world false n aim f) → IfFresh path (IsFreshRoot aim) →
      Aims here scope limits root ms os path f aim

pub record Aiming (here : Here) (scope : scopes.Here) (limits : Limits) (root : (global : Bool) → ℕ → ℕ) (path : Path) (ns : List ℕ) (ws : List Wait)
    (first places : ℕ) (nodes : List ℕ) (os : List Owner) (old : List ℕ) (start : World) (aim : Aim) (now : World) : Type 0 where
  pub own : List Owner
  pub later : List ℕ
  pub leaves : Leaves here.level nodes ws own later
  pub stage : Stage (at_nodes here.level ns) own os first places later old start now
  pub aims : Aims here scope limits root own os path (form_for here.facts (type_at path)) aim

-- ---- operands

-- a value that is under way, or none
pub data Hand : Type 0 where
  empty : Hand
  holds : (form : Form) (value : Value) → Hand

abbrev pub AtHand : Hand → (r : Region) (ms os : List Owner) (first places : ℕ) (nodes old : List ℕ) (start now : World) → Type 0
AtHand empty r ms os first places nodes old start now = Stage r ms os first places nodes old start now
AtHand (holds f v) r ms os first places nodes old start now = Holding f v r ms os first places nodes old start now

module _ (here : Here) (scope : scopes.Here) (limits : Limits) (root : (global : Bool) → ℕ → ℕ) (uses : (position : ℕ) → Use) (ms os : List Owner)
    (now : World) where
  abbrev pub of_value : Expr → Form
  of_value value = form_for here.facts (type_of value)

  abbrev pub cell_of : Expr → Owner
  cell_of value = record { form = of_value value; at = at_base (Waiting here.level (node_of value).number) }

  -- Evaluated, from a position on. One that is looked at, or copied from where it stands, or under way, is the last one.
  pub data Readied : Hand → Args → (position : ℕ) → List Ready → Type 0 where
    none_ready : {i : ℕ} → Readied empty NoArg i []
    bare_ready : {h : Hand} {value : Expr} {rest : Args} {i : ℕ} {v : Value} {xs : List Ready} →
        IsBare here.facts (uses i) value → Bare (of_value value) v →
        Readied h rest (suc i) xs → Readied h (ByValue value rest) i (Evaluated (Given v) ∷ xs)
    held_ready : {h : Hand} {value : Expr} {rest : Args} {i : ℕ} {v : Value} {xs : List Ready} → uses i ≡ Held →
        gives_hooked here.facts (type_of value) ≡ true → Among ms (cell_of value) →
        IsBase now (Waiting here.level (node_of value).number) v → Readied h rest (suc i) xs → Readied h (ByValue value rest) i (Evaluated (Given v) ∷ xs)
    lent_ready : {h : Hand} {value : Expr} {rest : Args} {i : ℕ} {xs : List Ready} → uses i ≡ Lent → gives_hooked here.facts (type_of value) ≡ true →
        is_text value ≡ false → Among ms (cell_of value) →
        Readied h rest (suc i) xs → Readied h (ByValue value rest) i (Evaluated (At (at_base (Waiting here.level (node_of value).number))) ∷ xs)
    aim_ready : {h : Hand} {path : Path} {rest : Args} {i : ℕ} {aim : Aim} {xs : List Ready} →
        Aims here scope limits root ms os path (form_for here.facts (type_at path)) aim → Readied h rest (suc i) xs →
        Readied h (ByPath path rest) i (Aimed aim ∷ xs)
    seen_ready : {value : Expr} {i : ℕ} {v : Value} {bs : List ℕ} → uses i ≡ Looked → Has now Constant (of_value value) v bs →
        Readied empty (ByValue value NoArg) i (Evaluated (Given v) ∷ [])
    copy_ready : {value : Expr} {i n : ℕ} {steps : List Step} {l : Location} → uses i ≡ ToPlace → gives_hooked here.facts (type_of value) ≡ true →
        Found (ms ++ os) now false n steps (of_value value) l → Readied empty (ByValue value NoArg) i (Evaluated (At l) ∷ [])
    hand_ready : {value : Expr} {i : ℕ} {v : Value} → (uses i ≡ Owned) ⊎ (uses i ≡ ToPlace) → gives_hooked here.facts (type_of value) ≡ true →
        Readied (holds (of_value value) v) (ByValue value NoArg) i (Evaluated (Given v) ∷ [])

  -- and with the places looked up
  pub data Settled : Hand → Args → (position : ℕ) → List Operand → Type 0 where
    none_settled : {i : ℕ} → Settled empty NoArg i []
    bare : {h : Hand} {value : Expr} {rest : Args} {i : ℕ} {v : Value} {xs : List Operand} →
        IsBare here.facts (uses i) value → Bare (of_value value) v →
        Settled h rest (suc i) xs → Settled h (ByValue value rest) i (Given v ∷ xs)
    held : {h : Hand} {value : Expr} {rest : Args} {i : ℕ} {v : Value} {xs : List Operand} → uses i ≡ Held →
        gives_hooked here.facts (type_of value) ≡ true → Among ms (cell_of value) →
        IsBase now (Waiting here.level (node_of value).number) v → Settled h rest (suc i) xs → Settled h (ByValue value rest) i (Given v ∷ xs)
    lent : {h : Hand} {value : Expr} {rest : Args} {i : ℕ} {xs : List Operand} → uses i ≡ Lent → gives_hooked here.facts (type_of value) ≡ true →
        is_text value ≡ false → Among ms (cell_of value) → Settled h rest (suc i) xs →
        Settled h (ByValue value rest) i (At (at_base (Waiting here.level (node_of value).number)) ∷ xs)
    found : {h : Hand} {path : Path} {rest : Args} {i n : ℕ} {steps : List Step} {l : Location} {xs : List Operand} →
        Found (ms ++ os) now (may_write limits path) n steps (form_for here.facts (type_at path)) l →
        ((may_write limits path ≡ true) → (n ≡ length ms + root_at root path) × (steps ≡ path_steps path)) → Settled h rest (suc i) xs →
        Settled h (ByPath path rest) i (At l ∷ xs)
    seen : {value : Expr} {i : ℕ} {v : Value} {bs : List ℕ} → uses i ≡ Looked → Has now Constant (of_value value) v bs →
        Settled empty (ByValue value NoArg) i (Given v ∷ [])
    copied : {value : Expr} {i n : ℕ} {steps : List Step} {l : Location} → uses i ≡ ToPlace → gives_hooked here.facts (type_of value) ≡ true →
        Found (ms ++ os) now false n steps (of_value value) l → Settled empty (ByValue value NoArg) i (At l ∷ [])
    in_hand : {value : Expr} {i : ℕ} {v : Value} → (uses i ≡ Owned) ⊎ (uses i ≡ ToPlace) → gives_hooked here.facts (type_of value) ≡ true →
        Settled (holds (of_value value) v) (ByValue value NoArg) i (Given v ∷ [])

pub record AllReady (here : Here) (scope : scopes.Here) (limits : Limits) (root : (global : Bool) → ℕ → ℕ) (uses : (position : ℕ) → Use) (args : Args)
    (i first places : ℕ) (nodes : List ℕ) (os : List Owner) (old : List ℕ) (start : World) (xs : List Ready) (now : World) : Type 0 where
  pub own : List Owner
  pub later : List ℕ
  pub hand : Hand
  pub leaves : Leaves here.level nodes (waiting_all here.facts here.modes args uses i) own later
  pub stage : AtHand hand (at_nodes here.level (operand_nodes args)) own os first places later old start now
  pub ready : Readied here scope limits root uses own os now hand args i xs

-- which operands may come before others: what is only looked at stays the last one
abbrev pub Lasts : Here → Use → Expr → Type 0
Lasts here how value = (gives_hooked here.facts (type_of value) ≡ false) ⊎ ((how ≡ Held) ⊎ (how ≡ Lent))

abbrev pub AllLast : Here → (uses : (position : ℕ) → Use) → Args → (position : ℕ) → Type 0
AllLast here uses NoArg i = Unit {0}
AllLast here uses (ByValue value NoArg) i = Unit {0}
AllLast here uses (ByValue value (ByValue other rest)) i = Lasts here (uses i) value × AllLast here uses (ByValue other rest) (suc i)
AllLast here uses (ByValue value (ByPath path rest)) i = Lasts here (uses i) value × AllLast here uses (ByPath path rest) (suc i)
AllLast here uses (ByPath path rest) i = AllLast here uses rest (suc i)
