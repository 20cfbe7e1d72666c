-- What a run does with places at its points. A part of a run is put together of few things: it gives an answer; one part follows another; it passes a
-- point and does there what the act of the point says, with the places that the act names; it chooses, loops, leaves. Nothing else looks at a place or
-- changes one, so what holds of each act along a way holds of each run.
use Rattle.std.specs.Prelude.{◌≡◌, ℕ, ℤ, pos, Bool, false, ◌⊎◌, List, [], ◌∷◌, ◌++◌, Option, Some, None}
use Rattle.arc_base.specs.Event.{Event}
use Rattle.arc_base.specs.BigStep.{Turn}
use Rattle.nim_types.specs.Types.{Ty}
use Rattle.nim_program.specs.declared.operation.Use.{Use}
use Rattle.nim_program.specs.declared.stmt.Leaving.{Leaving}
use Rattle.nim_program.specs.declared.stmt.Leaving.TheVariants as K
use Rattle.nim_program.specs.Program as T
use Rattle.nim_program.specs.Program.{Declared, Calling}
use Rattle.nim_meaning.specs.ActTree.{Root, Named, Temporary, Literal, Step, Field, Index, Path, whole, Operands}
use Rattle.nim_meaning.specs.ActTree.{Flow, On, Out, Turn_over, Back, Act, Pass, Look, Fill, Give, Operate, Invoke}
use Rattle.nim_meaning.specs.Ways.{Point, Exits, Graph, onto, looped}
use Rattle.nim_meaning.specs.Values.{Value, Standing, Made, Location, nowhere, Operand, location_of, location}
use Rattle.nim_meaning.specs.State.{World, State, load}
use Rattle.nim_meaning.specs.Acts.{Does, give, leave, ◌>>=◌, ◌>>◌, costs, passing, loop, again, no_more}
use Rattle.nim_meaning.specs.Deeds.{Stores, Deed, Gives, Ends, Errs, Works, Says, Looks, Changes, carry}
use Rattle.nim_meaning.specs.Here.{Here, level_of, is_hooked}
use Rattle.nim_meaning.specs.Aims.{Aim, Root as At_root, Value_of, PartOf, ItemOf, ObjectOf, find, fresh_root, Ready, Evaluated, Aimed, operand_for, settle}
use Rattle.nim_meaning.specs.Places.{place_at, put, fetched, length_at}
use Rattle.nim_meaning.specs.Shapes.{has_node}
use Rattle.nim_meaning.specs.ActsOf.{path_of}
use Rattle.nim_meaning.specs.Meaning.{carried, fill, scoped, still, element_at, exit_by}

-- ---- where a path leads

-- with further steps
abbrev pub behind : Path → List Step → Path
behind z steps = record { root = z.root; steps = z.steps ++ steps }

-- A path begins at the place of that number, of this call or of the start code; or at a value that no place holds.
pub data Begins (here : Here) : Root → Aim → Type 0 where
  at_place : {place : ℕ} → (global : Bool) → Begins here (Named place) (At_root (Standing (level_of global here) place))
  at_temporary : (hooked : Bool) (node : ℕ) (v : Value) → Begins here (Temporary node) (fresh_root hooked here.level node v)
  at_literal : (hooked : Bool) (node : ℕ) (v : Value) → Begins here (Literal node) (fresh_root hooked here.level node v)
  at_constant : {node : ℕ} {v : Value} → Begins here (Literal node) (At_root (Made v))

-- The path of an act, and one whose indexes are evaluated, go the same steps. That an index which the acts know has that value is the checker's doing,
-- and isn't said here.
pub data Leads (here : Here) : Path → Aim → Type 0 where
  begins : {root : Root} {aim : Aim} → Begins here root aim → Leads here (whole root) aim
  to_field : {z : Path} {aim : Aim} {field : ℕ} → Leads here z aim → Leads here (behind z (Field field ∷ [])) (PartOf aim field)
  to_element : {z : Path} {aim : Aim} {index : ℤ} (constant : Option ℤ) → Leads here z aim → Leads here (behind z (Index constant ∷ [])) (ItemOf aim index)
  to_object : {z : Path} {aim : Aim} → Leads here z aim → Leads here (behind z (Index None ∷ [])) (ObjectOf aim)

-- each operand by path leads along its path; one that is evaluated is a value that no place holds
pub data AllLead (here : Here) : List (Option Path) → List Ready → Type 0 where
  none_leads : AllLead here [] []
  value_leads : {zs : List (Option Path)} {ready : List Ready} (lent : Bool) (node : ℕ) (v : Value) → AllLead here zs ready →
      AllLead here (None ∷ zs) (Evaluated (operand_for lent here.level node v) ∷ ready)
  path_leads : {z : Path} {aim : Aim} {zs : List (Option Path)} {ready : List Ready} → Leads here z aim → AllLead here zs ready →
      AllLead here (Some z ∷ zs) (Aimed aim ∷ ready)

abbrev pub paths_among : List (Option Path) → List Path
paths_among [] = []
paths_among (None ∷ zs) = paths_among zs
paths_among (Some z ∷ zs) = z ∷ paths_among zs

-- ---- what a deed does with places

-- the same stands at such locations and in blocks, which are no places
abbrev pub Alike : (reads : Location → Type 0) → World → World → Type 0
Alike reads a b = (a.heap ≡ b.heap) × ((l : Location) → reads l → load a l ≡ load b l)

-- a deed reads and writes at such locations alone
pub data Within (A : Type 0) (reads writes : Location → Type 0) : Deed A → Type 0 where
  answers : {x : A} → Within A reads writes (Gives x)
  ends_run : {status : ℕ} → Within A reads writes (Ends status)
  at_fault : Within A reads writes Errs
  works : {n : ℕ} {rest : Deed A} → Within A reads writes rest → Within A reads writes (Works n rest)
  says : {events : List Event} {rest : Deed A} → Within A reads writes rest → Within A reads writes (Says events rest)
  looks_at_all : {rest : World → Deed A} → ((a b : World) → Alike reads a b → rest a ≡ rest b) → ((world : World) → Within A reads writes (rest world)) →
      Within A reads writes (Looks rest)
  stores : {location : Location} {v : Value} {rest : Deed A} → writes location → Within A reads writes rest →
      Within A reads writes (Changes (Stores location v) rest)

abbrev pub At_none : Location → Type 0
At_none location = ⊥

abbrev pub At_first : List Operand → Location → Type 0
At_first xs l = l ≡ location xs 0

-- an operand that isn't there, or is a value, leads to no place
abbrev pub At_any : List Operand → Location → Type 0
At_any [] l = l ≡ nowhere
At_any (x ∷ xs) l = (l ≡ location_of x) ⊎ At_any xs l

-- it goes on only where it has written one, and it reads none, whatever it is at a fault for
pub data Writes (A : Type 0) (writes : Location → Type 0) : Deed A → Type 0 where
  writes_first : {n : ℕ} {rest : Deed A} → Writes A writes rest → Writes A writes (Works n rest)
  looks_at_blocks : {rest : World → Deed A} → ((a b : World) → a.heap ≡ b.heap → rest a ≡ rest b) → ((world : World) → Writes A writes (rest world)) →
      Writes A writes (Looks rest)
  goes_on_as : {rest : World → Deed A} {go : Deed A} → ((world : World) → (rest world ≡ go) ⊎ (rest world ≡ Errs)) → Writes A writes go →
      Writes A writes (Looks rest)
  never_goes_on : Writes A writes Errs
  writes_there : {location : Location} {v : Value} {rest : Deed A} → writes location → Within A At_none writes rest →
      Writes A writes (Changes (Stores location v) rest)

-- What a deed does with the places that its operands lead to, where it is done as an act: an operation reads and writes them, to look reads the first
-- one, and to give writes it.
pub data DoneAs : Act → List (Option Path) → (List Operand → Deed Value) → Type 0 where
  operates : {on : Operands} {zs : List (Option Path)} {deed : List Operand → Deed Value} → on.alters ≡ paths_among zs →
      ((xs : List Operand) → Within Value (At_any xs) (At_any xs) (deed xs)) → DoneAs (Operate on) zs deed
  looks_at : {z : Path} {zs : List (Option Path)} {deed : List Operand → Deed Value} →
      ((xs : List Operand) → Within Value (At_first xs) At_none (deed xs)) → DoneAs (Look z) (Some z ∷ zs) deed
  gives_to : {z : Path} {zs : List (Option Path)} {deed : List Operand → Deed Value} →
      ((xs : List Operand) → Writes Value (At_first xs) (deed xs)) → DoneAs (Give z) (Some z ∷ zs) deed

-- what a loop over elements looks up; it may have no path
pub data LooksFor (here : Here) : Act → Aim → Type 0 where
  along : {z : Path} {aim : Aim} → Leads here z aim → LooksFor here (Look z) aim
  at_value : {v : Value} → LooksFor here Pass (Value_of v)
  in_value : {v : Value} {index : ℤ} → LooksFor here Pass (ItemOf (Value_of v) index)

-- ---- parts of a run

-- what a part answers: a value; a path whose indexes are evaluated, along one of the acts; operands; nothing
pub data Answer : Type 0 where
  A_value : Answer
  An_aim : (path : Path) → Answer
  The_operands : (paths : List (Option Path)) → Answer
  Nothing : Answer

abbrev pub answer : Answer → Type 0
answer A_value = Value
answer (An_aim path) = Aim
answer (The_operands paths) = List Ready
answer Nothing = Unit {0}

-- what is known of it
abbrev pub Known : (here : Here) (a : Answer) → answer a → Type 0
Known here A_value v = Unit {0}
Known here (An_aim path) aim = Leads here path aim
Known here (The_operands paths) ready = AllLead here paths ready
Known here Nothing u = Unit {0}

-- what a loop counts by: nothing, the number of its range, the position of an element
pub data Counter : Type 0 where
  No_counter : Counter
  By_number : Counter
  By_position : Counter

abbrev pub counter : Counter → Type 0
counter No_counter = Unit {0}
counter By_number = ℤ
counter By_position = ℕ

-- the flow of a way out by a statement
abbrev pub flow_by : Leaving → (node : ℕ) → Flow
flow_by K.Break node = Out node
flow_by K.Continue node = Turn_over node
flow_by K.Return node = Back node

module _ (E : Graph) (here : Here) where
  mutual
    -- From p on, a part goes by a way, to where its flow leads, and does at each point with places what the act there does.
    pub data DoesBy : (a : Answer) → Point → Exits → Does (answer a) → Type 0 where
      -- without places
      gives : {a : Answer} {k : Exits} {x : answer a} → Known here a x → DoesBy a (k On) k (give x)
      hands_on : {k : Exits} {deed : Deed Value} → Within Value At_none At_none deed → DoesBy A_value (k On) k (carry deed)
      works_first : {a : Answer} {p : Point} {k : Exits} {act : Does (answer a)} (n : ℕ) → DoesBy a p k act → DoesBy a p k (costs n act)
      follows_on : {a b : Answer} {p m : Point} {k : Exits} {act : Does (answer a)} {go : answer a → Does (answer b)} → DoesBy a p (onto m k) act →
          ((x : answer a) → Known here a x → DoesBy b m k (go x)) → DoesBy b p k (act >>= go)
      same_way : {a : Answer} {p : Point} {k l : Exits} {act : Does (answer a)} → ((f : Flow) → k f ≡ l f) → DoesBy a p k act → DoesBy a p l act
      same_deed : {a : Answer} {p : Point} {k : Exits} {act other : Does (answer a)} → ((s : State) → act s ≡ other s) → DoesBy a p k act →
          DoesBy a p k other
      -- control
      passes : {a : Answer} {p q : Point} {k : Exits} {act : Does (answer a)} → E p Pass q → DoesBy a q k act → DoesBy a p k (passing p act)
      leaves : {a : Answer} {p : Point} {k : Exits} (node : ℕ) (leaving : Leaving) → E p Pass (k (flow_by leaving node)) →
          DoesBy a p k (passing p (leave (exit_by leaving node)))
      loops : {c : Counter} {p : Point} {k : Exits} {turn : counter c → Does (Turn (counter c) (Unit {0}))} (x : counter c) →
          ((x : counter c) → TurnsBy c p p (k On) k (turn x)) → DoesBy Nothing p k (loop turn x)
      -- nothing becomes of a place without hooks whose scope is over
      in_scope : {p : Point} {k : Exits} {act : Does (Unit {0})} (place : Declared) (last : ℕ) → is_hooked here.facts place.of ≡ false →
          DoesBy Nothing p k act →
          DoesBy Nothing p k (scoped here place last act)
      -- a path is looked up, and the value there read
      reads : {p : Point} {k : Exits} {z : Path} {aim : Aim} → E p (Look z) (k On) → Leads here z aim →
          DoesBy A_value p k (find aim >>= (λ found. passing p (carry (fetched found))))
      -- A value that is no part of another one has no point of its own, and stands in no place. Nor has a whole object, which no program reads.
      reads_alone : {k : Exits} {aim : Aim} {deed : Location → Deed Value} (path : T.Path) → has_node path ≡ false → Leads here (path_of path) aim →
          ((found : Location) → Within Value (λ l. l ≡ found) At_none (deed found)) →
          DoesBy A_value (k On) k (find aim >>= (λ found. carry (deed found)))
      -- operands are looked up, and worked on there
      works_on : {p : Point} {k : Exits} {d : Act} {zs : List (Option Path)} {ready : List Ready} {deed : List Operand → Deed Value} →
          E p d (k On) → DoneAs d zs deed → AllLead here zs ready → DoesBy A_value p k (settle ready >>= (λ xs. passing p (carry (deed xs))))
      -- a procedure gets them
      calls : {p : Point} {k : Exits} {proc : ℕ} {on : Operands} {zs : List (Option Path)} {ready : List Ready} (node : ℕ) (types : List Ty) (how : Use)
          (ty : Option Ty) (operands : T.Args) → E p (Invoke proc on) (k On) → on.alters ≡ paths_among zs → AllLead here zs ready →
          DoesBy A_value p k (settle ready >>= (λ xs. passing p (carried here node (Calling proc types) how ty operands xs)))
      -- a declared place is filled, and that of the result written
      fills : {p : Point} {k : Exits} {place : ℕ} (v : Value) → E p (Fill (Named place)) (k On) → DoesBy Nothing p k (passing p (fill here place v))
      gives_result : {p : Point} {k : Exits} {place : ℕ} (v : Value) → E p (Give (whole (Named place))) (k On) →
          DoesBy A_value p k (passing p (carry (put (place_at here.level place) v)))
      -- elements are counted
      counts : {b : Answer} {p q : Point} {k : Exits} {d : Act} {aim : Aim} {go : ℕ → Does (answer b)} → E p d q → LooksFor here d aim →
          ((len : ℕ) → DoesBy b q k (go len)) →
          DoesBy b p k (passing p (find aim) >>= (λ found. carry (length_at found) >>= go))

    -- A turn of a loop leads from p to where the next one begins, or to what follows.
    pub data TurnsBy : (c : Counter) → (p next after : Point) → Exits → Does (Turn (counter c) (Unit {0})) → Type 0 where
      turn_follows : {c : Counter} {a : Answer} {p m next after : Point} {k : Exits} {act : Does (answer a)}
          {go : answer a → Does (Turn (counter c) (Unit {0}))} → DoesBy a p (onto m k) act →
          ((x : answer a) → Known here a x → TurnsBy c m next after k (go x)) → TurnsBy c p next after k (act >>= go)
      turn_passes : {c : Counter} {p q next after : Point} {k : Exits} {act : Does (Turn (counter c) (Unit {0}))} → E p Pass q →
          TurnsBy c q next after k act → TurnsBy c p next after k (passing p act)
      turn_again : {c : Counter} {p next : Point} {k : Exits} {body : Does (Unit {0})} (x : counter c) → DoesBy Nothing p (looped next k) body →
          TurnsBy c p next (k On) k (again body x)
      turn_ends : {c : Counter} {next after : Point} {k : Exits} → TurnsBy c after next after k no_more
      -- the elements are looked up anew, and one is read
      turn_reads : {c : Counter} {p q next after : Point} {k : Exits} {d : Act} {aim : Aim}
          {rest : Value → Does (Turn (counter c) (Unit {0}))} (len i : ℕ) → E p d q → LooksFor here d (ItemOf aim (pos i)) →
          ((v : Value) → TurnsBy c q next after k (rest v)) →
          TurnsBy c p next after k (find aim >>= (λ found. still found len >> (passing p (element_at found i) >>= rest)))
