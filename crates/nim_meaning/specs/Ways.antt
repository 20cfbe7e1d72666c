-- Ways through a tree of acts: which point may follow which, by cases on the tree.
use Rattle.std.specs.Prelude.{◌≡◌, ℕ, List, [], ◌∷◌, Bool, true, false, ◌||◌, ◌⊎◌}
use Rattle.nim_types.specs.Types.{Ty}
use Rattle.nim_meaning.specs.ActTree.{Root, same_root, Flow, On, Out, Turn_over, Back, Operands, Act, Pass, Fill, Invoke}
use Rattle.nim_meaning.specs.ActTree.{Role, Turns, Chooses, Leaves, Does, leaving, closing}
use Rattle.nim_meaning.specs.ActTree.{Control, Do, Choose, Loop, Break, Continue, Return, Call, Group, Arms, No_arm, An_arm, Acts, Done, Then, Bind, Result}

-- a node in a role; where a result is filled; where the scope of a place is left by a flow; where a body is left
pub data Point : Type 0 where
  At : (node : ℕ) (role : Role) → Point
  Enter : (place : Root) → Point
  Leave : (place : Root) (by : Flow) → Point
  Stop : (by : Flow) → Point

-- where each flow leads
abbrev pub Exits : Type 0
Exits = Flow → Point

abbrev pub first : Control → Point
first (Do n r a) = At n r
first (Choose n r arms) = At n r
first (Loop n c b) = At n Turns
first (Break n) = At n Leaves
first (Continue n) = At n Leaves
first (Return n) = At n Leaves
first (Call n p on) = At n Does
first (Group n r b) = At n r

abbrev pub entry : Acts → Point → Point
entry Done n = n
entry (Then s b) n = first s
entry (Bind x l b) n = entry b (Leave x On)
entry (Result x l b) n = Enter x

-- going on leads to a point, all else where it led
abbrev pub onto : Point → Exits → Exits
onto n k On = n
onto n k (Out e) = k (Out e)
onto n k (Turn_over e) = k (Turn_over e)
onto n k (Back e) = k (Back e)

-- out of the body of a loop whose turns begin at a point
abbrev pub looped : Point → Exits → Exits
looped n k On = n
looped n k (Out e) = k On
looped n k (Turn_over e) = n
looped n k (Back e) = k (Back e)

-- out of the scope of a place
abbrev pub scoped : Root → Exits
scoped x f = Leave x f

-- what leaves the body of a loop leaves the loop
abbrev pub leaves_loop : Flow → Bool
leaves_loop On = false
leaves_loop (Out e) = false
leaves_loop (Turn_over e) = false
leaves_loop (Back e) = true

-- an arm begins at q
pub data Begins_arm : Arms → Point → Point → Type 0 where
  this_arm : {a : Acts} {rest : Arms} {n : Point} → Begins_arm (An_arm a rest) n (entry a n)
  other_arm : {a : Acts} {rest : Arms} {n q : Point} → Begins_arm rest n q → Begins_arm (An_arm a rest) n q

-- Which exceptions a procedure may raise, by their types. No construct raises one yet.
abbrev pub Raises : Type 0
Raises = ℕ → Ty → Bool

module _ (raises : Raises) where
  -- How control may leave a part of the tree other than by going on behind it, as the cases of the tree say: what stands behind a statement
  -- counts, whether or not control comes there.
  mutual
    pub data May : Control → Flow → Type 0 where
      may_choose : {n : ℕ} {r : Role} {arms : Arms} {f : Flow} → May_arm arms f → May (Choose n r arms) f
      may_test : {n : ℕ} {c b : Acts} {f : Flow} → Mays c f → May (Loop n c b) f
      may_turn : {n : ℕ} {c b : Acts} {f : Flow} → leaves_loop f ≡ true → Mays b f → May (Loop n c b) f
      may_break : {n : ℕ} → May (Break n) (Out n)
      may_continue : {n : ℕ} → May (Continue n) (Turn_over n)
      may_return : {n : ℕ} → May (Return n) (Back n)
      may_group : {n : ℕ} {r : Role} {b : Acts} {f : Flow} → Mays b f → May (Group n r b) f

    pub data May_arm : Arms → Flow → Type 0 where
      may_arm : {a : Acts} {rest : Arms} {f : Flow} → Mays a f → May_arm (An_arm a rest) f
      may_other : {a : Acts} {rest : Arms} {f : Flow} → May_arm rest f → May_arm (An_arm a rest) f

    pub data Mays : Acts → Flow → Type 0 where
      may_here : {s : Control} {b : Acts} {f : Flow} → May s f → Mays (Then s b) f
      may_later : {s : Control} {b : Acts} {f : Flow} → Mays b f → Mays (Then s b) f
      may_bind : {x : Root} {l : ℕ} {b : Acts} {f : Flow} → Mays b f → Mays (Bind x l b) f
      may_result : {x : Root} {l : ℕ} {b : Acts} {f : Flow} → Mays b f → Mays (Result x l b) f

  -- how a scope may be left: control goes on behind it, or leaves it early
  abbrev pub MayEnd : Acts → Flow → Type 0
  MayEnd b f = (f ≡ On) ⊎ Mays b f

  -- control may go from p, which does d, to q, where each flow out of the part leads to a point
  mutual
    pub data Edge : Control → Exits → Point → Act → Point → Type 0 where
      doing : {n : ℕ} {r : Role} {a : Act} {k : Exits} → Edge (Do n r a) k (At n r) a (k On)
      choosing : {n : ℕ} {r : Role} {arms : Arms} {k : Exits} {q : Point} → Begins_arm arms (k On) q → Edge (Choose n r arms) k (At n r) Pass q
      in_choice : {n : ℕ} {r : Role} {arms : Arms} {k : Exits} {p q : Point} {d : Act} → Edge_arm arms k p d q → Edge (Choose n r arms) k p d q
      turn_begins : {n : ℕ} {c b : Acts} {k : Exits} → Edge (Loop n c b) k (At n Turns) Pass (entry c (At n Chooses))
      in_condition : {n : ℕ} {c b : Acts} {k : Exits} {p q : Point} {d : Act} → Edges c (onto (At n Chooses) k) p d q → Edge (Loop n c b) k p d q
      loop_goes_on : {n : ℕ} {c b : Acts} {k : Exits} → Edge (Loop n c b) k (At n Chooses) Pass (entry b (At n Turns))
      loop_ends : {n : ℕ} {c b : Acts} {k : Exits} → Edge (Loop n c b) k (At n Chooses) Pass (k On)
      in_turn : {n : ℕ} {c b : Acts} {k : Exits} {p q : Point} {d : Act} → Edges b (looped (At n Turns) k) p d q → Edge (Loop n c b) k p d q
      breaking : {n : ℕ} {k : Exits} → Edge (Break n) k (At n Leaves) Pass (k (Out n))
      continuing : {n : ℕ} {k : Exits} → Edge (Continue n) k (At n Leaves) Pass (k (Turn_over n))
      returning : {n : ℕ} {k : Exits} → Edge (Return n) k (At n Leaves) Pass (k (Back n))
      call_returns : {n p : ℕ} {on : Operands} {k : Exits} → Edge (Call n p on) k (At n Does) (Invoke p on) (k On)
      group_begins : {n : ℕ} {r : Role} {b : Acts} {k : Exits} → Edge (Group n r b) k (At n r) Pass (entry b (k On))
      in_group : {n : ℕ} {r : Role} {b : Acts} {k : Exits} {p q : Point} {d : Act} → Edges b k p d q → Edge (Group n r b) k p d q

    pub data Edge_arm : Arms → Exits → Point → Act → Point → Type 0 where
      in_this : {a : Acts} {rest : Arms} {k : Exits} {p q : Point} {d : Act} → Edges a k p d q → Edge_arm (An_arm a rest) k p d q
      in_other : {a : Acts} {rest : Arms} {k : Exits} {p q : Point} {d : Act} → Edge_arm rest k p d q → Edge_arm (An_arm a rest) k p d q

    pub data Edges : Acts → Exits → Point → Act → Point → Type 0 where
      here : {s : Control} {b : Acts} {k : Exits} {p q : Point} {d : Act} → Edge s (onto (entry b (k On)) k) p d q → Edges (Then s b) k p d q
      later : {s : Control} {b : Acts} {k : Exits} {p q : Point} {d : Act} → Edges b k p d q → Edges (Then s b) k p d q
      inside : {x : Root} {l : ℕ} {b : Acts} {k : Exits} {p q : Point} {d : Act} → Edges b (scoped x) p d q → Edges (Bind x l b) k p d q
      closes : {x : Root} {l : ℕ} {b : Acts} {k : Exits} {f : Flow} → MayEnd b f → Edges (Bind x l b) k (Leave x f) (leaving x l f) (k f)
      begins_result : {x : Root} {l : ℕ} {b : Acts} {k : Exits} → Edges (Result x l b) k (Enter x) (Fill x) (entry b (Leave x On))
      in_result : {x : Root} {l : ℕ} {b : Acts} {k : Exits} {p q : Point} {d : Act} → Edges b (scoped x) p d q → Edges (Result x l b) k p d q
      ends_result : {x : Root} {l : ℕ} {b : Acts} {k : Exits} {f : Flow} → MayEnd b f → Edges (Result x l b) k (Leave x f) (closing x l f) (k f)

abbrev pub Graph : Type 1
Graph = Point → Act → Point → Type 0

-- the edges of a body, and the point where it begins
abbrev pub follows : Raises → Acts → Graph
follows raises b = Edges raises b Stop

abbrev pub start : Acts → Point
start b = entry b (Stop On)

-- a way from p: what each point does, and where it goes
pub record Ahead : Type 0 where
  pub does : Act
  pub to : Point

abbrev pub Way : Graph → Point → List Ahead → Type 0
Way E p [] = Unit {0}
Way E p (e ∷ es) = E p e.does e.to × Way E e.to es

-- a way from s to p, its last point first
pub record Behind : Type 0 where
  pub from : Point
  pub did : Act

abbrev pub Trail : Graph → Point → List Behind → Point → Type 0
Trail E s [] p = p ≡ s
Trail E s (e ∷ es) p = E e.from e.did p × Trail E s es e.from

-- ---- scopes

abbrev mutual
  -- whether a part has the scope of a place
  pub scopes : Root → Control → Bool
  scopes x (Do n r a) = false
  scopes x (Choose n r arms) = arm_scopes x arms
  scopes x (Loop n c b) = all_scopes x c || all_scopes x b
  scopes x (Break n) = false
  scopes x (Continue n) = false
  scopes x (Return n) = false
  scopes x (Call n p on) = false
  scopes x (Group n r b) = all_scopes x b

  pub arm_scopes : Root → Arms → Bool
  arm_scopes x No_arm = false
  arm_scopes x (An_arm a rest) = all_scopes x a || arm_scopes x rest

  pub all_scopes : Root → Acts → Bool
  all_scopes x Done = false
  all_scopes x (Then s b) = scopes x s || all_scopes x b
  all_scopes x (Bind y l b) = same_root y x || all_scopes x b
  all_scopes x (Result y l b) = same_root y x || all_scopes x b
