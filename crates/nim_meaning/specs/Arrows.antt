-- The ways as a list, computed by cases on the tree. The families of edges are their definition; this list is what computes.
use Rattle.std.specs.Prelude.{◌≡◌, ℕ, List, [], ◌∷◌, ◌++◌, ◌⊎◌}
use Rattle.nim_meaning.specs.ActTree.{Root, Flow, On, Out, Turn_over, Back, Act, Pass, Fill, Invoke, Turns, Chooses, Leaves, Does, leaving, closing}
use Rattle.nim_meaning.specs.ActTree.{Control, Do, Choose, Loop, Break, Continue, Return, Call, Group, Arms, No_arm, An_arm, Acts, Done, Then, Bind, Result}
use Rattle.nim_meaning.specs.Ways.{Point, At, Enter, Leave, Exits, Raises, entry, onto, looped, scoped}

-- what leaves a loop out of its body
abbrev pub out_of_loop : List Flow → List Flow
out_of_loop [] = []
out_of_loop (On ∷ fs) = out_of_loop fs
out_of_loop (Out e ∷ fs) = out_of_loop fs
out_of_loop (Turn_over e ∷ fs) = out_of_loop fs
out_of_loop (Back e ∷ fs) = Back e ∷ out_of_loop fs

-- control may go from a point, which does an act, to a point
pub record Arrow : Type 0 where
  pub from : Point
  pub does : Act
  pub to : Point

abbrev pub arrow : Point → Act → Point → Arrow
arrow p d q = record { from = p; does = d; to = q }

abbrev pub arms_begin : Point → Arms → Point → List Arrow
arms_begin p No_arm q = []
arms_begin p (An_arm a rest) q = arrow p Pass (entry a q) ∷ arms_begin p rest q

abbrev pub scope_ends : Root → ℕ → Exits → List Flow → List Arrow
scope_ends x l k [] = []
scope_ends x l k (f ∷ fs) = arrow (Leave x f) (leaving x l f) (k f) ∷ scope_ends x l k fs

abbrev pub result_ends : Root → ℕ → Exits → List Flow → List Arrow
result_ends x l k [] = []
result_ends x l k (f ∷ fs) = arrow (Leave x f) (closing x l f) (k f) ∷ result_ends x l k fs

module _ (raises : Raises) where
  abbrev mutual
    -- how control may leave a part other than by going on behind it
    pub leaves : Control → List Flow
    leaves (Do n r a) = []
    leaves (Choose n r arms) = arms_leave arms
    leaves (Loop n c b) = all_leave c ++ out_of_loop (all_leave b)
    leaves (Break n) = Out n ∷ []
    leaves (Continue n) = Turn_over n ∷ []
    leaves (Return n) = Back n ∷ []
    leaves (Call n p on) = []
    leaves (Group n r b) = all_leave b

    pub arms_leave : Arms → List Flow
    arms_leave No_arm = []
    arms_leave (An_arm a rest) = all_leave a ++ arms_leave rest

    pub all_leave : Acts → List Flow
    all_leave Done = []
    all_leave (Then s b) = leaves s ++ all_leave b
    all_leave (Bind x l b) = all_leave b
    all_leave (Result x l b) = all_leave b

  -- how a scope may be left
  abbrev pub flows : Acts → List Flow
  flows b = On ∷ all_leave b

  abbrev mutual
    pub arrows : Control → Exits → List Arrow
    arrows (Do n r a) k = arrow (At n r) a (k On) ∷ []
    arrows (Choose n r arms) k = arms_begin (At n r) arms (k On) ++ arm_arrows arms k
    arrows (Loop n c b) k =
        arrow (At n Turns) Pass (entry c (At n Chooses)) ∷ all_arrows c (onto (At n Chooses) k)
        ++ arrow (At n Chooses) Pass (entry b (At n Turns)) ∷ arrow (At n Chooses) Pass (k On) ∷ all_arrows b (looped (At n Turns) k)
    arrows (Break n) k = arrow (At n Leaves) Pass (k (Out n)) ∷ []
    arrows (Continue n) k = arrow (At n Leaves) Pass (k (Turn_over n)) ∷ []
    arrows (Return n) k = arrow (At n Leaves) Pass (k (Back n)) ∷ []
    arrows (Call n p on) k = arrow (At n Does) (Invoke p on) (k On) ∷ []
    arrows (Group n r b) k = arrow (At n r) Pass (entry b (k On)) ∷ all_arrows b k

    pub arm_arrows : Arms → Exits → List Arrow
    arm_arrows No_arm k = []
    arm_arrows (An_arm a rest) k = all_arrows a k ++ arm_arrows rest k

    pub all_arrows : Acts → Exits → List Arrow
    all_arrows Done k = []
    all_arrows (Then s b) k = arrows s (onto (entry b (k On)) k) ++ all_arrows b k
    all_arrows (Bind x l b) k = all_arrows b (scoped x) ++ scope_ends x l k (flows b)
    all_arrows (Result x l b) k = arrow (Enter x) (Fill x) (entry b (Leave x On)) ∷ all_arrows b (scoped x) ++ result_ends x l k (flows b)

-- an arrow is one of a list
abbrev pub Among : Point → Act → Point → List Arrow → Type 0
Among p d q [] = ⊥
Among p d q (e ∷ es) = ((p ≡ e.from) × (d ≡ e.does) × (q ≡ e.to)) ⊎ Among p d q es

abbrev pub Is_flow : Flow → List Flow → Type 0
Is_flow f [] = ⊥
Is_flow f (g ∷ gs) = (f ≡ g) ⊎ Is_flow f gs
