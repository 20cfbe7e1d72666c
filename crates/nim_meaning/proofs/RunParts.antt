-- Parts of the tree of acts, and what does them: one behind another, points, groups, choices and loops.
use Rattle.std.proofs.Common.{◌≡◌, refl, sym, ap, subst, ◌∙◌, ℕ, Bool, true, false, ◌&&◌, if◌then◌else◌, List, [], ◌∷◌, ◌++◌, Option, Some, None}
use Rattle.nim_program.specs.Program as T
use Rattle.nim_program.specs.Program.{Label, Declared}
use Rattle.nim_program.specs.declared.operation.Operation.{Operation}
use Rattle.nim_program.specs.declared.operation.Operation.TheVariants as O
use Rattle.nim_program.specs.declared.stmt.Leaving.{Leaving}
use Rattle.nim_program.specs.declared.stmt.Leaving.TheVariants as K
use Rattle.nim_meaning.specs.ActTree as tree
use Rattle.nim_meaning.specs.ActTree.{Step, Operands, Role, Does as Done_by, Turns, Leaves, Act, Pass, Control, Do, Choose, Loop, Call, Group}
use Rattle.nim_meaning.specs.ActTree.{Arms, No_arm, An_arm, Acts, Done, Then, Out, Turn_over, Back}
use Rattle.nim_meaning.specs.Ways.{Point, At, Exits, Graph, Raises, Edge, Edge_arm, Edges, Begins_arm, this_arm, other_arm, in_this, in_other, first, entry}
use Rattle.nim_meaning.specs.Ways.{onto}
use Rattle.nim_meaning.specs.Ways.{doing, choosing, in_choice, call_returns, breaking, continuing, returning, group_begins, in_group, here as at_here, later}
use Rattle.nim_meaning.specs.Values.{Value}
use Rattle.nim_meaning.specs.State.{State}
use Rattle.nim_meaning.specs.Acts.{Does, leave, give, ◌>>=◌, branch, costs}
use Rattle.nim_meaning.specs.Deeds.{Deed, carry}
use Rattle.nim_meaning.specs.Here.{Here}
use Rattle.nim_meaning.specs.ActsOf.{used, makes, made, made_in, all_made, bound, ended, either, act_by, looked_up, result_act, left}
use Rattle.nim_meaning.specs.Meaning.{at_node, label_work, picked, exit_by}
use Rattle.nim_meaning.specs.AtPoints.{Answer, answer, A_value, Known, Within, At_none, DoesBy, gives, hands_on, works_first, follows_on, same_way, same_deed}
use Rattle.nim_meaning.specs.AtPoints.{passes, leaves}

-- what an operation does makes no temporary
pub act_makes_none : (operation : Operation) (operands : T.Args) (on : Operands) → makes (act_by operation operands on) ≡ []
act_makes_none O.Assign (T.ByPath path rest) on = refl
act_makes_none (O.Measure measure) (T.ByPath path rest) on = refl
act_makes_none _ operands on = refl

pub looked_makes_none : (head : T.Args) (steps : List Step) → makes (looked_up head steps) ≡ []
looked_makes_none T.NoArg steps = refl
looked_makes_none (T.ByValue value rest) steps = refl
looked_makes_none (T.ByPath path rest) steps = refl

pub result_makes_none : (result : Option Declared) → makes (result_act result) ≡ []
result_makes_none None = refl
result_makes_none (Some place) = refl

same_exits : (k : Exits) (f : tree.Flow) → onto (k tree.On) k f ≡ k f
same_exits k tree.On = refl
same_exits k (Out e) = refl
same_exits k (Turn_over e) = refl
same_exits k (Back e) = refl

onto_twice : (m n : Point) (k : Exits) (f : tree.Flow) → onto m k f ≡ onto m (onto n k) f
onto_twice m n k tree.On = refl
onto_twice m n k (Out e) = refl
onto_twice m n k (Turn_over e) = refl
onto_twice m n k (Back e) = refl

module _ (raises : Raises) (E : Graph) (here : Here) where
  -- the edges of acts are among those of the graph
  abbrev pub Inside : Acts → Exits → Type 0
  Inside b k = (p : Point) (d : Act) (q : Point) → Edges raises b k p d q → E p d q

  abbrev pub InsideControl : Control → Exits → Type 0
  InsideControl s k = (p : Point) (d : Act) (q : Point) → Edge raises s k p d q → E p d q

  -- from p on, to where its flow leads
  abbrev pub D : (a : Answer) → Point → Exits → Does (answer a) → Type 0
  D a p k act = DoesBy E here a p k act

  -- acts before any rest: they keep the rest's edges, make no temporary, and lead from their first point to the rest's
  pub record Part (a : Answer) (F : Acts → Acts) (act : Does (answer a)) : Type 0 where
    pub keeps : (rest : Acts) (k : Exits) (p : Point) (d : Act) (q : Point) → Edges raises rest k p d q → Edges raises (F rest) k p d q
    pub makes : (rest : Acts) → all_made (F rest) ≡ all_made rest
    pub does : (rest : Acts) (k : Exits) → Inside (F rest) k → D a (entry (F rest) (k tree.On)) (onto (entry rest (k tree.On)) k) act

  -- acts with nothing behind them
  pub record Block (a : Answer) (b : Acts) (act : Does (answer a)) : Type 0 where
    pub makes : all_made b ≡ []
    pub does : (k : Exits) → Inside b k → D a (entry b (k tree.On)) k act

  -- what passes no point
  pub part_apart : {a : Answer} {act : Does (answer a)} → ((k : Exits) → D a (k tree.On) k act) → Part a (λ r. r) act
  part_apart h = record {
    keeps = λ rest k p d q e. e;
    makes = λ rest. refl;
    does = λ rest k i. h (onto (entry rest (k tree.On)) k);
  }

  pub part_gives : {a : Answer} {x : answer a} → Known here a x → Part a (λ r. r) (give x)
  part_gives h = part_apart (λ k. gives h)

  pub part_hands : {deed : Deed Value} → Within Value At_none At_none deed → Part A_value (λ r. r) (carry deed)
  part_hands w = part_apart (λ k. hands_on w)

  -- one behind another; x is any answer of the first
  pub part_then : {a b : Answer} {F G : Acts → Acts} {act : Does (answer a)} {go : answer a → Does (answer b)} (x : answer a) → Known here a x → Part a F act →
      ((x : answer a) → Known here a x → Part b G (go x)) → Part b (λ r. F (G r)) (act >>= go)
  part_then {a} {b} {F} {G} {act} {go} x h f g = record {
    keeps = λ rest k p d q e. f.keeps (G rest) k p d q ((g x h).keeps rest k p d q e);
    makes = λ rest. f.makes (G rest) ∙ (g x h).makes rest;
    does = λ rest k i.
        let m = entry (G rest) (k tree.On) in
        follows_on (same_way (onto_twice m (entry rest (k tree.On)) k) (f.does (G rest) k i))
        (λ y l. (g y l).does rest k (λ p d q e. i p d q (f.keeps (G rest) k p d q e)));
  }

  pub part_costs : {a : Answer} {F : Acts → Acts} {act : Does (answer a)} (n : ℕ) → Part a F act → Part a F (costs n act)
  part_costs {a} {F} {act} n f = record { keeps = f.keeps; makes = f.makes; does = λ rest k i. works_first n (f.does rest k i) }

  -- what does the same in each state
  pub part_same : {a : Answer} {F : Acts → Acts} {act other : Does (answer a)} → ((s : State) → act s ≡ other s) → Part a F act → Part a F other
  part_same h f = record { keeps = f.keeps; makes = f.makes; does = λ rest k i. same_deed h (f.does rest k i) }

  -- a value that doesn't wait
  pub part_used : {a : Answer} {F : Acts → Acts} {act : Does (answer a)} (hook waits : Bool) (n : ℕ) → hook ≡ false → Part a F act →
      Part a (λ r. F (used (hook && waits) n r)) act
  part_used {a} {F} {act} hook waits n e f = subst (λ b. Part a (λ r. F (used (b && waits) n r)) act) (sym e) f

  -- ---- blocks

  pub part_block : {a : Answer} {F : Acts → Acts} {act : Does (answer a)} → Part a F act → Block a (F Done) act
  part_block {a} {F} {act} f = record { makes = f.makes Done; does = λ k i. same_way (same_exits k) (f.does Done k i) }

  pub block_gives : {a : Answer} {x : answer a} → Known here a x → Block a Done (give x)
  block_gives h = part_block (part_gives h)

  pub block_then : {a c : Answer} {F : Acts → Acts} {b : Acts} {act : Does (answer a)} {go : answer a → Does (answer c)} (x : answer a) → Known here a x →
      Part a F act → ((x : answer a) → Known here a x → Block c b (go x)) → Block c (F b) (act >>= go)
  block_then {a} {c} {F} {b} {act} {go} x h f g = record {
    makes = f.makes b ∙ (g x h).makes;
    does = λ k i. follows_on (f.does b k i) (λ y l. (g y l).does k (λ p d q e. i p d q (f.keeps b k p d q e)));
  }

  pub block_costs : {a : Answer} {b : Acts} {act : Does (answer a)} (n : ℕ) → Block a b act → Block a b (costs n act)
  block_costs {a} {b} {act} n f = record { makes = f.makes; does = λ k i. works_first n (f.does k i) }

  -- its temporaries end with it: it has none
  pub block_ended : {a : Answer} {b : Acts} {act : Does (answer a)} → Block a b act → Block a (ended b) act
  block_ended {a} {b} {act} f = subst (λ ns. Block a (bound ns b) act) (sym f.makes) f

  -- ---- points

  -- an act that makes no temporary, at its point
  pub part_do : {a : Answer} {act : Does (answer a)} (n : ℕ) (r : Role) (d : Act) → makes d ≡ [] →
      ((k : Exits) → E (At n r) d (k tree.On) → D a (At n r) k act) → Part a (λ b. Then (Do n r d) b) act
  part_do {a} {act} n r d e h = record {
    keeps = λ rest k p d q x. later x;
    makes = λ rest. ap (λ ns. ns ++ all_made rest) e;
    does = λ rest k i. let m = entry rest (k tree.On) in h (onto m k) (i (At n r) d m (at_here doing));
  }

  pub part_call : {a : Answer} {act : Does (answer a)} (n proc : ℕ) (on : Operands) →
      ((k : Exits) → E (At n Done_by) (tree.Invoke proc on) (k tree.On) → D a (At n Done_by) k act) → Part a (λ b. Then (Call n proc on) b) act
  part_call {a} {act} n proc on h = record {
    keeps = λ rest k p d q x. later x;
    makes = λ rest. refl;
    does = λ rest k i. let m = entry rest (k tree.On) in h (onto m k) (i (At n Done_by) (tree.Invoke proc on) m (at_here call_returns));
  }

  left_does : {a : Answer} (n : ℕ) (leaving : Leaving) (rest : Acts) (k : Exits) → Inside (Then (left leaving n) rest) k →
      D a (At n Leaves) (onto (entry rest (k tree.On)) k) (at_node n Leaves (leave (exit_by leaving n)))
  left_does n K.Break rest k i = leaves n K.Break (i (At n Leaves) Pass (k (Out n)) (at_here breaking))
  left_does n K.Continue rest k i = leaves n K.Continue (i (At n Leaves) Pass (k (Turn_over n)) (at_here continuing))
  left_does n K.Return rest k i = leaves n K.Return (i (At n Leaves) Pass (k (Back n)) (at_here returning))

  left_first : (n : ℕ) (leaving : Leaving) → At n Leaves ≡ first (left leaving n)
  left_first n K.Break = refl
  left_first n K.Continue = refl
  left_first n K.Return = refl

  left_makes : (n : ℕ) (leaving : Leaving) → made (left leaving n) ≡ []
  left_makes n K.Break = refl
  left_makes n K.Continue = refl
  left_makes n K.Return = refl

  -- control leaves
  pub part_left : {a : Answer} (n : ℕ) (leaving : Leaving) → Part a (λ b. Then (left leaving n) b) (at_node n Leaves (leave (exit_by leaving n)))
  part_left {a} n leaving = record {
    keeps = λ rest k p d q x. later x;
    makes = λ rest. ap (λ ns. ns ++ all_made rest) (left_makes n leaving);
    does = λ rest k i.
        subst (λ p. D a p (onto (entry rest (k tree.On)) k) (at_node n Leaves (leave (exit_by leaving n)))) (left_first n leaving)
        (left_does n leaving rest k i);
  }

  -- a point, and what is inside it
  pub part_group : {a : Answer} {b : Acts} {act : Does (answer a)} (n : ℕ) (r : Role) → Block a b act →
      Part a (λ rest. Then (Group n r b) rest) (at_node n r act)
  part_group {a} {b} {act} n r f = record {
    keeps = λ rest k p d q x. later x;
    makes = λ rest. refl;
    does = λ rest k i.
        let m = entry rest (k tree.On) in
        passes (i (At n r) Pass (entry b m) (at_here group_begins)) (f.does (onto m k) (λ p d q e. i p d q (at_here (in_group e))));
  }

  -- ---- choices

  -- one of the branches
  pub record ArmDoes (a : Answer) (arms : Arms) (k : Exits) (act : Does (answer a)) : Type 0 where
    pub to : Point
    pub begins : Begins_arm arms (k tree.On) to
    pub does : D a to k act

  pub record Chosen (a : Answer) (arms : Arms) (act : Does (answer a)) : Type 0 where
    pub makes : made_in arms ≡ []
    pub does : (k : Exits) → ((p : Point) (d : Act) (q : Point) → Edge_arm raises arms k p d q → E p d q) → ArmDoes a arms k act

  none_more : (xs ys : List ℕ) → xs ≡ [] → ys ≡ [] → xs ++ ys ≡ []
  none_more xs ys e f = ap (λ zs. zs ++ ys) e ∙ f

  chosen_this : {a : Answer} {b : Acts} {rest : Arms} {act : Does (answer a)} → Block a b act → made_in rest ≡ [] → Chosen a (An_arm b rest) act
  chosen_this {a} {b} {rest} {act} f e = record {
    makes = none_more (all_made b) (made_in rest) f.makes e;
    does = λ k i. record { to = entry b (k tree.On); begins = this_arm; does = f.does k (λ p d q x. i p d q (in_this x)) };
  }

  chosen_other : {a : Answer} {b : Acts} {rest : Arms} {act : Does (answer a)} → all_made b ≡ [] → Chosen a rest act → Chosen a (An_arm b rest) act
  chosen_other {a} {b} {rest} {act} e g = record {
    makes = none_more (all_made b) (made_in rest) e g.makes;
    does = λ k i.
        let x = g.does k (λ p d q x. i p d q (in_other x)) in
        record { to = x.to; begins = other_arm x.begins; does = x.does };
  }

  pub chosen_last : {a : Answer} {b : Acts} {act : Does (answer a)} → Block a b act → Chosen a (An_arm b No_arm) act
  chosen_last f = chosen_this f refl

  pub chosen_costs : {a : Answer} {arms : Arms} {act : Does (answer a)} (n : ℕ) → Chosen a arms act → Chosen a arms (costs n act)
  chosen_costs n f = record {
    makes = f.makes;
    does = λ k i. let x = f.does k i in record { to = x.to; begins = x.begins; does = works_first n x.does };
  }

  chosen_branch : {a : Answer} {arms : Arms} {x y : Does (answer a)} (b : Bool) → Chosen a arms x → Chosen a arms y → Chosen a arms (branch b x y)
  chosen_branch true f g = f
  chosen_branch false f g = g

  -- the first branch, or one of the others
  pub chosen_two : {a : Answer} {b : Acts} {rest : Arms} {x y : Does (answer a)} (c : Bool) → Block a b x → Chosen a rest y →
      Chosen a (An_arm b rest) (branch c x y)
  chosen_two c f g = chosen_branch c (chosen_this f g.makes) (chosen_other f.makes g)

  pub chosen_labels : {a : Answer} {arms : Arms} {x y : Does (answer a)} (labels : List Label) (v : Value) → Chosen a arms x → Chosen a arms y →
      Chosen a arms (picked labels v x y)
  chosen_labels [] v f g = g
  chosen_labels (label ∷ labels) v f g = chosen_costs (label_work label) (chosen_branch _ f (chosen_labels labels v f g))

  -- a branch by its labels, which is the last one where nothing else is to come
  pub chosen_picked : {a : Answer} {b : Acts} {rest : Arms} {x y : Does (answer a)} (labels : List Label) (v : Value) (last : Bool) → Block a b x →
      Chosen a rest y → Chosen a (An_arm b (if last then No_arm else rest)) (picked labels v x (branch last x y))
  chosen_picked labels v true f g = chosen_labels labels v (chosen_last f) (chosen_last f)
  chosen_picked labels v false f g = chosen_labels labels v (chosen_this f g.makes) (chosen_other f.makes g)

  pub part_choose : {a : Answer} {arms : Arms} {act : Does (answer a)} (n : ℕ) (r : Role) → Chosen a arms act →
      Part a (λ rest. Then (Choose n r arms) rest) (at_node n r act)
  part_choose {a} {arms} {act} n r f = record {
    keeps = λ rest k p d q x. later x;
    makes = λ rest. ap (λ ns. ns ++ all_made rest) f.makes;
    does = λ rest k i.
        let m = entry rest (k tree.On) in
        let x = f.does (onto m k) (λ p d q e. i p d q (at_here (in_choice e))) in
        passes (i (At n r) Pass x.to (at_here (choosing x.begins))) x.does;
  }

  -- two branches at a point
  pub block_either : {a : Answer} {b c : Acts} {x y : Does (answer a)} (n : ℕ) (r : Role) (holds : Bool) → Block a b x → Block a c y →
      Block a (either n r b c) (at_node n r (branch holds x y))
  block_either n r holds f g = part_block (part_choose n r (chosen_two holds f (chosen_last g)))

  -- ---- loops

  pub part_loop : {a : Answer} {act : Does (answer a)} (n : ℕ) (c b : Acts) →
      ((k : Exits) → InsideControl (Loop n c b) k → D a (At n Turns) k act) → Part a (λ rest. Then (Loop n c b) rest) act
  part_loop {a} {act} n c b f = record {
    keeps = λ rest k p d q x. later x;
    makes = λ rest. refl;
    does = λ rest k i.
        let m = entry rest (k tree.On) in
        f (onto m k) (λ p d q e. i p d q (at_here e));
  }
