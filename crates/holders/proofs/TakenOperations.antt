-- Operations that take values from where they wait, as a whole.
use Rattle.std.proofs.Common.{◌≡◌, refl, sym, ap, subst, ◌∙◌, arith, ℕ, Bool, true, false, inl, inr, ◌⊎◌, List, ◌∷◌, ◌++◌, Option}
use Rattle.std.proofs.lemmas.Bool.{false≢true}
use Rattle.nim_types.specs.Types.{Ty}
use Rattle.nim_program.specs.declared.expr.Node.{Node}
use Rattle.nim_program.specs.declared.operation.Use.{Use}
use Rattle.nim_program.specs.declared.operation.Use.TheVariants.{Owned, Given as ToPlace, Held, Lent, Looked}
use Rattle.nim_program.specs.Program.{Act, Expr, Apply, Read, Early, Choose, Args, NoArg, ByValue, ByPath, type_of, node_of}
use Rattle.nim_program.specs.Uses.{use_of}
use Rattle.nim_program.specs.Scopes as scopes
use Rattle.nim_meaning.specs.ActTree as points
use Rattle.nim_meaning.specs.Ways.{At as Spot}
use Rattle.nim_meaning.specs.Values.{Value, Waiting, Operand}
use Rattle.nim_meaning.specs.Marks.{Member, Distinct}
use Rattle.nim_meaning.specs.State.{World, State}
use Rattle.nim_meaning.specs.Acts.{Does, ◌>>=◌, with_trail}
use Rattle.nim_meaning.specs.Here.{Here, gives_hooked}
use Rattle.nim_meaning.specs.Waiting.{held_if, held_from, waiting_all}
use Rattle.nim_meaning.specs.Aims.{Ready, settle}
use Rattle.nim_meaning.specs.Steps.{at_node, taking_up, carried}
use Rattle.nim_meaning.specs.Meaning.{ready_all}
use Rattle.holders.specs.Sure.{Comes}
use Rattle.holders.specs.Territory.{Owner, NoBaseOf}
use Rattle.holders.specs.Running.{IsOutside}
use Rattle.holders.specs.Staging.{Stage}
use Rattle.holders.proofs.Owning.{in_first, in_second, distinct_second, distinct_apart}
use Rattle.holders.proofs.Working.{all_so}
use Rattle.holders.proofs.Coming.{comes_then}
use Rattle.holders.specs.Asked.{Limits, AllWrite}
use Rattle.holders.specs.Evaluating.{value_nodes, path_nodes, operand_nodes, at_nodes, Leaves, Hand, empty, holds, AtHand, Readied, none_ready, bare_ready}
use Rattle.holders.specs.Evaluating.{held_ready}
use Rattle.holders.specs.Evaluating.{lent_ready, aim_ready, seen_ready, copy_ready, hand_ready, Settled, AllReady}
use Rattle.holders.proofs.PartsInTurn.{begins_part, stage_wider, in_is}
use Rattle.holders.specs.Claimed.{NoExit, From, Sees, HasValue, ValueSo, ReadySo}
use Rattle.holders.proofs.Claims.{scene_passes}
use Rattle.holders.proofs.OperandKinds.{Regular, AllRegular}
use Rattle.holders.proofs.Settling.{settle_so}
use Rattle.holders.proofs.WaitingTaken.{own_numbers}
use Rattle.holders.proofs.TakingUp.{AllTaken, take_all}
use Rattle.holders.specs.Becoming.{none}

abbrev use_number : Use → ℕ
use_number Owned = 0
use_number ToPlace = 1
use_number Held = 2
use_number Lent = 3
use_number Looked = 4

-- ---- the nodes of operands

module _ (here : Here) where
  node_in : (e : Expr) → Regular here.facts e → gives_hooked here.facts (type_of e) ≡ true → Member (node_of e).number (value_nodes e)
  node_in (Apply node ty act operands) r hooks = inl refl
  node_in (Read path) r hooks = inl refl
  node_in (Early node ty short left right) r hooks = absurd (false≢true (sym r ∙ hooks))
  node_in (Choose node ty chooser parts) r hooks = inl refl

  pub own_within : (args : Args) → AllRegular here.facts args → (n : ℕ) → Member n (own_numbers here args) → Member n (operand_nodes args)
  own_within NoArg r n m = m
  own_within (ByPath path rest) r n m = in_second n (path_nodes path) (operand_nodes rest) (own_within rest r n m)
  own_within (ByValue value rest) r n m = by (gives_hooked here.facts (type_of value)) refl m (λ q. own_within rest r.1 n q)
    where
      by : (c : Bool) → gives_hooked here.facts (type_of value) ≡ c → Member n (held_if c (node_of value).number (own_numbers here rest)) →
          (Member n (own_numbers here rest) → Member n (operand_nodes rest)) → Member n (value_nodes value ++ operand_nodes rest)
      by true hooks (inl e) more =
          in_first n (value_nodes value) (operand_nodes rest) (subst (λ k. Member k (value_nodes value)) (sym e) (node_in value r.0 hooks))
      by true hooks (inr q) more = in_second n (value_nodes value) (operand_nodes rest) (more q)
      by false hooks q more = in_second n (value_nodes value) (operand_nodes rest) (more q)

  pub own_distinct : (args : Args) → AllRegular here.facts args → Distinct (operand_nodes args) → Distinct (own_numbers here args)
  own_distinct NoArg r d = tt
  own_distinct (ByPath path rest) r d = own_distinct rest r (distinct_second (path_nodes path) (operand_nodes rest) d)
  own_distinct (ByValue value rest) r d =
      by (gives_hooked here.facts (type_of value)) refl (own_distinct rest r.1 (distinct_second (value_nodes value) (operand_nodes rest) d))
    where
      by : (c : Bool) → gives_hooked here.facts (type_of value) ≡ c → Distinct (own_numbers here rest) →
          Distinct (held_if c (node_of value).number (own_numbers here rest))
      by true hooks more = (
        λ m. distinct_apart (node_of value).number (value_nodes value) (operand_nodes rest) d (node_in value r.0 hooks)
            (own_within rest r.1 (node_of value).number m),
        more,
      )
      by false hooks more = more

-- ---- operands, their places, and then what is done with what was taken

module _ (here : Here) (scope : scopes.Here) (limits : Limits) (root : (global : Bool) → ℕ → ℕ) (first places : ℕ) (os : List Owner) where
  no_hand : (uses : (position : ℕ) → Use) → ((j : ℕ) → (uses j ≡ Held) ⊎ (uses j ≡ Lent)) → {ms : List Owner} {now : World} {h : Hand} {args : Args} {i : ℕ}
      {xs : List Ready} → Readied here scope limits root uses ms os now h args i xs → h ≡ empty
  no_hand uses lent none_ready = refl
  no_hand uses lent (bare_ready which b more) = no_hand uses lent more
  no_hand uses lent (held_ready purpose hooks a stands more) = no_hand uses lent more
  no_hand uses lent (lent_ready purpose hooks own a more) = no_hand uses lent more
  no_hand uses lent (aim_ready a more) = no_hand uses lent more
  no_hand uses lent (seen_ready purpose b) = refl
  no_hand uses lent (copy_ready purpose hooks f) = refl
  no_hand uses lent {h = h} (hand_ready {value = value} {i = i} {v = v} purpose hooks) = absurd (by (lent i) purpose)
    where
      by : (uses i ≡ Held) ⊎ (uses i ≡ Lent) → (uses i ≡ Owned) ⊎ (uses i ≡ ToPlace) → ⊥
      by (inl e) (inl q) = omega (arith, ap use_number (sym e ∙ q))
      by (inl e) (inr q) = omega (arith, ap use_number (sym e ∙ q))
      by (inr e) (inl q) = omega (arith, ap use_number (sym e ∙ q))
      by (inr e) (inr q) = omega (arith, ap use_number (sym e ∙ q))

  pub taken_so : (node : Node) (ty : Option Ty) (act : Act) (operands : Args) (how : Use)
      (lent : (j : ℕ) → (use_of here.modes act j ≡ Held) ⊎ (use_of here.modes act j ≡ Lent)) →
      Distinct (node.number ∷ operand_nodes operands) → AllRegular here.facts operands → AllWrite limits operands →
      ReadySo here scope limits root first places os (use_of here.modes act) operands 0 →
      ((nodes later : List ℕ) (start world : World) (xs : List Operand) (ms : List Owner) (s : State)
      (b : From here scope limits root first places os (node.number ∷ operand_nodes operands) nodes start) → Sees here scope limits root first places os start →
      Leaves here.level nodes (waiting_all here.facts here.modes operands (use_of here.modes act) 0) ms later →
      (st : Stage (at_nodes here.level (node.number ∷ operand_nodes operands)) ms os first places later b.territory.blocks start world) →
      AllTaken here scope limits root (use_of here.modes act) os first places (node.number ∷ operand_nodes operands) b.territory.blocks start lent
      none operands 0 xs st.runs.territory.blocks ms later world s.world →
      Comes (HasValue here first places os (Apply node ty act operands) how nodes b.territory.blocks start) NoExit
      (carried here node.number act how ty operands xs s)) →
      ValueSo here scope limits root first places os (Apply node ty act operands) how
  taken_so node ty act operands how lent d regular write ready_so rows nodes s b scene =
      comes_then (ready_all operands uses 0 here) (λ ready. settle ready >>= does_it) All Q NoExit s
      (ready_so nodes s (begins_part (node.number ∷ ns) ns b (λ n m. inr m)) scene)
      (λ ready mid a. settled ready mid a.own a.later a.leaves a.hand (no_hand uses lent a.ready) a.stage a.ready)
    where
      ns : List ℕ
      ns = operand_nodes operands

      uses : (position : ℕ) → Use
      uses = use_of here.modes act

      does_it : List Operand → Does Value
      does_it xs = at_node node.number points.Does (taking_up here (held_from here.facts here.modes operands uses 0)
          (carried here node.number act how ty operands xs))

      All : List Ready → World → Type 0
      All = AllReady here scope limits root uses operands 0 first places nodes os b.territory.blocks s.world

      Q : Value → World → Type 0
      Q = HasValue here first places os (Apply node ty act operands) how nodes b.territory.blocks s.world

      off : (n : ℕ) → Member n (node.number ∷ ns) → NoBaseOf (Waiting here.level n) os
      off n m =
          all_so (λ o. IsOutside (at_nodes here.level (node.number ∷ ns)) o.at.base) (λ o. Waiting here.level n ≡ o.at.base → ⊥) os
          (λ o out e. inside (subst (λ c. IsOutside (at_nodes here.level (node.number ∷ ns)) c) (sym e) out)) b.outside
        where
          inside : IsOutside (at_nodes here.level (node.number ∷ ns)) (Waiting here.level n) → ⊥
          inside (inl less) = omega (arith, less)
          inside (inr q) = q.1 (in_is n (node.number ∷ ns) m)

      settled : (ready : List Ready) (mid : State) (own : List Owner) (later : List ℕ) →
          Leaves here.level nodes (waiting_all here.facts here.modes operands uses 0) own later →
          (h : Hand) → h ≡ empty → AtHand h (at_nodes here.level ns) own os first places later b.territory.blocks s.world mid.world →
          Readied here scope limits root uses own os mid.world h operands 0 ready → Comes Q NoExit ((settle ready >>= does_it) mid)
      settled ready mid own later leaves (holds f v) e st r = absurd (subst is_held e tt)
        where
          is_held : Hand → Type 0
          is_held empty = ⊥
          is_held (holds f v) = Unit {0}
      settled ready mid own later leaves empty e st r =
          let S : List Operand → World → Type 0 = λ xs now. (now ≡ mid.world) × Settled here scope limits root uses own os mid.world empty operands 0 xs in
          comes_then (settle ready) does_it S Q NoExit mid
          (settle_so here scope limits root uses own os mid.world (scene_passes ns st.runs.passes scene) st.runs.territory r mid refl)
          (λ xs now q.
          let there = with_trail (Spot node.number points.Does ∷ now.trail) now in
          let wide = subst (λ w. Stage (at_nodes here.level (node.number ∷ ns)) own os first places later b.territory.blocks s.world w) (sym q.0)
          (stage_wider (node.number ∷ ns) ns (λ n m. inr m) st) in
          take_all here scope limits root uses os first places (node.number ∷ ns) b.territory.blocks s.world lent operands own later there wide
          (subst (λ w. Settled here scope limits root uses own os w empty operands 0 xs) (sym q.0) q.1) (own_distinct here operands regular d.1)
          (λ n m. inr (own_within here operands regular n m)) off write (carried here node.number act how ty operands xs) Q
          (λ last t. rows nodes later s.world now.world xs own last b scene leaves wide t))
