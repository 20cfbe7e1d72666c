-- What comes of expressions: no part of one is at a fault.
use Rattle.std.proofs.Common.{◌≡◌, refl, sym, ap, ap₂, subst, ◌∙◌, ℕ, Bool, true, false, inl, inr, List, [], ◌∷◌, Option}
use Rattle.std.specs.Prelude.{◌&&◌}
use Rattle.std.proofs.lemmas.Bool.{false≢true, and_right}
use Rattle.nim_types.specs.Types.{Ty}
use Rattle.nim_program.specs.declared.expr.Node.{Node}
use Rattle.nim_program.specs.declared.operation.Use.{Use}
use Rattle.nim_program.specs.declared.operation.Operation.{Operation}
use Rattle.nim_program.specs.declared.operation.Operation.TheVariants as O
use Rattle.nim_program.specs.Program.{Act, Doing, Expr, Apply, Args, types_in}
use Rattle.nim_program.specs.Uses.{use_of, use_by}
use Rattle.nim_program.specs.Fitting.{fits, places_in}
use Rattle.nim_program.specs.Typed.{are_placed}
use Rattle.nim_program.specs.Scopes as scopes
use Rattle.nim_meaning.specs.ActTree as points
use Rattle.nim_meaning.specs.Ways.{At as Spot}
use Rattle.nim_meaning.specs.Values.{Value, Operand}
use Rattle.nim_meaning.specs.Marks.{Member, Distinct}
use Rattle.nim_meaning.specs.State.{World, State}
use Rattle.nim_meaning.specs.Acts.{Does, ◌>>=◌, with_trail}
use Rattle.nim_meaning.specs.Here.{Here, gives_hooked, form_for}
use Rattle.nim_meaning.specs.Waiting.{wait_if, waiting_all, held_from}
use Rattle.nim_meaning.specs.Shapes.{is_held as is_held_use, waits, waits_from}
use Rattle.nim_meaning.specs.Aims.{Ready, settle}
use Rattle.nim_meaning.specs.Table.{acts}
use Rattle.nim_meaning.specs.Steps.{at_node, taking_up, carried}
use Rattle.nim_meaning.specs.Meaning.{ready_all}
use Rattle.holders.specs.Sure.{Comes}
use Rattle.holders.specs.Territory.{Owner}
use Rattle.holders.proofs.Coming.{comes_then}
use Rattle.holders.specs.Asked.{Limits, IfSimple, ActAsked, AllAsked}
use Rattle.holders.specs.Evaluating.{operand_nodes, at_nodes, Leaves, Hand, empty, holds, AtHand, Settled, AllReady}
use Rattle.holders.proofs.PartsInTurn.{begins_part, stage_wider, operands_in, in_is}
use Rattle.holders.specs.Claimed.{NoExit, From, HasValue, ValueSo, ReadySo}
use Rattle.holders.proofs.Claims.{scene_passes}
use Rattle.holders.proofs.Settling.{settle_so}
use Rattle.holders.proofs.RowsOfOperands.{takes_held, row_so}
use Rattle.holders.proofs.Applying.{node_off, OwnWaits, row_valued, held_none}
use Rattle.holders.proofs.Staging.{hand_stage}

-- how the value of a node waits, which is no literal text
pub apply_waits : (here : Here) (node : Node) (ty : Option Ty) (act : Act) (operands : Args) → ((how : Use) → waits_from act how ≡ waits how) →
    OwnWaits here (Apply node ty act operands) ty
apply_waits here node ty act operands same = record {
  one = λ how w hooks. ap₂ (λ a b. wait_if (a && b) node.number ty (form_for here.facts ty)) hooks (same how ∙ w);
  none = λ how w. ap (λ b. wait_if b node.number ty (form_for here.facts ty)) (and_right (gives_hooked here.facts ty) (waits_from act how) (same how ∙ w));
  plain = λ how unhooked. ap (λ a. wait_if (a && waits_from act how) node.number ty (form_for here.facts ty)) unhooked;
}

module _ (here : Here) (scope : scopes.Here) (limits : Limits) (root : (global : Bool) → ℕ → ℕ) (first places : ℕ) (os : List Owner)
    (OfCall : ℕ → Args → Type 0) where
  abbrev Value_so : Expr → Use → Type 0
  Value_so e how = ValueSo here scope limits root first places os e how

  abbrev Ready_so : ((position : ℕ) → Use) → Args → ℕ → Type 0
  Ready_so uses args i = ReadySo here scope limits root first places os uses args i

  hand_wider : (h : Hand) (ns sub : List ℕ) (ms : List Owner) (nodes old : List ℕ) (start now : World) → ((n : ℕ) → Member n sub → Member n ns) →
      AtHand h (at_nodes here.level sub) ms os first places nodes old start now → AtHand h (at_nodes here.level ns) ms os first places nodes old start now
  hand_wider empty ns sub ms nodes old start now within s = stage_wider ns sub within s
  hand_wider (holds f v) ns sub ms nodes old start now within s = record {
    out = s.out;
    stage = stage_wider ns sub within s.stage;
    under = s.under;
    came = s.came;
    out_is = s.out_is;
  }

  -- ---- operations that take nothing from where it waits

  -- operands, their places, and then what is done with them
  pub operated_so : (node : Node) (ty : Option Ty) (act : Act) (operands : Args) (how : Use) → Distinct (node.number ∷ operand_nodes operands) →
      Ready_so (use_of here.modes act) operands 0 → held_from here.facts here.modes operands (use_of here.modes act) 0 ≡ [] →
      ((ms : List Owner) (h : Hand) (nodes later : List ℕ) (start : World) (xs : List Operand) (s : State)
      (b : From here scope limits root first places os (node.number ∷ operand_nodes operands) nodes start) →
      (leaves : Leaves here.level nodes (waiting_all here.facts here.modes operands (use_of here.modes act) 0) ms later) →
      AtHand h (at_nodes here.level (node.number ∷ operand_nodes operands)) ms os first places later b.territory.blocks start s.world →
      Settled here scope limits root (use_of here.modes act) ms os s.world h operands 0 xs →
      Comes (HasValue here first places os (Apply node ty act operands) how nodes b.territory.blocks start) NoExit
      (carried here node.number act how ty operands xs s)) → Value_so (Apply node ty act operands) how
  operated_so node ty act operands how d ready_so none rows nodes s b scene =
      comes_then (ready_all operands uses 0 here) (λ ready. settle ready >>= does_it) All Q NoExit s
      (ready_so nodes s (begins_part (node.number ∷ ns) ns b (λ n m. inr m)) scene)
      (λ ready mid a. settled ready mid a)
    where
      ns : List ℕ
      ns = operand_nodes operands

      uses : (position : ℕ) → Use
      uses = use_of here.modes act

      does_it : List Operand → Does Value
      does_it xs = at_node node.number points.Does (taking_up here (held_from here.facts here.modes operands uses 0)
          (carried here node.number act how ty operands xs))

      All : List Ready → World → Type 0
      All = AllReady here scope limits root uses operands 0 first places nodes os b.territory.blocks s.world

      Q : Value → World → Type 0
      Q = HasValue here first places os (Apply node ty act operands) how nodes b.territory.blocks s.world

      settled : (ready : List Ready) (mid : State) → All ready mid.world → Comes Q NoExit ((settle ready >>= does_it) mid)
      settled ready mid a =
          let st = hand_stage a.hand a.stage in
          let S : List Operand → World → Type 0 =
          λ xs now. (now ≡ mid.world) × Settled here scope limits root uses a.own os mid.world a.hand operands 0 xs in
          comes_then (settle ready) does_it S Q NoExit mid
          (settle_so here scope limits root uses a.own os mid.world (scene_passes ns st.runs.passes scene) st.runs.territory a.ready mid refl)
          (λ xs now q.
          let there = with_trail (Spot node.number points.Does ∷ now.trail) now in
          subst (λ ws. Comes Q NoExit (taking_up here ws (carried here node.number act how ty operands xs) there)) (sym none)
          (rows a.own a.hand nodes a.later s.world xs there b a.leaves
          (subst (λ w. AtHand a.hand (at_nodes here.level (node.number ∷ ns)) a.own os first places a.later b.territory.blocks s.world w) (sym q.0)
          (hand_wider a.hand (node.number ∷ ns) ns a.own a.later b.territory.blocks s.world mid.world (λ n m. inr m) a.stage))
          (subst (λ w. Settled here scope limits root uses a.own os w a.hand operands 0 xs) (sym q.0) q.1)))

  not_held : (operation : Operation) → takes_held operation ≡ false → (j : ℕ) → is_held_use (use_by operation) ≡ false
  not_held O.Default e j = refl
  not_held (O.Unary o) e j = refl
  not_held (O.Binary o) e j = refl
  not_held (O.Compare c) e j = refl
  not_held O.Convert e j = refl
  not_held O.Join e j = refl
  not_held O.Show e j = refl
  not_held O.Make e j = absurd (false≢true (sym e))
  not_held O.Sequence e j = absurd (false≢true (sym e))
  not_held O.NewSequence e j = refl
  not_held (O.Measure m) e j = refl
  not_held O.IsNil e j = refl
  not_held O.Echo e j = refl
  not_held O.Quit e j = refl
  not_held O.ReadLine e j = refl
  not_held O.ReadLineInto e j = refl
  not_held O.Assign e j = refl
  not_held (O.Update o) e j = refl
  not_held O.Add e j = absurd (false≢true (sym e))
  not_held O.Append e j = refl
  not_held O.SetLength e j = refl
  not_held O.Pop e j = refl
  not_held O.Move e j = refl
  not_held O.Swap e j = refl
  not_held O.Discard e j = refl
  not_held O.Destroy e j = refl
  not_held O.Blank e j = refl

  pub operation_so : (node : Node) (ty : Option Ty) (operation : Operation) (operands : Args) (how : Use) → takes_held operation ≡ false →
      IfSimple here.facts ty → ActAsked here.facts limits OfCall (Doing operation) operands → AllAsked here.facts limits OfCall operands →
      fits here.facts operation ty (types_in operands) ≡ true → are_placed (places_in operation) operands ≡ true →
      Distinct (node.number ∷ operand_nodes operands) → Ready_so (λ j. use_by operation) operands 0 → Value_so (Apply node ty (Doing operation) operands) how
  operation_so node ty operation operands how takes simple act asked typed placed d ready_so =
      operated_so node ty (Doing operation) operands how d ready_so
      (held_none here.facts here.modes operands (λ j. use_by operation) 0 (not_held operation takes))
      (λ ms h nodes later start xs s b leaves at settled.
      row_valued here first places os (Apply node ty (Doing operation) operands) (apply_waits here node ty (Doing operation) operands (λ how. refl)) nodes later
      b.territory.blocks start ms leaves how
      (acts (Doing operation) here.facts ty (types_in operands) xs) s
      (in_is node.number (node.number ∷ operand_nodes operands) (inl refl))
      (node_off (waiting_all here.facts here.modes operands (λ j. use_by operation) 0) ms node.number b (inl refl)
      (λ m. d.0 (operands_in here.facts here.modes operands (λ j. use_by operation) 0 node.number m)) leaves.cells)
      (row_so here scope limits root OfCall (at_nodes here.level (node.number ∷ operand_nodes operands)) ms os first places later b.territory.blocks
      start s.world
      at operation ty operands takes simple act asked typed placed settled))
