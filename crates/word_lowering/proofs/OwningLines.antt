-- What is done with a value that somebody owns, by lines: it begins to wait at a node, or is taken up from there.
use Rattle.std.proofs.Common.{◌≡◌, ℕ, ◌+◌, ◌*◌, ◌%◌, ◌^◌, ◌<◌, ◌≤◌, List, [], ◌∷◌, Some, true, refl, sym, subst, arith}
use Rattle.nim_meaning.specs.Values.{Value, Operand, Holds}
use Rattle.nim_meaning.specs.State.{with_none_waiting, with_one_waiting}
use Rattle.nim_meaning.specs.Deeds.{Answers}
use Rattle.flat_code.specs.declared.block.BlockLine.{BlockLine}
use Rattle.flat_code.specs.declared.line.From.{From}
use Rattle.flat_code.specs.declared.line.From.TheVariants as F
use Rattle.flat_code.specs.declared.line.Line.TheVariants as L
use Rattle.flat_code.specs.declared.line.Owning.TheVariants as W
use Rattle.flat_code.specs.Scene.{Passes}
use Rattle.flat_code.specs.Shapes.{has_shape}
use Rattle.word_code.specs.declared.word.WordInstr.{WordInstr}
use Rattle.word_code.proofs.ForCallers.{Runs, at}
use Rattle.word_lowering.specs.declared.homes.Waiter.{Waiter}
use Rattle.word_lowering.specs.WaitingCode.{waiter_at, waits_code, leaves_code}
use Rattle.word_lowering.proofs.ControlLines.{SettlesHere, plain}
use Rattle.word_lowering.proofs.Lines.{Basis, IsGood, Settles, all_procs, all_settles, goes_from, changed, stands_next, starts}
use Rattle.word_lowering.proofs.Related.{Both, body_of, code_behind, low, within}
use Rattle.word_lowering.proofs.RoutineCalls.{awaiting}
use Rattle.word_lowering.proofs.Scenes.{house, looked, of_value, of_waiting}
use Rattle.word_lowering.proofs.Settling.{LabelsLead}
use Rattle.word_lowering.proofs.ShapeFacts.{of_numbers}
use Rattle.word_lowering.proofs.WaitingLines.{MayWait, leaves, waits}

module _ (x : Basis) (labels : LabelsLead x) (g : Both) (rest : List BlockLine) (node : ℕ) (w : Waiter)
    (is : waiter_at node g.call.site.body.own.waiters ≡ Some w) where
  -- an operation takes what waits
  pub taken_line : (from : List From) → SettlesHere x labels g rest (L.Own (W.TakenUp node) from)
  taken_line from y =
      let line : BlockLine = plain (L.Own (W.TakenUp node) from) in
      let next : List WordInstr = code_behind x.table x.blocks (body_of g) rest in
      let l = leaves x g line rest y node w is next in
      all_settles x (starts g line rest) rest g.call.temps from
      (λ (xs : List Operand). Passes (Answers [] 1 g.call.temps (with_none_waiting g.world g.call.site.level node)))
      (λ xs. goes_from x (low x.table x.blocks (starts g line rest)) (starts g line rest)
      (changed g rest g.call.temps l.vars g.memory g.words g.awaits (with_none_waiting g.world g.call.site.level node)) rest
      (l.good rest (stands_next x.table x.blocks (body_of g) line rest y.stands)) 1 1 g.call.temps (with_none_waiting g.world g.call.site.level node)
      (subst (λ o. Runs x.live (all_procs x) 1 (at (within x.table x.blocks g) g.memory (leaves_code o next) g.call.vars g.words)
      (at (within x.table x.blocks g) g.memory next l.vars g.words)) (sym is) l.runs)
      (omega arith) (omega arith) refl)

  -- the value of a call waits
  pub waits_line : (t : ℕ) → (y : IsGood x (starts g (plain (L.Own (W.Waits node) (F.Value t ∷ []))) rest))
      → MayWait x g (plain (L.Own (W.Waits node) (F.Value t ∷ []))) rest y node w is t → w.bytes % 4 ≡ 0 → 4 ≤ w.bytes → g.call.site.base + w.at < 2 ^ 32
      → ((v : Value) → of_numbers (looked x.table g.call.site (of_waiting node)) ≡ true → has_shape v (looked x.table g.call.site (of_waiting node)) ≡ true)
      → (work : ℕ) → 11 + 2 * w.bytes ≤ 16 * work → (v : Value) → g.call.temps.values t ≡ Some v
      → Settles x (starts g (plain (L.Own (W.Waits node) (F.Value t ∷ []))) rest) rest
      (Passes (Answers [] work g.call.temps (with_one_waiting g.world g.call.site.level node (Holds v))))
  waits_line t y may whole some near shaped work enough v has =
      let line : BlockLine = plain (L.Own (W.Waits node) (F.Value t ∷ [])) in
      let next : List WordInstr = code_behind x.table x.blocks (body_of g) rest in
      let r = waits x g line rest y node w is t may v has whole some near (shaped v) next in
      let few = r.few in
      goes_from x (low x.table x.blocks (starts g line rest)) (starts g line rest)
      (changed g rest g.call.temps r.vars r.memory r.words r.awaits (with_one_waiting g.world g.call.site.level node (Holds v))) rest
      (r.good rest (stands_next x.table x.blocks (body_of g) line rest y.stands)) r.steps work g.call.temps
      (with_one_waiting g.world g.call.site.level node (Holds v))
      (subst (λ o. Runs x.live (all_procs x) r.steps
      (at (within x.table x.blocks g) g.memory (waits_code o (house g.call.site (of_value t)) next) g.call.vars g.words)
      (at (awaiting (within x.table x.blocks g) r.awaits) r.memory next r.vars r.words)) (sym is) r.runs)
      r.some (omega (arith, few, enough)) refl
