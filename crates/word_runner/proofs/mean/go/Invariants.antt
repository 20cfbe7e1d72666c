use Rattle.std.proofs.Common.{◌≡◌, ℕ, suc, List, []}
use Rattle.arc_base.specs.Behaviour.{Behaviour}
use Rattle.arc_base.specs.Event.{Event}
use Rattle.rv32_isa.specs.Machine.{Lives}
use Rattle.std.specs.Prelude.{IsTrue, Option}
use Rattle.word_runner.specs.Holding.{Holding, StopsWithin, machine}
use Rattle.word_runner.specs.Sinks.{told}
use Rattle.word_runner.specs.Steps.{Kept}
use Rattle.word_runner.specs.View.{state_is}
use Rattle.word_runner.proofs.Work.{none_live, work_in}
use Rattle.word_runner.proofs.mean.go.Given as goal

pub record Goes (A B C : Type 0) : Type 0 where
  pub holds : A
  pub stops : B
  pub kept : C

abbrev pub invariant-lines : goal.invariant-lines
invariant-lines g l =
    Goes ((live : Lives) (rest : List ℕ) → (IsTrue l.initial.run.input.ended → rest ≡ []) → (shown : Behaviour Event) (a b : Option (List ℕ)) (m n : ℕ)
    → Holding (machine live l.procs) shown (state_is l.procs l.initial.run rest) (told a (g.O.Sink.written l.initial.out) m (g.O.Sink.faults l.initial.out))
    (told b (g.E.Sink.written l.initial.err) n (g.E.Sink.faults l.initial.err))
    → Holding (machine live l.procs) shown (state_is l.procs l.run rest) (told a (g.O.Sink.written l.out) m (g.O.Sink.faults l.out))
    (told b (g.E.Sink.written l.err) n (g.E.Sink.faults l.err)))
    ((live : Lives) → StopsWithin (machine live l.procs) (state_is l.procs l.run []) g.most)
    (Kept l.initial.run.input l.run.input)

abbrev pub decreases-lines : goal.decreases-lines
decreases-lines g l = work_in (machine none_live l.procs) (suc g.most) (state_is l.procs l.run [])
