use Rattle.std.proofs.Common.{◌≡◌, ℕ, List, [], refl, sym, subst, ◌∙◌}
use Rattle.std.specs.Prelude.{IsTrue}
use Rattle.arc_base.specs.Outside.{Rose}
use Rattle.rv32_isa.specs.Machine.{Lives}
use Rattle.word_runner.specs.Holding.{Holding, machine}
use Rattle.word_runner.specs.Sinks.{told}
use Rattle.word_runner.specs.Steps.{Kept}
use Rattle.word_runner.specs.declared.state.Input.{Input}
use Rattle.word_runner.proofs.Sinks.{ends, err_fails, faults, holding_goes, holding_says, holding_warns, no_memory, out_fails, waits}
use Rattle.word_runner.proofs.StepRows.{kept_same, kept_then}
use Rattle.word_runner.proofs.Work.{falls, none_live, stops_on, word_lines}
use Rattle.word_runner.proofs.mean.go.Goals as goal

-- a count that rose from where it stood before
rises : {k n i : ℕ} → k ≡ n → Rose k i → Rose n i
rises {k} {n} {i} e r = subst (λ q. Rose q i) e r

-- where the input had ended before, it has ended now
unended : (old now : Input) → Kept old now → (rest : List ℕ) → (IsTrue old.ended → rest ≡ []) → IsTrue now.ended → rest ≡ []
unended old now kept rest ends e = ends (subst IsTrue kept.ended e)

pub lines-init : goal.lines-init
lines-init g c =
    record { holds = λ live rest ends shown a b m n h. h; stops = c.requires.1.1.1.1; kept = kept_same _ }

pub lines-preserved-in-Goes : goal.lines-preserved-in-Goes
lines-preserved-in-Goes g c =
    let procs = c.args.procs.now in
    let i = c.lines.invariant in
    let went = λ (live : Lives) (rest : List ℕ) (ends : IsTrue c.args.run.now.input.ended → rest ≡ []).
    (rw c.in-Goes.is at (c.step.ensures.follows live rest (unended _ _ i.kept rest ends))) in
    record {
      holds = λ live rest ends shown a b m n h.
          let k = went live rest ends in holding_goes (machine live procs) shown _ _ k.0 _ _ (i.holds live rest ends shown a b m n h) k.2 k.1;
      stops = λ live. let k = went live [] (λ e. refl) in stops_on (machine live procs) g.most _ _ k.0 1 (i.stops live) k.2;
      kept = kept_then _ _ _ i.kept c.step.ensures.kept;
    }

pub lines-smaller-in-Goes : goal.lines-smaller-in-Goes
lines-smaller-in-Goes g c =
    let procs = c.args.procs.now in
    let i = c.lines.invariant in
    let k = rw c.in-Goes.is at (c.step.ensures.follows none_live [] (unended _ _ i.kept [] (λ e. refl))) in
    falls (machine none_live procs) (word_lines none_live procs) g.most _ _ k.0 (i.stops none_live) k.2

pub lines-preserved-in-Ok : goal.lines-preserved-in-Ok
lines-preserved-in-Ok g c =
    let procs = c.args.procs.now in
    let i = c.lines.invariant in
    let went = λ (live : Lives) (rest : List ℕ) (ends : IsTrue c.args.run.now.input.ended → rest ≡ []).
    (rw c.in-Says.is at (c.step.ensures.follows live rest (unended _ _ i.kept rest ends))) in
    record {
      holds = λ live rest ends shown a b m n h.
          let k = went live rest ends in
          let put = c.in-Ok.ensures k.0 k.1 in
          holding_says (machine live procs) shown _ _ _ _ _ _ _ _ k.0 put.0 put.1 _ (i.holds live rest ends shown a b m n h) k.2;
      stops = λ live. let k = went live [] (λ e. refl) in stops_on (machine live procs) g.most _ _ _ 1 (i.stops live) k.2;
      kept = kept_then _ _ _ i.kept c.step.ensures.kept;
    }

pub lines-smaller-in-Ok : goal.lines-smaller-in-Ok
lines-smaller-in-Ok g c =
    let procs = c.args.procs.now in
    let i = c.lines.invariant in
    let k = rw c.in-Says.is at (c.step.ensures.follows none_live [] (unended _ _ i.kept [] (λ e. refl))) in
    falls (machine none_live procs) (word_lines none_live procs) g.most _ _ _ (i.stops none_live) k.2

pub returns-in-Err-clause-goes : goal.returns-in-Err-clause-goes
returns-in-Err-clause-goes g c =
    let procs = c.args.procs.now in
    let i = c.lines.invariant in
    λ live rest ends shown a b m n h.
    let k = rw c.in-Says.is at (c.step.ensures.follows live rest (unended _ _ i.kept rest ends)) in
    let put = c.in-Err.ensures k.0 k.1 in
    let held = i.holds live rest ends shown a b m n h in
    out_fails (machine live procs) shown _ _ _ _ _ _ _ _ _ k.0 put.0.1 (rises held.output.faults put.1) _ held k.2

pub lines-preserved : goal.lines-preserved
lines-preserved g c =
    let procs = c.args.procs.now in
    let i = c.lines.invariant in
    let went = λ (live : Lives) (rest : List ℕ) (ends : IsTrue c.args.run.now.input.ended → rest ≡ []).
    (rw c.in-Warns.is at (c.step.ensures.follows live rest (unended _ _ i.kept rest ends))) in
    record {
      holds = λ live rest ends shown a b m n h.
          let k = went live rest ends in
          let put = c.in-Ok-put_bytes.ensures k.0 k.1 in
          holding_warns (machine live procs) shown _ _ _ _ _ _ _ _ k.0 put.0 put.1 _ (i.holds live rest ends shown a b m n h) k.2;
      stops = λ live. let k = went live [] (λ e. refl) in stops_on (machine live procs) g.most _ _ _ 1 (i.stops live) k.2;
      kept = kept_then _ _ _ i.kept c.step.ensures.kept;
    }

pub lines-smaller : goal.lines-smaller
lines-smaller g c =
    let procs = c.args.procs.now in
    let i = c.lines.invariant in
    let k = rw c.in-Warns.is at (c.step.ensures.follows none_live [] (unended _ _ i.kept [] (λ e. refl))) in
    falls (machine none_live procs) (word_lines none_live procs) g.most _ _ _ (i.stops none_live) k.2

pub returns-in-Err-put_bytes-clause-goes : goal.returns-in-Err-put_bytes-clause-goes
returns-in-Err-put_bytes-clause-goes g c =
    let procs = c.args.procs.now in
    let i = c.lines.invariant in
    λ live rest ends shown a b m n h.
    let k = rw c.in-Warns.is at (c.step.ensures.follows live rest (unended _ _ i.kept rest ends)) in
    let put = c.in-Err-put_bytes.ensures k.0 k.1 in
    let held = i.holds live rest ends shown a b m n h in
    err_fails (machine live procs) shown _ _ _ _ _ _ _ _ _ k.0 put.0.1 (rises held.errors.faults put.1) _ held k.2

pub returns-in-Ends-clause-goes : goal.returns-in-Ends-clause-goes
returns-in-Ends-clause-goes g c =
    let procs = c.args.procs.now in
    let i = c.lines.invariant in
    λ live rest ends' shown a b m n h.
    let k = rw c.in-Ends.is at (c.step.ensures.follows live rest (unended _ _ i.kept rest ends')) in ends (machine live procs) shown _ _ k.0 _ _
    (i.holds live rest ends' shown a b m n h) k.1

pub returns-in-Waits-clause-goes : goal.returns-in-Waits-clause-goes
returns-in-Waits-clause-goes g c =
    let procs = c.args.procs.now in
    let i = c.lines.invariant in
    λ live rest ends shown a b m n h. waits (machine live procs) shown _ _ _ (i.holds live rest ends shown a b m n h)
    (rw c.in-Waits.is at (c.step.ensures.follows live rest (unended _ _ i.kept rest ends)))

pub returns-in-Faults-clause-goes : goal.returns-in-Faults-clause-goes
returns-in-Faults-clause-goes g c =
    let procs = c.args.procs.now in
    let i = c.lines.invariant in
    λ live rest ends shown a b m n h. faults (machine live procs) shown _ _ _ (i.holds live rest ends shown a b m n h)
    (rw c.in-Faults.is at (c.step.ensures.follows live rest (unended _ _ i.kept rest ends)))

pub returns-in-Memory-clause-goes : goal.returns-in-Memory-clause-goes
returns-in-Memory-clause-goes g c =
    let procs = c.args.procs.now in
    let i = c.lines.invariant in
    λ live rest ends shown a b m n h. no_memory (machine live procs) shown _ _ _ (i.holds live rest ends shown a b m n h)

pub returns-in-Wants-clause-goes : goal.returns-in-Wants-clause-goes
returns-in-Wants-clause-goes g c =
    let procs = c.args.procs.now in
    let i = c.lines.invariant in
    λ live rest ends shown a b m n h.
    let same = rw c.in-Wants.is at (c.step.ensures.follows live rest (unended _ _ i.kept rest ends)) in
    subst (λ s. Holding (machine live procs) shown s (told a (g.O.Sink.written c.lines.out) m (g.O.Sink.faults c.lines.out))
    (told b (g.E.Sink.written c.lines.err) n (g.E.Sink.faults c.lines.err))) (sym same) (i.holds live rest ends shown a b m n h)

pub returns-in-Wants-clause-wants : goal.returns-in-Wants-clause-wants
returns-in-Wants-clause-wants g c = c.step.ensures.kept.ended ∙ (rw c.in-Wants.is at c.step.ensures.wants)

pub step-requires-clause-within : goal.step-requires-clause-within
step-requires-clause-within g c = c.lines.invariant.kept.within c.requires.1.1.1.0
