use Rattle.std.proofs.Common.{◌≡◌, ◌∙◌, ℕ, List, [], drop, Option, ap, Some}
use Rattle.arc_base.specs.declared.outside.Stream.{Stream}
use Rattle.arc_base.specs.Event.{writes}
use Rattle.arc_base.specs.Stepping.{Goes}
use Rattle.rv32_isa.specs.Machine.{Lives}
use Rattle.word_code.specs.declared.word.WordProc.{WordProc}
use Rattle.word_code.specs.Memory.{bytes_at}
use Rattle.word_runner.specs.Acts.{May, did}
use Rattle.word_runner.specs.declared.act.Act.TheVariants as A
use Rattle.word_runner.specs.declared.state.Run.{Run}
use Rattle.word_code.specs.Words.{scene_of, settled, shows}
use Rattle.word_runner.specs.View.{proc_in, space_is, state_is}
use Rattle.word_runner.proofs.StepRows.{kept_same}
use Rattle.word_runner.proofs.step.write.Goals as goal

-- what is written
said : (procs : List WordProc) (live : Lives) (rest : List ℕ) (run : Run) (next : ℕ) (stream : Stream) (address len : ℕ) (on : Stream) → stream ≡ on
    → May run.space (A.Writes stream address len) → (bytes : List ℕ) × (bytes_at (space_is run.space) address len ≡ Some bytes)
    × (settled live procs [] (state_is procs run rest) (drop next (proc_in procs run.frame.proc).lines)
    (did (scene_of (state_is procs run rest)) (A.Writes stream address len))
    ≡ Goes (writes on bytes) 1 (state_is procs (record run { frame = record run.frame { at = next } }) rest))
said procs live rest run next stream address len on e h =
    let s = state_is procs run rest in
    let lines = drop next (proc_in procs run.frame.proc).lines in (
      h.0,
      h.1,
      ap (λ (o : Option (List ℕ)). settled live procs [] s lines (shows (scene_of s) stream o)) h.1
          ∙ ap (λ (stream : Stream). settled live procs [] s lines (shows (scene_of s) stream (Some h.0))) e,
    )

pub returns-in-Out : goal.returns-in-Out
returns-in-Out c =
    λ procs. record {
      follows = λ live rest ends. said procs live rest c.args.run.now c.args.next c.args.stream c.args.address c.args.len _ c.in-Out.is c.requires;
      wants = tt;
      kept = kept_same _;
    }

pub returns-in-Err : goal.returns-in-Err
returns-in-Err c =
    λ procs. record {
      follows = λ live rest ends. said procs live rest c.args.run.now c.args.next c.args.stream c.args.address c.args.len _ c.in-Err.is c.requires;
      wants = tt;
      kept = kept_same _;
    }
