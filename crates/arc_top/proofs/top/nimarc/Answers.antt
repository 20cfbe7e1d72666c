use Rattle.std.proofs.Common.{◌≡◌, map, ap, subst}
use Rattle.std.specs.Prelude.{string_bytes}
use Rattle.rv32_runner.specs.Streams.{feed, tally, streams}
use Rattle.command_words.specs.Command.{command_of}
use Rattle.arc_top.specs.Loads.{files_state}
use Rattle.arc_top.specs.Top.{Carries, WithoutStreams, world}
use Rattle.arc_top.proofs.Commands.{quiet_so}
use Rattle.arc_top.proofs.top.nimarc.Goals as goal

pub returns-in-Some-clause-carries : goal.returns-in-Some-clause-carries
returns-in-Some-clause-carries g c =
    let F = g.F.Files in
    let I = g.I.Source in
    let O = g.O.Sink in
    let E = g.E.Sink in
    let old = c.args in
    let mid = c.carry_out-answer.new in
    let new = c.say.new in
    let answer = c.carry_out-answer.result in
    let before = world (files_state (F.held old.files.now) (F.load_faults old.files.now) (F.store_faults old.files.now) (F.calls old.files.now))
    (streams (feed (I.left old.input.now) (I.ended old.input.now) (I.faults old.input.now) (I.gave old.input.now))
    (tally (O.written old.out.now) (O.faults old.out.now)) (tally (E.written old.err.now) (E.faults old.err.now))) in
    let after = world (files_state (F.held mid.files) (F.load_faults mid.files) (F.store_faults mid.files) (F.calls mid.files))
    (streams (feed (I.left mid.input) (I.ended mid.input) (I.faults mid.input) (I.gave mid.input))
    (tally (O.written mid.out) (O.faults mid.out)) (tally (E.written new.err) (E.faults new.err))) in
    let carries : Carries (command_of c.in-Some.command) answer before after = record {
      err = tally (E.written mid.err) (E.faults mid.err);
      answered = c.carry_out-answer.ensures.answered;
      said = c.say.ensures.said;
      quiet = quiet_so answer (new.err ≡ mid.err) (tally (E.written new.err) (E.faults new.err) ≡ tally (E.written mid.err) (E.faults mid.err))
          (ap (λ err. tally (E.written err) (E.faults err))) c.say.ensures.quiet;
    } in
    λ command is.
    subst (λ k. Carries k answer before after)
    (c.one_command.ensures.one (map string_bytes c.args.words.now) (command_of c.in-Some.command) command c.in-Some.ensures.some is) carries

pub returns-in-Some-clause-streams : goal.returns-in-Some-clause-streams
returns-in-Some-clause-streams g c =
    let old = c.args in
    let new = c.carry_out-answer.new in
    λ command is.
    subst (λ k. WithoutStreams k ((new.input ≡ old.input.now) × (new.out ≡ old.out.now)))
    (c.one_command.ensures.one (map string_bytes c.args.words.now) (command_of c.in-Some.command) command c.in-Some.ensures.some is)
    c.carry_out-answer.ensures.streams
