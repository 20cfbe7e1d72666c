use Rattle.std.proofs.Common.{◌≤◌, length, rules}
use Rattle.std.proofs.lemmas.Result.{err_from_is_err_and}
use Rattle.source_compiler.specs.Compile.{source_most}
use Rattle.source_compiler.proofs.Reading.{reads_alone}
use Rattle.source_compiler.proofs.Taking.{never_refused, turned_down, no_long, for_limits, down_by_reading}
use Rattle.source_compiler.proofs.source.typed.Goals as goal

pub returns-in_err-read-clause-too_long : goal.returns-in_err-read-clause-too_long
returns-in_err-read-clause-too_long c =
    let p = err_from_is_err_and c.from_residual.result c.from_residual.ensures.1 in
    rw p.1 (no_long c.args.source.now p.0 _ p.2)

pub returns-in_err-read-clause-refused : goal.returns-in_err-read-clause-refused
returns-in_err-read-clause-refused c =
    let source = c.args.source.now in
    let within : length source ≤ source_most = search rules in
    let p = err_from_is_err_and c.from_residual.result c.from_residual.ensures.1 in
    rw p.1 (turned_down source p.0 _ within p.2 (down_by_reading source _ c.in_err-read.ensures.refused))

pub returns-in_err-read-clause-complete : goal.returns-in_err-read-clause-complete
returns-in_err-read-clause-complete c =
    let source = c.args.source.now in
    let within : length source ≤ source_most = search rules in
    let p = err_from_is_err_and c.from_residual.result c.from_residual.ensures.1 in
    let said = turned_down source p.0 _ within p.2 (down_by_reading source _ c.in_err-read.ensures.refused) in
    λ limits name is. never_refused c.from_residual.result limits name source c.one_answer.ensures.not_both
    (rw p.1 (no_long source p.0 _ p.2)) (rw p.1 (for_limits limits source p.0 said)) is

pub returns-clause-reads : goal.returns-clause-reads
returns-clause-reads c = λ name. reads_alone name c.args.source.now _ c.in_ok-read.ensures.reads
