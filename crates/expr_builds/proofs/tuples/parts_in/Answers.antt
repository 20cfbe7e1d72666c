use Rattle.std.proofs.Common.{sym, ap, ◌∙◌}
use Rattle.std.specs.Prelude.{map}
use Rattle.nim_types.specs.Table.{type_at, meant}
use Rattle.expr_rules.specs.Answers.{inner}
use Rattle.expr_builds.specs.ViewBuilt.{wants_of}
use Rattle.expr_builds.proofs.Tupling.{wants_are}
use Rattle.expr_builds.proofs.tuples.parts_in.Goals as goal

pub returns-in-Tuple-clause-means : goal.returns-in-Tuple-clause-means
returns-in-Tuple-clause-means c = λ ts.
    ap (λ d. wants_of (meant ts d)) c.in-Tuple.is ∙ wants_are ts c.in-Tuple.parts ∙ ap (map (λ id. inner (type_at ts id))) (sym c.as_slice.ensures)
