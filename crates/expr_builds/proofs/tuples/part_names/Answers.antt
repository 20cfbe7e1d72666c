use Rattle.std.proofs.Common.{sym, ap, ◌∙◌, arith}
use Rattle.std.specs.Option.{option_copied}
use Rattle.nim_tree.specs.Terms.{parts_of}
use Rattle.indent_scanner.specs.Words.{normal}
use Rattle.expr_rules.specs.Constructions.{part_names}
use Rattle.expr_builds.proofs.Tupling.{one_name, all_names}
use Rattle.expr_builds.proofs.tuples.part_names.Goals as goal

pub loop-part-preserved : goal.loop-part-preserved
loop-part-preserved c =
    let at = c.loop-part in
    one_name at.names _ c.args.parts.now at.part-index c.part-item.result c.in-Some.text.now _ c.part-item.is c.loop-part-test.true
    (sym c.part_name.ensures ∙ ap option_copied c.in-Some.is) (c.in_ok-name.ensures ∙ ap normal c.as_slice.ensures) c.in_ok-push.ensures.ok
    ∙ at.invariant

pub returns-clause-names : goal.returns-clause-names
returns-clause-names c =
    let at = c.loop-part in
    all_names at.names (part_names (parts_of c.args.parts.now)) c.args.parts.now at.part-index (omega (arith, c.loop-part-test.false)) at.invariant
