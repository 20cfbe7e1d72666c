use Rattle.std.proofs.Common.{◌<◌, ◌≤◌, ap, ◌∙◌, arith}
use Rattle.std.specs.Prelude.{length}
use Rattle.std.proofs.lemmas.List.{take_all}
use Rattle.nim_program.specs.View.{literals_of}
use Rattle.expr_rules.specs.Constants.{with_values}
use Rattle.expr_constants.specs.ViewConstants.{field_values}
use Rattle.expr_constants.proofs.ConstantFields.{one_field_more}
use Rattle.nim_types.proofs.ForCallers.{index_get, one_below}
use Rattle.expr_constants.proofs.defaults.field_literals.Goals as goal

pub loop-i-preserved : goal.loop-i-preserved
loop-i-preserved c =
    let at = c.loop-i in
    let parts = c.args.parts.now in
    let lt : at.i < length parts = omega (arith, c.loop-i-test.true, at.invariant.end) in
    record {
      end = at.invariant.end;
      same = λ ts facts u.
          one_field_more facts ts parts at.i _
          (with_values c.args.fields.now (literals_of c.args.values.now)) _ at.all.items c.in_ok-literal.literal (index_get parts at.i lt)
          c.in_ok-push.ensures.items (at.invariant.same ts facts u) (c.in_ok-literal.ensures ts facts u);
    }

pub returns : goal.returns
returns c = λ ts facts u.
    let at = c.loop-i in
    let parts = c.args.parts.now in
    let all : length parts ≤ at.i = omega (arith, c.loop-i-test.false, at.invariant.end) in
    at.invariant.same ts facts u ∙ ap (λ ps. field_values facts ts 0 ps (with_values c.args.fields.now (literals_of c.args.values.now)))
    (take_all at.i parts all)

pub field_literal-requires-clause-ty : goal.field_literal-requires-clause-ty
field_literal-requires-clause-ty c =
    let at = c.loop-i in
    let parts = c.args.parts.now in
    let lt : at.i < length parts = omega (arith, c.loop-i-test.true, at.invariant.end) in
    one_below (length c.args.types.now) parts at.i _ c.requires (index_get parts at.i lt)
