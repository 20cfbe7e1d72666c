use Rattle.std.proofs.Common.{sym, ◌∙◌, arith}
use Rattle.parse_exprs.proofs.Lines.{begins_line, on_line}
use Rattle.parse_exprs.proofs.input.Input.spaces_at.Goals as goal

pub returns-in-Some : goal.returns-in-Some
returns-in-Some c =
    let i = c.loop-left.invariant in
    sym (begins_line c.loop-left.left c.in-Some.spaces c.args.self.now.tokens.now _ c.loop-left-test.true i.within c.in-Some.is) ∙ i.same

pub loop-left-preserved : goal.loop-left-preserved
loop-left-preserved c =
    let i = c.loop-left.invariant in
    record {
      within = (let h = i.within in omega (arith, h));
      same = on_line c.loop-left.left c.args.self.now.tokens.now _ c.loop-left-test.true i.within c.in-None.is ∙ i.same;
    }
