use Rattle.std.proofs.Common.{suc, sym, ap, ◌∙◌}
use Rattle.parse_exprs.specs.declared.layout.Layout.TheVariants.{Lines}
use Rattle.parse_exprs.specs.Look.{branch_at}
use Rattle.parse_exprs.specs.Input.{from_at}
use Rattle.parse_stmts.specs.Marks.{is_word}
use Rattle.parse_stmts.proofs.marks.branch_on.Goals as goal

pub returns-then-is_branch : goal.returns-then-is_branch
returns-then-is_branch c =
    let input = c.args.input.now in
    record {
      tok = c.in-Some.token;
      head = c.in-Some.ensures.some;
      is = ap (branch_at (Lines c.args.spaces) (is_word c.args.word)) c.in-Some.ensures.some ∙ sym (c.is_branch.ensures (from_at input (suc c.args.at)))
          ∙ c.if-is_branch.true;
      stands = c.place_at.ensures;
      within = c.in-Some.ensures.within;
    }

pub returns-else-is_branch : goal.returns-else-is_branch
returns-else-is_branch c =
    let input = c.args.input.now in
    ap (branch_at (Lines c.args.spaces) (is_word c.args.word)) c.in-Some.ensures.some ∙ sym (c.is_branch.ensures (from_at input (suc c.args.at)))
    ∙ c.if-is_branch.false
