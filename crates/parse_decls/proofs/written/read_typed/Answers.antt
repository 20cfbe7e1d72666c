use Rattle.std.proofs.Common.{suc, ◌+◌, sym, ◌∙◌, arith}
use Rattle.nim_tree.specs.Types.{written_of}
use Rattle.parse_decls.proofs.Coming.{fails_leads, fails_stuck, comes_leads, leads_on, leads_unless, leads_past}
use Rattle.parse_decls.proofs.TypeSteps.{typed_run}
use Rattle.parse_decls.proofs.written.read_typed.Goals as goal

pub returns-then-not-stays : goal.returns-then-not-stays
returns-then-not-stays c =
    let l = leads_past c.args.input.now c.args.at (typed_run c.args.input.now c.args.layout) (sym c.colon_at.ensures ∙ c.if-not-colon_at.false) in
    fails_leads _ _ _ l _ (fails_stuck _ _ _ (sym c.stays.ensures ∙ c.if-not-stays.true) _ c.stuck-then-not-stays.ensures)

pub returns : goal.returns
returns c =
    let l = leads_past c.args.input.now c.args.at (typed_run c.args.input.now c.args.layout) (sym c.colon_at.ensures ∙ c.if-not-colon_at.false) in
    comes_leads written_of _ _ c.args.input.now (suc c.args.at) (leads_on (leads_unless _ _ (sym c.stays.ensures ∙ c.if-not-stays.false)) l)
    (suc (c.args.at + 1)) (omega arith) c.read_written.result c.read_written.ensures
