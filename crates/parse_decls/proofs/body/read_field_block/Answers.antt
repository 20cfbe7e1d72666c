use Rattle.std.proofs.Common.{sym, ap, subst, ◌∙◌, arith}
use Rattle.parse_exprs.specs.Input.{origin_of, from_at}
use Rattle.nim_tree.specs.Types.{fields_of, no_fields}
use Rattle.parse_decls.specs.Run.{run_fields}
use Rattle.parse_decls.specs.Gives.{Comes}
use Rattle.parse_decls.proofs.Coming.{comes_leads, leads_if, none_found}
use Rattle.parse_decls.proofs.body.read_field_block.Goals as goal

pub returns-then-not-deeper_at : goal.returns-then-not-deeper_at
returns-then-not-deeper_at c = none_found c.args.input.now c.args.at _ (ap fields_of c.new.ensures.items) (sym c.deeper_at.ensures ∙ c.if-not-deeper_at.true)
    c.requires.within

pub returns : goal.returns
returns c =
    comes_leads (λ all. fields_of all.items) _ _ c.args.input.now c.args.at (leads_if _ _ (sym c.deeper_at.ensures ∙ c.if-not-deeper_at.false)) c.args.at
    (omega arith) c.read_fields.result
    (subst (λ n. Comes (λ all. fields_of all.items) (λ k. run_fields k (origin_of c.args.input.now) n no_fields (from_at c.args.input.now c.args.at))
    c.args.input.now c.args.at c.read_fields.result) c.level_at-level.ensures c.read_fields.ensures)
