use Rattle.std.proofs.Common.{[], sym, subst, ◌∙◌, arith}
use Rattle.parse_exprs.specs.Input.{origin_of, from_at}
use Rattle.std.specs.Prelude.{map}
use Rattle.nim_tree.specs.Statements.{definition_of}
use Rattle.parse_decls.specs.Run.{run_defs}
use Rattle.parse_decls.specs.Gives.{Comes}
use Rattle.parse_decls.proofs.Coming.{comes_leads, leads_unless}
use Rattle.parse_decls.proofs.define.read_definition_block.Goals as goal

pub returns : goal.returns
returns c =
    comes_leads (λ all. map definition_of all.items) _ _ c.args.input.now c.args.at (leads_unless _ _ (sym c.deeper_at.ensures ∙ c.if-not-deeper_at.false))
    c.args.at (omega arith) c.read_definitions.result
    (subst (λ n. Comes (λ all. map definition_of all.items) (λ k. run_defs k (origin_of c.args.input.now) n [] (from_at c.args.input.now c.args.at))
    c.args.input.now c.args.at c.read_definitions.result) c.level_at-level.ensures c.read_definitions.ensures)
