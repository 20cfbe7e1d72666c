use Rattle.std.proofs.Common.{[], sym, ap, subst, ◌∙◌, arith}
use Rattle.std.proofs.lemmas.Result.{err_from_is_err_and}
use Rattle.parse_exprs.specs.Input.{origin_of, from_at}
use Rattle.std.specs.Prelude.{map}
use Rattle.nim_tree.specs.Types.{declaration_of}
use Rattle.parse_decls.specs.Run.{run_declarations}
use Rattle.parse_decls.specs.Gives.{Comes}
use Rattle.parse_decls.proofs.Coming.{fails_then, fails_leads, comes_leads, leads_on, leads_then, leads_if, leads_else, found, found_is}
use Rattle.parse_decls.proofs.Repeats.{only_one}
use Rattle.parse_decls.proofs.declare.read_types.Goals as goal

pub returns-then-deeper_at : goal.returns-then-deeper_at
returns-then-deeper_at c =
    comes_leads (λ all. map declaration_of all.items) _ _ c.args.input.now c.args.at (leads_if _ _ (sym c.deeper_at.ensures ∙ c.if-deeper_at.true)) c.args.at
    (omega arith) c.read_declarations.result
    (subst (λ n. Comes (λ all. map declaration_of all.items) (λ k. run_declarations k (origin_of c.args.input.now) n [] (from_at c.args.input.now c.args.at))
    c.args.input.now c.args.at c.read_declarations.result) c.level_at-level.ensures c.read_declarations.ensures)

pub returns-in_err-one : goal.returns-in_err-one
returns-in_err-one c =
    let p = err_from_is_err_and c.from_residual.result c.from_residual.ensures.1 in
    rw (p.1, p.2) (fails_leads _ _ _ (leads_else _ _ (sym c.deeper_at.ensures ∙ c.if-deeper_at.false)) _ (fails_then _ _ _ _ c.in_err-one.ensures))

pub returns : goal.returns
returns c =
    let g = c.in_ok-one.ensures.goes in
    found_is (ap (map declaration_of) (only_one _ c.in_ok-and_one.ensures.ok c.new.ensures.items))
    (found _ _ (leads_on (leads_then _ c.in_ok-one.ensures.runs) (leads_else _ _ (sym c.deeper_at.ensures ∙ c.if-deeper_at.false)))
    (omega (arith, g)) c.in_ok-one.ensures.within)
