use Rattle.std.proofs.Common.{◌∙◌, ◌++◌, ap, ap₂, sym, map}
use Rattle.std.specs.Prelude.{option_map}
use Rattle.nim_meaning.specs.LeftOut.{◌or_then◌, left_out_in_head, left_out_in_block}
use Rattle.nim_program.specs.Folds.{if_declared}
use Rattle.nim_program.specs.View.{declared_of, param_of, stmts_of}
use Rattle.program_limits.specs.Known.{known_types, known_facts}
use Rattle.program_limits.proofs.Firsts.{or_assoc, head_append}
use Rattle.program_limits.proofs.plain.of_body.Goals as goal

pub returns : goal.returns
returns c =
    let ts = known_types c.args.known.now in
    let facts = known_facts c.args.known.now in
    let body = c.args.body.now in
    let places = map (λ param. param.place) (map (param_of ts) c.args.params.now) in
    let result = if_declared (option_map (declared_of ts) body.result) in
    let block = left_out_in_block facts (stmts_of ts body.stmts.items) in
    let n = c.first_number-number.result in
    c.or_then-2.ensures ∙ ap₂ (λ a b. a or_then b) c.of_params.ensures (c.or_then.ensures ∙ ap₂ (λ a b. a or_then b) c.of_result.ensures c.of_block.ensures) ∙
    sym (or_assoc (left_out_in_head facts n places) (left_out_in_head facts n result) block) ∙
    ap (λ x. x or_then block) (sym (head_append facts n places result)) ∙
    ap (λ m. left_out_in_head facts m (places ++ result) or_then block) (c.first_number-number.ensures ts)
