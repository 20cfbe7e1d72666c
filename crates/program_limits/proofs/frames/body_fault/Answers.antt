use Rattle.std.proofs.Common.{◌≡◌, ◌∙◌, ◌++◌, false, ap, ap₂, sym, map, arith, Some, if◌then◌else◌}
use Rattle.std.specs.Prelude.{nat_lt}
use Rattle.std.proofs.lemmas.Bool.{le-ltb}
use Rattle.nim_program.specs.declared.sizes.TheConstants.{MOST_BYTES}
use Rattle.nim_program.specs.Folds.{param_places, if_declared, total_of, firsts}
use Rattle.nim_program.specs.Sizes.{body_sum}
use Rattle.nim_program.specs.View.{declared_of, param_of, body_of}
use Rattle.nim_meaning.specs.LeftOut.{◌or_then◌, first_of}
use Rattle.program_limits.specs.Known.{known_types, known_facts}
use Rattle.program_limits.specs.Frames.{deep_place, own_deep}
use Rattle.program_limits.proofs.Firsts.{deep_append}
use Rattle.program_limits.proofs.frames.body_fault.Goals as goal

pub returns : goal.returns
returns c =
    let known = c.args.around.now.known.now in
    let ts = known_types known in
    let facts = known_facts known in
    let params = map (param_of ts) c.args.params.now in
    let globals = map (declared_of ts) c.args.around.now.globals.now in
    let body = body_of ts c.args.body.now in
    let head = param_places params in
    let result = if_declared body.result in
    let deep = total_of firsts (own_deep facts) body.stmts in
    let number = c.first_number-number.result in
    let small : nat_lt MOST_BYTES (body_sum facts globals params body) ≡ false =
    le-ltb MOST_BYTES (body_sum facts globals params body) (omega (arith, c.if-bytes-gt-MOST_BYTES.false, c.body_bytes-bytes.ensures)) in
    c.or_then-2.ensures ∙ (ap₂ (λ a b. a or_then b)
    (c.or_then.ensures ∙ (ap₂ (λ a b. a or_then b) c.deep_params.ensures c.deep_result.ensures ∙ sym (deep_append facts number head result)))
    c.find_in_block.ensures
    ∙ (ap (λ n. deep_place facts n (head ++ result) or_then deep) (c.first_number-number.ensures ts)
    ∙ sym (ap (λ b. if b then Some c.args.whole else (deep_place facts (first_of body.stmts) (head ++ result) or_then deep)) small)))
