use Rattle.std.proofs.Common.{ap, ◌∙◌, arith}
use Rattle.word_code.specs.Words.{most_chain}
use Rattle.rv32_codegen.specs.Chains.{by_index}
use Rattle.rv32_codegen.proofs.Taken.{call_is, same_taken}
use Rattle.rv32_codegen.proofs.stack.call_size.Goals as goal

pub returns : goal.returns
returns c =
    let procs = c.args.procs.now in
    let index = c.in_ok-index.index in
    call_is procs c.args.sizes.now c.in_ok-taken.taken c.from.result c.from-2.result c.in_ok-taken.ensures (c.from.ensures ∙ c.most_of.ensures)
    (c.from-2.ensures ∙ c.most_chain-chain.ensures ∙ ap (λ t. most_chain (by_index index t) procs) c.as_slice.ensures
    ∙ ap (λ f. most_chain f procs) (same_taken index procs c.in_ok-taken.taken c.in_ok-index.ensures c.in_ok-taken.ensures.long))
    (omega (arith, c.from.ensures, c.most_of.type_inv)) (omega (arith, c.from-2.ensures, c.most_chain-chain.type_inv))
