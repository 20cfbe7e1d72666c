use Rattle.std.proofs.Common.{◌++◌, ap, ◌∙◌}
use Rattle.std.proofs.lemmas.Result.{on_ok_weaker}
use Rattle.rv32_isa.specs.Words.{word_bytes}
use Rattle.rv32_codegen.proofs.LayoutImages.{one_instr}
use Rattle.rv32_codegen.proofs.layout.push_instr.Goals as goal

pub returns : goal.returns
returns c =
    let old = c.args.bytes.now in
    on_ok_weaker c.push_word.result
    (λ e. one_instr c.args.i old c.push_word.new.bytes (e ∙ ap (λ n. old ++ word_bytes n) c.encode.ensures.word)) c.push_word.ensures
