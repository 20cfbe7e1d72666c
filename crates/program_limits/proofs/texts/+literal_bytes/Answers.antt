use Rattle.std.proofs.Common.{◌≡◌, ◌∙◌, ◌++◌, sym, ap, subst}
use Rattle.std.specs.Prelude.{OnOk}
use Rattle.nim_program.specs.View.{literal_of}
use Rattle.nim_program.proofs.ForCallers.{parts_of}
use Rattle.program_limits.specs.Data.{literal_bytes}
use Rattle.program_limits.proofs.texts.+literal_bytes.Goals as goal

pub push_literal-returns-in-Parts : goal.push_literal-returns-in-Parts
push_literal-returns-in-Parts t c =
    let whole = ap literal_of c.in-Parts.is ∙ parts_of c.in-Parts.all in
    subst (λ l. OnOk c.push_parts.result (c.push_parts.new.bytes ≡ c.args.bytes.now ++ literal_bytes l)) (sym whole) c.push_parts.ensures
