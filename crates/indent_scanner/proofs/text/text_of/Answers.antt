use Rattle.std.proofs.Common.{take, ◌≤◌, ◌+◌, ◌-◌, length, drop, ap, arith}
use Rattle.std.proofs.lemmas.Result.{IfOk-weaker}
use Rattle.indent_scanner.specs.Meaning.{IsTextOf}
use Rattle.indent_scanner.proofs.Characters.{part_short, part_text}
use Rattle.indent_scanner.proofs.text.text_of.Goals as goal

pub returns-clause-text : goal.returns-clause-text
returns-clause-text c =
    let kind = c.args.token.now.kind in let start = c.args.token.now.start in let len = c.args.token.now.len in let bytes = drop start c.args.source.now in
    IfOk-weaker c.text_in.result _ (λ text. IsTextOf kind (take len bytes) text)
    (λ text is. part_text kind (start + len - start) len bytes text (omega arith) is) c.text_in.ensures

pub returns-clause-short : goal.returns-clause-short
returns-clause-short c =
    let start = c.args.token.now.start in let len = c.args.token.now.len in
    let short = part_short c.args.token.now.kind (start + len - start) (drop start c.args.source.now) in
    IfOk-weaker c.text_in.result _ (λ text. length text ≤ len) (λ text is. let e = ap length is in omega (arith, e, short)) c.text_in.ensures
