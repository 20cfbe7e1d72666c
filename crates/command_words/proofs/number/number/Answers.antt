use Rattle.std.proofs.Common.{◌≡◌, true, false, get_or, sym, ◌∙◌, lit<, arith}
use Rattle.std.proofs.lemmas.Str.Pattern.{starts_char}
use Rattle.command_words.proofs.Spelling.{parsed_ok, parsed_err, number_ok, number_err}
use Rattle.command_words.proofs.number.number.Goals as goal

pub returns-in-Ok : goal.returns-in-Ok
returns-in-Ok c =
    let text = c.args.text.now in
    let plus = starts_char 43 text c.starts_with.result c.starts_with.ensures.cases (lit< tt) (lit< tt) in
    let plain : get_or text 0 0 ≡ 43 → ⊥ = λ e. let clash : true ≡ false = sym (plus.1 e) ∙ c.if-starts_with.false in cc in
    let parsed = parsed_ok text c.parse.result c.in-Ok.value plain c.parse.ensures.value.0 c.in-Ok.is in
    number_ok c.args.least c.args.most text c.in-Ok.value parsed.0 parsed.1 (omega arith) (omega arith) (omega arith)

pub returns-in_default-3 : goal.returns-in_default-3
returns-in_default-3 c =
    let text = c.args.text.now in
    let plus = starts_char 43 text c.starts_with.result c.starts_with.ensures.cases (lit< tt) (lit< tt) in
    let plain : get_or text 0 0 ≡ 43 → ⊥ = λ e. let clash : true ≡ false = sym (plus.1 e) ∙ c.if-starts_with.false in cc in
    let parsed = parsed_err text c.parse.result c.in_default.field-0 plain c.parse.ensures.value.0 c.in_default.is in
    number_err c.args.least c.args.most text (omega arith) parsed
