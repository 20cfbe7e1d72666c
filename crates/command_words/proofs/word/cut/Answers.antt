use Rattle.std.proofs.Common.{Some, None, sym, ap, lit<}
use Rattle.std.proofs.lemmas.Str.Pattern.{split_parts}
use Rattle.command_words.proofs.Spelling.{cut_said, cut_none}
use Rattle.command_words.proofs.word.cut.Goals as goal

pub returns-in-Some-clause-name : goal.returns-in-Some-clause-name
returns-in-Some-clause-name c =
    let parts = split_parts 61 c.args.word.now (Some (c.in-Some.name, c.in-Some.value)) c.in-Some.ensures.cases (lit< tt) in
    sym (ap (λ p. p.0) (cut_said c.args.word.now c.in-Some.name.now c.in-Some.value.now parts.0 parts.1))

pub returns-in-Some-clause-value : goal.returns-in-Some-clause-value
returns-in-Some-clause-value c =
    let parts = split_parts 61 c.args.word.now (Some (c.in-Some.name, c.in-Some.value)) c.in-Some.ensures.cases (lit< tt) in
    sym (ap (λ p. p.1) (cut_said c.args.word.now c.in-Some.name.now c.in-Some.value.now parts.0 parts.1))

pub returns-in-None-clause-name : goal.returns-in-None-clause-name
returns-in-None-clause-name c = sym (ap (λ p. p.0) (cut_none c.args.word.now (split_parts 61 c.args.word.now None c.in-None.ensures.cases (lit< tt))))

pub returns-in-None-clause-value : goal.returns-in-None-clause-value
returns-in-None-clause-value c = sym (ap (λ p. p.1) (cut_none c.args.word.now (split_parts 61 c.args.word.now None c.in-None.ensures.cases (lit< tt))))
