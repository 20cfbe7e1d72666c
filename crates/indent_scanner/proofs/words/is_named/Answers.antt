use Rattle.std.proofs.Common.{sym, ap, ◌∙◌, ◌-◌, length, take, drop}
use Rattle.std.proofs.lemmas.List.{take_rest}
use Rattle.std.proofs.lemmas.Bool.{ne_eqb}
use Rattle.indent_scanner.specs.Words.{same, folded}
use Rattle.indent_scanner.proofs.Names.{named_empty, named_none, named_goes, named_differs}
use Rattle.indent_scanner.proofs.words.is_named.Goals as goal

pub returns-then-is_empty : goal.returns-then-is_empty
returns-then-is_empty c = c.is_empty-then-is_empty.ensures ∙ named_empty c.args.name.now c.args.key.now (sym c.is_empty.ensures ∙ c.if-is_empty.true)

pub returns-then-is_empty-2 : goal.returns-then-is_empty-2
returns-then-is_empty-2 c = named_none c.args.name.now c.args.key.now (sym c.is_empty.ensures ∙ c.if-is_empty.false)
    (sym c.is_empty-2.ensures ∙ c.if-is_empty-2.true)

pub returns-then-name-key : goal.returns-then-name-key
returns-then-name-key c =
    let name = c.args.name.now in let key = c.args.key.now in
    c.is_folded.ensures ∙ ap (λ x. same (folded x) (take (length key - 1) (drop 1 key))) (take_rest name 1) ∙ ap (same (folded (drop 1 name))) (take_rest key 1)
    ∙ sym (named_goes name key (sym c.is_empty.ensures ∙ c.if-is_empty.false) (sym c.is_empty-2.ensures ∙ c.if-is_empty-2.false) c.if-name-key.true)

pub returns-else-name-key : goal.returns-else-name-key
returns-else-name-key c =
    let name = c.args.name.now in let key = c.args.key.now in
    ne_eqb _ _ c.if-name-key.false
    ∙ sym (named_differs name key (sym c.is_empty.ensures ∙ c.if-is_empty.false) (sym c.is_empty-2.ensures ∙ c.if-is_empty-2.false) c.if-name-key.false)
