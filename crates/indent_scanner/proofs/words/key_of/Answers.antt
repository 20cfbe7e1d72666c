use Rattle.std.proofs.Common.{sym, ◌∙◌}
use Rattle.indent_scanner.proofs.Names.{first_is, more_is, left_is, last_is}
use Rattle.indent_scanner.proofs.words.key_of.Goals as goal

pub returns-in-Some : goal.returns-in-Some
returns-in-Some c = sym (first_is c.args.name.now c.in-Some.key (sym c.first_keys.ensures ∙ c.in-Some.is))

pub returns-in-Some-more_keys : goal.returns-in-Some-more_keys
returns-in-Some-more_keys c =
    sym (more_is c.args.name.now c.in-Some-more_keys.key (sym c.first_keys.ensures ∙ c.in_default.is) (sym c.more_keys.ensures ∙ c.in-Some-more_keys.is))

pub returns-in-Some-left_keys : goal.returns-in-Some-left_keys
returns-in-Some-left_keys c =
    sym (left_is c.args.name.now c.in-Some-left_keys.key (sym c.first_keys.ensures ∙ c.in_default.is) (sym c.more_keys.ensures ∙ c.in_default-more_keys.is)
    (sym c.left_keys.ensures ∙ c.in-Some-left_keys.is))

pub returns : goal.returns
returns c = c.other_left_keys.ensures
    ∙ sym (last_is c.args.name.now (sym c.first_keys.ensures ∙ c.in_default.is) (sym c.more_keys.ensures ∙ c.in_default-more_keys.is)
    (sym c.left_keys.ensures ∙ c.in_default-left_keys.is))
