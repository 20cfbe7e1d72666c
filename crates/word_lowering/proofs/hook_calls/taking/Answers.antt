use Rattle.std.proofs.Common.{sym, ap, ◌∙◌, Some}
use Rattle.word_lowering.proofs.HookTaken.{got, none_past, taken_none, taken_place, taken_value}
use Rattle.word_lowering.proofs.hook_calls.taking.Goals as goal

pub returns-in-Some-Value : goal.returns-in-Some-Value
returns-in-Some-Value c =
    let from = c.args.from.now in
    let there = got from c.args.index c.in-Some-Value.field-0.now c.in-Some-Value.ensures.lookup.3.0 c.in-Some-Value.ensures.lookup.1 in
    sym (taken_value from c.args.index c.in-Some-Value.field-0-0 (there ∙ ap Some c.in-Some-Value.field-0-is))

pub returns-in-Some-Place : goal.returns-in-Some-Place
returns-in-Some-Place c =
    let from = c.args.from.now in
    let there = got from c.args.index c.in-Some-Place.field-0.now c.in-Some-Place.ensures.lookup.3.0 c.in-Some-Place.ensures.lookup.1 in
    sym (taken_place from c.args.index c.in-Some-Place.field-0-0 (there ∙ ap Some c.in-Some-Place.field-0-is))

pub returns-in-None : goal.returns-in-None
returns-in-None c = sym (taken_none c.args.from.now c.args.index (none_past c.args.from.now c.args.index c.in-None.ensures.lookup.3))
