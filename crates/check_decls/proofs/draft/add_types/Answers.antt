use Rattle.check_decls.proofs.Beginning.{all_added}
use Rattle.check_decls.proofs.draft.add_types.Goals as goal

pub returns-clause-kinds : goal.returns-clause-kinds
returns-clause-kinds c =
    (all_added c.args.types.now c.add.new.self c.add-2.new.self c.add-3.new.self c.add-4.new.self c.in_ok-ints.ints c.in_ok-bools.bools
    c.in_ok-chars.chars c.in_ok-texts.texts c.requires c.in_ok-ints.ensures.ok c.in_ok-bools.ensures.ok c.in_ok-chars.ensures.ok c.in_ok-texts.ensures.ok).1

pub returns-clause-types : goal.returns-clause-types
returns-clause-types c =
    (all_added c.args.types.now c.add.new.self c.add-2.new.self c.add-3.new.self c.add-4.new.self c.in_ok-ints.ints c.in_ok-bools.bools
    c.in_ok-chars.chars c.in_ok-texts.texts c.requires c.in_ok-ints.ensures.ok c.in_ok-bools.ensures.ok c.in_ok-chars.ensures.ok c.in_ok-texts.ensures.ok).0
