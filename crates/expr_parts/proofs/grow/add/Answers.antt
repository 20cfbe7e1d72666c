use Rattle.std.proofs.Common.{sym, subst}
use Rattle.expr_parts.specs.View.{Grown}
use Rattle.expr_parts.proofs.Growing.{grown, grown_same, added_means}
use Rattle.expr_parts.proofs.grow.add.Goals as goal

pub returns-in_err-add-clause-grown : goal.returns-in_err-add-clause-grown
returns-in_err-add-clause-grown c = subst (Grown c.args.types.now) (sym c.in_err-add.ensures.err) (grown_same c.args.types.now)

pub returns-clause-grown : goal.returns-clause-grown
returns-clause-grown c =
    grown c.args.types.now c.add.new.self c.args.def c.in_ok-add.field-0 c.count-count.ensures.table c.requires.built c.requires.within c.in_ok-add.ensures.ok

pub returns-clause-means : goal.returns-clause-means
returns-clause-means c =
    added_means c.args.types.now c.add.new.self c.args.def c.in_ok-add.field-0 c.count-count.ensures.table c.requires.built c.requires.within
    c.in_ok-add.ensures.ok
