use Rattle.std.proofs.Common.{◌+◌, drop}
use Rattle.std.proofs.Math.ListN.{drop_of_length-le}
use Rattle.decl_parts.proofs.ForCallers.{next_name}
use Rattle.decl_heads.proofs.Opening.{made_none, made_more, made_all}
use Rattle.decl_heads.proofs.given.given_as.Goals as goal

pub loop-name-init : goal.loop-name-init
loop-name-init c = made_none c.args.first c.args.ty c.args.mode c.new-all.result.items c.args.names.now c.new-all.ensures.items

pub loop-name-preserved : goal.loop-name-preserved
loop-name-preserved c =
    let at = c.loop-name in
    let item = c.name-item.result in
    let names = c.args.names.now in
    made_more c.args.first c.args.ty c.args.mode at.number c.in_ok-number.number at.all.items c.in_ok-one.one c.push.new.self.items item
    (drop (at.name-index + 1) names) names
    (drop at.name-index names) (next_name names at.name-index item c.name-item.is c.loop-name-test.true) c.in_ok-push.ensures.items c.in_ok-number.ensures.next
    c.in_ok-one.ensures.number c.in_ok-one.ensures.ty c.in_ok-one.ensures.given at.invariant

pub returns-clause-given : goal.returns-clause-given
returns-clause-given c =
    let at = c.loop-name in
    made_all c.args.first c.args.ty c.args.mode at.number at.all.items (drop at.name-index c.args.names.now) c.args.names.now
    (drop_of_length-le c.args.names.now c.loop-name-test.false) at.invariant

pub returns-clause-within : goal.returns-clause-within
returns-clause-within c = c.loop-name.invariant.within

pub returns-clause-numbered : goal.returns-clause-numbered
returns-clause-numbered c = c.loop-name.invariant.numbered
