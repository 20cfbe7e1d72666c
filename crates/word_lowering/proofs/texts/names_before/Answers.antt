use Rattle.std.proofs.Common.{length, take, ap, arith, add-one, length-append}
use Rattle.word_lowering.specs.Texts.{all_names, members_of}
use Rattle.word_lowering.proofs.EntryNames.{names_more}
use Rattle.word_lowering.proofs.NamesRoom.{members_within}
use Rattle.word_lowering.proofs.texts.names_before.Goals as goal

pub overflow_cast-n : goal.overflow_cast-n
overflow_cast-n c =
    let most = members_within c.args.types.now c.loop-id.id _ c.get.ensures.entry in
    let own = ap length c.members_of.ensures in
    omega (arith, most, own, c.requires)

pub overflow_add-n : goal.overflow_add-n
overflow_add-n c =
    let most = members_within c.args.types.now c.loop-id.id _ c.get.ensures.entry in
    let own = ap length c.members_of.ensures in
    omega (arith, most, own, c.requires, c.loop-id.invariant)

pub loop-id-preserved : goal.loop-id-preserved
loop-id-preserved c =
    let t = c.args.types.now in
    let e = ap length (names_more t c.loop-id.id _ c.get.ensures.entry) in
    let f = length-append (all_names (take c.loop-id.id t)) (members_of c.get.result.now) in
    let g = ap length c.members_of.ensures in
    rw add-one (omega (arith, e, f, g, c.loop-id.invariant))
