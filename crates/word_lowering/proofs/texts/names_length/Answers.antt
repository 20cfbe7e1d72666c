use Rattle.std.proofs.Common.{ℕ, List, suc, length, drop, ap, arith, add-one, length-append}
use Rattle.word_lowering.specs.Texts.{all_names, members_of, joined_all}
use Rattle.word_lowering.proofs.EntryNames.{names_from, joined_append}
use Rattle.word_lowering.proofs.NamesRoom.{members_bytes}
use Rattle.word_lowering.proofs.texts.names_length.Goals as goal

pub name_bytes-n-requires : goal.name_bytes-n-requires
name_bytes-n-requires c =
    let own = ap (λ (names : List (List ℕ)). length (joined_all names)) c.members_of.ensures in
    let most = members_bytes c.args.types.now c.loop-id.id _ c.get.ensures.entry in
    omega (arith, own, most, c.loop-id.invariant, c.requires)

pub loop-id-preserved : goal.loop-id-preserved
loop-id-preserved c =
    let t = c.args.types.now in
    let names = members_of c.get.result.now in
    let rest = all_names (drop (suc c.loop-id.id) t) in
    let e = ap (λ l. length (joined_all l)) (names_from t c.loop-id.id _ c.get.ensures.entry) in
    let f = ap length (joined_append names rest) in
    let g = length-append (joined_all names) (joined_all rest) in
    let h = ap (λ l. length (joined_all l)) c.members_of.ensures in
    rw add-one (omega (arith, e, f, g, h, c.loop-id.invariant, c.name_bytes-n.ensures))
