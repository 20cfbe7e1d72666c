use Rattle.std.proofs.Common.{ℕ, List, suc, ◌+◌, ◌++◌, length, drop, sym, ap, ◌∙◌, arith, add-one, length-append}
use Rattle.word_lowering.specs.Texts.{all_names, members_of, joined_all, starts_from}
use Rattle.word_lowering.proofs.EntryNames.{names_from, joined_append, starts_append}
use Rattle.word_lowering.proofs.NamesRoom.{members_bytes}
use Rattle.word_lowering.proofs.texts.push_ends.Goals as goal

pub push_starts-requires : goal.push_starts-requires
push_starts-requires c =
    let own = ap (λ (names : List (List ℕ)). length (joined_all names)) c.members_of.ensures in
    let most = members_bytes c.args.types.now c.loop-id.id _ c.get.ensures.entry in
    omega (arith, own, most, c.loop-id.invariant.1, c.requires)

pub loop-id-preserved : goal.loop-id-preserved
loop-id-preserved c =
    let t = c.args.types.now in
    let old = c.loop-id.bytes in
    let n = c.loop-id.n in
    let next = c.in_ok-n.n in
    let names = members_of c.get.result.now in
    let rest = all_names (drop (suc c.loop-id.id) t) in
    let from = names_from t c.loop-id.id _ c.get.ensures.entry in
    let end = c.in_ok-n.ensures.end ∙ ap (λ l. n + length (joined_all l)) c.members_of.ensures in
    let e = ap (λ l. length (joined_all l)) from in
    let f = ap length (joined_append names rest) in
    let g = length-append (joined_all names) (joined_all rest) in
    rw add-one (
      λ k. c.in_ok-n.ensures.pushed (starts_from next rest k)
          ∙ ap (λ l. old ++ starts_from n l (starts_from next rest k)) c.members_of.ensures
          ∙ ap (λ l. old ++ l) (sym (starts_append n next names rest k end) ∙ ap (λ l. starts_from n l k) (sym from))
          ∙ c.loop-id.invariant.0 k,
      omega (arith, e, f, g, end, c.loop-id.invariant.1),
    )
