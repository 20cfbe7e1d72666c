use Rattle.std.proofs.Common.{◌≡◌, ◌+◌, ◌∙◌, ap, sym, arith, drop}
use Rattle.nim_types.specs.Entries.{says_count, one_if}
use Rattle.nim_types.proofs.EntryLemmas.{says_next, says_beyond, count_is}
use Rattle.nim_types.proofs.entries.declared_types.Goals as goal
use Rattle.nim_types.proofs.entries.declared_types.Goals.{then-says, else-says}

pub loop-id-preserved : goal.loop-id-preserved
loop-id-preserved c =
    let ds = c.args.types.now in
    let i = c.loop-id.id in
    let e = says_next ds i c.get.result.now c.get.ensures.entry in
    let h = c.loop-id.invariant in
    elim c.if-says.branch [
      | then-says w ↦
          let s = ap (λ b. one_if b (says_count (drop (i + 1) ds))) (sym c.says.ensures ∙ w.if-says.true) in
          (omega (arith, e, s, h.0, w.n-is), omega (arith, h.1, w.n-is), h.2)
      | else-says w ↦
          let s = ap (λ b. one_if b (says_count (drop (i + 1) ds))) (sym c.says.ensures ∙ w.if-says.false) in
          (omega (arith, e, s, h.0, w.n-is), omega (arith, h.1, w.n-is), h.2)
    ]

pub returns-clause-count : goal.returns-clause-count
returns-clause-count c =
    let ds = c.args.types.now in
    let h = c.loop-id.invariant in
    let e = says_beyond ds c.loop-id.id (omega (arith, c.loop-id-test.false, h.2)) in
    let n : c.loop-id.n ≡ says_count ds = omega (arith, h.0, e) in
    n ∙ count_is ds c.count-id-end.ensures.table
