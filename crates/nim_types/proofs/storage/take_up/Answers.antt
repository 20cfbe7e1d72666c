use Rattle.std.proofs.Common.{length, refl, arith, subst}
use Rattle.std.specs.Prelude.{Bool}
use Rattle.std.proofs.lemmas.Option.{slice_get_read}
use Rattle.nim_types.specs.Kept.{Stale}
use Rattle.nim_types.proofs.Settling.{stayed, learned_half, learned_settled, learned_quiet}
use Rattle.nim_types.proofs.storage.take_up.Goals as goal

pub returns-then-waiting-clause-settled : goal.returns-then-waiting-clause-settled
returns-then-waiting-clause-settled c =
    let ds = c.args.defs.now in
    let i = c.args.i in
    let d = c.index-defs-i.result in
    stayed ds i c.args.known.now c.learn.new.known c.args.waiting d c.requires.stale
    (slice_get_read ds (length ds) i d refl c.requires.within c.index-defs-i.is)
    (c.learn.ensures.kept c.if-not-learn.true)

pub returns-else-waiting-clause-settled : goal.returns-else-waiting-clause-settled
returns-else-waiting-clause-settled c =
    let ds = c.args.defs.now in
    let i = c.args.i in
    let d = c.index-defs-i.result in
    stayed ds i c.args.known.now c.learn.new.known c.args.waiting d c.requires.stale
    (slice_get_read ds (length ds) i d refl c.requires.within c.index-defs-i.is)
    (c.learn.ensures.kept c.if-not-learn.true)

pub settle-requires : goal.settle-requires
settle-requires c =
    let ds = c.args.defs.now in
    let i = c.args.i in
    let d = c.index-defs-i.result in
    learned_half ds i c.args.known.now c.learn.new.known c.args.waiting d c.requires.stale
    (slice_get_read ds (length ds) i d refl c.requires.within c.index-defs-i.is) (omega (arith, c.requires.within, c.requires.stale.half.beside))
    (c.learn.ensures.learned c.if-not-learn.false)

pub returns-clause-settled : goal.returns-clause-settled
returns-clause-settled c =
    let ds = c.args.defs.now in
    let i = c.args.i in
    let d = c.index-defs-i.result in
    learned_settled ds i c.args.known.now c.learn.new.known d (subst (λ (b : Bool). Stale ds i c.args.known.now b) c.if-waiting-2.false c.requires.stale)
    (slice_get_read ds (length ds) i d refl c.requires.within c.index-defs-i.is) (omega (arith, c.requires.within, c.requires.stale.half.beside))
    (c.learn.ensures.learned c.if-not-learn.false)

pub returns-clause-waits : goal.returns-clause-waits
returns-clause-waits c =
    let ds = c.args.defs.now in
    let i = c.args.i in
    let d = c.index-defs-i.result in
    learned_quiet ds i c.args.known.now c.learn.new.known d (subst (λ (b : Bool). Stale ds i c.args.known.now b) c.if-waiting-2.false c.requires.stale)
    (slice_get_read ds (length ds) i d refl c.requires.within c.index-defs-i.is) (omega (arith, c.requires.within, c.requires.stale.half.beside))
    (c.learn.ensures.learned c.if-not-learn.false)
