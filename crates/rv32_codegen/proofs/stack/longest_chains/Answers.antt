use Rattle.std.proofs.Common.{◌≡◌, ◌+◌, suc, length, sym, ap, ◌∙◌, arith}
use Rattle.rv32_codegen.specs.Chains.{number_for, by_index, chains_from, cut_chain}
use Rattle.rv32_codegen.proofs.Taken.{next_round, settled, none_number, same_taken, length-none, length-chains}
use Rattle.rv32_codegen.proofs.stack.longest_chains.Goals as goal

pub loop-round-init : goal.loop-round-init
loop-round-init c =
    let procs = c.args.procs.now in
    record {
      long = ap length c.in_ok-taken.ensures ∙ length-none procs;
      are = λ n. ap (λ l. number_for procs l n) c.in_ok-taken.ensures ∙ none_number procs c.args.sizes.now n procs;
    }

pub returns-then-is_same : goal.returns-then-is_same
returns-then-is_same c =
    let procs = c.args.procs.now in
    let sizes = c.args.sizes.now in
    let index = c.args.index.now in
    let next = c.in_ok-next.ensures ∙ ap (λ t. chains_from (by_index index t) procs sizes) c.as_slice.ensures
    ∙ ap (λ f. chains_from f procs sizes) (same_taken index procs c.loop-round.taken c.requires.index c.loop-round.invariant.long) in
    let same = sym next ∙ sym c.as_slice-in-loop-round.ensures ∙ c.is_same.ensures c.if-is_same.true ∙ c.as_slice-in-loop-round-2.ensures in
    record {
      long = c.loop-round.invariant.long;
      are = settled procs sizes c.loop-round._round c.loop-round.taken (omega (arith, c.loop-round-test.true)) c.loop-round.invariant.are same;
    }

pub loop-round-preserved : goal.loop-round-preserved
loop-round-preserved c =
    let procs = c.args.procs.now in
    let sizes = c.args.sizes.now in
    let index = c.args.index.now in
    let k = c.loop-round._round in
    let next = c.in_ok-next.ensures ∙ ap (λ t. chains_from (by_index index t) procs sizes) c.as_slice.ensures
    ∙ ap (λ f. chains_from f procs sizes) (same_taken index procs c.loop-round.taken c.requires.index c.loop-round.invariant.long) in
    record {
      long = ap length next ∙ length-chains (number_for procs c.loop-round.taken) procs sizes c.requires.sizes;
      are = λ n.
          ap (λ l. number_for procs l n) next ∙ next_round procs sizes k c.loop-round.taken c.loop-round.invariant.are n
          ∙ ap (λ m. cut_chain procs sizes m n) (let e : suc k ≡ k + 1 = omega arith in e);
    }
