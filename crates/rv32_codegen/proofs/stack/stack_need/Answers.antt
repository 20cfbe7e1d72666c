use Rattle.std.proofs.Common.{length, sym, ap, ◌∙◌, arith}
use Rattle.rv32_codegen.specs.Chains.{sizes_of}
use Rattle.rv32_codegen.proofs.Taken.{length-sizes, same_long, need_at}
use Rattle.rv32_codegen.proofs.stack.stack_need.Goals as goal

pub sizes_of-requires : goal.sizes_of-requires
sizes_of-requires c = same_long c.args.words.now.procs c.args.homes.now c.requires.homes ∙ sym (ap length c.as_slice-procs.ensures)

pub call_size-requires : goal.call_size-requires
call_size-requires c =
    ap length (c.as_slice.ensures ∙ c.in_ok-sizes.ensures ∙ ap (λ procs. sizes_of procs c.args.homes.now) c.as_slice-procs.ensures)
    ∙ length-sizes c.args.words.now.procs c.args.homes.now c.requires.homes ∙ sym (ap length c.as_slice-procs.ensures)

pub overflow_cast-result : goal.overflow_cast-result
overflow_cast-result c =
    let sum = need_at c.args.words.now.procs c.as_slice-procs.result.now c.args.homes.now c.as_slice.result.now c.from-calls.result c.in_ok-size.size
    c.from.result c.from-2.result c.requires.homes c.requires.most c.as_slice-procs.ensures
    (c.as_slice.ensures ∙ c.in_ok-sizes.ensures ∙ ap (λ procs. sizes_of procs c.args.homes.now) c.as_slice-procs.ensures) c.in_ok-size.ensures
    (omega (arith, c.from-calls.ensures)) (omega (arith, c.from.ensures, c.from-2.ensures)) in
    omega (arith, sum, c.requires.most)

pub returns : goal.returns
returns c =
    need_at c.args.words.now.procs c.as_slice-procs.result.now c.args.homes.now c.as_slice.result.now c.from-calls.result c.in_ok-size.size
    c.from.result c.from-2.result c.requires.homes c.requires.most c.as_slice-procs.ensures
    (c.as_slice.ensures ∙ c.in_ok-sizes.ensures ∙ ap (λ procs. sizes_of procs c.args.homes.now) c.as_slice-procs.ensures) c.in_ok-size.ensures
    (omega (arith, c.from-calls.ensures)) (omega (arith, c.from.ensures, c.from-2.ensures))
