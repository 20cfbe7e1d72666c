use Rattle.std.proofs.Common.{ap, refl, ◌∙◌}
use Rattle.indent_scanner.specs.Words.{normal}
use Rattle.decl_stmts.proofs.Looping.{begun_by}
use Rattle.decl_stmts.proofs.blocks.loops.begin_loop.Goals as goal

pub returns-clause-begun : goal.returns-clause-begun
returns-clause-begun c =
    let old = c.args.state.now in
    let count = c.count-outside.result in
    let next = c.in_ok-further.further in
    begun_by old (record old { scope = c.declare.new.self; outside = count; place = next }) c.args.name.now c.args.ty count next c.in_ok-word.word
    c.requires.ready
    c.requires.ty c.count-outside.ensures c.in_ok-further.ensures.next (c.in_ok-word.ensures ∙ ap normal c.as_slice.ensures) c.in_ok-declare.ensures.ok
    c.declare.ensures.kinds c.declare.ensures.home refl
