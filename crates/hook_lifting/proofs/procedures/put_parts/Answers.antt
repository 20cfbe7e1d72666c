use Rattle.std.proofs.Common.{◌+◌, length, sym, ap, arith, drop}
use Rattle.std.specs.Prelude.{slice_index_or}
use Rattle.hook_lifting.specs.Lifted.{one_part, part_lines}
use Rattle.hook_lifting.proofs.Writing.{puts_as, puts_two, puts_none}
use Rattle.hook_lifting.proofs.Parts.{below_at, parts_next, drop_all}
use Rattle.hook_lifting.proofs.procedures.put_parts.Goals as goal

pub put_if_needed-requires-clause-inside : goal.put_if_needed-requires-clause-inside
put_if_needed-requires-clause-inside c = below_at (length c.args.types.now) c.args.parts.now c.loop-ty.ty-index c.requires.inside c.loop-ty-test.true

pub loop-ty-preserved : goal.loop-ty-preserved
loop-ty-preserved c =
    let a = c.args in
    let l = c.loop-ty in (
      λ new h. l.invariant.0 new
          (puts_as (λ k. one_part a.types.now a.hook (slice_index_or a.parts.now l.ty-index 0) l.part
          (part_lines a.types.now a.hook (drop (l.ty-index + 1) a.parts.now) (l.part + 1) k))
          (part_lines a.types.now a.hook (drop l.ty-index a.parts.now) l.part) (puts_two c.put_if_needed.ensures h)
          (parts_next a.types.now a.hook a.parts.now l.ty-index l.part c.loop-ty-test.true)),
      ap (λ n. n + 1) l.invariant.1,
      l.invariant.2,
    )

pub returns : goal.returns
returns c =
    let a = c.args in
    let l = c.loop-ty in
    l.invariant.0 l.lines
    (puts_as (λ k. k) (part_lines a.types.now a.hook (drop l.ty-index a.parts.now) l.part) (puts_none l.lines)
    (λ k. ap (λ ps. part_lines a.types.now a.hook ps l.part k) (sym (drop_all a.parts.now l.ty-index (omega (arith, c.loop-ty-test.false))))))
