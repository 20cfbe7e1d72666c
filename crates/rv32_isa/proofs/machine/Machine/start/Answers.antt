use Rattle.std.proofs.Common.{sym, subst, ◌∙◌}
use Rattle.rv32_isa.specs.Table.{AreDecoded}
use Rattle.rv32_isa.proofs.machine.Machine.start.Goals as goal

pub invariant_of-result : goal.invariant_of-result
invariant_of-result c =
    let same = c.in_ok-to_vec.ensures.items_if_clones_equal (λ x y e. e) ∙ c.as_slice.ensures ∙ sym c.as_slice-3.ensures in
    subst (λ code. AreDecoded code c.in_ok-table_of.field-0.items) (sym same) c.in_ok-table_of.ensures
