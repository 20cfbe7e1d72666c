use Rattle.std.proofs.Common.{◌≡◌, subst, rules}
use Rattle.std.specs.Prelude.{int_le, true}
use Rattle.nim_program.specs.View.{label_of}
use Rattle.expr_parts.specs.View.{IsProper}
use Rattle.expr_builds.proofs.label_list.Labels.take.Goals as goal

pub take_range-requires : goal.take_range-requires
take_range-requires c =
    let h : int_le c.in-Ordinals.low c.in-Ordinals.high ≡ true = subst (λ l. IsProper (label_of l)) c.in-Ordinals.is c.requires in
    search (rules, h)
