use Rattle.std.proofs.Common.{◌≡◌, List, Bool, map, ap, subst, ◌∙◌}
use Rattle.std.specs.Prelude.{IfOk, nat_le}
use Rattle.program_limits.proofs.Levels.{all_marks}
use Rattle.program_limits.proofs.shallow.shallow_types.Goals as goal

pub returns : goal.returns
returns c =
    subst (λ (all : List Bool). IfOk c.marks_of.result (λ marks. marks ≡ all))
    (ap (map (λ s. nat_le s.levels 64)) (c.as_slice.ensures ∙ c.in_ok-of.ensures) ∙ all_marks c.args.types.now) c.marks_of.ensures
