use Rattle.std.proofs.Common.{◌∙◌, ap, sym}
use Rattle.std.specs.Prelude.{◌||◌}
use Rattle.nim_program.specs.Program.{types_in}
use Rattle.nim_meaning.specs.Unbuilt.{any_unbuilt}
use Rattle.program_limits.specs.Known.{known_types, known_facts}
use Rattle.program_limits.proofs.lacking.operand_unbuilt.Goals as goal

pub returns : goal.returns
returns c =
    λ rest.
    let ts = known_types c.args.known.now in
    let facts = known_facts c.args.known.now in
    ap (any_unbuilt facts) (c.operand_type.ensures ts rest) ∙ ap (λ b. b || any_unbuilt facts (types_in rest)) (sym c.gives_unbuilt.ensures)
