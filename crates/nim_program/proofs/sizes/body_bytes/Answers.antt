use Rattle.nim_program.proofs.TypeNumbers.{sizes_by}
use Rattle.nim_program.proofs.sizes.body_bytes.Goals as goal

pub place_bytes-result-requires : goal.place_bytes-result-requires
place_bytes-result-requires c = sizes_by _ c.type_forms.ensures.computed c.requires.forms

pub invariant_of-count-clause-sizes : goal.invariant_of-count-clause-sizes
invariant_of-count-clause-sizes c = sizes_by _ c.type_forms.ensures.computed c.requires.forms
