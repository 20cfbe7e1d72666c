use Rattle.arc_base.proofs.ForCallers.{steady}
use Rattle.flat_code.specs.Scene.{known_in}
use Rattle.flat_code.specs.Lines.{does}
use Rattle.flat_code.specs.Running.{step, at_first}
use Rattle.flat_code.specs.Whole.{label_in}
use Rattle.flat_code.specs.Codes.{procs_of, owned_label, owned_does, block_label, block_does}
use Rattle.flat_code.proofs.laws.codes.Goals as goal

pub returns-clause-flat : goal.returns-clause-flat
returns-clause-flat c = λ table flat plan heap input.
    let known = known_in table in let procs = procs_of known flat in
    steady (step label_in (does known plan) procs) (at_first label_in (does known plan) procs heap input)

pub returns-clause-owned : goal.returns-clause-owned
returns-clause-owned c = λ table owned heap input.
    let known = known_in table in let procs = procs_of known owned in
    steady (step owned_label (owned_does known) procs) (at_first owned_label (owned_does known) procs heap input)

pub returns-clause-blocks : goal.returns-clause-blocks
returns-clause-blocks c = λ table blocks heap input.
    let known = known_in table in let procs = procs_of known blocks in
    steady (step block_label (block_does known) procs) (at_first block_label (block_does known) procs heap input)
