use Rattle.word_code.proofs.ForCallers.{law_by}
use Rattle.refc_runtime.proofs.BothWhole.{both_are}
use Rattle.refc_runtime.proofs.code.runtime_pair.Goals as goal

pub returns : goal.returns
returns c =
    both_are (law_by c.memories.ensures.sizes c.memories.ensures.bytes c.memories.ensures.regions c.memories.ensures.stores c.memories.ensures.here
    c.memories.ensures.elsewhere) c.in_ok-heap.heap c.in_ok-procs.procs c.in_ok-statics.statics c.in_ok-heap.ensures c.in_ok-procs.ensures
    c.in_ok-statics.ensures
