use Rattle.refc_runtime.proofs.HeapWhole.{statics_are}
use Rattle.refc_runtime.proofs.heap.heap_data.Goals as goal

pub returns : goal.returns
returns c = statics_are c.new-bytes.result c.append.new.self c.new-bytes.ensures c.in_ok-append.ensures.ok
