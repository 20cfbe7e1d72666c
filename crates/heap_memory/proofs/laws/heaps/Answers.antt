use Rattle.heap_memory.proofs.Walks.{walk_right}
use Rattle.heap_memory.proofs.HeapUses.{is_there, distant, other_places, still_heap, refilled}
use Rattle.heap_memory.proofs.Sizes.{same_stands}
use Rattle.heap_memory.proofs.ClassLaws.{class_same, room_same}
use Rattle.heap_memory.proofs.laws.heaps.Goals as goal

pub returns-clause-walks : goal.returns-clause-walks
returns-clause-walks c = λ kinds at classes stands m h some few. walk_right kinds at classes stands m h some few

pub returns-clause-there : goal.returns-clause-there
returns-clause-there c = λ at classes stands m h sized k s there. is_there at classes stands m h k s there sized

pub returns-clause-distant : goal.returns-clause-distant
returns-clause-distant c = λ at classes stands m h j k s t a b apart. distant at classes stands m h j k s t a b apart

pub returns-clause-places : goal.returns-clause-places
returns-clause-places c = λ at classes stands m other h sized sized_other statics heap. other_places at classes stands m h sized other sized_other statics heap

pub returns-clause-elsewhere : goal.returns-clause-elsewhere
returns-clause-elsewhere c = λ at classes stands m other a n h sized sized_other written apart.
    still_heap at classes stands m h sized other sized_other a n written apart

pub returns-clause-refilled : goal.returns-clause-refilled
returns-clause-refilled c = λ at classes stands m other k s o n h sized sized_other there few written.
    refilled at classes stands m h sized other sized_other k s o n there few written

pub returns-clause-same : goal.returns-clause-same
returns-clause-same c = λ at classes stands others m h same. same_stands at classes stands others m same h

pub returns-clause-classes : goal.returns-clause-classes
returns-clause-classes c = λ at classes stands m h payload. class_same at classes stands m h payload

pub returns-clause-rooms : goal.returns-clause-rooms
returns-clause-rooms c = λ at classes stands m h k s there payload. room_same at classes stands m h k s there payload
