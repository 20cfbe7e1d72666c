use Rattle.std.proofs.Common.{refl}
use Rattle.word_runner.proofs.StepRows.{at_fault, kept_same, quietly}
use Rattle.word_runner.proofs.step.carry.Goals as goal

pub returns-in-Passes : goal.returns-in-Passes
returns-in-Passes c =
    rw c.in-Passes.is (quietly c.args.procs.now _ _ _ _ (kept_same _) (λ live rest. refl))

pub returns-in-Sets : goal.returns-in-Sets
returns-in-Sets c = rw c.in-Sets.is (c.set.ensures c.args.procs.now)

pub returns-in-Stores : goal.returns-in-Stores
returns-in-Stores c = rw c.in-Stores.is (c.store.ensures c.args.procs.now)

pub returns-in-Leaps : goal.returns-in-Leaps
returns-in-Leaps c = rw c.in-Leaps.is (c.leap.ensures c.args.procs.now c.args.own.now c.requires.books c.requires.own)

pub returns-in-Gives : goal.returns-in-Gives
returns-in-Gives c = rw c.in-Gives.is (c.argue.ensures c.args.procs.now)

pub returns-in-Calls : goal.returns-in-Calls
returns-in-Calls c = rw c.in-Calls.is (c.call.ensures)

pub returns-in-Returns : goal.returns-in-Returns
returns-in-Returns c = rw c.in-Returns.is (c.give_back.ensures)

pub returns-in-Reads : goal.returns-in-Reads
returns-in-Reads c = rw c.in-Reads.is (c.read.ensures c.args.procs.now)

pub returns-in-Writes : goal.returns-in-Writes
returns-in-Writes c = rw c.in-Writes.is (c.write.ensures c.args.procs.now)

pub returns-in-Spends : goal.returns-in-Spends
returns-in-Spends c = rw c.in-Spends.is (c.spend.ensures c.args.procs.now)

pub returns-in-Exits : goal.returns-in-Exits
returns-in-Exits c = rw c.in-Exits.is (record { follows = λ live rest ends. (_, refl); wants = tt; kept = kept_same _ })

pub returns-in-Fails : goal.returns-in-Fails
returns-in-Fails c = rw c.in-Fails.is (at_fault c.args.procs.now _ _ _ _ (kept_same _) (λ live rest. refl))

pub store-requires : goal.store-requires
store-requires c = rw c.in-Stores.is at c.requires.may

pub read-requires-clause-may : goal.read-requires-clause-may
read-requires-clause-may c = rw c.in-Reads.is at c.requires.may

pub write-requires : goal.write-requires
write-requires c = rw c.in-Writes.is at c.requires.may
