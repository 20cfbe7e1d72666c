use Rattle.std.proofs.Common.{◌+◌, [], refl, arith}
use Rattle.number_sets.proofs.Stamping.{stamped_none, stamped_later}
use Rattle.number_sets.proofs.numbers.next_time.Goals as goal

pub returns : goal.returns
returns c = λ numbers h. stamped_later c.args.time (c.args.time + 1) c.args.stamps.now.items numbers (omega arith) h

pub returns-then-time-eq4294967295 : goal.returns-then-time-eq4294967295
returns-then-time-eq4294967295 c = λ numbers h. stamped_none 1 c.clear.new.self.items [] refl c.clear.ensures.items refl
