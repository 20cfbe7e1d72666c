use Rattle.std.proofs.Common.{arith}
use Rattle.rv32_isa.proofs.BytesRead.{bytes_below, read_as_they_are}
use Rattle.rv32_isa.proofs.laws.are_bytes.Goals as goal

pub returns-clause-below : goal.returns-clause-below
returns-clause-below c = bytes_below c.args.bytes.now (λ i. let fits = c.type_inv.bytes i in omega (arith, fits))

pub returns-clause-read : goal.returns-clause-read
returns-clause-read c =
    read_as_they_are c.args.bytes.now (bytes_below c.args.bytes.now (λ i. let fits = c.type_inv.bytes i in omega (arith, fits)))
