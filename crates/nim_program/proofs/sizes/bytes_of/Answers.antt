use Rattle.std.proofs.Common.{◌≡◌, ap, arith}
use Rattle.nim_types.specs.Table.{type_at, types_in, facts_in}
use Rattle.nim_types.proofs.ForCallers.{count}
use Rattle.nim_program.specs.Sizes.{type_bytes}
use Rattle.nim_program.proofs.TypeNumbers.{int_beyond}
use Rattle.nim_program.proofs.sizes.bytes_of.Goals as goal

pub returns-then-ty-count : goal.returns-then-ty-count
returns-then-ty-count c =
    let ds = c.args.types.now in
    let beyond = int_beyond (types_in ds) c.args.ty (omega (arith, c.if-ty-count.true, c.count.ensures.count, count ds)) in
    let bytes : type_bytes (facts_in ds) (type_at (types_in ds) c.args.ty) ≡ 4 = ap (type_bytes (facts_in ds)) beyond in
    omega (arith, bytes)

pub returns-then-bytes-gt-MOST_BYTES : goal.returns-then-bytes-gt-MOST_BYTES
returns-then-bytes-gt-MOST_BYTES c =
    let stored = c.requires c.args.ty _ (omega (arith, c.if-ty-count.false, c.count.ensures.count)) c.size_of-bytes.ensures in
    omega (arith, stored)

pub returns-else-bytes-gt-MOST_BYTES : goal.returns-else-bytes-gt-MOST_BYTES
returns-else-bytes-gt-MOST_BYTES c =
    let stored = c.requires c.args.ty _ (omega (arith, c.if-ty-count.false, c.count.ensures.count)) c.size_of-bytes.ensures in
    omega (arith, stored)
