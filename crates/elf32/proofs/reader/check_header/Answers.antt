use Rattle.std.proofs.Common.{◌∙◌, sym}
use Rattle.elf32.proofs.Faulty.{fault_header}
use Rattle.elf32.proofs.Law.{whole_header}
use Rattle.elf32.proofs.reader.check_header.Goals as goal

pub returns-then-not-is_front-5-clause-bad : goal.returns-then-not-is_front-5-clause-bad
returns-then-not-is_front-5-clause-bad c =
    fault_header c.args.bytes.now c.if-bytes.false (c.is_front.ensures.yes c.if-not-is_front.false) (c.is_front-2.ensures.yes c.if-not-is_front-2.false)
    (c.is_front-3.ensures.yes c.if-not-is_front-3.false)
    (c.is_front-4.ensures.yes c.if-not-is_front-4.false) (λ whole. c.is_front-5.ensures.no c.if-not-is_front-5.true (whole ∙ sym whole_header))

pub returns-clause-header : goal.returns-clause-header
returns-clause-header c = c.is_front-5.ensures.yes c.if-not-is_front-5.false ∙ whole_header
