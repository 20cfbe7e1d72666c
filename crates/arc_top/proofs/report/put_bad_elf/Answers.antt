use Rattle.arc_top.proofs.report.put_bad_elf.Goals as goal

pub returns : goal.returns
returns g c = record { said = rw (← c.number.ensures, ← c.format-number.ensures.text, ← c.as_bytes.ensures.value) c.put_pieces.ensures.said }
