use Rattle.check_exprs.proofs.public.type_named.Goals as goal

pub returns : goal.returns
returns c = record { grown = c.read_type.ensures.grown; answers = c.read_type.ensures.answers; within = c.read_type.ensures.fits }
