use Rattle.std.proofs.Common.{refl}
use Rattle.flat_code.specs.Codes.{procs_of}
use Rattle.flat_code.specs.Lines.{does}
use Rattle.flat_code.specs.Scene.{known_in}
use Rattle.flat_code.specs.Whole.{label_in}
use Rattle.program_limits.specs.Limits.{program_in}
use Rattle.core_compiler.proofs.FewLevels.{levels_few}
use Rattle.core_compiler.proofs.Flattened.{is_flat_of}
use Rattle.core_compiler.proofs.FrameSums.{sums_within, data_few}
use Rattle.core_compiler.proofs.Refusals.{built_within}
use Rattle.core_compiler.proofs.program.flat_of.Goals as goal

pub flatten-requires : goal.flatten-requires
flatten-requires c =
    record { forms = c.table_forms.ensures c.args.program.now.types (program_in c.args.program.now) refl refl c.requires.typed }

pub returns : goal.returns
returns c =
    let program = program_in c.args.program.now in
    let plan = c.args.plan.now in
    let typed = c.requires.typed in
    let numbered = c.requires.numbered in
    let built = built_within program c.requires.within in
    let formed = c.formed.ensures program typed numbered in
    let sound = c.requires.sound built in
    let table = c.args.program.now.types in
    is_flat_of c.args.program.now plan c.in_ok-flat.flat c.in_ok-flat.ensures.procs c.in_ok-flat.ensures.code sound
    (λ heap input. c.flat_code.ensures.agrees program formed plan heap input (sound heap input))
    (λ heap input. c.flat_code.ensures.paced program formed plan heap input (sound heap input))
    (λ heap input units. c.flat_code.ensures.exact program formed plan heap input (sound heap input) units)
    (c.by_units.ensures.same label_in (does (known_in table) plan) (procs_of (known_in table) c.in_ok-flat.flat))
    (c.by_units.ensures.work label_in (does (known_in table) plan) (procs_of (known_in table) c.in_ok-flat.flat))
    (c.fits.ensures.fits table program refl typed numbered built plan)
    (c.fits.ensures.hooks table program refl typed built plan)
    (c.sizes.ensures.weight program plan)
    (c.sizes.ensures.waiting program plan)
    (c.sizes.ensures.globals program plan typed numbered)
    (λ text. c.sizes.ensures.texts program plan text)
    (c.sizes.ensures.constants program plan)
    (c.table_forms.ensures table program refl refl typed)
    (c.may_be_lowered.ensures.alike table program refl typed plan)
    (c.may_be_lowered.ensures.built table program refl typed numbered built
    (levels_few program c.requires.within) 16384 (sums_within program c.requires.within) plan)
    (c.fits.ensures.waits table program refl typed numbered built plan)
    (c.may_be_lowered.ensures.once table program refl typed numbered plan)
    (c.fits.ensures.leads table program refl typed numbered built plan)
    (data_few program c.requires.within)
