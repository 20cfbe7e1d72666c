use Rattle.std.proofs.Common.{◌≡◌, refl, ap, ◌∙◌, map}
use Rattle.nim_types.specs.Table.{types_in, facts_in}
use Rattle.nim_program.specs.View.{declared_of, program_under}
use Rattle.nim_program.specs.Sizes.{globals_size}
use Rattle.nim_program.specs.TextSizes.{all_bytes}
use Rattle.program_limits.specs.Data.{given_names, data_counted}
use Rattle.nim_program.specs.declared.text_sizes.TheConstants.{MOST_DATA}
use Rattle.nim_program.specs.Folds.{capped}
use Rattle.program_limits.proofs.Capping.{sum_two, fits_capped}
use Rattle.program_limits.proofs.data.data_fits.Goals as goal

given_bytes : 84 ≡ capped MOST_DATA (all_bytes given_names)
given_bytes = refl

pub returns : goal.returns
returns c =
    let table = c.args.program.now.types in
    let whole = data_counted (program_under (types_in table) (facts_in table) c.args.program.now) in
    let globals = c.globals_size-globals.ensures ∙
    ap (λ xs. capped MOST_DATA (globals_size (facts_in table) (map (declared_of (types_in table)) xs))) c.as_slice.ensures in
    let given = sum_two _ _ _ _ _ _ c.plus.ensures given_bytes c.in_ok-texts.ensures refl in
    let names = sum_two _ _ _ _ _ _ c.plus-names.ensures c.names_size.ensures given refl in
    let sum : c.plus-2.result ≡ capped MOST_DATA whole = sum_two _ _ _ _ _ _ c.plus-2.ensures globals names refl in
    fits_capped c.plus-2.result whole sum
