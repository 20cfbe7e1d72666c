use Rattle.std.proofs.Common.{rules, ℤ, ap, ap₂, w32, ◌∙◌}
use Rattle.std.proofs.lemmas.Int.{to_z-of_z}
use Rattle.nim_program.specs.declared.expr.Label.TheVariants.{Ordinals}
use Rattle.word_lowering.specs.LineCode.{choice_code}
use Rattle.word_lowering.specs.Operations.{fits_code}
use Rattle.word_lowering.specs.Scope.{around_of}
use Rattle.word_lowering.proofs.Emits.{ok_as, put_as}
use Rattle.word_lowering.proofs.control.emit_choice.Goals as goal

pub returns-in-Ordinals : goal.returns-in-Ordinals
returns-in-Ordinals c =
    let f = c.in-Ordinals in
    let low = to_z-of_z w32 f.low (search rules) in
    let high = to_z-of_z w32 f.high (search rules) in
    rw f.is
    (ok_as c.emit_fits.result
    (λ p. put_as _ _ _ (choice_code (around_of c.args.x.now) (Ordinals f.low f.high) c.args.from c.args.to) p
    (λ k. ap₂ (λ (l h : ℤ). fits_code c.variable_of.result c.args.to l h k) low high
    ∙ ap (λ v. fits_code v c.args.to f.low f.high k) c.variable_of.ensures))
    c.emit_fits.ensures)
