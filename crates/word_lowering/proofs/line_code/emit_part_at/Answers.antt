use Rattle.std.proofs.Common.{ap, ◌∙◌}
use Rattle.word_lowering.specs.declared.homes.Housed.{Housed}
use Rattle.word_lowering.specs.LineCode.{part_code, led, location}
use Rattle.word_lowering.specs.Scope.{around_of}
use Rattle.word_lowering.specs.Stored.{part_at}
use Rattle.word_lowering.proofs.Emits.{ok_as, put_as}
use Rattle.word_lowering.proofs.line_code.emit_part_at.Goals as goal

pub returns : goal.returns
returns c =
    let a = c.args in
    let x = around_of a.x.now in
    let table = a.x.now.types.now in
    let whole = c.location-whole in
    let at = c.in_ok-at.ensures ∙ ap (λ (h : Housed). part_at table h.ty a.field) whole.ensures in
    ok_as c.emit_part.result
    (λ p. put_as _ _ _ (part_code (led x a.to) (location x a.from).home (part_at table (location x a.from).ty a.field)) p
    (λ k. ap (λ n. part_code n whole.result.home c.in_ok-at.at k) c.led.ensures
    ∙ ap (λ (h : Housed). part_code (led x a.to) h.home c.in_ok-at.at k) whole.ensures
    ∙ ap (λ n. part_code (led x a.to) (location x a.from).home n k) at))
    c.emit_part.ensures
