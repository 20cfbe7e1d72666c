use Rattle.std.proofs.Common.{◌∙◌, ap}
use Rattle.std.specs.Prelude.{slice_get}
use Rattle.number_sets.specs.Numbers.{is_stamped, is_among}
use Rattle.number_sets.proofs.numbers.Numbers.has.Goals as goal

pub returns : goal.returns
returns c =
    let t = c.self.inside in
    c.is_stamped.ensures ∙ ap (λ l. is_stamped t.time (slice_get l c.args.number)) c.deref.ensures.value ∙ c.self.invariant.same c.args.number ∙
    ap (is_among c.args.number) c.self.view_is
