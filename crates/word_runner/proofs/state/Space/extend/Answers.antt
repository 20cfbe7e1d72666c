use Rattle.std.proofs.Common.{ℕ, ◌+◌, ap, arith}
use Rattle.word_runner.specs.View.{space_is}
use Rattle.word_runner.proofs.Places.{extended}
use Rattle.word_runner.proofs.state.Space.extend.Goals as goal

pub returns : goal.returns
returns c =
    let places = c.args.self.now.places in
    extended (space_is c.args.self.now) (c.len.result + c.args.count) places.len c.args.count _ (omega (arith, places.ok.0))
    (ap (λ (n : ℕ). n + c.args.count) c.len.ensures) c.in_ok-resize.ensures.items
