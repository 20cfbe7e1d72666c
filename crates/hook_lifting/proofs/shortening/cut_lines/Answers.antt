use Rattle.std.proofs.Common.{List, ◌∷◌, Option, None, subst}
use Rattle.flat_code.specs.declared.line.Line.TheVariants as L
use Rattle.hook_lifting.specs.declared.lifted.LiftedLine.{LiftedLine}
use Rattle.hook_lifting.specs.declared.lifted.LiftedLine.TheVariants as O
use Rattle.hook_lifting.specs.Lifted.{cutting_lines}
use Rattle.hook_lifting.specs.Written.{IsPut}
use Rattle.hook_lifting.proofs.Writing.{finished, puts_two}
use Rattle.hook_lifting.proofs.shortening.cut_lines.Goals as goal

pub returns : goal.returns
returns c =
    let of = c.args.of in
    finished c.put.new.self (λ k. cutting_lines of (O.Plain (L.Return None) ∷ k)) c.finish.result
    (subst (λ (o : Option (List LiftedLine)). IsPut o c.put.new.self (λ k. cutting_lines of (O.Plain (L.Return None) ∷ k))) c.new-lines.ensures
    (puts_two c.put_cutting.ensures c.put.ensures)) c.finish.ensures
