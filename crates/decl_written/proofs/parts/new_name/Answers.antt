use Rattle.std.proofs.Common.{◌≡◌, ◌∷◌, ◌∙◌, subst}
use Rattle.indent_scanner.specs.Words.{normal}
use Rattle.decl_written.specs.ViewWritten.{HasNames}
use Rattle.decl_written.proofs.NameSets.{added}
use Rattle.decl_written.proofs.parts.new_name.Goals as goal

pub returns-clause-seen : goal.returns-clause-seen
returns-clause-seen c = λ before h.
    let key = c.in_ok-copy.copy in
    let is : key ≡ normal c.args.text.now = c.in_ok-copy.ensures ∙ c.as_slice.ensures ∙ c.in_ok-name.ensures in
    subst (λ k. HasNames c.insert.new.self (k ∷ before)) is (added c.args.seen.now c.insert.new.self key before h c.in_ok-insert.ensures.updates.0)
