use Rattle.std.proofs.Common.{sym, ap, ◌∙◌}
use Rattle.std.specs.Prelude.{Bool, false, not, if◌then◌else◌}
use Rattle.decl_types.specs.ViewMarks.{definition_mark}
use Rattle.decl_types.proofs.occurring.is_next.Goals as goal

pub returns-then-not-mark_at : goal.returns-then-not-mark_at
returns-then-not-mark_at c =
    let named = definition_mark c.args.marks.now c.args.definition.now in
    sym (ap (λ (b : Bool). if b then not named else false) (c.mark_at.ensures ∙ c.if-not-mark_at.true))

pub returns : goal.returns
returns c =
    let named = definition_mark c.args.marks.now c.args.definition.now in
    sym (ap (λ (b : Bool). if b then not named else false) (c.mark_at.ensures ∙ c.if-not-mark_at.false) ∙ ap not (sym c.in_ok-mark.ensures.mark))
