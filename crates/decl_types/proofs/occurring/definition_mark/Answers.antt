use Rattle.std.proofs.Common.{sym, ap, ◌∙◌}
use Rattle.decl_types.specs.ViewMarks.{node_marks, meaning_mark}
use Rattle.decl_types.proofs.Marking.{definition_is}
use Rattle.decl_types.proofs.occurring.definition_mark.Goals as goal

pub returns-clause-mark : goal.returns-clause-mark
returns-clause-mark c =
    let d = c.args.definition.now in
    let marks = c.args.marks.now in
    let before = c.as_slice-2.ensures.value ∙ c.in_ok-before.ensures ∙ ap (node_marks marks) c.as_slice.ensures.value in
    sym (ap (λ all. meaning_mark all d.meaning) (sym before) ∙ c.meaning_mark.ensures)

pub returns-clause-occurs : goal.returns-clause-occurs
returns-clause-occurs c = λ n m w ts keys is_meant h a.
    let d = c.args.definition.now in
    let marks = c.args.marks.now in
    let before = c.as_slice-2.ensures.value ∙ c.in_ok-before.ensures ∙ ap (node_marks marks) c.as_slice.ensures.value in
    sym (ap (λ all. meaning_mark all d.meaning) (sym before) ∙ c.meaning_mark.ensures)
    ∙ definition_is ts keys n m marks is_meant d h a w.nodes w.fields
