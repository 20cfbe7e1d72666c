use Rattle.std.proofs.Common.{◌≤◌, length, sym, ap, subst, ◌∙◌}
use Rattle.std.proofs.lemmas.Bool.{and_parts}
use Rattle.std.proofs.lemmas.Result.{IfOk-weaker}
use Rattle.rv32_isa.specs.Labels.{AreLines, hooks_lead}
use Rattle.word_code.specs.Words.{are_procs}
use Rattle.rv32_codegen.specs.Layout.{all_far, enters_no_hook, size}
use Rattle.rv32_codegen.specs.Lowering.{AlwaysDoes, MakeFrames, most_lines}
use Rattle.rv32_codegen.specs.LineBytes.{most_bytes}
use Rattle.rv32_codegen.proofs.Taken.{same_long}
use Rattle.rv32_codegen.proofs.Whole.{always_does, code_leads, code_unhooked, code_long}
use Rattle.rv32_codegen.proofs.Ranges.{code_fields}
use Rattle.rv32_codegen.proofs.Bytes.{code_bytes}
use Rattle.rv32_codegen.proofs.MadeFrames.{code_frames}
use Rattle.rv32_codegen.proofs.label_code.code.Goals as goal

pub emit_code-requires : goal.emit_code-requires
emit_code-requires c = same_long c.args.words.now.procs c.args.homes.now c.requires

pub returns-clause-does : goal.returns-clause-does
returns-clause-does c =
    let words = c.args.words.now in
    let homes = c.args.homes.now in
    IfOk-weaker c.emit_code.result _ _ (λ lines e. subst (λ x. AlwaysDoes x words homes) (sym e) (always_does words homes c.requires)) c.emit_code.ensures

pub returns-clause-frames : goal.returns-clause-frames
returns-clause-frames c = λ formed.
    let procs = c.args.words.now.procs in
    let homes = c.args.homes.now in
    let apart = (and_parts (are_procs procs) _ formed).0 in
    IfOk-weaker c.emit_code.result _ _ (λ lines e. subst (λ x. MakeFrames x procs homes) (sym e) (code_frames procs homes c.requires apart))
    c.emit_code.ensures

pub returns-clause-fits : goal.returns-clause-fits
returns-clause-fits c =
    IfOk-weaker c.emit_code.result _ _ (λ lines e. subst AreLines (sym e) (code_fields c.args.words.now.procs c.args.homes.now c.requires)) c.emit_code.ensures

pub returns-clause-leads : goal.returns-clause-leads
returns-clause-leads c = λ formed.
    IfOk-weaker c.emit_code.result _ _ (λ lines e. ap hooks_lead e ∙ code_leads c.args.words.now c.args.homes.now formed) c.emit_code.ensures

pub returns-clause-size : goal.returns-clause-size
returns-clause-size c =
    IfOk-weaker c.emit_code.result _ _
    (λ lines e. subst (λ x. length x ≤ most_lines c.args.words.now.procs) (sym e) (code_long c.args.words.now.procs c.args.homes.now)) c.emit_code.ensures

pub returns-clause-bytes : goal.returns-clause-bytes
returns-clause-bytes c =
    IfOk-weaker c.emit_code.result _ _
    (λ lines e. subst (λ x. size all_far x ≤ most_bytes c.args.words.now.procs) (sym e) (code_bytes c.args.words.now.procs c.args.homes.now c.requires))
    c.emit_code.ensures

pub returns-clause-unhooked : goal.returns-clause-unhooked
returns-clause-unhooked c = λ none.
    IfOk-weaker c.emit_code.result _ _ (λ lines e. ap enters_no_hook e ∙ code_unhooked c.args.words.now.procs c.args.homes.now none) c.emit_code.ensures
