use Rattle.std.proofs.Common.{ℕ, Option, List, refl, ap}
use Rattle.std.proofs.lemmas.List.{nil_from_length}
use Rattle.flat_code.specs.declared.line.From.{From}
use Rattle.word_code.specs.declared.word.WordInstr.{WordInstr}
use Rattle.word_lowering.specs.declared.homes.Housed.{Housed}
use Rattle.word_lowering.specs.LineCode.{Around, operands, operand, typed_code, texts_code}
use Rattle.word_lowering.specs.Scope.{around_of}
use Rattle.word_lowering.proofs.Emits.{put_as}
use Rattle.word_lowering.proofs.Pairs.{pairs_next, first_ends, second_ends}
use Rattle.word_lowering.proofs.writing.emit_texts.Goals as goal

-- the code of texts
abbrev code : (x : Around) → List (Option ℕ) → List From → List WordInstr → List WordInstr
code x tys fs k = texts_code x tys (operands x fs) k

pub loop-ty-preserved : goal.loop-ty-preserved
loop-ty-preserved c =
    let x = around_of c.args.x.now in
    let at = c.loop-ty in
    let ty = c.in-Some.ty.now in
    let from = c.in-Some-split_first.operand.now in
    pairs_next (code x) at.tys.now c.in-Some.more.now ty at.left.now c.in-Some-split_first.rest.now from
    (typed_code x ty (operand x from)) at.code c.emit_typed.new.code _
    c.in-Some.ensures.cases.0 c.in-Some-split_first.ensures.cases.0 (λ k. refl)
    (put_as _ _ _ _ c.in_ok-emit_typed.ensures (λ k. ap (λ (h : Housed). typed_code x ty h k) c.operand.ensures))
    at.invariant

pub returns-in_default-split_first : goal.returns-in_default-split_first
returns-in_default-split_first c =
    let at = c.loop-ty in
    second_ends (code (around_of c.args.x.now)) at.tys.now c.in-Some.more.now c.in-Some.ty.now at.left.now at.code _
    c.in-Some.ensures.cases.0 (nil_from_length at.left.now c.in_default-split_first.ensures.cases) (λ k. refl) at.invariant

pub returns-in_default : goal.returns-in_default
returns-in_default c =
    let at = c.loop-ty in
    first_ends (code (around_of c.args.x.now)) at.tys.now at.left.now at.code _
    (nil_from_length at.tys.now c.in_default.ensures.cases) (λ k. refl) at.invariant
