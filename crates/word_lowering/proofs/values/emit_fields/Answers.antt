use Rattle.std.proofs.Common.{ℕ, List, [], ◌∷◌, refl, ap}
use Rattle.std.proofs.lemmas.List.{nil_from_length}
use Rattle.flat_code.specs.declared.line.From.{From}
use Rattle.word_code.specs.declared.word.WordInstr.{WordInstr}
use Rattle.word_lowering.specs.declared.homes.Home.{Home}
use Rattle.word_lowering.specs.declared.homes.Housed.{Housed}
use Rattle.word_lowering.specs.LineCode.{Around, operands, operand, fields_code}
use Rattle.word_lowering.specs.Scope.{around_of}
use Rattle.word_lowering.proofs.Emits.{put_as}
use Rattle.word_lowering.proofs.Pairs.{pairs_next, first_ends, second_ends}
use Rattle.word_lowering.proofs.values.emit_fields.Goals as goal

-- the code of fields
abbrev code : (x : Around) → Home → (ty : ℕ) → List ℕ → List From → List WordInstr → List WordInstr
code x to ty fields fs k = fields_code x to ty fields (operands x fs) k

pub loop-field-preserved : goal.loop-field-preserved
loop-field-preserved c =
    let x = around_of c.args.x.now in
    let at = c.loop-field in
    let to = c.args.to in
    let ty = c.args.ty in
    let field = c.in-Some.field.now in
    let from = c.in-Some-split_first.from.now in
    pairs_next (code x to ty) at.numbers.now c.in-Some.more.now field at.left.now c.in-Some-split_first.rest.now from
    (λ k. fields_code x to ty (field ∷ []) (operand x from ∷ []) k) at.code c.emit_field.new.code _
    c.in-Some.ensures.cases.0 c.in-Some-split_first.ensures.cases.0 (λ k. refl)
    (put_as _ _ _ _ c.in_ok-emit_field.ensures (λ k. ap (λ (h : Housed). fields_code x to ty (field ∷ []) (h ∷ []) k) c.operand.ensures))
    at.invariant

pub returns-in_default-split_first : goal.returns-in_default-split_first
returns-in_default-split_first c =
    let at = c.loop-field in
    second_ends (code (around_of c.args.x.now) c.args.to c.args.ty) at.numbers.now c.in-Some.more.now c.in-Some.field.now at.left.now at.code _
    c.in-Some.ensures.cases.0 (nil_from_length at.left.now c.in_default-split_first.ensures.cases) (λ k. refl) at.invariant

pub returns-in_default : goal.returns-in_default
returns-in_default c =
    let at = c.loop-field in
    first_ends (code (around_of c.args.x.now) c.args.to c.args.ty) at.numbers.now at.left.now at.code _
    (nil_from_length at.numbers.now c.in_default.ensures.cases) (λ k. refl) at.invariant
