use Rattle.std.proofs.Common.{ℕ, suc, ◌+◌, ◌*◌, List, length, refl, sym, subst, ap, ap₂, ◌∙◌}
use Rattle.std.proofs.lemmas.List.{nil_from_length}
use Rattle.flat_code.specs.declared.line.From.{From}
use Rattle.word_code.specs.declared.word.WordInstr.{WordInstr}
use Rattle.word_lowering.specs.declared.homes.Housed.{Housed}
use Rattle.word_lowering.specs.declared.may_lower.TheConstants.{MOST_ROOM}
use Rattle.word_lowering.specs.Layouts.{AllBeginBy}
use Rattle.word_lowering.specs.LineCode.{Around, operands, operand, argument_code, arguments_code}
use Rattle.word_lowering.specs.Scope.{around_of}
use Rattle.word_lowering.proofs.Emits.{put_as}
use Rattle.word_lowering.proofs.Operands.{operands_length}
use Rattle.word_lowering.proofs.Pairs.{pairs_next, first_ends, second_ends}
use Rattle.word_lowering.proofs.calls.emit_arguments.Goals as goal

-- the code of arguments
abbrev code : (x : Around) (label : ℕ) → List Housed → List From → List WordInstr → List WordInstr
code x label ps fs k = arguments_code x label ps (operands x fs) k

pub emit_argument-requires-clause-param : goal.emit_argument-requires-clause-param
emit_argument-requires-clause-param c = (subst (AllBeginBy MOST_ROOM) c.in-Some.ensures.cases.0 c.loop-param.invariant.params).0

pub loop-param-preserved : goal.loop-param-preserved
loop-param-preserved c =
    let x = around_of c.args.x.now in
    let label = c.args.label in
    let at = c.loop-param in
    let home = c.in-Some.param.now.home in
    let rest = c.in-Some-split_first.rest.now in
    let from = c.in-Some-split_first.operand.now in
    let own = c.in_ok-own.ensures ∙ ap (λ n. label + 2 * suc n) (sym (operands_length x rest)) in
    record {
      params = (subst (AllBeginBy MOST_ROOM) c.in-Some.ensures.cases.0 at.invariant.params).1;
      code = pairs_next (code x label) at.params.now c.in-Some.more.now c.in-Some.param.now at.left.now rest from
          (argument_code x (label + 2 * suc (length (operands x rest))) home (operand x from)) at.code c.emit_argument.new.code _
          c.in-Some.ensures.cases.0 c.in-Some-split_first.ensures.cases.0 (λ k. refl)
          (put_as _ _ _ _ c.in_ok-emit_argument.ensures (λ k. ap₂ (λ (l : ℕ) (h : Housed). argument_code x l home h k) own c.operand.ensures))
          at.invariant.code;
    }

pub returns-in_default-split_first : goal.returns-in_default-split_first
returns-in_default-split_first c =
    let at = c.loop-param in
    second_ends (code (around_of c.args.x.now) c.args.label) at.params.now c.in-Some.more.now c.in-Some.param.now at.left.now at.code _
    c.in-Some.ensures.cases.0 (nil_from_length at.left.now c.in_default-split_first.ensures.cases) (λ k. refl) at.invariant.code

pub returns-in_default : goal.returns-in_default
returns-in_default c =
    let at = c.loop-param in
    first_ends (code (around_of c.args.x.now) c.args.label) at.params.now at.left.now at.code _
    (nil_from_length at.params.now c.in_default.ensures.cases) (λ k. refl) at.invariant.code
