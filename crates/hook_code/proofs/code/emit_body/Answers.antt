use Rattle.std.proofs.Common.{◌≡◌, ℕ, false, List, [], ◌∷◌, ◌++◌, length, Ok, Err, OnOk, refl, sym, ap, ◌∙◌, append-nil}
use Rattle.std.specs.Prelude.{◌==◌, Result}
use Rattle.std.proofs.lemmas.Bool.{true≢false}
use Rattle.nim_types.specs.declared.types.TypeDef.{TypeDef}
use Rattle.word_code.specs.declared.word.WordInstr.{WordInstr}
use Rattle.hook_lifting.specs.declared.lifted.Hook.{Hook}
use Rattle.hook_lifting.specs.declared.lifted.LiftedLine.{LiftedLine}
use Rattle.hook_code.specs.Emission.{Puts}
use Rattle.hook_code.specs.HookCode.{lines_code, body_code}
use Rattle.hook_code.proofs.code.emit_body.Goals as goal

body_is : (table : List TypeDef) (first ty : ℕ) (hook : Hook) (lines : List LiftedLine) → (length lines == 0) ≡ false →
    lines_code table first ty lines [] ≡ body_code table first ty hook lines
body_is table first ty hook [] e = absurd (true≢false e)
body_is table first ty hook (line ∷ lines) e = refl

put_last : {E : Type 0} (r : Result (Unit {0}) E) (old new : List WordInstr) (put : List WordInstr → List WordInstr) (body : List WordInstr) → put [] ≡ body →
    OnOk r (Puts old new put) → OnOk r (new ≡ old ++ body)
put_last (Ok u) old new put body is p = sym (append-nil new) ∙ (p [] ∙ ap (λ l. old ++ l) is)
put_last (Err e) old new put body is p = tt

pub returns-else-is_empty : goal.returns-else-is_empty
returns-else-is_empty c =
    let x = c.args.x.now in
    put_last c.emit_lines.result c.args.code.now c.emit_lines.new.code (lines_code x.types.now x.first x.ty c.args.lines.now)
    (body_code x.types.now x.first x.ty c.args.hook c.args.lines.now)
    (body_is x.types.now x.first x.ty c.args.hook c.args.lines.now (sym c.is_empty.ensures ∙ c.if-is_empty.false)) c.emit_lines.ensures
