use Rattle.std.proofs.Common.{◌∙◌, ap, Bool}
use Rattle.std.specs.Prelude.{not}
use Rattle.nim_program.specs.View.{if_type}
use Rattle.expr_parts.specs.View.{parameter_of}
use Rattle.decl_parts.proofs.Matching.{shower_by, shower_not}
use Rattle.decl_parts.proofs.heads.shows_one.Goals as goal

pub returns-then-not-gives_text : goal.returns-then-not-gives_text
returns-then-not-gives_text c = λ ts facts u.
    shower_not (parameter_of ts c.args.param) (if_type ts c.args.gives) (c.gives_text.ensures ts facts u ∙ c.if-not-gives_text.true)

pub returns : goal.returns
returns c = λ ts facts u.
    shower_by (parameter_of ts c.args.param) (if_type ts c.args.gives) (c.gives_text.ensures ts facts u ∙ c.if-not-gives_text.false)
    ∙ ap (λ (b : Bool). not b) c.is_var.ensures
