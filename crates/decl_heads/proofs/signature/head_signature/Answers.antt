use Rattle.std.proofs.Common.{◌∙◌, ap, sym, subst, List, length}
use Rattle.nim_tree.specs.Statements.{head_of}
use Rattle.nim_types.specs.declared.types.TypeDef.{TypeDef}
use Rattle.expr_parts.specs.View.{Grown}
use Rattle.decl_parts.specs.declared.state.State.{State}
use Rattle.decl_heads.specs.ViewHeads.{SignatureWithin}
use Rattle.decl_heads.proofs.Grouping.{left_state, begin_ready, signature_goes, signature_stops}
use Rattle.decl_heads.proofs.signature.head_signature.Goals as goal

pub returns-in-Ok-clause-said : goal.returns-in-Ok-clause-said
returns-in-Ok-clause-said c =
    let old = c.args.state.now in
    let inner = c.inside.new.state in
    signature_goes old inner _ c.count-count.result (head_of c.args.head.now) c.in-Ok.signature c.count-count.ensures c.requires.ready
    (left_state old inner _ c.count-count.result c.count-count.ensures c.in-Ok.ensures.extends
    (ap (λ (s : State). record s { place = old.place }) c.leave.ensures))
    c.inside.ensures.grown c.in-Ok.ensures.answers

pub returns-in-Ok-clause-same : goal.returns-in-Ok-clause-same
returns-in-Ok-clause-same c =
    let old = c.args.state.now in
    let inner = c.inside.new.state in
    let e = left_state old inner _ c.count-count.result c.count-count.ensures c.in-Ok.ensures.extends
    (ap (λ (s : State). record s { place = old.place }) c.leave.ensures) in
    e ∙ ap (λ (l : List TypeDef). record old { types = l }) (sym (ap (λ (s : State). s.types) c.leave.ensures))

pub returns-in-Ok-clause-within : goal.returns-in-Ok-clause-within
returns-in-Ok-clause-within c =
    subst (λ (l : List TypeDef). SignatureWithin (length l) c.in-Ok.signature) (sym (ap (λ (s : State). s.types) c.leave.ensures)) c.in-Ok.ensures.within

pub returns-in-Ok-clause-grown : goal.returns-in-Ok-clause-grown
returns-in-Ok-clause-grown c =
    subst (Grown c.args.state.now.types) (sym (ap (λ (s : State). s.types) c.leave.ensures)) c.inside.ensures.grown

pub returns-in-Err-clause-said : goal.returns-in-Err-clause-said
returns-in-Err-clause-said c =
    signature_stops c.args.state.now c.inside.new.state c.count-count.result (head_of c.args.head.now) c.in-Err.stop c.count-count.ensures
    c.inside.ensures.grown
    c.in-Err.ensures.answers

pub inside-requires : goal.inside-requires
inside-requires c = record { ready = begin_ready c.args.state.now c.count-count.result c.count-count.ensures c.requires.ready }
