use Rattle.std.proofs.Common.{[], ◌≡◌, ◌<◌, ◌≤◌, length, get_or, sym, subst, ◌∙◌}
use Rattle.plain_plan.specs.Views.{types_of}
use Rattle.plain_plan.proofs.Modes.{no_proc, of_proc, no_param, of_param}
use Rattle.plain_plan.proofs.known.mode_at.Goals as goal

pub returns-in-None : goal.returns-in-None
returns-in-None c =
    let a = c.args.around.now in
    sym (no_proc (types_of a) [] a.procs.now.items c.args.proc c.args.position
    (subst (λ l. length l ≤ c.args.proc) c.deref.ensures.value c.in-None.ensures.lookup.3))

pub returns-in-None-get : goal.returns-in-None-get
returns-in-None-get c =
    let a = c.args.around.now in
    let p = c.in-Some.proc.now in
    sym (of_proc (types_of a) [] a.procs.now.items c.args.proc c.args.position p
    (subst (λ l. c.args.proc < length l) c.deref.ensures.value c.in-Some.ensures.lookup.3.0)
    (subst (λ l. c.in-Some.proc.now ≡ get_or l c.args.proc c.in-Some.proc.now) c.deref.ensures.value c.in-Some.ensures.lookup.1)
    ∙ no_param (types_of a) [] p.params c.args.position
    (subst (λ l. length l ≤ c.args.position) c.as_slice.ensures c.in-None-get.ensures.lookup.3))

pub returns-in-Some-get : goal.returns-in-Some-get
returns-in-Some-get c =
    let a = c.args.around.now in
    let p = c.in-Some.proc.now in
    let q = c.in-Some-get.param.now in
    sym (of_proc (types_of a) [] a.procs.now.items c.args.proc c.args.position p
    (subst (λ l. c.args.proc < length l) c.deref.ensures.value c.in-Some.ensures.lookup.3.0)
    (subst (λ l. c.in-Some.proc.now ≡ get_or l c.args.proc c.in-Some.proc.now) c.deref.ensures.value c.in-Some.ensures.lookup.1)
    ∙ of_param (types_of a) [] p.params c.args.position q
    (subst (λ l. c.args.position < length l) c.as_slice.ensures c.in-Some-get.ensures.lookup.3.0)
    (subst (λ l. c.in-Some-get.param.now ≡ get_or l c.args.position c.in-Some-get.param.now) c.as_slice.ensures c.in-Some-get.ensures.lookup.1))
