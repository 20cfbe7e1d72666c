use Rattle.std.proofs.Common.{◌≡◌, ◌<◌, ℕ, suc, sym, refl, subst, ap, ◌∙◌, Some, length, drop, arith}
use Rattle.std.specs.Prelude.{map, Option}
use Rattle.nim_types.specs.Table.{facts_in}
use Rattle.nim_program.specs.View.{if_type}
use Rattle.expr_parts.specs.View.{parameter_of, entry_of}
use Rattle.expr_parts.specs.ViewDecls.{is_named, last_of}
use Rattle.expr_parts.proofs.ForCallers.{found_below, next_smaller, up_to, what_within}
use Rattle.decl_rules.specs.Heads.{completion_rule, earlier}
use Rattle.decl_parts.specs.View.{state_of}
use Rattle.decl_heads.proofs.Earlier.{IsBefore, earlier_kept, earlier_found, earlier_none}
use Rattle.decl_heads.proofs.completion.completion_in.Goals as goal

pub loop-next-init : goal.loop-next-init
loop-next-init c =
    let s = c.args.state.now in
    let ds = s.scope.decls in (
      length ds,
      c.last-next.ensures,
      omega arith,
      c.requires.ready.outside,
      λ ts b at u h.
          let ps = map (parameter_of ts) c.args.params.now in
          ap (completion_rule (state_of ts b s) at c.args.has_body ps (if_type ts c.args.gives)) (earlier_none ts c.args.name.now ps ds),
    )

pub get-requires : goal.get-requires
get-requires c =
    let now = c.loop-next.invariant in
    let found = found_below (is_named c.args.state.now.scope.decls c.args.name.now) now.0 c.in-Some.number (sym now.1 ∙ c.in-Some.is) in
    omega (arith, found.1, now.2)

pub completion_at-completion-requires-clause-what : goal.completion_at-completion-requires-clause-what
completion_at-completion-requires-clause-what c =
    let s = c.args.state.now in
    what_within (length s.types) s.scope.decls c.in-Some.number c.get.result.now c.get.ensures c.requires.ready.all.decls

pub before-next-requires : goal.before-next-requires
before-next-requires c =
    let now = c.loop-next.invariant in
    (found_below (is_named c.args.state.now.scope.decls c.args.name.now) now.0 c.in-Some.number (sym now.1 ∙ c.in-Some.is)).0

pub loop-next-smaller : goal.loop-next-smaller
loop-next-smaller c =
    let i = c.in-Some.number in
    subst (λ (o : Option ℕ). up_to c.before-next.result < up_to o) (sym c.in-Some.is)
    (subst (λ (o : Option ℕ). up_to o < suc i) (sym c.before-next.ensures) (next_smaller c.args.state.now.scope.decls c.args.name.now i))

pub loop-next-preserved : goal.loop-next-preserved
loop-next-preserved c =
    let s = c.args.state.now in
    let ds = s.scope.decls in
    let x = c.args.name.now in
    let i = c.in-Some.number in
    let d = c.get.result.now in
    let now = c.loop-next.invariant in
    let is : last_of ds x now.0 ≡ Some i = sym now.1 ∙ c.in-Some.is in
    let found = found_below (is_named ds x) now.0 i is in (
      i,
      c.before-next.ensures,
      omega (arith, found.1, now.2),
      c.if-number-state.false,
      λ ts b at u h.
          let ps = map (parameter_of ts) c.args.params.now in
          ap (completion_rule (state_of ts b s) at c.args.has_body ps (if_type ts c.args.gives)) (earlier_found ts x ps ds now.0 i d now.2 is c.get.ensures)
          ∙ c.completion_at-completion.ensures ts (facts_in s.types) b (state_of ts b s) at d.name (earlier x ps (drop now.0 (map (entry_of ts) ds))) u h
          refl (now.4 ts b at u h),
    )

pub returns-then-number-state : goal.returns-then-number-state
returns-then-number-state c = λ ts b at u h.
    let s = c.args.state.now in
    let ds = s.scope.decls in
    let x = c.args.name.now in
    let now = c.loop-next.invariant in
    let ps = map (parameter_of ts) c.args.params.now in
    ap (completion_rule (state_of ts b s) at c.args.has_body ps (if_type ts c.args.gives))
    (earlier_kept ts x ps ds s.outside now.0 now.3 now.2 (subst (IsBefore s.outside) (sym (sym now.1 ∙ c.in-Some.is)) c.if-number-state.true))
    ∙ now.4 ts b at u h

pub returns : goal.returns
returns c = λ ts b at u h.
    let s = c.args.state.now in
    let ds = s.scope.decls in
    let x = c.args.name.now in
    let now = c.loop-next.invariant in
    let ps = map (parameter_of ts) c.args.params.now in
    ap (completion_rule (state_of ts b s) at c.args.has_body ps (if_type ts c.args.gives))
    (earlier_kept ts x ps ds s.outside now.0 now.3 now.2 (subst (IsBefore s.outside) (sym (sym now.1 ∙ c.in_default.is)) tt))
    ∙ now.4 ts b at u h
