use Rattle.std.proofs.Common.{◌≡◌, ℕ, ◌+◌, ◌∷◌, length, drop, refl, sym, subst, ap, ◌∙◌, arith}
use Rattle.std.specs.Prelude.{map}
use Rattle.std.proofs.lemmas.List.{drop-map}
use Rattle.arc_base.specs.Refusal.{and_then}
use Rattle.nim_tree.specs.Types.{declaration_of}
use Rattle.nim_types.specs.Table.{facts_in}
use Rattle.expr_parts.proofs.ForCallers.{grown_same, next_item, none_left}
use Rattle.decl_rules.specs.Sections.{none_read, declarations_rule}
use Rattle.decl_types.proofs.ForCallers.{kept_grown, kept_on}
use Rattle.decl_sections.specs.ViewSpelled.{NumbersBelow}
use Rattle.decl_sections.proofs.Leading.{rest_stops}
use Rattle.decl_sections.proofs.reading.read_all.Goals as goal

pub loop-def-init : goal.loop-def-init
loop-def-init c = record {
  kept = kept_grown c.args.types.now c.args.types.now (grown_same c.args.types.now);
  ready = c.requires.ready;
  room = c.requires.room;
  holds = c.requires.holds;
  known = refl;
  stuck = c.requires.stuck;
  count = λ empty. ap length empty;
  left = λ ts st old n u f empty g. (none_read, g, refl);
}

pub returns-in-Err-clause-kept : goal.returns-in-Err-clause-kept
returns-in-Err-clause-kept c = kept_on c.args.types.now c.loop-def.types c.read.new.types c.loop-def.invariant.kept c.read.ensures.kept

pub returns-in-Err-clause-leads : goal.returns-in-Err-clause-leads
returns-in-Err-clause-leads c = λ ts st old n u f empty g.
    let at = c.loop-def in
    let defs = c.args.defs.now in
    let all = map declaration_of defs in
    let i = at.def-index in
    let x = c.def-item.result in
    let d = declaration_of x in
    let rest = map declaration_of (drop (i + 1) defs) in
    let e = next_item defs i x c.def-item.is c.loop-def-test.true in
    let w = at.invariant.left ts st old n (c.read.ensures.kept.under ts (facts_in c.read.new.types) u) f empty g in
    let here : drop (length at.reading.read.items) all ≡ d ∷ rest =
    ap (λ (k : ℕ). drop k all) (at.invariant.count empty) ∙ drop-map declaration_of i defs ∙ ap (map declaration_of) e in
    rest_stops (Unit {0}) st all none_read w.0 d rest c.in-Err.stop (w.2 ∙ ap (λ l. declarations_rule st all w.0 (map declaration_of l)) e)
    (c.in-Err.ensures.leads ts st all old n w.0 rest u f here w.1)

pub loop-def-preserved : goal.loop-def-preserved
loop-def-preserved c =
    let at = c.loop-def in
    let defs = c.args.defs.now in
    let i = at.def-index in
    let x = c.def-item.result in
    let e = next_item defs i x c.def-item.is c.loop-def-test.true in
    record {
      kept = kept_on c.args.types.now at.types c.read.new.types at.invariant.kept c.read.ensures.kept;
      ready = c.in-Ok.ensures.ready;
      room =
          let n = c.in-Ok.ensures.count in
          let m = c.in-Ok.ensures.known in
          let l = ap length e in
          omega (arith, at.invariant.room, n, m, l);
      holds = c.in-Ok.ensures.holds;
      known = c.in-Ok.ensures.known ∙ at.invariant.known;
      stuck = c.in-Ok.ensures.stuck;
      count = λ empty. let n = at.invariant.count empty in let m = c.in-Ok.ensures.count in omega (arith, n, m);
      left = λ ts st old n u f empty g.
          let all = map declaration_of defs in
          let d = declaration_of x in
          let rest = map declaration_of (drop (i + 1) defs) in
          let w = at.invariant.left ts st old n (c.read.ensures.kept.under ts (facts_in c.read.new.types) u) f empty g in
          let here : drop (length at.reading.read.items) all ≡ d ∷ rest =
          ap (λ (k : ℕ). drop k all) (at.invariant.count empty) ∙ drop-map declaration_of i defs ∙ ap (map declaration_of) e in
          let led = c.in-Ok.ensures.leads ts st all old n w.0 rest u f here w.1 in (
            led.0,
            led.2,
            w.2 ∙ ap (λ l. declarations_rule st all w.0 (map declaration_of l)) e ∙ ap (λ z. and_then z (λ s. declarations_rule st all s rest)) led.1,
          );
    }

pub returns-clause-leads : goal.returns-clause-leads
returns-clause-leads c = λ ts st old n u f empty g.
    let at = c.loop-def in
    let all = map declaration_of c.args.defs.now in
    let none = none_left c.args.defs.now at.def-index (omega (arith, c.loop-def-test.false)) in
    let w = at.invariant.left ts st old n u f empty g in
    (w.0, w.2 ∙ ap (λ l. declarations_rule st all w.0 (map declaration_of l)) none, w.1)

pub returns-clause-count : goal.returns-clause-count
returns-clause-count c = λ empty.
    let n = c.loop-def.invariant.count empty in
    let b = c.loop-def.auto.def-index-end in
    omega (arith, n, b, c.loop-def-test.false)

pub read-requires-clause-room : goal.read-requires-clause-room
read-requires-clause-room c =
    let at = c.loop-def in
    let l = ap length (next_item c.args.defs.now at.def-index c.def-item.result c.def-item.is c.loop-def-test.true) in
    omega (arith, at.invariant.room, l)

pub returns-clause-holds : goal.returns-clause-holds
returns-clause-holds c = c.loop-def.invariant.holds

pub returns-clause-known : goal.returns-clause-known
returns-clause-known c = c.loop-def.invariant.known

pub returns-clause-stuck : goal.returns-clause-stuck
returns-clause-stuck c = c.loop-def.invariant.stuck

pub read-requires-clause-numbers : goal.read-requires-clause-numbers
read-requires-clause-numbers c = subst (λ (m : ℕ). NumbersBelow m c.args.frame.now.names) (sym c.loop-def.invariant.known) c.requires.numbers
