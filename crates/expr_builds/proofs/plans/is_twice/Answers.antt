use Rattle.std.proofs.Common.{◌≡◌, ℕ, List, ◌++◌, ◌∷◌, [], ◌+◌, take, drop, sym, ap, ◌∙◌, arith}
use Rattle.std.specs.Prelude.{nat_eq, map}
use Rattle.std.specs.HashSet.{contains}
use Rattle.std.proofs.lemmas.Bool.{not-true, not-false}
use Rattle.std.proofs.lemmas.List.{take-append-drop, take_all}
use Rattle.std.proofs.lemmas.Cmp.{nat_eq_equiv}
use Rattle.expr_parts.specs.declared.parts.Found.{Found}
use Rattle.expr_builds.proofs.Twice.{twice, seen_more, still_once, now_twice, next_number, numbers_twice, number_join}
use Rattle.expr_builds.proofs.plans.is_twice.Goals as goal

flip : (a b : ℕ) → nat_eq a b ≡ nat_eq b a
flip a b = nat_eq_equiv.symm a b

abbrev numbers : List Found → List ℕ
numbers fs = map (λ f. f.number) fs

pub returns-then-not-branch-clause-twice : goal.returns-then-not-branch-clause-twice
returns-then-not-branch-clause-twice c =
    let at = c.loop-found in
    let all = c.args.chosen.now in
    let i = at.found-index in
    let k = c.field_number.result in
    let more : numbers (take (i + 1) all) ≡ numbers (take i all) ++ k ∷ [] =
    next_number all i _ k c.loop-found-test.true c.field_number.ensures in
    let split : numbers (take (i + 1) all) ++ numbers (drop (i + 1) all) ≡ numbers all =
    sym (number_join (take (i + 1) all) (drop (i + 1) all)) ∙ ap numbers (take-append-drop (i + 1) all) in
    numbers_twice all
    ∙ now_twice nat_eq flip k (numbers (take i all)) (numbers (take (i + 1) all)) (numbers all) (numbers (drop (i + 1) all)) more split
    (sym (at.invariant.seen k) ∙ not-false (contains nat_eq at.seen k) (sym c.in_ok-insert.ensures.added ∙ c.if-not-branch.true))

pub loop-found-preserved : goal.loop-found-preserved
loop-found-preserved c =
    let at = c.loop-found in
    let all = c.args.chosen.now in
    let i = at.found-index in
    let k = c.field_number.result in
    let more : numbers (take (i + 1) all) ≡ numbers (take i all) ++ k ∷ [] =
    next_number all i _ k c.loop-found-test.true c.field_number.ensures in
    record {
      seen = λ q.
          seen_more nat_eq flip q k (numbers (take i all)) (numbers (take (i + 1) all)) (contains nat_eq at.seen q) (contains nat_eq c.insert.new.self q) more
          (c.in_ok-insert.ensures.updates.0 q) (at.invariant.seen q);
      once = still_once nat_eq flip k (numbers (take i all)) (numbers (take (i + 1) all)) more at.invariant.once
          (sym (at.invariant.seen k) ∙ not-true (contains nat_eq at.seen k) (sym c.in_ok-insert.ensures.added ∙ c.if-not-branch.false));
    }

pub returns-clause-twice : goal.returns-clause-twice
returns-clause-twice c =
    let at = c.loop-found in
    let all = c.args.chosen.now in
    numbers_twice all ∙ ap (λ fs. twice nat_eq (numbers fs)) (sym (take_all at.found-index all (omega (arith, c.loop-found-test.false))))
    ∙ at.invariant.once
