use Rattle.std.proofs.Common.{◌≡◌, ℕ, List, ◌++◌, ◌∷◌, [], ◌+◌, take, drop, sym, ap, ◌∙◌, arith}
use Rattle.std.specs.Prelude.{Bool}
use Rattle.std.specs.HashSet.{contains}
use Rattle.std.proofs.lemmas.Bool.{not-true, not-false}
use Rattle.std.proofs.lemmas.List.{take-append-drop, take_all}
use Rattle.std.proofs.lemmas.Cmp.{nat_list_eq_equiv}
use Rattle.nim_types.specs.Types.{same_text}
use Rattle.expr_builds.proofs.Twice.{twice, seen_more, still_once, now_twice, one_more, names_twice}
use Rattle.expr_builds.proofs.tuples.has_twice.Goals as goal
use denote.Ref.{Bor}

flip : (a b : List ℕ) → same_text a b ≡ same_text b a
flip a b = nat_list_eq_equiv.symm a b

abbrev eq : Bor (List ℕ) → Bor (List ℕ) → Bool
eq a b = same_text a.now b.now

pub returns-then-not-branch-clause-twice : goal.returns-then-not-branch-clause-twice
returns-then-not-branch-clause-twice c =
    let at = c.loop-name in
    let names = c.args.names.now in
    let i = at.name-index in
    let k = c.as_slice.result in
    let more : take (i + 1) names ≡ take i names ++ k.now ∷ [] =
    one_more names i c.name-item.result c.name-item.is c.loop-name-test.true ∙ ap (λ y. take i names ++ y ∷ []) (sym c.as_slice.ensures) in
    names_twice names
    ∙ now_twice same_text flip k.now (take i names) (take (i + 1) names) names (drop (i + 1) names) more (take-append-drop (i + 1) names)
    (sym (at.invariant.seen k) ∙ not-false (contains eq at.seen k) (sym c.in_ok-insert.ensures.added ∙ c.if-not-branch.true))

pub loop-name-preserved : goal.loop-name-preserved
loop-name-preserved c =
    let at = c.loop-name in
    let names = c.args.names.now in
    let i = at.name-index in
    let k = c.as_slice.result in
    let more : take (i + 1) names ≡ take i names ++ k.now ∷ [] =
    one_more names i c.name-item.result c.name-item.is c.loop-name-test.true ∙ ap (λ y. take i names ++ y ∷ []) (sym c.as_slice.ensures) in
    record {
      seen = λ q.
          seen_more same_text flip q.now k.now (take i names) (take (i + 1) names) (contains eq at.seen q) (contains eq c.insert.new.self q) more
          (c.in_ok-insert.ensures.updates.0 q) (at.invariant.seen q);
      once = still_once same_text flip k.now (take i names) (take (i + 1) names) more at.invariant.once
          (sym (at.invariant.seen k) ∙ not-true (contains eq at.seen k) (sym c.in_ok-insert.ensures.added ∙ c.if-not-branch.false));
    }

pub returns-clause-twice : goal.returns-clause-twice
returns-clause-twice c =
    let at = c.loop-name in
    let names = c.args.names.now in
    names_twice names ∙ ap (twice same_text) (sym (take_all at.name-index names (omega (arith, c.loop-name-test.false)))) ∙ at.invariant.once
