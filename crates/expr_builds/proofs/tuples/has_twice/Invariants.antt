use Rattle.std.proofs.Common.{◌≡◌, ℕ, List, take, false}
use Rattle.std.specs.HashSet.{contains}
use Rattle.nim_types.specs.Types.{same_text}
use Rattle.expr_builds.proofs.Twice.{among, twice}
use Rattle.expr_builds.proofs.tuples.has_twice.Given as goal
use denote.Ref.{Bor}

abbrev pub invariant-loop-name : goal.invariant-loop-name
invariant-loop-name l = record {
  seen : (q : Bor (List ℕ)) → contains (λ (a b : Bor (List ℕ)). same_text a.now b.now) l.seen q ≡ among same_text q.now (take l.name-index l.names);
  once : twice same_text (take l.name-index l.names) ≡ false;
}
