use Rattle.std.proofs.Common.{◌≡◌, ◌+◌, length, take}
use Rattle.std.specs.Prelude.{map}
use Rattle.decl_rules.specs.Heads.{with_parameters}
use Rattle.decl_heads.specs.ViewHeads.{given_of, Declares}
use Rattle.decl_heads.proofs.given.declare_all.Given as goal

abbrev pub invariant-loop-param : goal.invariant-loop-param
invariant-loop-param l = record {
  done : Declares l.fn.state l.state (λ ts st. with_parameters st (map (given_of ts) (take l.param-index l.all)));
  place : l.state.place ≡ l.fn.state.place + length (take l.param-index l.all);
  types : l.state.types ≡ l.fn.state.types;
}
