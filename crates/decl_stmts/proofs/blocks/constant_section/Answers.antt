use Rattle.std.specs.Prelude.{Ok}
use Rattle.decl_rules.specs.State.{State}
use Rattle.decl_rules.specs.Stated.{passed}
use Rattle.decl_parts.proofs.ForCallers.{stated_goes, stated_stops}
use Rattle.decl_stmts.specs.ViewStated.{listed_stated}
use Rattle.decl_stmts.proofs.blocks.constant_section.Goals as goal

pub returns-in-Ok : goal.returns-in-Ok
returns-in-Ok c = stated_goes (λ ts b (st : State). Ok (passed st c.args.at)) c.in-Ok.ensures c.pass.ensures

pub returns-in-Err : goal.returns-in-Err
returns-in-Err c = stated_stops (λ ts b s. listed_stated ts b c.constants.new.state s) (λ ts b (st : State). Ok (passed st c.args.at)) c.in-Err.ensures

pub pass-requires : goal.pass-requires
pass-requires c = record { ready = c.in-Ok.ensures.stands.ready }
