use Rattle.std.specs.Prelude.{Ok, map}
use Rattle.arc_base.specs.Refusal.{and_then}
use Rattle.nim_tree.specs.Types.{declaration_of}
use Rattle.expr_rules.specs.Env.{Env}
use Rattle.decl_rules.specs.Sections.{section_rule}
use Rattle.decl_rules.specs.State.{State}
use Rattle.decl_rules.specs.Stated.{passed}
use Rattle.decl_parts.specs.View.{state_of, Beside}
use Rattle.decl_parts.proofs.ForCallers.{stated_goes, stated_stops, stated_so}
use Rattle.decl_stmts.specs.ViewStated.{listed_stated}
use Rattle.decl_stmts.proofs.Scopes.{one_part}
use Rattle.std.proofs.Common.{sym, List}
use Rattle.nim_types.specs.Types.{Ty}
use Rattle.decl_stmts.proofs.blocks.type_section.Goals as goal

pub returns-in-Ok : goal.returns-in-Ok
returns-in-Ok c = λ a ends.
    let rule = λ (ts : List Ty) (b : Beside). section_rule (state_of ts b c.args.state.now) (map declaration_of c.args.all.now) in
    let with = λ (ts : List Ty) (b : Beside) (env : Env). record (state_of ts b c.args.state.now) { env = env } in
    stated_so (λ ts b. and_then (rule ts b) (λ env. Ok (passed (with ts b env) c.args.at)))
    (λ ts b u. sym (one_part (rule ts b) (with ts b) (λ st. Ok (passed st c.args.at))))
    (stated_goes (λ ts b (st : State). Ok (passed st c.args.at)) c.in-Ok.ensures c.pass.ensures)

pub returns-in-Err : goal.returns-in-Err
returns-in-Err c = λ a ends.
    let rule = λ (ts : List Ty) (b : Beside). section_rule (state_of ts b c.args.state.now) (map declaration_of c.args.all.now) in
    let with = λ (ts : List Ty) (b : Beside) (env : Env). record (state_of ts b c.args.state.now) { env = env } in
    stated_so (λ ts b. and_then (rule ts b) (λ env. Ok (passed (with ts b env) c.args.at)))
    (λ ts b u. sym (one_part (rule ts b) (with ts b) (λ st. Ok (passed st c.args.at))))
    (stated_stops (λ ts b s. listed_stated ts b c.section.new.state s) (λ ts b (st : State). Ok (passed st c.args.at)) c.in-Err.ensures)

pub pass-requires : goal.pass-requires
pass-requires c = record { ready = c.in-Ok.ensures.stands.ready }
