use Rattle.std.proofs.Common.{subst}
use Rattle.std.specs.Prelude.{option_map}
use Rattle.arc_base.specs.Refusal.{and_then}
use Rattle.nim_tree.specs.Terms.{term_of}
use Rattle.nim_tree.specs.Types.{written_of}
use Rattle.decl_rules.specs.State.{State}
use Rattle.decl_rules.specs.Definitions.{constants_by}
use Rattle.decl_rules.specs.Written.{if_written}
use Rattle.decl_parts.specs.declared.state.State.{State as RustState}
use Rattle.decl_parts.specs.View.{state_of, Stating}
use Rattle.decl_parts.proofs.ForCallers.{stated_goes, stated_stops}
use Rattle.decl_stmts.proofs.constants.constants_in.Goals as goal

pub returns-in-Ok : goal.returns-in-Ok
returns-in-Ok c =
    let go = λ (st : State). and_then (if_written st.env (option_map written_of c.args.def.now.annotation)) (λ ty. constants_by st ty
    (option_map term_of c.args.def.now.value) c.args.def.now.names.items) in
    let new = c.constants_with.new.state in
    stated_goes (λ ts b (x : Unit {0}). go (state_of ts b c.args.state.now)) c.in-Ok.ensures.names
    (subst (λ (s : RustState). Stating c.new_names.new.state new (λ ts b (_ : Unit {0}). state_of ts b new)
    (λ ts b. go (state_of ts b s)) c.constants_with.result)
    c.in-Ok.ensures.same c.constants_with.ensures)

pub returns-in-Err : goal.returns-in-Err
returns-in-Err c =
    let go = λ (st : State). and_then (if_written st.env (option_map written_of c.args.def.now.annotation)) (λ ty. constants_by st ty
    (option_map term_of c.args.def.now.value) c.args.def.now.names.items) in
    stated_stops (λ ts b (_ : Unit {0}). state_of ts b c.new_names.new.state)
    (λ ts b (x : Unit {0}). go (state_of ts b c.args.state.now)) c.in-Err.ensures.names

pub constants_with-requires : goal.constants_with-requires
constants_with-requires c = record { ready = c.in-Ok.ensures.names.stands.ready }
