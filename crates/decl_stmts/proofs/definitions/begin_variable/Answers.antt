use Rattle.nim_types.specs.Table.{type_at}
use Rattle.decl_rules.specs.Definitions.{if_global}
use Rattle.decl_parts.specs.View.{place_of}
use Rattle.decl_stmts.proofs.Defining.{begun, globals_only, numbers_only}
use Rattle.decl_stmts.proofs.definitions.begin_variable.Goals as goal
use Rattle.std.proofs.Common.{refl, ap, ◌∙◌}

pub returns-clause-behind : goal.returns-clause-behind
returns-clause-behind c = λ ts b.
    begun ts b c.args.state.now c.note_global.new.state c.in_ok-further.further c.args.next
    (if_global c.args.outermost (place_of c.args.state.now.place c.args.name.now.text c.args.name.now.at (type_at ts c.args.ty)))
    c.note_global.ensures.same c.in_ok-further.ensures.next (c.in_ok-note_global.ensures.globals ts)

pub returns-clause-place : goal.returns-clause-place
returns-clause-place c = λ ts.
    c.in_ok-place.ensures.place ts
    ∙ ap (λ x. place_of c.args.state.now.place x c.args.name.now.at (type_at ts c.args.ty)) c.as_slice.ensures

pub returns-clause-kept : goal.returns-clause-kept
returns-clause-kept c = numbers_only c.args.next c.in_ok-further.further (globals_only c.note_global.ensures.same)

pub returns-in_err-further-clause-kept : goal.returns-in_err-further-clause-kept
returns-in_err-further-clause-kept c = record { types = refl; scope = refl; outside = refl }

pub returns-in_err-note_global-clause-kept : goal.returns-in_err-note_global-clause-kept
returns-in_err-note_global-clause-kept c = globals_only c.note_global.ensures.same

pub returns-in_err-place-clause-kept : goal.returns-in_err-place-clause-kept
returns-in_err-place-clause-kept c = globals_only c.note_global.ensures.same
