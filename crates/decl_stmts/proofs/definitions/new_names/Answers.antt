use Rattle.std.proofs.Common.{ap, ◌∙◌, Bool, sym}
use Rattle.std.proofs.lemmas.List.{drop-map}
use Rattle.expr_parts.specs.View.{entry_of}
use Rattle.decl_rules.specs.Definitions.{names_by, names_rule, all_fit}
use Rattle.nim_tree.specs.Statements.{definition_of}
use Rattle.decl_parts.specs.View.{state_of}
use Rattle.decl_parts.proofs.ForCallers.{names_so, names_same, stated_so}
use Rattle.decl_stmts.proofs.definitions.new_names.Goals as goal

pub returns-clause-names : goal.returns-clause-names
returns-clause-names c =
    let old = c.args.state.now in
    stated_so (λ ts b. names_rule (state_of ts b old) c.args.binding (definition_of c.args.def.now))
    (λ ts b u. ap (λ (k : Bool). names_by (state_of ts b old) k (all_fit c.args.def.now.pragmas.items) c.args.def.now.names.items)
    c.is_whole-whole.ensures
    ∙ ap (λ (k : Bool). names_by (state_of ts b old) c.is_whole-whole.result k c.args.def.now.names.items)
    (ap all_fit (sym c.deref.ensures.value) ∙ c.all_fit-fits.ensures)
    ∙ ap (names_by (state_of ts b old) c.is_whole-whole.result c.all_fit-fits.result) (sym c.deref-2.ensures.value))
    (names_so old c.check_names.new.scope c.check_names.result
    (λ ts b. names_by (state_of ts b old) c.is_whole-whole.result c.all_fit-fits.result c.deref-2.result.now) c.requires.ready
    (λ ts b. c.check_names.ensures.answers ts (state_of ts b old) (drop-map (entry_of ts) old.outside old.scope.decls)) c.check_names.ensures.same)

pub returns-clause-same : goal.returns-clause-same
returns-clause-same c = names_same c.args.state.now c.check_names.new.scope c.check_names.result c.check_names.ensures.same

pub check_names-requires : goal.check_names-requires
check_names-requires c = record { outside = c.requires.ready.outside }
