use Rattle.std.proofs.Common.{[]}
use Rattle.std.proofs.lemmas.List.{drop-map}
use Rattle.expr_parts.specs.View.{entry_of}
use Rattle.decl_rules.specs.Heads.{group_names}
use Rattle.decl_parts.specs.View.{state_of}
use Rattle.decl_parts.proofs.ForCallers.{names_so, names_same}
use Rattle.decl_heads.proofs.signature.new_names.Goals as goal

pub returns-clause-names : goal.returns-clause-names
returns-clause-names c =
    let old = c.args.state.now in
    names_so old c.check_names.new.scope c.check_names.result (λ ts b. group_names (state_of ts b old) c.args.has_result [] c.args.names.now) c.requires.ready
    (λ ts b. c.check_names.ensures.answers ts (state_of ts b old) (drop-map (entry_of ts) old.outside old.scope.decls)) c.check_names.ensures.same

pub returns-clause-same : goal.returns-clause-same
returns-clause-same c = names_same c.args.state.now c.check_names.new.scope c.check_names.result c.check_names.ensures.same

pub check_names-requires : goal.check_names-requires
check_names-requires c = record { outside = c.requires.ready.outside }
