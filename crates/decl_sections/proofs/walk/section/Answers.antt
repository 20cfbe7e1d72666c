use Rattle.std.proofs.Common.{◌≡◌, [], sym, ap, subst, append-nil}
use Rattle.std.specs.Prelude.{Ok, map}
use Rattle.nim_tree.specs.Types.{declaration_of}
use Rattle.nim_types.specs.Table.{facts_in}
use Rattle.expr_parts.specs.View.{env_of}
use Rattle.expr_parts.proofs.ForCallers.{grown_same}
use Rattle.decl_rules.specs.Sections.{section_rule}
use Rattle.decl_types.proofs.ForCallers.{kept_grown}
use Rattle.decl_sections.proofs.Ending.{nothing_declared}
use Rattle.decl_types.proofs.ForCallers.{none_first}
use Rattle.decl_sections.proofs.walk.section.Goals as goal

pub ordered-requires : goal.ordered-requires
ordered-requires c = record {
  ready = c.requires.ready;
  outside = c.requires.outside;
  ascends = c.are_ascending.ensures c.if-not-are_ascending.false;
  far = c.are_far.ensures c.if-not-are_far.false;
}

pub returns-in_default-clause-kept : goal.returns-in_default-clause-kept
returns-in_default-clause-kept c = kept_grown c.args.types.now c.args.types.now (grown_same c.args.types.now)

pub returns-in_default-clause-answers : goal.returns-in_default-clause-answers
returns-in_default-clause-answers c = λ ts st u e o.
    subst (λ all. section_rule st all ≡ Ok (env_of ts (facts_in c.args.types.now) c.args.scope.now))
    (sym (ap (map declaration_of) (none_first c.args.defs.now c.in_default.ensures.value)))
    (nothing_declared st (env_of ts (facts_in c.args.types.now) c.args.scope.now) e)

pub returns-in_default-clause-begins : goal.returns-in_default-clause-begins
returns-in_default-clause-begins c = ([], sym (append-nil c.args.scope.now.decls))
