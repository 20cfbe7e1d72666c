use Rattle.std.proofs.Common.{◌∙◌, ap, refl}
use Rattle.check_decls.proofs.Beginning.{empty_scope}
use Rattle.check_decls.proofs.draft.Draft.new.Goals as goal

pub returns-clause-first : goal.returns-clause-first
returns-clause-first c = record {
  types = c.in_ok-kinds.ensures.types;
  scope = c.in_ok-scope.ensures ∙ ap empty_scope c.in_ok-kinds.ensures.kinds;
  outside = refl;
  node = refl;
  place = refl;
  globals = c.new-2.ensures;
  procs = c.new-3.ensures.items;
  completed = c.new-4.ensures.items;
  text = c.new-5.ensures;
  start = c.new-6.ensures.items;
}
