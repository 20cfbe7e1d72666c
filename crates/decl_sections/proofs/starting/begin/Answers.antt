use Rattle.std.proofs.Common.{refl, sym, ap, ◌∙◌}
use Rattle.std.specs.Prelude.{None, map, replicate}
use Rattle.std.proofs.lemmas.List.{length-map}
use Rattle.nim_tree.specs.Types.{declaration_of}
use Rattle.decl_written.proofs.ForCallers.{no_names}
use Rattle.decl_sections.proofs.Starts.{none_is}
use Rattle.decl_sections.proofs.starting.begin.Goals as goal

pub returns-clause-begins : goal.returns-clause-begins
returns-clause-begins c =
    let defs = c.args.defs.now in
    record {
      decls = c.in_ok-numbers.ensures.decls;
      kinds = c.declare_types.ensures.kinds;
      home = c.declare_types.ensures.home;
      known = c.in_ok-known.ensures.types ∙ ap (λ n. replicate n None) (sym (length-map defs declaration_of)) ∙ none_is (map declaration_of defs);
      numbers = c.in_ok-numbers.ensures.numbers;
      start = c.count-start.ensures;
      names = c.in_ok-all.ensures.names;
      begins = refl;
      starts = c.count-start.ensures;
      seen = no_names c.new.result c.new.ensures.empty;
      read = c.new-2.ensures.items;
    }
