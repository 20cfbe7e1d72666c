use Rattle.std.specs.Prelude.{map}
use Rattle.nim_tree.specs.Types.{declaration_of}
use Rattle.decl_stmts.proofs.Sectioning.{section_stated}
use Rattle.decl_stmts.proofs.sections.section.Goals as goal

pub returns : goal.returns
returns c =
    section_stated c.args.state.now c.section.new.types c.section.new.scope (map declaration_of c.args.all.now) c.section.result c.requires.ready
    c.section.ensures.kept c.section.ensures.ready c.section.ensures.begins c.section.ensures.answers

pub section-requires : goal.section-requires
section-requires c = record { ready = c.requires.ready.all; outside = c.requires.ready.outside }
