use Rattle.std.proofs.Common.{◌∙◌, ap, ap₂, sym, map, List}
use Rattle.std.specs.Prelude.{option_map}
use Rattle.nim_program.specs.declared.expr.Node.{Node}
use Rattle.nim_program.specs.declared.stmt.PlaceDecl.{PlaceDecl}
use Rattle.nim_program.specs.View.{declared_of, body_of, proc_of}
use Rattle.nim_meaning.specs.LeftOut.{earlier}
use Rattle.program_limits.specs.Known.{known_types, known_facts}
use Rattle.program_limits.specs.Frames.{procs_fault, start_fault}
use Rattle.program_limits.proofs.frames.frame_fault.Goals as goal

pub returns-in-None : goal.returns-in-None
returns-in-None c =
    let known = c.args.known.now in
    let ts = known_types known in
    let facts = known_facts known in
    let procs = map (proc_of ts) c.args.program.now.procs.items in
    let start = body_of ts c.args.program.now.start in
    let all = λ (ds : List PlaceDecl). earlier (procs_fault facts (map (declared_of ts) ds) procs) (start_fault facts (map (declared_of ts) ds) start) in
    ap (option_map (λ (node : Node). node.at))
    (sym c.in-None.is ∙ (c.earlier-found.ensures ∙ (ap₂ earlier c.procs_fault.ensures c.start_fault.ensures ∙ ap all c.as_slice-globals.ensures)))

pub returns : goal.returns
returns c =
    let known = c.args.known.now in
    let ts = known_types known in
    let facts = known_facts known in
    let procs = map (proc_of ts) c.args.program.now.procs.items in
    let start = body_of ts c.args.program.now.start in
    let all = λ (ds : List PlaceDecl). earlier (procs_fault facts (map (declared_of ts) ds) procs) (start_fault facts (map (declared_of ts) ds) start) in
    ap (option_map (λ (node : Node). node.at))
    (sym c.in-Some.is ∙ (c.earlier-found.ensures ∙ (ap₂ earlier c.procs_fault.ensures c.start_fault.ensures ∙ ap all c.as_slice-globals.ensures)))
