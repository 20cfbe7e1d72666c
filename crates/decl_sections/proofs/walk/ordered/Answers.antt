use Rattle.std.proofs.Common.{[], length, refl, sym, ap, append-nil, ◌∙◌}
use Rattle.std.proofs.lemmas.List.{length-map}
use Rattle.std.specs.Prelude.{map}
use Rattle.nim_tree.specs.Types.{declaration_of}
use Rattle.nim_types.specs.Table.{facts_in, types_in}
use Rattle.expr_parts.specs.View.{Under, env_of}
use Rattle.decl_rules.specs.State.{State}
use Rattle.decl_sections.specs.ViewWalk.{own_by}
use Rattle.decl_sections.proofs.Outside.{begun_numbers}
use Rattle.decl_sections.proofs.Readying.{ready_begun}
use Rattle.decl_sections.proofs.Starts.{begun_frame, begun_holds, begun_stage, none_count}
use Rattle.decl_sections.proofs.walk.ordered.Goals as goal

pub walk-requires-clause-ready : goal.walk-requires-clause-ready
walk-requires-clause-ready c =
    ready_begun c.args.types.now c.args.scope.now c.begin.new.scope c.args.outside (map declaration_of c.args.defs.now) c.in_ok-frame.frame
    c.in_ok-frame.reading c.in_ok-frame.ensures.begins c.requires.ready

pub returns-in-Ok-clause-answers : goal.returns-in-Ok-clause-answers
returns-in-Ok-clause-answers c = λ ts st u e o.
    let ds = c.args.types.now in
    let old = c.args.scope.now in
    let all = map declaration_of c.args.defs.now in
    let frame = c.in_ok-frame.frame in
    let reading = c.in_ok-frame.reading in
    let b = c.in_ok-frame.ensures.begins in
    let v = c.walk.ensures.kept.under ts (facts_in c.walk.new.types) u in
    let f = begun_frame ts st ds old c.begin.new.scope c.args.outside c.args.home c.args.last all frame reading (facts_in ds) b c.requires.outside
    c.requires.ascends c.requires.far c.requires.ready.decls v e o in
    c.in-Ok.ensures.answers ts st old.decls (length ds) u f b.read (begun_stage ts st ds old c.begin.new.scope c.args.outside all frame reading b e o)

pub returns-in-Ok-clause-begins : goal.returns-in-Ok-clause-begins
returns-in-Ok-clause-begins c =
    let ds = c.args.types.now in
    let es = c.walk.new.types in
    let old = c.args.scope.now in
    let all = map declaration_of c.args.defs.now in
    let frame = c.in_ok-frame.frame in
    let reading = c.in_ok-frame.reading in
    let b = c.in_ok-frame.ensures.begins in
    let ts = types_in es in
    let u : Under es ts (facts_in es) = record { table = c.count-count.ensures.table; more = []; begins = sym (append-nil ts); said = refl } in
    let st : State = record {
      env = env_of ts (facts_in ds) old;
      outside = c.args.outside;
      node = 0;
      place = 0;
      procs = [];
      globals = [];
      text = [];
    } in
    let v = c.walk.ensures.kept.under ts (facts_in es) u in
    let f = begun_frame ts st ds old c.begin.new.scope c.args.outside c.args.home c.args.last all frame reading (facts_in ds) b c.requires.outside
    c.requires.ascends c.requires.far c.requires.ready.decls v refl refl in
    c.in-Ok.ensures.begins ts st old.decls (length ds) u f b.read (begun_stage ts st ds old c.begin.new.scope c.args.outside all frame reading b refl refl)

pub returns-clause-answers : goal.returns-clause-answers
returns-clause-answers c = λ ts st u e o.
    let ds = c.args.types.now in
    let old = c.args.scope.now in
    let all = map declaration_of c.args.defs.now in
    let frame = c.in_ok-frame.frame in
    let reading = c.in_ok-frame.reading in
    let b = c.in_ok-frame.ensures.begins in
    let v = c.walk.ensures.kept.under ts (facts_in c.walk.new.types) u in
    let f = begun_frame ts st ds old c.begin.new.scope c.args.outside c.args.home c.args.last all frame reading (facts_in ds) b c.requires.outside
    c.requires.ascends c.requires.far c.requires.ready.decls v e o in
    c.in-Err.ensures.answers ts st old.decls (length ds) u f b.read (begun_stage ts st ds old c.begin.new.scope c.args.outside all frame reading b e o)

pub walk-requires-clause-none_read : goal.walk-requires-clause-none_read
walk-requires-clause-none_read c = c.in_ok-frame.ensures.begins.read

pub walk-requires-clause-known : goal.walk-requires-clause-known
walk-requires-clause-known c =
    ap length c.in_ok-frame.ensures.begins.known ∙ none_count (map declaration_of c.args.defs.now) ∙ length-map c.args.defs.now declaration_of

pub walk-requires-clause-numbers : goal.walk-requires-clause-numbers
walk-requires-clause-numbers c =
    let b = c.in_ok-frame.ensures.begins in
    let all = map declaration_of c.args.defs.now in
    begun_numbers (own_by c.args.outside c.args.scope.now.decls) all c.in_ok-frame.frame.names (length c.in_ok-frame.reading.known.items) b.numbers
    (ap length b.known ∙ none_count all)

pub walk-requires-clause-holds : goal.walk-requires-clause-holds
walk-requires-clause-holds c =
    let b = c.in_ok-frame.ensures.begins in
    begun_holds c.args.types.now (map declaration_of c.args.defs.now) c.in_ok-frame.reading.known.items c.in_ok-frame.reading.read.items
    b.known b.read
