use Rattle.std.proofs.Common.{◌∙◌, ap, sym, Bool, true, List}
use Rattle.std.specs.Prelude.{Ok}
use Rattle.arc_base.specs.declared.place.Code.TheVariants.{NotTyped}
use Rattle.arc_base.specs.Refusal.{and_then, refused}
use Rattle.nim_types.specs.Table.{type_at, facts_in}
use Rattle.nim_program.specs.declared.expr.Node.{Node}
use Rattle.nim_program.specs.Program.{Path}
use Rattle.nim_program.specs.View.{expr_of, path_of as path_in}
use Rattle.expr_rules.specs.Answers.{Valued}
use Rattle.expr_rules.specs.Paths.{path_of}
use Rattle.expr_parts.specs.View.{valued_of}
use Rattle.decl_rules.specs.State.{did}
use Rattle.decl_rules.specs.Values.{accepted_if, assigned, is_source}
use Rattle.decl_parts.specs.View.{state_of, Beside}
use Rattle.decl_parts.proofs.ForCallers.{stated_so, stated_refuses, stated_forgets, further_same}
use Rattle.nim_types.specs.Types.{Ty}
use Rattle.decl_stmts.specs.ViewStated.{listed_stated}
use Rattle.decl_stmts.proofs.Made.{made_list}
use Rattle.decl_stmts.proofs.assignments.assignment.Goals as goal

pub returns : goal.returns
returns c =
    let old = c.args.state.now in
    let next = c.args.source.next in
    let by = λ (ts : List Ty) (b : Beside) (k : Bool) (p : Path). and_then (accepted_if k (valued_of ts c.args.source.value))
    (λ (z : Valued). Ok (did (state_of ts b old) (assigned c.args.op c.args.node p z.expr) next)) in
    let written = λ (ts : List Ty). path_of (expr_of ts c.args.target.expr) in
    stated_so (λ ts b. by ts b (is_source c.args.op (type_at ts c.args.target.ty) (type_at ts c.args.source.value.ty)) (written ts))
    (λ ts b u. ap (λ k. by ts b k (written ts)) (c.is_source.ensures ts (facts_in old.types) u ∙ c.if-not-is_source.false)
    ∙ ap (by ts b true) (sym (c.in-Ok.ensures.path ts)))
    (made_list old next (λ ts. assigned c.args.op c.args.node (path_in ts c.in-Ok.path) (expr_of ts c.args.source.value.expr)) c.written.result
    c.requires.ready c.written.ensures.list c.written.ensures.memory)

pub returns-then-not-is_source : goal.returns-then-not-is_source
returns-then-not-is_source c =
    let old = c.args.state.now in
    let next = c.args.source.next in
    let by = λ (ts : List Ty) (b : Beside) (k : Bool). and_then (accepted_if k (valued_of ts c.args.source.value))
    (λ (z : Valued). Ok (did (state_of ts b old) (assigned c.args.op c.args.node (path_of (expr_of ts c.args.target.expr)) z.expr) next)) in
    stated_refuses (λ ts b s. listed_stated ts b old s)
    (λ ts b. by ts b (is_source c.args.op (type_at ts c.args.target.ty) (type_at ts c.args.source.value.ty)))
    NotTyped c.node.result.at c.refusal.result (further_same old) c.refusal.ensures
    (λ ts b u. ap (by ts b) (c.is_source.ensures ts (facts_in old.types) u ∙ c.if-not-is_source.true)
    ∙ ap (λ (n : Node). refused NotTyped n.at) (sym (c.node.ensures ts)))

pub returns-in-Err : goal.returns-in-Err
returns-in-Err c =
    let old = c.args.state.now in
    let by = λ (ts : List Ty) (b : Beside) (k : Bool). and_then (accepted_if k (valued_of ts c.args.source.value))
    (λ (z : Valued). Ok (did (state_of ts b old) (assigned c.args.op c.args.node (path_of (expr_of ts c.args.target.expr)) z.expr) c.args.source.next)) in
    stated_forgets (λ ts b s. listed_stated ts b old s)
    (λ ts b. by ts b (is_source c.args.op (type_at ts c.args.target.ty) (type_at ts c.args.source.value.ty)))
    c.in-Err.stop (further_same old) c.in-Err.ensures.memory
