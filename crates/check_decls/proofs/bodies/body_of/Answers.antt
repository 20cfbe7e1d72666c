use Rattle.std.proofs.Common.{◌∙◌, sym}
use Rattle.nim_tree.specs.Statements.{head_of, statements_of}
use Rattle.decl_parts.specs.View.{state_of}
use Rattle.decl_parts.proofs.ForCallers.{stated_so}
use Rattle.decl_heads.specs.ViewHeads.{headed_of}
use Rattle.check_decls.specs.ViewBodies.{body_rule}
use Rattle.std.specs.Prelude.{true, false}
use Rattle.decl_rules.specs.Stated.{has_statements}
use Rattle.check_decls.proofs.Scopes.{body_some, body_none, there_as}
use Rattle.check_decls.proofs.bodies.body_of.Goals as goal

pub returns-then-has_statements-clause-stated : goal.returns-then-has_statements-clause-stated
returns-then-has_statements-clause-stated c =
    let h = head_of c.args.head.now in
    let body = statements_of c.args.trees.now in
    stated_so (λ ts b. body_rule (state_of ts b c.args.state.now) h (headed_of ts c.args.signature.now c.args.headed.now) body)
    (λ ts b u. body_some (state_of ts b c.args.state.now) h (headed_of ts c.args.signature.now c.args.headed.now) body
    (sym c.has_statements.ensures ∙ c.if-has_statements.true)) (c.some_body.ensures.stated c.args.headed.now)

pub returns-else-has_statements-clause-stated : goal.returns-else-has_statements-clause-stated
returns-else-has_statements-clause-stated c =
    let h = head_of c.args.head.now in
    let body = statements_of c.args.trees.now in
    stated_so (λ ts b. body_rule (state_of ts b c.args.state.now) h (headed_of ts c.args.signature.now c.args.headed.now) body)
    (λ ts b u. body_none (state_of ts b c.args.state.now) h (headed_of ts c.args.signature.now c.args.headed.now) body
    (sym c.has_statements.ensures ∙ c.if-has_statements.false)) c.no_body.ensures.stated

pub returns-then-has_statements-clause-there : goal.returns-then-has_statements-clause-there
returns-then-has_statements-clause-there c =
    there_as c.some_body.result true (has_statements (statements_of c.args.trees.now)) (sym c.has_statements.ensures ∙ c.if-has_statements.true)
    c.some_body.ensures.there

pub returns-else-has_statements-clause-there : goal.returns-else-has_statements-clause-there
returns-else-has_statements-clause-there c =
    there_as c.no_body.result false (has_statements (statements_of c.args.trees.now)) (sym c.has_statements.ensures ∙ c.if-has_statements.false)
    c.no_body.ensures.there
