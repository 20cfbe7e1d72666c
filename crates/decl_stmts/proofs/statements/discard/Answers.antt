use Rattle.std.proofs.Common.{ap, List}
use Rattle.std.specs.Prelude.{Option, option_map}
use Rattle.nim_tree.specs.Statements as tree
use Rattle.nim_tree.specs.Terms.{Term, term_of}
use Rattle.decl_rules.specs.Stated.{stated}
use Rattle.decl_parts.specs.View.{state_of, Beside}
use Rattle.decl_parts.proofs.ForCallers.{stated_so}
use Rattle.nim_types.specs.Types.{Ty}
use Rattle.decl_stmts.proofs.statements.discard.Goals as goal

pub returns-in-Some : goal.returns-in-Some
returns-in-Some c = λ a ends.
    let by = λ (ts : List Ty) (b : Beside) (o : Option Term). stated (a ts) (ends ts) (state_of ts b c.args.state.now) (tree.discards c.args.at o) in
    stated_so (λ ts b. by ts b (option_map term_of c.args.value.now)) (λ ts b u. ap (λ o. by ts b (option_map term_of o)) c.in-Some.is)
    (c.discard_value.ensures a ends)

pub returns-in-None : goal.returns-in-None
returns-in-None c = λ a ends.
    let by = λ (ts : List Ty) (b : Beside) (o : Option Term). stated (a ts) (ends ts) (state_of ts b c.args.state.now) (tree.discards c.args.at o) in
    stated_so (λ ts b. by ts b (option_map term_of c.args.value.now)) (λ ts b u. ap (λ o. by ts b (option_map term_of o)) c.in-None.is)
    c.plain.ensures
