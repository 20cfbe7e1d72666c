use Rattle.std.proofs.Common.{ap, List, ◌∙◌, sym, Some, None}
use Rattle.std.specs.Prelude.{Option, option_map}
use Rattle.nim_tree.specs.declared.name.Declared.{Declared}
use Rattle.nim_tree.specs.Terms.{Term, term_of}
use Rattle.nim_program.specs.View.{if_type}
use Rattle.decl_rules.specs.Definitions.{constants_by}
use Rattle.decl_parts.specs.View.{state_of, Beside}
use Rattle.decl_parts.proofs.ForCallers.{stated_so}
use Rattle.nim_types.specs.Types.{Ty}
use Rattle.decl_stmts.proofs.constants.constants_by.Goals as goal

pub returns-in-Some : goal.returns-in-Some
returns-in-Some c =
    let names = c.args.def.now.names.items in
    let by = λ (ts : List Ty) (b : Beside) (o : Option Term) (l : List Declared). constants_by (state_of ts b c.args.state.now) (if_type ts c.args.ty) o l in
    stated_so (λ ts b. by ts b (option_map term_of c.args.def.now.value) names)
    (λ ts b u. ap (λ o. by ts b (option_map term_of o) names) c.in-Some.is ∙ ap (by ts b (Some (term_of c.in-Some.value)))
    (sym c.deref.ensures.value)) c.fix.ensures

pub returns-in-None : goal.returns-in-None
returns-in-None c =
    let names = c.args.def.now.names.items in
    let by = λ (ts : List Ty) (b : Beside) (o : Option Term) (l : List Declared). constants_by (state_of ts b c.args.state.now) (if_type ts c.args.ty) o l in
    stated_so (λ ts b. by ts b (option_map term_of c.args.def.now.value) names)
    (λ ts b u. ap (λ o. by ts b (option_map term_of o) names) c.in-None.is ∙ ap (by ts b None) (sym c.deref-in-None.ensures.value))
    (c.unfixed.ensures (λ ts. if_type ts c.args.ty))
