use Rattle.std.proofs.Common.{sym, ◌∙◌, length}
use Rattle.expr_parts.specs.ViewDecls.{is_named}
use Rattle.expr_parts.proofs.Choosing.{what_within}
use Rattle.expr_parts.proofs.Indexing.{found_below}
use Rattle.expr_parts.proofs.Knowing.{stands_found, stands_none}
use Rattle.expr_parts.proofs.scope.Scope.find.Goals as goal

pub get-requires : goal.get-requires
get-requires c =
    let ds = c.args.self.now.decls in
    (found_below (is_named ds c.args.name.now) (length ds) c.in-Some.number (sym c.last.ensures ∙ c.in-Some.is)).1

pub returns-in-Some-clause-stands : goal.returns-in-Some-clause-stands
returns-in-Some-clause-stands c = λ ts facts.
    stands_found ts c.args.name.now c.args.self.now.decls c.in-Some.number c.get.result.now (sym c.last.ensures ∙ c.in-Some.is) c.get.ensures

pub returns-in-Some-clause-within : goal.returns-in-Some-clause-within
returns-in-Some-clause-within c = λ n h. what_within n c.args.self.now.decls c.in-Some.number c.get.result.now c.get.ensures h

pub returns-in-None-clause-stands : goal.returns-in-None-clause-stands
returns-in-None-clause-stands c = λ ts facts. stands_none ts c.args.name.now c.args.self.now.decls (sym c.last.ensures ∙ c.in-None.is)
