use Rattle.std.proofs.Common.{◌∙◌, ap, sym, subst, length}
use Rattle.std.specs.Prelude.{map}
use Rattle.decl_rules.specs.Heads.{parameters_of}
use Rattle.decl_heads.specs.ViewHeads.{given_of, GivenWithin}
use Rattle.decl_parts.proofs.ForCallers.{scope_by}
use Rattle.check_decls.proofs.Scopes.{head_new}
use Rattle.check_decls.proofs.heads.declare_new.Goals as goal

pub returns-clause-declared : goal.returns-clause-declared
returns-clause-declared c =
    let old = c.args.state.now in
    head_new old c.declare.new.self c.args.signature.now c.args.headed.now c.in_ok-params.params c.in_ok-name.name c.requires.new
    (c.in_ok-name.ensures ∙ c.as_slice-2.ensures)
    (scope_by old.scope c.declare.new.self c.in_ok-declare.ensures.ok c.declare.ensures.kinds c.declare.ensures.home)
    (λ ts. c.in_ok-params.ensures.params ts ∙ ap (λ l. parameters_of (map (given_of ts) l)) c.as_slice.ensures)
    (c.in_ok-params.ensures.within (length old.types) (subst (GivenWithin (length old.types)) (sym c.as_slice.ensures) c.requires.within.params))
    c.requires.within.gives c.requires.ready
