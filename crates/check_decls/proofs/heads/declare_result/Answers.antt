use Rattle.std.proofs.Common.{ap, sym}
use Rattle.std.specs.Prelude.{option_map}
use Rattle.nim_tree.specs.Types.{written_of}
use Rattle.nim_program.specs.View.{if_type}
use Rattle.decl_rules.specs.Bodies.{result_at}
use Rattle.check_decls.proofs.Scopes.{result_written}
use Rattle.check_decls.proofs.heads.declare_result.Goals as goal

pub returns-in-Some-clause-place : goal.returns-in-Some-clause-place
returns-in-Some-clause-place c =
    result_written c.args.state.now.place c.type_place.result c.args.ty c.args.gives.now c.in-Some.tree c.typed_result.result c.in-Some.is
    c.type_place.ensures c.typed_result.ensures.place

pub returns-in-None-clause-place : goal.returns-in-None-clause-place
returns-in-None-clause-place c = λ ts.
    ap (λ o. result_at c.args.state.now.place (option_map written_of o) (if_type ts c.args.ty)) (sym c.in-None.is)
