use Rattle.std.proofs.Common.{refl, subst, suc, List}
use Rattle.indent_scanner.specs.declared.token.Token.{Token}
use Rattle.nim_tree.specs.declared.name.Declared.{Declared}
use Rattle.parse_exprs.specs.Input.{origin_of, from_at}
use Rattle.parse_decls.specs.Look.{proc_name_on}
use Rattle.parse_decls.specs.Run.{run_shown}
use Rattle.parse_decls.specs.Gives.{Comes}
use Rattle.parse_decls.proofs.Places.{stands_within}
use Rattle.parse_decls.proofs.name.read_proc_name.Goals as goal

pub read_shown-requires : goal.read_shown-requires
read_shown-requires c =
    record {
      within = stands_within (proc_name_on c.args.layout) refl c.args.at c.args.input.now.tokens.now c.proc_name_on-name.result
          c.proc_name_on-name.ensures;
    }

pub returns : goal.returns
returns c =
    let ts : List Token = from_at c.args.input.now c.args.at in
    subst (λ o. Comes {T = Declared} {X = Declared} (λ name. name) (λ k. run_shown (origin_of c.args.input.now) c.args.layout o ts) c.args.input.now
    (suc c.args.at) c.read_shown.result) c.proc_name_on-name.ensures c.read_shown.ensures
