use Rattle.std.proofs.Common.{◌≤◌, ◌+◌, List, length, sym, subst}
use Rattle.std.specs.Prelude.{All}
use Rattle.std.proofs.lemmas.Result.{err_from_is_err_and}
use Rattle.indent_scanner.specs.declared.token.Token.{Token}
use Rattle.indent_scanner.specs.Meaning.{IsSpelledIn}
use Rattle.indent_scanner.specs.Tokens.{Tokens}
use Rattle.nim_tree.specs.Statements.{tree_of}
use Rattle.source_compiler.specs.Source.{IsTree}
use Rattle.source_compiler.proofs.Stages.{refused_bytes, refused_tokens, typing_reads, typing_typed, typing_sound, typing_released, typing_named}
use Rattle.source_compiler.proofs.Stages.{typing_refuses}
use Rattle.source_compiler.proofs.ReadTrees.{trees_read}
use Rattle.source_compiler.proofs.source.read.Goals as goal

pub returns-in_err-tokens-clause-refused : goal.returns-in_err-tokens-clause-refused
returns-in_err-tokens-clause-refused c =
    let p = err_from_is_err_and c.from_residual.result c.from_residual.ensures.1 in
    rw (p.1, p.2) (refused_bytes c.args.source.now _ c.in_err-tokens.ensures.refused)

pub returns-in_err-tree-clause-refused : goal.returns-in_err-tree-clause-refused
returns-in_err-tree-clause-refused c =
    let source = c.args.source.now in
    let scanned = subst (Tokens source) (sym c.as_slice.ensures) c.in_ok-tokens.ensures.tokens in
    let p = err_from_is_err_and c.from_residual-in_err-tree.result c.from_residual-in_err-tree.ensures.1 in
    rw (p.1, p.2) (refused_tokens source c.as_slice.result.now _ scanned c.in_err-tree.ensures.refused)

pub returns-clause-reads : goal.returns-clause-reads
returns-clause-reads c =
    let source = c.args.source.now in
    let tree = tree_of c.in_ok-tree.tree in
    let scanned = subst (Tokens source) (sym c.as_slice.ensures) c.in_ok-tokens.ensures.tokens in
    let is : IsTree source c.as_slice.result.now tree = record { scanned = scanned; parsed = c.in_ok-tree.ensures.reads; few = c.in_ok-tree.ensures.few } in
    typing_reads source c.as_slice.result.now tree is c.programs_computed.ensures.programs c.elaborate.result c.elaborate.ensures.program

pub returns-clause-typed : goal.returns-clause-typed
returns-clause-typed c =
    let source = c.args.source.now in
    let tree = tree_of c.in_ok-tree.tree in
    let spelled = subst (λ (ts : List Token). All (IsSpelledIn source) ts) (sym c.as_slice.ensures) c.in_ok-tokens.ensures.spelled in
    let count = subst (λ (ts : List Token). length ts ≤ length source + 1) (sym c.as_slice.ensures) c.in_ok-tokens.ensures.count in
    let read = trees_read source c.as_slice.result.now tree spelled count c.requires c.in_ok-tree.ensures.reads in
    (typing_typed c.typed_programs.ensures c.programs_computed.ensures.programs tree read c.elaborate.result c.elaborate.ensures.program
    c.elaborate.ensures.whole).0

pub returns-clause-numbered : goal.returns-clause-numbered
returns-clause-numbered c =
    let source = c.args.source.now in
    let tree = tree_of c.in_ok-tree.tree in
    let spelled = subst (λ (ts : List Token). All (IsSpelledIn source) ts) (sym c.as_slice.ensures) c.in_ok-tokens.ensures.spelled in
    let count = subst (λ (ts : List Token). length ts ≤ length source + 1) (sym c.as_slice.ensures) c.in_ok-tokens.ensures.count in
    let read = trees_read source c.as_slice.result.now tree spelled count c.requires c.in_ok-tree.ensures.reads in
    (typing_typed c.typed_programs.ensures c.programs_computed.ensures.programs tree read c.elaborate.result c.elaborate.ensures.program
    c.elaborate.ensures.whole).1

pub returns-clause-named : goal.returns-clause-named
returns-clause-named c =
    let source = c.args.source.now in
    let tree = tree_of c.in_ok-tree.tree in
    let spelled = subst (λ (ts : List Token). All (IsSpelledIn source) ts) (sym c.as_slice.ensures) c.in_ok-tokens.ensures.spelled in
    let count = subst (λ (ts : List Token). length ts ≤ length source + 1) (sym c.as_slice.ensures) c.in_ok-tokens.ensures.count in
    let read = trees_read source c.as_slice.result.now tree spelled count c.requires c.in_ok-tree.ensures.reads in
    typing_named c.types_sound.ensures c.programs_computed.ensures.programs tree read c.elaborate.result c.elaborate.ensures.program
    c.elaborate.ensures.whole

pub returns-clause-sound : goal.returns-clause-sound
returns-clause-sound c =
    let source = c.args.source.now in
    let tree = tree_of c.in_ok-tree.tree in
    let spelled = subst (λ (ts : List Token). All (IsSpelledIn source) ts) (sym c.as_slice.ensures) c.in_ok-tokens.ensures.spelled in
    let count = subst (λ (ts : List Token). length ts ≤ length source + 1) (sym c.as_slice.ensures) c.in_ok-tokens.ensures.count in
    let read = trees_read source c.as_slice.result.now tree spelled count c.requires c.in_ok-tree.ensures.reads in
    typing_sound c.typed_programs.ensures c.lent_apart.ensures c.sound.ensures c.programs_computed.ensures.programs tree read c.elaborate.result
    c.elaborate.ensures.program c.elaborate.ensures.whole

pub returns-clause-released : goal.returns-clause-released
returns-clause-released c =
    let source = c.args.source.now in
    let tree = tree_of c.in_ok-tree.tree in
    let spelled = subst (λ (ts : List Token). All (IsSpelledIn source) ts) (sym c.as_slice.ensures) c.in_ok-tokens.ensures.spelled in
    let count = subst (λ (ts : List Token). length ts ≤ length source + 1) (sym c.as_slice.ensures) c.in_ok-tokens.ensures.count in
    let read = trees_read source c.as_slice.result.now tree spelled count c.requires c.in_ok-tree.ensures.reads in
    typing_released c.typed_programs.ensures c.lent_apart.ensures c.released.ensures c.programs_computed.ensures.programs tree read c.elaborate.result
    c.elaborate.ensures.program c.elaborate.ensures.whole

pub returns-clause-refused : goal.returns-clause-refused
returns-clause-refused c =
    let source = c.args.source.now in
    let tree = tree_of c.in_ok-tree.tree in
    let scanned = subst (Tokens source) (sym c.as_slice.ensures) c.in_ok-tokens.ensures.tokens in
    let is : IsTree source c.as_slice.result.now tree = record { scanned = scanned; parsed = c.in_ok-tree.ensures.reads; few = c.in_ok-tree.ensures.few } in
    typing_refuses source c.as_slice.result.now tree is c.programs_computed.ensures.refusals c.elaborate.result c.elaborate.ensures.program
