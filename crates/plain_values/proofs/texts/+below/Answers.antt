use Rattle.std.proofs.Common.{◌≡◌, ◌-◌, suc, ◌∙◌, ap, sym, arith}
use Rattle.nim_program.specs.Kinds.{below_distinct}
use Rattle.nim_types.specs.Table.{type_at, types_in, facts_in}
use Rattle.plain_values.specs.Entries.{base_at}
use Rattle.plain_values.proofs.TextRows.{below_none, below_some}
use Rattle.plain_values.proofs.texts.+below.Goals as goal

pub returns-in-None : goal.returns-in-None
returns-in-None t c =
    let ds = c.args.types.now in
    let h = sym (c.base_at.ensures ∙ ap base_at c.entry.ensures.is) ∙ c.in-None.is in
    sym (below_none ds c.entry.ensures.table c.args.often c.args.ty h)

pub returns-in-Some : goal.returns-in-Some
returns-in-Some t c =
    let ds = c.args.types.now in
    let n = c.args.often - 1 in
    let e : c.args.often ≡ suc n = omega (arith, c.if-often-eq0.false) in
    let h = sym (c.base_at.ensures ∙ ap base_at c.entry.ensures.is) ∙ c.in-Some.is in
    c.below.ensures
    ∙ sym (ap (λ n. below_distinct n (facts_in ds) (type_at (types_in ds) c.args.ty)) e ∙ below_some ds c.entry.ensures.table n c.args.ty c.in-Some.base h)
