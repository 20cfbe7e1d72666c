use Rattle.std.proofs.Common.{◌≡◌, ◌∙◌, sym, ap, arith, true}
use Rattle.nim_types.specs.Forms.{size}
use Rattle.nim_types.specs.Table.{type_at, types_in, facts_in}
use Rattle.nim_types.proofs.ForCallers.{count}
use Rattle.nim_program.specs.Sizes.{type_bytes}
use Rattle.nim_program.specs.declared.text_sizes.TheConstants.{MOST_DATA}
use Rattle.nim_program.specs.Folds.{capped}
use Rattle.program_limits.proofs.Globals.{int_beyond}
use Rattle.program_limits.proofs.data.bytes_of.Goals as goal

pub returns-then-ty-count : goal.returns-then-ty-count
returns-then-ty-count c =
    let ds = c.args.types.now in
    let beyond = int_beyond (types_in ds) c.args.ty (omega (arith, c.if-ty-count.true, c.count.ensures.count, count ds)) in
    let bytes : type_bytes (facts_in ds) (type_at (types_in ds) c.args.ty) ≡ 4 = ap (type_bytes (facts_in ds)) beyond in
    omega (arith, bytes)

pub returns : goal.returns
returns c =
    let h = c.requires c.args.ty (omega (arith, c.if-ty-count.false, c.count.ensures.count)) in
    let stored = c.size_of.ensures true h.0 h.1 in
    let few : c.capped.result ≡ capped MOST_DATA (size h.0) = omega (arith, c.capped.ensures, stored) in
    few ∙ ap (λ f. capped MOST_DATA (size f)) (sym (c.type_forms.ensures.computed _ _ h.0 h.1))
