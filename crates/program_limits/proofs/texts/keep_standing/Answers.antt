use Rattle.std.proofs.Common.{◌∙◌, sym, subst}
use Rattle.std.proofs.lemmas.Bool.{cond-true}
use Rattle.nim_program.specs.View.{literal_of}
use Rattle.program_limits.specs.Data.{has_links, literal_bytes, linked_bytes}
use Rattle.program_limits.specs.Meeting.{Met, with_text, with_linked}
use Rattle.program_limits.proofs.texts.keep_standing.Goals as goal

pub returns-then-has_links : goal.returns-then-has_links
returns-then-has_links c met h =
    let l = literal_of c.args.literal.now in
    let is = cond-true (has_links l) (with_linked (linked_bytes l) met) (with_text (literal_bytes l) met) (sym c.has_links.ensures ∙ c.if-has_links.true) in
    subst (λ found. Met c.link.new.texts found) (sym is) (c.link.ensures (linked_bytes l) met c.linked_bytes.ensures h)
