use Rattle.std.proofs.Common.{◌∙◌, ap, sym, Bool}
use Rattle.std.specs.Prelude.{◌||◌}
use Rattle.expr_rules.specs.Constructions.{is_among}
use Rattle.decl_rules.specs.State.{own_entries, is_declared}
use Rattle.decl_rules.specs.Heads.{is_result_name}
use Rattle.decl_heads.proofs.Opening.{turned}
use Rattle.decl_heads.proofs.given.is_taken.Goals as goal

pub returns-then-is_declared_since : goal.returns-then-is_declared_since
returns-then-is_declared_since c = λ st before h.
    let x = c.args.word.now in
    let r = is_result_name c.args.has_result x in
    turned (is_declared x (own_entries st)) (is_among x before) r
    ∙ ap (λ (b : Bool). b || r) (sym (h x) ∙ sym c.is_declared_since.ensures ∙ c.if-is_declared_since.true) ∙ sym c.if-is_declared_since.true

pub returns-else-is_declared_since : goal.returns-else-is_declared_since
returns-else-is_declared_since c = λ st before h.
    let x = c.args.word.now in
    let r = is_result_name c.args.has_result x in
    turned (is_declared x (own_entries st)) (is_among x before) r
    ∙ ap (λ (b : Bool). b || r) (sym (h x) ∙ sym c.is_declared_since.ensures ∙ c.if-is_declared_since.false) ∙ c.is_result_name.ensures
