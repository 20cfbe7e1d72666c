use Rattle.std.proofs.Common.{◌≡◌, [], ◌∷◌, ◌++◌, ◌∙◌, ap₂, refl, length, arith}
use Rattle.check_uses.specs.declared.text.Item.TheVariants as item
use Rattle.check_decls.proofs.draft.note_code.Goals as goal

pub returns-clause-noted : goal.returns-clause-noted
returns-clause-noted c =
    let old = c.args.draft.now in
    let more = c.args.more in
    let first : c.in_ok-first.first ≡ length old.start.items = omega (arith, c.in_ok-first.ensures.number, c.len.ensures, old.start.ok.0) in
    let count : c.in_ok-count.count ≡ length more.items = omega (arith, c.in_ok-count.ensures.number, c.len-2.ensures, more.ok.0) in
    record {
      text = c.in_ok-push.ensures.ok ∙ ap₂ (λ a b. old.text ++ item.Code a b ∷ []) first count;
      start = c.in_ok-append.ensures.all;
      state = refl;
      procs = refl;
      completed = refl;
    }
