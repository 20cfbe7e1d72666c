use Rattle.std.proofs.Common.{◌≡◌, ◌-◌, ◌++◌, ◌∷◌, [], ◌∙◌, ℕ, length, take, drop, ap, ap₂}
use Rattle.word_lowering.specs.LaidTexts.{begins, stacked}
use Rattle.word_lowering.specs.Linked.{last_words}
use Rattle.word_lowering.proofs.StackedWords.{begins_left, stacked_split}
use Rattle.word_lowering.proofs.linked.join_values.Goals as goal

pub returns : goal.returns
returns c values h =
    let n : ℕ = c.args.n in
    record {
      words = h.words ∙ stacked_split values n;
      begins = c.in_ok-push.ensures.items ∙ ap₂ (λ ns m. ns ++ m ∷ [])
          (c.truncate.ensures.items ∙ ap₂ (λ m ns. take m ns) (c.first_of-first.ensures ∙ ap (λ ns. length ns - n) h.begins) h.begins
          ∙ begins_left values n)
          (c.begin_of-at.ensures values h);
    }
