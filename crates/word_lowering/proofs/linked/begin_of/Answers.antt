use Rattle.std.proofs.Common.{◌≡◌, ◌<◌, ◌≤◌, ◌∙◌, length, get_or, ap, subst}
use Rattle.word_lowering.proofs.StackedWords.{found_begin, no_begin}
use Rattle.word_lowering.proofs.linked.begin_of.Goals as goal

pub returns-in-Some : goal.returns-in-Some
returns-in-Some c values h =
    found_begin c.args.stack.now.begins.items values c.args.n c.first_of.result c.in-Some.at.now h.begins c.first_of.ensures
    (subst (λ l. c.first_of.result < length l) c.deref.ensures.value c.in-Some.ensures.lookup.3.0)
    (subst (λ l. c.in-Some.at.now ≡ get_or l c.first_of.result c.in-Some.at.now) c.deref.ensures.value c.in-Some.ensures.lookup.1)

pub returns-in-None : goal.returns-in-None
returns-in-None c values h =
    ap length (c.as_slice.ensures.value ∙ h.words)
    ∙ no_begin c.args.stack.now.begins.items values c.args.n c.first_of.result h.begins c.first_of.ensures
    (subst (λ l. length l ≤ c.first_of.result) c.deref.ensures.value c.in-None.ensures.lookup.3)
