use Rattle.std.proofs.Common.{sym, ap, ◌∙◌}
use Rattle.std.proofs.lemmas.Option.{none-some, same_Some}
use Rattle.std.specs.Option.{option_copied}
use Rattle.word_runner.proofs.Puts.{put_of}
use Rattle.word_runner.proofs.mean.put_bytes.Goals as goal

pub returns-in-None : goal.returns-in-None
returns-in-None g c = λ bytes e. absurd (none-some bytes (sym (ap option_copied c.in-None.is) ∙ c.bytes.ensures.bytes ∙ e))

pub returns-in-Some : goal.returns-in-Some
returns-in-Some g c =
    λ bytes e.
    put_of c.put_all.result _ _ _ _ c.in-Some.bytes.now bytes
    (same_Some c.in-Some.bytes.now bytes (sym (ap option_copied c.in-Some.is) ∙ c.bytes.ensures.bytes ∙ e))
    c.put_all.ensures.bytes c.put_all.ensures.front c.put_all.ensures.cause
