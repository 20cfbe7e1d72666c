use Rattle.std.proofs.Common.{◌≡◌, ◌≤◌, ℕ, List, length, subst, sym}
use Rattle.std.proofs.lemmas.Result.{IfOk-weaker}
use Rattle.indent_scanner.specs.declared.token.Tok.TheVariants as T
use Rattle.indent_scanner.specs.Grammar.{IsText}
use Rattle.indent_scanner.proofs.Characters.{text_text, meaning_short}
use Rattle.indent_scanner.proofs.text.characters_of.Goals as goal

pub returns-clause-characters : goal.returns-clause-characters
returns-clause-characters c =
    IfOk-weaker c.text_in.result _ (λ read. (values : List ℕ) → IsText c.args.text.now values → read ≡ values)
    (λ read is values t. text_text c.args.text.now read values t is) c.text_in.ensures

pub returns-clause-short : goal.returns-clause-short
returns-clause-short c =
    IfOk-weaker c.text_in.result _ (λ read. length read ≤ length c.args.text.now)
    (λ read is. subst (λ t. length t ≤ length c.args.text.now) (sym is) (meaning_short T.Text c.args.text.now)) c.text_in.ensures
