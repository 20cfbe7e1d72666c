use Rattle.std.proofs.Common.{◌≡◌, ◌≤◌, length, subst, sym}
use Rattle.std.proofs.lemmas.Result.{IfOk-weaker}
use Rattle.indent_scanner.specs.declared.token.Tok.TheVariants as T
use Rattle.indent_scanner.specs.Grammar.{IsQuoted}
use Rattle.indent_scanner.proofs.Characters.{quoted_inner, meaning_short}
use Rattle.indent_scanner.proofs.text.inner_of.Goals as goal

pub returns-clause-inner : goal.returns-clause-inner
returns-clause-inner c =
    IfOk-weaker c.text_in.result _ (λ text. (q : IsQuoted c.args.name.now) → text ≡ q.inner) (λ text is. quoted_inner c.args.name.now text is) c.text_in.ensures

pub returns-clause-short : goal.returns-clause-short
returns-clause-short c =
    IfOk-weaker c.text_in.result _ (λ text. length text ≤ length c.args.name.now)
    (λ text is. subst (λ t. length t ≤ length c.args.name.now) (sym is) (meaning_short T.Quoted c.args.name.now)) c.text_in.ensures
