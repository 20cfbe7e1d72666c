-- The values of characters, byte by byte.
use Rattle.std.proofs.Common.{◌≡◌, ℕ, suc, ◌+◌, ◌-◌, ◌<◌, ◌≤◌, List, [], ◌∷◌, ◌++◌, length, get_or, take, drop, Bool, true, false, ap, ◌∙◌, arith, get_or-drop}
use Rattle.std.proofs.Common.{add-zero, length-drop}
use Rattle.std.specs.Prelude.{Option, Some, None, cond, ◌==◌}
use Rattle.std.proofs.lemmas.List.{at_drop_more, length-take, length-append}
use Rattle.std.proofs.Math.Seq.{take-append_seam}
use Rattle.indent_scanner.specs.declared.token.Tok.{Tok}
use Rattle.indent_scanner.specs.declared.token.Tok.TheVariants as T
use Rattle.indent_scanner.specs.declared.shape.Quote.TheVariants as Q
use Rattle.indent_scanner.specs.declared.shape.Shape.{Shape}
use Rattle.indent_scanner.specs.declared.shape.Shape.TheVariants.{Inside}
use Rattle.indent_scanner.specs.Words.{lower, folded, normal}
use Rattle.indent_scanner.specs.Shape.{step}
use Rattle.indent_scanner.specs.Meaning.{inner, IsTextOf}
use Rattle.indent_scanner.specs.Grammar.{IsText, a_text, IsQuoted}
use Rattle.indent_scanner.proofs.GrammarLiterals.{values_are}
use Rattle.indent_scanner.specs.ByForm.{onto, value_of, read_on, values, meaning}

pub values_here : (s : Shape) (bytes : List ℕ) (i : ℕ) → i < length bytes
    → values s (drop i bytes) ≡ read_on (step s (get_or bytes i 0) (get_or bytes (i + 1) 0)) (λ t. values t (drop (i + 1) bytes))
values_here s bytes i lt =
    let e : get_or (drop (i + 1) bytes) 0 0 ≡ get_or bytes (i + 1) 0 = get_or-drop (i + 1) bytes 0 0 ∙ ap (λ k. get_or bytes k 0) (add-zero (i + 1)) in
    at_drop_more (values s) bytes i 0 lt ∙ ap (λ n. read_on (step s (get_or bytes i 0) n) (λ t. values t (drop (i + 1) bytes))) e

pub values_go : (s t : Shape) (bytes : List ℕ) (i : ℕ) → i < length bytes → step s (get_or bytes i 0) (get_or bytes (i + 1) 0) ≡ Some t
    → values s (drop i bytes) ≡ onto (value_of t) (values t (drop (i + 1) bytes))
values_go s t bytes i lt e = values_here s bytes i lt ∙ ap (λ o. read_on o (λ t. values t (drop (i + 1) bytes))) e

pub onto_some : (o : Option ℕ) (v : ℕ) (values : List ℕ) → o ≡ Some v → onto o values ≡ v ∷ values
onto_some o v values e = ap (λ x. onto x values) e

pub onto_none : (o : Option ℕ) (values : List ℕ) → o ≡ None → onto o values ≡ values
onto_none o values e = ap (λ x. onto x values) e

-- ---- a text is no longer than the bytes of its token

onto_short : (o : Option ℕ) (values : List ℕ) (n : ℕ) → length values ≤ n → length (onto o values) ≤ suc n
onto_short None values n le = omega arith
onto_short (Some v) values n le = omega arith

read_short : (o : Option Shape) (bytes : List ℕ) → ((s : Shape) → length (values s bytes) ≤ length bytes) → length (read_on o (λ s. values s bytes))
    ≤ suc (length bytes)
read_short None bytes h = omega arith
read_short (Some s) bytes h = onto_short (value_of s) (values s bytes) (length bytes) (h s)

values_short : (bytes : List ℕ) (s : Shape) → length (values s bytes) ≤ length bytes
values_short [] s = omega arith
values_short (b ∷ bytes) s = read_short (step s b (get_or bytes 0 0)) bytes (values_short bytes)

if_short : (v : Bool) (values : List ℕ) (b n : ℕ) → length values ≤ n → length (cond v values (b ∷ values)) ≤ suc n
if_short true values b n le = omega arith
if_short false values b n le = omega arith

folded_short : (bytes : List ℕ) → length (folded bytes) ≤ length bytes
folded_short [] = omega arith
folded_short (b ∷ bytes) = if_short (b == 95) (folded bytes) (lower b) (length bytes) (folded_short bytes)

text_short : (bytes : List ℕ) → length (meaning T.Text bytes) ≤ length bytes
text_short [] = omega arith
text_short (b ∷ bytes) = let e = values_short bytes (Inside Q.Text None) in omega (arith, e)

name_short : (bytes : List ℕ) → length (normal bytes) ≤ length bytes
name_short [] = omega arith
name_short (b ∷ bytes) = let e = folded_short bytes in omega (arith, e)

inner_short : (bytes : List ℕ) → length (inner bytes) ≤ length bytes
inner_short bytes = let e = length-take (length bytes - 2) (drop 1 bytes) in let f = length-drop 1 bytes in omega (arith, e, f)

inner_between : (between : List ℕ) → inner (96 ∷ between ++ 96 ∷ []) ≡ between
inner_between between =
    let l = length-append between (96 ∷ []) in
    let n : suc (length (between ++ 96 ∷ [])) - 2 ≡ length between = omega (arith, l) in
    ap (λ k. take k (between ++ 96 ∷ [])) n ∙ take-append_seam between (96 ∷ [])

-- what stands between the backticks
pub quoted_inner : (bytes text : List ℕ) → text ≡ inner bytes → (q : IsQuoted bytes) → text ≡ q.inner
quoted_inner bytes text is q = is ∙ ap inner q.is ∙ inner_between q.inner

pub meaning_short : (kind : Tok) (bytes : List ℕ) → length (meaning kind bytes) ≤ length bytes
meaning_short (T.Key key) bytes = omega arith
meaning_short T.Name bytes = name_short bytes
meaning_short T.Quoted bytes = inner_short bytes
meaning_short (T.Int value) bytes = omega arith
meaning_short (T.Char value) bytes = omega arith
meaning_short T.Text bytes = text_short bytes
meaning_short T.Op bytes = omega arith
meaning_short (T.Punct b) bytes = omega arith
meaning_short T.PragmaOpen bytes = omega arith
meaning_short T.PragmaClose bytes = omega arith
meaning_short T.End bytes = omega arith

pub part_short : (kind : Tok) (n : ℕ) (bytes : List ℕ) → length (meaning kind (take n bytes)) ≤ n
part_short kind n bytes = let e = meaning_short kind (take n bytes) in let f = length-take n bytes in omega (arith, e, f)

-- ---- the text that is read is the token's

pub text_text : (bytes text values : List ℕ) → IsText bytes values → text ≡ meaning T.Text bytes → text ≡ values
text_text _ text values (a_text bytes _ t) is = is ∙ values_are bytes values t

meaning_text : (kind : Tok) (bytes text : List ℕ) → text ≡ meaning kind bytes → IsTextOf kind bytes text
meaning_text (T.Key key) bytes text is = is
meaning_text T.Name bytes text is = is
meaning_text T.Quoted bytes text is = is
meaning_text (T.Int value) bytes text is = is
meaning_text (T.Char value) bytes text is = is
meaning_text T.Text bytes text is = λ values t. text_text bytes text values t is
meaning_text T.Op bytes text is = is
meaning_text (T.Punct b) bytes text is = is
meaning_text T.PragmaOpen bytes text is = is
meaning_text T.PragmaClose bytes text is = is
meaning_text T.End bytes text is = is

pub part_text : (kind : Tok) (m n : ℕ) (bytes text : List ℕ) → m ≡ n → text ≡ meaning kind (take m bytes) → IsTextOf kind (take n bytes) text
part_text kind m n bytes text same is = meaning_text kind (take n bytes) text (is ∙ ap (λ k. meaning kind (take k bytes)) same)
