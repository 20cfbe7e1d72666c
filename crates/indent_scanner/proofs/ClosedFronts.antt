-- Chars, texts, names in backticks and comments that nest: their fronts and their forms.
use Rattle.std.proofs.Common.{◌≡◌, ◌≢◌, ℕ, zero, suc, ◌-◌, ◌≤◌, List, [], ◌∷◌, ◌++◌, length, take, drop, get_or, Bool, true, false, refl, sym, ap, subst, ◌∙◌}
use Rattle.std.proofs.Common.{arith}
use Rattle.std.specs.Prelude.{Some, None, cond, ◌==◌, ◌&&◌}
use Rattle.std.specs.List.{AllPass}
use Rattle.std.proofs.lemmas.Bool.{eqb-true}
use Rattle.indent_scanner.specs.declared.shape.Quote.{Quote}
use Rattle.indent_scanner.specs.declared.shape.Quote.TheVariants as Q
use Rattle.indent_scanner.specs.declared.shape.Last.TheVariants as L
use Rattle.indent_scanner.specs.declared.shape.Shape.{Shape}
use Rattle.indent_scanner.specs.declared.shape.Shape.TheVariants.{Inside, Escaped, Hex, Decimal, CharWhole, TextWhole, Quoted, QuotedWhole, Nested, NestedWhole}
use Rattle.indent_scanner.specs.Bytes.{is_quotable, hex_value}
use Rattle.indent_scanner.specs.Grammar.{Character, IsChar, a_char, SomeChar, TextRest, IsText, a_text, SomeText, IsQuoted, NestedRest, IsNestedComment}
use Rattle.indent_scanner.specs.Grammar.{nested_comment}
use Rattle.indent_scanner.specs.Shape.{step, form, and_then, is_whole, quoted_step, nested_on}
use Rattle.indent_scanner.specs.Pieces.{Front}
use Rattle.indent_scanner.proofs.Bools.{by_test, both_true, pass_none, pass_more, pass_head, pass_tail}
use Rattle.indent_scanner.proofs.Fronts.{Each, if_each, if_shape, inside_each, escaped_each, hex_each, decimal_each, form_keeps, form_inside, some_same}
use Rattle.indent_scanner.proofs.Fronts.{no_some, first_step}
use Rattle.indent_scanner.proofs.Matches.{Matches, split_form}
use Rattle.indent_scanner.proofs.GrammarLiterals.{text_to, text_from, char_to, char_from}
use Rattle.indent_scanner.proofs.GrammarComments.{nested_from, nested_to}

-- ---- chars and texts

abbrev Literal : Quote → Shape → Type 0
Literal q (Inside r o) = r ≡ q
Literal q (Escaped r) = r ≡ q
Literal q (Hex r h) = r ≡ q
Literal q (Decimal r v) = r ≡ q
Literal q (CharWhole v) = q ≡ Q.Char
Literal q TextWhole = q ≡ Q.Text
Literal q _ = ⊥

literal_step : (q : Quote) (s : Shape) (b next : ℕ) → Literal q s → Each (Literal q) (step s b next)
literal_step q (Inside r o) b next is = inside_each (Literal q) r o b (λ x. is) is (λ v e. sym is ∙ e) (λ e. sym is ∙ e)
literal_step q (Escaped r) b next is = escaped_each (Literal q) r b next (λ x. is) (λ v. is) (λ h. is)
literal_step q (Hex r h) b next is = hex_each (Literal q) r h (hex_value b) (λ x. is) (λ o. is)
literal_step q (Decimal r v) b next is = decimal_each (Literal q) r v b next (λ x. is) (λ w. is)
literal_step q (CharWhole v) b next is = tt
literal_step q TextWhole b next is = tt
literal_step q _ b next is = absurd is

literal_form : (q : Quote) (n : ℕ) (rest : List ℕ) (t : Shape) → form (Inside q None) n rest ≡ Some t → Literal q t
literal_form q n rest t e = form_keeps (Literal q) (literal_step q) n rest (Inside q None) t refl e

text_whole : (t : Shape) → Literal Q.Text t → is_whole t ≡ true → t ≡ TextWhole
text_whole (Inside r o) is w = cc
text_whole (Escaped r) is w = cc
text_whole (Hex r h) is w = cc
text_whole (Decimal r v) is w = cc
text_whole (CharWhole v) is w = cc
text_whole TextWhole is w = refl
text_whole _ is w = absurd is

char_whole : (t : Shape) → Literal Q.Char t → is_whole t ≡ true → (v : ℕ) × (t ≡ CharWhole v)
char_whole (Inside r o) is w = (let f : ⊥ = cc in absurd f)
char_whole (Escaped r) is w = (let f : ⊥ = cc in absurd f)
char_whole (Hex r h) is w = (let f : ⊥ = cc in absurd f)
char_whole (Decimal r v) is w = (let f : ⊥ = cc in absurd f)
char_whole (CharWhole v) is w = (v, refl)
char_whole TextWhole is w = (let f : ⊥ = cc in absurd f)
char_whole _ is w = absurd is

pub text_form : (n : ℕ) (rest : List ℕ) (t : Shape) → form (Inside Q.Text None) n rest ≡ Some t → is_whole t ≡ true → t ≡ TextWhole
text_form n rest t e w = text_whole t (literal_form Q.Text n rest t e) w

pub char_form : (n : ℕ) (rest : List ℕ) (t : Shape) → form (Inside Q.Char None) n rest ≡ Some t → is_whole t ≡ true → (v : ℕ) × (t ≡ CharWhole v)
char_form n rest t e w = char_whole t (literal_form Q.Char n rest t e) w

-- what stands behind the first quote
text_behind : (b : ℕ) (text values whole : List ℕ) → whole ≡ b ∷ text → IsText whole values → TextRest text values
text_behind b text values _ is (a_text bytes _ t) = let same : bytes ≡ text = cc in subst (λ x. TextRest x values) same t

char_behind : (b value : ℕ) (text whole : List ℕ) → whole ≡ b ∷ text → IsChar whole value → Character 39 text value (39 ∷ [])
char_behind b value text _ is (a_char _ bytes c) = let same : bytes ≡ text = cc in subst (λ x. Character 39 x value (39 ∷ [])) same c

pub char_reads : (b value n : ℕ) (rest : List ℕ) → n ≤ length rest → IsChar (b ∷ take n rest) value → form (Inside Q.Char None) n rest ≡ Some (CharWhole value)
char_reads b value n rest le c = sym (split_form (Inside Q.Char None) n rest le) ∙ char_to value (take n rest) (drop n rest)
    (char_behind b value (take n rest) (b ∷ take n rest) refl c)

pub reads_char : (b value n : ℕ) (rest : List ℕ) → (b == 39) ≡ true → form (Inside Q.Char None) n rest ≡ Some (CharWhole value) → IsChar (b ∷ take n rest) value
reads_char b value n rest quote e =
    let le = form_inside n rest (Inside Q.Char None) (CharWhole value) e in
    subst (λ x. IsChar (x ∷ take n rest) value) (sym (eqb-true b 39 quote))
    (a_char value (take n rest) (char_from value (take n rest) (drop n rest) (split_form (Inside Q.Char None) n rest le ∙ e)))

pub char_matches : (b : ℕ) (rest : List ℕ) → (b == 39) ≡ true → Matches (Front SomeChar (b ∷ rest)) (Inside Q.Char None) rest
char_matches b rest quote = record {
  none = λ f. (let w = f.whole in no_char w.0 [] refl w.1);
  to = λ n f. (let w = f.whole in let i = f.inside in (CharWhole w.0, char_reads b w.0 n rest (omega (arith, i)) w.1, refl));
  from = λ n t e w. (let i = form_inside n rest (Inside Q.Char None) t e in let v = char_form n rest t e w in
      record { inside = omega (arith, i); whole = (v.0, reads_char b v.0 n rest quote (e ∙ ap (λ x. Some x) v.1)) });
}
  where
    no_char : (value : ℕ) (whole : List ℕ) → whole ≡ [] → IsChar whole value → ⊥
    no_char value _ is (a_char _ bytes c) = cc

pub text_reads : (b n : ℕ) (rest values : List ℕ) → n ≤ length rest → IsText (b ∷ take n rest) values → form (Inside Q.Text None) n rest ≡ Some TextWhole
text_reads b n rest values le t = sym (split_form (Inside Q.Text None) n rest le) ∙ text_to None (take n rest) (drop n rest) values
    (text_behind b (take n rest) values (b ∷ take n rest) refl t)

reads_text : (b n : ℕ) (rest : List ℕ) → (b == 34) ≡ true → form (Inside Q.Text None) n rest ≡ Some TextWhole → SomeText (b ∷ take n rest)
reads_text b n rest quote e =
    let le = form_inside n rest (Inside Q.Text None) TextWhole e in
    let t = text_from (take n rest) (drop n rest) (split_form (Inside Q.Text None) n rest le ∙ e) in
    subst (λ x. SomeText (x ∷ take n rest)) (sym (eqb-true b 34 quote)) (t.0, a_text (take n rest) t.0 t.1)

pub text_matches : (b : ℕ) (rest : List ℕ) → (b == 34) ≡ true → Matches (Front SomeText (b ∷ rest)) (Inside Q.Text None) rest
text_matches b rest quote = record {
  none = λ f. (let w = f.whole in no_text w.0 [] refl w.1);
  to = λ n f. (let w = f.whole in let i = f.inside in (TextWhole, text_reads b n rest w.0 (omega (arith, i)) w.1, refl));
  from = λ n t e w. (let i = form_inside n rest (Inside Q.Text None) t e in
      record { inside = omega (arith, i); whole = reads_text b n rest quote (e ∙ ap (λ x. Some x) (text_form n rest t e w)) });
}
  where
    no_text : (values whole : List ℕ) → whole ≡ [] → IsText whole values → ⊥
    no_text values _ is (a_text bytes _ t) = cc

-- ---- names in backticks

abbrev IsQuotedForm : Shape → Type 0
IsQuotedForm (Quoted some) = Unit {0}
IsQuotedForm QuotedWhole = Unit {0}
IsQuotedForm _ = ⊥

quoted_keeps : (s : Shape) (b next : ℕ) → IsQuotedForm s → Each IsQuotedForm (step s b next)
quoted_keeps (Quoted some) b next is = if_each IsQuotedForm (is_quotable b) (Some (Quoted true)) (cond (b == 96 && some) (Some QuotedWhole) None) tt
    (if_each IsQuotedForm (b == 96 && some) (Some QuotedWhole) None tt tt)
quoted_keeps QuotedWhole b next is = tt
quoted_keeps _ b next is = absurd is

quoted_whole : (t : Shape) → IsQuotedForm t → is_whole t ≡ true → t ≡ QuotedWhole
quoted_whole (Quoted some) is w = cc
quoted_whole QuotedWhole is w = refl
quoted_whole _ is w = absurd is

pub quoted_form : (n : ℕ) (rest : List ℕ) (t : Shape) → form (Quoted false) n rest ≡ Some t → is_whole t ≡ true → t ≡ QuotedWhole
quoted_form n rest t e w = quoted_whole t (form_keeps IsQuotedForm quoted_keeps n rest (Quoted false) t tt e) w

quoted_on : (some : Bool) (b : ℕ) → is_quotable b ≡ true → quoted_step some b ≡ Some (Quoted true)
quoted_on some b e = ap (λ v. cond v (Some (Quoted true)) (cond (b == 96 && some) (Some QuotedWhole) None)) e

quoted_off : (some v : Bool) (b : ℕ) → is_quotable b ≡ false → (b == 96 && some) ≡ v → quoted_step some b ≡ cond v (Some QuotedWhole) None
quoted_off some v b e f = ap (λ x. cond x (Some (Quoted true)) (cond (b == 96 && some) (Some QuotedWhole) None)) e ∙ ap (λ x. cond x (Some QuotedWhole) None) f

inner_to : (inner rest : List ℕ) → AllPass is_quotable inner → form (Quoted true) (length (inner ++ 96 ∷ [])) ((inner ++ 96 ∷ []) ++ rest) ≡ Some QuotedWhole
inner_to [] rest all = refl
inner_to (b ∷ inner) rest all = ap (λ o. and_then o (λ t. form t (length (inner ++ 96 ∷ [])) ((inner ++ 96 ∷ []) ++ rest)))
    (quoted_on true b (pass_head is_quotable b inner all)) ∙ inner_to inner rest (pass_tail is_quotable b inner all)

quoted_to : (inner rest : List ℕ) → inner ≢ [] → AllPass is_quotable inner → form (Quoted false) (length (inner ++ 96 ∷ [])) ((inner ++ 96 ∷ []) ++ rest)
    ≡ Some QuotedWhole
quoted_to [] rest some all = absurd (some refl)
quoted_to (b ∷ inner) rest some all = ap (λ o. and_then o (λ t. form t (length (inner ++ 96 ∷ [])) ((inner ++ 96 ∷ []) ++ rest)))
    (quoted_on false b (pass_head is_quotable b inner all)) ∙ inner_to inner rest (pass_tail is_quotable b inner all)

-- what stands between the backticks
record Inner (some : Bool) (text : List ℕ) : Type 0 where
  inner : List ℕ
  is : text ≡ inner ++ 96 ∷ []
  full : some ≡ false → inner ≢ []
  visible : AllPass is_quotable inner

closed_quote : (n : ℕ) (rest : List ℕ) → form QuotedWhole n rest ≡ Some QuotedWhole → take n rest ≡ []
closed_quote zero rest e = refl
closed_quote (suc n) [] e = (let f : ⊥ = cc in absurd f)
closed_quote (suc n) (b ∷ rest) e = (let f : ⊥ = cc in absurd f)

quote_ends : (some : Bool) (b n : ℕ) (rest : List ℕ) (u : Shape) → is_quotable b ≡ false → quoted_step some b ≡ Some u → form u n rest ≡ Some QuotedWhole
    → Inner some (b ∷ take n rest)
quote_ends some b n rest u fails e go = by_test _ (b == 96 && some)
    (λ f. let is : QuotedWhole ≡ u = some_same _ (quoted_off some true b fails f) e in let parts = both_true (b == 96) some f in
    record {
      inner = [];
      is = ap (λ x. x ∷ take n rest) (eqb-true b 96 parts.0)
          ∙ ap (λ x. 96 ∷ x) (closed_quote n rest (subst (λ x. form x n rest ≡ Some QuotedWhole) (sym is) go));
      full = λ none. (let x = parts.1 in let g : ⊥ = cc in absurd g);
      visible = pass_none is_quotable;
    })
    (λ f. absurd (no_some _ (quoted_off some false b fails f) e))

inner_from : (n : ℕ) (rest : List ℕ) (some : Bool) → form (Quoted some) n rest ≡ Some QuotedWhole → Inner some (take n rest)
inner_from zero rest some e = (let f : ⊥ = cc in absurd f)
inner_from (suc n) [] some e = (let f : ⊥ = cc in absurd f)
inner_from (suc n) (b ∷ rest) some e =
    let f = first_step (Quoted some) QuotedWhole n b rest e in
    by_test _ (is_quotable b)
    (λ g. let h = inner_from n rest true (subst (λ x. form x n rest ≡ Some QuotedWhole) (sym (some_same _ (quoted_on some b g) f.1)) f.2) in
    record { inner = b ∷ h.inner; is = ap (λ x. b ∷ x) h.is; full = λ none same. cc; visible = pass_more is_quotable b h.inner g h.visible })
    (λ g. quote_ends some b n rest f.0 g f.1 f.2)

quoted_reads : (b n : ℕ) (rest : List ℕ) → n ≤ length rest → IsQuoted (b ∷ take n rest) → form (Quoted false) n rest ≡ Some QuotedWhole
quoted_reads b n rest le q =
    let same : take n rest ≡ q.inner ++ 96 ∷ [] = (let e = q.is in cc) in
    sym (split_form (Quoted false) n rest le) ∙ ap (λ x. form (Quoted false) (length x) (x ++ drop n rest)) same
    ∙ quoted_to q.inner (drop n rest) q.some q.visible

reads_quoted : (b n : ℕ) (rest : List ℕ) → (b == 96) ≡ true → form (Quoted false) n rest ≡ Some QuotedWhole → IsQuoted (b ∷ take n rest)
reads_quoted b n rest quote e =
    let h = inner_from n rest false e in
    record { inner = h.inner; is = ap (λ x. x ∷ take n rest) (eqb-true b 96 quote) ∙ ap (λ x. 96 ∷ x) h.is; some = h.full refl; visible = h.visible }

pub quoted_matches : (b : ℕ) (rest : List ℕ) → (b == 96) ≡ true → Matches (Front IsQuoted (b ∷ rest)) (Quoted false) rest
quoted_matches b rest quote = record {
  none = λ f. (let w = f.whole in let e = w.is in let g : ⊥ = cc in g);
  to = λ n f. (let i = f.inside in (QuotedWhole, quoted_reads b n rest (omega (arith, i)) f.whole, refl));
  from = λ n t e w. (let i = form_inside n rest (Quoted false) t e in
      record { inside = omega (arith, i); whole = reads_quoted b n rest quote (e ∙ ap (λ x. Some x) (quoted_form n rest t e w)) });
}

-- ---- comments that nest

abbrev IsNestedForm : Shape → Type 0
IsNestedForm (Nested depth last) = Unit {0}
IsNestedForm NestedWhole = Unit {0}
IsNestedForm _ = ⊥

on_keeps : (depth b : ℕ) → IsNestedForm (nested_on depth b)
on_keeps depth b = if_shape IsNestedForm (b == 35) (Nested depth L.Hash) (cond (b == 93) (Nested depth L.Bracket) (Nested depth L.Other)) tt
    (if_shape IsNestedForm (b == 93) (Nested depth L.Bracket) (Nested depth L.Other) tt tt)

nested_keeps : (s : Shape) (b next : ℕ) → IsNestedForm s → Each IsNestedForm (step s b next)
nested_keeps (Nested depth L.Hash) b next is = if_shape IsNestedForm (b == 91) _ (nested_on depth b) tt (on_keeps depth b)
nested_keeps (Nested depth L.Bracket) b next is = if_shape IsNestedForm (b == 35) _ (nested_on depth b)
    (if_shape IsNestedForm _ NestedWhole (Nested (depth - 1) L.Other) tt tt) (on_keeps depth b)
nested_keeps (Nested depth L.Other) b next is = on_keeps depth b
nested_keeps NestedWhole b next is = tt
nested_keeps _ b next is = absurd is

nested_whole : (t : Shape) → IsNestedForm t → is_whole t ≡ true → t ≡ NestedWhole
nested_whole (Nested depth last) is w = cc
nested_whole NestedWhole is w = refl
nested_whole _ is w = absurd is

pub nested_form : (n : ℕ) (rest : List ℕ) (t : Shape) → form (Nested 0 L.Hash) n rest ≡ Some t → is_whole t ≡ true → t ≡ NestedWhole
nested_form n rest t e w = nested_whole t (form_keeps IsNestedForm nested_keeps n rest (Nested 0 L.Hash) t tt e) w

comment_behind : (b : ℕ) (text whole : List ℕ) → whole ≡ b ∷ 91 ∷ text → IsNestedComment whole → NestedRest 1 text
comment_behind b text _ is (nested_comment bytes h) = let same : bytes ≡ text = cc in subst (NestedRest 1) same h

no_comment : (b : ℕ) (whole : List ℕ) → whole ≡ b ∷ [] → IsNestedComment whole → ⊥
no_comment b _ is (nested_comment bytes h) = cc

nothing_nested : (whole : List ℕ) → whole ≡ [] → IsNestedComment whole → ⊥
nothing_nested _ is (nested_comment bytes h) = cc

comment_reads : (b n : ℕ) (rest : List ℕ) → n ≤ suc (length rest) → IsNestedComment (b ∷ take n (91 ∷ rest)) → form (Nested 0 L.Hash) n (91 ∷ rest)
    ≡ Some NestedWhole
comment_reads b zero rest le c = absurd (no_comment b (b ∷ []) refl c)
comment_reads b (suc n) rest le c =
    let fewer : n ≤ length rest = omega arith in
    sym (split_form (Nested 1 L.Other) n rest fewer) ∙ nested_to 0 (take n rest) (drop n rest) (comment_behind b (take n rest) (b ∷ 91 ∷ take n rest) refl c)

reads_comment : (b n : ℕ) (rest : List ℕ) → (b == 35) ≡ true → form (Nested 0 L.Hash) n (91 ∷ rest) ≡ Some NestedWhole
    → IsNestedComment (b ∷ take n (91 ∷ rest))
reads_comment b zero rest hash e = (let f : ⊥ = cc in absurd f)
reads_comment b (suc n) rest hash e =
    let le = form_inside n rest (Nested 1 L.Other) NestedWhole e in
    subst (λ x. IsNestedComment (x ∷ 91 ∷ take n rest)) (sym (eqb-true b 35 hash))
    (nested_comment (take n rest) (nested_from 0 (take n rest) (drop n rest) (split_form (Nested 1 L.Other) n rest le ∙ e)))

nested_matches_at : (b : ℕ) (rest : List ℕ) → (b == 35) ≡ true → Matches (Front IsNestedComment (b ∷ 91 ∷ rest)) (Nested 0 L.Hash) (91 ∷ rest)
nested_matches_at b rest hash = record {
  none = λ f. nothing_nested [] refl f.whole;
  to = λ n f. (let i = f.inside in (NestedWhole, comment_reads b n rest (omega (arith, i)) f.whole, refl));
  from = λ n t e w. (let i = form_inside n (91 ∷ rest) (Nested 0 L.Hash) t e in
      record { inside = omega (arith, i); whole = reads_comment b n rest hash (e ∙ ap (λ x. Some x) (nested_form n (91 ∷ rest) t e w)) });
}

pub nested_matches : (b : ℕ) (rest : List ℕ) → (b == 35) ≡ true → (get_or rest 0 0 == 91) ≡ true → Matches (Front IsNestedComment (b ∷ rest))
    (Nested 0 L.Hash) rest
nested_matches b [] hash bracket = (let f : ⊥ = cc in absurd f)
nested_matches b (c ∷ rest) hash bracket = subst (λ x. Matches (Front IsNestedComment (b ∷ x ∷ rest)) (Nested 0 L.Hash) (x ∷ rest))
    (sym (eqb-true c 91 bracket)) (nested_matches_at b rest hash)
