-- What lines give, by names.
use Rattle.std.proofs.Common.{◌≡◌, ℕ, Bool, true, false, List, [], ◌∷◌, Some, None, refl, sym, ap, ◌∙◌, arith}
use Rattle.std.specs.Prelude.{nat_eq}
use Rattle.std.proofs.lemmas.Bool.{ne_eqb, eqb-true, eq-eqb, both_ways}
use Rattle.flat_code.specs.declared.line.Line.{Line}
use Rattle.flat_code.specs.declared.line.Line.TheVariants as L
use Rattle.flat_code.specs.declared.line.Piece.{Piece}
use Rattle.flat_code.specs.declared.line.Piece.TheVariants as P
use Rattle.flat_code.specs.Whole.{label_in}
use Rattle.flat_code.specs.Alike.{value_name, location_name, label_name, name_of, is_one_text, gives_text, is_named}
use Rattle.word_lowering.specs.declared.homes.Alias.TheVariants.{Own}
use Rattle.word_lowering.specs.Aliases.{value_to, location_to, text_in, text_alias, is_read, alias_by, is_it}

-- ---- names

pub record IsNamed (line : Line) : Type 0 where
  pub value : (t : ℕ) → is_named (value_name t) (name_of line) ≡ is_it t (value_to line)
  pub location : (t : ℕ) → is_named (location_name t) (name_of line) ≡ is_it t (location_to line)
  pub label : (x : ℕ) → is_named (label_name x) (name_of line) ≡ is_it x (label_in line)

same_number : (a b x y : ℕ) → (a ≡ b → x ≡ y) → (x ≡ y → a ≡ b) → nat_eq a b ≡ nat_eq x y
same_number a b x y to from = at (nat_eq x y) refl
  where
    at : (e : Bool) → nat_eq x y ≡ e → nat_eq a b ≡ e
    at true e = eq-eqb a b (from (eqb-true x y e))
    at false e = ne_eqb a b (λ f. absurd (both_ways (nat_eq x y) e (eq-eqb x y (to f))))

valued : (line : Line) (u : ℕ) → name_of line ≡ Some (value_name u) → value_to line ≡ Some u → location_to line ≡ None → label_in line ≡ None → IsNamed line
valued line u n v l b = record {
  value = λ t.
      ap (is_named (value_name t)) n ∙ same_number (value_name u) (value_name t) u t (λ e. omega (arith, e)) (λ e. omega (arith, e)) ∙ ap (is_it t) (sym v);
  location = λ t. ap (is_named (location_name t)) n ∙ ne_eqb (value_name u) (location_name t) (λ e. absurd (omega (arith, e))) ∙ ap (is_it t) (sym l);
  label = λ x. ap (is_named (label_name x)) n ∙ ne_eqb (value_name u) (label_name x) (λ e. absurd (omega (arith, e))) ∙ ap (is_it x) (sym b);
}

led : (line : Line) (u : ℕ) → name_of line ≡ Some (location_name u) → value_to line ≡ None → location_to line ≡ Some u → label_in line ≡ None → IsNamed line
led line u n v l b = record {
  value = λ t. ap (is_named (value_name t)) n ∙ ne_eqb (location_name u) (value_name t) (λ e. absurd (omega (arith, e))) ∙ ap (is_it t) (sym v);
  location = λ t.
      ap (is_named (location_name t)) n ∙ same_number (location_name u) (location_name t) u t (λ e. omega (arith, e)) (λ e. omega (arith, e))
      ∙ ap (is_it t) (sym l);
  label = λ x. ap (is_named (label_name x)) n ∙ ne_eqb (location_name u) (label_name x) (λ e. absurd (omega (arith, e))) ∙ ap (is_it x) (sym b);
}

labelled : (u : ℕ) → IsNamed (L.Label u)
labelled u = record {
  value = λ t. ne_eqb (label_name u) (value_name t) (λ e. absurd (omega (arith, e)));
  location = λ t. ne_eqb (label_name u) (location_name t) (λ e. absurd (omega (arith, e)));
  label = λ x. same_number (label_name u) (label_name x) u x (λ e. omega (arith, e)) (λ e. omega (arith, e));
}

unnamed : (line : Line) → name_of line ≡ None → value_to line ≡ None → location_to line ≡ None → label_in line ≡ None → IsNamed line
unnamed line n v l b = record {
  value = λ t. ap (is_named (value_name t)) n ∙ ap (is_it t) (sym v);
  location = λ t. ap (is_named (location_name t)) n ∙ ap (is_it t) (sym l);
  label = λ x. ap (is_named (label_name x)) n ∙ ap (is_it x) (sym b);
}

pub named : (line : Line) → IsNamed line
named (L.Apply to operation how ty of from) = valued (L.Apply to operation how ty of from) to refl refl refl refl
named (L.Construct to how ty fields from) = valued (L.Construct to how ty fields from) to refl refl refl refl
named (L.Constant to how ty pieces) = valued (L.Constant to how ty pieces) to refl refl refl refl
named (L.Call to how ty proc from) = valued (L.Call to how ty proc from) to refl refl refl refl
named (L.Get to from how ty) = valued (L.Get to from how ty) to refl refl refl refl
named (L.Look to from) = valued (L.Look to from) to refl refl refl refl
named (L.Root to place global) = led (L.Root to place global) to refl refl refl refl
named (L.Fresh to from waits) = led (L.Fresh to from waits) to refl refl refl refl
named (L.Standing to ty pieces) = led (L.Standing to ty pieces) to refl refl refl refl
named (L.Part to from field) = led (L.Part to from field) to refl refl refl refl
named (L.Item to from index) = led (L.Item to from index) to refl refl refl refl
named (L.Object to from) = led (L.Object to from) to refl refl refl refl
named (L.Pass to from how ty) = valued (L.Pass to from how ty) to refl refl refl refl
named (L.Truth to holds) = valued (L.Truth to holds) to refl refl refl refl
named (L.Zero to) = valued (L.Zero to) to refl refl refl refl
named (L.Length to from) = valued (L.Length to from) to refl refl refl refl
named (L.Element to from index) = valued (L.Element to from index) to refl refl refl refl
named (L.Beyond counter last inclusive to) = valued (L.Beyond counter last inclusive to) counter refl refl refl refl
named (L.Next counter last) = valued (L.Next counter last) counter refl refl refl refl
named (L.Label name) = labelled name
named (L.CountTurn counter last inclusive to) = valued (L.CountTurn counter last inclusive to) counter refl refl refl refl
named line = unnamed line refl refl refl refl

-- ---- aliases

no_alias : (pieces : List Piece) (read : Bool) (behind : ℕ) → is_one_text pieces ≡ false → text_alias read behind (text_in pieces) ≡ Own
no_alias [] read behind e = refl
no_alias (P.Text text ∷ []) read behind e = absurd (both_ways true e refl)
no_alias (P.Text text ∷ other ∷ pieces) read behind e = refl
no_alias (P.Ordinal z ∷ pieces) read behind e = refl
no_alias (P.Nil ∷ pieces) read behind e = refl
no_alias (P.Parts n ∷ pieces) read behind e = refl
no_alias (P.Elements n ∷ pieces) read behind e = refl

-- a value that is no text is its temporary's own
pub own_value : (line : Line) (behind t : ℕ) → is_it t (value_to line) ≡ true → gives_text line ≡ false → alias_by line behind ≡ Own
own_value (L.Constant to how ty pieces) behind t e bare = no_alias pieces (is_read how.how) behind bare
own_value (L.Root to place global) behind t e bare = absurd (both_ways false refl e)
own_value (L.Fresh to from waits) behind t e bare = absurd (both_ways false refl e)
own_value line behind t e bare = refl

-- where a line leads is the same whatever stands behind
pub same_place : (line : Line) (a b t : ℕ) → is_it t (location_to line) ≡ true → alias_by line a ≡ alias_by line b
same_place (L.Constant to how ty pieces) a b t e = absurd (both_ways false refl e)
same_place (L.Fresh to from None) a b t e = refl
same_place (L.Fresh to from (Some node)) a b t e = refl
same_place line a b t e = refl
