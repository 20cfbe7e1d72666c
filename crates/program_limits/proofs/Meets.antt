-- Texts that are met from the last one to the first, and those of the whole program.
use Rattle.std.proofs.Common.{◌≡◌, ◌∙◌, ℕ, ◌+◌, Bool, true, false, List, [], ◌∷◌, ◌++◌, refl, sym, ap, ap₂, append_assoc, append-nil, arith}
use Rattle.std.specs.Prelude.{◌||◌, Some}
use Rattle.std.specs.Set.{is_member}
use Rattle.std.specs.List.{list_any}
use Rattle.std.proofs.lemmas.Bool.{cond-true, cond-false, both_ways, or_parts}
use Rattle.std.proofs.lemmas.Cmp.{nat_list_eq_equiv}
use Rattle.nim_types.specs.Types.{same_text}
use Rattle.nim_program.specs.declared.text_sizes.TheConstants.{MOST_DATA}
use Rattle.nim_program.specs.Program.{Literal, Literals, Number, Characters, NoObject, PartsOf, ElementsOf, NoLiteral, ALiteral, Giving, Expr, Apply, Fresh}
use Rattle.nim_program.specs.Program.{Label, Ordinals, Exactly, Chooser, ByConditions, ByLabels}
use Rattle.nim_program.specs.Program.{NoArg, constant_in, Program}
use Rattle.nim_program.specs.Folds.{Standing, Part, Acting, Choosing, Leading, total, total_at, numbers, lists, in_bodies, capped}
use Rattle.nim_program.proofs.ForCallers.{Relates, related_of, related_bodies}
use Rattle.nim_types.specs.declared.types.TheConstants.{LIST_BYTES}
use Rattle.program_limits.specs.Data.{literal_bytes, literal_texts, all_texts, standing_texts, part_texts, own_texts, body_texts}
use Rattle.program_limits.specs.Data.{has_links, any_has_links, linked_part_bytes, linked_bytes, part_constants, own_constants, body_constants}
use Rattle.program_limits.specs.Data.{program_texts, texts_size, constants_size, constants_counted}
use Rattle.program_limits.specs.Data.{label_texts, branch_texts, labels_texts, chooser_texts}
use Rattle.program_limits.specs.Meeting.{label_before, branch_before, labels_before, chooser_before}
use Rattle.program_limits.specs.Meeting.{Found, none_found, with_text, with_linked, Before, before, literal_before, all_before, given_before}
use Rattle.program_limits.specs.Meeting.{standing_before, part_before, own_before, body_before}

-- ---- one text

pub any_same : {A : Type 0} (f g : A → Bool) → ((x : A) → f x ≡ g x) → (xs : List A) → list_any f xs ≡ list_any g xs
any_same f g same [] = refl
any_same f g same (x ∷ xs) = ap₂ (λ a b. a || b) (same x) (any_same f g same xs)

-- one more that is equal to one that was met
pub met_again : (met : List (List ℕ)) (text other : List ℕ) → is_member same_text met text ≡ true →
    is_member same_text (text ∷ met) other ≡ is_member same_text met other
met_again met text other is = by (same_text other text) refl
  where
    by : (b : Bool) → same_text other text ≡ b → (same_text other text || is_member same_text met other) ≡ is_member same_text met other
    by false e = ap (λ b. b || is_member same_text met other) e
    by true e =
        ap (λ b. b || is_member same_text met other) e
        ∙ sym (any_same (same_text other) (same_text text) (λ z. nat_list_eq_equiv.congr other text z e) met ∙ is)

-- ---- what a tree puts before what was met: these texts, and so many bytes

abbrev Puts : (texts : List (List ℕ)) → (bytes : ℕ) → Before → Type 0
Puts texts bytes puts = (met : Found) → ((puts met).texts ≡ texts ++ met.texts) × ((puts met).linked ≡ bytes + met.linked)

both : (some more : List (List ℕ)) (a b : ℕ) (f g : Before) → Puts some a f → Puts more b g → Puts (some ++ more) (a + b) (λ met. f (g met))
both some more a b f g h k met =
    let first = h (g met) in
    let second = k met in
    (first.0 ∙ ap (λ ts. some ++ ts) second.0 ∙ sym (append_assoc some more met.texts), omega (arith, first.1, second.1))

mutual
  literal_is : (l : Literal) → Puts (literal_texts l) 0 (literal_before l)
  literal_is (Number z) met = (refl, omega arith)
  literal_is (Characters text) met = (refl, omega arith)
  literal_is NoObject met = (refl, omega arith)
  literal_is (PartsOf all) met = all_is all met
  literal_is (ElementsOf all) met = all_is all met

  all_is : (all : Literals) → Puts (all_texts all) 0 (all_before all)
  all_is NoLiteral met = (refl, omega arith)
  all_is (ALiteral first rest) met =
      both (literal_texts first) (all_texts rest) 0 0 (literal_before first) (all_before rest) (literal_is first) (all_is rest) met

label_is : (label : Label) → Puts (label_texts label) 0 (label_before label)
label_is (Ordinals low high) met = (refl, omega arith)
label_is (Exactly text) met = (refl, omega arith)

branch_is : (labels : List Label) → Puts (branch_texts labels) 0 (branch_before labels)
branch_is [] met = (refl, omega arith)
branch_is (label ∷ labels) met =
    both (label_texts label) (branch_texts labels) 0 0 (label_before label) (branch_before labels) (label_is label) (branch_is labels) met

labels_is : (all : List (List Label)) → Puts (labels_texts all) 0 (labels_before all)
labels_is [] met = (refl, omega arith)
labels_is (labels ∷ rest) met =
    both (branch_texts labels) (labels_texts rest) 0 0 (branch_before labels) (labels_before rest) (branch_is labels) (labels_is rest) met

chooser_is : (chooser : Chooser) → Puts (chooser_texts chooser) 0 (chooser_before chooser)
chooser_is ByConditions met = (refl, omega arith)
chooser_is (ByLabels labels) met = labels_is labels met

given_is : (l : Literal) → Puts (literal_texts l) (linked_bytes l) (given_before l)
given_is l met = let h = literal_is l met in (h.0, omega (arith, h.1))

-- what leads nowhere has no texts
mutual
  no_texts : (l : Literal) → has_links l ≡ false → literal_texts l ≡ []
  no_texts (Number z) e = refl
  no_texts (Characters text) e = absurd (both_ways true e refl)
  no_texts NoObject e = refl
  no_texts (PartsOf all) e = none_texts all e
  no_texts (ElementsOf all) e = absurd (both_ways true e refl)

  none_texts : (all : Literals) → any_has_links all ≡ false → all_texts all ≡ []
  none_texts NoLiteral e = refl
  none_texts (ALiteral first rest) e =
      let h = or_parts (has_links first) (any_has_links rest) e in
      ap (λ ts. ts ++ all_texts rest) (no_texts first h.0) ∙ none_texts rest h.1

no_bytes : (l : Literal) → has_links l ≡ false → linked_bytes l ≡ 0
no_bytes (Number z) e = refl
no_bytes (Characters text) e = refl
no_bytes NoObject e = refl
no_bytes (PartsOf all) e = cond-false (any_has_links all) (LIST_BYTES + linked_part_bytes (PartsOf all)) 0 e
no_bytes (ElementsOf all) e = absurd (both_ways true e refl)

standing_is : (l : Literal) → Puts (standing_texts l) (linked_bytes l + linked_bytes l) (λ met. standing_before (Some l) (given_before l met))
standing_is l met = by (has_links l) refl (given_is l met)
  where
    by : (b : Bool) → has_links l ≡ b →
        ((given_before l met).texts ≡ literal_texts l ++ met.texts) × ((given_before l met).linked ≡ linked_bytes l + met.linked) →
        ((standing_before (Some l) (given_before l met)).texts ≡ standing_texts l ++ met.texts)
        × ((standing_before (Some l) (given_before l met)).linked ≡ linked_bytes l + linked_bytes l + met.linked)
    by true e h =
        let kept = with_linked (linked_bytes l) (given_before l met) in
        let put = with_text (literal_bytes l) (given_before l met) in
        let is = cond-true (has_links l) kept put e in (
          ap (λ f. f.texts) is ∙ h.0 ∙ ap (λ ts. ts ++ met.texts) (sym (cond-true (has_links l) (literal_texts l) (literal_bytes l ∷ []) e)),
          ap (λ f. f.linked) is ∙ omega (arith, h.1),
        )
    by false e h =
        let kept = with_linked (linked_bytes l) (given_before l met) in
        let put = with_text (literal_bytes l) (given_before l met) in
        let is = cond-false (has_links l) kept put e in (
          ap (λ f. f.texts) is ∙ ap (λ ts. literal_bytes l ∷ ts) (h.0 ∙ ap (λ ts. ts ++ met.texts) (no_texts l e))
              ∙ ap (λ ts. ts ++ met.texts) (sym (cond-false (has_links l) (literal_texts l) (literal_bytes l ∷ []) e)),
          ap (λ f. f.linked) is ∙ omega (arith, h.1, no_bytes l e),
        )

part_puts : (part : Part) → Puts (part_texts part) (part_constants part) (part_before part)
part_puts (Acting (Giving literal)) met = given_is literal met
part_puts (Choosing chooser looked) met = chooser_is chooser met
part_puts (Leading read written (Standing literal)) met = standing_is literal met
part_puts part met = (refl, omega arith)

-- a path that begins with a constant has its bytes beside the value
pub fresh_before : (read : Bool) (value : Expr) (met : Found) →
    total_at before own_before read (Fresh value) met ≡ standing_before (constant_in value) (total before own_before value met)
fresh_before read (Apply node ty (Giving literal) NoArg) met = refl
fresh_before read value met = refl

-- of texts and of bytes by themselves
abbrev PutsTexts : List (List ℕ) → Before → Type 0
PutsTexts texts puts = (met : Found) → (puts met).texts ≡ texts ++ met.texts

abbrev PutsBytes : ℕ → Before → Type 0
PutsBytes bytes puts = (met : Found) → (puts met).linked ≡ bytes + met.linked

puts_texts : Relates lists before own_texts own_before PutsTexts
puts_texts = record {
  none = λ met. refl;
  plus = λ xs ys f g h k met. h (g met) ∙ ap (λ ts. xs ++ ts) (k met) ∙ sym (append_assoc xs ys met.texts);
  own = λ seen met. (part_puts seen.part met).0;
}

puts_bytes : Relates numbers before own_constants own_before PutsBytes
puts_bytes = record {
  none = λ met. omega arith;
  plus = λ a b f g h k met. omega (arith, h (g met), k met);
  own = λ seen met. (part_puts seen.part met).1;
}

texts_put : (program : Program) → PutsTexts (program_texts program) (in_bodies before body_before program)
texts_put program =
    related_bodies lists before body_texts body_before PutsTexts puts_texts.none puts_texts.plus
    (λ body. related_of lists before own_texts own_before PutsTexts puts_texts body.stmts) program

bytes_put : (program : Program) → PutsBytes (constants_size program) (in_bodies before body_before program)
bytes_put program =
    related_bodies numbers before body_constants body_before PutsBytes puts_bytes.none puts_bytes.plus
    (λ body. related_of numbers before own_constants own_before PutsBytes puts_bytes body.stmts) program

-- the procedures before the start code
pub all_met : (program : Program) (size : ℕ) → (found : Found) → found ≡ in_bodies before body_before program none_found →
    size ≡ capped MOST_DATA (texts_size found.texts + found.linked) → size ≡ capped MOST_DATA (constants_counted program)
all_met program size found e is =
    let texts = ap (λ f. texts_size f.texts) e ∙ ap texts_size (texts_put program none_found ∙ append-nil (program_texts program)) in
    let bytes = ap (λ f. f.linked) e ∙ bytes_put program none_found in
    is ∙ omega (arith, texts, bytes)
