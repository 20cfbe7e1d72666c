-- Where no label comes twice, the one that stands behind a line is the first of its name.
use Rattle.std.proofs.Common.{◌≡◌, ℕ, Bool, true, false, not, List, [], ◌∷◌, ◌++◌, map, Option, Some, None, refl, sym, ap, ◌∙◌}
use Rattle.std.specs.Prelude.{if◌then◌else◌, ◌||◌}
use Rattle.std.proofs.lemmas.Bool.{and_parts, eqb-true, true≢false}
use Rattle.flat_code.specs.declared.block.BlockLine.{BlockLine}
use Rattle.flat_code.specs.Codes.{block_plain, block_label}
use Rattle.flat_code.specs.Running.{is_name, from_label}
use Rattle.word_lowering.specs.Aliases.{is_it}
use Rattle.word_lowering.specs.MayLower.{has_label, is_fresh, labels_once}
use Rattle.word_lowering.proofs.Options.{none_some}
use Rattle.word_lowering.proofs.ShapeFacts.{never}

abbrev has : ℕ → List BlockLine → Bool
has name lines = has_label name (map block_plain lines)

same_name : (name : ℕ) (o : Option ℕ) → is_it name o ≡ is_name name o
same_name name None = refl
same_name name (Some other) = refl

has_found : (name : ℕ) (lines there : List BlockLine) → from_label block_label name lines ≡ Some there → has name lines ≡ true
has_found name [] there e = absurd (none_some there e)
has_found name (line ∷ lines) there e = by (is_name name (block_label line)) refl e (has_found name lines there)
  where
    by : (b : Bool) → is_name name (block_label line) ≡ b → (if b then Some (line ∷ lines) else from_label block_label name lines) ≡ Some there
        → (from_label block_label name lines ≡ Some there → has name lines ≡ true) → has name (line ∷ lines) ≡ true
    by true t e go = ap (λ b. b || has name lines) (same_name name (block_label line) ∙ t)
    by false t e go = ap (λ b. b || has name lines) (same_name name (block_label line) ∙ t) ∙ go e

or_right_true : (b : Bool) → (b || true) ≡ true
or_right_true true = refl
or_right_true false = refl

has_behind : (name : ℕ) (before after : List BlockLine) → has name after ≡ true → has name (before ++ after) ≡ true
has_behind name [] after h = h
has_behind name (line ∷ before) after h =
    ap (λ b. is_it name (block_label line) || b) (has_behind name before after h) ∙ or_right_true (is_it name (block_label line))

-- a label that comes again isn't fresh
no_fresh : {A : Type 0} (name : ℕ) (o : Option ℕ) (rest : List BlockLine) → is_name name o ≡ true → is_fresh o (map block_plain rest) ≡ true
    → has name rest ≡ true → A
no_fresh name None rest n f h = never n
no_fresh name (Some other) rest n f h =
    let e = eqb-true other name n in
    absurd (true≢false (sym (sym (ap (λ k. not (has k rest)) e) ∙ f) ∙ ap not h))

pub first_one : (before after : List BlockLine) (name : ℕ) (there : List BlockLine) → labels_once (map block_plain (before ++ after)) ≡ true
    → from_label block_label name after ≡ Some there → from_label block_label name (before ++ after) ≡ Some there
first_one [] after name there once e = e
first_one (line ∷ before) after name there once e = by (is_name name (block_label line)) refl (λ o. first_one before after name there o e)
  where
    q : (is_fresh (block_label line) (map block_plain (before ++ after)) ≡ true) × (labels_once (map block_plain (before ++ after)) ≡ true)
    q = and_parts _ _ once

    by : (b : Bool) → is_name name (block_label line) ≡ b
        → (labels_once (map block_plain (before ++ after)) ≡ true → from_label block_label name (before ++ after) ≡ Some there)
        → (if is_name name (block_label line) then Some (line ∷ (before ++ after)) else from_label block_label name (before ++ after)) ≡ Some there
    by true t go = no_fresh name (block_label line) (before ++ after) t q.0 (has_behind name before after (has_found name after there e))
    by false t go = ap (λ b. if b then Some (line ∷ (before ++ after)) else from_label block_label name (before ++ after)) t ∙ go q.1
