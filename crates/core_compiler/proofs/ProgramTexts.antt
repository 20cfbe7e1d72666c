-- The distinct texts of flat code are texts of its program.
use Rattle.std.proofs.Common.{◌≡◌, ◌∙◌, ◌≤◌, ◌<◌, ℕ, ◌+◌, ◌*◌, Bool, true, false, List, [], ◌∷◌, ◌++◌, refl, sym, ap, ap₂, append_assoc}
use Rattle.std.proofs.Common.{append-nil, arith}
use Rattle.std.specs.Int.{w32, cast_unsigned, to_le_bytes}
use Rattle.std.specs.Prelude.{zero, suc, ◌||◌, if◌then◌else◌}
use Rattle.std.specs.Set.{is_member}
use Rattle.std.proofs.lemmas.Bool.{both_ways, or_parts}
use Rattle.nim_types.specs.Types.{same_text}
use Rattle.nim_plan.specs.declared.plan.Plan.{Plan}
use Rattle.nim_program.specs.Program.{Literal, Literals, Number, Characters, NoObject, PartsOf, ElementsOf, NoLiteral, ALiteral, Giving, Program}
use Rattle.nim_program.specs.Program.{Label, Ordinals, Exactly, Chooser, ByConditions, ByLabels}
use Rattle.nim_program.specs.Folds.{Standing, Part, Acting, Choosing, Leading, lists, numbers}
use Rattle.nim_program.proofs.ForCallers.{Relates, related_of, related_bodies}
use Rattle.flat_code.specs.Codes.{flat_plain}
use Rattle.flat_code.specs.declared.line.Piece.{Piece}
use Rattle.flat_code.specs.declared.line.Piece.TheVariants as P
use Rattle.flat_code.specs.Pieces.{pieces_of, pieces_of_all, count_of, piece_words, words_bytes, standing_bytes}
use Rattle.flat_code.specs.Sizes.{piece_texts, pieces_texts, standing_texts as placed_texts, code_texts}
use Rattle.flattening.specs.Counted.{label_texts as counted_label, these_texts, branch_texts as counted_branches, chooser_texts as counted_chooser}
use Rattle.flattening.specs.Counted.{times, part_texts as counted_texts, own_times, body_times, program_times}
use Rattle.flattening.specs.Given.{flat_procs}
use Rattle.program_limits.specs.Data.{has_links, any_has_links, label_texts, branch_texts, labels_texts, chooser_texts}
use Rattle.program_limits.specs.Data.{literal_bytes, joined_bytes, literal_texts, all_texts, standing_texts, part_texts, own_texts, body_texts}
use Rattle.program_limits.specs.Data.{program_texts, texts_size}
use Rattle.program_limits.proofs.ForCallers.{texts_most}
use Rattle.core_compiler.proofs.ProgramConstants.{links_are}

-- ---- the texts of one constant, in the same order

append_texts : (a b : List Piece) → pieces_texts (a ++ b) ≡ pieces_texts a ++ pieces_texts b
append_texts [] b = refl
append_texts (p ∷ a) b =
    ap (λ ts. piece_texts p ++ ts) (append_texts a b) ∙ sym (append_assoc (piece_texts p) (pieces_texts a) (pieces_texts b))

mutual
  pieces_are : (l : Literal) → pieces_texts (pieces_of l) ≡ literal_texts l
  pieces_are (Number z) = refl
  pieces_are (Characters text) = refl
  pieces_are NoObject = refl
  pieces_are (PartsOf all) =
      append_texts (pieces_of_all all) (P.Parts (count_of all) ∷ []) ∙ append-nil (pieces_texts (pieces_of_all all)) ∙ all_are all
  pieces_are (ElementsOf all) =
      append_texts (pieces_of_all all) (P.Elements (count_of all) ∷ []) ∙ append-nil (pieces_texts (pieces_of_all all)) ∙ all_are all

  all_are : (all : Literals) → pieces_texts (pieces_of_all all) ≡ all_texts all
  all_are NoLiteral = refl
  all_are (ALiteral first rest) =
      append_texts (pieces_of first) (pieces_of_all rest) ∙ ap₂ (λ ts us. ts ++ us) (pieces_are first) (all_are rest)

-- ---- the bytes of one that is read in place, without texts or sequences

append_words : (a b : List Piece) → piece_words (a ++ b) ≡ piece_words a ++ piece_words b
append_words [] b = refl
append_words (P.Ordinal z ∷ a) b = ap (λ ws. cast_unsigned w32 z ∷ ws) (append_words a b)
append_words (P.Text t ∷ a) b = append_words a b
append_words (P.Nil ∷ a) b = append_words a b
append_words (P.Parts zero ∷ a) b = ap (λ ws. 0 ∷ ws) (append_words a b)
append_words (P.Parts (suc n) ∷ a) b = append_words a b
append_words (P.Elements n ∷ a) b = append_words a b

append_bytes : (a b : List ℕ) → words_bytes (a ++ b) ≡ words_bytes a ++ words_bytes b
append_bytes [] b = refl
append_bytes (w ∷ a) b = ap (λ bs. to_le_bytes w32 w ++ bs) (append_bytes a b) ∙ sym (append_assoc (to_le_bytes w32 w) (words_bytes a) (words_bytes b))

append_pieces : (a b : List Piece) → standing_bytes (a ++ b) ≡ standing_bytes a ++ standing_bytes b
append_pieces a b = ap words_bytes (append_words a b) ∙ append_bytes (piece_words a) (piece_words b)

mutual
  bytes_are : (l : Literal) → has_links l ≡ false → standing_bytes (pieces_of l) ≡ literal_bytes l
  bytes_are (Number z) e = append-nil (to_le_bytes w32 (cast_unsigned w32 z))
  bytes_are (Characters text) e = refl
  bytes_are NoObject e = refl
  bytes_are (PartsOf NoLiteral) e = append-nil (to_le_bytes w32 0)
  bytes_are (PartsOf (ALiteral first rest)) e =
      append_pieces (pieces_of_all (ALiteral first rest)) (P.Parts (suc (count_of rest)) ∷ [])
      ∙ append-nil (standing_bytes (pieces_of_all (ALiteral first rest))) ∙ joined_are (ALiteral first rest) e
  bytes_are (ElementsOf all) e = absurd (both_ways true e refl)

  joined_are : (all : Literals) → any_has_links all ≡ false → standing_bytes (pieces_of_all all) ≡ joined_bytes all
  joined_are NoLiteral e = refl
  joined_are (ALiteral first rest) e =
      let h = or_parts (has_links first) (any_has_links rest) e in
      append_pieces (pieces_of first) (pieces_of_all rest) ∙ ap₂ (λ bs cs. bs ++ cs) (bytes_are first h.0) (joined_are rest h.1)

-- a constant that is read in place is its texts, or the bytes of one without texts or sequences
standing_are : (l : Literal) → placed_texts (pieces_of l) ≡ standing_texts l
standing_are l =
    ap (λ b. if b then pieces_texts (pieces_of l) else standing_bytes (pieces_of l) ∷ []) (links_are l) ∙ by (has_links l) (λ e. bytes_are l e)
  where
    by : (b : Bool) → (b ≡ false → standing_bytes (pieces_of l) ≡ literal_bytes l) →
        (if b then pieces_texts (pieces_of l) else standing_bytes (pieces_of l) ∷ []) ≡ (if b then literal_texts l else literal_bytes l ∷ [])
    by true bytes = pieces_are l
    by false bytes = ap (λ bs. bs ∷ []) (bytes refl)

-- ---- labels

label_same : (label : Label) → counted_label label ≡ label_texts label
label_same (Ordinals low high) = refl
label_same (Exactly text) = refl

branch_same : (labels : List Label) → these_texts labels ≡ branch_texts labels
branch_same [] = refl
branch_same (label ∷ labels) = ap₂ (λ ts us. ts ++ us) (label_same label) (branch_same labels)

labels_same : (all : List (List Label)) → counted_branches all ≡ labels_texts all
labels_same [] = refl
labels_same (labels ∷ rest) = ap₂ (λ ts us. ts ++ us) (branch_same labels) (labels_same rest)

chooser_same : (chooser : Chooser) → counted_chooser chooser ≡ chooser_texts chooser
chooser_same ByConditions = refl
chooser_same (ByLabels labels) = labels_same labels

module _ (text : List ℕ) where
  -- ---- how often it stands in the list is how often it stands in the program

  both : (xs ys : List (List ℕ)) → times text (xs ++ ys) ≡ times text xs + times text ys
  both [] ys = omega arith
  both (x ∷ xs) ys = let h = both xs ys in omega (arith, h)

  abbrev Counts : List (List ℕ) → ℕ → Type 0
  Counts texts n = times text texts ≡ n

  part_counts : (part : Part) → Counts (part_texts part) (times text (counted_texts part))
  part_counts (Acting (Giving literal)) = ap (times text) (sym (pieces_are literal))
  part_counts (Choosing chooser looked) = ap (times text) (sym (chooser_same chooser))
  part_counts (Leading read written (Standing literal)) = ap (times text) (sym (standing_are literal))
  part_counts part = refl

  counts : Relates lists numbers own_texts (own_times text) Counts
  counts = record {
    none = refl;
    plus = λ xs ys m n h k. both xs ys ∙ ap₂ (λ a b. a + b) h k;
    own = λ seen. part_counts seen.part;
  }

  program_counts : (program : Program) → Counts (program_texts program) (program_times text program)
  program_counts program = related_bodies lists numbers body_texts (body_times text) Counts counts.none counts.plus
      (λ body. related_of lists numbers own_texts (own_times text) Counts counts body.stmts) program

  -- ---- what is there stands there at least once

  stands : (texts : List (List ℕ)) → is_member same_text texts text ≡ true → 0 < times text texts
  stands [] h = absurd (both_ways false refl h)
  stands (t ∷ texts) h = by (same_text text t) refl h (stands texts)
    where
      by : (b : Bool) → same_text text t ≡ b → (b || is_member same_text texts text) ≡ true →
          (is_member same_text texts text ≡ true → 0 < times text texts) → 0 < times text (t ∷ texts)
      by true e i later = let k = ap (λ b. (if b then 1 else 0) + times text texts) e in omega (arith, k)
      by false e i later =
          let k = ap (λ b. (if b then 1 else 0) + times text texts) e in
          let r = later i in
          omega (arith, k, r)

  is_there : (texts : List (List ℕ)) → 0 < times text texts → is_member same_text texts text ≡ true
  is_there [] h = absurd (omega (arith, h))
  is_there (t ∷ texts) h = by (same_text text t) refl (is_there texts)
    where
      by : (b : Bool) → same_text text t ≡ b → (0 < times text texts → is_member same_text texts text ≡ true) →
          (same_text text t || is_member same_text texts text) ≡ true
      by true e later = ap (λ b. b || is_member same_text texts text) e
      by false e later =
          let k = ap (λ b. (if b then 1 else 0) + times text texts) e in
          ap (λ b. b || is_member same_text texts text) e ∙ later (omega (arith, h, k))

module _ (program : Program) (plan : Plan)
    (few : (text : List ℕ) → times text (code_texts flat_plain (flat_procs program plan)) ≤ 2 * program_times text program) where
  pub distinct_most : texts_size (code_texts flat_plain (flat_procs program plan)) ≤ texts_size (program_texts program)
  distinct_most =
      texts_most (code_texts flat_plain (flat_procs program plan)) (program_texts program) (λ text h.
      let there = stands text (code_texts flat_plain (flat_procs program plan)) h in
      let most = few text in
      let same = program_counts text program in
      is_there text (program_texts program) (omega (arith, there, most, same)))
