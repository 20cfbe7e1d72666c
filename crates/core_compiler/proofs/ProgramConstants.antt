-- Constants with texts or sequences inside count in flat code as in its program.
use Rattle.std.proofs.Common.{◌≡◌, ◌∙◌, ◌<◌, ℕ, ◌+◌, Bool, true, false, List, [], ◌∷◌, ◌++◌, refl, ap, ap₂, arith}
use Rattle.std.specs.Prelude.{zero, suc, not, ◌&&◌, ◌||◌, if◌then◌else◌}
use Rattle.nim_types.specs.Forms.{or_word}
use Rattle.nim_types.specs.declared.types.TheConstants.{LIST_BYTES}
use Rattle.nim_program.specs.Program.{Literal, Literals, Number, Characters, NoObject, PartsOf, ElementsOf, NoLiteral, ALiteral, Giving, Program}
use Rattle.nim_program.specs.Folds.{Standing, Part, Acting, Leading, numbers}
use Rattle.nim_program.proofs.ForCallers.{related_of, related_bodies}
use Rattle.flat_code.specs.declared.line.Piece.{Piece}
use Rattle.flat_code.specs.declared.line.Piece.TheVariants as P
use Rattle.flat_code.specs.Pieces.{pieces_of, pieces_of_all, count_of, is_one_text, has_links as pieces_link}
use Rattle.flat_code.specs.Sizes.{linked_pieces_bytes, linked_bytes as pieces_linked}
use Rattle.flattening.specs.Counted.{part_constants as counted_constants, own_constants as own_counted, body_constants as body_counted, program_constants}
use Rattle.program_limits.specs.Data.{has_links, any_has_links, linked_part_bytes, linked_parts_bytes, linked_bytes}
use Rattle.program_limits.specs.Data.{part_constants, own_constants, body_constants, constants_size}

-- ---- whether texts or sequences stand in one

append_links : (a b : List Piece) → pieces_link (a ++ b) ≡ (pieces_link a || pieces_link b)
append_links [] b = refl
append_links (P.Ordinal z ∷ a) b = append_links a b
append_links (P.Text t ∷ a) b = refl
append_links (P.Nil ∷ a) b = append_links a b
append_links (P.Parts n ∷ a) b = append_links a b
append_links (P.Elements n ∷ a) b = refl

or_false : (b : Bool) → (b || false) ≡ b
or_false true = refl
or_false false = refl

or_true : (b : Bool) → (b || true) ≡ true
or_true true = refl
or_true false = refl

mutual
  pub links_are : (l : Literal) → pieces_link (pieces_of l) ≡ has_links l
  links_are (Number z) = refl
  links_are (Characters text) = refl
  links_are NoObject = refl
  links_are (PartsOf all) =
      append_links (pieces_of_all all) (P.Parts (count_of all) ∷ []) ∙ or_false (pieces_link (pieces_of_all all)) ∙ all_links all
  links_are (ElementsOf all) =
      append_links (pieces_of_all all) (P.Elements (count_of all) ∷ []) ∙ or_true (pieces_link (pieces_of_all all))

  all_links : (all : Literals) → pieces_link (pieces_of_all all) ≡ any_has_links all
  all_links NoLiteral = refl
  all_links (ALiteral first rest) =
      append_links (pieces_of first) (pieces_of_all rest) ∙ ap₂ (λ a b. a || b) (links_are first) (all_links rest)

-- ---- its bytes

append_linked : (a b : List Piece) → linked_pieces_bytes (a ++ b) ≡ linked_pieces_bytes a + linked_pieces_bytes b
append_linked [] b = omega arith
append_linked (p ∷ a) b = let h = append_linked a b in omega (arith, h)

some_word : (n : ℕ) → 0 < n → or_word n ≡ n
some_word zero h = absurd (omega (arith, h))
some_word (suc n) h = refl

word_some : (n : ℕ) → 0 < or_word n
word_some zero = omega arith
word_some (suc n) = omega arith

some_bytes : (l : Literal) → 0 < linked_part_bytes l
some_bytes (Number z) = omega arith
some_bytes (Characters text) = omega arith
some_bytes NoObject = omega arith
some_bytes (PartsOf all) = word_some (linked_parts_bytes all)
some_bytes (ElementsOf all) = omega arith

mutual
  parts_are : (l : Literal) → linked_pieces_bytes (pieces_of l) ≡ linked_part_bytes l
  parts_are (Number z) = refl
  parts_are (Characters text) = refl
  parts_are NoObject = refl
  parts_are (PartsOf NoLiteral) = refl
  parts_are (PartsOf (ALiteral first rest)) =
      let h = append_linked (pieces_of_all (ALiteral first rest)) (P.Parts (suc (count_of rest)) ∷ []) in
      let i = all_parts (ALiteral first rest) in
      let some = some_bytes first in
      let whole = some_word (linked_parts_bytes (ALiteral first rest)) (omega (arith, some)) in
      omega (arith, h, i, whole)
  parts_are (ElementsOf all) =
      let h = append_linked (pieces_of_all all) (P.Elements (count_of all) ∷ []) in
      let i = all_parts all in
      omega (arith, h, i)

  all_parts : (all : Literals) → linked_pieces_bytes (pieces_of_all all) ≡ linked_parts_bytes all
  all_parts NoLiteral = refl
  all_parts (ALiteral first rest) =
      let h = append_linked (pieces_of first) (pieces_of_all rest) in
      let i = parts_are first in
      let j = all_parts rest in
      omega (arith, h, i, j)

-- behind others no piece is one text
no_text : (pieces : List Piece) (last : Piece) → is_one_text (last ∷ []) ≡ false → is_one_text (pieces ++ last ∷ []) ≡ false
no_text [] last alone = alone
no_text (P.Ordinal z ∷ ps) last alone = refl
no_text (P.Text t ∷ []) last alone = refl
no_text (P.Text t ∷ p ∷ ps) last alone = refl
no_text (P.Nil ∷ ps) last alone = refl
no_text (P.Parts n ∷ ps) last alone = refl
no_text (P.Elements n ∷ ps) last alone = refl

whole_are : (l : Literal) → is_one_text (pieces_of l) ≡ false →
    pieces_linked (pieces_of l) ≡ (if has_links l then LIST_BYTES + linked_part_bytes l else 0)
whole_are l none =
    let pieces = pieces_of l in
    ap (λ one. if not one && pieces_link pieces then LIST_BYTES + linked_pieces_bytes pieces else 0) none
    ∙ ap₂ (λ b n. if b then LIST_BYTES + n else 0) (links_are l) (parts_are l)

pub linked_are : (l : Literal) → pieces_linked (pieces_of l) ≡ linked_bytes l
linked_are (Number z) = refl
linked_are (Characters text) = refl
linked_are NoObject = refl
linked_are (PartsOf all) = whole_are (PartsOf all) (no_text (pieces_of_all all) (P.Parts (count_of all)) refl)
linked_are (ElementsOf all) = whole_are (ElementsOf all) (no_text (pieces_of_all all) (P.Elements (count_of all)) refl)

-- ---- all of a program

part_is : (part : Part) → counted_constants part ≡ part_constants part
part_is (Acting (Giving literal)) = linked_are literal
part_is (Leading read written (Standing literal)) = ap₂ (λ a b. a + b) (linked_are literal) (linked_are literal)
part_is part = refl

abbrev Same : ℕ → ℕ → Type 0
Same x y = x ≡ y

pub constants_are : (program : Program) → program_constants program ≡ constants_size program
constants_are program =
    related_bodies numbers numbers body_counted body_constants Same refl (λ x y u v h g. ap₂ (λ a b. a + b) h g)
    (λ body. related_of numbers numbers own_counted own_constants Same (record {
      none = refl;
      plus = λ x y u v h g. ap₂ (λ a b. a + b) h g;
      own = λ seen. part_is seen.part;
    }) body.stmts) program
