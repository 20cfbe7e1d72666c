-- The pieces of a constant make its value; and which constants are one text.
use Rattle.std.proofs.Common.{◌≡◌, ℕ, suc, ◌+◌, List, [], ◌∷◌, ◌++◌, Option, true, refl, sym, ap, ◌∙◌, append_assoc, append-nil, arith}
use Rattle.nim_types.specs.Types.{Ty}
use Rattle.nim_program.specs.declared.expr.Node.{Node}
use Rattle.nim_program.specs.Program.{Literal, Number as Ordinal, Characters, NoObject, PartsOf, ElementsOf, Literals, NoLiteral, ALiteral}
use Rattle.nim_program.specs.Program.{Doing, Building, Giving, Calling, Expr, Apply, Read, Early, Choose, NoArg, ByValue, ByPath, constant_in}
use Rattle.nim_meaning.specs.Values.{Value, Parts, Values, Nil, More, bytes, literal_value, literal_values}
use Rattle.nim_meaning.specs.Table.{literal_bytes}
use Rattle.flat_code.specs.declared.line.Piece.{Piece}
use Rattle.flat_code.specs.declared.line.Piece.TheVariants as P
use Rattle.flat_code.specs.Pieces.{gathered, read_on, last_read, value_of, pieces_bytes, count_of, pieces_of, pieces_of_all}
use Rattle.flattening.specs.ExprLines.{is_one_text}
use Rattle.flattening.proofs.LineNames.{never}

-- the values of some, read one after another
abbrev stacked : Literals → List Value → List Value
stacked NoLiteral before = before
stacked (ALiteral first rest) before = stacked rest (literal_value first ∷ before)

abbrev joined : Literals → Values → Values
joined NoLiteral more = more
joined (ALiteral first rest) more = More (literal_value first) (joined rest more)

joined_none : (all : Literals) → joined all Nil ≡ literal_values all
joined_none NoLiteral = refl
joined_none (ALiteral first rest) = ap (More (literal_value first)) (joined_none rest)

abbrev counted : Literals → ℕ → ℕ
counted NoLiteral m = m
counted (ALiteral first rest) m = counted rest (suc m)

counted_is : (all : Literals) (m : ℕ) → counted all m ≡ count_of all + m
counted_is NoLiteral m = omega arith
counted_is (ALiteral first rest) m = let e : count_of rest + suc m ≡ suc (count_of rest) + m = omega arith in counted_is rest (suc m) ∙ e

gathers : (all : Literals) (m : ℕ) (before : List Value) (more : Values) →
    gathered (counted all m) (stacked all before) more ≡ gathered m before (joined all more)
gathers NoLiteral m before more = refl
gathers (ALiteral first rest) m before more = gathers rest (suc m) (literal_value first ∷ before) more

all_gathered : (all : Literals) (before : List Value) → gathered (count_of all) (stacked all before) Nil ≡ Parts (literal_values all) ∷ before
all_gathered all before =
    let e : count_of all ≡ counted all 0 = omega (arith, counted_is all 0) in
    ap (λ n. gathered n (stacked all before) Nil) e ∙ (gathers all 0 before Nil ∙ ap (λ vs. Parts vs ∷ before) (joined_none all))

mutual
  reads : (l : Literal) (rest : List Piece) (before : List Value) → read_on (pieces_of l ++ rest) before ≡ read_on rest (literal_value l ∷ before)
  reads (Ordinal z) rest before = refl
  reads (Characters text) rest before = refl
  reads NoObject rest before = refl
  reads (PartsOf all) rest before =
      ap (λ pieces. read_on pieces before) (append_assoc (pieces_of_all all) (P.Parts (count_of all) ∷ []) rest)
      ∙ (reads_all all (P.Parts (count_of all) ∷ rest) before ∙ ap (read_on rest) (all_gathered all before))
  reads (ElementsOf all) rest before =
      ap (λ pieces. read_on pieces before) (append_assoc (pieces_of_all all) (P.Elements (count_of all) ∷ []) rest)
      ∙ (reads_all all (P.Elements (count_of all) ∷ rest) before ∙ ap (read_on rest) (all_gathered all before))

  reads_all : (all : Literals) (rest : List Piece) (before : List Value) → read_on (pieces_of_all all ++ rest) before ≡ read_on rest (stacked all before)
  reads_all NoLiteral rest before = refl
  reads_all (ALiteral first more) rest before =
      ap (λ pieces. read_on pieces before) (append_assoc (pieces_of first) (pieces_of_all more) rest)
      ∙ (reads first (pieces_of_all more ++ rest) before ∙ reads_all more rest (literal_value first ∷ before))

pub pieces_value : (l : Literal) → value_of (pieces_of l) ≡ literal_value l
pieces_value l = ap (λ pieces. value_of pieces) (sym (append-nil (pieces_of l))) ∙ ap last_read (reads l [] [])

parts_built : (pieces : List Piece) (n : ℕ) → pieces_bytes (pieces ++ P.Parts n ∷ []) ≡ bytes (value_of (pieces ++ P.Parts n ∷ []))
parts_built [] n = refl
parts_built (P.Ordinal z ∷ []) n = refl
parts_built (P.Ordinal z ∷ p ∷ ps) n = refl
parts_built (P.Text t ∷ []) n = refl
parts_built (P.Text t ∷ p ∷ ps) n = refl
parts_built (P.Nil ∷ ps) n = refl
parts_built (P.Parts m ∷ ps) n = refl
parts_built (P.Elements m ∷ ps) n = refl

elements_built : (pieces : List Piece) (n : ℕ) → pieces_bytes (pieces ++ P.Elements n ∷ []) ≡ bytes (value_of (pieces ++ P.Elements n ∷ []))
elements_built [] n = refl
elements_built (P.Ordinal z ∷ []) n = refl
elements_built (P.Ordinal z ∷ p ∷ ps) n = refl
elements_built (P.Text t ∷ []) n = refl
elements_built (P.Text t ∷ p ∷ ps) n = refl
elements_built (P.Nil ∷ ps) n = refl
elements_built (P.Parts m ∷ ps) n = refl
elements_built (P.Elements m ∷ ps) n = refl

pub pieces_cost : (l : Literal) → pieces_bytes (pieces_of l) ≡ literal_bytes l
pieces_cost (Ordinal z) = refl
pieces_cost (Characters text) = refl
pieces_cost NoObject = refl
pieces_cost (PartsOf all) = parts_built (pieces_of_all all) (count_of all) ∙ ap (λ v. bytes v) (pieces_value (PartsOf all))
pieces_cost (ElementsOf all) = elements_built (pieces_of_all all) (count_of all) ∙ ap (λ v. bytes v) (pieces_value (ElementsOf all))

-- ---- one text

pub record IsText (e : Expr) : Type 0 where
  pub node : Node
  pub ty : Option Ty
  pub text : List ℕ
  pub is : e ≡ Apply node ty (Giving (Characters text)) NoArg

pub text_is : (e : Expr) → is_one_text (constant_in e) ≡ true → IsText e
text_is (Apply node ty (Giving (Characters text)) NoArg) h = record { node = node; ty = ty; text = text; is = refl }
text_is (Apply node ty (Giving (Ordinal z)) NoArg) h = never h
text_is (Apply node ty (Giving NoObject) NoArg) h = never h
text_is (Apply node ty (Giving (PartsOf all)) NoArg) h = never h
text_is (Apply node ty (Giving (ElementsOf all)) NoArg) h = never h
text_is (Apply node ty (Giving literal) (ByValue e rest)) h = never h
text_is (Apply node ty (Giving literal) (ByPath path rest)) h = never h
text_is (Apply node ty (Doing operation) operands) h = never h
text_is (Apply node ty (Building fields) operands) h = never h
text_is (Apply node ty (Calling proc types) operands) h = never h
text_is (Read path) h = never h
text_is (Early node ty short left right) h = never h
text_is (Choose node ty chooser parts) h = never h
