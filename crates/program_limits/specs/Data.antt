-- The data of a program as its size counts (E25): its globals, the names of the members of its enums and of its exceptions, the names of the six
-- exceptions that every program has, the texts of its constants, literals and labels, and the constants that are read in place, as bytes: of texts and
-- such constants each distinct one once. Each stands with a word for its length, up to whole words, and where they are many, each further one with a word
-- for its place. A constant with texts or sequences inside counts wherever it is used, and twice where it is read in place. A name counts wherever it is
-- declared, also where a text or another name is equal to it.
use Rattle.std.specs.Int.{w32, cast_unsigned, to_le_bytes}
use Rattle.std.specs.Prelude.{ℕ, ◌+◌, ◌*◌, ◌-◌, Bool, true, false, ◌||◌, if◌then◌else◌, List, [], ◌∷◌, ◌++◌, length, codes}
use Rattle.std.specs.Set.{unique_keys}
use Rattle.nim_types.specs.Types.{Ty, exception, Fact, members, below, Facts, same_text}
use Rattle.nim_types.specs.declared.types.TheConstants.{WORD_BYTES, LIST_BYTES}
use Rattle.nim_types.specs.Forms.{or_word}
use Rattle.nim_types.specs.declared.types.TypeDef.{TypeDef}
use Rattle.nim_types.specs.declared.types.TypeDef.TheVariants as D
use Rattle.nim_program.specs.Program.{Literal, Literals, Number, Characters, NoObject, PartsOf, ElementsOf, NoLiteral, ALiteral, Giving, Body, Program}
use Rattle.nim_program.specs.Program.{Label, Ordinals, Exactly, Chooser, ByConditions, ByLabels}
use Rattle.nim_program.specs.Folds.{Standing, Part, Acting, Choosing, Leading, Seen, numbers, lists, total_of, in_bodies}
use Rattle.nim_program.specs.Sizes.{globals_size}
use Rattle.nim_program.specs.TextSizes.{text_bytes, all_bytes}
use Rattle.program_limits.specs.declared.texts.TheConstants.{FEW_TEXTS}

-- ---- names

-- the names that a declaration of a type brings with it
abbrev pub names_in : Ty → Fact → ℕ
names_in ty (members names) = all_bytes names
names_in (exception key) (below parent) = text_bytes key.name
names_in ty fact = 0

abbrev pub names_size : Facts → ℕ
names_size [] = 0
names_size (said ∷ facts) = names_in said.of said.fact + names_size facts

-- the exceptions that every program has
abbrev pub given_names : List (List ℕ)
given_names = codes "CatchableError" ∷ codes "ValueError" ∷ codes "IOError" ∷ codes "OSError" ∷ codes "KeyError" ∷ codes "EOFError" ∷ []

-- ---- texts, in order

abbrev mutual
  pub literal_texts : Literal → List (List ℕ)
  literal_texts (Number value) = []
  literal_texts (Characters text) = text ∷ []
  literal_texts NoObject = []
  literal_texts (PartsOf all) = all_texts all
  literal_texts (ElementsOf all) = all_texts all

  pub all_texts : Literals → List (List ℕ)
  all_texts NoLiteral = []
  all_texts (ALiteral first rest) = literal_texts first ++ all_texts rest

-- whether texts or sequences stand in it
abbrev mutual
  pub has_links : Literal → Bool
  has_links (Number value) = false
  has_links (Characters text) = true
  has_links NoObject = false
  has_links (PartsOf all) = any_has_links all
  has_links (ElementsOf all) = true

  pub any_has_links : Literals → Bool
  any_has_links NoLiteral = false
  any_has_links (ALiteral first rest) = has_links first || any_has_links rest

-- Without any, the bytes of a constant that is read in place: a word for each number, the lowest byte first, and for what has no parts.
abbrev mutual
  pub literal_bytes : Literal → List ℕ
  literal_bytes (Number value) = to_le_bytes w32 (cast_unsigned w32 value)
  literal_bytes (Characters text) = []
  literal_bytes NoObject = []
  literal_bytes (PartsOf all) = parts_bytes all
  literal_bytes (ElementsOf all) = []

  pub parts_bytes : Literals → List ℕ
  parts_bytes NoLiteral = to_le_bytes w32 0
  parts_bytes (ALiteral first rest) = literal_bytes first ++ joined_bytes rest

  pub joined_bytes : Literals → List ℕ
  joined_bytes NoLiteral = []
  joined_bytes (ALiteral first rest) = literal_bytes first ++ joined_bytes rest

-- of labels, which a selector is compared with
abbrev pub label_texts : Label → List (List ℕ)
label_texts (Ordinals low high) = []
label_texts (Exactly text) = text ∷ []

abbrev pub branch_texts : List Label → List (List ℕ)
branch_texts [] = []
branch_texts (label ∷ labels) = label_texts label ++ branch_texts labels

abbrev pub labels_texts : List (List Label) → List (List ℕ)
labels_texts [] = []
labels_texts (labels ∷ rest) = branch_texts labels ++ labels_texts rest

abbrev pub chooser_texts : Chooser → List (List ℕ)
chooser_texts ByConditions = []
chooser_texts (ByLabels labels) = labels_texts labels

-- a constant that is read in place: its texts, or the bytes of one without texts or sequences
abbrev pub standing_texts : Literal → List (List ℕ)
standing_texts literal = if has_links literal then literal_texts literal else literal_bytes literal ∷ []

abbrev pub part_texts : Part → List (List ℕ)
part_texts (Acting (Giving literal)) = literal_texts literal
part_texts (Choosing chooser looked) = chooser_texts chooser
part_texts (Leading read written (Standing literal)) = standing_texts literal
part_texts part = []

abbrev pub own_texts : Seen → List (List ℕ)
own_texts seen = part_texts seen.part

abbrev pub body_texts : Body → List (List ℕ)
body_texts body = total_of lists own_texts body.stmts

-- of all procedures and the start code, each as often as it stands there
abbrev pub program_texts : Program → List (List ℕ)
program_texts = in_bodies lists body_texts

-- ---- constants with texts or sequences inside

-- A number is a word, a text or a sequence has a length and an address; the elements of a sequence stand behind a handle.
abbrev mutual
  pub linked_part_bytes : Literal → ℕ
  linked_part_bytes (Number value) = WORD_BYTES
  linked_part_bytes (Characters text) = LIST_BYTES
  linked_part_bytes NoObject = WORD_BYTES
  linked_part_bytes (PartsOf all) = or_word (linked_parts_bytes all)
  linked_part_bytes (ElementsOf all) = LIST_BYTES + LIST_BYTES + linked_parts_bytes all

  pub linked_parts_bytes : Literals → ℕ
  linked_parts_bytes NoLiteral = 0
  linked_parts_bytes (ALiteral first rest) = linked_part_bytes first + linked_parts_bytes rest

-- with its handle
abbrev pub handled_bytes : Literal → ℕ
handled_bytes literal = if has_links literal then LIST_BYTES + linked_part_bytes literal else 0

-- one text is no such constant
abbrev pub linked_bytes : Literal → ℕ
linked_bytes (Characters text) = 0
linked_bytes literal = handled_bytes literal

-- one that is read in place counts twice, since a `for` looks it up at two places
abbrev pub part_constants : Part → ℕ
part_constants (Acting (Giving literal)) = linked_bytes literal
part_constants (Leading read written (Standing literal)) = linked_bytes literal + linked_bytes literal
part_constants part = 0

abbrev pub own_constants : Seen → ℕ
own_constants seen = part_constants seen.part

abbrev pub body_constants : Body → ℕ
body_constants body = total_of numbers own_constants body.stmts

-- of all procedures and the start code
abbrev pub constants_size : Program → ℕ
constants_size = in_bodies numbers body_constants

-- ---- sizes

-- a word for each beyond so many
abbrev pub further_bytes : (texts : ℕ) → ℕ
further_bytes n = WORD_BYTES * (n - FEW_TEXTS)

-- each distinct one once
abbrev pub texts_size : List (List ℕ) → ℕ
texts_size texts = all_bytes (unique_keys same_text texts) + further_bytes (length (unique_keys same_text texts))

abbrev pub constants_counted : Program → ℕ
constants_counted program = texts_size (program_texts program) + constants_size program

-- ---- all

abbrev pub data_counted : Program → ℕ
data_counted program = globals_size program.facts program.globals
    + (names_size program.facts + (all_bytes given_names + constants_counted program))

-- ---- the names by the entries of a table; it serves proofs alone

abbrev pub entry_names : TypeDef → ℕ
entry_names (D.Enum name at all) = all_bytes all
entry_names (D.Exception name at parent) = text_bytes name
entry_names def = 0

abbrev pub table_names : List TypeDef → ℕ
table_names [] = 0
table_names (def ∷ table) = entry_names def + table_names table
