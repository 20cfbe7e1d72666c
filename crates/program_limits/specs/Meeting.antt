-- The texts of a tree as they are met from the last one to the first, before those that were met, and the bytes of constants with texts or sequences
-- inside. No public contract speaks of it.
use Rattle.std.specs.Prelude.{◌≡◌, ℕ, ◌+◌, false, if◌then◌else◌, List, [], ◌∷◌, length, Option, Some, None}
use Rattle.std.specs.HashSet.{contains}
use Rattle.std.specs.Set.{is_member, unique_keys}
use Rattle.nim_types.specs.Types.{same_text}
use Rattle.nim_program.specs.declared.text_sizes.TheConstants.{MOST_DATA}
use Rattle.nim_program.specs.Program.{Literal, Literals, Number, Characters, NoObject, PartsOf, ElementsOf, NoLiteral, ALiteral, Giving, Body}
use Rattle.nim_program.specs.Program.{Label, Ordinals, Exactly, Chooser, ByConditions, ByLabels}
use Rattle.nim_program.specs.Folds.{Standing, Part, Acting, Choosing, Leading, Seen, Sum, total_of, capped}
use Rattle.program_limits.specs.declared.texts.Texts.{Texts}
use Rattle.nim_program.specs.TextSizes.{all_bytes}
use Rattle.program_limits.specs.Data.{literal_bytes, has_links, linked_bytes}

pub record Found : Type 0 where
  pub texts : List (List ℕ)
  pub linked : ℕ

abbrev pub none_found : Found
none_found = record { texts = []; linked = 0 }

abbrev pub with_text : List ℕ → Found → Found
with_text text met = record { texts = text ∷ met.texts; linked = met.linked }

abbrev pub with_linked : ℕ → Found → Found
with_linked n met = record { texts = met.texts; linked = n + met.linked }

-- these were met: unless one was lost, each of them is kept, nothing else is, and there are so many distinct ones with so many bytes
pub record Met (texts : Texts) (met : Found) : Type 0 where
  pub kept : texts.lost ≡ false → (text : List ℕ) → contains same_text texts.kept text ≡ is_member same_text met.texts text
  pub many : texts.lost ≡ false → texts.many ≡ capped MOST_DATA (length (unique_keys same_text met.texts))
  pub size : texts.lost ≡ false → texts.bytes ≡ capped MOST_DATA (all_bytes (unique_keys same_text met.texts))
  pub linked : texts.linked ≡ capped MOST_DATA met.linked

abbrev pub Before : Type 0
Before = Found → Found

abbrev pub before : Sum Before
before = record { none = λ met. met; plus = λ first second met. first (second met) }

abbrev mutual
  pub literal_before : Literal → Before
  literal_before (Number value) met = met
  literal_before (Characters text) met = with_text text met
  literal_before NoObject met = met
  literal_before (PartsOf all) met = all_before all met
  literal_before (ElementsOf all) met = all_before all met

  pub all_before : Literals → Before
  all_before NoLiteral met = met
  all_before (ALiteral first rest) met = literal_before first (all_before rest met)

abbrev pub given_before : Literal → Before
given_before literal met = with_linked (linked_bytes literal) (literal_before literal met)

-- beside itself as a value, a constant that is read in place has its bytes
abbrev pub standing_before : Option Literal → Before
standing_before None met = met
standing_before (Some literal) met = if has_links literal then with_linked (linked_bytes literal) met else with_text (literal_bytes literal) met

abbrev pub label_before : Label → Before
label_before (Ordinals low high) met = met
label_before (Exactly text) met = with_text text met

abbrev pub branch_before : List Label → Before
branch_before [] met = met
branch_before (label ∷ labels) met = label_before label (branch_before labels met)

abbrev pub labels_before : List (List Label) → Before
labels_before [] met = met
labels_before (labels ∷ rest) met = branch_before labels (labels_before rest met)

abbrev pub chooser_before : Chooser → Before
chooser_before ByConditions met = met
chooser_before (ByLabels labels) met = labels_before labels met

abbrev pub part_before : Part → Before
part_before (Acting (Giving literal)) met = given_before literal met
part_before (Choosing chooser looked) met = chooser_before chooser met
part_before (Leading read written (Standing literal)) met = standing_before (Some literal) (given_before literal met)
part_before part met = met

abbrev pub own_before : Seen → Before
own_before seen = part_before seen.part

abbrev pub body_before : Body → Before
body_before body = total_of before own_before body.stmts
