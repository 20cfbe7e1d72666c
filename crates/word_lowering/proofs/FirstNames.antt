-- The names of enums stand in the data, and where each of them ends.
use Rattle.std.proofs.Common.{◌≡◌, ℕ, zero, suc, ◌+◌, ◌-◌, ◌*◌, ◌%◌, ◌<◌, ◌≤◌, true, List, []}
use Rattle.std.proofs.Common.{◌∷◌, ◌++◌, length, take, drop, replicate, Some, None, Ok, Err}
use Rattle.std.proofs.Common.{refl, sym, ap, ap₂, subst, ◌∙◌, arith, append_assoc, length-append}
use Rattle.std.specs.Prelude.{◌==◌, slice_get}
use Rattle.std.proofs.lemmas.Bool.{eq-eqb, cond-true}
use Rattle.rv32_isa.specs.declared.micro_op.Size.TheVariants.{Word}
use Rattle.rv32_isa.specs.declared.machine.FaultKind.TheVariants.{Misaligned}
use Rattle.rv32_isa.specs.Words.{word_bytes}
use Rattle.rv32_isa.specs.Steps.{number_of}
use Rattle.rv32_isa.proofs.ForCallers.{length-word_bytes, little-word_bytes}
use Rattle.nim_types.specs.declared.types.TypeDef.{TypeDef}
use Rattle.flat_code.specs.declared.block.BlockLine.{BlockLine}
use Rattle.flat_code.specs.declared.code.Code.{Code}
use Rattle.word_code.specs.Memory.{Memory, number_at}
use Rattle.word_lowering.specs.declared.handed.TheConstants.{LEFT_HANDLE_AT}
use Rattle.word_lowering.specs.declared.texts.TheConstants.{FIXED_BYTES}
use Rattle.word_lowering.specs.declared.may_lower.TheConstants.{MOST_DATA}
use Rattle.word_lowering.specs.Texts.{missing, padded, members_of, all_names, names_before, joined_all, starts_from, ends_from, texts_from}
use Rattle.word_lowering.specs.Lowered.{data_at, lowered}
use Rattle.word_lowering.specs.Runtimes.{Runtimes, with_runtimes}
use Rattle.word_lowering.proofs.Padding.{zeros_length, padded_length}
use Rattle.word_lowering.proofs.FirstMemory.{drop_past, first_memory, own_reads, own, globals, fixed, behind, pad, own_is, own_length}

-- ---- lists

pub take_front : (xs ys : List ℕ) → take (length xs) (xs ++ ys) ≡ xs
take_front [] ys = refl
take_front (x ∷ xs) ys = ap (λ l. x ∷ l) (take_front xs ys)

get_front : (xs ys : List (List ℕ)) (a : ℕ) (text : List ℕ) → slice_get xs a ≡ Some text → slice_get (xs ++ ys) a ≡ Some text
get_front [] ys a text h = absurd (no_entry text h)
  where
    no_entry : (text : List ℕ) → None ≡ Some text → ⊥
    no_entry text h = cc
get_front (x ∷ xs) ys zero text h = h
get_front (x ∷ xs) ys (suc a) text h = get_front xs ys a text h

get_past : (xs ys : List (List ℕ)) (a : ℕ) → slice_get (xs ++ ys) (length xs + a) ≡ slice_get ys a
get_past [] ys a = let e : 0 + a ≡ a = omega arith in ap (slice_get ys) e
get_past (x ∷ xs) ys a =
    let e : suc (length xs) + a ≡ suc (length xs + a) = omega arith in ap (slice_get (x ∷ (xs ++ ys))) e ∙ get_past xs ys a

pub get_within : (xs : List (List ℕ)) (a : ℕ) (text : List ℕ) → slice_get xs a ≡ Some text → a < length xs
get_within [] a text h = absurd (no_entry text h)
  where
    no_entry : (text : List ℕ) → None ≡ Some text → ⊥
    no_entry text h = cc
get_within (x ∷ xs) zero text h = omega arith
get_within (x ∷ xs) (suc a) text h = let l = get_within xs a text h in omega (arith, l)

-- a name among all
pub name_among : (table : List TypeDef) (b : ℕ) (def : TypeDef) (a : ℕ) (text : List ℕ) → slice_get table b ≡ Some def → slice_get
    (members_of def) a ≡ Some text
    → slice_get (all_names table) (names_before table b + a) ≡ Some text
name_among [] b def a text at h = absurd (no_entry def at)
  where
    no_entry : (def : TypeDef) → None ≡ Some def → ⊥
    no_entry def h = cc
name_among (d ∷ ds) zero def a text at h =
    let e : 0 + a ≡ a = omega arith in
    ap (slice_get (members_of d ++ all_names ds)) e
    ∙ get_front (members_of d) (all_names ds) a text (ap (λ c. slice_get (members_of c) a) (same_entry d def at) ∙ h)
  where
    same_entry : (d def : TypeDef) → Some d ≡ Some def → d ≡ def
    same_entry d def h = cc
name_among (d ∷ ds) (suc b) def a text at h =
    let l = length-append (members_of d) (all_names (take b ds)) in
    let e : names_before (d ∷ ds) (suc b) + a ≡ length (members_of d) + (names_before ds b + a) = omega (arith, l) in
    ap (slice_get (members_of d ++ all_names ds)) e ∙ get_past (members_of d) (all_names ds) (names_before ds b + a) ∙ name_among ds b def a text at h

-- ---- ends of names

abbrev pub joined_before : List (List ℕ) → ℕ → ℕ
joined_before names i = length (joined_all (take i names))

word_first : (w : ℕ) (rest : List ℕ) → take 4 (word_bytes w ++ rest) ≡ word_bytes w
unfolding word_bytes
word_first w rest = refl

ends_are : (n total : ℕ) (names : List (List ℕ)) (i : ℕ) (rest : List ℕ) → total ≡ n + length (joined_all names) → i ≤ length names
    → take 4 (drop (4 * i) (starts_from n names (word_bytes total) ++ rest)) ≡ word_bytes (n + joined_before names i)
ends_are n total [] zero rest e h = word_first total rest ∙ ap word_bytes e
ends_are n total [] (suc i) rest e h = absurd (omega (arith, h))
ends_are n total (name ∷ names) zero rest e h =
    let none : n ≡ n + 0 = omega arith in
    ap (take 4) (append_assoc (word_bytes n) (starts_from (n + length name) names (word_bytes total)) rest)
    ∙ word_first n (starts_from (n + length name) names (word_bytes total) ++ rest) ∙ ap word_bytes none
ends_are n total (name ∷ names) (suc i) rest e h =
    let k : List ℕ = starts_from (n + length name) names (word_bytes total) in
    let four = length-word_bytes n in
    let next : 4 * suc i ≡ length (word_bytes n) + 4 * i = omega (arith, four) in
    let a = length-append name (joined_all names) in
    let b = length-append name (joined_all (take i names)) in
    let sum : n + length name + joined_before names i ≡ n + joined_before (name ∷ names) (suc i) = omega (arith, b) in
    ap₂ (λ j l. take 4 (drop j l)) next (append_assoc (word_bytes n) k rest)
    ∙ ap (take 4) (drop_past (word_bytes n) (k ++ rest) (4 * i))
    ∙ ends_are (n + length name) total names i rest (omega (arith, e, a)) (omega (arith, h)) ∙ ap word_bytes sum

pub ends_length : (n total : ℕ) (names : List (List ℕ)) → length (starts_from n names (word_bytes total)) ≡ 4 * length names + 4
ends_length n total [] = let l = length-word_bytes total in omega (arith, l)
ends_length n total (name ∷ names) =
    let l = length-word_bytes n in
    let a = length-append (word_bytes n) (starts_from (n + length name) names (word_bytes total)) in
    let r = ends_length (n + length name) total names in
    omega (arith, l, a, r)

pub name_stands : (names : List (List ℕ)) (i : ℕ) (text rest : List ℕ) → slice_get names i ≡ Some text
    → take (length text) (drop (joined_before names i) (joined_all names ++ rest)) ≡ text
name_stands [] i text rest h = absurd (no_entry text h)
  where
    no_entry : (text : List ℕ) → None ≡ Some text → ⊥
    no_entry text h = cc
name_stands (x ∷ names) zero text rest h =
    subst (λ t. take (length t) ((x ++ joined_all names) ++ rest) ≡ t) (same_entry x text h)
    (ap (take (length x)) (append_assoc x (joined_all names) rest) ∙ take_front x (joined_all names ++ rest))
  where
    same_entry : (x text : List ℕ) → Some x ≡ Some text → x ≡ text
    same_entry x text h = cc
name_stands (x ∷ names) (suc i) text rest h =
    ap₂ (λ j l. take (length text) (drop j l)) (length-append x (joined_all (take i names))) (append_assoc x (joined_all names) rest)
    ∙ ap (take (length text)) (drop_past x (joined_all names ++ rest) (joined_before names i)) ∙ name_stands names i text rest h

-- a name ends where the next one begins
pub name_ends : (names : List (List ℕ)) (i : ℕ) (text : List ℕ) → slice_get names i ≡ Some text
    → joined_before names (suc i) ≡ joined_before names i + length text
name_ends [] i text h = absurd (no_entry text h)
  where
    no_entry : (text : List ℕ) → None ≡ Some text → ⊥
    no_entry text h = cc
name_ends (x ∷ names) zero text h =
    let l = length-append x [] in
    let same : length x ≡ length text = ap length (same_entry x text h) in
    omega (arith, l, same)
  where
    same_entry : (x text : List ℕ) → Some x ≡ Some text → x ≡ text
    same_entry x text h = cc
name_ends (x ∷ names) (suc i) text h =
    let r = name_ends names i text h in
    let a = length-append x (joined_all (take i names)) in
    let b = length-append x (joined_all (take (suc i) names)) in
    omega (arith, r, a, b)

pub name_most : (names : List (List ℕ)) (i : ℕ) → joined_before names i ≤ length (joined_all names)
name_most [] zero = omega arith
name_most [] (suc i) = omega arith
name_most (x ∷ names) zero = omega arith
name_most (x ∷ names) (suc i) =
    let r = name_most names i in
    let a = length-append x (joined_all (take i names)) in
    let b = length-append x (joined_all names) in
    omega (arith, r, a, b)

module _ (table : List TypeDef) (blocks : Code BlockLine) (runtime : Runtimes) (heap stack : ℕ) (least : FIXED_BYTES ≤ globals table blocks)
    (whole : globals table blocks % 4 ≡ 0) (most : length (own table blocks) ≤ MOST_DATA) where
  abbrev start : Memory
  start = first_memory (with_runtimes runtime (lowered table blocks)) heap stack

  abbrev names : List (List ℕ)
  names = all_names table

  abbrev texts : List ℕ
  texts = texts_from table (globals table blocks) blocks.procs

  pub past_globals : (o : ℕ) → drop (globals table blocks + o) (own table blocks) ≡ drop o (behind table blocks ++ pad table blocks)
  past_globals o =
      let zeros : List ℕ = replicate (globals table blocks - LEFT_HANDLE_AT) 0 in
      let z : length zeros ≡ globals table blocks - LEFT_HANDLE_AT = zeros_length (globals table blocks - LEFT_HANDLE_AT) in
      let f : length (fixed table blocks) ≡ LEFT_HANDLE_AT = refl in
      let a = length-append (fixed table blocks) zeros in
      let e : globals table blocks + o ≡ length (fixed table blocks ++ zeros) + o = omega (arith, a, z, f, least) in
      ap₂ drop e (own_is table blocks ∙ sym (append_assoc (fixed table blocks) zeros (behind table blocks ++ pad table blocks)))
      ∙ drop_past (fixed table blocks ++ zeros) (behind table blocks ++ pad table blocks) o

  abbrev pub joined_names : List ℕ
  joined_names = joined_all names

  pub lengths : length (own table blocks)
      ≡ globals table blocks + (4 * length names + 4 + (length joined_names + missing (length joined_names) + length (texts ++ pad table blocks)))
  lengths =
      let l = own_length table blocks in
      let a = length-append (behind table blocks) (pad table blocks) in
      let b = length-append (ends_from 0 names) (padded joined_names ++ texts) in
      let c = length-append (padded joined_names) texts in
      let d = length-append texts (pad table blocks) in
      let e = ends_length 0 (0 + length joined_names) names in
      let f = padded_length joined_names in
      omega (arith, l, a, b, c, d, e, f, least)

  pub behind_is : behind table blocks ++ pad table blocks ≡ ends_from 0 names ++ (padded joined_names ++ (texts ++ pad table blocks))
  behind_is =
      append_assoc (ends_from 0 names) (padded joined_names ++ texts) (pad table blocks)
      ∙ ap (λ l. ends_from 0 names ++ l) (append_assoc (padded joined_names) texts (pad table blocks))

  -- the word of where the names before one end
  pub end_word : (i : ℕ) → i ≤ length names → number_at start (data_at + (globals table blocks + 4 * i)) Word ≡ Ok (joined_before names i)
  end_word i h =
      let a : ℕ = data_at + (globals table blocks + 4 * i) in
      let l = lengths in
      let m = name_most names i in
      let even : (a % 4 == 0) ≡ true = eq-eqb (a % 4) 0 (omega (arith, whole)) in
      let none : 0 + joined_before names i ≡ joined_before names i = omega arith in
      let bytes : take 4 (drop (globals table blocks + 4 * i) (own table blocks)) ≡ word_bytes (joined_before names i)
      = ap (take 4) (past_globals (4 * i) ∙ ap (drop (4 * i)) behind_is)
      ∙ ends_are 0 (0 + length (joined_all names)) names i (padded joined_names ++ (texts ++ pad table blocks)) refl h ∙ ap word_bytes none in
      cond-true (a % 4 == 0) _ (Err Misaligned) even
      ∙ ap number_of (own_reads table blocks runtime heap stack (globals table blocks + 4 * i) 4 (omega arith) (omega (arith, l, h)) ∙ ap Some bytes)
      ∙ ap Ok (little-word_bytes (joined_before names i) (omega (arith, l, m, most)))
