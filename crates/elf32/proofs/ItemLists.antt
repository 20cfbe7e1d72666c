-- Counted lists in bytes: one item more, and lists that no bytes are.
use Rattle.std.proofs.Common.{◌≡◌, ◌<◌, ◌≤◌, ℕ, ◌+◌, ◌*◌, List, [], ◌∷◌, ◌++◌, length, refl, sym, ap, ◌∙◌, append_assoc, arith}
use Rattle.std.proofs.lemmas.List.{length-append}
use Rattle.std.proofs.Math.Nat.{mul_assoc}
use Rattle.std.specs.List.{flat_map}
use Rattle.rv32_isa.specs.Words.{word_bytes}
use Rattle.elf32.specs.Elf.{words}
use Rattle.elf32.specs.Reading.{ListsNone, CountsNone}
use Rattle.elf32.proofs.FilesWords.{parts_only}

pub words_append : (ms ns : List ℕ) → words (ms ++ ns) ≡ words ms ++ words ns
words_append [] ns = refl
words_append (m ∷ ms) ns = ap (λ rest. word_bytes m ++ rest) (words_append ms ns) ∙ sym (append_assoc (word_bytes m) (words ms) (words ns))

-- the words of the first item stand before those of the others
first_item : {A : Type 0} (f : A → List ℕ) (item : A) (items : List A) (behind : List ℕ)
    → words (flat_map f (item ∷ items)) ++ behind ≡ words (f item) ++ (words (flat_map f items) ++ behind)
first_item f item items behind =
    ap (λ ws. ws ++ behind) (words_append (f item) (flat_map f items)) ∙ append_assoc (words (f item)) (words (flat_map f items)) behind

-- the words of an item more stand behind those of the others
pub one_more : {A : Type 0} (f : A → List ℕ) (items : List A) (item : A) (behind : List ℕ)
    → words (flat_map f (items ++ item ∷ [])) ++ behind ≡ words (flat_map f items) ++ (words (f item) ++ behind)
one_more f [] item behind = first_item f item [] behind
one_more f (x ∷ items) item behind =
    first_item f x (items ++ item ∷ []) behind ∙ ap (λ rest. words (f x) ++ rest) (one_more f items item behind)
    ∙ sym (first_item f x items (words (f item) ++ behind))

pub length_words : (ns : List ℕ) → length (words ns) ≡ 4 * length ns
unfolding word_bytes
length_words [] = refl
length_words (n ∷ ns) = let rest = length_words ns in omega arith

pub length_items : {A : Type 0} (f : A → List ℕ) (size : ℕ) → ((x : A) → length (f x) ≡ size) → (items : List A)
    → length (flat_map f items) ≡ size * length items
length_items f size sized [] = omega arith
length_items f size sized (x ∷ items) =
    length-append (f x) (flat_map f items) ∙ (let rest = length_items f size sized items in let one = sized x in grind (arith, rest, one))

room : (need items numbers all behind long : ℕ) → need ≡ 4 * items → numbers ≡ items → all ≡ 4 * numbers → long ≡ all + behind → need ≤ long
room need items numbers all behind long a b c d = omega (arith, a, b, c, d)

-- where no count has room for so many words of items, no list stands
pub lists_none : {A : Type 0} (f : A → List ℕ) (size bytes : ℕ) (here : List ℕ) → ((x : A) → length (f x) ≡ size) → bytes ≡ 4 * size → CountsNone bytes here
    → ListsNone f here
lists_none f size bytes here sized four none items behind fits lists =
    let all = words (flat_map f items) in
    none (length items) (all ++ behind) fits (lists ∙ append_assoc (word_bytes (length items)) all behind)
    (room (bytes * length items) (size * length items) (length (flat_map f items)) (length all) (length behind) (length (all ++ behind))
    (ap (λ n. n * length items) four ∙ mul_assoc 4 size (length items)) (length_items f size sized items) (length_words (flat_map f items))
    (length-append all behind))

-- where some of the items have been read, and not all, the next one stands there
pub record Next {A : Type 0} (f : A → List ℕ) (here : List ℕ) : Type 0 where
  pub item : A
  pub rest : List ℕ
  pub there : here ≡ words (f item) ++ rest

pub next_item : {A : Type 0} (f : A → List ℕ) (size : ℕ) → ((x : A) → length (f x) ≡ size) → (xs ys : List A) (here behind : List ℕ) → length xs < length ys
    → words (flat_map f xs) ++ here ≡ words (flat_map f ys) ++ behind → Next f here
next_item f size sized xs [] here behind less e = absurd (omega arith)
next_item f size sized [] (y ∷ ys) here behind less e = record { item = y; rest = words (flat_map f ys) ++ behind; there = e ∙ first_item f y ys behind }
next_item f size sized (x ∷ xs) (y ∷ ys) here behind less e =
    let apart = sym (first_item f x xs here) ∙ e ∙ first_item f y ys behind in
    let same : length (words (f x)) ≡ length (words (f y)) = length_words (f x) ∙ ap (λ n. 4 * n) (sized x ∙ sym (sized y)) ∙ sym (length_words (f y)) in
    next_item f size sized xs ys here behind (omega arith) (parts_only (words (f x)) (words (f y)) _ _ same apart).1
