-- Words of 32 bits and counted lists can be read back in one way only.
use Rattle.std.proofs.Common.{◌≡◌, ℕ, ◌<◌, ◌^◌, ◌/◌, ◌%◌, List, [], ◌∷◌, ◌++◌, length, refl, sym, ◌∙◌, append_assoc, arith}
use Rattle.std.specs.List.{AllByRecursion, flat_map}
use Rattle.rv32_isa.specs.Words.{word_bytes}
use Rattle.elf32.specs.Elf.{words, counted}

-- first parts of one length are equal, and so are the rests
pub parts_only : {A : Type 0} (a c b d : List A) → length a ≡ length c → a ++ b ≡ c ++ d → (a ≡ c) × (b ≡ d)
parts_only [] [] b d n e = (refl, e)
parts_only [] (y ∷ c) b d n e = absurd (omega arith)
parts_only (x ∷ a) [] b d n e = absurd (omega arith)
parts_only (x ∷ a) (y ∷ c) b d n e =
    let rest : (a ≡ c) × (b ≡ d) = parts_only a c b d (omega arith) (cc) in
    let front : a ≡ c = rest.0 in
    (cc, rest.1)

-- ---- words

same_word : (m n : ℕ) → m < 2 ^ 32 → n < 2 ^ 32 → word_bytes m ≡ word_bytes n → m ≡ n
unfolding word_bytes
same_word m n fits_m fits_n e =
    let lowest : m % 256 ≡ n % 256 = cc in
    let second : m / 256 % 256 ≡ n / 256 % 256 = cc in
    let third : m / 65536 % 256 ≡ n / 65536 % 256 = cc in
    let highest : m / 16777216 % 256 ≡ n / 16777216 % 256 = cc in
    omega arith

-- past a word
pub past_word : (m n : ℕ) (x y : List ℕ) → word_bytes m ++ x ≡ word_bytes n ++ y → x ≡ y
unfolding word_bytes
past_word m n x y e = cc

-- a word in front, and what follows it
pub word_only : (m n : ℕ) (x y : List ℕ) → m < 2 ^ 32 → n < 2 ^ 32 → word_bytes m ++ x ≡ word_bytes n ++ y → (m ≡ n) × (x ≡ y)
unfolding word_bytes
word_only m n x y fits_m fits_n e =
    let parts : (word_bytes m ≡ word_bytes n) × (x ≡ y) = parts_only (word_bytes m) (word_bytes n) x y refl e in
    (same_word m n fits_m fits_n parts.0, parts.1)

-- past as many words
pub past_words : (ms ns : List ℕ) (x y : List ℕ) → length ms ≡ length ns → words ms ++ x ≡ words ns ++ y → x ≡ y
past_words [] [] x y n e = e
past_words [] (m ∷ ns) x y n e = absurd (omega arith)
past_words (m ∷ ms) [] x y n e = absurd (omega arith)
past_words (m ∷ ms) (n ∷ ns) x y k e =
    let rest = past_word m n (words ms ++ x) (words ns ++ y) (sym (append_assoc (word_bytes m) (words ms) x) ∙ e ∙ append_assoc (word_bytes n) (words ns) y) in
    past_words ms ns x y (omega arith) rest

nothing_is_word : (n : ℕ) (x : List ℕ) → [] ≡ word_bytes n ++ x → ⊥
unfolding word_bytes
nothing_is_word n x e = cc

word_is_nothing : (n : ℕ) (x : List ℕ) → word_bytes n ++ x ≡ [] → ⊥
unfolding word_bytes
word_is_nothing n x e = cc

-- words of numbers that fit are the words of no others
pub words_only : (ms ns : List ℕ) → AllByRecursion (λ n. n < 2 ^ 32) ms → AllByRecursion (λ n. n < 2 ^ 32) ns → words ms ≡ words ns → ms ≡ ns
words_only [] [] fit_ms fit_ns e = refl
words_only [] (n ∷ ns) fit_ms fit_ns e = absurd (nothing_is_word n (words ns) e)
words_only (m ∷ ms) [] fit_ms fit_ns e = absurd (word_is_nothing m (words ms) e)
words_only (m ∷ ms) (n ∷ ns) fit_ms fit_ns e =
    let word : (m ≡ n) × (words ms ≡ words ns) = word_only m n (words ms) (words ns) fit_ms.0 fit_ns.0 e in
    let first : m ≡ n = word.0 in
    let rest : ms ≡ ns = words_only ms ns fit_ms.1 fit_ns.1 word.1 in
    cc

-- ---- counted lists

-- as many items, each with as many numbers, which tell it from the others
pub items_only : {A : Type 0} (f : A → List ℕ) (size : ℕ) → ((x : A) → length (f x) ≡ size) → ((x y : A) → f x ≡ f y → x ≡ y) → (xs ys : List A) (r s : List ℕ)
    → length xs ≡ length ys → flat_map f xs ++ r ≡ flat_map f ys ++ s → (xs ≡ ys) × (r ≡ s)
items_only f size sized tells [] [] r s n e = (refl, e)
items_only f size sized tells [] (y ∷ ys) r s n e = absurd (omega arith)
items_only f size sized tells (x ∷ xs) [] r s n e = absurd (omega arith)
items_only {A = A} f size sized tells (x ∷ xs) (y ∷ ys) r s n e =
    let apart : f x ++ (flat_map f xs ++ r) ≡ f y ++ (flat_map f ys ++ s) = sym (append_assoc (f x) (flat_map f xs) r) ∙ e
    ∙ append_assoc (f y) (flat_map f ys) s in
    let parts : (f x ≡ f y) × (flat_map f xs ++ r ≡ flat_map f ys ++ s) = parts_only (f x) (f y) _ _ (sized x ∙ sym (sized y)) apart in
    let first : x ≡ y = tells x y parts.0 in
    let rest : (xs ≡ ys) × (r ≡ s) = items_only f size sized tells xs ys r s (omega arith) parts.1 in
    let items : xs ≡ ys = rest.0 in
    (cc, rest.1)

-- a counted list in front, and what follows it
pub counted_only : {A : Type 0} (f : A → List ℕ) (size : ℕ) → ((x : A) → length (f x) ≡ size) → ((x y : A) → f x ≡ f y → x ≡ y)
    → (xs ys : List A) (r s : List ℕ) → counted f xs ++ r ≡ counted f ys ++ s → (xs ≡ ys) × (r ≡ s)
counted_only f size sized tells xs ys r s e = items_only f size sized tells xs ys r s (cc) (cc)
