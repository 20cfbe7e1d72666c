-- The note as four lists, one behind the other.
use Rattle.std.proofs.Common.{◌≡◌, ◌<◌, ◌≤◌, ◌^◌, ℕ, ◌+◌, ◌*◌, ◌-◌, List, [], ◌∷◌, ◌++◌, length, take, drop, refl, sym, ap, ◌∙◌, append_assoc, arith}
use Rattle.std.proofs.lemmas.List.{length-append, length-drop, take-append-drop}
use Rattle.std.specs.Prelude.{codes}
use Rattle.std.specs.List.{AllByRecursion, flat_map}
use Rattle.nim_plan.specs.declared.plan.Plan.{Plan}
use Rattle.rv32_isa.specs.declared.image.HookAt.{HookAt}
use Rattle.rv32_isa.specs.Words.{word_bytes}
use Rattle.elf32.specs.Elf.{words, counted, hook_words, site_words, sink_words, skip_words, note_of}
use Rattle.elf32.specs.Reading.{Lists, note_front}
use Rattle.elf32.proofs.FilesWords.{parts_only, word_only, words_only, items_only}
use Rattle.elf32.proofs.ItemLists.{words_append, length_words, length_items}

abbrev pub Fitting : List ℕ → Type 0
Fitting ns = AllByRecursion (λ n. n < 2 ^ 32) ns

-- what holds of each item holds of each in the first part
pub front_fits : (xs ys : List ℕ) → Fitting (xs ++ ys) → Fitting xs
front_fits [] ys all = tt
front_fits (x ∷ xs) ys all = (all.0, front_fits xs ys all.1)

pub both_fit : (xs ys : List ℕ) → Fitting xs → Fitting ys → Fitting (xs ++ ys)
both_fit [] ys a b = b
both_fit (x ∷ xs) ys a b = (a.0, both_fit xs ys a.1 b)

-- two counted lists at one place are one, and end at one place
pub lists_one : {A : Type 0} (f : A → List ℕ) (size : ℕ) → ((x : A) → length (f x) ≡ size) → ((x y : A) → f x ≡ f y → x ≡ y)
    → (xs ys : List A) (here r s : List ℕ) → Fitting (counted f xs) → Fitting (counted f ys) → Lists f xs here r → Lists f ys here s → (xs ≡ ys) × (r ≡ s)
lists_one f size sized tells xs ys here r s fit_xs fit_ys one other =
    let x_words = words (flat_map f xs) in
    let y_words = words (flat_map f ys) in
    let same : word_bytes (length xs) ++ (x_words ++ r) ≡ word_bytes (length ys) ++ (y_words ++ s) = sym (append_assoc (word_bytes (length xs)) x_words r)
    ∙ sym one ∙ other ∙ append_assoc (word_bytes (length ys)) y_words s in
    let counts = word_only (length xs) (length ys) _ _ fit_xs.0 fit_ys.0 same in
    let long : length x_words ≡ length y_words = length_words (flat_map f xs)
    ∙ ap (λ n. 4 * n) (length_items f size sized xs ∙ ap (λ n. size * n) counts.0 ∙ sym (length_items f size sized ys))
    ∙ sym (length_words (flat_map f ys)) in
    let parts = parts_only x_words y_words r s long counts.1 in
    let numbers = words_only (flat_map f xs) (flat_map f ys) fit_xs.1 fit_ys.1 parts.0 in
    let items = items_only f size sized tells xs ys [] [] counts.0 (ap (λ l. l ++ []) numbers) in
    (items.0, parts.1)

-- ---- the note of a file

-- the four lists of a file, with what stands behind each
pub record Four (here : List ℕ) (hooks : List HookAt) (plan : Plan) : Type 0 where
  pub behind_hooks : List ℕ
  pub behind_sites : List ℕ
  pub behind_sinks : List ℕ
  pub hooks_there : Lists hook_words hooks here behind_hooks
  pub sites_there : Lists site_words plan.sites behind_hooks behind_sites
  pub sinks_there : Lists sink_words plan.sinks behind_sites behind_sinks
  pub skips_there : Lists skip_words plan.skips behind_sinks []

-- the words of four lists are four lists
pub four_of_words : (hooks : List HookAt) (plan : Plan) → Four
    (words (counted hook_words hooks ++ (counted site_words plan.sites ++ (counted sink_words plan.sinks ++ counted skip_words plan.skips)))) hooks plan
four_of_words hooks plan =
    let sinks = counted sink_words plan.sinks in
    let skips = counted skip_words plan.skips in
    let sites = counted site_words plan.sites in
    record {
      behind_hooks = words (sites ++ (sinks ++ skips));
      behind_sites = words (sinks ++ skips);
      behind_sinks = words skips;
      hooks_there = words_append (counted hook_words hooks) (sites ++ (sinks ++ skips));
      sites_there = words_append sites (sinks ++ skips);
      sinks_there = words_append sinks skips;
      skips_there = nothing_behind (words skips);
    } where
      nothing_behind : (xs : List ℕ) → xs ≡ xs ++ []
      nothing_behind [] = refl
      nothing_behind (x ∷ xs) = ap (λ l. x ∷ l) (nothing_behind xs)

-- and the other way round
pub words_of_four : (here : List ℕ) (hooks : List HookAt) (plan : Plan) → Four here hooks plan
    → here ≡ words (counted hook_words hooks ++ (counted site_words plan.sites ++ (counted sink_words plan.sinks ++ counted skip_words plan.skips)))
words_of_four here hooks plan four =
    let sinks = counted sink_words plan.sinks in
    let skips = counted skip_words plan.skips in
    let sites = counted site_words plan.sites in
    let last : four.behind_sinks ≡ words skips = four.skips_there ∙ all_is (words skips) in
    let third : four.behind_sites ≡ words (sinks ++ skips) = four.sinks_there ∙ ap (λ l. words sinks ++ l) last ∙ sym (words_append sinks skips) in
    let second : four.behind_hooks ≡ words (sites ++ (sinks ++ skips)) = four.sites_there ∙ ap (λ l. words sites ++ l) third
    ∙ sym (words_append sites (sinks ++ skips)) in
    four.hooks_there ∙ ap (λ l. words (counted hook_words hooks) ++ l) second ∙ sym (words_append (counted hook_words hooks) (sites ++ (sinks ++ skips)))
  where
    all_is : (xs : List ℕ) → xs ++ [] ≡ xs
    all_is [] = refl
    all_is (x ∷ xs) = ap (λ l. x ∷ l) (all_is xs)

-- ---- the front of a note

-- the front of a note whose description has so many bytes
abbrev fronted : ℕ → List ℕ
fronted size = words (7 ∷ size ∷ 1 ∷ []) ++ (codes "NimArc" ++ (0 ∷ 0 ∷ word_bytes 1))

pub length_note : (ws : List ℕ) → length (note_of ws) ≡ 20 + length (words ws)
unfolding word_bytes
length_note ws =
    let sizes : length (words (7 ∷ length (words ws) ∷ 1 ∷ [])) ≡ 12 = refl in
    let name : length (codes "NimArc" ++ 0 ∷ 0 ∷ []) ≡ 8 = refl in
    omega (
      arith,
      sizes,
      name,
      length-append (words (7 ∷ length (words ws) ∷ 1 ∷ [])) (codes "NimArc" ++ (0 ∷ 0 ∷ words ws)),
      length-append (codes "NimArc" ++ 0 ∷ 0 ∷ []) (words ws),
    )

length_versioned : (ws : List ℕ) → length (words (1 ∷ ws)) ≡ 4 + length (words ws)
unfolding word_bytes
length_versioned ws =
    let four : length (word_bytes 1) ≡ 4 = refl in
    omega (arith, four, length-append (word_bytes 1) (words ws))

fronted_there : (ws : List ℕ) → take 24 (note_of (1 ∷ ws)) ≡ fronted (length (words (1 ∷ ws)))
unfolding word_bytes
fronted_there ws = refl

fronted_on : (ws : List ℕ) → fronted (length (words (1 ∷ ws))) ++ words ws ≡ note_of (1 ∷ ws)
unfolding word_bytes
fronted_on ws = refl

-- a note of version 1 begins as one does
pub front_of : (ws : List ℕ) → (24 ≤ length (note_of (1 ∷ ws))) × (take 24 (note_of (1 ∷ ws)) ≡ note_front (length (note_of (1 ∷ ws))))
front_of ws =
    let size : length (words (1 ∷ ws)) ≡ length (note_of (1 ∷ ws)) - 20 = omega (arith, length_note (1 ∷ ws)) in
    (omega (arith, length_note (1 ∷ ws), length_versioned ws), fronted_there ws ∙ ap fronted size)

pub behind_front : (ws : List ℕ) → drop 24 (note_of (1 ∷ ws)) ≡ words ws
unfolding word_bytes
behind_front ws = refl

-- bytes that begin so, and go on with the words, are the note
pub note_by_front : (ws : List ℕ) (bytes : List ℕ) → 24 ≤ length bytes → take 24 bytes ≡ note_front (length bytes) → drop 24 bytes ≡ words ws
    → bytes ≡ note_of (1 ∷ ws)
note_by_front ws bytes long front rest =
    let long_rest : length (drop 24 bytes) ≡ length (words ws) = ap length rest in
    let size : length bytes - 20 ≡ length (words (1 ∷ ws)) = omega (arith, long, length-drop 24 bytes, long_rest, length_versioned ws) in
    sym (take-append-drop 24 bytes) ∙ ap (λ l. l ++ drop 24 bytes) (front ∙ ap fronted size) ∙ ap (λ l. fronted (length (words (1 ∷ ws))) ++ l) rest
    ∙ fronted_on ws
