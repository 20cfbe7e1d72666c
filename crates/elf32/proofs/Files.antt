-- What the bytes of a file say, and that they say it of no other file.
use Rattle.std.proofs.Common.{◌≡◌, ◌≤◌, ◌<◌, ◌^◌, ℕ, ◌+◌, List, [], ◌∷◌, ◌++◌, length, refl, sym, ap, ◌∙◌, append_assoc, arith}
use Rattle.std.proofs.lemmas.List.{append_cancel_left}
use Rattle.std.specs.Prelude.{codes}
use Rattle.std.specs.List.{AllByRecursion, flat_map}
use Rattle.nim_plan.specs.declared.plan.Act.{Act}
use Rattle.nim_plan.specs.declared.plan.Act.TheVariants.{Copy, Move, Final, Borrow}
use Rattle.nim_plan.specs.declared.plan.SiteAct.{SiteAct}
use Rattle.nim_plan.specs.declared.plan.SkipAt.{SkipAt}
use Rattle.rv32_isa.specs.declared.image.HookAt.{HookAt}
use Rattle.rv32_isa.specs.Words.{word_bytes}
use Rattle.rv32_isa.specs.Hooks.{code_at}
use Rattle.rv32_isa.specs.Image.{Image, IsImage, statics_at, heap_at, stack_at}
use Rattle.elf32.specs.Elf.{File, words, header, segment, segments, hook_words, act_number, site_words, sink_words, skip_words, description, note, elf_bytes}
use Rattle.elf32.specs.Elf.{IsFile, Elf}
use Rattle.elf32.proofs.FilesWords.{parts_only, past_word, past_words, word_only, words_only, counted_only}

-- ---- values that are equal by their fields

pub same_two : {A B C : Type 0} (f : A → B → C) (a b : A) (c d : B) → a ≡ b → c ≡ d → f a c ≡ f b d
same_two f a b c d p q = cc

pub same_three : {A B C D : Type 0} (f : A → B → C → D) (a b : A) (c d : B) (g h : C) → a ≡ b → c ≡ d → g ≡ h → f a c g ≡ f b d h
same_three f a b c d g h p q r = cc

same_five : {A B C D E F : Type 0} (f : A → B → C → D → E → F) (a b : A) (c d : B) (g h : C) (i j : D) (k l : E) → a ≡ b → c ≡ d → g ≡ h → i ≡ j → k ≡ l
    → f a c g i k ≡ f b d h j l
same_five f a b c d g h i j k l p q r s t = cc

-- ---- the counts of the description fit

-- the words of sinks are the sinks
pub words_of_sinks : (sinks : List ℕ) → flat_map sink_words sinks ≡ sinks
words_of_sinks [] = refl
words_of_sinks (sink ∷ sinks) = let rest = words_of_sinks sinks in cc

-- what holds of each item holds of each in the second part
pub AllByRecursion-append : (P : ℕ → Type 0) (xs ys : List ℕ) → AllByRecursion P (xs ++ ys) → AllByRecursion P ys
AllByRecursion-append P [] ys all = all
AllByRecursion-append P (x ∷ xs) ys all = AllByRecursion-append P xs ys all.1

pub record CountsFit (file : File) : Type 0 where
  pub hooks : length file.image.hooks < 2 ^ 32
  pub sites : length file.plan.sites < 2 ^ 32
  pub sinks : length file.plan.sinks < 2 ^ 32
  pub skips : length file.plan.skips < 2 ^ 32

pub counts_fit : (file : File) → IsFile file → CountsFit file
counts_fit file is =
    let hooks = is.words.1 in
    let sites = AllByRecursion-append (λ n. n < 2 ^ 32) (flat_map hook_words file.image.hooks) _ hooks.1 in
    let sinks = AllByRecursion-append (λ n. n < 2 ^ 32) (flat_map site_words file.plan.sites) _ sites.1 in
    let skips = AllByRecursion-append (λ n. n < 2 ^ 32) (flat_map sink_words file.plan.sinks) _ sinks.1 in
    record { hooks = hooks.0; sites = sites.0; sinks = sinks.0; skips = skips.0 }

-- ---- the program headers

-- the size in the file and the size in memory, and what follows
segment_only : (k o a i m f l p b j n g : ℕ) (x y : List ℕ) → i < 2 ^ 32 → j < 2 ^ 32 → m < 2 ^ 32 → n < 2 ^ 32
    → segment k o a i m f ++ x ≡ segment l p b j n g ++ y → (i ≡ j) × (m ≡ n) × (x ≡ y)
segment_only k o a i m f l p b j n g x y fits_i fits_j fits_m fits_n e =
    let sizes = past_word a b _ _ (past_word a b _ _ (past_word o p _ _ (past_word k l _ _ (simp append_assoc at e)))) in
    let in_file = word_only i j _ _ fits_i fits_j sizes in
    let in_memory = word_only m n _ _ fits_m fits_n in_file.1 in
    (in_file.0, in_memory.0, past_word 4 4 _ _ (past_word f g _ _ in_memory.1))

length-segments : (n : ℕ) (image : Image) → length (segments n image) ≡ 160
unfolding word_bytes
length-segments n image = refl

record Sizes (m n : ℕ) (a b : Image) : Type 0 where
  note : m ≡ n
  code : length a.code ≡ length b.code
  statics : length a.statics ≡ length b.statics
  heap : a.heap ≡ b.heap
  stack : a.stack ≡ b.stack

segments_only : (m n : ℕ) (a b : Image) → IsImage a → IsImage b → m ≤ 2097152 → n ≤ 2097152 → segments m a ≡ segments n b → Sizes m n a b
segments_only m n a b is_a is_b fits_m fits_n e =
    let code = segment_only 1 (212 + m) code_at (length a.code) (length a.code) 5 1 (212 + n) code_at (length b.code) (length b.code) 5 _ _ (omega arith)
    (omega arith) (omega arith) (omega arith) e in
    let statics = segment_only 1 (212 + m + length a.code) statics_at (length a.statics) (length a.statics) 6 1 (212 + n + length b.code) statics_at
    (length b.statics) (length b.statics) 6 _ _ (omega arith) (omega arith) (omega arith) (omega arith) code.2 in
    let heap = segment_only 1 0 heap_at 0 a.heap 6 1 0 heap_at 0 b.heap 6 _ _ (omega arith) (omega arith) (omega arith) (omega arith) statics.2 in
    let stack = segment_only 1 0 stack_at 0 a.stack 6 1 0 stack_at 0 b.stack 6 _ _ (omega arith) (omega arith) (omega arith) (omega arith) heap.2 in
    let note = segment_only 4 212 0 m 0 4 4 212 0 n 0 4 [] [] (omega arith) (omega arith) (omega arith) (omega arith) (ap (λ l. l ++ []) stack.2) in
    record { note = note.0; code = code.0; statics = statics.0; heap = heap.1; stack = stack.1 }

-- ---- the note

pub hook_only : (x y : HookAt) → hook_words x ≡ hook_words y → x ≡ y
hook_only x y e = same_three (λ kind of addr. record { kind = kind; of = of; addr = addr }) _ _ _ _ _ _ (cc) (cc) (cc)

act_only : (x y : Act) → act_number x ≡ act_number y → x ≡ y
act_only Copy Copy e = refl
act_only Move Move e = refl
act_only Final Final e = refl
act_only Borrow Borrow e = refl
act_only _ _ e = absurd (omega arith)

pub site_only : (x y : SiteAct) → site_words x ≡ site_words y → x ≡ y
site_only x y e =
    let number : act_number x.act ≡ act_number y.act = cc in
    same_two (λ site act. record { site = site; act = act }) _ _ _ _ (cc) (act_only x.act y.act number)

pub sink_only : (x y : ℕ) → sink_words x ≡ sink_words y → x ≡ y
sink_only x y e = cc

pub skip_only : (x y : SkipAt) → skip_words x ≡ skip_words y → x ≡ y
skip_only x y e = same_two (λ place exit. record { place = place; exit = exit }) _ _ _ _ (cc) (cc)

pub record Said (a b : File) : Type 0 where
  pub version : a.version ≡ b.version
  pub hooks : a.image.hooks ≡ b.image.hooks
  pub plan : a.plan ≡ b.plan

rest_only : (m n : ℕ) (ms ns : List ℕ) → m ∷ ms ≡ n ∷ ns → ms ≡ ns
rest_only m n ms ns e = cc

pub description_only : (a b : File) → description a ≡ description b → Said a b
description_only a b e =
    let version : a.version ≡ b.version = cc in
    let hooks = counted_only hook_words 3 (λ x. refl) hook_only a.image.hooks b.image.hooks _ _ (rest_only _ _ _ _ e) in
    let sites = counted_only site_words 2 (λ x. refl) site_only a.plan.sites b.plan.sites _ _ hooks.1 in
    let sinks = counted_only sink_words 1 (λ x. refl) sink_only a.plan.sinks b.plan.sinks _ _ sites.1 in
    let skips = counted_only skip_words 2 (λ x. refl) skip_only a.plan.skips b.plan.skips [] [] (ap (λ l. l ++ []) sinks.1) in
    record {
      version = version;
      hooks = hooks.0;
      plan = same_three
          (λ sites sinks skips. record { sites = sites; sinks = sinks; skips = skips }) _ _ _ _ _ _ sites.0 sinks.0 skips.0;
    }

note_only : (a b : File) → IsFile a → IsFile b → note a ≡ note b → Said a b
note_only a b is_a is_b e =
    let size_a = length (words (description a)) in
    let size_b = length (words (description b)) in
    let name = past_words (7 ∷ size_a ∷ 1 ∷ []) (7 ∷ size_b ∷ 1 ∷ []) _ _ refl e in
    let said : words (description a) ≡ words (description b) = append_cancel_left (codes "NimArc" ++ 0 ∷ 0 ∷ []) _ _ name in
    description_only a b (words_only (description a) (description b) is_a.words is_b.words said)

-- ---- the file

pub elf_only : (bytes : List ℕ) (a b : File) → Elf bytes a → Elf bytes b → b ≡ a
elf_only bytes a b elf_a elf_b =
    let one : elf_bytes b ≡ elf_bytes a = sym elf_b.spelled ∙ elf_a.spelled in
    let n_a = length (note a) in
    let n_b = length (note b) in
    let headers = parts_only (segments n_b b.image) (segments n_a a.image) _ _ (length-segments n_b b.image ∙ sym (length-segments n_a a.image))
    (append_cancel_left header _ _ one) in
    let sizes = segments_only n_b n_a b.image a.image elf_b.allowed.image elf_a.allowed.image elf_b.allowed.note_most elf_a.allowed.note_most headers.0 in
    let notes = parts_only (note b) (note a) _ _ sizes.note headers.1 in
    let said = note_only b a elf_b.allowed elf_a.allowed notes.0 in
    let regions = parts_only b.image.code a.image.code b.image.statics a.image.statics sizes.code notes.1 in
    let image : b.image ≡ a.image = same_five (λ code statics heap stack hooks. record {
      code = code;
      statics = statics;
      heap = heap;
      stack = stack;
      hooks = hooks;
    }) _ _ _ _ _ _ _ _ _ _ regions.0 regions.1 sizes.heap sizes.stack said.hooks in
    same_three (λ image version plan. record { image = image; version = version; plan = plan }) _ _ _ _ _ _ image said.version said.plan
