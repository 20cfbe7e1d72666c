-- The parts before the note of a file that bytes are.
use Rattle.std.proofs.Common.{◌≡◌, ◌<◌, ◌^◌, ℕ, ◌+◌, List, ◌++◌, length, take, drop, refl, sym, ap, ◌∙◌, arith}
use Rattle.std.proofs.lemmas.List.{length-append, take-append-drop, drop-drop}
use Rattle.rv32_isa.specs.Words.{word_bytes, little}
use Rattle.rv32_isa.proofs.ForCallers.{little-word_bytes}
use Rattle.elf32.specs.Elf.{File, IsFile, Elf, header, segments_of, note, elf_bytes}
use Rattle.elf32.specs.Faults.{AreSizes, HasSegments}
use Rattle.elf32.specs.Reading.{word_in, AreFields}

fields_by_words : (n c d h s : ℕ) (rest : List ℕ) → AreFields (header ++ (segments_of n c d h s ++ rest)) (little (word_bytes n)) (little (word_bytes c))
    (little (word_bytes d)) (little (word_bytes h)) (little (word_bytes s))
unfolding word_bytes
fields_by_words n c d h s rest = record { note_is = refl; code_is = refl; statics_is = refl; heap_is = refl; stack_is = refl }

headers_there : (n c d h s : ℕ) (rest : List ℕ) → take 160 (drop 52 (header ++ (segments_of n c d h s ++ rest))) ≡ segments_of n c d h s
unfolding word_bytes
headers_there n c d h s rest = refl

pub behind_headers : (n c d h s : ℕ) (rest : List ℕ) → drop 212 (header ++ (segments_of n c d h s ++ rest)) ≡ rest
unfolding word_bytes
behind_headers n c d h s rest = refl

length_headers : (n c d h s : ℕ) (rest : List ℕ) → length (header ++ (segments_of n c d h s ++ rest)) ≡ 212 + length rest
unfolding word_bytes
length_headers n c d h s rest =
    let front : length header ≡ 52 = refl in
    let five : length (segments_of n c d h s) ≡ 160 = refl in
    omega (arith, front, five, length-append header (segments_of n c d h s ++ rest), length-append (segments_of n c d h s) rest)

-- the header of a file, as far as one looks
pub header_there : (n c d h s : ℕ) (rest : List ℕ) → take 52 (header ++ (segments_of n c d h s ++ rest)) ≡ header
unfolding word_bytes
header_there n c d h s rest = refl

-- fields that fit are read back
fields_fit : (bytes : List ℕ) (n c d h s : ℕ) → n < 2 ^ 32 → c < 2 ^ 32 → d < 2 ^ 32 → h < 2 ^ 32 → s < 2 ^ 32
    → AreFields bytes (little (word_bytes n)) (little (word_bytes c)) (little (word_bytes d)) (little (word_bytes h)) (little (word_bytes s))
    → AreFields bytes n c d h s
fields_fit bytes n c d h s fit_n fit_c fit_d fit_h fit_s fields = record {
  note_is = sym (little-word_bytes n fit_n) ∙ fields.note_is;
  code_is = sym (little-word_bytes c fit_c) ∙ fields.code_is;
  statics_is = sym (little-word_bytes d fit_d) ∙ fields.statics_is;
  heap_is = sym (little-word_bytes h fit_h) ∙ fields.heap_is;
  stack_is = sym (little-word_bytes s fit_s) ∙ fields.stack_is;
}

-- the number of a field, behind the header
behind_header : (at : ℕ) (bytes : List ℕ) → word_in bytes (52 + at) ≡ word_in (drop 52 bytes) at
behind_header at bytes = ap (λ l. little (take 4 l)) (sym (drop-drop at 52 bytes))

-- whatever the header, the fields are those of the program headers
fields_anywhere : (bytes there : List ℕ) (n c d h s : ℕ) → drop 52 bytes ≡ drop 52 there → AreFields there n c d h s → AreFields bytes n c d h s
fields_anywhere bytes there n c d h s same fields =
    let field : (at : ℕ) → word_in there (52 + at) ≡ word_in bytes (52 + at) = λ at. behind_header at there ∙ ap (λ l. word_in l at) (sym same)
    ∙ sym (behind_header at bytes) in
    record {
      note_is = fields.note_is ∙ field 144;
      code_is = fields.code_is ∙ field 16;
      statics_is = fields.statics_is ∙ field 48;
      heap_is = fields.heap_is ∙ field 84;
      stack_is = fields.stack_is ∙ field 116;
    }

behind_any : (n c d h s : ℕ) (rest : List ℕ) → drop 52 (header ++ (segments_of n c d h s ++ rest)) ≡ segments_of n c d h s ++ rest
unfolding word_bytes
behind_any n c d h s rest = refl

-- program headers of sizes that are in their ranges tell these
pub fields_told : (bytes : List ℕ) (n c d h s : ℕ) → AreSizes n c d h s (length bytes) → take 160 (drop 52 bytes) ≡ segments_of n c d h s
    → AreFields bytes n c d h s
fields_told bytes n c d h s sizes spelled =
    let rest = drop 160 (drop 52 bytes) in
    let same : drop 52 bytes ≡ drop 52 (header ++ (segments_of n c d h s ++ rest)) = sym (take-append-drop 160 (drop 52 bytes)) ∙ ap (λ l. l ++ rest) spelled
    ∙ sym (behind_any n c d h s rest) in
    fields_fit bytes n c d h s (omega (arith, sizes.note_most)) (omega (arith, sizes.code_most)) (omega (arith, sizes.statics_most))
    (omega (arith, sizes.heap_most)) (omega (arith, sizes.stack_most))
    (fields_anywhere bytes _ (little (word_bytes n)) (little (word_bytes c)) (little (word_bytes d)) (little (word_bytes h)) (little (word_bytes s)) same
    (fields_by_words n c d h s rest))

-- ---- a file

-- what stands behind the headers of a file
abbrev pub body : File → List ℕ
body file = note file ++ (file.image.code ++ file.image.statics)

-- the program headers of a file are those of its sizes
pub record Sized (bytes : List ℕ) (file : File) : Type 0 where
  pub fields : AreFields bytes (length (note file)) (length file.image.code) (length file.image.statics) file.image.heap file.image.stack
  pub sizes : AreSizes (length (note file)) (length file.image.code) (length file.image.statics) file.image.heap file.image.stack (length bytes)
  pub spelled : take 160 (drop 52 bytes) ≡ segments_of (length (note file)) (length file.image.code)
      (length file.image.statics) file.image.heap file.image.stack
  pub header_is : take 52 bytes ≡ header
  pub behind : drop 212 bytes ≡ body file

sized_bytes : (file : File) → IsFile file → Sized (elf_bytes file) file
sized_bytes file is =
    let n = length (note file) in
    let c = length file.image.code in
    let d = length file.image.statics in
    let h = file.image.heap in
    let s = file.image.stack in
    let image = is.image in
    let long : length (elf_bytes file) ≡ 212 + n + c + d = omega (
      arith,
      length_headers n c d h s (body file),
      length-append (note file) (file.image.code ++ file.image.statics),
      length-append file.image.code file.image.statics,
    ) in
    record {
      fields =
          fields_fit (elf_bytes file) n c d h s (omega (arith, is.note_most)) (omega (arith, image.code_most)) (omega (arith, image.statics_most))
          (omega (arith, image.heap_most)) (omega (arith, image.stack_most)) (fields_by_words n c d h s (body file));
      sizes =
          record {
            code_whole = image.code_whole;
            code_least = image.code_least;
            code_most = image.code_most;
            statics_whole = image.statics_whole;
            statics_most = image.statics_most;
            heap_least = is.heap_least;
            heap_most = image.heap_most;
            stack_whole = image.stack_whole;
            stack_least = image.stack_least;
            stack_most = image.stack_most;
            note_most = is.note_most;
            whole = long;
          };
      spelled = headers_there n c d h s (body file);
      header_is = header_there n c d h s (body file);
      behind = behind_headers n c d h s (body file);
    }

pub file_sized : (bytes : List ℕ) (file : File) → Elf bytes file → Sized bytes file
file_sized bytes file elf = rw elf.spelled (sized_bytes file elf.allowed)

pub file_segments : (bytes : List ℕ) (file : File) → Elf bytes file → HasSegments bytes
file_segments bytes file elf =
    let sized : Sized bytes file = file_sized bytes file elf in
    record {
      note = length (note file);
      code = length file.image.code;
      statics = length file.image.statics;
      heap = file.image.heap;
      stack = file.image.stack;
      sizes = sized.sizes;
      spelled = sized.spelled;
    }

-- ---- bytes with these parts

-- header, program headers and the rest
pub by_parts : (bytes : List ℕ) (n c d h s : ℕ) → take 52 bytes ≡ header → take 160 (drop 52 bytes) ≡ segments_of n c d h s
    → bytes ≡ header ++ (segments_of n c d h s ++ drop 212 bytes)
by_parts bytes n c d h s front segments =
    sym (take-append-drop 52 bytes) ∙ ap (λ l. l ++ drop 52 bytes) front
    ∙ ap (λ l. header ++ l) (sym (take-append-drop 160 (drop 52 bytes)) ∙ ap (λ l. l ++ drop 160 (drop 52 bytes)) segments
    ∙ ap (λ l. segments_of n c d h s ++ l) (drop-drop 160 52 bytes))
