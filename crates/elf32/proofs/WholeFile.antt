-- A file from its parts, and what stands in the parts of a file.
use Rattle.std.proofs.Common.{◌≡◌, ℕ, ◌+◌, ◌%◌, List, ◌++◌, length, take, drop, refl, sym, ap, ◌∙◌, arith}
use Rattle.std.proofs.lemmas.List.{length-take-le, take_all, take-append-drop, drop-drop, length-drop}
use Rattle.std.proofs.Math.Seq.{take-append_seam}
use Rattle.nim_plan.specs.declared.plan.Plan.{Plan}
use Rattle.rv32_isa.specs.declared.image.HookAt.{HookAt}
use Rattle.elf32.specs.Elf.{File, Elf, header, segments_of, note}
use Rattle.elf32.specs.Faults.{AreSizes, HasSegments, HasFile}
use Rattle.elf32.specs.Reading.{AreFields, SaysNote, SaysNone, image_in}
use Rattle.elf32.proofs.Segments.{body, Sized, file_sized, by_parts, fields_told}

-- the rest of a file by its sizes
rest_by_sizes : (bytes : List ℕ) (n c : ℕ) → drop 212 bytes ≡ take n (drop 212 bytes) ++ (take c (drop (212 + n) bytes) ++ drop (212 + n + c) bytes)
rest_by_sizes bytes n c =
    sym (take-append-drop n (drop 212 bytes))
    ∙ ap (λ l. take n (drop 212 bytes) ++ l) (drop-drop n 212 bytes ∙ sym (take-append-drop c (drop (212 + n) bytes))
    ∙ ap (λ l. take c (drop (212 + n) bytes) ++ l) (drop-drop c (212 + n) bytes))

-- what the reader makes of bytes
abbrev pub read_file : (bytes : List ℕ) (n c d h s : ℕ) → List HookAt → Plan → File
read_file bytes n c d h s hooks plan = record { image = image_in bytes n c d h s hooks; version = 1; plan = plan }

-- the regions of a file by its sizes
pub record Regions (bytes : List ℕ) (n c d : ℕ) : Type 0 where
  pub note_long : length (take n (drop 212 bytes)) ≡ n
  pub code_long : length (take c (drop (212 + n) bytes)) ≡ c
  pub statics_long : length (take d (drop (212 + n + c) bytes)) ≡ d
  pub statics_whole : drop (212 + n + c) bytes ≡ take d (drop (212 + n + c) bytes)

pub regions : (bytes : List ℕ) (n c d h s : ℕ) → AreSizes n c d h s (length bytes) → Regions bytes n c d
regions bytes n c d h s sizes =
    let note_rest : length (drop 212 bytes) ≡ n + c + d = omega (arith, length-drop 212 bytes, sizes.whole) in
    let code_rest : length (drop (212 + n) bytes) ≡ c + d = omega (arith, length-drop (212 + n) bytes, sizes.whole) in
    let statics_rest : length (drop (212 + n + c) bytes) ≡ d = omega (arith, length-drop (212 + n + c) bytes, sizes.whole) in
    record {
      note_long = length-take-le n _ (omega (arith, note_rest));
      code_long = length-take-le c _ (omega (arith, code_rest));
      statics_long = length-take-le d _ (omega (arith, statics_rest));
      statics_whole = sym (take_all d (drop (212 + n + c) bytes) (omega (arith, statics_rest)));
    }

pub elf_by_parts : (bytes : List ℕ) (n c d h s : ℕ) (hooks : List HookAt) (plan : Plan) → take 52 bytes ≡ header
    → take 160 (drop 52 bytes) ≡ segments_of n c d h s → AreSizes n c d h s (length bytes) → SaysNote c (take n (drop 212 bytes)) hooks plan
    → Elf bytes (read_file bytes n c d h s hooks plan)
elf_by_parts bytes n c d h s hooks plan front segments sizes says =
    let file = read_file bytes n c d h s hooks plan in
    let there : Regions bytes n c d = regions bytes n c d h s sizes in
    let long_statics : length file.image.statics ≡ d = there.statics_long in
    let long_code : length file.image.code ≡ c = there.code_long in
    let long_note : length (note file) ≡ n = sym (ap length says.spelled) ∙ there.note_long in
    let spelled : bytes ≡ header ++ (segments_of n c d h s ++ (note file ++ (file.image.code ++ file.image.statics))) =
    by_parts bytes n c d h s front segments ∙ ap (λ l. header ++ (segments_of n c d h s ++ l))
    (rest_by_sizes bytes n c ∙ ap (λ l. l ++ (file.image.code ++ drop (212 + n + c) bytes)) says.spelled
    ∙ ap (λ l. note file ++ (file.image.code ++ l)) there.statics_whole) in
    record {
      spelled =
          spelled ∙ ap (λ k. header ++ (segments_of k c d h s ++ body file)) (sym long_note)
          ∙ ap (λ k. header ++ (segments_of (length (note file)) k d h s ++ body file)) (sym long_code)
          ∙ ap (λ k. header ++ (segments_of (length (note file)) (length file.image.code) k h s ++ body file)) (sym long_statics);
      allowed = record {
        version = refl;
        image = record {
          code_whole = ap (λ k. k % 4) long_code ∙ sizes.code_whole;
          code_least = omega (arith, long_code, sizes.code_least);
          code_most = omega (arith, long_code, sizes.code_most);
          statics_whole = ap (λ k. k % 4) long_statics ∙ sizes.statics_whole;
          statics_most = omega (arith, long_statics, sizes.statics_most);
          heap_most = sizes.heap_most;
          stack_whole = sizes.stack_whole;
          stack_least = sizes.stack_least;
          stack_most = sizes.stack_most;
          hooks_stand = rw long_code says.stand;
        };
        heap_least = sizes.heap_least;
        sites = says.sites;
        sinks = says.sinks;
        skips = says.skips;
        words = says.words;
        note_most = omega (arith, long_note, sizes.note_most);
      };
    }

-- ---- the parts of a file

-- where the sizes were read, the note of a file stands there
pub no_file : (bytes : List ℕ) (n c d h s : ℕ) → AreFields bytes n c d h s → SaysNone c (take n (drop 212 bytes)) → HasFile bytes → ⊥
no_file bytes n c d h s fields none has =
    let file = has.file in
    let sized : Sized bytes file = file_sized bytes file has.elf in
    let note_size : n ≡ length (note file) = fields.note_is ∙ sym sized.fields.note_is in
    let code_size : c ≡ length file.image.code = fields.code_is ∙ sym sized.fields.code_is in
    let there : take n (drop 212 bytes) ≡ note file = ap (λ k. take k (drop 212 bytes)) note_size ∙ ap (take (length (note file))) sized.behind
    ∙ take-append_seam (note file) (file.image.code ++ file.image.statics) in
    none file has.elf.allowed (sym code_size) there

-- the program headers that were read are no file's, where they aren't these
pub no_segments : (bytes : List ℕ) (n c d h s : ℕ) → AreFields bytes n c d h s
    → (AreSizes n c d h s (length bytes) → take 160 (drop 52 bytes) ≡ segments_of n c d h s → ⊥) → HasSegments bytes → ⊥
no_segments bytes n c d h s fields none has =
    let told : AreFields bytes has.note has.code has.statics has.heap has.stack =
    fields_told bytes has.note has.code has.statics has.heap has.stack has.sizes has.spelled in
    let n_is : n ≡ has.note = fields.note_is ∙ sym told.note_is in
    let c_is : c ≡ has.code = fields.code_is ∙ sym told.code_is in
    let d_is : d ≡ has.statics = fields.statics_is ∙ sym told.statics_is in
    let h_is : h ≡ has.heap = fields.heap_is ∙ sym told.heap_is in
    let s_is : s ≡ has.stack = fields.stack_is ∙ sym told.stack_is in
    none (rw n_is (rw c_is (rw d_is (rw h_is (rw s_is has.sizes))))) (rw n_is (rw c_is (rw d_is (rw h_is (rw s_is has.spelled)))))
