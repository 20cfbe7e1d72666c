-- Each list of bytes is a file, or has a fault.
use Rattle.std.proofs.Common.{◌≡◌, ◌<◌, ℕ, ◌+◌, ◌%◌, List, [], ◌∷◌, ◌++◌, length, take, drop, refl, sym, ap, ◌∙◌, ◌⊎◌, inl, inr, Bool, true, false}
use Rattle.std.proofs.Common.{ltb, subst}
use Rattle.std.specs.Prelude.{None}
use Rattle.std.proofs.lemmas.List.{append-nil}
use Rattle.nim_plan.specs.declared.plan.Plan.{Plan}
use Rattle.rv32_isa.specs.declared.image.HookAt.{HookAt}
use Rattle.rv32_isa.specs.Hooks.{code_at, HooksStand}
use Rattle.rv32_isa.specs.Words.{word_bytes}
use Rattle.elf32.specs.declared.file.ElfFault.{ElfFault}
use Rattle.elf32.specs.declared.file.ElfFault.TheVariants.{Short, Magic, Class, FileType, Machine, Header, Segment, Note}
use Rattle.elf32.specs.Elf.{File, IsFile, Ordered, header, segments_of, words, counted, hook_words, site_words, sink_words, skip_words, described}
use Rattle.elf32.specs.Elf.{note, note_of}
use Rattle.elf32.specs.Faults.{AreSizes, HasSegments, HasFile, HasFault, IsFaulty, Fits}
use Rattle.elf32.specs.Reading.{AreFields, SaysNote, word_in, rises, site_before, skip_before, stand}
use Rattle.elf32.proofs.FilesWords.{words_only}
use Rattle.elf32.proofs.Files.{Said, description_only}
use Rattle.elf32.proofs.Segments.{fields_told}
use Rattle.elf32.proofs.NoteLists.{Fitting}
use Rattle.elf32.proofs.NoteExact.{noted}
use Rattle.elf32.proofs.WholeFile.{elf_by_parts, no_file, no_segments, read_file}
use Rattle.elf32.proofs.Faulty.{fault_short, fault_magic, fault_class, fault_file_type, fault_machine, fault_header, fault_segment, fault_note}
use Rattle.elf32.proofs.Orders.{SkipBefore, stand_by, stand_tests, sites_by, sites_tests, sinks_by, sinks_tests, skips_by, skips_tests}
use Rattle.elf32.proofs.Decided.{Decided, holds, fails, both, carried, at_most, same_number, same_list, Worded, are_words, FourLists, four_lists}

-- ---- the program headers

sizes_decided : (n c d h s bytes : ℕ) → Decided (AreSizes n c d h s bytes)
sizes_decided n c d h s bytes =
    carried (both (both (same_number (c % 4) 0) (both (at_most 4 c) (at_most c 524288)))
    (both (both (same_number (d % 4) 0) (at_most d 1048576)) (both (both (at_most 4096 h) (at_most h 16777216))
    (both (both (same_number (s % 16) 0) (both (at_most 65536 s) (at_most s 268435456)))
    (both (at_most n 2097152) (same_number bytes (212 + n + c + d)))))))
    (λ p. record {
      code_whole = p.0.0;
      code_least = p.0.1.0;
      code_most = p.0.1.1;
      statics_whole = p.1.0.0;
      statics_most = p.1.0.1;
      heap_least = p.1.1.0.0;
      heap_most = p.1.1.0.1;
      stack_whole = p.1.1.1.0.0;
      stack_least = p.1.1.1.0.1.0;
      stack_most = p.1.1.1.0.1.1;
      note_most = p.1.1.1.1.0;
      whole = p.1.1.1.1.1;
    })
    (λ a. (
      (a.code_whole, (a.code_least, a.code_most)),
      (
        (a.statics_whole, a.statics_most),
        ((a.heap_least, a.heap_most), ((a.stack_whole, (a.stack_least, a.stack_most)), (a.note_most, a.whole))),
      ),
    ))

segments_by_sizes : (bytes : List ℕ) (n c d h s : ℕ) → AreFields bytes n c d h s → Decided (HasSegments bytes)
segments_by_sizes bytes n c d h s fields =
    by (both (sizes_decided n c d h s (length bytes)) (same_list (take 160 (drop 52 bytes)) (segments_of n c d h s))) where
      by : Decided (AreSizes n c d h s (length bytes) × (take 160 (drop 52 bytes) ≡ segments_of n c d h s)) → Decided (HasSegments bytes)
      by (holds p) = holds (record { note = n; code = c; statics = d; heap = h; stack = s; sizes = p.0; spelled = p.1 })
      by (fails none) = fails (no_segments bytes n c d h s fields (λ sizes spelled. none (sizes, spelled)))

segments_decided : (bytes : List ℕ) → Decided (HasSegments bytes)
segments_decided bytes =
    segments_by_sizes bytes (word_in bytes 196) (word_in bytes 68) (word_in bytes 100) (word_in bytes 136) (word_in bytes 168)
    (record { note_is = refl; code_is = refl; statics_is = refl; heap_is = refl; stack_is = refl })

-- ---- the numbers of a note

behind_name : (ws : List ℕ) → drop 20 (note_of ws) ≡ words ws
unfolding word_bytes
behind_name ws = refl

-- version 1 and four lists
record Versioned (ns : List ℕ) : Type 0 where
  rest : List ℕ
  first : ns ≡ 1 ∷ rest
  four : FourLists rest

versioned : (ns : List ℕ) → Decided (Versioned ns)
versioned [] = fails (λ x. nothing x.rest x.first) where
  nothing : (rest : List ℕ) → [] ≡ 1 ∷ rest → ⊥
  nothing rest e = cc
versioned (v ∷ ns) =
    carried (both (same_number v 1) (four_lists ns)) (λ p. record { rest = ns; first = ap (λ n. n ∷ ns) p.0; four = p.1 })
    (λ x. (front x.rest x.first, subst FourLists (sym (behind x.rest x.first)) x.four)) where
      front : (rest : List ℕ) → v ∷ ns ≡ 1 ∷ rest → v ≡ 1
      front rest e = cc

      behind : (rest : List ℕ) → v ∷ ns ≡ 1 ∷ rest → ns ≡ rest
      behind rest e = cc

-- what they say
abbrev plan_in : (rest : List ℕ) → FourLists rest → Plan
plan_in rest four = record { sites = four.behind.items; sinks = four.behind.behind.items; skips = four.behind.behind.behind.items }

described_by : (ns : List ℕ) (x : Versioned ns) → ns ≡ described 1 x.four.items (plan_in x.rest x.four)
described_by ns x =
    let skips = x.four.behind.behind.behind in
    let sinks = x.four.behind.behind in
    let sites = x.four.behind in
    let last : sinks.rest ≡ counted skip_words skips.items = skips.there ∙ ap (λ l. counted skip_words skips.items ++ l) skips.behind
    ∙ append-nil (counted skip_words skips.items) in
    let third : sites.rest ≡ counted sink_words sinks.items ++ counted skip_words skips.items = sinks.there
    ∙ ap (λ l. counted sink_words sinks.items ++ l) last in
    let second : x.four.rest ≡ counted site_words sites.items ++ (counted sink_words sinks.items ++ counted skip_words skips.items) = sites.there
    ∙ ap (λ l. counted site_words sites.items ++ l) third in
    x.first ∙ ap (λ l. 1 ∷ l) (x.four.there ∙ ap (λ l. counted hook_words x.four.items ++ l) second)

described_so : (ns : List ℕ) (hooks : List HookAt) (plan : Plan) → ns ≡ described 1 hooks plan → Versioned ns
described_so ns hooks plan e =
    let last = counted skip_words plan.skips in
    record {
      rest = counted hook_words hooks ++ (counted site_words plan.sites ++ (counted sink_words plan.sinks ++ last));
      first = e;
      four = record {
        items = hooks;
        rest = counted site_words plan.sites ++ (counted sink_words plan.sinks ++ last);
        there = refl;
        behind = record {
          items = plan.sites;
          rest = counted sink_words plan.sinks ++ last;
          there = refl;
          behind = record {
            items = plan.sinks;
            rest = last;
            there = refl;
            behind = record { items = plan.skips; rest = []; there = sym (append-nil last); behind = refl };
          };
        };
      };
    }

-- the same numbers say the same
abbrev file_with : List HookAt → Plan → File
file_with hooks plan = record { image = record { code = []; statics = []; heap = 0; stack = 0; hooks = hooks }; version = 1; plan = plan }

one_said : (hooks others : List HookAt) (plan other : Plan) → described 1 hooks plan ≡ described 1 others other → (hooks ≡ others) × (plan ≡ other)
one_said hooks others plan other e =
    let said : Said (file_with hooks plan) (file_with others other) = description_only (file_with hooks plan) (file_with others other) e in
    (said.hooks, said.plan)

-- ---- order

truth : (b : Bool) → Decided (b ≡ true)
truth true = holds refl
truth false = fails (λ (e : false ≡ true). cc)

-- ---- the note

-- the bytes are the note of some hooks and some plan
record Noted (size : ℕ) (bytes : List ℕ) : Type 0 where
  hooks : List HookAt
  plan : Plan
  says : SaysNote size bytes hooks plan

worded_note : (size : ℕ) (bytes : List ℕ) → Noted size bytes → Worded (drop 20 bytes)
worded_note size bytes s =
    record { numbers = described 1 s.hooks s.plan; fits = s.says.words; there = ap (drop 20) s.says.spelled ∙ behind_name (described 1 s.hooks s.plan) }

numbers_are : (size : ℕ) (bytes : List ℕ) (w : Worded (drop 20 bytes)) (s : Noted size bytes) → w.numbers ≡ described 1 s.hooks s.plan
unfolding worded_note
numbers_are size bytes w s =
    let other : Worded (drop 20 bytes) = worded_note size bytes s in
    words_only w.numbers other.numbers w.fits other.fits (sym w.there ∙ other.there)

-- that they are in order, and spelled so
abbrev Checked : (size : ℕ) (bytes : List ℕ) → List HookAt → Plan → Type 0
Checked size bytes hooks plan =
    (bytes ≡ note_of (described 1 hooks plan)) × (HooksStand size code_at hooks ×
    (Ordered (λ a b. a.site < b.site) plan.sites × (Ordered (λ a b. a < b) plan.sinks × Ordered SkipBefore plan.skips)))

checked : (size : ℕ) (bytes : List ℕ) (hooks : List HookAt) (plan : Plan) → Decided (Checked size bytes hooks plan)
checked size bytes hooks plan =
    both (same_list bytes (note_of (described 1 hooks plan)))
    (both (carried (truth (stand size code_at hooks)) (stand_by size code_at hooks) (stand_tests size code_at hooks))
    (both (carried (truth (rises site_before None plan.sites)) (sites_by plan.sites) (sites_tests plan.sites))
    (both (carried (truth (rises ltb None plan.sinks)) (sinks_by plan.sinks) (sinks_tests plan.sinks))
    (carried (truth (rises skip_before None plan.skips)) (skips_by plan.skips) (skips_tests plan.skips)))))

-- what is checked, of what the note was found to say
checked_of : (size : ℕ) (bytes : List ℕ) (hooks : List HookAt) (plan : Plan) (w : Worded (drop 20 bytes)) → w.numbers ≡ described 1 hooks plan
    → Noted size bytes → Checked size bytes hooks plan
checked_of size bytes hooks plan w numbers s =
    let one : (s.hooks ≡ hooks) × (s.plan ≡ plan) = one_said s.hooks hooks s.plan plan (sym (numbers_are size bytes w s) ∙ numbers) in
    let says : SaysNote size bytes hooks plan = subst (λ p. SaysNote size bytes hooks p) one.1 (subst (λ h. SaysNote size bytes h s.plan) one.0 s.says) in
    (says.spelled, (says.stand, (says.sites, (says.sinks, says.skips))))

noted_by_lists : (size : ℕ) (bytes : List ℕ) (hooks : List HookAt) (plan : Plan) (w : Worded (drop 20 bytes)) → w.numbers ≡ described 1 hooks plan
    → Decided (Noted size bytes)
noted_by_lists size bytes hooks plan w numbers =
    carried (checked size bytes hooks plan)
    (λ p. record {
      hooks = hooks;
      plan = plan;
      says = record {
        spelled = p.0;
        stand = p.1.0;
        sites = p.1.1.0;
        sinks = p.1.1.1.0;
        skips = p.1.1.1.1;
        words = subst Fitting numbers w.fits;
      };
    })
    (checked_of size bytes hooks plan w numbers)

note_by_words : (size : ℕ) (bytes : List ℕ) (w : Worded (drop 20 bytes)) → Decided (Noted size bytes)
note_by_words size bytes w = by (versioned w.numbers) where
  by : Decided (Versioned w.numbers) → Decided (Noted size bytes)
  by (holds x) = noted_by_lists size bytes x.four.items (plan_in x.rest x.four) w (described_by w.numbers x)
  by (fails none) = fails (λ s. none (described_so w.numbers s.hooks s.plan (numbers_are size bytes w s)))

note_decided : (size : ℕ) (bytes : List ℕ) → Decided (Noted size bytes)
note_decided size bytes = by (are_words (drop 20 bytes)) where
  by : Decided (Worded (drop 20 bytes)) → Decided (Noted size bytes)
  by (holds w) = note_by_words size bytes w
  by (fails none) = fails (λ s. none (worded_note size bytes s))

-- ---- the file

noted_file : (size : ℕ) (bytes : List ℕ) (file : File) → IsFile file → length file.image.code ≡ size → bytes ≡ note file → Noted size bytes
noted_file size bytes file is size_is same = record {
  hooks = file.image.hooks;
  plan = file.plan;
  says = record {
    spelled = same ∙ noted file is;
    stand = subst (λ k. HooksStand k code_at file.image.hooks) size_is is.image.hooks_stand;
    sites = is.sites;
    sinks = is.sinks;
    skips = is.skips;
    words = subst (λ v. Fitting (described v file.image.hooks file.plan)) is.version is.words;
  };
}

file_decided : (bytes : List ℕ) → take 52 bytes ≡ header → HasSegments bytes → Decided (HasFile bytes)
file_decided bytes front has = by (note_decided has.code (take has.note (drop 212 bytes))) where
  by : Decided (Noted has.code (take has.note (drop 212 bytes))) → Decided (HasFile bytes)
  by (holds s) = holds (record {
    file = read_file bytes has.note has.code has.statics has.heap has.stack s.hooks s.plan;
    elf = elf_by_parts bytes has.note has.code has.statics has.heap has.stack s.hooks s.plan front has.spelled has.sizes s.says;
  })
  by (fails none) =
      fails (no_file bytes has.note has.code has.statics has.heap has.stack
      (fields_told bytes has.note has.code has.statics has.heap has.stack has.sizes has.spelled)
      (λ file is size_is same. none (noted_file has.code (take has.note (drop 212 bytes)) file is size_is same)))

-- the fault is there where the part differs, and else what comes next decides
stage : (bytes : List ℕ) (fault : ElfFault) → Decided (Fits fault bytes) → ((Fits fault bytes → ⊥) → HasFault bytes fault)
    → (Fits fault bytes → HasFile bytes ⊎ IsFaulty bytes) → HasFile bytes ⊎ IsFaulty bytes
stage bytes fault (holds fits) differs next = next fits
stage bytes fault (fails none) differs next = inr (record { fault = fault; first = differs none })

pub file_or_fault : (bytes : List ℕ) → HasFile bytes ⊎ IsFaulty bytes
file_or_fault bytes =
    stage bytes Short (at_most 212 (length bytes)) (fault_short bytes) (λ long.
    stage bytes Magic (same_list (take 4 bytes) (take 4 header)) (fault_magic bytes long) (λ magic.
    stage bytes Class (same_list (take 16 bytes) (take 16 header)) (fault_class bytes long magic) (λ class.
    stage bytes FileType (same_list (take 18 bytes) (take 18 header)) (fault_file_type bytes long magic class) (λ kind.
    stage bytes Machine (same_list (take 20 bytes) (take 20 header)) (fault_machine bytes long magic class kind) (λ machine.
    stage bytes Header (same_list (take 52 bytes) header) (fault_header bytes long magic class kind machine) (λ front.
    stage bytes Segment (segments_decided bytes) (fault_segment bytes long magic class kind machine front) (λ segments.
    stage bytes Note (file_decided bytes front segments) (fault_note bytes long magic class kind machine front segments) inl)))))))
