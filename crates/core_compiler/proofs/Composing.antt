-- What the stages do, one behind the other.
use Rattle.std.proofs.Common.{◌≡◌, ◌≤◌, ℕ, ◌+◌, ◌*◌, ◌%◌, List, [], ◌∷◌, map, length, refl, sym, ap, subst, ◌∙◌, arith, true, Result, Ok, Err, length-append}
use Rattle.std.specs.Prelude.{IfOk, IfErr}
use Rattle.arc_base.specs.Event.{Event}
use Rattle.arc_base.specs.Behaviour.{Behaviour, Agrees, Seen, Sound}
use Rattle.arc_base.specs.Pace.{PacedFrom}
use Rattle.nim_types.specs.Table.{IsTable, types_in, facts_in}
use Rattle.nim_program.specs.Sizes.{HaveForms}
use Rattle.nim_types.specs.declared.types.TypeDef.{TypeDef}
use Rattle.nim_plan.specs.declared.plan.Plan.{Plan}
use Rattle.nim_program.specs.Program.{Program}
use Rattle.nim_program.specs.Typed.{IsTyped}
use Rattle.nim_meaning.specs.Meaning.{meaning}
use Rattle.rv32_isa.specs.Image.{Image}
use Rattle.rv32_isa.specs.Machine.{machine}
use Rattle.word_code.specs.declared.word.WordCode.{WordCode}
use Rattle.flat_code.specs.declared.code.Code.{Code}
use Rattle.flat_code.specs.declared.code.CodeProc.{CodeProc}
use Rattle.flat_code.specs.declared.line.Line.{Line}
use Rattle.flat_code.specs.declared.owned.OwnedLine.{OwnedLine}
use Rattle.flat_code.specs.declared.block.BlockLine.{BlockLine}
use Rattle.flat_code.specs.declared.block.BlockLine.TheVariants.{Plain}
use Rattle.flat_code.specs.Codes.{flat_plain, flat_meaning, owned_meaning, block_meaning, hooks_of, places_of, waiting_in, AreNone}
use Rattle.flat_code.specs.Codes.{block_within, by_lines, flat_within, owned_within, under}
use Rattle.flat_code.specs.Fits.{code_fits}
use Rattle.flat_code.specs.Scene.{known_in}
use Rattle.rv32_isa.specs.Machine.{Lives}
use Rattle.word_code.specs.Words.{word_by_units, word_meaning, is_word_code, have_no_hooks, Fresh}
use Rattle.word_code.specs.Sizes.{AreRanked, has_no_circle, longest_chain}
use Rattle.reachable_procs.specs.Reachable.{IsPruned, kept}
use Rattle.word_lowering.specs.declared.lowering.TheConstants.{MOST_CHAIN}
use Rattle.word_code.specs.Memory.{data_of}
use Rattle.word_code.specs.Joined.{joined}
use Rattle.refc_runtime.specs.BothRuntimes.{AreRuntimes}
use Rattle.destructor_injection.specs.Injecting.{IsOwned}
use Rattle.goto_exceptions.specs.Branches.{IsBranched}
use Rattle.rv32_codegen.specs.Layout.{DoesCode, IsFault, laid_out}
use Rattle.rv32_codegen.specs.Lowering.{CanRun, DoesWords}
use Rattle.rv32_codegen.specs.LineBytes.{most_bytes, procs_bytes}
use Rattle.rv32_codegen.specs.Stack.{stack_need}
use Rattle.word_lowering.specs.Runtimes.{Runtimes, with_runtimes}
use Rattle.flat_code.specs.Waits.{AllWaitOnce}
use Rattle.flattening.specs.Counted.{places_waiting}
use Rattle.word_lowering.specs.Lowers.{Lowers, LowersWithRuntime, IsFitting, AreSilent, AreSmall, all_waiting}
use Rattle.core_compiler.specs.Compile.{live_objects, HasCode, DoesProgram}
use Rattle.core_compiler.specs.Limits.{code_bound, hook_parts}
use Rattle.rv32_codegen.specs.declared.layout.LayFault.{LayFault}
use Rattle.rv32_codegen.specs.declared.layout.LayFault.TheVariants.{TooLarge, Memory}
use Rattle.program_limits.specs.Data.{data_counted}
use Rattle.core_compiler.specs.Stages.{FlatFits, HasLines, IsTooLarge, IsImageOf, IsFlatOf, AreWordsOf, DoesWith, ShowsSame}
use Rattle.core_compiler.proofs.Refusals.{bound_is}
use Rattle.core_compiler.proofs.CodeSizes.{joined_bytes}
use Rattle.core_compiler.proofs.HookBytes.{hooks_few}
use Rattle.hook_code.specs.HookCode.{procs_in}
use Rattle.core_compiler.proofs.PrunedWords.{agrees_alike, paced_alike, kept_small, kept_bytes, kept_unhooked}
use Rattle.core_compiler.proofs.InTime.{in_time}

abbrev pub AgreesLaw : Type 0
AgreesLaw = (low mid high : Behaviour Event) → Agrees low mid → Agrees mid high → Agrees low high

abbrev pub PaceLaw : Type 0
PaceLaw = (c d k l : ℕ) (low mid high : Behaviour Event) → 1 ≤ d → PacedFrom c k low mid → PacedFrom d l mid high →
    PacedFrom (c * d) (l + k) low high

-- what passes show, also by units
abbrev pub OwnedLaw : Type 0
OwnedLaw = (table : List TypeDef) (plan : Plan) (flat : Code Line) (units heap : ℕ) (input : List ℕ) (n : ℕ)
    → owned_within table (by_lines (under plan) flat) units heap input n ≡ flat_within table flat plan units heap input n

abbrev pub BlockLaw : Type 0
BlockLaw = (table : List TypeDef) (owned : Code OwnedLine) (units heap : ℕ) (input : List ℕ) (n : ℕ)
    → block_within table (by_lines Plain owned) units heap input n ≡ owned_within table owned units heap input n

-- what pruned code does, and how it is formed
pub record PruningLaws : Type 0 where
  pub meaning : (code pruned : WordCode) → IsPruned code pruned → is_word_code code ≡ true
      → (live : Lives) (fresh : Fresh) (heap stack : ℕ) (input : List ℕ) (n : ℕ)
      → word_meaning live pruned fresh heap stack input n ≡ word_meaning live code fresh heap stack input n
  pub by_units : (code pruned : WordCode) → IsPruned code pruned → is_word_code code ≡ true
      → (live : Lives) (fresh : Fresh) (heap stack : ℕ) (input : List ℕ) (units n : ℕ)
      → word_by_units live pruned fresh heap stack input units n ≡ word_by_units live code fresh heap stack input units n
  pub formed : (code pruned : WordCode) → IsPruned code pruned → is_word_code code ≡ true → is_word_code pruned ≡ true
  pub no_circle : (code pruned : WordCode) → IsPruned code pruned → (rank : ℕ → ℕ) → AreRanked rank code.procs → has_no_circle pruned.procs ≡ true
  pub chain : (code pruned : WordCode) → IsPruned code pruned → (rank : ℕ → ℕ) → AreRanked rank code.procs
      → (most : ℕ) → ((n : ℕ) → rank n ≤ most) → longest_chain pruned.procs ≤ most

pub of_three : {T E : Type 0} (r : Result T E) (P Q R S : T → Type 0) → ((x : T) → P x → Q x → R x → S x) →
    IfOk r P → IfOk r Q → IfOk r R → IfOk r S
of_three (Ok x) P Q R S so p q r = so x p q r
of_three (Err e) P Q R S so p q r = tt

-- code that isn't laid out for its size
pub fault_is : {T : Type 0} (words : WordCode) (bytes : ℕ) → HasLines words bytes → (r : Result T LayFault) →
    IfErr r (λ fault. IsFault bytes fault) → IfErr r (λ fault. IsTooLarge words fault)
fault_is words bytes has (Ok x) h = tt
fault_is words bytes has (Err (TooLarge n)) h = (h.1, subst (HasLines words) (sym h.0) has)
fault_is words bytes has (Err Memory) h = tt

-- where nothing is a hook, what has no lines is none
silent : (procs : List (CodeProc BlockLine)) → AreNone (map (λ (p : CodeProc BlockLine). p.hook) procs) → AreSilent procs
silent [] none = tt
silent (p ∷ procs) none = (λ lines. none.0, silent procs none.1)

-- what agrees is never at a fault, and never wrong
pub sound_low : {low high : Behaviour Event} → Agrees low high → Sound low
sound_low a = record { no_fault = a.no_fault; right = a.low_right }

-- all routines, as word code's contract takes them
abbrev pub both_of : (heap others : WordCode) → AreRuntimes heap others → Runtimes
both_of heap others are = record {
  heap = heap;
  others = others;
  is_heap = are.is_heap;
  is_others = are.is_others;
  apart = are.apart;
  rank = are.rank;
  heap_ranked = are.heap_ranked;
  others_ranked = are.others_ranked;
  chain = are.chain;
  heap_calls = are.heap_calls;
  others_calls = are.others_calls;
}

-- word code without other routines than those of the heap has data of few bytes
pub front_small : {table : List TypeDef} {blocks : Code BlockLine} (own : WordCode) (r : Runtimes) → LowersWithRuntime table blocks own
    → length (joined r.heap own).statics ≤ 4294967295
front_small own r lowered =
    let both = length-append (joined r.heap own).statics r.others.statics in
    let most = (lowered.lowers r).data_most in
    omega (arith, both, most)

-- what may wait, by the places alone
all_waits : (ps : List (CodeProc BlockLine)) → all_waiting ps ≡ places_waiting (map (λ (p : CodeProc BlockLine). p.places) ps)
all_waits [] = refl
all_waits (p ∷ ps) = ap (λ n. waiting_in p.places + n) (all_waits ps)

module _ (law : AgreesLaw) (pace : PaceLaw) where
  -- ---- flat code, owned code, block code, word code

  -- joined with a runtime
  module _ (table : List TypeDef) (plan : Plan) (flat : Code Line) (owned : Code OwnedLine) (blocks : Code BlockLine) (own : WordCode)
      (r : Runtimes) (injected : IsOwned flat plan owned) (branched : IsBranched owned blocks) (lowered : LowersWithRuntime table blocks own)
      (owned_so : OwnedLaw) (blocks_so : BlockLaw) (is_table : IsTable table) (formed : HaveForms table)
    where
      abbrev words : WordCode
      words = with_runtimes r own

      low : Lowers table blocks words
      low = lowered.lowers r

      abbrev Fits : Type 0
      Fits = FlatFits table flat

      none_before : AreNone (hooks_of flat) → AreNone (hooks_of blocks)
      none_before none = subst AreNone (sym (branched.form.hooks ∙ injected.form.hooks)) none

      places_same : places_of blocks ≡ places_of flat
      places_same = branched.form.places ∙ injected.form.places

      blocks_fit : Fits → IsFitting table blocks
      blocks_fit fits = record {
        fits = branched.form.fits (known_in table) (injected.form.fits (known_in table) fits.fits);
        waits = branched.form.waits (known_in table) (injected.form.waits (known_in table) fits.waits);
        once = subst AllWaitOnce (sym places_same) fits.once;
      }

      waiting_same : all_waiting blocks.procs ≡ places_waiting (places_of flat)
      waiting_same = all_waits blocks.procs ∙ ap places_waiting places_same

      owned_flat : (heap : ℕ) (input : List ℕ) → Sound (flat_meaning table flat plan heap input) →
          Agrees (owned_meaning table owned heap input) (flat_meaning table flat plan heap input)
      owned_flat heap input sound = injected.agrees table heap input sound

      blocks_owned : (heap : ℕ) (input : List ℕ) → Sound (flat_meaning table flat plan heap input) →
          Agrees (block_meaning table blocks heap input) (owned_meaning table owned heap input)
      blocks_owned heap input sound = branched.agrees table heap input (sound_low (owned_flat heap input sound))

      words_agree : (fresh : Fresh) (heap stack : ℕ) (input : List ℕ) → heap ≤ 16777216 → Fits → AreNone (hooks_of flat) →
          Sound (flat_meaning table flat plan heap input) →
          Agrees (word_meaning live_objects words fresh heap stack input) (flat_meaning table flat plan heap input)
      words_agree fresh heap stack input few fits none sound =
          let upper = owned_flat heap input sound in
          let middle = blocks_owned heap input sound in
          let lower = low.agrees live_objects fresh heap stack input (λ m. refl) few (blocks_fit fits) (silent blocks.procs (none_before none))
          (sound_low middle) in
          law _ _ _ (law _ _ _ lower middle) upper

      words_paced : (fresh : Fresh) (heap stack : ℕ) (input : List ℕ) → heap ≤ 16777216 → Fits → AreNone (hooks_of flat) →
          Sound (flat_meaning table flat plan heap input) →
          PacedFrom 256 33 (word_meaning live_objects words fresh heap stack input) (flat_meaning table flat plan heap input)
      words_paced fresh heap stack input few fits none sound =
          let upper = injected.paced table heap input sound in
          let middle = branched.paced table heap input (sound_low (owned_flat heap input sound)) in
          let lower = low.paced live_objects fresh heap stack input (λ m. refl) few (blocks_fit fits) (silent blocks.procs (none_before none))
          (sound_low (blocks_owned heap input sound)) in
          pace 256 1 33 0 _ _ _ (omega arith) (pace 256 1 33 0 _ _ _ (omega arith) lower middle) upper

      -- also by units
      blocks_within : (units heap : ℕ) (input : List ℕ) (n : ℕ) → block_within table blocks units heap input n
          ≡ flat_within table flat plan units heap input n
      blocks_within units heap input n =
          ap (λ ps. block_within table (record { procs = ps }) units heap input n) branched.each ∙ blocks_so table owned units heap input n
          ∙ ap (λ ps. owned_within table (record { procs = ps }) units heap input n) injected.each ∙ owned_so table plan flat units heap input n

      -- without the procedures that no call can reach
      module _ (laws : PruningLaws) (pruned : WordCode) (is : IsPruned words pruned) where
        same : (fresh : Fresh) (heap stack : ℕ) (input : List ℕ) (n : ℕ)
            → word_meaning live_objects pruned fresh heap stack input n ≡ word_meaning live_objects words fresh heap stack input n
        same = laws.meaning words pruned is low.formed live_objects

        same_units : (fresh : Fresh) (heap stack : ℕ) (input : List ℕ) (units n : ℕ)
            → word_by_units live_objects pruned fresh heap stack input units n ≡ word_by_units live_objects words fresh heap stack input units n
        same_units = laws.by_units words pruned is low.formed live_objects

        statics_same : length pruned.statics ≡ length words.statics
        statics_same = ap length is.statics

        pub words_of_flat : AreWordsOf table plan flat pruned
        words_of_flat = record {
          agrees = λ fresh heap stack input few fits none sound.
              agrees_alike _ _ _ (same fresh heap stack input) (words_agree fresh heap stack input few fits none sound);
          paced = λ fresh heap stack input few fits none sound.
              paced_alike _ _ _ (same fresh heap stack input) 256 33 (words_paced fresh heap stack input few fits none sound);
          exact = λ fresh heap stack input few fits none sound units.
              let e = low.exact live_objects fresh heap stack input (λ m. refl) few (blocks_fit fits) (silent blocks.procs (none_before none))
              (sound_low (blocks_owned heap input sound)) units in (
                e.0,
                e.1,
                λ more.
                    let p = same_units fresh heap stack input units (e.0 + more) in
                    let s = e.2 more in
                    let b = blocks_within units heap input (e.1 + more) in
                    record {
                      events = ap (λ (z : Seen Event). z.events) p ∙ s.0 ∙ ap (λ (z : Seen Event). z.events) b;
                      phase = ap (λ (z : Seen Event). z.phase) p ∙ s.1 ∙ ap (λ (z : Seen Event). z.phase) b;
                    },
              );
          within = λ fresh heap stack input few fits none sound units n.
              let e = low.bounded live_objects fresh heap stack input (λ m. refl) few (blocks_fit fits) (silent blocks.procs (none_before none))
              (sound_low (blocks_owned heap input sound)) units n in (
                e.0,
                subst (λ (z : Seen Event). z.work ≤ 256 * ((flat_within table flat plan units heap input e.0).work + 33))
                    (sym (same_units fresh heap stack input units n))
                    (subst (λ (z : Seen Event). (word_by_units live_objects words fresh heap stack input units n).work ≤ 256 * (z.work + 33))
                    (blocks_within units heap input e.0) e.1),
              );
          can = record {
            formed = laws.formed words pruned is low.formed;
            no_circle = laws.no_circle words pruned is low.rank low.ranked;
            chain = laws.chain words pruned is low.rank low.ranked MOST_CHAIN low.chain;
            small = subst AreSmall (sym is.procs) (kept_small is.numbers words.procs low.small);
            whole = ap (λ n. n % 4) statics_same ∙ low.whole;
            statics_most = omega (arith, statics_same, low.data_most);
          };
          code_most =
              let most = joined_bytes (length (joined r.heap own).statics) (length r.heap.statics) r.heap.procs own.procs lowered.own
              (procs_in table lowered.first) r.others.procs lowered.procs r.is_heap.routines r.is_others.routines in
              let hooks = hooks_few table lowered.first (length r.heap.statics) is_table formed in
              let less = kept_bytes is.numbers words.procs in
              let bytes : procs_bytes pruned.procs ≡ procs_bytes (kept is.numbers words.procs) = ap procs_bytes is.procs in
              omega (
                arith,
                most,
                hooks,
                less,
                bytes,
                lowered.quiet,
                lowered.weight,
                r.is_heap.weight,
                r.is_others.weight,
                injected.form.weight,
                branched.form.weight,
                waiting_same,
              );
          data_size =
              let few = lowered.data_size in
              let more = branched.form.statics table in
              let most = injected.form.statics table in
              let front = length-append r.heap.statics own.statics in
              let all = length-append (joined r.heap own).statics r.others.statics in
              omega (arith, statics_same, few, more, most, r.is_others.data_most, r.is_heap.long, front, all);
          hooks = λ none. ap have_no_hooks is.procs ∙ kept_unhooked is.numbers words.procs (low.hooks (none_before none));
        }

  -- ---- word code and its image

  module _ (words : WordCode) (heap : ℕ) (few : heap ≤ 16777216) (image : Image) (from : HasLines words (length image.code))
      (made : image ≡ laid_out from.lines words.statics heap (stack_need words.procs from.homes))
      (laid : DoesCode live_objects image from.lines (data_of heap image.stack words.statics) heap image.stack) where
    can : CanRun words from.homes heap image.stack
    can = subst (CanRun words from.homes heap) (sym (ap (λ i. i.stack) made)) (from.code.can heap few)

    image_does : (input : List ℕ) (fresh : Fresh) →
        DoesWords from.lines words live_objects laid.0 fresh heap image.stack input → DoesWith words heap image input fresh
    image_does input fresh upper =
        let lower = laid.2 input (sound_low upper.agrees) in
        record {
          agrees = law _ _ _ lower.0 upper.agrees;
          paced = pace 2 32 1 1 _ _ _ (omega arith) lower.1 upper.paced;
        }

    pub image_of_code : (have_no_hooks words.procs ≡ true → image.hooks ≡ []) → IsImageOf words heap image
    image_of_code hooks = record {
      from = from;
      made = made;
      does = λ input.
          let d = from.code.does live_objects laid.0 heap image.stack input (λ s t e f. refl) laid.1 can in
          (d.0, λ sound. image_does input d.0 (d.1 sound));
      hooks = hooks;
    }

  -- ---- the whole

  module _ (program : Program) (table : List TypeDef) (plan : Plan) (flat : Code Line) (words : WordCode)
      (top : IsFlatOf table program plan flat) (middle : AreWordsOf table plan flat words) where
    pub words_do : (fresh : Fresh) (heap stack : ℕ) (input : List ℕ) → heap ≤ 16777216 →
        Agrees (word_meaning live_objects words fresh heap stack input) (meaning program plan heap input)
    words_do fresh heap stack input few =
        let upper = top.agrees heap input in
        law _ _ _ (middle.agrees fresh heap stack input few top.fits top.hooks (sound_low upper)) upper

    -- the types of the table are those of the program
    hooks_same : hook_parts (facts_in table) (types_in table) ≡ hook_parts program.facts program.types
    hooks_same = ap (λ facts. hook_parts facts (types_in table)) top.facts ∙ ap (hook_parts program.facts) top.types

    pub code_most : (bytes : ℕ) → bytes ≤ most_bytes words.procs → bytes ≤ code_bound program plan program.types
    code_most bytes few =
        let bound = bound_is program plan flat words.procs (hook_parts (facts_in table) (types_in table)) hooks_same top.weight top.waiting
        middle.code_most in omega (arith, few, bound)

    pub data_most : length words.statics ≤ data_counted program + 6268
    data_most = let few = middle.data_size in omega (arith, few, top.data_size)

    -- with so many units
    pub words_exact : (fresh : Fresh) (heap stack : ℕ) (input : List ℕ) → heap ≤ 16777216 → (units : ℕ) → (lines : ℕ)
        × ((more : ℕ) → ShowsSame (word_by_units live_objects words fresh heap stack input units (lines + more)) (meaning program plan heap input units))
    words_exact fresh heap stack input few units =
        let w = middle.exact fresh heap stack input few top.fits top.hooks (sound_low (top.agrees heap input)) units in
        let f = top.exact heap input units in (
          w.0 + f.0,
          λ more.
              let low = subst (λ i. ShowsSame (word_by_units live_objects words fresh heap stack input units i)
              (flat_within table flat plan units heap input (w.1 + (f.0 + more)))) (further w.0 f.0 more) (w.2 (f.0 + more)) in
              let high = subst (λ i. ShowsSame (flat_within table flat plan units heap input i) (meaning program plan heap input units))
              (crossed f.0 w.1 more) (f.1 (w.1 + more)) in
              record { events = low.events ∙ high.events; phase = low.phase ∙ high.phase },
        )
      where
        further : (a b c : ℕ) → a + (b + c) ≡ a + b + c
        further a b c = omega arith

        crossed : (a b c : ℕ) → a + (b + c) ≡ b + (a + c)
        crossed a b c = omega arith

    pub words_within : (fresh : Fresh) (heap stack : ℕ) (input : List ℕ) → heap ≤ 16777216 → (units n : ℕ) →
        (word_by_units live_objects words fresh heap stack input units n).work ≤ 256 * (12 * ((meaning program plan heap input units).work + 1) + 34)
    words_within fresh heap stack input few units n =
        let w = middle.within fresh heap stack input few top.fits top.hooks (sound_low (top.agrees heap input)) units n in
        let f = top.within heap input units w.0 in
        omega (arith, w.1, f)

    abbrev pub has_code : (bytes : ℕ) → IsTyped program → HasLines words bytes → HasCode program plan bytes
    has_code bytes typed has = record {
      words = words;
      homes = has.homes;
      lines = has.lines;
      code = has.code;
      agrees = λ fresh heap stack input can. words_do fresh heap stack input can.heap_most;
      size = has.size;
      types = program.types;
      own = λ some. refl;
      typed = typed;
      bound = code_most bytes has.bound;
      data_most = data_most;
    }

    module _ (typed : IsTyped program) (heap : ℕ) (few : heap ≤ 16777216) (image : Image) (low : IsImageOf words heap image) where
      does_agree : (input : List ℕ) → Agrees (machine live_objects image input) (meaning program plan heap input)
      does_agree input =
          let d = low.does input in
          let mid = words_do d.0 heap image.stack input few in
          law _ _ _ (d.1 (sound_low mid)).agrees mid

      does_paced : (input : List ℕ) → PacedFrom 196608 36 (machine live_objects image input) (meaning program plan heap input)
      does_paced input =
          let upper = top.agrees heap input in
          let d = low.does input in
          let between = middle.agrees d.0 heap image.stack input few top.fits top.hooks (sound_low upper) in
          pace 64 3072 2 34 _ _ _ (omega arith) (d.1 (sound_low between)).paced
          (pace 256 12 33 1 _ _ _ (omega arith) (middle.paced d.0 heap image.stack input few top.fits top.hooks (sound_low upper)) (top.paced heap input))

      pub does_program : DoesProgram program plan heap image
      does_program = record {
        agrees = does_agree;
        paced = does_paced;
        in_time = λ input. in_time live_objects image input (meaning program plan heap input) (does_paced input);
        code = has_code (length image.code) typed low.from;
        made = low.made;
        heap_is = ap (λ i. i.heap) low.made;
        hooks = low.hooks (middle.hooks top.hooks);
      }
