-- What the stages of the compiler give one another. No public contract speaks of it.
use Rattle.std.specs.Prelude.{◌≡◌, ◌≤◌, ◌<◌, ℕ, ◌+◌, ◌*◌, ◌%◌, true, List, [], length}
use Rattle.arc_base.specs.Event.{Event}
use Rattle.arc_base.specs.Behaviour.{Seen, Agrees, Sound}
use Rattle.arc_base.specs.Pace.{PacedFrom, Paced}
use Rattle.arc_base.specs.declared.place.Code.TheVariants as code
use Rattle.arc_base.specs.declared.place.Stop.{Stop}
use Rattle.arc_base.specs.declared.place.Stop.TheVariants as stop
use Rattle.nim_types.specs.declared.types.TypeDef.{TypeDef}
use Rattle.nim_types.specs.Table.{types_in, facts_in}
use Rattle.nim_plan.specs.declared.plan.Plan.{Plan}
use Rattle.nim_program.specs.declared.sizes.TheConstants.{MOST_BYTES}
use Rattle.nim_program.specs.declared.text_sizes.TheConstants.{MOST_DATA as MOST_DATA_BYTES}
use Rattle.nim_program.specs.Program.{Program}
use Rattle.nim_program.specs.Sizes.{HaveForms}
use Rattle.nim_meaning.specs.Meaning.{meaning}
use Rattle.rv32_isa.specs.declared.label.LabelLine.{LabelLine}
use Rattle.rv32_isa.specs.Image.{Image}
use Rattle.rv32_isa.specs.Machine.{machine}
use Rattle.word_code.specs.declared.word.WordCode.{WordCode}
use Rattle.flat_code.specs.declared.code.Code.{Code}
use Rattle.flat_code.specs.declared.line.Line.{Line}
use Rattle.flat_code.specs.Codes.{flat_plain, flat_meaning, flat_within, hooks_of, AreNone, places_of}
use Rattle.flat_code.specs.Fits.{code_fits}
use Rattle.flat_code.specs.Scene.{known_in}
use Rattle.flat_code.specs.Sizes.{code_weight, data_bytes}
use Rattle.word_code.specs.Sizes.{longest_chain, has_no_circle}
use Rattle.word_code.specs.Words.{word_meaning, word_by_units, is_word_code, have_no_hooks, Fresh}
use Rattle.program_limits.specs.Frames.{beginning}
use Rattle.flattening.specs.declared.laws.TheConstants.{FLAT_PACE, NODE_WEIGHT, PAIR_WEIGHT}
use Rattle.flat_code.specs.Alike.{AllAlike}
use Rattle.flattening.specs.Counted.{program_parts, program_pairs, places_waiting}
use Rattle.flattening.specs.Flattened.{modes_of}
use Rattle.flat_code.specs.BuiltCode.{AreBuiltProcs}
use Rattle.flat_code.specs.Leads.{AllLeadRight}
use Rattle.flat_code.specs.Waits.{AllWaitRight, AllWaitOnce}
use Rattle.program_limits.specs.Data.{data_counted}
use Rattle.rv32_codegen.specs.declared.label_code.TheConstants.{BYTES_OF_LINE, CODE_PACE}
use Rattle.rv32_codegen.specs.declared.layout.TheConstants.{LAYOUT_PACE, MOST_CODE_BYTES}
use Rattle.rv32_codegen.specs.declared.layout.LayFault.{LayFault}
use Rattle.rv32_codegen.specs.declared.layout.LayFault.TheVariants.{TooLarge, Memory}
use Rattle.rv32_codegen.specs.Layout.{code_size, laid_out}
use Rattle.rv32_codegen.specs.LineBytes.{most_bytes}
use Rattle.rv32_codegen.specs.Stack.{stack_need}
use Rattle.reg_scan.specs.declared.homes.Homes.{Homes}
use Rattle.nim_types.specs.declared.types.TheConstants.{WORD_BYTES}
use Rattle.program_limits.specs.declared.texts.TheConstants.{FEW_TEXTS}
use Rattle.word_code.specs.declared.routine.TheConstants.{RUNTIME_DATA}
use Rattle.heap_memory.specs.declared.numbers.TheConstants.{HEAP_DATA}
use Rattle.word_lowering.specs.declared.lowering.TheConstants.{WORD_LATE, WORD_PACE, MOST_HEAP, MOST_CHAIN, MORE_DATA}
use Rattle.word_lowering.specs.declared.may_lower.TheConstants.{MOST_DATA}
use Rattle.word_lowering.specs.Lowers.{AreSmall}
use Rattle.core_compiler.specs.declared.program.TheConstants.{BYTES_OF_HOOK, BYTES_OF_ALL}
use Rattle.core_compiler.specs.Limits.{hook_parts}
use Rattle.core_compiler.specs.Compile.{live_objects, IsLabelCode}

-- ---- a typed program and its flat code

-- the same events, and the same end or none
pub record ShowsSame (low high : Seen Event) : Type 0 where
  pub events : low.events ≡ high.events
  pub phase : low.phase ≡ high.phase

-- Its lines fit the types of its places, and what they give, take or end waits where they say, nothing else at the same node.
pub record FlatFits (table : List TypeDef) (flat : Code Line) : Type 0 where
  pub fits : code_fits flat_plain (known_in table) flat.procs ≡ true
  pub waits : AllWaitRight flat_plain (known_in table) flat.procs
  pub once : AllWaitOnce (places_of flat)

-- what word code rests on beside that flat code fits, and that values wait where lines say: it has the module's code, its types and operations are
-- built, no procedure is too large, and neither are its data
pub record MayBeLowered (table : List TypeDef) (flat : Code Line) : Type 0 where
  pub some : 0 < length flat.procs
  pub alike : AllAlike flat.procs
  pub built : AreBuiltProcs (known_in table) MOST_BYTES flat.procs
  pub fits : code_fits flat_plain (known_in table) flat.procs ≡ true
  pub waits : AllWaitRight flat_plain (known_in table) flat.procs
  pub once : AllWaitOnce (places_of flat)
  pub leads : AllLeadRight (known_in table) flat.procs
  pub hooks : AreNone (hooks_of flat)
  pub data_few : data_bytes flat_plain table flat.procs ≤ MOST_DATA_BYTES + WORD_BYTES * FEW_TEXTS

-- The program is never wrong, and flat code does what it means under the plan, and with so many units shows the same after some number of lines and
-- ever after, within so much work; its lines fit the types of its places; it weighs as much as the program's parts and pairs, and has the data that
-- count, with a word for the place of each of the first texts. No type of the table contains itself.
pub record IsFlatOf (table : List TypeDef) (program : Program) (plan : Plan) (flat : Code Line) : Type 0 where
  pub sound : (heap : ℕ) (input : List ℕ) → Sound (meaning program plan heap input)
  pub agrees : (heap : ℕ) (input : List ℕ) → Agrees (flat_meaning table flat plan heap input) (meaning program plan heap input)
  pub paced : (heap : ℕ) (input : List ℕ) → Paced FLAT_PACE (flat_meaning table flat plan heap input) (meaning program plan heap input)
  pub exact : (heap : ℕ) (input : List ℕ) (units : ℕ) → (lines : ℕ)
      × ((more : ℕ) → ShowsSame (flat_within table flat plan units heap input (lines + more)) (meaning program plan heap input units))
  pub within : (heap : ℕ) (input : List ℕ) (units n : ℕ) →
      (flat_within table flat plan units heap input n).work ≤ FLAT_PACE * ((meaning program plan heap input units).work + 1) + 1
  pub fits : FlatFits table flat
  pub weight : code_weight flat_plain flat.procs ≤ NODE_WEIGHT * program_parts program + PAIR_WEIGHT * program_pairs (modes_of program plan) program
  pub waiting : places_waiting (places_of flat) ≤ program_parts program
  pub data_size : data_bytes flat_plain table flat.procs ≤ data_counted program + WORD_BYTES * FEW_TEXTS
  pub hooks : AreNone (hooks_of flat)
  pub forms : HaveForms table
  pub types : types_in table ≡ program.types
  pub facts : facts_in table ≡ program.facts
  pub may : MayBeLowered table flat

-- ---- flat code and its word code

-- what an image can be made of
pub record CanLayOut (words : WordCode) : Type 0 where
  pub formed : is_word_code words ≡ true
  pub no_circle : has_no_circle words.procs ≡ true
  pub chain : longest_chain words.procs ≤ MOST_CHAIN
  pub small : AreSmall words.procs
  pub whole : length words.statics % 4 ≡ 0
  pub statics_most : length words.statics ≤ HEAP_DATA + MOST_DATA + RUNTIME_DATA

-- Word code, with all routines, does what flat code does under the plan, where that is never at a fault and never wrong, whatever bytes new places
-- bring; and what it becomes has at most so many bytes.
pub record AreWordsOf (table : List TypeDef) (plan : Plan) (flat : Code Line) (words : WordCode) : Type 0 where
  pub agrees : (fresh : Fresh) (heap stack : ℕ) (input : List ℕ) → heap ≤ MOST_HEAP → FlatFits table flat →
      AreNone (hooks_of flat) → Sound (flat_meaning table flat plan heap input) →
      Agrees (word_meaning live_objects words fresh heap stack input) (flat_meaning table flat plan heap input)
  pub paced : (fresh : Fresh) (heap stack : ℕ) (input : List ℕ) → heap ≤ MOST_HEAP → FlatFits table flat →
      AreNone (hooks_of flat) → Sound (flat_meaning table flat plan heap input) →
      PacedFrom WORD_PACE WORD_LATE (word_meaning live_objects words fresh heap stack input) (flat_meaning table flat plan heap input)
  -- with so many units it shows from some moment on what flat code shows from some moment on, and never does more work than so many times that of
  -- flat code at some moment
  pub exact : (fresh : Fresh) (heap stack : ℕ) (input : List ℕ) → heap ≤ MOST_HEAP → FlatFits table flat →
      AreNone (hooks_of flat) → Sound (flat_meaning table flat plan heap input) → (units : ℕ) → (from lines : ℕ) × ((more : ℕ) →
      ShowsSame (word_by_units live_objects words fresh heap stack input units (from + more)) (flat_within table flat plan units heap input (lines + more)))
  pub within : (fresh : Fresh) (heap stack : ℕ) (input : List ℕ) → heap ≤ MOST_HEAP → FlatFits table flat →
      AreNone (hooks_of flat) → Sound (flat_meaning table flat plan heap input) → (units n : ℕ) → (m : ℕ) ×
      ((word_by_units live_objects words fresh heap stack input units n).work ≤ WORD_PACE * ((flat_within table flat plan units heap input m).work + WORD_LATE))
  pub can : CanLayOut words
  pub code_most : most_bytes words.procs ≤ BYTES_OF_LINE * (code_weight flat_plain flat.procs + places_waiting (places_of flat))
      + (BYTES_OF_HOOK * hook_parts (facts_in table) (types_in table) + BYTES_OF_ALL)
  pub data_size : length words.statics ≤ data_bytes flat_plain table flat.procs + (HEAP_DATA + MORE_DATA + RUNTIME_DATA)
  pub hooks : AreNone (hooks_of flat) → have_no_hooks words.procs ≡ true

-- ---- word code and its image

-- word code has label code, which is laid out in so many bytes
pub record HasLines (words : WordCode) (bytes : ℕ) : Type 0 where
  pub homes : List Homes
  pub lines : List LabelLine
  pub code : IsLabelCode words homes lines
  pub size : code_size lines ≡ bytes
  pub bound : bytes ≤ most_bytes words.procs

-- it does on this input what the word code does whose new places bring these bytes
pub record DoesWith (words : WordCode) (heap : ℕ) (image : Image) (input : List ℕ) (fresh : Fresh) : Type 0 where
  pub agrees : Agrees (machine live_objects image input) (word_meaning live_objects words fresh heap image.stack input)
  pub paced : PacedFrom (LAYOUT_PACE * CODE_PACE) 2 (machine live_objects image input)
      (word_meaning live_objects words fresh heap image.stack input)

-- The image is that of such label code, with the stack that it needs. It does what the word code does, which is never at a fault, where new places
-- have the bytes that are in the stack there.
pub record IsImageOf (words : WordCode) (heap : ℕ) (image : Image) : Type 0 where
  pub from : HasLines words (length image.code)
  pub made : image ≡ laid_out from.lines words.statics heap (stack_need words.procs from.homes)
  pub does : (input : List ℕ) → (fresh : Fresh)
      × (Sound (word_meaning live_objects words fresh heap image.stack input) → DoesWith words heap image input fresh)
  pub hooks : have_no_hooks words.procs ≡ true → image.hooks ≡ []

-- there is no image, since the label code is too large, or no memory was found
abbrev pub IsTooLarge : WordCode → LayFault → Type 0
IsTooLarge words (TooLarge n) = (MOST_CODE_BYTES < n) × HasLines words n
IsTooLarge words Memory = Unit {0}

-- ---- refusals

abbrev pub too_large : Stop
too_large = stop.Refused code.TooLarge beginning
