-- The file of an image without hooks under a plan that has sites alone, and what its limits say.
use Rattle.std.proofs.Common.{◌≡◌, ℕ, ◌+◌, ◌*◌, ◌<◌, Bool, true, false, List, [], ◌∷◌, ◌++◌, length, ◌⊎◌, Option, Some, None, Result, Ok, Err, refl, sym}
use Rattle.std.proofs.Common.{ap, ◌∙◌, subst, arith}
use Rattle.std.specs.Prelude.{◌≤◌, ◌^◌, nat_le, codes}
use Rattle.std.specs.List.{AllByRecursion, flat_map}
use Rattle.std.specs.List.Sorted.{IsStrictlySortedBy}
use Rattle.std.specs.declared.cmp.Ordering.TheVariants.{Less}
use Rattle.std.proofs.lemmas.Bool.{leb-true}
use Rattle.std.proofs.lemmas.Cmp.{ranked}
use Rattle.std.proofs.lemmas.List.{length-append}
use Rattle.std.proofs.lemmas.List.Elements.{recursion_from_All}
use Rattle.arc_base.specs.declared.place.Place.{Place}
use Rattle.arc_base.specs.declared.place.Code.TheVariants.{LeftOut, TooLarge}
use Rattle.arc_base.specs.Refusal.{Refusal, and_then, refused}
use Rattle.nim_plan.specs.declared.plan.Act.{Act}
use Rattle.nim_plan.specs.declared.plan.Act.TheVariants.{Copy, Move, Final, Borrow}
use Rattle.nim_plan.specs.declared.plan.Plan.{Plan}
use Rattle.nim_plan.specs.declared.plan.SiteAct.{SiteAct}
use Rattle.nim_plan.specs.Order.{site_order}
use Rattle.nim_program.specs.Program.{Program}
use Rattle.plain_plan.specs.Plain.{AreWords}
use Rattle.rv32_isa.specs.Words.{word_bytes}
use Rattle.rv32_isa.specs.declared.image.Image.{Image as RustImage}
use Rattle.rv32_isa.specs.Image.{IsImage, image_of}
use Rattle.elf32.specs.Elf.{File, IsFile, Ordered, act_number, counted, hook_words, site_words, sink_words, skip_words, words, description, note_of}
use Rattle.nim_meaning.specs.LeftOut.{first_left_out}
use Rattle.program_limits.specs.Frames.{beginning, frame_limits}
use Rattle.program_limits.specs.Limits.{unless_left_out, unless_large, data_limits, tree_limits}
use Rattle.core_compiler.specs.Limits.{code_limits, note_bytes, note_limits, build_limits}

pub record IsPlain (file : File) : Type 0 where
  pub version : file.version ≡ 1
  pub image : IsImage file.image
  pub heap_least : 4096 ≤ file.image.heap
  pub hooks : file.image.hooks ≡ []
  pub ordered : IsStrictlySortedBy site_order file.plan.sites
  pub fit : AreWords file.plan.sites
  pub sinks : file.plan.sinks ≡ []
  pub skips : file.plan.skips ≡ []
  pub few : note_bytes file.plan ≤ 2097152

-- ---- the description

-- version 1, no hooks, the sites, no sinks, no skips
abbrev plain : List SiteAct → List ℕ
plain sites = 1 ∷ 0 ∷ length sites ∷ (flat_map site_words sites ++ (0 ∷ 0 ∷ []))

plain_description : (file : File) → IsPlain file → description file ≡ plain file.plan.sites
plain_description file is =
    let sites = counted site_words file.plan.sites in
    let behind = counted sink_words file.plan.sinks ++ counted skip_words file.plan.skips in
    ap (λ v. v ∷ (counted hook_words file.image.hooks ++ (sites ++ behind))) is.version
    ∙ ap (λ hooks. 1 ∷ (counted hook_words hooks ++ (sites ++ behind))) is.hooks
    ∙ ap (λ sinks. 1 ∷ (0 ∷ (sites ++ (counted sink_words sinks ++ counted skip_words file.plan.skips)))) is.sinks
    ∙ ap (λ skips. 1 ∷ (0 ∷ (sites ++ (0 ∷ counted skip_words skips)))) is.skips

-- ---- its size

words_length : (ns : List ℕ) → length (words ns) ≡ 4 * length ns
unfolding word_bytes
words_length [] = refl
words_length (n ∷ ns) = let rest = words_length ns in omega (arith, rest)

name_length : length (codes "NimArc") ≡ 6
name_length = refl

note_length : (ns : List ℕ) → length (note_of ns) ≡ 20 + length (words ns)
note_length ns =
    let sizes = 7 ∷ length (words ns) ∷ 1 ∷ [] in
    let named = codes "NimArc" in
    let head = length-append (words sizes) (named ++ (0 ∷ 0 ∷ words ns)) in
    let body = length-append named (0 ∷ 0 ∷ words ns) in
    let three = words_length sizes in
    omega (arith, head, body, three, name_length)

sites_length : (sites : List SiteAct) → length (flat_map site_words sites ++ (0 ∷ 0 ∷ [])) ≡ 2 * length sites + 2
sites_length [] = refl
sites_length (x ∷ sites) = let rest = sites_length sites in omega (arith, rest)

plain_note : (sites : List SiteAct) → length (note_of (plain sites)) ≡ 40 + 8 * length sites
plain_note sites =
    let all = note_length (plain sites) in
    let some = words_length (plain sites) in
    let many = sites_length sites in
    omega (arith, all, some, many)

-- ---- words below 2^32, in order

act_small : (act : Act) → act_number act < 2 ^ 32
act_small Copy = omega arith
act_small Move = omega arith
act_small Final = omega arith
act_small Borrow = omega arith

sites_fit : (sites : List SiteAct) → AllByRecursion (λ s. s.site < 2 ^ 32) sites →
    AllByRecursion (λ n. n < 2 ^ 32) (flat_map site_words sites ++ (0 ∷ 0 ∷ []))
sites_fit [] h = (omega arith, (omega arith, tt))
sites_fit (x ∷ sites) h = (h.0, (act_small x.act, sites_fit sites h.1))

rising : (sites : List SiteAct) → IsStrictlySortedBy site_order sites → Ordered (λ a b. a.site < b.site) sites
unfolding IsStrictlySortedBy
rising [] h = tt
rising (a ∷ []) h = tt
rising (a ∷ b ∷ sites) h = (ranked a.site b.site Less (sym h.0.0), rising (b ∷ sites) h.1)

pub plain_file : (file : File) → IsPlain file → IsFile file
plain_file file is =
    let sites = file.plan.sites in
    let same = plain_description file is in
    let few = is.few in record {
      version = is.version;
      image = is.image;
      heap_least = is.heap_least;
      sites = rising sites is.ordered;
      sinks = subst (Ordered (λ a b. a < b)) (sym is.sinks) tt;
      skips = subst (Ordered (λ a b. (a.place < b.place) ⊎ ((a.place ≡ b.place) × (a.exit < b.exit)))) (sym is.skips) tt;
      words = subst (AllByRecursion (λ n. n < 2 ^ 32)) (sym same)
          (omega arith, (omega arith, (omega (arith, few), sites_fit sites (recursion_from_All (λ (s : SiteAct). s.site < 2 ^ 32) sites is.fit))));
      note_most = let e = ap (λ ns. length (note_of ns)) same in let size = plain_note sites in omega (arith, few, e, size);
    }

-- ---- the note of what is built

neither : (r : Result (Unit {0}) Refusal) (refusal : Refusal) → r ≡ Err refusal → r ≡ Ok tt → ⊥
neither r refusal e f = cc

last_of : (first second : Result (Unit {0}) Refusal) (third : Result (Unit {0}) Refusal) →
    and_then first (λ x. and_then second (λ y. third)) ≡ Ok tt → third ≡ Ok tt
last_of (Err r) second third e = absurd (neither (Err r) r refl e)
last_of (Ok x) (Err r) third e = absurd (neither (Err r) r refl e)
last_of (Ok x) (Ok y) third e = e

small_if : (small : Bool) → unless_large small ≡ Ok tt → small ≡ true
small_if true e = refl
small_if false e = absurd (neither (refused TooLarge beginning) _ refl e)

pub built_note : (plan : Plan) (code : ℕ) (program : Program) → build_limits plan code program ≡ Ok tt → note_bytes plan ≤ 2097152
built_note plan code program e =
    leb-true (note_bytes plan) 2097152
    (small_if (nat_le (note_bytes plan) 2097152) (last_of (tree_limits program) (code_limits code) (note_limits plan) e))

-- ---- nothing of it is left out

all_if : (found : Option Place) (small rest : Result (Unit {0}) Refusal) →
    and_then (and_then (unless_left_out found) (λ built. small)) (λ within. rest) ≡ Ok tt → found ≡ None
all_if None small rest e = refl
all_if (Some at) small rest e = absurd (neither (refused LeftOut at) _ refl e)

pub all_built : (plan : Plan) (code : ℕ) (program : Program) → build_limits plan code program ≡ Ok tt → first_left_out program ≡ None
all_built plan code program e =
    all_if (first_left_out program) (and_then (frame_limits program) (λ small. data_limits program))
    (and_then (code_limits code) (λ few. note_limits plan)) e

-- what the type of an image keeps
pub image_is : (image : RustImage) → IsImage (image_of image)
image_is image = record {
  code_whole = image.code_whole;
  code_least = image.code_least;
  code_most = image.code_most;
  statics_whole = image.statics_whole;
  statics_most = image.statics_most;
  heap_most = image.heap_most;
  stack_whole = image.stack_whole;
  stack_least = image.stack_least;
  stack_most = image.stack_most;
  hooks_stand = image.hooks_stand;
}
