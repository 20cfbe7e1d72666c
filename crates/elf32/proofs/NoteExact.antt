-- Which bytes are the note of a file: what the reader finds is it, and where the reader stops there is none.
use Rattle.std.proofs.Common.{◌≡◌, ◌<◌, ◌≤◌, ◌^◌, ℕ, List, [], ◌++◌, length, take, drop, refl, ap, ◌∙◌}
use Rattle.nim_plan.specs.declared.plan.Plan.{Plan}
use Rattle.nim_plan.specs.declared.plan.SiteAct.{SiteAct}
use Rattle.nim_plan.specs.declared.plan.SkipAt.{SkipAt}
use Rattle.rv32_isa.specs.declared.image.HookAt.{HookAt}
use Rattle.elf32.specs.Elf.{File, IsFile, words, counted, hook_words, site_words, sink_words, skip_words, described, note, note_of}
use Rattle.elf32.specs.Reading.{Lists, ListsNone, SaysNone, note_front}
use Rattle.elf32.proofs.Files.{AllByRecursion-append, hook_only, site_only, sink_only, skip_only}
use Rattle.elf32.proofs.NoteLists.{Fitting, front_fits, lists_one, Four, four_of_words, front_of, behind_front}

-- the numbers of each list of a file fit
pub record ListsFit (hooks : List HookAt) (plan : Plan) : Type 0 where
  pub hooks_fit : Fitting (counted hook_words hooks)
  pub sites_fit : Fitting (counted site_words plan.sites)
  pub sinks_fit : Fitting (counted sink_words plan.sinks)
  pub skips_fit : Fitting (counted skip_words plan.skips)

pub lists_fit : (file : File) → IsFile file → ListsFit file.image.hooks file.plan
lists_fit file is =
    let hooks = counted hook_words file.image.hooks in
    let sites = counted site_words file.plan.sites in
    let sinks = counted sink_words file.plan.sinks in
    let skips = counted skip_words file.plan.skips in
    let all = is.words.1 in
    let after_hooks = AllByRecursion-append (λ n. n < 2 ^ 32) hooks (sites ++ (sinks ++ skips)) all in
    let after_sites = AllByRecursion-append (λ n. n < 2 ^ 32) sites (sinks ++ skips) after_hooks in
    record {
      hooks_fit = front_fits hooks (sites ++ (sinks ++ skips)) all;
      sites_fit = front_fits sites (sinks ++ skips) after_hooks;
      sinks_fit = front_fits sinks skips after_sites;
      skips_fit = AllByRecursion-append (λ n. n < 2 ^ 32) sinks skips after_sites;
    }

-- the note of a file, with its version
pub noted : (file : File) → IsFile file → note file ≡ note_of (described 1 file.image.hooks file.plan)
noted file is = ap (λ version. note_of (described version file.image.hooks file.plan)) is.version

-- the numbers behind its version
abbrev four_words : File → List ℕ
four_words file =
    counted hook_words file.image.hooks ++ (counted site_words file.plan.sites ++ (counted sink_words file.plan.sinks ++ counted skip_words file.plan.skips))

-- its four lists
pub four_of_file : (file : File) → IsFile file → Four (drop 24 (note file)) file.image.hooks file.plan
four_of_file file is =
    let four = four_of_words file.image.hooks file.plan in
    let there : drop 24 (note file) ≡ words (four_words file) = ap (drop 24) (noted file is) ∙ behind_front (four_words file) in
    rw there four

-- ---- where the reader stops

pub front_missed : (size : ℕ) (bytes : List ℕ) → (24 ≤ length bytes → take 24 bytes ≡ note_front (length bytes) → ⊥) → SaysNone size bytes
front_missed size bytes none file is size_is same =
    let front = front_of (four_words file) in
    let note_is = same ∙ noted file is in
    none (rw note_is front.0) (rw note_is front.1)

pub hooks_missed : (size : ℕ) (bytes : List ℕ) → ListsNone hook_words (drop 24 bytes) → SaysNone size bytes
hooks_missed size bytes none file is size_is same =
    let four : Four (drop 24 (note file)) file.image.hooks file.plan = four_of_file file is in
    none file.image.hooks four.behind_hooks (lists_fit file is).hooks_fit.0 (ap (drop 24) same ∙ four.hooks_there)

-- ---- where the reader has read lists of a file, they are the file's

-- a list that was read where a file has one
one_list : {A : Type 0} (f : A → List ℕ) (size : ℕ) → ((x : A) → length (f x) ≡ size) → ((x y : A) → f x ≡ f y → x ≡ y)
    → (xs ys : List A) (here there r s : List ℕ) → here ≡ there → Fitting (counted f xs) → Fitting (counted f ys) → Lists f xs here r → Lists f ys there s
    → (xs ≡ ys) × (r ≡ s)
one_list f size sized tells xs ys here there r s place fit_xs fit_ys one other = lists_one f size sized tells xs ys here r s fit_xs fit_ys one (place ∙ other)

pub hooks_are : (bytes after : List ℕ) (hooks : List HookAt) (file : File) (is : IsFile file) → bytes ≡ note file → Fitting (counted hook_words hooks)
    → Lists hook_words hooks (drop 24 bytes) after → (hooks ≡ file.image.hooks) × (after ≡ (four_of_file file is).behind_hooks)
hooks_are bytes after hooks file is same fit there =
    let four : Four (drop 24 (note file)) file.image.hooks file.plan = four_of_file file is in
    one_list hook_words 3 (λ x. refl) hook_only hooks file.image.hooks (drop 24 bytes) (drop 24 (note file)) after four.behind_hooks (ap (drop 24) same) fit
    (lists_fit file is).hooks_fit there four.hooks_there

pub sites_are : (here after : List ℕ) (sites : List SiteAct) (file : File) (is : IsFile file) → here ≡ (four_of_file file is).behind_hooks
    → Fitting (counted site_words sites) → Lists site_words sites here after → (sites ≡ file.plan.sites) × (after ≡ (four_of_file file is).behind_sites)
sites_are here after sites file is place fit there =
    let four : Four (drop 24 (note file)) file.image.hooks file.plan = four_of_file file is in
    one_list site_words 2 (λ x. refl) site_only sites file.plan.sites here four.behind_hooks after four.behind_sites place fit
    (lists_fit file is).sites_fit there four.sites_there

pub sinks_are : (here after sinks : List ℕ) (file : File) (is : IsFile file) → here ≡ (four_of_file file is).behind_sites → Fitting (counted sink_words sinks)
    → Lists sink_words sinks here after → (sinks ≡ file.plan.sinks) × (after ≡ (four_of_file file is).behind_sinks)
sinks_are here after sinks file is place fit there =
    let four : Four (drop 24 (note file)) file.image.hooks file.plan = four_of_file file is in
    one_list sink_words 1 (λ x. refl) sink_only sinks file.plan.sinks here four.behind_sites after four.behind_sinks place fit
    (lists_fit file is).sinks_fit there four.sinks_there

pub skips_are : (here after : List ℕ) (skips : List SkipAt) (file : File) (is : IsFile file) → here ≡ (four_of_file file is).behind_sinks
    → Fitting (counted skip_words skips) → Lists skip_words skips here after → (skips ≡ file.plan.skips) × (after ≡ [])
skips_are here after skips file is place fit there =
    let four : Four (drop 24 (note file)) file.image.hooks file.plan = four_of_file file is in
    one_list skip_words 2 (λ x. refl) skip_only skips file.plan.skips here four.behind_sinks after [] place fit
    (lists_fit file is).skips_fit there four.skips_there
