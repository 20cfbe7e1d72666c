-- What the reader of a note has found is what each file says whose note it is.
use Rattle.std.proofs.Common.{◌≡◌, ◌≤◌, ℕ, List, [], ◌∷◌, ◌++◌, length, take, drop, refl, sym, ap, ◌∙◌, true, false, ltb, subst, arith}
use Rattle.std.proofs.lemmas.List.{length-drop}
use Rattle.std.specs.Prelude.{None}
use Rattle.nim_plan.specs.declared.plan.Plan.{Plan}
use Rattle.nim_plan.specs.declared.plan.SiteAct.{SiteAct}
use Rattle.rv32_isa.specs.declared.image.HookAt.{HookAt}
use Rattle.rv32_isa.specs.Hooks.{code_at, HooksStand}
use Rattle.elf32.specs.declared.file.ElfStop.{ElfStop}
use Rattle.elf32.specs.declared.file.ElfStop.TheVariants.{Bad, Memory}
use Rattle.elf32.specs.declared.file.ElfFault.{ElfFault}
use Rattle.elf32.specs.Elf.{File, IsFile, counted, hook_words, site_words, sink_words, skip_words, note}
use Rattle.elf32.specs.Reading.{Because, Lists, ListsNone, SaysNote, SaysNone, note_front, rises, site_before, skip_before, stand}
use Rattle.elf32.proofs.NoteLists.{Fitting, both_fit, Four, words_of_four, note_by_front}
use Rattle.elf32.proofs.NoteExact.{lists_fit, four_of_file, hooks_are, sites_are, sinks_are, skips_are}
use Rattle.elf32.proofs.Orders.{stand_by, stand_tests, sites_by, sites_tests, sinks_by, sinks_tests, skips_by, skips_tests}

-- what follows from why, follows from the stop
pub because : {P Q : Type 0} (stop : ElfStop) (fault : ElfFault) → (P → Q) → Because stop fault P → Because stop fault Q
because (Bad found) fault so why = (why.0, so why.1)
because Memory fault so why = why

-- ---- lists that were read

-- hooks, and what stands behind them
pub record HooksRead (bytes : List ℕ) (hooks : List HookAt) (rest : List ℕ) : Type 0 where
  pub fit : Fitting (counted hook_words hooks)
  pub there : Lists hook_words hooks (drop 24 bytes) rest

pub record SitesRead (bytes : List ℕ) (hooks : List HookAt) (sites : List SiteAct) (rest : List ℕ) : Type 0 where
  pub here : List ℕ
  pub before : HooksRead bytes hooks here
  pub fit : Fitting (counted site_words sites)
  pub there : Lists site_words sites here rest

pub record SinksRead (bytes : List ℕ) (hooks : List HookAt) (sites : List SiteAct) (sinks : List ℕ) (rest : List ℕ) : Type 0 where
  pub here : List ℕ
  pub before : SitesRead bytes hooks sites here
  pub fit : Fitting (counted sink_words sinks)
  pub there : Lists sink_words sinks here rest

pub record PlanRead (bytes : List ℕ) (hooks : List HookAt) (plan : Plan) (rest : List ℕ) : Type 0 where
  pub here : List ℕ
  pub before : SinksRead bytes hooks plan.sites plan.sinks here
  pub fit : Fitting (counted skip_words plan.skips)
  pub there : Lists skip_words plan.skips here rest

-- one behind the other
pub plan_read : (note : List ℕ) (hooks : List HookAt) (plan : Plan) (a b c d : ℕ)
    → Fitting (counted hook_words hooks) → Lists hook_words hooks (drop 24 note) (drop a note)
    → Fitting (counted site_words plan.sites) → Lists site_words plan.sites (drop a note) (drop b note)
    → Fitting (counted sink_words plan.sinks) → Lists sink_words plan.sinks (drop b note) (drop c note)
    → Fitting (counted skip_words plan.skips) → Lists skip_words plan.skips (drop c note) (drop d note) → PlanRead note hooks plan (drop d note)
plan_read note hooks plan a b c d hooks_fit hooks_there sites_fit sites_there sinks_fit sinks_there skips_fit skips_there =
    let one : HooksRead note hooks (drop a note) = record { fit = hooks_fit; there = hooks_there } in
    let two : SitesRead note hooks plan.sites (drop b note) = record { here = drop a note; before = one; fit = sites_fit; there = sites_there } in
    let three : SinksRead note hooks plan.sites plan.sinks (drop c note) = record { here = drop b note; before = two; fit = sinks_fit; there = sinks_there } in
    record { here = drop c note; before = three; fit = skips_fit; there = skips_there }

-- ---- they are those of the file

hooks_of_file : (bytes rest : List ℕ) (hooks : List HookAt) → HooksRead bytes hooks rest → (file : File) (is : IsFile file) → bytes ≡ note file
    → (hooks ≡ file.image.hooks) × (rest ≡ (four_of_file file is).behind_hooks)
hooks_of_file bytes rest hooks read file is same = hooks_are bytes rest hooks file is same read.fit read.there

sites_of_file : (bytes rest : List ℕ) (hooks : List HookAt) (sites : List SiteAct) → SitesRead bytes hooks sites rest → (file : File) (is : IsFile file)
    → bytes ≡ note file → (sites ≡ file.plan.sites) × (rest ≡ (four_of_file file is).behind_sites)
sites_of_file bytes rest hooks sites read file is same =
    sites_are read.here rest sites file is (hooks_of_file bytes read.here hooks read.before file is same).1 read.fit read.there

sinks_of_file : (bytes rest : List ℕ) (hooks : List HookAt) (sites : List SiteAct) (sinks : List ℕ) → SinksRead bytes hooks sites sinks rest
    → (file : File) (is : IsFile file) → bytes ≡ note file → (sinks ≡ file.plan.sinks) × (rest ≡ (four_of_file file is).behind_sinks)
sinks_of_file bytes rest hooks sites sinks read file is same =
    sinks_are read.here rest sinks file is (sites_of_file bytes read.here hooks sites read.before file is same).1 read.fit read.there

skips_of_file : (bytes rest : List ℕ) (hooks : List HookAt) (plan : Plan) → PlanRead bytes hooks plan rest → (file : File) (is : IsFile file)
    → bytes ≡ note file → (plan.skips ≡ file.plan.skips) × (rest ≡ [])
skips_of_file bytes rest hooks plan read file is same =
    skips_are read.here rest plan.skips file is (sinks_of_file bytes read.here hooks plan.sites plan.sinks read.before file is same).1 read.fit read.there

-- ---- where the reader stops

pub sites_missed : (size : ℕ) (bytes rest : List ℕ) (hooks : List HookAt) → HooksRead bytes hooks rest → ListsNone site_words rest → SaysNone size bytes
sites_missed size bytes rest hooks read none file is size_is same =
    let four : Four (drop 24 (note file)) file.image.hooks file.plan = four_of_file file is in
    let behind : rest ≡ four.behind_hooks = (hooks_of_file bytes rest hooks read file is same).1 in
    none file.plan.sites four.behind_sites (lists_fit file is).sites_fit.0 (behind ∙ four.sites_there)

pub sinks_missed : (size : ℕ) (bytes rest : List ℕ) (hooks : List HookAt) (sites : List SiteAct) → SitesRead bytes hooks sites rest → ListsNone sink_words rest
    → SaysNone size bytes
sinks_missed size bytes rest hooks sites read none file is size_is same =
    let four : Four (drop 24 (note file)) file.image.hooks file.plan = four_of_file file is in
    let behind : rest ≡ four.behind_sites = (sites_of_file bytes rest hooks sites read file is same).1 in
    none file.plan.sinks four.behind_sinks (lists_fit file is).sinks_fit.0 (behind ∙ four.sinks_there)

pub skips_missed : (size : ℕ) (bytes rest : List ℕ) (hooks : List HookAt) (sites : List SiteAct) (sinks : List ℕ) → SinksRead bytes hooks sites sinks rest
    → ListsNone skip_words rest → SaysNone size bytes
skips_missed size bytes rest hooks sites sinks read none file is size_is same =
    let four : Four (drop 24 (note file)) file.image.hooks file.plan = four_of_file file is in
    let behind : rest ≡ four.behind_sinks = (sinks_of_file bytes rest hooks sites sinks read file is same).1 in
    none file.plan.skips [] (lists_fit file is).skips_fit.0 (behind ∙ four.skips_there)

-- bytes behind the last list
pub more_behind : (size end : ℕ) (bytes : List ℕ) (hooks : List HookAt) (plan : Plan) → PlanRead bytes hooks plan (drop end bytes) → end ≤ length bytes
    → (end ≡ length bytes → ⊥) → SaysNone size bytes
more_behind size end bytes hooks plan read within more file is size_is same =
    let nothing : drop end bytes ≡ [] = (skips_of_file bytes (drop end bytes) hooks plan read file is same).1 in
    more (omega (arith, within, ap length nothing, length-drop end bytes))

-- lists that aren't in order
true_false : true ≡ false → ⊥
true_false e = cc

pub hooks_amiss : (size : ℕ) (bytes rest : List ℕ) (hooks : List HookAt) → HooksRead bytes hooks rest → stand size code_at hooks ≡ false → SaysNone size bytes
hooks_amiss size bytes rest hooks read amiss file is size_is same =
    let hooks_is = (hooks_of_file bytes rest hooks read file is same).0 in
    let stands : HooksStand size code_at file.image.hooks = subst (λ k. HooksStand k code_at file.image.hooks) size_is is.image.hooks_stand in
    true_false (sym (ap (stand size code_at) hooks_is ∙ stand_tests size code_at file.image.hooks stands) ∙ amiss)

pub sites_amiss : (size : ℕ) (bytes rest : List ℕ) (hooks : List HookAt) (sites : List SiteAct) → SitesRead bytes hooks sites rest
    → rises site_before None sites ≡ false → SaysNone size bytes
sites_amiss size bytes rest hooks sites read amiss file is size_is same =
    let sites_is = (sites_of_file bytes rest hooks sites read file is same).0 in
    true_false (sym (ap (rises site_before None) sites_is ∙ sites_tests file.plan.sites is.sites) ∙ amiss)

pub sinks_amiss : (size : ℕ) (bytes rest : List ℕ) (hooks : List HookAt) (sites : List SiteAct) (sinks : List ℕ) → SinksRead bytes hooks sites sinks rest
    → rises ltb None sinks ≡ false → SaysNone size bytes
sinks_amiss size bytes rest hooks sites sinks read amiss file is size_is same =
    let sinks_is = (sinks_of_file bytes rest hooks sites sinks read file is same).0 in
    true_false (sym (ap (rises ltb None) sinks_is ∙ sinks_tests file.plan.sinks is.sinks) ∙ amiss)

pub skips_amiss : (size : ℕ) (bytes rest : List ℕ) (hooks : List HookAt) (plan : Plan) → PlanRead bytes hooks plan rest
    → rises skip_before None plan.skips ≡ false → SaysNone size bytes
skips_amiss size bytes rest hooks plan read amiss file is size_is same =
    let skips_is = (skips_of_file bytes rest hooks plan read file is same).0 in
    true_false (sym (ap (rises skip_before None) skips_is ∙ skips_tests file.plan.skips is.skips) ∙ amiss)

-- ---- where the reader ends

no_length : (xs : List ℕ) → length xs ≡ 0 → xs ≡ []
no_length [] e = refl
no_length (x ∷ xs) e = absurd (omega (arith, e))

pub nothing_left : (end : ℕ) (bytes : List ℕ) → end ≡ length bytes → drop end bytes ≡ []
nothing_left end bytes all = no_length (drop end bytes) (omega (arith, all, length-drop end bytes))

pub note_says : (size : ℕ) (bytes rest : List ℕ) (hooks : List HookAt) (plan : Plan) → 24 ≤ length bytes → take 24 bytes ≡ note_front (length bytes)
    → PlanRead bytes hooks plan rest → rest ≡ [] → stand size code_at hooks ≡ true → rises site_before None plan.sites ≡ true
    → rises ltb None plan.sinks ≡ true → rises skip_before None plan.skips ≡ true → SaysNote size bytes hooks plan
note_says size bytes rest hooks plan long front read nothing hooks_stand sites_rise sinks_rise skips_rise =
    let sinks = read.before in
    let sites = sinks.before in
    let found = sites.before in
    let four : Four (drop 24 bytes) hooks plan = record {
      behind_hooks = sites.here;
      behind_sites = sinks.here;
      behind_sinks = read.here;
      hooks_there = found.there;
      sites_there = sites.there;
      sinks_there = sinks.there;
      skips_there = subst (λ r. Lists skip_words plan.skips read.here r) nothing read.there;
    } in
    let all = counted hook_words hooks ++ (counted site_words plan.sites ++ (counted sink_words plan.sinks ++ counted skip_words plan.skips)) in
    let fits : Fitting all = both_fit (counted hook_words hooks) _ found.fit
    (both_fit (counted site_words plan.sites) _ sites.fit (both_fit (counted sink_words plan.sinks) _ sinks.fit read.fit)) in
    record {
      spelled = note_by_front all bytes long front (words_of_four (drop 24 bytes) hooks plan four);
      stand = stand_by size code_at hooks hooks_stand;
      sites = sites_by plan.sites sites_rise;
      sinks = sinks_by plan.sinks sinks_rise;
      skips = skips_by plan.skips skips_rise;
      words = (omega arith, fits);
    }
