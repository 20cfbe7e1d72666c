-- The hooks of users in an image: its table has them in order, and the machine arrives at one where label code comes to its label.
use Rattle.std.proofs.Common.{◌≡◌, ◌≢◌, ℕ, ◌+◌, ◌<◌, ◌≤◌, ◌⊎◌, inl, inr, List, [], ◌∷◌, ◌++◌, true}
use Rattle.std.proofs.Common.{false, Option, Some, None}
use Rattle.std.proofs.Common.{refl, sym, ap, subst, ◌∙◌, arith}
use Rattle.std.specs.Prelude.{nat_lt, ◌==◌, if◌then◌else◌}
use Rattle.std.proofs.lemmas.Bool.{eq-eqb, ne_eqb, and_parts, cond-true, cond-false, ltb-true, true≢false}
use Rattle.arc_base.specs.Event.{Event, Hook}
use Rattle.rv32_isa.specs.declared.image.HookAt.{HookAt}
use Rattle.rv32_isa.specs.declared.label.HookLabel.{HookLabel}
use Rattle.rv32_isa.specs.declared.label.LabelLine.{LabelLine}
use Rattle.rv32_isa.specs.declared.label.LabelLine.TheVariants.{Label, Do, Jump, Branch}
use Rattle.rv32_isa.specs.Hooks.{HooksStand}
use Rattle.rv32_isa.specs.Machine.{arrival}
use Rattle.rv32_isa.specs.Labels.{is_instruction, begins, leads, hooks_lead}
use Rattle.rv32_isa.specs.LabelsMeaning.{hook_or, hook_at}
use Rattle.rv32_codegen.specs.Layout.{Far, size, laid_at, entry, hook_table}
use Rattle.rv32_codegen.proofs.LayoutSizes.{line_least, size_within, at_whole}

-- ---- where a step may come to: no label of a hook stands right before such lines, if they begin with an instruction

abbrev pub Lands : (before lines : List LabelLine) → Type 0
Lands [] lines = Unit {0}
Lands (line ∷ []) lines = (is_instruction line ≡ true) ⊎ (begins lines ≡ false)
Lands (line ∷ next ∷ before) lines = Lands (next ∷ before) lines

lands_next : (line : LabelLine) (before lines : List LabelLine) → Lands (line ∷ before) lines → Lands before lines
lands_next line [] lines h = tt
lands_next line (next ∷ before) lines h = h

-- behind an instruction
pub lands_behind : (before : List LabelLine) (line : LabelLine) (lines : List LabelLine) → is_instruction line ≡ true →
    Lands (before ++ line ∷ []) lines
lands_behind [] line lines e = inl e
lands_behind (x ∷ []) line lines e = inl e
lands_behind (x ∷ y ∷ before) line lines e = lands_behind (y ∷ before) line lines e

-- at a label
pub lands_at : (before lines : List LabelLine) → begins lines ≡ false → Lands before lines
lands_at [] lines e = tt
lands_at (x ∷ []) lines e = inr e
lands_at (x ∷ y ∷ before) lines e = lands_at (y ∷ before) lines e

module _ (far : Far) (whole : List LabelLine) where
  abbrev here : List LabelLine → ℕ
  here = laid_at far whole

  abbrev table : List LabelLine → List HookAt
  table = hook_table far whole

  begins_least : (lines : List LabelLine) → begins lines ≡ true → 4 ≤ size far lines
  begins_least [] e = absurd (true≢false (sym e))
  begins_least (line ∷ lines) e = let least = line_least (far (line ∷ lines)) line e in omega (arith, least)

  -- lines that begin with an instruction are longer than what is behind them
  longer : (before lines : List LabelLine) (x : LabelLine) → begins (x ∷ (before ++ lines)) ≡ true →
      size far lines < size far (x ∷ (before ++ lines))
  longer before lines x e =
      let least = line_least (far (x ∷ (before ++ lines))) x e in
      omega (arith, least, size_within far before lines)

  -- ---- arrivals

  -- an entry at another address
  passed : (o : Option HookLabel) (at to : ℕ) (others : List HookAt) → ((hook : HookLabel) → o ≡ Some hook → at ≢ to) →
      arrival (entry far whole o at others) to ≡ arrival others to
  passed None at to others h = refl
  passed (Some hook) at to others h = cond-false (at == to) (Hook hook.kind hook.of ∷ []) (arrival others to) (ne_eqb at to (h hook refl))

  -- hooks of lines are not before them
  not_before : (lines : List LabelLine) (to : ℕ) → size far lines ≤ size far whole → to < here lines → arrival (table lines) to ≡ []
  not_before [] to fit lt = refl
  not_before (Label name hook ∷ lines) to fit lt =
      passed hook (here (Label name hook ∷ lines)) to (table lines) (λ h e same. omega (arith, lt, same)) ∙
      not_before lines to (omega (arith, fit)) (omega (arith, lt))
  not_before (Do i ∷ lines) to fit lt = not_before lines to (omega (arith, fit)) (omega (arith, lt, fit))
  not_before (Jump rd name ∷ lines) to fit lt = not_before lines to (omega (arith, fit)) (omega (arith, lt, fit))
  not_before (Branch t a b name ∷ lines) to fit lt = not_before lines to (omega (arith, fit)) (omega (arith, lt, fit))

  -- behind an instruction
  behind_one : (line : LabelLine) (lines : List LabelLine) → is_instruction line ≡ true → size far (line ∷ lines) ≤ size far whole →
      arrival (table lines) (here (line ∷ lines)) ≡ []
  behind_one line lines e fit =
      let least = line_least (far (line ∷ lines)) line e in
      not_before lines (here (line ∷ lines)) (omega (arith, fit)) (omega (arith, fit, least))

  by_hook : (o : Option HookLabel) (at : ℕ) (others : List HookAt) (shown : List Event) → arrival others at ≡ shown →
      arrival (entry far whole o at others) at ≡ hook_or o shown
  by_hook None at others shown h = h
  by_hook (Some hook) at others shown h = cond-true (at == at) (Hook hook.kind hook.of ∷ []) (arrival others at) (eq-eqb at at refl)

  at_front : (lines : List LabelLine) → size far lines ≤ size far whole → arrival (table lines) (here lines) ≡ hook_at lines
  at_front [] fit = refl
  at_front (Label name hook ∷ lines) fit =
      let same : here lines ≡ here (Label name hook ∷ lines) = omega arith in
      let more = at_front lines (omega (arith, fit)) in
      by_hook hook (here (Label name hook ∷ lines)) (table lines) (hook_at lines) (ap (arrival (table lines)) (sym same) ∙ more)
  at_front (Do i ∷ lines) fit = behind_one (Do i) lines refl fit
  at_front (Jump rd name ∷ lines) fit = behind_one (Jump rd name) lines refl fit
  at_front (Branch t a b name ∷ lines) fit = behind_one (Branch t a b name) lines refl fit

  -- a hook has an instruction right behind it
  hook_begins : (hook : HookLabel) (lines : List LabelLine) → leads (Some hook) lines ≡ true → begins lines ≡ true
  hook_begins hook lines e = (and_parts (nat_lt hook.kind 4) (begins lines) e).1

  -- the label of a hook before lines is at another address
  not_here : (before lines : List LabelLine) (line : LabelLine) → Lands (line ∷ before) lines → is_instruction line ≡ false →
      begins (before ++ lines) ≡ true →
      size far (before ++ lines) ≤ size far whole → here (before ++ lines) ≢ here lines
  not_here [] lines line lands label starts fit same = elim lands [
    | inl e ↦ true≢false (sym e ∙ label)
    | inr e ↦ true≢false (sym starts ∙ e)
  ]
  not_here (x ∷ before) lines line lands label starts fit same = let more = longer before lines x starts in omega (arith, same, fit, more)

  pub arrives : (before lines : List LabelLine) → size far (before ++ lines) ≤ size far whole → hooks_lead (before ++ lines) ≡ true →
      Lands before lines →
      arrival (table (before ++ lines)) (here lines) ≡ hook_at lines
  arrives [] lines fit h lands = at_front lines fit
  arrives (Label name hook ∷ before) lines fit h lands =
      let p = and_parts (leads hook (before ++ lines)) (hooks_lead (before ++ lines)) h in
      let less : size far (before ++ lines) ≤ size far whole = omega (arith, fit) in
      let same : here (Label name hook ∷ (before ++ lines)) ≡ here (before ++ lines) = omega arith in
      passed hook (here (Label name hook ∷ (before ++ lines))) (here lines) (table (before ++ lines))
      (λ key e there. not_here before lines (Label name hook) lands refl
      (hook_begins key (before ++ lines) (ap (λ o. leads o (before ++ lines)) (sym e) ∙ p.0)) less (sym same ∙ there)) ∙
      arrives before lines less p.1 (lands_next (Label name hook) before lines lands)
  arrives (Do i ∷ before) lines fit h lands = arrives before lines (omega (arith, fit)) h (lands_next (Do i) before lines lands)
  arrives (Jump rd name ∷ before) lines fit h lands = arrives before lines (omega (arith, fit)) h (lands_next (Jump rd name) before lines lands)
  arrives (Branch t a b name ∷ before) lines fit h lands = arrives before lines (omega (arith, fit)) h (lands_next (Branch t a b name) before lines lands)

  -- between the instructions of a line
  instruction_table : (line : LabelLine) (lines : List LabelLine) → is_instruction line ≡ true → table (line ∷ lines) ≡ table lines
  instruction_table (Label name hook) lines e = absurd (true≢false (sym e))
  instruction_table (Do i) lines e = refl
  instruction_table (Jump rd name) lines e = refl
  instruction_table (Branch t a b name) lines e = refl

  pub quiet_inside : (before : List LabelLine) (line : LabelLine) (rest : List LabelLine) (to : ℕ) → is_instruction line ≡ true →
      size far (before ++ line ∷ rest) ≤ size far whole → here (line ∷ rest) < to → to < here rest →
      arrival (table (before ++ line ∷ rest)) to ≡ []
  quiet_inside [] line rest to e fit over under =
      ap (λ l. arrival l to) (instruction_table line rest e) ∙ not_before rest to (omega (arith, fit)) under
  quiet_inside (Label name hook ∷ before) line rest to e fit over under =
      let more = before ++ line ∷ rest in
      let within = size_within far before (line ∷ rest) in
      passed hook (here (Label name hook ∷ more)) to (table more) (λ key s same. omega (arith, same, over, within, fit)) ∙
      quiet_inside before line rest to e (omega (arith, fit)) over under
  quiet_inside (Do i ∷ before) line rest to e fit over under = quiet_inside before line rest to e (omega (arith, fit)) over under
  quiet_inside (Jump rd name ∷ before) line rest to e fit over under = quiet_inside before line rest to e (omega (arith, fit)) over under
  quiet_inside (Branch t a b name ∷ before) line rest to e fit over under = quiet_inside before line rest to e (omega (arith, fit)) over under

  -- ---- the table is in order

  -- how far behind the front of lines their first hook stands at least
  abbrev slack : List LabelLine → ℕ
  slack lines = if begins lines then 4 else 0

  slack_begins : (lines : List LabelLine) → begins lines ≡ true → slack lines ≡ 4
  slack_begins lines e = cond-true (begins lines) 4 0 e

  stand_hook : (o : Option HookLabel) (least : ℕ) (lines : List LabelLine) → leads o lines ≡ true → size far lines ≤ size far whole →
      least ≤ here lines →
      ((more : ℕ) → more ≤ here lines + slack lines → HooksStand (size far whole) more (table lines)) →
      HooksStand (size far whole) least (entry far whole o (here lines) (table lines))
  stand_hook None least lines e fit le h = h least (omega (arith, le))
  stand_hook (Some hook) least lines e fit le h =
      let p = and_parts (nat_lt hook.kind 4) (begins lines) e in
      let four = begins_least lines p.1 in
      let next = slack_begins lines p.1 in
      (le, (omega (arith, four, fit), (at_whole far whole lines, (ltb-true hook.kind 4 p.0, h (here lines + 1) (omega (arith, next))))))

  stand_behind : (line : LabelLine) (lines : List LabelLine) (least : ℕ) → is_instruction line ≡ true →
      size far (line ∷ lines) ≤ size far whole →
      least ≤ here (line ∷ lines) + 4 → least ≤ here lines + slack lines
  stand_behind line lines least e fit le =
      let four = line_least (far (line ∷ lines)) line e in
      omega (arith, le, fit, four)

  pub hooks_stand : (lines : List LabelLine) (least : ℕ) → size far lines ≤ size far whole → hooks_lead lines ≡ true →
      least ≤ here lines + slack lines →
      HooksStand (size far whole) least (table lines)
  hooks_stand [] least fit e le = tt
  hooks_stand (Label name hook ∷ lines) least fit e le =
      let p = and_parts (leads hook lines) (hooks_lead lines) e in
      let less : size far lines ≤ size far whole = omega (arith, fit) in
      let same : here lines ≡ here (Label name hook ∷ lines) = omega arith in
      let low : least ≤ here lines = omega (arith, le, same) in
      subst (λ at. HooksStand (size far whole) least (entry far whole hook at (table lines))) same
      (stand_hook hook least lines p.0 less low (λ more q. hooks_stand lines more less p.1 q))
  hooks_stand (Do i ∷ lines) least fit e le = hooks_stand lines least (omega (arith, fit)) e (stand_behind (Do i) lines least refl fit le)
  hooks_stand (Jump rd name ∷ lines) least fit e le = hooks_stand lines least (omega (arith, fit)) e (stand_behind (Jump rd name) lines least refl fit le)
  hooks_stand (Branch t a b name ∷ lines) least fit e le =
      hooks_stand lines least (omega (arith, fit)) e (stand_behind (Branch t a b name) lines least refl fit le)
