-- Operands: where a line takes them from, and that their places are looked up behind the last one.
use Rattle.std.proofs.Common.{◌≡◌, ℕ, suc, ◌+◌, ◌<◌, ◌≤◌, Bool, true, false, List, [], ◌∷◌, length, Some, refl, sym, ap, ◌∙◌, subst, arith}
use Rattle.std.specs.Prelude.{option_map, ◌&&◌}
use Rattle.nim_types.specs.Types.{Ty, Facts}
use Rattle.nim_program.specs.declared.operation.Use.{Use}
use Rattle.nim_program.specs.declared.program.Mode.{Mode}
use Rattle.nim_program.specs.Program.{Act, Doing, Building, Giving, Calling, Expr, Path, Args, NoArg, ByValue, ByPath}
use Rattle.nim_meaning.specs.Values.{Value, Location, Operand, Given, At as AtPlace}
use Rattle.nim_meaning.specs.State.{State}
use Rattle.nim_meaning.specs.Here.{Here}
use Rattle.nim_meaning.specs.Aims.{Aim, Ready, Evaluated, Aimed, settle, standing, is_lent_literal, handed_over}
use Rattle.flat_code.specs.declared.line.From.{From}
use Rattle.flat_code.specs.declared.line.From.TheVariants as F
use Rattle.flat_code.specs.declared.line.Line.{Line}
use Rattle.flat_code.specs.Scene.{Temps, location_at, Did}
use Rattle.flat_code.specs.Lines.{using, using_all, fetch}
use Rattle.flattening.specs.Numbering.{width, width_at, widths}
use Rattle.flattening.specs.ExprLines.{is_call, from_of, froms, find_lines, settle_lines}
use Rattle.flattening.specs.Flattened.{modes_of}
use Rattle.flattening.specs.Formed.{Scope, AllFormed, count}
use Rattle.flattening.proofs.Runs.{Runs}
use Rattle.flattening.proofs.Worlds.{since_none, since_then}
use Rattle.flattening.proofs.Temps.{Kept, kept_none, kept_then, kept_wide, place_before}
use Rattle.flattening.proofs.Spots.{Spot, here_of, there, Lands, after, answers, further}
use Rattle.flattening.proofs.Standing.{grounded, Stands, stands_since}
use Rattle.flattening.proofs.Paths.{Leads, leads_now, leads_later, Aims, aims_kept, find_follows}
use Rattle.flattening.proofs.Acting.{given_to, Takes}
use Rattle.flattening.proofs.Widths.{some_width_at}

-- ---- where an operand is

-- an operand is where a line takes it from, in a temporary of its part
abbrev pub IsAt : (lo hi : ℕ) → From → Operand → Temps → Type 0
IsAt lo hi (F.Value t) x now = (v : Value) × (x ≡ Given v) × (now.values t ≡ Some v) × (lo ≤ t) × (t < hi)
IsAt lo hi (F.Place t) x now = (l : Location) × (x ≡ AtPlace l) × Leads lo hi t l now × (lo ≤ t) × (t < hi)

-- as long as its part's temporaries stay
pub is_at_later : (lo hi : ℕ) (from : From) (x : Operand) (now later : Temps) → ((i : ℕ) → lo ≤ i → i < hi → later.values i ≡ now.values i) →
    ((i : ℕ) → lo ≤ i → i < hi → later.places i ≡ now.places i) → IsAt lo hi from x now → IsAt lo hi from x later
is_at_later lo hi (F.Value t) x now later values places h = (h.0, h.1, values t h.3 h.4 ∙ h.2, h.3, h.4)
is_at_later lo hi (F.Place t) x now later values places h = (h.0, h.1, leads_later later (places t h.3 h.4) values h.2, h.3, h.4)

fetch_is : (lo hi : ℕ) (from : From) (x : Operand) (now : Temps) → IsAt lo hi from x now → fetch now from ≡ Some x
fetch_is lo hi (F.Value t) x now h = ap (option_map Given) h.2 ∙ ap (λ x. Some x) (sym h.1)
fetch_is lo hi (F.Place t) x now h =
    ap (option_map (λ place. AtPlace (location_at now place))) h.2.is ∙ (ap (λ l. Some (AtPlace l)) (leads_now h.2) ∙ ap (λ x. Some x) (sym h.1))

place_behind : {lo hi : ℕ} {old now : Temps} (i : ℕ) → hi ≤ i → Kept lo hi old now → now.places i ≡ old.places i
place_behind {lo} {hi} i less k = k.places i (λ le. less)

module _ (c : Spot) (top : Bool) (room : ℕ → Type 0) (names : (proc place : ℕ) → Type 0) (Open : Scope) where
  abbrev facts : Facts
  facts = c.fixed.program.facts

  abbrev types : List Ty
  types = c.fixed.program.types

  abbrev modes : (proc position : ℕ) → Mode
  modes = modes_of c.fixed.program c.fixed.plan

  abbrev here : Here
  here = here_of c

  abbrev AimsAt : Path → (t : ℕ) → Aim → Temps → Type 0
  AimsAt = Aims c top room names Open

  -- the literal text that is lent to a call has a location in flat code already
  abbrev pub lent_as : Act → Use → Expr → Operand → Operand
  lent_as act how value x = standing (is_call facts act && is_lent_literal facts how value) x

  abbrev pub Readies : Act → Args → (uses : ℕ → Use) → (i t : ℕ) → List Ready → Temps → Type 0
  Readies act NoArg uses i t ready now = ready ≡ []
  Readies act (ByValue value rest) uses i t ready now =
      (x : Operand) × (r : List Ready) × (ready ≡ Evaluated x ∷ r)
      × IsAt t (t + width value) (from_of facts act (uses i) value t) (lent_as act (uses i) value x) now
      × Readies act rest uses (suc i) (t + width value) r now
  Readies act (ByPath path rest) uses i t ready now =
      (aim : Aim) × (r : List Ready) × (ready ≡ Aimed aim ∷ r) × AimsAt path t aim now × Readies act rest uses (suc i) (t + width_at path) r now

  pub readies_later : (act : Act) (args : Args) (uses : ℕ → Use) (i t : ℕ) (ready : List Ready) (now later : Temps) →
      ((j : ℕ) → t ≤ j → later.values j ≡ now.values j) → ((j : ℕ) → t ≤ j → later.places j ≡ now.places j) →
      Readies act args uses i t ready now → Readies act args uses i t ready later
  readies_later act NoArg uses i t ready now later values places r = r
  readies_later act (ByValue value rest) uses i t ready now later values places r = (
    r.0,
    r.1,
    r.2,
    is_at_later t (t + width value) (from_of facts act (uses i) value t) (lent_as act (uses i) value r.0) now later (λ j le less. values j le)
        (λ j le less. places j le) r.3,
    readies_later act rest uses (suc i) (t + width value) r.1 now later (λ j le. values j (omega (arith, le))) (λ j le. places j (omega (arith, le))) r.4,
  )
  readies_later act (ByPath path rest) uses i t ready now later values places r = (
    r.0,
    r.1,
    r.2,
    aims_kept c top room names Open path t r.0 now later (λ j le less. values j le) r.3,
    readies_later act rest uses (suc i) (t + width_at path) r.1 now later (λ j le. values j (omega (arith, le))) (λ j le. places j (omega (arith, le))) r.4,
  )

  -- ---- their places are looked up

  abbrev given_from : Act → Args → (uses : ℕ → Use) → (i : ℕ) → List Operand → List Operand
  given_from act (ByValue value rest) uses i (x ∷ xs) = lent_as act (uses i) value x ∷ given_from act rest uses (suc i) xs
  given_from act (ByPath path rest) uses i (x ∷ xs) = x ∷ given_from act rest uses (suc i) xs
  given_from act args uses i xs = xs

  record Settled (act : Act) (args : Args) (uses : ℕ → Use) (i t : ℕ) (temps : Temps) (xs : List Operand) (now : Temps) : Type 0 where
    fetched : (go : List Operand → Did) → using_all now (froms facts act args uses i t) go ≡ go (given_from act args uses i xs)
    many : length xs ≡ count args
    values : (j : ℕ) → now.values j ≡ temps.values j

  settles : (act : Act) (args : Args) → AllFormed (grounded c top room names) Open args → (uses : ℕ → Use) (i t : ℕ) (k : List Line) (temps : Temps)
      (ready : List Ready) → Readies act args uses i t ready temps → (s : State) → Stands c room Open s.world →
      Runs c.fixed (Lands c k t (t + widths args) temps s.world (Settled act args uses i t temps)) 0 0
      (there c (settle_lines types facts args t k) temps s.world) s.meter (settle ready s)
  settles act NoArg f uses i t k temps ready r s h =
      subst (λ x. Runs c.fixed (Lands c k t (t + 0) temps s.world (Settled act NoArg uses i t temps)) 0 0 (there c k temps s.world) s.meter
      (settle x s)) (sym r)
      (answers [] s temps (omega arith) (record { fetched = λ go. refl; many = refl; values = λ j. refl }) (kept_none t (t + 0) temps)
      (since_none c.level s.world))
  settles act (ByValue value rest) f uses i t k temps ready r s h =
      let u = t + width value in
      let hi = t + widths (ByValue value rest) in
      let from = from_of facts act (uses i) value t in
      let y = lent_as act (uses i) value r.0 in
      subst (λ x. Runs c.fixed (Lands c k t hi temps s.world (Settled act (ByValue value rest) uses i t temps)) 0 0
      (there c (settle_lines types facts rest u k) temps s.world) s.meter (settle x s)) (sym r.2)
      (after 0 (omega arith) (omega arith) (settles act rest f.1 uses (suc i) u k temps r.1 r.4 s h)
      (λ xs b now settled kept since.
      answers (r.0 ∷ xs) b now (omega arith)
      (record {
        fetched = λ go.
            ap (λ o. using o (λ y. using_all now (froms facts act rest uses (suc i) u) (λ ys. go (y ∷ ys))))
            (fetch_is t u from y now (is_at_later t u from y temps now (λ j le less. settled.values j) (λ j le less. place_before j less kept) r.3))
            ∙ settled.fetched (λ ys. go (y ∷ ys));
        many = ap (λ n. suc n) settled.many;
        values = settled.values;
      })
      (kept_wide (omega arith) (omega arith) kept) since))
  settles act (ByPath path rest) f uses i t k temps ready r s h =
      let u = t + width_at path in
      let hi = t + widths (ByPath path rest) in
      let w = some_width_at path in
      let more = settle_lines types facts rest u k in
      subst (λ x. Runs c.fixed (Lands c k t hi temps s.world (Settled act (ByPath path rest) uses i t temps)) 0 0
      (there c (find_lines types facts path t more) temps s.world) s.meter (settle x s)) (sym r.2)
      (after 0 (omega arith) (omega arith) (find_follows c top room names Open path f.0 t more temps r.0 r.3 s h)
      (λ l b now looked kept since.
      after 0 (omega arith) (omega arith)
      (settles act rest f.1 uses (suc i) u k now r.1
      (readies_later act rest uses (suc i) u r.1 temps now (λ j le. looked.values j) (λ j le. place_behind j le kept) r.4) b (stands_since h since))
      (λ xs d last settled kept2 since2.
      answers (AtPlace l ∷ xs) d last (omega arith)
      (record {
        fetched = λ go.
            ap (λ o. using o (λ y. using_all last (froms facts act rest uses (suc i) u) (λ ys. go (y ∷ ys))))
            (fetch_is t u (F.Place t) (AtPlace l) last
            (l, refl, leads_later last (place_before t (omega (arith, w)) kept2) (λ j le less. settled.values j) looked.leads, omega arith, omega (arith, w)))
            ∙ settled.fetched (λ ys. go (AtPlace l ∷ ys));
        many = ap (λ n. suc n) settled.many;
        values = λ j. settled.values j ∙ looked.values j;
      })
      (kept_then (kept_wide (omega arith) (omega arith) kept) (kept_wide (omega arith) (omega arith) kept2)) (since_then since since2))))

  -- literals of calls are those that the meaning hands over
  given_as : (act : Act) (args : Args) (uses : ℕ → Use) (i : ℕ) (xs : List Operand) → is_call facts act ≡ false → given_from act args uses i xs ≡ xs
  given_as act NoArg uses i xs e = refl
  given_as act (ByValue value rest) uses i [] e = refl
  given_as act (ByValue value rest) uses i (x ∷ xs) e =
      ap (λ b. standing (b && is_lent_literal facts (uses i) value) x ∷ given_from act rest uses (suc i) xs) e
      ∙ ap (λ ys. x ∷ ys) (given_as act rest uses (suc i) xs e)
  given_as act (ByPath path rest) uses i [] e = refl
  given_as act (ByPath path rest) uses i (x ∷ xs) e = ap (λ ys. x ∷ ys) (given_as act rest uses (suc i) xs e)

  handed_as : (act : Act) (args : Args) (uses : ℕ → Use) (i : ℕ) (xs : List Operand) → is_call facts act ≡ true →
      given_from act args uses i xs ≡ handed_over facts args uses i xs
  handed_as act NoArg uses i xs e = refl
  handed_as act (ByValue value rest) uses i [] e = refl
  handed_as act (ByValue value rest) uses i (x ∷ xs) e =
      ap (λ b. standing (b && is_lent_literal facts (uses i) value) x ∷ given_from act rest uses (suc i) xs) e
      ∙ ap (λ ys. standing (is_lent_literal facts (uses i) value) x ∷ ys) (handed_as act rest uses (suc i) xs e)
  handed_as act (ByPath path rest) uses i [] e = refl
  handed_as act (ByPath path rest) uses i (x ∷ xs) e = ap (λ ys. x ∷ ys) (handed_as act rest uses (suc i) xs e)

  given_is : (act : Act) (args : Args) (uses : ℕ → Use) (xs : List Operand) → given_from act args uses 0 xs ≡ given_to c top room names Open act args uses xs
  given_is (Doing operation) args uses xs = given_as (Doing operation) args uses 0 xs refl
  given_is (Building fields) args uses xs = given_as (Building fields) args uses 0 xs refl
  given_is (Giving literal) args uses xs = given_as (Giving literal) args uses 0 xs refl
  given_is (Calling proc of_params) args uses xs = handed_as (Calling proc of_params) args uses 0 xs refl

  pub settle_follows : (act : Act) (args : Args) → AllFormed (grounded c top room names) Open args → (uses : ℕ → Use) (t : ℕ) (k : List Line) (temps : Temps)
      (ready : List Ready) → Readies act args uses 0 t ready temps → (s : State) → Stands c room Open s.world →
      Runs c.fixed (Lands c k t (t + widths args) temps s.world (λ xs now. Takes c top room names Open act args uses t xs now)) 0 0
      (there c (settle_lines types facts args t k) temps s.world) s.meter (settle ready s)
  settle_follows act args f uses t k temps ready r s h =
      further {lo' = t} {hi' = t + widths args} (omega arith) (omega arith) (kept_none t (t + widths args) temps) (since_none c.level s.world)
      (λ xs now settled kept. record { fetched = λ go. settled.fetched go ∙ ap go (given_is act args uses xs); many = settled.many })
      (settles act args f uses 0 t k temps ready r s h)
