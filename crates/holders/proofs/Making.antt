-- What operations make, by what it is for.
use Rattle.std.proofs.Common.{◌≡◌, refl, sym, subst, ℕ, true, List, [], ◌++◌}
use Rattle.nim_types.specs.Forms.{Form, block}
use Rattle.nim_program.specs.declared.operation.Use.{Use}
use Rattle.nim_program.specs.declared.operation.Use.TheVariants.{Owned, Given, Held, Lent, Looked}
use Rattle.nim_meaning.specs.Values.{Value, Number, Parts, Handle, Fixed, Ref, Resource, Gone, Vacant, Waiting}
use Rattle.nim_meaning.specs.State.{World}
use Rattle.nim_meaning.specs.Deeds as deeds
use Rattle.nim_meaning.specs.Deeds.{Deed}
use Rattle.nim_meaning.specs.Lifted.{fresh_text}
use Rattle.nim_meaning.specs.Places.{Destination, kept, kept_for, made_by}
use Rattle.holders.specs.Owned.{Full, Has, constant_text, of_wrapped}
use Rattle.holders.specs.Sure.{Sure}
use Rattle.holders.specs.Territory.{Owner, NoBaseOf}
use Rattle.holders.specs.Handing.{HandsOut}
use Rattle.holders.specs.Running.{Region}
use Rattle.holders.specs.Staging.{Stage, Holding}
use Rattle.holders.specs.Used.{Made, Literal, used_as}
use Rattle.holders.proofs.Sure.{sure_then, sure_weaker}
use Rattle.holders.proofs.Rows.{text_comes}
use Rattle.holders.proofs.Staging.{stage_hands, no_given}
use Rattle.holders.proofs.Reading.{waits_there}

-- a value that somebody has is no literal
not_fixed : {world : World} {f : Form} {t bs : List ℕ} → Has world Full f (Fixed t) bs → ⊥
not_fixed (of_wrapped h) = not_fixed h

kept_is : (to : Destination) (v : Value) → ((t : List ℕ) → v ≡ Fixed t → ⊥) → made_by true to v ≡ kept to v
kept_is to (Number z) apart = refl
kept_is to (Parts all) apart = refl
kept_is to (Handle n b) apart = refl
kept_is to (Fixed t) apart = absurd (apart t refl)
kept_is to (Ref o) apart = refl
kept_is to (Resource all i) apart = refl
kept_is to (Gone v b) apart = refl
kept_is to Vacant apart = refl

module _ (r : Region) (ms gs : List Owner) (first places : ℕ) (nodes old : List ℕ) (start : World) where
  abbrev Holding_so : Form → Value → World → Type 0
  Holding_so f v now = Holding f v r ms gs first places nodes old start now

  abbrev Made_so : Use → Form → ℕ → Value → World → Type 0
  Made_so how f node v now = Made how f node r ms gs first places nodes old start v now

  pub kept_so : {f : Form} {v : Value} {now : World} (how : Use) (node : ℕ) → r.nodes node ≡ true → NoBaseOf (Waiting r.level node) (ms ++ gs) →
      Holding_so f v now → Sure (kept_for how r.level node v) (Made_so how f node) now
  kept_so Owned node mine off h = h
  kept_so Given node mine off h = h
  kept_so Held node mine off h = waits_there r ms gs first places nodes old start node mine off h
  kept_so Lent node mine off h = waits_there r ms gs first places nodes old start node mine off h
  kept_so Looked node mine off h = waits_there r ms gs first places nodes old start node mine off h

  pub made_so : {f : Form} {v : Value} {now : World} (how : Use) (node : ℕ) → r.nodes node ≡ true → NoBaseOf (Waiting r.level node) (ms ++ gs) →
      Holding_so f v now → Sure (made_by true (record { how = how; level = r.level; node = node }) v) (Made_so how f node) now
  made_so {f} {v} {now} how node mine off h =
      subst (λ deed. Sure deed (Made_so how f node) now)
      (sym (kept_is (record { how = how; level = r.level; node = node }) v (λ t e. not_fixed (subst (λ x. Has now Full f x h.under.given) e h.under.has))))
      (kept_so how node mine off h)

  pub row_so : (f : Form) (now : World) (how : Use) (node : ℕ) (deed : Deed Value) → r.nodes node ≡ true → NoBaseOf (Waiting r.level node) (ms ++ gs) →
      Sure deed (Holding_so f) now → Sure (used_as how r.level node deed) (Made_so how f node) now
  row_so f now how node deed mine off h =
      sure_then deed (kept (record { how = how; level = r.level; node = node })) (Holding_so f) (Made_so how f node) now h
      (λ v after g. kept_so how node mine off g)

  -- a copy of a literal
  pub copy_so : (f : Form) (now : World) (how : Use) (node : ℕ) (deed : Deed Value) → r.nodes node ≡ true → NoBaseOf (Waiting r.level node) (ms ++ gs) →
      Sure deed (Holding_so f) now → Sure (deeds.◌>>=◌ deed (made_by true (record { how = how; level = r.level; node = node }))) (Made_so how f node) now
  copy_so f now how node deed mine off h =
      sure_then deed (made_by true (record { how = how; level = r.level; node = node })) (Holding_so f) (Made_so how f node) now h
      (λ v after g. made_so how node mine off g)

  text_so : {now : World} (t : List ℕ) → Stage r ms gs first places nodes old start now → Sure (fresh_text t) (Holding_so block) now
  text_so {now} t s =
      sure_weaker (fresh_text t) (HandsOut block (ms ++ gs) [] s.runs.territory.blocks now) (Holding_so block) now (text_comes s.runs.territory t)
      (λ v after h. stage_hands r gs first places old start s (no_given r gs first places old start) h)

  fresh_so : {now : World} (t : List ℕ) (how : Use) (node : ℕ) → r.nodes node ≡ true → NoBaseOf (Waiting r.level node) (ms ++ gs) →
      Stage r ms gs first places nodes old start now →
      Sure (deeds.◌>>=◌ (fresh_text t) (kept_for how r.level node)) (Made_so how block node) now
  fresh_so {now} t how node mine off s =
      sure_then (fresh_text t) (kept_for how r.level node) (Holding_so block) (Made_so how block node) now (text_so t s)
      (λ v after h. kept_so how node mine off h)

  pub literal_so : {now : World} (t : List ℕ) (how : Use) (node : ℕ) → r.nodes node ≡ true → NoBaseOf (Waiting r.level node) (ms ++ gs) →
      Stage r ms gs first places nodes old start now →
      Sure (made_by true (record { how = how; level = r.level; node = node }) (Fixed t))
      (Literal how block node r ms gs first places nodes old start) now
  literal_so t Lent node mine off s = record { stage = s; blocks = []; has = constant_text }
  literal_so t Looked node mine off s = record { stage = s; blocks = []; has = constant_text }
  literal_so t Owned node mine off s = fresh_so t Owned node mine off s
  literal_so t Given node mine off s = fresh_so t Given node mine off s
  literal_so t Held node mine off s = fresh_so t Held node mine off s
