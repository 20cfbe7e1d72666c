-- Paths are read as their uses ask.
use Rattle.std.proofs.Common.{◌≡◌, refl, sym, subst, ℕ, Bool, true, false, List, [], ◌∷◌, ◌++◌, Option}
use Rattle.nim_types.specs.Types.{Ty}
use Rattle.nim_types.specs.Forms.{Form, plain, reference, block, elements, row, parts, resource, wrapped}
use Rattle.nim_plan.specs.declared.plan.Act.{Act}
use Rattle.nim_program.specs.Program.{Path, type_at, node_at}
use Rattle.nim_program.specs.declared.operation.Use.{Use}
use Rattle.nim_program.specs.declared.operation.Use.TheVariants.{Owned, Given, Held, Lent, Looked}
use Rattle.nim_meaning.specs.ActTree as points
use Rattle.nim_meaning.specs.Ways.{At as Spot}
use Rattle.nim_meaning.specs.Values.{Value, Holds, bytes, Waiting, Location}
use Rattle.nim_meaning.specs.State.{World, State}
use Rattle.nim_meaning.specs.Acts.{Exit, branch, with_trail}
use Rattle.nim_meaning.specs.Deeds as deeds
use Rattle.nim_meaning.specs.Deeds.{Waits, changed}
use Rattle.nim_meaning.specs.Lifted.{copied}
use Rattle.nim_meaning.specs.Here.{Here, gives_hooked, form_for, act_at}
use Rattle.nim_meaning.specs.Aims.{Aim, find}
use Rattle.nim_meaning.specs.Places.{fetched, looked, looked_as, taken_by}
use Rattle.nim_meaning.specs.Shapes.{has_node}
use Rattle.nim_meaning.specs.Steps.{at_node, at_path, got, got_by, destination}
use Rattle.holders.specs.Owned.{Constant, Has, of_wrapped}
use Rattle.holders.specs.Sure.{Sure, Comes}
use Rattle.holders.specs.Territory.{Owner, NoBaseOf}
use Rattle.holders.specs.Finding.{Read, Fetched, Found, AimsAt, steps_of}
use Rattle.holders.specs.Handing.{HandsOut}
use Rattle.holders.specs.Running.{Region}
use Rattle.holders.specs.Staging.{Stage, Holding}
use Rattle.holders.specs.Used.{ReadThere, WaitsThere, Used, read_by}
use Rattle.holders.proofs.ElementLists.{blank_instead}
use Rattle.holders.proofs.Guards.{sure_takes}
use Rattle.holders.proofs.Sure.{sure_then, sure_weaker}
use Rattle.holders.proofs.Finding.{finds}
use Rattle.holders.proofs.PlainRows.{read_found, fetches}
use Rattle.holders.proofs.Rows.{copies_out}
use Rattle.holders.proofs.FrameChanges.{value_waits}
use Rattle.holders.proofs.Staging.{stage_hands, stage_waits, no_given}
use Rattle.holders.proofs.Coming.{comes_answered, comes_carried, comes_then}

module _ (r : Region) (ms gs : List Owner) (first places : ℕ) (nodes old : List ℕ) (start : World) where
  abbrev Read_so : Form → Value → World → Type 0
  Read_so f v now = ReadThere f v r ms gs first places nodes old start now

  abbrev Holding_so : Form → Value → World → Type 0
  Holding_so f v now = Holding f v r ms gs first places nodes old start now

  abbrev Waits_so : Form → ℕ → Value → World → Type 0
  Waits_so f node v now = WaitsThere f node v r ms gs first places nodes old start now

  abbrev Used_so : Bool → Use → Form → ℕ → Value → World → Type 0
  Used_so hooked how f node v now = Used hooked how f node r ms gs first places nodes old start v now

  reads : {f : Form} {l : Location} {now : World} → Stage r ms gs first places nodes old start now → Read f l now → Sure (fetched l) (Read_so f) now
  reads {f} {l} {now} s source =
      sure_weaker (fetched l) (Fetched f now) (Read_so f) now (fetches source)
      (λ v after g. record {
        stage = subst (λ w. Stage r ms gs first places nodes old start w) (sym g.same) s;
        blocks = g.blocks;
        has = subst (λ w. Has w Constant f v g.blocks) (sym g.same) g.has;
      })

  -- what is looked at of it
  looked_has : {world : World} (f : Form) (v : Value) {bs : List ℕ} → Has world Constant f v bs → (cs : List ℕ) × Has world Constant f (looked_as f v) cs
  looked_has block v {bs} h = (bs, h)
  looked_has (wrapped f) v (of_wrapped h) = let q = looked_has f v h in (q.0, of_wrapped q.1)
  looked_has plain v h = ([], blank_instead h)
  looked_has reference v h = ([], blank_instead h)
  looked_has (elements f) v h = ([], blank_instead h)
  looked_has (row n f) v h = ([], blank_instead h)
  looked_has (parts fs) v h = ([], blank_instead h)
  looked_has (resource fs) v h = ([], blank_instead h)

  looks_at : {f : Form} {l : Location} {now : World} → Stage r ms gs first places nodes old start now → Read f l now → Sure (looked f l) (Read_so f) now
  looks_at {f} {l} {now} s source =
      let q = looked_has f source.value source.has in
      sure_takes (λ world v. deeds.costs (bytes v) (deeds.give (looked_as f v))) (Read_so f) source.from tt source.has
      (record { stage = s; blocks = q.0; has = q.1 })

  copies : {f : Form} {l : Location} {now : World} → Stage r ms gs first places nodes old start now → Read f l now → Sure (copied f l) (Holding_so f) now
  copies {f} {l} {now} s source =
      sure_weaker (copied f l) (HandsOut f (ms ++ gs) [] s.runs.territory.blocks now) (Holding_so f) now (copies_out s.runs.territory source)
      (λ v after h. stage_hands r gs first places old start s (no_given r gs first places old start) h)

  pub waits_there : {f : Form} {v : Value} {now : World} (node : ℕ) → r.nodes node ≡ true → NoBaseOf (Waiting r.level node) (ms ++ gs) → Holding_so f v now →
      Waits_so f node v (changed (Waits r.level node (Holds v)) now)
  waits_there {v = v} {now = now} node mine off h = record {
    stage = stage_waits r gs first places old start node mine h off;
    base = (value_waits now r.level first places node nodes (Holds v) h.stage.active).holds v refl;
  }

  held : {f : Form} {l : Location} {now : World} (node : ℕ) → r.nodes node ≡ true → NoBaseOf (Waiting r.level node) (ms ++ gs) →
      Stage r ms gs first places nodes old start now → Read f l now →
      Sure (deeds.◌>>=◌ (copied f l) (λ v. deeds.costs (bytes v) (deeds.◌>>◌ (deeds.does (Waits r.level node (Holds v))) (deeds.give v)))) (Waits_so f node) now
  held {f} {l} {now} node mine off s source =
      sure_then (copied f l) (λ v. deeds.costs (bytes v) (deeds.◌>>◌ (deeds.does (Waits r.level node (Holds v))) (deeds.give v))) (Holding_so f)
      (Waits_so f node) now
      (copies s source) (λ v after h. waits_there node mine off h)

  -- by its use
  pub taken : {f : Form} {l : Location} {now : World} (hooked : Bool) (how : Use) (node : ℕ) (act : Option Act) → r.nodes node ≡ true →
      NoBaseOf (Waiting r.level node) (ms ++ gs) → Stage r ms gs first places nodes old start now → Read f l now →
      Sure (taken_by hooked f (record { how = how; level = r.level; node = node }) act l) (Used_so hooked how f node) now
  taken false how node act mine off s source = reads s source
  taken true Looked node act mine off s source = looks_at s source
  taken {f} {l} {now} true Owned node act mine off s source =
      sure_then (copied f l) deeds.give (Holding_so f) (Holding_so f) now (copies s source) (λ v after h. h)
  taken {f} {l} {now} true Given node act mine off s source =
      sure_then (copied f l) deeds.give (Holding_so f) (Holding_so f) now (copies s source) (λ v after h. h)
  taken true Held node act mine off s source = held node mine off s source
  taken true Lent node act mine off s source = held node mine off s source

  pub got_comes : {l : Location} (here : Here) (how : Use) (node : ℕ) (ty : Option Ty) (X : Exit → World → Type 0) → here.level ≡ r.level → (s : State) →
      r.nodes node ≡ true → NoBaseOf (Waiting r.level node) (ms ++ gs) → Stage r ms gs first places nodes old start s.world →
      Read (form_for here.facts ty) l s.world →
      Comes (Used_so (gives_hooked here.facts ty) how (form_for here.facts ty) node) X (got here how node ty l s)
  got_comes {l} here how node ty X level_is s mine off h source =
      let f = form_for here.facts ty in
      let hooked = gives_hooked here.facts ty in
      comes_carried (Used_so hooked how f node) X (got_by here.facts here.plan (destination here how node) node ty l) s
      (subst (λ i. Sure (taken_by hooked f (record { how = how; level = i; node = node }) (act_at here.plan node) l) (Used_so hooked how f node) s.world)
      (sym level_is) (taken hooked how node (act_at here.plan node) mine off h source))

  -- behind its indexes
  pub path_comes : {may : Bool} {root : ℕ} {aim : Aim} (here : Here) (how : Use) (path : Path) (X : Exit → World → Type 0) → here.level ≡ r.level →
      (s : State) → r.nodes (node_at path).number ≡ true → NoBaseOf (Waiting r.level (node_at path).number) (ms ++ gs) →
      Stage r ms gs first places nodes old start s.world → AimsAt (ms ++ gs) s.world may root aim (form_for here.facts (type_at path)) →
      Comes (Used_so (gives_hooked here.facts (type_at path)) how (form_for here.facts (type_at path)) (node_at path).number) X
      (read_by here how path aim s)
  path_comes {may} {root} {aim} here how path X level_is s mine off h aims =
      comes_then (find aim) (λ l. at_path path (got here how node (type_at path) l)) Is Comes_to X s
      (comes_answered Is X (find aim s) (finds s h.runs.territory aims))
      (λ l now p. by (has_node path) l now (subst (λ w. Stage r ms gs first places nodes old start w) (sym p.0) h)
      (subst (λ w. Read f l w) (sym p.0) (read_found h.runs.territory p.1)))
    where
      node : ℕ
      node = (node_at path).number

      f : Form
      f = form_for here.facts (type_at path)

      Is : Location → World → Type 0
      Is l after = (after ≡ s.world) × Found (ms ++ gs) s.world may root (steps_of aim) (form_for here.facts (type_at path)) l

      Comes_to : Value → World → Type 0
      Comes_to = Used_so (gives_hooked here.facts (type_at path)) how (form_for here.facts (type_at path)) (node_at path).number

      by : (b : Bool) (l : Location) (now : State) → Stage r ms gs first places nodes old start now.world → Read f l now.world →
          Comes Comes_to X (branch b (at_node node points.Does (got here how node (type_at path) l)) (got here how node (type_at path) l) now)
      by true l now h source =
          got_comes here how node (type_at path) X level_is (with_trail (Spot node points.Does ∷ now.trail) now) mine off h source
      by false l now h source = got_comes here how node (type_at path) X level_is now mine off h source
