-- The result of a call becomes a value, or a copy.
use Rattle.std.proofs.Common.{◌≡◌, false, true, ℕ, List, [], ◌++◌, Some}
use Rattle.nim_types.specs.Forms.{form_of, hooked}
use Rattle.nim_program.specs.Program.{Declared}
use Rattle.nim_meaning.specs.Values.{Value, Given}
use Rattle.nim_meaning.specs.State.{World, State}
use Rattle.nim_meaning.specs.Acts.{Exit}
use Rattle.nim_meaning.specs.Here.{Here}
use Rattle.nim_meaning.specs.Lifted.{assigns}
use Rattle.nim_meaning.specs.Places.{place_at, put}
use Rattle.nim_meaning.specs.Meaning.{result_gets}
use Rattle.holders.specs.Owned.{Constant, Has}
use Rattle.holders.specs.Sure.{Comes}
use Rattle.holders.specs.Territory.{Owner, Moves}
use Rattle.holders.specs.Ways.{Step, Chain}
use Rattle.holders.specs.Finding.{Found}
use Rattle.holders.specs.Running.{Region}
use Rattle.holders.specs.Staging.{Stage, Holding}
use Rattle.holders.proofs.Sure.{sure_weaker}
use Rattle.holders.proofs.PlainRows.{puts}
use Rattle.holders.proofs.Operations.{assigns_value}
use Rattle.holders.proofs.Staging.{stage_moves, stage_takes}
use Rattle.holders.proofs.Coming.{comes_carried}

module _ (r : Region) (ms gs : List Owner) (first places : ℕ) (nodes old : List ℕ) (start : World) (here : Here) (place : Declared)
    (X : Exit → World → Type 0) (s : State) where
  abbrev Staged : {A : Type 0} → A → World → Type 0
  Staged x after = Stage r ms gs first places nodes old start after

  pub result_comes : {v : Value} (h : Holding (form_of here.facts place.of) v r ms gs first places nodes old start s.world) →
      Chain (ms ++ gs) s.world (record { form = form_of here.facts place.of; at = place_at here.level place.number }) →
      Comes (λ x after. Stage r ms gs first places nodes old start after) X (result_gets true (Some place) here v s)
  result_comes {v} h c =
      let t = h.stage.runs.territory in
      let deed = assigns (form_of here.facts place.of) (place_at here.level place.number) (Given v) in
      comes_carried Staged X deed s
      (sure_weaker deed (λ x after. Moves (ms ++ gs) h.under.given t.blocks s.world after) Staged s.world (assigns_value t c h.under)
      (λ x after m. stage_takes r gs first places old start h m))

  pub plain_result_comes : {v : Value} {bs : List ℕ} {root : ℕ} {steps : List Step} → hooked (form_of here.facts place.of) ≡ false →
      (h : Stage r ms gs first places nodes old start s.world) →
      Found (ms ++ gs) s.world true root steps (form_of here.facts place.of) (place_at here.level place.number) →
      Has s.world Constant (form_of here.facts place.of) v bs →
      Comes (λ x after. Stage r ms gs first places nodes old start after) X (result_gets false (Some place) here v s)
  plain_result_comes {v} bare h found has =
      let t = h.runs.territory in
      let deed = put (place_at here.level place.number) v in
      comes_carried Staged X deed s
      (sure_weaker deed (λ x after. Moves (ms ++ gs) [] t.blocks s.world after) Staged s.world (puts t bare found has)
      (λ x after m. stage_moves r gs first places old start h m))
