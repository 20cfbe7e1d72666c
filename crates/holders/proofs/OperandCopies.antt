-- A place gets a copy of an operand that is a place.
use Rattle.std.proofs.Common.{◌≡◌, refl, sym, ap, ap₂, subst, ◌∙◌, ℕ, ◌+◌, Bool, true, false, inr, List, [], ◌∷◌, ◌++◌, length}
use Rattle.std.specs.Prelude.{◌&&◌}
use Rattle.std.proofs.lemmas.Bool.{false≢true}
use Rattle.nim_types.specs.Forms.{Form}
use Rattle.nim_program.specs.declared.operation.Use.{Use}
use Rattle.nim_program.specs.declared.operation.Use.TheVariants.{Given as ToPlace}
use Rattle.nim_program.specs.Program.{Read, Path, NoArg, ByValue, type_at, node_at}
use Rattle.nim_program.specs.Scopes as scopes
use Rattle.nim_meaning.specs.ActTree as points
use Rattle.nim_meaning.specs.Values.{Location, At}
use Rattle.nim_meaning.specs.Marks.{Member}
use Rattle.nim_meaning.specs.State.{World, State}
use Rattle.nim_meaning.specs.Acts.{Does, give, ◌>>=◌, branch}
use Rattle.nim_meaning.specs.Here.{Here, gives_hooked, form_for}
use Rattle.nim_meaning.specs.Waiting.{Wait, waiting, waiting_at, waiting_all}
use Rattle.nim_meaning.specs.Shapes.{has_node, is_given}
use Rattle.nim_meaning.specs.Aims.{Aim, Ready, Evaluated, find, is_lent_own, operand_for}
use Rattle.nim_meaning.specs.Steps.{at_path, at_node, gets_copy}
use Rattle.nim_meaning.specs.Meaning.{eval, aimed, source}
use Rattle.holders.specs.Sure.{Comes}
use Rattle.holders.specs.Territory.{Owner}
use Rattle.holders.specs.Ways.{Step}
use Rattle.holders.specs.Finding.{Found, in_cell, to_be_read, AimsAt, steps_of}
use Rattle.holders.proofs.Owning.{in_first}
use Rattle.holders.proofs.Finding.{finds}
use Rattle.holders.proofs.Coming.{comes_then, comes_answered}
use Rattle.holders.specs.Asked.{Limits, may_write}
use Rattle.holders.specs.Evaluating.{path_nodes, waits_itself, root_at, path_steps, Scene, Leaves}
use Rattle.holders.specs.Evaluating.{Aims, at_place, at_made, empty}
use Rattle.holders.specs.Evaluating.{copy_ready, AllReady}
use Rattle.holders.proofs.PartsInTurn.{begins_part, stage_wider}
use Rattle.holders.specs.Claimed.{NoExit, HasAim, AimSo, ReadySo}
use Rattle.holders.proofs.Claims.{scene_passes}
use Rattle.holders.proofs.Claims.{aims_first, nothing_more, none_itself}
use Rattle.holders.proofs.OperandKinds.{aims_second, owned_none}

-- ---- a place gets a copy

pub found_read : {os : List Owner} {world : World} {b : Bool} {n : ℕ} {steps : List Step} {f : Form} {l : Location} → Found os world b n steps f l →
    Found os world false n steps f l
found_read (in_cell c goes) = in_cell c goes
found_read (to_be_read made from h) = to_be_read made from h

-- where an aim leads among all cells
pub record AimHere (limits : Limits) (root : (global : Bool) → ℕ → ℕ) (ms os : List Owner) (world : World) (path : Path) (f : Form) (aim : Aim)
    : Type 0 where
  pub position : ℕ
  pub aims : AimsAt (ms ++ os) world (may_write limits path) position aim f
  pub written : may_write limits path ≡ true → (position ≡ length ms + root_at root path) × (steps_of aim ≡ path_steps path)

pub aim_here : {here : Here} {scope : scopes.Here} {limits : Limits} {root : (global : Bool) → ℕ → ℕ} {ms os : List Owner} {world : World} {path : Path}
    {f : Form} {aim : Aim} → Scene here scope limits root os world → Aims here scope limits root ms os path f aim →
    AimHere limits root ms os world path f aim
aim_here {root = root} {ms = ms} {world = world} {path = path} scene (at_place h steps fresh) =
    record {
      position = length ms + root_at root path;
      aims = aims_second ms (h world scene);
      written = λ e. (refl, steps);
    }
aim_here {ms = ms} {os = os} {world = world} {f = f} {aim = aim} scene (at_made {n = n} unwritten h fresh) =
    record {
      position = n;
      aims = subst (λ b. AimsAt (ms ++ os) world b n aim f) (sym unwritten) (aims_first os (h world));
      written = λ e. absurd (false≢true (sym unwritten ∙ e));
    }

module _ (here : Here) (scope : scopes.Here) (limits : Limits) (root : (global : Bool) → ℕ → ℕ) (first places : ℕ) (os : List Owner)
    (uses : (position : ℕ) → Use) where
  pub value_copied : (path : Path) (i : ℕ) → gives_hooked here.facts (type_at path) ≡ true → uses i ≡ ToPlace → has_node path ≡ true →
      AimSo here scope limits root first places os path → ReadySo here scope limits root first places os uses (ByValue (Read path) NoArg) i
  value_copied path i hooked purpose node so nodes s b scene =
      subst (λ c. Comes Q NoExit (branch c copied evaluated s)) (sym copy)
      (comes_then (source (Read path) here) (λ l. give (Evaluated (At l) ∷ [])) Source Q NoExit s
      (comes_then (aimed path here) (λ aim. find aim >>= (λ l. at_path path (give l)))
      (HasAim here scope limits root first places os path (path_nodes path) ws nodes b.territory.blocks s.world) Source NoExit s
      (so nodes s (begins_part all (path_nodes path) b within) scene) (λ aim mid a. looked aim mid a)) (λ l now q. q))
    where
      all : List ℕ
      all = ((node_at path).number ∷ path_nodes path) ++ []

      ws : List Wait
      ws = waiting_at here.facts here.modes path

      within : (n : ℕ) → Member n (path_nodes path) → Member n all
      within n m = in_first n ((node_at path).number ∷ path_nodes path) [] (inr m)

      Q : List Ready → World → Type 0
      Q = AllReady here scope limits root uses (ByValue (Read path) NoArg) i first places nodes os b.territory.blocks s.world

      Source : Location → World → Type 0
      Source l now = Q (Evaluated (At l) ∷ []) now

      copied : Does (List Ready)
      copied = source (Read path) here >>= (λ l. give (Evaluated (At l) ∷ []))

      evaluated : Does (List Ready)
      evaluated = eval (Read path) (uses i) here >>= (λ v. give (Evaluated (operand_for (is_lent_own here.facts (uses i) (Read path)) here.level
          (node_at path).number v) ∷ []))

      copy : gets_copy here (uses i) (Read path) ≡ true
      copy = ap₂ (λ a c. a && c) hooked (ap₂ (λ how n. is_given how && n) purpose node)

      none : waits_itself here.facts here.modes (Read path) (uses i) ≡ []
      none = ap (waits_itself here.facts here.modes (Read path)) purpose ∙ owned_none here.facts here.modes (Read path) ToPlace refl refl refl

      same : ws ≡ waiting_all here.facts here.modes (ByValue (Read path) NoArg) uses i
      same = none_itself here.facts here.modes (Read path) (uses i) none ∙ sym (nothing_more (waiting here.facts here.modes (Read path) (uses i)))

      at_node_or_not : (c : Bool) (l : Location) (now : State) → Source l now.world →
          Comes Source NoExit (branch c (at_node (node_at path).number points.Does (give l)) (give l) now)
      at_node_or_not true l now q = q
      at_node_or_not false l now q = q

      looked : (aim : Aim) (mid : State) → HasAim here scope limits root first places os path (path_nodes path) ws nodes b.territory.blocks s.world aim
          mid.world →
          Comes Source NoExit ((find aim >>= (λ l. at_path path (give l))) mid)
      looked aim mid a =
          let f = form_for here.facts (type_at path) in
          let c = aim_here (scene_passes (path_nodes path) a.stage.runs.passes scene) a.aims in
          let Is : Location → World → Type 0 = λ l after. (after ≡ mid.world)
          × Found (a.own ++ os) mid.world (may_write limits path) c.position (steps_of aim) f l in
          comes_then (find aim) (λ l. at_path path (give l)) Is Source NoExit mid
          (comes_answered Is NoExit (find aim mid) (finds mid a.stage.runs.territory c.aims))
          (λ l now p. at_node_or_not (has_node path) l now (subst (λ w. Source l w) (sym p.0) (record {
            own = a.own;
            later = a.later;
            hand = empty;
            leaves = subst (λ vs. Leaves here.level nodes vs a.own a.later) same a.leaves;
            stage = stage_wider all (path_nodes path) within a.stage;
            ready = copy_ready purpose hooked (found_read p.1);
          })))
