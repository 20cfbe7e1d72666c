-- A temporary gets a text or a sequence that is new: what its row asks for of the place, and what is good behind it.
use Rattle.std.proofs.Common.{◌≡◌, inl, ℕ, ◌^◌, ◌<◌, ◌≤◌, List, [], Some, length, true, refl, sym, ap, subst, ◌∙◌, arith}
use Rattle.std.specs.Fmt.{signed_decimal}
use Rattle.rv32_isa.specs.Values.{signed}
use Rattle.nim_meaning.specs.Values.{Value}
use Rattle.nim_meaning.specs.Heap.{Contents, Characters}
use Rattle.nim_meaning.specs.State.{World}
use Rattle.nim_meaning.specs.Deeds.{Deed, behind, costs, give, perform, ◌>>=◌}
use Rattle.nim_meaning.specs.Lifted.{fresh, fresh_text}
use Rattle.flat_code.specs.declared.block.BlockLine.{BlockLine}
use Rattle.flat_code.specs.Lines.{gives}
use Rattle.flat_code.specs.Running.{scene_of}
use Rattle.flat_code.specs.Scene.{Passes, with_value}
use Rattle.flat_code.specs.Shapes.{Shape, block, elements, has_shape}
use Rattle.word_code.specs.declared.word.WordInstr.{WordInstr}
use Rattle.word_code.specs.Memory.{Memory, own_data_at}
use Rattle.word_code.specs.RoutineTable.{Beside}
use Rattle.word_code.specs.Words.{Vars, no_words}
use Rattle.word_code.proofs.ForCallers.{at}
use Rattle.heap_memory.specs.HandleRoutines.{MayHave}
use Rattle.heap_memory.specs.HeapUse.{IsElsewhere}
use Rattle.word_lowering.specs.declared.homes.TheConstants.{FIRST, OWN_FROM}
use Rattle.word_lowering.specs.declared.homes.Home.{Home as Place}
use Rattle.word_lowering.specs.RoutineCode.{copy_code, show_code}
use Rattle.word_lowering.proofs.BlockHomes.{Home, home_bytes}
use Rattle.word_lowering.proofs.DeedFrames.{KeepsFrames, frames_kept, fresh_keeps}
use Rattle.word_lowering.proofs.FreshRowRuns.{copy_runs, show_runs}
use Rattle.word_lowering.proofs.GoodRows.{later_ground_of}
use Rattle.word_lowering.proofs.HandleLines.{heap_kept}
use Rattle.word_lowering.proofs.HandleRows.{IsHandled}
use Rattle.word_lowering.proofs.Keeping.{points_there}
use Rattle.word_lowering.proofs.Lines.{Basis, IsGood, Settles, all_procs, all_sites, starts}
use Rattle.word_lowering.proofs.NewHomes.{OtherHome, others_apart, others_beside, others_hold}
use Rattle.word_lowering.proofs.OrdinalRuns.{AllSame}
use Rattle.word_lowering.proofs.Related.{Both, high, low, within}
use Rattle.word_lowering.proofs.ResizedWorlds.{answered}
use Rattle.word_lowering.proofs.RowGood.{good_new}
use Rattle.word_lowering.proofs.RowOperands.{high_inside}
use Rattle.word_lowering.proofs.RowRuns.{RowDoes}
use Rattle.word_lowering.proofs.RowSettles.{LeavesGood, mapped, perform_mapped, perform_on, row_settles}
use Rattle.word_lowering.proofs.RowsLeft.{IsNew}
use Rattle.word_lowering.proofs.Scenes.{IsThere, address_of, house, is_fixed, looked, of_value}
use Rattle.word_lowering.proofs.Settling.{code_here, code_next}
use Rattle.word_lowering.proofs.ShapeFacts.{shape_bytes}
use Rattle.word_lowering.proofs.Sites.{InMemory}
use Rattle.word_lowering.proofs.SitesApart.{houses, site_at}
use Rattle.word_lowering.proofs.Sources.{Lying, lying_all, lying_area, lying_away, lying_near}
use Rattle.word_lowering.proofs.TextOperands.{TextAt}
use Rattle.word_lowering.proofs.TextRowRuns.{IsAt, TEXT_SPARE}

pub handle_bytes : (s : Shape) → IsHandled s → shape_bytes s ≡ 8
handle_bytes block i = refl
handle_bytes (elements t) i = refl
handle_bytes s i = absurd i

-- a row whose answer is the temporary's value
pub value_deed : {B : Type 0} (d : Deed Value) (f : Value → B) (w : World)
    → perform ((d >>= (λ u. give u)) >>= (λ u. give (f u))) w ≡ mapped f (perform d w)
value_deed d f w = perform_on d (λ u. give u) (λ u. give (f u)) w ∙ perform_mapped f d w

module _ (x : Basis) (g : Both) (line : BlockLine) (rest : List BlockLine) (y : IsGood x (starts g line rest)) (t : ℕ)
    (there : IsThere g.call.site (of_value t)) (inside : InMemory (house g.call.site (of_value t)).home) (s : Shape) (handled : IsHandled s)
    (look : looked x.table g.call.site (of_value t) ≡ s) where
  abbrev pub home : Place
  home = (house g.call.site (of_value t)).home

  abbrev pub to : ℕ
  to = address_of g.call.site.base home

  abbrev pub Others : Home → Type 0
  Others = OtherHome x g line rest y t there inside

  eight : (house g.call.site (of_value t)).bytes ≡ 8
  eight =
      sym (houses x.table x.blocks g.call.site (of_value t)
      (site_at x.table x.blocks (all_sites x g line rest y) g.call.site y.linked (inl refl)).body there).bytes
      ∙ ap shape_bytes look ∙ handle_bytes s handled

  lying : Lying x (all_sites x g line rest y) y.linked to 8
  lying = lying_all x (all_sites x g line rest y) y.linked g.call.site (of_value t) 8 (inl refl) there inside eight

  pub at_home : IsAt g.call.site.base g.call.vars home to
  at_home = record {
    points = points_there g.call.site.base g.call.vars home inside;
    high = high_inside home inside;
    small = (let near = lying_near x (all_sites x g line rest y) y.linked to 8 lying in omega (arith, near));
  }

  pub elsewhere : IsElsewhere own_data_at g.memory to 8
  elsewhere =
      let away = lying_away x (all_sites x g line rest y) y.linked g.memory to 8 y.memory lying in
      let low = away.0 in record { heap = away.1; words = inl (omega (arith, low)); room = inl (omega (arith, low)) }

  pub can : MayHave g.memory to
  can =
      let area = lying_area x (all_sites x g line rest y) y.linked g.memory to 8 y.memory lying 2 (omega arith) in
      (area.0.may, area.1.0.may)

  pub away : (h : Home) → Others h → Beside h.at (home_bytes h) to 8
  away h p = subst (λ i. Beside h.at (home_bytes h) to i) eight (others_beside x g line rest y t there inside h p)

  abbrev pub NewHere : Value → World → Memory → Vars → Type 0
  NewHere a after other vars =
      IsNew (is_fixed g.ground) Others (others_apart x g line rest y t there inside) g.ground.blocks g.memory a after other to 8 s × AllSame g.call.vars vars
      × (has_shape a s ≡ true)

  -- a deed that makes it, and stores nothing
  module _ (d : Deed Value) (keeps : KeepsFrames d) where
    pub made_good : LeavesGood x g line rest y FIRST (λ a. with_value t g.call.temps a) NewHere (perform d g.world)
    made_good es work a w e other vars b =
        let new : IsNew (is_fixed g.ground) Others (others_apart x g line rest y t there inside) g.ground.blocks g.memory a w other to
        (house g.call.site (of_value t)).bytes (looked x.table g.call.site (of_value t))
        = subst (λ u. IsNew (is_fixed g.ground) Others (others_apart x g line rest y t there inside) g.ground.blocks g.memory a w other to
        (house g.call.site (of_value t)).bytes u) (sym look)
        (subst (λ i. IsNew (is_fixed g.ground) Others (others_apart x g line rest y t there inside) g.ground.blocks g.memory a w other to i s)
        (sym eight) b.0) in (
          later_ground_of x g line rest y new.left.later,
          good_new x g line rest y t there inside Others (others_apart x g line rest y t there inside) a w other
              new (subst (λ u. has_shape a u ≡ true) (sym look) b.2) (frames_kept d keeps g.world w (ap answered e)) vars no_words FIRST b.1,
        )

    -- a row that does it
    pub made_settles : (spare : ℕ)
        → RowDoes x.live (all_procs x) (within x.table x.blocks g) (code_next x g line rest y) FIRST spare NewHere
        (low x.table x.blocks (starts g line rest)) (perform d g.world)
        → Settles x (starts g line rest) rest (gives (scene_of (high x.table x.blocks (starts g line rest))) t (costs 1 d >>= (λ v. give v)))
    made_settles spare row =
        subst (λ done. Settles x (starts g line rest) rest (Passes (behind [] 1 done))) (sym (value_deed d (λ v. with_value t g.call.temps v) g.world))
        (row_settles x g line rest y FIRST spare (λ a. with_value t g.call.temps a) NewHere (perform d g.world) made_good row)

  module _ (n bytes : ℕ) (contents : Contents) where
    pub new_good : LeavesGood x g line rest y FIRST (λ a. with_value t g.call.temps a) NewHere (perform (fresh n bytes contents) g.world)
    new_good = made_good (fresh n bytes contents) (fresh_keeps n bytes contents)

    pub new_settles : (spare : ℕ)
        → RowDoes x.live (all_procs x) (within x.table x.blocks g) (code_next x g line rest y) FIRST spare NewHere
        (low x.table x.blocks (starts g line rest)) (perform (fresh n bytes contents) g.world)
        → Settles x (starts g line rest) rest
        (gives (scene_of (high x.table x.blocks (starts g line rest))) t (costs 1 (fresh n bytes contents) >>= (λ v. give v)))
    new_settles = made_settles (fresh n bytes contents) (fresh_keeps n bytes contents)

-- ---- texts

module _ (x : Basis) (g : Both) (line : BlockLine) (rest : List BlockLine) (y : IsGood x (starts g line rest)) (t : ℕ)
    (there : IsThere g.call.site (of_value t)) (inside : InMemory (house g.call.site (of_value t)).home)
    (look : looked x.table g.call.site (of_value t) ≡ block) where
  abbrev is_home : Place
  is_home = (house g.call.site (of_value t)).home

  -- that of a number in a variable
  pub show_settles : (word : ℕ) → word < 2 ^ 32 → length (signed_decimal (signed word)) < 2 ^ 32 → (u : ℕ) → OWN_FROM ≤ u → g.call.vars u ≡ Some word
      → code_here x g line rest y ≡ show_code is_home u (code_next x g line rest y)
      → Settles x (starts g line rest) rest
      (gives (scene_of (high x.table x.blocks (starts g line rest))) t (costs 1 (fresh_text (signed_decimal (signed word))) >>= (λ v. give v)))
  show_settles word small few u up has code =
      let text : List ℕ = signed_decimal (signed word) in
      new_settles x g line rest y t there inside block tt look (length text) (length text) (Characters text) TEXT_SPARE
      (subst (λ lines. RowDoes x.live (all_procs x) (within x.table x.blocks g) (code_next x g line rest y) FIRST TEXT_SPARE
      (NewHere x g line rest y t there inside block tt look) (at (within x.table x.blocks g) g.memory lines g.call.vars g.words)
      (perform (fresh_text text) g.world)) (sym code)
      (show_runs (is_fixed g.ground) (OtherHome x g line rest y t there inside) (others_apart x g line rest y t there inside) x.law x.live (all_procs x)
      (within x.table x.blocks g) refl g.ground.blocks g.world (sym y.input) g.memory (others_hold x g line rest y t there inside) (code_next x g line rest y)
      g.call.vars g.words (to x g line rest y t there inside block tt look) (elsewhere x g line rest y t there inside block tt look)
      (away x g line rest y t there inside block tt look) (can x g line rest y t there inside block tt look) (heap_kept x) is_home
      (at_home x g line rest y t there inside block tt look) word small few u has up))

  -- a copy of another: where that has its handle
  module _ (lines : List WordInstr) (from_home : Place) (text : List ℕ) (from : ℕ) (h : TextAt g.world.heap g.ground.blocks.stands g.memory from text)
      (at_from : IsAt g.call.site.base g.call.vars from_home from) where
    pub copy_row : RowDoes x.live (all_procs x) (within x.table x.blocks g) lines FIRST TEXT_SPARE
        (NewHere x g line rest y t there inside block tt look)
        (at (within x.table x.blocks g) g.memory (copy_code is_home from_home lines) g.call.vars g.words)
        (perform (fresh_text text) g.world)
    copy_row =
        copy_runs (is_fixed g.ground) (OtherHome x g line rest y t there inside) (others_apart x g line rest y t there inside) x.law x.live (all_procs x)
        (within x.table x.blocks g) refl g.ground.blocks g.world (sym y.input) g.memory (others_hold x g line rest y t there inside) lines
        g.call.vars g.words (to x g line rest y t there inside block tt look) (elsewhere x g line rest y t there inside block tt look)
        (away x g line rest y t there inside block tt look) (can x g line rest y t there inside block tt look) (heap_kept x) is_home
        (at_home x g line rest y t there inside block tt look) from text h from_home at_from
