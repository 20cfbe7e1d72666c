-- A character comes behind a text at a location, as a line: in place where the text's block has room for one more, and else by the routine.
use Rattle.std.proofs.Common.{◌≡◌, ◌⊎◌, inl, inr, ℕ, ◌+◌, ◌-◌, ◌^◌, ◌<◌, ◌≤◌, List, [], ◌∷◌, ◌++◌, Option, Some, Bool, true, refl, sym, ap}
use Rattle.std.proofs.Common.{subst, ◌∙◌, arith}
use Rattle.std.specs.Prelude.{◌||◌, if◌then◌else◌}
use Rattle.std.proofs.lemmas.Bool.{eq-eqb, false≢true, ne_eqb}
use Rattle.nim_meaning.specs.Values.{Location, nothing}
use Rattle.nim_meaning.specs.State.{World}
use Rattle.nim_meaning.specs.Deeds.{Answers, Done, Fails, Finishes, behind, perform}
use Rattle.nim_meaning.specs.Lifted.{has_place}
use Rattle.nim_meaning.specs.OwnedRows.{appended}
use Rattle.flat_code.specs.declared.block.BlockLine.{BlockLine}
use Rattle.flat_code.specs.Scene.{Passes, Temps, with_value}
use Rattle.flat_code.specs.Shapes.{block}
use Rattle.word_code.specs.declared.word.WordInstr.{WordInstr}
use Rattle.word_code.specs.declared.word.WordInstr.TheVariants.{Label}
use Rattle.word_code.specs.Memory.{Memory, own_data_at}
use Rattle.word_code.specs.Words.{Vars, from_label, no_words}
use Rattle.word_code.proofs.ForCallers.{Runs, Within, at, run_label}
use Rattle.heap_memory.specs.GrowRoutine.{Growing, MayGrow, kept_of, place_of, taking}
use Rattle.heap_memory.specs.HandleRoutines.{AreContentsPut, HasHandle, MayHave}
use Rattle.heap_memory.specs.HeapRoutines.{fits}
use Rattle.heap_memory.specs.TextRoutines.{AreBytes}
use Rattle.heap_memory.proofs.ForCallers.{character_put, holds, with_character}
use Rattle.word_lowering.specs.declared.handed.TheConstants.{RIGHT_HANDLE_AT}
use Rattle.word_lowering.specs.declared.homes.TheConstants.{FIRST, OWN_FROM}
use Rattle.word_lowering.specs.declared.homes.Home.{Home as Place}
use Rattle.word_lowering.specs.declared.homes.Home.TheVariants.{Placed, Static, Variable}
use Rattle.word_lowering.specs.OwnedCode.{in_place_code, letter_code}
use Rattle.word_lowering.specs.RoutineCode.{append_code}
use Rattle.word_lowering.proofs.AppendLines.{AppendSettles, Behind, append_does, append_leaves, as_append, temps, then_at, then_good}
use Rattle.word_lowering.proofs.BlockHomes.{LeadsTo}
use Rattle.word_lowering.proofs.Blocks.{IsHandle}
use Rattle.word_lowering.proofs.DeedFrames.{IsPutSo, frames_put, resized_puts}
use Rattle.word_lowering.proofs.Gets.{SameTemps, same_temps}
use Rattle.word_lowering.proofs.GoodHomes.{HomeOf, good_homes, homes_apart}
use Rattle.word_lowering.proofs.GoodLeads.{owned_to}
use Rattle.word_lowering.proofs.GoodRows.{later_ground_of}
use Rattle.word_lowering.proofs.HandleLines.{HandleThere, block_is, can_have, handle_is, heap_kept, length_short, mine}
use Rattle.word_lowering.proofs.HandlesPut as puts
use Rattle.word_lowering.proofs.HandlesPut.{block_of_text}
use Rattle.word_lowering.proofs.HeapWanted.{least_of, room_in}
use Rattle.word_lowering.proofs.InPlaceRuns.{GoesOff, IsPutThere, put_or_off}
use Rattle.word_lowering.proofs.Lines.{Basis, IsGood, Settles, all_procs, changed, changed_later, goes_on, starts}
use Rattle.word_lowering.proofs.NewSequenceLines.{row_spares}
use Rattle.word_lowering.proofs.Related.{Both, body_of, sites_of, within}
use Rattle.word_lowering.proofs.ResizedWorlds.{answered}
use Rattle.word_lowering.proofs.RowGood.{IsLeftHere, good_put}
use Rattle.word_lowering.proofs.RowOperands.{HasHandleAt, letter_handle}
use Rattle.word_lowering.proofs.RowRuns.{Came, RowDoes, in_front}
use Rattle.word_lowering.proofs.RowSettles.{mapped, row_settles}
use Rattle.word_lowering.proofs.RowsOn.{row_on}
use Rattle.word_lowering.proofs.RoutinesCalled.{left_with}
use Rattle.word_lowering.proofs.Scenes.{Ground, is_fixed}
use Rattle.word_lowering.proofs.Settling.{code_here, code_next}
use Rattle.word_lowering.proofs.Sites.{word_of}
use Rattle.word_lowering.proofs.TextRowRuns.{TEXT_SPARE, appended_came, room_is}
use Rattle.word_lowering.proofs.TextRows.{Mine, more_row}
use Rattle.word_lowering.proofs.Told.{good_told, told_none}
use Rattle.word_lowering.proofs.WrittenLines.{Writing}

-- ---- the code, and where its labels stand

module _ (label u : ℕ) where
  abbrev pub letter_after : List WordInstr → List WordInstr
  letter_after next = Label (label + 2) ∷ next

  abbrev pub letter_slow : Place → List WordInstr → List WordInstr
  letter_slow home next = letter_code RIGHT_HANDLE_AT u (append_code home (Static RIGHT_HANDLE_AT) (letter_after next))

  abbrev pub letter_lines : Place → List WordInstr → List WordInstr
  letter_lines home next = in_place_code label home u (letter_slow home next)

  front : (name : ℕ) (home : Place) (next : List WordInstr)
      → from_label name (letter_lines home next) ≡ from_label name (Label label ∷ letter_slow home next)
  front name (Variable n) next = refl
  front name (Placed o) next = refl
  front name (Static o) next = refl

  past : (name : ℕ) (home : Place) (next : List WordInstr) → from_label name (letter_slow home next) ≡ from_label name (letter_after next)
  past name (Variable n) next = refl
  past name (Placed o) next = refl
  past name (Static o) next = refl

  here_is : (name : ℕ) (k : List WordInstr) → from_label name (Label name ∷ k) ≡ Some (Label name ∷ k)
  here_is name k = ap (λ b. if b then Some (Label name ∷ k) else from_label name k) (eq-eqb name name refl)

  first_label : (home : Place) (next : List WordInstr) → from_label label (letter_lines home next) ≡ Some (Label label ∷ letter_slow home next)
  first_label home next = front label home next ∙ here_is label (letter_slow home next)

  second_label : (home : Place) (next : List WordInstr) → from_label (label + 2) (letter_lines home next) ≡ Some (letter_after next)
  second_label home next =
      front (label + 2) home next
      ∙ ap (λ b. if b then Some (Label label ∷ letter_slow home next) else from_label (label + 2) (letter_slow home next))
      (ne_eqb label (label + 2) (λ e. absurd (omega (arith, e))))
      ∙ past (label + 2) home next ∙ here_is (label + 2) next

-- ---- the line

module _ (x : Basis) (said : Writing x) (g : Both) (line : BlockLine) (rest : List BlockLine) (y : IsGood x (starts g line rest)) (l : Location) (n : ℕ)
    (k : Option ℕ) (home : Place)
    (q : (v : Vars) (m : Memory) (good : IsGood x (starts (changed g rest g.call.temps v m g.words g.awaits g.world) line rest))
    → HandleThere x (changed g rest g.call.temps v m g.words g.awaits g.world) line rest good good.memory.bytes l n k home)
    (here : HandleThere x g line rest y y.memory.bytes l n k home) (letter u : ℕ) (small : letter < 256) (up : OWN_FROM ≤ u)
    (is : g.call.vars u ≡ Some letter) (to : ℕ)
    (same : (v : Vars) (m : Memory) (good : IsGood x (starts (changed g rest g.call.temps v m g.words g.awaits g.world) line rest))
    → SameTemps x (changed g rest g.call.temps v m g.words g.awaits g.world) line rest good (with_value to g.call.temps nothing))
    (same_here : SameTemps x g line rest y (with_value to g.call.temps nothing)) (label : ℕ)
    (labels : from_label label (word_of x.table x.blocks (body_of g)).lines ≡ from_label label (code_here x g line rest y))
    (labels_behind : from_label (label + 2) (word_of x.table x.blocks (body_of g)).lines ≡ from_label (label + 2) (code_here x g line rest y))
    (code : code_here x g line rest y ≡ letter_lines label u home (code_next x g line rest y))
  where
    abbrev c : Within
    c = within x.table x.blocks g

    abbrev next : List WordInstr
    next = code_next x g line rest y

    abbrev slow : List WordInstr
    slow = letter_slow label u home next

    abbrev lines : List WordInstr
    lines = letter_lines label u home next

    abbrev more : List ℕ
    more = letter ∷ []

    abbrev are : AreBytes g.memory.heap
    are = y.memory.bytes

    abbrev handle : IsHandle g.ground.blocks g.memory here.address block n k
    handle = handle_is x g line rest y are l n k home here

    abbrev text : block_of_text (is_fixed g.ground) x.law g.ground.blocks g.world g.memory y.heap y.memory.sized n k
    text = block_is x g line rest y are l n k home here

    long_small : n + 1 < 2 ^ 32
    long_small = let s = length_short x g line rest y are l n k home here in omega (arith, s)

    abbrev growth : Growing
    growth = puts.growing (is_fixed g.ground) x.law g.ground.blocks g.world g.memory y.heap y.memory.sized are here.address n k handle text (n + 1)

    may : MayGrow own_data_at growth g.memory
    may = puts.may_grow_so (is_fixed g.ground) x.law g.ground.blocks g.world g.memory y.heap y.memory.sized are here.address n k handle text (n + 1) long_small

    can : MayHave g.memory here.address
    can = can_have x g line rest y are l n k home here

    words_there : HasHandle g.memory here.address n (place_of growth.present)
    words_there = puts.handle_is (is_fixed g.ground) x.law g.ground.blocks g.world g.memory y.heap y.memory.sized are here.address n k handle text

    found_slow : from_label label c.proc.lines ≡ Some (Label label ∷ slow)
    found_slow = labels ∙ ap (from_label label) code ∙ first_label label u home next

    found_after : from_label (label + 2) c.proc.lines ≡ Some (letter_after label u next)
    found_after = labels_behind ∙ ap (from_label (label + 2)) code ∙ second_label label u home next

    abbrev Off : Type 0
    Off = GoesOff x.law x.live (all_procs x) c refl g.memory y.memory.sized g.call.vars g.words label home here.address here.at_home letter u small up is
        growth may refl can words_there slow next found_slow found_after

    abbrev There : Type 0
    There = IsPutThere x.law x.live (all_procs x) c refl g.memory y.memory.sized g.call.vars g.words label home here.address here.at_home letter u small up is
        growth may refl can words_there slow next found_slow found_after

    abbrev then_temps : Temps
    then_temps = with_value to g.call.temps nothing

    abbrev deed : Done (Unit {0})
    deed = perform (appended more l) g.world

    abbrev Line : Done (Unit {0}) → Type 0
    Line done = Settles x (starts g line rest) rest (Passes (behind [] 1 (mapped (λ a. then_temps) done)))

    abbrev leads : LeadsTo (is_fixed g.ground) (HomeOf x (starts g line rest)) (homes_apart x (starts g line rest) y) g.ground.blocks l here.address block
    leads = owned_to x (starts g line rest) y l here.address block here.owned

    mine_here : Mine (is_fixed g.ground) (HomeOf x (starts g line rest)) (homes_apart x (starts g line rest) y) x.law g.ground.blocks g.world g.memory
        (good_homes x (starts g line rest) y) are l here.address n k here.is leads handle text
    mine_here = mine x g line rest y are l n k home here here.owned

    abbrev room_for : (bytes : ℕ) → Bool
    room_for bytes = room_in g.world k bytes

    abbrev has_room : (bytes : ℕ) → Bool
    has_room bytes = has_place g.world k bytes

    came : Came (1 + least_of (has_room (n + 1)) (n + 1)) (room_for (n + 1)) g.world.input deed
    came =
        appended_came (is_fixed g.ground) (HomeOf x (starts g line rest)) (homes_apart x (starts g line rest) y) x.law x.live (all_procs x) (heap_kept x) c refl
        g.ground.blocks g.world (sym y.input) g.memory (good_homes x (starts g line rest) y) are next g.call.vars g.words l here.address n k here.is leads
        handle text mine_here can home here.at_home more

    -- ---- in place

    module _ (r : There) where
      abbrev other : Memory
      other = with_character x.law own_data_at here.address letter small growth r.block r.present g.memory y.memory.sized may refl r.room can

      put_now : AreContentsPut own_data_at (record { to = here.address; length = n + 1; growth = growth; bytes = kept_of growth.present n ++ more })
          g.memory other
      put_now = character_put x.law own_data_at here.address letter small growth r.block r.present g.memory y.memory.sized may refl r.room can

      left : (after : World) → answered deed ≡ Some after → IsLeftHere x g line rest y after other here.address 8
      left after done =
          more_row (is_fixed g.ground) (HomeOf x (starts g line rest)) (homes_apart x (starts g line rest) y) x.law g.ground.blocks g.world g.memory
          (good_homes x (starts g line rest) y) are l here.address n k here.is leads handle text more other after
          (puts.more_there (is_fixed g.ground) x.law g.ground.blocks g.world g.memory y.heap y.memory.sized are here.address n k handle text more other
          long_small put_now) done mine_here

      grows : room_for (n + 1) ≡ true
      grows =
          sym (room_is (is_fixed g.ground) (HomeOf x (starts g line rest)) (homes_apart x (starts g line rest) y) x.law x.live (all_procs x) (heap_kept x) c
          refl g.ground.blocks g.world (sym y.input) g.memory (good_homes x (starts g line rest) y) are next g.call.vars g.words l here.address n k here.is
          leads handle text mine_here can home here.at_home (n + 1))
          ∙ ap (λ b. b || fits (taking growth))
          (holds x.law own_data_at here.address letter small growth r.block r.present g.memory y.memory.sized may refl r.room can)

      in_place : (done : Done (Unit {0})) → deed ≡ done → Came (1 + least_of (has_room (n + 1)) (n + 1)) (room_for (n + 1)) g.world.input done → Line done
      in_place (Answers es i a w) e comes =
          let there = left w (ap answered e) in
          let put_it : IsPutSo l g.world w = frames_put l (appended more l) (λ v. resized_puts _ _ _ l) g.world w (ap answered e) in
          let ground : Ground = later_ground_of x g line rest y there.later in
          let good : IsGood x (changed_later g rest then_temps r.vars other g.words g.awaits w ground w.input)
          = good_put x g line rest y l here.address block refl here.live put_it.0 w other there put_it.1 here.owned then_temps same_here r.vars g.words g.awaits
          r.same in
          let input : w.input ≡ g.input = comes.3 ∙ y.input in
          subst (λ fs. Settles x (starts g line rest) rest (Passes (Answers fs (1 + i) then_temps w))) (sym comes.0)
          (goes_on x (starts g line rest) (changed_later g rest then_temps r.vars other g.words g.awaits w ground g.input) rest
          (subst (λ j. IsGood x (changed_later g rest then_temps r.vars other g.words g.awaits w ground j)) input good) 19 (1 + i) then_temps w
          (subst (λ ls. Runs x.live (all_procs x) 19 (at c g.memory ls g.call.vars g.words) (at c other next r.vars g.words)) (sym code) r.runs)
          (omega arith) (omega arith) refl)
      in_place (Finishes es i status w) e comes = absurd (false≢true (sym comes.2 ∙ grows))
      in_place (Fails es i w) e comes = λ before. tt

    -- ---- by the routine

    module _ (s : Off) where
      abbrev g1 : Both
      g1 = changed g rest g.call.temps s.vars g.memory g.words g.awaits g.world

      good1 : IsGood x (starts g1 line rest)
      good1 = good_told x said.least g line rest y (line ∷ rest) g.call.temps (same_temps x g line rest y) s.vars g.words g.awaits g.memory
          (told_none x said.least (sites_of g) g.memory y.memory) s.same y.stands

      abbrev after_it : List WordInstr
      after_it = letter_after label u next

      t : HasHandleAt x said g1 line rest good1 RIGHT_HANDLE_AT slow (append_code home (Static RIGHT_HANDLE_AT) after_it) (Static RIGHT_HANDLE_AT) more
      t = letter_handle x said g1 line rest good1 RIGHT_HANDLE_AT (omega arith) (omega arith) (omega arith) u letter small up (s.same.others u up ∙ is)
          (append_code home (Static RIGHT_HANDLE_AT) after_it)

      abbrev good2 : IsGood x (starts (then_at x said g1 line rest good1 slow after_it home (Static RIGHT_HANDLE_AT) more t) line rest)
      good2 = then_good x said g1 line rest good1 slow after_it home (Static RIGHT_HANDLE_AT) more t

      by_routine : Line deed
      by_routine =
          let q2 = q t.vars t.memory good2 in
          let same2 = same t.vars t.memory good2 in
          let Left = Behind x said g1 line rest good1 slow after_it home (Static RIGHT_HANDLE_AT) more t good2.memory.bytes l n k q2 to same2 in
          let few = t.few in
          let count = s.few in
          let enough : 2 + s.count + 1 ≤ TEXT_SPARE - t.count = omega (arith, few, count) in
          row_settles x g line rest y FIRST 2 (λ a. then_temps) Left deed
          (append_leaves x said g1 line rest good1 slow after_it home (Static RIGHT_HANDLE_AT) more t good2.memory.bytes l n k q2 to same2)
          (subst (λ ls. RowDoes x.live (all_procs x) c next FIRST 2 Left (at c g.memory ls g.call.vars g.words) deed) (sym code)
          (in_front x.live (all_procs x) c next FIRST 2 s.count Left (at c g.memory lines g.call.vars g.words) (at c g.memory slow s.vars g.words) s.runs deed
          (row_on x.live (all_procs x) c after_it FIRST 1 (2 + s.count) next FIRST Left Left
          (λ a w m vars b. record {
            memory = m;
            vars = vars;
            behind = b;
            steps = 1;
            few = omega arith;
            runs = run_label x.live (all_procs x) (left_with c w.input FIRST) m next vars no_words (label + 2);
          }) (at c g.memory slow s.vars g.words) deed
          (row_spares x.live (all_procs x) c after_it FIRST (2 + s.count + 1) (TEXT_SPARE - t.count) enough Left (at c g.memory slow s.vars g.words) deed
          (append_does x said g1 line rest good1 slow after_it home (Static RIGHT_HANDLE_AT) more t good2.memory.bytes l n k q2 to same2)))))

    -- ---- either

    pub letter_settles : AppendSettles x said g line rest y to l more
    letter_settles =
        as_append x said g line rest y to l more (by
        (put_or_off x.law x.live (all_procs x) c refl g.memory y.memory.sized g.call.vars g.words label home here.address here.at_home letter u small up is
        growth may refl can words_there slow next found_slow found_after))
      where
        by : There ⊎ Off → Line deed
        by (inl r) = in_place r deed refl came
        by (inr s) = by_routine s
