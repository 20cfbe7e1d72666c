-- The machine of an image does what the label code does.
use Rattle.std.proofs.Common.{◌≡◌, ℕ, zero, suc, ◌+◌, ◌-◌, ◌*◌, ◌/◌, ◌%◌, ◌^◌, ◌<◌, ◌≤◌, inl, inr, List}
use Rattle.std.proofs.Common.{[], ◌∷◌, ◌++◌, length, Bool, true, false}
use Rattle.std.proofs.Common.{Option, Some, None, refl, sym, ap, subst, ◌∙◌, arith, append_assoc, length-append}
use Rattle.std.specs.Prelude.{◌==◌, not, nat_lt, replicate, if◌then◌else◌}
use Rattle.std.proofs.lemmas.Bool.{eq-eqb, ltb-true, ltb-false, cond-true, cond-false, cond_both, not_from_true, not_from_false}
use Rattle.arc_base.specs.Event.{Event}
use Rattle.arc_base.specs.Behaviour.{Agrees, Sound}
use Rattle.arc_base.specs.Pace.{Paced}
use Rattle.arc_base.specs.Stepping.{Next, Goes, Ends}
use Rattle.arc_base.specs.Simulation.{Does}
use Rattle.arc_base.proofs.ForCallers.{steps_one, steps_on, steps_none, stops_one, agrees_by_simulation, paced_by_simulation}
use Rattle.rv32_isa.specs.declared.image.HookAt.{HookAt}
use Rattle.rv32_isa.specs.declared.instr.Instr.{Instr}
use Rattle.rv32_isa.specs.declared.instr.Instr.TheVariants.{Jal, Jalr}
use Rattle.rv32_isa.specs.declared.label.Test.{Test}
use Rattle.rv32_isa.specs.declared.label.Test.TheVariants as test
use Rattle.rv32_isa.specs.declared.label.LabelName.{LabelName}
use Rattle.rv32_isa.specs.declared.label.LabelLine.{LabelLine}
use Rattle.rv32_isa.specs.declared.label.LabelLine.TheVariants.{Label, Do, Jump, Branch}
use Rattle.rv32_isa.specs.Row.{IsInRange, AllInRange, word_of}
use Rattle.rv32_isa.specs.Hooks.{code_at}
use Rattle.rv32_isa.specs.Image.{Image}
use Rattle.rv32_isa.specs.State.{State, reg, with_reg, first_state}
use Rattle.rv32_isa.specs.Values.{with_sign}
use Rattle.rv32_isa.specs.Steps.{Outcome, micro_op_of, address, branch, onward, act, obey, next_pc}
use Rattle.rv32_isa.specs.Steps as leads
use Rattle.rv32_isa.specs.Machine.{Lives, Run, Reply, Answers, Exits, Fails, arrival, call, machine}
use Rattle.rv32_isa.specs.Machine as isa
use Rattle.rv32_isa.specs.Labels.{holds, from_label, is_instruction, begins, marked, mark_before, Addresses, from_mark, IsLine, AreLines, hooks_lead}
use Rattle.rv32_isa.specs.LabelsMeaning.{OfDataAndHeap, LabelRun, hook_at, comes, goto, replied, led, step, start, label_meaning}
use Rattle.rv32_isa.proofs.ForCallers.{length-code}
use Rattle.rv32_logic.specs.Placed.{Stands, Before, outcome_of}
use Rattle.rv32_logic.specs.Jumps.{placed, branches_to}
use Rattle.rv32_logic.proofs.ForCallers.{stands_all, stands_back, all_in_range-append, obeyed, branch_goes}
use Rattle.rv32_codegen.specs.Layout.{Far, line_size, size, laid_at, place_of, target, distance, branch_of, opposite, branched, laid, instrs, hook_table}
use Rattle.rv32_codegen.specs.Layout.{code_bytes, Reaches, LineReaches, AllReach}
use Rattle.rv32_codegen.proofs.LayoutUp.{up, Up, UpReply, kind_of, plain_up, call_up}
use Rattle.rv32_codegen.proofs.LayoutSizes.{Within, within_next, fits_in, label_within, at_whole, at_low, at_high, place_whole}
use Rattle.rv32_codegen.proofs.LayoutMarks.{mark_at, mark_laid, mark_is}
use Rattle.rv32_codegen.proofs.LayoutHooks.{Lands, lands_behind, lands_at, arrives, quiet_inside}

-- ---- branches

branch_is : (s : State) (t : Test) (left right offset : ℕ) →
    micro_op_of s (branch_of t left right offset) ≡ branch s (holds t (reg s left) (reg s right)) offset
branch_is s test.Equal left right offset = refl
branch_is s test.Unequal left right offset = refl
branch_is s test.Less left right offset = refl
branch_is s test.AtLeast left right offset = refl
branch_is s test.Below left right offset = refl
branch_is s test.NotBelow left right offset = refl

not_not : (b : Bool) → b ≡ not (not b)
not_not true = refl
not_not false = refl

opposite_is : (t : Test) (a b : ℕ) → holds (opposite t) a b ≡ not (holds t a b)
opposite_is test.Equal a b = refl
opposite_is test.Unequal a b = not_not (a == b)
opposite_is test.Less a b = refl
opposite_is test.AtLeast a b = not_not _
opposite_is test.Below a b = refl
opposite_is test.NotBelow a b = not_not _

pub branch_range : (t : Test) (left right offset : ℕ) → left < 32 → right < 32 → offset < 2 ^ 13 → offset % 2 ≡ 0 →
    IsInRange (branch_of t left right offset)
branch_range test.Equal left right offset p q r s = (p, q, r, s)
branch_range test.Unequal left right offset p q r s = (p, q, r, s)
branch_range test.Less left right offset p q r s = (p, q, r, s)
branch_range test.AtLeast left right offset p q r s = (p, q, r, s)
branch_range test.Below left right offset p q r s = (p, q, r, s)
branch_range test.NotBelow left right offset p q r s = (p, q, r, s)

-- ---- distances

jump_reaches : (from to : ℕ) → code_at ≤ from → code_at ≤ to → from ≤ code_at + 524292 → to ≤ code_at + 524288 →
    (from + with_sign (2 ^ 20) (distance 21 from to)) % 2 ^ 32 ≡ to
jump_reaches from to a b c d =
    let n = distance 21 from to in
    cond_both (nat_lt n (2 ^ 20)) n (n + 2 ^ 32 - 2 * 2 ^ 20) (λ x. (from + x) % 2 ^ 32 ≡ to)
    (λ e. let lt = ltb-true n (2 ^ 20) e in omega (arith, lt, a, b, c, d))
    (λ e. let ge = ltb-false n (2 ^ 20) e in omega (arith, ge, a, b, c, d))

branch_reaches : (from to : ℕ) → code_at ≤ from → code_at ≤ to → from ≤ code_at + 524288 → to ≤ code_at + 524288 → from ≤ to + 4096 →
    to < from + 4096 →
    (from + with_sign (2 ^ 12) (distance 13 from to)) % 2 ^ 32 ≡ to
branch_reaches from to a b c d near close =
    let n = distance 13 from to in
    cond_both (nat_lt n (2 ^ 12)) n (n + 2 ^ 32 - 2 * 2 ^ 12) (λ x. (from + x) % 2 ^ 32 ≡ to)
    (λ e. let lt = ltb-true n (2 ^ 12) e in omega (arith, lt, a, b, c, d, near, close))
    (λ e. let ge = ltb-false n (2 ^ 12) e in omega (arith, ge, a, b, c, d, near, close))

-- ---- the instructions of lines

module _ (far : Far) (whole : List LabelLine) (small : size far whole ≤ 524288) where
  branched_range : (b : Bool) (t : Test) (left right from to : ℕ) → left < 32 → right < 32 → from % 4 ≡ 0 → to % 4 ≡ 0 → code_at ≤ from →
      from ≤ code_at + 524288 → AllInRange (branched b t left right from to)
  branched_range true t left right from to p q a b c d =
      (branch_range (opposite t) left right 8 p q (omega arith) refl, ((omega arith, omega arith, omega (arith, a, b, c, d)), tt))
  branched_range false t left right from to p q a b c d = (branch_range t left right (distance 13 from to) p q (omega arith) (omega (arith, a, b)), tt)

  line_range : (line : LabelLine) (lines : List LabelLine) → IsLine line → AllInRange (laid far whole line lines)
  line_range (Label name hook) lines h = tt
  line_range (Do i) lines h = (h, tt)
  line_range (Jump rd to) lines h =
      let p = place_whole far whole (from_label to whole) small in
      let l = Jump rd to ∷ lines in
      ((h, omega arith, omega (arith, at_whole far whole l, at_low far whole l, at_high far whole l small, p.0)), tt)
  line_range (Branch t left right to) lines h =
      let p = place_whole far whole (from_label to whole) small in
      let l = Branch t left right to ∷ lines in
      branched_range (far l) t left right (laid_at far whole l) (target far whole to) h.0 h.1 (at_whole far whole l) p.0 (at_low far whole l)
      (at_high far whole l small)

  in_range : (lines : List LabelLine) → AreLines lines → AllInRange (instrs far whole lines)
  in_range [] h = tt
  in_range (line ∷ lines) h = all_in_range-append (laid far whole line lines) (instrs far whole lines) (line_range line lines h.0) (in_range lines h.1)

  branched_long : (b : Bool) (t : Test) (left right from to : ℕ) → 4 * length (branched b t left right from to) ≡ (if b then 8 else 4)
  branched_long true t left right from to = refl
  branched_long false t left right from to = refl

  line_long : (line : LabelLine) (lines : List LabelLine) → 4 * length (laid far whole line lines) ≡ line_size (far (line ∷ lines)) line
  line_long (Label name hook) lines = refl
  line_long (Do i) lines = refl
  line_long (Jump rd to) lines = refl
  line_long (Branch t left right to) lines =
      let l = Branch t left right to ∷ lines in
      branched_long (far l) t left right (laid_at far whole l) (target far whole to)

  length-laid : (lines : List LabelLine) → 4 * length (instrs far whole lines) ≡ size far lines
  length-laid [] = refl
  length-laid (line ∷ lines) =
      let first = laid far whole line lines in
      omega (arith, length-laid lines, length-append first (instrs far whole lines), line_long line lines)

  -- what is laid out has the size that was said
  pub length-bytes : length (code_bytes (instrs far whole whole)) ≡ size far whole
  length-bytes = length-code (instrs far whole whole) ∙ length-laid whole

-- ---- the machine of an image

module _ (live : Lives) (sees : OfDataAndHeap live) (far : Far) (whole : List LabelLine) (small : size far whole ≤ 524288) (lines_are : AreLines whole)
    (reach : AllReach far whole whole) (leading : hooks_lead whole ≡ true) where
  abbrev here : List LabelLine → ℕ
  here = laid_at far whole

  abbrev at : Addresses
  at = mark_at far whole

  abbrev bytes_are : List ℕ
  bytes_are = code_bytes (instrs far whole whole)

  abbrev hooks : List HookAt
  hooks = hook_table far whole whole

  bytes_small : length bytes_are ≤ 524288
  bytes_small = subst (λ n. n ≤ 524288) (sym (length-bytes far whole small)) small

  abbrev Stand : List LabelLine → Type 0
  Stand left = Stands bytes_are (size far whole - size far left) (instrs far whole left)

  stand_from : (before left : List LabelLine) (o : ℕ) → o + size far (before ++ left) ≡ size far whole →
      Stands bytes_are o (instrs far whole (before ++ left)) →
      Stand left
  stand_from [] left o e h =
      let f : o ≡ size far whole - size far left = omega (arith, e) in
      subst (λ n. Stands bytes_are n (instrs far whole left)) f h
  stand_from (line ∷ before) left o e h =
      let more = before ++ left in
      let first = laid far whole line more in
      let long = line_long far whole small line more in
      stand_from before left (o + 4 * length first) (omega (arith, e, long)) (stands_back bytes_are o first (instrs far whole more) h)

  stand : (left : List LabelLine) → Within whole left → Stand left
  stand left h =
      let f : 0 + size far whole ≡ size far whole = omega arith in
      let all = stands_all (instrs far whole whole) (in_range far whole small whole lines_are) in
      stand_from h.0 left 0 (ap (λ l. 0 + size far l) (sym h.1) ∙ f) (subst (λ l. Stands bytes_are 0 (instrs far whole l)) h.1 all)

  reach_at : (before : List LabelLine) (line : LabelLine) (left : List LabelLine) → AllReach far whole (before ++ line ∷ left) →
      LineReaches far whole line left
  reach_at [] line left h = h.0
  reach_at (x ∷ before) line left h = reach_at before line left h.1

  -- ---- where steps come to

  abbrev Landing : List LabelLine → Type 0
  Landing left = (before : List LabelLine) × (whole ≡ before ++ left) × Lands before left

  landing_within : (left : List LabelLine) → Landing left → Within whole left
  landing_within left h = (h.0, h.1)

  behind_line : (line : LabelLine) (left : List LabelLine) → is_instruction line ≡ true → Within whole (line ∷ left) → Landing left
  behind_line line left e h = (h.0 ++ line ∷ [], h.1 ∙ sym (append_assoc h.0 (line ∷ []) left), lands_behind h.0 line left e)

  at_label : (left : List LabelLine) → begins left ≡ false → Within whole left → Landing left
  at_label left e h = (h.0, h.1, lands_at h.0 left e)

  at_mark : (line : LabelLine) (left : List LabelLine) → Within whole (line ∷ left) → Landing (marked line left)
  at_mark (Label name hook) left h = at_label (Label name hook ∷ left) refl h
  at_mark (Do i) left h = behind_line (Do i) left refl h
  at_mark (Jump rd to) left h = behind_line (Jump rd to) left refl h
  at_mark (Branch t a b to) left h = behind_line (Branch t a b to) left refl h

  shown_is : (left : List LabelLine) → Landing left → arrival hooks (here left) ≡ hook_at left
  shown_is left (before, is, lands) =
      let fit = subst (λ l. size far l ≤ size far whole) is (omega arith) in
      ap (λ l. arrival (hook_table far whole l) (here left)) is ∙
      arrives far whole before left fit (subst (λ l. hooks_lead l ≡ true) is leading) lands

  -- ---- the relation

  abbrev high_state : List LabelLine → State → State
  high_state left s = up bytes_are bytes_small (here left) s

  -- the machine of a state of label code
  abbrev of : List LabelLine → State → List ℕ → Run
  of left s input = record { state = high_state left s; input = input }

  record Alike (m : Run) (r : LabelRun) : Type 0 where
    none : r.state.code ≡ []
    within : Within whole r.left
    is : m ≡ of r.left r.state r.input

  abbrev mstep : Run → Next Event Run
  mstep = isa.step live hooks

  abbrev Sim : Run → LabelRun → Next Event LabelRun → Type 0
  Sim m r x = Does mstep Alike (λ r. length r.left) 2 m r x

  before_it : (left : List LabelLine) (s : State) (i : Instr) (is : List Instr) → Within whole left → instrs far whole left ≡ i ∷ is →
      Before (high_state left s) (size far whole - size far left) (i ∷ is)
  before_it left s i is h e = record {
    place = refl;
    code = subst (λ l. Stands bytes_are (size far whole - size far left) l) e (stand left h);
    small = bytes_small;
  }

  next_at : (left rest : List LabelLine) → size far left ≡ 4 + size far rest → size far left ≤ size far whole →
      (here left + 4) % 2 ^ 32 ≡ here rest
  next_at left rest e le = omega (arith, e, le, small)

  -- one instruction of the machine
  one : (left : List LabelLine) (s : State) (input : List ℕ) (i : Instr) (is : List Instr) (o : Outcome) → Within whole left →
      instrs far whole left ≡ i ∷ is → outcome_of (high_state left s) i ≡ o →
      mstep (of left s input) ≡ isa.shows live hooks (high_state left s) (isa.led (of left s input) o)
  one left s input i is o h e f = obeyed live hooks (of left s input) (size far whole - size far left) i is o (before_it left s i is h e) f

  -- one that goes on
  goes_one : (left : List LabelLine) (s next : State) (input : List ℕ) (i : Instr) (is : List Instr) → Within whole left →
      instrs far whole left ≡ i ∷ is →
      outcome_of (high_state left s) i ≡ leads.Goes next →
      mstep (of left s input) ≡ Goes (arrival hooks next.pc) 1 (record { state = next; input = input })
  goes_one left s next input i is h e o = one left s input i is (leads.Goes next) h e o

  onward_goes : (s next : State) (word to : ℕ) → to % 4 ≡ 0 → onward s word next to ≡ leads.Goes (record next { pc = to })
  onward_goes s next word to e = cond-true (to % 4 == 0) (leads.Goes (record next { pc = to })) (leads.Faults _ s.pc word) (eq-eqb (to % 4) 0 e)

  linked_up : (s : State) (rd x y pc : ℕ) (left : List LabelLine) → x ≡ y → pc ≡ here left →
      record (with_reg (high_state left s) rd x) { pc = pc } ≡ high_state left (with_reg s rd y)
  linked_up s zero x y pc left e f = ap (λ n. record (high_state left s) { pc = n }) f
  linked_up s (suc rd) x y pc left e f =
      ap (λ n. record (with_reg (high_state left s) (suc rd) n) { pc = pc }) e ∙ ap (λ n. record (with_reg (high_state left s) (suc rd) y) { pc = n }) f

  linked_from : (s : State) (rd x pc : ℕ) (a b : List LabelLine) →
      record (with_reg (high_state a s) rd x) { pc = pc } ≡ record (with_reg (high_state b s) rd x) { pc = pc }
  linked_from s zero x pc a b = refl
  linked_from s (suc rd) x pc a b = refl

  with_reg_code : (s : State) (rd x : ℕ) → (with_reg s rd x).code ≡ s.code
  with_reg_code s zero x = refl
  with_reg_code s (suc rd) x = refl

  -- ---- lines

  land_sim : (m : Run) (r : LabelRun) (left : List LabelLine) (next : State) (shown : List Event) (input : List ℕ) → next.code ≡ [] → Landing left →
      mstep m ≡ Goes (shown ++ arrival hooks (here left)) 1 (of left next input) → Sim m r (comes shown next left input)
  land_sim m r left next shown input none there e =
      let to = of left next input in
      let goes : mstep m ≡ Goes (shown ++ hook_at left) 1 to = e ∙ ap (λ es. Goes (shown ++ es) 1 to) (shown_is left there) in (
        to,
        1,
        steps_one mstep m to (shown ++ hook_at left) 1 2 goes (omega arith),
        record { none = none; within = landing_within left there; is = refl },
        inl (omega arith),
      )

  goto_sim : (m : Run) (r : LabelRun) (s : State) (o : Option (List LabelLine)) (input : List ℕ) →
      ((found : List LabelLine) → o ≡ Some found → Sim m r (comes [] s found input)) → Sim m r (goto s o input)
  goto_sim m r s None input h = tt
  goto_sim m r s (Some found) input h = h found refl

  abbrev at_lines : State → List LabelLine → List ℕ → LabelRun
  at_lines s left input = record { state = s; left = left; input = input }

  label_sim : (s : State) (input : List ℕ) (line : LabelLine) (rest : List LabelLine) → s.code ≡ [] → Within whole (line ∷ rest) →
      here (line ∷ rest) ≡ here rest →
      Sim (of (line ∷ rest) s input) (at_lines s (line ∷ rest) input) (Goes [] 0 (at_lines s rest input))
  label_sim s input line rest none h same =
      let m = of (line ∷ rest) s input in
      let is : m ≡ of rest s input = ap (λ n. record { state = up bytes_are bytes_small n s; input = input }) same in
      (m, 0, steps_none mstep m 0, record { none = none; within = within_next whole line rest h; is = is }, inr (omega arith))

  replied_sim : (left rest : List LabelLine) (s : State) (input : List ℕ) (low high : Reply) → size far left ≡ 4 + size far rest →
      size far left ≤ size far whole → s.code ≡ [] → Landing rest → UpReply bytes_are bytes_small (here left) s low high →
      mstep (of left s input) ≡ isa.shows live hooks (high_state left s) (isa.called (high_state left s) low) →
      Sim (of left s input) (at_lines s left input) (replied live whole at (at_lines s left input) rest high)
  replied_sim left rest s input low (Answers next more shown) long fit none there u e =
      let pc = next_at left rest long fit in
      land_sim (of left s input) (at_lines s left input) rest next shown more (u.1 ∙ none) there
      (e ∙ ap (λ x. isa.shows live hooks (high_state left s) (isa.called (high_state left s) x)) u.0 ∙
      ap (λ n. Goes (shown ++ arrival hooks n) 1 (record { state = up bytes_are bytes_small n next; input = more })) pc)
  replied_sim left rest s input low (Exits status) long fit none there u e =
      stops_one mstep (of left s input) [] 1 2 status (live s)
      (e ∙ ap (λ x. isa.shows live hooks (high_state left s) (isa.called (high_state left s) x)) u ∙
      ap (λ l. Ends [] 1 status l) (sees (high_state left s) s refl refl)) (omega arith)
  replied_sim left rest s input low (Fails kind) long fit none there u e = tt

  led_sim : (left rest : List LabelLine) (s : State) (input : List ℕ) (low high : Outcome) → size far left ≡ 4 + size far rest →
      size far left ≤ size far whole →
      s.code ≡ [] → Landing rest → Up bytes_are bytes_small (here left) s low high →
      mstep (of left s input) ≡ isa.shows live hooks (high_state left s) (isa.led (of left s input) low) →
      Sim (of left s input) (at_lines s left input) (led live whole at (at_lines s left input) rest high)
  led_sim left rest s input low (leads.Goes next) long fit none there u e =
      let pc = next_at left rest long fit in
      land_sim (of left s input) (at_lines s left input) rest next [] input (u.1 ∙ none) there
      (e ∙ ap (λ o. isa.shows live hooks (high_state left s) (isa.led (of left s input) o)) u.0 ∙
      ap (λ n. Goes (arrival hooks n) 1 (record { state = up bytes_are bytes_small n next; input = input })) pc)
  led_sim left rest s input low leads.Calls long fit none there u e =
      replied_sim left rest s input (call (high_state left s) input)
      (call s input) long fit none there (call_up bytes_are bytes_small (here left) s input none)
      (e ∙ ap (λ o. isa.shows live hooks (high_state left s) (isa.led (of left s input) o)) u)
  led_sim left rest s input low (leads.Faults kind pc word) long fit none there u e = tt

  -- a jump that keeps an address
  leap_sim : (s : State) (input : List ℕ) (rd kept x : ℕ) (i : Instr) (line : LabelLine) (rest found : List LabelLine) (is : List Instr) →
      s.code ≡ [] →
      Within whole (line ∷ rest) → Landing found → size far (line ∷ rest) ≡ 4 + size far rest → instrs far whole (line ∷ rest) ≡ i ∷ is →
      x ≡ here found →
      kept ≡ here rest → outcome_of (high_state (line ∷ rest) s) i ≡ onward (high_state (line ∷ rest) s) (word_of i)
      (with_reg (high_state (line ∷ rest) s) rd ((here (line ∷ rest) + 4) % 2 ^ 32)) x →
      (r : LabelRun) → Sim (of (line ∷ rest) s input) r (comes [] (with_reg s rd kept) found input)
  leap_sim s input rd kept x i line rest found is none h there long e to kept_is o r =
      let left = line ∷ rest in
      let back = (here left + 4) % 2 ^ 32 in
      let next = record (with_reg (high_state left s) rd back) { pc = x } in
      let goes : outcome_of (high_state left s) i ≡ leads.Goes next =
      o ∙ onward_goes (high_state left s) (with_reg (high_state left s) rd back) (word_of i) x (ap (λ n. n % 4) to ∙ at_whole far whole found) in
      let same : next ≡ high_state found (with_reg s rd kept) =
      linked_from s rd back x left found ∙ linked_up s rd back kept x found (next_at left rest long (fits_in far whole left h) ∙ sym kept_is) to in
      land_sim (of left s input) r found (with_reg s rd kept) [] input (with_reg_code s rd kept ∙ none) there
      (goes_one left s next input i is h e goes ∙ ap (λ t. Goes (arrival hooks t.pc) 1 (record { state = t; input = input })) same)

  jump_sim : (s : State) (input : List ℕ) (rd : ℕ) (to : LabelName) (rest : List LabelLine) → s.code ≡ [] → Within whole (Jump rd to ∷ rest) →
      Sim (of (Jump rd to ∷ rest) s input) (at_lines s (Jump rd to ∷ rest) input) (step live whole at (at_lines s (Jump rd to ∷ rest) input))
  jump_sim s input rd to rest none h =
      let left = Jump rd to ∷ rest in
      let kept = at (mark_before rest) in
      goto_sim (of left s input) (at_lines s left input) (with_reg s rd kept) (from_label to whole) input (λ found e.
      let there = label_within to whole found e in
      let to_is : target far whole to ≡ here found = ap (place_of far whole) e in
      let p = place_whole far whole (from_label to whole) small in
      let d = distance 21 (here left) (target far whole to) in
      let x = (here left + with_sign (2 ^ 20) d) % 2 ^ 32 in
      let high = at_high far whole left small in
      let x_is : x ≡ here found = jump_reaches (here left) (target far whole to) (at_low far whole left) p.1 (omega (arith, high)) p.2 ∙ to_is in
      leap_sim s input rd kept x (Jal rd d) (Jump rd to) rest found (instrs far whole rest) none h (at_label found there.1 there.0) refl refl x_is
      (mark_laid far whole (Jump rd to) rest h refl) refl (at_lines s left input))

  jalr_sim : (s : State) (input : List ℕ) (rd rs1 offset : ℕ) (rest : List LabelLine) → s.code ≡ [] →
      Within whole (Do (Jalr rd rs1 offset) ∷ rest) →
      Sim (of (Do (Jalr rd rs1 offset) ∷ rest) s input) (at_lines s (Do (Jalr rd rs1 offset) ∷ rest) input)
      (step live whole at (at_lines s (Do (Jalr rd rs1 offset) ∷ rest) input))
  jalr_sim s input rd rs1 offset rest none h =
      let line = Do (Jalr rd rs1 offset) in
      let left = line ∷ rest in
      let kept = at (mark_before rest) in
      let x = address s rs1 offset / 2 * 2 in
      goto_sim (of left s input) (at_lines s left input) (with_reg s rd kept) (from_mark at x whole) input (λ found e.
      let mark = mark_is far whole x whole found ([], refl) e in
      let there : Landing found = subst Landing (sym mark.3) (at_mark mark.0 mark.1 mark.2) in
      leap_sim s input rd kept x (Jalr rd rs1 offset) line rest found (instrs far whole rest) none h there refl refl (sym mark.4)
      (mark_laid far whole line rest h refl) refl (at_lines s left input))

  do_sim : (s : State) (input : List ℕ) (i : Instr) (rest : List LabelLine) → s.code ≡ [] → Within whole (Do i ∷ rest) →
      Sim (of (Do i ∷ rest) s input) (at_lines s (Do i ∷ rest) input) (step live whole at (at_lines s (Do i ∷ rest) input))
  do_sim s input i rest none h =
      let left = Do i ∷ rest in
      let r = at_lines s left input in
      let m = of left s input in
      elim (kind_of bytes_are bytes_small live whole at (here left) r rest i) [
        | inl plain ↦
            let link = next_pc (high_state left s) in
            let u = plain_up bytes_are bytes_small live whole at (here left) link (word_of i) r rest i none plain in
            let e = one left s input i (instrs far whole rest) (outcome_of (high_state left s) i) h refl refl in
            subst (Sim m r) (sym plain.2)
            (led_sim left rest s input (outcome_of (high_state left s) i)
            (obey s 0 0 i) refl (fits_in far whole left h) none (behind_line (Do i) rest refl h) u e)
        | inr (inl (rd, rs1, offset, is)) ↦
            subst (λ j. Within whole (Do j ∷ rest) →
            Sim (of (Do j ∷ rest) s input) (at_lines s (Do j ∷ rest) input) (step live whole at (at_lines s (Do j ∷ rest) input)))
            (sym is) (jalr_sim s input rd rs1 offset rest none) h
        | inr (inr fault) ↦ subst (Sim m r) (sym fault) tt
      ]

  -- ---- branches

  branch_one : (s : State) (input : List ℕ) (t : Test) (a b offset to : ℕ) (left : List LabelLine) (is : List Instr) → Within whole left →
      instrs far whole left ≡ branch_of t a b offset ∷ is → branches_to (high_state left s) (holds t (reg s a) (reg s b)) offset ≡ to →
      to % 4 ≡ 0 →
      mstep (of left s input) ≡ Goes (arrival hooks to) 1 (record { state = up bytes_are bytes_small to s; input = input })
  branch_one s input t a b offset to left is h e go even =
      let i = branch_of t a b offset in
      let st = high_state left s in
      goes_one left s (placed st to) input i is h e
      (ap (act st (next_pc st) (word_of i)) (branch_is st t a b offset) ∙
      branch_goes st (next_pc st) (word_of i) (holds t (reg s a) (reg s b)) offset to go even)

  taken_to : (left : List LabelLine) (s : State) (b : Bool) (offset to : ℕ) → b ≡ true → (here left + with_sign (2 ^ 12) offset) % 2 ^ 32 ≡ to →
      branches_to (high_state left s) b offset ≡ to
  taken_to left s b offset to e f = cond-true b ((here left + with_sign (2 ^ 12) offset) % 2 ^ 32) ((here left + 4) % 2 ^ 32) e ∙ f

  passed_to : (left : List LabelLine) (s : State) (b : Bool) (offset to : ℕ) → b ≡ false → (here left + 4) % 2 ^ 32 ≡ to →
      branches_to (high_state left s) b offset ≡ to
  passed_to left s b offset to e f = cond-false b ((here left + with_sign (2 ^ 12) offset) % 2 ^ 32) ((here left + 4) % 2 ^ 32) e ∙ f

  if_sim : (m : Run) (r : LabelRun) (b : Bool) (x y : Next Event LabelRun) → (b ≡ true → Sim m r x) → (b ≡ false → Sim m r y) →
      Sim m r (if b then x else y)
  if_sim m r true x y h g = h refl
  if_sim m r false x y h g = g refl

  near_sim : (s : State) (input : List ℕ) (t : Test) (a b : ℕ) (to : LabelName) (rest : List LabelLine) → far (Branch t a b to ∷ rest) ≡ false →
      s.code ≡ [] →
      Within whole (Branch t a b to ∷ rest) →
      Sim (of (Branch t a b to ∷ rest) s input) (at_lines s (Branch t a b to ∷ rest) input)
      (step live whole at (at_lines s (Branch t a b to ∷ rest) input))
  near_sim s input t a b to rest f none h =
      let line = Branch t a b to in
      let left = line ∷ rest in
      let r = at_lines s left input in
      let m = of left s input in
      let d = distance 13 (here left) (target far whole to) in
      let code : instrs far whole left ≡ branch_of t a b d ∷ instrs far whole rest =
      ap (λ x. branched x t a b (here left) (target far whole to) ++ instrs far whole rest) f in
      let long : size far left ≡ 4 + size far rest = ap (λ x. line_size x line + size far rest) f in
      let near : Reaches false (here left) (target far whole to) =
      subst (λ x. Reaches x (here left) (target far whole to)) f (reach_at h.0 line rest (subst (AllReach far whole) h.1 reach)) in
      let next = next_at left rest long (fits_in far whole left h) in
      let p = place_whole far whole (from_label to whole) small in
      let test = holds t (reg s a) (reg s b) in
      if_sim m r test (goto s (from_label to whole) input) (comes [] s rest input)
      (λ yes. goto_sim m r s (from_label to whole) input (λ found e.
      let there = label_within to whole found e in
      let x_is : (here left + with_sign (2 ^ 12) d) % 2 ^ 32 ≡ here found =
      branch_reaches (here left) (target far whole to) (at_low far whole left) p.1 (at_high far whole left small) p.2 near.0 near.1 ∙
      ap (place_of far whole) e in
      land_sim m r found s [] input none (at_label found there.1 there.0)
      (branch_one s input t a b d (here found) left (instrs far whole rest) h code (taken_to left s test d (here found) yes x_is)
      (at_whole far whole found))))
      (λ nope. land_sim m r rest s [] input none (behind_line line rest refl h)
      (branch_one s input t a b d (here rest) left (instrs far whole rest) h code (passed_to left s test d (here rest) nope next) (at_whole far whole rest)))

  -- the jump of a far branch, behind the branch over it
  over_jump : (s : State) (input : List ℕ) (t : Test) (a b : ℕ) (to : LabelName) (rest found : List LabelLine) (d : ℕ) →
      Within whole (Branch t a b to ∷ rest) →
      instrs far whole (Branch t a b to ∷ rest) ≡ branch_of (opposite t) a b 8 ∷ Jal 0 d ∷ instrs far whole rest →
      d ≡ distance 21 (here (Branch t a b to ∷ rest) + 4) (target far whole to) → target far whole to ≡ here found →
      mstep (record { state = up bytes_are bytes_small (here (Branch t a b to ∷ rest) + 4) s; input = input }) ≡
      Goes (arrival hooks (here found)) 1 (of found s input)
  over_jump s input t a b to rest found d h code d_is to_is =
      let left = Branch t a b to ∷ rest in
      let jump = Jal 0 d in
      let four = here left + 4 in
      let st = up bytes_are bytes_small four s in
      let low = at_low far whole left in
      let high = at_high far whole left small in
      let p = place_whole far whole (from_label to whole) small in
      let stands = (before_it left s (branch_of (opposite t) a b 8) (jump ∷ instrs far whole rest) h code).code in
      let ready : Before st (size far whole - size far left + 4) (jump ∷ instrs far whole rest) =
      record { place = omega arith; code = stands.3; small = bytes_small } in
      let x = (four + with_sign (2 ^ 20) d) % 2 ^ 32 in
      let x_is : x ≡ here found =
      ap (λ n. (four + with_sign (2 ^ 20) n) % 2 ^ 32) d_is ∙
      jump_reaches four (target far whole to) (omega (arith, low)) p.1 (omega (arith, high)) p.2 ∙ to_is in
      let goes : outcome_of st jump ≡ leads.Goes (record st { pc = x }) =
      onward_goes st st (word_of jump) x (ap (λ n. n % 4) x_is ∙ at_whole far whole found) in
      obeyed live hooks (record { state = st; input = input }) (size far whole - size far left + 4) jump (instrs far whole rest)
      (leads.Goes (record st { pc = x })) ready goes ∙
      ap (λ n. Goes (arrival hooks n) 1 (record { state = up bytes_are bytes_small n s; input = input })) x_is

  far_sim : (s : State) (input : List ℕ) (t : Test) (a b : ℕ) (to : LabelName) (rest : List LabelLine) → far (Branch t a b to ∷ rest) ≡ true →
      s.code ≡ [] →
      Within whole (Branch t a b to ∷ rest) →
      Sim (of (Branch t a b to ∷ rest) s input) (at_lines s (Branch t a b to ∷ rest) input)
      (step live whole at (at_lines s (Branch t a b to ∷ rest) input))
  far_sim s input t a b to rest f none h =
      let line = Branch t a b to in
      let left = line ∷ rest in
      let r = at_lines s left input in
      let m = of left s input in
      let u = opposite t in
      let d = distance 21 (here left + 4) (target far whole to) in
      let is = Jal 0 d ∷ instrs far whole rest in
      let code : instrs far whole left ≡ branch_of u a b 8 ∷ is =
      ap (λ x. branched x t a b (here left) (target far whole to) ++ instrs far whole rest) f in
      let long : size far left ≡ 8 + size far rest = ap (λ x. line_size x line + size far rest) f in
      let fit = fits_in far whole left h in
      let test = holds t (reg s a) (reg s b) in
      let other : holds u (reg s a) (reg s b) ≡ not test = opposite_is t (reg s a) (reg s b) in
      let four = here left + 4 in
      let high = at_high far whole left small in
      let four_is : (here left + 4) % 2 ^ 32 ≡ four = omega (arith, high) in
      let whole_left = at_whole far whole left in
      let four_whole : four % 4 ≡ 0 = omega (arith, whole_left) in
      let over : (here left + with_sign (2 ^ 12) 8) % 2 ^ 32 ≡ here rest = omega (arith, long, fit, small) in
      if_sim m r test (goto s (from_label to whole) input) (comes [] s rest input)
      (λ yes. goto_sim m r s (from_label to whole) input (λ found e.
      let there = at_label found (label_within to whole found e).1 (label_within to whole found e).0 in
      let mid : Run = record { state = up bytes_are bytes_small four s; input = input } in
      let end = of found s input in
      let quiet : arrival hooks four ≡ [] =
      ap (λ l. arrival (hook_table far whole l) four) h.1 ∙
      quiet_inside far whole h.0 line rest four refl (subst (λ l. size far l ≤ size far whole) h.1 (omega arith)) (omega arith)
      (omega (arith, long, fit)) in
      let first : mstep m ≡ Goes [] 1 mid =
      branch_one s input u a b 8 four left is h code
      (passed_to left s (holds u (reg s a) (reg s b)) 8 four (other ∙ not_from_true test yes) four_is) four_whole ∙
      ap (λ es. Goes es 1 mid) quiet in
      let second : mstep mid ≡ Goes (hook_at found) 1 end =
      over_jump s input t a b to rest found d h code refl (ap (place_of far whole) e) ∙ ap (λ es. Goes es 1 end) (shown_is found there) in (
        end,
        2,
        steps_on mstep 1 1 1 1 m mid end [] (hook_at found) (steps_one mstep m mid [] 1 1 first (omega arith))
            (steps_one mstep mid end (hook_at found) 1 1 second (omega arith)),
        record { none = none; within = landing_within found there; is = refl },
        inl (omega arith),
      )))
      (λ nope. land_sim m r rest s [] input none (behind_line line rest refl h)
      (branch_one s input u a b 8 (here rest) left is h code
      (taken_to left s (holds u (reg s a) (reg s b)) 8 (here rest) (other ∙ not_from_false test nope) over)
      (at_whole far whole rest)))

  branch_sim : (s : State) (input : List ℕ) (t : Test) (a b : ℕ) (to : LabelName) (rest : List LabelLine) (is_far : Bool) →
      far (Branch t a b to ∷ rest) ≡ is_far →
      s.code ≡ [] → Within whole (Branch t a b to ∷ rest) →
      Sim (of (Branch t a b to ∷ rest) s input) (at_lines s (Branch t a b to ∷ rest) input)
      (step live whole at (at_lines s (Branch t a b to ∷ rest) input))
  branch_sim s input t a b to rest false f none h = near_sim s input t a b to rest f none h
  branch_sim s input t a b to rest true f none h = far_sim s input t a b to rest f none h

  -- ---- all of them

  lines_sim : (s : State) (input : List ℕ) (left : List LabelLine) → s.code ≡ [] → Within whole left →
      Sim (of left s input) (at_lines s left input) (step live whole at (at_lines s left input))
  lines_sim s input [] none h = tt
  lines_sim s input (Label name hook ∷ rest) none h = label_sim s input (Label name hook) rest none h (omega arith)
  lines_sim s input (Do i ∷ rest) none h = do_sim s input i rest none h
  lines_sim s input (Jump rd to ∷ rest) none h = jump_sim s input rd to rest none h
  lines_sim s input (Branch t a b to ∷ rest) none h = branch_sim s input t a b to rest (far (Branch t a b to ∷ rest)) refl none h

  all_sim : (m : Run) (r : LabelRun) → Alike m r → Sim m r (step live whole at r)
  all_sim m r h = subst (λ x. Sim x r (step live whole at r)) (sym h.is) (lines_sim r.state r.input r.left h.none h.within)

  -- ---- the whole

  abbrev image : (statics : List ℕ) (heap stack : ℕ) → Image
  image statics heap stack = record { code = bytes_are; statics = statics; heap = heap; stack = stack; hooks = hooks }

  first_alike : (statics : List ℕ) (heap stack : ℕ) (input : List ℕ) →
      Alike (isa.start (image statics heap stack) input) (start whole statics heap stack input)
  unfolding first_state start
  first_alike statics heap stack input =
      let e : code_at ≡ here whole = omega arith in
      record {
        none = refl;
        within = ([], refl);
        is = ap (λ n. record {
          state = record { regs = replicate 32 0; pc = n; code = bytes_are; statics = statics; heap = replicate heap 0; stack = replicate stack 0 };
          input = input;
        }) e;
      }

  pub image_agrees : (statics : List ℕ) (heap stack : ℕ) (input : List ℕ) → Sound (label_meaning live whole at statics heap stack input) →
      Agrees (machine live (image statics heap stack) input) (label_meaning live whole at statics heap stack input)
  image_agrees statics heap stack input ok =
      agrees_by_simulation mstep (step live whole at) Alike (λ r. length r.left) 2 all_sim _ _ (first_alike statics heap stack input) ok

  pub image_paced : (statics : List ℕ) (heap stack : ℕ) (input : List ℕ) → Sound (label_meaning live whole at statics heap stack input) →
      Paced 2 (machine live (image statics heap stack) input) (label_meaning live whole at statics heap stack input)
  image_paced statics heap stack input ok =
      paced_by_simulation mstep (step live whole at) Alike (λ r. length r.left) 2 all_sim _ _ (first_alike statics heap stack input) ok
