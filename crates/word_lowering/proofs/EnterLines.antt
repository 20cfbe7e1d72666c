-- A procedure with lines is entered, behind the check that it isn't one call too many: both states belong together then.
use Rattle.std.proofs.Common.{◌≡◌, inl, ℕ, suc, ◌+◌, ◌*◌, ◌^◌, ◌<◌, ◌≤◌, List, [], ◌∷◌, ◌++◌, Option, Some, None, true, Ok, length}
use Rattle.word_lowering.proofs.ShapeFacts.{never}
use Rattle.std.proofs.Common.{refl, sym, ap, subst, ◌∙◌, arith}
use Rattle.std.specs.Prelude.{nat_lt, not}
use Rattle.std.proofs.lemmas.Bool.{cond-true, lt-ltb}
use Rattle.arc_base.specs.Simulation.{Steps}
use Rattle.nim_program.specs.declared.program.HookOf.{HookOf}
use Rattle.nim_meaning.specs.Meaning.{seen_call}
use Rattle.nim_meaning.specs.Values.{Slot}
use Rattle.flat_code.specs.declared.block.BlockLine.{BlockLine}
use Rattle.flat_code.specs.Codes.{proc_of}
use Rattle.flat_code.specs.Fits.{Signature}
use Rattle.flat_code.specs.Running.{entered, begin_work}
use Rattle.word_code.specs.declared.word.WordInstr.{WordInstr}
use Rattle.word_code.specs.declared.word.WordProc.{WordProc}
use Rattle.word_code.specs.Words.{Vars, WordState, no_words, put, params_of}
use Rattle.word_code.proofs.ForCallers.{Runs, Within, at, then_runs}
use Rattle.word_lowering.specs.declared.homes.TheConstants.{LEFT, FIRST, OWN_FROM}
use Rattle.word_lowering.specs.Layouts.{params_in, result_in, is_empty, kept_in}
use Rattle.word_lowering.specs.Lowered.{result_cleared}
use Rattle.word_lowering.proofs.HeapKept.{SameHeap}
use Rattle.word_lowering.proofs.Callees.{Callee}
use Rattle.word_lowering.proofs.EnterRuns.{code_called, within_then, enters, memory_then}
use Rattle.word_lowering.proofs.FirstPlaces.{Gave, gave_still}
use Rattle.word_lowering.proofs.LabelsHere.{code_is}
use Rattle.word_lowering.proofs.Lines.{Basis, FollowsFrom, all_procs, IsGood, known, starts, machine, IsQuiet, none_past}
use Rattle.word_lowering.proofs.NewCalls.{VarsThen, sites_then, linked_then}
use Rattle.word_lowering.proofs.NewStates.{ended, ready, world_then}
use Rattle.word_lowering.proofs.OrdinalRuns.{put_here, put_other}
use Rattle.word_lowering.proofs.Related.{Answers, Both, body_of, code_behind, high, sites_of, within, MemoryGood}
use Rattle.word_lowering.proofs.RoutineCalls.{awaiting}
use Rattle.word_lowering.proofs.Sites.{around, lines_of, room, word_of, next_base}
use Rattle.arc_base.proofs.ForCallers.{steps_on}
use Rattle.word_code.specs.Memory.{Memory, number_at}
use Rattle.word_lowering.proofs.CallPlaces.{Grown, places_come, still_read, good_come, heap_still}
use Rattle.rv32_isa.specs.declared.micro_op.Size.TheVariants.{Word}
use Rattle.word_lowering.specs.declared.homes.Waiter.{Waiter}
use Rattle.word_lowering.proofs.WaitingRuns.{none_runs, zeroed, zeroed_below, zeroed_is}

-- nothing more is seen
no_more : (hook : Option HookOf) → seen_call hook ++ [] ≡ seen_call hook
no_more None = refl
no_more (Some hook) = refl

module _ (x : Basis) (g : Both) (line : BlockLine) (rest : List BlockLine) (y : IsGood x (starts g line rest)) {proc : ℕ} {s : Signature}
    (c : Callee x.table x.blocks proc s) (slots : List Slot)
    (gave : Gave x.table x.blocks g.memory (sites_of g) g.ground g.world g.words (g.call.site.base + room (body_of g)) slots (params_in c.body.own.all))
    (left : ℕ) (e : g.call.site.left ≡ suc left) (to : ℕ)
    (answers : Answers x.table x.blocks c.body (record { call = g.call; rest = rest; to = to; proc = proc })) where
  abbrev limit : ℕ
  limit = OWN_FROM + kept_in (params_in c.body.own.all)

  abbrev word_then : WordProc
  word_then = word_of x.table x.blocks c.body

  small : suc left < 2 ^ 32
  small = let h = y.linked.3 in omega (arith, h, e)

  abbrev handed_on : Vars
  handed_on = params_of word_then (put g.words LEFT left)

  handed_left : handed_on LEFT ≡ Some left
  handed_left =
      cond-true (nat_lt LEFT limit) (put g.words LEFT left LEFT) None (lt-ltb LEFT limit (omega arith))
      ∙ put_here g.words LEFT left (let h = small in omega (arith, h))

  handed_param : (v : ℕ) → OWN_FROM ≤ v → v < limit → handed_on v ≡ g.words v
  handed_param v low high =
      cond-true (nat_lt v limit) (put g.words LEFT left v) None (lt-ltb v limit high)
      ∙ put_other g.words LEFT left v (λ h. absurd (omega (arith, h, low)))

  -- its waiters' variables are behind those
  abbrev waiters : List Waiter
  waiters = c.body.own.waiters

  abbrev begun_vars : Vars
  begun_vars = zeroed waiters handed_on

  begun_left : begun_vars LEFT ≡ Some left
  begun_left = zeroed_below waiters handed_on limit LEFT c.waiters_from (omega arith) ∙ handed_left

  begun_param : (v : ℕ) → OWN_FROM ≤ v → v < limit → begun_vars v ≡ g.words v
  begun_param v low high = zeroed_below waiters handed_on limit v c.waiters_from high ∙ handed_param v low high

  abbrev here : Within
  here = within_then x g line rest y c to

  abbrev k : List WordInstr
  k = code_behind x.table x.blocks c.body c.body.proc.lines

  -- ---- memory with the places of the new call

  module _ (bytes : List ℕ) where
    abbrev memory : Memory
    memory = memory_then x g line rest y c to bytes

    comes : Grown g.memory memory (room c.body)
    comes = places_come g.memory (room c.body) bytes

    gave_then : Gave x.table x.blocks memory (sites_of g) g.ground g.world g.words (g.call.site.base + room (body_of g)) slots (params_in c.body.own.all)
    gave_then = gave_still x.table x.blocks g.memory memory (sites_of g) g.ground g.world g.words (g.call.site.base + room (body_of g))
        (λ a w h r. still_read g.memory memory (room c.body) comes a w (let p = y.memory.places in omega (arith, h, p)) r)
        slots (params_in c.body.own.all) c.spare gave

    good_then : MemoryGood x.table x.blocks (sites_then x g line rest y c memory slots gave_then left e) x.first memory
    good_then = good_come g.memory memory (room c.body) comes x (sites_of g) (sites_then x g line rest y c memory slots gave_then left e) y.linked
        refl y.memory (linked_then x g line rest y c memory slots gave_then left e)

    heap_there : SameHeap g.memory memory
    heap_there = heap_still g.memory memory (room c.body) comes x (sites_of g) (sites_then x g line rest y c memory slots gave_then left e) y.linked refl
        y.memory.sized

    still_then : (a w : ℕ) → a + 4 ≤ next_base (sites_of g) → number_at g.memory a Word ≡ Ok w → number_at memory a Word ≡ Ok w
    still_then a w h r = still_read g.memory memory (room c.body) comes a w (let p = y.memory.places in omega (arith, h, p)) r

  -- from wherever some lines come to what is behind the check
  pub entered_line : IsQuiet x line → g.call.vars FIRST ≡ Some left → (l : BlockLine) (ls : List BlockLine) → c.body.proc.lines ≡ l ∷ ls
      → (t : WordState) (before work : ℕ) → before + 10 ≤ 256 * work
      → Runs x.live (all_procs x) before t (at (within x.table x.blocks g) g.memory (code_called x g line rest y c to) g.call.vars g.words)
      → FollowsFrom x t (starts g line rest)
      (entered (high x.table x.blocks (starts g line rest)) rest to slots work left (proc_of (known x) c.body.proc) (l ∷ ls))
  entered_line plain number l ls is t before work few_before runs_before done =
      let runs : c.body.own.runs ≡ true = c.runs ∙ ap (λ q. not (is_empty q)) is in
      let r1 = runs_before.by x.fresh done in
      let n = enters x g line rest y c to left e number runs r1.0 in
      let m : Memory = memory_then x g line rest y c to n.bytes in
      let gave_m = gave_then n.bytes in
      let vars_m : VarsThen x g line rest y c m slots gave_m left e begun_vars
      = record { left_is = begun_left; handed = begun_param; zeros = zeroed_is waiters handed_on } in
      let r = ready x g line rest y c m slots gave_m left e to answers (good_then n.bytes) (heap_there n.bytes) (still_then n.bytes) begun_vars vars_m k l
      ls is in
      let lines = code_is (around x.table x.blocks c.body) (lines_of c.body) in
      let first : ℕ = length waiters in
      let ready_runs : Runs x.live (all_procs x) (first + r.steps) (at here m (word_of x.table x.blocks c.body).lines handed_on no_words)
      (at (awaiting here r.awaits) r.memory k r.vars_then r.words)
      = subst (λ z. Runs x.live (all_procs x) (first + r.steps) (at here m z handed_on no_words)
      (at (awaiting here r.awaits) r.memory k r.vars_then r.words))
      (sym lines)
      (then_runs x.live (all_procs x)
      (none_runs x.live (all_procs x) here m (result_cleared (result_in c.body.own.all) k) no_words waiters handed_on) r.runs) in
      let r3 = ready_runs.by x.fresh n.behind in
      let last : ℕ × WordState = (r3.0, at (awaiting here r.awaits) r.memory k r.vars_then r.words) in
      let called : WordState = at (within x.table x.blocks g) g.memory (code_called x g line rest y c to) g.call.vars g.words in
      let first_line : WordState = at here m (word_of x.table x.blocks c.body).lines handed_on no_words in
      let after : ℕ = first + r.steps in
      let r2 = steps_on (machine x) before (2 + after) before (2 + after) (done, t) (r1.0, called) last [] (seen_call c.body.proc.hook ++ []) r1.1
      (steps_on (machine x) 2 after 2 after (r1.0, called) (n.behind, first_line) last (seen_call c.body.proc.hook) [] n.steps r3.1) in
      let less = r.few in
      let waiting = c.waiters_few in
      let world = world_then x g line rest y c m slots gave_m left e to answers (good_then n.bytes) (heap_there n.bytes) (still_then n.bytes) begun_vars
      vars_m in
      let then : Both = ended x g line rest y c m slots gave_m left e to answers (good_then n.bytes) (heap_there n.bytes) (still_then n.bytes) begun_vars
      vars_m world
      r.vars_then r.memory r.words r.awaits in (
        last,
        before + (2 + after),
        subst (λ es. Steps (machine x) (before + (2 + after)) (done, t) es (256 * (work + begin_work (proc_of (known x) c.body.proc))) last)
            (no_more c.body.proc.hook)
            (record { work = r2.work; within = (let w = r2.within in omega (arith, w, less, few_before, waiting)); by = r2.by }),
        (inl (then, r.good, r3.0), ap (λ (u : WordState). (r3.0, u)) (none_past x line rest plain then), refl, λ waits. never (sym plain ∙ waits)),
        inl (omega arith),
      )
