-- What word code does that calls a procedure with lines, up to the first line of that one.
use Rattle.std.proofs.Common.{◌≡◌, inr, ℕ, suc, ◌+◌, ◌%◌, ◌^◌, ◌≤◌, List, [], ◌∷◌, length, map}
use Rattle.std.proofs.Common.{Option, Some, None, Bool, true, false, refl, sym, ap, ap₂, subst, ◌∙◌, arith}
use Rattle.std.specs.Prelude.{nat_le, if◌then◌else◌}
use Rattle.std.proofs.lemmas.Bool.{and_right, cond-false, lt-leb}
use Rattle.arc_base.specs.Stepping.{Goes, Faults, next_map}
use Rattle.nim_program.specs.declared.program.HookOf.{HookOf}
use Rattle.nim_meaning.specs.Meaning.{seen_call as block_seen}
use Rattle.flat_code.specs.declared.block.BlockLine.{BlockLine}
use Rattle.flat_code.specs.Fits.{Signature}
use Rattle.word_code.specs.declared.word.WordInstr.{WordInstr}
use Rattle.word_code.specs.declared.word.WordInstr.TheVariants.{Argument, Call}
use Rattle.word_code.specs.declared.word.WordProc.{WordProc}
use Rattle.word_code.specs.Words.{Vars, no_words, put, params_of, WordFrame, WordState, seen_call, is_counted, counted, most_calls, is_full, scene_of, entered}
use Rattle.word_code.proofs.ForCallers.{Within, at, run_argument}
use Rattle.word_lowering.specs.declared.homes.TheConstants.{LEFT, FIRST}
use Rattle.word_lowering.specs.declared.spots.Spot.{Spot}
use Rattle.word_lowering.specs.declared.spots.Spot.TheVariants.{Held, Lies, Letter}
use Rattle.word_lowering.specs.LineCode.{given_code, entered_code, value, proc_number}
use Rattle.word_lowering.specs.Lowered.{word_proc, kind_of, kind_in, lowered}
use Rattle.word_lowering.specs.Spots.{spot_of}
use Rattle.word_lowering.proofs.Callees.{Callee}
use Rattle.word_lowering.proofs.JoinedRoutines.{found_own}
use Rattle.word_lowering.proofs.Lines.{Basis, all_procs, starts, IsGood, lower, machine}
use Rattle.word_lowering.proofs.Related.{Both, Waits, called_by, body_of, sites_of, within, code_behind, awaits_in, awaits_for, goes_on, left_for, frame_of}
use Rattle.word_lowering.proofs.Sites.{room, around, word_of}
use Rattle.arc_base.specs.Simulation.{Steps}
use Rattle.arc_base.proofs.ForCallers.{steps_one, steps_on}
use Rattle.word_code.specs.Memory.{Memory, with_places}

-- calls that count are calls
counted_most : (frames : List WordFrame) → counted frames ≤ length frames
counted_most [] = omega arith
counted_most (f ∷ frames) = by (is_counted f.proc.kind) (counted_most frames)
  where
    by : (b : Bool) → counted frames ≤ length frames → (if b then suc (counted frames) else counted frames) ≤ suc (length frames)
    by true h = omega (arith, h)
    by false h = omega (arith, h)

module _ {A B : Type 0} (f : A → B) where
  map_length : (xs : List A) → length (map f xs) ≡ length xs
  map_length [] = refl
  map_length (x ∷ xs) = ap suc (map_length xs)

-- the same is seen of both
seen_same : (hook : Option HookOf) → seen_call (kind_of hook) ≡ block_seen hook
seen_same None = refl
seen_same (Some hook) = refl

module _ (x : Basis) (g : Both) (line : BlockLine) (rest : List BlockLine) (y : IsGood x (starts g line rest)) {proc : ℕ} {s : Signature}
    (c : Callee x.table x.blocks proc s) (to : ℕ) where
  abbrev k : List WordInstr
  k = code_behind x.table x.blocks (body_of g) rest

  -- the code behind the check
  abbrev pub code_called : List WordInstr
  code_called = Argument LEFT FIRST ∷ given_code (around x.table x.blocks (body_of g)) proc to k

  abbrev waits_then : Waits
  waits_then = record { call = g.call; rest = rest; to = to; proc = proc }

  given_is : given_code (around x.table x.blocks (body_of g)) proc to k
      ≡ Call (awaits_for x.table x.blocks (body_of g) to) (proc_number proc) ∷ left_for x.table x.blocks (body_of g) to proc k
  given_is = by (spot_of (value (around x.table x.blocks (body_of g)) to))
    where
      by : (p : Spot) → entered_code (around x.table x.blocks (body_of g)) proc (value (around x.table x.blocks (body_of g)) to) p
          (code_behind x.table x.blocks (body_of g) rest)
          ≡ Call (awaits_in x.table x.blocks p) (proc_number proc)
          ∷ goes_on x.table x.blocks (body_of g) (value (around x.table x.blocks (body_of g)) to) p proc (code_behind x.table x.blocks (body_of g) rest)
      by (Held v) = refl
      by (Lies home) = refl
      by (Letter home) = refl

  -- the new call
  abbrev pub within_then : Within
  within_then = record {
    units = g.units;
    input = g.input;
    proc = word_of x.table x.blocks c.body;
    base = g.call.site.base + room (body_of g);
    awaits = 0;
    callers = frame_of x.table x.blocks waits_then ∷ map (frame_of x.table x.blocks) g.waiting;
  }

  -- memory with its places, which bring these bytes with them
  abbrev pub memory_then : List ℕ → Memory
  memory_then bytes = with_places g.memory (room c.body) bytes

  -- to its first line, from a state before which so many lines were done
  pub record Entered (left before : ℕ) : Type 0 where
    pub behind : ℕ
    pub bytes : List ℕ
    pub steps : Steps (machine x) 2 (before, at (within x.table x.blocks g) g.memory code_called g.call.vars g.words) (block_seen c.body.proc.hook) 2 (
      behind,
      at within_then (memory_then bytes) (word_of x.table x.blocks c.body).lines
          (params_of (word_of x.table x.blocks c.body) (put g.words LEFT left)) no_words,
    )

  pub enters : (left : ℕ) → g.call.site.left ≡ suc left → g.call.vars FIRST ≡ Some left → c.body.own.runs ≡ true → (before : ℕ) → Entered left before
  enters left e first runs before =
      let p : WordProc = word_of x.table x.blocks c.body in
      let to_variable : ℕ = awaits_for x.table x.blocks (body_of g) to in
      let after : List WordInstr = left_for x.table x.blocks (body_of g) to proc k in
      let l1 : List WordInstr = Call to_variable (proc_number proc) ∷ after in
      let code : code_called ≡ Argument LEFT FIRST ∷ l1 = ap (λ l. Argument LEFT FIRST ∷ l) given_is in
      let words : Vars = put g.words LEFT left in
      let u : WordState = at (within x.table x.blocks g) g.memory l1 g.call.vars words in
      let r1 = (run_argument x.live (all_procs x) (within x.table x.blocks g) g.memory l1 g.call.vars g.words LEFT FIRST first).by x.fresh before in
      let bytes : List ℕ = x.fresh r1.0 in
      let t : WordState = at within_then (memory_then bytes) p.lines (params_of p words) no_words in
      let found = c.found runs in
      let there = found_own x.runtimes (lowered x.table x.blocks) (proc_number proc)
      (word_proc (around x.table x.blocks c.body) c.body.number c.body.proc) found.0 (inr (omega arith)) found.1 in
      let many = map_length (frame_of x.table x.blocks) g.waiting in
      let levels = sites_many in
      let least = counted_most (u.frame ∷ u.callers) in
      let full : is_full p (u.frame ∷ u.callers) ≡ false
      = and_right (is_counted p.kind) (nat_le most_calls (counted (u.frame ∷ u.callers)))
      (lt-leb most_calls (counted (u.frame ∷ u.callers)) (omega (arith, many, levels, least, e, y.linked.3))) in
      let shown : seen_call p.kind ≡ block_seen c.body.proc.hook
      = ap (λ b. seen_call (kind_in b c.body.proc.hook)) c.start ∙ seen_same c.body.proc.hook in
      let within_stack = x.within (sites_of g) y.linked in
      let base : (g.call.site.base + room (body_of g)) % 2 ^ 32 ≡ g.call.site.base + room (body_of g) = omega (arith, within_stack) in
      let call : lower x bytes u ≡ Goes (block_seen c.body.proc.hook) 1 t
      = ap (entered bytes u after (scene_of u) to_variable) there
      ∙ cond-false (is_full p (u.frame ∷ u.callers)) Faults (Goes (seen_call p.kind) 1
      (record t { frame = record t.frame { base = (g.call.site.base + room (body_of g)) % 2 ^ 32 } })) full
      ∙ ap₂ (λ es b. Goes es 1 (record t { frame = record t.frame { base = b } })) shown base in
      let r2 : Steps (machine x) 1 (r1.0, u) (block_seen c.body.proc.hook) 1 (suc r1.0, t)
      = steps_one (machine x) (r1.0, u) (suc r1.0, t) (block_seen c.body.proc.hook) 1 1 (ap (next_map (λ s. (suc r1.0, s))) call) (omega arith) in
      record {
        behind = suc r1.0;
        bytes = bytes;
        steps = subst (λ l. Steps (machine x) 2 (before, at (within x.table x.blocks g) g.memory l g.call.vars g.words) (block_seen c.body.proc.hook) 2
            (suc r1.0, t)) (sym code)
            (steps_on (machine x) 1 1 1 1 (before, at (within x.table x.blocks g) g.memory (Argument LEFT FIRST ∷ l1) g.call.vars g.words) (r1.0, u)
            (suc r1.0, t) [] (block_seen c.body.proc.hook) r1.1 r2);
      }
    where
      sites_many : g.call.site.level ≡ length g.waiting
      sites_many = y.linked.2 ∙ by g.waiting
        where
          by : (ws : List Waits) → length (map (λ d. d.site) (map called_by ws)) ≡ length ws
          by [] = refl
          by (w ∷ ws) = ap suc (by ws)
