-- The label code of word code does what the word code does, where new places have the bytes that the machine's stack has there.
use Rattle.std.proofs.Common.{◌≡◌, ℕ, zero, suc, ◌+◌, ◌*◌, ◌≤◌, inl, inr, List, [], ◌∷◌, ◌++◌}
use Rattle.std.proofs.Common.{Option, Some, None, refl, sym, ap, subst, ◌∙◌, arith, append-nil, add_assoc, length}
use Rattle.std.specs.Prelude.{replicate}
use Rattle.arc_base.specs.Event.{Event}
use Rattle.arc_base.specs.Behaviour.{Live, Ended, Faulted, Agrees, Sound, Behaviour}
use Rattle.arc_base.specs.Pace.{Paced}
use Rattle.arc_base.specs.Stepping.{Next, Goes, Ends, Faults, Errs, next_map, run, seen, behaviour}
use Rattle.arc_base.specs.Simulation.{Steps, Stops, Does}
use Rattle.arc_base.proofs.ForCallers.{steps_on, steps_none, agrees_by_simulation, paced_by_simulation}
use Rattle.rv32_isa.specs.Image.{stack_at}
use Rattle.rv32_isa.specs.LabelsMeaning.{LabelRun, step, label_meaning}
use Rattle.rv32_isa.specs.LabelsMeaning as labels
use Rattle.word_code.specs.declared.word.TheConstants.{SPARE_ROOM}
use Rattle.word_code.specs.declared.word.WordProc.{WordProc}
use Rattle.word_code.specs.Memory.{data_of}
use Rattle.word_code.specs.Words.{WordState, Fresh, no_words, from_proc, first_of, step_of}
use Rattle.word_code.specs.Words as words
use Rattle.rv32_codegen.proofs.Machine.{Goes_in}
use Rattle.rv32_codegen.proofs.Frames.{Setting, whole, Rel, Sim}
use Rattle.rv32_codegen.proofs.Start.{HasWork, works, all_sim, Holding, first, first_is, begins}

module _ (g : Setting) where
  -- ---- the bytes

  -- states that go together
  record Pair : Type 0 where
    low : LabelRun
    high : WordState
    same : Rel g low high

  -- those behind a line, if word code goes on
  abbrev next_pair : (r : LabelRun) (t : WordState) (x : Next Event WordState) → Sim g r t x → Option Pair
  next_pair r t (Goes es w t') h = Some (record { low = h.0; high = t'; same = h.3 })
  next_pair r t (Ends es w status live) h = None
  next_pair r t Faults h = None
  next_pair r t Errs h = None

  abbrev pair_after : Option Pair → Option Pair
  pair_after None = None
  pair_after (Some p) = next_pair p.low p.high (words.step g.live g.procs p.same.ws p.high) (all_sim g p.low p.high p.same)

  -- those behind so many lines
  abbrev pair_at : Pair → ℕ → Option Pair
  pair_at start zero = Some start
  pair_at start (suc n) = pair_after (pair_at start n)

  abbrev behind_places : Option Pair → List ℕ
  behind_places None = []
  behind_places (Some p) = p.same.ws

  fresh_of : Pair → Fresh
  fresh_of start n = behind_places (pair_at start n)

  -- ---- line by line

  -- label code's machine comes to the state that goes with word code's
  Arrives : Pair → LabelRun → ℕ × WordState → Type 0
  Arrives start r x =
      (s : LabelRun) × (k : ℕ) × Steps (step g.live (whole g) g.at) k r [] 16 s
      × (rel : Rel g s x.1) × (pair_at start x.0 ≡ Some (record { low = s; high = x.1; same = rel }))

  stops_after : (k : ℕ) (r s : LabelRun) (es : List Event) (w status : ℕ) (live : Live) → 1 ≤ w →
      Steps (step g.live (whole g) g.at) k r [] 16 s →
      Stops (step g.live (whole g) g.at) s es (16 * w) status live → Stops (step g.live (whole g) g.at) r es (32 * w) status live
  stops_after k r s es w status live some x y = record {
    work = x.work + y.work;
    within = omega (arith, x.within, y.within, some);
    by = let v = y.by in let u = x.by v.0 in (
      u.0,
      λ out done.
          u.2 out done ∙ v.1 (out ++ []) (done + x.work)
          ∙ ap (λ o. seen (o ++ es) (Ended status live) (done + x.work + y.work)) (append-nil out)
          ∙ ap (λ i. seen (out ++ es) (Ended status live) i) (add_assoc done x.work y.work),
    );
  }

  -- what comes of a line, with the number of lines that are done then
  abbrev numbered : ℕ → Next Event WordState → Next Event (ℕ × WordState)
  numbered n x = next_map (λ t. (suc n, t)) x

  arrive : (start : Pair) (r s : LabelRun) (n : ℕ) (t : WordState) (k : ℕ) (x : Next Event WordState) →
      Steps (step g.live (whole g) g.at) k r [] 16 s → HasWork x → (h : Sim g s t x) → pair_at start (suc n) ≡ next_pair s t x h →
      Does (step g.live (whole g) g.at) (Arrives start) (λ x. length x.1.frame.left) 32 r (n, t) (numbered n x)
  unfolding Arrives
  arrive start r s n t k (Goes es w t') ran some (s', least, st, rel, inl pos) at =
      let all = steps_on (step g.live (whole g) g.at) k least 16 (16 * w) r s s' [] es ran st in (
        s',
        k + least,
        record { work = all.work; within = omega (arith, all.within, some); by = all.by },
        (s', 0, steps_none (step g.live (whole g) g.at) s' 16, rel, at),
        inl (omega (arith, pos)),
      )
  arrive start r s n t k (Goes es w t') ran some (s', least, st, rel, inr less) at =
      let all = steps_on (step g.live (whole g) g.at) k least 16 (16 * w) r s s' [] es ran st in (
        s',
        k + least,
        record { work = all.work; within = omega (arith, all.within, some); by = all.by },
        (s', 0, steps_none (step g.live (whole g) g.at) s' 16, rel, at),
        inr less,
      )
  arrive start r s n t k (Ends es w status live) ran some st at = stops_after k r s es w status live some ran st
  arrive start r s n t k Faults ran some st at = tt
  arrive start r s n t k Errs ran some st at = tt

  arrives_on : (start : Pair) (r : LabelRun) (x : ℕ × WordState) → Arrives start r x →
      Does (step g.live (whole g) g.at) (Arrives start) (λ x. length x.1.frame.left) 32 r x (step_of g.live g.procs (fresh_of start) x)
  unfolding Arrives fresh_of
  arrives_on start r (n, t) (s, k, ran, rel, at) =
      let next = words.step g.live g.procs rel.ws t in
      let gift : fresh_of start n ≡ rel.ws = ap behind_places at in
      subst (λ bytes. Does (step g.live (whole g) g.at) (Arrives start) (λ x. length x.1.frame.left) 32 r (n, t)
      (numbered n (words.step g.live g.procs bytes t))) (sym gift)
      (arrive start r s n t k next ran (works g rel.ws t rel.facts.units) (all_sim g s t rel) (ap pair_after at))

  -- ---- the whole

  module _ (own : List ℕ) (heap stack : ℕ) (input : List ℕ) (room : Holding g own heap stack) where
    abbrev pub low_start : LabelRun
    low_start = labels.start (whole g) (data_of heap stack own) heap stack input

    abbrev pub high_start : WordState
    high_start = words.start (record { procs = g.procs; statics = own }) heap stack input

    abbrev pub low_meaning : Behaviour Event
    low_meaning = label_meaning g.live (whole g) g.at (data_of heap stack own) heap stack input

    abbrev pub high_meaning : Fresh → Behaviour Event
    high_meaning fresh = behaviour (step_of g.live g.procs fresh) (0, high_start)

    pub record Follows (fresh : Fresh) : Type 0 where
      pub agrees : Agrees low_meaning (high_meaning fresh)
      pub paced : Paced 32 low_meaning (high_meaning fresh)

    -- word code with start code
    module _ (q : WordProc) (tail : List WordProc) (found : from_proc 0 g.procs ≡ q ∷ tail) where
      first_same : first g own heap stack input room q tail found ≡ high_start
      unfolding words.start
      first_same = ap (λ l. record {
        units = None;
        memory = record {
          statics = data_of heap stack own;
          heap = replicate heap 0;
          places = replicate ((first_of l).room + SPARE_ROOM) 0;
        };
        input = input;
        frame = record { proc = first_of l; left = (first_of l).lines; vars = no_words; given = no_words; base = stack_at; awaits = 0 };
        callers = [];
      }) (sym found)

      start : Pair
      start =
          let x = begins g own heap stack input room q tail found in
          record { low = x.0; high = high_start; same = subst (Rel g x.0) first_same x.2 }

      start_arrives : Arrives start low_start (0, high_start)
      unfolding Arrives start
      start_arrives =
          let x = begins g own heap stack input room q tail found in
          let ran = subst (λ r. Goes_in g.live (whole g) g.at 8 13 r x.0) (sym (first_is g own heap stack input room q tail found)) x.1 in (
            x.0,
            8,
            record { work = ran.work; within = omega (arith, ran.within); by = ran.by },
            start.same,
            refl,
          )

      followed : Sound (high_meaning (fresh_of start)) → Follows (fresh_of start)
      followed ok = record {
        agrees = agrees_by_simulation (step g.live (whole g) g.at) (step_of g.live g.procs (fresh_of start)) (Arrives start) (λ x. length x.1.frame.left) 32
            (arrives_on start) _ _ start_arrives ok;
        paced = paced_by_simulation (step g.live (whole g) g.at) (step_of g.live g.procs (fresh_of start)) (Arrives start) (λ x. length x.1.frame.left) 32
            (arrives_on start) _ _ start_arrives ok;
      }

    -- without start code word code is at a fault at once
    no_start : (fresh : Fresh) → from_proc 0 g.procs ≡ [] → (high_meaning fresh 1).phase ≡ Faulted
    unfolding words.start
    no_start fresh e = ap (λ l. (run (step_of g.live g.procs fresh) 1 (
      0,
      record {
        units = None;
        memory = record {
          statics = data_of heap stack own;
          heap = replicate heap 0;
          places = replicate ((first_of l).room + SPARE_ROOM) 0;
        };
        input = input;
        frame = record { proc = first_of l; left = (first_of l).lines; vars = no_words; given = no_words; base = stack_at; awaits = 0 };
        callers = [];
      },
    ) [] 0).phase) e

    abbrev pub FollowsSome : Type 0
    FollowsSome = (fresh : Fresh) × (Sound (high_meaning fresh) → Follows fresh)

    by_found : (found : List WordProc) → from_proc 0 g.procs ≡ found → FollowsSome
    by_found [] e = (λ n. [], λ ok. absurd (ok.no_fault 1 (no_start (λ n. []) e)))
    by_found (q ∷ tail) e = (fresh_of (start q tail e), followed q tail e)

    pub follows : FollowsSome
    follows = by_found (from_proc 0 g.procs) refl
