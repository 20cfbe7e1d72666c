-- One step further in the code of a call.
use Rattle.std.proofs.Common.{◌≡◌, true, arith, ℕ, ◌+◌, ◌<◌, ◌≤◌, inl, inr, ◌⊎◌, List, [], ◌∷◌, ◌++◌, false, ap}
use Rattle.nim_types.specs.Forms.{Form, hooked}
use Rattle.nim_meaning.specs.Values.{Value, Holds, Standing, Waiting, at_base}
use Rattle.nim_meaning.specs.Marks.{Member}
use Rattle.nim_meaning.specs.State.{World}
use Rattle.nim_meaning.specs.Deeds.{Opens, Waits, Leaves, changed}
use Rattle.nim_meaning.specs.Meaning.{place_ends}
use Rattle.holders.specs.Sure.{Sure}
use Rattle.holders.specs.Becoming.{taken_in, times, none}
use Rattle.holders.specs.Territory.{Owner, Moves, NoBaseOf, MovesWith}
use Rattle.holders.specs.Handing.{HandsOut}
use Rattle.holders.specs.Running.{Region, IsOutside, RunsWith}
use Rattle.holders.specs.Staging.{Stage, Holding, Up, StageWith}
use Rattle.holders.specs.Groups.{without_node}
use Rattle.holders.proofs.Copying.{either_block}
use Rattle.holders.proofs.Sure.{sure_weaker}
use Rattle.holders.proofs.FrameChanges.{place_opened, value_waits, value_leaves}
use Rattle.holders.proofs.Running.{moves_run, passes_then, declares, waits}
use Rattle.holders.proofs.Calling.{first_apart, takes_up, place_over, EndsAlone, ended_passes}
use Rattle.holders.proofs.Owning.{plain_none}
use Rattle.holders.specs.Evaluating.{Hand, empty, holds, AtHand}

-- ---- what is in the hand

abbrev pub IsHeld : Hand → Type 0
IsHeld empty = ⊥
IsHeld (holds f v) = Unit {0}

abbrev pub hand_out : (r : Region) (ms os : List Owner) (first places : ℕ) (nodes old : List ℕ) (start now : World) (h : Hand) →
    AtHand h r ms os first places nodes old start now → ℕ → ℕ
hand_out r ms os first places nodes old start now empty s = none
hand_out r ms os first places nodes old start now (holds f v) s = s.out

abbrev pub hand_stage : {r : Region} {ms os : List Owner} {first places : ℕ} {nodes old : List ℕ} {start now : World} (h : Hand)
    (s : AtHand h r ms os first places nodes old start now) →
    StageWith (hand_out r ms os first places nodes old start now h s) r ms os first places nodes old start now
hand_stage empty s = s
hand_stage (holds f v) s = s.stage

-- nothing is
abbrev pub hand_alone : {r : Region} {ms os : List Owner} {first places : ℕ} {nodes old : List ℕ} {start now : World} (h : Hand) → (IsHeld h → ⊥) →
    AtHand h r ms os first places nodes old start now → Stage r ms os first places nodes old start now
hand_alone empty free s = s
hand_alone (holds f v) free s = absurd (free tt)

-- ---- one step further

module _ (r : Region) (gs : List Owner) (first places : ℕ) (old : List ℕ) (start : World) where
  abbrev level : ℕ
  level = r.level

  abbrev From : List ℕ → World → Type 0
  From blocks now = (k : ℕ) → Member k blocks → Member k old ⊎ (Member k [] ⊎ (taken_in start ≤ k))

  -- from then on
  pub further : (old2 given blocks : List ℕ) (now : World) → taken_in start ≤ taken_in now →
      ((k : ℕ) → Member k old2 → Member k old ⊎ (Member k [] ⊎ (taken_in start ≤ k))) → ((k : ℕ) → Member k given → Member k old ⊎ (taken_in start ≤ k)) →
      ((k : ℕ) → Member k blocks → Member k old2 ⊎ (Member k given ⊎ (taken_in now ≤ k))) →
      (k : ℕ) → Member k blocks → Member k old ⊎ (Member k [] ⊎ (taken_in start ≤ k))
  further old2 given blocks now grows before handed came k m = by (came k m)
    where
      later : taken_in now ≤ k → taken_in start ≤ k
      later le = omega (arith, le, grows)

      of_given : Member k old ⊎ (taken_in start ≤ k) → Member k old ⊎ (Member k [] ⊎ (taken_in start ≤ k))
      of_given (inl n) = inl n
      of_given (inr le) = inr (inr le)

      by : Member k old2 ⊎ (Member k given ⊎ (taken_in now ≤ k)) → Member k old ⊎ (Member k [] ⊎ (taken_in start ≤ k))
      by (inl n) = before k n
      by (inr (inl n)) = of_given (handed k n)
      by (inr (inr le)) = inr (inr (later le))

  -- what comes of something that starts there
  -- what was given came as well
  pub came_both : (given blocks : List ℕ) → ((k : ℕ) → Member k given → Member k old ⊎ (taken_in start ≤ k)) →
      ((k : ℕ) → Member k blocks → Member k old ⊎ (Member k [] ⊎ (taken_in start ≤ k))) → (k : ℕ) → Member k (given ++ blocks) →
      Member k old ⊎ (Member k [] ⊎ (taken_in start ≤ k))
  came_both given blocks handed before k m =
      either_block k given blocks (Member k old ⊎ (Member k [] ⊎ (taken_in start ≤ k))) m (λ q. wide (handed k q)) (λ q. before k q)
    where
      wide : Member k old ⊎ (taken_in start ≤ k) → Member k old ⊎ (Member k [] ⊎ (taken_in start ≤ k))
      wide (inl n) = inl n
      wide (inr le) = inr (inr le)

  abbrev pub goes_on : {comes goes : ℕ → ℕ} {ms ns : List Owner} {given : List ℕ} {now after : World} (s : RunsWith none comes r ms gs [] old start now) →
      ((k : ℕ) → Member k given → Member k old ⊎ (taken_in start ≤ k)) → RunsWith comes goes r ns gs given s.territory.blocks now after →
      RunsWith none goes r ns gs [] old start after
  goes_on {given = given} {now = now} s handed g = record {
    territory = g.territory;
    own = g.own;
    came = further s.territory.blocks given g.territory.blocks now s.passes.grows s.came handed g.came;
    passes = passes_then s.passes (came_both given s.territory.blocks handed s.came) g.passes;
    loses = λ k. omega (arith, s.loses k, g.loses k);
  }

  -- the same is under way
  abbrev pub out_as : {out other : ℕ → ℕ} {ms : List Owner} {nodes : List ℕ} {now : World} → ((k : ℕ) → other k ≡ out k) →
      StageWith out r ms gs first places nodes old start now → StageWith other r ms gs first places nodes old start now
  out_as same s = record {
    runs = record {
      territory = s.runs.territory;
      own = s.runs.own;
      came = s.runs.came;
      passes = s.runs.passes;
      loses = λ k. omega (arith, s.runs.loses k, same k);
    };
    active = s.active;
  }

  pub no_given : (k : ℕ) → Member k [] → Member k old ⊎ (taken_in start ≤ k)
  no_given k m = elim m [ ]

  -- what is under way has no blocks
  abbrev pub bare_stage : {f : Form} {x : Value} {ms : List Owner} {nodes : List ℕ} {now : World} → hooked f ≡ false →
      Holding f x r ms gs first places nodes old start now → Stage r ms gs first places nodes old start now
  bare_stage bare h = out_as (λ k. omega (arith, h.out_is k, ap (times k) (plain_none bare h.under.has))) h.stage

  -- ---- deeds

  abbrev pub stage_moves : {comes goes : ℕ → ℕ} {ms : List Owner} {nodes : List ℕ} {now after : World}
      (s : StageWith comes r ms gs first places nodes old start now) → MovesWith comes goes (ms ++ gs) [] s.runs.territory.blocks now after →
      StageWith goes r ms gs first places nodes old start after
  stage_moves {ms = ms} {nodes = nodes} s m = record {
    runs = goes_on s.runs no_given (moves_run r ms gs s.runs.own m);
    active = m.alone.stays.frames.active level first places nodes s.active;
  }

  -- a value that was under way went into a cell
  pub stage_takes : {f : Form} {x : Value} {ms : List Owner} {nodes : List ℕ} {now after : World}
      (h : Holding f x r ms gs first places nodes old start now) →
      Moves (ms ++ gs) h.under.given h.stage.runs.territory.blocks now after → Stage r ms gs first places nodes old start after
  stage_takes {ms = ms} {nodes = nodes} h m = record {
    runs = goes_on (out_as h.out_is h.stage).runs h.came (moves_run r ms gs h.stage.runs.own m);
    active = m.alone.stays.frames.active level first places nodes h.stage.active;
  }

  -- a value came to be, or out of a cell
  pub stage_hands : {f : Form} {x : Value} {ms : List Owner} {given nodes : List ℕ} {now after : World}
      (s : StageWith (λ k. times k given) r ms gs first places nodes old start now) → ((k : ℕ) → Member k given → Member k old ⊎ (taken_in start ≤ k)) →
      HandsOut f (ms ++ gs) given s.runs.territory.blocks now x after → Holding f x r ms gs first places nodes old start after
  stage_hands {given = given} {now = now} s handed h = record {
    out = h.goes;
    stage = stage_moves s h.moves;
    under = h.value;
    out_is = h.goes_is;
    came = λ k m. by k (h.came k m);
  }
    where
      simple : (k : ℕ) → Member k old ⊎ (Member k [] ⊎ (taken_in start ≤ k)) → Member k old ⊎ (taken_in start ≤ k)
      simple k (inl n) = inl n
      simple k (inr (inl n)) = elim n [ ]
      simple k (inr (inr le)) = inr le

      later : (k : ℕ) → taken_in now ≤ k → taken_in start ≤ k
      later k le = omega (arith, le, s.runs.passes.grows)

      by : (k : ℕ) → Member k s.runs.territory.blocks ⊎ (Member k given ⊎ (taken_in now ≤ k)) → Member k old ⊎ (taken_in start ≤ k)
      by k (inl n) = simple k (s.runs.came k n)
      by k (inr (inl n)) = handed k n
      by k (inr (inr le)) = inr (later k le)

  -- ---- places and temporaries

  pub stage_declares : {f : Form} {x : Value} {ms : List Owner} {nodes : List ℕ} {now : World} (n : ℕ)
      (h : Holding f x r ms gs first places nodes old start now) → first ≤ n → n < first + places → r.places n ≡ true →
      NoBaseOf (Standing level n) (ms ++ gs) →
      Stage r (record { form = f; at = at_base (Standing level n) } ∷ ms) gs first places nodes old start (changed (Opens level n (Holds x)) now)
  stage_declares {f} {x} {ms} {nodes} {now} n h le less mine off = record {
    runs = goes_on (out_as h.out_is h.stage).runs h.came
        (declares r gs ms now h.stage.runs.territory h.stage.runs.own n h.stage.active le less mine off h.under);
    active = (place_opened now level first places n nodes (Holds x) h.stage.active le less).active level first places nodes h.stage.active;
  }

  pub stage_waits : {f : Form} {x : Value} {ms : List Owner} {nodes : List ℕ} {now : World} (node : ℕ) → r.nodes node ≡ true →
      (h : Holding f x r ms gs first places nodes old start now) → NoBaseOf (Waiting level node) (ms ++ gs) →
      Stage r (record { form = f; at = at_base (Waiting level node) } ∷ ms) gs first places (node ∷ without_node nodes node) old start
      (changed (Waits level node (Holds x)) now)
  stage_waits {f} {x} {ms} {nodes} {now} node mine h off = record {
    runs = goes_on (out_as h.out_is h.stage).runs h.came (waits r gs ms now h.stage.runs.territory h.stage.runs.own node mine h.stage.active off h.under);
    active = (value_waits now level first places node nodes (Holds x) h.stage.active).change.here first places nodes h.stage.active;
  }

  pub stage_takes_up : {f : Form} {ms : List Owner} {nodes : List ℕ} {now : World} (node : ℕ) → r.nodes node ≡ true →
      (s : Stage r (record { form = f; at = at_base (Waiting level node) } ∷ ms) gs first places nodes old start now) →
      Up f node r ms gs first places nodes old start now (changed (Leaves level node) now)
  stage_takes_up {f} {ms} {nodes} {now} node mine s =
      let u = takes_up r node mine ms gs s.runs.territory s.active in
      record {
        value = u.value;
        base = u.base;
        holding = record {
          out = λ k. times k u.under.given;
          stage = record {
            runs = record {
              territory = u.territory;
              own = s.runs.own.1;
              came = λ k m. s.runs.came k (u.within k m);
              passes = passes_then s.runs.passes s.runs.came u.passes;
              loses = λ k. omega (arith, s.runs.loses k, u.loses k);
            };
            active = (value_leaves now level first places node nodes s.active).here first places nodes s.active;
          };
          under = u.under;
          out_is = λ k. omega arith;
          came = λ k m. simple k (s.runs.came k (u.were k m));
        };
      }
    where
      simple : (k : ℕ) → Member k old ⊎ (Member k [] ⊎ (taken_in start ≤ k)) → Member k old ⊎ (taken_in start ≤ k)
      simple k (inl n) = inl n
      simple k (inr (inl n)) = elim n [ ]
      simple k (inr (inr le)) = inr le

  -- the first cell, which has no blocks, is let go
  pub stage_lets_go : {f : Form} {b : _} {ms : List Owner} {nodes : List ℕ} {now : World} → hooked f ≡ false →
      (s : Stage r (record { form = f; at = at_base b } ∷ ms) gs first places nodes old start now) →
      Stage r ms gs first places nodes old start now
  stage_lets_go bare s =
      let a = first_apart s.runs.territory in
      record {
        runs = record {
          territory = a.others;
          own = s.runs.own.1;
          came = λ k m. s.runs.came k (a.within k m);
          passes = s.runs.passes;
          loses = λ k. omega (arith, s.runs.loses k, a.sum k, ap (times k) (plain_none bare a.under.has));
        };
        active = s.active;
      }

  -- a place is over
  pub stage_over : {f : Form} {ms : List Owner} {nodes : List ℕ} {now : World} (n : ℕ) → r.places n ≡ true →
      (s : Stage r (record { form = f; at = at_base (Standing level n) } ∷ ms) gs first places nodes old start now) →
      Sure (place_ends f level n) (λ u after. Stage r ms gs first places nodes old start after) now
  stage_over {f} {ms} {nodes} {now} n mine s =
      sure_weaker (place_ends f level n)
      (λ u after. EndsAlone f (Standing level n) (ms ++ gs) s.runs.territory.blocks now after)
      (λ u after. Stage r ms gs first places nodes old start after) now (place_over level n s.runs.territory)
      (λ u after e. record {
        runs = record {
          territory = e.territory;
          own = s.runs.own.1;
          came = further s.runs.territory.blocks [] e.territory.blocks now s.runs.passes.grows s.runs.came no_given (λ k m. inl (e.within k m));
          passes = passes_then s.runs.passes s.runs.came (ended_passes r inside e);
          loses = λ k. omega (arith, s.runs.loses k, e.loses k);
        };
        active = e.stays.frames.active level first places nodes s.active;
      })
    where
      inside : IsOutside r (Standing level n) → ⊥
      inside (inl less) = omega (arith, less)
      inside (inr w) = w.1 mine
