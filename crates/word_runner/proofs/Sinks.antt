-- A run on sinks, from step to step.
use Rattle.std.proofs.Common.{◌≡◌, ℕ, zero, suc, ◌+◌, List, [], ◌∷◌, ◌++◌, take, refl, sym, ap, subst, ◌∙◌, append-nil, append_assoc, arith, Option, Some}
use Rattle.std.proofs.Common.{None}
use Rattle.arc_base.specs.Event.{Event, Write, Hook, writes}
use Rattle.arc_base.specs.declared.outside.Stream.{Stream}
use Rattle.arc_base.specs.declared.outside.Stream.TheVariants.{Out as Output, Err as Errors}
use Rattle.arc_base.specs.Outside.{Rose, Grown}
use Rattle.arc_base.specs.Behaviour.{Behaviour, Live, Seen, Running, Ended, Faulted}
use Rattle.arc_base.specs.Stepping.{Next, Goes, Ends, Faults, Errs, seen, after, run}
use Rattle.arc_base.proofs.ForCallers.{grown_more}
use Rattle.word_runner.specs.declared.mean.MeanEnd.{MeanEnd}
use Rattle.word_runner.specs.declared.mean.MeanEnd.TheVariants as M
use Rattle.word_runner.specs.Mean.{Means, Comes}
use Rattle.word_runner.specs.Sinks.{byte_on, bytes_on, Told, told, Got, GotFront, BothGotFronts}
use Rattle.word_runner.specs.Holding.{Holding}
use Rattle.word_runner.specs.Steps.{IsQuiet}

-- where it gets nothing
pub grown_none : (a : Option (List ℕ)) → Grown a a []
grown_none None = tt
grown_none (Some x) = sym (append-nil x)

-- ---- bytes of streams

byte_first : (stream other : Stream) (byte : ℕ) (xs ys : List ℕ) → byte_on stream other byte (xs ++ ys) ≡ byte_on stream other byte xs ++ ys
byte_first Output Output byte xs ys = refl
byte_first Errors Errors byte xs ys = refl
byte_first Output Errors byte xs ys = refl
byte_first Errors Output byte xs ys = refl

pub bytes_append : (stream : Stream) (es fs : List Event) → bytes_on stream (es ++ fs) ≡ bytes_on stream es ++ bytes_on stream fs
bytes_append stream [] fs = refl
bytes_append stream (Write other byte ∷ es) fs =
    ap (byte_on stream other byte) (bytes_append stream es fs) ∙ byte_first stream other byte (bytes_on stream es) (bytes_on stream fs)
bytes_append stream (Hook kind of ∷ es) fs = bytes_append stream es fs

own : (stream : Stream) (bytes : List ℕ) → bytes_on stream (writes stream bytes) ≡ bytes
own stream [] = refl
own Output (b ∷ bytes) = ap (λ l. b ∷ l) (own Output bytes)
own Errors (b ∷ bytes) = ap (λ l. b ∷ l) (own Errors bytes)

output_other : (bytes : List ℕ) → bytes_on Errors (writes Output bytes) ≡ []
output_other [] = refl
output_other (b ∷ bytes) = output_other bytes

errors_other : (bytes : List ℕ) → bytes_on Output (writes Errors bytes) ≡ []
errors_other [] = refl
errors_other (b ∷ bytes) = errors_other bytes

written : (stream : Stream) (es : List Event) (line : List ℕ) → bytes_on stream (es ++ writes stream line) ≡ bytes_on stream es ++ line
written stream es line = bytes_append stream es (writes stream line) ∙ ap (λ l. bytes_on stream es ++ l) (own stream line)

-- ---- fronts

take_front : (xs ys : List ℕ) (n : ℕ) → (k : ℕ) × (take k (xs ++ ys) ≡ xs ++ take n ys)
take_front [] ys n = (n, refl)
take_front (x ∷ xs) ys n = let h = take_front xs ys n in (suc h.0, ap (λ l. x ∷ l) h.1)

take_within : (ys zs : List ℕ) (n : ℕ) → (k : ℕ) × (take k (ys ++ zs) ≡ take n ys)
take_within ys zs zero = (0, refl)
take_within [] zs (suc n) = (0, refl)
take_within (y ∷ ys) zs (suc n) = let h = take_within ys zs n in (suc h.0, ap (λ l. y ∷ l) h.1)

-- all of what came first is a front
front_of : (sink : Told) (xs all : List ℕ) → ((ys : List ℕ) × (xs ++ ys ≡ all)) → Got sink xs → GotFront sink all
front_of sink xs all h g =
    let k = take_front xs h.0 0 in
    record { count = k.0; front = subst (Grown sink.before sink.now) (sym (ap (take k.0) (sym h.1) ∙ k.1 ∙ append-nil xs)) g.all }

-- a front of what was due behind what came before
front_more : (a b c : Option (List ℕ)) (n m k j : ℕ) (xs ys all : List ℕ) → ((zs : List ℕ) × ((xs ++ ys) ++ zs ≡ all)) → Got (told a b n m) xs
    → Grown b c (take j ys) → GotFront (told a c n k) all
front_more a b c n m k j xs ys all h g grown =
    let w = take_within ys h.0 j in
    let t = take_front xs (ys ++ h.0) w.0 in
    let e : take t.0 all ≡ xs ++ take j ys = ap (take t.0) (sym h.1 ∙ append_assoc xs ys h.0) ∙ t.1 ∙ ap (λ l. xs ++ l) w.1 in
    record { count = t.0; front = subst (Grown a c) (sym e) (grown_more a b c xs (take j ys) g.all grown) }

got_more : (a b c : Option (List ℕ)) (n m k : ℕ) (xs ys zs : List ℕ) → zs ≡ xs ++ ys → Got (told a b n m) xs → Grown b c ys → k ≡ m → Got (told a c n k) zs
got_more a b c n m k xs ys zs e g h f = record { all = subst (Grown a c) (sym e) (grown_more a b c xs ys g.all h); faults = f ∙ g.faults }

-- where nothing is due for a stream
got_same : (sink : Told) (stream : Stream) (es fs : List Event) → bytes_on stream fs ≡ [] → Got sink (bytes_on stream es)
    → Got sink (bytes_on stream (es ++ fs))
got_same sink stream es fs quiet g =
    subst (Got sink) (sym (bytes_append stream es fs ∙ ap (λ l. bytes_on stream es ++ l) quiet ∙ append-nil (bytes_on stream es))) g

-- what was said is a front of all that will be
bytes_first : (stream : Stream) (es all : List Event) → ((fs : List Event) × (es ++ fs ≡ all))
    → (ys : List ℕ) × (bytes_on stream es ++ ys ≡ bytes_on stream all)
bytes_first stream es all h = (bytes_on stream h.0, sym (bytes_append stream es h.0) ∙ ap (bytes_on stream) h.1)

-- ---- a run that is under way

module _ {S : Type 0} (m : S → Next Event S) where
  -- events only grow
  abbrev Grows : ℕ → S → List Event → (work : ℕ) → Type 0
  Grows n s out work = (fs : List Event) × (out ++ fs ≡ (run m n s out work).events)

  grows_by : (n : ℕ) → ((s : S) (out : List Event) (work : ℕ) → Grows n s out work) → (r : Next Event S) (out : List Event) (work : ℕ)
      → (fs : List Event) × (out ++ fs ≡ (after r (run m n) out work).events)
  grows_by n more (Goes es w s) out work = let h = more s (out ++ es) (work + w) in (es ++ h.0, sym (append_assoc out es h.0) ∙ h.1)
  grows_by n more (Ends es w status live) out work = (es, refl)
  grows_by n more Faults out work = ([], append-nil out)
  grows_by n more Errs out work = ([], append-nil out)

  grows : (n : ℕ) (s : S) (out : List Event) (work : ℕ) → Grows n s out work
  grows zero s out work = ([], append-nil out)
  grows (suc n) s out work = grows_by n (grows n) (m s) out work

  module _ (shown : Behaviour Event) where
    -- behind one line more
    later : (lines n : ℕ) → shown (lines + 1 + n) ≡ shown (lines + suc n)
    later lines n = let e : lines + 1 + n ≡ lines + suc n = omega arith in ap shown e

    goes : (s new : S) (lines : ℕ) (out es : List Event) (work w : ℕ) → ((n : ℕ) → shown (lines + n) ≡ run m n s out work) → m s ≡ Goes es w new
        → (n : ℕ) → shown (lines + 1 + n) ≡ run m n new (out ++ es) (work + w)
    goes s new lines out es work w same e n = later lines n ∙ same (suc n) ∙ ap (λ r. after r (run m n) out work) e

    -- behind a line, where the sinks got what it wrote too
    stepped : (s new : S) (es : List Event) (out err out' err' : Told) (h : Holding m shown s out err) → m s ≡ Goes es 1 new
        → Got out' (bytes_on Output (h.events ++ es)) → Got err' (bytes_on Errors (h.events ++ es)) → Holding m shown new out' err'
    stepped s new es out err out' err' h e output errors = record {
      lines = h.lines + 1;
      events = h.events ++ es;
      work = h.work + 1;
      same = goes s new h.lines h.events es h.work 1 h.same e;
      output = output;
      errors = errors;
    }

    pub holding_goes : (s new : S) (es : List Event) (out err : Told) → Holding m shown s out err → m s ≡ Goes es 1 new → IsQuiet es
        → Holding m shown new out err
    holding_goes s new es out err h e quiet =
        stepped s new es out err out err h e (got_same out Output h.events es quiet.0 h.output) (got_same err Errors h.events es quiet.1 h.errors)

    module _ (s new : S) (a b c : Option (List ℕ)) (n k j : ℕ) (line : List ℕ) (grown : Grown b c line) (f : j ≡ k) where
      pub holding_says : (err : Told) → Holding m shown s (told a b n k) err → m s ≡ Goes (writes Output line) 1 new → Holding m shown new (told a c n j) err
      holding_says err h e =
          stepped s new (writes Output line) (told a b n k) err (told a c n j) err h e
          (got_more a b c n k j (bytes_on Output h.events) line _ (written Output h.events line) h.output grown f)
          (got_same err Errors h.events (writes Output line) (output_other line) h.errors)

      pub holding_warns : (out : Told) → Holding m shown s out (told a b n k) → m s ≡ Goes (writes Errors line) 1 new → Holding m shown new out (told a c n j)
      holding_warns out h e =
          stepped s new (writes Errors line) out (told a b n k) out (told a c n j) h e
          (got_same out Output h.events (writes Errors line) (errors_other line) h.output)
          (got_more a b c n k j (bytes_on Errors h.events) line _ (written Errors h.events line) h.errors grown f)

    -- what is seen from some number of lines on
    comes : (lines : ℕ) (x : Seen Event) (end : MeanEnd) (out err : Told) → ((n : ℕ) → shown (lines + 1 + n) ≡ x) → Means x end out err
        → Comes shown end out err
    comes lines x end out err e h = (lines + 1, λ n. subst (λ x. Means x end out err) (sym (e n)) h)

    pub ends : (s : S) (status : ℕ) (live : Live) (out err : Told) → Holding m shown s out err → m s ≡ Ends [] 1 status live
        → Comes shown (M.Ended status) out err
    ends s status live out err h e =
        comes h.lines (seen (h.events ++ []) (Ended status live) (h.work + 1)) (M.Ended status) out err
        (λ n. later h.lines n ∙ h.same (suc n) ∙ ap (λ r. after r (run m n) h.events h.work) e)
        ((live, refl), (got_same out Output h.events [] refl h.output, got_same err Errors h.events [] refl h.errors))

    -- what stands still
    still : (s : S) → m s ≡ Goes [] 0 s → (n : ℕ) (out : List Event) (work : ℕ) → run m n s out work ≡ seen out Running work
    still s e zero out work = refl
    still s e (suc n) out work =
        let same : work + 0 ≡ work = omega arith in
        ap (λ r. after r (run m n) out work) e ∙ ap (λ l. run m n s l (work + 0)) (append-nil out) ∙ ap (run m n s out) same ∙ still s e n out work

    pub waits : (s : S) (out err : Told) → Holding m shown s out err → m s ≡ Goes [] 0 s → Comes shown M.Going out err
    waits s out err h e =
        comes h.lines (seen h.events Running h.work) M.Going out err
        (λ n. later h.lines n ∙ h.same (suc n) ∙ still s e (suc n) h.events h.work) (refl, (h.output, h.errors))

    pub faults : (s : S) (out err : Told) → Holding m shown s out err → m s ≡ Faults → Comes shown M.Faulted out err
    faults s out err h e =
        comes h.lines (seen h.events Faulted h.work) M.Faulted out err
        (λ n. later h.lines n ∙ h.same (suc n) ∙ ap (λ r. after r (run m n) h.events h.work) e) (refl, (h.output, h.errors))

    events_first : (s : S) (lines n : ℕ) (out : List Event) (work : ℕ) → shown (lines + n) ≡ run m n s out work
        → (fs : List Event) × (out ++ fs ≡ (shown (lines + n)).events)
    events_first s lines n out work e = let h = grows n s out work in (h.0, h.1 ∙ sym (ap (λ (x : Seen Event). x.events) e))

    pub fronts : (s : S) (out err : Told) (h : Holding m shown s out err) (n : ℕ) → BothGotFronts (shown (h.lines + n)) out err
    fronts s out err h n =
        let fs = events_first s h.lines n h.events h.work (h.same n) in (
          front_of out (bytes_on Output h.events) _ (bytes_first Output h.events _ fs) h.output,
          front_of err (bytes_on Errors h.events) _ (bytes_first Errors h.events _ fs) h.errors,
        )

    pub no_memory : (s : S) (out err : Told) → Holding m shown s out err → Comes shown M.Memory out err
    no_memory s out err h = (h.lines, λ n. fronts s out err h n)

    pub no_input : (s : S) (out err : Told) → Holding m shown s out err → Comes shown M.ReadFault out err
    no_input s out err h = (h.lines, λ n. fronts s out err h n)

    -- what the sinks got is a front of all that will be written
    abbrev BothFront : (events : List Event) (out err : Told) → Type 0
    BothFront events out err =
        ((all : List ℕ) → ((zs : List ℕ) × (bytes_on Output events ++ zs ≡ all)) → GotFront out all)
        × ((all : List ℕ) → ((zs : List ℕ) × (bytes_on Errors events ++ zs ≡ all)) → GotFront err all)

    failed : (s new : S) (es : List Event) (out err out' err' : Told) (h : Holding m shown s out err) → m s ≡ Goes es 1 new → (end : MeanEnd)
        → ((x : Seen Event) → BothGotFronts x out' err' → Means x end out' err') → BothFront (h.events ++ es) out' err' → Comes shown end out' err'
    failed s new es out err out' err' h e end means both = (
      h.lines + 1,
      λ more.
          let fs = events_first new (h.lines + 1) more (h.events ++ es) (h.work + 1) (goes s new h.lines h.events es h.work 1 h.same e more) in
          means (shown (h.lines + 1 + more))
          (both.0 _ (bytes_first Output (h.events ++ es) _ fs), both.1 _ (bytes_first Errors (h.events ++ es) _ fs)),
    )

    module _ (s new : S) (a b c : Option (List ℕ)) (n k i j : ℕ) (line : List ℕ) (grown : Grown b c (take j line)) (rose : Rose n i) where
      -- a front of what was due for a stream
      due : (stream : Stream) (es : List Event) → Got (told a b n k) (bytes_on stream es) → (all : List ℕ)
          → ((zs : List ℕ) × (bytes_on stream (es ++ writes stream line) ++ zs ≡ all)) → GotFront (told a c n i) all
      due stream es g all zs =
          front_more a b c n k i j (bytes_on stream es) line all (zs.0, ap (λ l. l ++ zs.0) (sym (written stream es line)) ∙ zs.1) g grown

      pub out_fails : (err : Told) → Holding m shown s (told a b n k) err → m s ≡ Goes (writes Output line) 1 new
          → Comes shown (M.WriteFault Output) (told a c n i) err
      out_fails err h e =
          failed s new (writes Output line) (told a b n k) err (told a c n i) err h e (M.WriteFault Output) (λ x fronts. (rose, fronts))
          (due Output h.events h.output, λ all zs. front_of err _ all zs (got_same err Errors h.events (writes Output line) (output_other line) h.errors))

      pub err_fails : (out : Told) → Holding m shown s out (told a b n k) → m s ≡ Goes (writes Errors line) 1 new
          → Comes shown (M.WriteFault Errors) out (told a c n i)
      err_fails out h e =
          failed s new (writes Errors line) out (told a b n k) out (told a c n i) h e (M.WriteFault Errors) (λ x fronts. (rose, fronts))
          (λ all zs. front_of out _ all zs (got_same out Output h.events (writes Errors line) (errors_other line) h.output), due Errors h.events h.errors)

-- ---- the beginning

pub none_yet : (shown : Behaviour Event) (a b : Option (List ℕ)) (k n : ℕ) → Comes shown M.Memory (told a a k k) (told b b n n)
none_yet shown a b k n = (0, λ more. (record { count = 0; front = grown_none a }, record { count = 0; front = grown_none b }))
