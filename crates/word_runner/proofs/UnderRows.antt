-- A run that is under way on a source and sinks.
use Rattle.std.proofs.Common.{◌≡◌, ◌≤◌, ℕ, ◌+◌, ◌-◌, ◌^◌, ◌<◌, Bool, true, false, List, [], ◌∷◌, ◌++◌, length, drop, refl, sym, ap, ap₂, subst, ◌∙◌, arith}
use Rattle.std.proofs.Common.{append_assoc, append-nil, length-append, Option, Some, Vec}
use Rattle.std.proofs.lemmas.List.{drop-append-le}
use Rattle.std.proofs.lemmas.Bool.{true≢false}
use Rattle.std.specs.Prelude.{IsTrue, if◌then◌else◌}
use Rattle.std.specs.Global.{Global}
use Rattle.arc_base.specs.Behaviour.{Behaviour}
use Rattle.arc_base.specs.Event.{Event}
use Rattle.arc_base.specs.Outside.{Rose}
use Rattle.arc_base.specs.Stepping.{run as run_of}
use Rattle.rv32_isa.specs.Machine.{Lives}
use Rattle.rv32_runner.specs.Streams.{Feed, Gave}
use Rattle.rv32_runner.proofs.ForCallers.{gave_none, gave_then}
use Rattle.word_code.specs.declared.word.WordCode.{WordCode}
use Rattle.word_code.specs.declared.word.WordProc.{WordProc}
use Rattle.word_code.specs.Words.{WordState, is_word_code, start}
use Rattle.word_runner.specs.declared.mean.MeanEnd.{MeanEnd}
use Rattle.word_runner.specs.declared.mean.MeanEnd.TheVariants as M
use Rattle.word_runner.specs.declared.state.Run.{Run}
use Rattle.word_runner.specs.declared.take.Taken.TheVariants as T
use Rattle.word_runner.specs.Holding.{Holding, StopsWithin, machine}
use Rattle.word_runner.specs.Mean.{Came, Comes, Failed, Stops, shown_by}
use Rattle.word_runner.specs.Sinks.{Told, told}
use Rattle.word_runner.specs.Steps.{Kept}
use Rattle.word_runner.specs.Takes.{More, Took}
use Rattle.word_runner.specs.Under.{Under}
use Rattle.word_runner.specs.View.{state_is}
use Rattle.word_runner.proofs.Numbered.{shown_is}
use Rattle.word_runner.proofs.Sinks.{grown_none, no_input, no_memory, none_yet}
use Rattle.word_runner.proofs.Work.{within}

-- where no run was begun
pub no_run : (shown : List ℕ → Behaviour Event) (f : Feed) (a b : Option (List ℕ)) (m n : ℕ) → Came shown f M.Memory f (told a a m m) (told b b n n)
no_run shown f a b m n = record { given = []; gave = gave_none f; failed = refl; comes = λ rest may. none_yet (shown rest) a b m n }

module _ (code : WordCode) (heap units : ℕ) (f : Feed) where
  -- at the beginning
  pub begins : (r : Run) (a b : Option (List ℕ)) (m n : ℕ) → is_word_code code ≡ true
      → ((rest : List ℕ) → state_is code.procs r rest ≡ record (start code heap 0 rest) { units = Some units })
      → r.input.taken.items ≡ [] → r.input.read ≡ 0 → r.input.ended ≡ false → Under code heap units f r f (told a a m m) (told b b n n)
  begins r a b m n formed state none read unended = record {
    holds = λ live rest ends. record {
      lines = 0;
      events = [];
      work = 0;
      same = λ k.
          let e : 0 + k ≡ k = omega arith in
          ap₂ (λ (l : List ℕ) (k : ℕ). shown_by live code heap units (l ++ rest) k) none e ∙ shown_is live code heap units rest k formed
          ∙ ap (λ (s : WordState). run_of (machine live code.procs) k s [] 0) (sym (state rest));
      output = record { all = grown_none a; faults = refl };
      errors = record { all = grown_none b; faults = refl };
    };
    within = omega (arith, read);
    gave = subst (λ (l : List ℕ). Gave f f l) (sym none) (gave_none f);
    faults = refl;
    over = λ e. absurd (true≢false (sym e ∙ unended));
  }

  module _ (r : Run) (now : Feed) (out err : Told) (u : Under code heap units f r now out err) where
    -- the work that is left is bounded
    pub stops : (procs : List WordProc) → procs ≡ code.procs → (most : List ℕ → ℕ) → ((live : Lives) → Stops (shown_by live code heap units) most)
        → (live : Lives) → StopsWithin (machine live procs) (state_is procs r []) (most r.input.taken.items)
    stops procs same most bounded live =
        subst (λ (p : List WordProc). StopsWithin (machine live p) (state_is p r []) (most r.input.taken.items)) (sym same)
        (within (machine live code.procs) (shown_by live code heap units (r.input.taken.items ++ [])) (state_is code.procs r []) out err
        (most r.input.taken.items)
        (u.holds live [] (λ e. refl))
        (λ n. subst (λ (l : List ℕ). (shown_by live code heap units (r.input.taken.items ++ []) n).work ≤ most l) (append-nil r.input.taken.items)
        (bounded live (r.input.taken.items ++ []) n)))

    -- what holds goes on, from the procedures of the code
    abbrev On : (new : Run) (out' err' : Told) → List WordProc → Type 0
    On new out' err' procs =
        (live : Lives) (rest : List ℕ) → (IsTrue r.input.ended → rest ≡ []) → (shown : Behaviour Event)
        → Holding (machine live procs) shown (state_is procs r rest) out err → Holding (machine live procs) shown (state_is procs new rest) out' err'

    abbrev End : (end : MeanEnd) (out' err' : Told) → List WordProc → Type 0
    End end out' err' procs =
        (live : Lives) (rest : List ℕ) → (IsTrue r.input.ended → rest ≡ []) → (shown : Behaviour Event)
        → Holding (machine live procs) shown (state_is procs r rest) out err → Comes shown end out' err'

    -- lines were carried out
    pub goes_on : (new : Run) (out' err' : Told) → Kept r.input new.input → (procs : List WordProc) → procs ≡ code.procs → On new out' err' procs
        → Under code heap units f new now out' err'
    goes_on new out' err' k procs same on = record {
      holds = λ live rest ends.
          subst (λ (t : Vec ℕ Global). Holding (machine live code.procs) (shown_by live code heap units (t.items ++ rest)) (state_is code.procs new rest)
          out' err')
          (sym k.taken)
          (subst (On new out' err') same on live rest (λ e. ends (subst IsTrue (sym k.ended) e)) (shown_by live code heap units (r.input.taken.items ++ rest))
          (u.holds live rest (λ e. ends (subst IsTrue (sym k.ended) e))));
      within = k.within u.within;
      gave = subst (λ (t : Vec ℕ Global). Gave f now t.items) (sym k.taken) u.gave;
      faults = u.faults;
      over = λ e. u.over (subst IsTrue k.ended e);
    }

    -- more was taken
    pub takes_more : (new : Run) (next : Feed) → r.input.ended ≡ false → Took r T.More new now next → Under code heap units f new next out err
    takes_more new next unended t =
        let bytes = t.0 in
        let more = t.3 in
        let closed : (rest : List ℕ) → IsTrue r.input.ended → bytes ++ rest ≡ [] = λ rest e. absurd (true≢false (sym e ∙ unended)) in
        record {
          holds = λ live rest ends.
              subst (λ (s : WordState). Holding (machine live code.procs) (shown_by live code heap units (new.input.taken.items ++ rest)) s out err)
              (sym (ap (λ (x : Run). state_is code.procs x rest) more.others
              ∙ ap (λ (l : List ℕ). record (state_is code.procs r rest) { input = l })
              (ap (λ (l : List ℕ). drop r.input.read l ++ rest) more.taken
              ∙ ap (λ (l : List ℕ). l ++ rest) (drop-append-le r.input.read r.input.taken.items bytes u.within)
              ∙ append_assoc (drop r.input.read r.input.taken.items) bytes rest)))
              (subst (λ (l : List ℕ). Holding (machine live code.procs) (shown_by live code heap units l) (state_is code.procs r (bytes ++ rest)) out err)
              (sym (ap (λ (l : List ℕ). l ++ rest) more.taken ∙ append_assoc r.input.taken.items bytes rest)) (u.holds live (bytes ++ rest) (closed rest)));
          within =
              let a = ap length more.taken in
              let b = length-append r.input.taken.items bytes in
              let c = ap (λ (x : Run). x.input.read) more.others in omega (arith, a, b, c, u.within);
          gave = subst (λ (l : List ℕ). Gave f next l) (sym more.taken) (gave_then f now next r.input.taken.items bytes u.gave t.1);
          faults = t.2 ∙ u.faults;
          over = λ e. more.ends e (λ x. absurd (true≢false (sym x ∙ unended)));
        }

    -- the source failed, and memory was refused
    pub fails : (next : Feed) (new : Run) → Took r T.Failed new now next → (live : Lives) → Came (shown_by live code heap units) f M.ReadFault next out err
    fails next new t live = record {
      given = r.input.taken.items;
      gave = subst (λ (l : List ℕ). Gave f next l) (append-nil r.input.taken.items) (gave_then f now next r.input.taken.items [] u.gave t.0);
      failed = subst (λ (n : ℕ). Rose n next.faults) u.faults t.1;
      comes = λ rest may.
          let before = t.0.before rest may in
          no_input (machine live code.procs) (shown_by live code heap units (r.input.taken.items ++ rest)) (state_is code.procs r rest) out err
          (u.holds live rest (λ e. u.over e rest before));
    }

    pub refuses : (next : Feed) (new : Run) → Took r T.Memory new now next → (live : Lives) → Came (shown_by live code heap units) f M.Memory next out err
    refuses next new t live =
        let bytes = t.0 in
        record {
          given = r.input.taken.items ++ bytes;
          gave = gave_then f now next r.input.taken.items bytes u.gave t.1;
          failed = t.2 ∙ u.faults;
          comes = λ rest may.
              let before = t.1.before rest may in
              subst (λ (l : List ℕ). Comes (shown_by live code heap units l) M.Memory out err) (sym (append_assoc r.input.taken.items bytes rest))
              (no_memory (machine live code.procs) (shown_by live code heap units (r.input.taken.items ++ (bytes ++ rest)))
              (state_is code.procs r (bytes ++ rest)) out err
              (u.holds live (bytes ++ rest) (λ e. u.over e (bytes ++ rest) before)));
        }

    -- it came to its end
    pub came : (end : MeanEnd) (out' err' : Told) → (procs : List WordProc) → procs ≡ code.procs → End end out' err' procs
        → Failed end f now → (live : Lives) → Came (shown_by live code heap units) f end now out' err'
    came end out' err' procs same on failed live = record {
      given = r.input.taken.items;
      gave = u.gave;
      failed = failed;
      comes = λ rest may.
          subst (End end out' err') same on live rest (λ e. u.over e rest may) (shown_by live code heap units (r.input.taken.items ++ rest))
          (u.holds live rest (λ e. u.over e rest may));
    }

-- less may still be taken
abbrev pub room_left : (taken : ℕ) → (ended : Bool) → ℕ
room_left n ended = 2 ^ 64 - n + (if ended then 0 else 1)

pub less_left : (before r new : Run) (now next : Feed) → Kept before.input r.input → r.input.ended ≡ false → length new.input.taken.items < 2 ^ 64
    → Took r T.More new now next
    → room_left (length new.input.taken.items) new.input.ended < room_left (length before.input.taken.items) before.input.ended
less_left before r new now next k unended small t =
    let a = ap (λ (v : Vec ℕ Global). length v.items) k.taken in
    let b = ap length t.3.taken in
    let c = length-append r.input.taken.items t.0 in
    let more : length new.input.taken.items ≡ length before.input.taken.items + length t.0 = omega (arith, a, b, c) in
    let first : before.input.ended ≡ false = sym k.ended ∙ unended in
    subst (λ (e : Bool). room_left (length new.input.taken.items) new.input.ended < room_left (length before.input.taken.items) e) (sym first)
    (by new.input.ended refl t.0 t.3.some (length new.input.taken.items) (length before.input.taken.items) more small)
  where
    by : (e : Bool) → new.input.ended ≡ e → (bytes : List ℕ) → (bytes ≡ [] → new.input.ended ≡ true) → (n m : ℕ) → n ≡ m + length bytes → n < 2 ^ 64
        → room_left n e < room_left m false
    by true is bytes some n m sum lt = omega (arith, sum, lt)
    by false is [] some n m sum lt = absurd (true≢false (sym (some refl) ∙ is))
    by false is (b ∷ bytes) some n m sum lt = omega (arith, sum, lt)
