-- Code without what no call can reach does the same, line by line: what it may call has one of the numbers that are left.
use Rattle.std.proofs.Common.{◌≡◌, ℕ, zero, suc, List, [], ◌∷◌, ◌++◌, Option, Some, None}
use Rattle.std.proofs.Common.{Result, Ok, Err, Bool, true, false, refl, sym, ap, subst, ◌∙◌}
use Rattle.std.specs.Prelude.{◌==◌, if◌then◌else◌, min, length, ◌%◌, ◌+◌}
use Rattle.word_code.specs.Memory.{number_at, may_put, with_number, may_fill, bytes_at}
use Rattle.std.proofs.lemmas.Bool.{eqb-true, eq-eqb}
use Rattle.arc_base.specs.Event.{Event}
use Rattle.arc_base.specs.Stepping.{Next, Goes, Ends, Faults, Errs, next_map, after, run}
use Rattle.arc_base.specs.declared.outside.Stream.{Stream}
use Rattle.rv32_isa.specs.declared.machine.FaultKind.{FaultKind}
use Rattle.rv32_isa.specs.Machine.{Lives}
use Rattle.number_sets.specs.Numbers.{is_among}
use Rattle.number_sets.proofs.ForCallers.{or_first, or_next}
use Rattle.word_code.specs.declared.word.WordInstr.{WordInstr}
use Rattle.word_code.specs.declared.word.WordInstr.TheVariants as line
use Rattle.word_code.specs.declared.word.WordProc.{WordProc}
use Rattle.word_code.specs.Words as word
use Rattle.word_code.specs.Words.{WordState, WordFrame, WordScene, WordDid, Fresh, callee_of, from_proc, from_label, is_label, first_of}
use Rattle.reachable_procs.specs.Reachable.{is_callee, calls, lines_from, a_call, AreReached, kept}

-- ---- the first procedure of a number

abbrev pub SameFirst : List WordProc → List WordProc → Type 0
SameFirst [] [] = Unit {0}
SameFirst [] (q ∷ qs) = ⊥
SameFirst (p ∷ ps) [] = ⊥
SameFirst (p ∷ ps) (q ∷ qs) = p ≡ q

pub kept_first : (numbers : List ℕ) (procs : List WordProc) (n : ℕ) → is_among n numbers ≡ true
    → SameFirst (from_proc n (kept numbers procs)) (from_proc n procs)
kept_first numbers [] n among = tt
kept_first numbers (p ∷ procs) n among = by (is_among p.number numbers) (p.number == n) refl refl (kept_first numbers procs n among)
  where
    later : List WordProc
    later = from_proc n (kept numbers procs)

    differ : false ≡ true → ⊥
    differ h = cc

    by : (b c : Bool) → is_among p.number numbers ≡ b → (p.number == n) ≡ c → SameFirst later (from_proc n procs)
        → SameFirst (from_proc n (if b then p ∷ kept numbers procs else kept numbers procs)) (if c then p ∷ procs else from_proc n procs)
    by true true e f rest = subst (λ d. SameFirst (if d then p ∷ kept numbers procs else later) (p ∷ procs)) (sym f) refl
    by true false e f rest = subst (λ d. SameFirst (if d then p ∷ kept numbers procs else later) (from_proc n procs)) (sym f) rest
    by false true e f rest = absurd (differ (sym e ∙ ap (λ m. is_among m numbers) (eqb-true p.number n f) ∙ among))
    by false false e f rest = rest

pub same_first : (ps qs : List WordProc) → SameFirst ps qs → first_of ps ≡ first_of qs
same_first [] [] e = refl
same_first [] (q ∷ qs) e = absurd e
same_first (p ∷ ps) [] e = absurd e
same_first (p ∷ ps) (q ∷ qs) e = e

-- ---- what states may call

module _ (live : Lives) (procs : List WordProc) (numbers : List ℕ) (are : AreReached procs numbers) where
  abbrev pub left : List WordProc
  left = kept numbers procs

  -- these lines call what is left alone
  abbrev pub MayCall : List WordInstr → Type 0
  MayCall lines = (n : ℕ) → calls n lines ≡ true → is_among n numbers ≡ true

  abbrev pub IsIn : WordFrame → Type 0
  IsIn frame = MayCall frame.left × MayCall frame.proc.lines

  abbrev pub AreIn : List WordFrame → Type 0
  AreIn [] = Unit {0}
  AreIn (frame ∷ frames) = IsIn frame × AreIn frames

  abbrev pub IsReaching : WordState → Type 0
  IsReaching s = IsIn s.frame × AreIn s.callers

  abbrev GoesOn : Next Event WordState → Type 0
  GoesOn (Goes es w s) = IsReaching s
  GoesOn (Ends es w status live) = Unit {0}
  GoesOn Faults = Unit {0}
  GoesOn Errs = Unit {0}

  first_may : (line : WordInstr) (lines : List WordInstr) → MayCall (line ∷ lines) → (n : ℕ) → is_callee n (callee_of line) ≡ true
      → is_among n numbers ≡ true
  first_may line lines may n e = may n (or_first (calls n lines) e)

  rest_may : (line : WordInstr) (lines : List WordInstr) → MayCall (line ∷ lines) → MayCall lines
  rest_may line lines may n e = may n (or_next (is_callee n (callee_of line)) e)

  -- what is called is a procedure whose lines may be called
  pub callee_may : (n : ℕ) → is_among n numbers ≡ true → MayCall (lines_from (from_proc n procs))
  callee_may n among m called = are.all m (a_call n m (are.only n among) called)

  -- ---- what a line did

  abbrev MayDo : WordDid → Type 0
  MayDo (word.Passes shown x) = Unit {0}
  MayDo (word.Spends x) = Unit {0}
  MayDo (word.Leaps name x) = Unit {0}
  MayDo (word.Calls to callee x) = is_among callee numbers ≡ true
  MayDo (word.Returns w) = Unit {0}
  MayDo (word.Exits status) = Unit {0}
  MayDo word.Fails = Unit {0}

  record CallIn (d : WordDid) : Type 0 where
    so : MayDo d

  no_call : {d : WordDid} → MayDo d → CallIn d
  no_call so = record { so = so }

  one : (o : Option ℕ) (go : ℕ → WordDid) → ((a : ℕ) → CallIn (go a)) → CallIn (word.using o go)
  one None go h = no_call tt
  one (Some a) go h = h a

  two : (o p : Option ℕ) (go : ℕ → ℕ → WordDid) → ((a b : ℕ) → CallIn (go a b)) → CallIn (word.using o (λ a. word.using p (go a)))
  two o p go h = one o (λ a. word.using p (go a)) (λ a. one p (go a) (h a))

  either : (b : Bool) (d e : WordDid) → CallIn d → CallIn e → CallIn (if b then d else e)
  either true d e h k = h
  either false d e h k = k

  loaded : (x : WordScene) (to : ℕ) (r : Result ℕ FaultKind) → CallIn (word.loads x to r)
  loaded x to (Ok n) = no_call tt
  loaded x to (Err kind) = no_call tt

  shown : (x : WordScene) (stream : Stream) (o : Option (List ℕ)) → CallIn (word.shows x stream o)
  shown x stream None = no_call tt
  shown x stream (Some bytes) = no_call tt

  did_in : (x : WordScene) (l : WordInstr) → ((n : ℕ) → is_callee n (callee_of l) ≡ true → is_among n numbers ≡ true) → CallIn (word.does x l)
  did_in x (line.Label name) may = no_call tt
  did_in x line.Spend may = no_call tt
  did_in x (line.SpendIf test a b) may = two (x.vars a) (x.vars b) (λ m n. if word.holds test m n then word.Spends x else word.Passes [] x)
      (λ m n. either (word.holds test m n) (word.Spends x) (word.Passes [] x) (no_call tt) (no_call tt))
  did_in x (line.Constant to value) may = no_call tt
  did_in x (line.Copy to from) may = one (x.vars from) (word.sets x to) (λ m. no_call tt)
  did_in x (line.Compute to operation a b) may = two (x.vars a) (x.vars b) (λ m n. word.sets x to (word.computed operation m n)) (λ m n. no_call tt)
  did_in x (line.Sum to from value) may = one (x.vars from) (λ m. word.sets x to (m + value)) (λ m. no_call tt)
  did_in x (line.Place to at) may = no_call tt
  did_in x (line.Datum to at) may = no_call tt
  did_in x (line.Load to address size) may = one (x.vars address) (λ m. word.loads x to (number_at x.memory m size))
      (λ m. loaded x to (number_at x.memory m size))
  did_in x (line.Store address from size) may =
      let stored : ℕ → ℕ → WordDid = λ m n. word.Passes [] (record x { memory = with_number x.memory m size n }) in
      two (x.vars address) (x.vars from) (λ m n. if may_put x.memory m size then stored m n else word.Fails)
      (λ m n. either (may_put x.memory m size) (stored m n) word.Fails (no_call tt) (no_call tt))
  did_in x (line.Jump to) may = no_call tt
  did_in x (line.Branch test a b to) may = two (x.vars a) (x.vars b) (λ m n. if word.holds test m n then word.Leaps to x else word.Passes [] x)
      (λ m n. either (word.holds test m n) (word.Leaps to x) (word.Passes [] x) (no_call tt) (no_call tt))
  did_in x (line.Argument index from) may = one (x.vars from) (λ m. word.Passes [] (record x { given = word.put x.given index m })) (λ m. no_call tt)
  did_in x (line.Call to callee) may = no_call (may callee (eq-eqb callee callee refl))
  did_in x (line.Return from) may = one (x.vars from) (λ m. word.Returns m) (λ m. no_call tt)
  did_in x (line.Read to address len) may =
      let reading : ℕ → ℕ → WordDid = λ m n. word.reads x to m (min n (length x.input)) in
      two (x.vars address) (x.vars len) (λ m n. if may_fill x.memory m n then reading m n else word.Fails)
      (λ m n. either (may_fill x.memory m n) (reading m n) word.Fails (no_call tt) (no_call tt))
  did_in x (line.Write stream address len) may = two (x.vars address) (x.vars len) (λ m n. word.shows x stream (bytes_at x.memory m n))
      (λ m n. shown x stream (bytes_at x.memory m n))
  did_in x (line.Exit status) may = one (x.vars status) (λ m. word.Exits (m % 256)) (λ m. no_call tt)

  -- ---- one step

  abbrev LabelIn : Option (List WordInstr) → Type 0
  LabelIn None = Unit {0}
  LabelIn (Some lines) = MayCall lines

  label_in : (name : ℕ) (lines : List WordInstr) → MayCall lines → LabelIn (from_label name lines)
  label_in name [] may = tt
  label_in name (l ∷ lines) may = by (is_label name l) (label_in name lines (rest_may l lines may))
    where
      by : (b : Bool) → LabelIn (from_label name lines) → LabelIn (if b then Some (l ∷ lines) else from_label name lines)
      by true rest = may
      by false rest = rest

  jumped_in : (s : WordState) (x : WordScene) (o : Option (List WordInstr)) → IsReaching s → LabelIn o → GoesOn (word.jumped s x o)
  jumped_in s x None h l = tt
  jumped_in s x (Some lines) h l = ((l, h.0.1), h.1)

  stays_or : (b : Bool) (x : Next Event WordState) → GoesOn x → GoesOn (if b then Faults else x)
  stays_or true x h = tt
  stays_or false x h = h

  entered_in : (bytes : List ℕ) (s : WordState) (rest : List WordInstr) (x : WordScene) (to : ℕ) (ps : List WordProc) → MayCall rest → IsReaching s
      → MayCall (lines_from ps) → GoesOn (word.entered bytes s rest x to ps)
  entered_in bytes s rest x to [] may h l = tt
  entered_in bytes s rest x to (p ∷ ps) may h l = stays_or (word.is_full p (s.frame ∷ s.callers)) _ ((l, l), ((may, h.0.1), h.1))

  entered_same : (bytes : List ℕ) (s : WordState) (rest : List WordInstr) (x : WordScene) (to : ℕ) (ps qs : List WordProc) → SameFirst ps qs
      → word.entered bytes s rest x to ps ≡ word.entered bytes s rest x to qs
  entered_same bytes s rest x to [] [] e = refl
  entered_same bytes s rest x to [] (q ∷ qs) e = absurd e
  entered_same bytes s rest x to (p ∷ ps) [] e = absurd e
  entered_same bytes s rest x to (p ∷ ps) (q ∷ qs) e = ap (λ r. word.entered bytes s rest x to (r ∷ [])) e

  returned_in : (s : WordState) (w : ℕ) (callers : List WordFrame) → AreIn callers → GoesOn (word.returned s w callers)
  returned_in s w [] h = tt
  returned_in s w (caller ∷ callers) h = h

  spent_in : (units : Option ℕ) (next now : WordState) → IsReaching next → IsReaching now → GoesOn (word.spent units next now)
  spent_in None next now h k = h
  spent_in (Some zero) next now h k = k
  spent_in (Some (suc n)) next now h k = h

  settled_in : (bytes : List ℕ) (s : WordState) (rest : List WordInstr) (d : WordDid) → MayCall rest → IsReaching s → CallIn d
      → GoesOn (word.settled live procs bytes s rest d)
  settled_in bytes s rest (word.Passes out x) may h c = ((may, h.0.1), h.1)
  settled_in bytes s rest (word.Spends x) may h c = spent_in s.units (word.onward s rest x) s ((may, h.0.1), h.1) h
  settled_in bytes s rest (word.Leaps name x) may h c = jumped_in s x _ h (label_in name s.frame.proc.lines h.0.1)
  settled_in bytes s rest (word.Calls to callee x) may h c = entered_in bytes s rest x to (from_proc callee procs) may h (callee_may callee c.so)
  settled_in bytes s rest (word.Returns w) may h c = returned_in s w s.callers h.1
  settled_in bytes s rest (word.Exits status) may h c = tt
  settled_in bytes s rest word.Fails may h c = tt

  settled_same : (bytes : List ℕ) (s : WordState) (rest : List WordInstr) (d : WordDid) → CallIn d
      → word.settled live left bytes s rest d ≡ word.settled live procs bytes s rest d
  settled_same bytes s rest (word.Passes out x) c = refl
  settled_same bytes s rest (word.Spends x) c = refl
  settled_same bytes s rest (word.Leaps name x) c = refl
  settled_same bytes s rest (word.Calls to callee x) c =
      entered_same bytes s rest x to (from_proc callee left) (from_proc callee procs) (kept_first numbers procs callee c.so)
  settled_same bytes s rest (word.Returns w) c = refl
  settled_same bytes s rest (word.Exits status) c = refl
  settled_same bytes s rest word.Fails c = refl

  lines_in : (bytes : List ℕ) (s : WordState) (lines : List WordInstr) → MayCall lines → IsReaching s → GoesOn (word.step_lines live procs bytes s lines)
  lines_in bytes s [] may h = tt
  lines_in bytes s (l ∷ rest) may h =
      settled_in bytes s rest (word.does (word.scene_of s) l) (rest_may l rest may) h (did_in (word.scene_of s) l (first_may l rest may))

  lines_same : (bytes : List ℕ) (s : WordState) (lines : List WordInstr) → MayCall lines
      → word.step_lines live left bytes s lines ≡ word.step_lines live procs bytes s lines
  lines_same bytes s [] may = refl
  lines_same bytes s (l ∷ rest) may = settled_same bytes s rest (word.does (word.scene_of s) l) (did_in (word.scene_of s) l (first_may l rest may))

  -- ---- runs

  module _ (fresh : Fresh) where
    pub run_same : (n k : ℕ) (s : WordState) (out : List Event) (done : ℕ) → IsReaching s
        → run (word.step_of live left fresh) n (k, s) out done ≡ run (word.step_of live procs fresh) n (k, s) out done
    run_same zero k s out done h = refl
    run_same (suc n) k s out done h =
        ap (λ x. after (next_map (λ t. (suc k, t)) x) (run (word.step_of live left fresh) n) out done) (lines_same (fresh k) s s.frame.left h.0.0)
        ∙ goes (word.step live procs (fresh k) s) (lines_in (fresh k) s s.frame.left h.0.0 h) (run_same n)
      where
        goes : (x : Next Event WordState) → GoesOn x
            → ((k : ℕ) (t : WordState) (out : List Event) (done : ℕ) → IsReaching t
            → run (word.step_of live left fresh) n (k, t) out done ≡ run (word.step_of live procs fresh) n (k, t) out done)
            → after (next_map (λ t. (suc k, t)) x) (run (word.step_of live left fresh) n) out done
            ≡ after (next_map (λ t. (suc k, t)) x) (run (word.step_of live procs fresh) n) out done
        goes (Goes es w t) on later = later (suc k) t (out ++ es) _ on
        goes (Ends es w status left_live) on later = refl
        goes Faults on later = refl
        goes Errs on later = refl
