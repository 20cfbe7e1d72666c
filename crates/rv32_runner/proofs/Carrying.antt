-- Runs of the machine, one after another.
use Rattle.std.proofs.Common.{◌≡◌, ℕ, zero, suc, ◌+◌, List, [], ◌∷◌, ◌++◌, Option, Some, None, Bool, true, false, refl, sym, ap, subst, ◌∙◌, append_assoc}
use Rattle.std.proofs.Common.{append-nil, suc-add, zero-add}
use Rattle.std.specs.Prelude.{◌==◌, if◌then◌else◌}
use Rattle.arc_base.specs.declared.outside.Stream.{Stream}
use Rattle.arc_base.specs.declared.outside.Stream.TheVariants.{Out, Err}
use Rattle.arc_base.specs.Event.{Event, Write, Hook}
use Rattle.arc_base.specs.Outside.{Grown}
use Rattle.arc_base.proofs.ForCallers.{grown_more}
use Rattle.rv32_isa.specs.declared.image.HookAt.{HookAt}
use Rattle.rv32_isa.specs.State.{State}
use Rattle.rv32_isa.specs.Steps.{outcome}
use Rattle.rv32_isa.specs.Steps as leads
use Rattle.rv32_isa.specs.Machine.{Run, Advance, On, Exited, Faulted, Standing, Runs, HasExited, HasFaulted, advance, led, arrival, all_shown, stood, standing}
use Rattle.rv32_runner.specs.Streams.{Streams, Feed, Tally, Gave, MayGive, Got, bytes_on}
use Rattle.rv32_runner.specs.Runs.{Leads, Carried, on}

-- ---- sinks

grown_none : (a : Option (List ℕ)) → Grown a a []
grown_none None = tt
grown_none (Some x) = sym (append-nil x)

pub got_none : (a : Tally) → Got a a []
got_none a = record { got = grown_none a.written; faults = refl }

pub got_more : (a b c : Tally) (xs ys : List ℕ) → Got a b xs → Got b c ys → Got a c (xs ++ ys)
got_more a b c xs ys p q = record { got = grown_more a.written b.written c.written xs ys p.got q.got; faults = q.faults ∙ p.faults }

pub bytes_append : (stream : Stream) (xs ys : List Event) → bytes_on stream (xs ++ ys) ≡ bytes_on stream xs ++ bytes_on stream ys
bytes_append Out [] ys = refl
bytes_append Err [] ys = refl
bytes_append Out (Write Out byte ∷ xs) ys = ap (λ l. byte ∷ l) (bytes_append Out xs ys)
bytes_append Out (Write Err byte ∷ xs) ys = bytes_append Out xs ys
bytes_append Err (Write Out byte ∷ xs) ys = bytes_append Err xs ys
bytes_append Err (Write Err byte ∷ xs) ys = ap (λ l. byte ∷ l) (bytes_append Err xs ys)
bytes_append Out (Hook kind of ∷ xs) ys = bytes_append Out xs ys
bytes_append Err (Hook kind of ∷ xs) ys = bytes_append Err xs ys

got_both : (stream : Stream) (a b c : Tally) (xs ys : List Event) → Got a b (bytes_on stream xs) → Got b c (bytes_on stream ys) →
    Got a c (bytes_on stream (xs ++ ys))
got_both stream a b c xs ys p q = subst (Got a c) (sym (bytes_append stream xs ys)) (got_more a b c (bytes_on stream xs) (bytes_on stream ys) p q)

-- ---- where a run stands

-- with events that were shown before
abbrev pub before : List Event → Standing → Standing
before xs (Runs shown at) = Runs (xs ++ shown) at
before xs (HasExited shown status at) = HasExited (xs ++ shown) status at
before xs (HasFaulted shown kind pc word at) = HasFaulted (xs ++ shown) kind pc word at

-- it goes on where it runs
abbrev pub go_on : Standing → (Run → List Event → Standing) → Standing
go_on (Runs shown at) go = go at shown
go_on (HasExited shown status at) go = HasExited shown status at
go_on (HasFaulted shown kind pc word at) go = HasFaulted shown kind pc word at

module _ (hooks : List HookAt) where
  stood_before : (n : ℕ) (r : Run) (x : Advance) (xs out : List Event) →
      ((r : Run) (xs out : List Event) → standing hooks n r (xs ++ out) ≡ before xs (standing hooks n r out)) →
      stood hooks (standing hooks n) r (xs ++ out) x ≡ before xs (stood hooks (standing hooks n) r out x)
  stood_before n r (On next shown) xs out h =
      ap (standing hooks n next) (append_assoc xs out (all_shown hooks shown next)) ∙ h next xs (out ++ all_shown hooks shown next)
  stood_before n r (Exited status) xs out h = refl
  stood_before n r (Faulted kind pc word) xs out h = refl

  pub standing_before : (n : ℕ) (r : Run) (xs out : List Event) → standing hooks n r (xs ++ out) ≡ before xs (standing hooks n r out)
  standing_before zero r xs out = refl
  standing_before (suc n) r xs out = stood_before n r (advance r) xs out (standing_before n)

  stood_then : (m n : ℕ) (r : Run) (x : Advance) (out : List Event) →
      ((r : Run) (out : List Event) → standing hooks (m + n) r out ≡ go_on (standing hooks m r out) (standing hooks n)) →
      stood hooks (standing hooks (m + n)) r out x ≡ go_on (stood hooks (standing hooks m) r out x) (standing hooks n)
  stood_then m n r (On next shown) out h = h next (out ++ all_shown hooks shown next)
  stood_then m n r (Exited status) out h = refl
  stood_then m n r (Faulted kind pc word) out h = refl

  pub standing_then : (m n : ℕ) (r : Run) (out : List Event) → standing hooks (m + n) r out ≡ go_on (standing hooks m r out) (standing hooks n)
  standing_then zero n r out = ap (λ k. standing hooks k r out) (zero-add n)
  standing_then (suc m) n r out = ap (λ k. standing hooks k r out) (suc-add m n) ∙ stood_then m n r (advance r) out (standing_then m n)

-- ---- what a source gave

pub gave_none : (a : Feed) → Gave a a []
gave_none a = record { gave = sym (append-nil a.gave); before = λ rest h. h }

pub gave_then : (a b c : Feed) (xs ys : List ℕ) → Gave a b xs → Gave b c ys → Gave a c (xs ++ ys)
gave_then a b c xs ys p q = record {
  gave = q.gave ∙ ap (λ l. l ++ ys) p.gave ∙ append_assoc a.gave xs ys;
  before = λ rest h. subst (MayGive a.left a.ended) (sym (append_assoc xs ys rest)) (p.before (ys ++ rest) (q.before rest h));
}

-- ---- hooks write nothing

arrival_out : (hooks : List HookAt) (pc : ℕ) → bytes_on Out (arrival hooks pc) ≡ []
arrival_out [] pc = refl
arrival_out (hook ∷ hooks) pc = by_test (hook.addr == pc) (arrival hooks pc) (arrival_out hooks pc)
  where
    by_test : (b : Bool) (es : List Event) → bytes_on Out es ≡ [] → bytes_on Out (if b then Hook hook.kind hook.of ∷ [] else es) ≡ []
    by_test true es h = refl
    by_test false es h = h

arrival_err : (hooks : List HookAt) (pc : ℕ) → bytes_on Err (arrival hooks pc) ≡ []
arrival_err [] pc = refl
arrival_err (hook ∷ hooks) pc = by_test (hook.addr == pc) (arrival hooks pc) (arrival_err hooks pc)
  where
    by_test : (b : Bool) (es : List Event) → bytes_on Err es ≡ [] → bytes_on Err (if b then Hook hook.kind hook.of ∷ [] else es) ≡ []
    by_test true es h = refl
    by_test false es h = h

arrival_none : (stream : Stream) (hooks : List HookAt) (pc : ℕ) → bytes_on stream (arrival hooks pc) ≡ []
arrival_none Out hooks pc = arrival_out hooks pc
arrival_none Err hooks pc = arrival_err hooks pc

all_bytes : (stream : Stream) (hooks : List HookAt) (shown : List Event) (next : Run) → bytes_on stream (all_shown hooks shown next) ≡ bytes_on stream shown
all_bytes stream hooks shown next =
    let late = arrival hooks next.state.pc in
    bytes_append stream shown late ∙ ap (λ l. bytes_on stream shown ++ l) (arrival_none stream hooks next.state.pc) ∙ append-nil (bytes_on stream shown)

-- ---- carried further

module _ (hooks : List HookAt) where
  pub leads_none : (b : Streams) (r : Run) → Leads hooks 0 b r r b
  leads_none b r = record { shown = []; stands = refl; out = got_none b.out; err = got_none b.err }

  pub leads_then : (m n : ℕ) (b c d : Streams) (r u v : Run) → Leads hooks m b r u c → Leads hooks n c u v d → Leads hooks (m + n) b r v d
  leads_then m n b c d r u v p q = record {
    shown = p.shown ++ q.shown;
    stands =
        standing_then hooks m n r []
        ∙ ap (λ x. go_on x (standing hooks n)) p.stands
        ∙ ap (standing hooks n u) (sym (append-nil p.shown))
        ∙ standing_before hooks n u p.shown []
        ∙ ap (before p.shown) q.stands;
    out = got_both Out b.out c.out d.out p.shown q.shown p.out q.out;
    err = got_both Err b.err c.err d.err p.shown q.shown p.err q.err;
  }

  -- one instruction that shows these events
  pub leads_one : (b c : Streams) (r t : Run) (shown : List Event) → advance r ≡ On t shown → Got b.out c.out (bytes_on Out shown) →
      Got b.err c.err (bytes_on Err shown) → Leads hooks 1 b r t c
  leads_one b c r t shown e out err = record {
    shown = all_shown hooks shown t;
    stands = ap (stood hooks (standing hooks 0) r []) e;
    out = subst (Got b.out c.out) (sym (all_bytes Out hooks shown t)) out;
    err = subst (Got b.err c.err) (sym (all_bytes Err hooks shown t)) err;
  }

pub carried_none : (b : Streams) (s : State) → Carried 0 b s s b
carried_none b s = record { given = []; gave = gave_none b.input; faults = refl; leads = λ hooks rest h. leads_none hooks b (on s rest) }

pub carried_then : (m n : ℕ) (b c d : Streams) (s t u : State) → Carried m b s t c → Carried n c t u d → Carried (m + n) b s u d
carried_then m n b c d s t u p q = record {
  given = p.given ++ q.given;
  gave = gave_then b.input c.input d.input p.given q.given p.gave q.gave;
  faults = q.faults ∙ p.faults;
  leads = λ hooks rest h.
      let first = p.leads hooks (q.given ++ rest) (q.gave.before rest h) in
      let both = leads_then hooks m n b c d (on s (p.given ++ (q.given ++ rest))) (on t (q.given ++ rest)) (on u rest) first (q.leads hooks rest h) in
      subst (λ input. Leads hooks (m + n) b (on s input) (on u rest) d) (sym (append_assoc p.given q.given rest)) both;
}

-- an instruction that is given these bytes and shows these events
pub carried_one : (b c : Streams) (s t : State) (given : List ℕ) (shown : List Event) → Gave b.input c.input given → c.input.faults ≡ b.input.faults →
    ((rest : List ℕ) → MayGive c.input.left c.input.ended rest → advance (on s (given ++ rest)) ≡ On (on t rest) shown) →
    Got b.out c.out (bytes_on Out shown) → Got b.err c.err (bytes_on Err shown) → Carried 1 b s t c
carried_one b c s t given shown gave faults e out err = record {
  given = given;
  gave = gave;
  faults = faults;
  leads = λ hooks rest h. leads_one hooks b c (on s (given ++ rest)) (on t rest) shown (e rest h) out err;
}

-- an instruction that needs no call
pub carried_on : (b : Streams) (s t : State) → outcome s ≡ leads.Goes t → Carried 1 b s t b
carried_on b s t e = carried_one b b s t [] [] (gave_none b.input) refl (λ rest h. ap (led (on s rest)) e) (got_none b.out) (got_none b.err)
