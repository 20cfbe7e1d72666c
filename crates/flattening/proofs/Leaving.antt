-- Statements that may be left: where control goes on, and how statements are put together.
use Rattle.std.proofs.Common.{◌≡◌, ℕ, zero, suc, ◌+◌, ◌*◌, ◌<◌, ◌≤◌, Bool, true, false, List, [], ◌∷◌, Some, refl, sym, ◌∙◌, subst, arith}
use Rattle.std.specs.Prelude.{if◌then◌else◌}
use Rattle.arc_base.specs.Event.{Event}
use Rattle.arc_base.specs.BigStep.{Meter, Res, Got, Over, Going, Errs as IsWrong, then_do, spend, Turn, Again, Leave}
use Rattle.nim_program.specs.Program.{Declared}
use Rattle.nim_meaning.specs.State.{World, State}
use Rattle.nim_meaning.specs.Here.{is_hooked}
use Rattle.nim_meaning.specs.Acts.{Broke, Continued, Returned, Raised, Exit, Outcome, On, Out}
use Rattle.nim_meaning.specs.Acts.{Does, onward, exit_of, as_before, ◌>>◌ as then_act, loop, turn_of, next}
use Rattle.nim_meaning.specs.Waiting.{Wait}
use Rattle.nim_meaning.specs.Meaning.{ended, scoped}
use Rattle.flat_code.specs.declared.line.Owning.TheVariants as W
use Rattle.flat_code.specs.declared.line.Line.{Line}
use Rattle.flat_code.specs.declared.line.Line.TheVariants as L
use Rattle.flat_code.specs.Scene.{Temps}
use Rattle.flattening.specs.declared.numbers.Purpose.TheVariants.{End, Next}
use Rattle.flattening.specs.Numbering.{type_number, label}
use Rattle.flattening.specs.StmtLines.{Exits, in_loop, ending as exits_ending, place_end}
use Rattle.flattening.specs.ExprLines.{end_lines}
use Rattle.flattening.proofs.Runs.{M, Runs, Walks, walks_spared, spares, lands, behind, follows_on, Turned, follows_turns}
use Rattle.flattening.proofs.Worlds.{Since, since_then, still_holds}
use Rattle.flattening.proofs.Temps.{Kept, kept_then, kept_wide}
use Rattle.flattening.proofs.Puts.{Puts, found, puts_none, puts_line, ◌>>◌}
use Rattle.flattening.proofs.Endings.{IsListed, IsOpen, EndsFollow, place_ends_follow, AreListedWaits, waits_end_follow}
use Rattle.flattening.proofs.Spots.{Spot, here_of, there, At, weaker, do_assoc, after, walks_leap, leaps}

-- ways out have no labels
pub record PutsExits (exits : Exits) : Type 0 where
  pub breaks : {lo hi : ℕ} → Puts lo hi exits.breaks
  pub continues : {lo hi : ℕ} → Puts lo hi exits.continues
  pub returns : {lo hi : ℕ} → Puts lo hi exits.returns

pub puts_in_loop : (exits : Exits) (t : ℕ) → PutsExits exits → PutsExits (in_loop exits t)
puts_in_loop exits t h = record { breaks = puts_line _ refl; continues = puts_line _ refl; returns = h.returns }

pub puts_ending : {exits : Exits} {lines : List Line → List Line} → ((lo hi : ℕ) → Puts lo hi lines) → PutsExits exits → PutsExits (exits_ending lines exits)
puts_ending {exits} {lines} puts h = record { breaks = puts _ _ >> h.breaks; continues = puts _ _ >> h.continues; returns = puts _ _ >> h.returns }

pub puts_place_end : (c : Spot) (place : Declared) (lo hi : ℕ) → Puts lo hi (place_end c.fixed.program.types c.fixed.program.facts place)
puts_place_end c place lo hi = on (is_hooked c.fixed.program.facts place.of)
  where
    on : (b : Bool) → Puts lo hi (λ k. if b then L.Own (W.PlaceEnds place.number (type_number c.fixed.program.types place.of)) [] ∷ k else k)
    on true = puts_line _ refl
    on false = puts_none

pub puts_ends : (c : Spot) (waits : List Wait) (lo hi : ℕ) → Puts lo hi (end_lines c.fixed.program.types waits)
puts_ends c [] lo hi = puts_none
puts_ends c (w ∷ ws) lo hi = puts_ends c ws lo hi >> puts_line _ refl

-- ---- what is around a statement

-- The labels to which its ways out lead, and the lines from these on. A way out is a list of lines: what ends, and then the jump or the return.
pub record Around (c : Spot) (exits : Exits) (inside : Bool) : Type 0 where
  pub break_at : ℕ
  pub continue_at : ℕ
  pub break_to : List Line
  pub continue_to : List Line
  pub puts : PutsExits exits

-- inside of what ends by some lines
abbrev pub around_end : {c : Spot} → {exits : Exits} → {inside : Bool} → Around c exits inside → (lines : List Line → List Line) →
    ((lo hi : ℕ) → Puts lo hi lines) → Around c (exits_ending lines exits) inside
around_end around lines puts = record {
  break_at = around.break_at;
  continue_at = around.continue_at;
  break_to = around.break_to;
  continue_to = around.continue_to;
  puts = puts_ending puts around.puts;
}

-- They are found among the lines that are left, and are none of those of the numbers from t on.
pub record Reaches {c : Spot} {exits : Exits} {inside : Bool} (around : Around c exits inside) (t : ℕ) (k : List Line) : Type 0 where
  pub breaks : inside ≡ true → found around.break_at k ≡ Some around.break_to
  pub continues : inside ≡ true → found around.continue_at k ≡ Some around.continue_to
  pub break_before : inside ≡ true → around.break_at < 4 * t
  pub continue_before : inside ≡ true → around.continue_at < 4 * t

-- with more lines of one's own in front
pub reaches : {c : Spot} {exits : Exits} {inside : Bool} {around : Around c exits inside} {t t' lo hi : ℕ} {F : List Line → List Line} {k : List Line} →
    t ≤ t' →
    4 * t ≤ lo → Puts lo hi F → Reaches around t k → Reaches around t' (F k)
reaches {c} {exits} {inside} {around} {t} {t'} {lo} {hi} {F} {k} le low puts r = record {
  breaks = λ is. puts.skips around.break_at k (λ from. absurd (omega (arith, from, low, r.break_before is))) ∙ r.breaks is;
  continues = λ is. puts.skips around.continue_at k (λ from. absurd (omega (arith, from, low, r.continue_before is))) ∙ r.continues is;
  break_before = λ is. omega (arith, r.break_before is, le);
  continue_before = λ is. omega (arith, r.continue_before is, le);
}

pub reaches_later : {c : Spot} {exits : Exits} {inside : Bool} {around : Around c exits inside} {t t' : ℕ} {k : List Line} → t ≤ t' → Reaches around t k →
    Reaches around t' k
reaches_later le r = record {
  breaks = r.breaks;
  continues = r.continues;
  break_before = λ is. omega (arith, r.break_before is, le);
  continue_before = λ is. omega (arith, r.continue_before is, le);
}

-- A label of a number from t on is found among all lines where it is found among these.
pub record Leads (c : Spot) (t : ℕ) (k : List Line) : Type 0 where
  pub all : (name : ℕ) → 4 * t ≤ name → found name c.whole ≡ found name k

pub leads_on : {c : Spot} {t t' lo hi : ℕ} {F : List Line → List Line} {k : List Line} → t ≤ t' → hi ≤ 4 * t' → Puts lo hi F → Leads c t (F k) → Leads c t' k
leads_on {c} {t} {t'} {lo} {hi} {F} {k} le high puts l =
    record { all = λ name from. l.all name (omega (arith, from, le)) ∙ puts.skips name k (λ _. omega (arith, from, high)) }

-- ---- what a statement comes to

-- Where control leaves, the machine stands before the lines of the way out, behind which stands the label to which they lead.
abbrev pub Gone : (c : Spot) → {exits : Exits} → {inside : Bool} → Around c exits inside → (lo hi : ℕ) → Temps → World → Exit → State → M → Type 0
Gone c {exits} {inside} around lo hi temps world (Broke by) b m =
    (k : List Line) × (found around.break_at k ≡ Some around.break_to) × (inside ≡ true) × At c (exits.breaks k) lo hi temps world (λ now. Unit {0}) b.world m
Gone c {exits} {inside} around lo hi temps world (Continued by) b m =
    (k : List Line) × (found around.continue_at k ≡ Some around.continue_to) × (inside ≡ true)
    × At c (exits.continues k) lo hi temps world (λ now. Unit {0}) b.world m
Gone c {exits} around lo hi temps world (Returned by) b m = (k : List Line) × At c (exits.returns k) lo hi temps world (λ now. Unit {0}) b.world m
Gone c around lo hi temps world (Raised exception by) b m = ⊥

abbrev pub Left : (c : Spot) → {exits : Exits} → {inside : Bool} → Around c exits inside → (k : List Line) → (lo hi : ℕ) → Temps → World → Outcome (Unit {0}) →
    State →
    M → Type 0
Left c around k lo hi temps world (On done) b m = At c k lo hi temps world (λ now. Unit {0}) b.world m
Left c around k lo hi temps world (Out way) b m = Gone c around lo hi temps world way b m

-- ---- seen from further out, and from before

at_out : (c : Spot) (k : List Line) (lo hi lo' hi' : ℕ) (temps now : Temps) (world mid new : World) (m : M) → lo ≤ lo' → hi' ≤ hi → Kept lo hi temps now →
    Since c.level world mid → At c k lo' hi' now mid (λ now. Unit {0}) new m → At c k lo hi temps world (λ now. Unit {0}) new m
at_out c k lo hi lo' hi' temps now world mid new m low high kept since g = record {
  now = g.now;
  is = g.is;
  has = tt;
  kept = kept_then kept (kept_wide low high g.kept);
  since = since_then since g.since;
}

module _ (c : Spot) {exits : Exits} {inside : Bool} (around : Around c exits inside) where
  gone_out : (lo hi lo' hi' : ℕ) (temps now : Temps) (world mid : World) (way : Exit) (b : State) (m : M) → lo ≤ lo' → hi' ≤ hi → Kept lo hi temps now →
      Since c.level world mid → Gone c around lo' hi' now mid way b m → Gone c around lo hi temps world way b m
  gone_out lo hi lo' hi' temps now world mid (Broke by) b m low high kept since g =
      (g.0, g.1, g.2, at_out c _ lo hi lo' hi' temps now world mid b.world m low high kept since g.3)
  gone_out lo hi lo' hi' temps now world mid (Continued by) b m low high kept since g =
      (g.0, g.1, g.2, at_out c _ lo hi lo' hi' temps now world mid b.world m low high kept since g.3)
  gone_out lo hi lo' hi' temps now world mid (Returned by) b m low high kept since g =
      (g.0, at_out c _ lo hi lo' hi' temps now world mid b.world m low high kept since g.1)
  gone_out lo hi lo' hi' temps now world mid (Raised exception by) b m low high kept since g = absurd g

  left_out : (k : List Line) (lo hi lo' hi' : ℕ) (temps now : Temps) (world mid : World) (flow : Outcome (Unit {0})) (b : State) (m : M) → lo ≤ lo' → hi' ≤ hi →
      Kept lo hi temps now → Since c.level world mid → Left c around k lo' hi' now mid flow b m → Left c around k lo hi temps world flow b m
  left_out k lo hi lo' hi' temps now world mid (On done) b m low high kept since g =
      at_out c k lo hi lo' hi' temps now world mid b.world m low high kept since g
  left_out k lo hi lo' hi' temps now world mid (Out way) b m low high kept since g = gone_out lo hi lo' hi' temps now world mid way b m low high kept since g

module _ (c : Spot) {exits : Exits} {inside : Bool} (around : Around c exits inside) where
  pub further_left : {k : List Line} {lo hi lo' hi' : ℕ} {temps now : Temps} {world mid : World} {p q : ℕ} {m : M} {a : Meter Event}
      {r : Res State (Outcome (Unit {0}))} → lo ≤ lo' → hi' ≤ hi → Kept lo hi temps now → Since c.level world mid →
      Runs c.fixed (Left c around k lo' hi' now mid) p q m a r → Runs c.fixed (Left c around k lo hi temps world) p q m a r
  further_left {k} {lo} {hi} {lo'} {hi'} {temps} {now} {world} {mid} low high kept since f =
      weaker c f (λ flow b m g. left_out c around k lo hi lo' hi' temps now world mid flow b m low high kept since g)

  -- ---- one statement after another

  pub sequel : {k k1 : List Line} {lo hi lo' hi' : ℕ} {temps now : Temps} {world mid : World} {have p q Q : ℕ} {m : M} {a : Meter Event}
      {r : Res State (Outcome (Unit {0}))} (go : Unit {0} → Does (Unit {0})) (p' : ℕ) → p ≤ have → p + p' ≤ have + q → Q ≤ p' → lo ≤ lo' → hi' ≤ hi →
      Kept lo hi temps now → Since c.level world mid → Runs c.fixed (Left c around k1 lo' hi' now mid) p q m a r →
      ((b : State) (last : Temps) → Kept lo' hi' now last → Since c.level mid b.world →
      Runs c.fixed (Left c around k lo hi temps world) p' Q (there c k1 last b.world) b.meter (go tt b)) →
      Runs c.fixed (Left c around k lo hi temps world) have Q m a (then_do r (onward go))
  sequel {k} {k1} {lo} {hi} {lo'} {hi'} {temps} {now} {world} {mid} {have} {p} {q} {Q} {m} {a} {r} go p' less le enough low high kept since f more =
      follows_on p' (onward go) less le f (λ flow b m1 falls g. on flow b m1 g)
    where
      on : (flow : Outcome (Unit {0})) (b : State) (m1 : M) → Left c around k1 lo' hi' now mid flow b m1 →
          Runs c.fixed (Left c around k lo hi temps world) p' Q m1 b.meter (onward go flow b)
      on (On done) b m1 g =
          subst (λ m. Runs c.fixed (Left c around k lo hi temps world) p' Q m b.meter (go tt b)) (sym g.is) (more b g.now g.kept g.since)
      on (Out way) b m1 g = lands (Out way) b enough (gone_out c around lo hi lo' hi' temps now world mid way b m1 low high kept since g)

  -- the same ways out, with the machine brought on where it isn't left
  pub rejoin : {k k1 : List Line} {lo hi lo' hi' : ℕ} {temps now : Temps} {world mid : World} {have p q Q : ℕ} {m : M} {a : Meter Event}
      {r : Res State (Outcome (Unit {0}))} (p' : ℕ) → p ≤ have → p + p' ≤ have + q → Q ≤ p' → lo ≤ lo' → hi' ≤ hi → Kept lo hi temps now →
      Since c.level world mid →
      Runs c.fixed (Left c around k1 lo' hi' now mid) p q m a r →
      ((b : State) (last : Temps) → Kept lo hi temps last → Since c.level world b.world →
      Runs c.fixed (Left c around k lo hi temps world) p' Q (there c k1 last b.world) b.meter (Got (On tt) b)) →
      Runs c.fixed (Left c around k lo hi temps world) have Q m a r
  rejoin {k} {k1} {lo} {hi} {lo'} {hi'} {temps} {now} {world} {mid} {have} {p} {q} {Q} {m} {a} {r} p' less le enough low high kept since f more =
      subst (λ r. Runs c.fixed (Left c around k lo hi temps world) have Q m a r) (as_it_was r)
      (sequel (λ u s. Got (On tt) s) p' less le enough low high kept since f
      (λ b last kept2 since2. more b last (kept_then kept (kept_wide low high kept2)) (since_then since since2)))
    where
      as_it_was : (r : Res State (Outcome (Unit {0}))) → then_do r (onward (λ u s. Got (On tt) s)) ≡ r
      as_it_was (Got (On done) s) = refl
      as_it_was (Got (Out way) s) = refl
      as_it_was (Over status live s) = refl
      as_it_was (Going s) = refl
      as_it_was (IsWrong s) = refl

  -- behind its last line
  pub stays : {k : List Line} {lo hi : ℕ} {temps : Temps} {world : World} {p q : ℕ} (b : State) (now : Temps) → q ≤ p → Kept lo hi temps now →
      Since c.level world b.world → Runs c.fixed (Left c around k lo hi temps world) p q (there c k now b.world) b.meter (Got (On tt) b)
  stays b now le kept since = lands (On tt) b le (record { now = now; is = refl; has = tt; kept = kept; since = since })

  -- ---- what ends behind it, and on each way out

  module _ {lines : List Line → List Line} {ready : World → Type 0} (act : Outcome (Unit {0}) → Does (Unit {0})) (follows : EndsFollow c ready lines act)
      {k : List Line} {lo hi : ℕ} {temps : Temps} {world : World} (goes_on : (new : World) → Since c.level world new → ready new) (q : ℕ) where
    -- from in front of the lines to those behind
    through : (flow : Outcome (Unit {0})) (behind_it : List Line) (b : State) (m : M) →
        At c (lines behind_it) lo hi temps world (λ now. Unit {0}) b.world m →
        ((d : State) (last : Temps) → At c behind_it lo hi temps world (λ now. Unit {0}) d.world (there c behind_it last d.world) →
        Left c around k lo hi temps world flow d (there c behind_it last d.world)) →
        Runs c.fixed (Left c around k lo hi temps world) q q m b.meter ((then_act (act flow) (as_before flow)) b)
    through flow behind_it b m g h =
        subst (λ m. Runs c.fixed (Left c around k lo hi temps world) q q m b.meter ((then_act (act flow) (as_before flow)) b)) (sym g.is)
        (after q (omega arith) (omega arith) (follows flow behind_it g.now b (goes_on b.world g.since))
        (λ u d last same kept since.
        lands flow d (omega arith) (h d last (record {
          now = last;
          is = refl;
          has = tt;
          kept = subst (λ now. Kept lo hi temps now) (sym same) g.kept;
          since = since_then g.since since;
        }))))

    left_ended : (puts : (lo hi : ℕ) → Puts lo hi lines) (flow : Outcome (Unit {0})) (b : State) (m : M) →
        Left c (around_end around lines puts) (lines k) lo hi temps world flow b m →
        Runs c.fixed (Left c around k lo hi temps world) q q m b.meter ((then_act (act flow) (as_before flow)) b)
    left_ended puts (On done) b m g = through (On done) k b m g (λ d last g. g)
    left_ended puts (Out (Broke by)) b m g = through (Out (Broke by)) (exits.breaks g.0) b m g.3 (λ d last at. (g.0, g.1, g.2, at))
    left_ended puts (Out (Continued by)) b m g = through (Out (Continued by)) (exits.continues g.0) b m g.3 (λ d last at. (g.0, g.1, g.2, at))
    left_ended puts (Out (Returned by)) b m g = through (Out (Returned by)) (exits.returns g.0) b m g.1 (λ d last at. (g.0, at))
    left_ended puts (Out (Raised exception by)) b m g = absurd g

  pub leaves_ended : {lines : List Line → List Line} {ready : World → Type 0} (puts : (lo hi : ℕ) → Puts lo hi lines)
      (act : Outcome (Unit {0}) → Does (Unit {0})) → EndsFollow c ready lines act →
      {k : List Line} {lo hi : ℕ} {temps : Temps} {world : World} {p q : ℕ} {m : M} {a : Meter Event} {r : Res State (Outcome (Unit {0}))} →
      ((new : World) → Since c.level world new → ready new) →
      Runs c.fixed (Left c (around_end around lines puts) (lines k) lo hi temps world) p q m a r →
      Runs c.fixed (Left c around k lo hi temps world) p q m a (then_do r (λ flow. then_act (act flow) (as_before flow)))
  leaves_ended {lines} {ready} puts act follows {k} {lo} {hi} {temps} {world} {p} {q} {m} {a} {r} goes_on f =
      follows_on q (λ flow. then_act (act flow) (as_before flow)) (omega arith) (omega arith) f
      (λ flow b m1 falls g. left_ended act follows goes_on q puts flow b m1 g)

  -- the scope of a place, which is open where it begins
  pub scope_leaves : (place : Declared) → IsListed c.fixed.program.types place.of → (last : ℕ) →
      {k : List Line} {lo hi : ℕ} {temps : Temps} {world : World} {p q : ℕ} {m : M} → IsOpen c place world → (rest : Does (Unit {0})) (s : State) →
      Runs c.fixed (Left c (around_end around (place_end c.fixed.program.types c.fixed.program.facts place) (puts_place_end c place))
      (place_end c.fixed.program.types c.fixed.program.facts place k) lo hi temps world) p q m s.meter (rest s) →
      Runs c.fixed (Left c around k lo hi temps world) p q m s.meter (scoped (here_of c) place last rest s)
  scope_leaves place listed last opened rest s f =
      leaves_ended (puts_place_end c place) _ (place_ends_follow c place listed (λ flow. exit_of last flow))
      (λ new since. still_holds c.level place.number (omega arith) since opened) f

  -- a group of temporaries
  pub group_leaves : (waits : List Wait) → AreListedWaits c waits →
      {k : List Line} {lo hi : ℕ} {temps : Temps} {world : World} {p q : ℕ} {m : M} (part : Does (Unit {0})) (s : State) →
      Runs c.fixed (Left c (around_end around (end_lines c.fixed.program.types waits) (puts_ends c waits)) (end_lines c.fixed.program.types waits k)
      lo hi temps world) p q m s.meter (part s) →
      Runs c.fixed (Left c around k lo hi temps world) p q m s.meter (ended (here_of c) waits part s)
  group_leaves [] listed {k} {lo} {hi} {temps} {world} part s f = weaker c f (λ flow b m g. none_around flow b m g)
    where
      none_around : (flow : Outcome (Unit {0})) (b : State) (m : M) → Left c (around_end around (λ k. k) (λ lo hi. puts_none)) k lo hi temps world flow b m →
          Left c around k lo hi temps world flow b m
      none_around (On done) b m g = g
      none_around (Out (Broke by)) b m g = g
      none_around (Out (Continued by)) b m g = g
      none_around (Out (Returned by)) b m g = g
      none_around (Out (Raised exception by)) b m g = g
  group_leaves (w ∷ ws) listed part s f = leaves_ended (puts_ends c (w ∷ ws)) _ (waits_end_follow c (w ∷ ws) listed) (λ new since. tt) f

-- ---- loops

-- some lines lead behind a loop, where its end stands
pub record ExitsAt (c : Spot) (ending : List Line) (lo hi : ℕ) (temps : Temps) (world new : World) (meter : Meter Event) (m : M) : Type 0 where
  pub now : Temps
  pub walks : Walks c.fixed 2 0 m meter (there c ending now new) meter
  pub kept : Kept lo hi temps now
  pub since : Since c.level world new

-- behind the last turn
abbrev pub Looped : (c : Spot) → {exits : Exits} → {inside : Bool} → Around c exits inside → (ending : List Line) → (lo hi : ℕ) → Temps → World →
    Outcome (Unit {0}) → State → M → Type 0
Looped c around ending lo hi temps world (On done) b m = ExitsAt c ending lo hi temps world b.world b.meter m
Looped c around ending lo hi temps world (Out (Broke by)) b m = ⊥
Looped c around ending lo hi temps world (Out (Continued by)) b m = ⊥
Looped c around ending lo hi temps world (Out (Returned by)) b m = Gone c around lo hi temps world (Returned by) b m
Looped c around ending lo hi temps world (Out (Raised exception by)) b m = ⊥

-- what is around the body of a loop
abbrev pub inner : {c : Spot} → {exits : Exits} → {inside : Bool} → Around c exits inside → (t : ℕ) → (ending next : List Line) → Around c
    (in_loop exits t) true
inner {exits = exits} around t ending next = record {
  break_at = label End t;
  continue_at = label Next t;
  break_to = ending;
  continue_to = next;
  puts = puts_in_loop exits t around.puts;
}

pub spend_then : {A B : Type 0} (u : ℕ) (s : State) (r : ℕ → Res State A) (f : A → State → Res State B) → then_do (spend u s r) f ≡ spend u s
    (λ n. then_do (r n) f)
spend_then zero s r f = refl
spend_then (suc n) s r f = refl

module _ (c : Spot) {exits : Exits} {inside : Bool} (around : Around c exits inside) (t : ℕ) (ending next_lines : List Line) (lo hi : ℕ) (temps : Temps)
    (world : World) {X : Type 0} (Inv : X → State → M → Type 0) where
  pub runs_loop : (q : ℕ) (turn : X → Does (Turn X (Unit {0}))) →
      ((x : X) (b : State) (m : M) → Inv x b m →
      Runs c.fixed (Turned Inv (Looped c around ending lo hi temps world) b.meter.units) q q m b.meter (then_do (turn x b) turn_of)) →
      (x : X) (b : State) (m : M) → Inv x b m → Runs c.fixed (Looped c around ending lo hi temps world) q q m b.meter (loop turn x b)
  runs_loop q turn h x b m i =
      follows_turns Inv (Looped c around ending lo hi temps world) q (λ x s. then_do (turn x s) turn_of) h (suc b.meter.units) x b m (omega arith) i

  -- behind the body of a turn: at the next one, or behind the loop
  pub body_ends : {lo' hi' : ℕ} {now : Temps} {mid : World} {p q Q : ℕ} {m : M} {a : Meter Event} {r : Res State (Outcome (Unit {0}))} (q' : ℕ) (x : X) (u : ℕ)
      → Q ≤ q →
      q' + 1 ≤ q →
      a.units < u → lo ≤ lo' → hi' ≤ hi → Kept lo hi temps now → Since c.level world mid →
      Runs c.fixed (Left c (inner around t ending next_lines) next_lines lo' hi' now mid) p q m a r →
      ((b : State) (last : Temps) → b.meter.units < u → Kept lo' hi' now last → Since c.level mid b.world →
      Runs c.fixed (Turned Inv (Looped c around ending lo hi temps world) u) q' Q (there c next_lines last b.world) b.meter (Got (Again x) b)) →
      Runs c.fixed (Turned Inv (Looped c around ending lo hi temps world) u) p Q m a (then_do (then_do r (next x)) turn_of)
  body_ends {lo'} {hi'} {now} {mid} {p} {q} {Q} {m} {a} {r} q' x u enough jump less low high kept since f more =
      subst (λ r. Runs c.fixed (Turned Inv (Looped c around ending lo hi temps world) u) p Q m a r) (sym (do_assoc r (next x) turn_of))
      (follows_on q (λ flow s. then_do (next x flow s) turn_of) (omega arith) (omega arith) f
      (λ flow b m1 falls g. on flow b m1 (omega (arith, falls, less)) g))
    where
      on : (flow : Outcome (Unit {0})) (b : State) (m1 : M) → b.meter.units < u → Left c
          (inner around t ending next_lines) next_lines lo' hi' now mid flow b m1 →
          Runs c.fixed (Turned Inv (Looped c around ending lo hi temps world) u) q Q m1 b.meter (then_do (next x flow b) turn_of)
      on (On done) b m1 few g =
          subst (λ m. Runs c.fixed (Turned Inv (Looped c around ending lo hi temps world) u) q Q m b.meter (Got (Again x) b)) (sym g.is)
          (spares q' Q (omega (arith, jump)) (omega (arith, jump)) (more b g.now few g.kept g.since))
      on (Out (Continued by)) b m1 few g =
          subst (λ m. Runs c.fixed (Turned Inv (Looped c around ending lo hi temps world) u) q Q m b.meter (Got (Again x) b)) (sym g.3.is)
          (leaps c q' (label Next t) 1 (omega (arith, jump)) refl g.1 (more b g.3.now few g.3.kept g.3.since))
      on (Out (Broke by)) b m1 few g =
          let w : Walks c.fixed 2 0 m1 b.meter (there c ending g.3.now b.world) b.meter =
          subst (λ m. Walks c.fixed 2 0 m b.meter (there c ending g.3.now b.world) b.meter) (sym g.3.is)
          (walks_spared (omega arith) (walks_leap c (label End t) 1 b.meter refl g.1)) in
          lands (Leave (On tt)) b enough
          (record { now = g.3.now; walks = w; kept = kept_then kept (kept_wide low high g.3.kept); since = since_then since g.3.since })
      on (Out (Returned by)) b m1 few g =
          lands (Leave (Out (Returned by))) b enough (gone_out c around lo hi lo' hi' temps now world mid (Returned by) b m1 low high kept since g)
      on (Out (Raised exception by)) b m1 few g = absurd g

  -- behind the loop
  pub loop_ends : {k : List Line} {p q Q : ℕ} {m : M} {a : Meter Event} {r : Res State (Outcome (Unit {0}))} → Q + 3 ≤ q →
      Runs c.fixed (Looped c around ending lo hi temps world) p q m a r →
      ((b : State) (last : Temps) → Kept lo hi temps last → Since c.level world b.world →
      Runs c.fixed (Left c around k lo hi temps world) (suc Q) Q (there c ending last b.world) b.meter (Got (On tt) b)) →
      Runs c.fixed (Left c around k lo hi temps world) p Q m a r
  loop_ends {k} {p} {q} {Q} {m} {a} {r} le f more =
      subst (λ r. Runs c.fixed (Left c around k lo hi temps world) p Q m a r) (as_it_was r)
      (follows_on q (λ flow s. Got flow s) (omega arith) (omega arith) f (λ flow b m1 falls g. on flow b m1 g))
    where
      as_it_was : (r : Res State (Outcome (Unit {0}))) → then_do r (λ flow s. Got flow s) ≡ r
      as_it_was (Got flow s) = refl
      as_it_was (Over status live s) = refl
      as_it_was (Going s) = refl
      as_it_was (IsWrong s) = refl

      on : (flow : Outcome (Unit {0})) (b : State) (m1 : M) → Looped c around ending lo hi temps world flow b m1 →
          Runs c.fixed (Left c around k lo hi temps world) q Q m1 b.meter (Got flow b)
      on (On done) b m1 g = behind (omega (arith, le)) g.walks (more b g.now g.kept g.since)
      on (Out (Broke by)) b m1 g = absurd g
      on (Out (Continued by)) b m1 g = absurd g
      on (Out (Returned by)) b m1 g = lands (Out (Returned by)) b (omega (arith, le)) g
      on (Out (Raised exception by)) b m1 g = absurd g
